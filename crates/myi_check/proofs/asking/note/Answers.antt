use Rattle.std.proofs.Common.{◌∷◌, subst}
use Rattle.myi_btree.specs.declared.event.Event as declared
use Rattle.myi_btree.specs.Events.{page}
use Rattle.myi_btree.specs.Cursors.{event_of}
use Rattle.myi_check.specs.Asked.{AsksApart, OfKey}
use Rattle.myi_check.proofs.AskedWalks.{page_asked}
use Rattle.myi_check.proofs.asking.note.Goals as goal

pub returns-in_ok-note_page-in-Page-clause-asks : goal.returns-in_ok-note_page-in-Page-clause-asks
returns-in_ok-note_page-in-Page-clause-asks g c = λ good all left a.
    let Of = OfKey (g.F.Files.holds c.args.files.now) c.args.key.now in
    let tree = c.args.key.now.tree in
    let was = subst (λ (e : declared.Event). AsksApart Of tree c.args.busy.now c.args.walk.now all (event_of e ∷ left)) c.in-Page.is a in
    page_asked Of tree c.args.busy.now c.args.walk.now c.note_page.new.self all left (page c.in-Page.at ∷ left) (c.in_ok-note_page-in-Page.ensures.met good) (λ pairs. c.in_ok-note_page-in-Page.ensures.shows pairs all left) was
