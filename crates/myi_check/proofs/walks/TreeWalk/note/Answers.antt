use Rattle.std.proofs.Common.{◌∷◌, refl, subst}
use Rattle.myi_btree.specs.declared.event.Event as declared
use Rattle.myi_btree.specs.Cursors.{event_of}
use Rattle.myi_check.specs.Walks.{ShowsApart}
use Rattle.myi_check.proofs.ShowsLaws.{apart_pair}
use Rattle.myi_check.proofs.walks.TreeWalk.note.Goals as goal

pub returns-in_ok-note_page-in-Page : goal.returns-in_ok-note_page-in-Page
returns-in_ok-note_page-in-Page c = λ all left s.
    c.in_ok-note_page-in-Page.ensures.shows c.args.pairs.now all left (subst (λ (e : declared.Event). ShowsApart c.args.key c.args.pairs.now c.args.busy.now c.args.self.now all (event_of e ∷ left)) c.in-Page.is s)

pub returns-in-Pair : goal.returns-in-Pair
returns-in-Pair c = λ all left s.
    apart_pair c.args.key c.args.pairs.now c.args.busy.now c.args.self.now (record c.args.self.now { met = c.note.new.self }) c.in-Pair.pair c.in-Pair.at all left refl refl refl c.note.ensures.kept c.note.ensures.noted
    (subst (λ (e : declared.Event). ShowsApart c.args.key c.args.pairs.now c.args.busy.now c.args.self.now all (event_of e ∷ left)) c.in-Pair.is s)

pub returns-in-Bad : goal.returns-in-Bad
returns-in-Bad c = λ all left s.
    c.cut.ensures.shows c.args.key c.args.pairs.now c.args.busy.now all left (subst (λ (e : declared.Event). ShowsApart c.args.key c.args.pairs.now c.args.busy.now c.args.self.now all (event_of e ∷ left)) c.in-Bad.is s)
