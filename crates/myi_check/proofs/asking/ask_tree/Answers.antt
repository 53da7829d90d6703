use Rattle.std.proofs.Common.{◌∙◌, not, List, [], ap, sym, subst, arith}
use Rattle.std.proofs.lemmas.Result.{IfOk-weaker}
use Rattle.myi_keycache.specs.Caching.{pages_of}
use Rattle.myi_btree.specs.Events.{Event}
use Rattle.myi_check.specs.Walks.{events_in}
use Rattle.myi_check.specs.Asked.{AsksApart, OfKey}
use Rattle.myi_check.proofs.WalkLaws.{none_met, none_written, file_meets}
use Rattle.myi_check.proofs.AskedWalks.{first_asked}
use Rattle.myi_check.proofs.asking.ask_tree.Goals as goal

pub returns-then-is_none-clause-asks : goal.returns-then-is_none-clause-asks
returns-then-is_none-clause-asks g c = λ good m held x is.
    let tree = c.args.key.now.tree in
    let Of = OfKey (g.F.Files.holds c.args.files.now) c.args.key.now in
    subst (λ (t : List Event). AsksApart Of tree c.args.busy.now c.new.result t []) (sym (none_met tree.place x (c.is_none.ensures ∙ ap not c.if-is_none.true)))
    (first_asked Of tree c.args.busy.now c.new.result [] c.new.ensures.none (λ pairs. c.new.ensures.shows tree pairs c.args.busy.now []))

pub follow_asking-requires-clause-written : goal.follow_asking-requires-clause-written
follow_asking-requires-clause-written g c κs lives = none_written (pages_of c.in_ok-cache.cache) c.in_ok-cache.ensures.pages

pub returns-clause-asks : goal.returns-clause-asks
returns-clause-asks g c = IfOk-weaker c.follow_asking.result _ _ (λ walk asks good m held x is.
    let made = c.in_ok-cache.ensures in
    let place = c.args.key.now.tree.place in
    asks good m held (made.current m) (events_in place x) (file_meets place c.in_ok-cache.cache m x (omega (arith, c.requires.placed.least)) made.pages (ap m made.name ∙ is))) c.follow_asking.ensures.asks
