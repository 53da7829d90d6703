use Rattle.std.proofs.Common.{◌∙◌, not, List, [], ap, sym, subst, arith}
use Rattle.myi_keycache.specs.Caching.{pages_of}
use Rattle.myi_btree.specs.Events.{Event}
use Rattle.myi_check.specs.Walks.{ShowsApart, events_in}
use Rattle.myi_check.proofs.WalkLaws.{none_met, none_written, ok_so, file_meets}
use Rattle.myi_check.proofs.walks.walk_tree.Goals as goal

pub returns-then-is_none-clause-shows : goal.returns-then-is_none-clause-shows
returns-then-is_none-clause-shows g c = λ m held x is.
    subst (λ (t : List Event). ShowsApart c.args.key c.args.pairs.now c.args.busy.now c.new.result t []) (sym (none_met c.args.key.place x (c.is_none.ensures ∙ ap not c.if-is_none.true))) (c.new.ensures.shows c.args.key c.args.pairs.now c.args.busy.now [])

pub follow-requires-clause-written : goal.follow-requires-clause-written
follow-requires-clause-written g c κs lives = none_written (pages_of c.in_ok-cache.cache) c.in_ok-cache.ensures.pages

pub returns-clause-shows : goal.returns-clause-shows
returns-clause-shows g c = ok_so c.follow.result _ _ c.follow.ensures.shows (λ walk shows m held x is.
    let made = c.in_ok-cache.ensures in
    shows m held (made.current m) (events_in c.args.key.place x)
    (file_meets c.args.key.place c.in_ok-cache.cache m x (omega (arith, c.requires.placed.least)) made.pages (ap m made.name ∙ is)))
