use Rattle.std.proofs.Common.{◌∙◌, not, List, [], ap, sym, subst, arith}
use Rattle.myi_keycache.specs.Caching.{pages_of}
use Rattle.myi_btree.specs.Events.{Event}
use Rattle.myi_check.specs.Walks.{events_in}
use Rattle.myi_check.proofs.CallerLemmas.{none_met, none_written, file_meets}
use Rattle.myi_order.specs.PrefixCounts.{CountsTo}
use Rattle.myi_order.proofs.PrefixCountLaws.{counts_first, on_ok_more}
use Rattle.myi_order.proofs.tree_counts.count_rooted.Goals as goal

pub returns-then-is_none-clause-counts : goal.returns-then-is_none-clause-counts
returns-then-is_none-clause-counts g c = λ m held x is.
    subst (λ (t : List Event). CountsTo c.args.count.now t []) (sym (none_met c.args.place x (c.is_none.ensures ∙ ap not c.if-is_none.true))) (counts_first c.args.count.now c.requires.none [])

pub count_pairs-requires-clause-written : goal.count_pairs-requires-clause-written
count_pairs-requires-clause-written g c κs within = none_written (pages_of c.in_ok-cache.cache) c.in_ok-cache.ensures.pages

pub returns-clause-counts : goal.returns-clause-counts
returns-clause-counts g c = on_ok_more c.count_pairs.result _ _ (λ counts m held x is.
    let made = c.in_ok-cache.ensures in
    counts m held (made.current m) c.requires.none (events_in c.args.place x)
    (file_meets c.args.place c.in_ok-cache.cache m x (omega (arith, c.requires.placed.least)) made.pages (ap m made.name ∙ is))) c.count_pairs.ensures.counts
