use Rattle.std.proofs.Common.{◌≡◌, ◌∙◌, length, ap, sym, subst}
use Rattle.myi_keylist.specs.Repeats.{keys_of}
use Rattle.myi_check.specs.Walks.{events_in}
use Rattle.myi_order.specs.Prefixes.{per_each}
use Rattle.myi_order.specs.PrefixCounts.{HaveSegments, tree_pairs}
use Rattle.myi_order.proofs.PrefixCountLaws.{counts_all}
use Rattle.myi_order.proofs.tree_counts.count_tree.Goals as goal

pub returns-clause-counts : goal.returns-clause-counts
returns-clause-counts g c = λ m held x is order segments.
    let count = c.count_rooted.new.count in
    let pairs = tree_pairs c.args.place x in
    let long : length count.ended.items ≡ c.args.segments = c.count_rooted.ensures.segments ∙ c.in_ok-count.ensures.segments in
    c.into_per.ensures.per pairs (counts_all count (events_in c.args.place x) (c.in_ok-count_rooted.ensures.counts m held x is)) order (subst (λ n. HaveSegments n pairs) (sym long) segments)
    ∙ ap (λ n. per_each n (keys_of pairs)) long
