use Rattle.std.proofs.Common.{◌∙◌, ◌+◌, ap, sym, subst, get_or, length}
use Rattle.myi_defs.specs.declared.types.Key.{Key}
use Rattle.myi_check.specs.Keys.{rooted_place}
use Rattle.myi_order.specs.PrefixCounts.{tree_pairs, CountsTree}
use Rattle.myi_order.proofs.PartsLaws.{segments_here, same_long, parts_is}
use Rattle.myi_order.proofs.key_parts.parts_of_tree.Goals as goal

pub returns-clause-counts : goal.returns-clause-counts
returns-clause-counts g c = λ m held x is list.
    let d = c.args.defs.now in
    let i = c.args.at in
    let key = c.index-as_slice-at.result in
    let here = c.index-as_slice-at.is ∙ ap (λ ks. get_or ks i key) c.as_slice.ensures in
    let segments = c.as_slice-segments.ensures ∙ ap (λ (k : Key). k.segments) (sym c.index-as_slice-at.is) in
    let all = c.as_slice-segments.result.now in
    let are = segments_here d.keys i key all c.requires.inside here segments in
    let place = rooted_place d (i + 1) c.args.root in
    let pairs = tree_pairs place x in
    let counts = subst (λ p. CountsTree p (length all) x c.in_ok-per.per.items) c.place_of-place.ensures (c.in_ok-per.ensures.counts m held x is) in
    parts_is d i pairs all c.new.result are (c.new.ensures ∙ counts list.order (same_long d i pairs all are list))
