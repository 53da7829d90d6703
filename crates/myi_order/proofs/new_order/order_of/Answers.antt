use Rattle.std.proofs.Common.{◌∙◌, List, length, ap, refl, arith}
use Rattle.std.proofs.lemmas.List.{get_or_default}
use Rattle.myi_keylist.specs.declared.pair.Pair.{Pair}
use Rattle.myi_order.proofs.ReadLaws.{lists_read}
use Rattle.myi_order.proofs.NewOrderLaws.{ordered_list}
use Rattle.myi_order.proofs.new_order.order_of.Goals as goal

pub swap_remove-order-requires : goal.swap_remove-order-requires
swap_remove-order-requires g c =
    let read = c.in_ok-read.ensures.read in
    let long = ap (λ (ls : List (List Pair)). length ls) (c.into_vec-lists.ensures ∙ c.into_lists.ensures) ∙ lists_read c.args.opened.now.defs read.0 c.in_ok-read.read read.1 in
    omega (arith, long, c.requires.key.0, c.requires.key.1)

pub returns-clause-order : goal.returns-clause-order
returns-clause-order g c m held x here =
    let d = c.args.opened.now.defs in
    let read = c.in_ok-read.ensures.read in
    let lists = c.into_vec-lists.ensures ∙ c.into_lists.ensures in
    let long = ap (λ (ls : List (List Pair)). length ls) lists ∙ lists_read d read.0 c.in_ok-read.read read.1 in
    ordered_list d c.args.key _ read.0 x c.in_ok-read.read c.into_vec-lists.result.items c.swap_remove-order.result c.sort.new.self refl c.requires.key.0 c.requires.key.1 read.1 (read.2 m held x here) lists
    (c.swap_remove-order.ensures.value ∙ get_or_default c.into_vec-lists.result.items _ _ _ (omega (arith, long, c.requires.key.0, c.requires.key.1))) c.sort.ensures
