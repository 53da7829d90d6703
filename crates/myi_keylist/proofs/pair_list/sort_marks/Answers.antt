use Rattle.std.proofs.Common.{ap, arith, rules}
use Rattle.std.proofs.lemmas.List.Sorted.{ranks_by}
use Rattle.std.proofs.lemmas.Fn.{always_returns_same}
use Rattle.std.specs.Ordering.{is_lt}
use Rattle.myi_keylist.specs.declared.pair_list.Mark.{Mark}
use Rattle.myi_keylist.specs.PairLists.{mark_cmp}
use Rattle.myi_keylist.proofs.MarkLaws.{mark_total, pairs_sorted}
use Rattle.myi_keylist.proofs.pair_list.sort_marks.Goals as goal

pub returns-clause-marks : goal.returns-clause-marks
returns-clause-marks c =
    let codes = c.args.codes.now in
    let up = c.sort_unstable_by.ensures.sorted (λ x y. is_lt (mark_cmp codes x y)) (ranks_by (mark_total codes) (λ (m : Mark). m)) (always_returns_same _ _ _ (λ a r f' k. let h = k.met in (search rules, ap (λ x. record { 0 = x }) h.1))) in
    (pairs_sorted codes (λ i. omega (arith, c.type_inv.codes i)) c.args.marks.now.items c.sort_unstable_by.new.self.items c.requires c.sort_unstable_by.ensures.permutation up).0

pub returns-clause-sorted : goal.returns-clause-sorted
returns-clause-sorted c =
    let codes = c.args.codes.now in
    let up = c.sort_unstable_by.ensures.sorted (λ x y. is_lt (mark_cmp codes x y)) (ranks_by (mark_total codes) (λ (m : Mark). m)) (always_returns_same _ _ _ (λ a r f' k. let h = k.met in (search rules, ap (λ x. record { 0 = x }) h.1))) in
    (pairs_sorted codes (λ i. omega (arith, c.type_inv.codes i)) c.args.marks.now.items c.sort_unstable_by.new.self.items c.requires c.sort_unstable_by.ensures.permutation up).1
