use Rattle.std.proofs.Common.{rules, ap, subst, sym, ◌∙◌, arith}
use Rattle.std.specs.Prelude.{option_map}
use Rattle.std.specs.Map.Iter.{deref_pair}
use Rattle.std.proofs.lemmas.List.Sorted.{IsNonDecreasingBy-from_sort_by_key}
use Rattle.std.specs.List.Sorted.{IsPermutation}
use Rattle.std.specs.Global.{Vec}
use Rattle.myi_keycache.specs.declared.blocks.PageName.{PageName}
use Rattle.myi_keycache.proofs.NameLemmas.{found_more, found_skip, found_all}
use Rattle.myi_keycache.proofs.blocks.unwritten_in.Goals.{then-block+in_ok-push, else-block}
use Rattle.myi_keycache.proofs.blocks.unwritten_in.Goals as goal

pub loop-index-preserved : goal.loop-index-preserved
loop-index-preserved c =
    let got = sym c.get_index.ensures.entry ∙ ap (option_map deref_pair) c.unwrap.ensures in
    elim c.if-block.branch [
      | then-block+in_ok-push w ↦ found_more c.args.pages.now.entries c.loop-index.found.items c.if-block.found.items c.loop-index.index _ got w.if-block.true (ap (λ (v : Vec PageName). v.items) w.found-is ∙ w.in_ok-push.ensures.items) c.loop-index.invariant
      | else-block w ↦ found_skip c.args.pages.now.entries c.loop-index.found.items c.if-block.found.items c.loop-index.index _ got w.if-block.false (ap (λ (v : Vec PageName). v.items) w.found-is) c.loop-index.invariant
    ]

pub returns-clause-all : goal.returns-clause-all
returns-clause-all c =
    let all = found_all c.args.pages.now.entries c.loop-index.found.items c.loop-index.index (omega (arith, c.loop-index-test.false, c.len-index-end.ensures.len)) c.loop-index.invariant in
    subst (λ l. IsPermutation l c.sort_unstable_by_key.new.self.items) all c.sort_unstable_by_key.ensures.permutation

pub returns-clause-sorted : goal.returns-clause-sorted
returns-clause-sorted c = IsNonDecreasingBy-from_sort_by_key (λ (n : PageName). n.at) c.sort_unstable_by_key.new.self.items c.sort_unstable_by_key.ensures.sorted (λ a r q k. search rules)
