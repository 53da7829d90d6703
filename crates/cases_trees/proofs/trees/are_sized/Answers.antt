use Rattle.std.proofs.Common.{◌≡◌, [], List, ℕ, get_or, ap, sym, subst, ◌∙◌, arith}
use Rattle.std.proofs.lemmas.List.Elements.{All-more, All-same, recursion_from_All}
use Rattle.std.proofs.lemmas.List.{take_all}
use Rattle.myi_keypage.specs.declared.entry.Entry.{Entry}
use Rattle.myi_keypage.specs.Page.{entry_with}
use Rattle.myi_keylist.specs.declared.pair.Pair.{Pair}
use Rattle.myi_keylist.specs.PairOrder.{pair_with}
use Rattle.myi_btree.specs.Sizes.{IsSized}
use Rattle.myi_btree.specs.Nodes.{entry_of}
use Rattle.cases_trees.proofs.trees.are_sized.Goals as goal

pub loop-i-preserved : goal.loop-i-preserved
loop-i-preserved c =
    let d : Pair = pair_with [] 0 in
    let p : Pair = get_or c.args.pairs.now c.loop-i.i d in
    let e : entry_with c.code.result.now c.row.result ≡ entry_of p = ap (λ (t : List ℕ). entry_with t c.row.result) (c.code.ensures.value d) ∙ ap (λ (t : ℕ). entry_with (entry_of p).key t) (c.row.ensures d) in
    All-more (λ (p : Pair). IsSized c.args.place (entry_of p)) c.args.pairs.now c.loop-i.i d (omega arith) c.loop-i.invariant (subst (λ (t : Entry). IsSized c.args.place t) e (c.is_sized.ensures c.if-not-is_sized.false))

pub returns : goal.returns
returns c =
    let all = All-same (λ (p : Pair). IsSized c.args.place (entry_of p)) c.args.pairs.now _ (sym (take_all c.loop-i.i c.args.pairs.now (omega arith))) c.loop-i.invariant in
    λ e. recursion_from_All (λ (p : Pair). IsSized c.args.place (entry_of p)) c.args.pairs.now all
