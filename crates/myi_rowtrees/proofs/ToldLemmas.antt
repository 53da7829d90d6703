-- What is told before and after calls, and why a call was refused.
use Rattle.std.proofs.Common.{◌≡◌, ℕ, List, Option, Result, Err, IfErr, subst, ◌∙◌}
use Rattle.myi_base.specs.Holding.{Holding, Told, OthersStay}
use Rattle.myi_btree.specs.declared.fault.TreeFault.{TreeFault}

pub if_err : {T : Type 0} (r : Result T TreeFault) (x : TreeFault) (P : TreeFault → Type 0) → r ≡ Err x → P x → IfErr r P
if_err r x P e h = rw e h

pub others_follow : (told then next : Option Holding) (name mid : List ℕ) → mid ≡ name → Told told then (OthersStay name) → Told then next (OthersStay mid) → Told told next (OthersStay name)
others_follow told then next name mid same one two = record {
  told = λ m held.
      let a = one.told m held in
      let b = two.told a.0 a.1 in
      (b.0, b.1, λ other apart. subst (λ (n : List ℕ). OthersStay n a.0 b.0) same b.2 other apart ∙ a.2 other apart);
  untold = λ none. two.untold (one.untold none);
}
