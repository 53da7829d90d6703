-- What is told before and after a call, and why it was refused.
use Rattle.std.proofs.Common.{◌≡◌, Option, Result, Err, IfErr}
use Rattle.myi_base.specs.Holding.{Holding, Told}
use Rattle.myi_btree.specs.declared.fault.TreeFault.{TreeFault}

pub if_err : {T : Type 0} (r : Result T TreeFault) (x : TreeFault) (P : TreeFault → Type 0) → r ≡ Err x → P x → IfErr r P
if_err r x P e h = rw e h

pub told_more : (told next : Option Holding) (P Q : Holding → Holding → Type 0) → ((m n : Holding) → P m n → Q m n) → Told told next P → Told told next Q
told_more told next P Q f t = record {
  told = λ m held. let then = t.told m held in (then.0, then.1, f m then.0 then.2);
  untold = t.untold;
}
