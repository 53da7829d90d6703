-- Why a call was refused.
use Rattle.std.proofs.Common.{◌≡◌, Option, Result, Err, IfErr, refl}
use Rattle.myi_btree.specs.declared.fault.TreeFault.{TreeFault}
use Rattle.myi_btree.specs.declared.fault.TreeFault.TheVariants as tree
use Rattle.myi_btree.specs.Faults.{DamagedAt}
use Rattle.myi_tablestate.specs.Keyed.{Holder}
use Rattle.myi_keyedrows.specs.declared.fault.KeyedFault.{KeyedFault}
use Rattle.myi_keyedrows.specs.Faults.{tree_fault}
use Rattle.myi_keyedrows.specs.Checking.{IsHeldBy}

pub if_err : {T : Type 0} (r : Result T KeyedFault) (x : KeyedFault) (P : KeyedFault → Type 0) → r ≡ Err x → P x → IfErr r P
if_err r x P e h = rw e h

-- a search of trees that stand names no row that has a key
pub held_tree : (h : Option Holder) (e : TreeFault) → DamagedAt (λ at. ⊥) e → IsHeldBy h (tree_fault e)
held_tree h (tree.Damaged at) never = never at refl
held_tree h tree.File never = tt
held_tree h tree.Memory never = tt
