-- Why a change is refused, by the call that was.
use Rattle.std.proofs.Common.{◌≡◌, ◌≢◌, ℕ, Bool, true, false, List, [], length, Option, ap, subst, inl, inr}
use Rattle.std.specs.Prelude.{unwrap_or}
use Rattle.myi_base.specs.Holding.{Holding, bytes_of, IfTold, Told, OthersStay}
use Rattle.myi_defs.specs.declared.types.RowFormat.{RowFormat}
use Rattle.myi_defs.specs.declared.types.RowFormat.TheVariants.{Static, Dynamic}
use Rattle.myi_defs.specs.declared.types.Defs.{Defs}
use Rattle.myi_pack.specs.Packed.{Values}
use Rattle.myi_pack.specs.Spelling.{spelling}
use Rattle.myi_keylist.specs.declared.pair.Pair.{Pair}
use Rattle.myi_dellist.specs.FreeList.{ListState}
use Rattle.myi_dellist.specs.Chains.{IsRowIn}
use Rattle.myi_dellist.specs.Placing.{areas_of, own_areas}
use Rattle.myi_dellist.specs.Rows.{most_end}
use Rattle.myi_dellist.specs.Putting.{PutLong, LongBy}
use Rattle.myi_dellist.specs.Replacing.{OwnLong}
use Rattle.myi_btree.specs.declared.fault.TreeFault.{TreeFault}
use Rattle.myi_btree.specs.declared.fault.TreeFault.TheVariants as tree
use Rattle.myi_slots.specs.SlotBytes.{is_row}
use Rattle.myi_slots.specs.SlotFile.{SlotFile, Never}
use Rattle.myi_slots.specs.SlotFile as slots
use Rattle.myi_slots.specs.declared.fault.DataFault.{DataFault}
use Rattle.myi_slots.specs.declared.fault.DataFault.TheVariants as read
use Rattle.myi_blocks.specs.BlockFile.{end_limit, list_in}
use Rattle.myi_rows.specs.Refusals.{FindsNone, FindsNoneBy, LacksRoomBy, LacksOther, LacksOtherBy}
use Rattle.myi_rowtrees.specs.RowLists.{row_pairs}
use Rattle.myi_rowtrees.specs.Duplicates.{MayRepeat}
use Rattle.myi_keyedrows.specs.declared.fault.KeyedFault.{KeyedFault}
use Rattle.myi_keyedrows.specs.declared.fault.KeyedFault.TheVariants as fault
use Rattle.myi_keyedrows.specs.Faults.{data_fault, tree_fault}
use Rattle.myi_keyedrows.specs.Refusals.{ByCause, LacksPlace}

-- ---- by the call that was refused

pub tree_cause : (N H : ℕ → Type 0) (P : Type 0) (e : TreeFault) → ByCause N H P (tree_fault e)
tree_cause N H P (tree.Damaged at) = tt
tree_cause N H P tree.File = tt
tree_cause N H P tree.Memory = tt

pub data_cause : (N M H : ℕ → Type 0) (P Q : Type 0) (B : ℕ → Type 0) (e : DataFault) → ((p : ℕ) → N p → M p) → (P → Q) → slots.ByCause N P B e → ByCause M H Q (data_fault e)
data_cause N M H P Q B (read.NoRow p) none full by = none p by
data_cause N M H P Q B read.Full none full by = full by
data_cause N M H P Q B (read.Damaged p) none full by = tt
data_cause N M H P Q B read.File none full by = tt
data_cause N M H P Q B read.Memory none full by = tt

-- another row alone was found
pub held_cause : (G M H : ℕ → Type 0) (Q : Type 0) (f : KeyedFault) → ((key : ℕ) → G key → H key) → ByCause Never G ⊥ f → ByCause M H Q f
held_cause G M H Q (fault.NoRow p) more by = absurd by
held_cause G M H Q (fault.Duplicate key p) more by = more key by
held_cause G M H Q fault.Full more by = absurd by
held_cause G M H Q (fault.Damaged p) more by = tt
held_cause G M H Q fault.File more by = tt
held_cause G M H Q fault.Memory more by = tt

-- of the pairs of a row
pub pairs_cause : (M : ℕ → Type 0) (Q : Type 0) (d : Defs) (pairs : List Pair) (values : Values) (pointer : ℕ) (f : KeyedFault) → pairs ≡ row_pairs d values pointer
    → ByCause Never (λ key. (v : Values) (p : ℕ) → pairs ≡ row_pairs d v p → MayRepeat d v key) ⊥ f → ByCause M (MayRepeat d values) Q f
pairs_cause M Q d pairs values pointer f is by = held_cause (λ key. (v : Values) (p : ℕ) → pairs ≡ row_pairs d v p → MayRepeat d v key) M (MayRepeat d values) Q f (λ key each. each values pointer is) by

-- no row alone was found
pub none_cause : (M H : ℕ → Type 0) (Q : Type 0) (f : KeyedFault) → ByCause M Never ⊥ f → ByCause M H Q f
none_cause M H Q (fault.NoRow p) by = by
none_cause M H Q (fault.Duplicate key p) by = absurd by
none_cause M H Q fault.Full by = absurd by
none_cause M H Q (fault.Damaged p) by = tt
none_cause M H Q fault.File by = tt
none_cause M H Q fault.Memory by = tt

-- ---- where the index file alone was changed before

if_back : (P : List ℕ → Type 0) (name other : List ℕ) (told then : Option Holding) → name ≢ other → Told told then (OthersStay other) → IfTold then (λ n. P (bytes_of name n)) → IfTold told (λ m. P (bytes_of name m))
if_back P name other told then apart stays if = λ m held.
    let n = stays.told m held in
    subst P (ap (λ (o : Option (List ℕ)). unwrap_or o []) (n.2 name apart)) (if n.0 n.1)

pub place_back : (b : Bool) (f : SlotFile) (values : Values) (other : List ℕ) (told then : Option Holding) → f.name ≢ other → Told told then (OthersStay other) → LacksPlace b f values then → LacksPlace b f values told
place_back true f values other told then apart stays lacks = lacks
place_back false f values other told then apart stays lacks = by f.defs.format lacks
  where
    by : (r : RowFormat) → LacksRoomBy r f values then → LacksRoomBy r f values told
    by Static lacks = lacks
    by Dynamic (inl past) = inl past
    by Dynamic (inr room) = inr (if_back (λ (x : List ℕ). PutLong x f.counts.dellink f.counts.length (end_limit f.defs) (length (spelling f.defs values))) f.name other told then apart stays room)

pub none_back : (f : SlotFile) (places : Option (List ℕ)) (at : ℕ) (other : List ℕ) (told then : Option Holding) → f.name ≢ other → Told told then (OthersStay other) → FindsNone f places at then → FindsNone f places at told
none_back f places at other told then apart stays none = by f.defs.format none
  where
    by : (r : RowFormat) → FindsNoneBy r f places at then → FindsNoneBy r f places at told
    by Static none = if_back (λ (x : List ℕ). is_row f.defs x at ≡ false) f.name other told then apart stays none
    by Dynamic none = none

own_back : (l : ListState) (at len : ℕ) (m n : Holding) → bytes_of l.name n ≡ bytes_of l.name m → OwnLong l at len n → OwnLong l at len m
own_back l at len m n same long = record {
  own = long.own;
  row_is = subst (λ (x : List ℕ). IsRowIn x at long.own) same long.row_is;
  some = long.some;
  long = subst (λ (x : List ℕ). LongBy (own_areas len (areas_of long.own)) x l.head l.end (most_end l) len) same long.long;
}

pub other_back : (f : SlotFile) (places : Option (List ℕ)) (at : ℕ) (values : Values) (other : List ℕ) (told then : Option Holding) → f.name ≢ other → Told told then (OthersStay other) → LacksOther f places at values then → LacksOther f places at values told
other_back f places at values other told then apart stays lacks = by f.defs.format lacks
  where
    by : (r : RowFormat) → LacksOtherBy r f places at values then → LacksOtherBy r f places at values told
    by Static lacks = lacks
    by Dynamic (noted, inl past) = (noted, inl past)
    by Dynamic (noted, inr room) = (
      noted,
      inr (λ m held.
          let n = stays.told m held in
          own_back (list_in f) at (length (spelling f.defs values)) m n.0 (ap (λ (o : Option (List ℕ)). unwrap_or o []) (n.2 f.name apart)) (room n.0 n.1)),
    )
