-- The rows of a table and the trees of its keys as one object: when it stands for a table, and what a call does to that.
use Rattle.std.specs.Prelude.{◌≡◌, ◌≢◌, ℕ, List, length, Option, Some, Result, Ok, Err}
use Rattle.std.specs.List.{AllByRecursion}
use Rattle.myi_base.specs.Holding.{Holding, IfTold, Told}
use Rattle.myi_defs.specs.declared.types.Defs.{Defs}
use Rattle.myi_defs.specs.Sound.{IsSound}
use Rattle.myi_btree.specs.declared.place.Place.{Place}
use Rattle.myi_state.specs.State.{TableState}
use Rattle.myi_state.specs.Changes.{Change}
use Rattle.myi_blocks.specs.Places.{IsNotedFileOf}
use Rattle.myi_insertion.specs.Rooms.{IsWhole}
use Rattle.myi_insertion.specs.CachedChanges.{SparesLent}
use Rattle.myi_keytrees.specs.Standing.{Stand}
use Rattle.myi_tablestate.specs.Keyed.{IsTable, KeyedRefusal, lacks, duplicate, too_long, keyed_step}
use Rattle.myi_rowtrees.specs.RowLists.{lists_of}
use Rattle.myi_keyedrows.specs.declared.keyed_rows.KeyedRows.{KeyedRows}
use Rattle.myi_keyedrows.specs.declared.fault.KeyedFault.{KeyedFault}
use Rattle.myi_keyedrows.specs.declared.fault.KeyedFault.TheVariants as fault

abbrev pub defs_of : KeyedRows → Defs
defs_of k = k.rows.file.defs

-- for each key there is a tree, whose pages have row pointers of the table's width; the end of the room and its free places are
-- multiples of 1024; the two files have different names
pub record IsFit (k : KeyedRows) : Type 0 where
  pub sound : IsSound (defs_of k)
  pub each : length k.trees.places ≡ length (defs_of k).keys
  pub pointers : AllByRecursion (λ (p : Place). p.rec_ref ≡ (defs_of k).rec_ref) k.trees.places
  pub whole : IsWhole k.trees.room
  pub apart : k.rows.file.name ≢ k.trees.cache.name

-- Where the files hold this, the object stands for a table: the data file has its rows, and the tree of each key their pairs, on pages
-- that have, with the room, just the bytes of `own`.
pub record HoldTable (k : KeyedRows) (own : ℕ → ℕ) (s : TableState) (m : Holding) : Type 0 where
  pub table : IsTable (defs_of k) s
  pub rows : IsNotedFileOf k.rows s m
  pub trees : Stand k.trees m own (lists_of (defs_of k) s.rows)

-- After a call the object stands for this table, on pages and room with the bytes that they had; of ranges of the index file that have
-- none of these bytes the same is lent.
pub record HoldThen (old : KeyedRows) (m : Holding) (own : ℕ → ℕ) (next : Option Holding) (new : KeyedRows) (s : TableState) : Type 0 where
  pub now : Holding
  pub held : next ≡ Some now
  pub table : HoldTable new own s now
  pub lent : SparesLent own old.trees.cache m new.trees.cache now

-- where files tell what they hold, the object stands for a table
abbrev pub IsKept : Option Holding → KeyedRows → Type 0
IsKept told k = IfTold told (λ m. (own : ℕ → ℕ) × (s : TableState) × HoldTable k own s m)

-- Where files tell what they hold, and the object stands for a table, this holds of what the files hold, the bytes of pages and room,
-- and the table.
abbrev pub IfHold : Option Holding → KeyedRows → (Holding → (ℕ → ℕ) → TableState → Type 0) → Type 0
IfHold told k P = IfTold told (λ m. (own : ℕ → ℕ) (s : TableState) → HoldTable k own s m → P m own s)

-- the object stands for each table that it stood for
abbrev pub StillHold : Option Holding → Option Holding → KeyedRows → KeyedRows → Type 0
StillHold told next old new = IfHold told old (λ m own s. HoldThen old m own next new s)

-- of each table that the object stood for a step was made: the answer is its position, and the object stands for its state
pub record IsMade (c : Change) (old : KeyedRows) (m : Holding) (own : ℕ → ℕ) (s : TableState) (next : Option Holding) (new : KeyedRows) (at : ℕ) : Type 0 where
  pub reply : (keyed_step (defs_of old) s c).reply ≡ Ok at
  pub state : HoldThen old m own next new (keyed_step (defs_of old) s c).state

abbrev pub Makes : Change → Option Holding → Option Holding → KeyedRows → KeyedRows → ℕ → Type 0
Makes c told next old new at = IfHold told old (λ m own s. IsMade c old m own s next new at)

-- A refusal is the reply of a step. Where the object stands for a table no page and no block is damaged. Of a call that was cut off
-- nothing is said here.
abbrev pub IsReplyOf : Result ℕ KeyedRefusal → KeyedFault → Type 0
IsReplyOf reply (fault.NoRow at) = reply ≡ Err (lacks at)
IsReplyOf reply (fault.Duplicate key at) = reply ≡ Err (duplicate key at)
IsReplyOf reply fault.Full = reply ≡ Err too_long
IsReplyOf reply (fault.Damaged at) = ⊥
IsReplyOf reply fault.File = Unit {0}
IsReplyOf reply fault.Memory = Unit {0}

abbrev pub Refuses : Change → Option Holding → KeyedRows → KeyedFault → Type 0
Refuses c told old f = IfHold told old (λ m own s. IsReplyOf (keyed_step (defs_of old) s c).reply f)

-- the fault is the reply of a step, and this holds
abbrev pub IfReply : KeyedFault → Type 0 → Type 0
IfReply (fault.NoRow at) P = P
IfReply (fault.Duplicate key at) P = P
IfReply fault.Full P = P
IfReply (fault.Damaged at) P = Unit {0}
IfReply fault.File P = Unit {0}
IfReply fault.Memory P = Unit {0}

-- the numbers of the data file, the roots of the trees and the room are as before
pub record IsLeft (old new : KeyedRows) : Type 0 where
  pub file : new.rows.file ≡ old.rows.file
  pub places : new.trees.places ≡ old.trees.places
  pub room : new.trees.room ≡ old.trees.room

-- it is the same table: its definitions, and the names of its two files
pub record IsSameTable (old new : KeyedRows) : Type 0 where
  pub defs : defs_of new ≡ defs_of old
  pub file : new.rows.file.name ≡ old.rows.file.name
  pub index : new.trees.cache.name ≡ old.trees.cache.name

-- the files of other names than these two hold what they held
abbrev pub OthersThanBoth : List ℕ → List ℕ → Holding → Holding → Type 0
OthersThanBoth one two m n = (q : List ℕ) → q ≢ one → q ≢ two → n q ≡ m q

-- of the files at most the two of the table hold something else than before
abbrev pub ChangesItsOwn : Option Holding → Option Holding → KeyedRows → Type 0
ChangesItsOwn told next k = Told told next (OthersThanBoth k.rows.file.name k.trees.cache.name)
