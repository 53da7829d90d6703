-- A row that is ready, before and after it is put.
use Rattle.std.specs.Prelude.{◌≡◌, ◌<◌, ℕ, Bool, List, length, Some, cond}
use Rattle.std.specs.List.{list_any}
use Rattle.indexmap.specs.IndexMap.{IndexMap, get, IsUnchanged}
use Rattle.myi_tail.specs.Rows.{row_words}
use Rattle.myi_tail.specs.Seats.{Appending, free_words}
use Rattle.myi_inserter.specs.declared.inserter.TableInserter.{TableInserter}
use Rattle.myi_inserter.specs.declared.unique_key.UniqueKey.{UniqueKey}
use Rattle.myi_inserter.specs.declared.fault.InsertFault.{InsertFault}
use Rattle.myi_inserter.specs.declared.fault.InsertFault.TheVariants as fault
use Rattle.myi_inserter.specs.UniqueKeys.{is_same}

-- one of these is the key
abbrev pub has_key : UniqueKey → List UniqueKey → Bool
has_key q keys = list_any (λ x. is_same x q) keys

-- each of these keys is found at a position, and the others as before
abbrev pub FindsMore : {S : Type 0} → IndexMap UniqueKey ℕ S → IndexMap UniqueKey ℕ S → List UniqueKey → ℕ → Type 0
FindsMore old new keys at = (q : UniqueKey) → get is_same new q ≡ cond (has_key q keys) (Some at) (get is_same old q)

-- so many bytes need more words than are free, or memory is wanting
abbrev pub LacksWords : Appending → List ℕ → InsertFault → Type 0
LacksWords a packed (fault.Duplicate key at) = ⊥
LacksWords a packed fault.Full = ⊥
LacksWords a packed (fault.NoRoom need free) = (need ≡ length (row_words packed)) × (free ≡ free_words a) × (free < need)
LacksWords a packed (fault.Damaged at) = ⊥
LacksWords a packed fault.File = ⊥
LacksWords a packed fault.Memory = Unit {0}

-- the object on the files and the number of changes stay
pub record IsOfBase (old new : TableInserter) : Type 0 where
  pub defs : new.defs ≡ old.defs
  pub rows : new.rows ≡ old.rows
  pub number : new.number ≡ old.number

-- nothing is put
pub record IsNotPut (old new : TableInserter) : Type 0 where
  pub appender : new.appender ≡ old.appender
  pub end : new.end ≡ old.end
  pub found : IsUnchanged old.put new.put
