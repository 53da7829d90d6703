-- A table that is loaded, as one object: when it stands for a state, and what a call does to that.
use Rattle.std.specs.Prelude.{◌≡◌, ◌≢◌, ℕ, Bool, List, Option, Some, None, Result, Ok, Err}
use Rattle.myi_base.specs.Holding.{Holding, IfTold, Told}
use Rattle.myi_defs.specs.declared.types.Defs.{Defs}
use Rattle.myi_header.specs.declared.state.State.{State}
use Rattle.myi_keycache.specs.declared.setup.CacheSetup.{CacheSetup}
use Rattle.myi_keycache.specs.declared.setup.Counters.{Counters}
use Rattle.myi_state.specs.State.{TableState}
use Rattle.myi_state.specs.Changes.{Change}
use Rattle.myi_tablestate.specs.Keyed.{KeyedRefusal, lacks, duplicate, too_long, keyed_step}
use Rattle.myi_opening.specs.Names.{rows_file, index_file}
use Rattle.myi_keyedrows.specs.declared.keyed_rows.KeyedRows.{KeyedRows}
use Rattle.myi_keyedrows.specs.KeyedRows.{defs_of}
use Rattle.myi_keyedrows.specs.Files.{HoldFiles}
use Rattle.myi_table.specs.declared.fault.Cause.{Cause}
use Rattle.myi_table.specs.declared.fault.ChangeFault.{ChangeFault}
use Rattle.myi_table.specs.declared.fault.ChangeFault.TheVariants as fault

-- a table that is loaded: its name, the setup of its key cache, the state that the header had then, how many bytes of the
-- index file belong to no page and are not free, its rows and trees, whether it was changed since, why it is broken, and what is counted
-- beside the calls on its own key cache
pub record OpenTable : Type 0 where
  pub name : List ℕ
  pub setup : CacheSetup
  pub header : State
  pub lost : ℕ
  pub rows : KeyedRows
  pub changed : Bool
  pub broken : Option Cause
  pub added : Counters

abbrev pub defs_in : OpenTable → Defs
defs_in t = defs_of t.rows

-- ---- the table and what the files hold

-- Where the files hold this, the table stands for a state, and its two files can be closed so that they do; and no change was cut
-- off.
pub record HoldState (t : OpenTable) (s : TableState) (m : Holding) : Type 0 where
  pub whole : t.broken ≡ None
  pub own : ℕ → ℕ
  pub files : HoldFiles t.rows t.lost own s m

-- where files tell what they hold, the table stands for this state
abbrev pub HoldsThen : Option Holding → OpenTable → TableState → Type 0
HoldsThen told t s = (m : Holding) × (told ≡ Some m) × HoldState t s m

-- Where files tell what they hold, a table that is not broken stands for a state.
abbrev pub IsKept : Option Holding → OpenTable → Type 0
IsKept told t = t.broken ≡ None → IfTold told (λ m. (s : TableState) × HoldState t s m)

-- Where files tell what they hold, and the table stands for a state, this holds of what the files hold and the state.
abbrev pub IfHolds : Option Holding → OpenTable → (Holding → TableState → Type 0) → Type 0
IfHolds told t P = IfTold told (λ m. (s : TableState) → HoldState t s m → P m s)

-- the table stands for each state that it stood for
abbrev pub StillHolds : Option Holding → Option Holding → OpenTable → OpenTable → Type 0
StillHolds told next old new = IfHolds told old (λ m s. HoldsThen next new s)

-- ---- changes

-- of each state that the table stood for a step was made: the answer is its position, and the table stands for its state
pub record IsMade (c : Change) (old : OpenTable) (s : TableState) (next : Option Holding) (new : OpenTable) (at : ℕ) : Type 0 where
  pub reply : (keyed_step (defs_in old) s c).reply ≡ Ok at
  pub state : HoldsThen next new (keyed_step (defs_in old) s c).state

abbrev pub Makes : Change → Option Holding → Option Holding → OpenTable → OpenTable → ℕ → Type 0
Makes c told next old new at = IfHolds told old (λ m s. IsMade c old s next new at)

-- A refusal is the reply of a step. A table that stands for a state is neither broken nor damaged. Of a call that was cut off nothing
-- is said here.
abbrev pub IsReplyOf : Result ℕ KeyedRefusal → ChangeFault → Type 0
IsReplyOf reply (fault.Broken cause) = ⊥
IsReplyOf reply (fault.NoRow at) = reply ≡ Err (lacks at)
IsReplyOf reply (fault.Duplicate key at) = reply ≡ Err (duplicate key at)
IsReplyOf reply fault.Full = reply ≡ Err too_long
IsReplyOf reply (fault.Damaged at) = ⊥
IsReplyOf reply fault.File = Unit {0}
IsReplyOf reply fault.Memory = Unit {0}

abbrev pub Refuses : Change → Option Holding → OpenTable → ChangeFault → Type 0
Refuses c told old f = IfHolds told old (λ m s. IsReplyOf (keyed_step (defs_in old) s c).reply f)

-- the fault is the reply of a step, and this holds
abbrev pub IfReply : ChangeFault → Type 0 → Type 0
IfReply (fault.Broken cause) P = Unit {0}
IfReply (fault.NoRow at) P = P
IfReply (fault.Duplicate key at) P = P
IfReply fault.Full P = P
IfReply (fault.Damaged at) P = Unit {0}
IfReply fault.File P = Unit {0}
IfReply fault.Memory P = Unit {0}

-- the table is broken for this cause, and nothing was done
abbrev pub IsBroken : OpenTable → OpenTable → Option Holding → Option Holding → ChangeFault → Type 0
IsBroken old new told next (fault.Broken cause) = (old.broken ≡ Some cause) × (new ≡ old) × (next ≡ told)
IsBroken old new told next (fault.NoRow at) = old.broken ≡ None
IsBroken old new told next (fault.Duplicate key at) = old.broken ≡ None
IsBroken old new told next fault.Full = old.broken ≡ None
IsBroken old new told next (fault.Damaged at) = old.broken ≡ None
IsBroken old new told next fault.File = old.broken ≡ None
IsBroken old new told next fault.Memory = old.broken ≡ None

-- what a change leaves of a table: its name and setup, the header that was read, its definitions, and what is counted beside
pub record IsSame (old new : OpenTable) : Type 0 where
  pub name : new.name ≡ old.name
  pub setup : new.setup ≡ old.setup
  pub header : new.header ≡ old.header
  pub lost : new.lost ≡ old.lost
  pub defs : defs_in new ≡ defs_in old
  pub added : new.added ≡ old.added

-- files of other names than the two of the table hold what they held
abbrev pub KeepsOthers : List ℕ → Holding → Holding → Type 0
KeepsOthers name m n = (q : List ℕ) → q ≢ rows_file name → q ≢ index_file name → n q ≡ m q

-- the data file of a table holds what it held
abbrev pub KeepsRows : List ℕ → Holding → Holding → Type 0
KeepsRows name m n = n (rows_file name) ≡ m (rows_file name)

abbrev pub ChangesItsOwn : Option Holding → Option Holding → OpenTable → Type 0
ChangesItsOwn told next t = Told told next (KeepsOthers t.name)
