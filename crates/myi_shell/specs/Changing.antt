-- A statement that changes a table, or a list: the reply is that of a step, and the table stands for the state of the step then.
use Rattle.std.specs.Prelude.{◌≡◌, ℕ, Bool, true, false, List, [], ◌∷◌, length, Option, Some, None, Result, Ok, Err, if◌then◌else◌}
use Rattle.myi_base.specs.Holding.{Holding, IfTold}
use Rattle.myi_pack.specs.Packed.{Values}
use Rattle.myi_state.specs.State.{TableState}
use Rattle.myi_state.specs.Changes.{Change, insert, insert_at_end}
use Rattle.myi_tablestate.specs.Keyed.{KeyedRefusal, lacks, duplicate, too_long, keyed_step}
use Rattle.myi_table.specs.declared.fault.ChangeFault.{ChangeFault}
use Rattle.myi_table.specs.declared.fault.ChangeFault.TheVariants as change
use Rattle.myi_table.specs.Table.{OpenTable, defs_in, IfHolds, HoldsThen}
use Rattle.myi_script.specs.declared.types.Act.{Act}
use Rattle.myi_script.specs.declared.types.Act.TheVariants as act
use Rattle.myi_history.specs.declared.answers.StepAnswer.TheVariants as step
use Rattle.myi_history.specs.Answers.{LineAnswer, answer_on}
use Rattle.myi_history.specs.History.{Taking, change_of, accepted_of, stepped_by}
use Rattle.myi_history.specs.Text.{change_said}
use Rattle.myi_history.specs.RoundTexts.{answer_of}
use Rattle.myi_merge.specs.declared.fault.MergeInsertFault.{MergeInsertFault}
use Rattle.myi_merge.specs.declared.fault.MergeInsertFault.TheVariants as insertion
use Rattle.myi_shell.specs.declared.target.Target.{Target}
use Rattle.myi_shell.specs.declared.changes.Changed.{Changed}
use Rattle.myi_shell.specs.Targets as on
use Rattle.myi_shell.specs.declared.changes.Reply.{Reply}
use Rattle.myi_shell.specs.declared.changes.Reply.TheVariants as reply
use Rattle.myi_shell.specs.declared.fault.ShellFault.{ShellFault}
use Rattle.myi_shell.specs.declared.fault.ShellFault.TheVariants as fault

-- an insert; one of a round of kind Together goes to the end
abbrev pub insert_of : Bool → Values → Change
insert_of together row = if together then insert_at_end row else insert row

-- the reply of a step
abbrev pub reply_of : Reply → Result ℕ KeyedRefusal
reply_of (reply.Made at) = Ok at
reply_of (reply.NoRow at) = Err (lacks at)
reply_of (reply.Duplicate key at) = Err (duplicate key at)
reply_of reply.Full = Err too_long

-- how many changes a step with this reply is
abbrev pub count_of : Reply → ℕ
count_of (reply.Made at) = 1
count_of (reply.NoRow at) = 0
count_of (reply.Duplicate key at) = 0
count_of reply.Full = 0

-- how many changes a statement made, if it asked for one
abbrev pub count_made : Option Reply → ℕ
count_made None = 0
count_made (Some r) = count_of r

-- a step was made of a state that the table stood for
pub record IsStep (c : Change) (old : OpenTable) (s : TableState) (next : Option Holding) (new : OpenTable) (r : Reply) : Type 0 where
  pub reply : (keyed_step (defs_in old) s c).reply ≡ reply_of r
  pub state : HoldsThen next new (keyed_step (defs_in old) s c).state

-- where files tell what they hold, a step was made of each state that the table stood for
abbrev pub Steps : Change → Option Holding → Option Holding → OpenTable → OpenTable → Reply → Type 0
Steps c told next old new r = IfHolds told old (λ m s. IsStep c old s next new r)

-- of a state that the table stood for, the step that was asked for was made, or none was and none was asked for
abbrev pub IsChanged : OpenTable → TableState → Option Change → Option Holding → OpenTable → Option Reply → Type 0
IsChanged old s None next new None = HoldsThen next new s
IsChanged old s None next new (Some r) = ⊥
IsChanged old s (Some c) next new None = ⊥
IsChanged old s (Some c) next new (Some r) = IsStep c old s next new r

-- where files tell what they hold and the table stands for a state, it is not damaged
abbrev pub NeverDamaged : Option Holding → OpenTable → ShellFault → Type 0
NeverDamaged told t (fault.Damaged at) = IfHolds told t (λ m s. ⊥)
NeverDamaged told t fault.File = Unit {0}
NeverDamaged told t fault.Sink = ⊥
NeverDamaged told t fault.Memory = Unit {0}

-- where files tell what they hold, nothing is damaged
abbrev pub NothingDamaged : Option Holding → ShellFault → Type 0
NothingDamaged told (fault.Damaged at) = IfTold told (λ m. ⊥)
NothingDamaged told fault.File = Unit {0}
NothingDamaged told fault.Sink = ⊥
NothingDamaged told fault.Memory = Unit {0}

-- ---- on a table or a list

-- what is noted of a change, on line n
abbrev pub changed_lines : ℕ → Option Changed → List LineAnswer
changed_lines n None = []
changed_lines n (Some c) = answer_on n (answer_of c.answer) ∷ []

-- how many changes it is
abbrev pub count_by : Bool → ℕ
count_by made = if made then 1 else 0

abbrev pub count_changed : Option Changed → ℕ
count_changed None = 0
count_changed (Some c) = count_by c.made

-- of what the target stood for, what the statement asks for was made: that is said and counted, and the target stands for the
-- state behind it
pub record IsChangedBy (k : Taking) (old : Target) (s : on.Standing) (together : Bool) (a : Option Act) (next : Option Holding) (new : Target) (r : Option Changed) : Type 0 where
  pub said : (n : ℕ) → changed_lines n r ≡ change_said k a (on.defs_in old) n s.table (change_of k together a)
  pub count : count_changed r ≡ length (accepted_of (on.defs_in old) s.table (change_of k together a))
  pub state : on.HoldsThen next new (on.moved s (stepped_by (on.defs_in old) s.table (change_of k together a)))

-- a row was inserted in a list, or is refused
abbrev pub IsInsertedBy : Target → on.Standing → Values → Option Holding → Target → Changed → Type 0
IsInsertedBy old s row next new c = (together : Bool) → IsChangedBy (on.taking old) old s together (Some (act.Insert row)) next new (Some c)

-- a row that was inserted in a list, or why it was not, as what is noted; what cuts it off as a fault
abbrev pub list_refused : ChangeFault → Result Changed ShellFault
list_refused (change.Broken by) = Err fault.Memory
list_refused (change.NoRow at) = Ok (record { answer = step.NoRow at; made = false })
list_refused (change.Duplicate key at) = Ok (record { answer = step.Duplicate key at; made = false })
list_refused change.Full = Ok (record { answer = step.Full; made = false })
list_refused (change.Damaged at) = Err (fault.Damaged at)
list_refused change.File = Err fault.File
list_refused change.Memory = Err fault.Memory

abbrev pub list_replied : Result (ℕ × ℕ) MergeInsertFault → Result Changed ShellFault
list_replied (Ok place) = Ok (record { answer = step.MadeIn place.0 place.1; made = true })
list_replied (Err insertion.NoInsertMethod) = Ok (record { answer = step.NoInsertMethod; made = false })
list_replied (Err (insertion.Change f)) = list_refused f

-- the same of a table
abbrev pub table_changed : Reply → Changed
table_changed (reply.Made at) = record { answer = step.Made at; made = true }
table_changed (reply.NoRow at) = record { answer = step.NoRow at; made = false }
table_changed (reply.Duplicate key at) = record { answer = step.Duplicate key at; made = false }
table_changed reply.Full = record { answer = step.Full; made = false }

-- ---- how the answers of the table are told

-- a change that was made, or its refusal, as a reply; what cuts it off as a fault
abbrev pub replied : Result ℕ ChangeFault → Result Reply ShellFault
replied (Ok at) = Ok (reply.Made at)
replied (Err (change.Broken by)) = Err fault.Memory
replied (Err (change.NoRow at)) = Ok (reply.NoRow at)
replied (Err (change.Duplicate key at)) = Ok (reply.Duplicate key at)
replied (Err change.Full) = Ok reply.Full
replied (Err (change.Damaged at)) = Err (fault.Damaged at)
replied (Err change.File) = Err fault.File
replied (Err change.Memory) = Err fault.Memory

-- a change at a position
abbrev pub at_place : {U : Type 0} → ℕ → Result U ChangeFault → Result ℕ ChangeFault
at_place at (Ok done) = Ok at
at_place at (Err f) = Err f
