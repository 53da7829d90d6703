-- What a run says, answers and does, by what the words ask for and what the files hold: its tables have their turns one
-- after the other, each on the files that the one before left.
use Rattle.std.specs.Prelude.{◌≡◌, ◌≢◌, ◌⊎◌, ◌≤◌, ℕ, List, [], ◌∷◌, ◌++◌, length, take, Option}
use Rattle.myi_base.specs.Holding.{Holding, IfTold}
use Rattle.myi_base.specs.Output.{Appends, AppendsPart}
use Rattle.myi_repair.specs.Names.{FourNames, names_for}
use Rattle.myisamkit.specs.declared.status.Status.{Status}
use Rattle.myisamkit.specs.declared.status.Status.TheVariants as status
use Rattle.myisamkit.specs.declared.status.Stop.{Stop}
use Rattle.myisamkit.specs.declared.status.Stop.TheVariants as stop
use Rattle.myisamkit.specs.declared.options.Options.{Options}
use Rattle.myisamkit.specs.Words.{Request, usage, chk, create, dump, make, shell}
use Rattle.myisamkit.specs.Statuses.{IsFault, worse}
use Rattle.myisamkit.specs.Lines.{usage_line}
use Rattle.myisamkit.specs.Creates.{create_turn, CreateLeaves}
use Rattle.myisamkit.specs.Dumps.{dump_turn}
use Rattle.myisamkit.specs.Makes.{make_turn, MakeLeaves}
use Rattle.myisamkit.specs.Shells.{tables_in, ShellComesTo, ShellSaid, ShellSaidPart, ShellSays, ShellLeaves, ShellFails}
use Rattle.myisamkit.specs.Turns.{Turn, turn, MayFind, TurnDone, CutsTurnOff, FailsInTurn}

-- ---- the tables of `chk`

-- the tables of these names, behind tables of this status, had their turns, each on the files that the one before left: these are all
-- lines, the greatest status, and the files at the end
abbrev pub TablesRun : Status → Options → ℕ → List (List ℕ) → Holding → List ℕ → Status → Holding → Type 0
TablesRun s o now [] m text t n = (text ≡ []) × (t ≡ s) × (n ≡ m)
TablesRun s o now (name ∷ names) m text t n =
    (k : Holding) × (rest : List ℕ) × TurnDone o now name m k × (text ≡ (turn o now name m).text ++ rest) × TablesRun (worse s (turn o now name m).status) o now names k rest t n

-- the same by the status and the files at the end
abbrev pub TablesEnd : Options → ℕ → List (List ℕ) → Status → Holding → Holding → Type 0
TablesEnd o now names s m n = (text : List ℕ) × TablesRun status.Ok o now names m text s n

-- the same by the status and all lines
abbrev pub TablesSay : Options → ℕ → List (List ℕ) → List ℕ → Status → Holding → Type 0
TablesSay o now names text s m = (n : Holding) × TablesRun status.Ok o now names m text s n

-- these are lines of a run that was cut off: those of tables that had their turns, and a front of those of the next one
abbrev pub TablesSayPart : Options → ℕ → List (List ℕ) → List ℕ → Holding → Type 0
TablesSayPart o now [] part m = part ≡ []
TablesSayPart o now (name ∷ names) part m =
    ((front : ℕ) × (front ≤ length (turn o now name m).text) × (part ≡ take front (turn o now name m).text))
    ⊎ ((k : Holding) × (rest : List ℕ) × TurnDone o now name m k × (part ≡ (turn o now name m).text ++ rest) × TablesSayPart o now names rest k)

-- ---- any request

-- what a run comes to that nothing cuts off; of tables and of a script what it comes to before the first table, and before the script
abbrev pub run_of : Request → ℕ → Holding → Turn
run_of usage now m = record { text = usage_line; status = status.Usage; files = m }
run_of (chk o names) now m = record { text = []; status = status.Ok; files = m }
run_of (create name file) now m = create_turn name file m
run_of (dump name) now m = dump_turn name m
run_of (make count seed name) now m = make_turn count seed name now m
run_of (shell o name script) now m = record { text = []; status = status.Ok; files = m }

-- the answer may be that something was found: of `make` by its own check, which finds nothing where files tell
abbrev pub MayFindAny : Request → Type 0
MayFindAny usage = ⊥
MayFindAny (chk o names) = MayFind o
MayFindAny (create name file) = ⊥
MayFindAny (dump name) = ⊥
MayFindAny (make count seed name) = Unit {0}
MayFindAny (shell o name script) = ⊥

-- ---- the files

-- a file fault or want of memory cut the turn of one of the tables off; those before it had theirs, those behind it had none
abbrev pub CutsTablesOff : Options → ℕ → ℕ → ℕ → ℕ → List (List ℕ) → Holding → Holding → Type 0
CutsTablesOff o now told before after [] m n = ⊥
CutsTablesOff o now told before after (name ∷ names) m n = CutsTurnOff o now told before after name m n ⊎ ((k : Holding) × TurnDone o now name m k × CutsTablesOff o now told before after names k n)

-- the output failed in the turn of one of the tables; those before it had theirs, those behind it had none
abbrev pub FailsInTables : Options → ℕ → List (List ℕ) → Holding → Holding → Type 0
FailsInTables o now [] m n = ⊥
FailsInTables o now (name ∷ names) m n = FailsInTurn o now name m n ⊎ ((k : Holding) × TurnDone o now name m k × FailsInTables o now names k n)

-- what a stop leaves of the tables
abbrev pub TablesStop : Options → ℕ → ℕ → ℕ → List (List ℕ) → Stop → Holding → Holding → Type 0
TablesStop o now before after names stop.File m n = CutsTablesOff o now 1 before after names m n
TablesStop o now before after names stop.Memory m n = CutsTablesOff o now 0 before after names m n
TablesStop o now before after names stop.Sink m n = FailsInTables o now names m n

-- ---- by the status

-- the files of these tables at a status, the files' count of faults having risen from the one number to the other
abbrev pub TablesLeave : Options → ℕ → ℕ → ℕ → List (List ℕ) → Status → Holding → Holding → Type 0
TablesLeave o now before after names status.FileFault m n = CutsTablesOff o now 1 before after names m n
TablesLeave o now before after names status.Memory m n = CutsTablesOff o now 0 before after names m n
TablesLeave o now before after names status.SinkFault m n = FailsInTables o now names m n
TablesLeave o now before after names status.Ok m n = TablesEnd o now names status.Ok m n
TablesLeave o now before after names status.Findings m n = TablesEnd o now names status.Findings m n
TablesLeave o now before after names status.Usage m n = TablesEnd o now names status.Usage m n
TablesLeave o now before after names status.Refused m n = TablesEnd o now names status.Refused m n
TablesLeave o now before after names status.Absent m n = TablesEnd o now names status.Absent m n

abbrev pub Leaves : Request → ℕ → ℕ → ℕ → Status → Holding → Holding → Type 0
Leaves usage now before after s m n = n ≡ m
Leaves (chk o names) now before after s m n = TablesLeave o now before after names s m n
Leaves (create name file) now before after s m n = CreateLeaves name file s m n
Leaves (dump name) now before after s m n = n ≡ m
Leaves (make count seed name) now before after s m n = MakeLeaves count seed name now s m n
Leaves (shell o name script) now before after s m n = ShellLeaves o.concurrent name script s m n

-- Where the output failed in a script, its tables were closed behind the round whose lines were being written. Of the other requests
-- `Leaves` says all.
abbrev pub FailsInScript : Request → Option (List ℕ) → Option (List ℕ) → Holding → Holding → Type 0
FailsInScript usage old new m n = Unit {0}
FailsInScript (chk o names) old new m n = Unit {0}
FailsInScript (create name file) old new m n = Unit {0}
FailsInScript (dump name) old new m n = Unit {0}
FailsInScript (make count seed name) old new m n = Unit {0}
FailsInScript (shell o name script) old new m n = ShellFails o.concurrent name script old new m n

-- what was written is this text, or a front of it where a fault cut the run off
abbrev pub Says : List ℕ → Option (List ℕ) → Option (List ℕ) → Status → Type 0
Says text old new s = IfTold old (λ w. (IsFault s × AppendsPart text new w) ⊎ ((IsFault s → ⊥) × Appends text new w))

-- the same of the tables of `chk`
abbrev pub TablesSaid : Options → ℕ → List (List ℕ) → Status → Option (List ℕ) → Option (List ℕ) → Holding → Type 0
TablesSaid o now names s old new m = IfTold old (λ w. (text : List ℕ) × TablesSay o now names text s m × Appends text new w)

-- the same where a fault cut the run off
abbrev pub TablesSaidPart : Options → ℕ → List (List ℕ) → Option (List ℕ) → Option (List ℕ) → Holding → Type 0
TablesSaidPart o now names old new m = IfTold old (λ w. (part : List ℕ) × TablesSayPart o now names part m × Appends part new w)

-- ---- by the request

-- what was written is a text that the words have on these files: of a script one with numbers within their bounds
abbrev pub SaysText : Request → ℕ → Option (List ℕ) → Option (List ℕ) → Status → Holding → Type 0
SaysText usage now old new s m = Says (run_of usage now m).text old new s
SaysText (chk o names) now old new s m = (IsFault s × TablesSaidPart o now names old new m) ⊎ ((IsFault s → ⊥) × TablesSaid o now names s old new m)
SaysText (create name file) now old new s m = Says (run_of (create name file) now m).text old new s
SaysText (dump name) now old new s m = Says (run_of (dump name) now m).text old new s
SaysText (make count seed name) now old new s m = Says (run_of (make count seed name) now m).text old new s
SaysText (shell o name script) now old new s m = ShellSays o.concurrent name script old new s m

-- the same of a run that nothing cut off, with its status
abbrev pub SaidText : Request → ℕ → Status → Option (List ℕ) → Option (List ℕ) → Holding → Type 0
SaidText usage now s old new m = IfTold old (Appends (run_of usage now m).text new)
SaidText (chk o names) now s old new m = TablesSaid o now names s old new m
SaidText (create name file) now s old new m = IfTold old (Appends (run_of (create name file) now m).text new)
SaidText (dump name) now s old new m = IfTold old (Appends (run_of (dump name) now m).text new)
SaidText (make count seed name) now s old new m = IfTold old (Appends (run_of (make count seed name) now m).text new)
SaidText (shell o name script) now s old new m = ShellSaid o.concurrent name script s old new m

-- the same of a run that was cut off
abbrev pub SaidPart : Request → ℕ → Option (List ℕ) → Option (List ℕ) → Holding → Type 0
SaidPart usage now old new m = IfTold old (AppendsPart (run_of usage now m).text new)
SaidPart (chk o names) now old new m = TablesSaidPart o now names old new m
SaidPart (create name file) now old new m = IfTold old (AppendsPart (run_of (create name file) now m).text new)
SaidPart (dump name) now old new m = IfTold old (AppendsPart (run_of (dump name) now m).text new)
SaidPart (make count seed name) now old new m = IfTold old (AppendsPart (run_of (make count seed name) now m).text new)
SaidPart (shell o name script) now old new m = ShellSaidPart o.concurrent name script old new m

-- the status is the defined one; of a script one that it comes to
abbrev pub HasStatus : Request → ℕ → Status → Holding → Type 0
HasStatus usage now s m = s ≡ (run_of usage now m).status
HasStatus (chk o names) now s m = (n : Holding) × TablesEnd o now names s m n
HasStatus (create name file) now s m = s ≡ (run_of (create name file) now m).status
HasStatus (dump name) now s m = s ≡ (run_of (dump name) now m).status
HasStatus (make count seed name) now s m = s ≡ (run_of (make count seed name) now m).status
HasStatus (shell o name script) now s m = (said : List ℕ) × ShellComesTo o.concurrent name script m said s

-- this status, or a fault
abbrev pub IsOrFault : Request → ℕ → Status → Holding → Type 0
IsOrFault request now s m = IsFault s ⊎ HasStatus request now s m

-- ---- other files

-- a name is none of a table's four
pub record IsApart (q : List ℕ) (t : FourNames) : Type 0 where
  pub rows : q ≢ t.rows
  pub index : q ≢ t.index
  pub new_rows : q ≢ t.new_rows
  pub new_index : q ≢ t.new_index

-- a name is no file of these tables
abbrev pub IsNoFileOf : List ℕ → List (List ℕ) → Type 0
IsNoFileOf q [] = Unit {0}
IsNoFileOf q (name ∷ names) = IsApart q (names_for name) × IsNoFileOf q names

-- the tables that a request works on: of a script on a list those of the list
abbrev pub tables_of : Request → Holding → List (List ℕ)
tables_of usage m = []
tables_of (chk o names) m = names
tables_of (create name file) m = name ∷ []
tables_of (dump name) m = name ∷ []
tables_of (make count seed name) m = name ∷ []
tables_of (shell o name script) m = tables_in name m

-- files that are none of a request's tables hold what they held
abbrev pub KeepsOthers : Request → Holding → Holding → Type 0
KeepsOthers request m n = (q : List ℕ) → IsNoFileOf q (tables_of request m) → n q ≡ m q
