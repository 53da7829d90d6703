-- A script that goes on, round by round: what its sessions read, and what the steps of a round do and say where the table is in
-- a state. It is the rule of a run on one thread, in which the reads of a round go before its inserts.
use Rattle.std.specs.Prelude.{◌≡◌, ◌+◌, ℕ, Bool, true, false, is_some, ◌==◌, ◌&&◌, nat_lt, map, filter, length, List, [], ◌∷◌, ◌++◌, Option, Some, None, unwrap_or, if◌then◌else◌}
use Rattle.std.specs.Ordering.{nat_cmp}
use Rattle.std.specs.BTreeMap.{get}
use Rattle.std.specs.List.{AllByRecursion, flat_map}
use Rattle.myi_base.specs.Holding.{Holding}
use Rattle.myi_defs.specs.declared.types.Defs.{Defs}
use Rattle.myi_keycache.specs.declared.setup.Counters.{Counters}
use Rattle.myi_state.specs.State.{TableState}
use Rattle.myi_pair.specs.KeyList.{PlacedRow}
use Rattle.myi_locks.specs.declared.steps.Step.{Step}
use Rattle.myi_locks.specs.declared.steps.Round.{Round}
use Rattle.myi_locks.specs.declared.steps.Round.TheVariants.{Finished, Alone, Together}
use Rattle.myi_locks.specs.Steps.{is_read, is_insert, takes_read}
use Rattle.myi_locks.specs.Rounds.{LockState}
use Rattle.myi_locks.specs.Done.{run_steps, steps_of, is_together}
use Rattle.myi_script.specs.declared.types.Act.{Act}
use Rattle.myi_script.specs.declared.types.Line.{Line}
use Rattle.myi_locks.specs.Script.{opening}
use Rattle.myi_history.specs.Lines.{act_of, script_steps}
use Rattle.myi_history.specs.Reads.{found, merged_found}
use Rattle.myi_history.specs.Answers.{Answer, rows, merged, LineAnswer, answer_on}
use Rattle.myi_history.specs.History.{Taking, in_table, in_member, in_none, in_list, Statements, asks, reads_only, changes, state_after, stepped_by}
use Rattle.myi_history.specs.Text.{write_said, step_said}
use Rattle.myi_history.specs.RoundTexts.{LineText, texts_of}
use Rattle.myi_shell.specs.declared.target.Target.{Target}
use Rattle.myi_shell.specs.declared.target.Target.TheVariants.{One, Many}
use Rattle.myi_shell.specs.Targets.{Standing, moved, HoldsThen}
use Rattle.myi_shell.specs.declared.reading.Snapshot.{Snapshot}
use Rattle.myi_shell.specs.declared.script_run.Taken.{Taken}
use Rattle.myi_shell.specs.declared.script_run.ScriptRun.{ScriptRun}

-- where a script stands: the locks of its sessions, how many changes were accepted, what stood at each session's last Take of READ
-- or READ LOCAL, and what the steps of the round said so far, each with the number of its line
pub record RunState : Type 0 where
  pub locks : LockState
  pub number : ℕ
  pub taken : ℕ → Taken
  pub texts : List LineText

abbrev pub state_of : ScriptRun → RunState
state_of p = record {
  locks = p.locks;
  number = p.number;
  taken = λ n. unwrap_or (get nat_cmp p.taken n) p.first;
  texts = p.texts;
}

-- a script before its first round, on a data file of this length
abbrev pub begun : ℕ → Bool → List Line → ℕ → RunState
begun setting list ls length = record {
  locks = opening setting (script_steps list ls);
  number = 0;
  taken = λ n. record { number = 0; length = length };
  texts = [];
}

-- ---- reads

-- of the rows that were found those that stand below a place, or all
abbrev pub seen_rows : Option ℕ → List PlacedRow → List PlacedRow
seen_rows None found = found
seen_rows (Some place) found = filter (λ (r : PlacedRow). nat_lt r.0 place) found

-- what a session reads: where it holds READ or READ LOCAL what stood at its Take, and else the table as it is
abbrev pub seen_by : RunState → ℕ → Snapshot
seen_by p n =
    if reads_only p.locks n then record { number = (p.taken n).number; below = Some (p.taken n).length }
    else record { number = p.number; below = None }

-- What a read says, where the table is in a state. On a list nothing is inserted while a session holds READ or READ LOCAL, so it reads
-- the tables as they are.
abbrev pub read_answer : Taking → Defs → Snapshot → Standing → Option Act → Answer
read_answer in_table d v s a = rows (seen_rows v.below (found d s.table a)) v.number
read_answer (in_member number) d v s a = merged (merged_found d (in_list s.beside s.table) a) v.number
read_answer in_none d v s a = merged (merged_found d (in_list s.beside s.table) a) v.number

abbrev pub read_by : Defs → Statements → (ℕ → Snapshot) → Standing → Step → LineAnswer
read_by d ls views s x = answer_on x.line (read_answer ls.takes d (views x.session) s (act_of ls.lines x.line))

-- what those of the steps say that read
abbrev pub reads_by : Defs → Statements → (ℕ → Snapshot) → Standing → List Step → List LineAnswer
reads_by d ls views s xs = map (read_by d ls views s) (filter (λ (x : Step). is_read x.kind) xs)

-- ---- other steps

-- what steps say that write, one after the other
abbrev pub writes_by : Defs → Statements → LockState → Bool → TableState → List Step → List LineAnswer
writes_by d ls r together s [] = []
writes_by d ls r together s (x ∷ xs) =
    write_said ls d (reads_only r x.session) x.line s (asks ls r together x)
    ++ writes_by d ls r together (stepped_by d s (asks ls r together x)) xs

-- what a step says other than a read, where this was counted
abbrev pub step_by : Defs → Statements → LockState → Bool → Counters → TableState → Step → List LineAnswer
step_by d ls r together c s x = step_said x.line c (write_said ls d (reads_only r x.session) x.line s (asks ls r together x)) x.kind

abbrev pub others_by : Defs → Statements → LockState → Bool → Counters → TableState → List Step → List LineAnswer
others_by d ls r together c s [] = []
others_by d ls r together c s (x ∷ xs) =
    step_by d ls r together c s x ++ others_by d ls r together c (stepped_by d s (asks ls r together x)) xs

-- what a round says: its reads first
abbrev pub round_by : Defs → Statements → RunState → Counters → Standing → Round → List LineAnswer
round_by d ls p c s round =
    reads_by d ls (seen_by p) s (steps_of round)
    ++ others_by d ls p.locks (is_together round) c s.table (steps_of round)

-- in a round of kind Together the run beside the readers is one of inserts, and those of the readers are of reads
abbrev pub HasItsKinds : Round → Type 0
HasItsKinds Finished = Unit {0}
HasItsKinds (Alone x) = Unit {0}
HasItsKinds (Together inserter readers) =
    AllByRecursion (λ (x : Step). is_insert x.kind ≡ true) (run_steps inserter)
    × AllByRecursion (λ (x : Step). is_read x.kind ≡ true) (flat_map (λ run. run.steps) readers.runs)

-- what stands at the Take of READ or READ LOCAL in a round
abbrev pub taken_behind : Round → Taken → (ℕ → Taken) → ℕ → Taken
taken_behind (Alone x) now before n = if takes_read x.kind && (x.session == n) then now else before n
taken_behind Finished now before n = before n
taken_behind (Together inserter readers) now before n = before n

abbrev pub taken_as : ℕ → ℕ → Taken
taken_as number length = record { number = number; length = length }

-- how long the data file of the table is; of a list that is not asked
abbrev pub length_in : Target → ℕ
length_in (One t) = t.rows.rows.file.counts.length
length_in (Many g) = 0

-- where the table ends
abbrev pub end_in : Taking → TableState → ℕ
end_in in_table s = s.space.end
end_in (in_member number) s = 0
end_in in_none s = 0

-- whether a slot or block of the table is deleted; of a list that is not asked
abbrev pub holes_in : Target → Bool
holes_in (One t) = is_some t.rows.rows.file.counts.dellink
holes_in (Many g) = false

-- the number of changes that were accepted, and how long the data file of the table is
abbrev pub taken_now : RunState → Target → Taken
taken_now p t = taken_as p.number (length_in t)

-- ---- what was done

-- Steps were done, and this was said: the table stands for the state behind them, their changes are counted, and the lines are noted.
pub record AreDone (d : Defs) (ls : Statements) (together : Bool) (old : RunState) (s : Standing) (xs : List Step) (said : List LineAnswer) (next : Option Holding) (table : Target) (new : RunState) : Type 0 where
  pub state : HoldsThen next table (moved s (state_after d (asks ls old.locks together) s.table xs))
  pub number : new.number ≡ old.number + length (changes d (asks ls old.locks together) s.table xs)
  pub texts : new.texts ≡ old.texts ++ texts_of said
