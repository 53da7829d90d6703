-- What a script prints, by the numbers that its reads are given and the counters that its `stats` print. The lines of a round are
-- printed behind it, in order of their numbers.
use Rattle.std.specs.Prelude.{ℕ, Bool, true, false, ◌==◌, nat_lt, List, [], ◌∷◌, ◌++◌, take, drop, fold, slice_index, Option, Some, None, Result, Ok, Err, if◌then◌else◌}
use Rattle.std.specs.List.{flat_map}
use Rattle.myi_keycache.specs.declared.setup.Counters.{Counters}
use Rattle.myi_state.specs.State.{TableState}
use Rattle.myi_state.specs.Changes.{Change, replay}
use Rattle.myi_tablestate.specs.Keyed.{KeyedRefusal, keyed_step}
use Rattle.myi_locks.specs.declared.steps.StepKind.{StepKind}
use Rattle.myi_locks.specs.declared.steps.StepKind.TheVariants as kind
use Rattle.myi_locks.specs.declared.steps.Step.{Step}
use Rattle.myi_locks.specs.Steps.{is_read}
use Rattle.myi_locks.specs.Done.{steps_of}
use Rattle.myi_defs.specs.declared.types.Defs.{Defs}
use Rattle.myi_history.specs.Lines.{act_of}
use Rattle.myi_history.specs.Reads.{found, merged_found}
use Rattle.myi_script.specs.declared.types.Act.{Act}
use Rattle.myi_script.specs.declared.types.Act.TheVariants as act
use Rattle.myi_history.specs.Answers.{Answer, made, made_in, refused, locked_for_read, no_method, done, rows, merged, counted, LineAnswer, answer_on, said_text}
use Rattle.myi_history.specs.History.{Taking, in_table, in_member, in_none, Beside, in_list, Statements, Opening, ScriptRound, asked_in, reads_only, stepped_by, rounds_of, history}

-- what is free in the text of a round: a number for each of its reads, in the order of the steps, and what the key cache counted
-- at a `stats`
pub record Numbers : Type 0 where
  pub reads : List ℕ
  pub counters : Counters

-- ---- reads

-- the table after the first n changes of the history
abbrev pub state_at : Opening → List Change → ℕ → TableState
state_at o h n = replay o.defs o.base (take n h)

-- what a statement that reads says where the table is in a state, after n changes
abbrev pub finds : Taking → Beside → Defs → TableState → Option Act → ℕ → Answer
finds in_table b d s a n = rows (found d s a) n
finds (in_member number) b d s a n = merged (merged_found d (in_list b s) a) n
finds in_none b d s a n = merged (merged_found d (in_list b s) a) n

-- what a read of a line says that sees the first n changes
abbrev pub rows_at : Opening → List Change → ℕ → ℕ → Answer
rows_at o h line n = finds o.script.takes o.beside o.defs (state_at o h n) (act_of o.script.lines line) n

-- what the reads of a round say, by their numbers
abbrev pub reads_said : Opening → List Change → List Step → List ℕ → List LineAnswer
reads_said o h [] ns = []
reads_said o h (x ∷ xs) ns =
    if is_read x.kind
    then answer_on x.line (rows_at o h x.line (slice_index ns 0)) ∷ reads_said o h xs (drop 1 ns)
    else reads_said o h xs ns

-- ---- other steps

-- a change was made at a position
abbrev pub made_by : Taking → ℕ → Answer
made_by in_table at = made at
made_by (in_member number) at = made_in number at
made_by in_none at = no_method

abbrev pub by_reply : Taking → Result ℕ KeyedRefusal → Answer
by_reply t (Ok at) = made_by t at
by_reply t (Err r) = refused r

abbrev pub reply_said : Taking → Defs → ℕ → TableState → Option Change → List LineAnswer
reply_said t d n s None = []
reply_said t d n s (Some c) = answer_on n (by_reply t (keyed_step d s c).reply) ∷ []

-- what an insert says where no table of a list takes rows
abbrev pub none_said : ℕ → Option Act → List LineAnswer
none_said n (Some (act.Insert row)) = answer_on n no_method ∷ []
none_said n (Some other) = []
none_said n None = []

abbrev pub change_said : Taking → Option Act → Defs → ℕ → TableState → Option Change → List LineAnswer
change_said in_table a d n s asked = reply_said in_table d n s asked
change_said (in_member number) a d n s asked = reply_said (in_member number) d n s asked
change_said in_none a d n s asked = none_said n a

-- what a writing step of line n says; one of a session that holds READ or READ LOCAL is refused
abbrev pub write_said : Statements → Defs → Bool → ℕ → TableState → Option Change → List LineAnswer
write_said ls d true n s asked = answer_on n locked_for_read ∷ []
write_said ls d false n s asked = change_said ls.takes (act_of ls.lines n) d n s asked

-- a step of line n is done; one of no line says nothing
abbrev pub done_said : ℕ → List LineAnswer
done_said n = if n == 0 then [] else answer_on n done ∷ []

-- What a step of line n says other than a read, by what is counted, and what it says where it writes. The first step of a `lock`
-- line says nothing.
abbrev pub step_said : ℕ → Counters → List LineAnswer → StepKind → List LineAnswer
step_said n c written kind.Release = []
step_said n c written (kind.Take lock) = answer_on n done ∷ []
step_said n c written kind.Rows = []
step_said n c written kind.Insert = written
step_said n c written kind.Change = written
step_said n c written kind.Unlock = answer_on n done ∷ []
step_said n c written kind.Stats = answer_on n (counted c) ∷ []
step_said n c written kind.End = done_said n

-- what a step of a round says where the table is in a state
abbrev pub said_by : Opening → ScriptRound → TableState → Counters → Step → List LineAnswer
said_by o p s c x =
    step_said x.line c (write_said o.script o.defs (reads_only p.locks x.session) x.line s (asked_in o.script p x)) x.kind

-- what steps of a round say one after the other
abbrev pub others_said : Opening → ScriptRound → TableState → Counters → List Step → List LineAnswer
others_said o p s c [] = []
others_said o p s c (x ∷ xs) =
    said_by o p s c x ++ others_said o p (stepped_by o.defs s (asked_in o.script p x)) c xs

-- ---- rounds

abbrev pub put_line : LineAnswer → List LineAnswer → List LineAnswer
put_line a [] = a ∷ []
put_line a (b ∷ bs) = if nat_lt b.line a.line then b ∷ put_line a bs else a ∷ b ∷ bs

-- these, each put among the others by its line
abbrev pub put_lines : List LineAnswer → List LineAnswer → List LineAnswer
put_lines others xs = fold (λ bs a. put_line a bs) others xs

-- what a round says
abbrev pub round_said : Opening → List Change → ScriptRound → Numbers → List LineAnswer
round_said o h p ns =
    put_lines [] (reads_said o h (steps_of p.round) ns.reads
    ++ others_said o p p.state ns.counters (steps_of p.round))

abbrev pub no_numbers : Numbers
no_numbers = record { reads = []; counters = record { read_requests = 0; reads = 0; write_requests = 0; writes = 0 } }

abbrev pub first_numbers : List Numbers → Numbers
first_numbers [] = no_numbers
first_numbers (ns ∷ c) = ns

-- what rounds say, where the history of the whole script is h
abbrev pub said_in : Opening → List Change → List ScriptRound → List Numbers → List LineAnswer
said_in o h [] c = []
said_in o h (p ∷ ps) c = round_said o h p (first_numbers c) ++ said_in o h ps (drop 1 c)

-- what a script says
abbrev pub script_said : Opening → List Numbers → List LineAnswer
script_said o c = said_in o (history o) (rounds_of o) c

-- the text of a script: it depends on how the script begins and the free numbers alone
abbrev pub shell_text : Opening → List Numbers → List ℕ
shell_text o c = flat_map said_text (script_said o c)
