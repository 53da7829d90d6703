-- The texts of what the steps of a round said, each with the number of its line, and their order.
use Rattle.std.specs.Prelude.{◌≡◌, ◌≢◌, ◌≤◌, ◌+◌, ℕ, nat_lt, map, fold, List, [], ◌∷◌, ◌++◌, Option, Some, if◌then◌else◌}
use Rattle.std.specs.List.{AllByRecursion, flat_map, slice_range}
use Rattle.std.specs.List.Sorted.{IsPermutation}
use Rattle.myi_state.specs.Changes.{Change}
use Rattle.myi_tablestate.specs.Keyed.{lacks, duplicate, too_long}
use Rattle.myi_locks.specs.Done.{steps_of}
use Rattle.myi_history.specs.declared.answers.StepAnswer.{StepAnswer}
use Rattle.myi_history.specs.declared.answers.StepAnswer.TheVariants as step
use Rattle.myi_history.specs.declared.round_texts.Said.{Said}
use Rattle.myi_history.specs.Answers.{Answer, made, made_in, refused, locked_for_read, no_method, done, counted, LineAnswer, said_text}
use Rattle.myi_history.specs.History.{Opening, ScriptRound}
use Rattle.myi_history.specs.Text.{Numbers, reads_said, others_said}

-- what a step answers that is no read
abbrev pub answer_of : StepAnswer → Answer
answer_of (step.Made at) = made at
answer_of (step.MadeIn table at) = made_in table at
answer_of (step.NoRow at) = refused (lacks at)
answer_of (step.Duplicate key at) = refused (duplicate key at)
answer_of step.Full = refused too_long
answer_of step.LockedForRead = locked_for_read
answer_of step.NoInsertMethod = no_method
answer_of step.Done = done
answer_of (step.Counted counters) = counted counters

-- ---- order by a key

-- put before the first of these whose key is not lower
abbrev pub put_by : {X : Type 0} → (X → ℕ) → X → List X → List X
put_by key x [] = x ∷ []
put_by key x (y ∷ ys) = if nat_lt (key y) (key x) then y ∷ put_by key x ys else x ∷ y ∷ ys

-- these, each put among the others by its key
abbrev pub all_put_by : {X : Type 0} → (X → ℕ) → List X → List X
all_put_by key xs = fold (λ ys x. put_by key x ys) [] xs

-- no two have one key
abbrev pub HaveOwnKeys : {X : Type 0} → (X → ℕ) → List X → Type 0
HaveOwnKeys key [] = Unit {0}
HaveOwnKeys key (x ∷ xs) = AllByRecursion (λ y. key y ≢ key x) xs × HaveOwnKeys key xs

-- ---- what a round says

-- what the steps of a round say, first its reads
abbrev pub said_of : Opening → List Change → ScriptRound → Numbers → List LineAnswer
said_of o h p ns = reads_said o h (steps_of p.round) ns.reads ++ others_said o p p.state ns.counters (steps_of p.round)

-- ---- texts of lines

-- the number of a line, and a text
abbrev pub LineText : Type 0
LineText = ℕ × List ℕ

-- what was said of a line, as its text
abbrev pub text_of : LineAnswer → LineText
text_of a = (a.line, said_text a)

abbrev pub texts_of : List LineAnswer → List LineText
texts_of said = map text_of said

abbrev pub in_line_order : List LineText → List LineText
in_line_order texts = all_put_by (λ t. t.0) texts

-- texts one after the other
abbrev pub joined : List LineText → List ℕ
joined texts = flat_map (λ (t : LineText). t.1) texts

-- each line has one text
abbrev pub HaveOwnLines : List LineText → Type 0
HaveOwnLines texts = HaveOwnKeys (λ t. t.0) texts

-- behind what was written before stands each of these texts once
abbrev pub AreWritten : List LineText → Option (List ℕ) → List ℕ → Type 0
AreWritten texts new before = (ordered : List LineText) × IsPermutation texts ordered × (new ≡ Some (before ++ joined ordered))

-- ---- parts of a buffer

abbrev pub part_of : List ℕ → Said → List ℕ
part_of bytes x = slice_range bytes x.from x.to

abbrev pub said_in : List ℕ → Said → LineText
said_in bytes x = (x.line, part_of bytes x)

-- the part lies within so many bytes
abbrev pub IsWithin : ℕ → Said → Type 0
IsWithin size x = (x.from ≤ x.to) × (x.to ≤ size)

-- the part that much further on
abbrev pub moved_by : ℕ → Said → Said
moved_by by x = record { line = x.line; from = by + x.from; to = by + x.to }
