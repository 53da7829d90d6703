-- Scripts worked out by hand: what the definitions say of them, evaluated. On a table with a deleted slot, inserts beside a scan under each
-- setting of concurrent inserts; and a delete that waits for READ LOCAL.
use Rattle.std.proofs.Common.{◌≡◌, ◌+◌, ◌*◌, ℕ, List, [], ◌∷◌, length, refl, map, take}
use Rattle.myi_defs.specs.declared.types.Defs.{Defs}
use Rattle.myi_defs.specs.declared.types.Field.{Field}
use Rattle.myi_defs.specs.declared.types.FieldKind.TheVariants as field
use Rattle.myi_defs.specs.declared.types.RowFormat.TheVariants.{Static}
use Rattle.myi_state.specs.State.{TableState, StoredRow}
use Rattle.myi_dellist.specs.Areas.{Area}
use Rattle.myi_state.specs.Changes.{insert, insert_at_end, accepted}
use Rattle.myi_script.specs.declared.types.Act.TheVariants as act
use Rattle.myi_script.specs.declared.types.Line.{Line}
use Rattle.myi_locks.specs.Rounds.{next_round, case_at_once, case_write_held, case_write, case_write_waits, case_takes_read, case_together}
use Rattle.myi_tablestate.specs.Keyed.{keyed_step, keyed_refusal}
use Rattle.myi_defs.specs.Addressable.{is_addressable}
use Rattle.myi_history.specs.Answers.{LineAnswer, Answer, made, made_in, no_method, rows, merged, done, locked_for_read}
use Rattle.myi_history.specs.History.{Opening, ScriptRound, Taking, in_table, in_member, in_none, history, rounds_of}
use Rattle.myi_history.specs.Text.{Numbers, script_said, no_numbers}
use Rattle.myi_history.specs.OneThread.{in_turn}
use Rattle.myi_history.specs.Appending.{rows_before}
use Rattle.myi_history.specs.Running.{taken_in, counted_in, table_after, seen_state}
use Rattle.myi_keycache.specs.declared.setup.Counters.{Counters}
use Rattle.myi_locks.specs.declared.steps.LockKind.TheVariants.{ReadLocal}
use Rattle.myi_script.specs.declared.types.Act.{Act}

abbrev pub f : ℕ → ℕ → Field
f n s = record { kind = field.Normal; length = n; start = s }

abbrev pub table : Defs
table = record { format = Static; fields = f 1 0 ∷ f 4 1 ∷ f 3 5 ∷ []; keys = []; rec_ref = 6; key_ref = 4; row_length = 8; slot_length = 8; raw = [] }

abbrev pub v : ℕ → List (List ℕ)
v n = (255 ∷ []) ∷ (n ∷ 0 ∷ 0 ∷ 0 ∷ []) ∷ (97 ∷ 97 ∷ 97 ∷ []) ∷ []

abbrev pub slot : ℕ → Area
slot p = record { at = p; size = 8 }

abbrev pub base : TableState
base = record { rows = record { at = 8; values = v 2; blocks = slot 8 ∷ [] } ∷ []; space = record { holes = slot 0 ∷ []; end = 16 } }

abbrev pub script : List Line
script = record { session = 2; line = 1; act = act.Scan } ∷ record { session = 1; line = 2; act = act.Insert (v 3) } ∷ record { session = 1; line = 3; act = act.Insert (v 4) } ∷ record { session = 1; line = 4; act = act.Scan } ∷ record { session = 1; line = 5; act = act.Insert (v 5) } ∷ []

-- a script on the table alone
abbrev pub on_table : List Line → TableState → ℕ → Opening
on_table ls base setting = record { defs = table; script = record { lines = ls; takes = in_table }; base = base; beside = record { front = []; back = [] }; setting = setting }

abbrev pub begun : ℕ → Opening
begun setting = on_table script base setting

both : history (begun 2) ≡ insert_at_end (v 3) ∷ insert_at_end (v 4) ∷ insert (v 5) ∷ []
unfolding rounds_of next_round case_at_once case_write_held case_write case_write_waits case_takes_read case_together keyed_step keyed_refusal accepted is_addressable
both = refl

plain : history (begun 1) ≡ insert (v 3) ∷ insert_at_end (v 4) ∷ insert_at_end (v 5) ∷ []
unfolding rounds_of next_round case_at_once case_write_held case_write case_write_waits case_takes_read case_together keyed_step keyed_refusal accepted is_addressable
plain = refl

never : history (begun 0) ≡ insert (v 3) ∷ insert (v 4) ∷ insert (v 5) ∷ []
unfolding rounds_of next_round case_at_once case_write_held case_write case_write_waits case_takes_read case_together keyed_step keyed_refusal accepted is_addressable
never = refl

abbrev pub n : List ℕ → Numbers
n ns = record { reads = ns; counters = no_numbers.counters }

abbrev pub says : LineAnswer → ℕ
says s = s.line

two_lines : map says (script_said (begun 2) (n (1 ∷ []) ∷ n [] ∷ n (2 ∷ []) ∷ n [] ∷ n [] ∷ [])) ≡ 1 ∷ 2 ∷ 3 ∷ 4 ∷ 5 ∷ []
unfolding rounds_of next_round case_at_once case_write_held case_write case_write_waits case_takes_read case_together keyed_step keyed_refusal accepted is_addressable
two_lines = refl

one_lines : map says (script_said (begun 1) []) ≡ 2 ∷ 1 ∷ 3 ∷ 4 ∷ 5 ∷ []
unfolding rounds_of next_round case_at_once case_write_held case_write case_write_waits case_takes_read case_together keyed_step keyed_refusal accepted is_addressable
one_lines = refl

none_lines : map says (script_said (begun 0) []) ≡ 2 ∷ 3 ∷ 1 ∷ 4 ∷ 5 ∷ []
unfolding rounds_of next_round case_at_once case_write_held case_write case_write_waits case_takes_read case_together keyed_step keyed_refusal accepted is_addressable
none_lines = refl

abbrev pub code_of : Answer → ℕ
code_of (made at) = at
code_of (made_in number at) = 4000 + at
code_of no_method = 5000
code_of (rows found number) = 1000 + number
code_of (merged found number) = 6000 + (number + 10 * length found)
code_of done = 2000
code_of locked_for_read = 3000
code_of other = 9999

abbrev pub shown : LineAnswer → List ℕ
shown s = s.line ∷ code_of s.answer ∷ []

abbrev pub in_order : Opening → List (List ℕ)
in_order o = map shown (script_said o (in_turn [] (rounds_of o)))

shown_two : in_order (begun 2) ≡ (1 ∷ 1000 ∷ []) ∷ (2 ∷ 16 ∷ []) ∷ (3 ∷ 24 ∷ []) ∷ (4 ∷ 1002 ∷ []) ∷ (5 ∷ 0 ∷ []) ∷ []
unfolding rounds_of next_round case_at_once case_write_held case_write case_write_waits case_takes_read case_together keyed_step keyed_refusal accepted is_addressable
shown_two = refl

shown_one : in_order (begun 1) ≡ (2 ∷ 0 ∷ []) ∷ (1 ∷ 1001 ∷ []) ∷ (3 ∷ 16 ∷ []) ∷ (4 ∷ 1002 ∷ []) ∷ (5 ∷ 24 ∷ []) ∷ []
unfolding rounds_of next_round case_at_once case_write_held case_write case_write_waits case_takes_read case_together keyed_step keyed_refusal accepted is_addressable
shown_one = refl

abbrev pub l : ℕ → ℕ → Act → Line
l s n a = record { session = s; line = n; act = a }

abbrev pub waiting : List Line
waiting = l 2 1 (act.Lock ReadLocal) ∷ l 1 2 (act.Insert (v 3)) ∷ l 2 3 act.Scan ∷ l 1 4 act.Scan ∷ l 1 5 (act.Insert (v 4)) ∷ l 2 6 (act.Insert (v 9)) ∷ l 2 7 act.Scan ∷ l 3 8 act.Scan ∷ l 3 9 (act.Delete 0) ∷ l 2 10 act.Unlock ∷ []

abbrev pub row_of : ℕ → StoredRow
row_of p = record { at = p; values = v p; blocks = slot p ∷ [] }

abbrev pub locked : Opening
locked = on_table waiting (record { rows = row_of 0 ∷ row_of 8 ∷ []; space = record { holes = []; end = 16 } }) 1

shown_locked : in_order locked ≡ (1 ∷ 2000 ∷ []) ∷ (2 ∷ 16 ∷ []) ∷ (3 ∷ 1000 ∷ []) ∷ (8 ∷ 1000 ∷ []) ∷ (6 ∷ 3000 ∷ []) ∷ (7 ∷ 1000 ∷ []) ∷ (10 ∷ 2000 ∷ []) ∷ (9 ∷ 0 ∷ []) ∷ (4 ∷ 1002 ∷ []) ∷ (5 ∷ 0 ∷ []) ∷ []
unfolding rounds_of next_round case_at_once case_write_held case_write case_write_waits case_takes_read case_together keyed_step keyed_refusal accepted is_addressable
shown_locked = refl

nothing : in_order (on_table [] base 1) ≡ []
unfolding rounds_of next_round case_at_once case_write_held case_write case_write_waits case_takes_read case_together keyed_step keyed_refusal accepted is_addressable
nothing = refl

-- ---- runs that have come so far

-- session 2 has taken READ LOCAL, and beside its scan session 1 has inserted a row at the end
abbrev pub three : List ScriptRound
three = take 3 (rounds_of locked)

abbrev pub places : List StoredRow → List ℕ
places rs = map (λ (r : StoredRow). r.at) rs

one_taken : taken_in (rounds_of locked) ≡ (2, 0) ∷ []
unfolding rounds_of next_round case_at_once case_write_held case_write case_write_waits case_takes_read case_together keyed_step keyed_refusal accepted is_addressable
one_taken = refl

stands : places (table_after locked three).rows ≡ 0 ∷ 8 ∷ 16 ∷ []
unfolding rounds_of next_round case_at_once case_write_held case_write case_write_waits case_takes_read case_together keyed_step keyed_refusal accepted is_addressable
stands = refl

sees_two : places (seen_state locked three 2).rows ≡ 0 ∷ 8 ∷ []
unfolding rounds_of next_round case_at_once case_write_held case_write case_write_waits case_takes_read case_together keyed_step keyed_refusal accepted is_addressable
sees_two = refl

two_before : places (rows_before (seen_state locked three 2).space.end (table_after locked three).rows) ≡ 0 ∷ 8 ∷ []
unfolding rounds_of next_round case_at_once case_write_held case_write case_write_waits case_takes_read case_together keyed_step keyed_refusal accepted is_addressable
two_before = refl

abbrev pub asking : Opening
asking = on_table (l 1 1 act.Stats ∷ l 1 2 act.Scan ∷ l 1 3 act.Stats ∷ []) base 1

abbrev pub requests : ℕ → Counters
requests k = record { read_requests = k; reads = 0; write_requests = 0; writes = 0 }

abbrev pub counts : ℕ → Numbers
counts k = record { reads = []; counters = requests k }

-- behind the scan what the first `stats` counted is what was counted last
counted_first : counted_in (requests 0) (take 2 (rounds_of asking)) (counts 5 ∷ n (0 ∷ []) ∷ []) ≡ requests 5
unfolding rounds_of next_round case_at_once case_write_held case_write case_write_waits case_takes_read case_together keyed_step keyed_refusal accepted is_addressable
counted_first = refl

counted_second : counted_in (requests 0) (rounds_of asking) (counts 5 ∷ n (0 ∷ []) ∷ counts 8 ∷ n [] ∷ []) ≡ requests 8
unfolding rounds_of next_round case_at_once case_write_held case_write case_write_waits case_takes_read case_together keyed_step keyed_refusal accepted is_addressable
counted_second = refl

-- ---- on a list

-- tables with two rows each, and no deleted slot
abbrev pub two_rows : ℕ → ℕ → TableState
two_rows a b = record { rows = record { at = 0; values = v a; blocks = slot 0 ∷ [] } ∷ record { at = 8; values = v b; blocks = slot 8 ∷ [] } ∷ []; space = record { holes = []; end = 16 } }

abbrev pub inserting : List Line
inserting = l 2 1 act.Scan ∷ l 1 2 (act.Insert (v 5)) ∷ l 1 3 (act.Insert (v 6)) ∷ l 1 4 (act.Lock ReadLocal) ∷ l 1 5 (act.Insert (v 7)) ∷ []

abbrev pub on_list : Taking → TableState → List TableState → List TableState → Opening
on_list t base front back = record { defs = table; script = record { lines = inserting; takes = t }; base = base; beside = record { front = front; back = back }; setting = 1 }

-- rows are inserted in the last of two tables: each insert goes before the scan, since none goes beside it
last_takes : in_order (on_list (in_member 2) (two_rows 2 4) (two_rows 1 3 ∷ []) []) ≡ (2 ∷ 4016 ∷ []) ∷ (3 ∷ 4024 ∷ []) ∷ (4 ∷ 2000 ∷ []) ∷ (5 ∷ 3000 ∷ []) ∷ (1 ∷ 6062 ∷ []) ∷ []
unfolding rounds_of next_round case_at_once case_write_held case_write case_write_waits case_takes_read case_together keyed_step keyed_refusal accepted is_addressable
last_takes = refl

-- and nowhere, where the list does not say in which
none_takes : in_order (on_list in_none (two_rows 1 3) [] (two_rows 2 4 ∷ [])) ≡ (2 ∷ 5000 ∷ []) ∷ (3 ∷ 5000 ∷ []) ∷ (4 ∷ 2000 ∷ []) ∷ (5 ∷ 3000 ∷ []) ∷ (1 ∷ 6040 ∷ []) ∷ []
unfolding rounds_of next_round case_at_once case_write_held case_write case_write_waits case_takes_read case_together keyed_step keyed_refusal accepted is_addressable
none_takes = refl
