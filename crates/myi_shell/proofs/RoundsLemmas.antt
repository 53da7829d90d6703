-- A round more of a script, and how a run ends.
use Rattle.std.proofs.Common.{◌≡◌, ℕ, zero, suc, ◌+◌, ◌≤◌, not, Bool, true, false, eqb, cond, List, [], ◌∷◌, ◌++◌, take, length, Option, Some, refl, sym, ap, subst, inl, inr, ◌∙◌, arith, append_assoc}
use Rattle.std.specs.Prelude.{IsPermutation}
use Rattle.std.specs.List.{flat_map}
use Rattle.std.proofs.lemmas.List.Sorted.{IsPermutation-refl}
use Rattle.std.proofs.lemmas.List.{append-nil, length-append}
use Rattle.myi_base.specs.Holding.{Holding, IfTold}
use Rattle.myi_base.specs.Output.{Appends, AppendsPart}
use Rattle.myi_defs.specs.Sound.{IsSound}
use Rattle.myi_keycache.specs.declared.setup.Counters.{Counters}
use Rattle.myi_state.specs.State.{TableState}
use Rattle.myi_state.specs.Sound.{IsState}
use Rattle.myi_locks.specs.declared.steps.Round.{Round}
use Rattle.myi_locks.specs.declared.steps.Round.TheVariants.{Finished, Alone, Together}
use Rattle.myi_locks.specs.Steps.{takes_read}
use Rattle.myi_locks.specs.Rounds.{LockState, next_round, has_steps, alone, or_else, case_at_once, case_write_held, case_write, case_write_waits, case_takes_read, case_together}
use Rattle.myi_locks.specs.Laws.{IsLawful, HasOwnRuns}
use Rattle.myi_locks.proofs.CallerLemmas.{finished, own_runs}
use Rattle.myi_locks.specs.Done.{steps_of, is_together, advanced}
use Rattle.myi_script.specs.declared.types.Line.{Line}
use Rattle.myi_history.specs.Lines.{MayRun}
use Rattle.myi_history.specs.Answers.{LineAnswer, said_text}
use Rattle.myi_history.specs.History.{in_table, Opening, ScriptRound, rounds_of, history, has_hole, asks, changes, state_after}
use Rattle.myi_history.specs.Text.{Numbers, no_numbers, shell_text, state_at, reads_said, others_said, round_said}
use Rattle.myi_history.specs.Bounds.{SessionNumber, number_at, taken_by, is_stats, CountersRise}
use Rattle.myi_history.specs.OneThread.{numbers_now}
use Rattle.myi_history.specs.RoundTexts.{LineText, texts_of, joined, in_line_order, HaveOwnLines}
use Rattle.myi_history.specs.Running.{HasRun, IsNext, taken_in, counted_in, locks_after, table_after, number_after, next_after, seen_number, seen_state, run_text}
use Rattle.myi_history.proofs.CallerLemmas.{follows_history, next_in_turn, goes_on, locks_more, table_more, number_more, taken_more, counted_more, text_more, ends_within, ends_text, ends_table, stops, read_now, texts_in_order, texts_own, texts_order, answered_once}
use Rattle.myi_shell.specs.declared.target.Target.{Target}
use Rattle.myi_shell.specs.Targets as on
use Rattle.myi_shell.specs.Targets.{Standing, AreNotBelow, taking, defs_in, script_on, HoldsThen, IfHolds, IsCarried, IsTouchedBy}
use Rattle.myi_shell.specs.declared.script_run.Taken.{Taken}
use Rattle.myi_shell.specs.Stepping.{RunState, seen_by, others_by, round_by, taken_behind, taken_now, length_in, end_in, holes_in, AreDone}
use Rattle.myi_shell.specs.Beside.{IsDone, IsDoneBeside}
use Rattle.myi_shell.specs.Running.{opening_on, standing_in, Before, Stands, HasDone, HasEnded, IsPrintedPart, StandsBehind}
use Rattle.myi_shell.proofs.TargetTouches.{touched_then, touched_as}
use Rattle.myi_shell.proofs.TargetLemmas.{holes_are, length_is}
use Rattle.myi_shell.proofs.CarryLemmas.{below_then}
use Rattle.myi_shell.proofs.DoneLemmas.{IsRoundDone}
use Rattle.myi_shell.proofs.SideLemmas.{answers_by, StandsAt, IsRoundOf, beside_round}
use Rattle.myi_shell.proofs.RoundLemmas.{others_same, reads_same, alike}

-- ---- counters

rises : (a b : Counters) → AreNotBelow a b → b.reads ≤ b.read_requests → CountersRise a b
rises a b h few = record { read_requests = h.read_requests; reads = h.reads; write_requests = h.write_requests; writes = h.writes; fewer = few }

-- ---- a round more

-- the numbers of the next round
abbrev pub numbers_of : Opening → List ScriptRound → Counters → Numbers
numbers_of o front k = record { reads = numbers_now (next_after o front) (taken_in front) (steps_of (next_after o front).round); counters = k }

pub says : (o : Opening) (front : List ScriptRound) (c : List Numbers) (told : Option Holding) (p : RunState) (t : Target) (k : Counters) → MayRun o.defs o.script.lines → IsSound o.defs → IsState o.defs o.base
    → Stands o front c told p t → round_by o.defs o.script p k (standing_in o (table_after o front)) (next_after o front).round ≡ answers_by o front (numbers_of o front k)
says o front c told p t k may sound base w =
    let q = next_after o front in
    let s = table_after o front in
    let xs = steps_of q.round in
    let reads = reads_same o (history o) q (taken_in front) (seen_by p) (standing_in o s) xs (alike o front c p may sound base w.run w.locks w.number w.taken) in
    let others : others_said o q s k xs ≡ others_by o.defs o.script p.locks (is_together q.round) k s xs =
    others_same o q s k xs ∙ ap (λ (r : LockState). others_by o.defs o.script r (is_together q.round) k s xs) (sym w.locks) in
    ap (λ said. said ++ others_by o.defs o.script p.locks (is_together q.round) k s xs) (sym reads) ∙ ap (λ said. reads_said o (history o) xs (numbers_of o front k).reads ++ said) (sym others)

-- what stands behind the Takes of the round
taken_then : (o : Opening) (front : List ScriptRound) (c : List Numbers) (round : Round) (now : Taken) (before : ℕ → Taken) (n : ℕ) → HasRun o front c
    → now ≡ record { number = number_after o front; length = end_in o.script.takes (table_after o front) }
    → ((m : ℕ) → before m ≡ record { number = seen_number o front m; length = end_in o.script.takes (seen_state o front m) })
    → taken_behind round now before n ≡ record { number = number_at n (taken_by (number_after o front) round ++ taken_in front); length = end_in o.script.takes (state_at o (history o) (number_at n (taken_by (number_after o front) round ++ taken_in front))) }
taken_then o front c Finished now before n run is was = was n
taken_then o front c (Together inserter readers) now before n run is was = was n
taken_then o front c (Alone x) now before n run is was = by_take (takes_read x.kind) refl where
  Goal : List SessionNumber → Type 0
  Goal more = taken_behind (Alone x) now before n ≡ record { number = number_at n (more ++ taken_in front); length = end_in o.script.takes (state_at o (history o) (number_at n (more ++ taken_in front))) }

  by_session : (e : Bool) → eqb x.session n ≡ e → takes_read x.kind ≡ true → Goal ((x.session, number_after o front) ∷ [])
  by_session true same takes = rw takes (rw same (is ∙ ap (λ (s : TableState). record { number = number_after o front; length = end_in o.script.takes s }) (sym (read_now o front c run))))
  by_session false other takes = rw takes (rw other (was n))

  by_take : (e : Bool) → takes_read x.kind ≡ e → Goal (cond (takes_read x.kind) ((x.session, number_after o front) ∷ []) [])
  by_take true takes = subst (λ e. Goal (cond e ((x.session, number_after o front) ∷ []) [])) (sym takes) (by_session (eqb x.session n) refl takes)
  by_take false takes = subst (λ e. Goal (cond e ((x.session, number_after o front) ∷ []) [])) (sym takes) (rw takes (was n))

counted_then : (last k now next : Counters) (stats : Bool) → AreNotBelow last now → k ≡ now → AreNotBelow now next → AreNotBelow (cond stats k last) next
counted_then last k now next true h is on = subst (λ q. AreNotBelow q next) (sym is) on
counted_then last k now next false h is on = below_then last now next h on

-- what one round leaves
pub record RoundLeaves (o : Opening) (front : List ScriptRound) (c : List Numbers) (k : Counters) (p mid q : RunState) (t : Target) (next : Option Holding) (u : Target) : Type 0 where
  pub round : IsRoundOf o front c k p next u mid
  pub locks : q.locks ≡ advanced p.locks (next_after o front).round
  pub number : q.number ≡ mid.number
  pub taken : (n : ℕ) → q.taken n ≡ taken_behind (next_after o front).round (taken_now p t) p.taken n
  pub texts : q.texts ≡ []

-- a round whose steps one thread did
turn_round : (o : Opening) (front : List ScriptRound) (c : List Numbers) (told next : Option Holding) (p mid : RunState) (t u : Target) (k : Counters) → MayRun o.defs o.script.lines → IsSound o.defs → IsState o.defs o.base
    → Stands o front c told p t → k ≡ on.counted_in t → k.reads ≤ k.read_requests → IsRoundDone o.defs o.script p k (standing_in o (table_after o front)) (next_after o front).round next u mid → IsRoundOf o front c k p next u mid
turn_round o front c told next p mid t u k may sound base w is few done =
    let last = counted_in no_numbers.counters front c in
    let texts : mid.texts ≡ texts_of (answers_by o front (numbers_of o front k)) =
    done.texts ∙ ap (λ ts. ts ++ texts_of (round_by o.defs o.script p k (standing_in o (table_after o front)) (next_after o front).round)) w.texts ∙ ap texts_of (says o front c told p t k may sound base w) in
    record {
      numbers = numbers_of o front k;
      counted = refl;
      fits = next_in_turn o front c (numbers_of o front k) w.run (record { reads = refl; counted = λ stats. rises last k (subst (λ n. AreNotBelow last n) (sym is) w.counted) few });
      state = done.state;
      number = done.number;
      texts = subst (λ ts. IsPermutation (texts_of (answers_by o front (numbers_of o front k))) ts) (sym texts) (IsPermutation-refl (texts_of (answers_by o front (numbers_of o front k))));
    }

-- the text of the next round
abbrev pub round_text : Opening → List ScriptRound → Numbers → List ℕ
round_text o front ns = flat_map said_text (round_said o (history o) (next_after o front) ns)

-- the numbers of the next round go on
pub next_run : (o : Opening) (front : List ScriptRound) (c : List Numbers) (told : Option Holding) (p : RunState) (t : Target) (ns : Numbers) → MayRun o.defs o.script.lines → Stands o front c told p t → has_steps p.locks ≡ true → IsNext o front c ns
    → HasRun o (front ++ next_after o front ∷ []) (c ++ ns ∷ [])
next_run o front c told p t ns may w left fits = goes_on o front c ns may w.run (subst (λ (z : LockState). has_steps z ≡ true) w.locks left) fits

-- no line is answered twice
pub own_lines : (o : Opening) (front : List ScriptRound) (c : List Numbers) (ns : Numbers) → MayRun o.defs o.script.lines → HasRun o (front ++ next_after o front ∷ []) c → HaveOwnLines (texts_of (answers_by o front ns))
own_lines o front c ns may run =
    answered_once o (history o) front run.first.0 (next_after o front) ns may (run.first.1 ∙ append_assoc front (next_after o front ∷ []) run.first.0)

pub next_stands : (o : Opening) (front : List ScriptRound) (c : List Numbers) (told next : Option Holding) (p mid q : RunState) (t u : Target) (k : Counters) → MayRun o.defs o.script.lines → IsSound o.defs → IsState o.defs o.base
    → (w : Stands o front c told p t) → taking t ≡ o.script.takes → has_steps p.locks ≡ true → k ≡ on.counted_in t → (leaves : RoundLeaves o front c k p mid q t next u) → IsCarried told next t u
    → Stands o (front ++ next_after o front ∷ []) (c ++ leaves.round.numbers ∷ []) next q u
next_stands o front c told next p mid q t u k may sound base w takes left is leaves carried =
    let r = next_after o front in
    let s = table_after o front in
    let xs = steps_of r.round in
    let ns = leaves.round.numbers in
    let last = counted_in no_numbers.counters front c in
    let held = w.table in
    let long = length_is t (standing_in o s) held.0 held.2 ∙ ap (λ q. end_in q s) takes in
    let now : taken_now p t ≡ record { number = number_after o front; length = end_in o.script.takes s } =
    ap (λ n. record { number = n; length = length_in t }) w.number ∙ ap (λ n. record { number = number_after o front; length = n }) long in
    let counted : AreNotBelow (cond (is_stats xs) ns.counters last) (on.counted_in u) =
    subst (λ z. AreNotBelow (cond (is_stats xs) z last) (on.counted_in u)) (sym leaves.round.counted) (counted_then last k (on.counted_in t) (on.counted_in u) (is_stats xs) w.counted is carried.counted) in
    record {
      run = next_run o front c told p t ns may w left leaves.round.fits;
      locks = leaves.locks ∙ ap (λ z. advanced z r.round) w.locks ∙ sym (locks_more o front r);
      table = subst (λ q. HoldsThen next u (standing_in o q)) (ap (λ (z : LockState). state_after o.defs (asks o.script z (is_together r.round)) s xs) w.locks ∙ sym (table_more o front)) leaves.round.state;
      number = leaves.number ∙ leaves.round.number ∙ ap (λ n. n + length (changes o.defs (asks o.script p.locks (is_together r.round)) s xs)) w.number
          ∙ ap (λ (z : LockState). number_after o front + length (changes o.defs (asks o.script z (is_together r.round)) s xs)) w.locks ∙ sym (number_more o front);
      taken = λ n. leaves.taken n ∙ taken_then o front c r.round (taken_now p t) p.taken n w.run now w.taken
          ∙ ap (λ more. record { number = number_at n more; length = end_in o.script.takes (state_at o (history o) (number_at n more)) }) (sym (taken_more front r));
      counted = subst (λ z. AreNotBelow z (on.counted_in u)) (sym (counted_more o front c no_numbers.counters r ns w.run)) counted;
      texts = leaves.texts;
    }

text_on : (start printed : Option (List ℕ)) (text more : List ℕ) → (out : Option (List ℕ)) → IfTold start (Appends text out) → IfTold out (Appends more printed) → IfTold start (Appends (text ++ more) printed)
text_on start printed text more out one two = λ xs told. two (xs ++ text) (one xs told) ∙ ap Some (append_assoc xs text more)

-- the changes of the rounds before it, and its own
touched_more : (o : Opening) (front : List ScriptRound) (from : Before) (told next : Option Holding) (p mid q : RunState) (t u : Target) (r : ScriptRound) → p.number ≡ number_after o front → q.number ≡ mid.number → q.number ≡ number_after o (front ++ r ∷ [])
    → IsTouchedBy from.files told from.table t 0 (number_after o front) → IsTouchedBy told next t u p.number mid.number → IsTouchedBy from.files next from.table u 0 (number_after o (front ++ r ∷ []))
touched_more o front from told next p mid q t u r before same now so_far more =
    touched_then from.files told next from.table t u 0 (number_after o front) (number_after o (front ++ r ∷ [])) so_far (touched_as told next t u p.number mid.number (number_after o front) (number_after o (front ++ r ∷ [])) before (sym same ∙ now) more)

pub goes_round : (o : Opening) (from : Before) (told next out printed : _) (p mid q : RunState) (t u : Target) (k : Counters) → MayRun o.defs o.script.lines → IsSound o.defs → IsState o.defs o.base
    → (w : HasDone o from told p t out) → taking t ≡ o.script.takes → has_steps p.locks ≡ true → k ≡ on.counted_in t → (leaves : RoundLeaves o w.front w.numbers k p mid q t next u) → IsCarried told next t u → IsTouchedBy told next t u p.number mid.number
    → IfTold out (Appends (round_text o w.front leaves.round.numbers) printed) → HasDone o from next q u printed
goes_round o from told next out printed p mid q t u k may sound base w takes left is leaves carried more text =
    let stands = next_stands o w.front w.numbers told next p mid q t u k may sound base w.stands takes left is leaves carried in
    let ns = leaves.round.numbers in
    record {
      front = w.front ++ next_after o w.front ∷ [];
      numbers = w.numbers ++ ns ∷ [];
      stands = stands;
      text = subst (λ xs. IfTold from.printed (Appends xs printed)) (sym (text_more o w.front w.numbers (next_after o w.front) ns w.stands.run)) (text_on from.printed printed (run_text o w.front w.numbers) (round_text o w.front ns) out w.text text);
      touched = touched_more o w.front from told next p mid q t u (next_after o w.front) w.stands.number leaves.number stands.number w.touched more;
    }

-- ---- the end

all_rounds : (o : Opening) (front back : List ScriptRound) → rounds_of o ≡ front ++ back → has_steps (locks_after o front) ≡ false → front ≡ rounds_of o
all_rounds o front [] e none = sym (e ∙ append-nil front)
all_rounds o front (p ∷ back) e none =
    let f = follows_history o front back p e in
    absurd (let k : true ≡ false = sym f.left ∙ ap has_steps f.locks ∙ none in cc)

pub ends_run : (o : Opening) (from : Before) (told out : _) (p : RunState) (t : Target) → (w : HasDone o from told p t out) → has_steps p.locks ≡ false → HasEnded o from told t out
ends_run o from told out p t w none =
    let over = subst (λ (z : LockState). has_steps z ≡ false) w.stands.locks none in
    let all = all_rounds o w.front w.stands.run.first.0 w.stands.run.first.1 over in
    record {
      text = record {
        numbers = w.numbers;
        within = ends_within o w.front w.numbers w.stands.run over;
        text = subst (λ xs. IfTold from.printed (Appends xs out)) (sym (ends_text o w.front w.numbers w.stands.run over)) w.text;
      };
      table = subst (λ q. HoldsThen told t (standing_in o q)) (ends_table o w.front w.numbers w.stands.run over) w.stands.table;
      touched = subst (λ (ps : List ScriptRound). IsTouchedBy from.files told from.table t 0 (number_after o ps)) all w.touched;
    }

-- ---- a run that stops

take_within : (ys more : List ℕ) (k : ℕ) → k ≤ length ys → take k (ys ++ more) ≡ take k ys
take_within ys more zero le = refl
take_within [] more (suc k) le = absurd (omega (arith, le))
take_within (y ∷ ys) more (suc k) le = ap (λ r. y ∷ r) (take_within ys more k (omega (arith, le)))

take_behind : (text rest : List ℕ) (k : ℕ) → take (length text + k) (text ++ rest) ≡ text ++ take k rest
take_behind [] rest k = let same : 0 + k ≡ k = omega arith in ap (λ n. take n rest) same
take_behind (x ∷ text) rest k = let same : suc (length text) + k ≡ suc (length text + k) = omega arith in ap (λ n. take n (x ∷ (text ++ rest))) same ∙ ap (λ r. x ∷ r) (take_behind text rest k)

pub front_part : (whole text rest : List ℕ) → whole ≡ text ++ rest → (k : ℕ) (ys : List ℕ) → k ≤ length ys → (more : List ℕ) → rest ≡ ys ++ more → (old : List ℕ) (printed : Option (List ℕ)) → printed ≡ Some ((old ++ text) ++ take k ys) → AppendsPart whole printed old
front_part whole text rest is k ys le more behind old printed shown =
    let n = length text + k in
    let all : whole ≡ (text ++ ys) ++ more = is ∙ ap (λ r. text ++ r) behind ∙ sym (append_assoc text ys more) in
    let long : length whole ≡ (length text + length ys) + length more = ap length all ∙ length-append (text ++ ys) more ∙ ap (λ m. m + length more) (length-append text ys) in
    let first : take n whole ≡ text ++ take k ys = ap (take n) (is ∙ ap (λ r. text ++ r) behind) ∙ take_behind text (ys ++ more) k ∙ ap (λ r. text ++ r) (take_within ys more k le) in
    (n, omega (arith, long, le), shown ∙ ap Some (append_assoc old text (take k ys) ∙ ap (λ r. old ++ r) (sym first)))

-- of a round's text a first part was printed, or nothing
pub stops_in : (o : Opening) (from : Before) (told out printed : _) (p : RunState) (t : Target) (ns : Numbers) → (w : HasDone o from told p t out) → HasRun o (w.front ++ next_after o w.front ∷ []) (w.numbers ++ ns ∷ [])
    → IfTold out (AppendsPart (flat_map said_text (round_said o (history o) (next_after o w.front) ns)) printed) → IsPrintedPart o from.printed printed
stops_in o from told out printed p t ns w run part =
    let e = stops o (w.front ++ next_after o w.front ∷ []) (w.numbers ++ ns ∷ []) run in
    let piece = flat_map said_text (round_said o (history o) (next_after o w.front) ns) in
    let text = run_text o w.front w.numbers in
    let whole : shell_text o e.0 ≡ text ++ (piece ++ e.2) =
    e.3 ∙ ap (λ xs. xs ++ e.2) (text_more o w.front w.numbers (next_after o w.front) ns w.stands.run) ∙ append_assoc text piece e.2 in
    record { numbers = e.0; within = e.1; text = λ old is. let k = part (old ++ text) (w.text old is) in front_part (shell_text o e.0) text (piece ++ e.2) whole k.0 piece k.1 e.2 refl old printed k.2 }

pub stops_between : (o : Opening) (from : Before) (told out printed : _) (p : RunState) (t : Target) → HasDone o from told p t out → printed ≡ out → IsPrintedPart o from.printed printed
stops_between o from told out printed p t w same =
    let e = stops o w.front w.numbers w.stands.run in
    let text = run_text o w.front w.numbers in
    record { numbers = e.0; within = e.1; text = λ old is. front_part (shell_text o e.0) text e.2 e.3 0 [] (omega arith) e.2 refl old printed (same ∙ w.text old is ∙ ap Some (sym (append-nil (old ++ text)))) }

-- ---- one round, as the table and the output tell it

-- the round is the one that comes next
round_next : (o : Opening) (from : Before) (told out : _) (p : RunState) (t : Target) (round : Round) → (w : HasDone o from told p t out) → taking t ≡ o.script.takes → round ≡ next_round p.locks (holes_in t) → round ≡ (next_after o w.front).round
round_next o from told out p t round w takes is =
    let held = w.stands.table in
    is ∙ ap (λ (z : LockState). next_round z (holes_in t)) w.stands.locks ∙ ap (λ b. next_round (locks_after o w.front) b) (holes_are t (standing_in o (table_after o w.front)) held.0 held.2 ∙ ap (λ q. has_hole q (table_after o w.front)) takes)

-- a round of kind Together whose runs went side by side
side_round : (o : Opening) (front : List ScriptRound) (c : List Numbers) (told next : Option Holding) (p mid : RunState) (t u : Target) (k : Counters) (round : Round) → MayRun o.defs o.script.lines → IsSound o.defs → IsState o.defs o.base → has_steps p.locks ≡ true → Stands o front c told p t
    → o.script.takes ≡ in_table → (next_after o front).round ≡ round → HasOwnRuns round → IsDoneBeside o.defs o.script.lines p (standing_in o (table_after o front)) round next u mid → IsRoundOf o front c k p next u mid
side_round o front c told next p mid t u k Finished may sound base left w takes is own done = absurd done
side_round o front c told next p mid t u k (Alone x) may sound base left w takes is own done = absurd done
side_round o front c told next p mid t u k (Together inserter readers) may sound base left w takes is own done =
    let at : StandsAt o front c p = record { may = may; sound = sound; base = base; run = w.run; left = subst (λ (z : LockState). has_steps z ≡ true) w.locks left; locks = w.locks; number = w.number; taken = w.taken } in
    beside_round o front c k p mid next u inserter readers at takes is own.1 w.texts done

-- what is known where a round begins
pub record RoundBegins (t : Target) (lines : List Line) (base : Standing) (p : RunState) (round : Round) (k : Counters) : Type 0 where
  pub may : MayRun (defs_in t) lines
  pub sound : IsSound (defs_in t)
  pub state : IsState (defs_in t) base.table
  pub lawful : IsLawful p.locks.sessions
  pub left : has_steps p.locks ≡ true
  pub counted : k ≡ on.counted_in t
  pub fewer : k.reads ≤ k.read_requests
  pub next : round ≡ next_round p.locks (holes_in t)

-- what the round did, where the target stood for a state
abbrev pub RoundDone : Option Holding → Target → List Line → RunState → Counters → Round → Option Holding → Target → RunState → Type 0
RoundDone told t lines p k round next u mid = IfHolds told t (λ m s. IsDone (defs_in t) (script_on t lines) p k s round next u mid)

leaves_of : (t u : Target) (lines : List Line) (setting : ℕ) (base : Standing) (from : Before) (told next out : _) (p mid q : RunState) (round : Round) (k : Counters) → RoundBegins t lines base p round k → (w : HasDone (opening_on (defs_in t) (script_on t lines) setting base) from told p t out)
    → RoundDone told t lines p k round next u mid → ((n : ℕ) → mid.taken n ≡ taken_behind round (taken_now p t) p.taken n) → q ≡ record mid { locks = advanced p.locks round; texts = [] }
    → RoundLeaves (opening_on (defs_in t) (script_on t lines) setting base) w.front w.numbers k p mid q t next u
leaves_of t u lines setting base from told next out p mid q round k g w done taken after =
    let o = opening_on (defs_in t) (script_on t lines) setting base in
    let held = w.stands.table in
    let same = round_next o from told out p t round w refl g.next in
    let own : HasOwnRuns round = subst HasOwnRuns (sym g.next) (own_runs p.locks (holes_in t) g.lawful) in
    record {
      round = elim (done held.0 held.1 (standing_in o (table_after o w.front)) held.2) [
        | inl turn ↦ turn_round o w.front w.numbers told next p mid t u k g.may g.sound g.state w.stands g.counted g.fewer (subst (λ (r : Round). IsRoundDone (defs_in t) (script_on t lines) p k (standing_in o (table_after o w.front)) r next u mid) same turn)
        | inr side ↦ side_round o w.front w.numbers told next p mid t u k round g.may g.sound g.state g.left w.stands side.0 (sym same) own side.1
      ];
      locks = ap (λ (z : RunState). z.locks) after ∙ ap (λ r. advanced p.locks r) same;
      number = ap (λ (z : RunState). z.number) after;
      taken = λ n. ap (λ (z : RunState). z.taken n) after ∙ taken n ∙ ap (λ r. taken_behind r (taken_now p t) p.taken n) same;
      texts = ap (λ (z : RunState). z.texts) after;
    }

-- what was printed in order of the lines is the text of the round, and no line is answered twice
pub record IsShown (o : Opening) (front : List ScriptRound) (ns : Numbers) (noted : List LineText) : Type 0 where
  pub own : HaveOwnLines noted
  pub text : joined (in_line_order noted) ≡ round_text o front ns

round_shown : (o : Opening) (front : List ScriptRound) (c : List Numbers) (ns : Numbers) (noted : List LineText) → MayRun o.defs o.script.lines → HasRun o (front ++ next_after o front ∷ []) c → IsPermutation (texts_of (answers_by o front ns)) noted → IsShown o front ns noted
round_shown o front c ns noted may run perm =
    let said = answers_by o front ns in
    let own = own_lines o front c ns may run in
    record {
      own = texts_own (texts_of said) noted perm own;
      text = ap joined (texts_order (texts_of said) noted perm own) ∙ sym (texts_in_order said);
    }

pub round_on : (t u : Target) (lines : List Line) (setting : ℕ) (base : Standing) (from : Before) (told next out printed : _) (p mid q : RunState) (round : Round) (k : Counters) → RoundBegins t lines base p round k
    → RoundDone told t lines p k round next u mid → ((n : ℕ) → mid.taken n ≡ taken_behind round (taken_now p t) p.taken n) → q ≡ record mid { locks = advanced p.locks round; texts = [] }
    → IsCarried told next t u → IsTouchedBy told next t u p.number mid.number → (HaveOwnLines mid.texts → IfTold out (Appends (joined (in_line_order mid.texts)) printed))
    → HasDone (opening_on (defs_in t) (script_on t lines) setting base) from told p t out → HasDone (opening_on (defs_in t) (script_on t lines) setting base) from next q u printed
round_on t u lines setting base from told next out printed p mid q round k g done taken after carried more shown w =
    let o = opening_on (defs_in t) (script_on t lines) setting base in
    let leaves = leaves_of t u lines setting base from told next out p mid q round k g w done taken after in
    let ns = leaves.round.numbers in
    let run = next_run o w.front w.numbers told p t ns g.may w.stands g.left leaves.round.fits in
    let text = round_shown o w.front (w.numbers ++ ns ∷ []) ns mid.texts g.may run leaves.round.texts in
    goes_round o from told next out printed p mid q t u k g.may g.sound g.state w refl g.left g.counted leaves carried more (subst (λ xs. IfTold out (Appends xs printed)) text.text (shown text.own))

pub round_part : (t u : Target) (lines : List Line) (setting : ℕ) (base : Standing) (from : Before) (told next out printed : _) (p mid : RunState) (round : Round) (k : Counters) → RoundBegins t lines base p round k
    → RoundDone told t lines p k round next u mid → ((n : ℕ) → mid.taken n ≡ taken_behind round (taken_now p t) p.taken n)
    → (HaveOwnLines mid.texts → IfTold out (AppendsPart (joined (in_line_order mid.texts)) printed))
    → HasDone (opening_on (defs_in t) (script_on t lines) setting base) from told p t out → IsPrintedPart (opening_on (defs_in t) (script_on t lines) setting base) from.printed printed
round_part t u lines setting base from told next out printed p mid round k g done taken shown w =
    let o = opening_on (defs_in t) (script_on t lines) setting base in
    let leaves = leaves_of t u lines setting base from told next out p mid (record mid { locks = advanced p.locks round; texts = [] }) round k g w done taken refl in
    let ns = leaves.round.numbers in
    let run = next_run o w.front w.numbers told p t ns g.may w.stands g.left leaves.round.fits in
    let text = round_shown o w.front (w.numbers ++ ns ∷ []) ns mid.texts g.may run leaves.round.texts in
    stops_in o from told out printed p t ns w run (subst (λ xs. IfTold out (AppendsPart xs printed)) text.text (shown text.own))

-- ---- whether a step is left

pub is_over : (r : LockState) (holes : Bool) (round : Round) → round ≡ next_round r holes → round ≡ Finished → has_steps r ≡ false
is_over r holes round is over = finished r holes (sym is ∙ over)

over_round : (r : LockState) (holes : Bool) → has_steps r ≡ false → next_round r holes ≡ Finished
unfolding next_round
over_round r holes none = ap (λ b. cond (not b) Finished (alone (case_at_once r.sessions) (alone (case_write_held r.sessions) (alone (case_write r holes) (or_else (case_write_waits r holes) (alone (case_takes_read r.sessions) (case_together r.sessions))))))) none

pub is_left : (r : LockState) (holes : Bool) (round : Round) → round ≡ next_round r holes → (round ≡ Finished → ⊥) → has_steps r ≡ true
is_left r holes round is other = by_steps (has_steps r) refl where
  by_steps : (b : Bool) → has_steps r ≡ b → has_steps r ≡ true
  by_steps true some = some
  by_steps false none = absurd (other (is ∙ over_round r holes none))

-- of the text of a round a first part was printed
cut_text : (o : Opening) (front : List ScriptRound) (c : List Numbers) (ns : Numbers) (start out printed : Option (List ℕ)) → HasRun o front c → IfTold start (Appends (run_text o front c) out) → IfTold out (AppendsPart (round_text o front ns) printed)
    → IfTold start (λ xs. (n : ℕ) × (length (run_text o front c) ≤ n) × (n ≤ length (run_text o (front ++ next_after o front ∷ []) (c ++ ns ∷ [])))
    × (printed ≡ Some (xs ++ take n (run_text o (front ++ next_after o front ∷ []) (c ++ ns ∷ [])))))
cut_text o front c ns start out printed run before part = λ xs told.
    let text = run_text o front c in
    let piece = round_text o front ns in
    let whole = run_text o (front ++ next_after o front ∷ []) (c ++ ns ∷ []) in
    let is : whole ≡ text ++ piece = text_more o front c (next_after o front) ns run in
    let j = part (xs ++ text) (before xs told) in
    let le = j.1 in
    let long : length whole ≡ length text + length piece = ap length is ∙ length-append text piece in
    let first : take (length text + j.0) whole ≡ text ++ take j.0 piece = ap (take (length text + j.0)) is ∙ take_behind text piece j.0 in
    (length text + j.0, omega arith, omega (arith, le, long), j.2 ∙ ap Some (append_assoc xs text (take j.0 piece) ∙ ap (λ r. xs ++ r) (sym first)))

-- behind a round whose text was not printed whole the table stands for its changes too
pub round_behind : (t u : Target) (lines : List Line) (setting : ℕ) (base : Standing) (from : Before) (told next out printed : _) (p mid : RunState) (round : Round) (k : Counters) → RoundBegins t lines base p round k
    → RoundDone told t lines p k round next u mid → ((n : ℕ) → mid.taken n ≡ taken_behind round (taken_now p t) p.taken n) → IsCarried told next t u → IsTouchedBy told next t u p.number mid.number
    → (HaveOwnLines mid.texts → IfTold out (AppendsPart (joined (in_line_order mid.texts)) printed))
    → HasDone (opening_on (defs_in t) (script_on t lines) setting base) from told p t out → StandsBehind (opening_on (defs_in t) (script_on t lines) setting base) from next u printed
round_behind t u lines setting base from told next out printed p mid round k g done taken carried more shown w =
    let o = opening_on (defs_in t) (script_on t lines) setting base in
    let after : RunState = record mid { locks = advanced p.locks round; texts = [] } in
    let leaves = leaves_of t u lines setting base from told next out p mid after round k g w done taken refl in
    let ns = leaves.round.numbers in
    let stands = next_stands o w.front w.numbers told next p mid after t u k g.may g.sound g.state w.stands refl g.left g.counted leaves carried in
    let text = round_shown o w.front (w.numbers ++ ns ∷ []) ns mid.texts g.may stands.run leaves.round.texts in
    record {
      front = w.front;
      last = next_after o w.front;
      cut = record {
        back = stands.run.first.0;
        rounds = stands.run.first.1 ∙ append_assoc w.front (next_after o w.front ∷ []) stands.run.first.0;
        numbers = w.numbers;
        own = ns;
        run = stands.run;
        text = cut_text o w.front w.numbers ns from.printed out printed w.stands.run w.text (subst (λ xs. IfTold out (AppendsPart xs printed)) text.text (shown text.own));
      };
      table = stands.table;
      touched = touched_more o w.front from told next p mid after t u (next_after o w.front) w.stands.number refl stands.number w.touched more;
    }
