-- A run goes on by the next round, prints its rounds one after the other, and ends with the script.
use Rattle.std.proofs.Common.{◌≡◌, ℕ, ◌≤◌, List, [], ◌∷◌, ◌++◌, fold, take, length, Bool, true, false, cond, refl, ap, sym, ◌∙◌, arith, subst, length-append, append_assoc, append-nil}
use Rattle.std.specs.List.{flat_map}
use Rattle.std.proofs.lemmas.List.{map-append, length-map}
use Rattle.std.proofs.lemmas.List.Sums.{fold-append}
use Rattle.std.proofs.lemmas.Grind.{flat_map-append}
use Rattle.std.proofs.Math.Seq.{take-append_seam}
use Rattle.myi_keycache.specs.declared.setup.Counters.{Counters}
use Rattle.myi_state.specs.State.{TableState}
use Rattle.myi_state.specs.Changes.{Change, replay}
use Rattle.myi_locks.specs.declared.steps.Round.{Round}
use Rattle.myi_locks.specs.Rounds.{LockState, next_round, has_steps}
use Rattle.myi_locks.specs.Done.{steps_of, advanced}
use Rattle.myi_history.specs.Lines.{MayRun}
use Rattle.myi_history.specs.History.{Opening, ScriptRound, changes_in, round_from, state_behind, number_behind, first_locks, rounds_of, history_in, history, locks_behind, has_hole}
use Rattle.myi_history.specs.Answers.{said_text}
use Rattle.myi_history.specs.Text.{Numbers, said_in, round_said, shell_text, state_at}
use Rattle.myi_history.specs.Bounds.{SessionNumber, taken_by, nothing_past, FitFrom, AreWithin}
use Rattle.myi_history.specs.OneThread.{counted_by}
use Rattle.myi_history.specs.Running.{taken_in, counted_in, locks_after, table_after, number_after, next_after, run_text, past_after, HasRun, IsNext}
use Rattle.myi_history.proofs.ReplayLemmas.{replay_append, replay_round, follows_history, none_left}
use Rattle.myi_history.proofs.PastLemmas.{as_many_fit, fit_join, low_after, fewer_after, rest_of, rest_fits}

-- ---- behind one round more

pub locks_more : (o : Opening) (front : List ScriptRound) (p : ScriptRound) → locks_after o (front ++ p ∷ []) ≡ advanced (locks_after o front) p.round
locks_more o front p = fold-append (λ (r : LockState) (q : ScriptRound). advanced r q.round) (first_locks o) front (p ∷ [])

history_next : (o : Opening) (front : List ScriptRound) (p : ScriptRound) → history_in o (front ++ p ∷ []) ≡ history_in o front ++ changes_in o p
history_next o front p = flat_map-append (changes_in o) front (p ∷ []) ∙ ap (λ cs. history_in o front ++ cs) (append-nil (changes_in o p))

pub table_more : (o : Opening) (front : List ScriptRound) → table_after o (front ++ next_after o front ∷ []) ≡ state_behind o (next_after o front)
table_more o front =
    let p : ScriptRound = next_after o front in
    ap (λ cs. replay o.defs o.base cs) (history_next o front p) ∙ replay_append o.defs o.base (history_in o front) (changes_in o p) ∙ replay_round o p

pub number_more : (o : Opening) (front : List ScriptRound) → number_after o (front ++ next_after o front ∷ []) ≡ number_behind o (next_after o front)
number_more o front = ap length (history_next o front (next_after o front)) ∙ length-append (history_in o front) (changes_in o (next_after o front))

abbrev pub also_taken : List SessionNumber → ScriptRound → List SessionNumber
also_taken taken p = taken_by p.before p.round ++ taken

pub taken_more : (front : List ScriptRound) (p : ScriptRound) → taken_in (front ++ p ∷ []) ≡ taken_by p.before p.round ++ taken_in front
taken_more front p = fold-append also_taken [] front (p ∷ [])

-- ---- numbers of rounds, one list behind the other

pub as_many : (o : Opening) (front : List ScriptRound) (c : List Numbers) → HasRun o front c → length c ≡ length front
as_many o front c has = as_many_fit o nothing_past front c has.within

counted_join : (last : Counters) (front : List ScriptRound) (c : List Numbers) (p : ScriptRound) (ns : Numbers) → length c ≡ length front → counted_in last (front ++ p ∷ []) (c ++ ns ∷ []) ≡ counted_by (counted_in last front c) p ns
counted_join last [] [] p ns e = refl
counted_join last [] (m ∷ c) p ns e = absurd (omega arith)
counted_join last (q ∷ front) [] p ns e = absurd (omega arith)
counted_join last (q ∷ front) (m ∷ c) p ns e = counted_join (counted_by last q m) front c p ns (omega arith)

pub counted_more : (o : Opening) (front : List ScriptRound) (c : List Numbers) (last : Counters) (p : ScriptRound) (ns : Numbers) → HasRun o front c → counted_in last (front ++ p ∷ []) (c ++ ns ∷ []) ≡ counted_by (counted_in last front c) p ns
counted_more o front c last p ns has = counted_join last front c p ns (as_many o front c has)

said_join : (o : Opening) (h : List Change) (front back : List ScriptRound) (c e : List Numbers) → length c ≡ length front → said_in o h (front ++ back) (c ++ e) ≡ said_in o h front c ++ said_in o h back e
said_join o h [] back [] e many = refl
said_join o h [] back (m ∷ c) e many = absurd (omega arith)
said_join o h (q ∷ front) back [] e many = absurd (omega arith)
said_join o h (q ∷ front) back (m ∷ c) e many =
    ap (λ k. round_said o h q m ++ k) (said_join o h front back c e (omega arith)) ∙ sym (append_assoc (round_said o h q m) (said_in o h front c) (said_in o h back e))

text_join : (o : Opening) (front back : List ScriptRound) (c e : List Numbers) → length c ≡ length front → run_text o (front ++ back) (c ++ e) ≡ run_text o front c ++ run_text o back e
text_join o front back c e many =
    ap (λ k. flat_map said_text k) (said_join o (history o) front back c e many) ∙ flat_map-append said_text (said_in o (history o) front c) (said_in o (history o) back e)

pub text_more : (o : Opening) (front : List ScriptRound) (c : List Numbers) (p : ScriptRound) (ns : Numbers) → HasRun o front c
    → run_text o (front ++ p ∷ []) (c ++ ns ∷ []) ≡ run_text o front c ++ flat_map said_text (round_said o (history o) p ns)
text_more o front c p ns has =
    text_join o front (p ∷ []) c (ns ∷ []) (as_many o front c has)
    ∙ ap (λ k. run_text o front c ++ flat_map said_text k) (append-nil (round_said o (history o) p ns))

-- ---- the next round

pub has_begun : (o : Opening) → HasRun o [] []
has_begun o = record { first = (rounds_of o, refl); within = refl }

round_is : (o : Opening) (p : ScriptRound) (r : LockState) (s : TableState) (n : ℕ) → p.locks ≡ r → p.state ≡ s → p.before ≡ n → p.round ≡ next_round p.locks (has_hole o.script.takes s) → p ≡ round_from o.script.takes r s n
round_is o p r s n locks state before round =
    let a : Round → ScriptRound = λ q. record { locks = p.locks; state = p.state; before = p.before; round = q } in
    let b : LockState → ScriptRound = λ q. record { locks = q; state = p.state; before = p.before; round = next_round q (has_hole o.script.takes s) } in
    let c : TableState → ScriptRound = λ q. record { locks = r; state = q; before = p.before; round = next_round r (has_hole o.script.takes s) } in
    let d : ℕ → ScriptRound = λ q. record { locks = r; state = s; before = q; round = next_round r (has_hole o.script.takes s) } in
    ap a round ∙ ap b locks ∙ ap c state ∙ ap d before

pub next_is : (o : Opening) (front back : List ScriptRound) (p : ScriptRound) → rounds_of o ≡ front ++ p ∷ back → p ≡ next_after o front
next_is o front back p e =
    let f = follows_history o front back p e in
    round_is o p (locks_after o front) (table_after o front) (number_after o front) f.locks f.state f.before f.round

pub next_stands : (o : Opening) (front back : List ScriptRound) → MayRun o.defs o.script.lines → rounds_of o ≡ front ++ back → has_steps (locks_after o front) ≡ true
    → (more : List ScriptRound) × (back ≡ next_after o front ∷ more)
next_stands o front [] run e left =
    let same : has_steps (locks_behind (first_locks o) (rounds_of o)) ≡ has_steps (locks_after o front) = ap (λ ps. has_steps (locks_behind (first_locks o) ps)) (e ∙ append-nil front) in
    absurd (let k : true ≡ false = sym left ∙ sym same ∙ none_left o run in cc)
next_stands o front (p ∷ more) run e left = (more, ap (λ q. q ∷ more) (next_is o front more p e))

pub goes_on : (o : Opening) (front : List ScriptRound) (c : List Numbers) (ns : Numbers) → MayRun o.defs o.script.lines → HasRun o front c → has_steps (locks_after o front) ≡ true → IsNext o front c ns
    → HasRun o (front ++ next_after o front ∷ []) (c ++ ns ∷ [])
goes_on o front c ns run has left next =
    let p : ScriptRound = next_after o front in
    let more = next_stands o front has.first.0 run has.first.1 left in
    record {
      first = (more.0, has.first.1 ∙ ap (λ ps. front ++ ps) more.1 ∙ sym (append_assoc front (p ∷ []) more.0));
      within = fit_join o nothing_past front (p ∷ []) c (ns ∷ []) has.within (next, refl);
    }

-- ---- the end

none_behind : (o : Opening) (front back : List ScriptRound) → rounds_of o ≡ front ++ back → has_steps (locks_after o front) ≡ false → rounds_of o ≡ front
none_behind o front [] e none = e ∙ append-nil front
none_behind o front (p ∷ back) e none =
    let f = follows_history o front back p e in
    absurd (let k : true ≡ false = sym f.left ∙ ap has_steps f.locks ∙ none in cc)

all_done : (o : Opening) (front : List ScriptRound) (c : List Numbers) → HasRun o front c → has_steps (locks_after o front) ≡ false → rounds_of o ≡ front
all_done o front c has none = none_behind o front has.first.0 has.first.1 none

pub ends_within : (o : Opening) (front : List ScriptRound) (c : List Numbers) → HasRun o front c → has_steps (locks_after o front) ≡ false → AreWithin o c
ends_within o front c has none = subst (λ ps. FitFrom o nothing_past ps c) (sym (all_done o front c has none)) has.within

pub ends_text : (o : Opening) (front : List ScriptRound) (c : List Numbers) → HasRun o front c → has_steps (locks_after o front) ≡ false → shell_text o c ≡ run_text o front c
ends_text o front c has none = ap (λ ps. flat_map said_text (said_in o (history o) ps c)) (all_done o front c has none)

pub ends_table : (o : Opening) (front : List ScriptRound) (c : List Numbers) → HasRun o front c → has_steps (locks_after o front) ≡ false → table_after o front ≡ replay o.defs o.base (history o)
ends_table o front c has none = ap (λ ps. replay o.defs o.base (history_in o ps)) (sym (all_done o front c has none))

-- ---- a run that stops could have gone on

pub stops : (o : Opening) (front : List ScriptRound) (c : List Numbers) → HasRun o front c → (e : List Numbers) × AreWithin o e × (rest : List ℕ) × (shell_text o e ≡ run_text o front c ++ rest)
stops o front c has =
    let back : List ScriptRound = has.first.0 in
    let past = past_after o front c in
    let more : List Numbers = rest_of past.counters past.taken back in (
      c ++ more,
      subst (λ ps. FitFrom o nothing_past ps (c ++ more)) (sym has.first.1)
          (fit_join o nothing_past front back c more has.within (rest_fits o front back past has.first.1 (low_after o front c has) (fewer_after o front c has))),
      run_text o back more,
      ap (λ ps. flat_map said_text (said_in o (history o) ps (c ++ more))) has.first.1 ∙ text_join o front back c more (as_many o front c has),
    )

-- ---- the table of the history so far

pub history_is : (o : Opening) (front back : List ScriptRound) → rounds_of o ≡ front ++ back → history o ≡ history_in o front ++ history_in o back
history_is o front back e = ap (λ ps. history_in o ps) e ∙ flat_map-append (changes_in o) front back

pub table_now : (o : Opening) (front back : List ScriptRound) → rounds_of o ≡ front ++ back → state_at o (history o) (number_after o front) ≡ table_after o front
table_now o front back e =
    ap (λ cs. replay o.defs o.base cs) (ap (λ cs. take (number_after o front) cs) (history_is o front back e) ∙ take-append_seam (history_in o front) (history_in o back))

pub read_now : (o : Opening) (front : List ScriptRound) (c : List Numbers) → HasRun o front c → state_at o (history o) (number_after o front) ≡ table_after o front
read_now o front c has = table_now o front has.first.0 has.first.1
