-- The table of a round is the replay of the history so far, and the rounds go to the end.
use Rattle.std.proofs.Common.{◌≡◌, ℕ, zero, suc, ◌+◌, ◌≤◌, List, [], ◌∷◌, ◌++◌, length, Option, Some, None, Err, Bool, true, false, cond, refl, ap, sym, ◌∙◌, arith, subst, length-append, append_assoc, append-nil}
use Rattle.myi_defs.specs.declared.types.Defs.{Defs}
use Rattle.myi_state.specs.State.{TableState}
use Rattle.myi_state.specs.Changes.{Change, replay, accepted}
use Rattle.myi_tablestate.specs.Keyed.{KeyedRefusal, keyed_step, keyed_step_by, keyed_refusal, if_made}
use Rattle.myi_locks.specs.declared.steps.Step.{Step}
use Rattle.myi_locks.specs.Rounds.{LockState, next_round, has_steps}
use Rattle.myi_locks.specs.Done.{steps_of, advanced}
use Rattle.myi_locks.specs.Laws.{steps_left, IsLawful}
use Rattle.myi_locks.proofs.CallerLemmas.{kept, fewer, finished, opens, rounds_end}
use Rattle.myi_history.specs.Lines.{script_steps, MayRun}
use Rattle.myi_history.specs.History.{is_list, Opening, ScriptRound, accepted_of, stepped_by, changes, state_after, changes_in, round_from, state_behind, number_behind, rounds, first_locks, rounds_of, history_in, history, locks_behind, has_hole, asked_in}
use Rattle.myi_history.specs.OneThread.{FollowsHistory}
use Rattle.myi_history.proofs.LineLemmas.{steps_run}

pub replay_append : (d : Defs) (s : TableState) (cs ds : List Change) → replay d s (cs ++ ds) ≡ replay d (replay d s cs) ds
replay_append d s [] ds = refl
replay_append d s (c ∷ cs) ds = replay_append d (accepted d s c).state cs ds

-- a step as its refusal says
by_refusal : (d : Defs) (s : TableState) (c : Change) (r : Option KeyedRefusal) → replay d s (if_made c [] (keyed_step_by s (accepted d s c) r).reply) ≡ (keyed_step_by s (accepted d s c) r).state
by_refusal d s c None = refl
by_refusal d s c (Some r) = refl

one_step : (d : Defs) (s : TableState) (o : Option Change) → replay d s (accepted_of d s o) ≡ stepped_by d s o
unfolding keyed_step
one_step d s None = refl
one_step d s (Some c) = by_refusal d s c (keyed_refusal d s c)

-- a refused change
pub not_made : (d : Defs) (s : TableState) (c : Change) (r : KeyedRefusal) → (keyed_step d s c).reply ≡ Err r → accepted_of d s (Some c) ≡ []
not_made d s c r e = rw e refl

stays_by : (s : TableState) (d : Defs) (c : Change) (q : Option KeyedRefusal) (r : KeyedRefusal) → (keyed_step_by s (accepted d s c) q).reply ≡ Err r → (keyed_step_by s (accepted d s c) q).state ≡ s
stays_by s d c None r e = absurd (let k = e in cc)
stays_by s d c (Some q) r e = refl

pub stays : (d : Defs) (s : TableState) (c : Change) (r : KeyedRefusal) → (keyed_step d s c).reply ≡ Err r → stepped_by d s (Some c) ≡ s
unfolding keyed_step
stays d s c r e = stays_by s d c (keyed_refusal d s c) r e

-- the changes of steps lead to the table behind them
pub replay_changes : (d : Defs) (asked : Step → Option Change) (s : TableState) (xs : List Step) → replay d s (changes d asked s xs) ≡ state_after d asked s xs
replay_changes d asked s [] = refl
replay_changes d asked s (x ∷ xs) =
    replay_append d s (accepted_of d s (asked x)) (changes d asked (stepped_by d s (asked x)) xs)
    ∙ ap (λ q. replay d q (changes d asked (stepped_by d s (asked x)) xs)) (one_step d s (asked x))
    ∙ replay_changes d asked (stepped_by d s (asked x)) xs

pub replay_round : (o : Opening) (p : ScriptRound) → replay o.defs p.state (changes_in o p) ≡ state_behind o p
replay_round o p = replay_changes o.defs (asked_in o.script p) p.state (steps_of p.round)

-- ---- from a round on

-- what stands before a round, behind these rounds, where the first has these locks and this table
pub record FollowsFrom (o : Opening) (r : LockState) (s : TableState) (n : ℕ) (front : List ScriptRound) (p : ScriptRound) : Type 0 where
  pub locks : p.locks ≡ locks_behind r front
  pub left : has_steps p.locks ≡ true
  pub state : p.state ≡ replay o.defs s (history_in o front)
  pub before : p.before ≡ n + length (history_in o front)
  pub round : p.round ≡ next_round p.locks (has_hole o.script.takes p.state)

abbrev pub later_rounds : Opening → ℕ → LockState → TableState → ℕ → List ScriptRound
later_rounds o fuel r s n = rounds o fuel (advanced r (next_round r (has_hole o.script.takes s))) (state_behind o (round_from o.script.takes r s n)) (number_behind o (round_from o.script.takes r s n))

found_first : (o : Opening) (r : LockState) (s : TableState) (n : ℕ) (p : ScriptRound) → has_steps r ≡ true → round_from o.script.takes r s n ≡ p → FollowsFrom o r s n [] p
found_first o r s n p left same =
    let P : ScriptRound → Type 0 = λ q. FollowsFrom o r s n [] q in
    subst P same (record { locks = refl; left = left; state = refl; before = omega arith; round = refl })

found_later : (o : Opening) (r : LockState) (s : TableState) (n : ℕ) (q : ScriptRound) (front : List ScriptRound) (p : ScriptRound) → round_from o.script.takes r s n ≡ q
    → FollowsFrom o (advanced r (next_round r (has_hole o.script.takes s))) (state_behind o (round_from o.script.takes r s n)) (number_behind o (round_from o.script.takes r s n)) front p → FollowsFrom o r s n (q ∷ front) p
found_later o r s n q front p same h =
    let P : ScriptRound → Type 0 = λ u. FollowsFrom o r s n (u ∷ front) p in
    subst P same (record {
      locks = h.locks;
      left = h.left;
      state = h.state ∙ sym (replay_append o.defs s (changes_in o (round_from o.script.takes r s n)) (history_in o front) ∙ ap (λ u. replay o.defs u (history_in o front)) (replay_round o (round_from o.script.takes r s n)));
      before = (let a = h.before in let l = length-append (changes_in o (round_from o.script.takes r s n)) (history_in o front) in omega arith);
      round = h.round;
    })

follows_from : (o : Opening) (fuel : ℕ) (r : LockState) (s : TableState) (n : ℕ) (front back : List ScriptRound) (p : ScriptRound) → rounds o fuel r s n ≡ front ++ p ∷ back → FollowsFrom o r s n front p
follows_from o zero r s n [] back p e = cc
follows_from o zero r s n (q ∷ front) back p e = cc
follows_from o (suc fuel) r s n [] back p e = go (has_steps r) refl e
  where
    go : (b : Bool) → has_steps r ≡ b → cond b (round_from o.script.takes r s n ∷ later_rounds o fuel r s n) [] ≡ p ∷ back → FollowsFrom o r s n [] p
    go true left h = found_first o r s n p left (let k = h in cc)
    go false left h = cc
follows_from o (suc fuel) r s n (q ∷ front) back p e =
    go (has_steps r) e (λ h. follows_from o fuel (advanced r (next_round r (has_hole o.script.takes s))) (state_behind o (round_from o.script.takes r s n)) (number_behind o (round_from o.script.takes r s n)) front back p h)
  where
    go : (b : Bool) → cond b (round_from o.script.takes r s n ∷ later_rounds o fuel r s n) [] ≡ q ∷ (front ++ p ∷ back)
        → (later_rounds o fuel r s n ≡ front ++ p ∷ back → FollowsFrom o (advanced r (next_round r (has_hole o.script.takes s))) (state_behind o (round_from o.script.takes r s n)) (number_behind o (round_from o.script.takes r s n)) front p) → FollowsFrom o r s n (q ∷ front) p
    go true h ih = found_later o r s n q front p (let k = h in cc) (ih (let k = h in cc))
    go false h ih = cc

pub follows_history : (o : Opening) (front back : List ScriptRound) (p : ScriptRound) → rounds_of o ≡ front ++ p ∷ back → FollowsHistory o front p
unfolding rounds_of
follows_history o front back p e =
    let h = follows_from o (steps_left (first_locks o).sessions) (first_locks o) o.base 0 front back p e in
    record { locks = h.locks; left = h.left; state = h.state; before = h.before ∙ omega arith; round = h.round ∙ ap (λ s. next_round p.locks (has_hole o.script.takes s)) h.state }

-- ---- to the end

done_in : (o : Opening) (fuel : ℕ) (r : LockState) (s : TableState) (n : ℕ) → IsLawful r.sessions → steps_left r.sessions ≤ fuel → has_steps (locks_behind r (rounds o fuel r s n)) ≡ false
done_in o zero r s n lawful few = finished r false (rounds_end r [] false lawful few)
done_in o (suc fuel) r s n lawful few =
    go (has_steps r) refl (λ less. done_in o fuel (advanced r (next_round r (has_hole o.script.takes s))) (state_behind o (round_from o.script.takes r s n)) (number_behind o (round_from o.script.takes r s n)) (kept r (has_hole o.script.takes s) lawful) less)
  where
    go : (b : Bool) → has_steps r ≡ b
        → (steps_left (advanced r (next_round r (has_hole o.script.takes s))).sessions ≤ fuel → has_steps (locks_behind (advanced r (next_round r (has_hole o.script.takes s))) (later_rounds o fuel r s n)) ≡ false)
        → has_steps (locks_behind r (cond b (round_from o.script.takes r s n ∷ later_rounds o fuel r s n) [])) ≡ false
    go true left ih = ih (let l = fewer r (has_hole o.script.takes s) lawful left in omega arith)
    go false left ih = left

pub none_left : (o : Opening) → MayRun o.defs o.script.lines → has_steps (locks_behind (first_locks o) (rounds_of o)) ≡ false
unfolding rounds_of
none_left o run = done_in o (steps_left (first_locks o).sessions) (first_locks o) o.base 0 (opens o.setting (script_steps (is_list o.script.takes) o.script.lines) (steps_run o.defs o.script.lines run (is_list o.script.takes))) (omega arith)

history_more : (o : Opening) (ps qs : List ScriptRound) → history_in o (ps ++ qs) ≡ history_in o ps ++ history_in o qs
history_more o [] qs = refl
history_more o (p ∷ ps) qs = ap (λ cs. changes_in o p ++ cs) (history_more o ps qs) ∙ sym (append_assoc (changes_in o p) (history_in o ps) (history_in o qs))

pub replay_all : (o : Opening) (front : List ScriptRound) (p : ScriptRound) → rounds_of o ≡ front ++ p ∷ [] → state_behind o p ≡ replay o.defs o.base (history o)
replay_all o front p e =
    sym (replay_round o p) ∙ ap (λ s. replay o.defs s (changes_in o p)) (follows_history o front [] p e).state
    ∙ sym (replay_append o.defs o.base (history_in o front) (changes_in o p))
    ∙ ap (λ cs. replay o.defs o.base cs)
    (ap (λ cs. history_in o front ++ cs) (sym (append-nil (changes_in o p))) ∙ sym (history_more o front (p ∷ [])) ∙ ap (λ ps. history_in o ps) (sym e))
