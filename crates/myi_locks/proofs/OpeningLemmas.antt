-- The sessions of a script are lawful, and their rounds end.
use Rattle.std.proofs.Common.{◌≡◌, ℕ, suc, ◌<◌, ◌≤◌, ◌+◌, ◌-◌, ◌==◌, ◌||◌, List, [], ◌∷◌, ◌++◌, map, fold, Option, None, Bool, true, false, cond, refl, ap, ◌∙◌, arith, length, slice_get}
use Rattle.std.specs.List.{AllByRecursion, list_any}
use Rattle.myi_locks.specs.declared.steps.LockKind.{LockKind}
use Rattle.myi_locks.specs.declared.steps.StepKind.{StepKind}
use Rattle.myi_locks.specs.declared.steps.StepKind.TheVariants.{Release, Take, Rows, Insert, Change, Unlock, Stats, End}
use Rattle.myi_locks.specs.declared.steps.Step.{Step}
use Rattle.myi_locks.specs.declared.steps.Round.TheVariants.{Finished}
use Rattle.myi_locks.specs.Steps.{lock_after}
use Rattle.myi_locks.specs.Sessions.{Session, head, passes}
use Rattle.myi_locks.specs.Rounds.{LockState, next_round, has_step}
use Rattle.myi_locks.specs.Done.{advanced}
use Rattle.myi_locks.specs.Script.{is_take, is_end, is_release, own, numbers, with_end, added_end, opening, TakesFollow, IsScript}
use Rattle.myi_locks.specs.Laws.{CanDo, Rising, IsLawful, steps_left, after_rounds}
use Rattle.myi_locks.proofs.PlacingLemmas.{Rise, rise_with}
use Rattle.myi_locks.proofs.EndLemmas.{fewer, kept}

rise_numbers : (ns : List ℕ) (xs : List Step) → Rise ns → Rise (fold (λ ms x. Rattle.myi_locks.specs.Script.with_number x.session ms) ns xs)
rise_numbers ns [] h = h
rise_numbers ns (x ∷ xs) h = rise_numbers (Rattle.myi_locks.specs.Script.with_number x.session ns) xs (rise_with x.session ns h)

rising_map : (f : ℕ → Session) → ((n : ℕ) → (f n).number ≡ n) → (ns : List ℕ) → Rise ns → Rising (map f ns)
rising_map f g [] h = tt
rising_map f g (n ∷ ns) h = (higher ns h.0, rising_map f g ns h.1)
  where
    higher : (ms : List ℕ) → AllByRecursion (λ m. n < m) ms → AllByRecursion (λ (t : Session). (f n).number < t.number) (map f ms)
    higher [] k = tt
    higher (m ∷ ms) k = (let a = g n in let b = g m in let l : n < m = k.0 in omega arith, higher ms k.1)

own_is : (n : ℕ) (xs : List Step) → AllByRecursion (λ (x : Step). x.session ≡ n) (own n xs)
own_is n [] = tt
own_is n (x ∷ xs) = go (x.session == n) refl (own_is n xs)
  where
    go : (b : Bool) → (x.session == n) ≡ b → AllByRecursion (λ (y : Step). y.session ≡ n) (own n xs) → AllByRecursion (λ (y : Step). y.session ≡ n) (cond b (x ∷ own n xs) (own n xs))
    go true is ih = (grind (arith, Rattle.std.proofs.lemmas.Bool.Decides.nat_tests), ih)
    go false is ih = ih

end_gives_up : (k : StepKind) (h : Option LockKind) → is_end k ≡ true → lock_after k h ≡ None
end_gives_up End h e = refl
end_gives_up Release h e = refl
end_gives_up Unlock h e = refl
end_gives_up (Take q) h e = cc
end_gives_up Rows h e = cc
end_gives_up Insert h e = cc
end_gives_up Change h e = cc
end_gives_up Stats h e = cc

release_gives_up : (k : StepKind) (h : Option LockKind) → is_release k ≡ true → lock_after k h ≡ None
release_gives_up Release h e = refl
release_gives_up End h e = refl
release_gives_up Unlock h e = refl
release_gives_up (Take q) h e = cc
release_gives_up Rows h e = cc
release_gives_up Insert h e = cc
release_gives_up Change h e = cc
release_gives_up Stats h e = cc

last_cons : (x y : Step) (ys : List Step) → slice_get (x ∷ y ∷ ys) (length (x ∷ y ∷ ys) - 1) ≡ slice_get (y ∷ ys) (length (y ∷ ys) - 1)
last_cons x y ys = let e : length (x ∷ y ∷ ys) - 1 ≡ suc (length (y ∷ ys) - 1) = omega arith in ap (λ n. slice_get (x ∷ y ∷ ys) n) e

end_cons : (n : ℕ) (x y : Step) (ys : List Step) → with_end n (x ∷ y ∷ ys) ≡ x ∷ with_end n (y ∷ ys)
end_cons n x y ys = ap (λ o. cond (passes is_end o) (x ∷ y ∷ ys) ((x ∷ y ∷ ys) ++ added_end n ∷ [])) (last_cons x y ys) ∙ pull (passes is_end (slice_get (y ∷ ys) (length (y ∷ ys) - 1)))
  where
    pull : (b : Bool) → cond b (x ∷ y ∷ ys) ((x ∷ y ∷ ys) ++ added_end n ∷ []) ≡ x ∷ cond b (y ∷ ys) ((y ∷ ys) ++ added_end n ∷ [])
    pull true = refl
    pull false = refl

can_open : (n : ℕ) (h : Option LockKind) (released : Bool) (xs : List Step) → AllByRecursion (λ (x : Step). x.session ≡ n) xs → TakesFollow released xs → (released ≡ true → h ≡ None) → CanDo n h (with_end n xs)
can_open n h released [] o t r = (refl, λ e. cc, refl)
can_open n h released (x ∷ []) o t r = go (is_end x.kind) refl
  where
    go : (b : Bool) → is_end x.kind ≡ b → CanDo n h (cond b (x ∷ []) (x ∷ added_end n ∷ []))
    go true is = (o.0, λ e. r (t.0 e), end_gives_up x.kind h is)
    go false is = (o.0, λ e. r (t.0 e), (refl, λ e. cc, refl))
can_open n h released (x ∷ y ∷ ys) o t r = rw end_cons (o.0, λ e. r (t.0 e), can_open n (lock_after x.kind h) (is_release x.kind) (y ∷ ys) o.1 t.1 (release_gives_up x.kind h))

pub opens : (setting : ℕ) (xs : List Step) → IsScript xs → IsLawful (opening setting xs).sessions
opens setting xs ok = record { rising = rising_map _ (λ n. refl) (numbers xs) (rise_numbers [] xs tt); each = each (numbers xs) }
  where
    each : (ns : List ℕ) → AllByRecursion (λ (s : Session). CanDo s.number s.held s.left) (map (λ n. record { number = n; left = with_end n (own n xs); held = None }) ns)
    each [] = tt
    each (n ∷ ns) = (can_open n None false (own n xs) (own_is n xs) (ok.takes n) (λ e. refl), each ns)

pub no_steps : (ss : List Session) → steps_left ss ≡ 0 → list_any has_step ss ≡ false
no_steps [] e = refl
no_steps (s ∷ ss) e = go s.left refl e (no_steps ss)
  where
    go : (xs : List Step) → s.left ≡ xs → length s.left + steps_left ss ≡ 0 → (steps_left ss ≡ 0 → list_any has_step ss ≡ false) → passes (λ k. true) (head s.left) || list_any has_step ss ≡ false
    go [] is f ih = rw is (ih (omega arith))
    go (x ∷ xs) is f ih = let n = ap length is in absurd (omega arith)

pub finishes : (r : LockState) (holes : Bool) → list_any has_step r.sessions ≡ false → next_round r holes ≡ Finished
unfolding next_round
finishes r holes e = rw e refl

idle : (r : LockState) (holes : List Bool) (hole : Bool) → list_any has_step r.sessions ≡ false → next_round (after_rounds r holes) hole ≡ Finished
idle r [] hole e = finishes r hole e
idle r (h ∷ hs) hole e = ap (λ round. next_round (after_rounds (advanced r round) hs) hole) (finishes r h e) ∙ idle r hs hole e

pub rounds_end : (r : LockState) (holes : List Bool) (hole : Bool) → IsLawful r.sessions → steps_left r.sessions ≤ length holes → next_round (after_rounds r holes) hole ≡ Finished
rounds_end r [] hole ok few = finishes r hole (no_steps r.sessions (omega arith))
rounds_end r (h ∷ hs) hole ok few = go (list_any has_step r.sessions) refl (rounds_end (advanced r (next_round r h)) hs hole (kept r h ok))
  where
    go : (b : Bool) → list_any has_step r.sessions ≡ b → (steps_left (advanced r (next_round r h)).sessions ≤ length hs → next_round (after_rounds (advanced r (next_round r h)) hs) hole ≡ Finished)
        → next_round (after_rounds (advanced r (next_round r h)) hs) hole ≡ Finished
    go true is ih = let l = fewer r h ok is in ih (omega arith)
    go false is ih = idle r (h ∷ hs) hole is
