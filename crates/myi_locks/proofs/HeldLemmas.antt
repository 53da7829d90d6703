-- The lock of a session is the one that its steps have left it.
use Rattle.std.proofs.Common.{◌≡◌, ℕ, ◌==◌, List, [], ◌∷◌, map, Option, Some, None, Bool, true, false, cond, refl, ap, sym, ◌∙◌, inl, inr}
use Rattle.std.specs.Prelude.{option_map}
use Rattle.std.specs.List.{AllByRecursion}
use Rattle.std.proofs.lemmas.Bool.Decides.{eqb_tells}
use Rattle.myi_locks.specs.declared.steps.Step.{Step}
use Rattle.myi_locks.specs.Steps.{lock_after}
use Rattle.myi_locks.specs.Sessions.{Session}
use Rattle.myi_locks.specs.Rounds.{LockState, next_round, session_of}
use Rattle.myi_locks.specs.Done.{after, after_any, steps_of, advanced, held, lock_in}
use Rattle.myi_locks.specs.Script.{own, numbers, opening, session_from}
use Rattle.myi_locks.specs.Laws.{IsLawful, lock_left}
use Rattle.myi_locks.proofs.FirstLemmas.{In, eq_no, eq_yes}
use Rattle.myi_locks.proofs.EndLemmas.{after_all, each_own, Belongs, belong}

keeps_number : (x : Step) (s : Session) → (after_any x s).number ≡ s.number
keeps_number x s = elim (eqb_tells s.number x.session) [ inl p ↦ rw p.0 refl | inr p ↦ rw p.0 refl ]

all_keep_number : (xs : List Step) (s : Session) → (after_all s xs).number ≡ s.number
all_keep_number [] s = refl
all_keep_number (x ∷ xs) s = all_keep_number xs (after_any x s) ∙ keeps_number x s

left_by : (xs : List Step) (s : Session) → (after_all s xs).held ≡ lock_left s.held (own s.number xs)
left_by [] s = refl
left_by (x ∷ xs) s = elim (eqb_tells s.number x.session) [ inl p ↦ mine p.1 (left_by xs (after x s)) | inr p ↦ other p.1 (left_by xs s) ]
  where
    mine : s.number ≡ x.session → (after_all (after x s) xs).held ≡ lock_left (lock_after x.kind s.held) (own s.number xs) → (after_all (after_any x s) xs).held ≡ lock_left s.held (own s.number (x ∷ xs))
    mine e ih = rw (eq_yes s.number x.session e, eq_yes x.session s.number (sym e)) ih

    other : (s.number ≡ x.session → ⊥) → (after_all s xs).held ≡ lock_left s.held (own s.number xs) → (after_all (after_any x s) xs).held ≡ lock_left s.held (own s.number (x ∷ xs))
    other ne ih = rw (eq_no s.number x.session ne, eq_no x.session s.number (λ e. ne (sym e))) ih

found_after : (n : ℕ) (xs : List Step) (ss : List Session) → session_of n (map (λ s. after_all s xs) ss) ≡ option_map (λ s. after_all s xs) (session_of n ss)
found_after n xs [] = refl
found_after n xs (s ∷ ss) = rw (all_keep_number xs s) (go (s.number == n) (found_after n xs ss))
  where
    go : (b : Bool) → session_of n (map (λ t. after_all t xs) ss) ≡ option_map (λ t. after_all t xs) (session_of n ss) → cond b (Some (after_all s xs)) (session_of n (map (λ t. after_all t xs) ss)) ≡ option_map (λ t. after_all t xs) (cond b (Some s) (session_of n ss))
    go true ih = refl
    go false ih = ih

found_number : (n : ℕ) (ss : List Session) (s : Session) → session_of n ss ≡ Some s → s.number ≡ n
found_number n [] s e = absurd (let k = e in cc)
found_number n (t ∷ ss) s e = elim (eqb_tells t.number n) [
  | inl p ↦ (let q : Some t ≡ Some s = rw p.0 at e in let same : t ≡ s = cc in sym (ap (λ (u : Session). u.number) same) ∙ p.1)
  | inr p ↦ (let q : session_of n ss ≡ Some s = rw p.0 at e in found_number n ss s q)
]

not_found : (n : ℕ) (ss : List Session) → session_of n ss ≡ None → (s : Session) → In s ss → s.number ≡ n → ⊥
not_found n [] e s i same = absurd i
not_found n (t ∷ ss) e s i same = elim (eqb_tells t.number n) [
  | inl p ↦ (let q : Some t ≡ None = rw p.0 at e in cc)
  | inr p ↦ (let q : session_of n ss ≡ None = rw p.0 at e in elim i [ inl is ↦ p.1 (sym (ap (λ (u : Session). u.number) is) ∙ same) | inr j ↦ not_found n ss q s j same ])
]

none_owned : (n : ℕ) (ss : List Session) (xs : List Step) → session_of n ss ≡ None → AllByRecursion (Belongs ss) xs → own n xs ≡ []
none_owned n ss [] e h = refl
none_owned n ss (x ∷ xs) e h = rw (eq_no x.session n (λ same. not_found n ss e h.0.0 h.0.1 (sym h.0.2 ∙ same))) (none_owned n ss xs e h.1)

left_in : (n : ℕ) (ss : List Session) (xs : List Step) → AllByRecursion (Belongs ss) xs → (o : Option Session) → session_of n ss ≡ o → lock_in (option_map (λ s. after_all s xs) o) ≡ lock_left (lock_in o) (own n xs)
left_in n ss xs h None e = rw (none_owned n ss xs e h) refl
left_in n ss xs h (Some s) e = left_by xs s ∙ ap (λ m. lock_left s.held (own m xs)) (found_number n ss s e)

pub held_by_steps : (r : LockState) (holes : Bool) → IsLawful r.sessions → (n : ℕ) → held (advanced r (next_round r holes)) n ≡ lock_left (held r n) (own n (steps_of (next_round r holes)))
held_by_steps r holes ok n =
    let xs = steps_of (next_round r holes) in
    ap (λ ss. lock_in (session_of n ss)) (each_own r.sessions xs)
    ∙ ap lock_in (found_after n xs r.sessions)
    ∙ left_in n r.sessions xs (belong r holes ok) (session_of n r.sessions) refl

pub none_held : (setting : ℕ) (xs : List Step) (n : ℕ) → held (opening setting xs) n ≡ None
none_held setting xs n = go (numbers xs)
  where
    go : (ms : List ℕ) → lock_in (session_of n (map (session_from xs) ms)) ≡ None
    go [] = refl
    go (m ∷ ms) = elim (eqb_tells m n) [ inl p ↦ rw p.0 refl | inr p ↦ rw p.0 (go ms) ]
