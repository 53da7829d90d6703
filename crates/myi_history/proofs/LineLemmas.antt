-- The steps of lines that may run are those of a script.
use Rattle.std.proofs.Common.{◌≡◌, ℕ, ◌+◌, ◌≤◌, ◌==◌, List, [], ◌∷◌, ◌++◌, Bool, true, false, cond, refl, ap, ◌∙◌, arith, inl, inr, subst}
use Rattle.std.specs.List.{AllByRecursion}
use Rattle.std.proofs.lemmas.Bool.Decides.{eqb_tells}
use Rattle.myi_defs.specs.declared.types.Defs.{Defs}
use Rattle.myi_locks.specs.declared.steps.StepKind.{StepKind}
use Rattle.myi_locks.specs.declared.steps.Step.{Step}
use Rattle.myi_locks.specs.Script.{LinesRise, LinesAreOwn, TakesFollow, EndIsLast, IsScript, own}
use Rattle.myi_script.specs.declared.types.Act.{Act}
use Rattle.myi_script.specs.declared.types.Act.TheVariants as act
use Rattle.myi_script.specs.declared.types.Line.{Line}
use Rattle.myi_script.specs.Script.{is_end}
use Rattle.myi_history.specs.Lines.{kinds, steps_with, steps_of_line, script_steps, LinesGrow, NothingFollows, MayRun}

-- ---- the steps of a session

own_more : (n : ℕ) (xs ys : List Step) → own n (xs ++ ys) ≡ own n xs ++ own n ys
own_more n [] ys = refl
own_more n (x ∷ xs) ys = go (x.session == n) (own_more n xs ys)
  where
    go : (b : Bool) → own n (xs ++ ys) ≡ own n xs ++ own n ys → cond b (x ∷ own n (xs ++ ys)) (own n (xs ++ ys)) ≡ cond b (x ∷ own n xs) (own n xs) ++ own n ys
    go true e = ap (λ q. x ∷ q) e
    go false e = e

own_all : (s n : ℕ) (ks : List StepKind) → own s (steps_with s n ks) ≡ steps_with s n ks
own_all s n [] = refl
own_all s n (k ∷ ks) = rw eqb_self (ap (λ q. record { session = s; line = n; kind = k } ∷ q) (own_all s n ks))
  where
    eqb_self : (s == s) ≡ true
    eqb_self = elim (eqb_tells s s) [ inl p ↦ p.0 | inr p ↦ absurd (p.1 refl) ]

own_none : (s m n : ℕ) (ks : List StepKind) → (s == m) ≡ false → own m (steps_with s n ks) ≡ []
own_none s m n [] e = refl
own_none s m n (k ∷ ks) e = rw e (own_none s m n ks e)

-- ---- lines rise

rise_low : (a b : ℕ) (xs : List Step) → a ≤ b → LinesRise b xs → LinesRise a xs
rise_low a b [] le h = tt
rise_low a b (x ∷ xs) le h = (let l : b ≤ x.line = h.0 in omega arith, h.1)

rise_with : (low s n : ℕ) (ks : List StepKind) (rest : List Step) → low ≤ n → LinesRise n rest → LinesRise low (steps_with s n ks ++ rest)
rise_with low s n [] rest le h = rise_low low n rest le h
rise_with low s n (k ∷ ks) rest le h = (le, rise_with n s n ks rest (omega arith) h)

rises : (low : ℕ) (list : Bool) (ls : List Line) → LinesGrow low ls → LinesRise low (script_steps list ls)
rises low list [] h = tt
rises low list (l ∷ ls) h = rise_with low l.session l.line (kinds list l.act) (script_steps list ls) h.0 (rise_low l.line (l.line + 1) (script_steps list ls) (omega arith) (rises (l.line + 1) list ls h.1))

-- ---- no line has two sessions

later_lines : (s n : ℕ) (xs : List Step) → LinesRise (n + 1) xs → AllByRecursion (λ (y : Step). y.line ≡ n → y.session ≡ s) xs
later_lines s n [] h = tt
later_lines s n (x ∷ xs) h = (λ e. absurd (let l : n + 1 ≤ x.line = h.0 in omega arith), later_lines s n xs (rise_low (n + 1) x.line xs h.0 h.1))

own_with : (s n : ℕ) (ks : List StepKind) (rest : List Step) → LinesRise (n + 1) rest → AllByRecursion (λ (y : Step). y.line ≡ n → y.session ≡ s) (steps_with s n ks ++ rest)
own_with s n [] rest h = later_lines s n rest h
own_with s n (k ∷ ks) rest h = (λ e. refl, own_with s n ks rest h)

are_own : (s n : ℕ) (ks : List StepKind) (rest : List Step) → LinesRise (n + 1) rest → LinesAreOwn rest → LinesAreOwn (steps_with s n ks ++ rest)
are_own s n [] rest h k = k
are_own s n (q ∷ ks) rest h k = (own_with s n ks rest h, are_own s n ks rest h k)

lines_own : (low : ℕ) (list : Bool) (ls : List Line) → LinesGrow low ls → LinesAreOwn (script_steps list ls)
lines_own low list [] h = tt
lines_own low list (l ∷ ls) h = are_own l.session l.line (kinds list l.act) (script_steps list ls) (rises (l.line + 1) list ls h.1) (lines_own (l.line + 1) list ls h.1)

-- ---- a Take comes behind the Release of its line

take_with : (s n : ℕ) (list : Bool) (a : Act) (b : Bool) (rest : List Step) → ((c : Bool) → TakesFollow c rest) → TakesFollow b (steps_with s n (kinds list a) ++ rest)
take_with s n true (act.Insert v) b rest h = (λ e. cc, h false)
take_with s n false (act.Insert v) b rest h = (λ e. cc, h false)
take_with s n list (act.Update p v) b rest h = (λ e. cc, h false)
take_with s n list (act.Delete p) b rest h = (λ e. cc, h false)
take_with s n list act.Scan b rest h = (λ e. cc, h false)
take_with s n list (act.Over r) b rest h = (λ e. cc, h false)
take_with s n list (act.Lock k) b rest h = (λ e. cc, (λ e. refl, h false))
take_with s n list act.Unlock b rest h = (λ e. cc, h false)
take_with s n list act.Stats b rest h = (λ e. cc, h false)
take_with s n list act.End b rest h = (λ e. cc, h false)

takes : (n : ℕ) (list : Bool) (ls : List Line) (b : Bool) → TakesFollow b (own n (script_steps list ls))
takes n list [] b = tt
takes n list (l ∷ ls) b = rw own_more (elim (eqb_tells l.session n) [
  | inl p ↦ (let P : ℕ → Type 0 = λ m. TakesFollow b (own m (steps_of_line list l) ++ own n (script_steps list ls)) in subst P p.1 (rw (own_all l.session l.line (kinds list l.act)) (take_with l.session l.line list l.act b (own n (script_steps list ls)) (λ c. takes n list ls c))))
  | inr p ↦ rw (own_none l.session n l.line (kinds list l.act) p.0) (takes n list ls b)
])

-- ---- nothing follows an end

none_later : (n : ℕ) (list : Bool) (ls : List Line) → AllByRecursion (λ (m : Line). m.session ≡ n → ⊥) ls → own n (script_steps list ls) ≡ []
none_later n list [] h = refl
none_later n list (l ∷ ls) h = own_more n (steps_of_line list l) (script_steps list ls) ∙ elim (eqb_tells l.session n) [
  | inl p ↦ absurd (h.0 p.1)
  | inr p ↦ rw (own_none l.session n l.line (kinds list l.act) p.0) (none_later n list ls h.1)
]

end_with : (s n : ℕ) (list : Bool) (a : Act) (rest : List Step) → (is_end a ≡ true → rest ≡ []) → EndIsLast rest → EndIsLast (steps_with s n (kinds list a) ++ rest)
end_with s n true (act.Insert v) rest e h = (λ q. cc, h)
end_with s n false (act.Insert v) rest e h = (λ q. cc, h)
end_with s n list (act.Update p v) rest e h = (λ q. cc, h)
end_with s n list (act.Delete p) rest e h = (λ q. cc, h)
end_with s n list act.Scan rest e h = (λ q. cc, h)
end_with s n list (act.Over r) rest e h = (λ q. cc, h)
end_with s n list (act.Lock k) rest e h = (λ q. cc, (λ q. cc, h))
end_with s n list act.Unlock rest e h = (λ q. cc, h)
end_with s n list act.Stats rest e h = (λ q. cc, h)
end_with s n list act.End rest e h = (λ q. e refl, h)

ends : (n : ℕ) (list : Bool) (ls : List Line) → NothingFollows ls → EndIsLast (own n (script_steps list ls))
ends n list [] h = tt
ends n list (l ∷ ls) h = rw own_more (elim (eqb_tells l.session n) [
  | inl p ↦ (let P : ℕ → Type 0 = λ m. EndIsLast (own m (steps_of_line list l) ++ own n (script_steps list ls)) in
      let Q : ℕ → Type 0 = λ m. is_end l.act ≡ true → own m (script_steps list ls) ≡ [] in
      subst P p.1 (rw (own_all l.session l.line (kinds list l.act)) (end_with l.session l.line list l.act (own n (script_steps list ls)) (subst Q p.1 (λ e. none_later l.session list ls (h.0 e))) (ends n list ls h.1))))
  | inr p ↦ rw (own_none l.session n l.line (kinds list l.act) p.0) (ends n list ls h.1)
])

pub steps_run : (d : Defs) (ls : List Line) → MayRun d ls → (list : Bool) → IsScript (script_steps list ls)
steps_run d ls h list = record { rise = rises 1 list ls h.grow; lines = lines_own 1 list ls h.grow; takes = λ n. takes n list ls false; ends = λ n. ends n list ls h.ends }
