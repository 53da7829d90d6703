-- What a held lock keeps out.
use Rattle.std.proofs.Common.{◌≡◌, ℕ, ◌==◌, ◌||◌, ◌&&◌, not, List, [], ◌∷◌, map, filter, Option, Some, None, Bool, true, false, cond, refl, ap, sym, ◌∙◌, inl, inr, subst, fold}
use Rattle.std.specs.Prelude.{◌⊎◌, option_map}
use Rattle.std.specs.List.{AllByRecursion, list_any, take_while, flat_map}
use Rattle.std.proofs.lemmas.List.Sums.{take_while-cons}
use Rattle.std.proofs.lemmas.Bool.Decides.{eqb_tells}
use Rattle.myi_locks.specs.declared.steps.LockKind.{LockKind}
use Rattle.myi_locks.specs.declared.steps.LockKind.TheVariants.{Read, ReadLocal, Write}
use Rattle.myi_locks.specs.declared.steps.StepKind.{StepKind}
use Rattle.myi_locks.specs.declared.steps.StepKind.TheVariants.{Release, Take, Rows, Insert, Change, Unlock, Stats, End}
use Rattle.myi_locks.specs.declared.steps.Step.{Step}
use Rattle.myi_locks.specs.declared.steps.Round.{Round}
use Rattle.myi_locks.specs.declared.steps.Run.{Run}
use Rattle.myi_locks.specs.declared.steps.Round.TheVariants.{Alone}
use Rattle.myi_locks.specs.Steps.{takes_read, is_insert, is_read, waits_for_none, writes_rows, lock_after}
use Rattle.myi_locks.specs.Sessions.{Session, first, is_next, holds_any, holds_write, holds_read, holds_local, others_hold}
use Rattle.myi_locks.specs.Rounds.{LockState, next_round, at_once, is_write, run_of, inserter, reads, session_at, together}
use Rattle.myi_locks.specs.Done.{held, advanced, run_steps, after, after_any, stepped, steps_of}
use Rattle.myi_locks.specs.Script.{is_take, opening, numbers, with_end, own}
use Rattle.myi_locks.specs.Laws.{CanDo, IsLawful, IsExclusive, IsRefused, is_reader}
use Rattle.myi_locks.proofs.FirstLemmas.{In, any_in, all_in, first_none, first_some, eq_yes}
use Rattle.myi_locks.proofs.CaseLemmas.{may_write, Past2, by_case, by_cases}
use Rattle.myi_locks.proofs.HoldLemmas.{not_true, and_true, and_both, held_is, is_next_at, none_in, alone_same, own_head, lock_head, lock_is_any, write_is_any}
use Rattle.myi_locks.proofs.EndLemmas.{one, each_own, after_all, read_steps, all_weaken, all_join}

waits_or_writes : (k : StepKind) (b : Bool) → writes_rows k ≡ true → waits_for_none k || (writes_rows k && b) ≡ true → b ≡ true
waits_or_writes Insert b e w = w
waits_or_writes Change b e w = w
waits_or_writes Rows b e w = cc
waits_or_writes Release b e w = cc
waits_or_writes (Take q) b e w = cc
waits_or_writes Unlock b e w = cc
waits_or_writes Stats b e w = cc
waits_or_writes End b e w = cc

not_false : (b : Bool) → not b ≡ true → b ≡ false
not_false true e = cc
not_false false e = refl

or_false : (a b : Bool) → a || b ≡ false → (a ≡ false) × (b ≡ false)
or_false true b e = cc
or_false false b e = (refl, e)

writes_no_take : (k : StepKind) → writes_rows k ≡ true → takes_read k ≡ false
writes_no_take Insert e = refl
writes_no_take Change e = refl
writes_no_take Rows e = cc
writes_no_take Release e = cc
writes_no_take (Take q) e = cc
writes_no_take Unlock e = cc
writes_no_take Stats e = cc
writes_no_take End e = cc

no_write_reads : (h : Option LockKind) → holds_write h ≡ true → holds_read h || holds_local h ≡ true → ⊥
no_write_reads None a b = cc
no_write_reads (Some Read) a b = cc
no_write_reads (Some ReadLocal) a b = cc
no_write_reads (Some Write) a b = cc

-- a session that holds a lock is the one, where no other does
only_holder : (ss : List Session) (s t : Session) → In t ss → others_hold holds_any s.number ss ≡ false → holds_any t.held ≡ true → t.number ≡ s.number
only_holder ss s t i none h = elim (eqb_tells t.number s.number) [
  | inl p ↦ p.1
  | inr p ↦ absurd (let no = none_in (λ (q : Session). not (q.number == s.number) && holds_any q.held) ss t none i in let is = and_both _ _ (ap not p.0) h in cc)
]

pub refused_alone : (r : LockState) (holes : Bool) → IsLawful r.sessions → IsExclusive r.sessions → IsRefused r (next_round r holes)
refused_alone r holes ok ex =
    by_case (IsRefused r) r holes (λ e x f w l. cc)
    (λ x e y f w l. at x y f w (at_once_case x e))
    (λ x e y f w l. at x y f w (λ q. absurd (held_case x e l)))
    (λ x p e y f w l. at x y f w (λ q. absurd (write_case x p e q l)))
    (λ p e x f w l. cc)
    (λ x e y f w l. at x y f w (λ q. absurd (takes_case x e q)))
    (λ p x f w l. cc)
  where
    at : (x y : Step) → Alone x ≡ Alone y → writes_rows y.kind ≡ true → (writes_rows x.kind ≡ true → holds_read (held r x.session) || holds_local (held r x.session) ≡ true) → holds_read (held r y.session) || holds_local (held r y.session) ≡ true
    at x y f w h = let P : Step → Type 0 = λ q. writes_rows q.kind ≡ true → holds_read (held r q.session) || holds_local (held r q.session) ≡ true in subst P (alone_same x y f) h w

    at_once_case : (x : Step) → first at_once r.sessions ≡ Some x → writes_rows x.kind ≡ true → holds_read (held r x.session) || holds_local (held r x.session) ≡ true
    at_once_case x e q =
        let w = first_some at_once r.sessions x e in
        let can = all_in (λ (s : Session). CanDo s.number s.held s.left) r.sessions w.0 ok.each w.1 in
        let h = waits_or_writes x.kind (holds_read w.0.held || holds_local w.0.held) q (rw (is_next_at waits_for_none w.0 x w.3, is_next_at writes_rows w.0 x w.3) at w.2) in
        let is : held r x.session ≡ w.0.held = ap (held r) (own_head _ _ _ x can w.3).0 ∙ held_is r w.0 ok.rising w.1 in
        ap (λ o. holds_read o || holds_local o) is ∙ h

    held_case : (x : Step) → first (λ s. holds_write s.held) r.sessions ≡ Some x → list_any is_reader r.sessions ≡ true → ⊥
    held_case x e l =
        let w = first_some (λ (s : Session). holds_write s.held) r.sessions x e in
        let t = any_in is_reader r.sessions l in
        let none = all_in (λ (s : Session). holds_write s.held ≡ true → others_hold holds_any s.number r.sessions ≡ false) r.sessions w.0 ex w.1 w.2 in
        let n = only_holder r.sessions w.0 t.0 t.1 none (lock_is_any t.0.held t.2) in
        let same = one r.sessions w.0 t.0 ok.rising w.1 t.1 n in
        no_write_reads t.0.held (ap (λ (q : Session). holds_write q.held) same ∙ w.2) t.2

    write_case : (x : Step) → Past2 r → first (may_write r holes) r.sessions ≡ Some x → writes_rows x.kind ≡ true → list_any is_reader r.sessions ≡ true → ⊥
    write_case x p e q l =
        let w = first_some (may_write r holes) r.sessions x e in
        let t = any_in is_reader r.sessions l in
        let none = not_false (others_hold holds_any w.0.number r.sessions) (and_true (is_write r holes w.0) (not (others_hold holds_any w.0.number r.sessions)) w.2).1 in
        let n = only_holder r.sessions w.0 t.0 t.1 none (lock_is_any t.0.held t.2) in
        let same = one r.sessions w.0 t.0 ok.rising w.1 t.1 n in
        let reads : holds_read w.0.held || holds_local w.0.held ≡ true = ap is_reader (sym same) ∙ t.2 in
        first_none at_once r.sessions w.0 x p.at_once w.1 (rw (is_next_at waits_for_none w.0 x w.3, is_next_at writes_rows w.0 x w.3, q, reads) (or_true (waits_for_none x.kind))) w.3
      where
        or_true : (b : Bool) → b || true ≡ true
        or_true true = refl
        or_true false = refl

    takes_case : (x : Step) → first (is_next takes_read) r.sessions ≡ Some x → writes_rows x.kind ≡ true → ⊥
    takes_case x e q = let w = first_some (is_next takes_read) r.sessions x e in let t = sym (is_next_at takes_read w.0 x w.3) ∙ w.2 in let f = writes_no_take x.kind q in cc

-- ---- exclusive stays

-- fewer sessions hold a lock, and fewer hold WRITE
pub record Fewer (s t : Session) : Type 0 where
  pub number : t.number ≡ s.number
  pub any : holds_any t.held ≡ true → holds_any s.held ≡ true
  pub write : holds_write t.held ≡ true → holds_write s.held ≡ true

others_fewer : (f : Session → Session) (ss : List Session) (n : ℕ) → ((s : Session) → In s ss → Fewer s (f s)) → others_hold holds_any n ss ≡ false → others_hold holds_any n (map f ss) ≡ false
others_fewer f [] n g e = refl
others_fewer f (s ∷ ss) n g e =
    let h = or_false (not (s.number == n) && holds_any s.held) (others_hold holds_any n ss) e in
    let w = g s (inl refl) in
    join (not ((f s).number == n) && holds_any (f s).held) (others_hold holds_any n (map f ss)) (not_true _ (λ q. let k = and_true (not ((f s).number == n)) (holds_any (f s).held) q in let no = and_both (not (s.number == n)) (holds_any s.held) (sym (ap (λ m. not (m == n)) w.number) ∙ k.0) (w.any k.1) in let y = h.0 in cc))
    (others_fewer f ss n (λ t i. g t (inr i)) h.1)
  where
    join : (a b : Bool) → a ≡ false → b ≡ false → a || b ≡ false
    join a b e1 e2 = rw (e1, e2) refl

map_each : (P : Session → Type 0) (f : Session → Session) (ss : List Session) → ((s : Session) → In s ss → P (f s)) → AllByRecursion P (map f ss)
map_each P f [] g = tt
map_each P f (s ∷ ss) g = (g s (inl refl), map_each P f ss (λ t i. g t (inr i)))

fewer_exclusive : (f : Session → Session) (ss : List Session) → IsExclusive ss → ((s : Session) → In s ss → Fewer s (f s)) → IsExclusive (map f ss)
fewer_exclusive f ss ex g = map_each _ f ss (λ s i w.
    let k = g s i in
    let none = all_in (λ (q : Session). holds_write q.held ≡ true → others_hold holds_any q.number ss ≡ false) ss s ex i (k.write w) in
    ap (λ n. others_hold holds_any n (map f ss)) k.number ∙ others_fewer f ss s.number g none)

-- a step that takes no lock
same_or_none : (k : StepKind) (h : Option LockKind) → is_take k ≡ false → (lock_after k h ≡ h) ⊎ (lock_after k h ≡ None)
same_or_none Release h e = inr refl
same_or_none (Take q) h e = cc
same_or_none Rows h e = inl refl
same_or_none Insert h e = inl refl
same_or_none Change h e = inl refl
same_or_none Unlock h e = inr refl
same_or_none Stats h e = inl refl
same_or_none End h e = inr refl

no_take : (x : Step) (s : Session) → is_take x.kind ≡ false → Fewer s (after_any x s)
no_take x s e = elim (eqb_tells s.number x.session) [ inl p ↦ rw p.0 (mine (same_or_none x.kind s.held e)) | inr p ↦ rw p.0 (record { number = refl; any = λ q. q; write = λ q. q }) ]
  where
    mine : (lock_after x.kind s.held ≡ s.held) ⊎ (lock_after x.kind s.held ≡ None) → Fewer s (after x s)
    mine (inl same) = record { number = refl; any = λ q. sym (ap holds_any same) ∙ q; write = λ q. sym (ap holds_write same) ∙ q }
    mine (inr none) = record { number = refl; any = λ q. (let no = sym (ap holds_any none) ∙ q in cc); write = λ q. (let no = sym (ap holds_write none) ∙ q in cc) }

-- several steps that take none
no_takes : (xs : List Step) (s : Session) → AllByRecursion (λ (x : Step). is_take x.kind ≡ false) xs → Fewer s (after_all s xs)
no_takes [] s h = record { number = refl; any = λ q. q; write = λ q. q }
no_takes (x ∷ xs) s h =
    let a = no_take x s h.0 in let b = no_takes xs (after_any x s) h.1 in
    record { number = b.number ∙ a.number; any = λ q. a.any (b.any q); write = λ q. a.write (b.write q) }

abbrev pub KeepsExclusive : LockState → Round → Type 0
KeepsExclusive r round = IsExclusive (fold stepped r.sessions (steps_of round))

by_steps : (r : LockState) (xs : List Step) → IsExclusive r.sessions → AllByRecursion (λ (x : Step). is_take x.kind ≡ false) xs → IsExclusive (fold stepped r.sessions xs)
by_steps r xs ex h = let P : List Session → Type 0 = λ q. IsExclusive q in subst P (sym (each_own r.sessions xs)) (fewer_exclusive (λ s. after_all s xs) r.sessions ex (λ s i. no_takes xs s h))

read_no_take : (k : StepKind) → is_read k ≡ true → is_take k ≡ false
read_no_take Rows e = refl
read_no_take Release e = refl
read_no_take (Take q) e = cc
read_no_take Insert e = refl
read_no_take Change e = refl
read_no_take Unlock e = refl
read_no_take Stats e = refl
read_no_take End e = refl

insert_no_take : (k : StepKind) → is_insert k ≡ true → is_take k ≡ false
insert_no_take Insert e = refl
insert_no_take Rows e = refl
insert_no_take Release e = refl
insert_no_take (Take q) e = cc
insert_no_take Change e = refl
insert_no_take Unlock e = refl
insert_no_take Stats e = refl
insert_no_take End e = refl

pub all_passes : (test : StepKind → Bool) (xs : List Step) → AllByRecursion (λ (x : Step). test x.kind ≡ true) (take_while (λ (x : Step). test x.kind) xs)
all_passes test [] = tt
all_passes test (x ∷ xs) = go (test x.kind) refl (all_passes test xs)
  where
    go : (b : Bool) → test x.kind ≡ b → AllByRecursion (λ (y : Step). test y.kind ≡ true) (take_while (λ (y : Step). test y.kind) xs) → AllByRecursion (λ (y : Step). test y.kind ≡ true) (take_while (λ (y : Step). test y.kind) (x ∷ xs))
    go true is ih = rw (take_while-cons (λ (y : Step). test y.kind) x xs, is) (is, ih)
    go false is ih = rw (take_while-cons (λ (y : Step). test y.kind) x xs, is) tt

abbrev pub NoTakes : List Step → Type 0
NoTakes xs = AllByRecursion (λ (x : Step). is_take x.kind ≡ false) xs

run_no_takes : (test : StepKind → Bool) → ((k : StepKind) → test k ≡ true → is_take k ≡ false) → (s : Session) → NoTakes (run_of test s).steps
run_no_takes test f s = all_weaken (λ (x : Step). test x.kind ≡ true) (λ (x : Step). is_take x.kind ≡ false) (run_of test s).steps (λ x e. f x.kind e) (all_passes test s.left)

reads_no_takes : (test : Session → Bool) (ss : List Session) → NoTakes (read_steps test ss)
reads_no_takes test [] = tt
reads_no_takes test (u ∷ ss) = go (test u && is_next is_read u) (reads_no_takes test ss)
  where
    go : (b : Bool) → NoTakes (read_steps test ss) → NoTakes (flat_map (λ (run : Run). run.steps) (map (run_of is_read) (cond b (u ∷ filter (λ t. test t && is_next is_read t) ss) (filter (λ t. test t && is_next is_read t) ss))))
    go true ih = all_join _ (run_of is_read u).steps (read_steps test ss) (run_no_takes is_read read_no_take u) ih
    go false ih = ih

inserts_no_takes : (o : Option Session) → NoTakes (run_steps (option_map (run_of is_insert) o))
inserts_no_takes None = tt
inserts_no_takes (Some s) = run_no_takes is_insert insert_no_take s

-- the others, seen from the session that takes a lock, are as before
others_same : (x : Step) (ss : List Session) (n : ℕ) → n ≡ x.session → others_hold holds_any n (map (after_any x) ss) ≡ others_hold holds_any n ss
others_same x [] n e = refl
others_same x (s ∷ ss) n e = rw (others_same x ss n e) (elim (eqb_tells s.number x.session) [
  | inl p ↦ rw (p.0, eq_yes s.number n (p.1 ∙ sym e)) refl
  | inr p ↦ rw p.0 refl
])

taken_alone : (r : LockState) (x : Step) (u : Session) → In u r.sessions → x.session ≡ u.number → others_hold holds_any u.number r.sessions ≡ false → IsExclusive (stepped r.sessions x)
taken_alone r x u i own none = map_each _ (after_any x) r.sessions each
  where
    each : (s : Session) → In s r.sessions → holds_write (after_any x s).held ≡ true → others_hold holds_any (after_any x s).number (stepped r.sessions x) ≡ false
    each s j = elim (eqb_tells s.number x.session) [
      | inl p ↦ (λ w. ap (λ n. others_hold holds_any n (stepped r.sessions x)) (same_number s) ∙ others_same x r.sessions s.number p.1 ∙ ap (λ n. others_hold holds_any n r.sessions) (p.1 ∙ own) ∙ none)
      | inr p ↦ (λ w. absurd (p.1 (only_holder r.sessions u s j none (write_is_any s.held (rw p.0 at w)) ∙ sym own)))
    ]
      where
        same_number : (s : Session) → (after_any x s).number ≡ s.number
        same_number s = elim (eqb_tells s.number x.session) [ inl p ↦ rw p.0 refl | inr p ↦ rw p.0 refl ]

read_taken : (k : StepKind) (h : Option LockKind) → takes_read k ≡ true → holds_write (lock_after k h) ≡ false
read_taken (Take Read) h e = refl
read_taken (Take ReadLocal) h e = refl
read_taken (Take Write) h e = cc
read_taken Release h e = cc
read_taken Rows h e = cc
read_taken Insert h e = cc
read_taken Change h e = cc
read_taken Unlock h e = cc
read_taken Stats h e = cc
read_taken End h e = cc

none_writes : (r : LockState) (x : Step) → ((s : Session) → In s r.sessions → holds_write s.held ≡ false) → takes_read x.kind ≡ true → IsExclusive (stepped r.sessions x)
none_writes r x none t = map_each _ (after_any x) r.sessions (λ s i w. absurd (elim (eqb_tells s.number x.session) [
  | inl p ↦ (let k : holds_write (lock_after x.kind s.held) ≡ true = rw p.0 at w in let no = read_taken x.kind s.held t in cc)
  | inr p ↦ (let k : holds_write s.held ≡ true = rw p.0 at w in let no = none s i in cc)
]))

step_of : (r : LockState) (holes : Bool) → IsLawful r.sessions → IsExclusive r.sessions → (x : Step) → (is_take x.kind ≡ true → IsExclusive (stepped r.sessions x)) → IsExclusive (fold stepped r.sessions (x ∷ []))
step_of r holes ok ex x h = go (is_take x.kind) refl
  where
    go : (b : Bool) → is_take x.kind ≡ b → IsExclusive (stepped r.sessions x)
    go true is = h is
    go false is = by_steps r (x ∷ []) ex (is, tt)

take_waits : (k : StepKind) (b : Bool) → is_take k ≡ true → waits_for_none k || (writes_rows k && b) ≡ false
take_waits (Take q) b e = refl
take_waits Release b e = cc
take_waits Rows b e = cc
take_waits Insert b e = cc
take_waits Change b e = cc
take_waits Unlock b e = cc
take_waits Stats b e = cc
take_waits End b e = cc

pub exclusive_kept : (r : LockState) (holes : Bool) → IsLawful r.sessions → IsExclusive r.sessions → IsExclusive (advanced r (next_round r holes)).sessions
exclusive_kept r holes ok ex =
    by_cases (KeepsExclusive r) r holes (λ e. ex)
    (λ x e. step_of r holes ok ex x (λ t. absurd (
    let w = first_some at_once r.sessions x e in
    let a = rw (is_next_at waits_for_none w.0 x w.3, is_next_at writes_rows w.0 x w.3) at w.2 in
    let b = take_waits x.kind (holds_read w.0.held || holds_local w.0.held) t in cc)))
    (λ x e. step_of r holes ok ex x (λ t. absurd (
    let w = first_some (λ (s : Session). holds_write s.held) r.sessions x e in
    let can = all_in (λ (s : Session). CanDo s.number s.held s.left) r.sessions w.0 ok.each w.1 in
    let none = (own_head _ _ _ x can w.3).1 t in
    let no = ap holds_write none in let is = w.2 in cc)))
    (λ x p e. step_of r holes ok ex x (λ t.
    let w = first_some (may_write r holes) r.sessions x e in
    let can = all_in (λ (s : Session). CanDo s.number s.held s.left) r.sessions w.0 ok.each w.1 in
    taken_alone r x w.0 w.1 (own_head _ _ _ x can w.3).0 (not_false (others_hold holds_any w.0.number r.sessions) (and_true (is_write r holes w.0) (not (others_hold holds_any w.0.number r.sessions)) w.2).1)))
    (λ p e. by_steps r (read_steps (λ s. holds_any s.held) r.sessions) ex (reads_no_takes (λ s. holds_any s.held) r.sessions))
    (λ x p e. step_of r holes ok ex x (λ t.
    let w = first_some (is_next takes_read) r.sessions x e in
    none_writes r x (λ s i. not_true (holds_write s.held) (λ h.
    let can = all_in (λ (q : Session). CanDo q.number q.held q.left) r.sessions s ok.each i in
    let y = lock_head s.number s.held s.left can (write_is_any s.held h) in
    first_none (λ (q : Session). holds_write q.held) r.sessions s y.0 p.past.held i h y.1)) (sym (is_next_at takes_read w.0 x w.3) ∙ w.2)))
    (λ p. by_steps r (steps_of (together (inserter r.sessions) (reads (λ s. true) r.sessions))) ex
    (all_join _ (run_steps (inserter r.sessions)) (read_steps (λ s. true) r.sessions) (inserts_no_takes (session_at (first (is_next is_insert) r.sessions) r.sessions)) (reads_no_takes (λ s. true) r.sessions)))

pub exclusive_opening : (setting : ℕ) (xs : List Step) → IsExclusive (opening setting xs).sessions
exclusive_opening setting xs = map_numbers (numbers xs)
  where
    map_numbers : (ns : List ℕ) → AllByRecursion (λ (s : Session). holds_write s.held ≡ true → others_hold holds_any s.number (opening setting xs).sessions ≡ false) (map (λ n. record { number = n; left = with_end n (own n xs); held = None }) ns)
    map_numbers [] = tt
    map_numbers (n ∷ ns) = (λ e. cc, map_numbers ns)
