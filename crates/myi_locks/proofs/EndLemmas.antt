-- A round does the next steps of its sessions, so the rounds of a script end and the sessions stay lawful.
use Rattle.std.proofs.Common.{◌≡◌, ℕ, zero, suc, ◌<◌, ◌≤◌, ◌+◌, ◌==◌, ◌&&◌, List, [], ◌∷◌, ◌++◌, map, filter, fold, Option, Some, None, Bool, true, false, cond, refl, ap, sym, ◌∙◌, arith, inl, inr, length, subst, take, drop}
use Rattle.std.specs.Prelude.{◌⊎◌, option_map}
use Rattle.std.specs.List.{AllByRecursion, list_any, find, flat_map, prefix_len}
use Rattle.std.proofs.lemmas.Bool.Decides.{eqb_tells}
use Rattle.std.proofs.lemmas.List.{append-nil, take-append-drop}
use Rattle.myi_locks.specs.declared.steps.LockKind.{LockKind}
use Rattle.myi_locks.specs.declared.steps.StepKind.{StepKind}
use Rattle.myi_locks.specs.declared.steps.StepKind.TheVariants.{Release, Take, Rows, Insert, Change, Unlock, Stats, End}
use Rattle.myi_locks.specs.declared.steps.Step.{Step}
use Rattle.myi_locks.specs.declared.steps.Run.{Run}
use Rattle.myi_locks.specs.declared.steps.Round.{Round}
use Rattle.myi_locks.specs.Steps.{is_insert, is_read, lock_after}
use Rattle.myi_locks.specs.Sessions.{Session, head, first, is_next, passes, holds_any}
use Rattle.myi_locks.specs.Rounds.{LockState, next_round, reads, run_of, inserter, together, has_step, session_at}
use Rattle.myi_locks.specs.Done.{steps_of, run_steps, after, after_any, stepped, advanced}
use Rattle.myi_locks.specs.Script.{own}
use Rattle.myi_locks.specs.Laws.{CanDo, Rising, IsLawful, HoldsStep, steps_left}
use Rattle.myi_locks.proofs.FirstLemmas.{In, all_in, first_some, found, eq_no, eq_yes}
use Rattle.myi_locks.proofs.CaseLemmas.{by_case}
use Rattle.myi_locks.proofs.HoldLemmas.{own_head, inserter_is, hold_steps}
use Rattle.myi_locks.proofs.PlacingLemmas.{own-more}

abbrev pub IsFront : List Step → List Step → Type 0
IsFront xs ys = (rest : List Step) × (xs ++ rest ≡ ys)

-- a session after all of these steps
abbrev pub after_all : Session → List Step → Session
after_all s xs = fold (λ q x. after_any x q) s xs

pub each_own : (ss : List Session) (xs : List Step) → fold stepped ss xs ≡ map (λ s. after_all s xs) ss
each_own ss [] = same ss
  where
    same : (ts : List Session) → ts ≡ map (λ s. s) ts
    same [] = refl
    same (t ∷ ts) = ap (λ q. t ∷ q) (same ts)
each_own ss (x ∷ xs) = each_own (stepped ss x) xs ∙ twice ss
  where
    twice : (ts : List Session) → map (λ s. after_all s xs) (map (after_any x) ts) ≡ map (λ s. after_all (after_any x s) xs) ts
    twice [] = refl
    twice (t ∷ ts) = ap (λ q. after_all (after_any x t) xs ∷ q) (twice ts)

-- a session does its own steps of the list
pub record Did (s t : Session) (xs : List Step) : Type 0 where
  pub number : t.number ≡ s.number
  pub can : CanDo t.number t.held t.left
  pub left : length t.left + length xs ≡ length s.left

front_cons : (x : Step) (xs ys : List Step) → IsFront (x ∷ xs) ys → (zs : List Step) × (ys ≡ x ∷ zs) × IsFront xs zs
front_cons x xs ys f = (xs ++ f.0, sym f.1, (f.0, refl))

does : (xs : List Step) (s : Session) → CanDo s.number s.held s.left → IsFront (own s.number xs) s.left → Did s (after_all s xs) (own s.number xs)
does [] s can f = record { number = refl; can = can; left = omega arith }
does (x ∷ xs) s can f = elim (eqb_tells x.session s.number) [ inl p ↦ mine p.1 (does xs) | inr p ↦ other p.1 (does xs s can) ]
  where
    other : (x.session ≡ s.number → ⊥) → (IsFront (own s.number xs) s.left → Did s (after_all s xs) (own s.number xs)) → Did s (after_all (after_any x s) xs) (own s.number (x ∷ xs))
    other ne ih = rw (eq_no x.session s.number ne, eq_no s.number x.session (λ e. ne (sym e))) (ih (rw (eq_no x.session s.number ne) at f))

    mine : x.session ≡ s.number → ((t : Session) → CanDo t.number t.held t.left → IsFront (own t.number xs) t.left → Did t (after_all t xs) (own t.number xs)) → Did s (after_all (after_any x s) xs) (own s.number (x ∷ xs))
    mine e ih =
        let g : IsFront (x ∷ own s.number xs) s.left = rw (eq_yes x.session s.number e) at f in
        let w = front_cons x (own s.number xs) s.left g in
        let P : List Step → Type 0 = λ q. CanDo s.number s.held q in
        let c : CanDo s.number s.held (x ∷ w.0) = subst P w.1 can in
        let d = ih (record { number = s.number; left = w.0; held = lock_after x.kind s.held }) c.2 w.2 in
        let next : after x s ≡ record { number = s.number; left = w.0; held = lock_after x.kind s.held } = ap (λ q. record { number = s.number; left = drop 1 q; held = lock_after x.kind s.held }) w.1 in
        rw (eq_yes x.session s.number e, eq_yes s.number x.session (sym e), next) (record { number = d.number; can = d.can; left = (let n = ap length w.1 in let k = d.left in omega arith) })

-- ---- the steps of a round are fronts of what is left

own_steps : (n : ℕ) (h : Option LockKind) (xs : List Step) → CanDo n h xs → AllByRecursion (λ (x : Step). x.session ≡ n) xs
own_steps n h [] c = tt
own_steps n h (x ∷ xs) c = (c.0, own_steps n (lock_after x.kind h) xs c.2)

pub all_own : (n : ℕ) (xs : List Step) → AllByRecursion (λ (x : Step). x.session ≡ n) xs → own n xs ≡ xs
all_own n [] h = refl
all_own n (x ∷ xs) h = rw (eq_yes x.session n h.0, all_own n xs h.1) refl

pub none_own : (n m : ℕ) (xs : List Step) → (n ≡ m → ⊥) → AllByRecursion (λ (x : Step). x.session ≡ n) xs → own m xs ≡ []
none_own n m [] ne h = refl
none_own n m (x ∷ xs) ne h = rw (eq_no x.session m (λ e. ne (sym h.0 ∙ e))) (none_own n m xs ne h.1)

all_take : (P : Step → Type 0) (k : ℕ) (xs : List Step) → AllByRecursion P xs → AllByRecursion P (take k xs)
all_take P k [] h = elim k as (λ q. AllByRecursion P (take q [])) [ zero ↦ tt | suc n ↦ tt ]
all_take P zero (x ∷ xs) h = tt
all_take P (suc k) (x ∷ xs) h = (h.0, all_take P k xs h.1)

abbrev pub AllCanDo : List Session → Type 0
AllCanDo ss = AllByRecursion (λ s. CanDo s.number s.held s.left) ss

abbrev pub read_steps : (Session → Bool) → List Session → List Step
read_steps test ss = flat_map (λ (run : Run). run.steps) (reads test ss)

pub run_own : (test : StepKind → Bool) (s : Session) → CanDo s.number s.held s.left → AllByRecursion (λ (x : Step). x.session ≡ s.number) (run_of test s).steps
run_own test s can = all_take _ (prefix_len (λ (x : Step). test x.kind) s.left) s.left (own_steps _ _ _ can)

reads_none : (test : Session → Bool) (ss : List Session) (n : ℕ) → AllByRecursion (λ (t : Session). n < t.number) ss → AllCanDo ss → own n (read_steps test ss) ≡ []
reads_none test [] n low can = refl
reads_none test (u ∷ ss) n low can = go (test u && is_next is_read u) (reads_none test ss n low.1 can.1)
  where
    go : (b : Bool) → own n (read_steps test ss) ≡ [] → own n (flat_map (λ (run : Run). run.steps) (map (run_of is_read) (cond b (u ∷ filter (λ t. test t && is_next is_read t) ss) (filter (λ t. test t && is_next is_read t) ss)))) ≡ []
    go true ih = own-more n (run_of is_read u).steps (read_steps test ss) ∙ rw (none_own u.number n (run_of is_read u).steps (λ e. let l : n < u.number = low.0 in absurd (omega arith)) (run_own is_read u can.0)) ih
    go false ih = ih

reads_own : (test : Session → Bool) (ss : List Session) → Rising ss → AllCanDo ss → (s : Session) → In s ss → own s.number (read_steps test ss) ≡ cond (test s && is_next is_read s) (run_of is_read s).steps []
reads_own test [] rise can s i = absurd i
reads_own test (u ∷ ss) rise can s i = go (test u && is_next is_read u) refl i (reads_own test ss rise.1 can.1 s)
  where
    go : (b : Bool) → test u && is_next is_read u ≡ b → (s ≡ u) ⊎ In s ss → (In s ss → own s.number (read_steps test ss) ≡ cond (test s && is_next is_read s) (run_of is_read s).steps [])
        → own s.number (flat_map (λ (run : Run). run.steps) (map (run_of is_read) (cond b (u ∷ filter (λ t. test t && is_next is_read t) ss) (filter (λ t. test t && is_next is_read t) ss)))) ≡ cond (test s && is_next is_read s) (run_of is_read s).steps []
    go true is (inl same) ih = rw (same, is) (own-more u.number (run_of is_read u).steps (read_steps test ss) ∙ rw (all_own u.number (run_of is_read u).steps (run_own is_read u can.0), reads_none test ss u.number rise.0 can.1) (append-nil (run_of is_read u).steps))
    go false is (inl same) ih = rw (same, is) (reads_none test ss u.number rise.0 can.1)
    go true is (inr j) ih = own-more s.number (run_of is_read u).steps (read_steps test ss)
        ∙ rw (none_own u.number s.number (run_of is_read u).steps (λ e. let l = all_in (λ (t : Session). u.number < t.number) ss s rise.0 j in absurd (omega arith)) (run_own is_read u can.0)) (ih j)
    go false is (inr j) ih = ih j

run_front : (test : StepKind → Bool) (s : Session) → IsFront (run_of test s).steps s.left
run_front test s = (drop (prefix_len (λ (x : Step). test x.kind) s.left) s.left, take-append-drop (prefix_len (λ (x : Step). test x.kind) s.left) s.left)

may_front : (b : Bool) (s : Session) → IsFront (cond b (run_of is_read s).steps []) s.left
may_front true s = run_front is_read s
may_front false s = (s.left, refl)

-- two sessions of one number are one
pub one : (ss : List Session) (s t : Session) → Rising ss → In s ss → In t ss → t.number ≡ s.number → t ≡ s
one ss s t rise i j e = let h : Some t ≡ Some s = sym (found ss t rise j) ∙ ap (λ n. find (λ (q : Session). q.number == n) ss) e ∙ found ss s rise i in cc

alone_front : (ss : List Session) → IsLawful ss → (test : Session → Bool) (x : Step) → first test ss ≡ Some x → (s : Session) → In s ss → IsFront (own s.number (x ∷ [])) s.left
alone_front ss ok test x e s i = elim (eqb_tells x.session s.number) [ inl p ↦ rw (eq_yes x.session s.number p.1) (starts s.left (head_is p.1)) | inr p ↦ rw (eq_no x.session s.number p.1) (s.left, refl) ]
  where
    head_is : x.session ≡ s.number → head s.left ≡ Some x
    head_is same =
        let w = first_some test ss x e in
        let can = all_in (λ (q : Session). CanDo q.number q.held q.left) ss w.0 ok.each w.1 in
        let t = one ss s w.0 ok.rising i w.1 (sym (own_head _ _ _ x can w.3).0 ∙ same) in
        ap (λ (q : Session). head q.left) (sym t) ∙ w.3

    starts : (xs : List Step) → head xs ≡ Some x → IsFront (x ∷ []) xs
    starts [] h = absurd (let k = h in cc)
    starts (y ∷ ys) h = (ys, let same : y ≡ x = let k = h in cc in ap (λ q. q ∷ ys) (sym same))

pub not_both : (k : StepKind) → is_insert k ≡ true → is_read k ≡ false
not_both Insert e = refl
not_both Rows e = cc
not_both Release e = refl
not_both (Take q) e = refl
not_both Change e = refl
not_both Unlock e = refl
not_both Stats e = refl
not_both End e = refl

pub no_read : (o : Option Step) → passes is_insert o ≡ true → passes is_read o ≡ false
no_read None e = refl
no_read (Some x) e = not_both x.kind e

together_front : (ss : List Session) → IsLawful ss → (s : Session) → In s ss → IsFront (own s.number (steps_of (together (inserter ss) (reads (λ s. true) ss)))) s.left
together_front ss ok s i = rw (own-more s.number (run_steps (inserter ss)) (read_steps (λ s. true) ss), reads_own (λ s. true) ss ok.rising ok.each s i) (go (first (is_next is_insert) ss) refl)
  where
    go : (o : Option Step) → first (is_next is_insert) ss ≡ o → IsFront (own s.number (run_steps (inserter ss)) ++ cond (is_next is_read s) (run_of is_read s).steps []) s.left
    go None e = rw (ap (λ o. option_map (run_of is_insert) (session_at o ss)) e) (may_front (is_next is_read s) s)
    go (Some y) e =
        let w = first_some (is_next is_insert) ss y e in
        let can = all_in (λ (q : Session). CanDo q.number q.held q.left) ss w.0 ok.each w.1 in
        rw (inserter_is ss w.0 y ok.rising w.1 (own_head _ _ _ y can w.3).0 e) (elim (eqb_tells w.0.number s.number) [
          | inl p ↦ mine w.0 (one ss s w.0 ok.rising i w.1 p.1) w.2
          | inr p ↦ rw (none_own w.0.number s.number (run_of is_insert w.0).steps p.1 (run_own is_insert w.0 can)) (may_front (is_next is_read s) s)
        ])
      where
        mine : (t : Session) → t ≡ s → is_next is_insert t ≡ true → IsFront (own s.number (run_of is_insert t).steps ++ cond (is_next is_read s) (run_of is_read s).steps []) s.left
        mine t same ins = rw (same, no_read (head s.left) (ap (λ (q : Session). is_next is_insert q) (sym same) ∙ ins), append-nil) (let can = all_in (λ (q : Session). CanDo q.number q.held q.left) ss s ok.each i in rw (all_own s.number (run_of is_insert s).steps (run_own is_insert s can)) (run_front is_insert s))

abbrev pub DoesFronts : List Session → Round → Type 0
DoesFronts ss round = (s : Session) → In s ss → IsFront (own s.number (steps_of round)) s.left

fronts : (r : LockState) (holes : Bool) → IsLawful r.sessions → DoesFronts r.sessions (next_round r holes)
fronts r holes ok =
    by_case (DoesFronts r.sessions) r holes (λ e s i. (s.left, refl)) (λ x e s i. alone_front r.sessions ok _ x e s i) (λ x e s i. alone_front r.sessions ok _ x e s i) (λ x p e s i. alone_front r.sessions ok _ x e s i)
    (λ p e s i. rw (reads_own (λ s. holds_any s.held) r.sessions ok.rising ok.each s i) (may_front _ s))
    (λ x e s i. alone_front r.sessions ok _ x e s i) (λ p s i. together_front r.sessions ok s i)

-- ---- each step belongs to a session

abbrev pub Belongs : List Session → Step → Type 0
Belongs ss x = (s : Session) × In s ss × (x.session ≡ s.number)

pub all_join : (P : Step → Type 0) (xs ys : List Step) → AllByRecursion P xs → AllByRecursion P ys → AllByRecursion P (xs ++ ys)
all_join P [] ys h k = k
all_join P (x ∷ xs) ys h k = (h.0, all_join P xs ys h.1 k)

pub all_weaken : (P Q : Step → Type 0) (xs : List Step) → ((x : Step) → P x → Q x) → AllByRecursion P xs → AllByRecursion Q xs
all_weaken P Q [] f h = tt
all_weaken P Q (x ∷ xs) f h = (f x h.0, all_weaken P Q xs f h.1)

run_belongs : (test : StepKind → Bool) (ss : List Session) (s : Session) → In s ss → CanDo s.number s.held s.left → AllByRecursion (Belongs ss) (run_of test s).steps
run_belongs test ss s i can = all_weaken (λ (x : Step). x.session ≡ s.number) (Belongs ss) (run_of test s).steps (λ x e. (s, i, e)) (run_own test s can)

reads_belong : (test : Session → Bool) (ss all : List Session) → ((s : Session) → In s ss → In s all) → AllCanDo ss → AllByRecursion (Belongs all) (read_steps test ss)
reads_belong test [] all f can = tt
reads_belong test (u ∷ ss) all f can = go (test u && is_next is_read u) (reads_belong test ss all (λ s i. f s (inr i)) can.1)
  where
    go : (b : Bool) → AllByRecursion (Belongs all) (read_steps test ss) → AllByRecursion (Belongs all) (flat_map (λ (run : Run). run.steps) (map (run_of is_read) (cond b (u ∷ filter (λ t. test t && is_next is_read t) ss) (filter (λ t. test t && is_next is_read t) ss))))
    go true ih = all_join (Belongs all) (run_of is_read u).steps (read_steps test ss) (run_belongs is_read all u (f u (inl refl)) can.0) ih
    go false ih = ih

inserts_belong : (ss : List Session) → IsLawful ss → (o : Option Step) → first (is_next is_insert) ss ≡ o → AllByRecursion (Belongs ss) (run_steps (inserter ss))
inserts_belong ss ok None e = rw (ap (λ o. option_map (run_of is_insert) (session_at o ss)) e) tt
inserts_belong ss ok (Some y) e =
    let w = first_some (is_next is_insert) ss y e in
    let can = all_in (λ (q : Session). CanDo q.number q.held q.left) ss w.0 ok.each w.1 in
    rw (inserter_is ss w.0 y ok.rising w.1 (own_head _ _ _ y can w.3).0 e) (run_belongs is_insert ss w.0 w.1 can)

alone_belongs : (ss : List Session) → IsLawful ss → (test : Session → Bool) (x : Step) → first test ss ≡ Some x → AllByRecursion (Belongs ss) (x ∷ [])
alone_belongs ss ok test x e =
    let w = first_some test ss x e in
    let can = all_in (λ (q : Session). CanDo q.number q.held q.left) ss w.0 ok.each w.1 in
    ((w.0, w.1, (own_head _ _ _ x can w.3).0), tt)

pub belong : (r : LockState) (holes : Bool) → IsLawful r.sessions → AllByRecursion (Belongs r.sessions) (steps_of (next_round r holes))
belong r holes ok =
    by_case (λ round. AllByRecursion (Belongs r.sessions) (steps_of round)) r holes (λ e. tt) (λ x e. alone_belongs r.sessions ok _ x e) (λ x e. alone_belongs r.sessions ok _ x e) (λ x p e. alone_belongs r.sessions ok _ x e)
    (λ p e. reads_belong (λ s. holds_any s.held) r.sessions r.sessions (λ s i. i) ok.each)
    (λ x e. alone_belongs r.sessions ok _ x e)
    (λ p. all_join (Belongs r.sessions) (run_steps (inserter r.sessions)) (read_steps (λ s. true) r.sessions) (inserts_belong r.sessions ok (first (is_next is_insert) r.sessions) refl) (reads_belong (λ s. true) r.sessions r.sessions (λ s i. i) ok.each))

-- ---- the two laws

all_did : (r : LockState) (holes : Bool) → IsLawful r.sessions → (s : Session) → In s r.sessions → Did s (after_all s (steps_of (next_round r holes))) (own s.number (steps_of (next_round r holes)))
all_did r holes ok s i = does (steps_of (next_round r holes)) s (all_in (λ (q : Session). CanDo q.number q.held q.left) r.sessions s ok.each i) (fronts r holes ok s i)

abbrev pub all_after : List Session → List Step → List Session
all_after ss xs = map (λ s. after_all s xs) ss

rising_after : (ss : List Session) (xs : List Step) → ((s : Session) → In s ss → (after_all s xs).number ≡ s.number) → Rising ss → Rising (all_after ss xs)
rising_after [] xs f rise = tt
rising_after (s ∷ ss) xs f rise = (higher ss (λ t i. f t (inr i)) rise.0, rising_after ss xs (λ t i. f t (inr i)) rise.1)
  where
    higher : (ts : List Session) → ((t : Session) → In t ts → (after_all t xs).number ≡ t.number) → AllByRecursion (λ (t : Session). s.number < t.number) ts → AllByRecursion (λ (t : Session). (after_all s xs).number < t.number) (all_after ts xs)
    higher [] g h = tt
    higher (t ∷ ts) g h = (let a = f s (inl refl) in let b = g t (inl refl) in let l : s.number < t.number = h.0 in omega arith, higher ts (λ q i. g q (inr i)) h.1)

can_after : (ss : List Session) (xs : List Step) → ((s : Session) → In s ss → Did s (after_all s xs) (own s.number xs)) → AllCanDo (all_after ss xs)
can_after [] xs f = tt
can_after (s ∷ ss) xs f = ((f s (inl refl)).can, can_after ss xs (λ t i. f t (inr i)))

pub kept : (r : LockState) (holes : Bool) → IsLawful r.sessions → IsLawful (advanced r (next_round r holes)).sessions
kept r holes ok =
    let xs = steps_of (next_round r holes) in
    let P : List Session → Type 0 = λ ss. IsLawful ss in
    subst P (sym (each_own r.sessions xs)) (record { rising = rising_after r.sessions xs (λ s i. (all_did r holes ok s i).number) ok.rising; each = can_after r.sessions xs (all_did r holes ok) })

no_more : (ss : List Session) (xs : List Step) → ((s : Session) → In s ss → Did s (after_all s xs) (own s.number xs)) → steps_left (all_after ss xs) ≤ steps_left ss
no_more [] xs f = omega arith
no_more (s ∷ ss) xs f = let d = (f s (inl refl)).left in let ih = no_more ss xs (λ t i. f t (inr i)) in omega arith

one_less : (ss : List Session) (xs : List Step) → ((s : Session) → In s ss → Did s (after_all s xs) (own s.number xs)) → (s : Session) → In s ss → 0 < length (own s.number xs) → steps_left (all_after ss xs) < steps_left ss
one_less [] xs f s i some = absurd i
one_less (u ∷ ss) xs f s (inl same) some = let P : Session → Type 0 = λ q. 0 < length (own q.number xs) in let n = subst P same some in let d = (f u (inl refl)).left in let ih = no_more ss xs (λ t i. f t (inr i)) in omega arith
one_less (u ∷ ss) xs f s (inr i) some = let d = (f u (inl refl)).left in let ih = one_less ss xs (λ t j. f t (inr j)) s i some in omega arith

starts_own : (ss : List Session) (xs : List Step) → 0 < length xs → AllByRecursion (Belongs ss) xs → (s : Session) × In s ss × (0 < length (own s.number xs))
starts_own ss [] some h = absurd (omega arith)
starts_own ss (x ∷ xs) some h = let w = h.0 in (w.0, w.1, rw (eq_yes x.session w.0.number w.2) (omega arith))

pub fewer : (r : LockState) (holes : Bool) → IsLawful r.sessions → list_any has_step r.sessions ≡ true → steps_left (advanced r (next_round r holes)).sessions < steps_left r.sessions
fewer r holes ok some =
    let xs = steps_of (next_round r holes) in
    let w = starts_own r.sessions xs (hold_steps r holes ok some) (belong r holes ok) in
    let P : List Session → Type 0 = λ ss. steps_left ss < steps_left r.sessions in
    subst P (sym (each_own r.sessions xs)) (one_less r.sessions xs (all_did r holes ok) w.0 w.1 w.2)

pub kept_by : (setting : ℕ) (ss ys : List Session) (r : LockState) (round : Round) → IsLawful ss → record { setting = setting; sessions = ss } ≡ r → (holes : Bool) × (round ≡ next_round r holes) → ys ≡ fold stepped ss (steps_of round) → IsLawful ys
kept_by setting ss ys r round ok is from made =
    let rule : LockState = record { setting = setting; sessions = ss } in
    let P : List Session → Type 0 = λ q. IsLawful q in
    subst P (sym (made ∙ ap (λ q. fold stepped ss (steps_of q)) (from.1 ∙ ap (λ q. next_round q from.0) (sym is)))) (kept rule from.0 ok)

pub holds_by : (setting : ℕ) (ss now : List Session) (r : LockState) (holes : Bool) (round : Round) → IsLawful ss → record { setting = setting; sessions = ss } ≡ r → now ≡ ss → round ≡ next_round (record { setting = setting; sessions = now }) holes
    → list_any has_step r.sessions ≡ true → HoldsStep round
holds_by setting ss now r holes round ok is same e some =
    let rule : LockState = record { setting = setting; sessions = ss } in
    let P : Round → Type 0 = λ q. HoldsStep q in
    subst P (sym (e ∙ ap (λ q. next_round (record { setting = setting; sessions = q }) holes) same)) (hold_steps rule holes ok (ap (λ (q : LockState). list_any has_step q.sessions) is ∙ some))
