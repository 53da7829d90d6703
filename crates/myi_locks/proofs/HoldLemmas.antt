-- Every round but Finished holds a step, and which inserts run together.
use Rattle.std.proofs.Common.{◌≡◌, ℕ, ◌<◌, ◌==◌, ◌||◌, ◌&&◌, not, List, [], ◌∷◌, map, filter, Option, Some, None, Bool, true, false, cond, refl, ap, sym, ◌∙◌, arith, inl, inr, length, subst, length-append}
use Rattle.std.specs.Prelude.{◌⊎◌, option_map}
use Rattle.std.specs.List.{list_any, flat_map, take_while}
use Rattle.std.proofs.lemmas.List.Sums.{take_while-cons}
use Rattle.myi_locks.specs.declared.steps.LockKind.{LockKind}
use Rattle.myi_locks.specs.declared.steps.LockKind.TheVariants.{Read, ReadLocal, Write}
use Rattle.myi_locks.specs.declared.steps.StepKind.{StepKind}
use Rattle.myi_locks.specs.declared.steps.StepKind.TheVariants.{Release, Take, Rows, Insert, Change, Unlock, Stats, End}
use Rattle.myi_locks.specs.declared.steps.Step.{Step}
use Rattle.myi_locks.specs.declared.steps.Run.{Run}
use Rattle.myi_locks.specs.declared.steps.Round.{Round}
use Rattle.myi_locks.specs.declared.steps.Round.TheVariants.{Finished, Alone, Together}
use Rattle.myi_locks.specs.Steps.{takes_read, is_insert, is_read, waits_for_none, writes_rows, is_always_write}
use Rattle.myi_locks.specs.Sessions.{Session, head, first, is_next, passes, holds_any, holds_write, holds_read, holds_local, others_hold}
use Rattle.myi_locks.specs.Rounds.{LockState, next_round, at_once, is_write, reads, run_of, inserter, session_at, session_of, together, has_step, may_be_concurrent}
use Rattle.myi_locks.specs.Done.{steps_of, run_steps, held, lock_in}
use Rattle.myi_locks.specs.Script.{is_take}
use Rattle.myi_locks.specs.Laws.{CanDo, Rising, IsLawful, HoldsStep, goes_together}
use Rattle.myi_locks.proofs.FirstLemmas.{In, any_in, in_any, all_in, first_none, first_some, found}
use Rattle.myi_locks.proofs.CaseLemmas.{may_write, Past2, Past3, Past5, by_case}

-- where a test does not hold
pub not_true : (b : Bool) → (b ≡ true → ⊥) → b ≡ false
not_true true h = absurd (h refl)
not_true false h = refl

pub and_true : (a b : Bool) → a && b ≡ true → (a ≡ true) × (b ≡ true)
and_true true b e = (refl, e)
and_true false b e = cc

pub and_both : (a b : Bool) → a ≡ true → b ≡ true → a && b ≡ true
and_both true b e f = f
and_both false b e f = cc

-- a session that has a step has a first one
has_head : (s : Session) → has_step s ≡ true → (x : Step) × (head s.left ≡ Some x)
has_head s e = go (head s.left) refl e
  where
    go : (o : Option Step) → head s.left ≡ o → passes (λ k. true) o ≡ true → (x : Step) × (head s.left ≡ Some x)
    go None at h = cc
    go (Some x) at h = (x, at)

pub is_next_at : (test : StepKind → Bool) (s : Session) (x : Step) → head s.left ≡ Some x → is_next test s ≡ test x.kind
is_next_at test s x e = ap (passes test) e

-- what is known of a next step where cases 1 and 2 do not hold
pub plain : (r : LockState) → Past2 r → (s : Session) (x : Step) → In s r.sessions → head s.left ≡ Some x
    → (waits_for_none x.kind || (writes_rows x.kind && (holds_read s.held || holds_local s.held)) ≡ false) × (holds_write s.held ≡ false)
plain r past s x i h = (
  not_true _ (λ e. first_none at_once r.sessions s x past.at_once i (rw (is_next_at waits_for_none s x h, is_next_at writes_rows s x h) e) h),
  not_true _ (λ e. first_none (λ (q : Session). holds_write q.held) r.sessions s x past.held i e h),
)

-- a session that holds a lock then reads
reader : (k : StepKind) (h : Option LockKind) → waits_for_none k || (writes_rows k && (holds_read h || holds_local h)) ≡ false → holds_write h ≡ false → holds_any h ≡ true → (is_take k ≡ true → h ≡ None) → is_read k ≡ true
reader Release h e w a t = cc
reader (Take q) h e w a t = let n = t refl in let no = ap holds_any n in cc
reader Rows h e w a t = refl
reader Insert None e w a t = cc
reader Insert (Some Read) e w a t = cc
reader Insert (Some ReadLocal) e w a t = cc
reader Insert (Some Write) e w a t = cc
reader Change None e w a t = cc
reader Change (Some Read) e w a t = cc
reader Change (Some ReadLocal) e w a t = cc
reader Change (Some Write) e w a t = cc
reader Unlock h e w a t = cc
reader Stats h e w a t = cc
reader End h e w a t = cc

-- what is left for case 6
left_kinds : (k : StepKind) (h c : Bool) → waits_for_none k || (writes_rows k && h) ≡ false → is_always_write k || (is_insert k && c) ≡ false → takes_read k ≡ false → (is_read k ≡ true) ⊎ (is_insert k ≡ true)
left_kinds Release h c e w t = cc
left_kinds (Take Read) h c e w t = cc
left_kinds (Take ReadLocal) h c e w t = cc
left_kinds (Take Write) h c e w t = cc
left_kinds Rows h c e w t = inl refl
left_kinds Insert h c e w t = inr refl
left_kinds Change h c e w t = cc
left_kinds Unlock h c e w t = cc
left_kinds Stats h c e w t = cc
left_kinds End h c e w t = cc

-- a run that begins with a step of its kind holds one
run_holds : (test : StepKind → Bool) (xs : List Step) → passes test (head xs) ≡ true → 0 < length (take_while (λ (x : Step). test x.kind) xs)
run_holds test [] e = cc
run_holds test (x ∷ xs) e = rw (take_while-cons (λ (y : Step). test y.kind) x xs, e) (omega arith)

reads_hold : (test : Session → Bool) (ss : List Session) (s : Session) → In s ss → test s && is_next is_read s ≡ true → 0 < length (flat_map (λ (run : Run). run.steps) (reads test ss))
reads_hold test [] s i e = absurd i
reads_hold test (u ∷ ss) s i e = go (test u && is_next is_read u) refl i (reads_hold test ss s)
  where
    all : List Session → List Step
    all ts = flat_map (λ (run : Run). run.steps) (reads test ts)

    go : (b : Bool) → test u && is_next is_read u ≡ b → (s ≡ u) ⊎ In s ss → (In s ss → test s && is_next is_read s ≡ true → 0 < length (all ss))
        → 0 < length (flat_map (λ (run : Run). run.steps) (map (run_of is_read) (cond b (u ∷ filter (λ t. test t && is_next is_read t) ss) (filter (λ t. test t && is_next is_read t) ss))))
    go true is j ih = let h = run_holds is_read u.left (and_true (test u) _ is).1 in rw length-append (omega arith)
    go false is (inl same) ih = let no = sym is ∙ ap (λ t. test t && is_next is_read t) (sym same) ∙ e in cc
    go false is (inr j) ih = ih j e

holds_together : (inserter : Option Run) (readers : List Run) → (0 < length (run_steps inserter)) ⊎ (0 < length (flat_map (λ (run : Run). run.steps) readers)) → 0 < length (steps_of (together inserter readers))
holds_together i rs h = rw length-append (elim h [ inl a ↦ omega arith | inr b ↦ omega arith ])

-- the lawful steps of a session
pub own_head : (n : ℕ) (h : Option LockKind) (xs : List Step) (x : Step) → CanDo n h xs → head xs ≡ Some x → (x.session ≡ n) × (is_take x.kind ≡ true → h ≡ None)
own_head n h [] x c e = absurd (let k = e in cc)
own_head n h (y ∷ ys) x c e = let same : y ≡ x = let k = e in cc in let P : Step → Type 0 = λ q. (q.session ≡ n) × (is_take q.kind ≡ true → h ≡ None) in subst P same (c.0, c.1)

-- a lock is held only where a step is left
pub lock_head : (n : ℕ) (h : Option LockKind) (xs : List Step) → CanDo n h xs → holds_any h ≡ true → (x : Step) × (head xs ≡ Some x)
lock_head n h [] c e = absurd (let no = ap holds_any c in cc)
lock_head n h (y ∷ ys) c e = (y, refl)

-- the session whose inserts go
pub inserter_is : (ss : List Session) (t : Session) (y : Step) → Rising ss → In t ss → y.session ≡ t.number → first (is_next is_insert) ss ≡ Some y → inserter ss ≡ Some (run_of is_insert t)
inserter_is ss t y rise i own e = ap (λ o. option_map (run_of is_insert) (session_at o ss)) e ∙ ap (λ n. option_map (run_of is_insert) (session_of n ss)) own ∙ ap (option_map (run_of is_insert)) (found ss t rise i)

pub or_cases : (a b : Bool) → a || b ≡ true → (a ≡ true) ⊎ (b ≡ true)
or_cases true b e = inl refl
or_cases false b e = inr e

passes_some : (test : StepKind → Bool) (o : Option Step) → passes test o ≡ true → (x : Step) × (o ≡ Some x) × (test x.kind ≡ true)
passes_some test None e = cc
passes_some test (Some x) e = (x, refl, e)

-- a session with a write next has a step
write_head : (r : LockState) (holes : Bool) (s : Session) → is_write r holes s ≡ true → (x : Step) × (head s.left ≡ Some x)
write_head r holes s e = elim (or_cases _ _ e) [ inl a ↦ (let w = passes_some is_always_write (head s.left) a in (w.0, w.1)) | inr b ↦ (let w = passes_some is_insert (head s.left) (and_true _ _ b).0 in (w.0, w.1)) ]

write_held_by : (r : LockState) (holes : Bool) → IsLawful r.sessions → Past3 r holes → list_any (is_write r holes) r.sessions ≡ true → 0 < length (flat_map (λ (run : Run). run.steps) (reads (λ s. holds_any s.held) r.sessions))
write_held_by r holes ok past e =
    let w = any_in (is_write r holes) r.sessions e in
    let x = write_head r holes w.0 w.2 in
    let others : others_hold holds_any w.0.number r.sessions ≡ true = is_true _ (λ f. first_none (may_write r holes) r.sessions w.0 x.0 past.write w.1 (and_both _ _ w.2 (ap not f)) x.1) in
    let t = any_in (λ s. not (s.number == w.0.number) && holds_any s.held) r.sessions others in
    let holds = (and_true _ _ t.2).1 in
    let can = all_in (λ s. CanDo s.number s.held s.left) r.sessions t.0 ok.each t.1 in
    let y = lock_head _ _ _ can holds in
    let p = plain r past.past t.0 y.0 t.1 y.1 in
    let reading = reader y.0.kind t.0.held p.0 p.1 holds (own_head _ _ _ y.0 can y.1).1 in
    reads_hold (λ s. holds_any s.held) r.sessions t.0 t.1 (and_both _ _ holds (is_next_at is_read t.0 y.0 y.1 ∙ reading))
  where
    is_true : (b : Bool) → (b ≡ false → ⊥) → b ≡ true
    is_true true h = refl
    is_true false h = absurd (h refl)

pub none_in : (p : Session → Bool) (ss : List Session) (s : Session) → list_any p ss ≡ false → In s ss → p s ≡ false
none_in p ss s e i = not_true (p s) (λ t. let yes = in_any p ss s i t in cc)

pub both : (a b c d e : Bool) → a ≡ b → c ≡ d → a || (c && e) ≡ b || (d && e)
both a b c d e f g = cc

-- in case 6 a session with a step has a read or an insert next
sixth : (r : LockState) (holes : Bool) → Past5 r holes → (s : Session) (x : Step) → In s r.sessions → head s.left ≡ Some x → (is_read x.kind ≡ true) ⊎ (is_insert x.kind ≡ true)
sixth r holes past s x i h =
    let p = plain r past.past.past s x i h in
    let w : is_always_write x.kind || (is_insert x.kind && not (may_be_concurrent r holes s.number)) ≡ false =
    both _ _ _ _ _ (sym (is_next_at is_always_write s x h)) (sym (is_next_at is_insert s x h)) ∙ none_in (is_write r holes) r.sessions s past.none i in
    let t : takes_read x.kind ≡ false = not_true _ (λ e. first_none (is_next takes_read) r.sessions s x past.takes i (is_next_at takes_read s x h ∙ e) h) in
    left_kinds x.kind _ _ p.0 w t

sixth_holds : (r : LockState) (holes : Bool) → IsLawful r.sessions → Past5 r holes → 0 < length (steps_of (together (inserter r.sessions) (reads (λ s. true) r.sessions)))
sixth_holds r holes ok past =
    let w = any_in has_step r.sessions past.some in
    let x = has_head w.0 w.2 in
    holds_together (inserter r.sessions) (reads (λ s. true) r.sessions) (elim (sixth r holes past w.0 x.0 w.1 x.1) [
      | inl read ↦ inr (reads_hold (λ s. true) r.sessions w.0 w.1 (is_next_at is_read w.0 x.0 x.1 ∙ read))
      | inr insert ↦ inl (go (first (is_next is_insert) r.sessions) refl w.0 x.0 w.1 (is_next_at is_insert w.0 x.0 x.1 ∙ insert) x.1)
    ])
  where
    go : (o : Option Step) → first (is_next is_insert) r.sessions ≡ o → (s : Session) (x : Step) → In s r.sessions → is_next is_insert s ≡ true → head s.left ≡ Some x → 0 < length (run_steps (inserter r.sessions))
    go None e s x i t h = absurd (first_none (is_next is_insert) r.sessions s x e i t h)
    go (Some y) e s x i t h =
        let w = first_some (is_next is_insert) r.sessions y e in
        let can = all_in (λ s. CanDo s.number s.held s.left) r.sessions w.0 ok.each w.1 in
        rw (inserter_is r.sessions w.0 y ok.rising w.1 (own_head _ _ _ y can w.3).0 e) (run_holds is_insert w.0.left w.2)

pub hold_steps : (r : LockState) (holes : Bool) → IsLawful r.sessions → list_any has_step r.sessions ≡ true → 0 < length (steps_of (next_round r holes))
hold_steps r holes ok some =
    by_case HoldsStep r holes (λ e. absurd (cc)) (λ x e. omega arith) (λ x e. omega arith) (λ x p e. omega arith)
    (λ past e. holds_together None (reads (λ s. holds_any s.held) r.sessions) (inr (write_held_by r holes ok past e)))
    (λ x e. omega arith) (λ past. sixth_holds r holes ok past)

-- Finished comes only where no step is left
pub finished : (r : LockState) (holes : Bool) → next_round r holes ≡ Finished → list_any has_step r.sessions ≡ false
finished r holes =
    by_case (λ round. round ≡ Finished → list_any has_step r.sessions ≡ false) r holes (λ e f. e) (λ x e f. cc) (λ x e f. cc) (λ x p e f. cc) (λ p e f. cc) (λ x e f. cc) (λ p f. cc)

-- ---- which inserts go beside reads

pub held_is : (r : LockState) (s : Session) → Rising r.sessions → In s r.sessions → held r s.number ≡ s.held
held_is r s rise i = ap lock_in (found r.sessions s rise i)

no_lock : (h : Option LockKind) → holds_read h || holds_local h ≡ false → holds_write h ≡ false → h ≡ None
no_lock None a b = refl
no_lock (Some Read) a b = cc
no_lock (Some ReadLocal) a b = cc
no_lock (Some Write) a b = cc

insert_kind : (k : StepKind) (b c : Bool) → is_insert k ≡ true → waits_for_none k || (writes_rows k && b) ≡ false → is_always_write k || (is_insert k && not c) ≡ false → (b ≡ false) × (c ≡ true)
insert_kind Insert b true e w a = (w, refl)
insert_kind Insert b false e w a = cc
insert_kind Release b c e w a = cc
insert_kind (Take q) b c e w a = cc
insert_kind Rows b c e w a = cc
insert_kind Change b c e w a = cc
insert_kind Unlock b c e w a = cc
insert_kind Stats b c e w a = cc
insert_kind End b c e w a = cc

abbrev pub GoesBeside : LockState → Bool → Round → Type 0
GoesBeside r holes round = (run : Run) (readers : _) → round ≡ Together (Some run) readers → (may_be_concurrent r holes run.session ≡ true) × (held r run.session ≡ None)

sixth_beside : (r : LockState) (holes : Bool) → IsLawful r.sessions → Past5 r holes → (run : Run) → inserter r.sessions ≡ Some run → (may_be_concurrent r holes run.session ≡ true) × (held r run.session ≡ None)
sixth_beside r holes ok past run e = go (first (is_next is_insert) r.sessions) refl
  where
    go : (o : Option Step) → first (is_next is_insert) r.sessions ≡ o → (may_be_concurrent r holes run.session ≡ true) × (held r run.session ≡ None)
    go None f = absurd (let no = ap (λ o. option_map (run_of is_insert) (session_at o r.sessions)) f in cc)
    go (Some y) f =
        let w = first_some (is_next is_insert) r.sessions y f in
        let can = all_in (λ s. CanDo s.number s.held s.left) r.sessions w.0 ok.each w.1 in
        let is = inserter_is r.sessions w.0 y ok.rising w.1 (own_head _ _ _ y can w.3).0 f in
        let same : run.session ≡ w.0.number = sym (let q : run_of is_insert w.0 ≡ run = let k = sym is ∙ e in cc in ap (λ (z : Run). z.session) q) in
        let p = plain r past.past.past w.0 y w.1 w.3 in
        let ins : is_insert y.kind ≡ true = sym (is_next_at is_insert w.0 y w.3) ∙ w.2 in
        let none = none_in (is_write r holes) r.sessions w.0 past.none w.1 in
        let k = insert_kind y.kind (holds_read w.0.held || holds_local w.0.held) (may_be_concurrent r holes w.0.number) ins p.0 (both _ _ _ _ _ (sym (is_next_at is_always_write w.0 y w.3)) (sym (is_next_at is_insert w.0 y w.3)) ∙ none) in
        rw same (k.1, held_is r w.0 ok.rising w.1 ∙ no_lock w.0.held k.0 p.1)

pub beside : (r : LockState) (holes : Bool) → IsLawful r.sessions → GoesBeside r holes (next_round r holes)
beside r holes ok =
    by_case (GoesBeside r holes) r holes (λ e run rs f. cc) (λ x e run rs f. cc) (λ x e run rs f. cc) (λ x p e run rs f. cc) (λ p e run rs f. cc) (λ x e run rs f. cc)
    (λ past run rs f. sixth_beside r holes ok past run (let q = f in cc))

-- an insert that goes alone may not go beside reads
abbrev pub GoesAlone : LockState → Bool → Round → Type 0
GoesAlone r holes round = (x : Step) → round ≡ Alone x → is_insert x.kind ≡ true → goes_together r holes x.session ≡ false

locked : (r : LockState) (holes : Bool) → IsLawful r.sessions → (s : Session) (x : Step) → In s r.sessions → head s.left ≡ Some x → holds_any s.held ≡ true → goes_together r holes x.session ≡ false
locked r holes ok s x i h lock =
    let can = all_in (λ s. CanDo s.number s.held s.left) r.sessions s ok.each i in
    let same = (own_head _ _ _ x can h).0 in
    rw (same, held_is r s ok.rising i, lock) (no (may_be_concurrent r holes s.number))
  where
    no : (b : Bool) → b && false ≡ false
    no true = refl
    no false = refl

insert_waits : (k : StepKind) (b : Bool) → is_insert k ≡ true → waits_for_none k || (writes_rows k && b) ≡ true → b ≡ true
insert_waits Insert b e w = w
insert_waits Rows b e w = cc
insert_waits Release b e w = cc
insert_waits (Take q) b e w = cc
insert_waits Change b e w = cc
insert_waits Unlock b e w = cc
insert_waits Stats b e w = cc
insert_waits End b e w = cc

insert_writes : (k : StepKind) (c : Bool) → is_insert k ≡ true → is_always_write k || (is_insert k && not c) ≡ true → c ≡ false
insert_writes Insert true e w = cc
insert_writes Insert false e w = refl
insert_writes Rows c e w = cc
insert_writes Release c e w = cc
insert_writes (Take q) c e w = cc
insert_writes Change c e w = cc
insert_writes Unlock c e w = cc
insert_writes Stats c e w = cc
insert_writes End c e w = cc

insert_takes : (k : StepKind) → is_insert k ≡ true → takes_read k ≡ false
insert_takes Insert e = refl
insert_takes Rows e = cc
insert_takes Release e = cc
insert_takes (Take q) e = cc
insert_takes Change e = cc
insert_takes Unlock e = cc
insert_takes Stats e = cc
insert_takes End e = cc

pub lock_is_any : (h : Option LockKind) → holds_read h || holds_local h ≡ true → holds_any h ≡ true
lock_is_any None e = cc
lock_is_any (Some k) e = refl

pub write_is_any : (h : Option LockKind) → holds_write h ≡ true → holds_any h ≡ true
write_is_any None e = cc
write_is_any (Some k) e = refl

pub alone_same : (x y : Step) → Alone x ≡ Alone y → x ≡ y
alone_same x y e = cc

abbrev pub Waits : LockState → Bool → Step → Type 0
Waits r holes x = is_insert x.kind ≡ true → goes_together r holes x.session ≡ false

pub alone_inserts : (r : LockState) (holes : Bool) → IsLawful r.sessions → GoesAlone r holes (next_round r holes)
alone_inserts r holes ok =
    by_case (GoesAlone r holes) r holes (λ e x f k. cc) (λ x e y f k. at x y f k (first_case x e)) (λ x e y f k. at x y f k (second_case x e)) (λ x p e y f k. at x y f k (third_case x e)) (λ p e x f k. cc) (λ x e y f k. at x y f k (fifth_case x e)) (λ p x f k. cc)
  where
    at : (x y : Step) → Alone x ≡ Alone y → is_insert y.kind ≡ true → Waits r holes x → goes_together r holes y.session ≡ false
    at x y f k w = let same = alone_same x y f in let P : Step → Type 0 = λ q. Waits r holes q in subst P same w k

    first_case : (x : Step) → first at_once r.sessions ≡ Some x → Waits r holes x
    first_case x e k = let w = first_some at_once r.sessions x e in
        locked r holes ok w.0 x w.1 w.3 (lock_is_any w.0.held (insert_waits x.kind _ k (rw (is_next_at waits_for_none w.0 x w.3, is_next_at writes_rows w.0 x w.3) at w.2)))

    second_case : (x : Step) → first (λ s. holds_write s.held) r.sessions ≡ Some x → Waits r holes x
    second_case x e k = let w = first_some (λ (s : Session). holds_write s.held) r.sessions x e in locked r holes ok w.0 x w.1 w.3 (write_is_any w.0.held w.2)

    third_case : (x : Step) → first (may_write r holes) r.sessions ≡ Some x → Waits r holes x
    third_case x e k =
        let w = first_some (may_write r holes) r.sessions x e in
        let can = all_in (λ s. CanDo s.number s.held s.left) r.sessions w.0 ok.each w.1 in
        let c = insert_writes x.kind (may_be_concurrent r holes w.0.number) k (both _ _ _ _ _ (sym (is_next_at is_always_write w.0 x w.3)) (sym (is_next_at is_insert w.0 x w.3)) ∙ (and_true _ _ w.2).0) in
        rw ((own_head _ _ _ x can w.3).0, c) refl

    fifth_case : (x : Step) → first (is_next takes_read) r.sessions ≡ Some x → Waits r holes x
    fifth_case x e k = let w = first_some (is_next takes_read) r.sessions x e in let t = sym (is_next_at takes_read w.0 x w.3) ∙ w.2 in let no = insert_takes x.kind k in cc
