-- While a session holds READ or READ LOCAL, rows are inserted at the end alone, so it goes on to find the rows that it took the lock at.
use Rattle.std.proofs.Common.{◌≡◌, ℕ, ◌≤◌, ◌==◌, ◌&&◌, ◌||◌, not, List, [], ◌∷◌, ◌++◌, Option, Some, None, Result, Ok, Err, Bool, true, false, cond, refl, ap, sym, ◌∙◌, inl, inr, subst, append_assoc, append-nil}
use Rattle.std.specs.Prelude.{◌⊎◌, option_map}
use Rattle.std.specs.List.{AllByRecursion, find, list_any}
use Rattle.std.proofs.lemmas.Bool.Decides.{eqb_tells}
use Rattle.myi_defs.specs.declared.types.Defs.{Defs}
use Rattle.myi_defs.specs.Sound.{IsSound}
use Rattle.myi_pack.specs.Packed.{Values}
use Rattle.myi_pack.specs.Spelling.{fits}
use Rattle.myi_state.specs.State.{TableState}
use Rattle.myi_state.specs.Changes.{Change, insert, insert_at_end, delete, update, accepted, replay}
use Rattle.myi_state.specs.Sound.{IsState, MayCome}
use Rattle.myi_state.proofs.CallerLemmas.{accepted-kept}
use Rattle.myi_tablestate.specs.Keyed.{KeyedRefusal, keyed_step, keyed_step_by, keyed_refusal, if_made}
use Rattle.myi_locks.specs.declared.steps.LockKind.{LockKind}
use Rattle.myi_locks.specs.declared.steps.LockKind.TheVariants.{Read, ReadLocal, Write}
use Rattle.myi_locks.specs.declared.steps.StepKind.{StepKind}
use Rattle.myi_locks.specs.declared.steps.StepKind.TheVariants as kind
use Rattle.myi_locks.specs.declared.steps.Step.{Step}
use Rattle.myi_locks.specs.declared.steps.Round.{Round}
use Rattle.myi_locks.specs.declared.steps.Round.TheVariants.{Finished, Alone, Together}
use Rattle.myi_locks.specs.Steps.{is_insert, is_read, takes_read, writes_rows, lock_after}
use Rattle.myi_locks.specs.Sessions.{Session, holds_read, holds_local}
use Rattle.myi_locks.specs.Rounds.{LockState, next_round, session_of}
use Rattle.myi_locks.specs.Done.{steps_of, advanced, held, lock_in, is_together}
use Rattle.myi_locks.specs.Script.{own}
use Rattle.myi_locks.specs.Laws.{IsLawful, IsExclusive, IsRefused, ReadsOrInserts, is_reader, lock_left}
use Rattle.myi_locks.proofs.CallerLemmas.{kept, opens, exclusive_opening, exclusive_kept, refused_alone, together_kinds, held_by_steps, none_held}
use Rattle.myi_script.specs.declared.types.Act.{Act}
use Rattle.myi_script.specs.declared.types.Act.TheVariants as act
use Rattle.myi_script.specs.declared.types.Line.{Line}
use Rattle.myi_history.specs.Lines.{MayRun, BringsRow, act_of, script_steps}
use Rattle.myi_history.specs.Appending.{IsAppend, AreAppends, rows_before}
use Rattle.myi_history.specs.History.{Taking, in_table, in_member, in_none, is_list, Statements, table_change, list_change, Opening, ScriptRound, change_of, reads_only, asks, asked_in, accepted_of, stepped_by, changes, state_after, changes_in, first_locks, rounds_of, history, has_hole}
use Rattle.myi_history.specs.Text.{Numbers, state_at}
use Rattle.myi_history.specs.Bounds.{SessionNumber, number_at, taken_by}
use Rattle.myi_history.specs.Running.{taken_in, locks_after, table_after, number_after, next_after, seen_number, seen_state, HasRun}
use Rattle.myi_history.proofs.LineLemmas.{steps_run}
use Rattle.myi_history.proofs.ReplayLemmas.{replay_append, replay_round}
use Rattle.myi_history.proofs.AppendLemmas.{appends_stand_behind, appends_grow}
use Rattle.myi_history.proofs.RunLemmas.{locks_more, table_more, taken_more, next_is, table_now}
use Rattle.myi_history.proofs.StepLemmas.{Each, EachLeft, each_so, IsOfLine, round_has, round_leaves, opening_has, are_of_lines}

-- ---- round by round

-- this round is done next, and there are more behind it
abbrev pub ComesNext : Opening → List ScriptRound → Type 0
ComesNext o front = (more : List ScriptRound) × (rounds_of o ≡ front ++ next_after o front ∷ more)

-- what is so of no rounds, and stays so by each next round, is so of the first rounds of a script
round_by_round : (o : Opening) (P : List ScriptRound → Type 0) → ((front : List ScriptRound) → ComesNext o front → P front → P (front ++ next_after o front ∷ []))
    → (done front back : List ScriptRound) → rounds_of o ≡ (done ++ front) ++ back → P done → P (done ++ front)
round_by_round o P step done [] back e h = subst P (sym (append-nil done)) h
round_by_round o P step done (p ∷ ps) back e h =
    let there : rounds_of o ≡ done ++ p ∷ (ps ++ back) = e ∙ append_assoc done (p ∷ ps) back in
    let is : p ≡ next_after o done = next_is o done (ps ++ back) p there in
    let Q : ScriptRound → Type 0 = λ q. P (done ++ q ∷ []) in
    let one : P (done ++ p ∷ []) = subst Q (sym is) (step done (ps ++ back, there ∙ ap (λ q. done ++ q ∷ (ps ++ back)) is) h) in
    subst P (append_assoc done (p ∷ []) ps)
    (round_by_round o P step (done ++ p ∷ []) ps back (e ∙ ap (λ qs. qs ++ back) (sym (append_assoc done (p ∷ []) ps))) one)

by_rounds : (o : Opening) (P : List ScriptRound → Type 0) → P [] → ((front : List ScriptRound) → ComesNext o front → P front → P (front ++ next_after o front ∷ []))
    → (front back : List ScriptRound) → rounds_of o ≡ front ++ back → P front
by_rounds o P begin step front back e = round_by_round o P step [] front back e begin

-- ---- the locks of a script that may run

pub record AreScripts (d : Defs) (ls : Statements) (r : LockState) : Type 0 where
  pub lawful : IsLawful r.sessions
  pub exclusive : IsExclusive r.sessions
  pub lines : EachLeft (IsOfLine d ls.takes ls.lines) r.sessions

locks_begin : (o : Opening) → MayRun o.defs o.script.lines → AreScripts o.defs o.script (first_locks o)
locks_begin o run = record {
  lawful = opens o.setting (script_steps (is_list o.script.takes) o.script.lines) (steps_run o.defs o.script.lines run (is_list o.script.takes));
  exclusive = exclusive_opening o.setting (script_steps (is_list o.script.takes) o.script.lines);
  lines = opening_has (IsOfLine o.defs o.script.takes o.script.lines) o.setting (script_steps (is_list o.script.takes) o.script.lines) (are_of_lines o.defs o.script.takes o.script.lines run.grow run.rows) (λ n q. absurd (cc));
}

locks_stay : (d : Defs) (ls : Statements) (r : LockState) (hole : Bool) → AreScripts d ls r → AreScripts d ls (advanced r (next_round r hole))
locks_stay d ls r hole h = record {
  lawful = kept r hole h.lawful;
  exclusive = exclusive_kept r hole h.lawful h.exclusive;
  lines = round_leaves (IsOfLine d ls.takes ls.lines) r (next_round r hole) h.lines;
}

pub scripts_locks : (o : Opening) → MayRun o.defs o.script.lines → (front back : List ScriptRound) → rounds_of o ≡ front ++ back → AreScripts o.defs o.script (locks_after o front)
scripts_locks o run front back e =
    let P : LockState → Type 0 = λ r. AreScripts o.defs o.script r in
    by_rounds o (λ ps. AreScripts o.defs o.script (locks_after o ps)) (locks_begin o run)
    (λ ps next h. subst P (sym (locks_more o ps (next_after o ps))) (locks_stay o.defs o.script (locks_after o ps) (has_hole o.script.takes (table_after o ps)) h))
    front back e

-- ---- changes that are asked for have rows in form

abbrev Brings : Defs → Option Act → Type 0
Brings d None = Unit {0}
Brings d (Some a) = BringsRow d a

abbrev Comes : Defs → Option Change → Type 0
Comes d None = Unit {0}
Comes d (Some c) = MayCome d c

act_brings : (d : Defs) (ls : List Line) (n : ℕ) → AllByRecursion (λ (l : Line). BringsRow d l.act) ls → Brings d (act_of ls n)
act_brings d [] n h = tt
act_brings d (l ∷ ls) n h = go (l.line == n) (act_brings d ls n h.1)
  where
    go : (b : Bool) → Brings d (act_of ls n) → Brings d (option_map (λ (m : Line). m.act) (cond b (Some l) (find (λ (m : Line). m.line == n) ls)))
    go true ih = h.0
    go false ih = ih

table_comes : (d : Defs) (t : Bool) (o : Option Act) → Brings d o → Comes d (table_change t o)
table_comes d true (Some (act.Insert row)) h = h
table_comes d false (Some (act.Insert row)) h = h
table_comes d t (Some (act.Update at row)) h = h
table_comes d t (Some (act.Delete at)) h = tt
table_comes d t (Some act.Scan) h = tt
table_comes d t (Some (act.Over range)) h = tt
table_comes d t (Some (act.Lock lock)) h = tt
table_comes d t (Some act.Unlock) h = tt
table_comes d t (Some act.Stats) h = tt
table_comes d t (Some act.End) h = tt
table_comes d t None h = tt

list_comes : (d : Defs) (o : Option Act) → Brings d o → Comes d (list_change o)
list_comes d (Some (act.Insert row)) h = h
list_comes d (Some (act.Update at row)) h = tt
list_comes d (Some (act.Delete at)) h = tt
list_comes d (Some act.Scan) h = tt
list_comes d (Some (act.Over range)) h = tt
list_comes d (Some (act.Lock lock)) h = tt
list_comes d (Some act.Unlock) h = tt
list_comes d (Some act.Stats) h = tt
list_comes d (Some act.End) h = tt
list_comes d None h = tt

change_comes : (d : Defs) (k : Taking) (t : Bool) (o : Option Act) → Brings d o → Comes d (change_of k t o)
change_comes d in_table t o h = table_comes d t o h
change_comes d (in_member number) t o h = list_comes d o h
change_comes d in_none t o h = tt

asked_comes : (d : Defs) (ls : Statements) (r : LockState) (t : Bool) (x : Step) → AllByRecursion (λ (l : Line). BringsRow d l.act) ls.lines → Comes d (asks ls r t x)
asked_comes d ls r t x h = go (writes_rows x.kind && not (reads_only r x.session))
  where
    go : (b : Bool) → Comes d (cond b (change_of ls.takes t (act_of ls.lines x.line)) None)
    go true = change_comes d ls.takes t (act_of ls.lines x.line) (act_brings d ls.lines x.line h)
    go false = tt

-- ---- so states stay states

kept_by : (d : Defs) (s : TableState) (c : Change) (q : Option KeyedRefusal) → IsSound d → MayCome d c → IsState d s → IsState d (keyed_step_by s (accepted d s c) q).state
kept_by d s c None sound may state = accepted-kept d s c sound may state
kept_by d s c (Some q) sound may state = state

step_keeps : (d : Defs) (s : TableState) (o : Option Change) → IsSound d → Comes d o → IsState d s → IsState d (stepped_by d s o)
unfolding keyed_step
step_keeps d s None sound may state = state
step_keeps d s (Some c) sound may state = kept_by d s c (keyed_refusal d s c) sound may state

steps_keep : (d : Defs) (asked : Step → Option Change) (s : TableState) (xs : List Step) → IsSound d → ((x : Step) → Comes d (asked x)) → IsState d s → IsState d (state_after d asked s xs)
steps_keep d asked s [] sound may state = state
steps_keep d asked s (x ∷ xs) sound may state = steps_keep d asked (stepped_by d s (asked x)) xs sound may (step_keeps d s (asked x) sound (may x) state)

pub stays_state : (o : Opening) → MayRun o.defs o.script.lines → IsSound o.defs → IsState o.defs o.base → (front back : List ScriptRound) → rounds_of o ≡ front ++ back → IsState o.defs (table_after o front)
stays_state o run sound base front back e =
    let P : TableState → Type 0 = λ s. IsState o.defs s in
    by_rounds o (λ ps. IsState o.defs (table_after o ps)) base
    (λ ps next h. let p : ScriptRound = next_after o ps in
    subst P (sym (table_more o ps)) (steps_keep o.defs (asked_in o.script p) p.state (steps_of p.round) sound (λ x. asked_comes o.defs o.script p.locks (is_together p.round) x run.rows) h))
    front back e

-- ---- changes of a round while a session holds READ or READ LOCAL

abbrev pub holds_lock : Option LockKind → Bool
holds_lock h = holds_read h || holds_local h

some_reader : (n : ℕ) (ss : List Session) → holds_lock (lock_in (session_of n ss)) ≡ true → list_any is_reader ss ≡ true
some_reader n [] e = cc
some_reader n (s ∷ ss) e = go (s.number == n) e (some_reader n ss)
  where
    or_true : (b : Bool) → b || true ≡ true
    or_true true = refl
    or_true false = refl

    go : (b : Bool) → holds_lock (lock_in (cond b (Some s) (session_of n ss))) ≡ true → (holds_lock (lock_in (session_of n ss)) ≡ true → list_any is_reader ss ≡ true) → is_reader s || list_any is_reader ss ≡ true
    go true k ih = rw k refl
    go false k ih = rw (ih k) (or_true (is_reader s))

abbrev Appends : Defs → Option Change → Type 0
Appends d None = Unit {0}
Appends d (Some c) = IsAppend d c

more_appends : (d : Defs) (cs ds : List Change) → AreAppends d cs → AreAppends d ds → AreAppends d (cs ++ ds)
more_appends d [] ds h k = k
more_appends d (c ∷ cs) ds h k = (h.0, more_appends d cs ds h.1 k)

made_appends : (d : Defs) (c : Change) (reply : Result ℕ KeyedRefusal) → IsAppend d c → AreAppends d (if_made c [] reply)
made_appends d c (Ok at) h = (h, tt)
made_appends d c (Err q) h = tt

accepted_appends : (d : Defs) (s : TableState) (o : Option Change) → Appends d o → AreAppends d (accepted_of d s o)
accepted_appends d s None h = tt
accepted_appends d s (Some c) h = made_appends d c (keyed_step d s c).reply h

steps_append : (d : Defs) (asked : Step → Option Change) (s : TableState) (xs : List Step) → Each (λ x. Appends d (asked x)) xs → AreAppends d (changes d asked s xs)
steps_append d asked s [] h = tt
steps_append d asked s (x ∷ xs) h =
    more_appends d (accepted_of d s (asked x)) (changes d asked (stepped_by d s (asked x)) xs) (accepted_appends d s (asked x) h.0) (steps_append d asked (stepped_by d s (asked x)) xs h.1)

alone_asks : (d : Defs) (k : Taking) (o : Option Act) (w reads : Bool) → (w ≡ true → reads ≡ true) → Appends d (cond (w && not reads) (change_of k false o) None)
alone_asks d k o false reads h = tt
alone_asks d k o true reads h = rw (h refl) tt

abbrev IsInsert : Defs → Taking → Option Act → Type 0
IsInsert d t o = (row : Values) × (o ≡ Some (act.Insert row)) × (fits d row ≡ true) × (t ≡ in_table)

beside_asks : (d : Defs) (t : Taking) (o : Option Act) (k : StepKind) (reads : Bool) → is_read k || is_insert k ≡ true → (is_insert k ≡ true → IsInsert d t o) → Appends d (cond (writes_rows k && not reads) (change_of t true o) None)
beside_asks d t o kind.Insert true e h = tt
beside_asks d t o kind.Insert false e h =
    let w = h refl in
    let P : Option Act → Type 0 = λ q. Appends d (table_change true q) in
    let Q : Taking → Type 0 = λ u. Appends d (change_of u true o) in
    subst Q (sym w.3) (subst P (sym w.1) w.2)
beside_asks d t o kind.Rows reads e h = tt
beside_asks d t o kind.Release reads e h = tt
beside_asks d t o (kind.Take lock) reads e h = tt
beside_asks d t o kind.Change reads e h = absurd (cc)
beside_asks d t o kind.Unlock reads e h = tt
beside_asks d t o kind.Stats reads e h = tt
beside_asks d t o kind.End reads e h = tt

both : (P Q : Step → Type 0) (xs : List Step) → Each P xs → Each Q xs → Each (λ x. P x × Q x) xs
both P Q [] h k = tt
both P Q (x ∷ xs) h k = ((h.0, k.0), both P Q xs h.1 k.1)

abbrev GoesBeside : Step → Type 0
GoesBeside x = is_read x.kind || is_insert x.kind ≡ true

round_appends : (d : Defs) (ls : Statements) (r : LockState) (s : TableState) (round : Round) → list_any is_reader r.sessions ≡ true → IsRefused r round → ReadsOrInserts round → Each (IsOfLine d ls.takes ls.lines) (steps_of round)
    → AreAppends d (changes d (asks ls r (is_together round)) s (steps_of round))
round_appends d ls r s Finished some refused kinds lines = tt
round_appends d ls r s (Alone x) some refused kinds lines =
    steps_append d (asks ls r false) s (x ∷ []) (alone_asks d ls.takes (act_of ls.lines x.line) (writes_rows x.kind) (reads_only r x.session) (λ w. refused x refl w some), tt)
round_appends d ls r s (Together inserter readers) some refused kinds lines =
    let xs : List Step = steps_of (Together inserter readers) in
    steps_append d (asks ls r true) s xs
    (each_so (λ x. GoesBeside x × IsOfLine d ls.takes ls.lines x) (λ x. Appends d (asks ls r true x)) xs
    (λ x h. beside_asks d ls.takes (act_of ls.lines x.line) x.kind (reads_only r x.session) h.0 h.1)
    (both GoesBeside (IsOfLine d ls.takes ls.lines) xs (kinds refl) lines))

next_appends : (o : Opening) → MayRun o.defs o.script.lines → (front back : List ScriptRound) → rounds_of o ≡ front ++ back → (n : ℕ) → reads_only (locks_after o front) n ≡ true → AreAppends o.defs (changes_in o (next_after o front))
next_appends o run front back e n reads =
    let r : LockState = locks_after o front in
    let hole : Bool = has_hole o.script.takes (table_after o front) in
    let locks : AreScripts o.defs o.script r = scripts_locks o run front back e in
    round_appends o.defs o.script r (table_after o front) (next_round r hole) (some_reader n r.sessions reads)
    (refused_alone r hole locks.lawful locks.exclusive) (together_kinds r hole locks.lawful) (round_has (IsOfLine o.defs o.script.takes o.script.lines) r hole locks.lines)

pub run_appends : (o : Opening) (front : List ScriptRound) (c : List Numbers) (n : ℕ) → MayRun o.defs o.script.lines → HasRun o front c → reads_only (locks_after o front) n ≡ true → AreAppends o.defs (changes_in o (next_after o front))
run_appends o front c n run has reads = next_appends o run front has.first.0 has.first.1 n reads

-- ---- where the lock was taken

-- a step that takes no READ and no READ LOCAL
abbrev TakesNone : Step → Type 0
TakesNone x = takes_read x.kind ≡ false

one_before : (k : StepKind) (h : Option LockKind) → takes_read k ≡ false → holds_lock (lock_after k h) ≡ true → holds_lock h ≡ true
one_before kind.Release h e l = cc
one_before (kind.Take Read) h e l = cc
one_before (kind.Take ReadLocal) h e l = cc
one_before (kind.Take Write) h e l = cc
one_before kind.Rows h e l = l
one_before kind.Insert h e l = l
one_before kind.Change h e l = l
one_before kind.Unlock h e l = cc
one_before kind.Stats h e l = l
one_before kind.End h e l = cc

held_before : (h : Option LockKind) (xs : List Step) → Each TakesNone xs → holds_lock (lock_left h xs) ≡ true → holds_lock h ≡ true
held_before h [] none l = l
held_before h (x ∷ xs) none l = one_before x.kind h none.0 (held_before (lock_after x.kind h) xs none.1 l)

-- The round is the session's Take, or it takes none and notes nothing of the session.
abbrev IsTake : Round → ℕ → Type 0
IsTake round n = (x : Step) × (round ≡ Alone x) × (takes_read x.kind ≡ true) × (x.session ≡ n)

pub record IsNone (round : Round) (n : ℕ) : Type 0 where
  pub steps : Each TakesNone (own n (steps_of round))
  pub notes : (taken : List SessionNumber) (k : ℕ) → number_at n (taken_by k round ++ taken) ≡ number_at n taken

own_none : (n : ℕ) (xs : List Step) → Each TakesNone xs → Each TakesNone (own n xs)
own_none n [] h = tt
own_none n (x ∷ xs) h = go (x.session == n) (own_none n xs h.1)
  where
    go : (b : Bool) → Each TakesNone (own n xs) → Each TakesNone (cond b (x ∷ own n xs) (own n xs))
    go true ih = (h.0, ih)
    go false ih = ih

beside_none : (k : StepKind) → is_read k || is_insert k ≡ true → takes_read k ≡ false
beside_none kind.Rows e = refl
beside_none kind.Insert e = refl
beside_none kind.Release e = refl
beside_none (kind.Take lock) e = cc
beside_none kind.Change e = refl
beside_none kind.Unlock e = refl
beside_none kind.Stats e = refl
beside_none kind.End e = refl

alone_takes : (x : Step) (n : ℕ) → IsTake (Alone x) n ⊎ IsNone (Alone x) n
alone_takes x n = go (takes_read x.kind) refl
  where
    other : (x.session == n) ≡ false → IsNone (Alone x) n
    other ne = record { steps = rw ne tt; notes = λ taken k. passed taken k (takes_read x.kind) }
      where
        passed : (taken : List SessionNumber) (k : ℕ) (b : Bool) → number_at n (cond b ((x.session, k) ∷ []) [] ++ taken) ≡ number_at n taken
        passed taken k true = rw ne refl
        passed taken k false = refl

    go : (b : Bool) → takes_read x.kind ≡ b → IsTake (Alone x) n ⊎ IsNone (Alone x) n
    go true is = elim (eqb_tells x.session n) [ inl p ↦ inl (x, refl, is, p.1) | inr p ↦ inr (other p.0) ]
    go false is = inr (record { steps = own_none n (x ∷ []) (is, tt); notes = λ taken k. rw is refl })

takes_or_none : (round : Round) (n : ℕ) → ReadsOrInserts round → IsTake round n ⊎ IsNone round n
takes_or_none Finished n kinds = inr (record { steps = tt; notes = λ taken k. refl })
takes_or_none (Alone x) n kinds = alone_takes x n
takes_or_none (Together inserter readers) n kinds =
    let xs : List Step = steps_of (Together inserter readers) in
    inr (record { steps = own_none n xs (each_so GoesBeside TakesNone xs (λ x e. beside_none x.kind e) (kinds refl)); notes = λ taken k. refl })

-- a Take notes how many changes stand, and asks nothing
take_writes_none : (k : StepKind) → takes_read k ≡ true → writes_rows k ≡ false
take_writes_none kind.Rows e = refl
take_writes_none kind.Insert e = cc
take_writes_none kind.Release e = refl
take_writes_none (kind.Take lock) e = refl
take_writes_none kind.Change e = cc
take_writes_none kind.Unlock e = refl
take_writes_none kind.Stats e = refl
take_writes_none kind.End e = refl

take_notes : (round : Round) (n k : ℕ) (taken : List SessionNumber) → IsTake round n → number_at n (taken_by k round ++ taken) ≡ k
take_notes round n k taken w = ap (λ q. number_at n (taken_by k q ++ taken)) w.1 ∙ first (takes_read w.0.kind) w.2
  where
    itself : (w.0.session == n) ≡ true
    itself = elim (eqb_tells w.0.session n) [ inl p ↦ p.0 | inr p ↦ absurd (p.1 w.3) ]

    first : (b : Bool) → b ≡ true → number_at n (cond b ((w.0.session, k) ∷ []) [] ++ taken) ≡ k
    first true e = rw itself refl
    first false e = cc

take_leaves : (d : Defs) (ls : Statements) (r : LockState) (s : TableState) (round : Round) (n : ℕ) → IsTake round n → state_after d (asks ls r (is_together round)) s (steps_of round) ≡ s
take_leaves d ls r s round n w = ap (λ q. state_after d (asks ls r (is_together q)) s (steps_of q)) w.1 ∙ asks_none (writes_rows w.0.kind) (take_writes_none w.0.kind w.2)
  where
    asks_none : (b : Bool) → b ≡ false → stepped_by d s (cond (b && not (reads_only r w.0.session)) (change_of ls.takes false (act_of ls.lines w.0.line)) None) ≡ s
    asks_none false e = refl
    asks_none true e = cc

-- ---- the rows that the session sees

-- The table that the session sees is a state, and the changes since are inserts at the end. On a list there are none.
pub record Sees (o : Opening) (front : List ScriptRound) (n : ℕ) : Type 0 where
  pub since : List Change
  pub state : IsState o.defs (seen_state o front n)
  pub appends : AreAppends o.defs since
  pub table : table_after o front ≡ replay o.defs (seen_state o front n) since
  pub none : is_list o.script.takes ≡ true → since ≡ []

-- a change that a list is asked for is none at the end
abbrev IsNoAppend : Option Change → Type 0
IsNoAppend None = Unit {0}
IsNoAppend (Some (insert row)) = Unit {0}
IsNoAppend (Some (insert_at_end row)) = ⊥
IsNoAppend (Some (delete at)) = ⊥
IsNoAppend (Some (update at row)) = ⊥

inserts_ask : (o : Option Act) → IsNoAppend (list_change o)
inserts_ask (Some (act.Insert row)) = tt
inserts_ask (Some (act.Update at row)) = tt
inserts_ask (Some (act.Delete at)) = tt
inserts_ask (Some act.Scan) = tt
inserts_ask (Some (act.Over range)) = tt
inserts_ask (Some (act.Lock lock)) = tt
inserts_ask (Some act.Unlock) = tt
inserts_ask (Some act.Stats) = tt
inserts_ask (Some act.End) = tt
inserts_ask None = tt

list_asks : (k : Taking) (t : Bool) (o : Option Act) → is_list k ≡ true → IsNoAppend (change_of k t o)
list_asks in_table t o e = cc
list_asks (in_member number) t o e = inserts_ask o
list_asks in_none t o e = tt

asks_list : (ls : Statements) (r : LockState) (t : Bool) (x : Step) → is_list ls.takes ≡ true → IsNoAppend (asks ls r t x)
asks_list ls r t x e = go (writes_rows x.kind && not (reads_only r x.session))
  where
    go : (b : Bool) → IsNoAppend (cond b (change_of ls.takes t (act_of ls.lines x.line)) None)
    go true = list_asks ls.takes t (act_of ls.lines x.line) e
    go false = tt

none_made : (d : Defs) (row : Values) (reply : Result ℕ KeyedRefusal) → AreAppends d (if_made (insert row) [] reply) → if_made (insert row) [] reply ≡ []
none_made d row (Ok at) h = absurd h.0
none_made d row (Err q) h = refl

none_accepted : (d : Defs) (s : TableState) (o : Option Change) → IsNoAppend o → AreAppends d (accepted_of d s o) → accepted_of d s o ≡ []
none_accepted d s None asks h = refl
none_accepted d s (Some (insert row)) asks h = none_made d row (keyed_step d s (insert row)).reply h
none_accepted d s (Some (insert_at_end row)) asks h = absurd asks
none_accepted d s (Some (delete at)) asks h = absurd asks
none_accepted d s (Some (update at row)) asks h = absurd asks

both_append : (d : Defs) (cs ds : List Change) → AreAppends d (cs ++ ds) → AreAppends d cs × AreAppends d ds
both_append d [] ds h = (tt, h)
both_append d (c ∷ cs) ds h = let more = both_append d cs ds h.1 in ((h.0, more.0), more.1)

-- so nothing is appended to one
none_appended : (d : Defs) (ls : Statements) (r : LockState) (t : Bool) (s : TableState) (xs : List Step) → is_list ls.takes ≡ true → AreAppends d (changes d (asks ls r t) s xs) → changes d (asks ls r t) s xs ≡ []
none_appended d ls r t s [] e h = refl
none_appended d ls r t s (x ∷ xs) e h =
    let asked = asks ls r t x in
    let rest = changes d (asks ls r t) (stepped_by d s asked) xs in
    let both = both_append d (accepted_of d s asked) rest h in
    ap (λ cs. cs ++ rest) (none_accepted d s asked (asks_list ls r t x e) both.0) ∙ none_appended d ls r t (stepped_by d s asked) xs e both.1

sees_at_take : (o : Opening) (front : List ScriptRound) (n : ℕ) → ComesNext o front → IsState o.defs (table_after o front) → IsTake (next_after o front).round n → Sees o (front ++ next_after o front ∷ []) n
sees_at_take o front n next state w =
    let p : ScriptRound = next_after o front in
    let number : seen_number o (front ++ p ∷ []) n ≡ number_after o front = ap (λ ts. number_at n ts) (taken_more front p) ∙ take_notes p.round n p.before (taken_in front) w in
    let seen : seen_state o (front ++ p ∷ []) n ≡ table_after o front = ap (λ k. state_at o (history o) k) number ∙ table_now o front (p ∷ next.0) next.1 in
    let P : TableState → Type 0 = λ s. IsState o.defs s in
    record {
      since = [];
      state = subst P (sym seen) state;
      appends = tt;
      table = table_more o front ∙ take_leaves o.defs o.script p.locks p.state p.round n w ∙ sym seen;
      none = λ e. refl;
    }

sees_later : (o : Opening) (front : List ScriptRound) (n : ℕ) → AreAppends o.defs (changes_in o (next_after o front)) → IsNone (next_after o front).round n → Sees o front n → Sees o (front ++ next_after o front ∷ []) n
sees_later o front n are none w =
    let p : ScriptRound = next_after o front in
    let number : seen_number o (front ++ p ∷ []) n ≡ seen_number o front n = ap (λ ts. number_at n ts) (taken_more front p) ∙ none.notes (taken_in front) p.before in
    let seen : seen_state o (front ++ p ∷ []) n ≡ seen_state o front n = ap (λ k. state_at o (history o) k) number in
    let P : TableState → Type 0 = λ s. IsState o.defs s in
    record {
      since = w.since ++ changes_in o p;
      state = subst P (sym seen) w.state;
      appends = more_appends o.defs w.since (changes_in o p) w.appends are;
      table =
          table_more o front ∙ sym (replay_round o p) ∙ ap (λ s. replay o.defs s (changes_in o p)) w.table
          ∙ sym (replay_append o.defs (seen_state o front n) w.since (changes_in o p)) ∙ ap (λ s. replay o.defs s (w.since ++ changes_in o p)) (sym seen);
      none = λ e. ap (λ cs. cs ++ changes_in o p) (w.none e) ∙ none_appended o.defs o.script p.locks (is_together p.round) p.state (steps_of p.round) e are;
    }

abbrev AllSee : Opening → List ScriptRound → Type 0
AllSee o front = (n : ℕ) → reads_only (locks_after o front) n ≡ true → Sees o front n

none_sees : (o : Opening) → AllSee o []
none_sees o n e = absurd (let k : false ≡ true = sym (ap holds_lock (none_held o.setting (script_steps (is_list o.script.takes) o.script.lines) n)) ∙ e in cc)

sees_next : (o : Opening) → MayRun o.defs o.script.lines → IsSound o.defs → IsState o.defs o.base → (front : List ScriptRound) → ComesNext o front → AllSee o front → AllSee o (front ++ next_after o front ∷ [])
sees_next o run sound base front next see n e =
    let p : ScriptRound = next_after o front in
    let r : LockState = locks_after o front in
    let hole : Bool = has_hole o.script.takes (table_after o front) in
    let locks : AreScripts o.defs o.script r = scripts_locks o run front (p ∷ next.0) next.1 in
    let after : holds_lock (lock_left (held r n) (own n (steps_of p.round))) ≡ true =
    sym (ap (λ q. holds_lock (held q n)) (locks_more o front p) ∙ ap holds_lock (held_by_steps r hole locks.lawful n)) ∙ e in
    elim (takes_or_none p.round n (together_kinds r hole locks.lawful)) [
      | inl w ↦ sees_at_take o front n next (stays_state o run sound base front (p ∷ next.0) next.1) w
      | inr none ↦ (let reads = held_before (held r n) (own n (steps_of p.round)) none.steps after in
          sees_later o front n (next_appends o run front (p ∷ next.0) next.1 n reads) none (see n reads))
    ]

sees : (o : Opening) → MayRun o.defs o.script.lines → IsSound o.defs → IsState o.defs o.base → (front back : List ScriptRound) → rounds_of o ≡ front ++ back → AllSee o front
sees o run sound base front back e = by_rounds o (λ ps. AllSee o ps) (none_sees o) (sees_next o run sound base) front back e

pub seen_rows : (o : Opening) (front : List ScriptRound) (c : List Numbers) (n : ℕ) → MayRun o.defs o.script.lines → IsSound o.defs → IsState o.defs o.base → HasRun o front c → reads_only (locks_after o front) n ≡ true
    → rows_before (seen_state o front n).space.end (table_after o front).rows ≡ (seen_state o front n).rows
seen_rows o front c n run sound base has reads =
    let w = sees o run sound base front has.first.0 has.first.1 n reads in
    ap (λ (s : TableState). rows_before (seen_state o front n).space.end s.rows) w.table ∙ appends_stand_behind o.defs (seen_state o front n) w.since sound w.state w.appends

-- on a list it finds the tables as they are
pub seen_same : (o : Opening) (front : List ScriptRound) (c : List Numbers) (n : ℕ) → MayRun o.defs o.script.lines → IsSound o.defs → IsState o.defs o.base → HasRun o front c → reads_only (locks_after o front) n ≡ true
    → is_list o.script.takes ≡ true → seen_state o front n ≡ table_after o front
seen_same o front c n run sound base has reads list =
    let w = sees o run sound base front has.first.0 has.first.1 n reads in
    sym (w.table ∙ ap (λ cs. replay o.defs (seen_state o front n) cs) (w.none list))

pub run_state : (o : Opening) (front : List ScriptRound) (c : List Numbers) → MayRun o.defs o.script.lines → IsSound o.defs → IsState o.defs o.base → HasRun o front c → IsState o.defs (table_after o front)
run_state o front c run sound base has = stays_state o run sound base front has.first.0 has.first.1

-- it is a state, and does not end behind the table
pub seen_within : (o : Opening) (front : List ScriptRound) (c : List Numbers) (n : ℕ) → MayRun o.defs o.script.lines → IsSound o.defs → IsState o.defs o.base → HasRun o front c → reads_only (locks_after o front) n ≡ true
    → IsState o.defs (seen_state o front n) × ((seen_state o front n).space.end ≤ (table_after o front).space.end)
seen_within o front c n run sound base has reads =
    let w = sees o run sound base front has.first.0 has.first.1 n reads in
    (w.state, subst (λ (s : TableState). (seen_state o front n).space.end ≤ s.space.end) (sym w.table) (appends_grow o.defs (seen_state o front n) w.since sound w.state w.appends))
