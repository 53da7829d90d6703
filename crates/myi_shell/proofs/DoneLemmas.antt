-- Steps that are done one after the other, and what is said of them.
use Rattle.std.proofs.Common.{◌≡◌, ℕ, ◌+◌, Bool, true, false, cond, List, [], ◌∷◌, ◌++◌, map, length, Option, Some, None, Result, Ok, Err, OnOk, ◌⊎◌, inl, inr, refl, sym, ap, subst, ◌∙◌, arith, append_assoc}
use Rattle.std.proofs.lemmas.List.{append-nil, map-append}
use Rattle.std.specs.List.{AllByRecursion, flat_map}
use Rattle.myi_defs.specs.declared.types.Defs.{Defs}
use Rattle.myi_keycache.specs.declared.setup.Counters.{Counters}
use Rattle.myi_state.specs.State.{TableState}
use Rattle.myi_state.specs.Changes as edit
use Rattle.myi_locks.specs.declared.steps.StepKind.{StepKind}
use Rattle.myi_locks.specs.declared.steps.StepKind.TheVariants.{Release, Take, Rows, Insert, Change, Unlock, Stats, End}
use Rattle.myi_locks.specs.declared.steps.Step.{Step}
use Rattle.myi_locks.specs.declared.steps.Run.{Run}
use Rattle.myi_locks.specs.declared.steps.Runs.{Runs}
use Rattle.myi_locks.specs.declared.steps.Round.{Round}
use Rattle.myi_locks.specs.declared.steps.Round.TheVariants.{Together}
use Rattle.myi_locks.specs.Done.{steps_of, is_together}
use Rattle.myi_locks.specs.Steps.{is_read, is_insert, writes_rows}
use Rattle.myi_locks.specs.Rounds.{LockState}
use Rattle.myi_history.specs.Answers.{LineAnswer}
use Rattle.myi_history.specs.History.{Statements, asks, reads_only, changes, state_after, stepped_by, accepted_of}
use Rattle.myi_history.specs.Text.{write_said, step_said}
use Rattle.myi_shell.specs.declared.reading.Snapshot.{Snapshot}
use Rattle.myi_base.specs.Holding.{Holding}
use Rattle.myi_history.specs.RoundTexts.{text_of, texts_of}
use Rattle.myi_shell.specs.declared.target.Target.{Target}
use Rattle.myi_shell.specs.Targets.{Standing, moved, defs_in, HoldsThen, IfHolds, StillHolds}
use Rattle.myi_shell.specs.Stepping.{RunState, seen_by, read_by, reads_by, writes_by, others_by, step_by, round_by, HasItsKinds, AreDone}

abbrev pub AreReads : List Step → Type 0
AreReads xs = AllByRecursion (λ (x : Step). is_read x.kind ≡ true) xs

abbrev pub AreInserts : List Step → Type 0
AreInserts xs = AllByRecursion (λ (x : Step). is_insert x.kind ≡ true) xs

-- ---- reads

read_asks_none : (ls : Statements) (r : LockState) (together : Bool) (x : Step) → is_read x.kind ≡ true → asks ls r together x ≡ None
read_asks_none ls r together x is = by_kind x.kind refl is where
  by_kind : (k : StepKind) → x.kind ≡ k → is_read k ≡ true → asks ls r together x ≡ None
  by_kind Rows e is = rw e refl
  by_kind Release e is = cc
  by_kind (Take q) e is = cc
  by_kind Insert e is = cc
  by_kind Change e is = cc
  by_kind Unlock e is = cc
  by_kind Stats e is = cc
  by_kind End e is = cc

read_says_none : (n : ℕ) (c : Counters) (written : List LineAnswer) (k : StepKind) → is_read k ≡ true → step_said n c written k ≡ []
read_says_none n c written Rows is = refl
read_says_none n c written Release is = cc
read_says_none n c written (Take q) is = cc
read_says_none n c written Insert is = cc
read_says_none n c written Change is = cc
read_says_none n c written Unlock is = cc
read_says_none n c written Stats is = cc
read_says_none n c written End is = cc

pub reads_state : (d : Defs) (ls : Statements) (r : LockState) (together : Bool) (s : TableState) (xs : List Step) → AreReads xs → state_after d (asks ls r together) s xs ≡ s
reads_state d ls r together s [] all = refl
reads_state d ls r together s (x ∷ xs) all =
    ap (λ a. state_after d (asks ls r together) (stepped_by d s a) xs) (read_asks_none ls r together x all.0) ∙ reads_state d ls r together s xs all.1

pub reads_change_none : (d : Defs) (ls : Statements) (r : LockState) (together : Bool) (s : TableState) (xs : List Step) → AreReads xs → changes d (asks ls r together) s xs ≡ []
reads_change_none d ls r together s [] all = refl
reads_change_none d ls r together s (x ∷ xs) all =
    ap (λ a. accepted_of d s a ++ changes d (asks ls r together) (stepped_by d s a) xs) (read_asks_none ls r together x all.0) ∙ reads_change_none d ls r together s xs all.1

pub reads_say_none : (d : Defs) (ls : Statements) (r : LockState) (together : Bool) (c : Counters) (s : TableState) (xs : List Step) → AreReads xs → others_by d ls r together c s xs ≡ []
reads_say_none d ls r together c s [] all = refl
reads_say_none d ls r together c s (x ∷ xs) all =
    ap (λ said. said ++ others_by d ls r together c (stepped_by d s (asks ls r together x)) xs) (read_says_none x.line c (write_said ls d (reads_only r x.session) x.line s (asks ls r together x)) x.kind all.0)
    ∙ reads_say_none d ls r together c (stepped_by d s (asks ls r together x)) xs all.1

pub all_read : (d : Defs) (ls : Statements) (views : ℕ → Snapshot) (s : Standing) (xs : List Step) → AreReads xs → reads_by d ls views s xs ≡ map (read_by d ls views s) xs
all_read d ls views s [] all = refl
all_read d ls views s (x ∷ xs) all = rw all.0 (ap (λ more. read_by d ls views s x ∷ more) (all_read d ls views s xs all.1))

-- ---- inserts

insert_says : (n : ℕ) (c : Counters) (written : List LineAnswer) (k : StepKind) → is_insert k ≡ true → step_said n c written k ≡ written
insert_says n c written Insert is = refl
insert_says n c written Rows is = cc
insert_says n c written Release is = cc
insert_says n c written (Take q) is = cc
insert_says n c written Change is = cc
insert_says n c written Unlock is = cc
insert_says n c written Stats is = cc
insert_says n c written End is = cc

pub insert_reads_none : (k : StepKind) → is_insert k ≡ true → is_read k ≡ false
insert_reads_none Insert is = refl
insert_reads_none Rows is = cc
insert_reads_none Release is = cc
insert_reads_none (Take q) is = cc
insert_reads_none Change is = cc
insert_reads_none Unlock is = cc
insert_reads_none Stats is = cc
insert_reads_none End is = cc

pub insert_writes : (k : StepKind) → is_insert k ≡ true → writes_rows k ≡ true
insert_writes Insert is = refl
insert_writes Rows is = cc
insert_writes Release is = cc
insert_writes (Take q) is = cc
insert_writes Change is = cc
insert_writes Unlock is = cc
insert_writes Stats is = cc
insert_writes End is = cc

pub inserts_say : (d : Defs) (ls : Statements) (r : LockState) (together : Bool) (c : Counters) (s : TableState) (xs : List Step) → AreInserts xs → others_by d ls r together c s xs ≡ writes_by d ls r together s xs
inserts_say d ls r together c s [] all = refl
inserts_say d ls r together c s (x ∷ xs) all =
    let written = write_said ls d (reads_only r x.session) x.line s (asks ls r together x) in
    ap (λ said. said ++ others_by d ls r together c (stepped_by d s (asks ls r together x)) xs) (insert_says x.line c written x.kind all.0)
    ∙ ap (λ rest. written ++ rest) (inserts_say d ls r together c (stepped_by d s (asks ls r together x)) xs all.1)

pub inserts_read_none : (d : Defs) (ls : Statements) (views : ℕ → Snapshot) (s : Standing) (xs : List Step) → AreInserts xs → reads_by d ls views s xs ≡ []
inserts_read_none d ls views s [] all = refl
inserts_read_none d ls views s (x ∷ xs) all = rw (insert_reads_none x.kind all.0) (inserts_read_none d ls views s xs all.1)

-- ---- one run behind another

pub state_both : (d : Defs) (asked : Step → Option edit.Change) (s : TableState) (xs ys : List Step) → state_after d asked s (xs ++ ys) ≡ state_after d asked (state_after d asked s xs) ys
state_both d asked s [] ys = refl
state_both d asked s (x ∷ xs) ys = state_both d asked (stepped_by d s (asked x)) xs ys

pub changes_both : (d : Defs) (asked : Step → Option edit.Change) (s : TableState) (xs ys : List Step) → changes d asked s (xs ++ ys) ≡ changes d asked s xs ++ changes d asked (state_after d asked s xs) ys
changes_both d asked s [] ys = refl
changes_both d asked s (x ∷ xs) ys =
    ap (λ more. accepted_of d s (asked x) ++ more) (changes_both d asked (stepped_by d s (asked x)) xs ys)
    ∙ sym (append_assoc (accepted_of d s (asked x)) (changes d asked (stepped_by d s (asked x)) xs) (changes d asked (state_after d asked (stepped_by d s (asked x)) xs) ys))

pub others_both : (d : Defs) (ls : Statements) (r : LockState) (together : Bool) (c : Counters) (s : TableState) (xs ys : List Step)
    → others_by d ls r together c s (xs ++ ys) ≡ others_by d ls r together c s xs ++ others_by d ls r together c (state_after d (asks ls r together) s xs) ys
others_both d ls r together c s [] ys = refl
others_both d ls r together c s (x ∷ xs) ys =
    ap (λ more. step_by d ls r together c s x ++ more) (others_both d ls r together c (stepped_by d s (asks ls r together x)) xs ys)
    ∙ sym (append_assoc (step_by d ls r together c s x) (others_by d ls r together c (stepped_by d s (asks ls r together x)) xs) (others_by d ls r together c (state_after d (asks ls r together) (stepped_by d s (asks ls r together x)) xs) ys))

pub reads_both : (d : Defs) (ls : Statements) (views : ℕ → Snapshot) (s : Standing) (xs ys : List Step) → reads_by d ls views s (xs ++ ys) ≡ reads_by d ls views s xs ++ reads_by d ls views s ys
reads_both d ls views s [] ys = refl
reads_both d ls views s (x ∷ xs) ys = by_kind (is_read x.kind) refl (reads_both d ls views s xs ys) where
  by_kind : (b : Bool) → is_read x.kind ≡ b → reads_by d ls views s (xs ++ ys) ≡ reads_by d ls views s xs ++ reads_by d ls views s ys → reads_by d ls views s ((x ∷ xs) ++ ys) ≡ reads_by d ls views s (x ∷ xs) ++ reads_by d ls views s ys
  by_kind true is more = rw is (ap (λ rest. read_by d ls views s x ∷ rest) more)
  by_kind false is more = rw is more

-- ---- a step or a run that is done, as that of a round

pub read_done : (d : Defs) (ls : Statements) (together : Bool) (p : RunState) (s : Standing) (xs : List Step) (c : Counters) (next : Option Holding) (table : Target) (new : RunState) → AreReads xs
    → HoldsThen next table s → new.number ≡ p.number → new.texts ≡ p.texts ++ texts_of (map (read_by d ls (seen_by p) s) xs)
    → AreDone d ls together p s xs (reads_by d ls (seen_by p) s xs ++ others_by d ls p.locks together c s.table xs) next table new
read_done d ls together p s xs c next table new all holds number texts = record {
  state = subst (λ t. HoldsThen next table (moved s t)) (sym (reads_state d ls p.locks together s.table xs all)) holds;
  number = let none = ap length (reads_change_none d ls p.locks together s.table xs all) in omega (arith, number, none);
  texts = texts ∙ ap (λ said. p.texts ++ texts_of said) (sym (append-nil (map (read_by d ls (seen_by p) s) xs)) ∙ ap (λ said. said ++ []) (sym (all_read d ls (seen_by p) s xs all)) ∙ ap (λ more. reads_by d ls (seen_by p) s xs ++ more) (sym (reads_say_none d ls p.locks together c s.table xs all)));
}

write_says : (n : ℕ) (c : Counters) (written : List LineAnswer) (k : StepKind) → writes_rows k ≡ true → step_said n c written k ≡ written
write_says n c written Insert is = refl
write_says n c written Change is = refl
write_says n c written Rows is = cc
write_says n c written Release is = cc
write_says n c written (Take q) is = cc
write_says n c written Unlock is = cc
write_says n c written Stats is = cc
write_says n c written End is = cc

write_reads_none : (k : StepKind) → writes_rows k ≡ true → is_read k ≡ false
write_reads_none Insert is = refl
write_reads_none Change is = refl
write_reads_none Rows is = cc
write_reads_none Release is = cc
write_reads_none (Take q) is = cc
write_reads_none Unlock is = cc
write_reads_none Stats is = cc
write_reads_none End is = cc

said_same : (d : Defs) (ls : Statements) (together : Bool) (p : RunState) (s : Standing) (xs : List Step) (one two : List LineAnswer) (next : Option Holding) (table : Target) (new : RunState) → one ≡ two → AreDone d ls together p s xs one next table new → AreDone d ls together p s xs two next table new
said_same d ls together p s xs one two next table new same done = record { state = done.state; number = done.number; texts = done.texts ∙ ap (λ said. p.texts ++ texts_of said) same }

pub write_done : (d : Defs) (ls : Statements) (together : Bool) (p : RunState) (s : Standing) (x : Step) (c : Counters) (next : Option Holding) (table : Target) (new : RunState) → writes_rows x.kind ≡ true
    → AreDone d ls together p s (x ∷ []) (writes_by d ls p.locks together s.table (x ∷ [])) next table new
    → AreDone d ls together p s (x ∷ []) (reads_by d ls (seen_by p) s (x ∷ []) ++ others_by d ls p.locks together c s.table (x ∷ [])) next table new
write_done d ls together p s x c next table new kind done =
    let written = write_said ls d (reads_only p.locks x.session) x.line s.table (asks ls p.locks together x) in
    let one : reads_by d ls (seen_by p) s (x ∷ []) ≡ [] = ap (λ b. map (read_by d ls (seen_by p) s) (cond b (x ∷ []) [])) (write_reads_none x.kind kind) in
    let two : others_by d ls p.locks together c s.table (x ∷ []) ≡ writes_by d ls p.locks together s.table (x ∷ []) = ap (λ said. said ++ []) (write_says x.line c written x.kind kind) in
    said_same d ls together p s (x ∷ []) _ _ next table new (sym two ∙ ap (λ said. said ++ others_by d ls p.locks together c s.table (x ∷ [])) (sym one)) done

-- the inserts of a round behind its reads
pub round_done : (d : Defs) (ls : Statements) (p mid new : RunState) (s : Standing) (inserts reads : List Step) (c : Counters) (next : Option Holding) (table : Target) → AreInserts inserts → AreReads reads
    → mid.locks ≡ p.locks → mid.number ≡ p.number → mid.texts ≡ p.texts ++ texts_of (map (read_by d ls (seen_by p) s) reads)
    → AreDone d ls true mid s inserts (writes_by d ls mid.locks true s.table inserts) next table new
    → AreDone d ls true p s (inserts ++ reads) (reads_by d ls (seen_by p) s (inserts ++ reads) ++ others_by d ls p.locks true c s.table (inserts ++ reads)) next table new
round_done d ls p mid new s inserts reads c next table first second locks number texts done =
    let asked = asks ls p.locks true in
    let then = state_after d asked s.table inserts in
    let written = writes_by d ls p.locks true s.table inserts in
    let seen = map (read_by d ls (seen_by p) s) reads in
    let reads_are : reads_by d ls (seen_by p) s (inserts ++ reads) ≡ seen =
    reads_both d ls (seen_by p) s inserts reads ∙ ap (λ said. said ++ reads_by d ls (seen_by p) s reads) (inserts_read_none d ls (seen_by p) s inserts first) ∙ all_read d ls (seen_by p) s reads second in
    let others_are : others_by d ls p.locks true c s.table (inserts ++ reads) ≡ written =
    others_both d ls p.locks true c s.table inserts reads ∙ ap (λ said. others_by d ls p.locks true c s.table inserts ++ said) (reads_say_none d ls p.locks true c then reads second) ∙ append-nil (others_by d ls p.locks true c s.table inserts) ∙ inserts_say d ls p.locks true c s.table inserts first in
    let state_is : state_after d asked s.table (inserts ++ reads) ≡ then = state_both d asked s.table inserts reads ∙ reads_state d ls p.locks true then reads second in
    let changes_are : changes d asked s.table (inserts ++ reads) ≡ changes d asked s.table inserts =
    changes_both d asked s.table inserts reads ∙ ap (λ cs. changes d asked s.table inserts ++ cs) (reads_change_none d ls p.locks true then reads second) ∙ append-nil (changes d asked s.table inserts) in
    record {
      state = subst (λ t. HoldsThen next table (moved s t)) (ap (λ (r : LockState). state_after d (asks ls r true) s.table inserts) locks ∙ sym state_is) done.state;
      number = done.number ∙ ap (λ n. n + length (changes d (asks ls mid.locks true) s.table inserts)) number ∙ ap (λ (r : LockState). p.number + length (changes d (asks ls r true) s.table inserts)) locks ∙ ap (λ cs. p.number + length cs) (sym changes_are);
      texts = done.texts ∙ ap (λ (r : LockState). mid.texts ++ texts_of (writes_by d ls r true s.table inserts)) locks ∙ ap (λ ts. ts ++ texts_of written) texts ∙ append_assoc p.texts (texts_of seen) (texts_of written)
          ∙ ap (λ ts. p.texts ++ ts) (sym (map-append text_of seen written)) ∙ ap (λ said. p.texts ++ texts_of (said ++ written)) (sym reads_are) ∙ ap (λ said. p.texts ++ texts_of (reads_by d ls (seen_by p) s (inserts ++ reads) ++ said)) (sym others_are);
    }

-- a round of reads alone
pub reads_done : (d : Defs) (ls : Statements) (p new : RunState) (s : Standing) (reads : List Step) (c : Counters) (next : Option Holding) (table : Target) → AreReads reads
    → HoldsThen next table s → new.number ≡ p.number → new.texts ≡ p.texts ++ texts_of (map (read_by d ls (seen_by p) s) reads)
    → AreDone d ls true p s ([] ++ reads) (reads_by d ls (seen_by p) s ([] ++ reads) ++ others_by d ls p.locks true c s.table ([] ++ reads)) next table new
reads_done d ls p new s reads c next table all holds number texts = read_done d ls true p s reads c next table new all holds number texts

-- ---- of each state that the table stood for

pub reads_done_by : {E : Type 0} (told next : Option Holding) (old table : Target) (ls : Statements) (p new : RunState) (x : Step) (c : Counters) (result : Result (Unit {0}) E) → is_read x.kind ≡ true → new.number ≡ p.number → StillHolds told next old table
    → OnOk result (IfHolds told old (λ m s. new.texts ≡ p.texts ++ text_of (read_by (defs_in old) ls (seen_by p) s x) ∷ []))
    → OnOk result (IfHolds told old (λ m s. AreDone (defs_in old) ls false p s (x ∷ []) (reads_by (defs_in old) ls (seen_by p) s (x ∷ []) ++ others_by (defs_in old) ls p.locks false c s.table (x ∷ [])) next table new))
reads_done_by told next old table ls p new x c (Ok done) is number still said = λ m held s h.
    read_done (defs_in old) ls false p s (x ∷ []) c next table new (is, tt) (still m held s h) number (said m held s h)
reads_done_by told next old table ls p new x c (Err f) is number still said = tt

pub writes_done_by : {E : Type 0} (told next : Option Holding) (old table : Target) (ls : Statements) (p new : RunState) (x : Step) (c : Counters) (result : Result (Unit {0}) E) → writes_rows x.kind ≡ true
    → OnOk result (IfHolds told old (λ m s. AreDone (defs_in old) ls false p s (x ∷ []) (writes_by (defs_in old) ls p.locks false s.table (x ∷ [])) next table new))
    → OnOk result (IfHolds told old (λ m s. AreDone (defs_in old) ls false p s (x ∷ []) (reads_by (defs_in old) ls (seen_by p) s (x ∷ []) ++ others_by (defs_in old) ls p.locks false c s.table (x ∷ [])) next table new))
writes_done_by told next old table ls p new x c (Ok done) is said = λ m held s h. write_done (defs_in old) ls false p s x c next table new is (said m held s h)
writes_done_by told next old table ls p new x c (Err f) is said = tt

pub kind_writes : (k : StepKind) → ((k ≡ Insert) ⊎ (k ≡ Change)) → writes_rows k ≡ true
kind_writes k (inl is) = rw is refl
kind_writes k (inr is) = rw is refl

-- ---- a round

-- the steps of a round were done
abbrev pub IsRoundDone : Defs → Statements → RunState → Counters → Standing → Round → Option Holding → Target → RunState → Type 0
IsRoundDone d ls p c s round next table new = AreDone d ls (is_together round) p s (steps_of round) (round_by d ls p c s round) next table new

abbrev pub AreRounds : Option Holding → Target → Statements → RunState → Counters → Round → Option Holding → Target → RunState → Type 0
AreRounds told old ls p c round next table new = IfHolds told old (λ m s. IsRoundDone (defs_in old) ls p c s round next table new)

pub together_done : {E : Type 0} (told mid next : Option Holding) (old half table : Target) (ls : Statements) (p q new : RunState) (run : Run) (readers : Runs) (c : Counters) (result : Result (Unit {0}) E)
    → HasItsKinds (Together (Some run) readers) → q ≡ record p { texts = q.texts } → defs_in half ≡ defs_in old → StillHolds told mid old half
    → IfHolds told old (λ m s. q.texts ≡ p.texts ++ texts_of (map (read_by (defs_in old) ls (seen_by p) s) (flat_map (λ (r : Run). r.steps) readers.runs)))
    → OnOk result (IfHolds mid half (λ m s. AreDone (defs_in half) ls true q s run.steps (writes_by (defs_in half) ls q.locks true s.table run.steps) next table new))
    → OnOk result (AreRounds told old ls p c (Together (Some run) readers) next table new)
together_done told mid next old half table ls p q new run readers c (Ok done) kinds only defs still said written = λ m held s h.
    let k = still m held s h in
    let w = subst (λ (d : Defs). AreDone d ls true q s run.steps (writes_by d ls q.locks true s.table run.steps) next table new) defs (written k.0 k.1 s k.2) in
    round_done (defs_in old) ls p q new s run.steps (flat_map (λ (r : Run). r.steps) readers.runs) c next table kinds.0 kinds.1 (ap (λ (z : RunState). z.locks) only) (ap (λ (z : RunState). z.number) only) (said m held s h) w
together_done told mid next old half table ls p q new run readers c (Err f) kinds only defs still said written = tt

pub readers_done : (told next : Option Holding) (old table : Target) (ls : Statements) (p new : RunState) (readers : Runs) (c : Counters)
    → HasItsKinds (Together None readers) → new ≡ record p { texts = new.texts } → StillHolds told next old table
    → IfHolds told old (λ m s. new.texts ≡ p.texts ++ texts_of (map (read_by (defs_in old) ls (seen_by p) s) (flat_map (λ (r : Run). r.steps) readers.runs)))
    → AreRounds told old ls p c (Together None readers) next table new
readers_done told next old table ls p new readers c kinds only still said = λ m held s h.
    reads_done (defs_in old) ls p new s (flat_map (λ (r : Run). r.steps) readers.runs) c next table kinds.1 (still m held s h) (ap (λ (z : RunState). z.number) only) (said m held s h)
