-- What the runs of a round leave of a table on threads, as of a target; and what they are asked.
use Rattle.std.proofs.Common.{map, ◌≡◌, ◌≢◌, ◌<◌, ◌≤◌, ℕ, zero, suc, Bool, true, false, cond, List, [], ◌∷◌, ◌++◌, ◌+◌, take, drop, length, get_or, slice_get, Option, Some, None, Result, Ok, Err, IfOk, IfErr, OnOk, refl, sym, ap, subst, ◌∙◌, inl, inr, arith, append_assoc}
use Rattle.std.specs.Prelude.{◌⊎◌, slice_index_or}
use Rattle.std.specs.List.{AllByRecursion}
use Rattle.std.proofs.lemmas.List.{get_or_default}
use Rattle.myi_base.specs.Holding.{Holding, Told}
use Rattle.myi_defs.specs.declared.types.Defs.{Defs}
use Rattle.myi_keycache.specs.declared.setup.Counters.{Counters}
use Rattle.myi_pack.specs.Packed.{Values}
use Rattle.myi_state.specs.State.{TableState}
use Rattle.myi_locks.specs.declared.steps.Step.{Step}
use Rattle.myi_locks.specs.declared.steps.Run.{Run}
use Rattle.myi_locks.specs.declared.steps.Runs.{Runs}
use Rattle.myi_locks.specs.declared.steps.Round.{Round}
use Rattle.myi_locks.specs.declared.steps.Round.TheVariants.{Together}
use Rattle.myi_locks.specs.Done.{run_steps}
use Rattle.myi_script.specs.declared.types.Act.{Act}
use Rattle.myi_script.specs.declared.types.Act.TheVariants as act
use Rattle.myi_script.specs.declared.types.Line.{Line}
use Rattle.myi_history.specs.History.{Taking, in_table, in_member, in_none, is_list, table_change}
use Rattle.myi_history.specs.Answers.{answer_on}
use Rattle.myi_history.specs.RoundTexts.{LineText, text_of, texts_of, answer_of}
use Rattle.myi_rounds.specs.declared.inserting.Replied.{Replied}
use Rattle.myi_table.specs.Table as table
use Rattle.myi_table.specs.Table.{OpenTable, KeepsRows, KeepsOthers}
use Rattle.myi_share.specs.Taking.{counting, all_counted, AreNotBelow}
use Rattle.myi_snapshots.specs.declared.snapshot.Snapshot.{Snapshot}
use Rattle.myi_rounds.specs.Inserts.{inserted_row, said_of, HaveInserted}
use Rattle.myi_rounds.specs.Rounds.{EachOf, InsertsNone, RunSaid, HasRead, HasGone, IsWithin}
use Rattle.myi_rounds.specs.Faults.{CutsOff}
use Rattle.myi_rounds.specs.declared.fault.RoundFault.{RoundFault}
use Rattle.myi_rounds.specs.declared.fault.RoundFault.TheVariants as round
use Rattle.myi_rounds.specs.declared.round.AskedReads.{AskedReads}
use Rattle.myi_rounds.specs.declared.round.AskedRound.{AskedRound}
use Rattle.myi_rounds.specs.declared.round.WentReads.{WentReads}
use Rattle.myi_rounds.specs.declared.round.WentRound.{WentRound}
use Rattle.myi_shell.specs.declared.target.Target.{Target}
use Rattle.myi_shell.specs.declared.target.Target.TheVariants.{One, Many}
use Rattle.myi_shell.specs.Targets.{Standing, taking, taking_by, script_on, IsCarried, IsTouchedBy, IfHolds, defs_in}
use Rattle.myi_shell.specs.Idle.{place_in, LeavesIdle}
use Rattle.myi_shell.specs.Changing.{NothingDamaged}
use Rattle.myi_shell.specs.Stepping.{RunState}
use Rattle.myi_shell.specs.Beside.{BesideEachOther, IsDoneBeside, IsDone, taken_of, AreAsked, HaveGone, HaveGoneAsked, EachRunSaid, EachIsWithin, run_behind, runs_left, told_as}
use Rattle.myi_shell.proofs.IdleLemmas.{one_named}
use Rattle.myi_shell.proofs.LoopLemmas.{drop_more, drop_none, text_more}

-- ---- a list is no table

pub list_is : (o : Option ℕ) → is_list (taking_by o) ≡ true
list_is None = refl
list_is (Some i) = refl

pub in_one : (t : Target) → is_list (taking t) ≡ false → taking t ≡ in_table
in_one (One t) e = refl
in_one (Many g) e = absurd (let k : true ≡ false = sym (list_is _) ∙ e in cc)

-- ---- the table

pub one_gone : {E : Type 0} (told next : Option Holding) (t u : OpenTable) (asked : AskedRound) (result : Result WentRound E) → IfOk result (λ w. table.IfHolds told t (λ m s. HasGone (table.defs_in t) s next u asked w))
    → IfOk result (λ w. IfHolds told (One t) (λ m s. HaveGoneAsked (table.defs_in t) asked.lines.now asked.number s asked.inserts.now asked.reads.now w next (One u)))
one_gone told next t u asked (Ok w) gone = λ m held s h.
    let g = gone m held s.table h in
    record { rows = g.rows; inserted = g.inserted; made = g.made; reads = g.reads; state = g.now }
one_gone told next t u asked (Err f) gone = tt

pub one_carried : (told next : Option Holding) (t u : OpenTable) → table.IsKept next u → table.IsSame (counting t u.added) u → table.ChangesItsOwn told next t → AreNotBelow (all_counted t) (all_counted u) → IsCarried told next (One t) (One u)
one_carried told next t u kept same others counted = record {
  kept = kept;
  same = record { name = same.name; setup = same.setup; header = same.header; lost = same.lost; defs = same.defs };
  defs = same.defs;
  takes = refl;
  others = others;
  counted = counted;
}

pub one_touched : {E : Type 0} (told next : Option Holding) (t u : OpenTable) (result : Result WentRound E) → table.IsSame (counting t u.added) u → IfOk result (λ w. w.made ≡ 0 → Told told next (KeepsRows t.name)) → IfOk result (λ w. w.made ≡ 0 → u.changed ≡ t.changed) → IfOk result (λ w. 0 < w.made → u.changed ≡ true)
    → IfOk result (λ w. IsTouchedBy told next (One t) (One u) 0 w.made)
one_touched told next t u (Ok w) same rows mark some = record { name = same.name; later = omega arith; none = λ e. record { rows = rows e; mark = mark e }; some = some }
one_touched told next t u (Err f) same rows mark some = tt

pub one_never : {T : Type 0} (told : Option Holding) (t : OpenTable) (result : Result T RoundFault) → table.IsKept told t → t.broken ≡ None → IfErr result (λ f. table.IfHolds told t (λ m s. CutsOff f)) → IfErr result (λ f. NothingDamaged told (told_as f))
one_never told t (Ok w) kept whole cut = tt
one_never told t (Err (round.Damaged at)) kept whole cut = λ m held. let k = kept whole m held in cut m held k.0 k.1
one_never told t (Err round.File) kept whole cut = tt
one_never told t (Err round.Memory) kept whole cut = tt

-- a line that asks nothing of a table inserts nothing
none_inserted : (o : Option Act) → table_change false o ≡ None → inserted_row o ≡ None
none_inserted (Some (act.Insert row)) e = cc
none_inserted (Some (act.Update at row)) e = refl
none_inserted (Some (act.Delete at)) e = refl
none_inserted (Some act.Scan) e = refl
none_inserted (Some (act.Over range)) e = refl
none_inserted (Some (act.Lock lock)) e = refl
none_inserted (Some act.Unlock) e = refl
none_inserted (Some act.Stats) e = refl
none_inserted (Some act.End) e = refl
none_inserted None e = refl

lines_insert_none : (ls : List Line) → AllByRecursion (λ (l : Line). table_change false (Some l.act) ≡ None) ls → InsertsNone ls
lines_insert_none [] h = tt
lines_insert_none (l ∷ ls) h = (none_inserted (Some l.act) h.0, lines_insert_none ls h.1)

same_holding : (m n : Holding) (o : Option Holding) → o ≡ Some m → o ≡ Some n → m ≡ n
same_holding m n o a b = let k : ◌≡◌ {A = Option Holding} (Some m) (Some n) = sym a ∙ b in cc

pub one_idle : (told next : Option Holding) (t : OpenTable) (ls : List Line) → table.ChangesItsOwn told next t → (InsertsNone ls → Told told next (KeepsRows t.name)) → Told told next (LeavesIdle (One t) ls)
one_idle told next t ls others idle = record {
  told = λ m held.
      let n = others.told m held in (
        n.0,
        n.1,
        λ i name at or. elim or [
          | inl other ↦ absurd (off i name at other)
          | inr nothing ↦ (let k = (idle (lines_insert_none ls nothing)).told m held in
              one_named t.name name i m n.0 at (subst (λ (z : Holding). KeepsRows t.name m z) (same_holding k.0 n.0 next k.1 n.1) k.2))
        ],
      );
  untold = others.untold;
}
  where
    off : (i : ℕ) (name : List ℕ) → slice_get (t.name ∷ []) i ≡ Some name → place_in in_table ≢ Some i → ⊥
    off zero name at other = other refl
    off (suc i) name at other = cc

-- ---- what is asked of the runs

asked_said : (d : Defs) (ls : List Line) (p : RunState) (s : TableState) (put : List Values) (runs : List Run) (asked : List AskedReads) (went : List WentReads) → AreAsked p runs asked → EachOf (HasRead d ls s p.number put) asked went → EachRunSaid d ls p s put runs went
asked_said d ls p s put [] [] [] are said = tt
asked_said d ls p s put [] [] (w ∷ went) are said = absurd said
asked_said d ls p s put [] (a ∷ asked) went are said = absurd are
asked_said d ls p s put (run ∷ runs) [] went are said = absurd are
asked_said d ls p s put (run ∷ runs) (a ∷ asked) [] are said = absurd said
asked_said d ls p s put (run ∷ runs) (a ∷ asked) (w ∷ went) are said = (
  subst (λ o. RunSaid d ls s p.number put o (take w.done run.steps) w.texts) are.1 (subst (λ (xs : List Step). RunSaid d ls s p.number put a.taken (take w.done xs) w.texts) are.0 said.0.said),
  asked_said d ls p s put runs asked went are.2 said.1,
)

pub gone_for : {E : Type 0} (told next : Option Holding) (t u : Target) (ls : List Line) (number : ℕ) (p : RunState) (inserts steps : List Step) (runs : List Run) (asked : List AskedReads) (result : Result WentRound E) → number ≡ p.number → steps ≡ inserts → AreAsked p runs asked
    → IfOk result (λ w. IfHolds told t (λ m s. HaveGoneAsked (defs_in t) ls number s steps asked w next u)) → IfOk result (λ w. IfHolds told t (λ m s. HaveGone (defs_in t) ls p s inserts runs w next u))
gone_for told next t u ls number p inserts steps runs asked (Ok w) same is are gone = λ m held s h.
    let g = gone m held s h in
    record {
      rows = g.rows;
      inserted = subst (λ (xs : List Step). HaveInserted (defs_in t) ls s.table (take w.inserted xs) g.rows w.replies.items) is g.inserted;
      made = g.made;
      reads = asked_said (defs_in t) ls p s.table g.rows runs asked w.reads.items are (subst (λ n. EachOf (HasRead (defs_in t) ls s.table n g.rows) asked w.reads.items) same g.reads);
      state = g.state;
    }
gone_for told next t u ls number p inserts steps runs asked (Err f) same is are gone = tt

pub each_in : (p : RunState) (runs : List Run) (asked : List AskedReads) (went : List WentReads) → AreAsked p runs asked → length went ≡ length asked → ((i : ℕ) (a : AskedReads) (w : WentReads) → i < length asked → (slice_index_or went i w).done ≤ length (slice_index_or asked i a).steps.now)
    → EachIsWithin runs went
each_in p [] [] [] are long within = tt
each_in p [] [] (w ∷ went) are long within = absurd (omega (arith, long))
each_in p [] (a ∷ asked) went are long within = absurd are
each_in p (run ∷ runs) [] went are long within = absurd are
each_in p (run ∷ runs) (a ∷ asked) [] are long within = absurd (omega (arith, long))
each_in p (run ∷ runs) (a ∷ asked) (w ∷ went) are long within = (
  subst (λ (xs : List Step). w.done ≤ length xs) are.0 (within 0 a w (omega arith)),
  each_in p runs asked went are.2 (omega (arith, long)) (λ i b v lt. within (suc i) b v (omega (arith, lt))),
)

pub within_for : {E : Type 0} (p : RunState) (runs : List Run) (asked : AskedRound) (result : Result WentRound E) → AreAsked p runs asked.reads.now → IfOk result (IsWithin asked) → IfOk result (λ w. EachIsWithin runs w.reads.items)
within_for p runs asked (Ok w) are within = each_in p runs asked.reads.now w.reads.items are within.each within.reads
within_for p runs asked (Err f) are within = tt

-- one run more is asked
pub asked_more : (p : RunState) (runs : List Run) (asked : List AskedReads) (i : ℕ) (d : Run) (a : AskedReads) → i < length runs → AreAsked p (take i runs) asked → a.steps.now ≡ (get_or runs i d).steps → a.taken ≡ taken_of p (get_or runs i d).session → AreAsked p (take (i + 1) runs) (asked ++ a ∷ [])
asked_more p [] asked i d a lt are steps taken = absurd (omega (arith, lt))
asked_more p (run ∷ runs) [] zero d a lt are steps taken = (steps, taken, tt)
asked_more p (run ∷ runs) (b ∷ asked) zero d a lt are steps taken = absurd are
asked_more p (run ∷ runs) [] (suc i) d a lt are steps taken = absurd are
asked_more p (run ∷ runs) (b ∷ asked) (suc i) d a lt are steps taken =
    let e : suc (i + 1) ≡ suc i + 1 = omega arith in
    subst (λ n. AreAsked p (take n (run ∷ runs)) ((b ∷ asked) ++ a ∷ [])) e (are.0, are.1, asked_more p runs asked i d a (omega (arith, lt)) are.2 steps taken)

pub take_whole : {X : Type 0} (xs : List X) (i : ℕ) → length xs ≤ i → take i xs ≡ xs
take_whole [] zero le = refl
take_whole [] (suc i) le = refl
take_whole (x ∷ xs) zero le = absurd (omega (arith, le))
take_whole (x ∷ xs) (suc i) le = ap (λ r. x ∷ r) (take_whole xs i (omega (arith, le)))

-- ---- what is left of runs

pub within_long : (runs : List Run) (went : List WentReads) → EachIsWithin runs went → length went ≡ length runs
within_long [] [] h = refl
within_long [] (w ∷ went) h = absurd h
within_long (run ∷ runs) [] h = absurd h
within_long (run ∷ runs) (w ∷ went) h = ap suc (within_long runs went h.1)

pub within_at : (runs : List Run) (went : List WentReads) (i : ℕ) (d : Run) (e : WentReads) → i < length runs → EachIsWithin runs went → (get_or went i e).done ≤ length (get_or runs i d).steps
within_at [] went i d e lt h = absurd (omega (arith, lt))
within_at (run ∷ runs) [] i d e lt h = absurd h
within_at (run ∷ runs) (w ∷ went) zero d e lt h = h.0
within_at (run ∷ runs) (w ∷ went) (suc i) d e lt h = within_at runs went i d e (omega (arith, lt)) h.1

pub left_more : (runs : List Run) (went : List WentReads) (i : ℕ) (d : Run) (e : WentReads) → i < length runs → EachIsWithin runs went
    → runs_left (drop i runs) (drop i went) ≡ run_behind (get_or runs i d) (get_or went i e).done ∷ runs_left (drop (i + 1) runs) (drop (i + 1) went)
left_more runs went i d e lt h =
    let long = within_long runs went h in
    ap (λ rs. runs_left rs (drop i went)) (drop_more runs i d lt) ∙ ap (λ ws. runs_left (get_or runs i d ∷ drop (i + 1) runs) ws) (drop_more went i e (omega (arith, lt, long)))

-- so far, and the next one
pub left_on : (left items all rest : List Run) (r next : Run) → items ≡ left ++ next ∷ [] → next ≡ r → left ++ (r ∷ rest) ≡ all → items ++ rest ≡ all
left_on left items all rest r next more is so_far = ap (λ xs. xs ++ rest) more ∙ append_assoc left (next ∷ []) rest ∙ ap (λ q. left ++ (q ∷ rest)) is ∙ so_far

pub none_left : (runs : List Run) (went : List WentReads) (i : ℕ) → length runs ≤ i → runs_left (drop i runs) (drop i went) ≡ []
none_left runs went i le = ap (λ rs. runs_left rs (drop i went)) (drop_none runs i le)

-- ---- a round is done, either way

pub went_beside : {E : Type 0} (told next : Option Holding) (t u : Target) (ls : List Line) (p new : RunState) (c : Counters) (inserter : Option Run) (readers : Runs) (round : Round) (inserts : List Step) (runs : List Run) (result : Result (Unit {0}) E)
    → round ≡ Together inserter readers → inserts ≡ run_steps inserter → runs ≡ readers.runs → taking t ≡ in_table
    → OnOk result (IfHolds told t (λ m s. BesideEachOther (defs_in t) ls p s inserts runs next u new)) → OnOk result (IfHolds told t (λ m s. IsDone (defs_in t) (script_on t ls) p c s round next u new))
went_beside told next t u ls p new c inserter readers round inserts runs (Ok done) is_round is_inserts is_runs takes h = λ m held s k.
    let d = defs_in t in
    let by_runs = subst (λ (rs : List Run). BesideEachOther d ls p s inserts rs next u new) is_runs (h m held s k) in
    let by_steps = subst (λ (xs : List Step). BesideEachOther d ls p s xs readers.runs next u new) is_inserts by_runs in
    inr (takes, subst (λ (r : Round). IsDoneBeside d ls p s r next u new) (sym is_round) by_steps)
went_beside told next t u ls p new c inserter readers round inserts runs (Err f) is_round is_inserts is_runs takes h = tt

-- ---- what inserts answered

-- one reply more is noted
pub reply_more : (old half new : List LineText) (replies : List Replied) (i : ℕ) (d e : Replied) → i < length replies → half ++ texts_of (map said_of (drop i replies)) ≡ old ++ texts_of (map said_of replies)
    → new ≡ half ++ text_of (answer_on (get_or replies i d).line (answer_of (get_or replies i e).answer)) ∷ [] → new ++ texts_of (map said_of (drop (i + 1) replies)) ≡ old ++ texts_of (map said_of replies)
reply_more old half new replies i d e lt so_far adds =
    text_more (λ (r : Replied). text_of (said_of r) ∷ []) (λ rs. texts_of (map said_of rs)) (λ r rs. refl) old half new replies i d lt so_far
    (adds ∙ ap (λ (r : Replied). half ++ text_of (answer_on (get_or replies i d).line (answer_of r.answer)) ∷ []) (get_or_default replies i e d lt))
