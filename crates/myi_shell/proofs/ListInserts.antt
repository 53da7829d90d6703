-- A row that is inserted in a list: what the list's answer says of the target.
use Rattle.std.proofs.Common.{◌≡◌, ◌+◌, ◌<◌, ◌≤◌, ℕ, zero, suc, Bool, true, false, List, [], ◌∷◌, ◌++◌, length, get_or, slice_get, Option, Some, None, Result, Ok, Err, IfOk, IfErr, OnOk, OnErr, refl, sym, ap, subst, ◌∙◌, arith}
use Rattle.std.specs.Prelude.{slice_set}
use Rattle.std.specs.List.{AllByRecursion}
use Rattle.std.proofs.lemmas.Option.{same_Some}
use Rattle.myi_base.specs.Holding.{Holding, IfTold, Told}
use Rattle.myi_base.proofs.CallerLemmas.{told_more}
use Rattle.myi_defs.specs.declared.types.Defs.{Defs}
use Rattle.myi_pack.specs.Packed.{Values}
use Rattle.myi_state.specs.State.{TableState}
use Rattle.myi_state.specs.Changes.{Change, insert}
use Rattle.myi_tablestate.specs.Keyed.{KeyedRefusal, lacks, duplicate, too_long, keyed_step, if_made}
use Rattle.myi_script.specs.declared.types.Act.{Act}
use Rattle.myi_script.specs.declared.types.Act.TheVariants as act
use Rattle.myi_history.specs.Answers.{Answer, LineAnswer, made_in, refused, no_method, answer_on}
use Rattle.myi_history.specs.History.{Taking, in_member, in_none, in_list, list_change, change_of, accepted_of, stepped_by}
use Rattle.myi_history.specs.Text.{by_reply, reply_said, none_said, change_said}
use Rattle.myi_history.specs.declared.answers.StepAnswer.{StepAnswer}
use Rattle.myi_history.specs.declared.answers.StepAnswer.TheVariants as step
use Rattle.myi_history.specs.RoundTexts.{answer_of}
use Rattle.myi_table.specs.declared.fault.ChangeFault.{ChangeFault}
use Rattle.myi_table.specs.declared.fault.ChangeFault.TheVariants as change
use Rattle.myi_table.specs.Table as table
use Rattle.myi_table.specs.Table.{OpenTable}
use Rattle.myi_mergelist.specs.declared.list.InsertMethod.{InsertMethod}
use Rattle.myi_merge.specs.declared.fault.MergeInsertFault.{MergeInsertFault}
use Rattle.myi_merge.specs.declared.fault.MergeInsertFault.TheVariants as insertion
use Rattle.myi_merge.specs.Merged.{OpenMerge, IsMerge, HoldEach, HoldEachThen, AreKept, AreWhole, OfEach}
use Rattle.myi_merge.specs.Changing.{target, target_by, stepped, Inserts, RefusesRow, IsRefusal}
use Rattle.myi_shell.specs.declared.fault.ShellFault.{ShellFault}
use Rattle.myi_shell.specs.declared.fault.ShellFault.TheVariants as fault
use Rattle.myi_shell.specs.declared.changes.Changed.{Changed}
use Rattle.myi_shell.specs.declared.target.Target.TheVariants.{Many}
use Rattle.myi_shell.specs.Targets.{Standing, moved, index_by, index_in, taking_by, taking, defs_at, defs_in, HoldState, HoldsThen, IfHolds}
use Rattle.myi_shell.specs.Changing.{IsChangedBy, IsInsertedBy, NothingDamaged, changed_lines, count_by, list_replied, list_refused}
use Rattle.myi_shell.proofs.ChangeLemmas.{Stays}
use Rattle.myi_shell.proofs.TargetLemmas.{holds_at}
use Rattle.myi_shell.proofs.TargetTouches.{same_index}

-- ---- the states of the tables

-- where the table behind these makes a step
stepped_at : (c : Change) (ts : List OpenTable) (front back : List TableState) (s : TableState) (m : Holding) (t : OpenTable) → HoldEach ts (front ++ s ∷ back) m → slice_get ts (length front) ≡ Some t
    → stepped c (length front) ts (front ++ s ∷ back) ≡ front ++ (keyed_step (table.defs_in t) s c).state ∷ back
stepped_at c [] [] back s m t h at = absurd h
stepped_at c [] (q ∷ front) back s m t h at = absurd h
stepped_at c (u ∷ ts) [] back s m t h at = ap (λ (z : OpenTable). (keyed_step (table.defs_in z) s c).state ∷ back) (same_Some u t at)
stepped_at c (u ∷ ts) (q ∷ front) back s m t h at = ap (λ ss. q ∷ ss) (stepped_at c ts front back s m t h.1 at)

-- ---- a step of the table that takes the rows

-- the list takes rows, in this table, and the target stands so
record Takes (g : OpenMerge) (s : Standing) (m : Holding) (index : ℕ) (before : OpenTable) : Type 0 where
  pub takes : target g ≡ Some index
  pub front : length s.beside.front ≡ index
  pub defs : defs_in (Many g) ≡ table.defs_in before
  pub holds : table.HoldState before s.table m
  pub at : slice_get g.tables (length s.beside.front) ≡ Some before

takes_so : (g : OpenMerge) (s : Standing) (m : Holding) (index : ℕ) (before : OpenTable) → HoldState (Many g) s m → target g ≡ Some index → slice_get g.tables index ≡ Some before → Takes g s m index before
takes_so g s m index before h takes stood =
    let i : index_in g ≡ index = ap index_by takes in
    let front : length s.beside.front ≡ index = h.1 ∙ i in
    let at : slice_get g.tables (length s.beside.front) ≡ Some before = ap (λ k. slice_get g.tables k) front ∙ stood in
    let k = holds_at g.tables s.beside.front s.beside.back s.table m h.0 in
    record {
      takes = takes;
      front = front;
      defs = ap (λ k. defs_at (slice_get g.tables k)) i ∙ ap defs_at stood;
      holds = subst (λ (t : OpenTable). table.HoldState t s.table m) (same_Some k.0 before (sym k.1 ∙ at)) k.2;
      at = at;
    }

-- what a row that is inserted says, counts and leaves
abbrev Says : Values → ℕ → Bool → TableState → Taking → Defs → List LineAnswer
Says row n together s k d = change_said k (Some (act.Insert row)) d n s (change_of k together (Some (act.Insert row)))

abbrev Counts : Values → Bool → TableState → Taking → Defs → ℕ
Counts row together s k d = length (accepted_of d s (change_of k together (Some (act.Insert row))))

abbrev Leaves : Values → Bool → TableState → Taking → Defs → TableState
Leaves row together s k d = stepped_by d s (change_of k together (Some (act.Insert row)))

-- the table answered so
by_table : (g h : OpenMerge) (s : Standing) (row : Values) (together : Bool) (next : Option Holding) (m : Holding) (index : ℕ) (before : OpenTable) (r : Result ℕ KeyedRefusal) (c : Changed) → Takes g s m index before
    → (keyed_step (table.defs_in before) s.table (insert row)).reply ≡ r → answer_of c.answer ≡ by_reply (in_member (index + 1)) r → count_by c.made ≡ length (if_made (insert row) [] r)
    → HoldsThen next (Many h) (moved s (keyed_step (table.defs_in before) s.table (insert row)).state) → IsChangedBy (taking (Many g)) (Many g) s together (Some (act.Insert row)) next (Many h) (Some c)
by_table g h s row together next m index before r c w reply says counts holds =
    let k : taking (Many g) ≡ in_member (index + 1) = ap taking_by w.takes in
    let one : Says row 0 together s.table (in_member (index + 1)) (table.defs_in before) ≡ Says row 0 together s.table (taking (Many g)) (defs_in (Many g)) = ap (λ d. Says row 0 together s.table (in_member (index + 1)) d) (sym w.defs) ∙ ap (λ q. Says row 0 together s.table q (defs_in (Many g))) (sym k) in
    record {
      said = λ n. ap (λ a. answer_on n a ∷ []) (says ∙ ap (by_reply (in_member (index + 1))) (sym reply))
          ∙ ap (λ d. Says row n together s.table (in_member (index + 1)) d) (sym w.defs) ∙ ap (λ q. Says row n together s.table q (defs_in (Many g))) (sym k);
      count = counts ∙ ap (λ q. length (if_made (insert row) [] q)) (sym reply)
          ∙ ap (λ d. Counts row together s.table (in_member (index + 1)) d) (sym w.defs) ∙ ap (λ q. Counts row together s.table q (defs_in (Many g))) (sym k);
      state = subst (λ (t : TableState). HoldsThen next (Many h) (moved s t)) (ap (λ d. Leaves row together s.table (in_member (index + 1)) d) (sym w.defs) ∙ ap (λ q. Leaves row together s.table q (defs_in (Many g))) (sym k)) holds;
    }

-- ---- the answers of the list

inserted : (g h : OpenMerge) (told next : Option Holding) (row : Values) (place : ℕ × ℕ) → Inserts (insert row) told next g h place → length h.tables ≡ length g.tables
    → IfHolds told (Many g) (λ m s. IsInsertedBy (Many g) s row next (Many h) (record { answer = step.MadeIn place.0 place.1; made = true }))
inserted g h told next row place made many = λ m held s stands together.
    let i = made.holds in
    let w = takes_so g s m made.index made.before stands made.takes made.stood in
    let one = i.made m held s.table w.holds in
    let all = i.states m held (in_list s.beside s.table) stands.0 in
    let states : stepped (insert row) made.index g.tables (in_list s.beside s.table) ≡ in_list s.beside (keyed_step (table.defs_in made.before) s.table (insert row)).state =
    ap (λ k. stepped (insert row) k g.tables (in_list s.beside s.table)) (sym w.front) ∙ stepped_at (insert row) g.tables s.beside.front s.beside.back s.table m made.before stands.0 w.at in
    by_table g h s row together next m made.index made.before (Ok place.1) (record { answer = step.MadeIn place.0 place.1; made = true }) w one.reply (ap (λ k. made_in k place.1) i.table) refl
    (all.0, all.1, (subst (λ ss. HoldEach h.tables ss all.0) states all.2, stands.1 ∙ sym (same_index g h made.method many)))

refused_row : (g h : OpenMerge) (told next : Option Holding) (row : Values) (f : ChangeFault) (q : KeyedRefusal) (a : StepAnswer) → Stays → RefusesRow (insert row) told next g h f → length h.tables ≡ length g.tables
    → ((r : Result ℕ KeyedRefusal) → table.IsReplyOf r f → r ≡ Err q) → ((P : Type 0) → table.IfReply f P → P) → answer_of a ≡ refused q
    → IfHolds told (Many g) (λ m s. IsInsertedBy (Many g) s row next (Many h) (record { answer = a; made = false }))
refused_row g h told next row f q a stays said many reply then answer = λ m held s stands together.
    let i = said.holds in
    let w = takes_so g s m said.index said.before stands said.takes said.stood in
    let one = reply (keyed_step (table.defs_in said.before) s.table (insert row)).reply (i.reply m held s.table w.holds) in
    let all = then _ i.still m held (in_list s.beside s.table) stands.0 in
    let state : (keyed_step (table.defs_in said.before) s.table (insert row)).state ≡ s.table = stays (table.defs_in said.before) s.table (insert row) q one in
    by_table g h s row together next m said.index said.before (Err q) (record { answer = a; made = false }) w one answer refl
    (subst (λ (t : TableState). HoldsThen next (Many h) (moved s t)) (sym state) (all.0, all.1, (all.2, stands.1 ∙ sym (same_index g h said.method many))))

target_none : (m : Option InsertMethod) (n : ℕ) → m ≡ None → target_by m n ≡ None
target_none m n is = ap (λ (k : Option InsertMethod). target_by k n) is

nowhere : (g h : OpenMerge) (told next : Option Holding) (row : Values) → (g.method ≡ None) × (h ≡ g) × (next ≡ told)
    → IfHolds told (Many g) (λ m s. IsInsertedBy (Many g) s row next (Many h) (record { answer = step.NoInsertMethod; made = false }))
nowhere g h told next row w = λ m held s stands together.
    let k : taking (Many g) ≡ in_none = ap taking_by (target_none g.method (length g.tables) w.0) in
    record {
      said = λ n. ap (λ q. Says row n together s.table q (defs_in (Many g))) (sym k);
      count = ap (λ q. Counts row together s.table q (defs_in (Many g))) (sym k);
      state = subst (λ (t : TableState). HoldsThen next (Many h) (moved s t)) (ap (λ q. Leaves row together s.table q (defs_in (Many g))) (sym k))
          (m, w.2 ∙ held, subst (λ (z : OpenMerge). HoldState (Many z) (moved s s.table) m) (sym w.1) stands);
    }

pub list_changed : (g h : OpenMerge) (told next : Option Holding) (row : Values) (made : Result (ℕ × ℕ) MergeInsertFault) → Stays → length h.tables ≡ length g.tables
    → IfOk made (Inserts (insert row) told next g h) → ((f : ChangeFault) → made ≡ Err (insertion.Change f) → RefusesRow (insert row) told next g h f)
    → (made ≡ Err insertion.NoInsertMethod → (g.method ≡ None) × (h ≡ g) × (next ≡ told))
    → IfOk (list_replied made) (λ c. IfHolds told (Many g) (λ m s. IsInsertedBy (Many g) s row next (Many h) c))
list_changed g h told next row (Ok place) stays many ok err none = inserted g h told next row place ok many
list_changed g h told next row (Err insertion.NoInsertMethod) stays many ok err none = nowhere g h told next row (none refl)
list_changed g h told next row (Err (insertion.Change (change.NoRow at))) stays many ok err none = refused_row g h told next row (change.NoRow at) (lacks at) (step.NoRow at) stays (err (change.NoRow at) refl) many (λ r e. e) (λ P p. p) refl
list_changed g h told next row (Err (insertion.Change (change.Duplicate key at))) stays many ok err none = refused_row g h told next row (change.Duplicate key at) (duplicate key at) (step.Duplicate key at) stays (err (change.Duplicate key at) refl) many (λ r e. e) (λ P p. p) refl
list_changed g h told next row (Err (insertion.Change change.Full)) stays many ok err none = refused_row g h told next row change.Full too_long step.Full stays (err change.Full refl) many (λ r e. e) (λ P p. p) refl
list_changed g h told next row (Err (insertion.Change (change.Broken by))) stays many ok err none = tt
list_changed g h told next row (Err (insertion.Change (change.Damaged at))) stays many ok err none = tt
list_changed g h told next row (Err (insertion.Change change.File)) stays many ok err none = tt
list_changed g h told next row (Err (insertion.Change change.Memory)) stays many ok err none = tt

-- of an answer that is told so
pub told_changed : (told : Option Holding) (g : OpenMerge) (P : Changed → Holding → Standing → Type 0) (result mine : Result Changed ShellFault) → result ≡ mine → IfOk mine (λ c. IfHolds told (Many g) (P c)) → IfOk result (λ c. IfHolds told (Many g) (P c))
told_changed told g P result mine is h = subst (λ (r : Result Changed ShellFault). IfOk r (λ c. IfHolds told (Many g) (P c))) (sym is) h

-- ---- a statement that is no insert

abbrev pub IsNoInsert : Act → Type 0
IsNoInsert a = (row : Values) → a ≡ act.Insert row → ⊥

asks_none : (a : Act) → IsNoInsert a → list_change (Some a) ≡ None
asks_none (act.Insert row) other = absurd (other row refl)
asks_none (act.Update at row) other = refl
asks_none (act.Delete at) other = refl
asks_none act.Scan other = refl
asks_none (act.Over range) other = refl
asks_none (act.Lock lock) other = refl
asks_none act.Unlock other = refl
asks_none act.Stats other = refl
asks_none act.End other = refl

says_none : (n : ℕ) (a : Act) → IsNoInsert a → ◌≡◌ {A = List LineAnswer} [] (none_said n (Some a))
says_none n (act.Insert row) other = absurd (other row refl)
says_none n (act.Update at row) other = refl
says_none n (act.Delete at) other = refl
says_none n act.Scan other = refl
says_none n (act.Over range) other = refl
says_none n (act.Lock lock) other = refl
says_none n act.Unlock other = refl
says_none n act.Stats other = refl
says_none n act.End other = refl

unchanged_by : (g : OpenMerge) (s : Standing) (together : Bool) (a : Act) (told : Option Holding) (o : Option ℕ) → IsNoInsert a → HoldsThen told (Many g) s → IsChangedBy (taking_by o) (Many g) s together (Some a) told (Many g) None
unchanged_by g s together a told None other h = record { said = λ n. says_none n a other; count = refl; state = h }
unchanged_by g s together a told (Some i) other h =
    let none = asks_none a other in
    record {
      said = λ n. ap (λ (c : Option Change). reply_said (in_member (i + 1)) (defs_in (Many g)) n s.table c) (sym none);
      count = ap (λ (c : Option Change). length (accepted_of (defs_in (Many g)) s.table c)) (sym none);
      state = subst (λ (c : Option Change). HoldsThen told (Many g) (moved s (stepped_by (defs_in (Many g)) s.table c))) (sym none) h;
    }

pub list_unchanged : (g : OpenMerge) (told : Option Holding) (together : Bool) (a : Act) → IsNoInsert a → IfHolds told (Many g) (λ m s. IsChangedBy (taking (Many g)) (Many g) s together (Some a) told (Many g) None)
list_unchanged g told together a other = λ m held s h. unchanged_by g s together a told (target g) other (m, held, h)

-- ---- damage

pub list_never : (g h : OpenMerge) (told next : Option Holding) (row : Values) (made : Result (ℕ × ℕ) MergeInsertFault) → AreKept told g.tables → AreWhole g.tables
    → ((f : ChangeFault) → made ≡ Err (insertion.Change f) → RefusesRow (insert row) told next g h f) → IfErr (list_replied made) (NothingDamaged told)
list_never g h told next row (Ok place) kept whole err = tt
list_never g h told next row (Err insertion.NoInsertMethod) kept whole err = tt
list_never g h told next row (Err (insertion.Change (change.NoRow at))) kept whole err = tt
list_never g h told next row (Err (insertion.Change (change.Duplicate key at))) kept whole err = tt
list_never g h told next row (Err (insertion.Change change.Full)) kept whole err = tt
list_never g h told next row (Err (insertion.Change (change.Broken by))) kept whole err = tt
list_never g h told next row (Err (insertion.Change change.File)) kept whole err = tt
list_never g h told next row (Err (insertion.Change change.Memory)) kept whole err = tt
list_never g h told next row (Err (insertion.Change (change.Damaged at))) kept whole err = λ m held.
    let said = err (change.Damaged at) refl in
    let one = all_kept told g.tables said.index said.before kept said.stood in
    let k = one (all_whole g.tables said.index said.before whole said.stood) m held in
    said.holds.reply m held k.0 k.1
  where
    all_kept : (told : Option Holding) (ts : List OpenTable) (i : ℕ) (t : OpenTable) → AreKept told ts → slice_get ts i ≡ Some t → table.IsKept told t
    all_kept told [] i t all at = absurd cc
    all_kept told (u ∷ ts) zero t all at = subst (λ (z : OpenTable). table.IsKept told z) (same_Some u t at) all.0
    all_kept told (u ∷ ts) (suc i) t all at = all_kept told ts i t all.1 at

    all_whole : (ts : List OpenTable) (i : ℕ) (t : OpenTable) → AreWhole ts → slice_get ts i ≡ Some t → t.broken ≡ None
    all_whole [] i t all at = absurd cc
    all_whole (u ∷ ts) zero t all at = subst (λ (z : OpenTable). z.broken ≡ None) (same_Some u t at) all.0
    all_whole (u ∷ ts) (suc i) t all at = all_whole ts i t all.1 at

pub told_never : (told : Option Holding) (result mine : Result Changed ShellFault) → result ≡ mine → IfErr mine (NothingDamaged told) → IfErr result (NothingDamaged told)
told_never told result mine is h = subst (λ (r : Result Changed ShellFault). IfErr r (NothingDamaged told)) (sym is) h
