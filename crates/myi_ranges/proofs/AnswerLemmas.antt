-- What a call answers of the next pair, where the files are those of a table.
use Rattle.std.proofs.Common.{◌≡◌, ◌≢◌, ◌+◌, ◌≤◌, length, ℕ, zero, suc, Bool, true, false, cond, Some, None, Option, List, [], ◌∷◌, refl, sym, ap, subst, ◌∙◌, arith}
use Rattle.std.specs.Prelude.{Contains, filter, IfErr, Err, Result}
use Rattle.std.specs.List.{AllByRecursion}
use Rattle.std.proofs.lemmas.Option.{same_Some}
use Rattle.myi_base.specs.Holding.{Holding, IfTold, Told, OthersStay}
use Rattle.myi_defs.specs.declared.types.Defs.{Defs}
use Rattle.myi_defs.specs.Sound.{IsSound}
use Rattle.myi_pack.specs.Packed.{Values}
use Rattle.myi_keylist.specs.declared.pair.Pair.{Pair}
use Rattle.myi_btree.specs.declared.fault.TreeFault.{TreeFault}
use Rattle.myi_btree.specs.declared.fault.TreeFault.TheVariants as tree
use Rattle.myi_btree.specs.Faults.{DamagedAt}
use Rattle.myi_state.specs.State.{StoredRow, TableState, row_at}
use Rattle.myi_state.specs.Sound.{IsState}
use Rattle.myi_slots.specs.SlotFile.{SlotFile, IsFileOf, IsLong}
use Rattle.myi_search.specs.Cursor.{CursorAt, StandsIn}
use Rattle.myi_rows.specs.RowFile.{HasRow, IsRowAt, ReadsFew}
use Rattle.myi_keytrees.specs.Trees.{Trees}
use Rattle.myi_keytrees.specs.Standing.{list_of, Stand, IfStand}
use Rattle.myi_pair.specs.KeyList.{pointer}
use Rattle.myi_tablestate.specs.Listed.{pair_of_row, listed, position}
use Rattle.myi_tablestate.specs.Matching.{stays_below}
use Rattle.myi_ranges.specs.declared.fault.RangeFault.{RangeFault}
use Rattle.myi_ranges.specs.declared.fault.RangeFault.TheVariants.{Index}
use Rattle.myi_ranges.specs.declared.ranges.Reached.{Reached}
use Rattle.myi_ranges.specs.declared.ranges.Reached.TheVariants.{Behind, End}
use Rattle.myi_ranges.specs.declared.ranges.RangeRows.{RangeRows}
use Rattle.myi_ranges.specs.Ranges.{IsNext, ReadsAhead, ComesTo, coming, position_within, HasTable, Searched, Answers, NeverDamaged, searches, RoseBySearches, row_cost, ReadInFew, FailsInFew}
use Rattle.myi_ranges.proofs.CostLemmas.{row_read, rose_more}
use Rattle.myi_ranges.proofs.LeftLemmas.{come_none, come_next, come_past}
use Rattle.myi_ranges.proofs.RowLemmas.{RowsStand, RowOf, listed_row, file_stays, file_long, has_row, row_values, position_is}

abbrev pub Pointed : Type 0
Pointed = (d : Defs) (s : TableState) → IsSound d → IsState d s → AllByRecursion (λ (r : StoredRow). position d (pointer d r.at) ≡ r.at) s.rows

contains_first : (test : Pair → Bool) (p : Pair) (ys xs : List Pair) → filter test xs ≡ p ∷ ys → Contains xs p
contains_first test p ys [] e = absurd cc
contains_first test p ys (x ∷ xs) e = by (test x) e (λ f. contains_first test p ys xs f)
  where
    by : (b : Bool) → cond b (x ∷ filter test xs) (filter test xs) ≡ p ∷ ys → (filter test xs ≡ p ∷ ys → Contains xs p) → Contains (x ∷ xs) p
    by true e more = let same : x ≡ p = cc in (zero, omega arith, same)
    by false e more = let k = more e in (suc k.0, (let lt = k.1 in omega (arith, lt)), k.2)

-- the row of the next pair, in what the files hold then
record Met (d : Defs) (k : ℕ) (f : SlotFile) (s : TableState) (n : Holding) (pair : Pair) : Type 0 where
  pub row : StoredRow
  pub there : row_at row.at s.rows ≡ Some row
  pub is : pair_of_row d k row ≡ pair
  pub place : position_within d f.counts.length pair.row ≡ row.at
  pub file : IsFileOf f s n

-- what a call says of the next pair, of each table that the files stand for
abbrev pub Comes : Option Holding → Trees → RangeRows → Option CursorAt → Type 0
Comes told t old found = IfStand told t (λ m own lists. ReadsAhead old.reached (list_of lists old.key) → ComesTo old.reached (list_of lists old.key) found)

next_in : (d : Defs) (old : RangeRows) (t : Trees) (f : SlotFile) (s : TableState) (m : Holding) (told : Option Holding) (found : Option CursorAt) (h : HasTable d old t f s m) → told ≡ Some m → Comes told t old found → ComesTo old.reached (listed d (suc old.key) s.rows) found
next_in d old t f s m told found h held comes =
    subst (λ (ps : List Pair). ComesTo old.reached ps found) h.pairs (comes m held h.own h.lists h.stand (subst (λ (ps : List Pair). ReadsAhead old.reached ps) (sym h.pairs) h.ahead))

-- the cursor stands behind this pair, which is the next one
next_pair : (at : Reached) (pairs : List Pair) (c : CursorAt) (p : Pair) → c.last ≡ Some p → ComesTo at pairs (Some c) → IsNext at pairs p
next_pair at pairs c p is comes = subst (λ (q : Pair). IsNext at pairs q) (same_Some comes.0 p (sym comes.1 ∙ is)) comes.2

met : (d : Defs) (old : RangeRows) (t : Trees) (f : SlotFile) (s : TableState) (m n : Holding) (pair : Pair) → Pointed → RowsStand → IsSound d → f.defs ≡ d → f.name ≢ t.cache.name → OthersStay t.cache.name m n → HasTable d old t f s m → IsNext old.reached (listed d (suc old.key) s.rows) pair → Met d (suc old.key) f s n pair
met d old t f s m n pair pointed stand sound same off stay h next =
    let r : RowOf d (suc old.key) 0 s.rows pair = listed_row d (suc old.key) s.rows pair h.table.state.order (contains_first _ pair _ (listed d (suc old.key) s.rows) next) in
    let back = pointed d s sound h.table.state in
    let place : position_within f.defs f.counts.length (pointer f.defs r.row.at) ≡ r.row.at = position_is f s m r.row (subst IsSound (sym same) sound) h.file r.there (subst (λ (q : Defs). AllByRecursion (λ (r : StoredRow). position q (pointer q r.at) ≡ r.at) s.rows) (sym same) back) in
    record {
      row = r.row;
      there = r.there;
      is = r.pair;
      place = ap (λ (p : Pair). position_within d f.counts.length p.row) (sym r.pair) ∙ subst (λ (q : Defs). position_within q f.counts.length (pointer q r.row.at) ≡ r.row.at) same place;
      file = file_stays f s t.cache.name m n stay off h.file;
    }

-- ---- what was told before

record Before (told : Option Holding) (q : List ℕ) (n : Holding) : Type 0 where
  pub held : Holding
  pub is : told ≡ Some held
  pub stay : OthersStay q held n

before : (told next : Option Holding) (q : List ℕ) (n : Holding) → Told told next (OthersStay q) → next ≡ Some n → Before told q n
before told next q n t e = by told refl
  where
    never : {A : Type 0} → None ≡ Some n → A
    never e = absurd cc

    by : (o : Option Holding) → told ≡ o → Before told q n
    by None none = never (sym (t.untold none) ∙ e)
    by (Some m) is = let then = t.told m is in record { held = m; is = is; stay = subst (λ (x : Holding). OthersStay q m x) (same_Some then.0 n (sym then.1 ∙ e)) then.2 }

abbrev pub HasTables : Option Holding → Defs → RangeRows → Trees → SlotFile → Type 0
HasTables told d old t f = IfTold told (λ m. (s : TableState) × HasTable d old t f s m)

pub there_after : (told next : Option Holding) (d : Defs) (old : RangeRows) (t u : Trees) (f : SlotFile) (c : CursorAt) (pair : Pair) (at : ℕ) → Pointed → RowsStand → IsSound d → f.defs ≡ d → f.name ≢ t.cache.name → Searched told next t u → HasTables told d old t f
    → Comes told t old (Some c) → c.last ≡ Some pair → at ≡ position_within d f.counts.length pair.row → IfTold next (HasRow f at)
there_after told next d old t u f c pair at pointed stand sound same off g tables comes is place = λ n e.
    let b = before told next t.cache.name n g.others e in
    let h = tables b.held b.is in
    let list = next_pair old.reached (listed d (suc old.key) h.0.rows) c pair is (next_in d old t f h.0 b.held told (Some c) h.1 b.is comes) in
    let w = met d old t f h.0 b.held n pair pointed stand sound same off b.stay h.1 list in
    subst (λ (p : ℕ). HasRow f p n) (sym (place ∙ w.place)) (has_row f h.0 n w.row.at w.row stand (subst IsSound (sym same) sound) w.file w.there)

pub long_after : (told next : Option Holding) (d : Defs) (old : RangeRows) (t u : Trees) (f : SlotFile) → f.name ≢ t.cache.name → Searched told next t u → HasTables told d old t f → IfTold next (IsLong f)
long_after told next d old t u f off g tables = λ n e.
    let b = before told next t.cache.name n g.others e in
    let h = tables b.held b.is in
    file_long f h.0 n (file_stays f h.0 t.cache.name b.held n b.stay off h.1.file)

-- ---- the answers

pub answer_none : (told : Option Holding) (d : Defs) (old new : RangeRows) (t : Trees) (f : SlotFile) → Comes told t old None → IfTold told (λ m. (s : TableState) → HasTable d old t f s m → Answers d s old new None)
answer_none told d old new t f comes = λ m held s h. come_none old.reached old.to (listed d (suc old.key) s.rows) (next_in d old t f s m told None h held comes)

pub answer_past : (told : Option Holding) (d : Defs) (old new : RangeRows) (t : Trees) (f : SlotFile) (c : CursorAt) (pair : Pair) → stays_below old.to pair.key ≡ false → Comes told t old (Some c) → c.last ≡ Some pair → IfTold told (λ m. (s : TableState) → HasTable d old t f s m → Answers d s old new None)
answer_past told d old new t f c pair past comes is = λ m held s h.
    let pairs : List Pair = listed d (suc old.key) s.rows in
    come_past old.reached old.to pairs pair (next_pair old.reached pairs c pair is (next_in d old t f s m told (Some c) h held comes)) past

pub answer_row : (told next : Option Holding) (d : Defs) (old mid : RangeRows) (t u : Trees) (f : SlotFile) (c : CursorAt) (pair : Pair) (at : ℕ) (values : Values) → Pointed → RowsStand → IsSound d → f.defs ≡ d → f.name ≢ t.cache.name → Searched told next t u → mid ≡ record old { reached = End }
    → Comes told t old (Some c) → c.last ≡ Some pair → stays_below old.to pair.key ≡ true → at ≡ position_within d f.counts.length pair.row → IfTold next (IsRowAt f at values)
    → IfTold told (λ m. (s : TableState) → HasTable d old t f s m → Answers d s old (record mid { reached = Behind c }) (Some (at, values)))
answer_row told next d old mid t u f c pair at values pointed stand sound same off g end comes is may place row = λ m held s h.
    let then = g.others.told m held in
    let n : Holding = then.0 in
    let pairs : List Pair = listed d (suc old.key) s.rows in
    let list = next_pair old.reached pairs c pair is (next_in d old t f s m told (Some c) h held comes) in
    let w = met d old t f s m n pair pointed stand sound same off then.2 h list in
    let here : at ≡ w.row.at = place ∙ w.place in (
      w.row,
      subst (λ (p : ℕ). row_at p s.rows ≡ Some w.row) (sym here) w.there,
      row_values f s n w.row.at w.row values stand (subst IsSound (sym same) sound) w.file w.there (subst (λ (p : ℕ). IsRowAt f p values n) here (row n then.1)),
      come_next old.reached old.to pairs pair c list may is
          ∙ ap (λ (q : RangeRows). pair ∷ coming d (record q { reached = Behind c }) s.rows) (sym end)
          ∙ ap (λ (p : Pair). p ∷ coming d (record mid { reached = Behind c }) s.rows) (sym w.is),
    )

-- ---- the table afterwards

pub table_again : (told next : Option Holding) (d : Defs) (old new : RangeRows) (t u : Trees) (f : SlotFile) → f.name ≢ t.cache.name → Searched told next t u → new.key ≡ old.key
    → IfTold told (λ m. (s : TableState) → HasTable d old t f s m → ReadsAhead new.reached (listed d (suc old.key) s.rows)) → Told told next (λ m n. (s : TableState) → HasTable d old t f s m → HasTable d new u f s n)
table_again told next d old new t u f off g key ahead = record {
  told = λ m held. let then = g.others.told m held in (then.0, then.1, λ s h. by m then.0 held then.1 then.2 s h);
  untold = g.others.untold;
}
  where
    by : (m n : Holding) → told ≡ Some m → next ≡ Some n → OthersStay t.cache.name m n → (s : TableState) → HasTable d old t f s m → HasTable d new u f s n
    by m n held is stay s h =
        let st = g.stand m held h.own h.lists h.stand in
        record {
          table = h.table;
          file = file_stays f s t.cache.name m n stay off h.file;
          own = h.own;
          lists = h.lists;
          stand = subst (λ (q : Holding). Stand u q h.own h.lists) (same_Some st.now n (sym st.held ∙ is)) st.stand;
          pairs = subst (λ (k : ℕ). list_of h.lists k ≡ listed d (suc k) s.rows) (sym key) h.pairs;
          ahead = subst (λ (k : ℕ). ReadsAhead new.reached (listed d (suc k) s.rows)) (sym key) (ahead m held s h);
        }

-- a reading that is at its end has read nothing ahead
pub ahead_end : (told : Option Holding) (d : Defs) (old new : RangeRows) (t : Trees) (f : SlotFile) → new.reached ≡ End → IfTold told (λ m. (s : TableState) → HasTable d old t f s m → ReadsAhead new.reached (listed d (suc old.key) s.rows))
ahead_end told d old new t f end = λ m held s h. subst (λ (r : Reached). ReadsAhead r (listed d (suc old.key) s.rows)) (sym end) tt

pub ahead_behind : (told : Option Holding) (d : Defs) (old : RangeRows) (t : Trees) (f : SlotFile) (c : CursorAt) → Comes told t old (Some c) → IfTold told (λ m. (s : TableState) → HasTable d old t f s m → StandsIn (listed d (suc old.key) s.rows) c)
ahead_behind told d old t f c comes = λ m held s h. (next_in d old t f s m told (Some c) h held comes).3

-- ---- how often the files were read

abbrev pub Rose : Option Holding → Trees → RangeRows → ℕ → ℕ → Type 0
Rose told t old before after = IfStand told t (λ m own lists. RoseBySearches (searches old.reached) (length (list_of lists old.key)) 0 before after)

rose_in : (d : Defs) (old : RangeRows) (t : Trees) (f : SlotFile) (s : TableState) (m : Holding) (told : Option Holding) (before after : ℕ) (h : HasTable d old t f s m) → told ≡ Some m → Rose told t old before after → RoseBySearches (searches old.reached) (length (listed d (suc old.key) s.rows)) 0 before after
rose_in d old t f s m told before after h held rose = subst (λ (ps : List Pair). RoseBySearches (searches old.reached) (length ps) 0 before after) h.pairs (rose m held h.own h.lists h.stand)

pub few_none : (told : Option Holding) (d : Defs) (old : RangeRows) (t : Trees) (f : SlotFile) (before after : ℕ) → Rose told t old before after → IfTold told (λ m. (s : TableState) → HasTable d old t f s m → ReadInFew d s old None before after)
few_none told d old t f before after rose = λ m held s h. rose_in d old t f s m told before after h held rose

pub few_row : (told next : Option Holding) (d : Defs) (old : RangeRows) (t u : Trees) (f : SlotFile) (c : CursorAt) (pair : Pair) (at : ℕ) (values : Values) (start mid after : ℕ) → Pointed → RowsStand → IsSound d → f.defs ≡ d → f.name ≢ t.cache.name → Searched told next t u
    → Comes told t old (Some c) → c.last ≡ Some pair → at ≡ position_within d f.counts.length pair.row → Rose told t old start mid → IfTold next (ReadsFew f at mid after)
    → IfTold told (λ m. (s : TableState) → HasTable d old t f s m → ReadInFew d s old (Some (at, values)) start after)
few_row told next d old t u f c pair at values start mid after pointed stand sound same off g comes is place rose few = λ m held s h.
    let then = g.others.told m held in
    let n : Holding = then.0 in
    let pairs : List Pair = listed d (suc old.key) s.rows in
    let list = next_pair old.reached pairs c pair is (next_in d old t f s m told (Some c) h held comes) in
    let w = met d old t f s m n pair pointed stand sound same off then.2 h list in
    let there : row_at at s.rows ≡ Some w.row = subst (λ (p : ℕ). row_at p s.rows ≡ Some w.row) (sym (place ∙ w.place)) w.there in
    let read : after ≤ mid + row_cost d (row_at at s.rows) = subst (λ (q : Defs). after ≤ mid + row_cost q (row_at at s.rows)) same (row_read f s n at w.row mid after stand w.file there (few n then.1)) in
    rose_more (searches old.reached) (length pairs) (row_cost d (row_at at s.rows)) start mid after (rose_in d old t f s m told start mid h held rose) read

-- where no pair was come to
pub failed_none : (told : Option Holding) (d : Defs) (old : RangeRows) (t : Trees) (f : SlotFile) (before after : ℕ) → Rose told t old before after → IfTold told (λ m. (s : TableState) → HasTable d old t f s m → FailsInFew d s old before after)
failed_none told d old t f before after rose = λ m held s h. record { next = None; comes = tt; few = rose_in d old t f s m told before after h held rose }

-- where the row of the first pair could not be read
pub failed_row : (told next : Option Holding) (d : Defs) (old : RangeRows) (t u : Trees) (f : SlotFile) (c : CursorAt) (pair : Pair) (at : ℕ) (start mid after : ℕ) → Pointed → RowsStand → IsSound d → f.defs ≡ d → f.name ≢ t.cache.name → Searched told next t u
    → Comes told t old (Some c) → c.last ≡ Some pair → stays_below old.to pair.key ≡ true → at ≡ position_within d f.counts.length pair.row → Rose told t old start mid → IfTold next (ReadsFew f at mid after)
    → IfTold told (λ m. (s : TableState) → HasTable d old t f s m → FailsInFew d s old start after)
failed_row told next d old t u f c pair at start mid after pointed stand sound same off g comes is may place rose few = λ m held s h.
    let then = g.others.told m held in
    let n : Holding = then.0 in
    let pairs : List Pair = listed d (suc old.key) s.rows in
    let list = next_pair old.reached pairs c pair is (next_in d old t f s m told (Some c) h held comes) in
    let w = met d old t f s m n pair pointed stand sound same off then.2 h list in
    let there : row_at at s.rows ≡ Some w.row = subst (λ (p : ℕ). row_at p s.rows ≡ Some w.row) (sym (place ∙ w.place)) w.there in
    let all = few_row told next d old t u f c pair at w.row.values start mid after pointed stand sound same off g comes is place rose few m held s h in
    record {
      next = Some w.row;
      comes = (w.there, coming d (record old { reached = Behind c }) s.rows, come_next old.reached old.to pairs pair c list may is ∙ ap (λ (p : Pair). p ∷ coming d (record old { reached = Behind c }) s.rows) (sym w.is));
      few = subst (λ (o : Option StoredRow). RoseBySearches (searches old.reached) (length pairs) (row_cost d o) start after) there all;
    }

-- ---- refusals

pub never_index : (told : Option Holding) (d : Defs) (old : RangeRows) (t : Trees) (f : SlotFile) (e : TreeFault) → HasTables told d old t f → DamagedAt (λ at. IfStand told t (λ m own lists. ⊥)) e → NeverDamaged told (Index e)
never_index told d old t f (tree.Damaged at) tables never = by told refl
  where
    by : (o : Option Holding) → told ≡ o → told ≡ None
    by None is = is
    by (Some m) is = let h = tables m is in absurd (never at refl m is h.1.own h.1.lists h.1.stand)
never_index told d old t f tree.File tables never = tt
never_index told d old t f tree.Memory tables never = tt

pub if_err : {T : Type 0} (r : Result T RangeFault) (x : RangeFault) (P : RangeFault → Type 0) → r ≡ Err x → P x → IfErr r P
if_err r x P e h = rw e h
