-- Searching the base for a complete key.
use Rattle.std.proofs.Common.{◌≡◌, ℕ, zero, suc, ◌+◌, ◌-◌, ◌<◌, Bool, true, false, cond, List, [], ◌∷◌, length, map, slice_index_or, Option, Some, None, Err, refl, sym, ap, subst, ◌∙◌, arith}
use Rattle.std.specs.Prelude.{◌==◌, option_map}
use Rattle.std.proofs.lemmas.Bool.Decides.{nat_tests}
use Rattle.std.proofs.lemmas.Option.{same_Some}
use Rattle.myi_base.specs.Holding.{Holding}
use Rattle.myi_base.specs.Causes.{HasCause}
use Rattle.myi_defs.specs.declared.types.Defs.{Defs}
use Rattle.myi_defs.specs.Sound.{IsSound}
use Rattle.myi_pack.specs.Packed.{Values}
use Rattle.myi_keys.specs.Limits.{is_complete}
use Rattle.myi_keylist.specs.declared.pair.Pair.{Pair}
use Rattle.myi_btree.specs.declared.fault.TreeFault.{TreeFault}
use Rattle.myi_btree.specs.declared.fault.TreeFault.TheVariants as tree
use Rattle.myi_btree.specs.Faults.{DamagedAt}
use Rattle.myi_btree.specs.CachedTrees.{ReadsOnly}
use Rattle.myi_keycache.specs.Kept.{AllWritten}
use Rattle.myi_keycache.specs.Caching.{Caching, pages_of}
use Rattle.myi_search.specs.Least.{IsLeastRow}
use Rattle.myi_data.specs.Keys.{IsKeyNumber, key_of}
use Rattle.myi_rowkeys.specs.TableKeys.{numbers_from, is_unique}
use Rattle.myi_pair.specs.FirstRows.{repeats_key}
use Rattle.myi_state.specs.declared.counts.Counts.{Counts}
use Rattle.myi_state.specs.State.{StoredRow, TableState, row_at}
use Rattle.myi_slots.specs.SlotFile.{SlotFile, IsFileOf}
use Rattle.myi_keytrees.specs.Trees.{Trees}
use Rattle.myi_keytrees.specs.Standing.{list_of, Stand, IfStand, StillStand}
use Rattle.myi_tablestate.specs.Keyed.{holder}
use Rattle.myi_tablestate.specs.Listed.{listed, position}
use Rattle.myi_rowtrees.specs.RowLists.{lists_of}
use Rattle.myi_ranges.specs.Ranges.{position_within}
use Rattle.myi_keyedrows.specs.declared.keyed_rows.KeyedRows.{KeyedRows}
use Rattle.myi_keyedrows.specs.KeyedRows.{defs_of, HoldTable, IfHold}
use Rattle.myi_inserter.specs.declared.fault.InsertFault.{InsertFault}
use Rattle.myi_inserter.specs.declared.fault.InsertFault.TheVariants as fault
use Rattle.myi_inserter.specs.Faults.{of_tree, IsCutOff, IsOfSearch}

-- ---- the list of a key

nth : (f : ℕ → List Pair) (at n k : ℕ) → k < n → slice_index_or (map f (numbers_from at n)) k [] ≡ f (at + k)
nth f at zero k lt = absurd (omega (arith, lt))
nth f at (suc n) zero lt = let e : at ≡ at + 0 = omega arith in ap f e
nth f at (suc n) (suc k) lt = let e : suc at + k ≡ at + suc k = omega arith in nth f (suc at) n k (omega (arith, lt)) ∙ ap f e

pub list_at : (d : Defs) (rows : List StoredRow) (n : ℕ) → IsKeyNumber d n → list_of (lists_of d rows) (n - 1) ≡ listed d n rows
list_at d rows n number =
    let e : 1 + (n - 1) ≡ n = omega (arith, number.0) in
    nth (λ (j : ℕ). listed d j rows) 1 (length d.keys) (n - 1) (omega (arith, number.0, number.1)) ∙ ap (λ (j : ℕ). listed d j rows) e

-- ---- a row that has a key stands in the table

abbrev pub StandsAt : ℕ → List StoredRow → Type 0
StandsAt at rows = (r : StoredRow) × (row_at at rows ≡ Some r) × (r.at ≡ at)

behind : (at : ℕ) (q : StoredRow) (rows : List StoredRow) → StandsAt at rows → StandsAt at (q ∷ rows)
behind at q rows s = by (q.at == at) refl
  where
    by : (b : Bool) → (q.at == at) ≡ b → (r : StoredRow) × (cond b (Some q) (row_at at rows) ≡ Some r) × (r.at ≡ at)
    by true is = (q, refl, grind (arith, nat_tests, is))
    by false is = s

in_front : (q : StoredRow) (rows : List StoredRow) → StandsAt q.at (q ∷ rows)
in_front q rows = (q, (let e : (q.at == q.at) ≡ true = grind (arith, nat_tests) in rw e refl), refl)

holder_stands : (d : Defs) (values : Values) (k at : ℕ) (rows : List StoredRow) → holder d values k rows ≡ Some at → StandsAt at rows
holder_stands d values k at [] is = absurd cc
holder_stands d values k at (q ∷ rows) is = by (repeats_key d values q.values k) is (holder_stands d values k at rows)
  where
    by : (b : Bool) → cond b (Some q.at) (holder d values k rows) ≡ Some at → (holder d values k rows ≡ Some at → StandsAt at rows) → StandsAt at (q ∷ rows)
    by true is more = let e : q.at ≡ at = cc in subst (λ (n : ℕ). StandsAt n (q ∷ rows)) e (in_front q rows)
    by false is more = behind at q rows (more is)

abbrev pub Leads : Type 0
Leads = (f : SlotFile) (s : TableState) (m : Holding) (p : ℕ) (r : StoredRow) → IsSound f.defs → IsFileOf f s m → row_at r.at s.rows ≡ Some r → position f.defs p ≡ r.at → position_within f.defs f.counts.length p ≡ r.at

-- where the least row of a key is known, so is the row that has it
abbrev pub ByLeast : Defs → TableState → Type 0
ByLeast d s = (values : Values) (n : ℕ) (least : Option ℕ) → IsKeyNumber d n → is_unique d n ≡ true → is_complete (key_of d n values) ≡ true → IsLeastRow (key_of d n values) (listed d n s.rows) least → holder d values n s.rows ≡ option_map (position d) least

place_is : Leads → (f : SlotFile) (s : TableState) (m : Holding) (values : Values) (n : ℕ) (least : Option ℕ) → IsSound f.defs → IsFileOf f s m → holder f.defs values n s.rows ≡ option_map (position f.defs) least
    → option_map (position_within f.defs f.counts.length) least ≡ holder f.defs values n s.rows
place_is leads f s m values n None sound is held = sym held
place_is leads f s m values n (Some p) sound is held =
    let at : ℕ = position f.defs p in
    let there = holder_stands f.defs values n at s.rows held in
    let same = leads f s m p there.0 sound is (subst (λ (q : ℕ). row_at q s.rows ≡ Some there.0) (sym there.2) there.1) (sym there.2) in
    ap (λ (q : ℕ). Some q) (same ∙ there.2) ∙ sym held

-- the answer of a search, by the definitions of the table
pub held_in_base : Leads → (d : Defs) (k : KeyedRows) (own : ℕ → ℕ) (s : TableState) (m : Holding) (values : Values) (n : ℕ) (least : Option ℕ) → defs_of k ≡ d → IsSound d → ByLeast d s → HoldTable k own s m → IsKeyNumber d n → is_unique d n ≡ true → is_complete (key_of d n values) ≡ true
    → IsLeastRow (key_of d n values) (list_of (lists_of (defs_of k) s.rows) (n - 1)) least → option_map (position_within d k.rows.file.counts.length) least ≡ holder d values n s.rows
held_in_base leads d k own s m values n least same sound law h number unique whole is =
    let lists : list_of (lists_of (defs_of k) s.rows) (n - 1) ≡ listed d n s.rows = ap (λ (e : Defs). list_of (lists_of e s.rows) (n - 1)) same ∙ list_at d s.rows n number in
    let held : holder d values n s.rows ≡ option_map (position d) least = law values n least number unique whole (subst (λ (l : List Pair). IsLeastRow (key_of d n values) l least) lists is) in
    let f : SlotFile = k.rows.file in
    subst (λ (e : Defs). option_map (position_within e f.counts.length) least ≡ holder e values n s.rows) same
    (place_is leads f s m values n least (subst IsSound (sym same) sound) h.rows.0 (subst (λ (e : Defs). holder e values n s.rows ≡ option_map (position e) least) (sym same) held))

pub found_in_base : Leads → (d : Defs) (k : KeyedRows) (own : ℕ → ℕ) (s : TableState) (m : Holding) (values : Values) (n p at : ℕ) → at ≡ position_within d k.rows.file.counts.length p → defs_of k ≡ d → IsSound d → ByLeast d s → HoldTable k own s m → IsKeyNumber d n → is_unique d n ≡ true → is_complete (key_of d n values) ≡ true
    → IsLeastRow (key_of d n values) (list_of (lists_of (defs_of k) s.rows) (n - 1)) (Some p) → Some at ≡ holder d values n s.rows
found_in_base leads d k own s m values n p at place same sound law h number unique whole is =
    ap (λ (q : ℕ). Some q) place ∙ held_in_base leads d k own s m values n (Some p) same sound law h number unique whole is

pub place_by : (d : Defs) (at p : ℕ) (n m : Counts) → at ≡ position_within d n.length p → n ≡ m → at ≡ position_within d m.length p
place_by d at p n m place same = place ∙ ap (λ (q : Counts). position_within d q.length p) same

-- ---- trees that were searched

-- the pages that are kept are written, and the trees were searched: the object stands for the table as before
pub searched_holds : (k : KeyedRows) (trees : Trees) (own : ℕ → ℕ) (s : TableState) (m : Holding) (told next : Option Holding) → told ≡ Some m → next ≡ told → StillStand told next k.trees trees → HoldTable k own s m → HoldTable (record { rows = k.rows; trees = trees }) own s m
searched_holds k trees own s m told next held same still h =
    let then = still m held own (lists_of (defs_of k) s.rows) h.trees in
    let here : then.now ≡ m = same_Some then.now m (sym then.held ∙ same ∙ held) in record {
      table = h.table;
      rows = h.rows;
      trees = subst (λ (q : Holding). Stand trees q own (lists_of (defs_of k) s.rows)) here then.stand;
    }

pub written_still : (told next : Option Holding) (old new : Caching) → ReadsOnly told next old new → AllWritten (pages_of old) → AllWritten (pages_of new)
written_still told next old new reads written = λ p n is. written p n (reads.unwritten p n is)

-- ---- refusals

pub never_damaged : (told : Option Holding) (k : KeyedRows) (e : TreeFault) → DamagedAt (λ at. IfStand told k.trees (λ m own lists. ⊥)) e → IfHold told k (λ m own base. IsCutOff (of_tree e))
never_damaged told k (tree.Damaged at) never = λ m held own base h. never at refl m held own (lists_of (defs_of k) base.rows) h.trees
never_damaged told k tree.File never = λ m held own base h. tt
never_damaged told k tree.Memory never = λ m held own base h. tt

pub of_search : (e : TreeFault) → IsOfSearch (of_tree e)
of_search (tree.Damaged at) = tt
of_search tree.File = tt
of_search tree.Memory = tt

pub cause_tree : {T U : Type 0} (before now : ℕ) (e : TreeFault) → HasCause {T = T} {E = TreeFault} tree.File before now (Err e) → HasCause {T = U} {E = InsertFault} fault.File before now (Err (of_tree e))
cause_tree before now (tree.Damaged at) c = record { later = c.later; cause = λ e. absurd cc }
cause_tree before now tree.File c = record { later = c.later; cause = λ e. c.cause refl }
cause_tree before now tree.Memory c = record { later = c.later; cause = λ e. absurd cc }
