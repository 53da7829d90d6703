-- The data files of tables that take no rows, before and behind calls on a target.
use Rattle.std.proofs.Common.{◌≡◌, ℕ, zero, suc, Bool, false, List, [], ◌∷◌, ◌++◌, slice_get, Option, Some, None, Result, Ok, Err, IfOk, IfErr, OnOk, refl, sym, ap, subst, ◌∙◌, inl, inr, arith}
use Rattle.std.specs.Prelude.{◌≢◌, ◌⊎◌, IfSome}
use Rattle.std.proofs.lemmas.Option.{same_Some}
use Rattle.myi_base.specs.Holding.{Holding, Told}
use Rattle.myi_base.proofs.CallerLemmas.{told_same, told_more, told_then}
use Rattle.myi_pack.specs.Packed.{Values}
use Rattle.myi_state.specs.Changes.{Change, insert}
use Rattle.myi_script.specs.declared.types.Act.{Act}
use Rattle.myi_script.specs.declared.types.Act.TheVariants as act
use Rattle.myi_script.specs.declared.types.Line.{Line}
use Rattle.myi_history.specs.Lines.{act_of}
use Rattle.myi_history.specs.History.{Taking, in_table, in_member, in_none, table_change, change_of}
use Rattle.myi_table.specs.declared.fault.ChangeFault.{ChangeFault}
use Rattle.myi_table.specs.Table as table
use Rattle.myi_table.specs.Table.{OpenTable, KeepsRows}
use Rattle.myi_merge.specs.declared.fault.MergeInsertFault.{MergeInsertFault}
use Rattle.myi_merge.specs.declared.fault.MergeInsertFault.TheVariants as insertion
use Rattle.myi_merge.specs.Merged.{OpenMerge, IsMerge, OfEach}
use Rattle.myi_merge.specs.Merging.{KeepBut}
use Rattle.myi_merge.specs.Changing.{target, KeepEach, KeepEachRows, ChangesOne, Inserts, RefusesRow, StopsAtTable}
use Rattle.myi_shell.specs.declared.target.Target.{Target}
use Rattle.myi_shell.specs.declared.target.Target.TheVariants.{One, Many}
use Rattle.myi_shell.specs.Targets as on
use Rattle.myi_shell.specs.Targets.{taking, taking_by, script_on, IsSame, IsUntouched, IsUntouchedOne, ChangesItsOwn}
use Rattle.myi_shell.specs.Idle.{place_in, AsksNothing, KeepsIdle, names_of, LeavesRow, LeavesIdle, LeavesUnasked}
use Rattle.myi_shell.proofs.CarryLemmas.{names_in, names_same}
use Rattle.myi_shell.proofs.ListTouches.{but_kept}
use Rattle.myi_shell.proofs.StatementLemmas.{act_meets}

-- ---- calls one after the other

pub leaves_none : (told next : Option Holding) (t : Target) (ls : List Line) → next ≡ told → Told told next (LeavesIdle t ls)
leaves_none told next t ls is = told_same told next (LeavesIdle t ls) is (λ m held i name at or. refl)

pub unasked_none : (told next : Option Holding) (t : Target) (together : Bool) (a : Act) → next ≡ told → Told told next (LeavesUnasked t together a)
unasked_none told next t together a is = told_same told next (LeavesUnasked t together a) is (λ m held i name at or. refl)

names_stay : (old new : Target) → IsSame old new → names_of new ≡ names_of old
names_stay (One t) (One u) same = ap (λ (n : List ℕ). n ∷ []) same.name
names_stay (One t) (Many h) same = absurd same
names_stay (Many g) (One u) same = absurd same
names_stay (Many g) (Many h) same = names_same g.tables h.tables same.1

pub leaves_then : (told mid next : Option Holding) (old half : Target) (ls : List Line) → IsSame old half → taking half ≡ taking old → Told told mid (LeavesIdle old ls) → Told mid next (LeavesIdle half ls) → Told told next (LeavesIdle old ls)
leaves_then told mid next old half ls same takes one two =
    let R = LeavesIdle old ls in
    let by_names : Told mid next (KeepsIdle (script_on half ls) (names_of old)) = subst (λ (ns : List (List ℕ)). Told mid next (KeepsIdle (script_on half ls) ns)) (names_stay old half same) two in
    let again : Told mid next R = subst (λ (k : Taking). Told mid next (KeepsIdle (record { lines = ls; takes = k }) (names_of old))) takes by_names in
    told_then told mid next R R R one again (λ m n k first second i name at or. second i name at or ∙ first i name at or)

-- ---- calls that leave all data files

-- the one table of that name
pub one_named : (own name : List ℕ) (i : ℕ) (m n : Holding) → slice_get (own ∷ []) i ≡ Some name → KeepsRows own m n → KeepsRows name m n
one_named own name zero m n at keeps = subst (λ (q : List ℕ). KeepsRows q m n) (same_Some own name at) keeps
one_named own name (suc i) m n at keeps = absurd cc

-- one of the tables, of which each is untouched
untouched_at : (told next : Option Holding) (ts us : List OpenTable) (i : ℕ) (name : List ℕ) (m n : Holding) → told ≡ Some m → next ≡ Some n → OfEach ts us (IsUntouchedOne told next) → slice_get (names_in ts) i ≡ Some name → KeepsRows name m n
untouched_at told next [] us i name m n held there each at = absurd cc
untouched_at told next (t ∷ ts) [] i name m n held there each at = absurd each
untouched_at told next (t ∷ ts) (u ∷ us) zero name m n held there each at =
    let k = each.0.untouched.rows.told m held in
    subst (λ (z : Holding). KeepsRows name m z) (same_Some k.0 n (sym k.1 ∙ there)) (subst (λ (q : List ℕ). KeepsRows q m k.0) (same_Some t.name name at) k.2)
untouched_at told next (t ∷ ts) (u ∷ us) (suc i) name m n held there each at = untouched_at told next ts us i name m n held there each.1 at

pub untouched_leaves : (told next : Option Holding) (old new : Target) (ls : List Line) → IsUntouched told next old new → ChangesItsOwn told next old → Told told next (LeavesIdle old ls)
untouched_leaves told next (One t) (One u) ls same others = told_more told next (KeepsRows t.name) (LeavesIdle (One t) ls) same.untouched.rows (λ m n held keeps i name at or. one_named t.name name i m n at keeps)
untouched_leaves told next (One t) (Many h) ls same others = absurd same
untouched_leaves told next (Many g) (One u) ls same others = absurd same
untouched_leaves told next (Many g) (Many h) ls same others = record {
  told = λ m held. let n = others.told m held in (n.0, n.1, λ i name at or. untouched_at told next g.tables h.tables i name m n.0 held n.1 same.1 at);
  untold = others.untold;
}

each_rows : (ts : List OpenTable) (i : ℕ) (name : List ℕ) (m n : Holding) → KeepEachRows ts m n → slice_get (names_in ts) i ≡ Some name → KeepsRows name m n
each_rows [] i name m n each at = absurd cc
each_rows (t ∷ ts) zero name m n each at = subst (λ (q : List ℕ). KeepsRows q m n) (same_Some t.name name at) each.0
each_rows (t ∷ ts) (suc i) name m n each at = each_rows ts i name m n each.1 at

pub shut_leaves : (told next : Option Holding) (t : Target) (ls : List Line) → Told told next (on.KeepsRows t) → Told told next (LeavesIdle t ls)
shut_leaves told next (One t) ls rows = told_more told next (KeepsRows t.name) (LeavesIdle (One t) ls) rows (λ m n held keeps i name at or. one_named t.name name i m n at keeps)
shut_leaves told next (Many g) ls rows = told_more told next (KeepEachRows g.tables) (LeavesIdle (Many g) ls) rows (λ m n held keeps i name at or. each_rows g.tables i name m n keeps at)

-- ---- a list that is closed, or not

join : (before : List OpenTable) (t : OpenTable) (after : List OpenTable) (m n : Holding) → KeepEachRows before m n → KeepsRows t.name m n → KeepEach after m n → KeepEachRows (before ++ t ∷ after) m n
join [] t after m n front own back = (own, rows after back) where
  rows : (ts : List OpenTable) → KeepEach ts m n → KeepEachRows ts m n
  rows [] each = tt
  rows (u ∷ us) each = (each.0.rows, rows us each.1)
join (u ∷ before) t after m n front own back = (front.0, join before t after m n front.1 own back)

pub rows_shut : (told next : Option Holding) (ts : List OpenTable) (result : Result (Unit {0}) ChangeFault) → OnOk result (Told told next (KeepEachRows ts)) → IfErr result (StopsAtTable told next ts) → Told told next (KeepEachRows ts)
rows_shut told next ts (Ok done) rows stops = rows
rows_shut told next ts (Err f) rows stops = subst (λ (us : List OpenTable). Told told next (KeepEachRows us)) (sym stops.parts) (record {
  told = λ m held.
      let front = stops.rows.told m held in
      let own = stops.kept.told m held in
      let back = stops.behind.told m held in
      let n = front.0 in (
        n,
        front.1,
        join stops.before stops.table stops.after m n front.2
            (subst (λ (z : Holding). KeepsRows stops.table.name m z) (same_Some own.0 n (sym own.1 ∙ front.1)) own.2)
            (subst (λ (z : Holding). KeepEach stops.after m z) (same_Some back.0 n (sym back.1 ∙ front.1)) back.2),
      );
  untold = stops.rows.untold;
})

-- ---- a row that is inserted in a list

but_at : (ts : List OpenTable) (i j : ℕ) (name : List ℕ) (m n : Holding) → KeepBut j ts m n → (j ≡ i → ⊥) → slice_get (names_in ts) i ≡ Some name → KeepsRows name m n
but_at [] i j name m n but off at = absurd cc
but_at (t ∷ ts) zero zero name m n but off at = absurd (off refl)
but_at (t ∷ ts) (suc i) zero name m n but off at = back ts i but at where
  back : (us : List OpenTable) (k : ℕ) → KeepEach us m n → slice_get (names_in us) k ≡ Some name → KeepsRows name m n
  back [] k each is = absurd cc
  back (u ∷ us) zero each is = subst (λ (q : List ℕ). KeepsRows q m n) (same_Some u.name name is) each.0.rows
  back (u ∷ us) (suc k) each is = back us k each.1 is
but_at (t ∷ ts) zero (suc j) name m n but off at = subst (λ (q : List ℕ). KeepsRows q m n) (same_Some t.name name at) but.0.rows
but_at (t ∷ ts) (suc i) (suc j) name m n but off at = but_at ts i j name m n but.1 (λ e. off (ap suc e)) at

one_more : (i : ℕ) → place_in (taking_by (Some i)) ≡ Some i
one_more i = ap Some (omega arith)

one_changed : (told next : Option Holding) (g h : OpenMerge) (Q : ℕ → OpenTable → OpenTable → Type 0) → IsMerge g → ChangesOne told next g h Q → Told told next (LeavesRow (Many g))
one_changed told next g h Q is one =
    told_more told next (KeepBut one.index g.tables) (LeavesRow (Many g)) (but_kept told next g one.index one.before is one.stood one.others)
    (λ m n held but i name at or. but_at g.tables i one.index name m n but (λ e. off i or (ap (λ (o : Option ℕ). place_in (taking_by o)) one.takes ∙ one_more one.index ∙ ap Some e)) at)
  where
    off : (i : ℕ) → (place_in (taking (Many g)) ≢ Some i) ⊎ ⊥ → place_in (taking (Many g)) ≢ Some i
    off i (inl other) = other
    off i (inr none) = absurd none

pub insert_leaves : (told next : Option Holding) (g h : OpenMerge) (row : Values) (made : Result (ℕ × ℕ) MergeInsertFault) → IsMerge g → IfOk made (Inserts (insert row) told next g h) → ((f : ChangeFault) → made ≡ Err (insertion.Change f) → RefusesRow (insert row) told next g h f) → (made ≡ Err insertion.NoInsertMethod → next ≡ told)
    → Told told next (LeavesRow (Many g))
insert_leaves told next g h row (Ok place) is ok err none = one_changed told next g h _ is ok
insert_leaves told next g h row (Err insertion.NoInsertMethod) is ok err none = told_same told next (LeavesRow (Many g)) (none refl) (λ m held i name at or. refl)
insert_leaves told next g h row (Err (insertion.Change f)) is ok err none = one_changed told next g h _ is (err f refl)

-- ---- a statement

pub list_leaves : (told next : Option Holding) (g : OpenMerge) (together : Bool) (a : Act) (row : Values) → a ≡ act.Insert row → Told told next (LeavesRow (Many g)) → Told told next (LeavesUnasked (Many g) together a)
list_leaves told next g together a row is leaves = told_more told next (LeavesRow (Many g)) (LeavesUnasked (Many g) together a) leaves (λ m n held k i name at or. k i name at (inl (off (target g) i or)))
  where
    off : (o : Option ℕ) (i : ℕ) → (place_in (taking_by o) ≢ Some i) ⊎ (change_of (taking_by o) together (Some a) ≡ None) → place_in (taking_by o) ≢ Some i
    off o i (inl other) = other
    off None i (inr none) = λ e. cc
    off (Some j) i (inr none) = absurd (let none : ◌≡◌ {A = Option Change} (Some (insert row)) None = subst (λ (z : Act). change_of (taking_by (Some j)) together (Some z) ≡ None) is none in cc)

pub table_leaves : (told next : Option Holding) (t : OpenTable) (together : Bool) (a : Act) → Told told next (table.KeepsOthers t.name) → (table_change together (Some a) ≡ None → Told told next (KeepsRows t.name)) → Told told next (LeavesUnasked (One t) together a)
table_leaves told next t together a others idle = record {
  told = λ m held. let n = others.told m held in (n.0, n.1, λ i name at or. one_named t.name name i m n.0 at (rows m n.0 held n.1 i at or));
  untold = others.untold;
}
  where
    rows : (m n : Holding) → told ≡ Some m → next ≡ Some n → (i : ℕ) {name : List ℕ} → slice_get (t.name ∷ []) i ≡ Some name → (◌≢◌ {A = Option ℕ} (Some 0) (Some i)) ⊎ (table_change together (Some a) ≡ None) → KeepsRows t.name m n
    rows m n held there zero at (inl off) = absurd (off refl)
    rows m n held there zero at (inr none) = let k = (idle none).told m held in subst (λ (z : Holding). KeepsRows t.name m z) (same_Some k.0 n (sym k.1 ∙ there)) k.2
    rows m n held there (suc i) at or = absurd cc

-- whether it goes to the end or not
unasked : (k : Taking) (together : Bool) (a : Act) → change_of k false (Some a) ≡ None → change_of k together (Some a) ≡ None
unasked in_table together (act.Insert row) none = absurd cc
unasked in_table together (act.Update at row) none = none
unasked in_table together (act.Delete at) none = none
unasked in_table together act.Scan none = none
unasked in_table together (act.Over range) none = none
unasked in_table together (act.Lock lock) none = none
unasked in_table together act.Unlock none = none
unasked in_table together act.Stats none = none
unasked in_table together act.End none = none
unasked (in_member number) together a none = none
unasked in_none together a none = none

-- a statement of the script
pub asked_leaves : (told next : Option Holding) (t : Target) (ls : List Line) (line : ℕ) (together : Bool) (a : Act) → act_of ls line ≡ Some a → Told told next (LeavesUnasked t together a) → Told told next (LeavesIdle t ls)
asked_leaves told next t ls line together a is leaves = told_more told next (LeavesUnasked t together a) (LeavesIdle t ls) leaves (λ m n held k i name at or. k i name at (of_line i or))
  where
    IsIdle : Act → Type 0
    IsIdle b = change_of (taking t) false (Some b) ≡ None

    of_line : (i : ℕ) → (place_in (taking t) ≢ Some i) ⊎ AsksNothing (script_on t ls) → (place_in (taking t) ≢ Some i) ⊎ (change_of (taking t) together (Some a) ≡ None)
    of_line i (inl off) = inl off
    of_line i (inr none) = inr (unasked (taking t) together a (subst (λ (o : Option Act). IfSome o IsIdle) is (act_meets IsIdle ls line none)))

-- ---- a statement that asks a change

pub insert_asks : (P : Type 0) (together : Bool) (a : Act) (row : Values) → a ≡ act.Insert row → table_change together (Some a) ≡ None → P
insert_asks P together a row is none = absurd (let asked : table_change together (Some (act.Insert row)) ≡ None = subst (λ (z : Act). table_change together (Some z) ≡ None) is none in cc)

pub update_asks : (P : Type 0) (together : Bool) (a : Act) (at : ℕ) (row : Values) → a ≡ act.Update at row → table_change together (Some a) ≡ None → P
update_asks P together a at row is none = absurd (let asked : table_change together (Some (act.Update at row)) ≡ None = subst (λ (z : Act). table_change together (Some z) ≡ None) is none in cc)

pub delete_asks : (P : Type 0) (together : Bool) (a : Act) (at : ℕ) → a ≡ act.Delete at → table_change together (Some a) ≡ None → P
delete_asks P together a at is none = absurd (let asked : table_change together (Some (act.Delete at)) ≡ None = subst (λ (z : Act). table_change together (Some z) ≡ None) is none in cc)
