-- A target that stands for a state: what that says of its definitions, its length and its holes.
use Rattle.std.proofs.Common.{◌≡◌, ◌+◌, ◌<◌, ℕ, zero, suc, Bool, true, false, List, [], ◌∷◌, ◌++◌, length, slice_get, Option, Some, None, refl, sym, ap, subst, ◌∙◌, arith}
use Rattle.std.specs.Prelude.{is_some}
use Rattle.myi_base.specs.Holding.{Holding}
use Rattle.myi_defs.specs.declared.types.Defs.{Defs}
use Rattle.myi_state.specs.State.{TableState}
use Rattle.myi_state.specs.Sound.{IsState}
use Rattle.myi_state.specs.declared.counts.Counts.{Counts}
use Rattle.myi_state.specs.Numbers.{counts_of}
use Rattle.myi_history.specs.History.{Taking, in_table, in_member, in_none, is_list, has_hole, in_list}
use Rattle.myi_table.specs.Table as table
use Rattle.myi_table.specs.Table.{OpenTable}
use Rattle.myi_merge.specs.Merged.{OpenMerge, HoldEach}
use Rattle.myi_merge.specs.Changing as list
use Rattle.myi_shell.specs.declared.target.Target.{Target}
use Rattle.myi_shell.specs.declared.target.Target.TheVariants.{One, Many}
use Rattle.myi_shell.specs.Targets.{Standing, taking_by, taking, defs_at, defs_in, index_in, HoldState}
use Rattle.myi_shell.specs.Stepping.{length_in, end_in, holes_in}

-- ---- a table

counts_are : (t : OpenTable) (s : TableState) (m : Holding) → table.HoldState t s m → t.rows.rows.file.counts ≡ counts_of s
counts_are t s m h = h.files.table.rows.0.counts

has_hole_by : (c : Counts) (s : TableState) → c ≡ counts_of s → is_some c.dellink ≡ has_hole in_table s
unfolding counts_of
has_hole_by c s is = ap (λ (k : Counts). is_some k.dellink) is

length_by : (c : Counts) (s : TableState) → c ≡ counts_of s → c.length ≡ s.space.end
unfolding counts_of
length_by c s is = ap (λ (k : Counts). k.length) is

-- ---- of a list nothing is asked

no_hole : (o : Option ℕ) (s : TableState) → false ≡ has_hole (taking_by o) s
no_hole None s = refl
no_hole (Some i) s = refl

no_end : (o : Option ℕ) (s : TableState) → 0 ≡ end_in (taking_by o) s
no_end None s = refl
no_end (Some i) s = refl

pub are_list : (o : Option ℕ) → is_list (taking_by o) ≡ true
are_list None = refl
are_list (Some i) = refl

pub holes_are : (t : Target) (s : Standing) (m : Holding) → HoldState t s m → holes_in t ≡ has_hole (taking t) s.table
holes_are (One t) s m h = has_hole_by t.rows.rows.file.counts s.table (counts_are t s.table m h)
holes_are (Many g) s m h = no_hole (list.target g) s.table

pub length_is : (t : Target) (s : Standing) (m : Holding) → HoldState t s m → length_in t ≡ end_in (taking t) s.table
length_is (One t) s m h = length_by t.rows.rows.file.counts s.table (counts_are t s.table m h)
length_is (Many g) s m h = no_end (list.target g) s.table

-- ---- the state of the table that takes the rows

pub holds_at : (ts : List OpenTable) (front back : List TableState) (s : TableState) (m : Holding) → HoldEach ts (front ++ s ∷ back) m → (t : OpenTable) × (slice_get ts (length front) ≡ Some t) × table.HoldState t s m
holds_at [] [] back s m h = absurd h
holds_at [] (q ∷ front) back s m h = absurd h
holds_at (t ∷ ts) [] back s m h = (t, refl, h.0)
holds_at (t ∷ ts) (q ∷ front) back s m h = holds_at ts front back s m h.1

pub state_is : (t : Target) (s : Standing) (m : Holding) → HoldState t s m → IsState (defs_in t) s.table
state_is (One t) s m h = h.files.table.table.state
state_is (Many g) s m h =
    let k = holds_at g.tables s.beside.front s.beside.back s.table m h.0 in
    let is : slice_get g.tables (index_in g) ≡ Some k.0 = ap (λ i. slice_get g.tables i) (sym h.1) ∙ k.1 in
    subst (λ (o : Option OpenTable). IsState (defs_at o) s.table) (sym is) k.2.files.table.table.state
