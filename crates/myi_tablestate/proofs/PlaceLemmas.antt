-- Positions of rows and their pointers.
use Rattle.std.proofs.Common.{◌≡◌, ◌≢◌, ℕ, suc, ◌+◌, ◌*◌, ◌/◌, ◌<◌, List, [], ◌∷◌, ◌++◌, Some, None, refl, sym, ap, subst, ◌∙◌, arith}
use Rattle.std.specs.List.{AllByRecursion}
use Rattle.std.proofs.lemmas.Nat.{div-mul-add}
use Rattle.myi_defs.specs.declared.types.RowFormat.{RowFormat}
use Rattle.myi_defs.specs.declared.types.RowFormat.TheVariants.{Static, Dynamic}
use Rattle.myi_defs.specs.declared.types.Defs.{Defs}
use Rattle.myi_defs.specs.Sound.{IsSound}
use Rattle.myi_dellist.specs.Areas.{Area}
use Rattle.myi_dellist.specs.Order.{Follow, in_order}
use Rattle.myi_dellist.specs.Standing.{first_or}
use Rattle.myi_dellist.proofs.CallerLemmas.{tiles-follow}
use Rattle.myi_state.specs.State.{StoredRow, TableState, row_areas}
use Rattle.myi_state.specs.Sound.{IsSlot, AreOneSlot, AreBlocks, AreHoles, IsRow, IsState}
use Rattle.myi_state.proofs.CallerLemmas.{in-order-all, order-back, state-bytes, slot-some}
use Rattle.myi_pair.specs.KeyList.{pointer_by}
use Rattle.myi_tablestate.specs.Listed.{position_by}

-- the position of a row is found again from its pointer
abbrev pub IsBack : RowFormat → ℕ → ℕ → Type 0
IsBack f size p = position_by f size (pointer_by f size p) ≡ p

-- so many slots from the beginning of the file
record IsMultiple (size p : ℕ) : Type 0 where
  pub count : ℕ
  pub is : p ≡ count * size

abbrev BeginsSlot : ℕ → Area → Type 0
BeginsSlot size a = IsMultiple size a.at

multiples : (size n end p : ℕ) (areas : List Area) → p ≡ n * size → AllByRecursion (IsSlot size) areas → Follow end p areas → AllByRecursion (BeginsSlot size) areas
multiples size n end p [] at slots follow = tt
multiples size n end p (a ∷ areas) at slots follow =
    (record { count = n; is = follow.0 ∙ at }, multiples size (suc n) end (p + a.size) areas (omega (arith, at, slots.0)) slots.1 follow.1)

one_slot : (size : ℕ) (areas rest : List Area) → AreOneSlot size areas → AllByRecursion (IsSlot size) rest → AllByRecursion (IsSlot size) (areas ++ rest)
one_slot size [] rest one all = absurd one
one_slot size (a ∷ []) rest one all = (one, all)
one_slot size (a ∷ b ∷ areas) rest one all = absurd one

-- a row of a static table: its slot, and where it stands
abbrev HasSlot : ℕ → StoredRow → Type 0
HasSlot size r = (first_or r.blocks None ≡ Some r.at) × AreOneSlot size r.blocks

assoc : (xs ys zs : List Area) → xs ++ (ys ++ zs) ≡ (xs ++ ys) ++ zs
assoc [] ys zs = refl
assoc (x ∷ xs) ys zs = ap (λ (r : List Area). x ∷ r) (assoc xs ys zs)

all_slots : (size : ℕ) (rows : List StoredRow) (rest : List Area) → AllByRecursion (HasSlot size) rows → AllByRecursion (IsSlot size) rest → AllByRecursion (IsSlot size) (row_areas rows ++ rest)
all_slots size [] rest all more = more
all_slots size (r ∷ rows) rest all more =
    subst (λ (xs : List Area). AllByRecursion (IsSlot size) xs) (assoc r.blocks (row_areas rows) rest) (one_slot size r.blocks (row_areas rows ++ rest) all.0.1 (all_slots size rows rest all.1 more))

slot_at : (size p : ℕ) (areas rest : List Area) → first_or areas None ≡ Some p → AreOneSlot size areas → AllByRecursion (BeginsSlot size) (areas ++ rest) → IsMultiple size p × AllByRecursion (BeginsSlot size) rest
slot_at size p [] rest at one all = absurd one
slot_at size p (a ∷ []) rest at one all =
    let here : a.at ≡ p = cc in
    (subst (λ (q : ℕ). IsMultiple size q) here all.0, all.1)
slot_at size p (a ∷ b ∷ areas) rest at one all = absurd one

row_multiples : (size : ℕ) (rows : List StoredRow) (rest : List Area) → AllByRecursion (HasSlot size) rows → AllByRecursion (BeginsSlot size) (row_areas rows ++ rest) → AllByRecursion (λ (r : StoredRow). IsMultiple size r.at) rows
row_multiples size [] rest all begin = tt
row_multiples size (r ∷ rows) rest all begin =
    let here = slot_at size r.at r.blocks (row_areas rows ++ rest) all.0.0 all.0.1 (subst (λ (xs : List Area). AllByRecursion (BeginsSlot size) xs) (sym (assoc r.blocks (row_areas rows) rest)) begin) in
    (here.0, row_multiples size rows rest all.1 here.1)

multiple_back : (size p : ℕ) → 0 < size → IsMultiple size p → IsBack Static size p
multiple_back size p some m =
    let count : p / size ≡ m.count = ap (λ (q : ℕ). q / size) (m.is ∙ omega arith) ∙ div-mul-add m.count size 0 some in
    ap (λ (n : ℕ). n * size) count ∙ sym m.is

static_back : (size : ℕ) (rows : List StoredRow) → 0 < size → AllByRecursion (λ (r : StoredRow). IsMultiple size r.at) rows → AllByRecursion (λ (r : StoredRow). IsBack Static size r.at) rows
static_back size [] some all = tt
static_back size (r ∷ rows) some all = (multiple_back size r.at some all.0, static_back size rows some all.1)

dynamic_back : (size : ℕ) (rows : List StoredRow) → AllByRecursion (λ (r : StoredRow). IsBack Dynamic size r.at) rows
dynamic_back size [] = tt
dynamic_back size (r ∷ rows) = (refl, dynamic_back size rows)

-- a row stands where its first block does, and has such blocks
abbrev HasPlace : RowFormat → ℕ → StoredRow → Type 0
HasPlace f size r = (first_or r.blocks None ≡ Some r.at) × AreBlocks f size r.blocks

have_places : (d : Defs) (rows : List StoredRow) → AllByRecursion (IsRow d) rows → AllByRecursion (HasPlace d.format d.slot_length) rows
have_places d [] all = tt
have_places d (r ∷ rows) all = ((all.0.place, all.0.blocks), have_places d rows all.1)

back_by : (f : RowFormat) (size end : ℕ) (rows : List StoredRow) (holes : List Area) → (f ≡ Static → 0 < size) → AllByRecursion (HasPlace f size) rows → AreHoles f size holes → Follow end 0 (in_order (row_areas rows ++ holes))
    → AllByRecursion (λ (r : StoredRow). IsBack f size r.at) rows
back_by Static size end rows holes some places gone follow =
    let all = row_areas rows ++ holes in
    let slots = in-order-all (IsSlot size) all (all_slots size rows holes places gone) in
    let begin = order-back (BeginsSlot size) all (multiples size 0 end 0 (in_order all) (omega arith) slots follow) in
    static_back size rows (some refl) (row_multiples size rows holes places begin)
back_by Dynamic size end rows holes some places gone follow = dynamic_back size rows

-- in a table each row's position is found again from its pointer
pub rows_back : (d : Defs) (s : TableState) → IsSound d → IsState d s → AllByRecursion (λ (r : StoredRow). IsBack d.format d.slot_length r.at) s.rows
rows_back d s sound i =
    let all = row_areas s.rows ++ s.space.holes in
    back_by d.format d.slot_length s.space.end s.rows s.space.holes (slot-some d sound) (have_places d s.rows i.rows) i.holes (tiles-follow s.space.end all (state-bytes d s sound i) i.tile)

-- rows at two positions have two pointers
pub pointers_differ : (f : RowFormat) (size p q : ℕ) → IsBack f size p → IsBack f size q → p ≢ q → pointer_by f size p ≢ pointer_by f size q
pointers_differ f size p q one other differ same = differ (sym one ∙ ap (λ (n : ℕ). position_by f size n) same ∙ other)
