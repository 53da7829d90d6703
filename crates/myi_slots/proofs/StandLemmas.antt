-- A static data file that stands for a state, and what it stands for once a slot is written.
use Rattle.std.proofs.Common.{◌≡◌, ℕ, ◌+◌, ◌-◌, ◌*◌, ◌/◌, ◌%◌, ◌^◌, ◌<◌, ◌≤◌, ◌⊎◌, inl, inr, Bool, true, false, List, [], ◌∷◌, ◌++◌, length, Option, Some, None, refl, sym, ap, subst, ◌∙◌, arith}
use Rattle.std.specs.Prelude.{◌==◌, nat_le, nat_lt, ◌&&◌}
use Rattle.std.specs.List.{AllByRecursion}
use Rattle.std.proofs.lemmas.Bool.{leb-true, ltb-true, ne_eqb}
use Rattle.std.proofs.Math.Nat.{add-mod_right, lt-div-mul-add, div-lt_iff_lt-mul, zero-mod, mod-add-div'}
use Rattle.myi_base.specs.Holding.{overwritten}
use Rattle.myi_defs.specs.declared.types.RowFormat.{RowFormat}
use Rattle.myi_defs.specs.declared.types.RowFormat.TheVariants.{Static, Dynamic}
use Rattle.myi_defs.specs.declared.types.Defs.{Defs}
use Rattle.myi_defs.specs.Addressable.{is_addressable, pointers}
use Rattle.myi_defs.specs.Sound.{IsSound}
use Rattle.myi_pack.specs.Packed.{Values}
use Rattle.myi_pack.specs.Unpacking.{row_of}
use Rattle.myi_pack.specs.Spelling.{spelling, fits}
use Rattle.myi_pack.proofs.CallerLemmas.{row-reads}
use Rattle.myi_dellist.specs.Areas.{Area, Tile, HaveBytes, IsApart, AreApart, AreInside}
use Rattle.myi_dellist.specs.Order.{in_order, Follow}
use Rattle.myi_dellist.specs.Standing.{first_or}
use Rattle.myi_dellist.proofs.CallerLemmas.{tiles-follow, tile-apart, tile-inside}
use Rattle.myi_state.specs.State.{StoredRow, TableState, row_areas, Taken}
use Rattle.myi_state.specs.Changes.{with_row}
use Rattle.myi_state.specs.Sound.{IsSlot, AreOneSlot, AreBlocks, AreHoles, IsRow, IsState}
use Rattle.myi_state.specs.Standing.{slot_bytes, StandsInSlot, RowStands, HolesStand, named_slot, next_in_slot, ListSlots, StandsFor}
use Rattle.myi_state.proofs.CallerLemmas.{put-all, in-order-all, order-back, apart-across, state-bytes}
use Rattle.myi_slots.specs.SlotBytes.{slot_number, hole_bytes}
use Rattle.myi_slots.proofs.SlotLemmas.{written-slot, InSlots, rows-other, holes-other, hole-first, hole-number, length-hole}

-- ---- a state of a static table

in_slots : (d : Defs) (rows : List StoredRow) → d.format ≡ Static → AllByRecursion (IsRow d) rows → AllByRecursion (InSlots d.slot_length) rows
in_slots d [] static all = tt
in_slots d (r ∷ rows) static all = ((all.0.place, subst (λ (f : RowFormat). AreBlocks f d.slot_length r.blocks) static all.0.blocks), in_slots d rows static all.1)

stand_in_slots : (f : RowFormat) (d : Defs) (x : List ℕ) (rows : List StoredRow) → f ≡ Static → AllByRecursion (RowStands f d x) rows → AllByRecursion (StandsInSlot d x) rows
stand_in_slots Static d x rows e all = all
stand_in_slots Dynamic d x rows e all = absurd cc

slots_stand : (f : RowFormat) (d : Defs) (x : List ℕ) (rows : List StoredRow) → f ≡ Static → AllByRecursion (StandsInSlot d x) rows → AllByRecursion (RowStands f d x) rows
slots_stand Static d x rows e all = all
slots_stand Dynamic d x rows e all = absurd cc

-- what is known of a static file that stands for a state
pub record IsStatic (d : Defs) (s : TableState) (x : List ℕ) : Type 0 where
  pub state : IsState d s
  pub long : length x ≡ s.space.end
  pub slots : AllByRecursion (InSlots d.slot_length) s.rows
  pub stand : AllByRecursion (StandsInSlot d x) s.rows
  pub holes : AllByRecursion (IsSlot d.slot_length) s.space.holes
  pub list : ListSlots d x s.space.holes

pub static-of : (d : Defs) (s : TableState) (x : List ℕ) → d.format ≡ Static → StandsFor d s x → IsStatic d s x
static-of d s x static k = record {
  state = k.state;
  long = k.long;
  slots = in_slots d s.rows static k.state.rows;
  stand = stand_in_slots d.format d x s.rows static k.rows;
  holes = subst (λ (f : RowFormat). AreHoles f d.slot_length s.space.holes) static k.state.holes;
  list = subst (λ (f : RowFormat). HolesStand f d x s.space.holes) static k.holes;
}

pub stands-by : (d : Defs) (s : TableState) (x : List ℕ) → d.format ≡ Static → IsState d s → length x ≡ s.space.end → AllByRecursion (StandsInSlot d x) s.rows → ListSlots d x s.space.holes → StandsFor d s x
stands-by d s x static state long rows holes = record {
  state = state;
  long = long;
  rows = slots_stand d.format d x s.rows static rows;
  holes = subst (λ (f : RowFormat). HolesStand f d x s.space.holes) (sym static) holes;
}

-- ---- the areas

inside_both : (end : ℕ) (xs ys : List Area) → AreInside end (xs ++ ys) → AreInside end xs × AreInside end ys
inside_both end [] ys all = (tt, all)
inside_both end (x ∷ xs) ys all = let t = inside_both end xs ys all.1 in ((all.0, t.0), t.1)

apart_behind : (xs ys : List Area) → AreApart (xs ++ ys) → AreApart ys
apart_behind [] ys apart = apart
apart_behind (x ∷ xs) ys apart = apart_behind xs ys apart.1

pub record AreFree (x : List ℕ) (a : Area) (rows : List StoredRow) (holes : List Area) : Type 0 where
  pub rows_far : AllByRecursion (IsApart a) (row_areas rows)
  pub holes_far : AllByRecursion (IsApart a) holes
  pub rows_inside : AreInside (length x) (row_areas rows)
  pub holes_inside : AreInside (length x) holes

-- areas of a tiled file, of which one is written
pub free-in : (end : ℕ) (x : List ℕ) (a : Area) (rows : List StoredRow) (holes : List Area) → length x ≡ end → HaveBytes (row_areas rows ++ (a ∷ holes)) → Tile end (row_areas rows ++ (a ∷ holes)) → AreFree x a rows holes
free-in end x a rows holes long bytes tile =
    let apart = tile-apart end (row_areas rows ++ (a ∷ holes)) bytes tile in
    let inside = subst (λ (n : ℕ). AreInside n (row_areas rows ++ (a ∷ holes))) (sym long) (tile-inside end (row_areas rows ++ (a ∷ holes)) bytes tile) in
    let i = inside_both (length x) (row_areas rows) (a ∷ holes) inside in
    record {
      rows_far = (apart-across (row_areas rows) (a ∷ holes) apart).0;
      holes_far = (apart_behind (row_areas rows) (a ∷ holes) apart).0;
      rows_inside = i.0;
      holes_inside = i.1.1;
    }

-- a slot behind the end
pub free-behind : (d : Defs) (s : TableState) (x : List ℕ) → IsSound d → IsStatic d s x → AreFree x (record { at = s.space.end; size = d.slot_length }) s.rows s.space.holes
free-behind d s x sound k =
    let all = row_areas s.rows ++ s.space.holes in
    let inside = tile-inside s.space.end all (state-bytes d s sound k.state) k.state.tile in
    let i = inside_both s.space.end (row_areas s.rows) s.space.holes inside in
    record {
      rows_far = behind (row_areas s.rows) i.0;
      holes_far = behind s.space.holes i.1;
      rows_inside = subst (λ (n : ℕ). AreInside n (row_areas s.rows)) (sym k.long) i.0;
      holes_inside = subst (λ (n : ℕ). AreInside n s.space.holes) (sym k.long) i.1;
    }
  where
    behind : (areas : List Area) → AreInside s.space.end areas → AllByRecursion (IsApart (record { at = s.space.end; size = d.slot_length })) areas
    behind [] all = tt
    behind (a ∷ areas) all = (inr all.0, behind areas all.1)

-- ---- slots stand at multiples of their size

sized_follow : (size end p : ℕ) (areas : List Area) → p % size ≡ 0 → AllByRecursion (IsSlot size) areas → Follow end p areas → AllByRecursion (λ (a : Area). a.at % size ≡ 0) areas
sized_follow size end p [] m all f = tt
sized_follow size end p (a ∷ areas) m all f =
    let next : (p + a.size) % size ≡ 0 = ap (λ (n : ℕ). (p + n) % size) all.0 ∙ add-mod_right p size ∙ m in
    (ap (λ (q : ℕ). q % size) f.0 ∙ m, sized_follow size end (p + a.size) areas next all.1 f.1)

abbrev pub AreMultiples : ℕ → List Area → Type 0
AreMultiples size areas = AllByRecursion (λ (a : Area). a.at % size ≡ 0) areas

one_slots : (size : ℕ) (areas rest : List Area) → AreOneSlot size areas → AllByRecursion (IsSlot size) rest → AllByRecursion (IsSlot size) (areas ++ rest)
one_slots size [] rest one more = absurd one
one_slots size (a ∷ []) rest one more = (one, more)
one_slots size (a ∷ b ∷ areas) rest one more = absurd one

assoc : (xs ys zs : List Area) → xs ++ (ys ++ zs) ≡ (xs ++ ys) ++ zs
assoc [] ys zs = refl
assoc (x ∷ xs) ys zs = ap (λ (r : List Area). x ∷ r) (assoc xs ys zs)

pub all-slots : (size : ℕ) (rows : List StoredRow) (holes : List Area) → AllByRecursion (InSlots size) rows → AllByRecursion (IsSlot size) holes → AllByRecursion (IsSlot size) (row_areas rows ++ holes)
all-slots size [] holes all more = more
all-slots size (r ∷ rows) holes all more =
    subst (λ (xs : List Area). AllByRecursion (IsSlot size) xs) (assoc r.blocks (row_areas rows) holes)
    (one_slots size r.blocks (row_areas rows ++ holes) all.0.1 (all-slots size rows holes all.1 more))

pub multiples : (d : Defs) (s : TableState) (x : List ℕ) → IsSound d → IsStatic d s x → AreMultiples d.slot_length (row_areas s.rows ++ s.space.holes)
multiples d s x sound k =
    let all = row_areas s.rows ++ s.space.holes in
    let follow = tiles-follow s.space.end all (state-bytes d s sound k.state) k.state.tile in
    let slots = all-slots d.slot_length s.rows s.space.holes k.slots k.holes in
    order-back (λ (a : Area). a.at % d.slot_length ≡ 0) all (sized_follow d.slot_length s.space.end 0 (in_order all) (zero-mod d.slot_length) (in-order-all (IsSlot d.slot_length) all slots) follow)

-- ---- numbers of slots

pub few-slots : (d : Defs) (end : ℕ) → d.format ≡ Static → is_addressable d end ≡ true → (end ≤ 2 ^ 40) × (end / d.slot_length < 256 ^ d.rec_ref - 1)
unfolding is_addressable
few-slots d end static e =
    let t = halves (nat_le end (2 ^ 40)) (nat_lt (pointers d.format d.slot_length end) (256 ^ d.rec_ref - 1)) e in
    (leb-true _ _ t.0, subst (λ (f : RowFormat). pointers f d.slot_length end < 256 ^ d.rec_ref - 1) static (ltb-true _ _ t.1))
  where
    halves : (a b : Bool) → (a && b) ≡ true → (a ≡ true) × (b ≡ true)
    halves true b e = (refl, e)
    halves false b e = absurd cc

slot_below : (size at end most : ℕ) → 0 < size → at + size ≤ end → end / size < most → at / size < most
slot_below size at end most some le few =
    let last : end < end / size * size + size = lt-div-mul-add some in
    let low : at < end / size * size = omega (arith, last, le) in
    let less : at / size < end / size = (div-lt_iff_lt-mul some).1 low in
    omega (arith, few, less)

pub number-fits : (d : Defs) (end : ℕ) (next : Option ℕ) (at : ℕ) → 0 < d.slot_length → end / d.slot_length < 256 ^ d.rec_ref - 1 → (next ≡ None) ⊎ ((next ≡ Some at) × (at + d.slot_length ≤ end)) → slot_number d.slot_length d.rec_ref next < 256 ^ d.rec_ref
number-fits d end next at some few (inl e) = subst (λ (o : Option ℕ). slot_number d.slot_length d.rec_ref o < 256 ^ d.rec_ref) (sym e) (omega (arith, few))
number-fits d end next at some few (inr e) = subst (λ (o : Option ℕ). slot_number d.slot_length d.rec_ref o < 256 ^ d.rec_ref) (sym e.0) (omega (arith, slot_below d.slot_length at end (256 ^ d.rec_ref - 1) some e.1 few))

pub number-names : (d : Defs) (end : ℕ) (at : ℕ) → 0 < d.slot_length → end / d.slot_length < 256 ^ d.rec_ref - 1 → at % d.slot_length ≡ 0 → at + d.slot_length ≤ end → named_slot d.slot_length d.rec_ref (at / d.slot_length) ≡ Some at
number-names d end at some few m le =
    let small = slot_below d.slot_length at end (256 ^ d.rec_ref - 1) some le few in
    let other : (at / d.slot_length == 256 ^ d.rec_ref - 1) ≡ false = ne_eqb _ _ (omega (arith, small)) in
    let back : at / d.slot_length * d.slot_length ≡ at = omega (arith, mod-add-div' at d.slot_length, m) in
    rw other (ap (λ (n : ℕ). Some n) back)

-- ---- a row is written

-- The values of a row take a slot among other rows; the slot shares no byte with what else stands.
pub row-written : (d : Defs) (at : ℕ) (values : Values) (t : Taken) (rows : List StoredRow) (a : Area) (x : List ℕ) → IsSound d → d.format ≡ Static → fits d values ≡ true → length (spelling d values) ≡ d.slot_length → a.at ≡ at → a.size ≡ d.slot_length → AreFree x a rows t.space.holes → IsState d (with_row at values t rows).state → length (overwritten at (spelling d values) x) ≡ t.space.end → AllByRecursion (InSlots d.slot_length) rows → AllByRecursion (StandsInSlot d x) rows → AllByRecursion (IsSlot d.slot_length) t.space.holes → ListSlots d x t.space.holes → StandsFor d (with_row at values t rows).state (overwritten at (spelling d values) x)
row-written d at values t rows a x sound static fit sized here size free state long slots stand holes list =
    let bytes = spelling d values in
    let e = overwritten a.at bytes x in
    let few : length bytes ≤ a.size = omega (arith, sized, size) in
    let others = rows-other d a bytes x rows slots free.rows_far free.rows_inside few stand in
    let own : row_of d (slot_bytes d (overwritten a.at bytes x) a.at) ≡ Some values = ap (λ (y : List ℕ). row_of d y) (written-slot d a.at bytes x sized) ∙ row-reads d values sound fit in
    let r : StoredRow = record { at = at; values = values; blocks = t.blocks } in
    let moved : AllByRecursion (StandsInSlot d (overwritten at bytes x)) rows = subst (λ (p : ℕ). AllByRecursion (StandsInSlot d (overwritten p bytes x)) rows) here others in
    let there : row_of d (slot_bytes d (overwritten at bytes x) at) ≡ Some values = subst (λ (p : ℕ). row_of d (slot_bytes d (overwritten p bytes x) p) ≡ Some values) here own in
    let gone = holes-other d a bytes x t.space.holes (sound.slot_pointer static) holes free.holes_far free.holes_inside few list in
    stands-by d (with_row at values t rows).state (overwritten at bytes x) static state long (put-all (StandsInSlot d (overwritten at bytes x)) r rows there moved) (subst (λ (p : ℕ). ListSlots d (overwritten p bytes x) t.space.holes) here gone)

-- ---- a slot becomes deleted

-- how the first of a list of deleted slots stands in a file
pub record IsHead (d : Defs) (end : ℕ) (holes : List Area) : Type 0 where
  pub fits : slot_number d.slot_length d.rec_ref (first_or holes None) < 256 ^ d.rec_ref
  pub names : named_slot d.slot_length d.rec_ref (slot_number d.slot_length d.rec_ref (first_or holes None)) ≡ first_or holes None

none_named : (size width n : ℕ) → n ≡ 256 ^ width - 1 → named_slot size width n ≡ None
none_named size width n e = let same : (n == 256 ^ width - 1) ≡ true = grind (arith, e) in rw same refl

pub head-is : (d : Defs) (end : ℕ) (holes : List Area) → 0 < d.slot_length → end / d.slot_length < 256 ^ d.rec_ref - 1 → AreMultiples d.slot_length holes → AllByRecursion (IsSlot d.slot_length) holes → AreInside end holes → IsHead d end holes
head-is d end [] some few m slots inside = record { fits = omega (arith, few); names = none_named d.slot_length d.rec_ref (256 ^ d.rec_ref - 1) refl }
head-is d end (h ∷ holes) some few m slots inside =
    let le : h.at + d.slot_length ≤ end = omega (arith, inside.0, slots.0) in
    record { fits = number-fits d end (Some h.at) h.at some few (inr (refl, le)); names = number-names d end h.at some few m.0 le }

pub hole-written : (d : Defs) (s t : TableState) (at : ℕ) (rows : List StoredRow) (a : Area) (x : List ℕ) → IsSound d → d.format ≡ Static → a.at ≡ at → a.size ≡ d.slot_length → AreFree x a rows s.space.holes → IsHead d s.space.end s.space.holes → t.rows ≡ rows → t.space.holes ≡ a ∷ s.space.holes → IsState d t → length (overwritten at (hole_bytes d.slot_length d.rec_ref (first_or s.space.holes None)) x) ≡ t.space.end → AllByRecursion (InSlots d.slot_length) rows → AllByRecursion (StandsInSlot d x) rows → AllByRecursion (IsSlot d.slot_length) s.space.holes → ListSlots d x s.space.holes → StandsFor d t (overwritten at (hole_bytes d.slot_length d.rec_ref (first_or s.space.holes None)) x)
hole-written d s t at rows a x sound static here size free head same_rows same_holes state long slots stand holes list =
    let bytes = hole_bytes d.slot_length d.rec_ref (first_or s.space.holes None) in
    let wide = sound.slot_pointer static in
    let few : length bytes ≤ a.size = omega (arith, length-hole d.slot_length d.rec_ref (first_or s.space.holes None), wide, size) in
    let e = overwritten a.at bytes x in
    let others = rows-other d a bytes x rows slots free.rows_far free.rows_inside few stand in
    let gone = holes-other d a bytes x s.space.holes wide holes free.holes_far free.holes_inside few list in
    let zero_first = hole-first d a.at (first_or s.space.holes None) x (omega (arith, wide)) in
    let next : next_in_slot d e a.at ≡ first_or s.space.holes None = ap (λ (n : ℕ). named_slot d.slot_length d.rec_ref n) (hole-number d a.at (first_or s.space.holes None) x head.fits) ∙ head.names in
    let listed : ListSlots d e (a ∷ s.space.holes) = (zero_first, next, gone) in
    let f = λ (p : ℕ). overwritten p bytes x in
    stands-by d t (overwritten at bytes x) static state long
    (subst (λ (q : List StoredRow). AllByRecursion (StandsInSlot d (overwritten at bytes x)) q) (sym same_rows) (subst (λ (p : ℕ). AllByRecursion (StandsInSlot d (overwritten p bytes x)) rows) here others))
    (subst (λ (q : List Area). ListSlots d (overwritten at bytes x) q) (sym same_holes) (subst (λ (p : ℕ). ListSlots d (overwritten p bytes x) (a ∷ s.space.holes)) here listed))
