-- A clean pair stands for a table.
use Rattle.std.proofs.Common.{◌≡◌, ℕ, zero, suc, ◌+◌, ◌-◌, ◌*◌, ◌/◌, ◌^◌, ◌%◌, ◌<◌, ◌≤◌, inl, inr, Bool, true, false, cond, ◌&&◌, ◌||◌, List, [], ◌∷◌, ◌++◌, length, map, take, drop, Option, Some, None, refl, sym, ap, subst, ◌∙◌, arith, div-mul-le_self}
use Rattle.std.specs.Prelude.{nat_le, nat_lt, is_some, option_and_then, option_map, unwrap_or, slice_index}
use Rattle.std.specs.List.{AllByRecursion, list_any, filter, flat_map, sum_by}
use Rattle.std.specs.List.Sorted.{IsPermutation}
use Rattle.std.specs.Option.{option_map_or}
use Rattle.std.proofs.lemmas.Bool.{eqb-true, leb-true, ltb-true}
use Rattle.std.proofs.lemmas.List.{drop-drop, length-take-le, length-drop}
use Rattle.std.proofs.lemmas.List.Elements.{All-from_recursion, recursion_from_All}
use Rattle.std.proofs.lemmas.List.Sorted.{IsPermutation-map, IsPermutation-append_right, All-permutation, sum_by-IsPermutation}
use Rattle.std.proofs.lemmas.List.Sums.{sum_by-cons}
use Rattle.myi_base.specs.Numbers.{AreBytes}
use Rattle.myi_base.specs.Ranges.{Range, are_apart, is_apart}
use Rattle.myi_defs.specs.declared.types.RowFormat.{RowFormat}
use Rattle.myi_defs.specs.declared.types.RowFormat.TheVariants.{Static, Dynamic}
use Rattle.myi_defs.specs.declared.types.Defs.{Defs}
use Rattle.myi_defs.specs.Sound.{IsSound}
use Rattle.myi_frames.specs.declared.form.FrameKind.{FrameKind}
use Rattle.myi_frames.specs.declared.form.FrameKind.TheVariants.{Deleted, Whole, Start, Middle, End}
use Rattle.myi_frames.specs.Block.{Block, block_of}
use Rattle.myi_frames.proofs.CallerLemmas.{block-stands, block-bounded}
use Rattle.myi_pack.specs.Packed.{Values}
use Rattle.myi_pack.specs.Unpacking.{row_of}
use Rattle.myi_chain.specs.Chain as chain
use Rattle.myi_chain.specs.Chain.{IsChain, IsTail, AreLinked, range_of, ranges, row_bytes}
use Rattle.myi_chain.specs.Readable.{Row, Item, row, free, rows_of, frees_of, rest}
use Rattle.myi_chain.specs.Readable as chains
use Rattle.myi_chain.specs.Meeting.{IsRowOf, IsDeletedOf, IsItemOf, ranges_of}
use Rattle.myi_chain.proofs.CallerLemmas.{blocks_read, rest_fine}
use Rattle.myi_dellist.specs.Areas.{Area, below, bytes_below, Tile, IsApart, AreApart, AreInside, Holds}
use Rattle.myi_dellist.specs.Releasing.{IsHole, IsFreeable}
use Rattle.myi_dellist.specs.Standing.{first_or, IsPart, hole_block}
use Rattle.myi_dellist.proofs.CallerLemmas.{covered-tile, tile-apart}
use Rattle.myi_data.specs.Slots.{Slot, slots}
use Rattle.myi_data.specs.Readable.{packs, slot_items, items_at, items_by, items_in, readable, deleted}
use Rattle.myi_data.proofs.CallerLemmas.{rows_apart, slot_cases}
use Rattle.myi_state.specs.State.{StoredRow, TableState, row_areas}
use Rattle.myi_state.specs.Sound.{AreInOrder, AreBlocks, IsSlot, AreHoles, IsRow, IsState}
use Rattle.myi_state.specs.Standing.{area_of_block, slot_bytes, RowStands, ListSlots, HolesStand, StandsFor, area_of_range, stored_row}
use Rattle.myi_pair.specs.Clean.{covers, IsCovered, next_by, NamesByFormat, NamesBefore, Follows, next_deleted}

-- ---- what is read, by the format

-- a row that is read in a slot
pub record IsSlotRow (d : Defs) (x : List ℕ) (r : Row) : Type 0 where
  pub inside : r.at + d.slot_length ≤ length x
  pub bytes : r.bytes ≡ slot_bytes d x r.at
  pub blocks : r.blocks ≡ (r.at, r.at + d.slot_length) ∷ []
  pub packs : packs d r.bytes ≡ true

-- a deleted slot begins at a place
pub record IsFreeSlot (d : Defs) (x : List ℕ) (p : ℕ) : Type 0 where
  pub inside : p + d.slot_length ≤ length x
  pub first : slice_index (slot_bytes d x p) 0 ≡ 0

-- a deleted block begins at a place
pub record IsFreeBlock (x : List ℕ) (p : ℕ) : Type 0 where
  pub block : Block
  pub here : block_of x p ≡ Some block
  pub kind : block.kind ≡ Deleted

abbrev pub IsRowBy : RowFormat → Defs → List ℕ → Row → Type 0
IsRowBy Static d x r = IsSlotRow d x r
IsRowBy Dynamic d x r = IsRowOf (block_of x) (packs d) r

abbrev pub IsFreeBy : RowFormat → Defs → List ℕ → ℕ → Type 0
IsFreeBy Static d x p = IsFreeSlot d x p
IsFreeBy Dynamic d x p = IsFreeBlock x p

-- how long the deleted block at a place is
abbrev size_by : RowFormat → Defs → List ℕ → ℕ → ℕ
size_by Static d x p = d.slot_length
size_by Dynamic d x p = option_map_or (λ (b : Block). b.size) (block_of x p) 0

abbrev hole_by : RowFormat → Defs → List ℕ → ℕ → Area
hole_by f d x p = record { at = p; size = size_by f d x p }

-- a range is that of the deleted block where it begins
pub record IsGoneBy (f : RowFormat) (d : Defs) (x : List ℕ) (a : Range) : Type 0 where
  pub here : IsFreeBy f d x a.0
  pub end : a.1 ≡ a.0 + size_by f d x a.0
  pub inside : a.1 ≤ length x

abbrev pub IsMet : RowFormat → Defs → List ℕ → Item → Type 0
IsMet f d x (row r) = IsRowBy f d x r
IsMet f d x (free a) = IsGoneBy f d x a

all_both : {A : Type 0} (P : A → Type 0) (xs ys : List A) → AllByRecursion P xs → AllByRecursion P ys → AllByRecursion P (xs ++ ys)
all_both P [] ys one more = more
all_both P (x ∷ xs) ys one more = (one.0, all_both P xs ys one.1 more)

-- ---- slots

drop_both : (p size : ℕ) (x : List ℕ) → drop size (drop p x) ≡ drop (p + size) x
drop_both p size x = drop-drop size p x

slots_met : (d : Defs) (x : List ℕ) (n p : ℕ) → p + n * d.slot_length ≤ length x → AllByRecursion (IsMet Static d x) (flat_map (slot_items (packs d)) (slots n p d.slot_length (drop p x)))
slots_met d x zero p inside = tt
slots_met d x (suc n) p inside =
    let size = d.slot_length in
    let slot : Slot = record { at = p; bytes = take size (drop p x) } in
    let here : p + size ≤ length x = omega (arith, inside) in
    let long : length (take size (drop p x)) ≡ size = length-take-le size (drop p x) (omega (arith, here, length-drop p x)) in
    let end : p + length (take size (drop p x)) ≡ p + size = ap (λ (k : ℕ). p + k) long in
    let later = subst (λ (ys : List ℕ). AllByRecursion (IsMet Static d x) (flat_map (slot_items (packs d)) (slots n (p + size) size ys))) (sym (drop_both p size x)) (slots_met d x n (p + size) (omega (arith, inside))) in
    let more = flat_map (slot_items (packs d)) (slots n (p + size) size (drop size (drop p x))) in
    slot_cases (λ (is : List Item). AllByRecursion (IsMet Static d x) (is ++ more)) (packs d) slot
    (λ gone. (record { here = record { inside = here; first = eqb-true (slice_index slot.bytes 0) 0 gone }; end = end; inside = omega (arith, end, here) }, later))
    (λ is. (record { inside = here; bytes = refl; blocks = ap (λ (k : ℕ). (p, k) ∷ []) end; packs = is }, later))
    later

-- ---- blocks

block_met : (d : Defs) (x : List ℕ) (i : Item) → IsItemOf (block_of x) (packs d) i → IsMet Dynamic d x i
block_met d x (row r) is = is
block_met d x (free a) is =
    let b = is.block in
    let at : b.at ≡ a.0 = ap (λ (r : Range). r.0) (sym is.range) in
    let end : a.1 ≡ b.at + b.size = ap (λ (r : Range). r.1) is.range in
    let own : size_by Dynamic d x a.0 ≡ b.size = ap (λ (o : Option Block). option_map_or (λ (c : Block). c.size) o 0) is.here in
    record {
      here = record { block = b; here = is.here; kind = is.kind };
      end = omega (arith, at, end, own);
      inside = omega (arith, at, end, (block-stands x a.0 b is.here).inside);
    }

blocks_met : (d : Defs) (x : List ℕ) (is : List Item) → AllByRecursion (IsItemOf (block_of x) (packs d)) is → AllByRecursion (IsMet Dynamic d x) is
blocks_met d x [] all = tt
blocks_met d x (i ∷ is) all = (block_met d x i all.0, blocks_met d x is all.1)

items_met : (d : Defs) (x : List ℕ) (f : RowFormat) → AllByRecursion (IsMet f d x) (items_by f d false x)
unfolding items_at chains.items_in
items_met d x Static = let le = div-mul-le_self (length x) d.slot_length in slots_met d x (length x / d.slot_length) 0 (omega (arith, le))
items_met d x Dynamic = blocks_met d x (rest false (block_of x) (length x) (packs d) 0 []) (rest_fine (block_of x) (length x) (blocks_read x) false (packs d) 0 []).0

rows_met_in : (f : RowFormat) (d : Defs) (x : List ℕ) (is : List Item) → AllByRecursion (IsMet f d x) is → AllByRecursion (IsRowBy f d x) (rows_of is)
rows_met_in f d x [] all = tt
rows_met_in f d x (row r ∷ is) all = (all.0, rows_met_in f d x is all.1)
rows_met_in f d x (free a ∷ is) all = rows_met_in f d x is all.1

frees_met_in : (f : RowFormat) (d : Defs) (x : List ℕ) (is : List Item) → AllByRecursion (IsMet f d x) is → AllByRecursion (IsGoneBy f d x) (frees_of is)
frees_met_in f d x [] all = tt
frees_met_in f d x (row r ∷ is) all = frees_met_in f d x is all.1
frees_met_in f d x (free a ∷ is) all = (all.0, frees_met_in f d x is all.1)

filtered : {A : Type 0} (P : A → Type 0) (test : A → Bool) (xs : List A) → AllByRecursion P xs → AllByRecursion P (filter test xs)
filtered P test [] all = tt
filtered P test (x ∷ xs) all = by (test x) (filtered P test xs all.1)
  where
    by : (b : Bool) → AllByRecursion P (filter test xs) → AllByRecursion P (cond b (x ∷ filter test xs) (filter test xs))
    by true more = (all.0, more)
    by false more = more

pub rows_by : (d : Defs) (x : List ℕ) → AllByRecursion (IsRowBy d.format d x) (readable d false x)
unfolding readable items_in
rows_by d x = rows_met_in d.format d x (items_by d.format d false x) (items_met d x d.format)

pub gone_by : (d : Defs) (x : List ℕ) → AllByRecursion (IsGoneBy d.format d x) (deleted d x)
unfolding deleted items_in
gone_by d x = filtered (IsGoneBy d.format d x) (λ (a : Range). is_apart a (ranges_of (readable d false x))) (frees_of (items_by d.format d false x)) (frees_met_in d.format d x (items_by d.format d false x) (items_met d x d.format))

-- ---- the rows stand

packed_values : (d : Defs) (b : List ℕ) (o : Option Values) → row_of d b ≡ o → is_some o ≡ true → row_of d b ≡ Some (unwrap_or (row_of d b) [])
packed_values d b None e is = absurd cc
packed_values d b (Some v) e is = e ∙ ap Some (sym (ap (λ (q : Option Values). unwrap_or q []) e))

areas_of_blocks : (bs : List Block) → map area_of_block bs ≡ map area_of_range (ranges bs)
areas_of_blocks [] = refl
areas_of_blocks (b ∷ bs) =
    let size : b.size ≡ b.at + b.size - b.at = omega arith in
    ap (λ (k : ℕ). record { at = b.at; size = k } ∷ map area_of_block bs) size ∙ ap (λ (gs : List Area). record { at = b.at; size = b.at + b.size - b.at } ∷ gs) (areas_of_blocks bs)

row_stands : (f : RowFormat) (d : Defs) (x : List ℕ) (r : Row) → IsRowBy f d x r → RowStands f d x (stored_row d r)
row_stands Static d x r is = sym (ap (row_of d) is.bytes) ∙ packed_values d r.bytes (row_of d r.bytes) refl is.packs
row_stands Dynamic d x r is = record {
  chain = is.chain;
  is = is.is;
  blocks = areas_of_blocks is.chain ∙ ap (λ (rs : List Range). map area_of_range rs) (sym is.blocks);
  packs = sym (ap (row_of d) is.bytes) ∙ packed_values d r.bytes (row_of d r.bytes) refl is.packs;
}

pub rows_stand : (f : RowFormat) (d : Defs) (x : List ℕ) (rows : List Row) → AllByRecursion (IsRowBy f d x) rows → AllByRecursion (RowStands f d x) (map (stored_row d) rows)
rows_stand f d x [] all = tt
rows_stand f d x (r ∷ rows) all = (row_stands f d x r all.0, rows_stand f d x rows all.1)

-- ---- the rows have their blocks

freeable : (x : List ℕ) (p : ℕ) (b : Block) → AreBytes x → block_of x p ≡ Some b → IsFreeable (area_of_block b)
freeable x p b bytes here =
    let s = block-stands x p b here in
    let small = (block-bounded x p b bytes here).size in
    record { aligned = subst (λ (q : ℕ). q % 4 ≡ 0) (sym s.at) s.aligned; multiple = s.multiple; least = s.least; most = omega (arith, small) }

tail_freeable : (x : List ℕ) (next : Option ℕ) (bs : List Block) → AreBytes x → IsTail (block_of x) next bs → AllByRecursion IsFreeable (map area_of_block bs)
tail_freeable x None bs bytes t = absurd t
tail_freeable x (Some p) [] bytes t = tt
tail_freeable x (Some p) (b ∷ []) bytes t = (freeable x p b bytes t.0, tt)
tail_freeable x (Some p) (b ∷ c ∷ bs) bytes t = (freeable x p b bytes t.0, tail_freeable x b.next (c ∷ bs) bytes t.2)

linked_freeable : (x : List ℕ) (p : ℕ) (bs : List Block) → AreBytes x → AreLinked (block_of x) p bs → AllByRecursion IsFreeable (map area_of_block bs) × (first_or (map area_of_block bs) None ≡ Some p)
linked_freeable x p [] bytes l = absurd l
linked_freeable x p (b ∷ []) bytes l = ((freeable x p b bytes l.0, tt), ap Some (block-stands x p b l.0).at)
linked_freeable x p (b ∷ c ∷ bs) bytes l = ((freeable x p b bytes l.0, tail_freeable x b.next (c ∷ bs) bytes l.2), ap Some (block-stands x p b l.0).at)

-- a row stands where its first block does, and has such blocks
abbrev HasPlace : RowFormat → ℕ → StoredRow → Type 0
HasPlace f size r = (first_or r.blocks None ≡ Some r.at) × AreBlocks f size r.blocks

row_placed : (f : RowFormat) (d : Defs) (x : List ℕ) (r : Row) → AreBytes x → IsRowBy f d x r → HasPlace f d.slot_length (stored_row d r)
row_placed Static d x r bytes is =
    let size : r.at + d.slot_length - r.at ≡ d.slot_length = omega arith in
    subst (λ (rs : List Range). (first_or (map area_of_range rs) None ≡ Some r.at) × AreBlocks Static d.slot_length (map area_of_range rs)) (sym is.blocks) (refl, size)
row_placed Dynamic d x r bytes is =
    let own = linked_freeable x r.at is.chain bytes is.is.linked in
    let same : map area_of_block is.chain ≡ map area_of_range r.blocks = areas_of_blocks is.chain ∙ ap (λ (rs : List Range). map area_of_range rs) (sym is.blocks) in
    subst (λ (gs : List Area). (first_or gs None ≡ Some r.at) × AllByRecursion IsFreeable gs) same (own.1, own.0)

are_rows : (d : Defs) (x : List ℕ) (rows : List Row) → AreBytes x → AllByRecursion (IsRowBy d.format d x) rows → AllByRecursion (IsRow d) (map (stored_row d) rows)
are_rows d x [] bytes all = tt
are_rows d x (r ∷ rows) bytes all = let p = row_placed d.format d x r bytes all.0 in (record { place = p.0; blocks = p.1 }, are_rows d x rows bytes all.1)

pub all_rows : (d : Defs) (x : List ℕ) → AreBytes x → AllByRecursion (IsRow d) (map (stored_row d) (readable d false x))
all_rows d x bytes = are_rows d x (readable d false x) bytes (rows_by d x)

pub all_stand : (d : Defs) (x : List ℕ) → AllByRecursion (RowStands d.format d x) (map (stored_row d) (readable d false x))
all_stand d x = rows_stand d.format d x (readable d false x) (rows_by d x)

in_order_rows : (d : Defs) (low : ℕ) (rows : List Row) → Rattle.myi_chain.specs.Meeting.AreRising low rows → AreInOrder low (map (stored_row d) rows)
in_order_rows d low [] rise = tt
in_order_rows d low (r ∷ rows) rise = (rise.0, in_order_rows d (r.at + 1) rows rise.1)

pub rows_in_order : (d : Defs) (x : List ℕ) → Rattle.myi_chain.specs.Meeting.AreRising 0 (readable d false x) → AreInOrder 0 (map (stored_row d) (readable d false x))
rows_in_order d x rise = in_order_rows d 0 (readable d false x) rise

-- ---- the deleted blocks

-- the deleted blocks at places
abbrev pub holes_at : Defs → List ℕ → List ℕ → List Area
holes_at d x ps = map (hole_by d.format d x) ps

places_free : (f : RowFormat) (d : Defs) (x : List ℕ) (gs : List Range) → AllByRecursion (IsGoneBy f d x) gs → AllByRecursion (IsFreeBy f d x) (map (λ (a : Range). a.0) gs)
places_free f d x [] all = tt
places_free f d x (a ∷ gs) all = (all.0.here, places_free f d x gs all.1)

permuted : {A : Type 0} (P : A → Type 0) (xs ys : List A) → IsPermutation xs ys → AllByRecursion P xs → AllByRecursion P ys
permuted P xs ys same all = recursion_from_All P ys (All-permutation P xs ys same (All-from_recursion P xs all))

pub listed_free : (d : Defs) (x : List ℕ) (ps : List ℕ) → IsPermutation (map (λ (a : Range). a.0) (deleted d x)) ps → AllByRecursion (IsFreeBy d.format d x) ps
listed_free d x ps same = permuted (IsFreeBy d.format d x) (map (λ (a : Range). a.0) (deleted d x)) ps same (places_free d.format d x (deleted d x) (gone_by d x))

hole_areas : (f : RowFormat) (d : Defs) (x : List ℕ) (gs : List Range) → AllByRecursion (IsGoneBy f d x) gs → map area_of_range gs ≡ map (hole_by f d x) (map (λ (a : Range). a.0) gs)
hole_areas f d x [] all = refl
hole_areas f d x (a ∷ gs) all =
    let size : a.1 - a.0 ≡ size_by f d x a.0 = omega (arith, all.0.end) in
    ap (λ (k : ℕ). record { at = a.0; size = k } ∷ map area_of_range gs) size ∙ ap (λ (hs : List Area). hole_by f d x a.0 ∷ hs) (hole_areas f d x gs all.1)

-- they are those of the file in another order
pub holes_permute : (d : Defs) (x : List ℕ) (ps : List ℕ) → IsPermutation (map (λ (a : Range). a.0) (deleted d x)) ps → IsPermutation (map area_of_range (deleted d x)) (holes_at d x ps)
holes_permute d x ps same =
    subst (λ (hs : List Area). IsPermutation hs (holes_at d x ps)) (sym (hole_areas d.format d x (deleted d x) (gone_by d x))) (IsPermutation-map (hole_by d.format d x) (map (λ (a : Range). a.0) (deleted d x)) ps same)

-- ---- each byte belongs to one

-- the ranges of rows and then those of deleted blocks have no byte twice
more_apart : (used rs : List Range) (gs : List Range) → chain.AreApart used rs → chain.AreApart (used ++ rs) gs → chain.AreApart used (rs ++ gs)
more_apart used [] gs one more = subst (λ (us : List Range). chain.AreApart us gs) (append_none used) more
  where
    append_none : (xs : List Range) → xs ++ [] ≡ xs
    append_none [] = refl
    append_none (x ∷ xs) = ap (λ (ys : List Range). x ∷ ys) (append_none xs)
more_apart used (r ∷ rs) gs one more = (one.0, more_apart (used ++ r ∷ []) rs gs one.1 (subst (λ (us : List Range). chain.AreApart us gs) (assoc used (r ∷ []) rs) more))
  where
    assoc : (xs ys zs : List Range) → xs ++ (ys ++ zs) ≡ (xs ++ ys) ++ zs
    assoc [] ys zs = refl
    assoc (x ∷ xs) ys zs = ap (λ (us : List Range). x ∷ us) (assoc xs ys zs)

-- deleted blocks come one behind the other
abbrev pub AreBehind : ℕ → List Range → Type 0
AreBehind low [] = Unit {0}
AreBehind low (a ∷ gs) = (low ≤ a.0) × (a.0 ≤ a.1) × AreBehind a.1 gs

-- all of these end at or before a place
abbrev EndBy : ℕ → List Range → Type 0
EndBy p rs = AllByRecursion (λ (r : Range). r.1 ≤ p) rs

or_right : (a b : Bool) → b ≡ true → (a || b) ≡ true
or_right true b is = refl
or_right false b is = is

and_both : (a b : Bool) → a ≡ true → b ≡ true → (a && b) ≡ true
and_both a b one other = rw one (rw other refl)

apart_end : (p : ℕ) (a : Range) (rs : List Range) → p ≤ a.0 → EndBy p rs → is_apart a rs ≡ true
apart_end p a [] low end = refl
apart_end p a (r ∷ rs) low end = and_both (are_apart a r) (is_apart a rs) (or_right (nat_le a.1 r.0) (nat_le r.1 a.0) (Rattle.std.proofs.lemmas.Bool.le-leb r.1 a.0 (omega (arith, low, end.0)))) (apart_end p a rs low end.1)

apart_append : (a : Range) (rs more : List Range) → is_apart a rs ≡ true → is_apart a more ≡ true → is_apart a (rs ++ more) ≡ true
apart_append a [] more one other = other
apart_append a (r ∷ rs) more one other = by (are_apart a r) one (λ is. apart_append a rs more is other)
  where
    by : (b : Bool) → (b && is_apart a rs) ≡ true → (is_apart a rs ≡ true → is_apart a (rs ++ more) ≡ true) → (b && is_apart a (rs ++ more)) ≡ true
    by true is both = both is
    by false is both = absurd cc

end_more : (p q : ℕ) (rs : List Range) → p ≤ q → EndBy p rs → EndBy q rs
end_more p q [] le end = tt
end_more p q (r ∷ rs) le end = (omega (arith, le, end.0), end_more p q rs le end.1)

assoc_ranges : (xs ys zs : List Range) → (xs ++ ys) ++ zs ≡ xs ++ (ys ++ zs)
assoc_ranges [] ys zs = refl
assoc_ranges (x ∷ xs) ys zs = ap (λ (us : List Range). x ∷ us) (assoc_ranges xs ys zs)

gone_apart : (own before gs : List Range) (low : ℕ) → EndBy low before → AreBehind low gs → AllByRecursion (λ (a : Range). is_apart a own ≡ true) gs → chain.AreApart (own ++ before) gs
gone_apart own before [] low end behind far = tt
gone_apart own before (a ∷ gs) low end behind far = (
  apart_append a own before far.0 (apart_end low a before behind.0 end),
  subst (λ (us : List Range). chain.AreApart us gs) (sym (assoc_ranges own before (a ∷ [])))
      (gone_apart own (before ++ a ∷ []) gs a.1 (all_both (λ (r : Range). r.1 ≤ a.1) before (a ∷ []) (end_more low a.1 before (omega (arith, behind.0, behind.1)) end) (omega arith, tt)) behind.2 far.1),
)

pub all_apart : (own gs : List Range) → chain.AreApart [] own → AreBehind 0 gs → AllByRecursion (λ (a : Range). is_apart a own ≡ true) gs → chain.AreApart [] (own ++ gs)
all_apart own gs rows behind far = more_apart [] own gs rows (subst (λ (us : List Range). chain.AreApart us gs) (append_none own) (gone_apart own [] gs 0 tt behind far))
  where
    append_none : (xs : List Range) → xs ++ [] ≡ xs
    append_none [] = refl
    append_none (x ∷ xs) = ap (λ (ys : List Range). x ∷ ys) (append_none xs)

-- areas and their ranges
far_of : (a r : Range) → a.0 ≤ a.1 → r.0 ≤ r.1 → are_apart a r ≡ true → IsApart (area_of_range r) (area_of_range a)
far_of a r one other is = by (nat_le a.1 r.0) refl is
  where
    by : (b : Bool) → nat_le a.1 r.0 ≡ b → (b || nat_le r.1 a.0) ≡ true → IsApart (area_of_range r) (area_of_range a)
    by true first is = inr (omega (arith, leb-true a.1 r.0 first, one))
    by false first is = inl (omega (arith, leb-true r.1 a.0 is, other))

-- a range apart from these, with these before it
abbrev AreRanges : List Range → Type 0
AreRanges rs = AllByRecursion (λ (r : Range). r.0 ≤ r.1) rs

split_apart : (a : Range) (xs ys : List Range) → is_apart a (xs ++ ys) ≡ true → is_apart a ys ≡ true
split_apart a [] ys is = is
split_apart a (x ∷ xs) ys is = by (are_apart a x) is (split_apart a xs ys)
  where
    by : (b : Bool) → (b && is_apart a (xs ++ ys)) ≡ true → (is_apart a (xs ++ ys) ≡ true → is_apart a ys ≡ true) → is_apart a ys ≡ true
    by true is more = more is
    by false is more = absurd cc

apart_first : (used : List Range) (r : Range) (rs : List Range) (more : List Range) → r.0 ≤ r.1 → AreRanges rs → chain.AreApart (used ++ r ∷ more) rs → AllByRecursion (IsApart (area_of_range r)) (map area_of_range rs)
apart_first used r [] more one all apart = tt
apart_first used r (s ∷ rs) more one all apart = (
  far_of s r all.0 one (first (are_apart s r) (split_apart s used (r ∷ more) apart.0)),
  apart_first used r rs (more ++ s ∷ []) one all.1 (subst (λ (us : List Range). chain.AreApart us rs) (assoc_ranges used (r ∷ more) (s ∷ [])) apart.1),
)
  where
    first : (b : Bool) → (b && is_apart s more) ≡ true → b ≡ true
    first true is = refl
    first false is = absurd cc

areas_apart : (used rs : List Range) → AreRanges rs → chain.AreApart used rs → AreApart (map area_of_range rs)
areas_apart used [] all apart = tt
areas_apart used (r ∷ rs) all apart = (apart_first used r rs [] all.0 all.1 apart.1, areas_apart (used ++ r ∷ []) rs all.1 apart.1)

covers_holds : (p : ℕ) (rs : List Range) → AreRanges rs → list_any (covers p) rs ≡ true → Holds p (map area_of_range rs)
covers_holds p [] all is = absurd cc
covers_holds p (r ∷ rs) all is = by (nat_le r.0 p) (nat_lt p r.1) refl refl is (covers_holds p rs all.1)
  where
    by : (a b : Bool) → nat_le r.0 p ≡ a → nat_lt p r.1 ≡ b → ((a && b) || list_any (covers p) rs) ≡ true → (list_any (covers p) rs ≡ true → Holds p (map area_of_range rs)) → Holds p (map area_of_range (r ∷ rs))
    by true true low high is more = inl (leb-true r.0 p low, omega (arith, ltb-true p r.1 high, all.0))
    by true false low high is more = inr (more is)
    by false b low high is more = inr (more is)

ranges_inside : (end : ℕ) (rs : List Range) → AllByRecursion (λ (r : Range). (r.0 ≤ r.1) × (r.1 ≤ end)) rs → AreRanges rs × AreInside end (map area_of_range rs)
ranges_inside end [] all = (tt, tt)
ranges_inside end (r ∷ rs) all = let more = ranges_inside end rs all.1 in ((all.0.0, more.0), (omega (arith, all.0.0, all.0.1), more.1))

pub ranges_tile : (end : ℕ) (rs : List Range) → AllByRecursion (λ (r : Range). (r.0 ≤ r.1) × (r.1 ≤ end)) rs → chain.AreApart [] rs → ((p : ℕ) → p < end → list_any (covers p) rs ≡ true) → Tile end (map area_of_range rs)
ranges_tile end rs all apart full =
    let are = ranges_inside end rs all in
    covered-tile end (map area_of_range rs) (areas_apart [] rs are.0 apart) are.1 (λ p inside. covers_holds p rs are.0 (full p inside))

-- in another order they tile too
below_sum : (p : ℕ) (areas : List Area) → bytes_below p areas ≡ sum_by (below p) areas
below_sum p [] = refl
below_sum p (a ∷ areas) = ap (λ (n : ℕ). below p a + n) (below_sum p areas) ∙ sym (sum_by-cons (below p) a areas)

pub permuted_tile : (end : ℕ) (xs ys : List Area) → IsPermutation xs ys → Tile end xs → Tile end ys
permuted_tile end xs ys same tile p = below_sum p ys ∙ sum_by-IsPermutation (below p) xs ys same ∙ sym (below_sum p xs) ∙ tile p

-- ---- the ranges of rows and deleted blocks

abbrev pub IsRange : ℕ → Range → Type 0
IsRange end r = (r.0 ≤ r.1) × (r.1 ≤ end)

tail_ranges : (x : List ℕ) (next : Option ℕ) (bs : List Block) → IsTail (block_of x) next bs → AllByRecursion (IsRange (length x)) (ranges bs)
tail_ranges x None bs t = absurd t
tail_ranges x (Some p) [] t = tt
tail_ranges x (Some p) (b ∷ []) t = let s = block-stands x p b t.0 in ((omega arith, omega (arith, s.at, s.inside)), tt)
tail_ranges x (Some p) (b ∷ c ∷ bs) t = let s = block-stands x p b t.0 in ((omega arith, omega (arith, s.at, s.inside)), tail_ranges x b.next (c ∷ bs) t.2)

linked_ranges : (x : List ℕ) (p : ℕ) (bs : List Block) → AreLinked (block_of x) p bs → AllByRecursion (IsRange (length x)) (ranges bs)
linked_ranges x p [] l = absurd l
linked_ranges x p (b ∷ []) l = let s = block-stands x p b l.0 in ((omega arith, omega (arith, s.at, s.inside)), tt)
linked_ranges x p (b ∷ c ∷ bs) l = let s = block-stands x p b l.0 in ((omega arith, omega (arith, s.at, s.inside)), tail_ranges x b.next (c ∷ bs) l.2)

row_ranges_in : (f : RowFormat) (d : Defs) (x : List ℕ) (r : Row) → IsRowBy f d x r → AllByRecursion (IsRange (length x)) r.blocks
row_ranges_in Static d x r is = subst (λ (rs : List Range). AllByRecursion (IsRange (length x)) rs) (sym is.blocks) ((omega arith, is.inside), tt)
row_ranges_in Dynamic d x r is = subst (λ (rs : List Range). AllByRecursion (IsRange (length x)) rs) (sym is.blocks) (linked_ranges x r.at is.chain is.is.linked)

rows_ranges : (f : RowFormat) (d : Defs) (x : List ℕ) (rows : List Row) → AllByRecursion (IsRowBy f d x) rows → AllByRecursion (IsRange (length x)) (ranges_of rows)
rows_ranges f d x [] all = tt
rows_ranges f d x (r ∷ rows) all = all_both (IsRange (length x)) r.blocks (ranges_of rows) (row_ranges_in f d x r all.0) (rows_ranges f d x rows all.1)

gone_ranges : (f : RowFormat) (d : Defs) (x : List ℕ) (gs : List Range) → AllByRecursion (IsGoneBy f d x) gs → AllByRecursion (IsRange (length x)) gs
gone_ranges f d x [] all = tt
gone_ranges f d x (a ∷ gs) all = ((omega (arith, all.0.end), all.0.inside), gone_ranges f d x gs all.1)

filter_passes : {A : Type 0} (test : A → Bool) (xs : List A) → AllByRecursion (λ (x : A). test x ≡ true) (filter test xs)
filter_passes test [] = tt
filter_passes {A} test (x ∷ xs) = by (test x) refl (filter_passes test xs)
  where
    by : (b : Bool) → test x ≡ b → AllByRecursion (λ (x : A). test x ≡ true) (filter test xs) → AllByRecursion (λ (x : A). test x ≡ true) (cond b (x ∷ filter test xs) (filter test xs))
    by true is more = (is, more)
    by false is more = more

behind_lower : (low more : ℕ) (gs : List Range) → low ≤ more → AreBehind more gs → AreBehind low gs
behind_lower low more [] le behind = tt
behind_lower low more (a ∷ gs) le behind = (omega (arith, le, behind.0), behind.1, behind.2)

filter_behind : (test : Range → Bool) (low : ℕ) (gs : List Range) → AreBehind low gs → AreBehind low (filter test gs)
filter_behind test low [] behind = tt
filter_behind test low (a ∷ gs) behind = by (test a) (filter_behind test a.1 gs behind.2)
  where
    by : (b : Bool) → AreBehind a.1 (filter test gs) → AreBehind low (cond b (a ∷ filter test gs) (filter test gs))
    by true more = (behind.0, behind.1, more)
    by false more = behind_lower low a.1 (filter test gs) (omega (arith, behind.0, behind.1)) more

rise_behind : (d : Defs) (x : List ℕ) (low : ℕ) (is : List Item) → AllByRecursion (IsMet Dynamic d x) is → Rattle.myi_chain.specs.Meeting.ItemsRise low is → AreBehind low (frees_of is)
rise_behind d x low [] all rise = tt
rise_behind d x low (row r ∷ is) all rise = behind_lower low (r.at + 1) (frees_of is) (omega (arith, rise.0)) (rise_behind d x (r.at + 1) is all.1 rise.1)
rise_behind d x low (free a ∷ is) all rise = (rise.0, omega (arith, all.0.end), rise_behind d x a.1 is all.1 rise.1)

slots_behind : (d : Defs) (n p : ℕ) (xs : List ℕ) → n * d.slot_length ≤ length xs → AreBehind p (frees_of (flat_map (slot_items (packs d)) (slots n p d.slot_length xs)))
slots_behind d zero p xs inside = tt
slots_behind d (suc n) p xs inside =
    let size = d.slot_length in
    let slot : Slot = record { at = p; bytes = take size xs } in
    let long : length (take size xs) ≡ size = length-take-le size xs (omega (arith, inside)) in
    let more = flat_map (slot_items (packs d)) (slots n (p + size) size (drop size xs)) in
    let later : AreBehind (p + size) (frees_of more) = slots_behind d n (p + size) (drop size xs) (omega (arith, inside, length-drop size xs)) in
    slot_cases (λ (is : List Item). AreBehind p (frees_of (is ++ more))) (packs d) slot
    (λ gone. (omega arith, omega arith, subst (λ (q : ℕ). AreBehind q (frees_of more)) (ap (λ (k : ℕ). p + k) (sym long)) later))
    (λ is. behind_lower p (p + size) (frees_of more) (omega arith) later)
    (behind_lower p (p + size) (frees_of more) (omega arith) later)

abbrev pub Rises : Defs → List ℕ → Type 0
Rises d x = Rattle.myi_chain.specs.Meeting.ItemsRise 0 (rest false (block_of x) (length x) (packs d) 0 [])

frees_behind : (f : RowFormat) (d : Defs) (x : List ℕ) → Rises d x → AreBehind 0 (frees_of (items_by f d false x))
unfolding items_at chains.items_in
frees_behind Static d x rise = slots_behind d (length x / d.slot_length) 0 x (div-mul-le_self (length x) d.slot_length)
frees_behind Dynamic d x rise = rise_behind d x 0 (rest false (block_of x) (length x) (packs d) 0 []) (items_met d x Dynamic) rise

deleted_behind : (d : Defs) (x : List ℕ) → Rises d x → AreBehind 0 (deleted d x)
unfolding deleted items_in
deleted_behind d x rise = filter_behind (λ (a : Range). is_apart a (ranges_of (readable d false x))) 0 (frees_of (items_by d.format d false x)) (frees_behind d.format d x rise)

deleted_far : (d : Defs) (x : List ℕ) → AllByRecursion (λ (a : Range). is_apart a (ranges_of (readable d false x)) ≡ true) (deleted d x)
unfolding deleted
deleted_far d x = filter_passes (λ (a : Range). is_apart a (ranges_of (readable d false x))) (frees_of (items_in d false x))

row_areas_are : (d : Defs) (rows : List Row) → row_areas (map (stored_row d) rows) ≡ map area_of_range (ranges_of rows)
row_areas_are d [] = refl
row_areas_are d (r ∷ rows) = ap (λ (gs : List Area). map area_of_range r.blocks ++ gs) (row_areas_are d rows) ∙ sym (map_both r.blocks (ranges_of rows))
  where
    map_both : (xs ys : List Range) → map area_of_range (xs ++ ys) ≡ map area_of_range xs ++ map area_of_range ys
    map_both [] ys = refl
    map_both (x ∷ xs) ys = ap (λ (gs : List Area). area_of_range x ∷ gs) (map_both xs ys)

map_ranges : (xs ys : List Range) → map area_of_range (xs ++ ys) ≡ map area_of_range xs ++ map area_of_range ys
map_ranges [] ys = refl
map_ranges (x ∷ xs) ys = ap (λ (gs : List Area). area_of_range x ∷ gs) (map_ranges xs ys)

abbrev pub Lists : Defs → List ℕ → List ℕ → Type 0
Lists d x ps = IsPermutation (map (λ (a : Range). a.0) (deleted d x)) ps

pub areas_tile : (d : Defs) (x ps : List ℕ) → IsSound d → Rises d x → IsCovered d x → Lists d x ps → Tile (length x) (row_areas (map (stored_row d) (readable d false x)) ++ holes_at d x ps)
areas_tile d x ps sound rise full same =
    let rows = readable d false x in
    let rs = ranges_of rows in
    let gone = deleted d x in
    let all = all_both (IsRange (length x)) rs gone (rows_ranges d.format d x rows (rows_by d x)) (gone_ranges d.format d x gone (gone_by d x)) in
    let tile = ranges_tile (length x) (rs ++ gone) all (all_apart rs gone (rows_apart d false x sound) (deleted_behind d x rise) (deleted_far d x)) full in
    permuted_tile (length x) (map area_of_range (rs ++ gone)) (row_areas (map (stored_row d) rows) ++ holes_at d x ps)
    (subst (λ (gs : List Area). IsPermutation gs (row_areas (map (stored_row d) rows) ++ holes_at d x ps)) (sym (map_ranges rs gone))
    (subst (λ (gs : List Area). IsPermutation (map area_of_range rs ++ map area_of_range gone) (gs ++ holes_at d x ps)) (sym (row_areas_are d rows))
    (IsPermutation-append_right (map area_of_range rs) (map area_of_range gone) (holes_at d x ps) (holes_permute d x ps same))))
    tile

-- ---- the deleted list stands

next_is : (d : Defs) (x : List ℕ) (f : RowFormat) (before at : Option ℕ) (ps : List ℕ) → Follows d x before at ps → at ≡ first_or (map (hole_by f d x) ps) None
next_is d x f before at [] follows = follows
next_is d x f before at (p ∷ ps) follows = follows.0

slots_listed : (d : Defs) (x : List ℕ) → d.format ≡ Static → (before at : Option ℕ) (ps : List ℕ) → Follows d x before at ps → AllByRecursion (IsFreeSlot d x) ps → ListSlots d x (map (hole_by Static d x) ps)
slots_listed d x static before at [] follows all = tt
slots_listed d x static before at (p ∷ ps) follows all = (
  all.0.first,
  sym (ap (λ (f : RowFormat). next_by f d x p) static) ∙ next_is d x Static (Some p) (next_deleted d x p) ps follows.2,
  slots_listed d x static (Some p) (next_deleted d x p) ps follows.2 all.1,
)

block_same : (b : Block) (at size : ℕ) (next prev : Option ℕ) → b.kind ≡ Deleted → b.at ≡ at → b.size ≡ size → b.rec_len ≡ 0 → b.next ≡ next → b.prev ≡ prev → b.bytes ≡ [] → b ≡ hole_block (record { at = at; size = size }) next prev
block_same b at size next prev k a s l n p c =
    ap (λ (q : FrameKind). record { kind = q; at = b.at; size = b.size; rec_len = b.rec_len; next = b.next; prev = b.prev; bytes = b.bytes }) k
    ∙ ap (λ (q : ℕ). record { kind = Deleted; at = q; size = b.size; rec_len = b.rec_len; next = b.next; prev = b.prev; bytes = b.bytes }) a
    ∙ ap (λ (q : ℕ). record { kind = Deleted; at = at; size = q; rec_len = b.rec_len; next = b.next; prev = b.prev; bytes = b.bytes }) s
    ∙ ap (λ (q : ℕ). record { kind = Deleted; at = at; size = size; rec_len = q; next = b.next; prev = b.prev; bytes = b.bytes }) l
    ∙ ap (λ (q : Option ℕ). record { kind = Deleted; at = at; size = size; rec_len = 0; next = q; prev = b.prev; bytes = b.bytes }) n
    ∙ ap (λ (q : Option ℕ). record { kind = Deleted; at = at; size = size; rec_len = 0; next = next; prev = q; bytes = b.bytes }) p
    ∙ ap (λ (q : List ℕ). record { kind = Deleted; at = at; size = size; rec_len = 0; next = next; prev = prev; bytes = q }) c

of_deleted : (k : FrameKind) (b : Block) → k ≡ Deleted → Rattle.myi_frames.specs.Block.OfKind k b → (b.bytes ≡ []) × (b.rec_len ≡ 0)
of_deleted Deleted b is of = of
of_deleted Whole b is of = absurd cc
of_deleted Start b is of = absurd cc
of_deleted Middle b is of = absurd cc
of_deleted End b is of = absurd cc

some_same : (a b : Option ℕ) → Some a ≡ Some b → a ≡ b
some_same a b is = cc

free_block : (d : Defs) (x : List ℕ) → d.format ≡ Dynamic → (before next : Option ℕ) (p : ℕ) → IsFreeBlock x p → NamesBefore d x p before → next_deleted d x p ≡ next → block_of x p ≡ Some (hole_block (hole_by Dynamic d x p) next before)
free_block d x dynamic before next p is names follows =
    let b = is.block in
    let s = block-stands x p b is.here in
    let of = of_deleted b.kind b is.kind s.kind in
    let prev : option_map (λ (c : Block). c.prev) (block_of x p) ≡ Some before = subst (λ (f : RowFormat). NamesByFormat f x p before) dynamic names in
    let prev2 : b.prev ≡ before = some_same b.prev before (sym (ap (λ (o : Option Block). option_map (λ (c : Block). c.prev) o) is.here) ∙ prev) in
    let next2 : b.next ≡ next = sym (ap (λ (f : RowFormat). next_by f d x p) dynamic ∙ ap (λ (o : Option Block). option_and_then (λ (c : Block). c.next) o) is.here) ∙ follows in
    let size : b.size ≡ size_by Dynamic d x p = sym (ap (λ (o : Option Block). option_map_or (λ (c : Block). c.size) o 0) is.here) in
    is.here ∙ ap Some (block_same b p (size_by Dynamic d x p) next before is.kind s.at size of.1 next2 prev2 of.0)

blocks_listed : (d : Defs) (x : List ℕ) → d.format ≡ Dynamic → (before at : Option ℕ) (ps : List ℕ) → Follows d x before at ps → AllByRecursion (IsFreeBlock x) ps → IsPart x before (map (hole_by Dynamic d x) ps) None
blocks_listed d x dynamic before at [] follows all = tt
blocks_listed d x dynamic before at (p ∷ ps) follows all = (
  free_block d x dynamic before (first_or (map (hole_by Dynamic d x) ps) None) p all.0 follows.1 (next_is d x Dynamic (Some p) (next_deleted d x p) ps follows.2),
  blocks_listed d x dynamic (Some p) (next_deleted d x p) ps follows.2 all.1,
)

-- a deleted block has fewer than 2^24 bytes
small_by : (y : List ℕ) (p len : ℕ) (b : Block) (o : Option Rattle.myi_frames.specs.declared.head.Header.Header) → AreBytes y → Rattle.myi_frames.specs.Block.header_of y p len ≡ o → option_map (Rattle.myi_frames.specs.Block.block_by y) o ≡ Some b → b.kind ≡ Deleted → b.size < 2 ^ 24
small_by y p len b None bytes e is kind = absurd cc
small_by y p len b (Some h) bytes e is kind =
    let same : Rattle.myi_frames.specs.Block.block_by y h ≡ b = cc in
    subst (λ (c : Block). c.size < 2 ^ 24) same (Rattle.myi_frames.proofs.CallerLemmas.header-deleted y p len h bytes e (ap (λ (c : Block). c.kind) same ∙ kind))

bytes_drop : (n : ℕ) (x : List ℕ) → AreBytes x → AreBytes (drop n x)
bytes_drop zero x bytes = bytes
bytes_drop (suc n) [] bytes = bytes
bytes_drop (suc n) (b ∷ x) bytes = bytes_drop n x (λ i. bytes (suc i))

deleted_small : (x : List ℕ) (p : ℕ) (b : Block) → AreBytes x → block_of x p ≡ Some b → b.kind ≡ Deleted → b.size < 2 ^ 24
unfolding block_of
deleted_small x p b bytes here kind = small_by (drop p x) p (length x) b (Rattle.myi_frames.specs.Block.header_of (drop p x) p (length x)) (bytes_drop p x bytes) refl here kind

-- the greatest multiple of 4 below 2^24
fours : (n : ℕ) → n % 4 ≡ 0 → n < 2 ^ 24 → n ≤ 16777212
fours n multiple small = omega (arith, multiple, small)

block_hole : (d : Defs) (x : List ℕ) (p : ℕ) → AreBytes x → IsFreeBlock x p → IsHole (hole_by Dynamic d x p)
block_hole d x p bytes is =
    let b = is.block in
    let s = block-stands x p b is.here in
    let size : b.size ≡ size_by Dynamic d x p = sym (ap (λ (o : Option Block). option_map_or (λ (c : Block). c.size) o 0) is.here) in
    subst (λ (n : ℕ). IsHole (record { at = p; size = n })) size (record { aligned = s.aligned; multiple = s.multiple; least = s.least; most = fours b.size s.multiple (deleted_small x p b bytes is.here is.kind) })

block_holes : (d : Defs) (x ps : List ℕ) → AreBytes x → AllByRecursion (IsFreeBlock x) ps → AllByRecursion IsHole (map (hole_by Dynamic d x) ps)
block_holes d x [] bytes all = tt
block_holes d x (p ∷ ps) bytes all = (block_hole d x p bytes all.0, block_holes d x ps bytes all.1)

slot_holes : (d : Defs) (x ps : List ℕ) → AllByRecursion (IsSlot d.slot_length) (map (hole_by Static d x) ps)
slot_holes d x [] = tt
slot_holes d x (p ∷ ps) = (refl, slot_holes d x ps)

are_holes : (f : RowFormat) (d : Defs) (x ps : List ℕ) → AreBytes x → AllByRecursion (IsFreeBy f d x) ps → AreHoles f d.slot_length (map (hole_by f d x) ps)
are_holes Static d x ps bytes all = slot_holes d x ps
are_holes Dynamic d x ps bytes all = block_holes d x ps bytes all

block_inside : (d : Defs) (x : List ℕ) (ps : List ℕ) → AllByRecursion (IsFreeBlock x) ps → AreInside (length x) (map (hole_by Dynamic d x) ps)
block_inside d x [] all = tt
block_inside d x (p ∷ ps) all =
    let is = all.0 in
    let size : size_by Dynamic d x p ≡ is.block.size = ap (λ (o : Option Block). option_map_or (λ (c : Block). c.size) o 0) is.here in
    (omega (arith, size, (block-stands x p is.block is.here).inside), block_inside d x ps all.1)

right_apart : (xs ys : List Area) → AreApart (xs ++ ys) → AreApart ys
right_apart [] ys apart = apart
right_apart (x ∷ xs) ys apart = right_apart xs ys apart.1

holes_stand : (f : RowFormat) (d : Defs) (x ps : List ℕ) (head : Option ℕ) → d.format ≡ f → AreBytes x → length x < 2 ^ 64 → AreApart (map (hole_by f d x) ps) → Follows d x None head ps → AllByRecursion (IsFreeBy f d x) ps → HolesStand f d x (map (hole_by f d x) ps)
holes_stand Static d x ps head is bytes short apart follows all = slots_listed d x is None head ps follows all
holes_stand Dynamic d x ps head is bytes short apart follows all = record {
  linked = blocks_listed d x is None head ps follows all;
  sizes = block_holes d x ps bytes all;
  inside = block_inside d x ps all;
  apart = apart;
  short = short;
}

-- ---- the state of a clean data file

abbrev pub table_of : Defs → List ℕ → List ℕ → TableState
table_of d x ps = record { rows = map (stored_row d) (readable d false x); space = record { holes = holes_at d x ps; end = length x } }

-- a data file of which each byte belongs to a row or to a deleted block, with its list from a place on
pub record IsListed (d : Defs) (x : List ℕ) (head : Option ℕ) (ps : List ℕ) : Type 0 where
  pub sound : IsSound d
  pub bytes : AreBytes x
  pub short : length x < 2 ^ 64
  pub rise : Rises d x
  pub rising : Rattle.myi_chain.specs.Meeting.AreRising 0 (readable d false x)
  pub full : IsCovered d x
  pub same : Lists d x ps
  pub follows : Follows d x None head ps

pub listed_state : (d : Defs) (x : List ℕ) (head : Option ℕ) (ps : List ℕ) → IsListed d x head ps → IsState d (table_of d x ps)
listed_state d x head ps l = record {
  order = rows_in_order d x l.rising;
  rows = all_rows d x l.bytes;
  holes = are_holes d.format d x ps l.bytes (listed_free d x ps l.same);
  tile = areas_tile d x ps l.sound l.rise l.full l.same;
}

pub listed_stands : (d : Defs) (x : List ℕ) (head : Option ℕ) (ps : List ℕ) → IsListed d x head ps → StandsFor d (table_of d x ps) x
listed_stands d x head ps l =
    let state = listed_state d x head ps l in
    let all = row_areas (map (stored_row d) (readable d false x)) ++ holes_at d x ps in
    let apart = tile-apart (length x) all (Rattle.myi_state.proofs.CallerLemmas.state-bytes d (table_of d x ps) l.sound state) state.tile in
    record {
      state = state;
      long = refl;
      rows = all_stand d x;
      holes = holes_stand d.format d x ps head refl l.bytes l.short (right_apart (row_areas (map (stored_row d) (readable d false x))) (holes_at d x ps) apart) l.follows (listed_free d x ps l.same);
    }

pub listed_head : (d : Defs) (x : List ℕ) (head : Option ℕ) (ps : List ℕ) → Follows d x None head ps → first_or (holes_at d x ps) None ≡ head
listed_head d x head ps follows = sym (next_is d x d.format None head ps follows)
