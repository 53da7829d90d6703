-- A file that stands for a state, in either format, shows its rows and deleted blocks.
use Rattle.std.proofs.Common.{◌≡◌, ℕ, ◌+◌, ◌-◌, ◌<◌, ◌≤◌, Bool, true, false, List, [], ◌∷◌, ◌++◌, append_assoc, length, map, take, drop, Option, Some, None, refl, sym, ap, subst, ◌∙◌, arith}
use Rattle.std.specs.Prelude.{is_some, sum_by, nat_le, if◌then◌else◌}
use Rattle.std.specs.List.{AllByRecursion, list_any}
use Rattle.std.proofs.lemmas.List.{length-map, length-take-le}
use Rattle.std.proofs.lemmas.List.Sums.{sum_by-cons}
use Rattle.std.proofs.Common.{length-drop}
use Rattle.myi_base.specs.Ranges.{Range}
use Rattle.myi_defs.specs.declared.types.RowFormat.{RowFormat}
use Rattle.myi_defs.specs.declared.types.RowFormat.TheVariants.{Static, Dynamic}
use Rattle.myi_defs.specs.declared.types.Defs.{Defs}
use Rattle.myi_defs.specs.Sound.{IsSound}
use Rattle.myi_frames.specs.Block.{Block, block_of}
use Rattle.myi_pack.specs.Packed.{Values}
use Rattle.myi_chain.specs.Chain.{Reading, IsReading, IsChain, IsTail, AreLinked, range_of, ranges, row_bytes}
use Rattle.myi_chain.specs.Readable.{Row, Item, row, free, row_at}
use Rattle.myi_chain.specs.Readable as chains
use Rattle.myi_chain.specs.Chain as chain
use Rattle.myi_chain.specs.Meeting.{IsRowOf, IsDeletedOf, ranges_of}
use Rattle.myi_chain.specs.Parts.{row_ranges, has_byte}
use Rattle.myi_dellist.specs.Areas.{Area, AreInside}
use Rattle.myi_dellist.specs.Order.{put_in, in_order, Follow}
use Rattle.myi_dellist.specs.Standing as list
use Rattle.myi_dellist.proofs.CallerLemmas.{tiles-follow, tile-apart, tile-inside, tile-holds}
use Rattle.myi_data.specs.Readable.{packs, items_at, items_in, readable, deleted}
use Rattle.myi_state.specs.declared.counts.Counts.{Counts}
use Rattle.myi_state.specs.State.{StoredRow, TableState, row_areas}
use Rattle.myi_state.specs.Sound.{IsSlot, AreOneSlot, AreBlocks, AreHoles, IsRow, IsState}
use Rattle.myi_state.specs.Numbers.{total_bytes, counts_of}
use Rattle.myi_state.specs.Standing.{area_of_block, StandsInBlocks, slot_bytes, StandsInSlot, RowStands, ListSlots, HolesStand, StandsFor, range_of_area, stored_row}
use Rattle.myi_state.proofs.TakenLemmas.{in-order-all}
use Rattle.myi_state.proofs.KeptLemmas.{slot-some}
use Rattle.myi_state.proofs.CellLemmas.{ranges-both, ranges-apart, free-of-none, holds-range}
use Rattle.myi_state.proofs.ShownLemmas.{FindsChains, shown_block, row-shows, hole-shows, IsOfBlock, block_own, parts-shown, shown_slot, static-shown, slot-row-shows, slot-holes-show}
use Rattle.myi_state.proofs.ReadLemmas.{Shows, met_rows, met_ranges, Reads, reads-by, state-bytes, ReadsParts, IsCovered}

-- ---- static tables

cut_long : (size at : ℕ) (x : List ℕ) → at + size ≤ length x → length (take size (drop at x)) ≡ size
cut_long size at x le = length-take-le size (drop at x) (omega (arith, length-drop at x, le))

slot_row : (d : Defs) (x : List ℕ) (end : ℕ) (r : StoredRow) (blocks : List Area) → d.format ≡ Static → length x ≡ end → AreOneSlot d.slot_length blocks → AreInside end blocks → list.first_or blocks None ≡ Some r.at → r.blocks ≡ blocks → StandsInSlot d x r → Shows (shown_slot d x) d r
slot_row d x end r [] static long one inside place same stands = absurd one
slot_row d x end r (a ∷ []) static long one inside place same stands =
    let at : a.at ≡ r.at = cc in
    let sized : length (slot_bytes d x r.at) ≡ a.size = cut_long d.slot_length r.at x (omega (arith, inside.0, at, long, one)) ∙ sym one in
    record {
      met = record { at = r.at; bytes = slot_bytes d x r.at; blocks = range_of_area a ∷ [] };
      at = refl;
      values = stands;
      ranges_are = ap (λ (xs : List Area). map range_of_area xs) (sym same);
      head = a;
      more = [];
      is = same;
      there = at;
      shown = slot-row-shows d x r a static stands at sized;
      nothing = tt;
    }
slot_row d x end r (a ∷ b ∷ blocks) static long one inside place same stands = absurd one

inside_left : (end : ℕ) (xs ys : List Area) → AreInside end (xs ++ ys) → AreInside end xs × AreInside end ys
inside_left end [] ys all = (tt, all)
inside_left end (x ∷ xs) ys all = let t = inside_left end xs ys all.1 in ((all.0, t.0), t.1)

slot_rows : (d : Defs) (x : List ℕ) (end : ℕ) (rows : List StoredRow) → d.format ≡ Static → length x ≡ end → AllByRecursion (λ (r : StoredRow). (list.first_or r.blocks None ≡ Some r.at) × AreOneSlot d.slot_length r.blocks) rows → AreInside end (row_areas rows) → AllByRecursion (StandsInSlot d x) rows → AllByRecursion (Shows (shown_slot d x) d) rows
slot_rows d x end [] static long all inside stands = tt
slot_rows d x end (r ∷ rows) static long all inside stands =
    let t = inside_left end r.blocks (row_areas rows) inside in
    (slot_row d x end r r.blocks static long all.0.1 t.0 all.0.0 refl stands.0, slot_rows d x end rows static long all.1 t.1 stands.1)

hole_slots : (d : Defs) (x : List ℕ) (end : ℕ) (holes : List Area) → length x ≡ end → AllByRecursion (IsSlot d.slot_length) holes → AreInside end holes → AllByRecursion (λ (a : Area). length (slot_bytes d x a.at) ≡ a.size) holes
hole_slots d x end [] long all inside = tt
hole_slots d x end (a ∷ holes) long all inside =
    (cut_long d.slot_length a.at x (omega (arith, inside.0, long, all.0)) ∙ sym all.0, hole_slots d x end holes long all.1 inside.1)

one_slots : (size : ℕ) (areas rest : List Area) → AreOneSlot size areas → AllByRecursion (IsSlot size) rest → AllByRecursion (IsSlot size) (areas ++ rest)
one_slots size [] rest one more = absurd one
one_slots size (a ∷ []) rest one more = (one, more)
one_slots size (a ∷ b ∷ areas) rest one more = absurd one

all_slots : (size : ℕ) (rows : List StoredRow) (holes : List Area) → AllByRecursion (λ (r : StoredRow). (list.first_or r.blocks None ≡ Some r.at) × AreOneSlot size r.blocks) rows → AllByRecursion (IsSlot size) holes → AllByRecursion (IsSlot size) (row_areas rows ++ holes)
all_slots size [] holes all more = more
all_slots size (r ∷ rows) holes all more =
    subst (λ (xs : List Area). AllByRecursion (IsSlot size) xs) (sym (append_assoc r.blocks (row_areas rows) holes))
    (one_slots size r.blocks (row_areas rows ++ holes) all.0.1 (all_slots size rows holes all.1 more))

items_static : (d : Defs) (x : List ℕ) → d.format ≡ Static → items_in d false x ≡ items_at (packs d) d.slot_length 0 x
unfolding items_in
items_static d x static = rw static refl

-- ---- dynamic tables

pub chain-ranges : (bs : List Block) → map range_of_area (map area_of_block bs) ≡ ranges bs
chain-ranges [] = refl
chain-ranges (b ∷ bs) = ap (λ (xs : List Range). range_of b ∷ xs) (chain-ranges bs)

block_row : (d : Defs) (x : List ℕ) → IsReading (block_of x) (length x) → FindsChains x → (r : StoredRow) → StandsInBlocks d x r → Shows (shown_block x) d r
block_row d x reads finds r s =
    let w = row-shows x d reads finds r s in
    record {
      met = row_at r.at s.chain;
      at = refl;
      values = s.packs;
      ranges_are = sym (chain-ranges s.chain) ∙ ap (λ (xs : List Area). map range_of_area xs) s.blocks;
      head = w.head;
      more = w.more;
      is = w.is;
      there = w.there;
      shown = w.shows;
      nothing = w.nothing;
    }

block_rows : (d : Defs) (x : List ℕ) → IsReading (block_of x) (length x) → FindsChains x → (rows : List StoredRow) → AllByRecursion (StandsInBlocks d x) rows → AllByRecursion (Shows (shown_block x) d) rows
block_rows d x reads finds [] all = tt
block_rows d x reads finds (r ∷ rows) all = (block_row d x reads finds r all.0, block_rows d x reads finds rows all.1)

-- each is the row of a chain
met_chains : (d : Defs) (x : List ℕ) → (reads : IsReading (block_of x) (length x)) → (finds : FindsChains x) → (rows : List StoredRow) → (all : AllByRecursion (StandsInBlocks d x) rows) → AllByRecursion (IsRowOf (block_of x) (packs d)) (met_rows (shown_block x) d rows (block_rows d x reads finds rows all))
unfolding block_rows block_row
met_chains d x reads finds [] all = tt
met_chains d x reads finds (r ∷ rows) all =
    (record { chain = all.0.chain; is = all.0.is; bytes = refl; blocks = refl; packs = ap (λ (o : Option Values). is_some o) all.0.packs }, met_chains d x reads finds rows all.1)

hole_ranges : (x : List ℕ) (prev next : Option ℕ) (holes : List Area) → list.IsPart x prev holes next → AllByRecursion (IsDeletedOf (block_of x)) (map range_of_area holes)
hole_ranges x prev next [] part = tt
hole_ranges x prev next (a ∷ holes) part =
    (record { block = list.hole_block a (list.first_or holes next) prev; here = part.0; kind = refl; range = refl }, hole_ranges x (Some a.at) next holes part.1)

-- each area is that of the block at its place
tail_blocks : (x : List ℕ) → IsReading (block_of x) (length x) → (n : Option ℕ) (bs : List Block) → IsTail (block_of x) n bs → AllByRecursion (IsOfBlock x) (map area_of_block bs)
tail_blocks x reads None bs t = absurd t
tail_blocks x reads (Some p) [] t = tt
tail_blocks x reads (Some p) (b ∷ []) t = let o = block_own x reads p b t.0 in ((b, o.0, refl, o.1, o.2), tt)
tail_blocks x reads (Some p) (b ∷ c ∷ bs) t = let o = block_own x reads p b t.0 in ((b, o.0, refl, o.1, o.2), tail_blocks x reads b.next (c ∷ bs) t.2)

chain_blocks : (x : List ℕ) → IsReading (block_of x) (length x) → (p : ℕ) (bs : List Block) → AreLinked (block_of x) p bs → AllByRecursion (IsOfBlock x) (map area_of_block bs)
chain_blocks x reads p [] l = absurd l
chain_blocks x reads p (b ∷ []) l = let o = block_own x reads p b l.0 in ((b, o.0, refl, o.1, o.2), tt)
chain_blocks x reads p (b ∷ c ∷ bs) l = let o = block_own x reads p b l.0 in ((b, o.0, refl, o.1, o.2), tail_blocks x reads b.next (c ∷ bs) l.2)

all_both : (P : Area → Type 0) (xs ys : List Area) → AllByRecursion P xs → AllByRecursion P ys → AllByRecursion P (xs ++ ys)
all_both P [] ys a b = b
all_both P (x ∷ xs) ys a b = (a.0, all_both P xs ys a.1 b)

hole_blocks : (x : List ℕ) → IsReading (block_of x) (length x) → (prev next : Option ℕ) (holes : List Area) → list.IsPart x prev holes next → AllByRecursion (IsOfBlock x) holes
hole_blocks x reads prev next [] part = tt
hole_blocks x reads prev next (a ∷ holes) part =
    let b = list.hole_block a (list.first_or holes next) prev in
    let o = block_own x reads a.at b part.0 in
    ((b, part.0, refl, o.1, o.2), hole_blocks x reads (Some a.at) next holes part.1)

all_blocks : (d : Defs) (x : List ℕ) → IsReading (block_of x) (length x) → (rows : List StoredRow) (holes : List Area) → AllByRecursion (StandsInBlocks d x) rows → AllByRecursion (IsOfBlock x) holes → AllByRecursion (IsOfBlock x) (row_areas rows ++ holes)
all_blocks d x reads [] holes all more = more
all_blocks d x reads (r ∷ rows) holes all more =
    let own = subst (λ (xs : List Area). AllByRecursion (IsOfBlock x) xs) all.0.blocks (chain_blocks x reads r.at all.0.chain all.0.is.linked) in
    subst (λ (xs : List Area). AllByRecursion (IsOfBlock x) xs) (sym (append_assoc r.blocks (row_areas rows) holes))
    (all_both (IsOfBlock x) r.blocks (row_areas rows ++ holes) own (all_blocks d x reads rows holes all.1 more))

items_dynamic : (d : Defs) (x : List ℕ) → d.format ≡ Dynamic → items_in d false x ≡ chains.items_in false (packs d) x
unfolding items_in
items_dynamic d x dynamic = rw dynamic refl

-- ---- both

-- what the definitions on chains say of every file
pub record ChainFacts (x : List ℕ) : Type 0 where
  pub reads : IsReading (block_of x) (length x)
  pub finds : FindsChains x
  pub parts : ReadsParts
  pub covered : IsCovered

module _ (d : Defs) (s : TableState) (x : List ℕ) (sound : IsSound d) (facts : ChainFacts x) where
  static_reads : d.format ≡ Static → IsState d s → length x ≡ s.space.end → AllByRecursion (λ (r : StoredRow). (list.first_or r.blocks None ≡ Some r.at) × AreOneSlot d.slot_length r.blocks) s.rows → AllByRecursion (IsSlot d.slot_length) s.space.holes → AllByRecursion (StandsInSlot d x) s.rows → ListSlots d x s.space.holes → Reads (shown_slot d x) d x s
  static_reads static i long rows holes stand gone =
      let all = row_areas s.rows ++ s.space.holes in
      let bytes = state-bytes d s sound i in
      let inside = inside_left s.space.end (row_areas s.rows) s.space.holes (tile-inside s.space.end all bytes i.tile) in
      let follow = subst (λ (n : ℕ). Follow n 0 (in_order all)) (sym long) (tiles-follow s.space.end all bytes i.tile) in
      let slots = in-order-all (IsSlot d.slot_length) all (all_slots d.slot_length s.rows s.space.holes rows holes) in
      reads-by (shown_slot d x) d x s (slot_rows d x s.space.end s.rows static long rows inside.0 stand) i.order
      (slot-holes-show d x s.space.holes gone (hole_slots d x s.space.end s.space.holes long holes inside.1)) (tile-apart s.space.end all bytes i.tile)
      (items_static d x static ∙ static-shown d x (in_order all) (slot-some d sound static) follow slots)

  dynamic_reads : d.format ≡ Dynamic → IsState d s → length x ≡ s.space.end → AllByRecursion (StandsInBlocks d x) s.rows → list.HasList x s.space.holes → Reads (shown_block x) d x s
  dynamic_reads dynamic i long stand gone =
      let all = row_areas s.rows ++ s.space.holes in
      let bytes = state-bytes d s sound i in
      let apart = tile-apart s.space.end all bytes i.tile in
      let follow = subst (λ (n : ℕ). Follow n 0 (in_order all)) (sym long) (tiles-follow s.space.end all bytes i.tile) in
      let shown = block_rows d x facts.reads facts.finds s.rows stand in
      let met = met_rows (shown_block x) d s.rows shown in
      let frees = map range_of_area s.space.holes in
      let same : ranges_of met ++ frees ≡ map range_of_area all = ap (λ (xs : List Range). xs ++ frees) (met_ranges (shown_block x) d s.rows shown) ∙ sym (ranges-both (row_areas s.rows) s.space.holes) in
      let far = subst (λ (xs : List Range). chain.AreApart [] xs) (sym same) (ranges-apart [] all (free-of-none all) apart) in
      let full = λ (p : ℕ) (lt : p < length x). subst (λ (xs : List Range). list_any (has_byte p) xs ≡ true) (sym same) (holds-range p all (tile-holds s.space.end all i.tile p (omega (arith, lt, long)))) in
      let made = facts.covered (block_of x) (length x) (packs d) facts.reads met frees (met_chains d x facts.reads facts.finds s.rows stand) (hole_ranges x None None s.space.holes gone.linked) far full in
      let cells = in-order-all (IsOfBlock x) all (all_blocks d x facts.reads s.rows s.space.holes stand (hole_blocks x facts.reads None None s.space.holes gone.linked)) in
      reads-by (shown_block x) d x s shown i.order (hole-shows x None None s.space.holes gone.linked) apart
      (items_dynamic d x dynamic ∙ facts.parts (packs d) x made.0 made.1 ∙ parts-shown x facts.reads facts.finds (packs d) (row_ranges made.0) 0 (in_order all) made.0 follow cells made.1.follow made.1.each)

-- ---- in the words of a file that stands for a state

-- what is read of it is what it stands for
pub record IsReadAs (d : Defs) (x : List ℕ) (s : TableState) : Type 0 where
  pub rows : map (stored_row d) (readable d false x) ≡ s.rows
  pub ranges_are : ranges_of (readable d false x) ≡ map range_of_area (row_areas s.rows)
  pub holes : deleted d x ≡ map range_of_area (in_order s.space.holes)

read_as : (shows : Area → List Item) (d : Defs) (x : List ℕ) (s : TableState) → Reads shows d x s → IsReadAs d x s
read_as shows d x s r = record { rows = r.rows; ranges_are = r.ranges_are; holes = r.holes }

-- a row stands where its first block does, and has such blocks
abbrev HasPlace : RowFormat → ℕ → StoredRow → Type 0
HasPlace f size r = (list.first_or r.blocks None ≡ Some r.at) × AreBlocks f size r.blocks

have_places : (d : Defs) (rows : List StoredRow) → AllByRecursion (IsRow d) rows → AllByRecursion (HasPlace d.format d.slot_length) rows
have_places d [] all = tt
have_places d (r ∷ rows) all = ((all.0.place, all.0.blocks), have_places d rows all.1)

stands_by : (d : Defs) (s : TableState) (x : List ℕ) → IsSound d → ChainFacts x → (f : RowFormat) → d.format ≡ f → IsState d s → length x ≡ s.space.end → AllByRecursion (HasPlace f d.slot_length) s.rows → AreHoles f d.slot_length s.space.holes → AllByRecursion (RowStands f d x) s.rows → HolesStand f d x s.space.holes → IsReadAs d x s
stands_by d s x sound facts Static e i long places holes stand gone = read_as (shown_slot d x) d x s (static_reads d s x sound facts e i long places holes stand gone)
stands_by d s x sound facts Dynamic e i long places holes stand gone = read_as (shown_block x) d x s (dynamic_reads d s x sound facts e i long stand gone)

pub stands-read : (d : Defs) (s : TableState) (x : List ℕ) → IsSound d → ChainFacts x → StandsFor d s x → IsReadAs d x s
stands-read d s x sound facts k = stands_by d s x sound facts d.format refl k.state k.long (have_places d s.rows k.state.rows) k.state.holes k.rows k.holes

-- ---- its numbers

put_length : (a : Area) (areas : List Area) → length (put_in a areas) ≡ 1 + length areas
put_length a [] = refl
put_length a (b ∷ areas) = by_test (nat_le a.at b.at) (put_length a areas)
  where
    by_test : (t : Bool) → length (put_in a areas) ≡ 1 + length areas → length (if t then a ∷ b ∷ areas else b ∷ put_in a areas) ≡ 1 + length (b ∷ areas)
    by_test true ih = omega arith
    by_test false ih = omega (arith, ih)

order_length : (areas : List Area) → length (in_order areas) ≡ length areas
order_length [] = refl
order_length (a ∷ areas) = omega (arith, put_length a (in_order areas), order_length areas)

abbrev bytes_in : List Range → ℕ
bytes_in rs = sum_by (λ (r : Range). r.1 - r.0) rs

one_bytes : (a : Area) (areas : List Area) → bytes_in (map range_of_area (a ∷ areas)) ≡ a.size + bytes_in (map range_of_area areas)
one_bytes a areas =
    let size : a.at + a.size - a.at ≡ a.size = omega arith in
    sum_by-cons (λ (r : Range). r.1 - r.0) (range_of_area a) (map range_of_area areas) ∙ ap (λ (n : ℕ). n + bytes_in (map range_of_area areas)) size

put_bytes : (a : Area) (areas : List Area) → bytes_in (map range_of_area (put_in a areas)) ≡ a.size + bytes_in (map range_of_area areas)
put_bytes a [] = one_bytes a []
put_bytes a (b ∷ areas) = by_test (nat_le a.at b.at) (put_bytes a areas)
  where
    by_test : (t : Bool) → bytes_in (map range_of_area (put_in a areas)) ≡ a.size + bytes_in (map range_of_area areas) → bytes_in (map range_of_area (if t then a ∷ b ∷ areas else b ∷ put_in a areas)) ≡ a.size + bytes_in (map range_of_area (b ∷ areas))
    by_test true ih = one_bytes a (b ∷ areas)
    by_test false ih = one_bytes b (put_in a areas) ∙ omega (arith, ih, one_bytes b areas)

order_bytes : (areas : List Area) → bytes_in (map range_of_area (in_order areas)) ≡ total_bytes areas
order_bytes [] = refl
order_bytes (a ∷ areas) = put_bytes a (in_order areas) ∙ ap (λ (n : ℕ). a.size + n) (order_bytes areas) ∙ sym (sum_by-cons (λ (b : Area). b.size) a areas)

pub record IsCountedAs (d : Defs) (x : List ℕ) (c : Counts) : Type 0 where
  pub records : c.records ≡ length (readable d false x)
  pub del : c.del ≡ length (deleted d x)
  pub split : c.split ≡ length (ranges_of (readable d false x))
  pub empty : c.empty ≡ sum_by (λ (r : Range). r.1 - r.0) (deleted d x)
  pub length_is : c.length ≡ length x

pub stands-counted : (d : Defs) (s : TableState) (x : List ℕ) → IsReadAs d x s → length x ≡ s.space.end → IsCountedAs d x (counts_of s)
unfolding counts_of
stands-counted d s x r long =
    record {
      records = ap (λ (q : List StoredRow). length q) (sym r.rows) ∙ length-map (readable d false x) (stored_row d);
      del = sym (ap (λ (q : List Range). length q) r.holes ∙ length-map (in_order s.space.holes) range_of_area ∙ order_length s.space.holes);
      split = sym (ap (λ (q : List Range). length q) r.ranges_are ∙ length-map (row_areas s.rows) range_of_area);
      empty = sym (ap (λ (q : List Range). sum_by (λ (r : Range). r.1 - r.0) q) r.holes ∙ order_bytes s.space.holes);
      length_is = sym long;
    }
