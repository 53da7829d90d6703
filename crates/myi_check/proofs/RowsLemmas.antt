-- What was found of a data file, when all was met.
use Rattle.std.proofs.Common.{◌≡◌, ℕ, zero, suc, ◌+◌, ◌-◌, ◌/◌, ◌<◌, ◌≤◌, Bool, true, false, cond, List, [], ◌∷◌, ◌++◌, length, take, drop, Option, Some, None, unwrap_or, refl, sym, ap, subst, ◌∙◌, arith, add-one, ◌⊎◌, inl, inr}
use Rattle.std.specs.Prelude.{map, filter, sum_by}
use Rattle.std.specs.List.{AllByRecursion, flat_map}
use Rattle.std.proofs.Math.Nat.{div-eq_of_lt, add-div_right}
use Rattle.std.proofs.lemmas.Bool.{cases_lt}
use Rattle.std.proofs.lemmas.List.{take_all, length-drop, length-take-le}
use Rattle.myi_base.specs.Holding.{Holding, bytes_of}
use Rattle.myi_base.specs.Ranges.{Range, is_apart}
use Rattle.myi_defs.specs.declared.types.RowFormat.{RowFormat}
use Rattle.myi_defs.specs.declared.types.RowFormat.TheVariants.{Static, Dynamic}
use Rattle.myi_defs.specs.declared.types.Defs.{Defs}
use Rattle.myi_defs.specs.Addressable.{is_addressable}
use Rattle.myi_defs.specs.Sound.{IsSound}
use Rattle.myi_frames.specs.Block.{Block, block_of}
use Rattle.myi_chain.specs.Chain.{Reading, IsReading, IsTail, AreLinked, ranges, ranges_at}
use Rattle.myi_chain.specs.Readable.{Row, Item, row, free, rows_of, frees_of, rest}
use Rattle.myi_chain.specs.Readable as chains
use Rattle.myi_chain.specs.Meeting.{IsItemOf, ranges_of, ItemsRise}
use Rattle.myi_chain.specs.ScanModel.{fresh_scan}
use Rattle.myi_chain.proofs.CallerLemmas.{blocks_read, rest_fine}
use Rattle.myi_data.specs.Slots.{Slot, slots}
use Rattle.myi_data.specs.Readable.{packs, slot_items, items_at, items_by, items_in, readable, deleted}
use Rattle.myi_data.specs.Scanning.{TableScan, items_ahead, IsAsKnown}
use Rattle.myi_data.proofs.CallerLemmas.{slot_cases, fresh_ahead, fresh_known}
use Rattle.myi_pair.specs.Trees.{total}
use Rattle.myi_pair.specs.FirstBad.{first_gap}
use Rattle.myi_pair.specs.Findings.{deleted_places, rows_bad}
use Rattle.myi_check.specs.declared.met.Met.{Met}
use Rattle.myi_check.specs.declared.rows.RowsFound.{RowsFound}
use Rattle.myi_check.specs.HeldBytes.{SameBytes, EndsNear, AreJoined, front_of, gap_behind, is_free}
use Rattle.myi_placelist.specs.Places.{IsRising}
use Rattle.myi_check.specs.Rows.{ArePointed, ArePlacesOf, HasRows}
use Rattle.myi_check.specs.Met.{HasBlocks, HasMet}
use Rattle.myi_check.proofs.HeldLemmas.{same_then, same_append, same_of}
use Rattle.myi_check.proofs.GapLemmas.{gap_same, gap_front}
use Rattle.myi_check.proofs.ByteCounts.{total_at, AreSolid, apart_by_bytes}

-- ---- deleted blocks stand in order

-- from a place on each range has a byte and ends before the next begins
abbrev pub RangesRise : ℕ → List Range → Type 0
RangesRise low [] = Unit {0}
RangesRise low (a ∷ rs) = (low ≤ a.0) × (a.0 < a.1) × RangesRise a.1 rs

rise_lower : (low more : ℕ) (rs : List Range) → more ≤ low → RangesRise low rs → RangesRise more rs
rise_lower low more [] le h = tt
rise_lower low more (a ∷ rs) le h = (omega (arith, h.0), h.1, h.2)

rise_kept : (p : Range → Bool) (low : ℕ) (rs : List Range) → RangesRise low rs → RangesRise low (filter p rs)
rise_kept p low [] h = tt
rise_kept p low (a ∷ rs) h = by_test (p a) (rise_kept p a.1 rs h.2)
  where
    by_test : (b : Bool) → RangesRise a.1 (filter p rs) → RangesRise low (cond b (a ∷ filter p rs) (filter p rs))
    by_test true more = (h.0, h.1, more)
    by_test false more = rise_lower a.1 low (filter p rs) (omega (arith, h.0, h.1)) more

above : (p low : ℕ) (rs : List Range) → p < low → RangesRise low rs → AllByRecursion (λ q. p < q) (map (λ (a : Range). a.0) rs)
above p low [] lt h = tt
above p low (a ∷ rs) lt h = (omega (arith, h.0), above p a.1 rs (omega (arith, h.0, h.1)) h.2)

places_ascend : (low : ℕ) (rs : List Range) → RangesRise low rs → IsRising (map (λ (a : Range). a.0) rs)
places_ascend low [] h = tt
places_ascend low (a ∷ rs) h = (above a.0 a.1 rs h.1 h.2, places_ascend a.1 rs h.2)

-- of a dynamic table, whose items rise
frees_rise : (read : Reading) (len low : ℕ) (accepts : List ℕ → Bool) (is : List Item) → IsReading read len → AllByRecursion (IsItemOf read accepts) is → ItemsRise low is → RangesRise low (frees_of is)
frees_rise read len low accepts [] stands are rise = tt
frees_rise read len low accepts (row r ∷ is) stands are rise = rise_lower (r.at + 1) low (frees_of is) (omega (arith, rise.0)) (frees_rise read len (r.at + 1) accepts is stands are.1 rise.1)
frees_rise read len low accepts (free a ∷ is) stands are rise =
    let block = stands a.0 are.0.block are.0.here in
    let end : a.1 ≡ are.0.block.at + are.0.block.size = ap (λ (r : Range). r.1) are.0.range in
    (rise.0, omega (arith, end, block.at, block.least), frees_rise read len a.1 accepts is stands are.1 rise.1)

-- of a static one
slots_rise : (accepts : List ℕ → Bool) (n at size : ℕ) (xs : List ℕ) → 0 < size → n ≤ length xs / size → RangesRise at (frees_of (flat_map (slot_items accepts) (slots n at size xs)))
slots_rise accepts zero at size xs some few = tt
slots_rise accepts (suc n) at size xs some few =
    let inside : size ≤ length xs = has_one (cases_lt (length xs) size) in
    let rest : length (drop size xs) ≡ length xs - size = length-drop size xs in
    let all : length xs ≡ length (drop size xs) + size = omega (arith, rest, inside) in
    let count : length xs / size ≡ suc (length (drop size xs) / size) = ap (λ n. n / size) all ∙ add-div_right (length (drop size xs)) some ∙ add-one (length (drop size xs) / size) in
    let slot : Slot = record { at = at; bytes = take size xs } in
    let long : length (take size xs) ≡ size = length-take-le size xs inside in
    let more : List Item = flat_map (slot_items accepts) (slots n (at + size) size (drop size xs)) in
    let behind : RangesRise (at + size) (frees_of more) = slots_rise accepts n (at + size) size (drop size xs) some (omega (arith, few, count)) in
    let lower : RangesRise at (frees_of more) = rise_lower (at + size) at (frees_of more) (omega arith) behind in
    slot_cases (λ (is : List Item). RangesRise at (frees_of (is ++ more))) accepts slot
    (λ _. (omega arith, omega (arith, long, some), subst (λ e. RangesRise (at + e) (frees_of more)) (sym long) behind))
    (λ _. lower)
    lower
  where
    has_one : (length xs < size) ⊎ (size ≤ length xs) → size ≤ length xs
    has_one (inl short) = absurd (omega (arith, few, div-eq_of_lt short))
    has_one (inr le) = le

pub table_rises : ((extend : Bool) (read : Reading) (len : ℕ) (accepts : List ℕ → Bool) → IsReading read len → (p : ℕ) (used : List Range) → ItemsRise p (rest extend read len accepts p used)) → (d : Defs) (x : List ℕ) → IsSound d → RangesRise 0 (frees_of (items_in d false x))
unfolding items_in items_at chains.items_in
table_rises order d x s = of_format d.format refl
  where
    of_format : (f : RowFormat) → d.format ≡ f → RangesRise 0 (frees_of (items_by f d false x))
    of_format Static e = slots_rise (packs d) (length x / d.slot_length) 0 d.slot_length x (omega (arith, s.slot_pointer e)) (omega arith)
    of_format Dynamic e = frees_rise (block_of x) (length x) 0 (packs d) (rest false (block_of x) (length x) (packs d) 0 []) (blocks_read x) (rest_fine (block_of x) (length x) (blocks_read x) false (packs d) 0 []).0 (order false (block_of x) (length x) (packs d) (blocks_read x) 0 [])

-- ---- the deleted blocks

free_kept : (h : List Range) (bs : List (ℕ × ℕ)) → ranges_at (filter (is_free h) bs) ≡ filter (λ a. is_apart a h) (ranges_at bs)
free_kept h [] = refl
free_kept h (b ∷ bs) = by_test (is_free h b) (free_kept h bs)
  where
    by_test : (c : Bool) → ranges_at (filter (is_free h) bs) ≡ filter (λ a. is_apart a h) (ranges_at bs) → ranges_at (cond c (b ∷ filter (is_free h) bs) (filter (is_free h) bs)) ≡ cond c ((b.0, b.0 + b.1) ∷ filter (λ a. is_apart a h) (ranges_at bs)) (filter (λ a. is_apart a h) (ranges_at bs))
    by_test true more = ap (λ rs. (b.0, b.0 + b.1) ∷ rs) more
    by_test false more = more

same_kept : (low : ℕ) (u v rs : List Range) → SameBytes u v → RangesRise low rs → filter (λ a. is_apart a u) rs ≡ filter (λ a. is_apart a v) rs
same_kept low u v [] s h = refl
same_kept low u v (a ∷ rs) s h =
    let here = s a h.1 in
    let more = same_kept a.1 u v rs s h.2 in
    ap (λ xs. cond (is_apart a u) (a ∷ xs) xs) more ∙ ap (λ b. cond b (a ∷ filter (λ x. is_apart x v) rs) (filter (λ x. is_apart x v) rs)) here

pub deleted_found : (d : Defs) (x : List ℕ) (met : Met) (h : List Range) (kept : List (ℕ × ℕ)) → RangesRise 0 (frees_of (items_in d false x)) → SameBytes (ranges_of (rows_of (items_in d false x))) met.held → HasBlocks (items_in d false x) met → SameBytes met.held h → kept ≡ filter (is_free h) met.frees.items → ranges_at kept ≡ deleted d x
unfolding deleted readable
deleted_found d x met h kept rise held has same is =
    ap ranges_at is ∙ free_kept h met.frees.items ∙ ap (filter (λ a. is_apart a h)) has.ranges
    ∙ sym (same_kept 0 (ranges_of (rows_of (items_in d false x))) h (frees_of (items_in d false x)) (same_then _ _ _ held same) rise)

pub places_of : (bs : List (ℕ × ℕ)) → map (λ b. b.0) bs ≡ map (λ (a : Range). a.0) (ranges_at bs)
places_of [] = refl
places_of (b ∷ bs) = ap (λ ps. b.0 ∷ ps) (places_of bs)

pub near_kept : (p : ℕ × ℕ → Bool) (bs : List (ℕ × ℕ)) → AllByRecursion EndsNear bs → AllByRecursion EndsNear (filter p bs)
near_kept p [] near = tt
near_kept p (b ∷ bs) near = by_test (p b) (near_kept p bs near.1)
  where
    by_test : (c : Bool) → AllByRecursion EndsNear (filter p bs) → AllByRecursion EndsNear (cond c (b ∷ filter p bs) (filter p bs))
    by_test true more = (near.0, more)
    by_test false more = more

-- ---- the blocks of rows have bytes

solid_both : (u v : List Range) → AreSolid u → AreSolid v → AreSolid (u ++ v)
solid_both [] v first second = second
solid_both (r ∷ u) v first second = (first.0, solid_both u v first.1 second)

tail_solid : (read : Reading) (len : ℕ) → IsReading read len → (next : Option ℕ) (bs : List Block) → IsTail read next bs → AreSolid (ranges bs)
tail_solid read len stands None bs t = absurd t
tail_solid read len stands (Some p) [] t = absurd t
tail_solid read len stands (Some p) (b ∷ []) t = let s = stands p b t.0 in (omega (arith, s.least), tt)
tail_solid read len stands (Some p) (b ∷ c ∷ bs) t = let s = stands p b t.0 in (omega (arith, s.least), tail_solid read len stands b.next (c ∷ bs) t.2)

chain_solid : (read : Reading) (len : ℕ) → IsReading read len → (p : ℕ) (bs : List Block) → AreLinked read p bs → AreSolid (ranges bs)
chain_solid read len stands p [] t = absurd t
chain_solid read len stands p (b ∷ []) t = let s = stands p b t.0 in (omega (arith, s.least), tt)
chain_solid read len stands p (b ∷ c ∷ bs) t = let s = stands p b t.0 in (omega (arith, s.least), tail_solid read len stands b.next (c ∷ bs) t.2)

blocks_solid : (read : Reading) (len : ℕ) (accepts : List ℕ → Bool) (is : List Item) → IsReading read len → AllByRecursion (IsItemOf read accepts) is → AreSolid (ranges_of (rows_of is))
blocks_solid read len accepts [] stands are = tt
blocks_solid read len accepts (row r ∷ is) stands are =
    solid_both r.blocks (ranges_of (rows_of is)) (subst AreSolid (sym are.0.blocks) (chain_solid read len stands r.at are.0.chain are.0.is.linked)) (blocks_solid read len accepts is stands are.1)
blocks_solid read len accepts (free a ∷ is) stands are = blocks_solid read len accepts is stands are.1

slots_solid : (accepts : List ℕ → Bool) (n at size : ℕ) (xs : List ℕ) → 0 < size → n ≤ length xs / size → AreSolid (ranges_of (rows_of (flat_map (slot_items accepts) (slots n at size xs))))
slots_solid accepts zero at size xs some few = tt
slots_solid accepts (suc n) at size xs some few =
    let inside : size ≤ length xs = has_one (cases_lt (length xs) size) in
    let rest : length (drop size xs) ≡ length xs - size = length-drop size xs in
    let all : length xs ≡ length (drop size xs) + size = omega (arith, rest, inside) in
    let count : length xs / size ≡ suc (length (drop size xs) / size) = ap (λ n. n / size) all ∙ add-div_right (length (drop size xs)) some ∙ add-one (length (drop size xs) / size) in
    let slot : Slot = record { at = at; bytes = take size xs } in
    let long : length (take size xs) ≡ size = length-take-le size xs inside in
    let more : List Item = flat_map (slot_items accepts) (slots n (at + size) size (drop size xs)) in
    let behind : AreSolid (ranges_of (rows_of more)) = slots_solid accepts n (at + size) size (drop size xs) some (omega (arith, few, count)) in
    slot_cases (λ (is : List Item). AreSolid (ranges_of (rows_of (is ++ more)))) accepts slot (λ _. behind) (λ _. (omega (arith, long, some), behind)) behind
  where
    has_one : (length xs < size) ⊎ (size ≤ length xs) → size ≤ length xs
    has_one (inl short) = absurd (omega (arith, few, div-eq_of_lt short))
    has_one (inr le) = le

table_solid : (d : Defs) (x : List ℕ) → IsSound d → AreSolid (ranges_of (rows_of (items_in d false x)))
unfolding items_in items_at chains.items_in
table_solid d x s = of_format d.format refl
  where
    of_format : (f : RowFormat) → d.format ≡ f → AreSolid (ranges_of (rows_of (items_by f d false x)))
    of_format Static e = slots_solid (packs d) (length x / d.slot_length) 0 d.slot_length x (omega (arith, s.slot_pointer e)) (omega arith)
    of_format Dynamic e = blocks_solid (block_of x) (length x) (packs d) (rest false (block_of x) (length x) (packs d) 0 []) (blocks_read x) (rest_fine (block_of x) (length x) (blocks_read x) false (packs d) 0 []).0

rise_solid : (low : ℕ) (rs : List Range) → RangesRise low rs → AreSolid rs
rise_solid low [] h = tt
rise_solid low (a ∷ rs) h = (h.1, rise_solid a.1 rs h.2)

-- ---- deleted blocks that meet no row

all_stay : (rows frees : List Range) → AllByRecursion (λ a. is_apart a rows ≡ true) frees → filter (λ a. is_apart a rows) frees ≡ frees
all_stay rows [] all = refl
all_stay rows (a ∷ frees) all =
    let here = all.0 in
    let more = all_stay rows frees all.1 in
    rw here (ap (λ xs. a ∷ xs) more)

all_deleted : (d : Defs) (x : List ℕ) → AllByRecursion (λ a. is_apart a (ranges_of (rows_of (items_in d false x))) ≡ true) (frees_of (items_in d false x)) → deleted d x ≡ frees_of (items_in d false x)
unfolding deleted readable
all_deleted d x apart = all_stay _ _ apart

-- ---- the gap

pub gap_by : (d : Defs) (x : List ℕ) (last : List Range) → SameBytes (ranges_of (readable d false x) ++ deleted d x) last → AreJoined 0 last → gap_behind (cond (is_addressable d (length x)) (front_of last) 0) (length x) ≡ rows_bad d x
unfolding rows_bad
gap_by d x last all order = by_reach (is_addressable d (length x)) refl
  where
    by_reach : (b : Bool) → is_addressable d (length x) ≡ b → gap_behind (cond b (front_of last) 0) (length x) ≡ first_gap (length x) 0 (cond (is_addressable d (length x)) (ranges_of (readable d false x) ++ deleted d x) [])
    by_reach true e = rw e (sym (gap_same _ last all (length x) 0 ∙ gap_front last order (length x)))
    by_reach false e = rw e (sym (gap_front [] tt (length x)))

gap_found : (d : Defs) (x : List ℕ) (met : Met) (h joined last : List Range) (kept : List (ℕ × ℕ)) → SameBytes (ranges_of (readable d false x)) met.held → ranges_at kept ≡ deleted d x → SameBytes met.held h → SameBytes (h ++ ranges_at kept) joined → SameBytes joined last → AreJoined 0 last → gap_behind (cond (is_addressable d (length x)) (front_of last) 0) (length x) ≡ rows_bad d x
gap_found d x met h joined last kept held are first second third order = gap_by d x last all order
  where
    all : SameBytes (ranges_of (readable d false x) ++ deleted d x) last
    all = same_then _ _ _ (same_append (ranges_of (readable d false x)) h (deleted d x) (same_then _ _ _ held first))
        (same_then _ _ _ (same_of (h ++ deleted d x) (h ++ ranges_at kept) (ap (λ rs. h ++ rs) (sym are))) (same_then _ _ _ second third))

-- ---- all together

deleted_ascend : (d : Defs) (x : List ℕ) → RangesRise 0 (frees_of (items_in d false x)) → IsRising (deleted_places d x)
unfolding deleted
deleted_ascend d x rise = places_ascend 0 _ (rise_kept (λ a. is_apart a (ranges_of (readable d false x))) 0 (frees_of (items_in d false x)) rise)

-- in a static table each deleted block is a slot, which holds a row pointer behind its first byte

slots_pointed : (accepts : List ℕ → Bool) (n at size ref len : ℕ) (xs : List ℕ) → ref < size → n ≤ length xs / size → at + length xs ≤ len → AllByRecursion (λ (a : Range). a.0 + ref < len) (frees_of (flat_map (slot_items accepts) (slots n at size xs)))
slots_pointed accepts zero at size ref len xs some few inside = tt
slots_pointed accepts (suc n) at size ref len xs some few inside =
    let whole : size ≤ length xs = has_one (cases_lt (length xs) size) in
    let rest : length (drop size xs) ≡ length xs - size = length-drop size xs in
    let all : length xs ≡ length (drop size xs) + size = omega (arith, rest, whole) in
    let count : length xs / size ≡ suc (length (drop size xs) / size) = ap (λ n. n / size) all ∙ add-div_right (length (drop size xs)) (omega (arith, some)) ∙ add-one (length (drop size xs) / size) in
    let slot : Slot = record { at = at; bytes = take size xs } in
    let more : List Item = flat_map (slot_items accepts) (slots n (at + size) size (drop size xs)) in
    let behind : AllByRecursion (λ (a : Range). a.0 + ref < len) (frees_of more) = slots_pointed accepts n (at + size) size ref len (drop size xs) some (omega (arith, few, count)) (omega (arith, inside, all)) in
    slot_cases (λ (is : List Item). AllByRecursion (λ (a : Range). a.0 + ref < len) (frees_of (is ++ more))) accepts slot (λ _. (omega (arith, some, whole, inside), behind)) (λ _. behind) behind
  where
    has_one : (length xs < size) ⊎ (size ≤ length xs) → size ≤ length xs
    has_one (inl short) = absurd (omega (arith, few, div-eq_of_lt short))
    has_one (inr le) = le

all_kept : (P : Range → Type 0) (p : Range → Bool) (rs : List Range) → AllByRecursion P rs → AllByRecursion P (filter p rs)
all_kept P p [] all = tt
all_kept P p (a ∷ rs) all = by_test (p a) (all_kept P p rs all.1)
  where
    by_test : (b : Bool) → AllByRecursion P (filter p rs) → AllByRecursion P (cond b (a ∷ filter p rs) (filter p rs))
    by_test true more = (all.0, more)
    by_test false more = more

all_places : (P : ℕ → Type 0) (rs : List Range) → AllByRecursion (λ (a : Range). P a.0) rs → AllByRecursion P (map (λ (a : Range). a.0) rs)
all_places P [] all = tt
all_places P (a ∷ rs) all = (all.0, all_places P rs all.1)

deleted_pointed : (d : Defs) (x : List ℕ) → IsSound d → ArePointed d (length x) (deleted_places d x)
unfolding deleted items_in items_at
deleted_pointed d x s static =
    all_places (λ p. p + d.rec_ref < length x) (deleted d x)
    (all_kept (λ (a : Range). a.0 + d.rec_ref < length x) (λ a. is_apart a (ranges_of (readable d false x))) (frees_of (items_in d false x))
    (subst (λ (is : List Item). AllByRecursion (λ (a : Range). a.0 + d.rec_ref < length x) (frees_of is)) (sym (ap (λ (f : RowFormat). items_by f d false x) static))
    (slots_pointed (packs d) (length x / d.slot_length) 0 d.slot_length d.rec_ref (length x) x (omega (arith, s.slot_pointer static)) (omega arith) (omega arith))))

pub rows_found : (d : Defs) (x : List ℕ) (met : Met) (h joined last : List Range) (kept : List (ℕ × ℕ)) (r : RowsFound) → RangesRise 0 (frees_of (items_in d false x)) → HasMet d false (items_in d false x) met
    → SameBytes met.held h → kept ≡ filter (is_free h) met.frees.items → SameBytes (h ++ ranges_at kept) joined → SameBytes joined last → AreJoined 0 last
    → r.keys ≡ met.keys → r.places ≡ met.places → r.records ≡ met.records → r.split ≡ met.split → r.deleted ≡ map (λ b. b.0) kept → r.empty ≡ sum_by (λ b. b.1) kept → r.gap ≡ gap_behind (cond (is_addressable d (length x)) (front_of last) 0) (length x) → IsSound d → HasRows d met.with_keys x r
unfolding readable
rows_found d x met h joined last kept r rise has first is second third order keys where_rows records split places empty gap s =
    let is_of = items_in d false x in
    let are = deleted_found d x met h kept rise has.held has.frees first is in
    let at : r.deleted ≡ deleted_places d x = places ∙ places_of kept ∙ ap (map (λ (a : Range). a.0)) are in
    record {
      keys = λ on. keys ∙ has.keys on;
      records = records ∙ has.records;
      split = split ∙ has.split;
      places = subst (ArePlacesOf (readable d false x)) (sym where_rows) has.places;
      deleted = at;
      ascends = subst IsRising (sym at) (deleted_ascend d x rise);
      pointed = subst (ArePointed d (length x)) (sym at) (deleted_pointed d x s);
      empty = empty ∙ total_at kept ∙ ap total are;
      gap = gap ∙ gap_found d x met h joined last kept has.held are first second third order;
    }

-- the same where rows and deleted blocks were noted together, and hold as many bytes as they have one by one
pub together_found : (d : Defs) (x : List ℕ) (met : Met) (last : List Range) (r : RowsFound) → RangesRise 0 (frees_of (items_in d false x)) → HasMet d true (items_in d false x) met → SameBytes met.held last → AreJoined 0 last → total last ≡ met.row_bytes + met.empty
    → r.keys ≡ met.keys → r.places ≡ met.places → r.records ≡ met.records → r.split ≡ met.split → r.deleted ≡ met.deleted → r.empty ≡ met.empty → r.gap ≡ gap_behind (cond (is_addressable d (length x)) (front_of last) 0) (length x) → IsSound d → HasRows d met.with_keys x r
unfolding readable
together_found d x met last r rise has first order bytes keys where_rows records split places empty gap s =
    let is_of = items_in d false x in
    let rows = ranges_of (rows_of is_of) in
    let count : total last ≡ total rows + total (frees_of is_of) = bytes ∙ ap (λ n. n + met.empty) has.row_bytes ∙ ap (λ n. total rows + n) has.frees.empty in
    let are : deleted d x ≡ frees_of is_of = all_deleted d x (apart_by_bytes rows (frees_of is_of) last (table_solid d x s) (rise_solid 0 (frees_of is_of) rise) (same_then _ _ _ has.held first) order count) in
    let at : r.deleted ≡ deleted_places d x = places ∙ has.frees.places ∙ ap (map (λ (a : Range). a.0)) (sym are) in
    let all : SameBytes (ranges_of (readable d false x) ++ deleted d x) last =
    same_then _ _ _ (same_of _ _ (ap (λ rs. ranges_of (readable d false x) ++ rs) are)) (same_then _ _ _ has.held first) in
    record {
      keys = λ on. keys ∙ has.keys on;
      records = records ∙ has.records;
      split = split ∙ has.split;
      places = subst (ArePlacesOf (readable d false x)) (sym where_rows) has.places;
      deleted = at;
      ascends = subst IsRising (sym at) (deleted_ascend d x rise);
      pointed = subst (ArePointed d (length x)) (sym at) (deleted_pointed d x s);
      empty = empty ∙ has.frees.empty ∙ ap total (sym are);
      gap = gap ∙ gap_by d x last all order;
    }

-- ---- the whole file

pub begins_known : (name x : List ℕ) (d : Defs) (end : ℕ) (scan : TableScan) (m : Holding) → scan ≡ fresh_scan name d false end → m name ≡ Some x → end ≡ length x → IsAsKnown scan m
begins_known name x d end scan m is file long =
    let here : bytes_of name m ≡ x = ap (λ o. unwrap_or o []) file in
    subst (λ (s : TableScan). IsAsKnown s m) (sym is) (fresh_known name d false end m (λ _. omega (arith, long, ap (λ (b : List ℕ). length b) here)))

pub all_ahead : (name x : List ℕ) (d : Defs) (end : ℕ) (scan : TableScan) (m : Holding) → scan ≡ fresh_scan name d false end → m name ≡ Some x → end ≡ length x → items_ahead scan m ≡ items_in d false x
all_ahead name x d end scan m is file long =
    let here : bytes_of name m ≡ x = ap (λ o. unwrap_or o []) file in
    ap (λ s. items_ahead s m) is ∙ fresh_ahead name d false end m ∙ ap (λ b. items_in d false (take end b)) here ∙ ap (items_in d false) (take_all end x (omega (arith, long)))

pub same_file : (name x y : List ℕ) (n : ℕ) (m : Holding) → m name ≡ Some x → m name ≡ Some y → n ≡ length x → n ≡ length y
same_file name x y n m one two long = long ∙ ap (λ o. length (unwrap_or o [])) (sym one ∙ two)
