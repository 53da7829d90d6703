-- Readable rows stand at their places, and what is read there is the row.
use Rattle.std.proofs.Common.{◌≡◌, ◌∙◌, ℕ, zero, suc, ◌+◌, ◌-◌, false, List, [], ◌∷◌, ◌++◌, length, map, take, drop, min, unwrap_or, ◌≤◌, Some, refl, sym, ap, subst, arith}
use Rattle.std.specs.List.{flat_map, AllByRecursion}
use Rattle.std.proofs.lemmas.List.{append-nil, drop_all, take-take, length-take-le, length-drop, drop-drop}
use Rattle.myi_base.specs.Ranges.{Range}
use Rattle.myi_window.specs.Excerpt.{Excerpt, bytes_from, StandsIn}
use Rattle.myi_window.proofs.CallerLemmas.{excerpt_front}
use Rattle.myi_defs.specs.declared.types.Defs.{Defs}
use Rattle.myi_defs.specs.declared.types.RowFormat.{RowFormat}
use Rattle.myi_defs.specs.declared.types.RowFormat.TheVariants.{Static, Dynamic}
use Rattle.myi_frames.specs.Block.{Block, block_of}
use Rattle.myi_pack.specs.Packed.{Values}
use Rattle.myi_pack.specs.Unpacking.{row_of}
use Rattle.myi_chain.specs.Chain.{IsChain, ranges, ranges_at, placed, row_bytes}
use Rattle.myi_chain.specs.Readable.{Row, Item, row, free, rows_of, rest}
use Rattle.myi_chain.specs.Readable as chains
use Rattle.myi_chain.specs.Meeting.{IsItemOf, IsRowOf}
use Rattle.myi_chain.proofs.CallerLemmas.{blocks_read, rest_fine}
use Rattle.myi_data.specs.Slots.{Slot, slots}
use Rattle.myi_data.specs.Readable.{packs, slot_items, items_at, items_by, items_in, readable}
use Rattle.myi_data.proofs.CallerLemmas.{slot_cases}
use Rattle.myi_pair.specs.Clean.{values_of, sized_row}
use Rattle.myi_order.specs.declared.row_at.RowAt.{RowAt}
use Rattle.myi_order.specs.AtPlaces.{IsInSlot, StandsBy, Stands, Holds}

-- ---- readable rows stand at their places

slots_stand : (d : Defs) (x xs : List ℕ) (n at : ℕ) → xs ≡ drop at x → AllByRecursion (IsInSlot d x) (rows_of (flat_map (slot_items (packs d)) (slots n at d.slot_length xs)))
slots_stand d x xs zero at is = tt
slots_stand d x xs (suc n) at is =
    let slot : Slot = record { at = at; bytes = take d.slot_length xs } in
    let more : List Item = flat_map (slot_items (packs d)) (slots n (at + d.slot_length) d.slot_length (drop d.slot_length xs)) in
    let next : drop d.slot_length xs ≡ drop (at + d.slot_length) x = ap (drop d.slot_length) is ∙ drop-drop d.slot_length at x in
    let behind : AllByRecursion (IsInSlot d x) (rows_of more) = slots_stand d x (drop d.slot_length xs) n (at + d.slot_length) next in
    slot_cases (λ (is : List Item). AllByRecursion (IsInSlot d x) (rows_of (is ++ more))) (packs d) slot (λ _. behind) (λ _. (record { bytes = ap (take d.slot_length) is; blocks = refl }, behind)) behind

items_stand : (d : Defs) (x : List ℕ) (is : List Item) → AllByRecursion (IsItemOf (block_of x) (packs d)) is → AllByRecursion (IsRowOf (block_of x) (packs d)) (rows_of is)
items_stand d x [] all = tt
items_stand d x (free a ∷ is) all = items_stand d x is all.1
items_stand d x (row r ∷ is) all = (all.0, items_stand d x is all.1)

stand_by : (f : RowFormat) (d : Defs) (x : List ℕ) → AllByRecursion (StandsBy f d x) (rows_of (items_by f d false x))
unfolding items_at chains.items_in
stand_by Static d x = slots_stand d x x _ 0 refl
stand_by Dynamic d x = items_stand d x (rest false (block_of x) (length x) (packs d) 0 []) (rest_fine (block_of x) (length x) (blocks_read x) false (packs d) 0 []).0

pub readable_stand : (d : Defs) (x : List ℕ) → AllByRecursion (Stands d x) (readable d false x)
unfolding readable items_in
readable_stand d x = stand_by d.format d x

-- ---- what is read of a file

pub filled-behind : (start at count k : ℕ) (into new post d : List ℕ) → start ≤ length into → k ≡ length into - start → start + count ≡ length into → post ≡ [] → count ≡ min (length (take k (drop start into))) (length (drop at d)) → new ≡ take (length (take k (drop start into))) (drop at d) ++ drop (length (drop at d)) (take k (drop start into))
    → take start into ++ (new ++ post) ≡ take start into ++ take count (drop at d)
filled-behind start at count k into new post d inside size long none told bytes =
    let rest : length (drop start into) ≡ length into - start = length-drop start into in
    let mid : length (take k (drop start into)) ≡ k = length-take-le k (drop start into) (omega arith) in
    let all : count ≡ k = omega (arith, long, size) in
    let tail : drop (length (drop at d)) (take k (drop start into)) ≡ [] = drop_all (length (drop at d)) (take k (drop start into)) (omega (arith, told, mid, all)) in
    let is : new ≡ take count (drop at d) = bytes ∙ ap (λ (ys : List ℕ). take (length (take k (drop start into))) (drop at d) ++ ys) tail ∙ append-nil (take (length (take k (drop start into))) (drop at d)) ∙ ap (λ n. take n (drop at d)) (mid ∙ sym all) in
    ap (λ (ys : List ℕ). take start into ++ (new ++ ys)) none ∙ ap (λ (ys : List ℕ). take start into ++ ys) (append-nil new ∙ is)

-- bytes that are held of a file from a place on are the file's
pub held_front : (at count : ℕ) (e : Excerpt) (d : List ℕ) → StandsIn e d → count ≤ length (bytes_from at e) → take count (bytes_from at e) ≡ take count (drop at d)
held_front at count e d stands few = ap (take count) (excerpt_front at e d stands) ∙ take-take count (length (bytes_from at e)) (drop at d) few

-- ---- what was read is the row

ranges_placed : (bs : List Block) → ranges_at (placed bs) ≡ ranges bs
ranges_placed [] = refl
ranges_placed (b ∷ bs) = ap (λ (rs : List Range). (b.at, b.at + b.size) ∷ rs) (ranges_placed bs)

pub chain_held : (d : Defs) (x : List ℕ) (at : ℕ) (a : RowAt) (r : Row) → d.format ≡ Dynamic → r.at ≡ at → (stands : Stands d x r) → ((bs : List Block) → IsChain (block_of x) at [] bs → (a.bytes.items ≡ row_bytes bs) × (a.blocks.items ≡ placed bs)) → Holds a r
chain_held d x at a r dynamic here stands told =
    let is : IsRowOf (block_of x) (packs d) r = subst (λ f. StandsBy f d x r) dynamic stands in
    let read = told is.chain (subst (λ p. IsChain (block_of x) p [] is.chain) here is.is) in
    record {
      bytes = read.0 ∙ sym is.bytes;
      blocks = ap ranges_at read.1 ∙ ranges_placed is.chain ∙ sym is.blocks;
    }

-- ---- a row that was read is spelled

sizes_of : (blocks : List (ℕ × ℕ)) → map (λ (a : Range). a.1 - a.0) (ranges_at blocks) ≡ map (λ b. b.1) blocks
sizes_of [] = refl
sizes_of (b ∷ blocks) = let e : (b.0 + b.1) - b.0 ≡ b.1 = omega arith in ap (λ n. n ∷ map (λ (a : Range). a.1 - a.0) (ranges_at blocks)) e ∙ ap (λ ns. b.1 ∷ ns) (sizes_of blocks)

pub sized_as : (d : Defs) (a : RowAt) (r : Row) (bytes : List ℕ) (view : Values) → bytes ≡ a.bytes.items → row_of d bytes ≡ Some view → Holds a r → sized_row d r ≡ record { values = view; sizes = map (λ b. b.1) a.blocks.items }
sized_as d a r bytes view shows read holds =
    let values : values_of d r ≡ view = ap (λ b. unwrap_or (row_of d b) []) (sym (shows ∙ holds.bytes)) ∙ ap (λ o. unwrap_or o []) read in
    ap (λ v. record { values = v; sizes = map (λ (s : Range). s.1 - s.0) r.blocks }) values
    ∙ ap (λ (rs : List Range). record { values = view; sizes = map (λ (s : Range). s.1 - s.0) rs }) (sym holds.blocks) ∙ ap (λ ss. record { values = view; sizes = ss }) (sizes_of a.blocks.items)
