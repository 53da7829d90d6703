-- A file of rows, each in its blocks or its slot, is read as these rows.
use Rattle.std.proofs.Common.{◌≡◌, ℕ, ◌+◌, ◌-◌, ◌%◌, ◌^◌, ◌<◌, ◌≤◌, Bool, true, false, eqb, List, [], ◌∷◌, ◌++◌, length, take, drop, refl, sym, ap, subst, ◌∙◌, arith, append_assoc, length-append}
use Rattle.std.specs.Prelude.{slice_index, All, is_some}
use Rattle.std.specs.List.{flat_map, AllByRecursion}
use Rattle.std.proofs.lemmas.Bool.{ne_eqb}
use Rattle.std.proofs.lemmas.List.{take_at, drop_at}
use Rattle.std.proofs.lemmas.List.Elements.{recursion_from_All}
use Rattle.myi_defs.specs.declared.types.RowFormat.{RowFormat}
use Rattle.myi_defs.specs.declared.types.RowFormat.TheVariants.{Static, Dynamic}
use Rattle.myi_defs.specs.declared.types.Defs.{Defs}
use Rattle.myi_defs.specs.Sound.{IsSound}
use Rattle.myi_frames.specs.Block.{Block, block_of}
use Rattle.myi_frames.specs.Sizes.{total_size}
use Rattle.myi_pack.specs.Packed.{Values, IsStaticRow, IsRow}
use Rattle.myi_pack.specs.Spelling.{spelling, fits}
use Rattle.myi_pack.proofs.CallerLemmas.{row-spelled, row-reads}
use Rattle.myi_base.specs.Ranges.{Range}
use Rattle.myi_chain.specs.Chain.{ranges}
use Rattle.myi_chain.specs.Readable.{Row, Item, row_at, rows_of}
use Rattle.myi_chain.specs.Readable as chains
use Rattle.myi_chain.specs.Laid.{AreGroups, group_rows}
use Rattle.myi_chain.proofs.CallerLemmas.{groups_read}
use Rattle.myi_data.specs.Slots.{Slot, slots_in}
use Rattle.myi_data.specs.Readable.{packs, slot_row, slot_items, items_at, items_by, items_in, readable}
use Rattle.myi_data.specs.Stored.{SizedRow, Share, group_by, stored_by, group, stored_size, stored_from, stored_file, ranges_from, stored_rows, IsStorable}
use Rattle.myi_data.proofs.ShareLemmas.{total_shares}
use Rattle.myi_data.proofs.StandLemmas.{row_blocks, IsShaped, row_shaped, can_stand, stored_dynamic, group_dynamic, stored_static, group_static, size_static}
use Rattle.myi_data.proofs.SlotLaws.{slots_none, slots_more}

packs_spelling : (d : Defs) (v : Values) → IsSound d → fits d v ≡ true → packs d (spelling d v) ≡ true
packs_spelling d v s f = ap is_some (row-reads d v s f)

-- ---- blocks

groups_from : Defs → ℕ → List SizedRow → List (List Block)
groups_from d at [] = []
groups_from d at (r ∷ rs) = row_blocks at r.sizes (spelling d r.values) ∷ groups_from d (at + stored_size d r) rs

module _ (d : Defs) (s : IsSound d) (dynamic : d.format ≡ Dynamic) where
  shaped : (at : ℕ) (r : SizedRow) → IsStorable d r → IsShaped at (spelling d r.values) (stored_by Dynamic at r.sizes (spelling d r.values)) (group_by Dynamic r.sizes (length (spelling d r.values))) (row_blocks at r.sizes (spelling d r.values))
  shaped at r can = row_shaped at r.sizes (spelling d r.values) (can_stand d r s dynamic can)

  size_is : (r : SizedRow) → stored_size d r ≡ total_shares (group_by Dynamic r.sizes (length (spelling d r.values)))
  size_is r = ap (λ (g : List Share). total_shares g) (group_dynamic d r dynamic)

  groups_laid : (at : ℕ) (rs : List SizedRow) (x front : List ℕ) → AllByRecursion (IsStorable d) rs → length front ≡ at → at % 4 ≡ 0 → length x < 2 ^ 64 - 1 → x ≡ front ++ stored_from d at rs → AreGroups (block_of x) (packs d) (length x) at (groups_from d at rs)
  unfolding groups_from
  groups_laid at [] x front all long aligned near is = omega (arith, long, length-append front [], ap (λ (y : List ℕ). length y) is)
  groups_laid at (r ∷ rs) x front all long aligned near is =
      let text : List ℕ = spelling d r.values in
      let shape = shaped at r all.0 in
      let here : List ℕ = stored_by Dynamic at r.sizes text in
      let size : stored_size d r ≡ total_shares (group_by Dynamic r.sizes (length text)) = size_is r in
      let next : ℕ = at + stored_size d r in
      let behind : List ℕ = stored_from d next rs in
      let whole : x ≡ front ++ (here ++ behind) = is ∙ ap (λ (y : List ℕ). front ++ (y ++ behind)) (stored_dynamic d r at dynamic) in
      let far : length (front ++ here) ≡ next = omega (arith, length-append front here, long, shape.long, size) in
      let count : length x ≡ next + length behind = omega (arith, ap (λ (y : List ℕ). length y) whole, length-append front (here ++ behind), length-append here behind, long, shape.long, size) in
      let split : x ≡ (front ++ here) ++ behind = whole ∙ sym (append_assoc front here behind) in
      let multiple : next % 4 ≡ 0 = omega (arith, aligned, shape.multiple, size) in
      let total : next ≡ at + total_size (row_blocks at r.sizes text) = omega (arith, size, shape.total) in (
        record {
          chain = shape.chain x front behind long aligned (omega (arith, near, count, size)) whole;
          joined = shape.joined;
          packs = ap (packs d) shape.row ∙ packs_spelling d r.values s all.0.fits;
        },
        subst (λ k. AreGroups (block_of x) (packs d) (length x) k (groups_from d next rs)) total (groups_laid next rs x (front ++ here) all.1 far multiple near split),
      )

  rows_grouped : (at : ℕ) (rs : List SizedRow) → AllByRecursion (IsStorable d) rs → group_rows at (groups_from d at rs) ≡ stored_rows d at rs
  unfolding stored_rows groups_from
  rows_grouped at [] all = refl
  rows_grouped at (r ∷ rs) all =
      let text : List ℕ = spelling d r.values in
      let shape = shaped at r all.0 in
      let next : ℕ = at + stored_size d r in
      let blocks : List Block = row_blocks at r.sizes text in
      let total : at + total_size blocks ≡ next = omega (arith, size_is r, shape.total) in
      ap (λ k. row_at at blocks ∷ group_rows k (groups_from d next rs)) total
      ∙ ap (λ (b : List ℕ). record { at = at; bytes = b; blocks = ranges blocks } ∷ group_rows next (groups_from d next rs)) shape.row
      ∙ ap (λ (a : List Range). record { at = at; bytes = text; blocks = a } ∷ group_rows next (groups_from d next rs)) (shape.ranges ∙ ap (ranges_from at) (sym (group_dynamic d r dynamic)))
      ∙ ap (λ (rows : List Row). record { at = at; bytes = text; blocks = ranges_from at (group d r) } ∷ rows) (rows_grouped next rs all.1)

  pub blocks_read_back : (extend : Bool) (rs : List SizedRow) → AllByRecursion (IsStorable d) rs → length (stored_file d rs) < 2 ^ 64 - 1 → readable d extend (stored_file d rs) ≡ stored_rows d 0 rs
  unfolding readable items_in chains.readable stored_file
  blocks_read_back extend rs all near =
      let x : List ℕ = stored_file d rs in
      let laid : AreGroups (block_of x) (packs d) (length x) 0 (groups_from d 0 rs) = groups_laid 0 rs x [] all refl refl near refl in
      ap (λ (f : RowFormat). rows_of (items_by f d extend x)) dynamic ∙ groups_read extend (packs d) x (groups_from d 0 rs) laid ∙ rows_grouped 0 rs all

-- ---- slots

module _ (d : Defs) (s : IsSound d) (static : d.format ≡ Static) where
  static_row : (v : Values) → fits d v ≡ true → IsStaticRow d.fields d.slot_length v (spelling d v)
  static_row v fit = subst (λ (f : RowFormat). IsRow f d v (spelling d v)) static (row-spelled d v s fit)

  size_some : 0 < d.slot_length
  size_some = omega (arith, s.slot_pointer static)

  first_at : (a b : List ℕ) → 0 < length a → slice_index (a ++ b) 0 ≡ slice_index a 0
  first_at [] b some = absurd (omega arith)
  first_at (x ∷ a) b some = refl

  rows_back : (at : ℕ) (rs : List SizedRow) → AllByRecursion (IsStorable d) rs → rows_of (items_at (packs d) d.slot_length at (stored_from d at rs)) ≡ stored_rows d at rs
  unfolding items_at stored_rows
  rows_back at [] all =
      let none : slots_in at d.slot_length [] ≡ [] = slots_none at d.slot_length [] (omega (arith, size_some)) in
      ap (λ (ss : List Slot). rows_of (flat_map (slot_items (packs d)) ss)) none
  rows_back at (r ∷ rs) all =
      let text : List ℕ = spelling d r.values in
      let size = d.slot_length in
      let is : IsStaticRow d.fields size r.values text = static_row r.values all.0.fits in
      let long : length text ≡ size = is.slot in
      let taken : stored_size d r ≡ size = size_static d r static ∙ long in
      let behind : List ℕ = stored_from d (at + stored_size d r) rs in
      let inside : size ≤ length (text ++ behind) = omega (arith, long, length-append text behind) in
      let more = slots_more at size (text ++ behind) size_some inside in
      let front : take size (text ++ behind) ≡ text = take_at text behind size long in
      let rest : drop size (text ++ behind) ≡ behind = drop_at text behind size long in
      let test : eqb (slice_index text 0) 0 ≡ false = ne_eqb _ _ is.read in
      let ok : packs d text ≡ true = packs_spelling d r.values s all.0.fits in
      let slot : Slot = record { at = at; bytes = text } in
      let one : slot_items (packs d) slot ≡ chains.row (slot_row slot) ∷ [] = rw (test, ok) refl in
      let split : slots_in at size (text ++ behind) ≡ slot ∷ slots_in (at + size) size behind = more ∙ ap (λ (b : List ℕ). record { at = at; bytes = b } ∷ slots_in (at + size) size (drop size (text ++ behind))) front ∙ ap (λ (b : List ℕ). slot ∷ slots_in (at + size) size b) rest in
      let here : rows_of (flat_map (slot_items (packs d)) (slots_in at size (text ++ behind))) ≡ slot_row slot ∷ rows_of (flat_map (slot_items (packs d)) (slots_in (at + size) size behind)) =
      ap (λ (ss : List Slot). rows_of (flat_map (slot_items (packs d)) ss)) split ∙ ap (λ (is : List Item). rows_of (is ++ flat_map (slot_items (packs d)) (slots_in (at + size) size behind))) one in
      let there : rows_of (flat_map (slot_items (packs d)) (slots_in (at + size) size behind)) ≡ stored_rows d (at + stored_size d r) rs =
      ap (λ k. rows_of (flat_map (slot_items (packs d)) (slots_in (at + k) size behind))) (sym taken) ∙ rows_back (at + stored_size d r) rs all.1 in
      let single : group d r ≡ record { size = length text; taken = length text } ∷ [] = group_static d r static in
      ap (λ (b : List ℕ). rows_of (flat_map (slot_items (packs d)) (slots_in at size (b ++ behind)))) (stored_static d r at static) ∙ here
      ∙ ap (λ (rows : List Row). slot_row slot ∷ rows) there
      ∙ ap (λ (g : List Share). record { at = at; bytes = text; blocks = ranges_from at g } ∷ stored_rows d (at + stored_size d r) rs) (sym single)

  pub slots_read_back : (extend : Bool) (rs : List SizedRow) → AllByRecursion (IsStorable d) rs → readable d extend (stored_file d rs) ≡ stored_rows d 0 rs
  unfolding readable items_in stored_file
  slots_read_back extend rs all = ap (λ (f : RowFormat). rows_of (items_by f d extend (stored_file d rs))) static ∙ rows_back 0 rs all

pub stored_read : (d : Defs) (extend : Bool) (rs : List SizedRow) → IsSound d → All (IsStorable d) rs → (d.format ≡ Dynamic → length (stored_file d rs) < 2 ^ 64 - 1) → readable d extend (stored_file d rs) ≡ stored_rows d 0 rs
stored_read d extend rs s all near = of_format d.format refl
  where
    each : AllByRecursion (IsStorable d) rs
    each = recursion_from_All (IsStorable d) rs all

    of_format : (f : RowFormat) → d.format ≡ f → readable d extend (stored_file d rs) ≡ stored_rows d 0 rs
    of_format Static e = slots_read_back d s e extend rs each
    of_format Dynamic e = blocks_read_back d s e extend rs each (near e)
