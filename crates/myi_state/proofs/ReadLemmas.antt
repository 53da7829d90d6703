-- What stands in a file is what is read.
use Rattle.std.proofs.Common.{◌≡◌, ℕ, ◌+◌, ◌-◌, ◌<◌, ◌≤◌, Bool, true, false, List, [], ◌∷◌, ◌++◌, append_assoc, length, map, Option, Some, refl, sym, ap, subst, ◌∙◌, arith}
use Rattle.std.specs.Prelude.{unwrap_or, filter}
use Rattle.std.specs.List.{AllByRecursion, flat_map, list_any}
use Rattle.myi_base.specs.Ranges.{Range, is_apart}
use Rattle.myi_defs.specs.declared.types.RowFormat.{RowFormat}
use Rattle.myi_defs.specs.declared.types.RowFormat.TheVariants.{Static, Dynamic}
use Rattle.myi_defs.specs.declared.types.Defs.{Defs}
use Rattle.myi_defs.specs.Sound.{IsSound}
use Rattle.myi_frames.specs.Block.{block_of}
use Rattle.myi_pack.specs.Packed.{Values}
use Rattle.myi_pack.specs.Unpacking.{row_of}
use Rattle.myi_chain.specs.Chain.{Reading, IsReading, IsChain, range_of, ranges, row_bytes}
use Rattle.myi_chain.specs.Chain as chain
use Rattle.myi_chain.specs.Readable.{Row, Item, row, free, row_at, rows_of, frees_of}
use Rattle.myi_chain.specs.Readable as chains
use Rattle.myi_chain.specs.Meeting.{IsRowOf, IsDeletedOf, ranges_of}
use Rattle.myi_chain.specs.Parts.{Part, IsMadeOf, parts_met, has_byte}
use Rattle.myi_dellist.specs.Areas.{Area, HaveBytes, AreApart, IsApart}
use Rattle.myi_dellist.specs.Releasing.{IsFreeable}
use Rattle.myi_dellist.specs.Order.{put_in, in_order}
use Rattle.myi_data.specs.Readable.{items_in, readable, deleted}
use Rattle.myi_state.specs.State.{StoredRow, TableState, row_areas}
use Rattle.myi_state.specs.Sound.{AreInOrder, AreOneSlot, AreBlocks, AreHoles, IsRow, IsState}
use Rattle.myi_state.specs.Standing.{range_of_area, area_of_range, stored_row}
use Rattle.myi_state.proofs.TakenLemmas.{put-in-all, in-order-all}
use Rattle.myi_state.proofs.KeptLemmas.{slot-some}
use Rattle.myi_state.proofs.CellLemmas.{rows_in, frees_in, put-no-row, put-no-free, ShowsThere, AreBehind, put-row-first, free-no-rows, free-all, ranges-both, apart-all, apart-across, filter-all}

-- ---- rows of a state, whatever shows them

-- a readable row as one of a state
pub record Shows (shows : Area → List Item) (d : Defs) (r : StoredRow) : Type 0 where
  pub met : Row
  pub at : met.at ≡ r.at
  pub values : row_of d met.bytes ≡ Some r.values
  pub ranges_are : met.blocks ≡ map range_of_area r.blocks
  pub head : Area
  pub more : List Area
  pub is : r.blocks ≡ head ∷ more
  pub there : head.at ≡ r.at
  pub shown : shows head ≡ row met ∷ []
  pub nothing : AllByRecursion (λ (a : Area). shows a ≡ []) more

module _ (shows : Area → List Item) (d : Defs) where
  -- the rows that are met
  abbrev pub met_rows : (rows : List StoredRow) → AllByRecursion (Shows shows d) rows → List Row
  met_rows [] all = []
  met_rows (r ∷ rows) all = all.0.met ∷ met_rows rows all.1

  back_again : (areas : List Area) → map area_of_range (map range_of_area areas) ≡ areas
  back_again [] = refl
  back_again (a ∷ areas) =
      let size : a.at + a.size - a.at ≡ a.size = omega arith in
      ap (λ (n : ℕ). record { at = a.at; size = n } ∷ map area_of_range (map range_of_area areas)) size ∙ ap (λ (xs : List Area). a ∷ xs) (back_again areas)

  one_back : (r : StoredRow) → (s : Shows shows d r) → stored_row d s.met ≡ r
  one_back r s =
      ap (λ (p : ℕ). record { at = p; values = unwrap_or (row_of d s.met.bytes) []; blocks = map area_of_range s.met.blocks }) s.at
      ∙ ap (λ (o : Option Values). record { at = r.at; values = unwrap_or o []; blocks = map area_of_range s.met.blocks }) s.values
      ∙ ap (λ (xs : List Range). record { at = r.at; values = r.values; blocks = map area_of_range xs }) s.ranges_are
      ∙ ap (λ (xs : List Area). record { at = r.at; values = r.values; blocks = xs }) (back_again r.blocks)

  rows_back : (rows : List StoredRow) → (all : AllByRecursion (Shows shows d) rows) → map (stored_row d) (met_rows rows all) ≡ rows
  rows_back [] all = refl
  rows_back (r ∷ rows) all =
      ap (λ (q : StoredRow). q ∷ map (stored_row d) (met_rows rows all.1)) (one_back r all.0) ∙ ap (λ (qs : List StoredRow). r ∷ qs) (rows_back rows all.1)

  pub met_ranges : (rows : List StoredRow) → (all : AllByRecursion (Shows shows d) rows) → ranges_of (met_rows rows all) ≡ map range_of_area (row_areas rows)
  met_ranges [] all = refl
  met_ranges (r ∷ rows) all =
      ap (λ (xs : List Range). xs ++ ranges_of (met_rows rows all.1)) all.0.ranges_are
      ∙ ap (λ (xs : List Range). map range_of_area r.blocks ++ xs) (met_ranges rows all.1)
      ∙ sym (ranges-both r.blocks (row_areas rows))

  met_behind : (low : ℕ) (rows : List StoredRow) → (all : AllByRecursion (Shows shows d) rows) → AreInOrder (low + 1) rows → AreBehind shows low (met_rows rows all)
  met_behind low [] all order = tt
  met_behind low (r ∷ rows) all order = (omega (arith, all.0.at, order.0), met_behind low rows all.1 (lower (r.at + 1) (low + 1) rows (omega (arith, order.0)) order.1))
    where
      lower : (low more : ℕ) (rows : List StoredRow) → more ≤ low → AreInOrder low rows → AreInOrder more rows
      lower low more [] le h = tt
      lower low more (q ∷ qs) le h = (omega (arith, h.0), h.1)

  -- the rows met in areas in order of place
  pub record Cells (rows : List Row) (frees : List Range) (cells : List Area) : Type 0 where
    pub rows_are : rows_in shows cells ≡ rows
    pub frees_are : frees_in shows cells ≡ frees
    pub there : AllByRecursion (ShowsThere shows) cells

  hole_cells : (holes : List Area) → AllByRecursion (λ (a : Area). shows a ≡ free (range_of_area a) ∷ []) holes → Cells [] (map range_of_area (in_order holes)) (in_order holes)
  hole_cells holes all =
      let sorted = in-order-all (λ (a : Area). shows a ≡ free (range_of_area a) ∷ []) holes all in
      record { rows_are = free-no-rows shows (in_order holes) sorted; frees_are = free-all shows (in_order holes) sorted; there = there (in_order holes) sorted }
    where
      there : (cells : List Area) → AllByRecursion (λ (a : Area). shows a ≡ free (range_of_area a) ∷ []) cells → AllByRecursion (ShowsThere shows) cells
      there [] all = tt
      there (a ∷ cells) all = (subst (λ (xs : List Item). AllByRecursion (λ (r : Row). r.at ≡ a.at) (rows_of xs)) (sym all.0) tt, there cells all.1)

  -- blocks behind the first of a row
  more_cells : (more rest : List Area) (rows : List Row) (frees : List Range) → AllByRecursion (λ (a : Area). shows a ≡ []) more → Cells rows frees (in_order rest) → Cells rows frees (in_order (more ++ rest))
  more_cells [] rest rows frees none c = c
  more_cells (a ∷ more) rest rows frees none c =
      let ih = more_cells more rest rows frees none.1 c in
      record {
        rows_are = put-no-row shows a (in_order (more ++ rest)) (ap rows_of none.0) ∙ ih.rows_are;
        frees_are = put-no-free shows a (in_order (more ++ rest)) (ap frees_of none.0) ∙ ih.frees_are;
        there = put-in-all (ShowsThere shows) a (in_order (more ++ rest)) (subst (λ (xs : List Item). AllByRecursion (λ (r : Row). r.at ≡ a.at) (rows_of xs)) (sym none.0) tt) ih.there;
      }

  row_cells : (r : StoredRow) → (s : Shows shows d r) → (rest : List Area) (rows : List Row) (frees : List Range) → AreBehind shows r.at rows → Cells rows frees (in_order rest) → Cells (s.met ∷ rows) frees (in_order (r.blocks ++ rest))
  row_cells r s rest rows frees behind c =
      let m = more_cells s.more rest rows frees s.nothing c in
      let cells = in_order (s.more ++ rest) in
      let shown : rows_of (shows s.head) ≡ s.met ∷ [] = ap rows_of s.shown in
      let far : AreBehind shows s.head.at (rows_in shows cells) = subst (λ (xs : List Row). AreBehind shows s.head.at xs) (sym m.rows_are) (subst (λ (p : ℕ). AreBehind shows p rows) (sym s.there) behind) in
      let here : AllByRecursion (λ (q : Row). q.at ≡ s.head.at) (rows_of (shows s.head)) = subst (λ (xs : List Row). AllByRecursion (λ (q : Row). q.at ≡ s.head.at) xs) (sym shown) (s.at ∙ sym s.there, tt) in
      let put : Cells (s.met ∷ rows) frees (put_in s.head cells) = record {
        rows_are = put-row-first shows s.head s.met cells shown m.there far ∙ ap (λ (xs : List Row). s.met ∷ xs) m.rows_are;
        frees_are = put-no-free shows s.head cells (ap frees_of s.shown) ∙ m.frees_are;
        there = put-in-all (ShowsThere shows) s.head cells here m.there;
      } in
      subst (λ (xs : List Area). Cells (s.met ∷ rows) frees (in_order (xs ++ rest))) (sym s.is) put

  state_cells : (low : ℕ) (rows : List StoredRow) (holes : List Area) → (all : AllByRecursion (Shows shows d) rows) → AreInOrder low rows → AllByRecursion (λ (a : Area). shows a ≡ free (range_of_area a) ∷ []) holes → Cells (met_rows rows all) (map range_of_area (in_order holes)) (in_order (row_areas rows ++ holes))
  state_cells low [] holes all order gone = hole_cells holes gone
  state_cells low (r ∷ rows) holes all order gone =
      let ih = state_cells (r.at + 1) rows holes all.1 order.1 gone in
      let c = row_cells r all.0 (row_areas rows ++ holes) (met_rows rows all.1) (map range_of_area (in_order holes)) (met_behind r.at rows all.1 order.1) ih in
      subst (λ (xs : List Area). Cells (all.0.met ∷ met_rows rows all.1) (map range_of_area (in_order holes)) (in_order xs)) (sym (append_assoc r.blocks (row_areas rows) holes)) c

  -- ---- what is read of a file in which each area shows that

  pub record Reads (x : List ℕ) (s : TableState) : Type 0 where
    pub rows : map (stored_row d) (readable d false x) ≡ s.rows
    pub ranges_are : ranges_of (readable d false x) ≡ map range_of_area (row_areas s.rows)
    pub holes : deleted d x ≡ map range_of_area (in_order s.space.holes)

  holes_apart : (used : List Range) (rows holes : List Area) → used ≡ map range_of_area rows → AreApart (rows ++ holes) → AllByRecursion (λ (r : Range). is_apart r used ≡ true) (map range_of_area (in_order holes))
  holes_apart used rows holes e apart = ranged (in_order holes) (in-order-all (λ (a : Area). AllByRecursion (IsApart a) rows) holes (apart-across rows holes apart))
    where
      ranged : (areas : List Area) → AllByRecursion (λ (a : Area). AllByRecursion (IsApart a) rows) areas → AllByRecursion (λ (r : Range). is_apart r used ≡ true) (map range_of_area areas)
      ranged [] all = tt
      ranged (a ∷ areas) all = (subst (λ (u : List Range). is_apart (range_of_area a) u ≡ true) (sym e) (apart-all a rows all.0), ranged areas all.1)

  pub reads-by : (x : List ℕ) (s : TableState) → (all : AllByRecursion (Shows shows d) s.rows) → AreInOrder 0 s.rows → AllByRecursion (λ (a : Area). shows a ≡ free (range_of_area a) ∷ []) s.space.holes → AreApart (row_areas s.rows ++ s.space.holes) → items_in d false x ≡ flat_map shows (in_order (row_areas s.rows ++ s.space.holes)) → Reads x s
  unfolding readable deleted
  reads-by x s all order gone apart items =
      let c = state_cells 0 s.rows s.space.holes all order gone in
      let rows : rows_of (items_in d false x) ≡ met_rows s.rows all = ap rows_of items ∙ c.rows_are in
      let frees : frees_of (items_in d false x) ≡ map range_of_area (in_order s.space.holes) = ap frees_of items ∙ c.frees_are in
      let used : ranges_of (rows_of (items_in d false x)) ≡ map range_of_area (row_areas s.rows) = ap ranges_of rows ∙ met_ranges s.rows all in
      record {
        rows = ap (λ (qs : List Row). map (stored_row d) qs) rows ∙ rows_back s.rows all;
        ranges_are = used;
        holes =
            ap (λ (xs : List Range). filter (λ a. is_apart a (ranges_of (rows_of (items_in d false x)))) xs) frees
            ∙ filter-all (λ a. is_apart a (ranges_of (rows_of (items_in d false x)))) (map range_of_area (in_order s.space.holes)) (holes_apart (ranges_of (rows_of (items_in d false x))) (row_areas s.rows) s.space.holes used apart);
      }

-- ---- the areas of a state have bytes

one_slot_bytes : (size : ℕ) (areas rest : List Area) → 0 < size → AreOneSlot size areas → HaveBytes rest → HaveBytes (areas ++ rest)
one_slot_bytes size [] rest some one more = absurd one
one_slot_bytes size (a ∷ []) rest some one more = (omega (arith, some, one), more)
one_slot_bytes size (a ∷ b ∷ areas) rest some one more = absurd one

freeable_bytes : (areas rest : List Area) → AllByRecursion IsFreeable areas → HaveBytes rest → HaveBytes (areas ++ rest)
freeable_bytes [] rest all more = more
freeable_bytes (a ∷ areas) rest all more = (omega (arith, all.0.least), freeable_bytes areas rest all.1 more)

blocks_bytes : (f : RowFormat) (size : ℕ) (areas rest : List Area) → (f ≡ Static → 0 < size) → AreBlocks f size areas → HaveBytes rest → HaveBytes (areas ++ rest)
blocks_bytes Static size areas rest some all more = one_slot_bytes size areas rest (some refl) all more
blocks_bytes Dynamic size areas rest some all more = freeable_bytes areas rest all more

holes_bytes : (f : RowFormat) (size : ℕ) (holes : List Area) → (f ≡ Static → 0 < size) → AreHoles f size holes → HaveBytes holes
holes_bytes f size [] some all = tt
holes_bytes Static size (h ∷ holes) some all = (omega (arith, some refl, all.0), holes_bytes Static size holes some all.1)
holes_bytes Dynamic size (h ∷ holes) some all = (omega (arith, all.0.least), holes_bytes Dynamic size holes some all.1)

pub rows-bytes : (d : Defs) → IsSound d → (rows : List StoredRow) (holes : List Area) → AllByRecursion (IsRow d) rows → HaveBytes holes → HaveBytes (row_areas rows ++ holes)
rows-bytes d sound [] holes all more = more
rows-bytes d sound (r ∷ rows) holes all more =
    subst (λ (xs : List Area). HaveBytes xs) (sym (append_assoc r.blocks (row_areas rows) holes))
    (blocks_bytes d.format d.slot_length r.blocks (row_areas rows ++ holes) (slot-some d sound) all.0.blocks (rows-bytes d sound rows holes all.1 more))

pub state-bytes : (d : Defs) (s : TableState) → IsSound d → IsState d s → HaveBytes (row_areas s.rows ++ s.space.holes)
state-bytes d s sound i = rows-bytes d sound s.rows s.space.holes i.rows (holes_bytes d.format d.slot_length s.space.holes (slot-some d sound) i.holes)

-- ---- what a file made of blocks is

-- how a file of rows and deleted blocks is read, as the laws on chains say
abbrev pub ReadsParts : Type 0
ReadsParts = (accepts : List ℕ → Bool) (x : List ℕ) (ps : List Part) → IsMadeOf (block_of x) accepts (length x) ps → chains.items_in false accepts x ≡ parts_met ps

abbrev pub IsCovered : Type 0
IsCovered = (read : Reading) (len : ℕ) (accepts : List ℕ → Bool) → IsReading read len → (rows : List Row) (frees : List Range) → AllByRecursion (IsRowOf read accepts) rows → AllByRecursion (IsDeletedOf read) frees → chain.AreApart [] (ranges_of rows ++ frees) → ((p : ℕ) → p < len → list_any (has_byte p) (ranges_of rows ++ frees) ≡ true) → (ps : List Part) × IsMadeOf read accepts len ps
