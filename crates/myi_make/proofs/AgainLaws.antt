-- A repair does not rest on the state that a header has: under definitions that are read again it leaves the same files.
use Rattle.std.proofs.Common.{◌≡◌, ℕ, ◌+◌, ◌-◌, ◌*◌, ◌≤◌, ◌/◌, Bool, Option, List, [], ◌∷◌, ◌++◌, length, map, take, drop, replicate, sum_by, refl, sym, ap, subst, ◌∙◌, arith}
use Rattle.std.proofs.lemmas.List.Sums.{sum_by-cons}
use Rattle.std.proofs.lemmas.List.{drop-take, take-take, take_all}
use Rattle.myi_base.specs.Numbers.{num_at}
use Rattle.myi_base.specs.Holding.{Holding}
use Rattle.myi_defs.specs.declared.types.RowFormat.{RowFormat}
use Rattle.myi_defs.specs.declared.types.RowFormat.TheVariants.{Static, Dynamic}
use Rattle.myi_defs.specs.declared.types.Defs.{Defs}
use Rattle.myi_defs.specs.Sound.{IsSound}
use Rattle.myi_defs.specs.Elsewhere.{AgreeOutsideState}
use Rattle.myi_defs.specs.Layout.{mark}
use Rattle.myi_defs.specs.declared.layout.Layout.{Layout}
use Rattle.myi_header.specs.declared.state.State.{State}
use Rattle.myi_header.specs.Parts.{part}
use Rattle.myi_header.specs.Layout.{layout_of, first_page_of}
use Rattle.myi_header.specs.StateOf.{state_of}
use Rattle.myi_header.specs.HeaderOf.{state_bytes, header_of}
use Rattle.myi_header.proofs.CallerLemmas.{state-take}
use Rattle.myi_pack.specs.Packed.{Values}
use Rattle.myi_pack.specs.Spelling.{spelled_row, spelling}
use Rattle.myi_chain.specs.Readable.{Row}
use Rattle.myi_data.specs.Readable.{readable}
use Rattle.myi_data.specs.Stored.{SizedRow, Share, group_by, group, stored_by, stored_size, stored, stored_from, stored_file, block_count}
use Rattle.myi_keylist.specs.declared.pair.Pair.{Pair}
use Rattle.myi_btree.specs.Walk.{Node}
use Rattle.myi_btree.specs.Sizes.{fits_in}
use Rattle.myi_btree.specs.LaidPages.{laid}
use Rattle.myi_pair.specs.FirstRows.{key_numbers}
use Rattle.myi_pair.specs.KeyList.{PlacedRow, key_list}
use Rattle.myi_pair.specs.Trees.{block_of_key, place_of}
use Rattle.myi_pair.specs.RebuiltBytes.{placed_from, LaidTrees, pages_then, laid_trees, key_lists, new_trees, without_free_pages, new_state, rebuilt_state, rebuilt_index}
use Rattle.myi_pair.specs.RecoveredBytes.{kept, new_data, new_index}
use Rattle.myi_pair.specs.Recovered.{IsRepairable}
use Rattle.myi_pair.proofs.CallerLemmas.{recovered, with_raw, IsLike, front_number, layout_same, first_same, state_same, header_like, readable_same, list_same, kept_same}
use Rattle.myi_repair.specs.declared.report.Report.{Report}
use Rattle.myi_repair.specs.Names.{names_for, Holds}
use Rattle.myi_repair.specs.Gathering.{report_of}
use Rattle.myi_repair.specs.Repaired.{Repaired}
use Rattle.myi_keyedrows.specs.Files.{defs_with}
use Rattle.myi_make.specs.Again.{IsAgain}

-- ---- what definitions with another header say of rows that are stored, and of trees

module _ (d : Defs) (r : List ℕ) where
  spelled_same : (f : RowFormat) (v : Values) → spelled_row f (with_raw d r) v ≡ spelled_row f d v
  spelled_same Static v = refl
  spelled_same Dynamic v = refl

  group_same : (row : SizedRow) → group (with_raw d r) row ≡ group d row
  unfolding spelling group
  group_same row = ap (λ (b : List ℕ). group_by d.format row.sizes (length b)) (spelled_same d.format row.values)

  stored_same : (at : ℕ) (row : SizedRow) → stored (with_raw d r) at row ≡ stored d at row
  unfolding spelling stored
  stored_same at row = ap (stored_by d.format at row.sizes) (spelled_same d.format row.values)

  size_same : (row : SizedRow) → stored_size (with_raw d r) row ≡ stored_size d row
  size_same row = ap (λ (g : List Share). sum_by (λ s. s.size) g) (group_same row)

  from_same : (at : ℕ) (rows : List SizedRow) → stored_from (with_raw d r) at rows ≡ stored_from d at rows
  from_same at [] = refl
  from_same at (row ∷ rows) =
      ap (λ b. b ++ stored_from (with_raw d r) (at + stored_size (with_raw d r) row) rows) (stored_same at row)
      ∙ ap (λ n. stored d at row ++ stored_from (with_raw d r) (at + n) rows) (size_same row)
      ∙ ap (λ bs. stored d at row ++ bs) (from_same (at + stored_size d row) rows)

  laid_same : (rows : List SizedRow) → stored_file (with_raw d r) rows ≡ stored_file d rows
  unfolding stored_file
  laid_same rows = from_same 0 rows

  count_same : (rows : List SizedRow) → block_count (with_raw d r) rows ≡ block_count d rows
  count_same [] = refl
  count_same (row ∷ rows) =
      sum_by-cons (λ (q : SizedRow). length (group (with_raw d r) q)) row rows
      ∙ omega (arith, ap (λ (g : List Share). length g) (group_same row), count_same rows)
      ∙ sym (sum_by-cons (λ (q : SizedRow). length (group d q)) row rows)

  places_same : (at : ℕ) (rows : List SizedRow) → placed_from (with_raw d r) at rows ≡ placed_from d at rows
  places_same at [] = refl
  places_same at (row ∷ rows) =
      ap (λ n. (at, row.values) ∷ placed_from (with_raw d r) (at + n) rows) (size_same row) ∙ ap (λ (rs : List PlacedRow). (at, row.values) ∷ rs) (places_same (at + stored_size d row) rows)

  lists_same : (ks : List ℕ) (rows : List PlacedRow) → map (λ k. key_list (with_raw d r) k rows) ks ≡ map (λ k. key_list d k rows) ks
  lists_same [] rows = refl
  lists_same (k ∷ ks) rows = ap (λ (list : List Pair). list ∷ map (λ j. key_list (with_raw d r) j rows) ks) (list_same d r k rows) ∙ ap (λ (lists : List (List Pair)). key_list d k rows ∷ lists) (lists_same ks rows)

  laid_trees_same : (first : ℕ) (ks : List ℕ) (lists : List (List Pair)) → laid_trees (with_raw d r) first ks lists ≡ laid_trees d first ks lists
  laid_trees_same first [] lists = refl
  laid_trees_same first (k ∷ ks) [] = refl
  laid_trees_same first (k ∷ ks) (pairs ∷ lists) =
      let nodes : List Node = laid (fits_in (place_of d k)) (block_of_key d k) first pairs in
      ap (pages_then d k first nodes) (laid_trees_same (first + block_of_key d k * length nodes) ks lists)

  trees_same : (rows : List SizedRow) → first_page_of (with_raw d r) ≡ first_page_of d → new_trees (with_raw d r) rows ≡ new_trees d rows
  unfolding new_trees
  trees_same rows first =
      ap (λ at. laid_trees (with_raw d r) at (key_numbers d) (key_lists (with_raw d r) (placed_from (with_raw d r) 0 rows))) first
      ∙ ap (λ (rs : List PlacedRow). laid_trees (with_raw d r) (first_page_of d) (key_numbers d) (key_lists (with_raw d r) rs)) (places_same 0 rows)
      ∙ ap (laid_trees (with_raw d r) (first_page_of d) (key_numbers d)) (lists_same (key_numbers d) (placed_from d 0 rows))
      ∙ laid_trees_same (first_page_of d) (key_numbers d) (key_lists d (placed_from d 0 rows))

-- ---- the header that is written

header_by : List ℕ → Layout → State → List ℕ → List ℕ → ℕ → List ℕ
header_by front l s base back zeros = front ++ (state_bytes l s ++ (base ++ (mark ++ (back ++ replicate zeros 0))))

like : (d : Defs) (r : List ℕ) → IsAgain d r → IsLike d r
like d r again = record { front = again.front; long = again.long }

header_same : (d : Defs) (r : List ℕ) (t : State) → IsAgain d r → header_of (with_raw d r) t ≡ header_of d t
unfolding header_of header_by
header_same d r t again =
    let b = (layout_of d).base in
    let z : ℕ = first_page_of (with_raw d r) - length r in
    ap (λ (l : Layout). header_by (take 24 r) l t (part l.base 94 r) (drop (l.base + 100) r) z) (layout_same d r (like d r again))
    ∙ ap (λ front. header_by front (layout_of d) t (part b 94 r) (drop (b + 100) r) z) again.front
    ∙ ap (λ base. header_by (take 24 d.raw) (layout_of d) t base (drop (b + 100) r) z) again.base
    ∙ ap (λ back. header_by (take 24 d.raw) (layout_of d) t (part b 94 d.raw) back z) again.back
    ∙ ap (λ n. header_by (take 24 d.raw) (layout_of d) t (part b 94 d.raw) (drop (b + 100) d.raw) n) (let same : z ≡ first_page_of d - length d.raw = omega (arith, first_same d r (like d r again), again.long) in same)

emptied_same : (d : Defs) (r rest : List ℕ) → take 24 r ≡ take 24 d.raw → without_free_pages (with_raw d r) rest ≡ without_free_pages d rest
emptied_same d r rest front = ap (λ sizes. take 24 rest ++ (replicate (8 * sizes) 255 ++ drop (24 + 8 * sizes) rest)) (front_number 21 1 r d.raw (omega arith) front)

-- the state that a repair leaves
new_same : (d : Defs) (r : List ℕ) (n blocks long end now : ℕ) (roots : List (Option ℕ)) → IsAgain d r → new_state (with_raw d r) (state_of (with_raw d r) r) n blocks long roots end now ≡ new_state d (state_of d d.raw) n blocks long roots end now
new_same d r n blocks long end now roots again =
    let s : State = state_of d r in
    let t : State = state_of d d.raw in
    ap (λ (u : State). new_state (with_raw d r) u n blocks long roots end now) (state_same d r r (like d r again))
    ∙ ap (λ rest. record (new_state d s n blocks long roots end now) { rest = rest }) (emptied_same d r s.rest again.front)
    ∙ ap (λ rest. record (new_state d s n blocks long roots end now) { rest = without_free_pages d rest }) again.rest
    ∙ ap (λ k. record (new_state d s n blocks long roots end now) { rest = without_free_pages d t.rest; sortkey = k }) again.sortkey
    ∙ ap (λ k. record (new_state d s n blocks long roots end now) { rest = without_free_pages d t.rest; sortkey = t.sortkey; auto_increment = k }) again.auto_increment

-- ---- the files of a table that is made anew

module _ (d : Defs) (r : List ℕ) (again : IsAgain d r) where
  abbrev d2 : Defs
  d2 = with_raw d r

  trees_again : (rows : List SizedRow) → new_trees d2 rows ≡ new_trees d rows
  trees_again rows = trees_same d r rows (first_same d r (like d r again))

  state_again : (rows : List SizedRow) (now : ℕ) → rebuilt_state d2 rows now ≡ rebuilt_state d rows now
  state_again rows now =
      let t : LaidTrees = new_trees d rows in
      ap (λ m. new_state d2 (state_of d2 r) (length rows) m (length (stored_file d2 rows)) (new_trees d2 rows).roots (new_trees d2 rows).end now) (count_same d r rows)
      ∙ ap (λ (b : List ℕ). new_state d2 (state_of d2 r) (length rows) (block_count d rows) (length b) (new_trees d2 rows).roots (new_trees d2 rows).end now) (laid_same d r rows)
      ∙ ap (λ (u : LaidTrees). new_state d2 (state_of d2 r) (length rows) (block_count d rows) (length (stored_file d rows)) u.roots u.end now) (trees_again rows)
      ∙ new_same d r (length rows) (block_count d rows) (length (stored_file d rows)) t.end now t.roots again

  rebuilt_again : (rows : List SizedRow) (now : ℕ) → rebuilt_index d2 rows now ≡ rebuilt_index d rows now
  unfolding rebuilt_index
  rebuilt_again rows now =
      ap (λ (s : State). header_of d2 s ++ (new_trees d2 rows).bytes) (state_again rows now)
      ∙ ap (λ (h : List ℕ). h ++ (new_trees d2 rows).bytes) (header_same d r (rebuilt_state d rows now) again)
      ∙ ap (λ (u : LaidTrees). header_of d (rebuilt_state d rows now) ++ u.bytes) (trees_again rows)

  index_again : (extend : Bool) (x : List ℕ) (now : ℕ) → new_index d2 extend x now ≡ new_index d extend x now
  unfolding new_index
  index_again extend x now = ap (λ (rows : List SizedRow). rebuilt_index d2 rows now) (kept_same d r extend x) ∙ rebuilt_again (kept d extend x) now

  data_again : (extend : Bool) (x : List ℕ) → new_data d2 extend x ≡ new_data d extend x
  unfolding new_data
  data_again extend x = ap (stored_file d2) (kept_same d r extend x) ∙ laid_same d r (kept d extend x)

  report_again : (extend : Bool) (x : List ℕ) → report_of d2 extend x ≡ report_of d extend x
  report_again extend x =
      ap (λ (k : List SizedRow). record { kept = length k; repeats = length (readable d2 extend x) - length k; old_length = length x; new_length = length (new_data d2 extend x) }) (kept_same d r extend x)
      ∙ ap (λ (rs : List Row). record { kept = length (kept d extend x); repeats = length rs - length (kept d extend x); old_length = length x; new_length = length (new_data d2 extend x) }) (readable_same d r extend x)
      ∙ ap (λ (b : List ℕ). record { kept = length (kept d extend x); repeats = length (readable d extend x) - length (kept d extend x); old_length = length x; new_length = length b }) (data_again extend x)

  -- a repair under definitions that are read again is one under the first
  pub repaired_again : (name : List ℕ) (extend : Bool) (now : ℕ) (x : List ℕ) (said : Report) (n : Holding) → IsRepairable d x now → Repaired name extend now d2 x said n → Repaired name extend now d x said n
  repaired_again name extend now x said n can made = record {
    holds = subst (λ (y : List ℕ). Holds (names_for name) (new_data d extend x) y n) (index_again extend x now) (subst (λ (e : List ℕ). Holds (names_for name) e (new_index d2 extend x now) n) (data_again extend x) made.holds);
    recovered = recovered d extend x now can;
    report = made.report ∙ report_again extend x;
  }

-- ---- a header that was written over the first

taken_part : (at k n : ℕ) (x : List ℕ) → at + k ≤ n → part at k (take n x) ≡ part at k x
taken_part at k n x inside =
    let split : n ≡ at + (n - at) = omega arith in
    ap (λ m. take k (drop at (take m x))) split ∙ ap (take k) (drop-take at (n - at) x) ∙ take-take k (n - at) (drop at x) (omega arith)

near_page : (n : ℕ) → n ≤ (n + 1023) / 1024 * 1024
near_page n = omega arith

-- it is one but for the state, where it agrees outside the state and keeps these three of it
pub again_of : (d : Defs) (y : List ℕ) → IsSound d → AgreeOutsideState d.raw (take (first_page_of d) y) → (state_of d (take (first_page_of d) y)).sortkey ≡ (state_of d d.raw).sortkey → (state_of d (take (first_page_of d) y)).auto_increment ≡ (state_of d d.raw).auto_increment
    → (state_of d (take (first_page_of d) y)).rest ≡ (state_of d d.raw).rest → IsAgain d (defs_with d y).raw
again_of d y sound same sortkey auto rest =
    let n : ℕ = num_at 6 2 d.raw in
    let h : List ℕ = take (first_page_of d) y in
    let b : (layout_of d).base ≡ num_at 12 2 d.raw = omega (arith, sound.base) in
    let raw : take n d.raw ≡ d.raw = take_all n d.raw (omega (arith, sound.header)) in
    let inside : n ≤ first_page_of d = omega (arith, near_page (length d.raw), sound.header) in
    let front : take n h ≡ take n y = take-take n (first_page_of d) y inside in
    let alike = header_like d h sound same in
    let state : state_of d (take n h) ≡ state_of d h = state-take d n h sound (omega (arith, sound.header)) in
    subst (IsAgain d) front
    (record {
      front = alike.front;
      long = alike.long;
      base = taken_part (layout_of d).base 94 n h (omega (arith, sound.base_inside, sound.header, b)) ∙ subst (λ at. part at 94 h ≡ part at 94 d.raw) (sym b) same.base;
      back = subst (λ at. drop (at + 100) (take n h) ≡ drop (at + 100) d.raw) (sym b) (same.back ∙ ap (drop (num_at 12 2 d.raw + 100)) raw);
      sortkey = ap (λ (s : State). s.sortkey) state ∙ sortkey;
      auto_increment = ap (λ (s : State). s.auto_increment) state ∙ auto;
      rest = ap (λ (s : State). s.rest) state ∙ rest;
    })
