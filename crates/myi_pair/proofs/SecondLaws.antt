-- A repair of a file of given rows keeps it, and leaves the index file that is made at its time.
use Rattle.std.proofs.Common.{◌||◌, ◌≡◌, ℕ, ◌+◌, ◌-◌, ◌*◌, ◌≤◌, Bool, cond, Option, List, [], ◌∷◌, ◌++◌, length, map, take, drop, replicate, sum_by, Ok, refl, sym, ap, subst, ◌∙◌, arith, append_assoc, length-append}
use Rattle.std.specs.List.{list_any}
use Rattle.std.proofs.lemmas.List.Sums.{sum_by-cons}
use Rattle.std.proofs.lemmas.List.{take_at, drop_at, drop-take, take-take, take_all, length-take-le, length-replicate}
use Rattle.myi_base.specs.Numbers.{num_at}
use Rattle.myi_defs.specs.declared.types.RowFormat.{RowFormat}
use Rattle.myi_defs.specs.declared.types.RowFormat.TheVariants.{Static, Dynamic}
use Rattle.myi_defs.specs.declared.types.Defs.{Defs}
use Rattle.myi_defs.specs.Sound.{IsSound}
use Rattle.myi_defs.specs.ReadDefs.{read_defs}
use Rattle.myi_defs.proofs.CallerLemmas.{sound}
use Rattle.myi_defs.specs.declared.layout.Layout.{Layout}
use Rattle.myi_header.specs.declared.state.State.{State}
use Rattle.myi_header.specs.Parts.{part}
use Rattle.myi_header.specs.Layout.{layout_of, page_sizes, first_page_of}
use Rattle.myi_defs.specs.Layout.{mark}
use Rattle.myi_header.specs.StateOf.{state_of}
use Rattle.myi_header.specs.HeaderOf.{state_bytes, header_of}
use Rattle.myi_header.proofs.CallerLemmas.{state-take, state-rest}
use Rattle.myi_pack.specs.Packed.{Values}
use Rattle.myi_pack.specs.Spelling.{spelled_row, spelling}
use Rattle.myi_data.specs.Readable.{readable}
use Rattle.myi_data.specs.Stored.{SizedRow, Share, group_by, group, stored_by, stored_size, stored, stored_from, stored_file, block_count}
use Rattle.myi_keylist.specs.declared.pair.Pair.{Pair}
use Rattle.myi_btree.specs.Walk.{Node}
use Rattle.myi_btree.specs.Sizes.{fits_in}
use Rattle.myi_btree.specs.LaidPages.{laid}
use Rattle.myi_pair.specs.FirstRows.{key_numbers, repeats_row, first_rows}
use Rattle.myi_keylist.specs.FirstBy.{first_after}
use Rattle.myi_pair.specs.KeyList.{PlacedRow, key_list}
use Rattle.myi_pair.specs.Trees.{block_of_key, place_of}
use Rattle.myi_pair.specs.Clean.{sized_row}
use Rattle.myi_pair.specs.RebuiltBytes.{placed_from, LaidTrees, pages_then, laid_trees, key_lists, new_trees, without_free_pages, new_state, rebuilt_state, rebuilt_index}
use Rattle.myi_pair.specs.RecoveredBytes.{kept, new_data, new_index}
use Rattle.myi_pair.specs.Rebuilt.{CanBeRebuilt}
use Rattle.myi_pair.proofs.KeptLaws.{AreAlike, settled_alike}
use Rattle.myi_pair.proofs.ShorterLaws.{near_reached}
use Rattle.myi_pair.proofs.HeaderLaws.{IsNewIndex}
use Rattle.myi_pair.proofs.NewIndexLaws.{index_shows}
use Rattle.myi_pair.proofs.RebuiltLaws.{IsLike, front_number, layout_same, first_same, state_same, header_like, same_defs, is_rebuilt}
use Rattle.myi_pair.proofs.SameDefs.{with_raw, readable_same, sized_same, repeats_same, list_same}

-- what definitions with another header say of kept rows, stored rows and trees

module _ (d : Defs) (r : List ℕ) where
  any_again : (p q : SizedRow → Bool) → ((row : SizedRow) → p row ≡ q row) → (rows : List SizedRow) → list_any p rows ≡ list_any q rows
  any_again p q same [] = refl
  any_again p q same (row ∷ rows) = ap (λ b. b || list_any p rows) (same row) ∙ ap (λ b. q row || b) (any_again p q same rows)

  after_same : (before rows : List SizedRow) → first_after (repeats_row (with_raw d r)) before rows ≡ first_after (repeats_row d) before rows
  after_same before [] = refl
  after_same before (row ∷ rows) =
      ap (λ b. cond b (first_after (repeats_row (with_raw d r)) before rows) (row ∷ first_after (repeats_row (with_raw d r)) (before ++ row ∷ []) rows))
      (any_again (repeats_row (with_raw d r) row) (repeats_row d row) (λ other. ap (λ (p : Values → Bool). p other.values) (repeats_same d r row.values)) before)
      ∙ ap (λ rs. cond (list_any (repeats_row d row) before) rs (row ∷ first_after (repeats_row (with_raw d r)) (before ++ row ∷ []) rows)) (after_same before rows)
      ∙ ap (λ rs. cond (list_any (repeats_row d row) before) (first_after (repeats_row d) before rows) (row ∷ rs)) (after_same (before ++ row ∷ []) rows)

  pub kept_same : (extend : Bool) (x : List ℕ) → kept (with_raw d r) extend x ≡ kept d extend x
  unfolding kept first_rows
  kept_same extend x =
      ap (λ rows. first_after (repeats_row (with_raw d r)) [] (map (sized_row (with_raw d r)) rows)) (readable_same d r extend x)
      ∙ ap (first_after (repeats_row (with_raw d r)) []) (sized_same d r (readable d extend x))
      ∙ after_same [] (map (sized_row d) (readable d extend x))

  spelled_same : (f : RowFormat) (v : Values) → spelled_row f (with_raw d r) v ≡ spelled_row f d v
  spelled_same Static v = refl
  spelled_same Dynamic v = refl

  group_same : (row : SizedRow) → group (with_raw d r) row ≡ group d row
  unfolding spelling group
  group_same row = ap (λ (b : List ℕ). group_by d.format row.sizes (length b)) (spelled_same d.format row.values)

  stored_same : (at : ℕ) (row : SizedRow) → stored (with_raw d r) at row ≡ stored d at row
  unfolding spelling stored
  stored_same at row = ap (stored_by d.format at row.sizes) (spelled_same d.format row.values)

  size_same : (row : SizedRow) → stored_size (with_raw d r) row ≡ stored_size d row
  size_same row = ap (λ (g : List Share). sum_by (λ s. s.size) g) (group_same row)

  from_same : (at : ℕ) (rows : List SizedRow) → stored_from (with_raw d r) at rows ≡ stored_from d at rows
  from_same at [] = refl
  from_same at (row ∷ rows) =
      ap (λ b. b ++ stored_from (with_raw d r) (at + stored_size (with_raw d r) row) rows) (stored_same at row)
      ∙ ap (λ n. stored d at row ++ stored_from (with_raw d r) (at + n) rows) (size_same row)
      ∙ ap (λ bs. stored d at row ++ bs) (from_same (at + stored_size d row) rows)

  pub laid_same : (rows : List SizedRow) → stored_file (with_raw d r) rows ≡ stored_file d rows
  unfolding stored_file
  laid_same rows = from_same 0 rows

  count_same : (rows : List SizedRow) → block_count (with_raw d r) rows ≡ block_count d rows
  count_same [] = refl
  count_same (row ∷ rows) =
      sum_by-cons (λ (q : SizedRow). length (group (with_raw d r) q)) row rows
      ∙ omega (arith, ap (λ (g : List Share). length g) (group_same row), count_same rows)
      ∙ sym (sum_by-cons (λ (q : SizedRow). length (group d q)) row rows)

  places_same : (at : ℕ) (rows : List SizedRow) → placed_from (with_raw d r) at rows ≡ placed_from d at rows
  places_same at [] = refl
  places_same at (row ∷ rows) =
      ap (λ n. (at, row.values) ∷ placed_from (with_raw d r) (at + n) rows) (size_same row) ∙ ap (λ (rs : List PlacedRow). (at, row.values) ∷ rs) (places_same (at + stored_size d row) rows)

  lists_same : (ks : List ℕ) (rows : List PlacedRow) → map (λ k. key_list (with_raw d r) k rows) ks ≡ map (λ k. key_list d k rows) ks
  lists_same [] rows = refl
  lists_same (k ∷ ks) rows = ap (λ (list : List Pair). list ∷ map (λ j. key_list (with_raw d r) j rows) ks) (list_same d r k rows) ∙ ap (λ (lists : List (List Pair)). key_list d k rows ∷ lists) (lists_same ks rows)

  laid_trees_same : (first : ℕ) (ks : List ℕ) (lists : List (List Pair)) → laid_trees (with_raw d r) first ks lists ≡ laid_trees d first ks lists
  laid_trees_same first [] lists = refl
  laid_trees_same first (k ∷ ks) [] = refl
  laid_trees_same first (k ∷ ks) (pairs ∷ lists) =
      let nodes : List Node = laid (fits_in (place_of d k)) (block_of_key d k) first pairs in
      ap (pages_then d k first nodes) (laid_trees_same (first + block_of_key d k * length nodes) ks lists)

  trees_with : (rows : List SizedRow) → first_page_of (with_raw d r) ≡ first_page_of d → new_trees (with_raw d r) rows ≡ new_trees d rows
  unfolding new_trees
  trees_with rows first =
      ap (λ at. laid_trees (with_raw d r) at (key_numbers d) (key_lists (with_raw d r) (placed_from (with_raw d r) 0 rows))) first
      ∙ ap (λ (rs : List PlacedRow). laid_trees (with_raw d r) (first_page_of d) (key_numbers d) (key_lists (with_raw d r) rs)) (places_same 0 rows)
      ∙ ap (laid_trees (with_raw d r) (first_page_of d) (key_numbers d)) (lists_same (key_numbers d) (placed_from d 0 rows))
      ∙ laid_trees_same (first_page_of d) (key_numbers d) (key_lists d (placed_from d 0 rows))

-- the header that is read again

-- the parts of a header of definitions
record Parts (d : Defs) (s : State) (r : List ℕ) : Type 0 where
  pub base : part (layout_of d).base 94 r ≡ part (layout_of d).base 94 d.raw
  pub back : drop ((layout_of d).base + 100) r ≡ drop ((layout_of d).base + 100) d.raw
  pub state : state_of d r ≡ s

taken_part : (at k n : ℕ) (x : List ℕ) → at + k ≤ n → part at k (take n x) ≡ part at k x
taken_part at k n x inside =
    let split : n ≡ at + (n - at) = omega arith in
    ap (λ m. take k (drop at (take m x))) split ∙ ap (take k) (drop-take at (n - at) x) ∙ take-take k (n - at) (drop at x) (omega arith)

parts_again : (d : Defs) (s : State) (y : List ℕ) → IsSound d → IsNewIndex d s y → Parts d s (take (num_at 6 2 d.raw) y)
parts_again d s y sound is =
    let n : ℕ = num_at 6 2 d.raw in
    let b : (layout_of d).base ≡ num_at 12 2 d.raw = omega (arith, sound.base) in
    let raw : take n d.raw ≡ d.raw = take_all n d.raw (omega (arith, sound.header)) in
    record {
      base = taken_part (layout_of d).base 94 n y (omega (arith, sound.base_inside, sound.header, b)) ∙ subst (λ at. part at 94 y ≡ part at 94 d.raw) (sym b) is.elsewhere.base;
      back = subst (λ at. drop (at + 100) (take n y) ≡ drop (at + 100) d.raw) (sym b) (is.elsewhere.back ∙ ap (drop (num_at 12 2 d.raw + 100)) raw);
      state = state-take d n y sound (omega (arith, sound.header)) ∙ is.state;
    }

-- a header written over it is the one that is written over the first

header_by : List ℕ → Layout → State → List ℕ → List ℕ → ℕ → List ℕ
header_by front l s base back zeros = front ++ (state_bytes l s ++ (base ++ (mark ++ (back ++ replicate zeros 0))))

header_same : (d : Defs) (r : List ℕ) (s t : State) → IsLike d r → Parts d s r → header_of (with_raw d r) t ≡ header_of d t
unfolding header_of header_by
header_same d r s t like parts =
    let b = (layout_of d).base in
    let z : ℕ = first_page_of (with_raw d r) - length r in
    ap (λ (l : Layout). header_by (take 24 r) l t (part l.base 94 r) (drop (l.base + 100) r) z) (layout_same d r like)
    ∙ ap (λ front. header_by front (layout_of d) t (part b 94 r) (drop (b + 100) r) z) like.front
    ∙ ap (λ base. header_by (take 24 d.raw) (layout_of d) t base (drop (b + 100) r) z) parts.base
    ∙ ap (λ back. header_by (take 24 d.raw) (layout_of d) t (part b 94 d.raw) back z) parts.back
    ∙ ap (λ n. header_by (take 24 d.raw) (layout_of d) t (part b 94 d.raw) (drop (b + 100) d.raw) n) (let same : z ≡ first_page_of d - length d.raw = omega (arith, first_same d r like, like.long) in same)

-- the bytes of the state that are kept

emptied_again : (d : Defs) (rest : List ℕ) → 24 + 8 * page_sizes d ≤ length rest → without_free_pages d (without_free_pages d rest) ≡ without_free_pages d rest
emptied_again d rest long =
    let n = 8 * page_sizes d in
    let T : List ℕ = take 24 rest in
    let Z : List ℕ = replicate n 255 in
    let D : List ℕ = drop (24 + n) rest in
    let first : length T ≡ 24 = length-take-le 24 rest (omega arith) in
    let count : length (T ++ Z) ≡ 24 + n = omega (arith, first, length-append T Z, length-replicate {A = ℕ} n 255) in
    let front : take 24 (T ++ (Z ++ D)) ≡ T = take_at T (Z ++ D) 24 first in
    let back : drop (24 + n) (T ++ (Z ++ D)) ≡ D = ap (drop (24 + n)) (sym (append_assoc T Z D)) ∙ drop_at (T ++ Z) D (24 + n) count in
    ap (λ a. a ++ (Z ++ drop (24 + n) (T ++ (Z ++ D)))) front ∙ ap (λ b. T ++ (Z ++ b)) back

emptied_same : (d : Defs) (r rest : List ℕ) → IsLike d r → without_free_pages (with_raw d r) rest ≡ without_free_pages d rest
emptied_same d r rest like = ap (λ sizes. take 24 rest ++ (replicate (8 * sizes) 255 ++ drop (24 + 8 * sizes) rest)) (front_number 21 1 r d.raw (omega arith) like.front)

rest_settles : (d : Defs) (r : List ℕ) → IsSound d → IsLike d r → without_free_pages (with_raw d r) (without_free_pages d (state_of d d.raw).rest) ≡ without_free_pages d (state_of d d.raw).rest
rest_settles d r s like =
    emptied_same d r (without_free_pages d (state_of d d.raw).rest) like ∙ emptied_again d (state_of d d.raw).rest (omega (arith, state-rest d d.raw s (omega arith)))

-- a state over the state of a repair
state_settles : (d : Defs) (r : List ℕ) (n blocks long now later end : ℕ) (roots : List (Option ℕ)) → IsSound d → IsLike d r
    → new_state (with_raw d r) (new_state d (state_of d d.raw) n blocks long roots end now) n blocks long roots end later ≡ new_state d (state_of d d.raw) n blocks long roots end later
state_settles d r n blocks long now later end roots s like =
    ap (λ rest. record (new_state d (state_of d d.raw) n blocks long roots end later) { rest = rest }) (rest_settles d r s like)

-- the repair of a file of given rows

module _ (d : Defs) (rows : List SizedRow) (now : ℕ) (can : CanBeRebuilt d rows now) where
  is_sound : IsSound d
  is_sound = sound d can.defined

  abbrev file : List ℕ
  file = stored_file d rows

  -- the header of the index file
  abbrev header_read : List ℕ
  header_read = take (num_at 6 2 d.raw) (rebuilt_index d rows now)

  is_like : IsLike d header_read
  is_like = header_like d (rebuilt_index d rows now) is_sound (is_rebuilt d rows now can).elsewhere

  parts : Parts d (rebuilt_state d rows now) header_read
  parts = parts_again d (rebuilt_state d rows now) (rebuilt_index d rows now) is_sound (index_shows d rows now can)

  abbrev again : Bool → List SizedRow
  again any = kept d any file

  alike : (any : Bool) → AreAlike d (again any) rows
  alike any = settled_alike d any rows is_sound can.storable can.distinct (near_reached d (length file) can.reached)

  trees_alike : (any : Bool) → new_trees d (again any) ≡ new_trees d rows
  unfolding new_trees
  trees_alike any = ap (λ (rs : List PlacedRow). laid_trees d (first_page_of d) (key_numbers d) (key_lists d rs)) (alike any).placed

  -- ---- under the definitions that were given

  pub data_settles : (any : Bool) → new_data d any file ≡ file
  unfolding new_data
  data_settles any = (alike any).file

  state_settled : (any : Bool) (later : ℕ) → rebuilt_state d (again any) later ≡ rebuilt_state d rows later
  state_settled any later =
      let s : State = state_of d d.raw in
      let kept_rows : List SizedRow = again any in
      ap (λ m. new_state d s m (block_count d kept_rows) (length (stored_file d kept_rows)) (new_trees d kept_rows).roots (new_trees d kept_rows).end later) (alike any).count
      ∙ ap (λ m. new_state d s (length rows) m (length (stored_file d kept_rows)) (new_trees d kept_rows).roots (new_trees d kept_rows).end later) (alike any).blocks
      ∙ ap (λ (b : List ℕ). new_state d s (length rows) (block_count d rows) (length b) (new_trees d kept_rows).roots (new_trees d kept_rows).end later) (alike any).file
      ∙ ap (λ (u : LaidTrees). new_state d s (length rows) (block_count d rows) (length file) u.roots u.end later) (trees_alike any)

  pub index_settles : (any : Bool) (later : ℕ) → new_index d any file later ≡ rebuilt_index d rows later
  unfolding new_index rebuilt_index
  index_settles any later =
      ap (λ (s : State). header_of d s ++ (new_trees d (again any)).bytes) (state_settled any later)
      ∙ ap (λ (u : LaidTrees). header_of d (rebuilt_state d rows later) ++ u.bytes) (trees_alike any)

  -- ---- under those that the index file has

  abbrev d2 : Defs
  d2 = with_raw d header_read

  kept_again : (any : Bool) → kept d2 any file ≡ again any
  kept_again any = kept_same d header_read any file

  data_again : (any : Bool) → new_data d2 any file ≡ file
  unfolding new_data
  data_again any = ap (stored_file d2) (kept_again any) ∙ laid_same d header_read (again any) ∙ (alike any).file

  trees_again : (any : Bool) → new_trees d2 (kept d2 any file) ≡ new_trees d rows
  trees_again any = ap (new_trees d2) (kept_again any) ∙ trees_with d header_read (again any) (first_same d header_read is_like) ∙ trees_alike any

  count_again : (any : Bool) → length (kept d2 any file) ≡ length rows
  count_again any = ap (λ (rs : List SizedRow). length rs) (kept_again any) ∙ (alike any).count

  blocks_again : (any : Bool) → block_count d2 (kept d2 any file) ≡ block_count d rows
  blocks_again any = ap (block_count d2) (kept_again any) ∙ count_same d header_read (again any) ∙ (alike any).blocks

  long_again : (any : Bool) → stored_file d2 (kept d2 any file) ≡ file
  long_again any = ap (stored_file d2) (kept_again any) ∙ laid_same d header_read (again any) ∙ (alike any).file

  read_state_again : state_of d2 header_read ≡ rebuilt_state d rows now
  read_state_again = state_same d header_read header_read is_like ∙ parts.state

  state_again_of : (any : Bool) (later : ℕ) → rebuilt_state d2 (kept d2 any file) later ≡ rebuilt_state d rows later
  state_again_of any later =
      let kept_rows : List SizedRow = kept d2 any file in
      let n : ℕ = length rows in
      let blocks : ℕ = block_count d rows in
      let t : LaidTrees = new_trees d rows in
      ap (λ m. new_state d2 (state_of d2 header_read) m (block_count d2 kept_rows) (length (stored_file d2 kept_rows)) (new_trees d2 kept_rows).roots (new_trees d2 kept_rows).end later) (count_again any)
      ∙ ap (λ m. new_state d2 (state_of d2 header_read) n m (length (stored_file d2 kept_rows)) (new_trees d2 kept_rows).roots (new_trees d2 kept_rows).end later) (blocks_again any)
      ∙ ap (λ (b : List ℕ). new_state d2 (state_of d2 header_read) n blocks (length b) (new_trees d2 kept_rows).roots (new_trees d2 kept_rows).end later) (long_again any)
      ∙ ap (λ (u : LaidTrees). new_state d2 (state_of d2 header_read) n blocks (length file) u.roots u.end later) (trees_again any)
      ∙ ap (λ (s : State). new_state d2 s n blocks (length file) t.roots t.end later) read_state_again
      ∙ state_settles d header_read n blocks (length file) now later t.end t.roots is_sound is_like

  index_again : (any : Bool) (later : ℕ) → new_index d2 any file later ≡ rebuilt_index d rows later
  unfolding new_index rebuilt_index
  index_again any later =
      ap (λ (s : State). header_of d2 s ++ (new_trees d2 (kept d2 any file)).bytes) (state_again_of any later)
      ∙ ap (λ (h : List ℕ). h ++ (new_trees d2 (kept d2 any file)).bytes) (header_same d header_read (rebuilt_state d rows now) (rebuilt_state d rows later) is_like parts)
      ∙ ap (λ (u : LaidTrees). header_of d (rebuilt_state d rows later) ++ u.bytes) (trees_again any)

  read_defs_again : (e : Defs) → read_defs (rebuilt_index d rows now) ≡ Ok e → d2 ≡ e
  read_defs_again e read = same_defs e d2 (rebuilt_index d rows now) read (is_rebuilt d rows now can).definitions

  pub second_data : (e : Defs) → read_defs (rebuilt_index d rows now) ≡ Ok e → (any : Bool) → new_data e any file ≡ file
  second_data e read any = subst (λ (c : Defs). new_data c any file ≡ file) (read_defs_again e read) (data_again any)

  pub second_index : (e : Defs) → read_defs (rebuilt_index d rows now) ≡ Ok e → (any : Bool) (later : ℕ) → new_index e any file later ≡ rebuilt_index d rows later
  second_index e read any later = subst (λ (c : Defs). new_index c any file later ≡ rebuilt_index d rows later) (read_defs_again e read) (index_again any later)
