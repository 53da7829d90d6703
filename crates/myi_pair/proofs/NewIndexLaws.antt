-- The index file of a table of given rows: its trees, its header and its length.
use Rattle.std.proofs.Common.{◌≡◌, ℕ, zero, suc, ◌+◌, ◌-◌, ◌*◌, ◌%◌, ◌^◌, ◌<◌, ◌≤◌, true, List, [], ◌∷◌, ◌++◌, length, map, drop, nat_le, refl, sym, ap, subst, ◌∙◌, arith, length-append}
use Rattle.std.specs.List.{AllByRecursion}
use Rattle.std.proofs.lemmas.Bool.{and_parts, leb-true}
use Rattle.std.proofs.lemmas.List.{drop_at, append-nil, length-map}
use Rattle.std.proofs.lemmas.Option.{same_Some}
use Rattle.myi_defs.specs.declared.types.Defs.{Defs}
use Rattle.myi_defs.specs.Sound.{IsSound}
use Rattle.myi_defs.specs.Addressable.{is_addressable}
use Rattle.myi_defs.proofs.CallerLemmas.{sound}
use Rattle.myi_header.specs.declared.state.State.{State}
use Rattle.myi_header.specs.Layout.{first_page_of}
use Rattle.myi_header.specs.HeaderOf.{header_of}
use Rattle.myi_data.specs.Stored.{SizedRow, stored_size, stored_file, block_count, IsStorable}
use Rattle.myi_keylist.specs.declared.pair.Pair.{Pair}
use Rattle.myi_btree.specs.Walk.{Node}
use Rattle.myi_btree.specs.Sizes.{IsPlaced, fits_in}
use Rattle.myi_btree.specs.LaidPages.{laid, root_of}
use Rattle.myi_data.specs.Keys.{IsKeyNumber}
use Rattle.myi_pair.specs.FirstRows.{numbers_from, key_numbers}
use Rattle.myi_pair.specs.KeyList.{PlacedRow, key_list}
use Rattle.myi_pair.specs.Trees.{block_of_key, place_of}
use Rattle.myi_pair.specs.RebuiltBytes.{placed_from, LaidTrees, laid_trees, new_trees, rebuilt_state, rebuilt_index}
use Rattle.myi_pair.specs.Rebuilt.{CanBeRebuilt}
use Rattle.myi_pair.proofs.SizedLaws.{placed}
use Rattle.myi_pair.proofs.ShorterLaws.{stored_length, length-laid}
use Rattle.myi_pair.proofs.LaidLaws.{near_from, few_rows, few_blocks}
use Rattle.myi_pair.proofs.TreesLaws.{trees_of, first_le_end, AreThere, trees_there}
use Rattle.myi_pair.proofs.ShortTrees.{trees_short, first_short}
use Rattle.myi_header.proofs.CallerLemmas.{header-long}
use Rattle.myi_pair.proofs.HeaderLaws.{RootFits, AreFew, repaired, new_rest, IsNewIndex, new_header}

-- the numbers of the keys

numbers_count : (k n : ℕ) → length (numbers_from k n) ≡ n
numbers_count k zero = refl
numbers_count k (suc n) = ap suc (numbers_count (suc k) n)

numbers_within : (d : Defs) (k n : ℕ) → 0 < k → k + n ≤ length d.keys + 1 → AllByRecursion (IsKeyNumber d) (numbers_from k n)
numbers_within d k zero some le = tt
numbers_within d k (suc n) some le = ((some, omega arith), numbers_within d (suc k) n (omega arith) (omega arith))

-- these are numbers of keys
numbers_of_keys : (d : Defs) → AllByRecursion (IsKeyNumber d) (key_numbers d)
numbers_of_keys d = numbers_within d 1 (length d.keys) (omega arith) (omega arith)

-- the roots: one for each key, and each a place that eight bytes can have

roots_count : (d : Defs) (first : ℕ) (ks : List ℕ) (lists : List (List Pair)) → length lists ≡ length ks → length (laid_trees d first ks lists).roots ≡ length ks
roots_count d first [] lists same = refl
roots_count d first (k ∷ ks) [] same = absurd (omega arith)
roots_count d first (k ∷ ks) (pairs ∷ lists) same = ap suc (roots_count d (first + block_of_key d k * length (laid (fits_in (place_of d k)) (block_of_key d k) first pairs)) ks lists (omega arith))

root_fits : (block first end : ℕ) (nodes : List Node) → 1024 ≤ block → end < 2 ^ 64 → first + block * length nodes ≤ end → RootFits (root_of block first nodes)
root_fits block first end [] some small inside = ((λ e. cc), omega arith)
root_fits block first end (node ∷ nodes) some small inside =
    let at : ℕ = first + block * length nodes in
    let less : at + block ≤ end = omega arith in
    ((λ e. let same : at ≡ 2 ^ 64 - 1 = same_Some at (2 ^ 64 - 1) e in omega arith), omega arith)

roots_fit : (d : Defs) (first : ℕ) (ks : List ℕ) (lists : List (List Pair)) → IsSound d → AllByRecursion (IsKeyNumber d) ks → (laid_trees d first ks lists).end < 2 ^ 64 → AllByRecursion RootFits (laid_trees d first ks lists).roots
roots_fit d first [] lists s inside small = tt
roots_fit d first (k ∷ ks) [] s inside small = tt
roots_fit d first (k ∷ ks) (pairs ∷ lists) s inside small =
    let block : ℕ = block_of_key d k in
    let nodes : List Node = laid (fits_in (place_of d k)) block first pairs in
    let next : ℕ = first + block * length nodes in
    let is_placed : IsPlaced (place_of d k) = placed d s k inside.0 in
    (root_fits block first (laid_trees d next ks lists).end nodes is_placed.least small (first_le_end d next ks lists), roots_fit d next ks lists s inside.1 small)

-- the new trees

abbrev pub rows_placed : Defs → List SizedRow → List PlacedRow
rows_placed d rows = placed_from d 0 rows

pub trees_are : (d : Defs) (rows : List SizedRow) → new_trees d rows ≡ trees_of d (first_page_of d) (key_numbers d) (rows_placed d rows)
unfolding new_trees
trees_are d rows = refl

new_roots_count : (d : Defs) (rows : List SizedRow) → length (new_trees d rows).roots ≡ length d.keys
new_roots_count d rows =
    ap (λ (t : LaidTrees). length t.roots) (trees_are d rows)
    ∙ roots_count d (first_page_of d) (key_numbers d) (map (λ k. key_list d k (rows_placed d rows)) (key_numbers d)) (length-map (key_numbers d) (λ k. key_list d k (rows_placed d rows)))
    ∙ numbers_count 1 (length d.keys)

new_roots_fit : (d : Defs) (rows : List SizedRow) → IsSound d → (new_trees d rows).end < 2 ^ 64 → AllByRecursion RootFits (new_trees d rows).roots
new_roots_fit d rows s small =
    let is = trees_are d rows in
    subst (λ (t : LaidTrees). AllByRecursion RootFits t.roots) (sym is)
    (roots_fit d (first_page_of d) (key_numbers d) (map (λ k. key_list d k (rows_placed d rows)) (key_numbers d)) s (numbers_of_keys d) (subst (λ (t : LaidTrees). t.end < 2 ^ 64) is small))

whole_first : (d : Defs) → first_page_of d % 1024 ≡ 0
whole_first d = omega arith

-- the trees stand in each file whose bytes from the first page place on are theirs
new_there : (d : Defs) (x : List ℕ) (rows : List SizedRow) → IsSound d → AllByRecursion (IsStorable d) rows → is_addressable d (length (stored_file d rows)) ≡ true → (new_trees d rows).end < 2 ^ 64 → drop (first_page_of d) x ≡ (new_trees d rows).bytes
    → AreThere d x (rows_placed d rows) ((0, first_page_of d) ∷ []) (first_page_of d) (key_numbers d)
new_there d x rows s all reached small is =
    let same = trees_are d rows in
    let first : ℕ = first_page_of d in
    let there : drop first x ≡ (trees_of d first (key_numbers d) (rows_placed d rows)).bytes ++ [] = is ∙ ap (λ (t : LaidTrees). t.bytes) same ∙ sym (append-nil _) in
    trees_there d (length (stored_file d rows)) x (rows_placed d rows) ((0, first) ∷ []) first (key_numbers d) [] s reached
    (near_from d 0 (length (stored_file d rows)) rows all (omega (arith, length-laid d rows s all)))
    (numbers_of_keys d) (whole_first d) (omega arith, tt)
    (subst (λ (t : LaidTrees). t.end < 2 ^ 64) same small) there

placed_count : (d : Defs) (at : ℕ) (rs : List SizedRow) → length (placed_from d at rs) ≡ length rs
placed_count d at [] = refl
placed_count d at (r ∷ rs) = ap suc (placed_count d (at + stored_size d r) rs)

-- the new index file

short_file : (d : Defs) (n : ℕ) → is_addressable d n ≡ true → n ≤ 2 ^ 40
unfolding is_addressable
short_file d n reached = leb-true n (2 ^ 40) (and_parts (nat_le n (2 ^ 40)) _ reached).0

module _ (d : Defs) (rows : List SizedRow) (now : ℕ) (can : CanBeRebuilt d rows now) where
  is_sound : IsSound d
  is_sound = sound d can.defined

  pub data_long : length (stored_file d rows) ≡ stored_length d rows
  data_long = length-laid d rows is_sound can.storable

  pub room : (new_trees d rows).end < 2 ^ 64
  room =
      let len : ℕ = length (stored_file d rows) in
      let most = short_file d len can.reached in
      let few : length (rows_placed d rows) ≤ 2 ^ 40 = omega (arith, placed_count d 0 rows, most, data_long, few_rows d rows is_sound can.storable) in
      let short = trees_short d len (first_page_of d) (key_numbers d) (rows_placed d rows) is_sound can.reached (near_from d 0 len rows can.storable (omega (arith, data_long)))
      (numbers_of_keys d) (omega (arith, numbers_count 1 (length d.keys), is_sound.few_keys)) few (first_short d is_sound can.header) in
      subst (λ (t : LaidTrees). t.end < 2 ^ 64) (sym (trees_are d rows)) short

  pub are_few : AreFew d (length rows) (block_count d rows) (length (stored_file d rows)) (new_trees d rows).end now (new_trees d rows).roots
  are_few =
      let most = short_file d (length (stored_file d rows)) can.reached in
      record {
        raw = can.header;
        few_rows = omega (arith, most, data_long, few_rows d rows is_sound can.storable);
        few_blocks = omega (arith, most, data_long, few_blocks d rows is_sound can.storable);
        short_data = omega (arith, most);
        short_index = room;
        early = can.time;
        count = new_roots_count d rows;
        fit = new_roots_fit d rows is_sound room;
      }

  abbrev the_state : State
  the_state = repaired d (length rows) (block_count d rows) (length (stored_file d rows)) (new_trees d rows).end now (new_trees d rows).roots

  pub index_is : rebuilt_index d rows now ≡ header_of d the_state ++ (new_trees d rows).bytes
  unfolding rebuilt_index
  index_is = refl

  front_long : length (header_of d the_state) ≡ first_page_of d
  front_long = header-long d the_state is_sound (new_roots_count d rows) (new_rest d is_sound)

  pub there : AreThere d (rebuilt_index d rows now) (placed_from d 0 rows) ((0, first_page_of d) ∷ []) (first_page_of d) (key_numbers d)
  there =
      let behind : drop (first_page_of d) (rebuilt_index d rows now) ≡ (new_trees d rows).bytes = ap (drop (first_page_of d)) index_is ∙ drop_at (header_of d the_state) (new_trees d rows).bytes (first_page_of d) front_long in
      new_there d (rebuilt_index d rows now) rows is_sound can.storable can.reached room behind

  pub index_long : length (rebuilt_index d rows now) ≡ (new_trees d rows).end
  index_long =
      let t : LaidTrees = new_trees d rows in
      let same = trees_are d rows in
      ap (λ (b : List ℕ). length b) index_is ∙ length-append (header_of d the_state) t.bytes
      ∙ omega (arith, front_long, there.long, ap (λ (u : LaidTrees). length u.bytes) same, ap (λ (u : LaidTrees). u.end) same)

  pub index_shows : IsNewIndex d (rebuilt_state d rows now) (rebuilt_index d rows now)
  index_shows =
      subst (IsNewIndex d the_state) (sym index_is) (new_header d (length rows) (block_count d rows) (length (stored_file d rows)) (new_trees d rows).end now (new_trees d rows).roots (new_trees d rows).bytes is_sound are_few)
