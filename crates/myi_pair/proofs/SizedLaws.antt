-- The pairs of a table's rows can be laid: of each two fit into a page, and its pointer has its bytes.
use Rattle.std.proofs.Common.{◌≡◌, ℕ, ◌-◌, ◌*◌, ◌/◌, ◌%◌, ◌^◌, ◌<◌, ◌≤◌, Bool, true, false, List, [], ◌∷◌, length, map, get_or, Option, if◌then◌else◌, nat_lt, nat_le, IsPermutation, refl, sym, ap, subst, ◌∙◌, arith, length-append, div-mul-le_self, le-div_iff_mul-le}
use Rattle.std.specs.List.{AllByRecursion}
use Rattle.std.specs.Option.{option_map_or}
use Rattle.std.proofs.lemmas.Bool.{and_parts, ltb-true}
use Rattle.std.proofs.lemmas.Bool.Decides.{nat_tests}
use Rattle.std.proofs.lemmas.List.Elements.{All-get_or, All-from_recursion, recursion_from_All}
use Rattle.std.proofs.lemmas.List.Sorted.{All-permutation}
use Rattle.std.proofs.lemmas.List.Sums.{sum_by-cons}
use Rattle.myi_defs.specs.declared.types.RowFormat.{RowFormat}
use Rattle.myi_defs.specs.declared.types.RowFormat.TheVariants.{Static, Dynamic}
use Rattle.myi_defs.specs.declared.types.Field.{Field}
use Rattle.myi_defs.specs.declared.types.Segment.{Segment}
use Rattle.myi_defs.specs.declared.types.Key.{Key}
use Rattle.myi_defs.specs.declared.types.Defs.{Defs}
use Rattle.myi_defs.specs.Kinds.{seg_cost}
use Rattle.myi_defs.specs.Sound.{IsSound, IsSoundSegment, IsSoundKey, key_most}
use Rattle.myi_defs.specs.Addressable.{pointers, is_addressable}
use Rattle.myi_pack.specs.Packed.{Values}
use Rattle.myi_pack.specs.Spelling.{fits, fits_fields}
use Rattle.myi_keys.specs.declared.values.KeySeg.{KeySeg}
use Rattle.myi_keys.specs.declared.values.KeySeg.TheVariants.{Absent, Weights}
use Rattle.myi_keys.specs.Codes.{seg_code, key_code}
use Rattle.myi_keys.specs.Limits.{IsKey}
use Rattle.myi_keys.specs.Weights.{weights, CanWeigh}
use Rattle.myi_keys.proofs.CallerLemmas.{seg_size, weights_few}
use Rattle.myi_data.specs.Keys.{content, is_absent, seg_of, IsKeyNumber, key_of}
use Rattle.myi_data.proofs.CallerLemmas.{can_weigh, key_is, key_is_at, segments_at, values_fit}
use Rattle.myi_keylist.specs.declared.pair.Pair.{Pair}
use Rattle.myi_btree.specs.Nodes.{entry_of}
use Rattle.myi_btree.specs.Sizes.{IsPlaced, IsSized, AreSized}
use Rattle.myi_keylist.specs.PairOrder.{pair_with, sorted}
use Rattle.myi_pair.specs.KeyList.{PlacedRow, pointer_by, pointer, pair_of, pairs_of, key_list}
use Rattle.myi_pair.specs.Trees.{block_of_key, place_of}
use Rattle.myi_keylist.proofs.CallerLemmas.{sorted_permutes}

seg_short : (fs : List Field) (row : Values) (s : Segment) → IsSoundSegment fs s → CanWeigh s (content fs row s) → length (seg_code (seg_of fs row s)) ≤ seg_cost s.length
unfolding weights
seg_short fs row s sound can = by (is_absent fs row s)
  where
    by : (b : Bool) → length (seg_code (if b then Absent else Weights (weights s (content fs row s)))) ≤ seg_cost s.length
    by true = grind (arith, nat_tests)
    by false = seg_size s.length (weights s (content fs row s)) (weights_few s (content fs row s) sound.size can)

segs_short : (format : RowFormat) (fs : List Field) (row : Values) (ss : List Segment) → fits_fields format fs row ≡ true → AllByRecursion (IsSoundSegment fs) ss → length (key_code (map (seg_of fs row) ss)) ≤ key_most ss
segs_short format fs row [] fit sound = omega arith
segs_short format fs row (s ∷ ss) fit sound =
    let here = seg_short fs row s sound.0 (can_weigh format fs row s sound.0 fit) in
    let there = segs_short format fs row ss fit sound.1 in
    omega (arith, here, there, length-append (seg_code (seg_of fs row s)) (key_code (map (seg_of fs row) ss)), sum_by-cons (λ (t : Segment). seg_cost t.length) s ss)

-- the key of a number

some_key : Key
some_key = record { unique = false; block_length = 0; segments = [] }

module _ (d : Defs) (s : IsSound d) (k : ℕ) (inside : IsKeyNumber d k) where
  the_key : Key
  the_key = get_or d.keys (k - 1) some_key

  sound_key : IsSoundKey d.fields d.rec_ref the_key
  unfolding the_key
  sound_key = All-get_or (IsSoundKey d.fields d.rec_ref) d.keys (k - 1) some_key (omega (arith, inside.0, inside.1)) s.keys_sound

  block_is : block_of_key d k ≡ the_key.block_length
  unfolding the_key
  block_is = ap (λ (o : Option Key). option_map_or (λ (key : Key). key.block_length) o 0) (key_is_at d.keys k some_key inside.0 inside.1)

  key_is_of : (row : Values) → key_of d k row ≡ map (seg_of d.fields row) the_key.segments
  unfolding the_key key_of
  key_is_of row = ap (map (seg_of d.fields row)) (segments_at d.keys k some_key inside.0 inside.1)

  pub placed : IsPlaced (place_of d k)
  placed = record {
    whole = ap (λ n. n % 1024) block_is ∙ sound_key.whole_block;
    least = omega (arith, block_is, sound_key.some_block);
    most = omega (arith, block_is, sound_key.short_block);
    wide = s.rec_ref_least;
    narrow = s.rec_ref_most;
  }

  pub is_key : (row : Values) → fits d row ≡ true → IsKey (key_of d k row)
  is_key row fit = subst IsKey (sym (key_is_of row)) (key_is d.format d.fields d.rec_ref row the_key (values_fit d row fit) sound_key)

  code_short : (row : Values) → fits d row ≡ true → length (key_code (key_of d k row)) ≤ key_most the_key.segments
  code_short row fit =
      let short = segs_short d.format d.fields row the_key.segments (values_fit d row fit) (recursion_from_All (IsSoundSegment d.fields) the_key.segments sound_key.segments) in
      omega (arith, short, ap (λ (key : List KeySeg). length (key_code key)) (key_is_of row))

  -- with any pointer of the table
  pub laid_short : (pointed : ℕ) (row : Values) → fits d row ≡ true → pointed < 256 ^ d.rec_ref → IsSized (place_of d k) (entry_of (pair_with (key_of d k row) pointed))
  laid_short pointed row fit near = record {
    short = omega (arith, code_short row fit, block_is, sound_key.room);
    row = near;
  }

  pub sized : (at : ℕ) (row : Values) → fits d row ≡ true → pointer d at < 256 ^ d.rec_ref → IsSized (place_of d k) (entry_of (pair_of d k (at, row)))
  sized at row fit near = record {
    short = omega (arith, code_short row fit, block_is, sound_key.room);
    row = near;
  }

-- pointers into an addressable file have their bytes

pointer_few : (f : RowFormat) (slot at len most : ℕ) → at ≤ len → (f ≡ Static → 0 < slot) → pointers f slot len < most → pointer_by f slot at < most
pointer_few Static slot at len most le some few =
    let s : 0 < slot = some refl in
    let whole : at / slot * slot ≤ at = div-mul-le_self at slot in
    let fewer : at / slot ≤ len / slot = (le-div_iff_mul-le s).1 (omega arith) in
    omega arith
pointer_few Dynamic slot at len most le some few = omega arith

pub pointer_near : (d : Defs) (at len : ℕ) → IsSound d → is_addressable d len ≡ true → at ≤ len → pointer d at < 256 ^ d.rec_ref
unfolding is_addressable
pointer_near d at len s reached le =
    let both = and_parts (nat_le len (2 ^ 40)) (nat_lt (pointers d.format d.slot_length len) (256 ^ d.rec_ref - 1)) reached in
    let most : ℕ = 256 ^ d.rec_ref - 1 in
    let near : pointer d at < most = pointer_few d.format d.slot_length at len most le (λ static. omega (arith, s.slot_pointer static)) (ltb-true _ _ both.1) in
    omega arith

-- and so can all pairs of rows at places of such a file

abbrev pub IsNear : Defs → ℕ → PlacedRow → Type 0
IsNear d len r = (r.0 ≤ len) × (fits d r.1 ≡ true)

-- a pair can be laid on pages of the key
abbrev pub CanBeLaid : Defs → ℕ → Pair → Type 0
CanBeLaid d k p = IsSized (place_of d k) (entry_of p) × IsKey p.key

pairs_laid : (d : Defs) (k len : ℕ) (rows : List PlacedRow) → IsSound d → IsKeyNumber d k → is_addressable d len ≡ true → AllByRecursion (IsNear d len) rows → AllByRecursion (CanBeLaid d k) (pairs_of d k rows)
pairs_laid d k len [] s inside reached near = tt
pairs_laid d k len (r ∷ rows) s inside reached near =
    ((sized d s k inside r.0 r.1 near.0.1 (pointer_near d r.0 len s reached near.0.0), is_key d s k inside r.1 near.0.1), pairs_laid d k len rows s inside reached near.1)

all_sized : (d : Defs) (k : ℕ) (ps : List Pair) → AllByRecursion (CanBeLaid d k) ps → AreSized (place_of d k) ps × AllByRecursion (λ (p : Pair). IsKey p.key) ps
all_sized d k [] all = (tt, tt)
all_sized d k (p ∷ ps) all = let more = all_sized d k ps all.1 in ((all.0.0, more.0), (all.0.1, more.1))

permuted : {X : Type 0} (P : X → Type 0) (xs ys : List X) → IsPermutation xs ys → AllByRecursion P xs → AllByRecursion P ys
permuted P xs ys same all = recursion_from_All P ys (All-permutation P xs ys same (All-from_recursion P xs all))

pub pairs_sized : (d : Defs) (k len : ℕ) (rows : List PlacedRow) → IsSound d → IsKeyNumber d k → is_addressable d len ≡ true → AllByRecursion (IsNear d len) rows → AreSized (place_of d k) (pairs_of d k rows) × AllByRecursion (λ (p : Pair). IsKey p.key) (pairs_of d k rows)
pairs_sized d k len rows s inside reached near = all_sized d k (pairs_of d k rows) (pairs_laid d k len rows s inside reached near)

pub list_sized : (d : Defs) (k len : ℕ) (rows : List PlacedRow) → IsSound d → IsKeyNumber d k → is_addressable d len ≡ true → AllByRecursion (IsNear d len) rows → AreSized (place_of d k) (key_list d k rows) × AllByRecursion (λ (p : Pair). IsKey p.key) (key_list d k rows)
unfolding key_list
list_sized d k len rows s inside reached near =
    let pairs : List Pair = pairs_of d k rows in
    all_sized d k (sorted pairs) (permuted (CanBeLaid d k) pairs (sorted pairs) (sorted_permutes pairs) (pairs_laid d k len rows s inside reached near))
