-- The pointers of rows that are written one after the other, and the rows that are chosen.
use Rattle.std.proofs.Common.{◌≡◌, ℕ, zero, suc, ◌+◌, ◌/◌, ◌<◌, ◌≤◌, Bool, true, false, cond, List, [], ◌∷◌, ◌++◌, length, get_or, map, refl, sym, ap, subst, ◌∙◌, arith, length-append}
use Rattle.std.specs.List.{AllByRecursion, filter, range_with_len}
use Rattle.std.proofs.lemmas.List.{length_push}
use Rattle.std.proofs.lemmas.List.FromFn.{map-range_with_len_more, length-map-range_with_len, get_or-map-range_with_len}
use Rattle.myi_defs.specs.declared.types.RowFormat.{RowFormat}
use Rattle.myi_defs.specs.declared.types.RowFormat.TheVariants.{Static, Dynamic}
use Rattle.myi_defs.specs.declared.types.Defs.{Defs}
use Rattle.myi_defs.specs.Sound.{IsSound}
use Rattle.std.proofs.Math.Nat.{add-div_right}
use Rattle.myi_keylist.specs.declared.pair.Pair.{Pair}
use Rattle.myi_keylist.specs.PairOrder.{sorted}
use Rattle.myi_keylist.specs.Classes.{picked}
use Rattle.myi_keylist.specs.Columns.{AreRisingAt, has_flag, pairs_with, pointed}
use Rattle.myi_data.specs.Stored.{SizedRow, stored_size, stored, stored_from, stored_file, IsStorable}
use Rattle.myi_data.proofs.CallerLemmas.{stored_long, stored_some}
use Rattle.myi_rowkeys.specs.TableKeys.{key_in}
use Rattle.myi_rowkeys.specs.RowLists.{pointer_pairs, AreNumberLists}
use Rattle.myi_rowkeys.proofs.CallerLemmas.{all_pointed, kept_pointed}
use Rattle.myi_pair.specs.FirstRows.{key_numbers}
use Rattle.myi_pair.specs.KeyList.{pointer_by, pointer, pairs_of, key_list}
use Rattle.myi_pair.specs.RebuiltBytes.{placed_from, key_lists}
use Rattle.myi_pair.proofs.CallerLemmas.{length-slot}
use Rattle.myi_repair.specs.Keeping.{is_chosen, flags_by, chosen, pointers_at}
use Rattle.myi_repair.specs.Gathering.{all_chosen}

-- ---- what is chosen

pub length-flags : (choose : ℕ → Bool) (n : ℕ) → length (flags_by choose n) ≡ n
length-flags choose n = length-map-range_with_len choose 0 n

-- with one row more
pub flags_more : (choose : ℕ → Bool) (rows : List SizedRow) (row : SizedRow) (b : Bool) → choose (length rows) ≡ b → flags_by choose (length (rows ++ row ∷ [])) ≡ flags_by choose (length rows) ++ b ∷ []
flags_more choose rows row b is =
    ap (flags_by choose) (length_push rows row) ∙ map-range_with_len_more choose 0 (length rows) (length rows) (omega arith) ∙ ap (λ c. flags_by choose (length rows) ++ c ∷ []) is

picked_more : (flags : List Bool) (rows : List SizedRow) (row : SizedRow) (b : Bool) → length flags ≡ length rows → picked (flags ++ b ∷ []) (rows ++ row ∷ []) ≡ cond b (picked flags rows ++ row ∷ []) (picked flags rows)
picked_more [] [] row true same = refl
picked_more [] [] row false same = refl
picked_more [] (r ∷ rows) row b same = absurd (omega (arith, same))
picked_more (f ∷ flags) [] row b same = absurd (omega (arith, same))
picked_more (true ∷ flags) (r ∷ rows) row true same = ap (λ rs. r ∷ rs) (picked_more flags rows row true (omega (arith, same)))
picked_more (true ∷ flags) (r ∷ rows) row false same = ap (λ rs. r ∷ rs) (picked_more flags rows row false (omega (arith, same)))
picked_more (false ∷ flags) (r ∷ rows) row b same = picked_more flags rows row b (omega (arith, same))

pub chosen_more : (choose : ℕ → Bool) (rows : List SizedRow) (row : SizedRow) (b : Bool) → choose (length rows) ≡ b → chosen choose (rows ++ row ∷ []) ≡ cond b (chosen choose rows ++ row ∷ []) (chosen choose rows)
chosen_more choose rows row b is = ap (λ fs. picked fs (rows ++ row ∷ [])) (flags_more choose rows row b is) ∙ picked_more (flags_by choose (length rows)) rows row b (length-flags choose (length rows))

-- all rows
picked_all : {X : Type 0} (xs : List X) (first : ℕ) → picked (map all_chosen (range_with_len first (length xs))) xs ≡ xs
picked_all [] first = refl
picked_all (x ∷ xs) first = ap (λ ys. x ∷ ys) (picked_all xs (first + 1))

pub chosen_all : (rows : List SizedRow) → chosen all_chosen rows ≡ rows
chosen_all rows = picked_all rows 0

-- by flags that are given
given_from : (all flags : List Bool) (first : ℕ) → ((i j : ℕ) → j ≡ first + i → get_or all j false ≡ get_or flags i false) → map (is_chosen all) (range_with_len first (length flags)) ≡ flags
given_from all [] first same = refl
given_from all (b ∷ flags) first same =
    ap (λ c. c ∷ map (is_chosen all) (range_with_len (first + 1) (length flags))) (same 0 first (omega arith))
    ∙ ap (λ fs. b ∷ fs) (given_from all flags (first + 1) (λ i j at. same (suc i) j (omega (arith, at))))

pub flags_given : (flags : List Bool) (n : ℕ) → length flags ≡ n → flags_by (is_chosen flags) n ≡ flags
flags_given flags n long = ap (flags_by (is_chosen flags)) (sym long) ∙ given_from flags flags 0 (λ i j at. let e : j ≡ i = omega (arith, at) in ap (λ k. get_or flags k false) e)

-- ---- pointers

pub length-pointers : (d : Defs) (at : ℕ) (flags : List Bool) (rows : List SizedRow) → length flags ≡ length rows → length (pointers_at d at flags rows) ≡ length rows
length-pointers d at [] [] same = refl
length-pointers d at [] (row ∷ rows) same = absurd (omega (arith, same))
length-pointers d at (b ∷ flags) [] same = absurd (omega (arith, same))
length-pointers d at (true ∷ flags) (row ∷ rows) same = ap suc (length-pointers d (at + stored_size d row) flags rows (omega (arith, same)))
length-pointers d at (false ∷ flags) (row ∷ rows) same = ap suc (length-pointers d at flags rows (omega (arith, same)))

slots : (at slot : ℕ) → 0 < slot → at / slot < (at + slot) / slot
slots at slot positive = let e : (at + slot) / slot ≡ at / slot + 1 = add-div_right at positive in omega (arith, e)

up : (f : RowFormat) (slot at size : ℕ) → 0 < size → (f ≡ Static → size ≡ slot) → pointer_by f slot at < pointer_by f slot (at + size)
up Static slot at size some is = subst (λ n. at / n < (at + size) / n) (is refl) (slots at size some)
up Dynamic slot at size some is = omega arith

module _ (d : Defs) (s : IsSound d) where
  from_more : (at : ℕ) (flags : List Bool) (rows : List SizedRow) (row : SizedRow) (b : Bool) → length flags ≡ length rows → AllByRecursion (IsStorable d) rows
      → pointers_at d at (flags ++ b ∷ []) (rows ++ row ∷ []) ≡ pointers_at d at flags rows ++ cond b (pointer d (at + length (stored_from d at (picked flags rows)))) 0 ∷ []
  from_more at [] [] row true same all = let e : at ≡ at + 0 = omega arith in ap (λ p. pointer d p ∷ []) e
  from_more at [] [] row false same all = refl
  from_more at [] (r ∷ rows) row b same all = absurd (omega (arith, same))
  from_more at (f ∷ flags) [] row b same all = absurd (omega (arith, same))
  from_more at (true ∷ flags) (r ∷ rows) row b same all =
      let next : ℕ = at + stored_size d r in
      let more : List ℕ = stored_from d next (picked flags rows) in
      let e : next + length more ≡ at + length (stored d at r ++ more) = omega (arith, stored_long d r s all.0 at, length-append (stored d at r) more) in
      ap (λ ps. pointer d at ∷ ps) (from_more next flags rows row b (omega (arith, same)) all.1) ∙ ap (λ p. pointer d at ∷ (pointers_at d next flags rows ++ cond b (pointer d p) 0 ∷ [])) e
  from_more at (false ∷ flags) (r ∷ rows) row b same all = ap (λ ps. 0 ∷ ps) (from_more at flags rows row b (omega (arith, same)) all.1)

  pub pointers_more : (choose : ℕ → Bool) (rows : List SizedRow) (row : SizedRow) (b : Bool) (end : ℕ) → choose (length rows) ≡ b → end ≡ length (stored_file d (chosen choose rows)) → AllByRecursion (IsStorable d) rows
      → pointers_at d 0 (flags_by choose (length (rows ++ row ∷ []))) (rows ++ row ∷ []) ≡ pointers_at d 0 (flags_by choose (length rows)) rows ++ cond b (pointer d end) 0 ∷ []
  unfolding stored_file
  pointers_more choose rows row b end is ends all =
      let flags : List Bool = flags_by choose (length rows) in
      let e : 0 + length (stored_from d 0 (picked flags rows)) ≡ end = omega (arith, ends) in
      ap (λ fs. pointers_at d 0 fs (rows ++ row ∷ [])) (flags_more choose rows row b is)
      ∙ from_more 0 flags rows row b (length-flags choose (length rows)) all
      ∙ ap (λ p. pointers_at d 0 flags rows ++ cond b (pointer d p) 0 ∷ []) e

  -- the pointer behind a row is greater
  pub pointer_up : (at : ℕ) (row : SizedRow) → IsStorable d row → pointer d at < pointer d (at + stored_size d row)
  pointer_up at row can =
      up d.format d.slot_length at (stored_size d row) (stored_some d row s can).0 (λ is. length-slot d row s is can)

  -- each pointer of a set flag is at least the first
  low : (at : ℕ) (flags : List Bool) (rows : List SizedRow) (j : ℕ) → length flags ≡ length rows → AllByRecursion (IsStorable d) rows → get_or flags j false ≡ true → pointer d at ≤ get_or (pointers_at d at flags rows) j 0
  low at [] rows j same all set = absurd cc
  low at (b ∷ flags) [] j same all set = absurd (omega (arith, same))
  low at (true ∷ flags) (row ∷ rows) zero same all set = omega arith
  low at (true ∷ flags) (row ∷ rows) (suc j) same all set = omega (arith, pointer_up at row all.0, low (at + stored_size d row) flags rows j (omega (arith, same)) all.1 set)
  low at (false ∷ flags) (row ∷ rows) zero same all set = absurd cc
  low at (false ∷ flags) (row ∷ rows) (suc j) same all set = low at flags rows j (omega (arith, same)) all.1 set

  pub rising : (at : ℕ) (flags : List Bool) (rows : List SizedRow) → length flags ≡ length rows → AllByRecursion (IsStorable d) rows → AreRisingAt flags (pointers_at d at flags rows)
  rising at [] rows same all i j less one other = absurd cc
  rising at (b ∷ flags) [] same all i j less one other = absurd (omega (arith, same))
  rising at (b ∷ flags) (row ∷ rows) same all i zero less one other = absurd (omega (arith, less))
  rising at (true ∷ flags) (row ∷ rows) same all zero (suc j) less one other = omega (arith, pointer_up at row all.0, low (at + stored_size d row) flags rows j (omega (arith, same)) all.1 other)
  rising at (true ∷ flags) (row ∷ rows) same all (suc i) (suc j) less one other = rising (at + stored_size d row) flags rows (omega (arith, same)) all.1 i j (omega (arith, less)) one other
  rising at (false ∷ flags) (row ∷ rows) same all zero (suc j) less one other = absurd cc
  rising at (false ∷ flags) (row ∷ rows) same all (suc i) (suc j) less one other = rising at flags rows (omega (arith, same)) all.1 i j (omega (arith, less)) one other

-- ---- the pairs of rows with their pointers

-- those of rows one after the other, the first at a place
pointers_from : Defs → ℕ → List SizedRow → List ℕ
pointers_from d at [] = []
pointers_from d at (row ∷ rows) = pointer d at ∷ pointers_from d (at + stored_size d row) rows

picked_pointers : (d : Defs) (at : ℕ) (flags : List Bool) (rows : List SizedRow) → length flags ≡ length rows → picked flags (pointers_at d at flags rows) ≡ pointers_from d at (picked flags rows)
unfolding pointers_from
picked_pointers d at [] rows same = refl
picked_pointers d at (b ∷ flags) [] same = absurd (omega (arith, same))
picked_pointers d at (true ∷ flags) (row ∷ rows) same = ap (λ ps. pointer d at ∷ ps) (picked_pointers d (at + stored_size d row) flags rows (omega (arith, same)))
picked_pointers d at (false ∷ flags) (row ∷ rows) same = picked_pointers d at flags rows (omega (arith, same))

placed_pairs : (d : Defs) (k at : ℕ) (rows : List SizedRow) → pairs_with (key_in d k) rows (pointers_from d at rows) ≡ pairs_of d k (placed_from d at rows)
unfolding pointers_from
placed_pairs d k at [] = refl
placed_pairs d k at (row ∷ rows) = ap (λ ps. record { key = key_in d k row; row = pointer d at } ∷ ps) (placed_pairs d k (at + stored_size d row) rows)

lists_placed : (d : Defs) (rows : List SizedRow) (pointers : List ℕ) → pointers ≡ pointers_from d 0 rows → map sorted (pointer_pairs d rows pointers) ≡ key_lists d (placed_from d 0 rows)
unfolding key_list
lists_placed d rows pointers is = ap (λ ps. map sorted (pointer_pairs d rows ps)) is ∙ each (key_numbers d)
  where
    each : (ks : List ℕ) → map sorted (map (λ k. pairs_with (key_in d k) rows (pointers_from d 0 rows)) ks) ≡ map (λ k. sorted (pairs_of d k (placed_from d 0 rows))) ks
    each [] = refl
    each (k ∷ ks) = ap (λ ps. sorted ps ∷ map sorted (map (λ j. pairs_with (key_in d j) rows (pointers_from d 0 rows)) ks)) (placed_pairs d k 0 rows) ∙ ap (λ ls. sorted (pairs_of d k (placed_from d 0 rows)) ∷ ls) (each ks)

-- where all rows were written
pub lists_of_all : (d : Defs) (rows : List SizedRow) (lists : List (List Pair)) (pointers : List ℕ) → IsSound d → AllByRecursion (IsStorable d) rows → AreNumberLists d rows lists → pointers ≡ pointers_at d 0 (flags_by all_chosen (length rows)) rows
    → map sorted (map (map (pointed pointers)) lists) ≡ key_lists d (placed_from d 0 rows)
lists_of_all d rows lists pointers s stored are is =
    let flags : List Bool = flags_by all_chosen (length rows) in
    let many : length flags ≡ length rows = length-flags all_chosen (length rows) in
    let long : length pointers ≡ length rows = ap (λ (ps : List ℕ). length ps) is ∙ length-pointers d 0 flags rows many in
    let up : AreRisingAt flags pointers = subst (AreRisingAt flags) (sym is) (rising d s 0 flags rows many stored) in
    let set : (i : ℕ) → i < length pointers → get_or flags i false ≡ true = λ i few. get_or-map-range_with_len all_chosen 0 (length rows) i i false (omega (arith, few, long)) (omega arith) in
    let same : length rows ≡ length pointers = sym long in
    all_pointed d rows lists pointers are long (λ i j less few. up i j less (set i (omega (arith, less, few))) (set j few))
    ∙ lists_placed d rows pointers
    (sym (picked_all pointers 0) ∙ ap (λ n. picked (map all_chosen (range_with_len 0 n)) pointers) long ∙ ap (picked flags) is ∙ picked_pointers d 0 flags rows many ∙ ap (pointers_from d 0) (chosen_all rows))

-- where those with a set flag were
pub lists_of_kept : (d : Defs) (rows : List SizedRow) (lists : List (List Pair)) (flags : List Bool) (pointers : List ℕ) → IsSound d → AllByRecursion (IsStorable d) rows → AreNumberLists d rows lists → length flags ≡ length rows → pointers ≡ pointers_at d 0 flags rows
    → map sorted (map (map (pointed pointers)) (map (filter (has_flag flags)) lists)) ≡ key_lists d (placed_from d 0 (picked flags rows))
lists_of_kept d rows lists flags pointers s stored are many is =
    let long : length pointers ≡ length rows = ap (λ (ps : List ℕ). length ps) is ∙ length-pointers d 0 flags rows many in
    kept_pointed d rows lists flags pointers are many long (subst (AreRisingAt flags) (sym is) (rising d s 0 flags rows many stored))
    ∙ lists_placed d (picked flags rows) (picked flags pointers) (ap (picked flags) is ∙ picked_pointers d 0 flags rows many)
