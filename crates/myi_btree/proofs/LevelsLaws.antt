-- Laying one level above the other.
use Rattle.std.proofs.Common.{◌≡◌, ℕ, zero, suc, ◌+◌, ◌-◌, ◌*◌, ◌%◌, ◌^◌, ◌<◌, Bool, true, false, ltb, List, [], ◌∷◌, ◌++◌, length, take, drop, refl, sym, ap, subst, append-nil, arith}
use Rattle.std.specs.List.{AllByRecursion}
use Rattle.std.proofs.lemmas.List.{length-map, take-append-drop}
use Rattle.myi_keypage.specs.Page.{page_with, IsBranching, IsPlace}
use Rattle.myi_keylist.specs.declared.pair.Pair.{Pair}
use Rattle.myi_btree.specs.declared.place.Place.{Place}
use Rattle.myi_btree.specs.Nodes.{entry_of, entries_of}
use Rattle.myi_btree.specs.Sizes.{fits_in}
use Rattle.myi_btree.specs.LaidPages.{Fits, count_of, Level, after_page, level_of, places_from, above, levels_from, laid}
use Rattle.myi_btree.specs.Levels.{upper}
use Rattle.myi_btree.proofs.Frames.{all_right}

-- ---- levels

-- a level has one page more than entries set aside
pub level_count : (n : ℕ) (fits : List Pair → Bool) (entries : List Pair) (children : List ℕ) → length (level_of n fits entries children).pages ≡ suc (length (level_of n fits entries children).separators)
level_count zero fits entries children = refl
level_count (suc n) fits entries children = step (count_of fits entries) (drop (count_of fits entries) entries) (λ es cs. level_count n fits es cs)
  where
    step : (count : ℕ) (left : List Pair) → ((es : List Pair) (cs : List ℕ) → length (level_of n fits es cs).pages ≡ suc (length (level_of n fits es cs).separators))
        → length (after_page (level_of n fits) count entries children left).pages ≡ suc (length (after_page (level_of n fits) count entries children left).separators)
    step count [] again = refl
    step count (s ∷ r) again = ap suc (again r (drop (suc count) children))

-- what holds of all entries holds of those set aside
pub level_all : (P : Pair → Type 0) (n : ℕ) (fits : List Pair → Bool) (entries : List Pair) (children : List ℕ) → AllByRecursion P entries → AllByRecursion P (level_of n fits entries children).separators
level_all P zero fits entries children all = tt
level_all P (suc n) fits entries children all =
    step (count_of fits entries) (drop (count_of fits entries) entries) (all_right P (take (count_of fits entries) entries) (drop (count_of fits entries) entries) (subst (λ (t : List Pair). AllByRecursion P t) (sym (take-append-drop (count_of fits entries) entries)) all))
    (λ es cs. level_all P n fits es cs)
  where
    step : (count : ℕ) (left : List Pair) → AllByRecursion P left → ((es : List Pair) (cs : List ℕ) → AllByRecursion P es → AllByRecursion P (level_of n fits es cs).separators)
        → AllByRecursion P (after_page (level_of n fits) count entries children left).separators
    step count [] h again = tt
    step count (s ∷ r) h again = (h.0, again r (drop (suc count) children) h.1)

pub levels_step : (n : ℕ) (fits : Fits) (block at : ℕ) (node : Bool) (entries : List Pair) (children : List ℕ) (level : Level) → level ≡ level_of (length entries) (fits node) entries children
    → levels_from (suc n) fits block at node entries children
    ≡ level.pages ++ upper n fits block (at + block * length level.pages) level.separators (places_from (length level.pages) block at) (ltb 1 (length level.pages))
levels_step n fits block at node entries children level e = rw (← e) (by (ltb 1 (length level.pages)))
  where
    by : (b : Bool) → above (λ l. levels_from n fits block (at + block * length l.pages) true l.separators (places_from (length l.pages) block at)) level b
        ≡ level.pages ++ upper n fits block (at + block * length level.pages) level.separators (places_from (length level.pages) block at) b
    by true = refl
    by false = sym (append-nil level.pages)

pub places_are : (n block at : ℕ) → at % 1024 ≡ 0 → block % 1024 ≡ 0 → at + block * n < 2 ^ 64 → 0 < block → AllByRecursion IsPlace (places_from n block at)
places_are zero block at a b lt some = tt
places_are (suc n) block at a b lt some = ((a, omega arith), places_are n block (at + block) (omega arith) b (omega arith) some)

pub branches_above : (separators : List Pair) (places : List ℕ) → length places ≡ suc (length separators) → IsBranching (page_with (entries_of separators) places)
branches_above separators [] e = tt
branches_above separators (p ∷ places) e = omega (arith, e, length-map separators entry_of)

pub multiple : (block n at : ℕ) → at % 1024 ≡ 0 → block % 1024 ≡ 0 → (at + block * n) % 1024 ≡ 0
multiple block zero at a b = let e : at + block * 0 ≡ at = omega arith in rw e a
multiple block (suc n) at a b =
    let e : at + block * suc n ≡ at + block + block * n = omega arith in
    let next : (at + block) % 1024 ≡ 0 = omega arith in
    rw e (multiple block n (at + block) next b)

-- the lowest level of some pairs
pub levels_first : (place : Place) (first : ℕ) (pairs : List Pair) → 0 < length pairs → laid (fits_in place) place.block_length first pairs ≡ levels_from (suc (length pairs - 1)) (fits_in place) place.block_length first false pairs []
levels_first place first [] some = absurd (omega arith)
levels_first place first (p ∷ ps) some = let e : suc (length ps) ≡ suc (length (p ∷ ps) - 1) = omega arith in ap (λ (n : ℕ). levels_from n (fits_in place) place.block_length first false (p ∷ ps) []) e
