-- A tree has no more pages than pairs.
use Rattle.std.proofs.Common.{◌≡◌, ℕ, zero, suc, ◌+◌, ◌-◌, ◌*◌, ◌<◌, ◌≤◌, Bool, true, false, List, [], ◌∷◌, length, drop, nat_lt, refl, ap, subst, arith, length-append, length-drop}
use Rattle.std.proofs.lemmas.Bool.{ltb-true}
use Rattle.myi_keylist.specs.declared.pair.Pair.{Pair}
use Rattle.myi_btree.specs.declared.place.Place.{Place}
use Rattle.myi_btree.specs.Walk.{Node}
use Rattle.myi_btree.specs.Sizes.{AreSized, IsSized, IsCount, fits_in}
use Rattle.myi_btree.specs.Nodes.{entry_of}
use Rattle.myi_btree.specs.LaidPages.{count_of, Level, after_page, level_of, places_from, above, levels_from, laid}
use Rattle.myi_btree.proofs.LaidRead.{good_count}
use Rattle.myi_btree.proofs.LevelsLaws.{level_count, level_all}
use Rattle.myi_btree.proofs.BodyLaws.{all_drop}

-- a level's pages and separators are no more than its entries, for each page has one

level_few : (n : ℕ) (place : Place) (node : Bool) (left : List Pair) (children : List ℕ) → length left ≤ n → 0 < length left → AreSized place left
    → length (level_of n (fits_in place node) left children).pages + length (level_of n (fits_in place node) left children).separators ≤ length left
level_few zero place node left children le some sized = absurd (omega arith)
level_few (suc n) place node left children le some sized =
    step (count_of (fits_in place node) left) (good_count place node left sized some) (drop (count_of (fits_in place node) left) left) refl (λ es cs l p s. level_few n place node es cs l p s)
  where
    step : (count : ℕ) → IsCount place node left count → (tail : List Pair) → drop count left ≡ tail
        → ((es : List Pair) (cs : List ℕ) → length es ≤ n → 0 < length es → AreSized place es → length (level_of n (fits_in place node) es cs).pages + length (level_of n (fits_in place node) es cs).separators ≤ length es)
        → length (after_page (level_of n (fits_in place node)) count left children tail).pages + length (after_page (level_of n (fits_in place node)) count left children tail).separators ≤ length left
    step count is [] e again = omega (arith, some)
    step count is (s ∷ r) e again =
        let long : length (drop count left) ≡ suc (length r) = ap (λ (ps : List Pair). length ps) e in
        let rest : length (drop count left) ≡ length left - count = length-drop count left in
        let behind : AreSized place (s ∷ r) = subst (AreSized place) e (all_drop (λ (p : Pair). IsSized place (entry_of p)) count left sized) in
        let others = again r (drop (suc count) children) (omega (arith, long, rest, is.some, le)) (omega (arith, long, rest, is.one)) behind.1 in
        omega (arith, others, long, rest, is.some)

levels_few : (n : ℕ) (place : Place) (at : ℕ) (node : Bool) (entries : List Pair) (children : List ℕ) → length entries ≤ n → 0 < length entries → AreSized place entries
    → length (levels_from n (fits_in place) place.block_length at node entries children) ≤ length entries
levels_few zero place at node entries children le some sized = absurd (omega arith)
levels_few (suc n) place at node entries children le some sized =
    step (level_of (length entries) (fits_in place node) entries children)
    (level_few (length entries) place node entries children (omega arith) some sized)
    (level_count (length entries) (fits_in place node) entries children)
    (level_all (λ p. IsSized place (entry_of p)) (length entries) (fits_in place node) entries children sized)
    (λ a es cs l p s. levels_few n place a true es cs l p s)
  where
    step : (level : Level) → length level.pages + length level.separators ≤ length entries → length level.pages ≡ suc (length level.separators) → AreSized place level.separators
        → ((a : ℕ) (es : List Pair) (cs : List ℕ) → length es ≤ n → 0 < length es → AreSized place es → length (levels_from n (fits_in place) place.block_length a true es cs) ≤ length es)
        → length (above (λ l. levels_from n (fits_in place) place.block_length (at + place.block_length * length l.pages) true l.separators (places_from (length l.pages) place.block_length at)) level (nat_lt 1 (length level.pages))) ≤ length entries
    step level few count aside again = by (nat_lt 1 (length level.pages)) refl
      where
        upper : Level → List Node
        upper l = levels_from n (fits_in place) place.block_length (at + place.block_length * length l.pages) true l.separators (places_from (length l.pages) place.block_length at)

        by : (b : Bool) → nat_lt 1 (length level.pages) ≡ b
            → length (above (λ l. levels_from n (fits_in place) place.block_length (at + place.block_length * length l.pages) true l.separators (places_from (length l.pages) place.block_length at)) level b) ≤ length entries
        by false is = omega arith
        by true is =
            let more : 1 < length level.pages = ltb-true 1 (length level.pages) is in
            let others = again (at + place.block_length * length level.pages) level.separators (places_from (length level.pages) place.block_length at) (omega arith) (omega arith) aside in
            omega (arith, others, length-append level.pages (levels_from n (fits_in place) place.block_length (at + place.block_length * length level.pages) true level.separators (places_from (length level.pages) place.block_length at)))

pub laid_few : (place : Place) (first : ℕ) (pairs : List Pair) → AreSized place pairs → length (laid (fits_in place) place.block_length first pairs) ≤ length pairs
laid_few place first [] sized = omega arith
laid_few place first (p ∷ ps) sized = levels_few (length (p ∷ ps)) place first false (p ∷ ps) [] (omega arith) (omega arith) sized
