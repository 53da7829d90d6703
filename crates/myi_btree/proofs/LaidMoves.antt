-- Pages that are laid from another place differ in their children alone.
use Rattle.std.proofs.Common.{◌≡◌, ℕ, zero, suc, ◌+◌, ◌*◌, Bool, true, false, ltb, List, [], ◌∷◌, ◌++◌, length, map, drop, refl, sym, ap, ◌∙◌, arith}
use Rattle.std.proofs.lemmas.List.{map-append, length-map, take-map, drop-map}
use Rattle.myi_keylist.specs.declared.pair.Pair.{Pair}
use Rattle.myi_btree.specs.Walk.{Node}
use Rattle.myi_btree.specs.LaidPages.{Fits, count_of, Level, after_page, level_of, places_from, above, levels_from, laid, moved}

abbrev on : ℕ → List ℕ → List ℕ
on by xs = map (λ (child : ℕ). child + by) xs

abbrev moved_level : ℕ → Level → Level
moved_level by level = record { pages = map (moved by) level.pages; separators = level.separators }

level_moves : (n by : ℕ) (fits : List Pair → Bool) (entries : List Pair) (children : List ℕ) → level_of n fits entries (on by children) ≡ moved_level by (level_of n fits entries children)
level_moves zero by fits entries children = refl
level_moves (suc n) by fits entries children = step (count_of fits entries) (drop (count_of fits entries) entries) (λ es cs. level_moves n by fits es cs)
  where
    step : (count : ℕ) (left : List Pair) → ((es : List Pair) (cs : List ℕ) → level_of n fits es (on by cs) ≡ moved_level by (level_of n fits es cs))
        → after_page (level_of n fits) count entries (on by children) left ≡ moved_level by (after_page (level_of n fits) count entries children left)
    step count [] again = refl
    step count (s ∷ r) again = rw (take-map (λ (child : ℕ). child + by) (suc count) children, drop-map (λ (child : ℕ). child + by) (suc count) children, again r (drop (suc count) children)) refl

places_move : (n block at by : ℕ) → places_from n block (at + by) ≡ on by (places_from n block at)
places_move zero block at by = refl
places_move (suc n) block at by =
    let next : at + by + block ≡ at + block + by = omega arith in
    ap (λ (t : List ℕ). (at + by) ∷ t) (ap (places_from n block) next ∙ places_move n block (at + block) by)

levels_move : (n by : ℕ) (fits : Fits) (block at : ℕ) (node : Bool) (entries : List Pair) (children : List ℕ) → levels_from n fits block (at + by) node entries (on by children) ≡ map (moved by) (levels_from n fits block at node entries children)
levels_move zero by fits block at node entries children = refl
levels_move (suc n) by fits block at node entries children =
    let level : Level = level_of (length entries) (fits node) entries children in
    let total : length (map (moved by) level.pages) ≡ length level.pages = length-map level.pages (moved by) in
    rw (level_moves (length entries) by (fits node) entries children, total) (step level (ltb 1 (length level.pages)) (λ a es cs. levels_move n by fits block a true es cs))
  where
    step : (level : Level) (more : Bool) → ((a : ℕ) (es : List Pair) (cs : List ℕ) → levels_from n fits block (a + by) true es (on by cs) ≡ map (moved by) (levels_from n fits block a true es cs))
        → above (λ l. levels_from n fits block (at + by + block * length l.pages) true l.separators (places_from (length l.pages) block (at + by))) (moved_level by level) more
        ≡ map (moved by) (above (λ l. levels_from n fits block (at + block * length l.pages) true l.separators (places_from (length l.pages) block at)) level more)
    step level false again = refl
    step level true again =
        let total : length (map (moved by) level.pages) ≡ length level.pages = length-map level.pages (moved by) in
        let k : ℕ = length level.pages in
        let next : at + by + block * k ≡ at + block * k + by = omega arith in
        rw (total, next, places_move k block at by) (ap (λ (t : List Node). map (moved by) level.pages ++ t) (again (at + block * k) level.separators (places_from k block at)) ∙ sym (map-append (moved by) level.pages (levels_from n fits block (at + block * k) true level.separators (places_from k block at))))

pub laid_moves : (fits : Fits) (block at by : ℕ) (pairs : List Pair) → laid fits block (at + by) pairs ≡ map (moved by) (laid fits block at pairs)
laid_moves fits block at by [] = refl
laid_moves fits block at by (p ∷ ps) = levels_move (length (p ∷ ps)) by fits block at false (p ∷ ps) []
