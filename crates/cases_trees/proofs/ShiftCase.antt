-- Moving what was laid from place 0.
use Rattle.std.proofs.Common.{◌≡◌, ℕ, ◌+◌, ◌-◌, ◌*◌, ◌%◌, ◌^◌, ◌<◌, ◌≤◌, List, [], ◌∷◌, length, map, replicate, sym, ap, subst, ◌∙◌, arith}
use Rattle.std.proofs.lemmas.List.{length-append, length-replicate, length-map}
use Rattle.myi_keypage.specs.Page.{page_bytes}
use Rattle.myi_keylist.specs.declared.pair.Pair.{Pair}
use Rattle.myi_btree.specs.declared.place.Place.{Place}
use Rattle.myi_btree.specs.Walk.{Node}
use Rattle.myi_btree.specs.Nodes.{page_of_node}
use Rattle.myi_btree.specs.Sizes.{IsPlaced, AreSized, fits_in}
use Rattle.myi_btree.specs.LaidPages.{moved, root_of}
use Rattle.myi_btree.specs.Building.{page_for, pages_bytes, AreKeys, laid_at, built_at}
use Rattle.myi_btree.specs.Moving.{StoredPage, laid_page, stored_pages, AreMovable, CanMoveRoot}
use Rattle.myi_btree.proofs.CallerLemmas.{laid_moves, laid_movable, laid_stored}

page_least : (place : Place) (node : Node) → place.block_length ≤ length (page_for place node)
unfolding page_for
page_least place node =
    let text : List ℕ = page_bytes place.rec_ref (page_of_node node) in
    omega (arith, length-append text (replicate (place.block_length - length text) 0), length-replicate {A = ℕ} (place.block_length - length text) 0)

pages_least : (place : Place) (nodes : List Node) → place.block_length * length nodes ≤ length (pages_bytes place nodes)
pages_least place [] = omega arith
pages_least place (node ∷ nodes) = omega (arith, length-append (page_for place node) (pages_bytes place nodes), page_least place node, pages_least place nodes)

small : (place : Place) (first : ℕ) (pairs : List Pair) (bytes : List ℕ) → bytes ≡ pages_bytes place (laid_at place 0 pairs) → first + length bytes < 2 ^ 64 → first + place.block_length * length (laid_at place 0 pairs) < 2 ^ 64
small place first pairs bytes e lt = omega (arith, lt, ap length e, pages_least place (laid_at place 0 pairs))

pub movable : (place now : Place) (first : ℕ) (pairs : List Pair) (bytes : List ℕ) → IsPlaced place → first % 1024 ≡ 0 → AreSized place pairs → AreKeys pairs → bytes ≡ pages_bytes place (laid_at place 0 pairs) → first + length bytes < 2 ^ 64 → now ≡ built_at place 0 pairs
    → (stored : List StoredPage) × AreMovable now first stored × (bytes ≡ stored_pages now stored)
movable place now first pairs bytes placed whole sized keys e lt is =
    let zero_is : 0 + first ≡ first = omega arith in
    let nodes : List Node = laid_at place 0 pairs in
    let same : laid_at place first pairs ≡ map (moved first) nodes = ap (λ (n : ℕ). laid_at place n pairs) (sym zero_is) ∙ laid_moves (fits_in place) place.block_length 0 first pairs in
    let total : length (laid_at place first pairs) ≡ length nodes = ap length same ∙ length-map nodes (moved first) in
    let k = small place first pairs bytes e lt in
    let room : first + place.block_length * length (laid_at place first pairs) < 2 ^ 64 = omega (arith, k, ap (λ (n : ℕ). place.block_length * n) total) in
    let stored : List StoredPage = map (laid_page place) nodes in
    let moves : AreMovable place first stored = laid_movable place first pairs placed whole sized keys room in
    (stored, subst (λ (p : Place). AreMovable p first stored) (sym is) moves, e ∙ sym (laid_stored place (built_at place 0 pairs).root nodes) ∙ ap (λ (p : Place). stored_pages p stored) (sym is))

pub root_moves : (place now : Place) (first : ℕ) (pairs : List Pair) (bytes : List ℕ) → bytes ≡ pages_bytes place (laid_at place 0 pairs) → first + length bytes < 2 ^ 64 → now ≡ built_at place 0 pairs → CanMoveRoot first now.root
root_moves place now first pairs bytes e lt is = subst (λ (p : Place). CanMoveRoot first p.root) (sym is) (of_nodes (laid_at place 0 pairs) (small place first pairs bytes e lt))
  where
    of_nodes : (nodes : List Node) → first + place.block_length * length nodes < 2 ^ 64 → CanMoveRoot first (root_of place.block_length 0 nodes)
    of_nodes [] h = tt
    of_nodes (node ∷ nodes) h = omega (arith, h)
