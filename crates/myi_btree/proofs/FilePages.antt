-- The bytes of laid pages, and that they stand behind a file over whose end they are laid.
use Rattle.std.proofs.Common.{◌≡◌, ℕ, ◌+◌, ◌-◌, ◌*◌, ◌<◌, ◌≤◌, ◌⊎◌, inl, inr, List, [], ◌∷◌, ◌++◌, length, take, drop, replicate, refl, sym, ap, subst, ◌∙◌, arith, append_assoc, append-nil, length-append, length-drop, drop_of_length-le}
use Rattle.std.specs.List.{flat_map, AllByRecursion}
use Rattle.std.proofs.lemmas.Bool.{cases_lt}
use Rattle.std.proofs.lemmas.List.{take_all, drop_at, drop-append-le, length-replicate}
use Rattle.myi_base.specs.Holding.{overwritten}
use Rattle.myi_keypage.specs.Page.{page_bytes}
use Rattle.myi_keypage.proofs.CallerLemmas.{page_length}
use Rattle.myi_keylist.specs.declared.pair.Pair.{Pair}
use Rattle.myi_btree.specs.declared.place.Place.{Place}
use Rattle.myi_btree.specs.Walk.{Node}
use Rattle.myi_btree.specs.Nodes.{page_of_node}
use Rattle.myi_btree.specs.Building.{IsWritten, laid_at, page_for, laid_over}
use Rattle.myi_btree.proofs.LaidRead.{laid_written}
use Rattle.myi_btree.specs.TreePages.{tree_pages, tree_end, with_tree, CanBeLaid, HasBehind}

-- pages have the length of a page

pub page_long : (place : Place) (node : Node) → IsWritten place node → length (page_for place node) ≡ place.block_length
unfolding page_for
page_long place node w =
    let text : List ℕ = page_bytes place.rec_ref (page_of_node node) in
    omega (arith, length-append text (replicate (place.block_length - length text) 0), length-replicate {A = ℕ} (place.block_length - length text) 0, page_length place.rec_ref (page_of_node node) w.branching, w.fits)

pub pages_long : (place : Place) (nodes : List Node) → AllByRecursion (IsWritten place) nodes → length (flat_map (page_for place) nodes) ≡ place.block_length * length nodes
pages_long place [] w = omega arith
pages_long place (node ∷ nodes) w = length-append (page_for place node) (flat_map (page_for place) nodes) ∙ omega (arith, page_long place node w.0, pages_long place nodes w.1)

-- written over the end of a file

over_is : (at : ℕ) (page file : List ℕ) → length file ≤ at → overwritten at page file ≡ (file ++ replicate (at - length file) 0) ++ page
over_is at page file short =
    let front : take at file ≡ file = take_all at file short in
    let none : drop (at + length page) file ≡ [] = drop_of_length-le file (omega arith) in
    rw (front, none, append-nil) refl

pub over_behind : (base end : ℕ) (bytes file page : List ℕ) → HasBehind base end bytes file → HasBehind base (end + length page) (bytes ++ page) (overwritten end page file)
over_behind base end bytes file page is =
    let zeros : List ℕ = replicate (end - length file) 0 in
    let whole : overwritten end page file ≡ (file ++ zeros) ++ page = over_is end page file is.short in
    let count : length zeros ≡ end - length file = length-replicate {A = ℕ} (end - length file) 0 in
    let front : length (file ++ zeros) ≡ end = omega (arith, length-append file zeros, count, is.short) in
    let all : length (overwritten end page file) ≡ end + length page = ap (λ (b : List ℕ). length b) whole ∙ omega (arith, length-append (file ++ zeros) page, front) in
    record {
      behind = ap (drop base) whole ∙ by (cases_lt (length file) base) zeros count front;
      long = omega (arith, is.long, length-append bytes page);
      short = omega (arith, all);
    }
  where
    left : length (drop base file) ≡ length file - base
    left = length-drop base file

    same : length (drop base file) ≡ length bytes
    same = ap (λ (b : List ℕ). length b) is.behind

    -- the file ends before the place, so there are no bytes behind it yet; or it ends with them
    by : (length file < base) ⊎ (base ≤ length file) → (zeros : List ℕ) → length zeros ≡ end - length file → length (file ++ zeros) ≡ end → drop base ((file ++ zeros) ++ page) ≡ bytes ++ page
    by (inl before) zeros count front =
        let none : bytes ≡ [] = sym is.behind ∙ drop_of_length-le file (omega arith) in
        let here : length (file ++ zeros) ≡ base = omega (arith, front, is.long, ap (λ (b : List ℕ). length b) none) in
        drop_at (file ++ zeros) page base here ∙ ap (λ b. b ++ page) (sym none)
    by (inr past) zeros count front =
        let no_zeros : zeros ≡ [] = empty zeros (omega (arith, count, is.long, left, same)) in
        let exact : file ++ zeros ≡ file = ap (λ b. file ++ b) no_zeros ∙ append-nil file in
        ap (λ b. drop base (b ++ page)) exact ∙ drop-append-le base file page past ∙ ap (λ b. b ++ page) is.behind
      where
        empty : (xs : List ℕ) → length xs ≡ 0 → xs ≡ []
        empty [] none = refl
        empty (x ∷ xs) none = absurd (omega arith)

nodes_behind : (place : Place) (base end : ℕ) (bytes file : List ℕ) (nodes : List Node) → AllByRecursion (IsWritten place) nodes → HasBehind base end bytes file
    → HasBehind base (end + place.block_length * length nodes) (bytes ++ flat_map (page_for place) nodes) (laid_over place end nodes file)
nodes_behind place base end bytes file [] written is =
    let same : end + place.block_length * 0 ≡ end = omega arith in
    rw (same, append-nil) is
nodes_behind place base end bytes file (node ∷ nodes) written is =
    let page : List ℕ = page_for place node in
    let block : ℕ = place.block_length in
    let long : length page ≡ block = page_long place node written.0 in
    let one : HasBehind base (end + block) (bytes ++ page) (overwritten end page file) = subst (λ n. HasBehind base (end + n) (bytes ++ page) (overwritten end page file)) long (over_behind base end bytes file page is) in
    let more = nodes_behind place base (end + block) (bytes ++ page) (overwritten end page file) nodes written.1 one in
    let count : end + block + block * length nodes ≡ end + block * length (node ∷ nodes) = omega arith in
    let joined : (bytes ++ page) ++ flat_map (page_for place) nodes ≡ bytes ++ (page ++ flat_map (page_for place) nodes) = append_assoc bytes page (flat_map (page_for place) nodes) in
    subst (λ n. HasBehind base n (bytes ++ (page ++ flat_map (page_for place) nodes)) (laid_over place (end + block) nodes (overwritten end page file))) count
    (subst (λ (b : List ℕ). HasBehind base (end + block + block * length nodes) b (laid_over place (end + block) nodes (overwritten end page file))) joined more)

-- the pages of a tree

pub tree_long : (place : Place) (first : ℕ) (pairs : List Pair) → CanBeLaid place first pairs → first + length (tree_pages place first pairs) ≡ tree_end place first pairs
tree_long place first pairs can =
    omega (arith, pages_long place (laid_at place first pairs) (laid_written place first pairs can.placed can.at can.sized can.keys can.room))

pub tree_behind : (place : Place) (first : ℕ) (pairs : List Pair) → CanBeLaid place first pairs → (base : ℕ) (bytes file : List ℕ) → HasBehind base first bytes file
    → HasBehind base (tree_end place first pairs) (bytes ++ tree_pages place first pairs) (with_tree place first pairs file)
tree_behind place first pairs can base bytes file is =
    nodes_behind place base first bytes file (laid_at place first pairs) (laid_written place first pairs can.placed can.at can.sized can.keys can.room) is
