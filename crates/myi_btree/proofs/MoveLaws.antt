-- Moving pages in memory, one after the other.
use Rattle.std.proofs.Common.{◌≡◌, ℕ, Option, ◌+◌, ◌-◌, ◌*◌, ◌%◌, ◌^◌, ◌<◌, ◌≤◌, List, [], ◌∷◌, ◌++◌, length, map, replicate, take, drop, refl, sym, ap, subst, ◌∙◌, append_assoc, append-nil, arith}
use Rattle.std.specs.Prelude.{nat_lt}
use Rattle.std.specs.List.{AllByRecursion}
use Rattle.std.proofs.lemmas.Grind.{flat_map-append}
use Rattle.std.proofs.lemmas.Slice.{take-put_mid, drop-put_mid}
use borrow.Rule.Slice.PartMut.{put_mid}
use Rattle.std.proofs.lemmas.List.{take-append-drop, length-append, length-replicate, length-map, map-append, drop_at, take-append-le, take_all}
use Rattle.myi_keypage.specs.Page.{page_bytes, is_node}
use Rattle.myi_keypage.specs.Fitting.{used_length}
use Rattle.myi_keypage.specs.Shifting.{shifted, CanShift}
use Rattle.myi_keylist.specs.declared.pair.Pair.{Pair}
use Rattle.myi_btree.specs.declared.place.Place.{Place}
use Rattle.myi_btree.specs.Walk.{Node}
use Rattle.myi_btree.specs.Nodes.{page_of_node}
use Rattle.myi_btree.specs.LaidPages.{moved}
use Rattle.myi_keypage.specs.Page.{IsPlace}
use Rattle.myi_keypage.proofs.CallerLemmas.{page_length}
use Rattle.myi_btree.specs.Sizes.{IsPlaced, AreSized, fits_in}
use Rattle.myi_btree.specs.Building.{AreKeys, IsWritten, laid_at, page_for, pages_bytes}
use Rattle.myi_btree.proofs.LaidMoves.{laid_moves}
use Rattle.myi_btree.proofs.LaidRead.{laid_written}
use Rattle.myi_btree.specs.Moving.{StoredPage, laid_page, stored_page, stored_pages, IsMovable, AreMovable, moved_page}
use Rattle.myi_btree.proofs.BodyLaws.{page_is}

-- a part that was written
pub put_is : (at k n : ℕ) (xs ys : List ℕ) → n ≡ at + k → n ≤ length xs → length ys ≡ k → put_mid at k xs ys ≡ take at xs ++ (ys ++ drop n xs)
put_is at k n xs ys e inside long =
    sym (take-append-drop n (put_mid at k xs ys))
    ∙ ap (λ (t : List ℕ). t ++ drop n (put_mid at k xs ys)) (take-put_mid at k xs ys n (omega (arith, e, long)) (omega (arith, e)))
    ∙ ap (λ (t : List ℕ). (take at xs ++ ys) ++ t) (drop-put_mid at k xs ys n (omega (arith, e)) (omega (arith, e)) long)
    ∙ append_assoc (take at xs) ys (drop n xs)

-- some pages are moved, and the others are left
pub record Moving (place : Place) (by : ℕ) (pages : List ℕ) (at : ℕ) (stored : List StoredPage) : Type 0 where
  pub done : List StoredPage
  pub left : List StoredPage
  pub all : stored ≡ done ++ left
  pub movable : AreMovable place by left
  pub text : pages ≡ stored_pages place (map (moved_page by) done) ++ stored_pages place left
  pub start : length (stored_pages place (map (moved_page by) done)) ≡ at

pub moving_start : (place : Place) (by : ℕ) (pages : List ℕ) (stored : List StoredPage) → AreMovable place by stored → pages ≡ stored_pages place stored → Moving place by pages 0 stored
moving_start place by pages stored movable e = record { done = []; left = stored; all = refl; movable = movable; text = e; start = refl }

take_at : (p q : List ℕ) (n : ℕ) → length p ≡ n → take n (p ++ q) ≡ p
take_at p q n e = take-append-le n p q (omega (arith, e)) ∙ take_all n p (omega (arith, e))

-- the page at a place
pub record Page (place : Place) (by : ℕ) (pages : List ℕ) (at : ℕ) (stored : List StoredPage) : Type 0 where
  pub node : Node
  pub rest : List ℕ
  pub can : CanShift place.rec_ref by (page_of_node node)
  pub room : at + place.block_length ≤ length pages
  pub here : take place.block_length (drop at pages) ≡ page_bytes place.rec_ref (page_of_node node) ++ rest
  pub then : (page new : List ℕ) → page ≡ page_bytes place.rec_ref (shifted by (page_of_node node)) ++ rest → length page ≡ place.block_length → new ≡ take at pages ++ (page ++ drop (at + place.block_length) pages) → Moving place by new (at + place.block_length) stored

pub page_at : (place : Place) (by : ℕ) (pages : List ℕ) (at : ℕ) (stored : List StoredPage) → Moving place by pages at stored → at < length pages → Page place by pages at stored
page_at place by pages at stored m lt = go m.left m.all m.movable m.text
  where
    front : List ℕ
    front = stored_pages place (map (moved_page by) m.done)

    go : (left : List StoredPage) → stored ≡ m.done ++ left → AreMovable place by left → pages ≡ front ++ stored_pages place left → Page place by pages at stored
    go [] all movable text = absurd (omega (arith, ap length text, length-append front [], m.start))
    go (one ∷ left) all movable text =
        let block : ℕ = place.block_length in
        let old : List ℕ = stored_page place one in
        let moved_one : List ℕ = stored_page place (moved_page by one) in
        let long : length old ≡ block = movable.0.1 in
        let back : List ℕ = stored_pages place left in
        let there : drop at pages ≡ old ++ back = ap (drop at) text ∙ drop_at front (old ++ back) at m.start in
        let behind : drop (at + block) pages ≡ back = ap (drop (at + block)) (text ∙ sym (append_assoc front old back)) ∙ drop_at (front ++ old) back (at + block) (omega (arith, length-append front old, m.start, long)) in
        let before : take at pages ≡ front = ap (take at) text ∙ take_at front (old ++ back) at m.start in
        record {
          node = one.node;
          rest = one.behind;
          can = movable.0.0;
          room = omega (arith, ap length text, length-append front (old ++ back), length-append old back, m.start, long);
          here = ap (take block) there ∙ take_at old back block long;
          then = λ page new is size new_is.
              let page_now : page ≡ moved_one = is in
              let done_now : stored_pages place (map (moved_page by) (m.done ++ one ∷ [])) ≡ front ++ moved_one =
              ap (stored_pages place) (map-append (moved_page by) m.done (one ∷ [])) ∙ flat_map-append (stored_page place) (map (moved_page by) m.done) (moved_page by one ∷ []) ∙ ap (λ (t : List ℕ). front ++ t) (append-nil moved_one) in
              record {
                done = m.done ++ one ∷ [];
                left = left;
                all = all ∙ sym (append_assoc m.done (one ∷ []) left);
                movable = movable.1;
                text = new_is ∙ ap (λ (t : List ℕ). t ++ (page ++ drop (at + block) pages)) before ∙ ap (λ (t : List ℕ). front ++ (page ++ t)) behind ∙ ap (λ (t : List ℕ). front ++ (t ++ back)) page_now
                    ∙ sym (append_assoc front moved_one back) ∙ ap (λ (t : List ℕ). t ++ back) (sym done_now);
                start = omega (arith, ap length done_now, length-append front moved_one, m.start, ap length page_now, size);
              };
        }

-- all are moved
pub all_moved : (place : Place) (by : ℕ) (pages : List ℕ) (at : ℕ) (stored : List StoredPage) → 1024 ≤ place.block_length → Moving place by pages at stored → length pages ≤ at → pages ≡ stored_pages place (map (moved_page by) stored)
all_moved place by pages at stored least m le = go m.left m.all m.movable m.text
  where
    front : List ℕ
    front = stored_pages place (map (moved_page by) m.done)

    go : (left : List StoredPage) → stored ≡ m.done ++ left → AreMovable place by left → pages ≡ front ++ stored_pages place left → pages ≡ stored_pages place (map (moved_page by) stored)
    go [] all movable text = text ∙ append-nil front ∙ ap (λ (t : List StoredPage). stored_pages place (map (moved_page by) t)) (sym (all ∙ append-nil m.done))
    go (one ∷ left) all movable text = absurd (omega (arith, ap length text, length-append front (stored_page place one ++ stored_pages place left), length-append (stored_page place one) (stored_pages place left), m.start, movable.0.1, least))

-- ---- what was laid may be moved

laid_long : (place : Place) (node : Node) → IsWritten place node → length (stored_page place (laid_page place node)) ≡ place.block_length
laid_long place node here =
    let used : List ℕ = page_bytes place.rec_ref (page_of_node node) in
    omega (arith, here.fits, page_length place.rec_ref (page_of_node node) here.branching, length-append used (laid_page place node).behind, length-replicate {A = ℕ} (place.block_length - length used) 0)

movable_of : (place : Place) (by : ℕ) (node : Node) → IsWritten place node → IsWritten place (moved by node) → IsMovable place by (laid_page place node)
movable_of place by node here there = (record { has = here.page; branching = here.branching; places = further_of node.children there.page.places }, laid_long place node here)
  where
    further_of : (cs : List ℕ) → AllByRecursion IsPlace (map (λ (child : ℕ). child + by) cs) → AllByRecursion (λ (child : ℕ). IsPlace (child + by)) cs
    further_of [] all = tt
    further_of (c ∷ cs) all = (all.0, further_of cs all.1)

all_movable : (place : Place) (by : ℕ) (nodes : List Node) → AllByRecursion (IsWritten place) nodes → AllByRecursion (IsWritten place) (map (moved by) nodes) → AreMovable place by (map (laid_page place) nodes)
all_movable place by [] here there = tt
all_movable place by (node ∷ nodes) here there = (movable_of place by node here.0 there.0, all_movable place by nodes here.1 there.1)

-- a page has as many used bytes where its children stand elsewhere
used_same : (rec_ref by : ℕ) (node : Node) → is_node (page_of_node (moved by node)) ≡ is_node (page_of_node node)
used_same rec_ref by node = ap (λ (n : ℕ). nat_lt 0 n) (length-map node.children (λ (child : ℕ). child + by))

one_moved : (place : Place) (by : ℕ) (node : Node) → IsWritten place node → IsWritten place (moved by node) → stored_page place (moved_page by (laid_page place node)) ≡ page_for place (moved by node)
one_moved place by node here there =
    let old : List ℕ = page_bytes place.rec_ref (page_of_node node) in
    let new : List ℕ = page_bytes place.rec_ref (page_of_node (moved by node)) in
    let kinds : used_length place.rec_ref (is_node (page_of_node (moved by node))) (page_of_node node).entries ≡ used_length place.rec_ref (is_node (page_of_node node)) (page_of_node node).entries = ap (λ b. used_length place.rec_ref b (page_of_node node).entries) (used_same place.rec_ref by node) in
    let same : length old ≡ length new = omega (arith, kinds, page_length place.rec_ref (page_of_node node) here.branching, page_length place.rec_ref (page_of_node (moved by node)) there.branching) in
    ap (λ (n : ℕ). new ++ replicate (place.block_length - n) 0) same ∙ page_is place (moved by node)

all_are_moved : (place : Place) (by : ℕ) (nodes : List Node) → AllByRecursion (IsWritten place) nodes → AllByRecursion (IsWritten place) (map (moved by) nodes) → stored_pages place (map (moved_page by) (map (laid_page place) nodes)) ≡ pages_bytes place (map (moved by) nodes)
all_are_moved place by [] here there = refl
all_are_moved place by (node ∷ nodes) here there =
    ap (λ (t : List ℕ). t ++ stored_pages place (map (moved_page by) (map (laid_page place) nodes))) (one_moved place by node here.0 there.0) ∙ ap (λ (t : List ℕ). page_for place (moved by node) ++ t) (all_are_moved place by nodes here.1 there.1)

module _ (place : Place) (first : ℕ) (pairs : List Pair) (placed : IsPlaced place) (whole : first % 1024 ≡ 0) (sized : AreSized place pairs) (keys : AreKeys pairs) (small : first + place.block_length * length (laid_at place first pairs) < 2 ^ 64) where
  same_tree : laid_at place first pairs ≡ map (moved first) (laid_at place 0 pairs)
  same_tree = let zero_is : 0 + first ≡ first = omega arith in ap (λ (n : ℕ). laid_at place n pairs) (sym zero_is) ∙ laid_moves (fits_in place) place.block_length 0 first pairs

  written_here : AllByRecursion (IsWritten place) (laid_at place 0 pairs)
  written_here =
      let total : length (laid_at place first pairs) ≡ length (laid_at place 0 pairs) = ap length same_tree ∙ length-map (laid_at place 0 pairs) (moved first) in
      let from_zero : 0 + place.block_length * length (laid_at place 0 pairs) < 2 ^ 64 = omega (arith, small, ap (λ (n : ℕ). place.block_length * n) total) in
      laid_written place 0 pairs placed (omega arith) sized keys from_zero

  written_there : AllByRecursion (IsWritten place) (map (moved first) (laid_at place 0 pairs))
  written_there = subst (λ (t : List Node). AllByRecursion (IsWritten place) t) same_tree (laid_written place first pairs placed whole sized keys small)

  pub laid_movable : AreMovable place first (map (laid_page place) (laid_at place 0 pairs))
  laid_movable = all_movable place first (laid_at place 0 pairs) written_here written_there

  pub laid_moved : stored_pages place (map (moved_page first) (map (laid_page place) (laid_at place 0 pairs))) ≡ pages_bytes place (laid_at place first pairs)
  laid_moved = all_are_moved place first (laid_at place 0 pairs) written_here written_there ∙ ap (pages_bytes place) (sym same_tree)

-- the bytes of laid pages, which do not depend on the root
pub laid_stored : (place : Place) (root : Option ℕ) (nodes : List Node) → stored_pages (record place { root = root }) (map (laid_page place) nodes) ≡ pages_bytes place nodes
laid_stored place root [] = refl
laid_stored place root (node ∷ nodes) = ap (λ (t : List ℕ). stored_page place (laid_page place node) ++ t) (laid_stored place root nodes) ∙ ap (λ (t : List ℕ). t ++ pages_bytes place nodes) (page_is place node)
