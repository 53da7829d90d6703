-- The trees of a new index file stand where they are laid, and each is that of its key list.
use Rattle.std.proofs.Common.{◌≡◌, ℕ, zero, suc, ◌+◌, ◌-◌, ◌*◌, ◌%◌, ◌^◌, ◌<◌, ◌≤◌, true, Some, List, [], ◌∷◌, ◌++◌, length, map, take, drop, nat_le, refl, sym, ap, subst, ◌∙◌, arith, append_assoc, length-append}
use Rattle.std.specs.List.{flat_map, AllByRecursion}
use Rattle.std.proofs.lemmas.Bool.{le-leb, eq-eqb}
use Rattle.std.proofs.lemmas.List.{take_at, drop_at, drop-drop}
use Rattle.std.proofs.lemmas.List.Sums.{sum_by-append}
use Rattle.myi_base.specs.Ranges.{Range}
use Rattle.myi_defs.specs.declared.types.Defs.{Defs}
use Rattle.myi_defs.specs.Sound.{IsSound}
use Rattle.myi_defs.specs.Addressable.{is_addressable}
use Rattle.myi_keycache.specs.Lent.{bytes_at}
use Rattle.myi_keylist.specs.declared.pair.Pair.{Pair}
use Rattle.myi_btree.specs.declared.place.Place.{Place}
use Rattle.myi_btree.specs.Walk.{Node, Walked, content}
use Rattle.myi_btree.specs.Sizes.{IsPlaced, AreSized, fits_in}
use Rattle.myi_btree.specs.LaidPages.{laid, Stands, root_of}
use Rattle.myi_btree.specs.Building.{page_for}
use Rattle.myi_btree.specs.LaidOnce.{WalksOnce}
use Rattle.myi_btree.specs.Building.{AreKeys, IsWritten}
use Rattle.myi_btree.proofs.CallerLemmas.{walks_once, root_some, laid_written, written_read, page_long, pages_long}
use Rattle.myi_data.specs.Keys.{IsKeyNumber}
use Rattle.myi_pair.specs.KeyList.{PlacedRow, key_list}
use Rattle.myi_pair.specs.Trees.{block_of_key, place_of, node_at, pages_on, no_walk, HasWalkApart, HaveWalks, AreKeyLists, all_pages, total}
use Rattle.myi_pair.specs.RebuiltBytes.{LaidTrees, laid_trees}
use Rattle.myi_pair.proofs.SizedLaws.{IsNear, placed, list_sized}
use Rattle.myi_pair.proofs.PageRanges.{total_pages, all_between, EndBy, end_later, end_append, between_free, between_end}

-- what stands behind a part that is at a place
behind : (n k j : ℕ) (x p q : List ℕ) → drop n x ≡ p ++ q → length p ≡ k → j ≡ n + k → drop j x ≡ q
behind n k j x p q at long sum =
    ap (λ i. drop i x) sum ∙ sym (drop-drop k n x) ∙ ap (drop k) at ∙ drop_at p q k long

-- pages that stand in a file are read

bytes_there : (x : List ℕ) (at n : ℕ) (part rest : List ℕ) → drop at x ≡ part ++ rest → length part ≡ n → bytes_at x at n ≡ Some part
unfolding bytes_at
bytes_there x at n part rest is long =
    let inside : nat_le n (length (drop at x)) ≡ true = le-leb _ _ (omega (arith, ap (λ (b : List ℕ). length b) is, length-append part rest, long)) in
    let taken : take n (drop at x) ≡ part = ap (take n) is ∙ take_at part rest n long in
    rw inside (ap Some taken)

node_there : (place : Place) (x : List ℕ) (at : ℕ) (node : Node) (rest : List ℕ) → at % 1024 ≡ 0 → IsWritten place node → drop at x ≡ page_for place node ++ rest → node_at place.rec_ref place.block_length x at ≡ Some node
unfolding node_at
node_there place x at node rest whole w is =
    rw (eq-eqb (at % 1024) 0 whole, bytes_there x at place.block_length (page_for place node) rest is (page_long place node w)) (written_read place node w)

nodes_stand : (place : Place) (x : List ℕ) (first : ℕ) (nodes : List Node) (rest : List ℕ) → IsPlaced place → first % 1024 ≡ 0 → AllByRecursion (IsWritten place) nodes → drop first x ≡ flat_map (page_for place) nodes ++ rest
    → Stands (node_at place.rec_ref place.block_length x) place.block_length first nodes
nodes_stand place x first [] rest is_placed whole w is = tt
nodes_stand place x first (node ∷ nodes) rest is_placed whole w is =
    let page : List ℕ = page_for place node in
    let others : List ℕ = flat_map (page_for place) nodes in
    let here : drop first x ≡ page ++ (others ++ rest) = is ∙ append_assoc page others rest in
    let next : drop (first + place.block_length) x ≡ others ++ rest = behind first place.block_length (first + place.block_length) x page (others ++ rest) here (page_long place node w.0) refl in
    (node_there place x first node (others ++ rest) whole w.0 here, nodes_stand place x (first + place.block_length) nodes rest is_placed (omega (arith, is_placed.whole)) w.1 next)

-- one tree

-- the walk of a key's tree
record HasOwn (d : Defs) (k : ℕ) (x : List ℕ) (busy : List Range) (first : ℕ) (list : List Pair) (nodes : List Node) : Type 0 where
  pub own : Walked
  pub tree : HasWalkApart d k x (root_of (block_of_key d k) first nodes) busy own
  pub pairs : content own ≡ list
  pub size : total (pages_on d k own) ≡ block_of_key d k * length nodes
  pub ends : EndBy (first + block_of_key d k * length nodes) (pages_on d k own)

own_tree : (d : Defs) (k : ℕ) (x : List ℕ) (busy : List Range) (first : ℕ) (list : List Pair) (rest : List ℕ) → IsPlaced (place_of d k) → AreSized (place_of d k) list → AreKeys list → first % 1024 ≡ 0 → EndBy first busy
    → first + block_of_key d k * length (laid (fits_in (place_of d k)) (block_of_key d k) first list) < 2 ^ 64
    → drop first x ≡ flat_map (page_for (place_of d k)) (laid (fits_in (place_of d k)) (block_of_key d k) first list) ++ rest
    → HasOwn d k x busy first list (laid (fits_in (place_of d k)) (block_of_key d k) first list)
own_tree d k x busy first [] rest is_placed sized keys whole ends small is = record { own = no_walk; tree = refl; pairs = refl; size = omega arith; ends = tt }
own_tree d k x busy first (p ∷ ps) rest is_placed sized keys whole ends small is =
    let place : Place = place_of d k in
    let block : ℕ = block_of_key d k in
    let nodes : List Node = laid (fits_in place) block first (p ∷ ps) in
    let n : ℕ = length nodes in
    let written : AllByRecursion (IsWritten place) nodes = laid_written place first (p ∷ ps) is_placed whole sized keys small in
    let t : WalksOnce (node_at d.rec_ref block x) block first n (p ∷ ps) = walks_once (node_at d.rec_ref block x) (fits_in place) block first p ps (omega (arith, is_placed.least)) (nodes_stand place x first nodes rest is_placed whole written is) in
    let between = all_between block first n t.walked.pages t.pages in
    let tree : HasWalkApart d k x (Some (first + block * t.before)) busy t.walked = (t.walk, between_free first (first + block * n) block busy t.walked.pages ends between) in
    record {
      own = t.walked;
      tree = subst (λ root. HasWalkApart d k x root busy t.walked) (sym (root_some block first t.before nodes t.last)) tree;
      pairs = t.content;
      size = total_pages block t.walked.pages ∙ ap (λ m. block * m) t.count;
      ends = between_end first (first + block * n) block t.walked.pages between;
    }

-- all trees

abbrev pub trees_of : Defs → ℕ → List ℕ → List PlacedRow → LaidTrees
trees_of d first ks rows = laid_trees d first ks (map (λ k. key_list d k rows) ks)

pub first_le_end : (d : Defs) (first : ℕ) (ks : List ℕ) (lists : List (List Pair)) → first ≤ (laid_trees d first ks lists).end
first_le_end d first [] lists = omega arith
first_le_end d first (k ∷ ks) [] = omega arith
first_le_end d first (k ∷ ks) (pairs ∷ lists) =
    omega (arith, first_le_end d (first + block_of_key d k * length (laid (fits_in (place_of d k)) (block_of_key d k) first pairs)) ks lists)

pub record AreThere (d : Defs) (x : List ℕ) (rows : List PlacedRow) (busy : List Range) (first : ℕ) (ks : List ℕ) : Type 0 where
  pub walks : List Walked
  pub trees : HaveWalks d x busy ks (trees_of d first ks rows).roots walks
  pub lists : AreKeyLists d rows ks walks
  pub size : first + total (all_pages d ks walks) ≡ (trees_of d first ks rows).end
  pub long : first + length (trees_of d first ks rows).bytes ≡ (trees_of d first ks rows).end

pub trees_there : (d : Defs) (len : ℕ) (x : List ℕ) (rows : List PlacedRow) (busy : List Range) (first : ℕ) (ks : List ℕ) (rest : List ℕ) → IsSound d → is_addressable d len ≡ true → AllByRecursion (IsNear d len) rows → AllByRecursion (IsKeyNumber d) ks
    → first % 1024 ≡ 0 → EndBy first busy → (trees_of d first ks rows).end < 2 ^ 64 → drop first x ≡ (trees_of d first ks rows).bytes ++ rest → AreThere d x rows busy first ks
trees_there d len x rows busy first [] rest s reached near inside whole ends small is = record { walks = []; trees = (refl, refl); lists = refl; size = omega arith; long = omega arith }
trees_there d len x rows busy first (k ∷ ks) rest s reached near inside whole ends small is =
    let place : Place = place_of d k in
    let block : ℕ = block_of_key d k in
    let list : List Pair = key_list d k rows in
    let nodes : List Node = laid (fits_in place) block first list in
    let next : ℕ = first + block * length nodes in
    let others : LaidTrees = trees_of d next ks rows in
    let is_placed : IsPlaced place = placed d s k inside.0 in
    let good = list_sized d k len rows s inside.0 reached near in
    let below : next ≤ others.end = first_le_end d next ks (map (λ k. key_list d k rows) ks) in
    let pages : List ℕ = flat_map (page_for place) nodes in
    let here : drop first x ≡ pages ++ (others.bytes ++ rest) = is ∙ append_assoc pages others.bytes rest in
    let written : AllByRecursion (IsWritten place) nodes = laid_written place first list is_placed whole good.0 good.1 (omega arith) in
    let long : length pages ≡ block * length nodes = pages_long place nodes written in
    let there : drop next x ≡ others.bytes ++ rest = behind first (block * length nodes) next x pages (others.bytes ++ rest) here long refl in
    let t : HasOwn d k x busy first list nodes = own_tree d k x busy first list (others.bytes ++ rest) is_placed good.0 good.1 whole ends (omega arith) here in
    let own : List Range = pages_on d k t.own in
    let more : AreThere d x rows (busy ++ own) next ks = trees_there d len x rows (busy ++ own) next ks rest s reached near inside.1 (next_whole block first (length nodes) whole is_placed.whole) (end_append next busy own (end_later first next busy (omega arith) ends) t.ends) small there in
    record {
      walks = t.own ∷ more.walks;
      trees = (t.tree, more.trees);
      lists = (t.pairs, more.lists);
      size = omega (arith, sum_by-append (λ (r : Range). r.1 - r.0) own (all_pages d ks more.walks), t.size, more.size);
      long = omega (arith, length-append pages others.bytes, long, more.long);
    }
  where
    next_whole : (block first n : ℕ) → first % 1024 ≡ 0 → block % 1024 ≡ 0 → (first + block * n) % 1024 ≡ 0
    next_whole block first zero whole even = let e : first + block * 0 ≡ first = omega arith in ap (λ m. m % 1024) e ∙ whole
    next_whole block first (suc n) whole even =
        let e : first + block * suc n ≡ first + block * n + block = omega arith in
        ap (λ m. m % 1024) e ∙ omega (arith, next_whole block first n whole even, even)
