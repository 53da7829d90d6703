-- Trees that were laid in memory: one is moved, and put behind those before it.
use Rattle.std.proofs.Common.{◌≡◌, ℕ, ◌+◌, ◌-◌, ◌*◌, ◌%◌, ◌^◌, ◌<◌, ◌≤◌, List, [], ◌∷◌, ◌++◌, length, get_or, map, replicate, Option, Some, unwrap_or, refl, sym, ap, subst, ◌∙◌, arith}
use Rattle.std.proofs.lemmas.List.{length-append, length-replicate, length-map}
use Rattle.myi_base.specs.Holding.{Holding, bytes_of, overwritten, Cuts}
use Rattle.myi_defs.specs.declared.types.Defs.{Defs}
use Rattle.myi_header.specs.Layout.{first_page_of}
use Rattle.myi_keypage.specs.Page.{page_bytes}
use Rattle.myi_keylist.specs.declared.pair.Pair.{Pair}
use Rattle.myi_keylist.specs.PairOrder.{sorted}
use Rattle.myi_btree.specs.declared.place.Place.{Place}
use Rattle.myi_btree.specs.declared.laid.Laid.{Laid}
use Rattle.myi_btree.specs.Walk.{Node}
use Rattle.myi_btree.specs.Nodes.{page_of_node}
use Rattle.myi_btree.specs.Sizes.{IsPlaced, fits_in}
use Rattle.myi_btree.specs.LaidPages.{moved, root_of}
use Rattle.myi_btree.specs.Building.{page_for, pages_bytes, laid_at, built_at}
use Rattle.myi_btree.specs.TreePages.{tree_pages, tree_end, CanBeLaid}
use Rattle.myi_btree.specs.Moving.{StoredPage, laid_page, stored_pages, AreMovable, moved_page, moved_root, CanMoveRoot}
use Rattle.myi_btree.proofs.CallerLemmas.{laid_moves, laid_movable, laid_moved, laid_stored, tree_long}
use Rattle.myi_pair.specs.Trees.{place_of, block_of_key}
use Rattle.myi_repair.specs.LaidInMemory.{IsTreeOf}
use Rattle.myi_repair.proofs.TreeLaws.{AreLaidTo, HoldsTo, laid_next, holds_next, laid_none, holds_none}
use Rattle.myi_repair.proofs.FilesLaws.{resized_none}

page_least : (place : Place) (node : Node) → place.block_length ≤ length (page_for place node)
unfolding page_for
page_least place node =
    let text : List ℕ = page_bytes place.rec_ref (page_of_node node) in
    omega (arith, length-append text (replicate (place.block_length - length text) 0), length-replicate {A = ℕ} (place.block_length - length text) 0)

pages_least : (place : Place) (nodes : List Node) → place.block_length * length nodes ≤ length (pages_bytes place nodes)
pages_least place [] = omega arith
pages_least place (node ∷ nodes) = omega (arith, length-append (page_for place node) (pages_bytes place nodes), page_least place node, pages_least place nodes)

module _ (place : Place) (first : ℕ) (pairs : List Pair) (tree : Laid) (is : IsTreeOf place pairs tree) (whole : first % 1024 ≡ 0) (room : first + length tree.pages.items < 2 ^ 64) where
  nodes : List Node
  nodes = laid_at place 0 pairs

  same : laid_at place first pairs ≡ map (moved first) nodes
  unfolding nodes
  same = let zero_is : 0 + first ≡ first = omega arith in ap (λ (n : ℕ). laid_at place n pairs) (sym zero_is) ∙ laid_moves (fits_in place) place.block_length 0 first pairs

  total : length (laid_at place first pairs) ≡ length nodes
  total = ap (λ (l : List Node). length l) same ∙ length-map nodes (moved first)

  small : first + place.block_length * length nodes < 2 ^ 64
  unfolding nodes
  small = omega (arith, room, ap (λ (b : List ℕ). length b) is.laid.pages, pages_least place (laid_at place 0 pairs))

  short : first + place.block_length * length (laid_at place first pairs) < 2 ^ 64
  short = omega (arith, small, ap (λ (n : ℕ). place.block_length * n) total)

  pub can : CanBeLaid place first pairs
  can = record { placed = is.placed; at = whole; sized = is.sized; keys = is.keys; room = short }

  -- its sizes are those of the place
  pub placed_same : IsPlaced tree.place
  placed_same = subst IsPlaced (sym is.laid.root) (record { whole = is.placed.whole; least = is.placed.least; most = is.placed.most; wide = is.placed.wide; narrow = is.placed.narrow })

  stored : List StoredPage
  stored = map (laid_page place) nodes

  are_movable : AreMovable tree.place first stored
  unfolding nodes stored
  are_movable = subst (λ (p : Place). AreMovable p first (map (laid_page place) (laid_at place 0 pairs))) (sym is.laid.root) (laid_movable place first pairs is.placed whole is.sized is.keys short)

  are_stored : tree.pages.items ≡ stored_pages tree.place stored
  unfolding nodes stored
  are_stored = is.laid.pages ∙ sym (laid_stored place (built_at place 0 pairs).root (laid_at place 0 pairs)) ∙ ap (λ (p : Place). stored_pages p (map (laid_page place) (laid_at place 0 pairs))) (sym is.laid.root)

  -- it may be moved
  pub movable : (stored : List StoredPage) × AreMovable tree.place first stored × (tree.pages.items ≡ stored_pages tree.place stored)
  movable = (stored, are_movable, are_stored)

  pub root_movable : CanMoveRoot first tree.place.root
  unfolding nodes
  root_movable = subst (λ (p : Place). CanMoveRoot first p.root) (sym is.laid.root) (of_nodes (laid_at place 0 pairs) small)
    where
      of_nodes : (ns : List Node) → first + place.block_length * length ns < 2 ^ 64 → CanMoveRoot first (root_of place.block_length 0 ns)
      of_nodes [] h = tt
      of_nodes (node ∷ ns) h = omega (arith, h, is.placed.least)

  -- and is then the tree that is laid from there on
  pub moved_pages : (pages : List ℕ) → ((s : List StoredPage) → AreMovable tree.place first s → tree.pages.items ≡ stored_pages tree.place s → pages ≡ stored_pages tree.place (map (moved_page first) s)) → pages ≡ tree_pages place first pairs
  unfolding nodes stored
  moved_pages pages are =
      are stored are_movable are_stored
      ∙ ap (λ (p : Place). stored_pages p (map (moved_page first) (map (laid_page place) (laid_at place 0 pairs)))) is.laid.root
      ∙ laid_moved place first pairs is.placed whole is.sized is.keys short

  pub root_is : moved_root first tree.place.root ≡ root_of place.block_length first (laid_at place first pairs)
  unfolding nodes
  root_is = ap (λ (p : Place). moved_root first p.root) is.laid.root ∙ of_nodes (laid_at place 0 pairs) ∙ ap (root_of place.block_length first) (sym same)
    where
      of_nodes : (ns : List Node) → moved_root first (root_of place.block_length 0 ns) ≡ root_of place.block_length first (map (moved first) ns)
      of_nodes [] = refl
      of_nodes (node ∷ ns) =
          let long : length (map (moved first) ns) ≡ length ns = length-map ns (moved first) in
          let at : 0 + place.block_length * length ns + first ≡ first + place.block_length * length (map (moved first) ns) = omega (arith, ap (λ (n : ℕ). place.block_length * n) long) in
          ap (λ (n : ℕ). Some n) at

  -- the pages are as many bytes in memory as in the file
  long_as : length tree.pages.items ≡ length (tree_pages place first pairs)
  unfolding nodes
  long_as =
      let zero_can : CanBeLaid place 0 pairs = record { placed = is.placed; at = omega arith; sized = is.sized; keys = is.keys; room = omega (arith, small) } in
      ap (λ (b : List ℕ). length b) is.laid.pages ∙ omega (arith, tree_long place 0 pairs zero_can, tree_long place first pairs can, ap (λ (n : ℕ). place.block_length * n) total)

  pub end_is : first + length tree.pages.items ≡ tree_end place first pairs
  end_is = omega (arith, long_as, tree_long place first pairs can)

-- the tree of the next key
module _ (d : Defs) (lists : List (List Pair)) (i end : ℕ) (ps : List Pair) (tree : Laid) (inside : i < length lists) (keys : length lists ≡ length d.keys) (is : ps ≡ get_or lists i ps) (of : IsTreeOf (place_of d (i + 1)) (sorted ps) tree) (j : ℕ) (one_more : j ≡ i + 1) where
  pub next_laid : (next : ℕ) (roots new : List (Option ℕ)) → next < 2 ^ 64 → new ≡ roots ++ root_of (block_of_key d (i + 1)) end (laid_at (place_of d (i + 1)) end (sorted ps)) ∷ [] → next ≡ tree_end (place_of d (i + 1)) end (sorted ps)
      → AreLaidTo d lists i end roots → AreLaidTo d lists j next new
  next_laid next roots new short rooted ended was =
      subst (λ n. AreLaidTo d lists n next new) (sym one_more) (subst (AreLaidTo d lists (i + 1) next) (sym rooted)
      (laid_next d lists i end ps inside keys is next (root_of (block_of_key d (i + 1)) end (laid_at (place_of d (i + 1)) end (sorted ps))) roots of.placed ended short refl was))

  pub next_held : (next : ℕ) (roots : List (Option ℕ)) (before after : List ℕ) → next < 2 ^ 64 → next ≡ tree_end (place_of d (i + 1)) end (sorted ps) → AreLaidTo d lists i end roots
      → after ≡ overwritten end (tree_pages (place_of d (i + 1)) end (sorted ps)) before → HoldsTo d lists i end before → HoldsTo d lists j next after
  next_held next roots before after short ended was wrote held =
      let can : CanBeLaid (place_of d (i + 1)) end (sorted ps) = record { placed = of.placed; at = was.whole; sized = of.sized; keys = of.keys; room = omega (arith, short, ended) } in
      subst (λ n. HoldsTo d lists n next after) (sym one_more) (subst (HoldsTo d lists (i + 1) next) (sym wrote) (holds_next d lists i end ps inside keys is next before can ended held))

-- no tree yet, in a file that was made anew
pub begin_laid : (d : Defs) (lists : List (List Pair)) (end : ℕ) (roots : List (Option ℕ)) → roots ≡ [] → end ≡ first_page_of d → first_page_of d % 1024 ≡ 0 → AreLaidTo d lists 0 end roots
begin_laid d lists end roots none at whole = subst (λ e. AreLaidTo d lists 0 e roots) (sym at) (subst (AreLaidTo d lists 0 (first_page_of d)) (sym none) (laid_none d lists whole))

pub begin_held : (d : Defs) (lists : List (List Pair)) (end : ℕ) (file : List ℕ) (m n : Holding) → end ≡ first_page_of d → Cuts file 0 m n → HoldsTo d lists 0 end (bytes_of file n)
begin_held d lists end file m n at cut =
    let empty : length (bytes_of file n) ≡ 0 = ap (λ o. length (unwrap_or o [])) cut.here ∙ ap (λ (b : List ℕ). length b) (resized_none (bytes_of file m)) in
    subst (λ e. HoldsTo d lists 0 e (bytes_of file n)) (sym at) (holds_none d lists (bytes_of file n) empty)
