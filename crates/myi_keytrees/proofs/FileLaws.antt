-- Trees that stand, in the bytes of the file.
use Rattle.std.proofs.Common.{◌≡◌, ◌⊎◌, ℕ, zero, suc, ◌+◌, ◌%◌, ◌<◌, ◌≤◌, Bool, true, false, ◌&&◌, cond, eqb, leb, ltb, Some, None, Option, List, [], ◌∷◌, ◌++◌, length, map, drop, take, refl, sym, ap, subst, ◌∙◌, arith, inl, inr}
use Rattle.std.specs.Prelude.{nat_le}
use Rattle.std.specs.List.{AllByRecursion, flat_map}
use Rattle.std.proofs.lemmas.Bool.{and_from, and_parts, cases_Bool, cases_lt, or_left, or_right, le-leb, lt-ltb, leb-true, ltb-true}
use Rattle.std.proofs.lemmas.List.{length-drop}
use Rattle.std.proofs.lemmas.Option.{same_Some, cond_some}
use Rattle.myi_base.specs.Ranges.{Range, are_apart, is_apart}
use Rattle.myi_base.specs.Holding.{Holding, bytes_of}
use Rattle.myi_keycache.specs.Kept.{AllWritten}
use Rattle.myi_keycache.specs.Lent.{bytes_at}
use Rattle.myi_keycache.specs.Caching.{Caching, pages_of, IsCurrent}
use Rattle.myi_keycache.proofs.CallerLemmas.{lends_file}
use Rattle.myi_keylist.specs.declared.pair.Pair.{Pair}
use Rattle.myi_btree.specs.declared.place.Place.{Place}
use Rattle.myi_btree.specs.declared.place.Room.{Room}
use Rattle.myi_btree.specs.Walk.{◌>>=◌, each, Places, Node, Walked, as_leaf, at_node, walk_of, content}
use Rattle.myi_btree.specs.Nodes.{node_in, node_at}
use Rattle.myi_btree.specs.Visit.{page_range}
use Rattle.myi_btree.specs.Sizes.{IsPlaced}
use Rattle.myi_btree.specs.CachedTrees.{node_lent}
use Rattle.myi_btree.proofs.CallerLemmas.{bind_some}
use Rattle.myi_insertion.specs.Covers.{within, cover, from_end, stock, StillStands}
use Rattle.myi_insertion.specs.CachedTree.{IsTree}
use Rattle.myi_insertion.proofs.CallerLemmas.{same_walk, within_one, before_end}
use Rattle.myi_keytrees.specs.Trees.{Trees}
use Rattle.myi_keytrees.specs.Standing.{cover_each, HoldLists, Stand}
use Rattle.myi_keytrees.specs.InFile.{no_walk, pages_on, AreFree, HasWalkApart, HaveWalks, EndAt, contents_of, pages_of_walks, StandIn}
use Rattle.myi_keytrees.proofs.SearchLaws.{disjoint_pages}

-- ---- ranges by the bytes that they have

-- 1 for a byte of the range, else 0
abbrev pub in_range : Range → ℕ → ℕ
in_range r x = cond (leb r.0 x && ltb x r.1) 1 0

abbrev pub in_ranges : List Range → ℕ → ℕ
in_ranges [] x = 0
in_ranges (r ∷ rs) x = in_range r x + in_ranges rs x

pub range_one : (r : Range) (x : ℕ) → r.0 ≤ x → x < r.1 → in_range r x ≡ 1
range_one r x low high = rw (le-leb r.0 x low, lt-ltb x r.1 high) refl

neither : (x low high : ℕ) → (x < low) ⊎ (high ≤ x) → low ≤ x → x < high → ⊥
neither x low high (inl before) a b = omega arith
neither x low high (inr behind) a b = omega arith

pub range_zero : (r : Range) (x : ℕ) → (x < r.0) ⊎ (r.1 ≤ x) → in_range r x ≡ 0
range_zero r x out = elim (cases_Bool (leb r.0 x && ltb x r.1)) [
  | inl is ↦ absurd (let k = and_parts (leb r.0 x) (ltb x r.1) is in neither x r.0 r.1 out (leb-true r.0 x k.0) (ltb-true x r.1 k.1))
  | inr other ↦ ap (λ (b : Bool). cond b 1 0) other
]

pub range_most : (r : Range) (x : ℕ) → in_range r x ≤ 1
range_most r x = elim (cases_Bool (leb r.0 x && ltb x r.1)) [
  | inl is ↦ let k : in_range r x ≡ 1 = ap (λ (b : Bool). cond b 1 0) is in omega arith
  | inr other ↦ let k : in_range r x ≡ 0 = ap (λ (b : Bool). cond b 1 0) other in omega arith
]

pub page_one : (block p x : ℕ) → in_range (page_range block p) x ≡ within p block x
page_one block p x = refl

pub in_pages : (block : ℕ) (pages : List ℕ) (x : ℕ) → in_ranges (map (page_range block) pages) x ≡ cover block pages x
in_pages block [] x = refl
in_pages block (p ∷ pages) x = ap (λ (n : ℕ). within p block x + n) (in_pages block pages x)

pub in_both : (rs ss : List Range) (x : ℕ) → in_ranges (rs ++ ss) x ≡ in_ranges rs x + in_ranges ss x
in_both [] ss x = omega arith
in_both (r ∷ rs) ss x = let i = in_both rs ss x in omega (arith, i)

range_apart : (p n : ℕ) (r : Range) → 0 < n → r.0 < r.1 → ((x : ℕ) → within p n x + in_range r x ≤ 1) → are_apart (p, p + n) r ≡ true
range_apart p n r some_n some_r off =
    elim (cases_lt r.0 (p + n)) [
      | inr before ↦ or_left (leb (p + n) r.0) (leb r.1 p) (le-leb (p + n) r.0 before)
      | inl here ↦ elim (cases_lt p r.1) [
        | inr behind ↦ or_right (leb (p + n) r.0) (leb r.1 p) (le-leb r.1 p behind)
        | inl there ↦ elim (cases_lt p r.0) [
          | inl low ↦ absurd (let a = within_one p n r.0 (omega arith) here in let b = range_one r r.0 (omega arith) some_r in let k = off r.0 in omega arith)
          | inr high ↦ absurd (let a = within_one p n p (omega arith) (omega arith) in let b = range_one r p high there in let k = off p in omega arith)
        ]
      ]
    ]

abbrev HasByte : Range → Type 0
HasByte r = r.0 < r.1

apart_from_all : (p n : ℕ) (rs : List Range) → 0 < n → AllByRecursion HasByte rs → ((x : ℕ) → within p n x + in_ranges rs x ≤ 1) → is_apart (p, p + n) rs ≡ true
apart_from_all p n [] some all off = refl
apart_from_all p n (r ∷ rs) some all off =
    and_from (are_apart (p, p + n) r) (is_apart (p, p + n) rs) (range_apart p n r some all.0 (λ x. let o = off x in omega arith)) (apart_from_all p n rs some all.1 (λ x. let o = off x in omega arith))

free_pages : (block : ℕ) (pages : List ℕ) (busy : List Range) → 0 < block → AllByRecursion HasByte busy → ((x : ℕ) → in_ranges busy x + cover block pages x ≤ 1) → AreFree busy (map (page_range block) pages)
free_pages block [] busy some all off = tt
free_pages block (p ∷ pages) busy some all off =
    (apart_from_all p block busy some all (λ x. let o = off x in omega arith), free_pages block pages busy some all (λ x. let o = off x in omega arith))

have_bytes : (block : ℕ) (pages : List ℕ) (busy : List Range) → 0 < block → AllByRecursion HasByte busy → AllByRecursion HasByte (busy ++ map (page_range block) pages)
have_bytes block [] [] some all = tt
have_bytes block (p ∷ pages) [] some all = (omega arith, have_bytes block pages [] some tt)
have_bytes block pages (r ∷ busy) some all = (all.0, have_bytes block pages busy some all.1)

-- ---- the nodes of a file of which all pages are written

pub nodes_same : (place : Place) (cache : Caching) (m : Holding) (at : ℕ) → AllWritten (pages_of cache) → IsCurrent cache m → node_lent place cache m at ≡ node_at place.rec_ref place.block_length (bytes_of cache.name m) at
unfolding node_lent node_at
nodes_same place cache m at written current = ap (λ (x : Option (List ℕ)). cond (eqb (at % 1024) 0) (x >>= node_in place.rec_ref) None) (lends_file cache m at place.block_length written current)

all_still : (place : Place) (cache : Caching) (m : Holding) (pages : List ℕ) → AllWritten (pages_of cache) → IsCurrent cache m → AllByRecursion (StillStands (node_lent place cache m) (node_at place.rec_ref place.block_length (bytes_of cache.name m))) pages
all_still place cache m [] written current = tt
all_still place cache m (p ∷ pages) written current = ((λ node e. sym (nodes_same place cache m p written current) ∙ e), all_still place cache m pages written current)

-- a tree of a file whose pages are all written, beside what is busy
tree_apart : (place : Place) (cache : Caching) (m : Holding) (root : Option ℕ) (xs : List Pair) (pages : List ℕ) (busy : List Range) → AllWritten (pages_of cache) → IsCurrent cache m → 0 < place.block_length → AllByRecursion HasByte busy
    → IsTree place cache m root xs pages → ((x : ℕ) → in_ranges busy x + cover place.block_length pages x ≤ 1)
    → (w : Walked) × HasWalkApart place (bytes_of cache.name m) root busy w × (content w ≡ xs) × (w.pages ≡ pages)
tree_apart place cache m None xs pages busy written current some all tree off = (no_walk, refl, sym tree.0, sym tree.1)
tree_apart place cache m (Some root) xs pages busy written current some all (h, w, e, is, on) off =
    let once : (x : ℕ) → in_ranges busy x + cover place.block_length w.pages x ≤ 1 = λ x. omega (arith, off x, ap (λ (g : List ℕ). cover place.block_length g x) on) in
    let walk = same_walk (node_lent place cache m) (node_at place.rec_ref place.block_length (bytes_of cache.name m)) h root w e (all_still place cache m w.pages written current) in (
      w,
      (record { height = h; walk = walk; disjoint = disjoint_pages place.block_length w.pages some (λ x. let o = once x in omega arith) }, free_pages place.block_length w.pages busy some all once),
      sym is,
      sym on,
    )

-- the trees at these places, beside what is busy
record Apart (file : List ℕ) (busy : List Range) (places : List Place) (lists : List (List Pair)) (pages : List (List ℕ)) : Type 0 where
  pub walks : List Walked
  pub have : HaveWalks file busy places walks
  pub contents : contents_of walks ≡ lists
  pub pages_are : pages_of_walks walks ≡ pages

trees_apart : (cache : Caching) (m : Holding) (ps : List Place) (lists : List (List Pair)) (pages : List (List ℕ)) (busy : List Range) → AllWritten (pages_of cache) → IsCurrent cache m → AllByRecursion IsPlaced ps → AllByRecursion HasByte busy
    → HoldLists cache m ps lists pages → ((x : ℕ) → in_ranges busy x + cover_each ps pages x ≤ 1) → Apart (bytes_of cache.name m) busy ps lists pages
trees_apart cache m [] lists pages busy written current placed all hold off = record { walks = []; have = refl; contents = sym hold.0; pages_are = sym hold.1 }
trees_apart cache m (p ∷ ps) [] pages busy written current placed all hold off = absurd hold
trees_apart cache m (p ∷ ps) (xs ∷ lists) [] busy written current placed all hold off = absurd hold
trees_apart cache m (p ∷ ps) (xs ∷ lists) (g ∷ pages) busy written current placed all hold off =
    let some : 0 < p.block_length = let l = placed.0.least in omega arith in
    let one = tree_apart p cache m p.root xs g busy written current some all hold.0.tree (λ x. let o = off x in omega arith) in
    let w : Walked = one.0 in
    let rest = trees_apart cache m ps lists pages (busy ++ pages_on p w) written current placed.1 (have_bytes p.block_length w.pages busy some all) hold.1
    (λ x. omega (arith, off x, in_both busy (pages_on p w) x, in_pages p.block_length w.pages x, ap (λ (t : List ℕ). cover p.block_length t x) one.3)) in
    record {
      walks = w ∷ rest.walks;
      have = (one.1, rest.have);
      contents = ap (λ (t : List Pair). t ∷ contents_of rest.walks) one.2 ∙ ap (λ (t : List (List Pair)). xs ∷ t) rest.contents;
      pages_are = ap (λ (t : List ℕ). t ∷ pages_of_walks rest.walks) one.3 ∙ ap (λ (t : List (List ℕ)). g ∷ t) rest.pages_are;
    }

-- ---- where the pages of a walk end

leaf_pages : (place : ℕ) (node : Node) (cs : List ℕ) (w : Walked) → as_leaf place node cs ≡ Some w → w.pages ≡ place ∷ []
leaf_pages place node [] w e = ap (λ (v : Walked). v.pages) (sym (same_Some _ w e))
leaf_pages place node (c ∷ cs) w e = absurd cc

all_both : (P : ℕ → Type 0) (xs ys : List ℕ) → AllByRecursion P xs → AllByRecursion P ys → AllByRecursion P (xs ++ ys)
all_both P [] ys a b = b
all_both P (x ∷ xs) ys a b = (a.0, all_both P xs ys a.1 b)

each_all : (P : ℕ → Type 0) (read : Places) (h : ℕ) → ((place : ℕ) (w : Walked) → walk_of read h place ≡ Some w → AllByRecursion P w.pages) → (places : List ℕ) (ws : List Walked) → each (walk_of read h) places ≡ Some ws → AllByRecursion P (flat_map (λ (w : Walked). w.pages) ws)
each_all P read h ih [] ws e = subst (λ (t : List Walked). AllByRecursion P (flat_map (λ (w : Walked). w.pages) t)) (same_Some [] ws e) tt
each_all P read h ih (p ∷ ps) ws e =
    let a = bind_some (walk_of read h p) (λ y. each (walk_of read h) ps >>= λ ys. Some (y ∷ ys)) ws e in
    let b = bind_some (each (walk_of read h) ps) (λ ys. Some (a.0 ∷ ys)) ws a.2 in
    subst (λ (t : List Walked). AllByRecursion P (flat_map (λ (w : Walked). w.pages) t)) (same_Some _ _ b.2)
    (all_both P a.0.pages (flat_map (λ (w : Walked). w.pages) b.0) (ih p a.0 a.1) (each_all P read h ih ps b.0 b.1))

-- what holds of each place where a page stands holds of the pages of a walk
walk_all : (P : ℕ → Type 0) (read : Places) → ((p : ℕ) (node : Node) → read p ≡ Some node → P p) → (h place : ℕ) (w : Walked) → walk_of read h place ≡ Some w → AllByRecursion P w.pages
walk_all P read f zero place w e =
    let a = bind_some (read place) (λ node. as_leaf place node node.children) w e in
    subst (λ (t : List ℕ). AllByRecursion P t) (sym (leaf_pages place a.0 a.0.children w a.2)) (f place a.0 a.1, tt)
walk_all P read f (suc h) place w e =
    let a = bind_some (read place) (λ node. each (walk_of read h) node.children >>= λ ws. cond (ltb 0 (length node.children)) (Some (at_node place node ws)) None) w e in
    let b = bind_some (each (walk_of read h) a.0.children) (λ ws. cond (ltb 0 (length a.0.children)) (Some (at_node place a.0 ws)) None) w a.2 in
    let g = cond_some _ _ _ b.2 in
    subst (λ (t : Walked). AllByRecursion P t.pages) g.1 (f place a.0 a.1, each_all P read h (walk_all P read f h) a.0.children b.0 b.1)

node_inside : (rec_ref block : ℕ) (file : List ℕ) → 0 < block → (p : ℕ) (node : Node) → node_at rec_ref block file p ≡ Some node → p + block ≤ length file
unfolding node_at bytes_at
node_inside rec_ref block file some = λ p node e. by (eqb (p % 1024) 0) p node e
  where
    here : (p : ℕ) (b : Bool) → nat_le block (length (drop p file)) ≡ b → (node : Node) → (cond b (Some (take block (drop p file))) None >>= node_in rec_ref) ≡ Some node → p + block ≤ length file
    here p true e node is = omega (arith, leb-true _ _ e, length-drop p file, some)
    here p false e node is = absurd cc

    by : (b : Bool) (p : ℕ) (node : Node) → cond b (bytes_at file p block >>= node_in rec_ref) None ≡ Some node → p + block ≤ length file
    by true p node e = here p (nat_le block (length (drop p file))) refl node e
    by false p node e = absurd cc

one_inside : (place : Place) (file : List ℕ) (root : Option ℕ) (busy : List Range) (w : Walked) → 0 < place.block_length → HasWalkApart place file root busy w → AllByRecursion (λ p. p + place.block_length ≤ length file) w.pages
one_inside place file None busy w some is = subst (λ (v : Walked). AllByRecursion (λ p. p + place.block_length ≤ length file) v.pages) (sym is) tt
one_inside place file (Some root) busy w some has = walk_all (λ p. p + place.block_length ≤ length file) (node_at place.rec_ref place.block_length file) (node_inside place.rec_ref place.block_length file some) has.0.height root w has.0.walk

all_inside : (file : List ℕ) (busy : List Range) (ps : List Place) (ws : List Walked) → AllByRecursion IsPlaced ps → HaveWalks file busy ps ws → EndAt (length file) ps ws
all_inside file busy [] ws placed have = tt
all_inside file busy (p ∷ ps) [] placed have = tt
all_inside file busy (p ∷ ps) (w ∷ ws) placed have = (one_inside p file p.root busy w (let l = placed.0.least in omega arith) have.0, all_inside file (busy ++ pages_on p w) ps ws placed.1 have.1)

pub one_before : (block end : ℕ) (pages : List ℕ) → 0 < block → ((x : ℕ) → cover block pages x + from_end end x ≤ 1) → AllByRecursion (λ p. p + block ≤ end) pages
one_before block end [] some off = tt
one_before block end (p ∷ pages) some off = (before_end p block end some (λ x. let o = off x in omega arith), one_before block end pages some (λ x. let o = off x in omega arith))

all_before : (end : ℕ) (ps : List Place) (ws : List Walked) → AllByRecursion IsPlaced ps → ((x : ℕ) → cover_each ps (pages_of_walks ws) x + from_end end x ≤ 1) → EndAt end ps ws
all_before end [] ws placed off = tt
all_before end (p ∷ ps) [] placed off = tt
all_before end (p ∷ ps) (w ∷ ws) placed off =
    (one_before p.block_length end w.pages (let l = placed.0.least in omega arith) (λ x. let o = off x in omega arith), all_before end ps ws placed.1 (λ x. let o = off x in omega arith))

pub end_in_stock : (room : Room) (x : ℕ) → from_end room.end x ≤ stock room x
unfolding stock
end_in_stock room x = omega arith

-- ---- trees that stand are in the file, once all pages are written

pub stand_in : (t : Trees) (m : Holding) (own : ℕ → ℕ) (lists : List (List Pair)) (first : ℕ) → 0 < first → AllWritten (pages_of t.cache) → ((x : ℕ) → x < first → own x ≡ 0) → (s : Stand t m own lists)
    → StandIn (bytes_of t.cache.name m) first t.room.end t.places lists s.pages
stand_in t m own lists first some written none s =
    let header : (x : ℕ) → in_ranges ((0, first) ∷ []) x + cover_each t.places s.pages x ≤ 1 = λ x. elim (cases_lt x first) [
      | inl low ↦ let one = range_most (0, first) x in omega (arith, s.owned x, none x low)
      | inr high ↦ let zero = range_zero (0, first) x (inr high) in omega (arith, s.owned x, s.once x)
    ] in
    let a = trees_apart t.cache m t.places lists s.pages ((0, first) ∷ []) written s.current s.placed (some, tt) s.hold header in
    record {
      walks = a.walks;
      have = a.have;
      contents = a.contents;
      pages_are = a.pages_are;
      inside = all_inside (bytes_of t.cache.name m) ((0, first) ∷ []) t.places a.walks s.placed a.have;
      before = all_before t.room.end t.places a.walks s.placed (λ x. omega (arith, s.owned x, s.once x, end_in_stock t.room x, ap (λ (g : List (List ℕ)). cover_each t.places g x) a.pages_are));
    }
