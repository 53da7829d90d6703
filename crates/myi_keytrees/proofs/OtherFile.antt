-- Trees in a file of which other bytes were changed.
use Rattle.std.proofs.Common.{◌≡◌, ℕ, ◌+◌, ◌-◌, ◌%◌, ◌<◌, ◌≤◌, Bool, true, false, ◌||◌, cond, eqb, leb, Some, None, Option, List, [], ◌∷◌, ◌++◌, length, map, take, drop, replicate, length-append, refl, sym, ap, ◌∙◌, arith, inl, inr}
use Rattle.std.specs.Prelude.{nat_le}
use Rattle.std.specs.List.{AllByRecursion}
use Rattle.std.proofs.lemmas.Bool.{and_parts, cases_Bool, le-leb, leb-true, or_right}
use Rattle.std.proofs.lemmas.List.{length-drop, length-take, take-append-drop, take-append-le, drop-append-le}
use Rattle.myi_base.specs.Ranges.{Range, are_apart, is_apart}
use Rattle.myi_base.specs.Holding.{resized, overwritten}
use Rattle.myi_keycache.specs.Lent.{bytes_at}
use Rattle.myi_btree.specs.declared.place.Place.{Place}
use Rattle.myi_btree.specs.Walk.{◌>>=◌, Node, Walked}
use Rattle.myi_btree.specs.Nodes.{node_in, node_at}
use Rattle.myi_btree.specs.Visit.{page_range}
use Rattle.myi_btree.specs.Sizes.{IsPlaced}
use Rattle.myi_btree.proofs.CallerLemmas.{bind_some}
use Rattle.myi_insertion.specs.Covers.{StillStands}
use Rattle.myi_insertion.proofs.CallerLemmas.{same_walk}
use Rattle.myi_keytrees.specs.InFile.{pages_on, AreFree, HasWalkApart, HaveWalks, EndAt, KeepsBetween}

-- the first of the busy ranges is the front of the file
abbrev Begins : ℕ → List Range → Type 0
Begins first busy = (rest : List Range) × (busy ≡ (0, first) ∷ rest)

behind_front : (first p block : ℕ) (busy : List Range) → 0 < block → Begins first busy → is_apart (page_range block p) busy ≡ true → first ≤ p
behind_front first p block busy some (rest, is) e =
    let all : is_apart (page_range block p) ((0, first) ∷ rest) ≡ true = ap (λ (b : List Range). is_apart (page_range block p) b) (sym is) ∙ e in
    let k = and_parts (are_apart (page_range block p) (0, first)) (is_apart (page_range block p) rest) all in
    elim (cases_Bool (leb (p + block) 0)) [
      | inl low ↦ absurd (let z = leb-true (p + block) 0 low in omega arith)
      | inr high ↦ leb-true first p (ap (λ (b : Bool). b || leb first p) (sym high) ∙ k.0)
    ]

same_node : (rec_ref block first end : ℕ) (file other : List ℕ) (p : ℕ) → 0 < block → KeepsBetween first end file other → first ≤ p → p + block ≤ end → StillStands (node_at rec_ref block file) (node_at rec_ref block other) p
unfolding node_at
same_node rec_ref block first end file other p some keeps low high = λ node e. by (eqb (p % 1024) 0) node e
  where
    by : (b : Bool) (node : Node) → cond b (bytes_at file p block >>= node_in rec_ref) None ≡ Some node → cond b (bytes_at other p block >>= node_in rec_ref) None ≡ Some node
    by true node e =
        let a = bind_some (bytes_at file p block) (node_in rec_ref) node e in
        ap (λ (x : Option (List ℕ)). x >>= node_in rec_ref) (keeps p block a.0 some low high a.1) ∙ a.2
    by false node e = absurd cc

pages_same : (rec_ref block first end : ℕ) (file other : List ℕ) (busy : List Range) (pages : List ℕ) → 0 < block → Begins first busy → KeepsBetween first end file other → AreFree busy (map (page_range block) pages) → AllByRecursion (λ p. p + block ≤ end) pages
    → AllByRecursion (StillStands (node_at rec_ref block file) (node_at rec_ref block other)) pages
pages_same rec_ref block first end file other busy [] some front keeps free ends = tt
pages_same rec_ref block first end file other busy (p ∷ pages) some front keeps free ends =
    (same_node rec_ref block first end file other p some keeps (behind_front first p block busy some front free.0) ends.0, pages_same rec_ref block first end file other busy pages some front keeps free.1 ends.1)

tree_same : (place : Place) (first end : ℕ) (file other : List ℕ) (root : Option ℕ) (busy : List Range) (w : Walked) → 0 < place.block_length → Begins first busy → KeepsBetween first end file other → HasWalkApart place file root busy w → AllByRecursion (λ p. p + place.block_length ≤ end) w.pages → HasWalkApart place other root busy w
tree_same place first end file other None busy w some front keeps is ends = is
tree_same place first end file other (Some root) busy w some front keeps has ends = (
  record {
    height = has.0.height;
    walk = same_walk (node_at place.rec_ref place.block_length file) (node_at place.rec_ref place.block_length other) has.0.height root w has.0.walk (pages_same place.rec_ref place.block_length first end file other busy w.pages some front keeps has.1 ends);
    disjoint = has.0.disjoint;
  },
  has.1,
)

trees_same : (first end : ℕ) (file other : List ℕ) (busy : List Range) (ps : List Place) (ws : List Walked) → AllByRecursion IsPlaced ps → Begins first busy → KeepsBetween first end file other → HaveWalks file busy ps ws → EndAt end ps ws → HaveWalks other busy ps ws
trees_same first end file other busy [] ws placed front keeps have ends = have
trees_same first end file other busy (p ∷ ps) [] placed front keeps have ends = absurd have
trees_same first end file other busy (p ∷ ps) (w ∷ ws) placed front keeps have ends = (
  tree_same p first end file other p.root busy w (let l = placed.0.least in omega arith) front keeps have.0 ends.0,
  trees_same first end file other (busy ++ pages_on p w) ps ws placed.1 (front.0 ++ pages_on p w, ap (λ (b : List Range). b ++ pages_on p w) front.1) keeps have.1 ends.1,
)

pub walks_stay : (first end : ℕ) (file other : List ℕ) (ps : List Place) (ws : List Walked) → AllByRecursion IsPlaced ps → KeepsBetween first end file other → HaveWalks file ((0, first) ∷ []) ps ws → EndAt end ps ws → HaveWalks other ((0, first) ∷ []) ps ws
walks_stay first end file other ps ws placed keeps have ends = trees_same first end file other ((0, first) ∷ []) ps ws placed ([], refl) keeps have ends

-- ---- files that keep their pages

-- bytes that lie in a front of a file
front_read : (front back : List ℕ) (at len : ℕ) → at + len ≤ length front → bytes_at (front ++ back) at len ≡ Some (take len (drop at front))
unfolding bytes_at
front_read front back at len le =
    let long : len ≤ length (drop at front ++ back) = omega (arith, length-append (drop at front) back, length-drop at front) in
    rw (drop-append-le at front back (omega arith), le-leb len (length (drop at front ++ back)) long, take-append-le len (drop at front) back (omega (arith, length-drop at front))) refl

read_inside : (file : List ℕ) (at len : ℕ) (bytes : List ℕ) → 0 < len → bytes_at file at len ≡ Some bytes → at + len ≤ length file
unfolding bytes_at
read_inside file at len bytes some e = by (nat_le len (length (drop at file))) refl e
  where
    by : (b : Bool) → nat_le len (length (drop at file)) ≡ b → cond b (Some (take len (drop at file))) None ≡ Some bytes → at + len ≤ length file
    by true is e = omega (arith, leb-true _ _ is, length-drop at file, some)
    by false is e = absurd cc

pub cut_keeps : (first end : ℕ) (file : List ℕ) → KeepsBetween first end file (resized end file)
cut_keeps first end file = λ at len bytes some low high e.
    let inside = read_inside file at len bytes some e in
    let front : at + len ≤ length (take end file) = omega (arith, length-take end file, inside, high) in
    front_read (take end file) (replicate (end - length file) 0) at len front ∙ sym (front_read (take end file) (drop end file) at len front) ∙ ap (λ (x : List ℕ). bytes_at x at len) (take-append-drop end file) ∙ e

abbrev pub ReadsApart : Type 0
ReadsApart = (file : List ℕ) (at : ℕ) (x : List ℕ) (p len : ℕ) (y : List ℕ) → are_apart (p, p + len) (at, at + length x) ≡ true → bytes_at file p len ≡ Some y → bytes_at (overwritten at x file) p len ≡ Some y

pub front_keeps : ReadsApart → (first end : ℕ) (file bytes : List ℕ) → length bytes ≤ first → KeepsBetween first end file (overwritten 0 bytes file)
front_keeps apart first end file bytes short = λ at len x some low high e.
    apart file 0 bytes at len x (or_right (leb (at + len) 0) (leb (0 + length bytes) at) (le-leb (0 + length bytes) at (omega arith))) e
