-- A tree that was just built is clear in the cache, and trees before it stay so.
use Rattle.std.proofs.Common.{◌≡◌, ◌⊎◌, ℕ, suc, ◌+◌, ◌-◌, ◌*◌, ◌%◌, ◌^◌, ◌<◌, ◌≤◌, true, nat_le, Option, Some, None, List, [], ◌∷◌, length, refl, sym, ap, subst, ◌∙◌, arith, inl, inr}
use Rattle.std.specs.List.{AllByRecursion}
use Rattle.std.proofs.lemmas.Bool.{cases_lt, le-leb, or_left, or_right}
use Rattle.myi_base.specs.Ranges.{are_apart}
use Rattle.myi_base.specs.Holding.{Holding}
use Rattle.myi_keycache.specs.Kept.{is_kept, NoOtherMeets}
use Rattle.myi_keycache.specs.Caching.{pages_of, Caching, lends}
use Rattle.myi_keylist.specs.declared.pair.Pair.{Pair}
use Rattle.myi_btree.specs.declared.place.Place.{Place}
use Rattle.myi_btree.specs.Walk.{Node, Walked, Agree}
use Rattle.myi_btree.specs.LaidPages.{IsLaidAt, root_of}
use Rattle.myi_btree.specs.LaidOnce.{WalksOnce}
use Rattle.myi_btree.specs.Sizes.{IsPlaced, AreSized}
use Rattle.myi_btree.specs.Building.{laid_at, built_at, AreKeys, CanLay, Lays, LaysOnly, Spares}
use Rattle.myi_btree.specs.Visit.{page_range, HasWalk}
use Rattle.myi_btree.specs.CachedTrees.{node_lent, HasPages, IsClear, NoneMeets}
use Rattle.myi_btree.proofs.Among.{in_all}
use Rattle.myi_btree.proofs.Frames.{same_walk}
use Rattle.myi_btree.proofs.Once.{one_walk}
use Rattle.myi_btree.proofs.ServeLaws.{lent_bytes, same_bytes}
use Rattle.myi_btree.proofs.StartLaws.{HasNode, walk_nodes}
use Rattle.myi_btree.proofs.ClearLaws.{all_of}
use Rattle.myi_btree.proofs.LaidRead.{built_once}

-- ---- pages that are laid, and what lies before them

pub root_some : (block first before : ℕ) (nodes : List Node) → length nodes ≡ suc before → root_of block first nodes ≡ Some (first + block * before)
root_some block first before [] count = absurd (omega arith)
root_some block first before (node ∷ nodes) count = ap (λ n. Some (first + block * n)) (let e : length nodes ≡ before = omega arith in e)

step_below : (block first i j : ℕ) → i < j → first + block * i + block ≤ first + block * j
step_below block first i j lt =
    let d : ℕ = j - suc i in
    let is : j ≡ i + suc d = omega arith in
    omega (arith, ap (λ k. block * k) is)

laid_apart : (block first i j : ℕ) → (first + block * i ≡ first + block * j) ⊎ (are_apart (page_range block (first + block * i)) (page_range block (first + block * j)) ≡ true)
laid_apart block first i j = elim (cases_lt i j) [
  | inl below ↦ inr (or_left _ _ (le-leb _ _ (step_below block first i j below)))
  | inr not_below ↦ elim (cases_lt j i) [
    | inl over ↦ inr (or_right _ _ (le-leb _ _ (step_below block first j i over)))
    | inr not_over ↦ let same : i ≡ j = omega arith in inl (ap (λ k. first + block * k) same)
  ]
]

two_laid : (block first total p at : ℕ) → IsLaidAt block first total p → IsLaidAt block first total at → (p ≡ at) ⊎ (are_apart (page_range block p) (page_range block at) ≡ true)
two_laid block first total p at (i, below, e) (j, also, f) =
    subst (λ (q : ℕ). (q ≡ at) ⊎ (are_apart (page_range block q) (page_range block at) ≡ true)) (sym e)
    (subst (λ (q : ℕ). (first + block * i ≡ q) ⊎ (are_apart (page_range block (first + block * i)) (page_range block q) ≡ true)) (sym f) (laid_apart block first i j))

before_laid : (block first total p len at : ℕ) → p + len ≤ first → IsLaidAt block first total at → are_apart (p, p + len) (page_range block at) ≡ true
before_laid block first total p len at before (j, below, f) = let le : p + len ≤ at = omega (arith, before, f) in or_left (nat_le (p + len) at) (nat_le (at + block) p) (le-leb (p + len) at le)

laid_from : (block first total p : ℕ) → IsLaidAt block first total p → first ≤ p
laid_from block first total p (i, below, e) = omega (arith, e)

-- ---- the tree that was built

same_reading : (place : Place) (root : Option ℕ) (cache : Caching) (m : Holding) (at : ℕ) → node_lent place cache m at ≡ node_lent (record place { root = root }) cache m at
unfolding node_lent
same_reading place root cache m at = refl

agree_all : (place : Place) (root : Option ℕ) (cache : Caching) (m : Holding) (pages : List ℕ) → Agree (node_lent place cache m) (node_lent (record place { root = root }) cache m) pages
agree_all place root cache m [] = tt
agree_all place root cache m (p ∷ ps) = (same_reading place root cache m p, agree_all place root cache m ps)

walk_there : (place : Place) (root : Option ℕ) (cache : Caching) (m : Holding) (at : ℕ) (w : Walked) → HasWalk place.block_length (node_lent place cache m) at w → HasWalk place.block_length (node_lent (record place { root = root }) cache m) at w
walk_there place root cache m at w walk = record {
  height = walk.height;
  walk = same_walk (node_lent place cache m) (node_lent (record place { root = root }) cache m) walk.height at w walk.walk (agree_all place root cache m w.pages);
  disjoint = walk.disjoint;
}

pub built_clear : (place : Place) (first : ℕ) (pairs : List Pair) (old new : Caching) (m n : Holding) → IsPlaced place → first % 1024 ≡ 0 → AreSized place pairs → AreKeys pairs → first + place.block_length * length (laid_at place first pairs) < 2 ^ 64
    → CanLay old m first → Lays place first (laid_at place first pairs) old new m n → IsClear (built_at place first pairs) new n (built_at place first pairs).root
built_clear place first [] old new m n placed whole sized keys small can lays = tt
built_clear place first (p ∷ ps) old new m n placed whole sized keys small can lays =
    let block : ℕ = place.block_length in
    let nodes : List Node = laid_at place first (p ∷ ps) in
    let once : WalksOnce (node_lent place new n) block first (length nodes) (p ∷ ps) = built_once place first p ps old new m n placed whole sized keys small lays in
    let tree : Place = built_at place first (p ∷ ps) in
    let meets : NoneMeets tree new once.walked.pages = all_of (λ at. NoOtherMeets (is_kept (pages_of new)) at block) once.walked.pages (λ at among q len kept.
    let here : IsLaidAt block first (length nodes) at = in_all (IsLaidAt block first (length nodes)) once.walked.pages at once.pages among in
    elim (lays.kept q len kept) [
      | inl was ↦ inr (before_laid block first (length nodes) q len at (can.before q len was) here)
      | inr now ↦ elim (two_laid block first (length nodes) q at now.1 here) [
        | inl same ↦ inl (same, now.0)
        | inr apart ↦ inr (subst (λ (k : ℕ). are_apart (q, q + k) (page_range block at) ≡ true) (sym now.0) apart)
      ]
    ]) in
    subst (λ (r : Option ℕ). IsClear tree new n r) (sym (root_some block first once.before nodes once.last))
    (once.walked, walk_there place tree.root new n (first + block * once.before) once.walked once.walk, meets)

-- ---- the other trees

agree_before : (other : Place) (old new : Caching) (m n : Holding) (first : ℕ) (pages : List ℕ) → ((p len : ℕ) (x : List ℕ) → p + len ≤ first → lends old m p len ≡ Some x → lends new n p len ≡ Some x) → AllByRecursion (HasNode (node_lent other old m)) pages
    → AllByRecursion (λ p. p + other.block_length ≤ first) pages → Agree (node_lent other old m) (node_lent other new n) pages
agree_before other old new m n first [] same nodes before = tt
agree_before other old new m n first (p ∷ ps) same nodes before =
    let bytes = lent_bytes other old m p nodes.0.0 nodes.0.1 in
    (same_bytes other old new m n p (bytes.1 ∙ sym (same p other.block_length bytes.0 before.0 bytes.1)), agree_before other old new m n first ps same nodes.1 before.1)

behind : (block first p at len : ℕ) → at + len ≤ first → first ≤ p → are_apart (page_range block p) (page_range len at) ≡ true
behind block first p at len before from = let le : at + len ≤ p = omega (arith, before, from) in or_right (nat_le (p + block) at) (nat_le (at + len) p) (le-leb (at + len) p le)

spared : (len : ℕ) (other : Place) (first : ℕ) (old new : Caching) (m n : Holding) (others : List ℕ) → HasPages other old m other.root others → AllByRecursion (λ p. p + other.block_length ≤ first) others → IsClear other old m other.root → Spares first old new m n
    → ((p n : ℕ) → is_kept (pages_of new) p n ≡ true → (is_kept (pages_of old) p n ≡ true) ⊎ ((n ≡ len) × (first ≤ p))) → IsClear other new n other.root
spared len other first old new m n others theirs before clear spares kept = by other.root theirs clear
  where
    by : (r : Option ℕ) → HasPages other old m r others → IsClear other old m r → IsClear other new n r
    by None their clear = tt
    by (Some root) (v, found, are) (w, walk, meets) =
        let read = node_lent other old m in
        let same : w ≡ v = one_walk read walk.height found.height root w v walk.walk found.walk in
        let all : others ≡ w.pages = are ∙ ap (λ (w : Walked). w.pages) (sym same) in
        let ends : AllByRecursion (λ p. p + other.block_length ≤ first) w.pages = subst (AllByRecursion (λ p. p + other.block_length ≤ first)) all before in (
          w,
          record {
            height = walk.height;
            walk = same_walk read (node_lent other new n) walk.height root w walk.walk (agree_before other old new m n first w.pages spares.lent (walk_nodes read walk.height root w walk.walk) ends);
            disjoint = walk.disjoint;
          },
          all_of (λ at. NoOtherMeets (is_kept (pages_of new)) at other.block_length) w.pages (λ at among q long is. elim (kept q long is) [
            | inl was ↦ in_all (λ at. NoOtherMeets (is_kept (pages_of old)) at other.block_length) w.pages at meets among q long was
            | inr now ↦ inr (subst (λ (k : ℕ). are_apart (q, q + k) (page_range other.block_length at) ≡ true) (sym now.0)
                (behind len first q at other.block_length (in_all (λ p. p + other.block_length ≤ first) w.pages at ends among) now.1))
          ]),
        )

pub others_before : (place other : Place) (first : ℕ) (nodes : List Node) (old new : Caching) (m n : Holding) (others : List ℕ) → HasPages other old m other.root others → AllByRecursion (λ p. p + other.block_length ≤ first) others
    → IsClear other old m other.root → Lays place first nodes old new m n → IsClear other new n other.root
others_before place other first nodes old new m n others theirs before clear lays = spared place.block_length other first old new m n others theirs before clear lays.spares (λ q long is. elim (lays.kept q long is) [
  | inl was ↦ inl was
  | inr now ↦ inr (now.0, laid_from place.block_length first (length nodes) q now.1)
])

pub others_refused : (place other : Place) (first : ℕ) (before after : Option Holding) (old new : Caching) (m n : Holding) (others : List ℕ) → HasPages other old m other.root others → AllByRecursion (λ p. p + other.block_length ≤ first) others
    → IsClear other old m other.root → Spares first old new m n → LaysOnly before after place.block_length first old new → IsClear other new n other.root
others_refused place other first before after old new m n others theirs ends clear spares only = spared place.block_length other first old new m n others theirs ends clear spares only.kept
