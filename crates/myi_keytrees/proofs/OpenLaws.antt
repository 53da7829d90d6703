-- Trees of a file that are opened stand for the pairs of their walks.
use Rattle.std.proofs.Common.{◌≡◌, ◌⊎◌, ℕ, ◌+◌, ◌<◌, ◌≤◌, Bool, true, false, ◌&&◌, ◌||◌, cond, leb, ltb, Some, None, Option, List, [], ◌∷◌, ◌++◌, refl, sym, ap, subst, ◌∙◌, arith, inl, inr}
use Rattle.std.specs.List.{AllByRecursion}
use Rattle.std.proofs.lemmas.Bool.{and_parts, cases_Bool, cases_lt, le-leb, leb-true, ltb-true}
use Rattle.myi_base.specs.Ranges.{Range, are_apart, is_apart, AreDisjoint}
use Rattle.myi_base.specs.Holding.{Holding, bytes_of}
use Rattle.myi_keycache.specs.Kept.{Page, is_kept, is_unwritten, kept, NoOtherMeets, AllWritten}
use Rattle.myi_keycache.specs.Caching.{Caching, pages_of, IsCurrent}
use Rattle.myi_btree.specs.declared.place.Place.{Place}
use Rattle.myi_btree.specs.declared.place.Room.{Room}
use Rattle.myi_btree.specs.Walk.{Walked, content}
use Rattle.myi_btree.specs.Nodes.{node_at}
use Rattle.myi_btree.specs.Visit.{page_range}
use Rattle.myi_btree.specs.CachedTrees.{node_lent, NoneMeets}
use Rattle.myi_btree.specs.Sizes.{IsPlaced}
use Rattle.myi_insertion.specs.Covers.{within, cover, from_end, stock, StillStands}
use Rattle.myi_insertion.specs.CachedChanges.{NoneInRoom}
use Rattle.myi_insertion.specs.CachedTree.{IsTree}
use Rattle.myi_insertion.proofs.CallerLemmas.{same_walk}
use Rattle.myi_keytrees.specs.Trees.{Trees}
use Rattle.myi_keytrees.specs.Standing.{cover_each, HoldLists, Stand}
use Rattle.myi_keytrees.specs.InFile.{pages_on, AreFree, HasWalkApart, HaveWalks, EndAt, AreAscending, contents_of, pages_of_walks, bytes_owned}
use Rattle.myi_keytrees.proofs.FileLaws.{in_range, in_ranges, range_one, range_zero, range_most, in_pages, in_both, nodes_same}

-- ---- ranges that are apart have no byte in common

in_or_out : (r : Range) (x : ℕ) → (in_range r x ≡ 0) ⊎ ((r.0 ≤ x) × (x < r.1))
in_or_out r x = elim (cases_Bool (leb r.0 x && ltb x r.1)) [
  | inl is ↦ inr (let k = and_parts (leb r.0 x) (ltb x r.1) is in (leb-true r.0 x k.0, ltb-true x r.1 k.1))
  | inr other ↦ inl (ap (λ (b : Bool). cond b 1 0) other)
]

either_way : (a b : Bool) → (a || b) ≡ true → (a ≡ true) ⊎ (b ≡ true)
either_way true b e = inl refl
either_way false b e = inr e

not_both : (r s : Range) (x : ℕ) → (r.0 ≤ x) × (x < r.1) → (s.0 ≤ x) × (x < s.1) → (leb r.1 s.0 ≡ true) ⊎ (leb s.1 r.0 ≡ true) → ⊥
not_both r s x a b (inl before) = let k = leb-true r.1 s.0 before in let low = a.1 in let high = b.0 in omega arith
not_both r s x a b (inr behind) = let k = leb-true s.1 r.0 behind in let low = a.0 in let high = b.1 in omega arith

two_apart : (r s : Range) (x : ℕ) → are_apart r s ≡ true → (in_range r x ≡ 0) ⊎ (in_range s x ≡ 0)
two_apart r s x e = elim (in_or_out r x) [
  | inl out ↦ inl out
  | inr a ↦ elim (in_or_out s x) [ inl out ↦ inr out | inr b ↦ absurd (not_both r s x a b (either_way (leb r.1 s.0) (leb s.1 r.0) e)) ]
]

one_apart : (r : Range) (ss : List Range) (x : ℕ) → is_apart r ss ≡ true → (in_range r x ≡ 0) ⊎ (in_ranges ss x ≡ 0)
one_apart r [] x e = inr refl
one_apart r (s ∷ ss) x e =
    let k = and_parts (are_apart r s) (is_apart r ss) e in
    elim (two_apart r s x k.0) [
      | inl out ↦ inl out
      | inr first ↦ elim (one_apart r ss x k.1) [ inl out ↦ inl out | inr rest ↦ inr (omega (arith, first, rest)) ]
    ]

all_apart : (busy rs : List Range) (x : ℕ) → in_ranges busy x ≤ 1 → AreFree busy rs → AreDisjoint rs → in_ranges busy x + in_ranges rs x ≤ 1
all_apart busy [] x once free apart = omega arith
all_apart busy (r ∷ rs) x once free apart =
    let rest = all_apart busy rs x once free.1 apart.1 in
    let most = range_most r x in
    elim (one_apart r busy x free.0) [
      | inl out ↦ omega (arith, rest, out)
      | inr none ↦ elim (one_apart r rs x apart.0) [ inl out ↦ omega (arith, rest, out) | inr behind ↦ omega (arith, most, none, behind) ]
    ]

tree_once : (place : Place) (file : List ℕ) (root : Option ℕ) (busy : List Range) (w : Walked) (x : ℕ) → in_ranges busy x ≤ 1 → HasWalkApart place file root busy w → in_ranges busy x + cover place.block_length w.pages x ≤ 1
tree_once place file None busy w x once is = omega (arith, once, ap (λ (v : Walked). cover place.block_length v.pages x) is)
tree_once place file (Some root) busy w x once has = omega (arith, all_apart busy (pages_on place w) x once has.1 has.0.disjoint, in_pages place.block_length w.pages x)

trees_once : (file : List ℕ) (busy : List Range) (ps : List Place) (ws : List Walked) (x : ℕ) → in_ranges busy x ≤ 1 → HaveWalks file busy ps ws → in_ranges busy x + cover_each ps (pages_of_walks ws) x ≤ 1
trees_once file busy [] ws x once have = omega arith
trees_once file busy (p ∷ ps) [] x once have = absurd have
trees_once file busy (p ∷ ps) (w ∷ ws) x once have =
    let one = tree_once p file p.root busy w x once have.0 in
    let more : in_ranges (busy ++ pages_on p w) x ≡ in_ranges busy x + cover p.block_length w.pages x = in_both busy (pages_on p w) x ∙ ap (λ (n : ℕ). in_ranges busy x + n) (in_pages p.block_length w.pages x) in
    let rest = trees_once file (busy ++ pages_on p w) ps ws x (omega (arith, one, more)) have.1 in
    omega (arith, rest, more)

-- ---- no page has a byte behind the end

no_byte : (block end x : ℕ) (pages : List ℕ) → end ≤ x → AllByRecursion (λ p. p + block ≤ end) pages → cover block pages x ≡ 0
no_byte block end x [] past all = refl
no_byte block end x (p ∷ pages) past all =
    let here : within p block x ≡ 0 = range_zero (page_range block p) x (inr (let le = all.0 in omega arith)) in
    let rest = no_byte block end x pages past all.1 in
    omega (arith, here, rest)

none_behind : (end x : ℕ) (ps : List Place) (ws : List Walked) → end ≤ x → EndAt end ps ws → cover_each ps (pages_of_walks ws) x ≡ 0
none_behind end x [] ws past all = refl
none_behind end x (p ∷ ps) [] past all = refl
none_behind end x (p ∷ ps) (w ∷ ws) past all =
    let one = no_byte p.block_length end x w.pages past all.0 in
    let rest = none_behind end x ps ws past all.1 in
    omega (arith, one, rest)

end_only : (end x : ℕ) → stock (record { end = end; free = [] }) x ≡ from_end end x
unfolding stock
end_only end x = omega arith

pub end_before : (end x : ℕ) → x < end → from_end end x ≡ 0
end_before end x low = elim (cases_Bool (leb end x)) [
  | inl is ↦ absurd (let k = leb-true end x is in omega arith)
  | inr other ↦ ap (λ (b : Bool). cond b 1 0) other
]

pub end_one : (end x : ℕ) → end ≤ x → from_end end x ≡ 1
end_one end x past = elim (cases_Bool (leb end x)) [
  | inl is ↦ ap (λ (b : Bool). cond b 1 0) is
  | inr other ↦ absurd (let k : true ≡ false = sym (le-leb end x past) ∙ other in cc)
]

end_most : (end x : ℕ) → from_end end x ≤ 1
end_most end x = elim (cases_Bool (leb end x)) [
  | inl is ↦ let k : from_end end x ≡ 1 = ap (λ (b : Bool). cond b 1 0) is in omega arith
  | inr other ↦ let k : from_end end x ≡ 0 = ap (λ (b : Bool). cond b 1 0) other in omega arith
]

-- ---- a cache that keeps no page

no_kept : (at len : ℕ) → is_kept [] at len ≡ true → ⊥
unfolding kept
no_kept at len e = cc

none_written : AllWritten []
unfolding is_unwritten
none_written p n e = cc

empty_written : (cache : Caching) → pages_of cache ≡ [] → AllWritten (pages_of cache)
empty_written cache none = subst AllWritten (sym none) none_written

empty_meets : (cache : Caching) (at len : ℕ) → pages_of cache ≡ [] → NoOtherMeets (is_kept (pages_of cache)) at len
empty_meets cache at len none = λ p n e. absurd (no_kept p n (ap (λ (ps : List Page). is_kept ps p n) (sym none) ∙ e))

none_meets : (place : Place) (cache : Caching) (pages : List ℕ) → pages_of cache ≡ [] → NoneMeets place cache pages
none_meets place cache [] none = tt
none_meets place cache (p ∷ pages) none = (empty_meets cache p place.block_length none, none_meets place cache pages none)

still : (place : Place) (cache : Caching) (m : Holding) (pages : List ℕ) → AllWritten (pages_of cache) → IsCurrent cache m → AllByRecursion (StillStands (node_at place.rec_ref place.block_length (bytes_of cache.name m)) (node_lent place cache m)) pages
still place cache m [] written current = tt
still place cache m (p ∷ pages) written current = ((λ node e. nodes_same place cache m p written current ∙ e), still place cache m pages written current)

tree_opened : (place : Place) (cache : Caching) (m : Holding) (root : Option ℕ) (busy : List Range) (w : Walked) → pages_of cache ≡ [] → IsCurrent cache m → HasWalkApart place (bytes_of cache.name m) root busy w → IsTree place cache m root (content w) w.pages
tree_opened place cache m None busy w none current is = (ap content is, ap (λ (v : Walked). v.pages) is)
tree_opened place cache m (Some root) busy w none current has = (
  has.0.height,
  w,
  same_walk (node_at place.rec_ref place.block_length (bytes_of cache.name m)) (node_lent place cache m) has.0.height root w has.0.walk (still place cache m w.pages (empty_written cache none) current),
  refl,
  refl,
)

trees_opened : (cache : Caching) (m : Holding) (busy : List Range) (ps : List Place) (ws : List Walked) → pages_of cache ≡ [] → IsCurrent cache m → AreAscending (contents_of ws) → HaveWalks (bytes_of cache.name m) busy ps ws → HoldLists cache m ps (contents_of ws) (pages_of_walks ws)
trees_opened cache m busy [] ws none current ascend have = (ap contents_of have, ap pages_of_walks have)
trees_opened cache m busy (p ∷ ps) [] none current ascend have = absurd have
trees_opened cache m busy (p ∷ ps) (w ∷ ws) none current ascend have = (
  record { tree = tree_opened p cache m p.root busy w none current have.0; ascend = ascend.0; meets = none_meets p cache w.pages none },
  trees_opened cache m (busy ++ pages_on p w) ps ws none current ascend.1 have.1,
)

pub opened : (t : Trees) (m : Holding) (first : ℕ) (ws : List Walked) → AllByRecursion IsPlaced t.places → pages_of t.cache ≡ [] → IsCurrent t.cache m → t.room ≡ record { end = t.room.end; free = [] } → AreAscending (contents_of ws) → HaveWalks (bytes_of t.cache.name m) ((0, first) ∷ []) t.places ws
    → EndAt t.room.end t.places ws → Stand t m (bytes_owned t ws) (contents_of ws)
opened t m first ws placed none current room ascend have ends = record {
  placed = placed;
  pages = pages_of_walks ws;
  current = current;
  hold = trees_opened t.cache m ((0, first) ∷ []) t.places ws none current ascend have;
  spare = subst (NoneInRoom t.cache) (sym room) (record { free = tt; end = λ p n e. absurd (no_kept p n (ap (λ (ps : List Page). is_kept ps p n) (sym none) ∙ e)) });
  owned = λ x. refl;
  once = λ x.
      let is : stock t.room x ≡ from_end t.room.end x = ap (λ (r : Room). stock r x) room ∙ end_only t.room.end x in
      elim (cases_lt x t.room.end) [
        | inl low ↦ omega (arith, is, end_before t.room.end x low, trees_once (bytes_of t.cache.name m) ((0, first) ∷ []) t.places ws x (let k = range_most (0, first) x in omega (arith, k)) have)
        | inr past ↦ omega (arith, is, none_behind t.room.end x t.places ws past ends, end_most t.room.end x)
      ];
}

-- no page and no free byte lies in the front of the file
pub none_in_front : (t : Trees) (m : Holding) (first x : ℕ) (ws : List Walked) → t.room ≡ record { end = t.room.end; free = [] } → first ≤ t.room.end → HaveWalks (bytes_of t.cache.name m) ((0, first) ∷ []) t.places ws → x < first → bytes_owned t ws x ≡ 0
none_in_front t m first x ws room le have low =
    let header : in_range (0, first) x ≡ 1 = range_one (0, first) x (omega arith) low in
    let most = trees_once (bytes_of t.cache.name m) ((0, first) ∷ []) t.places ws x (omega (arith, header)) have in
    let is : stock t.room x ≡ from_end t.room.end x = ap (λ (r : Room). stock r x) room ∙ end_only t.room.end x in
    omega (arith, header, most, is, end_before t.room.end x (omega arith))
