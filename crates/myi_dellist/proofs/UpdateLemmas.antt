-- Updates: own blocks, of which the longest count as two.
use Rattle.std.proofs.Common.{◌≡◌, ℕ, ◌+◌, ◌%◌, ◌^◌, ◌<◌, ◌≤◌, inl, inr, Bool, true, false, List, [], ◌∷◌, ◌++◌, refl, arith}
use Rattle.std.specs.Prelude.{nat_lt, nat_le, if◌then◌else◌}
use Rattle.std.specs.List.{AllByRecursion, flat_map}
use Rattle.std.proofs.lemmas.Bool.{ltb-true, leb-true, leb-false}
use Rattle.myi_dellist.specs.Areas.{Area, Tile, AreInside}
use Rattle.myi_dellist.specs.Releasing.{most_size, front_part, back_part, IsHole, IsFreeable}
use Rattle.myi_dellist.specs.Placing.{Space, areas_of, taken_by, own_parts, own_areas, update, specs_of, AreWritable, IsUsable}
use Rattle.myi_dellist.proofs.AreaLemmas.{below-append}
use Rattle.myi_dellist.proofs.PlaceLemmas.{place-keeps, place-tile}
use Rattle.myi_dellist.proofs.FillLemmas.{place-placed, holes_usable}
use Rattle.myi_dellist.proofs.FirstLemmas.{below-own_areas, place-writable}

usable_parts : (len : ℕ) (a : Area) (rest : List Area) → IsFreeable a → AllByRecursion (IsUsable len) rest → AllByRecursion (IsUsable len) (own_parts a ++ rest)
usable_parts len a rest f all = by_size (nat_le a.size most_size) refl
  where
    by_size : (t : Bool) → nat_le a.size most_size ≡ t → AllByRecursion (IsUsable len) ((if t then a ∷ [] else front_part a ∷ back_part a ∷ []) ++ rest)
    by_size true e = (record { aligned = f.aligned; multiple = f.multiple; least = f.least; most = f.most; giant = inr (leb-true _ _ e) }, all)
    by_size false e =
        let long = leb-false _ _ e in (
          record { aligned = f.aligned; multiple = omega arith; least = omega arith; most = omega arith; giant = inr (omega arith) },
          (record { aligned = omega (arith, f.aligned); multiple = omega (arith, f.multiple, long); least = omega (arith, long); most = omega (arith, f.most); giant = inr (omega (arith, f.most)) }, all),
        )

usable_all : (len : ℕ) (own : List Area) → AllByRecursion IsFreeable own → AllByRecursion (IsUsable len) (flat_map own_parts own)
usable_all len [] all = tt
usable_all len (a ∷ own) all = usable_parts len a (flat_map own_parts own) all.0 (usable_all len own all.1)

usable_short : (len : ℕ) (own : List Area) → len < 2 ^ 24 → AllByRecursion IsFreeable own → AllByRecursion (IsUsable len) own
usable_short len [] short all = tt
usable_short len (a ∷ own) short all = (record { aligned = all.0.aligned; multiple = all.0.multiple; least = all.0.least; most = all.0.most; giant = inl short }, usable_short len own short all.1)

pub own-usable : (len : ℕ) (own : List Area) → AllByRecursion IsFreeable own → AllByRecursion (IsUsable len) (own_areas len own)
own-usable len own all = by_len (nat_lt len (2 ^ 24)) refl
  where
    by_len : (t : Bool) → nat_lt len (2 ^ 24) ≡ t → AllByRecursion (IsUsable len) (if t then own else flat_map own_parts own)
    by_len true e = usable_short len own (ltb-true _ _ e) all
    by_len false e = usable_all len own all

inside_parts : (end : ℕ) (a : Area) (rest : List Area) → a.at + a.size ≤ end → AreInside end rest → AreInside end (own_parts a ++ rest)
inside_parts end a rest le all = by_size (nat_le a.size most_size) refl
  where
    by_size : (t : Bool) → nat_le a.size most_size ≡ t → AreInside end ((if t then a ∷ [] else front_part a ∷ back_part a ∷ []) ++ rest)
    by_size true e = (le, all)
    by_size false e = let long = leb-false _ _ e in (omega arith, (omega arith, all))

inside_all : (end : ℕ) (own : List Area) → AreInside end own → AreInside end (flat_map own_parts own)
inside_all end [] all = tt
inside_all end (a ∷ own) all = inside_parts end a (flat_map own_parts own) all.0 (inside_all end own all.1)

pub own-inside : (end len : ℕ) (own : List Area) → AreInside end own → AreInside end (own_areas len own)
own-inside end len own all = by_len (nat_lt len (2 ^ 24))
  where
    by_len : (t : Bool) → AreInside end (if t then own else flat_map own_parts own)
    by_len true = all
    by_len false = inside_all end own all

pub update-counts : (s : Space) (own : List Area) (len : ℕ) → AllByRecursion IsFreeable own → AllByRecursion IsHole s.holes → taken_by (update s own len).pieces ≡ len
update-counts s own len all holes = (place-keeps s (own_areas len own) len (own-usable len own all) (holes_usable len s.holes holes)).counts

pub update-grows : (s : Space) (own : List Area) (len : ℕ) → AllByRecursion IsFreeable own → AllByRecursion IsHole s.holes → s.end ≤ (update s own len).space.end
update-grows s own len all holes = (place-keeps s (own_areas len own) len (own-usable len own all) (holes_usable len s.holes holes)).grows

pub update-tile : (s : Space) (own others : List Area) (len : ℕ) → AllByRecursion IsFreeable own → AllByRecursion IsHole s.holes → Tile s.end (others ++ (own ++ s.holes)) → Tile (update s own len).space.end (others ++ (areas_of (update s own len).pieces ++ (update s own len).space.holes))
update-tile s own others len all holes tile =
    let o = own_areas len own in
    place-tile s o others len (own-usable len own all) (holes_usable len s.holes holes)
    (λ p. omega (arith, tile p, below-append p others (own ++ s.holes), below-append p own s.holes, below-append p others (o ++ s.holes), below-append p o s.holes, below-own_areas p len own))

pub update-holes : (s : Space) (own : List Area) (len : ℕ) → 0 < len → s.end % 4 ≡ 0 → AllByRecursion IsFreeable own → AllByRecursion IsHole s.holes → AllByRecursion IsHole (update s own len).space.holes
update-holes s own len some aligned all holes = (place-placed s (own_areas len own) len some (own-usable len own all) holes).holes

pub update-writable : (s : Space) (own : List Area) (len : ℕ) → 0 < len → len < 2 ^ 32 → s.end % 4 ≡ 0 → AllByRecursion IsFreeable own → AllByRecursion IsHole s.holes → AreInside s.end own → AreInside s.end s.holes → (update s own len).space.end < 2 ^ 64 → AreWritable (specs_of len (update s own len).pieces) (update s own len).pieces
update-writable s own len some few aligned all holes io ih lt = place-writable s (own_areas len own) len some few aligned (own-usable len own all) holes (own-inside s.end len own io) ih lt
