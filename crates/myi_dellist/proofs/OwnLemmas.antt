-- A row that ends in a block of the row in whose place it is put: what is released of that row's blocks.
use Rattle.std.proofs.Common.{◌≡◌, ℕ, ◌+◌, ◌-◌, ◌^◌, ◌<◌, ◌≤◌, ◌⊎◌, inl, inr, Bool, true, false, List, [], ◌∷◌, ◌++◌, Option, Some, None, refl, sym, ap, subst, ◌∙◌, arith}
use Rattle.std.specs.Prelude.{◌==◌, nat_lt, nat_le, if◌then◌else◌}
use Rattle.std.specs.List.{AllByRecursion, flat_map}
use Rattle.std.proofs.lemmas.Bool.{eq-eqb, leb-true, leb-false, le-leb}
use Rattle.std.proofs.lemmas.List.{append-nil}
use Rattle.myi_frames.specs.declared.head.Head.{Head}
use Rattle.myi_frames.specs.Sizes.{least_size}
use Rattle.myi_dellist.specs.declared.pieces.Piece.{Piece}
use Rattle.myi_dellist.specs.Areas.{Area, bytes_below, IsApart, AreApart, AreInside, HaveBytes}
use Rattle.myi_dellist.specs.Releasing.{most_size, hole_at, front_part, back_part, release_all, IsHole, IsFreeable}
use Rattle.myi_dellist.specs.Placing.{Space, Placing, areas_of, fits, room, Taking, take_last, take_one, take_from, take_more, is_none, placed_by, place, update, own_parts, own_areas}
use Rattle.myi_dellist.specs.Freeing.{hole_in}
use Rattle.myi_dellist.specs.Several.{hide, next_of, parts_of, AreClear}
use Rattle.myi_dellist.specs.Rows.{AreListedBehind}
use Rattle.myi_dellist.specs.Replacing.{own_taking, own_released}
use Rattle.myi_dellist.proofs.AreaLemmas.{below-append, once-apart, no_more, rising, inside_by}
use Rattle.myi_dellist.proofs.LinkLemmas.{all_join}
use Rattle.myi_dellist.proofs.PlaceLemmas.{take_takes}
use Rattle.myi_dellist.proofs.FillLemmas.{IsDone, IsOpen, take_runs, unused_taken, usable_freeable}
use Rattle.myi_dellist.proofs.FirstLemmas.{fill_bytes, hole_bytes, below-own_areas}
use Rattle.myi_dellist.proofs.UpdateLemmas.{own-usable}
use Rattle.myi_dellist.proofs.StandLemmas.{apart-once}

-- ---- where it is placed

abbrev pub own_placed : Space → Taking → List Piece → Placing
own_placed s t ps = record { pieces = ps; space = record { holes = release_all (t.spare ++ t.unused) s.holes; end = s.end } }

pub update-own : (s : Space) (own : List Area) (len : ℕ) → (own_taking len own).left ≡ 0 → update s own len ≡ own_placed s (own_taking len own) (own_taking len own).pieces
unfolding place
update-own s own len none =
    let t = own_taking len own in
    ap (λ (n : ℕ). placed_by s len (record { pieces = t.pieces; left = n; spare = t.spare; unused = t.unused }) (take_more len (is_none t.pieces) n s.holes)) none
    ∙ ap (own_placed s t) (append-nil (t.pieces ++ []) ∙ append-nil t.pieces)

-- ---- counting

parts_below : (n : ℕ) (a : Area) (rest : List Area) → bytes_below n (parts_of a ++ rest) ≡ Rattle.myi_dellist.specs.Areas.below n a + bytes_below n rest
parts_below n a rest = by_test (nat_le a.size most_size) refl
  where
    by_test : (b : Bool) → nat_le a.size most_size ≡ b → bytes_below n ((if b then a ∷ [] else back_part a ∷ front_part a ∷ []) ++ rest) ≡ Rattle.myi_dellist.specs.Areas.below n a + bytes_below n rest
    by_test true t = refl
    by_test false t = let long = leb-false _ _ t in omega (arith, long)

pub all_below : (n : ℕ) (areas : List Area) → bytes_below n (flat_map parts_of areas) ≡ bytes_below n areas
all_below n [] = refl
all_below n (a ∷ areas) = omega (arith, parts_below n a (flat_map parts_of areas), all_below n areas)

-- ---- the parts can be deleted blocks

hole_parts : (a : Area) (rest : List Area) → IsFreeable a → AllByRecursion IsHole rest → AllByRecursion IsHole (parts_of a ++ rest)
hole_parts a rest f more = by_test (nat_le a.size most_size) refl
  where
    by_test : (b : Bool) → nat_le a.size most_size ≡ b → AllByRecursion IsHole ((if b then a ∷ [] else back_part a ∷ front_part a ∷ []) ++ rest)
    by_test true t = (record { aligned = f.aligned; multiple = f.multiple; least = f.least; most = leb-true _ _ t }, more)
    by_test false t =
        let long = leb-false _ _ t in (
          record { aligned = omega (arith, f.aligned); multiple = omega (arith, f.multiple, long); least = omega (arith, long); most = omega (arith, f.most) },
          (record { aligned = f.aligned; multiple = omega arith; least = omega arith; most = omega arith }, more),
        )

pub all_holes : (areas : List Area) → AllByRecursion IsFreeable areas → AllByRecursion IsHole (flat_map parts_of areas)
all_holes [] all = tt
all_holes (a ∷ areas) all = hole_parts a (flat_map parts_of areas) all.0 (all_holes areas all.1)

-- ---- they are apart from the row's blocks and from what is deleted

-- the blocks of a row, and what is deleted beside them
pub record IsOwn (end : ℕ) (own holes : List Area) : Type 0 where
  pub free : AllByRecursion IsFreeable own
  pub inside : AreInside end own
  pub apart : AreApart (own ++ holes)
  pub sizes : AllByRecursion IsHole holes

pub record IsLeft (len end : ℕ) (holes : List Area) (t : Taking) : Type 0 where
  pub sizes : AllByRecursion IsHole (own_released t)
  pub inside : AreInside end (own_released t)
  pub apart : AreApart (areas_of t.pieces ++ (own_released t ++ holes))
  pub pieces : AreInside end (areas_of t.pieces)

pub done_of : (len : ℕ) (own : List Area) → 0 < len → AllByRecursion IsFreeable own → (own_taking len own).left ≡ 0 → IsDone len true len (own_taking len own)
done_of len own some free none = by_run (take_runs len true len (own_areas len own) some (omega arith) (own-usable len own free))
  where
    by_run : IsDone len true len (own_taking len own) ⊎ IsOpen len true len (own_taking len own) → IsDone len true len (own_taking len own)
    by_run (inl d) = d
    by_run (inr o) = absurd (omega (arith, o.some, none))

pub left-of : (len end : ℕ) (own holes : List Area) → 0 < len → IsOwn end own holes → (own_taking len own).left ≡ 0 → IsLeft len end holes (own_taking len own)
left-of len end own holes some o none = record {
  sizes = holes_then;
  inside = inside_by end (own_released t) (hole_bytes (own_released t) holes_then) (λ n le. omega (arith, counts n, counts end, no_more end n own o.inside le, rising end n (areas_of t.pieces) le));
  pieces = inside_by end (areas_of t.pieces) (fill_bytes len true len t.pieces d.fill) (λ n le. omega (arith, counts n, counts end, no_more end n own o.inside le, rising end n (own_released t) le));
  apart = once-apart (areas_of t.pieces ++ (own_released t ++ holes)) bytes (λ n. omega (arith, whole n, whole (n + 1), apart-once (own ++ holes) o.apart n));
}
  where
    t : Taking
    t = own_taking len own

    d : IsDone len true len (own_taking len own)
    d = done_of len own some o.free none

    holes_then : AllByRecursion IsHole (own_released (own_taking len own))
    holes_then = all_holes (t.spare ++ t.unused) (all_join IsFreeable t.spare t.unused d.spare (unused_taken IsFreeable len true len (own_areas len own) (usable_freeable len (own_areas len own) (own-usable len own o.free))))

    counts : (n : ℕ) → bytes_below n (areas_of (own_taking len own).pieces) + bytes_below n (own_released (own_taking len own)) ≡ bytes_below n own
    counts n =
        let k = (take_takes len true len (own_areas len own) (omega arith) (own-usable len own o.free)).bytes n in
        omega (arith, k, below-own_areas n len own, all_below n (t.spare ++ t.unused), below-append n t.spare t.unused)

    whole : (n : ℕ) → bytes_below n (areas_of (own_taking len own).pieces ++ (own_released (own_taking len own) ++ holes)) ≡ bytes_below n (own ++ holes)
    whole n = omega (arith, counts n, below-append n (areas_of t.pieces) (own_released t ++ holes), below-append n (own_released t) holes, below-append n own holes)

    bytes : HaveBytes (areas_of (own_taking len own).pieces ++ (own_released (own_taking len own) ++ holes))
    bytes =
        let all = λ (xs ys : List Area) (a : HaveBytes xs) (b : HaveBytes ys). all_join (λ (a : Area). 0 < a.size) xs ys a b in
        all (areas_of t.pieces) (own_released t ++ holes) (fill_bytes len true len t.pieces d.fill) (all (own_released t) holes (hole_bytes (own_released t) holes_then) (hole_bytes holes o.sizes))

-- ---- behind each of them nothing is deleted that is not on the list

-- none is seen behind an area, or the next one stands there
abbrev IsSeenBehind : List ℕ → List Area → Area → List Area → Type 0
IsSeenBehind d holes a rest = (hole_at (a.at + a.size) holes ≡ None → hole_in d (a.at + a.size) ≡ None) ⊎ ((next_of (flat_map parts_of rest) ≡ Some (a.at + a.size)) × (a.size ≤ most_size))

abbrev pub AreSeenBehind : List ℕ → List Area → List Area → Type 0
AreSeenBehind d holes [] = Unit {0}
AreSeenBehind d holes (a ∷ areas) = IsSeenBehind d holes a areas × AreSeenBehind d holes areas

pub listed_own : (d : List ℕ) (holes own : List Area) → AreListedBehind own holes d → AreSeenBehind d holes own
listed_own d holes [] h = tt
listed_own d holes (a ∷ own) h = (inl h.0, listed_own d holes own h.1)

listed_parts : (d : List ℕ) (holes : List Area) (a : Area) (rest : List Area) → IsFreeable a → (hole_at (a.at + a.size) holes ≡ None → hole_in d (a.at + a.size) ≡ None) → AreSeenBehind d holes rest → AreSeenBehind d holes (own_parts a ++ rest)
listed_parts d holes a rest f h more = by_test (nat_le a.size most_size) refl
  where
    by_test : (b : Bool) → nat_le a.size most_size ≡ b → AreSeenBehind d holes ((if b then a ∷ [] else front_part a ∷ back_part a ∷ []) ++ rest)
    by_test true t = (inl h, more)
    by_test false t =
        let long = leb-false _ _ t in
        let b = back_part a in
        let stop : a.at + a.size ≡ b.at + b.size = omega (arith, long) in
        let next : next_of (parts_of b ++ flat_map parts_of rest) ≡ Some b.at = ap (λ (c : Bool). next_of ((if c then b ∷ [] else back_part b ∷ front_part b ∷ []) ++ flat_map parts_of rest)) (le-leb b.size most_size (omega (arith, f.most))) in
        (inr (next, omega arith), (inl (subst (λ (q : ℕ). hole_at q holes ≡ None → hole_in d q ≡ None) stop h), more))

listed_all : (d : List ℕ) (holes own : List Area) → AllByRecursion IsFreeable own → AreListedBehind own holes d → AreSeenBehind d holes (flat_map own_parts own)
listed_all d holes [] f h = tt
listed_all d holes (a ∷ own) f h = listed_parts d holes a (flat_map own_parts own) f.0 h.0 (listed_all d holes own f.1 h.1)

listed_areas : (d : List ℕ) (holes own : List Area) (len : ℕ) → AllByRecursion IsFreeable own → AreListedBehind own holes d → AreSeenBehind d holes (own_areas len own)
listed_areas d holes own len f h = by_test (nat_lt len (2 ^ 24))
  where
    by_test : (b : Bool) → AreSeenBehind d holes (if b then own else flat_map own_parts own)
    by_test true = listed_own d holes own h
    by_test false = listed_all d holes own f h

-- an area that ends where another does, and is no longer
cut_seen : (d : List ℕ) (holes : List Area) (a s : Area) (rest : List Area) → a.at + a.size ≡ s.at + s.size → s.size ≤ a.size → IsSeenBehind d holes a rest → IsSeenBehind d holes s rest
cut_seen d holes a s rest e le (inl h) = inl (subst (λ (q : ℕ). hole_at q holes ≡ None → hole_in d q ≡ None) e h)
cut_seen d holes a s rest e le (inr n) = inr (n.0 ∙ ap (λ (q : ℕ). Some q) e, omega (arith, le, n.1))

seen_last : (d : List ℕ) (holes : List Area) (left : ℕ) (a : Area) (more : List Area) (b : Bool) → nat_le (least_size left + 20) a.size ≡ b → AreSeenBehind d holes (a ∷ more) → AreSeenBehind d holes ((take_last b left a more).spare ++ (take_last b left a more).unused)
seen_last d holes left a more true t h =
    let le = leb-true _ _ t in
    (cut_seen d holes a (record { at = a.at + least_size left; size = a.size - least_size left }) more (omega (arith, le)) (omega arith) h.0, h.1)
seen_last d holes left a more false t h = h.1

seen_taken : (d : List ℕ) (holes : List Area) (len : ℕ) (first : Bool) (left : ℕ) (from : List Area) → AreSeenBehind d holes from → AreSeenBehind d holes ((take_from len first left from).spare ++ (take_from len first left from).unused)
seen_taken d holes len first left [] h = tt
seen_taken d holes len first left (a ∷ areas) h = by_fits (fits left a.size) (seen_taken d holes len false (left - room len first a.size) areas h.1)
  where
    by_fits : (b : Bool) → AreSeenBehind d holes ((take_from len false (left - room len first a.size) areas).spare ++ (take_from len false (left - room len first a.size) areas).unused) → AreSeenBehind d holes ((take_one len first left a areas b (λ more. take_from len false more areas)).spare ++ (take_one len first left a areas b (λ more. take_from len false more areas)).unused)
    by_fits true ih = seen_last d holes left a areas (nat_le (least_size left + 20) a.size) refl h
    by_fits false ih = ih

hide_none : (o : Option ℕ) (s : ℕ → Option Head) (p : ℕ) → s p ≡ None → hide o s p ≡ None
hide_none None s p e = e
hide_none (Some q) s p e = by_test (q == p)
  where
    by_test : (b : Bool) → (if b then None else s p) ≡ None
    by_test true = refl
    by_test false = e

hide_next : (o : Option ℕ) (s : ℕ → Option Head) (p : ℕ) → o ≡ Some p → hide o s p ≡ None
hide_next o s p e = ap (λ (x : Option ℕ). hide x s p) e ∙ ap (λ (b : Bool). if b then None else s p) (eq-eqb p p refl)

pub seen_clear : (d : List ℕ) (holes now : List Area) (areas : List Area) → ((q : ℕ) → hole_at q now ≡ None → hole_at q holes ≡ None) → AreSeenBehind d holes areas → AreClear (hole_in d) now (flat_map parts_of areas)
seen_clear d holes now [] imp h = tt
seen_clear d holes now (a ∷ areas) imp h = by_test (nat_le a.size most_size) refl h.0 (λ xs go. seen_clear d holes xs areas go h.1)
  where
    rest : List Area
    rest = flat_map parts_of areas

    more : (q : ℕ) (b : Area) (xs : List Area) → ((q : ℕ) → hole_at q xs ≡ None → hole_at q holes ≡ None) → hole_at q (b ∷ xs) ≡ None → hole_at q holes ≡ None
    more q b xs go e = by_place (b.at == q) e
      where
        by_place : (c : Bool) → (if c then Some b else hole_at q xs) ≡ None → hole_at q holes ≡ None
        by_place true e = absurd cc
        by_place false e = go q e

    not_none : (q : ℕ) (b : Area) (xs : List Area) → b.at ≡ q → hole_at q (b ∷ xs) ≡ None → ⊥
    not_none q b xs at e = let two : Some b ≡ None = sym (ap (λ (c : Bool). if c then Some b else hole_at q xs) (eq-eqb b.at q at)) ∙ e in absurd cc

    by_test : (b : Bool) → nat_le a.size most_size ≡ b → IsSeenBehind d holes a areas → ((xs : List Area) → ((q : ℕ) → hole_at q xs ≡ None → hole_at q holes ≡ None) → AreClear (hole_in d) xs (flat_map parts_of areas)) → AreClear (hole_in d) now ((if b then a ∷ [] else back_part a ∷ front_part a ∷ []) ++ flat_map parts_of areas)
    by_test true t (inl h0) ih = (λ e. hide_none (next_of rest) (hole_in d) (a.at + a.size) (h0 (imp (a.at + a.size) e)), ih (a ∷ now) (λ q e. more q a now imp e))
    by_test true t (inr n) ih = (λ e. hide_next (next_of rest) (hole_in d) (a.at + a.size) n.0, ih (a ∷ now) (λ q e. more q a now imp e))
    by_test false t (inr n) ih = absurd (omega (arith, leb-false _ _ t, n.1))
    by_test false t (inl h0) ih =
        let long = leb-false _ _ t in
        let b = back_part a in
        let f = front_part a in
        let stop : a.at + a.size ≡ b.at + b.size = omega (arith, long) in
        let go = λ (q : ℕ) (e : hole_at q (b ∷ now) ≡ None). more q b now imp e in (
          λ e. hide_none (Some f.at) (hole_in d) (b.at + b.size) (subst (λ (q : ℕ). hole_at q holes ≡ None → hole_in d q ≡ None) stop h0 (imp (b.at + b.size) e)),
          (λ e. absurd (not_none (f.at + f.size) b now refl e), ih (f ∷ b ∷ now) (λ q e. more q f (b ∷ now) go e)),
        )

pub clear-of : (d : List ℕ) (holes own : List Area) (len : ℕ) → AllByRecursion IsFreeable own → AreListedBehind own holes d → AreClear (hole_in d) holes (own_released (own_taking len own))
clear-of d holes own len f h =
    let t = own_taking len own in
    seen_clear d holes holes (t.spare ++ t.unused) (λ q e. e) (seen_taken d holes len true len (own_areas len own) (listed_areas d holes own len f h))

-- ---- what is apart from the old blocks is apart from these parts

sub_apart : (x a b : Area) → a.at ≤ b.at → b.at + b.size ≤ a.at + a.size → IsApart x a → IsApart x b
sub_apart x a b lo hi (inl le) = inl (omega arith)
sub_apart x a b lo hi (inr le) = inr (omega arith)

apart_own : (x a : Area) (rest : List Area) → IsApart x a → AllByRecursion (IsApart x) rest → AllByRecursion (IsApart x) (own_parts a ++ rest)
apart_own x a rest far more = by_test (nat_le a.size most_size) refl
  where
    by_test : (b : Bool) → nat_le a.size most_size ≡ b → AllByRecursion (IsApart x) ((if b then a ∷ [] else front_part a ∷ back_part a ∷ []) ++ rest)
    by_test true t = (far, more)
    by_test false t = let long = leb-false _ _ t in (sub_apart x a (front_part a) (omega arith) (omega arith) far, (sub_apart x a (back_part a) (omega arith) (omega arith) far, more))

apart_all : (x : Area) (own : List Area) → AllByRecursion (IsApart x) own → AllByRecursion (IsApart x) (flat_map own_parts own)
apart_all x [] far = tt
apart_all x (a ∷ own) far = apart_own x a (flat_map own_parts own) far.0 (apart_all x own far.1)

apart_areas : (x : Area) (len : ℕ) (own : List Area) → AllByRecursion (IsApart x) own → AllByRecursion (IsApart x) (own_areas len own)
apart_areas x len own far = by_test (nat_lt len (2 ^ 24))
  where
    by_test : (b : Bool) → AllByRecursion (IsApart x) (if b then own else flat_map own_parts own)
    by_test true = far
    by_test false = apart_all x own far

apart_last : (x : Area) (left : ℕ) (a : Area) (more : List Area) (b : Bool) → nat_le (least_size left + 20) a.size ≡ b → AllByRecursion (IsApart x) (a ∷ more) → AllByRecursion (IsApart x) ((take_last b left a more).spare ++ (take_last b left a more).unused)
apart_last x left a more true t far = let le = leb-true _ _ t in (sub_apart x a (record { at = a.at + least_size left; size = a.size - least_size left }) (omega arith) (omega (arith, le)) far.0, far.1)
apart_last x left a more false t far = far.1

apart_taken : (x : Area) (len : ℕ) (first : Bool) (left : ℕ) (from : List Area) → AllByRecursion (IsApart x) from → AllByRecursion (IsApart x) ((take_from len first left from).spare ++ (take_from len first left from).unused)
apart_taken x len first left [] far = tt
apart_taken x len first left (a ∷ areas) far = by_fits (fits left a.size) (apart_taken x len false (left - room len first a.size) areas far.1)
  where
    by_fits : (b : Bool) → AllByRecursion (IsApart x) ((take_from len false (left - room len first a.size) areas).spare ++ (take_from len false (left - room len first a.size) areas).unused) → AllByRecursion (IsApart x) ((take_one len first left a areas b (λ more. take_from len false more areas)).spare ++ (take_one len first left a areas b (λ more. take_from len false more areas)).unused)
    by_fits true ih = apart_last x left a areas (nat_le (least_size left + 20) a.size) refl far
    by_fits false ih = ih

apart_one_part : (x a : Area) (rest : List Area) → IsApart x a → AllByRecursion (IsApart x) rest → AllByRecursion (IsApart x) (parts_of a ++ rest)
apart_one_part x a rest far more = by_test (nat_le a.size most_size) refl
  where
    by_test : (b : Bool) → nat_le a.size most_size ≡ b → AllByRecursion (IsApart x) ((if b then a ∷ [] else back_part a ∷ front_part a ∷ []) ++ rest)
    by_test true t = (far, more)
    by_test false t = let long = leb-false _ _ t in (sub_apart x a (back_part a) (omega arith) (omega arith) far, (sub_apart x a (front_part a) (omega arith) (omega arith) far, more))

pub apart_parts : (x : Area) (areas : List Area) → AllByRecursion (IsApart x) areas → AllByRecursion (IsApart x) (flat_map parts_of areas)
apart_parts x [] far = tt
apart_parts x (a ∷ areas) far = apart_one_part x a (flat_map parts_of areas) far.0 (apart_parts x areas far.1)

pub apart-released : (x : Area) (len : ℕ) (own : List Area) → AllByRecursion (IsApart x) own → AllByRecursion (IsApart x) (own_released (own_taking len own))
apart-released x len own far =
    let t = own_taking len own in
    apart_parts x (t.spare ++ t.unused) (apart_taken x len true len (own_areas len own) (apart_areas x len own far))
