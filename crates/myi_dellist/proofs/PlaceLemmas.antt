-- What placing keeps: how many bytes the blocks take, and that they tile what was free.
use Rattle.std.proofs.Common.{◌≡◌, ℕ, zero, suc, ◌+◌, ◌-◌, ◌^◌, ◌<◌, ◌≤◌, ◌⊎◌, inl, inr, min, Bool, true, false, List, [], ◌∷◌, ◌++◌, refl, arith}
use Rattle.std.specs.Prelude.{nat_lt, nat_le}
use Rattle.std.specs.List.{AllByRecursion}
use Rattle.std.proofs.lemmas.Bool.{ltb-false, leb-true}
use Rattle.myi_frames.specs.Sizes.{least_size}
use Rattle.myi_dellist.specs.Areas.{Area, bytes_below, Tile}
use Rattle.myi_dellist.specs.Releasing.{most_size, release_all}
use Rattle.myi_dellist.specs.declared.pieces.Piece.{Piece}
use Rattle.myi_dellist.specs.Placing.{Space, areas_of, taken_by, room, fits, Taking, take_last, take_one, take_from, take_more, append_one, append_from, end_behind, is_none, Placing, last_pieces, placed_by, place, IsUsable}
use Rattle.myi_dellist.proofs.AreaLemmas.{below-append}
use Rattle.myi_dellist.proofs.ReleaseLemmas.{below-release_all}
use Rattle.myi_dellist.proofs.SizeLemmas.{room-bounds, not-fits, does-fit}

-- what taking keeps
pub record Takes (t : Taking) (left : ℕ) (from : List Area) : Type 0 where
  pub counts : taken_by t.pieces + t.left ≡ left
  pub bytes : (p : ℕ) → bytes_below p (areas_of t.pieces) + bytes_below p t.spare + bytes_below p t.unused ≡ bytes_below p from

last_takes : (b : Bool) (left : ℕ) (a : Area) (more : List Area) → nat_le (least_size left + 20) a.size ≡ b → least_size left ≤ a.size → Takes (take_last b left a more) left (a ∷ more)
last_takes true left a more t le = record { counts = omega arith; bytes = λ p. omega (arith, leb-true _ _ t) }
last_takes false left a more t le = record { counts = omega arith; bytes = λ p. omega arith }

pub take_takes : (len : ℕ) (first : Bool) (left : ℕ) (from : List Area) → left ≤ len → AllByRecursion (IsUsable len) from → Takes (take_from len first left from) left from
take_takes len first left [] le all = record { counts = omega arith; bytes = λ p. omega arith }
take_takes len first left (a ∷ areas) le all = by_fits (fits left a.size) refl (take_takes len false (left - room len first a.size) areas (omega arith) all.1)
  where
    by_fits : (b : Bool) → fits left a.size ≡ b → Takes (take_from len false (left - room len first a.size) areas) (left - room len first a.size) areas → Takes (take_one len first left a areas b (λ more. take_from len false more areas)) left (a ∷ areas)
    by_fits true e more = last_takes (nat_le (least_size left + 20) a.size) left a areas refl (does-fit left a.size e).1
    by_fits false e more =
        let small = not-fits len left a le all.0 e in
        let cap = room-bounds len first a.size all.0.least in
        record { counts = omega (arith, more.counts, cap.1); bytes = λ p. omega (arith, more.bytes p) }

more_takes : (len : ℕ) (first : Bool) (left : ℕ) (from : List Area) → left ≤ len → AllByRecursion (IsUsable len) from → Takes (take_more len first left from) left from
more_takes len first zero from le all = record { counts = omega arith; bytes = λ p. omega arith }
more_takes len first (suc left) from le all = take_takes len first (suc left) from le all

-- ---- the end

pub record Ends (ps : List Piece) (left at : ℕ) : Type 0 where
  pub counts : taken_by ps ≡ left
  pub grows : at ≤ end_behind at ps
  pub bytes : (p : ℕ) → bytes_below p (areas_of ps) ≡ min (end_behind at ps) p - min at p

pub append_ends : (fuel len : ℕ) (first : Bool) (left at : ℕ) → left ≤ fuel → (fuel ≡ 0) ⊎ (0 < left) → Ends (append_from fuel len first left at) left at
append_ends zero len first left at le some = record { counts = omega arith; grows = omega arith; bytes = λ p. omega arith }
append_ends (suc fuel) len first left at le some =
    let cap = room-bounds len first most_size (omega arith) in
    by_test (nat_lt left (2 ^ 24)) refl (λ (far : 2 ^ 24 ≤ left). append_ends fuel len false (left - room len first most_size) (at + most_size) (omega arith) (inr (omega arith)))
  where
    by_test : (b : Bool) → nat_lt left (2 ^ 24) ≡ b → (2 ^ 24 ≤ left → Ends (append_from fuel len false (left - room len first most_size) (at + most_size)) (left - room len first most_size) (at + most_size)) → Ends (append_one len first left at b (λ more. append_from fuel len false more (at + most_size))) left at
    by_test true t more = record { counts = omega arith; grows = omega arith; bytes = λ p. omega arith }
    by_test false t more =
        let far = ltb-false _ _ t in
        let cap = room-bounds len first most_size (omega arith) in
        let m = more far in
        record { counts = omega (arith, m.counts, cap.1, far); grows = omega (arith, m.grows); bytes = λ p. omega (arith, m.bytes p, m.grows) }

-- ---- all of it

taken-append : (xs ys : List Piece) → taken_by (xs ++ ys) ≡ taken_by xs + taken_by ys
taken-append [] ys = omega arith
taken-append (x ∷ xs) ys = omega (arith, taken-append xs ys)

pub below-pieces : (p : ℕ) (xs ys : List Piece) → bytes_below p (areas_of (xs ++ ys)) ≡ bytes_below p (areas_of xs) + bytes_below p (areas_of ys)
below-pieces p [] ys = omega arith
below-pieces p (x ∷ xs) ys = omega (arith, below-pieces p xs ys)

pub record Keeps (s : Space) (own : List Area) (len : ℕ) (r : Placing) : Type 0 where
  pub counts : taken_by r.pieces ≡ len
  pub grows : s.end ≤ r.space.end
  pub bytes : (p : ℕ) → bytes_below p (areas_of r.pieces) + bytes_below p r.space.holes ≡ bytes_below p own + bytes_below p s.holes + (min r.space.end p - min s.end p)

by_two : (s : Space) (own : List Area) (len : ℕ) (a b : Taking) → Takes a len own → Takes b a.left s.holes → Keeps s own len (placed_by s len a b)
by_two s own len a b ta tb =
    let last = last_pieces len a b s.end in
    let e : Ends last b.left s.end = append_ends b.left len (is_none (a.pieces ++ b.pieces)) b.left s.end (omega arith) (some b.left) in
    let c1 = taken-append (a.pieces ++ b.pieces) last in
    let c2 = taken-append a.pieces b.pieces in
    record {
      counts = omega (arith, ta.counts, tb.counts, e.counts, c1, c2);
      grows = e.grows;
      bytes = λ p.
          let f1 = below-pieces p (a.pieces ++ b.pieces) last in
          let f2 = below-pieces p a.pieces b.pieces in
          let f3 = below-release_all p (a.spare ++ (b.spare ++ a.unused)) b.unused in
          let f4 = below-append p a.spare (b.spare ++ a.unused) in
          let f5 = below-append p b.spare a.unused in
          omega (arith, ta.bytes p, tb.bytes p, e.bytes p, f1, f2, f3, f4, f5);
    }
  where
    some : (n : ℕ) → (n ≡ 0) ⊎ (0 < n)
    some zero = inl refl
    some (suc n) = inr (omega arith)

pub place-keeps : (s : Space) (own : List Area) (len : ℕ) → AllByRecursion (IsUsable len) own → AllByRecursion (IsUsable len) s.holes → Keeps s own len (place s own len)
unfolding place
place-keeps s own len all holes =
    let a = take_takes len true len own (omega arith) all in
    let t = take_from len true len own in
    by_two s own len t (take_more len (is_none t.pieces) t.left s.holes) a (more_takes len (is_none t.pieces) t.left s.holes (omega (arith, a.counts)) holes)

pub place-tile : (s : Space) (own others : List Area) (len : ℕ) → AllByRecursion (IsUsable len) own → AllByRecursion (IsUsable len) s.holes → Tile s.end (others ++ (own ++ s.holes)) → Tile (place s own len).space.end (others ++ (areas_of (place s own len).pieces ++ (place s own len).space.holes))
place-tile s own others len all holes tile p =
    let k = place-keeps s own len all holes in
    let r = place s own len in
    omega (arith, tile p, k.bytes p, k.grows, below-append p others (own ++ s.holes), below-append p own s.holes, below-append p others (areas_of r.pieces ++ r.space.holes), below-append p (areas_of r.pieces) r.space.holes)

pub release-tile : (end : ℕ) (own others holes : List Area) → Tile end (others ++ (own ++ holes)) → Tile end (others ++ release_all own holes)
release-tile end own others holes tile p =
    omega (arith, tile p, below-append p others (own ++ holes), below-append p own holes, below-append p others (release_all own holes), below-release_all p own holes)
