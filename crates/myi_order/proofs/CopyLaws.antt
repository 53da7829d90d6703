-- A file that is copied by pieces.
use Rattle.std.proofs.Common.{◌≡◌, ◌≢◌, ℕ, zero, suc, ◌+◌, ◌-◌, ◌<◌, ◌≤◌, min, List, [], ◌∷◌, ◌++◌, length, take, drop, Option, Some, unwrap_or, refl, sym, ap, ◌∙◌, arith, length-take, length-drop}
use Rattle.std.proofs.lemmas.List.{append-nil, take_all, drop_all}
use Rattle.myi_base.specs.Holding.{Holding, Told, Sets, OthersStay, bytes_of, overwritten}
use Rattle.myi_base.proofs.CallerLemmas.{told_then}
use Rattle.myi_order.specs.Copying.{CopiesPiece}

-- the front of a file is in the other
pub record CopiedTo (from to : List ℕ) (size at : ℕ) (m n : Holding) : Type 0 where
  pub long : size ≡ length (bytes_of from m)
  pub sets : Sets to (take at (bytes_of from m)) m n

-- bytes that are written at the end of a file are appended
appended : (at : ℕ) (w bytes : List ℕ) → length w ≡ at → overwritten at bytes w ≡ w ++ bytes
appended at w bytes long =
    let none : at - length w ≡ 0 = omega arith in
    rw (none, take_all at w (omega arith), drop_all (at + length bytes) w (omega arith)) (append-nil _ ∙ ap (λ xs. xs ++ bytes) (append-nil w))

front_again : (n : ℕ) (x : List ℕ) → take n x ≡ take (length (take n x)) x
front_again zero x = refl
front_again (suc n) [] = refl
front_again (suc n) (b ∷ x) = ap (λ xs. b ∷ xs) (front_again n x)

front_more : (at most : ℕ) (x : List ℕ) → at ≤ length x → take at x ++ take most (drop at x) ≡ take (at + length (take most (drop at x))) x
front_more zero most x few = front_again most x ∙ ap (λ n. take n x) (let e : length (take most x) ≡ 0 + length (take most x) = omega arith in e)
front_more (suc at) most [] few = absurd (omega arith)
front_more (suc at) most (b ∷ x) few = ap (λ xs. b ∷ xs) (front_more at most x (omega arith)) ∙ ap (λ n. take n (b ∷ x)) (let e : suc (at + length (take most (drop at x))) ≡ suc at + length (take most (drop at x)) = omega arith in e)

pub one_piece : (from to : List ℕ) (size at most count next : ℕ) (m n k : Holding) → from ≢ to → at < size → 0 < most → next ≡ min size (at + count)
    → CopiedTo from to size at m n → CopiesPiece from to at most count n k → CopiedTo from to size next m k
one_piece from to size at most count next m n k apart low some is so_far piece =
    let x : List ℕ = bytes_of from m in
    let same : bytes_of from n ≡ x = ap (λ o. unwrap_or o []) (so_far.sets.others from apart) in
    let front : bytes_of to n ≡ take at x = ap (λ o. unwrap_or o []) so_far.sets.here in
    let part : List ℕ = take most (drop at x) in
    let many : count ≡ length part = piece.many ∙ ap (λ (b : List ℕ). length (take most (drop at b))) same in
    let long : length part ≡ min most (length x - at) = length-take most (drop at x) ∙ ap (min most) (length-drop at x) in
    let behind : next ≡ at + count = omega (arith, is, many, long, so_far.long, low) in
    let fronted : length (take at x) ≡ at = omega (arith, length-take at x, so_far.long, low) in
    let made : overwritten at (take most (drop at (bytes_of from n))) (bytes_of to n) ≡ take next x =
    ap (λ b. overwritten at (take most (drop at b)) (bytes_of to n)) same ∙ ap (overwritten at part) front ∙ appended at (take at x) part fronted ∙ front_more at most x (omega (arith, so_far.long, low))
    ∙ ap (λ c. take c x) (ap (λ c. at + c) (sym many) ∙ sym behind) in
    record {
      long = so_far.long;
      sets = record { here = piece.sets.here ∙ ap Some made; others = λ q other. piece.sets.others q other ∙ so_far.sets.others q other };
    }

pub others_on : (to : List ℕ) (old mid new : Option Holding) → Told old mid (OthersStay to) → Told mid new (OthersStay to) → Told old new (OthersStay to)
others_on to old mid new first next = told_then old mid new _ _ _ first next (λ m n k one two q other. two q other ∙ one q other)
