-- The bytes of a file after it was changed.
use Rattle.std.proofs.Common.{◌≡◌, ℕ, ◌+◌, ◌-◌, ◌≤◌, ◌⊎◌, inl, inr, List, ◌++◌, length, take, drop, replicate, refl, sym, ap, ◌∙◌, arith, append_assoc, length-append, length-drop}
use Rattle.std.specs.Prelude.{Bool, true, false, ◌||◌, nat_le, Some}
use Rattle.std.proofs.lemmas.Bool.{leb-true}
use Rattle.std.proofs.lemmas.List.{drop_at, drop-drop, drop-append-le, take-append-le, length-take, length-replicate}
use Rattle.myi_base.specs.Holding.{resized, overwritten}
use Rattle.myi_base.specs.Ranges.{are_apart}
use Rattle.myi_frames.specs.Block.{Block, block_of}
use Rattle.myi_frames.proofs.BlockLemmas.{take_inside, block-own, block-stands}

pub length-resized : (n : ℕ) (xs : List ℕ) → length (resized n xs) ≡ n
length-resized n xs =
    omega (arith, length-append (take n xs) (replicate (n - length xs) 0), length-take n xs, length-replicate {A = ℕ} (n - length xs) 0)

pub length-overwritten : (at : ℕ) (bytes d : List ℕ) → length (overwritten at bytes d) ≡ at + length bytes + (length d - (at + length bytes))
length-overwritten at bytes d =
    omega (arith, length-append (resized at d ++ bytes) (drop (at + length bytes) d), length-append (resized at d) bytes, length-resized at d, length-drop (at + length bytes) d)

pub drop-overwritten : (at : ℕ) (bytes d : List ℕ) → drop at (overwritten at bytes d) ≡ bytes ++ drop (at + length bytes) d
drop-overwritten at bytes d =
    ap (λ (x : List ℕ). drop at x) (append_assoc (resized at d) bytes (drop (at + length bytes) d)) ∙ drop_at (resized at d) (bytes ++ drop (at + length bytes) d) at (length-resized at d)

-- bytes inside a front that two lists share
pub part_front : (p n : ℕ) (xs ys : List ℕ) → p + n ≤ length xs → take n (drop p (xs ++ ys)) ≡ take n (drop p xs)
part_front p n xs ys le =
    ap (λ (x : List ℕ). take n x) (drop-append-le p xs ys (omega arith)) ∙ take-append-le n (drop p xs) ys (omega (arith, length-drop p xs))

pub part-resized : (n p size : ℕ) (d : List ℕ) → p + size ≤ n → p + size ≤ length d → take size (drop p (resized n d)) ≡ take size (drop p d)
part-resized n p size d le inside =
    part_front p size (take n d) (replicate (n - length d) 0) (omega (arith, length-take n d)) ∙ take_inside n d p size le

before : (at : ℕ) (bytes d : List ℕ) (p n : ℕ) → p + n ≤ at → p + n ≤ length d → take n (drop p (overwritten at bytes d)) ≡ take n (drop p d)
before at bytes d p n far inside =
    ap (λ (x : List ℕ). take n (drop p x)) (append_assoc (resized at d) bytes (drop (at + length bytes) d)) ∙ part_front p n (resized at d) (bytes ++ drop (at + length bytes) d) (omega (arith, length-resized at d)) ∙ part-resized at p n d far inside

split_drop : (k j : ℕ) (xs : List ℕ) → drop (k + j) xs ≡ drop j (drop k xs)
split_drop k j xs = rw drop-drop refl

beyond : (k p : ℕ) (xs ys : List ℕ) → k ≤ p → drop k xs ≡ drop k ys → drop p xs ≡ drop p ys
beyond k p xs ys le e =
    let j = p - k in
    let is : p ≡ k + j = omega arith in
    ap (λ (q : ℕ). drop q xs) is ∙ split_drop k j xs ∙ ap (drop j) e ∙ sym (split_drop k j ys) ∙ ap (λ (q : ℕ). drop q ys) (sym is)

after : (at : ℕ) (bytes d : List ℕ) (p : ℕ) → at + length bytes ≤ p → drop p (overwritten at bytes d) ≡ drop p d
after at bytes d p far =
    let front : List ℕ = resized at d ++ bytes in
    let long : length front ≡ at + length bytes = omega (arith, length-append (resized at d) bytes, length-resized at d) in
    beyond (at + length bytes) p (overwritten at bytes d) d far (drop_at front (drop (at + length bytes) d) (at + length bytes) long)

-- a write leaves the bytes that it does not meet
pub part-overwritten : (at : ℕ) (bytes d : List ℕ) (p n : ℕ) → (p + n ≤ at) ⊎ (at + length bytes ≤ p) → p + n ≤ length d → take n (drop p (overwritten at bytes d)) ≡ take n (drop p d)
part-overwritten at bytes d p n (inl far) inside = before at bytes d p n far inside
part-overwritten at bytes d p n (inr far) inside = ap (λ (x : List ℕ). take n x) (after at bytes d p far)

-- ---- blocks in a changed file

pub block-grown : (d more : List ℕ) (p : ℕ) (b : Block) → block_of d p ≡ Some b → block_of (d ++ more) p ≡ Some b
block-grown d more p b here =
    block-own d (d ++ more) p b (part_front p b.size d more (block-stands d p b here).inside) here

pub block-resized : (d : List ℕ) (n p : ℕ) (b : Block) → block_of d p ≡ Some b → p + b.size ≤ n → block_of (resized n d) p ≡ Some b
block-resized d n p b here le =
    block-own d (resized n d) p b (part-resized n p b.size d le (block-stands d p b here).inside) here

apart : (p q a e : ℕ) → are_apart (p, q) (a, e) ≡ true → (q ≤ a) ⊎ (e ≤ p)
apart p q a e t = by_test (nat_le q a) refl t
  where
    by_test : (b : Bool) → nat_le q a ≡ b → (b || nat_le e p) ≡ true → (q ≤ a) ⊎ (e ≤ p)
    by_test true s t = inl (leb-true _ _ s)
    by_test false s t = inr (leb-true _ _ t)

pub block-elsewhere : (d bytes : List ℕ) (at p : ℕ) (b : Block) → block_of d p ≡ Some b → are_apart (p, p + b.size) (at, at + length bytes) ≡ true → block_of (overwritten at bytes d) p ≡ Some b
block-elsewhere d bytes at p b here far =
    block-own d (overwritten at bytes d) p b (part-overwritten at bytes d p b.size (apart p (p + b.size) at (at + length bytes) far) (block-stands d p b here).inside) here
