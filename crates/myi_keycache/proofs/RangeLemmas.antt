-- The bytes of a range of a file, and writes over other ranges.
use Rattle.std.proofs.Common.{◌≡◌, ℕ, zero, suc, ◌+◌, ◌-◌, ◌≤◌, true, List, [], ◌∷◌, ◌++◌, length, get_or, take, drop, replicate, leb, Some, refl, sym, ap, ◌∙◌, arith, inl, inr, append_assoc}
use Rattle.std.proofs.lemmas.Bool.{cases_lt, leb-true, le-leb, or_cases, or_left, or_right}
use Rattle.std.proofs.lemmas.Option.{cond_some}
use Rattle.std.proofs.lemmas.List.{length-append, length-take, length-drop, length-replicate, take-append-le, drop-take, take-append-drop, take_all, drop_all, append-nil}
use Rattle.std.proofs.lemmas.Slice.{drop-append-drop}
use Rattle.std.proofs.Math.Seq.{drop-append_seam}
use Rattle.myi_base.specs.Ranges.{Range, are_apart}
use Rattle.myi_base.specs.Holding.{resized, overwritten}
use Rattle.myi_keycache.specs.Lent.{bytes_at}

pub inside : (file : List ℕ) (at len : ℕ) (x : List ℕ) → bytes_at file at len ≡ Some x → (len ≤ length (drop at file)) × (take len (drop at file) ≡ x)
unfolding bytes_at
inside file at len x e = let b = cond_some _ _ _ e in (leb-true _ _ b.0, b.1)

pub taken : (file : List ℕ) (at len : ℕ) → len ≤ length (drop at file) → bytes_at file at len ≡ Some (take len (drop at file))
unfolding bytes_at
taken file at len le = rw (le-leb _ _ le) refl

pub bytes_long : (file : List ℕ) (at len : ℕ) (x : List ℕ) → bytes_at file at len ≡ Some x → length x ≡ len
bytes_long file at len x e = let i = inside file at len x e in omega (arith, ap length i.1, length-take len (drop at file), i.0)

-- the front of a file that is made longer or cut
pub length-resized : (n : ℕ) (xs : List ℕ) → length (resized n xs) ≡ n
length-resized n xs = omega (arith, length-append (take n xs) (replicate (n - length xs) 0), length-take n xs, length-replicate {A = ℕ} (n - length xs) 0)

take-resized : (k n : ℕ) (xs : List ℕ) → k ≤ n → k ≤ length xs → take k (resized n xs) ≡ take k xs
take-resized k n xs le few =
    let room : k ≤ length (take n xs) = omega (arith, length-take n xs) in
    take-append-le k (take n xs) (replicate (n - length xs) 0) room ∙ sym (take-append-le k (take n xs) (drop n xs) room) ∙ ap (take k) (take-append-drop n xs)

pub part_read : (front x back : List ℕ) → bytes_at (front ++ (x ++ back)) (length front) (length x) ≡ Some x
part_read front x back =
    let rest : drop (length front) (front ++ (x ++ back)) ≡ x ++ back = drop-append_seam front (x ++ back) in
    let first : take (length x) (x ++ back) ≡ x = take-append-le (length x) x back (omega arith) ∙ take_all (length x) x (omega arith) in
    taken _ _ _ (rw rest (omega (arith, length-append x back))) ∙ ap Some (ap (take (length x)) rest ∙ first)

pub written_read : (file : List ℕ) (at : ℕ) (x : List ℕ) → bytes_at (overwritten at x file) at (length x) ≡ Some x
written_read file at x =
    let whole : overwritten at x file ≡ resized at file ++ (x ++ drop (at + length x) file) = append_assoc (resized at file) x (drop (at + length x) file) in
    rw whole (ap (λ (n : ℕ). bytes_at (resized at file ++ (x ++ drop (at + length x) file)) n (length x)) (sym (length-resized at file)) ∙ part_read (resized at file) x (drop (at + length x) file))

behind : (file : List ℕ) (at : ℕ) (x : List ℕ) (p : ℕ) → at + length x ≤ p → drop p (overwritten at x file) ≡ drop p file
behind file at x p le = drop-append-drop (at + length x) file (resized at file ++ x) p le (omega (arith, length-append (resized at file) x, length-resized at file))

before : (file : List ℕ) (at : ℕ) (x : List ℕ) (p len : ℕ) → p + len ≤ at → p + len ≤ length file → take len (drop p (overwritten at x file)) ≡ take len (drop p file)
before file at x p len le few =
    let whole : overwritten at x file ≡ resized at file ++ (x ++ drop (at + length x) file) = append_assoc (resized at file) x (drop (at + length x) file) in
    sym (drop-take p len (overwritten at x file))
    ∙ ap (drop p) (ap (take (p + len)) whole ∙ take-append-le (p + len) (resized at file) (x ++ drop (at + length x) file) (omega (arith, length-resized at file)) ∙ take-resized (p + len) at file le few)
    ∙ drop-take p len file

-- a write elsewhere leaves the bytes of a range
pub apart_read : (file : List ℕ) (at : ℕ) (x : List ℕ) (p len : ℕ) (y : List ℕ) → are_apart (p, p + len) (at, at + length x) ≡ true → bytes_at file p len ≡ Some y → bytes_at (overwritten at x file) p len ≡ Some y
apart_read file at x p len y apart e =
    let i = inside file p len y e in
    elim (or_cases _ _ apart) [
      | inl front ↦
          let le : p + len ≤ at = leb-true _ _ front in
          elim (cases_lt (length file) (p + len)) [
            | inl past ↦
                let empty : len ≡ 0 = omega (arith, i.0, length-drop p file) in
                let none : y ≡ [] = sym i.1 ∙ ap (λ (n : ℕ). take n (drop p file)) empty in
                rw (empty, none) (taken (overwritten at x file) p 0 (omega arith))
            | inr within ↦
                let same = before file at x p len le within in
                let long : len ≤ length (drop p (overwritten at x file)) = omega (arith, length-drop p (overwritten at x file), length-append (resized at file ++ x) (drop (at + length x) file), length-append (resized at file) x, length-resized at file) in
                taken _ _ _ long ∙ ap Some (same ∙ i.1)
          ]
      | inr back ↦
          let same = behind file at x p (leb-true _ _ back) in
          taken _ _ _ (rw same i.0) ∙ ap Some (ap (take len) same ∙ i.1)
    ]

pub apart_flip : (p q : Range) → are_apart p q ≡ true → are_apart q p ≡ true
apart_flip p q e = let a = leb p.1 q.0 in let b = leb q.1 p.0 in elim (or_cases a b e) [ inl front ↦ or_right b a front | inr back ↦ or_left b a back ]

-- a write at the end of a file
pub end_written : (file x : List ℕ) → overwritten (length file) x file ≡ file ++ x
end_written file x =
    let none : length file - length file ≡ 0 = omega arith in
    let front : resized (length file) file ≡ file = ap (λ (n : ℕ). take (length file) file ++ replicate n 0) none ∙ append-nil (take (length file) file) ∙ take_all (length file) file (omega arith) in
    let back : drop (length file + length x) file ≡ [] = drop_all (length file + length x) file (omega arith) in
    rw (front, back) (append-nil (file ++ x))

-- ---- a write byte by byte

drop_none : (n : ℕ) → drop {A = ℕ} n [] ≡ []
drop_none zero = refl
drop_none (suc n) = refl

take_none : (n : ℕ) → take {A = ℕ} n [] ≡ []
take_none zero = refl
take_none (suc n) = refl

-- the first byte stays, or is a zero of the gap
write_later : (at : ℕ) (x file : List ℕ) → overwritten (suc at) x file ≡ get_or file 0 0 ∷ overwritten at x (drop 1 file)
write_later at x [] =
    let n : suc at - 0 ≡ suc (at - 0) = omega arith in
    let gap : resized (suc at) [] ≡ 0 ∷ resized at [] = ap (λ (k : ℕ). replicate k 0) n ∙ ap (λ (xs : List ℕ). 0 ∷ xs ++ replicate (at - 0) 0) (sym (take_none at)) in
    let back : drop {A = ℕ} (suc at + length x) [] ≡ drop (at + length x) [] = drop_none (suc at + length x) ∙ sym (drop_none (at + length x)) in
    ap (λ (xs : List ℕ). xs ++ x ++ drop {A = ℕ} (suc at + length x) []) gap ∙ ap (λ (xs : List ℕ). 0 ∷ (resized at [] ++ x ++ xs)) back
write_later at x (b ∷ file) =
    let more : suc at + length x ≡ suc (at + length x) = omega arith in
    let gap : suc at - length (b ∷ file) ≡ at - length file = omega arith in
    ap (λ (k : ℕ). ((b ∷ take at file) ++ replicate k 0) ++ x ++ drop (suc at + length x) (b ∷ file)) gap
    ∙ ap (λ (k : ℕ). ((b ∷ take at file) ++ replicate (at - length file) 0) ++ x ++ drop k (b ∷ file)) more

no_gap : (file : List ℕ) → resized 0 file ≡ []
no_gap file = let n : 0 - length file ≡ 0 = omega arith in ap (λ (k : ℕ). replicate k 0) n

write_here : (b : ℕ) (x file : List ℕ) → overwritten 0 (b ∷ x) file ≡ b ∷ overwritten 0 x (drop 1 file)
write_here b x file =
    ap (λ (g : List ℕ). g ++ (b ∷ x) ++ drop (0 + length (b ∷ x)) file) (no_gap file)
    ∙ ap (λ (g : List ℕ). b ∷ (x ++ g)) (shorter file)
    ∙ ap (λ (g : List ℕ). b ∷ (g ++ x ++ drop (0 + length x) (drop 1 file))) (sym (no_gap (drop 1 file)))
  where
    shorter : (file : List ℕ) → drop (0 + length (b ∷ x)) file ≡ drop (0 + length x) (drop 1 file)
    shorter [] = drop_none (0 + length (b ∷ x)) ∙ sym (drop_none (0 + length x))
    shorter (c ∷ file) = let n : 0 + length (b ∷ x) ≡ suc (0 + length x) = omega arith in ap (λ (k : ℕ). drop k (c ∷ file)) n

write_none : (file : List ℕ) → overwritten 0 [] file ≡ file
write_none file = ap (λ (g : List ℕ). g ++ [] ++ drop 0 file) (no_gap file)

-- of two writes at one place the longer one stands
pub write_twice : (at : ℕ) (x y file : List ℕ) → length y ≤ length x → overwritten at x (overwritten at y file) ≡ overwritten at x file
write_twice (suc at) x y file le =
    write_later at x (overwritten (suc at) y file)
    ∙ ap (λ (g : List ℕ). get_or g 0 0 ∷ overwritten at x (drop 1 g)) (write_later at y file)
    ∙ ap (λ (g : List ℕ). get_or file 0 0 ∷ g) (write_twice at x y (drop 1 file) le)
    ∙ sym (write_later at x file)
write_twice zero x [] file le = ap (overwritten 0 x) (write_none file)
write_twice zero [] (c ∷ y) file le = absurd (omega arith)
write_twice zero (b ∷ x) (c ∷ y) file le =
    write_here b x (overwritten 0 (c ∷ y) file)
    ∙ ap (λ (g : List ℕ). b ∷ overwritten 0 x (drop 1 g)) (write_here c y file)
    ∙ ap (λ (g : List ℕ). b ∷ g) (write_twice zero x y (drop 1 file) (omega arith))
    ∙ sym (write_here b x file)

-- writes of ranges that are apart may come in either order
write_before : (p : ℕ) (x : List ℕ) (q : ℕ) (y file : List ℕ) → p + length x ≤ q → overwritten p x (overwritten q y file) ≡ overwritten q y (overwritten p x file)
write_before (suc p) x zero y file le = absurd (omega arith)
write_before (suc p) x (suc q) y file le =
    write_later p x (overwritten (suc q) y file)
    ∙ ap (λ (g : List ℕ). get_or g 0 0 ∷ overwritten p x (drop 1 g)) (write_later q y file)
    ∙ ap (λ (g : List ℕ). get_or file 0 0 ∷ g) (write_before p x q y (drop 1 file) (omega arith))
    ∙ ap (λ (g : List ℕ). get_or g 0 0 ∷ overwritten q y (drop 1 g)) (sym (write_later p x file))
    ∙ sym (write_later q y (overwritten (suc p) x file))
write_before zero [] q y file le = write_none (overwritten q y file) ∙ ap (overwritten q y) (sym (write_none file))
write_before zero (b ∷ x) zero y file le = absurd (omega arith)
write_before zero (b ∷ x) (suc q) y file le =
    write_here b x (overwritten (suc q) y file)
    ∙ ap (λ (g : List ℕ). b ∷ overwritten 0 x (drop 1 g)) (write_later q y file)
    ∙ ap (λ (g : List ℕ). b ∷ g) (write_before zero x q y (drop 1 file) (omega arith))
    ∙ ap (λ (g : List ℕ). get_or g 0 0 ∷ overwritten q y (drop 1 g)) (sym (write_here b x file))
    ∙ sym (write_later q y (overwritten 0 (b ∷ x) file))

pub write_apart : (p : ℕ) (x : List ℕ) (q : ℕ) (y file : List ℕ) → are_apart (p, p + length x) (q, q + length y) ≡ true → overwritten p x (overwritten q y file) ≡ overwritten q y (overwritten p x file)
write_apart p x q y file apart = elim (or_cases _ _ apart) [
  | inl front ↦ write_before p x q y file (leb-true _ _ front)
  | inr back ↦ sym (write_before q y p x file (leb-true _ _ back))
]
