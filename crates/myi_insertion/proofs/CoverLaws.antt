-- Bytes, and the ranges that have them.
use Rattle.std.proofs.Common.{◌≡◌, ◌⊎◌, ℕ, zero, suc, ◌+◌, ◌<◌, ◌≤◌, true, leb, List, [], ◌∷◌, refl, sym, ap, ◌∙◌, arith, inl, inr}
use Rattle.std.specs.List.{Contains}
use Rattle.std.proofs.lemmas.Bool.{cases_lt, lt-ltb, le-leb, or_left, or_right}
use Rattle.std.proofs.lemmas.List.Elements.{Contains-append_cases}
use Rattle.myi_base.specs.Ranges.{are_apart}
use Rattle.myi_insertion.specs.Covers.{within, cover, covers, from_end}

-- a byte that is there, and one that is not
pub within_one : (p n x : ℕ) → p ≤ x → x < p + n → within p n x ≡ 1
within_one p n x low high = rw (le-leb p x low, lt-ltb x (p + n) high) refl

-- ranges that share no byte are apart, where each has one
pub ranges_apart : (p n q l : ℕ) → 0 < n → 0 < l → ((x : ℕ) → within p n x + within q l x ≤ 1) → are_apart (p, p + n) (q, q + l) ≡ true
ranges_apart p n q l some_n some_l off =
    elim (cases_lt q (p + n)) [
      | inr before ↦ or_left (leb (p + n) q) (leb (q + l) p) (le-leb (p + n) q before)
      | inl here ↦ elim (cases_lt p (q + l)) [
        | inr behind ↦ or_right (leb (p + n) q) (leb (q + l) p) (le-leb (q + l) p behind)
        | inl there ↦ elim (cases_lt p q) [
          | inl low ↦ absurd (let a = within_one p n q (omega arith) here in let b = within_one q l q (omega arith) (omega arith) in let k = off q in omega arith)
          | inr high ↦ absurd (let a = within_one p n p (omega arith) (omega arith) in let b = within_one q l p high there in let k = off p in omega arith)
        ]
      ]
    ]

-- one of some pages has no more bytes than all
pub in_cover : (block : ℕ) (ps : List ℕ) (p x : ℕ) → Contains ps p → within p block x ≤ cover block ps x
in_cover block [] p x h = absurd (let lt = h.1 in omega arith)
in_cover block (q ∷ ps) p x h = elim (Contains-append_cases (q ∷ []) ps p h) [
  | inl here ↦ let e = only q p here in ap_le (ap (λ (t : ℕ). within t block x) e)
  | inr later ↦ let k = in_cover block ps p x later in omega arith
]
  where
    only : (q p : ℕ) → Contains (q ∷ []) p → q ≡ p
    only q p (zero, lt, is) = is
    only q p (suc k, lt, is) = absurd (omega arith)

    ap_le : within q block x ≡ within p block x → within p block x ≤ within q block x + cover block ps x
    ap_le e = omega arith

pub in_covers : (rs : List (ℕ × ℕ)) (r : ℕ × ℕ) (x : ℕ) → Contains rs r → within r.0 r.1 x ≤ covers rs x
in_covers [] r x h = absurd (let lt = h.1 in omega arith)
in_covers (s ∷ rs) r x h = elim (Contains-append_cases (s ∷ []) rs r h) [
  | inl here ↦ let e = ap (λ (t : ℕ × ℕ). within t.0 t.1 x) (only s r here) in omega arith
  | inr later ↦ let k = in_covers rs r x later in omega arith
]
  where
    only : (s r : ℕ × ℕ) → Contains (s ∷ []) r → s ≡ r
    only s r (zero, lt, is) = is
    only s r (suc k, lt, is) = absurd (omega arith)

pub only_one : {A : Type 0} (x y : A) → Contains (x ∷ []) y → x ≡ y
only_one x y (zero, lt, is) = is
only_one x y (suc k, lt, is) = absurd (omega arith)

pub no_one : {A : Type 0} (y : A) → Contains [] y → ⊥
no_one y h = let lt = h.1 in omega arith

pub first_one : {A : Type 0} (x : A) (xs : List A) → Contains (x ∷ xs) x
first_one x xs = (0, omega arith, refl)

-- of pages of which no two have a byte in common, two are the same or share none
pub two_pages : (block : ℕ) (ps : List ℕ) (p q : ℕ) → ((x : ℕ) → cover block ps x ≤ 1) → Contains ps p → Contains ps q → (p ≡ q) ⊎ ((x : ℕ) → within p block x + within q block x ≤ 1)
two_pages block [] p q one hp hq = absurd (no_one p hp)
two_pages block (r ∷ ps) p q one hp hq = elim (Contains-append_cases (r ∷ []) ps p hp) [
  | inl pe ↦ elim (Contains-append_cases (r ∷ []) ps q hq) [
    | inl qe ↦ inl (sym (only_one r p pe) ∙ only_one r q qe)
    | inr ql ↦ inr (λ x. let k = one x in let e = ap (λ (t : ℕ). within t block x) (only_one r p pe) in let l = in_cover block ps q x ql in omega arith)
  ]
  | inr pl ↦ elim (Contains-append_cases (r ∷ []) ps q hq) [
    | inl qe ↦ inr (λ x. let k = one x in let e = ap (λ (t : ℕ). within t block x) (only_one r q qe) in let l = in_cover block ps p x pl in omega arith)
    | inr ql ↦ two_pages block ps p q (λ x. let k = one x in omega arith) pl ql
  ]
]

-- of free ranges of which no two have a byte in common, two are the same or share none
pub two_ranges : (rs : List (ℕ × ℕ)) (r s : ℕ × ℕ) → ((x : ℕ) → covers rs x ≤ 1) → Contains rs r → Contains rs s → (r ≡ s) ⊎ ((x : ℕ) → within r.0 r.1 x + within s.0 s.1 x ≤ 1)
two_ranges [] r s one hr hs = absurd (no_one r hr)
two_ranges (t ∷ rs) r s one hr hs = elim (Contains-append_cases (t ∷ []) rs r hr) [
  | inl re ↦ elim (Contains-append_cases (t ∷ []) rs s hs) [
    | inl se ↦ inl (sym (only_one t r re) ∙ only_one t s se)
    | inr sl ↦ inr (λ x. let k = one x in let e = ap (λ (t : ℕ × ℕ). within t.0 t.1 x) (only_one t r re) in let l = in_covers rs s x sl in omega arith)
  ]
  | inr rl ↦ elim (Contains-append_cases (t ∷ []) rs s hs) [
    | inl se ↦ inr (λ x. let k = one x in let e = ap (λ (t : ℕ × ℕ). within t.0 t.1 x) (only_one t s se) in let l = in_covers rs r x rl in omega arith)
    | inr sl ↦ two_ranges rs r s (λ x. let k = one x in omega arith) rl sl
  ]
]

-- a page that has no byte behind the end ends before it
pub before_end : (p n end : ℕ) → 0 < n → ((x : ℕ) → within p n x + from_end end x ≤ 1) → p + n ≤ end
before_end zero zero end some off = absurd (omega arith)
before_end p n end some off = elim (cases_lt end (p + n)) [
  | inr le ↦ le
  | inl past ↦ elim (cases_lt end p) [
    | inl low ↦ absurd (let a = within_one p n p (omega arith) (omega arith) in let b : from_end end p ≡ 1 = rw (le-leb end p (omega arith)) refl in let k = off p in omega arith)
    | inr high ↦ absurd (let a = within_one p n end high past in let b : from_end end end ≡ 1 = rw (le-leb end end (omega arith)) refl in let k = off end in omega arith)
  ]
]
