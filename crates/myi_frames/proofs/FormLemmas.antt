-- What the table of types keeps.
use Rattle.std.proofs.Common.{inl, inr, ◌≡◌, ℕ, zero, suc, ◌+◌, ◌^◌, ◌<◌, ◌≤◌, List, [], ◌∷◌, Some, refl, subst, arith, lit≤}
use Rattle.std.specs.Prelude.{Bool, true, false, nat_le, ◌&&◌, if◌then◌else◌, slice_get}
use Rattle.std.specs.List.{AllByRecursion, list_all}
use Rattle.std.proofs.Math.Nat.{pow-le-pow_right}
use Rattle.std.proofs.lemmas.Bool.{leb-true, leb-false, cases_lt}
use Rattle.std.proofs.lemmas.Option.{slice_get_past}
use Rattle.myi_frames.specs.declared.form.FrameKind.{FrameKind}
use Rattle.myi_frames.specs.declared.form.FrameKind.TheVariants.{Deleted, Whole, Start, Middle, End}
use Rattle.myi_frames.specs.declared.form.Form.{Form}
use Rattle.myi_frames.specs.Sizes.{row_header}
use Rattle.myi_frames.specs.Form.{forms, form_of, header_len, IsNarrow, data_len, block_size}

pub below_width : (w k n : ℕ) → w ≤ k → n < 256 ^ w → n < 256 ^ k
below_width w k n h lt =
    let p : 256 ^ w ≤ 256 ^ k = pow-le-pow_right (omega arith) h in omega arith

pub both_true : (a b : Bool) → (a && b) ≡ true → (a ≡ true) × (b ≡ true)
both_true true b e = (refl, e)
both_true false b e = absurd cc

-- what holds of each row of a table holds of the row at a place
pub row_holds : (P : Form → Type 0) (fs : List Form) → AllByRecursion P fs → (t : ℕ) (f : Form) → slice_get fs t ≡ Some f → P f
row_holds P [] all t f e = absurd cc
row_holds P (x ∷ xs) all zero f e = let same : x ≡ f = cc in subst P same all.0
row_holds P (x ∷ xs) all (suc t) f e = row_holds P xs all.1 t f e

-- the widths that the kind decides
abbrev pub OfWidths : FrameKind → Form → Type 0
OfWidths Deleted f = f.rec_len ≡ 0
OfWidths Whole f = (f.rec_len ≤ 3) × (f.next ≡ 0) × (f.prev ≡ 0)
OfWidths Start f = (f.prev ≡ 0) × (f.unused ≡ 0) × (f.next ≡ 8) × (2 ≤ f.rec_len) × (2 ≤ f.len) × (3 ≤ f.rec_len → 3 ≤ f.len)
OfWidths Middle f = (f.rec_len ≡ 0) × (f.prev ≡ 0) × (f.unused ≡ 0) × (f.next ≡ 8) × (2 ≤ f.len)
OfWidths End f = (f.rec_len ≡ 0) × (f.next ≡ 0) × (f.prev ≡ 0)

pub form-widths : (t : ℕ) (f : Form) → form_of t ≡ Some f → OfWidths f.kind f
unfolding form_of
form-widths t f e = row_holds (λ f. OfWidths f.kind f) forms all t f e
  where
    all : AllByRecursion (λ f. OfWidths f.kind f) forms
    all = (
      refl,
      (
        (lit≤ tt, refl, refl),
        (
          (lit≤ tt, refl, refl),
          (
            (lit≤ tt, refl, refl),
            (
              (lit≤ tt, refl, refl),
              (
                (refl, refl, refl, lit≤ tt, lit≤ tt, λ h. h),
                (
                  (refl, refl, refl, lit≤ tt, lit≤ tt, λ h. h),
                  (
                    (refl, refl, refl),
                    (
                      (refl, refl, refl),
                      (
                        (refl, refl, refl),
                        (
                          (refl, refl, refl),
                          (
                            (refl, refl, refl, refl, lit≤ tt),
                            (
                              (refl, refl, refl, refl, lit≤ tt),
                              ((refl, refl, refl, lit≤ tt, lit≤ tt, λ h. lit≤ tt), tt),
                            ),
                          ),
                        ),
                      ),
                    ),
                  ),
                ),
              ),
            ),
          ),
        ),
      ),
    )

abbrev are_narrow : Form → Bool
are_narrow f = nat_le f.rec_len 4 && (nat_le f.len 3 && (nat_le f.unused 1 && (nat_le f.next 8 && (nat_le f.prev 8 && (nat_le (header_len f) 20 && nat_le 3 (header_len f))))))

test_holds : (fs : List Form) → list_all are_narrow fs ≡ true → (t : ℕ) (f : Form) → slice_get fs t ≡ Some f → are_narrow f ≡ true
test_holds [] all t f e = absurd cc
test_holds (x ∷ xs) all zero f e =
    let same : x ≡ f = cc in rw (← same) (both_true (are_narrow x) (list_all are_narrow xs) all).0
test_holds (x ∷ xs) all (suc t) f e =
    test_holds xs (both_true (are_narrow x) (list_all are_narrow xs) all).1 t f e

whole_narrow : (k : FrameKind) (f : Form) → OfWidths k f → k ≡ Whole → f.rec_len ≤ 3
whole_narrow Deleted f w e = absurd cc
whole_narrow Whole f w e = w.0
whole_narrow Start f w e = absurd cc
whole_narrow Middle f w e = absurd cc
whole_narrow End f w e = absurd cc

pub form-narrow : (t : ℕ) (f : Form) → form_of t ≡ Some f → IsNarrow f
unfolding form_of
form-narrow t f e =
    let a = both_true _ _ (test_holds forms refl t f e) in
    let b = both_true _ _ a.1 in
    let c = both_true _ _ b.1 in
    let d = both_true _ _ c.1 in
    let g = both_true _ _ d.1 in
    let h = both_true _ _ g.1 in
    record {
      rec_len = leb-true _ _ a.0;
      len = leb-true _ _ b.0;
      unused = leb-true _ _ c.0;
      next = leb-true _ _ d.0;
      prev = leb-true _ _ g.0;
      header = leb-true _ _ h.0;
      long = leb-true _ _ h.1;
      whole = whole_narrow f.kind f (form-widths t f e);
    }

-- the header and the row bytes lie in the block
pub data-inside : (k : FrameKind) (header rec_len len unused : ℕ) → header ≤ 20 → 20 ≤ block_size k header rec_len len unused → header + data_len k rec_len len ≤ block_size k header rec_len len unused
data-inside Deleted header rec_len len unused short least = omega arith
data-inside Whole header rec_len len unused short least = omega arith
data-inside Start header rec_len len unused short least = omega arith
data-inside Middle header rec_len len unused short least = omega arith
data-inside End header rec_len len unused short least = omega arith

-- a number that does not fit w bytes has more than w
pub width-more : (v w n : ℕ) → n < 256 ^ v → 256 ^ w ≤ n → w < v
width-more v w n small large = elim (cases_lt w v) [
  | inl more ↦ more
  | inr less ↦ absurd (omega (arith, below_width v w n less small))
]

pub width-wide : (w n : ℕ) → n < 256 ^ w → 65536 ≤ n → 3 ≤ w
width-wide w n small large = omega (arith, width-more w 2 n small (omega arith))

-- the block has room for a header of the least length and its row bytes
pub data-room : (k : FrameKind) (header rl ll rec_len len unused : ℕ) → 3 ≤ header → 1 + rl + ll ≤ header → rec_len < 256 ^ rl → len < 256 ^ ll → 20 ≤ block_size k header rec_len len unused → row_header (data_len k rec_len len) + data_len k rec_len len ≤ block_size k header rec_len len unused
data-room k header rl ll rec_len len unused long wide r l least = by_kind k least
  where
    held : (w n rest : ℕ) → n < 256 ^ w → 1 + w ≤ header → (b : Bool) → nat_le n 65535 ≡ b → (if b then 3 else 4) + n ≤ header + n + rest
    held w n rest small w_in true e = omega arith
    held w n rest small w_in false e = omega (arith, width-wide w n small (omega (arith, leb-false _ _ e)))

    by_kind : (k : FrameKind) → 20 ≤ block_size k header rec_len len unused → row_header (data_len k rec_len len) + data_len k rec_len len ≤ block_size k header rec_len len unused
    by_kind Deleted least = omega arith
    by_kind Whole least = held rl rec_len unused r (omega arith) (nat_le rec_len 65535) refl
    by_kind Start least = held ll len unused l (omega arith) (nat_le len 65535) refl
    by_kind Middle least = held ll len unused l (omega arith) (nat_le len 65535) refl
    by_kind End least = held ll len unused l (omega arith) (nat_le len 65535) refl

-- and for three bytes more than the row bytes, whatever the numbers
pub data-short : (k : FrameKind) (header rec_len len unused : ℕ) → 3 ≤ header → 20 ≤ block_size k header rec_len len unused → data_len k rec_len len + 3 ≤ block_size k header rec_len len unused
data-short Deleted header rec_len len unused long least = omega arith
data-short Whole header rec_len len unused long least = omega arith
data-short Start header rec_len len unused long least = omega arith
data-short Middle header rec_len len unused long least = omega arith
data-short End header rec_len len unused long least = omega arith

-- no type is above 13
pub form-known : (t : ℕ) (f : Form) → form_of t ≡ Some f → t ≤ 13
unfolding form_of
form-known t f e = elim (cases_lt t 14) [
  | inl less ↦ omega arith
  | inr more ↦ absurd (cc (slice_get_past forms t more, e))
]
