-- The rules choose one type.
use Rattle.std.proofs.Common.{◌≡◌, ◌≢◌, inl, inr, ℕ, zero, suc, ◌+◌, ◌-◌, ◌^◌, ◌<◌, ◌≤◌, List, [], ◌∷◌, Option, Some, refl, sym, subst, ap, ◌∙◌, arith}
use Rattle.std.specs.Prelude.{Bool, true, false, nat_le, ◌&&◌, ◌==◌, if◌then◌else◌, slice_get}
use Rattle.std.proofs.lemmas.Bool.{le-leb, lt-leb, eq-eqb, ne_eqb, cases_lt}
use Rattle.myi_base.specs.Items.{Fit}
use Rattle.myi_frames.specs.declared.form.FrameKind.{FrameKind}
use Rattle.myi_frames.specs.declared.form.FrameKind.TheVariants.{Deleted, Whole, Start, Middle, End}
use Rattle.myi_frames.specs.declared.form.Form.{Form}
use Rattle.myi_frames.specs.declared.write.FrameSpec.{FrameSpec}
use Rattle.myi_frames.specs.Form.{row, forms, form_of, header_len, block_size}
use Rattle.myi_frames.specs.Sizes.{start_header, middle_header}
use Rattle.myi_frames.specs.Writing.{type_for, type_of, len_of, unused_of, widths, numbers_of, header_as, header_bytes, Allows, IsWritable}
use Rattle.myi_frames.specs.Rules.{IsChosen}
use Rattle.myi_frames.proofs.WriteLemmas.{type-fits, header-is, spec}

pub type-chosen : (f : FrameSpec) (n size : ℕ) → IsWritable f n size → IsChosen f n size (type_of f n size)
type-chosen f n size w =
    let t = type-fits f n size w in
    record { form = t.form; is = t.is; kind = t.kind; fit = t.fit; sized = t.length; short = t.short; giant = t.giant }

-- the rules, for a type whose form is this one and a block of this kind
abbrev Rules : ℕ → Form → FrameKind → Type 0
Rules t form k = (r : ℕ) (x y : Option ℕ) (n size : ℕ) → Allows k (spec k r x y) n size → Fit (widths form) (numbers_of form (spec k r x y) n size)
    → block_size k (header_len form) r (len_of k n size) (unused_of k (header_len form + n) size) ≡ size
    → (k ≢ Deleted → r ≤ 65535 → n ≤ 65535 → (form.rec_len ≤ 2) × (form.len ≤ 2)) → t ≡ type_for k r n size

whole_once : (t w u : ℕ) → ((n size : ℕ) → n < 256 ^ w → (n ≤ 65535 → w ≤ 2) → 1 + w + u + n + (size - (1 + w + u + n)) ≡ size → size - (1 + w + u + n) < 256 ^ u → t ≡ type_for Whole n n size) → Rules t (row Whole w 0 u 0 0) Whole
whole_once t w u h r x y n size a fit sized short =
    let rec = a.1 in
    let small = fit.0 in
    let rest = fit.1.1.0 in
    subst (λ k. t ≡ type_for Whole k n size) (sym rec) (h n size (omega arith) (λ m. (short (λ e. cc) (omega arith) m).0) (omega arith) (omega arith))

end_once : (t w u : ℕ) → ((r n size : ℕ) → n < 256 ^ w → (n ≤ 65535 → w ≤ 2) → 1 + w + u + n + (size - (1 + w + u + n)) ≡ size → size - (1 + w + u + n) < 256 ^ u → t ≡ type_for End r n size) → Rules t (row End 0 w u 0 0) End
end_once t w u h r x y n size a fit sized short =
    let rec = a.1 in
    let small = fit.1.0 in
    let rest = fit.1.1.0 in
    h r n size small (λ m. (short (λ e. cc) (omega arith) m).1) (omega arith) (omega arith)

start_once : (t w v : ℕ) → ((r n size : ℕ) → start_header r n + n ≡ size → 9 + w + v + n ≡ size → t ≡ type_for Start r n size) → Rules t (row Start w v 0 8 0) Start
start_once t w v h r x y n size a fit sized short = let rest = fit.1.1.0 in h r n size a.0 (omega arith)

middle_once : (t v : ℕ) → ((r n size : ℕ) → middle_header n + n ≡ size → 9 + v + n ≡ size → t ≡ type_for Middle r n size) → Rules t (row Middle 0 v 0 8 0) Middle
middle_once t v h r x y n size a fit sized short = let rest = fit.1.1.0 in h r n size a.0 (omega arith)

-- a length of three bytes is above 65,535
long_from : (n w : ℕ) → (n ≤ 65535 → w ≤ 2) → 3 ≤ w → 65535 < n
long_from n w two wide = elim (cases_lt 65535 n) [
  | inl more ↦ more
  | inr less ↦ absurd (omega (arith, two less))
]

once_0 : Rules 0 (row Deleted 0 3 0 8 8) Deleted
once_0 r x y n size a fit sized short = refl

once_1 : Rules 1 (row Whole 2 0 0 0 0) Whole
once_1 = whole_once 1 2 0 (λ n size small two sized rest.
    let s : nat_le n 65535 ≡ true = le-leb _ _ (omega arith) in
    let t : (size == 3 + n) ≡ true = eq-eqb _ _ (omega arith) in
    rw (s, t) refl)

once_2 : Rules 2 (row Whole 3 0 0 0 0) Whole
once_2 = whole_once 2 3 0 (λ n size small two sized rest.
    let s : nat_le n 65535 ≡ false = lt-leb _ _ (long_from n 3 two (omega arith)) in
    let t : (size == 4 + n) ≡ true = eq-eqb _ _ (omega arith) in
    rw (s, t) refl)

once_3 : Rules 3 (row Whole 2 0 1 0 0) Whole
once_3 = whole_once 3 2 1 (λ n size small two sized rest.
    let s : nat_le n 65535 ≡ true = le-leb _ _ (omega arith) in
    let t : (size == 3 + n) ≡ false = ne_eqb _ _ (λ e. omega arith) in
    rw (s, t) refl)

once_4 : Rules 4 (row Whole 3 0 1 0 0) Whole
once_4 = whole_once 4 3 1 (λ n size small two sized rest.
    let s : nat_le n 65535 ≡ false = lt-leb _ _ (long_from n 3 two (omega arith)) in
    let t : (size == 4 + n) ≡ false = ne_eqb _ _ (λ e. omega arith) in
    rw (s, t) refl)

once_7 : Rules 7 (row End 0 2 0 0 0) End
once_7 = end_once 7 2 0 (λ r n size small two sized rest.
    let s : nat_le n 65535 ≡ true = le-leb _ _ (omega arith) in
    let t : (size == 3 + n) ≡ true = eq-eqb _ _ (omega arith) in
    rw (s, t) refl)

once_8 : Rules 8 (row End 0 3 0 0 0) End
once_8 = end_once 8 3 0 (λ r n size small two sized rest.
    let s : nat_le n 65535 ≡ false = lt-leb _ _ (long_from n 3 two (omega arith)) in
    let t : (size == 4 + n) ≡ true = eq-eqb _ _ (omega arith) in
    rw (s, t) refl)

once_9 : Rules 9 (row End 0 2 1 0 0) End
once_9 = end_once 9 2 1 (λ r n size small two sized rest.
    let s : nat_le n 65535 ≡ true = le-leb _ _ (omega arith) in
    let t : (size == 3 + n) ≡ false = ne_eqb _ _ (λ e. omega arith) in
    rw (s, t) refl)

once_10 : Rules 10 (row End 0 3 1 0 0) End
once_10 = end_once 10 3 1 (λ r n size small two sized rest.
    let s : nat_le n 65535 ≡ false = lt-leb _ _ (long_from n 3 two (omega arith)) in
    let t : (size == 4 + n) ≡ false = ne_eqb _ _ (λ e. omega arith) in
    rw (s, t) refl)

-- the header of a start, or of a middle, says its type

abbrev header_by : Bool → Bool → ℕ
header_by giant short = if giant then 16 else (if short then 13 else 15)

abbrev number_by : Bool → Bool → ℕ
number_by giant short = if giant then 13 else (if short then 5 else 6)

by_5 : (giant short : Bool) → header_by giant short ≡ 13 → 5 ≡ number_by giant short
by_5 true short e = absurd (omega arith)
by_5 false true e = refl
by_5 false false e = absurd (omega arith)

by_6 : (giant short : Bool) → header_by giant short ≡ 15 → 6 ≡ number_by giant short
by_6 true short e = absurd (omega arith)
by_6 false true e = absurd (omega arith)
by_6 false false e = refl

by_13 : (giant short : Bool) → header_by giant short ≡ 16 → 13 ≡ number_by giant short
by_13 true short e = refl
by_13 false true e = absurd (omega arith)
by_13 false false e = absurd (omega arith)

once_5 : Rules 5 (row Start 2 2 0 8 0) Start
once_5 = start_once 5 2 2 (λ r n size header sized. by_5 (nat_le (2 ^ 24) r) (nat_le r 65535 && nat_le n 65535) (let e : start_header r n ≡ 13 = omega arith in e))

once_6 : Rules 6 (row Start 3 3 0 8 0) Start
once_6 = start_once 6 3 3 (λ r n size header sized. by_6 (nat_le (2 ^ 24) r) (nat_le r 65535 && nat_le n 65535) (let e : start_header r n ≡ 15 = omega arith in e))

once_13 : Rules 13 (row Start 4 3 0 8 0) Start
once_13 = start_once 13 4 3 (λ r n size header sized. by_13 (nat_le (2 ^ 24) r) (nat_le r 65535 && nat_le n 65535) (let e : start_header r n ≡ 16 = omega arith in e))

once_11 : Rules 11 (row Middle 0 2 0 8 0) Middle
once_11 = middle_once 11 2 (λ r n size header sized. let e : middle_header n ≡ 11 = omega arith in sym e)

once_12 : Rules 12 (row Middle 0 3 0 8 0) Middle
once_12 = middle_once 12 3 (λ r n size header sized. let e : middle_header n ≡ 12 = omega arith in sym e)

-- what holds of each row of a table by its number holds of the row at a place

abbrev AllFrom : (ℕ → Form → Type 0) → ℕ → List Form → Type 0
AllFrom P k [] = Unit {0}
AllFrom P k (f ∷ fs) = P k f × AllFrom P (k + 1) fs

row_at : (P : ℕ → Form → Type 0) (k : ℕ) (fs : List Form) → AllFrom P k fs → (t : ℕ) (f : Form) → slice_get fs t ≡ Some f → P (k + t) f
row_at P k [] all t f e = absurd cc
row_at P k (g ∷ fs) all zero f e =
    let same : g ≡ f = cc in
    let here : P k f = subst (P k) same all.0 in
    subst (λ i. P i f) (let s : k ≡ k + zero = omega arith in s) here
row_at P k (g ∷ fs) all (suc t) f e =
    subst (λ i. P i f) (let s : k + 1 + t ≡ k + suc t = omega arith in s) (row_at P (k + 1) fs all.1 t f e)

all_once : AllFrom (λ t form. Rules t form form.kind) 0 forms
all_once = (once_0, (once_1, (once_2, (once_3, (once_4, (once_5, (once_6, (once_7, (once_8, (once_9, (once_10, (once_11, (once_12, (once_13, tt))))))))))))))

rules : (t : ℕ) (form : Form) → form_of t ≡ Some form → Rules t form form.kind
unfolding form_of
rules t form is = subst (λ i. Rules i form form.kind) (let s : 0 + t ≡ t = omega arith in s) (row_at (λ t form. Rules t form form.kind) 0 forms all_once t form is)

pub type-once : (f : FrameSpec) (n size t : ℕ) → IsWritable f n size → IsChosen f n size t → t ≡ type_of f n size
type-once f n size t w c =
    let of_kind : Rules t c.form f.kind = subst (λ k. Rules t c.form k) c.kind (rules t c.form c.is) in
    of_kind f.rec_len f.next f.prev n size w.kind c.fit c.sized c.short

pub header-chosen : (f : FrameSpec) (n size t : ℕ) → IsWritable f n size → (c : IsChosen f n size t) → header_bytes f n size ≡ header_as t c.form f n size
header-chosen f n size t w c =
    let same = type-once f n size t w c in
    header-is f n size c.form (subst (λ i. form_of i ≡ Some c.form) same c.is) ∙ ap (λ i. header_as i c.form f n size) (sym same)
