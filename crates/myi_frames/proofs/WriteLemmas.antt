-- The type that a writer chooses, and that the block that is written is read again.
use Rattle.std.proofs.Common.{◌≡◌, ◌≢◌, ℕ, zero, suc, ◌+◌, ◌-◌, ◌%◌, ◌^◌, ◌<◌, ◌≤◌, List, [], ◌∷◌, ◌++◌, length, take, drop, replicate, Option, Some, None, refl, sym, subst, ap, ◌∙◌, arith, lit<, append_assoc, length-append}
use Rattle.std.specs.Prelude.{Bool, true, false, nat_le, ◌&&◌, ◌==◌, if◌then◌else◌}
use Rattle.std.proofs.lemmas.Bool.{leb-true, leb-false, le-leb, eqb-true, eqb-false}
use Rattle.std.proofs.lemmas.List.{drop_at, take_at, length-replicate, take_all}
use Rattle.myi_base.specs.Numbers.{num_at, num_bytes, pointer_of, pointer_number, AreBytes}
use Rattle.myi_base.specs.Items.{numbers, spelling, Fit}
use Rattle.myi_base.specs.Holding.{overwritten}
use Rattle.myi_base.proofs.CallerLemmas.{bytes-num_bytes}
use Rattle.myi_base.proofs.CallerLemmas.{numbers-spelling, length-spelling, length-num_bytes}
use Rattle.std.specs.Option.{option_map_or}
use Rattle.myi_frames.specs.declared.form.FrameKind.{FrameKind}
use Rattle.myi_frames.specs.declared.form.FrameKind.TheVariants.{Deleted, Whole, Start, Middle, End}
use Rattle.myi_frames.specs.declared.form.Form.{Form}
use Rattle.myi_frames.specs.declared.head.Header.{Header}
use Rattle.myi_frames.specs.declared.write.FrameSpec.{FrameSpec}
use Rattle.myi_frames.specs.Form.{row, form_of, len_at, unused_at, next_at, prev_at, header_len, data_len, block_size}
use Rattle.myi_frames.specs.Block.{link_of, read_header, header_of, block_of, IsPlace, IsPointer}
use Rattle.myi_frames.specs.Writing.{type_for, type_of, len_of, unused_of, link_number, widths, numbers_of, header_as, header_bytes, block_bytes, written_block, deleted_spec, deleted_head, HasRoom, Allows, IsWritable}
use Rattle.myi_frames.proofs.FormLemmas.{both_true, form-known}
use Rattle.myi_frames.specs.declared.frame.Seen.{Seen}
use Rattle.myi_frames.specs.Seeing.{SeesBlock, ShowsBlock}
use Rattle.myi_frames.proofs.BlockLemmas.{seen-whole, header-found, found-block}
use Rattle.myi_frames.proofs.FileLemmas.{length-overwritten, drop-overwritten}

-- ---- the type that a writer chooses

-- a type whose header has room for the numbers of the block, and gives its size
pub record FitsType (t : ℕ) (f : FrameSpec) (n size : ℕ) : Type 0 where
  pub form : Form
  pub is : form_of t ≡ Some form
  pub kind : form.kind ≡ f.kind
  pub fit : Fit (widths form) (numbers_of form f n size)
  pub room : header_len form + n ≤ size
  pub short : f.kind ≢ Deleted → f.rec_len ≤ 65535 → n ≤ 65535 → (form.rec_len ≤ 2) × (form.len ≤ 2)
  pub giant : 4 ≤ form.rec_len → 2 ^ 24 ≤ f.rec_len
  pub length : block_size f.kind (header_len form) f.rec_len (len_of f.kind n size) (unused_of f.kind (header_len form + n) size) ≡ size
  pub held : data_len f.kind f.rec_len (len_of f.kind n size) ≡ n
  pub next : link_of form.next (link_number form.next f.next) ≡ f.next
  pub prev : link_of form.prev (link_number form.prev f.prev) ≡ f.prev

abbrev pub spec : FrameKind → ℕ → Option ℕ → Option ℕ → FrameSpec
spec k r x y = record { kind = k; rec_len = r; next = x; prev = y }

type_0 : form_of 0 ≡ Some (row Deleted 0 3 0 8 8)
unfolding form_of
type_0 = refl

type_1 : form_of 1 ≡ Some (row Whole 2 0 0 0 0)
unfolding form_of
type_1 = refl

type_2 : form_of 2 ≡ Some (row Whole 3 0 0 0 0)
unfolding form_of
type_2 = refl

type_3 : form_of 3 ≡ Some (row Whole 2 0 1 0 0)
unfolding form_of
type_3 = refl

type_4 : form_of 4 ≡ Some (row Whole 3 0 1 0 0)
unfolding form_of
type_4 = refl

type_5 : form_of 5 ≡ Some (row Start 2 2 0 8 0)
unfolding form_of
type_5 = refl

type_6 : form_of 6 ≡ Some (row Start 3 3 0 8 0)
unfolding form_of
type_6 = refl

type_7 : form_of 7 ≡ Some (row End 0 2 0 0 0)
unfolding form_of
type_7 = refl

type_8 : form_of 8 ≡ Some (row End 0 3 0 0 0)
unfolding form_of
type_8 = refl

type_9 : form_of 9 ≡ Some (row End 0 2 1 0 0)
unfolding form_of
type_9 = refl

type_10 : form_of 10 ≡ Some (row End 0 3 1 0 0)
unfolding form_of
type_10 = refl

type_11 : form_of 11 ≡ Some (row Middle 0 2 0 8 0)
unfolding form_of
type_11 = refl

type_12 : form_of 12 ≡ Some (row Middle 0 3 0 8 0)
unfolding form_of
type_12 = refl

type_13 : form_of 13 ≡ Some (row Start 4 3 0 8 0)
unfolding form_of
type_13 = refl

-- a pointer of eight bytes

pointer-below : (o : Option ℕ) → IsPointer o → pointer_number o < 256 ^ 8
pointer-below None p = lit< tt
pointer-below (Some n) p = omega arith

pointer-again : (o : Option ℕ) → IsPointer o → pointer_of (pointer_number o) ≡ o
pointer-again None p = refl
pointer-again (Some n) p = by_test (n == 2 ^ 64 - 1) refl
  where
    by_test : (b : Bool) → (n == 2 ^ 64 - 1) ≡ b → (if b then None else Some n) ≡ Some n
    by_test true e = let same = eqb-true _ _ e in absurd (omega arith)
    by_test false e = refl

choose_deleted : (r : ℕ) (x y : Option ℕ) (n size : ℕ) → 20 ≤ size → IsPointer x → IsPointer y → Allows Deleted (spec Deleted r x y) n size → FitsType 0 (spec Deleted r x y) n size
choose_deleted r x y n size least px py a = let rec = a.1 in let none = a.0 in let most = a.2 in record {
  form = row Deleted 0 3 0 8 8;
  is = type_0;
  kind = refl;
  fit = (omega arith, (omega arith, (lit< tt, (pointer-below x px, (pointer-below y py, tt)))));
  room = omega arith;
  short = λ other r m. absurd (other refl);
  giant = λ h. absurd (omega arith);
  length = refl;
  held = sym none;
  next = pointer-again x px;
  prev = pointer-again y py;
}

choose_whole : (r : ℕ) (x y : Option ℕ) (n size : ℕ) → n < 2 ^ 24 → Allows Whole (spec Whole r x y) n size → FitsType (type_for Whole r n size) (spec Whole r x y) n size
choose_whole r x y n size few a = by_length (nat_le n 65535) refl a.0
  where
    form_fits : (t w u : ℕ) → form_of t ≡ Some (row Whole w 0 u 0 0) → n < 256 ^ w → w ≤ 3 → (n ≤ 65535 → w ≤ 2) → 1 + w + u + n ≤ size → size - (1 + w + u + n) < 256 ^ u → FitsType t (spec Whole r x y) n size
    form_fits t w u is small narrow two room rest = let rec = a.1 in record {
      form = row Whole w 0 u 0 0;
      is = is;
      kind = refl;
      short = λ other few m. (two m, omega arith);
      giant = λ h. absurd (omega arith);
      fit = (omega arith, (lit< tt, (subst (λ k. size - k < 256 ^ u) (let e : 1 + w + u + n ≡ 1 + w + 0 + u + 0 + 0 + n = omega arith in e) rest, (lit< tt, (lit< tt, tt)))));
      room = omega arith;
      length = omega arith;
      held = rec;
      next = sym a.2;
      prev = sym a.3;
    }

    short_form : (b : Bool) → (size == 3 + n) ≡ b → n < 65536 → HasRoom 3 n size → FitsType (if b then 1 else 3) (spec Whole r x y) n size
    short_form true e small h = let same = eqb-true _ _ e in form_fits 1 2 0 type_1 (omega arith) (omega arith) (λ m. omega arith) (omega arith) (omega arith)
    short_form false e small h = let other = eqb-false _ _ e in let room = h.room in let most = h.few in form_fits 3 2 1 type_3 (omega arith) (omega arith) (λ m. omega arith) (omega arith) (omega arith)

    long_form : (b : Bool) → (size == 4 + n) ≡ b → 65535 < n → HasRoom 4 n size → FitsType (if b then 2 else 4) (spec Whole r x y) n size
    long_form true e large h = let same = eqb-true _ _ e in form_fits 2 3 0 type_2 (omega arith) (omega arith) (λ m. absurd (omega arith)) (omega arith) (omega arith)
    long_form false e large h = let other = eqb-false _ _ e in let room = h.room in let most = h.few in form_fits 4 3 1 type_4 (omega arith) (omega arith) (λ m. absurd (omega arith)) (omega arith) (omega arith)

    by_length : (b : Bool) → nat_le n 65535 ≡ b → HasRoom (if b then 3 else 4) n size → FitsType (if b then (if size == 3 + n then 1 else 3) else (if size == 4 + n then 2 else 4)) (spec Whole r x y) n size
    by_length true e h = short_form (size == 3 + n) refl (omega (arith, leb-true _ _ e)) h
    by_length false e h = long_form (size == 4 + n) refl (leb-false _ _ e) h

choose_end : (r : ℕ) (x y : Option ℕ) (n size : ℕ) → n < 2 ^ 24 → Allows End (spec End r x y) n size → FitsType (type_for End r n size) (spec End r x y) n size
choose_end r x y n size few a = by_length (nat_le n 65535) refl a.0
  where
    form_fits : (t w u : ℕ) → form_of t ≡ Some (row End 0 w u 0 0) → n < 256 ^ w → (n ≤ 65535 → w ≤ 2) → 1 + w + u + n ≤ size → size - (1 + w + u + n) < 256 ^ u → FitsType t (spec End r x y) n size
    form_fits t w u is small two room rest = let rec = a.1 in record {
      form = row End 0 w u 0 0;
      is = is;
      kind = refl;
      short = λ other few m. (omega arith, two m);
      giant = λ h. absurd (omega arith);
      fit = (omega arith, (small, (subst (λ k. size - k < 256 ^ u) (let e : 1 + w + u + n ≡ 1 + 0 + w + u + 0 + 0 + n = omega arith in e) rest, (lit< tt, (lit< tt, tt)))));
      room = omega arith;
      length = omega arith;
      held = refl;
      next = sym a.2;
      prev = sym a.3;
    }

    short_form : (b : Bool) → (size == 3 + n) ≡ b → n < 65536 → HasRoom 3 n size → FitsType (if b then 7 else 9) (spec End r x y) n size
    short_form true e small h = let same = eqb-true _ _ e in form_fits 7 2 0 type_7 (omega arith) (λ m. omega arith) (omega arith) (omega arith)
    short_form false e small h = let other = eqb-false _ _ e in let room = h.room in let most = h.few in form_fits 9 2 1 type_9 (omega arith) (λ m. omega arith) (omega arith) (omega arith)

    long_form : (b : Bool) → (size == 4 + n) ≡ b → 65535 < n → HasRoom 4 n size → FitsType (if b then 8 else 10) (spec End r x y) n size
    long_form true e large h = let same = eqb-true _ _ e in form_fits 8 3 0 type_8 (omega arith) (λ m. absurd (omega arith)) (omega arith) (omega arith)
    long_form false e large h = let other = eqb-false _ _ e in let room = h.room in let most = h.few in form_fits 10 3 1 type_10 (omega arith) (λ m. absurd (omega arith)) (omega arith) (omega arith)

    by_length : (b : Bool) → nat_le n 65535 ≡ b → HasRoom (if b then 3 else 4) n size → FitsType (if b then (if size == 3 + n then 7 else 9) else (if size == 4 + n then 8 else 10)) (spec End r x y) n size
    by_length true e h = short_form (size == 3 + n) refl (omega (arith, leb-true _ _ e)) h
    by_length false e h = long_form (size == 4 + n) refl (leb-false _ _ e) h

choose_start : (r : ℕ) (x y : Option ℕ) (n size : ℕ) → n < 2 ^ 24 → IsPointer x → Allows Start (spec Start r x y) n size → FitsType (type_for Start r n size) (spec Start r x y) n size
choose_start r x y n size few px a = by_giant (nat_le (2 ^ 24) r) refl a.0
  where
    form_fits : (t w v : ℕ) → form_of t ≡ Some (row Start w v 0 8 0) → r < 256 ^ w → n < 256 ^ v → (r ≤ 65535 → n ≤ 65535 → (w ≤ 2) × (v ≤ 2)) → (4 ≤ w → 2 ^ 24 ≤ r) → 1 + w + v + 8 + n ≡ size → FitsType t (spec Start r x y) n size
    form_fits t w v is small short two four long = record {
      form = row Start w v 0 8 0;
      is = is;
      kind = refl;
      short = λ other few m. two few m;
      giant = four;
      fit = (small, (short, (omega arith, (pointer-below x px, (lit< tt, tt)))));
      room = omega arith;
      length = omega arith;
      held = refl;
      next = pointer-again x px;
      prev = sym a.2;
    }

    both_false : r ≤ 65535 → n ≤ 65535 → (nat_le r 65535 && nat_le n 65535) ≡ false → ⊥
    both_false few m e =
        let s : nat_le r 65535 ≡ true = le-leb _ _ few in
        let t : nat_le n 65535 ≡ true = le-leb _ _ m in
        let is : (nat_le r 65535 && nat_le n 65535) ≡ true = rw (s, t) refl in
        cc (is, e)

    by_length : (b : Bool) → (nat_le r 65535 && nat_le n 65535) ≡ b → r < 2 ^ 24 → (if b then 13 else 15) + n ≡ size → FitsType (if b then 5 else 6) (spec Start r x y) n size
    by_length true e small long =
        let both = both_true (nat_le r 65535) (nat_le n 65535) e in
        form_fits 5 2 2 type_5 (omega (arith, leb-true _ _ both.0)) (omega (arith, leb-true _ _ both.1)) (λ few m. (omega arith, omega arith)) (λ h. absurd (omega arith)) (omega arith)
    by_length false e small long =
        form_fits 6 3 3 type_6 (omega arith) (omega arith) (λ few m. absurd (both_false few m e)) (λ h. absurd (omega arith)) (omega arith)

    by_giant : (b : Bool) → nat_le (2 ^ 24) r ≡ b → (if b then 16 else (if nat_le r 65535 && nat_le n 65535 then 13 else 15)) + n ≡ size → FitsType (if b then 13 else (if nat_le r 65535 && nat_le n 65535 then 5 else 6)) (spec Start r x y) n size
    by_giant true e long = let most = a.1 in form_fits 13 4 3 type_13 (omega arith) (omega arith) (λ few m. absurd (omega (arith, leb-true _ _ e))) (λ h. leb-true _ _ e) (omega arith)
    by_giant false e long = by_length (nat_le r 65535 && nat_le n 65535) refl (leb-false _ _ e) long

choose_middle : (r : ℕ) (x y : Option ℕ) (n size : ℕ) → n < 2 ^ 24 → IsPointer x → Allows Middle (spec Middle r x y) n size → FitsType (type_for Middle r n size) (spec Middle r x y) n size
choose_middle r x y n size few px a = by_length (nat_le n 65535) refl a.0
  where
    form_fits : (t v : ℕ) → form_of t ≡ Some (row Middle 0 v 0 8 0) → n < 256 ^ v → (n ≤ 65535 → v ≤ 2) → 1 + v + 8 + n ≡ size → FitsType t (spec Middle r x y) n size
    form_fits t v is short two long = let rec = a.1 in record {
      form = row Middle 0 v 0 8 0;
      is = is;
      kind = refl;
      short = λ other few m. (omega arith, two m);
      giant = λ h. absurd (omega arith);
      fit = (omega arith, (short, (omega arith, (pointer-below x px, (lit< tt, tt)))));
      room = omega arith;
      length = omega arith;
      held = refl;
      next = pointer-again x px;
      prev = sym a.2;
    }

    by_length : (b : Bool) → nat_le n 65535 ≡ b → (if b then 11 else 12) + n ≡ size → FitsType (if b then 11 else 12) (spec Middle r x y) n size
    by_length true e long = form_fits 11 2 type_11 (omega (arith, leb-true _ _ e)) (λ m. omega arith) (omega arith)
    by_length false e long = form_fits 12 3 type_12 (omega arith) (λ m. absurd (omega (arith, leb-false _ _ e))) (omega arith)

choose : (k : FrameKind) (r : ℕ) (x y : Option ℕ) (n size : ℕ) → 20 ≤ size → n < 2 ^ 24 → IsPointer x → IsPointer y → Allows k (spec k r x y) n size → FitsType (type_for k r n size) (spec k r x y) n size
choose Deleted r x y n size least few px py a = choose_deleted r x y n size least px py a
choose Whole r x y n size least few px py a = choose_whole r x y n size few a
choose Start r x y n size least few px py a = choose_start r x y n size few px a
choose Middle r x y n size least few px py a = choose_middle r x y n size few px a
choose End r x y n size least few px py a = choose_end r x y n size few a

pub type-fits : (f : FrameSpec) (n size : ℕ) → IsWritable f n size → FitsType (type_of f n size) f n size
type-fits f n size w = choose f.kind f.rec_len f.next f.prev n size w.least w.few w.next w.prev w.kind

pub deleted-fits : (size : ℕ) (next prev : Option ℕ) → 20 ≤ size → size < 2 ^ 24 → IsPointer next → IsPointer prev → FitsType 0 (deleted_spec next prev) 0 size
deleted-fits size next prev least most px py = choose_deleted 0 next prev 0 size least px py (refl, refl, most)

-- the form of a type is the one that fits
pub form-fits : (t : ℕ) (f : FrameSpec) (n size : ℕ) (form : Form) → FitsType t f n size → form_of t ≡ Some form → Fit (widths form) (numbers_of form f n size) × (header_len form + n ≤ size)
form-fits t f n size form w is =
    let same : w.form ≡ form = cc (w.is, is) in
    let P : Form → Type 0 = λ x. Fit (widths x) (numbers_of x f n size) × (header_len x + n ≤ size) in
    subst P same (w.fit, w.room)

-- ---- what is written is read

abbrev header_with : FrameSpec → ℕ → ℕ → ℕ → ℕ → Header
header_with f at size n start = record {
  head = record { kind = f.kind; at = at; size = size; rec_len = f.rec_len; next = f.next; prev = f.prev };
  start = start;
  data_len = n;
}

numbers-read : (t : ℕ) (form : Form) (a b c d e : ℕ) (rest : List ℕ) → Fit (widths form) (a ∷ b ∷ c ∷ d ∷ e ∷ []) → numbers 1 (widths form) (t ∷ (spelling (widths form) (a ∷ b ∷ c ∷ d ∷ e ∷ []) ++ rest)) ≡ a ∷ b ∷ c ∷ d ∷ e ∷ []
numbers-read t form a b c d e rest fit =
    numbers-spelling 1 (widths form) (a ∷ b ∷ c ∷ d ∷ e ∷ []) (t ∷ []) rest refl fit

read_by : (form : Form) (bytes : List ℕ) (at a b c d e : ℕ) → numbers 1 (widths form) bytes ≡ a ∷ b ∷ c ∷ d ∷ e ∷ []
    → read_header bytes at form ≡ record {
      head = record { kind = form.kind; at = at; size = block_size form.kind (header_len form) a b c; rec_len = a; next = link_of form.next d; prev = link_of form.prev e };
      start = header_len form;
      data_len = data_len form.kind a b;
    }
read_by form bytes at a b c d e all =
    let e0 : num_at 1 form.rec_len bytes ≡ a = cc in
    let e1 : num_at (len_at form) form.len bytes ≡ b = cc in
    let e2 : num_at (unused_at form) form.unused bytes ≡ c = cc in
    let e3 : num_at (next_at form) form.next bytes ≡ d = cc in
    let e4 : num_at (prev_at form) form.prev bytes ≡ e = cc in
    rw (e0, e1, e2, e3, e4) refl

header-again : (t : ℕ) (f : FrameSpec) (n size at : ℕ) (rest : List ℕ) (w : FitsType t f n size) → read_header (header_as t w.form f n size ++ rest) at w.form ≡ header_with f at size n (header_len w.form)
header-again t f n size at rest w =
    let form = w.form in
    let kind = w.kind in
    let long = w.length in
    let held = w.held in
    let next = w.next in
    let prev = w.prev in
    read_by form (header_as t form f n size ++ rest) at f.rec_len (len_of f.kind n size) (unused_of f.kind (header_len form + n) size) (link_number form.next f.next) (link_number form.prev f.prev)
    (numbers-read t form f.rec_len (len_of f.kind n size) (unused_of f.kind (header_len form + n) size) (link_number form.next f.next) (link_number form.prev f.prev) rest w.fit)
    ∙ rw (kind, long, held, next, prev) refl

pub header-is : (f : FrameSpec) (n size : ℕ) (form : Form) → form_of (type_of f n size) ≡ Some form → header_bytes f n size ≡ header_as (type_of f n size) form f n size
unfolding header_bytes
header-is f n size form is = rw is refl

length-header_as : (t : ℕ) (form : Form) (f : FrameSpec) (n size : ℕ) → Fit (widths form) (numbers_of form f n size) → length (header_as t form f n size) ≡ header_len form
length-header_as t form f n size fit = let e = length-spelling (widths form) (numbers_of form f n size) fit in omega arith

pub length-header : (f : FrameSpec) (n size : ℕ) (w : FitsType (type_of f n size) f n size) → length (header_bytes f n size) ≡ header_len w.form
length-header f n size w =
    ap (λ (x : List ℕ). length x) (header-is f n size w.form w.is) ∙ length-header_as (type_of f n size) w.form f n size w.fit

header-stands : (f : FrameSpec) (n size at len : ℕ) (rest : List ℕ) → FitsType (type_of f n size) f n size → IsPlace at size len → header_of (header_bytes f n size ++ rest) at len ≡ Some (header_with f at size n (length (header_bytes f n size)))
header-stands f n size at len rest w place =
    let t = type_of f n size in
    let form = w.form in
    let bytes : List ℕ = header_as t form f n size ++ rest in
    let again : read_header bytes at form ≡ header_with f at size n (header_len form) = header-again t f n size at rest w in
    let found : header_of bytes at len ≡ Some (read_header bytes at form) = header-found bytes at len form w.is (subst (λ (h : Header). IsPlace at h.head.size len) (sym again) place) in
    ap (λ (x : List ℕ). header_of (x ++ rest) at len) (header-is f n size form w.is) ∙ found ∙ ap (λ (h : Header). Some h) again ∙ ap (λ (k : ℕ). Some (header_with f at size n k)) (sym (length-header f n size w))

-- a block stands where its header and its row bytes stand
pub block-written : (d : List ℕ) (f : FrameSpec) (size at : ℕ) (content tail : List ℕ) → drop at d ≡ header_bytes f (length content) size ++ (content ++ tail) → FitsType (type_of f (length content) size) f (length content) size → IsPlace at size (length d) → block_of d at ≡ Some (written_block f at size content)
block-written d f size at content tail from w place =
    let n = length content in
    let head = header_bytes f n size in
    let h = header_with f at size n (length head) in
    let found : header_of (drop at d) at (length d) ≡ Some h = ap (λ (x : List ℕ). header_of x at (length d)) from ∙ header-stands f n size at (length d) (content ++ tail) w place in
    let behind : drop (length head) (drop at d) ≡ content ++ tail = ap (λ (x : List ℕ). drop (length head) x) from ∙ drop_at head (content ++ tail) (length head) refl in
    let held : take n (drop (length head) (drop at d)) ≡ content = ap (λ (x : List ℕ). take n x) behind ∙ take_at content tail n refl in
    found-block d at h found ∙ ap (λ (x : List ℕ). Some (written_block f at size x)) held

pub length-block : (f : FrameSpec) (content : List ℕ) (size : ℕ) → IsWritable f (length content) size → length (block_bytes f content size) ≡ size
unfolding block_bytes
length-block f content size w =
    let n = length content in
    let fits = type-fits f n size w in
    let head = header_bytes f n size in
    let start = length-header f n size fits in
    let room = fits.room in
    omega (arith, length-append head (content ++ replicate (size - (length head + n)) 0), length-append content (replicate (size - (length head + n)) 0), length-replicate {A = ℕ} (size - (length head + n)) 0)

-- whatever place it names

length-spelled : (ws vs us : List ℕ) → length vs ≡ length us → length (spelling ws vs) ≡ length (spelling ws us)
length-spelled [] vs us same = refl
length-spelled (w ∷ ws) [] [] same = refl
length-spelled (w ∷ ws) [] (u ∷ us) same = absurd (omega arith)
length-spelled (w ∷ ws) (v ∷ vs) [] same = absurd (omega arith)
length-spelled (w ∷ ws) (v ∷ vs) (u ∷ us) same =
    let rest : length (spelling ws vs) ≡ length (spelling ws us) = length-spelled ws vs us (omega arith) in
    omega (arith, rest, length-append (num_bytes w v) (spelling ws vs), length-append (num_bytes w u) (spelling ws us), length-num_bytes w v, length-num_bytes w u)

length-naming : (f : FrameSpec) (next : Option ℕ) (n size : ℕ) → length (header_bytes (record f { next = next }) n size) ≡ length (header_bytes f n size)
unfolding header_bytes
length-naming f next n size = by_form (form_of (type_of f n size))
  where
    by_form : (o : Option Form) → length (option_map_or (λ (form : Form). header_as (type_of f n size) form (record f { next = next }) n size) o []) ≡ length (option_map_or (λ (form : Form). header_as (type_of f n size) form f n size) o [])
    by_form None = refl
    by_form (Some form) = ap suc (length-spelled (widths form) (numbers_of form (record f { next = next }) n size) (numbers_of form f n size) refl)

pub length-block-naming : (f : FrameSpec) (next : Option ℕ) (content : List ℕ) (size : ℕ) → IsWritable f (length content) size → length (block_bytes (record f { next = next }) content size) ≡ size
unfolding block_bytes
length-block-naming f next content size w =
    let n = length content in
    let fits = type-fits f n size w in
    let head = header_bytes (record f { next = next }) n size in
    let start : length head ≡ header_len fits.form = length-naming f next n size ∙ length-header f n size fits in
    let room = fits.room in
    omega (arith, length-append head (content ++ replicate (size - (length head + n)) 0), length-append content (replicate (size - (length head + n)) 0), length-replicate {A = ℕ} (size - (length head + n)) 0)

parts : (f : FrameSpec) (content back : List ℕ) (size : ℕ) → block_bytes f content size ++ back ≡ header_bytes f (length content) size ++ (content ++ (replicate (size - (length (header_bytes f (length content) size) + length content)) 0 ++ back))
unfolding block_bytes
parts f content back size = simp append_assoc

pub block-joined : (f : FrameSpec) (content front back : List ℕ) (size : ℕ) → IsWritable f (length content) size → length front % 4 ≡ 0 → block_of (front ++ (block_bytes f content size ++ back)) (length front) ≡ Some (written_block f (length front) size content)
block-joined f content front back size w aligned =
    let n = length content in
    let long = length-block f content size w in
    let all : List ℕ = front ++ (block_bytes f content size ++ back) in
    let whole : length all ≡ length front + size + length back = omega (arith, length-append front (block_bytes f content size ++ back), length-append (block_bytes f content size) back, long) in
    let place : IsPlace (length front) size (length all) = record { aligned = aligned; multiple = w.multiple; least = w.least; inside = omega arith } in
    block-written all f size (length front) content _ (drop_at front (block_bytes f content size ++ back) (length front) refl ∙ parts f content back size) (type-fits f n size w) place

pub block-overwritten : (f : FrameSpec) (content d : List ℕ) (at size : ℕ) → IsWritable f (length content) size → at % 4 ≡ 0 → block_of (overwritten at (block_bytes f content size) d) at ≡ Some (written_block f at size content)
block-overwritten f content d at size w aligned =
    let n = length content in
    let bytes = block_bytes f content size in
    let long = length-block f content size w in
    let whole = length-overwritten at bytes d in
    let place : IsPlace at size (length (overwritten at bytes d)) = record { aligned = aligned; multiple = w.multiple; least = w.least; inside = omega arith } in
    block-written (overwritten at bytes d) f size at content _ (drop-overwritten at bytes d ∙ parts f content (drop (at + length bytes) d) size) (type-fits f n size w) place

pub deleted-overwritten : (size at : ℕ) (next prev : Option ℕ) (d : List ℕ) → size < 2 ^ 24 → IsPointer next → IsPointer prev → IsPlace at size (length d) → block_of (overwritten at (deleted_head size next prev) d) at ≡ Some (written_block (deleted_spec next prev) at size [])
unfolding deleted_head
deleted-overwritten size at next prev d most px py place =
    let head = header_bytes (deleted_spec next prev) 0 size in
    let w = deleted-fits size next prev place.least most px py in
    let whole = length-overwritten at head d in
    let there : IsPlace at size (length (overwritten at head d)) = record { aligned = place.aligned; multiple = place.multiple; least = place.least; inside = omega (arith, place.inside) } in
    block-written (overwritten at head d) (deleted_spec next prev) size at [] (drop (at + length head) d) (drop-overwritten at head d) w there

pub deleted-form : (form : Form) → form_of 0 ≡ Some form → header_len form ≡ 20
deleted-form form is =
    let same : row Deleted 0 3 0 8 8 ≡ form = cc (type_0, is) in
    ap header_len (sym same)

pub deleted-is : (size : ℕ) (next prev : Option ℕ) (form : Form) (bytes : List ℕ) → form_of 0 ≡ Some form → length bytes ≡ 20 → take (header_len form) bytes ≡ header_as 0 form (deleted_spec next prev) 0 size → bytes ≡ deleted_head size next prev
unfolding deleted_head
deleted-is size next prev form bytes is long put =
    sym (take_all (header_len form) bytes (omega (arith, deleted-form form is))) ∙ put ∙ sym (header-is (deleted_spec next prev) 0 size form is)

pub length-deleted_head : (size : ℕ) (next prev : Option ℕ) → 20 ≤ size → size < 2 ^ 24 → IsPointer next → IsPointer prev → length (deleted_head size next prev) ≡ 20
unfolding deleted_head
length-deleted_head size next prev least most px py =
    let w = deleted-fits size next prev least most px py in
    length-header (deleted_spec next prev) 0 size w ∙ deleted-form w.form w.is

-- ---- what is written is bytes

bytes-cons : (t : ℕ) (x : List ℕ) → t < 256 → AreBytes x → AreBytes (t ∷ x)
bytes-cons t x small are zero = small
bytes-cons t x small are (suc i) = are i

bytes-append : (x y : List ℕ) → AreBytes x → AreBytes y → AreBytes (x ++ y)
bytes-append [] y left right i = right i
bytes-append (b ∷ x) y left right zero = left zero
bytes-append (b ∷ x) y left right (suc i) = bytes-append x y (λ j. left (suc j)) right i

bytes-zeros : (n : ℕ) → AreBytes (replicate n 0)
bytes-zeros zero i = lit< tt
bytes-zeros (suc n) zero = lit< tt
bytes-zeros (suc n) (suc i) = bytes-zeros n i

bytes-spelling : (ws vs : List ℕ) → AreBytes (spelling ws vs)
bytes-spelling [] vs i = lit< tt
bytes-spelling (w ∷ ws) [] i = lit< tt
bytes-spelling (w ∷ ws) (v ∷ vs) i =
    bytes-append (num_bytes w v) (spelling ws vs) (bytes-num_bytes w v) (bytes-spelling ws vs) i

bytes-header : (f : FrameSpec) (n size : ℕ) (w : FitsType (type_of f n size) f n size) → AreBytes (header_bytes f n size)
bytes-header f n size w =
    subst AreBytes (sym (header-is f n size w.form w.is)) (bytes-cons (type_of f n size) (spelling (widths w.form) (numbers_of w.form f n size)) (omega (arith, form-known (type_of f n size) w.form w.is)) (bytes-spelling (widths w.form) (numbers_of w.form f n size)))

pub bytes-block : (f : FrameSpec) (content : List ℕ) (size : ℕ) → IsWritable f (length content) size → AreBytes content → AreBytes (block_bytes f content size)
unfolding block_bytes
bytes-block f content size w are =
    let n = length content in
    let unused = size - (length (header_bytes f n size) + n) in
    bytes-append (header_bytes f n size) (content ++ replicate unused 0) (bytes-header f n size (type-fits f n size w)) (bytes-append content (replicate unused 0) are (bytes-zeros unused))

pub bytes-deleted_head : (size : ℕ) (next prev : Option ℕ) → 20 ≤ size → size < 2 ^ 24 → IsPointer next → IsPointer prev → AreBytes (deleted_head size next prev)
unfolding deleted_head
bytes-deleted_head size next prev least most px py =
    bytes-header (deleted_spec next prev) 0 size (deleted-fits size next prev least most px py)

-- ---- what is written is seen

pub block-seen : (f : FrameSpec) (content front back : List ℕ) (size n : ℕ) (r : Seen) → IsWritable f (length content) size → length front % 4 ≡ 0 → size ≤ n → SeesBlock r n (block_of (front ++ (block_bytes f content size ++ back)) (length front)) → ShowsBlock r (written_block f (length front) size content)
block-seen f content front back size n r w aligned all s =
    let b = written_block f (length front) size content in
    let here : SeesBlock r n (Some b) = subst (SeesBlock r n) (block-joined f content front back size w aligned) s in
    seen-whole r n b here all
