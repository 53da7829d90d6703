-- What holds of each header and each block that the definitions find.
use Rattle.std.proofs.Common.{◌≡◌, ◌≢◌, ℕ, ◌+◌, ◌-◌, ◌%◌, ◌^◌, ◌<◌, ◌≤◌, ◌⊎◌, List, [], ◌∷◌, ◌++◌, length, get_or, take, drop, Option, Some, None, refl, sym, subst, ap, ◌∙◌, add-zero, arith, inl, inr}
use Rattle.std.specs.Prelude.{Bool, true, false, nat_le, ◌&&◌, ◌==◌, if◌then◌else◌, option_and_then}
use Rattle.std.specs.Option.{option_map}
use Rattle.std.proofs.lemmas.Bool.{leb-true, le-leb, eqb-true, eqb-false, eq-eqb}
use Rattle.std.proofs.lemmas.List.{take-take, drop-take, take_all, get_or-take, get_or-drop, length-take, length-take-le, length-drop}
use Rattle.myi_base.specs.Numbers.{num, num_bytes, num_at, pointer_of, AreBytes}
use Rattle.myi_base.proofs.CallerLemmas.{num-take, num-below, num-num_bytes, length-num_bytes, bytes-take, bytes-drop}
use Rattle.myi_frames.specs.declared.form.FrameKind.{FrameKind}
use Rattle.myi_frames.specs.declared.form.FrameKind.TheVariants.{Deleted, Whole, Start, Middle, End}
use Rattle.myi_frames.specs.declared.form.Form.{Form}
use Rattle.myi_frames.specs.declared.head.Header.{Header}
use Rattle.myi_frames.specs.declared.frame.Seen.{Seen}
use Rattle.myi_frames.specs.declared.frame.Seen.TheVariants as seen
use Rattle.myi_frames.specs.Seeing.{IsPartAt, shown, SeesBlock, ShowsBlock, Sees}
use Rattle.myi_frames.specs.Form.{form_of, len_at, unused_at, next_at, prev_at, header_len, data_len, block_size}
use Rattle.myi_frames.specs.Block.{Block, link_of, read_header, is_place, if_placed, header_of, block_by, block_of, head_of, IsPlace, OfKind, Stands, IsPointer, IsBounded}
use Rattle.myi_frames.proofs.FormLemmas.{both_true, below_width, OfWidths, form-widths, form-narrow, form-known, data-inside, data-short}

-- ---- headers

pub place_test : (at size len : ℕ) → is_place at size len ≡ true → IsPlace at size len
place_test at size len e =
    let a = both_true ((at % 4 == 0) && (size % 4 == 0) && nat_le 20 size) (nat_le (at + size) len) e in
    let b = both_true ((at % 4 == 0) && (size % 4 == 0)) (nat_le 20 size) a.0 in
    let c = both_true (at % 4 == 0) (size % 4 == 0) b.0 in
    record { aligned = eqb-true _ _ c.0; multiple = eqb-true _ _ c.1; least = leb-true _ _ b.1; inside = leb-true _ _ a.1 }

pub test_place : (at size len : ℕ) → IsPlace at size len → is_place at size len ≡ true
test_place at size len p =
    let a : (at % 4 == 0) ≡ true = eq-eqb _ _ p.aligned in
    let b : (size % 4 == 0) ≡ true = eq-eqb _ _ p.multiple in
    let c : nat_le 20 size ≡ true = le-leb _ _ p.least in
    let d : nat_le (at + size) len ≡ true = le-leb _ _ p.inside in
    rw (a, b, c, d) refl

-- a header that is found, and the form in which it was read
pub record Read (bytes : List ℕ) (at len : ℕ) (h : Header) : Type 0 where
  pub form : Form
  pub is : form_of (get_or bytes 0 0) ≡ Some form
  pub header : read_header bytes at form ≡ h
  pub place : IsPlace at h.head.size len

placed : (bytes : List ℕ) (at len : ℕ) (f : Form) (h : Header) → form_of (get_or bytes 0 0) ≡ Some f → (b : Bool) → is_place at (read_header bytes at f).head.size len ≡ b → (if b then Some (read_header bytes at f) else None) ≡ Some h → Read bytes at len h
placed bytes at len f h is true e found =
    let same : read_header bytes at f ≡ h = cc in
    record { form = f; is = is; header = same; place = subst (λ (x : Header). IsPlace at x.head.size len) same (place_test at (read_header bytes at f).head.size len e) }
placed bytes at len f h is false e found = absurd cc

by_form : (bytes : List ℕ) (at len : ℕ) (h : Header) (o : Option Form) → form_of (get_or bytes 0 0) ≡ o → option_and_then (λ f. if_placed len (read_header bytes at f)) o ≡ Some h → Read bytes at len h
by_form bytes at len h None is found = absurd cc
by_form bytes at len h (Some f) is found = placed bytes at len f h is (is_place at (read_header bytes at f).head.size len) refl found

pub header-read : (bytes : List ℕ) (at len : ℕ) (h : Header) → header_of bytes at len ≡ Some h → Read bytes at len h
unfolding header_of
header-read bytes at len h found = by_form bytes at len h (form_of (get_or bytes 0 0)) refl found

pub header-found : (bytes : List ℕ) (at len : ℕ) (f : Form) → form_of (get_or bytes 0 0) ≡ Some f → IsPlace at (read_header bytes at f).head.size len → header_of bytes at len ≡ Some (read_header bytes at f)
unfolding header_of
header-found bytes at len f is place =
    let test : is_place at (read_header bytes at f).head.size len ≡ true = test_place at (read_header bytes at f).head.size len place in
    rw (is, test) refl

pub read-inside : (bytes : List ℕ) (at len : ℕ) (h : Header) → Read bytes at len h → (h.start + h.data_len ≤ h.head.size) × (h.data_len + 3 ≤ h.head.size) × (h.start ≤ 20)
read-inside bytes at len h r =
    let narrow = form-narrow (get_or bytes 0 0) r.form r.is in
    let P : Header → Type 0 = λ x. 20 ≤ x.head.size → (x.start + x.data_len ≤ x.head.size) × (x.data_len + 3 ≤ x.head.size) × (x.start ≤ 20) in
    let here : P (read_header bytes at r.form) = λ least. (data-inside r.form.kind (header_len r.form) _ _ _ narrow.header least, data-short r.form.kind (header_len r.form) _ _ _ narrow.long least, narrow.header) in
    subst P r.header here r.place.least

-- ---- the first twenty bytes decide the header

pub take_inside : (n : ℕ) (xs : List ℕ) (i w : ℕ) → i + w ≤ n → take w (drop i (take n xs)) ≡ take w (drop i xs)
take_inside n xs i w h =
    let m = n - i in
    let e : n ≡ i + m = omega arith in
    let le : w ≤ m = omega arith in
    rw (e, drop-take i m xs, take-take w m (drop i xs) le) refl

num_at-take : (n : ℕ) (xs : List ℕ) (i w : ℕ) → i + w ≤ n → num_at i w (take n xs) ≡ num_at i w xs
num_at-take n xs i w h =
    let m = n - i in
    let e : n ≡ i + m = omega arith in
    let moved : drop i (take n xs) ≡ take m (drop i xs) = ap (λ (k : ℕ). drop i (take k xs)) e ∙ drop-take i m xs in
    ap (num w) moved ∙ num-take w m (drop i xs) (omega arith)

read_header-take : (n : ℕ) (xs : List ℕ) (at : ℕ) (f : Form) → header_len f ≤ n → read_header (take n xs) at f ≡ read_header xs at f
read_header-take n xs at f h =
    let a = num_at-take n xs 1 f.rec_len (omega arith) in
    let b = num_at-take n xs (len_at f) f.len (omega arith) in
    let c = num_at-take n xs (unused_at f) f.unused (omega arith) in
    let d = num_at-take n xs (next_at f) f.next (omega arith) in
    let e = num_at-take n xs (prev_at f) f.prev (omega arith) in
    rw (a, b, c, d, e) refl

-- a header stays where the first twenty bytes stay and the block lies in the file
pub header-kept : (n : ℕ) (xs ys : List ℕ) (at len more : ℕ) (h : Header) → 20 ≤ n → take n xs ≡ take n ys → at + h.head.size ≤ more → header_of xs at len ≡ Some h → header_of ys at more ≡ Some h
header-kept n xs ys at len more h long same inside found =
    let r = header-read xs at len h found in
    let narrow = form-narrow (get_or xs 0 0) r.form r.is in
    let first : get_or xs 0 0 ≡ get_or ys 0 0 =
    sym (get_or-take n xs 0 0 (omega arith)) ∙ ap (λ (x : List ℕ). get_or x 0 0) same ∙ get_or-take n ys 0 0 (omega arith) in
    let header : read_header ys at r.form ≡ h =
    sym (read_header-take n ys at r.form (omega (arith, narrow.header))) ∙ ap (λ (x : List ℕ). read_header x at r.form) (sym same) ∙ read_header-take n xs at r.form (omega (arith, narrow.header)) ∙ r.header in
    let place : IsPlace at h.head.size more = record { aligned = r.place.aligned; multiple = r.place.multiple; least = r.place.least; inside = inside } in
    let is : form_of (get_or ys 0 0) ≡ Some r.form = ap form_of (sym first) ∙ r.is in
    header-found ys at more r.form is (subst (λ (x : Header). IsPlace at x.head.size more) (sym header) place) ∙ ap (λ (x : Header). Some x) header

-- ---- blocks

-- a block that is found, and its header
pub record Found (d : List ℕ) (p : ℕ) (b : Block) : Type 0 where
  pub header : Header
  pub is : header_of (drop p d) p (length d) ≡ Some header
  pub block : block_by (drop p d) header ≡ b

by_header : (d : List ℕ) (p : ℕ) (b : Block) (o : Option Header) → header_of (drop p d) p (length d) ≡ o → option_map (block_by (drop p d)) o ≡ Some b → Found d p b
by_header d p b None is found = absurd cc
by_header d p b (Some h) is found = record { header = h; is = is; block = cc }

pub block-found : (d : List ℕ) (p : ℕ) (b : Block) → block_of d p ≡ Some b → Found d p b
unfolding block_of
block-found d p b found = by_header d p b (header_of (drop p d) p (length d)) refl found

pub found-block : (d : List ℕ) (p : ℕ) (h : Header) → header_of (drop p d) p (length d) ≡ Some h → block_of d p ≡ Some (block_by (drop p d) h)
unfolding block_of
found-block d p h is = rw is refl

same_data : (n : ℕ) (xs ys : List ℕ) (h : Header) → take n xs ≡ take n ys → h.start + h.data_len ≤ n → block_by xs h ≡ block_by ys h
same_data n xs ys h e le =
    let P : List ℕ → Block = λ x. record { kind = h.head.kind; at = h.head.at; size = h.head.size; rec_len = h.head.rec_len; next = h.head.next; prev = h.head.prev; bytes = x } in
    ap P (sym (take_inside n xs h.start h.data_len le) ∙ ap (λ (x : List ℕ). take h.data_len (drop h.start x)) e ∙ take_inside n ys h.start h.data_len le)

-- a block depends on its own bytes alone
pub block-own : (d e : List ℕ) (p : ℕ) (b : Block) → take b.size (drop p e) ≡ take b.size (drop p d) → block_of d p ≡ Some b → block_of e p ≡ Some b
block-own d e p b same here =
    let q = block-found d p b here in
    let h : Header = q.header in
    let r = header-read (drop p d) p (length d) h q.is in
    let size : h.head.size ≡ b.size = ap (λ (x : Block). x.size) q.block in
    let in_d : p + b.size ≤ length d = omega (arith, r.place.inside) in
    let least : 20 ≤ b.size = omega (arith, r.place.least) in
    let full : length (take b.size (drop p d)) ≡ b.size = length-take-le b.size (drop p d) (omega (arith, length-drop p d)) in
    let long : b.size ≤ length (drop p e) = omega (arith, full, ap (λ (x : List ℕ). length x) same, length-take b.size (drop p e)) in
    let in_e : p + h.head.size ≤ length e = omega (arith, length-drop p e) in
    let found : header_of (drop p e) p (length e) ≡ Some h = header-kept b.size (drop p d) (drop p e) p (length d) (length e) h least (sym same) in_e q.is in
    let content = same_data b.size (drop p d) (drop p e) h (sym same) (omega (arith, (read-inside (drop p d) p (length d) h r).0)) in
    found-block e p h found ∙ ap (λ (x : Block). Some x) (sym content ∙ q.block)

num-none : (x : List ℕ) → num 0 x ≡ 0
num-none x = ap (λ (y : List ℕ). num 0 y) (empty x) ∙ num-num_bytes 0 0 x (omega arith)
  where
    open_list : (y x : List ℕ) → length y ≡ 0 → x ≡ y ++ x
    open_list [] x e = refl
    open_list (b ∷ y) x e = absurd (omega arith)

    empty : (x : List ℕ) → x ≡ num_bytes 0 0 ++ x
    empty x = open_list (num_bytes 0 0) x (length-num_bytes 0 0)

-- ---- what holds of every block

-- a header that a form of this kind gives
abbrev header_in : FrameKind → Form → List ℕ → ℕ → Header
header_in k f bytes at = record {
  head = record {
    kind = k;
    at = at;
    size = block_size k (header_len f) (num_at 1 f.rec_len bytes) (num_at (len_at f) f.len bytes) (num_at (unused_at f) f.unused bytes);
    rec_len = num_at 1 f.rec_len bytes;
    next = link_of f.next (num_at (next_at f) f.next bytes);
    prev = link_of f.prev (num_at (prev_at f) f.prev bytes);
  };
  start = header_len f;
  data_len = data_len k (num_at 1 f.rec_len bytes) (num_at (len_at f) f.len bytes);
}

pub no_number : (at w : ℕ) (bytes : List ℕ) → w ≡ 0 → num_at at w bytes ≡ 0
no_number at w bytes e = ap (λ (n : ℕ). num_at at n bytes) e ∙ num-none (drop at bytes)

no_link : (w n : ℕ) → w ≡ 0 → link_of w n ≡ None
no_link w n e = rw e refl

kind-kept : (k : FrameKind) (f : Form) (bytes : List ℕ) (at : ℕ) → OfWidths k f → header_len f + data_len k (num_at 1 f.rec_len bytes) (num_at (len_at f) f.len bytes) ≤ length bytes → OfKind k (block_by bytes (header_in k f bytes at))
kind-kept Deleted f bytes at w inside = (refl, no_number 1 f.rec_len bytes w)
kind-kept Whole f bytes at w inside =
    let n = num_at 1 f.rec_len bytes in
    (sym (length-take-le n (drop (header_len f) bytes) (omega (arith, length-drop (header_len f) bytes))), no_link f.next _ w.1, no_link f.prev _ w.2)
kind-kept Start f bytes at w inside = no_link f.prev _ w.0
kind-kept Middle f bytes at w inside = (no_number 1 f.rec_len bytes w.0, no_link f.prev _ w.1)
kind-kept End f bytes at w inside = (no_number 1 f.rec_len bytes w.0, no_link f.next _ w.1, no_link f.prev _ w.2)

read-kind : (bytes : List ℕ) (at len : ℕ) (h : Header) → Read bytes at len h → h.head.size ≤ length bytes → OfKind h.head.kind (block_by bytes h)
read-kind bytes at len h r long =
    let P : Header → Type 0 = λ x. x.start + x.data_len ≤ length bytes → OfKind x.head.kind (block_by bytes x) in
    let here : P (read_header bytes at r.form) = λ inside. kind-kept r.form.kind r.form bytes at (form-widths (get_or bytes 0 0) r.form r.is) inside in
    subst P r.header here (omega (arith, (read-inside bytes at len h r).0))

pub block-stands : (d : List ℕ) (p : ℕ) (b : Block) → block_of d p ≡ Some b → Stands d p b
block-stands d p b here =
    let q = block-found d p b here in
    let h : Header = q.header in
    let r = header-read (drop p d) p (length d) h q.is in
    let inside = read-inside (drop p d) p (length d) h r in
    let at : h.head.at ≡ p = subst (λ (x : Header). x.head.at ≡ p) r.header refl in
    let rest = length-drop p d in
    let some : 20 ≤ h.head.size = r.place.least in
    let stop : p + h.head.size ≤ length d = r.place.inside in
    let long : length (take h.data_len (drop h.start (drop p d))) ≡ h.data_len = length-take-le h.data_len (drop h.start (drop p d)) (omega (arith, inside.0, length-drop h.start (drop p d))) in
    let kind = read-kind (drop p d) p (length d) h r (omega arith) in
    let made : Stands d p (block_by (drop p d) h) = record {
      at = at;
      aligned = r.place.aligned;
      multiple = r.place.multiple;
      least = r.place.least;
      inside = r.place.inside;
      room = omega (arith, inside.1);
      kind = kind;
    } in
    subst (λ (x : Block). Stands d p x) q.block made

-- ---- where no block starts

no_block : (d : List ℕ) (p : ℕ) → ((b : Block) → block_of d p ≡ Some b → ⊥) → block_of d p ≡ None
no_block d p refuted = by_cases (block_of d p) refl
  where
    by_cases : (o : Option Block) → block_of d p ≡ o → o ≡ None
    by_cases None e = refl
    by_cases (Some b) e = absurd (refuted b e)

pub block-short : (d : List ℕ) (p : ℕ) → length d < p + 20 → block_of d p ≡ None
block-short d p short = no_block d p (λ b here. let s = block-stands d p b here in let l = s.least in let i = s.inside in omega arith)

pub block-unaligned : (d : List ℕ) (p : ℕ) → p % 4 ≢ 0 → block_of d p ≡ None
block-unaligned d p odd = no_block d p (λ b here. odd (block-stands d p b here).aligned)

pub block-unknown : (d : List ℕ) (p : ℕ) → 13 < get_or d p 0 → block_of d p ≡ None
block-unknown d p high =
    no_block d p (λ b here.
    let q = block-found d p b here in
    let r = header-read (drop p d) p (length d) q.header q.is in
    let same : get_or (drop p d) 0 0 ≡ get_or d p 0 = get_or-drop p d 0 0 ∙ ap (λ (k : ℕ). get_or d k 0) (add-zero p) in
    let known = form-known (get_or (drop p d) 0 0) r.form r.is in
    omega arith)

pub block-none : (d e : List ℕ) (p : ℕ) → block_of d p ≡ None → take 20 (drop p e) ≡ take 20 (drop p d) → length e ≤ length d → block_of e p ≡ None
block-none d e p none same le =
    no_block e p (λ b here.
    let q = block-found e p b here in
    let h : Header = q.header in
    let r = header-read (drop p e) p (length e) h q.is in
    let stop = r.place.inside in
    let found = header-kept 20 (drop p e) (drop p d) p (length e) (length d) h (omega arith) same (omega arith) q.is in
    cc (found-block d p h found, none))

-- ---- the numbers of a block in a file of bytes

pub number-below : (at w k : ℕ) (bytes : List ℕ) → AreBytes bytes → w ≤ k → num_at at w bytes < 256 ^ k
number-below at w k bytes are h = below_width w k (num_at at w bytes) h (num-below w (drop at bytes) (bytes-drop at bytes are))

pub link-below : (w n : ℕ) → n < 256 ^ 8 → IsPointer (link_of w n)
link-below w n small = by_width (w == 0)
  where
    by_number : (b : Bool) → (n == 2 ^ 64 - 1) ≡ b → IsPointer (if b then None else Some n)
    by_number true e = tt
    by_number false e = let other = eqb-false _ _ e in omega arith

    by_width : (b : Bool) → IsPointer (if b then None else pointer_of n)
    by_width true = tt
    by_width false = by_number (n == 2 ^ 64 - 1) refl

size-below : (k : FrameKind) (header rec_len len unused : ℕ) → header ≤ 20 → (k ≡ Whole → rec_len < 256 ^ 3) → len < 256 ^ 3 → unused < 256 ^ 1 → (block_size k header rec_len len unused < 2 ^ 24 + 275) × (data_len k rec_len len < 2 ^ 24)
size-below Deleted header rec_len len unused short whole l u = (omega arith, omega arith)
size-below Whole header rec_len len unused short whole l u = let r = whole refl in (omega arith, omega arith)
size-below Start header rec_len len unused short whole l u = (omega arith, omega arith)
size-below Middle header rec_len len unused short whole l u = (omega arith, omega arith)
size-below End header rec_len len unused short whole l u = (omega arith, omega arith)

pub block-bounded : (d : List ℕ) (p : ℕ) (b : Block) → AreBytes d → block_of d p ≡ Some b → IsBounded b
block-bounded d p b are here =
    let q = block-found d p b here in
    let r = header-read (drop p d) p (length d) q.header q.is in
    let f = r.form in
    let x = drop p d in
    let bytes : AreBytes x = bytes-drop p d are in
    let narrow = form-narrow (get_or x 0 0) f r.is in
    let both = size-below f.kind (header_len f) (num_at 1 f.rec_len x) (num_at (len_at f) f.len x) (num_at (unused_at f) f.unused x) narrow.header (λ e. number-below 1 f.rec_len 3 x bytes (narrow.whole e)) (number-below (len_at f) f.len 3 x bytes narrow.len) (number-below (unused_at f) f.unused 1 x bytes narrow.unused) in
    let P : Header → Type 0 = λ h. IsBounded (block_by x h) in
    let made : P (read_header x p f) = record {
      size = both.0;
      bytes = omega (arith, both.1, length-take (data_len f.kind (num_at 1 f.rec_len x) (num_at (len_at f) f.len x)) (drop (header_len f) x));
      rec_len = number-below 1 f.rec_len 4 x bytes narrow.rec_len;
      next = link-below f.next (num_at (next_at f) f.next x) (number-below (next_at f) f.next 8 x bytes narrow.next);
      prev = link-below f.prev (num_at (prev_at f) f.prev x) (number-below (prev_at f) f.prev 8 x bytes narrow.prev);
    } in
    subst IsBounded q.block (subst P r.header made)

pub block-bytes : (d : List ℕ) (p : ℕ) (b : Block) → AreBytes d → block_of d p ≡ Some b → AreBytes b.bytes
block-bytes d p b are here =
    let q = block-found d p b here in
    let h : Header = q.header in
    let part : AreBytes (take h.data_len (drop h.start (drop p d))) = bytes-take h.data_len (drop h.start (drop p d)) (bytes-drop h.start (drop p d) (bytes-drop p d are)) in
    subst (λ (x : Block). AreBytes x.bytes) q.block part

-- ---- what the bytes at hand show is what the file has

same_option : {X : Type 0} (a b : Option X) → ((x : X) → a ≡ Some x → b ≡ Some x) → ((x : X) → b ≡ Some x → a ≡ Some x) → a ≡ b
same_option None None f g = refl
same_option None (Some y) f g = g y refl
same_option (Some x) b f g = sym (f x refl)

header-take : (n : ℕ) (xs : List ℕ) (at len : ℕ) → 20 ≤ n → header_of (take n xs) at len ≡ header_of xs at len
header-take n xs at len long =
    let same : take 20 (take n xs) ≡ take 20 xs = take-take 20 n xs long in
    same_option (header_of (take n xs) at len) (header_of xs at len)
    (λ h e. header-kept 20 (take n xs) xs at len len h (omega arith) same ((header-read (take n xs) at len h e).place.inside) e)
    (λ h e. header-kept 20 xs (take n xs) at len len h (omega arith) (sym same) ((header-read xs at len h e).place.inside) e)

pub header-part : (bytes d : List ℕ) (at : ℕ) → (20 ≤ length bytes) ⊎ (length d ≤ at + length bytes) → IsPartAt at bytes d → header_of bytes at (length d) ≡ header_of (drop at d) at (length d)
header-part bytes d at (inl long) part =
    ap (λ (x : List ℕ). header_of x at (length d)) part ∙ header-take (length bytes) (drop at d) at (length d) long
header-part bytes d at (inr all) part =
    ap (λ (x : List ℕ). header_of x at (length d)) (part ∙ take_all (length bytes) (drop at d) (omega (arith, length-drop at d)))

seen_in : (r : Seen) (bytes rest : List ℕ) (h : Option Header) → ((x : Header) → h ≡ Some x → x.start + x.data_len ≤ x.head.size) → bytes ≡ take (length bytes) rest → Sees r bytes h → SeesBlock r (length bytes) (option_map (block_by rest) h)
seen_in seen.Nothing bytes rest h inside front s = rw s refl
seen_in (seen.Longer size) bytes rest None inside front s = s
seen_in (seen.Longer size) bytes rest (Some h) inside front s = s
seen_in (seen.Frame f) bytes rest None inside front s = absurd s
seen_in (seen.Frame f) bytes rest (Some h) inside front s =
    let same : take (length bytes) bytes ≡ take (length bytes) rest = take_all (length bytes) bytes (omega arith) ∙ front in
    let blocks : block_by bytes h ≡ block_by rest h = same_data (length bytes) bytes rest h same (omega (arith, inside h refl, s.0)) in
    let size : f.size ≡ h.head.size = ap (λ (x : Block). x.size) s.1 in
    (ap (λ (b : Block). Some b) (sym (s.1 ∙ blocks)), omega (arith, s.0))

pub seen-block : (r : Seen) (bytes d : List ℕ) (at : ℕ) → (20 ≤ length bytes) ⊎ (length d ≤ at + length bytes) → IsPartAt at bytes d → Sees r bytes (header_of bytes at (length d)) → SeesBlock r (length bytes) (block_of d at)
unfolding block_of
seen-block r bytes d at window part s =
    let e = header-part bytes d at window part in
    seen_in r bytes (drop at d) (header_of (drop at d) at (length d))
    (λ x e. (read-inside (drop at d) at (length d) x (header-read (drop at d) at (length d) x e)).0) part (rw (← e) s)

pub head-block : (bytes d : List ℕ) (at : ℕ) → (20 ≤ length bytes) ⊎ (length d ≤ at + length bytes) → IsPartAt at bytes d → option_map (λ h. h.head) (header_of bytes at (length d)) ≡ option_map head_of (block_of d at)
unfolding block_of
head-block bytes d at window part =
    let e = header-part bytes d at window part in
    rw e (mapped (drop at d) (header_of (drop at d) at (length d)))
  where
    mapped : (x : List ℕ) (o : Option Header) → option_map (λ h. h.head) o ≡ option_map head_of (option_map (block_by x) o)
    mapped x None = refl
    mapped x (Some h) = refl

-- ---- what is seen is decided

pub seen-nothing : (r : Seen) (n : ℕ) → SeesBlock r n None → r ≡ seen.Nothing
seen-nothing seen.Nothing n s = refl
seen-nothing (seen.Longer size) n s = absurd s
seen-nothing (seen.Frame f) n s = absurd cc

pub seen-longer : (r : Seen) (n : ℕ) (b : Block) → SeesBlock r n (Some b) → n < b.size → r ≡ seen.Longer b.size
seen-longer seen.Nothing n b s less = absurd cc
seen-longer (seen.Longer size) n b s less = ap seen.Longer (sym s.0)
seen-longer (seen.Frame f) n b s less =
    let same : b ≡ shown f = cc in
    let size : b.size ≡ f.size = ap (λ (x : Block). x.size) same in
    absurd (omega (arith, s.1))

pub seen-whole : (r : Seen) (n : ℕ) (b : Block) → SeesBlock r n (Some b) → b.size ≤ n → ShowsBlock r b
seen-whole seen.Nothing n b s all = absurd cc
seen-whole (seen.Longer size) n b s all = absurd (omega (arith, s.0, s.1))
seen-whole (seen.Frame f) n b s all = let same : b ≡ shown f = cc in sym same
