-- Which sizes blocks have for their row bytes.
use Rattle.std.proofs.Common.{◌≡◌, ◌⊎◌, inl, inr, ℕ, ◌+◌, ◌-◌, ◌%◌, ◌^◌, ◌<◌, ◌≤◌, List, [], ◌∷◌, length, get_or, drop, Option, Some, refl, sym, subst, ap, ◌∙◌, arith}
use Rattle.std.specs.Prelude.{Bool, true, false, nat_le, ◌&&◌, if◌then◌else◌, max}
use Rattle.std.specs.List.{AllByRecursion}
use Rattle.std.specs.Int.{next_multiple_of}
use Rattle.std.proofs.lemmas.Bool.{leb-true, leb-false, le-leb, lt-leb, cases_lt}
use Rattle.std.proofs.lemmas.List.{length-take-le, length-drop}
use Rattle.std.proofs.lemmas.List.Sums.{sum_by-cons}
use Rattle.myi_base.specs.Numbers.{num_at, AreBytes}
use Rattle.myi_base.proofs.CallerLemmas.{bytes-drop}
use Rattle.myi_frames.specs.declared.form.FrameKind.{FrameKind}
use Rattle.myi_frames.specs.declared.form.FrameKind.TheVariants.{Deleted, Whole, Start, Middle, End}
use Rattle.myi_frames.specs.declared.form.Form.{Form}
use Rattle.myi_frames.specs.declared.head.Header.{Header}
use Rattle.myi_frames.specs.declared.write.FrameSpec.{FrameSpec}
use Rattle.myi_frames.specs.Form.{form_of, len_at, unused_at, header_len, data_len, block_size}
use Rattle.myi_frames.specs.Block.{Block, read_header, block_by, block_of, IsPlace, IsPointer}
use Rattle.myi_frames.specs.Sizes.{row_header, start_header, middle_header, least_size, start_room, middle_room, IsSized, held_bytes, total_size}
use Rattle.myi_frames.specs.Writing.{HasRoom, Allows, IsWritable, whole_spec, end_spec, start_spec, middle_spec}
use Rattle.myi_frames.proofs.FormLemmas.{below_width, width-wide, width-more, OfWidths, form-widths, form-narrow, data-room}
use Rattle.myi_frames.proofs.BlockLemmas.{header-read, read-inside, block-found, number-below, no_number}

-- ---- the least size

header-small : (n : ℕ) → (3 ≤ row_header n) × (row_header n ≤ 4)
header-small n = by_length (nat_le n 65535)
  where
    by_length : (b : Bool) → (3 ≤ (if b then 3 else 4)) × ((if b then 3 else 4) ≤ 4)
    by_length true = (omega arith, omega arith)
    by_length false = (omega arith, omega arith)

size-bounds : (h n : ℕ) → (20 ≤ max 20 (next_multiple_of (h + n) 4)) × (max 20 (next_multiple_of (h + n) 4) % 4 ≡ 0) × (h + n ≤ max 20 (next_multiple_of (h + n) 4))
size-bounds h n = (omega arith, omega arith, omega arith)

least-bounds : (n : ℕ) → (20 ≤ least_size n) × (least_size n % 4 ≡ 0) × (row_header n + n ≤ least_size n) × (least_size n < row_header n + n + 20)
unfolding least_size
least-bounds n = let b = size-bounds (row_header n) n in (b.0, b.1, b.2, few (row_header n) (header-small n).0)
  where
    few : (h : ℕ) → 3 ≤ h → max 20 (next_multiple_of (h + n) 4) < h + n + 20
    few h some = omega arith

pub least-sized : (n : ℕ) → IsSized n (least_size n)
least-sized n = let b = least-bounds n in record { multiple = b.1; least = b.0; room = b.2 }

least-fits : (n size : ℕ) → IsSized n size → least_size n ≤ size
unfolding least_size
least-fits n size s = by_header (row_header n) s.room s.multiple s.least
  where
    by_header : (h : ℕ) → h + n ≤ size → size % 4 ≡ 0 → 20 ≤ size → max 20 (next_multiple_of (h + n) 4) ≤ size
    by_header h r m l = omega arith

header-rises : (n m : ℕ) → n ≤ m → row_header n ≤ row_header m
header-rises n m le = by_lengths (nat_le n 65535) (nat_le m 65535) refl refl
  where
    by_lengths : (b c : Bool) → nat_le n 65535 ≡ b → nat_le m 65535 ≡ c → (if b then 3 else 4) ≤ (if c then 3 else 4)
    by_lengths true true s t = omega arith
    by_lengths true false s t = omega arith
    by_lengths false true s t = absurd (omega (arith, leb-false _ _ s, leb-true _ _ t))
    by_lengths false false s t = omega arith

pub least-least : (n m size : ℕ) → n ≤ m → IsSized m size → least_size n ≤ size
least-least n m size le s =
    let h = header-rises n m le in
    let r = s.room in
    least-fits n size (record { multiple = s.multiple; least = s.least; room = omega arith })

pub least-rises : (n m : ℕ) → n ≤ m → least_size n ≤ least_size m
least-rises n m le = least-least n m (least_size m) le (least-sized m)

-- two blocks have together room for what one holds
joined-sized : (n a b s t : ℕ) → n ≤ a + b → IsSized a s → IsSized b t → IsSized n (s + t)
joined-sized n a b s t le x y =
    let x0 = x.multiple in
    let x1 = x.least in
    let x2 = x.room in
    let y0 = y.multiple in
    let y2 = y.room in
    let ha = header-small a in
    let hb = header-small b in
    let hn = header-small n in
    record { multiple = omega arith; least = omega arith; room = omega arith }

all-sized : (b : Block) (bs : List Block) → IsSized (length b.bytes) b.size → AllByRecursion (λ b. IsSized (length b.bytes) b.size) bs → IsSized (held_bytes (b ∷ bs)) (total_size (b ∷ bs))
all-sized b [] one rest =
    let h : held_bytes (b ∷ []) ≡ length b.bytes = sum_by-cons (λ (x : Block). length x.bytes) b [] ∙ omega arith in
    let t : total_size (b ∷ []) ≡ b.size = sum_by-cons (λ (x : Block). x.size) b [] ∙ omega arith in
    rw (h, t) one
all-sized b (c ∷ bs) one rest =
    let more = all-sized c bs rest.0 rest.1 in
    let h : held_bytes (b ∷ c ∷ bs) ≡ length b.bytes + held_bytes (c ∷ bs) = sum_by-cons (λ (x : Block). length x.bytes) b (c ∷ bs) in
    let t : total_size (b ∷ c ∷ bs) ≡ b.size + total_size (c ∷ bs) = sum_by-cons (λ (x : Block). x.size) b (c ∷ bs) in
    rw (h, t) (joined-sized (length b.bytes + held_bytes (c ∷ bs)) (length b.bytes) (held_bytes (c ∷ bs)) b.size (total_size (c ∷ bs)) (omega arith) one more)

pub least-together : (n : ℕ) (bs : List Block) → AllByRecursion (λ b. IsSized (length b.bytes) b.size) bs → 0 < n → n ≤ held_bytes bs → least_size n ≤ total_size bs
least-together n [] all some le = absurd (omega arith)
least-together n (b ∷ bs) all some le = least-least n (held_bytes (b ∷ bs)) (total_size (b ∷ bs)) le (all-sized b bs all.0 all.1)

-- ---- blocks of a file of bytes

-- a block of a file, and the form in which its header was read
record InForm (bytes : List ℕ) (b : Block) : Type 0 where
  pub form : Form
  pub is : form_of (get_or bytes 0 0) ≡ Some form
  pub kind : b.kind ≡ form.kind
  pub rec_len : b.rec_len ≡ num_at 1 form.rec_len bytes
  pub length : length b.bytes ≡ data_len form.kind (num_at 1 form.rec_len bytes) (num_at (len_at form) form.len bytes)
  pub sized : b.size ≡ block_size form.kind (header_len form) (num_at 1 form.rec_len bytes) (num_at (len_at form) form.len bytes) (num_at (unused_at form) form.unused bytes)
  pub multiple : b.size % 4 ≡ 0
  pub least : 20 ≤ b.size

in_form : (d : List ℕ) (p : ℕ) (b : Block) → block_of d p ≡ Some b → InForm (drop p d) b
in_form d p b here =
    let x = drop p d in
    let q = block-found d p b here in
    let r = header-read x p (length d) q.header q.is in
    let form = r.form in
    let P : Header → Type 0 = λ h. h.start + h.data_len ≤ h.head.size → IsPlace p h.head.size (length d) → InForm x (block_by x h) in
    let made : P (read_header x p form) = λ inside place.
    let stop = place.inside in
    let least = place.least in
    record {
      form = form;
      is = r.is;
      kind = refl;
      rec_len = refl;
      length = length-take-le (data_len form.kind (num_at 1 form.rec_len x) (num_at (len_at form) form.len x)) (drop (header_len form) x) (omega (arith, length-drop (header_len form) x, length-drop p d));
      sized = refl;
      multiple = place.multiple;
      least = place.least;
    } in
    subst (λ (y : Block). InForm x y) q.block (subst P r.header made (read-inside x p (length d) q.header r).0 r.place)

moved : (n m s t : ℕ) → n ≡ m → s ≡ t → row_header m + m ≤ t → row_header n + n ≤ s
moved n m s t e f h = rw (e, f) h

pub block-sized : (d : List ℕ) (p : ℕ) (b : Block) → AreBytes d → block_of d p ≡ Some b → IsSized (length b.bytes) b.size
block-sized d p b are here =
    let x = drop p d in
    let f = in_form d p b here in
    let form = f.form in
    let bytes : AreBytes x = bytes-drop p d are in
    let narrow = form-narrow (get_or x 0 0) form f.is in
    let size = f.sized in
    let long = f.length in
    let some = f.least in
    let room = data-room form.kind (header_len form) form.rec_len form.len (num_at 1 form.rec_len x) (num_at (len_at form) form.len x) (num_at (unused_at form) form.unused x) narrow.long (omega arith) (number-below 1 form.rec_len form.rec_len x bytes (omega arith)) (number-below (len_at form) form.len form.len x bytes (omega arith)) (omega arith) in
    record { multiple = f.multiple; least = f.least; room = moved (length b.bytes) _ b.size _ long size room }

-- ---- rooms

by_kind : (k : FrameKind) (P : FrameKind → Type 0) (j : FrameKind) → j ≡ k → P j → P k
by_kind k P j e p = subst P e p

pub block-start : (d : List ℕ) (p : ℕ) (b : Block) (rec_len : ℕ) → AreBytes d → block_of d p ≡ Some b → b.kind ≡ Start → rec_len ≤ b.rec_len → length b.bytes ≤ start_room rec_len b.size
unfolding start_room
block-start d p b rec are here start le =
    let x = drop p d in
    let f = in_form d p b here in
    let form = f.form in
    let rl = form.rec_len in
    let ll = form.len in
    let r = num_at 1 rl x in
    let l = num_at (len_at form) ll x in
    let u = num_at (unused_at form) form.unused x in
    let kind : form.kind ≡ Start = sym f.kind ∙ start in
    let w : OfWidths Start form = by_kind Start (λ k. OfWidths k form) form.kind kind (form-widths (get_or x 0 0) form f.is) in
    let long : length b.bytes ≡ l = f.length ∙ ap (λ k. data_len k r l) kind in
    let size : b.size ≡ header_len form + l + u = f.sized ∙ ap (λ k. block_size k (header_len form) r l u) kind in
    let small : r < 256 ^ rl = number-below 1 rl rl x (bytes-drop p d are) (omega arith) in
    let e = f.rec_len in
    sums rl ll r l u (length b.bytes) b.size w.3 w.4 w.5 small long (size ∙ lengths form l u w.0 w.1 w.2) (omega arith) (nat_le (2 ^ 24) rec) refl (nat_le rec 65535) refl
  where
    lengths : (f : Form) (l u : ℕ) → f.prev ≡ 0 → f.unused ≡ 0 → f.next ≡ 8 → header_len f + l + u ≡ 9 + f.rec_len + f.len + l + u
    lengths f l u a b c = omega arith

    sums : (rl ll r l u n size : ℕ) → 2 ≤ rl → 2 ≤ ll → (3 ≤ rl → 3 ≤ ll) → r < 256 ^ rl → n ≡ l → size ≡ 9 + rl + ll + l + u → rec ≤ r → (giant : Bool) → nat_le (2 ^ 24) rec ≡ giant → (short : Bool) → nat_le rec 65535 ≡ short → n ≤ size - (if giant then 16 else (if short then 13 else 15))
    sums rl ll r l u n size a b c small long all le true e short g =
        let wide = width-more rl 3 r small (omega (arith, leb-true _ _ e)) in
        let more : 3 ≤ ll = c (omega arith) in omega arith
    sums rl ll r l u n size a b c small long all le false e true g = omega arith
    sums rl ll r l u n size a b c small long all le false e false g =
        let wide = width-wide rl r small (omega (arith, leb-false _ _ g)) in
        let more : 3 ≤ ll = c (omega arith) in omega arith

pub block-middle : (d : List ℕ) (p : ℕ) (b : Block) → AreBytes d → block_of d p ≡ Some b → b.kind ≡ Middle → length b.bytes ≤ middle_room b.size
unfolding middle_room
block-middle d p b are here middle =
    let x = drop p d in
    let f = in_form d p b here in
    let form = f.form in
    let ll = form.len in
    let r = num_at 1 form.rec_len x in
    let l = num_at (len_at form) ll x in
    let u = num_at (unused_at form) form.unused x in
    let kind : form.kind ≡ Middle = sym f.kind ∙ middle in
    let w : OfWidths Middle form = by_kind Middle (λ k. OfWidths k form) form.kind kind (form-widths (get_or x 0 0) form f.is) in
    let long : length b.bytes ≡ l = f.length ∙ ap (λ k. data_len k r l) kind in
    let size : b.size ≡ header_len form + l + u = f.sized ∙ ap (λ k. block_size k (header_len form) r l u) kind in
    let small : l < 256 ^ ll = number-below (len_at form) ll ll x (bytes-drop p d are) (omega arith) in
    sums ll l u (length b.bytes) b.size w.4 small (no_number (unused_at form) form.unused x w.2) long (size ∙ lengths form l u w.0 w.1 w.2 w.3) (nat_le b.size 65546) refl
  where
    lengths : (f : Form) (l u : ℕ) → f.rec_len ≡ 0 → f.prev ≡ 0 → f.unused ≡ 0 → f.next ≡ 8 → header_len f + l + u ≡ 9 + f.len + l + u
    lengths f l u a b c d = omega arith

    sums : (ll l u n size : ℕ) → 2 ≤ ll → l < 256 ^ ll → u ≡ 0 → n ≡ l → size ≡ 9 + ll + l + u → (short : Bool) → nat_le size 65546 ≡ short → n ≤ (if short then size - 11 else size - 12)
    sums ll l u n size a small none long all true e = omega arith
    sums ll l u n size a small none long all false e = by_width (cases_lt ll 3)
      where
        by_width : (ll < 3) ⊎ (3 ≤ ll) → n ≤ size - 12
        by_width (inl short) = absurd (omega (arith, below_width ll 2 l (omega arith) small, leb-false _ _ e))
        by_width (inr wide) = omega arith

-- a start that is filled by a giant row, and a middle, can be written: three bytes count what they hold

pub block-start-few : (d : List ℕ) (p : ℕ) (b : Block) (rec_len : ℕ) → AreBytes d → block_of d p ≡ Some b → b.kind ≡ Start → 2 ^ 24 ≤ rec_len → start_room rec_len b.size < 2 ^ 24
unfolding start_room
block-start-few d p b rec are here start le =
    let x = drop p d in
    let f = in_form d p b here in
    let form = f.form in
    let rl = form.rec_len in
    let ll = form.len in
    let r = num_at 1 rl x in
    let l = num_at (len_at form) ll x in
    let u = num_at (unused_at form) form.unused x in
    let narrow = form-narrow (get_or x 0 0) form f.is in
    let kind : form.kind ≡ Start = sym f.kind ∙ start in
    let w : OfWidths Start form = by_kind Start (λ k. OfWidths k form) form.kind kind (form-widths (get_or x 0 0) form f.is) in
    let size : b.size ≡ header_len form + l + u = f.sized ∙ ap (λ k. block_size k (header_len form) r l u) kind in
    sums rl ll l u b.size narrow.rec_len narrow.len (number-below (len_at form) ll 3 x (bytes-drop p d are) narrow.len) (no_number (unused_at form) form.unused x w.1) (size ∙ lengths form l u w.0 w.1 w.2) (nat_le (2 ^ 24) rec) refl (nat_le rec 65535)
  where
    lengths : (f : Form) (l u : ℕ) → f.prev ≡ 0 → f.unused ≡ 0 → f.next ≡ 8 → header_len f + l + u ≡ 9 + f.rec_len + f.len + l + u
    lengths f l u a b c = omega arith

    sums : (rl ll l u size : ℕ) → rl ≤ 4 → ll ≤ 3 → l < 256 ^ 3 → u ≡ 0 → size ≡ 9 + rl + ll + l + u → (giant : Bool) → nat_le (2 ^ 24) rec ≡ giant → (short : Bool) → size - (if giant then 16 else (if short then 13 else 15)) < 2 ^ 24
    sums rl ll l u size a b small none all true e short = omega arith
    sums rl ll l u size a b small none all false e short = absurd (omega (arith, le, leb-false _ _ e))

pub block-middle-few : (d : List ℕ) (p : ℕ) (b : Block) → AreBytes d → block_of d p ≡ Some b → b.kind ≡ Middle → middle_room b.size < 2 ^ 24
unfolding middle_room
block-middle-few d p b are here middle =
    let x = drop p d in
    let f = in_form d p b here in
    let form = f.form in
    let ll = form.len in
    let r = num_at 1 form.rec_len x in
    let l = num_at (len_at form) ll x in
    let u = num_at (unused_at form) form.unused x in
    let narrow = form-narrow (get_or x 0 0) form f.is in
    let kind : form.kind ≡ Middle = sym f.kind ∙ middle in
    let w : OfWidths Middle form = by_kind Middle (λ k. OfWidths k form) form.kind kind (form-widths (get_or x 0 0) form f.is) in
    let size : b.size ≡ header_len form + l + u = f.sized ∙ ap (λ k. block_size k (header_len form) r l u) kind in
    sums ll l u b.size narrow.len (number-below (len_at form) ll 3 x (bytes-drop p d are) narrow.len) (no_number (unused_at form) form.unused x w.2) (size ∙ lengths form l u w.0 w.1 w.2 w.3) (nat_le b.size 65546) refl
  where
    lengths : (f : Form) (l u : ℕ) → f.rec_len ≡ 0 → f.prev ≡ 0 → f.unused ≡ 0 → f.next ≡ 8 → header_len f + l + u ≡ 9 + f.len + l + u
    lengths f l u a b c d = omega arith

    sums : (ll l u size : ℕ) → ll ≤ 3 → l < 256 ^ 3 → u ≡ 0 → size ≡ 9 + ll + l + u → (short : Bool) → nat_le size 65546 ≡ short → (if short then size - 11 else size - 12) < 2 ^ 24
    sums ll l u size a small none all true e = omega (arith, leb-true _ _ e)
    sums ll l u size a small none all false e = omega arith

-- ---- sizes in which a block can be written

pub least-writable : (n : ℕ) → n < 2 ^ 24 → IsWritable (whole_spec n) n (least_size n) × IsWritable end_spec n (least_size n)
least-writable n few =
    let b = least-bounds n in
    let room : HasRoom (row_header n) n (least_size n) = record { room = b.2; few = omega (arith, b.3) } in (
      record { multiple = b.1; least = b.0; few = few; kind = (room, refl, refl, refl); next = tt; prev = tt },
      record { multiple = b.1; least = b.0; few = few; kind = (room, refl, refl, refl); next = tt; prev = tt },
    )

start-header : (rec_len n : ℕ) → 13 ≤ start_header rec_len n
start-header rec n = by_tests (nat_le (2 ^ 24) rec) (nat_le rec 65535 && nat_le n 65535)
  where
    by_tests : (b c : Bool) → 13 ≤ (if b then 16 else (if c then 13 else 15))
    by_tests true c = omega arith
    by_tests false true = omega arith
    by_tests false false = omega arith

middle-header : (n : ℕ) → 11 ≤ middle_header n
middle-header n = by_test (nat_le n 65535)
  where
    by_test : (b : Bool) → 11 ≤ (if b then 11 else 12)
    by_test true = omega arith
    by_test false = omega arith

allowed-room : (k : FrameKind) (f : FrameSpec) (n size : ℕ) → 20 ≤ size → Allows k f n size → row_header n + n ≤ size
allowed-room Deleted f n size least a = let none = a.0 in let h = header-small n in omega arith
allowed-room Whole f n size least a = a.0.room
allowed-room Start f n size least a = let e = a.0 in let h = header-small n in let s = start-header f.rec_len n in omega arith
allowed-room Middle f n size least a = let e = a.0 in let h = header-small n in let s = middle-header n in omega arith
allowed-room End f n size least a = a.0.room

pub writable-sized : (f : FrameSpec) (n size : ℕ) → IsWritable f n size → IsSized n size
writable-sized f n size w = record { multiple = w.multiple; least = w.least; room = allowed-room f.kind f n size w.least w.kind }

pub start-writable : (rec_len size : ℕ) (next : Option ℕ) → size % 4 ≡ 0 → 20 ≤ size → rec_len < 2 ^ 32 → start_room rec_len size ≤ rec_len → start_room rec_len size < 2 ^ 24 → IsPointer next → IsWritable (start_spec rec_len next) (start_room rec_len size) size
unfolding start_room
start-writable rec size next multiple least small part few px =
    record { multiple = multiple; least = least; few = few; kind = (fills part, small, refl); next = px; prev = tt }
  where
    fills : start_room rec size ≤ rec → start_header rec (start_room rec size) + start_room rec size ≡ size
    fills part = by_giant (nat_le (2 ^ 24) rec) (nat_le rec 65535) refl part
      where
        by_short : (n : ℕ) → n ≤ 65535 → n ≡ size - 13 → (if true && nat_le n 65535 then 13 else 15) + n ≡ size
        by_short n small e = let t : nat_le n 65535 ≡ true = le-leb _ _ small in rw t (omega arith)

        by_giant : (g s : Bool) → nat_le rec 65535 ≡ s → size - (if g then 16 else (if s then 13 else 15)) ≤ rec → (if g then 16 else (if s && nat_le (size - (if g then 16 else (if s then 13 else 15))) 65535 then 13 else 15)) + (size - (if g then 16 else (if s then 13 else 15))) ≡ size
        by_giant true s e le = omega arith
        by_giant false true e le = by_short (size - 13) (omega (arith, leb-true _ _ e)) refl
        by_giant false false e le = omega arith

pub middle-writable : (size : ℕ) (next : Option ℕ) → size % 4 ≡ 0 → 20 ≤ size → middle_room size < 2 ^ 24 → IsPointer next → IsWritable (middle_spec next) (middle_room size) size
unfolding middle_room
middle-writable size next multiple least few px =
    record { multiple = multiple; least = least; few = few; kind = (fills, refl, refl); next = px; prev = tt }
  where
    fills : middle_header (middle_room size) + middle_room size ≡ size
    fills = by_size (nat_le size 65546) refl
      where
        long : (n : ℕ) → 65536 ≤ n → n ≡ size - 12 → (if nat_le n 65535 then 11 else 12) + n ≡ size
        long n large e = let t : nat_le n 65535 ≡ false = lt-leb _ _ large in rw t (omega arith)

        short : (n : ℕ) → n ≤ 65535 → n ≡ size - 11 → (if nat_le n 65535 then 11 else 12) + n ≡ size
        short n small e = let t : nat_le n 65535 ≡ true = le-leb _ _ small in rw t (omega arith)

        by_size : (b : Bool) → nat_le size 65546 ≡ b → (if nat_le (if b then size - 11 else size - 12) 65535 then 11 else 12) + (if b then size - 11 else size - 12) ≡ size
        by_size true e = short (size - 11) (omega (arith, leb-true _ _ e)) refl
        by_size false e = long (size - 12) (omega (arith, leb-false _ _ e)) refl
