-- Writing a giant row: writes that go on where the last one ended, and what is left of the row's blocks.
use Rattle.std.proofs.Common.{◌≡◌, ◌⊎◌, inl, inr, ℕ, suc, ◌+◌, ◌-◌, ◌%◌, ◌^◌, ◌<◌, ◌≤◌, Bool, true, false, cond, List, [], ◌∷◌, ◌++◌, length, take, drop, replicate, unwrap_or, Option, Some, refl, sym, ap, subst, ◌∙◌, arith, append_assoc, length-append, length-drop}
use Rattle.std.specs.Prelude.{nat_le, if◌then◌else◌, Result, Ok, Err, OnOk, OnErr}
use Rattle.std.proofs.Math.Seq.{drop-append-add, take-append_seam}
use Rattle.std.proofs.lemmas.List.{drop-drop, append-nil, length-take, length-take-le, length-replicate, take-append-le}
use Rattle.myi_base.specs.Holding.{Holding, bytes_of, resized, overwritten, Told, Writes, WritesPart, Keeps}
use Rattle.myi_base.proofs.CallerLemmas.{told_same, told_more, told_then}
use Rattle.myi_frames.specs.Sizes.{start_room, middle_room}
use Rattle.myi_frames.specs.declared.write.FrameSpec.{FrameSpec}
use Rattle.myi_frames.specs.Writing.{IsWritable, header_bytes, block_bytes, start_spec, middle_spec, end_spec}
use Rattle.myi_frames.proofs.CallerLemmas.{length-block, middle-writable, start-writable}
use Rattle.myi_repair.specs.Giant.{start_block, bytes_taken}
use Rattle.myi_data.specs.Stored.{Share, is_end, end_size, shares_behind, shares, bytes_behind, shared_bytes}

-- ---- two writes, the second of which goes on where the first ends, are one

length_resized : (n : ℕ) (x : List ℕ) → length (resized n x) ≡ n
length_resized n x = omega (arith, length-append (take n x) (replicate (n - length x) 0), length-take n x, length-replicate {A = ℕ} (n - length x) 0)

drop_past : (front back : List ℕ) (n k : ℕ) → length front ≡ n → drop (n + k) (front ++ back) ≡ drop k back
drop_past front back n k e = ap (λ j. drop (j + k) (front ++ back)) (sym e) ∙ drop-append-add front back k

resized_front : (n : ℕ) (front back : List ℕ) → length front ≡ n → resized n (front ++ back) ≡ front
resized_front n front back e =
    let none : n - length (front ++ back) ≡ 0 = omega (arith, length-append front back, e) in
    let first : take n (front ++ back) ≡ front = ap (λ j. take j (front ++ back)) (sym e) ∙ take-append_seam front back in
    ap (λ j. take n (front ++ back) ++ replicate j 0) none ∙ append-nil (take n (front ++ back)) ∙ first

overwritten_append : (at : ℕ) (p b x : List ℕ) → overwritten (at + length p) b (overwritten at p x) ≡ overwritten at (p ++ b) x
overwritten_append at p b x =
    let front = resized at x ++ p in
    let back = drop (at + length p) x in
    let long : length front ≡ at + length p = omega (arith, length-append (resized at x) p, length_resized at x) in
    let first : resized (at + length p) (front ++ back) ≡ front = resized_front (at + length p) front back long in
    let last : drop (at + length p + length b) (front ++ back) ≡ drop (at + length (p ++ b)) x =
    drop_past front back (at + length p) (length b) long ∙ drop-drop (length b) (at + length p) x ∙ ap (λ j. drop j x) (omega (arith, length-append p b)) in
    ap (λ ys. ys ++ b ++ drop (at + length p + length b) (front ++ back)) first ∙ ap (λ ys. front ++ b ++ ys) last
    ∙ ap (λ ys. ys ++ drop (at + length (p ++ b)) x) (append_assoc (resized at x) p b)

-- what was written so far: nothing yet, or these bytes from a place on
abbrev pub Written : List ℕ → ℕ → List ℕ → Holding → Holding → Type 0
Written name at pre m n = ((pre ≡ []) × Keeps m n) ⊎ Writes name at pre m n

pub written_next : (name : List ℕ) (at : ℕ) (pre b : List ℕ) (m k n : Holding) → Written name at pre m k → Writes name (at + length pre) b k n → Writes name at (pre ++ b) m n
written_next name at pre b m k n (inl (none, same)) next =
    let place : at + length pre ≡ at = omega (arith, ap (λ (x : List ℕ). length x) none) in
    let from : Writes name at b m n = subst (λ (h : Holding). Writes name at b h n) same (subst (λ p. Writes name p b k n) place next) in
    subst (λ (x : List ℕ). Writes name at (x ++ b) m n) (sym none) from
written_next name at pre b m k n (inr first) next =
    let held : bytes_of name k ≡ overwritten at pre (bytes_of name m) = ap (λ (o : Option (List ℕ)). unwrap_or o []) first.here in
    record {
      here = next.here ∙ ap (λ (x : List ℕ). Some (overwritten (at + length pre) b x)) held ∙ ap (λ (x : List ℕ). Some x) (overwritten_append at pre b (bytes_of name m));
      others = λ q other. next.others q other ∙ first.others q other;
    }

take_front : (pre more : List ℕ) → take (length pre) (pre ++ more) ≡ pre
take_front pre more = take-append_seam pre more

take_on : (pre b more : List ℕ) (j : ℕ) → j ≤ length b → take (length pre + j) (pre ++ (b ++ more)) ≡ pre ++ take j b
take_on [] b more j le =
    let e : 0 + j ≡ j = omega arith in
    ap (λ n. take n (b ++ more)) e ∙ take-append-le j b more le
take_on (x ∷ pre) b more j le =
    let e : suc (length pre) + j ≡ suc (length pre + j) = omega arith in
    ap (λ n. take n (x ∷ (pre ++ (b ++ more)))) e ∙ ap (λ (xs : List ℕ). x ∷ xs) (take_on pre b more j le)

-- a part of the whole, where the work ends
pub written_so_far : (name : List ℕ) (at : ℕ) (whole pre more : List ℕ) (m n : Holding) → whole ≡ pre ++ more → Written name at pre m n → WritesPart name at whole m n
written_so_far name at whole pre more m n is (inl w) = inl w.1
written_so_far name at whole pre more m n is (inr w) =
    inr (
      length pre,
      omega (arith, ap (λ (x : List ℕ). length x) is, length-append pre more),
      subst (λ (x : List ℕ). Writes name at x m n) (sym (ap (take (length pre)) is ∙ take_front pre more)) w,
    )

pub written_part : (name : List ℕ) (at : ℕ) (whole pre b more : List ℕ) (m k n : Holding) → whole ≡ pre ++ (b ++ more) → Written name at pre m k → WritesPart name (at + length pre) b k n → WritesPart name at whole m n
written_part name at whole pre b more m k n is first (inl same) = written_so_far name at whole pre (b ++ more) m n is (subst (λ (h : Holding). Written name at pre m h) (sym same) first)
written_part name at whole pre b more m k n is first (inr (j, le, next)) =
    inr (
      length pre + j,
      omega (arith, ap (λ (x : List ℕ). length x) is, length-append pre (b ++ more), length-append b more, le),
      subst (λ (x : List ℕ). Writes name at x m n) (sym (ap (take (length pre + j)) is ∙ take_on pre b more j le)) (written_next name at pre (take j b) m k n first next),
    )

-- so far a front of these bytes is written from a place on, up to another place, and this is left of them
pub record Goes (old now : Option Holding) (name : List ℕ) (at : ℕ) (whole : List ℕ) (place : ℕ) (left : List ℕ) : Type 0 where
  pub front : List ℕ
  pub split : whole ≡ front ++ left
  pub far : place ≡ at + length front
  pub told : Told old now (Written name at front)

pub goes_first : (old : Option Holding) (name : List ℕ) (at : ℕ) (whole : List ℕ) → Goes old old name at whole at whole
goes_first old name at whole = record {
  front = [];
  split = refl;
  far = omega arith;
  told = told_same old old (Written name at []) refl (λ m held. inl (refl, refl));
}

pub goes_on : (old mid new : Option Holding) (name : List ℕ) (at : ℕ) (whole : List ℕ) (place : ℕ) (b left : List ℕ) → Goes old mid name at whole place (b ++ left) → Told mid new (Writes name place b) → Goes old new name at whole (place + length b) left
goes_on old mid new name at whole place b left g next = record {
  front = g.front ++ b;
  split = g.split ∙ sym (append_assoc g.front b left);
  far = omega (arith, g.far, length-append g.front b);
  told = told_then old mid new (Written name at g.front) (Writes name place b) (Written name at (g.front ++ b)) g.told next
      (λ m k n before after. inr (written_next name at g.front b m k n before (subst (λ p. Writes name p b k n) g.far after)));
}

pub goes_whole : (old mid new : Option Holding) (name : List ℕ) (at : ℕ) (whole : List ℕ) (place : ℕ) (b : List ℕ) → Goes old mid name at whole place b → Told mid new (Writes name place b) → Told old new (Writes name at whole)
goes_whole old mid new name at whole place b g next =
    told_then old mid new (Written name at g.front) (Writes name place b) (Writes name at whole) g.told next
    (λ m k n before after. subst (λ (x : List ℕ). Writes name at x m n) (sym g.split) (written_next name at g.front b m k n before (subst (λ p. Writes name p b k n) g.far after)))

pub goes_part : (old mid new : Option Holding) (name : List ℕ) (at : ℕ) (whole : List ℕ) (place : ℕ) (b left : List ℕ) → Goes old mid name at whole place (b ++ left) → Told mid new (WritesPart name place b) → Told old new (WritesPart name at whole)
goes_part old mid new name at whole place b left g next =
    told_then old mid new (Written name at g.front) (WritesPart name place b) (WritesPart name at whole) g.told next
    (λ m k n before after. written_part name at whole g.front b left m k n g.split before (subst (λ p. WritesPart name p b k n) g.far after))

pub goes_no_further : (old now : Option Holding) (name : List ℕ) (at : ℕ) (whole : List ℕ) (place : ℕ) (left : List ℕ) → Goes old now name at whole place left → Told old now (WritesPart name at whole)
goes_no_further old now name at whole place left g =
    told_more old now (Written name at g.front) (WritesPart name at whole) g.told (λ m n held w. written_so_far name at whole g.front left m n g.split w)

-- ---- what is left of the blocks

-- the last block
pub end_left : (at size : ℕ) (sizes : List ℕ) (b : List ℕ) → is_end (length b) size ≡ true → bytes_behind at (shares_behind (size ∷ sizes) (length b)) b ≡ block_bytes end_spec b (end_size (length b) size)
end_left at size sizes b e =
    ap (λ t. bytes_behind at (cond t (record { size = end_size (length b) size; taken = length b } ∷ []) (record { size = size; taken = middle_room size } ∷ shares_behind sizes (length b - middle_room size))) b) e

-- a middle, and what is behind it

middle_then : (at size taken : ℕ) (ss : List Share) (b : List ℕ) → 0 < length ss → bytes_behind at (record { size = size; taken = taken } ∷ ss) b ≡ block_bytes (middle_spec (Some (at + size))) (take taken b) size ++ bytes_behind (at + size) ss (drop taken b)
middle_then at size taken [] b some = absurd (omega arith)
middle_then at size taken (t ∷ ts) b some = refl

some_shares : (sizes : List ℕ) (rest : ℕ) → 0 < length sizes → 0 < length (shares_behind sizes rest)
some_shares [] rest some = absurd (omega arith)
some_shares (size ∷ sizes) rest some = by (is_end rest size)
  where
    by : (t : Bool) → 0 < length (cond t (record { size = end_size rest size; taken = rest } ∷ []) (record { size = size; taken = middle_room size } ∷ shares_behind sizes (rest - middle_room size)))
    by true = omega arith
    by false = omega arith

pub middle_left : (at size : ℕ) (sizes : List ℕ) (b : List ℕ) → is_end (length b) size ≡ false → 0 < length sizes → bytes_behind at (shares_behind (size ∷ sizes) (length b)) b ≡ block_bytes (middle_spec (Some (at + size))) (take (middle_room size) b) size ++ bytes_behind (at + size) (shares_behind sizes (length b - middle_room size)) (drop (middle_room size) b)
middle_left at size sizes b e some =
    ap (λ t. bytes_behind at (cond t (record { size = end_size (length b) size; taken = length b } ∷ []) (record { size = size; taken = middle_room size } ∷ shares_behind sizes (length b - middle_room size))) b) e
    ∙ middle_then at size (middle_room size) (shares_behind sizes (length b - middle_room size)) b (some_shares sizes (length b - middle_room size) some)

pub middle_count : (size : ℕ) (sizes : List ℕ) (rest : ℕ) → is_end rest size ≡ false → length (shares_behind (size ∷ sizes) rest) ≡ suc (length (shares_behind sizes (rest - middle_room size)))
middle_count size sizes rest e =
    ap (λ t. length (cond t (record { size = end_size rest size; taken = rest } ∷ []) (record { size = size; taken = middle_room size } ∷ shares_behind sizes (rest - middle_room size)))) e

end_taken : (size : ℕ) (sizes : List ℕ) (rest : ℕ) → is_end rest size ≡ true → bytes_taken (shares_behind (size ∷ sizes) rest) ≡ rest
end_taken size sizes rest e =
    let is : bytes_taken (shares_behind (size ∷ sizes) rest) ≡ rest + 0 = ap (λ t. bytes_taken (cond t (record { size = end_size rest size; taken = rest } ∷ []) (record { size = size; taken = middle_room size } ∷ shares_behind sizes (rest - middle_room size)))) e in
    omega (arith, is)

middle_taken : (size : ℕ) (sizes : List ℕ) (rest : ℕ) → is_end rest size ≡ false → bytes_taken (shares_behind (size ∷ sizes) rest) ≡ middle_room size + bytes_taken (shares_behind sizes (rest - middle_room size))
middle_taken size sizes rest e =
    ap (λ t. bytes_taken (cond t (record { size = end_size rest size; taken = rest } ∷ []) (record { size = size; taken = middle_room size } ∷ shares_behind sizes (rest - middle_room size)))) e

-- ---- sizes in the buffer

pub room_bounds : (size : ℕ) → 20 ≤ size → (size ≤ middle_room size + 12) × (8 ≤ middle_room size)
unfolding middle_room
room_bounds size least = by (nat_le size 65546)
  where
    by : (b : Bool) → (size ≤ (if b then size - 11 else size - 12) + 12) × (8 ≤ (if b then size - 11 else size - 12))
    by true = (omega arith, omega arith)
    by false = (omega arith, omega arith)

pub start_bounds : (n size : ℕ) → 20 ≤ size → (size ≤ start_room n size + 16) × (4 ≤ start_room n size)
unfolding start_room
start_bounds n size least = by (nat_le (2 ^ 24) n) (nat_le n 65535)
  where
    by : (b c : Bool) → (size ≤ (size - (if b then 16 else (if c then 13 else 15))) + 16) × (4 ≤ size - (if b then 16 else (if c then 13 else 15)))
    by true c = (omega arith, omega arith)
    by false true = (omega arith, omega arith)
    by false false = (omega arith, omega arith)

-- a middle that is filled by these bytes
pub middle_writes : (at size : ℕ) (piece : List ℕ) → size % 4 ≡ 0 → 20 ≤ size → length piece ≡ middle_room size → middle_room size < 2 ^ 24 → at < 2 ^ 63 → IsWritable (middle_spec (Some (at + size))) (length piece) size
middle_writes at size piece multiple least is few place =
    let near : at + size < 2 ^ 64 - 1 = omega (arith, (room_bounds size least).0, few, place) in
    subst (λ n. IsWritable (middle_spec (Some (at + size))) n size) (sym is) (middle-writable size (Some (at + size)) multiple least few near)

-- a start that is filled by these bytes
pub start_writes : (at n size : ℕ) (piece : List ℕ) → size % 4 ≡ 0 → 20 ≤ size → 2 ^ 24 ≤ n → n < 2 ^ 32 → length piece ≡ start_room n size → start_room n size < 2 ^ 24 → at < 2 ^ 63 → IsWritable (start_spec n (Some (at + size))) (length piece) size
start_writes at n size piece multiple least giant short is few place =
    let near : at + size < 2 ^ 64 - 1 = omega (arith, (start_bounds n size least).0, few, place) in
    subst (λ m. IsWritable (start_spec n (Some (at + size))) m size) (sym is) (start-writable n size (Some (at + size)) multiple least short (omega (arith, few, giant)) few near)

-- ---- the steps of the writing

pub on_err : {T E : Type 0} (r : Result T E) (P : Type 0) → P → OnErr r P
on_err (Ok x) P p = tt
on_err (Err e) P p = p

pub on_ok : {A E : Type 0} (r : Result A E) (P : Type 0) → P → OnOk r P
on_ok (Ok x) P p = p
on_ok (Err e) P p = tt

pub goes_end : (old now : Option Holding) (name : List ℕ) (at : ℕ) (whole : List ℕ) (place size : ℕ) (ss sizes b : List ℕ) → ss ≡ size ∷ sizes → is_end (length b) size ≡ true → Goes old now name at whole place (bytes_behind place (shares_behind ss (length b)) b) → Goes old now name at whole place (block_bytes end_spec b (end_size (length b) size))
goes_end old now name at whole place size ss sizes b is e g =
    subst (Goes old now name at whole place) (ap (λ (t : List ℕ). bytes_behind place (shares_behind t (length b)) b) is ∙ end_left place size sizes b e) g

-- the last block is refused in part
pub goes_end_part : (old mid new : Option Holding) (name : List ℕ) (at : ℕ) (whole : List ℕ) (place : ℕ) (b : List ℕ) → Goes old mid name at whole place b → Told mid new (WritesPart name place b) → Told old new (WritesPart name at whole)
goes_end_part old mid new name at whole place b g part =
    goes_part old mid new name at whole place b [] (subst (Goes old mid name at whole place) (sym (append-nil b)) g) part

pub goes_length : (old now : Option Holding) (name : List ℕ) (at : ℕ) (whole : List ℕ) (place n : ℕ) (b : List ℕ) → Goes old now name at whole place b → length b ≡ n → place + n ≡ at + length whole
goes_length old now name at whole place n b g long = omega (arith, g.far, long, ap (λ (x : List ℕ). length x) g.split, length-append g.front b)

-- a middle: its size, the bytes that it takes, and those that are left
pub record IsMiddle (place size room : ℕ) (ss sizes b piece left : List ℕ) : Type 0 where
  pub parted : ss ≡ size ∷ sizes
  pub more : 0 < length sizes
  pub no_end : is_end (length b) size ≡ false
  pub multiple : size % 4 ≡ 0
  pub least : 20 ≤ size
  pub few : middle_room size < 2 ^ 24
  pub near : place < 2 ^ 63
  pub filled : room ≡ middle_room size
  pub inside : room ≤ length b
  pub first : piece ≡ take room b
  pub rest : left ≡ drop room b

abbrev middle_block : ℕ → ℕ → List ℕ → List ℕ
middle_block place size piece = block_bytes (middle_spec (Some (place + size))) piece size

goes_middle : (old now : Option Holding) (name : List ℕ) (at : ℕ) (whole : List ℕ) (place size room : ℕ) (ss sizes b piece left : List ℕ) → IsMiddle place size room ss sizes b piece left → Goes old now name at whole place (bytes_behind place (shares_behind ss (length b)) b) → Goes old now name at whole place (middle_block place size piece ++ bytes_behind (place + size) (shares_behind sizes (length left)) left)
goes_middle old now name at whole place size room ss sizes b piece left m g =
    let r : ℕ = middle_room size in
    let first : take r b ≡ piece = ap (λ n. take n b) (sym m.filled) ∙ sym m.first in
    let rest : drop r b ≡ left = ap (λ n. drop n b) (sym m.filled) ∙ sym m.rest in
    let long : length b - r ≡ length left = sym (length-drop r b) ∙ ap (λ (x : List ℕ). length x) rest in
    subst (Goes old now name at whole place)
    (ap (λ (t : List ℕ). bytes_behind place (shares_behind t (length b)) b) m.parted
    ∙ middle_left place size sizes b m.no_end m.more
    ∙ ap (λ (x : List ℕ). middle_block place size x ++ bytes_behind (place + size) (shares_behind sizes (length b - r)) (drop r b)) first
    ∙ ap (λ n. middle_block place size piece ++ bytes_behind (place + size) (shares_behind sizes n) (drop r b)) long
    ∙ ap (λ (x : List ℕ). middle_block place size piece ++ bytes_behind (place + size) (shares_behind sizes (length left)) x) rest) g

middle_long : (place size room : ℕ) (ss sizes b piece left : List ℕ) → IsMiddle place size room ss sizes b piece left → length (middle_block place size piece) ≡ size
middle_long place size room ss sizes b piece left m =
    let long : length piece ≡ middle_room size = ap (λ (x : List ℕ). length x) m.first ∙ length-take-le room b m.inside ∙ m.filled in
    length-block (middle_spec (Some (place + size))) piece size (middle_writes place size piece m.multiple m.least long m.few m.near)

pub goes_next : (old mid new : Option Holding) (name : List ℕ) (at : ℕ) (whole : List ℕ) (place size room to : ℕ) (ss sizes b piece left : List ℕ) → IsMiddle place size room ss sizes b piece left → to ≡ place + size → Goes old mid name at whole place (bytes_behind place (shares_behind ss (length b)) b) → Told mid new (Writes name place (middle_block place size piece)) → Goes old new name at whole to (bytes_behind to (shares_behind sizes (length left)) left)
goes_next old mid new name at whole place size room to ss sizes b piece left m behind g told =
    let block : List ℕ = middle_block place size piece in
    let far : place + length block ≡ to = omega (arith, behind, middle_long place size room ss sizes b piece left m) in
    let next = goes_on old mid new name at whole place block (bytes_behind (place + size) (shares_behind sizes (length left)) left) (goes_middle old mid name at whole place size room ss sizes b piece left m g) told in
    subst (λ p. Goes old new name at whole to (bytes_behind p (shares_behind sizes (length left)) left)) (sym behind)
    (subst (λ p. Goes old new name at whole p (bytes_behind (place + size) (shares_behind sizes (length left)) left)) far next)

pub goes_middle_part : (old mid new : Option Holding) (name : List ℕ) (at : ℕ) (whole : List ℕ) (place size room : ℕ) (ss sizes b piece left : List ℕ) → IsMiddle place size room ss sizes b piece left → Goes old mid name at whole place (bytes_behind place (shares_behind ss (length b)) b) → Told mid new (WritesPart name place (middle_block place size piece)) → Told old new (WritesPart name at whole)
goes_middle_part old mid new name at whole place size room ss sizes b piece left m g part =
    goes_part old mid new name at whole place (middle_block place size piece) (bytes_behind (place + size) (shares_behind sizes (length left)) left) (goes_middle old mid name at whole place size room ss sizes b piece left m g) part

pub middle_counts : (place size room : ℕ) (ss sizes b piece left : List ℕ) → IsMiddle place size room ss sizes b piece left → length (shares_behind ss (length b)) ≡ suc (length (shares_behind sizes (length left)))
middle_counts place size room ss sizes b piece left m =
    let long : length b - middle_room size ≡ length left = sym (length-drop (middle_room size) b) ∙ ap (λ n. length (drop n b)) (sym m.filled) ∙ ap (λ (x : List ℕ). length x) (sym m.rest) in
    ap (λ (t : List ℕ). length (shares_behind t (length b))) m.parted ∙ middle_count size sizes (length b) m.no_end ∙ ap (λ n. suc (length (shares_behind sizes n))) long

pub middle_takes : (place size room : ℕ) (ss sizes b piece left : List ℕ) → IsMiddle place size room ss sizes b piece left → bytes_taken (shares_behind ss (length b)) ≡ room + bytes_taken (shares_behind sizes (length left))
middle_takes place size room ss sizes b piece left m =
    let long : length b - middle_room size ≡ length left = sym (length-drop (middle_room size) b) ∙ ap (λ n. length (drop n b)) (sym m.filled) ∙ ap (λ (x : List ℕ). length x) (sym m.rest) in
    ap (λ (t : List ℕ). bytes_taken (shares_behind t (length b))) m.parted ∙ middle_taken size sizes (length b) m.no_end ∙ ap (λ n. middle_room size + bytes_taken (shares_behind sizes n)) long
    ∙ ap (λ n. n + bytes_taken (shares_behind sizes (length left))) (sym m.filled)

pub end_takes : (size : ℕ) (ss sizes b : List ℕ) → ss ≡ size ∷ sizes → is_end (length b) size ≡ true → bytes_taken (shares_behind ss (length b)) ≡ length b
end_takes size ss sizes b is e = ap (λ (t : List ℕ). bytes_taken (shares_behind t (length b))) is ∙ end_taken size sizes (length b) e

-- a start: its size, and the bytes that are left
pub record IsStart (at size room to : ℕ) (ss sizes b left : List ℕ) : Type 0 where
  pub parted : ss ≡ size ∷ sizes
  pub multiple : size % 4 ≡ 0
  pub least : 20 ≤ size
  pub giant : 2 ^ 24 ≤ length b
  pub short : length b < 2 ^ 32
  pub few : start_room (length b) size < 2 ^ 24
  pub near : at < 2 ^ 63
  pub filled : room ≡ start_room (length b) size
  pub behind : to ≡ at + size
  pub rest : left ≡ drop room b

start_split : (at size room to : ℕ) (ss sizes b left : List ℕ) → IsStart at size room to ss sizes b left → shared_bytes at (shares ss (length b)) b ≡ start_block at size b ++ bytes_behind to (shares_behind sizes (length left)) left
start_split at size room to ss sizes b left m =
    let r : ℕ = start_room (length b) size in
    let rest : drop r b ≡ left = ap (λ n. drop n b) (sym m.filled) ∙ sym m.rest in
    let long : length b - r ≡ length left = sym (length-drop r b) ∙ ap (λ (x : List ℕ). length x) rest in
    ap (λ (t : List ℕ). shared_bytes at (shares t (length b)) b) m.parted
    ∙ ap (λ p. start_block at size b ++ bytes_behind p (shares_behind sizes (length b - r)) (drop r b)) (sym m.behind)
    ∙ ap (λ n. start_block at size b ++ bytes_behind to (shares_behind sizes n) (drop r b)) long
    ∙ ap (λ (x : List ℕ). start_block at size b ++ bytes_behind to (shares_behind sizes (length left)) x) rest

start_first : (old : Option Holding) (name : List ℕ) (at size room to : ℕ) (ss sizes b left : List ℕ) → IsStart at size room to ss sizes b left → Goes old old name at (shared_bytes at (shares ss (length b)) b) at (start_block at size b ++ bytes_behind to (shares_behind sizes (length left)) left)
start_first old name at size room to ss sizes b left m =
    subst (Goes old old name at (shared_bytes at (shares ss (length b)) b) at) (start_split at size room to ss sizes b left m) (goes_first old name at (shared_bytes at (shares ss (length b)) b))

pub start_goes : (old mid : Option Holding) (name : List ℕ) (at size room to : ℕ) (ss sizes b left : List ℕ) → IsStart at size room to ss sizes b left → Told old mid (Writes name at (start_block at size b)) → Goes old mid name at (shared_bytes at (shares ss (length b)) b) to (bytes_behind to (shares_behind sizes (length left)) left)
start_goes old mid name at size room to ss sizes b left m told =
    let r : ℕ = start_room (length b) size in
    let first : length (take r b) ≡ r = length-take-le r b (omega (arith, m.few, m.giant)) in
    let long : length (start_block at size b) ≡ size = length-block (start_spec (length b) (Some (at + size))) (take r b) size (start_writes at (length b) size (take r b) m.multiple m.least m.giant m.short first m.few m.near) in
    let far : at + length (start_block at size b) ≡ to = omega (arith, long, m.behind) in
    subst (λ p. Goes old mid name at (shared_bytes at (shares ss (length b)) b) p (bytes_behind to (shares_behind sizes (length left)) left)) far
    (goes_on old old mid name at (shared_bytes at (shares ss (length b)) b) at (start_block at size b) (bytes_behind to (shares_behind sizes (length left)) left) (start_first old name at size room to ss sizes b left m) told)

-- a start and what is behind it take the whole row
pub start_takes : (at size room to : ℕ) (ss sizes b left : List ℕ) → IsStart at size room to ss sizes b left → bytes_taken (shares_behind sizes (length left)) ≡ length left → bytes_taken (shares ss (length b)) ≡ length b
start_takes at size room to ss sizes b left m behind =
    let r : ℕ = start_room (length b) size in
    let rest : drop r b ≡ left = ap (λ n. drop n b) (sym m.filled) ∙ sym m.rest in
    let long : length b - r ≡ length left = sym (length-drop r b) ∙ ap (λ (x : List ℕ). length x) rest in
    let all : bytes_taken (shares ss (length b)) ≡ r + bytes_taken (shares_behind sizes (length left)) =
    ap (λ (t : List ℕ). bytes_taken (shares t (length b))) m.parted ∙ ap (λ n. r + bytes_taken (shares_behind sizes n)) long in
    omega (arith, all, behind, long, m.few, m.giant)

-- ---- a block in parts: its header, its row bytes, and what is unused

-- the header, and how many bytes are unused
pub record IsParted (f : FrameSpec) (b : List ℕ) (size : ℕ) (header : List ℕ) (start end count : ℕ) (at : ℕ) : Type 0 where
  pub is : header ≡ header_bytes f (length b) size
  pub begins : start ≡ at + length header
  pub follows : end ≡ start + length b
  pub unused : count ≡ size - (length header + length b)

module _ (old : Option Holding) (name : List ℕ) (at : ℕ) (f : FrameSpec) (b : List ℕ) (size : ℕ) (header : List ℕ) (start end count : ℕ) (p : IsParted f b size header start end count at) where
  parted : block_bytes f b size ≡ header ++ (b ++ replicate count 0)
  unfolding block_bytes
  parted =
      ap (λ (h : List ℕ). h ++ (b ++ replicate (size - (length h + length b)) 0)) (sym p.is) ∙ ap (λ n. header ++ (b ++ replicate n 0)) (sym p.unused)

  parts_first : Goes old old name at (block_bytes f b size) at (header ++ (b ++ replicate count 0))
  parts_first = subst (Goes old old name at (block_bytes f b size) at) parted (goes_first old name at (block_bytes f b size))

  pub header_part : (new : Option Holding) → Told old new (WritesPart name at header) → Told old new (WritesPart name at (block_bytes f b size))
  header_part new told = goes_part old old new name at (block_bytes f b size) at header (b ++ replicate count 0) parts_first told

  header_goes : (mid : Option Holding) → Told old mid (Writes name at header) → Goes old mid name at (block_bytes f b size) start (b ++ replicate count 0)
  header_goes mid told =
      subst (λ q. Goes old mid name at (block_bytes f b size) q (b ++ replicate count 0)) (sym p.begins) (goes_on old old mid name at (block_bytes f b size) at header (b ++ replicate count 0) parts_first told)

  pub bytes_part : (mid new : Option Holding) → Told old mid (Writes name at header) → Told mid new (WritesPart name start b) → Told old new (WritesPart name at (block_bytes f b size))
  bytes_part mid new first told = goes_part old mid new name at (block_bytes f b size) start b (replicate count 0) (header_goes mid first) told

  bytes_go : (mid next : Option Holding) → Told old mid (Writes name at header) → Told mid next (Writes name start b) → Goes old next name at (block_bytes f b size) end (replicate count 0)
  bytes_go mid next first told =
      subst (λ q. Goes old next name at (block_bytes f b size) q (replicate count 0)) (sym p.follows) (goes_on old mid next name at (block_bytes f b size) start b (replicate count 0) (header_goes mid first) told)

  pub unused_part : (mid next new : Option Holding) → Told old mid (Writes name at header) → Told mid next (Writes name start b) → Told next new (WritesPart name end (replicate count 0)) → Told old new (WritesPart name at (block_bytes f b size))
  unused_part mid next new first second told = goes_end_part old next new name at (block_bytes f b size) end (replicate count 0) (bytes_go mid next first second) told

  pub parts_whole : (mid next new : Option Holding) → Told old mid (Writes name at header) → Told mid next (Writes name start b) → Told next new (Writes name end (replicate count 0)) → Told old new (Writes name at (block_bytes f b size))
  parts_whole mid next new first second told = goes_whole old next new name at (block_bytes f b size) end (replicate count 0) (bytes_go mid next first second) told

  -- where the row bytes fill the block nothing is left to write
  pub parts_filled : (mid next : Option Holding) → count ≡ 0 → Told old mid (Writes name at header) → Told mid next (Writes name start b) → Told old next (Writes name at (block_bytes f b size))
  parts_filled mid next none first second =
      let bare : b ++ replicate count 0 ≡ b = ap (λ n. b ++ replicate n 0) none ∙ append-nil b in
      goes_whole old mid next name at (block_bytes f b size) start b (subst (Goes old mid name at (block_bytes f b size) start) bare (header_goes mid first)) second

-- so few bytes of a block are unused
pub end_unused : (n size : ℕ) → IsWritable end_spec n size → size ≤ n + 260
end_unused n size w = by (nat_le n 65535) w.kind.0.few
  where
    by : (b : Bool) → size ≤ (if b then 3 else 4) + n + 256 → size ≤ n + 260
    by true few = omega (arith, few)
    by false few = omega (arith, few)
