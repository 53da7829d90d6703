-- New numbers in an index file, and what is read of it then.
use Rattle.std.proofs.Common.{◌≡◌, ◌⊎◌, inl, inr, ℕ, zero, suc, ◌+◌, ◌-◌, ◌*◌, ◌%◌, ◌^◌, ◌<◌, ◌≤◌, List, [], ◌∷◌, ◌++◌, length, get_or, take, drop, map, refl, sym, ap, ◌∙◌, arith, append_assoc, length-append, length-take, length-drop, get_or-take, get_or-drop}
use Rattle.std.specs.List.{AllByRecursion}
use Rattle.std.proofs.lemmas.Bool.{cases_lt}
use Rattle.std.proofs.lemmas.Nat.{and_le_r}
use Rattle.std.proofs.lemmas.List.{append-nil, take-append-le, drop-take}
use Rattle.std.proofs.Math.Seq.{get_or-append_right, drop-append-add}
use Rattle.std.proofs.Math.ListN.{get_or-append}
use Rattle.myi_base.specs.Holding.{overwritten}
use Rattle.myi_base.specs.Numbers.{num_at, num_bytes}
use Rattle.myi_base.specs.Items.{numbers, spelling, Fit, total_width}
use Rattle.myi_base.proofs.CallerLemmas.{numbers-spelling, numbers-take, length-spelling, length-num_bytes}
use Rattle.myi_defs.specs.declared.types.Defs.{Defs}
use Rattle.myi_defs.specs.Sound.{IsSound}
use Rattle.myi_header.specs.Parts.{part}
use Rattle.myi_header.specs.Analysis.{changed_place, rows_place, part_place, changed_bits, analyzed_bits, number_bytes, with_numbers, HasRoomFor, IsElsewhere, IsAnalyzed}

-- ---- the bytes of numbers of four bytes

pub four : List ℕ → List ℕ
four per = spelling (map (λ n. 4) per) per

pub four_is : (per : List ℕ) → four per ≡ spelling (map (λ n. 4) per) per
unfolding four
four_is per = refl

four_both : (per more : List ℕ) → four (per ++ more) ≡ four per ++ four more
unfolding four
four_both [] more = refl
four_both (n ∷ per) more = ap (λ xs. num_bytes 4 n ++ xs) (four_both per more) ∙ sym (append_assoc (num_bytes 4 n) (four per) (four more))

four_next : (per : List ℕ) (i d : ℕ) → i < length per → four (drop i per) ≡ num_bytes 4 (get_or per i d) ++ four (drop (i + 1) per)
unfolding four
four_next [] i d few = absurd (omega arith)
four_next (n ∷ per) zero d few = refl
four_next (n ∷ per) (suc i) d few = let e : suc i + 1 ≡ suc (i + 1) = omega arith in rw e (four_next per i d (omega arith))

four_end : (per : List ℕ) (i : ℕ) → length per ≤ i → four (drop i per) ≡ []
unfolding four
four_end [] zero end = refl
four_end [] (suc i) end = refl
four_end (n ∷ per) zero end = absurd (omega arith)
four_end (n ∷ per) (suc i) end = four_end per i (omega arith)

pub all_at : {X : Type 0} (P : X → Type 0) (xs : List X) (i : ℕ) (d : X) → i < length xs → AllByRecursion P xs → P (get_or xs i d)
all_at P [] i d few all = absurd (omega arith)
all_at P (x ∷ xs) zero d few all = all.0
all_at P (x ∷ xs) (suc i) d few all = all_at P xs i d (omega arith) all.1

-- one number more of a loop, what is left being the rest
pub number_appended : (per before old new : List ℕ) (i : ℕ) → i < length per → new ≡ old ++ num_bytes 4 (get_or per i 0) → old ++ four (drop i per) ≡ before → new ++ four (drop (i + 1) per) ≡ before
number_appended per before old new i few is so_far =
    ap (λ xs. xs ++ four (drop (i + 1) per)) is ∙ append_assoc old (num_bytes 4 (get_or per i 0)) (four (drop (i + 1) per))
    ∙ ap (λ xs. old ++ xs) (sym (four_next per i 0 few)) ∙ so_far

pub numbers_appended : (per before old : List ℕ) (i : ℕ) → length per ≤ i → old ++ four (drop i per) ≡ before ++ four per → old ≡ before ++ spelling (map (λ n. 4) per) per
numbers_appended per before old i end so_far = sym (append-nil old) ∙ ap (λ xs. old ++ xs) (sym (four_end per i end)) ∙ so_far ∙ ap (λ xs. before ++ xs) (four_is per)

-- ---- bytes that are written inside a file

drop_none : (n : ℕ) → drop {A = ℕ} n [] ≡ []
drop_none zero = refl
drop_none (suc n) = refl

drop_drop : (m n : ℕ) (xs : List ℕ) → drop n (drop m xs) ≡ drop (m + n) xs
drop_drop zero n xs = ap (λ k. drop k xs) (let e : n ≡ 0 + n = omega arith in e)
drop_drop (suc m) n [] = drop_none n ∙ sym (drop_none (suc m + n))
drop_drop (suc m) n (x ∷ xs) = drop_drop m n xs ∙ ap (λ k. drop k (x ∷ xs)) (let e : suc (m + n) ≡ suc m + n = omega arith in e)

fewer : (k n : ℕ) (xs : List ℕ) → k ≤ n → take k (take n xs) ≡ take k xs
fewer zero n xs low = refl
fewer (suc k) zero xs low = absurd (omega arith)
fewer (suc k) (suc n) [] low = refl
fewer (suc k) (suc n) (y ∷ xs) low = ap (λ ys. y ∷ ys) (fewer k n xs (omega arith))

module _ (at : ℕ) (bytes x : List ℕ) (inside : at + length bytes ≤ length x) where
  written_is : overwritten at bytes x ≡ take at x ++ (bytes ++ drop (at + length bytes) x)
  written_is =
      let none : at - length x ≡ 0 = omega arith in
      rw none (ap (λ xs. (xs ++ bytes) ++ drop (at + length bytes) x) (append-nil (take at x)) ∙ append_assoc (take at x) bytes (drop (at + length bytes) x))

  front_long : length (take at x) ≡ at
  front_long = omega (arith, length-take at x, inside)

  written_long : length (overwritten at bytes x) ≡ length x
  written_long =
      ap (λ (xs : List ℕ). length xs) written_is
      ∙ omega (arith, length-append (take at x) (bytes ++ drop (at + length bytes) x), length-append bytes (drop (at + length bytes) x), length-drop (at + length bytes) x, front_long, inside)

  written_front : (k : ℕ) → k ≤ at → take k (overwritten at bytes x) ≡ take k x
  written_front k low =
      ap (take k) written_is ∙ take-append-le k (take at x) (bytes ++ drop (at + length bytes) x) (omega (arith, front_long, low)) ∙ fewer k at x low

  written_below : (i : ℕ) → i < at → get_or (overwritten at bytes x) i 0 ≡ get_or x i 0
  written_below i low =
      ap (λ xs. get_or xs i 0) written_is ∙ get_or-append (take at x) (bytes ++ drop (at + length bytes) x) 0 i (omega (arith, front_long, low)) ∙ get_or-take at x i 0 low

  written_behind : (i : ℕ) → at + length bytes ≤ i → get_or (overwritten at bytes x) i 0 ≡ get_or x i 0
  written_behind i high =
      ap (λ xs. get_or xs i 0) written_is
      ∙ get_or-append_right (take at x) (bytes ++ drop (at + length bytes) x) i 0 (omega (arith, front_long, high))
      ∙ get_or-append_right bytes (drop (at + length bytes) x) (i - length (take at x)) 0 (omega (arith, front_long, high))
      ∙ get_or-drop (at + length bytes) x (i - length (take at x) - length bytes) 0
      ∙ ap (λ k. get_or x k 0) (let e : at + length bytes + (i - length (take at x) - length bytes) ≡ i = omega (arith, front_long, high) in e)

  written_drop : (p : ℕ) → at + length bytes ≤ p → drop p (overwritten at bytes x) ≡ drop p x
  written_drop p high =
      let front : List ℕ = take at x ++ bytes in
      let left : overwritten at bytes x ≡ front ++ drop (at + length bytes) x = written_is ∙ sym (append_assoc (take at x) bytes (drop (at + length bytes) x)) in
      let many : length front ≡ at + length bytes = length-append (take at x) bytes ∙ ap (λ n. n + length bytes) front_long in
      let place : p ≡ length front + (p - (at + length bytes)) = omega (arith, many, high) in
      ap (drop p) left ∙ ap (λ n. drop n (front ++ drop (at + length bytes) x)) place ∙ drop-append-add front (drop (at + length bytes) x) (p - (at + length bytes))
      ∙ drop_drop (at + length bytes) (p - (at + length bytes)) x ∙ ap (λ n. drop n x) (let e : at + length bytes + (p - (at + length bytes)) ≡ p = omega (arith, high) in e)

-- ---- what is read of a file with new numbers

fours_fit : (per : List ℕ) → AllByRecursion (λ n. n < 256 ^ 4) per → Fit (map (λ n. 4) per) per
fours_fit [] all = tt
fours_fit (n ∷ per) all = (all.0, fours_fit per all.1)

fours_wide : (per : List ℕ) → total_width (map (λ n. 4) per) ≡ 4 * length per
fours_wide [] = omega arith
fours_wide (n ∷ per) = omega (arith, fours_wide per)

part_at : (at : ℕ) (per y : List ℕ) (p : ℕ) → p < length per → num_at (at + 4 * p) 4 y ≡ get_or (numbers at (map (λ n. 4) per) y) p 0
part_at at [] y p few = absurd (omega arith)
part_at at (n ∷ per) y zero few = ap (λ k. num_at k 4 y) (let e : at + 4 * 0 ≡ at = omega arith in e)
part_at at (n ∷ per) y (suc p) few = ap (λ k. num_at k 4 y) (let e : at + 4 * suc p ≡ at + 4 + 4 * p = omega arith in e) ∙ part_at (at + 4) per y p (omega arith)

one_byte : (b : ℕ) → b < 256 → num_bytes 1 b ≡ b ∷ []
unfolding num_bytes
one_byte b few = ap (λ n. n ∷ []) (let e : b % 256 ≡ b = omega arith in e)

-- what the proofs below use of a file with room
record HasRoom (d : Defs) (rows : ℕ) (per x : List ℕ) : Type 0 where
  behind : changed_place < rows_place d
  inside : part_place d (length per) ≤ length x
  counted : rows < 256 ^ 8
  small : AllByRecursion (λ n. n < 256 ^ 4) per

bits_small : (bits : ℕ) → analyzed_bits bits < 256
bits_small bits = omega (arith, and_le_r bits 247)

module _ (d : Defs) (rows : ℕ) (per x : List ℕ) (room : HasRoom d rows per x) where
  bits_in : List ℕ
  bits_in = overwritten changed_place (analyzed_bits (changed_bits x) ∷ []) x

  bytes_long : length (number_bytes rows per) ≡ 8 + 4 * length per
  bytes_long = omega (arith, length-append (num_bytes 8 rows) (spelling (map (λ n. 4) per) per), length-num_bytes 8 rows, length-spelling (map (λ n. 4) per) per (fours_fit per room.small), fours_wide per)

  bits_inside : changed_place + length (analyzed_bits (changed_bits x) ∷ []) ≤ length x
  bits_inside = omega (arith, room.behind, room.inside)

  bits_long : length bits_in ≡ length x
  unfolding bits_in
  bits_long = written_long changed_place (analyzed_bits (changed_bits x) ∷ []) x bits_inside

  all_inside : rows_place d + length (number_bytes rows per) ≤ length bits_in
  all_inside = omega (arith, bytes_long, bits_long, room.inside)

  new_is : with_numbers d rows per x ≡ overwritten (rows_place d) (number_bytes rows per) bits_in
  unfolding with_numbers bits_in
  new_is = refl

  numbers_read : numbers (rows_place d) (8 ∷ map (λ n. 4) per) (with_numbers d rows per x) ≡ rows ∷ per
  numbers_read =
      ap (numbers (rows_place d) (8 ∷ map (λ n. 4) per)) (new_is ∙ written_is (rows_place d) (number_bytes rows per) bits_in all_inside)
      ∙ numbers-spelling (rows_place d) (8 ∷ map (λ n. 4) per) (rows ∷ per) (take (rows_place d) bits_in) (drop (rows_place d + length (number_bytes rows per)) bits_in)
      (front_long (rows_place d) (number_bytes rows per) bits_in all_inside) (room.counted, fours_fit per room.small)

  bits_read : changed_bits (with_numbers d rows per x) ≡ analyzed_bits (changed_bits x)
  unfolding bits_in
  bits_read =
      let bits : ℕ = analyzed_bits (changed_bits x) in
      let front : take 27 (with_numbers d rows per x) ≡ take 27 bits_in = ap (take 27) new_is ∙ written_front (rows_place d) (number_bytes rows per) bits_in all_inside 27 (omega (arith, room.behind)) in
      let same : numbers changed_place (1 ∷ []) (with_numbers d rows per x) ≡ numbers changed_place (1 ∷ []) bits_in = numbers-take changed_place 27 (1 ∷ []) (with_numbers d rows per x) bits_in (omega arith) front in
      let spelled : bits ∷ [] ≡ spelling (1 ∷ []) (bits ∷ []) = sym (append-nil (num_bytes 1 bits) ∙ one_byte bits (bits_small (changed_bits x))) in
      let read : numbers changed_place (1 ∷ []) bits_in ≡ bits ∷ [] =
      ap (numbers changed_place (1 ∷ [])) (written_is changed_place (bits ∷ []) x bits_inside ∙ ap (λ b. take changed_place x ++ (b ++ drop (changed_place + 1) x)) spelled)
      ∙ numbers-spelling changed_place (1 ∷ []) (bits ∷ []) (take changed_place x) (drop (changed_place + 1) x) (front_long changed_place (bits ∷ []) x bits_inside) (omega (arith, bits_small (changed_bits x)), tt) in
      ap (λ (ns : List ℕ). get_or ns 0 0) (same ∙ read)

  else_same : (i : ℕ) → IsElsewhere d (length per) i → get_or (with_numbers d rows per x) i 0 ≡ get_or x i 0
  unfolding bits_in
  else_same i where_ = ap (λ xs. get_or xs i 0) new_is ∙ outer where_.1 ∙ inner (cases_lt i changed_place)
    where
      outer : ((i < rows_place d) ⊎ (part_place d (length per) ≤ i)) → get_or (overwritten (rows_place d) (number_bytes rows per) bits_in) i 0 ≡ get_or bits_in i 0
      outer (inl low) = written_below (rows_place d) (number_bytes rows per) bits_in all_inside i low
      outer (inr high) = written_behind (rows_place d) (number_bytes rows per) bits_in all_inside i (omega (arith, bytes_long, high))

      inner : (i < changed_place) ⊎ (changed_place ≤ i) → get_or bits_in i 0 ≡ get_or x i 0
      inner (inl low) = written_below changed_place (analyzed_bits (changed_bits x) ∷ []) x bits_inside i low
      inner (inr high) = written_behind changed_place (analyzed_bits (changed_bits x) ∷ []) x bits_inside i (above high)
        where
          above : changed_place ≤ i → changed_place + 1 ≤ i
          above high = omega (arith, high, where_.0)

  -- between the bits and the other numbers
  part_same : (p w : ℕ) → 27 ≤ p → p + w ≤ rows_place d → take w (drop p (with_numbers d rows per x)) ≡ take w (drop p x)
  unfolding bits_in
  part_same p w low high =
      sym (drop-take p w (with_numbers d rows per x)) ∙ ap (drop p) (ap (take (p + w)) new_is ∙ written_front (rows_place d) (number_bytes rows per) bits_in all_inside (p + w) high)
      ∙ drop-take p w bits_in ∙ ap (take w) (written_drop changed_place (analyzed_bits (changed_bits x) ∷ []) x bits_inside p low)

  -- behind all of them
  back_same : (p : ℕ) → part_place d (length per) ≤ p → drop p (with_numbers d rows per x) ≡ drop p x
  unfolding bits_in
  back_same p high =
      ap (drop p) new_is ∙ written_drop (rows_place d) (number_bytes rows per) bits_in all_inside p (omega (arith, bytes_long, high))
      ∙ written_drop changed_place (analyzed_bits (changed_bits x) ∷ []) x bits_inside p (omega (arith, room.behind, high))

  -- and before them
  front_same : (k : ℕ) → k ≤ changed_place → take k (with_numbers d rows per x) ≡ take k x
  unfolding bits_in
  front_same k low =
      ap (take k) new_is ∙ written_front (rows_place d) (number_bytes rows per) bits_in all_inside k (omega (arith, room.behind, low)) ∙ written_front changed_place (analyzed_bits (changed_bits x) ∷ []) x bits_inside k low

  reads_back : IsAnalyzed d rows per x (with_numbers d rows per x)
  reads_back = record {
    long = ap (λ (xs : List ℕ). length xs) new_is ∙ written_long (rows_place d) (number_bytes rows per) bits_in all_inside ∙ bits_long;
    bits = bits_read;
    counted = ap (λ (ns : List ℕ). get_or ns 0 0) numbers_read;
    parts = λ p few. part_at (rows_place d + 8) per (with_numbers d rows per x) p few ∙ ap (λ (ns : List ℕ). get_or ns (suc p) 0) numbers_read;
    elsewhere = else_same;
  }

-- ---- by the header

-- the header has the changed bits of its file
pub numbers-bits : (d : Defs) (x : List ℕ) → IsSound d → d.raw ≡ take (num_at 6 2 x) x → changed_bits d.raw ≡ changed_bits x
numbers-bits d x good is =
    let long : 27 ≤ num_at 6 2 x = omega (arith, good.base_inside, good.base, ap (λ (xs : List ℕ). length xs) is, length-take (num_at 6 2 x) x) in
    ap (λ (ns : List ℕ). get_or ns 0 0) (numbers-take changed_place 27 (1 ∷ []) d.raw x (omega arith) (ap (take 27) is ∙ fewer 27 (num_at 6 2 x) x long))

-- a file with the header has room for a number for each key part
has_room : (d : Defs) (rows : ℕ) (per x : List ℕ) → IsSound d → HasRoomFor d rows per x → HasRoom d rows per x
has_room d rows per x good room = record {
  behind = omega arith;
  inside = omega (arith, good.base_inside, good.base, room.long, room.few);
  counted = room.counted;
  small = room.small;
}

-- ---- the law

pub numbers-read : (d : Defs) (rows : ℕ) (parts x : List ℕ) → IsSound d → HasRoomFor d rows parts x → IsAnalyzed d rows parts x (with_numbers d rows parts x)
numbers-read d rows parts x good room = reads_back d rows parts x (has_room d rows parts x good room)

pub numbers-front : (d : Defs) (rows : ℕ) (parts x : List ℕ) (k : ℕ) → IsSound d → HasRoomFor d rows parts x → k ≤ changed_place → take k (with_numbers d rows parts x) ≡ take k x
numbers-front d rows parts x k good room low = front_same d rows parts x (has_room d rows parts x good room) k low

pub numbers-between : (d : Defs) (rows : ℕ) (parts x : List ℕ) (p w : ℕ) → IsSound d → HasRoomFor d rows parts x → changed_place < p → p + w ≤ rows_place d → part p w (with_numbers d rows parts x) ≡ part p w x
numbers-between d rows parts x p w good room low high = part_same d rows parts x (has_room d rows parts x good room) p w low high

pub numbers-behind : (d : Defs) (rows : ℕ) (parts x : List ℕ) (p : ℕ) → IsSound d → HasRoomFor d rows parts x → part_place d (length parts) ≤ p → drop p (with_numbers d rows parts x) ≡ drop p x
numbers-behind d rows parts x p good room high = back_same d rows parts x (has_room d rows parts x good room) p high
