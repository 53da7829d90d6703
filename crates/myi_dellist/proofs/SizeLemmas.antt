-- Sizes of blocks and what they take.
use Rattle.std.proofs.Common.{◌≡◌, ℕ, ◌+◌, ◌-◌, ◌*◌, ◌/◌, ◌%◌, ◌^◌, ◌<◌, ◌≤◌, ◌⊎◌, inl, inr, max, Bool, true, false, refl, arith}
use Rattle.std.specs.Prelude.{nat_lt, nat_le, ◌&&◌, if◌then◌else◌}
use Rattle.std.proofs.lemmas.Bool.{ltb-true, ltb-false, leb-true, leb-false, cases_lt}
use Rattle.myi_frames.specs.Sizes.{row_header, least_size, start_room, middle_room}
use Rattle.myi_frames.specs.Writing.{whole_spec, end_spec, IsWritable}
use Rattle.myi_frames.proofs.CallerLemmas.{least-sized, least-least}
use Rattle.myi_dellist.specs.Areas.{Area}
use Rattle.myi_dellist.specs.Releasing.{most_size}
use Rattle.myi_dellist.specs.Placing.{room, fits, IsUsable}

pub header-few : (n : ℕ) → (3 ≤ row_header n) × (row_header n ≤ 4)
header-few n = by_test (nat_le n 65535)
  where
    by_test : (b : Bool) → (3 ≤ (if b then 3 else 4)) × ((if b then 3 else 4) ≤ 4)
    by_test true = (omega arith, omega arith)
    by_test false = (omega arith, omega arith)

-- the least size is at most this
pub least-most : (n : ℕ) → least_size n ≤ max 20 (row_header n + n + 3)
least-most n = by_header (row_header n) (λ m l k r. least-least n n m (omega arith) (record { multiple = k; least = l; room = r }))
  where
    by_header : (h : ℕ) → ((m : ℕ) → 20 ≤ m → m % 4 ≡ 0 → h + n ≤ m → least_size n ≤ m) → least_size n ≤ max 20 (h + n + 3)
    by_header h go = omega (arith, go (max 20 ((h + n + 3) / 4 * 4)) (omega arith) (omega arith) (omega arith))

-- where it is longer than a block, that block is shorter than the bytes and a header
pub least-long : (n size : ℕ) → 20 ≤ size → size % 4 ≡ 0 → size < least_size n → size < n + 5
least-long n size l m lt = by_side (cases_lt size (n + 5))
  where
    by_side : (size < n + 5) ⊎ (n + 5 ≤ size) → size < n + 5
    by_side (inl near) = near
    by_side (inr far) = absurd (omega (arith, lt, least-least n n size (omega arith) (record { multiple = m; least = l; room = omega (arith, (header-few n).1) })))

pub room-bounds : (len : ℕ) (first : Bool) (size : ℕ) → 20 ≤ size → (4 ≤ room len first size) × (room len first size + 11 ≤ size)
unfolding start_room middle_room
room-bounds len true size h = by_len (nat_le (2 ^ 24) len) (nat_le len 65535)
  where
    by_len : (b c : Bool) → (4 ≤ size - (if b then 16 else (if c then 13 else 15))) × (size - (if b then 16 else (if c then 13 else 15)) + 11 ≤ size)
    by_len true c = (omega arith, omega arith)
    by_len false true = (omega arith, omega arith)
    by_len false false = (omega arith, omega arith)
room-bounds len false size h = by_size (nat_le size 65546)
  where
    by_size : (b : Bool) → (4 ≤ (if b then size - 11 else size - 12)) × ((if b then size - 11 else size - 12) + 11 ≤ size)
    by_size true = (omega arith, omega arith)
    by_size false = (omega arith, omega arith)

pub not-fits : (len left : ℕ) (a : Area) → left ≤ len → IsUsable len a → fits left a.size ≡ false → a.size < left + 5
not-fits len left a le u e = by_tests (nat_lt left (2 ^ 24)) (nat_le (least_size left) a.size) refl refl e
  where
    by_tests : (b c : Bool) → nat_lt left (2 ^ 24) ≡ b → nat_le (least_size left) a.size ≡ c → (b && c) ≡ false → a.size < left + 5
    by_tests true true s t e = absurd cc
    by_tests true false s t e = omega (arith, least-long left a.size u.least u.multiple (leb-false _ _ t))
    by_tests false c s t e = by_giant u.giant (ltb-false _ _ s)
      where
        by_giant : (len < 2 ^ 24) ⊎ (a.size ≤ most_size) → 2 ^ 24 ≤ left → a.size < left + 5
        by_giant (inl short) far = absurd (omega arith)
        by_giant (inr small) far = omega arith

-- so it takes few bytes
pub not-fits-few : (len left : ℕ) (first : Bool) (a : Area) → left ≤ len → IsUsable len a → fits left a.size ≡ false → (room len first a.size < left) × (room len first a.size < 2 ^ 24)
not-fits-few len left first a le u e = (omega (arith, near, bounds.1), by_giant u.giant)
  where
    near : a.size < left + 5
    near = not-fits len left a le u e

    bounds : (4 ≤ room len first a.size) × (room len first a.size + 11 ≤ a.size)
    bounds = room-bounds len first a.size u.least

    by_giant : (len < 2 ^ 24) ⊎ (a.size ≤ most_size) → room len first a.size < 2 ^ 24
    by_giant (inl short) = omega (arith, near, bounds.1)
    by_giant (inr small) = omega (arith, bounds.1)

pub does-fit : (left size : ℕ) → fits left size ≡ true → (left < 2 ^ 24) × (least_size left ≤ size)
does-fit left size e = by_tests (nat_lt left (2 ^ 24)) (nat_le (least_size left) size) refl refl e
  where
    by_tests : (b c : Bool) → nat_lt left (2 ^ 24) ≡ b → nat_le (least_size left) size ≡ c → (b && c) ≡ true → (left < 2 ^ 24) × (least_size left ≤ size)
    by_tests true true s t e = (ltb-true _ _ s, leb-true _ _ t)
    by_tests true false s t e = absurd cc
    by_tests false c s t e = absurd cc

-- the last block may be a little longer than the least
pub last-writable : (n size : ℕ) → n < 2 ^ 24 → size % 4 ≡ 0 → least_size n ≤ size → size < least_size n + 20 → IsWritable (whole_spec n) n size × IsWritable end_spec n size
last-writable n size few multiple le lt =
    let s = least-sized n in
    let m = least-most n in (
      record { multiple = multiple; least = omega (arith, s.least, le); few = few; kind = (record { room = omega (arith, s.room, le); few = omega (arith, m, lt) }, refl, refl, refl); next = tt; prev = tt },
      record { multiple = multiple; least = omega (arith, s.least, le); few = few; kind = (record { room = omega (arith, s.room, le); few = omega (arith, m, lt) }, refl, refl, refl); next = tt; prev = tt },
    )
