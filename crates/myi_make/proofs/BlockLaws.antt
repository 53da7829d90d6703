-- The block of a row, and what it is to put it behind the end of a file.
use Rattle.std.proofs.Common.{◌≡◌, ◌<◌, ◌≤◌, ◌-◌, ◌^◌, ◌%◌, ◌==◌, ℕ, Bool, true, false, List, length, refl, arith}
use Rattle.std.proofs.lemmas.List.{length-replicate}
use Rattle.myi_frames.specs.Sizes.{least_size}
use Rattle.myi_frames.specs.Writing.{whole_spec}
use Rattle.myi_frames.proofs.CallerLemmas.{length-block, least-writable, least-least, least-sized}
use Rattle.myi_pack.specs.Packed.{Values}
use Rattle.myi_pack.specs.Spelling.{spelling}
use Rattle.myi_data.specs.Stored.{own_block}
use Rattle.myi_make.specs.MadeTable.{defs, row_block, left_block}

-- ---- how long blocks are

length-own : (b : List ℕ) → length b < 2 ^ 24 → length (own_block b) ≡ least_size (length b)
length-own b few = length-block (whole_spec (length b)) b (least_size (length b)) (least-writable (length b) few).0

longest : least_size 248 ≡ 252
unfolding least_size
longest = refl

pub length-row_block : (row : Values) → length (spelling defs row) ≤ 248 → length (row_block row) ≡ least_size (length (spelling defs row))
unfolding row_block
length-row_block row short = length-own (spelling defs row) (omega (arith, short))

pub least_short : (n : ℕ) → n ≤ 248 → least_size n ≤ 252
least_short n short = omega (arith, least-least n 248 (least_size 248) short (least-sized 248), longest)

pub block_short : (row : Values) → length (spelling defs row) ≤ 248 → length (row_block row) ≤ 252
block_short row short = omega (arith, length-row_block row short, least_short (length (spelling defs row)) short)

pub length-left : (i : ℕ) (block : List ℕ) → length (left_block i block) ≡ length block
unfolding left_block
length-left i block = by (i % 10 == 0) refl
  where
    by : (b : Bool) → (i % 10 == 0) ≡ b → length (left_block i block) ≡ length block
    by true e = rw e (length-replicate (length block) 255)
    by false e = rw e refl

-- ---- behind the end
