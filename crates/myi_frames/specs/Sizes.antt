-- How large a block is for its row bytes, and how many row bytes a block of a size holds (this project's
-- own choice among the sizes and forms that MySQL reads).
use Rattle.std.specs.Prelude.{◌≡◌, ℕ, ◌+◌, ◌-◌, ◌%◌, ◌^◌, ◌≤◌, ◌&&◌, nat_le, if◌then◌else◌, max, List, sum_by, length}
use Rattle.std.specs.Int.{next_multiple_of}
use Rattle.myi_frames.specs.Block.{Block}

-- the header of a whole row or an end without unused bytes
abbrev pub row_header : ℕ → ℕ
row_header n = if nat_le n 65535 then 3 else 4

-- the header of a start with n row bytes, of a row of rec_len bytes
abbrev pub start_header : ℕ → ℕ → ℕ
start_header rec_len n = if nat_le (2 ^ 24) rec_len then 16 else (if nat_le rec_len 65535 && nat_le n 65535 then 13 else 15)

-- the header of a middle with n row bytes
abbrev pub middle_header : ℕ → ℕ
middle_header n = if nat_le n 65535 then 11 else 12

-- the least size of a block that holds n row bytes as a whole row or an end
unfoldable pub least_size : ℕ → ℕ
least_size n = max 20 (next_multiple_of (row_header n + n) 4)

-- how many bytes of a row of rec_len bytes a start of this size holds
unfoldable pub start_room : ℕ → ℕ → ℕ
start_room rec_len size = size - (if nat_le (2 ^ 24) rec_len then 16 else (if nat_le rec_len 65535 then 13 else 15))

-- how many row bytes a middle of this size holds
unfoldable pub middle_room : ℕ → ℕ
middle_room size = if nat_le size 65546 then size - 11 else size - 12

-- a block of this size has room for n row bytes
pub record IsSized (n size : ℕ) : Type 0 where
  pub multiple : size % 4 ≡ 0
  pub least : 20 ≤ size
  pub room : row_header n + n ≤ size

-- how many row bytes these blocks hold together
abbrev pub held_bytes : List Block → ℕ
held_bytes bs = sum_by (λ b. length b.bytes) bs

-- how many bytes these blocks take together
abbrev pub total_size : List Block → ℕ
total_size bs = sum_by (λ b. b.size) bs
