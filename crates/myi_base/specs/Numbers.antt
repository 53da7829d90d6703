-- Numbers in bytes. MyISAM writes the numbers of an index file and of the headers of blocks high byte
-- first, and those inside rows low byte first (MySQL Internals Manual, "MyISAM Storage Engine").
use Rattle.std.specs.Prelude.{ℕ, ◌-◌, ◌^◌, ◌<◌, ◌==◌, List, drop, slice_index, Option, Some, None, if◌then◌else◌}
use Rattle.byteorder.specs.Endian.{big_number, big_bytes, little_number, little_bytes}

-- the number in the first n bytes, high byte first
unfoldable pub num : ℕ → List ℕ → ℕ
num n x = big_number n x

-- the number v in n bytes, high byte first
unfoldable pub num_bytes : ℕ → ℕ → List ℕ
num_bytes n v = big_bytes n v

-- the number in the first n bytes, low byte first
unfoldable pub low_num : ℕ → List ℕ → ℕ
low_num n x = little_number n x

-- the number v in n bytes, low byte first
unfoldable pub low_num_bytes : ℕ → ℕ → List ℕ
low_num_bytes n v = little_bytes n v

-- the number of n bytes at a place, high byte first
abbrev pub num_at : ℕ → ℕ → List ℕ → ℕ
num_at at n x = num n (drop at x)

-- each item is a byte
abbrev pub AreBytes : List ℕ → Type 0
AreBytes x = (i : ℕ) → slice_index x i < 256

-- what a pointer of eight bytes points to: eight bytes FF point to nothing
abbrev pub pointer_of : ℕ → Option ℕ
pointer_of n = if n == 2 ^ 64 - 1 then None else Some n

-- the number that stands for a pointer
abbrev pub pointer_number : Option ℕ → ℕ
pointer_number None = 2 ^ 64 - 1
pointer_number (Some n) = n
