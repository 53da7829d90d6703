-- The parts of a giant row as they are written, and how much of a row blocks take.
use Rattle.std.specs.Prelude.{ℕ, ◌+◌, List, [], ◌∷◌, length, take, Some}
use Rattle.myi_frames.specs.Sizes.{start_room}
use Rattle.myi_frames.specs.Writing.{block_bytes, start_spec}
use Rattle.myi_data.specs.Stored.{Share}

-- how many bytes of a row these blocks take
abbrev pub bytes_taken : List Share → ℕ
bytes_taken [] = 0
bytes_taken (b ∷ blocks) = b.taken + bytes_taken blocks

-- the start of a row, at a place, which names the place behind it
abbrev pub start_block : ℕ → ℕ → List ℕ → List ℕ
start_block at size b = block_bytes (start_spec (length b) (Some (at + size))) (take (start_room (length b) size) b) size
