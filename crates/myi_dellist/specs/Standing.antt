-- The deleted list in the bytes of a data file (MySQL Internals Manual, "MyISAM Dynamic Data File Layout"): each deleted block
-- names the next one and the one before it.
use Rattle.std.specs.Prelude.{◌≡◌, ℕ, ◌+◌, ◌^◌, ◌<◌, ◌≤◌, ◌==◌, ◌⊎◌, nat_le, if◌then◌else◌, List, [], ◌∷◌, length, take, drop, Option, Some, None}
use Rattle.std.specs.List.{AllByRecursion}
use Rattle.myi_base.specs.Holding.{overwritten}
use Rattle.myi_frames.specs.Block.{Block, block_of}
use Rattle.myi_frames.specs.Writing.{deleted_spec, deleted_head, written_block}
use Rattle.myi_dellist.specs.Areas.{Area, AreApart, AreInside}
use Rattle.myi_dellist.specs.Releasing.{most_size, hole_at, without, release_one, front_part, back_part, IsHole}

-- a deleted block with these neighbours
abbrev pub hole_block : Area → Option ℕ → Option ℕ → Block
hole_block a next prev = written_block (deleted_spec next prev) a.at a.size []

-- the first and the last of some blocks, and what stands there where there are none
abbrev pub first_or : List Area → Option ℕ → Option ℕ
first_or [] next = next
first_or (a ∷ areas) next = Some a.at

abbrev pub last_or : List Area → Option ℕ → Option ℕ
last_or [] prev = prev
last_or (a ∷ areas) prev = last_or areas (Some a.at)

-- a part of the list: its first block names `prev` as the one before it, its last one `next` as the next
abbrev pub IsPart : List ℕ → Option ℕ → List Area → Option ℕ → Type 0
IsPart d prev [] next = Unit {0}
IsPart d prev (a ∷ areas) next = (block_of d a.at ≡ Some (hole_block a (first_or areas next) prev)) × IsPart d (Some a.at) areas next

-- the deleted list of a file is these blocks, from its head
pub record HasList (d : List ℕ) (holes : List Area) : Type 0 where
  pub linked : IsPart d None holes None
  pub sizes : AllByRecursion IsHole holes
  pub inside : AreInside (length d) holes
  pub apart : AreApart holes
  pub short : length d < 2 ^ 64

-- the first 20 bytes of a deleted block are written anew
abbrev pub with_head : Area → Option ℕ → Option ℕ → List ℕ → List ℕ
with_head a next prev d = overwritten a.at (deleted_head a.size next prev) d

-- the last of these blocks names another next one
abbrev pub with_next : List Area → Option ℕ → Option ℕ → List ℕ → List ℕ
with_next [] prev next d = d
with_next (a ∷ []) prev next d = with_head a next prev d
with_next (a ∷ b ∷ areas) prev next d = with_next (b ∷ areas) (Some a.at) next d

-- the first of these blocks names another one before it
abbrev pub with_prev : List Area → Option ℕ → Option ℕ → List ℕ → List ℕ
with_prev [] prev next d = d
with_prev (a ∷ areas) prev next d = with_head a (first_or areas next) prev d

-- the block between these is taken off the list
abbrev pub without_block : List Area → List Area → List ℕ → List ℕ
without_block before behind d = with_prev behind (last_or before None) None (with_next before None (first_or behind None) d)

-- an area becomes the head of the list
abbrev pub with_first : Area → List Area → List ℕ → List ℕ
with_first a holes d = with_prev holes (Some a.at) None (with_head a (first_or holes None) None d)

-- no byte changes but the first 20 of each of these blocks
pub record KeepsBut (holes : List Area) (d e : List ℕ) : Type 0 where
  pub long : length e ≡ length d
  pub bytes : (p n : ℕ) → p + n ≤ length d → AllByRecursion (λ a. (p + n ≤ a.at) ⊎ (a.at + 20 ≤ p)) holes → take n (drop p e) ≡ take n (drop p d)

-- ---- what releasing an area writes

-- the blocks of a list before the one at a place, and behind it
abbrev pub before : ℕ → List Area → List Area
before p [] = []
before p (h ∷ holes) = if h.at == p then [] else h ∷ before p holes

abbrev pub behind : ℕ → List Area → List Area
behind p [] = []
behind p (h ∷ holes) = if h.at == p then holes else behind p holes

-- the bytes after a block at a place was taken off the list
abbrev pub without_at : ℕ → List Area → List ℕ → List ℕ
without_at p holes d = without_block (before p holes) (behind p holes) d

abbrev pub joined_bytes : Area → List Area → List ℕ → Option Area → List ℕ
joined_bytes a holes d None = with_first a holes d
joined_bytes a holes d (Some h) =
    if nat_le (a.size + h.size) most_size then with_first (record { at = a.at; size = a.size + h.size }) (without h.at holes) (without_at h.at holes d)
    else with_first a holes d

-- the bytes after an area that a deleted block can be was released
unfoldable pub release_one_bytes : Area → List Area → List ℕ → List ℕ
release_one_bytes a holes d = joined_bytes a holes d (hole_at (a.at + a.size) holes)

-- the bytes after an area was released
unfoldable pub release_bytes : Area → List Area → List ℕ → List ℕ
release_bytes a holes d =
    if nat_le a.size most_size then release_one_bytes a holes d
    else release_one_bytes (front_part a) (release_one (back_part a) holes) (release_one_bytes (back_part a) holes d)

-- the deleted list of a changed file is these blocks, and no other byte changed
pub record LeavesList (holes : List Area) (d e : List ℕ) : Type 0 where
  pub list : HasList e holes
  pub keeps : KeepsBut holes d e
