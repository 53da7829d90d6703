-- What the calls on the deleted list of a file do to the list and to the file's bytes.
use Rattle.std.specs.Prelude.{◌≡◌, ℕ, ◌+◌, Bool, true, false, List, length, Option, Some, None, Ok, Err, nat_le, if◌then◌else◌}
use Rattle.std.specs.List.{AllByRecursion}
use Rattle.myi_base.specs.Holding.{Holding, bytes_of}
use Rattle.myi_dellist.specs.declared.linked.ReleasePlan.{ReleasePlan}
use Rattle.myi_dellist.specs.Areas.{Area, IsApart}
use Rattle.myi_dellist.specs.Releasing.{most_size, hole_at, back_part, release}
use Rattle.myi_dellist.specs.Standing.{HasList, KeepsBut, first_or, release_bytes}
use Rattle.myi_dellist.specs.Freeing.{hole_in, plan_in}

-- the name of a file, the head of its deleted list, its length, and the place that it stays below
pub record ListState : Type 0 where
  pub name : List ℕ
  pub head : Option ℕ
  pub end : ℕ
  pub end_below : ℕ

-- where the next row goes, and whether a deleted block is there: at the head of the list, or at the end
abbrev pub next_by : Option ℕ → ℕ → ℕ × Bool
next_by (Some p) end = (p, true)
next_by None end = (end, false)

-- the file's deleted list is these blocks
pub record HasHoles (l : ListState) (holes : List Area) (d : List ℕ) : Type 0 where
  pub head : l.head ≡ first_or holes None
  pub list : HasList d holes

-- the area has no byte of a deleted block, and a deleted block directly behind it is on the list
pub record MayRelease (a : Area) (holes : List Area) (d : List ℕ) : Type 0 where
  pub apart : AllByRecursion (IsApart a) holes
  pub behind : hole_at (a.at + a.size) holes ≡ None → hole_in d (a.at + a.size) ≡ None

-- exactly the bytes of a release are written, so that the list is that which the definitions on lists say, and no byte
-- changes but the first 20 of blocks that are on it then
pub record Frees (l : ListState) (a : Area) (holes : List Area) (d e : List ℕ) : Type 0 where
  pub bytes : e ≡ release_bytes a holes d
  pub holes_are : HasHoles l (release a holes) e
  pub keeps : KeepsBut (release a holes) d e

-- in a file that has a list, an area is released that may be
abbrev pub Releases : ListState → ListState → Area → Holding → Holding → Type 0
Releases l k a m n = (holes : List Area) → HasHoles l holes (bytes_of l.name m) → MayRelease a holes (bytes_of l.name m) → Frees k a holes (bytes_of l.name m) (bytes_of l.name n)

-- the file is as long as the list says
abbrev pub IsLong : ListState → Holding → Type 0
IsLong l m = length (bytes_of l.name m) ≡ l.end

-- the area for which a release reads the list: of a longer one its back part
abbrev pub read_part : Area → Area
read_part a = if nat_le a.size most_size then a else back_part a

-- each block that a release reads is what the list needs there
abbrev pub FindsAll : ListState → Area → Holding → Type 0
FindsAll l a m = (p : ReleasePlan) × (plan_in (hole_in (bytes_of l.name m)) l.head (read_part a).at (read_part a).size ≡ Ok p)

-- the first that is not stands at this place
abbrev pub FindsBad : ListState → Area → ℕ → Holding → Type 0
FindsBad l a at m = plan_in (hole_in (bytes_of l.name m)) l.head (read_part a).at (read_part a).size ≡ Err at
