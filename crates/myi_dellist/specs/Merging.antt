-- An area that is free takes in the deleted block directly behind it: that block is taken off the list.
use Rattle.std.specs.Prelude.{◌≡◌, ℕ, ◌+◌, nat_le, if◌then◌else◌, List, length, Option, Some, None, Result, Ok, Err}
use Rattle.myi_base.specs.Holding.{Holding, bytes_of}
use Rattle.myi_frames.specs.declared.head.Head.{Head}
use Rattle.myi_dellist.specs.declared.linked.Linked.{Linked}
use Rattle.myi_dellist.specs.declared.links.Merged.{Merged}
use Rattle.myi_dellist.specs.Areas.{Area}
use Rattle.myi_dellist.specs.Releasing.{most_size, hole_at, without}
use Rattle.myi_dellist.specs.Standing.{KeepsBut, without_at}
use Rattle.myi_dellist.specs.Freeing.{hole_in, block_linked, hole_behind, joined_size, unlinked_bytes, Becomes}
use Rattle.myi_dellist.specs.FreeList.{ListState, HasHoles, MayRelease}

-- ---- on lists

-- the deleted block behind an area, where one deleted block may be as long as both
abbrev pub if_joins : ℕ → Option Area → Option Area
if_joins size None = None
if_joins size (Some h) = if nat_le (size + h.size) most_size then Some h else None

unfoldable pub joins : Area → List Area → Option Area
joins a holes = if_joins a.size (hole_at (a.at + a.size) holes)

-- how long both are, the list then, and the bytes then
abbrev pub size_with : ℕ → Option Area → ℕ
size_with size None = size
size_with size (Some h) = size + h.size

abbrev pub list_past : List Area → Option Area → List Area
list_past holes None = holes
list_past holes (Some h) = without h.at holes

abbrev pub bytes_past : List Area → List ℕ → Option Area → List ℕ
bytes_past holes d None = d
bytes_past holes d (Some h) = without_at h.at holes d

abbrev pub merged_size : Area → List Area → ℕ
merged_size a holes = size_with a.size (joins a holes)

abbrev pub merged : Area → List Area → List Area
merged a holes = list_past holes (joins a holes)

abbrev pub merged_bytes : Area → List Area → List ℕ → List ℕ
merged_bytes a holes d = bytes_past holes d (joins a holes)

-- ---- by the blocks that stand in the file

abbrev pub some_linked : Result Linked ℕ → Result (Option Linked) ℕ
some_linked (Ok l) = Ok (Some l)
some_linked (Err p) = Err p

abbrev pub merge_by : (ℕ → Option Head) → Option ℕ → Option Head → Result (Option Linked) ℕ
merge_by seen head None = Ok None
merge_by seen head (Some h) = some_linked (block_linked seen head h)

-- the deleted block that is taken in, with those beside it, or the place of the first block that is not what the list needs
unfoldable pub merge_in : (ℕ → Option Head) → Option ℕ → ℕ → ℕ → Result (Option Linked) ℕ
merge_in seen head at size = merge_by seen head (hole_behind seen at size)

-- the head of the list once a block is taken off it
abbrev pub head_by : Option ℕ → Option ℕ → Option Head → Option ℕ
head_by head next None = next
head_by head next (Some b) = head

abbrev pub head_past : Option ℕ → Option Linked → Option ℕ
head_past head None = head
head_past head (Some l) = head_by head l.hole.next l.before

-- the file holds what taking a block off the list writes, and the answer says how long both are and where the list begins
abbrev pub MergesOne : List ℕ → ℕ → Option ℕ → ℕ → ℕ → Merged → Holding → Holding → Type 0
MergesOne name end head at size r m n = length (bytes_of name m) ≡ end → (j : Option Linked) × (merge_in (hole_in (bytes_of name m)) head at size ≡ Ok j) × (r.size ≡ joined_size size j) × (r.head ≡ head_past head j) × Becomes name (unlinked_bytes j (bytes_of name m)) m n

-- ---- what the call does

-- the list is that without the block, exactly the bytes of that are written, and so many bytes are free
pub record TakesIn (k : ListState) (a : Area) (holes : List Area) (whole : ℕ) (d e : List ℕ) : Type 0 where
  pub bytes : e ≡ merged_bytes a holes d
  pub holes_are : HasHoles k (merged a holes) e
  pub keeps : KeepsBut (merged a holes) d e
  pub size : whole ≡ merged_size a holes

abbrev pub Merges : ListState → ListState → Area → ℕ → Holding → Holding → Type 0
Merges l k a whole m n = (holes : List Area) → HasHoles l holes (bytes_of l.name m) → MayRelease a holes (bytes_of l.name m) → TakesIn k a holes whole (bytes_of l.name m) (bytes_of l.name n)

-- each block that the call reads is what the list needs there
abbrev pub MergeFinds : ListState → Area → Holding → Type 0
MergeFinds l a m = (j : Option Linked) × (merge_in (hole_in (bytes_of l.name m)) l.head a.at a.size ≡ Ok j)

-- the first that is not stands at this place
abbrev pub MergeFindsBad : ListState → Area → ℕ → Holding → Type 0
MergeFindsBad l a at m = merge_in (hole_in (bytes_of l.name m)) l.head a.at a.size ≡ Err at
