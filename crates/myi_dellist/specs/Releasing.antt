-- How space becomes free (MySQL Internals Manual, "MyISAM Dynamic Data File Layout": deleted blocks form a list; that a
-- released block goes to its head, and what it is joined with, is this project's own).
use Rattle.std.specs.Prelude.{◌≡◌, ℕ, ◌+◌, ◌-◌, ◌%◌, ◌≤◌, ◌==◌, nat_le, if◌then◌else◌, List, [], ◌∷◌, Option, Some, None}
use Rattle.myi_dellist.specs.Areas.{Area}

-- the greatest size of a deleted block: the greatest multiple of 4 that three bytes hold
abbrev pub most_size : ℕ
most_size = 16777212

-- where a greater area is parted
abbrev pub half_size : ℕ
half_size = 8388608

-- the deleted block of a list that begins at a place
abbrev pub hole_at : ℕ → List Area → Option Area
hole_at p [] = None
hole_at p (h ∷ holes) = if h.at == p then Some h else hole_at p holes

-- the list without that block
abbrev pub without : ℕ → List Area → List Area
without p [] = []
without p (h ∷ holes) = if h.at == p then holes else h ∷ without p holes

-- the area and the deleted block directly behind it as one, where one deleted block may be so long
abbrev pub joined : Area → List Area → Option Area → List Area
joined a holes None = a ∷ holes
joined a holes (Some h) = if nat_le (a.size + h.size) most_size then record { at = a.at; size = a.size + h.size } ∷ without h.at holes else a ∷ holes

-- An area is joined with the deleted block directly behind it, once, and goes to the head of the list.
unfoldable pub release_one : Area → List Area → List Area
release_one a holes = joined a holes (hole_at (a.at + a.size) holes)

-- the two parts of a greater area
abbrev pub front_part : Area → Area
front_part a = record { at = a.at; size = half_size }

abbrev pub back_part : Area → Area
back_part a = record { at = a.at + half_size; size = a.size - half_size }

-- A greater area than a deleted block can be is released as two, the later part first.
unfoldable pub release : Area → List Area → List Area
release a holes =
    if nat_le a.size most_size then release_one a holes
    else release_one (front_part a) (release_one (back_part a) holes)

-- one after the other
abbrev pub release_all : List Area → List Area → List Area
release_all [] holes = holes
release_all (a ∷ areas) holes = release_all areas (release a holes)

-- an area that may be a deleted block
pub record IsHole (a : Area) : Type 0 where
  pub aligned : a.at % 4 ≡ 0
  pub multiple : a.size % 4 ≡ 0
  pub least : 20 ≤ a.size
  pub most : a.size ≤ most_size

-- an area that may be released: at most one block of a row, which is shorter
pub record IsFreeable (a : Area) : Type 0 where
  pub aligned : a.at % 4 ≡ 0
  pub multiple : a.size % 4 ≡ 0
  pub least : 20 ≤ a.size
  pub most : a.size ≤ half_size + most_size
