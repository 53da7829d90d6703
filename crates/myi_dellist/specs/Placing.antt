-- Where the bytes of a row go in a data file of dynamic rows: first into the row's own blocks, then into the deleted blocks
-- from the head of their list, then behind the file's end (that a row is put into its own blocks: MySQL Internals Manual,
-- "MyISAM Dynamic Data File Layout"; the rest is this project's own).
use Rattle.std.specs.Prelude.{◌≡◌, ℕ, zero, suc, ◌+◌, ◌-◌, ◌%◌, ◌^◌, ◌≤◌, ◌<◌, ◌⊎◌, Bool, true, false, ◌&&◌, nat_lt, nat_le, if◌then◌else◌, List, [], ◌∷◌, ◌++◌, Option, Some, None}
use Rattle.std.specs.List.{flat_map}
use Rattle.myi_frames.specs.declared.write.FrameSpec.{FrameSpec}
use Rattle.myi_frames.specs.Sizes.{least_size, start_room, middle_room}
use Rattle.myi_frames.specs.Writing.{whole_spec, start_spec, middle_spec, end_spec, IsWritable}
use Rattle.myi_dellist.specs.declared.pieces.Piece.{Piece}
use Rattle.myi_dellist.specs.Areas.{Area}
use Rattle.myi_dellist.specs.Releasing.{most_size, half_size, front_part, back_part, release_all}

-- what no row uses: the deleted list from its head, and the file's end
pub record Space : Type 0 where
  pub holes : List Area
  pub end : ℕ

abbrev pub area_of : Piece → Area
area_of p = record { at = p.at; size = p.size }

abbrev pub areas_of : List Piece → List Area
areas_of [] = []
areas_of (p ∷ ps) = area_of p ∷ areas_of ps

-- how many row bytes these take together
abbrev pub taken_by : List Piece → ℕ
taken_by [] = 0
taken_by (p ∷ ps) = p.taken + taken_by ps

-- how many bytes these have together
abbrev pub sizes_of : List Piece → ℕ
sizes_of [] = 0
sizes_of (p ∷ ps) = p.size + sizes_of ps

-- ---- blocks that are taken; the row has `len` bytes, of which so many are left

-- how many row bytes a block of this size takes where it is not the last, as the first block and behind it
abbrev pub room : ℕ → Bool → ℕ → ℕ
room len true size = start_room len size
room len false size = middle_room size

-- what is left fits into a block of this size, as a whole row or an end
abbrev pub fits : ℕ → ℕ → Bool
fits left size = nat_lt left (2 ^ 24) && nat_le (least_size left) size

-- what is taken of a list of blocks: the blocks of the row, the bytes that are left, what is cut off, and the blocks that are not needed
pub record Taking : Type 0 where
  pub pieces : List Piece
  pub left : ℕ
  pub spare : List Area
  pub unused : List Area

-- the last block: of the least size, where what is behind it would be a block, and else the whole
abbrev pub take_last : Bool → ℕ → Area → List Area → Taking
take_last true left a more = record { pieces = record { at = a.at; size = least_size left; taken = left } ∷ []; left = 0; spare = record { at = a.at + least_size left; size = a.size - least_size left } ∷ []; unused = more }
take_last false left a more = record { pieces = record { at = a.at; size = a.size; taken = left } ∷ []; left = 0; spare = []; unused = more }

abbrev pub with_piece : Piece → Taking → Taking
with_piece p t = record { pieces = p ∷ t.pieces; left = t.left; spare = t.spare; unused = t.unused }

-- a block: the last one, or one that is filled
abbrev pub take_one : ℕ → Bool → ℕ → Area → List Area → Bool → (ℕ → Taking) → Taking
take_one len first left a more true go = take_last (nat_le (least_size left + 20) a.size) left a more
take_one len first left a more false go = with_piece (record { at = a.at; size = a.size; taken = room len first a.size }) (go (left - room len first a.size))

-- blocks of a list, in their order
abbrev pub take_from : ℕ → Bool → ℕ → List Area → Taking
take_from len first left [] = record { pieces = []; left = left; spare = []; unused = [] }
take_from len first left (a ∷ areas) = take_one len first left a areas (fits left a.size) (λ more. take_from len false more areas)

-- no block is taken where no byte is left
abbrev pub take_more : ℕ → Bool → ℕ → List Area → Taking
take_more len first zero areas = record { pieces = []; left = 0; spare = []; unused = areas }
take_more len first (suc left) areas = take_from len first (suc left) areas

-- ---- blocks at the file's end

-- a block of the least size, or the longest that is filled
abbrev pub append_one : ℕ → Bool → ℕ → ℕ → Bool → (ℕ → List Piece) → List Piece
append_one len first left at true go = record { at = at; size = least_size left; taken = left } ∷ []
append_one len first left at false go = record { at = at; size = most_size; taken = room len first most_size } ∷ go (left - room len first most_size)

-- Behind one another from a place on. Each takes a byte, so there are no more blocks than bytes.
abbrev pub append_from : ℕ → ℕ → Bool → ℕ → ℕ → List Piece
append_from zero len first left at = []
append_from (suc fuel) len first left at = append_one len first left at (nat_lt left (2 ^ 24)) (λ more. append_from fuel len false more (at + most_size))

-- the end behind blocks that follow one another from a place on
abbrev pub end_behind : ℕ → List Piece → ℕ
end_behind at [] = at
end_behind at (p ∷ ps) = end_behind (p.at + p.size) ps

abbrev pub is_none : List Piece → Bool
is_none [] = true
is_none (p ∷ ps) = false

-- ---- a row

-- the row's blocks, and what no row uses afterwards
pub record Placing : Type 0 where
  pub pieces : List Piece
  pub space : Space

-- the blocks behind the end, for what own blocks and deleted blocks do not take
abbrev pub last_pieces : ℕ → Taking → Taking → ℕ → List Piece
last_pieces len own more end = append_from more.left len (is_none (own.pieces ++ more.pieces)) more.left end

-- What is cut off is released first, then the own blocks that are not needed.
abbrev pub placed_by : Space → ℕ → Taking → Taking → Placing
placed_by s len own more =
    let last = last_pieces len own more s.end in
    record {
      pieces = (own.pieces ++ more.pieces) ++ last;
      space = record { holes = release_all (own.spare ++ (more.spare ++ own.unused)) more.unused; end = end_behind s.end last };
    }

-- a row of so many bytes, where these are its own blocks
unfoldable pub place : Space → List Area → ℕ → Placing
place s own len =
    let a = take_from len true len own in
    placed_by s len a (take_more len (is_none a.pieces) a.left s.holes)

-- a row of so many bytes behind the end, whatever is deleted
abbrev pub place_at_end : Space → ℕ → Placing
place_at_end s len =
    let last = append_from len len true len s.end in
    record { pieces = last; space = record { holes = s.holes; end = end_behind s.end last } }

-- ---- an update and a delete

-- an own block of a row of 2^24 bytes or more counts as two, where a deleted block could not be so long
abbrev pub own_parts : Area → List Area
own_parts a = if nat_le a.size most_size then a ∷ [] else front_part a ∷ back_part a ∷ []

abbrev pub own_areas : ℕ → List Area → List Area
own_areas len own = if nat_lt len (2 ^ 24) then own else flat_map own_parts own

-- a row of so many bytes takes the place of one with these blocks
abbrev pub update : Space → List Area → ℕ → Placing
update s own len = place s (own_areas len own) len

-- the blocks of a row are released from the first to the last
abbrev pub delete : Space → List Area → Space
delete s own = record { holes = release_all own s.holes; end = s.end }

-- ---- what is written

-- what a block says: a whole row, where it is the only one; else a start, middles and an end, each naming the next
abbrev pub specs_behind : List Piece → List FrameSpec
specs_behind [] = []
specs_behind (p ∷ []) = end_spec ∷ []
specs_behind (p ∷ q ∷ ps) = middle_spec (Some q.at) ∷ specs_behind (q ∷ ps)

abbrev pub specs_of : ℕ → List Piece → List FrameSpec
specs_of len [] = []
specs_of len (p ∷ []) = whole_spec len ∷ []
specs_of len (p ∷ q ∷ ps) = start_spec len (Some q.at) ∷ specs_behind (q ∷ ps)

-- each can be written with the row bytes that it takes
abbrev pub AreWritable : List FrameSpec → List Piece → Type 0
AreWritable [] [] = Unit {0}
AreWritable [] (p ∷ ps) = ⊥
AreWritable (f ∷ fs) [] = ⊥
AreWritable (f ∷ fs) (p ∷ ps) = IsWritable f p.taken p.size × AreWritable fs ps

-- a block that may be taken for a row of so many bytes
pub record IsUsable (len : ℕ) (a : Area) : Type 0 where
  pub aligned : a.at % 4 ≡ 0
  pub multiple : a.size % 4 ≡ 0
  pub least : 20 ≤ a.size
  pub most : a.size ≤ half_size + most_size
  pub giant : (len < 2 ^ 24) ⊎ (a.size ≤ most_size)

-- the place of a row is that of its first block
abbrev pub place_of : List Piece → Option ℕ
place_of [] = None
place_of (p ∷ ps) = Some p.at

-- where the next row goes: the head of the deleted list, or the end
abbrev pub next_place : List Area → ℕ → ℕ
next_place [] end = end
next_place (h ∷ holes) end = h.at
