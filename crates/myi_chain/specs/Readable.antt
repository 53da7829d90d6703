-- The rows that can be read in a data file of dynamic rows, sound or damaged, and the deleted blocks that
-- are passed (this project's own definition, for any test of what packs a row). From each place the first
-- rule that holds says what is met and where to go on; the ranges of rows that were met are used.
use Rattle.std.specs.Prelude.{◌+◌, ◌-◌, ◌==◌, ℕ, zero, suc, max, Bool, nat_lt, nat_le, if◌then◌else◌, List, [], ◌∷◌, ◌++◌, length, Option, Some, None, option_to_list}
use Rattle.std.specs.List.{flat_map}
use Rattle.myi_base.specs.Ranges.{Range}
use Rattle.myi_frames.specs.Block.{Block, block_of}
use Rattle.myi_chain.specs.Chain.{Reading, range_of, ranges, row_bytes, by_kind, chain_of}

-- a row: its place, its packed bytes, and the ranges of its blocks in the order of the chain
pub record Row : Type 0 where
  pub at : ℕ
  pub bytes : List ℕ
  pub blocks : List Range

-- what is met: a row, or a deleted block by its range
pub data Item : Type 0 where
  row : Row → Item
  free : Range → Item

-- where the used range that begins at a place ends, and 0 where none begins there
abbrev pub end_of : ℕ → List Range → ℕ
end_of p [] = 0
end_of p (r ∷ used) = if r.0 == p then max r.1 (end_of p used) else end_of p used

-- How far it is to the next place where no row starts: over a deleted block, a middle or an end, and else,
-- or where every place is to be tried, four bytes.
abbrev pub skip_by : Bool → Option Block → ℕ
skip_by extend None = 4
skip_by extend (Some b) = if extend then 4 else by_kind b.kind b.size 4 4 b.size b.size

-- the deleted block that is passed
abbrev pub free_by : Bool → Option Block → Option Item
free_by extend None = None
free_by extend (Some b) = if extend then None else by_kind b.kind (Some (free (range_of b))) None None None None

-- what is met at a place, where to go on, and the ranges that are used then
pub record Step : Type 0 where
  pub item : Option Item
  pub to : ℕ
  pub used : List Range

-- no row starts at the place
abbrev pub past : Bool → Reading → ℕ → List Range → Step
past extend read p used = record { item = free_by extend (read p); to = p + skip_by extend (read p); used = used }

-- the row of a chain that starts at the place
abbrev pub row_at : ℕ → List Block → Row
row_at p bs = record { at = p; bytes = row_bytes bs; blocks = ranges bs }

-- A chain whose bytes pack a row is met; the next place is behind its first block.
abbrev pub row_step : Bool → Reading → (List ℕ → Bool) → ℕ → List Range → Option (List Block) → Step
row_step extend read accepts p used None = past extend read p used
row_step extend read accepts p used (Some []) = past extend read p used
row_step extend read accepts p used (Some (b ∷ bs)) =
    if accepts (row_bytes (b ∷ bs)) then record { item = Some (row (row_at p (b ∷ bs))); to = p + b.size; used = used ++ ranges (b ∷ bs) }
    else past extend read p used

-- what is done at a place: a used range that begins there is passed whole
unfoldable pub step_of : Bool → Reading → (List ℕ → Bool) → ℕ → List Range → Step
step_of extend read accepts p used =
    if nat_lt p (end_of p used) then record { item = None; to = end_of p used; used = used }
    else row_step extend read accepts p used (chain_of read p used)

-- for a file of this length, read so, with every place tried or not
module _ (extend : Bool) (read : Reading) (len : ℕ) (accepts : List ℕ → Bool) where
  -- what is met from a place on, in so many steps at most
  unfoldable pub items : ℕ → ℕ → List Range → List Item
  items zero p used = []
  items (suc fuel) p used =
      if nat_le len p then [] else
      option_to_list (step_of extend read accepts p used).item ++ items fuel (step_of extend read accepts p used).to (step_of extend read accepts p used).used

  -- the places at which a step is done
  unfoldable pub places : ℕ → ℕ → List Range → List ℕ
  places zero p used = []
  places (suc fuel) p used =
      if nat_le len p then [] else
      p ∷ places fuel (step_of extend read accepts p used).to (step_of extend read accepts p used).used

  -- what is met from a place up to the file's end
  unfoldable pub rest : ℕ → List Range → List Item
  rest p used = items (len - p) p used

abbrev pub row_in : Item → List Row
row_in (row r) = r ∷ []
row_in (free a) = []

-- the rows among what is met
abbrev pub rows_of : List Item → List Row
rows_of is = flat_map row_in is

abbrev pub free_in : Item → List Range
free_in (row r) = []
free_in (free a) = a ∷ []

-- the deleted blocks among what is met
abbrev pub frees_of : List Item → List Range
frees_of is = flat_map free_in is

-- what is met in a data file, by its bytes
unfoldable pub items_in : Bool → (List ℕ → Bool) → List ℕ → List Item
items_in extend accepts d = rest extend (block_of d) (length d) accepts 0 []

-- the readable rows of a data file
unfoldable pub readable : Bool → (List ℕ → Bool) → List ℕ → List Row
readable extend accepts d = rows_of (items_in extend accepts d)
