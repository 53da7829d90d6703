-- What an index file says of the last analysis of its table (MySQL Internals Manual, "The .MYI file"): the number of rows for
-- which the rows per prefix were counted, and for each key part, key after key, how many rows go to one prefix of the key up to
-- that part. These numbers end the state. One bit of the changed bits says that they are not counted.
use Rattle.std.specs.Prelude.{◌≡◌, ◌≢◌, ◌⊎◌, ◌<◌, ◌≤◌, ℕ, ◌+◌, ◌-◌, ◌*◌, ◌^◌, List, [], ◌∷◌, ◌++◌, length, map, slice_index, bit_and}
use Rattle.std.specs.List.{AllByRecursion}
use Rattle.myi_base.specs.Numbers.{num_at, num_bytes}
use Rattle.myi_base.specs.Items.{spelling}
use Rattle.myi_base.specs.Holding.{overwritten}
use Rattle.myi_defs.specs.declared.types.Defs.{Defs}
use Rattle.myi_header.specs.Layout.{layout_of, key_parts}

-- where the changed bits stand
abbrev pub changed_place : ℕ
changed_place = 26

-- where the number of rows stands, behind the times of the last repair and the last check
abbrev pub rows_place : Defs → ℕ
rows_place d = (layout_of d).recover_time + 16

-- where the number of a key part stands, from 0, in the order of the keys
abbrev pub part_place : Defs → ℕ → ℕ
part_place d p = rows_place d + 8 + 4 * p

-- the changed bits, the number of rows and the number of a key part in an index file
abbrev pub changed_bits : List ℕ → ℕ
changed_bits x = num_at changed_place 1 x

abbrev pub rows_counted : Defs → List ℕ → ℕ
rows_counted d x = num_at (rows_place d) 8 x

abbrev pub part_number : Defs → ℕ → List ℕ → ℕ
part_number d p x = num_at (part_place d p) 4 x

-- the changed bit that says that the numbers are not counted
abbrev pub not_analyzed : ℕ
not_analyzed = 8

-- the bits without that one
abbrev pub analyzed_bits : ℕ → ℕ
analyzed_bits bits = bit_and bits (255 - not_analyzed)

-- the changed bit that says that the pages of the trees do not stand in their order, and the bits of a table that was made anew,
-- as by a repair or by sorting
abbrev pub not_sorted_pages : ℕ
not_sorted_pages = 32

abbrev pub anew_bits : ℕ
anew_bits = not_analyzed + not_sorted_pages

-- the bytes of these numbers
abbrev pub number_bytes : ℕ → List ℕ → List ℕ
number_bytes rows parts = num_bytes 8 rows ++ spelling (map (λ n. 4) parts) parts

-- an index file with these numbers of rows and of the first key parts, which are analyzed
unfoldable pub with_numbers : Defs → ℕ → List ℕ → List ℕ → List ℕ
with_numbers d rows parts x = overwritten (rows_place d) (number_bytes rows parts) (overwritten changed_place (analyzed_bits (changed_bits x) ∷ []) x)

-- an index file has room for these numbers, which fit their bytes
pub record HasRoomFor (d : Defs) (rows : ℕ) (parts x : List ℕ) : Type 0 where
  pub long : length d.raw ≤ length x
  pub few : length parts ≤ key_parts d
  pub counted : rows < 256 ^ 8
  pub small : AllByRecursion (λ n. n < 256 ^ 4) parts

-- a place of none of these
abbrev pub IsElsewhere : Defs → ℕ → ℕ → Type 0
IsElsewhere d parts i = (i ≢ changed_place) × ((i < rows_place d) ⊎ (part_place d parts ≤ i))

-- the index file of a table that was analyzed: the numbers are these, and all other bytes are those of the file before
pub record IsAnalyzed (d : Defs) (rows : ℕ) (numbers old new : List ℕ) : Type 0 where
  pub long : length new ≡ length old
  pub bits : changed_bits new ≡ analyzed_bits (changed_bits old)
  pub counted : rows_counted d new ≡ rows
  pub parts : (p : ℕ) → p < length numbers → part_number d p new ≡ slice_index numbers p
  pub elsewhere : (i : ℕ) → IsElsewhere d (length numbers) i → slice_index new i ≡ slice_index old i
