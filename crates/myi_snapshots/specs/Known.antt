-- The rows that known words spell: their bytes are packed rows of a table (`myi_pack`).
use Rattle.std.specs.Prelude.{◌+◌, ◌^◌, ◌&&◌, ℕ, Bool, true, nat_lt, List, [], length, map, is_some, unwrap_or, sum_by}
use Rattle.std.specs.List.{flat_map}
use Rattle.myi_defs.specs.declared.types.RowFormat.{RowFormat}
use Rattle.myi_defs.specs.declared.types.RowFormat.TheVariants.{Static, Dynamic}
use Rattle.myi_defs.specs.declared.types.Defs.{Defs}
use Rattle.myi_pack.specs.Packed.{Values}
use Rattle.myi_pack.specs.Unpacking.{row_of}
use Rattle.myi_pack.specs.Spelling.{spelling}
use Rattle.myi_dellist.specs.Placing.{append_from, end_behind}
use Rattle.myi_tail.specs.Rows.{row_words}
use Rattle.myi_spelling.specs.Rows.{spelled_rows}

-- four bytes count the bytes of a dynamic row
abbrev pub is_short : RowFormat → ℕ → Bool
is_short Static n = true
is_short Dynamic n = nat_lt n (2 ^ 32)

-- these bytes pack a row of the table
abbrev pub is_row : Defs → List ℕ → Bool
is_row d bytes = is_some (row_of d bytes) && is_short d.format (length bytes)

-- the packed rows that the words spell one after the other, up to the first place where no whole row of the table stands
abbrev pub known_rows : Defs → List ℕ → List (List ℕ)
known_rows d words = spelled_rows (is_row d) words

-- rows as they are packed, each in its spelling
abbrev pub packed_rows : Defs → List Values → List (List ℕ)
packed_rows d rows = map (spelling d) rows

-- the words of rows
abbrev pub words_of_rows : Defs → List Values → List ℕ
words_of_rows d rows = flat_map row_words (packed_rows d rows)

-- the values of packed rows
abbrev pub values_of : Defs → List (List ℕ) → List Values
values_of d packed = map (λ bytes. unwrap_or (row_of d bytes) []) packed

-- how many bytes of the data file a row of so many packed bytes takes behind the end: a slot, or its blocks
abbrev pub size_by : RowFormat → ℕ → ℕ → ℕ
size_by Static slot len = slot
size_by Dynamic slot len = end_behind 0 (append_from len len true len 0)

abbrev pub size_of : Defs → List ℕ → ℕ
size_of d packed = size_by d.format d.slot_length (length packed)

-- where the data file ends behind packed rows that come behind an end
abbrev pub end_with : Defs → ℕ → List (List ℕ) → ℕ
end_with d end packed = end + sum_by (size_of d) packed
