-- Where the state stands in the header of an index file with given definitions (MySQL Internals Manual, "The .MYI
-- file"). Its items follow the first 24 bytes: counts, the roots of the trees, the lists of free pages by their size,
-- times, and numbers for each part of a key.
use Rattle.std.specs.Prelude.{ℕ, length}
use Rattle.myi_base.specs.Numbers.{num_at}
use Rattle.myi_defs.specs.declared.types.Defs.{Defs}
use Rattle.myi_defs.specs.declared.layout.Layout.{Layout}
use Rattle.myi_defs.specs.Layout.{layout_by, first_page}

-- how many sizes of pages, and how many parts of keys, the header counts
abbrev pub page_sizes : Defs → ℕ
page_sizes d = num_at 21 1 d.raw

abbrev pub key_parts : Defs → ℕ
key_parts d = num_at 14 2 d.raw

abbrev pub layout_of : Defs → Layout
layout_of d = layout_by (length d.keys) (page_sizes d) (key_parts d)

-- the place of the first page
abbrev pub first_page_of : Defs → ℕ
first_page_of d = first_page (length d.raw)
