-- What the form of a header fixes, and where its parts stand whose place depends on its counts of keys, of page sizes
-- and of key parts (MySQL Internals Manual, "The .MYI file"; the mark is this project's own). The state follows the
-- first 24 bytes, and the base section, which has 100, follows the state.
use Rattle.std.specs.Prelude.{ℕ, ◌+◌, ◌-◌, ◌*◌, ◌/◌, ◌^◌, min, List, [], ◌∷◌}
use Rattle.myi_defs.specs.declared.layout.Layout.{Layout}

-- how many fields and keys a table has at most, and how many segments a key (MySQL Reference Manual, "Limits on Table
-- Column Count" and "The MyISAM Storage Engine")
abbrev pub most_fields : ℕ
most_fields = 4096

abbrev pub most_keys : ℕ
most_keys = 64

abbrev pub most_segments : ℕ
most_segments = 16

-- the last six bytes of the base section, which are otherwise unused: "RK", and the version 2
abbrev pub mark : List ℕ
mark = 0x52 ∷ 0x4B ∷ 2 ∷ 0 ∷ 0 ∷ 0 ∷ []

-- where the base section stands
abbrev pub base_place : ℕ → ℕ → ℕ → ℕ
base_place keys sizes parts = 176 + 8 * keys + 8 * sizes + 4 * parts

-- The roots of the trees stand at 124, eight bytes each. Behind them follow the first free page of each size, twelve
-- bytes, the map of keys and eight bytes, the time of the last repair, and what is counted to the base section.
abbrev pub layout_by : ℕ → ℕ → ℕ → Layout
layout_by keys sizes parts =
    let key_del = 124 + 8 * keys in
    let key_map = key_del + 8 * sizes + 12 in
    record { key_del = key_del; key_map = key_map; recover_time = key_map + 16; base = base_place keys sizes parts }

-- where the first index page stands: the first multiple of 1024 that is not inside the header
abbrev pub first_page : ℕ → ℕ
first_page header_length = (header_length + 1023) / 1024 * 1024

-- the map of so many keys that are all in use: one bit for each, of at most 64
unfoldable pub all_keys : ℕ → ℕ
all_keys keys = min (2 ^ 64 - 1) (2 ^ keys - 1)
