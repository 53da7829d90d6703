-- The header of an empty table with given definitions: the header that they were read from, with the state of
-- a table without rows in the place of its own, with this project's mark, and with zeros up to the place of
-- the first index page (MySQL Internals Manual, "The .MYI file", for what a state is; the mark is this
-- project's own).
use Rattle.std.specs.Prelude.{ℕ, ◌+◌, ◌-◌, ◌*◌, List, ◌++◌, length, take, drop, replicate}
use Rattle.myi_base.specs.Numbers.{num_bytes}
use Rattle.myi_defs.specs.declared.header.Front.{Front}
use Rattle.myi_defs.specs.Header.{front}
use Rattle.myi_defs.specs.Layout.{mark, first_page, all_keys}

unfoldable pub zeros : ℕ → List ℕ
zeros n = replicate n 0

-- so many pointers that point to nothing
unfoldable pub nulls : ℕ → List ℕ
nulls n = replicate (8 * n) 255

-- the state from byte 24 to the base section. There are no rows and no pages, so each number is 0 but for: the
-- first deleted row, which is none; the length of the index file; for each key its root, and for each page size
-- its first unused page, which are none; and the map of the keys in use, which are all
unfoldable pub empty_state : Front → ℕ → List ℕ
empty_state f index_length =
    zeros 28  -- open_count 2, changed 1, sortkey 1; records, del and split 8 each
    ++ (nulls 1  -- dellink 8
    ++ (num_bytes 8 index_length  -- key_file_length 8
    ++ (zeros 56  -- data_file_length, empty, key_empty, auto_increment and checksum 8 each;
    -- process, unique, status and update_count 4 each
    ++ (nulls (f.keys + f.page_sizes)  -- key_root 8 a key; key_del 8 a page size
    ++ (zeros 12  -- sec_index_changed, sec_index_used and version 4 each
    ++ (num_bytes 8 (all_keys f.keys)  -- key_map 8
    ++ zeros (32 + 4 * f.key_parts)  -- create_time, recover_time, check_time and rec_per_key_rows 8 each;
    ))))))  -- 4 a key part

-- the first 24 bytes
unfoldable pub front_bytes : List ℕ → List ℕ
front_bytes x = take 24 x

-- the base section without its last six bytes
unfoldable pub base_bytes : ℕ → List ℕ → List ℕ
base_bytes at x = take 94 (drop at x)

unfoldable pub empty_header : List ℕ → List ℕ
empty_header x =
    let f = front x in
    let end = first_page (length x) in
    front_bytes x ++ (empty_state f end ++ (base_bytes f.base_pos x ++ (mark ++ (drop (f.base_pos + 100) x ++ zeros (end - length x)))))
