-- The state of a table without rows.
use Rattle.std.specs.Prelude.{◌+◌, ◌*◌, ◌++◌, length, replicate, None}
use Rattle.myi_defs.specs.declared.types.Defs.{Defs}
use Rattle.myi_defs.specs.Layout.{all_keys}
use Rattle.myi_header.specs.declared.state.State.{State}
use Rattle.myi_header.specs.Layout.{page_sizes, key_parts, first_page_of}

-- All numbers are 0 but for the length of the index file, which ends before the first page, and the map of keys, which
-- are all in use. No key has a root, and no page of any size is free.
abbrev pub empty_state : Defs → State
empty_state d = record {
  open_count = 0;
  changed = 0;
  sortkey = 0;
  records = 0;
  del = 0;
  split = 0;
  dellink = None;
  key_file_length = first_page_of d;
  data_file_length = 0;
  empty = 0;
  key_empty = 0;
  auto_increment = 0;
  roots = replicate (length d.keys) None;
  key_map = all_keys (length d.keys);
  recover_time = 0;
  rest = replicate 24 0 ++ (replicate (8 * page_sizes d) 255 ++ replicate (36 + 4 * key_parts d) 0);
}
