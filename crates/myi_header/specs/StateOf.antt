-- The state that a header has, and the mark (the layout is that of the MySQL Internals Manual, "The .MYI
-- file"; the mark is this project's own).
use Rattle.std.specs.Prelude.{◌≢◌, ◌-◌, ℕ, Bool, not, ◌+◌, ◌*◌, ◌^◌, nat_lt, if◌then◌else◌, List, ◌++◌, length, map, replicate, Option, Some, Result, Ok, Err}
use Rattle.std.specs.Str.{bytes_eq}
use Rattle.myi_base.specs.Numbers.{num_at, pointer_of}
use Rattle.myi_base.specs.Items.{numbers}
use Rattle.myi_defs.specs.declared.types.Defs.{Defs}
use Rattle.myi_defs.specs.declared.layout.Layout.{Layout}
use Rattle.myi_header.specs.declared.state.State.{State}
use Rattle.myi_header.specs.declared.state.StateFault.{StateFault}
use Rattle.myi_header.specs.declared.state.StateFault.TheVariants.{Short, Foreign}
use Rattle.myi_defs.specs.Layout.{mark}
use Rattle.myi_header.specs.Layout.{layout_of, page_sizes, key_parts}
use Rattle.myi_header.specs.Parts.{part}

-- the places of the roots
abbrev pub roots_in : ℕ → List ℕ → List (Option ℕ)
roots_in keys x = map pointer_of (numbers 124 (replicate keys 8) x)

-- the bytes that are kept: the checksum and four numbers before the roots; the free pages and three numbers
-- behind them; the time of creation; the time of the last check and the numbers to the state's end
abbrev pub rest_at : Layout → List ℕ → List ℕ
rest_at l x =
    part 100 24 x
    ++ (part l.key_del (l.key_map - l.key_del) x
    ++ (part (l.key_map + 8) 8 x
    ++ part (l.recover_time + 8) (l.base - (l.recover_time + 8)) x))

-- the state in these bytes
unfoldable pub state_of : Defs → List ℕ → State
state_of d x = record {
  open_count = num_at 24 2 x;
  changed = num_at 26 1 x;
  sortkey = num_at 27 1 x;
  records = num_at 28 8 x;
  del = num_at 36 8 x;
  split = num_at 44 8 x;
  dellink = pointer_of (num_at 52 8 x);
  key_file_length = num_at 60 8 x;
  data_file_length = num_at 68 8 x;
  empty = num_at 76 8 x;
  key_empty = num_at 84 8 x;
  auto_increment = num_at 92 8 x;
  roots = roots_in (length d.keys) x;
  key_map = num_at (layout_of d).key_map 8 x;
  recover_time = num_at (layout_of d).recover_time 8 x;
  rest = rest_at (layout_of d) x;
}

-- the last six bytes of the base section are the mark
unfoldable pub has_mark : Defs → List ℕ → Bool
has_mark d x = bytes_eq (part ((layout_of d).base + 94) 6 x) mark

-- the state of a marked file, or why it has none
unfoldable pub read_state : Defs → List ℕ → Result State StateFault
read_state d x =
    if nat_lt (length x) (length d.raw) then Err Short
    else if not (has_mark d x) then Err Foreign
    else Ok (state_of d x)

-- a place that a pointer of eight bytes can have
abbrev pub IsPlace : Option ℕ → Type 0
IsPlace place = place ≢ Some (2 ^ 64 - 1)

-- how many bytes of a state are kept
abbrev pub rest_length : Defs → ℕ
rest_length d = 60 + 8 * page_sizes d + 4 * key_parts d
