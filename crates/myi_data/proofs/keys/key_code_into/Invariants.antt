use Rattle.std.proofs.Common.{◌≡◌, map, take}
use Rattle.myi_keys.specs.Codes.{key_code}
use Rattle.myi_data.specs.Keys.{seg_of}
use Rattle.myi_data.proofs.keys.key_code_into.Given as goal

-- the code of the segments so far is written
abbrev pub invariant-loop-segment : goal.invariant-loop-segment
invariant-loop-segment l = record {
  row : l.row ≡ l.fn.row;
  written : l.code.items ≡ key_code (map (seg_of l.fields l.fn.row) (take l.segment-index l.segments));
}
