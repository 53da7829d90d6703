use Rattle.std.proofs.Common.{◌≡◌}
use Rattle.std.specs.Prelude.{All, length}
use Rattle.myi_keys.specs.Limits.{IsSeg}
use Rattle.cases_formats.proofs.keys.key.Given as goal

abbrev pub invariant-loop-arg : goal.invariant-loop-arg
invariant-loop-arg l = record {
  segs : All IsSeg l.segments.items;
  count : length l.segments.items ≡ l.arg-index;
}
