use Rattle.std.proofs.Common.{◌≡◌, drop, All, length}
use Rattle.myi_keys.specs.Limits.{IsSeg}
use Rattle.myi_script.specs.Reading.{parts_of}
use Rattle.myi_script.proofs.ReadingLemmas.{joined_parts}
use Rattle.myi_script.proofs.bound.parts_of.Given as goal

abbrev pub invariant-loop-segment : goal.invariant-loop-segment
invariant-loop-segment l = record {
  so_far : joined_parts l.parts.items (parts_of l.mark (drop l.segment-index l.segments) l.rest) ≡ parts_of 32 l.segments l.text;
  short : All IsSeg l.parts.items;
  count : length l.parts.items ≡ l.segment-index;
}
