use Rattle.std.proofs.Common.{◌≤◌, ◌++◌, drop, length}
use Rattle.std.specs.List.{flat_map, slice_range}
use Rattle.myi_history.specs.RoundTexts.{part_of}
use Rattle.myi_history.proofs.PartLemmas.{Wrote}
use Rattle.myi_history.proofs.round_texts.write_parts.Given as goal

abbrev pub invariant-loop-text : goal.invariant-loop-text
invariant-loop-text g l = record {
  low : l.from ≤ l.to;
  high : l.to ≤ length l.bytes;
  later : g.O.Sink.faults l.fn.out ≤ g.O.Sink.faults l.out;
  so_far : Wrote (g.O.Sink.written l.fn.out) (g.O.Sink.written l.out) (flat_map (part_of l.bytes) l.said) (slice_range l.bytes l.from l.to ++ flat_map (part_of l.bytes) (drop l.text-index l.said));
}
