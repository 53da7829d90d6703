use Rattle.std.proofs.Common.{◌≡◌, ◌++◌, drop, string_bytes}
use Rattle.std.specs.List.{flat_map}
use Rattle.myisamkit.specs.Descriptions.{segment_text}
use Rattle.myisamkit.proofs.description.push_segments.Given as goal

abbrev pub invariant-loop-segment : goal.invariant-loop-segment
invariant-loop-segment l = string_bytes l.text ++ flat_map segment_text (drop l.segment-index l.segments) ≡ string_bytes l.fn.text ++ flat_map segment_text l.fn.segments
