use Rattle.std.proofs.Common.{◌≡◌, ◌≤◌, ◌*◌, length, take}
use Rattle.myi_keys.specs.Codes.{key_code}
use Rattle.myi_keys.proofs.codes.code_length.Given as goal

abbrev pub invariant-loop-seg : goal.invariant-loop-seg
invariant-loop-seg l = record { so_far : l.length ≡ length (key_code (take l.seg-index l.segs)); bound : l.length ≤ 1003 * l.seg-index }
