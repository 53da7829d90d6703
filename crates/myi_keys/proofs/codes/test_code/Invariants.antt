use Rattle.std.proofs.Common.{◌≡◌, ◌-◌, List}
use Rattle.myi_keys.specs.declared.values.KeySeg.{KeySeg}
use Rattle.myi_keys.specs.Decoding.{segs_at}
use Rattle.myi_keys.proofs.Readings.{with_front}
use Rattle.myi_keys.proofs.codes.test_code.Given as goal

-- the segments so far, and what is left, are all that is read
abbrev pub invariant-loop-turn : goal.invariant-loop-turn
invariant-loop-turn l = (front : List KeySeg) × (with_front front (segs_at (16 - l._turn) l.rest) ≡ segs_at 16 l.fn.bytes)
