-- The order of keys: segment by segment, absent first (MySQL Reference Manual, "Working with NULL Values"), then weight
-- by weight. Of two lists of which one begins the other, the shorter one is first, which is this project's own.
use Rattle.std.specs.Prelude.{List}
use Rattle.std.specs.Ordering.{nat_cmp}
use Rattle.std.specs.declared.cmp.Ordering.{Ordering}
use Rattle.std.specs.declared.cmp.Ordering.TheVariants.{Less, Equal, Greater}
use Rattle.std.specs.Cmp.Lexicographic.{slice_cmp}
use Rattle.myi_keys.specs.declared.values.KeySeg.{KeySeg}
use Rattle.myi_keys.specs.declared.values.KeySeg.TheVariants.{Absent, Weights}

-- absent before all weights
abbrev pub seg_cmp : KeySeg → KeySeg → Ordering
seg_cmp Absent Absent = Equal
seg_cmp Absent (Weights w) = Less
seg_cmp (Weights v) Absent = Greater
seg_cmp (Weights v) (Weights w) = slice_cmp nat_cmp v w

-- segment by segment, and a key that begins a longer one before it
abbrev pub key_cmp : List KeySeg → List KeySeg → Ordering
key_cmp = slice_cmp seg_cmp
