-- What a key value may be, and when it is complete (MySQL Reference Manual, "The MyISAM Storage Engine": an index has
-- at most 16 columns and a key at most 1000 bytes; that each segment may have 1000 weights is this project's own).
use Rattle.std.specs.Prelude.{◌≤◌, Bool, true, false, List, length, All}
use Rattle.std.specs.List.{list_all}
use Rattle.myi_keys.specs.declared.values.KeySeg.{KeySeg}
use Rattle.myi_keys.specs.declared.values.KeySeg.TheVariants.{Absent, Weights}

-- a segment is absent or has at most 1000 weights
abbrev pub IsSeg : KeySeg → Type 0
IsSeg Absent = Unit {0}
IsSeg (Weights w) = length w ≤ 1000

-- a key has at most 16 segments
abbrev pub IsKey : List KeySeg → Type 0
IsKey segs = (length segs ≤ 16) × All IsSeg segs

-- whether the row has a value here
abbrev pub is_present : KeySeg → Bool
is_present Absent = false
is_present (Weights w) = true

-- a key is complete where no segment is absent
abbrev pub is_complete : List KeySeg → Bool
is_complete segs = list_all is_present segs
