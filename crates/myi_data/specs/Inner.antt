-- The scan that a scan of either format is.
use Rattle.std.specs.Prelude.{◌≡◌}
use Rattle.myi_defs.specs.declared.types.RowFormat.TheVariants.{Static, Dynamic}
use Rattle.myi_data.specs.declared.scan.Inner.{Inner}
use Rattle.myi_data.specs.declared.scan.Inner.TheVariants.{Slots, Blocks}
use Rattle.myi_data.specs.Scanning.{TableScan}

abbrev pub scan_in : Inner → TableScan
scan_in (Slots s) = s
scan_in (Blocks s) = s

-- each format has its scan
abbrev pub IsOfFormat : Inner → Type 0
IsOfFormat (Slots s) = s.test.format ≡ Static
IsOfFormat (Blocks s) = s.test.format ≡ Dynamic
