-- The numbers of the keys of a table, as its index file has them: key after key, for each part of a key the rows per prefix up to
-- it. Where they stand, and the file with new ones, are said with the header.
use Rattle.std.specs.Prelude.{ℕ, List}
use Rattle.std.specs.List.{flat_map}
use Rattle.myi_order.specs.declared.key_parts.KeyParts.{KeyParts}
pub use Rattle.myi_header.specs.Analysis.{with_numbers, IsAnalyzed}

abbrev pub all_per : List KeyParts → List ℕ
all_per parts = flat_map (λ (p : KeyParts). p.per) parts
