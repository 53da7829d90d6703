use Rattle.myi_data.proofs.PlaceLemmas.{null_told, always_valued}
use Rattle.myi_data.proofs.laws.null_bits_tell.Goals as goal

pub returns : goal.returns
returns c = record { bit = null_told; always = always_valued }
