use Rattle.myi_keys.proofs.CallerLemmas.{seg_size}
use Rattle.myi_keys.proofs.CodeSizes.{key_bytes}
use Rattle.myi_keys.proofs.laws.codes_fit.Goals as goal

pub returns : goal.returns
returns c = record { bytes = key_bytes; length = seg_size }
