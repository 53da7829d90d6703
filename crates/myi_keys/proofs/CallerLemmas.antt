-- What the crates above cite. Each lemma states a clause of a law in src/laws.rt: `one_key` and `key_read` of
-- codes_read_back, `front_again`, `code_is` and `prefix_less`
-- of codes_stand_for_keys, `seg_size` of codes_fit, `weights_short` and `weights_few` of weights_fit.
use Rattle.std.proofs.Common.{◌≡◌, ◌≤◌, ℕ, List, length, max, Some, Ok, refl}
use Rattle.myi_defs.specs.declared.types.Segment.{Segment}
use Rattle.myi_defs.specs.Kinds.{int_size}
use Rattle.myi_keys.specs.declared.values.KeySeg.{KeySeg}
use Rattle.myi_keys.specs.Limits.{IsKey}
use Rattle.myi_keys.specs.Codes.{key_code}
use Rattle.myi_keys.specs.Decoding.{key_at}
use Rattle.myi_keys.specs.Weights.{weights, CanWeigh}
use Rattle.myi_keys.proofs.Decoded.{key_again}
use Rattle.myi_keys.proofs.WeightSizes.{fits_by, few_by}
pub use Rattle.myi_keys.proofs.Codings.{one_key}
pub use Rattle.myi_keys.proofs.Fronts.{code_is, front_again, prefix_less}
pub use Rattle.myi_keys.proofs.CodeSizes.{seg_size}

pub key_read : (key : List KeySeg) → IsKey key → key_at (key_code key) ≡ Ok key
key_read key is = key_again (key_code key) key is refl

pub weights_short : (seg : Segment) (content : List ℕ) → CanWeigh seg content → length (weights seg content) ≤ max seg.length 8
unfolding weights
weights_short seg content can = fits_by seg.seg seg.language seg.length content can

pub weights_few : (seg : Segment) (content : List ℕ) → ((n : ℕ) → int_size seg.seg ≡ Some n → seg.length ≡ n) → CanWeigh seg content → length (weights seg content) ≤ seg.length
unfolding weights
weights_few seg content sized can = few_by seg.seg seg.language seg.length content sized can
