-- Keys that reach past the header.
use Rattle.std.proofs.Common.{◌≡◌, ℕ, ◌+◌, ◌<◌, Bool, true, ◌||◌, List, refl, arith}
use Rattle.std.proofs.Math.Bool.{or-true}
use Rattle.std.proofs.lemmas.Bool.Decides.{nat_tests}
use Rattle.myi_defs.specs.declared.header.Front.{Front}
use Rattle.myi_defs.specs.declared.header.KeyItem.{KeyItem}
use Rattle.myi_defs.specs.Header.{keys_place, keys_length, key_items, outline}
use Rattle.myi_defs.specs.Conditions.{has_wrong_keys}
use Rattle.myi_defs.specs.ReadDefs.{has_wrong_lengths}

past_keys : (f : Front) (keys : List KeyItem) → f.header_length < keys_place f + keys_length keys → has_wrong_keys f keys ≡ true
unfolding has_wrong_keys
past_keys f keys past = grind (arith, nat_tests)

second : (a b c d : Bool) → b ≡ true → (a || b || c || d) ≡ true
second a b c d holds = rw holds (rw or-true refl)

pub past_lengths : (f : Front) (h : List ℕ) → f.header_length < keys_place f + keys_length (key_items f.keys (keys_place f) h) → has_wrong_lengths (outline f h) ≡ true
unfolding has_wrong_lengths outline
past_lengths f h past = second _ _ _ _ (past_keys f (key_items f.keys (keys_place f) h) past)
