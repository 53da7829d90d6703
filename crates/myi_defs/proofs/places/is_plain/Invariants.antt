use Rattle.std.proofs.Common.{◌≡◌, ℕ, ◌≤◌, ◌<◌, false, slice_index_or}
use Rattle.myi_defs.specs.declared.header.FieldItem.{FieldItem}
use Rattle.myi_defs.specs.Conditions.{is_plain_as}
use Rattle.myi_defs.proofs.places.is_plain.Given as goal

-- none so far holds the byte
abbrev pub invariant-loop-i : goal.invariant-loop-i
invariant-loop-i l = (k : ℕ) (d : FieldItem) → l.from ≤ k → k < l.i → is_plain_as l.place (slice_index_or l.fields k d) (slice_index_or l.fields k d).kind ≡ false
