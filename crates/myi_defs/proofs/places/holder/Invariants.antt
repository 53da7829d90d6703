use Rattle.std.proofs.Common.{◌≡◌, ℕ, ◌≤◌, ◌<◌, false, slice_index_or}
use Rattle.myi_defs.specs.declared.header.FieldItem.{FieldItem}
use Rattle.myi_defs.specs.Conditions.{is_held}
use Rattle.myi_defs.proofs.places.holder.Given as goal

-- none so far holds the segment
abbrev pub invariant-loop-i : goal.invariant-loop-i
invariant-loop-i l = (k : ℕ) (d : FieldItem) → l.from ≤ k → k < l.i → is_held l.segment (slice_index_or l.fields k d) ≡ false
