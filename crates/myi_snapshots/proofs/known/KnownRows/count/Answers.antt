use Rattle.std.proofs.Common.{length, ap, sym, ◌∙◌}
use Rattle.std.proofs.lemmas.List.Folds.{length-prefix_len}
use Rattle.myi_snapshots.specs.Known.{is_row}
use Rattle.myi_snapshots.specs.Knowing.{Knowing, packed_of}
use Rattle.myi_snapshots.proofs.known.KnownRows.count.Goals as goal

pub returns : goal.returns
returns c =
    c.self.invariant.counted ∙ sym (length-prefix_len (is_row c.self.inside.defs) c.self.inside.whole.rows) ∙ ap (λ (k : Knowing). length (packed_of k)) c.self.view_is
