use Rattle.std.proofs.Common.{◌≡◌, ◌<◌, true, List, ℕ, length, is_some, ap, sym, subst, arith}
use Rattle.std.specs.List.{prefix_len}
use Rattle.std.proofs.lemmas.List.Folds.{length-prefix_len}
use Rattle.myi_pack.specs.Unpacking.{row_of}
use Rattle.myi_snapshots.specs.Known.{is_row}
use Rattle.myi_snapshots.specs.Knowing.{Knowing, packed_of}
use Rattle.myi_snapshots.proofs.CountLemmas.{counted_passes}
use Rattle.myi_snapshots.proofs.KnownLemmas.{row_parts}
use Rattle.myi_snapshots.proofs.known.KnownRows.row.Goals as goal

pub view_packed-view-requires-clause-packed : goal.view_packed-view-requires-clause-packed
view_packed-view-requires-clause-packed c =
    let d = c.self.inside.defs in
    let rows = c.self.inside.whole.rows in
    let seen = ap (λ (k : Knowing). length (packed_of k)) c.self.view_is in
    let lt : c.args.i < prefix_len (is_row d) rows = omega (arith, c.requires, length-prefix_len (is_row d) rows) in
    subst (λ (b : List ℕ). is_some (row_of d b) ≡ true) (sym c.row.ensures) (row_parts d _ (counted_passes (is_row d) rows c.args.i lt)).0
