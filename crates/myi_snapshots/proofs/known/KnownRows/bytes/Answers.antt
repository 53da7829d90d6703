use Rattle.std.proofs.Common.{◌<◌, [], length, ap, sym, ◌∙◌, arith}
use Rattle.std.specs.Prelude.{slice_index_or}
use Rattle.std.specs.List.{prefix_len}
use Rattle.std.proofs.lemmas.List.Folds.{length-prefix_len}
use Rattle.std.proofs.lemmas.List.Sums.{prefix_len-le-length}
use Rattle.myi_snapshots.specs.Known.{is_row}
use Rattle.myi_snapshots.specs.Knowing.{Knowing, packed_of}
use Rattle.myi_snapshots.proofs.CountLemmas.{counted_row}
use Rattle.myi_snapshots.proofs.known.KnownRows.bytes.Goals as goal

pub row-requires : goal.row-requires
row-requires c =
    let p = is_row c.self.inside.defs in
    let seen = ap (λ (k : Knowing). length (packed_of k)) c.self.view_is in
    omega (arith, c.requires, length-prefix_len p c.self.inside.whole.rows, prefix_len-le-length p c.self.inside.whole.rows)

pub returns : goal.returns
returns c =
    let p = is_row c.self.inside.defs in
    let seen = ap (λ (k : Knowing). length (packed_of k)) c.self.view_is in
    let lt : c.args.i < prefix_len p c.self.inside.whole.rows = omega (arith, c.requires, length-prefix_len p c.self.inside.whole.rows) in
    c.row.ensures ∙ sym (counted_row p c.self.inside.whole.rows c.args.i lt) ∙ ap (λ (k : Knowing). slice_index_or (packed_of k) c.args.i []) c.self.view_is
