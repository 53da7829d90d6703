use Rattle.std.proofs.Common.{◌≡◌, ◌<◌, ◌^◌, List, ℕ, [], length, ap, sym, subst, ◌∙◌, arith}
use Rattle.std.specs.Prelude.{slice_index_or}
use Rattle.std.specs.List.{prefix_len}
use Rattle.std.proofs.lemmas.List.Folds.{length-prefix_len}
use Rattle.std.proofs.lemmas.List.Sums.{prefix_len-le-length}
use Rattle.myi_snapshots.specs.Known.{is_row, size_of}
use Rattle.myi_snapshots.specs.Knowing.{Knowing, packed_of}
use Rattle.myi_snapshots.proofs.CountLemmas.{counted_passes, counted_row}
use Rattle.myi_snapshots.proofs.KnownLemmas.{row_parts}
use Rattle.myi_snapshots.proofs.known.KnownRows.size.Goals as goal

pub row-requires : goal.row-requires
row-requires c =
    let p = is_row c.self.inside.defs in
    let seen = ap (λ (k : Knowing). length (packed_of k)) c.self.view_is in
    omega (arith, c.requires, length-prefix_len p c.self.inside.whole.rows, prefix_len-le-length p c.self.inside.whole.rows)

pub size_of-requires : goal.size_of-requires
size_of-requires c = λ dynamic.
    let d = c.self.inside.defs in
    let rows = c.self.inside.whole.rows in
    let seen = ap (λ (k : Knowing). length (packed_of k)) c.self.view_is in
    let lt : c.args.i < prefix_len (is_row d) rows = omega (arith, c.requires, length-prefix_len (is_row d) rows) in
    subst (λ (b : List ℕ). length b < 2 ^ 32) (sym c.row.ensures) ((row_parts d _ (counted_passes (is_row d) rows c.args.i lt)).1 dynamic)

pub returns : goal.returns
returns c =
    let d = c.self.inside.defs in
    let rows = c.self.inside.whole.rows in
    let seen = ap (λ (k : Knowing). length (packed_of k)) c.self.view_is in
    let lt : c.args.i < prefix_len (is_row d) rows = omega (arith, c.requires, length-prefix_len (is_row d) rows) in
    c.size_of.ensures ∙ ap (size_of d) (c.row.ensures ∙ sym (counted_row (is_row d) rows c.args.i lt)) ∙ ap (λ (k : Knowing). size_of k.defs (slice_index_or (packed_of k) c.args.i [])) c.self.view_is
