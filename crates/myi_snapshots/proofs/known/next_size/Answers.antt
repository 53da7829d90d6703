use Rattle.std.proofs.Common.{sym, ◌∙◌}
use Rattle.myi_snapshots.proofs.KnownLemmas.{row_parts}
use Rattle.myi_snapshots.proofs.known.next_size.Goals as goal

pub size_of-requires : goal.size_of-requires
size_of-requires c = (row_parts c.args.defs.now c.row-bytes.result.now (sym c.is_row.ensures ∙ c.if-not-is_row.false)).1
