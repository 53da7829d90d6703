use Rattle.std.proofs.Common.{length, ap, arith}
use Rattle.myi_spelling.specs.Pieces.{Reading}
use Rattle.myi_spelling.proofs.PieceLemmas.{length-pieces}
use Rattle.myi_spelling.proofs.rows.SpelledRows.row.Goals as goal

pub piece-requires-clause-there : goal.piece-requires-clause-there
piece-requires-clause-there c =
    let size = length-pieces 0 c.self.inside.bytes.items c.self.inside.ends.items in
    let seen = ap (λ (r : Reading). length r.rows) c.self.view_is in
    let ends = ap length c.deref-2.ensures.value in
    omega (arith, c.requires)
