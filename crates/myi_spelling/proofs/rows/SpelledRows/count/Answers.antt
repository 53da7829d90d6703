use Rattle.std.proofs.Common.{length, ap, arith}
use Rattle.myi_spelling.specs.Pieces.{Reading}
use Rattle.myi_spelling.proofs.PieceLemmas.{length-pieces}
use Rattle.myi_spelling.proofs.rows.SpelledRows.count.Goals as goal

pub returns : goal.returns
returns c =
    let seen = ap (λ (r : Reading). length r.rows) c.self.view_is in
    let ends = c.len.ensures in
    omega (arith, length-pieces 0 c.self.inside.bytes.items c.self.inside.ends.items)
