use Rattle.std.proofs.Common.{subst, All}
use Rattle.myi_base.specs.Numbers.{AreBytes}
use Rattle.myi_spelling.specs.Pieces.{Reading}
use Rattle.myi_spelling.proofs.PieceLemmas.{bytes_in_pieces}
use Rattle.myi_spelling.proofs.rows.SpelledRows.rows_are_bytes.Goals as goal

pub returns : goal.returns
returns c = subst (λ (r : Reading). All AreBytes r.rows) c.self.view_is (bytes_in_pieces 0 c.self.inside.bytes.items c.self.inside.ends.items c.self.invariant.bytes)
