use Rattle.std.proofs.Common.{ℕ, List, ap, sym, ◌∙◌, subst}
use Rattle.myi_spelling.specs.Pieces.{Reading}
use Rattle.myi_tail.specs.Prefix.{BeginsWith}
use Rattle.myi_spelling.proofs.RowLaws.{rows_first}
use Rattle.myi_spelling.proofs.PieceLemmas.{all_read}
use Rattle.myi_spelling.proofs.rows.SpelledRows.read_on.Goals as goal

pub returns-clause-rows : goal.returns-clause-rows
returns-clause-rows c =
    let e = c.loop-test.ensures.row in
    let inv = c.loop.invariant in
    ap (λ (r : Reading). r.rows) e.same ∙ all_read c.args.words.now c.loop.self.rows inv.2 inv.1 e.none

pub returns-clause-more : goal.returns-clause-more
returns-clause-more c =
    let e = c.loop-test.ensures.row in
    let inv = c.loop.invariant in
    subst (λ (l : List (List ℕ)). BeginsWith l c.args.self.now.rows) (sym (ap (λ (r : Reading). r.rows) e.same ∙ all_read c.args.words.now c.loop.self.rows inv.2 inv.1 e.none))
    (rows_first c.args.words.now c.args.self.now.rows c.rows_are_bytes.ensures c.requires.more)
