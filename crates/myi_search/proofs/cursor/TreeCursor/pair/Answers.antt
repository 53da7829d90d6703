use Rattle.std.proofs.Common.{ap, sym, ◌∙◌, ◌-◌, arith}
use Rattle.myi_search.specs.Cursor.{CursorAt}
use Rattle.myi_search.specs.Runs.{pair_before}
use Rattle.std.proofs.Common.{get_or}
use Rattle.myi_search.proofs.RunLaws.{no_pair, last_read, code_read}
use Rattle.myi_search.proofs.cursor.TreeCursor.pair.Goals as goal

pub returns-then-self-eq0-clause-pair : goal.returns-then-self-eq0-clause-pair
returns-then-self-eq0-clause-pair c = sym (ap (λ n. pair_before n c.self.inside.pairs) c.if-self-eq0.true) ∙ ap (λ (u : CursorAt). u.last) c.self.view_is

pub returns-clause-pair : goal.returns-clause-pair
returns-clause-pair c = last_read c.self.inside.next c.self.inside.pairs c.code.result.now c.row.result (let ne = c.if-self-eq0.false in omega (arith, ne)) c.self.invariant (c.code.ensures.key no_pair) (c.code.ensures.value no_pair) (c.row.ensures no_pair) ∙ ap (λ (u : CursorAt). u.last) c.self.view_is

pub returns-clause-code : goal.returns-clause-code
returns-clause-code c = code_read c.code.result.now (get_or c.self.inside.pairs (c.self.inside.next - 1) no_pair) (c.code.ensures.key no_pair) (c.code.ensures.value no_pair)
