use Rattle.std.proofs.Common.{ap, sym, ◌∙◌, arith}
use Rattle.myi_search.specs.Path.{is_up_to}
use Rattle.myi_search.specs.Cursor.{CursorAt}
use Rattle.myi_search.specs.Runs.{pair_before}
use Rattle.myi_search.proofs.RunLaws.{no_pair, last_read}
use Rattle.myi_search.proofs.cursor.TreeCursor.bound.Goals as goal

pub returns-then-self-eq0 : goal.returns-then-self-eq0
returns-then-self-eq0 c = ap is_up_to (sym (ap (λ n. pair_before n c.self.inside.pairs) c.if-self-eq0.true) ∙ ap (λ (u : CursorAt). u.last) c.self.view_is)

pub returns : goal.returns
returns c = ap is_up_to (last_read c.self.inside.next c.self.inside.pairs c.code.result.now c.row.result (let ne = c.if-self-eq0.false in omega (arith, ne)) c.self.invariant (c.code.ensures.key no_pair) (c.code.ensures.value no_pair) (c.row.ensures no_pair) ∙ ap (λ (u : CursorAt). u.last) c.self.view_is)
