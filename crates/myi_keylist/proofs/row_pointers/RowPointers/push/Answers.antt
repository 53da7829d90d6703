use Rattle.std.proofs.Common.{◌∙◌, sym, arith}
use Rattle.std.proofs.lemmas.Bool.{eqb-true}
use Rattle.myi_keylist.proofs.RunLaws.{one_counted}
use Rattle.myi_keylist.proofs.row_pointers.RowPointers.push.Goals as goal

pub returns-then-is_empty-clause-added : goal.returns-then-is_empty-clause-added
returns-then-is_empty-clause-added c =
    let no_other = eqb-true _ _ (sym c.is_empty.ensures ∙ c.if-is_empty.true) in
    one_counted c.self.inside.same c.args.pointer c.self.inside.others.items c.args.self.now c.self.view_is (omega (arith, no_other, c.self.inside.others.ok.0)) (omega (arith, c.if-pointer-self.true))
