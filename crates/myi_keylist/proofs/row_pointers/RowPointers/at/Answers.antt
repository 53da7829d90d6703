use Rattle.std.proofs.Common.{◌∙◌, ◌-◌, ap, arith, get_or}
use Rattle.myi_keylist.proofs.RunLaws.{counted_at, other_at}
use Rattle.myi_keylist.proofs.row_pointers.RowPointers.at.Goals as goal

pub returns-then-number-self : goal.returns-then-number-self
returns-then-number-self c = counted_at c.self.inside.same c.args.number c.self.inside.others.items c.args.self.now c.self.view_is (omega (arith, c.if-number-self.true))

pub returns : goal.returns
returns c =
    let same = c.self.inside.same in
    c.pointer_at.ensures ∙ ap (λ xs. get_or xs (c.args.number - same) 0) c.deref.ensures.value
    ∙ other_at same c.args.number c.self.inside.others.items c.args.self.now c.self.view_is (omega (arith, c.if-number-self.false))
