use Rattle.std.proofs.Common.{arith, ◌≡◌, subst, ℕ, drop}
use Rattle.myi_pack.proofs.ViewLemmas.{goes_on, has_next, shows_here}
use Rattle.myi_pack.proofs.row.RowView.field.Goals as goal

pub loop-j-preserved : goal.loop-j-preserved
loop-j-preserved c = goes_on c.args.self.now _ c.next_field-passed.result _ c.loop-j._j c.next_field-passed.ensures c.loop-j.invariant

pub unwrap-requires : goal.unwrap-requires
unwrap-requires c = has_next c.args.self.now _ _ _ c.loop-j._j c.next_field.ensures c.loop-j.invariant (omega arith)

pub returns : goal.returns
returns c =
    let at : c.loop-j._j ≡ c.args.i = omega arith in
    let e : c.loop-j.fields ≡ drop c.args.i c.args.self.now = subst (λ (j : ℕ). c.loop-j.fields ≡ drop j c.args.self.now) at c.loop-j.invariant in
    shows_here c.args.self.now c.loop-j.fields c.unwrap.result c.next_field.result c.next_field.new.self c.args.i c.unwrap.ensures c.next_field.ensures e
