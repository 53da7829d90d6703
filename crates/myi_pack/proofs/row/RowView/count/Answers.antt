use Rattle.std.proofs.Common.{length, sym, ap, ◌∙◌}
use Rattle.myi_pack.proofs.ViewLemmas.{length-values}
use Rattle.myi_pack.proofs.row.RowView.count.Goals as goal

pub returns : goal.returns
returns c =
    let i = c.self.inside in
    sym (length-values i.format i.fields.now 0 i.flags.now i.bytes.now c.self.invariant.left.some) ∙ ap length c.self.view_is
