use Rattle.std.proofs.Common.{◌≡◌, subst}
use Rattle.myi_base.specs.Numbers.{AreBytes}
use Rattle.myi_base.proofs.CallerLemmas.{told_more}
use Rattle.myi_table.specs.Creating.{MakesEmpty}
use Rattle.myi_table.proofs.table.Table.create.Goals as goal

pub returns-in-Ok-clause-made : goal.returns-in-Ok-clause-made
returns-in-Ok-clause-made g c =
    let bytes : AreBytes c.args.defs.now.raw = subst AreBytes c.as_slice.ensures c.slices_are_bytes.ensures in
    told_more _ _ _ (MakesEmpty c.args.name.now c.args.defs.now) c.in-Ok.ensures.made (λ m n held made. record { made = made; stand = c.empty_tables_stand.ensures c.args.defs.now c.requires.defs bytes })
