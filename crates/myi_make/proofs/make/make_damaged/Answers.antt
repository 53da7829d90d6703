use Rattle.std.proofs.Common.{◌≡◌, List, subst, rules}
use Rattle.myi_base.specs.Holding.{Told}
use Rattle.myi_opening.specs.Names.{rows_file}
use Rattle.myi_make.specs.Filling.{Block, Damages}
use Rattle.myi_make.proofs.MakeLaws.{damaged_told}
use Rattle.myi_make.proofs.make.make_damaged.Goals as goal

pub returns-clause-made : goal.returns-clause-made
returns-clause-made g c =
    let file : c.as_str.result.now ≡ rows_file c.args.name.now = search rules in
    let damaged = subst (λ (bs : List Block). Told (g.F.Files.holds c.fill_table.new.files) (g.F.Files.holds c.damage_blocks.new.files) (Damages c.as_str.result.now bs)) c.as_slice.ensures.value c.in_ok-damage_blocks.ensures.damaged in
    damaged_told c.args.name.now c.as_str.result.now c.args.count c.args.seed c.in_ok-blocks.blocks.items _ _ _ c.requires.some file c.in_ok-blocks.ensures.filled damaged
