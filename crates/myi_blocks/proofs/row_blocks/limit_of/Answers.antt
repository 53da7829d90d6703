use Rattle.std.proofs.Common.{◌≡◌, ◌∙◌, sym, true, arith}
use Rattle.myi_defs.specs.Addressable.{is_addressable}
use Rattle.myi_blocks.proofs.StepLemmas.{below-reached}
use Rattle.myi_blocks.proofs.row_blocks.limit_of.Goals as goal

pub returns-clause-above : goal.returns-clause-above
returns-clause-above c =
    let reached : is_addressable c.args.defs.now c.args.end ≡ true = sym c.addressable.ensures ∙ c.if-not-addressable.false in
    omega (arith, below-reached c.args.defs.now c.args.end c.requires reached, c.end_limit.ensures)
