use Rattle.std.proofs.Common.{◌∙◌, sym}
use Rattle.myi_dellist.proofs.ChainLemmas.{step-none, step-header}
use Rattle.myi_dellist.proofs.chains.step_by.Goals as goal

pub returns-in_default-clause-told : goal.returns-in_default-clause-told
returns-in_default-clause-told c d long part = sym (step-none d c.args.link.now (c.in_default.ensures.block d long part))

pub returns-clause-told : goal.returns-clause-told
returns-clause-told c d long part = c.step_of.ensures.step ∙ step-header d c.args.link.now c.in-Some.header (c.in-Some.ensures.block d long part)
