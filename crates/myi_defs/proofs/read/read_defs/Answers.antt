use Rattle.std.proofs.Common.{rules}
use Rattle.myi_defs.specs.ReadDefs.{read_defs}
use Rattle.myi_defs.specs.Header.{front}
use Rattle.myi_defs.proofs.ReadLemmas.{are_defs, raw-is}
use Rattle.myi_defs.proofs.read.read_defs.Goals as goal

pub returns-clause-itself : goal.returns-clause-itself
unfolding read_defs
returns-clause-itself c = are_defs c.args.bytes.now c.in_ok-defs.defs (search rules)

pub returns-clause-raw : goal.returns-clause-raw
unfolding read_defs front
returns-clause-raw c = raw-is c.args.bytes.now c.in_ok-defs.defs (search rules)
