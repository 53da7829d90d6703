use Rattle.std.proofs.Common.{sym}
use Rattle.myi_data.proofs.KeyLemmas.{start_at}
use Rattle.myi_data.proofs.keys.start_of.Goals as goal

pub returns : goal.returns
returns c = sym (start_at c.args.fields.now c.args.i _ c.requires)
