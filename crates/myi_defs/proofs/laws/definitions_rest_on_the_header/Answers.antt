use Rattle.myi_defs.proofs.CallerLemmas.{read_defs-take, elsewhere}
use Rattle.myi_defs.proofs.laws.definitions_rest_on_the_header.Goals as goal

pub returns : goal.returns
returns c = record { front = read_defs-take; elsewhere = elsewhere }
