use Rattle.myi_chain.proofs.ChainLemmas.{chain_sound, chain_complete, chain_once}
use Rattle.myi_chain.proofs.CountLemmas.{chain_short}
use Rattle.myi_chain.proofs.BlockLemmas.{blocks_read}
use Rattle.myi_chain.proofs.GroupLemmas.{joined_far}
use Rattle.myi_chain.proofs.laws.chains_are_found.Goals as goal

pub returns : goal.returns
returns c = record { blocks = blocks_read; sound = chain_sound; complete = chain_complete; once = chain_once; few = chain_short; joined = joined_far }
