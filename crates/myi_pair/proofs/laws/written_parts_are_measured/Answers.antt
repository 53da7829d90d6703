use Rattle.myi_pair.proofs.CallerLemmas.{length-slot, pointer_near, new_rest}
use Rattle.myi_pair.proofs.laws.written_parts_are_measured.Goals as goal

pub returns : goal.returns
returns c = record { slot = length-slot; pointer = pointer_near; rest = new_rest }
