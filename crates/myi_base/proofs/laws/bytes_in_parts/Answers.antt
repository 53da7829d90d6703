use Rattle.myi_base.proofs.BytesLaws.{bytes-none, bytes-take, bytes-drop, bytes-append, bytes-zeros}
use Rattle.myi_base.proofs.laws.bytes_in_parts.Goals as goal

pub returns-clause-none : goal.returns-clause-none
returns-clause-none c = bytes-none

pub returns-clause-take : goal.returns-clause-take
returns-clause-take c = bytes-take

pub returns-clause-drop : goal.returns-clause-drop
returns-clause-drop c = bytes-drop

pub returns-clause-append : goal.returns-clause-append
returns-clause-append c = bytes-append

pub returns-clause-zeros : goal.returns-clause-zeros
returns-clause-zeros c = bytes-zeros
