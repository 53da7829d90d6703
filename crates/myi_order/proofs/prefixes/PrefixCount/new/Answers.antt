use Rattle.std.proofs.Common.{refl}
use Rattle.myi_order.proofs.PrefixCountLaws.{none_counted, none_room}
use Rattle.myi_order.proofs.prefixes.PrefixCount.new.Goals as goal

pub returns-clause-counted : goal.returns-clause-counted
returns-clause-counted c = none_counted _ c.args.segments refl refl c.in_ok-zeros.ensures

pub returns-clause-room : goal.returns-clause-room
returns-clause-room c = none_room _ c.args.segments c.in_ok-zeros.ensures
