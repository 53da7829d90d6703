use Rattle.myi_order.proofs.PrefixLaws.{ends_in_order}
use Rattle.myi_order.proofs.laws.prefixes_end_in_order.Goals as goal

pub returns : goal.returns
returns c = ends_in_order
