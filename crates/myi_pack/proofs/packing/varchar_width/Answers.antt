use Rattle.std.proofs.Common.{sym}
use Rattle.myi_pack.proofs.WidthLaws.{varchar-wide}
use Rattle.myi_pack.proofs.packing.varchar_width.Goals as goal

pub returns-else-len-lt255-clause-value : goal.returns-else-len-lt255-clause-value
returns-else-len-lt255-clause-value c = sym (varchar-wide c.args.field c.args.len c.if-len-lt255.false.0 c.if-len-lt255.false.1)
