use Rattle.std.proofs.Common.{◌+◌, ◌-◌, arith}
use Rattle.std.proofs.lemmas.Slice.{drop-put_mid}
use Rattle.myi_base.proofs.numbers.put_number.Goals as goal

pub returns-then-width-gt0-clause-back : goal.returns-then-width-gt0-clause-back
returns-then-width-gt0-clause-back c =
    drop-put_mid c.args.at (c.args.at + c.args.width - c.args.at) c.args.into.now c.write_uint.new.buf (c.args.at + c.args.width) (omega arith) (omega arith) (omega (arith, c.write_uint.auto.buf))
