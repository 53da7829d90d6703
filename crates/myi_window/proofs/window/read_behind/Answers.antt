use Rattle.std.proofs.Common.{◌+◌, ◌-◌, drop, arith}
use Rattle.myi_base.specs.Holding.{bytes_of}
use Rattle.myi_window.proofs.ExcerptLemmas.{placed}
use Rattle.myi_window.proofs.window.read_behind.Goals as goal

pub returns-clause-told : goal.returns-clause-told
returns-clause-told g c m held = placed c.args.skip c.in_ok-count.count c.args.room (c.args.skip + c.args.room - c.args.skip) c.args.buffer.now c.read_at.new.into _ (drop c.args.at (bytes_of c.args.name.now m)) c.requires (omega arith) (c.in_ok-count.ensures.told m held) (c.in_ok-count.ensures.bytes m held)
