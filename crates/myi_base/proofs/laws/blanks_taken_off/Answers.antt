use Rattle.std.proofs.Common.{arith}
use Rattle.myi_base.proofs.BlankLaws.{blanks_short, blanks_only, no_blank_left}
use Rattle.myi_base.proofs.laws.blanks_taken_off.Goals as goal

pub returns : goal.returns
returns c = record { blanks = blanks_only; short = λ bytes. omega (arith, blanks_short bytes); last = no_blank_left }
