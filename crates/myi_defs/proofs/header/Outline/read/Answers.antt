use Rattle.std.proofs.Common.{arith}
use Rattle.std.proofs.lemmas.Result.{err_from_is_err_and}
use Rattle.myi_defs.proofs.OutlineLemmas.{past_lengths}
use Rattle.myi_defs.proofs.header.Outline.read.Goals as goal

pub returns-in_err-keys-clause-wrong : goal.returns-in_err-keys-clause-wrong
returns-in_err-keys-clause-wrong c =
    let p = err_from_is_err_and c.from_residual.result c.from_residual.ensures.1 in
    rw (p.1, p.2) (λ other. past_lengths c.args.front c.args.header.now (omega (arith, c.in_err-keys.ensures.past other)))
