use Rattle.std.proofs.Common.{sym, ◌∙◌, arith}
use Rattle.myi_opening.proofs.OpenLaws.{front_reads, judged_err}
use Rattle.myi_opening.proofs.opening.defs_of.Goals as goal

pub returns-in-Ok-clause-read : goal.returns-in-Ok-clause-read
returns-in-Ok-clause-read c = λ x front. sym (front_reads c.args.header.now x (λ i. omega (arith, c.type_inv.header i)) front) ∙ c.in-Ok.ensures.found

pub returns-in-Err-clause-refused : goal.returns-in-Err-clause-refused
returns-in-Err-clause-refused c = judged_err c.in-Err.fault c.args.header.now c.of_defs.result (λ i. omega (arith, c.type_inv.header i)) c.in-Err.ensures.refused c.of_defs.ensures.refused
