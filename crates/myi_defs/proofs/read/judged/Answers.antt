use Rattle.std.proofs.Common.{Err, ap, sym, ◌∙◌}
use Rattle.std.proofs.lemmas.Result.{err_from_is_err_and}
use Rattle.myi_defs.specs.Header.{outline}
use Rattle.myi_defs.proofs.ReadLemmas.{refusal-passes, wrong_lengths-judged}
use Rattle.myi_defs.proofs.PlaceLemmas.{types_not_empty}
use Rattle.myi_defs.proofs.read.judged.Goals as goal

pub returns-in_err-outline-clause-refused : goal.returns-in_err-outline-clause-refused
returns-in_err-outline-clause-refused c =
    let p = err_from_is_err_and c.from_residual.result c.from_residual.ensures.1 in
    rw (p.1, p.2) (λ other.
    wrong_lengths-judged (outline c.args.front c.args.header.now) c.args.header.now (c.in_err-outline.ensures.wrong other) ∙ ap Err (sym (c.in_err-outline.ensures.fault other)))

pub definitions-requires-clause-some : goal.definitions-requires-clause-some
definitions-requires-clause-some c =
    types_not_empty c.in_ok-outline.outline (refusal-passes c.in_ok-outline.outline (sym c.refusal.ensures ∙ c.in-None.is)).types
