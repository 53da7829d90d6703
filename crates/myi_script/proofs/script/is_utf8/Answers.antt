use Rattle.std.proofs.Common.{◌∙◌}
use Rattle.myi_script.proofs.ScriptLemmas.{utf8_is}
use Rattle.myi_script.proofs.script.is_utf8.Goals as goal

pub returns : goal.returns
returns c = c.is_ok.ensures.value ∙ utf8_is _ _ c.args.line.now c.from_utf8.result (λ s p. p.1) (λ e q. q.0) c.from_utf8.ensures.cases
