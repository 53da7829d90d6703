use Rattle.std.proofs.Common.{◌∙◌, List, Some, sym, ap}
use Rattle.myi_keys.specs.declared.values.KeySeg.{KeySeg}
use Rattle.myi_keys.proofs.CallerLemmas.{code_is, one_key}
use Rattle.myi_rounds.proofs.statements.bound_of.Goals as goal

pub of_code-requires : goal.of_code-requires
of_code-requires c = (code_is c.in_ok-code.code.items c.in-Some.key c.code.ensures.key (c.in_ok-code.ensures.items ∙ c.code.ensures.value)).0

pub returns : goal.returns
returns c = ap (λ (k : List KeySeg). Some k) (one_key c.of_code.result c.in-Some.key (sym c.of_code.ensures ∙ c.in_ok-code.ensures.items ∙ c.code.ensures.value)) ∙ sym c.in-Some.is
