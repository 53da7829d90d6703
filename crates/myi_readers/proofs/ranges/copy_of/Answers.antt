use Rattle.std.proofs.Common.{◌∙◌, sym}
use Rattle.myi_keys.proofs.CallerLemmas.{code_is, one_key}
use Rattle.myi_readers.proofs.ranges.copy_of.Goals as goal

pub of_code-requires : goal.of_code-requires
of_code-requires c = (code_is c.in_ok-code.code.items c.args.key.now c.code.ensures.key (c.in_ok-code.ensures.items ∙ c.code.ensures.value)).0

pub returns : goal.returns
returns c = one_key c.of_code.result c.args.key.now (sym c.of_code.ensures ∙ c.in_ok-code.ensures.items ∙ c.code.ensures.value)
