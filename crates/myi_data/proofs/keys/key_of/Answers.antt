use Rattle.std.proofs.Common.{sym, ap, ◌∙◌}
use Rattle.myi_keys.proofs.CallerLemmas.{one_key, code_is}
use Rattle.myi_data.specs.Keys.{key_of}
use Rattle.myi_data.proofs.keys.key_of.Goals as goal

pub of_code-requires : goal.of_code-requires
of_code-requires c = (code_is c.key_code_into.new.code.items _ c.in_ok-key_code_into.ensures.key c.in_ok-key_code_into.ensures.written).0

pub returns : goal.returns
returns c = one_key c.of_code.result _ (sym c.of_code.ensures ∙ c.in_ok-key_code_into.ensures.written) ∙ ap (key_of c.args.defs.now c.args.key) c.numbered-row.ensures
