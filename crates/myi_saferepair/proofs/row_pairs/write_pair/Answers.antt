use Rattle.std.proofs.Common.{sym, ap, ◌∙◌}
use Rattle.myi_keys.proofs.CallerLemmas.{one_key, code_is}
use Rattle.myi_keylist.specs.PairOrder.{pair_with}
use Rattle.myi_saferepair.proofs.row_pairs.write_pair.Goals as goal

pub of_code-requires : goal.of_code-requires
of_code-requires c = (code_is c.key_code_into.new.code.items _ c.in_ok-key_code_into.ensures.key c.in_ok-key_code_into.ensures.written).0

pub returns-clause-pair : goal.returns-clause-pair
returns-clause-pair c = ap (λ k. pair_with k c.args.pointer) (one_key c.of_code.result _ (sym c.of_code.ensures ∙ c.in_ok-key_code_into.ensures.written))
