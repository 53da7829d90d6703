use Rattle.std.proofs.Common.{◌∙◌, ap, is_eq}
use Rattle.std.specs.Ordering.{ordering_then}
use Rattle.std.specs.Prelude.{get_or}
use Rattle.myi_keys.specs.Comparing.{code_cmp}
use Rattle.myi_check.proofs.PairsLaws.{same_pair}
use Rattle.myi_check.proofs.pairs_met.is_pair.Goals as goal

pub returns : goal.returns
returns c = λ other.
    c.is_eq.ensures ∙ ap is_eq (c.then.ensures ∙ ap (λ o. ordering_then o c.cmp.result) c.compare_codes-order.ensures ∙ ap (λ o. ordering_then (code_cmp c.code.result.now c.code-2.result.now) o) c.cmp.ensures)
    ∙ same_pair c.args.met.now (get_or c.args.pairs.now c.args.i other) c.code.result.now c.code-2.result.now c.row.result c.code.ensures.value c.code.ensures.key (c.code-2.ensures.value other) (c.code-2.ensures.key other) (c.row.ensures other)
