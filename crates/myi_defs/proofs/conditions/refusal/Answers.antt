use Rattle.std.proofs.Common.{sym, ◌∙◌}
use Rattle.myi_defs.proofs.PlaceLemmas.{types_not_empty}
use Rattle.myi_defs.proofs.conditions.refusal.Goals as goal

pub has_wrong_place-requires-clause-some : goal.has_wrong_place-requires-clause-some
has_wrong_place-requires-clause-some c = types_not_empty c.args.outline.now (sym c.has_wrong_types.ensures ∙ c.if-has_wrong_types.false)
