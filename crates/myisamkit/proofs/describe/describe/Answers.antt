use Rattle.std.proofs.Common.{sym, ap, ◌∙◌}
use Rattle.myi_opening.specs.Names.{index_file, rows_file}
use Rattle.myisamkit.specs.Turns.{described_text, described_status}
use Rattle.myisamkit.proofs.OpenLaws.{opened_as}
use Rattle.myisamkit.proofs.describe.describe.Goals as goal

pub returns-in-Ok-clause-said : goal.returns-in-Ok-clause-said
returns-in-Ok-clause-said g c m told =
    let t = opened_as _ _ (index_file c.args.name.now) (rows_file c.args.name.now) _ _ m (c.as_str.ensures.value ∙ c.in_ok-index.ensures) (c.as_str-2.ensures.value ∙ c.in_ok-rows.ensures) (c.in-Ok.ensures.table m told) in
    c.in_ok-text-in-Ok.ensures ∙ ap (described_text c.args.options.now c.args.name.now) (sym t.2)

pub returns-in-Ok-clause-status : goal.returns-in-Ok-clause-status
returns-in-Ok-clause-status g c m told =
    let t = opened_as _ _ (index_file c.args.name.now) (rows_file c.args.name.now) _ _ m (c.as_str.ensures.value ∙ c.in_ok-index.ensures) (c.as_str-2.ensures.value ∙ c.in_ok-rows.ensures) (c.in-Ok.ensures.table m told) in
    ap described_status (sym t.2)
