use Rattle.myi_inserter.proofs.LawLemmas.{put_folds, folded, folded_table}
use Rattle.myi_inserter.proofs.laws.put_rows_can_be_folded.Goals as goal

pub returns : goal.returns
returns c =
    let accepts = c.keyed_refusals_come_in_order.ensures.accepted in
    record { none = λ d base. tt; more = put_folds accepts; table = folded_table accepts c.keyed_changes_keep_tables.ensures.step; folded = folded accepts }
