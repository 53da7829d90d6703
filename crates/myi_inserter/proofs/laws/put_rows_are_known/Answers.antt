use Rattle.myi_inserter.proofs.LawLemmas.{words_spell, values_are, first_put, all_put}
use Rattle.myi_inserter.proofs.laws.put_rows_are_known.Goals as goal

pub returns : goal.returns
returns c =
    let law = c.first_inserted_rows_are_known.ensures in
    record { spelled = words_spell; values = values_are; first = first_put law; all = all_put law }
