use Rattle.myi_spelling.proofs.RowLaws.{first_spelled}
use Rattle.myi_spelling.proofs.laws.first_words_spell_first_rows.Goals as goal

pub returns : goal.returns
returns c = first_spelled
