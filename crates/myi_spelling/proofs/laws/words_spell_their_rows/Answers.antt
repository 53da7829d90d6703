use Rattle.myi_spelling.proofs.RowLaws.{read, passing, of_bytes}
use Rattle.myi_spelling.proofs.laws.words_spell_their_rows.Goals as goal

pub returns : goal.returns
returns c = record { read = read; rows = passing; bytes = of_bytes }
