use Rattle.myi_deftext.proofs.GrammarLaws.{one_table, one_line, text_or_outside}
use Rattle.myi_deftext.proofs.laws.texts_describe_one_table.Goals as goal

pub returns : goal.returns
returns c = record { table = one_table; line = one_line; either = text_or_outside }
