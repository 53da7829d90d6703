use Rattle.myisamkit.proofs.AskedLaws.{words_created}
use Rattle.myisamkit.proofs.laws.creating_words_are_a_command.Goals as goal

pub returns : goal.returns
returns c = words_created
