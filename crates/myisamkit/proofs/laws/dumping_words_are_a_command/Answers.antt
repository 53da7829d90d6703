use Rattle.myisamkit.proofs.AskedLaws.{words_dumped}
use Rattle.myisamkit.proofs.laws.dumping_words_are_a_command.Goals as goal

pub returns : goal.returns
returns c = words_dumped
