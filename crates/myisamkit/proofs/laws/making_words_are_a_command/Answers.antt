use Rattle.myisamkit.proofs.AskedLaws.{words_made}
use Rattle.myisamkit.proofs.laws.making_words_are_a_command.Goals as goal

pub returns : goal.returns
returns c = words_made
