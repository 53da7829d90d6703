use Rattle.myisamkit.proofs.AskedLaws.{words_accepted}
use Rattle.myisamkit.proofs.laws.accepted_words_are_a_command.Goals as goal

pub returns : goal.returns
returns c = words_accepted
