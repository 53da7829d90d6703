use Rattle.myisamkit.proofs.AskedLaws.{words_scripted}
use Rattle.myisamkit.proofs.laws.shell_words_are_a_command.Goals as goal

pub returns : goal.returns
returns c = words_scripted
