use Rattle.myisamkit.proofs.RefusedLaws.{words_refused, reasons_refuse}
use Rattle.myisamkit.proofs.laws.refused_words_have_a_reason.Goals as goal

pub returns : goal.returns
returns c = record { reason = words_refused; refused = reasons_refuse }
