use Rattle.std.proofs.Common.{arith}
use Rattle.std.proofs.lemmas.Map.Text.{text_keys}
use Rattle.myi_memfiles.proofs.memory.remove_file.Goals as goal

pub returns : goal.returns
returns c = record { gone = grind (arith, text_keys); others = λ q differs. grind (arith, text_keys) }
