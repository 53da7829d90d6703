use Rattle.std.proofs.Common.{arith}
use Rattle.std.proofs.lemmas.Map.Text.{text_keys}
use Rattle.myi_memfiles.proofs.memory.add.Goals as goal

pub returns-clause-ok : goal.returns-clause-ok
returns-clause-ok c = record { here = grind (arith, text_keys); others = λ q differs. grind (arith, text_keys) }
