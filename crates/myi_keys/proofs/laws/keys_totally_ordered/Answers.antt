use Rattle.myi_keys.specs.OrderLaws.{key_total, key_exact, key_equal}
use Rattle.myi_keys.proofs.laws.keys_totally_ordered.Goals as goal

pub returns : goal.returns
returns c = record { total = key_total; equal = λ one other. (key_exact one other, key_equal one other) }
