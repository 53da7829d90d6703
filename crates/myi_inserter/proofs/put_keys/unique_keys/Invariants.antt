use Rattle.std.proofs.Common.{◌≡◌, take}
use Rattle.myi_rowkeys.specs.TableKeys.{key_numbers}
use Rattle.myi_inserter.proofs.RowLemmas.{keys_in}
use Rattle.myi_inserter.proofs.put_keys.unique_keys.Given as goal

-- those in the first so many keys
abbrev pub invariant-loop-i : goal.invariant-loop-i
invariant-loop-i l = record { keys : l.keys.items ≡ keys_in l.defs l.view (take l.i (key_numbers l.defs)) }
