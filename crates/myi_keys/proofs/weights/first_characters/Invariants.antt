use Rattle.std.proofs.Common.{◌≡◌, ◌++◌, take, drop}
use Rattle.myi_keys.specs.Weights.{first_characters}
use Rattle.myi_keys.proofs.weights.first_characters.Given as goal

abbrev pub invariant-loop-i : goal.invariant-loop-i
invariant-loop-i l = take l.i l.content ++ first_characters l.left (drop l.i l.content) ≡ first_characters l.most l.content
