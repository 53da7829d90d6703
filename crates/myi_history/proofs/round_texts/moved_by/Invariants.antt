use Rattle.std.proofs.Common.{◌≡◌, map, take}
use Rattle.myi_history.specs.RoundTexts as spec
use Rattle.myi_history.proofs.round_texts.moved_by.Given as goal

abbrev pub invariant-loop-text : goal.invariant-loop-text
invariant-loop-text l = l.moved.items ≡ map (spec.moved_by l.by) (take l.text-index l.said)
