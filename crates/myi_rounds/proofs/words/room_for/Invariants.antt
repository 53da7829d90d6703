use Rattle.std.proofs.Common.{◌≡◌, take}
use Rattle.std.specs.Prelude.{sum_by}
use Rattle.myi_rounds.specs.Words.{step_words}
use Rattle.myi_rounds.proofs.words.room_for.Given as goal

abbrev pub invariant-loop-step : goal.invariant-loop-step
invariant-loop-step l = l.words ≡ sum_by (step_words l.defs l.asked.lines.now) (take l.step-index l.asked.inserts.now)
