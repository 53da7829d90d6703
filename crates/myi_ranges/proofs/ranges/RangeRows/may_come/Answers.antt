use Rattle.std.proofs.Common.{Option, List, sym, ap, ◌∙◌}
use Rattle.std.specs.Ordering.{is_le}
use Rattle.myi_keys.specs.declared.values.KeySeg.{KeySeg}
use Rattle.myi_keys.specs.Order.{key_cmp}
use Rattle.myi_keys.specs.Comparing.{key_front}
use Rattle.myi_keys.proofs.CallerLemmas.{front_again}
use Rattle.myi_tablestate.specs.Matching.{stays_below}
use Rattle.myi_ranges.proofs.ranges.RangeRows.may_come.Goals as goal

pub returns-in-Some : goal.returns-in-Some
returns-in-Some c = c.is_le.ensures ∙ ap is_le c.compare_codes.ensures ∙ ap (λ (k : List KeySeg). is_le (key_cmp (key_front c.args.code.now) k)) (ap key_front c.code.ensures.value ∙ front_again _ c.code.ensures.key) ∙ ap (λ (o : Option (List KeySeg)). stays_below o (key_front c.args.code.now)) (sym c.in-Some.is)
