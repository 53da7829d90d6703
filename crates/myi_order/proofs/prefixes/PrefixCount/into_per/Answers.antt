use Rattle.std.proofs.Common.{◌≡◌, ◌∙◌, ◌+◌, ◌<◌, ◌^◌, [], length, map, ap, sym, subst, get_or, arith}
use Rattle.myi_order.specs.Shared.{average}
use Rattle.myi_order.specs.PrefixCounts.{with_last}
use Rattle.myi_order.proofs.CountLaws.{written}
use Rattle.myi_order.proofs.PrefixCountLaws.{all_ended, averages_small}
use Rattle.std.specs.List.{AllByRecursion}
use Rattle.myi_order.proofs.prefixes.PrefixCount.into_per.Goals as goal

pub returns-clause-per : goal.returns-clause-per
returns-clause-per c = λ pairs has order segments.
    let self = c.args.self in
    let counts = c.end_all.new.counts in
    let long : length counts ≡ length self.ended.items = omega (arith, c.deref_mut.ensures.len, self.ended.ok.0) in
    written self.ended.len counts c.divide.new.counts _ _ (average self.rows) (omega (arith, long, self.ended.ok.0)) (c.divide.ensures ∙ ap (map (average self.rows)) c.deref_mut-2.ensures.value)
    ∙ all_ended pairs self counts has segments order long (λ j few.
    c.end_all.ensures j (omega (arith, few, c.deref_mut.ensures.len, self.ended.ok.0)) ∙ ap (λ xs. get_or xs j 0 + length (with_last self.last [])) c.deref_mut.ensures.value)

pub returns-clause-small : goal.returns-clause-small
returns-clause-small c =
    let self = c.args.self in
    let counts = c.end_all.new.counts in
    let long : length counts ≡ length self.ended.items = omega (arith, c.deref_mut.ensures.len, self.ended.ok.0) in
    subst (AllByRecursion (λ n. n < 256 ^ 4)) (sym (written self.ended.len counts c.divide.new.counts _ _ (average self.rows) (omega (arith, long, self.ended.ok.0)) (c.divide.ensures ∙ ap (map (average self.rows)) c.deref_mut-2.ensures.value))) (averages_small self.rows counts)
