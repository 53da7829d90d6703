use Rattle.std.proofs.Common.{◌∙◌, sym, ap, length}
use Rattle.myi_keys.specs.Comparing.{key_front}
use Rattle.myi_keys.proofs.CallerLemmas.{front_again}
use Rattle.myi_order.specs.Shared.{shared}
use Rattle.myi_order.specs.PrefixCounts.{shared_by_last}
use Rattle.myi_order.proofs.prefixes.PrefixCount.shared_by_last.Goals as goal

pub returns-in-Some : goal.returns-in-Some
returns-in-Some c =
    let last = c.in-Some.last in
    let next = c.args.next.now in
    let one = ap key_front c.code.ensures.value ∙ front_again last.key c.code.ensures.key in
    let other = ap key_front c.code-in-Some.ensures.value ∙ front_again next.key c.code-in-Some.ensures.key in
    c.shared_segments.ensures ∙ ap (λ k. shared k (key_front c.code-in-Some.result.now)) one ∙ ap (shared last.key) other
    ∙ ap (λ l. shared_by_last l (length c.args.self.now.ended.items) next) (sym c.in-Some.is)
