use Rattle.std.proofs.Common.{sym, ap, ◌∙◌}
use Rattle.std.specs.Ordering.{is_eq}
use Rattle.myi_keys.specs.Order.{key_cmp}
use Rattle.myi_keys.specs.Comparing.{key_front, code_cmp}
use Rattle.myi_keys.proofs.CallerLemmas.{front_again}
use Rattle.myi_search.proofs.SeekLaws.{row_is, row_not}
use Rattle.myi_search.proofs.reached.Reached.row_of.Goals as goal

pub returns-then-is_eq : goal.returns-then-is_eq
returns-then-is_eq c = row_is c.args.self.now.row (key_front c.args.self.now.best.items) c.args.key.now (ap is_eq (ap (λ k. key_cmp (key_front c.args.self.now.best.items) k) (sym (front_again _ c.code.ensures.key) ∙ ap key_front (sym c.code.ensures.value)) ∙ ap (λ b. code_cmp b c.code.result.now) (sym c.deref.ensures.value) ∙ sym c.compare_codes.ensures) ∙ sym c.is_eq.ensures ∙ c.if-is_eq.true)

pub returns-else-is_eq : goal.returns-else-is_eq
returns-else-is_eq c = row_not c.args.self.now.row (key_front c.args.self.now.best.items) c.args.key.now (ap is_eq (ap (λ k. key_cmp (key_front c.args.self.now.best.items) k) (sym (front_again _ c.code.ensures.key) ∙ ap key_front (sym c.code.ensures.value)) ∙ ap (λ b. code_cmp b c.code.result.now) (sym c.deref.ensures.value) ∙ sym c.compare_codes.ensures) ∙ sym c.is_eq.ensures ∙ c.if-is_eq.false)
