use Rattle.std.proofs.Common.{◌≡◌, ◌∙◌, ◌+◌, ℕ, List, true, sym, subst}
use Rattle.myi_base.specs.Ranges.{is_apart}
use Rattle.myi_chain.specs.Chain.{ranges_at}
use Rattle.myi_chain.specs.Used.{SameUsed}
use Rattle.myi_chain.proofs.SameLemmas.{own_more}
use Rattle.myi_chain.specs.Source.{ChainModel}
use Rattle.myi_chain.proofs.chain.Chain.put.Goals as goal

pub add-requires-clause-apart : goal.add-requires-clause-apart
add-requires-clause-apart c = (sym (sym (subst (λ (w : ChainModel). is_apart (c.args.at, c.args.at + c.args.size) (ranges_at w.taken) ≡ true) (sym c.self.view_is) c.requires.apart) ∙ sym (c.self.invariant.apart (c.args.at, c.args.at + c.args.size))), tt)

pub invariant_of-self : goal.invariant_of-self
invariant_of-self c = subst (λ (xs : List (ℕ × ℕ)). SameUsed c.self.inside.own (ranges_at xs)) (sym c.in_err-push.ensures.items) c.self.invariant

pub invariant_of-self-in-Ok : goal.invariant_of-self-in-Ok
invariant_of-self-in-Ok c = own_more c.self.inside.taken.items c.push.new.self.items (c.args.at, c.args.size) c.self.inside.own c.add.new.self c.in_ok-push.ensures.items c.self.invariant c.in-Ok.ensures.ok
