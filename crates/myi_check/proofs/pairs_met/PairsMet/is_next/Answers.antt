use Rattle.std.proofs.Common.{◌∙◌, ◌&&◌, Bool, not, ap, sym}
use Rattle.myi_check.specs.Walks.{last_key}
use Rattle.myi_check.proofs.PairsLaws.{next_at, next_not}
use Rattle.myi_check.proofs.pairs_met.PairsMet.is_next.Goals as goal

pub returns-then-is_pair : goal.returns-then-is_pair
returns-then-is_pair c =
    ap (λ (b : Bool). b && not c.repeats_last.result) (sym c.if-is_pair.true)
    ∙ next_at c.args.unique (last_key c.args.self.now) c.args.pairs.now c.args.self.now.count c.args.met.now c.is_pair.result c.repeats_last.result c.requires c.is_pair.ensures c.repeats_last.ensures

pub returns-else-is_pair : goal.returns-else-is_pair
returns-else-is_pair c = next_not c.args.unique (last_key c.args.self.now) c.args.pairs.now c.args.self.now.count c.args.met.now c.is_pair.result c.requires c.is_pair.ensures c.if-is_pair.false
