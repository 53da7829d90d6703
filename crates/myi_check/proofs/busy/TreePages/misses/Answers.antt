use Rattle.std.proofs.Common.{ℕ, leb, ap, ◌∙◌}
use Rattle.myi_check.proofs.BusyLaws.{none_from, some_from}
use Rattle.myi_check.proofs.busy.TreePages.misses.Goals as goal

pub returns-in-Some : goal.returns-in-Some
returns-in-Some c = ap (λ (n : ℕ). leb c.args.block_length n) c.saturating_sub.ensures ∙
    some_from c.args.block_length c.args.self.now.block_length c.args.at c.saturating_sub-first.result c.in-Some.place.now c.args.self.now.places.keys c.range.result c.next.new.self c.requires.some c.requires.bytes c.saturating_sub-first.ensures c.range.ensures.ordered (c.range.ensures.between tt) c.in-Some.ensures.steps

pub returns-in-None : goal.returns-in-None
returns-in-None c =
    none_from c.args.block_length c.args.self.now.block_length c.args.at c.saturating_sub-first.result c.args.self.now.places.keys c.range.result c.requires.some c.requires.bytes c.saturating_sub-first.ensures c.range.ensures.ordered (c.range.ensures.between tt) c.in-None.ensures.steps.0
