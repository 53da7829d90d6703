use Rattle.std.proofs.Common.{sym, ap, ◌∙◌}
use Rattle.std.specs.Prelude.{option_map}
use Rattle.myi_ranges.proofs.LeftLemmas.{some_mapped}
use Rattle.myi_ranges.proofs.ranges.pair_of.Goals as goal

pub unwrap-requires : goal.unwrap-requires
unwrap-requires c = some_mapped _ c.pair.result c.args.cursor.now.last c.pair.ensures.pair c.requires

pub returns : goal.returns
returns c = sym c.pair.ensures.pair ∙ ap (option_map _) c.unwrap.ensures
