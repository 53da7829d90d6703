use Rattle.std.proofs.Common.{◌-◌, arith}
use Rattle.std.proofs.lemmas.Bool.{ltb-true}
use Rattle.myi_placelist.proofs.SearchLemmas.{all_below}
use Rattle.myi_placelist.proofs.place_list.PlaceList.are_below.Goals as goal

pub returns-then-count-gt0 : goal.returns-then-count-gt0
returns-then-count-gt0 c = λ below up.
    all_below c.args.place c.args.self.now (c.len-count.result - 1) (omega (arith, c.len-count.ensures, c.if-count-gt0.true)) (omega (arith, c.at.ensures, ltb-true c.at.result c.args.place below)) up
