use Rattle.std.proofs.Common.{ap, ◌<◌, arith, length}
use Rattle.myi_keylist.specs.PairLists.{pair_at}
use Rattle.std.proofs.lemmas.List.{length-map}
use Rattle.myi_keylist.proofs.MarkLaws.{listed}
use Rattle.myi_keylist.proofs.pair_list.PairList.row.Goals as goal

pub returns : goal.returns
returns c = λ other.
    let whole = ap length c.self.view_is in
    let few : c.args.i < length c.self.inside.marks.items = omega (arith, whole, length-map c.self.inside.marks.items (pair_at c.self.inside.codes.items), c.requires) in rw (← c.self.view_is) ((listed c.self.inside.codes.items c.self.inside.marks.items c.args.i c.index.result.now c.self.invariant few c.index.ensures other).1)
