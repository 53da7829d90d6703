use Rattle.std.proofs.Common.{arith}
use Rattle.myi_placelist.proofs.SearchLemmas.{none_here}
use Rattle.myi_placelist.proofs.place_list.PlaceList.index_of.Goals as goal

pub returns-then-at-place-clause-none : goal.returns-then-at-place-clause-none
returns-then-at-place-clause-none c = λ none up.
    let i = c.count_below-index.result in
    none_here c.args.place c.args.self.now i (omega (arith, c.count_below-index.ensures.few, c.if-index-len.false, c.len.ensures)) (λ same. absurd (omega (arith, c.if-at-place.true, c.at.ensures, same))) up (c.count_below-index.ensures.count up)
