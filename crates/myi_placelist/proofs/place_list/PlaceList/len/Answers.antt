use Rattle.std.proofs.Common.{◌∙◌, ℕ, List, length, ap}
use Rattle.myi_placelist.proofs.GroupLemmas.{view_length}
use Rattle.myi_placelist.proofs.place_list.PlaceList.len.Goals as goal

pub returns : goal.returns
returns c =
    let s = c.self.inside in
    view_length s.steps.items s.near.items s.far.items s.latest.items s.groups.items s.count c.self.invariant ∙ ap (λ (ps : List ℕ). length ps) c.self.view_is
