use Rattle.std.proofs.Common.{◌≡◌, ap, ◌∙◌, arith, map, length}
use Rattle.std.proofs.lemmas.List.{length-map}
use Rattle.myi_keylist.specs.PairLists.{pointed_mark}
use Rattle.myi_keylist.specs.Columns.{pointed}
use Rattle.myi_keylist.proofs.PointLaws.{all_stand, all_point, refilled}
use Rattle.myi_keylist.proofs.pair_list.PairList.point.Goals as goal

pub invariant_of-self : goal.invariant_of-self
invariant_of-self c =
    let is : c.point_marks.new.marks ≡ map (pointed_mark c.args.pointers.now) c.self.inside.marks.items = c.point_marks.ensures ∙ ap (map (pointed_mark c.args.pointers.now)) c.deref_mut.ensures.value in
    let long = ap length is ∙ length-map c.self.inside.marks.items (pointed_mark c.args.pointers.now) in
    all_stand c.self.inside.codes.items c.args.pointers.now c.self.inside.marks.items _ (refilled c.point_marks.new.marks c.self.inside.marks.items c.self.inside.marks.len (omega (arith, c.self.inside.marks.ok.0)) long ∙ is) c.self.invariant

pub returns : goal.returns
returns c =
    let is : c.point_marks.new.marks ≡ map (pointed_mark c.args.pointers.now) c.self.inside.marks.items = c.point_marks.ensures ∙ ap (map (pointed_mark c.args.pointers.now)) c.deref_mut.ensures.value in
    let long = ap length is ∙ length-map c.self.inside.marks.items (pointed_mark c.args.pointers.now) in
    all_point c.self.inside.codes.items c.args.pointers.now c.self.inside.marks.items _ (refilled c.point_marks.new.marks c.self.inside.marks.items c.self.inside.marks.len (omega (arith, c.self.inside.marks.ok.0)) long ∙ is)
    ∙ ap (map (pointed c.args.pointers.now)) c.self.view_is
