use Rattle.std.proofs.Common.{◌∙◌, ◌++◌, List, ap, subst, sym, arith}
use Rattle.myi_placelist.proofs.GroupLemmas.{grown_groups, grown_view, closed_groups, closed_view}
use Rattle.myi_placelist.specs.declared.groups.Group.{Group}
use Rattle.myi_placelist.specs.Groups.{places_in, AreGrouped}
use Rattle.myi_placelist.proofs.place_list.PlaceList.close_group.Goals as goal

pub returns-in_err-group : goal.returns-in_err-group
returns-in_err-group c =
    let s = c.self.inside in
    grown_view s.steps.items s.near.items s.far.items c.add_group.new.steps.items c.add_group.new.near.items c.add_group.new.far.items s.latest.items s.groups.items s.count (record { ones = c.add_group.ensures.steps; lows = c.add_group.ensures.near; places = c.add_group.ensures.far }) c.self.invariant ∙ c.self.view_is

pub invariant_of-self-in_err-push : goal.invariant_of-self-in_err-push
invariant_of-self-in_err-push c =
    let s = c.self.inside in
    subst (λ (gs : List Group). AreGrouped c.add_group.new.steps.items c.add_group.new.near.items c.add_group.new.far.items gs s.latest.items s.count) (sym c.in_err-push.ensures.items) (grown_groups s.steps.items s.near.items s.far.items c.add_group.new.steps.items c.add_group.new.near.items c.add_group.new.far.items s.latest.items s.groups.items s.count (record { ones = c.add_group.ensures.steps; lows = c.add_group.ensures.near; places = c.add_group.ensures.far }) c.self.invariant)

pub returns-in_err-push : goal.returns-in_err-push
returns-in_err-push c =
    let s = c.self.inside in
    ap (λ (gs : List Group). places_in c.add_group.new.steps.items c.add_group.new.near.items c.add_group.new.far.items gs ++ s.latest.items) c.in_err-push.ensures.items
    ∙ grown_view s.steps.items s.near.items s.far.items c.add_group.new.steps.items c.add_group.new.near.items c.add_group.new.far.items s.latest.items s.groups.items s.count (record { ones = c.add_group.ensures.steps; lows = c.add_group.ensures.near; places = c.add_group.ensures.far }) c.self.invariant ∙ c.self.view_is

pub invariant_of-self-2 : goal.invariant_of-self-2
invariant_of-self-2 c =
    let s = c.self.inside in
    closed_groups s.steps.items s.near.items s.far.items c.add_group.new.steps.items c.add_group.new.near.items c.add_group.new.far.items s.latest.items c.clear.new.self.items s.groups.items c.push.new.self.items c.in_ok-group.group s.count (record { ones = c.add_group.ensures.steps; lows = c.add_group.ensures.near; places = c.add_group.ensures.far }) c.self.invariant (omega (arith, c.len.ensures, s.latest.ok.0, c.if-len-ne-GROUP_LENGTH.false)) c.in_ok-group.ensures.within c.in_ok-push.ensures.items c.clear.ensures.items

pub returns : goal.returns
returns c =
    let s = c.self.inside in
    closed_view s.steps.items s.near.items s.far.items c.add_group.new.steps.items c.add_group.new.near.items c.add_group.new.far.items s.latest.items c.clear.new.self.items s.groups.items c.push.new.self.items c.in_ok-group.group s.count (record { ones = c.add_group.ensures.steps; lows = c.add_group.ensures.near; places = c.add_group.ensures.far }) c.self.invariant (c.in_ok-group.ensures.places ∙ c.deref.ensures.value) c.in_ok-push.ensures.items c.clear.ensures.items ∙ c.self.view_is
