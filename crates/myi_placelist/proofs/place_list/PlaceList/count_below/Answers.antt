use Rattle.std.proofs.Common.{◌≡◌, ◌≤◌, ◌<◌, ◌∙◌, ℕ, suc, ◌+◌, ◌-◌, ◌*◌, ◌/◌, List, length, take, drop, ap, sym, subst, arith}
use Rattle.std.proofs.lemmas.List.{length-drop, length-take, length-take-le}
use Rattle.myi_placelist.specs.declared.groups.Group.{Group}
use Rattle.myi_placelist.specs.Places.{IsRising, IsCountBelow}
use Rattle.myi_placelist.specs.Groups.{IsWithin, IsBetween}
use Rattle.myi_placelist.proofs.GroupLemmas.{view_length, group_within}
use Rattle.myi_placelist.proofs.SearchLemmas.{group_counted}
use Rattle.myi_placelist.proofs.place_list.PlaceList.count_below.Goals as goal

pub overflow_add-result : goal.overflow_add-result
overflow_add-result c =
    let s = c.self.inside in
    let long : s.count ≡ length c.args.self.now = view_length s.steps.items s.near.items s.far.items s.latest.items s.groups.items s.count c.self.invariant ∙ ap (λ (ps : List ℕ). length ps) c.self.view_is in
    let most = length-take (c.in-Close.start + 64 - c.in-Close.start) (drop c.in-Close.start c.deref.result.now) in
    omega (arith, long, c.self.invariant.many, c.count_passed.ensures.few, most, c.if-number-len.true, c.len.ensures, s.groups.ok.0, c.group_part-part.ensures.first, c.len-count.ensures, c.len-count.type_inv)

pub returns-in-Close-clause-few : goal.returns-in-Close-clause-few
returns-in-Close-clause-few c =
    let s = c.self.inside in
    let long : s.count ≡ length c.args.self.now = view_length s.steps.items s.near.items s.far.items s.latest.items s.groups.items s.count c.self.invariant ∙ ap (λ (ps : List ℕ). length ps) c.self.view_is in
    let most = length-take (c.in-Close.start + 64 - c.in-Close.start) (drop c.in-Close.start c.deref.result.now) in
    omega (arith, long, c.self.invariant.many, c.count_passed.ensures.few, most, c.if-number-len.true, c.len.ensures, s.groups.ok.0, c.group_part-part.ensures.first)

pub returns-in-Close-clause-count : goal.returns-in-Close-clause-count
returns-in-Close-clause-count c = λ up.
    let s = c.self.inside in
    let x = c.args.place in
    let base = c.in-Close.base in
    let start = c.in-Close.start in
    let from = c.group_part-part.result.from in
    let to = c.group_part-part.result.to in
    let n = c.count_passed.result in
    let g = c.index.result.now in
    let steps = s.steps.items in
    let held = c.deref.result.now in
    let inside : from / 64 < length s.groups.items = omega (arith, c.if-number-len.true, c.len.ensures, s.groups.ok.0) in
    let within = subst (λ (h : Group). IsWithin steps s.near.items s.far.items h) c.in-Close.is (group_within steps s.near.items s.far.items s.groups.items (from / 64) g c.self.invariant.within inside c.index.ensures) in
    let many : start + 64 - start ≡ 64 = omega arith in
    let part = take (start + 64 - start) (drop start held) in
    let is : part ≡ take 64 (drop start steps) = ap (λ (k : ℕ). take k (drop start held)) many ∙ ap (λ (ss : List ℕ). take 64 (drop start ss)) c.deref.ensures.value in
    let long : length part ≡ 64 = ap (λ (ss : List ℕ). length ss) is ∙ length-take-le 64 (drop start steps) (omega (arith, within.0, length-drop start steps)) in
    subst (λ (ps : List ℕ). IsCountBelow x ps (from + n)) c.self.view_is
    (group_counted x base start (from / 64) from to n steps s.near.items s.far.items s.latest.items part s.groups.items g c.self.invariant.within inside c.index.ensures c.in-Close.is (omega (arith, c.group_part-part.ensures.first)) c.group_part-part.ensures.near is
    c.count_passed.ensures.below (λ less. c.count_passed.ensures.above (omega (arith, less, long))) (omega (arith, c.count_passed.ensures.few, long))
    (subst IsRising (sym c.self.view_is) up) (subst (λ (ps : List ℕ). IsBetween x ps from to) (sym c.self.view_is) (c.group_part-part.ensures.part up)))
