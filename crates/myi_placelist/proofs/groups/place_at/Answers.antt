use Rattle.std.proofs.Common.{◌≡◌, ◌∙◌, ℕ, suc, ◌+◌, ◌-◌, take, drop, sym, ap, subst, slice_index, arith}
use Rattle.std.specs.List.{sum}
use Rattle.myi_placelist.specs.declared.groups.Group.{Group}
use Rattle.myi_placelist.specs.Groups.{places_at, IsWithin}
use Rattle.myi_placelist.proofs.GroupLemmas.{close_at, near_at, far_at}
use Rattle.myi_placelist.proofs.groups.place_at.Goals as goal

pub returns-in-Close : goal.returns-in-Close
returns-in-Close c =
    let steps = c.args.steps.now in
    let start = c.in-Close.start in
    let within = subst (λ (g : Group). IsWithin steps c.args.near.now c.args.far.now g) c.in-Close.is c.requires.within in
    let many : start + c.args.index + 1 - start ≡ suc c.args.index = omega arith in
    c.place_behind.ensures ∙ ap (λ (n : ℕ). c.in-Close.base + sum (take n (drop start steps))) many ∙ close_at c.in-Close.base start c.args.index steps within.0 c.requires.inside ∙ sym (ap (λ (g : Group). slice_index (places_at steps c.args.near.now c.args.far.now g) c.args.index) c.in-Close.is)

pub returns-in-Near : goal.returns-in-Near
returns-in-Near c =
    let near = c.args.near.now in
    let within = subst (λ (g : Group). IsWithin c.args.steps.now near c.args.far.now g) c.in-Near.is c.requires.within in
    near_at c.in-Near.base c.in-Near.start c.args.index near within.0 c.requires.inside ∙ sym (ap (λ (g : Group). slice_index (places_at c.args.steps.now near c.args.far.now g) c.args.index) c.in-Near.is)

pub returns-in-Far : goal.returns-in-Far
returns-in-Far c =
    far_at c.in-Far.start c.args.index c.args.far.now c.requires.inside ∙ sym (ap (λ (g : Group). slice_index (places_at c.args.steps.now c.args.near.now c.args.far.now g) c.args.index) c.in-Far.is)
