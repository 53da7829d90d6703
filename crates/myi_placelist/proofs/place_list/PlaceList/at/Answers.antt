use Rattle.std.proofs.Common.{◌≡◌, ◌∙◌, ℕ, ◌-◌, ◌*◌, ◌%◌, ◌/◌, List, length, slice_index, get_or, ap, arith}
use Rattle.std.proofs.lemmas.List.{get_or_read}
use Rattle.myi_placelist.specs.Groups.{places_at}
use Rattle.myi_placelist.proofs.GroupLemmas.{grouped_at, latest_at, view_length}
use Rattle.myi_placelist.proofs.place_list.PlaceList.at.Goals as goal

pub returns-then-number-len : goal.returns-then-number-len
returns-then-number-len c =
    let s = c.self.inside in
    let g = c.index.result.now in
    let r = c.args.index % 64 in
    let here =
    c.place_at.ensures ∙ ap (λ (ss : List ℕ). slice_index (places_at ss c.deref-then-number-len.result.now c.deref-then-number-len-2.result.now g) r) c.deref.ensures.value
    ∙ ap (λ (ns : List ℕ). slice_index (places_at s.steps.items ns c.deref-then-number-len-2.result.now g) r) c.deref-then-number-len.ensures.value
    ∙ ap (λ (fs : List ℕ). slice_index (places_at s.steps.items s.near.items fs g) r) c.deref-then-number-len-2.ensures.value
    in
    grouped_at s.steps.items s.near.items s.far.items s.latest.items s.groups.items (c.args.index / 64) r c.args.index g c.place_at.result c.self.invariant.within (omega (arith, c.if-number-len.true, c.len.ensures, s.groups.ok.0)) (omega arith) (omega arith) c.index.ensures here
    ∙ ap (λ (ps : List ℕ). get_or ps c.args.index 0) c.self.view_is

pub index-requires-2 : goal.index-requires-2
index-requires-2 c =
    let s = c.self.inside in
    let long = view_length s.steps.items s.near.items s.far.items s.latest.items s.groups.items s.count c.self.invariant ∙ ap (λ (ps : List ℕ). length ps) c.self.view_is in
    omega (arith, c.requires, long, c.self.invariant.many, c.len.ensures, c.len-2.ensures, s.groups.ok.0, s.latest.ok.0, c.if-number-len.false)

pub returns : goal.returns
returns c =
    let s = c.self.inside in
    let long = view_length s.steps.items s.near.items s.far.items s.latest.items s.groups.items s.count c.self.invariant ∙ ap (λ (ps : List ℕ). length ps) c.self.view_is in
    let many : c.len-2.result ≡ length s.groups.items = c.len-2.ensures ∙ s.groups.ok.0 in
    let read = get_or_read s.latest.items (c.args.index - c.len-2.result * 64) c.index-2.result.now (omega (arith, c.requires, long, c.self.invariant.many, c.len.ensures, many, s.groups.ok.0, c.if-number-len.false)) c.index-2.ensures 0 in
    let same : c.args.index - c.len-2.result * 64 ≡ c.args.index - 64 * length s.groups.items = omega (arith, many) in
    latest_at s.steps.items s.near.items s.far.items s.latest.items s.groups.items c.args.index c.index-2.result.now c.self.invariant.within (omega (arith, c.if-number-len.false, c.len.ensures, s.groups.ok.0)) (read ∙ ap (λ (n : ℕ). get_or s.latest.items n 0) same)
    ∙ ap (λ (ps : List ℕ). get_or ps c.args.index 0) c.self.view_is
