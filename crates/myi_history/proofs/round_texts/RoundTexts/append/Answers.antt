use Rattle.std.proofs.Common.{◌≡◌, ◌∙◌, ◌++◌, ℕ, map, List, sym, ap}
use Rattle.myi_history.specs.declared.round_texts.Said.{Said}
use Rattle.myi_history.specs.RoundTexts as spec
use Rattle.myi_history.specs.RoundTexts.{LineText, said_in}
use Rattle.myi_history.proofs.PartLemmas.{on_err, texts_grown, within_grown, texts_joined, joined_within}
use Rattle.myi_history.proofs.round_texts.RoundTexts.append.Goals as goal

pub returns-in_err-moved-clause-same : goal.returns-in_err-moved-clause-same
returns-in_err-moved-clause-same c = on_err c.from_residual-in_err-moved.result _ (texts_grown c.self.inside.bytes.items c.deref.result.now c.extend_from_slice.new.self.items c.self.inside.said.items c.args.self.now c.self.invariant c.in_ok-extend_from_slice.ensures.items (sym c.self.view_is))

pub invariant_of-self-in_err-extend_from_slice-2 : goal.invariant_of-self-in_err-extend_from_slice-2
invariant_of-self-in_err-extend_from_slice-2 c = within_grown c.self.inside.bytes.items c.deref.result.now c.extend_from_slice.new.self.items c.self.inside.said.items c.extend_from_slice-2.new.self.items c.self.invariant c.in_ok-extend_from_slice.ensures.items c.in_err-extend_from_slice-2.ensures.items

pub returns-in_err-extend_from_slice-2-clause-same : goal.returns-in_err-extend_from_slice-2-clause-same
returns-in_err-extend_from_slice-2-clause-same c =
    on_err c.from_residual-in_err-extend_from_slice-2.result _
    (ap (map (said_in c.extend_from_slice.new.self.items)) c.in_err-extend_from_slice-2.ensures.items ∙ texts_grown c.self.inside.bytes.items c.deref.result.now c.extend_from_slice.new.self.items c.self.inside.said.items c.args.self.now c.self.invariant c.in_ok-extend_from_slice.ensures.items (sym c.self.view_is))

pub invariant_of-self-3 : goal.invariant_of-self-3
invariant_of-self-3 c =
    let more : List Said = c.more.inside.said.items in
    let moved : c.in_ok-moved.moved.items ≡ map (spec.moved_by c.len-from.result) more = c.in_ok-moved.ensures ∙ ap (map (spec.moved_by c.len-from.result)) c.deref-2.ensures.value in
    joined_within c.self.inside.bytes.items c.more.inside.bytes.items c.extend_from_slice.new.self.items c.len-from.result c.self.inside.said.items more c.in_ok-moved.moved.items c.extend_from_slice-2.new.self.items c.self.invariant c.more.invariant
    (c.in_ok-extend_from_slice.ensures.items ∙ ap (λ (l : List ℕ). c.self.inside.bytes.items ++ l) c.deref.ensures.value) (c.len-from.ensures ∙ c.self.inside.bytes.ok.0) moved
    (c.in_ok-extend_from_slice-2.ensures.items ∙ ap (λ (l : List Said). c.self.inside.said.items ++ l) c.deref-3.ensures.value)

pub returns-clause-texts : goal.returns-clause-texts
returns-clause-texts c =
    let more : List Said = c.more.inside.said.items in
    let moved : c.in_ok-moved.moved.items ≡ map (spec.moved_by c.len-from.result) more = c.in_ok-moved.ensures ∙ ap (map (spec.moved_by c.len-from.result)) c.deref-2.ensures.value in
    texts_joined c.self.inside.bytes.items c.more.inside.bytes.items c.extend_from_slice.new.self.items c.len-from.result c.self.inside.said.items more c.in_ok-moved.moved.items c.extend_from_slice-2.new.self.items c.args.self.now c.args.more.now c.self.invariant
    (c.in_ok-extend_from_slice.ensures.items ∙ ap (λ (l : List ℕ). c.self.inside.bytes.items ++ l) c.deref.ensures.value) (c.len-from.ensures ∙ c.self.inside.bytes.ok.0) moved
    (c.in_ok-extend_from_slice-2.ensures.items ∙ ap (λ (l : List Said). c.self.inside.said.items ++ l) c.deref-3.ensures.value) (sym c.self.view_is) (sym c.more.view_is)
