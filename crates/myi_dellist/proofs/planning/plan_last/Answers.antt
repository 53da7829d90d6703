use Rattle.std.proofs.Common.{ℕ, ◌+◌, ◌-◌, ◌∙◌, ◌++◌, ◌∷◌, [], Some, Err, ap, arith}
use Rattle.std.proofs.lemmas.Result.{err_from_is_err_and}
use Rattle.myi_base.specs.Holding.{bytes_of}
use Rattle.myi_dellist.specs.Freeing.{hole_in, block_named}
use Rattle.myi_dellist.specs.Planning.{rest_in}
use Rattle.myi_dellist.proofs.NeedLemmas.{err_any}
use Rattle.myi_dellist.proofs.PlanningLemmas.{IsLeft, row_err, row_filled, row_rest, row_rest_err, spare_place, not_same}
use Rattle.myi_dellist.proofs.planning.plan_last.Goals as goal

pub returns-in_err-next-clause-told : goal.returns-in_err-next-clause-told
returns-in_err-next-clause-told g c m held long =
    let d = bytes_of c.args.name.now m in
    let h = c.args.hole.now in
    let e = err_from_is_err_and c.from_residual-in_err-next.result c.from_residual-in_err-next.ensures.1 in
    err_any c.from_residual-in_err-next.result c.in_err-next.field-0.0 (block_named (hole_in d) (Some h.at) h.next) _ (e.1 ∙ ap Err e.2) (λ p f. row_err d c.args.list.now.head c.args.pieces.now.items c.args.left h p f) (c.in_err-next.ensures.told m held long)

pub returns-then-size-hole-clause-told : goal.returns-then-size-hole-clause-told
returns-then-size-hole-clause-told g c m held long =
    row_filled (bytes_of c.args.name.now m) c.args.list.now.head c.args.pieces.now.items c.args.left c.args.hole.now c.in_ok-next.next c.last_size-size.result c.last_size-size.ensures (omega (arith, c.if-size-hole.true)) (c.in_ok-next.ensures.told m held long)

pub plan_rest-requires-clause-place : goal.plan_rest-requires-clause-place
plan_rest-requires-clause-place g c κs lives = (spare_place c.args.left c.args.list.now.end c.last_size-size.result c.args.hole.now c.requires.hole c.requires.fits c.last_size-size.ensures (not_same _ _ c.if-size-hole.false)).0

pub returns-in_err-rest-clause-told : goal.returns-in_err-rest-clause-told
returns-in_err-rest-clause-told g c m held long =
    let d = bytes_of c.args.name.now m in
    let h = c.args.hole.now in
    let head = c.args.list.now.head in
    let size = c.last_size-size.result in
    let qs = c.deref.result.now in
    let next = c.in_ok-next.next in
    let i : IsLeft d head c.args.pieces.now.items qs c.args.left h size next = record {
      size_is = c.last_size-size.ensures;
      less = not_same _ _ c.if-size-hole.false;
      pieces = c.deref.ensures.value ∙ c.in_ok-push.ensures.items ∙ ap (λ (n : ℕ). c.args.pieces.now.items ++ record { at = h.at; size = n; taken = c.args.left } ∷ []) c.last_size-size.ensures;
      named = c.in_ok-next.ensures.told m held long;
    } in
    let e = err_from_is_err_and c.from_residual-in_err-rest.result c.from_residual-in_err-rest.ensures.1 in
    err_any c.from_residual-in_err-rest.result c.in_err-rest.field-0.0 (rest_in d head qs (record { at = h.at + size; size = h.size - size; last = h.at }) next) _ (e.1 ∙ ap Err e.2)
    (λ p f. row_rest_err d head c.args.pieces.now.items qs c.args.left h size next p i f) (c.in_err-rest.ensures.told m (c.block_named.ensures.holds ∙ held) long)

pub returns-clause-told : goal.returns-clause-told
returns-clause-told g c m held long =
    let d = bytes_of c.args.name.now m in
    let h = c.args.hole.now in
    let head = c.args.list.now.head in
    let size = c.last_size-size.result in
    let qs = c.deref.result.now in
    let next = c.in_ok-next.next in
    let i : IsLeft d head c.args.pieces.now.items qs c.args.left h size next = record {
      size_is = c.last_size-size.ensures;
      less = not_same _ _ c.if-size-hole.false;
      pieces = c.deref.ensures.value ∙ c.in_ok-push.ensures.items ∙ ap (λ (n : ℕ). c.args.pieces.now.items ++ record { at = h.at; size = n; taken = c.args.left } ∷ []) c.last_size-size.ensures;
      named = c.in_ok-next.ensures.told m held long;
    } in
    row_rest d head c.args.pieces.now.items qs c.args.left h size next c.in_ok-rest.rest i (c.in_ok-rest.ensures.told m (c.block_named.ensures.holds ∙ held) long)
