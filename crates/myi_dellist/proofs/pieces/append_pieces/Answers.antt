use Rattle.std.proofs.Common.{◌≡◌, ◌+◌, ◌-◌, ◌^◌, ◌≤◌, ◌∙◌, ◌++◌, ℕ, ap, arith}
use Rattle.myi_dellist.specs.Releasing.{most_size}
use Rattle.myi_dellist.specs.Placing.{room, is_none}
use Rattle.myi_dellist.proofs.EndLemmas.{IsStep, step_pieces, step_end, step_less, full_grows, empty_none, full_anyway}
use Rattle.myi_dellist.proofs.pieces.append_pieces.Goals as goal

pub returns-in_err-behind-clause-full : goal.returns-in_err-behind-clause-full
returns-in_err-behind-clause-full c =
    let was = c.loop-rest.invariant in
    let far : 2 ^ 24 ≤ c.loop-rest.rest = omega (arith, c.loop-rest-test.true) in
    full_anyway c.from_residual.result _ (omega (arith, c.in_err-behind.ensures.full, was.end, full_grows c.args.len (is_none c.loop-rest.pieces.items) c.loop-rest.rest c.loop-rest.place far))

pub overflow_sub-rest : goal.overflow_sub-rest
overflow_sub-rest c =
    let far : 2 ^ 24 ≤ c.loop-rest.rest = omega (arith, c.loop-rest-test.true) in
    let is : c.room-taken.result ≡ room c.args.len (is_none c.loop-rest.pieces.items) most_size = c.room-taken.ensures ∙ ap (λ b. room c.args.len b most_size) (c.is_empty.ensures ∙ empty_none _ c.loop-rest.pieces.items (omega (arith, c.loop-rest.pieces.ok.0))) in
    omega (arith, (step_less c.args.len (is_none c.loop-rest.pieces.items) c.loop-rest.rest c.room-taken.result far is).1)

pub loop-rest-smaller : goal.loop-rest-smaller
loop-rest-smaller c =
    let far : 2 ^ 24 ≤ c.loop-rest.rest = omega (arith, c.loop-rest-test.true) in
    let is : c.room-taken.result ≡ room c.args.len (is_none c.loop-rest.pieces.items) most_size = c.room-taken.ensures ∙ ap (λ b. room c.args.len b most_size) (c.is_empty.ensures ∙ empty_none _ c.loop-rest.pieces.items (omega (arith, c.loop-rest.pieces.ok.0))) in
    let less = step_less c.args.len (is_none c.loop-rest.pieces.items) c.loop-rest.rest c.room-taken.result far is in
    omega (arith, less.0, less.1)

pub loop-rest-preserved : goal.loop-rest-preserved
loop-rest-preserved c =
    let was = c.loop-rest.invariant in
    let ps = c.loop-rest.pieces.items in
    let qs = c.push.new.self.items in
    let left = c.loop-rest.rest in
    let taken = c.room-taken.result in
    let far : 2 ^ 24 ≤ left = omega (arith, c.loop-rest-test.true) in
    let is : taken ≡ room c.args.len (is_none ps) most_size = c.room-taken.ensures ∙ ap (λ b. room c.args.len b most_size) (c.is_empty.ensures ∙ empty_none _ ps (omega (arith, c.loop-rest.pieces.ok.0))) in
    let less = step_less c.args.len (is_none ps) left taken far is in
    let s : IsStep c.args.len ps qs left c.loop-rest.place taken = record { far = far; is_taken = is; added = c.in_ok-push.ensures.items } in
    let to : c.in_ok-behind.behind ≡ c.loop-rest.place + most_size = c.in_ok-behind.ensures.ok in
    record {
      some = omega (arith, less.1);
      less = omega (arith, was.less);
      pieces = ap (λ (q : ℕ). qs ++ Rattle.myi_dellist.specs.Placing.append_from (left - taken) c.args.len (is_none qs) (left - taken) q) to ∙ step_pieces c.args.len ps qs left c.loop-rest.place taken s ∙ was.pieces;
      end = ap (λ (q : ℕ). Rattle.myi_dellist.specs.Placing.end_behind q (Rattle.myi_dellist.specs.Placing.append_from (left - taken) c.args.len (is_none qs) (left - taken) q)) to ∙ step_end c.args.len ps qs left c.loop-rest.place taken s ∙ was.end;
    }
