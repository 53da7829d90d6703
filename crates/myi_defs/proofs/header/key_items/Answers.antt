use Rattle.std.proofs.Common.{◌≡◌, ◌+◌, ◌-◌, ◌∷◌, [], ◌++◌, length, arith, ap, sym, ◌∙◌}
use Rattle.std.proofs.lemmas.Grind.{common_steps}
use Rattle.std.proofs.lemmas.List.{append-nil}
use Rattle.std.proofs.lemmas.Result.{err_from_is_err_and}
use Rattle.myi_defs.specs.Header.{key_items, keys_length}
use Rattle.myi_defs.proofs.HeaderLemmas.{pushed, key_items_none, key_items_more, keys_length-push, keys_length-part, length-key_items}
use Rattle.myi_defs.proofs.header.key_items.Goals as goal

pub returns-in_err-key-clause-past : goal.returns-in_err-key-clause-past
returns-in_err-key-clause-past c =
    let p = err_from_is_err_and c.from_residual-in_err-key.result c.from_residual-in_err-key.ensures.1 in
    rw (p.1, p.2) (λ other.
    let past = c.in_err-key.ensures.past other in
    let part = keys_length-part c.loop.keys.items (key_items c.args.count c.args.at c.args.header.now) (c.args.count - c.loop.counter) c.loop.place c.args.header.now (omega arith) c.loop.invariant.rest in
    omega (arith, past, part, c.loop.invariant.place))

pub loop-preserved : goal.loop-preserved
loop-preserved c =
    let items : c.push.new.self.items ≡ c.loop.keys.items ++ c.in_ok-key.key ∷ [] = grind (arith, common_steps) in
    let keys = ap keys_length items ∙ keys_length-push c.loop.keys.items c.in_ok-key.key in
    let inside = c.in_ok-key.ensures.inside in
    let value = c.in_ok-key.ensures.value in
    record {
      place = omega (arith, keys);
      inside = omega (arith, inside);
      rest =
          let less : c.args.count - (c.loop.counter + 1) ≡ c.args.count - c.loop.counter - 1 = omega arith in
          let more = key_items_more (c.args.count - c.loop.counter) c.loop.place c.args.header.now (omega arith) in
          rw (items, less, c.length-place.ensures, value) (pushed _ _ _ _ (ap (λ xs. c.loop.keys.items ++ xs) (sym more) ∙ c.loop.invariant.rest));
    }

pub returns-clause-value : goal.returns-clause-value
returns-clause-value c =
    let none : c.args.count - c.loop.counter ≡ 0 = omega arith in
    sym (append-nil c.loop.keys.items)
    ∙ ap (λ xs. c.loop.keys.items ++ xs) (sym (ap (λ n. key_items n c.loop.place c.args.header.now) none ∙ key_items_none c.loop.place c.args.header.now))
    ∙ c.loop.invariant.rest

pub returns-clause-count : goal.returns-clause-count
returns-clause-count c = ap length (returns-clause-value c) ∙ length-key_items c.args.count c.args.at c.args.header.now
