use Rattle.std.proofs.Common.{◌≡◌, ◌+◌, ◌-◌, ◌∷◌, [], ◌++◌, length, arith, ap, sym, subst, ◌∙◌}
use Rattle.std.proofs.lemmas.Grind.{common_steps}
use Rattle.std.proofs.lemmas.List.{append-nil}
use Rattle.myi_defs.specs.Header.{field_items}
use Rattle.myi_defs.proofs.HeaderLemmas.{pushed, field_items_none, field_items_more, length-field_items, field_items-start}
use Rattle.myi_defs.specs.Conditions.{ItemsStartFrom}
use Rattle.myi_defs.proofs.header.field_items.Goals as goal

pub loop-preserved : goal.loop-preserved
loop-preserved c = record {
  place = omega arith;
  few = omega arith;
  rest =
      let items : c.push.new.self.items ≡ c.loop.fields.items ++ c.read-field.result ∷ [] = grind (arith, common_steps) in
      let less : c.args.count - (c.loop.counter + 1) ≡ c.args.count - c.loop.counter - 1 = omega arith in
      let more = field_items_more (c.args.count - c.loop.counter) c.loop.start c.loop.place c.args.header.now (omega arith) in
      rw (items, less, c.read-field.ensures.value) (pushed _ _ _ _ (ap (λ xs. c.loop.fields.items ++ xs) (sym more) ∙ c.loop.invariant.rest));
}

pub returns-clause-value : goal.returns-clause-value
returns-clause-value c =
    let none : c.args.count - c.loop.counter ≡ 0 = omega arith in
    sym (append-nil c.loop.fields.items)
    ∙ ap (λ xs. c.loop.fields.items ++ xs) (sym (ap (λ n. field_items n c.loop.start c.loop.place c.args.header.now) none ∙ field_items_none c.loop.start c.loop.place c.args.header.now))
    ∙ c.loop.invariant.rest

pub returns-clause-count : goal.returns-clause-count
returns-clause-count c = ap length (returns-clause-value c) ∙ length-field_items c.args.count 0 c.args.at c.args.header.now

pub returns-clause-starts : goal.returns-clause-starts
returns-clause-starts c =
    subst (λ fs. ItemsStartFrom 0 fs) (sym (returns-clause-value c)) (field_items-start c.args.count 0 c.args.at c.args.header.now)
