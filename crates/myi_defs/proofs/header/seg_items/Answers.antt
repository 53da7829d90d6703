use Rattle.std.proofs.Common.{◌≡◌, ◌+◌, ◌-◌, ◌∷◌, [], ◌++◌, arith, ap, sym, ◌∙◌}
use Rattle.std.proofs.lemmas.Grind.{common_steps}
use Rattle.std.proofs.lemmas.List.{append-nil}
use Rattle.myi_defs.specs.Header.{seg_items}
use Rattle.myi_defs.proofs.HeaderLemmas.{pushed, seg_items_none, seg_items_more}
use Rattle.myi_defs.proofs.header.seg_items.Goals as goal

pub loop-preserved : goal.loop-preserved
loop-preserved c = record {
  place = omega arith;
  rest =
      let items : c.push.new.self.items ≡ c.loop.segments.items ++ c.read.result ∷ [] = grind (arith, common_steps) in
      let less : c.args.count - (c.loop.counter + 1) ≡ c.args.count - c.loop.counter - 1 = omega arith in
      let more = seg_items_more (c.args.count - c.loop.counter) c.loop.place c.args.header.now (omega arith) in
      rw (items, less, c.read.ensures) (pushed _ _ _ _ (ap (λ xs. c.loop.segments.items ++ xs) (sym more) ∙ c.loop.invariant.rest));
}

pub returns : goal.returns
returns c =
    let none : c.args.count - c.loop.counter ≡ 0 = omega arith in
    sym (append-nil c.loop.segments.items)
    ∙ ap (λ xs. c.loop.segments.items ++ xs) (sym (ap (λ n. seg_items n c.loop.place c.args.header.now) none ∙ seg_items_none c.loop.place c.args.header.now))
    ∙ c.loop.invariant.rest
