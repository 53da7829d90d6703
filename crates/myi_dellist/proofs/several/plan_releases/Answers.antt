use Rattle.std.proofs.Common.{◌∙◌, List, length, sym, ap, subst, arith}
use Rattle.std.specs.List.{AllByRecursion}
use Rattle.myi_base.specs.Holding.{bytes_of}
use Rattle.myi_dellist.specs.declared.several.Part.{Part}
use Rattle.myi_dellist.specs.Replacing.{head_after}
use Rattle.myi_dellist.specs.Freed.{parts_in, IsPart}
use Rattle.myi_dellist.proofs.FreedLemmas.{plans-next, adds-next}
use Rattle.myi_dellist.proofs.several.plan_releases.Goals as goal

pub loop-part-preserved : goal.loop-part-preserved
loop-part-preserved g c =
    let was = c.loop-part.invariant in
    let is = c.in-Some.ensures.cases.0 in
    let done = c.in_ok-more.ensures in
    record {
      parts = (subst (λ (xs : List Part). AllByRecursion (IsPart c.args.list.now.end) (parts_in xs)) is was.parts).1;
      heads = done.heads;
      head = ap (λ (xs : List Part). head_after c.loop-part.head (parts_in xs)) (sym is) ∙ was.head;
      holds = done.holds ∙ was.holds;
      faults = omega (arith, was.faults, done.cause.later);
      so_far = λ m held long.
          plans-next (bytes_of c.args.name.now m) c.loop-part.head c.loop-part.left.now c.in-Some.behind.now c.in-Some.part.now c.next_of.result c.loop-part.heads c.plan_part.new.heads _ _ is c.next_of.ensures (done.told m (was.holds ∙ held) long) (was.so_far m held long);
      added = λ m held long.
          adds-next (bytes_of c.args.name.now m) c.loop-part.head c.loop-part.left.now c.in-Some.behind.now c.in-Some.part.now c.next_of.result c.loop-part.heads c.plan_part.new.heads _ c.loop-part.more _ is c.next_of.ensures (done.told m (was.holds ∙ held) long) (was.added m held long);
      few = omega (arith, was.few, done.few, ap (λ (xs : List Part). length xs) is);
    }
