use Rattle.std.proofs.Common.{◌≤◌, ◌<◌, ◌∙◌, ◌+◌, length, refl, arith}
use Rattle.std.proofs.lemmas.List.{length-take}
use Rattle.myi_base.specs.Holding.{bytes_of}
use Rattle.myi_chain.proofs.CallerLemmas.{to_same, to_end}
use Rattle.myi_data.specs.Readable.{packs}
use Rattle.myi_data.specs.NextSlot.{file_bytes}
use Rattle.myi_data.proofs.NextSlotLemmas.{row_shown, held_front, held_inside, few_left, passes_then}
use Rattle.myi_data.proofs.next_slot.next_slot.Goals as goal

pub loop-behind-init : goal.loop-behind-init
loop-behind-init g c = record {
  start = refl;
  later = omega arith;
  within = c.requires.order;
  size = refl;
  inside = c.requires.inside;
  holds = refl;
  faults = omega arith;
  stands = λ m held stood. stood;
  passes = λ m held stood. to_same c.args.wanted _ _ refl;
}

pub loop-behind-preserved : goal.loop-behind-preserved
loop-behind-preserved g c =
    let f = c.args.file.now in
    let p = c.loop-behind.behind in
    let was = c.loop-behind.invariant in
    let now = c.in_ok-reach.ensures in
    let inside : p + length c.bytes_from.result.now ≤ f.end = held_inside p f.end c.bytes_from.result.now c.reach.new.self.held c.bytes_from.ensures was.within now.inside in
    let none = c.in-Neither.ensures in
    record {
      start = was.start;
      later = omega (arith, was.later);
      within = omega (arith, inside, none.0);
      size = now.size ∙ was.size;
      inside = now.inside;
      holds = now.holds ∙ was.holds;
      faults = omega (arith, was.faults, now.cause.later);
      stands = λ m held stood. now.stands m (was.holds ∙ held) (was.stands m held stood);
      passes = λ m held stood.
          passes_then c.args.wanted _ _ _ (was.passes m held stood) (none.2 p (file_bytes f m) (held_front p f.end c.bytes_from.result.now c.reach.new.self.held (bytes_of f.name.now m) c.bytes_from.ensures was.within now.inside (now.stands m (was.holds ∙ held) (was.stands m held stood))));
    }

pub returns-then-not-branch-clause-found : goal.returns-then-not-branch-clause-found
returns-then-not-branch-clause-found g c m held stood =
    let f = c.args.file.now in
    let was = c.loop-behind.invariant in
    let short : length (file_bytes f m) < c.loop-behind.behind + f.size = omega (arith, c.in_ok-reach.ensures.short c.if-not-branch.true m (was.holds ∙ held) (was.stands m held stood), was.size, c.requires.sized) in
    to_end c.args.wanted _ _ (was.passes m held stood) (few_left (packs f.test.now) f.size c.loop-behind.behind (file_bytes f m) c.requires.some short)

pub returns-in-Free-clause-found : goal.returns-in-Free-clause-found
returns-in-Free-clause-found g c m held stood =
    let f = c.args.file.now in
    let p = c.loop-behind.behind in
    let was = c.loop-behind.invariant in
    let now = c.in_ok-reach.ensures in
    passes_then c.args.wanted _ _ _ (was.passes m held stood) (c.in-Free.ensures.2 p (file_bytes f m) (held_front p f.end c.bytes_from.result.now c.reach.new.self.held (bytes_of f.name.now m) c.bytes_from.ensures was.within now.inside (now.stands m (was.holds ∙ held) (was.stands m held stood))))

pub returns-in-Row-clause-found : goal.returns-in-Row-clause-found
returns-in-Row-clause-found g c m held stood =
    let f = c.args.file.now in
    let p = c.loop-behind.behind in
    let was = c.loop-behind.invariant in
    let now = c.in_ok-reach.ensures in
    passes_then c.args.wanted _ _ _ (was.passes m held stood) (c.in-Row.ensures.2 p (file_bytes f m) (held_front p f.end c.bytes_from.result.now c.reach.new.self.held (bytes_of f.name.now m) c.bytes_from.ensures was.within now.inside (now.stands m (was.holds ∙ held) (was.stands m held stood))))

pub returns-in-Row-clause-held : goal.returns-in-Row-clause-held
returns-in-Row-clause-held g c =
    let f = c.args.file.now in
    let row = c.in-Row.ensures in
    row_shown (packs f.test.now) f.size c.loop-behind.behind c.in-Row.skip c.bytes_from.result.now c.reach.new.self.held c.bytes_from.ensures c.requires.some row.0 row.1

pub returns-clause-found : goal.returns-clause-found
returns-clause-found g c m held stood =
    let f = c.args.file.now in
    let few : length (file_bytes f m) < c.loop-behind.behind + f.size = omega (arith, length-take f.end (bytes_of f.name.now m), c.loop-behind.invariant.within) in
    to_end c.args.wanted _ _ (c.loop-behind.invariant.passes m held stood) (few_left (packs f.test.now) f.size c.loop-behind.behind (file_bytes f m) c.requires.some few)
