use Rattle.std.proofs.Common.{arith, refl, sym, ◌∙◌, length-drop}
use Rattle.std.specs.Prelude.{replicate}
use Rattle.myi_base.specs.Holding.{bytes_of}
use Rattle.myi_slots.proofs.FoundLemmas.{slot-is}
use Rattle.myi_slots.proofs.HeadLemmas.{no-slot, head-link}
use Rattle.myi_slots.proofs.slots.hole_at.Goals as goal

pub returns-then-not-is_slot-clause-err : goal.returns-then-not-is_slot-clause-err
returns-then-not-is_slot-clause-err g c = (refl, λ m held long. no-slot c.args.slots.size c.args.slots.width c.args.slots.end c.args.at (bytes_of c.args.name.now m) long (sym c.if-not-is_slot.ensures))

pub returns-then-count-slots-clause-err : goal.returns-then-count-slots-clause-err
returns-then-count-slots-clause-err g c = (
  refl,
  λ m held long.
      let x = bytes_of c.args.name.now m in
      let s = slot-is c.args.slots.size c.args.slots.end c.args.at (sym c.if-not-is_slot.ensures) in
      absurd (omega (arith, c.in_ok-count.ensures.told m held, c.if-count-slots.true, length-drop c.args.at x, s.1, long, c.requires.wide, c.requires.width)),
)

pub returns-in-Some-clause-ok : goal.returns-in-Some-clause-ok
returns-in-Some-clause-ok g c m held long =
    let x = bytes_of c.args.name.now m in
    head-link c.args.slots.size c.args.slots.width c.args.slots.end c.args.at (replicate 9 0) c.read_at.new.into x long (sym c.if-not-is_slot.ensures) (omega (arith, c.requires.width)) c.requires.wide (c.in_ok-count.ensures.bytes m held) ∙ sym c.in-Some.ensures

pub returns-in-None-clause-err : goal.returns-in-None-clause-err
returns-in-None-clause-err g c = (
  refl,
  λ m held long.
      let x = bytes_of c.args.name.now m in
      head-link c.args.slots.size c.args.slots.width c.args.slots.end c.args.at (replicate 9 0) c.read_at.new.into x long (sym c.if-not-is_slot.ensures) (omega (arith, c.requires.width)) c.requires.wide (c.in_ok-count.ensures.bytes m held) ∙ sym c.in-None.ensures,
)

pub returns-in-Some-clause-inside : goal.returns-in-Some-clause-inside
returns-in-Some-clause-inside g c = (slot-is c.args.slots.size c.args.slots.end c.args.at (sym c.if-not-is_slot.ensures)).1
