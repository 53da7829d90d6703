use Rattle.std.proofs.Common.{subst, arith}
use Rattle.myi_data.specs.Readable.{packs}
use Rattle.myi_data.specs.NextSlot.{IsKind}
use Rattle.myi_data.proofs.SlotLemmas.{cut_here}
use Rattle.myi_data.proofs.NextSlotLemmas.{free_met, row_met, other_met, none_met}
use Rattle.myi_data.proofs.next_slot.first_slot.Goals as goal

pub loop-at-init : goal.loop-at-init
loop-at-init c = record { inside = omega arith; whole = λ some. absurd (omega arith); passes = none_met c.args.wanted (packs c.args.test.now) c.args.size c.args.bytes.now c.requires }

pub returns-in-Free : goal.returns-in-Free
returns-in-Free c =
    let is = subst (λ b. IsKind c.args.wanted (packs c.args.test.now) b c.slot_kind.result) (cut_here c.loop-at.at c.args.size c.args.bytes.now) c.slot_kind.ensures in
    let kind = subst (IsKind c.args.wanted (packs c.args.test.now) _) c.in-Free.is is in
    (omega arith, kind.0, free_met c.args.wanted (packs c.args.test.now) c.args.size c.args.bytes.now c.requires c.loop-at.at c.loop-at.invariant.passes (omega arith) kind)

pub returns-in-Row : goal.returns-in-Row
returns-in-Row c =
    let is = subst (λ b. IsKind c.args.wanted (packs c.args.test.now) b c.slot_kind.result) (cut_here c.loop-at.at c.args.size c.args.bytes.now) c.slot_kind.ensures in
    let kind = subst (IsKind c.args.wanted (packs c.args.test.now) _) c.in-Row.is is in
    (omega arith, kind.0, row_met c.args.wanted (packs c.args.test.now) c.args.size c.args.bytes.now c.requires c.loop-at.at c.loop-at.invariant.passes (omega arith) kind)

pub loop-at-preserved : goal.loop-at-preserved
loop-at-preserved c =
    let is = subst (λ b. IsKind c.args.wanted (packs c.args.test.now) b c.slot_kind.result) (cut_here c.loop-at.at c.args.size c.args.bytes.now) c.slot_kind.ensures in
    let kind = subst (IsKind c.args.wanted (packs c.args.test.now) _) c.in-Neither.is is in
    record {
      inside = omega arith;
      whole = λ some. omega arith;
      passes = other_met c.args.wanted (packs c.args.test.now) c.args.size c.args.bytes.now c.requires c.loop-at.at c.loop-at.invariant.passes (omega arith) kind;
    }

pub returns : goal.returns
returns c = (c.loop-at.invariant.inside, λ long. omega (arith, c.loop-at.invariant.whole), c.loop-at.invariant.passes)
