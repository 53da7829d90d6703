use Rattle.std.proofs.Common.{◌≡◌, ◌∙◌, ◌++◌, refl, sym, subst, arith, true, false}
use Rattle.std.specs.Prelude.{IfSome}
use Rattle.myi_frames.specs.Block.{IsPlace}
use Rattle.myi_frames.specs.Seeing.{HeadsBlock}
use Rattle.myi_chain.specs.Chain.{row_bytes}
use Rattle.myi_chain.specs.Source.{IsHeader, read_bytes, read_blocks}
use Rattle.myi_chain.proofs.JoinLemmas.{Joins, joins_none, joins_more, joins_here, joins_room, none_left}
use Rattle.myi_chain.proofs.chain.join.Goals as goal

pub loop-first-init : goal.loop-first-init
loop-first-init g c = record {
  holds = refl;
  faults = omega arith;
  room = c.requires.room;
  so_far = λ m held bs places each. record { left = bs; places = places; each = each; all = refl };
}

pub header-requires-clause-ready : goal.header-requires-clause-ready
header-requires-clause-ready g c κs lives = λ m held. c.requires.ready m (sym c.loop-first.invariant.holds ∙ held)

pub append-requires-clause-block : goal.append-requires-clause-block
append-requires-clause-block g c κs lives =
    let is = subst (λ o. IfSome o (IsHeader c.in-Some.first.now.0 c.args.source.now.end)) c.in-Some-2.is c.in_ok-block.ensures.place in
    record { here = refl; place = subst (λ p. IsPlace p c.in-Some-2.block.head.size c.args.source.now.end) (sym is.here) is.place; inside = is.inside; small = is.small }

pub append-requires-clause-ready : goal.append-requires-clause-ready
append-requires-clause-ready g c κs lives = λ m held. c.requires.ready m (sym c.loop-first.invariant.holds ∙ sym c.in_ok-block.ensures.holds ∙ held)

pub loop-first-preserved : goal.loop-first-preserved
loop-first-preserved g c =
    let was = c.loop-first.invariant in
    let found = c.in_ok-block.ensures in
    let block = c.in-Some-2.block in
    let first = c.in-Some.first.now in
    let s = c.args.source.now in
    record {
      holds = c.append.ensures.holds ∙ found.holds ∙ was.holds;
      faults = omega (arith, was.faults, found.cause.later, c.append.ensures.cause.later);
      room = omega (arith, was.room, c.in_ok-append.ensures.grown, c.if-len-block.false);
      so_far = λ m held bs places each.
          let so = was.so_far m held bs places each in
          let here = subst (λ o. HeadsBlock (read_bytes s m) o (read_blocks s m first.0)) c.in-Some-2.is (found.told m (was.holds ∙ held)) in
          let j = subst (λ rest. Joins (read_blocks s m) rest c.loop-first.joined.items (c.args.joined.now.items ++ row_bytes bs)) c.in-Some.ensures.cases.0 so in
          joins_more (read_bytes s m) (read_blocks s m) first c.in-Some.more.now c.loop-first.joined.items c.append.new.joined.items (c.args.joined.now.items ++ row_bytes bs) block j here (λ b heads.
          (c.in_ok-append.ensures.told m (found.holds ∙ was.holds ∙ held) b heads).1);
    }

pub returns-clause-told : goal.returns-clause-told
returns-clause-told g c m held bs places each fits =
    let read = read_blocks c.args.source.now m in
    let so = c.loop-first.invariant.so_far m held bs places each in
    (refl, joins_none read c.loop-first.joined.items (c.args.joined.now.items ++ row_bytes bs) (subst (λ rest. Joins read rest c.loop-first.joined.items (c.args.joined.now.items ++ row_bytes bs)) (none_left c.loop-first.rest.now c.in_default.ensures.cases) so))

pub returns-in_default-2-clause-told : goal.returns-in_default-2-clause-told
returns-in_default-2-clause-told g c m held bs places each fits =
    let was = c.loop-first.invariant in
    let s = c.args.source.now in
    let first = c.in-Some.first.now in
    let so = was.so_far m held bs places each in
    let here = subst (λ o. HeadsBlock (read_bytes s m) o (read_blocks s m first.0)) c.in_default-2.is (c.in_ok-block.ensures.told m (was.holds ∙ held)) in
    let j = subst (λ rest. Joins (read_blocks s m) rest c.loop-first.joined.items (c.args.joined.now.items ++ row_bytes bs)) c.in-Some.ensures.cases.0 so in
    absurd (joins_here (read_blocks s m) first c.in-Some.more.now c.loop-first.joined.items (c.args.joined.now.items ++ row_bytes bs) j here)

pub returns-then-not-branch-clause-told : goal.returns-then-not-branch-clause-told
returns-then-not-branch-clause-told g c m held bs places each fits =
    let was = c.loop-first.invariant in
    let found = c.in_ok-block.ensures in
    let s = c.args.source.now in
    let at = c.in-Some.first.now.0 in
    let here = subst (λ o. HeadsBlock (read_bytes s m) o (read_blocks s m at)) c.in-Some-2.is (found.told m (was.holds ∙ held)) in
    let whole = (c.in_ok-append.ensures.told m (found.holds ∙ was.holds ∙ held) here.0 here.2).0 in
    let no : true ≡ false = sym whole ∙ c.if-not-branch.true in
    absurd cc

pub returns-then-len-block-clause-told : goal.returns-then-len-block-clause-told
returns-then-len-block-clause-told g c m held bs places each fits =
    let was = c.loop-first.invariant in
    let s = c.args.source.now in
    let first = c.in-Some.first.now in
    let whole = c.args.joined.now.items ++ row_bytes bs in
    let so = was.so_far m held bs places each in
    let here = subst (λ o. HeadsBlock (read_bytes s m) o (read_blocks s m first.0)) c.in-Some-2.is (c.in_ok-block.ensures.told m (was.holds ∙ held)) in
    let j = subst (λ rest. Joins (read_blocks s m) rest c.loop-first.joined.items whole) c.in-Some.ensures.cases.0 so in
    let room = joins_room (read_bytes s m) (read_blocks s m) first c.in-Some.more.now c.loop-first.joined.items whole c.in-Some-2.block j here in
    absurd (omega (arith, room, fits, was.room, c.if-len-block.true))
