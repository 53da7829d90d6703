use Rattle.std.proofs.Common.{◌∙◌, length, refl, arith}
use Rattle.myi_repair.proofs.GiantLaws.{goes_whole, on_err, goes_end_part, goes_length, start_bounds, IsStart, start_goes, start_takes}
use Rattle.myi_repair.proofs.giant.put_giant.Goals as goal

pub put_behind-requires-clause-place : goal.put_behind-requires-clause-place
put_behind-requires-clause-place g c κs within =
    let size = c.in-Some.field-0-0.now in
    let n = length c.args.packed.now in
    let sized = c.may_be_size.ensures.sized c.if-not-may_be_size.false in
    omega (arith, c.in_ok-next.ensures.behind, c.requires.place, c.start_room-room.ensures, c.if-room-ge-GIANT.false, (start_bounds n size sized.1).0)

pub returns-in_err-end-clause-err : goal.returns-in_err-end-clause-err
returns-in_err-end-clause-err g c =
    let size = c.in-Some.field-0-0.now in
    let b = c.args.packed.now in
    let room = c.start_room-room.result in
    let sized = c.may_be_size.ensures.sized c.if-not-may_be_size.false in
    let m : IsStart c.args.at size room c.in_ok-next.next c.args.sizes.now c.in-Some.behind.now b c.split_at.result.1.now = record {
      parted = c.in-Some.ensures.cases.0;
      multiple = sized.0;
      least = sized.1;
      giant = c.requires.giant;
      short = c.requires.few;
      few = omega (arith, c.start_room-room.ensures, c.if-room-ge-GIANT.false);
      near = omega (arith, c.requires.place);
      filled = c.start_room-room.ensures;
      behind = c.in_ok-next.ensures.behind;
      rest = c.split_at.ensures.back;
    } in
    on_err c.from_residual-in_err-end.result _ (goes_end_part _ _ _ _ _ _ _ _ (start_goes _ _ _ _ _ _ _ _ _ _ _ m c.in_ok-next.ensures.ok) c.in_err-end.ensures.err)

pub returns-clause-ok : goal.returns-clause-ok
returns-clause-ok g c =
    let size = c.in-Some.field-0-0.now in
    let b = c.args.packed.now in
    let room = c.start_room-room.result in
    let sized = c.may_be_size.ensures.sized c.if-not-may_be_size.false in
    let m : IsStart c.args.at size room c.in_ok-next.next c.args.sizes.now c.in-Some.behind.now b c.split_at.result.1.now = record {
      parted = c.in-Some.ensures.cases.0;
      multiple = sized.0;
      least = sized.1;
      giant = c.requires.giant;
      short = c.requires.few;
      few = omega (arith, c.start_room-room.ensures, c.if-room-ge-GIANT.false);
      near = omega (arith, c.requires.place);
      filled = c.start_room-room.ensures;
      behind = c.in_ok-next.ensures.behind;
      rest = c.split_at.ensures.back;
    } in
    goes_whole _ _ _ _ _ _ _ _ (start_goes _ _ _ _ _ _ _ _ _ _ _ m c.in_ok-next.ensures.ok) c.in_ok-end.ensures.ok

pub returns-clause-end : goal.returns-clause-end
returns-clause-end g c =
    let size = c.in-Some.field-0-0.now in
    let b = c.args.packed.now in
    let room = c.start_room-room.result in
    let sized = c.may_be_size.ensures.sized c.if-not-may_be_size.false in
    let m : IsStart c.args.at size room c.in_ok-next.next c.args.sizes.now c.in-Some.behind.now b c.split_at.result.1.now = record {
      parted = c.in-Some.ensures.cases.0;
      multiple = sized.0;
      least = sized.1;
      giant = c.requires.giant;
      short = c.requires.few;
      few = omega (arith, c.start_room-room.ensures, c.if-room-ge-GIANT.false);
      near = omega (arith, c.requires.place);
      filled = c.start_room-room.ensures;
      behind = c.in_ok-next.ensures.behind;
      rest = c.split_at.ensures.back;
    } in
    c.in_ok-end.ensures.end ∙ goes_length _ _ _ _ _ _ _ _ (start_goes _ _ _ _ _ _ _ _ _ _ _ m c.in_ok-next.ensures.ok) refl

pub returns-clause-whole : goal.returns-clause-whole
returns-clause-whole g c =
    let size = c.in-Some.field-0-0.now in
    let b = c.args.packed.now in
    let room = c.start_room-room.result in
    let sized = c.may_be_size.ensures.sized c.if-not-may_be_size.false in
    let m : IsStart c.args.at size room c.in_ok-next.next c.args.sizes.now c.in-Some.behind.now b c.split_at.result.1.now = record {
      parted = c.in-Some.ensures.cases.0;
      multiple = sized.0;
      least = sized.1;
      giant = c.requires.giant;
      short = c.requires.few;
      few = omega (arith, c.start_room-room.ensures, c.if-room-ge-GIANT.false);
      near = omega (arith, c.requires.place);
      filled = c.start_room-room.ensures;
      behind = c.in_ok-next.ensures.behind;
      rest = c.split_at.ensures.back;
    } in
    start_takes _ _ _ _ _ _ _ _ m c.in_ok-end.ensures.whole
