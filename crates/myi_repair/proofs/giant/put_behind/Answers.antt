use Rattle.std.proofs.Common.{◌≡◌, ◌-◌, ◌^◌, ◌<◌, ◌∙◌, ℕ, nat_eq, true, false, List, [], ◌∷◌, length, sym, ap, arith, length-drop}
use Rattle.myi_frames.specs.Sizes.{middle_room}
use Rattle.myi_frames.specs.Writing.{end_spec}
use Rattle.myi_frames.proofs.CallerLemmas.{length-block}
use Rattle.myi_data.specs.Stored.{is_end, end_size}
use Rattle.myi_data.proofs.CallerLemmas.{end_writable, room_short}
use Rattle.myi_repair.proofs.GiantLaws.{goes_whole, goes_no_further, on_err, goes_end, goes_end_part, goes_length, room_bounds, IsMiddle, goes_next, goes_middle_part, middle_counts, middle_takes, end_takes}
use Rattle.myi_repair.proofs.giant.put_behind.Goals as goal

pub returns-then-not-may_be_size-clause-err : goal.returns-then-not-may_be_size-clause-err
returns-then-not-may_be_size-clause-err g c = goes_no_further _ _ _ _ _ _ _ c.loop-size.invariant.so_far

pub returns-then-is_empty-clause-err : goal.returns-then-is_empty-clause-err
returns-then-is_empty-clause-err g c = goes_no_further _ _ _ _ _ _ _ c.loop-size.invariant.so_far

pub returns-clause-err : goal.returns-clause-err
returns-clause-err g c = goes_no_further _ _ _ _ _ _ _ c.loop-size.invariant.so_far

-- an end

pub returns-in_err-end-clause-err : goal.returns-in_err-end-clause-err
returns-in_err-end-clause-err g c =
    let sizes = c.in-Some.ensures.cases.0 in
    let end : is_end (length c.loop-size.left.now) c.in-Some.field-0-0.now ≡ true = sym c.is_end.ensures ∙ c.if-is_end.true in
    on_err c.from_residual.result _ (goes_end_part _ _ _ _ _ _ _ _ (goes_end _ _ _ _ _ _ _ _ _ c.loop-size.left.now sizes end c.loop-size.invariant.so_far) c.in_err-end.ensures.err)

pub returns-then-is_end-clause-ok : goal.returns-then-is_end-clause-ok
returns-then-is_end-clause-ok g c =
    let sizes = c.in-Some.ensures.cases.0 in
    let end : is_end (length c.loop-size.left.now) c.in-Some.field-0-0.now ≡ true = sym c.is_end.ensures ∙ c.if-is_end.true in
    goes_whole _ _ _ _ _ _ _ _ (goes_end _ _ _ _ _ _ _ _ _ c.loop-size.left.now sizes end c.loop-size.invariant.so_far) c.in_ok-end.ensures.ok

pub returns-then-is_end-clause-end : goal.returns-then-is_end-clause-end
returns-then-is_end-clause-end g c =
    let n = length c.loop-size.left.now in
    let sizes = c.in-Some.ensures.cases.0 in
    let end : is_end n c.in-Some.field-0-0.now ≡ true = sym c.is_end.ensures ∙ c.if-is_end.true in
    let sized = c.may_be_size.ensures.sized c.if-not-may_be_size.false in
    let long = length-block end_spec c.loop-size.left.now (end_size n c.in-Some.field-0-0.now) (end_writable n c.in-Some.field-0-0.now sized.0 sized.1 end) in
    c.in_ok-end.ensures.behind ∙ goes_length _ _ _ _ _ _ (end_size n c.in-Some.field-0-0.now) _ (goes_end _ _ _ _ _ _ _ _ _ c.loop-size.left.now sizes end c.loop-size.invariant.so_far) long

pub returns-then-is_end-clause-whole : goal.returns-then-is_end-clause-whole
returns-then-is_end-clause-whole g c =
    let end : is_end (length c.loop-size.left.now) c.in-Some.field-0-0.now ≡ true = sym c.is_end.ensures ∙ c.if-is_end.true in
    omega (arith, c.loop-size.invariant.taken, end_takes _ _ _ c.loop-size.left.now c.in-Some.ensures.cases.0 end)

-- a middle

some : (xs : List ℕ) → nat_eq (length xs) 0 ≡ false → 0 < length xs
some [] e = absurd cc
some (x ∷ xs) e = omega arith

pub split_at-requires : goal.split_at-requires
split_at-requires g c =
    let sized = c.may_be_size.ensures.sized c.if-not-may_be_size.false in
    let no_end : is_end (length c.loop-size.left.now) c.in-Some.field-0-0.now ≡ false = sym c.is_end.ensures ∙ c.if-is_end.false in
    let few : middle_room c.in-Some.field-0-0.now < 2 ^ 24 = omega (arith, c.middle_room.ensures, c.if-middle_room-ge-GIANT.false) in
    omega (arith, c.middle_room-in-Some.ensures, room_short (length c.loop-size.left.now) c.in-Some.field-0-0.now sized.0 sized.1 few no_end)

pub returns-in_err-place-clause-err : goal.returns-in_err-place-clause-err
returns-in_err-place-clause-err g c =
    let was = c.loop-size.invariant in
    let left = c.loop-size.left.now in
    let size = c.in-Some.field-0-0.now in
    let room = c.middle_room-in-Some.result in
    let sized = c.may_be_size.ensures.sized c.if-not-may_be_size.false in
    let no_end : is_end (length left) size ≡ false = sym c.is_end.ensures ∙ c.if-is_end.false in
    let few : middle_room size < 2 ^ 24 = omega (arith, c.middle_room.ensures, c.if-middle_room-ge-GIANT.false) in
    let short = room_short (length left) size sized.0 sized.1 few no_end in
    let m : IsMiddle c.loop-size.place size room c.loop-size.sizes.now c.in-Some.behind.now left c.split_at.result.0.now c.split_at.result.1.now = record {
      parted = c.in-Some.ensures.cases.0;
      more = some c.in-Some.behind.now (sym c.is_empty.ensures ∙ c.if-is_empty.false);
      no_end = no_end;
      multiple = sized.0;
      least = sized.1;
      few = few;
      near = omega (arith, was.near, c.requires.place, c.requires.few);
      filled = c.middle_room-in-Some.ensures;
      inside = omega (arith, c.middle_room-in-Some.ensures, short);
      first = c.split_at.ensures.front;
      rest = c.split_at.ensures.back;
    } in
    on_err c.from_residual-in_err-place.result _ (goes_middle_part _ _ _ _ _ _ _ _ _ _ _ _ _ _ m was.so_far c.in_err-place.ensures.err)

pub loop-size-preserved : goal.loop-size-preserved
loop-size-preserved g c =
    let was = c.loop-size.invariant in
    let left = c.loop-size.left.now in
    let size = c.in-Some.field-0-0.now in
    let room = c.middle_room-in-Some.result in
    let sized = c.may_be_size.ensures.sized c.if-not-may_be_size.false in
    let no_end : is_end (length left) size ≡ false = sym c.is_end.ensures ∙ c.if-is_end.false in
    let few : middle_room size < 2 ^ 24 = omega (arith, c.middle_room.ensures, c.if-middle_room-ge-GIANT.false) in
    let short = room_short (length left) size sized.0 sized.1 few no_end in
    let m : IsMiddle c.loop-size.place size room c.loop-size.sizes.now c.in-Some.behind.now left c.split_at.result.0.now c.split_at.result.1.now = record {
      parted = c.in-Some.ensures.cases.0;
      more = some c.in-Some.behind.now (sym c.is_empty.ensures ∙ c.if-is_empty.false);
      no_end = no_end;
      multiple = sized.0;
      least = sized.1;
      few = few;
      near = omega (arith, was.near, c.requires.place, c.requires.few);
      filled = c.middle_room-in-Some.ensures;
      inside = omega (arith, c.middle_room-in-Some.ensures, short);
      first = c.split_at.ensures.front;
      rest = c.split_at.ensures.back;
    } in
    let less : length c.split_at.result.1.now ≡ length left - room = ap (λ (x : List ℕ). length x) m.rest ∙ length-drop room left in
    let bounds = room_bounds size sized.1 in
    record {
      some = omega (arith, less, short, c.middle_room-in-Some.ensures);
      near = omega (arith, less, short, c.middle_room-in-Some.ensures, was.near, c.in_ok-place.ensures.behind, bounds.0, bounds.1);
      less = omega (arith, was.less, c.in_ok-place.ensures.behind, sized.1);
      few = omega (arith, less, short, c.middle_room-in-Some.ensures, was.few, bounds.1);
      counted = omega (arith, was.counted, middle_counts _ _ _ _ _ _ _ _ m);
      taken = omega (arith, was.taken, less, short, c.middle_room-in-Some.ensures, middle_takes _ _ _ _ _ _ _ _ m);
      faults = omega (arith, was.faults, c.in_ok-place.ensures.cause.later);
      so_far = goes_next _ _ _ _ _ _ _ _ _ _ _ _ _ _ _ m c.in_ok-place.ensures.behind was.so_far c.in_ok-place.ensures.ok;
    }
