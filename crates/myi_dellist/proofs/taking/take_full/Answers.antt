use Rattle.std.proofs.Common.{◌≡◌, ◌-◌, ◌∙◌, List, [], ◌∷◌, Some, Err, sym, ap, length, arith}
use Rattle.std.proofs.lemmas.Result.{err_from_is_err_and}
use Rattle.std.proofs.lemmas.List.{length-append}
use Rattle.myi_base.specs.Holding.{bytes_of}
use Rattle.myi_dellist.specs.declared.pieces.Piece.{Piece}
use Rattle.myi_dellist.specs.declared.taking.Taken.{Taken}
use Rattle.myi_dellist.specs.Placing.{room}
use Rattle.myi_dellist.specs.Freeing.{hole_in, block_named}
use Rattle.myi_dellist.specs.Taking.{HasTaken, MeetsBad}
use Rattle.myi_dellist.specs.Areas.{Area}
use Rattle.myi_dellist.proofs.EndLemmas.{empty_none}
use Rattle.myi_dellist.proofs.TakeLemmas.{IsStep, step_less, run_next, takes_on, bad_first, bad_next, bad_found}
use Rattle.myi_dellist.proofs.taking.take_full.Goals as goal

pub returns-in_err-next-clause-bad : goal.returns-in_err-next-clause-bad
returns-in_err-next-clause-bad g c =
    let e = err_from_is_err_and c.from_residual.result c.from_residual.ensures.1 in
    bad_found c.from_residual.result c.in_err-next.field-0.0 (g.F.Files.holds c.args.files.now) (λ m. length (bytes_of c.args.name.now m) ≡ c.args.list.now.end) (λ m. block_named (hole_in (bytes_of c.args.name.now m)) Rattle.std.proofs.Common.None c.args.list.now.head) (λ p m. (own : List Area) → HasTaken own c.args.len c.args.pieces.now.items c.args.left → MeetsBad own (bytes_of c.args.name.now m) c.args.list.now.head c.args.len p)
    (e.1 ∙ ap Err e.2) c.in_err-next.ensures.told (λ m held long p r own h. bad_first own (bytes_of c.args.name.now m) c.args.list.now.head c.args.len c.args.left p c.args.pieces.now.items c.requires.run.some h r)

pub overflow_sub-left : goal.overflow_sub-left
overflow_sub-left g c =
    let t : Taken = record { left = c.loop-next.left; last = c.loop-next.last; next = c.loop-next.next } in
    let ps = c.loop-next.pieces.items in
    let h = c.in-Some.hole in
    let taken = c.room-taken.result in
    let s : IsStep c.args.len ps c.push.new.self.items t h taken = record {
      next_is = c.in-Some.is;
      small = sym c.fits.ensures ∙ c.if-fits.false;
      taken_is = c.room-taken.ensures ∙ ap (λ b. room c.args.len b h.size) (c.is_empty.ensures ∙ empty_none _ ps (omega (arith, c.loop-next.pieces.ok.0)));
      added = c.in_ok-push.ensures.items;
    } in
    let less = step_less c.args.list.now.end c.args.len ps c.push.new.self.items t h taken s c.loop-next.invariant.run in
    omega (arith, less.0)

pub returns-in_err-next-2-clause-bad : goal.returns-in_err-next-2-clause-bad
returns-in_err-next-2-clause-bad g c =
    let t : Taken = record { left = c.loop-next.left; last = c.loop-next.last; next = c.loop-next.next } in
    let ps = c.loop-next.pieces.items in
    let qs = c.push.new.self.items in
    let h = c.in-Some.hole in
    let taken = c.room-taken.result in
    let s : IsStep c.args.len ps qs t h taken = record {
      next_is = c.in-Some.is;
      small = sym c.fits.ensures ∙ c.if-fits.false;
      taken_is = c.room-taken.ensures ∙ ap (λ b. room c.args.len b h.size) (c.is_empty.ensures ∙ empty_none _ ps (omega (arith, c.loop-next.pieces.ok.0)));
      added = c.in_ok-push.ensures.items;
    } in
    let less = step_less c.args.list.now.end c.args.len ps qs t h taken s c.loop-next.invariant.run in
    let e = err_from_is_err_and c.from_residual-in_err-next-2.result c.from_residual-in_err-next-2.ensures.1 in
    let same = c.loop-next.invariant.holds in
    bad_found c.from_residual-in_err-next-2.result c.in_err-next-2.field-0.0 (g.F.Files.holds c.args.files.now) (λ m. length (bytes_of c.args.name.now m) ≡ c.args.list.now.end) (λ m. block_named (hole_in (bytes_of c.args.name.now m)) (Some h.at) h.next) (λ p m. (own : List Area) → HasTaken own c.args.len c.args.pieces.now.items c.args.left → MeetsBad own (bytes_of c.args.name.now m) c.args.list.now.head c.args.len p)
    (e.1 ∙ ap Err e.2) (λ m held. c.in_err-next-2.ensures.told m (same ∙ held)) (λ m held long p r own k. bad_next own (bytes_of c.args.name.now m) c.args.list.now.head c.args.len ps qs t h taken s less.0 (c.loop-next.invariant.so_far m held long own k) p r)

pub loop-next-smaller : goal.loop-next-smaller
loop-next-smaller g c =
    let t : Taken = record { left = c.loop-next.left; last = c.loop-next.last; next = c.loop-next.next } in
    let ps = c.loop-next.pieces.items in
    let qs = c.push.new.self.items in
    let h = c.in-Some.hole in
    let taken = c.room-taken.result in
    let s : IsStep c.args.len ps qs t h taken = record {
      next_is = c.in-Some.is;
      small = sym c.fits.ensures ∙ c.if-fits.false;
      taken_is = c.room-taken.ensures ∙ ap (λ b. room c.args.len b h.size) (c.is_empty.ensures ∙ empty_none _ ps (omega (arith, c.loop-next.pieces.ok.0)));
      added = c.in_ok-push.ensures.items;
    } in
    let less = step_less c.args.list.now.end c.args.len ps qs t h taken s c.loop-next.invariant.run in
    omega (arith, less.0, less.1)

pub loop-next-preserved : goal.loop-next-preserved
loop-next-preserved g c =
    let t : Taken = record { left = c.loop-next.left; last = c.loop-next.last; next = c.loop-next.next } in
    let ps = c.loop-next.pieces.items in
    let qs = c.push.new.self.items in
    let h = c.in-Some.hole in
    let taken = c.room-taken.result in
    let was = c.loop-next.invariant in
    let s : IsStep c.args.len ps qs t h taken = record {
      next_is = c.in-Some.is;
      small = sym c.fits.ensures ∙ c.if-fits.false;
      taken_is = c.room-taken.ensures ∙ ap (λ b. room c.args.len b h.size) (c.is_empty.ensures ∙ empty_none _ ps (omega (arith, c.loop-next.pieces.ok.0)));
      added = c.in_ok-push.ensures.items;
    } in
    let less = step_less c.args.list.now.end c.args.len ps qs t h taken s was.run in
    record {
      run = run_next c.args.list.now.end c.args.len ps qs t h taken (Some h.at) c.in_ok-next-2.next s was.run c.in_ok-next-2.ensures.hole;
      before = omega (arith, was.before, ap (λ (xs : List Piece). length xs) c.in_ok-push.ensures.items, length-append ps (record { at = h.at; size = h.size; taken = taken } ∷ []));
      holds = c.in_ok-next-2.ensures.holds ∙ was.holds;
      faults = omega (arith, was.faults, c.in_ok-next-2.ensures.cause.later);
      so_far = λ m held long own k. takes_on own (bytes_of c.args.name.now m) c.args.list.now.head c.args.len ps qs t h taken c.in_ok-next-2.next s less.0 (was.so_far m held long own k) (c.in_ok-next-2.ensures.told m (was.holds ∙ held) long);
    }
