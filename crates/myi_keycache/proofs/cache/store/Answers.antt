use Rattle.std.proofs.Common.{◌≡◌, Err, length, refl, sym, ap, ◌∙◌}
use Rattle.std.proofs.lemmas.Result.{err_from_is_err_and}
use Rattle.myi_keycache.specs.declared.setup.CacheFault.{CacheFault}
use Rattle.myi_keycache.specs.Order.{due_in}
use Rattle.myi_keycache.proofs.OneLemmas.{due_is, one_due, one_ok, one_err, one_refused}
use Rattle.myi_keycache.proofs.FlagLemmas.{none_or, wrote_or, flags_of, refused_flags}
use Rattle.myi_keycache.proofs.LoadLemmas.{room_is}
use Rattle.myi_keycache.proofs.PutLemmas.{refused_stores, store_stores}
use Rattle.myi_keycache.proofs.cache.store.Goals as goal

pub returns-in_err-make_room-clause-stores : goal.returns-in_err-make_room-clause-stores
returns-in_err-make_room-clause-stores g c =
    let fault : CacheFault = c.in_err-make_room.field-0.0 in
    let e = err_from_is_err_and c.from_residual.result c.from_residual.ensures.1 in
    let same : c.from_residual.result ≡ Err fault = e.1 ∙ ap Err e.2 in
    rw same (refused_stores _ _ c.args.name.now c.args.blocks.now c.make_room.new.blocks c.args.counters.now c.make_room.new.counters c.args.at c.args.buffer.now.items fault c.in_err-make_room.ensures.stay c.in_err-make_room.ensures.writes
    (one_due _ _ _ c.args.name.now c.args.blocks.now c.args.counters.now c.args.at (length c.args.buffer.now.items) _ c.requires.none refl (one_err _ _ c.args.name.now (due_in c.args.blocks.now) _ fault c.in_err-make_room.ensures.one))
    (refused_flags c.args.name.now c.args.blocks.now c.make_room.new.blocks c.args.counters.now c.make_room.new.counters _ c.in_err-make_room.ensures.err) (none_or _ _ _ c.args.name.now c.args.blocks.now c.make_room.new.blocks c.args.counters.now c.make_room.new.counters c.in_err-make_room.ensures.err c.in_err-make_room.ensures.uncounted))

pub returns-in_err-take_in-clause-stores : goal.returns-in_err-take_in-clause-stores
returns-in_err-take_in-clause-stores g c =
    let fault : CacheFault = c.in_err-take_in.field-0.0 in
    let e = err_from_is_err_and c.from_residual-in_err-take_in.result c.from_residual-in_err-take_in.ensures.1 in
    let same : c.from_residual-in_err-take_in.result ≡ Err fault = e.1 ∙ ap Err e.2 in
    rw (same, c.in_err-take_in.ensures.err) (refused_stores _ _ c.args.name.now c.args.blocks.now c.make_room.new.blocks c.args.counters.now c.make_room.new.counters c.args.at c.args.buffer.now.items fault c.in_ok-make_room.ensures.stay c.in_ok-make_room.ensures.writes
    (one_due _ _ _ c.args.name.now c.args.blocks.now c.args.counters.now c.args.at (length c.args.buffer.now.items) _ c.requires.none refl (one_refused _ _ c.args.name.now (due_in c.args.blocks.now) _ fault c.in_ok-make_room.ensures.one))
    (flags_of c.args.name.now c.args.blocks.now c.make_room.new.blocks c.args.counters.now c.make_room.new.counters c.args.at (length c.args.buffer.now.items) c.requires.none c.in_ok-make_room.ensures.wrote.flags)
    (wrote_or _ _ c.args.name.now c.args.blocks.now c.make_room.new.blocks c.args.counters.now c.make_room.new.counters c.args.at (length c.args.buffer.now.items) _ c.requires.none c.in_ok-make_room.ensures.wrote c.in_ok-make_room.ensures.counted c.requires.writes
    (one_due _ _ _ c.args.name.now c.args.blocks.now c.args.counters.now c.args.at (length c.args.buffer.now.items) _ c.requires.none refl c.in_ok-make_room.ensures.one)))

pub returns-clause-stores : goal.returns-clause-stores
returns-clause-stores g c =
    let room = room_is c.args.blocks.now c.make_room.new.blocks c.args.at (length c.args.buffer.now.items) c.requires.differ c.requires.none c.in_ok-make_room.ensures.stay c.in_ok-make_room.ensures.ok in
    let t = c.in_ok-take_in.ensures in
    store_stores _ _ c.args.name.now c.args.blocks.now c.make_room.new.blocks c.take_in.new.self c.args.counters.now c.make_room.new.counters c.count_put.new.self c.args.at c.args.buffer.now.items _ c.in_ok-make_room.ensures.stay c.in_ok-make_room.ensures.writes c.requires.none room t.setup t.lists t.alike c.count_put.ensures c.in_ok-make_room.ensures.counted c.in_ok-make_room.ensures.wrote
    (one_due _ _ _ c.args.name.now c.args.blocks.now c.args.counters.now c.args.at (length c.args.buffer.now.items) _ c.requires.none refl (one_ok _ _ c.args.name.now (due_in c.args.blocks.now) _ _ c.in_ok-make_room.ensures.one))

pub returns-in_err-make_room-clause-quiet : goal.returns-in_err-make_room-clause-quiet
returns-in_err-make_room-clause-quiet g c none = c.in_err-make_room.ensures.quiet (sym (due_is c.args.name.now c.args.blocks.now c.args.counters.now c.args.at (length c.args.buffer.now.items) c.requires.none) ∙ none)

pub returns-in_err-take_in-clause-quiet : goal.returns-in_err-take_in-clause-quiet
returns-in_err-take_in-clause-quiet g c none = c.in_ok-make_room.ensures.quiet (sym (due_is c.args.name.now c.args.blocks.now c.args.counters.now c.args.at (length c.args.buffer.now.items) c.requires.none) ∙ none)

pub returns-clause-quiet : goal.returns-clause-quiet
returns-clause-quiet g c none = c.in_ok-make_room.ensures.quiet (sym (due_is c.args.name.now c.args.blocks.now c.args.counters.now c.args.at (length c.args.buffer.now.items) c.requires.none) ∙ none)
