use Rattle.std.proofs.Common.{◌<◌, ◌^◌, ◌∙◌, inr, length, arith}
use Rattle.myi_dellist.specs.Placing.{is_none}
use Rattle.myi_dellist.proofs.PlaceLemmas.{append_ends}
use Rattle.myi_dellist.proofs.AtEndLemmas.{behind_ready}
use Rattle.myi_dellist.proofs.rows.put_behind.Goals as goal

pub write_pieces-requires-clause-blocks : goal.write_pieces-requires-clause-blocks
write_pieces-requires-clause-blocks g c κs within =
    let lt : c.in_ok-to.to < 2 ^ 64 = omega (arith, c.in_ok-to.ensures.room, c.min.ensures) in
    (behind_ready (length c.args.packed.now) c.args.left c.args.end.now.at c.args.pieces.now.items c.deref.result.now (c.deref.ensures.value ∙ c.in_ok-to.ensures.pieces) c.requires.few c.requires.run c.requires.some c.requires.inside (omega (arith, c.in_ok-to.ensures.end, lt))).writable

pub write_pieces-requires-clause-whole : goal.write_pieces-requires-clause-whole
write_pieces-requires-clause-whole g c κs within =
    let lt : c.in_ok-to.to < 2 ^ 64 = omega (arith, c.in_ok-to.ensures.room, c.min.ensures) in
    (behind_ready (length c.args.packed.now) c.args.left c.args.end.now.at c.args.pieces.now.items c.deref.result.now (c.deref.ensures.value ∙ c.in_ok-to.ensures.pieces) c.requires.few c.requires.run c.requires.some c.requires.inside (omega (arith, c.in_ok-to.ensures.end, lt))).counts

pub write_pieces-requires-clause-below : goal.write_pieces-requires-clause-below
write_pieces-requires-clause-below g c κs within =
    let lt : c.in_ok-to.to < 2 ^ 64 = omega (arith, c.in_ok-to.ensures.room, c.min.ensures) in
    (behind_ready (length c.args.packed.now) c.args.left c.args.end.now.at c.args.pieces.now.items c.deref.result.now (c.deref.ensures.value ∙ c.in_ok-to.ensures.pieces) c.requires.few c.requires.run c.requires.some c.requires.inside (omega (arith, c.in_ok-to.ensures.end, lt))).below

pub returns-clause-grows : goal.returns-clause-grows
returns-clause-grows g c = omega (arith, (append_ends c.args.left (length c.args.packed.now) (is_none c.args.pieces.now.items) c.args.left c.args.end.now.at (omega arith) (inr c.requires.some)).grows, c.in_ok-to.ensures.end)
