use Rattle.std.proofs.Common.{◌≡◌, length, take, arith, ◌∙◌}
use Rattle.std.proofs.lemmas.List.{length-take-le}
use Rattle.myi_frames.specs.Sizes.{start_room}
use Rattle.myi_repair.proofs.GiantLaws.{start_bounds, start_writes}
use Rattle.myi_repair.proofs.giant.put_start.Goals as goal

pub put_block-requires-clause-block : goal.put_block-requires-clause-block
put_block-requires-clause-block g c κs lives =
    let n = length c.args.packed.now in
    let room = c.start_room-room.result in
    let is : room ≡ start_room n c.args.size = c.start_room-room.ensures in
    let first : length (take room c.args.packed.now) ≡ start_room n c.args.size = length-take-le room c.args.packed.now (omega (arith, is, c.requires.few, c.requires.giant)) ∙ is in
    start_writes c.args.at n c.args.size (take room c.args.packed.now) c.requires.multiple c.requires.least c.requires.giant c.requires.short first c.requires.few c.requires.place

pub put_block-requires-clause-unused : goal.put_block-requires-clause-unused
put_block-requires-clause-unused g c κs lives =
    let room = c.start_room-room.result in
    let first = length-take-le room c.args.packed.now (omega (arith, c.start_room-room.ensures, c.requires.few, c.requires.giant)) in
    omega (arith, first, c.start_room-room.ensures, (start_bounds (length c.args.packed.now) c.args.size c.requires.least).0)
