use Rattle.std.proofs.Common.{arith}
use Rattle.myi_repair.proofs.GiantLaws.{room_bounds, middle_writes}
use Rattle.myi_repair.proofs.giant.put_middle.Goals as goal

pub put_block-requires-clause-block : goal.put_block-requires-clause-block
put_block-requires-clause-block g c κs lives = middle_writes c.args.at c.args.size c.args.piece.now c.requires.multiple c.requires.least c.requires.room c.requires.few c.requires.place

pub put_block-requires-clause-unused : goal.put_block-requires-clause-unused
put_block-requires-clause-unused g c κs lives = omega (arith, c.requires.room, (room_bounds c.args.size c.requires.least).0)
