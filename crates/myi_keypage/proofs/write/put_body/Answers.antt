use Rattle.std.proofs.Common.{arith}
use Rattle.myi_keypage.proofs.WriteLaws.{body_le}
use Rattle.myi_keypage.proofs.write.put_body.Goals as goal

pub put_child-at-requires : goal.put_child-at-requires
put_child-at-requires g c = omega (arith, body_le c.args.rec_ref (g.L.EntryList.entries c.args.entries.now) c.args.children.now c.in-len1-up.len_at_least)
