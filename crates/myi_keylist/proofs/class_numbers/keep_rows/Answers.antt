use Rattle.std.proofs.Common.{◌++◌, ◌∷◌, [], cond, arith}
use Rattle.myi_keylist.specs.Classes.{share_class}
use Rattle.myi_keylist.proofs.ClassLaws.{row_done}
use Rattle.myi_keylist.proofs.class_numbers.keep_rows.Goals as goal

pub loop-row-preserved : goal.loop-row-preserved
loop-row-preserved c = record {
  kept = cond c.keep_row.result (c.loop-row.invariant.kept ++ c.loop-row.row ∷ []) c.loop-row.invariant.kept;
  long = omega (arith, c.loop-row.invariant.long);
  taken = c.keep_row.ensures.taken c.loop-row.invariant.kept c.loop-row.invariant.taken;
  whole = row_done (share_class c.args.columns.now) c.loop-row.invariant.kept c.loop-row.row c.args.rows c.keep_row.result c.loop-row.flags.items c.push.new.self.items _ (omega arith) c.in_ok-push.ensures.items (c.keep_row.ensures.kept c.loop-row.invariant.kept c.loop-row.invariant.taken) c.loop-row.invariant.whole;
}
