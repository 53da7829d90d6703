use Rattle.std.proofs.Common.{◌≡◌, ◌-◌, ◌≤◌, cond}
use Rattle.myi_keypage.proofs.FitLaws.{Counts}
use Rattle.myi_keypage.proofs.fit.fitting_of.Given as goal

abbrev pub invariant-loop-i : goal.invariant-loop-i
invariant-loop-i g l = record {
  child : l.child ≡ cond l.node 7 0;
  bound : l.child ≤ 7;
  within : l.left ≤ l.room;
  so_far : Counts l.rec_ref l.node (g.L.EntryList.entries l.entries) l.i l.before (l.room - l.left);
}
