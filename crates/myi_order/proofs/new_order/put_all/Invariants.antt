use Rattle.std.proofs.Common.{◌≡◌, ◌≤◌, List}
use Rattle.myi_base.specs.Holding.{Told, OthersStay}
use Rattle.myi_data.specs.Stored.{SizedRow}
use Rattle.myi_repair.specs.Names.{names_of}
use Rattle.myi_order.specs.NewOrder.{HasPut}
use Rattle.myi_order.proofs.NewOrderLaws.{PutNear}
use Rattle.myi_order.proofs.new_order.put_all.Given as goal

abbrev pub invariant-loop-i : goal.invariant-loop-i
invariant-loop-i g l = record {
  later : g.F.Files.faults l.fn.files ≤ g.F.Files.faults l.files;
  others : Told (g.F.Files.holds l.fn.files) (g.F.Files.holds l.files) (OthersStay (names_of l.table).new_rows);
  end : l.near.end ≡ l.opened.length;
  came : List SizedRow;
  put : HasPut l.opened.defs came l.new;
  so_far : Told (g.F.Files.holds l.fn.files) (g.F.Files.holds l.files) (PutNear (names_of l.table) l.opened l.order l.i came l.near);
}
