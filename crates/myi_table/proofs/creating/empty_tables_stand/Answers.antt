use Rattle.std.proofs.Common.{◌≡◌, List, []}
use Rattle.myi_base.specs.Numbers.{AreBytes}
use Rattle.myi_defs.specs.declared.types.Defs.{Defs}
use Rattle.myi_defs.specs.ReadDefs.{AreDefs}
use Rattle.myi_defs.specs.EmptyTable.{empty_header}
use Rattle.myi_defs.proofs.CallerLemmas.{are_defs, print_reads, sound}
use Rattle.myi_table.specs.Creating.{empty_defs}
use Rattle.myi_table.proofs.EmptyLemmas.{stands_empty}
use Rattle.myi_table.proofs.creating.empty_tables_stand.Goals as goal

pub returns : goal.returns
returns c d are bytes = stands_empty (empty_defs d) (empty_header d.raw) (c.empty_tables_are_clean.ensures.clean d are bytes) (print_reads d are) (sound (empty_defs d) (are_defs (empty_header d.raw) (empty_defs d) (print_reads d are))) c.clean_pairs_stand_for_tables.ensures.stands
