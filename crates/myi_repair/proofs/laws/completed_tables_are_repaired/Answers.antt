use Rattle.std.proofs.Common.{refl}
use Rattle.myi_repair.specs.Names.{names_for}
use Rattle.myi_repair.proofs.RepairLaws.{repaired, kept_both, kept_or_whole}
use Rattle.myi_repair.proofs.laws.completed_tables_are_repaired.Goals as goal

pub returns-clause-repaired : goal.returns-clause-repaired
returns-clause-repaired c = λ name extend now g said m n o defined header early gathers same completes. repaired name (names_for name) extend now g said m n o refl defined header early gathers same completes

pub returns-clause-kept : goal.returns-clause-kept
returns-clause-kept c = λ name extend now m n keeps. kept_both name (names_for name) extend now m n refl keeps

pub returns-clause-part : goal.returns-clause-part
returns-clause-part c = λ name extend now g m n o gathers both part. kept_or_whole name (names_for name) extend now g m n o refl gathers both part
