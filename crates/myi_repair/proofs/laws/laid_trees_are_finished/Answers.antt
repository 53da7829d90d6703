use Rattle.myi_repair.proofs.RepairLaws.{made_index, made_files, gathered_rows, finished_is}
use Rattle.myi_repair.proofs.laws.laid_trees_are_finished.Goals as goal

pub returns-clause-index : goal.returns-clause-index
returns-clause-index c = λ t rows g left now end roots m n s counted is same rooted ended built. made_index t rows g left now end roots m n s same counted is rooted ended built

pub returns-clause-files : goal.returns-clause-files
returns-clause-files c = λ t rows g left now end roots m n o s counted is same rooted ended built rows_there done. made_files t rows g left now end roots m n o s same counted is rooted ended built rows_there done

pub returns-clause-gathered : goal.returns-clause-gathered
returns-clause-gathered c = λ t extend d g m is. gathered_rows t extend d g m is

pub returns-clause-recovered : goal.returns-clause-recovered
returns-clause-recovered c = λ t extend d g left now end roots m n s counted is same rooted ended built. finished_is t extend d g left now end roots m n s same counted is rooted ended built
