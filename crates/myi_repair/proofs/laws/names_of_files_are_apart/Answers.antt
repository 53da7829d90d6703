use Rattle.myi_repair.proofs.FilesLaws.{apart_for}
use Rattle.myi_repair.proofs.laws.names_of_files_are_apart.Goals as goal

pub returns : goal.returns
returns c = apart_for
