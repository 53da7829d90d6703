use Rattle.myi_pair.proofs.FoundLaws.{none_deleted}
use Rattle.myi_pair.proofs.FirstFailingLaws.{header_first, deleted_first, key_first, tree_first, bytes_first, told_first}
use Rattle.myi_pair.proofs.laws.findings_are_first.Goals as goal

pub returns : goal.returns
returns c = record { header = header_first; deleted = deleted_first; listed = none_deleted; key = key_first; tree = tree_first; bytes = bytes_first; told = λ d rows x s. told_first d rows x s }
