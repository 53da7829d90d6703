use Rattle.myi_memfiles.specs.Stored.{held}
use Rattle.myi_memfiles.proofs.BytesLaws.{removed}
use Rattle.myi_memfiles.proofs.memory.MemFilesFiles.remove.Goals as goal

pub invariant_of-self-2 : goal.invariant_of-self-2
invariant_of-self-2 c = record { bytes = removed c.args.name.now (held c.args.self.now.files) (held c.remove_file.new.files) c.remove_file.ensures c.args.self.now.bytes }
