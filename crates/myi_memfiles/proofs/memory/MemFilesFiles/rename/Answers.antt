use Rattle.myi_memfiles.specs.Stored.{held}
use Rattle.myi_memfiles.proofs.BytesLaws.{renamed}
use Rattle.myi_memfiles.proofs.memory.MemFilesFiles.rename.Goals as goal

pub invariant_of-self-2 : goal.invariant_of-self-2
invariant_of-self-2 c = record { bytes = renamed c.move_to.result _ _ (held c.args.self.now.files) (held c.move_to.new.files) c.move_to.ensures.ok c.move_to.ensures.err c.args.self.now.bytes }
