use Rattle.myi_memfiles.specs.Stored.{held}
use Rattle.myi_memfiles.proofs.BytesLaws.{cut_short}
use Rattle.myi_memfiles.proofs.memory.MemFilesFiles.cut.Goals as goal

pub invariant_of-self-2 : goal.invariant_of-self-2
invariant_of-self-2 c = record { bytes = cut_short c.cut.result c.args.name.now c.args.length (held c.args.self.now.files) (held c.cut.new.files) c.cut.ensures.ok c.cut.ensures.err c.args.self.now.bytes }
