use Rattle.myi_memfiles.specs.Stored.{held}
use Rattle.myi_memfiles.proofs.BytesLaws.{written}
use Rattle.myi_memfiles.proofs.memory.MemFilesFiles.write_at.Goals as goal

pub invariant_of-self-2 : goal.invariant_of-self-2
invariant_of-self-2 c = record { bytes = written c.write.result c.args.name.now c.args.at c.args.bytes.now (held c.args.self.now.files) (held c.write.new.files) c.write.ensures.ok c.write.ensures.err c.slices_are_bytes.ensures c.args.self.now.bytes }
