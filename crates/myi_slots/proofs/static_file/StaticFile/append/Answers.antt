use Rattle.std.proofs.Common.{ap, arith}
use Rattle.myi_slots.specs.SlotFile.{SlotFile}
use Rattle.myi_slots.proofs.FileLemmas.{too-long}
use Rattle.myi_slots.proofs.static_file.StaticFile.append.Goals as goal

pub returns-in_default-clause-refused : goal.returns-in_default-clause-refused
returns-in_default-clause-refused g c = too-long c.args.self.now.defs _ (omega (arith, c.in_default.ensures, ap (λ (f : SlotFile). f.counts.length) c.self.view_is))
