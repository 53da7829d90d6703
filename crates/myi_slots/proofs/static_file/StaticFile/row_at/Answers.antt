use Rattle.std.proofs.Common.{◌∙◌, sym, refl}
use Rattle.myi_base.specs.Holding.{bytes_of}
use Rattle.myi_slots.proofs.RowSteps.{row-not-lost, nothing-told}
use Rattle.myi_slots.proofs.static_file.StaticFile.row_at.Goals as goal

pub returns-in-None-clause-err : goal.returns-in-None-clause-err
returns-in-None-clause-err g c =
    (refl, nothing-told (g.F.Files.holds c.args.files.now) (λ m held. row-not-lost c.args.self.now.defs (bytes_of c.args.self.now.name m) c.args.at (sym c.in-None.is ∙ c.in_ok-row.ensures.told m held (c.requires.long m held)) (c.requires.there m held)))
