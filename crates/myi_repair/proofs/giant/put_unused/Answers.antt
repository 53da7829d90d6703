use Rattle.std.specs.Prelude.{OnOk, OnErr}
use Rattle.std.proofs.Common.{subst}
use Rattle.std.proofs.lemmas.List.{take-replicate}
use Rattle.myi_base.specs.Holding.{Told, Writes, WritesPart}
use Rattle.myi_repair.proofs.giant.put_unused.Goals as goal

pub returns-clause-ok : goal.returns-clause-ok
returns-clause-ok g c =
    subst (λ b. OnOk c.write_at.result (Told (g.F.Files.holds c.args.files.now) (g.F.Files.holds c.write_at.new.self) (Writes c.args.file.now c.args.at b))) (take-replicate c.args.count 260 0 c.requires.few) c.write_at.ensures.ok

pub returns-clause-err : goal.returns-clause-err
returns-clause-err g c =
    subst (λ b. OnErr c.write_at.result (Told (g.F.Files.holds c.args.files.now) (g.F.Files.holds c.write_at.new.self) (WritesPart c.args.file.now c.args.at b))) (take-replicate c.args.count 260 0 c.requires.few) c.write_at.ensures.err
