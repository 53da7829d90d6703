use Rattle.std.proofs.Common.{refl}
use Rattle.myi_create.specs.Names.{names_for}
use Rattle.myi_create.proofs.CreateLaws.{part_put, at_error}
use Rattle.myi_create.proofs.create.create_table.Goals as goal

pub returns-in_err-create_with-clause-part : goal.returns-in_err-create_with-clause-part
returns-in_err-create_with-clause-part g c =
    at_error _ _ (part_put c.args.name.now c.args.text.now (names_for c.args.name.now) c.in_ok-defs.defs _ _ _ refl c.read_text.ensures.holds c.in_ok-defs.ensures.read c.in_err-create_with.ensures.part)
