use Rattle.myisamkit.proofs.CreateLaws.{made_told}
use Rattle.myisamkit.proofs.create.create.Goals as goal

pub returns-in-Ok-clause-done : goal.returns-in-Ok-clause-done
returns-in-Ok-clause-done g c = made_told c.args.name.now c.args.text.now _ _ c.in-Ok.ensures.made
