use Rattle.std.proofs.Common.{sym, ap}
use Rattle.std.specs.Prelude.{◌==◌, not}
use Rattle.myi_pack.proofs.SpellingLemmas.{first-varchar}
use Rattle.myi_pack.proofs.packing.is_field_live.Goals as goal

pub returns-in-Varchar : goal.returns-in-Varchar
returns-in-Varchar c = rw c.in-Varchar.is (ap (λ x. not (x == 0)) (sym (first-varchar c.args.field.now.length c.args.value.now)))
