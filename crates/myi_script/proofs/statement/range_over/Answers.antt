use Rattle.std.proofs.Common.{◌∙◌, sym, refl}
use Rattle.myi_script.proofs.ReadingLemmas.{from_none, to_none}
use Rattle.myi_script.proofs.statement.range_over.Goals as goal

pub returns-in_default : goal.returns-in_default
returns-in_default c = from_none c.args.segments.now c.args.key c.args.text.now (sym c.in_ok-from.ensures ∙ rw c.in_default.is refl)

pub returns-in_default-2 : goal.returns-in_default-2
returns-in_default-2 c =
    to_none c.args.segments.now c.args.key c.args.text.now c.in-Some.rest.now c.in-Some.from (sym c.in_ok-from.ensures ∙ rw c.in-Some.is refl) (sym c.in_ok-to.ensures ∙ rw c.in_default-2.is refl)
