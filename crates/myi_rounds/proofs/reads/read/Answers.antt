use Rattle.std.proofs.Common.{◌∙◌, Option, sym, ap, subst}
use Rattle.std.specs.Prelude.{IfSome}
use Rattle.std.specs.Option.{option_copied}
use Rattle.myi_script.specs.declared.types.Act.{Act}
use Rattle.myi_history.specs.Lines.{ReadsRange}
use Rattle.myi_rounds.proofs.StatementLemmas.{act_meets}
use Rattle.myi_rounds.proofs.FindLemmas.{said_found}
use Rattle.myi_rounds.proofs.reads.read.Goals as goal

pub find-requires-clause-range : goal.find-requires-clause-range
find-requires-clause-range g c κs within =
    let d = c.args.reader.now.table.defs in
    subst (λ o. IfSome (option_copied o) (ReadsRange d)) c.in-Some.is (subst (λ (a : Option Act). IfSome a (ReadsRange d)) (sym c.act_of.ensures) (act_meets (ReadsRange d) c.args.lines.now c.args.line c.requires.lines.ranges))

pub returns-clause-said : goal.returns-clause-said
returns-clause-said g c = λ m held own base h known is s seen.
    said_found c.args.reader.now.table.defs c.args.lines.now s c.in-Some.act.now c.args.line c.args.snap.now.number c.deref.result.now c.args.texts.now c.push_found-2.new.self (ap option_copied (sym c.in-Some.is) ∙ c.act_of.ensures) (c.deref.ensures.value ∙ c.in_ok-found.ensures.rows m held own base h known is s seen) c.in_ok-push_found-2.ensures.text
