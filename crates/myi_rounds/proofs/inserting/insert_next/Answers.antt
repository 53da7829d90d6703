use Rattle.std.proofs.Common.{◌∙◌, Option, None, Some, sym, ap, subst, arith}
use Rattle.std.specs.Prelude.{IfSome}
use Rattle.std.specs.Option.{option_copied}
use Rattle.myi_state.specs.Changes.{Change}
use Rattle.myi_script.specs.declared.types.Act.{Act}
use Rattle.myi_history.specs.Lines.{act_of, BringsRow}
use Rattle.myi_rounds.specs.Inserts.{IsAnswered}
use Rattle.myi_rounds.proofs.StatementLemmas.{act_meets}
use Rattle.myi_rounds.proofs.FindLemmas.{if_ok_by, if_err_by, on_ok_by, on_err_by}
use Rattle.myi_rounds.proofs.InsertLemmas.{asked_insert, asked_none, none_asked, was_asked}
use Rattle.myi_rounds.proofs.InsertJobLemmas.{on_self}
use Rattle.myi_rounds.proofs.inserting.insert_next.Goals as goal

pub returns-in_default-act : goal.returns-in_default-act
returns-in_default-act g c =
    let i = c.args.inserter.now.table in
    let o : Option Act = act_of c.args.lines.now c.args.line in
    record {
      answered = λ m held own base h rows ready.
          subst (λ (p : Option Change). IsAnswered i.defs base rows p None i) (sym (asked_none o c.in-Some.act.now (ap option_copied (sym c.in-Some.is) ∙ c.act_of.ensures) c.in_default-act.not-Insert)) (none_asked i.defs base rows i ready);
      again = tt;
      ready = c.requires.ready;
      on = on_self g.R.FileReader.holds c.args.inserter.now;
      cause = record { later = omega arith; cause = λ e. cc };
    }

pub insert-requires-clause-fits : goal.insert-requires-clause-fits
insert-requires-clause-fits g c κs within =
    let d = c.args.inserter.now.table.defs in
    let brings : BringsRow d c.in-Some.act.now =
    subst (λ o. IfSome (option_copied o) (BringsRow d)) c.in-Some.is (subst (λ (a : Option Act). IfSome a (BringsRow d)) (sym c.act_of.ensures) (act_meets (BringsRow d) c.args.lines.now c.args.line c.requires.lines.rows)) in
    subst (BringsRow d) c.in-Insert.is brings

pub returns-clause-answered : goal.returns-clause-answered
returns-clause-answered g c = λ m held own base h rows ready.
    let i = c.args.inserter.now.table in
    let j = c.insert.new.self.table in
    let made = c.insert.result in
    let answer = c.in_ok-answer.answer in
    subst (λ (p : Option Change). IsAnswered i.defs base rows p (Some answer) j) (sym (asked_insert (act_of c.args.lines.now c.args.line) c.in-Some.act.now c.in-Insert.row (ap option_copied (sym c.in-Some.is) ∙ c.act_of.ensures) c.in-Insert.is))
    (was_asked c.put_rows_can_be_folded.ensures.more i.defs base rows c.in-Insert.row i.end made answer j (sym c.answer_to.ensures ∙ c.in_ok-answer.was) (if_ok_by made (λ at put. put m held own base h rows ready) c.insert.ensures.made)
    (if_err_by made (λ f refused. refused m held own base h rows ready) c.insert.ensures.refused) (on_ok_by made (λ more. more rows ready) c.insert.ensures.more) (on_err_by made (λ again. again rows ready) c.insert.ensures.again))
