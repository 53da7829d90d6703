use Rattle.std.proofs.Common.{◌∙◌, ℕ, List, length, Option, sym, ap, subst, arith}
use Rattle.std.specs.Prelude.{IfSome}
use Rattle.std.specs.Option.{option_copied}
use Rattle.myi_script.specs.declared.types.Act.{Act}
use Rattle.myi_history.specs.Lines.{act_of, BringsRow}
use Rattle.myi_rounds.proofs.StatementLemmas.{act_meets}
use Rattle.myi_rounds.proofs.WordLemmas.{words_of_other, words_of_row}
use Rattle.myi_rounds.proofs.words.words_of.Goals as goal

pub pack-requires-clause-fits : goal.pack-requires-clause-fits
pack-requires-clause-fits c =
    let d = c.args.defs.now in
    let brings : BringsRow d c.in-Some.act.now =
    subst (λ o. IfSome (option_copied o) (BringsRow d)) c.in-Some.is (subst (λ (a : Option Act). IfSome a (BringsRow d)) (sym c.act_of.ensures) (act_meets (BringsRow d) c.args.lines.now c.args.step.now.line c.requires.lines.rows)) in
    subst (BringsRow d) c.in-Insert.is brings

pub returns-in_default-act : goal.returns-in_default-act
returns-in_default-act c = sym (words_of_other c.args.defs.now (act_of c.args.lines.now c.args.step.now.line) c.in-Some.act.now (ap option_copied (sym c.in-Some.is) ∙ c.act_of.ensures) c.in_default-act.not-Insert)

pub returns : goal.returns
returns c =
    let o = act_of c.args.lines.now c.args.step.now.line in
    let long = ap (λ (l : List ℕ). length l) c.in_ok-packed.ensures in
    let words = words_of_row c.args.defs.now o c.in-Some.act.now c.in-Insert.row (ap option_copied (sym c.in-Some.is) ∙ c.act_of.ensures) c.in-Insert.is in
    omega (arith, long, words)
