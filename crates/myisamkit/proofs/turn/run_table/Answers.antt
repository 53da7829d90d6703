use Rattle.std.proofs.Common.{sym, subst}
use Rattle.std.specs.Prelude.{OnErr}
use Rattle.myi_base.specs.Holding.{IfTold}
use Rattle.myi_base.specs.Output.{AppendsPart}
use Rattle.myisamkit.specs.Turns.{turn, turn_by}
use Rattle.myisamkit.proofs.turn.run_table.Goals as goal

pub returns-in-Recover-clause-part : goal.returns-in-Recover-clause-part
unfolding turn
returns-in-Recover-clause-part g c =
    subst (λ mode. OnErr c.recover_table.result (IfTold (g.F.Files.holds c.args.files.now) (λ m. IfTold (g.O.Sink.written c.args.out.now) (AppendsPart (turn_by mode c.args.options.now c.args.now c.args.name.now m).text (g.O.Sink.written c.recover_table.new.out))))) (sym c.in-Recover.is) c.recover_table.ensures.part

pub returns-in-Describe-clause-part : goal.returns-in-Describe-clause-part
unfolding turn
returns-in-Describe-clause-part g c =
    subst (λ mode. OnErr c.describe_table.result (IfTold (g.F.Files.holds c.args.files.now) (λ m. IfTold (g.O.Sink.written c.args.out.now) (AppendsPart (turn_by mode c.args.options.now c.args.now c.args.name.now m).text (g.O.Sink.written c.describe_table.new.out))))) (sym c.in-Describe.is) c.describe_table.ensures.part

pub returns-in-Check-clause-part : goal.returns-in-Check-clause-part
unfolding turn
returns-in-Check-clause-part g c =
    subst (λ mode. OnErr c.check_table.result (IfTold (g.F.Files.holds c.args.files.now) (λ m. IfTold (g.O.Sink.written c.args.out.now) (AppendsPart (turn_by mode c.args.options.now c.args.now c.args.name.now m).text (g.O.Sink.written c.check_table.new.out))))) (sym c.in-Check.is) c.check_table.ensures.part

pub returns-in-Analyze-clause-part : goal.returns-in-Analyze-clause-part
unfolding turn
returns-in-Analyze-clause-part g c =
    subst (λ mode. OnErr c.analyze_table.result (IfTold (g.F.Files.holds c.args.files.now) (λ m. IfTold (g.O.Sink.written c.args.out.now) (AppendsPart (turn_by mode c.args.options.now c.args.now c.args.name.now m).text (g.O.Sink.written c.analyze_table.new.out))))) (sym c.in-Analyze.is) c.analyze_table.ensures.part

pub returns-in-Sort-clause-part : goal.returns-in-Sort-clause-part
unfolding turn
returns-in-Sort-clause-part g c =
    subst (λ mode. OnErr c.sort_table.result (IfTold (g.F.Files.holds c.args.files.now) (λ m. IfTold (g.O.Sink.written c.args.out.now) (AppendsPart (turn_by mode c.args.options.now c.args.now c.args.name.now m).text (g.O.Sink.written c.sort_table.new.out))))) (sym c.in-Sort.is) c.sort_table.ensures.part

pub returns-in-SortIndex-clause-part : goal.returns-in-SortIndex-clause-part
unfolding turn
returns-in-SortIndex-clause-part g c =
    subst (λ mode. OnErr c.sort_index_table.result (IfTold (g.F.Files.holds c.args.files.now) (λ m. IfTold (g.O.Sink.written c.args.out.now) (AppendsPart (turn_by mode c.args.options.now c.args.now c.args.name.now m).text (g.O.Sink.written c.sort_index_table.new.out))))) (sym c.in-SortIndex.is) c.sort_index_table.ensures.part
