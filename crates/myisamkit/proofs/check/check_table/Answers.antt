use Rattle.std.proofs.Common.{rules, ◌∙◌, sym, subst}
use Rattle.std.proofs.lemmas.Result.{IfErr-weaker}
use denote.Enum.Bare.{same_true}
use Rattle.myi_base.specs.Holding.{Told}
use Rattle.myi_base.specs.Output.{AppendsPart}
use Rattle.myi_base.proofs.CallerLemmas.{told_more}
use Rattle.myisamkit.specs.contracts.status.Status.{the_type}
use Rattle.myisamkit.specs.Turns.{RepairStops, RepairDone}
use Rattle.myisamkit.proofs.SinkLaws.{on_err}
use Rattle.myisamkit.proofs.CheckLaws.{part_of_turn, said_both, part_both, done_behind, stops_behind, on_ok_more, on_err_more}
use Rattle.myisamkit.proofs.check.check_table.Goals as goal

pub returns-in_err-say-clause-part : goal.returns-in_err-say-clause-part
returns-in_err-say-clause-part g c = on_err c.from_residual-in_err-say.result _ (λ m told b was.
    part_of_turn c.args.options.now c.args.now c.args.name.now m _ b (subst (λ l. AppendsPart l (g.O.Sink.written c.say.new.out) b) (c.as_str.ensures.value ∙ c.in_ok-status.ensures.said m told) (c.in_err-say.ensures.err b was)))

pub returns-then-options-clause-said : goal.returns-then-options-clause-said
returns-then-options-clause-said g c = on_ok_more c.recover_table.result _ _ (λ said m told.
    said_both _ _ _ _ _ _ m _ _ _ c.if-options.true (same_true the_type (search rules) _ _ (sym c.if-eq.ensures)) c.without_extend-options.ensures (c.in_ok-status.ensures.status m told) (c.as_str.ensures.value ∙ c.in_ok-status.ensures.said m told) c.in_ok-say.ensures.ok (said m (c.look.ensures.holds ∙ told))) c.recover_table.ensures.said

pub returns-then-options-clause-part : goal.returns-then-options-clause-part
returns-then-options-clause-part g c = on_err_more c.recover_table.result _ _ (λ part m told.
    part_both _ _ _ _ _ _ m _ _ _ c.if-options.true (same_true the_type (search rules) _ _ (sym c.if-eq.ensures)) c.without_extend-options.ensures (c.in_ok-status.ensures.status m told) (c.as_str.ensures.value ∙ c.in_ok-status.ensures.said m told) c.in_ok-say.ensures.ok (part m (c.look.ensures.holds ∙ told))) c.recover_table.ensures.part

pub returns-then-options-clause-done : goal.returns-then-options-clause-done
returns-then-options-clause-done g c =
    on_ok_more c.recover_table.result _ _ (λ done. told_more _ _ _ _ (subst (λ h. Told h (g.F.Files.holds c.recover_table.new.files) (RepairDone c.without_extend-options.result c.args.now c.args.name.now)) c.look.ensures.holds done) (λ m n held repaired.
    done_behind _ _ _ _ _ m n c.if-options.true (same_true the_type (search rules) _ _ (sym c.if-eq.ensures)) c.without_extend-options.ensures (c.in_ok-status.ensures.status m held) repaired)) c.recover_table.ensures.done

pub returns-then-options-clause-stops : goal.returns-then-options-clause-stops
returns-then-options-clause-stops g c =
    IfErr-weaker c.recover_table.result _ _ (λ stopped stops. told_more _ _ _ _ (subst (λ h. Told h (g.F.Files.holds c.recover_table.new.files) (RepairStops c.without_extend-options.result c.args.now (g.F.Files.faults c.look.new.files) (g.F.Files.faults c.recover_table.new.files) c.args.name.now stopped)) c.look.ensures.holds stops) (λ m n held left.
    stops_behind _ _ _ _ _ _ _ _ m n stopped c.if-options.true (same_true the_type (search rules) _ _ (sym c.if-eq.ensures)) c.without_extend-options.ensures (c.in_ok-status.ensures.status m held) c.look.ensures.cause.later left)) c.recover_table.ensures.stops
