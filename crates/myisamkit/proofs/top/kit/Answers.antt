use Rattle.myisamkit.proofs.OtherLaws.{others_told}
use Rattle.std.proofs.Common.{sym, subst, ◌∙◌, inl, inr}
use Rattle.myi_base.specs.Holding.{Told}
use Rattle.myisamkit.specs.Words.{request_of}
use Rattle.myisamkit.specs.Recovers.{Recovers}
use Rattle.myisamkit.proofs.RecoverLaws.{recovers_told, stops_are_faults}
use Rattle.myisamkit.specs.Statuses.{IsFault}
use Rattle.myisamkit.proofs.SaidLaws.{whole_said, part_said}
use Rattle.myisamkit.proofs.SinkLaws.{fails_of, fails_never}
use Rattle.myisamkit.proofs.top.kit.Goals as goal

pub returns-in-Ok-clause-others : goal.returns-in-Ok-clause-others
returns-in-Ok-clause-others g c = others_told _ _ _ _ _ _ _ c.in-Ok.ensures.done

pub returns-in-Err-clause-others : goal.returns-in-Err-clause-others
returns-in-Err-clause-others g c = others_told _ _ _ _ _ _ _ c.in-Err.ensures.stops

pub returns-in-Ok-clause-headline : goal.returns-in-Ok-clause-headline
returns-in-Ok-clause-headline g c = recovers_told _ _ _ _ _ _ _ (λ m told. inr (c.in-Ok.ensures.status m told)) c.in-Ok.ensures.done

pub returns-in-Err-clause-headline : goal.returns-in-Err-clause-headline
returns-in-Err-clause-headline g c =
    subst (λ s. Told (g.F.Files.holds c.args.files.now) (g.F.Files.holds c.run.new.files) (Recovers (request_of c.args.words.now) c.args.now s)) (sym c.into.ensures) (recovers_told _ _ _ _ _ _ _ (λ m told. inl (stops_are_faults c.in-Err.stop)) c.in-Err.ensures.stops)

pub returns-in-Ok-clause-usage : goal.returns-in-Ok-clause-usage
returns-in-Ok-clause-usage g c = inr c.in-Ok.ensures.usage

pub returns-in-Ok-clause-text : goal.returns-in-Ok-clause-text
returns-in-Ok-clause-text g c = whole_said (request_of c.args.words.now) _ _ _ _ _ c.in-Ok.ensures.plain c.in-Ok.ensures.said

pub returns-in-Err-clause-text : goal.returns-in-Err-clause-text
returns-in-Err-clause-text g c = part_said (request_of c.args.words.now) _ _ _ _ _ (subst IsFault (sym c.into.ensures) (stops_are_faults c.in-Err.stop)) c.in-Err.ensures.part

pub returns-in-Ok-clause-status : goal.returns-in-Ok-clause-status
returns-in-Ok-clause-status g c m told = inr (c.in-Ok.ensures.status m told)

pub returns-in-Err-clause-status : goal.returns-in-Err-clause-status
returns-in-Err-clause-status g c m told = inl (subst IsFault (sym c.into.ensures) (stops_are_faults c.in-Err.stop))

pub returns-in-Ok-clause-fails : goal.returns-in-Ok-clause-fails
returns-in-Ok-clause-fails g c is = fails_never _ _ c.in-Ok.ensures.plain is

pub returns-in-Err-clause-fails : goal.returns-in-Err-clause-fails
returns-in-Err-clause-fails g c is = fails_of _ _ _ c.in-Err.is c.run.ensures.fails (sym c.into.ensures ∙ is)
