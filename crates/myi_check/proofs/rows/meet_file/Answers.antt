use Rattle.std.proofs.Common.{◌∙◌, subst}
use Rattle.std.proofs.lemmas.Result.{IfOk-weaker}
use Rattle.myi_defs.proofs.CallerLemmas.{sound}
use Rattle.myi_check.specs.Met.{HasMet}
use Rattle.myi_check.proofs.RowsLemmas.{begins_known, all_ahead, same_file}
use Rattle.myi_check.proofs.rows.meet_file.Goals as goal

pub of_file-requires : goal.of_file-requires
of_file-requires g c = sound c.args.defs.now c.requires.defs

pub meet_all-requires-clause-current : goal.meet_all-requires-clause-current
meet_all-requires-clause-current g c κs lives m told =
    let file = c.requires.long m told in
    begins_known c.args.rows.now file.0 c.args.defs.now c.args.length c.in_ok-scan.scan m c.in_ok-scan.ensures file.1 file.2

pub returns-clause-some : goal.returns-clause-some
returns-clause-some g c = IfOk-weaker c.meet_all.result _ _ (λ met all. (all.0, all.1)) c.meet_all.ensures.met

pub returns-clause-met : goal.returns-clause-met
returns-clause-met g c = IfOk-weaker c.meet_all.result _ _ (λ met all m told x here.
    let d = c.args.defs.now in
    let file = c.requires.long m told in
    let long = same_file c.args.rows.now file.0 x c.args.length m file.1 here file.2 in
    subst (λ is. HasMet d c.args.noting.together is met) (all.2 m told ∙ all_ahead c.args.rows.now x d c.args.length c.in_ok-scan.scan m c.in_ok-scan.ensures here long) all.1) c.meet_all.ensures.met
