use Rattle.std.proofs.Common.{◌∙◌}
use Rattle.myi_defs.proofs.CallerLemmas.{sound}
use Rattle.std.proofs.lemmas.Result.{IfOk-weaker}
use Rattle.myi_order.proofs.ReadLaws.{begins_known, all_placed, same_file}
use Rattle.myi_order.proofs.rows_read.read_file.Goals as goal

pub of_file-requires : goal.of_file-requires
of_file-requires g c = sound c.args.defs.now c.requires.defs

pub read_all-requires-clause-current : goal.read_all-requires-clause-current
read_all-requires-clause-current g c κs lives m told =
    let file = c.requires.long m told in
    begins_known c.args.rows.now file.0 c.args.defs.now c.args.length c.in_ok-scan.scan m c.in_ok-scan.ensures file.1 file.2

pub returns-clause-read : goal.returns-clause-read
returns-clause-read g c =
    IfOk-weaker c.read_all.result _ _ (λ r read. (
      read.0,
      read.1,
      λ m told x here.
          let d = c.args.defs.now in
          let file = c.requires.long m told in
          let long = same_file c.args.rows.now file.0 x c.args.length m file.1 here file.2 in
          read.2 m told ∙ all_placed c.args.rows.now x d c.args.length c.in_ok-scan.scan m c.in_ok-scan.ensures here long,
    )) c.read_all.ensures.read
