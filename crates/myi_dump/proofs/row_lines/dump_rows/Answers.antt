use Rattle.std.proofs.Common.{subst}
use Rattle.myi_base.specs.Holding.{IfTold}
use Rattle.myi_base.specs.Output.{Appends, AppendsPart}
use Rattle.myi_defs.proofs.CallerLemmas.{sound}
use Rattle.myi_dump.specs.RowLines.{row_lines}
use Rattle.myi_dump.proofs.DumpLemmas.{begins_known, all_rows, same_file, on_ok_more, on_err_more}
use Rattle.myi_dump.proofs.row_lines.dump_rows.Goals as goal

pub of_file-requires : goal.of_file-requires
of_file-requires g c = sound c.args.defs.now c.requires.defs

pub write_rows-requires-clause-current : goal.write_rows-requires-clause-current
write_rows-requires-clause-current g c κs lives m told =
    let file = c.requires.long m told in
    begins_known c.args.rows.now file.0 c.args.defs.now c.args.size c.in_ok-scan.scan m c.in_ok-scan.ensures file.1 file.2

pub returns-clause-said : goal.returns-clause-said
returns-clause-said g c = on_ok_more c.write_rows.result _ _ (λ said m told x here.
    let d = c.args.defs.now in
    let file = c.requires.long m told in
    let long = same_file c.args.rows.now file.0 x c.args.size m file.1 here file.2 in
    let all = all_rows c.args.rows.now x d c.args.size c.in_ok-scan.scan m c.in_ok-scan.ensures here long in
    subst (λ rs. IfTold (g.O.Sink.written c.args.out.now) (Appends (row_lines d rs) (g.O.Sink.written c.write_rows.new.out))) all (said m told)) c.write_rows.ensures.said

pub returns-clause-part : goal.returns-clause-part
returns-clause-part g c = on_err_more c.write_rows.result _ _ (λ part m told x here.
    let d = c.args.defs.now in
    let file = c.requires.long m told in
    let long = same_file c.args.rows.now file.0 x c.args.size m file.1 here file.2 in
    let all = all_rows c.args.rows.now x d c.args.size c.in_ok-scan.scan m c.in_ok-scan.ensures here long in
    subst (λ rs. IfTold (g.O.Sink.written c.args.out.now) (AppendsPart (row_lines d rs) (g.O.Sink.written c.write_rows.new.out))) all (part m told)) c.write_rows.ensures.part
