use Rattle.std.proofs.Common.{List, OnOk, IfErr, subst}
use Rattle.myi_base.specs.Holding.{IfTold, Told}
use Rattle.myi_script.specs.declared.types.Line.{Line}
use Rattle.myi_shell.specs.Targets.{defs_in, script_on, IsWhole, IfHolds}
use Rattle.myi_shell.specs.Running.{opening_on, IsPrinted, IsPrintedPart, AreClosedAtEnd, AreClosedBehind, IfSink}
use Rattle.myi_shell.proofs.CarryLemmas.{others_then}
use Rattle.myi_shell.proofs.EndLemmas.{at_ok, text_of_end, table_of_end, part_of_end, closed_behind, damage_of_end}
use Rattle.myi_shell.specs.Idle.{LeavesIdle}
use Rattle.myi_shell.proofs.IdleLemmas.{leaves_then, shut_leaves}
use Rattle.myi_shell.proofs.run.run_script.Goals as goal

pub returns-clause-text : goal.returns-clause-text
returns-clause-text g c =
    let told = g.F.Files.holds c.args.files.now in
    let start = g.O.Sink.written c.args.out.now in
    let printed = g.O.Sink.written c.run-ran.new.out in
    subst (λ (ls : List Line). OnOk c.ended.result (IfHolds told c.args.target (λ m s. IsPrinted (opening_on (defs_in c.args.target) (script_on c.args.target ls) c.args.setting s) start printed))) c.as_slice-lines.ensures
    (text_of_end told start (g.F.Files.holds c.run-ran.new.files) printed c.args.target c.run-ran.new.target (λ s. opening_on (defs_in c.args.target) (script_on c.args.target c.as_slice-lines.result.now) c.args.setting s) c.ended.result c.run-ran.result c.close-closed.result c.ended.ensures c.run-ran.ensures.ran)

pub returns-clause-table : goal.returns-clause-table
returns-clause-table g c =
    let told = g.F.Files.holds c.args.files.now in
    let next = g.F.Files.holds c.close-closed.new.files in
    let d = defs_in c.args.target in
    subst (λ (ls : List Line). OnOk c.ended.result (IfHolds told c.args.target (λ m s. IfTold next (AreClosedAtEnd (opening_on d (script_on c.args.target ls) c.args.setting s) c.args.target m)))) c.as_slice-lines.ensures
    (table_of_end told (g.O.Sink.written c.args.out.now) (g.F.Files.holds c.run-ran.new.files) next (g.O.Sink.written c.run-ran.new.out) c.args.target c.run-ran.new.target (λ s. opening_on d (script_on c.args.target c.as_slice-lines.result.now) c.args.setting s)
    c.ended.result c.run-ran.result c.close-closed.result c.ended.ensures c.run-ran.ensures.carried.same c.run-ran.ensures.ran c.close-closed.ensures.closed (at_ok c.close-closed.result c.close-closed.ensures.rows))

pub returns-clause-part : goal.returns-clause-part
returns-clause-part g c =
    let told = g.F.Files.holds c.args.files.now in
    let start = g.O.Sink.written c.args.out.now in
    let printed = g.O.Sink.written c.run-ran.new.out in
    subst (λ (ls : List Line). IfErr c.ended.result (λ f. IfHolds told c.args.target (λ m s. IsPrintedPart (opening_on (defs_in c.args.target) (script_on c.args.target ls) c.args.setting s) start printed))) c.as_slice-lines.ensures
    (part_of_end told start (g.F.Files.holds c.run-ran.new.files) printed c.args.target c.run-ran.new.target (λ s. opening_on (defs_in c.args.target) (script_on c.args.target c.as_slice-lines.result.now) c.args.setting s) c.ended.result c.run-ran.result c.run-ran.ensures.ran c.run-ran.ensures.part)

pub returns-clause-others : goal.returns-clause-others
returns-clause-others g c =
    others_then (g.F.Files.holds c.args.files.now) (g.F.Files.holds c.run-ran.new.files) (g.F.Files.holds c.close-closed.new.files) c.args.target c.run-ran.new.target c.run-ran.ensures.carried.same c.run-ran.ensures.carried.others c.close-closed.ensures.others

pub returns-clause-closed : goal.returns-clause-closed
returns-clause-closed g c =
    let told = g.F.Files.holds c.args.files.now in
    let next = g.F.Files.holds c.close-closed.new.files in
    let start = g.O.Sink.written c.args.out.now in
    let printed = g.O.Sink.written c.run-ran.new.out in
    let d = defs_in c.args.target in
    subst (λ (ls : List Line). IfSink c.ended.result (IfHolds told c.args.target (λ m s. IfTold next (AreClosedBehind (opening_on d (script_on c.args.target ls) c.args.setting s) c.args.target start printed m)))) c.as_slice-lines.ensures
    (closed_behind told start (g.F.Files.holds c.run-ran.new.files) next printed c.args.target c.run-ran.new.target (λ s. opening_on d (script_on c.args.target c.as_slice-lines.result.now) c.args.setting s) c.ended.result c.run-ran.result c.close-closed.result c.ended.ensures c.run-ran.ensures.carried.same c.run-ran.ensures.stands c.close-closed.ensures.closed (at_ok c.close-closed.result c.close-closed.ensures.rows))

pub returns-clause-damaged : goal.returns-clause-damaged
returns-clause-damaged g c = damage_of_end (g.O.Sink.written c.args.out.now) (g.O.Sink.written c.run-ran.new.out) c.ended.result c.run-ran.result c.close-closed.result c.ended.ensures c.run-ran.ensures.damaged

pub returns-clause-idle : goal.returns-clause-idle
returns-clause-idle g c =
    let told = g.F.Files.holds c.args.files.now in
    let mid = g.F.Files.holds c.run-ran.new.files in
    let next = g.F.Files.holds c.close-closed.new.files in
    let run = c.run-ran.ensures in
    subst (λ (ls : List Line). Told told next (LeavesIdle c.args.target ls)) c.as_slice-lines.ensures
    (leaves_then told mid next c.args.target c.run-ran.new.target c.as_slice-lines.result.now run.carried.same run.carried.takes run.idle (shut_leaves mid next c.run-ran.new.target c.as_slice-lines.result.now c.close-closed.ensures.rows))
