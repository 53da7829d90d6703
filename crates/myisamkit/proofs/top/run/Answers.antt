use Rattle.std.proofs.Common.{sym, subst}
use Rattle.std.specs.Prelude.{IfOk, OnErr, map, string_bytes}
use Rattle.std.proofs.lemmas.Result.{IfOk-weaker}
use Rattle.myi_base.specs.Holding.{IfTold, Told}
use Rattle.myisamkit.specs.Stops.{IfSink}
use Rattle.myisamkit.specs.Runs.{Leaves, SaidText, SaidPart, HasStatus, FailsInScript}
use Rattle.myisamkit.proofs.AskedLaws.{words_made}
use Rattle.myisamkit.proofs.MakeWordLaws.{within}
use Rattle.myisamkit.proofs.SaidLaws.{if_ok, status_of}
use Rattle.myisamkit.proofs.TableLaws.{ends_told}
use Rattle.myisamkit.proofs.ShellSettingLaws.{settings}
use Rattle.myisamkit.proofs.top.run.Goals as goal

pub make_of_rows-requires-clause-some : goal.make_of_rows-requires-clause-some
make_of_rows-requires-clause-some g c κs live =
    let made = words_made (map (λ w. string_bytes w) c.args.words.now) c.in-Make.rows.count c.in-Make.rows.seed c.in-Make.name.now (sym c.in-Make.ensures) in
    (within 1 100000 c.in-Make.rows.count made.count_word made.counted).0

pub make_of_rows-requires-clause-few : goal.make_of_rows-requires-clause-few
make_of_rows-requires-clause-few g c κs live =
    let made = words_made (map (λ w. string_bytes w) c.args.words.now) c.in-Make.rows.count c.in-Make.rows.seed c.in-Make.name.now (sym c.in-Make.ensures) in
    (within 1 100000 c.in-Make.rows.count made.count_word made.counted).1

pub run_shell-requires-clause-setup : goal.run_shell-requires-clause-setup
run_shell-requires-clause-setup g c κs live = (settings (map (λ w. string_bytes w) c.args.words.now) c.in-Shell.job.options c.in-Shell.job.name.now c.in-Shell.job.script.now (sym c.in-Shell.ensures)).setup

pub run_shell-requires-clause-setting : goal.run_shell-requires-clause-setting
run_shell-requires-clause-setting g c κs live = (settings (map (λ w. string_bytes w) c.args.words.now) c.in-Shell.job.options c.in-Shell.job.name.now c.in-Shell.job.script.now (sym c.in-Shell.ensures)).concurrent

pub returns-in-Chk-clause-said : goal.returns-in-Chk-clause-said
returns-in-Chk-clause-said g c =
    subst (λ r. IfOk c.run_tables.result (λ s. IfTold (g.F.Files.holds c.args.files.now) (SaidText r c.args.now s (g.O.Sink.written c.args.out.now) (g.O.Sink.written c.run_tables.new.out)))) c.in-Chk.ensures c.run_tables.ensures.said

pub returns-in-Chk-clause-part : goal.returns-in-Chk-clause-part
returns-in-Chk-clause-part g c =
    subst (λ r. OnErr c.run_tables.result (IfTold (g.F.Files.holds c.args.files.now) (SaidPart r c.args.now (g.O.Sink.written c.args.out.now) (g.O.Sink.written c.run_tables.new.out)))) c.in-Chk.ensures c.run_tables.ensures.part

pub returns-in-Chk-clause-status : goal.returns-in-Chk-clause-status
returns-in-Chk-clause-status g c =
    subst (λ r. IfOk c.run_tables.result (λ s. IfTold (g.F.Files.holds c.args.files.now) (HasStatus r c.args.now s))) c.in-Chk.ensures (IfOk-weaker c.run_tables.result _ _ (λ s ends m told. let n = ends.told m told in (n.0, n.2)) c.run_tables.ensures.done)

pub returns-in-Chk-clause-done : goal.returns-in-Chk-clause-done
returns-in-Chk-clause-done g c =
    subst (λ r. IfOk c.run_tables.result (λ s. Told (g.F.Files.holds c.args.files.now) (g.F.Files.holds c.run_tables.new.files) (Leaves r c.args.now (g.F.Files.faults c.args.files.now) (g.F.Files.faults c.run_tables.new.files) s))) c.in-Chk.ensures
    (ends_told c.run_tables.result _ _ _ _ _ _ _ c.run_tables.ensures.plain c.run_tables.ensures.done)

pub returns-in-Create-clause-said : goal.returns-in-Create-clause-said
returns-in-Create-clause-said g c =
    subst (λ r. IfOk c.create_from_text.result (λ s. IfTold (g.F.Files.holds c.args.files.now) (SaidText r c.args.now s (g.O.Sink.written c.args.out.now) (g.O.Sink.written c.create_from_text.new.out)))) c.in-Create.ensures (if_ok c.create_from_text.result _ c.create_from_text.ensures.said)

pub returns-in-Create-clause-part : goal.returns-in-Create-clause-part
returns-in-Create-clause-part g c =
    subst (λ r. OnErr c.create_from_text.result (IfTold (g.F.Files.holds c.args.files.now) (SaidPart r c.args.now (g.O.Sink.written c.args.out.now) (g.O.Sink.written c.create_from_text.new.out)))) c.in-Create.ensures c.create_from_text.ensures.part

pub returns-in-Create-clause-status : goal.returns-in-Create-clause-status
returns-in-Create-clause-status g c =
    subst (λ r. IfOk c.create_from_text.result (λ s. IfTold (g.F.Files.holds c.args.files.now) (HasStatus r c.args.now s))) c.in-Create.ensures c.create_from_text.ensures.status

pub returns-in-Dump-clause-said : goal.returns-in-Dump-clause-said
returns-in-Dump-clause-said g c =
    subst (λ r. IfOk c.dump_table.result (λ s. IfTold (g.F.Files.holds c.args.files.now) (SaidText r c.args.now s (g.O.Sink.written c.args.out.now) (g.O.Sink.written c.dump_table.new.out)))) c.in-Dump.ensures (if_ok c.dump_table.result _ c.dump_table.ensures.said)

pub returns-in-Dump-clause-part : goal.returns-in-Dump-clause-part
returns-in-Dump-clause-part g c =
    subst (λ r. OnErr c.dump_table.result (IfTold (g.F.Files.holds c.args.files.now) (SaidPart r c.args.now (g.O.Sink.written c.args.out.now) (g.O.Sink.written c.dump_table.new.out)))) c.in-Dump.ensures c.dump_table.ensures.part

pub returns-in-Dump-clause-status : goal.returns-in-Dump-clause-status
returns-in-Dump-clause-status g c =
    subst (λ r. IfOk c.dump_table.result (λ s. IfTold (g.F.Files.holds c.args.files.now) (HasStatus r c.args.now s))) c.in-Dump.ensures c.dump_table.ensures.status

pub returns-in-Make-clause-said : goal.returns-in-Make-clause-said
returns-in-Make-clause-said g c =
    subst (λ r. IfOk c.make_of_rows.result (λ s. IfTold (g.F.Files.holds c.args.files.now) (SaidText r c.args.now s (g.O.Sink.written c.args.out.now) (g.O.Sink.written c.make_of_rows.new.out)))) c.in-Make.ensures (if_ok c.make_of_rows.result _ c.make_of_rows.ensures.said)

pub returns-in-Make-clause-part : goal.returns-in-Make-clause-part
returns-in-Make-clause-part g c =
    subst (λ r. OnErr c.make_of_rows.result (IfTold (g.F.Files.holds c.args.files.now) (SaidPart r c.args.now (g.O.Sink.written c.args.out.now) (g.O.Sink.written c.make_of_rows.new.out)))) c.in-Make.ensures c.make_of_rows.ensures.part

pub returns-in-Make-clause-status : goal.returns-in-Make-clause-status
returns-in-Make-clause-status g c =
    subst (λ r. IfOk c.make_of_rows.result (λ s. IfTold (g.F.Files.holds c.args.files.now) (HasStatus r c.args.now s))) c.in-Make.ensures c.make_of_rows.ensures.status

pub returns-in-Shell-clause-said : goal.returns-in-Shell-clause-said
returns-in-Shell-clause-said g c =
    subst (λ r. IfOk c.run_shell.result (λ s. IfTold (g.F.Files.holds c.args.files.now) (SaidText r c.args.now s (g.O.Sink.written c.args.out.now) (g.O.Sink.written c.run_shell.new.out)))) c.in-Shell.ensures c.run_shell.ensures.said

pub returns-in-Shell-clause-part : goal.returns-in-Shell-clause-part
returns-in-Shell-clause-part g c =
    subst (λ r. OnErr c.run_shell.result (IfTold (g.F.Files.holds c.args.files.now) (SaidPart r c.args.now (g.O.Sink.written c.args.out.now) (g.O.Sink.written c.run_shell.new.out)))) c.in-Shell.ensures c.run_shell.ensures.part

pub returns-in-Shell-clause-status : goal.returns-in-Shell-clause-status
returns-in-Shell-clause-status g c =
    subst (λ r. IfOk c.run_shell.result (λ s. IfTold (g.F.Files.holds c.args.files.now) (HasStatus r c.args.now s))) c.in-Shell.ensures (status_of c.run_shell.result _ _ _ _ _ _ c.run_shell.ensures.said)

pub returns-in-Chk-clause-fails : goal.returns-in-Chk-clause-fails
returns-in-Chk-clause-fails g c =
    subst (λ r. IfSink c.run_tables.result (IfTold (g.F.Files.holds c.args.files.now) (λ m. IfTold (g.F.Files.holds c.run_tables.new.files) (FailsInScript r (g.O.Sink.written c.args.out.now) (g.O.Sink.written c.run_tables.new.out) m)))) c.in-Chk.ensures (λ sank m held n after. tt)

pub returns-in-Create-clause-fails : goal.returns-in-Create-clause-fails
returns-in-Create-clause-fails g c =
    subst (λ r. IfSink c.create_from_text.result (IfTold (g.F.Files.holds c.args.files.now) (λ m. IfTold (g.F.Files.holds c.create_from_text.new.files) (FailsInScript r (g.O.Sink.written c.args.out.now) (g.O.Sink.written c.create_from_text.new.out) m)))) c.in-Create.ensures (λ sank m held n after. tt)

pub returns-in-Dump-clause-fails : goal.returns-in-Dump-clause-fails
returns-in-Dump-clause-fails g c =
    subst (λ r. IfSink c.dump_table.result (IfTold (g.F.Files.holds c.args.files.now) (λ m. IfTold (g.F.Files.holds c.dump_table.new.files) (FailsInScript r (g.O.Sink.written c.args.out.now) (g.O.Sink.written c.dump_table.new.out) m)))) c.in-Dump.ensures (λ sank m held n after. tt)

pub returns-in-Make-clause-fails : goal.returns-in-Make-clause-fails
returns-in-Make-clause-fails g c =
    subst (λ r. IfSink c.make_of_rows.result (IfTold (g.F.Files.holds c.args.files.now) (λ m. IfTold (g.F.Files.holds c.make_of_rows.new.files) (FailsInScript r (g.O.Sink.written c.args.out.now) (g.O.Sink.written c.make_of_rows.new.out) m)))) c.in-Make.ensures (λ sank m held n after. tt)

pub returns-in-Shell-clause-fails : goal.returns-in-Shell-clause-fails
returns-in-Shell-clause-fails g c =
    subst (λ r. IfSink c.run_shell.result (IfTold (g.F.Files.holds c.args.files.now) (λ m. IfTold (g.F.Files.holds c.run_shell.new.files) (FailsInScript r (g.O.Sink.written c.args.out.now) (g.O.Sink.written c.run_shell.new.out) m)))) c.in-Shell.ensures c.run_shell.ensures.fails
