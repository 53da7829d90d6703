use Rattle.std.proofs.Common.{sym, ap, subst, ◌∙◌}
use Rattle.myi_base.specs.Output.{Appends, AppendsPart}
use Rattle.myi_opening.specs.Names.{index_file, rows_file}
use Rattle.myi_opening.specs.Opening.{table}
use Rattle.myi_opening.proofs.CallerLemmas.{table_rows}
use Rattle.myisamkit.proofs.SinkLaws.{on_err}
use Rattle.myisamkit.proofs.OpenLaws.{table_as}
use Rattle.myisamkit.proofs.DumpTurnLaws.{sound_turn, by_opening, fault_part_told}
use Rattle.myisamkit.proofs.dump.dump_sound.Goals as goal

pub dump_rows-requires-clause-long : goal.dump_rows-requires-clause-long
dump_rows-requires-clause-long g c κs lives m held =
    let has = c.in-Ok.ensures.table m (sym c.open_table.ensures.holds ∙ held) in
    (has.data_file, ap m (c.as_str-in-Ok.ensures.value ∙ sym c.as_str-2.ensures.value) ∙ table_rows _ _ (table c.in-Ok.opened.defs has.data_file has.index_file) m has.is, has.long)

pub returns-in_err-dump_rows-in-Ok-clause-part : goal.returns-in_err-dump_rows-in-Ok-clause-part
returns-in_err-dump_rows-in-Ok-clause-part g c = on_err c.from_residual-in_err-dump_rows-in-Ok.result _ (λ m told b was.
    let has = c.in-Ok.ensures.table m told in
    let is = table_as _ _ (index_file c.args.name.now) (rows_file c.args.name.now) m _ (c.as_str.ensures.value ∙ c.in_ok-index.ensures) (c.as_str-2.ensures.value ∙ c.in_ok-rows.ensures) has.is in
    let turn = sound_turn c.args.name.now m (table c.in-Ok.opened.defs has.data_file has.index_file) (c.requires.sound m told) is in
    let there = ap m (c.as_str-in-Ok.ensures.value ∙ sym c.as_str-2.ensures.value) ∙ table_rows _ _ (table c.in-Ok.opened.defs has.data_file has.index_file) m has.is in
    subst (λ l. AppendsPart l (g.O.Sink.written c.dump_rows.new.out) b) (sym turn.text) (c.in_err-dump_rows-in-Ok.ensures.part m (c.open_table.ensures.holds ∙ told) has.data_file there b was))

pub returns-in-Ok-clause-status : goal.returns-in-Ok-clause-status
returns-in-Ok-clause-status g c m told =
    let has = c.in-Ok.ensures.table m told in
    let is = table_as _ _ (index_file c.args.name.now) (rows_file c.args.name.now) m _ (c.as_str.ensures.value ∙ c.in_ok-index.ensures) (c.as_str-2.ensures.value ∙ c.in_ok-rows.ensures) has.is in
    sym (sound_turn c.args.name.now m (table c.in-Ok.opened.defs has.data_file has.index_file) (c.requires.sound m told) is).status

pub returns-in-Ok-clause-said : goal.returns-in-Ok-clause-said
returns-in-Ok-clause-said g c m told b was =
    let has = c.in-Ok.ensures.table m told in
    let is = table_as _ _ (index_file c.args.name.now) (rows_file c.args.name.now) m _ (c.as_str.ensures.value ∙ c.in_ok-index.ensures) (c.as_str-2.ensures.value ∙ c.in_ok-rows.ensures) has.is in
    let turn = sound_turn c.args.name.now m (table c.in-Ok.opened.defs has.data_file has.index_file) (c.requires.sound m told) is in
    let there = ap m (c.as_str-in-Ok.ensures.value ∙ sym c.as_str-2.ensures.value) ∙ table_rows _ _ (table c.in-Ok.opened.defs has.data_file has.index_file) m has.is in
    subst (λ l. Appends l (g.O.Sink.written c.dump_rows.new.out) b) (sym turn.text) (c.in_ok-dump_rows-in-Ok.ensures.said m (c.open_table.ensures.holds ∙ told) has.data_file there b was)

pub returns-clause-part : goal.returns-clause-part
returns-clause-part g c =
    fault_part_told c.say_fault.result c.args.name.now c.in-Err.fault _ _ _ (by_opening c.args.name.now _ _ c.in-Err.fault _ (c.as_str.ensures.value ∙ c.in_ok-index.ensures) (c.as_str-2.ensures.value ∙ c.in_ok-rows.ensures) c.in-Err.ensures.refused) c.say_fault.ensures.part
