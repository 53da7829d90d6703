use Rattle.std.proofs.Common.{sym, ◌∙◌}
use Rattle.myisamkit.proofs.DumpTurnLaws.{by_check, fault_status_told, fault_said_told, fault_part_told, found_status_told, found_said_told, found_part_told}
use Rattle.myisamkit.proofs.dump.dump_table.Goals as goal

pub returns-clause-status : goal.returns-clause-status
returns-clause-status g c = fault_status_told c.say_fault.result c.args.name.now c.in-Err.fault _ (by_check c.args.name.now c.in-Err.fault _ c.in-Err.ensures.refused) c.say_fault.ensures.status c.say_fault.ensures.refusal

pub returns-clause-said : goal.returns-clause-said
returns-clause-said g c = fault_said_told c.say_fault.result c.args.name.now c.in-Err.fault _ _ _ (by_check c.args.name.now c.in-Err.fault _ c.in-Err.ensures.refused) c.say_fault.ensures.said c.say_fault.ensures.refusal

pub returns-clause-part : goal.returns-clause-part
returns-clause-part g c = fault_part_told c.say_fault.result c.args.name.now c.in-Err.fault _ _ _ (by_check c.args.name.now c.in-Err.fault _ c.in-Err.ensures.refused) c.say_fault.ensures.part

pub returns-in-Ok-clause-status : goal.returns-in-Ok-clause-status
returns-in-Ok-clause-status g c = found_status_told c.refuse.result c.args.name.now c.in-Some.finding.now c.in-Some.field-0-1.now c.in-Ok.found.items _ (sym c.as_slice.ensures.value ∙ c.in-Some.ensures.cases.0) c.in-Ok.ensures.findings c.refuse.ensures.status

pub returns-in-Ok-clause-said : goal.returns-in-Ok-clause-said
returns-in-Ok-clause-said g c = found_said_told c.refuse.result c.args.name.now c.in-Some.finding.now c.in-Some.field-0-1.now c.in-Ok.found.items _ _ _ (sym c.as_slice.ensures.value ∙ c.in-Some.ensures.cases.0) c.in-Ok.ensures.findings c.refuse.ensures.said

pub returns-in-Ok-clause-part : goal.returns-in-Ok-clause-part
returns-in-Ok-clause-part g c = found_part_told c.refuse.result c.args.name.now c.in-Some.finding.now c.in-Some.field-0-1.now c.in-Ok.found.items _ _ _ (sym c.as_slice.ensures.value ∙ c.in-Some.ensures.cases.0) c.in-Ok.ensures.findings c.refuse.ensures.part
