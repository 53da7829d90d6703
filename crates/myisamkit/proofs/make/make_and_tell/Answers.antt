use Rattle.myisamkit.proofs.MakeLaws.{done_told, said_told, status_told, never_told, never_done}
use Rattle.myisamkit.proofs.make.make_and_tell.Goals as goal

pub returns-in_ok-told-in-Ok-clause-done : goal.returns-in_ok-told-in-Ok-clause-done
returns-in_ok-told-in-Ok-clause-done g c = done_told _ _ _ _ _ _ _ c.in-Ok.ensures.made c.make_table.ensures.others

pub returns-in_ok-told-in-Ok-clause-said : goal.returns-in_ok-told-in-Ok-clause-said
returns-in_ok-told-in-Ok-clause-said g c = said_told _ _ _ _ _ _ _ _ c.in-Ok.ensures.made c.in-Ok.ensures.damaged c.in_ok-told-in-Ok.ensures.said

pub returns-in_ok-told-in-Ok-clause-status : goal.returns-in_ok-told-in-Ok-clause-status
returns-in_ok-told-in-Ok-clause-status g c = status_told _ _ _ _ _ _ _ _ c.in-Ok.ensures.made c.in_ok-told-in-Ok.ensures.status

pub returns-in-Err-clause-said : goal.returns-in-Err-clause-said
returns-in-Err-clause-said g c = never_told c.not_made.result c.in-Err.fault _ _ c.in-Err.ensures.refused c.not_made.ensures.refusal

pub returns-in-Err-clause-status : goal.returns-in-Err-clause-status
returns-in-Err-clause-status g c = never_told c.not_made.result c.in-Err.fault _ _ c.in-Err.ensures.refused c.not_made.ensures.refusal

pub returns-in-Err-clause-done : goal.returns-in-Err-clause-done
returns-in-Err-clause-done g c = never_done c.not_made.result c.in-Err.fault _ _ _ _ c.in-Err.ensures.refused c.not_made.ensures.refusal c.make_table.ensures.others
