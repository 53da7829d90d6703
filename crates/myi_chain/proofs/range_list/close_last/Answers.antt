use Rattle.std.proofs.Common.{arith}
use Rattle.myi_chain.proofs.ListedLemmas.{closed_view, closed, closed_each}
use Rattle.myi_chain.proofs.range_list.close_last.Goals as goal

pub returns-in_ok-push-clause-each : goal.returns-in_ok-push-clause-each
returns-in_ok-push-clause-each c = closed_each c.args.froms.now c.args.tos.now c.push.new.self c.args.last_to c.requires (omega (arith, c.if-len.true, c.len.ensures, c.len-2.ensures)) c.in_ok-push.ensures.ok

pub returns-in_ok-push-clause-same : goal.returns-in_ok-push-clause-same
returns-in_ok-push-clause-same c = closed_view c.args.froms.now c.args.tos.now c.push.new.self c.args.last_to c.requires.enough c.in_ok-push.ensures.ok

pub returns-in_ok-push-clause-listed : goal.returns-in_ok-push-clause-listed
returns-in_ok-push-clause-listed c = closed c.args.froms.now c.args.tos.now c.push.new.self c.args.last_to c.requires (omega (arith, c.if-len.true, c.len.ensures, c.len-2.ensures)) c.in_ok-push.ensures.ok
