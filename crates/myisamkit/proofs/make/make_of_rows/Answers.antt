use Rattle.std.proofs.lemmas.Result.{err_from_is_err_and}
use Rattle.myisamkit.proofs.CreateLaws.{err_is}
use Rattle.myisamkit.proofs.MakeLaws.{ok_leaves, said_leaves}
use Rattle.myisamkit.proofs.make.make_of_rows.Goals as goal

pub returns-in_err-say-clause-stops : goal.returns-in_err-say-clause-stops
returns-in_err-say-clause-stops g c =
    let e = err_from_is_err_and c.from_residual-in_err-say.result c.from_residual-in_err-say.ensures.1 in
    err_is c.from_residual-in_err-say.result e.0 _ e.1 (said_leaves c.args.rows.count c.args.rows.seed c.args.name.now c.args.now _ e.0 _ _ e.2 c.in_ok-status.ensures.done c.make_and_tell.ensures.others)

pub returns-clause-done : goal.returns-clause-done
returns-clause-done g c = ok_leaves c.args.rows.count c.args.rows.seed c.args.name.now c.args.now _ _ c.in_ok-status.ensures.done
