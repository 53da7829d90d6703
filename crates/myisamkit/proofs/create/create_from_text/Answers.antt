use Rattle.std.proofs.lemmas.Result.{err_from_is_err_and}
use Rattle.myisamkit.proofs.CreateLaws.{done_told, said_cut, err_is}
use Rattle.myisamkit.proofs.create.create_from_text.Goals as goal

pub returns-in_err-say-clause-stops : goal.returns-in_err-say-clause-stops
returns-in_err-say-clause-stops g c =
    let e = err_from_is_err_and c.from_residual-in_err-say.result c.from_residual-in_err-say.ensures.1 in
    err_is c.from_residual-in_err-say.result e.0 _ e.1 (said_cut c.args.name.now c.args.text.now _ e.0 _ _ e.2 (done_told c.args.name.now c.args.text.now _ _ c.in_ok-status.ensures.done))

pub returns-clause-done : goal.returns-clause-done
returns-clause-done g c = done_told c.args.name.now c.args.text.now _ _ c.in_ok-status.ensures.done
