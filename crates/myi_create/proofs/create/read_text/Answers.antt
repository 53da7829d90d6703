use Rattle.std.proofs.Common.{◌∙◌, Some, Err, sym, ap}
use Rattle.std.proofs.lemmas.Result.{err_from_is_err_and}
use Rattle.myi_base.specs.Holding.{IsFront}
use Rattle.myi_create.specs.Creating.{definitions_of}
use Rattle.myi_create.proofs.CreateLaws.{text_is, cut_or, err_is}
use Rattle.myi_create.proofs.create.read_text.Goals as goal

pub returns-in_err-defs-clause-refused : goal.returns-in_err-defs-clause-refused
returns-in_err-defs-clause-refused g c =
    let e = err_from_is_err_and c.from_residual-in_err-defs.result c.from_residual-in_err-defs.ensures.1 in
    err_is c.from_residual-in_err-defs.result c.in_err-defs.field-0.0 _ (e.1 ∙ ap Err e.2) (cut_or c.in_err-defs.field-0.0 _ _ c.in_err-defs.ensures.refused (λ refused m told.
    let front : IsFront c.args.text.now c.in-Some.length c.in_ok-bytes.bytes.items m = c.in_ok-bytes.ensures.told m (c.in_ok-length.ensures.holds ∙ told) in
    ap definitions_of (text_is c.args.text.now c.in_ok-bytes.bytes.items m c.in_ok-length.field-0 c.in-Some.length c.in-Some.is (c.in_ok-length.ensures.told m told) front ∙ ap Some (sym c.deref.ensures.value))
    ∙ refused))

pub returns-clause-read : goal.returns-clause-read
returns-clause-read g c m told =
    let front : IsFront c.args.text.now c.in-Some.length c.in_ok-bytes.bytes.items m = c.in_ok-bytes.ensures.told m (c.in_ok-length.ensures.holds ∙ told) in
    ap definitions_of (text_is c.args.text.now c.in_ok-bytes.bytes.items m c.in_ok-length.field-0 c.in-Some.length c.in-Some.is (c.in_ok-length.ensures.told m told) front ∙ ap Some (sym c.deref.ensures.value))
    ∙ c.in_ok-defs.ensures.read
