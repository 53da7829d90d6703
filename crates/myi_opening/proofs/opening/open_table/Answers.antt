use Rattle.std.proofs.Common.{◌≡◌, ◌∙◌, [], Err, take, unwrap_or, ap, subst, inr}
use Rattle.std.proofs.lemmas.Result.{err_from_is_err_and}
use Rattle.myi_base.specs.Holding.{Measures}
use Rattle.myi_opening.specs.Opening.{table_by}
use Rattle.myi_opening.proofs.OpenLaws.{no_index, no_rows, both_there, is_there, not_there, is_there_else, cut_or, err_is}
use Rattle.myi_opening.proofs.opening.open_table.Goals as goal

pub returns-then-is_none-clause-refused : goal.returns-then-is_none-clause-refused
returns-then-is_none-clause-refused g c =
    inr (λ m told. no_index c.args.index.now c.args.rows.now m (not_there _ _ _ c.is_none.ensures c.if-is_none.true (c.in_ok-length.ensures.told m told)))

pub returns-in_default-clause-refused : goal.returns-in_default-clause-refused
returns-in_default-clause-refused g c =
    inr (λ m told.
    let x = is_there_else _ _ _ c.is_none.ensures c.if-is_none.false (c.in_ok-length.ensures.told m told) in
    let measured = subst (Measures (m c.args.rows.now)) c.in_default.is (c.in_ok-length-2.ensures.told m (c.in_ok-length.ensures.holds ∙ told)) in
    no_rows c.args.index.now c.args.rows.now x.0 m x.1 measured)

pub returns-in_err-defs-clause-refused : goal.returns-in_err-defs-clause-refused
returns-in_err-defs-clause-refused g c =
    let e = err_from_is_err_and c.from_residual-in_err-defs.result c.from_residual-in_err-defs.ensures.1 in
    err_is c.from_residual-in_err-defs.result c.in_err-defs.field-0.0 _ (e.1 ∙ ap Err e.2) (cut_or c.in_err-defs.field-0.0 _ _ c.in_err-defs.ensures.refused (λ refused m told.
    let x = is_there_else _ _ _ c.is_none.ensures c.if-is_none.false (c.in_ok-length.ensures.told m told) in
    let d = is_there _ _ c.in-Some.length c.in-Some.is (c.in_ok-length-2.ensures.told m (c.in_ok-length.ensures.holds ∙ told)) in
    let held = c.in_ok-length-2.ensures.holds ∙ c.in_ok-length.ensures.holds ∙ told in
    let front : c.deref.result.now ≡ take 65535 x.0 = c.deref.ensures.value ∙ c.in_ok-header.ensures.told m held ∙ ap (λ o. take 65535 (unwrap_or o [])) x.1 in
    both_there c.args.index.now c.args.rows.now x.0 d.0 m x.1 d.1 ∙ refused x.0 d.0 front))

pub returns-clause-table : goal.returns-clause-table
returns-clause-table g c m told =
    let x = is_there_else _ _ _ c.is_none.ensures c.if-is_none.false (c.in_ok-length.ensures.told m told) in
    let d = is_there _ _ c.in-Some.length c.in-Some.is (c.in_ok-length-2.ensures.told m (c.in_ok-length.ensures.holds ∙ told)) in
    let held = c.in_ok-length-2.ensures.holds ∙ c.in_ok-length.ensures.holds ∙ told in
    let front : c.deref.result.now ≡ take 65535 x.0 = c.deref.ensures.value ∙ c.in_ok-header.ensures.told m held ∙ ap (λ o. take 65535 (unwrap_or o [])) x.1 in
    record {
      data_file = d.0;
      index_file = x.0;
      is = both_there c.args.index.now c.args.rows.now x.0 d.0 m x.1 d.1 ∙ ap (λ r. table_by r d.0 x.0) (c.in_ok-defs.ensures.read x.0 front);
      long = d.2;
    }
