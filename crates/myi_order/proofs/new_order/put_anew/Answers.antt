use Rattle.std.proofs.Common.{◌∙◌, Some, ap, sym, subst}
use Rattle.myi_base.specs.Holding.{OthersStay}
use Rattle.myi_base.proofs.CallerLemmas.{told_then, told_back}
use Rattle.myi_repair.specs.Names.{names_of}
use Rattle.myi_order.proofs.NewOrderLaws.{resized_none, put_after}
use Rattle.myi_order.proofs.new_order.put_anew.Goals as goal

pub put_all-requires-clause-empty : goal.put_all-requires-clause-empty
put_all-requires-clause-empty g c κs lives n held =
    let t = names_of c.args.table.now in
    let back = told_back _ _ _ n c.in_ok-cut.ensures.ok held in
    sym (ap n c.as_str.ensures.value) ∙ back.2.here ∙ ap Some (resized_none _)

pub returns-clause-put : goal.returns-clause-put
returns-clause-put g c =
    let t = names_of c.args.table.now in
    let put = c.in_ok-put_all.ensures.put in
    record {
      rows = put.rows;
      put = put.put;
      told = told_then _ _ _ _ _ _ c.in_ok-cut.ensures.ok put.told (λ m k n cut is. put_after t c.args.opened.now c.args.order.now put.rows m k n c.requires.apart.rows-new_rows (subst (λ q. OthersStay q m k) c.as_str.ensures.value cut.others) is);
    }
