use Rattle.std.proofs.Common.{◌∙◌, cond, refl, ap, arith}
use Rattle.myi_defs.specs.Addressable.{is_addressable}
use Rattle.myi_check.specs.HeldBytes.{front_of, gap_behind}
use Rattle.myi_check.proofs.RowsLemmas.{table_rises, together_found}
use Rattle.myi_check.proofs.rows.found_apart.Goals as goal

pub returns-clause-found : goal.returns-clause-found
returns-clause-found c x long has =
    let d = c.args.defs.now in
    let last = c.put_in_order.new.self in
    together_found d x c.args.met last _ (table_rises c.rows_are_met.ensures.in_order d x c.requires.sound) has
    c.in_ok-put_in_order.ensures.same c.in_ok-put_in_order.ensures.order
    (omega (arith, c.in_ok-bytes.ensures, c.in_ok-sizes.ensures, c.if-bytes-sizes.false))
    refl refl refl refl refl refl
    (c.gap.ensures ∙ ap (λ n. gap_behind (cond (is_addressable d n) (front_of last) 0) n) long)
    c.requires.sound

pub returns-clause-lists : goal.returns-clause-lists
returns-clause-lists c = c.requires.met.1.lists
