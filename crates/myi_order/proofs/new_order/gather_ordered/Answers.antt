use Rattle.std.proofs.Common.{◌∙◌, ap}
use Rattle.myi_base.proofs.CallerLemmas.{told_more}
use Rattle.myi_defs.proofs.CallerLemmas.{sound}
use Rattle.myi_repair.specs.Names.{names_of}
use Rattle.myi_order.proofs.AnalyzeLaws.{told_from}
use Rattle.myi_order.proofs.NewOrderLaws.{gathered_in_order}
use Rattle.myi_order.proofs.new_order.gather_ordered.Goals as goal

pub order_of-requires-clause-long : goal.order_of-requires-clause-long
order_of-requires-clause-long g c κs lives m held =
    let long = c.requires.long m held in
    (long.0, ap m c.as_str.ensures.value ∙ long.1, long.2)

pub gathered_of_all-requires-clause-sound : goal.gathered_of_all-requires-clause-sound
gathered_of_all-requires-clause-sound g c = sound c.args.opened.defs c.requires.defs

pub gathered_of_all-requires-clause-written : goal.gathered_of_all-requires-clause-written
gathered_of_all-requires-clause-written g c =
    let put = c.in_ok-new.ensures.put in
    (put.rows, put.put.written, put.put.keys)

pub returns-clause-gathered : goal.returns-clause-gathered
returns-clause-gathered g c =
    let put = c.in_ok-new.ensures.put in
    told_more _ _ _ _ (told_from _ _ _ _ c.order_of.ensures.holds put.told) (λ m n held is.
    gathered_in_order (names_of c.args.table.now) c.args.key c.args.opened c.in_ok-order.order put.rows c.gathered_of_all.result m n c.requires.defs (g.met.F.Files.told_bytes c.args.files.now m held) c.gathered_of_all.ensures.defs c.gathered_of_all.ensures.length
    (λ x there. c.in_ok-order.ensures.order m held x (ap m c.as_str.ensures.value ∙ there)) (λ can. c.gathered_of_all.ensures.rows put.rows put.put.written put.put.keys can) is)
