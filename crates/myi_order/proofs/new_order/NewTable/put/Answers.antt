use Rattle.std.proofs.Common.{◌∙◌, List, length, ap}
use Rattle.myi_base.proofs.CallerLemmas.{told_more}
use Rattle.myi_keylist.specs.declared.pair.Pair.{Pair}
use Rattle.myi_rowkeys.proofs.CallerLemmas.{length-number_pairs}
use Rattle.myi_repair.specs.Gathering.{all_chosen}
use Rattle.myi_order.proofs.NewOrderLaws.{puts_more, appends_more}
use Rattle.myi_order.proofs.new_order.NewTable.put.Goals as goal

pub take_row-put-requires-clause-all : goal.take_row-put-requires-clause-all
take_row-put-requires-clause-all g c κs within = ap (λ (ls : List (List Pair)). length ls) c.requires.put.1.keys ∙ length-number_pairs c.args.defs.now c.requires.put.0

pub take_row-put-requires-clause-written : goal.take_row-put-requires-clause-written
take_row-put-requires-clause-written g c κs within = (all_chosen, c.requires.put.0, c.requires.put.1.written)

pub returns-in-Ok-clause-puts : goal.returns-in-Ok-clause-puts
returns-in-Ok-clause-puts g c = puts_more c.args.defs.now c.args.self.now _ c.in-Ok.ensures.keys c.in-Ok.ensures.added

pub returns-in-Ok-clause-written : goal.returns-in-Ok-clause-written
returns-in-Ok-clause-written g c = told_more _ _ _ _ c.in-Ok.ensures.written (λ m n held writes. appends_more c.args.defs.now c.args.file.now c.args.self.now m n writes)
