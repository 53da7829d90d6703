use Rattle.std.proofs.Common.{◌∙◌, List, [], length, ap, sym}
use Rattle.std.specs.Prelude.{replicate}
use Rattle.myi_defs.specs.declared.types.Key.{Key}
use Rattle.myi_keylist.specs.declared.pair.Pair.{Pair}
use Rattle.myi_rowkeys.proofs.CallerLemmas.{no_numbers}
use Rattle.myi_repair.specs.Gathering.{all_chosen}
use Rattle.myi_order.proofs.new_order.NewTable.new.Goals as goal

pub returns : goal.returns
returns c = record {
  written = c.new-3.ensures c.args.defs.now all_chosen;
  keys = c.in_ok-new.ensures ∙ ap (λ (ks : List Key). replicate {A = List Pair} (length ks) []) c.as_slice.ensures ∙ sym (no_numbers c.args.defs.now);
}
