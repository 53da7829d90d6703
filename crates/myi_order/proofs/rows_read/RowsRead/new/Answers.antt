use Rattle.std.proofs.Common.{◌∙◌, List, [], length, ap, refl}
use Rattle.std.specs.Prelude.{replicate}
use Rattle.myi_defs.specs.declared.types.Key.{Key}
use Rattle.myi_keylist.specs.declared.pair.Pair.{Pair}
use Rattle.myi_order.proofs.ReadLaws.{none_read}
use Rattle.myi_order.proofs.rows_read.RowsRead.new.Goals as goal

pub returns : goal.returns
returns c = none_read c.args.defs.now _ (c.in_ok-new.ensures ∙ ap (λ (ks : List Key). replicate {A = List Pair} (length ks) []) c.as_slice.ensures) refl
