use Rattle.std.proofs.Common.{◌∙◌, List, length, sym, ap, subst, arith}
use Rattle.std.proofs.Math.Nat.{one-le-pow}
use Rattle.myi_keylist.specs.declared.pair.Pair.{Pair}
use Rattle.myi_rowkeys.proofs.CallerLemmas.{length-number_pairs}
use Rattle.myi_repair.specs.Sized.{AreSizedPairs}
use Rattle.myi_repair.proofs.GatherLaws.{lists_sorted, of_all_rows}
use Rattle.myi_repair.proofs.SizedLaws.{all_sized}
use Rattle.myi_repair.proofs.gathering.gathered_of_all.Goals as goal

pub sort_unique-requires : goal.sort_unique-requires
sort_unique-requires c = ap (λ (ls : List (List Pair)). length ls) c.requires.written.2 ∙ length-number_pairs c.args.defs c.requires.written.0

pub returns-clause-pairs : goal.returns-clause-pairs
returns-clause-pairs c =
    let all = c.requires.written.0 in
    let has = c.requires.written.1 in
    subst (λ x. AreSizedPairs x.defs x.pairs) (sym c.into_gathered.ensures)
    (all_sized c.args.defs all c.sort_unique.new.self c.args.rows.pointers c.requires.sound (one-le-pow c.args.defs.rec_ref 256 (omega arith)) has.came.fit (lists_sorted c.args.defs all c.args.keys c.sort_unique.new.self c.requires.written.2 c.sort_unique.ensures) has.came.near)

pub returns-clause-rows : goal.returns-clause-rows
returns-clause-rows c all has is can =
    of_all_rows c.args.defs c.args.old_length all c.args.rows c.args.keys c.sort_unique.new.self c.into_gathered.result c.requires.sound has is can c.sort_unique.ensures c.into_gathered.ensures
