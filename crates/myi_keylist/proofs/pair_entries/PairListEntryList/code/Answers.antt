use Rattle.std.proofs.Common.{◌<◌, [], length, sym, ap, ◌∙◌, arith}
use Rattle.std.proofs.lemmas.List.{length-map}
use Rattle.myi_keylist.specs.declared.pair.Pair.{Pair}
use Rattle.myi_keylist.specs.PairOrder.{pair_with}
use Rattle.myi_keylist.specs.PairEntries.{entry_of}
use Rattle.myi_keylist.proofs.EntryLaws.{entry_at}
use Rattle.myi_keylist.proofs.pair_entries.PairListEntryList.code.Goals as goal

pub returns : goal.returns
returns c = λ other.
    let d : Pair = pair_with [] 0 in
    let inside : c.args.i < length c.args.self.now = omega (arith, length-map c.args.self.now entry_of, c.requires) in
    c.code.ensures.value d ∙ sym (ap (λ e. e.key) (entry_at c.args.self.now c.args.i other d inside))
