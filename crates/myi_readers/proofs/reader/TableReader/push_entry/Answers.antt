use Rattle.std.proofs.Common.{◌<◌, ◌++◌, ◌∷◌, ℕ, List, [], length, sym, ap, subst, ◌∙◌, arith}
use Rattle.myi_keys.specs.declared.values.KeySeg.{KeySeg}
use Rattle.myi_keylist.specs.PairOrder.{pair_with}
use Rattle.myi_readers.specs.declared.reader.TableReader.{TableReader}
use Rattle.myi_readers.specs.Reader.{rows_known}
use Rattle.myi_readers.proofs.SeenLemmas.{packed_known, row_is}
use Rattle.myi_readers.proofs.IndexLemmas.{one_row}
use Rattle.myi_readers.proofs.reader.TableReader.push_entry.Goals as goal

pub row-requires : goal.row-requires
row-requires c = subst (λ (l : List (List ℕ)). c.args.pair.now.row < length l) (sym (packed_known c.args.self.now c.requires.ready)) c.requires.there

pub returns : goal.returns
returns c =
    let r : TableReader = c.args.self.now in
    one_row r.defs (rows_known r) c.args.below (c.args.pair.now, c.args.at) c.args.found.now.items c.push.new.self.items c.in_ok-row.row (omega arith)
    (row_is r c.args.pair.now.row c.in_ok-row.row c.requires.ready c.in_ok-row.ensures)
    (c.in_ok-push.ensures.items ∙ ap (λ (k : List KeySeg). c.args.found.now.items ++ (record { pair = pair_with k c.args.at; row = c.in_ok-row.row }) ∷ []) c.in_ok-key.ensures)
