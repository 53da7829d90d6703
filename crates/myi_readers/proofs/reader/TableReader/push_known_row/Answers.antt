use Rattle.std.proofs.Common.{◌<◌, ◌++◌, ◌∷◌, ℕ, List, [], length, unwrap_or, sym, ap, subst, ◌∙◌, arith}
use Rattle.std.specs.Prelude.{slice_index_or}
use Rattle.myi_pack.specs.Packed.{Values}
use Rattle.myi_pack.specs.Unpacking.{row_of}
use Rattle.myi_readers.specs.declared.reader.TableReader.{TableReader}
use Rattle.myi_readers.specs.Reader.{rows_known}
use Rattle.myi_readers.proofs.ScanLemmas.{one_before}
use Rattle.myi_readers.proofs.SeenLemmas.{packed_known, row_is}
use Rattle.myi_readers.proofs.reader.TableReader.push_known_row.Goals as goal

pub row-requires : goal.row-requires
row-requires c = subst (λ (l : List (List ℕ)). c.args.i < length l) (sym (packed_known c.args.self.now c.requires.ready)) c.requires.there

pub returns : goal.returns
returns c =
    let r : TableReader = c.args.self.now in
    let row : Values = c.in_ok-row.row in
    one_before c.args.below c.args.rows.now.items c.push.new.self.items (c.args.at, unwrap_or (row_of r.defs (slice_index_or (rows_known r) c.args.i [])) []) (omega arith)
    (c.in_ok-push.ensures.items ∙ ap (λ (v : Values). c.args.rows.now.items ++ (c.args.at, v) ∷ []) (row_is r c.args.i row c.requires.ready c.in_ok-row.ensures))
