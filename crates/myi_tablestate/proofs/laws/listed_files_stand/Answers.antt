use Rattle.std.proofs.Common.{ℕ, false, [], length}
use Rattle.myi_frames.specs.Block.{block_of}
use Rattle.myi_data.specs.Readable.{packs}
use Rattle.myi_tablestate.proofs.StandLemmas.{table_of, listed_stands, listed_head}
use Rattle.myi_tablestate.proofs.PairedLemmas.{is_listed}
use Rattle.myi_tablestate.proofs.laws.listed_files_stand.Goals as goal

pub returns : goal.returns
returns c d b head sound bytes reached covered list =
    let rising = c.rows_are_met.ensures.in_order false (block_of b) (length b) (packs d) (c.chains_are_found.ensures.blocks b) 0 [] in
    let l = is_listed d b head sound bytes reached covered list rising (c.rows_are_readable.ensures.rising d false b sound) in
    (table_of d b list.0, listed_stands d b head list.0 l, listed_head d b head list.0 list.2)
