-- The blocks of a file of bytes are a reading of it.
use Rattle.std.proofs.Common.{ℕ, List, length}
use Rattle.myi_frames.specs.Block.{block_of}
use Rattle.myi_frames.proofs.CallerLemmas.{block-stands}
use Rattle.myi_chain.specs.Chain.{IsReading}

pub blocks_read : (d : List ℕ) → IsReading (block_of d) (length d)
blocks_read d p b e = let s = block-stands d p b e in record { at = s.at; least = s.least; inside = s.inside }
