-- Rows of a dynamic table that are read block by block: what is left to be read behind a block.
use Rattle.std.specs.Prelude.{◌≡◌, ◌+◌, ◌<◌, ◌^◌, ℕ, suc, List, ◌++◌, length, Option, Some}
use Rattle.myi_frames.specs.Block.{Block}
use Rattle.myi_chain.specs.Chain.{Reading, IsTail, row_bytes}
use Rattle.myi_check.specs.declared.chain_reads.Link.{Link}
use Rattle.myi_check.specs.declared.chain_reads.Link.TheVariants.{Broken, Last, More}

-- these blocks, from the place that is named on, and the bytes before them give the bytes of all blocks of a row
pub record Remains (read : Reading) (all : List Block) (before : List ℕ) (next : Option ℕ) (rest : List Block) : Type 0 where
  pub linked : IsTail read next rest
  pub is : before ++ row_bytes rest ≡ row_bytes all

-- behind these bytes the row of all these blocks goes on so
abbrev pub GoesOn : Reading → List Block → List ℕ → Link → Type 0
GoesOn read all before Broken = Unit {0}
GoesOn read all before Last = before ≡ row_bytes all
GoesOn read all before (More at left) = (rest : List Block) × Remains read all before (Some at) rest

-- with what may come behind these bytes there are fewer than 2^32
abbrev pub IsShort : List ℕ → Link → Type 0
IsShort before Broken = Unit {0}
IsShort before Last = length before < 2 ^ 32
IsShort before (More at left) = length before + left < 2 ^ 32

-- a bound on the blocks that are still read: each holds a byte
abbrev pub most_reads : Link → ℕ
most_reads Broken = 0
most_reads Last = 0
most_reads (More at left) = suc left
