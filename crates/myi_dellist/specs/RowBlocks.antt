-- The blocks of a placed row, and that they are one chain (MySQL Internals Manual, "MyISAM Dynamic Data File Layout": each
-- part of a row names the next).
use Rattle.std.specs.Prelude.{◌≡◌, ℕ, ◌<◌, List, [], ◌∷◌, length, take, drop, Option, Some, None}
use Rattle.std.specs.List.{AllByRecursion, flat_map}
use Rattle.myi_frames.specs.declared.write.FrameSpec.{FrameSpec}
use Rattle.myi_frames.specs.declared.form.FrameKind.TheVariants.{Whole, Start, Middle, End}
use Rattle.myi_frames.specs.Block.{Block}
use Rattle.myi_frames.specs.Writing.{written_block}
use Rattle.myi_dellist.specs.declared.pieces.Piece.{Piece}
use Rattle.myi_dellist.specs.Placing.{specs_of}

-- each takes the next of the row's bytes
abbrev pub blocks_as : List FrameSpec → List Piece → List ℕ → List Block
blocks_as [] ps row = []
blocks_as (f ∷ fs) [] row = []
blocks_as (f ∷ fs) (p ∷ ps) row = written_block f p.at p.size (take p.taken row) ∷ blocks_as fs ps (drop p.taken row)

-- the blocks of a row that is put there
abbrev pub row_blocks : List Piece → List ℕ → List Block
row_blocks ps row = blocks_as (specs_of (length row) ps) ps row

-- the blocks behind the first: middles, each at the place that the block before it names, and an end
abbrev pub AreNamed : Option ℕ → List Block → Type 0
AreNamed link [] = ⊥
AreNamed link (b ∷ []) = (link ≡ Some b.at) × (b.kind ≡ End) × (b.next ≡ None)
AreNamed link (b ∷ c ∷ bs) = (link ≡ Some b.at) × (b.kind ≡ Middle) × AreNamed b.next (c ∷ bs)

-- a whole row alone, or a start and the blocks behind it
abbrev pub AreLinked : Option ℕ → List Block → Type 0
AreLinked place [] = ⊥
AreLinked place (b ∷ []) = (place ≡ Some b.at) × (b.kind ≡ Whole) × (b.next ≡ None)
AreLinked place (b ∷ c ∷ bs) = (place ≡ Some b.at) × (b.kind ≡ Start) × AreNamed b.next (c ∷ bs)

-- how many row bytes the first block says that the row has
abbrev pub said_len : List Block → ℕ
said_len [] = 0
said_len (b ∷ bs) = b.rec_len

-- blocks that hold a row, from a place on
pub record HoldRow (place : Option ℕ) (row : List ℕ) (bs : List Block) : Type 0 where
  pub linked : AreLinked place bs
  pub filled : AllByRecursion (λ b. 0 < length b.bytes) bs
  pub said : said_len bs ≡ length row
  pub bytes : flat_map (λ b. b.bytes) bs ≡ row
