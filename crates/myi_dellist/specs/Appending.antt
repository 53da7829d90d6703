-- A row that is put behind a file's end: the bytes that it adds there, the blocks of the row one after the other.
use Rattle.std.specs.Prelude.{◌≡◌, ℕ, true, List, [], ◌∷◌, ◌++◌, length, take, drop, None}
use Rattle.myi_base.specs.Holding.{Holding, bytes_of}
use Rattle.myi_frames.specs.declared.write.FrameSpec.{FrameSpec}
use Rattle.myi_frames.specs.Writing.{block_bytes}
use Rattle.myi_dellist.specs.declared.pieces.Piece.{Piece}
use Rattle.myi_dellist.specs.Placing.{append_from, specs_of}
use Rattle.myi_dellist.specs.FreeList.{ListState}

-- the bytes of these blocks, each with the next of the row's bytes
abbrev pub bytes_in : List FrameSpec → List Piece → List ℕ → List ℕ
bytes_in [] ps row = []
bytes_in (f ∷ fs) [] row = []
bytes_in (f ∷ fs) (p ∷ ps) row = block_bytes f (take p.taken row) p.size ++ bytes_in fs ps (drop p.taken row)

-- the blocks of a row of so many bytes that is put behind an end
abbrev pub end_pieces : ℕ → ℕ → List Piece
end_pieces len end = append_from len len true len end

-- and their bytes
unfoldable pub end_bytes : ℕ → List ℕ → List ℕ
end_bytes end row = bytes_in (specs_of (length row) (end_pieces (length row) end)) (end_pieces (length row) end) row

-- the file has the blocks of a row behind what it held, and what is deleted stays
abbrev pub Appends : ListState → ListState → List ℕ → Holding → Holding → Type 0
Appends l k row m n = (bytes_of l.name n ≡ bytes_of l.name m ++ end_bytes l.end row) × (k.head ≡ l.head)

-- so does a row that is put where it is to go, if nothing is deleted
abbrev pub AppendsNew : ListState → ListState → List ℕ → Holding → Holding → Type 0
AppendsNew l k row m n = l.head ≡ None → Appends l k row m n
