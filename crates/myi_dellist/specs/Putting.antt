-- A row that is put into the deleted blocks from the head of the list, behind blocks of its own that it fills, by what stands in
-- the file: what is written, or what refuses it.
use Rattle.std.specs.Prelude.{◌≡◌, ℕ, ◌≤◌, ◌⊎◌, true, List, [], ◌∷◌, ◌++◌, length, Option, Some, None, Ok, Err}
use Rattle.myi_base.specs.Holding.{Holding, bytes_of, OthersStay}
use Rattle.myi_frames.specs.declared.head.Head.{Head}
use Rattle.myi_dellist.specs.declared.pieces.Piece.{Piece}
use Rattle.myi_dellist.specs.declared.planning.RowPlan.{RowPlan}
use Rattle.myi_dellist.specs.declared.taking.Taken.{Taken}
use Rattle.myi_dellist.specs.declared.taking.ListEnds.{ListEnds}
use Rattle.myi_dellist.specs.Areas.{Area}
use Rattle.myi_dellist.specs.Placing.{append_from, end_behind, is_none, fits}
use Rattle.myi_dellist.specs.Taking.{IsRun, TakesFull, MeetsBad}
use Rattle.myi_dellist.specs.FreeList.{ListState}
use Rattle.myi_dellist.specs.Rows.{most_end, row_written}
use Rattle.myi_dellist.specs.Planning.{last_piece, row_plan_in, planned_bytes, head_by, more_by}

-- the list ends before the row does, and the rest goes behind the file's end
pub record EndsBehind (end : ℕ) (ps : List Piece) (t : Taken) (row : List ℕ) (new : ListEnds) (d e : List ℕ) : Type 0 where
  pub none : t.next ≡ None
  pub bytes : e ≡ row_written (ps ++ append_from t.left (length row) (is_none ps) t.left end) row d
  pub head_is : new.head ≡ None
  pub end_is : new.end ≡ end_behind end (append_from t.left (length row) (is_none ps) t.left end)

-- the row ends in a block of the list
pub record EndsIn (head : Option ℕ) (end : ℕ) (ps : List Piece) (t : Taken) (row : List ℕ) (new : ListEnds) (d e : List ℕ) : Type 0 where
  pub hole : Head
  pub next_is : t.next ≡ Some hole
  pub fits_in : fits t.left hole.size ≡ true
  pub plan : RowPlan
  pub found : row_plan_in d head ps t.left hole ≡ Ok plan
  pub bytes : e ≡ planned_bytes plan (ps ++ last_piece t.left hole ∷ []) row d
  pub head_is : new.head ≡ head_by plan.next plan.rest
  pub end_is : new.end ≡ end

-- the row's blocks are written behind own blocks that it fills, and the list is that of what it takes
pub record PutsIn (own : List Area) (name : List ℕ) (l : ListEnds) (row : List ℕ) (new : ListEnds) (m n : Holding) : Type 0 where
  pub ps : List Piece
  pub t : Taken
  pub run : IsRun l.end (length row) ps t
  pub takes : TakesFull own (bytes_of name m) l.head (length row) ps t
  pub ends : EndsBehind l.end ps t row new (bytes_of name m) (bytes_of name n) ⊎ EndsIn l.head l.end ps t row new (bytes_of name m) (bytes_of name n)

abbrev pub PutsBy : List Area → List ℕ → ListEnds → List ℕ → ListEnds → Holding → Holding → Type 0
PutsBy own name l row new m n = OthersStay name m n × (length (bytes_of name m) ≡ l.end → PutsIn own name l row new m n)

abbrev pub Puts : List ℕ → ListEnds → List ℕ → ListEnds → Holding → Holding → Type 0
Puts name l row new m n = PutsBy [] name l row new m n

-- ---- how many blocks that takes and leaves

-- the list ends before the row does: it takes all of it
pub record CountsBehind (end len : ℕ) (ps : List Piece) (t : Taken) (qs : List Piece) (taken more : ℕ) : Type 0 where
  pub none : t.next ≡ None
  pub pieces : qs ≡ ps ++ append_from t.left len (is_none ps) t.left end
  pub taken_is : taken ≡ length ps
  pub more_is : more ≡ 0

-- the row ends in a block of the list
pub record CountsIn (d : List ℕ) (head : Option ℕ) (ps : List Piece) (t : Taken) (qs : List Piece) (taken more : ℕ) : Type 0 where
  pub hole : Head
  pub next_is : t.next ≡ Some hole
  pub fits_in : fits t.left hole.size ≡ true
  pub plan : RowPlan
  pub found : row_plan_in d head ps t.left hole ≡ Ok plan
  pub pieces : qs ≡ ps ++ last_piece t.left hole ∷ []
  pub taken_is : taken ≡ length qs
  pub more_is : more ≡ more_by plan.rest

-- a row of so many bytes in these blocks has so many that stood before, its own and those of the list, and leaves so many more on the list
pub record PutCounts (own : List Area) (d : List ℕ) (l : ListEnds) (len : ℕ) (qs : List Piece) (taken more : ℕ) : Type 0 where
  pub ps : List Piece
  pub t : Taken
  pub run : IsRun l.end len ps t
  pub takes : TakesFull own d l.head len ps t
  pub ends : CountsBehind l.end len ps t qs taken more ⊎ CountsIn d l.head ps t qs taken more

-- ---- what refuses it

-- behind the blocks that it fills, a block that is read is not what the list needs there
pub record PlanBad (own : List Area) (d : List ℕ) (head : Option ℕ) (len at : ℕ) : Type 0 where
  pub ps : List Piece
  pub t : Taken
  pub takes : TakesFull own d head len ps t
  pub hole : Head
  pub next_is : t.next ≡ Some hole
  pub fits_in : fits t.left hole.size ≡ true
  pub bad : row_plan_in d head ps t.left hole ≡ Err at

-- the first block that is not what the list needs stands at this place
abbrev pub BadBy : List Area → List ℕ → Option ℕ → ℕ → ℕ → Type 0
BadBy own d head len at = MeetsBad own d head len at ⊎ PlanBad own d head len at

abbrev pub PutBad : List ℕ → Option ℕ → ℕ → ℕ → Type 0
PutBad d head len at = BadBy [] d head len at

-- the list ends before the row does, and the file's end would not stay below a place
pub record LongBy (own : List Area) (d : List ℕ) (head : Option ℕ) (end below len : ℕ) : Type 0 where
  pub ps : List Piece
  pub t : Taken
  pub takes : TakesFull own d head len ps t
  pub none : t.next ≡ None
  pub long : below ≤ end_behind end (append_from t.left len (is_none ps) t.left end)

abbrev pub PutLong : List ℕ → Option ℕ → ℕ → ℕ → ℕ → Type 0
PutLong d head end below len = LongBy [] d head end below len

-- ---- in the words of a list

abbrev pub ends_of : ListState → ListEnds
ends_of l = record { head = l.head; end = l.end }

abbrev pub PutFindsBad : ListState → ℕ → ℕ → Holding → Type 0
PutFindsBad l len at m = PutBad (bytes_of l.name m) l.head len at

abbrev pub PutIsLong : ListState → ℕ → Holding → Type 0
PutIsLong l len m = PutLong (bytes_of l.name m) l.head l.end (most_end l) len
