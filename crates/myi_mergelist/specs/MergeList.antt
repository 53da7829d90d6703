-- The text of a MERGE list, the file NAME.MRG (MySQL Reference Manual, "The MERGE Storage Engine"): UTF-8, the names of
-- the tables a line each, and where rows are inserted (INSERT_METHOD).
use Rattle.std.specs.Prelude.{◌≡◌, ◌≢◌, ◌⊎◌, ◌<◌, ◌≤◌, ◌==◌, ℕ, Bool, false, not, List, [], ◌∷◌, ◌++◌, length, filter, codes, bytes_eq, Option, Some, None}
use Rattle.std.specs.List.{slice_split, AllByRecursion, IsDistinct}
use Rattle.std.specs.Str.{IsUtf8}
use Rattle.myi_mergelist.specs.declared.list.InsertMethod.{InsertMethod}
use Rattle.myi_mergelist.specs.declared.list.InsertMethod.TheVariants.{First, Last}

-- how many names a list may have
abbrev pub most_names : ℕ
most_names = 65535

-- The lines are what stands between line feeds, before the first and behind the last. So the last line may lack its
-- line feed, and an empty line stands behind it where it has one.
abbrev pub lines : List ℕ → List (List ℕ)
lines text = slice_split (λ b. b == 10) text

-- A line is a name, whole, where it is not empty and does not begin with `#`.
abbrev pub is_name : List ℕ → Bool
is_name [] = false
is_name (c ∷ cs) = not (c == 35)

-- the names of a text
abbrev pub names : List ℕ → List (List ℕ)
names text = filter is_name (lines text)

-- the line that says where rows are inserted: in the first table, in the last, or nowhere
abbrev pub method_line : Option InsertMethod → List ℕ
method_line (Some First) = codes "#INSERT_METHOD=FIRST"
method_line (Some Last) = codes "#INSERT_METHOD=LAST"
method_line None = codes "#INSERT_METHOD=NO"

-- a line says nothing of that
abbrev pub IsSilent : List ℕ → Type 0
IsSilent l = (m : Option InsertMethod) → l ≢ method_line m

-- the last of these lines that says where rows are inserted says this
pub record LastSays (ls : List (List ℕ)) (m : Option InsertMethod) : Type 0 where
  pub before : List (List ℕ)
  pub after : List (List ℕ)
  pub stands : ls ≡ before ++ method_line m ∷ after
  pub silent : AllByRecursion IsSilent after

-- where rows are inserted: where the last line says that says so, and nowhere where no line does
abbrev pub HasMethod : List (List ℕ) → Option InsertMethod → Type 0
HasMethod ls m = LastSays ls m ⊎ ((m ≡ None) × AllByRecursion IsSilent ls)

-- A text is a list with these names and this method: it has some names, not too many, and none of them twice.
pub record IsMergeList (text : List ℕ) (members : List (List ℕ)) (method : Option InsertMethod) : Type 0 where
  pub utf8 : IsUtf8 text
  pub names_are : members ≡ names text
  pub some : 0 < length members
  pub few : length members ≤ most_names
  pub once : IsDistinct bytes_eq members
  pub method_is : HasMethod (lines text) method

-- a text is no list
abbrev pub IsNoList : List ℕ → Type 0
IsNoList text = (members : List (List ℕ)) (method : Option InsertMethod) → IsMergeList text members method → ⊥
