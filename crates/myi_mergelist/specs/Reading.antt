-- How the lines of a MERGE list are read.
use Rattle.std.specs.Prelude.{ℕ, List, [], ◌∷◌, codes, bytes_eq, if◌then◌else◌, Option, Some, None}
use Rattle.myi_mergelist.specs.declared.list.InsertMethod.{InsertMethod}
use Rattle.myi_mergelist.specs.declared.list.InsertMethod.TheVariants.{First, Last}

-- where rows are inserted, by a line and what the lines before it say
abbrev pub method_after : List ℕ → Option InsertMethod → Option InsertMethod
method_after l before =
    if bytes_eq l (codes "#INSERT_METHOD=FIRST") then Some First
    else if bytes_eq l (codes "#INSERT_METHOD=LAST") then Some Last
    else if bytes_eq l (codes "#INSERT_METHOD=NO") then None
    else before

-- where rows are inserted, by these lines and what the lines before them say
abbrev pub method_of : Option InsertMethod → List (List ℕ) → Option InsertMethod
method_of before [] = before
method_of before (l ∷ ls) = method_of (method_after l before) ls
