-- An empty table that is made from a creating text: what the text stands for, and what its files hold then (the text is
-- this project's own).
use Rattle.std.specs.Prelude.{◌≡◌, ◌≢◌, ◌⊎◌, ℕ, List, [], Option, Some, None, Result, Ok, Err}
use Rattle.myi_base.specs.Holding.{Holding, IfTold}
use Rattle.myi_defs.specs.declared.types.Defs.{Defs}
use Rattle.myi_deftext.specs.declared.parse.TextFault.{TextFault}
use Rattle.myi_deftext.specs.declared.parse.TextFault.TheVariants as text
use Rattle.myi_deftext.specs.ParseText.{parse_text}
use Rattle.myi_defs.specs.EmptyTable.{empty_header}
use Rattle.myi_create.specs.declared.fault.CreateFault.{CreateFault}
use Rattle.myi_create.specs.declared.fault.CreateFault.TheVariants.{Absent, Line, Def, File, Memory}
use Rattle.myi_create.specs.Names.{ThreeNames, names_for}

-- the fault that one of the text is
abbrev pub fault_of : TextFault → CreateFault
fault_of (text.Line n) = Line n
fault_of (text.Def f) = Def f
fault_of text.Memory = Memory

abbrev pub by_text : Result Defs TextFault → Result Defs CreateFault
by_text (Ok d) = Ok d
by_text (Err f) = Err (fault_of f)

-- the definitions that the text of a file stands for, or why there are none
abbrev pub definitions_of : Option (List ℕ) → Result Defs CreateFault
definitions_of None = Err Absent
definitions_of (Some bytes) = by_text (parse_text bytes)

abbrev pub definitions_in : List ℕ → Holding → Result Defs CreateFault
definitions_in file m = definitions_of (m file)

-- the data file is empty, the index file is this header, there is no working file, and all other files stay
pub record Makes (t : ThreeNames) (header : List ℕ) (m n : Holding) : Type 0 where
  pub rows : n t.rows ≡ Some []
  pub index : n t.index ≡ Some header
  pub working : n t.new_index ≡ None
  pub others : (q : List ℕ) → q ≢ t.rows → q ≢ t.index → q ≢ t.new_index → n q ≡ m q

-- the files were put in part: the index file stays, the data file stays or is empty, and all others but the working file stay
pub record PutsPart (t : ThreeNames) (m n : Holding) : Type 0 where
  pub rows : (n t.rows ≡ m t.rows) ⊎ (n t.rows ≡ Some [])
  pub index : n t.index ≡ m t.index
  pub others : (q : List ℕ) → q ≢ t.rows → q ≢ t.index → q ≢ t.new_index → n q ≡ m q

-- the text of this file stands for definitions
abbrev pub IsText : List ℕ → Holding → Type 0
IsText file m = (d : Defs) × (definitions_in file m ≡ Ok d)

-- it was cut off: so are the files, and the data file stays where the text stands for no definitions
pub record MakesPart (t : ThreeNames) (file : List ℕ) (m n : Holding) : Type 0 where
  pub rows : (n t.rows ≡ m t.rows) ⊎ ((n t.rows ≡ Some []) × IsText file m)
  pub index : n t.index ≡ m t.index
  pub others : (q : List ℕ) → q ≢ t.rows → q ≢ t.index → q ≢ t.new_index → n q ≡ m q

-- a table of this name is made from the text of this file
pub record Creates (name file : List ℕ) (m n : Holding) : Type 0 where
  pub defs : Defs
  pub stands_for : definitions_in file m ≡ Ok defs
  pub made : Makes (names_for name) (empty_header defs.raw) m n

-- a fault that is no refusal of the text
abbrev pub IsCutOff : CreateFault → Type 0
IsCutOff fault = (fault ≡ File) ⊎ (fault ≡ Memory)

-- the text of this file is refused for this reason, and nothing is changed
pub record IsRefused (file : List ℕ) (fault : CreateFault) (old new : Option Holding) : Type 0 where
  pub reason : IfTold old (λ m. definitions_in file m ≡ Err fault)
  pub same : new ≡ old
