-- How the refusals of the calls below are told.
use Rattle.std.specs.Prelude.{◌≡◌, Option, Some}
use Rattle.myi_btree.specs.declared.fault.TreeFault.{TreeFault}
use Rattle.myi_btree.specs.declared.fault.TreeFault.TheVariants as tree
use Rattle.myi_tablestate.specs.Keyed.{Holder}
use Rattle.myi_inserter.specs.declared.fault.InsertFault.{InsertFault}
use Rattle.myi_inserter.specs.declared.fault.InsertFault.TheVariants as fault

abbrev pub of_tree : TreeFault → InsertFault
of_tree (tree.Damaged at) = fault.Damaged at
of_tree tree.File = fault.File
of_tree tree.Memory = fault.Memory

-- nothing is damaged: a file call failed, or memory was wanting
abbrev pub IsCutOff : InsertFault → Type 0
IsCutOff (fault.Duplicate key at) = ⊥
IsCutOff fault.Full = ⊥
IsCutOff (fault.NoRoom need free) = ⊥
IsCutOff (fault.Damaged at) = ⊥
IsCutOff fault.File = Unit {0}
IsCutOff fault.Memory = Unit {0}

-- the files were asked for a page: nothing else is refused
abbrev pub IsOfSearch : InsertFault → Type 0
IsOfSearch (fault.Duplicate key at) = ⊥
IsOfSearch fault.Full = ⊥
IsOfSearch (fault.NoRoom need free) = ⊥
IsOfSearch (fault.Damaged at) = Unit {0}
IsOfSearch fault.File = Unit {0}
IsOfSearch fault.Memory = Unit {0}

-- the refusal names the row that has a key
abbrev pub IsHeldBy : Option Holder → InsertFault → Type 0
IsHeldBy holder (fault.Duplicate key at) = holder ≡ Some (key, at)
IsHeldBy holder fault.Full = ⊥
IsHeldBy holder (fault.NoRoom need free) = ⊥
IsHeldBy holder (fault.Damaged at) = ⊥
IsHeldBy holder fault.File = Unit {0}
IsHeldBy holder fault.Memory = Unit {0}

-- a row has the key, or a search failed
abbrev pub IsOfSearching : InsertFault → Type 0
IsOfSearching (fault.Duplicate key at) = Unit {0}
IsOfSearching fault.Full = ⊥
IsOfSearching (fault.NoRoom need free) = ⊥
IsOfSearching (fault.Damaged at) = Unit {0}
IsOfSearching fault.File = Unit {0}
IsOfSearching fault.Memory = Unit {0}
