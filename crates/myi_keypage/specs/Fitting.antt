-- How many bytes the entries of a page take.
use Rattle.std.specs.Prelude.{ℕ, ◌+◌, Bool, List, [], ◌∷◌, length, if◌then◌else◌}
use Rattle.myi_keypage.specs.declared.entry.Entry.{Entry}
use Rattle.myi_keypage.specs.Page.{entry_bytes}

-- how many bytes entries behind a key take, with a child after each in a node
abbrev pub entries_length : ℕ → Bool → List ℕ → List Entry → ℕ
entries_length rec_ref node before [] = 0
entries_length rec_ref node before (e ∷ es) = length (entry_bytes rec_ref before e) + (if node then 7 else 0) + entries_length rec_ref node e.key es

-- the used length of a page with these entries, as a leaf or as a node
abbrev pub used_length : ℕ → Bool → List Entry → ℕ
used_length rec_ref node es = 2 + (if node then 7 else 0) + entries_length rec_ref node [] es
