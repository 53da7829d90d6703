-- The sections of a check: the header, the list of deleted blocks, the trees of the keys by their numbers, and the bytes of the
-- data file.
use Rattle.std.specs.Prelude.{◌≤◌, ◌<◌, ◌+◌, ℕ, List, [], ◌∷◌}
use Rattle.myi_pair.specs.declared.finding.Finding.{Finding}
use Rattle.myi_pair.specs.declared.finding.Finding.TheVariants as finding

-- the section of a finding, by a number; no key has the number 255
abbrev pub section_of : Finding → ℕ
section_of (finding.Header item) = 0
section_of (finding.Deleted at) = 1
section_of (finding.Key key at) = 1 + key
section_of (finding.Rows at) = 256

-- the findings are of sections from one on and before another, in their order, at most one of each
abbrev pub AreInOrder : ℕ → ℕ → List Finding → Type 0
AreInOrder low high [] = low ≤ high
AreInOrder low high (f ∷ fs) = (low ≤ section_of f) × (section_of f < high) × AreInOrder (section_of f + 1) high fs

-- there is at most one finding of each section, in the order of the sections
abbrev pub AreInSections : List Finding → Type 0
AreInSections fs = AreInOrder 0 257 fs
