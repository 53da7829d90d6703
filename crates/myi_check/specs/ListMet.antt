-- A walk along the list of deleted blocks: which of them it has not met, and what a deleted block says of the list.
use Rattle.std.specs.Prelude.{◌≡◌, ℕ, Bool, true, false, List, [], ◌∷◌, Option}
use Rattle.myi_defs.specs.declared.types.Defs.{Defs}
use Rattle.myi_pair.specs.Clean.{next_deleted}
use Rattle.myi_pair.specs.Findings.{names_before}
use Rattle.myi_check.specs.declared.link.Link.{Link}

-- the places that are left to be met: those whose flag is not set
abbrev pub unmet : List ℕ → List Bool → List ℕ
unmet [] flags = []
unmet (p ∷ ps) [] = []
unmet (p ∷ ps) (true ∷ flags) = unmet ps flags
unmet (p ∷ ps) (false ∷ flags) = p ∷ unmet ps flags

-- what the deleted block at a place of a data file says of the list, where another one stands before it
pub record IsLinkAt (d : Defs) (rows : List ℕ) (p : ℕ) (before : Option ℕ) (link : Link) : Type 0 where
  pub named : link.named ≡ names_before d rows p before
  pub next : link.next ≡ next_deleted d rows p
