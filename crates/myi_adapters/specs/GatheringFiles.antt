-- What an object that gathers writes shows, by what the files below it hold and count.
use Rattle.std.specs.Prelude.{◌≡◌, ◌≤◌, ◌+◌, ◌⊎◌, ℕ, List, Option}
use Rattle.myi_base.specs.Holding.{Holding}
use Rattle.myi_adapters.specs.declared.gathering.Gathering.{Gathering}
use Rattle.myi_io.specs.declared.files.Files.{Ghosts}
use Rattle.myi_io.specs.declared.reader.FileReader as reader
use Rattle.myi_adapters.specs.Gathering.{pending_shown, IsFor}

-- what is told, with the gathered writes done
abbrev pub told_with : {F R : Type 0} → {g : Ghosts F R} → {h : reader.Ghosts R} → Gathering F R g h → Option Holding → Option Holding
told_with s told = pending_shown s.pending told

-- the faults that it counted itself
abbrev pub own_faults : {F R : Type 0} → {g : Ghosts F R} → {h : reader.Ghosts R} → Gathering F R g h → ℕ
own_faults s = s.faults

-- those and the faults of the files below
abbrev pub faults_with : {F R : Type 0} → {g : Ghosts F R} → {h : reader.Ghosts R} → Gathering F R g h → ℕ → ℕ
faults_with s below = below + s.faults

-- it counted none itself
abbrev pub SameOwn : {F R : Type 0} → {g : Ghosts F R} → {h : reader.Ghosts R} → Gathering F R g h → Gathering F R g h → Type 0
SameOwn old new = own_faults new ≡ own_faults old

-- it counted none itself, or one, and then writes to this file were gathered
pub record CountsOwn {F R : Type 0} {g : Ghosts F R} {h : reader.Ghosts R} (old : Gathering F R g h) (name : List ℕ) (new : Gathering F R g h) : Type 0 where
  pub few : own_faults new ≤ own_faults old + 1
  pub gathered : SameOwn old new ⊎ IsFor old.pending name
