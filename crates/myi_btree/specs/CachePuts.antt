-- What a put of a page does to a key cache and the files behind it.
use Rattle.std.specs.Prelude.{◌≡◌, ◌≤◌, ℕ, List, length, Option}
use Rattle.myi_base.specs.Causes.{Rose}
use Rattle.myi_base.specs.Holding.{Holding, Told, OthersStay}
use Rattle.myi_keycache.specs.Kept.{AddsOnly}
use Rattle.myi_keycache.specs.Caching.{pages_of, Caching}
use Rattle.myi_btree.specs.declared.fault.TreeFault.{TreeFault}
use Rattle.myi_btree.specs.declared.fault.TreeFault.TheVariants.{File}
use Rattle.myi_btree.specs.Faults.{IsFileOrMemory}
use Rattle.myi_btree.specs.Building.{MayPut, NotPut, PutsOnly, CountsPuts}

-- what files tell: what they hold, and how many calls failed and how many reads were made
pub record Telling : Type 0 where
  pub holds : Option Holding
  pub faults : ℕ
  pub reads : ℕ

abbrev pub telling : Option Holding → ℕ → ℕ → Telling
telling holds faults reads = record { holds = holds; faults = faults; reads = reads }

-- what holds after each put of a page of so many bytes, whatever its answer
pub record PutsAnyhow (at len : ℕ) (before : Telling) (old : Caching) (after : Telling) (new : Caching) : Type 0 where
  pub added : AddsOnly at len (pages_of old) (pages_of new)
  pub name : new.name ≡ old.name
  pub only : PutsOnly old new
  pub others : Told before.holds after.holds (OthersStay old.name)
  pub later : before.faults ≤ after.faults
  pub reads : after.reads ≡ before.reads

-- a page was put
pub record CachePuts (at : ℕ) (page : List ℕ) (before : Telling) (old : Caching) (after : Telling) (new : Caching) : Type 0 where
  pub put : Told before.holds after.holds (MayPut at page old new)
  pub counted : CountsPuts 1 old new
  pub anyhow : PutsAnyhow at (length page) before old after new

-- a put was refused
pub record CacheRefuses (at : ℕ) (page : List ℕ) (fault : TreeFault) (before : Telling) (old : Caching) (after : Telling) (new : Caching) : Type 0 where
  pub not : Told before.holds after.holds (NotPut old new)
  pub faults : IsFileOrMemory fault
  pub cause : fault ≡ File → Rose before.faults after.faults
  pub anyhow : PutsAnyhow at (length page) before old after new
