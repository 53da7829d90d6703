-- What a flush writes, whatever the file holds: the unwritten pages in order of place, and where it is refused a first part of them.
use Rattle.std.specs.Prelude.{◌≡◌, ℕ, List, [], ◌∷◌, ◌++◌, length, filter, fold, Option, Result, OnOk, OnErr}
use Rattle.std.specs.List.Sorted.{IsPermutation, IsNonDecreasingBy}
use Rattle.myi_base.specs.Holding.{Holding, bytes_of, overwritten, Keeps, Sets, Told, WritesPart}
use Rattle.myi_keycache.specs.Kept.{Page, SameUnwritten}
use Rattle.myi_keycache.specs.Counts.{raised}
use Rattle.myi_keycache.specs.Caching.{Caching, pages_of}

-- the pages that the file has yet to get
abbrev pub unwritten_of : List Page → List Page
unwritten_of pages = filter (λ page. page.unwritten) pages

-- these are the pages that the file has yet to get, in order of place
pub record AreInTurn (pages turn : List Page) : Type 0 where
  pub all : IsPermutation (unwritten_of pages) turn
  pub in_order : IsNonDecreasingBy (λ page. page.at) turn

-- a file after these pages were written to it, one after the other
abbrev pub after_writes : List Page → List ℕ → List ℕ
after_writes pages file = fold (λ bytes page. overwritten page.at page.bytes bytes) file pages

-- these pages are written to the file, one after the other, and nothing else is; where there are none, nothing is
abbrev pub WritesEach : List ℕ → List Page → Holding → Holding → Type 0
WritesEach name [] m n = Keeps m n
WritesEach name (page ∷ pages) m n = Sets name (after_writes (page ∷ pages) (bytes_of name m)) m n

-- no more than a part of the first of these pages is written
abbrev pub WritesPartOfFirst : List ℕ → List Page → Holding → Holding → Type 0
WritesPartOfFirst name [] m n = Keeps m n
WritesPartOfFirst name (page ∷ pages) m n = WritesPart name page.at page.bytes m n

-- Of the unwritten pages, in order of place, some are done and the rest is still unwritten. The files got those that are done,
-- and after a refusal no more than a part of the next one. Where the call is Ok there is no rest.
pub record FlushWrites {T E : Type 0} (before after : Option Holding) (result : Result T E) (old new : Caching) : Type 0 where
  pub done : List Page
  pub rest : List Page
  pub turn : AreInTurn (pages_of old) (done ++ rest)
  pub unwritten : SameUnwritten rest (pages_of new)
  pub counted : new.counters.writes ≡ raised (length done) old.counters.writes
  pub all : OnOk result (rest ≡ [])
  pub ok : OnOk result (Told before after (WritesEach old.name done))
  pub err : OnErr result (Told before after (λ m n. (k : Holding) × WritesEach old.name done m k × WritesPartOfFirst old.name rest k n))
