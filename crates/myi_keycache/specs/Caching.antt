-- A key cache over one file, what the files hold beside it, and how a call changes both.
use Rattle.std.specs.Prelude.{◌≡◌, ◌⊎◌, ◌||◌, ◌+◌, ℕ, true, false, nat_lt, List, ◌++◌, length, map, slice_get, All, AllPairs, Option, Some, None, IfSome, MatchOption, Result, Ok, Err, OnOk, OnErr, if◌then◌else◌}
use Rattle.std.specs.Option.{option_len}
use Rattle.myi_base.specs.Ranges.{are_apart}
use Rattle.myi_base.specs.Holding.{Holding, bytes_of, overwritten, IfTold, Told, Writes, WritesPart, OthersStay}
use Rattle.myi_keycache.specs.declared.setup.CacheSetup.{CacheSetup}
use Rattle.myi_keycache.specs.declared.setup.Counters.{Counters}
use Rattle.myi_keycache.specs.Midpoint.{Listed, Lists, midpoint}
use Rattle.myi_keycache.specs.Kept.{Page, KeptPage, range_of, kept, is_kept, is_unwritten, NoOtherMeets, AddsOnly, SameKept, SameUnwritten, KeepsBytes, KeepsFlags, ChangesNone}
use Rattle.myi_keycache.specs.Lent.{bytes_at, Has, lent, flushed}
use Rattle.myi_keycache.specs.Counts.{raised, gets_counted}

-- a key cache: the name of its file, its setup, the pages that it keeps on two lists, the number of accesses, and its counters
pub record Caching : Type 0 where
  pub name : List ℕ
  pub setup : CacheSetup
  pub warm : List KeptPage
  pub hot : List KeptPage
  pub accesses : ℕ
  pub counters : Counters

-- the pages that the cache keeps
abbrev pub pages_of : Caching → List Page
pages_of cache = map (λ (b : KeptPage). b.page) (cache.warm ++ cache.hot)

-- a page that is kept, without its bytes
abbrev pub listed_as : KeptPage → Listed
listed_as b = record { at = b.page.at; len = length b.page.bytes; hits = b.hits; last = b.last }

-- the lists of the cache's pages
abbrev pub lists_of : Caching → Lists
lists_of cache = record { warm = map listed_as cache.warm; hot = map listed_as cache.hot; accesses = cache.accesses }

-- The call was an access to a page, and the lists are as after it. A call that is refused is none.
abbrev pub IsAccess : {T E : Type 0} → Result T E → ℕ → ℕ → Caching → Caching → Type 0
IsAccess (Ok answer) at len old new = lists_of new ≡ midpoint old.setup (lists_of old) at len
IsAccess (Err e) at len old new = lists_of new ≡ lists_of old

-- a page, where the file has yet to get it
abbrev pub if_unwritten : Option Page → Option Page
if_unwritten None = None
if_unwritten (Some page) = if page.unwritten then Some page else None

-- The page that leaves in an access to the page of this place and length: none where that one is kept or a block is free, else the
-- first warm one, or the first hot one where none is warm.
abbrev pub leaving : Caching → ℕ → ℕ → Option Page
leaving cache at len =
    if is_kept (pages_of cache) at len || nat_lt (length (pages_of cache)) cache.setup.blocks then None
    else slice_get (pages_of cache) 0

-- the page that is to be written in this access: the one that leaves, where the file has yet to get it
unfoldable pub due : Caching → ℕ → ℕ → Option Page
due cache at len = if_unwritten (leaving cache at len)

-- All that a call writes is this page, at its place, and where it is refused no more than a part of it. Where there is none, the
-- files hold what they held.
pub record WritesOne {T E : Type 0} (before after : Option Holding) (name : List ℕ) (page : Option Page) (result : Result T E) : Type 0 where
  pub none : page ≡ None → after ≡ before
  pub ok : OnOk result (IfSome page (λ p. Told before after (Writes name p.at p.bytes)))
  pub err : OnErr result (IfSome page (λ p. Told before after (WritesPart name p.at p.bytes)))

-- this page was written whole: it was counted, and is unwritten no more
pub record IsWrittenOut (before after : Option Holding) (page : Page) (old new : Caching) : Type 0 where
  pub file : Told before after (Writes old.name page.at page.bytes)
  pub counted : new.counters.writes ≡ raised 1 old.counters.writes
  pub flag : is_unwritten (pages_of new) page.at (length page.bytes) ≡ false

-- The same pages are unwritten and none was counted, or the page that was to be written was written whole.
abbrev pub AllOrNone : Option Holding → Option Holding → Option Page → Caching → Caching → Type 0
AllOrNone before after page old new =
    (SameUnwritten (pages_of old) (pages_of new) × (new.counters.writes ≡ old.counters.writes))
    ⊎ ((x : Page) × (page ≡ Some x) × IsWrittenOut before after x old new)

-- what the cache lends of a range, where the files hold this
abbrev pub lends : Caching → Holding → ℕ → ℕ → Option (List ℕ)
lends cache m at len = lent (pages_of cache) (bytes_of cache.name m) at len

-- the cache's file with all puts, where the files hold this
abbrev pub contents : Caching → Holding → List ℕ
contents cache m = flushed (pages_of cache) (bytes_of cache.name m)

abbrev pub IsClean : List ℕ → Page → Type 0
IsClean file page = page.unwritten ≡ false → bytes_at file page.at (length page.bytes) ≡ Some page.bytes

-- an unwritten page meets no other page
abbrev pub ArePlaced : Page → Page → Type 0
ArePlaced p q = (p.unwritten ≡ true) ⊎ (q.unwritten ≡ true) → are_apart (range_of p) (range_of q) ≡ true

-- the cache's file is as the last call of the cache left it: it has the bytes of each page but the unwritten
-- ones, which meet no other page that is kept
pub record IsCurrent (cache : Caching) (m : Holding) : Type 0 where
  pub clean : All (IsClean (bytes_of cache.name m)) (pages_of cache)
  pub placed : AllPairs ArePlaced (pages_of cache)

-- where the files hold this, a page of this range may be asked for: no other unwritten page has a part of it
pub record CanGet (cache : Caching) (m : Holding) (at len : ℕ) : Type 0 where
  pub current : IsCurrent cache m
  pub apart : NoOtherMeets (is_unwritten (pages_of cache)) at len

-- what the cache lends of a range that may be asked for
abbrev pub IsLent : Caching → ℕ → ℕ → Option (List ℕ) → Holding → Type 0
IsLent cache at len page m = CanGet cache m at len → lends cache m at len ≡ page

-- What is read of a range, whatever the file is: the bytes of its page where that is kept, else what the file has, where it is
-- told.
abbrev pub IsRead : Option Holding → Caching → ℕ → ℕ → Option (List ℕ) → Type 0
IsRead told cache at len bytes = MatchOption (kept (pages_of cache) at len) (IfTold told (Has cache.name at len bytes)) (λ x. bytes ≡ Some x)

-- where the files hold this, a page may be put there: no other page that is kept has a part of the range
pub record CanPut (cache : Caching) (m : Holding) (at len : ℕ) : Type 0 where
  pub current : IsCurrent cache m
  pub apart : NoOtherMeets (is_kept (pages_of cache)) at len

-- what was lent of a range is lent of it afterwards
abbrev pub SameLent : Caching → Holding → Caching → Holding → Type 0
SameLent old m new n = (p len : ℕ) (x : List ℕ) → lends old m p len ≡ Some x → lends new n p len ≡ Some x

-- the same of each range that has no byte of this one
abbrev pub SameApart : ℕ → ℕ → Caching → Holding → Caching → Holding → Type 0
SameApart at size old m new n = (p len : ℕ) (x : List ℕ) → are_apart (p, p + len) (at, at + size) ≡ true
    → lends old m p len ≡ Some x → lends new n p len ≡ Some x

-- nothing was put: the same is lent, and the file with all puts is the same
pub record Stays (old new : Caching) (m n : Holding) : Type 0 where
  pub current : IsCurrent new n
  pub lent : SameLent old m new n
  pub contents : contents new n ≡ contents old m

-- a page was put: it is lent, of other ranges the same is lent, and the file with all puts has its bytes
pub record Puts (at : ℕ) (bytes : List ℕ) (old new : Caching) (m n : Holding) : Type 0 where
  pub current : IsCurrent new n
  pub there : lends new n at (length bytes) ≡ Some bytes
  pub lent : SameApart at (length bytes) old m new n
  pub contents : contents new n ≡ overwritten at bytes (contents old m)

-- all unwritten pages were written: the file is the one with all puts
pub record Flushes (old new : Caching) (m n : Holding) : Type 0 where
  pub current : IsCurrent new n
  pub lent : SameLent old m new n
  pub file : bytes_of old.name n ≡ contents old m

-- The cache after a call of get. The page is kept as it was read, no page has other bytes or became unwritten, each but the one
-- that is to be written is unwritten where it was, and after a refusal the same pages are kept.
pub record Gets {T E : Type 0} (before after : Option Holding) (at len : ℕ) (result : Result T E) (old new : Caching) : Type 0 where
  pub name : new.name ≡ old.name
  pub setup : new.setup ≡ old.setup
  pub access : IsAccess result at len old new
  pub added : AddsOnly at len (pages_of old) (pages_of new)
  pub there : OnOk result (IsRead before old at len (kept (pages_of new) at len))
  pub bytes : KeepsBytes (pages_of old) (pages_of new)
  pub unwritten : ChangesNone (pages_of old) (pages_of new)
  pub refused : OnErr result (SameKept (pages_of old) (pages_of new))
  pub counters : new.counters ≡ gets_counted result at len (pages_of old) (pages_of new) old.counters
  pub written : OnOk result (new.counters.writes ≡ raised (option_len (due old at len)) old.counters.writes)
  pub flags : KeepsFlags (due old at len) (pages_of old) (pages_of new)
  pub refusal : OnErr result (AllOrNone before after (due old at len) old new)
  pub others : Told before after (OthersStay old.name)
  pub told : Told before after (λ m n. CanGet old m at len → Stays old new m n)
