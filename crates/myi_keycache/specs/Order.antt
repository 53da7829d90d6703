-- The pages of a key cache in one order: the warm list, and behind it the hot list.
use Rattle.std.specs.Prelude.{◌≡◌, ◌≤◌, ◌-◌, ◌*◌, ◌&&◌, ◌||◌, ℕ, zero, suc, Bool, true, false, nat_le, nat_lt, List, [], ◌∷◌, ◌++◌, length, map, filter, take, drop, position, slice_get, Option, Some, None, IfSome, Result, IfErr, OnOk, OnErr, if◌then◌else◌}
use Rattle.std.specs.List.{AllByRecursion}
use Rattle.std.specs.List.Sorted.{IsPermutation}
use Rattle.std.specs.Option.{option_len, option_map_or}
use Rattle.myi_keycache.specs.declared.setup.CacheSetup.{CacheSetup}
use Rattle.myi_keycache.specs.declared.setup.Counters.{Counters}
use Rattle.myi_keycache.specs.declared.setup.CacheFault.{CacheFault}
use Rattle.myi_keycache.specs.declared.setup.CacheFault.TheVariants.{Short}
use Rattle.myi_keycache.specs.declared.blocks.PageName.{PageName}
use Rattle.myi_keycache.specs.declared.blocks.Block.{Block}
use Rattle.myi_keycache.specs.Setup.{IsSetup}
use Rattle.myi_keycache.specs.Ring.{Linked}
use Rattle.myi_keycache.specs.Flushing.{unwritten_of}
use Rattle.myi_base.specs.Holding.{Holding, IfTold, Told, OthersStay}
use Rattle.myi_keycache.specs.Kept.{Page, KeptPage, is_page, kept, is_unwritten, SameKept, SameUnwritten, AddsOnly, KeepsOthers, KeepsFlags, KeepsOtherFlags, ChangesNone, AllWritten, unwritten_count}
use Rattle.myi_keycache.specs.Lent.{meets_unwritten, flushed}
use Rattle.myi_keycache.specs.Caching.{Caching, pages_of, listed_as, if_unwritten, due, WritesOne, AllOrNone, IsClean, ArePlaced, IsAccess, IsCurrent, IsLent, IsRead, CanPut, Puts, Stays, Gets}
use Rattle.myi_keycache.specs.Counts.{raised, puts_counted, flushes_counted}
use Rattle.myi_keycache.specs.Midpoint.{Lists}

-- the pages, how many of them are warm, and the number of accesses
pub record Order : Type 0 where
  pub setup : CacheSetup
  pub pages : List KeptPage
  pub warm : ℕ
  pub accesses : ℕ

abbrev pub contents_of : List KeptPage → List Page
contents_of pages = map (λ (p : KeptPage). p.page) pages

-- the two lists
abbrev pub lists_in : Order → Lists
lists_in order = record { warm = map listed_as (take order.warm order.pages); hot = map listed_as (drop order.warm order.pages); accesses = order.accesses }

-- the lists once an access is counted
abbrev pub counted_in : Order → Lists
counted_in order = record (lists_in order) { accesses = raised 1 order.accesses }

-- the page that a block has under its name
abbrev pub page_in : PageName × Block → KeptPage
page_in e = record { page = record { at = e.0.at; bytes = e.1.bytes.items; unwritten = e.1.unwritten }; hits = e.1.hits; last = e.1.last }

-- stands where there is no page
abbrev pub no_page : KeptPage
no_page = record { page = record { at = 0; bytes = []; unwritten = false }; hits = 0; last = 0 }

-- the page that the map has at an index
abbrev pub page_at : List (PageName × Block) → ℕ → KeptPage
page_at entries index = option_map_or page_in (slice_get entries index) no_page

-- the order of the pages whose indexes stand on the lists
abbrev pub ordered_by : CacheSetup → List (PageName × Block) → Linked → ℕ → Order
ordered_by setup entries lists accesses = record {
  setup = setup;
  pages = map (page_at entries) (lists.warm ++ lists.hot);
  warm = length lists.warm;
  accesses = accesses;
}

-- the length in the name is that of the bytes
abbrev pub IsStored : PageName × Block → Type 0
IsStored e = e.0.size ≡ length e.1.bytes.items

-- the page of that name
abbrev pub has_name : ℕ → ℕ → KeptPage → Bool
has_name at len p = is_page at len p.page

-- the page of a name stands at this index of the order
abbrev pub IsAt : Order → PageName → ℕ → Type 0
IsAt order name i = position (has_name name.at name.size) order.pages ≡ Some i

-- the page at an index, and those before and behind it
pub record Split (pages : List KeptPage) (index : ℕ) : Type 0 where
  pub front : List KeptPage
  pub page : KeptPage
  pub back : List KeptPage
  pub is : pages ≡ front ++ page ∷ back
  pub long : length front ≡ index

-- P holds of the page of a name and its index
abbrev pub AtName : Order → PageName → (ℕ → KeptPage → Type 0) → Type 0
AtName order name P = (i : ℕ) → IsAt order name i → (s : Split order.pages i) → P i s.page

-- the pages with another one at that index
abbrev pub with_page : {pages : List KeptPage} {index : ℕ} → Split pages index → KeptPage → List KeptPage
with_page s page = s.front ++ page ∷ s.back

-- a page that was hit: a warm page has one hit more
abbrev pub hit_page : Order → ℕ → KeptPage → KeptPage
hit_page order index p = record p { hits = if nat_lt index order.warm then raised 1 p.hits else p.hits; last = raised 1 order.accesses }

-- a page that was hit goes to the hot end: one that is hot, and a warm one with 3 hits where the warm list keeps its share
abbrev pub goes_hot : Order → ℕ → KeptPage → Bool
goes_hot order index p = nat_le order.warm index || (nat_le 3 (raised 1 p.hits) && nat_le (order.setup.division * order.setup.blocks) ((order.warm - 1) * 100))

abbrev pub page_of : ℕ → List ℕ → Bool → Page
page_of at bytes unwritten = record { at = at; bytes = bytes; unwritten = unwritten }

-- a page that was taken in at that access
abbrev pub new_page : ℕ → List ℕ → Bool → ℕ → KeptPage
new_page at bytes unwritten access = record { page = page_of at bytes unwritten; hits = 0; last = access }

-- the pages that stay where one is taken in: without the first, where all blocks are used
abbrev pub room_in : Order → List Page
room_in order = if nat_le order.setup.blocks (length order.pages) then drop 1 (contents_of order.pages) else contents_of order.pages

-- the page at an index, where the file has yet to get it
unfoldable pub unwritten_at : Order → ℕ → Option Page
unwritten_at order index = if_unwritten (slice_get (contents_of order.pages) index)

-- the page that is to be written before one is taken in: the first, where all blocks are used and it is unwritten
abbrev pub due_in : Order → Option Page
due_in order = if nat_le order.setup.blocks (length order.pages) then unwritten_at order 0 else None

-- the counters after this page was written, where there is one
abbrev pub counts_one : Option Page → Counters → Counters
counts_one page counts = record counts { writes = raised (option_len page) counts.writes }

-- R holds of each page and each later one
unfoldable pub Pairs : (Page → Page → Type 0) → List Page → Type 0
Pairs R [] = Unit {0}
Pairs R (p ∷ ps) = AllByRecursion (R p) ps × Pairs R ps

-- two pages have different names
abbrev pub Differ : Page → Page → Type 0
Differ p q = p.at ≡ q.at → length p.bytes ≡ length q.bytes → ⊥

-- the pages have different names, so many of them are warm, and there are no more than the cache may keep
pub record IsOrdered (order : Order) : Type 0 where
  pub setup : IsSetup order.setup
  pub differ : Pairs Differ (contents_of order.pages)
  pub warm : order.warm ≤ length order.pages
  pub few : length order.pages ≤ order.setup.blocks

-- the numbers below one
abbrev pub below : ℕ → List ℕ
below zero = []
below (suc n) = below n ++ n ∷ []

-- the same numbers in another order, and so those of them that pass a test
abbrev pub SameNumbers : List ℕ → List ℕ → Type 0
SameNumbers xs ys = (test : ℕ → Bool) → IsPermutation (filter test xs) (filter test ys)

-- each page of the map stands on one of the lists, once
pub record HoldsPages (setup : CacheSetup) (entries : List (PageName × Block)) (lists : Linked) (accesses : ℕ) : Type 0 where
  pub stored : AllByRecursion IsStored entries
  pub listed : SameNumbers (below (length entries)) (lists.warm ++ lists.hot)
  pub room : length entries ≤ lists.room
  pub ordered : IsOrdered (ordered_by setup entries lists accesses)

-- the same pages, in another order
pub record Alike (old new : List Page) : Type 0 where
  pub differ : Pairs Differ old → Pairs Differ new
  pub placed : Pairs ArePlaced old → Pairs ArePlaced new
  pub clean : (file : List ℕ) → AllByRecursion (IsClean file) old → AllByRecursion (IsClean file) new
  pub kept : Pairs Differ old → SameKept old new
  pub unwritten : SameUnwritten old new
  pub count : unwritten_count new ≡ unwritten_count old
  pub meets : (at len : ℕ) → meets_unwritten new at len ≡ meets_unwritten old at len
  pub flushed : Pairs ArePlaced old → (file : List ℕ) → flushed new file ≡ flushed old file

-- the cache of a file, with its pages in one order
abbrev pub cache_of : List ℕ → Order → Counters → Caching
cache_of name order counters = record {
  name = name;
  setup = order.setup;
  warm = take order.warm order.pages;
  hot = drop order.warm order.pages;
  accesses = order.accesses;
  counters = counters;
}

-- a page that the file has
abbrev pub as_written : KeptPage → KeptPage
as_written p = record p { page = record p.page { unwritten = false } }

-- a page with other bytes, which the file has yet to get
abbrev pub with_bytes : KeptPage → List ℕ → KeptPage
with_bytes p bytes = record p { page = record p.page { bytes = bytes; unwritten = true } }

-- the same pages on the same lists; some of those that were unwritten may be written
pub record PagesStay (old new : Order) : Type 0 where
  pub setup : new.setup ≡ old.setup
  pub long : length new.pages ≡ length old.pages
  pub lists : lists_in new ≡ lists_in old
  pub named : (at len : ℕ) → position (has_name at len) new.pages ≡ position (has_name at len) old.pages
  pub differ : Pairs Differ (contents_of old.pages) → Pairs Differ (contents_of new.pages)
  pub kept : SameKept (contents_of old.pages) (contents_of new.pages)
  pub unwritten : ChangesNone (contents_of old.pages) (contents_of new.pages)

-- what may have been written is all that the files and the counters tell of a call
pub record WritesOnly (before after : Option Holding) (old new : Caching) : Type 0 where
  pub told : Told before after (λ m n. IsCurrent old m → Stays old new m n)
  pub others : Told before after (OthersStay old.name)
  pub clean : AllWritten (pages_of old) → after ≡ before
  pub counters : new.counters ≡ flushes_counted (pages_of old) (pages_of new) old.counters

-- the first page is not unwritten
abbrev pub IsFirstWritten : List Page → Type 0
IsFirstWritten pages = IfSome (slice_get pages 0) (λ p. p.unwritten ≡ false)

-- this page was written, where there is one, and the others are unwritten where they were
pub record WroteOut (page : Option Page) (old new : List Page) : Type 0 where
  pub flags : KeepsFlags page old new
  pub gone : IfSome page (λ x. is_unwritten new x.at (length x.bytes) ≡ false)

-- the page could not be read: it is not kept, the file ends before its end, and nothing was written
pub record IsShort (before after : Option Holding) (at len : ℕ) (old : Caching) : Type 0 where
  pub lent : IfTold before (IsLent old at len None)
  pub read : IsRead before old at len None
  pub same : after ≡ before

-- what a get answers: a page of this length, which the cache lent of the range
pub record IsAnswer (before : Option Holding) (at len : ℕ) (old : Caching) (bytes : List ℕ) : Type 0 where
  pub long : length bytes ≡ len
  pub lent : IfTold before (IsLent old at len (Some bytes))
  pub read : IsRead before old at len (Some bytes)

-- a get of a page, which is kept afterwards
pub record Finds {T : Type 0} (before after : Option Holding) (at len : ℕ) (result : Result T CacheFault) (old new : Caching) : Type 0 where
  pub there : OnOk result ((x : List ℕ) × (kept (pages_of new) at len ≡ Some x) × IsAnswer before at len old x)
  pub short : IfErr result (λ e. (p : ℕ) → e ≡ Short p → (p ≡ at) × IsShort before after at len old)
  pub clean : AllWritten (pages_of old) → after ≡ before
  pub one : WritesOne before after old.name (due old at len) result
  pub gets : Gets before after at len result old new

-- the names of the pages that the file has yet to get
abbrev pub unwritten_names : List Page → List PageName
unwritten_names pages = map (λ (p : Page). record { at = p.at; size = length p.bytes }) (unwritten_of pages)

-- the same of the entries of the map
abbrev pub names_in : List (PageName × Block) → List PageName
names_in entries = map (λ (e : PageName × Block). e.0) (filter (λ (e : PageName × Block). e.1.unwritten) entries)

-- the cache after a call of put, and what was written
pub record Stores {T E : Type 0} (before after : Option Holding) (at : ℕ) (bytes : List ℕ) (result : Result T E) (old new : Caching) : Type 0 where
  pub ok : OnOk result (Told before after (λ m n. CanPut old m at (length bytes) → Puts at bytes old new m n))
  pub err : OnErr result (Told before after (λ m n. IsCurrent old m → Stays old new m n))
  pub others : Told before after (OthersStay old.name)
  pub there : OnOk result (kept (pages_of new) at (length bytes) ≡ Some bytes)
  pub to_write : OnOk result (is_unwritten (pages_of new) at (length bytes) ≡ true)
  pub kept : OnErr result (SameKept (pages_of old) (pages_of new))
  pub added : AddsOnly at (length bytes) (pages_of old) (pages_of new)
  pub keeps : KeepsOthers at (length bytes) (pages_of old) (pages_of new)
  pub unwritten : OnErr result (ChangesNone (pages_of old) (pages_of new))
  pub name : new.name ≡ old.name
  pub setup : new.setup ≡ old.setup
  pub access : IsAccess result at (length bytes) old new
  pub counters : new.counters ≡ puts_counted result at (length bytes) (pages_of old) (pages_of new) old.counters
  pub written : OnOk result (new.counters.writes ≡ raised (option_len (due old at (length bytes))) old.counters.writes)
  pub one : WritesOne before after old.name (due old at (length bytes)) result
  pub flags : KeepsOtherFlags (due old at (length bytes)) at (length bytes) (pages_of old) (pages_of new)
  pub refusal : OnErr result (AllOrNone before after (due old at (length bytes)) old new)
