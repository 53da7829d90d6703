-- The pages that a key cache keeps (MySQL Reference Manual, "The MyISAM Key Cache": blocks that were read,
-- and blocks that were changed and that the index file has yet to get).
use Rattle.std.specs.Prelude.{◌≡◌, ◌==◌, ◌&&◌, ◌⊎◌, ◌+◌, ◌<◌, ℕ, Bool, true, false, List, length, find, count_by, Option, Some, IfSome, option_map, is_some}
use Rattle.std.specs.List.{list_any}
use Rattle.myi_base.specs.Ranges.{Range, are_apart}

-- a page: its place in the file, its bytes, and whether the file has yet to get them
pub record Page : Type 0 where
  pub at : ℕ
  pub bytes : List ℕ
  pub unwritten : Bool

-- a page that is kept, with its hits and the number of the last access to it
pub record KeptPage : Type 0 where
  pub page : Page
  pub hits : ℕ
  pub last : ℕ

abbrev pub range_of : Page → Range
range_of page = (page.at, page.at + length page.bytes)

-- a page is named by its place and its length
abbrev pub is_page : ℕ → ℕ → Page → Bool
is_page at len page = (page.at == at) && (length page.bytes == len)

-- the bytes of the page of a place and a length
unfoldable pub kept : List Page → ℕ → ℕ → Option (List ℕ)
kept pages at len = option_map (λ page. page.bytes) (find (is_page at len) pages)

abbrev pub is_kept : List Page → ℕ → ℕ → Bool
is_kept pages at len = is_some (kept pages at len)

unfoldable pub is_unwritten : List Page → ℕ → ℕ → Bool
is_unwritten pages at len = list_any (λ page. is_page at len page && page.unwritten) pages

-- how many pages the file has yet to get
unfoldable pub unwritten_count : List Page → ℕ
unwritten_count pages = count_by (λ page. page.unwritten) pages

-- of the pages that a test names by place and length, none but the very one of this range meets it
abbrev pub NoOtherMeets : (ℕ → ℕ → Bool) → ℕ → ℕ → Type 0
NoOtherMeets test at len = (p n : ℕ) → test p n ≡ true → ((p ≡ at) × (n ≡ len)) ⊎ (are_apart (p, p + n) (at, at + len) ≡ true)

-- each page that is kept was kept before, or is the one of this place and length
abbrev pub AddsOnly : ℕ → ℕ → List Page → List Page → Type 0
AddsOnly at len old new = (p n : ℕ) → is_kept new p n ≡ true → (is_kept old p n ≡ true) ⊎ ((p ≡ at) × (n ≡ len))

-- a page has another place than this one, or another length
abbrev pub AreOthers : ℕ → ℕ → ℕ → ℕ → Type 0
AreOthers p n at len = p ≡ at → n ≡ len → ⊥

-- a page that is kept before and after has the bytes that it had
abbrev pub KeepsBytes : List Page → List Page → Type 0
KeepsBytes old new = (p n : ℕ) (x y : List ℕ) → kept old p n ≡ Some x → kept new p n ≡ Some y → y ≡ x

-- Of the pages but the one of this place and length: each that is kept was kept with the same bytes, and each unwritten one was
-- unwritten.
pub record KeepsOthers (at len : ℕ) (old new : List Page) : Type 0 where
  pub bytes : (p n : ℕ) (x : List ℕ) → AreOthers p n at len → kept new p n ≡ Some x → kept old p n ≡ Some x
  pub unwritten : (p n : ℕ) → AreOthers p n at len → is_unwritten new p n ≡ true → is_unwritten old p n ≡ true

-- the same pages are kept, with the same bytes
abbrev pub SameKept : List Page → List Page → Type 0
SameKept old new = (p n : ℕ) → kept new p n ≡ kept old p n

-- the same pages are unwritten
abbrev pub SameUnwritten : List Page → List Page → Type 0
SameUnwritten old new = (p n : ℕ) → is_unwritten new p n ≡ is_unwritten old p n

-- of the unwritten pages, those before some place were written, and those behind it were not
abbrev pub WrittenUpTo : List Page → List Page → Type 0
WrittenUpTo old new = (stop : ℕ)
    × ((p n : ℕ) → p < stop → is_unwritten new p n ≡ false)
    × ((p n : ℕ) → stop < p → is_unwritten new p n ≡ is_unwritten old p n)

-- each unwritten page was unwritten before
abbrev pub ChangesNone : List Page → List Page → Type 0
ChangesNone old new = (p n : ℕ) → is_unwritten new p n ≡ true → is_unwritten old p n ≡ true

-- a page has another place than this one, or another length, where there is one
abbrev pub IsOther : Option Page → ℕ → ℕ → Type 0
IsOther page p n = IfSome page (λ x. AreOthers p n x.at (length x.bytes))

-- each page but this one, where there is one, is unwritten exactly where it was
abbrev pub KeepsFlags : Option Page → List Page → List Page → Type 0
KeepsFlags page old new = (p n : ℕ) → IsOther page p n → is_unwritten new p n ≡ is_unwritten old p n

-- the same of each page but that one and the one of this place and length
abbrev pub KeepsOtherFlags : Option Page → ℕ → ℕ → List Page → List Page → Type 0
KeepsOtherFlags page at len old new = (p n : ℕ) → AreOthers p n at len → IsOther page p n → is_unwritten new p n ≡ is_unwritten old p n

-- the file has all pages
abbrev pub AllWritten : List Page → Type 0
AllWritten pages = (p n : ℕ) → is_unwritten pages p n ≡ true → ⊥
