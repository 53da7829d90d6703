-- A page each of whose children stands so many bytes further on.
use Rattle.std.specs.Prelude.{◌≡◌, ℕ, ◌+◌, ◌^◌, ◌<◌, List, ◌++◌, length, map}
use Rattle.std.specs.List.{AllByRecursion}
use Rattle.myi_keypage.specs.declared.entry.Entry.{Entry}
use Rattle.myi_keypage.specs.Page.{Page, page_with, entries_bytes, IsPlace, IsBranching, IsWritable}

abbrev pub further : ℕ → List ℕ → List ℕ
further by children = map (λ (child : ℕ). child + by) children

abbrev pub shifted : ℕ → Page → Page
shifted by page = page_with page.entries (further by page.children)

-- a page that has a spelling, and whose children may stand so many bytes further on
pub record CanShift (rec_ref by : ℕ) (page : Page) : Type 0 where
  pub has : IsWritable rec_ref page
  pub branching : IsBranching page
  pub places : AllByRecursion (λ (child : ℕ). IsPlace (child + by)) page.children

-- From a place on the bytes have entries behind a key, and the child after each, up to a place; what stands before and
-- behind them is known.
pub record HasEntries (rec_ref by : ℕ) (bytes : List ℕ) (at used : ℕ) (done before : List ℕ) (entries : List Entry) (children rest : List ℕ) : Type 0 where
  pub text : bytes ≡ done ++ (entries_bytes rec_ref before entries children ++ rest)
  pub start : length done ≡ at
  pub end : at + length (entries_bytes rec_ref before entries children) ≡ used
  pub same : length children ≡ length entries
  pub rows : AllByRecursion (λ (e : Entry). e.row < 256 ^ rec_ref) entries
  pub places : AllByRecursion IsPlace children
  pub further : AllByRecursion (λ (child : ℕ). IsPlace (child + by)) children
  pub short : length before + length (entries_bytes rec_ref before entries children) < 65536
