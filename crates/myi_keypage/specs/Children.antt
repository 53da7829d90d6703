-- A page whose children stand at other places.
use Rattle.std.specs.Prelude.{◌≡◌, ℕ, ◌+◌, ◌^◌, ◌<◌, List, ◌++◌, length}
use Rattle.std.specs.List.{AllByRecursion}
use Rattle.myi_keypage.specs.declared.entry.Entry.{Entry}
use Rattle.myi_keypage.specs.Page.{Page, page_with, entries_bytes, IsPlace, IsBranching, IsWritable}

-- the page with these children in the place of its own
abbrev pub with_children : List ℕ → Page → Page
with_children children page = page_with page.entries children

-- a page that has a spelling, and as many places as it has children
pub record CanTake (rec_ref : ℕ) (children : List ℕ) (page : Page) : Type 0 where
  pub has : IsWritable rec_ref page
  pub branching : IsBranching page
  pub same : length children ≡ length page.children
  pub places : AllByRecursion IsPlace children

-- From a place on the bytes have entries behind a key, and the child after each; what stands before and behind them is known.
pub record HasChildren (rec_ref : ℕ) (bytes : List ℕ) (at : ℕ) (done before : List ℕ) (entries : List Entry) (children rest : List ℕ) : Type 0 where
  pub text : bytes ≡ done ++ (entries_bytes rec_ref before entries children ++ rest)
  pub start : length done ≡ at
  pub same : length children ≡ length entries
  pub rows : AllByRecursion (λ (e : Entry). e.row < 256 ^ rec_ref) entries
  pub short : length before + length (entries_bytes rec_ref before entries children) < 65536
