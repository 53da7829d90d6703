-- Which pairs and places pages are made for, and when pairs fit into a page.
use Rattle.std.specs.Prelude.{◌≡◌, ◌≢◌, ◌↔◌, ℕ, ◌+◌, ◌*◌, ◌%◌, ◌^◌, ◌<◌, ◌≤◌, Bool, List, length, take, nat_le}
use Rattle.std.specs.List.{AllByRecursion}
use Rattle.myi_keypage.specs.declared.entry.Entry.{Entry}
use Rattle.myi_keypage.specs.Fitting.{used_length}
use Rattle.myi_keylist.specs.declared.pair.Pair.{Pair}
use Rattle.myi_btree.specs.declared.place.Place.{Place}
use Rattle.myi_btree.specs.Nodes.{entries_of, entry_of}
use Rattle.myi_btree.specs.LaidPages.{Fits, count_of}

-- the block length is a multiple of 1024 from 1024 to 16,384, and a row pointer has two to eight bytes
pub record IsPlaced (place : Place) : Type 0 where
  pub whole : place.block_length % 1024 ≡ 0
  pub least : 1024 ≤ place.block_length
  pub most : place.block_length ≤ 16384
  pub wide : 2 ≤ place.rec_ref
  pub narrow : place.rec_ref ≤ 8

-- an entry of which two fit into each page, and whose row pointer has its bytes
pub record IsSized (place : Place) (entry : Entry) : Type 0 where
  pub short : 2 * (length entry.key + 13 + place.rec_ref) + 9 ≤ place.block_length
  pub row : entry.row < 256 ^ place.rec_ref

abbrev pub AreSized : Place → List Pair → Type 0
AreSized place pairs = AllByRecursion (λ p. IsSized place (entry_of p)) pairs

-- whether pairs fit into a page of a tree
abbrev pub fits_in : Place → Fits
fits_in place node pairs = nat_le (used_length place.rec_ref node (entries_of pairs)) place.block_length

-- the greatest number of entries of a front that fit
pub record IsFitting (place : Place) (node : Bool) (front : List Entry) (m : ℕ) : Type 0 where
  pub inside : m ≤ length front
  pub exact : (count : ℕ) → 0 < count → count ≤ length front → (count ≤ m) ↔ (used_length place.rec_ref node (take count front) ≤ place.block_length)

-- how many of the pairs that are left the next page takes: at least one, so that not exactly one is left, and they fit
pub record IsCount (place : Place) (node : Bool) (left : List Pair) (count : ℕ) : Type 0 where
  pub is : count ≡ count_of (fits_in place node) left
  pub some : 0 < count
  pub inside : count ≤ length left
  pub one : count + 1 ≢ length left
  pub fit : used_length place.rec_ref node (take count (entries_of left)) ≤ place.block_length
