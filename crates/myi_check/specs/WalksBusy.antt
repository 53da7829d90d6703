-- The bytes of an index file that no page of the next tree may have.
use Rattle.std.specs.Prelude.{◌≡◌, ◌+◌, ◌<◌, ◌&&◌, ℕ, Bool, nat_le, List}
use Rattle.std.specs.List.{list_all}
use Rattle.myi_base.specs.Ranges.{Range, are_apart, is_apart}
use Rattle.myi_check.specs.declared.busy.TreePages.{TreePages}
use Rattle.myi_check.specs.declared.busy.BusyPages.{BusyPages}

-- so many bytes from a place on have none of a page of this tree
abbrev pub misses : ℕ → ℕ → TreePages → Bool
misses at len tree = list_all (λ p. are_apart (at, at + len) (p, p + tree.block_length)) tree.places.keys

-- so many bytes from a place on have none of the header and of the trees before
abbrev pub is_free : BusyPages → ℕ → ℕ → Bool
is_free busy at len = nat_le busy.first_page at && list_all (misses at len) busy.trees.items

-- bytes from a place on have none of these ranges exactly where they are free
abbrev pub AreBusy : List Range → BusyPages → Type 0
AreBusy ranges busy = (at len : ℕ) → 0 < len → is_apart (at, at + len) ranges ≡ is_free busy at len

-- the pages of the tree have bytes
abbrev pub HasBytes : TreePages → Type 0
HasBytes tree = 0 < tree.block_length
