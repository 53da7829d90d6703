-- Pairs that are being written on pages, one after the other.
use Rattle.std.specs.Prelude.{◌≡◌, ◌+◌, ℕ, List, ◌++◌}
use Rattle.myi_keylist.specs.declared.pair.Pair.{Pair}
use Rattle.myi_btree.specs.declared.place.Room.{Room}
use Rattle.myi_btree.specs.Walk.{Places}
use Rattle.myi_insertion.specs.Strips.{IsLeft, StandFor}
use Rattle.myi_insertion.specs.Covers.{within, cover, stock, Spares}

-- of the trees with these pairs some stand to the left, and the rest is still to be written from a place on
pub record IsPartly (block : ℕ) (old now : Places) (height : ℕ) (xs : List Pair) (olds : List ℕ) (before after : Room) (at : ℕ) (places : List ℕ) (separators pairs : List Pair) (children : List ℕ) : Type 0 where
  pub done : List Pair
  pub rest : List Pair
  pub done_pages : List ℕ
  pub rest_pages : List ℕ
  pub left : IsLeft now height places separators done done_pages
  pub stand : StandFor now height pairs children rest rest_pages
  pub content_is : xs ≡ done ++ rest
  pub balance : (x : ℕ) → cover block done_pages x + (within at block x + cover block rest_pages x) + stock after x ≡ cover block olds x + stock before x
  pub spares : Spares block old now (λ x. cover block olds x + stock before x)
