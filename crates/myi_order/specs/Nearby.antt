-- What is known of a data file whose rows are read by their places: its length, and a part of it in a window.
use Rattle.std.specs.Prelude.{◌≡◌, ℕ, List, length}
use Rattle.myi_base.specs.Holding.{Holding, bytes_of}
use Rattle.myi_window.specs.Excerpt.{StandsIn}
use Rattle.myi_order.specs.declared.nearby.Nearby.{Nearby}

-- the file of this name is so long, and the part stands in it
pub record Knows (near : Nearby) (name : List ℕ) (m : Holding) : Type 0 where
  pub long : length (bytes_of name m) ≡ near.end
  pub stands : StandsIn near.window (bytes_of name m)
