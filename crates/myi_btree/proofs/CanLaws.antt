-- What a walk that may go into a page may do.
use Rattle.std.proofs.Common.{ℕ, List, Option}
use Rattle.myi_keycache.specs.Caching.{Caching}
use Rattle.myi_base.specs.Holding.{Holding}
use Rattle.myi_btree.specs.declared.place.Place.{Place}
use Rattle.myi_btree.specs.declared.visited.Visited.{Visited}
use Rattle.myi_btree.specs.Serving.{View, CanAsk, CanEnter}

pub asks : (place : Place) (v : View) (told : Option Holding) (cache : Caching) (at : ℕ) (seen : List ℕ) (visited : Visited) → CanEnter place v told cache at seen visited → CanAsk place v told cache at
asks place v told cache at seen visited k = record { serves = k.goes.serves; asked = k.asked }
