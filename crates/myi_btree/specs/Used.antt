-- The events of a walk where trees before have pages: a page that has a byte of one of these is bad.
use Rattle.std.specs.Prelude.{ℕ, List, [], ◌∷◌, None, if◌then◌else◌}
use Rattle.myi_base.specs.Ranges.{Range, is_apart}
use Rattle.myi_btree.specs.Walk.{Places}
use Rattle.myi_btree.specs.Visit.{page_range}
use Rattle.myi_btree.specs.Events.{Event, page, pair, bad}

-- up to the first page that has a byte of one of these ranges
abbrev pub up_to_used : ℕ → List Range → List Event → List Event
up_to_used block used [] = []
up_to_used block used (page at ∷ es) = if is_apart (page_range block at) used then page at ∷ up_to_used block used es else bad at ∷ []
up_to_used block used (pair p at ∷ es) = pair p at ∷ up_to_used block used es
up_to_used block used (bad at ∷ es) = bad at ∷ []

-- what stands at a place, but for pages that have a byte of one of these ranges
abbrev pub apart_from : ℕ → List Range → Places → Places
apart_from block used read place = if is_apart (page_range block place) used then read place else None
