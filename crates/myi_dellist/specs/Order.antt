-- Areas in order of place.
use Rattle.std.specs.Prelude.{◌≡◌, ℕ, ◌+◌, nat_le, if◌then◌else◌, List, [], ◌∷◌}
use Rattle.myi_dellist.specs.Areas.{Area}

abbrev pub put_in : Area → List Area → List Area
put_in a [] = a ∷ []
put_in a (b ∷ areas) = if nat_le a.at b.at then a ∷ b ∷ areas else b ∷ put_in a areas

-- sorted by their places
abbrev pub in_order : List Area → List Area
in_order [] = []
in_order (a ∷ areas) = put_in a (in_order areas)

-- each begins where the one before it ends, the first at a place, and the last ends at the end
abbrev pub Follow : ℕ → ℕ → List Area → Type 0
Follow end p [] = p ≡ end
Follow end p (a ∷ areas) = (a.at ≡ p) × Follow end (p + a.size) areas
