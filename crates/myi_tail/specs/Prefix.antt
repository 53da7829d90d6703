-- The front of a list.
use Rattle.std.specs.Prelude.{◌≡◌, List, length, take}

-- all begins with the items
abbrev pub BeginsWith : {A : Type 0} → List A → List A → Type 0
BeginsWith all items = items ≡ take (length items) all
