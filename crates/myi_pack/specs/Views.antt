-- What the views of fields show (this project's own).
use Rattle.std.specs.Prelude.{◌≡◌, ◌-◌, ℕ, List, [], ◌∷◌, ◌++◌, length, replicate, Option, Some, None}
use Rattle.myi_pack.specs.declared.fields.FieldView.{FieldView}
use Rattle.myi_pack.specs.declared.fields.FieldView.TheVariants as views
use Rattle.myi_pack.specs.Packed.{Values, spaces}

-- the value of a field of n bytes that a view shows
abbrev pub field_value : ℕ → FieldView → List ℕ
field_value n (views.Plain b) = b.now
field_value n (views.Padded b) = b.now ++ spaces (n - length b.now)
field_value n (views.Led b) = spaces (n - length b.now) ++ b.now
field_value n views.Zeros = replicate n 0

-- the view shows the value
abbrev pub Shows : FieldView → List ℕ → Type 0
Shows view v = v ≡ field_value (length v) view

-- the view of the first value that was left, if there was one; the others are left
abbrev pub IsNext : Values → Option FieldView → Values → Type 0
IsNext [] None left = left ≡ []
IsNext [] (Some view) left = ⊥
IsNext (v ∷ vs) None left = ⊥
IsNext (v ∷ vs) (Some view) left = Shows view v × (left ≡ vs)

-- the same, where the field's length is told
abbrev pub IsNextShown : Values → Option (ℕ × FieldView) → Values → Type 0
IsNextShown [] None left = left ≡ []
IsNextShown [] (Some r) left = ⊥
IsNextShown (v ∷ vs) None left = ⊥
IsNextShown (v ∷ vs) (Some r) left = (v ≡ field_value r.0 r.1) × (left ≡ vs)
