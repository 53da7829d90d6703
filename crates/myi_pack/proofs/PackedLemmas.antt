-- What bytes that pack a row are parted into.
use Rattle.std.proofs.Common.{◌≡◌, ◌∙◌, ℕ, Bool, true, false, List, Option, Some, None, eqb, length, refl, sym, ap, subst, Bor}
use Rattle.std.specs.Prelude.{IsSome, is_some, option_and_then, if◌then◌else◌}
use Rattle.std.specs.Option.{option_map}
use Rattle.myi_defs.specs.declared.types.RowFormat.{RowFormat}
use Rattle.myi_defs.specs.declared.types.RowFormat.TheVariants.{Static, Dynamic}
use Rattle.myi_defs.specs.declared.types.Field.{Field}
use Rattle.myi_defs.specs.declared.types.Defs.{Defs}
use Rattle.myi_pack.specs.Packed.{Values}
use Rattle.myi_pack.specs.Unpacking.{parts_of, fields_of, ended, row_of}
use Rattle.myi_pack.specs.Left.{values_of, values_left}

-- the flags and the bytes of the fields
abbrev pub Parts : Type 0
Parts = List ℕ × List ℕ

abbrev pub parts_in : Option (Bor (List ℕ) × Bor (List ℕ)) → Option Parts
parts_in o = option_map (λ r. (r.0.now, r.1.now)) o

pub parted : (d : Defs) (b : List ℕ) (r : Option (Bor (List ℕ) × Bor (List ℕ))) → parts_in r ≡ parts_of d.format d b → is_some (row_of d b) ≡ true → IsSome r
unfolding row_of
parted d b None is packed = subst (λ (o : Option Parts). is_some (option_and_then (λ (p : Parts). ended d.format (fields_of d.format d.fields 0 p.0 p.1)) o) ≡ true) (sym is) packed
parted d b (Some x) is packed = refl

whole : (f : RowFormat) (o : Option (Values × List ℕ)) → is_some (ended f o) ≡ true → IsSome o × (ended f o ≡ Some (values_of o))
whole Static None some = absurd cc
whole Static (Some r) some = (refl, refl)
whole Dynamic None some = absurd cc
whole Dynamic (Some r) some = (refl, by (eqb (length r.1) 0) some)
  where
    by : (e : Bool) → is_some (if e then Some r.0 else None) ≡ true → (if e then Some r.0 else None) ≡ Some r.0
    by true some = refl
    by false some = absurd cc

pub packed_parts : (d : Defs) (b : List ℕ) (fs : List Field) (r : Option (Bor (List ℕ) × Bor (List ℕ))) (x : Bor (List ℕ) × Bor (List ℕ)) → fs ≡ d.fields → r ≡ Some x → parts_in r ≡ parts_of d.format d b → is_some (row_of d b) ≡ true
    → IsSome (fields_of d.format fs 0 x.0.now x.1.now) × (row_of d b ≡ Some (values_left d.format fs 0 x.0.now x.1.now))
unfolding row_of
packed_parts d b fs r x fields is parts packed =
    let here : Some (x.0.now, x.1.now) ≡ parts_of d.format d b = ap parts_in (sym is) ∙ parts in
    let row : row_of d b ≡ ended d.format (fields_of d.format d.fields 0 x.0.now x.1.now) = ap (option_and_then (λ (p : Parts). ended d.format (fields_of d.format d.fields 0 p.0 p.1))) (sym here) in
    let made = whole d.format (fields_of d.format d.fields 0 x.0.now x.1.now) (ap is_some (sym row) ∙ packed) in
    subst (λ (gs : List Field). IsSome (fields_of d.format gs 0 x.0.now x.1.now) × (row_of d b ≡ Some (values_left d.format gs 0 x.0.now x.1.now))) (sym fields) (made.0, row ∙ made.1)
