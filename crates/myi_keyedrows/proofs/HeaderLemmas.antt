-- What definitions say of tables, rows and trees does not depend on the bytes of the header that they were read from.
use Rattle.std.proofs.Common.{◌≡◌, ℕ, Bool, true, not, eqb, get_or, List, [], ◌∷◌, ◌++◌, map, Option, Some, None, refl, sym, ap, ◌∙◌}
use Rattle.std.specs.Prelude.{option_and_then, slice_index, nat_lt, ◌&&◌, ◌==◌, ◌^◌, length}
use Rattle.std.specs.List.{AllByRecursion, list_any}
use Rattle.myi_defs.specs.declared.types.RowFormat.{RowFormat}
use Rattle.myi_defs.specs.declared.types.RowFormat.TheVariants.{Static, Dynamic}
use Rattle.myi_defs.specs.declared.types.Defs.{Defs}
use Rattle.myi_defs.specs.Addressable.{is_addressable}
use Rattle.myi_pack.specs.Packed.{Values}
use Rattle.myi_pack.specs.Spelling.{spelled_row, spelling, fits_fields, can_stand, fits}
use Rattle.myi_pack.specs.Unpacking.{fields_of, parts_of, ended, row_of}
use Rattle.myi_dellist.specs.Areas.{Area}
use Rattle.myi_data.specs.Keys.{key_of}
use Rattle.myi_btree.specs.declared.place.Place.{Place}
use Rattle.myi_btree.specs.Walk.{Walked, content}
use Rattle.myi_state.specs.State.{StoredRow, TableState}
use Rattle.myi_state.specs.Sound.{IsRow, IsState}
use Rattle.myi_state.specs.Standing.{RowStands, slot_bytes, ListSlots, HolesStand, StandsFor}
use Rattle.myi_pair.specs.FirstRows.{repeats, AreDistinct}
use Rattle.myi_pair.specs.KeyList.{PlacedRow, key_list}
use Rattle.myi_rowtrees.specs.Places.{places_from}
use Rattle.myi_tablestate.specs.Keyed.{IsTable}
use Rattle.myi_tablestate.specs.Listed.{placed, listed}
use Rattle.myi_tablestate.specs.Standing.{HavePairs}

-- these definitions, with another header
abbrev pub with_raw : Defs → List ℕ → Defs
with_raw d r = record d { raw = r }

map_all : {A : Type 0} (P Q : A → Type 0) → ((x : A) → P x → Q x) → (xs : List A) → AllByRecursion P xs → AllByRecursion Q xs
map_all P Q f [] all = tt
map_all P Q f (x ∷ xs) all = (f x all.0, map_all P Q f xs all.1)

module _ (d : Defs) (r : List ℕ) where
  -- ---- rows

  spelled_same : (f : RowFormat) (row : Values) → spelled_row f (with_raw d r) row ≡ spelled_row f d row
  spelled_same Static row = refl
  spelled_same Dynamic row = refl

  spelling_same : (row : Values) → spelling (with_raw d r) row ≡ spelling d row
  unfolding spelling
  spelling_same row = spelled_same d.format row

  stand_same : (f : RowFormat) (row : Values) → can_stand f (with_raw d r) row ≡ can_stand f d row
  stand_same Static row = ap (λ (x : List ℕ). not (slice_index x 0 == 0)) (spelling_same row)
  stand_same Dynamic row = ap (λ (x : List ℕ). nat_lt (length x) (2 ^ 32)) (spelling_same row)

  fits_same : (row : Values) → fits (with_raw d r) row ≡ fits d row
  unfolding fits
  fits_same row = ap (λ (b : Bool). fits_fields d.format d.fields row && b) (stand_same d.format row)

  parts_same : (f : RowFormat) (b : List ℕ) → parts_of f (with_raw d r) b ≡ parts_of f d b
  parts_same Static b = refl
  parts_same Dynamic b = refl

  row_same : (b : List ℕ) → row_of (with_raw d r) b ≡ row_of d b
  unfolding row_of
  row_same b = ap (option_and_then (λ p. ended d.format (fields_of d.format d.fields 0 p.0 p.1))) (parts_same d.format b)

  repeats_same : (row : Values) → repeats (with_raw d r) row ≡ repeats d row
  unfolding repeats key_of
  repeats_same row = refl

  distinct_same : (before rows : List Values) → AreDistinct d before rows → AreDistinct (with_raw d r) before rows
  distinct_same before [] are = tt
  distinct_same before (row ∷ rows) are = (ap (λ (p : Values → Bool). list_any p before) (repeats_same row) ∙ are.0, distinct_same (before ++ row ∷ []) rows are.1)

  -- ---- tables

  state_same : (s : TableState) → IsState d s → IsState (with_raw d r) s
  state_same s i = record {
    order = i.order;
    rows = map_all (IsRow d) (IsRow (with_raw d r)) (λ q is. record { place = is.place; blocks = is.blocks }) s.rows i.rows;
    holes = i.holes;
    tile = i.tile;
  }

  pub table_same : (s : TableState) → IsTable d s → IsTable (with_raw d r) s
  table_same s t = record {
    state = state_same s t.state;
    fit = map_all (λ (q : StoredRow). fits d q.values ≡ true) (λ (q : StoredRow). fits (with_raw d r) q.values ≡ true) (λ q is. fits_same q.values ∙ is) s.rows t.fit;
    distinct = distinct_same [] (map (λ (q : StoredRow). q.values) s.rows) t.distinct;
  }

  -- ---- data files

  stands_same : (f : RowFormat) (x : List ℕ) (q : StoredRow) → RowStands f d x q → RowStands f (with_raw d r) x q
  stands_same Static x q is = row_same (slot_bytes d x q.at) ∙ is
  stands_same Dynamic x q is = record { chain = is.chain; is = is.is; blocks = is.blocks; packs = row_same _ ∙ is.packs }

  slots_same : (x : List ℕ) (holes : List Area) → ListSlots d x holes → ListSlots (with_raw d r) x holes
  slots_same x [] list = tt
  slots_same x (h ∷ holes) list = (list.0, list.1, slots_same x holes list.2)

  holes_same : (f : RowFormat) (x : List ℕ) (holes : List Area) → HolesStand f d x holes → HolesStand f (with_raw d r) x holes
  holes_same Static x holes stand = slots_same x holes stand
  holes_same Dynamic x holes stand = stand

  pub file_same : (s : TableState) (x : List ℕ) → StandsFor d s x → StandsFor (with_raw d r) s x
  file_same s x k = record {
    state = state_same s k.state;
    long = k.long;
    rows = map_all (RowStands d.format d x) (RowStands d.format (with_raw d r) x) (λ q is. stands_same d.format x q is) s.rows k.rows;
    holes = holes_same d.format x s.space.holes k.holes;
  }

  pub addressable_same : (n : ℕ) → is_addressable (with_raw d r) n ≡ is_addressable d n
  unfolding is_addressable
  addressable_same n = refl

  -- ---- trees

  pub places_same : (ks : List ℕ) (roots : List (Option ℕ)) → places_from (with_raw d r) ks roots ≡ places_from d ks roots
  places_same [] roots = refl
  places_same (k ∷ ks) [] = refl
  places_same (k ∷ ks) (root ∷ roots) = ap (λ (ps : List Place). places_from d (k ∷ []) (root ∷ []) ++ ps) (places_same ks roots)

  listed_same : (k : ℕ) (rows : List StoredRow) → listed (with_raw d r) k rows ≡ listed d k rows
  unfolding key_list key_of
  listed_same k rows = refl

  pub pairs_same : (rows : List StoredRow) (ks : List ℕ) (ws : List Walked) → HavePairs d rows ks ws → HavePairs (with_raw d r) rows ks ws
  pairs_same rows [] ws have = have
  pairs_same rows (k ∷ ks) [] have = have
  pairs_same rows (k ∷ ks) (w ∷ ws) have = (have.0 ∙ sym (listed_same k rows), pairs_same rows ks ws have.1)
