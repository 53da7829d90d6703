-- What definitions say of rows, keys and trees does not depend on the bytes of the header that they were read from.
use Rattle.std.proofs.Common.{◌≡◌, ℕ, ◌-◌, Bool, false, List, [], ◌∷◌, ◌++◌, map, filter, Option, Some, None, is_some, unwrap_or, refl, sym, ap, ◌∙◌}
use Rattle.std.specs.List.{list_any}
use Rattle.myi_base.specs.Ranges.{Range, is_apart}
use Rattle.myi_defs.specs.declared.types.RowFormat.{RowFormat}
use Rattle.myi_defs.specs.declared.types.RowFormat.TheVariants.{Static, Dynamic}
use Rattle.myi_defs.specs.declared.types.Defs.{Defs}
use Rattle.myi_defs.specs.Addressable.{is_addressable}
use Rattle.myi_pack.specs.Packed.{Values}
use Rattle.myi_pack.specs.Unpacking.{fields_of, parts_of, ended, row_of}
use Rattle.myi_chain.specs.Readable.{Row, Item, rows_of, frees_of}
use Rattle.myi_chain.specs.Readable as chains
use Rattle.myi_chain.specs.Meeting.{ranges_of}
use Rattle.std.specs.Prelude.{option_and_then}
use Rattle.myi_data.specs.Keys.{key_of}
use Rattle.myi_data.specs.Readable.{packs, items_at, items_by, items_in, readable, deleted}
use Rattle.myi_pair.specs.FirstRows.{repeats, AreDistinct}
use Rattle.myi_pair.specs.KeyList.{PlacedRow, key_list}
use Rattle.myi_btree.specs.Walk.{Walked}
use Rattle.myi_pair.specs.Trees.{pages_on, HasWalkApart, HaveWalks, AreKeyLists, all_pages}
use Rattle.myi_pair.specs.Clean.{values_of, sized_row, placed_row}

-- these definitions, with another header
abbrev pub with_raw : Defs → List ℕ → Defs
with_raw d r = record d { raw = r }

module _ (d : Defs) (r : List ℕ) where
  parts_same : (f : RowFormat) (b : List ℕ) → parts_of f (with_raw d r) b ≡ parts_of f d b
  parts_same Static b = refl
  parts_same Dynamic b = refl

  row_same : (b : List ℕ) → row_of (with_raw d r) b ≡ row_of d b
  unfolding row_of
  row_same b = ap (option_and_then (λ p. ended d.format (fields_of d.format d.fields 0 p.0 p.1))) (parts_same d.format b)

  packs_same : packs (with_raw d r) ≡ packs d
  packs_same = λ i b. is_some (row_same b i)

  items_same_by : (f : RowFormat) (extend : Bool) (x : List ℕ) → items_by f (with_raw d r) extend x ≡ items_by f d extend x
  items_same_by Static extend x = ap (λ p. items_at p d.slot_length 0 x) packs_same
  items_same_by Dynamic extend x = ap (λ p. chains.items_in extend p x) packs_same

  items_same : (extend : Bool) (x : List ℕ) → items_in (with_raw d r) extend x ≡ items_in d extend x
  unfolding items_in
  items_same extend x = items_same_by d.format extend x

  pub readable_same : (extend : Bool) (x : List ℕ) → readable (with_raw d r) extend x ≡ readable d extend x
  unfolding readable
  readable_same extend x = ap rows_of (items_same extend x)

  pub deleted_same : (x : List ℕ) → deleted (with_raw d r) x ≡ deleted d x
  unfolding deleted readable
  deleted_same x = ap (λ (is : List Item). filter (λ (a : Range). is_apart a (ranges_of (rows_of is))) (frees_of is)) (items_same false x)

  pub values_same : (rows : List Row) → map (values_of (with_raw d r)) rows ≡ map (values_of d) rows
  values_same rows = λ i. map (λ (s : Row). unwrap_or (row_same s.bytes i) []) rows

  pub sized_same : (rows : List Row) → map (sized_row (with_raw d r)) rows ≡ map (sized_row d) rows
  sized_same rows = λ i. map (λ (s : Row). record { values = unwrap_or (row_same s.bytes i) []; sizes = map (λ (a : Range). a.1 - a.0) s.blocks }) rows

  pub placed_same : (rows : List Row) → map (placed_row (with_raw d r)) rows ≡ map (placed_row d) rows
  placed_same rows = λ i. map (λ (s : Row). (s.at, unwrap_or (row_same s.bytes i) [])) rows

  pub addressable_same : (n : ℕ) → is_addressable (with_raw d r) n ≡ is_addressable d n
  unfolding is_addressable
  addressable_same n = refl

  pub repeats_same : (row : Values) → repeats (with_raw d r) row ≡ repeats d row
  unfolding repeats key_of
  repeats_same row = refl

  pub distinct_same : (before rows : List Values) → AreDistinct d before rows → AreDistinct (with_raw d r) before rows
  distinct_same before [] are = tt
  distinct_same before (row ∷ rows) are = (ap (λ (p : Values → Bool). list_any p before) (repeats_same row) ∙ are.0, distinct_same (before ++ row ∷ []) rows are.1)

  pub list_same : (k : ℕ) (rows : List PlacedRow) → key_list (with_raw d r) k rows ≡ key_list d k rows
  unfolding key_list key_of
  list_same k rows = refl

  walk_same : (k : ℕ) (x : List ℕ) (root : Option ℕ) (busy : List Range) (w : Walked) → HasWalkApart d k x root busy w → HasWalkApart (with_raw d r) k x root busy w
  walk_same k x None busy w t = t
  walk_same k x (Some root) busy w t = t

  pub walks_same : (x : List ℕ) (busy : List Range) (ks : List ℕ) (roots : List (Option ℕ)) (ws : List Walked) → HaveWalks d x busy ks roots ws → HaveWalks (with_raw d r) x busy ks roots ws
  walks_same x busy [] roots ws t = t
  walks_same x busy (k ∷ ks) [] ws t = t
  walks_same x busy (k ∷ ks) (root ∷ roots) [] t = t
  walks_same x busy (k ∷ ks) (root ∷ roots) (w ∷ ws) t = (walk_same k x root busy w t.0, walks_same x (busy ++ pages_on d k w) ks roots ws t.1)

  pub lists_same : (rows : List PlacedRow) (ks : List ℕ) (ws : List Walked) → AreKeyLists d rows ks ws → AreKeyLists (with_raw d r) rows ks ws
  lists_same rows [] ws t = t
  lists_same rows (k ∷ ks) [] t = t
  lists_same rows (k ∷ ks) (w ∷ ws) t = (t.0 ∙ sym (list_same k rows), lists_same rows ks ws t.1)

  pub pages_same : (ks : List ℕ) (ws : List Walked) → all_pages (with_raw d r) ks ws ≡ all_pages d ks ws
  pages_same [] ws = refl
  pages_same (k ∷ ks) [] = refl
  pages_same (k ∷ ks) (w ∷ ws) = ap (λ ps. pages_on d k w ++ ps) (pages_same ks ws)
