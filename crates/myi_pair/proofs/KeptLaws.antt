-- The rows that a repair keeps can be stored, and what it stores is read as these rows.
use Rattle.std.proofs.Common.{◌≡◌, ℕ, suc, ◌+◌, ◌-◌, ◌^◌, ◌<◌, ◌≤◌, sum_by, arith, subst, Bool, true, false, cond, List, [], ◌∷◌, ◌++◌, length, map, Option, Some, None, is_some, unwrap_or, refl, sym, ap, ◌∙◌}
use Rattle.std.specs.List.{list_any, AllByRecursion}
use Rattle.std.proofs.lemmas.List.Elements.{All-from_recursion}
use Rattle.std.proofs.lemmas.List.Sums.{sum_by-cons}
use Rattle.myi_base.specs.Numbers.{AreBytes}
use Rattle.myi_base.specs.Ranges.{Range}
use Rattle.myi_defs.specs.declared.types.RowFormat.{RowFormat}
use Rattle.myi_defs.specs.declared.types.RowFormat.TheVariants.{Static, Dynamic}
use Rattle.myi_defs.specs.declared.types.Defs.{Defs}
use Rattle.myi_defs.specs.Sound.{IsSound}
use Rattle.myi_defs.specs.ReadDefs.{AreDefs}
use Rattle.myi_defs.proofs.CallerLemmas.{sound}
use Rattle.myi_pack.specs.Packed.{Values, Packs}
use Rattle.myi_pack.specs.Unpacking.{row_of}
use Rattle.myi_pack.specs.Spelling.{spelling, fits}
use Rattle.myi_pack.proofs.CallerLemmas.{row-takes, row-fits, row-reads, row-least}
use Rattle.myi_chain.specs.Readable.{Row}
use Rattle.myi_data.specs.Readable.{readable}
use Rattle.myi_data.specs.Stored.{SizedRow, values_in, Share, group, stored_size, stored, stored_from, stored_file, block_count, ranges_from, stored_rows, HaveHeld, IsStorable}
use Rattle.myi_data.proofs.CallerLemmas.{stored_read, group_again, stored_again}
use Rattle.myi_pair.specs.FirstRows.{repeats, repeats_row, first_rows, AreDistinct}
use Rattle.myi_keylist.specs.FirstBy.{first_after}
use Rattle.myi_pair.specs.KeyList.{PlacedRow}
use Rattle.myi_pair.specs.Clean.{values_of, sized_row}
use Rattle.myi_pair.specs.RebuiltBytes.{placed_from}
use Rattle.myi_pair.specs.RecoveredBytes.{kept, new_data}
use Rattle.myi_pair.proofs.FirstRowsLaws.{distinct, all_kept}
use Rattle.myi_pair.proofs.ReadLaws.{HasHeld, IsFine, readable_fine}

-- a readable row has values, which can be stored

read_some : (o : Option Values) → is_some o ≡ true → o ≡ Some (unwrap_or o [])
read_some None is = absurd cc
read_some (Some v) is = refl

pub packs_values : (d : Defs) (len : ℕ) (r : Row) → IsSound d → IsFine d.format d len r → Packs d (values_of d r) r.bytes
packs_values d len r s fine = row-takes d (values_of d r) r.bytes s.lengths fine.bytes (read_some (row_of d r.bytes) fine.packed)

pub row_storable : (d : Defs) (len : ℕ) (r : Row) → AreDefs d → IsFine d.format d len r → IsStorable d (sized_row d r)
row_storable d len r are fine =
    let s : IsSound d = sound d are in
    let fit : fits d (values_of d r) ≡ true = row-fits d (values_of d r) r.bytes s (packs_values d len r s fine) fine.counted in
    let few : length (spelling d (values_of d r)) ≤ length r.bytes = row-least d (values_of d r) r.bytes s (packs_values d len r s fine) in
    record { fits = fit; held = λ dynamic long. held_as d.format (length (spelling d (values_of d r))) dynamic fine.held few }
  where
    held_as : (f : RowFormat) (n : ℕ) → f ≡ Dynamic → HasHeld f r → n ≤ length r.bytes → HaveHeld (map (λ (a : Range). a.1 - a.0) r.blocks) n
    held_as Dynamic n e held few = held n few
    held_as Static n e held few = absurd cc

rows_storable : (d : Defs) (len : ℕ) (rows : List Row) → AreDefs d → AllByRecursion (IsFine d.format d len) rows → AllByRecursion (λ (r : Row). IsStorable d (sized_row d r)) rows
rows_storable d len [] are fine = tt
rows_storable d len (r ∷ rows) are fine = (row_storable d len r are fine.0, rows_storable d len rows are fine.1)

pub readable_storable : (d : Defs) (extend : Bool) (x : List ℕ) → AreDefs d → AreBytes x → AllByRecursion (λ (r : Row). IsStorable d (sized_row d r)) (readable d extend x)
readable_storable d extend x are bytes = rows_storable d (length x) (readable d extend x) are (readable_fine d extend x bytes)

-- and so can those that are kept

pub all-mapped : {X Y : Type 0} (P : Y → Type 0) (f : X → Y) (xs : List X) → AllByRecursion (λ x. P (f x)) xs → AllByRecursion P (map f xs)
all-mapped P f [] all = tt
all-mapped P f (x ∷ xs) all = (all.0, all-mapped P f xs all.1)

first_after_all : (P : SizedRow → Type 0) (repeats : SizedRow → SizedRow → Bool) (before rows : List SizedRow) → AllByRecursion P rows → AllByRecursion P (first_after repeats before rows)
first_after_all P repeats before [] all = tt
first_after_all P repeats before (row ∷ rows) all = choose (list_any (repeats row) before) (first_after_all P repeats before rows all.1) (first_after_all P repeats (before ++ row ∷ []) rows all.1)
  where
    choose : (b : Bool) → AllByRecursion P (first_after repeats before rows) → AllByRecursion P (first_after repeats (before ++ row ∷ []) rows) → AllByRecursion P (cond b (first_after repeats before rows) (row ∷ first_after repeats (before ++ row ∷ []) rows))
    choose true dropped added = dropped
    choose false dropped added = (all.0, added)

pub kept_each : (d : Defs) (extend : Bool) (x : List ℕ) → AreDefs d → AreBytes x → AllByRecursion (IsStorable d) (kept d extend x)
unfolding kept first_rows
kept_each d extend x are bytes =
    first_after_all (IsStorable d) (repeats_row d) [] (map (sized_row d) (readable d extend x)) (all-mapped (IsStorable d) (sized_row d) (readable d extend x) (readable_storable d extend x are bytes))

-- what is stored is read

pub laid_values : (d : Defs) (at : ℕ) (rs : List SizedRow) → IsSound d → AllByRecursion (IsStorable d) rs → map (values_of d) (stored_rows d at rs) ≡ values_in rs
unfolding stored_rows
laid_values d at [] s all = refl
laid_values d at (r ∷ rs) s all =
    let first : unwrap_or (row_of d (spelling d r.values)) [] ≡ r.values = ap (λ (o : Option Values). unwrap_or o []) (row-reads d r.values s all.0.fits) in
    ap (λ w. w ∷ map (values_of d) (stored_rows d (at + stored_size d r) rs)) first ∙ ap (λ ws. r.values ∷ ws) (laid_values d (at + stored_size d r) rs s all.1)

pub rows_read : (d : Defs) (any : Bool) (rows : List SizedRow) → IsSound d → AllByRecursion (IsStorable d) rows → length (stored_file d rows) < 2 ^ 64 - 1 → readable d any (stored_file d rows) ≡ stored_rows d 0 rows
rows_read d any rows s all near = stored_read d any rows s (All-from_recursion (IsStorable d) rows all) (λ _. near)

pub values_read : (d : Defs) (any : Bool) (rows : List SizedRow) → IsSound d → AllByRecursion (IsStorable d) rows → length (stored_file d rows) < 2 ^ 64 - 1 → map (values_of d) (readable d any (stored_file d rows)) ≡ values_in rows
values_read d any rows s all near = ap (map (values_of d)) (rows_read d any rows s all near) ∙ laid_values d 0 rows s all

-- and a repair of it keeps them all, with the sizes of their new blocks

pub kept_distinct : (d : Defs) (extend : Bool) (x : List ℕ) → AreDistinct d [] (values_in (kept d extend x))
unfolding kept
kept_distinct d extend x = distinct d (map (sized_row d) (readable d extend x))

kept_of : (d : Defs) (extend : Bool) (x : List ℕ) → kept d extend x ≡ first_rows d (map (sized_row d) (readable d extend x))
unfolding kept
kept_of d extend x = refl

pub values_sized : (d : Defs) (rows : List Row) → values_in (map (sized_row d) rows) ≡ map (values_of d) rows
values_sized d [] = refl
values_sized d (r ∷ rows) = ap (λ vs. values_of d r ∷ vs) (values_sized d rows)

-- a row with the sizes of the blocks in which it is stored
abbrev resized : Defs → SizedRow → SizedRow
resized d r = record { values = r.values; sizes = map (λ (s : Share). s.size) (group d r) }

values_resized : (d : Defs) (rs : List SizedRow) → values_in (map (resized d) rs) ≡ values_in rs
values_resized d [] = refl
values_resized d (r ∷ rs) = ap (λ vs. r.values ∷ vs) (values_resized d rs)

ranges_sizes : (at : ℕ) (g : List Share) → map (λ (a : Range). a.1 - a.0) (ranges_from at g) ≡ map (λ (s : Share). s.size) g
ranges_sizes at [] = refl
ranges_sizes at (s ∷ g) =
    let size : at + s.size - at ≡ s.size = omega arith in
    ap (λ n. n ∷ map (λ (a : Range). a.1 - a.0) (ranges_from (at + s.size) g)) size ∙ ap (λ (ns : List ℕ). s.size ∷ ns) (ranges_sizes (at + s.size) g)

laid_sized : (d : Defs) (at : ℕ) (rs : List SizedRow) → IsSound d → AllByRecursion (IsStorable d) rs → map (sized_row d) (stored_rows d at rs) ≡ map (resized d) rs
unfolding stored_rows
laid_sized d at [] s all = refl
laid_sized d at (r ∷ rs) s all =
    let first : unwrap_or (row_of d (spelling d r.values)) [] ≡ r.values = ap (λ (o : Option Values). unwrap_or o []) (row-reads d r.values s all.0.fits) in
    let next : ℕ = at + stored_size d r in
    let sizes : List ℕ = map (λ (a : Range). a.1 - a.0) (ranges_from at (group d r)) in
    ap (λ (w : Values). record { values = w; sizes = sizes } ∷ map (sized_row d) (stored_rows d next rs)) first
    ∙ ap (λ (ns : List ℕ). record { values = r.values; sizes = ns } ∷ map (sized_row d) (stored_rows d next rs)) (ranges_sizes at (group d r))
    ∙ ap (λ (rows : List SizedRow). resized d r ∷ rows) (laid_sized d next rs s all.1)

pub kept_again : (d : Defs) (any : Bool) (rows : List SizedRow) → IsSound d → AllByRecursion (IsStorable d) rows → AreDistinct d [] (values_in rows) → length (stored_file d rows) < 2 ^ 64 - 1 → kept d any (stored_file d rows) ≡ map (resized d) rows
kept_again d any rows s all distinct near =
    let apart : AreDistinct d [] (values_in (map (resized d) rows)) = subst (AreDistinct d []) (sym (values_resized d rows)) distinct in
    kept_of d any (stored_file d rows)
    ∙ ap (λ (read : List Row). first_rows d (map (sized_row d) read)) (rows_read d any rows s all near)
    ∙ ap (first_rows d) (laid_sized d 0 rows s all)
    ∙ all_kept d (map (resized d) rows) apart

pub settled : (d : Defs) (any : Bool) (rows : List SizedRow) → IsSound d → AllByRecursion (IsStorable d) rows → AreDistinct d [] (values_in rows) → length (stored_file d rows) < 2 ^ 64 - 1 → values_in (kept d any (stored_file d rows)) ≡ values_in rows
settled d any rows s all distinct near = ap values_in (kept_again d any rows s all distinct near) ∙ values_resized d rows

-- ---- in these sizes they are stored as they were

-- the same bytes, the same number of blocks and the same places
pub record AreAlike (d : Defs) (one other : List SizedRow) : Type 0 where
  pub file : stored_file d one ≡ stored_file d other
  pub blocks : block_count d one ≡ block_count d other
  pub placed : placed_from d 0 one ≡ placed_from d 0 other
  pub count : length one ≡ length other

module _ (d : Defs) where
  group_same : (r : SizedRow) → group d (resized d r) ≡ group d r
  unfolding group
  group_same r = group_again d.format r.sizes (length (spelling d r.values))

  size_same : (r : SizedRow) → stored_size d (resized d r) ≡ stored_size d r
  size_same r = ap (λ (g : List Share). sum_by (λ (s : Share). s.size) g) (group_same r)

  stored_same : (at : ℕ) (r : SizedRow) → stored d at (resized d r) ≡ stored d at r
  unfolding stored group
  stored_same at r = stored_again d.format at r.sizes (spelling d r.values)

  from_same : (at : ℕ) (rs : List SizedRow) → stored_from d at (map (resized d) rs) ≡ stored_from d at rs
  from_same at [] = refl
  from_same at (r ∷ rs) =
      ap (λ b. b ++ stored_from d (at + stored_size d (resized d r)) (map (resized d) rs)) (stored_same at r)
      ∙ ap (λ n. stored d at r ++ stored_from d (at + n) (map (resized d) rs)) (size_same r)
      ∙ ap (λ bs. stored d at r ++ bs) (from_same (at + stored_size d r) rs)

  placed_same : (at : ℕ) (rs : List SizedRow) → placed_from d at (map (resized d) rs) ≡ placed_from d at rs
  placed_same at [] = refl
  placed_same at (r ∷ rs) =
      ap (λ n. (at, r.values) ∷ placed_from d (at + n) (map (resized d) rs)) (size_same r) ∙ ap (λ (ps : List PlacedRow). (at, r.values) ∷ ps) (placed_same (at + stored_size d r) rs)

  blocks_same : (rs : List SizedRow) → block_count d (map (resized d) rs) ≡ block_count d rs
  blocks_same [] = refl
  blocks_same (r ∷ rs) =
      sum_by-cons (λ (r : SizedRow). length (group d r)) (resized d r) (map (resized d) rs)
      ∙ omega (arith, ap (λ (g : List Share). length g) (group_same r), blocks_same rs)
      ∙ sym (sum_by-cons (λ (r : SizedRow). length (group d r)) r rs)

  count_same : (rs : List SizedRow) → length (map (resized d) rs) ≡ length rs
  count_same [] = refl
  count_same (r ∷ rs) = ap suc (count_same rs)

  alike_resized : (rs : List SizedRow) → AreAlike d (map (resized d) rs) rs
  unfolding stored_file
  alike_resized rs = record { file = from_same 0 rs; blocks = blocks_same rs; placed = placed_same 0 rs; count = count_same rs }

pub data_of : (d : Defs) (extend : Bool) (x : List ℕ) → new_data d extend x ≡ stored_file d (kept d extend x)
unfolding new_data
data_of d extend x = refl

-- what a repair keeps of a file of such rows is stored as it was
pub settled_alike : (d : Defs) (any : Bool) (rows : List SizedRow) → IsSound d → AllByRecursion (IsStorable d) rows → AreDistinct d [] (values_in rows) → length (stored_file d rows) < 2 ^ 64 - 1 → AreAlike d (kept d any (stored_file d rows)) rows
settled_alike d any rows s all distinct near = subst (λ (rs : List SizedRow). AreAlike d rs rows) (sym (kept_again d any rows s all distinct near)) (alike_resized d rows)
