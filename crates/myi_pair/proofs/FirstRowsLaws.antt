-- Of first rows none repeats one before it; and they are the first rows by the unique keys of the table.
use Rattle.std.proofs.Common.{◌≡◌, ℕ, Bool, true, false, cond, ◌&&◌, ◌||◌, List, [], ◌∷◌, ◌++◌, map, refl, sym, ap, subst, ◌∙◌}
use Rattle.std.specs.Prelude.{filter}
use Rattle.std.specs.List.{list_any}
use Rattle.myi_defs.specs.declared.types.Defs.{Defs}
use Rattle.myi_pack.specs.Packed.{Values}
use Rattle.myi_keylist.specs.Repeats.{is_same_key}
use Rattle.myi_keylist.specs.FirstBy.{first_after, first_by, repeats_in}
use Rattle.myi_data.specs.Keys.{key_of}
use Rattle.myi_data.specs.Stored.{SizedRow, values_in}
use Rattle.myi_rowkeys.specs.TableKeys.{key_in, unique_keys}
use Rattle.myi_pair.specs.FirstRows.{key_numbers, is_unique, repeats_key, repeats, repeats_row, first_rows, AreDistinct}

-- rows by their values

any_values : (test : Values → Bool) (rows : List SizedRow) → list_any (λ (r : SizedRow). test r.values) rows ≡ list_any test (values_in rows)
any_values test [] = refl
any_values test (row ∷ rows) = ap (λ b. test row.values || b) (any_values test rows)

values_snoc : (rows : List SizedRow) (row : SizedRow) → values_in (rows ++ row ∷ []) ≡ values_in rows ++ row.values ∷ []
values_snoc [] row = refl
values_snoc (r ∷ rows) row = ap (λ vs. r.values ∷ vs) (values_snoc rows row)

-- what is kept is distinct

distinct_next : (d : Defs) (kept : List SizedRow) (row : SizedRow) (rows : List SizedRow) (b : Bool) → list_any (repeats_row d row) kept ≡ b → AreDistinct d (values_in kept) (values_in (first_after (repeats_row d) kept rows))
    → AreDistinct d (values_in (kept ++ row ∷ [])) (values_in (first_after (repeats_row d) (kept ++ row ∷ []) rows))
    → AreDistinct d (values_in kept) (values_in (cond b (first_after (repeats_row d) kept rows) (row ∷ first_after (repeats_row d) (kept ++ row ∷ []) rows)))
distinct_next d kept row rows true is dropped added = dropped
distinct_next d kept row rows false is dropped added =
    (sym (any_values (repeats d row.values) kept) ∙ is, subst (λ vs. AreDistinct d vs (values_in (first_after (repeats_row d) (kept ++ row ∷ []) rows))) (values_snoc kept row) added)

distinct_after : (d : Defs) (kept rows : List SizedRow) → AreDistinct d (values_in kept) (values_in (first_after (repeats_row d) kept rows))
distinct_after d kept [] = tt
distinct_after d kept (row ∷ rows) = distinct_next d kept row rows (list_any (repeats_row d row) kept) refl (distinct_after d kept rows) (distinct_after d (kept ++ row ∷ []) rows)

pub distinct : (d : Defs) (rows : List SizedRow) → AreDistinct d [] (values_in (first_rows d rows))
unfolding first_rows
distinct d rows = distinct_after d [] rows

-- distinct rows are all kept

all_after : (d : Defs) (kept rows : List SizedRow) → AreDistinct d (values_in kept) (values_in rows) → first_after (repeats_row d) kept rows ≡ rows
all_after d kept [] are = refl
all_after d kept (row ∷ rows) are =
    ap (λ (b : Bool). cond b (first_after (repeats_row d) kept rows) (row ∷ first_after (repeats_row d) (kept ++ row ∷ []) rows)) (any_values (repeats d row.values) kept ∙ are.0)
    ∙ ap (λ rs. row ∷ rs) (all_after d (kept ++ row ∷ []) rows (subst (λ vs. AreDistinct d vs (values_in rows)) (sym (values_snoc kept row)) are.1))

pub all_kept : (d : Defs) (rows : List SizedRow) → AreDistinct d [] (values_in rows) → first_rows d rows ≡ rows
unfolding first_rows
all_kept d rows are = all_after d [] rows are

-- rows repeat each other where they do so in one of the unique keys

any_unique : (d : Defs) (row other : SizedRow) (ks : List ℕ) → list_any (repeats_key d row.values other.values) ks ≡ repeats_in (map (key_in d) (filter (is_unique d) ks)) row other
any_unique d row other [] = refl
any_unique d row other (k ∷ ks) = by (is_unique d k) (any_unique d row other ks)
  where
    by : (b : Bool) → list_any (repeats_key d row.values other.values) ks ≡ repeats_in (map (key_in d) (filter (is_unique d) ks)) row other
        → ((b && is_same_key (key_of d k row.values) (key_of d k other.values)) || list_any (repeats_key d row.values other.values) ks) ≡ repeats_in (map (key_in d) (cond b (k ∷ filter (is_unique d) ks) (filter (is_unique d) ks))) row other
    by true more = ap (λ r. is_same_key (key_of d k row.values) (key_of d k other.values) || r) more
    by false more = more

repeats_by : (d : Defs) (row other : SizedRow) → repeats_row d row other ≡ repeats_in (unique_keys d) row other
unfolding repeats
repeats_by d row other = any_unique d row other (key_numbers d)

any_same : {A : Type 0} (p q : A → Bool) → ((x : A) → p x ≡ q x) → (xs : List A) → list_any p xs ≡ list_any q xs
any_same p q same [] = refl
any_same p q same (x ∷ xs) = ap (λ b. b || list_any p xs) (same x) ∙ ap (λ b. q x || b) (any_same p q same xs)

after_alike : (p q : SizedRow → SizedRow → Bool) → ((x y : SizedRow) → p x y ≡ q x y) → (kept rows : List SizedRow) → first_after p kept rows ≡ first_after q kept rows
after_alike p q same kept [] = refl
after_alike p q same kept (row ∷ rows) =
    ap (λ b. cond b (first_after p kept rows) (row ∷ first_after p (kept ++ row ∷ []) rows)) (any_same (p row) (q row) (same row) kept)
    ∙ ap (λ rs. cond (list_any (q row) kept) rs (row ∷ first_after p (kept ++ row ∷ []) rows)) (after_alike p q same kept rows)
    ∙ ap (λ rs. cond (list_any (q row) kept) (first_after q kept rows) (row ∷ rs)) (after_alike p q same (kept ++ row ∷ []) rows)

pub first_by_keys : (d : Defs) (rows : List SizedRow) → first_rows d rows ≡ first_by (repeats_in (unique_keys d)) rows
unfolding first_rows
first_by_keys d rows = after_alike (repeats_row d) (repeats_in (unique_keys d)) (repeats_by d) [] rows
