-- The first rows of unique keys, with one more row behind the others; and where the rows of a list stand.
use Rattle.std.proofs.Common.{◌≡◌, ℕ, ◌+◌, Bool, true, false, not, List, [], ◌∷◌, ◌++◌, length, refl, sym, ap, ◌∙◌, arith, append_assoc, append-nil}
use Rattle.std.specs.List.{AllByRecursion, list_any}
use Rattle.std.proofs.lemmas.List.{length_push}
use Rattle.myi_defs.specs.declared.types.Defs.{Defs}
use Rattle.myi_keylist.specs.FirstBy.{first_after, first_by}
use Rattle.myi_data.specs.Stored.{SizedRow, IsStorable}
use Rattle.myi_pair.specs.FirstRows.{repeats_row, first_rows}
use Rattle.myi_saferepair.specs.Filling.{with_row, is_first}

-- one row more, behind those that are kept already
put_first : (b : Bool) (r : SizedRow) (xs : List SizedRow) (row : SizedRow) → r ∷ with_row b xs row ≡ with_row b (r ∷ xs) row
put_first true r xs row = refl
put_first false r xs row = refl

after_step : (repeats : SizedRow → SizedRow → Bool) (kept : List SizedRow) (r : SizedRow) (rows : List SizedRow) (row : SizedRow) (there b : Bool) → list_any (repeats r) kept ≡ b
    → (list_any (repeats row) (kept ++ first_after repeats kept rows) ≡ there → first_after repeats kept (rows ++ row ∷ []) ≡ with_row (not there) (first_after repeats kept rows) row)
    → (list_any (repeats row) ((kept ++ r ∷ []) ++ first_after repeats (kept ++ r ∷ []) rows) ≡ there → first_after repeats (kept ++ r ∷ []) (rows ++ row ∷ []) ≡ with_row (not there) (first_after repeats (kept ++ r ∷ []) rows) row)
    → list_any (repeats row) (kept ++ first_after repeats kept (r ∷ rows)) ≡ there → first_after repeats kept ((r ∷ rows) ++ row ∷ []) ≡ with_row (not there) (first_after repeats kept (r ∷ rows)) row
after_step repeats kept r rows row there true e left put is =
    let here : first_after repeats kept (r ∷ rows) ≡ first_after repeats kept rows = rw e refl in
    rw e (left (ap (λ (xs : List SizedRow). list_any (repeats row) (kept ++ xs)) (sym here) ∙ is))
after_step repeats kept r rows row there false e left put is =
    let here : first_after repeats kept (r ∷ rows) ≡ r ∷ first_after repeats (kept ++ r ∷ []) rows = rw e refl in
    let same : (kept ++ r ∷ []) ++ first_after repeats (kept ++ r ∷ []) rows ≡ kept ++ first_after repeats kept (r ∷ rows) = append_assoc kept (r ∷ []) (first_after repeats (kept ++ r ∷ []) rows) ∙ ap (λ (xs : List SizedRow). kept ++ xs) (sym here) in
    rw e (ap (λ (xs : List SizedRow). r ∷ xs) (put (ap (list_any (repeats row)) same ∙ is)) ∙ put_first (not there) r (first_after repeats (kept ++ r ∷ []) rows) row)

after_more : (repeats : SizedRow → SizedRow → Bool) (kept rows : List SizedRow) (row : SizedRow) (there : Bool) → list_any (repeats row) (kept ++ first_after repeats kept rows) ≡ there
    → first_after repeats kept (rows ++ row ∷ []) ≡ with_row (not there) (first_after repeats kept rows) row
after_more repeats kept [] row true is = rw (ap (list_any (repeats row)) (sym (append-nil kept)) ∙ is) refl
after_more repeats kept [] row false is = rw (ap (list_any (repeats row)) (sym (append-nil kept)) ∙ is) refl
after_more repeats kept (r ∷ rows) row there is = after_step repeats kept r rows row there (list_any (repeats r) kept) refl (after_more repeats kept rows row there) (after_more repeats (kept ++ r ∷ []) rows row there) is

pub first_more : (d : Defs) (rows : List SizedRow) (row : SizedRow) → first_rows d (rows ++ row ∷ []) ≡ with_row (is_first d (first_rows d rows) row) (first_rows d rows) row
unfolding first_rows
first_more d rows row = after_more (repeats_row d) [] rows row (list_any (repeats_row d row) (first_by (repeats_row d) rows)) refl

pub none_first : (d : Defs) → first_rows d [] ≡ []
unfolding first_rows
none_first d = refl

-- the first rows of storable rows are storable
storable_step : (d : Defs) (repeats : SizedRow → SizedRow → Bool) (kept : List SizedRow) (r : SizedRow) (rows : List SizedRow) (b : Bool) → list_any (repeats r) kept ≡ b → IsStorable d r → AllByRecursion (IsStorable d) (first_after repeats kept rows) → AllByRecursion (IsStorable d) (first_after repeats (kept ++ r ∷ []) rows)
    → AllByRecursion (IsStorable d) (first_after repeats kept (r ∷ rows))
storable_step d repeats kept r rows true e can left put = rw e left
storable_step d repeats kept r rows false e can left put = rw e (can, put)

after_storable : (d : Defs) (repeats : SizedRow → SizedRow → Bool) (kept rows : List SizedRow) → AllByRecursion (IsStorable d) rows → AllByRecursion (IsStorable d) (first_after repeats kept rows)
after_storable d repeats kept [] all = tt
after_storable d repeats kept (r ∷ rows) all = storable_step d repeats kept r rows (list_any (repeats r) kept) refl all.0 (after_storable d repeats kept rows all.1) (after_storable d repeats (kept ++ r ∷ []) rows all.1)

pub first_storable : (d : Defs) (rows : List SizedRow) → AllByRecursion (IsStorable d) rows → AllByRecursion (IsStorable d) (first_rows d rows)
unfolding first_rows
first_storable d rows all = after_storable d (repeats_row d) [] rows all

-- ---- parts of a list

pub front_all : {X : Type 0} (P : X → Type 0) (xs ys : List X) → AllByRecursion P (xs ++ ys) → AllByRecursion P xs
front_all P [] ys all = tt
front_all P (x ∷ xs) ys all = (all.0, front_all P xs ys all.1)

-- how many rows are kept and how many are not
pub count_kept : (keeps : Bool) (rows came : List SizedRow) (row : SizedRow) (repeats more : ℕ) → length rows + repeats ≡ length came → (keeps ≡ true → more ≡ repeats) → (keeps ≡ false → more ≡ repeats + 1) → length (with_row keeps rows row) + more ≡ length (came ++ row ∷ [])
count_kept true rows came row repeats more is same other = omega (arith, is, same refl, length_push rows row, length_push came row)
count_kept false rows came row repeats more is same other = omega (arith, is, other refl, length_push came row)
