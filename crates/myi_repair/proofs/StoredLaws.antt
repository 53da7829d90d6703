-- The file of stored rows with one more at the end.
use Rattle.std.proofs.Common.{◌≡◌, ℕ, ◌+◌, List, [], ◌∷◌, ◌++◌, length, sym, ap, ◌∙◌, arith, length-append, append_assoc}
use Rattle.std.specs.List.{AllByRecursion}
use Rattle.std.proofs.lemmas.List.{append-nil}
use Rattle.std.proofs.lemmas.List.Sums.{sum_by-cons, sum_by-append}
use Rattle.myi_defs.specs.declared.types.Defs.{Defs}
use Rattle.myi_defs.specs.Sound.{IsSound}
use Rattle.myi_data.specs.Stored.{SizedRow, group, stored_size, stored, stored_from, stored_file, block_count, IsStorable}
use Rattle.myi_data.proofs.CallerLemmas.{stored_long}

-- ---- one more row at the end

module _ (d : Defs) (s : IsSound d) where
  from_more : (at : ℕ) (rows : List SizedRow) (row : SizedRow) → AllByRecursion (IsStorable d) rows → stored_from d at (rows ++ row ∷ []) ≡ stored_from d at rows ++ stored d (at + length (stored_from d at rows)) row
  from_more at [] row all = let e : at ≡ at + 0 = omega arith in append-nil (stored d at row) ∙ ap (λ p. stored d p row) e
  from_more at (r ∷ rows) row all =
      let next : ℕ = at + stored_size d r in
      let more : List ℕ = stored_from d next rows in
      let e : next + length more ≡ at + length (stored d at r ++ more) = omega (arith, stored_long d r s all.0 at, length-append (stored d at r) more) in
      ap (λ x. stored d at r ++ x) (from_more next rows row all.1)
      ∙ ap (λ p. stored d at r ++ (more ++ stored d p row)) e
      ∙ sym (append_assoc (stored d at r) more (stored d (at + length (stored d at r ++ more)) row))

  pub laid_more : (rows : List SizedRow) (row : SizedRow) → AllByRecursion (IsStorable d) rows → stored_file d (rows ++ row ∷ []) ≡ stored_file d rows ++ stored d (length (stored_file d rows)) row
  unfolding stored_file
  laid_more rows row all = let e : 0 + length (stored_from d 0 rows) ≡ length (stored_from d 0 rows) = omega arith in from_more 0 rows row all ∙ ap (λ p. stored_from d 0 rows ++ stored d p row) e

pub blocks_more : (d : Defs) (rows : List SizedRow) (row : SizedRow) → block_count d (rows ++ row ∷ []) ≡ block_count d rows + length (group d row)
blocks_more d rows row = sum_by-append (λ (r : SizedRow). length (group d r)) rows (row ∷ []) ∙ ap (λ n. block_count d rows + n) (sum_by-cons (λ (r : SizedRow). length (group d r)) row [] ∙ (let e : length (group d row) + 0 ≡ length (group d row) = omega arith in e))

-- what holds of all rows and one more, or of all pointers and one more
pub all_more : {X : Type 0} (P : X → Type 0) (xs : List X) (x : X) → AllByRecursion P xs → P x → AllByRecursion P (xs ++ x ∷ [])
all_more P [] x all one = (one, tt)
all_more P (y ∷ xs) x all one = (all.0, all_more P xs x all.1 one)

pub all_parts : {X : Type 0} (P : X → Type 0) (xs : List X) (x : X) → AllByRecursion P (xs ++ x ∷ []) → AllByRecursion P xs × P x
all_parts P [] x all = (tt, all.0)
all_parts P (y ∷ xs) x all = let rest = all_parts P xs x all.1 in ((all.0, rest.0), rest.1)
