-- How often the files are asked for the next pair, and for its row.
use Rattle.std.proofs.Common.{◌≡◌, ◌≢◌, ℕ, ◌+◌, ◌*◌, ◌≤◌, Bool, true, false, Option, Some, List, [], ◌∷◌, refl, sym, subst, arith}
use Rattle.std.specs.Prelude.{nat_lt}
use Rattle.std.proofs.lemmas.Bool.Decides.{nat_tests}
use Rattle.myi_base.specs.Holding.{Holding}
use Rattle.myi_defs.specs.declared.types.RowFormat.{RowFormat}
use Rattle.myi_defs.specs.declared.types.RowFormat.TheVariants.{Static, Dynamic}
use Rattle.myi_keylist.specs.declared.pair.Pair.{Pair}
use Rattle.myi_state.specs.State.{StoredRow, TableState, row_at}
use Rattle.myi_slots.specs.SlotFile.{SlotFile, IsFileOf}
use Rattle.myi_rows.specs.RowFile.{ReadsFewBy, ReadsFew}
use Rattle.myi_keytrees.specs.Standing.{RoseByLevels}
use Rattle.myi_ranges.specs.Ranges.{searches_behind, RoseBySearches, row_cost_by, row_cost}
use Rattle.myi_ranges.proofs.RowLemmas.{RowsStand}

-- ---- searches

more_room : (a b c x more : ℕ) → b ≤ a + x + 0 → c ≤ b + more → c ≤ a + x + more
more_room a b c x more one two = omega (arith, one, two)

-- behind a pair one search is needed at most
pub one_behind : (ahead : List Pair) → searches_behind ahead ≤ 1
one_behind [] = omega arith
one_behind (p ∷ ahead) = omega arith

pub still : (times pairs at : ℕ) → RoseBySearches times pairs 0 at at
still times pairs at = record { levels = 0; fit = omega arith; few = omega arith }

pub rose_none : (pairs before after : ℕ) → after ≡ before → RoseBySearches 0 pairs 0 before after
rose_none pairs before after e = record { levels = 0; fit = omega arith; few = omega (arith, e) }

pub rose_one : (pairs before after : ℕ) → RoseByLevels pairs before after → RoseBySearches 1 pairs 0 before after
rose_one pairs before after r = record { levels = r.levels; fit = r.fit; few = let few = r.few in omega (arith, few) }

pub rose_one_of_two : (pairs before after : ℕ) → RoseByLevels pairs before after → RoseBySearches 2 pairs 0 before after
rose_one_of_two pairs before after r = record { levels = r.levels; fit = r.fit; few = let few = r.few in omega (arith, few) }

pub rose_two : (pairs before mid after : ℕ) → RoseByLevels pairs before mid → RoseBySearches 1 pairs 0 mid after → RoseBySearches 2 pairs 0 before after
rose_two pairs before mid after one two = by (nat_lt one.levels two.levels) refl
  where
    by : (b : Bool) → nat_lt one.levels two.levels ≡ b → RoseBySearches 2 pairs 0 before after
    by true e =
        let less : one.levels ≤ two.levels = grind (arith, nat_tests, e) in
        record { levels = two.levels; fit = two.fit; few = let few = one.few in let more = two.few in omega (arith, few, more, less) }
    by false e =
        let less : two.levels ≤ one.levels = grind (arith, nat_tests, e) in
        record { levels = one.levels; fit = one.fit; few = let few = one.few in let more = two.few in omega (arith, few, more, less) }

-- a cursor asks for nothing where it has read pairs
pub rose_on : (ahead : List Pair) (pairs before after : ℕ) → (ahead ≢ [] → after ≡ before) → RoseByLevels pairs before after → RoseBySearches (searches_behind ahead) pairs 0 before after
rose_on [] pairs before after quiet r = rose_one pairs before after r
rose_on (p ∷ ahead) pairs before after quiet r = rose_none pairs before after (quiet (λ e. cc))

pub rose_more : (times pairs more before mid after : ℕ) → RoseBySearches times pairs 0 before mid → after ≤ mid + more → RoseBySearches times pairs more before after
rose_more times pairs more before mid after r lt = record { levels = r.levels; fit = r.fit; few = more_room before mid after (times * (r.levels + 1)) more r.few lt }

-- ---- the row

pub row_read : (f : SlotFile) (s : TableState) (n : Holding) (at : ℕ) (r : StoredRow) (before after : ℕ) → RowsStand → IsFileOf f s n → row_at at s.rows ≡ Some r → ReadsFew f at before after n → after ≤ before + row_cost f.defs (row_at at s.rows)
row_read f s n at r before after stand is e few = subst (λ (o : Option StoredRow). after ≤ before + row_cost f.defs o) (sym e) (by f.defs.format refl few)
  where
    by : (k : RowFormat) → f.defs.format ≡ k → ReadsFewBy k f at before after n → after ≤ before + row_cost_by k f.defs.slot_length r
    by Static static few = few
    by Dynamic dynamic few = few r (stand f s n at r dynamic is e)
