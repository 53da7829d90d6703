-- A row that has a key of another one stands in the table.
use Rattle.std.proofs.Common.{◌≡◌, ℕ, Bool, true, false, cond, List, [], ◌∷◌, Option, Some, None, refl, sym, ap, subst, ◌∙◌, arith}
use Rattle.std.specs.Prelude.{◌==◌, option_map}
use Rattle.std.proofs.lemmas.Bool.Decides.{nat_tests}
use Rattle.myi_base.specs.Holding.{Holding}
use Rattle.myi_defs.specs.declared.types.Defs.{Defs}
use Rattle.myi_defs.specs.Sound.{IsSound}
use Rattle.myi_pack.specs.Packed.{Values}
use Rattle.myi_state.specs.State.{StoredRow, TableState, row_at, rows_without}
use Rattle.myi_slots.specs.SlotFile.{SlotFile, IsFileOf}
use Rattle.myi_pair.specs.FirstRows.{repeats_key, key_numbers}
use Rattle.myi_tablestate.specs.Keyed.{Holder, holder, or_later, first_holder}
use Rattle.myi_tablestate.specs.Listed.{position}
use Rattle.myi_rowtrees.specs.declared.duplicates.Duplicate.{Duplicate}
use Rattle.myi_rowtrees.specs.Duplicates.{others, held_at}
use Rattle.myi_ranges.specs.Ranges.{position_within}

-- a row stands at a place
abbrev pub StandsAt : ℕ → List StoredRow → Type 0
StandsAt at rows = (r : StoredRow) × (row_at at rows ≡ Some r) × (r.at ≡ at)

behind : (at : ℕ) (q : StoredRow) (rows : List StoredRow) → StandsAt at rows → StandsAt at (q ∷ rows)
behind at q rows s = by (q.at == at) refl
  where
    by : (b : Bool) → (q.at == at) ≡ b → (r : StoredRow) × (cond b (Some q) (row_at at rows) ≡ Some r) × (r.at ≡ at)
    by true is = (q, refl, grind (arith, nat_tests, is))
    by false is = s

in_front : (q : StoredRow) (rows : List StoredRow) → StandsAt q.at (q ∷ rows)
in_front q rows = (q, (let e : (q.at == q.at) ≡ true = grind (arith, nat_tests) in rw e refl), refl)

holder_stands : (d : Defs) (values : Values) (k at : ℕ) (rows : List StoredRow) → holder d values k rows ≡ Some at → StandsAt at rows
holder_stands d values k at [] is = absurd cc
holder_stands d values k at (q ∷ rows) is = by (repeats_key d values q.values k) is (holder_stands d values k at rows)
  where
    by : (b : Bool) → cond b (Some q.at) (holder d values k rows) ≡ Some at → (holder d values k rows ≡ Some at → StandsAt at rows) → StandsAt at (q ∷ rows)
    by true is more = let e : q.at ≡ at = cc in subst (λ (n : ℕ). StandsAt n (q ∷ rows)) e (in_front q rows)
    by false is more = behind at q rows (more is)

second : Option Holder → ℕ
second None = 0
second (Some h) = h.1

first_stands : (d : Defs) (values : Values) (k at : ℕ) (rows : List StoredRow) (ks : List ℕ) → first_holder d values rows ks ≡ Some (k, at) → StandsAt at rows
unfolding second
first_stands d values k at rows [] is = absurd cc
first_stands d values k at rows (n ∷ ks) is = by (holder d values n rows) (λ p e. holder_stands d values n p rows e) is (first_stands d values k at rows ks)
  where
    by : (o : Option ℕ) → ((p : ℕ) → o ≡ Some p → StandsAt p rows) → or_later n o (first_holder d values rows ks) ≡ Some (k, at) → (first_holder d values rows ks ≡ Some (k, at) → StandsAt at rows) → StandsAt at rows
    by None stands is more = more is
    by (Some p) stands is more = subst (λ (q : ℕ). StandsAt q rows) (ap second is) (stands p refl)

without_stands : (p at : ℕ) (rows : List StoredRow) → StandsAt at (rows_without p rows) → StandsAt at rows
without_stands p at [] s = s
without_stands p at (q ∷ rows) s = by (q.at == p) s (without_stands p at rows)
  where
    by : (b : Bool) → StandsAt at (cond b rows (q ∷ rows_without p rows)) → (StandsAt at (rows_without p rows) → StandsAt at rows) → StandsAt at (q ∷ rows)
    by true s more = behind at q rows s
    by false s more = within (q.at == at) refl s.1 more
      where
        within : (b : Bool) → (q.at == at) ≡ b → cond b (Some q) (row_at at (rows_without p rows)) ≡ Some s.0 → (StandsAt at (rows_without p rows) → StandsAt at rows) → StandsAt at (q ∷ rows)
        within true is e more = let same : q.at ≡ at = grind (arith, nat_tests, is) in subst (λ (n : ℕ). StandsAt n (q ∷ rows)) same (in_front q rows)
        within false is e more = behind at q rows (more (s.0, e, s.2))

pub other_stands : (d : Defs) (values : Values) (k at : ℕ) (own : Option ℕ) (rows : List StoredRow) → first_holder d values (others d own rows) (key_numbers d) ≡ Some (k, at) → StandsAt at rows
other_stands d values k at None rows is = first_stands d values k at rows (key_numbers d) is
other_stands d values k at (Some p) rows is = without_stands (position d p) at rows (first_stands d values k at (rows_without (position d p) rows) (key_numbers d) is)

abbrev pub Leads : Type 0
Leads = (f : SlotFile) (s : TableState) (m : Holding) (p : ℕ) (r : StoredRow) → IsSound f.defs → IsFileOf f s m → row_at r.at s.rows ≡ Some r → position f.defs p ≡ r.at → position_within f.defs f.counts.length p ≡ r.at

-- the place that is told of a row that has a key
pub held_is : Leads → (f : SlotFile) (s : TableState) (m : Holding) (values : Values) (own : Option ℕ) (found : Duplicate) → IsSound f.defs → IsFileOf f s m → option_map (held_at f.defs) (Some found) ≡ first_holder f.defs values (others f.defs own s.rows) (key_numbers f.defs)
    → first_holder f.defs values (others f.defs own s.rows) (key_numbers f.defs) ≡ Some (found.key, position_within f.defs f.counts.length found.row)
held_is leads f s m values own found sound is first =
    let at = position f.defs found.row in
    let there = other_stands f.defs values found.key at own s.rows (sym first) in
    let same = leads f s m found.row there.0 sound is (subst (λ (n : ℕ). row_at n s.rows ≡ Some there.0) (sym there.2) there.1) (sym there.2) in
    sym first ∙ ap (λ (n : ℕ). Some (found.key, n)) (sym there.2 ∙ sym same)

pub none_held : (d : Defs) (h : Option Holder) → option_map (held_at d) None ≡ h → h ≡ None
none_held d h is = sym is
