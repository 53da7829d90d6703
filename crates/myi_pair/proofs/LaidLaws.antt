-- A laid file is covered by the blocks of its rows, and no deleted block is left in it.
use Rattle.std.proofs.Common.{◌≡◌, ℕ, suc, ◌+◌, ◌<◌, ◌≤◌, Bool, true, false, cond, ◌&&◌, ◌||◌, List, [], ◌∷◌, ◌++◌, length, length-append, map, filter, nat_le, nat_lt, sum_by, unwrap_or, Option, refl, sym, ap, ◌∙◌, arith}
use Rattle.std.specs.List.{list_any, AllByRecursion}
use Rattle.std.proofs.lemmas.Bool.{and_from, and_left, and_right, or_left, or_right, or_cases, or_from, le-leb, lt-leb, leb-true, ltb-true, ltb-false, and_parts}
use Rattle.std.proofs.Common.{◌⊎◌, inl, inr}
use Rattle.myi_base.specs.Ranges.{Range, are_apart, is_apart}
use Rattle.myi_defs.specs.declared.types.Defs.{Defs}
use Rattle.myi_defs.specs.Sound.{IsSound}
use Rattle.myi_pack.specs.Packed.{Values}
use Rattle.myi_pack.specs.Unpacking.{row_of}
use Rattle.myi_pack.specs.Spelling.{spelling}
use Rattle.myi_pack.proofs.CallerLemmas.{row-reads}
use Rattle.myi_chain.specs.Readable.{frees_of}
use Rattle.myi_chain.specs.Meeting.{ranges_of}
use Rattle.myi_data.specs.Readable.{items_in, readable, deleted}
use Rattle.myi_data.specs.Stored.{SizedRow, Share, group, stored_size, block_count, ranges_from, stored_rows, IsStorable}
use Rattle.myi_data.proofs.CallerLemmas.{stored_some}
use Rattle.std.proofs.lemmas.List.Folds.{list_any-append}
use Rattle.std.proofs.lemmas.List.Sums.{sum_by-cons}
use Rattle.myi_pair.specs.KeyList.{PlacedRow}
use Rattle.myi_pair.specs.Clean.{placed_row, covers}
use Rattle.myi_pair.specs.RebuiltBytes.{placed_from}
use Rattle.myi_pair.proofs.ReadLaws.{IsInFile, frees_fine}
use Rattle.myi_pair.proofs.SizedLaws.{IsNear}
use Rattle.myi_pair.proofs.ShorterLaws.{stored_length}

step_length : (d : Defs) (r : SizedRow) (rs : List SizedRow) → stored_length d (r ∷ rs) ≡ stored_size d r + stored_length d rs
step_length d r rs = sum_by-cons (λ q. stored_size d q) r rs

-- every byte belongs to a block of a row

ranges_covered : (at p : ℕ) (g : List Share) → at ≤ p → p < at + sum_by (λ (s : Share). s.size) g → list_any (covers p) (ranges_from at g) ≡ true
ranges_covered at p [] low high = absurd (omega arith)
ranges_covered at p (s ∷ g) low high = by (nat_lt p (at + s.size)) refl (λ past. ranges_covered (at + s.size) p g past (omega (arith, high, sum_by-cons (λ (s : Share). s.size) s g)))
  where
    by : (b : Bool) → nat_lt p (at + s.size) ≡ b → (at + s.size ≤ p → list_any (covers p) (ranges_from (at + s.size) g) ≡ true) → (covers p (at, at + s.size) || list_any (covers p) (ranges_from (at + s.size) g)) ≡ true
    by true is again = or_left (covers p (at, at + s.size)) (list_any (covers p) (ranges_from (at + s.size) g)) (and_from (nat_le at p) (nat_lt p (at + s.size)) (le-leb at p low) is)
    by false is again = or_right (covers p (at, at + s.size)) (list_any (covers p) (ranges_from (at + s.size) g)) (again (ltb-false p (at + s.size) is))

pub laid_covered : (d : Defs) (at p : ℕ) (rs : List SizedRow) → at ≤ p → p < at + stored_length d rs → list_any (covers p) (ranges_of (stored_rows d at rs)) ≡ true
unfolding stored_rows
laid_covered d at p [] low high = absurd (omega arith)
laid_covered d at p (r ∷ rs) low high =
    by (nat_lt p (at + stored_size d r)) refl (λ past. laid_covered d (at + stored_size d r) p rs past (omega (arith, step_length d r rs)))
  where
    by : (b : Bool) → nat_lt p (at + stored_size d r) ≡ b → (at + stored_size d r ≤ p → list_any (covers p) (ranges_of (stored_rows d (at + stored_size d r) rs)) ≡ true) → list_any (covers p) (ranges_from at (group d r) ++ ranges_of (stored_rows d (at + stored_size d r) rs)) ≡ true
    by true is again =
        list_any-append (covers p) (ranges_from at (group d r)) (ranges_of (stored_rows d (at + stored_size d r) rs))
        ∙ or_left (list_any (covers p) (ranges_from at (group d r))) (list_any (covers p) (ranges_of (stored_rows d (at + stored_size d r) rs))) (ranges_covered at p (group d r) low (ltb-true _ _ is))
    by false is again =
        list_any-append (covers p) (ranges_from at (group d r)) (ranges_of (stored_rows d (at + stored_size d r) rs))
        ∙ or_right (list_any (covers p) (ranges_from at (group d r))) (list_any (covers p) (ranges_of (stored_rows d (at + stored_size d r) rs))) (again (ltb-false p (at + stored_size d r) is))

-- so no deleted block is apart from them

not_apart : (a : Range) (rs : List Range) → a.0 < a.1 → list_any (covers a.0) rs ≡ true → is_apart a rs ≡ false
not_apart a [] some any = absurd cc
not_apart a (r ∷ rs) some any = by (or_cases (covers a.0 r) (list_any (covers a.0) rs) any) (not_apart a rs some)
  where
    by : (covers a.0 r ≡ true) ⊎ (list_any (covers a.0) rs ≡ true) → (list_any (covers a.0) rs ≡ true → is_apart a rs ≡ false) → (are_apart a r && is_apart a rs) ≡ false
    by (inl here) again =
        let both = and_parts (nat_le r.0 a.0) (nat_lt a.0 r.1) here in
        let low : r.0 ≤ a.0 = leb-true _ _ both.0 in
        let high : a.0 < r.1 = ltb-true _ _ both.1 in
        and_left (are_apart a r) (is_apart a rs) (or_from (nat_le a.1 r.0) (nat_le r.1 a.0) (lt-leb a.1 r.0 (omega arith)) (lt-leb r.1 a.0 (omega arith)))
    by (inr there) again = and_right (are_apart a r) (is_apart a rs) (again there)

none_left : (len : ℕ) (rs frees : List Range) → AllByRecursion (IsInFile len) frees → ((p : ℕ) → p < len → list_any (covers p) rs ≡ true) → filter (λ (a : Range). is_apart a rs) frees ≡ []
none_left len rs [] inside covered = refl
none_left len rs (a ∷ frees) inside covered =
    let here : is_apart a rs ≡ false = not_apart a rs inside.0.0 (covered a.0 (omega (arith, inside.0.0, inside.0.1))) in
    ap (λ b. cond b (a ∷ filter (λ (c : Range). is_apart c rs) frees) (filter (λ (c : Range). is_apart c rs) frees)) here ∙ none_left len rs frees inside.1 covered

pub none_deleted : (d : Defs) (x : List ℕ) → IsSound d → ((p : ℕ) → p < length x → list_any (covers p) (ranges_of (readable d false x)) ≡ true) → deleted d x ≡ []
unfolding deleted
none_deleted d x s covered = none_left (length x) (ranges_of (readable d false x)) (frees_of (items_in d false x)) (frees_fine d false x s) covered

-- the blocks of all rows

pub laid_count : (d : Defs) (at : ℕ) (rs : List SizedRow) → length (stored_rows d at rs) ≡ length rs
unfolding stored_rows
laid_count d at [] = refl
laid_count d at (r ∷ rs) = ap suc (laid_count d (at + stored_size d r) rs)

ranges_count : (at : ℕ) (g : List Share) → length (ranges_from at g) ≡ length g
ranges_count at [] = refl
ranges_count at (s ∷ g) = ap suc (ranges_count (at + s.size) g)

pub laid_split : (d : Defs) (at : ℕ) (rs : List SizedRow) → length (ranges_of (stored_rows d at rs)) ≡ block_count d rs
unfolding stored_rows
laid_split d at [] = refl
laid_split d at (r ∷ rs) =
    length-append (ranges_from at (group d r)) (ranges_of (stored_rows d (at + stored_size d r) rs))
    ∙ omega (arith, ranges_count at (group d r), laid_split d (at + stored_size d r) rs)
    ∙ sym (sum_by-cons (λ (q : SizedRow). length (group d q)) r rs)

-- no more blocks than bytes
pub few_blocks : (d : Defs) (rs : List SizedRow) → IsSound d → AllByRecursion (IsStorable d) rs → block_count d rs ≤ stored_length d rs
few_blocks d [] s all = omega arith
few_blocks d (r ∷ rs) s all =
    omega (arith, sum_by-cons (λ (q : SizedRow). length (group d q)) r rs, (stored_some d r s all.0).1, few_blocks d rs s all.1, step_length d r rs)

-- the rows with their places

pub laid_placed : (d : Defs) (at : ℕ) (rs : List SizedRow) → IsSound d → AllByRecursion (IsStorable d) rs → map (placed_row d) (stored_rows d at rs) ≡ placed_from d at rs
unfolding stored_rows
laid_placed d at [] s all = refl
laid_placed d at (r ∷ rs) s all =
    let first : unwrap_or (row_of d (spelling d r.values)) [] ≡ r.values = ap (λ (o : Option Values). unwrap_or o []) (row-reads d r.values s all.0.fits) in
    let next : ℕ = at + stored_size d r in
    ap (λ w. (at, w) ∷ map (placed_row d) (stored_rows d next rs)) first ∙ ap (λ (ps : List PlacedRow). (at, r.values) ∷ ps) (laid_placed d next rs s all.1)

pub near_from : (d : Defs) (at len : ℕ) (rs : List SizedRow) → AllByRecursion (IsStorable d) rs → at + stored_length d rs ≤ len → AllByRecursion (IsNear d len) (placed_from d at rs)
near_from d at len [] all inside = tt
near_from d at len (r ∷ rs) all inside = ((omega arith, all.0.fits), near_from d (at + stored_size d r) len rs all.1 (omega (arith, step_length d r rs)))

-- no more rows than bytes

pub few_rows : (d : Defs) (rs : List SizedRow) → IsSound d → AllByRecursion (IsStorable d) rs → length rs ≤ stored_length d rs
few_rows d [] s all = omega arith
few_rows d (r ∷ rs) s all = omega (arith, step_length d r rs, (stored_some d r s all.0).0, few_rows d rs s all.1)
