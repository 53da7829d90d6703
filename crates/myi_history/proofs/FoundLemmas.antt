-- Of the rows before a place a read finds those that it finds among all rows and that stand there, in the same order.
use Rattle.std.proofs.Common.{◌≡◌, ℕ, nat_lt, List, [], ◌∷◌, map, filter, Option, Some, None, Bool, true, false, cond, refl, ap, ◌∙◌}
use Rattle.std.specs.List.{AllByRecursion}
use Rattle.std.specs.Ordering.{is_gt, ordering_reverse}
use Rattle.std.specs.declared.cmp.Ordering.{Ordering}
use Rattle.std.specs.declared.cmp.Ordering.TheVariants.{Less, Equal, Greater}
use Rattle.std.proofs.lemmas.Cmp.{upto}
use Rattle.myi_defs.specs.declared.types.Defs.{Defs}
use Rattle.myi_data.specs.Keys.{key_of}
use Rattle.myi_keylist.specs.PairOrder.{pair_cmp}
use Rattle.myi_keylist.proofs.CallerLemmas.{pair_total}
use Rattle.myi_state.specs.State.{StoredRow, TableState}
use Rattle.myi_pair.specs.KeyList.{PlacedRow}
use Rattle.myi_tablestate.specs.Listed.{placed}
use Rattle.myi_tablestate.specs.Matching.{Bounds, lies_between, placed_key}
use Rattle.myi_script.specs.declared.types.Act.{Act}
use Rattle.myi_script.specs.declared.types.Act.TheVariants as act
use Rattle.myi_history.specs.Appending.{stands_before, rows_before}
use Rattle.myi_history.specs.Reads.{put_by_key, by_key, rows_between, bounds_of, found}
use Rattle.myi_history.proofs.ReadLemmas.{between}

-- ---- any test, and rows in order of their keys

abbrev pub is_above : Defs → ℕ → StoredRow → StoredRow → Bool
is_above d k r q = is_gt (pair_cmp (placed_key d k r) (placed_key d k q))

-- the row is above none of these
abbrev pub AboveNone : Defs → ℕ → StoredRow → List StoredRow → Type 0
AboveNone d k r rows = AllByRecursion (λ q. is_above d k r q ≡ false) rows

abbrev pub InKeyOrder : Defs → ℕ → List StoredRow → Type 0
InKeyOrder d k [] = Unit {0}
InKeyOrder d k (r ∷ rows) = AboveNone d k r rows × InKeyOrder d k rows

turned : (o : Ordering) → is_gt o ≡ true → is_gt (ordering_reverse o) ≡ false
turned Less e = absurd cc
turned Equal e = absurd cc
turned Greater e = refl

not_back : (d : Defs) (k : ℕ) (r q : StoredRow) → is_above d k r q ≡ true → is_above d k q r ≡ false
not_back d k r q e = ap is_gt (pair_total.antisymm (placed_key d k q) (placed_key d k r)) ∙ turned (pair_cmp (placed_key d k r) (placed_key d k q)) e

lower : (d : Defs) (k : ℕ) (r q : StoredRow) (rows : List StoredRow) → is_above d k r q ≡ false → AboveNone d k q rows → AboveNone d k r rows
lower d k r q [] e h = tt
lower d k r q (u ∷ rows) e h = (upto pair_total (placed_key d k r) (placed_key d k q) (placed_key d k u) e h.0, lower d k r q rows e h.1)

put_above : (d : Defs) (k : ℕ) (u r : StoredRow) (rows : List StoredRow) → is_above d k u r ≡ false → AboveNone d k u rows → AboveNone d k u (put_by_key d k r rows)
put_above d k u r [] e h = (e, tt)
put_above d k u r (q ∷ rows) e h = go (is_above d k r q) (put_above d k u r rows e h.1)
  where
    go : (b : Bool) → AboveNone d k u (put_by_key d k r rows) → AboveNone d k u (cond b (q ∷ put_by_key d k r rows) (r ∷ q ∷ rows))
    go true ih = (h.0, ih)
    go false ih = (e, h)

put_in_order : (d : Defs) (k : ℕ) (r : StoredRow) (rows : List StoredRow) → InKeyOrder d k rows → InKeyOrder d k (put_by_key d k r rows)
put_in_order d k r [] h = (tt, tt)
put_in_order d k r (q ∷ rows) h = go (is_above d k r q) refl (put_in_order d k r rows h.1)
  where
    go : (b : Bool) → is_above d k r q ≡ b → InKeyOrder d k (put_by_key d k r rows) → InKeyOrder d k (cond b (q ∷ put_by_key d k r rows) (r ∷ q ∷ rows))
    go true e ih = (put_above d k q r rows (not_back d k r q e) h.0, ih)
    go false e ih = ((e, lower d k r q rows e h.0), h)

in_order : (d : Defs) (k : ℕ) (rows : List StoredRow) → InKeyOrder d k (by_key d k rows)
in_order d k [] = tt
in_order d k (r ∷ rows) = put_in_order d k r (by_key d k rows) (in_order d k rows)

-- ---- rows are filtered before they are put in order, or behind

fewer_above : (d : Defs) (k : ℕ) (f : StoredRow → Bool) (r : StoredRow) (rows : List StoredRow) → AboveNone d k r rows → AboveNone d k r (filter f rows)
fewer_above d k f r [] h = tt
fewer_above d k f r (q ∷ rows) h = go (f q) (fewer_above d k f r rows h.1)
  where
    go : (b : Bool) → AboveNone d k r (filter f rows) → AboveNone d k r (cond b (q ∷ filter f rows) (filter f rows))
    go true ih = (h.0, ih)
    go false ih = ih

put_first : (d : Defs) (k : ℕ) (r : StoredRow) (rows : List StoredRow) → AboveNone d k r rows → put_by_key d k r rows ≡ r ∷ rows
put_first d k r [] h = refl
put_first d k r (q ∷ rows) h = rw h.0 refl

abbrev pub put_if : Defs → ℕ → Bool → StoredRow → List StoredRow → List StoredRow
put_if d k b r rows = cond b (put_by_key d k r rows) rows

put_filtered : (d : Defs) (k : ℕ) (f : StoredRow → Bool) (r : StoredRow) (rows : List StoredRow) → InKeyOrder d k rows → filter f (put_by_key d k r rows) ≡ put_if d k (f r) r (filter f rows)
put_filtered d k f r [] h = refl
put_filtered d k f r (q ∷ rows) h = go (is_above d k r q) refl (put_filtered d k f r rows h.1)
  where
    -- behind the row q, which passes the test or not
    later : is_above d k r q ≡ true → (b c : Bool) → cond b (q ∷ put_if d k c r (filter f rows)) (put_if d k c r (filter f rows)) ≡ put_if d k c r (cond b (q ∷ filter f rows) (filter f rows))
    later e true true = rw e refl
    later e true false = refl
    later e false c = refl

    -- before all rows
    here : is_above d k r q ≡ false → (c : Bool) → cond c (r ∷ filter f (q ∷ rows)) (filter f (q ∷ rows)) ≡ put_if d k c r (filter f (q ∷ rows))
    here e true =
        let all : AboveNone d k r (q ∷ rows) = (e, lower d k r q rows e h.0) in
        let first = put_first d k r (filter f (q ∷ rows)) (fewer_above d k f r (q ∷ rows) all) in cc
    here e false = refl

    go : (b : Bool) → is_above d k r q ≡ b → filter f (put_by_key d k r rows) ≡ put_if d k (f r) r (filter f rows)
        → filter f (cond b (q ∷ put_by_key d k r rows) (r ∷ q ∷ rows)) ≡ put_if d k (f r) r (filter f (q ∷ rows))
    go true e ih = ap (λ qs. cond (f q) (q ∷ qs) qs) ih ∙ later e (f q) (f r)
    go false e ih = here e (f r)

by_key_filtered : (d : Defs) (k : ℕ) (f : StoredRow → Bool) (rows : List StoredRow) → by_key d k (filter f rows) ≡ filter f (by_key d k rows)
by_key_filtered d k f [] = refl
by_key_filtered d k f (r ∷ rows) = go (f r) refl (by_key_filtered d k f rows)
  where
    go : (b : Bool) → f r ≡ b → by_key d k (filter f rows) ≡ filter f (by_key d k rows) → by_key d k (cond b (r ∷ filter f rows) (filter f rows)) ≡ filter f (put_by_key d k r (by_key d k rows))
    go b e ih = put_made b ih ∙ ap (λ c. put_if d k c r (filter f (by_key d k rows))) (turn e) ∙ back
      where
        turn : f r ≡ b → b ≡ f r
        turn same = cc

        put_made : (c : Bool) → by_key d k (filter f rows) ≡ filter f (by_key d k rows) → by_key d k (cond c (r ∷ filter f rows) (filter f rows)) ≡ put_if d k c r (filter f (by_key d k rows))
        put_made true same = ap (λ qs. put_by_key d k r qs) same
        put_made false same = same

        back : put_if d k (f r) r (filter f (by_key d k rows)) ≡ filter f (put_by_key d k r (by_key d k rows))
        back = let there = put_filtered d k f r (by_key d k rows) (in_order d k rows) in cc

-- ---- two tests

twice : (f g : StoredRow → Bool) (rows : List StoredRow) → filter f (filter g rows) ≡ filter g (filter f rows)
twice f g [] = refl
twice f g (r ∷ rows) = go (f r) refl (g r) refl (twice f g rows)
  where
    go : (a : Bool) → f r ≡ a → (b : Bool) → g r ≡ b → filter f (filter g rows) ≡ filter g (filter f rows)
        → filter f (cond b (r ∷ filter g rows) (filter g rows)) ≡ filter g (cond a (r ∷ filter f rows) (filter f rows))
    go true p true q ih = rw (p, q) (ap (λ rs. r ∷ rs) ih)
    go true p false q ih = rw q ih
    go false p true q ih = rw p ih
    go false p false q ih = ih

between_before : (d : Defs) (k : ℕ) (bounds : Bounds) (place : ℕ) (rows : List StoredRow) → rows_between d k bounds (rows_before place rows) ≡ rows_before place (rows_between d k bounds rows)
unfolding rows_between
between_before d k bounds place rows =
    ap (λ rs. by_key d k rs) (twice (λ (r : StoredRow). lies_between bounds (key_of d k r.values)) (stands_before place) rows)
    ∙ by_key_filtered d k (stands_before place) (between d k bounds rows)

-- ---- what is found

abbrev pub found_before : ℕ → List PlacedRow → List PlacedRow
found_before place rows = filter (λ (r : PlacedRow). nat_lt r.0 place) rows

placed_before : (place : ℕ) (rows : List StoredRow) → map placed (rows_before place rows) ≡ found_before place (map placed rows)
placed_before place [] = refl
placed_before place (r ∷ rows) = go (nat_lt r.at place) (placed_before place rows)
  where
    go : (b : Bool) → map placed (rows_before place rows) ≡ found_before place (map placed rows)
        → map placed (cond b (r ∷ rows_before place rows) (rows_before place rows)) ≡ cond b (placed r ∷ found_before place (map placed rows)) (found_before place (map placed rows))
    go true ih = ap (λ rs. placed r ∷ rs) ih
    go false ih = ih

pub finds_before : (d : Defs) (s t : TableState) (a : Option Act) (place : ℕ) → t.rows ≡ rows_before place s.rows → found d t a ≡ filter (λ (r : PlacedRow). nat_lt r.0 place) (found d s a)
finds_before d s t None place e = refl
finds_before d s t (Some act.Scan) place e = ap (λ rs. map placed rs) e ∙ placed_before place s.rows
finds_before d s t (Some (act.Over range)) place e =
    ap (λ rs. map placed (rows_between d range.key (bounds_of range) rs)) e
    ∙ ap (λ rs. map placed rs) (between_before d range.key (bounds_of range) place s.rows)
    ∙ placed_before place (rows_between d range.key (bounds_of range) s.rows)
finds_before d s t (Some (act.Insert row)) place e = refl
finds_before d s t (Some (act.Update at row)) place e = refl
finds_before d s t (Some (act.Delete at)) place e = refl
finds_before d s t (Some (act.Lock lock)) place e = refl
finds_before d s t (Some act.Unlock) place e = refl
finds_before d s t (Some act.Stats) place e = refl
finds_before d s t (Some act.End) place e = refl
