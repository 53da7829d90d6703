-- Whether a row repeats the unique key of one of some rows, read off the lists of their pairs.
use Rattle.std.proofs.Common.{◌≡◌, ◌≢◌, ◌⊎◌, inl, inr, ℕ, zero, suc, ◌+◌, ◌<◌, ◌≤◌, Bool, true, false, ◌&&◌, ◌||◌, List, [], ◌∷◌, length, map, Option, Some, None, is_some, refl, sym, ap, subst, ◌∙◌, arith}
use Rattle.std.specs.Prelude.{slice_index_or, slice_get, Contains, IsTrue}
use Rattle.std.specs.List.{AllByRecursion, list_any}
use Rattle.std.specs.Option.{option_map_or}
use Rattle.std.specs.Ordering.{is_eq, is_gt}
use Rattle.std.specs.declared.cmp.Ordering.{Ordering}
use Rattle.std.specs.declared.cmp.Ordering.TheVariants.{Less, Equal, Greater}
use Rattle.std.proofs.lemmas.Bool.{cases_Bool, cases_lt}
use Rattle.std.proofs.lemmas.Cmp.{tied_itself}
use Rattle.std.proofs.lemmas.List.Elements.{recursion_from_All}
use Rattle.std.proofs.lemmas.List.Folds.{list_any_at}
use Rattle.myi_defs.specs.declared.types.Key.{Key}
use Rattle.myi_defs.specs.declared.types.Defs.{Defs}
use Rattle.myi_pack.specs.Packed.{Values}
use Rattle.myi_keys.specs.declared.values.KeySeg.{KeySeg}
use Rattle.myi_keys.specs.Limits.{is_complete}
use Rattle.myi_keys.specs.Order.{key_cmp}
use Rattle.myi_keys.specs.OrderLaws.{key_total, key_exact}
use Rattle.myi_keylist.specs.declared.pair.Pair.{Pair}
use Rattle.myi_keylist.specs.PairOrder.{pair_with, pair_cmp, put_pair, sorted}
use Rattle.myi_keylist.specs.Repeats.{is_same_key}
use Rattle.myi_search.specs.Least.{IsLeastRow}
use Rattle.myi_data.specs.Keys.{key_of}
use Rattle.myi_data.specs.Stored.{SizedRow, stored_size}
use Rattle.myi_rowkeys.specs.TableKeys.{numbers_from}
use Rattle.myi_pair.specs.FirstRows.{key_numbers, is_unique, repeats_key, repeats, repeats_row}
use Rattle.myi_pair.specs.KeyList.{pairs_of, key_list}
use Rattle.myi_pair.specs.RebuiltBytes.{placed_from, key_lists}
use Rattle.myi_base.specs.Holding.{Holding, Told, OthersStay}
use Rattle.myi_btree.specs.CachedTrees.{ReadsOnly}
use Rattle.myi_keytrees.specs.Trees.{Trees}
use Rattle.myi_keytrees.specs.Standing.{list_of, Stand, StillStand, CanSearch}
use Rattle.myi_keytrees.proofs.CallerLemmas.{stand_follow}
use Rattle.myi_rowtrees.specs.RowLists.{row_pairs}
use Rattle.myi_saferepair.specs.Held.{key_at, is_held, is_held_at, AreHeld}

-- ---- the least row of a key

equal_of : (o : Ordering) → is_eq o ≡ true → o ≡ Equal
equal_of Less e = absurd cc
equal_of Equal e = refl
equal_of Greater e = absurd cc

not_true : (b : Bool) → (b ≡ true → ⊥) → b ≡ false
not_true true never = absurd (never refl)
not_true false never = refl

none_same : (key : List KeySeg) (ps : List Pair) → AllByRecursion (λ (p : Pair). p.key ≢ key) ps → is_complete key ≡ true → list_any (λ (q : Pair). is_same_key key q.key) ps ≡ false
none_same key [] all whole = refl
none_same key (p ∷ ps) all whole =
    let here : is_eq (key_cmp key p.key) ≡ false = not_true (is_eq (key_cmp key p.key)) (λ is. all.0 (sym (key_exact key p.key (equal_of (key_cmp key p.key) is)))) in
    rw (whole, here) (none_same key ps all.1 whole)

some_same : (key : List KeySeg) (ps : List Pair) (row : ℕ) → Contains ps (pair_with key row) → is_complete key ≡ true → list_any (λ (q : Pair). is_same_key key q.key) ps ≡ true
some_same key ps row has whole =
    list_any_at (λ (q : Pair). is_same_key key q.key) ps has.0 (pair_with key row) has.1
    (ap (λ (q : Pair). is_same_key key q.key) has.2 ∙ rw whole (ap is_eq (tied_itself key_total key)))

-- a unique key with a least row of a complete key
pub held_least : (d : Defs) (i : ℕ) (key : List KeySeg) (ps : List Pair) (row : Option ℕ) → is_unique d (i + 1) ≡ true → is_complete key ≡ true → IsLeastRow key ps row → is_some row ≡ is_held d i key ps
held_least d i key ps None unique whole least = rw unique (sym (none_same key ps (recursion_from_All (λ (p : Pair). p.key ≢ key) ps least) whole))
held_least d i key ps (Some row) unique whole least = rw unique (sym (some_same key ps row least.0 whole))

none_whole : (key : List KeySeg) (ps : List Pair) → is_complete key ≡ false → list_any (λ (q : Pair). is_same_key key q.key) ps ≡ false
none_whole key [] absent = refl
none_whole key (p ∷ ps) absent = rw absent (none_whole key ps absent)

and_false : (b : Bool) → (b && false) ≡ false
and_false true = refl
and_false false = refl

pub held_plain : (d : Defs) (i : ℕ) (key : List KeySeg) (ps : List Pair) → is_unique d (i + 1) ≡ false → false ≡ is_held d i key ps
held_plain d i key ps plain = rw plain refl

pub held_absent : (d : Defs) (i : ℕ) (key : List KeySeg) (ps : List Pair) → is_complete key ≡ false → false ≡ is_held d i key ps
held_absent d i key ps absent = sym (ap (λ (b : Bool). is_unique d (i + 1) && b) (none_whole key ps absent) ∙ and_false (is_unique d (i + 1)))

-- ---- a key by its number

unique_in : (keys : List Key) (i : ℕ) (key : Key) → i < length keys → slice_index_or keys i key ≡ key → option_map_or (λ (k : Key). k.unique) (slice_get keys i) false ≡ key.unique
unique_in [] i key few is = absurd (omega (arith, few))
unique_in (k ∷ keys) zero key few is = ap (λ (k : Key). k.unique) is
unique_in (k ∷ keys) (suc i) key few is = unique_in keys i key (omega (arith, few)) is

pub unique_at : (d : Defs) (i : ℕ) (key : Key) → i < length d.keys → slice_index_or d.keys i key ≡ key → is_unique d (i + 1) ≡ key.unique
unique_at d i key few is = let e : i + 1 ≡ suc i = omega arith in ap (λ (n : ℕ). is_unique d n) e ∙ unique_in d.keys i key few is

-- ---- one of the pairs, or none

pub held_next : (d : Defs) (pairs : List Pair) (lists : List (List Pair)) (i : ℕ) → ((j : ℕ) → j < i → is_held_at d pairs lists j ≡ false) → is_held_at d pairs lists i ≡ false → (j : ℕ) → j < i + 1 → is_held_at d pairs lists j ≡ false
held_next d pairs lists i before here j less = by (cases_lt j i)
  where
    by : (j < i) ⊎ (i ≤ j) → is_held_at d pairs lists j ≡ false
    by (inl lower) = before j lower
    by (inr upper) = let e : j ≡ i = omega (arith, upper, less) in ap (is_held_at d pairs lists) e ∙ here

-- ---- the rows

any_put : (f : Pair → Bool) (p : Pair) (qs : List Pair) → list_any f (put_pair p qs) ≡ (f p || list_any f qs)
any_put f p [] = refl
any_put f p (q ∷ qs) =
    elim (cases_Bool (is_gt (pair_cmp p q))) [
      | inl is ↦ rw is (ap (λ (b : Bool). f q || b) (any_put f p qs) ∙ turned (f q) (f p) (list_any f qs))
      | inr other ↦ rw other refl
    ]
  where
    turned : (a b c : Bool) → (a || (b || c)) ≡ (b || (a || c))
    turned true true c = refl
    turned true false c = refl
    turned false b c = refl

any_sorted : (f : Pair → Bool) (ps : List Pair) → list_any f (sorted ps) ≡ list_any f ps
any_sorted f [] = refl
any_sorted f (p ∷ ps) = any_put f p (sorted ps) ∙ ap (λ (b : Bool). f p || b) (any_sorted f ps)

any_placed : (d : Defs) (k at : ℕ) (key : List KeySeg) (rows : List SizedRow)
    → list_any (λ (q : Pair). is_same_key key q.key) (pairs_of d k (placed_from d at rows)) ≡ list_any (λ (r : SizedRow). is_same_key key (key_of d k r.values)) rows
any_placed d k at key [] = refl
any_placed d k at key (r ∷ rows) = ap (λ (b : Bool). is_same_key key (key_of d k r.values) || b) (any_placed d k (at + stored_size d r) key rows)

any_listed : (d : Defs) (k : ℕ) (key : List KeySeg) (rows : List SizedRow)
    → list_any (λ (q : Pair). is_same_key key q.key) (key_list d k (placed_from d 0 rows)) ≡ list_any (λ (r : SizedRow). is_same_key key (key_of d k r.values)) rows
unfolding key_list
any_listed d k key rows = any_sorted (λ (q : Pair). is_same_key key q.key) (pairs_of d k (placed_from d 0 rows)) ∙ any_placed d k 0 key rows

at_number : {A : Type 0} (f : ℕ → A) (low n i : ℕ) (some : A) → i < n → slice_index_or (map f (numbers_from low n)) i some ≡ f (low + i)
at_number f low zero i some few = absurd (omega (arith, few))
at_number f low (suc n) zero some few = let e : low ≡ low + 0 = omega arith in ap f e
at_number f low (suc n) (suc i) some few = let e : suc low + i ≡ low + suc i = omega arith in at_number f (suc low) n i some (omega (arith, few)) ∙ ap f e

-- whether one of the rows has the row's complete key in the unique key of that number
abbrev pub has_one : Defs → Values → List SizedRow → ℕ → Bool
has_one d values rows k = is_unique d k && list_any (λ (r : SizedRow). is_same_key (key_of d k values) (key_of d k r.values)) rows

held_is : (d : Defs) (values : Values) (pointer : ℕ) (rows : List SizedRow) (i : ℕ) → i < length d.keys → is_held_at d (row_pairs d values pointer) (key_lists d (placed_from d 0 rows)) i ≡ has_one d values rows (1 + i)
held_is d values pointer rows i few =
    let e : i + 1 ≡ 1 + i = omega arith in
    let key : key_at (row_pairs d values pointer) i ≡ key_of d (1 + i) values = ap (λ (p : Pair). p.key) (at_number (λ k. pair_with (key_of d k values) pointer) 1 (length d.keys) i (pair_with [] 0) few) in
    let list : list_of (key_lists d (placed_from d 0 rows)) i ≡ key_list d (1 + i) (placed_from d 0 rows) = at_number (λ k. key_list d k (placed_from d 0 rows)) 1 (length d.keys) i [] few in
    ap (λ (n : ℕ). is_unique d n && list_any (λ (q : Pair). is_same_key (key_at (row_pairs d values pointer) i) q.key) (list_of (key_lists d (placed_from d 0 rows)) i)) e
    ∙ ap (λ (ks : List KeySeg). is_unique d (1 + i) && list_any (λ (q : Pair). is_same_key ks q.key) (list_of (key_lists d (placed_from d 0 rows)) i)) key
    ∙ ap (λ (ps : List Pair). is_unique d (1 + i) && list_any (λ (q : Pair). is_same_key (key_of d (1 + i) values) q.key) ps) list
    ∙ ap (λ (b : Bool). is_unique d (1 + i) && b) (any_listed d (1 + i) (key_of d (1 + i) values) rows)

-- in no key
none_of : (d : Defs) (values : Values) (rows : List SizedRow) (r : SizedRow) (low n : ℕ) → ((i : ℕ) → i < n → has_one d values (r ∷ rows) (low + i) ≡ false) → list_any (repeats_key d values r.values) (numbers_from low n) ≡ false
none_of d values rows r low zero none = refl
none_of d values rows r low (suc n) none =
    let e : low + 0 ≡ low = omega arith in
    let here : has_one d values (r ∷ rows) low ≡ false = ap (has_one d values (r ∷ rows)) (sym e) ∙ none 0 (omega arith) in
    let first : repeats_key d values r.values low ≡ false = left_false (is_unique d low) (is_same_key (key_of d low values) (key_of d low r.values)) (list_any (λ (q : SizedRow). is_same_key (key_of d low values) (key_of d low q.values)) rows) here in
    rw first (none_of d values rows r (suc low) n (λ i few. let f : suc low + i ≡ low + suc i = omega arith in ap (has_one d values (r ∷ rows)) f ∙ none (suc i) (omega (arith, few))))
  where
    left_false : (u a b : Bool) → (u && (a || b)) ≡ false → (u && a) ≡ false
    left_false true true b is = absurd cc
    left_false true false b is = refl
    left_false false a b is = refl

fewer : (d : Defs) (values : Values) (rows : List SizedRow) (r : SizedRow) (k : ℕ) → has_one d values (r ∷ rows) k ≡ false → has_one d values rows k ≡ false
fewer d values rows r k is = right_false (is_unique d k) (is_same_key (key_of d k values) (key_of d k r.values)) (list_any (λ (q : SizedRow). is_same_key (key_of d k values) (key_of d k q.values)) rows) is
  where
    right_false : (u a b : Bool) → (u && (a || b)) ≡ false → (u && b) ≡ false
    right_false true true b is = absurd cc
    right_false true false b is = is
    right_false false a b is = refl

none_repeated : (d : Defs) (row : SizedRow) (rows : List SizedRow) → ((i : ℕ) → i < length d.keys → has_one d row.values rows (1 + i) ≡ false) → list_any (repeats_row d row) rows ≡ false
unfolding repeats
none_repeated d row [] none = refl
none_repeated d row (r ∷ rows) none = rw (none_of d row.values rows r 1 (length d.keys) none) (none_repeated d row rows (λ i few. fewer d row.values rows r (1 + i) (none i few)))

-- in some key
any_true : (f : ℕ → Bool) (low n i : ℕ) → i < n → f (low + i) ≡ true → list_any f (numbers_from low n) ≡ true
any_true f low zero i few is = absurd (omega (arith, few))
any_true f low (suc n) zero few is = let e : low ≡ low + 0 = omega arith in ap (λ (b : Bool). b || list_any f (numbers_from (suc low) n)) (ap f e ∙ is)
any_true f low (suc n) (suc i) few is =
    let e : suc low + i ≡ low + suc i = omega arith in
    or_true (f low) (list_any f (numbers_from (suc low) n)) (any_true f (suc low) n i (omega (arith, few)) (ap f e ∙ is))
  where
    or_true : (a b : Bool) → b ≡ true → (a || b) ≡ true
    or_true true b is = refl
    or_true false b is = is

some_repeated : (d : Defs) (row : SizedRow) (rows : List SizedRow) (i : ℕ) → i < length d.keys → has_one d row.values rows (1 + i) ≡ true → list_any (repeats_row d row) rows ≡ true
unfolding repeats
some_repeated d row [] i few is = absurd (none_true (is_unique d (1 + i)) is)
  where
    none_true : (u : Bool) → (u && false) ≡ true → ⊥
    none_true true is = cc
    none_true false is = cc
some_repeated d row (r ∷ rows) i few is = by (is_unique d (1 + i)) (is_same_key (key_of d (1 + i) row.values) (key_of d (1 + i) r.values)) refl refl (some_repeated d row rows i few)
  where
    by : (u a : Bool) → is_unique d (1 + i) ≡ u → is_same_key (key_of d (1 + i) row.values) (key_of d (1 + i) r.values) ≡ a → (has_one d row.values rows (1 + i) ≡ true → list_any (repeats_row d row) rows ≡ true) → list_any (repeats_row d row) (r ∷ rows) ≡ true
    by false a plain same rest = absurd (let gone = ap (λ (u : Bool). u && list_any (λ (q : SizedRow). is_same_key (key_of d (1 + i) row.values) (key_of d (1 + i) q.values)) (r ∷ rows)) (sym plain) ∙ is in cc)
    by true true unique same rest =
        let here : repeats_key d row.values r.values (1 + i) ≡ true = ap (λ (u : Bool). u && is_same_key (key_of d (1 + i) row.values) (key_of d (1 + i) r.values)) unique ∙ same in
        ap (λ (b : Bool). b || list_any (repeats_row d row) rows) (any_true (repeats_key d row.values r.values) 1 (length d.keys) i few here)
    by true false unique differ rest =
        let more : has_one d row.values rows (1 + i) ≡ true =
        ap (λ (b : Bool). is_unique d (1 + i) && (b || list_any (λ (q : SizedRow). is_same_key (key_of d (1 + i) row.values) (key_of d (1 + i) q.values)) rows)) (sym differ) ∙ is in
        or_true (list_any (repeats_key d row.values r.values) (key_numbers d)) (list_any (repeats_row d row) rows) (rest more)
      where
        or_true : (a b : Bool) → b ≡ true → (a || b) ≡ true
        or_true true b is = refl
        or_true false b is = is

-- what is answered of the pairs says whether the row repeats one of the rows
pub held_repeats : (d : Defs) (row : SizedRow) (pointer : ℕ) (rows : List SizedRow) (pairs : List Pair) (there : Bool) → pairs ≡ row_pairs d row.values pointer → length pairs ≡ length d.keys → AreHeld d pairs (key_lists d (placed_from d 0 rows)) there → list_any (repeats_row d row) rows ≡ there
held_repeats d row pointer rows pairs true is long held =
    let few : held.0 < length d.keys = omega (arith, held.1, long) in
    some_repeated d row rows held.0 few (sym (held_is d row.values pointer rows held.0 few) ∙ ap (λ (ps : List Pair). is_held_at d ps (key_lists d (placed_from d 0 rows)) held.0) (sym is) ∙ held.2)
held_repeats d row pointer rows pairs false is long held =
    none_repeated d row rows (λ i few. sym (held_is d row.values pointer rows i few) ∙ ap (λ (ps : List Pair). is_held_at d ps (key_lists d (placed_from d 0 rows)) i) (sym is) ∙ held i (omega (arith, few, long)))

-- ---- the pair of a number

index_in : {A : Type 0} (xs : List A) (i : ℕ) (a b : A) → i < length xs → slice_index_or xs i a ≡ slice_index_or xs i b
index_in [] i a b few = absurd (omega (arith, few))
index_in (x ∷ xs) zero a b few = refl
index_in (x ∷ xs) (suc i) a b few = index_in xs i a b (omega (arith, few))

pub held_there : (d : Defs) (pairs : List Pair) (lists : List (List Pair)) (i : ℕ) (p : Pair) (there : Bool) → i < length pairs → p ≡ slice_index_or pairs i p → there ≡ is_held d i p.key (list_of lists i) → is_held_at d pairs lists i ≡ there
held_there d pairs lists i p there few at is = ap (λ (q : Pair). is_held d i q.key (list_of lists i)) (sym (at ∙ index_in pairs i p (pair_with [] 0) few)) ∙ sym is

-- ---- trees that were searched

search_by : (writable : Bool) (h told next : Option Holding) (old new : Trees) → h ≡ told → IsTrue writable → Told told next (OthersStay old.cache.name) → ReadsOnly told next old.cache new.cache → StillStand told next old new → CanSearch writable told old → CanSearch writable next new
search_by writable h told next old new e w others reads stand (inl all_written) = inl (λ p n is. all_written p n (reads.unwritten p n is))
search_by writable None told next old new e w others reads stand (inr can) = inr (w, λ n held. absurd (none_some n (sym (others.untold (sym e)) ∙ held)))
  where
    none_some : (n : Holding) → ◌≡◌ {A = Option Holding} None (Some n) → ⊥
    none_some n is = absurd cc
search_by writable (Some m) told next old new e w others reads stand (inr can) = inr (
  w,
  λ n held.
      let was = can.1 m (sym e) in
      let after = stand m (sym e) was.0 was.1 was.2 in
      let same : after.now ≡ n = some_same after.now n (sym after.held ∙ held) in
      (was.0, was.1, subst (λ (k : Holding). Stand new k was.0 was.1) same after.stand),
)
  where
    some_same : (a b : Holding) → ◌≡◌ {A = Option Holding} (Some a) (Some b) → a ≡ b
    some_same a b is = cc

pub search_on : (writable : Bool) (told next : Option Holding) (old new : Trees) → IsTrue writable → ReadsOnly told next old.cache new.cache → StillStand told next old new → CanSearch writable told old → CanSearch writable next new
search_on writable told next old new w reads stand can = search_by writable told told next old new refl w reads.others reads stand can

pub still_follow : (told mid next : Option Holding) (old now new : Trees) → StillStand told mid old now → StillStand mid next now new → StillStand told next old new
still_follow told mid next old now new a b = λ m held own lists s.
    let one = a m held own lists s in
    stand_follow old now new m own mid next lists lists one (b one.now one.held own lists one.stand)

pub others_follow : (told then next : Option Holding) (name mid : List ℕ) → mid ≡ name → Told told then (OthersStay name) → Told then next (OthersStay mid) → Told told next (OthersStay name)
others_follow told then next name mid same one two = record {
  told = λ m held.
      let a = one.told m held in
      let b = two.told a.0 a.1 in
      (b.0, b.1, λ other apart. subst (λ (n : List ℕ). OthersStay n a.0 b.0) same b.2 other apart ∙ a.2 other apart);
  untold = λ none. two.untold (one.untold none);
}
