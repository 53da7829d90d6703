-- The first key in which another row has the complete key of a row, one complete key after the other.
use Rattle.std.proofs.Common.{◌≡◌, ℕ, zero, suc, ◌+◌, ◌<◌, ◌≤◌, Bool, true, false, cond, ◌&&◌, List, [], ◌∷◌, ◌++◌, length, filter, take, drop, slice_index_or, Option, Some, None, refl, sym, ap, subst, ◌∙◌, arith, append_assoc}
use Rattle.std.specs.List.{AllByRecursion}
use Rattle.std.proofs.lemmas.List.{take-append-drop, take_more, take_all, get_or-map, length-map}
use Rattle.myi_defs.specs.declared.types.Defs.{Defs}
use Rattle.myi_pack.specs.Packed.{Values}
use Rattle.myi_keys.specs.Limits.{is_complete}
use Rattle.myi_data.specs.Keys.{IsKeyNumber, key_of}
use Rattle.myi_rowkeys.specs.TableKeys.{numbers_from, key_numbers, is_unique}
use Rattle.myi_state.specs.State.{StoredRow}
use Rattle.myi_tablestate.specs.Keyed.{Holder, holder, or_later, first_holder}
use Rattle.myi_inserter.specs.declared.unique_key.UniqueKey.{UniqueKey}
use Rattle.myi_inserter.specs.UniqueKeys.{key_in, may_not_repeat, unique_keys}

-- ---- the numbers of the complete keys

-- the row has a complete key in the unique key of that number
abbrev pub HasKey : Defs → Values → ℕ → Type 0
HasKey d row k = IsKeyNumber d k × (is_unique d k ≡ true) × (is_complete (key_of d k row) ≡ true)

abbrev pub numbers : Defs → Values → List ℕ
numbers d row = filter (may_not_repeat d row) (key_numbers d)

and_parts : (a b : Bool) → (a && b) ≡ true → (a ≡ true) × (b ≡ true)
and_parts true b e = (refl, e)
and_parts false b e = absurd (cc e)

have_keys : (d : Defs) (row : Values) (low n : ℕ) → 0 < low → low + n ≤ suc (length d.keys) → AllByRecursion (HasKey d row) (filter (may_not_repeat d row) (numbers_from low n))
have_keys d row low zero some most = tt
have_keys d row low (suc n) some most = by (may_not_repeat d row low) refl (have_keys d row (suc low) n (omega arith) (omega (arith, most)))
  where
    by : (b : Bool) → may_not_repeat d row low ≡ b → AllByRecursion (HasKey d row) (filter (may_not_repeat d row) (numbers_from (suc low) n)) → AllByRecursion (HasKey d row) (cond b (low ∷ filter (may_not_repeat d row) (numbers_from (suc low) n)) (filter (may_not_repeat d row) (numbers_from (suc low) n)))
    by true e more = let both = and_parts (is_unique d low) (is_complete (key_of d low row)) e in (((some, omega (arith, most)), both.0, both.1), more)
    by false e more = more

all_at : (P : ℕ → Type 0) (ks : List ℕ) (i : ℕ) → AllByRecursion P ks → i < length ks → P (slice_index_or ks i 0)
all_at P [] i all few = absurd (omega (arith, few))
all_at P (k ∷ ks) zero all few = all.0
all_at P (k ∷ ks) (suc i) all few = all_at P ks i all.1 (omega (arith, few))

-- the key at an index
pub record KeyHere (d : Defs) (row : Values) (i : ℕ) (q : UniqueKey) : Type 0 where
  pub few : i < length (numbers d row)
  pub number : q.number ≡ slice_index_or (numbers d row) i 0
  pub is : q ≡ key_in d row q.number
  pub has : HasKey d row q.number

pub key_here : (d : Defs) (row : Values) (keys : List UniqueKey) (i : ℕ) (q : UniqueKey) → keys ≡ unique_keys d row → i < length keys → q ≡ slice_index_or keys i q → KeyHere d row i q
key_here d row keys i q are lt here =
    let ks : List ℕ = numbers d row in
    let long : length keys ≡ length ks = ap (λ (l : List UniqueKey). length l) are ∙ length-map ks (key_in d row) in
    let few : i < length ks = omega (arith, lt, long) in
    let is : q ≡ key_in d row (slice_index_or ks i 0) = here ∙ ap (λ (l : List UniqueKey). slice_index_or l i q) are ∙ get_or-map (key_in d row) ks i 0 q few in
    let number : q.number ≡ slice_index_or ks i 0 = ap (λ (u : UniqueKey). u.number) is in
    record {
      few = few;
      number = number;
      is = is ∙ ap (key_in d row) (sym number);
      has = subst (HasKey d row) (sym number) (all_at (HasKey d row) ks i (have_keys d row 1 (length d.keys) (omega arith) (omega arith)) few);
    }

-- ---- one after the other

neither : (k : ℕ) (one : Option ℕ) (later : Option Holder) → or_later k one later ≡ None → (one ≡ None) × (later ≡ None)
neither k None later none = (refl, none)
neither k (Some at) later none = absurd cc

first_both : (d : Defs) (values : Values) (rows : List StoredRow) (ks more : List ℕ) → first_holder d values rows ks ≡ None → first_holder d values rows (ks ++ more) ≡ first_holder d values rows more
first_both d values rows [] more none = refl
first_both d values rows (k ∷ ks) more none =
    let both = neither k (holder d values k rows) (first_holder d values rows ks) none in
    ap (λ (o : Option ℕ). or_later k o (first_holder d values rows (ks ++ more))) both.0 ∙ first_both d values rows ks more both.1

-- what the laws say of a key that may repeat
abbrev pub IsPlain : Defs → Type 0
IsPlain d = (values : Values) (k : ℕ) (rows : List StoredRow) → is_unique d k ≡ false → holder d values k rows ≡ None

abbrev pub IsAbsent : Defs → Type 0
IsAbsent d = (values : Values) (k : ℕ) (rows : List StoredRow) → is_complete (key_of d k values) ≡ false → holder d values k rows ≡ None

none_held : (d : Defs) → IsPlain d → IsAbsent d → (row : Values) (k : ℕ) (rows : List StoredRow) → may_not_repeat d row k ≡ false → holder d row k rows ≡ None
none_held d plain absent row k rows may = by (is_unique d k) refl may
  where
    by : (b : Bool) → is_unique d k ≡ b → (b && is_complete (key_of d k row)) ≡ false → holder d row k rows ≡ None
    by true e not = absent row k rows not
    by false e not = plain row k rows e

-- only the complete keys in unique keys are to be asked for
only_these : (d : Defs) → IsPlain d → IsAbsent d → (row : Values) (rows : List StoredRow) (ks : List ℕ) → first_holder d row rows (filter (may_not_repeat d row) ks) ≡ first_holder d row rows ks
only_these d plain absent row rows [] = refl
only_these d plain absent row rows (k ∷ ks) = by (may_not_repeat d row k) refl (only_these d plain absent row rows ks)
  where
    rest : List ℕ
    rest = filter (may_not_repeat d row) ks

    by : (b : Bool) → may_not_repeat d row k ≡ b → first_holder d row rows rest ≡ first_holder d row rows ks → first_holder d row rows (cond b (k ∷ rest) rest) ≡ or_later k (holder d row k rows) (first_holder d row rows ks)
    by true e more = ap (or_later k (holder d row k rows)) more
    by false e more = more ∙ sym (ap (λ (o : Option ℕ). or_later k o (first_holder d row rows ks)) (none_held d plain absent row k rows e))

pub one_none : (d : Defs) (row : Values) (rows : List StoredRow) (i k : ℕ) → i < length (numbers d row) → k ≡ slice_index_or (numbers d row) i 0 → first_holder d row rows (take i (numbers d row)) ≡ None → holder d row k rows ≡ None → first_holder d row rows (take (i + 1) (numbers d row)) ≡ None
one_none d row rows i k few is none held =
    ap (first_holder d row rows) (take_more (numbers d row) i 0 few ∙ ap (λ (n : ℕ). take i (numbers d row) ++ n ∷ []) (sym is))
    ∙ first_both d row rows (take i (numbers d row)) (k ∷ []) none ∙ ap (λ (o : Option ℕ). or_later k o None) held

pub one_held : (d : Defs) → IsPlain d → IsAbsent d → (row : Values) (rows : List StoredRow) (i k at : ℕ) → i < length (numbers d row) → k ≡ slice_index_or (numbers d row) i 0 → first_holder d row rows (take i (numbers d row)) ≡ None → holder d row k rows ≡ Some at → first_holder d row rows (key_numbers d) ≡ Some (k, at)
one_held d plain absent row rows i k at few is none held =
    let ns : List ℕ = numbers d row in
    let whole : ns ≡ take i ns ++ (k ∷ drop (i + 1) ns) = sym (take-append-drop (i + 1) ns) ∙ ap (λ (ks : List ℕ). ks ++ drop (i + 1) ns) (take_more ns i 0 few ∙ ap (λ (n : ℕ). take i ns ++ n ∷ []) (sym is)) ∙ append_assoc (take i ns) (k ∷ []) (drop (i + 1) ns) in
    sym (only_these d plain absent row rows (key_numbers d)) ∙ ap (first_holder d row rows) whole ∙ first_both d row rows (take i ns) (k ∷ drop (i + 1) ns) none ∙ ap (λ (o : Option ℕ). or_later k o (first_holder d row rows (drop (i + 1) ns))) held

pub all_none : (d : Defs) → IsPlain d → IsAbsent d → (row : Values) (rows : List StoredRow) (keys : List UniqueKey) (i : ℕ) → keys ≡ unique_keys d row → length keys ≤ i → first_holder d row rows (take i (numbers d row)) ≡ None → first_holder d row rows (key_numbers d) ≡ None
all_none d plain absent row rows keys i are all none =
    let ks : List ℕ = numbers d row in
    let long : length keys ≡ length ks = ap (λ (l : List UniqueKey). length l) are ∙ length-map ks (key_in d row) in
    sym (only_these d plain absent row rows (key_numbers d)) ∙ ap (first_holder d row rows) (sym (take_all i ks (omega (arith, all, long)))) ∙ none
