-- No two rows have one key: the unique key is the row's number.
use Rattle.std.proofs.Common.{◌≡◌, ◌&&◌, ◌<◌, ◌≤◌, ◌+◌, ◌%◌, ◌/◌, ◌∙◌, ℕ, Bool, true, false, List, [], ◌∷◌, None, get_or, take, reverse, refl, sym, ap, arith}
use Rattle.std.specs.List.{AllByRecursion}
use Rattle.std.specs.Ordering.{is_eq}
use Rattle.std.specs.declared.cmp.Ordering.{Ordering}
use Rattle.std.specs.declared.cmp.Ordering.TheVariants.{Less, Equal, Greater}
use Rattle.myi_base.specs.Numbers.{low_num_bytes}
use Rattle.myi_keys.specs.declared.values.KeySeg.{KeySeg}
use Rattle.myi_keys.specs.declared.values.KeySeg.TheVariants.{Absent, Weights}
use Rattle.myi_keys.specs.Limits.{is_complete}
use Rattle.myi_keys.specs.Order.{key_cmp}
use Rattle.myi_keys.specs.OrderLaws.{key_exact}
use Rattle.myi_keys.specs.Weights.{sign_inverted, weights}
use Rattle.myi_keylist.specs.Repeats.{is_same_key}
use Rattle.myi_pack.specs.Packed.{Values}
use Rattle.myi_data.specs.Keys.{key_of}
use Rattle.myi_pair.specs.FirstRows.{repeats_key}
use Rattle.myi_state.specs.State.{StoredRow}
use Rattle.myi_tablestate.specs.Keyed.{holder, first_holder}
use Rattle.myi_make.specs.MadeTable.{defs, row_of}
use Rattle.myi_make.specs.Filling.{IsMadeRow}

-- keys that are told to be the same are
same_is : (key other : List KeySeg) → is_same_key key other ≡ true → key ≡ other
same_is key other is = by (is_complete key) (key_cmp key other) refl is
  where
    by : (whole : Bool) (o : Ordering) → key_cmp key other ≡ o → (whole && is_eq o) ≡ true → key ≡ other
    by false o compared is = absurd cc
    by true Less compared is = absurd cc
    by true Equal compared is = key_exact key other compared
    by true Greater compared is = absurd cc

-- the unique key of row i
abbrev number_key : ℕ → List KeySeg
number_key i = Weights (sign_inverted (reverse (take 4 (low_num_bytes 4 i)))) ∷ []

key_is : (i x : ℕ) → key_of defs 1 (row_of i x) ≡ number_key i
unfolding key_of defs row_of weights
key_is i x = refl

-- its weights
weights_in : List KeySeg → List ℕ
weights_in [] = []
weights_in (Absent ∷ segs) = []
weights_in (Weights w ∷ segs) = w

-- the lower three bytes of the number
bytes_same : (i j : ℕ) → number_key i ≡ number_key j → (i % 256 ≡ j % 256) × (i / 256 % 256 ≡ j / 256 % 256) × (i / 65536 % 256 ≡ j / 65536 % 256)
unfolding low_num_bytes weights_in
bytes_same i j same = (ap (λ k. get_or (weights_in k) 3 0) same, ap (λ k. get_or (weights_in k) 2 0) same, ap (λ k. get_or (weights_in k) 1 0) same)

number_same : (i j : ℕ) → i ≤ 100000 → j ≤ 100000 → number_key i ≡ number_key j → i ≡ j
number_same i j few less same = let b = bytes_same i j same in omega (arith, b.0, b.1, b.2, few, less)

pub never_repeats : (i j x y : ℕ) → j < i → i ≤ 100000 → repeats_key defs (row_of i x) (row_of j y) 1 ≡ false
unfolding defs
never_repeats i j x y less few = by (is_same_key (key_of defs 1 (row_of i x)) (key_of defs 1 (row_of j y))) refl
  where
    by : (b : Bool) → is_same_key (key_of defs 1 (row_of i x)) (key_of defs 1 (row_of j y)) ≡ b → b ≡ false
    by false e = refl
    by true e =
        let same = same_is (key_of defs 1 (row_of i x)) (key_of defs 1 (row_of j y)) e in
        let one = number_same i j few (omega (arith, less, few)) (sym (key_is i x) ∙ same ∙ key_is j y) in
        absurd (omega (arith, one, less))

none_first : (i x : ℕ) (rows : List StoredRow) → i < 100000 → AllByRecursion (IsMadeRow i) rows → holder defs (row_of (i + 1) x) 1 rows ≡ None
none_first i x [] few all = refl
none_first i x (r ∷ rows) few all =
    let no : repeats_key defs (row_of (i + 1) x) r.values 1 ≡ false = ap (λ (v : Values). repeats_key defs (row_of (i + 1) x) v 1) all.0.3 ∙ never_repeats (i + 1) all.0.0 x all.0.1 (omega (arith, all.0.2)) (omega (arith, few)) in
    rw no (none_first i x rows few all.1)

-- the second key is plain
none_second : (v : Values) (rows : List StoredRow) → holder defs v 2 rows ≡ None
unfolding defs
none_second v [] = refl
none_second v (r ∷ rows) = none_second v rows

pub no_holder : (i x : ℕ) (rows : List StoredRow) → i < 100000 → AllByRecursion (IsMadeRow i) rows → first_holder defs (row_of (i + 1) x) rows (1 ∷ 2 ∷ []) ≡ None
no_holder i x rows few all = rw (none_first i x rows few all) (rw (none_second (row_of (i + 1) x) rows) refl)
