-- The columns of unique keys, one behind the other, are class numbers.
use Rattle.std.proofs.Common.{◌≡◌, ℕ, zero, suc, ◌<◌, ◌≤◌, ◌⊎◌, inl, inr, Bool, true, false, not, ◌&&◌, ◌||◌, eqb, List, [], ◌∷◌, ◌++◌, length, get_or, map, refl, sym, ap, subst, ◌∙◌, arith}
use Rattle.std.proofs.lemmas.Bool.Decides.{nat_tests}
use Rattle.std.specs.List.{list_any, AllByRecursion}
use Rattle.myi_keylist.specs.FirstBy.{KeyOf, first_by, repeats_in}
use Rattle.myi_keylist.specs.Repeats.{is_same_key}
use Rattle.myi_keylist.specs.Classes.{Columns, has_class, share_class, class_flags, picked}
use Rattle.myi_keylist.specs.Columns.{IsColumn, AreColumns, key_by_number}
use Rattle.myi_keylist.proofs.ClassLaws.{classes_keep}

pub differ : (m n : ℕ) → (m < n) ⊎ (n < m) → eqb m n ≡ false
differ m n (inl low) = grind (arith, nat_tests)
differ m n (inr up) = grind (arith, nat_tests)

-- behind the numbers that are taken
Above : ℕ → ℕ → Type 0
Above taken c = (c ≡ 0) ⊎ (taken < c)

none_has : (keys : List (KeyOf ℕ)) (rows taken end : ℕ) (columns : Columns) → AreColumns keys rows taken end columns → (c j : ℕ) → 0 < c → c ≤ taken → has_class columns c j ≡ false
none_has [] rows taken end [] are c j some low = refl
none_has [] rows taken end (numbers ∷ columns) are c j some low = absurd are
none_has (key ∷ keys) rows taken end [] are c j some low = absurd are
none_has (key ∷ keys) rows taken end (numbers ∷ columns) (last, (is, rest)) c j some low =
    ap (λ b. b || has_class columns c j) (by (is.within j)) ∙ none_has keys rows last end columns rest c j some (omega (arith, is.above, low))
  where
    by : (get_or numbers j 0 ≡ 0) ⊎ ((taken < get_or numbers j 0) × (get_or numbers j 0 ≤ last)) → eqb (get_or numbers j 0) c ≡ false
    by (inl none) = differ (get_or numbers j 0) c (inl (omega (arith, none, some)))
    by (inr here) = differ (get_or numbers j 0) c (inr (omega (arith, here.0, low)))

-- what a column before others adds to the tests of their rows: nothing
others : (before : List ℕ) (all : Columns) (keys : List (KeyOf ℕ)) (rows taken end : ℕ) (columns : Columns) (i j : ℕ) → get_or before j 0 ≤ taken → AreColumns keys rows taken end columns
    → list_any (λ numbers. not (eqb (get_or numbers i 0) 0) && (eqb (get_or before j 0) (get_or numbers i 0) || has_class all (get_or numbers i 0) j)) columns
    ≡ list_any (λ numbers. not (eqb (get_or numbers i 0) 0) && has_class all (get_or numbers i 0) j) columns
others before all [] rows taken end [] i j low are = refl
others before all [] rows taken end (numbers ∷ columns) i j low are = absurd are
others before all (key ∷ keys) rows taken end [] i j low are = absurd are
others before all (key ∷ keys) rows taken end (numbers ∷ columns) i j low (last, (is, rest)) =
    ap (λ b. b || list_any (λ ns. not (eqb (get_or ns i 0) 0) && (eqb (get_or before j 0) (get_or ns i 0) || has_class all (get_or ns i 0) j)) columns) (by (get_or numbers i 0) (is.within i))
    ∙ ap (λ b. (not (eqb (get_or numbers i 0) 0) && has_class all (get_or numbers i 0) j) || b) (others before all keys rows last end columns i j (omega (arith, low, is.above)) rest)
  where
    by : (c : ℕ) → (c ≡ 0) ⊎ ((taken < c) × (c ≤ last)) → (not (eqb c 0) && (eqb (get_or before j 0) c || has_class all c j)) ≡ (not (eqb c 0) && has_class all c j)
    by c (inl none) = ap (λ k. not (eqb k 0) && (eqb (get_or before j 0) k || has_class all k j)) none ∙ sym (ap (λ k. not (eqb k 0) && has_class all k j) none)
    by c (inr here) = ap (λ b. not (eqb c 0) && (b || has_class all c j)) (differ (get_or before j 0) c (inl (omega (arith, low, here.0))))

pub columns_share : (keys : List (KeyOf ℕ)) (rows taken end : ℕ) (columns : Columns) → AreColumns keys rows taken end columns → (i j : ℕ) → i < rows → j < rows → repeats_in keys i j ≡ share_class columns i j
columns_share [] rows taken end [] are i j few fewer = refl
columns_share [] rows taken end (numbers ∷ columns) are i j few fewer = absurd are
columns_share (key ∷ keys) rows taken end [] are i j few fewer = absurd are
columns_share (key ∷ keys) rows taken end (numbers ∷ columns) (last, (is, rest)) i j few fewer =
    ap (λ b. b || repeats_in keys i j) (is.decides i j few fewer ∙ by (get_or numbers i 0) (is.within i))
    ∙ ap (λ b. (not (eqb (get_or numbers i 0) 0) && (eqb (get_or numbers j 0) (get_or numbers i 0) || has_class columns (get_or numbers i 0) j)) || b)
    (columns_share keys rows last end columns rest i j few fewer ∙ sym (others numbers columns keys rows last end columns i j (low (is.within j)) rest))
  where
    low : (get_or numbers j 0 ≡ 0) ⊎ ((taken < get_or numbers j 0) × (get_or numbers j 0 ≤ last)) → get_or numbers j 0 ≤ last
    low (inl none) = omega (arith, none)
    low (inr here) = here.1

    or_none : (a b : Bool) → b ≡ false → a ≡ (a || b)
    or_none true b is = refl
    or_none false b is = sym is

    by : (c : ℕ) → (c ≡ 0) ⊎ ((taken < c) × (c ≤ last)) → (not (eqb c 0) && eqb (get_or numbers j 0) c) ≡ (not (eqb c 0) && (eqb (get_or numbers j 0) c || has_class columns c j))
    by c (inl none) = ap (λ k. not (eqb k 0) && eqb (get_or numbers j 0) k) none ∙ sym (ap (λ k. not (eqb k 0) && (eqb (get_or numbers j 0) k || has_class columns k j)) none)
    by c (inr here) = ap (λ b. not (eqb c 0) && b) (or_none (eqb (get_or numbers j 0) c) (has_class columns c j) (none_has keys rows last end columns rest c j (omega (arith, here.0)) here.1))

-- ---- one column more, and the end of all numbers

pub columns_more : (keys : List (KeyOf ℕ)) (key : KeyOf ℕ) (rows taken last next : ℕ) (columns : Columns) (numbers : List ℕ) → AreColumns keys rows taken last columns → IsColumn key rows last next numbers
    → AreColumns (keys ++ key ∷ []) rows taken next (columns ++ numbers ∷ [])
columns_more [] key rows taken last next [] numbers are is = (next, (subst (λ n. IsColumn key rows n next numbers) (sym are) is, refl))
columns_more [] key rows taken last next (ns ∷ columns) numbers are is = absurd are
columns_more (other ∷ keys) key rows taken last next [] numbers are is = absurd are
columns_more (other ∷ keys) key rows taken last next (ns ∷ columns) numbers (between, (first, rest)) is = (between, (first, columns_more keys key rows between last next columns numbers rest is))

columns_up : (keys : List (KeyOf ℕ)) (rows taken last : ℕ) (columns : Columns) → AreColumns keys rows taken last columns → taken ≤ last
columns_up [] rows taken last [] are = omega (arith, are)
columns_up [] rows taken last (ns ∷ columns) are = absurd are
columns_up (key ∷ keys) rows taken last [] are = absurd are
columns_up (key ∷ keys) rows taken last (ns ∷ columns) (between, (first, rest)) = omega (arith, first.above, columns_up keys rows between last columns rest)

all_below : (numbers : List ℕ) (end : ℕ) → ((i : ℕ) → get_or numbers i 0 < end) → AllByRecursion (λ c. c < end) numbers
all_below [] end low = tt
all_below (n ∷ numbers) end low = (low 0, all_below numbers end (λ i. low (suc i)))

pub columns_below : (keys : List (KeyOf ℕ)) (rows taken last end : ℕ) (columns : Columns) → AreColumns keys rows taken last columns → last < end → AllByRecursion (AllByRecursion (λ c. c < end)) columns
columns_below [] rows taken last end [] are few = tt
columns_below [] rows taken last end (ns ∷ columns) are few = absurd are
columns_below (key ∷ keys) rows taken last end [] are few = absurd are
columns_below (key ∷ keys) rows taken last end (ns ∷ columns) (between, (first, rest)) few =
    (all_below ns end (λ i. by i (first.within i)), columns_below keys rows between last end columns rest few)
  where
    by : (i : ℕ) → (get_or ns i 0 ≡ 0) ⊎ ((taken < get_or ns i 0) × (get_or ns i 0 ≤ between)) → get_or ns i 0 < end
    by i (inl none) = omega (arith, none, few)
    by i (inr here) = omega (arith, here.1, columns_up keys rows between last columns rest, few)

-- ---- rows of any type, by their numbers

by_numbers : {Row : Type 0} (keys : List (KeyOf Row)) (rows : List Row) (some : Row) (i j : ℕ) → repeats_in (map (key_by_number rows some) keys) i j ≡ repeats_in keys (get_or rows i some) (get_or rows j some)
by_numbers [] rows some i j = refl
by_numbers (key ∷ keys) rows some i j = ap (λ b. is_same_key (key (get_or rows i some)) (key (get_or rows j some)) || b) (by_numbers keys rows some i j)

any_default : {Row : Type 0} (rows : List Row) (i : ℕ) (some other : Row) → i < length rows → get_or rows i other ≡ get_or rows i some
any_default [] i some other few = absurd (omega arith)
any_default (row ∷ rows) zero some other few = refl
any_default (row ∷ rows) (suc i) some other few = any_default rows i some other (omega (arith, few))

pub columns_keep : {Row : Type 0} (keys : List (KeyOf Row)) (rows : List Row) (some : Row) (taken last : ℕ) (columns : Columns) → AreColumns (map (key_by_number rows some) keys) (length rows) taken last columns
    → picked (class_flags columns (length rows)) rows ≡ first_by (repeats_in keys) rows
columns_keep keys rows some taken last columns are = classes_keep (repeats_in keys) rows columns (λ i j other few fewer.
    ap (λ r. repeats_in keys r (get_or rows j other)) (any_default rows i some other few) ∙ ap (repeats_in keys (get_or rows i some)) (any_default rows j some other fewer)
    ∙ sym (by_numbers keys rows some i j) ∙ columns_share (map (key_by_number rows some) keys) (length rows) taken last columns are i j few fewer)
