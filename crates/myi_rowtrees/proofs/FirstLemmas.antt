-- The first key in which another row has the complete key of a row, one key after the other.
use Rattle.std.proofs.Common.{◌≡◌, ℕ, zero, suc, ◌+◌, ◌<◌, ◌≤◌, List, [], ◌∷◌, ◌++◌, length, map, take, drop, Option, Some, None, refl, sym, ap, ◌∙◌, arith, append_assoc}
use Rattle.std.specs.Prelude.{slice_index_or, option_map}
use Rattle.std.proofs.lemmas.List.{take-append-drop}
use Rattle.myi_base.specs.Holding.{Holding}
use Rattle.myi_defs.specs.declared.types.Defs.{Defs}
use Rattle.myi_pack.specs.Packed.{Values}
use Rattle.myi_keylist.specs.declared.pair.Pair.{Pair}
use Rattle.myi_data.specs.Keys.{key_of}
use Rattle.myi_rowkeys.specs.TableKeys.{numbers_from, key_numbers}
use Rattle.myi_state.specs.State.{StoredRow}
use Rattle.myi_keytrees.specs.Trees.{Trees}
use Rattle.myi_keytrees.specs.Standing.{list_of, StillStand}
use Rattle.myi_keytrees.proofs.CallerLemmas.{stand_follow}
use Rattle.myi_tablestate.specs.Keyed.{Holder, holder, or_later, first_holder}
use Rattle.myi_tablestate.specs.Listed.{listed}
use Rattle.myi_rowtrees.specs.RowLists.{lists_of, row_pairs}
use Rattle.myi_rowtrees.proofs.PairLemmas.{numbers_more, numbers_long}

pub still_follow : (told mid next : Option Holding) (old now new : Trees) → StillStand told mid old now → StillStand mid next now new → StillStand told next old new
still_follow told mid next old now new a b = λ m held own lists s.
    let one = a m held own lists s in
    stand_follow old now new m own mid next lists lists one (b one.now one.held own lists one.stand)

neither : (k : ℕ) (one : Option ℕ) (later : Option Holder) → or_later k one later ≡ None → (one ≡ None) × (later ≡ None)
neither k None later none = (refl, none)
neither k (Some at) later none = absurd cc

-- ---- lists of keys, one behind the other

first_both : (d : Defs) (values : Values) (rows : List StoredRow) (ks more : List ℕ) → first_holder d values rows ks ≡ None → first_holder d values rows (ks ++ more) ≡ first_holder d values rows more
first_both d values rows [] more none = refl
first_both d values rows (k ∷ ks) more none =
    let both = neither k (holder d values k rows) (first_holder d values rows ks) none in
    ap (λ (o : Option ℕ). or_later k o (first_holder d values rows (ks ++ more))) both.0 ∙ first_both d values rows ks more both.1

-- the numbers up to a key and behind it
one_more : (d : Defs) (i : ℕ) → i < length d.keys → take (i + 1) (key_numbers d) ≡ take i (key_numbers d) ++ (i + 1) ∷ []
one_more d i few = let e : 1 + i ≡ i + 1 = omega arith in numbers_more 1 (length d.keys) i few ∙ ap (λ (k : ℕ). take i (key_numbers d) ++ k ∷ []) e

pub first_none : (d : Defs) (values : Values) (rows : List StoredRow) (i : ℕ) → i < length d.keys → first_holder d values rows (take i (key_numbers d)) ≡ None → holder d values (i + 1) rows ≡ None → first_holder d values rows (take (i + 1) (key_numbers d)) ≡ None
first_none d values rows i few none one =
    ap (first_holder d values rows) (one_more d i few) ∙ first_both d values rows (take i (key_numbers d)) ((i + 1) ∷ []) none ∙ ap (λ (o : Option ℕ). or_later (i + 1) o None) one

pub first_some : (d : Defs) (values : Values) (rows : List StoredRow) (i at : ℕ) → i < length d.keys → first_holder d values rows (take i (key_numbers d)) ≡ None → holder d values (i + 1) rows ≡ Some at → first_holder d values rows (key_numbers d) ≡ Some (i + 1, at)
first_some d values rows i at few none one =
    let ns = key_numbers d in
    let whole : ns ≡ take i ns ++ ((i + 1) ∷ drop (i + 1) ns) = sym (take-append-drop (i + 1) ns) ∙ ap (λ (ks : List ℕ). ks ++ drop (i + 1) ns) (one_more d i few) ∙ append_assoc (take i ns) ((i + 1) ∷ []) (drop (i + 1) ns) in
    ap (first_holder d values rows) whole ∙ first_both d values rows (take i ns) ((i + 1) ∷ drop (i + 1) ns) none ∙ ap (λ (o : Option ℕ). or_later (i + 1) o (first_holder d values rows (drop (i + 1) ns))) one

take_all : (xs : List ℕ) (n : ℕ) → length xs ≤ n → take n xs ≡ xs
take_all [] zero few = refl
take_all [] (suc n) few = refl
take_all (x ∷ xs) zero few = absurd (omega (arith, few))
take_all (x ∷ xs) (suc n) few = ap (λ (ys : List ℕ). x ∷ ys) (take_all xs n (omega (arith, few)))

pub first_all : (d : Defs) (values : Values) (rows : List StoredRow) (i : ℕ) → length d.keys ≤ i → first_holder d values rows (take i (key_numbers d)) ≡ None → None ≡ first_holder d values rows (key_numbers d)
first_all d values rows i all none =
    let long = numbers_long 1 (length d.keys) in
    sym (ap (first_holder d values rows) (sym (take_all (key_numbers d) i (omega (arith, long, all)))) ∙ none)

-- ---- what stands at a key's number

at_number : {A : Type 0} (f : ℕ → A) (low n i : ℕ) (some : A) → i < n → slice_index_or (map f (numbers_from low n)) i some ≡ f (low + i)
at_number f low zero i some few = absurd (omega (arith, few))
at_number f low (suc n) zero some few = let e : low ≡ low + 0 = omega arith in ap f e
at_number f low (suc n) (suc i) some few = let e : suc low + i ≡ low + suc i = omega arith in at_number f (suc low) n i some (omega (arith, few)) ∙ ap f e

pub list_at : (d : Defs) (rows : List StoredRow) (lists : List (List Pair)) (i : ℕ) → lists ≡ lists_of d rows → i < length d.keys → list_of lists i ≡ listed d (i + 1) rows
list_at d rows lists i same few =
    let e : 1 + i ≡ i + 1 = omega arith in
    ap (λ (ls : List (List Pair)). list_of ls i) same ∙ at_number (λ k. listed d k rows) 1 (length d.keys) i [] few ∙ ap (λ (k : ℕ). listed d k rows) e

pub key_at : (d : Defs) (values : Values) (pointer : ℕ) (pairs : List Pair) (i : ℕ) (p : Pair) → pairs ≡ row_pairs d values pointer → i < length d.keys → p ≡ slice_index_or pairs i p → p.key ≡ key_of d (i + 1) values
key_at d values pointer pairs i p same few at =
    let e : 1 + i ≡ i + 1 = omega arith in
    let found = at ∙ ap (λ (ps : List Pair). slice_index_or ps i p) same ∙ at_number (λ k. record { key = key_of d k values; row = pointer }) 1 (length d.keys) i p few in
    ap (λ (q : Pair). q.key) found ∙ ap (λ (k : ℕ). key_of d k values) e

pub none_of : (f : ℕ → ℕ) (o : Option ℕ) (h : Option ℕ) → ((r : ℕ) → o ≡ Some r → ⊥) → option_map f o ≡ h → h ≡ None
none_of f None h never same = sym same
none_of f (Some r) h never same = absurd (never r refl)
