-- The complete keys of a row, one key after the other.
use Rattle.std.proofs.Common.{◌≡◌, ℕ, zero, suc, ◌+◌, ◌<◌, ◌≤◌, Bool, true, false, cond, ◌&&◌, List, [], ◌∷◌, ◌++◌, length, map, filter, take, slice_index_or, Option, Some, refl, sym, ap, ◌∙◌, arith}
use Rattle.std.proofs.lemmas.List.{map-append, take_all}
use Rattle.std.proofs.lemmas.List.Elements.{filter-append}
use Rattle.std.specs.Prelude.{slice_get}
use Rattle.std.specs.Option.{option_map_or}
use Rattle.myi_defs.specs.declared.types.Key.{Key}
use Rattle.myi_defs.specs.declared.types.Defs.{Defs}
use Rattle.myi_keys.specs.declared.values.KeySeg.{KeySeg}
use Rattle.myi_keys.specs.Limits.{is_complete}
use Rattle.myi_data.specs.Keys.{key_of}
use Rattle.myi_pack.specs.Packed.{Values}
use Rattle.myi_rowkeys.specs.TableKeys.{numbers_from, key_numbers, is_unique}
use Rattle.myi_inserter.specs.declared.unique_key.UniqueKey.{UniqueKey}
use Rattle.myi_inserter.specs.UniqueKeys.{key_in, may_not_repeat, unique_keys}

pub numbers_long : (low n : ℕ) → length (numbers_from low n) ≡ n
numbers_long low zero = refl
numbers_long low (suc n) = let more = numbers_long (suc low) n in omega (arith, more)

pub numbers_more : (low n i : ℕ) → i < n → take (i + 1) (numbers_from low n) ≡ take i (numbers_from low n) ++ (low + i) ∷ []
numbers_more low zero i few = absurd (omega (arith, few))
numbers_more low (suc n) zero few = let e : low ≡ low + 0 = omega arith in ap (λ (k : ℕ). k ∷ []) e
numbers_more low (suc n) (suc i) few =
    let e : suc i + 1 ≡ suc (i + 1) = omega arith in
    let f : suc low + i ≡ low + suc i = omega arith in
    ap (λ (k : ℕ). take k (numbers_from low (suc n))) e ∙ ap (λ (ks : List ℕ). low ∷ ks) (numbers_more (suc low) n i (omega (arith, few)) ∙ ap (λ (k : ℕ). take i (numbers_from (suc low) n) ++ k ∷ []) f)

-- those in the keys of these numbers
abbrev pub keys_in : Defs → Values → List ℕ → List UniqueKey
keys_in d row ks = map (key_in d row) (filter (may_not_repeat d row) ks)

pub keys_more : (d : Defs) (row : Values) (i : ℕ) → i < length d.keys → keys_in d row (take (i + 1) (key_numbers d)) ≡ keys_in d row (take i (key_numbers d)) ++ keys_in d row (suc i ∷ [])
keys_more d row i few =
    let e : 1 + i ≡ suc i = omega arith in
    ap (keys_in d row) (numbers_more 1 (length d.keys) i few ∙ ap (λ (k : ℕ). take i (key_numbers d) ++ k ∷ []) e)
    ∙ ap (map (key_in d row)) (filter-append (may_not_repeat d row) (take i (key_numbers d)) (suc i ∷ []))
    ∙ map-append (key_in d row) (filter (may_not_repeat d row) (take i (key_numbers d))) (filter (may_not_repeat d row) (suc i ∷ []))

pub keys_all : (d : Defs) (row : Values) (i : ℕ) → length d.keys ≤ i → keys_in d row (take i (key_numbers d)) ≡ unique_keys d row
keys_all d row i all = let long = numbers_long 1 (length d.keys) in ap (keys_in d row) (take_all i (key_numbers d) (omega (arith, long, all)))

-- ---- one key

unique_in : (keys : List Key) (i : ℕ) (key : Key) → i < length keys → slice_index_or keys i key ≡ key → option_map_or (λ (k : Key). k.unique) (slice_get keys i) false ≡ key.unique
unique_in [] i key few is = absurd (omega (arith, few))
unique_in (k ∷ keys) zero key few is = ap (λ (k : Key). k.unique) is
unique_in (k ∷ keys) (suc i) key few is = unique_in keys i key (omega (arith, few)) is

pub unique_at : (d : Defs) (i : ℕ) (key : Key) → i < length d.keys → slice_index_or d.keys i key ≡ key → is_unique d (suc i) ≡ key.unique
unique_at d i key few is = unique_in d.keys i key few is

pub one_less : (d : Defs) (row : Values) (k : ℕ) → is_unique d k ≡ false → keys_in d row (k ∷ []) ≡ []
one_less d row k not = ap (λ (b : Bool). map (key_in d row) (cond (b && is_complete (key_of d k row)) (k ∷ []) [])) not

pub one_absent : (d : Defs) (row : Values) (k : ℕ) → is_unique d k ≡ true → is_complete (key_of d k row) ≡ false → keys_in d row (k ∷ []) ≡ []
one_absent d row k unique not =
    ap (λ (b : Bool). map (key_in d row) (cond (b && is_complete (key_of d k row)) (k ∷ []) [])) unique ∙ ap (λ (b : Bool). map (key_in d row) (cond b (k ∷ []) [])) not

pub one_more : (d : Defs) (row : Values) (k : ℕ) → is_unique d k ≡ true → is_complete (key_of d k row) ≡ true → keys_in d row (k ∷ []) ≡ key_in d row k ∷ []
one_more d row k unique whole =
    ap (λ (b : Bool). map (key_in d row) (cond (b && is_complete (key_of d k row)) (k ∷ []) [])) unique ∙ ap (λ (b : Bool). map (key_in d row) (cond b (k ∷ []) [])) whole

pub key_is : (d : Defs) (row : Values) (n k : ℕ) (key : List KeySeg) → n ≡ k → key ≡ key_of d n row → ◌≡◌ {A = UniqueKey} (record { number = n; key = key }) (key_in d row k)
key_is d row n k key same is = ap (λ (v : List KeySeg). record { number = n; key = v }) is ∙ ap (key_in d row) same

pub some_values : (v w : Values) (o : Option Values) → o ≡ Some v → o ≡ Some w → v ≡ w
some_values v w o a b = let e : Some v ≡ Some w = sym a ∙ b in cc
