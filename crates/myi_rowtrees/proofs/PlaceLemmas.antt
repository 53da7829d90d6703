-- The places of a table's trees, one key after the other.
use Rattle.std.proofs.Common.{◌≡◌, ℕ, zero, suc, ◌+◌, ◌<◌, ◌≤◌, List, [], ◌∷◌, ◌++◌, length, take, drop, Option, Some, None, refl, sym, ap, subst, ◌∙◌, arith}
use Rattle.std.specs.Prelude.{slice_index_or, slice_get}
use Rattle.std.specs.List.{AllByRecursion}
use Rattle.std.specs.Option.{option_map_or}
use Rattle.std.proofs.lemmas.List.Elements.{recursion_from_All}
use Rattle.myi_base.specs.Ranges.{Range}
use Rattle.myi_defs.specs.declared.types.Key.{Key}
use Rattle.myi_defs.specs.declared.types.Defs.{Defs}
use Rattle.myi_defs.specs.Sound.{IsSound, IsSoundKey}
use Rattle.myi_btree.specs.declared.place.Place.{Place}
use Rattle.myi_btree.specs.Sizes.{IsPlaced}
use Rattle.myi_btree.specs.Walk.{Walked}
use Rattle.myi_pair.specs.FirstRows.{key_numbers}
use Rattle.myi_pair.specs.Trees as pair
use Rattle.myi_keytrees.specs.InFile as trees
use Rattle.myi_rowtrees.specs.Places.{places_from, places_of}
use Rattle.myi_rowtrees.proofs.PairLemmas.{numbers_long, numbers_more}

-- ---- one place more

abbrev place_with : Defs → ℕ → Option ℕ → Place
place_with d k root = record (pair.place_of d k) { root = root }

pub one_place_more : (d : Defs) (ks : List ℕ) (roots : List (Option ℕ)) (i k : ℕ) (root : Option ℕ) → i < length ks → length roots ≡ length ks → take (i + 1) ks ≡ take i ks ++ k ∷ [] → slice_index_or roots i root ≡ root
    → places_from d (take (i + 1) ks) (take (i + 1) roots) ≡ places_from d (take i ks) (take i roots) ++ place_with d k root ∷ []
one_place_more d [] roots i k root few same next at = absurd (omega (arith, few))
one_place_more d (n ∷ ks) [] i k root few same next at = absurd (omega (arith, same))
one_place_more d (n ∷ ks) (r ∷ roots) zero k root few same next at = let e : n ≡ k = cc in ap (λ (m : ℕ). place_with d m r ∷ []) e ∙ ap (λ (o : Option ℕ). place_with d k o ∷ []) at
one_place_more d (n ∷ ks) (r ∷ roots) (suc i) k root few same next at =
    let e : suc i + 1 ≡ suc (i + 1) = omega arith in
    let tail : take (i + 1) ks ≡ take i ks ++ k ∷ [] = ap (λ (xs : List ℕ). drop 1 xs) (sym (ap (λ (m : ℕ). take m (n ∷ ks)) e) ∙ next) in
    ap (λ (m : ℕ). places_from d (take m (n ∷ ks)) (take m (r ∷ roots))) e
    ∙ ap (λ (ps : List Place). place_with d n r ∷ ps) (one_place_more d ks roots i k root (omega (arith, few)) (omega (arith, same)) tail at)

-- the first so many places
abbrev pub first_places : Defs → List (Option ℕ) → ℕ → List Place
first_places d roots i = places_from d (take i (key_numbers d)) (take i roots)

found_key : (keys : List Key) (i : ℕ) (key : Key) → i < length keys → slice_index_or keys i key ≡ key → slice_get keys i ≡ Some key
found_key [] i key few at = absurd (omega (arith, few))
found_key (k ∷ keys) zero key few at = ap (λ (q : Key). Some q) at
found_key (k ∷ keys) (suc i) key few at = found_key keys i key (omega (arith, few)) at

pub places_more : (d : Defs) (roots : List (Option ℕ)) (i : ℕ) (key : Key) (root : Option ℕ) → i < length d.keys → length roots ≡ length d.keys → slice_index_or d.keys i key ≡ key → slice_index_or roots i root ≡ root
    → first_places d roots (i + 1) ≡ first_places d roots i ++ record { block_length = key.block_length; rec_ref = d.rec_ref; root = root } ∷ []
places_more d roots i key root few same at there =
    let long = numbers_long 1 (length d.keys) in
    let next : take (i + 1) (key_numbers d) ≡ take i (key_numbers d) ++ suc i ∷ [] = numbers_more 1 (length d.keys) i few ∙ (let e : 1 + i ≡ suc i = omega arith in ap (λ (k : ℕ). take i (key_numbers d) ++ k ∷ []) e) in
    one_place_more d (key_numbers d) roots i (suc i) root (omega (arith, few, long)) (omega (arith, same, long)) next there
    ∙ ap (λ (o : Option Key). first_places d roots i ++ record { block_length = option_map_or (λ (k : Key). k.block_length) o 0; rec_ref = d.rec_ref; root = root } ∷ []) (found_key d.keys i key few at)

take_all : {A : Type 0} (xs : List A) (n : ℕ) → length xs ≤ n → take n xs ≡ xs
take_all [] zero few = refl
take_all [] (suc n) few = refl
take_all (x ∷ xs) zero few = absurd (omega (arith, few))
take_all {A} (x ∷ xs) (suc n) few = ap (λ (ys : List A). x ∷ ys) (take_all xs n (omega (arith, few)))

pub places_all : (d : Defs) (roots : List (Option ℕ)) (i : ℕ) → length d.keys ≤ i → length roots ≡ length d.keys → first_places d roots i ≡ places_of d roots
places_all d roots i all same =
    let long = numbers_long 1 (length d.keys) in
    ap (λ (ks : List ℕ). places_from d ks (take i roots)) (take_all (key_numbers d) i (omega (arith, all, long))) ∙ ap (λ (rs : List (Option ℕ)). places_from d (key_numbers d) rs) (take_all roots i (omega (arith, all, same)))

-- ---- lists with one more

pub all_more : {A : Type 0} (P : A → Type 0) (xs : List A) (x : A) → AllByRecursion P xs → P x → AllByRecursion P (xs ++ x ∷ [])
all_more P [] x all is = (is, tt)
all_more P (y ∷ xs) x all is = (all.0, all_more P xs x all.1 is)

pub long_more : {A : Type 0} (xs : List A) (x : A) → length (xs ++ x ∷ []) ≡ length xs + 1
long_more [] x = refl
long_more (y ∷ xs) x = let more = long_more xs x in omega (arith, more)

-- ---- the trees of a pair of files

pub to_trees : (d : Defs) (x : List ℕ) (busy : List Range) (ks : List ℕ) (roots : List (Option ℕ)) (ws : List Walked) → pair.HaveWalks d x busy ks roots ws → trees.HaveWalks x busy (places_from d ks roots) ws
to_trees d x busy [] roots ws have = have.1
to_trees d x busy (k ∷ ks) [] ws have = absurd have
to_trees d x busy (k ∷ ks) (root ∷ roots) [] have = absurd have
to_trees d x busy (k ∷ ks) (None ∷ roots) (w ∷ ws) have = (have.0, to_trees d x (busy ++ pair.pages_on d k w) ks roots ws have.1)
to_trees d x busy (k ∷ ks) (Some root ∷ roots) (w ∷ ws) have = (have.0, to_trees d x (busy ++ pair.pages_on d k w) ks roots ws have.1)

pub of_trees : (d : Defs) (x : List ℕ) (busy : List Range) (ks : List ℕ) (roots : List (Option ℕ)) (ws : List Walked) → length roots ≡ length ks → trees.HaveWalks x busy (places_from d ks roots) ws → pair.HaveWalks d x busy ks roots ws
of_trees d x busy [] [] ws same have = (refl, have)
of_trees d x busy [] (root ∷ roots) ws same have = absurd (omega (arith, same))
of_trees d x busy (k ∷ ks) [] ws same have = absurd (omega (arith, same))
of_trees d x busy (k ∷ ks) (root ∷ roots) [] same have = absurd have
of_trees d x busy (k ∷ ks) (None ∷ roots) (w ∷ ws) same have = (have.0, of_trees d x (busy ++ pair.pages_on d k w) ks roots ws (omega (arith, same)) have.1)
of_trees d x busy (k ∷ ks) (Some root ∷ roots) (w ∷ ws) same have = (have.0, of_trees d x (busy ++ pair.pages_on d k w) ks roots ws (omega (arith, same)) have.1)

-- ---- the place that a turn adds

index_in : {A : Type 0} (xs : List A) (i : ℕ) (a b : A) → i < length xs → slice_index_or xs i a ≡ slice_index_or xs i b
index_in [] i a b few = absurd (omega (arith, few))
index_in (x ∷ xs) zero a b few = refl
index_in (x ∷ xs) (suc i) a b few = index_in xs i a b (omega (arith, few))

abbrev pub place_at : Defs → List Key → List (Option ℕ) → ℕ → Key → Place
place_at d keys roots i key = record { block_length = (slice_index_or keys i key).block_length; rec_ref = d.rec_ref; root = slice_index_or roots i None }

pub place_pushed : (d : Defs) (keys : List Key) (roots : List (Option ℕ)) (i : ℕ) (key : Key) → keys ≡ d.keys → i < length keys → length roots ≡ length d.keys → first_places d roots i ++ place_at d keys roots i key ∷ [] ≡ first_places d roots (i + 1)
place_pushed d keys roots i key same few long =
    let less : i < length d.keys = subst (λ (ks : List Key). i < length ks) same few in
    let k = slice_index_or d.keys i key in
    let root = slice_index_or roots i None in
    ap (λ (ks : List Key). first_places d roots i ++ place_at d ks roots i key ∷ []) same
    ∙ sym (places_more d roots i k root less long (index_in d.keys i k key less) (index_in roots i root None (omega (arith, less, long))))

sound_at : (P : Key → Type 0) (keys : List Key) (i : ℕ) (key : Key) → i < length keys → AllByRecursion P keys → P (slice_index_or keys i key)
sound_at P [] i key few all = absurd (omega (arith, few))
sound_at P (k ∷ keys) zero key few all = all.0
sound_at P (k ∷ keys) (suc i) key few all = sound_at P keys i key (omega (arith, few)) all.1

pub place_is_placed : (d : Defs) (keys : List Key) (roots : List (Option ℕ)) (i : ℕ) (key : Key) → IsSound d → keys ≡ d.keys → i < length keys → IsPlaced (place_at d keys roots i key)
place_is_placed d keys roots i key sound same few =
    let k : IsSoundKey d.fields d.rec_ref (slice_index_or keys i key) = sound_at (IsSoundKey d.fields d.rec_ref) keys i key few (subst (λ (ks : List Key). AllByRecursion (IsSoundKey d.fields d.rec_ref) ks) (sym same) (recursion_from_All (IsSoundKey d.fields d.rec_ref) d.keys sound.keys_sound)) in
    record { whole = k.whole_block; least = k.some_block; most = k.short_block; wide = sound.rec_ref_least; narrow = sound.rec_ref_most }
