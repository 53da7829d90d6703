-- Where no two rows have one complete key in a unique key, all rows are kept.
use Rattle.std.proofs.Common.{◌≡◌, Bool, true, false, cond, ◌||◌, List, [], ◌∷◌, ◌++◌, map, refl, sym, ap, subst, ◌∙◌}
use Rattle.std.specs.List.{list_any, AllByRecursion}
use Rattle.myi_keylist.specs.Repeats.{is_same_key, AreApart}
use Rattle.myi_keylist.specs.FirstBy.{KeyOf, first_after, first_by, repeats_in, AreDistinctIn}

-- all keys of a list behind another are apart
BehindApart : {Row : Type 0} → List (KeyOf Row) → List Row → List Row → Type 0
BehindApart keys before rows = AllByRecursion (λ key. AreApart (map key before) (map key rows)) keys

map_both : {X Y : Type 0} (f : X → Y) (xs ys : List X) → map f (xs ++ ys) ≡ map f xs ++ map f ys
map_both f [] ys = refl
map_both f (x ∷ xs) ys = ap (λ zs. f x ∷ zs) (map_both f xs ys)

any_map : {X Y : Type 0} (f : X → Y) (test : Y → Bool) (xs : List X) → list_any test (map f xs) ≡ list_any (λ x. test (f x)) xs
any_map f test [] = refl
any_map f test (x ∷ xs) = ap (λ b. test (f x) || b) (any_map f test xs)

no_any : {Row : Type 0} (row : Row) (before : List Row) → list_any (λ other. false) before ≡ false
no_any row [] = refl
no_any row (other ∷ before) = no_any row before

or_both : (a b c d : Bool) → (a || b) ≡ false → (c || d) ≡ false → ((a || c) || (b || d)) ≡ false
or_both false false false false p q = refl
or_both true b c d p q = absurd cc
or_both false true c d p q = absurd cc
or_both false false true d p q = absurd cc
or_both false false false true p q = absurd cc

or_split : {Row : Type 0} (p q : Row → Bool) (before : List Row) → list_any p before ≡ false → list_any q before ≡ false → list_any (λ other. p other || q other) before ≡ false
or_split p q [] first second = refl
or_split p q (other ∷ before) first second = by (p other) (list_any p before) (q other) (list_any q before) first second (or_split p q before)
  where
    by : (a b c d : Bool) → (a || b) ≡ false → (c || d) ≡ false → (b ≡ false → d ≡ false → list_any (λ other. p other || q other) before ≡ false) → ((a || c) || list_any (λ other. p other || q other) before) ≡ false
    by false false false false g h rest = rest refl refl
    by true b c d g h rest = absurd cc
    by false true c d g h rest = absurd cc
    by false false true d g h rest = absurd cc
    by false false false true g h rest = absurd cc

none_repeats : {Row : Type 0} (keys : List (KeyOf Row)) (before : List Row) (row : Row) (rows : List Row) → BehindApart keys before (row ∷ rows) → list_any (repeats_in keys row) before ≡ false
unfolding BehindApart
none_repeats [] before row rows apart = no_any row before
none_repeats (key ∷ keys) before row rows apart =
    or_split (λ other. is_same_key (key row) (key other)) (repeats_in keys row) before
    (sym (any_map key (is_same_key (key row)) before) ∙ apart.0.0)
    (none_repeats keys before row rows apart.1)

next_apart : {Row : Type 0} (keys : List (KeyOf Row)) (before : List Row) (row : Row) (rows : List Row) → BehindApart keys before (row ∷ rows) → BehindApart keys (before ++ row ∷ []) rows
unfolding BehindApart
next_apart [] before row rows apart = tt
next_apart (key ∷ keys) before row rows apart =
    (subst (λ ks. AreApart ks (map key rows)) (sym (map_both key before (row ∷ []))) apart.0.1, next_apart keys before row rows apart.1)

all_after : {Row : Type 0} (keys : List (KeyOf Row)) (kept rows : List Row) → BehindApart keys kept rows → first_after (repeats_in keys) kept rows ≡ rows
all_after keys kept [] apart = refl
all_after keys kept (row ∷ rows) apart =
    ap (λ (b : Bool). cond b (first_after (repeats_in keys) kept rows) (row ∷ first_after (repeats_in keys) (kept ++ row ∷ []) rows)) (none_repeats keys kept row rows apart)
    ∙ ap (λ rs. row ∷ rs) (all_after keys (kept ++ row ∷ []) rows (next_apart keys kept row rows apart))

pub all_kept : {Row : Type 0} (keys : List (KeyOf Row)) (rows : List Row) → AreDistinctIn keys rows → first_by (repeats_in keys) rows ≡ rows
unfolding BehindApart
all_kept keys rows apart = all_after keys [] rows apart
