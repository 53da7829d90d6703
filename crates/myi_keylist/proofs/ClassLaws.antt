-- Rows that are kept by class numbers are those that repeat none kept before them.
use Rattle.std.proofs.Common.{◌≡◌, ℕ, zero, suc, ◌+◌, ◌-◌, ◌<◌, Bool, true, false, cond, not, ◌&&◌, ◌||◌, eqb, List, [], ◌∷◌, ◌++◌, length, get_or, drop, map, replicate, refl, sym, ap, ◌∙◌, arith, append_assoc, ◌⊎◌, inl, inr}
use Rattle.std.specs.List.{list_any, AllByRecursion}
use Rattle.myi_keylist.specs.FirstBy.{first_after, first_by}
use Rattle.myi_keylist.specs.Classes.{Columns, has_class, share_class, AreClasses, keeps_from, picked, is_taken, AreTaken}

-- ---- flags and rows

split_at : {Row : Type 0} (all : List Row) (i : ℕ) (d row : Row) (rest : List Row) → drop i all ≡ row ∷ rest → (i < length all) × ((get_or all i d ≡ row) × (drop (suc i) all ≡ rest))
split_at [] zero d row rest is = absurd cc
split_at [] (suc i) d row rest is = absurd cc
split_at (x ∷ xs) zero d row rest is = (omega arith, (cc, cc))
split_at (x ∷ xs) (suc i) d row rest is = let found = split_at xs i d row rest is in (omega (arith, found.0), found.1)

map_snoc : {X Y : Type 0} (f : X → Y) (xs : List X) (x : X) → map f (xs ++ x ∷ []) ≡ map f xs ++ f x ∷ []
map_snoc f [] x = refl
map_snoc f (y ∷ xs) x = ap (λ zs. f y ∷ zs) (map_snoc f xs x)

below_snoc : (n i : ℕ) (ks : List ℕ) → AllByRecursion (λ k. k < n) ks → i < n → AllByRecursion (λ k. k < n) (ks ++ i ∷ [])
below_snoc n i [] below few = (few, tt)
below_snoc n i (k ∷ ks) below few = (below.0, below_snoc n i ks below.1 few)

any_kept : {Row : Type 0} (all : List Row) (d : Row) (repeats : Row → Row → Bool) (share : ℕ → ℕ → Bool) → ((i j : ℕ) → i < length all → j < length all → repeats (get_or all i d) (get_or all j d) ≡ share i j)
    → (i : ℕ) → i < length all → (ks : List ℕ) → AllByRecursion (λ k. k < length all) ks → list_any (share i) ks ≡ list_any (repeats (get_or all i d)) (map (λ k. get_or all k d) ks)
any_kept all d repeats share are i few [] below = refl
any_kept all d repeats share are i few (k ∷ ks) below =
    ap (λ b. b || list_any (share i) ks) (sym (are i k few below.0)) ∙ ap (λ b. repeats (get_or all i d) (get_or all k d) || b) (any_kept all d repeats share are i few ks below.1)

flags_pick : {Row : Type 0} (all : List Row) (d : Row) (repeats : Row → Row → Bool) (share : ℕ → ℕ → Bool) → ((i j : ℕ) → i < length all → j < length all → repeats (get_or all i d) (get_or all j d) ≡ share i j)
    → (ks : List ℕ) → AllByRecursion (λ k. k < length all) ks → (i : ℕ) (rest : List Row) → drop i all ≡ rest → picked (keeps_from share ks i (length rest)) rest ≡ first_after repeats (map (λ k. get_or all k d) ks) rest
flags_pick all d repeats share are ks below i [] is = refl
flags_pick {Row} all d repeats share are ks below i (row ∷ rest) is =
    let here = split_at all i d row rest is in
    let same : list_any (share i) ks ≡ list_any (repeats row) (map (λ k. get_or all k d) ks) =
    any_kept all d repeats share are i here.0 ks below ∙ ap (λ r. list_any (repeats r) (map (λ k. get_or all k d) ks)) here.1.0 in
    let kept : map (λ k. get_or all k d) (ks ++ i ∷ []) ≡ map (λ k. get_or all k d) ks ++ row ∷ [] =
    map_snoc (λ k. get_or all k d) ks i ∙ ap (λ r. map (λ k. get_or all k d) ks ++ r ∷ []) here.1.0 in
    by (list_any (share i) ks) (list_any (repeats row) (map (λ k. get_or all k d) ks)) same
    (flags_pick all d repeats share are ks below (suc i) rest here.1.1)
    (flags_pick all d repeats share are (ks ++ i ∷ []) (below_snoc (length all) i ks below here.0) (suc i) rest here.1.1 ∙ ap (λ rs. first_after repeats rs rest) kept)
  where
    by : (a b : Bool) → a ≡ b → picked (keeps_from share ks (suc i) (length rest)) rest ≡ first_after repeats (map (λ k. get_or all k d) ks) rest
        → picked (keeps_from share (ks ++ i ∷ []) (suc i) (length rest)) rest ≡ first_after repeats (map (λ k. get_or all k d) ks ++ row ∷ []) rest
        → picked (cond a (false ∷ keeps_from share ks (suc i) (length rest)) (true ∷ keeps_from share (ks ++ i ∷ []) (suc i) (length rest))) (row ∷ rest)
        ≡ cond b (first_after repeats (map (λ k. get_or all k d) ks) rest) (row ∷ first_after repeats (map (λ k. get_or all k d) ks ++ row ∷ []) rest)
    by true true same dropped added = dropped
    by false false same dropped added = ap (λ rows. row ∷ rows) added
    by true false same dropped added = absurd cc
    by false true same dropped added = absurd cc

pub classes_keep : {Row : Type 0} (repeats : Row → Row → Bool) (rows : List Row) (columns : Columns) → AreClasses repeats rows columns → picked (keeps_from (share_class columns) [] 0 (length rows)) rows ≡ first_by repeats rows
classes_keep repeats [] columns are = refl
classes_keep repeats (row ∷ rows) columns are = flags_pick (row ∷ rows) row repeats (share_class columns) (λ i j few fewer. are i j row few fewer) [] tt 0 (row ∷ rows) refl

-- ---- tests of some element

any_none : {A : Type 0} (xs : List A) → false ≡ list_any (λ x. false) xs
any_none [] = refl
any_none (x ∷ xs) = any_none xs

any_same : {A : Type 0} (p q : A → Bool) → ((x : A) → p x ≡ q x) → (xs : List A) → list_any p xs ≡ list_any q xs
any_same p q same [] = refl
any_same p q same (x ∷ xs) = ap (λ b. b || list_any p xs) (same x) ∙ ap (λ b. q x || b) (any_same p q same xs)

or_swap : (a b c d : Bool) → ((a || b) || (c || d)) ≡ ((a || c) || (b || d))
or_swap true b c d = refl
or_swap false true true d = refl
or_swap false true false d = refl
or_swap false false c d = refl

any_or : {A : Type 0} (p q : A → Bool) (xs : List A) → (list_any p xs || list_any q xs) ≡ list_any (λ x. p x || q x) xs
any_or p q [] = refl
any_or p q (x ∷ xs) = or_swap (p x) (list_any p xs) (q x) (list_any q xs) ∙ ap (λ b. (p x || q x) || b) (any_or p q xs)

any_and : {A : Type 0} (b : Bool) (p : A → Bool) (xs : List A) → list_any (λ x. b && p x) xs ≡ (b && list_any p xs)
any_and true p xs = refl
any_and false p xs = sym (any_none xs)

any_swap : {A B : Type 0} (p : A → B → Bool) (xs : List A) (ys : List B) → list_any (λ x. list_any (p x) ys) xs ≡ list_any (λ y. list_any (λ x. p x y) xs) ys
any_swap p [] ys = any_none ys
any_swap p (x ∷ xs) ys = ap (λ b. list_any (p x) ys || b) (any_swap p xs ys) ∙ any_or (p x) (λ y. list_any (λ x. p x y) xs) ys

any_snoc : {A : Type 0} (p : A → Bool) (xs : List A) (x : A) → list_any p (xs ++ x ∷ []) ≡ (list_any p xs || p x)
any_snoc p [] x = by (p x)
  where
    by : (b : Bool) → (b || false) ≡ b
    by true = refl
    by false = refl
any_snoc p (y ∷ xs) x = ap (λ b. p y || b) (any_snoc p xs x) ∙ by (p y) (list_any p xs) (p x)
  where
    by : (a b c : Bool) → (a || (b || c)) ≡ ((a || b) || c)
    by true b c = refl
    by false b c = refl

-- ---- one row

-- the numbers of a column are in the table
in_table : (numbers : List ℕ) (row end : ℕ) → AllByRecursion (λ c. c < end) numbers → (get_or numbers row 0 ≡ 0) ⊎ (get_or numbers row 0 < end)
in_table [] row end below = inl refl
in_table (n ∷ numbers) zero end below = inr below.0
in_table (n ∷ numbers) (suc row) end below = in_table numbers row end below.1

-- a number of the row is taken where the row shares one with a row that is kept
pub taken_shared : (columns all : Columns) (taken : List Bool) (kept : List ℕ) (row end : ℕ) → length taken ≡ end → AllByRecursion (AllByRecursion (λ c. c < end)) columns → AreTaken all taken kept
    → list_any (λ numbers. is_taken taken (get_or numbers row 0)) columns ≡ list_any (λ numbers. list_any (λ other. not (eqb (get_or numbers row 0) 0) && has_class all (get_or numbers row 0) other) kept) columns
taken_shared [] all taken kept row end long below are = refl
taken_shared (numbers ∷ columns) all taken kept row end long below are =
    ap (λ b. b || list_any (λ ns. is_taken taken (get_or ns row 0)) columns) (one (get_or numbers row 0) (number_in numbers below.0))
    ∙ ap (λ b. list_any (λ other. not (eqb (get_or numbers row 0) 0) && has_class all (get_or numbers row 0) other) kept || b) (taken_shared columns all taken kept row end long below.1 are)
  where
    number_in : (ns : List ℕ) → AllByRecursion (λ c. c < end) ns → (get_or ns row 0 ≡ 0) ⊎ (get_or ns row 0 < end)
    number_in ns few = in_table ns row end few

    one : (c : ℕ) → (c ≡ 0) ⊎ (c < end) → is_taken taken c ≡ list_any (λ other. not (eqb c 0) && has_class all c other) kept
    one c (inl zero-is) = ap (λ k. not (eqb k 0) && get_or taken k false) zero-is ∙ any_none kept ∙ sym (ap (λ k. list_any (λ other. not (eqb k 0) && has_class all c other) kept) zero-is)
    one c (inr few) = ap (λ b. not (eqb c 0) && b) (are c (omega arith)) ∙ sym (any_and (not (eqb c 0)) (has_class all c) kept)

pub repeats_kept : (columns : Columns) (taken : List Bool) (kept : List ℕ) (row end : ℕ) → length taken ≡ end → AllByRecursion (AllByRecursion (λ c. c < end)) columns → AreTaken columns taken kept
    → list_any (λ numbers. is_taken taken (get_or numbers row 0)) columns ≡ list_any (share_class columns row) kept
repeats_kept columns taken kept row end long below are =
    taken_shared columns columns taken kept row end long below are
    ∙ any_swap (λ numbers other. not (eqb (get_or numbers row 0) 0) && has_class columns (get_or numbers row 0) other) columns kept

-- the numbers of one more row are taken
pub taken_more : (columns : Columns) (taken after : List Bool) (kept : List ℕ) (row : ℕ) → length after ≡ length taken → AreTaken columns taken kept
    → ((c : ℕ) → c < length taken → get_or after c false ≡ (get_or taken c false || has_class columns c row)) → AreTaken columns after (kept ++ row ∷ [])
taken_more columns taken after kept row long are took c few =
    took c (omega arith) ∙ ap (λ b. b || has_class columns c row) (are c (omega arith)) ∙ sym (any_snoc (has_class columns c) kept row)

-- ---- the loop over the rows

one_row : (repeats : ℕ → ℕ → Bool) (kept : List ℕ) (row n : ℕ) (keep : Bool) → keep ≡ not (list_any (repeats row) kept) → keeps_from repeats kept row (suc n) ≡ keep ∷ keeps_from repeats (cond keep (kept ++ row ∷ []) kept) (suc row) n
one_row repeats kept row n keep is = by (list_any (repeats row) kept) keep is
  where
    by : (b keep : Bool) → keep ≡ not b → cond b (false ∷ keeps_from repeats kept (suc row) n) (true ∷ keeps_from repeats (kept ++ row ∷ []) (suc row) n) ≡ keep ∷ keeps_from repeats (cond keep (kept ++ row ∷ []) kept) (suc row) n
    by true true is = absurd cc
    by true false is = refl
    by false true is = refl
    by false false is = absurd cc

pub row_done : (repeats : ℕ → ℕ → Bool) (kept : List ℕ) (row rows : ℕ) (keep : Bool) (flags after all : List Bool) → row < rows → after ≡ flags ++ keep ∷ [] → keep ≡ not (list_any (repeats row) kept)
    → flags ++ keeps_from repeats kept row (rows - row) ≡ all → after ++ keeps_from repeats (cond keep (kept ++ row ∷ []) kept) (row + 1) (rows - (row + 1)) ≡ all
row_done repeats kept row rows keep flags after all few more is so_far =
    let n : rows - row ≡ suc (rows - (row + 1)) = omega arith in
    let next : row + 1 ≡ suc row = omega arith in
    let step : keeps_from repeats kept row (rows - row) ≡ keep ∷ keeps_from repeats (cond keep (kept ++ row ∷ []) kept) (row + 1) (rows - (row + 1)) =
    ap (keeps_from repeats kept row) n ∙ one_row repeats kept row (rows - (row + 1)) keep is ∙ ap (λ r. keep ∷ keeps_from repeats (cond keep (kept ++ row ∷ []) kept) r (rows - (row + 1))) (sym next) in
    ap (λ t. t ++ keeps_from repeats (cond keep (kept ++ row ∷ []) kept) (row + 1) (rows - (row + 1))) more
    ∙ append_assoc flags (keep ∷ []) (keeps_from repeats (cond keep (kept ++ row ∷ []) kept) (row + 1) (rows - (row + 1)))
    ∙ ap (λ t. flags ++ t) (sym step) ∙ so_far

-- in a table of false no number is taken
pub none_taken : (columns : Columns) (n : ℕ) → AreTaken columns (replicate n false) []
none_taken columns zero c few = absurd (omega arith)
none_taken columns (suc n) zero few = refl
none_taken columns (suc n) (suc c) few = none_taken columns n c (omega arith)
