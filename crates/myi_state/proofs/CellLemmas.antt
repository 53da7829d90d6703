-- What stands in a file, area after area in order of place: from what each area shows it follows which rows and which deleted
-- blocks are met.
use Rattle.std.proofs.Common.{◌≡◌, ℕ, ◌+◌, ◌<◌, ◌≤◌, inl, inr, Bool, true, false, List, [], ◌∷◌, ◌++◌, map, refl, sym, ap, subst, ◌∙◌, arith}
use Rattle.std.specs.Prelude.{nat_le, ◌||◌, ◌&&◌, if◌then◌else◌, filter}
use Rattle.std.specs.List.{AllByRecursion, flat_map, list_any}
use Rattle.std.proofs.lemmas.Bool.{leb-false, le-leb, lt-ltb}
use Rattle.std.proofs.lemmas.List.{map-append}
use Rattle.myi_base.specs.Ranges.{Range, are_apart, is_apart}
use Rattle.myi_chain.specs.Readable.{Row, Item, row, free, rows_of, frees_of}
use Rattle.myi_chain.specs.Chain as chain
use Rattle.myi_chain.specs.Parts.{has_byte}
use Rattle.myi_dellist.specs.Areas.{Area, IsApart, AreApart, Holds}
use Rattle.myi_dellist.specs.Order.{put_in}
use Rattle.myi_state.specs.Standing.{range_of_area}

-- ---- items are rows and deleted blocks

pub rows-both : (xs ys : List Item) → rows_of (xs ++ ys) ≡ rows_of xs ++ rows_of ys
rows-both [] ys = refl
rows-both (row r ∷ xs) ys = ap (λ (rs : List Row). r ∷ rs) (rows-both xs ys)
rows-both (free a ∷ xs) ys = rows-both xs ys

pub frees-both : (xs ys : List Item) → frees_of (xs ++ ys) ≡ frees_of xs ++ frees_of ys
frees-both [] ys = refl
frees-both (row r ∷ xs) ys = frees-both xs ys
frees-both (free a ∷ xs) ys = ap (λ (rs : List Range). a ∷ rs) (frees-both xs ys)

-- ---- by a function that says what an area shows

module _ (shows : Area → List Item) where
  abbrev pub rows_in : List Area → List Row
  rows_in areas = rows_of (flat_map shows areas)

  abbrev pub frees_in : List Area → List Range
  frees_in areas = frees_of (flat_map shows areas)

  more_rows : (a : Area) (areas : List Area) → rows_in (a ∷ areas) ≡ rows_of (shows a) ++ rows_in areas
  more_rows a areas = rows-both (shows a) (flat_map shows areas)

  more_frees : (a : Area) (areas : List Area) → frees_in (a ∷ areas) ≡ frees_of (shows a) ++ frees_in areas
  more_frees a areas = frees-both (shows a) (flat_map shows areas)

  no_row_more : (a : Area) (areas : List Area) → rows_of (shows a) ≡ [] → rows_in (a ∷ areas) ≡ rows_in areas
  no_row_more a areas e = more_rows a areas ∙ ap (λ (xs : List Row). xs ++ rows_in areas) e

  no_free_more : (a : Area) (areas : List Area) → frees_of (shows a) ≡ [] → frees_in (a ∷ areas) ≡ frees_in areas
  no_free_more a areas e = more_frees a areas ∙ ap (λ (xs : List Range). xs ++ frees_in areas) e

  -- an area that shows no row
  pub put-no-row : (a : Area) (areas : List Area) → rows_of (shows a) ≡ [] → rows_in (put_in a areas) ≡ rows_in areas
  put-no-row a [] e = no_row_more a [] e
  put-no-row a (b ∷ areas) e = by_test (nat_le a.at b.at) (put-no-row a areas e)
    where
      by_test : (t : Bool) → rows_in (put_in a areas) ≡ rows_in areas → rows_in (if t then a ∷ b ∷ areas else b ∷ put_in a areas) ≡ rows_in (b ∷ areas)
      by_test true ih = no_row_more a (b ∷ areas) e
      by_test false ih = more_rows b (put_in a areas) ∙ ap (λ (xs : List Row). rows_of (shows b) ++ xs) ih ∙ sym (more_rows b areas)

  -- an area that shows nothing deleted
  pub put-no-free : (a : Area) (areas : List Area) → frees_of (shows a) ≡ [] → frees_in (put_in a areas) ≡ frees_in areas
  put-no-free a [] e = no_free_more a [] e
  put-no-free a (b ∷ areas) e = by_test (nat_le a.at b.at) (put-no-free a areas e)
    where
      by_test : (t : Bool) → frees_in (put_in a areas) ≡ frees_in areas → frees_in (if t then a ∷ b ∷ areas else b ∷ put_in a areas) ≡ frees_in (b ∷ areas)
      by_test true ih = no_free_more a (b ∷ areas) e
      by_test false ih = more_frees b (put_in a areas) ∙ ap (λ (xs : List Range). frees_of (shows b) ++ xs) ih ∙ sym (more_frees b areas)

  -- the rows that an area shows stand at its place
  abbrev pub ShowsThere : Area → Type 0
  ShowsThere a = AllByRecursion (λ (r : Row). r.at ≡ a.at) (rows_of (shows a))

  -- all rows stand behind a place
  abbrev pub AreBehind : ℕ → List Row → Type 0
  AreBehind p rows = AllByRecursion (λ (r : Row). p < r.at) rows

  behind_left : (p : ℕ) (xs ys : List Row) → AreBehind p (xs ++ ys) → AreBehind p xs × AreBehind p ys
  behind_left p [] ys h = (tt, h)
  behind_left p (x ∷ xs) ys h = let t = behind_left p xs ys h.1 in ((h.0, t.0), t.1)

  -- an area that shows a row goes before rows that stand behind it
  pub put-row-first : (a : Area) (q : Row) (areas : List Area) → rows_of (shows a) ≡ q ∷ [] → AllByRecursion ShowsThere areas → AreBehind a.at (rows_in areas) → rows_in (put_in a areas) ≡ q ∷ rows_in areas
  put-row-first a q [] e there behind = more_rows a [] ∙ ap (λ (xs : List Row). xs ++ rows_in []) e
  put-row-first a q (b ∷ areas) e there behind =
      let split = behind_left a.at (rows_of (shows b)) (rows_in areas) (subst (λ (xs : List Row). AreBehind a.at xs) (more_rows b areas) behind) in
      by_test (nat_le a.at b.at) refl (put-row-first a q areas e there.1 split.1) split.0
    where
      none_there : (xs : List Row) → b.at < a.at → AllByRecursion (λ (r : Row). r.at ≡ b.at) xs → AreBehind a.at xs → xs ≡ []
      none_there [] lt at far = refl
      none_there (x ∷ xs) lt at far = absurd (omega (arith, lt, at.0, far.0))

      by_test : (t : Bool) → nat_le a.at b.at ≡ t → rows_in (put_in a areas) ≡ q ∷ rows_in areas → AreBehind a.at (rows_of (shows b)) → rows_in (if t then a ∷ b ∷ areas else b ∷ put_in a areas) ≡ q ∷ rows_in (b ∷ areas)
      by_test true t ih far = more_rows a (b ∷ areas) ∙ ap (λ (xs : List Row). xs ++ rows_in (b ∷ areas)) e
      by_test false t ih far =
          let none = none_there (rows_of (shows b)) (leb-false _ _ t) there.0 far in
          no_row_more b (put_in a areas) none ∙ ih ∙ ap (λ (xs : List Row). q ∷ xs) (sym (no_row_more b areas none))

  -- ---- deleted blocks

  abbrev pub ShowsFree : Area → Type 0
  ShowsFree a = shows a ≡ free (range_of_area a) ∷ []

  pub free-no-rows : (areas : List Area) → AllByRecursion ShowsFree areas → rows_in areas ≡ []
  free-no-rows [] all = refl
  free-no-rows (a ∷ areas) all = no_row_more a areas (ap rows_of all.0) ∙ free-no-rows areas all.1

  pub free-all : (areas : List Area) → AllByRecursion ShowsFree areas → frees_in areas ≡ map range_of_area areas
  free-all [] all = refl
  free-all (a ∷ areas) all = more_frees a areas ∙ ap (λ (xs : List Item). frees_of xs ++ frees_in areas) all.0 ∙ ap (λ (xs : List Range). range_of_area a ∷ xs) (free-all areas all.1)

-- ---- ranges of areas

pub ranges-both : (xs ys : List Area) → map range_of_area (xs ++ ys) ≡ map range_of_area xs ++ map range_of_area ys
ranges-both xs ys = map-append range_of_area xs ys

both_true : (a b : Bool) → a ≡ true → b ≡ true → (a && b) ≡ true
both_true true true e f = refl
both_true true false e f = f
both_true false b e f = e

or_left : (a b : Bool) → a ≡ true → (a || b) ≡ true
or_left true b e = refl
or_left false b e = absurd cc

or_right : (a b : Bool) → b ≡ true → (a || b) ≡ true
or_right true b e = refl
or_right false b e = e

pub areas-apart : (a b : Area) → IsApart a b → are_apart (range_of_area a) (range_of_area b) ≡ true
areas-apart a b (inl le) = or_left (nat_le (a.at + a.size) b.at) (nat_le (b.at + b.size) a.at) (le-leb _ _ le)
areas-apart a b (inr le) = or_right (nat_le (a.at + a.size) b.at) (nat_le (b.at + b.size) a.at) (le-leb _ _ le)

apart_other : (a b : Area) → IsApart a b → IsApart b a
apart_other a b (inl le) = inr le
apart_other a b (inr le) = inl le

pub apart-all : (a : Area) (areas : List Area) → AllByRecursion (IsApart a) areas → is_apart (range_of_area a) (map range_of_area areas) ≡ true
apart-all a [] all = refl
apart-all a (b ∷ areas) all = both_true (are_apart (range_of_area a) (range_of_area b)) (is_apart (range_of_area a) (map range_of_area areas)) (areas-apart a b all.0) (apart-all a areas all.1)

apart_more : (r s : Range) (used : List Range) → is_apart r used ≡ true → are_apart r s ≡ true → is_apart r (used ++ s ∷ []) ≡ true
apart_more r s [] e f = both_true (are_apart r s) true f refl
apart_more r s (u ∷ used) e f = let t = halves (are_apart r u) (is_apart r used) e in both_true (are_apart r u) (is_apart r (used ++ s ∷ [])) t.0 (apart_more r s used t.1 f)
  where
    halves : (a b : Bool) → (a && b) ≡ true → (a ≡ true) × (b ≡ true)
    halves true b e = (refl, e)
    halves false b e = absurd cc

abbrev IsFree : List Range → Area → Type 0
IsFree used a = is_apart (range_of_area a) used ≡ true

all_more : (a : Area) (used : List Range) (areas : List Area) → AllByRecursion (IsApart a) areas → AllByRecursion (IsFree used) areas → AllByRecursion (IsFree (used ++ range_of_area a ∷ [])) areas
all_more a used [] far all = tt
all_more a used (b ∷ areas) far all = (apart_more (range_of_area b) (range_of_area a) used all.0 (areas-apart b a (apart_other a b far.0)), all_more a used areas far.1 all.1)

-- areas of which no two have a byte in common
pub ranges-apart : (used : List Range) (areas : List Area) → AllByRecursion (IsFree used) areas → AreApart areas → chain.AreApart used (map range_of_area areas)
ranges-apart used [] all apart = tt
ranges-apart used (a ∷ areas) all apart = (all.0, ranges-apart (used ++ range_of_area a ∷ []) areas (all_more a used areas apart.0 all.1) apart.1)

pub free-of-none : (areas : List Area) → AllByRecursion (IsFree []) areas
free-of-none [] = tt
free-of-none (a ∷ areas) = (refl, free-of-none areas)

-- each of the last is apart from the first
pub apart-across : (xs ys : List Area) → AreApart (xs ++ ys) → AllByRecursion (λ (y : Area). AllByRecursion (IsApart y) xs) ys
apart-across [] ys apart = all_none ys
  where
    all_none : (ys : List Area) → AllByRecursion (λ (y : Area). AllByRecursion (IsApart y) []) ys
    all_none [] = tt
    all_none (y ∷ ys) = (tt, all_none ys)
apart-across (x ∷ xs) ys apart = joined ys (behind xs apart.0) (apart-across xs ys apart.1)
  where
    behind : (xs : List Area) → AllByRecursion (IsApart x) (xs ++ ys) → AllByRecursion (IsApart x) ys
    behind [] all = all
    behind (z ∷ zs) all = behind zs all.1

    joined : (ys : List Area) → AllByRecursion (IsApart x) ys → AllByRecursion (λ (y : Area). AllByRecursion (IsApart y) xs) ys → AllByRecursion (λ (y : Area). AllByRecursion (IsApart y) (x ∷ xs)) ys
    joined [] a b = tt
    joined (y ∷ ys) a b = ((apart_other x y a.0, b.0), joined ys a.1 b.1)

has_byte_true : (p : ℕ) (a : Area) → a.at ≤ p → p < a.at + a.size → has_byte p (range_of_area a) ≡ true
has_byte_true p a le lt = both_true _ _ (le-leb _ _ le) (lt-ltb _ _ lt)

pub holds-range : (p : ℕ) (areas : List Area) → Holds p areas → list_any (has_byte p) (map range_of_area areas) ≡ true
holds-range p [] h = absurd h
holds-range p (a ∷ areas) (inl h) = or_left (has_byte p (range_of_area a)) (list_any (has_byte p) (map range_of_area areas)) (has_byte_true p a h.0 h.1)
holds-range p (a ∷ areas) (inr h) = or_right (has_byte p (range_of_area a)) (list_any (has_byte p) (map range_of_area areas)) (holds-range p areas h)

-- what all of a list pass is left whole
pub filter-all : (f : Range → Bool) (xs : List Range) → AllByRecursion (λ (r : Range). f r ≡ true) xs → filter f xs ≡ xs
filter-all f [] all = refl
filter-all f (x ∷ xs) all = let here = all.0 in let more = filter-all f xs all.1 in rw (here, more) refl
