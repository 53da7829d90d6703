-- A walk along the list in memory, which marks what it meets.
use Rattle.std.proofs.Common.{◌≡◌, ◌≢◌, ◌≤◌, ◌<◌, ◌+◌, ◌⊎◌, inl, inr, ℕ, suc, Bool, true, false, ltb, eqb, if◌then◌else◌, List, [], ◌∷◌, length, map, replicate, get_or, Option, Some, None, refl, sym, ap, subst, ◌∙◌, arith}
use Rattle.std.specs.Prelude.{slice_set, slice_index}
use Rattle.std.specs.Option.{option_map}
use Rattle.std.proofs.lemmas.Bool.{cases_eq, lt-ltb, le-ltb}
use Rattle.std.proofs.lemmas.List.{map-set, get_or-map, get_or-set_same, get_or-set_other, length-map}
use Rattle.myi_pair.specs.FirstBad.{without, least, list_bad}
use Rattle.myi_placelist.specs.Places.{IsRising}
use Rattle.myi_check.specs.ListMet.{unmet}
use Rattle.myi_check.specs.ListWalk.{place_of, before_in, AreBelowMarks, HaveNext, MeetsEach}
use Rattle.myi_check.proofs.UnmetLemmas.{unmet_fresh, out_left}
use Rattle.myi_check.proofs.WalkLemmas.{went_on}

-- which of these numbers are marks
abbrev pub flags_of : List ℕ → List Bool
flags_of numbers = map (λ n. ltb 2147483647 n) numbers

-- each place that is marked names the one before it
abbrev pub HaveMet : ℕ → (ℕ → Option ℕ → Bool) → List ℕ → List ℕ → Type 0
HaveMet unit names places marks = (k : ℕ) → k < length places → 2147483647 < slice_index marks k → names (slice_index places k) (place_of unit (before_in (slice_index marks k))) ≡ true

-- what is ahead of the walk says what is bad of the whole list, and so many places are left
abbrev pub IsAhead : ℕ → List ℕ → List ℕ → List ℕ → ℕ → ℕ → ℕ → ℕ → Type 0
IsAhead unit places numbers marks head before at step = (next : ℕ → Option ℕ) (names : ℕ → Option ℕ → Bool) → IsRising places → HaveNext unit next places numbers → HaveMet unit names places marks → (m : ℕ) → m + step ≡ length places
    → (length (unmet places (flags_of marks)) ≡ m)
    × (list_bad next names m (unmet places (flags_of marks)) (place_of unit before) (place_of unit at) ≡ list_bad next names (length places) places None (place_of unit head))

-- ---- nothing is marked at first

flags_fresh : (numbers : List ℕ) → AreBelowMarks numbers → flags_of numbers ≡ replicate (length numbers) false
flags_fresh [] all = refl
flags_fresh (n ∷ ns) all = let here = le-ltb 2147483647 n (omega (arith, all.0)) in let more = flags_fresh ns all.1 in rw (here, more) refl

none_unmet : (places numbers : List ℕ) → length numbers ≡ length places → AreBelowMarks numbers → unmet places (flags_of numbers) ≡ places
none_unmet places numbers long below =
    ap (unmet places) (flags_fresh numbers below)
    ∙ ap (λ (count : ℕ). unmet places (replicate count false)) long
    ∙ unmet_fresh places

pub ahead_first : (unit : ℕ) (places numbers : List ℕ) (head : ℕ) → length numbers ≡ length places → AreBelowMarks numbers → IsAhead unit places numbers numbers head 0 head 0
ahead_first unit places numbers head long below = λ next names up nexts met m count.
    let same = none_unmet places numbers long below in
    let many : m ≡ length places = omega (arith, count) in (
      ap (λ (ps : List ℕ). length ps) same ∙ sym many,
      ap (λ (ps : List ℕ). list_bad next names m ps None (place_of unit head)) same ∙ ap (λ (k : ℕ). list_bad next names k places None (place_of unit head)) many,
    )

-- ---- a step

some_is : (a b : List ℕ) → Some a ≡ Some b → a ≡ b
some_is a b same = cc

one_fewer : (p : ℕ) (ps qs : List ℕ) → without p ps ≡ Some qs → length ps ≡ suc (length qs)
one_fewer p [] qs out = absurd cc
one_fewer p (r ∷ ps) qs out = by (eqb r p) (without p ps) out (λ others is. one_fewer p ps others is)
  where
    by : (same : Bool) (o : Option (List ℕ)) → (if same then Some ps else option_map (λ rest. r ∷ rest) o) ≡ Some qs → ((others : List ℕ) → o ≡ Some others → length ps ≡ suc (length others)) → suc (length ps) ≡ suc (length qs)
    by true o is more = ap (λ (xs : List ℕ). suc (length xs)) (some_is ps qs is)
    by false None is more = absurd cc
    by false (Some others) is more = ap suc (more others refl) ∙ ap (λ (xs : List ℕ). suc (length xs)) (some_is (r ∷ others) qs is)

-- what the step needs of the number that it leaves as a mark
pub ahead_on : (unit : ℕ) (places numbers marks : List ℕ) (head before at index step y : ℕ) → place_of unit at ≡ Some (slice_index places index) → index < length places → length marks ≡ length places → slice_index marks index ≡ slice_index numbers index → slice_index marks index ≤ 2147483647
    → y ≡ 2147483648 + before → IsAhead unit places numbers marks head before at step → IsAhead unit places numbers (slice_set marks index y) head at (slice_index marks index) (step + 1)
ahead_on unit places numbers marks head before at index step y placed inside long same low is ahead = λ next names up nexts met m count.
    let over : 2147483647 < y = omega (arith, is) in
    let here = get_or-set_same marks index y 0 (omega (arith, long, inside)) in
    let so_far : HaveMet unit names places marks = λ k lt marked.
    let other = get_or-set_other marks index k y 0 (λ e. absurd (omega (arith, marked, low, ap (λ (j : ℕ). get_or marks j 0) e))) in
    subst (λ (v : ℕ). names (get_or places k 0) (place_of unit (before_in v)) ≡ true) other (met k lt (omega (arith, marked, other))) in
    let prior = ahead next names up nexts so_far (suc m) (omega (arith, count)) in
    let flag : get_or (flags_of marks) index false ≡ false = get_or-map (λ v. ltb 2147483647 v) marks index 0 false (omega (arith, long, inside)) ∙ le-ltb 2147483647 (get_or marks index 0) low in
    let flags : slice_set (flags_of marks) index true ≡ flags_of (slice_set marks index y) = sym (map-set (λ v. ltb 2147483647 v) marks index y ∙ ap (λ (b : Bool). slice_set (flags_of marks) index b) (lt-ltb 2147483647 y over)) in
    let p : ℕ = get_or places index 0 in
    let out = out_left p places (flags_of marks) index up (omega (arith, length-map marks (λ v. ltb 2147483647 v), long)) inside refl flag ∙ ap (λ (fs : List Bool). Some (unmet places fs)) flags in
    let back : before_in (get_or (slice_set marks index y) index 0) ≡ before = omega (arith, here, is) in
    let named : names p (place_of unit before) ≡ true = subst (λ (v : ℕ). names p (place_of unit v) ≡ true) back (met index inside (omega (arith, here, over))) in
    let follows : place_of unit (get_or marks index 0) ≡ next p = ap (place_of unit) same ∙ sym (nexts index inside) in (
      omega (arith, one_fewer p _ _ out, prior.0),
      ap (λ (o : Option ℕ). list_bad next names m (unmet places (flags_of (slice_set marks index y))) o (place_of unit (get_or marks index 0))) placed
          ∙ went_on next names m _ _ (place_of unit before) (place_of unit at) _ (place_of unit (get_or marks index 0)) p placed out named follows prior.1,
    )

-- ---- the end

no_places : (ps : List ℕ) → length ps ≡ 0 → least ps ≡ None
no_places [] none = refl
no_places (p ∷ ps) none = absurd cc

pub ahead_last : (unit : ℕ) (places numbers marks : List ℕ) (head before at step : ℕ) → at ≡ 0 → step ≡ length places → IsAhead unit places numbers marks head before at step → MeetsEach unit places numbers marks head
ahead_last unit places numbers marks head before at step none all ahead = λ next names up nexts befores.
    let last = ahead next names up nexts (λ k lt marked. befores k lt) 0 (omega (arith, all)) in
    sym last.1 ∙ ap (λ (a : ℕ). list_bad next names 0 (unmet places (flags_of marks)) (place_of unit before) (place_of unit a)) none ∙ no_places _ last.0

-- what is not marked is as it was
pub kept_on : (numbers marks : List ℕ) (index y : ℕ) → index < length marks → 2147483647 < y → ((k : ℕ) → slice_index marks k ≤ 2147483647 → slice_index marks k ≡ slice_index numbers k)
    → (k : ℕ) → slice_index (slice_set marks index y) k ≤ 2147483647 → slice_index (slice_set marks index y) k ≡ slice_index numbers k
kept_on numbers marks index y inside over kept k low = by (cases_eq k index)
  where
    by : (k ≡ index) ⊎ (k ≢ index) → get_or (slice_set marks index y) k 0 ≡ get_or numbers k 0
    by (inl same) = absurd (omega (arith, low, over, ap (λ (j : ℕ). get_or (slice_set marks index y) j 0) same, get_or-set_same marks index y 0 inside))
    by (inr other) = let left = get_or-set_other marks index k y 0 other in left ∙ kept k (omega (arith, low, left))
