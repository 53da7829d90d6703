-- A binary search for a place among places that rise.
use Rattle.std.proofs.Common.{◌≡◌, ◌≢◌, ◌⊎◌, inl, inr, ℕ, zero, suc, ◌+◌, ◌-◌, ◌*◌, ◌<◌, ◌≤◌, List, [], ◌∷◌, ◌++◌, length, take, drop, get_or, ap, sym, ◌∙◌, subst, arith}
use Rattle.std.specs.List.{AllByRecursion}
use Rattle.std.proofs.lemmas.Bool.{cases_lt}
use Rattle.myi_placelist.specs.declared.groups.Group.{Group}
use Rattle.myi_placelist.specs.declared.groups.Group.TheVariants.{Close}
use Rattle.myi_placelist.specs.Groups.{places_behind, places_at, places_in, IsWithin, IsBetween}
use Rattle.myi_placelist.specs.Places.{IsRising, IsCountBelow}
use Rattle.myi_placelist.proofs.GroupLemmas.{grouped_at}

reach : (p : ℕ) (ps : List ℕ) (j : ℕ) → AllByRecursion (λ q. p < q) ps → j < length ps → p < get_or ps j 0
reach p [] j all lt = absurd (omega (arith, lt))
reach p (q ∷ ps) zero all lt = all.0
reach p (q ∷ ps) (suc j) all lt = reach p ps j all.1 (omega (arith, lt))

rising_at : (ps : List ℕ) (i j : ℕ) → IsRising ps → i < j → j < length ps → get_or ps i 0 < get_or ps j 0
rising_at [] i j up lt inside = absurd (omega (arith, inside))
rising_at (p ∷ ps) i zero up lt inside = absurd (omega (arith, lt))
rising_at (p ∷ ps) zero (suc j) up lt inside = reach p ps j up.0 (omega (arith, inside))
rising_at (p ∷ ps) (suc i) (suc j) up lt inside = rising_at ps i j up.1 (omega (arith, lt)) (omega (arith, inside))

-- where the place in the middle is lower, so are those before it
pub below_more : (x : ℕ) (ps : List ℕ) (m : ℕ) → m < length ps → get_or ps m 0 < x → IsRising ps → (k : ℕ) → k < m + 1 → get_or ps k 0 < x
below_more x ps m inside less up k lt = by (cases_lt k m)
  where
    by : (k < m) ⊎ (m ≤ k) → get_or ps k 0 < x
    by (inl near) = omega (arith, rising_at ps k m up near inside, less)
    by (inr at) = let same : m ≡ k = omega (arith, at, lt) in subst (λ (n : ℕ). get_or ps n 0 < x) same less

-- where it is not, those behind it are not
pub above_more : (x : ℕ) (ps : List ℕ) (m : ℕ) → x ≤ get_or ps m 0 → IsRising ps → (k : ℕ) → m ≤ k → k < length ps → x ≤ get_or ps k 0
above_more x ps m more up k le inside = by (cases_lt m k)
  where
    by : (m < k) ⊎ (k ≤ m) → x ≤ get_or ps k 0
    by (inl far) = omega (arith, rising_at ps m k up far inside, more)
    by (inr at) = let same : m ≡ k = omega (arith, at, le) in subst (λ (n : ℕ). x ≤ get_or ps n 0) same more

-- a group in the list of steps was gone through
pub group_counted : (x base start q from to n : ℕ) (steps near far latest part : List ℕ) (gs : List Group) (g : Group) → AllByRecursion (IsWithin steps near far) gs → q < length gs → g ≡ get_or gs q g → g ≡ Close base start → from ≡ 64 * q → to ≤ from + 64 → part ≡ take 64 (drop start steps)
    → ((k : ℕ) → k < n → get_or (places_behind base part) k 0 < x) → (n < 64 → x ≤ get_or (places_behind base part) n 0) → n ≤ 64
    → IsRising (places_in steps near far gs ++ latest) → IsBetween x (places_in steps near far gs ++ latest) from to → IsCountBelow x (places_in steps near far gs ++ latest) (from + n)
group_counted x base start q from to n steps near far latest part gs g all inside at close first near_to is under over few up between = record {
  below = λ k lt. by k lt (cases_lt k from);
  above = λ k le lt. behind k le lt (cases_lt n 64);
}
  where
    list : List ℕ
    list = places_in steps near far gs ++ latest

    here : (r : ℕ) → r < 64 → get_or (places_behind base part) r 0 ≡ get_or list (from + r) 0
    here r small = grouped_at steps near far latest gs q r (from + r) g (get_or (places_behind base part) r 0) all inside small (omega (arith, first)) at
        (ap (λ (ss : List ℕ). get_or (places_behind base ss) r 0) is ∙ sym (ap (λ (h : Group). get_or (places_at steps near far h) r 0) close))

    by : (k : ℕ) → k < from + n → (k < from) ⊎ (from ≤ k) → get_or list k 0 < x
    by k lt (inl before) = between.below k before
    by k lt (inr le) =
        let r : ℕ = k - from in
        let same : from + r ≡ k = omega (arith, le) in
        let low = under r (omega (arith, lt, le)) in
        let place = here r (omega (arith, lt, le, few)) ∙ ap (λ (j : ℕ). get_or list j 0) same in
        omega (arith, low, place)

    behind : (k : ℕ) → from + n ≤ k → k < length list → (n < 64) ⊎ (64 ≤ n) → x ≤ get_or list k 0
    behind k le lt (inl less) = above_more x list (from + n) (omega (arith, over less, here n less)) up k le lt
    behind k le lt (inr most) = between.above k (omega (arith, le, most, near_to)) lt

-- the last place is below, so all are
pub all_below : (x : ℕ) (ps : List ℕ) (m : ℕ) → m + 1 ≡ length ps → get_or ps m 0 < x → IsRising ps → IsCountBelow x ps (length ps)
all_below x ps m last less up = record {
  below = λ k lt. below_more x ps m (omega (arith, last)) less up k (omega (arith, last, lt));
  above = λ k le lt. absurd (omega (arith, le, lt));
}

none_at : (x : ℕ) (ps : List ℕ) → ((k : ℕ) → k < length ps → get_or ps k 0 ≢ x) → AllByRecursion (λ q. q ≢ x) ps
none_at x [] far = tt
none_at x (p ∷ ps) far = (far 0 (omega arith), none_at x ps (λ k lt. far (suc k) (omega (arith, lt))))

-- all places are below, or the first that is not below is another one
pub none_left : (x : ℕ) (ps : List ℕ) (m : ℕ) → m ≡ length ps → IsCountBelow x ps m → AllByRecursion (λ q. q ≢ x) ps
none_left x ps m all is = none_at x ps (λ k lt same. absurd (omega (arith, is.below k (omega (arith, lt, all)), same)))

pub none_here : (x : ℕ) (ps : List ℕ) (m : ℕ) → m < length ps → get_or ps m 0 ≢ x → IsRising ps → IsCountBelow x ps m → AllByRecursion (λ q. q ≢ x) ps
none_here x ps m inside other up is = none_at x ps (λ k lt. by k lt (cases_lt k m) (cases_lt m k))
  where
    by : (k : ℕ) → k < length ps → (k < m) ⊎ (m ≤ k) → (m < k) ⊎ (k ≤ m) → get_or ps k 0 ≢ x
    by k lt (inl near) far = λ same. absurd (omega (arith, is.below k near, same))
    by k lt (inr le) (inl far) = λ same. absurd (omega (arith, is.above m (omega arith) inside, rising_at ps m k up far lt, same))
    by k lt (inr le) (inr ge) = let here : m ≡ k = omega (arith, le, ge) in subst (λ (n : ℕ). get_or ps n 0 ≢ x) here other
