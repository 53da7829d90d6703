-- Deleted blocks that are left to be met, by a flag for each place in order.
use Rattle.std.proofs.Common.{◌≡◌, ◌≢◌, ℕ, zero, suc, ◌+◌, ◌<◌, ◌≤◌, ◌-◌, ◌^◌, ◌⊎◌, inl, inr, subst, Bool, true, false, not, min, List, [], ◌∷◌, ◌++◌, length, take, drop, replicate, get_or, Option, Some, None, refl, sym, ap, ◌∙◌, arith}
use Rattle.std.specs.Prelude.{slice_set}
use Rattle.std.specs.Option.{option_map}
use Rattle.std.specs.Prelude.{HoldsAt}
use Rattle.std.specs.List.{AllByRecursion}
use Rattle.std.proofs.lemmas.Bool.{eq-eqb, ne_eqb, cases_lt}
use Rattle.std.proofs.lemmas.List.{drop_all, append-nil, take_all}
use Rattle.myi_pair.specs.FirstBad.{without, least_of, least}
use Rattle.myi_pair.specs.Findings.{told}
use Rattle.myi_defs.specs.declared.types.Defs.{Defs}
use Rattle.myi_placelist.specs.Places.{IsRising}
use Rattle.myi_check.specs.Rows.{ArePointed}
use Rattle.myi_check.specs.ListMet.{unmet}

-- all of these places, with a weaker fact
all_weaker : (P Q : ℕ → Type 0) → ((q : ℕ) → P q → Q q) → (ps : List ℕ) → AllByRecursion P ps → AllByRecursion Q ps
all_weaker P Q go [] all = tt
all_weaker P Q go (p ∷ ps) all = (go p all.0, all_weaker P Q go ps all.1)

above : (p : ℕ) (ps : List ℕ) → AllByRecursion (λ q. p < q) ps → AllByRecursion (λ q. q ≢ p) ps
above p ps all = all_weaker (λ q. p < q) (λ q. q ≢ p) (λ q far same. absurd (omega (arith, far, same))) ps all

-- what holds of each holds of one
at_index : (P : ℕ → Type 0) (ps : List ℕ) (i : ℕ) → AllByRecursion P ps → i < length ps → P (get_or ps i 0)
at_index P [] i all lt = absurd (omega (arith, lt))
at_index P (p ∷ ps) zero all lt = all.0
at_index P (p ∷ ps) (suc i) all lt = at_index P ps i all.1 (omega (arith, lt))

unmet_all : (P : ℕ → Type 0) (ps : List ℕ) (flags : List Bool) → AllByRecursion P ps → AllByRecursion P (unmet ps flags)
unmet_all P [] flags all = tt
unmet_all P (p ∷ ps) [] all = tt
unmet_all P (p ∷ ps) (true ∷ flags) all = unmet_all P ps flags all.1
unmet_all P (p ∷ ps) (false ∷ flags) all = (all.0, unmet_all P ps flags all.1)

-- before anything is met
pub unmet_fresh : (ps : List ℕ) → unmet ps (replicate (length ps) false) ≡ ps
unmet_fresh [] = refl
unmet_fresh (p ∷ ps) = ap (λ (qs : List ℕ). p ∷ qs) (unmet_fresh ps)

-- ---- a place among those that are left

past : (p q : ℕ) (ps : List ℕ) (o : Option (List ℕ)) → q ≢ p → without p ps ≡ o → without p (q ∷ ps) ≡ option_map (λ rest. q ∷ rest) o
past p q ps o other is = let absent = ne_eqb q p other in rw (absent, is) refl

first : (p q : ℕ) (ps : List ℕ) → q ≡ p → without p (q ∷ ps) ≡ Some ps
first p q ps same = let same' = eq-eqb q p same in rw same' refl

without_none : (p : ℕ) (ps : List ℕ) → AllByRecursion (λ q. q ≢ p) ps → without p ps ≡ None
without_none p [] absent = refl
without_none p (q ∷ ps) absent = past p q ps None absent.0 (without_none p ps absent.1)

-- one that is none of them
pub out_none : (p : ℕ) (ps : List ℕ) (flags : List Bool) → AllByRecursion (λ q. q ≢ p) ps → without p (unmet ps flags) ≡ None
out_none p ps flags absent = without_none p (unmet ps flags) (unmet_all (λ q. q ≢ p) ps flags absent)

-- one that was met before
pub out_met : (p : ℕ) (ps : List ℕ) (flags : List Bool) (i : ℕ) → IsRising ps → i < length ps → get_or ps i 0 ≡ p → get_or flags i false ≡ true → without p (unmet ps flags) ≡ None
out_met p [] flags i up lt at met = absurd (omega (arith, lt))
out_met p (q ∷ ps) [] i up lt at met = refl
out_met p (q ∷ ps) (true ∷ flags) zero up lt at met = out_none p ps flags (all_weaker (λ r. q < r) (λ r. r ≢ p) (λ r far same. absurd (omega (arith, far, same, at))) ps up.0)
out_met p (q ∷ ps) (false ∷ flags) zero up lt at met = absurd cc
out_met p (q ∷ ps) (true ∷ flags) (suc i) up lt at met = out_met p ps flags i up.1 (omega (arith, lt)) at met
out_met p (q ∷ ps) (false ∷ flags) (suc i) up lt at met =
    let far : q < p = omega (arith, at_index (λ r. q < r) ps i up.0 (omega (arith, lt)), at) in
    past p q (unmet ps flags) None (λ same. absurd (omega (arith, far, same))) (out_met p ps flags i up.1 (omega (arith, lt)) at met)

-- one that is left
pub out_left : (p : ℕ) (ps : List ℕ) (flags : List Bool) (i : ℕ) → IsRising ps → length flags ≡ length ps → i < length ps → get_or ps i 0 ≡ p → get_or flags i false ≡ false → without p (unmet ps flags) ≡ Some (unmet ps (slice_set flags i true))
out_left p [] flags i up long lt at left = absurd (omega (arith, lt))
out_left p (q ∷ ps) [] i up long lt at left = absurd (omega (arith, long))
out_left p (q ∷ ps) (true ∷ flags) zero up long lt at left = absurd cc
out_left p (q ∷ ps) (false ∷ flags) zero up long lt at left = first p q (unmet ps flags) at
out_left p (q ∷ ps) (true ∷ flags) (suc i) up long lt at left = out_left p ps flags i up.1 (omega (arith, long)) (omega (arith, lt)) at left
out_left p (q ∷ ps) (false ∷ flags) (suc i) up long lt at left =
    let far : q < p = omega (arith, at_index (λ r. q < r) ps i up.0 (omega (arith, lt)), at) in
    past p q (unmet ps flags) (Some (unmet ps (slice_set flags i true))) (λ same. absurd (omega (arith, far, same))) (out_left p ps flags i up.1 (omega (arith, long)) (omega (arith, lt)) at left)

-- ---- the lowest that is left

least_first : (p : ℕ) (ps : List ℕ) → AllByRecursion (λ q. p < q) ps → least_of p ps ≡ p
least_first p [] all = refl
least_first p (q ∷ ps) all =
    let low : min p q ≡ p = omega (arith, all.0) in
    ap (λ r. least_of r ps) low ∙ least_first p ps all.1

pub least_at : (ps : List ℕ) (flags : List Bool) (i : ℕ) → IsRising ps → length flags ≡ length ps → i < length ps → ((k : ℕ) → k < i → get_or flags k false ≡ true) → get_or flags i false ≡ false → least (unmet ps flags) ≡ Some (get_or ps i 0)
least_at [] flags i up long lt before left = absurd (omega (arith, lt))
least_at (p ∷ ps) [] i up long lt before left = absurd (omega (arith, long))
least_at (p ∷ ps) (true ∷ flags) zero up long lt before left = absurd cc
least_at (p ∷ ps) (false ∷ flags) zero up long lt before left = ap (λ (n : ℕ). Some n) (least_first p (unmet ps flags) (unmet_all (λ q. p < q) ps flags up.0))
least_at (p ∷ ps) (true ∷ flags) (suc i) up long lt before left = least_at ps flags i up.1 (omega (arith, long)) (omega (arith, lt)) (λ k lt'. before (suc k) (omega (arith, lt'))) left
least_at (p ∷ ps) (false ∷ flags) (suc i) up long lt before left = let met : false ≡ true = before 0 (omega arith) in absurd cc

pub least_none : (ps : List ℕ) (flags : List Bool) → length flags ≡ length ps → ((k : ℕ) → k < length ps → get_or flags k false ≡ true) → least (unmet ps flags) ≡ None
least_none ps flags long all = ap least (none ps flags long all)
  where
    none : (ps : List ℕ) (flags : List Bool) → length flags ≡ length ps → ((k : ℕ) → k < length ps → get_or flags k false ≡ true) → unmet ps flags ≡ []
    none [] flags long all = refl
    none (p ∷ ps) [] long all = refl
    none (p ∷ ps) (true ∷ flags) long all = none ps flags (omega (arith, long)) (λ k lt. all (suc k) (omega (arith, lt)))
    none (p ∷ ps) (false ∷ flags) long all = let met : false ≡ true = all 0 (omega arith) in absurd cc

pub told_below : (p : ℕ) → p < 2 ^ 64 → told p ≡ p
told_below p lt = by p (2 ^ 64 - 1) (omega (arith, lt))
  where
    by : (p top : ℕ) → p ≤ top → min p top ≡ p
    by p top le = omega arith

-- one more flag is set
pub met_more : (flags : List Bool) (i : ℕ) → ((k : ℕ) → k < i → get_or flags k false ≡ true) → get_or flags i false ≡ true → (k : ℕ) → k < i + 1 → get_or flags k false ≡ true
met_more flags i before here k lt = by (cases_lt k i)
  where
    by : (k < i) ⊎ (i ≤ k) → get_or flags k false ≡ true
    by (inl far) = before k far
    by (inr near) = let same : i ≡ k = omega (arith, lt, near) in subst (λ (j : ℕ). get_or flags j false ≡ true) same here

-- elements that stand in the place of as many
pub whole_items : {A : Type 0} (new items : List A) (len : ℕ) → len ≡ length items → length new ≡ length items → take len (new ++ drop (length new) items) ≡ new
whole_items new items len e f =
    let none = drop_all (length new) items (omega (arith, f)) in
    ap (λ t. take len (new ++ t)) none ∙ ap (take len) (append-nil new) ∙ take_all len new (omega (arith, e, f))

pub named_is : (a b : Bool) → a ≡ b → not a ≡ false → b ≡ true
named_is true b same names = sym same
named_is false b same names = absurd cc

pub not_named : (a b : Bool) → a ≡ b → not a ≡ true → b ≡ false
not_named true b same names = absurd cc
not_named false b same names = sym same

-- an element does not depend on what stands for none
pub elements_same : (ps : List ℕ) (i a b : ℕ) → i < length ps → get_or ps i a ≡ get_or ps i b
elements_same [] i a b lt = absurd (omega (arith, lt))
elements_same (p ∷ ps) zero a b lt = refl
elements_same (p ∷ ps) (suc i) a b lt = elements_same ps i a b (omega (arith, lt))

-- what holds of all places of deleted blocks holds of one
pub pointed_one : (d : Defs) (end : ℕ) (ps : List ℕ) (p : ℕ) → (i : ℕ) × (i < length ps) × HoldsAt (λ q. q ≡ p) ps i → ArePointed d end ps → ArePointed d end (p ∷ [])
pointed_one d end ps p (i, lt, at) are = λ static. (subst (λ q. q + d.rec_ref < end) (at 0) (at_index (λ q. q + d.rec_ref < end) ps i (are static) lt), tt)
