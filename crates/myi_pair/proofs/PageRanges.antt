-- The ranges of the pages of a tree: how many bytes they have, and where they lie.
use Rattle.std.proofs.Common.{◌≡◌, ℕ, suc, ◌+◌, ◌-◌, ◌*◌, ◌≤◌, true, List, [], ◌∷◌, ◌++◌, length, map, nat_le, refl, ap, arith}
use Rattle.std.specs.List.{AllByRecursion}
use Rattle.std.proofs.lemmas.Bool.{and_from, or_right, le-leb}
use Rattle.std.proofs.lemmas.List.Sums.{sum_by-cons}
use Rattle.myi_base.specs.Ranges.{Range, are_apart, is_apart}
use Rattle.myi_btree.specs.LaidPages.{IsLaidAt}
use Rattle.myi_btree.specs.Visit.{page_range}
use Rattle.myi_pair.specs.Trees.{AreFree, total}

abbrev pub ranges_at : ℕ → List ℕ → List Range
ranges_at block ps = map (page_range block) ps

pub total_pages : (block : ℕ) (ps : List ℕ) → total (ranges_at block ps) ≡ block * length ps
total_pages block [] = omega arith
total_pages block (p ∷ ps) = omega (arith, sum_by-cons (λ (r : Range). r.1 - r.0) (page_range block p) (ranges_at block ps), total_pages block ps)

-- a page at this place lies between these places
abbrev pub IsBetween : ℕ → ℕ → ℕ → ℕ → Type 0
IsBetween low high block p = (low ≤ p) × (p + block ≤ high)

laid_between : (block first n p : ℕ) → IsLaidAt block first n p → IsBetween first (first + block * n) block p
laid_between block first n p (i, below, e) =
    let d : ℕ = n - suc i in
    let is : n ≡ i + suc d = omega arith in
    (omega (arith, e), omega (arith, e, ap (λ k. block * k) is))

pub all_between : (block first n : ℕ) (ps : List ℕ) → AllByRecursion (IsLaidAt block first n) ps → AllByRecursion (IsBetween first (first + block * n) block) ps
all_between block first n [] laid = tt
all_between block first n (p ∷ ps) laid = (laid_between block first n p laid.0, all_between block first n ps laid.1)

-- ranges that end by a place share no byte with what lies behind it

abbrev pub EndBy : ℕ → List Range → Type 0
EndBy p rs = AllByRecursion (λ (r : Range). r.1 ≤ p) rs

pub end_later : (p q : ℕ) (rs : List Range) → p ≤ q → EndBy p rs → EndBy q rs
end_later p q [] le h = tt
end_later p q (r ∷ rs) le h = (omega (arith, h.0), end_later p q rs le h.1)

pub end_append : (p : ℕ) (rs ss : List Range) → EndBy p rs → EndBy p ss → EndBy p (rs ++ ss)
end_append p [] ss h k = k
end_append p (r ∷ rs) ss h k = (h.0, end_append p rs ss h.1 k)

end_apart : (low p e : ℕ) (rs : List Range) → low ≤ p → EndBy low rs → is_apart (p, e) rs ≡ true
end_apart low p e [] le h = refl
end_apart low p e (r ∷ rs) le h =
    and_from (are_apart (p, e) r) (is_apart (p, e) rs) (or_right (nat_le e r.0) (nat_le r.1 p) (le-leb _ _ (omega (arith, h.0)))) (end_apart low p e rs le h.1)

pub between_free : (low high block : ℕ) (busy : List Range) (ps : List ℕ) → EndBy low busy → AllByRecursion (IsBetween low high block) ps → AreFree busy (ranges_at block ps)
between_free low high block busy [] ends between = tt
between_free low high block busy (p ∷ ps) ends between = (end_apart low p (p + block) busy between.0.0 ends, between_free low high block busy ps ends between.1)

pub between_end : (low high block : ℕ) (ps : List ℕ) → AllByRecursion (IsBetween low high block) ps → EndBy high (ranges_at block ps)
between_end low high block [] between = tt
between_end low high block (p ∷ ps) between = (between.0.1, between_end low high block ps between.1)
