-- Marks whose row numbers become row pointers.
use Rattle.std.proofs.Common.{◌≡◌, Bool, true, false, cond, ℕ, zero, suc, ◌+◌, ◌<◌, List, [], ◌∷◌, ◌++◌, length, get_or, set, take, drop, map, refl, ap, ◌∙◌, arith}
use Rattle.std.specs.List.{AllByRecursion, filter}
use Rattle.myi_keylist.specs.declared.pair_list.Mark.{Mark}
use Rattle.myi_keylist.specs.PairLists.{pair_at, pairs_at, pointed_mark, is_flagged, IsMark}
use Rattle.myi_keylist.specs.Columns.{has_flag, pointed}

marks_stand : (codes pointers : List ℕ) (marks : List Mark) → AllByRecursion (IsMark codes) marks → AllByRecursion (IsMark codes) (map (pointed_mark pointers) marks)
marks_stand codes pointers [] all = tt
marks_stand codes pointers (mark ∷ marks) all =
    (record { key = all.0.key; is = all.0.is; rest = all.0.rest; stands = all.0.stands; prefix = all.0.prefix }, marks_stand codes pointers marks all.1)

marks_point : (codes pointers : List ℕ) (marks : List Mark) → pairs_at codes (map (pointed_mark pointers) marks) ≡ map (pointed pointers) (pairs_at codes marks)
unfolding pair_at
marks_point codes pointers [] = refl
marks_point codes pointers (mark ∷ marks) = ap (λ ps. pointed pointers (pair_at codes mark) ∷ ps) (marks_point codes pointers marks)

pub all_stand : (codes pointers : List ℕ) (marks after : List Mark) → after ≡ map (pointed_mark pointers) marks → AllByRecursion (IsMark codes) marks → AllByRecursion (IsMark codes) after
all_stand codes pointers marks after is all = rw is (marks_stand codes pointers marks all)

pub all_point : (codes pointers : List ℕ) (marks after : List Mark) → after ≡ map (pointed_mark pointers) marks → pairs_at codes after ≡ map (pointed pointers) (pairs_at codes marks)
all_point codes pointers marks after is = ap (pairs_at codes) is ∙ marks_point codes pointers marks

-- one more mark of the loop
pub one_more : (f : Mark → Mark) (xs ys : List Mark) (i : ℕ) (d y : Mark) → i < length xs → ys ≡ map f (take i xs) ++ drop i xs → y ≡ f (get_or ys i d) → set ys i y ≡ map f (take (i + 1) xs) ++ drop (i + 1) xs
one_more f xs ys i d y few is made = rw made (rw is (go f xs i d few))
  where
    go : (f : Mark → Mark) (xs : List Mark) (i : ℕ) (d : Mark) → i < length xs → set (map f (take i xs) ++ drop i xs) i (f (get_or (map f (take i xs) ++ drop i xs) i d)) ≡ map f (take (i + 1) xs) ++ drop (i + 1) xs
    go f [] i d few = absurd (omega arith)
    go f (z ∷ xs) zero d few = refl
    go f (z ∷ xs) (suc i) d few = let e : suc i + 1 ≡ suc (i + 1) = omega arith in rw e (ap (λ zs. f z ∷ zs) (go f xs i d (omega arith)))

-- marks of the same number are written over others
pub refilled : (ws marks : List Mark) (n : ℕ) → n ≡ length marks → length ws ≡ length marks → take n (ws ++ drop (length ws) marks) ≡ ws
refilled [] [] zero long same = refl
refilled [] [] (suc n) long same = absurd (omega (arith, long))
refilled [] (x ∷ marks) n long same = absurd (omega (arith, same))
refilled (w ∷ ws) [] n long same = absurd (omega (arith, same))
refilled (w ∷ ws) (x ∷ marks) zero long same = absurd (omega (arith, long))
refilled (w ∷ ws) (x ∷ marks) (suc n) long same = ap (λ zs. w ∷ zs) (refilled ws marks n (omega (arith, long)) (omega (arith, same)))

-- ---- marks are taken out

marks_left : (test : Mark → Bool) (codes : List ℕ) (marks : List Mark) → AllByRecursion (IsMark codes) marks → AllByRecursion (IsMark codes) (filter test marks)
marks_left test codes [] all = tt
marks_left test codes (mark ∷ marks) all = by (test mark) (marks_left test codes marks all.1)
  where
    by : (b : Bool) → AllByRecursion (IsMark codes) (filter test marks) → AllByRecursion (IsMark codes) (cond b (mark ∷ filter test marks) (filter test marks))
    by true others = (all.0, others)
    by false others = others

pairs_left : (flags : List Bool) (codes : List ℕ) (marks : List Mark) → pairs_at codes (filter (is_flagged flags) marks) ≡ filter (has_flag flags) (pairs_at codes marks)
unfolding pair_at
pairs_left flags codes [] = refl
pairs_left flags codes (mark ∷ marks) = by (is_flagged flags mark) (pairs_left flags codes marks)
  where
    by : (b : Bool) → pairs_at codes (filter (is_flagged flags) marks) ≡ filter (has_flag flags) (pairs_at codes marks)
        → pairs_at codes (cond b (mark ∷ filter (is_flagged flags) marks) (filter (is_flagged flags) marks)) ≡ cond b (pair_at codes mark ∷ filter (has_flag flags) (pairs_at codes marks)) (filter (has_flag flags) (pairs_at codes marks))
    by true others = ap (λ ps. pair_at codes mark ∷ ps) others
    by false others = others

pub all_left : (flags : List Bool) (codes : List ℕ) (marks after : List Mark) → after ≡ filter (is_flagged flags) marks → AllByRecursion (IsMark codes) marks → AllByRecursion (IsMark codes) after
all_left flags codes marks after is all = rw is (marks_left (is_flagged flags) codes marks all)

pub pairs_kept : (flags : List Bool) (codes : List ℕ) (marks after : List Mark) → after ≡ filter (is_flagged flags) marks → pairs_at codes after ≡ filter (has_flag flags) (pairs_at codes marks)
pairs_kept flags codes marks after is = ap (pairs_at codes) is ∙ pairs_left flags codes marks
