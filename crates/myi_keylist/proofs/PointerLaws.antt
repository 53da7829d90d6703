-- Row pointers that rise with the numbers of the rows keep the order of pairs.
use Rattle.std.proofs.Common.{◌≡◌, ℕ, zero, suc, ◌<◌, ◌⊎◌, inl, inr, Bool, true, false, cond, List, [], ◌∷◌, length, get_or, map, refl, sym, ap, ◌∙◌, arith}
use Rattle.std.proofs.lemmas.Bool.Decides.{nat_tests}
use Rattle.std.specs.List.{AllByRecursion, filter}
use Rattle.std.specs.Ordering.{nat_cmp, ordering_then, is_gt}
use Rattle.std.specs.declared.cmp.Ordering.{Ordering}
use Rattle.std.specs.declared.cmp.Ordering.TheVariants.{Less, Equal, Greater}
use Rattle.myi_keys.specs.Order.{key_cmp}
use Rattle.myi_keylist.specs.declared.pair.Pair.{Pair}
use Rattle.myi_keylist.specs.PairOrder.{pair_cmp, put_pair, sorted}
use Rattle.myi_keylist.specs.Columns.{AreRising, AreRisingAt, has_flag, pointed}
use Rattle.myi_keylist.proofs.SortedLaws.{Behind, InOrder, pair_total, sorted_in_order, behind_order}
use Rattle.myi_keylist.proofs.TogetherLaws.{up_through}

pub three : (a b : ℕ) → (a < b) ⊎ ((a ≡ b) ⊎ (b < a))
three zero zero = inr (inl refl)
three zero (suc b) = inl (omega arith)
three (suc a) zero = inr (inr (omega arith))
three (suc a) (suc b) = more (three a b)
  where
    more : (a < b) ⊎ ((a ≡ b) ⊎ (b < a)) → (suc a < suc b) ⊎ ((suc a ≡ suc b) ⊎ (suc b < suc a))
    more (inl low) = inl (omega arith)
    more (inr (inl same)) = inr (inl (ap suc same))
    more (inr (inr up)) = inr (inr (omega arith))

cmp_less : (a b : ℕ) → a < b → nat_cmp a b ≡ Less
cmp_less a b low = grind (arith, nat_tests)

cmp_more : (a b : ℕ) → b < a → nat_cmp a b ≡ Greater
cmp_more a b up = grind (arith, nat_tests)

-- pointers rise at the rows that are P
Rises : (ℕ → Type 0) → List ℕ → Type 0
Rises P pointers = (i j : ℕ) → i < j → P i → P j → get_or pointers i 0 < get_or pointers j 0

cmp_kept : (P : ℕ → Type 0) (pointers : List ℕ) (a b : ℕ) → Rises P pointers → P a → P b → nat_cmp (get_or pointers a 0) (get_or pointers b 0) ≡ nat_cmp a b
unfolding Rises
cmp_kept P pointers a b rise few fewer = by (three a b)
  where
    by : (a < b) ⊎ ((a ≡ b) ⊎ (b < a)) → nat_cmp (get_or pointers a 0) (get_or pointers b 0) ≡ nat_cmp a b
    by (inl low) = cmp_less _ _ (rise a b low few fewer) ∙ sym (cmp_less a b low)
    by (inr (inl same)) = by_same (nat_cmp b b) (nat_cmp (get_or pointers b 0) (get_or pointers b 0)) refl refl
      where
        by_same : (o u : Ordering) → nat_cmp b b ≡ o → nat_cmp (get_or pointers b 0) (get_or pointers b 0) ≡ u → nat_cmp (get_or pointers a 0) (get_or pointers b 0) ≡ nat_cmp a b
        by_same o u is isnt = rw same (cmp_itself (get_or pointers b 0) ∙ sym (cmp_itself b))
          where
            cmp_itself : (n : ℕ) → nat_cmp n n ≡ Equal
            cmp_itself n = grind (arith, nat_tests)
    by (inr (inr up)) = cmp_more _ _ (rise b a up fewer few) ∙ sym (cmp_more a b up)

Has : (ℕ → Type 0) → Pair → Type 0
Has P p = P p.row

pair_kept : (P : ℕ → Type 0) (pointers : List ℕ) (p q : Pair) → Rises P pointers → Has P p → Has P q → pair_cmp (pointed pointers p) (pointed pointers q) ≡ pair_cmp p q
unfolding Has
pair_kept P pointers p q rise few fewer = ap (ordering_then (key_cmp p.key q.key)) (cmp_kept P pointers p.row q.row rise few fewer)

put_all : (P : ℕ → Type 0) (p : Pair) (qs : List Pair) → Has P p → AllByRecursion (Has P) qs → AllByRecursion (Has P) (put_pair p qs)
put_all P p [] has all = (has, tt)
put_all P p (q ∷ qs) has all = by (is_gt (pair_cmp p q)) (put_all P p qs has all.1)
  where
    by : (b : Bool) → AllByRecursion (Has P) (put_pair p qs) → AllByRecursion (Has P) (cond b (q ∷ put_pair p qs) (p ∷ q ∷ qs))
    by true others = (all.0, others)
    by false others = (has, all)

sorted_all : (P : ℕ → Type 0) (ps : List Pair) → AllByRecursion (Has P) ps → AllByRecursion (Has P) (sorted ps)
sorted_all P [] all = tt
sorted_all P (p ∷ ps) all = put_all P p (sorted ps) all.0 (sorted_all P ps all.1)

put_kept : (P : ℕ → Type 0) (pointers : List ℕ) (p : Pair) (qs : List Pair) → Rises P pointers → Has P p → AllByRecursion (Has P) qs
    → put_pair (pointed pointers p) (map (pointed pointers) qs) ≡ map (pointed pointers) (put_pair p qs)
put_kept P pointers p [] rise has all = refl
put_kept P pointers p (q ∷ qs) rise has all = by (is_gt (pair_cmp (pointed pointers p) (pointed pointers q))) (is_gt (pair_cmp p q)) (ap is_gt (pair_kept P pointers p q rise has all.0)) (put_kept P pointers p qs rise has all.1)
  where
    by : (a b : Bool) → a ≡ b → put_pair (pointed pointers p) (map (pointed pointers) qs) ≡ map (pointed pointers) (put_pair p qs)
        → cond a (pointed pointers q ∷ put_pair (pointed pointers p) (map (pointed pointers) qs)) (pointed pointers p ∷ pointed pointers q ∷ map (pointed pointers) qs) ≡ map (pointed pointers) (cond b (q ∷ put_pair p qs) (p ∷ q ∷ qs))
    by true true same others = ap (λ ps. pointed pointers q ∷ ps) others
    by false false same others = refl
    by true false same others = absurd cc
    by false true same others = absurd cc

sorted_kept : (P : ℕ → Type 0) (pointers : List ℕ) (ps : List Pair) → Rises P pointers → AllByRecursion (Has P) ps → sorted (map (pointed pointers) ps) ≡ map (pointed pointers) (sorted ps)
sorted_kept P pointers [] rise all = refl
sorted_kept P pointers (p ∷ ps) rise all = ap (put_pair (pointed pointers p)) (sorted_kept P pointers ps rise all.1) ∙ put_kept P pointers p (sorted ps) rise all.0 (sorted_all P ps all.1)

pub pointers_sorted : (pointers : List ℕ) (ps : List Pair) → AreRising pointers → AllByRecursion (λ (p : Pair). p.row < length pointers) ps → sorted (map (pointed pointers) ps) ≡ map (pointed pointers) (sorted ps)
unfolding Has Rises
pointers_sorted pointers ps rise all = sorted_kept (λ row. row < length pointers) pointers ps (λ i j low few fewer. rise i j low fewer) all

-- ---- pairs are taken out

behind_through : (p q : Pair) (qs : List Pair) → is_gt (pair_cmp p q) ≡ false → Behind q qs → Behind p qs
unfolding Behind
behind_through p q [] low behind = tt
behind_through p q (r ∷ qs) low behind = (up_through pair_total p q r low behind.0, behind.1)

put_first : (test : Pair → Bool) (p : Pair) (qs : List Pair) → Behind p qs → p ∷ filter test qs ≡ put_pair p (filter test qs)
unfolding Behind
put_first test p [] behind = refl
put_first test p (q ∷ qs) behind = by (test q) (put_first test p qs (behind_through p q qs behind.0 behind.1))
  where
    by : (b : Bool) → p ∷ filter test qs ≡ put_pair p (filter test qs) → p ∷ cond b (q ∷ filter test qs) (filter test qs) ≡ put_pair p (cond b (q ∷ filter test qs) (filter test qs))
    by true others = sym (ap (λ c. cond c (q ∷ put_pair p (filter test qs)) (p ∷ q ∷ filter test qs)) behind.0)
    by false others = others

put_filtered : (test : Pair → Bool) (p : Pair) (qs : List Pair) → InOrder qs → filter test (put_pair p qs) ≡ cond (test p) (put_pair p (filter test qs)) (filter test qs)
unfolding InOrder Behind
put_filtered test p [] order = refl
put_filtered test p (q ∷ qs) order = by (is_gt (pair_cmp p q)) refl (put_filtered test p qs (behind_order q qs order))
  where
    over : (t c : Bool) → is_gt (pair_cmp p q) ≡ true → cond c (q ∷ cond t (put_pair p (filter test qs)) (filter test qs)) (cond t (put_pair p (filter test qs)) (filter test qs))
        ≡ cond t (put_pair p (cond c (q ∷ filter test qs) (filter test qs))) (cond c (q ∷ filter test qs) (filter test qs))
    over true true is = sym (ap (λ b. cond b (q ∷ put_pair p (filter test qs)) (p ∷ q ∷ filter test qs)) is)
    over true false is = refl
    over false true is = refl
    over false false is = refl

    by : (b : Bool) → is_gt (pair_cmp p q) ≡ b → filter test (put_pair p qs) ≡ cond (test p) (put_pair p (filter test qs)) (filter test qs)
        → filter test (cond b (q ∷ put_pair p qs) (p ∷ q ∷ qs)) ≡ cond (test p) (put_pair p (filter test (q ∷ qs))) (filter test (q ∷ qs))
    by true is others = ap (λ ps. cond (test q) (q ∷ ps) ps) others ∙ over (test p) (test q) is
    by false is others = ap (λ ps. cond (test p) ps (filter test (q ∷ qs))) (put_first test p (q ∷ qs) (is, order))

pub sorted_filtered : (test : Pair → Bool) (ps : List Pair) → filter test (sorted ps) ≡ sorted (filter test ps)
sorted_filtered test [] = refl
sorted_filtered test (p ∷ ps) = put_filtered test p (sorted ps) (sorted_in_order ps) ∙ by (test p) (sorted_filtered test ps)
  where
    by : (b : Bool) → filter test (sorted ps) ≡ sorted (filter test ps) → cond b (put_pair p (filter test (sorted ps))) (filter test (sorted ps)) ≡ sorted (cond b (p ∷ filter test ps) (filter test ps))
    by true same = ap (put_pair p) same
    by false same = same

all_flagged : (flags : List Bool) (ps : List Pair) → AllByRecursion (Has (λ row. get_or flags row false ≡ true)) (filter (has_flag flags) ps)
unfolding Has
all_flagged flags [] = tt
all_flagged flags (p ∷ ps) = by (has_flag flags p) refl (all_flagged flags ps)
  where
    by : (b : Bool) → has_flag flags p ≡ b → AllByRecursion (Has (λ row. get_or flags row false ≡ true)) (filter (has_flag flags) ps) → AllByRecursion (Has (λ row. get_or flags row false ≡ true)) (cond b (p ∷ filter (has_flag flags) ps) (filter (has_flag flags) ps))
    by true is others = (is, others)
    by false is others = others

pub kept_sorted : (flags : List Bool) (pointers : List ℕ) (ps : List Pair) → AreRisingAt flags pointers → sorted (map (pointed pointers) (filter (has_flag flags) ps)) ≡ map (pointed pointers) (filter (has_flag flags) (sorted ps))
unfolding Rises
kept_sorted flags pointers ps rise =
    sorted_kept (λ row. get_or flags row false ≡ true) pointers (filter (has_flag flags) ps) rise (all_flagged flags ps)
    ∙ ap (map (pointed pointers)) (sym (sorted_filtered (has_flag flags) ps))
