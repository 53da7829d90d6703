-- Nothing fails exactly where all is as it should be: of a list of tests, a list of deleted blocks, what a tree's walk meets,
-- and the bytes of a file.
use Rattle.std.proofs.Common.{◌≡◌, ℕ, zero, suc, ◌+◌, ◌<◌, ◌≤◌, ◌⊎◌, inl, inr, Bool, true, false, cond, ◌&&◌, eqb, not, List, [], ◌∷◌, length, map, Option, Some, None, refl, sym, ap, subst, ◌∙◌, arith, IsPermutation, sum_by}
use Rattle.std.specs.Option.{option_map}
use Rattle.std.specs.List.{AllByRecursion, list_any}
use Rattle.std.specs.Ordering.{is_eq, nat_cmp, ordering_then}
use Rattle.std.specs.declared.cmp.Ordering.{Ordering}
use Rattle.std.specs.declared.cmp.Ordering.TheVariants.{Less, Equal, Greater}
use Rattle.std.proofs.lemmas.Bool.{and_parts, eqb-true, eq-eqb, cases_lt}
use Rattle.std.proofs.lemmas.Cmp.{tied_itself}
use Rattle.std.proofs.lemmas.Option.{same_Some}
use Rattle.std.proofs.lemmas.List.Sorted.{IsPermutation-refl, IsPermutation-trans, IsPermutation-cons, IsPermutation-middle, sum_by-IsPermutation}
use Rattle.std.proofs.lemmas.List.Sums.{sum_by-cons}
use Rattle.std.proofs.lemmas.Bool.Decides.{nat_tests}
use Rattle.myi_base.specs.Ranges.{Range}
use Rattle.myi_keys.specs.declared.values.KeySeg.{KeySeg}
use Rattle.myi_keys.specs.Order.{key_cmp}
use Rattle.myi_keys.specs.OrderLaws.{key_total, key_exact}
use Rattle.myi_keylist.specs.declared.pair.Pair.{Pair}
use Rattle.myi_keylist.specs.PairOrder.{pair_with, pair_cmp}
use Rattle.myi_btree.specs.Events.{Event, page, pair, bad, first_bad, pairs_in}
use Rattle.myi_pair.specs.Clean.{covers}
use Rattle.myi_pair.specs.FirstBad.{first_failed, without, least, link_bad, list_bad, repeats_last, pairs_bad, pair_bad, walk_bad, first_gap}

-- a test that answers None goes on
pub goes : {A : Type 0} (b : Bool) (o : Option A) (x : A) → cond b o (Some x) ≡ None → (b ≡ true) × (o ≡ None)
goes true o x e = (refl, e)
goes false o x e = absurd cc

-- ---- tests

pub all_passed : {A : Type 0} (ts : List (A × Bool)) → first_failed ts ≡ None → AllByRecursion (λ (t : A × Bool). t.1 ≡ true) ts
all_passed [] e = tt
all_passed (t ∷ ts) e = let g = goes t.1 (first_failed ts) t.0 e in (g.0, all_passed ts g.1)

pub passed_all : {A : Type 0} (ts : List (A × Bool)) → AllByRecursion (λ (t : A × Bool). t.1 ≡ true) ts → first_failed ts ≡ None
passed_all [] h = refl
passed_all (t ∷ ts) h = let here = h.0 in let more = passed_all ts h.1 in rw (here, more) refl

-- ---- bytes

pub none_gap : (n p : ℕ) (rs : List Range) → first_gap n p rs ≡ None → (q : ℕ) → p ≤ q → q < p + n → list_any (covers q) rs ≡ true
none_gap zero p rs e q le lt = absurd (omega arith)
none_gap (suc n) p rs e q le lt =
    let g = goes (list_any (covers p) rs) (first_gap n (suc p) rs) p e in
    by_order (cases_lt p q) g.0 (λ far. none_gap n (suc p) rs g.1 q (omega arith) (omega arith))
  where
    by_order : (p < q) ⊎ (q ≤ p) → list_any (covers p) rs ≡ true → (p < q → list_any (covers q) rs ≡ true) → list_any (covers q) rs ≡ true
    by_order (inl far) here more = more far
    by_order (inr near) here more = let same : p ≡ q = omega arith in subst (λ (x : ℕ). list_any (covers x) rs ≡ true) same here

pub gap_none : (n p : ℕ) (rs : List Range) → ((q : ℕ) → p ≤ q → q < p + n → list_any (covers q) rs ≡ true) → first_gap n p rs ≡ None
gap_none zero p rs h = refl
gap_none (suc n) p rs h =
    let here = h p (omega arith) (omega arith) in
    let more = gap_none n (suc p) rs (λ q le lt. h q (omega arith) (omega arith)) in
    rw (here, more) refl

-- ---- the list of deleted blocks

-- a place and the others are the places
pub taken_out : (p : ℕ) (xs ys : List ℕ) → without p xs ≡ Some ys → IsPermutation xs (p ∷ ys)
taken_out p [] ys e = absurd cc
taken_out p (x ∷ xs) ys e = by (eqb x p) refl (without p xs) refl e (taken_out p xs)
  where
    by : (b : Bool) → eqb x p ≡ b → (o : Option (List ℕ)) → without p xs ≡ o → cond b (Some xs) (option_map (λ rest. x ∷ rest) o) ≡ Some ys → ((zs : List ℕ) → without p xs ≡ Some zs → IsPermutation xs (p ∷ zs)) → IsPermutation (x ∷ xs) (p ∷ ys)
    by true is o f e ih =
        let here : x ≡ p = eqb-true x p is in
        let same : xs ≡ ys = same_Some _ _ e in
        subst (λ (zs : List ℕ). IsPermutation (x ∷ xs) (p ∷ zs)) same (subst (λ (z : ℕ). IsPermutation (x ∷ xs) (z ∷ xs)) here (IsPermutation-refl (x ∷ xs)))
    by false is None f e ih = absurd cc
    by false is (Some zs) f e ih =
        let same : x ∷ zs ≡ ys = same_Some _ _ e in
        subst (λ (ws : List ℕ). IsPermutation (x ∷ xs) (p ∷ ws)) same
        (IsPermutation-trans (x ∷ xs) (x ∷ p ∷ zs) (p ∷ x ∷ zs) (IsPermutation-cons x xs (p ∷ zs) (ih zs f)) (IsPermutation-middle (x ∷ []) p zs))

pub length_out : (p : ℕ) (xs ys : List ℕ) → without p xs ≡ Some ys → length xs ≡ suc (length ys)
length_out p [] ys e = absurd cc
length_out p (x ∷ xs) ys e = by (eqb x p) (without p xs) (λ zs f. length_out p xs zs f) e
  where
    by : (b : Bool) (o : Option (List ℕ)) → ((zs : List ℕ) → o ≡ Some zs → length xs ≡ suc (length zs)) → cond b (Some xs) (option_map (λ rest. x ∷ rest) o) ≡ Some ys → length (x ∷ xs) ≡ suc (length ys)
    by true o ih e = omega (arith, ap (λ (zs : List ℕ). length zs) (same_Some _ _ e))
    by false None ih e = absurd cc
    by false (Some zs) ih e = omega (arith, ih zs refl, ap (λ (ws : List ℕ). length ws) (same_Some _ _ e))

-- as often each place, by what any numbers of them sum up to
abbrev pub HasSame : List ℕ → List ℕ → Type 0
HasSame xs ys = (f : ℕ → ℕ) → sum_by f ys ≡ sum_by f xs

none_left : (xs : List ℕ) → HasSame xs [] → xs ≡ []
none_left [] same = refl
none_left (x ∷ xs) same = absurd (omega (arith, same (λ y. 1), sum_by-cons (λ y. 1) x xs))

one_left : (p : ℕ) (ps xs : List ℕ) → HasSame xs (p ∷ ps) → 0 < length xs
one_left p ps [] same = absurd (omega (arith, same (λ y. 1), sum_by-cons (λ y. 1) p ps))
one_left p ps (x ∷ xs) same = omega arith

is_it : ℕ → ℕ → ℕ
is_it p q = cond (eqb q p) 1 0

out_behind : (p x : ℕ) (xs ys : List ℕ) → eqb x p ≡ false → without p xs ≡ Some ys → without p (x ∷ xs) ≡ Some (x ∷ ys)
out_behind p x xs ys is more = rw (is, more) refl

there_out : (p : ℕ) (xs : List ℕ) → 0 < sum_by (is_it p) xs → (ys : List ℕ) × (without p xs ≡ Some ys)
unfolding is_it
there_out p [] some = absurd (omega (arith, some))
there_out p (x ∷ xs) some = by (eqb x p) refl (there_out p xs)
  where
    by : (b : Bool) → eqb x p ≡ b → (0 < sum_by (is_it p) xs → (ys : List ℕ) × (without p xs ≡ Some ys)) → (ys : List ℕ) × (without p (x ∷ xs) ≡ Some ys)
    by true is ih = (xs, rw is refl)
    by false is ih =
        let k = ih (omega (arith, some, sum_by-cons (is_it p) x xs, ap (λ (b : Bool). cond {A = ℕ} b 1 0) is)) in
        (x ∷ k.0, out_behind p x xs k.0 is k.1)

found_out : (p : ℕ) (xs ps : List ℕ) → HasSame xs (p ∷ ps) → (ys : List ℕ) × (without p xs ≡ Some ys) × HasSame ys ps
unfolding is_it
found_out p xs ps same =
    let here : is_it p p ≡ 1 = ap (λ (b : Bool). cond {A = ℕ} b 1 0) (eq-eqb p p refl) in
    let k = there_out p xs (omega (arith, same (is_it p), sum_by-cons (is_it p) p ps, here)) in
    (k.0, k.1, λ f. omega (arith, same f, sum_by-cons f p ps, sum_by-cons f p k.0, sum_by-IsPermutation f xs (p ∷ k.0) (taken_out p xs k.0 k.1)))

module _ (next : ℕ → Option ℕ) (names : ℕ → Option ℕ → Bool) where
  -- a list from a place on, behind one before it
  abbrev pub Runs : Option ℕ → Option ℕ → List ℕ → Type 0
  Runs before at [] = at ≡ None
  Runs before at (p ∷ ps) = (at ≡ Some p) × (names p before ≡ true) × Runs (Some p) (next p) ps

  -- it has each of these places once
  abbrev pub RunsOver : List ℕ → Option ℕ → Option ℕ → Type 0
  RunsOver left before at = (ps : List ℕ) × IsPermutation left ps × Runs before at ps

  least_none : (left : List ℕ) (before : Option ℕ) → least left ≡ None → RunsOver left before None
  least_none [] before e = ([], IsPermutation-refl [], refl)
  least_none (x ∷ xs) before e = absurd cc

  by_link : (left : List ℕ) (before : Option ℕ) (p : ℕ) (go : List ℕ → Option ℕ) → ((l : List ℕ) → go l ≡ None → RunsOver l (Some p) (next p)) → (o : Option (List ℕ)) → without p left ≡ o → link_bad p (names p before) go o ≡ None → RunsOver left before (Some p)
  by_link left before p go ih None f e = absurd cc
  by_link left before p go ih (Some others) f e =
      let g = goes (names p before) (go others) p e in
      let more = ih others g.1 in
      (p ∷ more.0, IsPermutation-trans left (p ∷ others) (p ∷ more.0) (taken_out p left others f) (IsPermutation-cons p others more.0 more.1), (refl, g.0, more.2))

  pub list_none : (n : ℕ) (left : List ℕ) (before at : Option ℕ) → list_bad next names n left before at ≡ None → RunsOver left before at
  list_none zero left before None e = least_none left before e
  list_none zero left before (Some p) e = absurd cc
  list_none (suc n) left before None e = least_none left before e
  list_none (suc n) left before (Some p) e =
      by_link left before p (λ others. list_bad next names n others (Some p) (next p)) (λ l f. list_none n l (Some p) (next p) f) (without p left) refl e

  none_by : (left : List ℕ) (n : ℕ) (before : Option ℕ) → left ≡ [] → list_bad next names n left before None ≡ None
  none_by left zero before e = ap least e
  none_by left (suc n) before e = ap least e

  pub none_list : (n : ℕ) (left : List ℕ) (before at : Option ℕ) (ps : List ℕ) → length left ≤ n → HasSame left ps → Runs before at ps → list_bad next names n left before at ≡ None
  none_list n left before at [] few same runs =
      let all = none_left left same in
      subst (λ (o : Option ℕ). list_bad next names n left before o ≡ None) (sym runs) (none_by left n before all)
  none_list zero left before at (p ∷ ps) few same runs = absurd (omega (arith, one_left p ps left same))
  none_list (suc n) left before at (p ∷ ps) few same runs =
      let k = found_out p left ps same in
      let more = none_list n k.0 (Some p) (next p) ps (omega (arith, few, length_out p left k.0 k.1)) k.2 runs.2 in
      let here = runs.0 in
      let named = runs.1 in
      let out = k.1 in
      rw (here, out, named, more) refl

-- ---- what a walk meets

then_equal : (a b : Ordering) → is_eq (ordering_then a b) ≡ true → (a ≡ Equal) × (b ≡ Equal)
then_equal Less b same = absurd cc
then_equal Equal Less same = absurd cc
then_equal Equal Equal same = (refl, refl)
then_equal Equal Greater same = absurd cc
then_equal Greater b same = absurd cc

row_exact : (m n : ℕ) → nat_cmp m n ≡ Equal → m ≡ n
row_exact m n same = grind (arith, nat_tests)

pub pair_exact : (p q : Pair) → is_eq (pair_cmp p q) ≡ true → p ≡ q
pair_exact p q same =
    let both = then_equal (key_cmp p.key q.key) (nat_cmp p.row q.row) same in
    ap (λ key. pair_with key p.row) (key_exact p.key q.key both.0) ∙ ap (λ row. pair_with q.key row) (row_exact p.row q.row both.1)

row_same : (n : ℕ) → nat_cmp n n ≡ Equal
row_same n = grind (arith, nat_tests)

pub pair_itself : (p : Pair) → is_eq (pair_cmp p p) ≡ true
pair_itself p = let key = tied_itself key_total p.key in let row = row_same p.row in rw (key, row) refl

not_true : (b : Bool) → not b ≡ true → b ≡ false
not_true true e = absurd cc
not_true false e = refl

-- in a unique key no pair repeats the one before it
abbrev pub Fresh : Bool → Option (List KeySeg) → List Pair → Type 0
Fresh unique last [] = Unit {0}
Fresh unique last (p ∷ ps) = ((unique && repeats_last last p.key) ≡ false) × Fresh unique (Some p.key) ps

abbrev pub without_pages : List (Pair × ℕ) → List Pair
without_pages shown = map (λ (x : Pair × ℕ). x.0) shown

pub record IsMet (unique : Bool) (last : Option (List KeySeg)) (pairs : List Pair) (es : List Event) : Type 0 where
  pub none : first_bad es ≡ None
  pub met : without_pages (pairs_in es) ≡ pairs
  pub fresh : Fresh unique last pairs

by_pair : (unique : Bool) (last : Option (List KeySeg)) (p : Pair) (at : ℕ) (es : List Event) (pairs : List Pair) (go : List Pair → Option ℕ) → ((qs : List Pair) → go qs ≡ None → IsMet unique (Some p.key) qs es) → pair_bad unique last p at go pairs ≡ None → IsMet unique last pairs (pair p at ∷ es)
by_pair unique last p at es [] go ih e = absurd cc
by_pair unique last p at es (q ∷ qs) go ih e =
    let g = goes (is_eq (pair_cmp p q) && not (unique && repeats_last last p.key)) (go qs) at e in
    let t = and_parts (is_eq (pair_cmp p q)) (not (unique && repeats_last last p.key)) g.0 in
    let same = pair_exact p q t.0 in
    let more = ih qs g.1 in
    record {
      none = more.none;
      met = ap (λ ps. p ∷ ps) more.met ∙ ap (λ r. r ∷ qs) same;
      fresh = subst (λ (r : Pair). Fresh unique last (r ∷ qs)) same (not_true _ t.1, more.fresh);
    }

all_none : (pairs : List Pair) → pairs_bad pairs ≡ None → [] ≡ pairs
all_none [] e = refl
all_none (p ∷ ps) e = absurd cc

pub walk_none : (unique : Bool) (es : List Event) (last : Option (List KeySeg)) (pairs : List Pair) → walk_bad unique last pairs es ≡ None → IsMet unique last pairs es
walk_none unique [] last pairs e =
    let none = all_none pairs e in
    record { none = refl; met = none; fresh = subst (λ (ps : List Pair). Fresh unique last ps) none tt }
walk_none unique (page at ∷ es) last pairs e = let more = walk_none unique es last pairs e in record { none = more.none; met = more.met; fresh = more.fresh }
walk_none unique (bad at ∷ es) last pairs e = absurd cc
walk_none unique (pair p at ∷ es) last pairs e = by_pair unique last p at es pairs (λ left. walk_bad unique (Some p.key) left es) (λ qs f. walk_none unique es (Some p.key) qs f) e

none_pair : (unique : Bool) (last : Option (List KeySeg)) (p : Pair) (ps : List Pair) (at : ℕ) (go : List Pair → Option ℕ) → (unique && repeats_last last p.key) ≡ false → go ps ≡ None → pair_bad unique last p at go (p ∷ ps) ≡ None
none_pair unique last p ps at go fresh more = let same = pair_itself p in rw (same, fresh, more) refl

pub none_walk : (unique : Bool) (es : List Event) (last : Option (List KeySeg)) → first_bad es ≡ None → Fresh unique last (without_pages (pairs_in es)) → walk_bad unique last (without_pages (pairs_in es)) es ≡ None
none_walk unique [] last none fresh = refl
none_walk unique (page at ∷ es) last none fresh = none_walk unique es last none fresh
none_walk unique (bad at ∷ es) last none fresh = absurd cc
none_walk unique (pair p at ∷ es) last none fresh =
    none_pair unique last p (without_pages (pairs_in es)) at (λ left. walk_bad unique (Some p.key) left es) fresh.0 (none_walk unique es (Some p.key) none fresh.1)
