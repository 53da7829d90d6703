-- The pages of the map, in the order of the lists of their indexes.
use Rattle.std.proofs.Common.{◌≡◌, ℕ, zero, suc, ◌+◌, ◌≤◌, ◌<◌, Bool, true, false, List, [], ◌∷◌, ◌++◌, length, map, filter, take, drop, insert, slice_get, get_or, Option, None, Some, cond, refl, sym, ap, subst, ◌∙◌, arith, inl, inr, append-nil}
use Rattle.std.specs.Prelude.{◌==◌, ◌&&◌, not, nat_lt, count_by, position, is_some}
use Rattle.std.specs.Option.{option_map_or}
use Rattle.std.specs.List.{AllByRecursion, list_any, position_or_len}
use Rattle.std.specs.List.Sorted.{IsPermutation}
use Rattle.std.proofs.lemmas.Bool.{cases_Bool, cases_lt, lt-ltb, le-ltb, and_parts, and_from, eqb-true, eq-eqb, or_left, or_right}
use Rattle.std.proofs.lemmas.List.{map-append, length-map, length-append, take_at, drop_at}
use Rattle.std.proofs.lemmas.List.Elements.{filter-append, All-from_recursion, recursion_from_All}
use Rattle.std.proofs.lemmas.List.Quantifiers.{position-Some}
use Rattle.std.proofs.lemmas.List.Sorted.{sum_by-IsPermutation, list_any-IsPermutation, All-permutation, length_permutation, IsPermutation-refl, IsPermutation-sym, IsPermutation-trans, IsPermutation-middle, IsPermutation-append_left}
use Rattle.std.proofs.lemmas.List.Sums.{sum_by-cons, sum_by-append}
use Rattle.std.proofs.lemmas.Option.{same_Some, get_or_from_slice_get}
use Rattle.indexmap.specs.Layout.{set_value_at, length-set_value_at}
use Rattle.myi_keycache.specs.declared.setup.CacheSetup.{CacheSetup}
use Rattle.myi_keycache.specs.declared.blocks.PageName.{PageName}
use Rattle.myi_keycache.specs.declared.blocks.Block.{Block}
use Rattle.myi_keycache.specs.Kept.{Page, KeptPage, is_page}
use Rattle.myi_keycache.specs.Ring.{Linked, IsAbsent}
use Rattle.myi_keycache.specs.Order.{Order, Split, with_page, page_in, page_at, no_page, ordered_by, IsStored, Pairs, Differ, HoldsPages, SameNumbers, below, contents_of, has_name}
use Rattle.myi_keycache.proofs.FrontLemmas.{pairs_out, differ_flip}
use Rattle.myi_keycache.proofs.StaysLemmas.{moved}
use Rattle.myi_keycache.proofs.RingLemmas.{get_mapped}
use Rattle.myi_keycache.proofs.OrderLemmas.{parts, get_middle, same_length, ordered_still, stored_changed, differ_with, eq_flip}

-- ---- lists that are parted at one index

pub same_parts : {X : Type 0} (front : List X) (x : X) (back front1 : List X) (x1 : X) (back1 : List X) → front ++ x ∷ back ≡ front1 ++ x1 ∷ back1 → length front ≡ length front1 → (front ≡ front1) × (x ≡ x1) × (back ≡ back1)
same_parts [] x back [] x1 back1 e len = (refl, cc, cc)
same_parts [] x back (z ∷ front1) x1 back1 e len = absurd (omega arith)
same_parts (y ∷ front) x back [] x1 back1 e len = absurd (omega arith)
same_parts (y ∷ front) x back (z ∷ front1) x1 back1 e len =
    let first : y ≡ z = cc in
    let rest : front ++ x ∷ back ≡ front1 ++ x1 ∷ back1 = cc in
    let r = same_parts front x back front1 x1 back1 rest (omega arith) in
    ((λ i. first i ∷ r.0 i), r.1, r.2)

split_mapped : {X : Type 0} (g : X → KeptPage) (front : List X) (x : X) (back : List X) (i : ℕ) → length front ≡ i → (s : Split (map g (front ++ x ∷ back)) i) → (s.front ≡ map g front) × (s.page ≡ g x) × (s.back ≡ map g back)
split_mapped g front x back i long s = same_parts s.front s.page s.back (map g front) (g x) (map g back) (sym s.is ∙ map-append g front (x ∷ back)) (s.long ∙ sym long ∙ sym (length-map front g))

-- ---- numbers that stand once

abbrev times : ℕ → List ℕ → ℕ
times m xs = count_by (λ (x : ℕ). x == m) xs

times_first : (m x : ℕ) (xs : List ℕ) → times m (x ∷ xs) ≡ cond {A = ℕ} (x == m) 1 0 + times m xs
times_first m x xs = sum_by-cons (λ (y : ℕ). cond {A = ℕ} (y == m) 1 0) x xs

times_both : (m : ℕ) (xs ys : List ℕ) → times m (xs ++ ys) ≡ times m xs + times m ys
times_both m xs ys = sum_by-append (λ (y : ℕ). cond {A = ℕ} (y == m) 1 0) xs ys

times_last : (m n : ℕ) → times m (below (suc n)) ≡ times m (below n) + cond {A = ℕ} (n == m) 1 0
times_last m n =
    let a : times m (below n ++ n ∷ []) ≡ times m (below n) + times m (n ∷ []) = times_both m (below n) (n ∷ []) in
    let b = times_first m n [] in
    let c : times m [] ≡ 0 = refl in
    omega (arith, a, b, c)

off_is : (n m : ℕ) → (n == m) ≡ false → cond {A = ℕ} (n == m) 1 0 ≡ 0
off_is n m off = ap (λ (t : Bool). cond {A = ℕ} t 1 0) off

on_is : (n m : ℕ) → (n == m) ≡ true → cond {A = ℕ} (n == m) 1 0 ≡ 1
on_is n m is = ap (λ (t : Bool). cond {A = ℕ} t 1 0) is

below_none : (n m : ℕ) → n ≤ m → times m (below n) ≡ 0
below_none zero m le = refl
below_none (suc n) m le = elim (cases_Bool (n == m)) [
  | inl is ↦ let e = eqb-true n m is in absurd (omega (arith, e, le))
  | inr off ↦ omega (arith, times_last m n, off_is n m off, below_none n m (omega (arith, le)))
]

below_once : (n m : ℕ) → times m (below n) ≤ 1
below_once zero m = omega arith
below_once (suc n) m = elim (cases_Bool (n == m)) [
  | inl is ↦ let e = eqb-true n m is in omega (arith, times_last m n, on_is n m is, below_none n m (omega (arith, e)))
  | inr off ↦ omega (arith, times_last m n, off_is n m off, below_once n m)
]

times_absent : (m : ℕ) (xs : List ℕ) → times m xs ≡ 0 → IsAbsent m xs
times_absent m [] e = tt
times_absent m (x ∷ xs) e = elim (cases_Bool (x == m)) [
  | inl is ↦ absurd (omega (arith, times_first m x xs, on_is x m is, e))
  | inr off ↦ ((λ same. let yes : true ≡ false = sym (eq-eqb x m same) ∙ off in absurd cc), times_absent m xs (omega (arith, times_first m x xs, e)))
]

pub below_long : (n : ℕ) → length (below n) ≡ n
below_long zero = refl
below_long (suc n) = omega (arith, length-append (below n) (n ∷ []), below_long n)

below_less : (n k : ℕ) → n ≤ k → AllByRecursion (λ (m : ℕ). m < k) (below n)
below_less zero k le = tt
below_less (suc n) k le = push (below n) n (below_less n k (omega (arith, le))) (omega (arith, le))
  where
    push : (xs : List ℕ) (x : ℕ) → AllByRecursion (λ (m : ℕ). m < k) xs → x < k → AllByRecursion (λ (m : ℕ). m < k) (xs ++ x ∷ [])
    push [] x all lt = (lt, tt)
    push (y ∷ xs) x all lt = (all.0, push xs x all.1 lt)

any_left : (p : ℕ → Bool) (xs ys : List ℕ) → list_any p xs ≡ true → list_any p (xs ++ ys) ≡ true
any_left p [] ys h = absurd cc
any_left p (x ∷ xs) ys h = elim (cases_Bool (p x)) [
  | inl is ↦ or_left _ _ is
  | inr off ↦ or_right _ _ (any_left p xs ys (rw off at h))
]

any_right : (p : ℕ → Bool) (xs ys : List ℕ) → list_any p ys ≡ true → list_any p (xs ++ ys) ≡ true
any_right p [] ys h = h
any_right p (x ∷ xs) ys h = or_right _ _ (any_right p xs ys h)

below_has : (n m : ℕ) → m < n → list_any (λ (x : ℕ). x == m) (below n) ≡ true
below_has zero m lt = absurd (omega arith)
below_has (suc n) m lt = elim (cases_lt m n) [
  | inl less ↦ any_left (λ (x : ℕ). x == m) (below n) (n ∷ []) (below_has n m less)
  | inr ge ↦ any_right (λ (x : ℕ). x == m) (below n) (n ∷ []) (or_left _ _ (eq-eqb n m (omega (arith, ge, lt))))
]

any_parts : (m : ℕ) (xs : List ℕ) → list_any (λ (x : ℕ). x == m) xs ≡ true → (front : List ℕ) × (back : List ℕ) × (xs ≡ front ++ m ∷ back)
any_parts m [] h = absurd cc
any_parts m (x ∷ xs) h = elim (cases_Bool (x == m)) [
  | inl is ↦ ([], xs, ap (λ (y : ℕ). y ∷ xs) (eqb-true x m is))
  | inr off ↦ let r = any_parts m xs (rw off at h) in (x ∷ r.0, r.1, ap (λ (l : List ℕ). x ∷ l) r.2)
]

-- ---- the same numbers

all_pass : (xs : List ℕ) → filter (λ (_ : ℕ). true) xs ≡ xs
all_pass [] = refl
all_pass (x ∷ xs) = ap (λ (l : List ℕ). x ∷ l) (all_pass xs)

pub whole : (xs ys : List ℕ) → SameNumbers xs ys → IsPermutation xs ys
whole xs ys same = subst (IsPermutation xs) (all_pass ys) (subst (λ l. IsPermutation l (filter (λ (_ : ℕ). true) ys)) (all_pass xs) (same (λ (_ : ℕ). true)))

pub same_then : (xs ys zs : List ℕ) → SameNumbers xs ys → SameNumbers ys zs → SameNumbers xs zs
same_then xs ys zs a b test = IsPermutation-trans _ _ _ (a test) (b test)

pub same_moved : (front : List ℕ) (x : ℕ) (back front1 back1 : List ℕ) → front ++ back ≡ front1 ++ back1 → SameNumbers (front ++ x ∷ back) (front1 ++ x ∷ back1)
same_moved front x back front1 back1 same test =
    let out : filter test front ++ filter test back ≡ filter test front1 ++ filter test back1 = sym (filter-append test front back) ∙ ap (filter test) same ∙ filter-append test front1 back1 in
    subst (λ l. IsPermutation l (filter test (front1 ++ x ∷ back1))) (sym (filter-append test front (x ∷ back)))
    (subst (IsPermutation (filter test front ++ cond (test x) (x ∷ filter test back) (filter test back))) (sym (filter-append test front1 (x ∷ back1))) (by (test x) out))
  where
    by : (b : Bool) → filter test front ++ filter test back ≡ filter test front1 ++ filter test back1
        → IsPermutation (filter test front ++ cond b (x ∷ filter test back) (filter test back)) (filter test front1 ++ cond b (x ∷ filter test back1) (filter test back1))
    by true out =
        IsPermutation-trans _ _ _ (IsPermutation-middle (filter test front) x (filter test back))
        (subst (λ l. IsPermutation (x ∷ l) (filter test front1 ++ x ∷ filter test back1)) (sym out) (IsPermutation-sym _ _ (IsPermutation-middle (filter test front1) x (filter test back1))))
    by false out = subst (IsPermutation (filter test front ++ filter test back)) out (IsPermutation-refl (filter test front ++ filter test back))

-- one number more
pub same_more : (n : ℕ) (front back : List ℕ) → SameNumbers (below n) (front ++ back) → SameNumbers (below (suc n)) (front ++ n ∷ back)
same_more n front back same =
    same_then (below (suc n)) ((front ++ back) ++ n ∷ []) (front ++ n ∷ back) more (same_moved (front ++ back) n [] front back (append-nil (front ++ back)))
  where
    more : SameNumbers (below n ++ n ∷ []) ((front ++ back) ++ n ∷ [])
    more test =
        subst (λ l. IsPermutation l (filter test ((front ++ back) ++ n ∷ []))) (sym (filter-append test (below n) (n ∷ [])))
        (subst (IsPermutation (filter test (below n) ++ filter test (n ∷ []))) (sym (filter-append test (front ++ back) (n ∷ []))) (IsPermutation-append_left (filter test (n ∷ [])) (filter test (below n)) (filter test (front ++ back)) (same test)))

-- each index stands once on the lists, and those below the number of pages do
pub alone : (n : ℕ) (slots front : List ℕ) (x : ℕ) (back : List ℕ) → SameNumbers (below n) slots → slots ≡ front ++ x ∷ back → IsAbsent x front × IsAbsent x back
alone n slots front x back same is =
    let a : times x slots ≡ times x (below n) = sum_by-IsPermutation (λ (y : ℕ). cond {A = ℕ} (y == x) 1 0) (below n) slots (whole (below n) slots same) in
    let b = ap (times x) is in
    let c = times_both x front (x ∷ back) in
    let d = times_first x x back in
    let e = on_is x x (eq-eqb x x refl) in
    let le = below_once n x in
    (times_absent x front (omega (arith, a, b, c, d, e, le)), times_absent x back (omega (arith, a, b, c, d, e, le)))

pub stands : (n m : ℕ) (slots : List ℕ) → SameNumbers (below n) slots → m < n → (front : List ℕ) × (back : List ℕ) × (slots ≡ front ++ m ∷ back)
stands n m slots same lt = any_parts m slots (sym (list_any-IsPermutation (λ (x : ℕ). x == m) (below n) slots (whole (below n) slots same)) ∙ below_has n m lt)

pub slots_long : (n : ℕ) (slots : List ℕ) → SameNumbers (below n) slots → length slots ≡ n
slots_long n slots same = length_permutation (below n) slots (whole (below n) slots same) ∙ below_long n

pub slots_less : (n : ℕ) (slots : List ℕ) → SameNumbers (below n) slots → AllByRecursion (λ (m : ℕ). m < n) slots
slots_less n slots same =
    let P : ℕ → Type 0 = λ (m : ℕ). m < n in
    recursion_from_All P slots (All-permutation P (below n) slots (whole (below n) slots same) (All-from_recursion P (below n) (below_less n n (omega arith))))

-- ---- a page by its name

pub all_parts : {X : Type 0} (P : X → Type 0) (xs ys : List X) → AllByRecursion P (xs ++ ys) → AllByRecursion P xs × AllByRecursion P ys
all_parts P [] ys all = (tt, all)
all_parts P (x ∷ xs) ys all = let r = all_parts P xs ys all.1 in ((all.0, r.0), r.1)

pub all_at : {X : Type 0} (P : X → Type 0) (xs : List X) (i : ℕ) (x : X) → AllByRecursion P xs → slice_get xs i ≡ Some x → P x
all_at P [] i x all at = absurd cc
all_at P (y ∷ xs) zero x all at = subst P (same_Some y x at) all.0
all_at P (y ∷ xs) (suc i) x all at = all_at P xs i x all.1 at

pub entry_at : (es : List (PageName × Block)) (i : ℕ) → i < length es → (e : PageName × Block) × (slice_get es i ≡ Some e)
entry_at es i lt = let p = parts es i lt in (p.x, ap (λ l. slice_get l i) p.is ∙ get_middle p.front p.x p.back i p.long)

pub page_is : (es : List (PageName × Block)) (i : ℕ) (e : PageName × Block) → slice_get es i ≡ Some e → page_at es i ≡ page_in e
page_is es i e at = ap (λ o. option_map_or page_in o no_page) at

len_here : {X : Type 0} (test : X → Bool) (front : List X) (x : X) (back : List X) → AllByRecursion (λ y. test y ≡ false) front → test x ≡ true → position_or_len test (front ++ x ∷ back) ≡ length front
len_here test [] x back all here = ap (λ (b : Bool). cond (not b) (1 + position_or_len test back) 0) here
len_here test (f ∷ front) x back all here =
    let n : 1 + length front ≡ suc (length front) = omega arith in
    (λ i. cond (not (all.0 i)) (1 + len_here test front x back all.1 here i) 0) ∙ n

pub position_here : {X : Type 0} (test : X → Bool) (front : List X) (x : X) (back : List X) → AllByRecursion (λ y. test y ≡ false) front → test x ≡ true → position test (front ++ x ∷ back) ≡ Some (length front)
position_here test front x back all here =
    let p = len_here test front x back all here in
    let lt : nat_lt (length front) (length (front ++ x ∷ back)) ≡ true = lt-ltb _ _ (omega (arith, length-append front (x ∷ back))) in
    ap (λ (n : ℕ). cond (nat_lt n (length (front ++ x ∷ back))) (Some n) None) p ∙ ap (λ (b : Bool). cond b (Some (length front)) None) lt

len_none : {X : Type 0} (test : X → Bool) (xs : List X) → AllByRecursion (λ y. test y ≡ false) xs → position_or_len test xs ≡ length xs
len_none test [] all = refl
len_none test (x ∷ xs) all =
    let n : 1 + length xs ≡ suc (length xs) = omega arith in
    (λ i. cond (not (all.0 i)) (1 + len_none test xs all.1 i) 0) ∙ n

position_none : {X : Type 0} (test : X → Bool) (xs : List X) → AllByRecursion (λ y. test y ≡ false) xs → position test xs ≡ None
position_none test xs all =
    let p = len_none test xs all in
    let le : nat_lt (length xs) (length xs) ≡ false = le-ltb _ _ (omega arith) in
    ap (λ (n : ℕ). cond (nat_lt n (length xs)) (Some n) None) p ∙ ap (λ (b : Bool). cond b (Some (length xs)) None) le

pub fails : (at size : ℕ) (p : Page) (pages : List KeptPage) (rest : List Page) → is_page at size p ≡ true → AllByRecursion (Differ p) (contents_of pages ++ rest) → AllByRecursion (λ q. has_name at size q ≡ false) pages
fails at size p [] rest here all = tt
fails at size p (q ∷ pages) rest here all = (
  elim (cases_Bool (has_name at size q)) [
    | inl is ↦ let a = and_parts _ _ here in let b = and_parts _ _ is in absurd (all.0 (eqb-true _ _ a.0 ∙ sym (eqb-true _ _ b.0)) (eqb-true _ _ a.1 ∙ sym (eqb-true _ _ b.1)))
    | inr off ↦ off
  ],
  fails at size p pages rest here all.1,
)

-- an index of the map, and where it stands in the order
pub record Placed (es : List (PageName × Block)) (lists : Linked) (index i : ℕ) : Type 0 where
  pub front : List ℕ
  pub back : List ℕ
  pub slots : lists.warm ++ lists.hot ≡ front ++ index ∷ back
  pub long : length front ≡ i
  pub entry : PageName × Block
  pub got : slice_get es index ≡ Some entry

pub record Found (es : List (PageName × Block)) (lists : Linked) (at size index : ℕ) : Type 0 where
  pub i : ℕ
  pub placed : Placed es lists index i
  pub size_is : length placed.entry.1.bytes.items ≡ size
  pub place : position (has_name at size) (map (page_at es) (lists.warm ++ lists.hot)) ≡ Some i

abbrev pub Tests : (PageName → Bool) → ℕ → ℕ → Type 0
Tests eq at size = (k : PageName) → eq k ≡ ((k.at == at) && (k.size == size))

pub placed_at : (setup : CacheSetup) (es : List (PageName × Block)) (lists : Linked) (acc index : ℕ) (front back : List ℕ) → HoldsPages setup es lists acc → lists.warm ++ lists.hot ≡ front ++ index ∷ back → Placed es lists index (length front)
placed_at setup es lists acc index front back held is =
    let less = slots_less (length es) (lists.warm ++ lists.hot) held.listed in
    let lt : index < length es = all_at (λ (m : ℕ). m < length es) (front ++ index ∷ back) (length front) index (subst (AllByRecursion (λ (m : ℕ). m < length es)) is less) (get_middle front index back (length front) refl) in
    let e = entry_at es index lt in
    record { front = front; back = back; slots = is; long = refl; entry = e.0; got = e.1 }

pub found : (setup : CacheSetup) (es : List (PageName × Block)) (lists : Linked) (acc at size index : ℕ) → HoldsPages setup es lists acc → (eq : PageName → Bool) → Tests eq at size
    → position eq (map (λ (e : PageName × Block). e.0) es) ≡ Some index → Found es lists at size index
found setup es lists acc at size index held eq tests pos =
    let slots : List ℕ = lists.warm ++ lists.hot in
    let d : PageName = record { at = 0; size = 0 } in
    let p = position-Some eq (map (λ (e : PageName × Block). e.0) es) index d pos in
    let e = entry_at es index (omega (arith, p.0, length-map es (λ (e : PageName × Block). e.0))) in
    let name : get_or (map (λ (e : PageName × Block). e.0) es) index d ≡ e.0.0 = get_or_from_slice_get (map (λ (e : PageName × Block). e.0) es) index e.0.0 d (get_mapped (λ (e : PageName × Block). e.0) es index e.0 e.1) in
    let stored : e.0.0.size ≡ length e.0.1.bytes.items = all_at IsStored es index e.0 held.stored e.1 in
    let here : has_name at size (page_in e.0) ≡ true = sym (ap (λ (n : ℕ). (e.0.0.at == at) && (n == size)) stored) ∙ sym (tests e.0.0) ∙ ap eq (sym name) ∙ p.1 in
    let named : has_name at size (page_at es index) ≡ true = ap (has_name at size) (page_is es index e.0 e.1) ∙ here in
    let s = stands (length es) index slots held.listed (omega (arith, p.0, length-map es (λ (e : PageName × Block). e.0))) in
    let pages : map (page_at es) slots ≡ map (page_at es) s.0 ++ page_at es index ∷ map (page_at es) s.1 = ap (map (page_at es)) s.2 ∙ map-append (page_at es) s.0 (index ∷ s.1) in
    let differ = subst (λ l. Pairs Differ (contents_of l)) pages held.ordered.differ in
    let apart = pairs_out Differ differ_flip (contents_of (map (page_at es) s.0)) (page_at es index).page (contents_of (map (page_at es) s.1)) (subst (Pairs Differ) (map-append _ (map (page_at es) s.0) (page_at es index ∷ map (page_at es) s.1)) differ) in
    let before = fails at size (page_at es index).page (map (page_at es) s.0) (contents_of (map (page_at es) s.1)) named apart.0 in
    record {
      i = length s.0;
      placed = record { front = s.0; back = s.1; slots = s.2; long = refl; entry = e.0; got = e.1 };
      size_is = let a = and_parts _ _ here in eqb-true (length e.0.1.bytes.items) size a.1;
      place = ap (position (has_name at size)) pages ∙ position_here (has_name at size) (map (page_at es) s.0) (page_at es index) (map (page_at es) s.1) before named ∙ ap (λ (n : ℕ). Some n) (length-map s.0 (page_at es));
    }

none_before : {X : Type 0} (test : X → Bool) (xs : List X) → length xs ≤ position_or_len test xs → AllByRecursion (λ x. test x ≡ false) xs
none_before test [] le = tt
none_before test (x ∷ xs) le = elim (cases_Bool (test x)) [
  | inl is ↦ let p : position_or_len test (x ∷ xs) ≡ 0 = ap (λ (b : Bool). cond (not b) (1 + position_or_len test xs) 0) is in absurd (omega (arith, le, p))
  | inr off ↦ let p : position_or_len test (x ∷ xs) ≡ 1 + position_or_len test xs = ap (λ (b : Bool). cond (not b) (1 + position_or_len test xs) 0) off in (off, none_before test xs (omega (arith, le, p)))
]

none_there : {X : Type 0} (test : X → Bool) (xs : List X) → position test xs ≡ None → AllByRecursion (λ x. test x ≡ false) xs
none_there test xs e = elim (cases_lt (position_or_len test xs) (length xs)) [
  | inl lt ↦ let both : Some (position_or_len test xs) ≡ None = sym (ap (λ (b : Bool). cond b (Some (position_or_len test xs)) None) (lt-ltb _ _ lt)) ∙ e in absurd cc
  | inr ge ↦ none_before test xs ge
]

pub absent : (setup : CacheSetup) (es : List (PageName × Block)) (lists : Linked) (acc at size : ℕ) → HoldsPages setup es lists acc → (eq : PageName → Bool) → Tests eq at size
    → position eq (map (λ (e : PageName × Block). e.0) es) ≡ None → position (has_name at size) (map (page_at es) (lists.warm ++ lists.hot)) ≡ None
absent setup es lists acc at size held eq tests none =
    position_none (has_name at size) (map (page_at es) (lists.warm ++ lists.hot)) (each (lists.warm ++ lists.hot) (slots_less (length es) (lists.warm ++ lists.hot) held.listed))
  where
    keys : (es : List (PageName × Block)) (i : ℕ) (e : PageName × Block) → AllByRecursion (λ k. eq k ≡ false) (map (λ (e : PageName × Block). e.0) es) → slice_get es i ≡ Some e → eq e.0 ≡ false
    keys es i e all at = all_at (λ k. eq k ≡ false) (map (λ (e : PageName × Block). e.0) es) i e.0 all (get_mapped (λ (e : PageName × Block). e.0) es i e at)

    one : (m : ℕ) → m < length es → has_name at size (page_at es m) ≡ false
    one m lt =
        let e = entry_at es m lt in
        let stored : e.0.0.size ≡ length e.0.1.bytes.items = all_at IsStored es m e.0 held.stored e.1 in
        ap (has_name at size) (page_is es m e.0 e.1) ∙ sym (ap (λ (n : ℕ). (e.0.0.at == at) && (n == size)) stored) ∙ sym (tests e.0.0) ∙ keys es m e.0 (none_there eq (map (λ (e : PageName × Block). e.0) es) none) e.1

    each : (slots : List ℕ) → AllByRecursion (λ (m : ℕ). m < length es) slots → AllByRecursion (λ p. has_name at size p ≡ false) (map (page_at es) slots)
    each [] all = tt
    each (m ∷ slots) all = (one m all.0, each slots all.1)

-- whether a page of that name is kept
pub kept_same : (setup : CacheSetup) (es : List (PageName × Block)) (lists : Linked) (acc at size : ℕ) (o : Order) → ordered_by setup es lists acc ≡ o → HoldsPages setup es lists acc → (eq : PageName → Bool) → Tests eq at size
    → (r : Option ℕ) → r ≡ position eq (map (λ (e : PageName × Block). e.0) es) → is_some r ≡ is_some (position (has_name at size) o.pages)
kept_same setup es lists acc at size o view held eq tests None is = ap is_some (sym (absent setup es lists acc at size held eq tests (sym is)) ∙ ap (λ (t : Order). position (has_name at size) t.pages) view)
kept_same setup es lists acc at size o view held eq tests (Some index) is =
    let f = found setup es lists acc at size index held eq tests (sym is) in
    ap is_some (sym f.place ∙ ap (λ (t : Order). position (has_name at size) t.pages) view)

-- the page of a name, in the map and in the order
pub page_here : (setup : CacheSetup) (es : List (PageName × Block)) (lists : Linked) (acc index i : ℕ) (o : Order) → ordered_by setup es lists acc ≡ o → (p : Placed es lists index i) → (s : Split o.pages i) → s.page ≡ page_in p.entry
page_here setup es lists acc index i o view p =
    subst (λ (t : Order). (s : Split t.pages i) → s.page ≡ page_in p.entry) view
    (subst (λ l. (s : Split (map (page_at es) l) i) → s.page ≡ page_in p.entry) (sym p.slots) (λ s. (split_mapped (page_at es) p.front index p.back i p.long s).1 ∙ page_is es index p.entry p.got))

pub same_place : (es : List (PageName × Block)) (lists : Linked) (setup : CacheSetup) (acc at size index : ℕ) (o : Order) → ordered_by setup es lists acc ≡ o → (f : Found es lists at size index) → (i : ℕ) → position (has_name at size) o.pages ≡ Some i → Placed es lists index i
same_place es lists setup acc at size index o view f i e =
    let same : f.i ≡ i = same_Some f.i i (sym f.place ∙ ap (λ (t : Order). position (has_name at size) t.pages) view ∙ e) in
    subst (Placed es lists index) same f.placed

-- ---- what the map answers for a name

pub get_value : (es : List (PageName × Block)) (i : ℕ) (e : PageName × Block) (b : Block) → slice_get es i ≡ Some e → slice_get (map (λ (e : PageName × Block). e.1) es) i ≡ Some b → e.1 ≡ b
get_value es i e b at got = same_Some e.1 b (sym (get_mapped (λ (e : PageName × Block). e.1) es i e at) ∙ got)

abbrev pub equals : PageName → PageName → Bool
equals name k = (name.at == k.at) && (name.size == k.size)

pub equals_tests : (name : PageName) → Tests (equals name) name.at name.size
equals_tests name k = (λ i. eq_flip name.at k.at i && eq_flip name.size k.size i)

pub named_there : (setup : CacheSetup) (es : List (PageName × Block)) (lists : Linked) (acc : ℕ) (name : PageName) (o : Order) → ordered_by setup es lists acc ≡ o → HoldsPages setup es lists acc
    → (r : Option ℕ) → r ≡ position (equals name) (map (λ (e : PageName × Block). e.0) es) → is_some (position (has_name name.at name.size) o.pages) ≡ true → is_some r ≡ true
named_there setup es lists acc name o view held r is some = kept_same setup es lists acc name.at name.size o view held (equals name) (equals_tests name) r is ∙ some

pub named_found : (setup : CacheSetup) (es : List (PageName × Block)) (lists : Linked) (acc : ℕ) (name : PageName) (index : ℕ) → HoldsPages setup es lists acc
    → (r : Option ℕ) → r ≡ position (equals name) (map (λ (e : PageName × Block). e.0) es) → r ≡ Some index → Found es lists name.at name.size index
named_found setup es lists acc name index held r is at = found setup es lists acc name.at name.size index held (equals name) (equals_tests name) (sym is ∙ at)

-- what is said of a name, from the map and from the order
pub record AtIndex (es : List (PageName × Block)) (lists : Linked) (index i : ℕ) (o : Order) (s : Split o.pages i) (b : Block) : Type 0 where
  pub placed : Placed es lists index i
  pub page : s.page ≡ page_in (placed.entry.0, b)

pub at_index : (setup : CacheSetup) (es : List (PageName × Block)) (lists : Linked) (acc at size index : ℕ) (o : Order) (b : Block) → ordered_by setup es lists acc ≡ o → Found es lists at size index → slice_get (map (λ (e : PageName × Block). e.1) es) index ≡ Some b
    → (i : ℕ) → position (has_name at size) o.pages ≡ Some i → (s : Split o.pages i) → AtIndex es lists index i o s b
at_index setup es lists acc at size index o b view f got i e s =
    let p = same_place es lists setup acc at size index o view f i e in
    record { placed = p; page = page_here setup es lists acc index i o view p s ∙ ap (λ (t : Block). page_in (p.entry.0, t)) (get_value es index p.entry b p.got got) }

pub pages_long : (setup : CacheSetup) (es : List (PageName × Block)) (lists : Linked) (acc : ℕ) (o : Order) → ordered_by setup es lists acc ≡ o → HoldsPages setup es lists acc → length es ≡ length o.pages
pages_long setup es lists acc o view held =
    sym (slots_long (length es) (lists.warm ++ lists.hot) held.listed) ∙ sym (length-map (lists.warm ++ lists.hot) (page_at es)) ∙ ap (λ (t : Order). length t.pages) view

-- the first page
pub first_there : (setup : CacheSetup) (es : List (PageName × Block)) (lists : Linked) (acc : ℕ) (o : Order) → ordered_by setup es lists acc ≡ o → HoldsPages setup es lists acc → 0 < length o.pages
    → (x : ℕ) × (rest : List ℕ) × (lists.warm ++ lists.hot ≡ x ∷ rest) × (x < length es)
first_there setup es lists acc o view held lt =
    by (lists.warm ++ lists.hot) refl (slots_less (length es) (lists.warm ++ lists.hot) held.listed) (omega (arith, lt, pages_long setup es lists acc o view held, slots_long (length es) (lists.warm ++ lists.hot) held.listed))
  where
    by : (slots : List ℕ) → lists.warm ++ lists.hot ≡ slots → AllByRecursion (λ (m : ℕ). m < length es) slots → 0 < length slots → (x : ℕ) × (rest : List ℕ) × (lists.warm ++ lists.hot ≡ x ∷ rest) × (x < length es)
    by [] is less lt = absurd (omega arith)
    by (x ∷ rest) is less lt = (x, rest, is, less.0)

pub first_named : (setup : CacheSetup) (es : List (PageName × Block)) (lists : Linked) (acc x : ℕ) (rest : List ℕ) (o : Order) (e : PageName × Block) → ordered_by setup es lists acc ≡ o → HoldsPages setup es lists acc → lists.warm ++ lists.hot ≡ x ∷ rest → slice_get es x ≡ Some e
    → position (has_name e.0.at e.0.size) o.pages ≡ Some 0
first_named setup es lists acc x rest o e view held slots got =
    let stored : e.0.size ≡ length e.1.bytes.items = all_at IsStored es x e held.stored got in
    let here : has_name e.0.at e.0.size (page_in e) ≡ true = and_from (e.0.at == e.0.at) (length e.1.bytes.items == e.0.size) (eq-eqb e.0.at e.0.at refl) (eq-eqb (length e.1.bytes.items) e.0.size (sym stored)) in
    let named : has_name e.0.at e.0.size (page_at es x) ≡ true = ap (has_name e.0.at e.0.size) (page_is es x e got) ∙ here in
    sym (ap (λ (t : Order). position (has_name e.0.at e.0.size) t.pages) view) ∙ ap (λ (xs : List ℕ). position (has_name e.0.at e.0.size) (map (page_at es) xs)) slots
    ∙ position_here (has_name e.0.at e.0.size) [] (page_at es x) (map (page_at es) rest) tt named

-- ---- a block that is changed

value_other : (es : List (PageName × Block)) (i j : ℕ) (w : Block) → (j ≡ i → ⊥) → slice_get (set_value_at es i w) j ≡ slice_get es j
value_other [] i j w ne = refl
value_other (e ∷ es) zero zero w ne = absurd (ne refl)
value_other (e ∷ es) zero (suc j) w ne = refl
value_other (e ∷ es) (suc i) zero w ne = refl
value_other (e ∷ es) (suc i) (suc j) w ne = value_other es i j w (λ same. ne (ap suc same))

value_here : (es : List (PageName × Block)) (i : ℕ) (e : PageName × Block) (w : Block) → slice_get es i ≡ Some e → slice_get (set_value_at es i w) i ≡ Some (e.0, w)
value_here [] i e w at = absurd cc
value_here (x ∷ es) zero e w at = ap (λ (t : PageName × Block). Some (t.0, w)) (same_Some x e at)
value_here (x ∷ es) (suc i) e w at = value_here es i e w at

-- pages whose entries are the same
pub same_pages : (es es1 : List (PageName × Block)) (P : ℕ → Type 0) → ((m : ℕ) → P m → slice_get es1 m ≡ slice_get es m) → (slots : List ℕ) → AllByRecursion P slots → map (page_at es1) slots ≡ map (page_at es) slots
same_pages es es1 P same [] all = refl
same_pages es es1 P same (m ∷ slots) all = (λ i. option_map_or page_in (same m all.0 i) no_page ∷ same_pages es es1 P same slots all.1 i)

changed_pages : (es : List (PageName × Block)) (index : ℕ) (w : Block) (front back : List ℕ) (e : PageName × Block) → IsAbsent index front → IsAbsent index back → slice_get es index ≡ Some e
    → map (page_at (set_value_at es index w)) (front ++ index ∷ back) ≡ map (page_at es) front ++ page_in (e.0, w) ∷ map (page_at es) back
changed_pages es index w front back e a b at =
    let es1 : List (PageName × Block) = set_value_at es index w in
    let other = same_pages es es1 (λ (m : ℕ). m ≡ index → ⊥) (λ m ne. value_other es index m w ne) in
    map-append (page_at es1) front (index ∷ back) ∙ (λ i. other front a i ++ page_is es1 index (e.0, w) (value_here es index e w at) i ∷ other back b i)

-- the order of the fields, with other pages
ordered_is : (setup : CacheSetup) (es : List (PageName × Block)) (lists : Linked) (acc : ℕ) (pages : List KeptPage) (warm : ℕ) → map (page_at es) (lists.warm ++ lists.hot) ≡ pages → length lists.warm ≡ warm
    → ordered_by setup es lists acc ≡ record { setup = setup; pages = pages; warm = warm; accesses = acc }
ordered_is setup es lists acc pages warm is long = (λ i. record { setup = setup; pages = is i; warm = long i; accesses = acc })

pub changed_order : (setup : CacheSetup) (es : List (PageName × Block)) (lists : Linked) (acc acc1 index i : ℕ) (w b : Block) (g : KeptPage → KeptPage) (k : ℕ → ℕ) (o : Order) → ordered_by setup es lists acc ≡ o → HoldsPages setup es lists acc → Placed es lists index i
    → slice_get (map (λ (e : PageName × Block). e.1) es) index ≡ Some b → acc1 ≡ k acc → ((n : PageName) → page_in (n, w) ≡ g (page_in (n, b))) → (s : Split o.pages i)
    → ordered_by setup (set_value_at es index w) lists acc1 ≡ record o { accesses = k o.accesses; pages = with_page s (g s.page) }
changed_order setup es lists acc acc1 index i w b g k o view held p got acc_is each =
    subst (λ (t : Order). (s : Split t.pages i) → ordered_by setup (set_value_at es index w) lists acc1 ≡ record t { accesses = k t.accesses; pages = with_page s (g s.page) }) view (λ s.
    let a = alone (length es) (lists.warm ++ lists.hot) p.front index p.back held.listed p.slots in
    let block = get_value es index p.entry b p.got got in
    let page : page_in (p.entry.0, w) ≡ g (page_at es index) = each p.entry.0 ∙ ap (λ (t : Block). g (page_in (p.entry.0, t))) (sym block) ∙ ap g (sym (page_is es index p.entry p.got)) in
    let now : map (page_at (set_value_at es index w)) (lists.warm ++ lists.hot) ≡ map (page_at es) p.front ++ g (page_at es index) ∷ map (page_at es) p.back =
    ap (map (page_at (set_value_at es index w))) p.slots ∙ changed_pages es index w p.front p.back p.entry a.0 a.1 p.got ∙ ap (λ (t : KeptPage). map (page_at es) p.front ++ t ∷ map (page_at es) p.back) page in
    let parted = same_split (map (page_at es) (lists.warm ++ lists.hot)) i (map (page_at es) p.front) (page_at es index) (map (page_at es) p.back) (ap (map (page_at es)) p.slots ∙ map-append (page_at es) p.front (index ∷ p.back)) (length-map p.front (page_at es) ∙ p.long) s in
    let whole_is : map (page_at es) p.front ++ g (page_at es index) ∷ map (page_at es) p.back ≡ with_page s (g s.page) = (λ j. sym parted.0 j ++ g (sym parted.1 j) ∷ sym parted.2 j) in
    (λ j. record { setup = setup; pages = (now ∙ whole_is) j; warm = length lists.warm; accesses = acc_is j }))
  where
    same_split : (pages : List KeptPage) (i : ℕ) (front : List KeptPage) (x : KeptPage) (back : List KeptPage) → pages ≡ front ++ x ∷ back → length front ≡ i → (s : Split pages i) → (s.front ≡ front) × (s.page ≡ x) × (s.back ≡ back)
    same_split pages i front x back is long s = same_parts s.front s.page s.back front x back (sym s.is ∙ is) (s.long ∙ sym long)

pub holds_changed : (setup : CacheSetup) (es : List (PageName × Block)) (lists : Linked) (acc acc1 index i : ℕ) (w b : Block) → HoldsPages setup es lists acc → Placed es lists index i
    → slice_get (map (λ (e : PageName × Block). e.1) es) index ≡ Some b → length w.bytes.items ≡ length b.bytes.items → HoldsPages setup (set_value_at es index w) lists acc1
holds_changed setup es lists acc acc1 index i w b held p got len =
    let es1 : List (PageName × Block) = set_value_at es index w in
    let slots : List ℕ = lists.warm ++ lists.hot in
    let long : length es1 ≡ length es = length-set_value_at es index w in
    let block = get_value es index p.entry b p.got got in
    let same : length w.bytes.items ≡ length p.entry.1.bytes.items = len ∙ ap (λ (t : Block). length t.bytes.items) (sym block) in
    let a = alone (length es) slots p.front index p.back held.listed p.slots in
    let old : map (page_at es) slots ≡ map (page_at es) p.front ++ page_in p.entry ∷ map (page_at es) p.back =
    ap (map (page_at es)) p.slots ∙ map-append (page_at es) p.front (index ∷ p.back) ∙ ap (λ (t : KeptPage). map (page_at es) p.front ++ t ∷ map (page_at es) p.back) (page_is es index p.entry p.got) in
    let s : Split (map (page_at es) slots) (length (map (page_at es) p.front)) = record { front = map (page_at es) p.front; page = page_in p.entry; back = map (page_at es) p.back; is = old; long = refl } in
    let now : map (page_at es1) slots ≡ with_page s (page_in (p.entry.0, w)) = ap (map (page_at es1)) p.slots ∙ changed_pages es index w p.front p.back p.entry a.0 a.1 p.got in
    let room = held.room in
    record {
      stored = stored_changed es index p.entry w p.got same held.stored;
      listed = subst (λ (n : ℕ). SameNumbers (below n) slots) (sym long) held.listed;
      room = omega (arith, room, long);
      ordered = ordered_still setup (map (page_at es) slots) (map (page_at es1) slots) (length lists.warm) (length lists.warm) acc acc1 held.ordered (ap length now ∙ same_length (map (page_at es) slots) _ s (page_in (p.entry.0, w))) held.ordered.warm
          (λ d. subst (λ l. Pairs Differ (contents_of l)) (sym now) (differ_with (map (page_at es) slots) _ s (page_in (p.entry.0, w)) refl same d));
    }

-- ---- an index that moves

pub record Moved (lists lists1 : Linked) (index : ℕ) : Type 0 where
  pub front : List ℕ
  pub back : List ℕ
  pub front1 : List ℕ
  pub back1 : List ℕ
  pub slots : lists.warm ++ lists.hot ≡ front ++ index ∷ back
  pub slots1 : lists1.warm ++ lists1.hot ≡ front1 ++ index ∷ back1
  pub same : front ++ back ≡ front1 ++ back1
  pub room : lists1.room ≡ lists.room

pub holds_moved : (setup : CacheSetup) (es : List (PageName × Block)) (lists lists1 : Linked) (acc index : ℕ) → HoldsPages setup es lists acc → Moved lists lists1 index → HoldsPages setup es lists1 acc
holds_moved setup es lists lists1 acc index held m =
    let slots : List ℕ = lists.warm ++ lists.hot in
    let slots1 : List ℕ = lists1.warm ++ lists1.hot in
    let listed : SameNumbers (below (length es)) slots1 =
    subst (SameNumbers (below (length es))) (sym m.slots1) (same_then (below (length es)) (m.front ++ index ∷ m.back) (m.front1 ++ index ∷ m.back1) (subst (SameNumbers (below (length es))) m.slots held.listed) (same_moved m.front index m.back m.front1 m.back1 m.same)) in
    let room = held.room in
    let g : ℕ → KeptPage = page_at es in
    let c : List ℕ → List Page = λ xs. contents_of (map g xs) in
    let was : c slots ≡ c m.front ++ (g index).page ∷ c m.back = ap c m.slots ∙ ap contents_of (map-append g m.front (index ∷ m.back)) ∙ map-append _ (map g m.front) (g index ∷ map g m.back) in
    let now : c slots1 ≡ c m.front1 ++ (g index).page ∷ c m.back1 = ap c m.slots1 ∙ ap contents_of (map-append g m.front1 (index ∷ m.back1)) ∙ map-append _ (map g m.front1) (g index ∷ map g m.back1) in
    let rest : c m.front ++ c m.back ≡ c m.front1 ++ c m.back1 =
    sym (ap contents_of (map-append g m.front m.back) ∙ map-append _ (map g m.front) (map g m.back)) ∙ ap c m.same ∙ ap contents_of (map-append g m.front1 m.back1) ∙ map-append _ (map g m.front1) (map g m.back1) in
    let alike = moved (c m.front) (g index).page (c m.back) (c m.front1) (c m.back1) rest in
    let long : length slots1 ≡ length slots = slots_long (length es) slots1 listed ∙ sym (slots_long (length es) slots held.listed) in
    record {
      stored = held.stored;
      listed = listed;
      room = omega (arith, room, m.room);
      ordered = ordered_still setup (map g slots) (map g slots1) (length lists.warm) (length lists1.warm) acc acc held.ordered (length-map slots1 g ∙ long ∙ sym (length-map slots g))
          (omega (arith, long, length-map slots g, length-append lists1.warm lists1.hot)) (λ d. subst (Pairs Differ) (sym now) (alike.differ (subst (Pairs Differ) was d)));
    }

-- the order after a move
pub moved_order : (setup : CacheSetup) (es : List (PageName × Block)) (lists lists1 : Linked) (acc index i warm : ℕ) (m : Moved lists lists1 index) (o : Order) → ordered_by setup es lists acc ≡ o → length m.front ≡ i → length lists1.warm ≡ warm → (s : Split o.pages i)
    → ordered_by setup es lists1 acc ≡ record o { pages = insert (s.front ++ s.back) (length m.front1) s.page; warm = warm }
moved_order setup es lists lists1 acc index i warm m o view long warm_is =
    subst (λ (t : Order). (s : Split t.pages i) → ordered_by setup es lists1 acc ≡ record t { pages = insert (s.front ++ s.back) (length m.front1) s.page; warm = warm }) view (λ s.
    let g : ℕ → KeptPage = page_at es in
    let is : s.front ++ s.page ∷ s.back ≡ map g m.front ++ g index ∷ map g m.back = sym s.is ∙ ap (map g) m.slots ∙ map-append g m.front (index ∷ m.back) in
    let parted = same_parts s.front s.page s.back (map g m.front) (g index) (map g m.back) is (s.long ∙ sym long ∙ sym (length-map m.front g)) in
    let rest : s.front ++ s.back ≡ map g m.front1 ++ map g m.back1 = (λ j. parted.0 j ++ parted.2 j) ∙ sym (map-append g m.front m.back) ∙ ap (map g) m.same ∙ map-append g m.front1 m.back1 in
    let front_is : take (length m.front1) (s.front ++ s.back) ≡ map g m.front1 = ap (take (length m.front1)) rest ∙ take_at (map g m.front1) (map g m.back1) (length m.front1) (length-map m.front1 g) in
    let back_is : drop (length m.front1) (s.front ++ s.back) ≡ map g m.back1 = ap (drop (length m.front1)) rest ∙ drop_at (map g m.front1) (map g m.back1) (length m.front1) (length-map m.front1 g) in
    let now : map g (lists1.warm ++ lists1.hot) ≡ insert (s.front ++ s.back) (length m.front1) s.page =
    ap (map g) m.slots1 ∙ map-append g m.front1 (index ∷ m.back1) ∙ (λ j. sym front_is j ++ sym parted.1 j ∷ sym back_is j) in
    ordered_is setup es lists1 acc (insert (s.front ++ s.back) (length m.front1) s.page) warm now warm_is)
