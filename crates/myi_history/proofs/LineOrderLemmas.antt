-- A list in order of a key that no two of its elements share is the one that puts each among the others by its key.
use Rattle.std.proofs.Common.{◌≡◌, ℕ, suc, ◌+◌, ◌<◌, ◌≤◌, ◌==◌, List, [], ◌∷◌, ◌++◌, Option, Some, map, fold, Bool, true, false, cond, nat_lt, refl, ap, sym, ◌∙◌, arith, subst, inl, inr, IsPermutation}
use Rattle.std.specs.Prelude.{◌≢◌, ◌⊎◌}
use Rattle.std.specs.List.{AllByRecursion, flat_map, sum_by}
use Rattle.std.specs.List.Sorted.{IsNonDecreasingBy}
use Rattle.std.proofs.lemmas.Bool.Decides.{nat_tests, eqb_tells}
use Rattle.std.proofs.lemmas.List.{append-nil}
use Rattle.std.proofs.lemmas.List.Elements.{All-from_recursion, recursion_from_All}
use Rattle.std.proofs.lemmas.List.Folds.{flat_map-map}
use Rattle.std.proofs.lemmas.List.Sums.{sum_by-cons}
use Rattle.std.proofs.lemmas.List.Sorted.{All-permutation, IsPermutation-refl, IsPermutation-sym, IsPermutation-trans, IsPermutation-cons, IsPermutation-middle, IsPermutation-append_left, IsPermutation-map, IsNonDecreasingBy-drop, sum_by-IsPermutation}
use Rattle.myi_history.specs.declared.round_texts.Said.{Said}
use Rattle.myi_history.specs.Answers.{LineAnswer, said_text}
use Rattle.myi_history.specs.Text.{put_line, put_lines}
use Rattle.myi_history.specs.RoundTexts.{put_by, all_put_by, HaveOwnKeys, LineText, text_of, texts_of, in_line_order, joined, HaveOwnLines, AreWritten, part_of, said_in}

-- ---- elements of a list

abbrev pub In : {X : Type 0} → X → List X → Type 0
In x [] = ⊥
In x (y ∷ ys) = (x ≡ y) ⊎ In x ys

pub all_of : {X : Type 0} (P : X → Type 0) (xs : List X) (x : X) → AllByRecursion P xs → In x xs → P x
all_of P [] x h i = absurd i
all_of P (y ∷ ys) x h (inl e) = subst P (sym e) h.0
all_of P (y ∷ ys) x h (inr i) = all_of P ys x h.1 i

all_more : {X : Type 0} (P Q : X → Type 0) (xs : List X) → ((x : X) → P x → Q x) → AllByRecursion P xs → AllByRecursion Q xs
all_more P Q [] f h = tt
all_more P Q (x ∷ xs) f h = (f x h.0, all_more P Q xs f h.1)

all_here : {X : Type 0} (xs : List X) → AllByRecursion (λ x. In x xs) xs
all_here [] = tt
all_here (x ∷ xs) = (inl refl, all_more (λ y. In y xs) (λ y. In y (x ∷ xs)) xs (λ y i. inr i) (all_here xs))

pub permuted_all : {X : Type 0} (P : X → Type 0) (xs ys : List X) → IsPermutation xs ys → AllByRecursion P xs → AllByRecursion P ys
permuted_all P xs ys p h = recursion_from_All P ys (All-permutation P xs ys p (All-from_recursion P xs h))

permuted_in : {X : Type 0} (xs ys : List X) → IsPermutation xs ys → AllByRecursion (λ y. In y xs) ys
permuted_in xs ys p = permuted_all (λ y. In y xs) xs ys p (all_here xs)

-- ---- lists that rise

abbrev pub Rises : {X : Type 0} → (X → ℕ) → List X → Type 0
Rises key [] = Unit {0}
Rises key (x ∷ xs) = AllByRecursion (λ y. key x ≤ key y) xs × Rises key xs

abbrev pub Climbs : {X : Type 0} → (X → ℕ) → List X → Type 0
Climbs key [] = Unit {0}
Climbs key (x ∷ xs) = AllByRecursion (λ y. key x < key y) xs × Climbs key xs

-- those above x that are among x and others are among the others
others_in : {X : Type 0} (key : X → ℕ) (x : X) (us vs : List X) → AllByRecursion (λ u. key x < key u) us → AllByRecursion (λ u. In u (x ∷ vs)) us → AllByRecursion (λ u. In u vs) us
others_in key x [] vs c h = tt
others_in key x (u ∷ us) vs c h = (elim h.0 [ inl e ↦ absurd (let l : key x < key u = c.0 in let same : key u ≡ key x = ap key e in omega arith) | inr i ↦ i ], others_in key x us vs c.1 h.1)

-- of two that climb and have the same elements each is the other
climbs_once : {X : Type 0} (key : X → ℕ) (xs ys : List X) → Climbs key xs → Climbs key ys → AllByRecursion (λ x. In x ys) xs → AllByRecursion (λ y. In y xs) ys → xs ≡ ys
climbs_once key [] [] c d h k = refl
climbs_once key [] (y ∷ ys) c d h k = absurd k.0
climbs_once key (x ∷ xs) [] c d h k = absurd h.0
climbs_once key (x ∷ xs) (y ∷ ys) c d h k = go (climbs_once key xs ys c.1 d.1) h.0 k.0
  where
    same : x ≡ y → (AllByRecursion (λ u. In u ys) xs → AllByRecursion (λ u. In u xs) ys → xs ≡ ys) → x ∷ xs ≡ y ∷ ys
    same e ih =
        let h2 : AllByRecursion (λ u. In u (x ∷ ys)) xs = subst (λ z. AllByRecursion (λ u. In u (z ∷ ys)) xs) (sym e) h.1 in
        let k2 : AllByRecursion (λ u. In u (y ∷ xs)) ys = subst (λ z. AllByRecursion (λ u. In u (z ∷ xs)) ys) e k.1 in
        ap (λ z. z ∷ xs) e ∙ ap (λ zs. y ∷ zs) (ih (others_in key x xs ys c.0 h2) (others_in key y ys xs d.0 k2))

    go : (AllByRecursion (λ u. In u ys) xs → AllByRecursion (λ u. In u xs) ys → xs ≡ ys) → (x ≡ y) ⊎ In x ys → (y ≡ x) ⊎ In y xs → x ∷ xs ≡ y ∷ ys
    go ih (inl e) j = same e ih
    go ih (inr i) (inl e) = same (sym e) ih
    go ih (inr i) (inr j) = absurd (let l = all_of (λ z. key x < key z) xs y c.0 j in let m = all_of (λ z. key y < key z) ys x d.0 i in omega arith)

-- ---- how often a key is met

-- one where these are the same number
abbrev pub one_if : ℕ → ℕ → ℕ
one_if a n = cond (a == n) 1 0

abbrev pub hits : {X : Type 0} → (X → ℕ) → ℕ → List X → ℕ
hits key n xs = sum_by (λ x. one_if (key x) n) xs

pub hits_cons : {X : Type 0} (key : X → ℕ) (n : ℕ) (x : X) (xs : List X) → hits key n (x ∷ xs) ≡ one_if (key x) n + hits key n xs
hits_cons key n x xs = sum_by-cons (λ y. one_if (key y) n) x xs

pub hit : (a n : ℕ) → a ≡ n → one_if a n ≡ 1
hit a n e = elim (eqb_tells a n) [ inl p ↦ rw p.0 refl | inr p ↦ absurd (p.1 e) ]

pub missed : (a n : ℕ) → (a ≡ n → ⊥) → one_if a n ≡ 0
missed a n ne = elim (eqb_tells a n) [ inl p ↦ absurd (ne p.1) | inr p ↦ rw p.0 refl ]

never_hit : {X : Type 0} (key : X → ℕ) (n : ℕ) (xs : List X) → AllByRecursion (λ y. key y ≢ n) xs → hits key n xs ≡ 0
never_hit key n [] h = refl
never_hit key n (x ∷ xs) h = omega (arith, hits_cons key n x xs, missed (key x) n h.0, never_hit key n xs h.1)

pub none_met : {X : Type 0} (key : X → ℕ) (n : ℕ) (xs : List X) → hits key n xs ≡ 0 → AllByRecursion (λ y. key y ≢ n) xs
none_met key n [] e = tt
none_met key n (x ∷ xs) e = (
  (λ same. let a = hits_cons key n x xs in let b = hit (key x) n same in absurd (omega arith)),
  none_met key n xs (let a = hits_cons key n x xs in omega arith),
)

own_hits : {X : Type 0} (key : X → ℕ) (xs : List X) → HaveOwnKeys key xs → (n : ℕ) → hits key n xs ≤ 1
own_hits key [] h n = omega arith
own_hits key (x ∷ xs) h n = elim (eqb_tells (key x) n) [
  | inl p ↦ (let a = hits_cons key n x xs in let b = hit (key x) n p.1 in
      let c = never_hit key n xs (subst (λ m. AllByRecursion (λ y. key y ≢ m) xs) p.1 h.0) in omega arith)
  | inr p ↦ (let a = hits_cons key n x xs in let b = missed (key x) n p.1 in let c = own_hits key xs h.1 n in omega arith)
]

both_so : {X : Type 0} (key : X → ℕ) (n : ℕ) (xs : List X) → AllByRecursion (λ y. n ≤ key y) xs → AllByRecursion (λ y. key y ≢ n) xs → AllByRecursion (λ y. n < key y) xs
both_so key n [] h k = tt
both_so key n (x ∷ xs) h k = (apart (key x) h.0 k.0, both_so key n xs h.1 k.1)
  where
    apart : (a : ℕ) → n ≤ a → (a ≡ n → ⊥) → n < a
    apart a le ne = grind arith

-- a list that rises climbs where no key is met twice
few_climb : {X : Type 0} (key : X → ℕ) (xs : List X) → Rises key xs → ((n : ℕ) → hits key n xs ≤ 1) → Climbs key xs
few_climb key [] h few = tt
few_climb key (x ∷ xs) h few =
    let none : hits key (key x) xs ≡ 0 = (let a = hits_cons key (key x) x xs in let b = hit (key x) (key x) refl in let c = few (key x) in omega arith) in
    (both_so key (key x) xs h.0 (none_met key (key x) xs none), few_climb key xs h.1 (λ n. let a = hits_cons key n x xs in let c = few n in omega arith))

-- ---- each put among the others

all_put : {X : Type 0} (P : X → Type 0) (key : X → ℕ) (x : X) (ys : List X) → P x → AllByRecursion P ys → AllByRecursion P (put_by key x ys)
all_put P key x [] p h = (p, tt)
all_put P key x (y ∷ ys) p h = go (nat_lt (key y) (key x)) (all_put P key x ys p h.1)
  where
    go : (b : Bool) → AllByRecursion P (put_by key x ys) → AllByRecursion P (cond b (y ∷ put_by key x ys) (x ∷ y ∷ ys))
    go true ih = (h.0, ih)
    go false ih = (p, h)

rises_put : {X : Type 0} (key : X → ℕ) (x : X) (ys : List X) → Rises key ys → Rises key (put_by key x ys)
rises_put key x [] h = (tt, tt)
rises_put key x (y ∷ ys) h = go (nat_lt (key y) (key x)) refl (rises_put key x ys h.1)
  where
    below : (a b : ℕ) → nat_lt a b ≡ true → a ≤ b
    below a b e = grind (arith, nat_tests)

    above : (a b : ℕ) → nat_lt a b ≡ false → b ≤ a
    above a b e = grind (arith, nat_tests)

    go : (b : Bool) → nat_lt (key y) (key x) ≡ b → Rises key (put_by key x ys) → Rises key (cond b (y ∷ put_by key x ys) (x ∷ y ∷ ys))
    go true is ih = (all_put (λ z. key y ≤ key z) key x ys (below (key y) (key x) is) h.0, ih)
    go false is ih = let l = above (key y) (key x) is in ((l, all_more (λ z. key y ≤ key z) (λ z. key x ≤ key z) ys (λ z k. omega arith) h.0), h)

rises_all : {X : Type 0} (key : X → ℕ) (acc xs : List X) → Rises key acc → Rises key (fold (λ ys x. put_by key x ys) acc xs)
rises_all key acc [] h = h
rises_all key acc (x ∷ xs) h = rises_all key (put_by key x acc) xs (rises_put key x acc h)

put_permutes : {X : Type 0} (key : X → ℕ) (x : X) (ys : List X) → IsPermutation (x ∷ ys) (put_by key x ys)
put_permutes key x [] = IsPermutation-refl (x ∷ [])
put_permutes key x (y ∷ ys) = go (nat_lt (key y) (key x)) (put_permutes key x ys)
  where
    go : (b : Bool) → IsPermutation (x ∷ ys) (put_by key x ys) → IsPermutation (x ∷ y ∷ ys) (cond b (y ∷ put_by key x ys) (x ∷ y ∷ ys))
    go false ih = IsPermutation-refl (x ∷ y ∷ ys)
    go true ih = IsPermutation-trans (x ∷ y ∷ ys) (y ∷ x ∷ ys) (y ∷ put_by key x ys) (IsPermutation-middle (x ∷ []) y ys) (IsPermutation-cons y (x ∷ ys) (put_by key x ys) ih)

all_permutes : {X : Type 0} (key : X → ℕ) (acc xs : List X) → IsPermutation (acc ++ xs) (fold (λ ys x. put_by key x ys) acc xs)
all_permutes key acc [] = rw append-nil (IsPermutation-refl acc)
all_permutes key acc (x ∷ xs) =
    IsPermutation-trans (acc ++ x ∷ xs) (x ∷ (acc ++ xs)) _ (IsPermutation-middle acc x xs)
    (IsPermutation-trans (x ∷ (acc ++ xs)) (put_by key x acc ++ xs) _ (IsPermutation-append_left xs (x ∷ acc) (put_by key x acc) (put_permutes key x acc)) (all_permutes key (put_by key x acc) xs))

-- ---- one list

pub ordered_once : {X : Type 0} (key : X → ℕ) (xs ys : List X) → IsPermutation xs ys → Rises key ys → HaveOwnKeys key xs → ys ≡ all_put_by key xs
ordered_once key xs ys p rise own =
    let zs = all_put_by key xs in
    let q : IsPermutation xs zs = all_permutes key [] xs in
    climbs_once key ys zs
    (few_climb key ys rise (λ n. let e = sum_by-IsPermutation (λ x. one_if (key x) n) xs ys p in let k = own_hits key xs own n in omega arith))
    (few_climb key zs (rises_all key [] xs tt) (λ n. let e = sum_by-IsPermutation (λ x. one_if (key x) n) xs zs q in let k = own_hits key xs own n in omega arith))
    (permuted_in zs ys (IsPermutation-trans zs xs ys (IsPermutation-sym xs zs q) p))
    (permuted_in ys zs (IsPermutation-trans ys xs zs (IsPermutation-sym xs ys p) q))

-- where no key is met twice, no two have one
few_own : {X : Type 0} (key : X → ℕ) (xs : List X) → ((n : ℕ) → hits key n xs ≤ 1) → HaveOwnKeys key xs
few_own key [] few = tt
few_own key (x ∷ xs) few =
    let none : hits key (key x) xs ≡ 0 = (let a = hits_cons key (key x) x xs in let b = hit (key x) (key x) refl in let c = few (key x) in omega arith) in
    (none_met key (key x) xs none, few_own key xs (λ n. let a = hits_cons key n x xs in let c = few n in omega arith))

pub permuted_own : {X : Type 0} (key : X → ℕ) (xs ys : List X) → IsPermutation xs ys → HaveOwnKeys key xs → HaveOwnKeys key ys
permuted_own key xs ys p own = few_own key ys (λ n. let e = sum_by-IsPermutation (λ x. one_if (key x) n) xs ys p in let k = own_hits key xs own n in omega arith)

pub permuted_order : {X : Type 0} (key : X → ℕ) (xs ys : List X) → IsPermutation xs ys → HaveOwnKeys key xs → all_put_by key ys ≡ all_put_by key xs
permuted_order key xs ys p own =
    ordered_once key xs (all_put_by key ys) (IsPermutation-trans xs ys (all_put_by key ys) p (all_permutes key [] ys)) (rises_all key [] ys tt) own

pub rises_from : {X : Type 0} (key : X → ℕ) (xs : List X) → IsNonDecreasingBy key xs → Rises key xs
rises_from key [] h = tt
rises_from key (x ∷ xs) h = (
  recursion_from_All (λ y. key x ≤ key y) xs (λ k d lt. h 0 (suc k) d (omega arith) (omega arith)),
  rises_from key xs (IsNonDecreasingBy-drop key 1 (x ∷ xs) h),
)

-- ---- texts of lines

-- parts of a buffer that stand in order of line are its texts in that order
pub parts_in_order : (bytes : List ℕ) (xs ys : List Said) → IsPermutation xs ys → IsNonDecreasingBy (λ (x : Said). x.line) ys → HaveOwnKeys (λ (t : LineText). t.0) (map (said_in bytes) xs)
    → flat_map (part_of bytes) ys ≡ joined (in_line_order (map (said_in bytes) xs))
parts_in_order bytes xs ys p order own =
    sym (flat_map-map (λ (t : LineText). t.1) (said_in bytes) ys)
    ∙ ap joined (ordered_once (λ (t : LineText). t.0) (map (said_in bytes) xs) (map (said_in bytes) ys) (IsPermutation-map (said_in bytes) xs ys p) (lines ys (rises_from (λ (x : Said). x.line) ys order)) own)
  where
    each : (n : ℕ) (us : List Said) → AllByRecursion (λ (x : Said). n ≤ x.line) us → AllByRecursion (λ (t : LineText). n ≤ t.0) (map (said_in bytes) us)
    each n [] h = tt
    each n (u ∷ us) h = (h.0, each n us h.1)

    lines : (us : List Said) → Rises (λ (x : Said). x.line) us → Rises (λ (t : LineText). t.0) (map (said_in bytes) us)
    lines [] h = tt
    lines (u ∷ us) h = (each u.line us h.0, lines us h.1)

pub written_in_order : (bytes shown : List ℕ) (xs ys parts : List Said) (texts : List LineText) → IsPermutation xs ys → IsNonDecreasingBy (λ (x : Said). x.line) ys → map (said_in bytes) xs ≡ texts → shown ≡ bytes → parts ≡ ys → HaveOwnLines texts
    → flat_map (part_of shown) parts ≡ joined (in_line_order texts)
written_in_order bytes shown xs ys parts texts p order is same all own =
    ap (λ b. flat_map (part_of b) parts) same ∙ ap (λ us. flat_map (part_of bytes) us) all
    ∙ parts_in_order bytes xs ys p order (subst HaveOwnLines (sym is) own) ∙ ap (λ ts. joined (in_line_order ts)) is

-- whatever their lines are, each is written once
pub written_each : (bytes shown : List ℕ) (xs ys parts : List Said) (texts : List LineText) (before : List ℕ) (new : Option (List ℕ)) → IsPermutation xs ys → map (said_in bytes) xs ≡ texts → shown ≡ bytes → parts ≡ ys
    → new ≡ Some (before ++ flat_map (part_of shown) parts) → AreWritten texts new before
written_each bytes shown xs ys parts texts before new p is same all said =
    let ordered = map (said_in bytes) ys in (
      ordered,
      subst (λ ts. IsPermutation ts ordered) is (IsPermutation-map (said_in bytes) xs ys p),
      said ∙ ap (λ b. Some (before ++ flat_map (part_of b) parts)) same ∙ ap (λ us. Some (before ++ flat_map (part_of bytes) us)) all
          ∙ ap (λ t. Some (before ++ t)) (sym (flat_map-map (λ (t : LineText). t.1) (said_in bytes) ys)),
    )

put_text : (a : LineAnswer) (bs : List LineAnswer) → map text_of (put_line a bs) ≡ put_by (λ (t : LineText). t.0) (text_of a) (map text_of bs)
put_text a [] = refl
put_text a (b ∷ bs) = go (nat_lt b.line a.line) (put_text a bs)
  where
    go : (t : Bool) → map text_of (put_line a bs) ≡ put_by (λ (t : LineText). t.0) (text_of a) (map text_of bs)
        → map text_of (cond t (b ∷ put_line a bs) (a ∷ b ∷ bs)) ≡ cond t (text_of b ∷ put_by (λ (t : LineText). t.0) (text_of a) (map text_of bs)) (text_of a ∷ text_of b ∷ map text_of bs)
    go true ih = ap (λ q. text_of b ∷ q) ih
    go false ih = refl

put_texts : (acc xs : List LineAnswer) → map text_of (put_lines acc xs) ≡ fold (λ ys x. put_by (λ (t : LineText). t.0) x ys) (map text_of acc) (map text_of xs)
put_texts acc [] = refl
put_texts acc (x ∷ xs) = put_texts (put_line x acc) xs ∙ ap (λ q. fold (λ ys x. put_by (λ (t : LineText). t.0) x ys) q (map text_of xs)) (put_text x acc)

-- what is said, put by its lines, has the texts in order of line
pub texts_in_order : (said : List LineAnswer) → flat_map said_text (put_lines [] said) ≡ joined (in_line_order (texts_of said))
texts_in_order said = sym (flat_map-map (λ (t : LineText). t.1) text_of (put_lines [] said)) ∙ ap joined (put_texts [] said)

-- ---- texts in another order

pub texts_own : (texts others : List LineText) → IsPermutation texts others → HaveOwnLines texts → HaveOwnLines others
texts_own texts others p own = permuted_own (λ (t : LineText). t.0) texts others p own

pub texts_order : (texts others : List LineText) → IsPermutation texts others → HaveOwnLines texts → in_line_order others ≡ in_line_order texts
texts_order texts others p own = permuted_order (λ (t : LineText). t.0) texts others p own
