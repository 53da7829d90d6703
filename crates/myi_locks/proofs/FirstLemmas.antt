-- The first of several next steps.
use Rattle.std.proofs.Common.{◌≡◌, ℕ, suc, ◌<◌, ◌==◌, ◌||◌, List, [], ◌∷◌, filter, fold, Option, Some, None, Bool, true, false, cond, refl, ap, sym, ◌∙◌, arith, inl, inr, subst}
use Rattle.std.specs.Prelude.{◌⊎◌, Contains}
use Rattle.std.specs.List.{AllByRecursion, list_any, filter_map, find, cons_option}
use Rattle.std.proofs.lemmas.Bool.Decides.{nat_tests}
use Rattle.myi_locks.specs.declared.steps.Step.{Step}
use Rattle.myi_locks.specs.Steps.{comes_before}
use Rattle.myi_locks.specs.Sessions.{Session, head, first, earlier}
use Rattle.myi_locks.specs.Laws.{Rising, IsFirst}

pub eq_no : (a b : ℕ) → (a ≡ b → ⊥) → (a == b) ≡ false
eq_no a b ne = grind (arith, nat_tests)

pub eq_yes : (a b : ℕ) → a ≡ b → (a == b) ≡ true
eq_yes a b e = grind (arith, nat_tests)

abbrev pub In : {A : Type 0} → A → List A → Type 0
In x [] = ⊥
In x (y ∷ ys) = (x ≡ y) ⊎ In x ys

pub any_in : {A : Type 0} (p : A → Bool) (xs : List A) → list_any p xs ≡ true → (x : A) × In x xs × (p x ≡ true)
any_in p [] e = cc
any_in p (x ∷ xs) e = go (p x) refl e (any_in p xs)
  where
    go : (b : Bool) → p x ≡ b → b || list_any p xs ≡ true → (list_any p xs ≡ true → (y : _) × In y xs × (p y ≡ true)) → (y : _) × In y (x ∷ xs) × (p y ≡ true)
    go true is e2 ih = (x, inl refl, is)
    go false is e2 ih = let w = ih e2 in (w.0, inr w.1, w.2)

pub in_any : {A : Type 0} (p : A → Bool) (xs : List A) (x : A) → In x xs → p x ≡ true → list_any p xs ≡ true
in_any p [] x i e = absurd i
in_any p (y ∷ ys) x (inl is) e = rw (sym (ap p is) ∙ e) refl
in_any p (y ∷ ys) x (inr i) e = rw (in_any p ys x i e) (or_true (p y))
  where
    or_true : (b : Bool) → b || true ≡ true
    or_true true = refl
    or_true false = refl

pub all_in : {A : Type 0} (P : A → Type 0) (xs : List A) (x : A) → AllByRecursion P xs → In x xs → P x
all_in P [] x h i = absurd i
all_in P (y ∷ ys) x h (inl is) = subst P (sym is) h.0
all_in P (y ∷ ys) x h (inr i) = all_in P ys x h.1 i

fold_none : (a : Option Step) (xs : List Step) → fold earlier a xs ≡ None → (a ≡ None) × (xs ≡ [])
fold_none a [] e = (e, refl)
fold_none None (x ∷ xs) e = let h = fold_none (Some x) xs e in absurd (let k = h.0 in cc)
fold_none (Some a) (x ∷ xs) e = go (comes_before x a) (fold_none (earlier (Some a) x) xs e).0
  where
    go : (b : Bool) → cond b (Some x) (Some a) ≡ None → (Some a ≡ None) × (x ∷ xs ≡ [])
    go true h = cc
    go false h = cc

fold_some : (a : Option Step) (xs : List Step) (x : Step) → fold earlier a xs ≡ Some x → (a ≡ Some x) ⊎ In x xs
fold_some a [] x e = inl e
fold_some None (y ∷ ys) x e = elim (fold_some (Some y) ys x e) [ inl h ↦ inr (inl (let k = h in cc)) | inr i ↦ inr (inr i) ]
fold_some (Some a) (y ∷ ys) x e = elim (fold_some (earlier (Some a) y) ys x e) [ inl h ↦ go (comes_before y a) h | inr i ↦ inr (inr i) ]
  where
    go : (b : Bool) → cond b (Some y) (Some a) ≡ Some x → (Some a ≡ Some x) ⊎ In x (y ∷ ys)
    go true h = inr (inl (let k = h in cc))
    go false h = inl h

-- the next steps of the sessions that pass
abbrev nexts : (Session → Bool) → List Session → List Step
nexts test ss = filter_map (λ s. head s.left) (filter test ss)

abbrev pub Found : (Session → Bool) → List Session → Step → Type 0
Found test ss x = (s : Session) × In s ss × (test s ≡ true) × (head s.left ≡ Some x)

later : (test : Session → Bool) (s : Session) (ss : List Session) (x : Step) → Found test ss x → Found test (s ∷ ss) x
later test s ss x w = (w.0, inr w.1, w.2, w.3)

here : (test : Session → Bool) (s : Session) (ss : List Session) (x : Step) (o : Option Step) → head s.left ≡ o → In x (cons_option o (nexts test ss)) → (In x (nexts test ss) → Found test ss x) → test s ≡ true → Found test (s ∷ ss) x
here test s ss x None at j ih is = later test s ss x (ih j)
here test s ss x (Some y) at (inl e) ih is = (s, inl refl, is, at ∙ ap (λ q. Some q) (sym e))
here test s ss x (Some y) at (inr j) ih is = later test s ss x (ih j)

in_nexts : (test : Session → Bool) (ss : List Session) (x : Step) → In x (nexts test ss) → Found test ss x
in_nexts test [] x i = absurd i
in_nexts test (s ∷ ss) x i = go (test s) refl i (in_nexts test ss x)
  where
    go : (b : Bool) → test s ≡ b → In x (filter_map (λ t. head t.left) (cond b (s ∷ filter test ss) (filter test ss))) → (In x (nexts test ss) → Found test ss x) → Found test (s ∷ ss) x
    go false is j ih = later test s ss x (ih j)
    go true is j ih = here test s ss x (head s.left) refl j ih is

pub first_some : (test : Session → Bool) (ss : List Session) (x : Step) → first test ss ≡ Some x → Found test ss x
first_some test ss x e = elim (fold_some None (nexts test ss) x e) [ inl h ↦ absurd (let k = h in cc) | inr i ↦ in_nexts test ss x i ]

nexts_in : (test : Session → Bool) (ss : List Session) (s : Session) (x : Step) → In s ss → test s ≡ true → head s.left ≡ Some x → In x (nexts test ss)
nexts_in test [] s x i t h = i
nexts_in test (u ∷ ss) s x (inl same) t h = rw (ap test (sym same) ∙ t, ap (λ (q : Session). head q.left) (sym same) ∙ h) (inl refl)
nexts_in test (u ∷ ss) s x (inr i) t h = go (test u) (nexts_in test ss s x i t h)
  where
    more : (o : Option Step) → In x (nexts test ss) → In x (cons_option o (nexts test ss))
    more None j = j
    more (Some y) j = inr j

    go : (b : Bool) → In x (nexts test ss) → In x (filter_map (λ t. head t.left) (cond b (u ∷ filter test ss) (filter test ss)))
    go true j = more (head u.left) j
    go false j = j

pub first_none : (test : Session → Bool) (ss : List Session) (s : Session) (x : Step) → first test ss ≡ None → In s ss → test s ≡ true → head s.left ≡ Some x → ⊥
first_none test ss s x e i t h =
    let none = (fold_none None (nexts test ss) e).1 in
    let P : List Step → Type 0 = λ q. In x q in
    subst P none (nexts_in test ss s x i t h)

abbrev pub NotBefore : Step → Step → Type 0
NotBefore x y = comes_before y x ≡ false

itself : (a : Step) → comes_before a a ≡ false
itself a = grind (arith, nat_tests)

goes_down : (a x y : Step) → comes_before y a ≡ true → comes_before y x ≡ false → comes_before a x ≡ false
goes_down a x y h k = grind (arith, nat_tests)

stays : (a x y : Step) → comes_before y a ≡ false → comes_before a x ≡ false → comes_before y x ≡ false
stays a x y h k = grind (arith, nat_tests)

fold_lowest : (a : Step) (xs : List Step) (x : Step) → fold earlier (Some a) xs ≡ Some x → NotBefore x a × AllByRecursion (NotBefore x) xs
fold_lowest a [] x e = (let same : a ≡ x = let k = e in cc in rw same (itself x), tt)
fold_lowest a (y ∷ ys) x e = go (comes_before y a) refl e (fold_lowest y ys x) (fold_lowest a ys x)
  where
    go : (b : Bool) → comes_before y a ≡ b → fold earlier (cond b (Some y) (Some a)) ys ≡ Some x
        → (fold earlier (Some y) ys ≡ Some x → NotBefore x y × AllByRecursion (NotBefore x) ys) → (fold earlier (Some a) ys ≡ Some x → NotBefore x a × AllByRecursion (NotBefore x) ys)
        → NotBefore x a × AllByRecursion (NotBefore x) (y ∷ ys)
    go true is f hy ha = let w = hy f in (goes_down a x y is w.0, (w.0, w.1))
    go false is f hy ha = let w = ha f in (w.0, (stays a x y is w.0, w.1))

all_lowest : (xs : List Step) (x : Step) → fold earlier None xs ≡ Some x → AllByRecursion (NotBefore x) xs
all_lowest [] x e = tt
all_lowest (y ∷ ys) x e = fold_lowest y ys x e

-- the first step is the lowest of all next steps of sessions that pass
pub first_lowest : (test : Session → Bool) (ss : List Session) (x : Step) → first test ss ≡ Some x → (s : Session) → In s ss → test s ≡ true → (y : Step) → head s.left ≡ Some y → comes_before y x ≡ false
first_lowest test ss x e s i t y h = all_in (NotBefore x) (nexts test ss) y (all_lowest (nexts test ss) x e) (nexts_in test ss s y i t h)

pub every : {A : Type 0} (P : A → Type 0) (xs : List A) → ((x : A) → In x xs → P x) → AllByRecursion P xs
every P [] h = tt
every P (x ∷ xs) h = (h x (inl refl), every P xs (λ y i. h y (inr i)))

contains : (s : Session) (ss : List Session) → In s ss → Contains ss s
contains s [] i = absurd i
contains s (u ∷ ss) (inl same) = (0, omega arith, sym same)
contains s (u ∷ ss) (inr i) = let w = contains s ss i in (suc w.0, omega arith, w.2)

pub is_first : (test : Session → Bool) (ss : List Session) (x : Step) → first test ss ≡ Some x → IsFirst test x ss
is_first test ss x e =
    let w = first_some test ss x e in
    record { session = w.0; among = contains w.0 ss w.1; passes = w.2; next = w.3; lowest = every _ ss (λ s i t y h. first_lowest test ss x e s i t y h) }

-- numbers rise, so a session is found by its number
pub found : (ss : List Session) (t : Session) → Rising ss → In t ss → find (λ s. s.number == t.number) ss ≡ Some t
found [] t h i = absurd i
found (s ∷ ss) t h (inl same) = let e : (s.number == t.number) ≡ true = eq_yes s.number t.number (ap (λ (q : Session). q.number) (sym same)) in rw e (ap (λ q. Some q) (sym same))
found (s ∷ ss) t h (inr i) = let l = all_in (λ (u : Session). s.number < u.number) ss t h.0 i in let e : (s.number == t.number) ≡ false = eq_no s.number t.number (λ q. absurd (omega arith)) in rw e (found ss t h.1 i)
