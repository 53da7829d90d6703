-- The names of a list are found, and a name that stands twice is.
use Rattle.std.proofs.Common.{◌≡◌, ℕ, zero, suc, ◌+◌, ◌<◌, ◌≤◌, List, [], ◌∷◌, ◌++◌, length, take, drop, map, filter, get_or, Bool, true, false, ◌||◌, cond, not, Option, Bor, refl, ap, sym, subst, ◌∙◌, arith, add-one}
use Rattle.std.specs.Prelude.{bytes_eq}
use Rattle.std.specs.Ordering.{is_eq, nat_cmp}
use Rattle.std.specs.Cmp.Lexicographic.{slice_cmp, nat_list_eq_equiv}
use Rattle.std.specs.List.{AllByRecursion, list_any, IsDistinct}
use Rattle.std.specs.Str.{IsUtf8}
use Rattle.std.proofs.Math.Seq.{drop-cons}
use Rattle.std.proofs.lemmas.List.{take_more, map-append}
use Rattle.std.proofs.lemmas.List.Folds.{list_any-append}
use Rattle.std.proofs.lemmas.Map.Keys.{IsDistinct-push}
use Rattle.std.proofs.lemmas.Map.Text.{is_eq-slice_cmp}
use Rattle.myi_mergelist.specs.declared.list.InsertMethod.{InsertMethod}
use Rattle.myi_mergelist.specs.MergeList.{lines, is_name, names, most_names, HasMethod, IsMergeList, IsNoList}

-- ---- lines and names

filter_step : {A : Type 0} (f : A → List ℕ) (p : List ℕ → Bool) (x : A) (xs : List A) (b : Bool) → map f (filter (λ s. p (f s)) xs) ≡ filter p (map f xs)
    → map f (cond b (x ∷ filter (λ s. p (f s)) xs) (filter (λ s. p (f s)) xs)) ≡ cond b (f x ∷ filter p (map f xs)) (filter p (map f xs))
filter_step f p x xs true e = ap (λ q. f x ∷ q) e
filter_step f p x xs false e = e

-- the names among texts
pub filter_shown : {A : Type 0} (f : A → List ℕ) (p : List ℕ → Bool) (xs : List A) → map f (filter (λ s. p (f s)) xs) ≡ filter p (map f xs)
filter_shown f p [] = refl
filter_shown f p (x ∷ xs) = filter_step f p x xs (p (f x)) (filter_shown f p xs)

pub next_of : {A : Type 0} (f : A → List ℕ) (xs : List A) (i : ℕ) (d : A) → i < length xs → map f (drop i xs) ≡ f (get_or xs i d) ∷ map f (drop (i + 1) xs)
next_of f xs i d lt = rw (add-one, drop-cons xs i d lt) refl

-- the names that are found are those of the text
pub names_found : (bytes text : List ℕ) (ls ns : List (Bor (List ℕ))) → text ≡ bytes → map (λ s. s.now) ls ≡ lines text → ns ≡ filter (λ s. is_name s.now) ls → map (λ s. s.now) ns ≡ names bytes
names_found bytes text ls ns t l n = ap (map (λ s. s.now)) n ∙ filter_shown (λ s. s.now) is_name ls ∙ ap (filter is_name) l ∙ ap names t

-- ---- names that were met

pub was_met : (b added : Bool) → added ≡ not b → added ≡ false → b ≡ true
was_met true added e is = refl
was_met false added e is = let bad : true ≡ false = sym e ∙ is in cc

pub was_new : (b added : Bool) → added ≡ not b → added ≡ true → b ≡ false
was_new true added e is = let bad : false ≡ true = sym e ∙ is in cc
was_new false added e is = refl

either : (a b : Bool) → cond b true a ≡ (a || (b || false))
either true true = refl
either true false = refl
either false true = refl
either false false = refl

pub one_more : {A : Type 0} (f : A → List ℕ) (xs : List A) (i : ℕ) (d : A) → i < length xs → map f (take (i + 1) xs) ≡ map f (take i xs) ++ f (get_or xs i d) ∷ []
one_more f xs i d lt = ap (map f) (take_more xs i d lt) ∙ map-append f (take i xs) (get_or xs i d ∷ [])

-- the names that were met are those so far
pub met_more : {A : Type 0} (f : A → List ℕ) (xs : List A) (i : ℕ) (d : A) (q : List ℕ) (old new : Bool) → i < length xs → old ≡ list_any (bytes_eq q) (map f (take i xs)) → new ≡ cond (is_eq (slice_cmp nat_cmp (f (get_or xs i d)) q)) true old
    → new ≡ list_any (bytes_eq q) (map f (take (i + 1) xs))
met_more f xs i d q old new lt o n =
    let k = f (get_or xs i d) in
    let same : is_eq (slice_cmp nat_cmp k q) ≡ bytes_eq q k = is_eq-slice_cmp k q ∙ nat_list_eq_equiv.symm k q in
    n ∙ ap (λ b. cond b true old) same ∙ either old (bytes_eq q k) ∙ ap (λ b. b || (bytes_eq q k || false)) o ∙ sym (list_any-append (bytes_eq q) (map f (take i xs)) (k ∷ [])) ∙ ap (list_any (bytes_eq q)) (sym (one_more f xs i d lt))

pub apart_more : {A : Type 0} (f : A → List ℕ) (xs : List A) (i : ℕ) (d : A) → i < length xs → IsDistinct bytes_eq (map f (take i xs)) → list_any (bytes_eq (f (get_or xs i d))) (map f (take i xs)) ≡ false → IsDistinct bytes_eq (map f (take (i + 1) xs))
apart_more f xs i d lt apart new = subst (IsDistinct bytes_eq) (sym (one_more f xs i d lt)) (IsDistinct-push nat_list_eq_equiv (map f (take i xs)) (f (get_or xs i d)) apart new)

all_at : {A : Type 0} (f : A → List ℕ) (P : List ℕ → Type 0) (xs : List A) (i : ℕ) (d : A) → i < length xs → AllByRecursion P (map f xs) → P (f (get_or xs i d))
all_at f P [] i d lt all = absurd (omega (arith, lt))
all_at f P (x ∷ xs) zero d lt all = all.0
all_at f P (x ∷ xs) (suc i) d lt all = all_at f P xs i d (omega (arith, lt)) all.1

-- a name that was met stands twice
pub twice : {A : Type 0} (f : A → List ℕ) (xs : List A) (i : ℕ) (d : A) → i < length xs → list_any (bytes_eq (f (get_or xs i d))) (map f (take i xs)) ≡ true → IsDistinct bytes_eq (map f xs) → ⊥
unfolding IsDistinct
twice f [] i d lt met apart = absurd (omega (arith, lt))
twice f (x ∷ xs) zero d lt met apart = let bad : false ≡ true = met in cc
twice f (x ∷ xs) (suc i) d lt met apart = go (bytes_eq (f (get_or xs i d)) (f x)) refl met (λ m. twice f xs i d (omega (arith, lt)) m apart.1)
  where
    go : (b : Bool) → bytes_eq (f (get_or xs i d)) (f x) ≡ b → (b || list_any (bytes_eq (f (get_or xs i d))) (map f (take i xs))) ≡ true → (list_any (bytes_eq (f (get_or xs i d))) (map f (take i xs)) ≡ true → ⊥) → ⊥
    go true is m later =
        let off = all_at f (λ y. bytes_eq (f x) y ≡ false) xs i d (omega (arith, lt)) apart.0 in
        let bad : true ≡ false = sym is ∙ nat_list_eq_equiv.symm (f (get_or xs i d)) (f x) ∙ off in cc
    go false is m later = later m

pub no_names : IsDistinct bytes_eq []
unfolding IsDistinct
no_names = tt

-- ---- lists

pub is_list : (bytes : List ℕ) (ns members : List (List ℕ)) (m : Option InsertMethod) → IsUtf8 bytes → ns ≡ names bytes → members ≡ ns → 0 < length ns → length ns ≤ most_names → IsDistinct bytes_eq ns → HasMethod (lines bytes) m → IsMergeList bytes members m
is_list bytes ns members m utf8 n e some few once method = record {
  utf8 = utf8;
  names_are = e ∙ n;
  some = (let l : length members ≡ length ns = ap length e in omega (arith, l, some));
  few = (let l : length members ≡ length ns = ap length e in omega (arith, l, few));
  once = subst (IsDistinct bytes_eq) (sym e) once;
  method_is = method;
}

pub none_is_no_list : (bytes : List ℕ) (ns : List (List ℕ)) → ns ≡ names bytes → length ns ≡ 0 → IsNoList bytes
none_is_no_list bytes ns n none = λ members m h. let l : length members ≡ length ns = ap length (h.names_are ∙ sym n) in let s = h.some in omega (arith, l, none, s)

pub many_are_no_list : (bytes : List ℕ) (ns : List (List ℕ)) → ns ≡ names bytes → most_names < length ns → IsNoList bytes
many_are_no_list bytes ns n many = λ members m h. let l : length members ≡ length ns = ap length (h.names_are ∙ sym n) in let s = h.few in omega (arith, l, many, s)

pub repeat_is_no_list : (bytes : List ℕ) (ns : List (List ℕ)) → ns ≡ names bytes → (IsDistinct bytes_eq ns → ⊥) → IsNoList bytes
repeat_is_no_list bytes ns n again = λ members m h. again (subst (IsDistinct bytes_eq) (h.names_are ∙ sym n) h.once)

pub length_shown : {A : Type 0} (f : A → List ℕ) (xs : List A) (n : ℕ) → length xs ≡ n → length (map f xs) ≡ n
length_shown f xs n e = length_map f xs ∙ e
  where
    length_map : {A : Type 0} (f : A → List ℕ) (xs : List A) → length (map f xs) ≡ length xs
    length_map f [] = refl
    length_map f (x ∷ xs) = ap suc (length_map f xs)
