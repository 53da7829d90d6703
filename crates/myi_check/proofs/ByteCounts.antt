-- How many bytes ranges have, each byte counted as often as it belongs to one: where ranges that are joined have as many as
-- those that they were joined of, no byte belongs to two of these.
use Rattle.std.proofs.Common.{◌≡◌, ℕ, zero, suc, ◌+◌, ◌-◌, ◌<◌, ◌≤◌, min, max, Bool, true, false, cond, List, [], ◌∷◌, ◌++◌, refl, sym, ap, subst, ◌∙◌, arith, ◌⊎◌, inl, inr}
use Rattle.std.specs.Prelude.{◌&&◌, ◌||◌, nat_le, nat_lt, sum_by}
use Rattle.std.specs.List.{AllByRecursion, list_any}
use Rattle.std.proofs.lemmas.Bool.{le-leb, lt-leb, le-ltb, lt-ltb, cases_lt}
use Rattle.std.proofs.lemmas.List.Sums.{sum_by-cons}
use Rattle.myi_base.specs.Ranges.{Range, are_apart, is_apart}
use Rattle.myi_chain.specs.Chain.{ranges_at}
use Rattle.myi_pair.specs.Clean.{covers}
use Rattle.myi_pair.specs.Trees.{total}
use Rattle.myi_check.specs.HeldBytes.{SameBytes, AreJoined}
use Rattle.myi_check.proofs.GapLemmas.{covers_byte, none_below}

-- ---- sums of lengths

pub total-append : (u v : List Range) → total (u ++ v) ≡ total u + total v
total-append [] v = omega arith
total-append (r ∷ u) v =
    sum_by-cons (λ (x : Range). x.1 - x.0) r (u ++ v) ∙ ap (λ n. (r.1 - r.0) + n) (total-append u v)
    ∙ omega arith ∙ ap (λ n. n + total v) (sym (sum_by-cons (λ (x : Range). x.1 - x.0) r u))

pub total_push : (rs : List Range) (a : Range) → total (rs ++ a ∷ []) ≡ total rs + (a.1 - a.0)
total_push rs a = total-append rs (a ∷ []) ∙ ap (λ n. total rs + n) (sum_by-cons (λ (x : Range). x.1 - x.0) a [] ∙ omega arith)

-- those of blocks at places
pub total_at : (bs : List (ℕ × ℕ)) → sum_by (λ b. b.1) bs ≡ total (ranges_at bs)
total_at [] = refl
total_at (b ∷ bs) =
    let e : b.1 ≡ (b.0 + b.1) - b.0 = omega arith in
    sum_by-cons (λ (c : ℕ × ℕ). c.1) b bs ∙ ap (λ n. n + sum_by (λ (c : ℕ × ℕ). c.1) bs) e ∙ ap (λ n. ((b.0 + b.1) - b.0) + n) (total_at bs)
    ∙ sym (sum_by-cons (λ (r : Range). r.1 - r.0) (b.0, b.0 + b.1) (ranges_at bs))

-- ---- sums over places

abbrev upto : (ℕ → ℕ) → ℕ → ℕ
upto f zero = 0
upto f (suc n) = upto f n + f n

upto_add : (f g : ℕ → ℕ) (n : ℕ) → upto (λ p. f p + g p) n ≡ upto f n + upto g n
upto_add f g zero = refl
upto_add f g (suc n) = omega (arith, upto_add f g n)

upto_same : (f g : ℕ → ℕ) → ((p : ℕ) → f p ≡ g p) → (n : ℕ) → upto f n ≡ upto g n
upto_same f g same zero = refl
upto_same f g same (suc n) = omega (arith, upto_same f g same n, same n)

upto_less : (f g : ℕ → ℕ) → ((p : ℕ) → f p ≤ g p) → (n : ℕ) → upto f n ≤ upto g n
upto_less f g less zero = omega arith
upto_less f g less (suc n) = omega (arith, upto_less f g less n, less n)

-- what is nowhere more and as much in all is everywhere as much
as_much : (f g : ℕ → ℕ) → ((p : ℕ) → f p ≤ g p) → (n : ℕ) → upto f n ≡ upto g n → (p : ℕ) → p < n → f p ≡ g p
as_much f g less zero all p lt = absurd (omega (arith, lt))
as_much f g less (suc n) all p lt = by_place (as_much f g less n (omega (arith, all, less n, upto_less f g less n)) p) (cases_lt p n)
  where
    by_place : (p < n → f p ≡ g p) → (p < n) ⊎ (n ≤ p) → f p ≡ g p
    by_place before (inl low) = before low
    by_place before (inr high) = let same : n ≡ p = omega (arith, lt, high) in subst (λ q. f q ≡ g q) same (omega (arith, all, less n, upto_less f g less n))

-- ---- how often a byte is counted

-- how many of these have the byte at a place
abbrev count : ℕ → List Range → ℕ
count p [] = 0
count p (r ∷ rs) = cond (covers p r) 1 0 + count p rs

-- whether one has
abbrev counted : ℕ → List Range → ℕ
counted p rs = cond (list_any (covers p) rs) 1 0

count-append : (p : ℕ) (u v : List Range) → count p (u ++ v) ≡ count p u + count p v
count-append p [] v = omega arith
count-append p (r ∷ u) v = omega (arith, count-append p u v)

at_most : (p : ℕ) (rs : List Range) → counted p rs ≤ count p rs
at_most p [] = omega arith
at_most p (r ∷ rs) = by_test (covers p r) (list_any (covers p) rs) (count p rs) (at_most p rs)
  where
    by_test : (b c : Bool) (n : ℕ) → cond c 1 0 ≤ n → cond (b || c) 1 0 ≤ cond b 1 0 + n
    by_test true c n le = omega arith
    by_test false c n le = omega (arith, le)

-- of ranges that are joined none has a byte of another
once : (p low : ℕ) (rs : List Range) → AreJoined low rs → counted p rs ≡ count p rs
once p low [] h = refl
once p low (r ∷ rs) h = by_place (cases_lt p r.1) (once p (r.1 + 1) rs h.2)
  where
    alone : (b : Bool) (n : ℕ) → n ≡ 0 → cond (b || false) 1 0 ≡ cond b 1 0 + n
    alone true n none = omega (arith, none)
    alone false n none = omega (arith, none)

    not_here : (b c : Bool) (n : ℕ) → cond c 1 0 ≡ n → cond ((b && false) || c) 1 0 ≡ cond (b && false) 1 0 + n
    not_here true c n same = omega (arith, same)
    not_here false c n same = omega (arith, same)

    by_place : (p < r.1) ⊎ (r.1 ≤ p) → counted p rs ≡ count p rs → counted p (r ∷ rs) ≡ count p (r ∷ rs)
    by_place (inl low) same =
        let none : list_any (covers p) rs ≡ false = none_below p (r.1 + 1) rs h.2 (omega (arith, low)) in
        let zero_there : count p rs ≡ 0 = sym same ∙ ap (λ b. cond b 1 0) none in
        ap (λ c. cond (covers p r || c) 1 0) none ∙ alone (covers p r) (count p rs) zero_there
    by_place (inr high) same =
        let past : nat_lt p r.1 ≡ false = le-ltb _ _ high in
        rw past (not_here (nat_le r.0 p) (list_any (covers p) rs) (count p rs) same)

-- ---- the places that ranges have

-- how many bytes of a range stand before a place
span : (r : Range) (n : ℕ) → upto (λ p. cond (covers p r) 1 0) n ≡ min n r.1 - r.0
span r zero = omega arith
span r (suc n) = by_place (cases_lt n r.0) (cases_lt n r.1) (span r n)
  where
    by_place : (n < r.0) ⊎ (r.0 ≤ n) → (n < r.1) ⊎ (r.1 ≤ n) → upto (λ p. cond (covers p r) 1 0) n ≡ min n r.1 - r.0 → upto (λ p. cond (covers p r) 1 0) n + cond (nat_le r.0 n && nat_lt n r.1) 1 0 ≡ min (suc n) r.1 - r.0
    by_place (inl low) end so_far = let a : nat_le r.0 n ≡ false = lt-leb _ _ low in rw a (omega (arith, so_far, low))
    by_place (inr from) (inl low) so_far =
        let a : nat_le r.0 n ≡ true = le-leb _ _ from in
        let b : nat_lt n r.1 ≡ true = lt-ltb _ _ low in
        rw (a, b) (omega (arith, so_far, from, low))
    by_place (inr from) (inr high) so_far =
        let a : nat_le r.0 n ≡ true = le-leb _ _ from in
        let b : nat_lt n r.1 ≡ false = le-ltb _ _ high in
        rw (a, b) (omega (arith, so_far, from, high))

abbrev EndBy : ℕ → List Range → Type 0
EndBy n rs = AllByRecursion (λ (r : Range). r.1 ≤ n) rs

abbrev top : List Range → ℕ
top [] = 0
top (r ∷ rs) = max r.1 (top rs)

end_by : (n : ℕ) (rs : List Range) → top rs ≤ n → EndBy n rs
end_by n [] le = tt
end_by n (r ∷ rs) le = (omega (arith, le), end_by n rs (omega (arith, le)))

all_counted : (n : ℕ) (rs : List Range) → EndBy n rs → upto (λ p. count p rs) n ≡ total rs
all_counted n [] ends = none n
  where
    none : (n : ℕ) → upto (λ p. 0) n ≡ 0
    none zero = refl
    none (suc n) = omega (arith, none n)
all_counted n (r ∷ rs) ends =
    upto_add (λ p. cond (covers p r) 1 0) (λ p. count p rs) n
    ∙ omega (arith, span r n, all_counted n rs ends.1, ends.0)
    ∙ sym (sum_by-cons (λ (x : Range). x.1 - x.0) r rs)

-- ---- none that is counted twice

-- a range has a byte
abbrev pub AreSolid : List Range → Type 0
AreSolid rs = AllByRecursion (λ (r : Range). r.0 < r.1) rs

one_at_least : (b : Bool) → b ≡ true → 1 ≤ cond b 1 0
one_at_least true e = omega arith
one_at_least false e = absurd cc

two_apart : (a s : Range) → a.0 < a.1 → s.0 < s.1 → ((p : ℕ) → p < a.1 → cond (covers p s) 1 0 + cond (covers p a) 1 0 ≤ 1) → are_apart a s ≡ true
two_apart a s some other few = by_place (cases_lt s.0 a.1) (cases_lt a.0 s.1)
  where
    either : (b : Bool) → (b || true) ≡ true
    either true = refl
    either false = refl

    meets : s.0 < a.1 → a.0 < s.1 → ⊥
    meets low high =
        let in_a : covers (max a.0 s.0) a ≡ true = (let x : nat_le a.0 (max a.0 s.0) ≡ true = le-leb _ _ (omega arith) in let y : nat_lt (max a.0 s.0) a.1 ≡ true = lt-ltb _ _ (omega (arith, some, low)) in rw (x, y) refl) in
        let in_s : covers (max a.0 s.0) s ≡ true = (let x : nat_le s.0 (max a.0 s.0) ≡ true = le-leb _ _ (omega arith) in let y : nat_lt (max a.0 s.0) s.1 ≡ true = lt-ltb _ _ (omega (arith, other, high)) in rw (x, y) refl) in
        omega (arith, few (max a.0 s.0) (omega (arith, some, low)), one_at_least (covers (max a.0 s.0) a) in_a, one_at_least (covers (max a.0 s.0) s) in_s)

    by_place : (s.0 < a.1) ⊎ (a.1 ≤ s.0) → (a.0 < s.1) ⊎ (s.1 ≤ a.0) → are_apart a s ≡ true
    by_place (inr behind) any = let x : nat_le a.1 s.0 ≡ true = le-leb _ _ behind in rw x refl
    by_place (inl low) (inr before) = let x : nat_le s.1 a.0 ≡ true = le-leb _ _ before in rw x (either (nat_le a.1 s.0))
    by_place (inl low) (inl high) = absurd (meets low high)

apart_of_all : (a : Range) (rows : List Range) → a.0 < a.1 → AreSolid rows → ((p : ℕ) → p < a.1 → count p rows + cond (covers p a) 1 0 ≤ 1) → is_apart a rows ≡ true
apart_of_all a [] some solid few = refl
apart_of_all a (s ∷ rows) some solid few =
    let one : are_apart a s ≡ true = two_apart a s some solid.0 (λ p lt. omega (arith, few p lt)) in
    let more : is_apart a rows ≡ true = apart_of_all a rows some solid.1 (λ p lt. omega (arith, few p lt)) in
    rw (one, more) refl

each_apart : (n : ℕ) (rows frees : List Range) → EndBy n frees → AreSolid rows → AreSolid frees → ((p : ℕ) → p < n → count p rows + count p frees ≤ 1) → AllByRecursion (λ a. is_apart a rows ≡ true) frees
each_apart n rows [] ends solid some few = tt
each_apart n rows (a ∷ frees) ends solid some few =
    (apart_of_all a rows some.0 solid (λ p lt. omega (arith, few p (omega (arith, lt, ends.0)))), each_apart n rows frees ends.1 solid some.1 (λ p lt. omega (arith, few p lt)))

ends_front : (n : ℕ) (u v : List Range) → EndBy n (u ++ v) → EndBy n v
ends_front n [] v ends = ends
ends_front n (r ∷ u) v ends = ends_front n u v ends.1

-- joined, all have as many bytes as one by one: so none of the latter has a byte of one of the former
module _ (rows frees last : List Range) (solid : AreSolid rows) (some : AreSolid frees) (same : SameBytes (rows ++ frees) last) (order : AreJoined 0 last) (bytes : total last ≡ total rows + total frees) where
  abbrev end_of_all : ℕ
  end_of_all = top (rows ++ frees) + top last

  ends : EndBy end_of_all (rows ++ frees)
  ends = end_by end_of_all (rows ++ frees) (omega arith)

  here : (p : ℕ) → counted p (rows ++ frees) ≡ count p last
  here p =
      ap (λ b. cond b 1 0) (covers_byte p (rows ++ frees) ∙ ap (λ b. cond b false true) (same (p, suc p) (omega arith)) ∙ sym (covers_byte p last))
      ∙ once p 0 last order

  all : upto (λ p. counted p (rows ++ frees)) end_of_all ≡ upto (λ p. count p (rows ++ frees)) end_of_all
  all =
      upto_same (λ p. counted p (rows ++ frees)) (λ p. count p last) here end_of_all
      ∙ all_counted end_of_all last (end_by end_of_all last (omega arith))
      ∙ bytes ∙ sym (total-append rows frees)
      ∙ sym (all_counted end_of_all (rows ++ frees) ends)

  least : (p : ℕ) → counted p (rows ++ frees) ≤ 1
  least p = by_test (list_any (covers p) (rows ++ frees))
    where
      by_test : (b : Bool) → cond b 1 0 ≤ 1
      by_test true = omega arith
      by_test false = omega arith

  pub apart_by_bytes : AllByRecursion (λ a. is_apart a rows ≡ true) frees
  apart_by_bytes =
      each_apart end_of_all rows frees (ends_front end_of_all rows frees ends) solid some
      (λ p lt. omega (arith, as_much (λ p. counted p (rows ++ frees)) (λ p. count p (rows ++ frees)) (λ p. at_most p (rows ++ frees)) end_of_all all p lt, least p, count-append p rows frees))
