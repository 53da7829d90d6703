-- What parts of a sharing leave when they are taken back.
use Rattle.std.proofs.Common.{◌≡◌, ℕ, ◌+◌, ◌-◌, ◌^◌, ◌≤◌, zero, suc, min, List, [], ◌∷◌, ◌++◌, map, All, refl, sym, ap, subst, ◌∙◌, arith}
use Rattle.std.proofs.lemmas.List.Elements.{All-cons, All-nil}
use Rattle.myi_keycache.specs.declared.setup.Counters.{Counters}
use Rattle.myi_table.specs.Table.{OpenTable}
use Rattle.myi_table.specs.Counting.{sum_of}
use Rattle.myi_share.specs.Taking.{sum_with, counting, all_counted, AreNotBelow}

-- ---- counters

sum_more : (a : Counters) (xs : List Counters) (x : Counters) → sum_with a (xs ++ x ∷ []) ≡ sum_of (sum_with a xs) x
sum_more a [] x = refl
sum_more a (y ∷ xs) x = sum_more (sum_of a y) xs x

pub added_more : (old half new : OpenTable) (xs all : List Counters) (x more : Counters) → half ≡ record old { added = sum_with old.added xs } → new ≡ record half { added = sum_of half.added more } → more ≡ x → all ≡ xs ++ x ∷ [] → new ≡ record old { added = sum_with old.added all }
added_more old half new xs all x more was is same longer =
    is ∙ ap (λ (h : OpenTable). record h { added = sum_of h.added more }) was ∙ ap (λ (c : Counters). record old { added = sum_of (sum_with old.added xs) c }) same
    ∙ ap (λ (c : Counters). record old { added = c }) (sym (sum_more old.added xs x) ∙ ap (sum_with old.added) (sym longer))

added_up : (c a x m : ℕ) → min (c + a) m ≤ min (c + min (a + x) m) m
added_up c a x m = omega arith

one_up : (c a x : Counters) → AreNotBelow (sum_of c a) (sum_of c (sum_of a x))
one_up c a x = record {
  read_requests = added_up c.read_requests a.read_requests x.read_requests (2 ^ 64 - 1);
  reads = added_up c.reads a.reads x.reads (2 ^ 64 - 1);
  write_requests = added_up c.write_requests a.write_requests x.write_requests (2 ^ 64 - 1);
  writes = added_up c.writes a.writes x.writes (2 ^ 64 - 1);
}

pub below_then : (a b c : Counters) → AreNotBelow a b → AreNotBelow b c → AreNotBelow a c
below_then a b c h k =
    let r1 = h.read_requests in let r2 = k.read_requests in
    let s1 = h.reads in let s2 = k.reads in
    let t1 = h.write_requests in let t2 = k.write_requests in
    let u1 = h.writes in let u2 = k.writes in
    record { read_requests = omega (arith, r1, r2); reads = omega (arith, s1, s2); write_requests = omega (arith, t1, t2); writes = omega (arith, u1, u2) }

sums_up : (c a : Counters) (xs : List Counters) → AreNotBelow (sum_of c a) (sum_of c (sum_with a xs))
sums_up c a [] = record { read_requests = omega arith; reads = omega arith; write_requests = omega arith; writes = omega arith }
sums_up c a (x ∷ xs) = below_then (sum_of c a) (sum_of c (sum_of a x)) (sum_of c (sum_with (sum_of a x) xs)) (one_up c a x) (sums_up c (sum_of a x) xs)

-- a table that only counts more
pub rest_counted : (old new : OpenTable) (a : Counters) → new ≡ counting old a → new ≡ counting old new.added
rest_counted old new a is = is ∙ ap (counting old) (sym (ap (λ (t : OpenTable). t.added) is))

pub more_counted : (old new : OpenTable) (xs : List Counters) → new ≡ counting old (sum_with old.added xs) → AreNotBelow (all_counted old) (all_counted new)
more_counted old new xs is = subst (λ (t : OpenTable). AreNotBelow (all_counted old) (all_counted t)) (sym is) (sums_up old.rows.trees.cache.counters old.added xs)

pub one_counted : (old new : OpenTable) (x : Counters) → new ≡ counting old (sum_of old.added x) → AreNotBelow (all_counted old) (all_counted new)
one_counted old new x is = subst (λ (t : OpenTable). AreNotBelow (all_counted old) (all_counted t)) (sym is) (one_up old.rows.trees.cache.counters old.added x)

-- ---- what holds along one list holds along another that shows the same

pub all_along : {A B C : Type 0} (f : A → C) (g : B → C) (P : C → Type 0) (ys : List A) (xs : List B) → map f ys ≡ map g xs → All (λ x. P (g x)) xs → All (λ y. P (f y)) ys
all_along f g P [] xs e all = All-nil (λ y. P (f y))
all_along f g P (y ∷ ys) [] e all = cc
all_along f g P (y ∷ ys) (x ∷ xs) e all =
    let first : f y ≡ g x = cc in
    let rest : map f ys ≡ map g xs = cc in
    All-cons (λ y. P (f y)) y ys (subst P (sym first) (all zero x (omega arith))) (all_along f g P ys xs rest (λ k d h. all (suc k) d (omega arith)))
