-- A pair that is met is the next one, or not.
use Rattle.std.proofs.Common.{◌≡◌, ℕ, ◌+◌, ◌<◌, ◌≤◌, ◌&&◌, Bool, true, false, not, cond, Option, Some, None, List, [], ◌∷◌, length, drop, refl, sym, ap, ◌∙◌, arith, length-drop}
use Rattle.std.specs.Prelude.{get_or, is_some}
use Rattle.std.specs.Option.{option_or}
use Rattle.std.specs.Ordering.{nat_cmp, ordering_then, is_eq}
use Rattle.std.proofs.lemmas.List.{drop_more, drop_all}
use Rattle.myi_keys.specs.declared.values.KeySeg.{KeySeg}
use Rattle.myi_keys.specs.Limits.{IsKey}
use Rattle.myi_keys.specs.Order.{key_cmp}
use Rattle.myi_keys.specs.Codes.{key_code}
use Rattle.myi_keys.specs.Comparing.{code_cmp}
use Rattle.myi_keys.proofs.CallerLemmas.{front_again}
use Rattle.myi_keylist.specs.declared.pair.Pair.{Pair}
use Rattle.myi_keylist.specs.PairOrder.{pair_cmp}
use Rattle.myi_btree.specs.Events.{Event, pair}
use Rattle.myi_pair.specs.FirstBad.{repeats_last, walk_bad}
use Rattle.myi_check.specs.declared.pairs_met.PairsMet.{PairsMet}
use Rattle.myi_check.specs.Walks.{last_key, is_next, bad_with}

-- codes of keys compare as the keys do
pub same_pair : (p q : Pair) (one other : List ℕ) (row : ℕ) → one ≡ key_code p.key → IsKey p.key → other ≡ key_code q.key → IsKey q.key → row ≡ q.row → is_eq (ordering_then (code_cmp one other) (nat_cmp p.row row)) ≡ is_eq (pair_cmp p q)
same_pair p q one other row a is b at e =
    let keys : code_cmp one other ≡ key_cmp p.key q.key = ap (λ (c : List ℕ). code_cmp c other) a ∙ ap (code_cmp (key_code p.key)) b ∙ rw (front_again p.key is, front_again q.key at) refl in
    ap (λ o. is_eq (ordering_then o (nat_cmp p.row row))) keys ∙ ap (λ n. is_eq (ordering_then (key_cmp p.key q.key) (nat_cmp p.row n))) e

-- whether the pair is the next one, by the one at its place
pub next_at : (unique : Bool) (last : Option (List KeySeg)) (pairs : List Pair) (i : ℕ) (p : Pair) (same repeats : Bool) → i < length pairs → ((other : Pair) → same ≡ is_eq (pair_cmp p (get_or pairs i other))) → repeats ≡ (unique && repeats_last last p.key) → (same && not repeats) ≡ is_next unique last (drop i pairs) p
next_at unique last pairs i p same repeats inside is e =
    ap (λ b. b && not repeats) (is p) ∙ ap (λ b. is_eq (pair_cmp p (get_or pairs i p)) && not b) e ∙ sym (ap (λ (t : List Pair). is_next unique last t p) (drop_more pairs i p inside))

-- what is left where it is, and where it is not
pub noted_next : (unique : Bool) (pairs : List Pair) (old new : PairsMet) (p : Pair) (at : ℕ) (left : List Event) → old.bad ≡ None → old.count < length pairs → is_next unique (last_key old) (drop old.count pairs) p ≡ true → new.count ≡ old.count + 1 → (last_key new) ≡ Some p.key → new.bad ≡ None
    → bad_with unique pairs old (pair p at ∷ left) ≡ bad_with unique pairs new left
noted_next unique pairs old new p at left none inside is count last bad =
    let here = drop_more pairs old.count p inside in
    let q = get_or pairs old.count p in
    let rest = drop (old.count + 1) pairs in
    let so : (is_eq (pair_cmp p q) && not (unique && repeats_last (last_key old) p.key)) ≡ true = ap (λ (t : List Pair). is_next unique (last_key old) t p) (sym here) ∙ is in
    ap (λ (o : Option ℕ). option_or o (walk_bad unique (last_key old) (drop old.count pairs) (pair p at ∷ left))) none
    ∙ ap (λ (t : List Pair). walk_bad unique (last_key old) t (pair p at ∷ left)) here
    ∙ ap (λ (b : Bool). cond b (walk_bad unique (Some p.key) rest left) (Some at)) so
    ∙ sym (ap (λ (o : Option ℕ). option_or o (walk_bad unique (last_key new) (drop new.count pairs) left)) bad ∙ ap (λ (o : Option (List KeySeg)). walk_bad unique o (drop new.count pairs) left) last ∙ ap (λ n. walk_bad unique (Some p.key) (drop n pairs) left) count)

pub noted_other : (unique : Bool) (pairs : List Pair) (old new : PairsMet) (p : Pair) (at : ℕ) (left : List Event) → old.bad ≡ None → old.count < length pairs → is_next unique (last_key old) (drop old.count pairs) p ≡ false → new.bad ≡ Some at
    → bad_with unique pairs old (pair p at ∷ left) ≡ bad_with unique pairs new left
noted_other unique pairs old new p at left none inside is bad =
    let here = drop_more pairs old.count p inside in
    let q = get_or pairs old.count p in
    let rest = drop (old.count + 1) pairs in
    let so : (is_eq (pair_cmp p q) && not (unique && repeats_last (last_key old) p.key)) ≡ false = ap (λ (t : List Pair). is_next unique (last_key old) t p) (sym here) ∙ is in
    ap (λ (o : Option ℕ). option_or o (walk_bad unique (last_key old) (drop old.count pairs) (pair p at ∷ left))) none
    ∙ ap (λ (t : List Pair). walk_bad unique (last_key old) t (pair p at ∷ left)) here
    ∙ ap (λ (b : Bool). cond b (walk_bad unique (Some p.key) rest left) (Some at)) so
    ∙ sym (ap (λ (o : Option ℕ). option_or o (walk_bad unique (last_key new) (drop new.count pairs) left)) bad)

pub noted_behind : (unique : Bool) (pairs : List Pair) (old new : PairsMet) (p : Pair) (at : ℕ) (left : List Event) → old.bad ≡ None → length pairs ≤ old.count → new.bad ≡ Some at → bad_with unique pairs old (pair p at ∷ left) ≡ bad_with unique pairs new left
noted_behind unique pairs old new p at left none behind bad =
    ap (λ (o : Option ℕ). option_or o (walk_bad unique (last_key old) (drop old.count pairs) (pair p at ∷ left))) none
    ∙ ap (λ (t : List Pair). walk_bad unique (last_key old) t (pair p at ∷ left)) (drop_all old.count pairs behind)
    ∙ sym (ap (λ (o : Option ℕ). option_or o (walk_bad unique (last_key new) (drop new.count pairs) left)) bad)

pub noted_bad : (unique : Bool) (pairs : List Pair) (met : PairsMet) (one other : List Event) (at : ℕ) → met.bad ≡ Some at → bad_with unique pairs met one ≡ bad_with unique pairs met other
noted_bad unique pairs met one other at e = ap (λ (o : Option ℕ). option_or o (walk_bad unique (last_key met) (drop met.count pairs) one)) e ∙ sym (ap (λ (o : Option ℕ). option_or o (walk_bad unique (last_key met) (drop met.count pairs) other)) e)

-- ---- the walk is over

pub not_some : (o : Option ℕ) → is_some o ≡ false → o ≡ None
not_some None e = refl
not_some (Some p) e = absurd cc

pub over_left : (unique : Bool) (pairs : List Pair) (met : PairsMet) → met.bad ≡ None → met.count < length pairs → Some 0 ≡ bad_with unique pairs met []
over_left unique pairs met none inside = by (drop met.count pairs) refl
  where
    by : (left : List Pair) → drop met.count pairs ≡ left → Some 0 ≡ bad_with unique pairs met []
    by [] e = absurd (omega (arith, inside, length-drop met.count pairs, ap length e))
    by (p ∷ ps) e = sym (ap (λ (o : Option ℕ). option_or o (walk_bad unique (last_key met) (drop met.count pairs) [])) none ∙ ap (λ (t : List Pair). walk_bad unique (last_key met) t []) e)

-- a pair that is not the one at its place
pub next_not : (unique : Bool) (last : Option (List KeySeg)) (pairs : List Pair) (i : ℕ) (p : Pair) (same : Bool) → i < length pairs → ((other : Pair) → same ≡ is_eq (pair_cmp p (get_or pairs i other))) → same ≡ false → same ≡ is_next unique last (drop i pairs) p
next_not unique last pairs i p same inside is off =
    off ∙ sym (ap (λ (t : List Pair). is_next unique last t p) (drop_more pairs i p inside) ∙ ap (λ (b : Bool). b && not (unique && repeats_last last p.key)) (sym (is p) ∙ off))
