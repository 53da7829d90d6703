-- Used ranges in a map: what one more leaves, and what is left when it is taken out again.
use Rattle.std.proofs.Common.{◌≡◌, ℕ, suc, ◌+◌, ◌<◌, ◌≤◌, max, Bool, true, false, cond, List, [], ◌∷◌, ◌++◌, length, take, drop, get_or, Some, refl, sym, ap, subst, ◌∙◌, arith, append_assoc, ◌⊎◌, inl, inr}
use Rattle.std.specs.Prelude.{◌&&◌, ◌||◌, ◌==◌, nat_lt, nat_le, not, filter}
use Rattle.std.specs.List.{AllByRecursion}
use Rattle.std.specs.Ordering.{nat_cmp, is_le}
use Rattle.std.specs.declared.cmp.Ordering.TheVariants.{Less, Equal, Greater}
use Rattle.std.specs.Map.{remove_entry}
use Rattle.std.specs.BTreeMap.{is_at, insert_entry}
use Rattle.std.proofs.lemmas.Bool.{leb-true, lt-ltb, le-ltb, cases_lt}
use Rattle.std.proofs.lemmas.Bool.Decides.{nat_tests}
use Rattle.std.proofs.lemmas.List.{append-nil, take_more}
use Rattle.std.proofs.Math.Seq.{drop-cons}
use Rattle.myi_base.specs.Ranges.{Range, are_apart, is_apart}
use Rattle.myi_chain.specs.Chain.{AreApart}
use Rattle.myi_chain.specs.Readable.{end_of}
use Rattle.myi_chain.specs.Used.{IsRange, AreInOrder, last_of, without}
use Rattle.myi_chain.specs.Chain.{ranges_at}
use Rattle.myi_chain.specs.Used.{SameUsed}
use Rattle.myi_chain.proofs.CodeLemmas.{map_append}
use Rattle.myi_chain.proofs.ChainLemmas.{both, both_again}
use Rattle.myi_chain.proofs.SameLemmas.{is_apart-append, end_of-append, same_append, same_after}

-- ---- the last of a map that begins before a place

pub last_of-push : (rs : List Range) (r : Range) → last_of (rs ++ r ∷ []) ≡ Some r
last_of-push [] r = refl
last_of-push (s ∷ []) r = refl
last_of-push (s ∷ t ∷ rs) r = last_of-push (t ∷ rs) r

pub filter-same : (p q : Range → Bool) → ((r : Range) → p r ≡ q r) → (rs : List Range) → filter p rs ≡ filter q rs
filter-same p q same [] = refl
filter-same p q same (r ∷ rs) = let h = same r in let t = filter-same p q same rs in rw (h, t) refl

pub before_end : (end q : ℕ) → not (is_le (nat_cmp end q)) ≡ nat_lt q end
before_end end q = by_order (cases_lt q end)
  where
    by_order : (q < end) ⊎ (end ≤ q) → not (is_le (nat_cmp end q)) ≡ nat_lt q end
    by_order (inl lt) = let a : nat_lt q end ≡ true = lt-ltb _ _ lt in grind (arith, nat_tests)
    by_order (inr le) = let a : nat_lt q end ≡ false = le-ltb _ _ le in grind (arith, nat_tests)

-- ---- ranges that are apart from fewer

pub apart_less : (u v rs : List Range) → ((r : Range) → is_apart r u ≡ true → is_apart r v ≡ true) → AreApart u rs → AreApart v rs
apart_less u v [] less a = tt
apart_less u v (r ∷ rs) less a = (less r a.0, apart_less (u ++ r ∷ []) (v ++ r ∷ []) rs more a.1)
  where
    more : (s : Range) → is_apart s (u ++ r ∷ []) ≡ true → is_apart s (v ++ r ∷ []) ≡ true
    more s e =
        let t = both (is_apart s u) (is_apart s (r ∷ [])) (sym (is_apart-append s u (r ∷ [])) ∙ e) in
        is_apart-append s v (r ∷ []) ∙ both_again _ _ (less s t.0) t.1

pub apart_same : (u v rs : List Range) → SameUsed u v → AreApart u rs → AreApart v rs
apart_same u v rs same a = apart_less u v rs (λ r e. sym (same.apart r) ∙ e) a

-- ---- one range more in a map

pub sides : (r x : Range) → are_apart r x ≡ true → (r.1 ≤ x.0) ⊎ (x.1 ≤ r.0)
sides r x e = by_test (nat_le r.1 x.0) (nat_le x.1 r.0) refl refl e
  where
    by_test : (a b : Bool) → nat_le r.1 x.0 ≡ a → nat_le x.1 r.0 ≡ b → (a || b) ≡ true → (r.1 ≤ x.0) ⊎ (x.1 ≤ r.0)
    by_test true b f g h = inl (leb-true _ _ f)
    by_test false b f g h = inr (leb-true _ _ (g ∙ h))

pub cmp-less : (a b : ℕ) → a < b → nat_cmp a b ≡ Less
cmp-less a b h = grind (arith, nat_tests)

pub cmp-equal : (a : ℕ) → nat_cmp a a ≡ Equal
cmp-equal a = grind (arith, nat_tests)

pub cmp-greater : (a b : ℕ) → b < a → nat_cmp a b ≡ Greater
cmp-greater a b h = grind (arith, nat_tests)

-- these ranges are the others and the one, in order
pub record IsPut (low : ℕ) (es : List Range) (r : Range) (new : List Range) : Type 0 where
  pub order : AreInOrder low new
  pub apart : (s : Range) → is_apart s new ≡ (are_apart s r && is_apart s es)
  pub ends : (p : ℕ) → end_of p new ≡ max (end_of p (r ∷ [])) (end_of p es)
  pub back : remove_entry (is_at (nat_cmp r.0)) new ≡ es

put_first : (low : ℕ) (es : List Range) (r : Range) → low ≤ r.0 → r.0 < r.1 → AreInOrder r.1 es → IsPut low es r (r ∷ es)
put_first low es r le lt h = record {
  order = (le, lt, h);
  apart = λ s. refl;
  ends = λ p. by_test p (r.0 == p);
  back = let e = cmp-equal r.0 in rw e refl;
}
  where
    by_test : (p : ℕ) (b : Bool) → cond b (max r.1 (end_of p es)) (end_of p es) ≡ max (cond b (max r.1 0) 0) (end_of p es)
    by_test p true = omega arith
    by_test p false = omega arith

put_behind : (low : ℕ) (x : Range) (es : List Range) (r : Range) (new : List Range) → low ≤ x.0 → x.0 < x.1 → x.1 ≤ r.0 → IsPut x.1 es r new → IsPut low (x ∷ es) r (x ∷ new)
put_behind low x es r new le lt far h = record {
  order = (le, lt, h.order);
  apart = λ s. ap (λ b. are_apart s x && b) (h.apart s) ∙ swapped (are_apart s x) (are_apart s r) (is_apart s es);
  ends = λ p. by_test p (x.0 == p) (end_of p new) (h.ends p);
  back = let e = cmp-greater r.0 x.0 (omega arith) in rw e (ap (λ t. x ∷ t) h.back);
}
  where
    swapped : (a b c : Bool) → (a && (b && c)) ≡ (b && (a && c))
    swapped true b c = refl
    swapped false true c = refl
    swapped false false c = refl

    by_test : (p : ℕ) (b : Bool) (e : ℕ) → e ≡ max (end_of p (r ∷ [])) (end_of p es) → cond b (max x.1 e) e ≡ max (end_of p (r ∷ [])) (cond b (max x.1 (end_of p es)) (end_of p es))
    by_test p true e h = omega arith
    by_test p false e h = h

pub is_put : (low : ℕ) (es : List Range) (r : Range) → AreInOrder low es → is_apart r es ≡ true → low ≤ r.0 → r.0 < r.1 → IsPut low es r (insert_entry nat_cmp es r.0 r.1)
is_put low [] r h a le lt = put_first low [] r le lt tt
is_put low (x ∷ es) r h a le lt =
    let t = both (are_apart r x) (is_apart r es) a in
    by_side (λ far. is_put x.1 es r h.2 t.1 far lt) (sides r x t.0)
  where
    by_side : (x.1 ≤ r.0 → IsPut x.1 es r (insert_entry nat_cmp es r.0 r.1)) → (r.1 ≤ x.0) ⊎ (x.1 ≤ r.0) → IsPut low (x ∷ es) r (insert_entry nat_cmp (x ∷ es) r.0 r.1)
    by_side more (inl b) =
        let e = cmp-less r.0 x.0 (omega arith) in
        let is : insert_entry nat_cmp (x ∷ es) r.0 r.1 ≡ r ∷ x ∷ es = rw e refl in
        subst (IsPut low (x ∷ es) r) (sym is) (put_first low (x ∷ es) r le lt (b, h.1, h.2))
    by_side more (inr b) =
        let e = cmp-greater r.0 x.0 (omega (arith, h.1)) in
        let is : insert_entry nat_cmp (x ∷ es) r.0 r.1 ≡ x ∷ insert_entry nat_cmp es r.0 r.1 = rw e refl in
        subst (IsPut low (x ∷ es) r) (sym is) (put_behind low x es r _ h.0 h.1 b (more b))

-- ---- one after the other

pub same_put : (low : ℕ) (es : List Range) (r : Range) (new : List Range) → IsPut low es r new → SameUsed new (es ++ r ∷ [])
same_put low es r new h = record {
  apart = λ s. h.apart s ∙ turned (are_apart s r) (is_apart s es) ∙ sym (is_apart-append s es (r ∷ []));
  ends = λ p. omega (arith, h.ends p, end_of-append p es (r ∷ []));
}
  where
    turned : (a b : Bool) → (a && b) ≡ (b && (a && true))
    turned true true = refl
    turned true false = refl
    turned false true = refl
    turned false false = refl

pub without_last : (es rs : List Range) (r : Range) → without es (rs ++ r ∷ []) ≡ without (remove_entry (is_at (nat_cmp r.0)) es) rs
without_last es [] r = refl
without_last es (x ∷ rs) r = ap (remove_entry (is_at (nat_cmp x.0))) (without_last es rs r)

-- a range of some was put into the map, and these are left
pub record IsOn (old all es done rest : List Range) : Type 0 where
  pub same : SameUsed (es ++ rest) (old ++ all)
  pub back : without es done ≡ old
  pub order : AreInOrder 0 es
  pub apart : AreApart es rest

pub on_first : (old all : List Range) → AreInOrder 0 old → AreApart old all → IsOn old all old [] all
on_first old all h a = record { same = record { apart = λ r. refl; ends = λ p. refl }; back = refl; order = h; apart = a }

pub goes_on : (old all es done rest : List Range) (r : Range) → r.0 < r.1 → IsOn old all es done (r ∷ rest) → IsOn old all (insert_entry nat_cmp es r.0 r.1) (done ++ r ∷ []) rest
goes_on old all es done rest r lt h =
    let new = insert_entry nat_cmp es r.0 r.1 in
    let put = is_put 0 es r h.order h.apart.0 (omega arith) lt in
    let one = same_put 0 es r new put in
    let more = same_append new (es ++ r ∷ []) rest one in
    record {
      same = same_after (new ++ rest) (es ++ r ∷ rest) (old ++ all) (subst (SameUsed (new ++ rest)) (append_assoc es (r ∷ []) rest) more) h.same;
      back = without_last new done r ∙ ap (λ t. without t done) put.back ∙ h.back;
      order = put.order;
      apart = apart_same (es ++ r ∷ []) new rest (record { apart = λ s. sym (one.apart s); ends = λ p. sym (one.ends p) }) h.apart.1;
    }

pub on_last : (old all es done : List Range) → IsOn old all es done [] → SameUsed es (old ++ all)
on_last old all es done h = subst (λ t. SameUsed t (old ++ all)) (append-nil es) h.same

-- ---- what is left where the last are taken out again

pub takes_last : (blocks : List (ℕ × ℕ)) (es : List Range) (k n : ℕ) (d : ℕ × ℕ) → n ≡ suc k → n ≤ length blocks → without es (ranges_at (take n blocks)) ≡ without (remove_entry (is_at (nat_cmp (get_or blocks k d).0)) es) (ranges_at (take k blocks))
takes_last blocks es k n d e le =
    let b = get_or blocks k d in
    let t : take n blocks ≡ take k blocks ++ b ∷ [] = ap (λ i. take i blocks) (e ∙ omega arith) ∙ take_more blocks k d (omega (arith, e, le)) in
    let m = map_append {B = Range} (λ (x : ℕ × ℕ). (x.0, x.0 + x.1)) (take k blocks) (b ∷ []) in
    ap (λ rs. without es (ranges_at rs)) t ∙ ap (without es) m ∙ without_last es (ranges_at (take k blocks)) (b.0, b.0 + b.1)

pub left_at : (blocks : List (ℕ × ℕ)) (i : ℕ) (d : ℕ × ℕ) → i < length blocks → ranges_at (drop i blocks) ≡ ((get_or blocks i d).0, (get_or blocks i d).0 + (get_or blocks i d).1) ∷ ranges_at (drop (i + 1) blocks)
left_at blocks i d lt =
    let b = get_or blocks i d in
    let next : suc i ≡ i + 1 = omega arith in
    ap ranges_at (drop-cons blocks i d lt) ∙ ap (λ k. (b.0, b.0 + b.1) ∷ ranges_at (drop k blocks)) next

pub done_at : (blocks : List (ℕ × ℕ)) (i : ℕ) (d : ℕ × ℕ) → i < length blocks → ranges_at (take (i + 1) blocks) ≡ ranges_at (take i blocks) ++ ((get_or blocks i d).0, (get_or blocks i d).0 + (get_or blocks i d).1) ∷ []
done_at blocks i d lt = ap ranges_at (take_more blocks i d lt) ∙ map_append {B = Range} (λ (x : ℕ × ℕ). (x.0, x.0 + x.1)) (take i blocks) (get_or blocks i d ∷ [])

pub puts_one : (blocks : List (ℕ × ℕ)) (old es new : List Range) (i : ℕ) (d : ℕ × ℕ) → i < length blocks → IsOn old (ranges_at blocks) es (ranges_at (take i blocks)) (ranges_at (drop i blocks)) → AllByRecursion IsRange (ranges_at (drop i blocks)) → new ≡ insert_entry nat_cmp es (get_or blocks i d).0 ((get_or blocks i d).0 + (get_or blocks i d).1)
    → IsOn old (ranges_at blocks) new (ranges_at (take (i + 1) blocks)) (ranges_at (drop (i + 1) blocks)) × AllByRecursion IsRange (ranges_at (drop (i + 1) blocks))
puts_one blocks old es new i d lt on some is =
    let b = get_or blocks i d in
    let all = ranges_at blocks in
    let left = left_at blocks i d lt in
    let some' : AllByRecursion IsRange ((b.0, b.0 + b.1) ∷ ranges_at (drop (i + 1) blocks)) = subst (AllByRecursion IsRange) left some in
    let next = goes_on old all es (ranges_at (take i blocks)) (ranges_at (drop (i + 1) blocks)) (b.0, b.0 + b.1) some'.0.0 (subst (IsOn old all es (ranges_at (take i blocks))) left on) in
    (subst (λ n. IsOn old all n (ranges_at (take (i + 1) blocks)) (ranges_at (drop (i + 1) blocks))) (sym is) (subst (λ done. IsOn old all (insert_entry nat_cmp es b.0 (b.0 + b.1)) done (ranges_at (drop (i + 1) blocks))) (sym (done_at blocks i d lt)) next), some'.1)

-- ---- in a map behind a list

pub far_apart : (near far rs : List Range) → AreApart (near ++ far) rs → AreApart far rs
far_apart near far rs a = apart_less (near ++ far) far rs (λ r e. (both (is_apart r near) (is_apart r far) (sym (is_apart-append r near far) ∙ e)).1) a

pub more_apart : (near far rs all : List Range) (r : Range) → all ≡ r ∷ rs → AreApart (near ++ far) all → AreApart far rs
more_apart near far rs all r is a =
    let t : AreApart ((near ++ far) ++ r ∷ []) rs = (subst (AreApart (near ++ far)) is a).1 in
    far_apart near far rs (apart_less ((near ++ far) ++ r ∷ []) (near ++ far) rs (λ s e. (both (is_apart s (near ++ far)) (is_apart s (r ∷ [])) (sym (is_apart-append s (near ++ far) (r ∷ [])) ∙ e)).0) t)

pub same_far : (near far rs new : List Range) → SameUsed new (far ++ rs) → SameUsed (near ++ new) ((near ++ far) ++ rs)
same_far near far rs new h = subst (SameUsed (near ++ new)) (sym (append_assoc near far rs)) (record {
  apart = λ r. is_apart-append r near new ∙ ap (λ b. is_apart r near && b) (h.apart r) ∙ sym (is_apart-append r near (far ++ rs));
  ends = λ p. end_of-append p near new ∙ ap (max (end_of p near)) (h.ends p) ∙ sym (end_of-append p near (far ++ rs));
})

pub same_near : (near far rs all new : List Range) (r : Range) → all ≡ r ∷ rs → SameUsed new (far ++ rs) → SameUsed ((near ++ r ∷ []) ++ new) ((near ++ far) ++ all)
same_near near far rs all new r is h = record {
  apart = λ s.
      let left = is_apart-append s (near ++ r ∷ []) new ∙ ap (λ b. b && is_apart s new) (is_apart-append s near (r ∷ [])) in
      let mid = h.apart s ∙ is_apart-append s far rs in
      let right = ap (λ t. is_apart s ((near ++ far) ++ t)) is ∙ is_apart-append s (near ++ far) (r ∷ rs) ∙ ap (λ b. b && is_apart s (r ∷ rs)) (is_apart-append s near far) in
      left ∙ turned (is_apart s near) (are_apart s r) (is_apart s far) (is_apart s rs) (is_apart s new) mid ∙ sym right;
  ends = λ p.
      let left = end_of-append p (near ++ r ∷ []) new in
      let one = end_of-append p near (r ∷ []) in
      let mid = h.ends p ∙ end_of-append p far rs in
      let right = ap (λ t. end_of p ((near ++ far) ++ t)) is ∙ end_of-append p (near ++ far) (r ∷ rs) in
      let behind = end_of-append p (r ∷ []) rs in
      let both_parts = end_of-append p near far in
      omega (arith, left, one, mid, right, behind, both_parts);
}
  where
    turned : (n r f t x : Bool) → x ≡ (f && t) → ((n && (r && true)) && x) ≡ ((n && f) && (r && t))
    turned true true f t x e = e
    turned true false true t x e = refl
    turned true false false t x e = refl
    turned false r f t x e = refl
