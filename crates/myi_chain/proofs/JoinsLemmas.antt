-- Ranges in a map, of which those that touch are joined: what a scan that goes on behind them can tell.
use Rattle.std.proofs.Common.{◌≡◌, ℕ, ◌+◌, ◌<◌, ◌≤◌, max, Bool, true, false, cond, eqb, List, [], ◌∷◌, ◌++◌, Option, Some, None, refl, sym, ap, subst, ◌∙◌, arith, ◌⊎◌, inl, inr}
use Rattle.std.specs.Prelude.{◌&&◌, ◌||◌, ◌==◌, nat_lt, nat_le}
use Rattle.std.specs.Ordering.{nat_cmp}
use Rattle.std.specs.declared.cmp.Ordering.TheVariants.{Equal}
use Rattle.std.specs.Map.{lookup, remove_entry}
use Rattle.std.specs.BTreeMap.{is_at, insert_entry}
use Rattle.std.proofs.lemmas.Bool.{le-leb, lt-leb, le-ltb, leb-true, eq-eqb, ne_eqb, cases_lt}
use Rattle.std.proofs.lemmas.List.{append-nil}
use Rattle.myi_base.specs.Ranges.{Range, are_apart, is_apart}
use Rattle.myi_chain.specs.Chain.{AreApart, ranges_at}
use Rattle.myi_chain.specs.Readable.{end_of}
use Rattle.myi_chain.specs.Used.{AreInOrder, last_before, SameUsed, SameFrom, joined, AddsBlocks, NeedsMemory}
use Rattle.myi_chain.proofs.ChainLemmas.{both, both_again}
use Rattle.myi_chain.proofs.SameLemmas.{is_apart-append, end_of-append, same_append, same_after}
use Rattle.myi_chain.proofs.UsedLemmas.{lower, or_else, before-none, before-some, before-later}
use Rattle.myi_chain.proofs.MapLemmas.{sides, cmp-less, cmp-equal, cmp-greater, IsPut, is_put, same_put, apart_less}
use Rattle.myi_chain.proofs.JoinedLemmas.{from_same, from_then, grows, swap, one_end, front_apart, front_end, front_is}

-- ---- tests

assoc : (a b c : Bool) → (a && (b && c)) ≡ ((a && b) && c)
assoc true b c = refl
assoc false b c = refl

-- a range that is apart from two that touch is apart from both as one
pub touch : (a b c x y : ℕ) → a < b → b < c → x < y → ((nat_le y a || nat_le b x) && ((nat_le y b || nat_le c x) && true)) ≡ (nat_le y a || nat_le c x)
touch a b c x y some more byte = by_start (cases_lt x b)
  where
    right : (t : Bool) → (t && true) ≡ t
    right true = refl
    right false = refl

    none : (t : Bool) → (t || false) ≡ t
    none true = refl
    none false = refl

    under : (s t : Bool) → (s ≡ true → t ≡ true) → (s && (t && true)) ≡ s
    under true t h = let e = h refl in rw e refl
    under false t h = refl

    first : (s t : Bool) → s ≡ true → (s || t) ≡ true
    first true t e = refl
    first false t e = absurd cc

    by_start : (x < b) ⊎ (b ≤ x) → ((nat_le y a || nat_le b x) && ((nat_le y b || nat_le c x) && true)) ≡ (nat_le y a || nat_le c x)
    by_start (inl before) =
        let p : nat_le b x ≡ false = lt-leb _ _ before in
        let q : nat_le c x ≡ false = lt-leb _ _ (omega arith) in
        rw (p, q) (ap (λ s. s && ((nat_le y b || false) && true)) (none (nat_le y a)) ∙ under (nat_le y a) (nat_le y b || false) (λ e. first (nat_le y b) false (le-leb _ _ (omega (arith, leb-true _ _ e)))) ∙ sym (none (nat_le y a)))
    by_start (inr behind) =
        let p : nat_le b x ≡ true = le-leb _ _ behind in
        let q : nat_le y b ≡ false = lt-leb _ _ (omega arith) in
        let r : nat_le y a ≡ false = lt-leb _ _ (omega arith) in
        rw (p, q, r) (right (nat_le c x))

-- ---- apart from those that are apart from it

pub apart_back : (r : Range) (u rs : List Range) → ((s : Range) → is_apart s u ≡ true → are_apart s r ≡ true) → AreApart u rs → is_apart r rs ≡ true
apart_back r u [] far a = refl
apart_back r u (s ∷ rs) far a = both_again _ _ (turned (nat_le s.1 r.0) (nat_le r.1 s.0) (far s a.0)) (apart_back r (u ++ s ∷ []) rs (λ t e. far t (both _ _ (sym (is_apart-append t u (s ∷ [])) ∙ e)).0) a.1)
  where
    turned : (x y : Bool) → (x || y) ≡ true → (y || x) ≡ true
    turned true true e = refl
    turned true false e = refl
    turned false true e = refl
    turned false false e = e

pub first_far : (at to : ℕ) (es more : List Range) → AreApart es ((at, to) ∷ more) → is_apart (at, to) more ≡ true
first_far at to es more a = apart_back (at, to) (es ++ (at, to) ∷ []) more (λ s e. right (are_apart s (at, to)) (both _ _ (sym (is_apart-append s es ((at, to) ∷ [])) ∙ e)).1) a.1
  where
    right : (x : Bool) → (x && true) ≡ true → x ≡ true
    right x e = (both x true e).0

pub more_far : (r : Range) (es more : List Range) → AreApart es (r ∷ more) → AreApart es more
more_far r es more a = apart_less (es ++ r ∷ []) es more (λ s e. (both _ _ (sym (is_apart-append s es (r ∷ [])) ∙ e)).0) a.1

pub first_apart : (at to : ℕ) (old new more : List Range) → AreApart old ((at, to) ∷ more) → SameUsed new (old ++ more) → is_apart (at, to) new ≡ true
first_apart at to old new more a same = same.apart (at, to) ∙ is_apart-append (at, to) old more ∙ both_again _ _ a.0 (first_far at to old more a)

-- ---- no ranges

pub none_same : (es : List Range) → AreInOrder 0 es → SameUsed es [] → es ≡ []
none_same [] h s = refl
none_same (x ∷ es) h s =
    let here : eqb x.0 x.0 ≡ true = eq-eqb _ _ refl in
    let one : end_of x.0 (x ∷ es) ≡ max x.1 (end_of x.0 es) = rw here refl in
    absurd (omega (arith, one, s.ends x.0, h.1))

-- ---- the last before a place

pub before_under : (end : ℕ) (rs : List Range) (x : Range) → last_before end rs ≡ Some x → x.0 < end
before_under end [] x e = absurd cc
before_under end (r ∷ rs) x e = by_start (before_under end rs x) (cases_lt r.0 end)
  where
    by_last : (last_before end rs ≡ Some x → x.0 < end) → r.0 < end → (o : Option Range) → last_before end rs ≡ o → or_else o (Some r) ≡ Some x → x.0 < end
    by_last ih lt None k f = let same : r ≡ x = cc in subst (λ (y : Range). y.0 < end) same lt
    by_last ih lt (Some y) k f = ih (k ∙ f)

    by_start : (last_before end rs ≡ Some x → x.0 < end) → (r.0 < end) ⊎ (end ≤ r.0) → x.0 < end
    by_start ih (inl lt) = by_last ih lt (last_before end rs) refl (sym (before-some end r rs lt) ∙ e)
    by_start ih (inr le) =
        let f : nat_lt r.0 end ≡ false = le-ltb _ _ le in
        let skip : last_before end (r ∷ rs) ≡ last_before end rs = rw f refl in
        ih (sym skip ∙ e)

-- ---- the range that ends at a place, made longer

record IsLonger (low at to : ℕ) (es new : List Range) : Type 0 where
  order : AreInOrder low new
  apart : (r : Range) → r.0 < r.1 → is_apart r new ≡ (is_apart r es && is_apart r ((at, to) ∷ []))
  ends : (p : ℕ) → to ≤ p → end_of p new ≡ end_of p es

order_behind : (at to : ℕ) (es : List Range) → at < to → AreInOrder at es → is_apart (at, to) es ≡ true → AreInOrder to es
order_behind at to [] lt h e = tt
order_behind at to (s ∷ es) lt h e = by_side (sides (at, to) s (both _ _ e).0)
  where
    by_side : (to ≤ s.0) ⊎ (s.1 ≤ at) → AreInOrder to (s ∷ es)
    by_side (inl le) = (le, h.1, h.2)
    by_side (inr le) = absurd (omega (arith, h.0, h.1))

not_here : (p : ℕ) (x : Range) (es : List Range) → x.0 < p → end_of p (x ∷ es) ≡ end_of p es
not_here p x es lt = let f : eqb x.0 p ≡ false = ne_eqb _ _ (λ e. absurd (omega arith)) in rw f refl

longer_here : (low at to a : ℕ) (es : List Range) → AreInOrder low ((a, at) ∷ es) → is_apart (at, to) ((a, at) ∷ es) ≡ true → at < to → IsLonger low at to ((a, at) ∷ es) ((a, to) ∷ es)
longer_here low at to a es h apart lt = record {
  order = (h.0, omega (arith, h.1), order_behind at to es lt h.2 (both _ _ apart).1);
  apart = λ r byte. sym (swap (are_apart r (a, at)) (is_apart r es) (is_apart r ((at, to) ∷ [])) (are_apart r (a, to)) (touch a at to r.0 r.1 h.1 lt byte));
  ends = λ p later. not_here p (a, to) es (omega (arith, h.1)) ∙ sym (not_here p (a, at) es (omega (arith, h.1)));
}

longer_behind : (low at to : ℕ) (x : Range) (es new : List Range) → low ≤ x.0 → x.0 < x.1 → IsLonger x.1 at to es new → IsLonger low at to (x ∷ es) (x ∷ new)
longer_behind low at to x es new le lt h = record {
  order = (le, lt, h.order);
  apart = λ r byte. ap (λ b. are_apart r x && b) (h.apart r byte) ∙ assoc (are_apart r x) (is_apart r es) (is_apart r ((at, to) ∷ []));
  ends = λ p later. ap (λ n. cond (x.0 == p) (max x.1 n) n) (h.ends p later);
}

longer : (low at to a : ℕ) (es : List Range) → AreInOrder low es → last_before at es ≡ Some (a, at) → is_apart (at, to) es ≡ true → at < to → IsLonger low at to es (insert_entry nat_cmp es a to)
longer low at to a [] h last apart lt = absurd cc
longer low at to a (x ∷ es) h last apart lt = by_start (longer x.1 at to a es h.2) (cases_lt x.0 at)
  where
    New : Type 0
    New = IsLonger low at to (x ∷ es) (insert_entry nat_cmp (x ∷ es) a to)

    by_last : (last_before at es ≡ Some (a, at) → is_apart (at, to) es ≡ true → at < to → IsLonger x.1 at to es (insert_entry nat_cmp es a to)) → (o : Option Range) → last_before at es ≡ o → or_else o (Some x) ≡ Some (a, at) → New
    by_last ih None k f =
        let same : (a, at) ≡ x = cc in
        subst (λ (y : Range). IsLonger low at to (y ∷ es) (insert_entry nat_cmp (y ∷ es) a to)) same
        (let e = cmp-equal a in
        let is : insert_entry nat_cmp ((a, at) ∷ es) a to ≡ (a, to) ∷ es = rw e refl in
        subst (IsLonger low at to ((a, at) ∷ es)) (sym is) (longer_here low at to a es (subst (λ (y : Range). AreInOrder low (y ∷ es)) (sym same) h) (subst (λ (y : Range). is_apart (at, to) (y ∷ es) ≡ true) (sym same) apart) lt))
    by_last ih (Some y) k f =
        let last = k ∙ f in
        let behind = before-later at x.1 es (a, at) h.2 last in
        let e = cmp-greater a x.0 (omega (arith, behind.0, h.1)) in
        let is : insert_entry nat_cmp (x ∷ es) a to ≡ x ∷ insert_entry nat_cmp es a to = rw e refl in
        subst (IsLonger low at to (x ∷ es)) (sym is) (longer_behind low at to x es _ h.0 h.1 (ih last (both _ _ apart).1 lt))

    by_start : (last_before at es ≡ Some (a, at) → is_apart (at, to) es ≡ true → at < to → IsLonger x.1 at to es (insert_entry nat_cmp es a to)) → (x.0 < at) ⊎ (at ≤ x.0) → New
    by_start ih (inl before) = by_last ih (last_before at es) refl (sym (before-some at x es before) ∙ last)
    by_start ih (inr behind) = let none = before-none at x.0 (x ∷ es) (omega arith, h.1, h.2) behind in absurd cc

pub grows_longer : (at to a end : ℕ) (es new : List Range) → AreInOrder 0 es → Some (a, end) ≡ last_before at es → end ≡ at → is_apart (at, to) es ≡ true → at < to → new ≡ insert_entry nat_cmp es a to → AreInOrder 0 new × SameFrom to new (es ++ (at, to) ∷ [])
grows_longer at to a end es new h last ends apart lt is =
    let found : last_before at es ≡ Some (a, at) = sym last ∙ ap (λ (n : ℕ). Some (a, n)) ends in
    let l = subst (IsLonger 0 at to es) (sym is) (longer 0 at to a es h found apart lt) in (
      l.order,
      record {
        apart = λ r byte. l.apart r byte ∙ sym (is_apart-append r es ((at, to) ∷ []));
        ends = λ p later. omega (arith, l.ends p later, end_of-append p es ((at, to) ∷ []), one_end p at to lt later);
      },
    )

-- ---- two that touch, as one

record IsJoined (low at : ℕ) (es new : List Range) : Type 0 where
  order : AreInOrder low new
  apart : (r : Range) → r.0 < r.1 → is_apart r new ≡ is_apart r es
  ends : (p : ℕ) → at < p → end_of p new ≡ end_of p es

lookup-above : (k low : ℕ) (es : List Range) → AreInOrder low es → k < low → lookup (is_at (nat_cmp k)) es ≡ None
lookup-above k low [] h lt = refl
lookup-above k low (x ∷ es) h lt =
    let e = cmp-less k x.0 (omega (arith, h.0)) in
    let more = lookup-above k x.1 es h.2 (omega (arith, h.0, h.1)) in
    rw e more

lookup-next : (k : ℕ) (x : Range) (es : List Range) → x.0 < k → lookup (is_at (nat_cmp k)) (x ∷ es) ≡ lookup (is_at (nat_cmp k)) es
lookup-next k x es lt = let e = cmp-greater k x.0 lt in rw e refl

-- the last range that begins before a place is in the map
last_there : (low end : ℕ) (es : List Range) (r : Range) → AreInOrder low es → last_before end es ≡ Some r → lookup (is_at (nat_cmp r.0)) es ≡ Some r.1
last_there low end [] r h e = absurd cc
last_there low end (x ∷ es) r h e = by_start (λ k. last_there x.1 end es r h.2 k) (cases_lt x.0 end)
  where
    here : lookup (is_at (nat_cmp x.0)) (x ∷ es) ≡ Some x.1
    here = let equal = cmp-equal x.0 in rw equal refl

    by_last : (last_before end es ≡ Some r → lookup (is_at (nat_cmp r.0)) es ≡ Some r.1) → (o : Option Range) → last_before end es ≡ o → or_else o (Some x) ≡ Some r → lookup (is_at (nat_cmp r.0)) (x ∷ es) ≡ Some r.1
    by_last more None k f = let same : x ≡ r = cc in subst (λ (y : Range). lookup (is_at (nat_cmp y.0)) (x ∷ es) ≡ Some y.1) same here
    by_last more (Some y) k f = let l = before-later end x.1 es r h.2 (k ∙ f) in lookup-next r.0 x es (omega (arith, l.0, h.1)) ∙ more (k ∙ f)

    by_start : (last_before end es ≡ Some r → lookup (is_at (nat_cmp r.0)) es ≡ Some r.1) → (x.0 < end) ⊎ (end ≤ x.0) → lookup (is_at (nat_cmp r.0)) (x ∷ es) ≡ Some r.1
    by_start more (inl lt) = by_last more (last_before end es) refl (sym (before-some end x es lt) ∙ e)
    by_start more (inr le) = let none = before-none end x.0 (x ∷ es) (omega arith, h.1, h.2) le in absurd cc

pub is_there : (at a end : ℕ) (es : List Range) → AreInOrder 0 es → Some (a, end) ≡ last_before at es → lookup (is_at (nat_cmp a)) es ≡ None → ⊥
is_there at a end es h last none = let there = last_there 0 at es (a, end) h (sym last) in absurd cc

joined_here : (low at a e : ℕ) (es : List Range) → AreInOrder low ((a, at) ∷ (at, e) ∷ es) → IsJoined low at ((a, at) ∷ (at, e) ∷ es) ((a, e) ∷ es)
joined_here low at a e es h = record {
  order = (h.0, omega (arith, h.1, h.2.1), h.2.2);
  apart = λ r byte.
      let one = touch a at e r.0 r.1 h.1 h.2.1 byte in
      let both_parts = swap (are_apart r (a, at)) (is_apart r es) (is_apart r ((at, e) ∷ [])) (are_apart r (a, e)) one in
      sym both_parts ∙ turned (are_apart r (a, at)) (is_apart r es) (are_apart r (at, e));
  ends = λ p later. not_here p (a, e) es (omega (arith, h.1)) ∙ sym (not_here p (a, at) ((at, e) ∷ es) (omega (arith, h.1)) ∙ not_here p (at, e) es later);
}
  where
    turned : (a b c : Bool) → ((a && b) && (c && true)) ≡ (a && (c && b))
    turned true true true = refl
    turned true true false = refl
    turned true false true = refl
    turned true false false = refl
    turned false b c = refl

joined_behind : (low at : ℕ) (x : Range) (es new : List Range) → low ≤ x.0 → x.0 < x.1 → IsJoined x.1 at es new → IsJoined low at (x ∷ es) (x ∷ new)
joined_behind low at x es new le lt h = record {
  order = (le, lt, h.order);
  apart = λ r byte. ap (λ b. are_apart r x && b) (h.apart r byte);
  ends = λ p later. ap (λ n. cond (x.0 == p) (max x.1 n) n) (h.ends p later);
}

abbrev joining : ℕ → ℕ → ℕ → List Range → List Range
joining at a e es = remove_entry (is_at (nat_cmp at)) (insert_entry nat_cmp es a e)

joins_next : (low at a e : ℕ) (es : List Range) → AreInOrder low ((a, at) ∷ es) → lookup (is_at (nat_cmp at)) es ≡ Some e → IsJoined low at ((a, at) ∷ es) (joining at a e ((a, at) ∷ es))
joins_next low at a e [] h found = absurd cc
joins_next low at a e (s ∷ es) h found = by_place (cases_lt at s.0)
  where
    by_place : (at < s.0) ⊎ (s.0 ≤ at) → IsJoined low at ((a, at) ∷ s ∷ es) (joining at a e ((a, at) ∷ s ∷ es))
    by_place (inl above) = let none = lookup-above at s.0 (s ∷ es) (omega arith, h.2.1, h.2.2) above in absurd cc
    by_place (inr le) =
        let here : at ≡ s.0 = omega (arith, h.2.0) in
        let equal : nat_cmp at s.0 ≡ Equal = subst (λ (q : ℕ). nat_cmp at q ≡ Equal) here (cmp-equal at) in
        let value : lookup (is_at (nat_cmp at)) (s ∷ es) ≡ Some s.1 = rw equal refl in
        let end : e ≡ s.1 = some_of (sym found ∙ value) in
        let c1 = cmp-equal a in
        let c2 = cmp-greater at a h.1 in
        let is : joining at a e ((a, at) ∷ s ∷ es) ≡ (a, e) ∷ es = rw (c1, c2, equal) refl in
        let same : (at, e) ≡ s = pair here end in
        subst (IsJoined low at ((a, at) ∷ s ∷ es)) (sym is) (subst (λ (y : Range). IsJoined low at ((a, at) ∷ y ∷ es) ((a, e) ∷ es)) same (joined_here low at a e es (subst (λ (y : Range). AreInOrder low ((a, at) ∷ y ∷ es)) (sym same) h)))
      where
        some_of : {m n : ℕ} → Some m ≡ Some n → m ≡ n
        some_of e = cc

        pair : {m n : ℕ} → m ≡ s.0 → n ≡ s.1 → ◌≡◌ {A = ℕ × ℕ} (m, n) s
        pair {n = n} e f = ap (λ (k : ℕ). (k, n)) e ∙ ap (λ (k : ℕ). (s.0, k)) f

joins : (low at a e : ℕ) (es : List Range) → AreInOrder low es → last_before at es ≡ Some (a, at) → lookup (is_at (nat_cmp at)) es ≡ Some e → IsJoined low at es (joining at a e es)
joins low at a e [] h last found = absurd cc
joins low at a e (x ∷ es) h last found = by_start (joins x.1 at a e es h.2) (cases_lt x.0 at)
  where
    New : Type 0
    New = IsJoined low at (x ∷ es) (joining at a e (x ∷ es))

    by_last : (last_before at es ≡ Some (a, at) → lookup (is_at (nat_cmp at)) es ≡ Some e → IsJoined x.1 at es (joining at a e es)) → lookup (is_at (nat_cmp at)) es ≡ Some e → x.0 < at → (o : Option Range) → last_before at es ≡ o → or_else o (Some x) ≡ Some (a, at) → New
    by_last ih more before None k f =
        let same : (a, at) ≡ x = cc in
        subst (λ (y : Range). IsJoined low at (y ∷ es) (joining at a e (y ∷ es))) same (joins_next low at a e es (subst (λ (y : Range). AreInOrder low (y ∷ es)) (sym same) h) more)
    by_last ih more before (Some y) k f =
        let last = k ∙ f in
        let behind = before-later at x.1 es (a, at) h.2 last in
        let c1 = cmp-greater a x.0 (omega (arith, behind.0, h.1)) in
        let c2 = cmp-greater at x.0 before in
        let is : joining at a e (x ∷ es) ≡ x ∷ joining at a e es = rw (c1, c2) refl in
        subst (IsJoined low at (x ∷ es)) (sym is) (joined_behind low at x es _ h.0 h.1 (ih last more))

    by_start : (last_before at es ≡ Some (a, at) → lookup (is_at (nat_cmp at)) es ≡ Some e → IsJoined x.1 at es (joining at a e es)) → (x.0 < at) ⊎ (at ≤ x.0) → New
    by_start ih (inl before) = by_last ih (sym (lookup-next at x es before) ∙ found) before (last_before at es) refl (sym (before-some at x es before) ∙ last)
    by_start ih (inr behind) = let none = before-none at x.0 (x ∷ es) (omega arith, h.1, h.2) behind in absurd cc

pub joins_both : (at a end e : ℕ) (es mid new : List Range) → AreInOrder 0 es → Some (a, end) ≡ last_before at es → end ≡ at → lookup (is_at (nat_cmp at)) es ≡ Some e → mid ≡ insert_entry nat_cmp es a e → new ≡ remove_entry (is_at (nat_cmp at)) mid → AreInOrder 0 new × ((place : ℕ) → at < place → SameFrom place new es)
joins_both at a end e es mid new h last ends found put is =
    let before : last_before at es ≡ Some (a, at) = sym last ∙ ap (λ (n : ℕ). Some (a, n)) ends in
    let j = subst (IsJoined 0 at es) (sym (is ∙ ap (remove_entry (is_at (nat_cmp at))) put)) (joins 0 at a e es h before found) in
    (j.order, λ place later. record { apart = j.apart; ends = λ p on. j.ends p (omega arith) })

-- ---- one that is taken out

record IsOut (low : ℕ) (r : Range) (es new : List Range) : Type 0 where
  some : r.0 < r.1
  order : AreInOrder low new
  apart : (s : Range) → is_apart s es ≡ (are_apart s r && is_apart s new)
  ends : (p : ℕ) → end_of p es ≡ max (end_of p (r ∷ [])) (end_of p new)

out_first : (low k e : ℕ) (es : List Range) → AreInOrder low ((k, e) ∷ es) → IsOut low (k, e) ((k, e) ∷ es) es
out_first low k e es h = record {
  some = h.1;
  order = lower low e es (omega (arith, h.0, h.1)) h.2;
  apart = λ s. refl;
  ends = λ p. by_test p (k == p);
}
  where
    by_test : (p : ℕ) (b : Bool) → cond b (max e (end_of p es)) (end_of p es) ≡ max (cond b (max e 0) 0) (end_of p es)
    by_test p true = omega arith
    by_test p false = omega arith

out_behind : (low : ℕ) (r x : Range) (es new : List Range) → low ≤ x.0 → x.0 < x.1 → IsOut x.1 r es new → IsOut low r (x ∷ es) (x ∷ new)
out_behind low r x es new le lt h = record {
  some = h.some;
  order = (le, lt, h.order);
  apart = λ s. ap (λ b. are_apart s x && b) (h.apart s) ∙ swapped (are_apart s x) (are_apart s r) (is_apart s new);
  ends = λ p. by_test p (x.0 == p) (end_of p es) (h.ends p);
}
  where
    swapped : (a b c : Bool) → (a && (b && c)) ≡ (b && (a && c))
    swapped true b c = refl
    swapped false true c = refl
    swapped false false c = refl

    by_test : (p : ℕ) (b : Bool) (e : ℕ) → e ≡ max (end_of p (r ∷ [])) (end_of p new) → cond b (max x.1 e) e ≡ max (end_of p (r ∷ [])) (cond b (max x.1 (end_of p new)) (end_of p new))
    by_test p true e h = omega arith
    by_test p false e h = h

out : (low k e : ℕ) (es : List Range) → AreInOrder low es → lookup (is_at (nat_cmp k)) es ≡ Some e → IsOut low (k, e) es (remove_entry (is_at (nat_cmp k)) es)
out low k e [] h found = absurd cc
out low k e (x ∷ es) h found = by_place (out x.1 k e es h.2) (cases_lt x.0 k)
  where
    New : Type 0
    New = IsOut low (k, e) (x ∷ es) (remove_entry (is_at (nat_cmp k)) (x ∷ es))

    here : (k < x.0) ⊎ (x.0 ≤ k) → k ≤ x.0 → New
    here (inl above) le = let none = lookup-above k x.0 (x ∷ es) (omega arith, h.1, h.2) above in absurd cc
    here (inr under) le =
        let is : k ≡ x.0 = omega arith in
        let equal : nat_cmp k x.0 ≡ Equal = subst (λ (q : ℕ). nat_cmp k q ≡ Equal) is (cmp-equal k) in
        let value : lookup (is_at (nat_cmp k)) (x ∷ es) ≡ Some x.1 = rw equal refl in
        let end : e ≡ x.1 = some_of (sym found ∙ value) in
        let left : remove_entry (is_at (nat_cmp k)) (x ∷ es) ≡ es = rw equal refl in
        let same : (k, e) ≡ x = pair is end in
        subst (IsOut low (k, e) (x ∷ es)) (sym left) (subst (λ (y : Range). IsOut low (k, e) (y ∷ es) es) same (out_first low k e es (subst (λ (y : Range). AreInOrder low (y ∷ es)) (sym same) h)))
      where
        some_of : {m n : ℕ} → Some m ≡ Some n → m ≡ n
        some_of e = cc

        pair : {m n : ℕ} → m ≡ x.0 → n ≡ x.1 → ◌≡◌ {A = ℕ × ℕ} (m, n) x
        pair {n = n} e f = ap (λ (k : ℕ). (k, n)) e ∙ ap (λ (k : ℕ). (x.0, k)) f

    by_place : (lookup (is_at (nat_cmp k)) es ≡ Some e → IsOut x.1 (k, e) es (remove_entry (is_at (nat_cmp k)) es)) → (x.0 < k) ⊎ (k ≤ x.0) → New
    by_place ih (inl before) =
        let c = cmp-greater k x.0 before in
        let left : remove_entry (is_at (nat_cmp k)) (x ∷ es) ≡ x ∷ remove_entry (is_at (nat_cmp k)) es = rw c refl in
        subst (IsOut low (k, e) (x ∷ es)) (sym left) (out_behind low (k, e) x es _ h.0 h.1 (ih (sym (lookup-next k x es before) ∙ found)))
    by_place ih (inr le) = here (cases_lt k x.0) le

-- the range from the start takes up the one that begins where it ends
pub takes_up : (place end to : ℕ) (es new : List Range) → AreInOrder 0 es → lookup (is_at (nat_cmp end)) es ≡ Some to → end < place → new ≡ remove_entry (is_at (nat_cmp end)) es → (end < to) × AreInOrder 0 new × SameFrom place (joined to ++ new) (joined end ++ es)
takes_up place end to es new h found lt is =
    let o = subst (IsOut 0 (end, to) es) (sym is) (out 0 end to es h found) in (
      o.some,
      o.order,
      record {
        apart = λ r byte.
            let one = ap (λ b. b && is_apart r ((end, to) ∷ [])) (front_apart end r.0 r.1 byte) ∙ grows r.0 r.1 end to byte o.some ∙ sym (front_apart to r.0 r.1 byte) in
            let old = is_apart-append r (joined end) es ∙ ap (λ b. is_apart r (joined end) && b) (o.apart r) in
            is_apart-append r (joined to) new ∙ sym (old ∙ regroup (is_apart r (joined end)) (are_apart r (end, to)) (is_apart r new) (is_apart r (joined to)) one);
        ends = λ p later. omega (arith, end_of-append p (joined to) new, end_of-append p (joined end) es, front_end to p (omega arith), front_end end p (omega arith), o.ends p, not_here p (end, to) [] (omega arith));
      },
    )
  where
    regroup : (a b c d : Bool) → (a && (b && true)) ≡ d → (a && (b && c)) ≡ (d && c)
    regroup true true c d e = ap (λ t. t && c) e
    regroup true false c d e = ap (λ t. t && c) e
    regroup false b c d e = ap (λ t. t && c) e

pub no_start : (es : List Range) → None ≡ lookup (is_at (nat_cmp 0)) es → end_of 0 es ≡ 0
no_start [] none = refl
no_start (x ∷ es) none = by_place (no_start es) (cases_lt 0 x.0)
  where
    by_place : (None ≡ lookup (is_at (nat_cmp 0)) es → end_of 0 es ≡ 0) → (0 < x.0) ⊎ (x.0 ≤ 0) → end_of 0 (x ∷ es) ≡ 0
    by_place ih (inl above) =
        let c = cmp-less 0 x.0 above in
        let f : eqb x.0 0 ≡ false = ne_eqb _ _ (λ e. absurd (omega arith)) in
        let next : lookup (is_at (nat_cmp 0)) (x ∷ es) ≡ lookup (is_at (nat_cmp 0)) es = rw c refl in
        rw f (ih (none ∙ next))
    by_place ih (inr under) =
        let is : 0 ≡ x.0 = omega arith in
        let equal : nat_cmp 0 x.0 ≡ Equal = subst (λ (q : ℕ). nat_cmp 0 q ≡ Equal) is (cmp-equal 0) in
        let value : lookup (is_at (nat_cmp 0)) (x ∷ es) ≡ Some x.1 = rw equal refl in
        absurd (let no : None ≡ Some x.1 = none ∙ value in cc)

-- ---- a row

turn : (u b : List Range) (r : Range) → SameUsed ((u ++ b) ++ r ∷ []) (u ++ r ∷ b)
turn u b r = record {
  apart = λ s. is_apart-append s (u ++ b) (r ∷ []) ∙ ap (λ t. t && is_apart s (r ∷ [])) (is_apart-append s u b) ∙ turned (is_apart s u) (is_apart s b) (are_apart s r) ∙ sym (is_apart-append s u (r ∷ b));
  ends = λ p. omega (arith, end_of-append p (u ++ b) (r ∷ []), end_of-append p u b, end_of-append p u (r ∷ b), end_of-append p (r ∷ []) b);
}
  where
    turned : (a b c : Bool) → ((a && b) && (c && true)) ≡ (a && (c && b))
    turned true true true = refl
    turned true true false = refl
    turned true false true = refl
    turned true false false = refl
    turned false b c = refl

pub row_added : (to : ℕ) (r : Range) (old mid new more : List Range) → SameUsed mid (old ++ more) → SameFrom to new (mid ++ r ∷ []) → SameFrom to new (old ++ r ∷ more)
row_added to r old mid new more same grown = from_then to new (mid ++ r ∷ []) _ grown (from_same to _ _ (same_after _ ((old ++ more) ++ r ∷ []) _ (same_append mid (old ++ more) (r ∷ []) same) (turn old more r)))

pub row_put : (at to : ℕ) (old mid new more : List Range) → AreInOrder 0 mid → is_apart (at, to) mid ≡ true → at < to → SameUsed mid (old ++ more) → new ≡ insert_entry nat_cmp mid at to → AreInOrder 0 new × SameFrom to new (old ++ (at, to) ∷ more)
row_put at to old mid new more h apart lt same is =
    let p = subst (IsPut 0 mid (at, to)) (sym is) (is_put 0 mid (at, to) h apart (omega arith) lt) in
    (p.order, row_added to (at, to) old mid new more same (from_same to _ _ (same_put 0 mid (at, to) new p)))

-- ---- what the range from the start and the others say together

pub blocks_added : (front up : ℕ) (others mid new : List Range) (b : ℕ × ℕ) (bs : List (ℕ × ℕ)) (to : ℕ) → to ≡ b.0 + b.1 → (front ≡ 0 → end_of 0 others ≡ 0) → (end : ℕ) → SameFrom to (joined end ++ mid) ((joined front ++ others) ++ (b.0, to) ∷ ranges_at bs) → (b.0 ≡ front → others ≡ [] → bs ≡ [] → (end ≡ to) × (mid ≡ [])) → SameFrom to (joined up ++ new) (joined end ++ mid) → (mid ≡ [] → (up ≡ end) × (new ≡ [])) → AddsBlocks (joined front ++ others) (b ∷ bs) (joined up ++ new)
blocks_added front up others mid new b bs to is start end added plain upped none = (
  subst (λ n. SameFrom n (joined up ++ new) ((joined front ++ others) ++ (b.0, n) ∷ ranges_at bs)) is (from_then to _ _ _ upped added),
  λ old alone.
      let was = front_is front b.0 others start old in
      let one = plain (sym was.0) was.1 alone in
      let all = none one.1 in
      ap (λ es. joined up ++ es) all.1 ∙ append-nil (joined up) ∙ ap joined (all.0 ∙ one.0 ∙ is),
)

pub blocks_need : (front : ℕ) (others : List Range) (b : ℕ × ℕ) (bs : List (ℕ × ℕ)) → (front ≡ 0 → end_of 0 others ≡ 0) → (b.0 ≡ front → bs ≡ [] → ⊥) → NeedsMemory (joined front ++ others) (b ∷ bs)
blocks_need front others b bs start needs old none = needs (sym (front_is front b.0 others start old).0) none
