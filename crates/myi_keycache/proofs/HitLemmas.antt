-- The order of the pages after an access.
use Rattle.std.proofs.Common.{◌≡◌, ℕ, zero, suc, ◌+◌, ◌-◌, ◌*◌, ◌≤◌, ◌<◌, Bool, true, false, cond, List, [], ◌∷◌, ◌++◌, length, take, drop, insert, slice_get, position, Option, None, Some, refl, sym, ap, subst, ◌∙◌, inl, inr}
use Rattle.std.specs.Prelude.{◌||◌, ◌&&◌, not, nat_lt, nat_le, is_some, IsSome, if◌then◌else◌}
use Rattle.std.specs.List.{position_or_len}
use Rattle.std.proofs.lemmas.Bool.{cases_lt, le-leb, and_parts, eqb-true}
use Rattle.std.proofs.lemmas.List.{map-append, take-append-drop, append-nil}
use Rattle.std.proofs.lemmas.List.Quantifiers.{position-Some}
use Rattle.myi_keycache.specs.declared.setup.CacheSetup.{CacheSetup}
use Rattle.myi_keycache.specs.Kept.{Page, KeptPage}
use Rattle.myi_keycache.specs.Counts.{raised}
use Rattle.myi_keycache.specs.Midpoint.{Lists, asked, aged, midpoint}
use Rattle.myi_keycache.specs.Order.{Order, Split, with_page, as_written, hit_page, goes_hot, no_page, contents_of, lists_in, has_name, Alike}
use Rattle.myi_keycache.proofs.StaysLemmas.{moved}
use Rattle.myi_keycache.proofs.OrderLemmas.{split, same_length}
use Rattle.myi_keycache.proofs.MidpointLemmas.{named, hit_to_hot, hit_to_warm}

-- what is said of the order after a hit, before the age is looked at
pub record Asked (o new : Order) (at len : ℕ) : Type 0 where
  pub lists : lists_in new ≡ asked o.setup at len (record (lists_in o) { accesses = raised 1 o.accesses })
  pub setup : new.setup ≡ o.setup
  pub alike : Alike (contents_of o.pages) (contents_of new.pages)

pub contents_at : (pages : List KeptPage) (i : ℕ) (p : KeptPage) → slice_get pages i ≡ Some p → slice_get (contents_of pages) i ≡ Some p.page
contents_at [] i p at = absurd cc
contents_at (x ∷ pages) zero p at = ap (λ (o : Option KeptPage). slice_page o) at
  where
    slice_page : Option KeptPage → Option Page
    slice_page None = None
    slice_page (Some q) = Some q.page
contents_at (x ∷ pages) (suc i) p at = contents_at pages i p at

pub asked_aged : (setup : CacheSetup) (at len : ℕ) (a : Lists) → aged setup (asked setup at len (record a { accesses = raised 1 a.accesses })) ≡ midpoint setup a at len
unfolding midpoint
asked_aged setup at len a = refl

pub hit_hot : (o o1 o2 : Order) (index at len : ℕ) → position (has_name at len) o.pages ≡ Some index → index < length o.pages → o.warm ≤ length o.pages
    → ((s : Split o.pages index) → o1 ≡ record o { accesses = raised 1 o.accesses; pages = with_page s (hit_page o index s.page) })
    → ((s : Split o.pages index) → true ≡ goes_hot o index s.page)
    → ((s : Split o1.pages index) → o2 ≡ record o1 { pages = (s.front ++ s.back) ++ s.page ∷ []; warm = if nat_lt index o1.warm then o1.warm - 1 else o1.warm })
    → Asked o o2 at len
hit_hot o o1 o2 index at len e lt le one hot two =
    let s = split o.pages index lt in
    let p1 : KeptPage = hit_page o index s.page in
    let q : Order = record o { accesses = raised 1 o.accesses; pages = (s.front ++ s.back) ++ p1 ∷ []; warm = if nat_lt index o.warm then o.warm - 1 else o.warm } in
    let is : o2 ≡ q =
    subst (λ (m : Order). ((s : Split m.pages index) → o2 ≡ record m { pages = (s.front ++ s.back) ++ s.page ∷ []; warm = if nat_lt index m.warm then m.warm - 1 else m.warm }) → o2 ≡ q) (sym (one s))
    (λ f. f (record { front = s.front; page = p1; back = s.back; is = refl; long = s.long })) two in
    subst (λ (m : Order). Asked o m at len) (sym is) (record {
      lists = sym (hit_to_hot o.setup o.pages o.warm o.accesses index s at len (named at len o.pages index s e) le (sym (hot s)));
      setup = refl;
      alike = alike_end s p1 refl;
    })
  where
    alike_end : (s : Split o.pages index) (p : KeptPage) → p.page ≡ s.page.page → Alike (contents_of o.pages) (contents_of ((s.front ++ s.back) ++ p ∷ []))
    alike_end s p same =
        let was : contents_of o.pages ≡ contents_of s.front ++ s.page.page ∷ contents_of s.back = ap contents_of s.is ∙ map-append _ s.front (s.page ∷ s.back) in
        let now : contents_of ((s.front ++ s.back) ++ p ∷ []) ≡ contents_of (s.front ++ s.back) ++ s.page.page ∷ [] = map-append _ (s.front ++ s.back) (p ∷ []) ∙ ap (λ (x : Page). contents_of (s.front ++ s.back) ++ x ∷ []) same in
        let rest : contents_of s.front ++ contents_of s.back ≡ contents_of (s.front ++ s.back) ++ [] = sym (map-append _ s.front s.back) ∙ sym (append-nil (contents_of (s.front ++ s.back))) in
        subst (λ l. Alike l (contents_of ((s.front ++ s.back) ++ p ∷ []))) (sym was) (subst (λ l. Alike (contents_of s.front ++ s.page.page ∷ contents_of s.back) l) (sym now) (moved (contents_of s.front) s.page.page (contents_of s.back) (contents_of (s.front ++ s.back)) [] rest))

-- a page that does not go to the hot end is warm
pub is_warm : (o : Order) (index : ℕ) (p : KeptPage) → goes_hot o index p ≡ false → index < o.warm
is_warm o index p cold = elim (cases_lt index o.warm) [
  | inl lt ↦ lt
  | inr ge ↦ let both : true ≡ false = ap (λ (t : Bool). t || (nat_le 3 (raised 1 p.hits) && nat_le (o.setup.division * o.setup.blocks) ((o.warm - 1) * 100))) (sym (le-leb o.warm index ge)) ∙ cold in absurd cc
]

pub hit_warm : (o o1 o2 : Order) (index at len : ℕ) → position (has_name at len) o.pages ≡ Some index → index < length o.pages → o.warm ≤ length o.pages
    → ((s : Split o.pages index) → o1 ≡ record o { accesses = raised 1 o.accesses; pages = with_page s (hit_page o index s.page) })
    → ((s : Split o.pages index) → false ≡ goes_hot o index s.page)
    → ((s : Split o1.pages index) → o2 ≡ record o1 { pages = insert (s.front ++ s.back) (o1.warm - 1) s.page })
    → Asked o o2 at len
hit_warm o o1 o2 index at len e lt le one cold two =
    let s = split o.pages index lt in
    let p1 : KeptPage = hit_page o index s.page in
    let q : Order = record o { accesses = raised 1 o.accesses; pages = insert (s.front ++ s.back) (o.warm - 1) p1 } in
    let is : o2 ≡ q =
    subst (λ (m : Order). ((s : Split m.pages index) → o2 ≡ record m { pages = insert (s.front ++ s.back) (m.warm - 1) s.page }) → o2 ≡ q) (sym (one s))
    (λ f. f (record { front = s.front; page = p1; back = s.back; is = refl; long = s.long })) two in
    subst (λ (m : Order). Asked o m at len) (sym is) (record {
      lists = sym (hit_to_warm o.setup o.pages o.warm o.accesses index s at len (named at len o.pages index s e) le (sym (cold s)));
      setup = refl;
      alike = alike_at s p1 refl;
    })
  where
    alike_at : (s : Split o.pages index) (p : KeptPage) → p.page ≡ s.page.page → Alike (contents_of o.pages) (contents_of (insert (s.front ++ s.back) (o.warm - 1) p))
    alike_at s p same =
        let all : List KeptPage = s.front ++ s.back in
        let was : contents_of o.pages ≡ contents_of s.front ++ s.page.page ∷ contents_of s.back = ap contents_of s.is ∙ map-append _ s.front (s.page ∷ s.back) in
        let now : contents_of (insert all (o.warm - 1) p) ≡ contents_of (take (o.warm - 1) all) ++ s.page.page ∷ contents_of (drop (o.warm - 1) all) =
        map-append _ (take (o.warm - 1) all) (p ∷ drop (o.warm - 1) all) ∙ ap (λ (x : Page). contents_of (take (o.warm - 1) all) ++ x ∷ contents_of (drop (o.warm - 1) all)) same in
        let rest : contents_of s.front ++ contents_of s.back ≡ contents_of (take (o.warm - 1) all) ++ contents_of (drop (o.warm - 1) all) =
        sym (map-append _ s.front s.back) ∙ ap contents_of (sym (take-append-drop (o.warm - 1) all)) ∙ map-append _ (take (o.warm - 1) all) (drop (o.warm - 1) all) in
        subst (λ l. Alike l (contents_of (insert all (o.warm - 1) p))) (sym was) (subst (λ l. Alike (contents_of s.front ++ s.page.page ∷ contents_of s.back) l) (sym now)
        (moved (contents_of s.front) s.page.page (contents_of s.back) (contents_of (take (o.warm - 1) all)) (contents_of (drop (o.warm - 1) all)) rest))

-- ---- the name of a page

pub some_index : (o : Option ℕ) → IsSome o → (i : ℕ) × (o ≡ Some i)
some_index None some = absurd cc
some_index (Some i) some = (i, refl)

pub index_within : (at len : ℕ) (pages : List KeptPage) (i : ℕ) → position (has_name at len) pages ≡ Some i → i < length pages
index_within at len pages i e = (position-Some (has_name at len) pages i no_page e).0

-- a page that is counted stays where it was, under its name
pub counted_place : (o o1 : Order) (index at len : ℕ) → position (has_name at len) o.pages ≡ Some index → ((s : Split o.pages index) → o1 ≡ record o { accesses = raised 1 o.accesses; pages = with_page s (hit_page o index s.page) })
    → position (has_name at len) o1.pages ≡ Some index
counted_place o o1 index at len e one =
    let s = split o.pages index (index_within at len o.pages index e) in
    let same : position_or_len (has_name at len) (with_page s (hit_page o index s.page)) ≡ position_or_len (has_name at len) (s.front ++ s.page ∷ s.back) = tests_same (has_name at len) s.front s.page (hit_page o index s.page) s.back refl in
    let long : length (with_page s (hit_page o index s.page)) ≡ length (s.front ++ s.page ∷ s.back) = same_length o.pages index s (hit_page o index s.page) ∙ ap length s.is in
    ap (λ (m : Order). position (has_name at len) m.pages) (one s)
    ∙ (λ j. cond (nat_lt (same j) (long j)) (Some (same j)) None)
    ∙ sym (ap (position (has_name at len)) s.is) ∙ e
  where
    tests_same : (test : KeptPage → Bool) (front : List KeptPage) (x y : KeptPage) (back : List KeptPage) → test y ≡ test x → position_or_len test (front ++ y ∷ back) ≡ position_or_len test (front ++ x ∷ back)
    tests_same test [] x y back same = ap (λ (b : Bool). cond (not b) (1 + position_or_len test back) 0) same
    tests_same test (f ∷ front) x y back same = ap (λ (n : ℕ). cond (not (test f)) (1 + n) 0) (tests_same test front x y back same)

pub place_at : (at len : ℕ) (pages : List KeptPage) (i : ℕ) (s : Split pages i) → position (has_name at len) pages ≡ Some i → at ≡ s.page.page.at
place_at at len pages i s e =
    let n = named at len pages i s e in
    let p = and_parts _ _ n.here in
    sym (eqb-true _ _ p.0)

pub none_of : (o : Option ℕ) → is_some o ≡ false → o ≡ None
none_of None off = refl
none_of (Some i) off = absurd cc

-- a page that the file has stays as it is where it counts as written
pub written_same : (o : Order) (i : ℕ) (s : Split o.pages i) → s.page.page.unwritten ≡ false → o ≡ record o { pages = with_page s (as_written s.page) }
written_same o i s u = (λ j. record o { pages = (s.is ∙ ap (λ (b : Bool). s.front ++ record s.page { page = record s.page.page { unwritten = b } } ∷ s.back) u) j })
