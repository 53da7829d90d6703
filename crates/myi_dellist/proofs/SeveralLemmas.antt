-- Several releases, one after another: what they find where the list is seen whole, and what stands in a file then.
use Rattle.std.proofs.Common.{◌≡◌, ℕ, zero, suc, ◌+◌, ◌≤◌, inl, inr, Bool, true, false, List, [], ◌∷◌, ◌++◌, length, take, drop, Option, Some, None, Ok, refl, sym, ap, subst, ◌∙◌, arith}
use Rattle.std.specs.Prelude.{◌==◌, nat_le, if◌then◌else◌}
use Rattle.std.specs.List.{AllByRecursion, flat_map}
use Rattle.std.proofs.lemmas.Bool.{eqb-true}
use Rattle.myi_frames.specs.declared.head.Head.{Head}
use Rattle.myi_dellist.specs.declared.linked.Linked.{Linked}
use Rattle.myi_dellist.specs.declared.linked.ReleasePlan.{ReleasePlan}
use Rattle.myi_dellist.specs.Areas.{Area, IsApart, AreApart, AreInside}
use Rattle.myi_dellist.specs.Releasing.{most_size, hole_at, without, joined, release_one, front_part, back_part, release, release_all, IsHole}
use Rattle.myi_dellist.specs.Standing.{first_or, HasList, KeepsBut, release_one_bytes}
use Rattle.myi_dellist.specs.Freeing.{hole_in, place_at, plan_bytes, before_bytes, behind_bytes, unlinked_bytes, put_first_bytes, joined_size, first_head}
use Rattle.myi_dellist.specs.Rows.{KeepsApart}
use Rattle.myi_dellist.specs.Heads.{over}
use Rattle.myi_dellist.specs.Several.{hide, before_heads, behind_heads, joined_heads, first_heads, plan_heads, with_heads, heads_by, next_of, heads_in, heads_written, added_by, added_in, release_ones, release_ones_bytes, parts_of, AreClear, MayReleaseAll}
use Rattle.myi_dellist.proofs.AreaLemmas.{below-append, once-apart}
use Rattle.myi_dellist.proofs.ReleaseLemmas.{below-release_one, holes-release_one}
use Rattle.myi_dellist.proofs.LinkLemmas.{all_split, all_join, apart_split}
use Rattle.myi_dellist.proofs.FirstLemmas.{hole_bytes}
use Rattle.myi_dellist.proofs.StandLemmas.{apart-once}
use Rattle.myi_dellist.proofs.ReleasedLemmas.{release-one-stands, back_head, far_of, apart_after}
use Rattle.myi_dellist.proofs.FreeLemmas.{first_one}
use Rattle.myi_dellist.proofs.SeenLemmas.{AreSeen, SeesList, list_seen, AreElse, else_of, over-skips}
use Rattle.myi_dellist.specs.Planning.{alone_by}
use Rattle.myi_dellist.proofs.PlanLemmas.{Plans, seen-plans}

-- ---- the headers of a plan are the bytes that it writes

written-append : (xs ys : List Head) (d : List ℕ) → heads_written (xs ++ ys) d ≡ heads_written ys (heads_written xs d)
written-append [] ys d = refl
written-append (x ∷ xs) ys d = written-append xs ys _

before_written : (hole : Head) (b : Option Head) (d : List ℕ) → heads_written (before_heads hole b) d ≡ before_bytes hole b d
before_written hole None d = refl
before_written hole (Some b) d = refl

behind_written : (hole : Head) (b : Option Head) (d : List ℕ) → heads_written (behind_heads hole b) d ≡ behind_bytes hole b d
behind_written hole None d = refl
behind_written hole (Some b) d = refl

joined_written : (j : Option Linked) (d : List ℕ) → heads_written (joined_heads j) d ≡ unlinked_bytes j d
joined_written None d = refl
joined_written (Some l) d =
    written-append (before_heads l.hole l.before) (behind_heads l.hole l.behind) d
    ∙ behind_written l.hole l.behind (heads_written (before_heads l.hole l.before) d)
    ∙ ap (behind_bytes l.hole l.behind) (before_written l.hole l.before d)

first_written : (a : Area) (f : Option Head) (d : List ℕ) → heads_written (first_head a (place_at f) ∷ first_heads a.at f) d ≡ put_first_bytes a f d
first_written a None d = refl
first_written a (Some f) d = refl

pub plan-written : (a : Area) (p : ReleasePlan) (d : List ℕ) → heads_written (plan_heads a p) d ≡ plan_bytes p a.at a.size d
plan-written a p d =
    let whole : Area = record { at = a.at; size = joined_size a.size p.joined } in
    written-append (joined_heads p.joined) (first_head whole (place_at p.first) ∷ first_heads a.at p.first) d
    ∙ first_written whole p.first (heads_written (joined_heads p.joined) d)
    ∙ ap (put_first_bytes whole p.first) (joined_written p.joined d)

-- ---- what a release leaves apart

released_apart : (a : Area) (areas holes : List Area) → IsHole a → AllByRecursion IsHole areas → AllByRecursion IsHole holes → AreApart (a ∷ areas ++ holes) → AreApart (areas ++ release_one a holes)
released_apart a areas holes h sizes hs apart =
    once-apart (areas ++ release_one a holes) (hole_bytes (areas ++ release_one a holes) (all_join IsHole areas (release_one a holes) sizes (holes-release_one a holes h hs)))
    (λ n. omega (arith, apart-once (a ∷ areas ++ holes) apart n, below-append n areas (release_one a holes), below-append (n + 1) areas (release_one a holes), below-append n areas holes, below-append (n + 1) areas holes, below-release_one n a holes, below-release_one (n + 1) a holes))

-- a place where no block is deleted then had none before, but for the end of the area
without_none : (p q : ℕ) (xs : List Area) → (p == q) ≡ false → hole_at q (without p xs) ≡ None → hole_at q xs ≡ None
without_none p q [] n e = refl
without_none p q (x ∷ xs) n e = by_test (x.at == p) refl e (without_none p q xs n)
  where
    other : x.at ≡ p → (x.at == q) ≡ false
    other at = ap (λ (r : ℕ). r == q) at ∙ n

    by_test : (b : Bool) → (x.at == p) ≡ b → hole_at q (if b then xs else x ∷ without p xs) ≡ None → (hole_at q (without p xs) ≡ None → hole_at q xs ≡ None) → (if x.at == q then Some x else hole_at q xs) ≡ None
    by_test true t e ih = ap (λ (c : Bool). if c then Some x else hole_at q xs) (other (eqb-true _ _ t)) ∙ e
    by_test false t e ih = by_place (x.at == q) e ih
      where
        by_place : (c : Bool) → (if c then Some x else hole_at q (without p xs)) ≡ None → (hole_at q (without p xs) ≡ None → hole_at q xs ≡ None) → (if c then Some x else hole_at q xs) ≡ None
        by_place true e ih = absurd cc
        by_place false e ih = ih e

rest_none : (q : ℕ) (x : Area) (xs : List Area) → hole_at q (x ∷ xs) ≡ None → hole_at q xs ≡ None
rest_none q x xs e = by_test (x.at == q) e
  where
    by_test : (b : Bool) → (if b then Some x else hole_at q xs) ≡ None → hole_at q xs ≡ None
    by_test true e = absurd cc
    by_test false e = e

none_joined : (a : Area) (holes : List Area) (q : ℕ) (o : Option Area) → hole_at (a.at + a.size) holes ≡ o → (a.at + a.size == q) ≡ false → hole_at q (joined a holes o) ≡ None → hole_at q holes ≡ None
none_joined a holes q None f n e = rest_none q a holes e
none_joined a holes q (Some h) f n e = by_test (nat_le (a.size + h.size) most_size) e
  where
    at : h.at ≡ a.at + a.size
    at = (Rattle.myi_dellist.proofs.ReleaseLemmas.taken_out 0 (a.at + a.size) holes h f).0

    by_test : (b : Bool) → hole_at q (if b then record { at = a.at; size = a.size + h.size } ∷ without h.at holes else a ∷ holes) ≡ None → hole_at q holes ≡ None
    by_test true e = without_none h.at q holes (ap (λ (p : ℕ). p == q) at ∙ n) (rest_none q (record { at = a.at; size = a.size + h.size }) (without h.at holes) e)
    by_test false e = rest_none q a holes e

-- ---- what is seen behind the areas

hide_same : (o : Option ℕ) (s t : ℕ → Option Head) (p : ℕ) → t p ≡ s p → hide o t p ≡ hide o s p
hide_same None s t p e = e
hide_same (Some q) s t p e = ap (λ (v : Option Head). if q == p then None else v) e

ends_differ : (a b : Area) → IsHole a → IsHole b → IsApart a b → (a.at + a.size == b.at + b.size) ≡ false
ends_differ a b h k far = by_test (a.at + a.size == b.at + b.size) refl
  where
    by_side : IsApart a b → a.at + a.size ≡ b.at + b.size → ⊥
    by_side (inl le) e = omega (arith, k.least)
    by_side (inr le) e = omega (arith, h.least)

    by_test : (c : Bool) → (a.at + a.size == b.at + b.size) ≡ c → c ≡ false
    by_test true t = absurd (by_side far (eqb-true _ _ t))
    by_test false t = refl

-- a place where nothing begins then, and where nothing began
record IsBehind (s t : ℕ → Option Head) (end : ℕ) (now was : List Area) : Type 0 where
  none : (q : ℕ) → (end == q) ≡ false → hole_at q now ≡ None → hole_at q was ≡ None
  same : (q : ℕ) → hole_at q now ≡ None → t q ≡ s q

none_more : (q : ℕ) (b : Area) (now was : List Area) → (hole_at q now ≡ None → hole_at q was ≡ None) → hole_at q (b ∷ now) ≡ None → hole_at q (b ∷ was) ≡ None
none_more q b now was go e = by_test (b.at == q) e
  where
    by_test : (c : Bool) → (if c then Some b else hole_at q now) ≡ None → (if c then Some b else hole_at q was) ≡ None
    by_test true e = absurd cc
    by_test false e = go e

clear_more : (s t : ℕ → Option Head) (a : Area) (now was : List Area) (more : List Area) → IsBehind s t (a.at + a.size) now was → IsHole a → AllByRecursion IsHole more → AllByRecursion (IsApart a) more → AreClear s was more → AreClear t now more
clear_more s t a now was [] i h sizes far c = tt
clear_more s t a now was (b ∷ more) i h sizes far c = (
  λ e. hide_same (next_of more) s t (b.at + b.size) (i.same (b.at + b.size) e) ∙ c.0 (i.none (b.at + b.size) (ends_differ a b h sizes.0 far.0) e),
  clear_more s t a (b ∷ now) (b ∷ was) more (record { none = λ q n. none_more q b now was (i.none q n); same = λ q e. i.same q (rest_none q b now e) }) h sizes.1 far.1 c.1,
)

behind_release : (s : ℕ → Option Head) (a : Area) (holes areas : List Area) (p : Plans (hide (next_of areas) s) a holes (release_one a holes) (release_one_bytes a holes)) → IsBehind s (over (plan_heads a p.plan) s) (a.at + a.size) (release_one a holes) (a ∷ holes)
unfolding release_one
behind_release s a holes areas p = record {
  none = λ q n e. with_first q (back_head a holes (hole_at (a.at + a.size) holes)) e (none_joined a holes q (hole_at (a.at + a.size) holes) refl n e);
  same = λ q e. over-skips (plan_heads a p.plan) s q (p.not_there q e);
}
  where
    with_first : (q : ℕ) → ((c : Area) × (more : List Area) × (joined a holes (hole_at (a.at + a.size) holes) ≡ c ∷ more) × (c.at ≡ a.at) × (a.size ≤ c.size)) → hole_at q (joined a holes (hole_at (a.at + a.size) holes)) ≡ None → hole_at q holes ≡ None → hole_at q (a ∷ holes) ≡ None
    with_first q b e rest =
        let here : hole_at q (b.0 ∷ b.1) ≡ None = ap (hole_at q) (sym b.2) ∙ e in
        by_test (a.at == q) (ap (λ (r : ℕ). if r == q then Some b.0 else hole_at q b.1) (sym b.3) ∙ here)
      where
        by_test : (c : Bool) → (if c then Some b.0 else hole_at q b.1) ≡ None → (if c then Some a else hole_at q holes) ≡ None
        by_test true e = absurd cc
        by_test false e = rest

-- ---- one after the other

-- areas that may be released one after the other, where this is seen
pub record AreReleasable (seen : ℕ → Option Head) (areas holes : List Area) : Type 0 where
  pub list : SeesList seen holes
  pub sizes : AllByRecursion IsHole areas
  pub apart : AreApart (areas ++ holes)
  pub clear : AreClear seen holes areas

pub record Several (seen : ℕ → Option Head) (areas holes : List Area) : Type 0 where
  pub heads : List Head
  pub found : heads_in seen (first_or holes None) areas ≡ Ok heads
  pub bytes_are : (d : List ℕ) → heads_written heads d ≡ release_ones_bytes areas holes d
  pub counts : length (release_ones areas holes) ≡ length holes + added_in seen (first_or holes None) areas

hidden_part : (q : ℕ) (s : ℕ → Option Head) (prev : Option ℕ) (xs : List Area) (next : Option ℕ) → AreElse q xs → AreSeen s prev xs next → AreSeen (hide (Some q) s) prev xs next
hidden_part q s prev [] next far h = tt
hidden_part q s prev (x ∷ xs) next far h = (ap (λ (b : Bool). if b then None else s x.at) far.0.1 ∙ h.0, hidden_part q s (Some x.at) xs next far.1 h.1)

hidden_list : (s : ℕ → Option Head) (areas holes : List Area) → AllByRecursion IsHole areas → AreApart (areas ++ holes) → SeesList s holes → SeesList (hide (next_of areas) s) holes
hidden_list s [] holes sizes apart l = l
hidden_list s (a ∷ areas) holes sizes apart l =
    let far = (all_split (IsApart a) areas holes apart.0).1 in
    record { linked = hidden_part a.at s None holes None (else_of a holes (omega (arith, sizes.0.least)) l.sizes far) l.linked; sizes = l.sizes; apart = l.apart }

pub several : (areas : List Area) (s : ℕ → Option Head) (holes : List Area) → AreReleasable s areas holes → Several s areas holes
several [] s holes c = record { heads = []; found = refl; bytes_are = λ d. refl; counts = omega arith }
several (a ∷ areas) s holes c =
    let fars = all_split (IsApart a) areas holes c.apart.0 in
    let p = seen-plans (hide (next_of areas) s) a holes (hidden_list s areas holes c.sizes.1 c.apart.1 c.list) c.clear.0 in
    let heads = plan_heads a p.plan in
    let apart = released_apart a areas holes c.sizes.0 c.sizes.1 c.list.sizes c.apart in
    let ih = several areas (over heads s) (release_one a holes) (record {
      list = record {
        linked = p.seen_then (omega (arith, c.sizes.0.least)) fars.1 s c.list.linked;
        sizes = holes-release_one a holes c.sizes.0 c.list.sizes;
        apart = (apart_split areas (release_one a holes) apart).1;
      };
      sizes = c.sizes.1;
      apart = apart;
      clear = clear_more s (over heads s) a (release_one a holes) (a ∷ holes) areas (behind_release s a holes areas p) c.sizes.0 c.sizes.1 fars.0 c.clear.1;
    }) in
    record {
      heads = heads ++ ih.heads;
      found = ap (heads_by a (λ hs. heads_in (over hs s) (Some a.at) areas)) p.found
          ∙ ap (with_heads heads) (ap (λ (o : Option ℕ). heads_in (over heads s) o areas) (sym (first_one a holes)) ∙ ih.found);
      bytes_are = λ d.
          written-append heads ih.heads d ∙ ap (heads_written ih.heads) (plan-written a p.plan d ∙ p.bytes_are d) ∙ ih.bytes_are (release_one_bytes a holes d);
      counts =
          let one : added_in s (first_or holes None) (a ∷ areas) ≡ alone_by p.plan.joined + added_in (over heads s) (Some a.at) areas = ap (added_by a (λ hs. added_in (over hs s) (Some a.at) areas)) p.found in
          omega (arith, ih.counts, ap (λ (o : Option ℕ). added_in (over heads s) o areas) (first_one a holes), p.counts, one);
    }

-- ---- what stands in a file then

pub record StandsThen (areas holes : List Area) (d : List ℕ) : Type 0 where
  pub list : HasList (release_ones_bytes areas holes d) (release_ones areas holes)
  pub long : length (release_ones_bytes areas holes d) ≡ length d
  pub keeps : (p n : ℕ) → p + n ≤ length d → AllByRecursion (IsApart (record { at = p; size = n })) areas → AllByRecursion (IsApart (record { at = p; size = n })) holes → take n (drop p (release_ones_bytes areas holes d)) ≡ take n (drop p d)

pub several-stand : (areas holes : List Area) (d : List ℕ) → AllByRecursion IsHole areas → AreInside (length d) areas → AreApart (areas ++ holes) → HasList d holes → StandsThen areas holes d
several-stand [] holes d sizes inside apart l = record { list = l; long = refl; keeps = λ p n within far off. refl }
several-stand (a ∷ areas) holes d sizes inside apart l =
    let far = (all_split (IsApart a) areas holes apart.0).1 in
    let one = release-one-stands d a holes sizes.0 inside.0 far l in
    let e = release_one_bytes a holes d in
    let left = release_one a holes in
    let ih = several-stand areas left e sizes.1 (subst (λ (n : ℕ). AreInside n areas) (sym one.keeps.long) inside.1) (released_apart a areas holes sizes.0 sizes.1 l.sizes apart) one.list in
    record {
      list = ih.list;
      long = ih.long ∙ one.keeps.long;
      keeps = λ p n within away off. by_count p n within away off one.keeps one.list.sizes (λ k hs fs. ih.keeps p n k hs fs);
    }
  where
    by_count : (p n : ℕ) → p + n ≤ length d → AllByRecursion (IsApart (record { at = p; size = n })) (a ∷ areas) → AllByRecursion (IsApart (record { at = p; size = n })) holes → KeepsBut (release_one a holes) d (release_one_bytes a holes d) → AllByRecursion IsHole (release_one a holes)
        → (p + n ≤ length (release_one_bytes a holes d) → AllByRecursion (IsApart (record { at = p; size = n })) areas → AllByRecursion (IsApart (record { at = p; size = n })) (release_one a holes) → take n (drop p (release_ones_bytes areas (release_one a holes) (release_one_bytes a holes d))) ≡ take n (drop p (release_one_bytes a holes d)))
        → take n (drop p (release_ones_bytes areas (release_one a holes) (release_one_bytes a holes d))) ≡ take n (drop p d)
    by_count p zero within away off keeps hs more = refl
    by_count p (suc n) within away off keeps hs more =
        let x : Area = record { at = p; size = suc n } in
        let off' = apart_after x a holes (omega arith) away.0 off in
        more (omega (arith, keeps.long)) away.1 off' ∙ keeps.bytes p (suc n) within (far_of p (suc n) (release_one a holes) hs off')

-- ---- longer areas

ones-append : (xs ys holes : List Area) → release_ones (xs ++ ys) holes ≡ release_ones ys (release_ones xs holes)
ones-append [] ys holes = refl
ones-append (x ∷ xs) ys holes = ones-append xs ys (release_one x holes)

parts_one : (a : Area) (holes : List Area) → release_ones (parts_of a) holes ≡ release a holes
unfolding release
parts_one a holes = by_test (nat_le a.size most_size)
  where
    by_test : (b : Bool) → release_ones (if b then a ∷ [] else back_part a ∷ front_part a ∷ []) holes ≡ (if b then release_one a holes else release_one (front_part a) (release_one (back_part a) holes))
    by_test true = refl
    by_test false = refl

pub parts-all : (areas holes : List Area) → release_ones (flat_map parts_of areas) holes ≡ release_all areas holes
parts-all [] holes = refl
parts-all (a ∷ areas) holes =
    ones-append (parts_of a) (flat_map parts_of areas) holes ∙ ap (release_ones (flat_map parts_of areas)) (parts_one a holes) ∙ parts-all areas (release a holes)

-- ---- in a file that has a list

pub several-found : (d : List ℕ) (areas holes : List Area) → HasList d holes → MayReleaseAll areas holes d → Several (hole_in d) areas holes
several-found d areas holes l m = several areas (hole_in d) holes (record { list = list_seen d holes l; sizes = m.sizes; apart = m.apart; clear = m.clear })

pub several-list : (d : List ℕ) (areas holes : List Area) → HasList d holes → MayReleaseAll areas holes d → AreInside (length d) areas → HasList (release_ones_bytes areas holes d) (release_ones areas holes)
several-list d areas holes l m inside = (several-stand areas holes d m.sizes inside m.apart l).list

pub several-keeps : (d : List ℕ) (areas holes : List Area) → HasList d holes → MayReleaseAll areas holes d → AreInside (length d) areas → KeepsApart (areas ++ holes) d (release_ones_bytes areas holes d)
several-keeps d areas holes l m inside =
    let s = several-stand areas holes d m.sizes inside m.apart l in
    record {
      longer = omega (arith, s.long);
      bytes = λ p n within far. let parts = all_split (IsApart (record { at = p; size = n })) areas holes far in s.keeps p n within parts.0 parts.1;
    }
