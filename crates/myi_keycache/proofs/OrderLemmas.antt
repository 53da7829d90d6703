-- The pages in one order, and one that is changed at its index.
use Rattle.std.proofs.Common.{◌≡◌, ℕ, zero, suc, ◌-◌, ◌*◌, ◌≤◌, ◌<◌, Bool, true, false, List, [], ◌∷◌, ◌++◌, length, slice_get, Some, refl, sym, ap, subst, ◌∙◌, arith, inl, inr}
use Rattle.std.specs.Prelude.{nat_le, ◌==◌, ◌&&◌, ◌||◌}
use Rattle.std.specs.List.{AllByRecursion}
use Rattle.std.proofs.lemmas.Bool.{cases_Bool, lt-leb, le-leb, eqb-true, eq-eqb}
use Rattle.std.proofs.lemmas.List.{map-append, length-append}
use Rattle.std.proofs.lemmas.Option.{same_Some}
use Rattle.indexmap.specs.Layout.{set_value_at}
use Rattle.myi_keycache.specs.declared.setup.CacheSetup.{CacheSetup}
use Rattle.myi_keycache.specs.declared.blocks.PageName.{PageName}
use Rattle.myi_keycache.specs.declared.blocks.Block.{Block}
use Rattle.myi_keycache.specs.Counts.{raised}
use Rattle.myi_keycache.specs.Kept.{Page, KeptPage}
use Rattle.myi_keycache.specs.Order.{Order, Split, with_page, goes_hot, IsStored, contents_of, IsOrdered, Pairs, Differ}
use Rattle.myi_keycache.proofs.FrontLemmas.{pairs_out, pairs_in, differ_flip}

-- ---- one element of a list

pub record Parts {X : Type 0} (xs : List X) (i : ℕ) : Type 0 where
  pub front : List X
  pub x : X
  pub back : List X
  pub is : xs ≡ front ++ x ∷ back
  pub long : length front ≡ i

pub parts : {X : Type 0} (xs : List X) (i : ℕ) → i < length xs → Parts xs i
parts [] i lt = absurd (omega arith)
parts (x ∷ xs) zero lt = record { front = []; x = x; back = xs; is = refl; long = refl }
parts (x ∷ xs) (suc i) lt =
    let p = parts xs i (omega arith) in
    record { front = x ∷ p.front; x = p.x; back = p.back; is = ap (λ (t : List _). x ∷ t) p.is; long = ap suc p.long }

pub split : (xs : List KeptPage) (i : ℕ) → i < length xs → Split xs i
split xs i lt = let p = parts xs i lt in record { front = p.front; page = p.x; back = p.back; is = p.is; long = p.long }

pub get_middle : {X : Type 0} (front : List X) (x : X) (back : List X) (i : ℕ) → length front ≡ i → slice_get (front ++ x ∷ back) i ≡ Some x
get_middle [] x back i e = subst (λ (t : ℕ). slice_get (x ∷ back) t ≡ Some x) e refl
get_middle (f ∷ front) x back zero e = absurd (omega arith)
get_middle (f ∷ front) x back (suc i) e = get_middle front x back i (omega arith)

pub stored_changed : (es : List (PageName × Block)) (i : ℕ) (e : PageName × Block) (w : Block) → slice_get es i ≡ Some e → length w.bytes.items ≡ length e.1.bytes.items → AllByRecursion IsStored es → AllByRecursion IsStored (set_value_at es i w)
stored_changed [] i e w at len all = tt
stored_changed (x ∷ es) zero e w at len all = let same : x ≡ e = same_Some x e at in (all.0 ∙ ap (λ (t : PageName × Block). length t.1.bytes.items) same ∙ sym len, all.1)
stored_changed (x ∷ es) (suc i) e w at len all = (all.0, stored_changed es i e w at len all.1)

pub same_length : (pages : List KeptPage) (i : ℕ) (s : Split pages i) (p : KeptPage) → length (with_page s p) ≡ length pages
same_length pages i s p = omega (arith, length-append s.front (p ∷ s.back), length-append s.front (s.page ∷ s.back), ap length s.is)

-- the pages are ordered, whatever the warm ones are
pub ordered_still : (setup : CacheSetup) (old new : List KeptPage) (warm warm1 acc acc1 : ℕ) → IsOrdered (record { setup = setup; pages = old; warm = warm; accesses = acc }) → length new ≡ length old → warm1 ≤ length old → (Pairs Differ (contents_of old) → Pairs Differ (contents_of new))
    → IsOrdered (record { setup = setup; pages = new; warm = warm1; accesses = acc1 })
ordered_still setup old new warm warm1 acc acc1 is len le differ = record {
  setup = is.setup;
  differ = differ is.differ;
  warm = omega arith;
  few = let f = is.few in omega (arith, len, f);
}

pub eq_flip : (a b : ℕ) → (a == b) ≡ (b == a)
eq_flip a b = elim (cases_Bool (a == b)) [
  | inl e ↦ e ∙ sym (eq-eqb b a (sym (eqb-true a b e)))
  | inr e ↦ elim (cases_Bool (b == a)) [
    | inl f ↦ let both : true ≡ false = sym (eq-eqb a b (sym (eqb-true b a f))) ∙ e in absurd cc
    | inr f ↦ e ∙ sym f
  ]
]

-- a block that takes the place of another of the same name
differ_changed : (x y : Page) (pages : List Page) → y.at ≡ x.at → length y.bytes ≡ length x.bytes → AllByRecursion (Differ x) pages → AllByRecursion (Differ y) pages
differ_changed x y [] at len all = tt
differ_changed x y (q ∷ pages) at len all = ((λ a l. all.0 (sym at ∙ a) (sym len ∙ l)), differ_changed x y pages at len all.1)

pub differ_with : (pages : List KeptPage) (i : ℕ) (s : Split pages i) (p : KeptPage) → p.page.at ≡ s.page.page.at → length p.page.bytes ≡ length s.page.page.bytes → Pairs Differ (contents_of pages) → Pairs Differ (contents_of (with_page s p))
differ_with pages i s p at len differ =
    let was : contents_of pages ≡ contents_of s.front ++ s.page.page ∷ contents_of s.back = ap contents_of s.is ∙ map-append _ s.front (s.page ∷ s.back) in
    let now : contents_of (with_page s p) ≡ contents_of s.front ++ p.page ∷ contents_of s.back = map-append _ s.front (p ∷ s.back) in
    let out = pairs_out Differ differ_flip (contents_of s.front) s.page.page (contents_of s.back) (subst (Pairs Differ) was differ) in
    subst (Pairs Differ) (sym now) (pairs_in Differ differ_flip (contents_of s.front) p.page (contents_of s.back) (differ_changed s.page.page p.page (contents_of s.front ++ contents_of s.back) at len out.0) out.1)

pub goes_hot_is : (o : Order) (index : ℕ) (p : KeptPage) (hits : ℕ) (share result : Bool) → index < o.warm → hits ≡ raised 1 p.hits → share ≡ nat_le (o.setup.division * o.setup.blocks) ((o.warm - 1) * 100) → result ≡ (nat_le 3 hits && share) → result ≡ goes_hot o index p
goes_hot_is o index p hits share result lt hits_is share_is is =
    is ∙ (λ i. nat_le 3 (hits_is i) && share_is i) ∙ ap (λ (t : Bool). t || (nat_le 3 (raised 1 p.hits) && nat_le (o.setup.division * o.setup.blocks) ((o.warm - 1) * 100))) (sym (lt-leb o.warm index lt))

pub goes_hot_hot : (o : Order) (index : ℕ) (p : KeptPage) → o.warm ≤ index → true ≡ goes_hot o index p
goes_hot_hot o index p le = sym (ap (λ (t : Bool). t || (nat_le 3 (raised 1 p.hits) && nat_le (o.setup.division * o.setup.blocks) ((o.warm - 1) * 100))) (le-leb o.warm index le))

pub and_is : (hits : ℕ) (share result b : Bool) → nat_le 3 hits ≡ b → result ≡ (b && share) → result ≡ (nat_le 3 hits && share)
and_is hits share result b e is = is ∙ ap (λ (t : Bool). t && share) (sym e)
