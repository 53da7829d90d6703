-- A list of pages with one of them taken to the front: what the list says of contents does not go by its order.
use Rattle.std.proofs.Common.{◌≡◌, ℕ, ◌+◌, Bool, true, false, ◌||◌, cond, List, [], ◌∷◌, ◌++◌, length, Option, count_by, refl, sym, ap, ◌∙◌, inl, inr}
use Rattle.std.specs.Prelude.{find, ◌⊎◌, ◌&&◌, not, option_map}
use Rattle.std.specs.List.{list_any, AllByRecursion}
use Rattle.std.proofs.lemmas.Bool.{cases_Bool, and_parts, eqb-true}
use Rattle.std.proofs.lemmas.List.Sorted.{sum_by-IsPermutation, IsPermutation-middle}
use Rattle.myi_base.specs.Ranges.{are_apart}
use Rattle.myi_base.specs.Holding.{overwritten}
use Rattle.myi_keycache.specs.Kept.{Page, range_of, is_page, kept, is_unwritten, unwritten_count}
use Rattle.myi_keycache.specs.Lent.{meets_unwritten, flushed}
use Rattle.myi_keycache.specs.Caching.{ArePlaced}
use Rattle.myi_keycache.specs.Order.{Pairs, Differ}
use Rattle.myi_keycache.proofs.RangeLemmas.{write_apart, apart_flip}
use Rattle.myi_keycache.proofs.LentLemmas.{flushed_unwritten, flushed_written}

-- ---- an element in the middle

pub all_out : {A : Type 0} (P : A → Type 0) (front : List A) (x : A) (back : List A) → AllByRecursion P (front ++ x ∷ back) → P x × AllByRecursion P (front ++ back)
all_out P [] x back all = all
all_out P (f ∷ front) x back all = let r = all_out P front x back all.1 in (r.0, (all.0, r.1))

pub all_in : {A : Type 0} (P : A → Type 0) (front : List A) (x : A) (back : List A) → P x → AllByRecursion P (front ++ back) → AllByRecursion P (front ++ x ∷ back)
all_in P [] x back here all = (here, all)
all_in P (f ∷ front) x back here all = (all.0, all_in P front x back here all.1)

pub all_front : {A : Type 0} (P : A → Type 0) (front back : List A) → AllByRecursion P (front ++ back) → AllByRecursion P front
all_front P [] back all = tt
all_front P (f ∷ front) back all = (all.0, all_front P front back all.1)

abbrev pub Symmetric : (Page → Page → Type 0) → Type 0
Symmetric R = (p q : Page) → R p q → R q p

pub pairs_out : (R : Page → Page → Type 0) → Symmetric R → (front : List Page) (x : Page) (back : List Page) → Pairs R (front ++ x ∷ back) → AllByRecursion (R x) (front ++ back) × Pairs R (front ++ back)
unfolding Pairs
pairs_out R flip [] x back ps = ps
pairs_out R flip (f ∷ front) x back ps =
    let m = all_out (R f) front x back ps.0 in
    let r = pairs_out R flip front x back ps.1 in
    ((flip f x m.0, r.0), (m.1, r.1))

pub pairs_in : (R : Page → Page → Type 0) → Symmetric R → (front : List Page) (x : Page) (back : List Page) → AllByRecursion (R x) (front ++ back) → Pairs R (front ++ back) → Pairs R (front ++ x ∷ back)
unfolding Pairs
pairs_in R flip [] x back all ps = (all, ps)
pairs_in R flip (f ∷ front) x back all ps = (all_in (R f) front x back (flip x f all.0) ps.0, pairs_in R flip front x back all.1 ps.1)

pub differ_flip : Symmetric Differ
differ_flip p q d at len = d (sym at) (sym len)

pub placed_flip : Symmetric ArePlaced
placed_flip p q placed u = apart_flip (range_of p) (range_of q) (placed (other u))
  where
    other : {A B : Type 0} → A ⊎ B → B ⊎ A
    other (inl a) = inr a
    other (inr b) = inl b

any_out : (test : Page → Bool) (front : List Page) (x : Page) (back : List Page) → list_any test (front ++ x ∷ back) ≡ list_any test (x ∷ (front ++ back))
any_out test [] x back = refl
any_out test (f ∷ front) x back = ap (λ (b : Bool). test f || b) (any_out test front x back) ∙ swap (test f) (test x) (list_any test (front ++ back))
  where
    swap : (a b c : Bool) → (a || (b || c)) ≡ (b || (a || c))
    swap true true c = refl
    swap true false c = refl
    swap false true c = refl
    swap false false c = refl

count_out : (test : Page → Bool) (front : List Page) (x : Page) (back : List Page) → count_by test (front ++ x ∷ back) ≡ count_by test (x ∷ (front ++ back))
count_out test front x back = sym (sum_by-IsPermutation (λ (p : Page). cond (test p) 1 0) (front ++ x ∷ back) (x ∷ (front ++ back)) (IsPermutation-middle front x back))

find_out : (test : Page → Bool) (front : List Page) (x : Page) (back : List Page) → AllByRecursion (λ f. test f ≡ true → test x ≡ false) front → find test (front ++ x ∷ back) ≡ find test (x ∷ (front ++ back))
find_out test [] x back all = refl
find_out test (f ∷ front) x back all =
    elim (cases_Bool (test f)) [
      | inl is ↦ rw (is, all.0 is) refl
      | inr other ↦ rw other (find_out test front x back all.1)
    ]

pub kept_out : (front : List Page) (x : Page) (back : List Page) (at len : ℕ) → AllByRecursion (Differ x) front → kept (front ++ x ∷ back) at len ≡ kept (x ∷ (front ++ back)) at len
unfolding kept
kept_out front x back at len all = ap (λ (o : Option Page). option_map (λ (p : Page). p.bytes) o) (find_out (is_page at len) front x back (each front all))
  where
    other : (f : Page) → Differ x f → is_page at len f ≡ true → is_page at len x ≡ false
    other f differ is = elim (cases_Bool (is_page at len x)) [
      | inl same ↦
          let a = and_parts _ _ is in
          let b = and_parts _ _ same in
          absurd (differ (eqb-true _ _ b.0 ∙ sym (eqb-true _ _ a.0)) (eqb-true _ _ b.1 ∙ sym (eqb-true _ _ a.1)))
      | inr differs ↦ differs
    ]

    each : (front : List Page) → AllByRecursion (Differ x) front → AllByRecursion (λ f. is_page at len f ≡ true → is_page at len x ≡ false) front
    each [] all = tt
    each (f ∷ front) all = (other f all.0, each front all.1)

pub unwritten_out : (front : List Page) (x : Page) (back : List Page) (at len : ℕ) → is_unwritten (front ++ x ∷ back) at len ≡ is_unwritten (x ∷ (front ++ back)) at len
unfolding is_unwritten
unwritten_out front x back at len = any_out (λ page. is_page at len page && page.unwritten) front x back

pub meets_out : (front : List Page) (x : Page) (back : List Page) (at len : ℕ) → meets_unwritten (front ++ x ∷ back) at len ≡ meets_unwritten (x ∷ (front ++ back)) at len
meets_out front x back at len = any_out (λ page. page.unwritten && not (are_apart (range_of page) (at, at + len))) front x back

pub unwritten_count_out : (front : List Page) (x : Page) (back : List Page) → unwritten_count (front ++ x ∷ back) ≡ unwritten_count (x ∷ (front ++ back))
unfolding unwritten_count
unwritten_count_out front x back = count_out (λ page. page.unwritten) front x back

-- the file with all puts
pub flushed_over : (pages : List Page) (file : List ℕ) (at : ℕ) (bytes : List ℕ) → AllByRecursion (λ (q : Page). q.unwritten ≡ true → are_apart (at, at + length bytes) (range_of q) ≡ true) pages
    → flushed pages (overwritten at bytes file) ≡ overwritten at bytes (flushed pages file)
unfolding flushed
flushed_over [] file at bytes all = refl
flushed_over (q ∷ pages) file at bytes all =
    let rest = flushed_over pages file at bytes all.1 in
    elim (cases_Bool q.unwritten) [
      | inl u ↦ flushed_unwritten q pages (overwritten at bytes file) u ∙ ap (overwritten q.at q.bytes) rest ∙ sym (write_apart at bytes q.at q.bytes (flushed pages file) (all.0 u)) ∙ ap (overwritten at bytes) (sym (flushed_unwritten q pages file u))
      | inr w ↦ flushed_written q pages (overwritten at bytes file) w ∙ rest ∙ ap (overwritten at bytes) (sym (flushed_written q pages file w))
    ]

pub flushed_out : (front : List Page) (x : Page) (back : List Page) (file : List ℕ) → AllByRecursion (ArePlaced x) front → flushed (front ++ x ∷ back) file ≡ flushed (x ∷ (front ++ back)) file
flushed_out [] x back file all = refl
flushed_out (f ∷ front) x back file all =
    let rest = flushed_out front x back file all.1 in
    elim (cases_Bool f.unwritten) [
      | inl u ↦ elim (cases_Bool x.unwritten) [
        | inl v ↦
            flushed_unwritten f (front ++ x ∷ back) file u ∙ ap (overwritten f.at f.bytes) (rest ∙ flushed_unwritten x (front ++ back) file v)
            ∙ sym (write_apart x.at x.bytes f.at f.bytes (flushed (front ++ back) file) (all.0 (inl v)))
            ∙ ap (overwritten x.at x.bytes) (sym (flushed_unwritten f (front ++ back) file u)) ∙ sym (flushed_unwritten x (f ∷ (front ++ back)) file v)
        | inr v ↦
            flushed_unwritten f (front ++ x ∷ back) file u ∙ ap (overwritten f.at f.bytes) (rest ∙ flushed_written x (front ++ back) file v)
            ∙ sym (flushed_unwritten f (front ++ back) file u) ∙ sym (flushed_written x (f ∷ (front ++ back)) file v)
      ]
      | inr w ↦ elim (cases_Bool x.unwritten) [
        | inl v ↦
            flushed_written f (front ++ x ∷ back) file w ∙ rest ∙ flushed_unwritten x (front ++ back) file v
            ∙ ap (overwritten x.at x.bytes) (sym (flushed_written f (front ++ back) file w)) ∙ sym (flushed_unwritten x (f ∷ (front ++ back)) file v)
        | inr v ↦
            flushed_written f (front ++ x ∷ back) file w ∙ rest ∙ flushed_written x (front ++ back) file v
            ∙ sym (flushed_written f (front ++ back) file w) ∙ sym (flushed_written x (f ∷ (front ++ back)) file v)
      ]
    ]
