-- The pages that are kept, and those that are unwritten.
use Rattle.std.proofs.Common.{◌≡◌, ℕ, true, false, List, [], ◌∷◌, length, Some, refl, sym, ap, ◌∙◌, inl, inr}
use Rattle.std.specs.Prelude.{is_some}
use Rattle.std.specs.List.{AllByRecursion}
use Rattle.std.proofs.lemmas.Bool.{cases_Bool, and_parts, and_from, eqb-true, eq-eqb, or_left, or_right}
use Rattle.std.proofs.lemmas.Option.{same_Some}
use Rattle.myi_keycache.specs.Kept.{Page, is_page, kept, is_kept, is_unwritten, AllWritten}

-- the page that is found is one of the pages, and is of that place and length
pub kept_page : (P : Page → Type 0) (pages : List Page) (at len : ℕ) (x : List ℕ) → AllByRecursion P pages → kept pages at len ≡ Some x
    → (page : Page) × P page × (page.at ≡ at) × (length page.bytes ≡ len) × (page.bytes ≡ x)
unfolding kept
kept_page P [] at len x all e = absurd cc
kept_page P (page ∷ pages) at len x all e =
    elim (cases_Bool (is_page at len page)) [
      | inl is ↦
          let parts = and_parts _ _ is in
          let same : page.bytes ≡ x = same_Some _ _ (rw is at e) in
          (page, all.0, eqb-true _ _ parts.0, eqb-true _ _ parts.1, same)
      | inr other ↦ kept_page P pages at len x all.1 (rw other at e)
    ]

pub every : (pages : List Page) → AllByRecursion (λ page. Unit {0}) pages
every [] = tt
every (page ∷ pages) = (tt, every pages)

pub kept_long : (pages : List Page) (at len : ℕ) (x : List ℕ) → kept pages at len ≡ Some x → length x ≡ len
kept_long pages at len x e =
    let p = kept_page (λ page. Unit {0}) pages at len x (every pages) e in
    ap length (sym p.4) ∙ p.3

pub kept_none : (at len : ℕ) (x : List ℕ) → kept [] at len ≡ Some x → ⊥
unfolding kept
kept_none at len x e = absurd cc

pub kept_first : (page : Page) (pages : List Page) (at len : ℕ) → is_page at len page ≡ true → kept (page ∷ pages) at len ≡ Some page.bytes
unfolding kept
kept_first page pages at len is = rw is refl

pub kept_later : (page : Page) (pages : List Page) (at len : ℕ) → is_page at len page ≡ false → kept (page ∷ pages) at len ≡ kept pages at len
unfolding kept
kept_later page pages at len other = rw other refl

pub unwritten_kept : (pages : List Page) (at len : ℕ) → is_unwritten pages at len ≡ true → is_kept pages at len ≡ true
unfolding is_unwritten
unwritten_kept [] at len u = absurd cc
unwritten_kept (page ∷ pages) at len u =
    elim (cases_Bool (is_page at len page)) [
      | inl is ↦ ap is_some (kept_first page pages at len is)
      | inr other ↦ ap is_some (kept_later page pages at len other) ∙ unwritten_kept pages at len (rw other at u)
    ]

-- where all pages are written, the first is, and so are the others
pub first_written : (page : Page) (pages : List Page) → AllWritten (page ∷ pages) → page.unwritten ≡ false
unfolding is_unwritten
first_written page pages all =
    elim (cases_Bool page.unwritten) [
      | inl u ↦
          let is : is_page page.at (length page.bytes) page ≡ true = and_from _ _ (eq-eqb page.at page.at refl) (eq-eqb (length page.bytes) (length page.bytes) refl) in
          absurd (all page.at (length page.bytes) (or_left _ _ (and_from _ _ is u)))
      | inr written ↦ written
    ]

pub others_written : (page : Page) (pages : List Page) → AllWritten (page ∷ pages) → AllWritten pages
unfolding is_unwritten
others_written page pages all p n u = all p n (or_right _ _ u)

pub none_kept : (at len : ℕ) → is_kept [] at len ≡ true → ⊥
unfolding kept
none_kept at len e = absurd cc
