-- What is lent, and the file with all puts.
use Rattle.std.proofs.Common.{◌≡◌, ℕ, suc, ◌+◌, Bool, true, false, not, cond, List, [], ◌∷◌, ◌++◌, length, Option, Some, None, refl, sym, ap, ◌∙◌, arith, inl, inr}
use Rattle.std.specs.Prelude.{◌⊎◌, ◌&&◌, AllPairs}
use Rattle.std.specs.Option.{option_or}
use Rattle.std.specs.List.{AllByRecursion}
use Rattle.std.proofs.lemmas.Bool.{cases_Bool, and_parts, or_parts, eqb-true}
use Rattle.std.proofs.lemmas.List.Elements.{recursion_from_All}
use Rattle.std.proofs.lemmas.Option.{same_Some}
use Rattle.myi_base.specs.Ranges.{Range, are_apart}
use Rattle.myi_base.specs.Holding.{Holding, bytes_of, overwritten}
use Rattle.myi_keycache.specs.Kept.{Page, range_of, is_page, kept, is_unwritten, AllWritten}
use Rattle.myi_keycache.specs.Lent.{bytes_at, meets_unwritten, lent, flushed}
use Rattle.myi_keycache.specs.Order.{Pairs}
use Rattle.myi_keycache.specs.Caching.{Caching, pages_of, lends, contents, IsClean, ArePlaced, IsCurrent, Stays, Puts}
use Rattle.myi_keycache.proofs.RangeLemmas.{bytes_long, written_read, apart_read, apart_flip, end_written}
use Rattle.myi_keycache.proofs.KeptLemmas.{kept_page, kept_long, kept_first, kept_later, kept_none, first_written, others_written}

pub pairs_from : (R : Page → Page → Type 0) (ps : List Page) → AllPairs R ps → Pairs R ps
unfolding Pairs
pairs_from R [] all = tt
pairs_from R (p ∷ ps) all = (recursion_from_All (R p) ps (λ k d lt. all 0 (suc k) d (omega arith) (omega arith)), pairs_from R ps (λ i j d lt below. all (suc i) (suc j) d (omega arith) (omega arith)))

pub flushed_unwritten : (page : Page) (pages : List Page) (file : List ℕ) → page.unwritten ≡ true → flushed (page ∷ pages) file ≡ overwritten page.at page.bytes (flushed pages file)
unfolding flushed
flushed_unwritten page pages file u = rw u refl

pub flushed_written : (page : Page) (pages : List Page) (file : List ℕ) → page.unwritten ≡ false → flushed (page ∷ pages) file ≡ flushed pages file
unfolding flushed
flushed_written page pages file w = rw w refl

-- the range of a page whose bytes nothing unwritten meets has the file's bytes
pub off_pages : (pages : List Page) (file : List ℕ) (at len : ℕ) (x : List ℕ) → meets_unwritten pages at len ≡ false → bytes_at file at len ≡ Some x → bytes_at (flushed pages file) at len ≡ Some x
unfolding flushed
off_pages [] file at len x off e = e
off_pages (page ∷ pages) file at len x off e =
    let parts : ((page.unwritten && not (are_apart (range_of page) (at, at + len))) ≡ false) × (meets_unwritten pages at len ≡ false) = or_parts _ _ off in
    let rest = off_pages pages file at len x parts.1 e in
    elim (cases_Bool page.unwritten) [
      | inl u ↦
          let apart : are_apart (at, at + len) (range_of page) ≡ true = apart_flip (range_of page) (at, at + len) (not_false (are_apart (range_of page) (at, at + len)) (rw u at parts.0)) in
          rw u (apart_read (flushed pages file) page.at page.bytes at len x apart rest)
      | inr w ↦ rw w rest
    ]
  where
    not_false : (b : Bool) → not b ≡ false → b ≡ true
    not_false true e = refl
    not_false false e = absurd cc

-- a page of which none meets an unwritten one
pub off_placed : (p : Page) (pages : List Page) → AllByRecursion (ArePlaced p) pages → meets_unwritten pages p.at (length p.bytes) ≡ false
off_placed p [] all = refl
off_placed p (q ∷ pages) all =
    let rest = off_placed p pages all.1 in
    elim (cases_Bool q.unwritten) [
      | inl u ↦ rw (u, apart_flip (range_of p) (range_of q) (all.0 (inr u))) rest
      | inr w ↦ rw w rest
    ]

moved : (r : Range) (a b n k : ℕ) → a ≡ b → n ≡ k → are_apart r (a, a + n) ≡ true → are_apart r (b, b + k) ≡ true
moved r a b n k e f apart = rw (← e, ← f) apart

-- a page that is kept has its bytes in the file with all puts
kept_found : (pages : List Page) (file : List ℕ) (at len : ℕ) (x : List ℕ) → AllByRecursion (IsClean file) pages → Pairs ArePlaced pages → kept pages at len ≡ Some x → bytes_at (flushed pages file) at len ≡ Some x
unfolding Pairs
kept_found [] file at len x clean placed e = absurd (kept_none at len x e)
kept_found (page ∷ pages) file at len x clean placed e =
    elim (cases_Bool (is_page at len page)) [
      | inl is ↦
          let parts = and_parts _ _ is in
          let same : page.bytes ≡ x = same_Some _ _ (sym (kept_first page pages at len is) ∙ e) in
          let place : page.at ≡ at = eqb-true _ _ parts.0 in
          let long : length page.bytes ≡ len = eqb-true _ _ parts.1 in
          rw (← place, ← long, ← same) (here page pages file clean.0 placed.0)
      | inr other ↦
          let later : kept pages at len ≡ Some x = sym (kept_later page pages at len other) ∙ e in
          let rest = kept_found pages file at len x clean.1 placed.1 later in
          elim (cases_Bool page.unwritten) [
            | inl u ↦
                let p = kept_page (ArePlaced page) pages at len x placed.0 later in
                let apart : are_apart (range_of page) (at, at + len) ≡ true = moved (range_of page) p.0.at at (length p.0.bytes) len p.2 p.3 (p.1 (inl u)) in
                rw (flushed_unwritten page pages file u) (apart_read (flushed pages file) page.at page.bytes at len x (apart_flip (range_of page) (at, at + len) apart) rest)
            | inr w ↦ rw (flushed_written page pages file w) rest
          ]
    ]
  where
    here : (page : Page) (pages : List Page) (file : List ℕ) → IsClean file page → AllByRecursion (ArePlaced page) pages → bytes_at (flushed (page ∷ pages) file) page.at (length page.bytes) ≡ Some page.bytes
    here page pages file clean placed = elim (cases_Bool page.unwritten) [
      | inl u ↦ rw (flushed_unwritten page pages file u) (written_read (flushed pages file) page.at page.bytes)
      | inr w ↦ rw (flushed_written page pages file w) (off_pages pages file page.at (length page.bytes) page.bytes (off_placed page pages placed) (clean w))
    ]

pub all_written : (pages : List Page) (file : List ℕ) → AllWritten pages → flushed pages file ≡ file
unfolding flushed
all_written [] file all = refl
all_written (page ∷ pages) file all = rw (first_written page pages all) (all_written pages file (others_written page pages all))

pub none_met : (pages : List Page) (at len : ℕ) → AllWritten pages → meets_unwritten pages at len ≡ false
none_met [] at len all = refl
none_met (page ∷ pages) at len all = rw (first_written page pages all) (none_met pages at len (others_written page pages all))

-- what is lent is a page that is kept, or else the file's bytes, which no unwritten page meets
pub lent_cases : (k : Option (List ℕ)) (met : Bool) (b : Option (List ℕ)) (x : List ℕ) → option_or k (cond met None b) ≡ Some x → (k ≡ Some x) ⊎ ((met ≡ false) × (b ≡ Some x))
lent_cases (Some y) met b x e = inl e
lent_cases None true b x e = absurd cc
lent_cases None false b x e = inr (refl, e)

lent_found : (pages : List Page) (file : List ℕ) (at len : ℕ) (x : List ℕ) → AllByRecursion (IsClean file) pages → Pairs ArePlaced pages → lent pages file at len ≡ Some x → bytes_at (flushed pages file) at len ≡ Some x
unfolding lent
lent_found pages file at len x clean placed e = elim (lent_cases (kept pages at len) (meets_unwritten pages at len) (bytes_at file at len) x e) [
  | inl found ↦ kept_found pages file at len x clean placed found
  | inr off ↦ off_pages pages file at len x off.0 off.1
]

pub lends_found : (cache : Caching) (m : Holding) (at len : ℕ) (x : List ℕ) → IsCurrent cache m → lends cache m at len ≡ Some x → bytes_at (contents cache m) at len ≡ Some x
lends_found cache m at len x current e = lent_found (pages_of cache) (bytes_of cache.name m) at len x (recursion_from_All _ _ current.clean) (pairs_from ArePlaced _ current.placed) e

pub lends_long : (cache : Caching) (m : Holding) (at len : ℕ) (x : List ℕ) → lends cache m at len ≡ Some x → length x ≡ len
unfolding lent
lends_long cache m at len x e = elim (lent_cases (kept (pages_of cache) at len) (meets_unwritten (pages_of cache) at len) (bytes_at (bytes_of cache.name m) at len) x e) [
  | inl found ↦ kept_long (pages_of cache) at len x found
  | inr off ↦ bytes_long (bytes_of cache.name m) at len x off.1
]

-- without unwritten pages the file is what is lent
pub lends_file : (cache : Caching) (m : Holding) (at len : ℕ) → AllWritten (pages_of cache) → IsCurrent cache m → lends cache m at len ≡ bytes_at (bytes_of cache.name m) at len
unfolding lent
lends_file cache m at len all current =
    let file = bytes_of cache.name m in
    rw (none_met (pages_of cache) at len all) (joined (kept (pages_of cache) at len) (bytes_at file at len) (λ x e.
    let found = kept_found (pages_of cache) file at len x (recursion_from_All _ _ current.clean) (pairs_from ArePlaced _ current.placed) e in
    rw (all_written (pages_of cache) file all) at found))
  where
    joined : (k b : Option (List ℕ)) → ((x : List ℕ) → k ≡ Some x → b ≡ Some x) → option_or k b ≡ b
    joined None b same = refl
    joined (Some x) b same = sym (same x refl)

pub written_none : (pages : List Page) → pages ≡ [] → AllWritten pages
unfolding is_unwritten
written_none [] e p n u = absurd cc
written_none (page ∷ pages) e p n u = absurd cc

-- calls that change nothing, one after the other
pub stays_start : (cache : Caching) (m : Holding) → IsCurrent cache m → Stays cache cache m m
stays_start cache m current = record { current = current; lent = λ p len x e. e; contents = refl }

pub stays_on : (a b c : Caching) (m n k : Holding) → Stays a b m n → Stays b c n k → Stays a c m k
stays_on a b c m n k one two = record {
  current = two.current;
  lent = λ p len x e. two.lent p len x (one.lent p len x e);
  contents = two.contents ∙ one.contents;
}

pub appended : (at : ℕ) (x : List ℕ) (a b : Caching) (m n : Holding) → at ≡ length (contents a m) → Puts at x a b m n → contents b n ≡ contents a m ++ x
appended at x a b m n is puts = puts.contents ∙ ap (λ (k : ℕ). overwritten k x (contents a m)) is ∙ end_written (contents a m) x
