-- What a page that is written, leaves, is taken in or is put does to what is lent, where it stands at the front.
use Rattle.std.proofs.Common.{◌≡◌, ℕ, ◌+◌, ◌≤◌, Bool, true, false, not, cond, List, [], ◌∷◌, ◌++◌, length, leb, Option, None, Some, refl, sym, ap, subst, ◌∙◌, arith, inl, inr}
use Rattle.std.specs.Prelude.{◌⊎◌, ◌&&◌, is_some}
use Rattle.std.specs.Option.{option_or}
use Rattle.std.specs.List.{AllByRecursion}
use Rattle.std.proofs.lemmas.Bool.{cases_Bool, and_parts, and_from, or_parts, or_cases, or_left, or_right, eqb-true, eq-eqb, leb-true, le-leb}
use Rattle.myi_base.specs.Ranges.{Range, are_apart}
use Rattle.myi_base.specs.Holding.{overwritten}
use Rattle.myi_keycache.specs.Kept.{Page, range_of, is_page, kept, is_kept, is_unwritten, NoOtherMeets}
use Rattle.myi_keycache.specs.Lent.{bytes_at, meets_unwritten, lent, flushed}
use Rattle.myi_keycache.specs.Caching.{IsClean, ArePlaced}
use Rattle.myi_keycache.specs.Order.{Pairs, Differ, Alike}
use Rattle.myi_keycache.proofs.RangeLemmas.{bytes_long, written_read, apart_read, apart_flip, write_twice}
use Rattle.myi_keycache.proofs.KeptLemmas.{kept_first, kept_later, kept_long}
use Rattle.myi_keycache.proofs.LentLemmas.{flushed_unwritten, flushed_written, off_placed, lent_cases}
use Rattle.myi_keycache.proofs.FrontLemmas.{all_out, all_in, all_front, pairs_out, pairs_in, differ_flip, placed_flip, kept_out, unwritten_out, meets_out, unwritten_count_out, flushed_over, flushed_out}

-- ---- the same pages in another order

pub to_front : (front : List Page) (x : Page) (back : List Page) → Alike (front ++ x ∷ back) (x ∷ (front ++ back))
unfolding Pairs
to_front front x back = record {
  differ = λ d. pairs_out Differ differ_flip front x back d;
  placed = λ d. pairs_out ArePlaced placed_flip front x back d;
  clean = λ file all. all_out (IsClean file) front x back all;
  kept = λ d p n. sym (kept_out front x back p n (all_front (Differ x) front back (pairs_out Differ differ_flip front x back d).0));
  unwritten = λ p n. sym (unwritten_out front x back p n);
  count = sym (unwritten_count_out front x back);
  meets = λ p n. sym (meets_out front x back p n);
  flushed = λ d file. sym (flushed_out front x back file (all_front (ArePlaced x) front back (pairs_out ArePlaced placed_flip front x back d).0));
}

pub from_front : (front : List Page) (x : Page) (back : List Page) → Alike (x ∷ (front ++ back)) (front ++ x ∷ back)
unfolding Pairs
from_front front x back = record {
  differ = λ d. pairs_in Differ differ_flip front x back d.0 d.1;
  placed = λ d. pairs_in ArePlaced placed_flip front x back d.0 d.1;
  clean = λ file all. all_in (IsClean file) front x back all.0 all.1;
  kept = λ d p n. kept_out front x back p n (all_front (Differ x) front back d.0);
  unwritten = λ p n. unwritten_out front x back p n;
  count = unwritten_count_out front x back;
  meets = λ p n. meets_out front x back p n;
  flushed = λ d file. flushed_out front x back file (all_front (ArePlaced x) front back d.0);
}

pub alike_same : (pages : List Page) → Alike pages pages
alike_same pages = record {
  differ = λ d. d;
  placed = λ d. d;
  clean = λ file all. all;
  kept = λ d p n. refl;
  unwritten = λ p n. refl;
  count = refl;
  meets = λ p n. refl;
  flushed = λ d file. refl;
}

pub alike_then : (a b c : List Page) → Alike a b → Alike b c → Alike a c
alike_then a b c one two = record {
  differ = λ d. two.differ (one.differ d);
  placed = λ d. two.placed (one.placed d);
  clean = λ file all. two.clean file (one.clean file all);
  kept = λ d p n. two.kept (one.differ d) p n ∙ one.kept d p n;
  unwritten = λ p n. two.unwritten p n ∙ one.unwritten p n;
  count = two.count ∙ one.count;
  meets = λ p n. two.meets p n ∙ one.meets p n;
  flushed = λ d file. two.flushed (one.placed d) file ∙ one.flushed d file;
}

-- a page that moves
pub moved : (front : List Page) (x : Page) (back front1 back1 : List Page) → front ++ back ≡ front1 ++ back1 → Alike (front ++ x ∷ back) (front1 ++ x ∷ back1)
moved front x back front1 back1 same =
    alike_then _ _ _ (to_front front x back) (subst (λ (r : List Page). Alike (x ∷ r) (front1 ++ x ∷ back1)) (sym same) (from_front front1 x back1))

-- ---- a file and the pages over it

pub record Good (pages : List Page) (file : List ℕ) : Type 0 where
  pub clean : AllByRecursion (IsClean file) pages
  pub placed : Pairs ArePlaced pages

-- the same is lent, and the file with all puts is the same
pub record Keeping (old new : List Page) (before after : List ℕ) : Type 0 where
  pub good : Good new after
  pub lent : (p n : ℕ) (x : List ℕ) → lent old before p n ≡ Some x → lent new after p n ≡ Some x
  pub contents : flushed new after ≡ flushed old before

pub keeping_same : (pages : List Page) (file : List ℕ) → Good pages file → Keeping pages pages file file
keeping_same pages file good = record { good = good; lent = λ p n x e. e; contents = refl }

pub keeping_then : (a b c : List Page) (f g h : List ℕ) → Keeping a b f g → Keeping b c g h → Keeping a c f h
keeping_then a b c f g h one two = record {
  good = two.good;
  lent = λ p n x e. two.lent p n x (one.lent p n x e);
  contents = two.contents ∙ one.contents;
}

pub keeping_alike : (old new : List Page) (file : List ℕ) → Pairs Differ old → Alike old new → Good old file → Keeping old new file file
unfolding lent
keeping_alike old new file differ alike good = record {
  good = record { clean = alike.clean file good.clean; placed = alike.placed good.placed };
  lent = λ p n x e. rw (alike.kept differ p n, alike.meets p n) e;
  contents = alike.flushed good.placed file;
}

-- what is lent of a page and others
pub not_named : (x : Page) (pages : List Page) (p n : ℕ) → AllByRecursion (Differ x) pages → is_page p n x ≡ true → kept pages p n ≡ None
unfolding kept
not_named x [] p n all is = refl
not_named x (q ∷ pages) p n all is =
    elim (cases_Bool (is_page p n q)) [
      | inl same ↦
          let a = and_parts _ _ is in
          let b = and_parts _ _ same in
          absurd (all.0 (eqb-true _ _ a.0 ∙ sym (eqb-true _ _ b.0)) (eqb-true _ _ a.1 ∙ sym (eqb-true _ _ b.1)))
      | inr other ↦ rw other (not_named x pages p n all.1 is)
    ]

-- a written page at the front meets nothing that is unwritten
meets_later : (x : Page) (pages : List Page) (p n : ℕ) → x.unwritten ≡ false → meets_unwritten (x ∷ pages) p n ≡ meets_unwritten pages p n
meets_later x pages p n w = rw w refl

abbrev pub written : Page → Page
written x = record x { unwritten = false }

-- where x is unwritten, it meets none of the others
apart_all : (x : Page) (pages : List Page) → x.unwritten ≡ true → AllByRecursion (ArePlaced x) pages → AllByRecursion (λ (q : Page). q.unwritten ≡ true → are_apart (range_of x) (range_of q) ≡ true) pages
apart_all x [] u all = tt
apart_all x (q ∷ pages) u all = ((λ v. all.0 (inl u)), apart_all x pages u all.1)

placed_written : (x : Page) (pages : List Page) → x.unwritten ≡ true → AllByRecursion (ArePlaced x) pages → AllByRecursion (ArePlaced (written x)) pages
placed_written x [] u all = tt
placed_written x (q ∷ pages) u all = ((λ v. all.0 (inl u)), placed_written x pages u all.1)

-- a range apart from one is apart from a shorter one at its place
pub shorter : (r : Range) (at k n : ℕ) → k ≤ n → are_apart r (at, at + n) ≡ true → are_apart r (at, at + k) ≡ true
shorter r at k n le apart = elim (or_cases (leb r.1 at) (leb (at + n) r.0) apart) [
  | inl front ↦ or_left (leb r.1 at) (leb (at + k) r.0) front
  | inr back ↦ or_right (leb r.1 at) (leb (at + k) r.0) (le-leb (at + k) r.0 (omega (arith, leb-true _ _ back)))
]

-- bytes over the range of an unwritten page leave the bytes of the others
clean_over : (file : List ℕ) (x : Page) (bytes : List ℕ) (pages : List Page) → x.unwritten ≡ true → length bytes ≤ length x.bytes → AllByRecursion (ArePlaced x) pages → AllByRecursion (IsClean file) pages → AllByRecursion (IsClean (overwritten x.at bytes file)) pages
clean_over file x bytes [] u le placed all = tt
clean_over file x bytes (q ∷ pages) u le placed all =
    let apart : are_apart (range_of q) (range_of x) ≡ true = apart_flip (range_of x) (range_of q) (placed.0 (inl u)) in
    ((λ w. apart_read file x.at bytes q.at (length q.bytes) q.bytes (shorter (range_of q) x.at (length bytes) (length x.bytes) le apart) (all.0 w)), clean_over file x bytes pages u le placed.1 all.1)

apart_over : (x : Page) (bytes : List ℕ) (pages : List Page) → x.unwritten ≡ true → length bytes ≤ length x.bytes → AllByRecursion (ArePlaced x) pages → AllByRecursion (λ (q : Page). q.unwritten ≡ true → are_apart (x.at, x.at + length bytes) (range_of q) ≡ true) pages
apart_over x bytes [] u le all = tt
apart_over x bytes (q ∷ pages) u le all =
    ((λ v. apart_flip (range_of q) (x.at, x.at + length bytes) (shorter (range_of q) x.at (length bytes) (length x.bytes) le (apart_flip (range_of x) (range_of q) (all.0 (inl u))))), apart_over x bytes pages u le all.1)

-- of what is lent of a range that an unwritten page does not meet, the page's range has no part
unmet : (x : Page) (pages : List Page) (p n : ℕ) → x.unwritten ≡ true → meets_unwritten (x ∷ pages) p n ≡ false → (are_apart (range_of x) (p, p + n) ≡ true) × (meets_unwritten pages p n ≡ false)
unmet x pages p n u e =
    let parts : ((x.unwritten && not (are_apart (range_of x) (p, p + n))) ≡ false) × (meets_unwritten pages p n ≡ false) = or_parts _ _ e in
    (not_false (are_apart (range_of x) (p, p + n)) (rw u at parts.0), parts.1)
  where
    not_false : (b : Bool) → not b ≡ false → b ≡ true
    not_false true e = refl
    not_false false e = absurd cc

-- some page does not meet the range, so the others do not
unmet_rest : (x : Page) (pages : List Page) (p n : ℕ) → meets_unwritten (x ∷ pages) p n ≡ false → meets_unwritten pages p n ≡ false
unmet_rest x pages p n e =
    let parts : ((x.unwritten && not (are_apart (range_of x) (p, p + n))) ≡ false) × (meets_unwritten pages p n ≡ false) = or_parts _ _ e in
    parts.1

pub lent_kept : (pages : List Page) (file : List ℕ) (p n : ℕ) (x : List ℕ) → kept pages p n ≡ Some x → lent pages file p n ≡ Some x
unfolding lent
lent_kept pages file p n x e = rw e refl

pub lent_file : (pages : List Page) (file : List ℕ) (p n : ℕ) (x : List ℕ) → kept pages p n ≡ None → meets_unwritten pages p n ≡ false → bytes_at file p n ≡ Some x → lent pages file p n ≡ Some x
unfolding lent
lent_file pages file p n x k m e = rw (k, m) e

none_kept_lent : (k : Option (List ℕ)) → ((x : List ℕ) → k ≡ Some x → ⊥) → k ≡ None
none_kept_lent None f = refl
none_kept_lent (Some x) f = absurd (f x refl)

-- what is lent: a page that is kept, or the file's bytes where none is
pub record FromFile (pages : List Page) (file : List ℕ) (p n : ℕ) (x : List ℕ) : Type 0 where
  pub none : kept pages p n ≡ None
  pub unmet : meets_unwritten pages p n ≡ false
  pub bytes : bytes_at file p n ≡ Some x

pub lent_from : (pages : List Page) (file : List ℕ) (p n : ℕ) (x : List ℕ) → lent pages file p n ≡ Some x → (kept pages p n ≡ Some x) ⊎ FromFile pages file p n x
unfolding lent
lent_from pages file p n x e = by (kept pages p n) refl e
  where
    by : (k : Option (List ℕ)) → kept pages p n ≡ k → option_or k (cond (meets_unwritten pages p n) None (bytes_at file p n)) ≡ Some x → (kept pages p n ≡ Some x) ⊎ FromFile pages file p n x
    by (Some y) is e = inl (is ∙ e)
    by None is e = elim (lent_cases None (meets_unwritten pages p n) (bytes_at file p n) x e) [
      | inl k ↦ absurd cc
      | inr off ↦ inr (record { none = is; unmet = off.0; bytes = off.1 })
    ]

pub lent_long : (pages : List Page) (file : List ℕ) (p n : ℕ) (x : List ℕ) → lent pages file p n ≡ Some x → length x ≡ n
lent_long pages file p n x e = elim (lent_from pages file p n x e) [
  | inl k ↦ kept_long pages p n x k
  | inr f ↦ bytes_long file p n x f.bytes
]

-- bytes were written over an unwritten page: of other ranges the same is lent
lent_over : (x y : Page) (pages : List Page) (file bytes : List ℕ) → x.unwritten ≡ true → length bytes ≤ length x.bytes → ((p n : ℕ) → kept (y ∷ pages) p n ≡ kept (x ∷ pages) p n) → ((p n : ℕ) → meets_unwritten (x ∷ pages) p n ≡ false → meets_unwritten (y ∷ pages) p n ≡ false)
    → (p n : ℕ) (z : List ℕ) → lent (x ∷ pages) file p n ≡ Some z → lent (y ∷ pages) (overwritten x.at bytes file) p n ≡ Some z
lent_over x y pages file bytes u le same met p n z e = elim (lent_from (x ∷ pages) file p n z e) [
  | inl k ↦ lent_kept (y ∷ pages) (overwritten x.at bytes file) p n z (same p n ∙ k)
  | inr f ↦
      let off = unmet x pages p n u f.unmet in
      let apart : are_apart (p, p + n) (x.at, x.at + length bytes) ≡ true = shorter (p, p + n) x.at (length bytes) (length x.bytes) le (apart_flip (range_of x) (p, p + n) off.0) in
      lent_file (y ∷ pages) (overwritten x.at bytes file) p n z (same p n ∙ f.none) (met p n f.unmet) (apart_read file x.at bytes p n z apart f.bytes)
]

pub same_kept : (x y : Page) (pages : List Page) (p n : ℕ) → y.at ≡ x.at → y.bytes ≡ x.bytes → kept (y ∷ pages) p n ≡ kept (x ∷ pages) p n
same_kept x y pages p n at bytes =
    elim (cases_Bool (is_page p n x)) [
      | inl is ↦ kept_first y pages p n (rw (at, bytes) is) ∙ ap Some bytes ∙ sym (kept_first x pages p n is)
      | inr other ↦ kept_later y pages p n (rw (at, bytes) other) ∙ sym (kept_later x pages p n other)
    ]

-- an unwritten page is written
pub wrote : (x : Page) (pages : List Page) (file : List ℕ) → x.unwritten ≡ true → Good (x ∷ pages) file → Keeping (x ∷ pages) (written x ∷ pages) file (overwritten x.at x.bytes file)
unfolding Pairs
wrote x pages file u good = record {
  good = record {
    clean = ((λ w. written_read file x.at x.bytes), clean_over file x x.bytes pages u (omega arith) good.placed.0 good.clean.1);
    placed = (placed_written x pages u good.placed.0, good.placed.1);
  };
  lent = lent_over x (written x) pages file x.bytes u (omega arith) (λ p n. same_kept x (written x) pages p n refl refl) (λ p n off. (unmet x pages p n u off).1);
  contents =
      flushed_written (written x) pages (overwritten x.at x.bytes file) refl
      ∙ flushed_over pages file x.at x.bytes (apart_over x x.bytes pages u (omega arith) good.placed.0)
      ∙ sym (flushed_unwritten x pages file u);
}

-- a part of it is, and it is still to be written
pub wrote_part : (x : Page) (pages : List Page) (file bytes : List ℕ) → x.unwritten ≡ true → length bytes ≤ length x.bytes → Good (x ∷ pages) file → Keeping (x ∷ pages) (x ∷ pages) file (overwritten x.at bytes file)
unfolding Pairs
wrote_part x pages file bytes u le good = record {
  good = record {
    clean = ((λ w. let both : true ≡ false = sym u ∙ w in absurd cc), clean_over file x bytes pages u le good.placed.0 good.clean.1);
    placed = good.placed;
  };
  lent = lent_over x x pages file bytes u le (λ p n. refl) (λ p n off. off);
  contents =
      flushed_unwritten x pages (overwritten x.at bytes file) u
      ∙ ap (overwritten x.at x.bytes) (flushed_over pages file x.at bytes (apart_over x bytes pages u le good.placed.0))
      ∙ write_twice x.at x.bytes bytes (flushed pages file) le
      ∙ sym (flushed_unwritten x pages file u);
}

-- a written page leaves
pub left : (x : Page) (pages : List Page) (file : List ℕ) → x.unwritten ≡ false → Pairs Differ (x ∷ pages) → Good (x ∷ pages) file → Keeping (x ∷ pages) pages file file
unfolding Pairs
left x pages file w differ good = record {
  good = record { clean = good.clean.1; placed = good.placed.1 };
  lent = λ p n z e. elim (lent_from (x ∷ pages) file p n z e) [
    | inl k ↦ elim (cases_Bool (is_page p n x)) [
      | inl is ↦
          let parts = and_parts _ _ is in
          let at : x.at ≡ p = eqb-true _ _ parts.0 in
          let len : length x.bytes ≡ n = eqb-true _ _ parts.1 in
          let same : Some x.bytes ≡ Some z = sym (kept_first x pages p n is) ∙ k in
          let met : meets_unwritten pages p n ≡ false = subst (λ (t : ℕ). meets_unwritten pages p t ≡ false) len (subst (λ (t : ℕ). meets_unwritten pages t (length x.bytes) ≡ false) at (off_placed x pages good.placed.0)) in
          let bytes : bytes_at file p n ≡ Some x.bytes = subst (λ (t : ℕ). bytes_at file p t ≡ Some x.bytes) len (subst (λ (t : ℕ). bytes_at file t (length x.bytes) ≡ Some x.bytes) at (good.clean.0 w)) in
          lent_file pages file p n z (not_named x pages p n differ.0 is) met (bytes ∙ same)
      | inr other ↦ lent_kept pages file p n z (sym (kept_later x pages p n other) ∙ k)
    ]
    | inr f ↦ elim (cases_Bool (is_page p n x)) [
      | inl is ↦ let both : Some x.bytes ≡ None = sym (kept_first x pages p n is) ∙ f.none in absurd cc
      | inr other ↦ lent_file pages file p n z (sym (kept_later x pages p n other) ∙ f.none) (sym (meets_later x pages p n w) ∙ f.unmet) f.bytes
    ]
  ];
  contents = sym (flushed_written x pages file w);
}

-- an unwritten page among these, from what is said of names
pub each_unwritten : (pages : List Page) (x : Page) → NoOtherMeets (is_unwritten pages) x.at (length x.bytes) → AllByRecursion (Differ x) pages → AllByRecursion (λ (q : Page). q.unwritten ≡ true → are_apart (range_of q) (range_of x) ≡ true) pages
unfolding is_unwritten
each_unwritten [] x apart differ = tt
each_unwritten (q ∷ pages) x apart differ = (
  λ u.
      let here : is_page q.at (length q.bytes) q ≡ true = and_from _ _ (eq-eqb q.at q.at refl) (eq-eqb (length q.bytes) (length q.bytes) refl) in
      elim (apart q.at (length q.bytes) (or_left _ _ (and_from _ _ here u))) [
        | inl same ↦ absurd (differ.0 (sym same.0) (sym same.1))
        | inr off ↦ off
      ],
  each_unwritten pages x (λ p n u. apart p n (or_right _ _ u)) differ.1,
)

each_kept : (all pages : List Page) (x : Page) → NoOtherMeets (is_kept all) x.at (length x.bytes) → ((p n : ℕ) → is_kept pages p n ≡ true → is_kept all p n ≡ true) → AllByRecursion (Differ x) pages → AllByRecursion (λ (q : Page). are_apart (range_of q) (range_of x) ≡ true) pages
each_kept all [] x apart more differ = tt
each_kept all (q ∷ pages) x apart more differ = (
  elim (apart q.at (length q.bytes) (more q.at (length q.bytes) (here q pages))) [
    | inl same ↦ absurd (differ.0 (sym same.0) (sym same.1))
    | inr off ↦ off
  ],
  each_kept all pages x apart (λ p n k. more p n (later q pages p n k)) differ.1,
)
  where
    here : (q : Page) (pages : List Page) → is_kept (q ∷ pages) q.at (length q.bytes) ≡ true
    here q pages = ap is_some (kept_first q pages q.at (length q.bytes) (and_from _ _ (eq-eqb q.at q.at refl) (eq-eqb (length q.bytes) (length q.bytes) refl)))

    later : (q : Page) (pages : List Page) (p n : ℕ) → is_kept pages p n ≡ true → is_kept (q ∷ pages) p n ≡ true
    later q pages p n k = elim (cases_Bool (is_page p n q)) [
      | inl is ↦ ap is_some (kept_first q pages p n is)
      | inr other ↦ ap is_some (kept_later q pages p n other) ∙ k
    ]

-- a page that was read is taken in
pub took : (x : Page) (pages : List Page) (file : List ℕ) → x.unwritten ≡ false → AllByRecursion (Differ x) pages → NoOtherMeets (is_unwritten pages) x.at (length x.bytes) → bytes_at file x.at (length x.bytes) ≡ Some x.bytes → Good pages file
    → Keeping pages (x ∷ pages) file file
unfolding Pairs
took x pages file w differ apart read good = record {
  good = record {
    clean = ((λ u. read), good.clean);
    placed = (placed pages (each_unwritten pages x apart differ), good.placed);
  };
  lent = λ p n z e. elim (cases_Bool (is_page p n x)) [
    | inl is ↦
        let parts = and_parts _ _ is in
        let at : x.at ≡ p = eqb-true _ _ parts.0 in
        let len : length x.bytes ≡ n = eqb-true _ _ parts.1 in
        let bytes : bytes_at file p n ≡ Some x.bytes = subst (λ (t : ℕ). bytes_at file p t ≡ Some x.bytes) len (subst (λ (t : ℕ). bytes_at file t (length x.bytes) ≡ Some x.bytes) at read) in
        lent_kept (x ∷ pages) file p n z (kept_first x pages p n is ∙ elim (lent_from pages file p n z e) [
          | inl k ↦ let both : None ≡ Some z = sym (not_named x pages p n differ is) ∙ k in absurd cc
          | inr f ↦ sym bytes ∙ f.bytes
        ])
    | inr other ↦ elim (lent_from pages file p n z e) [
      | inl k ↦ lent_kept (x ∷ pages) file p n z (kept_later x pages p n other ∙ k)
      | inr f ↦ lent_file (x ∷ pages) file p n z (kept_later x pages p n other ∙ f.none) (meets_later x pages p n w ∙ f.unmet) f.bytes
    ]
  ];
  contents = flushed_written x pages file w;
}
  where
    each : (q : Page) → (q.unwritten ≡ true → are_apart (range_of q) (range_of x) ≡ true) → ArePlaced x q
    each q f (inl u) = let both : true ≡ false = sym u ∙ w in absurd cc
    each q f (inr u) = apart_flip (range_of q) (range_of x) (f u)

    placed : (ps : List Page) → AllByRecursion (λ (q : Page). q.unwritten ≡ true → are_apart (range_of q) (range_of x) ≡ true) ps → AllByRecursion (ArePlaced x) ps
    placed [] all = tt
    placed (q ∷ ps) all = (each q all.0, placed ps all.1)

-- ---- a page is put

-- the page is lent, of other ranges the same is lent, and the file with all puts has its bytes
pub record Putting (at : ℕ) (bytes : List ℕ) (old new : List Page) (before after : List ℕ) : Type 0 where
  pub good : Good new after
  pub there : lent new after at (length bytes) ≡ Some bytes
  pub lent : (p n : ℕ) (x : List ℕ) → are_apart (p, p + n) (at, at + length bytes) ≡ true → lent old before p n ≡ Some x → lent new after p n ≡ Some x
  pub contents : flushed new after ≡ overwritten at bytes (flushed old before)

pub putting_then : (at : ℕ) (bytes : List ℕ) (a b c : List Page) (f g h : List ℕ) → Putting at bytes a b f g → Keeping b c g h → Putting at bytes a c f h
putting_then at bytes a b c f g h one two = record {
  good = two.good;
  there = two.lent at (length bytes) bytes one.there;
  lent = λ p n x apart e. two.lent p n x (one.lent p n x apart e);
  contents = two.contents ∙ one.contents;
}

pub after_keeping : (at : ℕ) (bytes : List ℕ) (a b c : List Page) (f g : List ℕ) → Keeping a b f f → Putting at bytes b c f g → Putting at bytes a c f g
after_keeping at bytes a b c f g one two = record {
  good = two.good;
  there = two.there;
  lent = λ p n x apart e. two.lent p n x apart (one.lent p n x e);
  contents = two.contents ∙ ap (overwritten at bytes) one.contents;
}

-- a range that is apart from one of its own place and length has no bytes
empty : (at len : ℕ) → are_apart (at, at + len) (at, at + len) ≡ true → len ≡ 0
empty at len apart = elim (or_cases (leb (at + len) at) (leb (at + len) at) apart) [
  | inl e ↦ omega (arith, leb-true _ _ e)
  | inr e ↦ omega (arith, leb-true _ _ e)
]

no_bytes : (x y : List ℕ) → length x ≡ 0 → length y ≡ 0 → x ≡ y
no_bytes [] [] e f = refl
no_bytes [] (b ∷ y) e f = absurd (omega arith)
no_bytes (b ∷ x) y e f = absurd (omega arith)

put_placed : (x : Page) (pages : List Page) → AllByRecursion (λ (q : Page). are_apart (range_of q) (range_of x) ≡ true) pages → AllByRecursion (ArePlaced x) pages
put_placed x [] all = tt
put_placed x (q ∷ pages) all = ((λ u. apart_flip (range_of q) (range_of x) all.0), put_placed x pages all.1)

-- an unwritten page and a range that it does not meet
meets_front : (x : Page) (pages : List Page) (p n : ℕ) → are_apart (range_of x) (p, p + n) ≡ true → meets_unwritten pages p n ≡ false → meets_unwritten (x ∷ pages) p n ≡ false
meets_front x pages p n apart e = elim (cases_Bool x.unwritten) [
  | inl u ↦ rw (u, apart) e
  | inr w ↦ rw w e
]

-- a page that is not kept is put
pub put_new : (x : Page) (pages : List Page) (file : List ℕ) → x.unwritten ≡ true → AllByRecursion (Differ x) pages → NoOtherMeets (is_kept pages) x.at (length x.bytes) → Good pages file → Putting x.at x.bytes pages (x ∷ pages) file file
unfolding Pairs
put_new x pages file u differ apart good = record {
  good = record {
    clean = ((λ w. let both : true ≡ false = sym u ∙ w in absurd cc), good.clean);
    placed = (put_placed x pages (each_kept pages pages x apart (λ p n k. k) differ), good.placed);
  };
  there = lent_kept (x ∷ pages) file x.at (length x.bytes) x.bytes (kept_first x pages x.at (length x.bytes) (and_from _ _ (eq-eqb x.at x.at refl) (eq-eqb (length x.bytes) (length x.bytes) refl)));
  lent = λ p n z off e. elim (cases_Bool (is_page p n x)) [
    | inl is ↦
        let parts = and_parts _ _ is in
        let at : x.at ≡ p = eqb-true _ _ parts.0 in
        let len : length x.bytes ≡ n = eqb-true _ _ parts.1 in
        let none : n ≡ 0 = empty p n (subst (λ (t : ℕ). are_apart (p, p + n) (t, t + n) ≡ true) at (subst (λ (t : ℕ). are_apart (p, p + n) (x.at, x.at + t) ≡ true) len off)) in
        lent_kept (x ∷ pages) file p n z (kept_first x pages p n is ∙ ap Some (no_bytes x.bytes z (len ∙ none) (lent_long pages file p n z e ∙ none)))
    | inr other ↦ elim (lent_from pages file p n z e) [
      | inl k ↦ lent_kept (x ∷ pages) file p n z (kept_later x pages p n other ∙ k)
      | inr f ↦ lent_file (x ∷ pages) file p n z (kept_later x pages p n other ∙ f.none) (meets_front x pages p n (apart_flip (p, p + n) (range_of x) off) f.unmet) f.bytes
    ]
  ];
  contents = flushed_unwritten x pages file u;
}

-- a page that is kept has other bytes
pub put_over : (x y : Page) (pages : List Page) (file : List ℕ) → y.at ≡ x.at → length y.bytes ≡ length x.bytes → y.unwritten ≡ true → AllByRecursion (Differ x) pages → NoOtherMeets (is_kept (x ∷ pages)) x.at (length x.bytes) → Good (x ∷ pages) file
    → Putting y.at y.bytes (x ∷ pages) (y ∷ pages) file file
unfolding Pairs
put_over x y pages file at len u differ apart good =
    let differ1 : AllByRecursion (Differ y) pages = each_differ pages differ in
    let apart1 : AllByRecursion (λ (q : Page). are_apart (range_of q) (range_of y) ≡ true) pages = rw (at, len) (each_kept (x ∷ pages) pages x apart (λ p n k. kept_also p n k) differ) in
    record {
      good = record {
        clean = ((λ w. let both : true ≡ false = sym u ∙ w in absurd cc), good.clean.1);
        placed = (put_placed y pages apart1, good.placed.1);
      };
      there = lent_kept (y ∷ pages) file y.at (length y.bytes) y.bytes (kept_first y pages y.at (length y.bytes) (and_from _ _ (eq-eqb y.at y.at refl) (eq-eqb (length y.bytes) (length y.bytes) refl)));
      lent = λ p n z off e. elim (cases_Bool (is_page p n y)) [
        | inl is ↦
            let parts = and_parts _ _ is in
            let here : y.at ≡ p = eqb-true _ _ parts.0 in
            let long : length y.bytes ≡ n = eqb-true _ _ parts.1 in
            let none : n ≡ 0 = empty p n (subst (λ (t : ℕ). are_apart (p, p + n) (t, t + n) ≡ true) here (subst (λ (t : ℕ). are_apart (p, p + n) (y.at, y.at + t) ≡ true) long off)) in
            lent_kept (y ∷ pages) file p n z (kept_first y pages p n is ∙ ap Some (no_bytes y.bytes z (long ∙ none) (lent_long (x ∷ pages) file p n z e ∙ none)))
        | inr other ↦
            let other1 : is_page p n x ≡ false = rw (← at, ← len) other in
            elim (lent_from (x ∷ pages) file p n z e) [
              | inl k ↦ lent_kept (y ∷ pages) file p n z (kept_later y pages p n other ∙ sym (kept_later x pages p n other1) ∙ k)
              | inr f ↦ lent_file (y ∷ pages) file p n z (kept_later y pages p n other ∙ sym (kept_later x pages p n other1) ∙ f.none) (meets_front y pages p n (apart_flip (p, p + n) (range_of y) off) (unmet_rest x pages p n f.unmet)) f.bytes
            ]
      ];
      contents = flushed_unwritten y pages file u ∙ over (flushed pages file) (cases_Bool x.unwritten);
    }
  where
    each_differ : (ps : List Page) → AllByRecursion (Differ x) ps → AllByRecursion (Differ y) ps
    each_differ [] all = tt
    each_differ (q ∷ ps) all = ((λ a l. all.0 (sym at ∙ a) (sym len ∙ l)), each_differ ps all.1)

    kept_also : (p n : ℕ) → is_kept pages p n ≡ true → is_kept (x ∷ pages) p n ≡ true
    kept_also p n k = elim (cases_Bool (is_page p n x)) [
      | inl is ↦ ap is_some (kept_first x pages p n is)
      | inr other ↦ ap is_some (kept_later x pages p n other) ∙ k
    ]

    over : (g : List ℕ) → (x.unwritten ≡ true) ⊎ (x.unwritten ≡ false) → overwritten y.at y.bytes (flushed pages file) ≡ overwritten y.at y.bytes (flushed (x ∷ pages) file)
    over g (inl v) = sym (ap (overwritten y.at y.bytes) (flushed_unwritten x pages file v ∙ ap (λ (t : ℕ). overwritten t x.bytes (flushed pages file)) (sym at)) ∙ write_twice y.at y.bytes x.bytes (flushed pages file) (omega arith))
    over g (inr v) = sym (ap (overwritten y.at y.bytes) (flushed_written x pages file v))
