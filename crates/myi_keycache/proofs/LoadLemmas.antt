-- A page that is taken in: what stays of the others, and what the cache lends.
use Rattle.std.proofs.Common.{◌≡◌, ℕ, ◌+◌, Bool, true, false, ◌||◌, cond, List, [], ◌∷◌, length, drop, slice_get, position, Option, None, Some, refl, sym, ap, subst, ◌∙◌, arith, inl, inr}
use Rattle.std.specs.Prelude.{◌&&◌, nat_le, is_some, find, option_map, IfSome, if◌then◌else◌}
use Rattle.std.specs.List.{AllByRecursion}
use Rattle.std.proofs.lemmas.Bool.{cases_Bool, and_parts, eqb-true, or_right}
use Rattle.std.proofs.lemmas.List.Sums.{sum_by-cons}
use Rattle.myi_base.specs.Ranges.{are_apart}
use Rattle.myi_keycache.specs.Kept.{Page, KeptPage, range_of, is_page, kept, is_kept, is_unwritten, unwritten_count, NoOtherMeets, AddsOnly, ChangesNone}
use Rattle.myi_keycache.specs.Lent.{bytes_at, meets_unwritten, lent}
use Rattle.myi_keycache.specs.Order.{Order, Split, with_page, as_written, contents_of, has_name, page_of, room_in, Pairs, Differ, Alike, PagesStay, IsFirstWritten}
use Rattle.myi_keycache.proofs.KeptLemmas.{kept_first, kept_later}
use Rattle.myi_keycache.proofs.StaysLemmas.{Good, Keeping, Putting, keeping_same, keeping_then, keeping_alike, putting_then, after_keeping, left, took, put_new, lent_file, lent_from, each_unwritten}
use Rattle.myi_keycache.proofs.OrderLemmas.{get_middle}
use Rattle.myi_keycache.proofs.HitLemmas.{contents_at}
use Rattle.myi_keycache.proofs.TakeLemmas.{not_there, others_differ}

-- ---- the pages without the first, or all

abbrev pub rest : Bool → List Page → List Page
rest b pages = if b then drop 1 pages else pages

rest_all : (P : Page → Type 0) (b : Bool) (pages : List Page) → AllByRecursion P pages → AllByRecursion P (rest b pages)
rest_all P false pages all = all
rest_all P true [] all = tt
rest_all P true (x ∷ pages) all = all.1

pub rest_differ : (b : Bool) (pages : List Page) → Pairs Differ pages → Pairs Differ (rest b pages)
unfolding Pairs
rest_differ false pages d = d
rest_differ true [] d = tt
rest_differ true (x ∷ pages) d = d.1

rest_kept : (b : Bool) (pages : List Page) (p n : ℕ) → is_kept (rest b pages) p n ≡ true → is_kept pages p n ≡ true
rest_kept false pages p n k = k
rest_kept true [] p n k = k
rest_kept true (x ∷ pages) p n k = elim (cases_Bool (is_page p n x)) [
  | inl is ↦ ap is_some (kept_first x pages p n is)
  | inr other ↦ ap is_some (kept_later x pages p n other) ∙ k
]

pub rest_unwritten : (b : Bool) (pages : List Page) (p n : ℕ) → is_unwritten (rest b pages) p n ≡ true → is_unwritten pages p n ≡ true
unfolding is_unwritten
rest_unwritten false pages p n u = u
rest_unwritten true [] p n u = u
rest_unwritten true (x ∷ pages) p n u = or_right _ _ u

rest_keeping : (b : Bool) (pages : List Page) (file : List ℕ) → (b ≡ true → IsFirstWritten pages) → Pairs Differ pages → Good pages file → Keeping pages (rest b pages) file file
rest_keeping false pages file first d good = keeping_same pages file good
rest_keeping true [] file first d good = keeping_same [] file good
rest_keeping true (x ∷ pages) file first d good = left x pages file (first refl) d good

rest_count : (b : Bool) (pages : List Page) → (b ≡ true → IsFirstWritten pages) → unwritten_count (rest b pages) ≡ unwritten_count pages
unfolding unwritten_count
rest_count false pages first = refl
rest_count true [] first = refl
rest_count true (x ∷ pages) first =
    let none : cond {A = ℕ} x.unwritten 1 0 ≡ cond {A = ℕ} false 1 0 = ap (λ (t : Bool). cond {A = ℕ} t 1 0) (first refl) in
    omega (arith, sum_by-cons (λ (p : Page). cond {A = ℕ} p.unwritten 1 0) x pages, none)

-- ---- a page that is not kept

pub not_kept : (at len : ℕ) (pages : List KeptPage) → position (has_name at len) pages ≡ None → kept (contents_of pages) at len ≡ None
unfolding kept
not_kept at len pages e = each pages (not_there (has_name at len) pages e)
  where
    each : (ps : List KeptPage) → AllByRecursion (λ p. has_name at len p ≡ false) ps → option_map (λ (p : Page). p.bytes) (find (is_page at len) (contents_of ps)) ≡ None
    each [] all = refl
    each (p ∷ ps) all = rw all.0 (each ps all.1)

none_met : (x : Page) (pages : List Page) → AllByRecursion (λ (q : Page). q.unwritten ≡ true → are_apart (range_of q) (range_of x) ≡ true) pages → meets_unwritten pages x.at (length x.bytes) ≡ false
none_met x [] all = refl
none_met x (q ∷ pages) all =
    elim (cases_Bool q.unwritten) [
      | inl u ↦ rw (u, all.0 u) (none_met x pages all.1)
      | inr w ↦ rw w (none_met x pages all.1)
    ]

pub kept_false : (pages : List Page) (at len : ℕ) → kept pages at len ≡ None → is_kept pages at len ≡ true → ⊥
kept_false pages at len none k = let both : false ≡ true = ap is_some (sym none) ∙ k in absurd cc

none_of_kept : (k : Option (List ℕ)) → (is_some k ≡ true → ⊥) → k ≡ None
none_of_kept None f = refl
none_of_kept (Some x) f = absurd (f refl)

-- what was read of a page that is not kept is lent
pub read_lent : (pages : List KeptPage) (file : List ℕ) (at len : ℕ) (bytes : List ℕ) → position (has_name at len) pages ≡ None → NoOtherMeets (is_unwritten (contents_of pages)) at len → length bytes ≡ len → bytes_at file at len ≡ Some bytes → lent (contents_of pages) file at len ≡ Some bytes
read_lent pages file at len bytes none apart long read =
    let x : Page = page_of at bytes false in
    let differ : AllByRecursion (Differ x) (contents_of pages) = others_differ at bytes false pages (subst (λ n. AllByRecursion (λ p. has_name at n p ≡ false) pages) (sym long) (not_there (has_name at len) pages none)) in
    let apart1 : NoOtherMeets (is_unwritten (contents_of pages)) at (length bytes) = subst (λ n. NoOtherMeets (is_unwritten (contents_of pages)) at n) (sym long) apart in
    let met : meets_unwritten (contents_of pages) at len ≡ false = subst (λ n. meets_unwritten (contents_of pages) at n ≡ false) long (none_met x (contents_of pages) (each_unwritten (contents_of pages) x apart1 differ)) in
    lent_file (contents_of pages) file at len bytes (not_kept at len pages none) met read

pub read_none : (pages : List KeptPage) (file : List ℕ) (at len : ℕ) → position (has_name at len) pages ≡ None → bytes_at file at len ≡ None → lent (contents_of pages) file at len ≡ None
unfolding lent
read_none pages file at len none short = rw (not_kept at len pages none, short) (both (meets_unwritten (contents_of pages) at len))
  where
    both : (b : Bool) → cond {A = Option (List ℕ)} b None None ≡ None
    both true = refl
    both false = refl

-- ---- a page is taken in

-- the pages before, those that stay, and the page that is taken in
pub record Room (o mid : Order) (at len : ℕ) : Type 0 where
  pub differ : Pairs Differ (contents_of mid.pages)
  pub none : position (has_name at len) mid.pages ≡ None
  pub first : nat_le mid.setup.blocks (length mid.pages) ≡ true → IsFirstWritten (contents_of mid.pages)
  pub stay : PagesStay o mid

pub room_is : (o mid : Order) (at len : ℕ) → Pairs Differ (contents_of o.pages) → position (has_name at len) o.pages ≡ None → PagesStay o mid → (nat_le mid.setup.blocks (length mid.pages) ≡ true → IsFirstWritten (contents_of mid.pages)) → Room o mid at len
room_is o mid at len differ none stay first = record { differ = stay.differ differ; none = stay.named at len ∙ none; first = first; stay = stay }

rest_not_kept : (o mid : Order) (at len : ℕ) → Room o mid at len → kept (room_in mid) at len ≡ None
rest_not_kept o mid at len r = none_of_kept _ (λ k. kept_false (contents_of mid.pages) at len (not_kept at len mid.pages r.none) (rest_kept (nat_le mid.setup.blocks (length mid.pages)) (contents_of mid.pages) at len k))

pub rest_others : (o mid : Order) (at : ℕ) (bytes : List ℕ) (unwritten : Bool) → Room o mid at (length bytes) → AllByRecursion (Differ (page_of at bytes unwritten)) (room_in mid)
rest_others o mid at bytes unwritten r =
    rest_all _ (nat_le mid.setup.blocks (length mid.pages)) (contents_of mid.pages) (others_differ at bytes unwritten mid.pages (not_there (has_name at (length bytes)) mid.pages r.none))

room_keeping : (o mid : Order) (at len : ℕ) (file : List ℕ) → Room o mid at len → Good (contents_of mid.pages) file → Keeping (contents_of mid.pages) (room_in mid) file file
room_keeping o mid at len file r good = rest_keeping (nat_le mid.setup.blocks (length mid.pages)) (contents_of mid.pages) file r.first r.differ good

pub loaded : (o mid new : Order) (at : ℕ) (bytes file : List ℕ) → Room o mid at (length bytes) → Alike (page_of at bytes false ∷ room_in mid) (contents_of new.pages) → NoOtherMeets (is_unwritten (contents_of o.pages)) at (length bytes)
    → lent (contents_of mid.pages) file at (length bytes) ≡ Some bytes → Good (contents_of mid.pages) file → Keeping (contents_of mid.pages) (contents_of new.pages) file file
unfolding Pairs
loaded o mid new at bytes file r alike apart shown good =
    let x : Page = page_of at bytes false in
    let k = room_keeping o mid at (length bytes) file r good in
    let others = rest_others o mid at bytes false r in
    let rest_lent = k.lent at (length bytes) bytes shown in
    let read : bytes_at file at (length bytes) ≡ Some bytes = elim (lent_from (room_in mid) file at (length bytes) bytes rest_lent) [
      | inl found ↦ let both : None ≡ Some bytes = sym (rest_not_kept o mid at (length bytes) r) ∙ found in absurd cc
      | inr f ↦ f.bytes
    ] in
    let apart1 : NoOtherMeets (is_unwritten (room_in mid)) at (length bytes) = λ p n u. apart p n (r.stay.unwritten p n (rest_unwritten (nat_le mid.setup.blocks (length mid.pages)) (contents_of mid.pages) p n u)) in
    let t = took x (room_in mid) file refl others apart1 read k.good in
    let d : Pairs Differ (x ∷ room_in mid) = (others, rest_differ (nat_le mid.setup.blocks (length mid.pages)) (contents_of mid.pages) r.differ) in
    keeping_then _ _ _ file file file k (keeping_then _ _ _ file file file t (keeping_alike (x ∷ room_in mid) (contents_of new.pages) file d alike t.good))

pub put_in : (o mid new : Order) (at : ℕ) (bytes file : List ℕ) → Room o mid at (length bytes) → Alike (page_of at bytes true ∷ room_in mid) (contents_of new.pages) → NoOtherMeets (is_kept (contents_of o.pages)) at (length bytes)
    → Good (contents_of mid.pages) file → Putting at bytes (contents_of mid.pages) (contents_of new.pages) file file
unfolding Pairs
put_in o mid new at bytes file r alike apart good =
    let x : Page = page_of at bytes true in
    let k = room_keeping o mid at (length bytes) file r good in
    let others = rest_others o mid at bytes true r in
    let apart1 : NoOtherMeets (is_kept (room_in mid)) at (length bytes) = λ p n found.
    apart p n (ap is_some (sym (r.stay.kept p n)) ∙ rest_kept (nat_le mid.setup.blocks (length mid.pages)) (contents_of mid.pages) p n found) in
    let t = put_new x (room_in mid) file refl others apart1 k.good in
    let d : Pairs Differ (x ∷ room_in mid) = (others, rest_differ (nat_le mid.setup.blocks (length mid.pages)) (contents_of mid.pages) r.differ) in
    after_keeping at bytes _ _ _ file file k (putting_then at bytes _ _ _ file file file t (keeping_alike (x ∷ room_in mid) (contents_of new.pages) file d alike t.good))

-- which pages are kept, and which are unwritten, afterwards
pub adds_only : (o mid new : Order) (at : ℕ) (bytes : List ℕ) (unwritten : Bool) → Room o mid at (length bytes) → Alike (page_of at bytes unwritten ∷ room_in mid) (contents_of new.pages) → AddsOnly at (length bytes) (contents_of o.pages) (contents_of new.pages)
unfolding Pairs
adds_only o mid new at bytes unwritten r alike p n found =
    let x : Page = page_of at bytes unwritten in
    let b : Bool = nat_le mid.setup.blocks (length mid.pages) in
    let d : Pairs Differ (x ∷ room_in mid) = (rest_others o mid at bytes unwritten r, rest_differ b (contents_of mid.pages) r.differ) in
    let there : is_kept (x ∷ room_in mid) p n ≡ true = ap is_some (sym (alike.kept d p n)) ∙ found in
    elim (cases_Bool (is_page p n x)) [
      | inl is ↦ let parts = and_parts _ _ is in inr (sym (eqb-true _ _ parts.0), sym (eqb-true _ _ parts.1))
      | inr other ↦ inl (ap is_some (sym (r.stay.kept p n)) ∙ rest_kept b (contents_of mid.pages) p n (ap is_some (sym (kept_later x (room_in mid) p n other)) ∙ there))
    ]

pub changes_none : (o mid new : Order) (at : ℕ) (bytes : List ℕ) → Room o mid at (length bytes) → Alike (page_of at bytes false ∷ room_in mid) (contents_of new.pages) → ChangesNone (contents_of o.pages) (contents_of new.pages)
unfolding is_unwritten
changes_none o mid new at bytes r alike p n u =
    let x : Page = page_of at bytes false in
    let there : is_unwritten (x ∷ room_in mid) p n ≡ true = sym (alike.unwritten p n) ∙ u in
    r.stay.unwritten p n (rest_unwritten (nat_le mid.setup.blocks (length mid.pages)) (contents_of mid.pages) p n (behind (is_page p n x) there))
  where
    behind : (b : Bool) → ((b && false) || is_unwritten (room_in mid) p n) ≡ true → is_unwritten (room_in mid) p n ≡ true
    behind true e = e
    behind false e = e

pub count_taken : (o mid new : Order) (at : ℕ) (bytes : List ℕ) (unwritten : Bool) → Room o mid at (length bytes) → Alike (page_of at bytes unwritten ∷ room_in mid) (contents_of new.pages)
    → unwritten_count (contents_of new.pages) ≡ cond {A = ℕ} unwritten 1 0 + unwritten_count (contents_of mid.pages)
unfolding unwritten_count
count_taken o mid new at bytes unwritten r alike =
    let x : Page = page_of at bytes unwritten in
    let a = alike.count in
    let b = rest_count (nat_le mid.setup.blocks (length mid.pages)) (contents_of mid.pages) r.first in
    let c : unwritten_count (x ∷ room_in mid) ≡ cond {A = ℕ} unwritten 1 0 + unwritten_count (room_in mid) = sum_by-cons (λ (p : Page). cond {A = ℕ} p.unwritten 1 0) x (room_in mid) in
    omega (arith, a, b, c)

pub first_written : (o new : Order) (s : Split o.pages 0) → new ≡ record o { pages = with_page s (as_written s.page) } → IsFirstWritten (contents_of new.pages)
first_written o new s is =
    let at : slice_get (with_page s (as_written s.page)) 0 ≡ Some (as_written s.page) = get_middle s.front (as_written s.page) s.back 0 s.long in
    let there : slice_get (contents_of new.pages) 0 ≡ Some (as_written s.page).page = contents_at new.pages 0 (as_written s.page) (ap (λ (t : Order). slice_get t.pages 0) is ∙ at) in
    subst (λ (q : Option Page). IfSome q (λ p. p.unwritten ≡ false)) (sym there) refl
