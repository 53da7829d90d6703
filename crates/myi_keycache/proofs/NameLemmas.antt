-- The names of the unwritten pages: as the map has them, and as indexes of the order.
use Rattle.std.proofs.Common.{◌≡◌, ℕ, zero, suc, ◌+◌, ◌≤◌, ◌<◌, Bool, true, false, List, [], ◌∷◌, ◌++◌, length, map, filter, take, drop, slice_get, get_or, position, Option, Some, cond, refl, sym, ap, subst, ◌∙◌, arith, append_assoc, append-nil}
use Rattle.std.specs.Prelude.{◌==◌, unwrap_or, if◌then◌else◌}
use Rattle.std.specs.List.{AllByRecursion}
use Rattle.std.specs.List.Sorted.{IsPermutation, IsNonDecreasingBy}
use Rattle.std.proofs.lemmas.Bool.{and_from, eq-eqb}
use Rattle.std.proofs.lemmas.List.{map-append, length-map, length-append}
use Rattle.std.proofs.lemmas.List.Elements.{All-from_recursion, recursion_from_All}
use Rattle.std.proofs.lemmas.List.Sorted.{All-permutation, IsPermutation-map, IsPermutation-sym}
use Rattle.std.proofs.lemmas.Option.{same_Some, slice_get-get_or, get_or_from_slice_get}
use Rattle.myi_keycache.specs.declared.setup.CacheSetup.{CacheSetup}
use Rattle.myi_keycache.specs.declared.blocks.PageName.{PageName}
use Rattle.myi_keycache.specs.declared.blocks.Block.{Block}
use Rattle.myi_keycache.specs.Kept.{Page, KeptPage, is_page}
use Rattle.myi_keycache.specs.Flushing.{unwritten_of}
use Rattle.myi_keycache.specs.Ring.{Linked}
use Rattle.myi_keycache.specs.Order.{Order, page_in, page_at, ordered_by, IsStored, Pairs, Differ, HoldsPages, below, contents_of, has_name, unwritten_names, names_in}
use Rattle.myi_keycache.proofs.FrontLemmas.{pairs_out, differ_flip}
use Rattle.myi_keycache.proofs.RingLemmas.{get_mapped}
use Rattle.myi_keycache.proofs.SlotLemmas.{entry_at, page_is, fails, position_here}
use Rattle.myi_keycache.proofs.FlushLemmas.{unwritten_from}

-- ---- the unwritten pages of the map

drop_one : (es : List (PageName × Block)) (i : ℕ) (e : PageName × Block) → slice_get es i ≡ Some e → drop i es ≡ e ∷ drop (i + 1) es
drop_one [] i e at = absurd cc
drop_one (x ∷ es) zero e at = ap (λ (t : PageName × Block). t ∷ es) (same_Some x e at)
drop_one (x ∷ es) (suc i) e at = let n : suc (i + 1) ≡ suc i + 1 = omega arith in drop_one es i e at ∙ ap (λ (k : ℕ). e ∷ drop k (x ∷ es)) n

names_first : (e : PageName × Block) (es : List (PageName × Block)) (b : Bool) → e.1.unwritten ≡ b → names_in (e ∷ es) ≡ (if b then e.0 ∷ names_in es else names_in es)
names_first e es true is = ap (λ (t : Bool). map (λ (e : PageName × Block). e.0) (cond t (e ∷ filter (λ (e : PageName × Block). e.1.unwritten) es) (filter (λ (e : PageName × Block). e.1.unwritten) es))) is
names_first e es false is = ap (λ (t : Bool). map (λ (e : PageName × Block). e.0) (cond t (e ∷ filter (λ (e : PageName × Block). e.1.unwritten) es) (filter (λ (e : PageName × Block). e.1.unwritten) es))) is

pub found_more : (es : List (PageName × Block)) (found found1 : List PageName) (i : ℕ) (e : PageName × Block) → slice_get es i ≡ Some e → e.1.unwritten ≡ true → found1 ≡ found ++ e.0 ∷ [] → found ++ names_in (drop i es) ≡ names_in es → found1 ++ names_in (drop (i + 1) es) ≡ names_in es
found_more es found found1 i e got u is before =
    ap (λ l. l ++ names_in (drop (i + 1) es)) is ∙ append_assoc found (e.0 ∷ []) (names_in (drop (i + 1) es))
    ∙ ap (λ l. found ++ l) (sym (ap names_in (drop_one es i e got) ∙ names_first e (drop (i + 1) es) true u)) ∙ before

pub found_skip : (es : List (PageName × Block)) (found found1 : List PageName) (i : ℕ) (e : PageName × Block) → slice_get es i ≡ Some e → e.1.unwritten ≡ false → found1 ≡ found → found ++ names_in (drop i es) ≡ names_in es → found1 ++ names_in (drop (i + 1) es) ≡ names_in es
found_skip es found found1 i e got u is before =
    ap (λ l. l ++ names_in (drop (i + 1) es)) is
    ∙ ap (λ l. found ++ l) (sym (ap names_in (drop_one es i e got) ∙ names_first e (drop (i + 1) es) false u)) ∙ before

pub found_all : (es : List (PageName × Block)) (found : List PageName) (i : ℕ) → length es ≤ i → found ++ names_in (drop i es) ≡ names_in es → found ≡ names_in es
found_all es found i le e = sym (append-nil found) ∙ ap (λ l. found ++ names_in l) (sym (gone es i le)) ∙ e
  where
    gone : (es : List (PageName × Block)) (i : ℕ) → length es ≤ i → drop i es ≡ []
    gone [] zero le = refl
    gone [] (suc i) le = refl
    gone (x ∷ es) zero le = absurd (omega arith)
    gone (x ∷ es) (suc i) le = gone es i (omega arith)

-- ---- the same names in the order of the lists

abbrev name_of : Page → PageName
name_of p = record { at = p.at; size = length p.bytes }

-- the names of the unwritten ones of some indexes
names_at : (es : List (PageName × Block)) (slots : List ℕ) → unwritten_names (contents_of (map (page_at es) slots)) ≡ map (λ (m : ℕ). name_of (page_at es m).page) (filter (λ (m : ℕ). (page_at es m).page.unwritten) slots)
names_at es [] = refl
names_at es (m ∷ slots) = by (page_at es m).page.unwritten (names_at es slots)
  where
    by : (b : Bool) → unwritten_names (contents_of (map (page_at es) slots)) ≡ map (λ (m : ℕ). name_of (page_at es m).page) (filter (λ (m : ℕ). (page_at es m).page.unwritten) slots)
        → map name_of (cond b ((page_at es m).page ∷ unwritten_of (contents_of (map (page_at es) slots))) (unwritten_of (contents_of (map (page_at es) slots))))
        ≡ map (λ (m : ℕ). name_of (page_at es m).page) (cond b (m ∷ filter (λ (m : ℕ). (page_at es m).page.unwritten) slots) (filter (λ (m : ℕ). (page_at es m).page.unwritten) slots))
    by true rest = ap (λ (l : List PageName). name_of (page_at es m).page ∷ l) rest
    by false rest = rest

take_more : (es : List (PageName × Block)) (n : ℕ) (e : PageName × Block) → slice_get es n ≡ Some e → take (suc n) es ≡ take n es ++ e ∷ []
take_more [] n e at = absurd cc
take_more (x ∷ es) zero e at = ap (λ (t : PageName × Block). t ∷ []) (same_Some x e at)
take_more (x ∷ es) (suc n) e at = ap (λ (l : List (PageName × Block)). x ∷ l) (take_more es n e at)

take_whole : (es : List (PageName × Block)) → take (length es) es ≡ es
take_whole [] = refl
take_whole (x ∷ es) = ap (λ (l : List (PageName × Block)). x ∷ l) (take_whole es)

pages_below : (es : List (PageName × Block)) (n : ℕ) → n ≤ length es → map (page_at es) (below n) ≡ map page_in (take n es)
pages_below es zero le = refl
pages_below es (suc n) le =
    let e = entry_at es n (omega arith) in
    map-append (page_at es) (below n) (n ∷ []) ∙ (λ i. pages_below es n (omega arith) i ++ page_is es n e.0 e.1 i ∷ [])
    ∙ sym (map-append page_in (take n es) (e.0 ∷ [])) ∙ ap (map page_in) (sym (take_more es n e.0 e.1))

names_stored : (es : List (PageName × Block)) → AllByRecursion IsStored es → unwritten_names (contents_of (map page_in es)) ≡ names_in es
names_stored [] all = refl
names_stored (e ∷ es) all = by e.1.unwritten (names_stored es all.1)
  where
    by : (b : Bool) → unwritten_names (contents_of (map page_in es)) ≡ names_in es
        → map name_of (cond b ((page_in e).page ∷ unwritten_of (contents_of (map page_in es))) (unwritten_of (contents_of (map page_in es))))
        ≡ map (λ (e : PageName × Block). e.0) (cond b (e ∷ filter (λ (e : PageName × Block). e.1.unwritten) es) (filter (λ (e : PageName × Block). e.1.unwritten) es))
    by true rest = (λ i. record { at = e.0.at; size = sym all.0 i } ∷ rest i)
    by false rest = rest

pub same_names : (setup : CacheSetup) (es : List (PageName × Block)) (lists : Linked) (acc : ℕ) (o : Order) → ordered_by setup es lists acc ≡ o → HoldsPages setup es lists acc → IsPermutation (unwritten_names (contents_of o.pages)) (names_in es)
same_names setup es lists acc o view held =
    subst (λ (t : Order). IsPermutation (unwritten_names (contents_of t.pages)) (names_in es)) view
    (let slots : List ℕ = lists.warm ++ lists.hot in
    let u : ℕ → Bool = λ (m : ℕ). (page_at es m).page.unwritten in
    let g : ℕ → PageName = λ (m : ℕ). name_of (page_at es m).page in
    let all : map (page_at es) (below (length es)) ≡ map page_in es = pages_below es (length es) (omega arith) ∙ ap (map page_in) (take_whole es) in
    let stored : map g (filter u (below (length es))) ≡ names_in es = sym (names_at es (below (length es))) ∙ ap (λ l. unwritten_names (contents_of l)) all ∙ names_stored es held.stored in
    let perm : IsPermutation (map g (filter u slots)) (map g (filter u (below (length es)))) = IsPermutation-map g (filter u slots) (filter u (below (length es))) (IsPermutation-sym (filter u (below (length es))) (filter u slots) (held.listed u)) in
    subst (λ l. IsPermutation l (names_in es)) (sym (names_at es slots)) (subst (IsPermutation (map g (filter u slots))) stored perm))

-- ---- the indexes of names in the order

abbrev pub place_in : List KeptPage → PageName → ℕ
place_in pages n = unwrap_or (position (has_name n.at n.size) pages) 0

-- each name with the index of its page
abbrev pub indexed : List KeptPage → List PageName → List (ℕ × ℕ)
indexed pages found = map (λ (n : PageName). (n.at, place_in pages n)) found

self_named : (p : Page) → is_page p.at (length p.bytes) p ≡ true
self_named p = and_from (p.at == p.at) (length p.bytes == length p.bytes) (eq-eqb p.at p.at refl) (eq-eqb (length p.bytes) (length p.bytes) refl)

own_place : (all front : List KeptPage) (x : KeptPage) (back : List KeptPage) → all ≡ front ++ x ∷ back → Pairs Differ (contents_of all) → position (has_name x.page.at (length x.page.bytes)) all ≡ Some (length front)
own_place all front x back is differ =
    let parted : contents_of all ≡ contents_of front ++ x.page ∷ contents_of back = ap contents_of is ∙ map-append _ front (x ∷ back) in
    let out = pairs_out Differ differ_flip (contents_of front) x.page (contents_of back) (subst (Pairs Differ) parted differ) in
    let before = fails x.page.at (length x.page.bytes) x.page front (contents_of back) (self_named x.page) out.0 in
    ap (position (has_name x.page.at (length x.page.bytes))) is ∙ position_here (has_name x.page.at (length x.page.bytes)) front x back before (self_named x.page)

from_names : (all front rest : List KeptPage) → all ≡ front ++ rest → Pairs Differ (contents_of all) → indexed all (unwritten_names (contents_of rest)) ≡ unwritten_from (length front) (contents_of rest)
from_names all front [] is differ = refl
from_names all front (x ∷ rest) is differ =
    let more = from_names all (front ++ x ∷ []) rest (is ∙ sym (append_assoc front (x ∷ []) rest)) differ in
    let n : length (front ++ x ∷ []) ≡ suc (length front) = omega (arith, length-append front (x ∷ [])) in
    let next : indexed all (unwritten_names (contents_of rest)) ≡ unwritten_from (suc (length front)) (contents_of rest) = more ∙ ap (λ (k : ℕ). unwritten_from k (contents_of rest)) n in
    let here : place_in all (name_of x.page) ≡ length front = ap (λ (o : Option ℕ). unwrap_or o 0) (own_place all front x rest is differ) in
    by x.page.unwritten here next
  where
    by : (b : Bool) → place_in all (name_of x.page) ≡ length front → indexed all (unwritten_names (contents_of rest)) ≡ unwritten_from (suc (length front)) (contents_of rest)
        → indexed all (map name_of (cond b (x.page ∷ unwritten_of (contents_of rest)) (unwritten_of (contents_of rest)))) ≡ (if b then (x.page.at, length front) ∷ unwritten_from (suc (length front)) (contents_of rest) else unwritten_from (suc (length front)) (contents_of rest))
    by true here next = (λ i. (x.page.at, here i) ∷ next i)
    by false here next = next

pub indexed_all : (pages : List KeptPage) (found : List PageName) → Pairs Differ (contents_of pages) → IsPermutation (unwritten_names (contents_of pages)) found → IsPermutation (unwritten_from 0 (contents_of pages)) (indexed pages found)
indexed_all pages found differ perm =
    subst (λ l. IsPermutation l (indexed pages found)) (from_names pages [] pages refl differ) (IsPermutation-map (λ (n : PageName). (n.at, place_in pages n)) (unwritten_names (contents_of pages)) found perm)

-- a name that was found is that of a page
abbrev HasPlace : List KeptPage → PageName → Type 0
HasPlace pages n = position (has_name n.at n.size) pages ≡ Some (place_in pages n)

from_places : (all front rest : List KeptPage) → all ≡ front ++ rest → Pairs Differ (contents_of all) → AllByRecursion (HasPlace all) (unwritten_names (contents_of rest))
from_places all front [] is differ = tt
from_places all front (x ∷ rest) is differ =
    let own = own_place all front x rest is differ in
    let here : HasPlace all (name_of x.page) = own ∙ ap (λ (n : ℕ). Some n) (sym (ap (λ (o : Option ℕ). unwrap_or o 0) own)) in
    by x.page.unwritten here (from_places all (front ++ x ∷ []) rest (is ∙ sym (append_assoc front (x ∷ []) rest)) differ)
  where
    by : (b : Bool) → HasPlace all (name_of x.page) → AllByRecursion (HasPlace all) (unwritten_names (contents_of rest)) → AllByRecursion (HasPlace all) (map name_of (cond b (x.page ∷ unwritten_of (contents_of rest)) (unwritten_of (contents_of rest))))
    by true here next = (here, next)
    by false here next = next

name_at : (P : PageName → Type 0) (found : List PageName) (i : ℕ) (n : PageName) → AllByRecursion P found → slice_get found i ≡ Some n → P n
name_at P [] i n all at = absurd cc
name_at P (x ∷ found) zero n all at = subst P (same_Some x n at) all.0
name_at P (x ∷ found) (suc i) n all at = name_at P found i n all.1 at

pub name_placed : (pages : List KeptPage) (found : List PageName) (i : ℕ) (n : PageName) → Pairs Differ (contents_of pages) → IsPermutation (unwritten_names (contents_of pages)) found → slice_get found i ≡ Some n → position (has_name n.at n.size) pages ≡ Some (place_in pages n)
name_placed pages found i n differ perm at =
    let P : PageName → Type 0 = HasPlace pages in
    name_at P found i n (recursion_from_All P found (All-permutation P (unwritten_names (contents_of pages)) found perm (All-from_recursion P (unwritten_names (contents_of pages)) (from_places pages [] pages refl differ)))) at

pub indexed_at : (pages : List KeptPage) (found : List PageName) (i : ℕ) (n : PageName) → slice_get found i ≡ Some n → get_or (indexed pages found) i (0, 0) ≡ (n.at, place_in pages n)
indexed_at pages found i n at = get_or_from_slice_get (indexed pages found) i (n.at, place_in pages n) (0, 0) (get_mapped (λ (n : PageName). (n.at, place_in pages n)) found i n at)

pub indexed_sorted : (pages : List KeptPage) (found : List PageName) → IsNonDecreasingBy (λ (n : PageName). n.at) found → IsNonDecreasingBy (λ (f : ℕ × ℕ). f.0) (indexed pages found)
indexed_sorted pages found rising i j d le lt =
    let g : PageName → ℕ × ℕ = λ (n : PageName). (n.at, place_in pages n) in
    let e : PageName = record { at = 0; size = 0 } in
    let long = length-map found g in
    let one : (k : ℕ) → k < length found → get_or (map g found) k d ≡ g (get_or found k e) = λ k within. get_or_from_slice_get (map g found) k (g (get_or found k e)) d (get_mapped g found k (get_or found k e) (slice_get-get_or found k e within)) in
    let a = ap (λ (f : ℕ × ℕ). f.0) (one i (omega (arith, le, lt, long))) in
    let b = ap (λ (f : ℕ × ℕ). f.0) (one j (omega (arith, lt, long))) in
    omega (arith, a, b, rising i j e le (omega (arith, lt, long)))
