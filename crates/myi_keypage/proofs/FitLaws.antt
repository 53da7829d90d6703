-- What fits still fits with entries taken out.
use Rattle.std.proofs.Common.{◌≡◌, ℕ, suc, ◌+◌, ◌-◌, ◌*◌, ◌^◌, ◌<◌, ◌≤◌, get_or, sym, ◌⊎◌, Bool, true, false, cond, eqb, List, [], ◌∷◌, ◌++◌, length, take, drop, refl, ap, ◌∙◌, arith, inl, inr}
use Rattle.std.proofs.lemmas.Bool.{cases_Bool, eqb-true, eq-eqb, cases_lt, lt-ltb, le-ltb}
use Rattle.std.proofs.lemmas.List.{length-append, length-drop, take-append-drop, append-nil, take-take}
use Rattle.myi_keypage.specs.declared.entry.Entry.{Entry}
use Rattle.myi_keypage.specs.Page.{Page, shared, entry_bytes, number_bytes, page_bytes, is_node, IsPlace, IsBranching, IsWritable, IsPage}
use Rattle.myi_keypage.specs.Fitting.{entries_length, used_length}
use Rattle.myi_keypage.proofs.Shared.{shared_le, shared_le_right}
use Rattle.std.specs.Prelude.{◌↔◌}
use Rattle.std.specs.List.{AllByRecursion}
use Rattle.myi_keypage.proofs.WriteLaws.{length-packed, used_page, length-page_bytes, tail_at}

-- of three keys, the outer two share at least the lesser of what neighbours share
pub shared_over : (xs ys zs : List ℕ) → (shared xs ys ≤ shared xs zs) ⊎ (shared ys zs ≤ shared xs zs)
shared_over [] ys zs = inl (omega arith)
shared_over (x ∷ xs) [] zs = inl (omega arith)
shared_over (x ∷ xs) (y ∷ ys) [] = inr (omega arith)
shared_over (x ∷ xs) (y ∷ ys) (z ∷ zs) =
    elim (cases_Bool (eqb x y)) [
      | inr other ↦ inl (rw other (omega arith))
      | inl same ↦ elim (cases_Bool (eqb y z)) [
        | inr other ↦ inr (rw other (omega arith))
        | inl again ↦
            let one : x ≡ y = eqb-true x y same in
            rw (one, same_one y, again) (elim (shared_over xs ys zs) [ inl h ↦ inl (omega arith) | inr h ↦ inr (omega arith) ])
      ]
    ]
  where
    same_one : (y : ℕ) → eqb y y ≡ true
    same_one y = eq-eqb y y refl

pub number_most : (n : ℕ) → length (number_bytes n) ≤ 3
number_most n = elim (cases_lt n 255) [ inl lt ↦ rw (lt-ltb n 255 lt) (omega arith) | inr le ↦ rw (le-ltb n 255 le) (omega arith) ]

pub number_least : (n : ℕ) → 1 ≤ length (number_bytes n)
number_least n = elim (cases_lt n 255) [ inl lt ↦ rw (lt-ltb n 255 lt) (omega arith) | inr le ↦ rw (le-ltb n 255 le) (omega arith) ]

pub number_more : (m n : ℕ) → m ≤ n → length (number_bytes m) ≤ length (number_bytes n)
number_more m n h = elim (cases_lt m 255) [ inl lt ↦ rw (lt-ltb m 255 lt) (omega (arith, number_least n)) | inr le ↦ let k : 255 ≤ n = omega arith in rw (le-ltb m 255 le, le-ltb n 255 k) (omega arith) ]

-- how long an entry is
pub entry_is : (rec_ref : ℕ) (before : List ℕ) (e : Entry) → length (entry_bytes rec_ref before e) ≡ length (number_bytes (shared before e.key)) + length (number_bytes (length e.key - shared before e.key)) + (length e.key - shared before e.key) + rec_ref
entry_is rec_ref before e = length-packed rec_ref (shared before e.key) (drop (shared before e.key) e.key) e.row ∙ rw (length-drop (shared before e.key) e.key) refl

pub entry_most : (rec_ref : ℕ) (before : List ℕ) (e : Entry) → length (entry_bytes rec_ref before e) ≤ length e.key + 6 + rec_ref
entry_most rec_ref before e = omega (arith, entry_is rec_ref before e, number_most (shared before e.key), number_most (length e.key - shared before e.key))

pub entry_least : (rec_ref : ℕ) (before : List ℕ) (e : Entry) → 2 + rec_ref ≤ length (entry_bytes rec_ref before e)
entry_least rec_ref before e = omega (arith, entry_is rec_ref before e, number_least (shared before e.key), number_least (length e.key - shared before e.key))

-- an entry taken out: what the next one grows by is less than what the entry took
pub over_one : (rec_ref : ℕ) (before : List ℕ) (a b : Entry) → length (entry_bytes rec_ref before b) ≤ length (entry_bytes rec_ref before a) + length (entry_bytes rec_ref a.key b)
over_one rec_ref before a b =
    let s : ℕ = shared before b.key in
    let s1 : ℕ = shared before a.key in
    let s2 : ℕ = shared a.key b.key in
    let eb = entry_is rec_ref before b in
    let ea = entry_is rec_ref before a in
    let ec = entry_is rec_ref a.key b in
    let right : s2 ≤ length a.key = shared_le a.key b.key in
    elim (cases_lt s s2) [
      | inr more ↦ omega (arith, number_most s, number_more (length b.key - s) (length b.key - s2) (omega arith), number_least s1, number_least s2, number_least (length a.key - s1))
      | inl less ↦
          let le : s1 ≤ s = elim (shared_over before a.key b.key) [ inl h ↦ h | inr h ↦ absurd (omega arith) ] in
          omega (arith, number_most (length b.key - s), number_more s s2 (omega arith), number_least s1, number_least (length a.key - s1), number_least (length b.key - s2), shared_le_right before b.key)
    ]

after_one : (rec_ref : ℕ) (node : Bool) (before : List ℕ) (a : Entry) (es : List Entry) → entries_length rec_ref node before es ≤ length (entry_bytes rec_ref before a) + cond node 7 0 + entries_length rec_ref node a.key es
after_one rec_ref node before a [] = omega arith
after_one rec_ref node before a (b ∷ es) = omega (arith, over_one rec_ref before a b)

after_some : (rec_ref : ℕ) (node : Bool) (before : List ℕ) (ys zs : List Entry) → entries_length rec_ref node before zs ≤ entries_length rec_ref node before (ys ++ zs)
after_some rec_ref node before [] zs = omega arith
after_some rec_ref node before (y ∷ ys) zs = omega (arith, after_one rec_ref node before y zs, after_some rec_ref node y.key ys zs)

part_len : (rec_ref : ℕ) (node : Bool) (before : List ℕ) (xs ys zs : List Entry) → entries_length rec_ref node before (xs ++ zs) ≤ entries_length rec_ref node before (xs ++ (ys ++ zs))
part_len rec_ref node before [] ys zs = after_some rec_ref node before ys zs
part_len rec_ref node before (x ∷ xs) ys zs = omega (arith, part_len rec_ref node x.key xs ys zs)

-- the law: any run of entries may be taken out
pub part_used : (rec_ref : ℕ) (node : Bool) (xs ys zs : List Entry) → used_length rec_ref node (xs ++ zs) ≤ used_length rec_ref node (xs ++ (ys ++ zs))
part_used rec_ref node xs ys zs = omega (arith, part_len rec_ref node [] xs ys zs)

pub front_used : (rec_ref : ℕ) (node : Bool) (c : ℕ) (es : List Entry) → used_length rec_ref node (take c es) ≤ used_length rec_ref node es
front_used rec_ref node c es =
    let e : take c es ++ (drop c es ++ []) ≡ es = ap (λ (t : List Entry). take c es ++ t) (append-nil (drop c es)) ∙ take-append-drop c es in
    let h = part_used rec_ref node (take c es) (drop c es) [] in
    rw (append-nil, e) at h

pub back_used : (rec_ref : ℕ) (node : Bool) (c : ℕ) (es : List Entry) → used_length rec_ref node (drop c es) ≤ used_length rec_ref node es
back_used rec_ref node c es = let h = part_used rec_ref node [] (take c es) (drop c es) in rw (take-append-drop c es) at h

pub one_used : (rec_ref : ℕ) (node : Bool) (xs : List Entry) (e : Entry) (zs : List Entry) → used_length rec_ref node (xs ++ zs) ≤ used_length rec_ref node (xs ++ e ∷ zs)
one_used rec_ref node xs e zs = part_used rec_ref node xs (e ∷ []) zs

pub leaf_used : (rec_ref : ℕ) (before : List ℕ) (es : List Entry) → entries_length rec_ref false before es ≤ entries_length rec_ref true before es
leaf_used rec_ref before [] = omega arith
leaf_used rec_ref before (e ∷ es) = omega (arith, leaf_used rec_ref e.key es)

-- two entries of the greatest size fit in any page
pub two_used : (rec_ref : ℕ) (node : Bool) (most : ℕ) (a b : Entry) → length a.key ≤ most → length b.key ≤ most → used_length rec_ref node (a ∷ b ∷ []) ≤ 2 * (most + 13 + rec_ref) + 9
two_used rec_ref true most a b h k = omega (arith, entry_most rec_ref [] a, entry_most rec_ref a.key b)
two_used rec_ref false most a b h k = omega (arith, entry_most rec_ref [] a, entry_most rec_ref a.key b)

-- an entry put in: it adds at most its greatest size and two, where it shares with the next one what the key before it does
pub put_used : (rec_ref : ℕ) (before : List ℕ) (e z : Entry) → shared before z.key ≤ shared e.key z.key → length (entry_bytes rec_ref e.key z) ≤ length (entry_bytes rec_ref before z) + 2
put_used rec_ref before e z h =
    omega (arith, entry_is rec_ref before z, entry_is rec_ref e.key z, number_most (shared e.key z.key), number_least (shared before z.key), number_more (length z.key - shared e.key z.key) (length z.key - shared before z.key) (omega arith))

pub leaf_length : (rec_ref : ℕ) (es : List Entry) → used_length rec_ref false es ≤ used_length rec_ref true es
leaf_length rec_ref es = omega (arith, leaf_used rec_ref [] es)

-- the used length is the length of the spelling
pub page_length : (rec_ref : ℕ) (page : Page) → IsBranching page → used_length rec_ref (is_node page) page.entries ≡ length (page_bytes rec_ref page)
page_length rec_ref page branching = used_page rec_ref page.entries page.children branching ∙ sym (length-page_bytes rec_ref page)

-- the entries of a page fit into it
pub page_inside : (rec_ref : ℕ) (bytes : List ℕ) (page : Page) → IsPage rec_ref bytes page → used_length rec_ref (is_node page) page.entries ≤ length bytes
page_inside rec_ref bytes page h = omega (arith, page_length rec_ref page h.branching, ap length h.text.1, length-append (page_bytes rec_ref page) h.text.0)

pub page_writable : (rec_ref : ℕ) (page : Page) → IsBranching page → 0 < length page.entries → AllByRecursion (λ e. e.row < 256 ^ rec_ref) page.entries → AllByRecursion IsPlace page.children
    → used_length rec_ref (is_node page) page.entries < 32768 → IsWritable rec_ref page
page_writable rec_ref page branching some rows places used =
    record { some = some; rows = rows; places = places; used = omega (arith, used_page rec_ref page.entries page.children branching) }

keys_after : (rec_ref : ℕ) (node : Bool) (before : List ℕ) (es : List Entry) (bound : ℕ) → length before + entries_length rec_ref node before es < bound → AllByRecursion (λ e. length e.key < bound) es
keys_after rec_ref node before [] bound h = tt
keys_after rec_ref node before (e ∷ es) bound h =
    let most : length e.key ≤ length before + length (entry_bytes rec_ref before e) = omega (arith, entry_is rec_ref before e, shared_le before e.key) in
    (omega arith, keys_after rec_ref node e.key es bound (omega arith))

-- a key is shorter than the page
pub keys_short : (rec_ref : ℕ) (node : Bool) (es : List Entry) → AllByRecursion (λ e. length e.key < used_length rec_ref node es) es
keys_short rec_ref node es = keys_after rec_ref node [] es (used_length rec_ref node es) (omega arith)

-- ---- how many fit

pub fronts_used : (rec_ref : ℕ) (node : Bool) (c d : ℕ) (es : List Entry) → c ≤ d → used_length rec_ref node (take c es) ≤ used_length rec_ref node (take d es)
fronts_used rec_ref node c d es le = let h = front_used rec_ref node c (take d es) in rw (take-take c d es le) at h

-- a front that fits, behind which one more does not, is the longest
pub fit_exactly : (rec_ref : ℕ) (node : Bool) (es : List Entry) (room i : ℕ) → used_length rec_ref node (take i es) ≤ room → (i < length es → room < used_length rec_ref node (take (i + 1) es))
    → (count : ℕ) → 0 < count → count ≤ length es → (count ≤ i) ↔ (used_length rec_ref node (take count es) ≤ room)
fit_exactly rec_ref node es room i now next count some inside = (
  λ le. omega (arith, fronts_used rec_ref node count i es le),
  λ fit. elim (cases_lt i count) [
    | inl more ↦ absurd (omega (arith, next (omega arith), fronts_used rec_ref node (i + 1) count es (omega arith)))
    | inr le ↦ le
  ],
)

-- what is used up to a place, and what the entries behind it take
abbrev pub Counts : ℕ → Bool → List Entry → ℕ → List ℕ → ℕ → Type 0
Counts rec_ref node es i before done = (more : ℕ) → used_length rec_ref node (take (i + more) es) ≡ done + entries_length rec_ref node before (take more (drop i es))

pub counts_step : (rec_ref : ℕ) (node : Bool) (es : List Entry) (i : ℕ) (before : List ℕ) (done last : ℕ) (e : Entry) → i < length es → e ≡ get_or es i e → last ≡ done + (length (entry_bytes rec_ref before e) + cond node 7 0)
    → Counts rec_ref node es i before done → Counts rec_ref node es (i + 1) e.key last
counts_step rec_ref node es i before done last e lt is end so_far more =
    let k : i + 1 + more ≡ i + suc more = omega arith in
    let s = so_far (suc more) in
    rw (k, s, tail_at es i e lt is, end) (omega arith)

pub counts_now : (rec_ref : ℕ) (node : Bool) (es : List Entry) (i : ℕ) (before : List ℕ) (done : ℕ) → Counts rec_ref node es i before done → used_length rec_ref node (take i es) ≡ done
counts_now rec_ref node es i before done so_far = let k : i + 0 ≡ i = omega arith in let s = so_far 0 in omega (arith, rw k at s)
