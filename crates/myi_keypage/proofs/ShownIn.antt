-- What bytes show, and that bytes show a page exactly where they are it.
use Rattle.std.proofs.Common.{◌≡◌, ◌⊎◌, ℕ, ◌-◌, ◌<◌, ◌≤◌, leb, Bool, true, Option, Some, None, List, [], ◌∷◌, ◌++◌, length, take, drop, get_or, refl, sym, subst, ap, ◌∙◌, arith, inl, inr}
use Rattle.std.proofs.lemmas.Bool.{cases_lt, le-ltb, lt-ltb}
use Rattle.std.proofs.lemmas.List.{take_at, take-append-drop, append-nil}
use Rattle.std.proofs.lemmas.Option.{same_Some}
use Rattle.std.specs.Prelude.{option_map, is_some}
use Rattle.myi_base.specs.Numbers.{AreBytes}
use Rattle.myi_base.proofs.CallerLemmas.{bytes-take, bytes-drop}
use Rattle.myi_keypage.specs.Page.{Page, body_bytes, page_bytes, is_node, IsWritable, IsBranching, IsPage}
use Rattle.myi_keypage.specs.Views.{ViewedPage, page_of, viewed_in, used_in, viewed_body, page_in}
use Rattle.myi_keypage.proofs.PageLaws.{BodyIs, body_found}
use Rattle.myi_keypage.proofs.ItemForms.{AreItems}
use Rattle.myi_keypage.specs.PageItems.{Item, are_longest}
use Rattle.std.specs.List.{AllByRecursion}
use Rattle.myi_keypage.proofs.PageIs.{shown_page, expected, page_found, one_page, by_node, is_child_node}

pub shown_short : (rec_ref : ℕ) (bytes : List ℕ) → length bytes < 2 → None ≡ viewed_in rec_ref bytes
unfolding viewed_in
shown_short rec_ref bytes h = rw (lt-ltb (length bytes) 2 h) refl

pub shown_odd : (rec_ref : ℕ) (bytes : List ℕ) → 2 ≤ length bytes → (used_in bytes < 2) ⊎ (length bytes < used_in bytes) → None ≡ viewed_in rec_ref bytes
unfolding viewed_in
shown_odd rec_ref bytes h (inl k) = rw (le-ltb (length bytes) 2 h, lt-ltb (used_in bytes) 2 k) refl
shown_odd rec_ref bytes h (inr k) = elim (cases_lt (used_in bytes) 2) [
  | inl less ↦ rw (le-ltb (length bytes) 2 h, lt-ltb (used_in bytes) 2 less) refl
  | inr more ↦ rw (le-ltb (length bytes) 2 h, le-ltb (used_in bytes) 2 more, lt-ltb (length bytes) (used_in bytes) k) refl
]

pub shown_even : (rec_ref : ℕ) (bytes : List ℕ) → 2 ≤ length bytes → 2 ≤ used_in bytes → used_in bytes ≤ length bytes → viewed_in rec_ref bytes ≡ viewed_body (leb 128 (get_or bytes 0 0)) rec_ref (take (used_in bytes - 2) (drop 2 bytes))
unfolding viewed_in
shown_even rec_ref bytes h k m = rw (le-ltb (length bytes) 2 h, le-ltb (used_in bytes) 2 k, le-ltb (length bytes) (used_in bytes) m) refl

nothing : (o : Option ViewedPage) (s : ViewedPage) → None ≡ o → o ≡ Some s → ⊥
nothing None s e f = cc
nothing (Some t) s e f = cc

-- what bytes that show something are
pub shown_holds : (rec_ref : ℕ) (bytes : List ℕ) (s : ViewedPage) → viewed_in rec_ref bytes ≡ Some s
    → (2 ≤ length bytes) × (2 ≤ used_in bytes) × (used_in bytes ≤ length bytes) × (viewed_body (leb 128 (get_or bytes 0 0)) rec_ref (take (used_in bytes - 2) (drop 2 bytes)) ≡ Some s)
shown_holds rec_ref bytes s e =
    elim (cases_lt (length bytes) 2) [
      | inl short ↦ absurd (nothing _ s (shown_short rec_ref bytes short) e)
      | inr two ↦ elim (cases_lt (used_in bytes) 2) [
        | inl less ↦ absurd (nothing _ s (shown_odd rec_ref bytes two (inl less)) e)
        | inr least ↦ elim (cases_lt (length bytes) (used_in bytes)) [
          | inl past ↦ absurd (nothing _ s (shown_odd rec_ref bytes two (inr past)) e)
          | inr most ↦ (two, least, most, sym (shown_even rec_ref bytes two least most) ∙ e)
        ]
      ]
    ]

-- bytes that are a page show it
pub page_shown : (rec_ref : ℕ) (bytes : List ℕ) (page : Page) → IsPage rec_ref bytes page → (s : ViewedPage) × (viewed_in rec_ref bytes ≡ Some s) × (page_of s ≡ page)
page_shown rec_ref bytes page h =
    let x = expected rec_ref bytes page h in
    let s = shown_page rec_ref page.entries page.children h.has h.branching in
    let used : used_in bytes - 2 ≡ length (body_bytes rec_ref page) = omega (arith, x.used) in
    (s.0, shown_even rec_ref bytes x.two (omega (arith, x.used)) (omega (arith, x.used, x.most)) ∙ rw (x.node, used, x.body) s.1, s.2)

pub page_is : (rec_ref : ℕ) (bytes : List ℕ) (page : Page) → IsPage rec_ref bytes page → page_in rec_ref bytes ≡ Some page
page_is rec_ref bytes page h =
    let s = page_shown rec_ref bytes page h in
    rw s.1 (ap Some s.2)

mapped : (o : Option ViewedPage) (page : Page) → option_map page_of o ≡ Some page → (s : ViewedPage) × (o ≡ Some s) × (page_of s ≡ page)
mapped None page e = absurd cc
mapped (Some s) page e = (s, refl, same_Some _ _ e)

-- and bytes that show a page are it
pub page_from : (rec_ref : ℕ) (bytes : List ℕ) (page : Page) → AreBytes bytes → page_in rec_ref bytes ≡ Some page → IsPage rec_ref bytes page
page_from rec_ref bytes page fits e =
    let m = mapped (viewed_in rec_ref bytes) page e in
    let k = shown_holds rec_ref bytes m.0 m.1 in
    subst (λ (p : Page). IsPage rec_ref bytes p) m.2 (page_found rec_ref bytes m.0 _ _ fits k.0 refl refl k.1 k.2 k.3)

pub page_again : (rec_ref : ℕ) (page : Page) (rest : List ℕ) → IsWritable rec_ref page → IsBranching page → page_in rec_ref (page_bytes rec_ref page ++ rest) ≡ Some page
page_again rec_ref page rest has branching = page_is rec_ref _ page (record { has = has; branching = branching; text = (rest, refl) })

-- two pages have two spellings
pub page_once : (rec_ref : ℕ) (p q : Page) → IsWritable rec_ref p → IsBranching p → IsWritable rec_ref q → IsBranching q → page_bytes rec_ref p ≡ page_bytes rec_ref q → p ≡ q
page_once rec_ref p q has branching has_q branching_q e =
    one_page rec_ref (page_bytes rec_ref p) p q (record { has = has; branching = branching; text = ([], sym (append-nil (page_bytes rec_ref p))) })
    (record { has = has_q; branching = branching_q; text = ([], e ∙ sym (append-nil (page_bytes rec_ref q))) })

-- a page is its used bytes
pub page_used : (rec_ref : ℕ) (x y : List ℕ) (page : Page) → IsPage rec_ref x page → take (length (page_bytes rec_ref page)) y ≡ take (length (page_bytes rec_ref page)) x → IsPage rec_ref y page
page_used rec_ref x y page h same =
    let n : ℕ = length (page_bytes rec_ref page) in
    let front : take n y ≡ page_bytes rec_ref page = same ∙ ap (take n) h.text.1 ∙ take_at (page_bytes rec_ref page) h.text.0 n refl in
    record { has = h.has; branching = h.branching; text = (drop n y, sym (take-append-drop n y) ∙ ap (λ (t : List ℕ). t ++ drop n y) front) }

-- what is shown is a body
shown_body : (rec_ref : ℕ) (bytes : List ℕ) (s : ViewedPage) → AreBytes bytes → viewed_in rec_ref bytes ≡ Some s → BodyIs (leb 128 (get_or bytes 0 0)) rec_ref (take (used_in bytes - 2) (drop 2 bytes)) s
shown_body rec_ref bytes s fits e =
    let k = shown_holds rec_ref bytes s e in
    body_found _ rec_ref _ s (bytes-take (used_in bytes - 2) (drop 2 bytes) (bytes-drop 2 bytes fits)) k.3

-- a view has a first child in a node alone
pub shown_node : (rec_ref : ℕ) (bytes : List ℕ) (s : ViewedPage) → AreBytes bytes → viewed_in rec_ref bytes ≡ Some s → is_node (page_of s) ≡ is_some s.first
shown_node rec_ref bytes s fits e =
    let b = shown_body rec_ref bytes s fits e in
    (by_node _ rec_ref s b.first b.items b.longest).2 ∙ sym (is_child_node _ s.first b.first)

pub shown_some : (rec_ref : ℕ) (bytes : List ℕ) (s : ViewedPage) → AreBytes bytes → viewed_in rec_ref bytes ≡ Some s → 0 < length s.items
shown_some rec_ref bytes s fits e = (shown_body rec_ref bytes s fits e).some

children_are : (node : Bool) (rec_ref : ℕ) (items : List Item) (b : Bool) → node ≡ b → AreItems node rec_ref items → AllByRecursion (λ item. is_some item.child ≡ b) items
children_are node rec_ref [] b same h = tt
children_are node rec_ref (item ∷ items) b same h = (is_child_node node item.child h.0.child ∙ same, children_are node rec_ref items b same h.1)

pub shown_children : (rec_ref : ℕ) (bytes : List ℕ) (s : ViewedPage) → AreBytes bytes → viewed_in rec_ref bytes ≡ Some s → AllByRecursion (λ item. is_some item.child ≡ is_some s.first) s.items
shown_children rec_ref bytes s fits e =
    let b = shown_body rec_ref bytes s fits e in
    children_are _ rec_ref s.items (is_some s.first) (sym (is_child_node _ s.first b.first)) b.items

pub shown_longest : (rec_ref : ℕ) (bytes : List ℕ) (s : ViewedPage) → AreBytes bytes → viewed_in rec_ref bytes ≡ Some s → are_longest [] s.items ≡ true
shown_longest rec_ref bytes s fits e = (shown_body rec_ref bytes s fits e).longest
