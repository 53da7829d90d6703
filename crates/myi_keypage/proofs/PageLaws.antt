-- Items whose prefixes are the longest are the entries that they stand for, and the other way round.
use Rattle.std.proofs.Common.{◌≡◌, ℕ, zero, suc, ◌<◌, ◌≤◌, Bool, true, false, ltb, leb, eqb, Option, Some, None, List, [], ◌∷◌, ◌++◌, length, take, drop, refl, sym, ap, subst, ◌∙◌, arith}
use Rattle.std.proofs.lemmas.Bool.{and_parts, and_from, leb-true, le-leb, ltb-true, lt-ltb, eqb-true, eq-eqb}
use Rattle.std.proofs.lemmas.List.{drop_at, length-append, length-take, append-nil}
use Rattle.std.specs.Prelude.{option_map}
use Rattle.std.proofs.lemmas.Option.{same_Some, cond_some}
use Rattle.myi_keypage.specs.declared.entry.Entry.{Entry}
use Rattle.myi_keypage.specs.Page.{shared, entries_bytes, entry_bytes, body_bytes, child_bytes, packed_bytes}
use Rattle.myi_base.specs.Numbers.{AreBytes}
use Rattle.myi_keypage.proofs.Numbers.{bind_some, Takes}
use Rattle.myi_keypage.proofs.ItemLaws.{child_takes, child_again, item_takes, item_again, length-number_bytes}
use Rattle.myi_keypage.specs.PageItems.{items_up_to, items_of, item_at, Item, key_after, is_longest, are_longest}
use Rattle.myi_keypage.proofs.ItemForms.{IsChild, child_part, item_bytes, IsItem, items_bytes, AreItems}
use Rattle.myi_keypage.specs.Views.{entries_after, with_child, children_of, ViewedPage, page_of, viewed_body}
use Rattle.myi_keypage.proofs.Shared.{shared_le, shared_rest, shared_made, rejoined}

-- the prefix of an item is what its key shares with the one before it
prefix_is : (before : List ℕ) (item : Item) → is_longest before item ≡ true → shared before (key_after before item) ≡ item.prefix
prefix_is before item h =
    let p = and_parts (leb item.prefix (length before)) (eqb (shared (drop item.prefix before) item.rest) 0) h in
    let within : item.prefix ≤ length before = leb-true _ _ p.0 in
    let none : shared (drop item.prefix before) item.rest ≡ 0 = eqb-true _ _ p.1 in
    shared_made before item.prefix item.rest within ∙ omega arith

rest_is : (before : List ℕ) (item : Item) → is_longest before item ≡ true → drop item.prefix (key_after before item) ≡ item.rest
rest_is before item h =
    let p = and_parts (leb item.prefix (length before)) (eqb (shared (drop item.prefix before) item.rest) 0) h in
    let within : item.prefix ≤ length before = leb-true _ _ p.0 in
    drop_at (take item.prefix before) item.rest item.prefix (omega (arith, length-take item.prefix before))

entry_is : (rec_ref : ℕ) (before : List ℕ) (item : Item) → is_longest before item ≡ true → entry_bytes rec_ref before (record { key = key_after before item; row = item.row }) ≡ packed_bytes rec_ref item.prefix item.rest item.row
entry_is rec_ref before item h =
    ap (λ (n : ℕ). packed_bytes rec_ref n (drop n (key_after before item)) item.row) (prefix_is before item h) ∙ ap (λ (r : List ℕ). packed_bytes rec_ref item.prefix r item.row) (rest_is before item h)

-- in a leaf
pub leaf_text : (rec_ref : ℕ) (before : List ℕ) (items : List Item) → AreItems false rec_ref items → are_longest before items ≡ true
    → (items_bytes rec_ref items ≡ entries_bytes rec_ref before (entries_after before items) []) × (children_of items ≡ [])
leaf_text rec_ref before [] h l = (refl, refl)
leaf_text rec_ref before (item ∷ items) h l =
    let p = and_parts (is_longest before item) _ l in
    let again = leaf_text rec_ref (key_after before item) items h.1 p.1 in
    let none : item.child ≡ None = no_child item.child h.0.child in (
      rw none (rw append-nil (ap (λ (t : List ℕ). packed_bytes rec_ref item.prefix item.rest item.row ++ t) again.0 ∙ ap (λ (t : List ℕ). t ++ entries_bytes rec_ref (key_after before item) (entries_after (key_after before item) items) []) (sym (entry_is rec_ref before item p.0)))),
      rw none again.1,
    )
  where
    no_child : (o : Option ℕ) → IsChild false o → o ≡ None
    no_child None h = refl
    no_child (Some c) h = absurd h

-- in a node
pub node_text : (rec_ref : ℕ) (before : List ℕ) (items : List Item) → AreItems true rec_ref items → are_longest before items ≡ true
    → (items_bytes rec_ref items ≡ entries_bytes rec_ref before (entries_after before items) (children_of items)) × (length (children_of items) ≡ length items)
node_text rec_ref before [] h l = (refl, refl)
node_text rec_ref before (item ∷ items) h l =
    let p = and_parts (is_longest before item) _ l in
    let again = node_text rec_ref (key_after before item) items h.1 p.1 in
    with_place item.child h.0.child again (entry_is rec_ref before item p.0)
  where
    with_place : (o : Option ℕ) → IsChild true o
        → (items_bytes rec_ref items ≡ entries_bytes rec_ref (key_after before item) (entries_after (key_after before item) items) (children_of items)) × (length (children_of items) ≡ length items)
        → entry_bytes rec_ref before (record { key = key_after before item; row = item.row }) ≡ packed_bytes rec_ref item.prefix item.rest item.row
        → ((packed_bytes rec_ref item.prefix item.rest item.row ++ child_part o) ++ items_bytes rec_ref items ≡ entries_bytes rec_ref before (record { key = key_after before item; row = item.row } ∷ entries_after (key_after before item) items) (with_child o (children_of items)))
        × (length (with_child o (children_of items)) ≡ suc (length items))
    with_place None h again same = absurd h
    with_place (Some c) h again same = (
      ap (λ (t : List ℕ). (packed_bytes rec_ref item.prefix item.rest item.row ++ child_bytes c) ++ t) again.0 ∙ ap (λ (t : List ℕ). (t ++ child_bytes c) ++ entries_bytes rec_ref (key_after before item) (entries_after (key_after before item) items) (children_of items)) (sym same),
      ap suc again.1,
    )

-- ---- and back: the items of entries
abbrev pub item_for : List ℕ → Entry → Option ℕ → Item
item_for before e child = record { prefix = shared before e.key; rest = drop (shared before e.key) e.key; row = e.row; child = child }

pub item_for_key : (before : List ℕ) (e : Entry) (child : Option ℕ) → key_after before (item_for before e child) ≡ e.key
item_for_key before e child = rejoined before e.key

pub item_for_longest : (before : List ℕ) (e : Entry) (child : Option ℕ) → is_longest before (item_for before e child) ≡ true
item_for_longest before e child = and_from _ _ (le-leb _ _ (shared_le before e.key)) (eq-eqb _ _ (shared_rest before e.key))

-- ---- which items are read

pub items_taken : (n : ℕ) (node : Bool) (rec_ref : ℕ) (bytes : List ℕ) (items : List Item) → AreBytes bytes → items_up_to n node rec_ref bytes ≡ Some items → (bytes ≡ items_bytes rec_ref items) × AreItems node rec_ref items
unfolding items_up_to
items_taken n node rec_ref [] items fits e = subst (λ (is : List Item). ([] ≡ items_bytes rec_ref is) × AreItems node rec_ref is) (same_Some _ _ e) (refl, tt)
items_taken zero node rec_ref (b ∷ bs) items fits e = absurd cc
items_taken (suc n) node rec_ref (b ∷ bs) items fits e =
    let a = bind_some _ _ _ e in
    let t = item_takes node rec_ref (b ∷ bs) a.0.0 a.0.1 fits a.1 in
    more a.0 t a.2 (λ is h. items_taken n node rec_ref a.0.1 is t.0.fits h)
  where
    more : (x : Item × List ℕ) → Takes (b ∷ bs) (item_bytes rec_ref x.0) x.1 × IsItem node rec_ref x.0 → option_map (λ is. x.0 ∷ is) (items_up_to n node rec_ref x.1) ≡ Some items
        → ((is : List Item) → items_up_to n node rec_ref x.1 ≡ Some is → (x.1 ≡ items_bytes rec_ref is) × AreItems node rec_ref is) → (b ∷ bs ≡ items_bytes rec_ref items) × AreItems node rec_ref items
    more x t e again = mapped (items_up_to n node rec_ref x.1) e again
      where
        mapped : (o : Option (List Item)) → option_map (λ is. x.0 ∷ is) o ≡ Some items → ((is : List Item) → o ≡ Some is → (x.1 ≡ items_bytes rec_ref is) × AreItems node rec_ref is) → (b ∷ bs ≡ items_bytes rec_ref items) × AreItems node rec_ref items
        mapped None e again = absurd cc
        mapped (Some is) e again =
            let k = again is refl in
            subst (λ (all : List Item). (b ∷ bs ≡ items_bytes rec_ref all) × AreItems node rec_ref all) (same_Some _ _ e)
            (t.0.parts ∙ ap (λ (r : List ℕ). item_bytes rec_ref x.0 ++ r) k.0, (t.1, k.1))

nothing : (n : ℕ) (node : Bool) (rec_ref : ℕ) → items_up_to n node rec_ref [] ≡ Some []
unfolding items_up_to
nothing zero node rec_ref = refl
nothing (suc n) node rec_ref = refl

item_pos : (rec_ref : ℕ) (item : Item) → 0 < length (item_bytes rec_ref item)
item_pos rec_ref item = simp length-append (omega (arith, length-number_bytes item.prefix))

step : (node : Bool) (rec_ref : ℕ) (item : Item) (items : List Item) (n : ℕ) (bytes : List ℕ) → 0 < length bytes → item_at node rec_ref bytes ≡ Some (item, items_bytes rec_ref items) → length bytes ≤ n
    → ((m : ℕ) → length bytes ≤ suc m → items_up_to m node rec_ref (items_bytes rec_ref items) ≡ Some items) → items_up_to n node rec_ref bytes ≡ Some (item ∷ items)
unfolding items_up_to
step node rec_ref item items n [] lt e le again = absurd (omega arith)
step node rec_ref item items zero (b ∷ bs) lt e le again = absurd (omega arith)
step node rec_ref item items (suc n) (b ∷ bs) lt e le again = rw (e, again n (omega arith)) refl

pub items_again : (n : ℕ) (node : Bool) (rec_ref : ℕ) (items : List Item) → length (items_bytes rec_ref items) ≤ n → AreItems node rec_ref items → items_up_to n node rec_ref (items_bytes rec_ref items) ≡ Some items
items_again n node rec_ref [] le h = nothing n node rec_ref
items_again n node rec_ref (item ∷ items) le h =
    let e = item_again node rec_ref item (items_bytes rec_ref items) h.0 in
    let len = length-append (item_bytes rec_ref item) (items_bytes rec_ref items) in
    let pos = item_pos rec_ref item in
    step node rec_ref item items n (item_bytes rec_ref item ++ items_bytes rec_ref items) (omega (arith, len, pos)) e le (λ m l. items_again m node rec_ref items (omega (arith, len, pos, l)) h.1)

-- ---- bodies

leaf_body : (rec_ref : ℕ) (items : List Item) → AreItems false rec_ref items → are_longest [] items ≡ true → (body_bytes rec_ref (page_of (record { first = None; items = items })) ≡ items_bytes rec_ref items) × (children_of items ≡ [])
leaf_body rec_ref items h l =
    let k = leaf_text rec_ref [] items h l in
    (rw k.1 (sym k.0), k.1)

node_body : (rec_ref : ℕ) (place : ℕ) (items : List Item) → AreItems true rec_ref items → are_longest [] items ≡ true → body_bytes rec_ref (page_of (record { first = Some place; items = items })) ≡ child_bytes place ++ items_bytes rec_ref items
node_body rec_ref place items h l = ap (λ (t : List ℕ). child_bytes place ++ t) (sym (node_text rec_ref [] items h l).0)

-- what a body that shows something is
pub record BodyIs (node : Bool) (rec_ref : ℕ) (body : List ℕ) (s : ViewedPage) : Type 0 where
  pub text : body ≡ body_bytes rec_ref (page_of s)
  pub some : 0 < length s.items
  pub first : IsChild node s.first
  pub items : AreItems node rec_ref s.items
  pub longest : are_longest [] s.items ≡ true

by_first : (node : Bool) (rec_ref : ℕ) (first : Option ℕ) (items : List Item) → IsChild node first → AreItems node rec_ref items → are_longest [] items ≡ true → child_part first ++ items_bytes rec_ref items ≡ body_bytes rec_ref (page_of (record { first = first; items = items }))
by_first false rec_ref None items f h l = sym (leaf_body rec_ref items h l).0
by_first false rec_ref (Some place) items f h l = absurd f
by_first true rec_ref None items f h l = absurd f
by_first true rec_ref (Some place) items f h l = sym (node_body rec_ref place items h l)

pub body_found : (node : Bool) (rec_ref : ℕ) (body : List ℕ) (s : ViewedPage) → AreBytes body → viewed_body node rec_ref body ≡ Some s → BodyIs node rec_ref body s
unfolding viewed_body items_of
body_found node rec_ref body s fits e =
    let a = bind_some _ _ _ e in
    let b = bind_some _ _ _ a.2 in
    let g = cond_some _ _ _ b.2 in
    let t = child_takes node body a.0.0 a.0.1 fits a.1 in
    let k = items_taken _ node rec_ref a.0.1 b.0 t.0.fits b.1 in
    let p = and_parts (ltb 0 (length b.0)) _ g.0 in
    subst (λ (x : ViewedPage). BodyIs node rec_ref body x) g.1 (record {
      text = t.0.parts ∙ ap (λ (r : List ℕ). child_part a.0.0 ++ r) k.0 ∙ by_first node rec_ref a.0.0 b.0 t.1 k.1 p.1;
      some = ltb-true _ _ p.0;
      first = t.1;
      items = k.1;
      longest = p.1;
    })

pub body_again : (node : Bool) (rec_ref : ℕ) (s : ViewedPage) → 0 < length s.items → IsChild node s.first → AreItems node rec_ref s.items → are_longest [] s.items ≡ true → viewed_body node rec_ref (body_bytes rec_ref (page_of s)) ≡ Some s
unfolding viewed_body items_of
body_again node rec_ref s some first items longest =
    ap (viewed_body node rec_ref) (sym (by_first node rec_ref s.first s.items first items longest)) ∙
    rw (child_again node s.first (items_bytes rec_ref s.items) first, items_again (length (items_bytes rec_ref s.items)) node rec_ref s.items (omega arith) items, lt-ltb 0 (length s.items) some, longest) refl

-- ---- every page with a spelling is shown by some items

abbrev pub items_for : List ℕ → List Entry → List ℕ → List Item
items_for before [] children = []
items_for before (e ∷ es) [] = item_for before e None ∷ items_for e.key es []
items_for before (e ∷ es) (c ∷ cs) = item_for before e (Some c) ∷ items_for e.key es cs

pub longest_for : (before : List ℕ) (es : List Entry) (children : List ℕ) → are_longest before (items_for before es children) ≡ true
longest_for before [] children = refl
longest_for before (e ∷ es) [] = and_from _ _ (item_for_longest before e None) (rw (item_for_key before e None) (longest_for e.key es []))
longest_for before (e ∷ es) (c ∷ cs) = and_from _ _ (item_for_longest before e (Some c)) (rw (item_for_key before e (Some c)) (longest_for e.key es cs))

pub entries_for : (before : List ℕ) (es : List Entry) (children : List ℕ) → entries_after before (items_for before es children) ≡ es
entries_for before [] children = refl
entries_for before (e ∷ es) [] = rw (item_for_key before e None) (ap (λ (t : List Entry). e ∷ t) (entries_for e.key es []))
entries_for before (e ∷ es) (c ∷ cs) = rw (item_for_key before e (Some c)) (ap (λ (t : List Entry). e ∷ t) (entries_for e.key es cs))

pub no_children_for : (before : List ℕ) (es : List Entry) → children_of (items_for before es []) ≡ []
no_children_for before [] = refl
no_children_for before (e ∷ es) = no_children_for e.key es

pub children_for : (before : List ℕ) (es : List Entry) (cs : List ℕ) → length cs ≡ length es → children_of (items_for before es cs) ≡ cs
children_for before [] [] h = refl
children_for before [] (c ∷ cs) h = absurd (omega arith)
children_for before (e ∷ es) [] h = absurd (omega arith)
children_for before (e ∷ es) (c ∷ cs) h = ap (λ (t : List ℕ). c ∷ t) (children_for e.key es cs (omega arith))
