-- What a view of a page shows, whatever numbers the page is read from: an item, and in a node alone a first child and a
-- child after each item.
use Rattle.std.proofs.Common.{◌≡◌, ℕ, zero, suc, ◌<◌, ◌&&◌, Bool, true, false, cond, ltb, Option, Some, None, List, [], ◌∷◌, length, refl, sym, ap, subst, ◌∙◌}
use Rattle.std.specs.Prelude.{is_some, option_map}
use Rattle.std.specs.List.{AllByRecursion}
use Rattle.std.proofs.lemmas.Bool.{and_parts, ltb-true}
use Rattle.std.proofs.lemmas.Option.{same_Some, cond_some}
use Rattle.myi_keypage.specs.PageItems.{◌>>=◌, Item, are_longest, number_at, piece_at, pointer_at, place_at, child_at, item_at, items_up_to, items_of}
use Rattle.myi_keypage.specs.Views.{ViewedPage, viewed_page, viewed_body, viewed_in}

bind_some : {A B : Type 0} (r : Option A) (f : A → Option B) (y : B) → (r >>= f) ≡ Some y → (x : A) × (r ≡ Some x) × (f x ≡ Some y)
bind_some (Some x) f y e = (x, refl, e)
bind_some None f y e = absurd cc

child_shape : (node : Bool) (bytes : List ℕ) (x : Option ℕ × List ℕ) → child_at node bytes ≡ Some x → is_some x.0 ≡ node
unfolding child_at
child_shape false bytes x e = ap (λ (p : Option ℕ × List ℕ). is_some p.0) (sym (same_Some _ _ e))
child_shape true bytes x e =
    let b = bind_some {A = ℕ × List ℕ} {B = Option ℕ × List ℕ} (place_at bytes) (λ place. Some (Some place.0, place.1)) x e in
    ap (λ (p : Option ℕ × List ℕ). is_some p.0) (sym (same_Some (Some b.0.0, b.0.1) x b.2))

item_shape : (node : Bool) (rec_ref : ℕ) (bytes : List ℕ) (x : Item × List ℕ) → item_at node rec_ref bytes ≡ Some x → is_some x.0.child ≡ node
unfolding item_at
item_shape node rec_ref bytes x e =
    let made : ℕ × List ℕ → List ℕ × List ℕ → ℕ × List ℕ → Option ℕ × List ℕ → Option (Item × List ℕ) = λ prefix rest row child. Some (record { prefix = prefix.0; rest = rest.0; row = row.0; child = child.0 }, child.1) in
    let a = bind_some {A = ℕ × List ℕ} (number_at bytes) (λ prefix. number_at prefix.1 >>= λ len. piece_at len.0 len.1 >>= λ rest. pointer_at rec_ref rest.1 >>= λ row. child_at node row.1 >>= λ child. made prefix rest row child) x e in
    let b = bind_some {A = ℕ × List ℕ} (number_at a.0.1) (λ len. piece_at len.0 len.1 >>= λ rest. pointer_at rec_ref rest.1 >>= λ row. child_at node row.1 >>= λ child. made a.0 rest row child) x a.2 in
    let c = bind_some {A = List ℕ × List ℕ} (piece_at b.0.0 b.0.1) (λ rest. pointer_at rec_ref rest.1 >>= λ row. child_at node row.1 >>= λ child. made a.0 rest row child) x b.2 in
    let d = bind_some {A = ℕ × List ℕ} (pointer_at rec_ref c.0.1) (λ row. child_at node row.1 >>= λ child. made a.0 c.0 row child) x c.2 in
    let f = bind_some {A = Option ℕ × List ℕ} (child_at node d.0.1) (λ child. made a.0 c.0 d.0 child) x d.2 in
    ap (λ (p : Item × List ℕ). is_some p.0.child) (sym (same_Some (record { prefix = a.0.0; rest = c.0.0; row = d.0.0; child = f.0.0 }, f.0.1) x f.2)) ∙ child_shape node d.0.1 f.0 f.1

-- each item has a child, or none has
abbrev pub AreAlike : Bool → List Item → Type 0
AreAlike node items = AllByRecursion (λ (item : Item). is_some item.child ≡ node) items

one_more : (node : Bool) (item : Item) (o : Option (List Item)) (items : List Item) → is_some item.child ≡ node → ((rest : List Item) → o ≡ Some rest → AreAlike node rest) → option_map (λ items. item ∷ items) o ≡ Some items → AreAlike node items
one_more node item None items h again e = absurd cc
one_more node item (Some rest) items h again e = subst (AreAlike node) (same_Some _ _ e) (h, again rest refl)

items_shape : (n : ℕ) (node : Bool) (rec_ref : ℕ) (bytes : List ℕ) (items : List Item) → items_up_to n node rec_ref bytes ≡ Some items → AreAlike node items
unfolding items_up_to
items_shape zero node rec_ref [] items e = subst (AreAlike node) (same_Some _ _ e) tt
items_shape zero node rec_ref (b ∷ bs) items e = absurd cc
items_shape (suc n) node rec_ref [] items e = subst (AreAlike node) (same_Some _ _ e) tt
items_shape (suc n) node rec_ref (b ∷ bs) items e =
    let a = bind_some {A = Item × List ℕ} (item_at node rec_ref (b ∷ bs)) (λ item. option_map (λ items. item.0 ∷ items) (items_up_to n node rec_ref item.1)) items e in
    one_more node a.0.0 (items_up_to n node rec_ref a.0.1) items (item_shape node rec_ref (b ∷ bs) a.0 a.1) (λ rest is. items_shape n node rec_ref a.0.1 rest is) a.2

pub record HasShape (s : ViewedPage) : Type 0 where
  pub node : Bool
  pub first : is_some s.first ≡ node
  pub items : AreAlike node s.items
  pub some : 0 < length s.items

body_shape : (node : Bool) (rec_ref : ℕ) (body : List ℕ) (s : ViewedPage) → viewed_body node rec_ref body ≡ Some s → HasShape s
unfolding viewed_body items_of
body_shape node rec_ref body s e =
    let shown : Option ℕ → List Item → Option ViewedPage = λ first items. cond (ltb 0 (length items) && are_longest [] items) (Some (viewed_page first items)) None in
    let a = bind_some {A = Option ℕ × List ℕ} (child_at node body) (λ first. items_of node rec_ref first.1 >>= λ items. shown first.0 items) s e in
    let b = bind_some {A = List Item} (items_of node rec_ref a.0.1) (λ items. shown a.0.0 items) s a.2 in
    let g = cond_some (ltb 0 (length b.0) && are_longest [] b.0) (viewed_page a.0.0 b.0) s b.2 in
    let p = and_parts (ltb 0 (length b.0)) (are_longest [] b.0) g.0 in
    subst HasShape g.1 (record {
      node = node;
      first = child_shape node body a.0 a.1;
      items = items_shape (length a.0.1) node rec_ref a.0.1 b.0 b.1;
      some = ltb-true _ _ p.0;
    })

pub view_shape : (rec_ref : ℕ) (bytes : List ℕ) (s : ViewedPage) → viewed_in rec_ref bytes ≡ Some s → HasShape s
unfolding viewed_in
view_shape rec_ref bytes s e = by _ _ _ _ e
  where
    by : (b node : Bool) (body : List ℕ) (s : ViewedPage) → cond b None (viewed_body node rec_ref body) ≡ Some s → HasShape s
    by true node body s e = absurd cc
    by false node body s e = body_shape node rec_ref body s e
