-- What is read as items is what spells them, and what spells items is read again.
use Rattle.std.proofs.Common.{◌≡◌, ℕ, zero, suc, ◌+◌, ◌*◌, ◌/◌, ◌<◌, ◌≤◌, Bool, true, false, ◌&&◌, Option, Some, None, List, [], ◌∷◌, ◌++◌, length, refl, sym, ap, subst, ◌∙◌, append_assoc, arith, inl, inr}
use Rattle.std.specs.Prelude.{option_map}
use Rattle.std.proofs.lemmas.Bool.{and_right, cases_lt, ltb-true, le-ltb, lt-ltb}
use Rattle.std.proofs.lemmas.List.{length-append}
use Rattle.std.proofs.lemmas.Option.{same_Some, cond_some}
use Rattle.myi_keypage.specs.Page.{number_bytes, child_bytes, IsPlace}
use Rattle.myi_base.specs.Numbers.{num_bytes, AreBytes}
use Rattle.myi_keypage.specs.PageItems.{◌>>=◌, Item, place_at, child_at, item_at, items_up_to, items_of, passes, is_longest, key_after}
use Rattle.myi_keypage.proofs.ItemForms.{IsChild, child_part, item_bytes, IsItem}
use Rattle.myi_keypage.proofs.Numbers.{bind_some, Takes, Takes-then, number_takes, number_again, piece_takes, piece_again, pointer_takes, pointer_again}

over_1024 : (n : ℕ) → n * 1024 / 1024 ≡ n
over_1024 n = omega arith

pub place_takes : (bytes : List ℕ) (place : ℕ) (rest : List ℕ) → AreBytes bytes → place_at bytes ≡ Some (place, rest) → Takes bytes (child_bytes place) rest × IsPlace place
unfolding place_at
place_takes bytes place rest fits e =
    let b = bind_some _ _ _ e in
    let t = pointer_takes 7 bytes b.0.0 b.0.1 fits b.1 in
    let g = cond_some _ _ _ b.2 in
    subst (λ (p : ℕ × List ℕ). Takes bytes (child_bytes p.0) p.1 × IsPlace p.0) g.1
    (rw (over_1024 b.0.0) t.0, (omega arith, rw (over_1024 b.0.0) (ltb-true _ _ g.0)))

pub place_again : (place : ℕ) (rest : List ℕ) → IsPlace place → place_at (child_bytes place ++ rest) ≡ Some (place, rest)
unfolding place_at
place_again place rest h =
    let back : place / 1024 * 1024 ≡ place = omega (arith, h.0) in
    rw (pointer_again 7 (place / 1024) rest (omega (arith, h.1)), lt-ltb _ _ h.1, back) refl

pub child_takes : (node : Bool) (bytes : List ℕ) (child : Option ℕ) (rest : List ℕ) → AreBytes bytes → child_at node bytes ≡ Some (child, rest) → Takes bytes (child_part child) rest × IsChild node child
unfolding child_at
child_takes false bytes child rest fits e =
    subst (λ (p : Option ℕ × List ℕ). Takes bytes (child_part p.0) p.1 × IsChild false p.0) (same_Some _ _ e) (record { parts = refl; fits = fits }, tt)
child_takes true bytes child rest fits e =
    let b = bind_some _ _ _ e in
    subst (λ (p : Option ℕ × List ℕ). Takes bytes (child_part p.0) p.1 × IsChild true p.0) (same_Some _ _ b.2) (place_takes bytes b.0.0 b.0.1 fits b.1)

pub child_again : (node : Bool) (child : Option ℕ) (rest : List ℕ) → IsChild node child → child_at node (child_part child ++ rest) ≡ Some (child, rest)
unfolding child_at
child_again false None rest h = refl
child_again false (Some place) rest h = absurd h
child_again true None rest h = absurd h
child_again true (Some place) rest h = rw (place_again place rest h) refl

pub item_takes : (node : Bool) (rec_ref : ℕ) (bytes : List ℕ) (item : Item) (rest : List ℕ) → AreBytes bytes → item_at node rec_ref bytes ≡ Some (item, rest) → Takes bytes (item_bytes rec_ref item) rest × IsItem node rec_ref item
unfolding item_at
item_takes node rec_ref bytes item rest fits e =
    let a = bind_some _ _ _ e in
    let b = bind_some _ _ _ a.2 in
    let c = bind_some _ _ _ b.2 in
    let d = bind_some _ _ _ c.2 in
    let f = bind_some _ _ _ d.2 in
    let at = number_takes bytes a.0.0 a.0.1 fits a.1 in
    let bt = number_takes a.0.1 b.0.0 b.0.1 at.0.fits b.1 in
    let ct = piece_takes b.0.0 b.0.1 c.0.0 c.0.1 bt.0.fits c.1 in
    let dt = pointer_takes rec_ref c.0.1 d.0.0 d.0.1 ct.0.fits d.1 in
    let ft = child_takes node d.0.1 f.0.0 f.0.1 dt.0.fits f.1 in
    let len : Takes a.0.1 (number_bytes (length c.0.0)) b.0.1 = rw ct.1 bt.0 in
    let whole = Takes-then _ _ _ _ _ (Takes-then _ _ _ _ _ (Takes-then _ _ _ _ _ (Takes-then _ _ _ _ _ at.0 len) ct.0) dt.0) ft.0 in
    subst (λ (p : Item × List ℕ). Takes bytes (item_bytes rec_ref p.0) p.1 × IsItem node rec_ref p.0) (same_Some _ _ f.2)
    (whole, record { prefix = at.1; rest = omega (arith, ct.1, bt.1); row = dt.1; child = ft.1 })

pub item_again : (node : Bool) (rec_ref : ℕ) (item : Item) (rest : List ℕ) → IsItem node rec_ref item → item_at node rec_ref (item_bytes rec_ref item ++ rest) ≡ Some (item, rest)
unfolding item_at
item_again node rec_ref item rest h =
    let t4 : List ℕ = child_part item.child ++ rest in
    let t3 : List ℕ = num_bytes rec_ref item.row ++ t4 in
    let t2 : List ℕ = item.rest ++ t3 in
    let t1 : List ℕ = number_bytes (length item.rest) ++ t2 in
    let regrouped : item_bytes rec_ref item ++ rest ≡ number_bytes item.prefix ++ t1 = simp append_assoc refl in
    ap (item_at node rec_ref) regrouped ∙
    rw (number_again item.prefix t1 h.prefix, number_again (length item.rest) t2 h.rest, piece_again item.rest t3, pointer_again rec_ref item.row t4 h.row, child_again node item.child rest h.child) refl

-- ---- lists of items

pub length-number_bytes : (n : ℕ) → 0 < length (number_bytes n)
length-number_bytes n =
    elim (cases_lt n 255) [
      | inl small ↦ rw (lt-ltb n 255 small) (omega arith)
      | inr large ↦ rw (le-ltb n 255 large) (omega arith)
    ]

pub item_shrinks : (node : Bool) (rec_ref : ℕ) (bytes : List ℕ) (x : Item × List ℕ) → AreBytes bytes → item_at node rec_ref bytes ≡ Some x → length x.1 + length x.0.rest < length bytes
item_shrinks node rec_ref bytes x fits e =
    let t = item_takes node rec_ref bytes x.0 x.1 fits e in
    let whole : length bytes ≡ length (item_bytes rec_ref x.0 ++ x.1) = ap length t.0.parts in
    omega (arith, length-number_bytes x.0.prefix, simp length-append at whole)

-- what is found does not depend on a limit that suffices
enough : (n m : ℕ) (node : Bool) (rec_ref : ℕ) (bytes : List ℕ) → AreBytes bytes → length bytes ≤ n → length bytes ≤ m → items_up_to n node rec_ref bytes ≡ items_up_to m node rec_ref bytes
unfolding items_up_to
enough zero zero node rec_ref [] fits h k = refl
enough zero (suc m) node rec_ref [] fits h k = refl
enough (suc n) zero node rec_ref [] fits h k = refl
enough (suc n) (suc m) node rec_ref [] fits h k = refl
enough zero m node rec_ref (b ∷ bs) fits h k = absurd (omega arith)
enough (suc n) zero node rec_ref (b ∷ bs) fits h k = absurd (omega arith)
enough (suc n) (suc m) node rec_ref (b ∷ bs) fits h k = after (item_at node rec_ref (b ∷ bs)) refl (λ rest. enough n m node rec_ref rest)
  where
    after : (o : Option (Item × List ℕ)) → item_at node rec_ref (b ∷ bs) ≡ o → ((rest : List ℕ) → AreBytes rest → length rest ≤ n → length rest ≤ m → items_up_to n node rec_ref rest ≡ items_up_to m node rec_ref rest)
        → (o >>= λ item. option_map (λ items. item.0 ∷ items) (items_up_to n node rec_ref item.1)) ≡ (o >>= λ item. option_map (λ items. item.0 ∷ items) (items_up_to m node rec_ref item.1))
    after None e again = refl
    after (Some x) e again =
        let s = item_shrinks node rec_ref (b ∷ bs) x fits e in
        let t = item_takes node rec_ref (b ∷ bs) x.0 x.1 fits e in
        ap (option_map (λ items. x.0 ∷ items)) (again x.1 t.0.fits (omega arith) (omega arith))

-- one item, and then the others
pub items_of_more : (node : Bool) (rec_ref : ℕ) (bytes : List ℕ) (x : Item × List ℕ) → AreBytes bytes → item_at node rec_ref bytes ≡ Some x → items_of node rec_ref bytes ≡ option_map (λ items. x.0 ∷ items) (items_of node rec_ref x.1)
unfolding items_of items_up_to
items_of_more node rec_ref [] x fits e = absurd (omega (arith, item_shrinks node rec_ref [] x fits e))
items_of_more node rec_ref (b ∷ bs) x fits e =
    let s = item_shrinks node rec_ref (b ∷ bs) x fits e in
    let t = item_takes node rec_ref (b ∷ bs) x.0 x.1 fits e in
    rw e (ap (option_map (λ items. x.0 ∷ items)) (enough (length bs) (length x.1) node rec_ref x.1 t.0.fits (omega arith) (omega arith)))

pub items_of_none : (node : Bool) (rec_ref : ℕ) (bytes : List ℕ) → 0 < length bytes → item_at node rec_ref bytes ≡ None → items_of node rec_ref bytes ≡ None
unfolding items_of items_up_to
items_of_none node rec_ref [] lt e = absurd (omega arith)
items_of_none node rec_ref (b ∷ bs) lt e = rw e refl

pub items_of_nil : (node : Bool) (rec_ref : ℕ) (bytes : List ℕ) → length bytes ≡ 0 → items_of node rec_ref bytes ≡ Some []
unfolding items_of items_up_to
items_of_nil node rec_ref [] h = refl
items_of_nil node rec_ref (b ∷ bs) h = absurd (omega arith)

-- ---- the test of the prefixes

passes_cons : (before : List ℕ) (item : Item) (o : Option (List Item)) → passes before (option_map (λ items. item ∷ items) o) ≡ (is_longest before item && passes (key_after before item) o)
unfolding passes
passes_cons before item None = sym (and_right (is_longest before item) false refl)
passes_cons before item (Some items) = refl

pub passes_more : (before : List ℕ) (node : Bool) (rec_ref : ℕ) (bytes : List ℕ) (x : Item × List ℕ) → AreBytes bytes → item_at node rec_ref bytes ≡ Some x
    → passes before (items_of node rec_ref bytes) ≡ (is_longest before x.0 && passes (key_after before x.0) (items_of node rec_ref x.1))
passes_more before node rec_ref bytes x fits e = rw (items_of_more node rec_ref bytes x fits e) (passes_cons before x.0 (items_of node rec_ref x.1))

pub passes_none : (before : List ℕ) (node : Bool) (rec_ref : ℕ) (bytes : List ℕ) → 0 < length bytes → item_at node rec_ref bytes ≡ None → passes before (items_of node rec_ref bytes) ≡ false
unfolding passes
passes_none before node rec_ref bytes lt e = rw (items_of_none node rec_ref bytes lt e) refl

pub passes_nil : (before : List ℕ) (node : Bool) (rec_ref : ℕ) (bytes : List ℕ) → length bytes ≡ 0 → passes before (items_of node rec_ref bytes) ≡ true
unfolding passes
passes_nil before node rec_ref bytes e = rw (items_of_nil node rec_ref bytes e) refl
