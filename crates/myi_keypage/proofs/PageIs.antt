-- Exactly the pages are read.
use Rattle.std.proofs.Common.{◌≡◌, ℕ, suc, ◌+◌, ◌-◌, ◌*◌, ◌/◌, ◌%◌, ◌^◌, ◌<◌, ◌≤◌, Bool, true, false, cond, ltb, leb, ◌&&◌, Option, Some, None, List, [], ◌∷◌, ◌++◌, length, get_or, take, drop, refl, sym, ap, subst, ◌∙◌, arith}
use Rattle.std.specs.Prelude.{option_map, is_some, IfSome, IfNone}
use Rattle.std.specs.List.{AllByRecursion}
use Rattle.std.proofs.lemmas.Bool.{and_right, leb-true, leb-false, le-leb, lt-leb, lt-ltb}
use Rattle.std.proofs.lemmas.List.{take_at, length-append, length-take, length-drop, take-append-drop}
use Rattle.std.proofs.lemmas.Option.{same_Some}
use Rattle.myi_keypage.specs.declared.entry.Entry.{Entry}
use Rattle.myi_keypage.specs.Page.{Page, entries_bytes, entry_bytes, body_bytes, child_bytes, IsPlace, head_bytes, page_bytes, IsWritable, IsBranching, is_node, IsPage}
use Rattle.myi_base.specs.Numbers.{AreBytes}
use Rattle.myi_keypage.specs.PageItems.{◌>>=◌, items_up_to, items_of, item_at, child_at, Item, key_after, are_longest, passes}
use Rattle.myi_keypage.proofs.ItemForms.{IsChild, AreItems}
use Rattle.myi_keypage.specs.Views.{entries_after, with_child, children_of, ViewedPage, viewed_page, page_of, viewed_body, items_in, items_or_none}
use Rattle.myi_base.proofs.CallerLemmas.{bytes-take, bytes-drop}
use Rattle.myi_keypage.proofs.Numbers.{bind_some}
use Rattle.myi_keypage.proofs.WriteLaws.{entry_len}
use Rattle.myi_keypage.proofs.ItemLaws.{child_takes, item_takes, items_of_more, items_of_none, items_of_nil}
use Rattle.myi_keypage.proofs.PageLaws.{body_found, body_again, items_for, longest_for, entries_for, no_children_for, children_for, leaf_text, node_text}

-- ---- a walk

no_items : (o : Option (List Item)) → o ≡ None → is_some o ≡ true → ⊥
no_items None e h = cc
no_items (Some items) e h = cc

pub walk_end : (node : Bool) (rec_ref : ℕ) (rest : List ℕ) → is_some (items_of node rec_ref rest) ≡ true → item_at node rec_ref rest ≡ None → items_in node rec_ref rest ≡ []
unfolding items_of items_up_to
walk_end node rec_ref [] h e = refl
walk_end node rec_ref (b ∷ bs) h e = absurd (no_items _ (items_of_none node rec_ref (b ∷ bs) (omega arith) e) h)

mapped : (item : Item) (o : Option (List Item)) → is_some (option_map (λ items. item ∷ items) o) ≡ true
    → (items_or_none (option_map (λ items. item ∷ items) o) ≡ item ∷ items_or_none o) × (is_some o ≡ true)
mapped item None h = absurd cc
mapped item (Some items) h = (refl, refl)

pub walk_more : (node : Bool) (rec_ref : ℕ) (rest : List ℕ) (x : Item × List ℕ) → AreBytes rest → is_some (items_of node rec_ref rest) ≡ true → item_at node rec_ref rest ≡ Some x
    → (items_in node rec_ref rest ≡ x.0 ∷ items_in node rec_ref x.1) × (is_some (items_of node rec_ref x.1) ≡ true) × AreBytes x.1
walk_more node rec_ref rest x fits h e =
    let m = items_of_more node rec_ref rest x fits e in
    let h2 : is_some (option_map (λ items. x.0 ∷ items) (items_of node rec_ref x.1)) ≡ true = rw m at h in
    let k = mapped x.0 (items_of node rec_ref x.1) h2 in
    (ap items_or_none m ∙ k.0, k.1, (item_takes node rec_ref rest x.0 x.1 fits e).0.fits)

-- ---- a body

some_items : (node : Bool) (rec_ref : ℕ) (bytes : List ℕ) (items : List Item) → 0 < length bytes → items_of node rec_ref bytes ≡ Some items → 0 < length items
unfolding items_of items_up_to
some_items node rec_ref [] items lt e = absurd (omega arith)
some_items node rec_ref (b ∷ bs) items lt e =
    let a = bind_some (item_at node rec_ref (b ∷ bs)) (λ x. option_map (λ is. x.0 ∷ is) (items_up_to (length bs) node rec_ref x.1)) items e in consed a.0.0 (items_up_to (length bs) node rec_ref a.0.1) items a.2
  where
    consed : (item : Item) (o : Option (List Item)) (items : List Item) → option_map (λ items. item ∷ items) o ≡ Some items → 0 < length items
    consed item None items e = absurd cc
    consed item (Some is) items e = subst (λ (t : List Item). 0 < length t) (same_Some _ _ e) (omega arith)

pub is_child_node : (node : Bool) (o : Option ℕ) → IsChild node o → is_some o ≡ node
is_child_node false None h = refl
is_child_node false (Some c) h = absurd h
is_child_node true None h = absurd h
is_child_node true (Some c) h = refl

pub shown_none : (node : Bool) (rec_ref : ℕ) (body : List ℕ) → child_at node body ≡ None → viewed_body node rec_ref body ≡ None
unfolding viewed_body
shown_none node rec_ref body e = rw e refl

pub shown_empty : (node : Bool) (rec_ref : ℕ) (body : List ℕ) (x : Option ℕ × List ℕ) → child_at node body ≡ Some x → length x.1 ≡ 0 → viewed_body node rec_ref body ≡ None
unfolding viewed_body
shown_empty node rec_ref body x e h = rw (e, items_of_nil node rec_ref x.1 h) refl

by_passing : (first : Option ℕ) (o : Option (List Item)) → passes [] o ≡ false
    → (o >>= λ items. cond (ltb 0 (length items) && are_longest [] items) (Some (viewed_page first items)) None) ≡ None
unfolding passes
by_passing first None h = refl
by_passing first (Some items) h = let all : (ltb 0 (length items) && are_longest [] items) ≡ false = and_right _ _ h in rw all refl

pub shown_failed : (node : Bool) (rec_ref : ℕ) (body : List ℕ) (x : Option ℕ × List ℕ) → child_at node body ≡ Some x → passes [] (items_of node rec_ref x.1) ≡ false → viewed_body node rec_ref body ≡ None
unfolding viewed_body
shown_failed node rec_ref body x e h = rw e (by_passing x.0 (items_of node rec_ref x.1) h)

by_passed : (first : Option ℕ) (o : Option (List Item)) → passes [] o ≡ true → ((items : List Item) → o ≡ Some items → 0 < length items)
    → ((o >>= λ items. cond (ltb 0 (length items) && are_longest [] items) (Some (viewed_page first items)) None) ≡ Some (viewed_page first (items_or_none o))) × (is_some o ≡ true)
unfolding passes
by_passed first None h lt = absurd cc
by_passed first (Some items) h lt =
    let some : ltb 0 (length items) ≡ true = lt-ltb 0 (length items) (lt items refl) in
    (rw (some, h) refl, refl)

pub shown_passed : (node : Bool) (rec_ref : ℕ) (body : List ℕ) (x : Option ℕ × List ℕ) → AreBytes body → child_at node body ≡ Some x → 0 < length x.1 → passes [] (items_of node rec_ref x.1) ≡ true
    → (viewed_body node rec_ref body ≡ Some (viewed_page x.0 (items_in (is_some x.0) rec_ref x.1))) × (is_some (items_of (is_some x.0) rec_ref x.1) ≡ true) × AreBytes x.1
unfolding viewed_body
shown_passed node rec_ref body x fits e lt h =
    let t = child_takes node body x.0 x.1 fits e in
    let n : is_some x.0 ≡ node = is_child_node node x.0 t.1 in
    let k = by_passed x.0 (items_of node rec_ref x.1) h (λ items is. some_items node rec_ref x.1 items lt is) in
    (rw (e, n) k.0, rw n k.1, t.0.fits)

-- ---- the whole page

from_items : (rec_ref : ℕ) (node : Bool) (before : List ℕ) (items : List Item) → AreItems node rec_ref items → AllByRecursion (λ (e : Entry). e.row < 256 ^ rec_ref) (entries_after before items)
from_items rec_ref node before [] h = tt
from_items rec_ref node before (item ∷ items) h = (h.0.row, from_items rec_ref node (key_after before item) items h.1)

places_in : (rec_ref : ℕ) (node : Bool) (items : List Item) → AreItems node rec_ref items → AllByRecursion IsPlace (children_of items)
places_in rec_ref node [] h = tt
places_in rec_ref node (item ∷ items) h = one node item.child h.0.child (places_in rec_ref node items h.1)
  where
    one : (node : Bool) (o : Option ℕ) → IsChild node o → AllByRecursion IsPlace (children_of items) → AllByRecursion IsPlace (with_child o (children_of items))
    one node None h again = again
    one true (Some c) h again = (h, again)
    one false (Some c) h again = absurd h

pub length-entries_after : (before : List ℕ) (items : List Item) → length (entries_after before items) ≡ length items
length-entries_after before [] = refl
length-entries_after before (item ∷ items) = ap suc (length-entries_after (key_after before item) items)

-- the parts that go by whether it is a node
pub by_node : (node : Bool) (rec_ref : ℕ) (s : ViewedPage) → IsChild node s.first → AreItems node rec_ref s.items → are_longest [] s.items ≡ true
    → AllByRecursion IsPlace (page_of s).children × IsBranching (page_of s) × (is_node (page_of s) ≡ node)
by_node node rec_ref s f h l = cases node s.first s.items f h l
  where
    cases : (node : Bool) (first : Option ℕ) (items : List Item) → IsChild node first → AreItems node rec_ref items → are_longest [] items ≡ true
        → AllByRecursion IsPlace (with_child first (children_of items)) × IsBranching (page_of (viewed_page first items)) × (is_node (page_of (viewed_page first items)) ≡ node)
    cases false None items f h l =
        let none = (leaf_text rec_ref [] items h l).1 in (places_in rec_ref false items h, rw none tt, rw none refl)
    cases false (Some c) items f h l = absurd f
    cases true None items f h l = absurd f
    cases true (Some c) items f h l =
        ((f, places_in rec_ref true items h), (node_text rec_ref [] items h l).1 ∙ sym (length-entries_after [] items), lt-ltb _ _ (omega arith))

two_parts : (bytes : List ℕ) → 2 ≤ length bytes → bytes ≡ get_or bytes 0 0 ∷ get_or bytes 1 0 ∷ drop 2 bytes
two_parts [] h = absurd (omega arith)
two_parts (a ∷ []) h = absurd (omega arith)
two_parts (a ∷ b ∷ bs) h = refl

head_is : (node : Bool) (a b : ℕ) → a < 256 → b < 256 → leb 128 a ≡ node → head_bytes node (a % 128 * 256 + b) ≡ a ∷ b ∷ []
head_is true a b ha hb e = let le : 128 ≤ a = leb-true _ _ e in let x : 128 + (a % 128 * 256 + b) / 256 ≡ a = omega arith in let y : (a % 128 * 256 + b) % 256 ≡ b = omega arith in rw (x, y) refl
head_is false a b ha hb e = let lt : a < 128 = leb-false _ _ e in let x : 0 + (a % 128 * 256 + b) / 256 ≡ a = omega arith in let y : (a % 128 * 256 + b) % 256 ≡ b = omega arith in rw (x, y) refl

pub page_found : (rec_ref : ℕ) (bytes : List ℕ) (s : ViewedPage) (node : Bool) (used : ℕ) → AreBytes bytes → 2 ≤ length bytes → leb 128 (get_or bytes 0 0) ≡ node → used ≡ get_or bytes 0 0 % 128 * 256 + get_or bytes 1 0
    → 2 ≤ used → used ≤ length bytes → viewed_body node rec_ref (take (used - 2) (drop 2 bytes)) ≡ Some s → IsPage rec_ref bytes (page_of s)
unfolding page_bytes
page_found rec_ref bytes s node used fits two is_node_byte used_is least most e =
    let body : List ℕ = take (used - 2) (drop 2 bytes) in
    let fits_body : AreBytes body = bytes-take (used - 2) (drop 2 bytes) (bytes-drop 2 bytes fits) in
    let k = body_found node rec_ref body s fits_body e in
    let n = by_node node rec_ref s k.first k.items k.longest in
    let len : length (body_bytes rec_ref (page_of s)) ≡ length body = ap length (sym k.text) in
    let whole : length (body_bytes rec_ref (page_of s)) + 2 ≡ used = omega (arith, len, length-take (used - 2) (drop 2 bytes), length-drop 2 bytes) in
    let split : drop 2 bytes ≡ body ++ drop (used - 2) (drop 2 bytes) = sym (take-append-drop (used - 2) (drop 2 bytes)) in
    let a : get_or bytes 0 0 < 256 = fits 0 in
    let b : get_or bytes 1 0 < 256 = fits 1 in
    let head : head_bytes node used ≡ get_or bytes 0 0 ∷ get_or bytes 1 0 ∷ [] = rw used_is (head_is node _ _ a b is_node_byte) in
    let spelled : (head_bytes (is_node (page_of s)) (length (body_bytes rec_ref (page_of s)) + 2) ++ body_bytes rec_ref (page_of s)) ++ drop (used - 2) (drop 2 bytes) ≡ get_or bytes 0 0 ∷ get_or bytes 1 0 ∷ (body ++ drop (used - 2) (drop 2 bytes)) =
    ap (λ (b : Bool). (head_bytes b (length (body_bytes rec_ref (page_of s)) + 2) ++ body_bytes rec_ref (page_of s)) ++ drop (used - 2) (drop 2 bytes)) n.2
    ∙ ap (λ (u : ℕ). (head_bytes node u ++ body_bytes rec_ref (page_of s)) ++ drop (used - 2) (drop 2 bytes)) whole
    ∙ ap (λ (h : List ℕ). (h ++ body_bytes rec_ref (page_of s)) ++ drop (used - 2) (drop 2 bytes)) head
    ∙ ap (λ (t : List ℕ). get_or bytes 0 0 ∷ get_or bytes 1 0 ∷ (t ++ drop (used - 2) (drop 2 bytes))) (sym k.text) in
    record {
      has = record { some = omega (arith, k.some, length-entries_after [] s.items); rows = from_items rec_ref node [] s.items k.items; places = n.0; used = omega arith };
      branching = n.1;
      text = (drop (used - 2) (drop 2 bytes), two_parts bytes two ∙ ap (λ (t : List ℕ). get_or bytes 0 0 ∷ get_or bytes 1 0 ∷ t) split ∙ sym spelled);
    }

-- ---- and no other page

-- what a page with a spelling is when it is read
pub record Expected (rec_ref : ℕ) (bytes : List ℕ) (page : Page) : Type 0 where
  pub two : 2 ≤ length bytes
  pub used : get_or bytes 0 0 % 128 * 256 + get_or bytes 1 0 ≡ length (body_bytes rec_ref page) + 2
  pub most : length (body_bytes rec_ref page) + 2 ≤ length bytes
  pub node : leb 128 (get_or bytes 0 0) ≡ is_node page
  pub body : take (length (body_bytes rec_ref page)) (drop 2 bytes) ≡ body_bytes rec_ref page

top_bit : (node : Bool) (used : ℕ) → used < 32768 → leb 128 (cond node 128 0 + used / 256) ≡ node
top_bit true used lt = le-leb _ _ (omega arith)
top_bit false used lt = lt-leb _ _ (omega arith)

low_part : (node : Bool) (used : ℕ) → used < 32768 → (cond node 128 0 + used / 256) % 128 * 256 + used % 256 ≡ used
low_part true used lt = omega arith
low_part false used lt = omega arith

expected_at : (rec_ref : ℕ) (body rest : List ℕ) (node : Bool) (used : ℕ) (bytes : List ℕ) → used ≡ length body + 2 → used < 32768 → bytes ≡ (head_bytes node used ++ body) ++ rest
    → (2 ≤ length bytes) × (get_or bytes 0 0 % 128 * 256 + get_or bytes 1 0 ≡ used) × (used ≤ length bytes) × (leb 128 (get_or bytes 0 0) ≡ node) × (take (length body) (drop 2 bytes) ≡ body)
expected_at rec_ref body rest node used bytes u lt e =
    let len : length bytes ≡ length (body ++ rest) + 2 = ap length e ∙ omega arith in
    let first : get_or bytes 0 0 ≡ cond node 128 0 + used / 256 = ap (λ (t : List ℕ). get_or t 0 0) e in
    let second : get_or bytes 1 0 ≡ used % 256 = ap (λ (t : List ℕ). get_or t 1 0) e in
    let tail : drop 2 bytes ≡ body ++ rest = ap (λ (t : List ℕ). drop 2 t) e in
    (omega arith, rw (first, second) (low_part node used lt), omega (arith, length-append body rest), rw first (top_bit node used lt), rw tail (take_at body rest (length body) refl))

pub expected : (rec_ref : ℕ) (bytes : List ℕ) (page : Page) → IsPage rec_ref bytes page → Expected rec_ref bytes page
unfolding page_bytes
expected rec_ref bytes page h =
    let k = expected_at rec_ref (body_bytes rec_ref page) h.text.0 (is_node page) (length (body_bytes rec_ref page) + 2) bytes refl h.has.used h.text.1 in
    record { two = k.0; used = k.1; most = k.2; node = k.3; body = k.4 }

leaf_fits : (rec_ref : ℕ) (before : List ℕ) (es : List Entry) → AllByRecursion (λ (e : Entry). e.row < 256 ^ rec_ref) es → length before + length (entries_bytes rec_ref before es []) < 65536 → AreItems false rec_ref (items_for before es [])
leaf_fits rec_ref before [] rows lt = tt
leaf_fits rec_ref before (e ∷ es) rows lt =
    let app = length-append (entry_bytes rec_ref before e) (entries_bytes rec_ref e.key es []) in
    let k = entry_len rec_ref before e (length (entries_bytes rec_ref e.key es [])) (omega arith) in
    (record { prefix = k.0; rest = k.1; row = rows.0; child = tt }, leaf_fits rec_ref e.key es rows.1 k.2)

node_fits : (rec_ref : ℕ) (before : List ℕ) (es : List Entry) (cs : List ℕ) → AllByRecursion (λ (e : Entry). e.row < 256 ^ rec_ref) es → AllByRecursion IsPlace cs → length cs ≡ length es
    → length before + length (entries_bytes rec_ref before es cs) < 65536 → AreItems true rec_ref (items_for before es cs)
node_fits rec_ref before [] cs rows places len lt = tt
node_fits rec_ref before (e ∷ es) [] rows places len lt = absurd (omega arith)
node_fits rec_ref before (e ∷ es) (c ∷ cs) rows places len lt =
    let app = length-append (entry_bytes rec_ref before e ++ child_bytes c) (entries_bytes rec_ref e.key es cs) in
    let app2 = length-append (entry_bytes rec_ref before e) (child_bytes c) in
    let k = entry_len rec_ref before e (length (entries_bytes rec_ref e.key es cs)) (omega arith) in
    (record { prefix = k.0; rest = k.1; row = rows.0; child = places.0 }, node_fits rec_ref e.key es cs rows.1 places.1 (omega arith) k.2)

length-items_for : (before : List ℕ) (es : List Entry) (cs : List ℕ) → length (items_for before es cs) ≡ length es
length-items_for before [] cs = refl
length-items_for before (e ∷ es) [] = ap suc (length-items_for e.key es [])
length-items_for before (e ∷ es) (c ∷ cs) = ap suc (length-items_for e.key es cs)

-- what shows a page
pub shown_page : (rec_ref : ℕ) (es : List Entry) (cs : List ℕ) → let page : Page = record { entries = es; children = cs } in IsWritable rec_ref page → IsBranching page
    → (s : ViewedPage) × (viewed_body (is_node page) rec_ref (body_bytes rec_ref page) ≡ Some s) × (page_of s ≡ page)
shown_page rec_ref es [] has branching =
    let items : List Item = items_for [] es [] in
    let s : ViewedPage = viewed_page None items in
    let none : children_of items ≡ [] = no_children_for [] es in
    let same : page_of s ≡ record { entries = es; children = [] } = ap (λ (t : List Entry). page_with t (children_of items)) (entries_for [] es []) ∙ ap (page_with es) none in
    let k = body_again false rec_ref s (omega (arith, has.some, length-items_for [] es [])) tt (leaf_fits rec_ref [] es has.rows (omega (arith, has.used))) (longest_for [] es []) in
    (s, ap (λ (p : Page). viewed_body false rec_ref (body_bytes rec_ref p)) (sym same) ∙ k, same)
  where
    page_with : List Entry → List ℕ → Page
    page_with es cs = record { entries = es; children = cs }
shown_page rec_ref es (c ∷ cs) has branching =
    let items : List Item = items_for [] es cs in
    let s : ViewedPage = viewed_page (Some c) items in
    let some : children_of items ≡ cs = children_for [] es cs branching in
    let same : page_of s ≡ record { entries = es; children = c ∷ cs } = ap (λ (t : List Entry). page_with t (c ∷ children_of items)) (entries_for [] es cs) ∙ ap (λ (t : List ℕ). page_with es (c ∷ t)) some in
    let len : length (body_bytes rec_ref (page_with es (c ∷ cs))) ≡ length (child_bytes c) + length (entries_bytes rec_ref [] es cs) = length-append (child_bytes c) (entries_bytes rec_ref [] es cs) in
    let k = body_again true rec_ref s (omega (arith, has.some, length-items_for [] es cs)) has.places.0 (node_fits rec_ref [] es cs has.rows has.places.1 branching (omega (arith, has.used))) (longest_for [] es cs) in
    (s, ap (λ (b : Bool). viewed_body b rec_ref (body_bytes rec_ref (page_with es (c ∷ cs)))) (lt-ltb 0 (length (c ∷ cs)) (omega arith)) ∙ ap (λ (p : Page). viewed_body true rec_ref (body_bytes rec_ref p)) (sym same) ∙ k, same)
  where
    page_with : List Entry → List ℕ → Page
    page_with es cs = record { entries = es; children = cs }

none_some : (o : Option ViewedPage) (s : ViewedPage) → o ≡ None → o ≡ Some s → ⊥
none_some None s e f = cc
none_some (Some t) s e f = cc

pub page_none : (rec_ref : ℕ) (bytes : List ℕ) (page : Page) → IsPage rec_ref bytes page → viewed_body (leb 128 (get_or bytes 0 0)) rec_ref (take (get_or bytes 0 0 % 128 * 256 + get_or bytes 1 0 - 2) (drop 2 bytes)) ≡ None → ⊥
page_none rec_ref bytes page h e =
    let x = expected rec_ref bytes page h in
    let s = shown_page rec_ref page.entries page.children h.has h.branching in
    let used : get_or bytes 0 0 % 128 * 256 + get_or bytes 1 0 - 2 ≡ length (body_bytes rec_ref page) = omega (arith, x.used) in
    none_some _ s.0 (rw (x.node, used, x.body) at e) s.1

pub if_found : (rec_ref : ℕ) (bytes : List ℕ) (o : Option ViewedPage) → AreBytes bytes → 2 ≤ length bytes → let used : ℕ = get_or bytes 0 0 % 128 * 256 + get_or bytes 1 0 in
    2 ≤ used → used ≤ length bytes → o ≡ viewed_body (leb 128 (get_or bytes 0 0)) rec_ref (take (used - 2) (drop 2 bytes)) → IfSome o (λ v. IsPage rec_ref bytes (page_of v))
if_found rec_ref bytes None fits two least most e = tt
if_found rec_ref bytes (Some s) fits two least most e = page_found rec_ref bytes s _ _ fits two refl refl least most (sym e)

pub if_none : (rec_ref : ℕ) (bytes : List ℕ) (o : Option ViewedPage) → o ≡ viewed_body (leb 128 (get_or bytes 0 0)) rec_ref (take (get_or bytes 0 0 % 128 * 256 + get_or bytes 1 0 - 2) (drop 2 bytes)) → IfNone o ((page : Page) → IsPage rec_ref bytes page → ⊥)
if_none rec_ref bytes None e = λ page h. page_none rec_ref bytes page h (sym e)
if_none rec_ref bytes (Some s) e = tt

-- bytes are one page at most
pub one_page : (rec_ref : ℕ) (bytes : List ℕ) (p q : Page) → IsPage rec_ref bytes p → IsPage rec_ref bytes q → p ≡ q
one_page rec_ref bytes p q h k =
    let x = expected rec_ref bytes p h in
    let y = expected rec_ref bytes q k in
    let s = shown_page rec_ref p.entries p.children h.has h.branching in
    let t = shown_page rec_ref q.entries q.children k.has k.branching in
    let node : is_node p ≡ is_node q = sym x.node ∙ y.node in
    let len : length (body_bytes rec_ref p) ≡ length (body_bytes rec_ref q) = omega (arith, x.used, y.used) in
    let body : body_bytes rec_ref p ≡ body_bytes rec_ref q = sym x.body ∙ ap (λ (n : ℕ). take n (drop 2 bytes)) len ∙ y.body in
    let same : s.0 ≡ t.0 = same_Some _ _ (sym s.1 ∙ ap (λ (b : Bool). viewed_body b rec_ref (body_bytes rec_ref p)) node ∙ ap (viewed_body (is_node q) rec_ref) body ∙ t.1) in
    sym s.2 ∙ ap page_of same ∙ t.2
