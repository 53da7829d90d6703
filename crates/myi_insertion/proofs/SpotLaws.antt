-- Where a pair goes on a page that is read item by item.
use Rattle.std.proofs.Common.{◌≡◌, ℕ, suc, ◌+◌, ◌<◌, ◌≤◌, Bool, true, false, Option, Some, None, Ok, List, [], ◌∷◌, ◌++◌, length, get_or, take, drop, refl, sym, ap, subst, ◌∙◌, append_assoc, append-nil, arith, inl, inr}
use Rattle.std.specs.Prelude.{is_some, IsTrue}
use Rattle.std.specs.Option.{option_to_list}
use Rattle.std.specs.List.{slice_get, AllByRecursion}
use Rattle.std.specs.Ordering.{is_gt}
use Rattle.std.proofs.lemmas.Bool.{cases_lt}
use Rattle.std.proofs.lemmas.Option.{same_Some, slice_get_past, slice_get-get_or, slice_get_within, get_or_from_slice_get}
use Rattle.std.proofs.lemmas.List.{length-append, get_or_append_left, drop_at}
use Rattle.std.proofs.Math.Seq.{get_or-append_seam}
use Rattle.myi_keypage.specs.declared.entry.Entry.{Entry}
use Rattle.myi_keypage.specs.Page.{page_with, entry_with, entry_bytes, page_bytes, is_node, IsPage, IsBranching}
use Rattle.myi_keypage.specs.PageItems.{Item, key_after}
use Rattle.myi_keypage.specs.Views.{ViewedPage, page_of, viewed_in, entries_after, children_of, with_child}
use Rattle.myi_keypage.specs.Fitting.{entries_length, used_length}
use Rattle.myi_keypage.proofs.CallerLemmas.{page_length, entry_least}
use Rattle.myi_keylist.specs.declared.pair.Pair.{Pair}
use Rattle.myi_keylist.specs.PairOrder.{pair_with, pair_cmp}
use Rattle.myi_btree.specs.Walk.{◌>>=◌, each, Node, node_with}
use Rattle.myi_keys.specs.declared.values.KeySeg.{KeySeg}
use Rattle.myi_keys.specs.Limits.{IsKey}
use Rattle.myi_keys.specs.Comparing.{key_front, IsCode}
use Rattle.myi_keys.specs.Decoding.{key_at}
use Rattle.myi_keys.specs.Codes.{key_code}
use Rattle.myi_keys.proofs.CallerLemmas.{key_read, front_again}
use Rattle.myi_btree.specs.Nodes.{ok_or_none, key_in, pair_in, entry_of, entries_of, node_in}
use Rattle.myi_btree.proofs.CallerLemmas.{bind_some}
use Rattle.myi_insertion.specs.declared.pass.Spot.{Spot}
use Rattle.myi_insertion.specs.Strips.{Branches}
use Rattle.myi_insertion.specs.Ordered.{AreBefore, BeginsBehind}
use Rattle.myi_base.specs.Holding.{Holding}
use Rattle.myi_keycache.specs.Caching.{Caching}
use Rattle.myi_btree.specs.declared.place.Place.{Place}
use Rattle.myi_btree.specs.declared.place.Room.{Room}
use Rattle.myi_base.specs.Numbers.{AreBytes}
use Rattle.myi_insertion.specs.Spots.{HaveCodes, IsOnPage, IsSpot, with_pair}
use Rattle.myi_insertion.proofs.ByteLaws.{keys_are_bytes, codes_read}
use Rattle.myi_insertion.proofs.WriteLaws.{length-entries}
use Rattle.myi_insertion.proofs.PuttingLaws.{Fills}
use Rattle.myi_insertion.proofs.RoomLaws.{all_both}
use Rattle.myi_insertion.proofs.PageLaws.{child_first, node_made, node_failed, can_write_read}

entries_count : (before : List ℕ) (items : List Item) → length (entries_after before items) ≡ length items
entries_count before [] = refl
entries_count before (i ∷ items) = ap suc (entries_count (key_after before i) items)

children_few : (items : List Item) → length (children_of items) ≤ length items
children_few [] = omega arith
children_few (i ∷ items) = by i.child (children_few items)
  where
    by : (o : Option ℕ) → length (children_of items) ≤ length items → length (with_child o (children_of items)) ≤ suc (length items)
    by None few = omega (arith, few)
    by (Some c) few = omega (arith, few)

branch_count : (es : List Entry) (cs : List ℕ) → IsBranching (page_with es cs) → 0 < length cs → length cs ≡ suc (length es)
branch_count es [] br some = absurd (omega (arith, some))
branch_count es (c ∷ cs) br some = ap suc br

-- a node has a child before and after each of its items that were read
tight : (s : ViewedPage) (kids : List ℕ) (walk : List Item) (n : ℕ) → IsBranching (page_of s) → kids ++ children_of walk ≡ with_child s.first (children_of s.items) → n + length walk ≡ length s.items → length kids ≤ suc n → 0 < length (kids ++ children_of walk) → length kids ≡ suc n
tight s kids walk n br are sum few some =
    let b = branch_count (entries_after [] s.items) (with_child s.first (children_of s.items)) br (omega (arith, ap length are, some)) in
    omega (arith, b, ap length are, length-append kids (children_of walk), children_few walk, entries_count [] s.items, sum, few)

get_left : (xs ys : List ℕ) (i : ℕ) → i < length xs → slice_get (xs ++ ys) i ≡ slice_get xs i
get_left xs ys i lt = slice_get-get_or (xs ++ ys) i 0 (omega (arith, length-append xs ys, lt)) ∙ ap (λ (n : ℕ). Some n) (get_or_append_left xs ys 0 i lt) ∙ sym (slice_get-get_or xs i 0 lt)

get_last : (xs : List ℕ) (c : ℕ) → slice_get (xs ++ c ∷ []) (length xs) ≡ Some c
get_last xs c = slice_get-get_or (xs ++ c ∷ []) (length xs) 0 (omega (arith, length-append xs (c ∷ []))) ∙ ap (λ (n : ℕ). Some n) (get_or-append_seam xs c [] 0)

-- the child behind the item that was read last
pub next_more : (s : ViewedPage) (kids : List ℕ) (it : Item) (rest : List Item) (n : ℕ) → IsBranching (page_of s) → kids ++ children_of (it ∷ rest) ≡ with_child s.first (children_of s.items) → n + length (it ∷ rest) ≡ length s.items → length kids ≤ suc n
    → slice_get (kids ++ option_to_list it.child) (suc n) ≡ it.child
next_more s kids it rest n br are sum few = by it.child refl
  where
    by : (o : Option ℕ) → o ≡ it.child → slice_get (kids ++ option_to_list o) (suc n) ≡ o
    by None e = slice_get_past (kids ++ []) (suc n) (omega (arith, length-append kids [], few))
    by (Some c) e =
        let some : length (children_of (it ∷ rest)) ≡ suc (length (children_of rest)) = ap (λ (o : Option ℕ). length (with_child o (children_of rest))) (sym e) in
        let t : length kids ≡ suc n = tight s kids (it ∷ rest) n br are sum few (omega (arith, length-append kids (children_of (it ∷ rest)), some)) in
        ap (slice_get (kids ++ c ∷ [])) (sym t) ∙ get_last kids c

-- the child before the items that are left
next_stays : (s : ViewedPage) (kids : List ℕ) (walk : List Item) (n : ℕ) → IsBranching (page_of s) → kids ++ children_of walk ≡ with_child s.first (children_of s.items) → n + length walk ≡ length s.items → length kids ≤ suc n
    → slice_get (kids ++ children_of walk) n ≡ slice_get kids n
next_stays s kids walk n br are sum few = by (children_of walk) refl
  where
    by : (more : List ℕ) → more ≡ children_of walk → slice_get (kids ++ more) n ≡ slice_get kids n
    by [] e = ap (λ (t : List ℕ). slice_get t n) (append-nil kids)
    by (c ∷ cs) e =
        let t : length kids ≡ suc n = tight s kids walk n br are sum few (omega (arith, length-append kids (children_of walk), ap length e)) in
        get_left kids (c ∷ cs) n (omega (arith, t))

pub few_more : (kids : List ℕ) (o : Option ℕ) (n : ℕ) → length kids ≤ suc n → length (kids ++ option_to_list o) ≤ suc (suc n)
few_more kids None n few = omega (arith, length-append kids [], few)
few_more kids (Some c) n few = omega (arith, length-append kids (c ∷ []), few)

pub first_next : (o : Option ℕ) → slice_get (option_to_list o) 0 ≡ o
first_next None = refl
first_next (Some c) = refl

pub first_few : (o : Option ℕ) → length (option_to_list o) ≤ 1
first_few None = omega arith
first_few (Some c) = omega arith

entries_few : (rec_ref : ℕ) (node : Bool) (before : List ℕ) (es : List Entry) → length es ≤ entries_length rec_ref node before es
entries_few rec_ref node before [] = omega arith
entries_few rec_ref node before (e ∷ es) = omega (arith, entry_least rec_ref before e, entries_few rec_ref node e.key es)

-- a page has fewer entries than bytes
pub items_few : (rec_ref : ℕ) (bytes : List ℕ) (s : ViewedPage) → IsPage rec_ref bytes (page_of s) → length s.items ≤ length bytes
items_few rec_ref bytes s page =
    let p = page_of s in
    let text = page.text in
    omega (arith, page_length rec_ref p page.branching, entries_few rec_ref (is_node p) [] p.entries, entries_count [] s.items, ap length text.1, length-append (page_bytes rec_ref p) text.0)

-- the pair that an entry is, where its key is a code
abbrev front_of : Entry → Pair
front_of e = pair_with (key_front e.key) e.row

-- the first of some entries does not stand before the pair
abbrev Stops : Pair → List Entry → Type 0
Stops p [] = Unit {0}
Stops p (e ∷ es) = is_gt (pair_cmp p (front_of e)) ≡ false

-- what was read, and where the pair goes behind it
pub record HasRead (rec_ref : ℕ) (bytes : List ℕ) (p : Pair) (code : List ℕ) (walk : List Item) (index : ℕ) (child : Option ℕ) : Type 0 where
  pub s : ViewedPage
  pub shows : Some s ≡ viewed_in rec_ref bytes
  pub page : IsPage rec_ref bytes (page_of s)
  pub done : List Entry
  pub kids : List ℕ
  pub split : done ++ entries_after code walk ≡ entries_after [] s.items
  pub kids_are : kids ++ children_of walk ≡ with_child s.first (children_of s.items)
  pub sum : length done + length walk ≡ length s.items
  pub few : length kids ≤ suc (length done)
  pub before : AllByRecursion (λ (e : Entry). is_gt (pair_cmp p (front_of e)) ≡ true) done
  pub index_is : index ≡ length done
  pub next : slice_get kids (length done) ≡ child

-- the pairs of entries whose keys have codes
code_in : (code : List ℕ) → IsCode code → key_in code ≡ Some (key_front code)
unfolding key_in
code_in code is = ap (λ (t : List ℕ). ok_or_none (key_at t)) is.written ∙ ap ok_or_none (key_read (key_front code) is.key)

coded : (es : List Entry) (ps : List Pair) → each pair_in es ≡ Some ps → HaveCodes es → (entries_of ps ≡ es) × AllByRecursion (λ (p : Pair). IsKey p.key) ps
unfolding pair_in
coded [] ps e all = (ap entries_of (sym (same_Some [] ps e)), subst (AllByRecursion (λ (p : Pair). IsKey p.key)) (same_Some [] ps e) tt)
coded (x ∷ es) ps e all =
    let a = bind_some (pair_in x) (λ y. each pair_in es >>= λ ys. Some (y ∷ ys)) ps e in
    let b = bind_some (each pair_in es) (λ ys. Some (a.0 ∷ ys)) ps a.2 in
    let k = bind_some (key_in x.key) (λ key. Some (pair_with key x.row)) a.0 a.1 in
    let more = coded es b.0 b.1 all.1 in
    let front : key_front x.key ≡ k.0 = same_Some (key_front x.key) k.0 (sym (code_in x.key all.0) ∙ k.1) in
    let first : pair_with (key_front x.key) x.row ≡ a.0 = ap (λ (t : List KeySeg). pair_with t x.row) front ∙ same_Some (pair_with k.0 x.row) a.0 k.2 in
    let whole : a.0 ∷ b.0 ≡ ps = same_Some (a.0 ∷ b.0) ps b.2 in
    let one : entry_of a.0 ≡ x = ap entry_of (sym first) ∙ ap (λ (t : List ℕ). entry_with t x.row) (sym all.0.written) in
    let key : IsKey a.0.key = subst (λ (p : Pair). IsKey p.key) first all.0.key in
    (ap entries_of (sym whole) ∙ ap (λ (e : Entry). e ∷ entries_of b.0) one ∙ ap (λ (t : List Entry). x ∷ t) more.0, subst (AllByRecursion (λ (p : Pair). IsKey p.key)) whole (key, more.1))

front_is : (e : Entry) (q : Pair) → entry_of q ≡ e → IsKey q.key → front_of e ≡ q
front_is e q is key = ap front_of (sym is) ∙ ap (λ (k : List KeySeg). pair_with k q.row) (front_again q.key key)

first_is : (q : Pair) (e : Entry) (ps : List Pair) (es : List Entry) → entries_of (q ∷ ps) ≡ e ∷ es → (entry_of q ≡ e) × (entries_of ps ≡ es)
first_is q e ps es is = (ap (λ (t : List Entry). get_or t 0 e) is, ap (drop 1) is)

before_of : (p : Pair) (done rest : List Entry) (ps : List Pair) → entries_of ps ≡ done ++ rest → AllByRecursion (λ (q : Pair). IsKey q.key) ps → AllByRecursion (λ (e : Entry). is_gt (pair_cmp p (front_of e)) ≡ true) done → AreBefore p (take (length done) ps)
before_of p [] rest ps is keys h = tt
before_of p (e ∷ done) rest [] is keys h = absurd cc
before_of p (e ∷ done) rest (q ∷ ps) is keys h =
    let f = first_is q e ps (done ++ rest) is in
    (ap (λ (t : Pair). is_gt (pair_cmp p t)) (sym (front_is e q f.0 keys.0)) ∙ h.0, before_of p done rest ps f.1 keys.1 h.1)

behind_of : (p : Pair) (done rest : List Entry) (ps : List Pair) → entries_of ps ≡ done ++ rest → AllByRecursion (λ (q : Pair). IsKey q.key) ps → Stops p rest → BeginsBehind p (drop (length done) ps)
behind_of p [] rest [] is keys h = tt
behind_of p [] [] (q ∷ ps) is keys h = absurd cc
behind_of p [] (e ∷ rest) (q ∷ ps) is keys h = ap (λ (t : Pair). is_gt (pair_cmp p t)) (sym (front_is e q (first_is q e ps rest is).0 keys.0)) ∙ h
behind_of p (e ∷ done) rest [] is keys h = absurd cc
behind_of p (e ∷ done) rest (q ∷ ps) is keys h = behind_of p done rest ps (first_is q e ps (done ++ rest) is).1 keys.1 h

node_pairs : (rec_ref : ℕ) (bytes : List ℕ) (s : ViewedPage) → Some s ≡ viewed_in rec_ref bytes → IsTrue (is_some (node_in rec_ref bytes)) → (ps : List Pair) × (each pair_in (entries_after [] s.items) ≡ Some ps)
node_pairs rec_ref bytes s shows some = by (each pair_in (entries_after [] s.items)) refl
  where
    by : (o : Option (List Pair)) → each pair_in (entries_after [] s.items) ≡ o → (ps : List Pair) × (each pair_in (entries_after [] s.items) ≡ Some ps)
    by None e = absurd (let k : false ≡ true = ap is_some (node_failed rec_ref bytes s shows e) ∙ some in cc)
    by (Some ps) e = (ps, e)

-- the child that is next, of all children
next_is : (rec_ref : ℕ) (bytes : List ℕ) (p : Pair) (code : List ℕ) (walk : List Item) (index : ℕ) (child : Option ℕ) → (r : HasRead rec_ref bytes p code walk index child) → slice_get (r.kids ++ children_of walk) index ≡ child
next_is rec_ref bytes p code walk index child r =
    ap (slice_get (r.kids ++ children_of walk)) r.index_is ∙ next_stays r.s r.kids walk (length r.done) r.page.branching r.kids_are r.sum r.few ∙ r.next

-- the spot is one on the page
pub on_page : (rec_ref : ℕ) (bytes : List ℕ) (p : Pair) (code : List ℕ) (walk : List Item) (index : ℕ) (child : Option ℕ) → HasRead rec_ref bytes p code walk index child → IsOnPage rec_ref bytes (record { index = index; child = child })
on_page rec_ref bytes p code walk index child r = record {
  entries = entries_after [] r.s.items;
  children = r.kids ++ children_of walk;
  page = subst (λ (cs : List ℕ). IsPage rec_ref bytes (page_with (entries_after [] r.s.items) cs)) (sym r.kids_are) r.page;
  inside = omega (arith, r.index_is, r.sum, entries_count [] r.s.items);
  next = next_is rec_ref bytes p code walk index child r;
}

-- what is read of bytes as a key is its code
abbrev pub ReadBack : Type 0
ReadBack = ((bytes : List ℕ) (key : List KeySeg) → AreBytes bytes → key_at bytes ≡ Ok key → bytes ≡ key_code key) × ((bytes : List ℕ) (key : List KeySeg) → AreBytes bytes → key_at bytes ≡ Ok key → IsKey key)

-- the pair goes there, where the others do not stand before it
spot_made : ReadBack → (rec_ref : ℕ) (bytes : List ℕ) (p : Pair) (code : List ℕ) (walk : List Item) (index : ℕ) (child : Option ℕ) → AreBytes bytes → (r : HasRead rec_ref bytes p code walk index child) → Stops p (entries_after code walk) → IsTrue (is_some (node_in rec_ref bytes))
    → IsSpot rec_ref bytes p (record { index = index; child = child })
spot_made back rec_ref bytes p code walk index child fits r stops some =
    let all : List Entry = entries_after [] r.s.items in
    let kids : List ℕ = r.kids ++ children_of walk in
    let n = node_pairs rec_ref bytes r.s r.shows some in
    let codes = codes_read back.0 back.1 all n.0 (keys_are_bytes rec_ref bytes (page_of r.s) fits r.page) n.1 in
    let coded_are = coded all n.0 n.1 codes in
    let parts : entries_of n.0 ≡ r.done ++ entries_after code walk = coded_are.0 ∙ sym r.split in
    record {
      pairs = n.0;
      children = kids;
      stands = sym (node_made rec_ref bytes r.s n.0 kids r.shows n.1 r.kids_are);
      page = subst (λ (cs : List ℕ). IsPage rec_ref bytes (page_with (entries_of n.0) cs)) (sym r.kids_are) (subst (λ (es : List Entry). IsPage rec_ref bytes (page_with es (with_child r.s.first (children_of r.s.items)))) (sym coded_are.0) r.page);
      written = can_write_read rec_ref bytes r.s n.0 kids r.page n.1 r.kids_are coded_are.1;
      inside = omega (arith, r.index_is, ap length parts, length-append r.done (entries_after code walk), length-entries n.0);
      before = subst (λ (i : ℕ). AreBefore p (take i n.0)) (sym r.index_is) (before_of p r.done (entries_after code walk) n.0 parts coded_are.1 r.before);
      behind = subst (λ (i : ℕ). BeginsBehind p (drop i n.0)) (sym r.index_is) (behind_of p r.done (entries_after code walk) n.0 parts coded_are.1 stops);
      next = next_is rec_ref bytes p code walk index child r;
    }

-- all items were read
pub spot_end : ReadBack → (rec_ref : ℕ) (bytes : List ℕ) (p : Pair) (code : List ℕ) (walk : List Item) (index : ℕ) (child : Option ℕ) → AreBytes bytes → HasRead rec_ref bytes p code walk index child → walk ≡ [] → IsTrue (is_some (node_in rec_ref bytes)) → IsSpot rec_ref bytes p (record { index = index; child = child })
spot_end back rec_ref bytes p code walk index child fits r none some =
    spot_made back rec_ref bytes p code walk index child fits r (subst (λ (t : List Item). Stops p (entries_after code t)) (sym none) tt) some

-- an item was read that does not stand before the pair
pub spot_stop : ReadBack → (rec_ref : ℕ) (bytes : List ℕ) (p : Pair) (code next_code : List ℕ) (it : Item) (walk rest : List Item) (index : ℕ) (child : Option ℕ) → AreBytes bytes → HasRead rec_ref bytes p code walk index child → walk ≡ it ∷ rest → next_code ≡ key_after code it
    → is_gt (pair_cmp p (pair_with (key_front next_code) it.row)) ≡ false → IsTrue (is_some (node_in rec_ref bytes)) → IsSpot rec_ref bytes p (record { index = index; child = child })
spot_stop back rec_ref bytes p code next_code it walk rest index child fits r is after behind some =
    spot_made back rec_ref bytes p code walk index child fits r
    (subst (λ (t : List Item). Stops p (entries_after code t)) (sym is) (ap (λ (t : List ℕ). is_gt (pair_cmp p (pair_with (key_front t) it.row))) (sym after) ∙ behind)) some

-- ---- items that are read

pub read_start : (rec_ref : ℕ) (bytes : List ℕ) (p : Pair) (s : ViewedPage) (code : List ℕ) (walk : List Item) (child : Option ℕ) → Some s ≡ viewed_in rec_ref bytes → IsPage rec_ref bytes (page_of s) → code ≡ [] → walk ≡ s.items → child ≡ s.first → HasRead rec_ref bytes p code walk 0 child
read_start rec_ref bytes p s code walk child shows page empty all first = record {
  s = s;
  shows = shows;
  page = page;
  done = [];
  kids = option_to_list s.first;
  split = ap (entries_after code) all ∙ ap (λ (t : List ℕ). entries_after t s.items) empty;
  kids_are = ap (λ (t : List Item). option_to_list s.first ++ children_of t) all ∙ sym (child_first s.first (children_of s.items));
  sum = omega (arith, ap length all);
  few = first_few s.first;
  before = tt;
  index_is = refl;
  next = first_next s.first ∙ sym first;
}

-- an item was read that stands before the pair
pub read_more : (rec_ref : ℕ) (bytes : List ℕ) (p : Pair) (code next_code : List ℕ) (it : Item) (walk rest : List Item) (index next_index : ℕ) (child next_child : Option ℕ) → HasRead rec_ref bytes p code walk index child → walk ≡ it ∷ rest
    → next_code ≡ key_after code it → is_gt (pair_cmp p (pair_with (key_front next_code) it.row)) ≡ true → next_index ≡ index + 1 → next_child ≡ it.child → HasRead rec_ref bytes p next_code rest next_index next_child
read_more rec_ref bytes p code next_code it walk rest index next_index child next_child r is after behind more next =
    let e : Entry = entry_with (key_after code it) it.row in
    let one : length (r.done ++ e ∷ []) ≡ suc (length r.done) = omega (arith, length-append r.done (e ∷ [])) in
    let kids_are : r.kids ++ children_of (it ∷ rest) ≡ with_child r.s.first (children_of r.s.items) = ap (λ (t : List Item). r.kids ++ children_of t) (sym is) ∙ r.kids_are in
    let sum : length r.done + length (it ∷ rest) ≡ length r.s.items = ap (λ (t : List Item). length r.done + length t) (sym is) ∙ r.sum in
    record {
      s = r.s;
      shows = r.shows;
      page = r.page;
      done = r.done ++ e ∷ [];
      kids = r.kids ++ option_to_list it.child;
      split = append_assoc r.done (e ∷ []) (entries_after next_code rest) ∙ ap (λ (t : List ℕ). r.done ++ e ∷ entries_after t rest) after ∙ ap (λ (t : List Item). r.done ++ entries_after code t) (sym is) ∙ r.split;
      kids_are = append_assoc r.kids (option_to_list it.child) (children_of rest) ∙ ap (λ (t : List ℕ). r.kids ++ t) (sym (child_first it.child (children_of rest))) ∙ kids_are;
      sum = omega (arith, one, sum);
      few = subst (λ (n : ℕ). length (r.kids ++ option_to_list it.child) ≤ suc n) (sym one) (few_more r.kids it.child (length r.done) r.few);
      before = all_both (λ (x : Entry). is_gt (pair_cmp p (front_of x)) ≡ true) r.done (e ∷ []) r.before (ap (λ (t : List ℕ). is_gt (pair_cmp p (pair_with (key_front t) it.row))) (sym after) ∙ behind, tt);
      index_is = omega (arith, one, r.index_is, more);
      next = ap (slice_get (r.kids ++ option_to_list it.child)) one ∙ next_more r.s r.kids it rest (length r.done) r.page.branching kids_are sum r.few ∙ sym next;
    }

-- there is room to count one more item
pub index_few : (rec_ref : ℕ) (bytes : List ℕ) (p : Pair) (code : List ℕ) (it : Item) (walk rest : List Item) (index : ℕ) (child : Option ℕ) → HasRead rec_ref bytes p code walk index child → walk ≡ it ∷ rest → index + 1 ≤ length bytes
index_few rec_ref bytes p code it walk rest index child r is = omega (arith, items_few rec_ref bytes r.s r.page, r.sum, ap length is, r.index_is)

-- ---- what a spot says

-- a page with a spot that has no child is a leaf
pub page_leaf : (rec_ref : ℕ) (bytes : List ℕ) (spot : Spot) → (o : IsOnPage rec_ref bytes spot) → spot.child ≡ None → IsPage rec_ref bytes (page_with o.entries [])
page_leaf rec_ref bytes spot o none = subst (λ (cs : List ℕ). IsPage rec_ref bytes (page_with o.entries cs)) (by o.children o.page.branching (o.next ∙ none)) o.page
  where
    by : (cs : List ℕ) → IsBranching (page_with o.entries cs) → slice_get cs spot.index ≡ None → cs ≡ []
    by [] br is = refl
    by (c ∷ cs) br is =
        let e : Some (get_or (c ∷ cs) spot.index 0) ≡ None = sym (slice_get-get_or (c ∷ cs) spot.index 0 (omega (arith, br, o.inside))) ∙ is in
        absurd cc

pub spot_leaf : (rec_ref : ℕ) (bytes : List ℕ) (p : Pair) (spot : Spot) → (r : IsSpot rec_ref bytes p spot) → spot.child ≡ None → r.children ≡ []
spot_leaf rec_ref bytes p spot r none = by r.written.branches
  where
    by : Branches r.pairs r.children → r.children ≡ []
    by (inl e) = e
    by (inr k) =
        let e : Some (get_or r.children spot.index 0) ≡ None = sym (slice_get-get_or r.children spot.index 0 (omega (arith, k, r.inside))) ∙ r.next ∙ none in
        absurd cc

pub spot_node : (rec_ref : ℕ) (bytes : List ℕ) (p : Pair) (spot : Spot) (child : ℕ) → (r : IsSpot rec_ref bytes p spot) → spot.child ≡ Some child → (spot.index < length r.children) × (child ≡ get_or r.children spot.index 0)
spot_node rec_ref bytes p spot child r is =
    let e : slice_get r.children spot.index ≡ Some child = r.next ∙ is in
    (slice_get_within r.children spot.index child e, sym (get_or_from_slice_get r.children spot.index child 0 e))

pub same_node : (ps qs : List Pair) (cs ds : List ℕ) (o : Option Node) → Some (node_with ps cs) ≡ o → o ≡ Some (node_with qs ds) → (ps ≡ qs) × (cs ≡ ds)
same_node ps qs cs ds o e f =
    let k : node_with ps cs ≡ node_with qs ds = same_Some _ _ (e ∙ f) in
    (ap (λ (n : Node). n.pairs) k, ap (λ (n : Node). n.children) k)

pub node_there : (rec_ref : ℕ) (bytes : List ℕ) → (node_in rec_ref bytes ≡ None → ⊥) → IsTrue (is_some (node_in rec_ref bytes))
node_there rec_ref bytes some = by (node_in rec_ref bytes) some
  where
    by : (o : Option Node) → (o ≡ None → ⊥) → is_some o ≡ true
    by None h = absurd (h refl)
    by (Some node) h = refl

-- a page was written that is the leaf with the pair
pub leaf_fills : (place : Place) (cache : Caching) (told : Option Holding) (room : Room) (at i : ℕ) (p : Pair) (ps pairs grown : List Pair) (cs : List ℕ) (next : Option Holding) (new : Caching) (after : Room) (sp : List ℕ) (ss : List Pair)
    → ps ≡ pairs → grown ≡ with_pair i p ps → cs ≡ [] → Fills place cache told room at grown cs next new after sp ss → Fills place cache told room at (with_pair i p pairs) [] next new after sp ss
leaf_fills place cache told room at i p ps pairs grown cs next new after sp ss same is none fills =
    subst (λ (t : List ℕ). Fills place cache told room at (with_pair i p pairs) t next new after sp ss) none
    (subst (λ (t : List Pair). Fills place cache told room at t cs next new after sp ss) (is ∙ ap (with_pair i p) same) fills)
