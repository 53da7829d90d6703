-- A search in a page, item by item.
use Rattle.std.proofs.Common.{◌≡◌, ◌⊎◌, ℕ, suc, ◌≤◌, Bool, true, false, Option, Some, None, List, [], ◌∷◌, length, drop, refl, sym, ap, subst, ◌∙◌, arith, inl, inr}
use Rattle.std.specs.Prelude.{is_some, option_map}
use Rattle.std.specs.List.{AllByRecursion, slice_get}
use Rattle.std.specs.Option.{option_or}
use Rattle.std.proofs.lemmas.Option.{same_Some}
use Rattle.std.specs.Ordering.{is_eq}
use Rattle.myi_keys.specs.declared.values.KeySeg.{KeySeg}
use Rattle.myi_keys.specs.Order.{key_cmp}
use Rattle.myi_keypage.specs.declared.entry.Entry.{Entry}
use Rattle.myi_keypage.specs.Page.{page_with, IsBranching}
use Rattle.myi_keypage.specs.PageItems.{Item, key_after}
use Rattle.myi_keypage.specs.Views.{ViewedPage, page_of, entries_after, with_child, children_of, viewed_in}
use Rattle.myi_keylist.specs.declared.pair.Pair.{Pair}
use Rattle.myi_keylist.specs.PairOrder.{pair_with}
use Rattle.myi_btree.specs.Walk.{◌>>=◌, each, Node}
use Rattle.myi_btree.specs.Nodes.{key_in, pair_in, node_in}
use Rattle.myi_search.specs.declared.page.Way.{Way}
use Rattle.myi_search.specs.declared.page.Way.TheVariants.{NoPage}
use Rattle.myi_search.specs.Path.{next_child}
use Rattle.myi_keys.specs.Comparing.{key_front}
use Rattle.myi_search.specs.declared.reached.Reached.{Reached}
use Rattle.myi_search.specs.Passing.{first_kept, row_with, best_of, way_to, Seeks}
use Rattle.myi_search.specs.Seeking.{node_shown, Seeking, Enters}
use Rattle.myi_search.proofs.TreeLaws.{Test}

-- ---- each item has a child, or none has

abbrev pub AreAlike : Bool → List Item → Type 0
AreAlike node items = AllByRecursion (λ (item : Item). is_some item.child ≡ node) items

few_children : (items : List Item) → length (children_of items) ≤ length items
few_children [] = omega arith
few_children (item ∷ items) = by item.child (few_children items)
  where
    by : (c : Option ℕ) → length (children_of items) ≤ length items → length (with_child c (children_of items)) ≤ suc (length items)
    by None le = omega arith
    by (Some p) le = omega arith

all_some : (items : List Item) → length (children_of items) ≡ length items → AreAlike true items
all_some [] e = tt
all_some (item ∷ items) e = by item.child refl e (all_some items)
  where
    by : (c : Option ℕ) → item.child ≡ c → length (with_child c (children_of items)) ≡ suc (length items) → (length (children_of items) ≡ length items → AreAlike true items) → AreAlike true (item ∷ items)
    by None is e again = absurd (omega (arith, e, few_children items))
    by (Some p) is e again = (ap is_some is, again (omega (arith, e)))

all_none : (items : List Item) → children_of items ≡ [] → AreAlike false items
all_none [] e = tt
all_none (item ∷ items) e = by item.child refl e (all_none items)
  where
    by : (c : Option ℕ) → item.child ≡ c → with_child c (children_of items) ≡ [] → (children_of items ≡ [] → AreAlike false items) → AreAlike false (item ∷ items)
    by None is e again = (ap is_some is, again e)
    by (Some p) is e again = absurd cc

no_children : (items : List Item) → AreAlike false items → children_of items ≡ []
no_children [] h = refl
no_children (item ∷ items) h = by item.child h.0 (no_children items h.1)
  where
    by : (c : Option ℕ) → is_some c ≡ false → children_of items ≡ [] → with_child c (children_of items) ≡ []
    by None e again = again
    by (Some p) e again = absurd cc

entry_count : (code : List ℕ) (items : List Item) → length (entries_after code items) ≡ length items
entry_count code [] = refl
entry_count code (item ∷ items) = ap suc (entry_count (key_after code item) items)

branches : (entries : List Entry) (children : List ℕ) → IsBranching (page_with entries children) → (children ≡ []) ⊎ (length children ≡ suc (length entries))
branches entries [] h = inl refl
branches entries (c ∷ cs) h = inr (ap suc h)

pub record HasShape (s : ViewedPage) : Type 0 where
  pub node : Bool
  pub first : is_some s.first ≡ node
  pub items : AreAlike node s.items

pub view_shape : (s : ViewedPage) → IsBranching (page_of s) → HasShape s
view_shape s h = by s.first refl (branches (entries_after [] s.items) (with_child s.first (children_of s.items)) h)
  where
    by : (first : Option ℕ) → s.first ≡ first → (with_child s.first (children_of s.items) ≡ []) ⊎ (length (with_child s.first (children_of s.items)) ≡ suc (length (entries_after [] s.items))) → HasShape s
    by None is (inl e) = record { node = false; first = ap is_some is; items = all_none s.items (ap (λ (c : Option ℕ). with_child c (children_of s.items)) (sym is) ∙ e) }
    by (Some p) is (inl e) = let k : with_child (Some p) (children_of s.items) ≡ [] = ap (λ (c : Option ℕ). with_child c (children_of s.items)) (sym is) ∙ e in absurd cc
    by None is (inr e) =
        let k : length (children_of s.items) ≡ suc (length (entries_after [] s.items)) = ap (λ (c : Option ℕ). length (with_child c (children_of s.items))) (sym is) ∙ e in
        absurd (omega (arith, k, few_children s.items, entry_count [] s.items))
    by (Some p) is (inr e) =
        let k : suc (length (children_of s.items)) ≡ suc (length (entries_after [] s.items)) = ap (λ (c : Option ℕ). length (with_child c (children_of s.items))) (sym is) ∙ e in
        record { node = true; first = ap is_some is; items = all_some s.items (omega (arith, k, entry_count [] s.items)) }

-- ---- item by item

pub seek_start : (test : Test) (s : ViewedPage) (code : List ℕ) → code ≡ [] → Seeking test s code s.items s.first
seek_start test s code none = subst (λ (c : List ℕ). Seeking test s c s.items s.first) (sym none) (record { none = λ e. e; some = λ ys e. (ys, e, refl, refl) })

each_more : (code : List ℕ) (item : Item) (rest : List Item) (key : List KeySeg) → key_in (key_after code item) ≡ Some key
    → each pair_in (entries_after code (item ∷ rest)) ≡ (each pair_in (entries_after (key_after code item) rest) >>= λ ys. Some (pair_with key item.row ∷ ys))
unfolding pair_in
each_more code item rest key e = rw e refl

each_fails : (code : List ℕ) (item : Item) (rest : List Item) → key_in (key_after code item) ≡ None → each pair_in (entries_after code (item ∷ rest)) ≡ None
unfolding pair_in
each_fails code item rest e = rw e refl

then_none : (p : Pair) (o : Option (List Pair)) → o ≡ None → (o >>= λ ys. Some (p ∷ ys)) ≡ None
then_none p None e = refl
then_none p (Some x) e = absurd cc

then_some : (p : Pair) (o : Option (List Pair)) (ys : List Pair) → o ≡ Some ys → (o >>= λ ys. Some (p ∷ ys)) ≡ Some (p ∷ ys)
then_some p None ys e = absurd cc
then_some p (Some x) ys e = ap (λ (o : Option (List Pair)). o >>= λ ys. Some (p ∷ ys)) e

-- the child behind a pair that is passed by
next_step : (test : Test) (node : Bool) (p : Pair) (ys : List Pair) (child after : Option ℕ) (children : List ℕ) → test p ≡ true → is_some child ≡ node → is_some after ≡ node → (node ≡ false → children ≡ [])
    → next_child test (p ∷ ys) (with_child child (with_child after children)) ≡ next_child test ys (with_child after children)
next_step test true p ys None after children passed some other none = absurd cc
next_step test true p ys (Some c) None children passed some other none = absurd cc
next_step test true p ys (Some c) (Some d) children passed some other none = rw passed refl
next_step test false p ys (Some c) after children passed some other none = absurd cc
next_step test false p ys None (Some d) children passed some other none = absurd cc
next_step test false p ys None None children passed some other none =
    let e : children ≡ [] = none refl in
    ap (next_child test (p ∷ ys)) e ∙ sym (ap (next_child test ys) e)

-- the child before one that is kept
next_kept : (test : Test) (node : Bool) (p : Pair) (ys : List Pair) (child : Option ℕ) (children : List ℕ) → test p ≡ false → is_some child ≡ node → (node ≡ false → children ≡ []) → next_child test (p ∷ ys) (with_child child children) ≡ child
next_kept test true p ys None children kept some none = absurd cc
next_kept test true p ys (Some c) children kept some none = rw kept refl
next_kept test false p ys (Some c) children kept some none = absurd cc
next_kept test false p ys None children kept some none = ap (next_child test (p ∷ ys)) (none refl)

none_of : (node : Bool) (items : List Item) → AreAlike node items → node ≡ false → children_of items ≡ []
none_of node items h e = no_children items (subst (λ (b : Bool). AreAlike b items) e h)

pub seek_step : (test : Test) (s : ViewedPage) (node : Bool) (code : List ℕ) (item : Item) (rest : List Item) (child : Option ℕ) (key : List KeySeg) → Seeking test s code (item ∷ rest) child → key_in (key_after code item) ≡ Some key → test (pair_with key item.row) ≡ true
    → is_some child ≡ node → AreAlike node (item ∷ rest) → Seeking test s (key_after code item) rest item.child
seek_step test s node code item rest child key k read passed some alike =
    let p : Pair = pair_with key item.row in
    let more = each_more code item rest key read in
    record {
      none = λ e. k.none (more ∙ then_none p (each pair_in (entries_after (key_after code item) rest)) e);
      some = λ ys e.
          let z = k.some (p ∷ ys) (more ∙ then_some p (each pair_in (entries_after (key_after code item) rest)) ys e) in
          let passed-by : first_kept test (p ∷ ys) ≡ first_kept test ys = rw passed refl in
          (z.0, z.1, z.2 ∙ passed-by, z.3 ∙ next_step test node p ys child item.child (children_of rest) passed some alike.0 (none_of node rest alike.1));
    }

-- ---- what was sought

pub seek_failed : (test : Test) (s : ViewedPage) (code : List ℕ) (item : Item) (rest : List Item) (child : Option ℕ) (old new : Option Pair) → Seeking test s code (item ∷ rest) child → key_in (key_after code item) ≡ None → Seeks test (node_shown s) NoPage old new
seek_failed test s code item rest child old new k read = rw (k.none (each_fails code item rest read)) refl

pub seek_done : (test : Test) (s : ViewedPage) (code : List ℕ) (rest : List Item) (child : Option ℕ) (old new : Option Pair) (way : Way) → Seeking test s code rest child → rest ≡ [] → new ≡ old → way ≡ way_to child → Seeks test (node_shown s) way old new
seek_done test s code rest child old new way k over same is =
    let all : Seeking test s code [] child = subst (λ (t : List Item). Seeking test s code t child) over k in
    let z = all.some [] refl in
    let last : next_child test [] (with_child child []) ≡ child = by child in
    rw z.1 (is ∙ ap way_to (sym (z.3 ∙ last)), same ∙ sym (ap (λ (o : Option Pair). option_or o old) z.2))
  where
    by : (c : Option ℕ) → next_child test [] (with_child c []) ≡ c
    by None = refl
    by (Some c) = refl

pub seek_kept : (test : Test) (s : ViewedPage) (node : Bool) (code : List ℕ) (item : Item) (rest : List Item) (child : Option ℕ) (key : List KeySeg) (old new : Option Pair) (way : Way) → Seeking test s code (item ∷ rest) child → key_in (key_after code item) ≡ Some key
    → test (pair_with key item.row) ≡ false → is_some child ≡ node → AreAlike node (item ∷ rest) → is_some (each pair_in (entries_after (key_after code item) rest)) ≡ true → new ≡ Some (pair_with key item.row) → way ≡ way_to child → Seeks test (node_shown s) way old new
seek_kept test s node code item rest child key old new way k read kept some alike all is to = by (each pair_in (entries_after (key_after code item) rest)) refl all
  where
    p : Pair
    p = pair_with key item.row

    by : (o : Option (List Pair)) → each pair_in (entries_after (key_after code item) rest) ≡ o → is_some o ≡ true → Seeks test (node_shown s) way old new
    by None e all = absurd cc
    by (Some ys) e all =
        let z = k.some (p ∷ ys) (each_more code item rest key read ∙ then_some p (each pair_in (entries_after (key_after code item) rest)) ys e) in
        let first : first_kept test (p ∷ ys) ≡ Some p = rw kept refl in
        let next : next_child test (p ∷ ys) (with_child child (children_of (item ∷ rest))) ≡ child = next_kept test node p ys child (children_of (item ∷ rest)) kept some (none_of node (item ∷ rest) alike) in
        rw z.1 (to ∙ ap way_to (sym (z.3 ∙ next)), is ∙ sym (ap (λ (o : Option Pair). option_or o old) (z.2 ∙ first)))

pub seek_ended : (test : Test) (s : ViewedPage) (code : List ℕ) (item : Item) (rest : List Item) (child : Option ℕ) (key : List KeySeg) (old new : Option Pair) (way : Way) → Seeking test s code (item ∷ rest) child → key_in (key_after code item) ≡ Some key
    → is_some (each pair_in (entries_after (key_after code item) rest)) ≡ false → way ≡ NoPage → Seeks test (node_shown s) way old new
seek_ended test s code item rest child key old new way k read all is = by (each pair_in (entries_after (key_after code item) rest)) refl all
  where
    by : (o : Option (List Pair)) → each pair_in (entries_after (key_after code item) rest) ≡ o → is_some o ≡ false → Seeks test (node_shown s) way old new
    by None e all = rw (k.none (each_more code item rest key read ∙ then_none (pair_with key item.row) (each pair_in (entries_after (key_after code item) rest)) e)) is
    by (Some ys) e all = absurd cc

-- ---- all codes

pub codes_start : (code : List ℕ) (items : List Item) → is_some (each pair_in (entries_after code items)) ≡ is_some (each pair_in (entries_after code items))
codes_start code items = refl

pub codes_step : (code : List ℕ) (item : Item) (rest : List Item) (key : List KeySeg) → key_in (key_after code item) ≡ Some key → is_some (each pair_in (entries_after code (item ∷ rest))) ≡ is_some (each pair_in (entries_after (key_after code item) rest))
codes_step code item rest key read = ap is_some (each_more code item rest key read) ∙ by (each pair_in (entries_after (key_after code item) rest))
  where
    by : (o : Option (List Pair)) → is_some (o >>= λ ys. Some (pair_with key item.row ∷ ys)) ≡ is_some o
    by None = refl
    by (Some x) = refl

pub codes_fail : (code : List ℕ) (item : Item) (rest : List Item) → key_in (key_after code item) ≡ None → is_some (each pair_in (entries_after code (item ∷ rest))) ≡ false
codes_fail code item rest read = ap is_some (each_fails code item rest read)

-- ---- items that are left

pub first_item : (items : List Item) (o : Option Item) (item : Item) → o ≡ slice_get items 0 → o ≡ Some item → items ≡ item ∷ drop 1 items
first_item [] o item e f = absurd cc
first_item (i ∷ items) o item e f = ap (λ (t : Item). t ∷ items) (same_Some i item (sym e ∙ f))

pub no_item : (items : List Item) → None ≡ slice_get items 0 → items ≡ []
no_item [] e = refl
no_item (i ∷ items) e = absurd cc

pub none_is : {A : Type 0} (o : Option A) → false ≡ is_some o → o ≡ None
none_is None e = refl
none_is (Some x) e = absurd cc

-- ---- the page that bytes are

pub node_none : (test : Test) (rec : ℕ) (bytes : List ℕ) (old new : Option Pair) → None ≡ viewed_in rec bytes → Seeks test (node_in rec bytes) NoPage old new
unfolding node_in
node_none test rec bytes old new e = rw (← e) refl

pub node_is : (rec : ℕ) (bytes : List ℕ) (s : ViewedPage) → Some s ≡ viewed_in rec bytes → node_shown s ≡ node_in rec bytes
unfolding node_in
node_is rec bytes s e = rw (← e) refl

-- ---- the row of the pair that was reached

pub row_is : (row : Option ℕ) (found key : List KeySeg) → is_eq (key_cmp found key) ≡ true → row ≡ row_with key (option_map (λ row. pair_with found row) row)
row_is None found key e = refl
row_is (Some r) found key e = rw e refl

pub row_not : (row : Option ℕ) (found key : List KeySeg) → is_eq (key_cmp found key) ≡ false → None ≡ row_with key (option_map (λ row. pair_with found row) row)
row_not None found key e = refl
row_not (Some r) found key e = rw e refl

-- ---- with what was read since

pub seek_kept_at : (test : Test) (s : ViewedPage) (node : Bool) (code later : List ℕ) (item : Item) (rest next : List Item) (child : Option ℕ) (key : List KeySeg) (old new : Option Pair) (way : Way) → Seeking test s code (item ∷ rest) child → key_in (key_after code item) ≡ Some key
    → test (pair_with key item.row) ≡ false → is_some child ≡ node → AreAlike node (item ∷ rest) → later ≡ key_after code item → next ≡ rest → is_some (each pair_in (entries_after later next)) ≡ true → new ≡ Some (pair_with key item.row) → way ≡ way_to child → Seeks test (node_shown s) way old new
seek_kept_at test s node code later item rest next child key old new way k read kept some alike l n all is to =
    seek_kept test s node code item rest child key old new way k read kept some alike (ap (λ (t : List ℕ). is_some (each pair_in (entries_after t rest))) (sym l) ∙ ap (λ (t : List Item). is_some (each pair_in (entries_after later t))) (sym n) ∙ all) is to

pub seek_ended_at : (test : Test) (s : ViewedPage) (code later : List ℕ) (item : Item) (rest next : List Item) (child : Option ℕ) (key : List KeySeg) (old new : Option Pair) (way : Way) → Seeking test s code (item ∷ rest) child → key_in (key_after code item) ≡ Some key
    → later ≡ key_after code item → next ≡ rest → is_some (each pair_in (entries_after later next)) ≡ false → way ≡ NoPage → Seeks test (node_shown s) way old new
seek_ended_at test s code later item rest next child key old new way k read l n all is =
    seek_ended test s code item rest child key old new way k read (ap (λ (t : List ℕ). is_some (each pair_in (entries_after t rest))) (sym l) ∙ ap (λ (t : List Item). is_some (each pair_in (entries_after later t))) (sym n) ∙ all) is

pub reached_is : (r : Reached) (code : List ℕ) (row : ℕ) → r.best.items ≡ code → r.row ≡ Some row → best_of r ≡ Some (pair_with (key_front code) row)
reached_is r code row e f = ap (λ (o : Option ℕ). option_map (λ row. pair_with (key_front r.best.items) row) o) f ∙ ap (λ (c : List ℕ). Some (pair_with (key_front c) row)) e

pub best_same : (a b : Reached) → a.best ≡ b.best → a.row ≡ b.row → best_of a ≡ best_of b
best_same a b e f = ap (λ (o : Option ℕ). option_map (λ row. pair_with (key_front a.best.items) row) o) f ∙ ap (λ v. option_map (λ row. pair_with (key_front v.items) row) b.row) e

-- ---- where a search goes on

way_one : (a b : Option ℕ) → way_to a ≡ way_to b → a ≡ b
way_one None None e = refl
way_one None (Some b) e = absurd cc
way_one (Some a) None e = absurd cc
way_one (Some a) (Some b) e = cc

way_page : (a : Option ℕ) → NoPage ≡ way_to a → ⊥
way_page None e = cc
way_page (Some a) e = cc

pub enters_by : (test : Test) (page : Option Node) (way : Way) (child : Option ℕ) (old new : Option Pair) → Seeks test page way old new → way ≡ way_to child → Enters test page child old new
enters_by test None way child old new seeks is = absurd (way_page child (sym seeks ∙ is))
enters_by test (Some node) way child old new seeks is = record { node = node; stands = refl; next = way_one (next_child test node.pairs node.children) child (sym seeks.0 ∙ is); best = seeks.1 }

pub no_node : (test : Test) (page : Option Node) (way : Way) (old new : Option Pair) → Seeks test page way old new → way ≡ NoPage → page ≡ None
no_node test None way old new seeks is = refl
no_node test (Some node) way old new seeks is = absurd (way_page (next_child test node.pairs node.children) (sym is ∙ seeks.0))
