-- A page that is read from a file.
use Rattle.std.proofs.Common.{◌≡◌, ◌≢◌, ℕ, ◌%◌, ◌<◌, ◌≤◌, Bool, true, false, eqb, cond, Option, Some, None, List, [], ◌++◌, length, take, drop, refl, sym, ap, ◌∙◌, append-nil, arith}
use Rattle.std.specs.Prelude.{nat_lt, ◌∷◌, ◌^◌}
use Rattle.std.specs.List.{AllByRecursion}
use Rattle.std.proofs.lemmas.Option.{same_Some}
use Rattle.std.proofs.lemmas.Bool.{ne_eqb, le-leb, lt-leb}
use Rattle.std.proofs.lemmas.List.{drop_all, take_all}
use Rattle.myi_base.specs.Holding.{filled, read_count}
use Rattle.myi_keycache.specs.Lent.{bytes_at}
use Rattle.myi_keypage.specs.declared.entry.Entry.{Entry}
use Rattle.myi_keypage.specs.Page.{Page, page_with, page_bytes, is_node, IsPage, IsPlace, IsBranching, IsWritable}
use Rattle.myi_keypage.specs.Fitting.{used_length}
use Rattle.myi_keypage.specs.Views.{page_in}
use Rattle.myi_keypage.specs.Children.{with_children, CanTake}
use Rattle.myi_keylist.specs.declared.pair.Pair.{Pair}
use Rattle.myi_btree.specs.Walk.{◌>>=◌, each, Node, node_with}
use Rattle.myi_btree.specs.Nodes.{node_at, node_in, pair_in}
use Rattle.myi_btree.proofs.CallerLemmas.{bind_some}

-- no page stands at a place that is no multiple of 1024
pub odd_place : (rec_ref block at : ℕ) (xs : List ℕ) → at % 1024 ≢ 0 → node_at rec_ref block xs at ≡ None
unfolding node_at
odd_place rec_ref block at xs odd = ap (λ (b : Bool). cond b (bytes_at xs at block >>= node_in rec_ref) None) (ne_eqb (at % 1024) 0 odd)

either_none : (b : Bool) (o : Option Node) → o ≡ None → cond b o None ≡ None
either_none true o none = none
either_none false o none = refl

-- no page stands where the file ends before
pub short_page : (rec_ref block at : ℕ) (xs into : List ℕ) (count : ℕ) → count ≡ read_count at into xs → length into ≡ block → count < block → node_at rec_ref block xs at ≡ None
unfolding node_at bytes_at
short_page rec_ref block at xs into count is long few =
    either_none (eqb (at % 1024) 0) _ (ap (λ (b : Bool). cond b (Some (take block (drop at xs))) None >>= node_in rec_ref) (lt-leb block (length (drop at xs)) (omega (arith, is, long))))

-- a buffer that was filled has the bytes there
pub filled_page : (block at : ℕ) (xs into new : List ℕ) (count : ℕ) → count ≡ read_count at into xs → length into ≡ block → block ≤ count → new ≡ filled at into xs → bytes_at xs at block ≡ Some new
unfolding bytes_at
filled_page block at xs into new count is long enough fills =
    let there : block ≤ length (drop at xs) = omega (arith, is, long, enough) in
    ap (λ (b : Bool). cond b (Some (take block (drop at xs))) None) (le-leb block (length (drop at xs)) there)
    ∙ ap (λ ys. Some ys) (sym (fills ∙ ap (λ ys. take (length into) (drop at xs) ++ ys) (drop_all (length (drop at xs)) into (omega (arith, long, there))) ∙ append-nil (take (length into) (drop at xs)) ∙ ap (λ n. take n (drop at xs)) long))

-- what stands behind a list that is as long as another is nothing of that
pub whole_buffer : (n : ℕ) (new old : List ℕ) → length new ≡ n → length old ≡ n → take n (new ++ drop (length new) old) ≡ new
whole_buffer n new old one two = ap (λ ys. take n (new ++ ys)) (drop_all (length new) old (omega (arith, one, two))) ∙ ap (take n) (append-nil new) ∙ take_all n new (omega (arith, one))

-- ---- the node of a page

-- what stands at a place is the node of the bytes there
pub node_is : (rec_ref block at : ℕ) (xs page : List ℕ) → at % 1024 ≡ 0 → bytes_at xs at block ≡ Some page → node_at rec_ref block xs at ≡ node_in rec_ref page
unfolding node_at
node_is rec_ref block at xs page whole there = ap (λ n. cond (eqb n 0) (bytes_at xs at block >>= node_in rec_ref) None) whole ∙ ap (λ (o : Option (List ℕ)). o >>= node_in rec_ref) there

no_page_no_node : (rec_ref : ℕ) (page : List ℕ) → page_in rec_ref page ≡ None → node_in rec_ref page ≡ None
unfolding node_in
no_page_no_node rec_ref page none = ap (λ (o : Option Page). o >>= λ p. each pair_in p.entries >>= λ pairs. Some (node_with pairs p.children)) none

pub nothing_there : (rec_ref block at : ℕ) (xs page : List ℕ) → at % 1024 ≡ 0 → bytes_at xs at block ≡ Some page → page_in rec_ref page ≡ None → node_at rec_ref block xs at ≡ None
nothing_there rec_ref block at xs page whole there none = node_is rec_ref block at xs page whole there ∙ no_page_no_node rec_ref page none

node_of_page : (rec_ref : ℕ) (page : List ℕ) (p : Page) (node : Node) → page_in rec_ref page ≡ Some p → node_in rec_ref page ≡ Some node → (each pair_in p.entries ≡ Some node.pairs) × (node.children ≡ p.children)
unfolding node_in
node_of_page rec_ref page p node is found =
    let e = ap (λ (o : Option Page). o >>= λ p. each pair_in p.entries >>= λ pairs. Some (node_with pairs p.children)) (sym is) ∙ found in
    let b = bind_some (each pair_in p.entries) (λ pairs. Some (node_with pairs p.children)) node e in
    let same : node_with b.0 p.children ≡ node = same_Some _ _ b.2 in
    (b.1 ∙ ap (λ (n : Node). Some n.pairs) same, sym (ap (λ (n : Node). n.children) same))

page_of_node : (rec_ref : ℕ) (page : List ℕ) (p : Page) (pairs : List Pair) → page_in rec_ref page ≡ Some p → each pair_in p.entries ≡ Some pairs → node_in rec_ref page ≡ Some (node_with pairs p.children)
unfolding node_in
page_of_node rec_ref page p pairs is each_is = ap (λ (o : Option Page). o >>= λ p. each pair_in p.entries >>= λ pairs. Some (node_with pairs p.children)) is ∙ ap (λ (o : Option (List Pair)). o >>= λ pairs. Some (node_with pairs p.children)) each_is

-- the children of what stands at a place, and the node of a page with other children
pub children_there : (rec_ref block at : ℕ) (xs page : List ℕ) (p : Page) (node : Node) → at % 1024 ≡ 0 → bytes_at xs at block ≡ Some page → page_in rec_ref page ≡ Some p → node_at rec_ref block xs at ≡ Some node → node.children ≡ p.children
children_there rec_ref block at xs page p node whole there is found = (node_of_page rec_ref page p node is (sym (node_is rec_ref block at xs page whole there) ∙ found)).1

pub node_changed : (rec_ref block at : ℕ) (xs page new places : List ℕ) (p : Page) (node : Node) → at % 1024 ≡ 0 → bytes_at xs at block ≡ Some page → page_in rec_ref page ≡ Some p → node_at rec_ref block xs at ≡ Some node
    → page_in rec_ref new ≡ Some (with_children places p) → node_in rec_ref new ≡ Some (node_with node.pairs places)
node_changed rec_ref block at xs page new places p node whole there is found changed =
    page_of_node rec_ref new (with_children places p) node.pairs changed (node_of_page rec_ref page p node is (sym (node_is rec_ref block at xs page whole there) ∙ found)).0

-- ---- a page with other children is a page

same_node : (p : Page) (places : List ℕ) → length places ≡ length p.children → is_node (with_children places p) ≡ is_node p
same_node p places same = ap (λ n. nat_lt 0 n) same

branches : (p : Page) (places : List ℕ) → length places ≡ length p.children → IsBranching p → IsBranching (with_children places p)
branches p places same is = by p.entries places p.children same is
  where
    by : (es : List Entry) (ns cs : List ℕ) → length ns ≡ length cs → IsBranching (page_with es cs) → IsBranching (page_with es ns)
    by es [] cs e b = tt
    by es (n ∷ ns) [] e b = absurd (omega (arith, e))
    by es (n ∷ ns) (c ∷ cs) e b = omega (arith, e, b)

pub can_take : (rec_ref : ℕ) (page places : List ℕ) (p : Page) → IsPage rec_ref page p → length places ≡ length p.children → AllByRecursion IsPlace places → CanTake rec_ref places p
can_take rec_ref page places p is same all = record { has = is.has; branching = is.branching; same = same; places = all }

pub changed_page : (rec_ref : ℕ) (page places rest : List ℕ) (p : Page) → IsPage rec_ref page p → length page ≤ 16384 → length places ≡ length p.children → AllByRecursion IsPlace places
    → ((p : Page) → IsPage rec_ref page p → used_length rec_ref (is_node p) p.entries ≤ length page)
    → ((p : Page) → IsBranching p → 0 < length p.entries → AllByRecursion (λ e. e.row < 256 ^ rec_ref) p.entries → AllByRecursion IsPlace p.children → used_length rec_ref (is_node p) p.entries < 32768 → IsWritable rec_ref p)
    → ((p : Page) (rest : List ℕ) → IsWritable rec_ref p → IsBranching p → page_in rec_ref (page_bytes rec_ref p ++ rest) ≡ Some p)
    → page_in rec_ref (page_bytes rec_ref (with_children places p) ++ rest) ≡ Some (with_children places p)
changed_page rec_ref page places rest p is short same all inside writable written =
    let kids = branches p places same is.branching in
    let used : used_length rec_ref (is_node (with_children places p)) p.entries < 32768 = omega (arith, ap (λ b. used_length rec_ref b p.entries) (same_node p places same), inside p is, short) in
    written (with_children places p) rest (writable (with_children places p) kids is.has.some is.has.rows all used) kids
