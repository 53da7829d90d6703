-- Reading a node item by item.
use Rattle.std.proofs.Common.{◌≡◌, ℕ, Option, Some, None, Ok, List, [], ◌∷◌, ◌++◌, drop, refl, sym, ap, ◌∙◌, append_assoc, append-nil}
use Rattle.std.proofs.lemmas.Option.{same_Some}
use Rattle.std.specs.Option.{option_to_list}
use Rattle.std.specs.List.{slice_get}
use Rattle.myi_keypage.specs.declared.entry.Entry.{Entry}
use Rattle.myi_keypage.specs.PageItems.{Item, key_after}
use Rattle.myi_keypage.specs.Views.{ViewedPage, page_in, viewed_in, entries_after, children_of, with_child}
use Rattle.myi_keys.specs.declared.values.KeySeg.{KeySeg}
use Rattle.myi_keylist.specs.declared.pair.Pair.{Pair}
use Rattle.myi_keylist.specs.PairOrder.{pair_with}
use Rattle.myi_btree.specs.Walk.{◌>>=◌, Node, node_with, each}
use Rattle.myi_btree.specs.Nodes.{page_of_node, key_in, pair_in, node_in, entries_of}
use Rattle.std.specs.List.{AllByRecursion}
use Rattle.myi_keys.specs.Limits.{IsKey}
use Rattle.myi_keys.specs.Codes.{key_code}
use Rattle.myi_keys.specs.Decoding.{key_at}

-- what is still to be read gives, behind what has been read, what all gives
abbrev pub Reads : List Entry → List ℕ → List Item → List Pair → Type 0
Reads all key rest pairs = each pair_in all ≡ (each pair_in (entries_after key rest) >>= λ ys. Some (pairs ++ ys))

pub reads_start : (items : List Item) → Reads (entries_after [] items) [] items []
reads_start items = by (each pair_in (entries_after [] items))
  where
    by : (o : Option (List Pair)) → o ≡ (o >>= λ ys. Some ([] ++ ys))
    by None = refl
    by (Some x) = refl

behind : (o : Option (List Pair)) (p : Pair) (pairs : List Pair) → ((o >>= λ ys. Some (p ∷ ys)) >>= λ zs. Some (pairs ++ zs)) ≡ (o >>= λ ys. Some ((pairs ++ p ∷ []) ++ ys))
behind None p pairs = refl
behind (Some ys) p pairs = ap Some (sym (append_assoc pairs (p ∷ []) ys))

pub reads_step : (all : List Entry) (key : List ℕ) (item : Item) (rest : List Item) (pairs : List Pair) (k : List KeySeg) → Reads all key (item ∷ rest) pairs → key_in (key_after key item) ≡ Some k → Reads all (key_after key item) rest (pairs ++ pair_with k item.row ∷ [])
unfolding pair_in
reads_step all key item rest pairs k r e =
    let step : each pair_in (entries_after key (item ∷ rest)) ≡ (each pair_in (entries_after (key_after key item) rest) >>= λ ys. Some (pair_with k item.row ∷ ys)) = rw e refl in
    r ∙ ap (λ (o : Option (List Pair)). o >>= λ zs. Some (pairs ++ zs)) step ∙ behind (each pair_in (entries_after (key_after key item) rest)) (pair_with k item.row) pairs

pub reads_none : (all : List Entry) (key : List ℕ) (item : Item) (rest : List Item) (pairs : List Pair) → Reads all key (item ∷ rest) pairs → key_in (key_after key item) ≡ None → each pair_in all ≡ None
unfolding pair_in
reads_none all key item rest pairs r e =
    let step : each pair_in (entries_after key (item ∷ rest)) ≡ None = rw e refl in
    r ∙ ap (λ (o : Option (List Pair)). o >>= λ zs. Some (pairs ++ zs)) step

pub reads_end : (all : List Entry) (key : List ℕ) (pairs : List Pair) → Reads all key [] pairs → each pair_in all ≡ Some pairs
reads_end all key pairs r = r ∙ ap Some (append-nil pairs)

-- the first of a list that is not empty
pub first_item : (items : List Item) (o : Option Item) (item : Item) → o ≡ slice_get items 0 → o ≡ Some item → items ≡ item ∷ drop 1 items
first_item [] o item e f = absurd cc
first_item (i ∷ items) o item e f = ap (λ (t : Item). t ∷ items) (same_Some i item (sym e ∙ f))

pub child_first : (child : Option ℕ) (places : List ℕ) → with_child child places ≡ option_to_list child ++ places
child_first None places = refl
child_first (Some p) places = refl

pub node_none : (rec : ℕ) (bytes : List ℕ) → None ≡ viewed_in rec bytes → None ≡ node_in rec bytes
unfolding node_in
node_none rec bytes e = rw (← e) refl

pub node_failed : (rec : ℕ) (bytes : List ℕ) (s : ViewedPage) → Some s ≡ viewed_in rec bytes → each pair_in (entries_after [] s.items) ≡ None → None ≡ node_in rec bytes
unfolding node_in
node_failed rec bytes s e f = rw (← e, f) refl

pub node_made : (rec : ℕ) (bytes : List ℕ) (s : ViewedPage) (pairs : List Pair) (children : List ℕ) → Some s ≡ viewed_in rec bytes → each pair_in (entries_after [] s.items) ≡ Some pairs → children ≡ with_child s.first (children_of s.items) → Some (node_with pairs children) ≡ node_in rec bytes
unfolding node_in
node_made rec bytes s pairs children e f c = rw (← e, f, c) refl

pub no_item : (items : List Item) → None ≡ slice_get items 0 → items ≡ []
no_item [] e = refl
no_item (i ∷ items) e = absurd cc

-- ---- what is written is read

pub pairs_again : ((key : List KeySeg) → IsKey key → key_at (key_code key) ≡ Ok key) → (pairs : List Pair) → AllByRecursion (λ (p : Pair). IsKey p.key) pairs → each pair_in (entries_of pairs) ≡ Some pairs
unfolding pair_in key_in
pairs_again again [] h = refl
pairs_again again (p ∷ ps) h = rw (again p.key h.0, pairs_again again ps h.1) refl

pub node_again : (rec : ℕ) (bytes : List ℕ) (node : Node) → page_in rec bytes ≡ Some (page_of_node node) → each pair_in (entries_of node.pairs) ≡ Some node.pairs → node_in rec bytes ≡ Some node
unfolding node_in
node_again rec bytes node page again = rw (page, again) refl
