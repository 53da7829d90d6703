-- Gathering the pairs of a page, item by item.
use Rattle.std.proofs.Common.{◌≡◌, ℕ, Bool, true, false, Option, Some, None, List, [], ◌∷◌, ◌++◌, refl, sym, ap, subst, ◌∙◌, append_assoc, append-nil}
use Rattle.std.specs.Prelude.{is_some}
use Rattle.std.specs.Option.{option_to_list}
use Rattle.std.proofs.lemmas.Option.{same_Some}
use Rattle.myi_keys.specs.declared.values.KeySeg.{KeySeg}
use Rattle.myi_keypage.specs.declared.entry.Entry.{Entry}
use Rattle.myi_keypage.specs.PageItems.{Item, key_after}
use Rattle.myi_keypage.specs.Views.{ViewedPage, viewed_in, entries_after, with_child, children_of}
use Rattle.myi_keylist.specs.declared.pair.Pair.{Pair}
use Rattle.myi_keylist.specs.PairOrder.{pair_with}
use Rattle.myi_btree.specs.Walk.{◌>>=◌, each, Node, node_with}
use Rattle.myi_btree.specs.Nodes.{key_in, pair_in, node_in}
use Rattle.myi_btree.proofs.CallerLemmas.{bind_some}
use Rattle.myi_search.specs.declared.page.Way.TheVariants.{NoPage}
use Rattle.myi_search.specs.declared.reached.Reached.{Reached}
use Rattle.myi_search.specs.Passing.{HasCode, Seeks}
use Rattle.myi_search.specs.Seeking.{node_shown}
use Rattle.myi_search.specs.Runs.{GathersLeaf}
use Rattle.myi_search.proofs.TreeLaws.{Test}

-- what is still to be read gives, behind what has been read, what all gives
abbrev pub Reads : List Entry → List ℕ → List Item → List Pair → Type 0
Reads all key rest pairs = each pair_in all ≡ (each pair_in (entries_after key rest) >>= λ ys. Some (pairs ++ ys))

pub reads_start : (items : List Item) (code : List ℕ) (walk : List Item) (pairs : List Pair) → code ≡ [] → walk ≡ items → pairs ≡ [] → Reads (entries_after [] items) code walk pairs
reads_start items code walk pairs e f g = rw (e, f, g) (by (each pair_in (entries_after [] items)))
  where
    by : (o : Option (List Pair)) → o ≡ (o >>= λ ys. Some ([] ++ ys))
    by None = refl
    by (Some x) = refl

behind : (o : Option (List Pair)) (p : Pair) (pairs : List Pair) → ((o >>= λ ys. Some (p ∷ ys)) >>= λ zs. Some (pairs ++ zs)) ≡ (o >>= λ ys. Some ((pairs ++ p ∷ []) ++ ys))
behind None p pairs = refl
behind (Some ys) p pairs = ap Some (sym (append_assoc pairs (p ∷ []) ys))

pub reads_step : (all : List Entry) (key : List ℕ) (item : Item) (rest : List Item) (pairs : List Pair) (k : List KeySeg) → Reads all key (item ∷ rest) pairs → key_in (key_after key item) ≡ Some k → Reads all (key_after key item) rest (pairs ++ pair_with k item.row ∷ [])
unfolding pair_in
reads_step all key item rest pairs k r e =
    let step : each pair_in (entries_after key (item ∷ rest)) ≡ (each pair_in (entries_after (key_after key item) rest) >>= λ ys. Some (pair_with k item.row ∷ ys)) = rw e refl in
    r ∙ ap (λ (o : Option (List Pair)). o >>= λ zs. Some (pairs ++ zs)) step ∙ behind (each pair_in (entries_after (key_after key item) rest)) (pair_with k item.row) pairs

pub reads_none : (all : List Entry) (key : List ℕ) (item : Item) (rest : List Item) (pairs : List Pair) → Reads all key (item ∷ rest) pairs → key_in (key_after key item) ≡ None → each pair_in all ≡ None
unfolding pair_in
reads_none all key item rest pairs r e =
    let step : each pair_in (entries_after key (item ∷ rest)) ≡ None = rw e refl in
    r ∙ ap (λ (o : Option (List Pair)). o >>= λ zs. Some (pairs ++ zs)) step

pub reads_end : (all : List Entry) (key : List ℕ) (rest : List Item) (pairs : List Pair) → rest ≡ [] → Reads all key rest pairs → each pair_in all ≡ Some pairs
reads_end all key rest pairs over r =
    let last : Reads all key [] pairs = subst (λ (t : List Item). Reads all key t pairs) over r in
    last ∙ ap Some (append-nil pairs)

-- ---- the page that is gathered

pub not_both : {A : Type 0} (o : Option (List Pair)) (pairs : List Pair) → o ≡ None → o ≡ Some pairs → A
not_both o pairs e f = let k : None ≡ Some pairs = sym e ∙ f in absurd cc

pub none_shown : (s : ViewedPage) → false ≡ is_some (each pair_in (entries_after [] s.items)) → node_shown s ≡ None
none_shown s e = by (each pair_in (entries_after [] s.items)) e
  where
    by : (o : Option (List Pair)) → false ≡ is_some o → (o >>= λ pairs. Some (node_with pairs (with_child s.first (children_of s.items)))) ≡ None
    by None e = refl
    by (Some x) e = absurd cc

-- a page with children is no leaf
pub node_gathered : (s : ViewedPage) (best : Option Pair) (run : List Pair) → is_some s.first ≡ true → GathersLeaf (node_shown s) best run
node_gathered s best run some = λ node is leaf.
    let a = bind_some (each pair_in (entries_after [] s.items)) (λ pairs. Some (node_with pairs (with_child s.first (children_of s.items)))) node is in
    let kids : with_child s.first (children_of s.items) ≡ [] = ap (λ (n : Node). n.children) (same_Some _ node a.2) ∙ leaf in
    absurd (by s.first some kids)
  where
    by : (first : Option ℕ) → is_some first ≡ true → with_child first (children_of s.items) ≡ [] → ⊥
    by None e f = cc
    by (Some p) e f = cc

pub leaf_gathered : (s : ViewedPage) (best : Option Pair) (run : List Pair) → ((pairs : List Pair) → each pair_in (entries_after [] s.items) ≡ Some pairs → run ≡ pairs ++ option_to_list best) → GathersLeaf (node_shown s) best run
leaf_gathered s best run all = λ node is leaf.
    let a = bind_some (each pair_in (entries_after [] s.items)) (λ pairs. Some (node_with pairs (with_child s.first (children_of s.items)))) node is in
    all a.0 a.1 ∙ ap (λ (n : Node). n.pairs ++ option_to_list best) (same_Some _ node a.2)

pub seeks_none : (test : Test) (page : Option Node) (old new : Option Pair) → page ≡ None → Seeks test page NoPage old new
seeks_none test page old new e = rw e refl

pub none_gathered : (page : Option Node) (best : Option Pair) (run : List Pair) → page ≡ None → GathersLeaf page best run
none_gathered page best run e = λ node is leaf. let k : None ≡ Some node = sym e ∙ is in absurd cc

pub no_view : (rec : ℕ) (bytes : List ℕ) → None ≡ viewed_in rec bytes → node_in rec bytes ≡ None
unfolding node_in
no_view rec bytes e = rw (← e) refl

-- what was reached, where it is the same
pub has_same : (a b : Reached) → a.best ≡ b.best → a.row ≡ b.row → HasCode b → HasCode a
has_same a b e f h = rw (e, f) h
