-- Reading a page item by item, and the pairs of a page.
use Rattle.std.proofs.Common.{◌≡◌, ℕ, zero, suc, ◌+◌, ◌-◌, ◌^◌, ◌<◌, ◌≤◌, Bool, true, false, Option, Some, None, List, [], ◌∷◌, ◌++◌, length, get_or, take, drop, refl, sym, ap, subst, ◌∙◌, append_assoc, append-nil, arith, inl, inr}
use Rattle.std.specs.Prelude.{is_some}
use Rattle.std.proofs.Math.Seq.{drop-cons}
use Rattle.std.proofs.lemmas.Bool.{cases_lt}
use Rattle.std.proofs.lemmas.Option.{same_Some}
use Rattle.std.proofs.lemmas.List.{length-drop, get_or-drop, drop_all, take_all}
use Rattle.std.specs.Option.{option_to_list}
use Rattle.std.specs.List.{slice_get, AllByRecursion}
use Rattle.std.specs.Ordering.{is_gt, is_eq, ordering_then, nat_cmp}
use Rattle.myi_keypage.specs.declared.entry.Entry.{Entry}
use Rattle.myi_keypage.specs.Page.{page_with, IsPage, IsPlace, IsBranching}
use Rattle.myi_keypage.specs.PageItems.{Item, key_after}
use Rattle.myi_keypage.specs.Views.{ViewedPage, page_of, viewed_in, entries_after, children_of, with_child}
use Rattle.myi_keys.specs.declared.values.KeySeg.{KeySeg}
use Rattle.myi_keys.specs.Order.{key_cmp}
use Rattle.myi_keys.specs.Limits.{IsKey}
use Rattle.myi_keys.specs.Codes.{key_code}
use Rattle.myi_keys.specs.Comparing.{key_front, code_cmp, IsCode}
use Rattle.myi_keys.proofs.CallerLemmas.{code_is}
use Rattle.myi_keylist.specs.declared.pair.Pair.{Pair}
use Rattle.myi_keylist.specs.PairOrder.{pair_with, pair_cmp}
use Rattle.myi_btree.specs.Walk.{◌>>=◌, node_with, each}
use Rattle.myi_btree.specs.Nodes.{key_in, pair_in, node_in}
use Rattle.myi_btree.proofs.CallerLemmas.{bind_some}
use Rattle.myi_insertion.specs.Strips.{Branches}
use Rattle.myi_insertion.specs.Ordered.{AreBefore, BeginsBehind, begins_with}
use Rattle.myi_insertion.specs.Written.{CanWrite}
use Rattle.myi_insertion.proofs.RoomLaws.{all_both}
use Rattle.myi_insertion.proofs.StripLaws.{each_length}

-- what is still to be read gives, behind what has been read, what all gives
abbrev pub Reads : List Entry → List ℕ → List Item → List Pair → Type 0
Reads all key rest pairs = each pair_in all ≡ (each pair_in (entries_after key rest) >>= λ ys. Some (pairs ++ ys))

pub reads_start : (items : List Item) → Reads (entries_after [] items) [] items []
reads_start items = by (each pair_in (entries_after [] items))
  where
    by : (o : Option (List Pair)) → o ≡ (o >>= λ ys. Some ([] ++ ys))
    by None = refl
    by (Some x) = refl

behind : (o : Option (List Pair)) (p : Pair) (pairs : List Pair) → ((o >>= λ ys. Some (p ∷ ys)) >>= λ zs. Some (pairs ++ zs)) ≡ (o >>= λ ys. Some ((pairs ++ p ∷ []) ++ ys))
behind None p pairs = refl
behind (Some ys) p pairs = ap Some (sym (append_assoc pairs (p ∷ []) ys))

pub reads_step : (all : List Entry) (key : List ℕ) (item : Item) (rest : List Item) (pairs : List Pair) (k : List KeySeg) → Reads all key (item ∷ rest) pairs → key_in (key_after key item) ≡ Some k → Reads all (key_after key item) rest (pairs ++ pair_with k item.row ∷ [])
unfolding pair_in
reads_step all key item rest pairs k r e =
    let step : each pair_in (entries_after key (item ∷ rest)) ≡ (each pair_in (entries_after (key_after key item) rest) >>= λ ys. Some (pair_with k item.row ∷ ys)) = rw e refl in
    r ∙ ap (λ (o : Option (List Pair)). o >>= λ zs. Some (pairs ++ zs)) step ∙ behind (each pair_in (entries_after (key_after key item) rest)) (pair_with k item.row) pairs

pub reads_none : (all : List Entry) (key : List ℕ) (item : Item) (rest : List Item) (pairs : List Pair) → Reads all key (item ∷ rest) pairs → key_in (key_after key item) ≡ None → each pair_in all ≡ None
unfolding pair_in
reads_none all key item rest pairs r e =
    let step : each pair_in (entries_after key (item ∷ rest)) ≡ None = rw e refl in
    r ∙ ap (λ (o : Option (List Pair)). o >>= λ zs. Some (pairs ++ zs)) step

pub reads_end : (all : List Entry) (key : List ℕ) (pairs : List Pair) → Reads all key [] pairs → each pair_in all ≡ Some pairs
reads_end all key pairs r = r ∙ ap Some (append-nil pairs)

-- the first of a list that is not empty
pub first_item : (items : List Item) (o : Option Item) (item : Item) → o ≡ slice_get items 0 → o ≡ Some item → items ≡ item ∷ drop 1 items
first_item [] o item e f = absurd cc
first_item (i ∷ items) o item e f = ap (λ (t : Item). t ∷ items) (same_Some i item (sym e ∙ f))

pub child_first : (child : Option ℕ) (places : List ℕ) → with_child child places ≡ option_to_list child ++ places
child_first None places = refl
child_first (Some p) places = refl

pub node_none : (rec : ℕ) (bytes : List ℕ) → None ≡ viewed_in rec bytes → None ≡ node_in rec bytes
unfolding node_in
node_none rec bytes e = rw (← e) refl

pub node_failed : (rec : ℕ) (bytes : List ℕ) (s : ViewedPage) → Some s ≡ viewed_in rec bytes → each pair_in (entries_after [] s.items) ≡ None → None ≡ node_in rec bytes
unfolding node_in
node_failed rec bytes s e f = rw (← e, f) refl

pub node_made : (rec : ℕ) (bytes : List ℕ) (s : ViewedPage) (pairs : List Pair) (children : List ℕ) → Some s ≡ viewed_in rec bytes → each pair_in (entries_after [] s.items) ≡ Some pairs → children ≡ with_child s.first (children_of s.items) → Some (node_with pairs children) ≡ node_in rec bytes
unfolding node_in
node_made rec bytes s pairs children e f c = rw (← e, f, c) refl

pub no_item : (items : List Item) → None ≡ slice_get items 0 → items ≡ []
no_item [] e = refl
no_item (i ∷ items) e = absurd cc

-- ---- the codes of pairs

pub no_pair : Pair
no_pair = pair_with [] 0

pub pair_again : (code : List ℕ) (row : ℕ) (p : Pair) → IsKey p.key → code ≡ key_code p.key → row ≡ p.row → pair_with (key_front code) row ≡ p
pair_again code row p is e f = rw ((code_is code p.key is e).1, f) refl

pub is_code_of : (code : List ℕ) (p : Pair) → IsKey p.key → code ≡ key_code p.key → IsCode code
is_code_of code p is e = (code_is code p.key is e).0

-- ---- where a pair goes

pub after_pair : (code other : List ℕ) (row other_row : ℕ) (q : Pair) (r : Bool) → IsKey q.key → other ≡ key_code q.key → other_row ≡ q.row → r ≡ is_gt (ordering_then (code_cmp code other) (nat_cmp row other_row)) → r ≡ is_gt (pair_cmp (pair_with (key_front code) row) q)
after_pair code other row other_row q r is e f g =
    g ∙ ap (λ (k : List KeySeg). is_gt (ordering_then (key_cmp (key_front code) k) (nat_cmp row other_row))) (code_is other q.key is e).1 ∙ ap (λ (n : ℕ). is_gt (ordering_then (key_cmp (key_front code) q.key) (nat_cmp row n))) f

pub begins_behind : (p : Pair) (pairs : List Pair) (i : ℕ) (d : Pair) → i < length pairs → is_gt (pair_cmp p (get_or pairs i d)) ≡ false → BeginsBehind p (drop i pairs)
begins_behind p pairs i d lt e = subst (BeginsBehind p) (sym (drop-cons pairs i d lt)) e

pub is_pair : (code other : List ℕ) (row other_row : ℕ) (q : Pair) (r : Bool) → IsKey q.key → other ≡ key_code q.key → other_row ≡ q.row → r ≡ is_eq (ordering_then (code_cmp code other) (nat_cmp row other_row)) → r ≡ is_eq (pair_cmp (pair_with (key_front code) row) q)
is_pair code other row other_row q r is e f g =
    g ∙ ap (λ (k : List KeySeg). is_eq (ordering_then (key_cmp (key_front code) k) (nat_cmp row other_row))) (code_is other q.key is e).1 ∙ ap (λ (n : ℕ). is_eq (ordering_then (key_cmp (key_front code) q.key) (nat_cmp row n))) f

pub begins_there : (p : Pair) (pairs : List Pair) (i : ℕ) (d : Pair) → i < length pairs → begins_with p (drop i pairs) ≡ is_eq (pair_cmp p (get_or pairs i d))
begins_there p pairs i d lt = ap (begins_with p) (drop-cons pairs i d lt)

pub begins_nowhere : (p : Pair) (pairs : List Pair) (i : ℕ) → length pairs ≤ i → begins_with p (drop i pairs) ≡ false
begins_nowhere p pairs i le = ap (begins_with p) (drop_all i pairs le)

pub begins_inside : (p : Pair) (pairs : List Pair) (i : ℕ) → begins_with p (drop i pairs) ≡ true → i < length pairs
begins_inside p pairs i e = elim (cases_lt i (length pairs)) [ inl lt ↦ lt | inr le ↦ absurd (let k : false ≡ true = sym (begins_nowhere p pairs i le) ∙ e in cc) ]

pub take_next : {A : Type 0} (k : ℕ) (xs : List A) (d : A) → k < length xs → take (suc k) xs ≡ take k xs ++ get_or xs k d ∷ []
take_next k [] d lt = absurd (omega arith)
take_next zero (x ∷ xs) d lt = refl
take_next (suc k) (x ∷ xs) d lt = ap (λ (t : List _). x ∷ t) (take_next k xs d (omega arith))

pub before_more : (p : Pair) (pairs : List Pair) (i : ℕ) (d : Pair) → i < length pairs → AreBefore p (take i pairs) → is_gt (pair_cmp p (get_or pairs i d)) ≡ true → AreBefore p (take (i + 1) pairs)
before_more p pairs i d lt before e =
    let one : suc i ≡ i + 1 = omega arith in
    subst (AreBefore p) (sym (take_next i pairs d lt) ∙ ap (λ (k : ℕ). take k pairs) one) (all_both (λ q. is_gt (pair_cmp p q) ≡ true) (take i pairs) (get_or pairs i d ∷ []) before (e, tt))

-- one more of some pairs of a list
pub pushed_more : (pairs : List Pair) (start i : ℕ) (d : Pair) → start ≤ i → i < length pairs → take (i + 1 - start) (drop start pairs) ≡ take (i - start) (drop start pairs) ++ get_or pairs i d ∷ []
pushed_more pairs start i d le lt =
    let one : i + 1 - start ≡ suc (i - start) = omega arith in
    let at : start + (i - start) ≡ i = omega arith in
    ap (λ (k : ℕ). take k (drop start pairs)) one ∙ take_next (i - start) (drop start pairs) d (omega (arith, length-drop start pairs))
    ∙ ap (λ (q : Pair). take (i - start) (drop start pairs) ++ q ∷ []) (get_or-drop start pairs (i - start) d ∙ ap (λ (k : ℕ). get_or pairs k d) at)

-- two lists, and a pair between them, one after the other
pub joined_is : (none one two three ls rs : List Pair) (q same : Pair) (n k : ℕ) → none ≡ [] → one ≡ none ++ take (n - 0) (drop 0 ls) → n ≡ length ls → two ≡ one ++ q ∷ [] → q ≡ same → three ≡ two ++ take (k - 0) (drop 0 rs) → k ≡ length rs → three ≡ ls ++ same ∷ rs
joined_is none one two three ls rs q same n k a b c d e f g =
    let l : take (n - 0) ls ≡ ls = take_all (n - 0) ls (omega (arith, c)) in
    let r : take (k - 0) rs ≡ rs = take_all (k - 0) rs (omega (arith, g)) in
    f ∙ ap (λ (t : List Pair). t ++ take (k - 0) rs) (d ∙ ap (λ (t : List Pair). t ++ q ∷ []) (b ∙ ap (λ (t : List Pair). t ++ take (n - 0) ls) a ∙ l)) ∙ ap (λ (t : List Pair). (ls ++ q ∷ []) ++ t) r ∙ append_assoc ls (q ∷ []) rs ∙ ap (λ (p : Pair). ls ++ p ∷ rs) e

-- ---- what was read can be written

rows_read : (bound : ℕ) (es : List Entry) (ps : List Pair) → each pair_in es ≡ Some ps → AllByRecursion (λ (e : Entry). e.row < bound) es → AllByRecursion (λ (p : Pair). p.row < bound) ps
unfolding pair_in
rows_read bound [] ps e all = subst (AllByRecursion (λ (p : Pair). p.row < bound)) (same_Some [] ps e) tt
rows_read bound (x ∷ es) ps e all =
    let a = bind_some (pair_in x) (λ y. each pair_in es >>= λ ys. Some (y ∷ ys)) ps e in
    let b = bind_some (each pair_in es) (λ ys. Some (a.0 ∷ ys)) ps a.2 in
    let k = bind_some (key_in x.key) (λ key. Some (pair_with key x.row)) a.0 a.1 in
    let row : x.row ≡ a.0.row = ap (λ (p : Pair). p.row) (same_Some (pair_with k.0 x.row) a.0 k.2) in
    subst (AllByRecursion (λ (p : Pair). p.row < bound)) (same_Some (a.0 ∷ b.0) ps b.2) (subst (λ (n : ℕ). n < bound) row all.0, rows_read bound es b.0 b.1 all.1)

count_read : (es : List Entry) (ps : List Pair) → each pair_in es ≡ Some ps → length ps ≡ length es
count_read es ps e = each_length pair_in es ps e

branches_read : (es : List Entry) (cs : List ℕ) (ps : List Pair) → length ps ≡ length es → IsBranching (page_with es cs) → Branches ps cs
branches_read es [] ps n b = inl refl
branches_read es (c ∷ cs) ps n b = inr (omega (arith, b, n))

pub can_write_read : (rec_ref : ℕ) (bytes : List ℕ) (s : ViewedPage) (pairs : List Pair) (children : List ℕ) → IsPage rec_ref bytes (page_of s) → each pair_in (entries_after [] s.items) ≡ Some pairs → children ≡ with_child s.first (children_of s.items) → AllByRecursion (λ (p : Pair). IsKey p.key) pairs → CanWrite rec_ref pairs children
can_write_read rec_ref bytes s pairs children page reads kids keys =
    let n = count_read (entries_after [] s.items) pairs reads in
    record {
      some = omega (arith, n, page.has.some);
      rows = rows_read (256 ^ rec_ref) (entries_after [] s.items) pairs reads page.has.rows;
      keys = keys;
      places = subst (AllByRecursion IsPlace) (sym kids) page.has.places;
      branches = subst (λ (cs : List ℕ). Branches pairs cs) (sym kids) (branches_read (entries_after [] s.items) (with_child s.first (children_of s.items)) pairs n page.branching);
    }

pub none_is : (o : Option (List KeySeg)) → false ≡ is_some o → o ≡ None
none_is None e = refl
none_is (Some x) e = absurd cc
