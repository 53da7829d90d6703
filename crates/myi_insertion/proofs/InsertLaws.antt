-- Putting a pair into a tree: the page that it goes into, and what the pages above that become.
use Rattle.std.proofs.Common.{◌≡◌, ℕ, zero, suc, ◌+◌, ◌<◌, ◌≤◌, Some, List, [], ◌∷◌, ◌++◌, length, get_or, take, drop, refl, sym, ap, subst, ◌∙◌, append_assoc, arith}
use Rattle.std.specs.List.Sorted.{IsStrictlySortedBy}
use Rattle.std.proofs.lemmas.Option.{same_Some}
use Rattle.std.proofs.lemmas.List.{append-nil, length-take, take-append-drop, drop_more}
use Rattle.myi_btree.specs.Walk.{Places, node_with, Walked, walk_of, content}
use Rattle.myi_btree.specs.declared.place.Room.{Room}
use Rattle.myi_btree.proofs.CallerLemmas.{bind_some}
use Rattle.myi_keylist.specs.declared.pair.Pair.{Pair}
use Rattle.myi_keylist.specs.PairOrder.{pair_cmp, put_pair}
use Rattle.myi_insertion.specs.Strips.{contents, all_pages, weave, IsStrip, StandFor, Branches}
use Rattle.myi_insertion.specs.Covers.{cover, AreClear, Trades, Grows}
use Rattle.myi_insertion.specs.Ordered.{AreBefore, BeginsBehind}
use Rattle.myi_insertion.proofs.StripLaws.{Parts, parts, each_length, length-contents}
use Rattle.myi_insertion.proofs.SettleLaws.{cover-append, below}
use Rattle.myi_insertion.proofs.OrderLaws.{put_sides, put_at, sorted_mid, sorted_left, lefts_before, rights_behind}
use Rattle.myi_insertion.proofs.NodeLaws.{with_strip, parts_trade}

-- a strip of one tree is that tree
pub single : (read : Places) (h c : ℕ) (y : List Pair) (b : List ℕ) → IsStrip read h (c ∷ []) [] y b → (v : Walked) × (walk_of read h c ≡ Some v) × (content v ≡ y) × (v.pages ≡ b)
single read h c y b m =
    let a = bind_some (walk_of read h c) (λ y. Some (y ∷ [])) m.walks m.are in
    let is : a.0 ∷ [] ≡ m.walks = same_Some (a.0 ∷ []) m.walks a.2 in
    (a.0, a.1, sym (append-nil (content a.0)) ∙ ap (λ (t : List Walked). weave (contents t) []) is ∙ m.content_is, sym (append-nil a.0.pages) ∙ ap all_pages is ∙ m.pages_are)

pub three : {A : Type 0} (i : ℕ) (xs : List A) (d x : A) → i < length xs → x ≡ get_or xs i d → (take i xs ++ x ∷ []) ++ drop (suc i) xs ≡ xs
three i xs d x lt e =
    let one : i + 1 ≡ suc i = omega arith in
    append_assoc (take i xs) (x ∷ []) (drop (suc i) xs) ∙ ap (λ (t : _). take i xs ++ t ∷ drop (suc i) xs) e ∙ ap (λ (n : ℕ). take i xs ++ get_or xs i d ∷ drop n xs) (sym one) ∙ ap (λ (t : List _). take i xs ++ t) (sym (drop_more xs i d lt)) ∙ take-append-drop i xs

pub two : {A : Type 0} (i : ℕ) (xs : List A) → (take i xs ++ []) ++ drop i xs ≡ xs
two i xs = ap (λ (t : List _). t ++ drop i xs) (append-nil (take i xs)) ∙ take-append-drop i xs

-- in a leaf the pair is put among the pairs of the page
pub in_leaf : (read : Places) (at : ℕ) (w : Walked) (ps : List Pair) (children : List ℕ) (i : ℕ) (p : Pair) → walk_of read zero at ≡ Some w → read at ≡ Some (node_with ps children) → Branches ps children
    → AreBefore p (take i ps) → BeginsBehind p (drop i ps) → (w.pages ≡ at ∷ []) × (put_pair p (content w) ≡ (take i ps ++ p ∷ []) ++ drop i ps)
in_leaf read at w ps children i p e there br bef aft =
    let b = below read zero at w (node_with ps children) e there br in
    (b.pages_are ∙ ap (λ (t : List ℕ). at ∷ t) b.stand.2, ap (put_pair p) (b.stand.1 ∙ sym (take-append-drop i ps)) ∙ put_at p (take i ps) (drop i ps) bef aft)

-- the tree that the pair goes into, and those beside it
pub record Child (read : Places) (h at : ℕ) (w : Walked) (ps : List Pair) (cs : List ℕ) (i child : ℕ) : Type 0 where
  pub pages : List ℕ
  pub part : Parts read h (take i cs) (child ∷ []) (drop (suc i) cs) (take i ps) [] (drop i ps) (content w) pages
  pub v : Walked
  pub walk : walk_of read h child ≡ Some v
  pub content_is : content v ≡ part.y
  pub pages_are : v.pages ≡ part.b
  pub all_are : w.pages ≡ at ∷ pages

pub child_at : (read : Places) (h at : ℕ) (w : Walked) (ps : List Pair) (cs : List ℕ) (i child : ℕ) → walk_of read (suc h) at ≡ Some w → read at ≡ Some (node_with ps cs) → Branches ps cs → i ≤ length ps → child ≡ get_or cs i 0 → Child read h at w ps cs i child
child_at read h at w ps cs i child e there br le is =
    let b = below read (suc h) at w (node_with ps cs) e there br in
    let cs_are : (take i cs ++ child ∷ []) ++ drop (suc i) cs ≡ cs = three i cs 0 child (omega (arith, b.stand.count)) is in
    let ps_are : (take i ps ++ []) ++ drop i ps ≡ ps = two i ps in
    let strip : IsStrip read h ((take i cs ++ child ∷ []) ++ drop (suc i) cs) ((take i ps ++ []) ++ drop i ps) (content w) b.pages = rw (cs_are, ps_are) b.stand in
    let part = parts read h (take i cs) (child ∷ []) (drop (suc i) cs) (take i ps) [] (drop i ps) (content w) b.pages (omega (arith, b.stand.count, length-take i cs, length-take i ps)) refl strip in
    let v = single read h child part.y part.b part.middle in
    record { pages = b.pages; part = part; v = v.0; walk = v.1; content_is = v.2; pages_are = v.3; all_are = b.pages_are }

pub child_clear : (block : ℕ) (read : Places) (h at : ℕ) (w : Walked) (ps : List Pair) (cs : List ℕ) (i child : ℕ) (room : Room) (c : Child read h at w ps cs i child) → AreClear block w.pages room → AreClear block c.v.pages room
child_clear block read h at w ps cs i child room c clear = λ x.
    let k = clear x in
    let a = ap (λ (t : List ℕ). cover block t x) c.all_are in
    let q = ap (λ (t : List ℕ). cover block t x) c.part.pages_are in
    let n = ap (λ (t : List ℕ). cover block t x) c.pages_are in
    omega (arith, cover-append block (c.part.a ++ c.part.b) c.part.c x, cover-append block c.part.a c.part.b x)

pub child_sorted : (read : Places) (h at : ℕ) (w : Walked) (ps : List Pair) (cs : List ℕ) (i child : ℕ) (c : Child read h at w ps cs i child) → IsStrictlySortedBy pair_cmp (content w) → IsStrictlySortedBy pair_cmp (content c.v)
child_sorted read h at w ps cs i child c sorted =
    subst (λ (t : List Pair). IsStrictlySortedBy pair_cmp t) (sym c.content_is) (sorted_mid c.part.x c.part.y c.part.z (subst (λ (t : List Pair). IsStrictlySortedBy pair_cmp t) c.part.content_is sorted))

-- the pair goes into the child where it goes into the tree
pub put_below : (read : Places) (h at : ℕ) (w : Walked) (ps : List Pair) (cs : List ℕ) (i child : ℕ) (p : Pair) (c : Child read h at w ps cs i child) → IsStrictlySortedBy pair_cmp (content w) → AreBefore p (take i ps) → BeginsBehind p (drop i ps)
    → put_pair p (content w) ≡ (c.part.x ++ put_pair p c.part.y) ++ c.part.z
put_below read h at w ps cs i child p c sorted bef aft =
    let part = c.part in
    let sorted2 : IsStrictlySortedBy pair_cmp ((part.x ++ part.y) ++ part.z) = subst (λ (t : List Pair). IsStrictlySortedBy pair_cmp t) part.content_is sorted in
    let before : AreBefore p part.x = subst (λ (t : List Pair). AreBefore p t) part.left.content_is
    (lefts_before (contents part.left.walks) (take i ps) p (subst (λ (t : List Pair). IsStrictlySortedBy pair_cmp t) (sym part.left.content_is) (sorted_left part.x part.y (sorted_left (part.x ++ part.y) part.z sorted2))) bef) in
    let behind : BeginsBehind p part.z = subst (λ (t : List Pair). BeginsBehind p t) part.right.content_is
    (rights_behind (contents part.right.walks) (drop i ps) p (omega (arith, length-contents part.right.walks, each_length (walk_of read h) (drop (suc i) cs) part.right.walks part.right.are, part.right.count)) aft) in
    ap (put_pair p) part.content_is ∙ put_sides p part.x part.y part.z before behind

-- the page with other trees in the place of the child
pub record Changed (block : ℕ) (old mid : Places) (h at : ℕ) (xs ps : List Pair) (cs olds : List ℕ) (before after : Room) (pages : List ℕ) : Type 0 where
  pub stand : StandFor mid (suc h) ps cs xs pages
  pub clear : AreClear block (at ∷ pages) after
  pub trades : Trades block old mid olds before after (at ∷ pages)

pub child_changed : (block : ℕ) (old mid : Places) (h at : ℕ) (w : Walked) (ps : List Pair) (cs : List ℕ) (i child : ℕ) (p : Pair) (r0 r1 : Room) (sp : List ℕ) (ss : List Pair) (c : Child old h at w ps cs i child)
    → AreClear block w.pages r0 → IsStrictlySortedBy pair_cmp (content w) → AreBefore p (take i ps) → BeginsBehind p (drop i ps) → (g : Grows block old mid h (put_pair p (content c.v)) c.v.pages r0 r1 sp ss)
    → Changed block old mid h at (put_pair p (content w)) ((take i ps ++ ss) ++ drop i ps) ((take i cs ++ sp) ++ drop (suc i) cs) w.pages r0 r1 ((c.part.a ++ g.pages) ++ c.part.c)
child_changed block old mid h at w ps cs i child p r0 r1 sp ss c clear sorted bef aft g =
    let strip : IsStrip mid h sp ss (put_pair p c.part.y) g.pages = subst (λ (t : List Pair). IsStrip mid h sp ss (put_pair p t) g.pages) c.content_is g.strip in
    let change : Trades block old mid c.part.b r0 r1 g.pages = subst (λ (t : List ℕ). Trades block old mid t r0 r1 g.pages) c.pages_are g.trades in
    let clear2 : AreClear block (at ∷ c.pages) r0 = subst (λ (t : List ℕ). AreClear block t r0) c.all_are clear in
    let pages : List ℕ = (c.part.a ++ g.pages) ++ c.part.c in
    let stand = with_strip block old mid h at (take i cs) (child ∷ []) (drop (suc i) cs) (take i ps) [] (drop i ps) (content w) c.pages r0 r1 c.part clear2 sp ss (put_pair p c.part.y) g.pages strip change in
    let put = put_below old h at w ps cs i child p c sorted bef aft in
    let trades : Trades block old mid (at ∷ c.pages) r0 r1 (at ∷ pages) = parts_trade block old mid at c.pages c.part.a c.part.b g.pages c.part.c r0 r1 c.part.pages_are change in
    record {
      stand = subst (λ (t : List Pair). StandFor mid (suc h) ((take i ps ++ ss) ++ drop i ps) ((take i cs ++ sp) ++ drop (suc i) cs) t pages) (sym put) stand;
      clear = λ x. let k = clear2 x in let b = trades.balance x in omega arith;
      trades = subst (λ (t : List ℕ). Trades block old mid t r0 r1 (at ∷ pages)) (sym c.all_are) trades;
    }

-- the laws, in the words that stand in the contracts
pub goes_into : (read : Places) (h at : ℕ) (w : Walked) (ps : List Pair) (cs : List ℕ) (i : ℕ) → walk_of read (suc h) at ≡ Some w → read at ≡ Some (node_with ps cs) → Branches ps cs → i ≤ length ps
    → (v : Walked) × (walk_of read h (get_or cs i 0) ≡ Some v) × ((block : ℕ) (room : Room) → AreClear block w.pages room → AreClear block v.pages room) × (IsStrictlySortedBy pair_cmp (content w) → IsStrictlySortedBy pair_cmp (content v))
goes_into read h at w ps cs i e there br le =
    let c = child_at read h at w ps cs i (get_or cs i 0) e there br le refl in
    (c.v, c.walk, λ block room. child_clear block read h at w ps cs i (get_or cs i 0) room c, child_sorted read h at w ps cs i (get_or cs i 0) c)

pub node_grows : (block : ℕ) (old mid : Places) (h at : ℕ) (w v : Walked) (ps : List Pair) (cs : List ℕ) (i : ℕ) (p : Pair) (r0 r1 : Room) (sp : List ℕ) (ss : List Pair) → walk_of old (suc h) at ≡ Some w → old at ≡ Some (node_with ps cs) → Branches ps cs → i ≤ length ps
    → AreBefore p (take i ps) → BeginsBehind p (drop i ps) → AreClear block w.pages r0 → IsStrictlySortedBy pair_cmp (content w) → walk_of old h (get_or cs i 0) ≡ Some v → Grows block old mid h (put_pair p (content v)) v.pages r0 r1 sp ss
    → (pages : List ℕ) × StandFor mid (suc h) ((take i ps ++ ss) ++ drop i ps) ((take i cs ++ sp) ++ drop (suc i) cs) (put_pair p (content w)) pages × Trades block old mid w.pages r0 r1 (at ∷ pages)
node_grows block old mid h at w v ps cs i p r0 r1 sp ss e there br le bef aft clear sorted walk g =
    let child : ℕ = get_or cs i 0 in
    let c = child_at old h at w ps cs i child e there br le refl in
    let same : v ≡ c.v = same_Some v c.v (sym walk ∙ c.walk) in
    let g2 = subst (λ (t : Walked). Grows block old mid h (put_pair p (content t)) t.pages r0 r1 sp ss) same g in
    let d = child_changed block old mid h at w ps cs i child p r0 r1 sp ss c clear sorted bef aft g2 in
    ((c.part.a ++ g2.pages) ++ c.part.c, d.stand, d.trades)
