-- Putting a pair into a tree through a key cache.
use Rattle.std.proofs.Common.{◌≡◌, ◌⊎◌, ℕ, zero, suc, ◌+◌, ◌^◌, ◌<◌, ◌≤◌, cond, ltb, Option, Some, None, List, [], ◌∷◌, ◌++◌, length, get_or, take, drop, refl, sym, ap, subst, ◌∙◌, arith, inl, inr}
use Rattle.std.specs.List.{AllByRecursion, Contains}
use Rattle.std.specs.List.Sorted.{IsStrictlySortedBy}
use Rattle.std.proofs.lemmas.Bool.{ltb-true, lt-ltb}
use Rattle.std.proofs.lemmas.Option.{same_Some, cond_some}
use Rattle.myi_base.specs.Holding.{Holding}
use Rattle.myi_keycache.specs.Kept.{is_kept, NoOtherMeets}
use Rattle.myi_keycache.specs.Caching.{pages_of, Caching, SameLent}
use Rattle.myi_keylist.specs.declared.pair.Pair.{Pair}
use Rattle.myi_keylist.specs.PairOrder.{pair_cmp, put_pair}
use Rattle.myi_btree.specs.declared.place.Place.{Place}
use Rattle.myi_btree.specs.declared.place.Room.{Room}
use Rattle.myi_btree.specs.Walk.{◌>>=◌, Places, Node, node_with, Walked, walk_of, each, at_node, as_leaf, content}
use Rattle.myi_btree.specs.Nodes.{entry_of}
use Rattle.myi_btree.specs.CachedTrees.{node_lent}
use Rattle.myi_btree.proofs.CallerLemmas.{bind_some}
use Rattle.myi_keys.specs.Limits.{IsKey}
use Rattle.myi_keypage.specs.Page.{IsPlace}
use Rattle.myi_insertion.specs.Strips.{IsStrip, StandFor, Branches, all_pages}
use Rattle.myi_insertion.specs.Rooms.{Takes}
use Rattle.myi_insertion.specs.Written.{CanWrite}
use Rattle.myi_insertion.specs.CachedTree.{IsTree, Inserted}
use Rattle.myi_insertion.specs.Covers.{within, cover, stock, AreClear, Trades, StillStands}
use Rattle.myi_insertion.specs.Ordered.{AreBefore, BeginsBehind}
use Rattle.myi_insertion.specs.CachedChanges.{CanChange, Changes}
use Rattle.myi_insertion.specs.Filled.{TakeAtMost, StaysFilled, KeepsFilled, below_root}
use Rattle.myi_insertion.specs.Halves.{IsKept}
use Rattle.myi_insertion.specs.Steps.{Got, Settles, Lays, PutsIn, Grafts, Rooted}
use Rattle.myi_insertion.proofs.FrameLaws.{all_left, all_right, same_walk}
use Rattle.myi_insertion.proofs.CoverLaws.{first_one, no_one, in_cover, within_one}
use Rattle.myi_insertion.proofs.SettleLaws.{cover-append, spares_still, all_of, page_below}
use Rattle.myi_insertion.proofs.HalfLaws.{PartsUse}
use Rattle.myi_insertion.proofs.KeptLaws.{laid_on, kept_on, kept_from, lone_from, grown_loses, below_kept, below_in}
use Rattle.myi_insertion.proofs.CachedLaws.{change_take, change_then, change_part, change_trades, can_still, lent_node, all_from}
use Rattle.myi_insertion.proofs.InsertLaws.{Child, child_at, child_clear, child_sorted, child_changed, put_below, in_leaf}

-- a walk begins with the page at its place
pub root_page : (read : Places) (h at : ℕ) (w : Walked) → walk_of read h at ≡ Some w → (rest : List ℕ) × (w.pages ≡ at ∷ rest)
root_page read zero at w e =
    let a = bind_some (read at) (λ node. as_leaf at node node.children) w e in
    by a.0 a.0.children a.2
  where
    by : (node : Node) (cs : List ℕ) → as_leaf at node cs ≡ Some w → (rest : List ℕ) × (w.pages ≡ at ∷ rest)
    by node [] e = ([], ap (λ (w : Walked). w.pages) (sym (same_Some _ _ e)))
    by node (c ∷ cs) e = absurd cc
root_page read (suc h) at w e =
    let a = bind_some (read at) (λ node. each (walk_of read h) node.children >>= λ ws. cond (ltb 0 (length node.children)) (Some (at_node at node ws)) None) w e in
    let b = bind_some (each (walk_of read h) a.0.children) (λ ws. cond (ltb 0 (length a.0.children)) (Some (at_node at a.0 ws)) None) w a.2 in
    let g = cond_some _ _ _ b.2 in
    (all_pages b.0, ap (λ (w : Walked). w.pages) (sym g.1))

pub in_root : (read : Places) (h at : ℕ) (w : Walked) → walk_of read h at ≡ Some w → Contains w.pages at
in_root read h at w e = let r = root_page read h at w e in subst (λ (ps : List ℕ). Contains ps at) (sym r.1) (first_one at r.0)

-- a page with children is no leaf, and one without is
pub leaf_only : (read : Places) (h at : ℕ) (w : Walked) (node : Node) → walk_of read h at ≡ Some w → read at ≡ Some node → node.children ≡ [] → h ≡ zero
leaf_only read zero at w node e there none = refl
leaf_only read (suc h) at w node e there none =
    let a = bind_some (read at) (λ node. each (walk_of read h) node.children >>= λ ws. cond (ltb 0 (length node.children)) (Some (at_node at node ws)) None) w e in
    let b = bind_some (each (walk_of read h) a.0.children) (λ ws. cond (ltb 0 (length a.0.children)) (Some (at_node at a.0 ws)) None) w a.2 in
    let g = cond_some _ _ _ b.2 in
    let some : 0 < length a.0.children = ltb-true _ _ g.0 in
    let same : a.0 ≡ node = same_Some a.0 node (sym a.1 ∙ there) in
    absurd (omega (arith, some, ap (λ (n : Node). length n.children) same, ap length none))

pub node_only : (read : Places) (h at : ℕ) (w : Walked) (node : Node) → walk_of read h at ≡ Some w → read at ≡ Some node → 0 < length node.children → (k : ℕ) × (h ≡ suc k)
node_only read (suc h) at w node e there some = (h, refl)
node_only read zero at w node e there some =
    let a = bind_some (read at) (λ node. as_leaf at node node.children) w e in
    let same : a.0 ≡ node = same_Some a.0 node (sym a.1 ∙ there) in
    by a.0 a.0.children a.2 (omega (arith, some, ap (λ (n : Node). length n.children) same))
  where
    by : (n : Node) (cs : List ℕ) → as_leaf at n cs ≡ Some w → 0 < length cs → (k : ℕ) × (zero ≡ suc k)
    by n [] e pos = absurd (omega arith)
    by n (c ∷ cs) e pos = absurd cc

-- where all that was lent is lent, walks stand
pub walk_stays : (place : Place) (old : Caching) (m : Holding) (new : Caching) (n : Holding) (h at : ℕ) (w : Walked) → SameLent old m new n → walk_of (node_lent place old m) h at ≡ Some w → walk_of (node_lent place new n) h at ≡ Some w
walk_stays place old m new n h at w same e = same_walk (node_lent place old m) (node_lent place new n) h at w e (all_from (StillStands (node_lent place old m) (node_lent place new n)) w.pages (λ p here node was. lent_node place old m new n p node (λ x. same p place.block_length x) was))

-- what a call that asks for a page says, and one that writes pairs on pages
abbrev pub Gets : Place → Caching → Option Holding → Option Holding → Caching → ℕ → Node → Type 0
Gets place cache told next new at node = (m : Holding) → told ≡ Some m → (pages : List ℕ) (room : Room) → CanChange place cache m pages room → Contains pages at → Got place cache m pages room next new at node

abbrev pub Fills : Place → Caching → Option Holding → Room → ℕ → List Pair → List ℕ → Option Holding → Caching → Room → List ℕ → List Pair → Type 0
Fills place cache told room at pairs children next new after sp ss = (m : Holding) → told ≡ Some m → (height : ℕ) (xs : List Pair) (below : List ℕ) → StandFor (node_lent place cache m) height pairs children xs below
    → CanChange place cache m (at ∷ below) room → Lays place cache m at below room next new after (node_with pairs children) height xs sp ss

-- what a call that puts a pair in says
abbrev pub Inserts : Place → Pair → Caching → Option Holding → Room → ℕ → Option Holding → Caching → Room → List ℕ → List Pair → Type 0
Inserts place p cache told room at next new after sp ss = (m : Holding) → told ≡ Some m → (height : ℕ) (w : Walked) → walk_of (node_lent place cache m) height at ≡ Some w → CanChange place cache m w.pages room → IsStrictlySortedBy pair_cmp (content w)
    → PutsIn place cache m w.pages room next new after at height (put_pair p (content w)) sp ss

pub settles_then : (place : Place) (a : Caching) (m : Holding) (olds : List ℕ) (r0 : Room) (b : Caching) (n : Holding) (mids : List ℕ) (r1 : Room) (told : Option Holding) (c : Caching) (r2 : Room) (h : ℕ) (xs : List Pair) (sp : List ℕ) (ss : List Pair)
    → Changes place a m olds r0 b n mids r1 → Settles place b n mids r1 told c r2 h xs sp ss → Settles place a m olds r0 told c r2 h xs sp ss
settles_then place a m olds r0 b n mids r1 told c r2 h xs sp ss f s = record {
  now = s.now;
  held = s.held;
  stands = record { pages = s.stands.pages; strip = s.stands.strip; changes = change_then place a m olds r0 b n mids r1 c s.now s.stands.pages r2 f s.stands.changes };
}

-- all that was lent is lent, so what stood still stands
pub get_still : (place : Place) (old : Caching) (m : Holding) (new : Caching) (n : Holding) (p : ℕ) → SameLent old m new n → StillStands (node_lent place old m) (node_lent place new n) p
get_still place old m new n p same = λ node was. lent_node place old m new n p node (λ x. same p place.block_length x) was

-- a page was asked for before
pub puts_get : (place : Place) (old : Caching) (m : Holding) (olds : List ℕ) (r0 : Room) (mid : Caching) (n : Holding) (told : Option Holding) (new : Caching) (r1 : Room) (at h : ℕ) (xs : List Pair) (sp : List ℕ) (ss : List Pair)
    → SameLent old m mid n → Changes place old m olds r0 mid n olds r0 → PutsIn place mid n olds r0 told new r1 at h xs sp ss → PutsIn place old m olds r0 told new r1 at h xs sp ss
unfolding settles_then
puts_get place old m olds r0 mid n told new r1 at h xs sp ss same changes puts =
    let one = node_lent place old m in
    let two = node_lent place mid n in
    let three = node_lent place new puts.settles.now in
    record {
      settles = settles_then place old m olds r0 mid n olds r0 told new r1 h xs sp ss changes puts.settles;
      kept = λ q here. elim (puts.kept q here) [
        | inl k ↦ inl (kept_from place xs one two three (below_root olds) q (get_still place old m mid n q same) k)
        | inr l ↦ inr (lone_from place one two three at sp q (get_still place old m mid n at same) l)
      ];
    }

pub into_leaf : PartsUse → (place : Place) (p : Pair) (old : Caching) (told told1 told2 : Option Holding) (mid new : Caching) (at i : ℕ) (ps grown : List Pair) (cs gcs sp : List ℕ) (ss : List Pair) (r0 r1 : Room)
    → 0 < place.block_length → Gets place old told told1 mid at (node_with ps cs) → Branches ps cs → cs ≡ [] → AreBefore p (take i ps) → BeginsBehind p (drop i ps) → grown ≡ (take i ps ++ p ∷ []) ++ drop i ps → gcs ≡ []
    → Fills place mid told1 r0 at grown gcs told2 new r1 sp ss → Inserts place p old told r0 at told2 new r1 sp ss
unfolding settles_then
into_leaf parts place p old told told1 told2 mid new at i ps grown cs gcs sp ss r0 r1 pos gets br none bef aft is gnone fills = λ m held h w e can sorted.
    let g = gets m held w.pages r0 can (in_root (node_lent place old m) h at w e) in
    let zero_is : h ≡ zero = leaf_only (node_lent place old m) h at w (node_with ps cs) e g.was none in
    let l0 = in_leaf (node_lent place old m) at w ps cs i p (subst (λ (n : ℕ). walk_of (node_lent place old m) n at ≡ Some w) zero_is e) g.was br bef aft in
    let still = can_still place old m w.pages r0 mid g.now w.pages r0 pos can g.changes in
    let l = fills g.now g.held zero grown [] (gnone, refl, refl) (subst (λ (t : List ℕ). CanChange place mid g.now t r0) l0.0 still) in
    let changes = subst (λ (t : List ℕ). Changes place old m w.pages r0 mid g.now t r0) l0.0 g.changes in
    let made = settles_then place old m w.pages r0 mid g.now (at ∷ []) r0 told2 new r1 zero grown sp ss changes l.settles in
    let flags : ltb 0 (length cs) ≡ ltb 0 (length gcs) = ap (λ (t : List ℕ). ltb 0 (length t)) (none ∙ sym gnone) in
    let puts : PutsIn place old m w.pages r0 told2 new r1 at zero grown sp ss = record {
      settles = made;
      kept = λ q here. elim (l.laid q here) [
        | inl (inl half) ↦ inl (inl half)
        | inl (inr k) ↦ absurd (no_one q k.0)
        | inr a ↦ inr (record { is = a.is; alone = a.alone; more = grown_loses parts place (node_lent place old m) (node_lent place new made.now) at i ps (p ∷ []) grown cs gcs g.was a.there is flags })
      ];
    } in
    subst (λ (n : ℕ). PutsIn place old m w.pages r0 told2 new r1 at n (put_pair p (content w)) sp ss) (sym zero_is)
    (subst (λ (t : List Pair). PutsIn place old m w.pages r0 told2 new r1 at zero t sp ss) (is ∙ sym l0.1) puts)

-- the child's pages may be changed where all may
pub child_can : (place : Place) (cache : Caching) (m : Holding) (h at : ℕ) (w : Walked) (ps : List Pair) (cs : List ℕ) (i child : ℕ) (room : Room) (c : Child (node_lent place cache m) h at w ps cs i child) → CanChange place cache m w.pages room → CanChange place cache m c.v.pages room
child_can place cache m h at w ps cs i child room c can =
    let P : ℕ → Type 0 = λ at. NoOtherMeets (is_kept (pages_of cache)) at place.block_length in
    let all : AllByRecursion P (at ∷ c.pages) = subst (AllByRecursion P) c.all_are can.meets in
    let parts : AllByRecursion P ((c.part.a ++ c.part.b) ++ c.part.c) = subst (AllByRecursion P) c.part.pages_are all.1 in
    record {
      current = can.current;
      meets = subst (AllByRecursion P) (sym c.pages_are) (all_right P c.part.a c.part.b (all_left P (c.part.a ++ c.part.b) c.part.c parts));
      spare = can.spare;
      clear = child_clear place.block_length (node_lent place cache m) h at w ps cs i child room c can.clear;
    }

-- the pages beside the child still stand
pub beside_still : (block : ℕ) (read after : Places) (h at : ℕ) (w : Walked) (ps : List Pair) (cs : List ℕ) (i child : ℕ) (r0 r1 : Room) (b2 : List ℕ) (c : Child read h at w ps cs i child) → AreClear block w.pages r0 → Trades block read after c.v.pages r0 r1 b2
    → ((q : ℕ) → Contains c.part.a q → StillStands read after q) × ((q : ℕ) → Contains c.part.c q → StillStands read after q)
beside_still block read after h at w ps cs i child r0 r1 b2 c clear trades =
    let all : (x : ℕ) → cover block c.part.a x + cover block c.v.pages x + cover block c.part.c x + stock r0 x ≤ 1 = λ x.
    let k = clear x in
    let e = ap (λ (t : List ℕ). cover block t x) c.all_are in
    let a = ap (λ (t : List ℕ). cover block t x) c.part.pages_are in
    let q = ap (λ (t : List ℕ). cover block t x) c.pages_are in
    omega (arith, cover-append block (c.part.a ++ c.part.b) c.part.c x, cover-append block c.part.a c.part.b x) in
    let left = spares_still block read after (λ x. cover block c.v.pages x + stock r0 x) c.part.a trades.spares (λ x. let k = all x in omega arith) in
    let right = spares_still block read after (λ x. cover block c.v.pages x + stock r0 x) c.part.c trades.spares (λ x. let k = all x in omega arith) in
    (λ q here. all_of (StillStands read after) c.part.a q left here, λ q here. all_of (StillStands read after) c.part.c q right here)

-- what is put into the child is among what is put into the tree
pub child_takes : (place : Place) (most : ℕ) (read : Places) (h at : ℕ) (w : Walked) (ps : List Pair) (cs : List ℕ) (i child : ℕ) (p : Pair) (c : Child read h at w ps cs i child) → IsStrictlySortedBy pair_cmp (content w) → AreBefore p (take i ps) → BeginsBehind p (drop i ps)
    → TakeAtMost place most (put_pair p (content w)) → TakeAtMost place most (put_pair p (content c.v))
child_takes place most read h at w ps cs i child p c sorted bef aft all =
    let P : Pair → Type 0 = λ (q : Pair). length (entry_of q).key + 13 + place.rec_ref ≤ most in
    let parts = subst (AllByRecursion P) (put_below read h at w ps cs i child p c sorted bef aft) all in
    let mine = all_right P c.part.x (put_pair p c.part.y) (all_left P (c.part.x ++ put_pair p c.part.y) c.part.z parts) in
    subst (λ (t : List Pair). AllByRecursion P (put_pair p t)) (sym c.content_is) mine

in_node : PartsUse → (place : Place) (p : Pair) (told1 told2 told3 : Option Holding) (mid two new : Caching) (n : Holding) (at i h : ℕ) (w : Walked) (ps grown : List Pair) (cs gcs sp1 sp : List ℕ) (ss1 ss : List Pair) (r0 r1 r2 : Room)
    → 0 < place.block_length → told1 ≡ Some n → walk_of (node_lent place mid n) (suc h) at ≡ Some w → CanChange place mid n w.pages r0 → IsStrictlySortedBy pair_cmp (content w) → node_lent place mid n at ≡ Some (node_with ps cs)
    → Branches ps cs → i ≤ length ps → AreBefore p (take i ps) → BeginsBehind p (drop i ps) → Inserts place p mid told1 r0 (get_or cs i 0) told2 two r1 sp1 ss1 → grown ≡ (take i ps ++ ss1) ++ drop i ps → gcs ≡ (take i cs ++ sp1) ++ drop (suc i) cs
    → Fills place two told2 r1 at grown gcs told3 new r2 sp ss → PutsIn place mid n w.pages r0 told3 new r2 at (suc h) (put_pair p (content w)) sp ss
unfolding settles_then
in_node parts place p told1 told2 told3 mid two new n at i h w ps grown cs gcs sp1 sp ss1 ss r0 r1 r2 pos held e can sorted there br le bef aft inserts is gis fills =
    let child : ℕ = get_or cs i 0 in
    let read = node_lent place mid n in
    let c = child_at read h at w ps cs i child e there br le refl in
    let f = inserts n held h c.v c.walk (child_can place mid n h at w ps cs i child r0 c can) (child_sorted read h at w ps cs i child c sorted) in
    let s = f.settles in
    let b2 : List ℕ = s.stands.pages in
    let trades = change_trades place mid n c.v.pages r0 two s.now b2 r1 pos s.stands.changes in
    let d = child_changed place.block_length read (node_lent place two s.now) h at w ps cs i child p r0 r1 sp1 ss1 c can.clear sorted bef aft (record { pages = b2; strip = s.stands.strip; trades = trades }) in
    let pages : List ℕ = (c.part.a ++ b2) ++ c.part.c in
    let part : Changes place mid n (at ∷ ((c.part.a ++ c.part.b) ++ c.part.c)) r0 two s.now (at ∷ pages) r1 = change_part place mid n (at ∷ c.part.a) c.part.b c.part.c r0 two s.now b2 r1 (subst (λ (t : List ℕ). Changes place mid n t r0 two s.now b2 r1) c.pages_are s.stands.changes) in
    let whole : w.pages ≡ at ∷ ((c.part.a ++ c.part.b) ++ c.part.c) = c.all_are ∙ ap (λ (t : List ℕ). at ∷ t) c.part.pages_are in
    let changes : Changes place mid n w.pages r0 two s.now (at ∷ pages) r1 = subst (λ (t : List ℕ). Changes place mid n t r0 two s.now (at ∷ pages) r1) (sym whole) part in
    let still = can_still place mid n w.pages r0 two s.now (at ∷ pages) r1 pos can changes in
    let stand : StandFor (node_lent place two s.now) (suc h) grown gcs (put_pair p (content w)) pages = rw (is, gis) d.stand in
    let xs : List Pair = put_pair p (content w) in
    let l = fills s.now s.held (suc h) xs pages stand still in
    let after = node_lent place two s.now in
    let last = node_lent place new l.settles.now in
    let beside = beside_still place.block_length read after h at w ps cs i child r0 r1 b2 c can.clear trades in
    let below = below_kept place xs (put_pair p (content c.v)) read after at child w.pages c.v.pages c.part.a c.part.b b2 c.part.c sp1 whole c.pages_are (in_root read h child c.v c.walk) (λ most all. child_takes place most read h at w ps cs i child p c sorted bef aft all) beside.0 beside.1 f.kept in
    let whole_page = page_below read (suc h) at w (node_with ps cs) e there br in
    let count : length cs ≡ suc (length ps) = whole_page.1.count in
    let flags : ltb 0 (length cs) ≡ ltb 0 (length gcs) = lt-ltb 0 (length cs) (omega (arith, count)) ∙ sym (lt-ltb 0 (length gcs) (omega (arith, stand.count))) in
    record {
      settles = settles_then place mid n w.pages r0 two s.now (at ∷ pages) r1 told3 new r2 (suc h) xs sp ss changes l.settles;
      kept = λ q here. elim (l.laid q here) [
        | inl (inl half) ↦ inl (inl half)
        | inl (inr k) ↦ inl (kept_on place xs read after last (below_root w.pages) q (below q k.0) k.1)
        | inr a ↦ inr (record { is = a.is; alone = a.alone; more = grown_loses parts place read last at i ps ss1 grown cs gcs there a.there is flags })
      ];
    }

pub into_node : PartsUse → (place : Place) (p : Pair) (old : Caching) (told told1 told2 told3 : Option Holding) (mid two new : Caching) (at i : ℕ) (ps grown : List Pair) (cs gcs sp1 sp : List ℕ) (ss1 ss : List Pair) (r0 r1 r2 : Room)
    → 0 < place.block_length → Gets place old told told1 mid at (node_with ps cs) → Branches ps cs → 0 < length cs → i ≤ length ps → AreBefore p (take i ps) → BeginsBehind p (drop i ps)
    → Inserts place p mid told1 r0 (get_or cs i 0) told2 two r1 sp1 ss1 → grown ≡ (take i ps ++ ss1) ++ drop i ps → gcs ≡ (take i cs ++ sp1) ++ drop (i + 1) cs
    → Fills place two told2 r1 at grown gcs told3 new r2 sp ss → Inserts place p old told r0 at told3 new r2 sp ss
into_node parts place p old told told1 told2 told3 mid two new at i ps grown cs gcs sp1 sp ss1 ss r0 r1 r2 pos gets br some le bef aft inserts is gis fills = λ m held h w e can sorted.
    let g = gets m held w.pages r0 can (in_root (node_lent place old m) h at w e) in
    let k = node_only (node_lent place old m) h at w (node_with ps cs) e g.was some in
    let e2 : walk_of (node_lent place old m) (suc k.0) at ≡ Some w = subst (λ (n : ℕ). walk_of (node_lent place old m) n at ≡ Some w) k.1 e in
    let walk = walk_stays place old m mid g.now (suc k.0) at w g.stays.lent e2 in
    let still = can_still place old m w.pages r0 mid g.now w.pages r0 pos can g.changes in
    let one : i + 1 ≡ suc i = omega arith in
    let gis2 : gcs ≡ (take i cs ++ sp1) ++ drop (suc i) cs = gis ∙ ap (λ (n : ℕ). (take i cs ++ sp1) ++ drop n cs) one in
    let s = in_node parts place p told1 told2 told3 mid two new g.now at i k.0 w ps grown cs gcs sp1 sp ss1 ss r0 r1 r2 pos g.held walk still sorted g.is br le bef aft inserts is gis2 fills in
    let made = puts_get place old m w.pages r0 mid g.now told3 new r2 at (suc k.0) (put_pair p (content w)) sp ss g.stays.lent g.changes s in
    subst (λ (n : ℕ). PutsIn place old m w.pages r0 told3 new r2 at n (put_pair p (content w)) sp ss) (sym k.1) made

pub same_default : {A : Type 0} (xs : List A) (i : ℕ) (d e : A) → i < length xs → get_or xs i d ≡ get_or xs i e
same_default [] i d e lt = absurd (omega arith)
same_default (x ∷ xs) zero d e lt = refl
same_default (x ∷ xs) (suc i) d e lt = same_default xs i d e (omega arith)

pub child_is : (ps : List Pair) (cs : List ℕ) (i child : ℕ) → Branches ps cs → 0 < length cs → i ≤ length ps → child ≡ get_or cs i child → child ≡ get_or cs i 0
child_is ps cs i child br some le is = is ∙ same_default cs i child 0 (by br)
  where
    by : Branches ps cs → i < length cs
    by (inl none) = absurd (omega (arith, ap length none))
    by (inr k) = omega (arith, k)

-- ---- the root

-- what a call that puts pages above trees says
abbrev pub Raises : Place → Caching → Option Holding → Room → List ℕ → List Pair → Option Holding → Caching → Room → ℕ → Type 0
Raises place cache told room sp ss next new after root = (m : Holding) → told ≡ Some m → (height : ℕ) (xs : List Pair) (pages : List ℕ) → IsStrip (node_lent place cache m) height sp ss xs pages → CanChange place cache m pages room → Rooted place cache m pages room next new after xs root

pub into_tree : (place : Place) (p : Pair) (old : Caching) (told : Option Holding) (room : Room) (root : ℕ) (next : Option Holding) (new : Caching) (after : Room) (sp : List ℕ) (ss : List Pair) → Inserts place p old told room root next new after sp ss
    → (r : Option ℕ) → r ≡ Some root → (m : Holding) → told ≡ Some m → (xs : List Pair) (pages : List ℕ) → IsTree place old m r xs pages → CanChange place old m pages room → IsStrictlySortedBy pair_cmp xs
    → (h : ℕ) × Grafts place old m pages room next new after h (put_pair p xs) sp ss
into_tree place p old told room root next new after sp ss inserts r is m held xs pages tree can sorted =
    let t : IsTree place old m (Some root) xs pages = subst (λ (o : Option ℕ). IsTree place old m o xs pages) is tree in
    let h : ℕ = t.0 in
    let w : Walked = t.1 in
    let s = inserts m held h w t.2 (subst (λ (ps : List ℕ). CanChange place old m ps room) t.4 can) (subst (λ (ys : List Pair). IsStrictlySortedBy pair_cmp ys) t.3 sorted) in
    let grafts : Grafts place old m w.pages room next new after h (put_pair p (content w)) sp ss = record {
      settles = s.settles;
      kept = λ q here. elim (s.kept q here) [ inl k ↦ inl k | inr l ↦ inr (l.alone ∙ ap (λ (n : ℕ). n ∷ []) (sym l.is)) ];
    } in
    (h, subst (λ (ps : List ℕ). Grafts place old m ps room next new after h (put_pair p xs) sp ss) (sym t.4) (subst (λ (ys : List Pair). Grafts place old m w.pages room next new after h (put_pair p ys) sp ss) (sym t.3) grafts))

pub first_page : (place : Place) (p : Pair) (old : Caching) (told : Option Holding) (room one : Room) (at : ℕ) (pairs : List Pair) (cs : List ℕ) (next : Option Holding) (new : Caching) (after : Room) (sp : List ℕ) (ss : List Pair)
    → 0 < place.block_length → Takes place.block_length at room one → pairs ≡ p ∷ [] → cs ≡ [] → Fills place old told one at pairs cs next new after sp ss
    → (r : Option ℕ) → r ≡ None → (m : Holding) → told ≡ Some m → (xs : List Pair) (pages : List ℕ) → IsTree place old m r xs pages → CanChange place old m pages room
    → (h : ℕ) × Grafts place old m pages room next new after h (put_pair p xs) sp ss
unfolding settles_then
first_page place p old told room one at pairs cs next new after sp ss pos takes is none fills r empty m held xs pages tree can =
    let t : IsTree place old m None xs pages = subst (λ (o : Option ℕ). IsTree place old m o xs pages) empty tree in
    let can0 : CanChange place old m [] room = subst (λ (ps : List ℕ). CanChange place old m ps room) t.1 can in
    let change = change_take place old m [] [] room one at can.current takes in
    let still = can_still place old m [] room old m (at ∷ []) one pos can0 change in
    let l = fills m held zero pairs [] (none, refl, refl) still in
    let grafts : Grafts place old m [] room next new after zero pairs sp ss = record {
      settles = settles_then place old m [] room old m (at ∷ []) one next new after zero pairs sp ss change l.settles;
      kept = λ q here. elim (l.laid q here) [
        | inl (inl half) ↦ inl (inl half)
        | inl (inr k) ↦ absurd (no_one q k.0)
        | inr a ↦ inr (a.alone ∙ ap (λ (n : ℕ). n ∷ []) (sym a.is))
      ];
    } in
    (zero, subst (λ (ps : List ℕ). Grafts place old m ps room next new after zero (put_pair p xs) sp ss) (sym t.1) (subst (λ (ys : List Pair). Grafts place old m [] room next new after zero ys sp ss) (is ∙ ap (put_pair p) (sym t.0)) grafts))

pub one_written : (rec_ref : ℕ) (p : Pair) (pairs : List Pair) (cs : List ℕ) → pairs ≡ p ∷ [] → cs ≡ [] → p.row < 256 ^ rec_ref → IsKey p.key → CanWrite rec_ref pairs cs
one_written rec_ref p pairs cs is none row key = record {
  some = omega (arith, ap length is);
  rows = subst (AllByRecursion (λ (p : Pair). p.row < 256 ^ rec_ref)) (sym is) (row, tt);
  keys = subst (AllByRecursion (λ (p : Pair). IsKey p.key)) (sym is) (key, tt);
  places = subst (AllByRecursion IsPlace) (sym none) tt;
  branches = inl none;
}

pub raised : (place : Place) (old : Caching) (told : Option Holding) (room one : Room) (at : ℕ) (mid : Caching) (told1 : Option Holding) (two : Room) (new : Caching) (told2 : Option Holding) (three : Room) (sp sp1 : List ℕ) (ss ss1 : List Pair) (root : ℕ)
    → 0 < place.block_length → Takes place.block_length at room one → Fills place old told one at ss sp told1 mid two sp1 ss1 → ((a : ℕ) → sp1 ≡ a ∷ [] → root ≡ a) → Raises place mid told1 two sp1 ss1 told2 new three root → Raises place old told room sp ss told2 new three root
raised place old told room one at mid told1 two new told2 three sp sp1 ss ss1 root pos takes fills alone raises = λ m held h xs pages strip can.
    let change = change_take place old m [] pages room one at can.current takes in
    let still = can_still place old m pages room old m (at ∷ pages) one pos can change in
    let l = fills m held (suc h) xs pages strip still in
    let s = l.settles in
    let first = change_then place old m pages room old m (at ∷ pages) one mid s.now s.stands.pages two change s.stands.changes in
    let again = can_still place old m pages room mid s.now s.stands.pages two pos can first in
    let r = raises s.now s.held (suc h) xs s.stands.pages s.stands.strip again in
    record {
      now = r.now;
      held = r.held;
      height = r.height;
      w = r.w;
      walk = r.walk;
      content_is = r.content_is;
      changes = change_then place old m pages room mid s.now s.stands.pages two new r.now r.w.pages three first r.changes;
      laid = λ q here. elim (r.laid q here) [
        | inl top ↦ inl top
        | inr (inl half) ↦ inr (inl half)
        | inr (inr k) ↦ elim (l.laid q k.0) [
          | inl laid ↦ inr (laid_on place xs (node_lent place old m) (node_lent place mid s.now) (node_lent place new r.now) pages q laid k.1)
          | inr a ↦ inl (a.is ∙ sym (alone at a.alone))
        ]
      ];
    }

pub inserted_in : (place : Place) (old : Caching) (m : Holding) (pages : List ℕ) (room : Room) (mid : Caching) (told1 : Option Holding) (one : Room) (h : ℕ) (xs : List Pair) (sp : List ℕ) (ss : List Pair) (new : Caching) (told2 : Option Holding) (two : Room) (root : ℕ)
    → 0 < place.block_length → CanChange place old m pages room → Settles place old m pages room told1 mid one h xs sp ss → Raises place mid told1 one sp ss told2 new two root → Inserted place old m pages room told2 new two (Some root) xs
inserted_in place old m pages room mid told1 one h xs sp ss new told2 two root pos can s raises =
    let still = can_still place old m pages room mid s.now s.stands.pages one pos can s.stands.changes in
    let r = raises s.now s.held h xs s.stands.pages s.stands.strip still in
    record {
      now = r.now;
      held = r.held;
      pages = r.w.pages;
      tree = (r.height, r.w, r.walk, sym r.content_is, refl);
      changes = change_then place old m pages room mid s.now s.stands.pages one new r.now r.w.pages two s.stands.changes r.changes;
    }

-- a page below the root is another one
not_root : (block : ℕ) (pages : List ℕ) (root q : ℕ) → 0 < block → ((x : ℕ) → cover block pages x ≤ 1) → (r : (rest : List ℕ) × (pages ≡ root ∷ rest)) → Contains (below_root pages) q → q ≡ root → ⊥
not_root block pages root q pos clear r here is =
    let under : Contains r.0 q = subst (λ (t : List ℕ). Contains (below_root t) q) r.1 here in
    let all : cover block (root ∷ r.0) q ≤ 1 = subst (λ (t : List ℕ). cover block t q ≤ 1) r.1 (clear q) in
    let top : within root block q ≡ 1 = within_one root block q (omega (arith, is)) (omega (arith, is)) in
    let mine : within q block q ≡ 1 = within_one q block q (omega arith) (omega arith) in
    omega (arith, in_cover block r.0 q q under, all, top, mine)

-- how well the pages of the tree are filled
pub filled_in : (place : Place) (old : Caching) (m : Holding) (pages : List ℕ) (room : Room) (mid : Caching) (told1 : Option Holding) (one : Room) (h : ℕ) (xs : List Pair) (sp : List ℕ) (ss : List Pair) (new : Caching) (told2 : Option Holding) (two : Room) (root : ℕ)
    → 0 < place.block_length → CanChange place old m pages room → Grafts place old m pages room told1 mid one h xs sp ss → ((a : ℕ) → sp ≡ a ∷ [] → root ≡ a) → Raises place mid told1 one sp ss told2 new two root → KeepsFilled place old m pages told2 new (Some root) xs
filled_in place old m pages room mid told1 one h xs sp ss new told2 two root pos can grafts alone raises =
    let s = grafts.settles in
    let still = can_still place old m pages room mid s.now s.stands.pages one pos can s.stands.changes in
    let r = raises s.now s.held h xs s.stands.pages s.stands.strip still in
    let last = can_still place mid s.now s.stands.pages one new r.now r.w.pages two pos still r.changes in
    let top = root_page (node_lent place new r.now) r.height root r.w r.walk in
    let other : (q : ℕ) → Contains (below_root r.w.pages) q → q ≡ root → ⊥ = λ q here is. not_root place.block_length r.w.pages root q pos (λ x. let k = last.clear x in omega arith) top here is in
    record {
      now = r.now;
      held = r.held;
      pages = r.w.pages;
      tree = (r.height, r.w, r.walk, sym r.content_is, refl);
      filled = λ most q all here. elim (r.laid q (below_in r.w.pages q here)) [
        | inl is ↦ absurd (other q here is)
        | inr (inl half) ↦ inl (half most all)
        | inr (inr k) ↦ elim (grafts.kept q k.0) [
          | inl kept ↦ stays place xs (node_lent place old m) (node_lent place new r.now) (below_root pages) most q all (kept_on place xs (node_lent place old m) (node_lent place mid s.now) (node_lent place new r.now) (below_root pages) q kept k.1)
          | inr lone ↦ absurd (other q here (sym (alone q lone)))
        ]
      ];
    }
  where
    stays : (place : Place) (xs : List Pair) (old new : Places) (inner : List ℕ) (most q : ℕ) → TakeAtMost place most xs → IsKept place xs old new inner q → StaysFilled place most old new inner q
    stays place xs old new inner most q all (inl half) = inl (half most all)
    stays place xs old new inner most q all (inr k) = inr k

-- ---- where a page is missing

pub no_root : (read : Places) (h at : ℕ) (w : Walked) → walk_of read h at ≡ Some w → read at ≡ None → ⊥
no_root read zero at w e none = let a = bind_some (read at) (λ node. as_leaf at node node.children) w e in let k = sym none ∙ a.1 in cc
no_root read (suc h) at w e none =
    let a = bind_some (read at) (λ node. each (walk_of read h) node.children >>= λ ws. cond (ltb 0 (length node.children)) (Some (at_node at node ws)) None) w e in
    let k = sym none ∙ a.1 in
    cc

-- what a call says that met a place without a page
abbrev pub Never : Place → Caching → Option Holding → Room → ℕ → Type 0
Never place cache told room at = (m : Holding) → told ≡ Some m → (height : ℕ) (w : Walked) → walk_of (node_lent place cache m) height at ≡ Some w → CanChange place cache m w.pages room → IsStrictlySortedBy pair_cmp (content w) → ⊥

pub never_below : (place : Place) (old : Caching) (told told1 : Option Holding) (mid : Caching) (at i : ℕ) (ps : List Pair) (cs : List ℕ) (r0 : Room) → 0 < place.block_length → Gets place old told told1 mid at (node_with ps cs) → Branches ps cs → 0 < length cs → i ≤ length ps
    → Never place mid told1 r0 (get_or cs i 0) → Never place old told r0 at
never_below place old told told1 mid at i ps cs r0 pos gets br some le never = λ m held h w e can sorted.
    let g = gets m held w.pages r0 can (in_root (node_lent place old m) h at w e) in
    let k = node_only (node_lent place old m) h at w (node_with ps cs) e g.was some in
    let e2 : walk_of (node_lent place old m) (suc k.0) at ≡ Some w = subst (λ (n : ℕ). walk_of (node_lent place old m) n at ≡ Some w) k.1 e in
    let walk = walk_stays place old m mid g.now (suc k.0) at w g.stays.lent e2 in
    let still = can_still place old m w.pages r0 mid g.now w.pages r0 pos can g.changes in
    let child : ℕ = get_or cs i 0 in
    let c = child_at (node_lent place mid g.now) k.0 at w ps cs i child walk g.is br le refl in
    never g.now g.held k.0 c.v c.walk (child_can place mid g.now k.0 at w ps cs i child r0 c still) (child_sorted (node_lent place mid g.now) k.0 at w ps cs i child c sorted)

pub never_in : (place : Place) (cache : Caching) (told : Option Holding) (room : Room) (root : ℕ) (r : Option ℕ) → r ≡ Some root → Never place cache told room root
    → (m : Holding) → told ≡ Some m → (xs : List Pair) (pages : List ℕ) → IsTree place cache m r xs pages → CanChange place cache m pages room → IsStrictlySortedBy pair_cmp xs → ⊥
never_in place cache told room root r is never m held xs pages tree can sorted =
    let t : IsTree place cache m (Some root) xs pages = subst (λ (o : Option ℕ). IsTree place cache m o xs pages) is tree in
    never m held t.0 t.1 t.2 (subst (λ (ps : List ℕ). CanChange place cache m ps room) t.4 can) (subst (λ (ys : List Pair). IsStrictlySortedBy pair_cmp ys) t.3 sorted)
