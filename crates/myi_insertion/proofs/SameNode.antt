-- Putting a pair below a child that was not cut: the page above it stands as it stood.
use Rattle.std.proofs.Common.{◌≡◌, ◌⊎◌, ℕ, suc, ◌+◌, ◌<◌, ◌≤◌, Option, Some, List, [], ◌∷◌, ◌++◌, length, get_or, take, drop, refl, sym, ap, subst, ◌∙◌, arith, inl, inr}
use Rattle.std.specs.List.Sorted.{IsStrictlySortedBy}
use Rattle.std.proofs.lemmas.List.{append-nil}
use Rattle.myi_base.specs.Holding.{Holding}
use Rattle.myi_keycache.specs.Caching.{Caching}
use Rattle.myi_keylist.specs.declared.pair.Pair.{Pair}
use Rattle.myi_keylist.specs.PairOrder.{pair_cmp, put_pair}
use Rattle.myi_btree.specs.declared.place.Place.{Place}
use Rattle.myi_btree.specs.declared.place.Room.{Room}
use Rattle.myi_btree.specs.Walk.{Places, node_with, Walked, walk_of, content}
use Rattle.myi_btree.specs.CachedTrees.{node_lent}
use Rattle.myi_insertion.specs.Strips.{IsStrip, StandFor, Branches}
use Rattle.myi_insertion.specs.Covers.{within, cover, stock}
use Rattle.myi_insertion.specs.Ordered.{AreBefore, BeginsBehind}
use Rattle.myi_insertion.specs.CachedChanges.{CanChange, Changes}
use Rattle.myi_insertion.specs.Written.{IsStripOf}
use Rattle.myi_insertion.specs.Steps.{PutsIn}
use Rattle.myi_insertion.proofs.SettleLaws.{cover-append, page_walks, was_first}
use Rattle.myi_insertion.proofs.KeptLaws.{still_loses, below_kept}
use Rattle.myi_insertion.proofs.CachedLaws.{change_part, change_trades, can_still}
use Rattle.myi_insertion.proofs.InsertLaws.{two, three, child_at, child_sorted, child_changed}
use Rattle.myi_insertion.proofs.SplitLaws.{nil_of}
use Rattle.myi_insertion.proofs.DamageLaws.{branching}
use Rattle.myi_insertion.proofs.PuttingLaws.{Gets, Inserts, in_root, node_only, walk_stays, puts_get, child_can, child_takes, beside_still}

one_strip : (read : Places) (h at : ℕ) (w : Walked) (xs : List Pair) → walk_of read h at ≡ Some w → content w ≡ xs → IsStrip read h (at ∷ []) [] xs w.pages
one_strip read h at w xs e is = record { walks = w ∷ []; are = rw e refl; content_is = append-nil (content w) ∙ is; pages_are = append-nil w.pages; count = refl }

in_same : (place : Place) (p : Pair) (told1 told2 : Option Holding) (mid two_cache : Caching) (n : Holding) (at i h : ℕ) (w : Walked) (ps : List Pair) (cs sp1 : List ℕ) (ss1 : List Pair) (r0 r1 : Room)
    → 0 < place.block_length → told1 ≡ Some n → walk_of (node_lent place mid n) (suc h) at ≡ Some w → CanChange place mid n w.pages r0 → IsStrictlySortedBy pair_cmp (content w) → node_lent place mid n at ≡ Some (node_with ps cs)
    → Branches ps cs → i < length cs → i ≤ length ps → AreBefore p (take i ps) → BeginsBehind p (drop i ps) → Inserts place p mid told1 r0 (get_or cs i 0) told2 two_cache r1 sp1 ss1 → sp1 ≡ get_or cs i 0 ∷ [] → ss1 ≡ []
    → PutsIn place mid n w.pages r0 told2 two_cache r1 at (suc h) (put_pair p (content w)) (at ∷ []) []
in_same place p told1 told2 mid next n at i h w ps cs sp1 ss1 r0 r1 pos held e can sorted there br lt le bef aft inserts one none =
    let block : ℕ = place.block_length in
    let child : ℕ = get_or cs i 0 in
    let read = node_lent place mid n in
    let c = child_at read h at w ps cs i child e there br le refl in
    let f = inserts n held h c.v c.walk (child_can place mid n h at w ps cs i child r0 c can) (child_sorted read h at w ps cs i child c sorted) in
    let s = f.settles in
    let b2 : List ℕ = s.stands.pages in
    let xs : List Pair = put_pair p (content w) in
    let after = node_lent place next s.now in
    let trades = change_trades place mid n c.v.pages r0 next s.now b2 r1 pos s.stands.changes in
    let d = child_changed block read after h at w ps cs i child p r0 r1 sp1 ss1 c can.clear sorted bef aft (record { pages = b2; strip = s.stands.strip; trades = trades }) in
    let pages : List ℕ = (c.part.a ++ b2) ++ c.part.c in
    let part : Changes place mid n (at ∷ ((c.part.a ++ c.part.b) ++ c.part.c)) r0 next s.now (at ∷ pages) r1 = change_part place mid n (at ∷ c.part.a) c.part.b c.part.c r0 next s.now b2 r1 (subst (λ (t : List ℕ). Changes place mid n t r0 next s.now b2 r1) c.pages_are s.stands.changes) in
    let whole : w.pages ≡ at ∷ ((c.part.a ++ c.part.b) ++ c.part.c) = c.all_are ∙ ap (λ (t : List ℕ). at ∷ t) c.part.pages_are in
    let changes : Changes place mid n w.pages r0 next s.now (at ∷ pages) r1 = subst (λ (t : List ℕ). Changes place mid n t r0 next s.now (at ∷ pages) r1) (sym whole) part in
    let off : (x : ℕ) → within at block x + (cover block c.v.pages x + stock r0 x) ≤ 1 = λ x.
    let k = can.clear x in
    let a = ap (λ (t : List ℕ). cover block t x) whole in
    let q = ap (λ (t : List ℕ). cover block t x) c.pages_are in
    omega (arith, cover-append block (c.part.a ++ c.part.b) c.part.c x, cover-append block c.part.a c.part.b x) in
    let here = trades.spares at off (node_with ps cs) there in
    let ps_are : (take i ps ++ ss1) ++ drop i ps ≡ ps = ap (λ (t : List Pair). (take i ps ++ t) ++ drop i ps) none ∙ two i ps in
    let cs_are : (take i cs ++ sp1) ++ drop (suc i) cs ≡ cs = ap (λ (t : List ℕ). (take i cs ++ t) ++ drop (suc i) cs) one ∙ three i cs 0 child lt refl in
    let stand : StandFor after (suc h) ps cs xs pages =
    subst (λ (t : List ℕ). StandFor after (suc h) ps t xs pages) cs_are (subst (λ (t : List Pair). StandFor after (suc h) t ((take i cs ++ sp1) ++ drop (suc i) cs) xs pages) ps_are d.stand) in
    let v = page_walks after (suc h) at ps cs xs pages stand here in
    let beside = beside_still block read after h at w ps cs i child r0 r1 b2 c can.clear trades in
    let below = below_kept place xs (put_pair p (content c.v)) read after at child w.pages c.v.pages c.part.a c.part.b b2 c.part.c sp1 whole c.pages_are (in_root read h child c.v c.walk) (λ most all. child_takes place most read h at w ps cs i child p c sorted bef aft all) beside.0 beside.1 f.kept in
    record {
      settles = record {
        now = s.now;
        held = s.held;
        stands = record { pages = at ∷ pages; strip = subst (λ (t : List ℕ). IsStrip after (suc h) (at ∷ []) [] xs t) v.3 (one_strip after (suc h) at v.0 xs v.1 v.2); changes = changes };
      };
      kept = λ q over. elim (was_first q at pages over) [
        | inl is ↦ inr (record { is = is; alone = refl; more = still_loses place read after at (trades.spares at off) })
        | inr under ↦ inl (below q under)
      ];
    }

pub into_same : (place : Place) (p : Pair) (old : Caching) (told told1 told2 : Option Holding) (mid next : Caching) (at i : ℕ) (ps : List Pair) (cs sp1 sp : List ℕ) (ss1 ss : List Pair) (r0 r1 : Room)
    → 0 < place.block_length → Gets place old told told1 mid at (node_with ps cs) → Branches ps cs → 0 < length cs → i ≤ length ps → AreBefore p (take i ps) → BeginsBehind p (drop i ps)
    → Inserts place p mid told1 r0 (get_or cs i 0) told2 next r1 sp1 ss1 → IsStripOf place.rec_ref (get_or cs i 0) sp1 ss1 → length sp1 ≡ 1 → sp ≡ at ∷ [] → ss ≡ [] → Inserts place p old told r0 at told2 next r1 sp ss
into_same place p old told told1 told2 mid next at i ps cs sp1 sp ss1 ss r0 r1 pos gets br some le bef aft inserts shape one is none = λ m held h w e can sorted.
    let g = gets m held w.pages r0 can (in_root (node_lent place old m) h at w e) in
    let k = node_only (node_lent place old m) h at w (node_with ps cs) e g.was some in
    let e2 : walk_of (node_lent place old m) (suc k.0) at ≡ Some w = subst (λ (n : ℕ). walk_of (node_lent place old m) n at ≡ Some w) k.1 e in
    let walk = walk_stays place old m mid g.now (suc k.0) at w g.stays.lent e2 in
    let still = can_still place old m w.pages r0 mid g.now w.pages r0 pos can g.changes in
    let first = shape.first in
    let empty : ss1 ≡ [] = nil_of ss1 (omega (arith, shape.count, one)) in
    let others : first.0 ≡ [] = nil_of first.0 (omega (arith, one, ap length first.1)) in
    let alone : sp1 ≡ get_or cs i 0 ∷ [] = first.1 ∙ ap (λ (t : List ℕ). get_or cs i 0 ∷ t) others in
    let s = in_same place p told1 told2 mid next g.now at i k.0 w ps cs sp1 ss1 r0 r1 pos g.held walk still sorted g.is br (omega (arith, branching ps cs br some, le)) le bef aft inserts alone empty in
    let made = puts_get place old m w.pages r0 mid g.now told2 next r1 at (suc k.0) (put_pair p (content w)) (at ∷ []) [] g.stays.lent g.changes s in
    let there = subst (λ (n : ℕ). PutsIn place old m w.pages r0 told2 next r1 at n (put_pair p (content w)) (at ∷ []) []) (sym k.1) made in
    subst (λ (t : List Pair). PutsIn place old m w.pages r0 told2 next r1 at h (put_pair p (content w)) sp t) (sym none) (subst (λ (t : List ℕ). PutsIn place old m w.pages r0 told2 next r1 at h (put_pair p (content w)) t []) (sym is) there)
