-- Taking a pair out of a tree through a key cache.
use Rattle.std.proofs.Common.{◌≡◌, ℕ, zero, suc, ◌+◌, ◌-◌, ◌^◌, ◌%◌, ◌<◌, ◌≤◌, Bool, true, false, not, eqb, Option, Some, None, List, [], ◌∷◌, ◌++◌, length, get_or, take, drop, refl, sym, ap, subst, ◌∙◌, append_assoc, append-nil, arith, inl, inr}
use Rattle.std.specs.List.{AllByRecursion, Contains}
use Rattle.std.specs.List.Sorted.{IsStrictlySortedBy}
use Rattle.std.specs.declared.cmp.Ordering.TheVariants.{Equal}
use Rattle.std.proofs.Math.Seq.{drop-cons}
use Rattle.std.proofs.Math.Bool.{beq}
use Rattle.std.proofs.lemmas.Bool.{eqb-true}
use Rattle.std.proofs.lemmas.List.{drop_all, take-append-drop, length-take, length-drop, length-append}
use Rattle.std.proofs.lemmas.List.Elements.{Contains-append_left, Contains-append_right, Contains-append_cases}
use Rattle.std.proofs.lemmas.Option.{same_Some}
use Rattle.myi_base.specs.Holding.{Holding, Told, OthersStay}
use Rattle.myi_base.proofs.CallerLemmas.{told_same}
use Rattle.myi_keycache.specs.Kept.{is_kept, NoOtherMeets}
use Rattle.myi_keycache.specs.Caching.{pages_of, Caching, Stays, CanGet}
use Rattle.myi_keycache.proofs.CallerLemmas.{stays_on, stays_start}
use Rattle.myi_keys.specs.Limits.{IsKey}
use Rattle.myi_keypage.specs.Page.{IsPlace}
use Rattle.myi_keylist.specs.declared.pair.Pair.{Pair}
use Rattle.myi_keylist.specs.PairOrder.{pair_cmp}
use Rattle.myi_btree.specs.declared.place.Place.{Place}
use Rattle.myi_btree.specs.declared.place.Room.{Room}
use Rattle.myi_btree.specs.Walk.{Places, node_with, Walked, walk_of, content}
use Rattle.myi_btree.specs.CachedTrees.{node_lent}
use Rattle.myi_insertion.specs.Strips.{contents, rights, IsStrip, StandFor, Branches}
use Rattle.myi_insertion.specs.Covers.{cover, stock}
use Rattle.myi_insertion.specs.Rooms.{Gives}
use Rattle.myi_insertion.specs.Ordered.{AreBefore, BeginsBehind, begins_with}
use Rattle.myi_insertion.specs.CachedChanges.{CanChange, Exchanges, Changes}
use Rattle.myi_insertion.specs.CachedTree.{IsTree}
use Rattle.myi_insertion.specs.Removal.{has_pair, without_pair, Removed}
use Rattle.myi_insertion.specs.Written.{CanWrite, IsStripOf}
use Rattle.myi_insertion.specs.Openings.{CanHold, IsOnePair, Opening, Opened, TakenOut, Sought, Planted}
use Rattle.myi_insertion.proofs.FrameLaws.{all_left, all_right}
use Rattle.myi_insertion.proofs.StripLaws.{each_length, length-contents}
use Rattle.myi_insertion.proofs.SettleLaws.{cover-append, page_below}
use Rattle.myi_insertion.proofs.CoverLaws.{only_one, no_one}
use Rattle.myi_insertion.proofs.RoomLaws.{all_both}
use Rattle.myi_insertion.proofs.OrderLaws.{sorted_left, sorted_back, lefts_before, rights_behind, begins_is, rights_begin, none_before, none_behind, none_has, one_has}
use Rattle.myi_insertion.proofs.CachedLaws.{change_none, change_then, change_part, change_trades, can_still, exchange_then, exchange_part, exchange_can, exchange_trades, exchange_give, lent_node}
use Rattle.myi_insertion.proofs.InsertLaws.{Child, child_at, child_sorted, single}
use Rattle.myi_insertion.proofs.PageLaws.{no_pair}
use Rattle.myi_insertion.proofs.PuttingLaws.{Gets, Fills, Raises, Never, same_default, no_root, in_root, leaf_only, node_only, walk_stays, child_can}
use Rattle.myi_insertion.proofs.LoadLaws.{can_get}
use Rattle.myi_insertion.proofs.SplitLaws.{nil_of}
use Rattle.myi_insertion.proofs.WriteLaws.{all_take, all_drop}
use Rattle.myi_insertion.proofs.OpeningLaws.{opening_stays, opened_child, between_sides, Joint, apart_is, joint_left, joint_right, next_stands, last_stands, other_behind, same_shape}

-- what a call that writes a child says
abbrev pub Closes : Place → Caching → Option Holding → Room → ℕ → List Pair → List ℕ → List Pair → List ℕ → Option Holding → Caching → Room → List Pair → List ℕ → Type 0
Closes place cache told room i ps cs ips ics next new after gps gcs = (m : Holding) → told ≡ Some m → (height at : ℕ) (xs : List Pair) (pages : List ℕ) → Opening (node_lent place cache m) height i ps cs ips ics xs pages → CanChange place cache m (at ∷ pages) room
    → Opened place cache m (at ∷ pages) room next new after at (suc height) gps gcs xs (get_or cs i 0 ∷ [])

-- what may be changed with others may be changed
can_part : (place : Place) (cache : Caching) (m : Holding) (us ps vs : List ℕ) (room : Room) → CanChange place cache m ((us ++ ps) ++ vs) room → CanChange place cache m ps room
can_part place cache m us ps vs room can =
    let P : ℕ → Type 0 = λ at. NoOtherMeets (is_kept (pages_of cache)) at place.block_length in
    record {
      current = can.current;
      meets = all_right P us ps (all_left P (us ++ ps) vs can.meets);
      spare = can.spare;
      clear = λ x. let k = can.clear x in omega (arith, cover-append place.block_length (us ++ ps) vs x, cover-append place.block_length us ps x);
    }

-- the child was written as trees side by side
pub child_written : (place : Place) (old : Caching) (told next : Option Holding) (new : Caching) (i : ℕ) (ps gps : List Pair) (cs gcs : List ℕ) (ips : List Pair) (ics sp : List ℕ) (ss : List Pair) (r0 r1 : Room) → 0 < place.block_length
    → Fills place old told r0 (get_or cs i 0) ips ics next new r1 sp ss → gps ≡ (take i ps ++ ss) ++ drop i ps → gcs ≡ (take i cs ++ sp) ++ drop (i + 1) cs → Closes place old told r0 i ps cs ips ics next new r1 gps gcs
child_written place old told next new i ps gps cs gcs ips ics sp ss r0 r1 pos fills is gis = λ m held h at xs pages o can.
    let block : ℕ = place.block_length in
    let child : ℕ = get_or cs i 0 in
    let can2 : CanChange place old m (at ∷ ((o.a ++ child ∷ o.below) ++ o.c)) r0 = subst (λ (t : List ℕ). CanChange place old m (at ∷ t) r0) o.pages_are can in
    let s = (fills m held h o.y o.below o.middle (can_part place old m (at ∷ o.a) (child ∷ o.below) o.c r0 can2)).settles in
    let b2 : List ℕ = s.stands.pages in
    let clear : (x : ℕ) → cover block o.a x + cover block (child ∷ o.below) x + cover block o.c x + stock r0 x ≤ 1 = λ x.
    let k = can2.clear x in omega (arith, cover-append block (o.a ++ child ∷ o.below) o.c x, cover-append block o.a (child ∷ o.below) x) in
    let strip = between_sides block (node_lent place old m) (node_lent place new s.now) h (take i cs) (drop (suc i) cs) (take i ps) (drop i ps) o.x o.y o.z o.a (child ∷ o.below) o.c r0 r1 sp ss b2 o.left o.right s.stands.strip clear
    (change_trades place old m (child ∷ o.below) r0 new s.now b2 r1 pos s.stands.changes) in
    let one : i + 1 ≡ suc i = omega arith in
    let gis2 : gcs ≡ (take i cs ++ sp) ++ drop (suc i) cs = gis ∙ ap (λ (n : ℕ). (take i cs ++ sp) ++ drop n cs) one in
    record {
      now = s.now;
      held = s.held;
      below = (o.a ++ b2) ++ o.c;
      stand = rw (is, gis2, o.content_is) strip;
      given = [];
      changes = subst (λ (t : List ℕ). Exchanges place old m (at ∷ t) r0 new s.now (at ∷ ((o.a ++ b2) ++ o.c)) r1 []) (sym o.pages_are) (change_part place old m (at ∷ o.a) (child ∷ o.below) o.c r0 new s.now b2 r1 s.stands.changes);
      owned = λ p here. absurd (no_one p here);
    }

-- the child was written with the tree beside it, on whose page they begin, and its own page was given up
pub joint_written : (place : Place) (old : Caching) (told told1 told2 : Option Holding) (mid two : Caching) (i left beside : ℕ) (ps gps : List Pair) (cs gcs : List ℕ) (ips : List Pair) (ics : List ℕ) (ops : List Pair) (ocs : List ℕ) (bps : List Pair) (bcs sp : List ℕ) (ss : List Pair) (r0 r1 r2 : Room)
    → 0 < place.block_length → Gets place old told told1 mid beside (node_with ops ocs) → ((read : Places) (h : ℕ) (xs : List Pair) (pages : List ℕ) → Opening read h i ps cs ips ics xs pages → (v : Walked) × (walk_of read h beside ≡ Some v) × Contains pages beside)
    → ((read : Places) (h : ℕ) (xs : List Pair) (pages : List ℕ) → Opening read h i ps cs ips ics xs pages → read beside ≡ Some (node_with ops ocs) → Joint read h left ps cs (get_or cs i 0) beside bps bcs xs pages)
    → Fills place mid told1 r0 beside bps bcs told2 two r1 sp ss → Gives place.block_length (get_or cs i 0) r1 r2 → gps ≡ (take left ps ++ ss) ++ drop (left + 1) ps → gcs ≡ (take left cs ++ sp) ++ drop (left + 2) cs → Closes place old told r0 i ps cs ips ics told2 two r2 gps gcs
joint_written place old told told1 told2 mid two i left beside ps gps cs gcs ips ics ops ocs bps bcs sp ss r0 r1 r2 pos gets stands joint fills gives is gis = λ m held h at xs pages o can.
    let block : ℕ = place.block_length in
    let child : ℕ = get_or cs i 0 in
    let k = stands (node_lent place old m) h xs pages o in
    let g = gets m held (at ∷ pages) r0 can (Contains-append_right (at ∷ []) pages beside k.2) in
    let o2 = opening_stays (node_lent place old m) (node_lent place mid g.now) h i ps cs ips ics xs pages (λ p node was. lent_node place old m mid g.now p node (λ x. g.stays.lent p block x) was) o in
    let j = joint (node_lent place mid g.now) h xs pages o2 g.is in
    let q : List ℕ = beside ∷ j.below in
    let still = can_still place old m (at ∷ pages) r0 mid g.now (at ∷ pages) r0 pos can g.changes in
    let order = j.order place mid g.now r0 at still.current in
    let can2 = can_still place mid g.now (at ∷ pages) r0 mid g.now (at ∷ ((j.a ++ child ∷ q) ++ j.c)) r0 pos still order in
    let can3 : CanChange place mid g.now (((at ∷ (j.a ++ child ∷ [])) ++ q) ++ j.c) r0 = subst (λ (t : List ℕ). CanChange place mid g.now t r0) (sym (apart_is at child j.a q j.c)) can2 in
    let s = (fills g.now g.held h j.y j.below j.middle (can_part place mid g.now (at ∷ (j.a ++ child ∷ [])) q j.c r0 can3)).settles in
    let b2 : List ℕ = s.stands.pages in
    let part = change_part place mid g.now (at ∷ (j.a ++ child ∷ [])) q j.c r0 two s.now b2 r1 s.stands.changes in
    let part2 : Changes place mid g.now (at ∷ ((j.a ++ child ∷ q) ++ j.c)) r0 two s.now (((at ∷ (j.a ++ child ∷ [])) ++ b2) ++ j.c) r1 = subst (λ (t : List ℕ). Changes place mid g.now t r0 two s.now (((at ∷ (j.a ++ child ∷ [])) ++ b2) ++ j.c) r1) (apart_is at child j.a q j.c) part in
    let to_give : ((at ∷ (j.a ++ child ∷ [])) ++ b2) ++ j.c ≡ (at ∷ j.a) ++ child ∷ (b2 ++ j.c) = apart_is at child j.a b2 j.c ∙ ap (λ (t : List ℕ). at ∷ t) (append_assoc j.a (child ∷ b2) j.c) in
    let part3 : Changes place mid g.now (at ∷ ((j.a ++ child ∷ q) ++ j.c)) r0 two s.now ((at ∷ j.a) ++ child ∷ (b2 ++ j.c)) r1 = subst (λ (t : List ℕ). Changes place mid g.now (at ∷ ((j.a ++ child ∷ q) ++ j.c)) r0 two s.now t r1) to_give part2 in
    let give = exchange_give place two s.now (at ∷ j.a) (b2 ++ j.c) r1 r2 child part3.current gives in
    let give2 : Exchanges place two s.now ((at ∷ j.a) ++ child ∷ (b2 ++ j.c)) r1 two s.now (at ∷ ((j.a ++ b2) ++ j.c)) r2 (child ∷ []) = subst (λ (t : List ℕ). Exchanges place two s.now ((at ∷ j.a) ++ child ∷ (b2 ++ j.c)) r1 two s.now (at ∷ t) r2 (child ∷ [])) (sym (append_assoc j.a b2 j.c)) give in
    let asked : Changes place old m (at ∷ pages) r0 mid g.now (at ∷ ((j.a ++ child ∷ q) ++ j.c)) r0 = change_then place old m (at ∷ pages) r0 mid g.now (at ∷ pages) r0 mid g.now (at ∷ ((j.a ++ child ∷ q) ++ j.c)) r0 g.changes order in
    let wrote : Changes place old m (at ∷ pages) r0 two s.now ((at ∷ j.a) ++ child ∷ (b2 ++ j.c)) r1 = change_then place old m (at ∷ pages) r0 mid g.now (at ∷ ((j.a ++ child ∷ q) ++ j.c)) r0 two s.now ((at ∷ j.a) ++ child ∷ (b2 ++ j.c)) r1 asked part3 in
    let clear : (x : ℕ) → cover block j.a x + cover block q x + cover block j.c x + stock r0 x ≤ 1 = λ x. let k = can2.clear x in omega (arith, cover-append block (j.a ++ child ∷ q) j.c x, cover-append block j.a (child ∷ q) x) in
    let strip = between_sides block (node_lent place mid g.now) (node_lent place two s.now) h (take left cs) (drop (left + 2) cs) (take left ps) (drop (left + 1) ps) j.x j.y j.z j.a q j.c r0 r1 sp ss b2 j.sides_left j.sides_right s.stands.strip clear
    (change_trades place mid g.now q r0 two s.now b2 r1 pos s.stands.changes) in
    record {
      now = s.now;
      held = s.held;
      below = (j.a ++ b2) ++ j.c;
      stand = subst (λ (t : List Pair). IsStrip (node_lent place two s.now) h gcs gps t ((j.a ++ b2) ++ j.c)) (sym j.content_is) (subst (λ (t : List Pair). IsStrip (node_lent place two s.now) h gcs t ((j.x ++ j.y) ++ j.z) ((j.a ++ b2) ++ j.c)) (sym is)
          (subst (λ (t : List ℕ). IsStrip (node_lent place two s.now) h t ((take left ps ++ ss) ++ drop (left + 1) ps) ((j.x ++ j.y) ++ j.z) ((j.a ++ b2) ++ j.c)) (sym gis) strip));
      given = child ∷ [];
      changes = exchange_then place old m (at ∷ pages) r0 two s.now ((at ∷ j.a) ++ child ∷ (b2 ++ j.c)) r1 two s.now (at ∷ ((j.a ++ b2) ++ j.c)) r2 [] (child ∷ []) wrote give2;
      owned = λ p here. here;
    }

-- ---- a node whose child was opened

record Pends (place : Place) (old : Caching) (m : Holding) (olds : List ℕ) (before : Room) (told : Option Holding) (new : Caching) (after : Room) (at h i : ℕ) (ps : List Pair) (cs : List ℕ) (ips : List Pair) (ics : List ℕ) (xs : List Pair) : Type 0 where
  now : Holding
  held : told ≡ Some now
  pages : List ℕ
  opening : Opening (node_lent place new now) h i ps cs ips ics xs pages
  given : List ℕ
  changes : Exchanges place old m olds before new now (at ∷ pages) after given
  owned : (p : ℕ) → Contains given p → Contains olds p

in_child : (read : Places) (h at : ℕ) (w : Walked) (ps : List Pair) (cs : List ℕ) (i : ℕ) (c : Child read h at w ps cs i (get_or cs i 0)) (p : ℕ) → Contains c.v.pages p → Contains w.pages p
in_child read h at w ps cs i c p here =
    let b : Contains c.part.b p = subst (λ (t : List ℕ). Contains t p) c.pages_are here in
    let pages : Contains c.pages p = subst (λ (t : List ℕ). Contains t p) (sym c.part.pages_are) (Contains-append_left (c.part.a ++ c.part.b) c.part.c p (Contains-append_right c.part.a c.part.b p b)) in
    subst (λ (t : List ℕ). Contains t p) (sym c.all_are) (Contains-append_right (at ∷ []) c.pages p pages)

child_opens : (place : Place) (mid : Caching) (n : Holding) (at h i : ℕ) (w : Walked) (ps : List Pair) (cs : List ℕ) (r0 r1 : Room) (told : Option Holding) (two : Caching) (ips : List Pair) (ics : List ℕ) (ys : List Pair) → 0 < place.block_length → CanChange place mid n w.pages r0 → (c : Child (node_lent place mid n) h at w ps cs i (get_or cs i 0))
    → Opened place mid n c.v.pages r0 told two r1 (get_or cs i 0) h ips ics ys c.v.pages
    → (p : Pends place mid n w.pages r0 told two r1 at h i ps cs ips ics ((c.part.x ++ ys) ++ c.part.z)) × (p.opening.x ++ p.opening.y ≡ c.part.x ++ ys) × (p.opening.z ≡ c.part.z)
child_opens place mid n at h i w ps cs r0 r1 told two ips ics ys pos can c op =
    let child : ℕ = get_or cs i 0 in
    let below : List ℕ = child ∷ op.below in
    let trades = exchange_trades place mid n c.v.pages r0 two op.now below r1 op.given pos op.changes in
    let opening = opened_child place.block_length (node_lent place mid n) (node_lent place two op.now) h at w ps cs i r0 r1 c ips ics ys op.below can.clear op.stand trades in
    let whole : w.pages ≡ at ∷ ((c.part.a ++ c.part.b) ++ c.part.c) = c.all_are ∙ ap (λ (t : List ℕ). at ∷ t) c.part.pages_are in
    let part = exchange_part place mid n (at ∷ c.part.a) c.part.b c.part.c r0 two op.now below r1 op.given (subst (λ (t : List ℕ). Exchanges place mid n t r0 two op.now below r1 op.given) c.pages_are op.changes) in (
      record {
        now = op.now;
        held = op.held;
        pages = (c.part.a ++ below) ++ c.part.c;
        opening = opening.0;
        given = op.given;
        changes = subst (λ (t : List ℕ). Exchanges place mid n t r0 two op.now (at ∷ ((c.part.a ++ below) ++ c.part.c)) r1 op.given) (sym whole) part;
        owned = λ p here. in_child (node_lent place mid n) h at w ps cs i c p (op.owned p here);
      },
      opening.1,
      opening.2,
    )

closes_then : (place : Place) (mid : Caching) (n : Holding) (at h i : ℕ) (w : Walked) (ps gps : List Pair) (cs gcs : List ℕ) (r0 r1 r2 : Room) (told2 told3 : Option Holding) (two new : Caching) (ips : List Pair) (ics : List ℕ) (xs : List Pair) → 0 < place.block_length → CanChange place mid n w.pages r0
    → Contains w.pages (get_or cs i 0) → Pends place mid n w.pages r0 told2 two r1 at h i ps cs ips ics xs → Closes place two told2 r1 i ps cs ips ics told3 new r2 gps gcs → Opened place mid n w.pages r0 told3 new r2 at (suc h) gps gcs xs w.pages
closes_then place mid n at h i w ps gps cs gcs r0 r1 r2 told2 told3 two new ips ics xs pos can here p closes =
    let still = exchange_can place mid n w.pages r0 two p.now (at ∷ p.pages) r1 p.given pos can p.changes in
    let q = closes p.now p.held h at xs p.pages p.opening still in
    record {
      now = q.now;
      held = q.held;
      below = q.below;
      stand = q.stand;
      given = p.given ++ q.given;
      changes = exchange_then place mid n w.pages r0 two p.now (at ∷ p.pages) r1 new q.now (at ∷ q.below) r2 p.given q.given p.changes q.changes;
      owned = λ x h. elim (Contains-append_cases p.given q.given x h) [
        | inl a ↦ p.owned x a
        | inr b ↦ subst (λ (t : ℕ). Contains w.pages t) (only_one (get_or cs i 0) x (q.owned x b)) here
      ];
    }

opened_then : (place : Place) (a : Caching) (m : Holding) (olds : List ℕ) (r0 : Room) (b : Caching) (n : Holding) (told : Option Holding) (c : Caching) (r1 : Room) (at h : ℕ) (ps : List Pair) (cs : List ℕ) (xs : List Pair) → Changes place a m olds r0 b n olds r0 → Opened place b n olds r0 told c r1 at h ps cs xs olds → Opened place a m olds r0 told c r1 at h ps cs xs olds
opened_then place a m olds r0 b n told c r1 at h ps cs xs f o = record {
  now = o.now;
  held = o.held;
  below = o.below;
  stand = o.stand;
  given = o.given;
  changes = exchange_then place a m olds r0 b n olds r0 c o.now (at ∷ o.below) r1 [] o.given f o.changes;
  owned = o.owned;
}

-- a page that was asked for at the root of a tree, and is a node of it
record Entered (place : Place) (old : Caching) (m : Holding) (h at i : ℕ) (w : Walked) (ps : List Pair) (cs : List ℕ) (r0 : Room) (told : Option Holding) (mid : Caching) : Type 0 where
  now : Holding
  held : told ≡ Some now
  k : ℕ
  height : h ≡ suc k
  changes : Changes place old m w.pages r0 mid now w.pages r0
  stays : Stays old mid m now
  still : CanChange place mid now w.pages r0
  c : Child (node_lent place mid now) k at w ps cs i (get_or cs i 0)

enters : (place : Place) (old : Caching) (told told1 : Option Holding) (mid : Caching) (at i : ℕ) (ps : List Pair) (cs : List ℕ) (r0 : Room) → 0 < place.block_length → Gets place old told told1 mid at (node_with ps cs) → Branches ps cs → 0 < length cs → i ≤ length ps
    → (m : Holding) → told ≡ Some m → (h : ℕ) (w : Walked) → walk_of (node_lent place old m) h at ≡ Some w → CanChange place old m w.pages r0 → Entered place old m h at i w ps cs r0 told1 mid
enters place old told told1 mid at i ps cs r0 pos gets br some le m held h w e can =
    let g = gets m held w.pages r0 can (in_root (node_lent place old m) h at w e) in
    let k = node_only (node_lent place old m) h at w (node_with ps cs) e g.was some in
    let e2 : walk_of (node_lent place old m) (suc k.0) at ≡ Some w = subst (λ (n : ℕ). walk_of (node_lent place old m) n at ≡ Some w) k.1 e in
    let walk = walk_stays place old m mid g.now (suc k.0) at w g.stays.lent e2 in
    record {
      now = g.now;
      held = g.held;
      k = k.0;
      height = k.1;
      changes = g.changes;
      stays = g.stays;
      still = can_still place old m w.pages r0 mid g.now w.pages r0 pos can g.changes;
      c = child_at (node_lent place mid g.now) k.0 at w ps cs i (get_or cs i 0) walk g.is br le refl;
    }

child_here : (place : Place) (mid : Caching) (n : Holding) (k at i : ℕ) (w : Walked) (ps : List Pair) (cs : List ℕ) (c : Child (node_lent place mid n) k at w ps cs i (get_or cs i 0)) → Contains w.pages (get_or cs i 0)
child_here place mid n k at i w ps cs c = in_child (node_lent place mid n) k at w ps cs i c (get_or cs i 0) (in_root (node_lent place mid n) k (get_or cs i 0) c.v c.walk)

-- ---- the last pair

abbrev pub TakesLast : Place → Caching → Option Holding → Room → ℕ → Option Holding → Caching → Room → List Pair → List ℕ → List Pair → Type 0
TakesLast place cache told room at next new after gps gcs last = (m : Holding) → told ≡ Some m → (height : ℕ) (w : Walked) → walk_of (node_lent place cache m) height at ≡ Some w → CanChange place cache m w.pages room
    → (xs : List Pair) × (content w ≡ xs ++ last) × Opened place cache m w.pages room next new after at height gps gcs xs w.pages

-- a leaf that is not written
leaf_opens : (place : Place) (old : Caching) (told told1 : Option Holding) (mid : Caching) (at : ℕ) (ps : List Pair) (cs : List ℕ) (r0 : Room) → 0 < place.block_length → Gets place old told told1 mid at (node_with ps cs) → Branches ps cs → cs ≡ []
    → (m : Holding) → told ≡ Some m → (h : ℕ) (w : Walked) → walk_of (node_lent place old m) h at ≡ Some w → CanChange place old m w.pages r0 → (content w ≡ ps) × ((gps : List Pair) (gcs : List ℕ) → gcs ≡ [] → Opened place old m w.pages r0 told1 mid r0 at h gps gcs gps w.pages)
leaf_opens place old told told1 mid at ps cs r0 pos gets br none m held h w e can =
    let g = gets m held w.pages r0 can (in_root (node_lent place old m) h at w e) in
    let zero_is : h ≡ zero = leaf_only (node_lent place old m) h at w (node_with ps cs) e g.was none in
    let b = page_below (node_lent place old m) zero at w (node_with ps cs) (subst (λ (n : ℕ). walk_of (node_lent place old m) n at ≡ Some w) zero_is e) g.was br in
    let pages_are : w.pages ≡ at ∷ [] = b.2 ∙ ap (λ (t : List ℕ). at ∷ t) b.1.2 in (
      b.1.1,
      λ gps gcs gnone. subst (λ (n : ℕ). Opened place old m w.pages r0 told1 mid r0 at n gps gcs gps w.pages) (sym zero_is) (record {
        now = g.now;
        held = g.held;
        below = [];
        stand = (gnone, refl, refl);
        given = [];
        changes = subst (λ (t : List ℕ). Changes place old m w.pages r0 mid g.now t r0) pages_are g.changes;
        owned = λ p here. absurd (no_one p here);
      }),
    )

pub last_of_leaf : (place : Place) (old : Caching) (told told1 : Option Holding) (mid : Caching) (at i : ℕ) (ps gps : List Pair) (cs gcs : List ℕ) (last : List Pair) (r0 : Room) → 0 < place.block_length → Gets place old told told1 mid at (node_with ps cs) → Branches ps cs → cs ≡ [] → i + 1 ≡ length ps → last ≡ get_or ps i no_pair ∷ []
    → gps ≡ take i ps ++ drop (i + 1) ps → gcs ≡ [] → TakesLast place old told r0 at told1 mid r0 gps gcs last
last_of_leaf place old told told1 mid at i ps gps cs gcs last r0 pos gets br none n is gis gnone = λ m held h w e can.
    let l = leaf_opens place old told told1 mid at ps cs r0 pos gets br none m held h w e can in
    let all : gps ≡ take i ps = gis ∙ ap (λ (t : List Pair). take i ps ++ t) (drop_all (i + 1) ps (omega arith)) ∙ append-nil (take i ps) in
    let one : drop i ps ≡ get_or ps i no_pair ∷ [] = drop-cons ps i no_pair (omega arith) ∙ ap (λ (t : List Pair). get_or ps i no_pair ∷ t) (drop_all (suc i) ps (omega arith)) in
    (gps, l.0 ∙ sym (take-append-drop i ps) ∙ ap (λ (t : List Pair). take i ps ++ t) (one ∙ sym is) ∙ ap (λ (t : List Pair). t ++ last) (sym all), l.1 gps gcs gnone)

no_rights : (cs : List (List Pair)) (ps : List Pair) → ps ≡ [] → rights ps cs ≡ []
no_rights cs [] e = refl
no_rights cs (p ∷ ps) e = absurd cc

pub last_of_node : (place : Place) (old : Caching) (told told1 told2 told3 : Option Holding) (mid two new : Caching) (at i : ℕ) (ps gps : List Pair) (cs gcs : List ℕ) (ips : List Pair) (ics : List ℕ) (last : List Pair) (r0 r1 r2 : Room) → 0 < place.block_length → Gets place old told told1 mid at (node_with ps cs) → Branches ps cs
    → 0 < length cs → i ≡ length ps → TakesLast place mid told1 r0 (get_or cs i 0) told2 two r1 ips ics last → Closes place two told2 r1 i ps cs ips ics told3 new r2 gps gcs → TakesLast place old told r0 at told3 new r2 gps gcs last
last_of_node place old told told1 told2 told3 mid two new at i ps gps cs gcs ips ics last r0 r1 r2 pos gets br some n takes closes = λ m held h w e can.
    let t = enters place old told told1 mid at i ps cs r0 pos gets br some (omega (arith, n)) m held h w e can in
    let c = t.c in
    let q = takes t.now t.held t.k c.v c.walk (child_can place mid t.now t.k at w ps cs i (get_or cs i 0) r0 c t.still) in
    let ys : List Pair = q.0 in
    let pends = child_opens place mid t.now at t.k i w ps cs r0 r1 told2 two ips ics ys pos t.still c q.2 in
    let xs : List Pair = (c.part.x ++ ys) ++ c.part.z in
    let opened = closes_then place mid t.now at t.k i w ps gps cs gcs r0 r1 r2 told2 told3 two new ips ics xs pos t.still (child_here place mid t.now t.k at i w ps cs c) pends.0 closes in
    let z_none : c.part.z ≡ [] = sym c.part.right.content_is ∙ no_rights (contents c.part.right.walks) (drop i ps) (drop_all i ps (omega (arith, n))) in
    let y_is : c.part.y ≡ ys ++ last = sym c.content_is ∙ q.1 in
    let is : content w ≡ xs ++ last = c.part.content_is ∙ ap (λ (t : List Pair). (c.part.x ++ c.part.y) ++ t) z_none ∙ append-nil (c.part.x ++ c.part.y) ∙ ap (λ (t : List Pair). c.part.x ++ t) y_is ∙ sym (append_assoc c.part.x ys last)
    ∙ ap (λ (t : List Pair). t ++ last) (sym (append-nil (c.part.x ++ ys)) ∙ ap (λ (t : List Pair). (c.part.x ++ ys) ++ t) (sym z_none)) in
    (xs, is, subst (λ (n : ℕ). Opened place old m w.pages r0 told3 new r2 at n gps gcs xs w.pages) (sym t.height) (opened_then place old m w.pages r0 mid t.now told3 new r2 at (suc t.k) gps gcs xs t.changes opened))

-- ---- a pair

abbrev pub TakesPair : Pair → Place → Caching → Option Holding → Room → ℕ → Option Holding → Caching → Room → List Pair → List ℕ → Type 0
TakesPair p place cache told room at next new after gps gcs = (m : Holding) → told ≡ Some m → (height : ℕ) (w : Walked) → walk_of (node_lent place cache m) height at ≡ Some w → CanChange place cache m w.pages room → IsStrictlySortedBy pair_cmp (content w)
    → TakenOut p place cache m w room next new after at height gps gcs

abbrev pub SeeksPair : Pair → Place → Caching → Option Holding → Room → ℕ → Option Holding → Caching → Type 0
SeeksPair p place cache told room at next new = (m : Holding) → told ≡ Some m → (height : ℕ) (w : Walked) → walk_of (node_lent place cache m) height at ≡ Some w → CanChange place cache m w.pages room → IsStrictlySortedBy pair_cmp (content w)
    → Sought p place cache m w room next new

tail_of : {A : Type 0} (i : ℕ) (xs : List A) (x : A) (rest : List A) → drop i xs ≡ x ∷ rest → drop (i + 1) xs ≡ rest
tail_of zero [] x rest e = absurd cc
tail_of zero (y ∷ xs) x rest e = cc
tail_of (suc i) [] x rest e = absurd cc
tail_of (suc i) (y ∷ xs) x rest e = let one : suc i + 1 ≡ suc (i + 1) = omega arith in ap (λ (n : ℕ). drop n (y ∷ xs)) one ∙ tail_of i xs x rest e

front_of : {A : Type 0} (i : ℕ) (xs mid rest : List A) → i ≤ length xs → (take i ((take i xs ++ mid) ++ rest) ≡ take i xs) × (drop i ((take i xs ++ mid) ++ rest) ≡ mid ++ rest)
front_of zero xs mid rest le = (refl, refl)
front_of (suc i) [] mid rest le = absurd (omega arith)
front_of (suc i) (x ∷ xs) mid rest le = let k = front_of i xs mid rest (omega arith) in (ap (λ (t : List _). x ∷ t) k.0, k.1)

one_of : {A : Type 0} (xs : List A) → length xs ≡ 1 → (x : A) × (xs ≡ x ∷ [])
one_of [] e = absurd (omega arith)
one_of (x ∷ []) e = (x, refl)
one_of (x ∷ y ∷ xs) e = absurd (omega arith)

pub pair_in_leaf : (p : Pair) (place : Place) (old : Caching) (told told1 : Option Holding) (mid : Caching) (at i : ℕ) (ps gps : List Pair) (cs gcs : List ℕ) (r0 : Room) → 0 < place.block_length → Gets place old told told1 mid at (node_with ps cs) → Branches ps cs → cs ≡ [] → begins_with p (drop i ps) ≡ true
    → gps ≡ take i ps ++ drop (i + 1) ps → gcs ≡ [] → TakesPair p place old told r0 at told1 mid r0 gps gcs
pair_in_leaf p place old told told1 mid at i ps gps cs gcs r0 pos gets br none found is gnone = λ m held h w e can sorted.
    let l = leaf_opens place old told told1 mid at ps cs r0 pos gets br none m held h w e can in
    let b = begins_is p (drop i ps) found in
    let rest : drop (i + 1) ps ≡ b.1 = tail_of i ps b.0 b.1 b.2 in
    let all : gps ≡ take i ps ++ b.1 = is ∙ ap (λ (t : List Pair). take i ps ++ t) rest in
    record {
      front = take i ps;
      taken = b.0;
      back = b.1;
      was = l.0 ∙ sym (take-append-drop i ps) ∙ ap (λ (t : List Pair). take i ps ++ t) b.2;
      is = b.3;
      opened = subst (λ (t : List Pair). Opened place old m w.pages r0 told1 mid r0 at h gps gcs t w.pages) all (l.1 gps gcs gnone);
    }

pub none_in_leaf : (p : Pair) (place : Place) (old : Caching) (told told1 : Option Holding) (mid : Caching) (at i : ℕ) (ps : List Pair) (cs : List ℕ) (r0 : Room) → 0 < place.block_length → Gets place old told told1 mid at (node_with ps cs) → Branches ps cs → cs ≡ [] → AreBefore p (take i ps) → BeginsBehind p (drop i ps) → begins_with p (drop i ps) ≡ false
    → SeeksPair p place old told r0 at told1 mid
none_in_leaf p place old told told1 mid at i ps cs r0 pos gets br none bef aft found = λ m held h w e can sorted.
    let l = leaf_opens place old told told1 mid at ps cs r0 pos gets br none m held h w e can in
    let g = gets m held w.pages r0 can (in_root (node_lent place old m) h at w e) in
    let ps_are : content w ≡ take i ps ++ drop i ps = l.0 ∙ sym (take-append-drop i ps) in
    let sorted2 : IsStrictlySortedBy pair_cmp (take i ps ++ drop i ps) = subst (λ (t : List Pair). IsStrictlySortedBy pair_cmp t) ps_are sorted in
    let all = all_both (λ q. pair_cmp p q ≡ Equal → ⊥) (take i ps) (drop i ps) (none_before p (take i ps) bef) (none_behind p (drop i ps) (sorted_back (take i ps) (drop i ps) sorted2) aft found) in
    record {
      now = g.now;
      held = g.held;
      stays = g.stays;
      changes = g.changes;
      none = subst (AllByRecursion (λ q. pair_cmp p q ≡ Equal → ⊥)) (sym ps_are) all;
    }

pub pair_below : (p : Pair) (place : Place) (old : Caching) (told told1 told2 told3 : Option Holding) (mid two new : Caching) (at i : ℕ) (ps gps : List Pair) (cs gcs : List ℕ) (ips : List Pair) (ics : List ℕ) (r0 r1 r2 : Room) → 0 < place.block_length → Gets place old told told1 mid at (node_with ps cs) → Branches ps cs → 0 < length cs → i ≤ length ps
    → TakesPair p place mid told1 r0 (get_or cs i 0) told2 two r1 ips ics → Closes place two told2 r1 i ps cs ips ics told3 new r2 gps gcs → TakesPair p place old told r0 at told3 new r2 gps gcs
pair_below p place old told told1 told2 told3 mid two new at i ps gps cs gcs ips ics r0 r1 r2 pos gets br some le takes closes = λ m held h w e can sorted.
    let t = enters place old told told1 mid at i ps cs r0 pos gets br some le m held h w e can in
    let c = t.c in
    let q = takes t.now t.held t.k c.v c.walk (child_can place mid t.now t.k at w ps cs i (get_or cs i 0) r0 c t.still) (child_sorted (node_lent place mid t.now) t.k at w ps cs i (get_or cs i 0) c sorted) in
    let ys : List Pair = q.front ++ q.back in
    let pends = child_opens place mid t.now at t.k i w ps cs r0 r1 told2 two ips ics ys pos t.still c q.opened in
    let xs : List Pair = (c.part.x ++ ys) ++ c.part.z in
    let opened = closes_then place mid t.now at t.k i w ps gps cs gcs r0 r1 r2 told2 told3 two new ips ics xs pos t.still (child_here place mid t.now t.k at i w ps cs c) pends.0 closes in
    let y_is : c.part.y ≡ q.front ++ q.taken ∷ q.back = sym c.content_is ∙ q.was in
    let was : content w ≡ (c.part.x ++ q.front) ++ q.taken ∷ (q.back ++ c.part.z) =
    c.part.content_is ∙ ap (λ (t : List Pair). (c.part.x ++ t) ++ c.part.z) y_is ∙ ap (λ (t : List Pair). t ++ c.part.z) (sym (append_assoc c.part.x q.front (q.taken ∷ q.back))) ∙ append_assoc (c.part.x ++ q.front) (q.taken ∷ q.back) c.part.z in
    let is : xs ≡ (c.part.x ++ q.front) ++ (q.back ++ c.part.z) = ap (λ (t : List Pair). t ++ c.part.z) (sym (append_assoc c.part.x q.front q.back)) ∙ append_assoc (c.part.x ++ q.front) q.back c.part.z in
    let done = subst (λ (n : ℕ). Opened place old m w.pages r0 told3 new r2 at n gps gcs xs w.pages) (sym t.height) (opened_then place old m w.pages r0 mid t.now told3 new r2 at (suc t.k) gps gcs xs t.changes opened) in
    record {
      front = c.part.x ++ q.front;
      taken = q.taken;
      back = q.back ++ c.part.z;
      was = was;
      is = q.is;
      opened = subst (λ (t : List Pair). Opened place old m w.pages r0 told3 new r2 at h gps gcs t w.pages) is done;
    }

pub pair_in_node : (p : Pair) (place : Place) (old : Caching) (told told1 told2 told3 : Option Holding) (mid two new : Caching) (at i : ℕ) (ps ps2 gps : List Pair) (cs cs2 gcs : List ℕ) (ips : List Pair) (ics : List ℕ) (last : List Pair) (r0 r1 r2 : Room) → 0 < place.block_length → Gets place old told told1 mid at (node_with ps cs) → Branches ps cs → 0 < length cs → i ≤ length ps
    → begins_with p (drop i ps) ≡ true → TakesLast place mid told1 r0 (get_or cs i 0) told2 two r1 ips ics last → length last ≡ 1 → ps2 ≡ (take i ps ++ last) ++ drop (i + 1) ps → cs2 ≡ cs → Closes place two told2 r1 i ps2 cs2 ips ics told3 new r2 gps gcs → TakesPair p place old told r0 at told3 new r2 gps gcs
pair_in_node p place old told told1 told2 told3 mid two new at i ps ps2 gps cs cs2 gcs ips ics last r0 r1 r2 pos gets br some le found takes n is2 kids closes2 = λ m held h w e can sorted.
    let closes : Closes place two told2 r1 i ps2 cs ips ics told3 new r2 gps gcs = subst (λ (t : List ℕ). Closes place two told2 r1 i ps2 t ips ics told3 new r2 gps gcs) kids closes2 in
    let t = enters place old told told1 mid at i ps cs r0 pos gets br some le m held h w e can in
    let c = t.c in
    let q = takes t.now t.held t.k c.v c.walk (child_can place mid t.now t.k at w ps cs i (get_or cs i 0) r0 c t.still) in
    let ys : List Pair = q.0 in
    let pends = child_opens place mid t.now at t.k i w ps cs r0 r1 told2 two ips ics ys pos t.still c q.2 in
    let l = one_of last n in
    let b = begins_is p (drop i ps) found in
    let rest : drop (i + 1) ps ≡ b.1 = tail_of i ps b.0 b.1 b.2 in
    let f = front_of i ps last (drop (i + 1) ps) le in
    let takes2 : take i ps2 ≡ take i ps = ap (take i) is2 ∙ f.0 in
    let drops2 : drop i ps2 ≡ l.0 ∷ b.1 = ap (drop i) is2 ∙ f.1 ∙ ap (λ (t : List Pair). t ++ drop (i + 1) ps) l.1 ∙ ap (λ (t : List Pair). l.0 ∷ t) rest in
    let p0 = pends.0 in
    let o = other_behind (node_lent place two p0.now) t.k i ps cs b.0 l.0 b.1 ips ics ((c.part.x ++ ys) ++ c.part.z) p0.pages p0.opening b.2 in
    let z_is : c.part.z ≡ b.0 ∷ o.0 = sym pends.2 ∙ o.1 in
    let xs : List Pair = (c.part.x ++ ys) ++ l.0 ∷ o.0 in
    let pends2 : Pends place mid t.now w.pages r0 told2 two r1 at t.k i ps2 cs ips ics xs = record {
      now = p0.now;
      held = p0.held;
      pages = p0.pages;
      opening = subst (λ (f : List Pair). Opening (node_lent place two p0.now) t.k i ps2 cs ips ics (f ++ l.0 ∷ o.0) p0.pages) pends.1 (o.2 ps2 takes2 drops2);
      given = p0.given;
      changes = p0.changes;
      owned = p0.owned;
    } in
    let opened = closes_then place mid t.now at t.k i w ps2 gps cs gcs r0 r1 r2 told2 told3 two new ips ics xs pos t.still (child_here place mid t.now t.k at i w ps cs c) pends2 closes in
    let done = subst (λ (n : ℕ). Opened place old m w.pages r0 told3 new r2 at n gps gcs xs w.pages) (sym t.height) (opened_then place old m w.pages r0 mid t.now told3 new r2 at (suc t.k) gps gcs xs t.changes opened) in
    let y_is : c.part.y ≡ ys ++ l.0 ∷ [] = sym c.content_is ∙ q.1 ∙ ap (λ (t : List Pair). ys ++ t) l.1 in
    record {
      front = c.part.x ++ (ys ++ l.0 ∷ []);
      taken = b.0;
      back = o.0;
      was = c.part.content_is ∙ ap (λ (t : List Pair). (c.part.x ++ t) ++ c.part.z) y_is ∙ ap (λ (t : List Pair). (c.part.x ++ (ys ++ l.0 ∷ [])) ++ t) z_is;
      is = b.3;
      opened = subst (λ (t : List Pair). Opened place old m w.pages r0 told3 new r2 at h gps gcs t w.pages) (sym (append_assoc (c.part.x ++ ys) (l.0 ∷ []) o.0) ∙ ap (λ (t : List Pair). t ++ o.0) (append_assoc c.part.x ys (l.0 ∷ []))) done;
    }

pub none_below : (p : Pair) (place : Place) (old : Caching) (told told1 told2 : Option Holding) (mid two : Caching) (at i : ℕ) (ps : List Pair) (cs : List ℕ) (r0 : Room) → 0 < place.block_length → Gets place old told told1 mid at (node_with ps cs) → Branches ps cs → 0 < length cs → i ≤ length ps
    → AreBefore p (take i ps) → BeginsBehind p (drop i ps) → begins_with p (drop i ps) ≡ false → SeeksPair p place mid told1 r0 (get_or cs i 0) told2 two → SeeksPair p place old told r0 at told2 two
none_below p place old told told1 told2 mid two at i ps cs r0 pos gets br some le bef aft found seeks = λ m held h w e can sorted.
    let t = enters place old told told1 mid at i ps cs r0 pos gets br some le m held h w e can in
    let c = t.c in
    let part = c.part in
    let q = seeks t.now t.held t.k c.v c.walk (child_can place mid t.now t.k at w ps cs i (get_or cs i 0) r0 c t.still) (child_sorted (node_lent place mid t.now) t.k at w ps cs i (get_or cs i 0) c sorted) in
    let P : Pair → Type 0 = λ q. pair_cmp p q ≡ Equal → ⊥ in
    let sorted2 : IsStrictlySortedBy pair_cmp ((part.x ++ part.y) ++ part.z) = subst (λ (t : List Pair). IsStrictlySortedBy pair_cmp t) part.content_is sorted in
    let before : AreBefore p part.x = subst (λ (t : List Pair). AreBefore p t) part.left.content_is
    (lefts_before (contents part.left.walks) (take i ps) p (subst (λ (t : List Pair). IsStrictlySortedBy pair_cmp t) (sym part.left.content_is) (sorted_left part.x part.y (sorted_left (part.x ++ part.y) part.z sorted2))) bef) in
    let count : length (contents part.right.walks) ≡ length (drop i ps) = omega (arith, length-contents part.right.walks, each_length (walk_of (node_lent place mid t.now) t.k) (drop (suc i) cs) part.right.walks part.right.are, part.right.count) in
    let behind : BeginsBehind p part.z = subst (λ (t : List Pair). BeginsBehind p t) part.right.content_is (rights_behind (contents part.right.walks) (drop i ps) p count aft) in
    let first : begins_with p part.z ≡ false = ap (begins_with p) (sym part.right.content_is) ∙ rights_begin (contents part.right.walks) (drop i ps) p count found in
    let middle : AllByRecursion P part.y = subst (AllByRecursion P) c.content_is q.none in
    let all : AllByRecursion P ((part.x ++ part.y) ++ part.z) = all_both P (part.x ++ part.y) part.z (all_both P part.x part.y (none_before p part.x before) middle) (none_behind p part.z (sorted_back (part.x ++ part.y) part.z sorted2) behind first) in
    let b_is : Changes place mid t.now part.b r0 two q.now part.b r0 = subst (λ (t2 : List ℕ). Changes place mid t.now t2 r0 two q.now t2 r0) c.pages_are q.changes in
    let whole : w.pages ≡ at ∷ ((part.a ++ part.b) ++ part.c) = c.all_are ∙ ap (λ (t : List ℕ). at ∷ t) part.pages_are in
    let changes : Changes place mid t.now w.pages r0 two q.now w.pages r0 = subst (λ (t2 : List ℕ). Changes place mid t.now t2 r0 two q.now t2 r0) (sym whole) (change_part place mid t.now (at ∷ part.a) part.b part.c r0 two q.now part.b r0 b_is) in
    record {
      now = q.now;
      held = q.held;
      stays = stays_on old mid two m t.now q.now t.stays q.stays;
      changes = change_then place old m w.pages r0 mid t.now w.pages r0 two q.now w.pages r0 t.changes changes;
      none = subst (AllByRecursion P) (sym part.content_is) all;
    }

-- ---- the root

-- what a call that writes a root says
abbrev pub Plants : Place → Caching → Option Holding → Room → ℕ → List Pair → List ℕ → Option Holding → Caching → Room → Option ℕ → Type 0
Plants place cache told room at ps cs next new after root = (m : Holding) → told ≡ Some m → (height : ℕ) (xs : List Pair) (below : List ℕ) → StandFor (node_lent place cache m) height ps cs xs below → CanChange place cache m (at ∷ below) room
    → Planted place cache m (at ∷ below) room next new after root xs (at ∷ [])

-- a page without a pair is no root: its child is, or the tree has none
pub root_given : (place : Place) (cache : Caching) (told : Option Holding) (r0 r1 : Room) (at : ℕ) (ps : List Pair) (cs : List ℕ) (root : Option ℕ) → Gives place.block_length at r0 r1 → length ps ≡ 0 → (cs ≡ [] → root ≡ None) → ((c : ℕ) → cs ≡ c ∷ [] → root ≡ Some c) → Plants place cache told r0 at ps cs told cache r1 root
root_given place cache told r0 r1 at ps cs root gives none leaf node = λ m held h xs below stand can.
    record {
      now = m;
      held = held;
      pages = below;
      tree = by m h xs below stand;
      given = at ∷ [];
      changes = exchange_give place cache m [] below r0 r1 at can.current gives;
      owned = λ p here. here;
    }
  where
    by : (m : Holding) (h : ℕ) (xs : List Pair) (below : List ℕ) → StandFor (node_lent place cache m) h ps cs xs below → IsTree place cache m root xs below
    by m zero xs below s = subst (λ (r : Option ℕ). IsTree place cache m r xs below) (sym (leaf s.0)) (s.1 ∙ nil_of ps none, s.2)
    by m (suc h) xs below s =
        let l = one_of cs (omega (arith, s.count, none)) in
        let strip : IsStrip (node_lent place cache m) h (l.0 ∷ []) [] xs below = subst (λ (qs : List Pair). IsStrip (node_lent place cache m) h (l.0 ∷ []) qs xs below) (nil_of ps none) (subst (λ (t : List ℕ). IsStrip (node_lent place cache m) h t ps xs below) l.1 s) in
        let v = single (node_lent place cache m) h l.0 xs below strip in
        subst (λ (r : Option ℕ). IsTree place cache m r xs below) (sym (node l.0 l.1)) (h, v.0, v.1, sym v.2, sym v.3)

pub root_written : (place : Place) (cache : Caching) (told told1 told2 : Option Holding) (mid new : Caching) (r0 r1 r2 : Room) (at root : ℕ) (ps : List Pair) (cs sp : List ℕ) (ss : List Pair) → 0 < place.block_length → Fills place cache told r0 at ps cs told1 mid r1 sp ss → Raises place mid told1 r1 sp ss told2 new r2 root
    → Plants place cache told r0 at ps cs told2 new r2 (Some root)
root_written place cache told told1 told2 mid new r0 r1 r2 at root ps cs sp ss pos fills raises = λ m held h xs below stand can.
    let s = (fills m held h xs below stand can).settles in
    let still = can_still place cache m (at ∷ below) r0 mid s.now s.stands.pages r1 pos can s.stands.changes in
    let r = raises s.now s.held h xs s.stands.pages s.stands.strip still in
    record {
      now = r.now;
      held = r.held;
      pages = r.w.pages;
      tree = (r.height, r.w, r.walk, sym r.content_is, refl);
      given = [];
      changes = change_then place cache m (at ∷ below) r0 mid s.now s.stands.pages r1 new r.now r.w.pages r2 s.stands.changes r.changes;
      owned = λ p here. absurd (no_one p here);
    }

-- ---- the tree

pub taken_from : (p : Pair) (place : Place) (old : Caching) (told told1 told2 : Option Holding) (mid new : Caching) (r0 r1 r2 : Room) (at : ℕ) (top after : Option ℕ) (ps : List Pair) (cs : List ℕ) → 0 < place.block_length → TakesPair p place old told r0 at told1 mid r1 ps cs → Plants place mid told1 r1 at ps cs told2 new r2 after → top ≡ Some at
    → (m : Holding) → told ≡ Some m → (xs : List Pair) (pages : List ℕ) → IsTree place old m top xs pages → CanChange place old m pages r0 → IsStrictlySortedBy pair_cmp xs → (has_pair p xs ≡ true) × Removed place old m pages r0 told2 new r2 after (without_pair p xs)
taken_from p place old told told1 told2 mid new r0 r1 r2 at top after ps cs pos takes plants is m held xs pages tree can sorted =
    let t : IsTree place old m (Some at) xs pages = subst (λ (o : Option ℕ). IsTree place old m o xs pages) is tree in
    let h : ℕ = t.0 in
    let w : Walked = t.1 in
    let can2 : CanChange place old m w.pages r0 = subst (λ (ps : List ℕ). CanChange place old m ps r0) t.4 can in
    let q = takes m held h w t.2 can2 (subst (λ (ys : List Pair). IsStrictlySortedBy pair_cmp ys) t.3 sorted) in
    let o = q.opened in
    let still = exchange_can place old m w.pages r0 mid o.now (at ∷ o.below) r1 o.given pos can2 o.changes in
    let b = plants o.now o.held h (q.front ++ q.back) o.below o.stand still in
    let xs_are : xs ≡ q.front ++ q.taken ∷ q.back = t.3 ∙ q.was in
    let k = one_has p q.taken q.front q.back (subst (λ (ys : List Pair). IsStrictlySortedBy pair_cmp ys) xs_are sorted) q.is in
    let left : without_pair p xs ≡ q.front ++ q.back = ap (without_pair p) xs_are ∙ k.1 in (
      ap (has_pair p) xs_are ∙ k.0,
      record {
        now = b.now;
        held = b.held;
        pages = b.pages;
        tree = subst (λ (ys : List Pair). IsTree place new b.now after ys b.pages) (sym left) b.tree;
        given = o.given ++ b.given;
        changes = subst (λ (ps : List ℕ). Exchanges place old m ps r0 new b.now b.pages r2 (o.given ++ b.given)) (sym t.4) (exchange_then place old m w.pages r0 mid o.now (at ∷ o.below) r1 new b.now b.pages r2 o.given b.given o.changes b.changes);
        own = λ x here. subst (λ (ps : List ℕ). Contains ps x) (sym t.4) (elim (Contains-append_cases o.given b.given x here) [
          | inl a ↦ o.owned x a
          | inr c ↦ subst (λ (n : ℕ). Contains w.pages n) (only_one at x (b.owned x c)) (in_root (node_lent place old m) h at w t.2)
        ]);
      },
    )

pub none_from : (p : Pair) (place : Place) (old : Caching) (told told1 : Option Holding) (mid : Caching) (r0 r1 : Room) (at : ℕ) (top : Option ℕ) → SeeksPair p place old told r0 at told1 mid → top ≡ Some at → r1 ≡ r0
    → (m : Holding) → told ≡ Some m → (xs : List Pair) (pages : List ℕ) → IsTree place old m top xs pages → CanChange place old m pages r0 → IsStrictlySortedBy pair_cmp xs → (has_pair p xs ≡ false) × Removed place old m pages r0 told1 mid r1 top (without_pair p xs)
none_from p place old told told1 mid r0 r1 at top seeks is same m held xs pages tree can sorted =
    let t : IsTree place old m (Some at) xs pages = subst (λ (o : Option ℕ). IsTree place old m o xs pages) is tree in
    let h : ℕ = t.0 in
    let w : Walked = t.1 in
    let q = seeks m held h w t.2 (subst (λ (ps : List ℕ). CanChange place old m ps r0) t.4 can) (subst (λ (ys : List Pair). IsStrictlySortedBy pair_cmp ys) t.3 sorted) in
    let k = none_has p xs (subst (AllByRecursion (λ q. pair_cmp p q ≡ Equal → ⊥)) (sym t.3) q.none) in
    let still : IsTree place mid q.now top xs pages = subst (λ (o : Option ℕ). IsTree place mid q.now o xs pages) (sym is) (h, w, walk_stays place old m mid q.now h at w q.stays.lent t.2, t.3, t.4) in (
      k.0,
      record {
        now = q.now;
        held = q.held;
        pages = pages;
        tree = subst (λ (ys : List Pair). IsTree place mid q.now top ys pages) (sym k.1) still;
        given = [];
        changes = subst (λ (r : Room). Changes place old m pages r0 mid q.now pages r) (sym same) (subst (λ (ps : List ℕ). Changes place old m ps r0 mid q.now ps r0) (sym t.4) q.changes);
        own = λ x here. absurd (no_one x here);
      },
    )

-- where the pair is not there nothing was put
pub none_stays : (p : Pair) (place : Place) (old : Caching) (told told1 : Option Holding) (mid : Caching) (r0 : Room) (at : ℕ) (top : Option ℕ) → SeeksPair p place old told r0 at told1 mid → top ≡ Some at → Told told told1 (OthersStay old.name)
    → Told told told1 (λ m n. (xs : List Pair) (pages : List ℕ) → IsTree place old m top xs pages → CanChange place old m pages r0 → IsStrictlySortedBy pair_cmp xs → Stays old mid m n)
none_stays p place old told told1 mid r0 at top seeks is others = record {
  told = λ m held.
      let n = others.told m held in (
        n.0,
        n.1,
        λ xs pages tree can sorted.
            let t : IsTree place old m (Some at) xs pages = subst (λ (o : Option ℕ). IsTree place old m o xs pages) is tree in
            let q = seeks m held t.0 t.1 t.2 (subst (λ (ps : List ℕ). CanChange place old m ps r0) t.4 can) (subst (λ (ys : List Pair). IsStrictlySortedBy pair_cmp ys) t.3 sorted) in
            subst (λ (k : Holding). Stays old mid m k) (same_Some q.now n.0 (sym q.held ∙ n.1)) q.stays,
      );
  untold = others.untold;
}

-- where there is no tree
pub none_stays_empty : (place : Place) (old : Caching) (told : Option Holding) (r0 : Room) (top : Option ℕ)
    → Told told told (λ m n. (xs : List Pair) (pages : List ℕ) → IsTree place old m top xs pages → CanChange place old m pages r0 → IsStrictlySortedBy pair_cmp xs → Stays old old m n)
none_stays_empty place old told r0 top = told_same told told _ refl (λ m held xs pages tree can sorted. stays_start old m can.current)

pub none_at_all : (p : Pair) (place : Place) (old : Caching) (told : Option Holding) (r0 : Room) (top : Option ℕ) → top ≡ None
    → (m : Holding) → told ≡ Some m → (xs : List Pair) (pages : List ℕ) → IsTree place old m top xs pages → CanChange place old m pages r0 → (has_pair p xs ≡ false) × Removed place old m pages r0 told old r0 top (without_pair p xs)
none_at_all p place old told r0 top is m held xs pages tree can =
    let t : IsTree place old m None xs pages = subst (λ (o : Option ℕ). IsTree place old m o xs pages) is tree in
    let none : without_pair p xs ≡ xs = ap (without_pair p) t.0 ∙ sym t.0 in (
      ap (has_pair p) t.0,
      record {
        now = m;
        held = held;
        pages = pages;
        tree = subst (λ (ys : List Pair). IsTree place old m top ys pages) (sym none) tree;
        given = [];
        changes = change_none place old m pages r0 can.current;
        own = λ x here. absurd (no_one x here);
      },
    )

-- ---- where a page is missing

abbrev pub NeverLast : Place → Caching → Option Holding → Room → ℕ → Type 0
NeverLast place cache told room at = (m : Holding) → told ≡ Some m → (height : ℕ) (w : Walked) → walk_of (node_lent place cache m) height at ≡ Some w → CanChange place cache m w.pages room → ⊥

abbrev pub NeverCloses : Place → Caching → Option Holding → Room → ℕ → List Pair → List ℕ → List Pair → List ℕ → Type 0
NeverCloses place cache told room i ps cs ips ics = (m : Holding) → told ≡ Some m → (height at : ℕ) (xs : List Pair) (pages : List ℕ) → Opening (node_lent place cache m) height i ps cs ips ics xs pages → CanChange place cache m (at ∷ pages) room → ⊥

pub never_last_below : (place : Place) (old : Caching) (told told1 : Option Holding) (mid : Caching) (at i : ℕ) (ps : List Pair) (cs : List ℕ) (r0 : Room) → 0 < place.block_length → Gets place old told told1 mid at (node_with ps cs) → Branches ps cs → 0 < length cs → i ≤ length ps
    → NeverLast place mid told1 r0 (get_or cs i 0) → NeverLast place old told r0 at
never_last_below place old told told1 mid at i ps cs r0 pos gets br some le never = λ m held h w e can.
    let t = enters place old told told1 mid at i ps cs r0 pos gets br some le m held h w e can in
    never t.now t.held t.k t.c.v t.c.walk (child_can place mid t.now t.k at w ps cs i (get_or cs i 0) r0 t.c t.still)

pub never_last_closes : (place : Place) (old : Caching) (told told1 told2 : Option Holding) (mid two : Caching) (at i : ℕ) (ps : List Pair) (cs : List ℕ) (ips : List Pair) (ics : List ℕ) (last : List Pair) (r0 r1 : Room) → 0 < place.block_length → Gets place old told told1 mid at (node_with ps cs) → Branches ps cs → 0 < length cs → i ≤ length ps
    → TakesLast place mid told1 r0 (get_or cs i 0) told2 two r1 ips ics last → NeverCloses place two told2 r1 i ps cs ips ics → NeverLast place old told r0 at
never_last_closes place old told told1 told2 mid two at i ps cs ips ics last r0 r1 pos gets br some le takes never = λ m held h w e can.
    let t = enters place old told told1 mid at i ps cs r0 pos gets br some le m held h w e can in
    let q = takes t.now t.held t.k t.c.v t.c.walk (child_can place mid t.now t.k at w ps cs i (get_or cs i 0) r0 t.c t.still) in
    let p = child_opens place mid t.now at t.k i w ps cs r0 r1 told2 two ips ics q.0 pos t.still t.c q.2 in
    let still = exchange_can place mid t.now w.pages r0 two p.0.now (at ∷ p.0.pages) r1 p.0.given pos t.still p.0.changes in
    never p.0.now p.0.held t.k at ((t.c.part.x ++ q.0) ++ t.c.part.z) p.0.pages p.0.opening still

pub never_found_closes : (p : Pair) (place : Place) (old : Caching) (told told1 told2 : Option Holding) (mid two : Caching) (at i : ℕ) (ps ps2 : List Pair) (cs cs2 : List ℕ) (ips : List Pair) (ics : List ℕ) (last : List Pair) (r0 r1 : Room) → 0 < place.block_length → Gets place old told told1 mid at (node_with ps cs) → Branches ps cs → 0 < length cs → i ≤ length ps
    → begins_with p (drop i ps) ≡ true → TakesLast place mid told1 r0 (get_or cs i 0) told2 two r1 ips ics last → length last ≡ 1 → ps2 ≡ (take i ps ++ last) ++ drop (i + 1) ps → cs2 ≡ cs → NeverCloses place two told2 r1 i ps2 cs2 ips ics → NeverLast place old told r0 at
never_found_closes p place old told told1 told2 mid two at i ps ps2 cs cs2 ips ics last r0 r1 pos gets br some le found takes n is2 kids never2 = λ m held h w e can.
    let never : NeverCloses place two told2 r1 i ps2 cs ips ics = subst (λ (t : List ℕ). NeverCloses place two told2 r1 i ps2 t ips ics) kids never2 in
    let t = enters place old told told1 mid at i ps cs r0 pos gets br some le m held h w e can in
    let q = takes t.now t.held t.k t.c.v t.c.walk (child_can place mid t.now t.k at w ps cs i (get_or cs i 0) r0 t.c t.still) in
    let k = child_opens place mid t.now at t.k i w ps cs r0 r1 told2 two ips ics q.0 pos t.still t.c q.2 in
    let still = exchange_can place mid t.now w.pages r0 two k.0.now (at ∷ k.0.pages) r1 k.0.given pos t.still k.0.changes in
    let l = one_of last n in
    let b = begins_is p (drop i ps) found in
    let rest : drop (i + 1) ps ≡ b.1 = tail_of i ps b.0 b.1 b.2 in
    let f = front_of i ps last (drop (i + 1) ps) le in
    let takes2 : take i ps2 ≡ take i ps = ap (take i) is2 ∙ f.0 in
    let drops2 : drop i ps2 ≡ l.0 ∷ b.1 = ap (drop i) is2 ∙ f.1 ∙ ap (λ (t : List Pair). t ++ drop (i + 1) ps) l.1 ∙ ap (λ (t : List Pair). l.0 ∷ t) rest in
    let o = other_behind (node_lent place two k.0.now) t.k i ps cs b.0 l.0 b.1 ips ics ((t.c.part.x ++ q.0) ++ t.c.part.z) k.0.pages k.0.opening b.2 in
    never k.0.now k.0.held t.k at ((k.0.opening.x ++ k.0.opening.y) ++ l.0 ∷ o.0) k.0.pages (o.2 ps2 takes2 drops2) still

pub never_pair_closes : (p : Pair) (place : Place) (old : Caching) (told told1 told2 : Option Holding) (mid two : Caching) (at i : ℕ) (ps : List Pair) (cs : List ℕ) (ips : List Pair) (ics : List ℕ) (r0 r1 : Room) → 0 < place.block_length → Gets place old told told1 mid at (node_with ps cs) → Branches ps cs → 0 < length cs → i ≤ length ps
    → TakesPair p place mid told1 r0 (get_or cs i 0) told2 two r1 ips ics → NeverCloses place two told2 r1 i ps cs ips ics → Never place old told r0 at
never_pair_closes p place old told told1 told2 mid two at i ps cs ips ics r0 r1 pos gets br some le takes never = λ m held h w e can sorted.
    let t = enters place old told told1 mid at i ps cs r0 pos gets br some le m held h w e can in
    let q = takes t.now t.held t.k t.c.v t.c.walk (child_can place mid t.now t.k at w ps cs i (get_or cs i 0) r0 t.c t.still) (child_sorted (node_lent place mid t.now) t.k at w ps cs i (get_or cs i 0) t.c sorted) in
    let k = child_opens place mid t.now at t.k i w ps cs r0 r1 told2 two ips ics (q.front ++ q.back) pos t.still t.c q.opened in
    let still = exchange_can place mid t.now w.pages r0 two k.0.now (at ∷ k.0.pages) r1 k.0.given pos t.still k.0.changes in
    never k.0.now k.0.held t.k at ((t.c.part.x ++ (q.front ++ q.back)) ++ t.c.part.z) k.0.pages k.0.opening still

-- the page beside a child that has none
pub never_beside : (place : Place) (old : Caching) (told : Option Holding) (i beside : ℕ) (ps : List Pair) (cs : List ℕ) (ips : List Pair) (ics : List ℕ) (r0 : Room) → ((read : Places) (h : ℕ) (xs : List Pair) (pages : List ℕ) → Opening read h i ps cs ips ics xs pages → (v : Walked) × (walk_of read h beside ≡ Some v) × Contains pages beside)
    → ((m : Holding) → told ≡ Some m → CanGet old m beside place.block_length → node_lent place old m beside ≡ None) → NeverCloses place old told r0 i ps cs ips ics
never_beside place old told i beside ps cs ips ics r0 stands none = λ m held h at xs pages o can.
    let k = stands (node_lent place old m) h xs pages o in
    no_root (node_lent place old m) h beside k.0 k.1 (none m held (can_get place old m (at ∷ pages) r0 beside can (Contains-append_right (at ∷ []) pages beside k.2)))

pub never_uneven : (place : Place) (old : Caching) (told told1 : Option Holding) (mid : Caching) (i beside : ℕ) (ps : List Pair) (cs : List ℕ) (ips : List Pair) (ics : List ℕ) (ops : List Pair) (ocs : List ℕ) (r0 : Room) → Gets place old told told1 mid beside (node_with ops ocs) → Branches ops ocs
    → ((read : Places) (h : ℕ) (xs : List Pair) (pages : List ℕ) → Opening read h i ps cs ips ics xs pages → (v : Walked) × (walk_of read h beside ≡ Some v) × Contains pages beside) → (eqb (length ocs) 0 ≡ eqb (length ics) 0 → ⊥) → NeverCloses place old told r0 i ps cs ips ics
never_uneven place old told told1 mid i beside ps cs ips ics ops ocs r0 gets br stands uneven = λ m held h at xs pages o can.
    let k = stands (node_lent place old m) h xs pages o in
    let g = gets m held (at ∷ pages) r0 can (Contains-append_right (at ∷ []) pages beside k.2) in
    let b = page_below (node_lent place old m) h beside k.0 (node_with ops ocs) k.1 g.was br in
    uneven (same_shape (node_lent place old m) h ops ips ocs ics (content k.0) o.y b.0 o.below b.1 o.middle)

-- ---- what can be written

pub can_hold : (rec_ref : ℕ) (ps : List Pair) (cs : List ℕ) → CanWrite rec_ref ps cs → CanHold rec_ref ps cs
can_hold rec_ref ps cs can = record { rows = can.rows; keys = can.keys; places = can.places; branches = can.branches }

pub hold_some : (rec_ref : ℕ) (ps : List Pair) (cs : List ℕ) → CanHold rec_ref ps cs → 0 < length ps → CanWrite rec_ref ps cs
hold_some rec_ref ps cs can some = record { some = some; rows = can.rows; keys = can.keys; places = can.places; branches = can.branches }

all_one : (P : Pair → Type 0) (i : ℕ) (ps : List Pair) (d : Pair) → i < length ps → AllByRecursion P ps → P (get_or ps i d)
all_one P i ps d lt all = (subst (AllByRecursion P) (drop-cons ps i d lt) (all_drop P i ps all)).0

pub leaf_holds : (rec_ref i : ℕ) (ps gps : List Pair) (cs gcs : List ℕ) → CanWrite rec_ref ps cs → gps ≡ take i ps ++ drop (i + 1) ps → gcs ≡ [] → CanHold rec_ref gps gcs
leaf_holds rec_ref i ps gps cs gcs can is none =
    let R : Pair → Type 0 = λ p. p.row < 256 ^ rec_ref in
    let K : Pair → Type 0 = λ p. IsKey p.key in
    record {
      rows = subst (AllByRecursion R) (sym is) (all_both R (take i ps) (drop (i + 1) ps) (all_take R i ps can.rows) (all_drop R (i + 1) ps can.rows));
      keys = subst (AllByRecursion K) (sym is) (all_both K (take i ps) (drop (i + 1) ps) (all_take K i ps can.keys) (all_drop K (i + 1) ps can.keys));
      places = subst (AllByRecursion IsPlace) (sym none) tt;
      branches = inl none;
    }

pub one_holds : (rec_ref i : ℕ) (ps : List Pair) (cs : List ℕ) (last : List Pair) → CanWrite rec_ref ps cs → i < length ps → last ≡ get_or ps i no_pair ∷ [] → IsOnePair rec_ref last
one_holds rec_ref i ps cs last can lt is =
    let R : Pair → Type 0 = λ p. p.row < 256 ^ rec_ref in
    let K : Pair → Type 0 = λ p. IsKey p.key in
    record {
      one = ap length is;
      rows = subst (AllByRecursion R) (sym is) (all_one R i ps no_pair lt can.rows, tt);
      keys = subst (AllByRecursion K) (sym is) (all_one K i ps no_pair lt can.keys, tt);
    }

-- a node with another pair in the place of one
pub other_holds : (rec_ref i : ℕ) (ps ps2 : List Pair) (cs cs2 : List ℕ) (last : List Pair) → CanWrite rec_ref ps cs → i < length ps → IsOnePair rec_ref last → ps2 ≡ (take i ps ++ last) ++ drop (i + 1) ps → cs2 ≡ cs → CanWrite rec_ref ps2 cs2
other_holds rec_ref i ps ps2 cs cs2 last can lt one is kids =
    let R : Pair → Type 0 = λ p. p.row < 256 ^ rec_ref in
    let K : Pair → Type 0 = λ p. IsKey p.key in
    let n : length ps2 ≡ length ps = omega (arith, ap length is, length-append (take i ps ++ last) (drop (i + 1) ps), length-append (take i ps) last, length-take i ps, length-drop (i + 1) ps, one.one) in
    record {
      some = omega (arith, n);
      rows = subst (AllByRecursion R) (sym is) (all_both R (take i ps ++ last) (drop (i + 1) ps) (all_both R (take i ps) last (all_take R i ps can.rows) one.rows) (all_drop R (i + 1) ps can.rows));
      keys = subst (AllByRecursion K) (sym is) (all_both K (take i ps ++ last) (drop (i + 1) ps) (all_both K (take i ps) last (all_take K i ps can.keys) one.keys) (all_drop K (i + 1) ps can.keys));
      places = subst (AllByRecursion IsPlace) (sym kids) can.places;
      branches = subst (λ (t : List ℕ). Branches ps2 t) (sym kids) (by can.branches n);
    }
  where
    by : Branches ps cs → length ps2 ≡ length ps → Branches ps2 cs
    by (inl none) n = inl none
    by (inr k) n = inr (omega (arith, k, n))

-- what stands on two pages of one kind, and a pair between it
pub both_hold : (rec_ref i : ℕ) (ps ls rs bps : List Pair) (cs lcs rcs bcs : List ℕ) → CanWrite rec_ref ps cs → i < length ps → CanHold rec_ref ls lcs → CanHold rec_ref rs rcs → (eqb (length lcs) 0 ≡ eqb (length rcs) 0) → bps ≡ ls ++ get_or ps i no_pair ∷ rs → bcs ≡ lcs ++ rcs → CanWrite rec_ref bps bcs
both_hold rec_ref i ps ls rs bps cs lcs rcs bcs can lt l r even is kids =
    let R : Pair → Type 0 = λ p. p.row < 256 ^ rec_ref in
    let K : Pair → Type 0 = λ p. IsKey p.key in
    record {
      some = omega (arith, ap length is, length-append ls (get_or ps i no_pair ∷ rs));
      rows = subst (AllByRecursion R) (sym is) (all_both R ls (get_or ps i no_pair ∷ rs) l.rows (all_one R i ps no_pair lt can.rows, r.rows));
      keys = subst (AllByRecursion K) (sym is) (all_both K ls (get_or ps i no_pair ∷ rs) l.keys (all_one K i ps no_pair lt can.keys, r.keys));
      places = subst (AllByRecursion IsPlace) (sym kids) (all_both IsPlace lcs rcs l.places r.places);
      branches = by l.branches r.branches;
    }
  where
    by : Branches ls lcs → Branches rs rcs → Branches bps bcs
    by (inl a) (inl b) = inl (kids ∙ ap (λ (t : List ℕ). t ++ rcs) a ∙ b)
    by (inl a) (inr b) = absurd (let k : eqb (length rcs) 0 ≡ true = sym even ∙ ap (λ (t : List ℕ). eqb (length t) 0) a in let z = eqb-true (length rcs) 0 k in omega (arith, b, z))
    by (inr a) (inl b) = absurd (let k : eqb (length lcs) 0 ≡ true = even ∙ ap (λ (t : List ℕ). eqb (length t) 0) b in let z = eqb-true (length lcs) 0 k in omega (arith, a, z))
    by (inr a) (inr b) = inr (omega (arith, ap length kids, length-append lcs rcs, ap length is, length-append ls (get_or ps i no_pair ∷ rs), a, b))

-- a node with trees in the place of two of its children
pub joint_holds : (rec_ref i beside : ℕ) (ps gps : List Pair) (cs gcs sp : List ℕ) (ss : List Pair) → CanWrite rec_ref ps cs → 0 < length cs → i < length ps → IsStripOf rec_ref beside sp ss → gps ≡ (take i ps ++ ss) ++ drop (i + 1) ps → gcs ≡ (take i cs ++ sp) ++ drop (i + 2) cs → CanHold rec_ref gps gcs
joint_holds rec_ref i beside ps gps cs gcs sp ss can some lt strip is gis =
    let R : Pair → Type 0 = λ p. p.row < 256 ^ rec_ref in
    let K : Pair → Type 0 = λ p. IsKey p.key in
    let count : length cs ≡ suc (length ps) = by can.branches in
    record {
      rows = subst (AllByRecursion R) (sym is) (all_both R (take i ps ++ ss) (drop (i + 1) ps) (all_both R (take i ps) ss (all_take R i ps can.rows) strip.rows) (all_drop R (i + 1) ps can.rows));
      keys = subst (AllByRecursion K) (sym is) (all_both K (take i ps ++ ss) (drop (i + 1) ps) (all_both K (take i ps) ss (all_take K i ps can.keys) strip.keys) (all_drop K (i + 1) ps can.keys));
      places = subst (AllByRecursion IsPlace) (sym gis) (all_both IsPlace (take i cs ++ sp) (drop (i + 2) cs) (all_both IsPlace (take i cs) sp (all_take IsPlace i cs can.places) strip.named) (all_drop IsPlace (i + 2) cs can.places));
      branches = inr (omega (arith, ap length is, length-append (take i ps ++ ss) (drop (i + 1) ps), length-append (take i ps) ss, length-take i ps, length-drop (i + 1) ps, ap length gis, length-append (take i cs ++ sp) (drop (i + 2) cs), length-append (take i cs) sp, length-take i cs, length-drop (i + 2) cs, count, strip.count));
    }
  where
    by : Branches ps cs → length cs ≡ suc (length ps)
    by (inl none) = absurd (omega (arith, ap length none))
    by (inr k) = k

-- ---- the child beside another one

pub beside_stands : (i beside : ℕ) (ps : List Pair) (cs : List ℕ) (ips : List Pair) (ics : List ℕ) → length cs ≡ suc (length ps) → i ≤ length ps → 0 < length ps → (i ≡ 0 → beside ≡ get_or cs 1 0) → ((left : ℕ) → i ≡ suc left → beside ≡ get_or cs left 0)
    → (read : Places) (h : ℕ) (xs : List Pair) (pages : List ℕ) → Opening read h i ps cs ips ics xs pages → (v : Walked) × (walk_of read h beside ≡ Some v) × Contains pages beside
beside_stands zero beside ps cs ips ics count le some first second = λ read h xs pages o. next_stands read h zero beside ps cs ips ics xs pages o (omega arith) (omega (arith, count)) (first refl)
beside_stands (suc left) beside ps cs ips ics count le some first second = λ read h xs pages o. last_stands read h left beside ps cs ips ics xs pages o (omega arith) (omega (arith, count)) (second left refl)

-- what is to stand there
abbrev pub AreBoth : ℕ → ℕ → List Pair → List Pair → List ℕ → List Pair → List ℕ → List Pair → List ℕ → Type 0
AreBoth i left ps ips ics ops ocs bps bcs = (left ≡ i → (bps ≡ ips ++ get_or ps left no_pair ∷ ops) × (bcs ≡ ics ++ ocs)) × ((left ≡ i → ⊥) → (bps ≡ ops ++ get_or ps left no_pair ∷ ips) × (bcs ≡ ocs ++ ics))

pub beside_joint : (i left beside : ℕ) (ps : List Pair) (cs : List ℕ) (ips : List Pair) (ics : List ℕ) (ops : List Pair) (ocs : List ℕ) (bps : List Pair) (bcs : List ℕ) → length cs ≡ suc (length ps) → i ≤ length ps → 0 < length ps → left ≡ i - 1 → (i ≡ 0 → beside ≡ get_or cs 1 0) → ((left : ℕ) → i ≡ suc left → beside ≡ get_or cs left 0) → AreBoth i left ps ips ics ops ocs bps bcs → length ips ≡ 0 → Branches ops ocs
    → (read : Places) (h : ℕ) (xs : List Pair) (pages : List ℕ) → Opening read h i ps cs ips ics xs pages → read beside ≡ Some (node_with ops ocs) → Joint read h left ps cs (get_or cs i 0) beside bps bcs xs pages
beside_joint zero left beside ps cs ips ics ops ocs bps bcs count le some is first second both none br = λ read h xs pages o there.
    let zero_is : left ≡ zero = omega (arith, is) in
    let b = both.0 zero_is in
    let j = joint_right read h zero beside ps cs (get_or ps zero no_pair) ips ics ops ocs xs pages o (omega arith) (omega (arith, count)) refl (first refl) there br (nil_of ips none) in
    let b2 : bps ≡ ips ++ get_or ps zero no_pair ∷ ops = b.0 ∙ ap (λ (n : ℕ). ips ++ get_or ps n no_pair ∷ ops) zero_is in
    subst (λ (n : ℕ). Joint read h n ps cs (get_or cs zero 0) beside bps bcs xs pages) (sym zero_is) (subst (λ (t : List Pair). Joint read h zero ps cs (get_or cs zero 0) beside t bcs xs pages) (sym b2) (subst (λ (t : List ℕ). Joint read h zero ps cs (get_or cs zero 0) beside (ips ++ get_or ps zero no_pair ∷ ops) t xs pages) (sym b.1) j))
beside_joint (suc k) left beside ps cs ips ics ops ocs bps bcs count le some is first second both none br = λ read h xs pages o there.
    let k_is : left ≡ k = omega (arith, is) in
    let b = both.1 (λ e. omega (arith, is, e)) in
    let j = joint_left read h k beside ps cs (get_or ps k no_pair) ips ics ops ocs xs pages o (omega arith) (omega (arith, count)) refl (second k refl) there br in
    let b2 : bps ≡ ops ++ get_or ps k no_pair ∷ ips = b.0 ∙ ap (λ (n : ℕ). ops ++ get_or ps n no_pair ∷ ips) k_is in
    subst (λ (n : ℕ). Joint read h n ps cs (get_or cs (suc k) 0) beside bps bcs xs pages) (sym k_is) (subst (λ (t : List Pair). Joint read h k ps cs (get_or cs (suc k) 0) beside t bcs xs pages) (sym b2) (subst (λ (t : List ℕ). Joint read h k ps cs (get_or cs (suc k) 0) beside (ops ++ get_or ps k no_pair ∷ ips) t xs pages) (sym b.1) j))

pub beside_holds : (rec_ref i left : ℕ) (ps : List Pair) (cs : List ℕ) (ips : List Pair) (ics : List ℕ) (ops : List Pair) (ocs : List ℕ) (bps : List Pair) (bcs : List ℕ) → CanWrite rec_ref ps cs → i ≤ length ps → left ≡ i - 1 → CanHold rec_ref ips ics → CanWrite rec_ref ops ocs → (eqb (length ocs) 0 ≡ eqb (length ics) 0) → AreBoth i left ps ips ics ops ocs bps bcs → CanWrite rec_ref bps bcs
beside_holds rec_ref zero left ps cs ips ics ops ocs bps bcs can le is inner other even both =
    let b = both.0 (omega (arith, is)) in
    both_hold rec_ref left ps ips ops bps cs ics ocs bcs can (let k = can.some in omega (arith, is)) inner (can_hold rec_ref ops ocs other) (sym even) b.0 b.1
beside_holds rec_ref (suc k) left ps cs ips ics ops ocs bps bcs can le is inner other even both =
    let b = both.1 (λ e. omega (arith, is, e)) in
    both_hold rec_ref left ps ops ips bps cs ocs ics bcs can (let k = can.some in omega (arith, is)) (can_hold rec_ref ops ocs other) inner even b.0 b.1

pub branching : (rec_ref : ℕ) (ps : List Pair) (cs : List ℕ) → CanWrite rec_ref ps cs → 0 < length cs → length cs ≡ suc (length ps)
branching rec_ref ps cs can some = by can.branches
  where
    by : Branches ps cs → length cs ≡ suc (length ps)
    by (inl none) = absurd (omega (arith, ap length none))
    by (inr k) = k

pub same_flag : (a b : Bool) → not (beq a b) ≡ false → a ≡ b
same_flag true true e = refl
same_flag true false e = absurd cc
same_flag false true e = absurd cc
same_flag false false e = refl

pub other_flag : (a b : Bool) → not (beq a b) ≡ true → a ≡ b → ⊥
other_flag true true e is = absurd cc
other_flag true false e is = absurd cc
other_flag false true e is = absurd cc
other_flag false false e is = absurd cc

-- the child is a multiple of 1024, and is the one that is given
pub place_whole : (i : ℕ) (cs : List ℕ) (child : ℕ) → AllByRecursion IsPlace cs → i < length cs → child ≡ get_or cs i child → child % 1024 ≡ 0
place_whole i cs child all lt is = subst (λ (n : ℕ). n % 1024 ≡ 0) (sym is) ((subst (AllByRecursion IsPlace) (drop-cons cs i child lt) (all_drop IsPlace i cs all)).0.0)

pub given_child : (block i : ℕ) (cs : List ℕ) (child : ℕ) (r0 r1 : Room) → i < length cs → child ≡ get_or cs i child → Gives block child r0 r1 → Gives block (get_or cs i 0) r0 r1
given_child block i cs child r0 r1 lt is gives = subst (λ (n : ℕ). Gives block n r0 r1) (is ∙ same_default cs i child 0 lt) gives

pub other_inside : (rec_ref i : ℕ) (ps ps2 last : List Pair) → i < length ps → IsOnePair rec_ref last → ps2 ≡ (take i ps ++ last) ++ drop (i + 1) ps → i ≤ length ps2
other_inside rec_ref i ps ps2 last lt one is = omega (arith, ap length is, length-append (take i ps ++ last) (drop (i + 1) ps), length-append (take i ps) last, length-take i ps, length-drop (i + 1) ps, one.one)
