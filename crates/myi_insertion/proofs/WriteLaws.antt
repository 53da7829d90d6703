-- Writing a part of a list of pairs as a page.
use Rattle.std.proofs.Common.{◌≡◌, ℕ, zero, suc, ◌+◌, ◌-◌, ◌%◌, ◌^◌, ◌<◌, ◌≤◌, Bool, not, eqb, Some, List, [], ◌∷◌, length, take, drop, refl, sym, ap, subst, ◌∙◌, arith, inl, inr}
use Rattle.std.specs.List.{AllByRecursion, Contains}
use Rattle.std.proofs.lemmas.Bool.{eq-eqb, lt-ltb, ne_eqb}
use Rattle.std.proofs.lemmas.List.{length-drop, length-take, take_all, take-append-drop}
use Rattle.myi_base.specs.Holding.{Holding, Told, OthersStay}
use Rattle.myi_keypage.specs.declared.entry.Entry.{Entry}
use Rattle.myi_keypage.specs.Page.{page_with, is_node, IsPlace, IsBranching}
use Rattle.myi_keypage.specs.Fitting.{used_length}
use Rattle.myi_keypage.proofs.CallerLemmas.{page_writable}
use Rattle.myi_keycache.specs.Kept.{AddsOnly}
use Rattle.myi_keycache.specs.Caching.{pages_of, Caching, lends, CanPut, Puts}
use Rattle.myi_keys.specs.Limits.{IsKey}
use Rattle.myi_keylist.specs.declared.pair.Pair.{Pair}
use Rattle.myi_btree.specs.declared.place.Place.{Place}
use Rattle.myi_btree.specs.declared.place.Room.{Room}
use Rattle.myi_btree.specs.Walk.{Node, node_with}
use Rattle.myi_btree.specs.Nodes.{entry_of, entries_of, page_of_node, node_in}
use Rattle.myi_btree.specs.Building.{whole_page, page_for, IsWritten}
use Rattle.myi_btree.specs.CachedTrees.{node_lent}
use Rattle.myi_btree.specs.Sizes.{IsPlaced}
use Rattle.myi_insertion.specs.Strips.{Branches}
use Rattle.myi_insertion.specs.Covers.{within}
use Rattle.myi_insertion.specs.Written.{CanWrite}
use Rattle.myi_insertion.specs.CachedChanges.{CanChange}
use Rattle.myi_insertion.specs.Steps.{Wrote}
use Rattle.myi_insertion.proofs.FrameLaws.{all_left, all_right}
use Rattle.myi_insertion.proofs.CoverLaws.{ranges_apart}
use Rattle.myi_insertion.proofs.CachedLaws.{change_put, can_put}

pub entries-take : (n : ℕ) (ps : List Pair) → entries_of (take n ps) ≡ take n (entries_of ps)
entries-take zero ps = refl
entries-take (suc n) [] = refl
entries-take (suc n) (p ∷ ps) = ap (λ (t : List Entry). entry_of p ∷ t) (entries-take n ps)

pub entries-drop : (n : ℕ) (ps : List Pair) → entries_of (drop n ps) ≡ drop n (entries_of ps)
entries-drop zero ps = refl
entries-drop (suc n) [] = refl
entries-drop (suc n) (p ∷ ps) = entries-drop n ps

pub length-entries : (ps : List Pair) → length (entries_of ps) ≡ length ps
length-entries [] = refl
length-entries (p ∷ ps) = ap suc (length-entries ps)

-- the entries of a part of a list of pairs, and of all from a place on
pub part_is : (count start : ℕ) (pairs : List Pair) → take count (drop start (entries_of pairs)) ≡ entries_of (take count (drop start pairs))
part_is count start pairs = ap (take count) (sym (entries-drop start pairs)) ∙ sym (entries-take count (drop start pairs))

pub rest_is : (count start : ℕ) (pairs : List Pair) → count ≡ length pairs - start → take count (drop start (entries_of pairs)) ≡ entries_of (drop start pairs)
rest_is count start pairs e = part_is count start pairs ∙ ap entries_of (take_all count (drop start pairs) (omega (arith, e, length-drop start pairs)))

pub page_is : (place : Place) (node : Node) → whole_page place (page_of_node node) ≡ page_for place node
unfolding page_for
page_is place node = refl

rows_are : (bound : ℕ) (ps : List Pair) → AllByRecursion (λ (p : Pair). p.row < bound) ps → AllByRecursion (λ (e : Entry). e.row < bound) (entries_of ps)
rows_are bound [] all = tt
rows_are bound (p ∷ ps) all = (all.0, rows_are bound ps all.1)

branching_is : (ps : List Pair) (cs : List ℕ) → Branches ps cs → IsBranching (page_with (entries_of ps) cs)
branching_is ps [] b = tt
branching_is ps (c ∷ cs) (inl none) = absurd (omega (arith, ap length none))
branching_is ps (c ∷ cs) (inr n) = omega (arith, n, length-entries ps)

pub node_flag : (es : List Entry) (cs : List ℕ) → is_node (page_with es cs) ≡ not (eqb (length cs) 0)
node_flag es [] = refl
node_flag es (c ∷ cs) = lt-ltb 0 (suc (length cs)) (omega arith) ∙ ap not (sym (ne_eqb (suc (length cs)) 0 (λ e. omega arith)))

-- pairs that fit can be written
pub can_be_written : (place : Place) (node : Bool) (ps : List Pair) (cs : List ℕ) → IsPlaced place → CanWrite place.rec_ref ps cs → node ≡ not (eqb (length cs) 0) → used_length place.rec_ref node (entries_of ps) ≤ place.block_length → IsWritten place (node_with ps cs)
can_be_written place node ps cs placed can flag fits =
    let branching = branching_is ps cs can.branches in
    let used : used_length place.rec_ref (is_node (page_with (entries_of ps) cs)) (entries_of ps) ≤ place.block_length = subst (λ (b : Bool). used_length place.rec_ref b (entries_of ps) ≤ place.block_length) (flag ∙ sym (node_flag (entries_of ps) cs)) fits in
    record {
      page = page_writable place.rec_ref (page_with (entries_of ps) cs) branching (omega (arith, length-entries ps, can.some)) (rows_are (256 ^ place.rec_ref) ps can.rows) can.places (let m = placed.most in omega arith);
      branching = branching;
      keys = can.keys;
      fits = used;
    }

pub all_take : {A : Type 0} (P : A → Type 0) (n : ℕ) (xs : List A) → AllByRecursion P xs → AllByRecursion P (take n xs)
all_take P n xs all = all_left P (take n xs) (drop n xs) (subst (λ t. AllByRecursion P t) (sym (take-append-drop n xs)) all)

pub all_drop : {A : Type 0} (P : A → Type 0) (n : ℕ) (xs : List A) → AllByRecursion P xs → AllByRecursion P (drop n xs)
all_drop P n xs all = all_right P (take n xs) (drop n xs) (subst (λ t. AllByRecursion P t) (sym (take-append-drop n xs)) all)

-- so can the first of them, and those behind the one that is set aside
pub front_written : (rec_ref n : ℕ) (ps : List Pair) (cs : List ℕ) → CanWrite rec_ref ps cs → 0 < n → n + 1 < length ps → CanWrite rec_ref (take n ps) (take (suc n) cs)
front_written rec_ref n ps cs can some more = record {
  some = omega (arith, length-take n ps);
  rows = all_take (λ (p : Pair). p.row < 256 ^ rec_ref) n ps can.rows;
  keys = all_take (λ (p : Pair). IsKey p.key) n ps can.keys;
  places = all_take IsPlace (suc n) cs can.places;
  branches = by can.branches;
}
  where
    by : Branches ps cs → Branches (take n ps) (take (suc n) cs)
    by (inl none) = inl (ap (take (suc n)) none)
    by (inr k) = inr (omega (arith, k, length-take n ps, length-take (suc n) cs))

pub rest_written : (rec_ref n : ℕ) (ps : List Pair) (cs : List ℕ) → CanWrite rec_ref ps cs → n + 1 < length ps → CanWrite rec_ref (drop (suc n) ps) (drop (suc n) cs)
rest_written rec_ref n ps cs can more = record {
  some = omega (arith, length-drop (suc n) ps);
  rows = all_drop (λ (p : Pair). p.row < 256 ^ rec_ref) (suc n) ps can.rows;
  keys = all_drop (λ (p : Pair). IsKey p.key) (suc n) ps can.keys;
  places = all_drop IsPlace (suc n) cs can.places;
  branches = by can.branches;
}
  where
    by : Branches ps cs → Branches (drop (suc n) ps) (drop (suc n) cs)
    by (inl none) = inl (ap (drop (suc n)) none)
    by (inr k) = inr (omega (arith, k, length-drop (suc n) ps, length-drop (suc n) cs))

node_there : (place : Place) (cache : Caching) (m : Holding) (at : ℕ) (bytes : List ℕ) (node : Node) → at % 1024 ≡ 0 → lends cache m at place.block_length ≡ Some bytes → node_in place.rec_ref bytes ≡ Some node → node_lent place cache m at ≡ Some node
unfolding node_lent
node_there place cache m at bytes node whole lent read = rw (eq-eqb (at % 1024) 0 whole, lent) read

-- a put of a page of these
pub wrote : (place : Place) (old : Caching) (m : Holding) (pages : List ℕ) (room : Room) (told next : _) (new : Caching) (at : ℕ) (bytes : List ℕ) (node : Node) → IsPlaced place → told ≡ Some m → at % 1024 ≡ 0 → length bytes ≡ place.block_length → node_in place.rec_ref bytes ≡ Some node
    → Told told next (λ m n. CanPut old m at (length bytes) → Puts at bytes old new m n) → Told told next (OthersStay old.name) → AddsOnly at (length bytes) (pages_of old) (pages_of new) → new.name ≡ old.name
    → CanChange place old m pages room → Contains pages at → Wrote place old m pages room next new at node
wrote place old m pages room told next new at bytes node placed held whole long read put others added name can here =
    let pos : 0 < place.block_length = let l = placed.least in omega arith in
    let t = put.told m held in
    let o = others.told m held in
    let same : o.0 ≡ t.0 = same_some (sym o.1 ∙ t.1) in
    let puts : Puts at bytes old new m t.0 = t.2 (can_put place old m pages room at (length bytes) long can here) in
    record {
      now = t.0;
      held = t.1;
      changes = change_put place old m pages room new t.0 at bytes pos long here puts added name (subst (λ (n : Holding). OthersStay old.name m n) same o.2);
      spares = λ p len x some off e. puts.lent p len x (ranges_apart p len at (length bytes) some (omega (arith, long)) (λ b. let k = off b in let w = ap (λ (t : ℕ). within at t b) long in omega arith)) e;
      there = node_there place new t.0 at bytes node whole (ap (lends new t.0 at) (sym long) ∙ puts.there) read;
    }
  where
    same_some : {x y : Holding} → Some x ≡ Some y → x ≡ y
    same_some e = cc
