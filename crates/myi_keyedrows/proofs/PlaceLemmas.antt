-- The roots of the trees and the first deleted block are places that a pointer of eight bytes can have.
use Rattle.std.proofs.Common.{◌≡◌, ◌≢◌, ℕ, zero, suc, ◌+◌, ◌-◌, ◌^◌, ◌<◌, ◌≤◌, Bool, true, ◌&&◌, cond, ltb, List, [], ◌∷◌, ◌++◌, length, map, Option, Some, None, refl, sym, ap, subst, ◌∙◌, arith}
use Rattle.std.specs.Prelude.{nat_le, nat_lt}
use Rattle.std.specs.List.{AllByRecursion, flat_map}
use Rattle.std.proofs.lemmas.Bool.{and_parts, leb-true}
use Rattle.std.proofs.lemmas.Option.{same_Some, cond_some}
use Rattle.myi_base.specs.Ranges.{Range}
use Rattle.myi_base.specs.Holding.{Holding, bytes_of}
use Rattle.myi_defs.specs.declared.types.Defs.{Defs}
use Rattle.myi_defs.specs.Sound.{IsSound}
use Rattle.myi_defs.specs.Addressable.{pointers, is_addressable}
use Rattle.myi_header.specs.Layout.{first_page_of}
use Rattle.myi_header.specs.StateOf.{IsPlace}
use Rattle.myi_keycache.specs.Kept.{AllWritten}
use Rattle.myi_keycache.specs.Caching.{pages_of}
use Rattle.myi_btree.specs.declared.place.Place.{Place}
use Rattle.myi_btree.specs.Walk.{◌>>=◌, each, Places, Node, Walked, as_leaf, at_node, walk_of}
use Rattle.myi_btree.specs.Nodes.{node_at}
use Rattle.myi_btree.specs.Sizes.{IsPlaced}
use Rattle.myi_btree.proofs.CallerLemmas.{bind_some}
use Rattle.myi_dellist.specs.Areas.{Area, AreInside}
use Rattle.myi_dellist.specs.Standing.{first_or}
use Rattle.myi_dellist.proofs.CallerLemmas.{tile-inside}
use Rattle.myi_state.specs.declared.counts.Counts.{Counts}
use Rattle.myi_state.specs.State.{TableState, row_areas}
use Rattle.myi_state.specs.Sound.{IsState}
use Rattle.myi_state.specs.Numbers.{counts_of}
use Rattle.myi_state.proofs.CallerLemmas.{state-bytes}
use Rattle.myi_keytrees.specs.InFile.{pages_on, HasWalkApart, HaveWalks, EndAt}
use Rattle.myi_keytrees.proofs.CallerLemmas.{stand_in}
use Rattle.myi_rowtrees.specs.RowLists.{lists_of}
use Rattle.myi_keyedrows.specs.declared.keyed_rows.KeyedRows.{KeyedRows}
use Rattle.myi_keyedrows.specs.KeyedRows.{defs_of}
use Rattle.myi_keyedrows.specs.Files.{HoldFiles}

-- ---- the first page of a walk

leaf_pages : (place : ℕ) (node : Node) (cs : List ℕ) (w : Walked) → as_leaf place node cs ≡ Some w → w.pages ≡ place ∷ []
leaf_pages place node [] w e = ap (λ (v : Walked). v.pages) (sym (same_Some _ w e))
leaf_pages place node (c ∷ cs) w e = absurd cc

first_page_has : (P : ℕ → Type 0) (read : Places) (h place : ℕ) (w : Walked) → walk_of read h place ≡ Some w → AllByRecursion P w.pages → P place
first_page_has P read zero place w e all =
    let a = bind_some (read place) (λ node. as_leaf place node node.children) w e in
    (subst (λ (t : List ℕ). AllByRecursion P t) (leaf_pages place a.0 a.0.children w a.2) all).0
first_page_has P read (suc h) place w e all =
    let a = bind_some (read place) (λ node. each (walk_of read h) node.children >>= λ ws. cond (ltb 0 (length node.children)) (Some (at_node place node ws)) None) w e in
    let b = bind_some (each (walk_of read h) a.0.children) (λ ws. cond (ltb 0 (length a.0.children)) (Some (at_node place a.0 ws)) None) w a.2 in
    let g = cond_some _ _ _ b.2 in
    (subst (λ (t : Walked). AllByRecursion P t.pages) (sym g.1) all).0

root_place : (p : Place) (file : List ℕ) (root : Option ℕ) (busy : List Range) (w : Walked) (end : ℕ) → 0 < p.block_length → end < 2 ^ 64 → HasWalkApart p file root busy w → AllByRecursion (λ q. q + p.block_length ≤ end) w.pages → IsPlace root
root_place p file None busy w end some small has all = λ e. absurd cc
root_place p file (Some root) busy w end some small has all = λ e.
    let head = first_page_has (λ q. q + p.block_length ≤ end) (node_at p.rec_ref p.block_length file) has.0.height root w has.0.walk all in
    let is : root ≡ 2 ^ 64 - 1 = same_Some root (2 ^ 64 - 1) e in
    omega (arith, some, small, head, is)

root_places : (file : List ℕ) (busy : List Range) (ps : List Place) (ws : List Walked) (end : ℕ) → end < 2 ^ 64 → AllByRecursion IsPlaced ps → HaveWalks file busy ps ws → EndAt end ps ws → AllByRecursion IsPlace (map (λ (p : Place). p.root) ps)
root_places file busy [] ws end small placed have ends = tt
root_places file busy (p ∷ ps) [] end small placed have ends = absurd have
root_places file busy (p ∷ ps) (w ∷ ws) end small placed have ends = (
  root_place p file p.root busy w end (let l = placed.0.least in omega arith) small have.0 ends.0,
  root_places file (busy ++ pages_on p w) ps ws end small placed.1 have.1 ends.1,
)

-- ---- the first deleted block

right_half : (P : Area → Type 0) (xs ys : List Area) → AllByRecursion P (xs ++ ys) → AllByRecursion P ys
right_half P [] ys all = all
right_half P (x ∷ xs) ys all = right_half P xs ys all.1

first_place : (end : ℕ) (holes : List Area) → end ≤ 2 ^ 40 → AllByRecursion (λ (a : Area). a.at + a.size ≤ end) holes → IsPlace (first_or holes None)
first_place end [] small all = λ e. absurd cc
first_place end (h ∷ holes) small all = λ e.
    let is : h.at ≡ 2 ^ 64 - 1 = same_Some h.at (2 ^ 64 - 1) e in
    let inside : h.at + h.size ≤ end = all.0 in
    omega (arith, small, inside, is)

reached_few : (d : Defs) (end : ℕ) → is_addressable d end ≡ true → end ≤ 2 ^ 40
unfolding is_addressable
reached_few d end reached = leb-true end (2 ^ 40) (and_parts (nat_le end (2 ^ 40)) (nat_lt (pointers d.format d.slot_length end) (256 ^ d.rec_ref - 1)) reached).0

deleted_place : (d : Defs) (s : TableState) → IsSound d → IsState d s → is_addressable d s.space.end ≡ true → IsPlace (counts_of s).dellink
unfolding counts_of
deleted_place d s sound i reached = first_place s.space.end s.space.holes (reached_few d s.space.end reached) (right_half (λ (a : Area). a.at + a.size ≤ s.space.end) (row_areas s.rows) s.space.holes (tile-inside s.space.end (row_areas s.rows ++ s.space.holes) (state-bytes d s sound i) i.tile))

-- ---- of an object

pub places_are : (k : KeyedRows) (lost : ℕ) (own : ℕ → ℕ) (s : TableState) (m : Holding) → IsSound (defs_of k) → HoldFiles k lost own s m → AllWritten (pages_of k.trees.cache) → k.trees.room.end < 2 ^ 64
    → AllByRecursion IsPlace (map (λ (p : Place). p.root) k.trees.places) × IsPlace k.rows.file.counts.dellink
places_are k lost own s m sound hold written small =
    let d = defs_of k in
    let first = first_page_of d in
    let some : 0 < first = omega (arith, sound.base_inside) in
    let stand = stand_in k.trees m own (lists_of d s.rows) first some written hold.behind hold.table.trees in
    let same : k.rows.file.counts ≡ counts_of s = hold.table.rows.0.counts in (
      root_places (bytes_of k.trees.cache.name m) ((0, first) ∷ []) k.trees.places stand.walks k.trees.room.end small hold.table.trees.placed stand.have stand.before,
      subst IsPlace (sym (ap (λ (c : Counts). c.dellink) same)) (deleted_place d s sound hold.table.table.state hold.reached),
    )
