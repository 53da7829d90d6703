-- A leaf that is written in its bytes with one pair more.
use Rattle.std.proofs.Common.{◌≡◌, ◌⊎◌, ℕ, zero, suc, ◌+◌, ◌^◌, ◌<◌, ◌≤◌, false, Option, Some, None, List, [], ◌∷◌, ◌++◌, length, take, drop, append-nil, refl, sym, ap, subst, ◌∙◌, arith, inl, inr}
use Rattle.std.proofs.lemmas.Bool.{cases_lt}
use Rattle.std.proofs.lemmas.List.{drop_all, map-append, take_all}
use Rattle.myi_base.specs.Holding.{Holding}
use Rattle.myi_keys.specs.Limits.{IsKey}
use Rattle.myi_keypage.specs.declared.entry.Entry.{Entry}
use Rattle.myi_keypage.specs.Page.{page_with, entry_with, page_bytes, IsPage}
use Rattle.myi_keypage.specs.Fitting.{used_length}
use Rattle.myi_keypage.specs.Writing.{filled_up}
use Rattle.myi_keypage.specs.PuttingIn.{with_entry}
use Rattle.myi_keycache.specs.Caching.{Caching}
use Rattle.myi_keylist.specs.declared.pair.Pair.{Pair}
use Rattle.myi_btree.specs.declared.place.Place.{Place}
use Rattle.myi_btree.specs.declared.place.Room.{Room}
use Rattle.myi_btree.specs.Walk.{Node, node_with}
use Rattle.myi_btree.specs.Nodes.{entry_of, entries_of, node_in}
use Rattle.myi_btree.specs.Sizes.{IsPlaced}
use Rattle.myi_btree.specs.Building.{page_for, IsWritten}
use Rattle.myi_btree.specs.CachedTrees.{node_lent}
use Rattle.myi_insertion.specs.declared.pass.Spot.{Spot}
use Rattle.myi_insertion.specs.Strips.{StandFor}
use Rattle.myi_insertion.specs.CachedChanges.{CanChange}
use Rattle.myi_insertion.specs.Spots.{IsSpot, with_pair}
use Rattle.myi_insertion.specs.Written.{CanWrite}
use Rattle.myi_insertion.specs.Steps.{Lays}
use Rattle.myi_insertion.proofs.WriteLaws.{entries-take, entries-drop, length-entries, page_is, can_be_written}
use Rattle.myi_insertion.proofs.SplitLaws.{pair_written}
use Rattle.myi_insertion.proofs.CachedSettling.{Writes, settling_start, settling_end}
use Rattle.myi_insertion.proofs.SpotLaws.{spot_leaf, same_node}

pub entries_with : (i : ℕ) (p : Pair) (ps : List Pair) → with_entry i (entry_of p) (entries_of ps) ≡ entries_of (with_pair i p ps)
entries_with i p ps =
    ap (λ (t : List Entry). (t ++ entry_of p ∷ []) ++ drop i (entries_of ps)) (sym (entries-take i ps)) ∙ ap (λ (t : List Entry). (entries_of (take i ps) ++ entry_of p ∷ []) ++ t) (sym (entries-drop i ps))
    ∙ sym (map-append entry_of (take i ps ++ p ∷ []) (drop i ps) ∙ ap (λ (t : List Entry). t ++ entries_of (drop i ps)) (map-append entry_of (take i ps) (p ∷ [])))

-- a buffer that was written whole
pub whole_is : (new items : List ℕ) (len : ℕ) → len ≡ length items → length new ≡ length items → take len (new ++ drop (length new) items) ≡ new
whole_is new items len e f =
    let none : drop (length new) items ≡ [] = drop_all (length new) items (omega (arith, f)) in
    ap (λ (t : List ℕ). take len (new ++ t)) none ∙ ap (take len) (append-nil new) ∙ take_all len new (omega (arith, e, f))

-- the leaf, as the list of its entries
pub spot_page : (rec_ref : ℕ) (bytes : List ℕ) (p : Pair) (spot : Spot) → (r : IsSpot rec_ref bytes p spot) → spot.child ≡ None → IsPage rec_ref bytes (page_with (entries_of r.pairs) [])
spot_page rec_ref bytes p spot r none = subst (λ (cs : List ℕ). IsPage rec_ref bytes (page_with (entries_of r.pairs) cs)) (spot_leaf rec_ref bytes p spot r none) r.page

pub spot_inside : (rec_ref : ℕ) (bytes : List ℕ) (p : Pair) (spot : Spot) → (r : IsSpot rec_ref bytes p spot) → spot.index ≤ length (entries_of r.pairs)
spot_inside rec_ref bytes p spot r = omega (arith, r.inside, length-entries r.pairs)

-- what was written is the leaf with the pair
pub leaf_read : (place : Place) (bytes new : List ℕ) (p : Pair) (spot : Spot) (code : List ℕ) (row long : ℕ) (pairs : List Pair) → ((place : Place) (node : Node) → IsWritten place node → node_in place.rec_ref (page_for place node) ≡ Some node) → IsPlaced place → (r : IsSpot place.rec_ref bytes p spot) → spot.child ≡ None
    → p.row < 256 ^ place.rec_ref → IsKey p.key → entry_with code row ≡ entry_of p → long ≡ place.block_length → used_length place.rec_ref false (with_entry spot.index (entry_with code row) (entries_of r.pairs)) ≤ long
    → new ≡ filled_up (page_bytes place.rec_ref (page_with (with_entry spot.index (entry_with code row) (entries_of r.pairs)) [])) long → node_in place.rec_ref bytes ≡ Some (node_with pairs [])
    → node_in place.rec_ref new ≡ Some (node_with (with_pair spot.index p pairs) [])
leaf_read place bytes new p spot code row long pairs again placed r none small key one length_is fits is stands =
    let rec_ref : ℕ = place.rec_ref in
    let i : ℕ = spot.index in
    let same = same_node r.pairs pairs r.children [] _ (sym r.stands) stands in
    let entries : with_entry i (entry_with code row) (entries_of r.pairs) ≡ entries_of (with_pair i p pairs) = ap (λ (e : Entry). with_entry i e (entries_of r.pairs)) one ∙ entries_with i p r.pairs ∙ ap (λ (t : List Pair). entries_of (with_pair i p t)) same.0 in
    let can = pair_written rec_ref i r.pairs (with_pair i p r.pairs) r.children [] p r.written r.inside small key refl refl in
    let can2 = subst (λ (t : List Pair). CanWrite rec_ref (with_pair i p t) []) same.0 can in
    let room : used_length rec_ref false (entries_of (with_pair i p pairs)) ≤ place.block_length = subst (λ (n : ℕ). used_length rec_ref false (entries_of (with_pair i p pairs)) ≤ n) length_is (subst (λ (t : List Entry). used_length rec_ref false t ≤ long) entries fits) in
    let written = can_be_written place false (with_pair i p pairs) [] placed can2 refl room in
    let text : new ≡ page_for place (node_with (with_pair i p pairs) []) =
    is ∙ ap (λ (t : List Entry). filled_up (page_bytes rec_ref (page_with t [])) long) entries ∙ ap (λ (n : ℕ). filled_up (page_bytes rec_ref (page_with (entries_of (with_pair i p pairs)) [])) n) length_is ∙ page_is place (node_with (with_pair i p pairs) []) in
    ap (node_in rec_ref) text ∙ again place (node_with (with_pair i p pairs) []) written

-- it does not fit
pub leaf_full : (rec_ref : ℕ) (bytes : List ℕ) (p : Pair) (spot : Spot) (code : List ℕ) (row long block : ℕ) (pairs : List Pair) → (r : IsSpot rec_ref bytes p spot) → entry_with code row ≡ entry_of p → long ≡ block → (used_length rec_ref false (with_entry spot.index (entry_with code row) (entries_of r.pairs)) ≤ long → ⊥)
    → node_in rec_ref bytes ≡ Some (node_with pairs []) → block < used_length rec_ref false (entries_of (with_pair spot.index p pairs))
leaf_full rec_ref bytes p spot code row long block pairs r one is full stands =
    let i : ℕ = spot.index in
    let same = same_node r.pairs pairs r.children [] _ (sym r.stands) stands in
    let entries : with_entry i (entry_with code row) (entries_of r.pairs) ≡ entries_of (with_pair i p pairs) = ap (λ (e : Entry). with_entry i e (entries_of r.pairs)) one ∙ entries_with i p r.pairs ∙ ap (λ (t : List Pair). entries_of (with_pair i p t)) same.0 in
    let more : long < used_length rec_ref false (with_entry i (entry_with code row) (entries_of r.pairs)) = elim (cases_lt long (used_length rec_ref false (with_entry i (entry_with code row) (entries_of r.pairs)))) [ inl lt ↦ lt | inr le ↦ absurd (full le) ] in
    subst (λ (n : ℕ). n < used_length rec_ref false (entries_of (with_pair i p pairs))) is (subst (λ (t : List Entry). long < used_length rec_ref false t) entries more)

-- the page was written, and is the only one
pub leaf_lays : (place : Place) (cache : Caching) (m : Holding) (told next : Option Holding) (new : Caching) (at : ℕ) (below : List ℕ) (room : Room) (height : ℕ) (xs pairs : List Pair) (children sp : List ℕ) (ss : List Pair) → 0 < place.block_length → told ≡ Some m
    → Writes place cache told next new at (node_with pairs children) → StandFor (node_lent place cache m) height pairs children xs below → CanChange place cache m (at ∷ below) room → sp ≡ at ∷ [] → ss ≡ []
    → Lays place cache m at below room next new room (node_with pairs children) height xs sp ss
leaf_lays place cache m told next new at below room height xs pairs children sp ss pos held writes stand can is none =
    let start = settling_start place cache m told room at height xs pairs children below held stand can in
    let l = settling_end place cache m at below room told next cache new room at height xs [] [] pairs children (at ∷ []) (node_with pairs children) pos can start refl writes (inl (refl, refl, refl)) in
    subst (λ (t : List ℕ). Lays place cache m at below room next new room (node_with pairs children) height xs t ss) (sym is) (subst (λ (t : List Pair). Lays place cache m at below room next new room (node_with pairs children) height xs (at ∷ []) t) (sym none) l)
