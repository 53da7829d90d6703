-- Writing pairs on pages through a key cache.
use Rattle.std.proofs.Common.{◌≡◌, ◌⊎◌, ℕ, suc, ◌+◌, ◌<◌, ◌≤◌, ltb, Option, Some, List, [], ◌∷◌, ◌++◌, length, take, drop, refl, sym, ap, subst, ◌∙◌, inl, inr}
use Rattle.std.specs.List.{AllByRecursion, Contains}
use Rattle.std.proofs.lemmas.List.Elements.{Contains-append_right}
use Rattle.myi_base.specs.Holding.{Holding}
use Rattle.myi_keycache.specs.Caching.{Caching}
use Rattle.myi_keylist.specs.declared.pair.Pair.{Pair}
use Rattle.myi_btree.specs.declared.place.Place.{Place}
use Rattle.myi_btree.specs.declared.place.Room.{Room}
use Rattle.myi_btree.specs.Walk.{Node, Places, node_with}
use Rattle.myi_btree.specs.Nodes.{entry_of}
use Rattle.myi_btree.specs.CachedTrees.{node_lent}
use Rattle.myi_insertion.specs.Strips.{StandFor}
use Rattle.myi_insertion.specs.Covers.{within, Spares}
use Rattle.myi_insertion.specs.Filled.{TakeAtMost, below_root}
use Rattle.myi_insertion.specs.Halves.{UseHalf, IsHalf, IsLaid, IsAlone}
use Rattle.myi_insertion.specs.Rooms.{Takes}
use Rattle.myi_insertion.specs.CachedChanges.{CanChange, SparesLent, Changes}
use Rattle.myi_insertion.specs.Steps.{Wrote, Settling, Lays}
use Rattle.myi_insertion.proofs.FrameLaws.{all_right}
use Rattle.myi_insertion.proofs.KeptLaws.{all_pairs, still_on, laid_on, half_there}
use Rattle.myi_insertion.proofs.CoverLaws.{first_one, no_one}
use Rattle.myi_insertion.proofs.CachedLaws.{change_none, change_then, change_take, can_still, lent_node}
use Rattle.myi_insertion.proofs.SettleLaws.{part_first, part_next, part_last}
use Rattle.myi_insertion.proofs.RoomLaws.{stock_taken}

-- what a call that writes a page says, of all pages that may be changed
abbrev pub Writes : Place → Caching → Option Holding → Option Holding → Caching → ℕ → Node → Type 0
Writes place cache told next new at node = (m : Holding) → told ≡ Some m → (pages : List ℕ) (room : Room) → CanChange place cache m pages room → Contains pages at → Wrote place cache m pages room next new at node

pub settling_start : (place : Place) (old : Caching) (m : Holding) (told : Option Holding) (room : Room) (at height : ℕ) (xs pairs : List Pair) (children below : List ℕ) → told ≡ Some m → StandFor (node_lent place old m) height pairs children xs below → CanChange place old m (at ∷ below) room
    → Settling place old m (at ∷ below) room told old room at height xs [] [] pairs children
settling_start place old m told room at height xs pairs children below held stand can =
    let first = part_first place.block_length (node_lent place old m) height xs below room at pairs children stand in
    record {
      now = m;
      held = held;
      part = first.0;
      changes = subst (λ (ps : List ℕ). Changes place old m (at ∷ below) room old m ps room) (sym first.1) (change_none place old m (at ∷ below) room can.current);
      laid = λ p here. absurd (no_one p (subst (λ (t : List ℕ). Contains t p) first.2 here));
      still = λ p here. (subst (λ (t : List ℕ). Contains t p) first.3 here, λ node e. e);
    }

spares_read : (place : Place) (old : Caching) (m : Holding) (new : Caching) (n : Holding) (at : ℕ) → 0 < place.block_length → SparesLent (within at place.block_length) old m new n → Spares place.block_length (node_lent place old m) (node_lent place new n) (λ x. within at place.block_length x)
spares_read place old m new n at pos s = λ p off node e. lent_node place old m new n p node (λ x. s p place.block_length x pos off) e

rest_pairs : (place : Place) (most : ℕ) (read : Places) (height : ℕ) (xs done rest pairs : List Pair) (children pages : List ℕ) → xs ≡ done ++ rest → StandFor read height pairs children rest pages → TakeAtMost place most xs → TakeAtMost place most pairs
rest_pairs place most read height xs done rest pairs children pages is stand all =
    let P : Pair → Type 0 = λ (p : Pair). length (entry_of p).key + 13 + place.rec_ref ≤ most in
    all_pairs P read height pairs children rest pages stand (all_right P done rest (subst (AllByRecursion P) is all))

-- a page was written, and the next one taken from the room
pub settling_step : (place : Place) (old : Caching) (m : Holding) (olds : List ℕ) (before : Room) (told next : Option Holding) (cache new : Caching) (room last : Room) (at q height : ℕ) (xs : List Pair) (places : List ℕ) (separators front : List Pair) (s : Pair) (rest : List Pair) (children cs ds : List ℕ)
    → 0 < place.block_length → CanChange place old m olds before → Settling place old m olds before told cache room at height xs places separators (front ++ s ∷ rest) children → cs ≡ take (suc (length front)) children → ds ≡ drop (suc (length front)) children
    → Writes place cache told next new at (node_with front cs) → Takes place.block_length q room last → UseHalf place (ltb 0 (length cs)) (front ++ s ∷ rest) front
    → Settling place old m olds before next new last q height xs (places ++ at ∷ []) (separators ++ s ∷ []) rest ds
settling_step place old m olds before told next cache new room last at q height xs places separators front s rest children cs ds pos can t c d writes takes half =
    let mids : List ℕ = t.part.done_pages ++ at ∷ t.part.rest_pages in
    let still = can_still place old m olds before cache t.now mids room pos can t.changes in
    let w = writes t.now t.held mids room still (Contains-append_right t.part.done_pages (at ∷ t.part.rest_pages) at (first_one at t.part.rest_pages)) in
    let n = part_next place.block_length (node_lent place old m) (node_lent place cache t.now) (node_lent place new w.now) height xs olds before room last at q places separators front s rest children cs ds
    can.clear t.part c d w.there (spares_read place cache t.now new w.now at pos w.spares) (stock_taken place.block_length q room last takes) in
    let written = change_then place old m olds before cache t.now mids room new w.now mids room t.changes w.changes in
    let parts : Changes place old m olds before new w.now (n.0.done_pages ++ n.0.rest_pages) room = subst (λ (ps : List ℕ). Changes place old m olds before new w.now ps room) (sym n.1) written in
    record {
      now = w.now;
      held = w.held;
      part = n.0;
      changes = change_then place old m olds before new w.now (n.0.done_pages ++ n.0.rest_pages) room new w.now (n.0.done_pages ++ q ∷ n.0.rest_pages) last parts (change_take place new w.now n.0.done_pages n.0.rest_pages room last q parts.current takes);
      laid = λ p here. elim (n.2.from p here) [
        | inl a ↦ laid_on place xs (node_lent place old m) (node_lent place cache t.now) (node_lent place new w.now) (below_root olds) p (t.laid p a) (n.2.done_still p a)
        | inr (inl is) ↦ inl (half_there place xs front cs (node_lent place new w.now) at p (λ most all. half most (rest_pairs place most (node_lent place cache t.now) height xs t.part.done t.part.rest (front ++ s ∷ rest) children t.part.rest_pages t.part.content_is t.part.stand all)) w.there is)
        | inr (inr b) ↦ let k = t.still p b in inr (k.0, still_on (node_lent place old m) (node_lent place cache t.now) (node_lent place new w.now) p k.1 (n.2.rest_still p b))
      ];
      still = λ p here. let k = t.still p (n.2.to p here) in (k.0, still_on (node_lent place old m) (node_lent place cache t.now) (node_lent place new w.now) p k.1 (n.2.rest_still p (n.2.to p here)));
    }

-- what the last page is
ends : (place : Place) (old new : Places) (first : ℕ) (below : List ℕ) (at p : ℕ) (xs pairs : List Pair) (children sp : List ℕ) (node : Node) → new at ≡ Some (node_with pairs children) → p ≡ at
    → ((sp ≡ first ∷ []) × (at ≡ first) × (node_with pairs children ≡ node)) ⊎ UseHalf place (ltb 0 (length children)) xs pairs → IsLaid place xs old new below p ⊎ IsAlone new first node sp p
ends place old new first below at p xs pairs children sp node there is (inl one) = inr (record { is = is ∙ one.1; alone = one.0; there = ap new (sym one.1) ∙ there ∙ ap Some one.2 })
ends place old new first below at p xs pairs children sp node there is (inr half) = inl (inl (half_there place xs pairs children new at p half there is))

-- the last page was written: it is the only one, or filled
pub settling_end : (place : Place) (old : Caching) (m : Holding) (first : ℕ) (below : List ℕ) (before : Room) (told next : Option Holding) (cache new : Caching) (room : Room) (at height : ℕ) (xs : List Pair) (places : List ℕ) (separators pairs : List Pair) (children sp : List ℕ) (node : Node)
    → 0 < place.block_length → CanChange place old m (first ∷ below) before → Settling place old m (first ∷ below) before told cache room at height xs places separators pairs children → sp ≡ places ++ at ∷ []
    → Writes place cache told next new at (node_with pairs children)
    → ((sp ≡ first ∷ []) × (at ≡ first) × (node_with pairs children ≡ node)) ⊎ UseHalf place (ltb 0 (length children)) xs pairs
    → Lays place old m first below before next new room node height xs sp separators
settling_end place old m first below before told next cache new room at height xs places separators pairs children sp node pos can t is writes last =
    let olds : List ℕ = first ∷ below in
    let mids : List ℕ = t.part.done_pages ++ at ∷ t.part.rest_pages in
    let still = can_still place old m olds before cache t.now mids room pos can t.changes in
    let w = writes t.now t.held mids room still (Contains-append_right t.part.done_pages (at ∷ t.part.rest_pages) at (first_one at t.part.rest_pages)) in
    let g = part_last place.block_length (node_lent place old m) (node_lent place cache t.now) (node_lent place new w.now) height xs olds before room at places separators pairs children sp separators
    can.clear t.part w.there (spares_read place cache t.now new w.now at pos w.spares) is refl in
    let written = change_then place old m olds before cache t.now mids room new w.now mids room t.changes w.changes in
    record {
      settles = record {
        now = w.now;
        held = w.held;
        stands = record {
          pages = g.0.pages;
          strip = g.0.strip;
          changes = subst (λ (ps : List ℕ). Changes place old m olds before new w.now ps room) (sym g.1) written;
        };
      };
      laid = λ p here. elim (g.2.from p here) [
        | inl a ↦ inl (laid_on place xs (node_lent place old m) (node_lent place cache t.now) (node_lent place new w.now) below p (t.laid p a) (g.2.done_still p a))
        | inr (inl e) ↦ ends place (node_lent place old m) (node_lent place new w.now) first below at p xs pairs children sp node w.there e last
        | inr (inr b) ↦ let k = t.still p b in inl (inr (k.0, still_on (node_lent place old m) (node_lent place cache t.now) (node_lent place new w.now) p k.1 (g.2.rest_still p b)))
      ];
    }
