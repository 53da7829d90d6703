-- What a row takes in either format tiles what was free, and can be released again.
use Rattle.std.proofs.Common.{◌≡◌, ℕ, ◌+◌, ◌%◌, ◌^◌, ◌<◌, ◌≤◌, Bool, true, false, List, [], ◌∷◌, ◌++◌, Some, None, refl, ap, subst, ◌∙◌, arith}
use Rattle.std.specs.Prelude.{nat_lt, nat_le, if◌then◌else◌}
use Rattle.std.specs.List.{AllByRecursion, flat_map}
use Rattle.myi_defs.specs.declared.types.RowFormat.{RowFormat}
use Rattle.myi_defs.specs.declared.types.RowFormat.TheVariants.{Static, Dynamic}
use Rattle.myi_dellist.specs.Areas.{Area, Tile, HaveBytes}
use Rattle.myi_dellist.specs.Releasing.{IsHole, IsFreeable}
use Rattle.myi_dellist.specs.declared.pieces.Piece.{Piece}
use Rattle.myi_dellist.specs.Placing.{Space, areas_of, own_parts, update, place, place_at_end, place_of, next_place}
use Rattle.myi_dellist.specs.Standing.{first_or}
use Rattle.myi_dellist.specs.Order.{put_in, in_order, Follow}
use Rattle.myi_dellist.proofs.CallerLemmas.{tiles-follow, holes-release_all, release-tile, update-grows, update-tile, update-holes, update-place, place-new, end-grows, end-tile, end-place, update-freeable, end-freeable}
use Rattle.myi_state.specs.State.{Taken, taken_of, slot_behind, next_slot, take_next, take_behind, take_again, give_back}
use Rattle.myi_state.specs.Sound.{IsSlot, AreOneSlot, AreBlocks, AreHoles}
use Rattle.myi_state.proofs.RowLemmas.{below-both}

-- blocks that a row takes at a place, where the row had these
pub record TakesSpace (f : RowFormat) (size at : ℕ) (s : Space) (own : List Area) (t : Taken) : Type 0 where
  pub grows : s.end ≤ t.space.end
  pub tile : (others : List Area) → Tile s.end (others ++ (own ++ s.holes)) → Tile t.space.end (others ++ (t.blocks ++ t.space.holes))
  pub blocks : AreBlocks f size t.blocks
  pub holes : AreHoles f size t.space.holes
  pub place : first_or t.blocks None ≡ Some at

-- where blocks stand at multiples of 4, so does the end
abbrev pub IsAligned : RowFormat → ℕ → Type 0
IsAligned Static end = Unit {0}
IsAligned Dynamic end = end % 4 ≡ 0

-- ---- slots

behind_tile : (size : ℕ) (holes others : List Area) (end : ℕ) → Tile end (others ++ holes) → Tile (end + size) (others ++ (record { at = end; size = size } ∷ holes))
behind_tile size holes others end tile p = omega (arith, tile p, below-both p others holes, below-both p others (record { at = end; size = size } ∷ holes))

head_tile : (h : Area) (holes others : List Area) (end : ℕ) → Tile end (others ++ (h ∷ holes)) → Tile end (others ++ (h ∷ [] ++ holes))
head_tile h holes others end tile = tile

slot_takes : (size : ℕ) (holes : List Area) (end : ℕ) → AllByRecursion (IsSlot size) holes → TakesSpace Static size (next_place holes end) (record { holes = holes; end = end }) [] (next_slot size holes end)
slot_takes size [] end all = record { grows = omega arith; tile = λ others tile. behind_tile size [] others end tile; blocks = refl; holes = tt; place = refl }
slot_takes size (h ∷ holes) end all = record { grows = omega arith; tile = λ others tile. tile; blocks = all.0; holes = all.1; place = refl }

behind_takes : (size : ℕ) (s : Space) → AllByRecursion (IsSlot size) s.holes → TakesSpace Static size s.end s [] (slot_behind size s.holes s.end)
behind_takes size s all = record { grows = omega arith; tile = λ others tile. behind_tile size s.holes others s.end tile; blocks = refl; holes = all; place = refl }

-- ---- blocks

place_first : (ps : List Piece) (p : ℕ) → place_of ps ≡ Some p → first_or (areas_of ps) None ≡ Some p
place_first [] p e = absurd cc
place_first (x ∷ ps) p e = e

pub none-own : (s : Space) (len : ℕ) → update s [] len ≡ place s [] len
none-own s len = by_len (nat_lt len (2 ^ 24))
  where
    by_len : (b : Bool) → place s (if b then [] else flat_map own_parts []) len ≡ place s [] len
    by_len true = refl
    by_len false = refl

blocks_take : (s : Space) (own : List Area) (len at : ℕ) → 0 < len → s.end % 4 ≡ 0 → AllByRecursion IsFreeable own → AllByRecursion IsHole s.holes → place_of (update s own len).pieces ≡ Some at → TakesSpace Dynamic len at s own (taken_of (update s own len))
blocks_take s own len at some aligned all holes here = record {
  grows = update-grows s own len all holes;
  tile = λ others tile. update-tile s own others len all holes tile;
  blocks = update-freeable s own len some aligned all holes;
  holes = update-holes s own len some aligned all holes;
  place = place_first (update s own len).pieces at here;
}

-- of blocks no size is asked
any_size : (size other at : ℕ) (s : Space) (own : List Area) (t : Taken) → TakesSpace Dynamic size at s own t → TakesSpace Dynamic other at s own t
any_size size other at s own t k = record { grows = k.grows; tile = k.tile; blocks = k.blocks; holes = k.holes; place = k.place }

end_takes : (size : ℕ) (s : Space) (len : ℕ) → 0 < len → s.end % 4 ≡ 0 → AllByRecursion IsHole s.holes → TakesSpace Dynamic size s.end s [] (taken_of (place_at_end s len))
end_takes size s len some aligned holes = record {
  grows = end-grows s len some;
  tile = λ others tile. end-tile s others len some tile;
  blocks = end-freeable s len some aligned;
  holes = holes;
  place = place_first (place_at_end s len).pieces s.end (end-place s len some);
}

-- ---- either

pub next-takes : (f : RowFormat) (size : ℕ) (s : Space) (len : ℕ) → 0 < len → IsAligned f s.end → AreHoles f size s.holes → TakesSpace f size (next_place s.holes s.end) s [] (take_next f size s len)
next-takes Static size s len some aligned holes = slot_takes size s.holes s.end holes
next-takes Dynamic size s len some aligned holes =
    let none = none-own s len in
    let at = ap (λ q. place_of q.pieces) none ∙ place-new s len some in
    subst (λ q. TakesSpace Dynamic size (next_place s.holes s.end) s [] (taken_of q)) none
    (any_size len size (next_place s.holes s.end) s [] (taken_of (update s [] len)) (blocks_take s [] len (next_place s.holes s.end) some aligned tt holes at))

pub behind-takes : (f : RowFormat) (size : ℕ) (s : Space) (len : ℕ) → 0 < len → IsAligned f s.end → AreHoles f size s.holes → TakesSpace f size s.end s [] (take_behind f size s len)
behind-takes Static size s len some aligned holes = behind_takes size s holes
behind-takes Dynamic size s len some aligned holes = end_takes size s len some aligned holes

again_blocks : (size : ℕ) (s : Space) (own : List Area) (len at : ℕ) → 0 < len → s.end % 4 ≡ 0 → AllByRecursion IsFreeable own → AllByRecursion IsHole s.holes → first_or own None ≡ Some at → TakesSpace Dynamic size at s own (taken_of (update s own len))
again_blocks size s [] len at some aligned all holes here = absurd cc
again_blocks size s (a ∷ own) len at some aligned all holes here =
    any_size len size at s (a ∷ own) (taken_of (update s (a ∷ own) len)) (blocks_take s (a ∷ own) len at some aligned all holes (update-place s a own len ∙ here))

pub again-takes : (f : RowFormat) (size : ℕ) (s : Space) (own : List Area) (len at : ℕ) → 0 < len → IsAligned f s.end → AreBlocks f size own → AreHoles f size s.holes → first_or own None ≡ Some at → TakesSpace f size at s own (take_again f s own len)
again-takes Static size s own len at some aligned all holes here = record { grows = omega arith; tile = λ others tile. tile; blocks = all; holes = holes; place = here }
again-takes Dynamic size s own len at some aligned all holes here = again_blocks size s own len at some aligned all holes here

-- ---- what goes

one_slot_holes : (size : ℕ) (own holes : List Area) → AreOneSlot size own → AllByRecursion (IsSlot size) holes → AllByRecursion (IsSlot size) (own ++ holes)
one_slot_holes size [] holes one all = absurd one
one_slot_holes size (a ∷ []) holes one all = (one, all)
one_slot_holes size (a ∷ b ∷ own) holes one all = absurd one

pub back-holes : (f : RowFormat) (size : ℕ) (s : Space) (own : List Area) → AreBlocks f size own → AreHoles f size s.holes → AreHoles f size (give_back f s own).holes
back-holes Static size s own all holes = one_slot_holes size own s.holes all holes
back-holes Dynamic size s own all holes = holes-release_all own s.holes all holes

pub back-end : (f : RowFormat) (s : Space) (own : List Area) → (give_back f s own).end ≡ s.end
back-end Static s own = refl
back-end Dynamic s own = refl

pub back-tile : (f : RowFormat) (s : Space) (own others : List Area) → Tile s.end (others ++ (own ++ s.holes)) → Tile s.end (others ++ (give_back f s own).holes)
back-tile Static s own others tile = tile
back-tile Dynamic s own others tile = release-tile s.end own others s.holes tile

-- ---- an end behind areas at multiples of 4

pub put-in-all : (P : Area → Type 0) (a : Area) (areas : List Area) → P a → AllByRecursion P areas → AllByRecursion P (put_in a areas)
put-in-all P a [] h all = (h, tt)
put-in-all P a (b ∷ areas) h all = by_test (nat_le a.at b.at) (put-in-all P a areas h all.1)
  where
    by_test : (t : Bool) → AllByRecursion P (put_in a areas) → AllByRecursion P (if t then a ∷ b ∷ areas else b ∷ put_in a areas)
    by_test true ih = (h, all)
    by_test false ih = (all.0, ih)

pub in-order-all : (P : Area → Type 0) (areas : List Area) → AllByRecursion P areas → AllByRecursion P (in_order areas)
in-order-all P [] all = tt
in-order-all P (a ∷ areas) all = put-in-all P a (in_order areas) all.0 (in-order-all P areas all.1)

-- and what holds of the sorted ones holds of all
put_back : (P : Area → Type 0) (a : Area) (areas : List Area) → AllByRecursion P (put_in a areas) → P a × AllByRecursion P areas
put_back P a [] all = all
put_back P a (b ∷ areas) all = by_test (nat_le a.at b.at) all (put_back P a areas)
  where
    by_test : (t : Bool) → AllByRecursion P (if t then a ∷ b ∷ areas else b ∷ put_in a areas) → (AllByRecursion P (put_in a areas) → P a × AllByRecursion P areas) → P a × AllByRecursion P (b ∷ areas)
    by_test true all ih = all
    by_test false all ih = let t = ih all.1 in (t.0, (all.0, t.1))

pub order-back : (P : Area → Type 0) (areas : List Area) → AllByRecursion P (in_order areas) → AllByRecursion P areas
order-back P [] all = tt
order-back P (a ∷ areas) all = let t = put_back P a (in_order areas) all in (t.0, order-back P areas t.1)

-- a multiple of 4 with a byte
pub record IsFours (a : Area) : Type 0 where
  pub multiple : a.size % 4 ≡ 0
  pub some : 0 < a.size

fours_end : (end p : ℕ) (areas : List Area) → p % 4 ≡ 0 → AllByRecursion IsFours areas → Follow end p areas → end % 4 ≡ 0
fours_end end p [] aligned all f = subst (λ (q : ℕ). q % 4 ≡ 0) f aligned
fours_end end p (a ∷ areas) aligned all f = fours_end end (p + a.size) areas (omega (arith, aligned, all.0.multiple)) all.1 f.1

fours_bytes : (areas : List Area) → AllByRecursion IsFours areas → HaveBytes areas
fours_bytes [] all = tt
fours_bytes (a ∷ areas) all = (all.0.some, fours_bytes areas all.1)

pub tile-aligned : (end : ℕ) (areas : List Area) → AllByRecursion IsFours areas → Tile end areas → end % 4 ≡ 0
tile-aligned end areas all tile = fours_end end 0 (in_order areas) (omega arith) (in-order-all IsFours areas all) (tiles-follow end areas (fours_bytes areas all) tile)
