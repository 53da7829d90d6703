-- A row of a state, as the deleted list finds it in the file: its chain, and that each deleted block directly behind its blocks is on
-- the list.
use Rattle.std.proofs.Common.{◌≡◌, ℕ, ◌+◌, ◌<◌, ◌≤◌, List, [], ◌∷◌, ◌++◌, map, Option, Some, None, refl, sym, ap, subst, ◌∙◌}
use Rattle.std.specs.List.{AllByRecursion}
use Rattle.myi_defs.specs.declared.types.RowFormat.{RowFormat}
use Rattle.myi_defs.specs.declared.types.RowFormat.TheVariants.{Dynamic}
use Rattle.myi_defs.specs.declared.types.Defs.{Defs}
use Rattle.myi_defs.specs.Sound.{IsSound}
use Rattle.myi_frames.specs.declared.form.FrameKind.{FrameKind}
use Rattle.myi_frames.specs.declared.form.FrameKind.TheVariants.{Whole, End}
use Rattle.myi_frames.specs.Block.{Block, block_of, OfKind}
use Rattle.myi_frames.proofs.CallerLemmas.{block-stands}
use Rattle.myi_chain.specs.Chain.{IsTail, IsChain, row_bytes}
use Rattle.myi_chain.specs.Chain as chain
use Rattle.myi_dellist.specs.Areas.{Area, AreApart}
use Rattle.myi_dellist.specs.Releasing.{half_size, most_size, hole_at, IsFreeable}
use Rattle.myi_dellist.specs.RowBlocks.{AreNamed}
use Rattle.myi_dellist.specs.RowBlocks as blocks
use Rattle.myi_dellist.specs.Freeing.{hole_in}
use Rattle.myi_dellist.specs.Standing.{first_or}
use Rattle.myi_dellist.specs.Rows.{AreListedBehind}
use Rattle.myi_dellist.specs.Chains.{areas_in, StandsIn}
use Rattle.myi_dellist.proofs.CallerLemmas.{tile-apart}
use Rattle.myi_state.specs.State.{StoredRow, TableState, row_areas, row_at, rows_without}
use Rattle.myi_state.specs.Sound.{AreBlocks, IsRow}
use Rattle.myi_state.specs.Standing.{area_of_block, StandsInBlocks}
use Rattle.myi_state.proofs.CallerLemmas.{others-tile, state-bytes, found-is}
use Rattle.myi_blocks.proofs.StandLemmas.{all-split, all-join, all-more, all-mapped, IsDynamic, listed-behind}
use Rattle.myi_blocks.proofs.PutLemmas.{apart_right, promises}
use Rattle.myi_blocks.proofs.FreedLemmas.{row_parts}

-- ---- its chain

areas_same : (bs : List Block) → areas_in bs ≡ map area_of_block bs
areas_same [] = refl
areas_same (b ∷ bs) = ap (λ (xs : List Area). area_of_block b ∷ xs) (areas_same bs)

whole_next : (x : List ℕ) (p : ℕ) (b : Block) → block_of x p ≡ Some b → b.kind ≡ Whole → b.next ≡ None
whole_next x p b here kind = let k = subst (λ (k : FrameKind). OfKind k b) kind (block-stands x p b here).kind in k.1

end_next : (x : List ℕ) (p : ℕ) (b : Block) → block_of x p ≡ Some b → b.kind ≡ End → b.next ≡ None
end_next x p b here kind = let k = subst (λ (k : FrameKind). OfKind k b) kind (block-stands x p b here).kind in k.1

place_is : (x : List ℕ) (p : ℕ) (b : Block) → block_of x p ≡ Some b → Some p ≡ Some b.at
place_is x p b here = ap (λ (q : ℕ). Some q) (sym (block-stands x p b here).at)

read_is : (x : List ℕ) (p : ℕ) (b : Block) → block_of x p ≡ Some b → block_of x b.at ≡ Some b
read_is x p b here = ap (block_of x) (block-stands x p b here).at ∙ here

tail_named : (x : List ℕ) (link : Option ℕ) (bs : List Block) → IsTail (block_of x) link bs → AreNamed link bs
tail_named x None bs t = absurd t
tail_named x (Some p) [] t = absurd t
tail_named x (Some p) (b ∷ []) t = (place_is x p b t.0, t.1, end_next x p b t.0 t.1)
tail_named x (Some p) (b ∷ c ∷ bs) t = (place_is x p b t.0, t.1, tail_named x b.next (c ∷ bs) t.2)

chain_linked : (x : List ℕ) (p : ℕ) (bs : List Block) → chain.AreLinked (block_of x) p bs → blocks.AreLinked (Some p) bs
chain_linked x p [] l = absurd l
chain_linked x p (b ∷ []) l = (place_is x p b l.0, l.1, whole_next x p b l.0 l.1)
chain_linked x p (b ∷ c ∷ bs) l = (place_is x p b l.0, l.1, tail_named x b.next (c ∷ bs) l.2)

tail_read : (x : List ℕ) (link : Option ℕ) (bs : List Block) → IsTail (block_of x) link bs → AllByRecursion (λ (b : Block). block_of x b.at ≡ Some b) bs
tail_read x None bs t = absurd t
tail_read x (Some p) [] t = tt
tail_read x (Some p) (b ∷ []) t = (read_is x p b t.0, tt)
tail_read x (Some p) (b ∷ c ∷ bs) t = (read_is x p b t.0, tail_read x b.next (c ∷ bs) t.2)

chain_read : (x : List ℕ) (p : ℕ) (bs : List Block) → chain.AreLinked (block_of x) p bs → AllByRecursion (λ (b : Block). block_of x b.at ≡ Some b) bs
chain_read x p [] l = absurd l
chain_read x p (b ∷ []) l = (read_is x p b l.0, tt)
chain_read x p (b ∷ c ∷ bs) l = (read_is x p b l.0, tail_read x b.next (c ∷ bs) l.2)

-- ---- a row of a state

free_blocks : (d : Defs) (r : StoredRow) → d.format ≡ Dynamic → IsRow d r → AllByRecursion IsFreeable r.blocks
free_blocks d r dynamic i = subst (λ (f : RowFormat). AreBlocks f d.slot_length r.blocks) dynamic i.blocks

pub record IsStanding (s : TableState) (x : List ℕ) (at : ℕ) (r : StoredRow) : Type 0 where
  pub blocks : List Block
  pub areas : areas_in blocks ≡ r.blocks
  pub stands : StandsIn x at (row_bytes blocks) blocks s.space.holes
  pub listed : AreListedBehind (areas_in blocks ++ s.space.holes) s.space.holes x
  pub free : AllByRecursion IsFreeable r.blocks
  pub place : first_or r.blocks None ≡ Some at

pub standing-of : (d : Defs) (s : TableState) (x : List ℕ) (at : ℕ) (r : StoredRow) → IsSound d → d.format ≡ Dynamic → IsDynamic d s x → row_at at s.rows ≡ Some r → IsStanding s x at r
standing-of d s x at r sound dynamic k here =
    let found = found-is (StandsInBlocks d x) at s.rows r here k.stand in
    let w = found.0 in
    let bs = w.chain in
    let is : IsChain (block_of x) at [] bs = subst (λ (p : ℕ). IsChain (block_of x) p [] bs) found.1 w.is in
    let own : areas_in bs ≡ r.blocks = areas_same bs ∙ w.blocks in
    let row = (found-is (IsRow d) at s.rows r here k.state.rows).0 in
    let free = free_blocks d r dynamic row in
    let few = all-mapped area_of_block (λ (a : Area). a.size ≤ half_size + most_size) bs (subst (λ (xs : List Area). AllByRecursion (λ (a : Area). a.size ≤ half_size + most_size) xs) (sym w.blocks) (all-more IsFreeable (λ (a : Area). a.size ≤ half_size + most_size) r.blocks (λ a f. f.most) free)) in
    let holes = s.space.holes in
    let others = row_areas (rows_without at s.rows) in
    let bytes = all-split (λ (a : Area). 0 < a.size) (row_areas s.rows) holes (state-bytes d s sound k.state) in
    let parts = row_parts (λ (a : Area). 0 < a.size) at s.rows r here bytes.0 in
    let some = all-join (λ (a : Area). 0 < a.size) others (r.blocks ++ holes) parts.1 (all-join (λ (a : Area). 0 < a.size) r.blocks holes parts.0 bytes.1) in
    let apart = apart_right others (r.blocks ++ holes) (tile-apart s.space.end (others ++ (r.blocks ++ holes)) some (others-tile s.space.end at s.rows holes r here k.state.tile)) in
    let P : Area → Type 0 = λ (a : Area). hole_at (a.at + a.size) holes ≡ None → hole_in x (a.at + a.size) ≡ None in
    let listed = all-split P (row_areas s.rows) holes (listed-behind d s x sound k) in
    let mine = row_parts P at s.rows r here listed.0 in
    record {
      blocks = bs;
      areas = own;
      stands = record {
        row_is = record { linked = chain_linked x at bs is.linked; filled = is.filled; said = promises bs ∙ sym is.whole; bytes = refl };
        read = chain_read x at bs is.linked;
        short = few;
        apart = subst (λ (xs : List Area). AreApart (xs ++ holes)) (sym own) apart;
      };
      listed = all-join P (areas_in bs) holes (subst (λ (xs : List Area). AllByRecursion P xs) (sym own) mine.0) listed.1;
      free = free;
      place = row.place ∙ ap (λ (p : ℕ). Some p) found.1;
    }
