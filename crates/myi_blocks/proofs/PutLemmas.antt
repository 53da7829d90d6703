-- A row that is put into a dynamic data file: the file stands for the state with the row.
use Rattle.std.proofs.Common.{◌≡◌, ℕ, ◌<◌, true, List, [], ◌∷◌, ◌++◌, length, map, drop, Option, Some, None, refl, sym, ap, subst, ◌∙◌, arith}
use Rattle.std.specs.List.{AllByRecursion}
use Rattle.myi_base.specs.Ranges.{Range}
use Rattle.myi_defs.specs.declared.types.RowFormat.TheVariants.{Dynamic}
use Rattle.myi_defs.specs.declared.types.Defs.{Defs}
use Rattle.myi_defs.specs.Sound.{IsSound}
use Rattle.myi_frames.specs.Block.{Block, block_of}
use Rattle.myi_frames.proofs.CallerLemmas.{block-stands}
use Rattle.myi_pack.specs.Packed.{Values}
use Rattle.myi_pack.specs.Spelling.{spelling, fits}
use Rattle.myi_pack.specs.Unpacking.{row_of}
use Rattle.myi_pack.proofs.CallerLemmas.{row-reads}
use Rattle.myi_chain.specs.Chain.{Reading, IsTail, IsChain, promised, row_bytes, ranges}
use Rattle.myi_chain.specs.Chain as chain
use Rattle.myi_dellist.specs.declared.pieces.Piece.{Piece}
use Rattle.myi_dellist.specs.Areas.{Area, Tile, HaveBytes, IsApart, AreApart}
use Rattle.myi_dellist.specs.Placing.{Placing, areas_of, specs_of, specs_behind, place_of}
use Rattle.myi_dellist.specs.RowBlocks.{blocks_as, row_blocks, AreNamed, said_len, HoldRow}
use Rattle.myi_dellist.specs.RowBlocks as blocks
use Rattle.myi_dellist.specs.FreeList.{ListState}
use Rattle.myi_dellist.specs.Rows.{KeepsApart, PutsRow}
use Rattle.myi_dellist.proofs.CallerLemmas.{tile-apart, block-apart}
use Rattle.myi_state.specs.State.{StoredRow, TableState, row_areas, taken_of}
use Rattle.myi_state.specs.Changes.{with_row}
use Rattle.myi_state.specs.Sound.{IsState}
use Rattle.myi_state.specs.Standing.{area_of_block, range_of_area, StandsInBlocks, StandsFor}
use Rattle.myi_state.proofs.CallerLemmas.{TakesSpace, put-all, apart-across, below-both, state-bytes, ranges-apart, free-of-none, chain-ranges}
use Rattle.myi_blocks.proofs.StandLemmas.{all-split, all-join, all-more, all-mapped, IsDynamic, stands-by}

-- ---- the blocks of the row are a chain

tail_linked : (read : Reading) (link : Option ℕ) (bs : List Block) → AreNamed link bs → AllByRecursion (λ (b : Block). read b.at ≡ Some b) bs → IsTail read link bs
tail_linked read link [] named all = absurd named
tail_linked read None (b ∷ []) named all = absurd cc
tail_linked read None (b ∷ c ∷ bs) named all = absurd cc
tail_linked read (Some p) (b ∷ []) named all = let at : p ≡ b.at = cc in (ap read at ∙ all.0, named.1)
tail_linked read (Some p) (b ∷ c ∷ bs) named all = let at : p ≡ b.at = cc in (ap read at ∙ all.0, named.1, tail_linked read b.next (c ∷ bs) named.2 all.1)

linked_of : (read : Reading) (p : ℕ) (bs : List Block) → blocks.AreLinked (Some p) bs → AllByRecursion (λ (b : Block). read b.at ≡ Some b) bs → chain.AreLinked read p bs
linked_of read p [] l all = absurd l
linked_of read p (b ∷ []) l all = let at : p ≡ b.at = cc in (ap read at ∙ all.0, l.1)
linked_of read p (b ∷ c ∷ bs) l all = let at : p ≡ b.at = cc in (ap read at ∙ all.0, l.1, tail_linked read b.next (c ∷ bs) l.2 all.1)

pub promises : (bs : List Block) → said_len bs ≡ promised bs
promises [] = refl
promises (b ∷ bs) = refl

-- each block has the place and the size of its piece
behind_areas : (ps : List Piece) (row : List ℕ) → map area_of_block (blocks_as (specs_behind ps) ps row) ≡ areas_of ps
behind_areas [] row = refl
behind_areas (p ∷ []) row = refl
behind_areas (p ∷ q ∷ ps) row = ap (λ (xs : List Area). record { at = p.at; size = p.size } ∷ xs) (behind_areas (q ∷ ps) (drop p.taken row))

block_areas : (len : ℕ) (ps : List Piece) (row : List ℕ) → map area_of_block (blocks_as (specs_of len ps) ps row) ≡ areas_of ps
block_areas len [] row = refl
block_areas len (p ∷ []) row = refl
block_areas len (p ∷ q ∷ ps) row = ap (λ (xs : List Area). record { at = p.at; size = p.size } ∷ xs) (behind_areas (q ∷ ps) (drop p.taken row))

-- what is put stands as a row of these values
row_stands : (d : Defs) (at : ℕ) (values : Values) (ps : List Piece) (row e : List ℕ) → IsSound d → fits d values ≡ true → row ≡ spelling d values → place_of ps ≡ Some at → HoldRow (place_of ps) row (row_blocks ps row) → AllByRecursion (λ (b : Block). block_of e b.at ≡ Some b) (row_blocks ps row) → AreApart (areas_of ps) → StandsInBlocks d e (record { at = at; values = values; blocks = areas_of ps })
row_stands d at values ps row e sound fit packed place hold stand apart =
    let bs = row_blocks ps row in
    let areas = block_areas (length row) ps row in
    record {
      chain = bs;
      is = record {
        linked = linked_of (block_of e) at bs (subst (λ (o : Option ℕ). blocks.AreLinked o bs) place hold.linked) stand;
        filled = hold.filled;
        whole = ap (λ (y : List ℕ). length y) hold.bytes ∙ sym hold.said ∙ promises bs;
        apart = subst (λ (rs : List Range). chain.AreApart [] rs) (ap (λ (xs : List Area). map range_of_area xs) (sym areas) ∙ chain-ranges bs) (ranges-apart [] (areas_of ps) (free-of-none (areas_of ps)) apart);
      };
      blocks = areas;
      packs = ap (λ (y : List ℕ). row_of d y) (hold.bytes ∙ packed) ∙ row-reads d values sound fit;
    }

-- ---- the other rows stay

block_stays : (areas : List Area) (x e : List ℕ) (p : ℕ) (b : Block) → KeepsApart areas x e → AllByRecursion (IsApart (area_of_block b)) areas → block_of x p ≡ Some b → block_of e p ≡ Some b
block_stays areas x e p b keeps far here =
    block-apart areas x e p b keeps (subst (λ (q : ℕ). AllByRecursion (IsApart (record { at = q; size = b.size })) areas) (block-stands x p b here).at far) here

tail_stays : (areas : List Area) (x e : List ℕ) (link : Option ℕ) (bs : List Block) → KeepsApart areas x e → AllByRecursion (λ (b : Block). AllByRecursion (IsApart (area_of_block b)) areas) bs → IsTail (block_of x) link bs → IsTail (block_of e) link bs
tail_stays areas x e None bs keeps far t = absurd t
tail_stays areas x e (Some p) [] keeps far t = absurd t
tail_stays areas x e (Some p) (b ∷ []) keeps far t = (block_stays areas x e p b keeps far.0 t.0, t.1)
tail_stays areas x e (Some p) (b ∷ c ∷ bs) keeps far t = (block_stays areas x e p b keeps far.0 t.0, t.1, tail_stays areas x e b.next (c ∷ bs) keeps far.1 t.2)

linked_stays : (areas : List Area) (x e : List ℕ) (p : ℕ) (bs : List Block) → KeepsApart areas x e → AllByRecursion (λ (b : Block). AllByRecursion (IsApart (area_of_block b)) areas) bs → chain.AreLinked (block_of x) p bs → chain.AreLinked (block_of e) p bs
linked_stays areas x e p [] keeps far l = absurd l
linked_stays areas x e p (b ∷ []) keeps far l = (block_stays areas x e p b keeps far.0 l.0, l.1)
linked_stays areas x e p (b ∷ c ∷ bs) keeps far l = (block_stays areas x e p b keeps far.0 l.0, l.1, tail_stays areas x e b.next (c ∷ bs) keeps far.1 l.2)

one_stays : (d : Defs) (areas : List Area) (x e : List ℕ) (r : StoredRow) → KeepsApart areas x e → AllByRecursion (λ (a : Area). AllByRecursion (IsApart a) areas) r.blocks → StandsInBlocks d x r → StandsInBlocks d e r
one_stays d areas x e r keeps far s =
    let own = all-mapped area_of_block (λ (a : Area). AllByRecursion (IsApart a) areas) s.chain (subst (λ (xs : List Area). AllByRecursion (λ (a : Area). AllByRecursion (IsApart a) areas) xs) (sym s.blocks) far) in
    record {
      chain = s.chain;
      is = record { linked = linked_stays areas x e r.at s.chain keeps own s.is.linked; filled = s.is.filled; whole = s.is.whole; apart = s.is.apart };
      blocks = s.blocks;
      packs = s.packs;
    }

pub rows-stay : (d : Defs) (areas : List Area) (x e : List ℕ) (rows : List StoredRow) → KeepsApart areas x e → AllByRecursion (λ (a : Area). AllByRecursion (IsApart a) areas) (row_areas rows) → AllByRecursion (StandsInBlocks d x) rows → AllByRecursion (StandsInBlocks d e) rows
rows-stay d areas x e [] keeps far all = tt
rows-stay d areas x e (r ∷ rows) keeps far all =
    let t = all-split (λ (a : Area). AllByRecursion (IsApart a) areas) r.blocks (row_areas rows) far in
    (one_stays d areas x e r keeps t.0 all.0, rows-stay d areas x e rows keeps t.1 all.1)

-- ---- areas that tile a file

pub tile-swap : (end : ℕ) (xs ys : List Area) → Tile end (xs ++ ys) → Tile end (ys ++ xs)
tile-swap end xs ys tile p = omega (arith, tile p, below-both p xs ys, below-both p ys xs)

pub far-across : (end : ℕ) (xs ys : List Area) → HaveBytes xs → HaveBytes ys → Tile end (xs ++ ys) → AllByRecursion (λ (a : Area). AllByRecursion (IsApart a) ys) xs
far-across end xs ys some more tile =
    apart-across ys xs (tile-apart end (ys ++ xs) (all-join (λ (a : Area). 0 < a.size) ys xs more some) (tile-swap end xs ys tile))

pub far-both : (ys zs xs : List Area) → AllByRecursion (λ (a : Area). AllByRecursion (IsApart a) ys) xs → AllByRecursion (λ (a : Area). AllByRecursion (IsApart a) zs) xs → AllByRecursion (λ (a : Area). AllByRecursion (IsApart a) (ys ++ zs)) xs
far-both ys zs [] a b = tt
far-both ys zs (x ∷ xs) a b = (all-join (IsApart x) ys zs a.0 b.0, far-both ys zs xs a.1 b.1)

apart_left : (xs ys : List Area) → AreApart (xs ++ ys) → AreApart xs
apart_left [] ys apart = tt
apart_left (x ∷ xs) ys apart = ((all-split (IsApart x) xs ys apart.0).0, apart_left xs ys apart.1)

pub apart_right : (xs ys : List Area) → AreApart (xs ++ ys) → AreApart ys
apart_right [] ys apart = apart
apart_right (x ∷ xs) ys apart = apart_right xs ys apart.1

-- ---- the whole

-- what a row takes in place of one with these blocks, where each block has a byte
pub record IsPlaced (d : Defs) (s : TableState) (own : List Area) (p : Placing) (at : ℕ) (row : List ℕ) : Type 0 where
  pub takes : TakesSpace Dynamic d.slot_length at s.space own (taken_of p)
  pub own_bytes : HaveBytes (areas_of p.pieces)
  pub hole_bytes : HaveBytes p.space.holes
  pub place : place_of p.pieces ≡ Some at
  pub hold : HoldRow (place_of p.pieces) row (row_blocks p.pieces row)

-- what is known of the other rows, which tile the file with these blocks and the deleted ones
pub record AreOthers (d : Defs) (s : TableState) (x : List ℕ) (own : List Area) (rows : List StoredRow) : Type 0 where
  pub row_bytes : HaveBytes (row_areas rows)
  pub free_bytes : HaveBytes (own ++ s.space.holes)
  pub tile : Tile s.space.end (row_areas rows ++ (own ++ s.space.holes))
  pub stand : AllByRecursion (StandsInBlocks d x) rows

pub put-over : (d : Defs) (s : TableState) (rows : List StoredRow) (own : List Area) (x e : List ℕ) (k : ListState) (p : Placing) (at : ℕ) (values : Values) (row : List ℕ) → IsSound d → d.format ≡ Dynamic → fits d values ≡ true → row ≡ spelling d values → AreOthers d s x own rows → IsPlaced d s own p at row → IsState d (with_row at values (taken_of p) rows).state → PutsRow k (own ++ s.space.holes) p row at x e → StandsFor d (with_row at values (taken_of p) rows).state e
put-over d s rows own x e k p at values row sound dynamic fit packed o i state puts =
    let others = row_areas rows in
    let free = own ++ s.space.holes in
    let new = areas_of p.pieces in
    let left = p.space.holes in
    let new_bytes = all-join (λ (a : Area). 0 < a.size) new left i.own_bytes i.hole_bytes in
    let tile = i.takes.tile others o.tile in
    let now = far-across p.space.end others (new ++ left) o.row_bytes new_bytes tile in
    let was = far-across s.space.end others free o.row_bytes o.free_bytes o.tile in
    let far_new = all-more (λ (a : Area). AllByRecursion (IsApart a) (new ++ left)) (λ (a : Area). AllByRecursion (IsApart a) new) others (λ a h. (all-split (IsApart a) new left h).0) now in
    let far_left = all-more (λ (a : Area). AllByRecursion (IsApart a) (new ++ left)) (λ (a : Area). AllByRecursion (IsApart a) left) others (λ a h. (all-split (IsApart a) new left h).1) now in
    let far = far-both new (free ++ left) others far_new (far-both free left others was far_left) in
    let apart = apart_left new left (apart_right others (new ++ left) (tile-apart p.space.end (others ++ (new ++ left)) (all-join (λ (a : Area). 0 < a.size) others (new ++ left) o.row_bytes new_bytes) tile)) in
    let r : StoredRow = record { at = at; values = values; blocks = new } in
    let here = row_stands d at values p.pieces row e sound fit packed i.place i.hold puts.blocks apart in
    stands-by d (with_row at values (taken_of p) rows).state e dynamic state puts.long
    (put-all (StandsInBlocks d e) r rows here (rows-stay d (new ++ (free ++ left)) x e rows puts.keeps far o.stand)) puts.holes_are.list

pub put-stands : (d : Defs) (s : TableState) (x e : List ℕ) (k : ListState) (p : Placing) (at : ℕ) (values : Values) (row : List ℕ) → IsSound d → d.format ≡ Dynamic → fits d values ≡ true → row ≡ spelling d values → IsDynamic d s x → IsPlaced d s [] p at row → IsState d (with_row at values (taken_of p) s.rows).state → PutsRow k s.space.holes p row at x e → StandsFor d (with_row at values (taken_of p) s.rows).state e
put-stands d s x e k p at values row sound dynamic fit packed q i state puts =
    let bytes = all-split (λ (a : Area). 0 < a.size) (row_areas s.rows) s.space.holes (state-bytes d s sound q.state) in
    put-over d s s.rows [] x e k p at values row sound dynamic fit packed (record { row_bytes = bytes.0; free_bytes = bytes.1; tile = q.state.tile; stand = q.stand }) i state puts
