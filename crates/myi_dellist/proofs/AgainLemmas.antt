-- A row that ends in a block of the row in whose place it is put stands where the definitions on lists say.
use Rattle.std.proofs.Common.{◌≡◌, ℕ, ◌≤◌, List, [], ◌∷◌, ◌++◌, length, take, drop, Option, Some, None, Result, Ok, refl, sym, ap, subst, ◌∙◌, arith}
use Rattle.std.specs.List.{AllByRecursion}
use Rattle.myi_frames.specs.declared.head.Head.{Head}
use Rattle.myi_frames.specs.declared.write.FrameSpec.{FrameSpec}
use Rattle.myi_frames.specs.Block.{Block, block_of}
use Rattle.myi_frames.specs.Writing.{written_block}
use Rattle.myi_frames.proofs.CallerLemmas.{block-own}
use Rattle.myi_dellist.specs.declared.pieces.Piece.{Piece}
use Rattle.myi_dellist.specs.Areas.{Area, IsApart, AreInside}
use Rattle.myi_dellist.specs.Releasing.{release_one, release_all, IsFreeable}
use Rattle.myi_dellist.specs.Placing.{Space, Placing, Taking, areas_of, taken_by, update, specs_of}
use Rattle.myi_dellist.specs.RowBlocks.{blocks_as}
use Rattle.myi_dellist.specs.Standing.{first_or, HasList}
use Rattle.myi_dellist.specs.Freeing.{hole_in}
use Rattle.myi_dellist.specs.FreeList.{ListState}
use Rattle.myi_dellist.specs.Rows.{row_written, PutsRow}
use Rattle.myi_dellist.specs.Several.{heads_in, heads_written, release_ones, release_ones_bytes}
use Rattle.myi_dellist.specs.Replacing.{own_taking, own_released, head_after, FitsInOwn, own_bytes}
use Rattle.myi_dellist.proofs.LinkLemmas.{all_split}
use Rattle.myi_dellist.proofs.FirstLemmas.{update-place}
use Rattle.myi_dellist.proofs.AppendedLemmas.{update-freeable}
use Rattle.myi_dellist.proofs.AtEndLemmas.{fill_ready}
use Rattle.myi_dellist.proofs.StandLemmas.{AreAligned, stand, rest_keeps, no_shorter, no_longer, list_stays, cross_of}
use Rattle.myi_dellist.proofs.FreeLemmas.{first_one}
use Rattle.myi_dellist.proofs.PutRowLemmas.{apart_right, cross_right}
use Rattle.myi_dellist.proofs.SeveralLemmas.{StandsThen, several-found, several-stand, parts-all}
use Rattle.myi_dellist.proofs.OwnLemmas.{IsOwn, update-own, done_of, left-of, clear-of, apart-released}

aligned_of : (ps : List Piece) → AllByRecursion IsFreeable (areas_of ps) → AreAligned ps
aligned_of [] f = tt
aligned_of (p ∷ ps) f = (f.0.aligned, aligned_of ps f.1)

-- the list begins with what was released last
pub head_is : (areas holes : List Area) → head_after (first_or holes None) areas ≡ first_or (release_ones areas holes) None
head_is [] holes = refl
head_is (a ∷ areas) holes = ap (λ (o : Option ℕ). head_after o areas) (sym (first_one a holes)) ∙ head_is areas (release_one a holes)

pub same_heads : (r : Result (List Head) ℕ) (xs ys : List Head) → r ≡ Ok xs → r ≡ Ok ys → xs ≡ ys
same_heads r xs ys e f = cc

-- the blocks of the row stand when areas are released that are apart from them
blocks_then : (fs : List FrameSpec) (qs : List Piece) (row : List ℕ) (areas holes : List Area) (y : List ℕ) → StandsThen areas holes y → AreInside (length y) (areas_of qs) → AllByRecursion (λ (q : Area). AllByRecursion (IsApart q) (areas ++ holes)) (areas_of qs) → AllByRecursion (λ (b : Block). block_of y b.at ≡ Some b) (blocks_as fs qs row) → AllByRecursion (λ (b : Block). block_of (release_ones_bytes areas holes y) b.at ≡ Some b) (blocks_as fs qs row)
blocks_then [] qs row areas holes y s inside far all = tt
blocks_then (f ∷ fs) [] row areas holes y s inside far all = tt
blocks_then (f ∷ fs) (p ∷ qs) row areas holes y s inside far all =
    let parts = all_split (IsApart (record { at = p.at; size = p.size })) areas holes far.0 in (
      block-own y (release_ones_bytes areas holes y) p.at (written_block f p.at p.size (take p.taken row)) (s.keeps p.at p.size inside.0 parts.0 parts.1) all.0,
      blocks_then fs qs (drop p.taken row) areas holes y s inside.1 far.1 all.1,
    )

pub own-row : (l k : ListState) (row d : List ℕ) (a : Area) (more holes : List Area) (heads : List Head) → FitsInOwn l k row d (a ∷ more) holes heads → PutsRow k ((a ∷ more) ++ holes) (update (record { holes = holes; end = l.end }) (a ∷ more) (length row)) row a.at d (own_bytes row (a ∷ more) heads d)
own-row l k row d a more holes heads w =
    let own_is : IsOwn l.end (a ∷ more) holes = record { free = w.free; inside = w.inside; apart = w.apart; sizes = w.has.list.sizes } in
    let len = length row in
    let own = a ∷ more in
    let s : Space = record { holes = holes; end = l.end } in
    let t = own_taking len own in
    let qs = t.pieces in
    let areas = own_released t in
    let is = update-own s own len w.none in
    let done = done_of len own w.some own_is.free w.none in
    let lf = left-of len l.end own holes w.some own_is w.none in
    let ready = fill_ready len l.end qs w.few w.short done.fill lf.pieces in
    let free = subst (λ (p : Placing). AllByRecursion IsFreeable (areas_of p.pieces)) is (update-freeable s own len w.some w.aligned own_is.free own_is.sizes) in
    let aligned = aligned_of qs free in
    let fs = specs_of len qs in
    let le : taken_by qs ≤ length row = omega (arith, ready.counts) in
    let y = row_written qs row d in
    let c = cross_of (areas_of qs) (areas ++ holes) lf.apart in
    let within : AreInside (length d) (areas_of qs) = subst (λ (n : ℕ). AreInside n (areas_of qs)) (sym w.long) lf.pieces in
    let long : length y ≡ length d = omega (arith, no_longer fs qs row d (length d) ready.writable le (omega arith) within, no_shorter fs qs row d ready.writable le) in
    let list = list_stays fs qs row d holes ready.writable le ready.below (cross_right (areas_of qs) areas holes c.1) w.has.list in
    let apart = apart_right (areas_of qs) (areas ++ holes) lf.apart in
    let found = several-found d areas holes w.has.list (record { sizes = lf.sizes; apart = apart; clear = clear-of d holes own len own_is.free w.listed }) in
    let same = same_heads (heads_in (hole_in d) (first_or holes None) areas) heads found.heads (ap (λ (o : Option ℕ). heads_in (hole_in d) o areas) (sym w.has.head) ∙ w.found) found.found in
    let bytes : heads_written heads y ≡ release_ones_bytes areas holes y = ap (λ (hs : List Head). heads_written hs y) same ∙ found.bytes_are y in
    let st = several-stand areas holes y lf.sizes (subst (λ (n : ℕ). AreInside n areas) (sym (long ∙ w.long)) lf.inside) apart list in
    let left = parts-all (t.spare ++ t.unused) holes in
    let e = release_ones_bytes areas holes y in
    subst (λ (x : List ℕ). PutsRow k (own ++ holes) (update s own len) row a.at d x) (sym bytes) (subst (λ (p : Placing). PutsRow k (own ++ holes) p row a.at d e) (sym is) (record {
      place_is = ap (λ (p : Placing). Rattle.myi_dellist.specs.Placing.place_of p.pieces) (sym is) ∙ update-place s a more len;
      holes_are = record {
        head = ap (λ (x : ListState). x.head) w.state ∙ ap (λ (o : Option ℕ). head_after o areas) w.has.head ∙ head_is areas holes ∙ ap (λ (hs : List Area). first_or hs None) left;
        list = subst (λ (hs : List Area). HasList e hs) left st.list;
      };
      end_is = ap (λ (x : ListState). x.end) w.state;
      long = st.long ∙ long ∙ w.long;
      blocks = blocks_then fs qs row areas holes y st (subst (λ (n : ℕ). AreInside n (areas_of qs)) (sym (long ∙ w.long)) lf.pieces) (crossed (areas_of qs) (areas ++ holes) c.1) (stand fs qs row d ready.writable aligned c.0 le);
      keeps = record {
        longer = omega (arith, st.long, long);
        bytes = λ p n inside far.
            let x : Area = record { at = p; size = n } in
            let one = all_split (IsApart x) (areas_of qs) ((own ++ holes) ++ release_all (t.spare ++ t.unused) holes) far in
            let two = all_split (IsApart x) (own ++ holes) (release_all (t.spare ++ t.unused) holes) one.1 in
            let three = all_split (IsApart x) own holes two.0 in
            st.keeps p n (omega (arith, inside, long)) (apart-released x len own three.0) three.1 ∙ rest_keeps fs qs row d p n ready.writable le inside one.0;
      };
    }))
  where
    crossed : (xs ys : List Area) → Rattle.myi_dellist.proofs.StandLemmas.AreCrossed xs ys → AllByRecursion (λ (q : Area). AllByRecursion (IsApart q) ys) xs
    crossed [] ys c = tt
    crossed (x ∷ xs) ys c = (c.0, crossed xs ys c.1)
