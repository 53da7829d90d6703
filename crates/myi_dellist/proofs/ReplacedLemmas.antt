-- How many blocks come and go where a row is put in the place of another.
use Rattle.std.proofs.Common.{◌≡◌, ℕ, ◌+◌, ◌-◌, ◌%◌, ◌^◌, ◌<◌, ◌≤◌, List, ◌++◌, length, Option, None, true, refl, sym, ap, subst, ◌∙◌, arith}
use Rattle.std.specs.Prelude.{min, sum_by}
use Rattle.myi_base.specs.Holding.{Holding, bytes_of, IfTold}
use Rattle.myi_frames.specs.Block.{Block}
use Rattle.myi_dellist.specs.declared.pieces.Piece.{Piece}
use Rattle.myi_dellist.specs.declared.rows.Replaced.{Replaced}
use Rattle.myi_dellist.specs.declared.taking.ListEnds.{ListEnds}
use Rattle.myi_dellist.specs.Areas.{Area}
use Rattle.myi_dellist.specs.Placing.{Space, Placing, areas_of, sizes_of, own_areas, update}
use Rattle.myi_dellist.specs.Standing.{first_or}
use Rattle.myi_dellist.specs.Freeing.{hole_in}
use Rattle.myi_dellist.specs.FreeList.{ListState, HasHoles, IsLong}
use Rattle.myi_dellist.specs.Taking.{HasTaken}
use Rattle.myi_dellist.specs.Rows.{AreListedBehind}
use Rattle.myi_dellist.specs.Putting.{PutCounts, ends_of}
use Rattle.myi_dellist.specs.Several.{added_in}
use Rattle.myi_dellist.specs.Chains.{IsRowIn, areas_in, StandsIn}
use Rattle.myi_dellist.specs.Replacing.{own_taking, own_released, CountsReplaced, TalliesReplaced}
use Rattle.myi_dellist.proofs.LinkLemmas.{all_split}
use Rattle.myi_dellist.proofs.FreeLemmas.{IsOf, moved}
use Rattle.myi_dellist.proofs.OwnLemmas.{update-own, left-of, clear-of}
use Rattle.myi_dellist.proofs.PutRowLemmas.{IsBefore, apart_right}
use Rattle.myi_dellist.proofs.SeveralLemmas.{several-found, parts-all}
use Rattle.myi_dellist.proofs.ChainLemmas.{standing-read}
use Rattle.myi_dellist.proofs.FreedRowLemmas.{area_count, area_sizes}
use Rattle.myi_dellist.proofs.TallyLemmas.{taken_all, put-counted}
use Rattle.myi_dellist.proofs.RewriteLemmas.{stands_inside, begun_by}

-- the answer, by the blocks of both rows
abbrev pub replaced_of : ℕ → List Piece → List Piece → ℕ → ℕ → Replaced
replaced_of at own qs taken more = record {
  put = record { at = at; blocks = length qs; bytes = min (sizes_of qs) (2 ^ 64 - 1); taken = taken; more = more };
  blocks = length own;
  bytes = min (sizes_of own) (2 ^ 64 - 1);
}

-- what the row takes of the deleted blocks, and what is on the list that was not
record TakesHoles (holes : List Area) (p : Placing) (qs : List Piece) (taken more : ℕ) : Type 0 where
  pieces : p.pieces ≡ qs
  holes_are : length p.space.holes + taken ≡ length holes + more
  few : taken ≤ length holes

counts_by : (bs : List Block) (holes : List Area) (p : Placing) (at : ℕ) (own qs : List Piece) (taken more : ℕ) → areas_of own ≡ areas_in bs → TakesHoles holes p qs taken more → CountsReplaced (areas_in bs) holes p (replaced_of at own qs taken more)
counts_by bs holes p at own qs taken more same t = record {
  blocks = ap (λ (xs : List Piece). length xs) (sym t.pieces);
  bytes = ap (λ (xs : List Piece). min (sizes_of xs) (2 ^ 64 - 1)) (sym t.pieces);
  holes_are = t.holes_are;
  few = t.few;
  had = sym (area_count own) ∙ ap (λ (xs : List Area). length xs) same;
  had_bytes = ap (λ (n : ℕ). min n (2 ^ 64 - 1)) (area_sizes own ∙ ap (λ (xs : List Area). sum_by (λ (a : Area). a.size) xs) same);
}

-- ---- the row fills the blocks of the other one

fills_counts : (l : ListState) (m : Holding) (at : ℕ) (row old : List ℕ) (bs : List Block) (holes : List Area) (ps qs : List Piece) (left taken whole more : ℕ) → 0 < length row → length row < 2 ^ 32 → IsLong l m → l.end % 4 ≡ 0 → HasHoles l holes (bytes_of l.name m) → StandsIn (bytes_of l.name m) at old bs holes → AreListedBehind (areas_in bs ++ holes) holes (bytes_of l.name m) → 0 < left → HasTaken (own_areas (length row) (areas_in bs)) (length row) ps left → PutCounts (own_areas (length row) (areas_in bs)) (bytes_of l.name m) (ends_of l) (length row) qs whole more → taken + length ps ≡ whole → TakesHoles holes (update (record { holes = holes; end = l.end }) (areas_in bs) (length row)) qs taken more
fills_counts l m at row old bs holes ps qs left taken whole more some few long aligned has stands listed goes h counts is =
    let d = bytes_of l.name m in
    let len = length row in
    let own = own_areas len (areas_in bs) in
    let f = stands_inside l m at old bs holes long stands in
    let behind = all_split _ (areas_in bs) holes listed in
    let goes_on : 0 < (own_taking len (areas_in bs)).left = omega (arith, goes, h.1) in
    let short : length d < 2 ^ 64 = has.list.short in
    let w : IsBefore own l l row d holes (ends_of l) = record { is = refl; some = some; few = few; long = long; aligned = aligned; short = omega (arith, long, short); has = has; begun = begun_by l len (areas_in bs) holes f has.list.sizes stands.apart goes_on } in
    let k = put-counted own l row d holes qs whole more w behind.1 counts in
    let mine : length ps ≡ length own = ap (λ (xs : List Piece). length xs) (sym h.0) ∙ taken_all len true len own goes_on in
    record {
      pieces = k.pieces;
      holes_are = omega (arith, k.holes_are, is, mine);
      few = omega (arith, k.most, is, mine);
    }

pub tallies-fills : (old mid : Option Holding) (l : ListState) (name again : List ℕ) (list : ListEnds) (own areas ps qs : List Piece) (at left taken whole more : ℕ) (row : List ℕ) → IsOf l name list.end list.head → again ≡ name → mid ≡ old → 0 < length row → length row < 2 ^ 32 → IfTold old (IsLong l) → 0 < left → HasTaken (areas_of areas) (length row) ps left → areas_of areas ≡ own_areas (length row) (areas_of own) → IfTold old (λ m. length (bytes_of name m) ≡ list.end → IsRowIn (bytes_of name m) at own)
    → IfTold mid (λ m. length (bytes_of again m) ≡ list.end → (o : List Area) → HasTaken o (length row) ps left → PutCounts o (bytes_of again m) list (length row) qs whole more) → taken + length ps ≡ whole → IfTold old (TalliesReplaced l at (length row) (replaced_of at own qs taken more))
tallies-fills old mid l name again list own areas ps qs at left taken whole more row o also e some few long goes h is read counts sum m held was bs holes aligned has stands listed =
    let len = length row in
    let rows = moved (λ a b c. IfTold old (λ m. length (bytes_of a m) ≡ b → IsRowIn (bytes_of a m) at own)) l name list.end list.head o read in
    let same : areas_of own ≡ areas_in bs = standing-read (bytes_of l.name m) at was bs holes own stands (rows m held (long m held)) in
    let t = moved (λ a b c. IfTold mid (λ m. length (bytes_of a m) ≡ b → (o : List Area) → HasTaken o len ps left → PutCounts o (bytes_of a m) (record { head = c; end = b }) len qs whole more)) l name list.end list.head o (subst (λ (x : List ℕ). IfTold mid (λ m. length (bytes_of x m) ≡ list.end → (y : List Area) → HasTaken y len ps left → PutCounts y (bytes_of x m) list len qs whole more)) also counts) in
    let mine : HasTaken (own_areas len (areas_in bs)) len ps left = subst (λ (xs : List Area). HasTaken xs len ps left) (is ∙ ap (λ (xs : List Area). own_areas len xs) same) h in
    counts_by bs holes (update (record { holes = holes; end = l.end }) (areas_in bs) len) at own qs taken more same
    (fills_counts l m at row was bs holes ps qs left taken whole more some few (long m held) aligned has stands listed goes mine (t m (e ∙ held) (long m held) (own_areas len (areas_in bs)) mine) sum)

-- ---- it ends in one of them

ends_counts : (l : ListState) (m : Holding) (at len : ℕ) (old : List ℕ) (bs : List Block) (holes : List Area) (more : ℕ) → 0 < len → IsLong l m → HasHoles l holes (bytes_of l.name m) → StandsIn (bytes_of l.name m) at old bs holes → AreListedBehind (areas_in bs ++ holes) holes (bytes_of l.name m) → (own_taking len (areas_in bs)).left ≡ 0 → more ≡ added_in (hole_in (bytes_of l.name m)) l.head (own_released (own_taking len (areas_in bs))) → TakesHoles holes (update (record { holes = holes; end = l.end }) (areas_in bs) len) (own_taking len (areas_in bs)).pieces 0 more
ends_counts l m at len old bs holes more some long has stands listed none added =
    let d = bytes_of l.name m in
    let own = areas_in bs in
    let s : Space = record { holes = holes; end = l.end } in
    let t = own_taking len own in
    let areas = own_released t in
    let f = stands_inside l m at old bs holes long stands in
    let behind = all_split _ (areas_in bs) holes listed in
    let lf = left-of len l.end own holes some (record { free = f.0; inside = f.1; apart = stands.apart; sizes = has.list.sizes }) none in
    let found = several-found d areas holes has.list (record { sizes = lf.sizes; apart = apart_right (areas_of t.pieces) (areas ++ holes) lf.apart; clear = clear-of d holes own len f.0 behind.0 }) in
    let here : more ≡ added_in (hole_in d) (first_or holes None) areas = added ∙ ap (λ (o : Option ℕ). added_in (hole_in d) o areas) has.head in
    subst (λ (p : Placing). TakesHoles holes p t.pieces 0 more) (sym (update-own s own len none)) (record {
      pieces = refl;
      holes_are = omega (arith, ap (λ (xs : List Area). length xs) (parts-all (t.spare ++ t.unused) holes), found.counts, here);
      few = omega arith;
    })

pub tallies-ends : (old : Option Holding) (l : ListState) (own qs : List Piece) (at len more : ℕ) → 0 < len → IfTold old (IsLong l) → IfTold old (λ m. IsLong l m → IsRowIn (bytes_of l.name m) at own) → HasTaken (own_areas len (areas_of own)) len qs 0 → IfTold old (λ m. IsLong l m → more ≡ added_in (hole_in (bytes_of l.name m)) l.head (own_released (own_taking len (areas_of own)))) → IfTold old (TalliesReplaced l at len (replaced_of at own qs 0 more))
tallies-ends old l own qs at len more some long rows h added m held was bs holes aligned has stands listed =
    let same : areas_of own ≡ areas_in bs = standing-read (bytes_of l.name m) at was bs holes own stands (rows m held (long m held)) in
    let mine : HasTaken (own_areas len (areas_in bs)) len qs 0 = subst (λ (xs : List Area). HasTaken (own_areas len xs) len qs 0) same h in
    let t = ends_counts l m at len was bs holes more some (long m held) has stands listed mine.1 (added m held (long m held) ∙ ap (λ (xs : List Area). added_in (hole_in (bytes_of l.name m)) l.head (own_released (own_taking len xs))) same) in
    counts_by bs holes (update (record { holes = holes; end = l.end }) (areas_in bs) len) at own qs 0 more same
    (subst (λ (xs : List Piece). TakesHoles holes (update (record { holes = holes; end = l.end }) (areas_in bs) len) xs 0 more) mine.0 t)
