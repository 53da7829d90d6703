-- A file of rows in any blocks that follow one another is read row by row.
use Rattle.std.proofs.Common.{◌≡◌, ℕ, ◌+◌, ◌<◌, Bool, true, false, List, [], ◌∷◌, ◌++◌, length, map, refl, sym, ap, subst, ◌∙◌, arith, append_assoc}
use Rattle.std.specs.Prelude.{◌==◌}
use Rattle.std.specs.List.{AllByRecursion}
use Rattle.std.proofs.lemmas.Bool.{eq-eqb, ne_eqb}
use Rattle.std.proofs.lemmas.List.{append-nil}
use Rattle.std.proofs.lemmas.List.Sums.{sum_by-cons}
use Rattle.myi_base.specs.Ranges.{Range, is_apart}
use Rattle.myi_frames.specs.Block.{Block, block_of}
use Rattle.myi_frames.specs.Sizes.{total_size}
use Rattle.myi_chain.specs.Chain.{Reading, IsReading, IsChain, AreLinked, AreApart, range_of, ranges}
use Rattle.myi_chain.specs.Readable.{Row, Item, row, row_at, end_of, rest, rows_of, items_in, readable}
use Rattle.myi_chain.specs.Laid.{AreJoined, IsGroup, AreGroups, group_rows}
use Rattle.myi_chain.proofs.BlockLemmas.{blocks_read}
use Rattle.myi_chain.proofs.CountLemmas.{IsBlock, chain_blocks}
use Rattle.myi_chain.proofs.LaidLemmas.{AreBelow, below_end, below_apart, below_more}
use Rattle.myi_chain.proofs.PlaceLemmas.{row_case, used_case}
use Rattle.myi_chain.proofs.ReadableLemmas.{rest_end}

-- all ranges begin above
abbrev AreAbove : ℕ → List Range → Type 0
AreAbove p rs = AllByRecursion (λ (r : Range). p < r.0) rs

above_end : (p : ℕ) (rs : List Range) → AreAbove p rs → end_of p rs ≡ 0
above_end p [] h = refl
above_end p (r ∷ rs) h =
    let other : (r.0 == p) ≡ false = ne_eqb _ _ (omega (arith, h.0)) in
    rw other (above_end p rs h.1)

-- the one range that begins at a place ends where it ends
end_here : (p e : ℕ) (used more : List Range) → AreBelow p used → AreAbove p more → end_of p (used ++ (p, e) ∷ more) ≡ e
end_here p e [] more below above =
    let same : (p == p) ≡ true = eq-eqb p p refl in
    let none = above_end p more above in
    rw (same, none) (omega arith)
end_here p e (r ∷ used) more below above =
    let other : (r.0 == p) ≡ false = ne_eqb _ _ (omega (arith, below.0.0, below.0.1)) in
    rw other (end_here p e used more below.1 above)

joined_above : (p q len : ℕ) (bs : List Block) → p < q → AreJoined q bs → AreAbove p (ranges bs)
joined_above p q len [] lt j = tt
joined_above p q len (b ∷ bs) lt j = (omega (arith, j.0), joined_above p (q + b.size) len bs (omega arith) j.1)

total_more : (b : Block) (bs : List Block) → total_size (b ∷ bs) ≡ b.size + total_size bs
total_more b bs = sum_by-cons (λ (b : Block). b.size) b bs

joined_below : (p len : ℕ) (bs : List Block) (used : List Range) → AreBelow p used → AreJoined p bs → AllByRecursion (IsBlock len) (ranges bs) → AreBelow (p + total_size bs) (used ++ ranges bs)
joined_below p len [] used below j inside = subst (λ q. AreBelow q (used ++ [])) (let e : p ≡ p + 0 = omega arith in e) (subst (AreBelow p) (sym (append-nil used)) below)
joined_below p len (b ∷ bs) used below j inside =
    let at = j.0 in
    let long : p < p + b.size = omega (arith, at, inside.0.0) in
    let one : AreBelow (p + b.size) (used ++ range_of b ∷ []) = subst (λ q. AreBelow (p + b.size) (used ++ (q, q + b.size) ∷ [])) (sym at) (below_more p (p + b.size) used below long) in
    let more = joined_below (p + b.size) len bs (used ++ range_of b ∷ []) one j.1 inside.1 in
    let sum : p + b.size + total_size bs ≡ p + total_size (b ∷ bs) = omega (arith, total_more b bs) in
    subst (λ q. AreBelow q (used ++ range_of b ∷ ranges bs)) sum (subst (AreBelow (p + b.size + total_size bs)) (append_assoc used (range_of b ∷ []) (ranges bs)) more)

joined_apart : (p len : ℕ) (bs : List Block) (used : List Range) → AreBelow p used → AreJoined p bs → AllByRecursion (IsBlock len) (ranges bs) → AreApart used (ranges bs)
joined_apart p len [] used below j inside = tt
joined_apart p len (b ∷ bs) used below j inside =
    let at = j.0 in
    let long : p < p + b.size = omega (arith, at, inside.0.0) in
    let here : is_apart (range_of b) used ≡ true = subst (λ q. is_apart (q, q + b.size) used ≡ true) (sym at) (below_apart p (p + b.size) used below) in
    let one : AreBelow (p + b.size) (used ++ range_of b ∷ []) = subst (λ q. AreBelow (p + b.size) (used ++ (q, q + b.size) ∷ [])) (sym at) (below_more p (p + b.size) used below long) in
    (here, joined_apart (p + b.size) len bs (used ++ range_of b ∷ []) one j.1 inside.1)

-- so blocks that are linked in such an order share no byte
pub joined_far : (read : Reading) (len : ℕ) → IsReading read len → (p : ℕ) (bs : List Block) → AreLinked read p bs → AreJoined p bs → AreApart [] (ranges bs)
joined_far read len stands p bs linked joined = joined_apart p len bs [] tt joined (chain_blocks read len stands p bs linked)

module _ (read : Reading) (len : ℕ) (stands : IsReading read len) (accepts : List ℕ → Bool) (extend : Bool) where
  -- used blocks that follow one another are passed, one by one
  passed : (p : ℕ) (bs : List Block) (used : List Range) → AreBelow p used → AreJoined p bs → AllByRecursion (IsBlock len) (ranges bs) → rest extend read len accepts p (used ++ ranges bs) ≡ rest extend read len accepts (p + total_size bs) (used ++ ranges bs)
  passed p [] used below j inside = ap (λ q. rest extend read len accepts q (used ++ [])) (let e : p ≡ p + 0 = omega arith in e)
  passed p (b ∷ bs) used below j inside =
      let at = j.0 in
      let all : List Range = used ++ range_of b ∷ ranges bs in
      let long : p < p + b.size = omega (arith, at, inside.0.0) in
      let under : p < len = omega (arith, at, inside.0.0, inside.0.1) in
      let end : end_of p all ≡ p + b.size =
      subst (λ q. end_of p (used ++ (q, q + b.size) ∷ ranges bs) ≡ p + b.size) (sym at) (end_here p (p + b.size) used (ranges bs) below (joined_above p (p + b.size) len bs long j.1)) in
      let one : AreBelow (p + b.size) (used ++ range_of b ∷ []) = subst (λ q. AreBelow (p + b.size) (used ++ (q, q + b.size) ∷ [])) (sym at) (below_more p (p + b.size) used below long) in
      let split : (used ++ range_of b ∷ []) ++ ranges bs ≡ all = append_assoc used (range_of b ∷ []) (ranges bs) in
      let more : rest extend read len accepts (p + b.size) all ≡ rest extend read len accepts (p + b.size + total_size bs) all =
      subst (λ (u : List Range). rest extend read len accepts (p + b.size) u ≡ rest extend read len accepts (p + b.size + total_size bs) u) split (passed (p + b.size) bs (used ++ range_of b ∷ []) one j.1 inside.1) in
      let sum : p + b.size + total_size bs ≡ p + total_size (b ∷ bs) = omega (arith, total_more b bs) in
      used_case extend read len accepts stands p all under (omega (arith, end))
      ∙ ap (λ q. rest extend read len accepts q all) end
      ∙ more
      ∙ ap (λ q. rest extend read len accepts q all) sum

  group_met : (p : ℕ) (bs : List Block) (used : List Range) → AreBelow p used → IsGroup read accepts p bs → (rest extend read len accepts p used ≡ row (row_at p bs) ∷ rest extend read len accepts (p + total_size bs) (used ++ ranges bs)) × AreBelow (p + total_size bs) (used ++ ranges bs)
  group_met p [] used below g = absurd g.chain.linked
  group_met p (b ∷ bs) used below g =
      let at = g.joined.0 in
      let inside = chain_blocks read len stands p (b ∷ bs) g.chain.linked in
      let long : p < p + b.size = omega (arith, at, inside.0.0) in
      let chain : IsChain read p used (b ∷ bs) = record { linked = g.chain.linked; filled = g.chain.filled; whole = g.chain.whole; apart = joined_apart p len (b ∷ bs) used below g.joined inside } in
      let met = row_case extend read len accepts stands p used b bs (omega (arith, below_end p used below)) chain g.packs in
      let one : AreBelow (p + b.size) (used ++ range_of b ∷ []) = subst (λ q. AreBelow (p + b.size) (used ++ (q, q + b.size) ∷ [])) (sym at) (below_more p (p + b.size) used below long) in
      let split : (used ++ range_of b ∷ []) ++ ranges bs ≡ used ++ range_of b ∷ ranges bs = append_assoc used (range_of b ∷ []) (ranges bs) in
      let over : rest extend read len accepts (p + b.size) (used ++ range_of b ∷ ranges bs) ≡ rest extend read len accepts (p + b.size + total_size bs) (used ++ range_of b ∷ ranges bs) =
      subst (λ (u : List Range). rest extend read len accepts (p + b.size) u ≡ rest extend read len accepts (p + b.size + total_size bs) u) split (passed (p + b.size) bs (used ++ range_of b ∷ []) one g.joined.1 inside.1) in
      let sum : p + b.size + total_size bs ≡ p + total_size (b ∷ bs) = omega (arith, total_more b bs) in (
        met ∙ ap (λ (is : List Item). row (row_at p (b ∷ bs)) ∷ is) (over ∙ ap (λ q. rest extend read len accepts q (used ++ range_of b ∷ ranges bs)) sum),
        joined_below p len (b ∷ bs) used below g.joined inside,
      )

  groups_rest : (p : ℕ) (groups : List (List Block)) (used : List Range) → AreBelow p used → AreGroups read accepts len p groups → rest extend read len accepts p used ≡ map (λ r. row r) (group_rows p groups)
  groups_rest p [] used below g = rest_end read len stands extend accepts p used (omega (arith, g))
  groups_rest p (bs ∷ groups) used below g =
      let met = group_met p bs used below g.0 in
      met.0 ∙ ap (λ (is : List Item). row (row_at p bs) ∷ is) (groups_rest (p + total_size bs) groups (used ++ ranges bs) met.1 g.1)

rows_shown : (rows : List Row) → rows_of (map (λ r. row r) rows) ≡ rows
rows_shown [] = refl
rows_shown (r ∷ rows) = ap (λ (x : List Row). r ∷ x) (rows_shown rows)

pub groups_read : (extend : Bool) (accepts : List ℕ → Bool) (d : List ℕ) (groups : List (List Block)) → AreGroups (block_of d) accepts (length d) 0 groups → readable extend accepts d ≡ group_rows 0 groups
unfolding readable items_in
groups_read extend accepts d groups g = ap rows_of (groups_rest (block_of d) (length d) (blocks_read d) accepts extend 0 groups [] tt g) ∙ rows_shown (group_rows 0 groups)
