-- A file of one whole block for each row is read row by row.
use Rattle.std.proofs.Common.{◌≡◌, ℕ, ◌+◌, ◌<◌, ◌≤◌, Bool, true, false, List, [], ◌∷◌, ◌++◌, length, map, Some, refl, ap, ◌∙◌, arith}
use Rattle.std.specs.Prelude.{◌==◌, nat_lt, nat_le, ◌&&◌, ◌||◌, option_to_list}
use Rattle.std.specs.List.{AllByRecursion}
use Rattle.std.proofs.lemmas.Bool.{lt-ltb, le-ltb, le-leb, eq-eqb, ne_eqb}
use Rattle.std.proofs.lemmas.List.{append-nil}
use Rattle.myi_base.specs.Ranges.{Range, is_apart}
use Rattle.myi_frames.specs.Block.{Block, block_of}
use Rattle.myi_chain.specs.Chain.{Reading, IsReading, range_of, row_bytes, chain_of}
use Rattle.myi_chain.specs.Readable.{Row, Item, row, Step, end_of, step_of, rest, rows_of, items_in, readable}
use Rattle.myi_chain.specs.Laid.{IsWholeRow, AreLaid, whole_row}
use Rattle.myi_chain.proofs.BlockLemmas.{blocks_read}
use Rattle.myi_chain.proofs.ReadableLemmas.{rest_end, rest_step}

-- all used ranges lie below
abbrev pub AreBelow : ℕ → List Range → Type 0
AreBelow p used = AllByRecursion (λ r. (r.0 < r.1) × (r.1 ≤ p)) used

pub below_end : (p : ℕ) (used : List Range) → AreBelow p used → end_of p used ≡ 0
below_end p [] h = refl
below_end p (r ∷ used) h =
    let other : (r.0 == p) ≡ false = ne_eqb _ _ (omega (arith, h.0.0, h.0.1)) in
    rw other (below_end p used h.1)

pub below_apart : (p e : ℕ) (used : List Range) → AreBelow p used → is_apart (p, e) used ≡ true
below_apart p e [] h = refl
below_apart p e (r ∷ used) h =
    let before : nat_le r.1 p ≡ true = le-leb _ _ h.0.1 in
    let more : is_apart (p, e) used ≡ true = below_apart p e used h.1 in
    either_le (nat_le e r.0) (nat_le r.1 p) before more
  where
    either_le : (a b : Bool) {c : Bool} → b ≡ true → c ≡ true → ((a || b) && c) ≡ true
    either_le true b e f = f
    either_le false b e f = rw (e, f) refl

pub below_more : (p q : ℕ) (used : List Range) → AreBelow p used → p < q → AreBelow q (used ++ (p, q) ∷ [])
below_more p q [] h lt = ((lt, omega arith), tt)
below_more p q (r ∷ used) h lt = ((h.0.0, omega (arith, h.0.1)), below_more p q used h.1 lt)

module _ (read : Reading) (len : ℕ) (stands : IsReading read len) (accepts : List ℕ → Bool) where
  whole_chain : (p : ℕ) (b : Block) (used : List Range) → IsWholeRow read accepts p b → is_apart (range_of b) used ≡ true → chain_of read p used ≡ Some (b ∷ [])
  unfolding chain_of
  whole_chain p b used w apart =
      let here = w.here in
      let kind = w.kind in
      let some : nat_lt 0 (length b.bytes) ≡ true = lt-ltb _ _ w.some in
      let all : (length b.bytes == b.rec_len) ≡ true = eq-eqb _ _ w.all in
      rw (here, some, apart, kind, all) refl

  whole_step : (extend : Bool) (p : ℕ) (b : Block) (used : List Range) → IsWholeRow read accepts p b → AreBelow p used → step_of extend read accepts p used ≡ record { item = Some (row (whole_row b)); to = p + b.size; used = used ++ range_of b ∷ [] }
  unfolding step_of
  whole_step extend p b used w below =
      let none = below_end p used below in
      let at = (stands p b w.here).at in
      let apart : is_apart (range_of b) used ≡ true = rw at (below_apart p (p + b.size) used below) in
      let chain = whole_chain p b used w apart in
      let packs : accepts (row_bytes (b ∷ [])) ≡ true = rw append-nil w.packs in
      let under : nat_lt p 0 ≡ false = le-ltb _ _ (omega arith) in
      rw (none, under, chain, packs, append-nil, ← at) refl

  stepped : (extend : Bool) (s t : Step) → s ≡ t → (i : Item) (is : List Item) → t.item ≡ Some i → rest extend read len accepts t.to t.used ≡ is → option_to_list s.item ++ rest extend read len accepts s.to s.used ≡ i ∷ is
  stepped extend s t e i is item more = rw (e, item, more) refl

  laid_inside : (p : ℕ) (bs : List Block) → AreLaid read accepts len p bs → p ≤ len
  laid_inside p [] h = omega arith
  laid_inside p (b ∷ bs) h = omega (arith, laid_inside (p + b.size) bs h.1)

  laid_rest : (extend : Bool) (p : ℕ) (bs : List Block) (used : List Range) → AreBelow p used → AreLaid read accepts len p bs → rest extend read len accepts p used ≡ map (λ b. row (whole_row b)) bs
  laid_rest extend p [] used below laid = rest_end read len stands extend accepts p used (omega arith)
  laid_rest extend p (b ∷ bs) used below laid =
      let w = laid.0 in
      let one = whole_step extend p b used w below in
      let s = stands p b w.here in
      let least = s.least in
      let at = s.at in
      let inside : p + b.size ≤ len = laid_inside (p + b.size) bs laid.1 in
      let under : p < len = omega arith in
      let step = rest_step read len stands extend accepts p used under in
      let more : rest extend read len accepts (p + b.size) (used ++ range_of b ∷ []) ≡ map (λ b. row (whole_row b)) bs =
      laid_rest extend (p + b.size) bs (used ++ range_of b ∷ []) (rw at (below_more p (p + b.size) used below (omega arith))) laid.1 in
      step ∙ stepped extend (step_of extend read accepts p used) _ one (row (whole_row b)) _ refl more

  pub laid_read : (extend : Bool) (bs : List Block) → AreLaid read accepts len 0 bs → rest extend read len accepts 0 [] ≡ map (λ b. row (whole_row b)) bs
  laid_read extend bs laid = laid_rest extend 0 bs [] tt laid

rows_shown : (bs : List Block) → rows_of (map (λ b. row (whole_row b)) bs) ≡ map whole_row bs
rows_shown [] = refl
rows_shown (b ∷ bs) = ap (λ (x : List Row). whole_row b ∷ x) (rows_shown bs)

pub laid_rows : (extend : Bool) (accepts : List ℕ → Bool) (d : List ℕ) (bs : List Block) → AreLaid (block_of d) accepts (length d) 0 bs → readable extend accepts d ≡ map whole_row bs
unfolding readable items_in
laid_rows extend accepts d bs laid = ap rows_of (laid_read (block_of d) (length d) (blocks_read d) accepts extend bs laid) ∙ rows_shown bs
