-- A row of a dynamic table stands in its blocks as a chain, be it one block or several.
use Rattle.std.proofs.Common.{◌≡◌, ℕ, ◌+◌, ◌-◌, ◌%◌, ◌^◌, ◌<◌, ◌≤◌, Bool, true, false, cond, List, [], ◌∷◌, ◌++◌, length, nat_lt, refl, sym, ap, ◌∙◌, arith}
use Rattle.std.proofs.lemmas.Bool.{ltb-true, ltb-false}
use Rattle.std.proofs.lemmas.List.{append-nil}
use Rattle.std.proofs.lemmas.List.Sums.{sum_by-cons}
use Rattle.myi_defs.specs.declared.types.RowFormat.{RowFormat}
use Rattle.myi_defs.specs.declared.types.RowFormat.TheVariants.{Static, Dynamic}
use Rattle.myi_defs.specs.declared.types.Defs.{Defs}
use Rattle.myi_defs.specs.Sound.{IsSound}
use Rattle.myi_frames.specs.Block.{Block, block_of}
use Rattle.myi_frames.specs.Sizes.{least_size, total_size}
use Rattle.myi_frames.specs.Writing.{IsWritable, whole_spec, written_block}
use Rattle.myi_frames.proofs.CallerLemmas.{length-block, least-writable}
use Rattle.myi_pack.specs.Spelling.{spelling}
use Rattle.myi_pack.proofs.CallerLemmas.{row-told}
use Rattle.myi_chain.specs.Chain.{IsChain, ranges, row_bytes}
use Rattle.myi_chain.specs.Laid.{AreJoined}
use Rattle.myi_data.specs.Stored.{SizedRow, Share, own_block, shares, shared_bytes, group_by, stored_by, group, stored_size, stored, ranges_from, HaveHeld, IsStorable}
use Rattle.myi_data.proofs.ShareLemmas.{total_shares, total_more, Fill, shares_multiple, shares_count}
use Rattle.myi_data.proofs.GiantLemmas.{held_fill, shared_blocks, shared_row, shared_joined, shared_ranges, shared_total, shared_long, block_at, shared_chain}
use Rattle.myi_data.proofs.SpellingLemmas.{spelling_some}

-- bytes that can stand in blocks: a giant row in sizes that held as many
pub record CanStand (sizes b : List ℕ) : Type 0 where
  pub some : 0 < length b
  pub few : length b < 2 ^ 32
  pub held : 2 ^ 24 ≤ length b → HaveHeld sizes (length b)

-- the blocks of a row
pub row_blocks : ℕ → List ℕ → List ℕ → List Block
row_blocks at sizes b = cond (nat_lt (length b) (2 ^ 24)) (written_block (whole_spec (length b)) at (least_size (length b)) b ∷ []) (shared_blocks at (shares sizes (length b)) b)

-- what holds of them wherever they stand
pub record IsShaped (at : ℕ) (b : List ℕ) (bytes : List ℕ) (group : List Share) (blocks : List Block) : Type 0 where
  pub row : row_bytes blocks ≡ b
  pub joined : AreJoined at blocks
  pub ranges : ranges blocks ≡ ranges_from at group
  pub total : total_size blocks ≡ total_shares group
  pub long : length bytes ≡ total_shares group
  pub multiple : total_shares group % 4 ≡ 0
  pub few : length group ≤ total_shares group
  pub some : 0 < total_shares group
  pub chain : (x front back : List ℕ) → length front ≡ at → at % 4 ≡ 0 → at + total_shares group < 2 ^ 64 - 1 → x ≡ front ++ (bytes ++ back) → IsChain (block_of x) at [] blocks

module _ (at : ℕ) (sizes b : List ℕ) (can : CanStand sizes b) where
  alone_shaped : length b < 2 ^ 24 → IsShaped at b (own_block b) (record { size = least_size (length b); taken = length b } ∷ []) (written_block (whole_spec (length b)) at (least_size (length b)) b ∷ [])
  alone_shaped short =
      let n : ℕ = length b in
      let size : ℕ = least_size n in
      let w : IsWritable (whole_spec n) n size = (least-writable n short).0 in
      let one : total_shares (record { size = size; taken = n } ∷ []) ≡ size = total_more (record { size = size; taken = n }) [] ∙ (let e : size + 0 ≡ size = omega arith in e) in
      record {
        row = append-nil b;
        joined = (refl, tt);
        ranges = refl;
        total = sum_by-cons (λ (c : Block). c.size) (written_block (whole_spec n) at size b) [] ∙ (let e : size + 0 ≡ size = omega arith in e) ∙ sym one;
        long = length-block (whole_spec n) b size w ∙ sym one;
        multiple = ap (λ m. m % 4) one ∙ w.multiple;
        few = omega (arith, one, w.least);
        some = omega (arith, one, w.least);
        chain = λ x front back long aligned near is. record {
          linked = (block_at x front back at (whole_spec n) size b long aligned w is, refl);
          filled = (can.some, tt);
          whole = ap (λ (y : List ℕ). length y) (append-nil b);
          apart = (refl, tt);
        };
      }

  giant_shaped : 2 ^ 24 ≤ length b → IsShaped at b (shared_bytes at (shares sizes (length b)) b) (shares sizes (length b)) (shared_blocks at (shares sizes (length b)) b)
  giant_shaped giant =
      let ss : List Share = shares sizes (length b) in
      let f : Fill ss (length b) = held_fill sizes (length b) (can.held giant) giant can.few in
      record {
        row = shared_row at ss b f;
        joined = shared_joined at ss b;
        ranges = shared_ranges at ss b;
        total = shared_total at ss b;
        long = shared_long at ss b f;
        multiple = shares_multiple ss (length b) f;
        few = (shares_count ss (length b) f).0;
        some = (shares_count ss (length b) f).1;
        chain = λ x front back long aligned near is. shared_chain x front back at ss b long aligned f near is;
      }

  pub row_shaped : IsShaped at b (stored_by Dynamic at sizes b) (group_by Dynamic sizes (length b)) (row_blocks at sizes b)
  unfolding row_blocks
  row_shaped = by (nat_lt (length b) (2 ^ 24)) refl
    where
      by : (t : Bool) → nat_lt (length b) (2 ^ 24) ≡ t → IsShaped at b (cond t (own_block b) (shared_bytes at (shares sizes (length b)) b)) (cond t (record { size = least_size (length b); taken = length b } ∷ []) (shares sizes (length b))) (cond t (written_block (whole_spec (length b)) at (least_size (length b)) b ∷ []) (shared_blocks at (shares sizes (length b)) b))
      by true e = alone_shaped (ltb-true _ _ e)
      by false e = giant_shaped (ltb-false _ _ e)

-- ---- the rows of a table

pub can_stand : (d : Defs) (r : SizedRow) → IsSound d → d.format ≡ Dynamic → IsStorable d r → CanStand r.sizes (spelling d r.values)
can_stand d r s dynamic can = record { some = spelling_some d r.values s can.fits; few = row-told d r.values dynamic can.fits; held = can.held dynamic }

pub stored_dynamic : (d : Defs) (r : SizedRow) (at : ℕ) → d.format ≡ Dynamic → stored d at r ≡ stored_by Dynamic at r.sizes (spelling d r.values)
unfolding stored
stored_dynamic d r at dynamic = ap (λ f. stored_by f at r.sizes (spelling d r.values)) dynamic

pub group_dynamic : (d : Defs) (r : SizedRow) → d.format ≡ Dynamic → group d r ≡ group_by Dynamic r.sizes (length (spelling d r.values))
unfolding group
group_dynamic d r dynamic = ap (λ f. group_by f r.sizes (length (spelling d r.values))) dynamic

pub stored_static : (d : Defs) (r : SizedRow) (at : ℕ) → d.format ≡ Static → stored d at r ≡ spelling d r.values
unfolding stored
stored_static d r at static = ap (λ f. stored_by f at r.sizes (spelling d r.values)) static

pub group_static : (d : Defs) (r : SizedRow) → d.format ≡ Static → group d r ≡ record { size = length (spelling d r.values); taken = length (spelling d r.values) } ∷ []
unfolding group
group_static d r static = ap (λ f. group_by f r.sizes (length (spelling d r.values))) static

pub size_static : (d : Defs) (r : SizedRow) → d.format ≡ Static → stored_size d r ≡ length (spelling d r.values)
size_static d r static =
    let n : ℕ = length (spelling d r.values) in
    ap (λ (g : List Share). total_shares g) (group_static d r static) ∙ total_more (record { size = n; taken = n }) [] ∙ (let sum : n + 0 ≡ n = omega arith in sum)

-- a row takes the bytes that its slot or its blocks have
pub stored_long : (d : Defs) (r : SizedRow) → IsSound d → IsStorable d r → (at : ℕ) → length (stored d at r) ≡ stored_size d r
stored_long d r s can at = of_format d.format refl
  where
    of_format : (f : RowFormat) → d.format ≡ f → length (stored d at r) ≡ stored_size d r
    of_format Static e = ap (λ (b : List ℕ). length b) (stored_static d r at e) ∙ sym (size_static d r e)
    of_format Dynamic e =
        ap (λ (b : List ℕ). length b) (stored_dynamic d r at e)
        ∙ (row_shaped at r.sizes (spelling d r.values) (can_stand d r s e can)).long
        ∙ ap (λ (g : List Share). total_shares g) (sym (group_dynamic d r e))

-- it has bytes, and no more blocks than bytes
pub stored_some : (d : Defs) (r : SizedRow) → IsSound d → IsStorable d r → (0 < stored_size d r) × (length (group d r) ≤ stored_size d r)
stored_some d r s can = of_format d.format refl
  where
    n : ℕ
    n = length (spelling d r.values)

    of_format : (f : RowFormat) → d.format ≡ f → (0 < stored_size d r) × (length (group d r) ≤ stored_size d r)
    of_format Static e =
        let some : 0 < n = spelling_some d r.values s can.fits in
        let size : stored_size d r ≡ n = size_static d r e in
        (omega (arith, some, size), omega (arith, some, size, ap (λ (g : List Share). length g) (group_static d r e)))
    of_format Dynamic e =
        let shape = row_shaped 0 r.sizes (spelling d r.values) (can_stand d r s e can) in
        let size : stored_size d r ≡ total_shares (group_by Dynamic r.sizes n) = ap (λ (g : List Share). total_shares g) (group_dynamic d r e) in
        (omega (arith, shape.some, size), omega (arith, shape.few, size, ap (λ (g : List Share). length g) (group_dynamic d r e)))
