-- What the areas of a state show in a file that stands for it.
use Rattle.std.proofs.Common.{◌≡◌, ℕ, zero, suc, ◌+◌, ◌*◌, ◌/◌, ◌<◌, ◌≤◌, ◌⊎◌, inl, inr, Bool, true, false, List, [], ◌∷◌, ◌++◌, length, map, take, drop, Option, Some, None, refl, sym, ap, subst, ◌∙◌, arith}
use Rattle.std.specs.Prelude.{◌==◌, not, ◌&&◌, slice_index, is_some, option_and_then, if◌then◌else◌}
use Rattle.std.specs.List.{AllByRecursion, flat_map}
use Rattle.std.proofs.lemmas.List.{drop-drop}
use Rattle.std.proofs.lemmas.Nat.{div-mul-add}
use Rattle.myi_base.specs.Ranges.{Range}
use Rattle.myi_defs.specs.declared.types.RowFormat.{RowFormat}
use Rattle.myi_defs.specs.declared.types.RowFormat.TheVariants.{Static, Dynamic}
use Rattle.myi_defs.specs.declared.types.Defs.{Defs}
use Rattle.myi_frames.specs.declared.form.FrameKind.{FrameKind}
use Rattle.myi_frames.specs.declared.form.FrameKind.TheVariants.{Deleted, Whole, Start, Middle, End}
use Rattle.myi_frames.specs.Block.{Block, block_of}
use Rattle.myi_pack.specs.Packed.{Values}
use Rattle.myi_pack.specs.Unpacking.{row_of, parts_of, ended, fields_of}
use Rattle.myi_chain.specs.Chain.{Reading, IsReading, IsChain, IsTail, range_of, by_kind, chain_of}
use Rattle.myi_chain.specs.Readable.{Row, Item, row, free, row_at}
use Rattle.myi_chain.specs.Parts.{Part, first, further, deleted, block_in, parts_met, IsPart, IsMadeOf}
use Rattle.myi_chain.specs.Parts as parts
use Rattle.myi_dellist.specs.Areas.{Area}
use Rattle.myi_dellist.specs.Order.{Follow}
use Rattle.myi_dellist.specs.Standing as list
use Rattle.myi_data.specs.Slots.{Slot, slots}
use Rattle.myi_data.specs.Readable.{packs, slot_items, items_at}
use Rattle.myi_state.specs.State.{StoredRow}
use Rattle.myi_state.specs.Sound.{IsSlot}
use Rattle.myi_state.specs.Standing.{area_of_block, StandsInBlocks, slot_bytes, StandsInSlot, ListSlots, range_of_area}

-- ---- dynamic tables

module _ (x : List ℕ) where
  abbrev pub chain_row : ℕ → Option (List Block) → List Item
  chain_row p None = []
  chain_row p (Some bs) = row (row_at p bs) ∷ []

  abbrev pub block_shows : ℕ → Option Block → List Item
  block_shows p None = []
  block_shows p (Some b) = by_kind b.kind (free (range_of b) ∷ []) (chain_row p (chain_of (block_of x) p [])) (chain_row p (chain_of (block_of x) p [])) [] []

  -- what the block at a place shows
  abbrev pub shown_block : Area → List Item
  shown_block a = block_shows a.at (block_of x a.at)

  -- how a chain is found
  abbrev pub FindsChains : Type 0
  FindsChains = (read : Reading) (p : ℕ) (used : List Range) (bs : List Block) → IsChain read p used bs → chain_of read p used ≡ Some bs

  kind_row : (p : ℕ) (b : Block) (bs : List Block) → block_of x p ≡ Some b → (b.kind ≡ Whole) ⊎ (b.kind ≡ Start) → chain_of (block_of x) p [] ≡ Some bs → block_shows p (block_of x p) ≡ row (row_at p bs) ∷ []
  kind_row p b bs e (inl k) c =
      ap (λ (o : Option Block). block_shows p o) e
      ∙ ap (λ (q : FrameKind). by_kind q (free (range_of b) ∷ []) (chain_row p (chain_of (block_of x) p [])) (chain_row p (chain_of (block_of x) p [])) [] []) k
      ∙ ap (λ (o : Option (List Block)). chain_row p o) c
  kind_row p b bs e (inr k) c =
      ap (λ (o : Option Block). block_shows p o) e
      ∙ ap (λ (q : FrameKind). by_kind q (free (range_of b) ∷ []) (chain_row p (chain_of (block_of x) p [])) (chain_row p (chain_of (block_of x) p [])) [] []) k
      ∙ ap (λ (o : Option (List Block)). chain_row p o) c

  kind_none : (p : ℕ) (b : Block) → block_of x p ≡ Some b → (b.kind ≡ Middle) ⊎ (b.kind ≡ End) → block_shows p (block_of x p) ≡ []
  kind_none p b e (inl k) =
      ap (λ (o : Option Block). block_shows p o) e
      ∙ ap (λ (q : FrameKind). by_kind q (free (range_of b) ∷ []) (chain_row p (chain_of (block_of x) p [])) (chain_row p (chain_of (block_of x) p [])) [] []) k
  kind_none p b e (inr k) =
      ap (λ (o : Option Block). block_shows p o) e
      ∙ ap (λ (q : FrameKind). by_kind q (free (range_of b) ∷ []) (chain_row p (chain_of (block_of x) p [])) (chain_row p (chain_of (block_of x) p [])) [] []) k

  kind_free : (p : ℕ) (b : Block) → block_of x p ≡ Some b → b.kind ≡ Deleted → block_shows p (block_of x p) ≡ free (range_of b) ∷ []
  kind_free p b e k =
      ap (λ (o : Option Block). block_shows p o) e
      ∙ ap (λ (q : FrameKind). by_kind q (free (range_of b) ∷ []) (chain_row p (chain_of (block_of x) p [])) (chain_row p (chain_of (block_of x) p [])) [] []) k

  -- a block of the file, seen from its own place
  pub block_own : IsReading (block_of x) (length x) → (p : ℕ) (b : Block) → block_of x p ≡ Some b → (block_of x b.at ≡ Some b) × (20 ≤ b.size) × (b.at + b.size ≤ length x)
  block_own stands p b e =
      let at = (stands p b e).at in
      let least = (stands p b e).least in
      let inside = (stands p b e).inside in
      (ap (λ q. block_of x q) at ∙ e, least, omega (arith, at, inside))

  -- the blocks behind the first show nothing
  abbrev pub ShowsNothing : Area → Type 0
  ShowsNothing a = shown_block a ≡ []

  tail_shows : IsReading (block_of x) (length x) → (n : Option ℕ) (bs : List Block) → IsTail (block_of x) n bs → AllByRecursion ShowsNothing (map area_of_block bs)
  tail_shows stands None bs t = absurd t
  tail_shows stands (Some p) [] t = tt
  tail_shows stands (Some p) (b ∷ []) t = (kind_none b.at b (block_own stands p b t.0).0 (inr t.1), tt)
  tail_shows stands (Some p) (b ∷ c ∷ bs) t = (kind_none b.at b (block_own stands p b t.0).0 (inl t.1), tail_shows stands b.next (c ∷ bs) t.2)

  -- the first block of a row shows the row, and the others nothing
  pub record ShowsRow (r : StoredRow) (q : Row) : Type 0 where
    pub head : Area
    pub more : List Area
    pub is : r.blocks ≡ head ∷ more
    pub shows : shown_block head ≡ row q ∷ []
    pub nothing : AllByRecursion ShowsNothing more
    pub there : head.at ≡ r.at

  chain_shows : IsReading (block_of x) (length x) → FindsChains → (r : StoredRow) (bs : List Block) → IsChain (block_of x) r.at [] bs → map area_of_block bs ≡ r.blocks → ShowsRow r (row_at r.at bs)
  chain_shows stands finds r [] chain e = absurd chain.linked
  chain_shows stands finds r (b ∷ []) chain e =
      let here = chain.linked.0 in
      let at : b.at ≡ r.at = (stands r.at b here).at in
      let found = finds (block_of x) r.at [] (b ∷ []) chain in
      record {
        head = area_of_block b;
        more = [];
        is = sym e;
        there = at;
        nothing = tt;
        shows = ap (λ q. block_shows q (block_of x q)) at ∙ kind_row r.at b (b ∷ []) here (inl chain.linked.1) found;
      }
  chain_shows stands finds r (b ∷ c ∷ bs) chain e =
      let here = chain.linked.0 in
      let at : b.at ≡ r.at = (stands r.at b here).at in
      let found = finds (block_of x) r.at [] (b ∷ c ∷ bs) chain in
      record {
        head = area_of_block b;
        more = map area_of_block (c ∷ bs);
        is = sym e;
        there = at;
        nothing = tail_shows stands b.next (c ∷ bs) chain.linked.2;
        shows = ap (λ q. block_shows q (block_of x q)) at ∙ kind_row r.at b (b ∷ c ∷ bs) here (inl2 chain) found;
      }
    where
      inl2 : IsChain (block_of x) r.at [] (b ∷ c ∷ bs) → (b.kind ≡ Whole) ⊎ (b.kind ≡ Start)
      inl2 k = inr k.linked.1

  pub row-shows : (d : Defs) → IsReading (block_of x) (length x) → FindsChains → (r : StoredRow) → (s : StandsInBlocks d x r) → ShowsRow r (row_at r.at s.chain)
  row-shows d stands finds r s = chain_shows stands finds r s.chain s.is s.blocks

  pub hole-shows : (prev next : Option ℕ) (holes : List Area) → list.IsPart x prev holes next → AllByRecursion (λ (a : Area). shown_block a ≡ free (range_of_area a) ∷ []) holes
  hole-shows prev next [] part = tt
  hole-shows prev next (a ∷ holes) part = (kind_free a.at (list.hole_block a (list.first_or holes next) prev) part.0 refl, hole-shows (Some a.at) next holes part.1)

  -- ---- a file that is made of parts shows them

  part_read : (accepts : List ℕ → Bool) (rows : List Range) (c : Part) → IsPart (block_of x) accepts rows c → block_of x (block_in c).at ≡ Some (block_in c)
  part_read accepts rows (first b []) p = p.chain.linked.0
  part_read accepts rows (first b (c ∷ bs)) p = p.chain.linked.0
  part_read accepts rows (further b) p = p.0
  part_read accepts rows (deleted b) p = p.0

  first_kind : (p : ℕ) (b : Block) (bs : List Block) → IsChain (block_of x) p [] (b ∷ bs) → (b.kind ≡ Whole) ⊎ (b.kind ≡ Start)
  first_kind p b [] chain = inl chain.linked.1
  first_kind p b (c ∷ bs) chain = inr chain.linked.1

  part_shows : FindsChains → (accepts : List ℕ → Bool) (rows : List Range) (c : Part) → IsPart (block_of x) accepts rows c → shown_block (area_of_block (block_in c)) ≡ parts_met (c ∷ [])
  part_shows finds accepts rows (first b bs) p = kind_row b.at b (b ∷ bs) (part_read accepts rows (first b bs) p) (first_kind b.at b bs p.chain) (finds (block_of x) b.at [] (b ∷ bs) p.chain)
  part_shows finds accepts rows (further b) p = kind_none b.at b p.0 p.1
  part_shows finds accepts rows (deleted b) p = kind_free b.at b p.0 p.1

  met_more : (c : Part) (ps : List Part) → parts_met (c ∷ ps) ≡ parts_met (c ∷ []) ++ parts_met ps
  met_more (first b bs) ps = refl
  met_more (further b) ps = refl
  met_more (deleted b) ps = refl

  -- an area is that of the block at its place
  abbrev pub IsOfBlock : Area → Type 0
  IsOfBlock a = (b : Block) × (block_of x a.at ≡ Some b) × (b.size ≡ a.size) × (20 ≤ a.size) × (a.at + a.size ≤ length x)

  pub parts-shown : IsReading (block_of x) (length x) → FindsChains → (accepts : List ℕ → Bool) (rows : List Range) (p : ℕ) (cells : List Area) (ps : List Part) → Follow (length x) p cells → AllByRecursion IsOfBlock cells → parts.Follow (length x) p ps → AllByRecursion (IsPart (block_of x) accepts rows) ps → parts_met ps ≡ flat_map shown_block cells
  parts-shown stands finds accepts rows p [] [] f all g each = refl
  parts-shown stands finds accepts rows p [] (c ∷ ps) f all g each =
      let own = block_own stands (block_in c).at (block_in c) (part_read accepts rows c each.0) in
      absurd (omega (arith, f, g.0, own.1, own.2))
  parts-shown stands finds accepts rows p (a ∷ cells) [] f all g each = absurd (omega (arith, g, f.0, all.0.3, all.0.4))
  parts-shown stands finds accepts rows p (a ∷ cells) (c ∷ ps) f all g each =
      let b = block_in c in
      let at : a.at ≡ b.at = f.0 ∙ sym g.0 in
      let here : block_of x a.at ≡ Some b = ap (λ q. block_of x q) at ∙ part_read accepts rows c each.0 in
      let same : Some all.0.0 ≡ Some b = sym all.0.1 ∙ here in
      let size : a.size ≡ b.size = sym all.0.2 ∙ ap (λ (o : Option Block). size_in o) same in
      let shown : shown_block a ≡ parts_met (c ∷ []) = ap (λ q. block_shows q (block_of x q)) at ∙ part_shows finds accepts rows c each.0 in
      met_more c ps ∙ ap (λ (is : List Item). is ++ parts_met ps) (sym shown)
      ∙ ap (λ (is : List Item). shown_block a ++ is) (parts-shown stands finds accepts rows (p + b.size) cells ps (subst (λ (n : ℕ). Follow (length x) (p + n) cells) size f.1) all.1 g.1 each.1)
    where
      size_in : Option Block → ℕ
      size_in None = 0
      size_in (Some b) = b.size

-- ---- static tables

-- what the slot at a place shows
abbrev pub shown_slot : Defs → List ℕ → Area → List Item
shown_slot d x a = slot_items (packs d) (record { at = a.at; bytes = slot_bytes d x a.at })

slots_shown : (d : Defs) (x : List ℕ) (n p : ℕ) (cells : List Area) → n ≡ length cells → Follow (length x) p cells → AllByRecursion (IsSlot d.slot_length) cells → flat_map (slot_items (packs d)) (slots n p d.slot_length (drop p x)) ≡ flat_map (shown_slot d x) cells
slots_shown d x zero p [] e f all = refl
slots_shown d x zero p (a ∷ cells) e f all = absurd (omega (arith, e))
slots_shown d x (suc n) p [] e f all = absurd (omega (arith, e))
slots_shown d x (suc n) p (a ∷ cells) e f all =
    let size = d.slot_length in
    let next : slots n (p + size) size (drop size (drop p x)) ≡ slots n (p + size) size (drop (p + size) x) = ap (λ (xs : List ℕ). slots n (p + size) size xs) (drop-drop size p x) in
    let follows = subst (λ (k : ℕ). Follow (length x) (p + k) cells) all.0 f.1 in
    let here : slot_items (packs d) (record { at = p; bytes = take size (drop p x) }) ≡ shown_slot d x a = ap (λ (q : ℕ). slot_items (packs d) (record { at = q; bytes = slot_bytes d x q })) (sym f.0) in
    ap (λ (ss : List Slot). slot_items (packs d) (record { at = p; bytes = take size (drop p x) }) ++ flat_map (slot_items (packs d)) ss) next
    ∙ ap (λ (is : List Item). is ++ flat_map (slot_items (packs d)) (slots n (p + size) size (drop (p + size) x))) here
    ∙ ap (λ (is : List Item). shown_slot d x a ++ is) (slots_shown d x n (p + size) cells (omega (arith, e)) follows all.1)

slots_long : (size end p : ℕ) (cells : List Area) → Follow end p cells → AllByRecursion (IsSlot size) cells → end ≡ p + length cells * size
slots_long size end p [] f all = omega (arith, f)
slots_long size end p (a ∷ cells) f all =
    let more = slots_long size end (p + a.size) cells f.1 all.1 in
    let same = all.0 in
    omega (arith, more, same, one_more (length cells) size)
  where
    one_more : (k n : ℕ) → (1 + k) * n ≡ n + k * n
    one_more k n = grind arith

pub static-shown : (d : Defs) (x : List ℕ) (cells : List Area) → 0 < d.slot_length → Follow (length x) 0 cells → AllByRecursion (IsSlot d.slot_length) cells → items_at (packs d) d.slot_length 0 x ≡ flat_map (shown_slot d x) cells
unfolding items_at
static-shown d x cells some f all =
    let long : length x ≡ length cells * d.slot_length + 0 = omega (arith, slots_long d.slot_length (length x) 0 cells f all) in
    let count : length x / d.slot_length ≡ length cells = ap (λ (q : ℕ). q / d.slot_length) long ∙ div-mul-add (length cells) d.slot_length 0 some in
    slots_shown d x (length x / d.slot_length) 0 cells count f all

-- a row's bytes do not begin with 0 in a static table
pub static-begins : (d : Defs) (bytes : List ℕ) (values : Values) → d.format ≡ Static → row_of d bytes ≡ Some values → (slice_index bytes 0 == 0) ≡ false
unfolding row_of
static-begins d bytes values static e = by_format d.format static e
  where
    by_first : (z : Bool) → option_and_then (λ (p : List ℕ × List ℕ). ended Static (fields_of Static d.fields 0 p.0 p.1)) (if (length bytes == d.slot_length) && not z then Some ([], bytes) else None) ≡ Some values → z ≡ false
    by_first true f = absurd (none_of (length bytes == d.slot_length) f)
      where
        none_of : (t : Bool) → option_and_then (λ (p : List ℕ × List ℕ). ended Static (fields_of Static d.fields 0 p.0 p.1)) (if t && not true then Some ([], bytes) else None) ≡ Some values → ⊥
        none_of true f = absurd cc
        none_of false f = absurd cc
    by_first false f = refl

    by_format : (f : RowFormat) → f ≡ Static → option_and_then (λ (p : List ℕ × List ℕ). ended f (fields_of f d.fields 0 p.0 p.1)) (parts_of f d bytes) ≡ Some values → (slice_index bytes 0 == 0) ≡ false
    by_format Static s f = by_first (slice_index bytes 0 == 0) f
    by_format Dynamic s f = absurd cc

abbrev as_range : ℕ → ℕ → Range
as_range p q = (p, q)

pub slot-row-shows : (d : Defs) (x : List ℕ) (r : StoredRow) (a : Area) → d.format ≡ Static → StandsInSlot d x r → a.at ≡ r.at → length (slot_bytes d x r.at) ≡ a.size → shown_slot d x a ≡ row (record { at = r.at; bytes = slot_bytes d x r.at; blocks = range_of_area a ∷ [] }) ∷ []
slot-row-shows d x r a static stands at long =
    let begins = static-begins d (slot_bytes d x r.at) r.values static stands in
    let accepted : packs d (slot_bytes d x r.at) ≡ true = ap (λ (o : Option Values). is_some o) stands in
    let sized : r.at + length (slot_bytes d x r.at) ≡ a.at + a.size = omega (arith, at, long) in
    ap (λ (q : ℕ). slot_items (packs d) (record { at = q; bytes = slot_bytes d x q })) at
    ∙ shown begins accepted ∙ ap (λ (p : Range). row (record { at = r.at; bytes = slot_bytes d x r.at; blocks = p ∷ [] }) ∷ []) (pair r.at a.at (r.at + length (slot_bytes d x r.at)) (a.at + a.size) (sym at) sized)
  where
    pair : (p q m n : ℕ) → p ≡ q → m ≡ n → as_range p m ≡ as_range q n
    pair p q m n e f = ap (λ (k : ℕ). as_range k m) e ∙ ap (λ (k : ℕ). as_range q k) f

    shown : (slice_index (slot_bytes d x r.at) 0 == 0) ≡ false → packs d (slot_bytes d x r.at) ≡ true → slot_items (packs d) (record { at = r.at; bytes = slot_bytes d x r.at }) ≡ row (record { at = r.at; bytes = slot_bytes d x r.at; blocks = (r.at, r.at + length (slot_bytes d x r.at)) ∷ [] }) ∷ []
    shown e f = rw (e, f) refl

pub slot-holes-show : (d : Defs) (x : List ℕ) (holes : List Area) → ListSlots d x holes → AllByRecursion (λ (a : Area). length (slot_bytes d x a.at) ≡ a.size) holes → AllByRecursion (λ (a : Area). shown_slot d x a ≡ free (range_of_area a) ∷ []) holes
slot-holes-show d x [] l all = tt
slot-holes-show d x (a ∷ holes) l all = (shown (slice_index (slot_bytes d x a.at) 0 == 0) (zero_is (slice_index (slot_bytes d x a.at) 0) l.0) all.0, slot-holes-show d x holes l.2 all.1)
  where
    zero_is : (n : ℕ) → n ≡ 0 → (n == 0) ≡ true
    zero_is n e = rw e refl

    shown : (z : Bool) → z ≡ true → length (slot_bytes d x a.at) ≡ a.size → (if z then free (a.at, a.at + length (slot_bytes d x a.at)) ∷ [] else (if packs d (slot_bytes d x a.at) then row (record { at = a.at; bytes = slot_bytes d x a.at; blocks = (a.at, a.at + length (slot_bytes d x a.at)) ∷ [] }) ∷ [] else [])) ≡ free (range_of_area a) ∷ []
    shown true e long = ap (λ (n : ℕ). free (a.at, a.at + n) ∷ []) long
    shown false e long = absurd cc
