-- What a scan of slots leaves, from what was found between two places of its file.
use Rattle.std.proofs.Common.{◌≡◌, ◌∙◌, ◌+◌, ◌^◌, ◌<◌, ◌≤◌, ℕ, Bool, true, List, [], ◌∷◌, length, take, drop, sym, ap, subst, arith, refl, Option, Some, None, Ok, Err, inl}
use Rattle.std.proofs.lemmas.Bool.{le-leb, lt-leb}
use Rattle.std.proofs.lemmas.List.{length-take-le}
use Rattle.myi_base.specs.Holding.{Holding, bytes_of}
use Rattle.myi_defs.specs.declared.types.Defs.{Defs}
use Rattle.myi_defs.specs.declared.types.RowFormat.{RowFormat}
use Rattle.myi_defs.specs.declared.types.RowFormat.TheVariants.{Static, Dynamic}
use Rattle.myi_window.specs.Excerpt.{Excerpt, bytes_from, AreFront, StandsIn, EndsBy}
use Rattle.myi_window.proofs.CallerLemmas.{excerpt_here}
use Rattle.myi_chain.specs.declared.piece.Piece.{Piece}
use Rattle.myi_chain.specs.declared.piece.Piece.TheVariants.{Lent, Joined}
use Rattle.myi_chain.specs.declared.piece.Item.TheVariants as item
use Rattle.myi_chain.specs.declared.piece.ScanFault.TheVariants.{File}
use Rattle.myi_chain.specs.Readable.{Item, row, free}
use Rattle.myi_chain.specs.Chain.{ranges_at}
use Rattle.myi_chain.specs.Pieces.{piece_bytes}
use Rattle.myi_chain.specs.declared.piece.Wanted.{Wanted}
use Rattle.myi_chain.specs.declared.piece.Wanted.TheVariants.{Items}
use Rattle.myi_chain.specs.ScanModel.{IsSameScan, IsWanted, ArePassed, PassesTo, LendsBlock, EndsInside}
use Rattle.myi_data.specs.Readable.{packs}
use Rattle.myi_data.specs.SlotBytes.{IsFormOf}
use Rattle.myi_data.specs.NextSlot.{row_in_slot, items_from, IsSlotBetween}
use Rattle.myi_data.specs.Scanning.{TableScan, left_by, items_ahead, IsAsKnown, IsSlotAt, AfterTable}
use Rattle.myi_data.proofs.NextSlotLemmas.{front_cut, end_left}

-- a scan of a static table
abbrev pub slot_scan : List ℕ → Defs → Bool → ℕ → ℕ → List (ℕ × ℕ) → Excerpt → TableScan
slot_scan name test extend end place blocks kept = record { name = name; test = test; extend = extend; end = end; place = place; used = []; blocks = blocks; kept = kept }

static_left : (f : RowFormat) (test : Defs) (extend : Bool) (place : ℕ) (x : List ℕ) → f ≡ Static → left_by f test extend place [] x ≡ items_from (packs test) test.slot_length x place
static_left f test extend place x e = subst (λ g. left_by g test extend place [] x ≡ items_from (packs test) test.slot_length x place) (sym e) refl

not_dynamic : {P : Type 0} (f : RowFormat) → f ≡ Static → f ≡ Dynamic → P
not_dynamic f static dynamic = absurd (none (sym static ∙ dynamic))
  where
    none : Static ≡ Dynamic → ⊥
    none e = absurd cc

lends_slot : (size at : ℕ) (p : Piece) → IsFormOf size p → LendsBlock p ((at, size) ∷ [])
lends_slot size at (Lent bytes) form = le-leb _ _ (omega (arith, form))
lends_slot size at (Joined bytes) form = lt-leb _ _ (omega (arith, form))

-- a deleted slot is answered where items are wanted
pub free_meant : (wanted : Wanted) (at size : ℕ) → wanted ≡ Items → IsWanted wanted (item.Free at size)
free_meant wanted at size items = subst (λ w. IsWanted w (item.Free at size)) (sym items) tt

-- a scan went from one place of its file to another
pub record Went (holds : Option Holding) (old : TableScan) (name : List ℕ) (test : Defs) (extend : Bool) (end from to : ℕ) (blocks : List (ℕ × ℕ)) (w v : Excerpt) (size : ℕ) : Type 0 where
  pub view : slot_scan name test extend end from blocks w ≡ old
  pub static : test.format ≡ Static
  pub sized : size ≡ test.slot_length
  pub some : 0 < size
  pub within : to ≤ end
  pub small : end < 2 ^ 64
  pub inside : EndsBy end v
  pub current : (m : Holding) → holds ≡ Some m → IsAsKnown old m
  pub stands : (m : Holding) → holds ≡ Some m → StandsIn w (bytes_of name m) → StandsIn v (bytes_of name m)

-- so it did, where a call that looks for the next slot has found what it says
pub went : (holds : Option Holding) (old : TableScan) (name told : List ℕ) (test : Defs) (extend : Bool) (end from to : ℕ) (blocks : List (ℕ × ℕ)) (w v : Excerpt) (size : ℕ) → name ≡ told → slot_scan told test extend end from blocks w ≡ old → test.format ≡ Static → 0 < test.slot_length → size ≡ test.slot_length
    → to ≤ end → end < 2 ^ 64 → EndsBy end v → ((m : Holding) → holds ≡ Some m → IsAsKnown old m) → ((m : Holding) → holds ≡ Some m → StandsIn w (bytes_of name m) → StandsIn v (bytes_of name m)) → Went holds old name test extend end from to blocks w v size
went holds old name told test extend end from to blocks w v size same view static some sized within small inside current stands = record {
  view = ap (λ n. slot_scan n test extend end from blocks w) same ∙ view;
  static = static;
  sized = sized;
  some = omega (arith, some, sized);
  within = within;
  small = small;
  inside = inside;
  current = current;
  stands = stands;
}

module _ (holds : Option Holding) (old : TableScan) (name : List ℕ) (test : Defs) (extend : Bool) (end from to : ℕ) (blocks : List (ℕ × ℕ)) (w v : Excerpt) (size : ℕ) (k : Went holds old name test extend end from to blocks w v size) where
  abbrev file : Holding → List ℕ
  file m = take end (bytes_of name m)

  abbrev left : Holding → ℕ → List Item
  left m p = items_from (packs test) size (file m) p

  stood : (m : Holding) → holds ≡ Some m → StandsIn w (bytes_of name m)
  stood m held = (subst (λ (s : TableScan). IsAsKnown s m) (sym k.view) (k.current m held)).kept

  stands : (m : Holding) → holds ≡ Some m → StandsIn v (bytes_of name m)
  stands m held = k.stands m held (stood m held)

  known_now : (blocks_now : List (ℕ × ℕ)) (m : Holding) → holds ≡ Some m → IsAsKnown (slot_scan name test extend end to blocks_now v) m
  known_now blocks_now m held = record { kept = stands m held; long = λ e. not_dynamic test.format k.static e }

  left_at : (place : ℕ) (blocks_now : List (ℕ × ℕ)) (e : Excerpt) (m : Holding) → items_ahead (slot_scan name test extend end place blocks_now e) m ≡ left m place
  left_at place blocks_now e m = static_left test.format test extend place (file m) k.static ∙ ap (λ n. items_from (packs test) n (file m) place) (sym k.sized)

  left_before : (m : Holding) → items_ahead old m ≡ left m from
  left_before m = subst (λ (s : TableScan). items_ahead s m ≡ left m from) k.view (left_at from blocks w m)

  same_scan : (place : ℕ) (blocks_now : List (ℕ × ℕ)) (e : Excerpt) → IsSameScan old (slot_scan name test extend end place blocks_now e)
  same_scan place blocks_now e = subst (λ (o : TableScan). IsSameScan o (slot_scan name test extend end place blocks_now e)) k.view (record { name = refl; test = refl; extend = refl; end = omega arith })

  old_place : old.place ≡ from
  old_place = sym (ap (λ (s : TableScan). s.place) k.view)

  old_end : old.end ≡ end
  old_end = sym (ap (λ (s : TableScan). s.end) k.view)

  whole_scan : (m : Holding) → holds ≡ Some m → end ≡ old.end
  whole_scan m held = sym old_end

  old_static : old.test.format ≡ Static
  old_static = sym (ap (λ (s : TableScan). s.test.format) k.view) ∙ k.static

  old_blocks : old.blocks ≡ blocks
  old_blocks = sym (ap (λ (s : TableScan). s.blocks) k.view)

  slot_inside : (at : ℕ) → IsSlotBetween size from to end at → EndsInside end (at, size)
  slot_inside at placed = (omega (arith, placed.1, placed.2), omega (arith, placed.1, placed.2, k.small))

  -- the slot of the row at a place is answered
  slot_here : (at : ℕ) (p : Piece) (m : Holding) → holds ≡ Some m → at ≤ end → size ≤ length (bytes_from at v) → piece_bytes p ≡ take size (bytes_from at v)
      → (piece_bytes p ≡ (row_in_slot size (file m) at).bytes) × (ranges_at ((at, size) ∷ []) ≡ (row_in_slot size (file m) at).blocks)
  slot_here at p m held order few is =
      let front : AreFront (bytes_from at v) (drop at (file m)) = excerpt_here at end v (bytes_of name m) order k.inside (stands m held) in
      let same : take size (drop at (file m)) ≡ take size (bytes_from at v) = front_cut size (bytes_from at v) (drop at (file m)) front few in
      let long : length (take size (drop at (file m))) ≡ size = ap (λ (xs : List ℕ). length xs) same ∙ length-take-le size (bytes_from at v) few in
      (is ∙ sym same, ap (λ n. (at, at + n) ∷ []) (sym long))

  -- what is left of the file is what is ahead
  ahead : (wanted : Wanted) (i : Item) (now : List (ℕ × ℕ)) (m : Holding) → PassesTo wanted (left m from) (i ∷ left m to) → PassesTo wanted (items_ahead old m) (i ∷ items_ahead (slot_scan name test extend end to now v) m)
  ahead wanted i now m is = subst (λ (is : List Item). PassesTo wanted (items_ahead old m) (i ∷ is)) (sym (left_at to now v m)) (subst (λ (is : List Item). PassesTo wanted is (i ∷ left m to)) (sym (left_before m)) is)

  pub row_answered : (wanted : Wanted) (at : ℕ) (p : Piece) → IsSlotBetween size from to end at → size ≤ length (bytes_from at v) → piece_bytes p ≡ take size (bytes_from at v) → IsFormOf size p
      → ((m : Holding) → holds ≡ Some m → StandsIn w (bytes_of name m) → PassesTo wanted (left m from) (row (row_in_slot size (file m) at) ∷ left m to))
      → AfterTable wanted holds old (Ok (Some (item.Row at p))) (slot_scan name test extend end to ((at, size) ∷ []) v)
  row_answered wanted at p placed few is form told = (
    record {
      same = same_scan to ((at, size) ∷ []) v;
      rises = omega (arith, old_place, placed.0, placed.1, k.some);
      between = (omega (arith, old_place, placed.0), omega (arith, placed.1, k.some));
      within = k.within;
      falls = inl (sym old_end);
      whole = whole_scan;
      stands = (lends_slot size at p form, (refl, (slot_inside at placed, tt)));
      told = λ m held.
          let here = slot_here at p m held (omega (arith, placed.1, placed.2)) few is in
          record { first = row (row_in_slot size (file m) at); next = ahead wanted _ ((at, size) ∷ []) m (told m held (stood m held)); is = (refl, here.0, here.1) };
      current = known_now ((at, size) ∷ []);
    },
    λ e. not_dynamic old.test.format old_static e,
  )

  pub free_answered : (wanted : Wanted) (at : ℕ) → IsSlotBetween size from to end at
      → ((m : Holding) → holds ≡ Some m → StandsIn w (bytes_of name m) → PassesTo wanted (left m from) (free (at, at + size) ∷ left m to))
      → AfterTable wanted holds old (Ok (Some (item.Free at size))) (slot_scan name test extend end to blocks v)
  free_answered wanted at placed told = (
    record {
      same = same_scan to blocks v;
      rises = omega (arith, old_place, placed.0, placed.1, k.some);
      between = (omega (arith, old_place, placed.0), omega (arith, placed.1, k.some));
      within = k.within;
      falls = inl (sym old_end);
      whole = whole_scan;
      stands = (sym old_blocks, slot_inside at placed);
      told = λ m held. record { first = free (at, at + size); next = ahead wanted _ blocks m (told m held (stood m held)); is = (refl, sym old_blocks) };
      current = known_now blocks;
    },
    λ e. not_dynamic old.test.format old_static e,
  )

  pub ended : (wanted : Wanted) → from ≤ end → to ≡ end → ((m : Holding) → holds ≡ Some m → StandsIn w (bytes_of name m) → ArePassed wanted (left m from)) → AfterTable wanted holds old (Ok None) (slot_scan name test extend end to blocks v)
  ended wanted order last told = (
    record {
      same = same_scan to blocks v;
      later = omega (arith, old_place, order, last);
      ended = last;
      falls = inl (sym old_end);
      whole = whole_scan;
      blocks = sym old_blocks;
      told = λ m held. (subst (ArePassed wanted) (sym (left_before m)) (told m held (stood m held)), left_at to blocks v m ∙ end_left (packs test) size end to (bytes_of name m) k.some (omega arith));
      current = known_now blocks;
    },
    λ e. tt,
  )

  pub kept : (wanted : Wanted) → to ≡ from → AfterTable wanted holds old (Err File) (slot_scan name test extend end to blocks v)
  kept wanted same = (
    record {
      same = same_scan to blocks v;
      place = same ∙ sym old_place;
      used = ap (λ (s : TableScan). s.used) k.view;
      within = k.within;
      falls = inl (sym old_end);
      whole = whole_scan;
      blocks = sym old_blocks;
      told = λ m held. left_at to blocks v m ∙ ap (left m) same ∙ sym (left_before m);
      current = known_now blocks;
    },
    λ e. tt,
  )

  pub some_ahead : from < end → old.place < old.end
  some_ahead some = omega (arith, old_place, old_end, some)

  -- the bytes that are answered pack a row of the scan's table, and are a slot of its file
  pub row_packs : (bytes : List ℕ) (at : ℕ) → bytes ≡ take size (bytes_from at v) → packs test (take size (bytes_from at v)) ≡ true → packs old.test bytes ≡ true
  row_packs bytes at is accepted = subst (λ (d : Defs). packs d bytes ≡ true) (ap (λ (s : TableScan). s.test) k.view) (ap (packs test) is ∙ accepted)

  old_size : old.test.slot_length ≡ size
  old_size = sym (ap (λ (s : TableScan). s.test.slot_length) k.view) ∙ sym k.sized

  pub row_long : (at : ℕ) (p : Piece) → size ≤ length (bytes_from at v) → piece_bytes p ≡ take size (bytes_from at v) → length (piece_bytes p) ≡ size
  row_long at p few is = ap (λ (xs : List ℕ). length xs) is ∙ length-take-le size (bytes_from at v) few

  pub row_slot : (at : ℕ) (p : Piece) → IsSlotBetween size from to end at → size ≤ length (bytes_from at v) → piece_bytes p ≡ take size (bytes_from at v) → IsSlotAt old at (length (piece_bytes p))
  row_slot at p placed few is static =
      (row_long at p few is ∙ sym old_size, omega (arith, old_size, old_end, placed.1, placed.2))

  pub free_slot : (at : ℕ) → IsSlotBetween size from to end at → IsSlotAt old at size
  free_slot at placed static = (sym old_size, omega (arith, old_size, old_end, placed.1, placed.2))
