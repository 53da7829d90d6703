-- What holds of each readable row: its bytes are bytes and pack a row, in a dynamic table four bytes count them, and its
-- blocks lie in the file, have room for each row that is no longer, and held as many bytes.
use Rattle.std.proofs.Common.{◌≡◌, ℕ, zero, suc, ◌+◌, ◌-◌, ◌*◌, ◌/◌, ◌^◌, ◌<◌, ◌≤◌, Bool, true, List, [], ◌∷◌, ◌++◌, length, map, take, drop, Option, Some, None, refl, sym, ap, subst, ◌∙◌, arith, length-append, length-drop, div-mul-le_self, suc-mul}
use Rattle.std.specs.List.{flat_map, AllByRecursion}
use Rattle.std.proofs.lemmas.List.{length-take-le}
use Rattle.std.proofs.lemmas.List.Sums.{sum_by-cons}
use Rattle.myi_base.specs.Numbers.{AreBytes}
use Rattle.myi_base.specs.Ranges.{Range}
use Rattle.myi_base.proofs.CallerLemmas.{bytes-take, bytes-drop}
use Rattle.myi_defs.specs.declared.types.RowFormat.{RowFormat}
use Rattle.myi_defs.specs.declared.types.RowFormat.TheVariants.{Static, Dynamic}
use Rattle.myi_defs.specs.declared.types.Defs.{Defs}
use Rattle.myi_defs.specs.Sound.{IsSound}
use Rattle.myi_frames.specs.Block.{Block, block_of}
use Rattle.myi_frames.specs.Sizes.{least_size, IsSized, held_bytes, total_size}
use Rattle.myi_frames.proofs.CallerLemmas.{block-bytes, block-bounded, block-sized, least-together}
use Rattle.myi_chain.specs.Chain.{Reading, range_of, ranges, row_bytes, promised, IsTail, AreLinked}
use Rattle.myi_chain.specs.Readable.{Row, Item, row, free, rows_of, frees_of, rest}
use Rattle.myi_chain.specs.Readable as chains
use Rattle.myi_chain.specs.Meeting.{IsRowOf, IsItemOf}
use Rattle.myi_chain.proofs.CallerLemmas.{blocks_read}
use Rattle.myi_chain.proofs.CallerLemmas.{rest_fine}
use Rattle.myi_data.specs.Slots.{Slot, slots}
use Rattle.myi_data.specs.Readable.{packs, slot_row, slot_items, items_at, items_by, items_in, readable}
use Rattle.myi_data.specs.Stored.{HaveHeld}
use Rattle.myi_data.proofs.CallerLemmas.{slot_cases}
use Rattle.myi_pair.specs.Trees.{total}

abbrev pub HasRoom : RowFormat → Defs → Row → Type 0
HasRoom Static d r = d.slot_length ≤ total r.blocks
HasRoom Dynamic d r = (n : ℕ) → 0 < n → n ≤ length r.bytes → least_size n ≤ total r.blocks

abbrev pub HasHeld : RowFormat → Row → Type 0
HasHeld Static r = Unit {0}
HasHeld Dynamic r = (n : ℕ) → n ≤ length r.bytes → HaveHeld (map (λ (a : Range). a.1 - a.0) r.blocks) n

pub record IsFine (format : RowFormat) (d : Defs) (len : ℕ) (r : Row) : Type 0 where
  pub bytes : AreBytes r.bytes
  pub counted : format ≡ Dynamic → length r.bytes < 2 ^ 32
  pub packed : packs d r.bytes ≡ true
  pub inside : AllByRecursion (λ (a : Range). a.1 ≤ len) r.blocks
  pub room : HasRoom format d r
  pub held : HasHeld format r

-- slots

one_range : (at n m : ℕ) → m ≡ n → total ((at, at + m) ∷ []) ≡ n
one_range at n m same = omega (arith, same)

slots_fine : (d : Defs) (n at len : ℕ) (xs : List ℕ) → AreBytes xs → n * d.slot_length ≤ length xs → at + length xs ≤ len → AllByRecursion (IsFine Static d len) (rows_of (flat_map (slot_items (packs d)) (slots n at d.slot_length xs)))
slots_fine d zero at len xs are whole inside = tt
slots_fine d (suc n) at len xs are whole inside =
    let size = d.slot_length in
    let slot : Slot = record { at = at; bytes = take size xs } in
    let more : List Item = flat_map (slot_items (packs d)) (slots n (at + size) size (drop size xs)) in
    let step : suc n * size ≡ n * size + size = suc-mul n size in
    let long : length (take size xs) ≡ size = length-take-le size xs (omega (arith, step)) in
    let less : length (drop size xs) ≡ length xs - size = length-drop size xs in
    let behind : AllByRecursion (IsFine Static d len) (rows_of more) = slots_fine d n (at + size) len (drop size xs) (bytes-drop size xs are) (omega (arith, step)) (omega (arith, step)) in
    let fine : packs d (take size xs) ≡ true → IsFine Static d len (slot_row slot) = λ is. record {
      bytes = bytes-take size xs are;
      counted = λ dynamic. absurd cc;
      packed = is;
      inside = (omega (arith, step), tt);
      room = omega (arith, one_range at size (length (take size xs)) long);
      held = tt;
    } in
    slot_cases (λ (is : List Item). AllByRecursion (IsFine Static d len) (rows_of (is ++ more))) (packs d) slot (λ _. behind) (λ is. (fine is, behind)) behind

-- chains

abbrev pub IsRead : Reading → Block → Type 0
IsRead read b = (p : ℕ) × (read p ≡ Some b)

tail_read : (read : Reading) (next : Option ℕ) (bs : List Block) → IsTail read next bs → AllByRecursion (IsRead read) bs
tail_read read None bs t = absurd t
tail_read read (Some p) [] t = absurd t
tail_read read (Some p) (b ∷ []) t = ((p, t.0), tt)
tail_read read (Some p) (b ∷ c ∷ bs) t = ((p, t.0), tail_read read b.next (c ∷ bs) t.2)

linked_read : (read : Reading) (p : ℕ) (bs : List Block) → AreLinked read p bs → AllByRecursion (IsRead read) bs
linked_read read p [] t = absurd t
linked_read read p (b ∷ []) t = ((p, t.0), tt)
linked_read read p (b ∷ c ∷ bs) t = ((p, t.0), tail_read read b.next (c ∷ bs) t.2)

bytes-append : (x y : List ℕ) → AreBytes x → AreBytes y → AreBytes (x ++ y)
bytes-append [] y left right i = right i
bytes-append (b ∷ x) y left right zero = left zero
bytes-append (b ∷ x) y left right (suc i) = bytes-append x y (λ j. left (suc j)) right i

-- what holds of the blocks of a row
record AreFine (len : ℕ) (bs : List Block) : Type 0 where
  pub bytes : AreBytes (row_bytes bs)
  pub sized : AllByRecursion (λ (b : Block). IsSized (length b.bytes) b.size) bs
  pub inside : AllByRecursion (λ (a : Range). a.1 ≤ len) (ranges bs)
  pub held : held_bytes bs ≡ length (row_bytes bs)
  pub size : total (ranges bs) ≡ total_size bs

blocks_fine : (x : List ℕ) (bs : List Block) → AreBytes x → AllByRecursion (IsRead (block_of x)) bs → AreFine (length x) bs
blocks_fine x [] are t = record { bytes = λ i. omega arith; sized = tt; inside = tt; held = refl; size = refl }
blocks_fine x (b ∷ bs) are t =
    let others : AreFine (length x) bs = blocks_fine x bs are t.1 in
    let p : ℕ = t.0.0 in
    let here = blocks_read x p b t.0.1 in
    let held = sum_by-cons (λ (c : Block). length c.bytes) b bs in
    let size = sum_by-cons (λ (c : Block). c.size) b bs in
    let range = sum_by-cons (λ (a : Range). a.1 - a.0) (range_of b) (ranges bs) in
    record {
      bytes = bytes-append b.bytes (row_bytes bs) (block-bytes x p b are t.0.1) others.bytes;
      sized = (block-sized x p b are t.0.1, others.sized);
      inside = (omega (arith, here.at, here.inside), others.inside);
      held = omega (arith, held, others.held, length-append b.bytes (row_bytes bs));
      size = omega (arith, size, range, others.size);
    }

sizes_are : (bs : List Block) → map (λ (b : Block). b.size) bs ≡ map (λ (a : Range). a.1 - a.0) (ranges bs)
sizes_are [] = refl
sizes_are (b ∷ bs) =
    let size : b.size ≡ b.at + b.size - b.at = omega arith in
    ap (λ n. n ∷ map (λ (b : Block). b.size) bs) size ∙ ap (λ (ns : List ℕ). (b.at + b.size - b.at) ∷ ns) (sizes_are bs)

-- a row has as many bytes as its first block says
promised_few : (x : List ℕ) (p : ℕ) (bs : List Block) → AreBytes x → AreLinked (block_of x) p bs → promised bs < 2 ^ 32
promised_few x p [] are linked = absurd linked
promised_few x p (b ∷ []) are linked = (block-bounded x p b are linked.0).rec_len
promised_few x p (b ∷ c ∷ bs) are linked = (block-bounded x p b are linked.0).rec_len

row_fine : (d : Defs) (x : List ℕ) (r : Row) → AreBytes x → IsRowOf (block_of x) (packs d) r → IsFine Dynamic d (length x) r
row_fine d x r are is =
    let bs : List Block = is.chain in
    let fine : AreFine (length x) bs = blocks_fine x bs are (linked_read (block_of x) r.at bs is.is.linked) in
    let same : length r.bytes ≡ length (row_bytes bs) = ap (λ (b : List ℕ). length b) is.bytes in
    let all : total r.blocks ≡ total (ranges bs) = ap total is.blocks in
    record {
      bytes = subst AreBytes (sym is.bytes) fine.bytes;
      counted = λ _. omega (arith, same, is.is.whole, promised_few x r.at bs are is.is.linked);
      packed = is.packs;
      inside = subst (λ (rs : List Range). AllByRecursion (λ (a : Range). a.1 ≤ length x) rs) (sym is.blocks) fine.inside;
      room = λ n some few.
          let least = least-together n bs fine.sized some (omega (arith, few, same, fine.held)) in
          omega (arith, least, all, fine.size);
      held = λ n few. record {
        file = x;
        bytes = are;
        at = r.at;
        blocks = bs;
        chain = is.is;
        sized = sizes_are bs ∙ ap (map (λ (a : Range). a.1 - a.0)) (sym is.blocks);
        room = omega (arith, few, same, fine.held);
      };
    }

items_fine : (d : Defs) (x : List ℕ) (is : List Item) → AreBytes x → AllByRecursion (IsItemOf (block_of x) (packs d)) is → AllByRecursion (IsFine Dynamic d (length x)) (rows_of is)
items_fine d x [] are t = tt
items_fine d x (free a ∷ is) are t = items_fine d x is are t.1
items_fine d x (row r ∷ is) are t = (row_fine d x r are t.0, items_fine d x is are t.1)

-- both formats

pub readable_fine : (d : Defs) (extend : Bool) (x : List ℕ) → AreBytes x → AllByRecursion (IsFine d.format d (length x)) (readable d extend x)
unfolding readable items_in items_at chains.items_in
readable_fine d extend x are = of_format d.format
  where
    of_format : (f : RowFormat) → AllByRecursion (IsFine f d (length x)) (rows_of (items_by f d extend x))
    of_format Static = slots_fine d (length x / d.slot_length) 0 (length x) x are (div-mul-le_self (length x) d.slot_length) (omega arith)
    of_format Dynamic = items_fine d x (rest extend (block_of x) (length x) (packs d) 0 []) are (rest_fine (block_of x) (length x) (blocks_read x) extend (packs d) 0 []).0

-- each deleted block that is met has bytes of the file

abbrev pub IsInFile : ℕ → Range → Type 0
IsInFile len a = (a.0 < a.1) × (a.1 ≤ len)

slots_free : (d : Defs) (n at len : ℕ) (xs : List ℕ) → 0 < d.slot_length → n * d.slot_length ≤ length xs → at + length xs ≤ len → AllByRecursion (IsInFile len) (frees_of (flat_map (slot_items (packs d)) (slots n at d.slot_length xs)))
slots_free d zero at len xs some whole inside = tt
slots_free d (suc n) at len xs some whole inside =
    let size = d.slot_length in
    let slot : Slot = record { at = at; bytes = take size xs } in
    let more : List Item = flat_map (slot_items (packs d)) (slots n (at + size) size (drop size xs)) in
    let step : suc n * size ≡ n * size + size = suc-mul n size in
    let long : length (take size xs) ≡ size = length-take-le size xs (omega (arith, step)) in
    let less : length (drop size xs) ≡ length xs - size = length-drop size xs in
    let behind : AllByRecursion (IsInFile len) (frees_of more) = slots_free d n (at + size) len (drop size xs) some (omega (arith, step)) (omega (arith, step)) in
    slot_cases (λ (is : List Item). AllByRecursion (IsInFile len) (frees_of (is ++ more))) (packs d) slot (λ _. ((omega arith, omega (arith, step)), behind)) (λ _. behind) behind

items_free : (d : Defs) (x : List ℕ) (is : List Item) → AllByRecursion (IsItemOf (block_of x) (packs d)) is → AllByRecursion (IsInFile (length x)) (frees_of is)
items_free d x [] t = tt
items_free d x (free a ∷ is) t =
    let b : Block = t.0.block in
    let here = blocks_read x a.0 b t.0.here in
    let end : a.1 ≡ b.at + b.size = ap (λ (r : Range). r.1) t.0.range in
    ((omega (arith, end, here.at, here.least), omega (arith, end, here.at, here.inside)), items_free d x is t.1)
items_free d x (row r ∷ is) t = items_free d x is t.1

pub frees_fine : (d : Defs) (extend : Bool) (x : List ℕ) → IsSound d → AllByRecursion (IsInFile (length x)) (frees_of (items_in d extend x))
unfolding items_in items_at chains.items_in
frees_fine d extend x s = of_format d.format refl
  where
    of_format : (f : RowFormat) → d.format ≡ f → AllByRecursion (IsInFile (length x)) (frees_of (items_by f d extend x))
    of_format Static e = slots_free d (length x / d.slot_length) 0 (length x) x (omega (arith, s.slot_pointer e)) (div-mul-le_self (length x) d.slot_length) (omega arith)
    of_format Dynamic e = items_free d x (rest extend (block_of x) (length x) (packs d) 0 []) (rest_fine (block_of x) (length x) (blocks_read x) extend (packs d) 0 []).0
