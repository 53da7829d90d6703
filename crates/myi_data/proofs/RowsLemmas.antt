-- What holds of the readable rows of any bytes.
use Rattle.std.proofs.Common.{◌≡◌, ℕ, zero, suc, ◌+◌, ◌<◌, ◌≤◌, Bool, true, false, eqb, cond, List, [], ◌∷◌, ◌++◌, length, take, drop, Option, Some, None, refl, sym, subst, arith}
use Rattle.std.specs.Prelude.{slice_index, nat_le, filter, is_some, ◌||◌, ◌&&◌}
use Rattle.std.specs.List.{flat_map, AllByRecursion}
use Rattle.std.proofs.lemmas.Bool.{le-leb}
use Rattle.myi_base.specs.Numbers.{AreBytes}
use Rattle.myi_base.specs.Ranges.{Range, is_apart}
use Rattle.myi_base.proofs.CallerLemmas.{bytes-take, bytes-drop}
use Rattle.myi_defs.specs.declared.types.RowFormat.{RowFormat}
use Rattle.myi_defs.specs.declared.types.RowFormat.TheVariants.{Static, Dynamic}
use Rattle.myi_defs.specs.declared.types.Defs.{Defs}
use Rattle.myi_defs.specs.Sound.{IsSound}
use Rattle.myi_frames.specs.Block.{Block, block_of}
use Rattle.myi_frames.proofs.CallerLemmas.{block-bytes}
use Rattle.myi_pack.specs.Packed.{Values}
use Rattle.myi_pack.specs.Unpacking.{row_of}
use Rattle.myi_pack.proofs.CallerLemmas.{row-takes}
use Rattle.myi_chain.specs.Chain.{AreApart, AreLinked, IsTail, row_bytes}
use Rattle.myi_chain.specs.Readable.{Row, Item, row, free, rows_of, rest}
use Rattle.myi_chain.specs.Readable as chains
use Rattle.myi_chain.specs.Meeting.{IsItemOf, ranges_of, AreRising}
use Rattle.myi_chain.proofs.CallerLemmas.{blocks_read}
use Rattle.myi_chain.proofs.CallerLemmas.{rest_fine}
use Rattle.myi_data.specs.Slots.{Slot, slots}
use Rattle.myi_data.specs.Readable.{packs, slot_range, slot_row, slot_items, items_at, items_by, items_in, readable, deleted}
use Rattle.myi_data.specs.Stored.{PackARow}

pub either : {X : Type 0} (P : X → Type 0) (b : Bool) (x y : X) → (b ≡ true → P x) → (b ≡ false → P y) → P (cond b x y)
either P true x y h k = h refl
either P false x y h k = k refl

-- a slot is deleted, a row, or neither
pub slot_cases : (P : List Item → Type 0) (accepts : List ℕ → Bool) (s : Slot) → (eqb (slice_index s.bytes 0) 0 ≡ true → P (free (slot_range s) ∷ [])) → (accepts s.bytes ≡ true → P (row (slot_row s) ∷ [])) → P [] → P (slot_items accepts s)
slot_cases P accepts s f r n = either P (eqb (slice_index s.bytes 0) 0) _ _ f (λ e. either P (accepts s.bytes) _ _ r (λ g. n))

-- ---- each row packs

packs_row : (d : Defs) (b : List ℕ) → IsSound d → AreBytes b → packs d b ≡ true → PackARow d b
packs_row d b s are is = found (row_of d b) refl is
  where
    found : (o : Option Values) → row_of d b ≡ o → is_some o ≡ true → PackARow d b
    found None e is = absurd cc
    found (Some v) e is = (v, row-takes d v b s.lengths are e)

abbrev pub ArePacked : Defs → List Row → Type 0
ArePacked d rows = AllByRecursion (λ r. PackARow d r.bytes) rows

slots_packed : (d : Defs) (n at size : ℕ) (xs : List ℕ) → IsSound d → AreBytes xs → ArePacked d (rows_of (flat_map (slot_items (packs d)) (slots n at size xs)))
slots_packed d zero at size xs s are = tt
slots_packed d (suc n) at size xs s are =
    let slot : Slot = record { at = at; bytes = take size xs } in
    let more : List Item = flat_map (slot_items (packs d)) (slots n (at + size) size (drop size xs)) in
    let behind : ArePacked d (rows_of more) = slots_packed d n (at + size) size (drop size xs) s (bytes-drop size xs are) in
    slot_cases (λ (is : List Item). ArePacked d (rows_of (is ++ more))) (packs d) slot (λ _. behind) (λ is. (packs_row d (take size xs) s (bytes-take size xs are) is, behind)) behind

-- the bytes in the slot of a row pass the test
abbrev pub AreAccepted : (List ℕ → Bool) → List Row → Type 0
AreAccepted accepts rows = AllByRecursion (λ r. accepts r.bytes ≡ true) rows

slots_accepted : (accepts : List ℕ → Bool) (n at size : ℕ) (xs : List ℕ) → AreAccepted accepts (rows_of (flat_map (slot_items accepts) (slots n at size xs)))
slots_accepted accepts zero at size xs = tt
slots_accepted accepts (suc n) at size xs =
    let more : List Item = flat_map (slot_items accepts) (slots n (at + size) size (drop size xs)) in
    let behind : AreAccepted accepts (rows_of more) = slots_accepted accepts n (at + size) size (drop size xs) in
    slot_cases (λ (is : List Item). AreAccepted accepts (rows_of (is ++ more))) accepts (record { at = at; bytes = take size xs }) (λ _. behind) (λ is. (is, behind)) behind

pub items_accepted : (accepts : List ℕ → Bool) (size at : ℕ) (xs : List ℕ) → AreAccepted accepts (rows_of (items_at accepts size at xs))
unfolding items_at
items_accepted accepts size at xs = slots_accepted accepts _ at size xs

bytes-append : (x y : List ℕ) → AreBytes x → AreBytes y → AreBytes (x ++ y)
bytes-append [] y left right i = right i
bytes-append (b ∷ x) y left right zero = left zero
bytes-append (b ∷ x) y left right (suc i) = bytes-append x y (λ j. left (suc j)) right i

tail_are : (x : List ℕ) (next : Option ℕ) (bs : List Block) → AreBytes x → IsTail (block_of x) next bs → AreBytes (row_bytes bs)
tail_are x None bs are t = absurd t
tail_are x (Some p) [] are t = absurd t
tail_are x (Some p) (b ∷ []) are t = bytes-append b.bytes [] (block-bytes x p b are t.0) (λ i. omega arith)
tail_are x (Some p) (b ∷ c ∷ bs) are t = bytes-append b.bytes (row_bytes (c ∷ bs)) (block-bytes x p b are t.0) (tail_are x b.next (c ∷ bs) are t.2)

chain_are : (x : List ℕ) (p : ℕ) (bs : List Block) → AreBytes x → AreLinked (block_of x) p bs → AreBytes (row_bytes bs)
chain_are x p [] are t = absurd t
chain_are x p (b ∷ []) are t = bytes-append b.bytes [] (block-bytes x p b are t.0) (λ i. omega arith)
chain_are x p (b ∷ c ∷ bs) are t = bytes-append b.bytes (row_bytes (c ∷ bs)) (block-bytes x p b are t.0) (tail_are x b.next (c ∷ bs) are t.2)

blocks_packed : (d : Defs) (x : List ℕ) (is : List Item) → IsSound d → AreBytes x → AllByRecursion (IsItemOf (block_of x) (packs d)) is → ArePacked d (rows_of is)
blocks_packed d x [] s are t = tt
blocks_packed d x (free a ∷ is) s are t = blocks_packed d x is s are t.1
blocks_packed d x (row r ∷ is) s are t =
    let bytes : AreBytes r.bytes = subst AreBytes (sym t.0.bytes) (chain_are x r.at t.0.chain are t.0.is.linked) in
    (packs_row d r.bytes s bytes t.0.packs, blocks_packed d x is s are t.1)

-- ---- in order of their places

slots_rising : (accepts : List ℕ → Bool) (n low at size : ℕ) (xs : List ℕ) → 0 < size → low ≤ at → AreRising low (rows_of (flat_map (slot_items accepts) (slots n at size xs)))
slots_rising accepts zero low at size xs some less = tt
slots_rising accepts (suc n) low at size xs some less =
    let slot : Slot = record { at = at; bytes = take size xs } in
    let more : List Item = flat_map (slot_items accepts) (slots n (at + size) size (drop size xs)) in
    let behind : (l : ℕ) → l ≤ at + size → AreRising l (rows_of more) = λ l le. slots_rising accepts n l (at + size) size (drop size xs) some le in
    slot_cases (λ (is : List Item). AreRising low (rows_of (is ++ more))) accepts slot (λ _. behind low (omega arith)) (λ _. (less, behind (at + 1) (omega arith))) (behind low (omega arith))

-- ---- apart

-- these ranges end at or before a place
abbrev pub EndBy : ℕ → List Range → Type 0
EndBy p used = AllByRecursion (λ r. r.1 ≤ p) used

end_later : (p q : ℕ) (used : List Range) → p ≤ q → EndBy p used → EndBy q used
end_later p q [] le h = tt
end_later p q (r ∷ used) le h = (omega (arith, h.0), end_later p q used le h.1)

end_more : (p q : ℕ) (r : Range) (used : List Range) → p ≤ q → r.1 ≤ q → EndBy p used → EndBy q (used ++ r ∷ [])
end_more p q r [] le last h = (last, tt)
end_more p q r (s ∷ used) le last h = (omega (arith, h.0), end_more p q r used le last h.1)

end_apart : (p e : ℕ) (used : List Range) → EndBy p used → is_apart (p, e) used ≡ true
end_apart p e [] h = refl
end_apart p e (r ∷ used) h =
    let before : nat_le r.1 p ≡ true = le-leb _ _ h.0 in
    joined (nat_le e r.0) (nat_le r.1 p) before (end_apart p e used h.1)
  where
    joined : (a b : Bool) {c : Bool} → b ≡ true → c ≡ true → ((a || b) && c) ≡ true
    joined true b e f = f
    joined false b e f = rw (e, f) refl

length-take-few : (n : ℕ) (xs : List ℕ) → length (take n xs) ≤ n
length-take-few zero xs = omega arith
length-take-few (suc n) [] = omega arith
length-take-few (suc n) (x ∷ xs) = omega (arith, length-take-few n xs)

slots_apart : (accepts : List ℕ → Bool) (n at size : ℕ) (xs : List ℕ) (used : List Range) → EndBy at used → AreApart used (ranges_of (rows_of (flat_map (slot_items accepts) (slots n at size xs))))
slots_apart accepts zero at size xs used below = tt
slots_apart accepts (suc n) at size xs used below =
    let slot : Slot = record { at = at; bytes = take size xs } in
    let more : List Item = flat_map (slot_items accepts) (slots n (at + size) size (drop size xs)) in
    let behind : (u : List Range) → EndBy (at + size) u → AreApart u (ranges_of (rows_of more)) = λ u h. slots_apart accepts n (at + size) size (drop size xs) u h in
    let later : EndBy (at + size) used = end_later at (at + size) used (omega arith) below in
    slot_cases (λ (is : List Item). AreApart used (ranges_of (rows_of (is ++ more)))) accepts slot
    (λ _. behind used later)
    (λ _. (end_apart at (at + length (take size xs)) used below, behind (used ++ slot_range slot ∷ []) (end_more at (at + size) (slot_range slot) used (omega arith) (omega (arith, length-take-few size xs)) below)))
    (behind used later)

-- ---- both formats

module _ (d : Defs) (extend : Bool) (x : List ℕ) (s : IsSound d) where
  by_format : (P : List Row → Type 0) → (d.format ≡ Static → P (rows_of (items_at (packs d) d.slot_length 0 x))) → P (rows_of (chains.items_in extend (packs d) x)) → P (readable d extend x)
  unfolding readable items_in
  by_format P slotted blocked = of_format d.format refl
    where
      of_format : (f : RowFormat) → d.format ≡ f → P (rows_of (items_by f d extend x))
      of_format Static e = slotted e
      of_format Dynamic e = blocked

  slots_some : d.format ≡ Static → 0 < d.slot_length
  slots_some e = omega (arith, s.slot_pointer e)

  pub rows_packed : AreBytes x → AllByRecursion (λ r. PackARow d r.bytes) (readable d extend x)
  unfolding items_at chains.items_in
  rows_packed are =
      by_format (ArePacked d)
      (λ e. slots_packed d _ 0 d.slot_length x s are)
      (blocks_packed d x (rest extend (block_of x) (length x) (packs d) 0 []) s are (rest_fine (block_of x) (length x) (blocks_read x) extend (packs d) 0 []).0)

  pub rows_rising : AreRising 0 (readable d extend x)
  unfolding items_at chains.items_in
  rows_rising =
      by_format (AreRising 0)
      (λ e. slots_rising (packs d) _ 0 0 d.slot_length x (slots_some e) (omega arith))
      (rest_fine (block_of x) (length x) (blocks_read x) extend (packs d) 0 []).2

  pub rows_apart : AreApart [] (ranges_of (readable d extend x))
  unfolding items_at chains.items_in
  rows_apart =
      by_format (λ rows. AreApart [] (ranges_of rows))
      (λ e. slots_apart (packs d) _ 0 d.slot_length x [] tt)
      (rest_fine (block_of x) (length x) (blocks_read x) extend (packs d) 0 []).1

kept_all : {X : Type 0} (f : X → Bool) (xs : List X) → AllByRecursion (λ x. f x ≡ true) (filter f xs)
kept_all f [] = tt
kept_all f (x ∷ xs) = either (AllByRecursion (λ x. f x ≡ true)) (f x) (x ∷ filter f xs) (filter f xs) (λ e. (e, kept_all f xs)) (λ e. kept_all f xs)

pub deleted_apart : (d : Defs) (x : List ℕ) → AllByRecursion (λ a. is_apart a (ranges_of (readable d false x)) ≡ true) (deleted d x)
unfolding deleted
deleted_apart d x = kept_all (λ a. is_apart a (ranges_of (readable d false x))) _
