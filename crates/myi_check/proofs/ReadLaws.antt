-- A row that is read where a pair points to is a readable row of its file.
use Rattle.std.proofs.Common.{◌≡◌, ℕ, zero, suc, ◌+◌, ◌*◌, ◌/◌, ◌<◌, ◌≤◌, Bool, true, false, eqb, not, cond, List, [], ◌∷◌, ◌++◌, length, take, drop, map, Option, Some, None, refl, sym, ap, subst, ◌∙◌, arith, inl, inr, ◌⊎◌}
use Rattle.std.specs.Prelude.{◌&&◌, slice_index, is_some, unwrap_or, option_and_then, IfSome}
use Rattle.std.specs.List.{AllByRecursion, Contains, flat_map}
use Rattle.std.proofs.lemmas.List.{drop-drop, get_or_default}
use Rattle.std.proofs.lemmas.List.Elements.{Contains-append_left, Contains-append_right}
use Rattle.std.proofs.lemmas.Nat.{le-div, div-mul-add}
use Rattle.myi_defs.specs.declared.types.RowFormat.{RowFormat}
use Rattle.myi_defs.specs.declared.types.RowFormat.TheVariants.{Static, Dynamic}
use Rattle.myi_defs.specs.declared.types.Defs.{Defs}
use Rattle.myi_keylist.specs.declared.pair.Pair.{Pair}
use Rattle.myi_keys.specs.declared.values.KeySeg.{KeySeg}
use Rattle.myi_pack.specs.Packed.{Values}
use Rattle.myi_pack.specs.Unpacking.{Cut, row_of, parts_of, ended, fields_of}
use Rattle.myi_frames.specs.Block.{Block, block_of}
use Rattle.myi_chain.specs.Chain.{AreLinked, row_bytes}
use Rattle.myi_chain.specs.Meeting.{IsItemOf, IsRowOf}
use Rattle.myi_chain.proofs.CallerLemmas.{blocks_read, rest_fine}
use Rattle.myi_chain.specs.Readable.{Row, Item, row_in, rows_of, rest}
use Rattle.myi_chain.specs.Readable as chains
use Rattle.myi_data.specs.Slots.{Slot, slots, slots_in}
use Rattle.myi_data.specs.Keys.{key_of}
use Rattle.myi_data.specs.Readable.{packs, slot_range, slot_row, slot_items, items_at, items_by, items_in, readable}
use Rattle.myi_pair.specs.KeyList.{pointer_by, pointer, pair_of}
use Rattle.myi_pair.specs.Clean.{values_of, placed_row}
use Rattle.myi_check.specs.Rows.{IsPlaceOf, ArePlacesOf, rows_in}
use Rattle.myi_check.specs.Asked.{IsSlot, row_pairs}

-- ---- items of a list

first : {A : Type 0} (x : A) (xs : List A) → Contains (x ∷ xs) x
first x xs = (0, omega arith, refl)

later : {A : Type 0} (y x : A) (xs : List A) → Contains xs x → Contains (y ∷ xs) x
later y x xs is = Contains-append_right (y ∷ []) xs x is

-- an item of a list with one more is that one, or one of the list
cases : {A : Type 0} (y x : A) (xs : List A) → Contains (y ∷ xs) x → (y ≡ x) ⊎ Contains xs x
cases y x xs (zero, inside, is) = inl is
cases y x xs (suc k, inside, is) = inr (k, omega (arith, inside), is)

none : {A : Type 0} (x : A) → Contains [] x → ⊥
none x (k, inside, is) = omega (arith, inside)

pub in_map : {A B : Type 0} (f : A → B) (x : A) (xs : List A) → Contains xs x → Contains (map f xs) (f x)
in_map f x [] is = absurd (none x is)
in_map {A} {B} f x (y ∷ ys) is = by (in_map f x ys) (cases y x ys is)
  where
    by : (Contains ys x → Contains (map f ys) (f x)) → (y ≡ x) ⊎ Contains ys x → Contains (map f (y ∷ ys)) (f x)
    by go (inl e) = subst (Contains (map f (y ∷ ys))) (ap f e) (first (f y) (map f ys))
    by go (inr more) = later (f y) (f x) (map f ys) (go more)

pub in_flat : {A B : Type 0} (f : A → List B) (x : A) (z : B) (xs : List A) → Contains xs x → Contains (f x) z → Contains (flat_map f xs) z
in_flat f x z [] is has = absurd (none x is)
in_flat {A} {B} f x z (y ∷ ys) is has = by (λ more. in_flat f x z ys more has) (cases y x ys is)
  where
    by : (Contains ys x → Contains (flat_map f ys) z) → (y ≡ x) ⊎ Contains ys x → Contains (f y ++ flat_map f ys) z
    by go (inl e) = Contains-append_left (f y) (flat_map f ys) z (subst (λ t. Contains (f t) z) (sym e) has)
    by go (inr more) = Contains-append_right (f y) (flat_map f ys) z (go more)

-- ---- slots

-- a slot by its number
abbrev numbered : ℕ → ℕ → ℕ → List ℕ → Slot
numbered i at size xs = record { at = at + i * size; bytes = take size (drop (i * size) xs) }

abbrev numbered_first : ℕ → ℕ → List ℕ → Slot
numbered_first at size xs = record { at = at; bytes = take size xs }

same_slot : (at other : ℕ) (bytes : List ℕ) → at ≡ other → ◌≡◌ {A = Slot} (record { at = at; bytes = bytes }) (record { at = other; bytes = bytes })
same_slot at other bytes e = ap (λ n. record { at = n; bytes = bytes }) e

same_bytes : (at : ℕ) (one other : List ℕ) → one ≡ other → ◌≡◌ {A = Slot} (record { at = at; bytes = one }) (record { at = at; bytes = other })
same_bytes at one other e = ap (λ (b : List ℕ). record { at = at; bytes = b }) e

zeroth : (size : ℕ) (xs : List ℕ) → take size xs ≡ take size (drop (0 * size) xs)
zeroth size xs = ap (λ n. take size (drop n xs)) (let e : 0 ≡ 0 * size = omega arith in e)

one_more : (size i : ℕ) → size + i * size ≡ suc i * size
one_more size i = omega arith

in_slots : (n i at size : ℕ) (xs : List ℕ) → i < n → Contains (slots n at size xs) (numbered i at size xs)
in_slots zero i at size xs inside = absurd (omega (arith, inside))
in_slots (suc n) zero at size xs inside = subst (Contains (slots (suc n) at size xs)) (same_slot at (at + 0 * size) (take size xs) (omega arith) ∙ same_bytes (at + 0 * size) (take size xs) (take size (drop (0 * size) xs)) (zeroth size xs)) (first (numbered_first at size xs) (slots n (at + size) size (drop size xs)))
in_slots (suc n) (suc i) at size xs inside =
    let one : size + i * size ≡ suc i * size = one_more size i in
    let bytes : take size (drop (i * size) (drop size xs)) ≡ take size (drop (suc i * size) xs) = ap (take size) (drop-drop (i * size) size xs ∙ ap (λ k. drop k xs) one) in
    let same : numbered i (at + size) size (drop size xs) ≡ numbered (suc i) at size xs =
    same_slot (at + size + i * size) (at + suc i * size) _ (omega (arith, one)) ∙ ap (λ (b : List ℕ). record { at = at + suc i * size; bytes = b }) bytes in
    later _ _ _ (subst (Contains (slots n (at + size) size (drop size xs))) same (in_slots n i (at + size) size (drop size xs) (omega (arith, inside))))

-- ---- the row in a slot

parts_none : (d : Defs) (b : List ℕ) → eqb (slice_index b 0) 0 ≡ true → parts_of Static d b ≡ None
parts_none d b e = ap (λ (c : Bool). cond (eqb (length b) d.slot_length && not c) (whole b) None) e ∙ by (eqb (length b) d.slot_length)
  where
    whole : List ℕ → Cut
    whole b = Some ([], b)

    by : (a : Bool) → cond (a && false) (whole b) None ≡ None
    by true = refl
    by false = refl

-- a row of a static table does not begin with a zero
begins : (d : Defs) (b : List ℕ) (row : Values) → d.format ≡ Static → row_of d b ≡ Some row → eqb (slice_index b 0) 0 ≡ false
unfolding row_of
begins d b row static is = by (eqb (slice_index b 0) 0) refl
  where
    cut_none : (format : RowFormat) → format ≡ Static → eqb (slice_index b 0) 0 ≡ true → parts_of format d b ≡ None
    cut_none Static e low = parts_none d b low
    cut_none Dynamic e low = absurd cc

    by : (c : Bool) → eqb (slice_index b 0) 0 ≡ c → c ≡ false
    by false e = refl
    by true e = let k : ◌≡◌ {A = Option Values} None (Some row) = sym (ap (option_and_then (λ (p : List ℕ × List ℕ). ended d.format (fields_of d.format d.fields 0 p.0 p.1))) (cut_none d.format static e)) ∙ is in absurd cc

item_of : (d : Defs) (s : Slot) (row : Values) → d.format ≡ Static → row_of d s.bytes ≡ Some row → slot_items (packs d) s ≡ chains.row (slot_row s) ∷ []
item_of d s row static is = by (eqb (slice_index s.bytes 0) 0) (is_some (row_of d s.bytes)) (begins d s.bytes row static is) (ap is_some is)
  where
    by : (b c : Bool) → b ≡ false → c ≡ true → cond b (chains.free (slot_range s) ∷ []) (cond c (chains.row (slot_row s) ∷ []) []) ≡ chains.row (slot_row s) ∷ []
    by b c e f = rw (e, f) refl

rows_static : (d : Defs) (x : List ℕ) → d.format ≡ Static → readable d false x ≡ rows_of (flat_map (slot_items (packs d)) (slots_in 0 d.slot_length x))
unfolding readable items_in items_at
rows_static d x e = ap (λ (f : RowFormat). rows_of (items_by f d false x)) e

zero_more : (n : ℕ) → 0 + n ≡ n + 0
zero_more n = omega arith

pair_is : (p : Pair) (key : List KeySeg) (row : ℕ) → key ≡ p.key → row ≡ p.row → ◌≡◌ {A = Pair} (record { key = key; row = row }) p
pair_is p key row e f = ap (λ k. record { key = k; row = row }) e ∙ ap (λ n. record { key = p.key; row = n }) f

-- the pair of a readable row
pair_in : (d : Defs) (k : ℕ) (p : Pair) (x : List ℕ) (r : Row) (row : Values) → Contains (readable d false x) r → row_of d r.bytes ≡ Some row → key_of d k row ≡ p.key → pointer d r.at ≡ p.row → Contains (row_pairs d k x) p
pair_in d k p x r row among read key pointed =
    let keyed : key_of d k (values_of d r) ≡ p.key = ap (λ (o : Option Values). key_of d k (unwrap_or o [])) read ∙ key in
    subst (Contains (row_pairs d k x)) (pair_is p (key_of d k (values_of d r)) (pointer d r.at) keyed pointed) (in_map (pair_of d k) (placed_row d r) (rows_in d x) (in_map (placed_row d) r (readable d false x) among))

pub row_read : (d : Defs) (k : ℕ) (p : Pair) (x bytes : List ℕ) (row : Values) → d.format ≡ Static → 0 < d.slot_length → IsSlot d.slot_length p.row x bytes → row_of d bytes ≡ Some row → key_of d k row ≡ p.key → Contains (row_pairs d k x) p
row_read d k p x bytes row static some slot read key =
    let size = d.slot_length in
    let s = numbered p.row 0 size x in
    let below : suc p.row ≤ length x / size = le-div (suc p.row) (length x) size some (omega (arith, slot.inside)) in
    let there : Contains (slots_in 0 size x) s = in_slots (length x / size) p.row 0 size x below in
    let own : row_of d s.bytes ≡ Some row = ap (row_of d) (sym slot.is) ∙ read in
    let item : Contains (slot_items (packs d) s) (chains.row (slot_row s)) = subst (λ (t : List Item). Contains t (chains.row (slot_row s))) (sym (item_of d s row static own)) (first (chains.row (slot_row s)) []) in
    let rows : Contains (readable d false x) (slot_row s) = subst (λ (t : List Row). Contains t (slot_row s)) (sym (rows_static d x static))
    (in_flat row_in (chains.row (slot_row s)) (slot_row s) (flat_map (slot_items (packs d)) (slots_in 0 size x)) (in_flat (slot_items (packs d)) s (chains.row (slot_row s)) (slots_in 0 size x) there item) (first (slot_row s) [])) in
    let pointed : pointer d s.at ≡ p.row = ap (λ f. pointer_by f size s.at) static ∙ ap (λ n. n / size) (zero_more (p.row * size)) ∙ div-mul-add p.row size 0 some in
    pair_in d k p x (slot_row s) row rows own key pointed

pub never_dynamic : (d : Defs) → d.format ≡ Static → d.format ≡ Dynamic → ⊥
never_dynamic d static dynamic = let k : ◌≡◌ {A = RowFormat} Static Dynamic = sym static ∙ dynamic in absurd cc

-- ---- the row of a chain

all_of : {A : Type 0} (P : A → Type 0) (x : A) (xs : List A) → AllByRecursion P xs → Contains xs x → P x
all_of P x [] all is = absurd (none x is)
all_of {A} P x (y ∷ ys) all is = by (all_of P x ys all.1) (cases y x ys is)
  where
    by : (Contains ys x → P x) → (y ≡ x) ⊎ Contains ys x → P x
    by go (inl e) = subst P e all.0
    by go (inr more) = go more

-- the rows of a dynamic table are chains
items_stand : (d : Defs) (x : List ℕ) (is : List Item) → AllByRecursion (IsItemOf (block_of x) (packs d)) is → AllByRecursion (IsRowOf (block_of x) (packs d)) (rows_of is)
items_stand d x [] all = tt
items_stand d x (chains.free a ∷ is) all = items_stand d x is all.1
items_stand d x (chains.row r ∷ is) all = (all.0, items_stand d x is all.1)

rows_dynamic : (d : Defs) (x : List ℕ) → d.format ≡ Dynamic → AllByRecursion (IsRowOf (block_of x) (packs d)) (readable d false x)
unfolding readable items_in items_at chains.items_in
rows_dynamic d x e = subst (λ (f : RowFormat). AllByRecursion (IsRowOf (block_of x) (packs d)) (rows_of (items_by f d false x))) (sym e) (items_stand d x (rest false (block_of x) (length x) (packs d) 0 []) (rest_fine (block_of x) (length x) (blocks_read x) false (packs d) 0 []).0)

-- an index where a place stands
pub among_by : (places : List ℕ) (at : ℕ) (o : Option ℕ) → IfSome o (λ i. i < length places) → IfSome o (λ i. slice_index places i ≡ at) → is_some o ≡ true → Contains places at
among_by places at None inside found is = absurd cc
among_by places at (Some i) inside found is = (i, inside, get_or_default places i at 0 inside ∙ found)

-- the bytes are those of the blocks that a row at a place has
abbrev pub IsRowFrom : List ℕ → ℕ → List ℕ → Type 0
IsRowFrom x at bytes = (all : List Block) → AreLinked (block_of x) at all → bytes ≡ row_bytes all

pub row_met : (d : Defs) (k : ℕ) (p : Pair) (x bytes places : List ℕ) (row : Values) → d.format ≡ Dynamic → ArePlacesOf (readable d false x) places → Contains places p.row → IsRowFrom x p.row bytes → row_of d bytes ≡ Some row → key_of d k row ≡ p.key → Contains (row_pairs d k x) p
row_met d k p x bytes places row dynamic are among told read key =
    let here : IsPlaceOf (readable d false x) p.row = all_of (IsPlaceOf (readable d false x)) p.row places are among in
    let r = here.row in
    let stands : IsRowOf (block_of x) (packs d) r = all_of (IsRowOf (block_of x) (packs d)) r (readable d false x) (rows_dynamic d x dynamic) here.among in
    let own : r.bytes ≡ bytes = stands.bytes ∙ sym (told stands.chain (subst (λ n. AreLinked (block_of x) n stands.chain) here.at stands.is.linked)) in
    let pointed : pointer d r.at ≡ p.row = ap (λ f. pointer_by f d.slot_length r.at) dynamic ∙ here.at in
    pair_in d k p x r row here.among (ap (row_of d) own ∙ read) key pointed
