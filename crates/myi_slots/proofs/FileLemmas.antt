-- What is told of a file by its slots, said of the object on it.
use Rattle.std.proofs.Common.{◌≡◌, ℕ, ◌+◌, ◌-◌, ◌^◌, ◌<◌, ◌≤◌, Bool, true, false, List, ◌++◌, length, take, drop, Option, Some, None, Result, Ok, Err, IfErr, refl, sym, ap, subst, ◌∙◌}
use Rattle.std.specs.Prelude.{◌&&◌, is_some, nat_le, nat_lt, MatchOption, if◌then◌else◌}
use Rattle.std.proofs.lemmas.Bool.{lt-leb}
use Rattle.std.proofs.Math.Seq.{take-append_seam}
use Rattle.myi_base.specs.Holding.{Holding, bytes_of, Writes}
use Rattle.myi_defs.specs.declared.types.Defs.{Defs}
use Rattle.myi_defs.specs.declared.types.RowFormat.TheVariants.{Static, Dynamic}
use Rattle.myi_defs.specs.Addressable.{is_addressable, pointers}
use Rattle.myi_defs.specs.Sound.{IsSound}
use Rattle.myi_pack.specs.Packed.{Values, Packs}
use Rattle.myi_pack.specs.Spelling.{fits}
use Rattle.myi_pack.specs.Unpacking.{row_of}
use Rattle.myi_pack.proofs.CallerLemmas.{row-fits}
use Rattle.myi_data.specs.Readable.{packs}
use Rattle.myi_state.specs.Standing.{slot_bytes}
use Rattle.myi_state.specs.declared.counts.Counts.{Counts}
use Rattle.myi_slots.specs.declared.slots.Slots.{Slots}
use Rattle.myi_slots.specs.declared.fault.DataFault.{DataFault}
use Rattle.myi_slots.specs.declared.fault.DataFault.TheVariants as fault
use Rattle.myi_slots.specs.SlotBytes.{is_slot, is_row, row_there, hole_in, hole_bytes, slot_number}
use Rattle.myi_slots.specs.SlotFile.{SlotFile, IsLong, ByCause, LacksHole, LacksLink, IsLink, freed_counts}

abbrev pub slots_of : SlotFile → Slots
slots_of f = record { size = f.defs.slot_length; width = f.defs.rec_ref; end = f.counts.length }

-- what is said of a name and of slots that are those of an object
pub said-of : (P : List ℕ → Slots → Type 0) (f : SlotFile) (name : List ℕ) (sl : Slots) → name ≡ f.name → sl ≡ slots_of f → P name sl → P f.name (slots_of f)
said-of P f name sl e g h = subst (λ (q : Slots). P f.name q) g (subst (λ (q : List ℕ). P q sl) e h)

-- whether a slot is there
abbrev pub SaysSlot : ℕ → Bool → Holding → List ℕ → Slots → Type 0
SaysSlot at is m name sl = length (bytes_of name m) ≡ sl.end → is ≡ is_slot sl.size sl.end at

-- which bytes it has
abbrev pub SaysBytes : ℕ → Bool → List ℕ → Holding → List ℕ → Slots → Type 0
SaysBytes at is slot m name sl = length (bytes_of name m) ≡ sl.end → is ≡ true → slot ≡ take sl.size (drop at (bytes_of name m))

pub row-lacks-slot : (f : SlotFile) (name : List ℕ) (sl : Slots) (m : Holding) (at : ℕ) (is : Bool) → name ≡ f.name → sl ≡ slots_of f → SaysSlot at is m name sl → is ≡ false → IsLong f m → false ≡ is_row f.defs (bytes_of f.name m) at
unfolding is_row
row-lacks-slot f name sl m at is e g says lacks long =
    let none : is_slot f.defs.slot_length f.counts.length at ≡ false = sym (said-of (SaysSlot at is m) f name sl e g says long) ∙ lacks in
    by_test (is_slot f.defs.slot_length (length (bytes_of f.name m)) at) (ap (λ (n : ℕ). is_slot f.defs.slot_length n at) long ∙ none)
  where
    by_test : (t : Bool) → t ≡ false → false ≡ (t && packs f.defs (slot_bytes f.defs (bytes_of f.name m) at))
    by_test true h = absurd cc
    by_test false h = refl

pub row-by-slot : (f : SlotFile) (name : List ℕ) (sl : Slots) (m : Holding) (at : ℕ) (is found : Bool) (slot : List ℕ) → name ≡ f.name → sl ≡ slots_of f → SaysSlot at is m name sl → SaysBytes at is slot m name sl → is ≡ true → IsLong f m → found ≡ packs f.defs slot → found ≡ is_row f.defs (bytes_of f.name m) at
unfolding is_row
row-by-slot f name sl m at is found slot e g says bytes stands long packed =
    let here : is_slot f.defs.slot_length f.counts.length at ≡ true = sym (said-of (SaysSlot at is m) f name sl e g says long) ∙ stands in
    let read = said-of (SaysBytes at is slot m) f name sl e g bytes long stands in
    packed ∙ ap (λ (y : List ℕ). packs f.defs y) read ∙ by_test (is_slot f.defs.slot_length (length (bytes_of f.name m)) at) (ap (λ (n : ℕ). is_slot f.defs.slot_length n at) long ∙ here)
  where
    by_test : (t : Bool) → t ≡ true → packs f.defs (slot_bytes f.defs (bytes_of f.name m) at) ≡ (t && packs f.defs (slot_bytes f.defs (bytes_of f.name m) at))
    by_test true h = refl
    by_test false h = absurd cc

-- the slot ends in the file
pub slot-ends : (f : SlotFile) (sl : Slots) (at : ℕ) → sl ≡ slots_of f → at + sl.size ≤ sl.end → at + f.defs.slot_length ≤ f.counts.length
slot-ends f sl at g h = subst (λ (q : Slots). at + q.size ≤ q.end) g h

-- a view is there exactly where the bytes pack a row
pub view-packs : (d : Defs) (o : Option Values) (b slot : List ℕ) → MatchOption o (row_of d b ≡ None) (λ r. row_of d b ≡ Some r) → b ≡ slot → is_some o ≡ packs d slot
view-packs d None b slot found e = ap (λ (q : Option Values). is_some q) (sym found) ∙ ap (λ (y : List ℕ). is_some (row_of d y)) e
view-packs d (Some r) b slot found e = ap (λ (q : Option Values). is_some q) (sym found) ∙ ap (λ (y : List ℕ). is_some (row_of d y)) e

-- what a view shows fits
pub view-fits : (d : Defs) (o : Option Values) (row : Values) (b : List ℕ) → IsSound d → d.format ≡ Static → o ≡ Some row → MatchOption o ((r : Values) → Packs d r b → ⊥) (λ r. Packs d r b) → fits d row ≡ true
view-fits d o row b sound static e packs =
    row-fits d row b sound (subst (λ (q : Option Values). MatchOption q ((r : Values) → Packs d r b → ⊥) (λ r. Packs d r b)) e packs) (λ dynamic. absurd (other (sym static ∙ dynamic)))
  where
    other : Static ≡ Dynamic → ⊥
    other e = cc

-- other causes that follow
pub by-cause : (N M : ℕ → Type 0) (P R : Type 0) (Q S : ℕ → Type 0) (f : DataFault) → ((p : ℕ) → N p → M p) → (P → R) → ((p : ℕ) → Q p → S p) → ByCause N P Q f → ByCause M R S f
by-cause N M P R Q S (fault.NoRow p) n q s h = n p h
by-cause N M P R Q S fault.Full n q s h = q h
by-cause N M P R Q S (fault.Damaged p) n q s h = s p h
by-cause N M P R Q S fault.File n q s h = tt
by-cause N M P R Q S fault.Memory n q s h = tt

pub too-long : (d : Defs) (n : ℕ) → 2 ^ 40 < n → is_addressable d n ≡ false
unfolding is_addressable
too-long d n far = by_test (nat_le n (2 ^ 40)) (lt-leb _ _ far)
  where
    by_test : (t : Bool) → t ≡ false → (t && nat_lt (pointers d.format d.slot_length n) (256 ^ d.rec_ref - 1)) ≡ false
    by_test true h = absurd cc
    by_test false h = refl

-- what is said of an error is said of a result that has it
pub err-is : {T : Type 0} (r : Result T DataFault) (e : DataFault) (P : DataFault → Type 0) → r ≡ Err e → P e → IfErr r P
err-is (Ok x) e P same h = absurd cc
err-is (Err f) e P same h = let w : f ≡ e = cc in subst P (sym w) h

-- what is told of a deleted slot by its name and slots
abbrev pub SaysNone : ℕ → Holding → List ℕ → Slots → Type 0
SaysNone at m name sl = length (bytes_of name m) ≡ sl.end → hole_in sl.size sl.width (bytes_of name m) at ≡ None

pub lacks-hole : (f : SlotFile) (name : List ℕ) (sl : Slots) (at : ℕ) (m : Holding) → name ≡ f.name → sl ≡ slots_of f → SaysNone at m name sl → IsLong f m → LacksHole f at m
lacks-hole f name sl at m e g says long = said-of (SaysNone at m) f name sl e g says long

pub seam : (n : ℕ) (xs ys : List ℕ) → n ≡ length xs → take n (xs ++ ys) ≡ xs
seam n xs ys e = ap (λ (k : ℕ). take k (xs ++ ys)) e ∙ take-append_seam xs ys

-- what is said of the first deleted slot
pub lacks-as : (f : SlotFile) (sl : Slots) (link : Option ℕ) (e : DataFault) → sl ≡ slots_of f → link ≡ f.counts.dellink → LacksLink sl.size sl.end link e → LacksLink f.defs.slot_length f.counts.length f.counts.dellink e
lacks-as f sl link e a b h = subst (λ (o : Option ℕ). LacksLink f.defs.slot_length f.counts.length o e) b (subst (λ (q : Slots). LacksLink q.size q.end link e) a h)

pub link-as : (f : SlotFile) (sl : Slots) (link : Option ℕ) → sl ≡ slots_of f → link ≡ f.counts.dellink → IsLink sl.size sl.end link → IsLink f.defs.slot_length f.counts.length f.counts.dellink
link-as f sl link a b h = subst (λ (o : Option ℕ). IsLink f.defs.slot_length f.counts.length o) b (subst (λ (q : Slots). IsLink q.size q.end link) a h)

pub fits-as : (f : SlotFile) (sl : Slots) (link : Option ℕ) → sl ≡ slots_of f → link ≡ f.counts.dellink → slot_number f.defs.slot_length f.defs.rec_ref f.counts.dellink < 256 ^ f.defs.rec_ref → slot_number sl.size sl.width link < 256 ^ sl.width
fits-as f sl link a b h = subst (λ (q : Slots). slot_number q.size q.width link < 256 ^ q.width) (sym a) (subst (λ (o : Option ℕ). slot_number f.defs.slot_length f.defs.rec_ref o < 256 ^ f.defs.rec_ref) (sym b) h)

pub hole-as : (f : SlotFile) (name : List ℕ) (sl : Slots) (link : Option ℕ) (at : ℕ) (m n : Holding) → name ≡ f.name → sl ≡ slots_of f → link ≡ f.counts.dellink → Writes name at (hole_bytes sl.size sl.width link) m n → Writes f.name at (hole_bytes f.defs.slot_length f.defs.rec_ref f.counts.dellink) m n
hole-as f name sl link at m n e a b w =
    subst (λ (q : List ℕ). Writes q at (hole_bytes f.defs.slot_length f.defs.rec_ref f.counts.dellink) m n) e
    (subst (λ (o : Option ℕ). Writes name at (hole_bytes f.defs.slot_length f.defs.rec_ref o) m n) b
    (subst (λ (q : Slots). Writes name at (hole_bytes q.size q.width link) m n) a w))

-- the object behind a delete
pub freed-as : (f h : SlotFile) (sl : Slots) (at : ℕ) (r : Counts) → h ≡ f → sl ≡ slots_of f → r ≡ freed_counts sl.size at h.counts → (record h { counts = r }) ≡ (record f { counts = freed_counts f.defs.slot_length at f.counts })
freed-as f h sl at r e a w =
    ap (λ (q : SlotFile). record q { counts = r }) e
    ∙ ap (λ (c : Counts). record f { counts = c }) (w ∙ ap (λ (q : Slots). freed_counts q.size at h.counts) a ∙ ap (λ (q : SlotFile). freed_counts f.defs.slot_length at q.counts) e)

pub row-lacks : (f : SlotFile) (name : List ℕ) (sl : Slots) (m : Holding) (at : ℕ) (is : Bool) → name ≡ f.name → sl ≡ slots_of f → SaysSlot at is m name sl → is ≡ false → IsLong f m → None ≡ row_there f.defs (bytes_of f.name m) at
unfolding row_there
row-lacks f name sl m at is e g says lacks long =
    let none : is_slot f.defs.slot_length f.counts.length at ≡ false = sym (said-of (SaysSlot at is m) f name sl e g says long) ∙ lacks in
    by_test (is_slot f.defs.slot_length (length (bytes_of f.name m)) at) (ap (λ (n : ℕ). is_slot f.defs.slot_length n at) long ∙ none)
  where
    by_test : (t : Bool) → t ≡ false → None ≡ (if t then row_of f.defs (slot_bytes f.defs (bytes_of f.name m) at) else None)
    by_test true h = absurd cc
    by_test false h = refl

pub row-by-bytes : (f : SlotFile) (name : List ℕ) (sl : Slots) (m : Holding) (at : ℕ) (is : Bool) (slot : List ℕ) (found : Option Values) → name ≡ f.name → sl ≡ slots_of f → SaysSlot at is m name sl → SaysBytes at is slot m name sl → is ≡ true → IsLong f m → found ≡ row_of f.defs slot → found ≡ row_there f.defs (bytes_of f.name m) at
unfolding row_there
row-by-bytes f name sl m at is slot found e g says bytes stands long packed =
    let here : is_slot f.defs.slot_length f.counts.length at ≡ true = sym (said-of (SaysSlot at is m) f name sl e g says long) ∙ stands in
    let read = said-of (SaysBytes at is slot m) f name sl e g bytes long stands in
    packed ∙ ap (λ (y : List ℕ). row_of f.defs y) read ∙ by_test (is_slot f.defs.slot_length (length (bytes_of f.name m)) at) (ap (λ (n : ℕ). is_slot f.defs.slot_length n at) long ∙ here)
  where
    by_test : (t : Bool) → t ≡ true → row_of f.defs (slot_bytes f.defs (bytes_of f.name m) at) ≡ (if t then row_of f.defs (slot_bytes f.defs (bytes_of f.name m) at) else None)
    by_test true h = refl
    by_test false h = absurd cc
