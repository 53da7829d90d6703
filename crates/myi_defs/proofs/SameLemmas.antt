-- What is read of two lists that agree where it stands.
use Rattle.std.proofs.Common.{◌≡◌, ℕ, zero, suc, ◌+◌, ◌≤◌, List, ◌∷◌, take, drop, refl, sym, ap, ◌∙◌, arith}
use Rattle.std.proofs.lemmas.List.{drop-drop}
use Rattle.myi_base.specs.Numbers.{num, num_at}
use Rattle.myi_defs.specs.declared.header.Front.{Front}
use Rattle.myi_defs.specs.declared.header.Base.{Base}
use Rattle.myi_defs.specs.declared.header.KeyItem.{KeyItem}
use Rattle.myi_defs.specs.declared.header.FieldItem.{FieldItem}
use Rattle.myi_defs.specs.declared.header.Outline.{Outline}
use Rattle.myi_defs.specs.Header.{base, seg_item, seg_items, key_item, key_items, key_length, field_item, field_items, keys_place, fields_place, outline}
use Rattle.myi_defs.specs.EmptyTable.{base_bytes}
use Rattle.myi_defs.proofs.ReadLemmas.{num_at-take}

num_at-drop : (at k n : ℕ) (x : List ℕ) → num_at (at + k) n x ≡ num_at k n (drop at x)
num_at-drop at k n x = ap (num n) (sym (drop-drop k at x))

num_at-part : (c at k n : ℕ) (x y : List ℕ) → k + n ≤ c → take c (drop at x) ≡ take c (drop at y) → num_at (at + k) n x ≡ num_at (at + k) n y
num_at-part c at k n x y inside same =
    num_at-drop at k n x ∙ sym (num_at-take k n c (drop at x) inside) ∙ ap (num_at k n) same ∙ num_at-take k n c (drop at y) inside ∙ sym (num_at-drop at k n y)

pub base-same : (at : ℕ) (x y : List ℕ) → base_bytes at x ≡ base_bytes at y → base at x ≡ base at y
unfolding base base_bytes
base-same at x y same =
    let row_length = num_at-part 94 at 44 4 x y (omega arith) same in
    let slot_length = num_at-part 94 at 48 4 x y (omega arith) same in
    let fields = num_at-part 94 at 64 4 x y (omega arith) same in
    let rec_ref = num_at-part 94 at 72 1 x y (omega arith) same in
    let key_ref = num_at-part 94 at 73 1 x y (omega arith) same in
    let pack_bits = num_at-part 94 at 76 2 x y (omega arith) same in
    cc

drop-same : (at k : ℕ) (x y : List ℕ) → drop at x ≡ drop at y → drop (at + k) x ≡ drop (at + k) y
drop-same at k x y same = sym (drop-drop k at x) ∙ ap (drop k) same ∙ drop-drop k at y

num_at-same : (at k n : ℕ) (x y : List ℕ) → drop at x ≡ drop at y → num_at (at + k) n x ≡ num_at (at + k) n y
num_at-same at k n x y same = ap (num n) (drop-same at k x y same)

seg_item-same : (at : ℕ) (x y : List ℕ) → drop at x ≡ drop at y → seg_item at x ≡ seg_item at y
unfolding seg_item
seg_item-same at x y same =
    let seg : num_at at 1 x ≡ num_at at 1 y = ap (num 1) same in
    let low = num_at-same at 1 1 x y same in
    let high = num_at-same at 4 1 x y same in
    let null_bit = num_at-same at 2 1 x y same in
    let length = num_at-same at 8 2 x y same in
    let start = num_at-same at 10 4 x y same in
    let null_pos = num_at-same at 14 4 x y same in
    cc

seg_items-same : (n at : ℕ) (x y : List ℕ) → drop at x ≡ drop at y → seg_items n at x ≡ seg_items n at y
unfolding seg_items
seg_items-same zero at x y same = refl
seg_items-same (suc n) at x y same =
    let first = seg_item-same at x y same in
    let others = seg_items-same n (at + 18) x y (drop-same at 18 x y same) in
    cc

key_item-same : (at : ℕ) (x y : List ℕ) → drop at x ≡ drop at y → key_item at x ≡ key_item at y
unfolding key_item
key_item-same at x y same =
    let flag = num_at-same at 2 2 x y same in
    let block_length = num_at-same at 4 2 x y same in
    let count : num_at at 1 x ≡ num_at at 1 y = ap (num 1) same in
    let segments = ap (λ n. seg_items n (at + 12) x) count ∙ seg_items-same (num_at at 1 y) (at + 12) x y (drop-same at 12 x y same) in
    cc

pub key_items-same : (n at : ℕ) (x y : List ℕ) → drop at x ≡ drop at y → key_items n at x ≡ key_items n at y
unfolding key_items
key_items-same zero at x y same = refl
key_items-same (suc n) at x y same =
    let size = key_length (key_item at y) in
    ap (λ (k : KeyItem). k ∷ key_items n (at + key_length k) x) (key_item-same at x y same)
    ∙ ap (λ ks. key_item at y ∷ ks) (key_items-same n (at + size) x y (drop-same at size x y same))

field_item-same : (start at : ℕ) (x y : List ℕ) → drop at x ≡ drop at y → field_item start at x ≡ field_item start at y
unfolding field_item
field_item-same start at x y same =
    let kind : num_at at 2 x ≡ num_at at 2 y = ap (num 2) same in
    let length = num_at-same at 2 2 x y same in
    cc

pub field_items-same : (n start at : ℕ) (x y : List ℕ) → drop at x ≡ drop at y → field_items n start at x ≡ field_items n start at y
unfolding field_items
field_items-same zero start at x y same = refl
field_items-same (suc n) start at x y same =
    ap (λ (f : FieldItem). f ∷ field_items n (start + f.length) (at + 7) x) (field_item-same start at x y same)
    ∙ ap (λ fs. field_item start at y ∷ fs) (field_items-same n (start + (field_item start at y).length) (at + 7) x y (drop-same at 7 x y same))

abbrev made : Front → Base → List KeyItem → List FieldItem → Outline
made f b ks fs = record { front = f; base = b; keys = ks; fields = fs }

-- an outline rests on the base section without its last bytes and on what follows
pub outline-same : (f : Front) (x y : List ℕ) → base_bytes f.base_pos x ≡ base_bytes f.base_pos y → drop (f.base_pos + 100) x ≡ drop (f.base_pos + 100) y → outline f x ≡ outline f y
unfolding outline
outline-same f x y based behind =
    let at = keys_place f in
    let ks = key_items f.keys at y in
    let size = Rattle.myi_defs.specs.Header.keys_length ks in
    let b = base f.base_pos y in
    ap (λ (c : Base). made f c (key_items f.keys at x) (field_items c.fields 0 (fields_place f (key_items f.keys at x)) x)) (base-same f.base_pos x y based)
    ∙ ap (λ (k : List KeyItem). made f b k (field_items b.fields 0 (fields_place f k) x)) (key_items-same f.keys at x y behind)
    ∙ ap (λ (fs : List FieldItem). made f b ks fs) (field_items-same b.fields 0 (fields_place f ks) x y (drop-same at size x y behind))
