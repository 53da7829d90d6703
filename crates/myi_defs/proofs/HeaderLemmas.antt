-- Lists of items that stand one after the other.
use Rattle.std.proofs.Common.{◌≡◌, ℕ, zero, suc, ◌+◌, ◌-◌, ◌<◌, ◌≤◌, List, [], ◌∷◌, ◌++◌, length, refl, sym, ap, ◌∙◌, arith, append_assoc}
use Rattle.std.proofs.lemmas.List.Sums.{sum_by-cons, sum_by-append}
use Rattle.myi_base.specs.Numbers.{num_at}
use Rattle.myi_defs.specs.declared.header.KeyItem.{KeyItem}
use Rattle.myi_defs.specs.Conditions.{ItemsStartFrom}
use Rattle.myi_defs.specs.Header.{seg_item, seg_items, key_item, key_items, key_length, keys_length, field_item, field_items}

-- one more is read
pub pushed : {A : Type 0} (done rest all : List A) (x : A) → done ++ (x ∷ rest) ≡ all → (done ++ (x ∷ [])) ++ rest ≡ all
pushed done rest all x so_far = append_assoc done (x ∷ []) rest ∙ so_far

pub seg_items_none : (at : ℕ) (h : List ℕ) → seg_items 0 at h ≡ []
unfolding seg_items
seg_items_none at h = refl

pub seg_items_more : (n at : ℕ) (h : List ℕ) → 0 < n → seg_items n at h ≡ seg_item at h ∷ seg_items (n - 1) (at + 18) h
unfolding seg_items
seg_items_more zero at h some = absurd (omega arith)
seg_items_more (suc n) at h some = ap (λ k. seg_item at h ∷ seg_items k (at + 18) h) (omega arith)

pub length-seg_items : (n at : ℕ) (h : List ℕ) → length (seg_items n at h) ≡ n
unfolding seg_items
length-seg_items zero at h = refl
length-seg_items (suc n) at h = ap suc (length-seg_items n (at + 18) h)

pub key_item-segments : (at : ℕ) (h : List ℕ) → length (key_item at h).segments ≡ num_at at 1 h
unfolding key_item
key_item-segments at h = length-seg_items (num_at at 1 h) (at + 12) h

pub key_items_none : (at : ℕ) (h : List ℕ) → key_items 0 at h ≡ []
unfolding key_items
key_items_none at h = refl

pub key_items_more : (n at : ℕ) (h : List ℕ) → 0 < n → key_items n at h ≡ key_item at h ∷ key_items (n - 1) (at + key_length (key_item at h)) h
unfolding key_items
key_items_more zero at h some = absurd (omega arith)
key_items_more (suc n) at h some = ap (λ k. key_item at h ∷ key_items k (at + key_length (key_item at h)) h) (omega arith)

pub length-key_items : (n at : ℕ) (h : List ℕ) → length (key_items n at h) ≡ n
unfolding key_items
length-key_items zero at h = refl
length-key_items (suc n) at h = ap suc (length-key_items n (at + key_length (key_item at h)) h)

pub keys_length-push : (keys : List KeyItem) (k : KeyItem) → keys_length (keys ++ (k ∷ [])) ≡ keys_length keys + key_length k
keys_length-push keys k =
    let both = sum_by-append key_length keys (k ∷ []) in
    omega (arith, both, sum_by-cons key_length k [])

-- the keys that are read, and the next, take no more than all
pub keys_length-part : (done all : List KeyItem) (n at : ℕ) (h : List ℕ) → 0 < n → done ++ key_items n at h ≡ all → keys_length done + key_length (key_item at h) ≤ keys_length all
keys_length-part done all n at h some so_far =
    let more = ap keys_length (sym so_far) in
    let both = sum_by-append key_length done (key_items n at h) in
    let next = ap keys_length (key_items_more n at h some) in
    let first = sum_by-cons key_length (key_item at h) (key_items (n - 1) (at + key_length (key_item at h)) h) in
    omega (arith, more, both, next, first)

pub field_items_none : (start at : ℕ) (h : List ℕ) → field_items 0 start at h ≡ []
unfolding field_items
field_items_none start at h = refl

pub field_items_more : (n start at : ℕ) (h : List ℕ) → 0 < n → field_items n start at h ≡ field_item start at h ∷ field_items (n - 1) (start + (field_item start at h).length) (at + 7) h
unfolding field_items
field_items_more zero start at h some = absurd (omega arith)
field_items_more (suc n) start at h some = ap (λ k. field_item start at h ∷ field_items k (start + (field_item start at h).length) (at + 7) h) (omega arith)

pub length-field_items : (n start at : ℕ) (h : List ℕ) → length (field_items n start at h) ≡ n
unfolding field_items
length-field_items zero start at h = refl
length-field_items (suc n) start at h = ap suc (length-field_items n (start + (field_item start at h).length) (at + 7) h)

pub field_items-start : (n start at : ℕ) (h : List ℕ) → ItemsStartFrom start (field_items n start at h)
unfolding field_items field_item
field_items-start zero start at h = tt
field_items-start (suc n) start at h = (refl, field_items-start n (start + (field_item start at h).length) (at + 7) h)
