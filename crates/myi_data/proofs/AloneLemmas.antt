-- A row of fewer than 2^24 bytes stands in one slot or one block, whatever held it and wherever it stands.
use Rattle.std.proofs.Common.{◌≡◌, ℕ, ◌<◌, ◌^◌, Bool, cond, List, [], ◌∷◌, length, refl, ap}
use Rattle.std.proofs.lemmas.Bool.{lt-ltb}
use Rattle.myi_defs.specs.declared.types.RowFormat.{RowFormat}
use Rattle.myi_defs.specs.declared.types.RowFormat.TheVariants.{Static, Dynamic}
use Rattle.myi_frames.specs.Sizes.{least_size}
use Rattle.myi_data.specs.Stored.{own_block, shares, shared_bytes, group_by, stored_by}

-- the size of the one slot or block of n row bytes, and its bytes

abbrev pub size_alone : RowFormat → ℕ → ℕ
size_alone Static n = n
size_alone Dynamic n = least_size n

abbrev pub bytes_alone : RowFormat → List ℕ → List ℕ
bytes_alone Static b = b
bytes_alone Dynamic b = own_block b

pub group_alone : (f : RowFormat) (sizes : List ℕ) (n : ℕ) → (f ≡ Dynamic → n < 2 ^ 24) → group_by f sizes n ≡ record { size = size_alone f n; taken = n } ∷ []
group_alone Static sizes n short = refl
group_alone Dynamic sizes n short = ap (λ (b : Bool). cond b (record { size = least_size n; taken = n } ∷ []) (shares sizes n)) (lt-ltb n (2 ^ 24) (short refl))

pub stored_alone : (f : RowFormat) (at : ℕ) (sizes b : List ℕ) → (f ≡ Dynamic → length b < 2 ^ 24) → stored_by f at sizes b ≡ bytes_alone f b
stored_alone Static at sizes b short = refl
stored_alone Dynamic at sizes b short = ap (λ (t : Bool). cond t (own_block b) (shared_bytes at (shares sizes (length b)) b)) (lt-ltb (length b) (2 ^ 24) (short refl))
