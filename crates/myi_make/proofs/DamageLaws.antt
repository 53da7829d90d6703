-- Bytes FF over blocks of a file, one block after the other, and over every tenth one of the rows.
use Rattle.std.proofs.Common.{◌≡◌, ◌<◌, ◌≤◌, ◌++◌, ◌∷◌, ◌+◌, ◌-◌, ◌%◌, ◌==◌, ◌∙◌, ℕ, zero, suc, Bool, true, false, List, [], Option, HoldsAt, get_or, length, take, drop, ap, subst, sym, refl, arith}
use Rattle.std.specs.Prelude.{replicate, unwrap_or, if◌then◌else◌}
use Rattle.std.proofs.lemmas.List.{append_assoc, append-nil, length-append, take-replicate, length-replicate}
use Rattle.myi_base.specs.Holding.{Holding, Told, OthersStay, Writes, bytes_of, overwritten}
use Rattle.myi_base.proofs.CallerLemmas.{told_then}
use Rattle.myi_make.specs.MadeTable.{next_number, row_of, row_block, left_block, blocks_behind, damaged_file}
use Rattle.myi_make.specs.Filling.{Block, rows_behind, if_tenth, tenths, damaged_over}
use Rattle.myi_make.proofs.BlockLaws.{length-left}

-- ---- one block after the other

-- the blocks that are left damage what stands there now as all of them damage what stood there
pub record DamagesSoFar (name : List ℕ) (blocks : List Block) (i : ℕ) (m n : Holding) : Type 0 where
  pub others : OthersStay name m n
  pub whole : damaged_over (drop i blocks) (bytes_of name n) ≡ damaged_over blocks (bytes_of name m)

next_block : (blocks : List Block) (i : ℕ) (b : Block) → i < length blocks → HoldsAt (λ (c : Block). c ≡ b) blocks i → drop i blocks ≡ b ∷ drop (i + 1) blocks
next_block [] i b few at = absurd (omega (arith, few))
next_block (c ∷ cs) zero b few at = ap (λ (x : Block). x ∷ cs) (at b)
next_block (c ∷ cs) (suc i) b few at = next_block cs i b (omega (arith, few)) at ∙ ap (λ k. b ∷ drop k (c ∷ cs)) (let e : suc (i + 1) ≡ suc i + 1 = omega arith in e)

-- what is read beyond the end does not matter inside
pub any_beyond : (blocks : List Block) (i : ℕ) (b c : Block) → i < length blocks → get_or blocks i b ≡ get_or blocks i c
any_beyond [] i b c few = absurd (omega (arith, few))
any_beyond (d ∷ ds) zero b c few = refl
any_beyond (d ∷ ds) (suc i) b c few = any_beyond ds i b c (omega (arith, few))

written : (name : List ℕ) (at : ℕ) (bytes : List ℕ) (m n : Holding) → Writes name at bytes m n → bytes_of name n ≡ overwritten at bytes (bytes_of name m)
written name at bytes m n writes = ap (λ (o : Option (List ℕ)). unwrap_or o []) writes.here

damaged_more : (name bytes : List ℕ) (blocks : List Block) (i : ℕ) (b : Block) (l m n : Holding) → i < length blocks → HoldsAt (λ (c : Block). c ≡ b) blocks i → bytes ≡ replicate b.1 255 → DamagesSoFar name blocks i l m → Writes name b.0 bytes m n → DamagesSoFar name blocks (i + 1) l n
damaged_more name bytes blocks i b l m n few at is was writes = record {
  others = λ q apart. writes.others q apart ∙ was.others q apart;
  whole =
      ap (λ (d : List ℕ). damaged_over (drop (i + 1) blocks) d) (written name b.0 bytes m n writes ∙ ap (λ (x : List ℕ). overwritten b.0 x (bytes_of name m)) is)
      ∙ ap (λ (bs : List Block). damaged_over bs (bytes_of name m)) (sym (next_block blocks i b few at)) ∙ was.whole;
}

pub one_damaged : (name bytes : List ℕ) (blocks : List Block) (i : ℕ) (b : Block) (old mid new : Option Holding) → i < length blocks → HoldsAt (λ (c : Block). c ≡ b) blocks i → bytes ≡ take b.1 (replicate 256 255) → b.1 ≤ 256 → Told old mid (DamagesSoFar name blocks i) → Told mid new (Writes name b.0 bytes) → Told old new (DamagesSoFar name blocks (i + 1))
one_damaged name bytes blocks i b old mid new few at is less was writes = told_then old mid new _ _ (DamagesSoFar name blocks (i + 1)) was writes (λ l m n so wrote. damaged_more name bytes blocks i b l m n few at (is ∙ take-replicate b.1 256 255 less) so wrote)

-- ---- every tenth block of the rows

-- bytes over the first block behind the front of a file
over_next : (front block rest bytes : List ℕ) → length bytes ≡ length block → overwritten (length front) bytes (front ++ (block ++ rest)) ≡ (front ++ bytes) ++ rest
over_next front block rest bytes same =
    let none : length front - length (front ++ (block ++ rest)) ≡ 0 = omega (arith, length-append front (block ++ rest)) in
    let whole : take (length front) (front ++ (block ++ rest)) ≡ front = first front (block ++ rest) in
    let past : drop (length front + length bytes) (front ++ (block ++ rest)) ≡ rest = ap (λ k. drop (length front + k) (front ++ (block ++ rest))) same ∙ behind front block rest (length front + length block) refl in
    rw none (rw whole (rw past (ap (λ k. (k ++ bytes) ++ rest) (append-nil front))))
  where
    first : (d more : List ℕ) → take (length d) (d ++ more) ≡ d
    first [] more = refl
    first (x ∷ d) more = ap (λ l. x ∷ l) (first d more)

    past : (b more : List ℕ) → drop (length b) (b ++ more) ≡ more
    past [] more = refl
    past (x ∷ b) more = past b more

    behind : (d b more : List ℕ) (n : ℕ) → n ≡ length d + length b → drop n (d ++ (b ++ more)) ≡ more
    behind [] b more n is = ap (λ k. drop k (b ++ more)) (let e : n ≡ length b = omega (arith, is) in e) ∙ past b more
    behind (x ∷ d) b more zero is = absurd (omega (arith, is))
    behind (x ∷ d) b more (suc n) is = behind d b more n (omega (arith, is))

-- one row's block, damaged or left
over_row : (b : Bool) (i : ℕ) (front block rest whole : List ℕ) (others : List Block) → (i % 10 == 0) ≡ b → damaged_over others ((front ++ left_block i block) ++ rest) ≡ whole → damaged_over (if_tenth b (length front, length block) others) (front ++ (block ++ rest)) ≡ whole
unfolding left_block
over_row true i front block rest whole others tenth was =
    ap (λ (d : List ℕ). damaged_over others d) (over_next front block rest (replicate (length block) 255) (length-replicate (length block) 255))
    ∙ subst (λ (c : Bool). damaged_over others ((front ++ (if c then replicate (length block) 255 else block)) ++ rest) ≡ whole) tenth was
over_row false i front block rest whole others tenth was =
    ap (λ (d : List ℕ). damaged_over others d) (sym (append_assoc front block rest))
    ∙ subst (λ (c : Bool). damaged_over others ((front ++ (if c then replicate (length block) 255 else block)) ++ rest) ≡ whole) tenth was

over_rows : (k i x : ℕ) (front : List ℕ) → damaged_over (tenths k i x (length front)) (front ++ rows_behind k i x) ≡ front ++ blocks_behind k i x
over_rows zero i x front = refl
over_rows (suc k) i x front =
    let next = next_number x in
    let block : List ℕ = row_block (row_of (i + 1) next) in
    let left : List ℕ = left_block (i + 1) block in
    let more : length (front ++ left) ≡ length front + length block = omega (arith, length-append front left, length-left (i + 1) block) in
    let was : damaged_over (tenths k (i + 1) next (length front + length block)) ((front ++ left) ++ rows_behind k (i + 1) next) ≡ (front ++ left) ++ blocks_behind k (i + 1) next =
    subst (λ n. damaged_over (tenths k (i + 1) next n) ((front ++ left) ++ rows_behind k (i + 1) next) ≡ (front ++ left) ++ blocks_behind k (i + 1) next) more (over_rows k (i + 1) next (front ++ left)) in
    over_row ((i + 1) % 10 == 0) (i + 1) front block (rows_behind k (i + 1) next) ((front ++ left) ++ blocks_behind k (i + 1) next) (tenths k (i + 1) next (length front + length block)) refl was
    ∙ append_assoc front left (blocks_behind k (i + 1) next)

pub all_rows : (count seed : ℕ) → damaged_over (tenths count 0 seed 0) (rows_behind count 0 seed) ≡ damaged_file count seed
unfolding damaged_file
all_rows count seed = over_rows count 0 seed []
