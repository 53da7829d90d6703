-- What the first bytes of a deleted block say.
use Rattle.std.proofs.Common.{◌≡◌, ℕ, zero, suc, ◌+◌, ◌<◌, ◌≤◌, ◌-◌, Bool, true, false, eqb, List, [], ◌∷◌, length, take, drop, get_or, Option, Some, None, refl, sym, ap, ◌∙◌, arith, length-drop}
use Rattle.std.specs.Prelude.{slice_index, option_and_then}
use Rattle.std.specs.Option.{option_map, option_map_or}
use Rattle.std.proofs.lemmas.List.{get_or-drop, length-take}
use Rattle.std.proofs.lemmas.Bool.{eqb-true, eqb-false}
use Rattle.byteorder.specs.Endian.{big_from}
use Rattle.myi_base.specs.Numbers.{num, num_at}
use Rattle.myi_defs.specs.declared.types.Defs.{Defs}
use Rattle.myi_defs.specs.declared.types.RowFormat.TheVariants.{Static, Dynamic}
use Rattle.myi_frames.specs.declared.head.Head.{Head}
use Rattle.myi_frames.specs.Block.{Block, block_of, head_of}
use Rattle.myi_frames.proofs.CallerLemmas.{block-short}
use Rattle.myi_pair.specs.Clean.{slot_named, next_by}
use Rattle.myi_pair.specs.Findings.{same_link, names_by}
use Rattle.myi_check.specs.declared.link.Link.{Link}
use Rattle.myi_check.specs.ListMet.{IsLinkAt}

-- ---- a number by its bytes

same_from : (i n : ℕ) (x y : List ℕ) → ((k : ℕ) → k < i + n → slice_index x k ≡ slice_index y k) → big_from i n x ≡ big_from i n y
same_from i zero x y same = refl
same_from i (suc n) x y same =
    let here = same i (omega arith) in
    let more = same_from (suc i) n x y (λ k lt. same k (omega (arith, lt))) in
    rw (here, more) refl

same_num : (n : ℕ) (x y : List ℕ) → ((k : ℕ) → k < n → slice_index x k ≡ slice_index y k) → num n x ≡ num n y
unfolding num
same_num n x y same = same_from 0 n x y (λ k lt. same k (omega (arith, lt)))

front_at : (xs : List ℕ) (n k : ℕ) → k < n → get_or (take n xs) k 0 ≡ get_or xs k 0
front_at [] zero k lt = absurd (omega (arith, lt))
front_at [] (suc n) k lt = refl
front_at (x ∷ xs) zero k lt = absurd (omega (arith, lt))
front_at (x ∷ xs) (suc n) zero lt = refl
front_at (x ∷ xs) (suc n) (suc k) lt = front_at xs n k (omega (arith, lt))

-- the number behind the first byte, in what was read from a place on
number_read : (p w : ℕ) (d bytes : List ℕ) → w ≤ 8 → bytes ≡ take 20 (drop p d) → num_at 1 w bytes ≡ num_at (p + 1) w d
number_read p w d bytes narrow is =
    same_num w (drop 1 bytes) (drop (p + 1) d)
    (λ k lt. get_or-drop 1 bytes k 0 ∙ ap (λ (xs : List ℕ). get_or xs (1 + k) 0) is ∙ front_at (drop p d) 20 (1 + k) (omega (arith, lt, narrow)) ∙ get_or-drop p d (1 + k) 0 ∙ ap (λ n. get_or d n 0) (later p k) ∙ sym (get_or-drop (p + 1) d k 0))
  where
    later : (p k : ℕ) → p + (1 + k) ≡ p + 1 + k
    later p k = omega arith

-- ---- a block, by its head

pub short_block : (d : List ℕ) (p : ℕ) (bytes : List ℕ) → bytes ≡ take 20 (drop p d) → length bytes < 20 → block_of d p ≡ None
short_block d p bytes is short = block-short d p (omega (arith, short, ap (λ (xs : List ℕ). length xs) is, length-take 20 (drop p d), length-drop p d))

pub whole_part : (d : List ℕ) (p : ℕ) (bytes : List ℕ) → bytes ≡ take 20 (drop p d) → 20 ≤ length bytes → bytes ≡ take (length bytes) (drop p d)
whole_part d p bytes is long =
    let count : length bytes ≡ 20 = omega (arith, long, ap (λ (xs : List ℕ). length xs) is, length-take 20 (drop p d)) in
    is ∙ ap (λ n. take n (drop p d)) (sym count)

pub no_block_names : (d : List ℕ) (p : ℕ) (before : Option ℕ) → block_of d p ≡ None → false ≡ names_by Dynamic d p before
no_block_names d p before none = sym (ap (λ (o : Option Block). option_map_or (λ (b : Block). same_link b.prev before) o false) none)

pub no_block_next : (defs : Defs) (d : List ℕ) (p : ℕ) → block_of d p ≡ None → None ≡ next_by Dynamic defs d p
no_block_next defs d p none = sym (ap (λ (o : Option Block). option_and_then (λ (b : Block). b.next) o) none)

pub no_head : (o : Option Block) → None ≡ option_map head_of o → o ≡ None
no_head None same = refl
no_head (Some b) same = absurd cc

-- the block has this head
pub of_head : (o : Option Block) (h : Head) → Some h ≡ option_map head_of o → (b : Block) × (o ≡ Some b) × (head_of b ≡ h)
of_head None h same = absurd cc
of_head (Some b) h same = (b, refl, cc)

pub head_names : (d : List ℕ) (p : ℕ) (before : Option ℕ) (h : Head) → Some h ≡ option_map head_of (block_of d p) → same_link h.prev before ≡ names_by Dynamic d p before
head_names d p before h same =
    let k = of_head (block_of d p) h same in
    ap (λ (g : Head). same_link g.prev before) (sym k.2) ∙ sym (ap (λ (o : Option Block). option_map_or (λ (b : Block). same_link b.prev before) o false) k.1)

pub head_next : (defs : Defs) (d : List ℕ) (p : ℕ) (h : Head) → Some h ≡ option_map head_of (block_of d p) → h.next ≡ next_by Dynamic defs d p
head_next defs d p h same =
    let k = of_head (block_of d p) h same in
    ap (λ (g : Head). g.next) (sym k.2) ∙ sym (ap (λ (o : Option Block). option_and_then (λ (b : Block). b.next) o) k.1)

-- ---- in each format

-- the link of a slot that names a place
abbrev link_to : Option ℕ → Link
link_to next = record { named = true; next = next }

pub slot_says : (defs : Defs) (d bytes : List ℕ) (p : ℕ) (before : Option ℕ) (link : Link) → defs.format ≡ Static → defs.rec_ref ≤ 8 → p + defs.rec_ref < length d → bytes ≡ take 20 (drop p d)
    → (defs.rec_ref < length bytes → link ≡ link_to (slot_named defs.slot_length defs.rec_ref (num_at 1 defs.rec_ref bytes))) → IsLinkAt defs d p before link
slot_says defs d bytes p before link static narrow inside is said =
    let all : defs.rec_ref < length bytes = omega (arith, ap (λ (xs : List ℕ). length xs) is, length-take 20 (drop p d), length-drop p d, narrow, inside) in
    let named = said all in
    record {
      named = ap (λ (l : Link). l.named) named ∙ sym (ap (λ f. names_by f d p before) static);
      next = ap (λ (l : Link). l.next) named ∙ ap (slot_named defs.slot_length defs.rec_ref) (number_read p defs.rec_ref d bytes narrow is) ∙ sym (ap (λ f. next_by f defs d p) static);
    }

pub block_says : (defs : Defs) (d : List ℕ) (p : ℕ) (before : Option ℕ) (link : Link) → defs.format ≡ Dynamic → link.named ≡ names_by Dynamic d p before → link.next ≡ next_by Dynamic defs d p → IsLinkAt defs d p before link
block_says defs d p before link dynamic named next = record {
  named = named ∙ sym (ap (λ f. names_by f d p before) dynamic);
  next = next ∙ sym (ap (λ f. next_by f defs d p) dynamic);
}

-- ---- whether a pointer names nothing

pub last_test : (n a : ℕ) → 0 < a → eqb (n + 1) a ≡ eqb n (a - 1)
last_test n a some = by (eqb (n + 1) a) refl (eqb n (a - 1)) refl
  where
    by : (b : Bool) → eqb (n + 1) a ≡ b → (c : Bool) → eqb n (a - 1) ≡ c → b ≡ c
    by true p true q = refl
    by false p false q = refl
    by true p false q = absurd (eqb-false n (a - 1) q (omega (arith, some, eqb-true (n + 1) a p)))
    by false p true q = absurd (eqb-false (n + 1) a p (omega (arith, some, eqb-true n (a - 1) q)))
