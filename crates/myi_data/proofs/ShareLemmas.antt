-- How the bytes of a giant row are shared among blocks of given sizes: over lists of sizes and plain numbers.
use Rattle.std.proofs.Common.{◌≡◌, ℕ, ◌+◌, ◌-◌, ◌%◌, ◌^◌, ◌<◌, ◌≤◌, Bool, true, false, cond, List, [], ◌∷◌, length, map, sum, sum_by, None, refl, ap, ◌∙◌, arith}
use Rattle.std.specs.Prelude.{max, nat_le, nat_lt, if◌then◌else◌}
use Rattle.std.specs.Int.{next_multiple_of}
use Rattle.std.proofs.lemmas.Bool.{and_parts, and_from, leb-true, leb-false, le-leb, ltb-true, lt-ltb}
use Rattle.std.proofs.lemmas.List.Sums.{sum_by-cons}
use Rattle.myi_frames.specs.Sizes.{row_header, least_size, start_room, middle_room, IsSized}
use Rattle.myi_frames.specs.Writing.{HasRoom, IsWritable, start_spec, middle_spec, end_spec}
use Rattle.myi_frames.proofs.CallerLemmas.{least-sized, least-least, least-writable, start-writable, middle-writable}
use Rattle.myi_defs.specs.declared.types.RowFormat.{RowFormat}
use Rattle.myi_defs.specs.declared.types.RowFormat.TheVariants.{Static, Dynamic}
use Rattle.myi_data.specs.Stored.{Share, is_end, end_size, shares_behind, shares, own_block, shared_bytes, group_by, stored_by}

abbrev pub sizes_of : List Share → List ℕ
sizes_of ss = map (λ (s : Share). s.size) ss

abbrev pub total_shares : List Share → ℕ
total_shares ss = sum_by (λ (s : Share). s.size) ss

pub total_more : (s : Share) (ss : List Share) → total_shares (s ∷ ss) ≡ s.size + total_shares ss
total_more s ss = sum_by-cons (λ (s : Share). s.size) s ss

-- ---- sizes of ends and rooms of middles

either_same : (b : Bool) (n : ℕ) → (if b then n else n) ≡ n
either_same true n = refl
either_same false n = refl

end_again : (rest size : ℕ) → end_size rest (end_size rest size) ≡ end_size rest size
end_again rest size = by (least_size rest) (nat_le (least_size rest + 20) size) refl
  where
    by : (l : ℕ) (b : Bool) → nat_le (l + 20) size ≡ b → (if nat_le (l + 20) (if b then l else size) then l else (if b then l else size)) ≡ (if b then l else size)
    by l true e = either_same (nat_le (l + 20) l) l
    by l false e = ap (λ b. cond b l size) e

end_bounds : (rest size : ℕ) → least_size rest ≤ size → (least_size rest ≤ end_size rest size) × (end_size rest size ≤ size) × (end_size rest size < least_size rest + 20)
end_bounds rest size le = by (least_size rest) (nat_le (least_size rest + 20) size) refl le
  where
    by : (l : ℕ) (b : Bool) → nat_le (l + 20) size ≡ b → l ≤ size → (l ≤ (if b then l else size)) × ((if b then l else size) ≤ size) × ((if b then l else size) < l + 20)
    by l true e le = (omega arith, le, omega arith)
    by l false e le = (le, omega arith, omega (arith, leb-false _ _ e))

end_parts : (rest size : ℕ) → is_end rest size ≡ true → (rest < 2 ^ 24) × (least_size rest ≤ size)
end_parts rest size e =
    let both = and_parts (nat_lt rest (2 ^ 24)) (nat_le (least_size rest) size) e in
    (ltb-true _ _ both.0, leb-true _ _ both.1)

pub end_from : (rest size : ℕ) → rest < 2 ^ 24 → least_size rest ≤ size → is_end rest size ≡ true
end_from rest size few le = and_from (nat_lt rest (2 ^ 24)) (nat_le (least_size rest) size) (lt-ltb _ _ few) (le-leb _ _ le)

end_fits : (rest size : ℕ) → is_end rest size ≡ true → is_end rest (end_size rest size) ≡ true
end_fits rest size e =
    let both = end_parts rest size e in
    end_from rest (end_size rest size) both.0 (end_bounds rest size both.1).0

header_few : (n : ℕ) → (3 ≤ row_header n) × (row_header n ≤ 4)
header_few n = by (nat_le n 65535)
  where
    by : (b : Bool) → (3 ≤ (if b then 3 else 4)) × ((if b then 3 else 4) ≤ 4)
    by true = (omega arith, omega arith)
    by false = (omega arith, omega arith)

least_close : (n : ℕ) → least_size n < row_header n + n + 20
unfolding least_size
least_close n = by (row_header n) (header_few n).0
  where
    by : (h : ℕ) → 3 ≤ h → max 20 (next_multiple_of (h + n) 4) < h + n + 20
    by h some = omega arith

room_under : (size : ℕ) → 20 ≤ size → (middle_room size + 11 ≤ size) × (0 < middle_room size)
unfolding middle_room
room_under size least = by (nat_le size 65546)
  where
    by : (b : Bool) → ((if b then size - 11 else size - 12) + 11 ≤ size) × (0 < (if b then size - 11 else size - 12))
    by true = (omega arith, omega arith)
    by false = (omega arith, omega arith)

-- where what is left is not the end, it fills the middle and goes on
pub room_short : (rest size : ℕ) → size % 4 ≡ 0 → 20 ≤ size → middle_room size < 2 ^ 24 → is_end rest size ≡ false → middle_room size < rest
room_short rest size multiple least few e = by (nat_le rest (middle_room size)) refl
  where
    by : (b : Bool) → nat_le rest (middle_room size) ≡ b → middle_room size < rest
    by false is = leb-false _ _ is
    by true is =
        let le : rest ≤ middle_room size = leb-true _ _ is in
        let sized : IsSized rest size = record { multiple = multiple; least = least; room = omega (arith, le, (room_under size least).0, (header_few rest).1) } in
        let end : is_end rest size ≡ true = end_from rest size (omega (arith, le)) (least-least rest rest size (omega arith) sized) in
        absurd cc

room_start : (n size : ℕ) → 20 ≤ size → 2 ^ 24 ≤ n → 0 < start_room n size
unfolding start_room
room_start n size least giant = ap_lt (nat_le (2 ^ 24) n) (le-leb _ _ giant)
  where
    ap_lt : (b : Bool) → b ≡ true → 0 < size - (if b then 16 else (if nat_le n 65535 then 13 else 15))
    ap_lt true e = omega arith
    ap_lt false e = absurd cc

-- ---- the same sizes again, and no more than were there

pub behind_again : (sizes : List ℕ) (rest : ℕ) → shares_behind (sizes_of (shares_behind sizes rest)) rest ≡ shares_behind sizes rest
behind_again [] rest = refl
behind_again (size ∷ sizes) rest = by (behind_again sizes (rest - middle_room size)) (is_end rest size) refl
  where
    last : ℕ → List Share
    last size = record { size = end_size rest size; taken = rest } ∷ []

    more : List ℕ → List Share
    more sizes = record { size = size; taken = middle_room size } ∷ shares_behind sizes (rest - middle_room size)

    by : shares_behind (sizes_of (shares_behind sizes (rest - middle_room size))) (rest - middle_room size) ≡ shares_behind sizes (rest - middle_room size) → (b : Bool) → is_end rest size ≡ b → shares_behind (sizes_of (cond b (last size) (more sizes))) rest ≡ cond b (last size) (more sizes)
    by again true e =
        ap (λ b. cond b (last (end_size rest size)) (record { size = end_size rest size; taken = middle_room (end_size rest size) } ∷ [])) (end_fits rest size e)
        ∙ ap (λ n. record { size = n; taken = rest } ∷ []) (end_again rest size)
    by again false e =
        ap (λ b. cond b (last size) (more (sizes_of (shares_behind sizes (rest - middle_room size))))) e
        ∙ ap (λ (ss : List Share). record { size = size; taken = middle_room size } ∷ ss) again

pub shares_again : (sizes : List ℕ) (n : ℕ) → shares (sizes_of (shares sizes n)) n ≡ shares sizes n
shares_again [] n = refl
shares_again (size ∷ sizes) n = ap (λ (ss : List Share). record { size = size; taken = start_room n size } ∷ ss) (behind_again sizes (n - start_room n size))

pub group_again : (f : RowFormat) (sizes : List ℕ) (n : ℕ) → group_by f (sizes_of (group_by f sizes n)) n ≡ group_by f sizes n
group_again Static sizes n = refl
group_again Dynamic sizes n = by (nat_lt n (2 ^ 24))
  where
    one : List Share
    one = record { size = least_size n; taken = n } ∷ []

    by : (t : Bool) → cond t one (shares (sizes_of (cond t one (shares sizes n))) n) ≡ cond t one (shares sizes n)
    by true = refl
    by false = shares_again sizes n

pub stored_again : (f : RowFormat) (at : ℕ) (sizes b : List ℕ) → stored_by f at (sizes_of (group_by f sizes (length b))) b ≡ stored_by f at sizes b
stored_again Static at sizes b = refl
stored_again Dynamic at sizes b = by (nat_lt (length b) (2 ^ 24))
  where
    one : List Share
    one = record { size = least_size (length b); taken = length b } ∷ []

    by : (t : Bool) → cond t (own_block b) (shared_bytes at (shares (sizes_of (cond t one (shares sizes (length b)))) (length b)) b) ≡ cond t (own_block b) (shared_bytes at (shares sizes (length b)) b)
    by true = refl
    by false = ap (λ (ss : List Share). shared_bytes at ss b) (shares_again sizes (length b))

sum_more : (n : ℕ) (ns : List ℕ) → sum (n ∷ ns) ≡ n + sum ns
sum_more n ns = sum_by-cons (λ (m : ℕ). m) n ns

behind_less : (sizes : List ℕ) (rest : ℕ) → total_shares (shares_behind sizes rest) ≤ sum sizes
behind_less [] rest = omega arith
behind_less (size ∷ sizes) rest = by (behind_less sizes (rest - middle_room size)) (is_end rest size) refl
  where
    by : total_shares (shares_behind sizes (rest - middle_room size)) ≤ sum sizes → (b : Bool) → is_end rest size ≡ b → total_shares (cond b (record { size = end_size rest size; taken = rest } ∷ []) (record { size = size; taken = middle_room size } ∷ shares_behind sizes (rest - middle_room size))) ≤ sum (size ∷ sizes)
    by less true e = omega (arith, total_more (record { size = end_size rest size; taken = rest }) [], (end_bounds rest size (end_parts rest size e).1).1, sum_more size sizes)
    by less false e =
        omega (arith, total_more (record { size = size; taken = middle_room size }) (shares_behind sizes (rest - middle_room size)), less, sum_more size sizes)

pub shares_less : (sizes : List ℕ) (n : ℕ) → total_shares (shares sizes n) ≤ sum sizes
shares_less [] n = omega arith
shares_less (size ∷ sizes) n = omega (arith, total_more (record { size = size; taken = start_room n size }) (shares_behind sizes (n - start_room n size)), behind_less sizes (n - start_room n size), sum_more size sizes)

-- ---- sizes that hold a row

-- blocks of these sizes can take what is left of a row
abbrev pub HoldBehind : List ℕ → ℕ → Type 0
HoldBehind [] rest = ⊥
HoldBehind (size ∷ sizes) rest = (size % 4 ≡ 0) × (20 ≤ size) × (is_end rest size ≡ false → (middle_room size < 2 ^ 24) × HoldBehind sizes (rest - middle_room size))

-- blocks of these sizes can take a row of n bytes
abbrev pub Hold : List ℕ → ℕ → Type 0
Hold [] n = ⊥
Hold (size ∷ sizes) n = (size % 4 ≡ 0) × (20 ≤ size) × (start_room n size < 2 ^ 24) × HoldBehind sizes (n - start_room n size)

-- what is left of a row fills these blocks, each of which can be written
abbrev pub FillBehind : List Share → ℕ → Type 0
FillBehind [] rest = ⊥
FillBehind (s ∷ []) rest = (s.taken ≡ rest) × (0 < rest) × IsWritable end_spec rest s.size
FillBehind (s ∷ t ∷ ts) rest = (0 < s.taken) × (s.taken ≤ rest) × IsWritable (middle_spec None) s.taken s.size × FillBehind (t ∷ ts) (rest - s.taken)

-- a row of n bytes fills these blocks
abbrev pub Fill : List Share → ℕ → Type 0
Fill [] n = ⊥
Fill (s ∷ ss) n = (0 < s.taken) × (s.taken ≤ n) × IsWritable (start_spec n None) s.taken s.size × FillBehind ss (n - s.taken)

pub end_writable : (rest size : ℕ) → size % 4 ≡ 0 → 20 ≤ size → is_end rest size ≡ true → IsWritable end_spec rest (end_size rest size)
end_writable rest size multiple least e =
    let both = end_parts rest size e in
    by (nat_le (least_size rest + 20) size) refl both.0 both.1
  where
    by : (b : Bool) → nat_le (least_size rest + 20) size ≡ b → rest < 2 ^ 24 → least_size rest ≤ size → IsWritable end_spec rest (if b then least_size rest else size)
    by true is few le = (least-writable rest few).1
    by false is few le =
        let room = (least-sized rest).room in
        let close = least_close rest in
        let under : size < least_size rest + 20 = leb-false _ _ is in
        let has : HasRoom (row_header rest) rest size = record { room = omega (arith, room, le); few = omega (arith, close, under) } in
        record { multiple = multiple; least = least; few = few; kind = (has, refl, refl, refl); next = tt; prev = tt }

-- no end is longer than the longest row bytes that three bytes count, a header and what may be unused
pub end_short : (rest size : ℕ) → is_end rest size ≡ true → end_size rest size < 2 ^ 24 + 64
end_short rest size e =
    let both = end_parts rest size e in
    let close = least_close rest in
    let header = (header_few rest).1 in
    omega (arith, both.0, close, header, (end_bounds rest size both.1).2)

fill_more : (s : Share) (ss : List Share) (rest : ℕ) → 0 < s.taken → s.taken ≤ rest → IsWritable (middle_spec None) s.taken s.size → FillBehind ss (rest - s.taken) → FillBehind (s ∷ ss) rest
fill_more s [] rest some le w f = absurd f
fill_more s (t ∷ ts) rest some le w f = (some, le, w, f)

pub fills_behind : (sizes : List ℕ) (rest : ℕ) → 0 < rest → HoldBehind sizes rest → FillBehind (shares_behind sizes rest) rest
fills_behind [] rest some h = absurd h
fills_behind (size ∷ sizes) rest some h = by (λ some h. fills_behind sizes (rest - middle_room size) some h) (is_end rest size) refl
  where
    by : (0 < rest - middle_room size → HoldBehind sizes (rest - middle_room size) → FillBehind (shares_behind sizes (rest - middle_room size)) (rest - middle_room size)) → (b : Bool) → is_end rest size ≡ b → FillBehind (cond b (record { size = end_size rest size; taken = rest } ∷ []) (record { size = size; taken = middle_room size } ∷ shares_behind sizes (rest - middle_room size))) rest
    by fills true e = (refl, some, end_writable rest size h.0 h.1 e)
    by fills false e =
        let on = h.2 e in
        let short : middle_room size < rest = room_short rest size h.0 h.1 on.0 e in
        fill_more (record { size = size; taken = middle_room size }) (shares_behind sizes (rest - middle_room size)) rest (room_under size h.1).1 (omega (arith, short)) (middle-writable size None h.0 h.1 on.0 tt) (fills (omega (arith, short)) on.1)

pub fills : (sizes : List ℕ) (n : ℕ) → 2 ^ 24 ≤ n → n < 2 ^ 32 → Hold sizes n → Fill (shares sizes n) n
fills [] n giant few h = absurd h
fills (size ∷ sizes) n giant few h =
    let room = h.2 in (
      room_start n size h.1 giant,
      omega (arith, room, giant),
      start-writable n size None h.0 h.1 few (omega (arith, room, giant)) room tt,
      fills_behind sizes (n - start_room n size) (omega (arith, room, giant)) h.3,
    )

-- the sizes of all blocks are multiples of 4

behind_multiple : (ss : List Share) (rest : ℕ) → FillBehind ss rest → total_shares ss % 4 ≡ 0
behind_multiple [] rest f = absurd f
behind_multiple (s ∷ []) rest f = omega (arith, total_more s [], f.2.multiple)
behind_multiple (s ∷ t ∷ ts) rest f = omega (arith, total_more s (t ∷ ts), f.2.multiple, behind_multiple (t ∷ ts) (rest - s.taken) f.3)

pub shares_multiple : (ss : List Share) (n : ℕ) → Fill ss n → total_shares ss % 4 ≡ 0
shares_multiple [] n f = absurd f
shares_multiple (s ∷ ss) n f = omega (arith, total_more s ss, f.2.multiple, behind_multiple ss (n - s.taken) f.3)

-- each block has a byte

behind_count : (ss : List Share) (rest : ℕ) → FillBehind ss rest → length ss ≤ total_shares ss
behind_count [] rest f = absurd f
behind_count (s ∷ []) rest f = omega (arith, total_more s [], f.2.least)
behind_count (s ∷ t ∷ ts) rest f = omega (arith, total_more s (t ∷ ts), f.2.least, behind_count (t ∷ ts) (rest - s.taken) f.3)

pub shares_count : (ss : List Share) (n : ℕ) → Fill ss n → (length ss ≤ total_shares ss) × (0 < total_shares ss)
shares_count [] n f = absurd f
shares_count (s ∷ ss) n f =
    let more = behind_count ss (n - s.taken) f.3 in
    (omega (arith, total_more s ss, f.2.least, more), omega (arith, total_more s ss, f.2.least))
