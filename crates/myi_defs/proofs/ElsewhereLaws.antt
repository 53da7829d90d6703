-- Definitions rest on the header alone, and of it neither on the state nor on the mark.
use Rattle.std.proofs.Common.{◌≡◌, ℕ, ◌+◌, ◌-◌, ◌^◌, ◌<◌, ◌≤◌, List, length, take, drop, Ok, refl, sym, ap, ◌∙◌, arith, inl, inr}
use Rattle.std.proofs.lemmas.Bool.{cases_lt}
use Rattle.std.proofs.lemmas.List.{take_all, take-take, drop-take, length-take-le}
use Rattle.myi_base.specs.Numbers.{num_at, AreBytes}
use Rattle.myi_base.proofs.CallerLemmas.{num-below, bytes-drop}
use Rattle.myi_defs.specs.declared.types.Defs.{Defs}
use Rattle.myi_defs.specs.declared.header.Front.{Front}
use Rattle.myi_defs.specs.Elsewhere.{AgreeOutsideState}
use Rattle.myi_defs.specs.EmptyTable.{base_bytes}
use Rattle.myi_defs.specs.Header.{front, header, outline}
use Rattle.myi_defs.specs.ReadDefs.{is_short, read_defs, AreDefs}
use Rattle.myi_defs.proofs.ReadLemmas.{front-take, not_short, printed-judged}
use Rattle.myi_defs.proofs.PrintLemmas.{header_facts}
use Rattle.myi_defs.proofs.SameLemmas.{outline-same}

part_of_take : (at c k : ℕ) (y : List ℕ) → at + c ≤ k → take c (drop at (take k y)) ≡ take c (drop at y)
part_of_take at c k y inside =
    let j = k - at in
    let whole : k ≡ at + j = omega arith in
    ap (λ n. take c (drop at (take n y))) whole ∙ ap (take c) (drop-take at j y) ∙ take-take c j (drop at y) (omega arith)

pub elsewhere : (d : Defs) (y : List ℕ) → AreDefs d → AgreeOutsideState d.raw y → read_defs y ≡ Ok (record d { raw = take (num_at 6 2 d.raw) y })
unfolding front base_bytes
elsewhere d y same agree =
    let x = d.raw in
    let facts = header_facts d same in
    let first : front y ≡ front x = sym (front-take 24 y (omega arith)) ∙ ap front agree.front ∙ front-take 24 x (omega arith) in
    let head : header y ≡ take (num_at 6 2 x) y = ap (λ (f : Front). take f.header_length y) first in
    let whole : header x ≡ x = take_all (num_at 6 2 x) x (omega (arith, facts.size)) in
    let z : List ℕ = take (num_at 6 2 x) y in
    let based : base_bytes (num_at 12 2 x) z ≡ base_bytes (num_at 12 2 x) (header x) =
    part_of_take (num_at 12 2 x) 94 (num_at 6 2 x) y (omega (arith, facts.inside, facts.size)) ∙ agree.base ∙ ap (λ xs. take 94 (drop (num_at 12 2 x) xs)) (sym whole) in
    let out : outline (front x) z ≡ outline (front x) (header x) = outline-same (front x) z (header x) based agree.back in
    printed-judged d x y z same (sym whole) first head out (omega (arith, agree.long, facts.size)) facts.long facts.size

rest_same : (x y : List ℕ) → is_short x ≡ is_short y → front x ≡ front y → header x ≡ header y → read_defs x ≡ read_defs y
unfolding read_defs
rest_same x y short first head = rw (head, short, first) refl

pub read_defs-take : (n : ℕ) (x : List ℕ) → 65535 ≤ n → AreBytes (take n x) → read_defs (take n x) ≡ read_defs x
unfolding front
read_defs-take n x many bytes = elim (cases_lt n (length x)) [
  | inr all ↦ ap read_defs (take_all n x all)
  | inl more ↦
      let first : front (take n x) ≡ front x = front-take n x (omega arith) in
      let size : num_at 6 2 (take n x) ≡ num_at 6 2 x = ap (λ (f : Front). f.header_length) first in
      let below : num_at 6 2 (take n x) < 256 ^ 2 = num-below 2 (drop 6 (take n x)) (bytes-drop 6 (take n x) bytes) in
      let long : length (take n x) ≡ n = length-take-le n x (omega arith) in
      let short : is_short (take n x) ≡ is_short x = not_short (take n x) (omega (arith, long)) (omega (arith, long, below)) ∙ sym (not_short x (omega arith) (omega (arith, size, below))) in
      let head : header (take n x) ≡ header x = ap (λ k. take k (take n x)) size ∙ take-take (num_at 6 2 x) n x (omega (arith, size, below)) in
      rest_same (take n x) x short first head
]
