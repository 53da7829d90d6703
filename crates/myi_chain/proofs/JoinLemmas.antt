-- The row bytes of the blocks of a chain, appended one block after the other.
use Rattle.std.proofs.Common.{◌≡◌, ◌∙◌, ℕ, ◌+◌, ◌≤◌, List, [], ◌∷◌, ◌++◌, length, Option, Some, None, refl, sym, ap, arith, append_assoc}
use Rattle.std.proofs.lemmas.List.{append-nil, length-append}
use Rattle.myi_base.specs.Ranges.{Range}
use Rattle.myi_frames.specs.declared.head.Header.{Header}
use Rattle.myi_frames.specs.Block.{Block, block_of}
use Rattle.myi_frames.specs.Seeing.{Heads, HeadsBlock}
use Rattle.myi_chain.specs.Chain.{Reading, IsReading, AreLinked, IsTail, row_bytes, chain_of}
use Rattle.myi_chain.specs.Chain.{placed}
use Rattle.myi_chain.specs.Source.{AreRead}
use Rattle.myi_chain.proofs.ChainLemmas.{chain_sound}
use Rattle.myi_chain.proofs.BlockLemmas.{blocks_read}

-- what was joined and what is left give the whole
pub record Joins (read : Reading) (rest : List (ℕ × ℕ)) (now : List ℕ) (whole : List ℕ) : Type 0 where
  pub left : List Block
  pub places : rest ≡ placed left
  pub each : AreRead read left
  pub all : now ++ row_bytes left ≡ whole

pub joins_none : (read : Reading) (now whole : List ℕ) → Joins read [] now whole → now ≡ whole
joins_none read now whole j = none j.left j.places j.all
  where
    none : (bs : List Block) → [] ≡ placed bs → now ++ row_bytes bs ≡ whole → now ≡ whole
    none [] e all = sym (append-nil now) ∙ all
    none (b ∷ bs) e all = absurd cc

pub joins_more : (x : List ℕ) (read : Reading) (first : ℕ × ℕ) (more : List (ℕ × ℕ)) (now next whole : List ℕ) (h : Header) → Joins read (first ∷ more) now whole → HeadsBlock x (Some h) (read first.0) → ((b : Block) → Heads x h b → next ≡ now ++ b.bytes) → Joins read more next whole
joins_more x read first more now next whole h j here grown = step j.left j.places j.each j.all
  where
    step : (bs : List Block) → first ∷ more ≡ placed bs → AreRead read bs → now ++ row_bytes bs ≡ whole → Joins read more next whole
    step [] e each all = absurd cc
    step (b ∷ bs) e each all =
        let place : first ≡ (b.at, b.size) = cc in
        let rest : more ≡ placed bs = cc in
        let same : read first.0 ≡ Some b = ap (λ q. read q.0) place ∙ each.0 in
        let block : here.0 ≡ b = let s : Some here.0 ≡ Some b = sym here.1 ∙ same in cc in
        record {
          left = bs;
          places = rest;
          each = each.1;
          all = ap (λ (ys : List ℕ). ys ++ row_bytes bs) (grown here.0 here.2 ∙ ap (λ (c : Block). now ++ c.bytes) block) ∙ append_assoc now b.bytes (row_bytes bs) ∙ all;
        }

-- a chain's block is there
pub joins_here : (read : Reading) (first : ℕ × ℕ) (more : List (ℕ × ℕ)) (now whole : List ℕ) → Joins read (first ∷ more) now whole → read first.0 ≡ None → ⊥
joins_here read first more now whole j none = step j.left j.places j.each
  where
    step : (bs : List Block) → first ∷ more ≡ placed bs → AreRead read bs → ⊥
    step [] e each = cc
    step (b ∷ bs) e each =
        let place : first ≡ (b.at, b.size) = cc in
        let same : read first.0 ≡ Some b = ap (λ q. read q.0) place ∙ each.0 in
        let no : None ≡ Some b = sym none ∙ same in
        cc

-- the next block of a chain is a part of the whole
pub joins_room : (x : List ℕ) (read : Reading) (first : ℕ × ℕ) (more : List (ℕ × ℕ)) (now whole : List ℕ) (h : Header) → Joins read (first ∷ more) now whole → HeadsBlock x (Some h) (read first.0) → length now + h.data_len ≤ length whole
joins_room x read first more now whole h j here = step j.left j.places j.each j.all
  where
    step : (bs : List Block) → first ∷ more ≡ placed bs → AreRead read bs → now ++ row_bytes bs ≡ whole → length now + h.data_len ≤ length whole
    step [] e each all = absurd cc
    step (b ∷ bs) e each all =
        let place : first ≡ (b.at, b.size) = cc in
        let same : read first.0 ≡ Some b = ap (λ q. read q.0) place ∙ each.0 in
        let block : here.0 ≡ b = let s : Some here.0 ≡ Some b = sym here.1 ∙ same in cc in
        let long : length b.bytes ≡ h.data_len = ap (λ (c : Block). length c.bytes) (sym block) ∙ here.2.long in
        let sum : length (now ++ (b.bytes ++ row_bytes bs)) ≡ length whole = ap (λ (ys : List ℕ). length ys) all in
        omega (arith, sum, long, length-append now (b.bytes ++ row_bytes bs), length-append b.bytes (row_bytes bs))

pub none_left : (rest : List (ℕ × ℕ)) → length rest ≡ 0 → rest ≡ []
none_left [] e = refl
none_left (r ∷ rest) e = absurd (omega (arith, e))

-- ---- the row of a chain

tail_read : (read : Reading) (len : ℕ) (stands : IsReading read len) (next : Option ℕ) (bs : List Block) → IsTail read next bs → AreRead read bs
tail_read read len stands None bs is = absurd is
tail_read read len stands (Some p) [] is = absurd is
tail_read read len stands (Some p) (b ∷ []) is = (ap read (stands p b is.0).at ∙ is.0, tt)
tail_read read len stands (Some p) (b ∷ c ∷ bs) is = (ap read (stands p b is.0).at ∙ is.0, tail_read read len stands b.next (c ∷ bs) is.2)

linked_read : (read : Reading) (len : ℕ) (stands : IsReading read len) (p : ℕ) (bs : List Block) → AreLinked read p bs → AreRead read bs
linked_read read len stands p [] is = absurd is
linked_read read len stands p (b ∷ []) is = (ap read (stands p b is.0).at ∙ is.0, tt)
linked_read read len stands p (b ∷ c ∷ bs) is = (ap read (stands p b is.0).at ∙ is.0, tail_read read len stands b.next (c ∷ bs) is.2)

-- the blocks of a chain are read at their places
pub chain_read : (x : List ℕ) (p : ℕ) (used : List Range) (bs : List Block) → chain_of (block_of x) p used ≡ Some bs → AreRead (block_of x) bs
chain_read x p used bs e = linked_read (block_of x) (length x) (blocks_read x) p bs (chain_sound (block_of x) p used bs e).linked
