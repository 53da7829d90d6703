-- The blocks of a row, one after the other: each says how the row goes on.
use Rattle.std.proofs.Common.{◌≡◌, ◌∙◌, ℕ, List, [], ◌∷◌, ◌++◌, Some, sym, ap, subst, append_assoc}
use Rattle.std.proofs.lemmas.List.{append-nil}
use Rattle.myi_frames.specs.declared.form.FrameKind.{FrameKind}
use Rattle.myi_frames.specs.declared.form.FrameKind.TheVariants.{Whole, Start, Middle, End}
use Rattle.myi_frames.specs.Block.{Block}
use Rattle.myi_chain.specs.Chain.{Reading, AreLinked, IsTail, row_bytes}
use Rattle.myi_check.specs.ChainReads.{Remains}

some_is : {A : Type 0} {a b : A} → Some a ≡ Some b → a ≡ b
some_is e = cc

-- the block that is read is the one of the row
same : (read : Reading) (at : ℕ) (b c : Block) → read at ≡ Some b → read at ≡ Some c → c ≡ b
same read at b c one other = some_is (sym other ∙ one)

kind_of : (b c : Block) (k l : FrameKind) → c ≡ b → b.kind ≡ k → c.kind ≡ l → k ≡ l
kind_of b c k l is one other = sym one ∙ sym (ap (λ (d : Block). d.kind) is) ∙ other

bytes_of : (b c : Block) → c ≡ b → b.bytes ≡ row_bytes (c ∷ [])
bytes_of b c is = sym (ap (λ (d : Block). d.bytes) is) ∙ sym (append-nil c.bytes)

next_of : (read : Reading) (b c : Block) (rest : List Block) → c ≡ b → IsTail read c.next rest → IsTail read b.next rest
next_of read b c rest is tail = subst (λ (d : Block). IsTail read d.next rest) is tail

pub first_whole : (read : Reading) (at : ℕ) (b : Block) (all : List Block) → read at ≡ Some b → AreLinked read at all → b.kind ≡ Whole → b.bytes ≡ row_bytes all
first_whole read at b [] here linked kind = absurd linked
first_whole read at b (c ∷ []) here linked kind = bytes_of b c (same read at b c here linked.0)
first_whole read at b (c ∷ d ∷ ds) here linked kind = let k : ◌≡◌ {A = FrameKind} Whole Start = kind_of b c Whole Start (same read at b c here linked.0) kind linked.1 in absurd cc

pub first_start : (read : Reading) (at : ℕ) (b : Block) (all : List Block) → read at ≡ Some b → AreLinked read at all → b.kind ≡ Start → (rest : List Block) × Remains read all b.bytes b.next rest
first_start read at b [] here linked kind = absurd linked
first_start read at b (c ∷ []) here linked kind = let k : ◌≡◌ {A = FrameKind} Start Whole = kind_of b c Start Whole (same read at b c here linked.0) kind linked.1 in absurd cc
first_start read at b (c ∷ d ∷ ds) here linked kind =
    let is = same read at b c here linked.0 in
    (d ∷ ds, record { linked = next_of read b c (d ∷ ds) is linked.2; is = ap (λ (e : Block). e.bytes ++ row_bytes (d ∷ ds)) (sym is) })

pub next_end : (read : Reading) (at : ℕ) (b : Block) (all rest : List Block) (before : List ℕ) → read at ≡ Some b → Remains read all before (Some at) rest → b.kind ≡ End → before ++ b.bytes ≡ row_bytes all
next_end read at b all [] before here r kind = absurd r.linked
next_end read at b all (c ∷ []) before here r kind = ap (λ ys. before ++ ys) (bytes_of b c (same read at b c here r.linked.0)) ∙ r.is
next_end read at b all (c ∷ d ∷ ds) before here r kind = let k : ◌≡◌ {A = FrameKind} End Middle = kind_of b c End Middle (same read at b c here r.linked.0) kind r.linked.1 in absurd cc

pub next_middle : (read : Reading) (at : ℕ) (b : Block) (all rest : List Block) (before : List ℕ) → read at ≡ Some b → Remains read all before (Some at) rest → b.kind ≡ Middle → (more : List Block) × Remains read all (before ++ b.bytes) b.next more
next_middle read at b all [] before here r kind = absurd r.linked
next_middle read at b all (c ∷ []) before here r kind = let k : ◌≡◌ {A = FrameKind} Middle End = kind_of b c Middle End (same read at b c here r.linked.0) kind r.linked.1 in absurd cc
next_middle read at b all (c ∷ d ∷ ds) before here r kind =
    let is = same read at b c here r.linked.0 in (
      d ∷ ds,
      record {
        linked = next_of read b c (d ∷ ds) is r.linked.2;
        is = append_assoc before b.bytes (row_bytes (d ∷ ds)) ∙ ap (λ (e : Block). before ++ (e.bytes ++ row_bytes (d ∷ ds))) (sym is) ∙ r.is;
      },
    )
