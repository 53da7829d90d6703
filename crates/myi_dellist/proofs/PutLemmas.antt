-- Writing the blocks of a row: each in parts, and one after the other.
use Rattle.std.proofs.Common.{◌≡◌, ℕ, ◌+◌, ◌-◌, ◌^◌, ◌<◌, ◌≤◌, Bool, true, false, List, [], ◌∷◌, ◌++◌, length, take, drop, replicate, unwrap_or, Option, refl, sym, ap, subst, ◌∙◌, arith, append_assoc, length-append}
use Rattle.std.specs.Prelude.{nat_le, ◌&&◌, if◌then◌else◌}
use Rattle.std.proofs.Math.Seq.{drop-append-add, take-append_seam}
use Rattle.std.proofs.lemmas.List.{drop-drop, append-nil, length-take, length-replicate}
use Rattle.myi_base.specs.Holding.{Holding, bytes_of, resized, overwritten, OthersStay, Told, Writes}
use Rattle.myi_base.proofs.CallerLemmas.{told_same, told_more, told_then}
use Rattle.myi_frames.specs.declared.write.FrameSpec.{FrameSpec}
use Rattle.myi_frames.specs.Writing.{IsWritable, header_bytes, block_bytes}
use Rattle.myi_dellist.specs.declared.pieces.Piece.{Piece}
use Rattle.myi_dellist.specs.Placing.{specs_behind, specs_of, taken_by, AreWritable}
use Rattle.myi_dellist.specs.Freeing.{Becomes}
use Rattle.myi_dellist.specs.Rows.{block_spec, blocks_written, row_written, AreBelow}

-- ---- two writes, the second of which goes on where the first ends, are one

length_resized : (n : ℕ) (x : List ℕ) → length (resized n x) ≡ n
length_resized n x = omega (arith, length-append (take n x) (replicate (n - length x) 0), length-take n x, length-replicate {A = ℕ} (n - length x) 0)

drop_past : (front back : List ℕ) (n k : ℕ) → length front ≡ n → drop (n + k) (front ++ back) ≡ drop k back
drop_past front back n k e = ap (λ j. drop (j + k) (front ++ back)) (sym e) ∙ drop-append-add front back k

resized_front : (n : ℕ) (front back : List ℕ) → length front ≡ n → resized n (front ++ back) ≡ front
resized_front n front back e =
    let none : n - length (front ++ back) ≡ 0 = omega (arith, length-append front back, e) in
    let first : take n (front ++ back) ≡ front = ap (λ j. take j (front ++ back)) (sym e) ∙ take-append_seam front back in
    ap (λ j. take n (front ++ back) ++ replicate j 0) none ∙ append-nil (take n (front ++ back)) ∙ first

overwritten_append : (at : ℕ) (p b x : List ℕ) → overwritten (at + length p) b (overwritten at p x) ≡ overwritten at (p ++ b) x
overwritten_append at p b x =
    let front = resized at x ++ p in
    let back = drop (at + length p) x in
    let long : length front ≡ at + length p = omega (arith, length-append (resized at x) p, length_resized at x) in
    let first : resized (at + length p) (front ++ back) ≡ front = resized_front (at + length p) front back long in
    let last : drop (at + length p + length b) (front ++ back) ≡ drop (at + length (p ++ b)) x =
    drop_past front back (at + length p) (length b) long ∙ drop-drop (length b) (at + length p) x ∙ ap (λ j. drop j x) (omega (arith, length-append p b)) in
    ap (λ ys. ys ++ b ++ drop (at + length p + length b) (front ++ back)) first ∙ ap (λ ys. front ++ b ++ ys) last
    ∙ ap (λ ys. ys ++ drop (at + length (p ++ b)) x) (append_assoc (resized at x) p b)

-- the bytes of a name are those with these written from a place on
abbrev pub Gets : List ℕ → ℕ → List ℕ → Holding → Holding → Type 0
Gets name at b m n = Becomes name (overwritten at b (bytes_of name m)) m n

gets_first : (name : List ℕ) (at : ℕ) (b : List ℕ) (m n : Holding) → Writes name at b m n → Gets name at b m n
gets_first name at b m n w = record { here = ap (λ (o : Option (List ℕ)). unwrap_or o []) w.here; others = w.others }

gets_more : (name : List ℕ) (at start : ℕ) (p b : List ℕ) (m k n : Holding) → start ≡ at + length p → Gets name at p m k → Writes name start b k n → Gets name at (p ++ b) m n
gets_more name at start p b m k n e g w = record {
  here = ap (λ (o : Option (List ℕ)). unwrap_or o []) w.here ∙ ap (λ (x : List ℕ). overwritten start b x) g.here ∙ ap (λ (j : ℕ). overwritten j b (overwritten at p (bytes_of name m))) e ∙ overwritten_append at p b (bytes_of name m);
  others = λ q other. w.others q other ∙ g.others q other;
}

-- ---- a block in parts: its header, its row bytes, and what is unused

pub record IsParted (f : FrameSpec) (b : List ℕ) (size : ℕ) (header zeros : List ℕ) (at start end : ℕ) : Type 0 where
  pub is : header ≡ header_bytes f (length b) size
  pub begins : start ≡ at + length header
  pub follows : end ≡ start + length b
  pub unused : zeros ≡ replicate (size - (length header + length b)) 0

module _ (f : FrameSpec) (b : List ℕ) (size : ℕ) (header zeros : List ℕ) (at start end : ℕ) (p : IsParted f b size header zeros at start end) (old : Option Holding) (name : List ℕ) where
  parted : (header ++ b) ++ zeros ≡ block_bytes f b size
  unfolding block_bytes
  parted =
      append_assoc header b zeros ∙ ap (λ (z : List ℕ). header ++ (b ++ z)) p.unused
      ∙ ap (λ (h : List ℕ). h ++ (b ++ replicate (size - (length h + length b)) 0)) p.is

  two_parts : (mid next : Option Holding) → Told old mid (Writes name at header) → Told mid next (Writes name start b) → Told old next (Gets name at (header ++ b))
  two_parts mid next t u =
      told_then old mid next (Writes name at header) (Writes name start b) (Gets name at (header ++ b)) t u
      (λ m k n w v. gets_more name at start header b m k n p.begins (gets_first name at header m k w) v)

  pub parts_whole : (mid next new : Option Holding) → Told old mid (Writes name at header) → Told mid next (Writes name start b) → Told next new (Writes name end zeros) → Told old new (Gets name at (block_bytes f b size))
  parts_whole mid next new t u v =
      told_then old next new (Gets name at (header ++ b)) (Writes name end zeros) (Gets name at (block_bytes f b size)) (two_parts mid next t u) v
      (λ m k n g w. subst (λ (x : List ℕ). Gets name at x m n) parted (gets_more name at end (header ++ b) zeros m k n (omega (arith, p.follows, p.begins, length-append header b)) g w))

  -- where the row bytes fill the block nothing is left to write
  pub parts_filled : (mid next : Option Holding) → zeros ≡ [] → Told old mid (Writes name at header) → Told mid next (Writes name start b) → Told old next (Gets name at (block_bytes f b size))
  parts_filled mid next none t u =
      subst (λ (x : List ℕ). Told old next (Gets name at x)) (sym (append-nil (header ++ b)) ∙ ap (λ (z : List ℕ). (header ++ b) ++ z) (sym none) ∙ parted) (two_parts mid next t u)

-- ---- one block after the other

-- what the blocks say, where the first one is still to come or not
abbrev pub specs_from : ℕ → Bool → List Piece → List FrameSpec
specs_from len true ps = specs_of len ps
specs_from len false ps = specs_behind ps

pub specs_next : (len : ℕ) (first : Bool) (p : Piece) (ps : List Piece) → specs_from len first (p ∷ ps) ≡ block_spec len first ps ∷ specs_from len false ps
specs_next len true p [] = refl
specs_next len true p (q ∷ ps) = refl
specs_next len false p [] = refl
specs_next len false p (q ∷ ps) = refl

-- so few bytes of a block are unused
pub few_unused : (len : ℕ) (first : Bool) (ps : List Piece) (n size : ℕ) → IsWritable (block_spec len first ps) n size → size ≤ n + 260
few_unused len true [] n size w = by (nat_le n 65535) w.kind.0.few
  where
    by : (b : Bool) → size ≤ (if b then 3 else 4) + n + 256 → size ≤ n + 260
    by true few = omega (arith, few)
    by false few = omega (arith, few)
few_unused len true (q ∷ ps) n size w = by (nat_le (2 ^ 24) len) (nat_le len 65535) (nat_le n 65535) w.kind.0
  where
    by : (b c d : Bool) → (if b then 16 else (if c && d then 13 else 15)) + n ≡ size → size ≤ n + 260
    by true c d e = omega (arith, e)
    by false true true e = omega (arith, e)
    by false true false e = omega (arith, e)
    by false false d e = omega (arith, e)
few_unused len false [] n size w = by (nat_le n 65535) w.kind.0.few
  where
    by : (b : Bool) → size ≤ (if b then 3 else 4) + n + 256 → size ≤ n + 260
    by true few = omega (arith, few)
    by false few = omega (arith, few)
few_unused len false (q ∷ ps) n size w = by (nat_le n 65535) w.kind.0
  where
    by : (b : Bool) → (if b then 11 else 12) + n ≡ size → size ≤ n + 260
    by true e = omega (arith, e)
    by false e = omega (arith, e)

-- what is written so far and what is left to write is the whole
pub record GoesOn (name : List ℕ) (ps : List Piece) (row : List ℕ) (fs : List FrameSpec) (qs : List Piece) (left : List ℕ) (m n : Holding) : Type 0 where
  pub rest : blocks_written fs qs left (bytes_of name n) ≡ row_written ps row (bytes_of name m)
  pub others : OthersStay name m n

pub goes_first : (old : Option Holding) (name : List ℕ) (ps : List Piece) (row : List ℕ) → Told old old (GoesOn name ps row (specs_of (length row) ps) ps row)
goes_first old name ps row = told_same old old (GoesOn name ps row (specs_of (length row) ps) ps row) refl (λ m held. record { rest = refl; others = λ q other. refl })

-- a block that is written, and what is left then
pub record IsNext (len : ℕ) (first : Bool) (qs : List Piece) (left : List ℕ) (p : Piece) (behind : List Piece) (bytes more : List ℕ) : Type 0 where
  pub blocks : qs ≡ p ∷ behind
  pub bytes_are : bytes ≡ take p.taken left
  pub more_are : more ≡ drop p.taken left

pub goes_next : (old mid new : Option Holding) (name : List ℕ) (ps : List Piece) (row : List ℕ) (len : ℕ) (first : Bool) (qs : List Piece) (left : List ℕ) (p : Piece) (behind : List Piece) (bytes more : List ℕ) → IsNext len first qs left p behind bytes more
    → Told old mid (GoesOn name ps row (specs_from len first qs) qs left)
    → Told mid new (Gets name p.at (block_bytes (block_spec len first behind) bytes p.size))
    → Told old new (GoesOn name ps row (specs_from len false behind) behind more)
goes_next old mid new name ps row len first qs left p behind bytes more i t u =
    told_then old mid new (GoesOn name ps row (specs_from len first qs) qs left) (Gets name p.at (block_bytes (block_spec len first behind) bytes p.size)) (GoesOn name ps row (specs_from len false behind) behind more) t u
    (λ m k n g w. record {
      rest = ap (λ (x : List ℕ). blocks_written (specs_from len false behind) behind more x) w.here
          ∙ ap (λ (b : List ℕ). blocks_written (specs_from len false behind) behind more (overwritten p.at (block_bytes (block_spec len first behind) b p.size) (bytes_of name k))) i.bytes_are
          ∙ ap (λ (b : List ℕ). blocks_written (specs_from len false behind) behind b (overwritten p.at (block_bytes (block_spec len first behind) (take p.taken left) p.size) (bytes_of name k))) i.more_are
          ∙ ap (λ (fs : List FrameSpec). blocks_written fs (p ∷ behind) left (bytes_of name k)) (sym (specs_next len first p behind))
          ∙ ap (λ (xs : List Piece). blocks_written (specs_from len first xs) xs left (bytes_of name k)) (sym i.blocks)
          ∙ g.rest;
      others = λ q other. w.others q other ∙ g.others q other;
    })

-- nothing is left
pub goes_whole : (old new : Option Holding) (name : List ℕ) (ps : List Piece) (row : List ℕ) (len : ℕ) (first : Bool) (qs : List Piece) (left : List ℕ) → qs ≡ [] → Told old new (GoesOn name ps row (specs_from len first qs) qs left) → Told old new (λ m n. Becomes name (row_written ps row (bytes_of name m)) m n)
goes_whole old new name ps row len first qs left none t =
    told_more old new (GoesOn name ps row (specs_from len first qs) qs left) (λ m n. Becomes name (row_written ps row (bytes_of name m)) m n) t
    (λ m n held g. record { here = nothing first (bytes_of name n) ∙ ap (λ (xs : List Piece). blocks_written (specs_from len first xs) xs left (bytes_of name n)) (sym none) ∙ g.rest; others = g.others })
  where
    nothing : (first : Bool) (x : List ℕ) → x ≡ blocks_written (specs_from len first []) [] left x
    nothing true x = refl
    nothing false x = refl

-- what is left can be written
pub writable_next : (len : ℕ) (first : Bool) (qs : List Piece) (p : Piece) (behind : List Piece) → qs ≡ p ∷ behind → AreWritable (specs_from len first qs) qs → IsWritable (block_spec len first behind) p.taken p.size × AreWritable (specs_from len false behind) behind
writable_next len first qs p behind is w =
    subst (λ (fs : List FrameSpec). AreWritable fs (p ∷ behind)) (specs_next len first p behind) (subst (λ (xs : List Piece). AreWritable (specs_from len first xs) xs) is w)

pub taken_next : (qs : List Piece) (p : Piece) (behind : List Piece) → qs ≡ p ∷ behind → taken_by qs ≡ p.taken + taken_by behind
taken_next qs p behind is = ap taken_by is

pub below_next : (qs : List Piece) (p : Piece) (behind : List Piece) → qs ≡ p ∷ behind → AreBelow (2 ^ 64) qs → (p.at + p.size < 2 ^ 64) × AreBelow (2 ^ 64) behind
below_next qs p behind is b = subst (λ (xs : List Piece). AreBelow (2 ^ 64) xs) is b
