-- The bytes that a row adds behind a file's end.
use Rattle.std.proofs.Common.{◌≡◌, ℕ, zero, suc, ◌+◌, ◌-◌, ◌^◌, ◌<◌, ◌≤◌, inl, inr, Bool, true, false, List, [], ◌∷◌, ◌++◌, length, take, drop, Option, Some, None, Ok, Err, refl, sym, ap, subst, ◌∙◌, arith, append_assoc, length-drop}
use Rattle.std.specs.Prelude.{nat_lt}
use Rattle.std.proofs.lemmas.List.{take_all, drop_all, append-nil, length-append}
use Rattle.myi_base.specs.Holding.{Holding, IfTold, Told, bytes_of, overwritten}
use Rattle.myi_base.proofs.CallerLemmas.{told_more}
use Rattle.myi_frames.specs.declared.write.FrameSpec.{FrameSpec}
use Rattle.myi_frames.specs.Writing.{block_bytes}
use Rattle.myi_dellist.specs.declared.pieces.Piece.{Piece}
use Rattle.myi_dellist.specs.declared.taking.Taken.{Taken}
use Rattle.myi_dellist.specs.declared.taking.ListEnds.{ListEnds}
use Rattle.myi_dellist.specs.Areas.{Area}
use Rattle.myi_dellist.specs.Releasing.{most_size}
use Rattle.myi_dellist.specs.Placing.{taken_by, room, append_one, append_from, end_behind, is_none, specs_of, AreWritable}
use Rattle.myi_dellist.specs.Standing.{first_or}
use Rattle.myi_dellist.specs.Freeing.{Becomes, hole_in, block_named}
use Rattle.myi_dellist.specs.FreeList.{ListState, IsLong}
use Rattle.myi_dellist.specs.Taking.{TakesFull}
use Rattle.myi_dellist.specs.Rows.{blocks_written, row_written, end_with}
use Rattle.myi_dellist.specs.Putting.{Puts, PutsIn, EndsBehind, EndsIn, ends_of}
use Rattle.myi_dellist.specs.Appending.{bytes_in, end_pieces, end_bytes, Appends, AppendsNew}
use Rattle.myi_dellist.proofs.StandLemmas.{block_long, left_long}
use Rattle.myi_dellist.proofs.AtEndLemmas.{IsReady, ready_end}

-- ---- blocks one after the other

-- each begins where the one before it ends, the first at a place
abbrev AreBehind : ℕ → List Piece → Type 0
AreBehind at [] = Unit {0}
AreBehind at (p ∷ ps) = (p.at ≡ at) × AreBehind (p.at + p.size) ps

appended_behind : (fuel len : ℕ) (first : Bool) (left at : ℕ) → AreBehind at (append_from fuel len first left at)
appended_behind zero len first left at = tt
appended_behind (suc fuel) len first left at = by_test (nat_lt left (2 ^ 24)) (appended_behind fuel len false (left - room len first most_size) (at + most_size))
  where
    by_test : (b : Bool) → AreBehind (at + most_size) (append_from fuel len false (left - room len first most_size) (at + most_size)) → AreBehind at (append_one len first left at b (λ more. append_from fuel len false more (at + most_size)))
    by_test true more = (refl, tt)
    by_test false more = (refl, more)

-- bytes that are written at a file's end
written_behind : (d x : List ℕ) (at : ℕ) → at ≡ length d → overwritten at x d ≡ d ++ x
written_behind d x at e =
    let none : at - length d ≡ 0 = omega (arith, e) in
    rw (none, take_all at d (omega (arith, e)), drop_all (at + length x) d (omega (arith, e))) (append-nil _ ∙ ap (λ (xs : List ℕ). xs ++ x) (append-nil d))

-- what is written is added
blocks_added : (fs : List FrameSpec) (ps : List Piece) (row d : List ℕ) (at : ℕ) → AreWritable fs ps → taken_by ps ≤ length row → AreBehind at ps → at ≡ length d → blocks_written fs ps row d ≡ d ++ bytes_in fs ps row
blocks_added [] ps row d at w le behind long = sym (append-nil d)
blocks_added (f ∷ fs) [] row d at w le behind long = sym (append-nil d)
blocks_added (f ∷ fs) (p ∷ ps) row d at w le behind long =
    let l = left_long p ps row le in
    let x = block_bytes f (take p.taken row) p.size in
    let here : overwritten p.at x d ≡ d ++ x = written_behind d x p.at (behind.0 ∙ long) in
    let grown : p.at + p.size ≡ length (d ++ x) = omega (arith, behind.0, long, length-append d x, block_long p.taken p.size f row l.0 w.0) in
    ap (λ (y : List ℕ). blocks_written fs ps (drop p.taken row) y) here
    ∙ blocks_added fs ps (drop p.taken row) (d ++ x) (p.at + p.size) w.1 l.1 behind.1 grown
    ∙ append_assoc d x (bytes_in fs ps (drop p.taken row))

row_added : (row d : List ℕ) (end : ℕ) → 0 < length row → length row < 2 ^ 32 → end_behind end (end_pieces (length row) end) < 2 ^ 64 → length d ≡ end → row_written (end_pieces (length row) end) row d ≡ d ++ end_bytes end row
unfolding end_bytes
row_added row d end some few lt long =
    let ps = end_pieces (length row) end in
    let r = ready_end (length row) end ps refl some few lt in
    blocks_added (specs_of (length row) ps) ps row d end r.writable (omega (arith, r.counts)) (appended_behind (length row) (length row) true (length row) end) (sym long)

-- ---- a row at the end

abbrev WritesBehind : List ℕ → ℕ → List ℕ → Holding → Holding → Type 0
WritesBehind name end row m n = Becomes name (row_written (end_pieces (length row) end) row (bytes_of name m)) m n

pub end_appends : (old new : Option Holding) (l k : ListState) (name : List ℕ) (end : ℕ) (row : List ℕ) → name ≡ l.name → end ≡ l.end → k ≡ record l { end = end_with l (length row) } → 0 < length row → length row < 2 ^ 32 → end_with l (length row) < 2 ^ 64 → IfTold old (IsLong l) → Told old new (WritesBehind name end row) → Told old new (Appends l k row)
end_appends old new l k name end row nm e is some few lt long t =
    told_more old new (WritesBehind l.name l.end row) (Appends l k row)
    (subst (λ (q : ℕ). Told old new (WritesBehind l.name q row)) e (subst (λ (x : List ℕ). Told old new (WritesBehind x end row)) nm t))
    (λ m n held b. (b.here ∙ row_added row (bytes_of l.name m) l.end some few lt (long m held), ap (λ (x : ListState). x.head) is))

-- ---- a row where nothing is deleted

-- no block is taken of a list that has none
taken_none : (d : List ℕ) (head : Option ℕ) (len : ℕ) (ps : List Piece) (t : Taken) → head ≡ None → TakesFull [] d head len ps t → (ps ≡ []) × (t.left ≡ len) × (t.next ≡ None)
unfolding block_named
taken_none d head len ps t none takes = by_areas takes.areas refl
  where
    by_areas : (areas : List Area) → takes.areas ≡ areas → (ps ≡ []) × (t.left ≡ len) × (t.next ≡ None)
    by_areas [] e =
        let link : takes.link ≡ None = sym (ap (λ (xs : List Area). first_or xs takes.link) e) ∙ takes.fills.first ∙ none in
        let named : Ok None ≡ Ok t.next = sym (ap (λ (o : Option ℕ). block_named (hole_in d) t.last o) link) ∙ takes.names in (
          sym takes.fills.pieces ∙ ap (λ (xs : List Area). (Rattle.myi_dellist.specs.Placing.take_from len true len xs).pieces) e,
          sym takes.fills.left_is ∙ ap (λ (xs : List Area). (Rattle.myi_dellist.specs.Placing.take_from len true len xs).left) e,
          cc,
        )
    by_areas (a ∷ areas) e =
        let some : Some a.at ≡ None = sym (ap (λ (xs : List Area). first_or xs takes.link) e) ∙ takes.fills.first ∙ none in
        absurd cc

-- what is written then
pub record IsBehind (l : ListState) (row : List ℕ) (new : ListEnds) (d e : List ℕ) : Type 0 where
  pub bytes : e ≡ row_written (end_pieces (length row) l.end) row d
  pub head : new.head ≡ None
  pub end : new.end ≡ end_with l (length row)

puts_behind : (l : ListState) (row : List ℕ) (new : ListEnds) (m n : Holding) → l.head ≡ None → PutsIn [] l.name (ends_of l) row new m n → IsBehind l row new (bytes_of l.name m) (bytes_of l.name n)
puts_behind l row new m n none p =
    let t = taken_none (bytes_of l.name m) l.head (length row) p.ps p.t none p.takes in
    elim p.ends [
      | inl b ↦
          let same : p.ps ++ append_from p.t.left (length row) (is_none p.ps) p.t.left l.end ≡ end_pieces (length row) l.end =
          ap (λ (xs : List Piece). xs ++ append_from p.t.left (length row) (is_none xs) p.t.left l.end) t.0 ∙ ap (λ (k : ℕ). append_from k (length row) true k l.end) t.1 in
          let last : append_from p.t.left (length row) (is_none p.ps) p.t.left l.end ≡ end_pieces (length row) l.end =
          ap (λ (xs : List Piece). append_from p.t.left (length row) (is_none xs) p.t.left l.end) t.0 ∙ ap (λ (k : ℕ). append_from k (length row) true k l.end) t.1 in
          record {
            bytes = b.bytes ∙ ap (λ (xs : List Piece). row_written xs row (bytes_of l.name m)) same;
            head = b.head_is;
            end = b.end_is ∙ ap (λ (xs : List Piece). end_behind l.end xs) last;
          }
      | inr b ↦ absurd (let some = sym b.next_is ∙ t.2 in cc)
    ]

pub put_appends : (old new : Option Holding) (l k : ListState) (row : List ℕ) (ends : ListEnds) → k ≡ record l { head = ends.head; end = ends.end } → 0 < length row → length row < 2 ^ 32 → ends.end < 2 ^ 64 → IfTold old (IsLong l) → Told old new (Puts l.name (ends_of l) row ends) → Told old new (AppendsNew l k row)
put_appends old new l k row ends is some few lt long t =
    told_more old new (Puts l.name (ends_of l) row ends) (AppendsNew l k row) t (λ m n held p none.
    let b = puts_behind l row ends m n none (p.1 (long m held)) in
    (b.bytes ∙ row_added row (bytes_of l.name m) l.end some few (subst (λ (q : ℕ). q < 2 ^ 64) b.end lt) (long m held), ap (λ (x : ListState). x.head) is ∙ b.head ∙ sym none))
