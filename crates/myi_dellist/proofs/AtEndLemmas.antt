-- A row that is put at the file's end.
use Rattle.std.proofs.Common.{◌≡◌, ℕ, ◌+◌, ◌%◌, ◌^◌, ◌<◌, ◌≤◌, ◌⊎◌, inl, inr, true, List, [], ◌++◌, length, Option, sym, ap, subst, ◌∙◌, arith, Bool, ◌∷◌, false, Some, ◌-◌, refl}
use Rattle.std.specs.List.{AllByRecursion}
use Rattle.std.proofs.lemmas.Bool.{cases_lt}
use Rattle.myi_base.specs.Holding.{Holding, bytes_of, Told, IfTold}
use Rattle.myi_base.proofs.CallerLemmas.{told_more}
use Rattle.myi_dellist.specs.declared.pieces.Piece.{Piece}
use Rattle.myi_dellist.specs.Areas.{Area, bytes_below, IsApart, AreApart, AreInside, HaveBytes}
use Rattle.myi_dellist.specs.Releasing.{IsHole}
use Rattle.myi_dellist.specs.Placing.{areas_of, taken_by, append_from, end_behind, is_none, fits, place_at_end, specs_of, AreWritable}
use Rattle.myi_dellist.specs.Freeing.{Becomes}
use Rattle.myi_dellist.specs.FreeList.{ListState, HasHoles, IsLong}
use Rattle.myi_frames.specs.declared.head.Head.{Head}
use Rattle.myi_dellist.specs.declared.taking.Taken.{Taken}
use Rattle.myi_dellist.specs.Freeing.{IsHoleIn}
use Rattle.myi_dellist.specs.Planning.{last_piece}
use Rattle.myi_dellist.specs.Taking.{Run, IsRun}
use Rattle.myi_dellist.specs.Rows.{row_written, AreBelow, PutsRow, PutsAtEnd, end_with}
use Rattle.myi_dellist.proofs.AreaLemmas.{no_more, below-append, once-apart}
use Rattle.myi_dellist.proofs.PlaceLemmas.{append_ends}
use Rattle.myi_dellist.proofs.LinkLemmas.{all_split, all_join}
use Rattle.myi_dellist.proofs.FillLemmas.{Fill, first_is, run_fill, append_fills, fill-writable}
use Rattle.myi_dellist.proofs.FirstLemmas.{fill_bytes, hole_bytes}
use Rattle.myi_dellist.proofs.TakeLemmas.{some_is, inside_more}
use Rattle.myi_dellist.proofs.PlanningLemmas.{last_cut}
use Rattle.myi_dellist.proofs.EndLemmas.{append_place}
use Rattle.myi_dellist.proofs.StandLemmas.{stand, rest_keeps, no_shorter, no_longer, reaches_behind, list_stays, cross_of, apart-once, append_aligned, append_inside, below_inside, below_reached}

abbrev pub end_pieces : ℕ → ℕ → List Piece
end_pieces len at = append_from len len true len at

pub planned_end : (items olds ps : List Piece) (len at : ℕ) → olds ≡ [] → items ≡ olds ++ append_from len len (is_none olds) len at → ps ≡ items → ps ≡ end_pieces len at
planned_end items olds ps len at none is same = same ∙ is ∙ ap (λ (xs : List Piece). xs ++ append_from len len (is_none xs) len at) none

pub planned_last : (olds : List Piece) (len at end : ℕ) → olds ≡ [] → end ≡ end_behind at (append_from len len (is_none olds) len at) → end ≡ end_behind at (end_pieces len at)
planned_last olds len at end none is = is ∙ ap (λ (xs : List Piece). end_behind at (append_from len len (is_none xs) len at)) none

-- its blocks can be written
pub record IsReady (len : ℕ) (ps : List Piece) : Type 0 where
  pub writable : AreWritable (specs_of len ps) ps
  pub counts : taken_by ps ≡ len
  pub below : AreBelow (2 ^ 64) ps

end_ready : (len at : ℕ) → 0 < len → len < 2 ^ 32 → end_behind at (end_pieces len at) < 2 ^ 64 → IsReady len (end_pieces len at)
end_ready len at some few lt =
    let ps = end_pieces len at in
    let fill = append_fills len len true len at (omega arith) some in
    let below = below_inside (end_behind at ps) ps lt (append_inside len len true len at (omega arith) some) in
    record {
      writable = fill-writable len ps few fill (below_reached ps (fill_bytes len true len ps fill) below);
      counts = (append_ends len len true len at (omega arith) (inr some)).counts;
      below = below;
    }

pub ready_end : (len at : ℕ) (ps : List Piece) → ps ≡ end_pieces len at → 0 < len → len < 2 ^ 32 → end_behind at (end_pieces len at) < 2 ^ 64 → IsReady len ps
ready_end len at ps is some few lt = subst (λ (xs : List Piece). IsReady len xs) (sym is) (end_ready len at some few lt)

-- ---- what stands then

all_bytes : (xs ys : List Area) → HaveBytes xs → HaveBytes ys → HaveBytes (xs ++ ys)
all_bytes xs ys a b = all_join (λ (a : Area). 0 < a.size) xs ys a b

-- no byte of a deleted block belongs to a block behind the end
end_apart : (len at : ℕ) (holes : List Area) → 0 < len → AreInside at holes → AllByRecursion IsHole holes → AreApart holes → AreApart (areas_of (end_pieces len at) ++ holes)
end_apart len at holes some inside sizes apart =
    let ps = end_pieces len at in
    let fill = append_fills len len true len at (omega arith) some in
    once-apart (areas_of ps ++ holes) (all_bytes (areas_of ps) holes (fill_bytes len true len ps fill) (hole_bytes holes sizes)) (λ p. by_side p (cases_lt p at))
  where
    by_side : (p : ℕ) → (p < at) ⊎ (at ≤ p) → bytes_below (p + 1) (areas_of (end_pieces len at) ++ holes) ≤ bytes_below p (areas_of (end_pieces len at) ++ holes) + 1
    by_side p (inl lt) =
        let ps = end_pieces len at in
        let e = append_ends len len true len at (omega arith) (inr some) in
        omega (arith, lt, e.bytes p, e.bytes (p + 1), below-append p (areas_of ps) holes, below-append (p + 1) (areas_of ps) holes, apart-once holes apart p)
    by_side p (inr le) =
        let ps = end_pieces len at in
        let e = append_ends len len true len at (omega arith) (inr some) in
        omega (arith, le, e.bytes p, e.bytes (p + 1), below-append p (areas_of ps) holes, below-append (p + 1) (areas_of ps) holes, no_more at p holes inside le, no_more at (p + 1) holes inside (omega (arith, le)))

holes_inside : (n at : ℕ) (holes : List Area) → n ≡ at → AreInside n holes → AreInside at holes
holes_inside n at holes e i = subst (λ (m : ℕ). AreInside m holes) e i

end_puts : (l k : ListState) (row d : List ℕ) (holes : List Area) → k ≡ record l { end = end_with l (length row) } → 0 < length row → length row < 2 ^ 32 → end_with l (length row) < 2 ^ 64 → length d ≡ l.end → l.end % 4 ≡ 0 → HasHoles l holes d → PutsRow k holes (place_at_end (record { holes = holes; end = l.end }) (length row)) row l.end d (row_written (end_pieces (length row) l.end) row d)
end_puts l k row d holes is some few lt long aligned has =
    let len = length row in
    let ps = end_pieces len l.end in
    let fs = specs_of len ps in
    let r = end_ready len l.end some few lt in
    let le : taken_by ps ≤ length row = omega (arith, r.counts) in
    let apart = end_apart len l.end holes some (holes_inside (length d) l.end holes long has.list.inside) has.list.sizes has.list.apart in
    let c = cross_of (areas_of ps) holes apart in
    let inside = append_inside len len true len l.end (omega arith) some in
    let ends = append_ends len len true len l.end (omega arith) (inr some) in
    record {
      place_is = append_place len len true len l.end some;
      holes_are = record { head = ap (λ (x : ListState). x.head) is ∙ has.head; list = list_stays fs ps row d holes r.writable le r.below c.1 has.list };
      end_is = ap (λ (x : ListState). x.end) is;
      long = omega (arith, no_longer fs ps row d (end_behind l.end ps) r.writable le (omega (arith, long, ends.grows)) inside, reaches_behind fs [] ps row d l.end r.writable le (omega (arith, long)));
      blocks = stand fs ps row d r.writable (append_aligned len len true len l.end aligned) c.0 le;
      keeps = record {
        longer = no_shorter fs ps row d r.writable le;
        bytes = λ p n within far. rest_keeps fs ps row d p n r.writable le within (all_split (IsApart (record { at = p; size = n })) (areas_of ps) (holes ++ holes) far).0;
      };
    }

-- what a call was handed, and what it planned, is what the list says
pub puts_end : (old new : Option Holding) (l k : ListState) (name : List ℕ) (end : ℕ) (row : List ℕ) → name ≡ l.name → end ≡ l.end → k ≡ record l { end = end_with l (length row) } → 0 < length row → length row < 2 ^ 32 → end_with l (length row) < 2 ^ 64 → IfTold old (IsLong l)
    → Told old new (λ m n. Becomes name (row_written (end_pieces (length row) end) row (bytes_of name m)) m n)
    → Told old new (PutsAtEnd l k row end)
puts_end old new l k name end row nm e is some few lt long t =
    let u : Told old new (λ m n. Becomes l.name (row_written (end_pieces (length row) l.end) row (bytes_of l.name m)) m n) =
    subst (λ (q : ℕ). Told old new (λ m n. Becomes l.name (row_written (end_pieces (length row) q) row (bytes_of l.name m)) m n)) e
    (subst (λ (x : List ℕ). Told old new (λ m n. Becomes x (row_written (end_pieces (length row) end) row (bytes_of x m)) m n)) nm t) in
    subst (λ (q : ℕ). Told old new (PutsAtEnd l k row q)) (sym e)
    (told_more old new (λ m n. Becomes l.name (row_written (end_pieces (length row) l.end) row (bytes_of l.name m)) m n) (PutsAtEnd l k row l.end) u
    (λ m n held b holes aligned has.
    subst (λ (x : List ℕ). PutsRow k holes (place_at_end (record { holes = holes; end = l.end }) (length row)) row l.end (bytes_of l.name m) x) (sym b.here)
    (end_puts l k row (bytes_of l.name m) holes is some few lt (long m held) aligned has)))

-- ---- blocks of the list, and what they leave behind the end

fill_counts : (len : ℕ) (first : Bool) (left : ℕ) (ps : List Piece) → Fill len first left ps → taken_by ps ≡ left
fill_counts len first left [] f = absurd f
fill_counts len first left (p ∷ []) f = omega (arith, f.taken)
fill_counts len first left (p ∷ q ∷ ps) f = omega (arith, f.0.less, fill_counts len false (left - p.taken) (q ∷ ps) f.1)

pub inside_join : (end : ℕ) (ps qs : List Piece) → AreInside end (areas_of ps) → AreInside end (areas_of qs) → AreInside end (areas_of (ps ++ qs))
inside_join end [] qs i j = j
inside_join end (p ∷ ps) qs i j = (i.0, inside_join end ps qs i.1 j)

pub inside_later : (end to : ℕ) (ps : List Piece) → end ≤ to → AreInside end (areas_of ps) → AreInside to (areas_of ps)
inside_later end to [] le i = tt
inside_later end to (p ∷ ps) le i = (omega (arith, i.0, le), inside_later end to ps le i.1)

pub fill_ready : (len end : ℕ) (ps : List Piece) → len < 2 ^ 32 → end < 2 ^ 64 → Fill len true len ps → AreInside end (areas_of ps) → IsReady len ps
fill_ready len end ps few lt fill inside =
    let below = below_inside end ps lt inside in
    record {
      writable = fill-writable len ps few fill (below_reached ps (fill_bytes len true len ps fill) below);
      counts = fill_counts len true len ps fill;
      below = below;
    }

abbrev pub behind_pieces : ℕ → List Piece → ℕ → ℕ → List Piece
behind_pieces len ps left end = append_from left len (is_none ps) left end

pub behind_fill : (len left end : ℕ) (ps : List Piece) → Run len true len ps left → 0 < left → Fill len true len (ps ++ behind_pieces len ps left end)
behind_fill len left end ps run some =
    let f = append_fills left len (is_none ps) left end (omega arith) some in
    run_fill len true len left ps (behind_pieces len ps left end) run (subst (λ (b : Bool). Fill len b left (behind_pieces len ps left end)) (sym (first_is ps)) f)

pub behind_inside : (len left end : ℕ) (ps : List Piece) → 0 < left → AreInside end (areas_of ps) → AreInside (end_behind end (behind_pieces len ps left end)) (areas_of (ps ++ behind_pieces len ps left end))
behind_inside len left end ps some inside =
    let qs = behind_pieces len ps left end in
    let grows = (append_ends left len (is_none ps) left end (omega arith) (inr some)).grows in
    inside_join (end_behind end qs) ps qs (inside_later end (end_behind end qs) ps grows inside) (append_inside left len (is_none ps) left end (omega arith) some)

pub behind_ready : (len left end : ℕ) (ps qs : List Piece) → qs ≡ ps ++ behind_pieces len ps left end → len < 2 ^ 32 → Run len true len ps left → 0 < left → AreInside end (areas_of ps) → end_behind end (behind_pieces len ps left end) < 2 ^ 64 → IsReady len qs
behind_ready len left end ps qs is few run some inside lt =
    subst (λ (xs : List Piece). IsReady len xs) (sym is) (fill_ready len (end_behind end (behind_pieces len ps left end)) (ps ++ behind_pieces len ps left end) few lt (behind_fill len left end ps run some) (behind_inside len left end ps some inside))

-- ---- blocks of the list that hold a row

pub in_fill : (len end : ℕ) (ps : List Piece) (t : Taken) (h : Head) → IsRun end len ps t → t.next ≡ Some h → fits t.left h.size ≡ true → Fill len true len (ps ++ last_piece t.left h ∷ [])
in_fill len end ps t h r next e =
    let i = some_is (IsHoleIn end) t.next h next r.next in
    let c = last_cut t.left end h i e in
    run_fill len true len t.left ps (last_piece t.left h ∷ []) r.run (record { multiple = c.multiple; taken = refl; few = c.few; least = c.fits_in; close = c.close })

pub in_inside : (len end : ℕ) (ps : List Piece) (t : Taken) (h : Head) → IsRun end len ps t → t.next ≡ Some h → fits t.left h.size ≡ true → AreInside end (areas_of (ps ++ last_piece t.left h ∷ []))
in_inside len end ps t h r next e =
    let i = some_is (IsHoleIn end) t.next h next r.next in
    let c = last_cut t.left end h i e in
    inside_more end ps (last_piece t.left h) r.inside (omega (arith, c.whole, i.place.inside))

pub in_ready : (len end : ℕ) (ps qs : List Piece) (t : Taken) (h : Head) → qs ≡ ps ++ last_piece t.left h ∷ [] → len < 2 ^ 32 → end < 2 ^ 64 → IsRun end len ps t → t.next ≡ Some h → fits t.left h.size ≡ true → IsReady len qs
in_ready len end ps qs t h is few lt r next e =
    subst (λ (xs : List Piece). IsReady len xs) (sym is) (fill_ready len end (ps ++ last_piece t.left h ∷ []) few lt (in_fill len end ps t h r next e) (in_inside len end ps t h r next e))
