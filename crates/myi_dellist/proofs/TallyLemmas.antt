-- How many blocks a row has that is put, how many it takes of the list, and how many are on the list then that were not.
use Rattle.std.proofs.Common.{◌≡◌, ℕ, ◌+◌, ◌-◌, ◌^◌, ◌<◌, ◌≤◌, ◌⊎◌, inl, inr, Bool, true, false, List, [], ◌∷◌, ◌++◌, length, Option, Some, None, refl, sym, ap, subst, ◌∙◌, arith}
use Rattle.std.specs.Prelude.{min, nat_le, ◌==◌}
use Rattle.std.proofs.lemmas.Bool.{leb-true}
use Rattle.std.proofs.lemmas.List.{length-append}
use Rattle.myi_base.specs.Holding.{Holding, bytes_of, IfTold}
use Rattle.myi_frames.specs.declared.head.Head.{Head}
use Rattle.myi_frames.specs.Sizes.{least_size}
use Rattle.myi_frames.proofs.CallerLemmas.{least-sized}
use Rattle.myi_dellist.specs.declared.linked.Linked.{Linked}
use Rattle.myi_dellist.specs.declared.pieces.Piece.{Piece}
use Rattle.myi_dellist.specs.declared.planning.RowPlan.{RowPlan}
use Rattle.myi_dellist.specs.declared.rows.Put.{Put}
use Rattle.myi_dellist.specs.declared.taking.Taken.{Taken}
use Rattle.myi_dellist.specs.Areas.{Area}
use Rattle.myi_dellist.specs.Releasing.{most_size, release}
use Rattle.myi_dellist.specs.Placing.{Placing, room, sizes_of, fits, take_last, take_one, take_from, place}
use Rattle.myi_dellist.specs.Freeing.{IsHoleIn}
use Rattle.myi_dellist.specs.FreeList.{ListState, HasHoles, IsLong}
use Rattle.myi_dellist.specs.Taking.{IsRun, TakesFull}
use Rattle.myi_dellist.specs.Rows.{AreListedBehind, TalliesNew}
use Rattle.myi_dellist.specs.Planning.{rest_plan, last_piece, row_plan_in, alone_by, more_by}
use Rattle.myi_dellist.specs.Putting.{CountsBehind, CountsIn, PutCounts, ends_of}
use Rattle.myi_dellist.proofs.FreeLemmas.{short_release}
use Rattle.myi_dellist.proofs.SeenLemmas.{first_of}
use Rattle.myi_dellist.proofs.PlanningLemmas.{not_same, row_filled}
use Rattle.myi_dellist.proofs.RestLemmas.{rest_counts}
use Rattle.myi_dellist.proofs.TakeLemmas.{some_is}
use Rattle.myi_dellist.proofs.PutRowLemmas.{IsBegun, none_begun, takes_all, IsBefore, IsList, list_of, ended, cut_off, same_row, spare-is}

-- each block of the list is one of the row's, where a byte of it is left
pub taken_all : (len : ℕ) (first : Bool) (left : ℕ) (areas : List Area) → 0 < (take_from len first left areas).left → length (take_from len first left areas).pieces ≡ length areas
taken_all len first left [] some = refl
taken_all len first left (a ∷ areas) some = by_fits (fits left a.size) some (taken_all len false (left - room len first a.size) areas)
  where
    by_last : (c : Bool) → 0 < (take_last c left a areas).left → length (take_last c left a areas).pieces ≡ length (a ∷ areas)
    by_last true none = absurd (omega (arith, none))
    by_last false none = absurd (omega (arith, none))

    by_fits : (b : Bool) → 0 < (take_one len first left a areas b (λ more. take_from len false more areas)).left → (0 < (take_from len false (left - room len first a.size) areas).left → length (take_from len false (left - room len first a.size) areas).pieces ≡ length areas) → length (take_one len first left a areas b (λ more. take_from len false more areas)).pieces ≡ length (a ∷ areas)
    by_fits true more ih = by_last (nat_le (least_size left + 20) a.size) more
    by_fits false more ih = omega (arith, ih more)

alone_few : (o : Option Linked) → alone_by o ≤ 1
alone_few None = omega arith
alone_few (Some l) = omega arith

-- the blocks that the code has are those of the row, which took so many that stood before, behind its own ones, and so many are on
-- the list that were not
pub record IsCounted (own holes : List Area) (p : Placing) (qs : List Piece) (taken more : ℕ) : Type 0 where
  pub pieces : p.pieces ≡ qs
  pub holes_are : length p.space.holes + taken ≡ length own + length holes + more
  pub few : more ≤ 1
  pub least : length own ≤ taken
  pub most : taken ≤ length own + length holes

behind_counted : (own : List Area) (l : ListState) (len : ℕ) (d : List ℕ) (holes : List Area) (ps : List Piece) (t : Taken) (qs : List Piece) (taken more : ℕ) → 0 < len → IsBegun len l.end own holes → HasHoles l holes d → IsRun l.end len ps t → TakesFull own d l.head len ps t → CountsBehind l.end len ps t qs taken more → IsCounted own holes (place (record { holes = holes; end = l.end }) own len) qs taken more
behind_counted own l len d holes ps t qs taken more some begun has r u c =
    let k = takes_all own l len d holes ps t some begun has u c.none in
    let whole : length ps ≡ length (own ++ holes) = ap (λ (xs : List Piece). length xs) (sym k.pieces) ∙ taken_all len true len (own ++ holes) (omega (arith, k.left_is, r.some)) in
    let both = length-append own holes in
    subst (λ (p : Placing). IsCounted own holes p qs taken more) (sym k.is) (record {
      pieces = sym c.pieces;
      holes_are = omega (arith, c.taken_is, c.more_is, whole, both);
      few = omega (arith, c.more_is);
      least = omega (arith, c.taken_is, whole, both);
      most = omega (arith, c.taken_is, whole, both);
    })

-- what the row takes and what it leaves, as numbers
record AreCounted (own holes left_over : List Area) (taken more : ℕ) : Type 0 where
  holes_are : length left_over + taken ≡ length own + length holes + more
  least : length own ≤ taken
  most : taken ≤ length own + length holes

counted : (own holes areas rest left_over : List Area) (a : Area) (ps qs : List Piece) (last : Piece) (taken more : ℕ) → holes ≡ (areas ++ a ∷ []) ++ rest → qs ≡ ps ++ last ∷ [] → length ps ≡ length (own ++ areas) → taken ≡ length qs → length left_over ≡ length rest + more → AreCounted own holes left_over taken more
counted own holes areas rest left_over a ps qs last taken more all pieces same is grown =
    let one = ap (λ (xs : List Area). length xs) all ∙ length-append (areas ++ a ∷ []) rest in
    let two = length-append areas (a ∷ []) in
    let three = ap (λ (xs : List Piece). length xs) pieces ∙ length-append ps (last ∷ []) in
    let four = length-append own areas in
    record {
      holes_are = omega (arith, one, two, three, four, same, is, grown);
      least = omega (arith, three, four, same, is);
      most = omega (arith, one, two, three, four, same, is);
    }

in_counted : (own : List Area) (l : ListState) (row d : List ℕ) (holes : List Area) (ps : List Piece) (t : Taken) (qs : List Piece) (taken more : ℕ) → IsBefore own l l row d holes (ends_of l) → IsRun l.end (length row) ps t → TakesFull own d l.head (length row) ps t → AreListedBehind holes holes d → CountsIn d l.head ps t qs taken more → IsCounted own holes (place (record { holes = holes; end = l.end }) own (length row)) qs taken more
in_counted own l row d holes ps t qs taken more w r u listed c =
    let x = list_of own l row d holes ps t c.hole w.has u c.next_is in
    by_test x.0 x.1 (nat_le (least_size t.left + 20) c.hole.size) refl
  where
    left : ℕ
    left = t.left

    h : Head
    h = c.hole

    a : Area
    a = record { at = h.at; size = h.size }

    s : Area
    s = record { at = h.at + least_size left; size = h.size - least_size left }

    whole : (rest : List Area) → IsList own l row d holes ps t h u.areas rest → length ps ≡ length (own ++ u.areas)
    whole rest x = ap (λ (xs : List Piece). length xs) (sym x.pieces) ∙ taken_all (length row) true (length row) (own ++ u.areas) (omega (arith, x.left_is, r.some))

    by_test : (rest : List Area) → IsList own l row d holes ps t h u.areas rest → (k : Bool) → nat_le (least_size left + 20) h.size ≡ k → IsCounted own holes (place (record { holes = holes; end = l.end }) own (length row)) qs taken more
    by_test rest x false tb =
        let n = ended own l l row d holes (ends_of l) ps t h u.areas rest false w refl r c.next_is c.fits_in x tb in
        let next = first_of (Some h.at) rest in
        let plan_is = same_row (row_plan_in d l.head ps left h) c.plan (record { next = next; rest = None }) c.found (row_filled d l.head ps left h next h.size (sym n.size) refl n.named) in
        let none : more ≡ 0 = c.more_is ∙ ap (λ (p : RowPlan). more_by p.rest) plan_is in
        let k = counted own holes u.areas rest rest a ps qs (last_piece left h) taken more x.all c.pieces (whole rest x) c.taken_is (omega (arith, none)) in
        subst (λ (p : Placing). IsCounted own holes p qs taken more) (sym n.is) (record { pieces = sym c.pieces; holes_are = k.holes_are; few = omega (arith, none); least = k.least; most = k.most })
    by_test rest x true tb =
        let n = ended own l l row d holes (ends_of l) ps t h u.areas rest true w refl r c.next_is c.fits_in x tb in
        let i = some_is (IsHoleIn l.end) t.next h c.next_is r.next in
        let next = first_of (Some h.at) rest in
        let le = leb-true _ _ tb in
        let less : (least_size left == h.size) ≡ false = not_same (least_size left) h.size (λ same. omega (arith, le, same)) in
        let cut = cut_off d l.head ps left h next c.plan n.size less n.named c.found in
        let spare = spare-is own l row d holes ps t h u.areas rest cut.joined w.has i r.some x c.fits_in tb n listed cut.found in
        let alone : more ≡ alone_by (rest_plan (ps ++ last_piece left h ∷ []) h.at next cut.joined).joined = c.more_is ∙ ap (λ (p : RowPlan). more_by p.rest) cut.plan_is in
        let counts = rest_counts d s (u.areas ++ a ∷ []) rest h.at (ps ++ last_piece left h ∷ []) cut.joined spare in
        let short : s.size ≤ most_size = omega (arith, i.most, i.place.multiple, (least-sized left).multiple) in
        let grown : length (release s rest) ≡ length rest + more = ap (λ (hs : List Area). length hs) (short_release s rest short) ∙ omega (arith, counts, alone) in
        let k = counted own holes u.areas rest (release s rest) a ps qs (last_piece left h) taken more x.all c.pieces (whole rest x) c.taken_is grown in
        subst (λ (p : Placing). IsCounted own holes p qs taken more) (sym n.is) (record {
          pieces = sym c.pieces;
          holes_are = k.holes_are;
          few = omega (arith, alone, alone_few (rest_plan (ps ++ last_piece left h ∷ []) h.at next cut.joined).joined);
          least = k.least;
          most = k.most;
        })

pub put-counted : (own : List Area) (l : ListState) (row d : List ℕ) (holes : List Area) (qs : List Piece) (taken more : ℕ) → IsBefore own l l row d holes (ends_of l) → AreListedBehind holes holes d → PutCounts own d (ends_of l) (length row) qs taken more → IsCounted own holes (place (record { holes = holes; end = l.end }) own (length row)) qs taken more
put-counted own l row d holes qs taken more w listed p = by_ends p.ends
  where
    by_ends : CountsBehind l.end (length row) p.ps p.t qs taken more ⊎ CountsIn d l.head p.ps p.t qs taken more → IsCounted own holes (place (record { holes = holes; end = l.end }) own (length row)) qs taken more
    by_ends (inl c) = behind_counted own l (length row) d holes p.ps p.t qs taken more w.some w.begun w.has p.run p.takes c
    by_ends (inr c) = in_counted own l row d holes p.ps p.t qs taken more w p.run p.takes listed c

-- in the words of a list
pub tallies-new : (old : Option Holding) (l : ListState) (row : List ℕ) (put : Put) (qs : List Piece) → 0 < length row → length row < 2 ^ 32 → put.blocks ≡ length qs → put.bytes ≡ min (sizes_of qs) (2 ^ 64 - 1) → IfTold old (IsLong l) → IfTold old (λ m. IsLong l m → PutCounts [] (bytes_of l.name m) (ends_of l) (length row) qs put.taken put.more) → IfTold old (TalliesNew l (length row) put)
tallies-new old l row put qs some few blocks bytes long counts m held holes aligned has listed =
    let d = bytes_of l.name m in
    let same : length d ≡ l.end = long m held in
    let short : length d < 2 ^ 64 = has.list.short in
    let w : IsBefore [] l l row d holes (ends_of l) = record { is = refl; some = some; few = few; long = same; aligned = aligned; short = omega (arith, same, short); has = has; begun = none_begun (length row) l.end holes some has.list.apart } in
    let k = put-counted [] l row d holes qs put.taken put.more w listed (counts m held (long m held)) in
    record {
      blocks = blocks ∙ ap (λ (xs : List Piece). length xs) (sym k.pieces);
      bytes = bytes ∙ ap (λ (xs : List Piece). min (sizes_of xs) (2 ^ 64 - 1)) (sym k.pieces);
      holes_are = omega (arith, k.holes_are);
      few = k.few;
    }
