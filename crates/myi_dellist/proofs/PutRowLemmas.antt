-- In a file that has a list, a row that is put stands where the definitions on lists say, and the list is what they say.
use Rattle.std.proofs.Common.{◌≡◌, ℕ, zero, suc, ◌+◌, ◌-◌, ◌%◌, ◌^◌, ◌<◌, ◌≤◌, ◌⊎◌, inl, inr, Bool, true, false, List, [], ◌∷◌, ◌++◌, length, take, drop, Option, Some, None, Result, Ok, Err, refl, sym, ap, subst, ◌∙◌, arith, append_assoc}
use Rattle.std.specs.Prelude.{◌==◌, nat_le, if◌then◌else◌}
use Rattle.std.specs.List.{AllByRecursion}
use Rattle.std.proofs.lemmas.Bool.{eqb-true, leb-true, cases_lt}
use Rattle.std.proofs.lemmas.List.{append-nil}
use Rattle.myi_base.specs.Holding.{Holding, bytes_of, Told, IfTold}
use Rattle.myi_base.proofs.CallerLemmas.{told_more}
use Rattle.myi_frames.specs.declared.head.Head.{Head}
use Rattle.myi_frames.specs.Block.{Block, block_of}
use Rattle.myi_frames.specs.Sizes.{least_size}
use Rattle.myi_dellist.specs.declared.linked.Linked.{Linked}
use Rattle.myi_dellist.specs.declared.pieces.Piece.{Piece}
use Rattle.myi_dellist.specs.declared.planning.RowPlan.{RowPlan}
use Rattle.myi_dellist.specs.declared.taking.ListEnds.{ListEnds}
use Rattle.myi_dellist.specs.declared.taking.Taken.{Taken}
use Rattle.myi_frames.specs.declared.write.FrameSpec.{FrameSpec}
use Rattle.myi_frames.specs.Writing.{written_block}
use Rattle.myi_frames.proofs.CallerLemmas.{least-sized}
use Rattle.myi_dellist.specs.RowBlocks.{blocks_as}
use Rattle.myi_dellist.specs.Areas.{Area, bytes_below, IsApart, AreApart, AreInside, HaveBytes}
use Rattle.myi_dellist.specs.Releasing.{most_size, hole_at, release, release_one, release_all, IsHole}
use Rattle.myi_dellist.specs.Placing.{Space, Placing, areas_of, taken_by, fits, Taking, take_last, take_one, take_from, take_more, append_from, end_behind, is_none, last_pieces, placed_by, IsUsable, place, place_of, next_place, specs_of}
use Rattle.myi_dellist.specs.Standing.{hole_block, first_or, IsPart, HasList, with_prev, KeepsBut, release_one_bytes}
use Rattle.myi_dellist.specs.Freeing.{hole_in, block_named, plan_bytes, IsHoleIn}
use Rattle.myi_dellist.specs.FreeList.{ListState, HasHoles, IsLong, next_by}
use Rattle.myi_dellist.specs.Merging.{merge_in}
use Rattle.myi_dellist.specs.Taking.{Run, IsRun, TakesFull}
use Rattle.myi_dellist.specs.Rows.{row_written, AreListedBehind, PutsRow, PutsNew}
use Rattle.myi_dellist.specs.Planning.{is_taken, rest_plan, rest_in, last_size, last_piece, with_rest, row_plan_in, next_bytes, planned_bytes, head_by}
use Rattle.myi_dellist.specs.Putting.{EndsBehind, EndsIn, PutsIn, Puts, PutLong, LongBy, ends_of}
use Rattle.myi_dellist.proofs.AreaLemmas.{no_more, below-append, once-apart}
use Rattle.myi_dellist.proofs.PlaceLemmas.{take_takes, append_ends, below-pieces}
use Rattle.myi_dellist.proofs.LinkLemmas.{part_split, all_split, all_join}
use Rattle.myi_dellist.proofs.FillLemmas.{IsDone, IsOpen, take_runs, first_behind, first_is, holes_usable}
use Rattle.myi_dellist.proofs.FirstLemmas.{fill_bytes, hole_bytes, place-new}
use Rattle.myi_dellist.proofs.TakenLemmas.{first-taken}
use Rattle.myi_dellist.proofs.ReleasedLemmas.{release-one-stands, others-stay, far_of, apart_after}
use Rattle.myi_dellist.proofs.FreeLemmas.{first_one, short_release}
use Rattle.myi_dellist.proofs.SeenLemmas.{first_of}
use Rattle.myi_dellist.proofs.PlanLemmas.{named_first}
use Rattle.myi_dellist.proofs.StandLemmas.{AreAligned, stand, rest_keeps, no_shorter, no_longer, reaches_behind, list_stays, AreCrossed, cross_of, apart-once, append_aligned}
use Rattle.myi_dellist.proofs.TakeLemmas.{IsMore, take_more_of, IsNamed, named_block, named_nothing, first_join, last_join, some_is}
use Rattle.myi_dellist.proofs.PlanningLemmas.{IsCut, last_cut}
use Rattle.myi_dellist.proofs.AtEndLemmas.{IsReady, behind_pieces, behind_fill, behind_inside, behind_ready, in_fill, in_inside, in_ready}
use Rattle.myi_dellist.proofs.RestLemmas.{none_at, IsSpare, rest_released}

-- ---- the blocks that were read are the first of the list

area_is : (a h : Area) → a.at ≡ h.at → a.size ≡ h.size → a ≡ h
area_is a h at size = ap (λ (n : ℕ). made n a.size) at ∙ ap (made h.at) size
  where
    made : ℕ → ℕ → Area
    made n m = record { at = n; size = m }

pub record IsFront (areas holes : List Area) (link : Option ℕ) : Type 0 where
  pub rest : List Area
  pub all : holes ≡ areas ++ rest
  pub next : first_or rest None ≡ link

pub front_of : (d : List ℕ) (prev : Option ℕ) (areas holes : List Area) (link : Option ℕ) → first_or areas link ≡ first_or holes None → IsPart d prev areas link → IsPart d prev holes None → IsFront areas holes link
front_of d prev [] holes link e p q = record { rest = holes; all = refl; next = sym e }
front_of d prev (a ∷ areas) [] link e p q = absurd cc
front_of d prev (a ∷ areas) (h ∷ holes) link e p q =
    let at : a.at ≡ h.at = cc in
    let two : Some (hole_block a (first_or areas link) prev) ≡ Some (hole_block h (first_or holes None) prev) = sym p.0 ∙ ap (block_of d) at ∙ q.0 in
    let one : hole_block a (first_or areas link) prev ≡ hole_block h (first_or holes None) prev = cc in
    let size : a.size ≡ h.size = ap (λ (b : Block). b.size) one in
    let next : first_or areas link ≡ first_or holes None = ap (λ (b : Block). b.next) one in
    let f = front_of d (Some a.at) areas holes link next p.1 (subst (λ (n : ℕ). IsPart d (Some n) holes None) (sym at) q.1) in
    record { rest = f.rest; all = ap (λ (x : Area). x ∷ holes) (sym (area_is a h at size)) ∙ ap (λ (xs : List Area). a ∷ xs) f.all; next = f.next }

pub nothing_behind : (rest : List Area) → first_or rest None ≡ None → rest ≡ []
nothing_behind [] e = refl
nothing_behind (r ∷ rest) e = absurd cc

-- ---- a new row

abbrev none_own : ℕ → Taking
none_own len = record { pieces = []; left = len; spare = []; unused = [] }

-- where a row goes, by what it takes of the list
abbrev pub placed : Space → ℕ → List Piece → ℕ → List Area → List Area → Placing
placed s len ps left spare unused = record {
  pieces = ps ++ append_from left len (is_none ps) left s.end;
  space = record { holes = release_all (spare ++ []) unused; end = end_behind s.end (append_from left len (is_none ps) left s.end) };
}

-- blocks of its own that a row fills, beside what is deleted
pub record IsBegun (len end : ℕ) (own holes : List Area) : Type 0 where
  pub usable : AllByRecursion (IsUsable len) own
  pub inside : AreInside end own
  pub apart : AreApart (own ++ holes)
  pub some : 0 < (take_from len true len own).left

-- a row that has none yet
pub none_begun : (len end : ℕ) (holes : List Area) → 0 < len → AreApart holes → IsBegun len end [] holes
none_begun len end holes some apart = record { usable = tt; inside = tt; apart = apart; some = some }

usable_all : (len end : ℕ) (own holes : List Area) → IsBegun len end own holes → AllByRecursion IsHole holes → AllByRecursion (IsUsable len) (own ++ holes)
usable_all len end own holes b sizes = all_join (IsUsable len) own holes b.usable (holes_usable len holes sizes)

inside_all : (len end : ℕ) (own holes : List Area) → IsBegun len end own holes → AreInside end holes → AreInside end (own ++ holes)
inside_all len end own holes b inside = all_join (λ (a : Area). a.at + a.size ≤ end) own holes b.inside inside

more_some : (len : ℕ) (first : Bool) (left : ℕ) (holes : List Area) → 0 < left → take_more len first left holes ≡ take_from len first left holes
more_some len first zero holes some = absurd (omega arith)
more_some len first (suc n) holes some = refl

by_more : (s : Space) (len : ℕ) (a u : Taking) → a.spare ≡ [] → a.unused ≡ [] → placed_by s len a u ≡ placed s len (a.pieces ++ u.pieces) u.left u.spare u.unused
by_more s len a u sp un =
    ap (λ (xs : List Area). record { pieces = (a.pieces ++ u.pieces) ++ last_pieces len a u s.end; space = record { holes = release_all (xs ++ (u.spare ++ a.unused)) u.unused; end = end_behind s.end (last_pieces len a u s.end) } }) sp
    ∙ ap (λ (xs : List Area). record { pieces = (a.pieces ++ u.pieces) ++ last_pieces len a u s.end; space = record { holes = release_all (u.spare ++ xs) u.unused; end = end_behind s.end (last_pieces len a u s.end) } }) un

place_begun : (s : Space) (own : List Area) (len : ℕ) → AllByRecursion (IsUsable len) own → 0 < len → 0 < (take_from len true len own).left → place s own len ≡ placed s len ((take_from len true len own).pieces ++ (take_from len (is_none (take_from len true len own).pieces) (take_from len true len own).left s.holes).pieces) (take_from len (is_none (take_from len true len own).pieces) (take_from len true len own).left s.holes).left (take_from len (is_none (take_from len true len own).pieces) (take_from len true len own).left s.holes).spare (take_from len (is_none (take_from len true len own).pieces) (take_from len true len own).left s.holes).unused
unfolding place
place_begun s own len usable whole some =
    let a = take_from len true len own in
    let o = open_of (take_runs len true len own whole (omega arith) usable) in
    ap (placed_by s len a) (more_some len (is_none a.pieces) a.left s.holes some) ∙ by_more s len a (take_from len (is_none a.pieces) a.left s.holes) o.spare o.unused
  where
    open_of : IsDone len true len (take_from len true len own) ⊎ IsOpen len true len (take_from len true len own) → IsOpen len true len (take_from len true len own)
    open_of (inl d) = absurd (omega (arith, d.none, some))
    open_of (inr o) = o

place_is : (s : Space) (own : List Area) (len : ℕ) → AllByRecursion (IsUsable len) own → 0 < len → 0 < (take_from len true len own).left → place s own len ≡ placed s len (take_from len true len (own ++ s.holes)).pieces (take_from len true len (own ++ s.holes)).left (take_from len true len (own ++ s.holes)).spare (take_from len true len (own ++ s.holes)).unused
place_is s own len usable whole some =
    let a = take_from len true len own in
    let u = take_from len (is_none a.pieces) a.left s.holes in
    let v = take_from len true len (own ++ s.holes) in
    let m = subst (λ (f : Bool). IsMore a (take_from len f a.left s.holes) v) (first_is a.pieces) (take_more_of len true len own s.holes some) in
    place_begun s own len usable whole some
    ∙ ap (λ (x : List Piece). placed s len x u.left u.spare u.unused) (sym m.pieces)
    ∙ ap (λ (x : ℕ). placed s len v.pieces x u.spare u.unused) (sym m.left)
    ∙ ap (λ (x : List Area). placed s len v.pieces v.left x u.unused) (sym m.spare)
    ∙ ap (placed s len v.pieces v.left v.spare) (sym m.unused)

pub place_by : (s : Space) (own : List Area) (len : ℕ) (ps : List Piece) (left : ℕ) (spare unused : List Area) → AllByRecursion (IsUsable len) own → 0 < len → 0 < (take_from len true len own).left → (take_from len true len (own ++ s.holes)).pieces ≡ ps → (take_from len true len (own ++ s.holes)).left ≡ left → (take_from len true len (own ++ s.holes)).spare ≡ spare → (take_from len true len (own ++ s.holes)).unused ≡ unused → place s own len ≡ placed s len ps left spare unused
place_by s own len ps left spare unused usable whole some p l sp u =
    let t = take_from len true len (own ++ s.holes) in
    place_is s own len usable whole some
    ∙ ap (λ (x : List Piece). placed s len x t.left t.spare t.unused) p
    ∙ ap (λ (x : ℕ). placed s len ps x t.spare t.unused) l
    ∙ ap (λ (x : List Area). placed s len ps left x t.unused) sp
    ∙ ap (placed s len ps left spare) u

new_place : (s : Space) (len : ℕ) (head : Option ℕ) → 0 < len → head ≡ first_or s.holes None → place_of (place s [] len).pieces ≡ Some (next_by head s.end).0
new_place s len head some e =
    place-new s len some ∙ by_holes s.holes s.end ∙ ap (λ (o : Option ℕ). Some (next_by o s.end).0) (sym e)
  where
    by_holes : (holes : List Area) (end : ℕ) → Some (next_place holes end) ≡ Some (next_by (first_or holes None) end).0
    by_holes [] end = refl
    by_holes (h ∷ holes) end = refl

-- what a row takes of the list counts as the list does
taken_apart : (len : ℕ) (holes : List Area) (qs : List Piece) (spare unused : List Area) → AllByRecursion (IsUsable len) holes → AreApart holes → (take_from len true len holes).pieces ≡ qs → (take_from len true len holes).spare ≡ spare → (take_from len true len holes).unused ≡ unused → HaveBytes (areas_of qs ++ (spare ++ unused)) → AreApart (areas_of qs ++ (spare ++ unused))
taken_apart len holes qs spare unused sizes apart p sp u some =
    once-apart (areas_of qs ++ (spare ++ unused)) some (λ n. omega (arith, same n, same (n + 1), apart-once holes apart n))
  where
    same : (n : ℕ) → bytes_below n (areas_of qs ++ (spare ++ unused)) ≡ bytes_below n holes
    same n =
        let t = take_from len true len holes in
        let k = (take_takes len true len holes (omega arith) sizes).bytes n in
        let kp = ap (λ (x : List Piece). bytes_below n (areas_of x)) p in
        let ks = ap (bytes_below n) sp in
        let ku = ap (bytes_below n) u in
        omega (arith, k, kp, ks, ku, below-append n (areas_of qs) (spare ++ unused), below-append n spare unused)

pub apart_right : (xs ys : List Area) → AreApart (xs ++ ys) → AreApart ys
apart_right [] ys a = a
apart_right (x ∷ xs) ys a = apart_right xs ys a.1

pub cross_right : (xs ys zs : List Area) → AreCrossed xs (ys ++ zs) → AreCrossed xs zs
cross_right [] ys zs c = tt
cross_right (x ∷ xs) ys zs c = ((all_split (IsApart x) ys zs c.0).1, cross_right xs ys zs c.1)

-- ---- the list ends before the row does

pub taken_open : (len : ℕ) (areas : List Area) → 0 < len → AllByRecursion (IsUsable len) areas → 0 < (take_from len true len areas).left → ((take_from len true len areas).spare ≡ []) × ((take_from len true len areas).unused ≡ [])
taken_open len areas some sizes left = by_run (take_runs len true len areas some (omega arith) sizes)
  where
    by_run : IsDone len true len (take_from len true len areas) ⊎ IsOpen len true len (take_from len true len areas) → ((take_from len true len areas).spare ≡ []) × ((take_from len true len areas).unused ≡ [])
    by_run (inl done) = absurd (omega (arith, done.none, left))
    by_run (inr o) = (o.spare, o.unused)

aligned_join : (ps qs : List Piece) → AreAligned ps → AreAligned qs → AreAligned (ps ++ qs)
aligned_join [] qs a b = b
aligned_join (p ∷ ps) qs a b = (a.0, aligned_join ps qs a.1 b)

behind_apart : (len end left : ℕ) (holes : List Area) (ps : List Piece) → 0 < len → 0 < left → AllByRecursion (IsUsable len) holes → AreApart holes → AreInside end holes → Run len true len ps left → (take_from len true len holes).pieces ≡ ps → (take_from len true len holes).spare ≡ [] → (take_from len true len holes).unused ≡ [] → AreApart (areas_of (ps ++ behind_pieces len ps left end))
behind_apart len end left holes ps some more sizes apart inside run p sp u =
    once-apart (areas_of (ps ++ behind_pieces len ps left end)) (fill_bytes len true len (ps ++ behind_pieces len ps left end) (behind_fill len left end ps run more)) (λ n. by_side n (cases_lt n end))
  where
    same : (n : ℕ) → bytes_below n (areas_of ps) ≡ bytes_below n holes
    same n =
        let t = take_from len true len holes in
        let k = (take_takes len true len holes (omega arith) sizes).bytes n in
        let kp = ap (λ (x : List Piece). bytes_below n (areas_of x)) p in
        let ks = ap (bytes_below n) sp in
        let ku = ap (bytes_below n) u in
        omega (arith, k, kp, ks, ku)

    by_side : (n : ℕ) → (n < end) ⊎ (end ≤ n) → bytes_below (n + 1) (areas_of (ps ++ behind_pieces len ps left end)) ≤ bytes_below n (areas_of (ps ++ behind_pieces len ps left end)) + 1
    by_side n (inl lt) =
        let qs = behind_pieces len ps left end in
        let e = append_ends left len (is_none ps) left end (omega arith) (inr more) in
        omega (arith, lt, e.bytes n, e.bytes (n + 1), below-pieces n ps qs, below-pieces (n + 1) ps qs, same n, same (n + 1), apart-once holes apart n)
    by_side n (inr le) =
        let qs = behind_pieces len ps left end in
        let e = append_ends left len (is_none ps) left end (omega arith) (inr more) in
        omega (arith, le, e.bytes n, e.bytes (n + 1), below-pieces n ps qs, below-pieces (n + 1) ps qs, same n, same (n + 1), no_more end n holes inside le, no_more end (n + 1) holes inside (omega (arith, le)))

-- a row that takes the whole list
pub record TakesAll (own : List Area) (s : Space) (len : ℕ) (ps : List Piece) (left : ℕ) : Type 0 where
  pub pieces : (take_from len true len (own ++ s.holes)).pieces ≡ ps
  pub left_is : (take_from len true len (own ++ s.holes)).left ≡ left
  pub spare : (take_from len true len (own ++ s.holes)).spare ≡ []
  pub unused : (take_from len true len (own ++ s.holes)).unused ≡ []
  pub is : place s own len ≡ placed s len ps left [] []

pub takes_all : (own : List Area) (l : ListState) (len : ℕ) (d : List ℕ) (holes : List Area) (ps : List Piece) (t : Taken) → 0 < len → IsBegun len l.end own holes → HasHoles l holes d → TakesFull own d l.head len ps t → t.next ≡ None → TakesAll own (record { holes = holes; end = l.end }) len ps t.left
takes_all own l len d holes ps t some b has u none =
    let s : Space = record { holes = holes; end = l.end } in
    let link : u.link ≡ None = named_nothing d t.last u.link (u.names ∙ ap Ok none) in
    let f = front_of d None u.areas holes u.link (u.fills.first ∙ has.head) u.fills.linked has.list.linked in
    let same : holes ≡ u.areas = f.all ∙ ap (λ (xs : List Area). u.areas ++ xs) (nothing_behind f.rest (f.next ∙ link)) ∙ append-nil u.areas in
    let pieces : (take_from len true len (own ++ holes)).pieces ≡ ps = ap (λ (hs : List Area). (take_from len true len (own ++ hs)).pieces) same ∙ u.fills.pieces in
    let left : (take_from len true len (own ++ holes)).left ≡ t.left = ap (λ (hs : List Area). (take_from len true len (own ++ hs)).left) same ∙ u.fills.left_is in
    let open_ = taken_open len (own ++ holes) some (usable_all len l.end own holes b has.list.sizes) (omega (arith, left, u.fills.some)) in
    record { pieces = pieces; left_is = left; spare = open_.0; unused = open_.1; is = place_by s own len ps t.left [] [] b.usable some b.some pieces left open_.0 open_.1 }

-- where the file would end is where the definition on lists says
pub long-by : (own : List Area) (l : ListState) (holes : List Area) (d : List ℕ) (len limit : ℕ) → 0 < len → IsBegun len l.end own holes → HasHoles l holes d → LongBy own d l.head l.end limit len → limit ≤ (place (record { holes = holes; end = l.end }) own len).space.end
long-by own l holes d len limit some b has p =
    let k = takes_all own l len d holes p.ps p.t some b has p.takes p.none in
    subst (λ (q : Placing). limit ≤ q.space.end) (sym k.is) p.long

pub long-placed : (l : ListState) (holes : List Area) (d : List ℕ) (len limit : ℕ) → 0 < len → HasHoles l holes d → PutLong d l.head l.end limit len → limit ≤ (place (record { holes = holes; end = l.end }) [] len).space.end
long-placed l holes d len limit some has p = long-by [] l holes d len limit some (none_begun len l.end holes some has.list.apart) has p

-- what stands before a row is put, and the list that it leaves
pub record IsBefore (own : List Area) (l k : ListState) (row d : List ℕ) (holes : List Area) (new : ListEnds) : Type 0 where
  pub is : k ≡ record l { head = new.head; end = new.end }
  pub some : 0 < length row
  pub few : length row < 2 ^ 32
  pub long : length d ≡ l.end
  pub aligned : l.end % 4 ≡ 0
  pub short : new.end < 2 ^ 64
  pub has : HasHoles l holes d
  pub begun : IsBegun (length row) l.end own holes

behind_is_row : (own old : List Area) (at : ℕ) (l k : ListState) (row d : List ℕ) (holes : List Area) (new : ListEnds) (ps : List Piece) (t : Taken) → IsBefore own l k row d holes new → place_of (place (record { holes = holes; end = l.end }) own (length row)).pieces ≡ Some at → IsRun l.end (length row) ps t → TakesFull own d l.head (length row) ps t → t.next ≡ None → new.head ≡ None → new.end ≡ end_behind l.end (behind_pieces (length row) ps t.left l.end) → PutsRow k (old ++ holes) (place (record { holes = holes; end = l.end }) own (length row)) row at d (row_written (ps ++ behind_pieces (length row) ps t.left l.end) row d)
behind_is_row own old at l k row d holes new ps t b first r u none head_is end_is =
    let len = length row in
    let s : Space = record { holes = holes; end = l.end } in
    let all = takes_all own l len d holes ps t b.some b.begun b.has u none in
    let qs = ps ++ behind_pieces len ps t.left l.end in
    let to = end_behind l.end (behind_pieces len ps t.left l.end) in
    let fs = specs_of len qs in
    let ends = append_ends t.left len (is_none ps) t.left l.end (omega arith) (inr r.some) in
    let ready = behind_ready len t.left l.end ps qs refl b.few r.run r.some r.inside (omega (arith, end_is, b.short)) in
    let le : taken_by qs ≤ len = omega (arith, ready.counts) in
    let inside = subst (λ (n : ℕ). AreInside n holes) b.long b.has.list.inside in
    let apart = behind_apart len l.end t.left (own ++ holes) ps b.some r.some (usable_all len l.end own holes b.begun b.has.list.sizes) b.begun.apart (inside_all len l.end own holes b.begun inside) r.run all.pieces all.spare all.unused in
    let long : length (row_written qs row d) ≡ to = omega (arith, no_longer fs qs row d to ready.writable le (omega (arith, b.long, ends.grows)) (behind_inside len t.left l.end ps r.some r.inside), reaches_behind fs ps (behind_pieces len ps t.left l.end) row d l.end ready.writable le (omega (arith, b.long))) in
    subst (λ (q : Placing). PutsRow k (old ++ holes) q row at d (row_written qs row d)) (sym all.is) (record {
      place_is = ap (λ (q : Placing). place_of q.pieces) (sym all.is) ∙ first;
      holes_are = record { head = ap (λ (x : ListState). x.head) b.is ∙ head_is; list = record { linked = tt; sizes = tt; inside = tt; apart = tt; short = omega (arith, long, end_is, b.short) } };
      end_is = ap (λ (x : ListState). x.end) b.is ∙ end_is;
      long = long;
      blocks = stand fs qs row d ready.writable (aligned_join ps (behind_pieces len ps t.left l.end) r.aligned (append_aligned t.left len (is_none ps) t.left l.end b.aligned)) apart le;
      keeps = record {
        longer = no_shorter fs qs row d ready.writable le;
        bytes = λ p n within far. rest_keeps fs qs row d p n ready.writable le within (all_split (IsApart (record { at = p; size = n })) (areas_of qs) ((old ++ holes) ++ []) far).0;
      };
    })

-- ---- the row ends in a block of the list

-- what the last block is cut into
abbrev pub spare_by : Bool → ℕ → Area → List Area
spare_by true left a = record { at = a.at + least_size left; size = a.size - least_size left } ∷ []
spare_by false left a = []

abbrev pub size_by : Bool → ℕ → ℕ → ℕ
size_by b left size = if b then least_size left else size

-- what a row takes, where its last block is this one
pub record IsTaken (t : Taking) (ps : List Piece) (left : ℕ) (a : Area) (b : Bool) (rest : List Area) : Type 0 where
  pub pieces : t.pieces ≡ ps ++ record { at = a.at; size = size_by b left a.size; taken = left } ∷ []
  pub left_is : t.left ≡ 0
  pub spare : t.spare ≡ spare_by b left a
  pub unused : t.unused ≡ rest

last_taken : (b : Bool) (left : ℕ) (a : Area) (rest : List Area) → IsTaken (take_last b left a rest) [] left a b rest
last_taken true left a rest = record { pieces = refl; left_is = refl; spare = refl; unused = refl }
last_taken false left a rest = record { pieces = refl; left_is = refl; spare = refl; unused = refl }

one_taken : (len : ℕ) (first : Bool) (left : ℕ) (a : Area) (rest : List Area) (b : Bool) → fits left a.size ≡ true → nat_le (least_size left + 20) a.size ≡ b → IsTaken (take_from len first left (a ∷ rest)) [] left a b rest
one_taken len first left a rest b e t =
    subst (λ (x : Taking). IsTaken x [] left a b rest) (sym (ap (λ (c : Bool). take_one len first left a rest c (λ more. take_from len false more rest)) e ∙ ap (λ (c : Bool). take_last c left a rest) t)) (last_taken b left a rest)

pub all_taken : (len : ℕ) (areas rest : List Area) (ps : List Piece) (left : ℕ) (a : Area) (b : Bool) → (take_from len true len areas).pieces ≡ ps → (take_from len true len areas).left ≡ left → 0 < left → fits left a.size ≡ true → nat_le (least_size left + 20) a.size ≡ b → IsTaken (take_from len true len (areas ++ a ∷ rest)) ps left a b rest
all_taken len areas rest ps left a b p l some e t =
    let u = take_from len true len areas in
    let m = take_more_of len true len areas (a ∷ rest) (omega (arith, l, some)) in
    let f = first_behind true u.pieces in
    let o : IsTaken (take_from len f u.left (a ∷ rest)) [] left a b rest = subst (λ (n : ℕ). IsTaken (take_from len f n (a ∷ rest)) [] left a b rest) (sym l) (one_taken len f left a rest b e t) in
    record {
      pieces = m.pieces ∙ ap (λ (xs : List Piece). xs ++ (take_from len f u.left (a ∷ rest)).pieces) p ∙ ap (λ (xs : List Piece). ps ++ xs) o.pieces;
      left_is = m.left ∙ o.left_is;
      spare = m.spare ∙ o.spare;
      unused = m.unused ∙ o.unused;
    }

-- each block that is taken is one of the row's
taken_places : (len : ℕ) (first : Bool) (left : ℕ) (zs : List Area) (q : ℕ) (g : Area) → (take_from len first left zs).unused ≡ [] → hole_at q zs ≡ Some g → is_taken q (take_from len first left zs).pieces ≡ true
taken_places len first left [] q g none e = absurd cc
taken_places len first left (z ∷ zs) q g none e = by_fits (fits left z.size) none (taken_places len false (left - Rattle.myi_dellist.specs.Placing.room len first z.size) zs q g)
  where
    found : (c : Bool) (more : Bool) → (if c then Some z else hole_at q zs) ≡ Some g → (hole_at q zs ≡ Some g → more ≡ true) → (if c then true else more) ≡ true
    found true more e go = refl
    found false more e go = go e

    by_last : (b : Bool) → (take_last b left z zs).unused ≡ [] → is_taken q (take_last b left z zs).pieces ≡ true
    by_last true none = found (z.at == q) false e (λ h. let no_hole : None ≡ Some g = sym (ap (hole_at q) none) ∙ h in absurd cc)
    by_last false none = found (z.at == q) false e (λ h. let no_hole : None ≡ Some g = sym (ap (hole_at q) none) ∙ h in absurd cc)

    by_fits : (b : Bool) → (take_one len first left z zs b (λ more. take_from len false more zs)).unused ≡ [] → ((take_from len false (left - Rattle.myi_dellist.specs.Placing.room len first z.size) zs).unused ≡ [] → hole_at q zs ≡ Some g → is_taken q (take_from len false (left - Rattle.myi_dellist.specs.Placing.room len first z.size) zs).pieces ≡ true) → is_taken q (take_one len first left z zs b (λ more. take_from len false more zs)).pieces ≡ true
    by_fits true none ih = by_last (nat_le (least_size left + 20) z.size) none
    by_fits false none ih = found (z.at == q) (is_taken q (take_from len false (left - Rattle.myi_dellist.specs.Placing.room len first z.size) zs).pieces) e (ih none)

-- and no other
not_taken : (qs : List Piece) (r : Area) → HaveBytes (areas_of qs) → 0 < r.size → AllByRecursion (λ (x : Area). IsApart x r) (areas_of qs) → is_taken r.at qs ≡ false
not_taken [] r some bytes far = refl
not_taken (p ∷ qs) r some bytes far = by_test (p.at == r.at) refl (not_taken qs r some.1 bytes far.1)
  where
    by_side : IsApart (record { at = p.at; size = p.size }) r → p.at ≡ r.at → ⊥
    by_side (inl le) e = omega (arith, some.0, le, e)
    by_side (inr le) e = omega (arith, bytes, le, e)

    by_test : (b : Bool) → (p.at == r.at) ≡ b → is_taken r.at qs ≡ false → (if b then true else is_taken r.at qs) ≡ false
    by_test true t ih = absurd (by_side far.0 (eqb-true _ _ t))
    by_test false t ih = ih

column : (xs : List Area) (r : Area) (rest : List Area) → AreCrossed xs (r ∷ rest) → AllByRecursion (λ (x : Area). IsApart x r) xs × AreCrossed xs rest
column [] r rest c = (tt, tt)
column (x ∷ xs) r rest c = let more = column xs r rest c.1 in ((c.0.0, more.0), (c.0.1, more.1))

none_taken : (qs : List Piece) (rest : List Area) → HaveBytes (areas_of qs) → HaveBytes rest → AreCrossed (areas_of qs) rest → AllByRecursion (λ (r : Area). is_taken r.at qs ≡ false) rest
none_taken qs [] some bytes c = tt
none_taken qs (r ∷ rest) some bytes c = let k = column (areas_of qs) r rest c in (not_taken qs r some bytes.0 k.0, none_taken qs rest some bytes.1 k.1)

cross_last : (xs : List Area) (a : Area) (rest : List Area) → AreCrossed (xs ++ a ∷ []) rest → AllByRecursion (IsApart a) rest
cross_last [] a rest c = c.0
cross_last (x ∷ xs) a rest c = cross_last xs a rest c.1

next_is_prev : (prev : Option ℕ) (rest : List Area) (d : List ℕ) → next_bytes (first_of prev rest) d ≡ with_prev rest None None d
next_is_prev prev [] d = refl
next_is_prev prev (r ∷ rest) d = refl

head_is_first : (prev : Option ℕ) (rest : List Area) → head_by (first_of prev rest) None ≡ first_or rest None
head_is_first prev [] = refl
head_is_first prev (r ∷ rest) = refl

-- the list of a file in which a row takes these blocks, of which the last is this one
pub record IsList (own : List Area) (l : ListState) (row d : List ℕ) (holes : List Area) (ps : List Piece) (t : Taken) (h : Head) (areas rest : List Area) : Type 0 where
  pub all : holes ≡ (areas ++ record { at = h.at; size = h.size } ∷ []) ++ rest
  pub next : first_or rest None ≡ h.next
  pub pieces : (take_from (length row) true (length row) (own ++ areas)).pieces ≡ ps
  pub left_is : (take_from (length row) true (length row) (own ++ areas)).left ≡ t.left

pub list_of : (own : List Area) (l : ListState) (row d : List ℕ) (holes : List Area) (ps : List Piece) (t : Taken) (h : Head) → HasHoles l holes d → (u : TakesFull own d l.head (length row) ps t) → t.next ≡ Some h → (rest : List Area) × IsList own l row d holes ps t h u.areas rest
list_of own l row d holes ps t h has u next =
    let a : Area = record { at = h.at; size = h.size } in
    let m = named_block d t.last u.link h (u.names ∙ ap Ok next) in
    let n = subst (λ (o : Option ℕ). IsNamed d o u.link h) u.last m in
    let first : first_or (u.areas ++ a ∷ []) h.next ≡ l.head = first_join u.areas (a ∷ []) h.next ∙ ap (first_or u.areas) (sym n.link_is) ∙ u.fills.first in
    let linked : IsPart d None (u.areas ++ a ∷ []) h.next = Rattle.myi_dellist.proofs.LinkLemmas.part_join d None h.next u.areas (a ∷ []) (subst (IsPart d None u.areas) n.link_is u.fills.linked) (n.stands, tt) in
    let f = front_of d None (u.areas ++ a ∷ []) holes h.next (first ∙ has.head) linked has.list.linked in
    (f.rest, record { all = f.all; next = f.next; pieces = u.fills.pieces; left_is = u.fills.left_is })

-- what is planned for what is left over
pub record IsCutOff (d : List ℕ) (head : Option ℕ) (qs : List Piece) (left : ℕ) (h : Head) (next : Option Head) (plan : RowPlan) : Type 0 where
  pub joined : Option Linked
  pub found : merge_in (hole_in d) head (h.at + least_size left) (h.size - least_size left) ≡ Ok joined
  pub plan_is : plan ≡ record { next = next; rest = Some (record { at = h.at + least_size left; size = h.size - least_size left; plan = rest_plan qs h.at next joined }) }

pub same_row : (r : Result RowPlan ℕ) (p q : RowPlan) → r ≡ Ok p → r ≡ Ok q → p ≡ q
same_row r p q e f = cc

pub cut_off : (d : List ℕ) (head : Option ℕ) (ps : List Piece) (left : ℕ) (h : Head) (next : Option Head) (plan : RowPlan) → last_size left h.size ≡ least_size left → (least_size left == h.size) ≡ false → block_named (hole_in d) (Some h.at) h.next ≡ Ok next → row_plan_in d head ps left h ≡ Ok plan → IsCutOff d head (ps ++ last_piece left h ∷ []) left h next plan
cut_off d head ps left h next plan size less named found = by_merge (merge_in (hole_in d) head (h.at + least_size left) (h.size - least_size left)) refl
  where
    qs : List Piece
    qs = ps ++ last_piece left h ∷ []

    i : Rattle.myi_dellist.proofs.PlanningLemmas.IsLeft d head ps qs left h (least_size left) next
    i = record { size_is = sym size; less = less; pieces = refl; named = named }

    is : row_plan_in d head ps left h ≡ with_rest next (rest_in d head qs (record { at = h.at + least_size left; size = h.size - least_size left; last = h.at }) next)
    is = Rattle.myi_dellist.proofs.PlanningLemmas.row_left d head ps qs left h (least_size left) next i

    by_merge : (m : Result (Option Linked) ℕ) → merge_in (hole_in d) head (h.at + least_size left) (h.size - least_size left) ≡ m → IsCutOff d head qs left h next plan
    by_merge (Ok j) e =
        let r = Rattle.myi_dellist.proofs.PlanningLemmas.rest_ok d head qs (record { at = h.at + least_size left; size = h.size - least_size left; last = h.at }) next j e in
        record { joined = j; found = e; plan_is = same_row (row_plan_in d head ps left h) plan (record { next = next; rest = Some (record { at = h.at + least_size left; size = h.size - least_size left; plan = rest_plan qs h.at next j }) }) found (is ∙ ap (with_rest next) r) }
    by_merge (Err p) e =
        let r = Rattle.myi_dellist.proofs.PlanningLemmas.rest_err d head qs (record { at = h.at + least_size left; size = h.size - least_size left; last = h.at }) next p e in
        let bad : Err p ≡ Ok plan = sym (is ∙ ap (with_rest next) r) ∙ found in
        absurd cc

-- the file once a row is put, and what it leaves of the list
record Leaves (k : ListState) (row d e : List ℕ) (qs : List Piece) (left_over : List Area) : Type 0 where
  pub head_is : k.head ≡ first_or left_over None
  pub list : HasList e left_over
  pub long : length e ≡ length d
  pub blocks : AllByRecursion (λ (b : Block). block_of e b.at ≡ Some b) (Rattle.myi_dellist.specs.RowBlocks.row_blocks qs row)
  pub bytes : (rest : List Area) → (p n : ℕ) → p + n ≤ length d → AllByRecursion (IsApart (record { at = p; size = n })) (areas_of qs) → AllByRecursion (IsApart (record { at = p; size = n })) rest → AllByRecursion (IsApart (record { at = p; size = n })) left_over → take n (drop p e) ≡ take n (drop p d)

-- the row's blocks once they are written, where the list begins behind them
pub record IsWritten (row d : List ℕ) (qs : List Piece) (rest : List Area) (e : List ℕ) : Type 0 where
  pub list : HasList e rest
  pub long : length e ≡ length d
  pub blocks : AllByRecursion (λ (b : Block). block_of e b.at ≡ Some b) (Rattle.myi_dellist.specs.RowBlocks.row_blocks qs row)
  pub bytes : (p n : ℕ) → p + n ≤ length d → AllByRecursion (IsApart (record { at = p; size = n })) (areas_of qs) → AllByRecursion (IsApart (record { at = p; size = n })) rest → take n (drop p e) ≡ take n (drop p d)

written_is : (row d : List ℕ) (zs rest : List Area) (qs : List Piece) → HasList d (zs ++ rest) → IsReady (length row) qs → AreAligned qs → AreInside (length d) (areas_of qs) → AreApart (areas_of qs) → AreCrossed (areas_of qs) rest → IsWritten row d qs rest (row_written qs row (with_prev rest None None d))
written_is row d zs rest qs list ready aligned inside apart cross =
    let first = first-taken d zs rest list in
    let d1 = with_prev rest None None d in
    let fs = specs_of (length row) qs in
    let le : taken_by qs ≤ length row = omega (arith, ready.counts) in
    let same = first.keeps.long in
    record {
      list = list_stays fs qs row d1 rest ready.writable le ready.below cross first.list;
      long = omega (arith, no_longer fs qs row d1 (length d) ready.writable le (omega (arith, same)) inside, no_shorter fs qs row d1 ready.writable le, same);
      blocks = stand fs qs row d1 ready.writable aligned apart le;
      bytes = λ p n within far off. rest_keeps fs qs row d1 p n ready.writable le (omega (arith, within, same)) far ∙ first.keeps.bytes p n within (far_of p n rest (all_split IsHole zs rest list.sizes).1 off);
    }

spare_bytes : (b : Bool) (left : ℕ) (h : Head) → nat_le (least_size left + 20) h.size ≡ b → HaveBytes (spare_by b left (record { at = h.at; size = h.size }))
spare_bytes true left h t = (omega (arith, leb-true _ _ t), tt)
spare_bytes false left h t = tt

-- what is known of a row whose last block is this one
pub record IsEnded (own : List Area) (l : ListState) (row d : List ℕ) (holes areas rest : List Area) (qs : List Piece) (left : ℕ) (h : Head) (b : Bool) : Type 0 where
  pub is : place (record { holes = holes; end = l.end }) own (length row) ≡ record { pieces = qs; space = record { holes = release_all (spare_by b left (record { at = h.at; size = h.size }) ++ []) rest; end = l.end } }
  pub list : HasList d ((areas ++ record { at = h.at; size = h.size } ∷ []) ++ rest)
  pub apart : AreApart (spare_by b left (record { at = h.at; size = h.size }) ++ rest)
  pub whole : AreCrossed (areas_of qs) (spare_by b left (record { at = h.at; size = h.size }) ++ rest)
  pub cross : AreCrossed (areas_of qs) rest
  pub bytes : HaveBytes (areas_of qs)
  pub named : block_named (hole_in d) (Some h.at) h.next ≡ Ok (first_of (Some h.at) rest)
  pub written : IsWritten row d qs rest (row_written qs row (with_prev rest None None d))
  pub size : last_size left h.size ≡ size_by b left h.size

pub ended : (own : List Area) (l k : ListState) (row d : List ℕ) (holes : List Area) (new : ListEnds) (ps : List Piece) (t : Taken) (h : Head) (areas rest : List Area) (b : Bool) → IsBefore own l k row d holes new → new.end ≡ l.end → IsRun l.end (length row) ps t → t.next ≡ Some h → fits t.left h.size ≡ true → IsList own l row d holes ps t h areas rest → nat_le (least_size t.left + 20) h.size ≡ b → IsEnded own l row d holes areas rest (ps ++ last_piece t.left h ∷ []) t.left h b
ended own l k row d holes new ps t h areas rest b w end_is r next e x tb =
    let len = length row in
    let left : ℕ = t.left in
    let a : Area = record { at = h.at; size = h.size } in
    let i = some_is (IsHoleIn l.end) t.next h next r.next in
    let size : last_size left h.size ≡ size_by b left h.size = ap (λ (c : Bool). if c then least_size left else h.size) tb in
    let zs = areas ++ a ∷ [] in
    let qs = ps ++ last_piece left h ∷ [] in
    let all : own ++ holes ≡ (own ++ areas) ++ (a ∷ rest) = ap (λ (hs : List Area). own ++ hs) (x.all ∙ append_assoc areas (a ∷ []) rest) ∙ sym (append_assoc own areas (a ∷ rest)) in
    let tk = subst (λ (hs : List Area). IsTaken (take_from len true len hs) ps left a b rest) (sym all) (all_taken len (own ++ areas) rest ps left a b x.pieces x.left_is r.some e tb) in
    let pieces : (take_from len true len (own ++ holes)).pieces ≡ qs = tk.pieces ∙ ap (λ (n : ℕ). ps ++ record { at = h.at; size = n; taken = left } ∷ []) (sym size) in
    let s : Space = record { holes = holes; end = l.end } in
    let list = subst (λ (hs : List Area). HasList d hs) x.all w.has.list in
    let lt : l.end < 2 ^ 64 = omega (arith, end_is, w.short) in
    let ready = in_ready len l.end ps qs t h refl w.few lt r next e in
    let fill = in_fill len l.end ps t h r next e in
    let bytes = fill_bytes len true len qs fill in
    let sizes = (all_split IsHole zs rest list.sizes).1 in
    let spare = spare_by b left a in
    let some_bytes = all_join (λ (y : Area). 0 < y.size) (areas_of qs) (spare ++ rest) bytes (all_join (λ (y : Area). 0 < y.size) spare rest (spare_bytes b left h tb) (hole_bytes rest sizes)) in
    let apart = taken_apart len (own ++ holes) qs spare rest (usable_all len l.end own holes w.begun w.has.list.sizes) w.begun.apart pieces tk.spare tk.unused some_bytes in
    let c = cross_of (areas_of qs) (spare ++ rest) apart in
    let cross = cross_right (areas_of qs) spare rest c.1 in
    let part = subst (λ (o : Option ℕ). IsPart d o rest None) (last_join areas a None) (part_split d None None zs rest list.linked).1 in
    let inside = subst (λ (n : ℕ). AreInside n (areas_of qs)) (sym w.long) (in_inside len l.end ps t h r next e) in
    record {
      is = place_by s own len qs 0 spare rest w.begun.usable w.some w.begun.some pieces tk.left_is tk.spare tk.unused ∙ ap (λ (xs : List Piece). record { pieces = xs; space = record { holes = release_all (spare ++ []) rest; end = l.end } }) (append-nil qs);
      list = list;
      apart = apart_right (areas_of qs) (spare ++ rest) apart;
      whole = c.1;
      cross = cross;
      bytes = bytes;
      named = ap (block_named (hole_in d) (Some h.at)) (sym x.next) ∙ named_first d (Some h.at) rest part;
      written = written_is row d zs rest qs list ready (aligned_join ps (last_piece left h ∷ []) r.aligned (i.place.aligned, tt)) inside c.0 cross;
      size = size;
    }

-- what stands then
put_so : (own old : List Area) (at : ℕ) (l k : ListState) (row d e : List ℕ) (holes left_over : List Area) (new : ListEnds) (qs : List Piece) (q : Placing) → IsBefore own l k row d holes new → place_of (place (record { holes = holes; end = l.end }) own (length row)).pieces ≡ Some at → new.end ≡ l.end → q ≡ record { pieces = qs; space = record { holes = left_over; end = l.end } } → place (record { holes = holes; end = l.end }) own (length row) ≡ q → new.head ≡ first_or left_over None → HasList e left_over → length e ≡ length d → AllByRecursion (λ (b : Block). block_of e b.at ≡ Some b) (Rattle.myi_dellist.specs.RowBlocks.row_blocks qs row)
    → ((p n : ℕ) → p + n ≤ length d → AllByRecursion (IsApart (record { at = p; size = n })) (areas_of qs) → AllByRecursion (IsApart (record { at = p; size = n })) holes → AllByRecursion (IsApart (record { at = p; size = n })) left_over → take n (drop p e) ≡ take n (drop p d))
    → PutsRow k (old ++ holes) (place (record { holes = holes; end = l.end }) own (length row)) row at d e
put_so own old at l k row d e holes left_over new qs q w first end_is shape is head list long blocks bytes =
    let s : Space = record { holes = holes; end = l.end } in
    let all = is ∙ shape in
    subst (λ (x : Placing). PutsRow k (old ++ holes) x row at d e) (sym all) (record {
      place_is = ap (λ (x : Placing). place_of x.pieces) (sym all) ∙ first;
      holes_are = record { head = ap (λ (x : ListState). x.head) w.is ∙ head; list = list };
      end_is = ap (λ (x : ListState). x.end) w.is ∙ end_is;
      long = long ∙ w.long;
      blocks = blocks;
      keeps = record {
        longer = omega (arith, long);
        bytes = λ p n within far.
            let one = all_split (IsApart (record { at = p; size = n })) (areas_of qs) ((old ++ holes) ++ left_over) far in
            let two = all_split (IsApart (record { at = p; size = n })) (old ++ holes) left_over one.1 in
            bytes p n within one.0 (all_split (IsApart (record { at = p; size = n })) old holes two.0).1 two.1;
      };
    })

filled_row : (own old : List Area) (at : ℕ) (l k : ListState) (row d : List ℕ) (holes : List Area) (new : ListEnds) (ps : List Piece) (t : Taken) (h : Head) (plan : RowPlan) (areas rest : List Area) → IsBefore own l k row d holes new → place_of (place (record { holes = holes; end = l.end }) own (length row)).pieces ≡ Some at → new.end ≡ l.end → IsList own l row d holes ps t h areas rest → IsEnded own l row d holes areas rest (ps ++ last_piece t.left h ∷ []) t.left h false → row_plan_in d l.head ps t.left h ≡ Ok plan → new.head ≡ head_by plan.next plan.rest → PutsRow k (old ++ holes) (place (record { holes = holes; end = l.end }) own (length row)) row at d (planned_bytes plan (ps ++ last_piece t.left h ∷ []) row d)
filled_row own old at l k row d holes new ps t h plan areas rest w first end_is x n found head =
    let qs = ps ++ last_piece t.left h ∷ [] in
    let next = first_of (Some h.at) rest in
    let plan_is = same_row (row_plan_in d l.head ps t.left h) plan (record { next = next; rest = None }) found (Rattle.myi_dellist.proofs.PlanningLemmas.row_filled d l.head ps t.left h next h.size (sym n.size) refl n.named) in
    let bytes = ap (λ (p : RowPlan). planned_bytes p qs row d) plan_is ∙ ap (row_written qs row) (next_is_prev (Some h.at) rest d) in
    subst (λ (y : List ℕ). PutsRow k (old ++ holes) (place (record { holes = holes; end = l.end }) own (length row)) row at d y) (sym bytes)
    (put_so own old at l k row d (row_written qs row (with_prev rest None None d)) holes rest new qs (record { pieces = qs; space = record { holes = rest; end = l.end } }) w first end_is refl n.is
    (head ∙ ap (λ (p : RowPlan). head_by p.next p.rest) plan_is ∙ head_is_first (Some h.at) rest)
    n.written.list n.written.long n.written.blocks
    (λ p m within far old off. n.written.bytes p m within far off))

-- ---- the row's blocks stand when what is left over is released

crossed_one : (s : Area) (rest xs : List Area) → HaveBytes xs → AreCrossed xs (s ∷ rest) → AreCrossed xs (release_one s rest)
crossed_one s rest [] some c = tt
crossed_one s rest (x ∷ xs) some c = (apart_after x s rest some.0 c.0.0 c.0.1, crossed_one s rest xs some.1 c.1)

blocks_stay : (fs : List FrameSpec) (qs : List Piece) (row : List ℕ) (hs : List Area) (y e : List ℕ) → KeepsBut hs y e → AllByRecursion IsHole hs → AreCrossed (areas_of qs) hs → AllByRecursion (λ (b : Block). block_of y b.at ≡ Some b) (blocks_as fs qs row) → AllByRecursion (λ (b : Block). block_of e b.at ≡ Some b) (blocks_as fs qs row)
blocks_stay [] qs row hs y e k sizes c all = tt
blocks_stay (f ∷ fs) [] row hs y e k sizes c all = tt
blocks_stay (f ∷ fs) (p ∷ qs) row hs y e k sizes c all = (
  others-stay hs y e p.at (written_block f p.at p.size (take p.taken row)) k (far_of p.at p.size hs sizes c.0) all.0,
  blocks_stay fs qs (drop p.taken row) hs y e k sizes c.1 all.1,
)

hole_right : (q : ℕ) (xs ys : List Area) (g : Area) → hole_at q ys ≡ Some g → (h : Area) × (hole_at q (xs ++ ys) ≡ Some h)
hole_right q [] ys g e = (g, e)
hole_right q (x ∷ xs) ys g e = by_test (x.at == q) (hole_right q xs ys g e)
  where
    by_test : (b : Bool) → ((h : Area) × (hole_at q (xs ++ ys) ≡ Some h)) → (h : Area) × ((if b then Some x else hole_at q (xs ++ ys)) ≡ Some h)
    by_test true k = (x, refl)
    by_test false k = k

-- what a row's last block leaves over, and what is on the list then
pub spare-is : (own : List Area) (l : ListState) (row d : List ℕ) (holes : List Area) (ps : List Piece) (t : Taken) (h : Head) (areas rest : List Area) (j : Option Linked) → HasHoles l holes d → IsHoleIn l.end h → 0 < t.left → IsList own l row d holes ps t h areas rest → fits t.left h.size ≡ true → nat_le (least_size t.left + 20) h.size ≡ true → IsEnded own l row d holes areas rest (ps ++ last_piece t.left h ∷ []) t.left h true → AreListedBehind holes holes d → merge_in (hole_in d) l.head (h.at + least_size t.left) (h.size - least_size t.left) ≡ Ok j → IsSpare d (record { at = h.at + least_size t.left; size = h.size - least_size t.left }) (areas ++ record { at = h.at; size = h.size } ∷ []) rest h.at (ps ++ last_piece t.left h ∷ []) j
spare-is own l row d holes ps t h areas rest j has i more x e tb n listed found =
    let len = length row in
    let left : ℕ = t.left in
    let a : Area = record { at = h.at; size = h.size } in
    let zs = areas ++ a ∷ [] in
    let qs = ps ++ last_piece left h ∷ [] in
    let s : Area = record { at = h.at + least_size left; size = h.size - least_size left } in
    let le = leb-true _ _ tb in
    let sizes = all_split IsHole zs rest n.list.sizes in
    let stop : h.at + h.size ≡ s.at + s.size = omega (arith, le) in
    let tz = all_taken len (own ++ areas) [] ps left a true x.pieces x.left_is more e tb in
    let places : (take_from len true len ((own ++ areas) ++ a ∷ [])).pieces ≡ qs = tz.pieces ∙ ap (λ (m : ℕ). ps ++ record { at = h.at; size = m; taken = left } ∷ []) (sym n.size) in
    let P : Area → Type 0 = λ b. hole_at (b.at + b.size) holes ≡ None → hole_in d (b.at + b.size) ≡ None in
    let here : P a = (all_split P areas (a ∷ []) (all_split P zs rest (subst (λ (hs : List Area). AllByRecursion P hs) x.all listed)).0).1.0 in
    record {
      list = n.list;
      last_is = last_join areas a None;
      away = none_at a rest (omega (arith, i.place.least)) sizes.1 (cross_last areas a rest (cross_of zs rest n.list.apart).1);
      free = none_taken qs rest n.bytes (hole_bytes rest sizes.1) n.cross;
      taken = λ g m.
          let found_there = hole_right (s.at + s.size) own zs g m in
          ap (is_taken (s.at + s.size)) (sym places) ∙ taken_places len true len ((own ++ areas) ++ a ∷ []) (s.at + s.size) found_there.0 tz.unused (ap (hole_at (s.at + s.size)) (append_assoc own areas (a ∷ [])) ∙ found_there.1);
      behind = λ none. ap (hole_in d) (sym stop) ∙ here (ap (λ (q : ℕ). hole_at q holes) stop ∙ ap (hole_at (s.at + s.size)) x.all ∙ none);
      found = ap (λ (o : Option ℕ). merge_in (hole_in d) o s.at s.size) (sym (has.head ∙ ap (λ (hs : List Area). first_or hs None) x.all)) ∙ found;
    }

cut_row : (own old : List Area) (at : ℕ) (l k : ListState) (row d : List ℕ) (holes : List Area) (new : ListEnds) (ps : List Piece) (t : Taken) (h : Head) (plan : RowPlan) (areas rest : List Area) → IsBefore own l k row d holes new → place_of (place (record { holes = holes; end = l.end }) own (length row)).pieces ≡ Some at → new.end ≡ l.end → IsHoleIn l.end h → 0 < t.left → IsList own l row d holes ps t h areas rest → fits t.left h.size ≡ true → nat_le (least_size t.left + 20) h.size ≡ true → IsEnded own l row d holes areas rest (ps ++ last_piece t.left h ∷ []) t.left h true → AreListedBehind holes holes d → row_plan_in d l.head ps t.left h ≡ Ok plan → new.head ≡ head_by plan.next plan.rest → PutsRow k (old ++ holes) (place (record { holes = holes; end = l.end }) own (length row)) row at d (planned_bytes plan (ps ++ last_piece t.left h ∷ []) row d)
cut_row own old at l k row d holes new ps t h plan areas rest w first end_is i more x e tb n listed found head =
    let len = length row in
    let left : ℕ = t.left in
    let a : Area = record { at = h.at; size = h.size } in
    let zs = areas ++ a ∷ [] in
    let qs = ps ++ last_piece left h ∷ [] in
    let next = first_of (Some h.at) rest in
    let s : Area = record { at = h.at + least_size left; size = h.size - least_size left } in
    let le = leb-true _ _ tb in
    let least = least-sized left in
    let less : (least_size left == h.size) ≡ false = Rattle.myi_dellist.proofs.PlanningLemmas.not_same (least_size left) h.size (λ same. omega (arith, le, same)) in
    let cut = cut_off d l.head ps left h next plan n.size less n.named found in
    let y = row_written qs row (with_prev rest None None d) in
    let stop : h.at + h.size ≡ s.at + s.size = omega (arith, le) in
    let spare = spare-is own l row d holes ps t h areas rest cut.joined w.has i more x e tb n listed cut.found in
    let is_hole : IsHole s = record { aligned = omega (arith, i.place.aligned, least.multiple); multiple = omega (arith, i.place.multiple, least.multiple, le); least = omega (arith, le); most = omega (arith, i.most, i.place.multiple, least.multiple) } in
    let inside : s.at + s.size ≤ length y = omega (arith, stop, i.place.inside, n.written.long, w.long) in
    let stands = release-one-stands y s rest is_hole inside n.apart.0 n.written.list in
    let bytes : planned_bytes plan qs row d ≡ release_one_bytes s rest y =
    ap (λ (p : RowPlan). planned_bytes p qs row d) cut.plan_is
    ∙ ap (λ (z : List ℕ). plan_bytes (rest_plan qs h.at next cut.joined) s.at s.size (row_written qs row z)) (next_is_prev (Some h.at) rest d)
    ∙ rest_released d s zs rest h.at qs cut.joined y spare in
    let most : s.size ≤ most_size = is_hole.most in
    let shape = ap (λ (hs : List Area). record { pieces = qs; space = record { holes = hs; end = l.end } }) (short_release s rest most) in
    subst (λ (z : List ℕ). PutsRow k (old ++ holes) (place (record { holes = holes; end = l.end }) own len) row at d z) (sym bytes)
    (put_so own old at l k row d (release_one_bytes s rest y) holes (release_one s rest) new qs (record { pieces = qs; space = record { holes = release s rest; end = l.end } }) w first end_is shape n.is
    (head ∙ ap (λ (p : RowPlan). head_by p.next p.rest) cut.plan_is ∙ sym (first_one s rest))
    stands.list (stands.keeps.long ∙ n.written.long)
    (blocks_stay (specs_of len qs) qs row (release_one s rest) y (release_one_bytes s rest y) stands.keeps stands.list.sizes (crossed_one s rest (areas_of qs) n.bytes n.whole) n.written.blocks)
    (λ p m within far old off. stands.keeps.bytes p m (omega (arith, within, n.written.long)) (far_of p m (release_one s rest) stands.list.sizes off) ∙ n.written.bytes p m within far (all_split (IsApart (record { at = p; size = m })) zs rest (subst (λ (hs : List Area). AllByRecursion (IsApart (record { at = p; size = m })) hs) x.all old)).1))

-- ---- the whole

in_is_row : (own old : List Area) (at : ℕ) (l k : ListState) (row d : List ℕ) (holes : List Area) (new : ListEnds) (ps : List Piece) (t : Taken) (h : Head) (plan : RowPlan) → IsBefore own l k row d holes new → place_of (place (record { holes = holes; end = l.end }) own (length row)).pieces ≡ Some at → new.end ≡ l.end → IsRun l.end (length row) ps t → TakesFull own d l.head (length row) ps t → t.next ≡ Some h → fits t.left h.size ≡ true → AreListedBehind holes holes d → row_plan_in d l.head ps t.left h ≡ Ok plan → new.head ≡ head_by plan.next plan.rest → PutsRow k (old ++ holes) (place (record { holes = holes; end = l.end }) own (length row)) row at d (planned_bytes plan (ps ++ last_piece t.left h ∷ []) row d)
in_is_row own old at l k row d holes new ps t h plan w first end_is r u next e listed found head =
    let x = list_of own l row d holes ps t h w.has u next in
    by_test x.0 x.1 (nat_le (least_size t.left + 20) h.size) refl
  where
    by_test : (rest : List Area) → IsList own l row d holes ps t h u.areas rest → (b : Bool) → nat_le (least_size t.left + 20) h.size ≡ b → PutsRow k (old ++ holes) (place (record { holes = holes; end = l.end }) own (length row)) row at d (planned_bytes plan (ps ++ last_piece t.left h ∷ []) row d)
    by_test rest x true tb = cut_row own old at l k row d holes new ps t h plan u.areas rest w first end_is (some_is (IsHoleIn l.end) t.next h next r.next) r.some x e tb (ended own l k row d holes new ps t h u.areas rest true w end_is r next e x tb) listed found head
    by_test rest x false tb = filled_row own old at l k row d holes new ps t h plan u.areas rest w first end_is x (ended own l k row d holes new ps t h u.areas rest false w end_is r next e x tb) found head

pub puts_row : (own old : List Area) (at : ℕ) (l k : ListState) (row : List ℕ) (m n : Holding) (holes : List Area) → IsBefore own l k row (bytes_of l.name m) holes (ends_of k) → place_of (place (record { holes = holes; end = l.end }) own (length row)).pieces ≡ Some at → AreListedBehind holes holes (bytes_of l.name m) → PutsIn own l.name (ends_of l) row (ends_of k) m n → PutsRow k (old ++ holes) (place (record { holes = holes; end = l.end }) own (length row)) row at (bytes_of l.name m) (bytes_of l.name n)
puts_row own old at l k row m n holes w first listed p = by_ends p.ends
  where
    d : List ℕ
    d = bytes_of l.name m

    by_ends : EndsBehind l.end p.ps p.t row (ends_of k) d (bytes_of l.name n) ⊎ EndsIn l.head l.end p.ps p.t row (ends_of k) d (bytes_of l.name n) → PutsRow k (old ++ holes) (place (record { holes = holes; end = l.end }) own (length row)) row at d (bytes_of l.name n)
    by_ends (inl b) = subst (λ (z : List ℕ). PutsRow k (old ++ holes) (place (record { holes = holes; end = l.end }) own (length row)) row at d z) (sym b.bytes) (behind_is_row own old at l k row d holes (ends_of k) p.ps p.t w first p.run p.takes b.none b.head_is b.end_is)
    by_ends (inr b) = subst (λ (z : List ℕ). PutsRow k (old ++ holes) (place (record { holes = holes; end = l.end }) own (length row)) row at d z) (sym b.bytes) (in_is_row own old at l k row d holes (ends_of k) p.ps p.t b.hole b.plan w first b.end_is p.run p.takes b.next_is b.fits_in listed b.found b.head_is)

puts_alone : (l k : ListState) (row : List ℕ) (m n : Holding) → k ≡ record l { head = k.head; end = k.end } → 0 < length row → length row < 2 ^ 32 → k.end < 2 ^ 64 → IsLong l m → PutsIn [] l.name (ends_of l) row (ends_of k) m n → PutsNew l k row (next_by l.head l.end).0 m n
puts_alone l k row m n is some few short long p holes aligned has listed =
    puts_row [] [] (next_by l.head l.end).0 l k row m n holes (record { is = is; some = some; few = few; long = long; aligned = aligned; short = short; has = has; begun = none_begun (length row) l.end holes some has.list.apart })
    (new_place (record { holes = holes; end = l.end }) (length row) l.head some has.head) listed p

-- what stands in the file, in the words of lists
pub puts_new : (old now : Option Holding) (l k : ListState) (row : List ℕ) (at : ℕ) → at ≡ (next_by l.head l.end).0 → k ≡ record l { head = k.head; end = k.end } → 0 < length row → length row < 2 ^ 32 → k.end < 2 ^ 64 → IfTold old (IsLong l) → Told old now (Puts l.name (ends_of l) row (ends_of k)) → Told old now (PutsNew l k row at)
puts_new old now l k row at place is some few short long t =
    told_more old now (Puts l.name (ends_of l) row (ends_of k)) (PutsNew l k row at) t
    (λ m n held p. subst (λ (q : ℕ). PutsNew l k row q m n) (sym place) (puts_alone l k row m n is some few short (long m held) (p.1 (long m held))))
