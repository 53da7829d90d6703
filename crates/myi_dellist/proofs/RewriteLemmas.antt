-- A row that is put in the place of another: what the calls need, and what stands in the file then.
use Rattle.std.proofs.Common.{◌≡◌, ℕ, ◌+◌, ◌-◌, ◌%◌, ◌^◌, ◌<◌, ◌≤◌, ◌⊎◌, inl, inr, Bool, true, false, List, [], ◌∷◌, ◌++◌, length, Option, Some, None, Result, Ok, Err, refl, sym, ap, subst, ◌∙◌, arith}
use Rattle.std.specs.Prelude.{nat_lt, nat_le, if◌then◌else◌, IfErr}
use Rattle.std.specs.List.{AllByRecursion, flat_map}
use Rattle.std.proofs.lemmas.Bool.{leb-true, leb-false}
use Rattle.myi_base.specs.Holding.{Holding, Told, IfTold, bytes_of}
use Rattle.myi_base.proofs.CallerLemmas.{told_more}
use Rattle.myi_frames.specs.Block.{Block}
use Rattle.myi_frames.specs.Sizes.{least_size}
use Rattle.myi_dellist.specs.declared.fault.FreeFault.{FreeFault}
use Rattle.myi_dellist.specs.declared.fault.FreeFault.TheVariants as fault
use Rattle.myi_dellist.specs.declared.pieces.Piece.{Piece}
use Rattle.myi_dellist.specs.declared.taking.ListEnds.{ListEnds}
use Rattle.myi_dellist.specs.Areas.{Area, AreApart, AreInside, HaveBytes}
use Rattle.myi_dellist.specs.Releasing.{most_size, front_part, back_part, IsHole, IsFreeable}
use Rattle.myi_dellist.specs.Placing.{areas_of, room, fits, Taking, take_last, take_one, take_from, own_parts, own_areas, update, IsUsable}
use Rattle.myi_dellist.specs.RowBlocks.{AreLinked}
use Rattle.myi_dellist.specs.Freeing.{hole_in, IfDamaged}
use Rattle.myi_dellist.specs.FreeList.{ListState, HasHoles, IsLong}
use Rattle.myi_dellist.specs.Taking.{IsRun, HasTaken}
use Rattle.myi_dellist.specs.Rows.{AreListedBehind, AreBelow, PutsRow, most_end}
use Rattle.myi_dellist.specs.Putting.{PutsBy, BadBy, LongBy, ends_of}
use Rattle.myi_dellist.specs.Several.{heads_in}
use Rattle.myi_dellist.specs.Chains.{IsRowBlock, IsRowIn, areas_in, StandsIn}
use Rattle.myi_dellist.specs.Freed.{IsPart}
use Rattle.myi_dellist.specs.Replacing.{own_taking, own_released, head_after, own_bytes, EndsInOwn, FillsOwn, Rewrites, RewritesRow, OwnLong, RewriteFindsBad, PutsAgain}
use Rattle.myi_dellist.proofs.AreaLemmas.{below-append, once-apart}
use Rattle.myi_dellist.proofs.LinkLemmas.{all_join, all_split}
use Rattle.myi_dellist.proofs.StandLemmas.{apart-once}
use Rattle.myi_dellist.proofs.FirstLemmas.{hole_bytes, below-own_areas, update-place}
use Rattle.myi_dellist.proofs.UpdateLemmas.{own-usable}
use Rattle.myi_dellist.proofs.FillLemmas.{IsDone, IsOpen, take_runs, unused_taken, usable_freeable}
use Rattle.myi_dellist.proofs.AtEndLemmas.{IsReady, fill_ready}
use Rattle.myi_dellist.proofs.FreeLemmas.{IsOf, moved}
use Rattle.myi_dellist.proofs.OwnLemmas.{all_holes, left-of, clear-of}
use Rattle.myi_dellist.proofs.AgainLemmas.{own-row}
use Rattle.myi_dellist.proofs.PutRowLemmas.{IsBegun, puts_row, long-by, apart_right}
use Rattle.myi_dellist.proofs.SoundLemmas.{meets_none, plans_none}
use Rattle.myi_dellist.proofs.SeveralLemmas.{several-found}
use Rattle.myi_dellist.proofs.ChainLemmas.{standing-read, standing-sound, standing-free}
use Rattle.myi_dellist.proofs.FreedRowLemmas.{parts_inside}

-- ---- blocks of a row that are read

blocks_free : (end : ℕ) (ps : List Piece) → AllByRecursion (IsRowBlock end) ps → AllByRecursion IsFreeable (areas_of ps) × AreInside end (areas_of ps)
blocks_free end [] all = (tt, tt)
blocks_free end (p ∷ ps) all =
    let more = blocks_free end ps all.1 in
    let b = all.0 in
    ((record { aligned = b.place.aligned; multiple = b.place.multiple; least = b.place.least; most = b.most }, more.0), (b.place.inside, more.1))

one_inside : (end : ℕ) (a : Area) (rest : List Area) → a.at + a.size ≤ end → AreInside end rest → AreInside end (own_parts a ++ rest)
one_inside end a rest le more = by_test (nat_le a.size most_size) refl
  where
    by_test : (b : Bool) → nat_le a.size most_size ≡ b → AreInside end ((if b then a ∷ [] else front_part a ∷ back_part a ∷ []) ++ rest)
    by_test true t = (le, more)
    by_test false t = let long = leb-false _ _ t in (omega (arith, long, le), (omega (arith, long, le), more))

own_inside : (end len : ℕ) (own : List Area) → AreInside end own → AreInside end (own_areas len own)
own_inside end len own inside = by_test (nat_lt len (2 ^ 24))
  where
    all : (xs : List Area) → AreInside end xs → AreInside end (flat_map own_parts xs)
    all [] i = tt
    all (x ∷ xs) i = one_inside end x (flat_map own_parts xs) i.0 (all xs i.1)

    by_test : (b : Bool) → AreInside end (if b then own else flat_map own_parts own)
    by_test true = inside
    by_test false = all own inside

below_of : (end : ℕ) (ps : List Piece) → end < 2 ^ 64 → AreInside end (areas_of ps) → AreBelow (2 ^ 64) ps
below_of end [] lt inside = tt
below_of end (p ∷ ps) lt inside = (omega (arith, inside.0, lt), below_of end ps lt inside.1)

-- what is known of the blocks that a row of so many bytes can take
pub record AreOwn (end len : ℕ) (areas : List Piece) : Type 0 where
  pub usable : AllByRecursion (IsUsable len) (areas_of areas)
  pub inside : AreInside end (areas_of areas)
  pub below : AreBelow (2 ^ 64) areas

pub own-ready : (end len : ℕ) (own areas : List Piece) → end < 2 ^ 64 → AllByRecursion (IsRowBlock end) own → areas_of areas ≡ own_areas len (areas_of own) → AreOwn end len areas
own-ready end len own areas lt all is =
    let f = blocks_free end own all in
    let inside = subst (λ (xs : List Area). AreInside end xs) (sym is) (own_inside end len (areas_of own) f.1) in
    record { usable = subst (λ (xs : List Area). AllByRecursion (IsUsable len) xs) (sym is) (own-usable len (areas_of own) f.0); inside = inside; below = below_of end areas lt inside }

-- ---- what is taken of them

-- it lies where they lie
record IsKept (end : ℕ) (t : Taking) : Type 0 where
  pieces : AreInside end (areas_of t.pieces)
  aligned : AllByRecursion (λ (p : Piece). p.at % 4 ≡ 0) t.pieces
  left_over : AreInside end (t.spare ++ t.unused)

kept_last : (end left : ℕ) (a : Area) (more : List Area) (b : Bool) → nat_le (least_size left + 20) a.size ≡ b → a.at % 4 ≡ 0 → a.at + a.size ≤ end → AreInside end more → IsKept end (take_last b left a more)
kept_last end left a more true t al le inside = let k = leb-true _ _ t in record { pieces = (omega (arith, k, le), tt); aligned = (al, tt); left_over = (omega (arith, k, le), inside) }
kept_last end left a more false t al le inside = record { pieces = (le, tt); aligned = (al, tt); left_over = inside }

kept : (end len : ℕ) (first : Bool) (left : ℕ) (from : List Area) → AllByRecursion (IsUsable len) from → AreInside end from → IsKept end (take_from len first left from)
kept end len first left [] u inside = record { pieces = tt; aligned = tt; left_over = tt }
kept end len first left (a ∷ from) u inside = by_fits (fits left a.size) (kept end len false (left - room len first a.size) from u.1 inside.1)
  where
    by_fits : (b : Bool) → IsKept end (take_from len false (left - room len first a.size) from) → IsKept end (take_one len first left a from b (λ n. take_from len false n from))
    by_fits true k = kept_last end left a from (nat_le (least_size left + 20) a.size) refl u.0.aligned inside.0 inside.1
    by_fits false k = record { pieces = (inside.0, k.pieces); aligned = (u.0.aligned, k.aligned); left_over = k.left_over }

runs : (len : ℕ) (areas : List Area) → 0 < len → AllByRecursion (IsUsable len) areas → IsDone len true len (take_from len true len areas) ⊎ IsOpen len true len (take_from len true len areas)
runs len areas some u = take_runs len true len areas some (omega arith) u

-- the row goes on behind them
pub own-run : (end len left : ℕ) (areas ps : List Piece) → 0 < len → 0 < left → AreOwn end len areas → HasTaken (areas_of areas) len ps left → IsRun end len ps (record { left = left; last = None; next = None })
own-run end len left areas ps whole some o h = by_run (runs len (areas_of areas) whole o.usable)
  where
    by_run : IsDone len true len (take_from len true len (areas_of areas)) ⊎ IsOpen len true len (take_from len true len (areas_of areas)) → IsRun end len ps (record { left = left; last = None; next = None })
    by_run (inl d) = absurd (omega (arith, d.none, h.1, some))
    by_run (inr r) =
        let k = kept end len true len (areas_of areas) o.usable o.inside in
        subst (λ (n : ℕ). IsRun end len ps (record { left = n; last = None; next = None })) h.1 (subst (λ (xs : List Piece). IsRun end len xs (record { left = (take_from len true len (areas_of areas)).left; last = None; next = None })) h.0 (record { run = r.run; some = r.some; less = r.less; inside = k.pieces; aligned = k.aligned; next = tt }))

-- the row ends in one of them
pub own-written : (end len : ℕ) (areas ps : List Piece) → 0 < len → len < 2 ^ 32 → end < 2 ^ 64 → AreOwn end len areas → HasTaken (areas_of areas) len ps 0 → IsReady len ps
own-written end len areas ps whole few lt o h = by_run (runs len (areas_of areas) whole o.usable)
  where
    by_run : IsDone len true len (take_from len true len (areas_of areas)) ⊎ IsOpen len true len (take_from len true len (areas_of areas)) → IsReady len ps
    by_run (inr r) = absurd (omega (arith, r.some, h.1))
    by_run (inl d) =
        let k = kept end len true len (areas_of areas) o.usable o.inside in
        subst (λ (xs : List Piece). IsReady len xs) h.0 (fill_ready len end (take_from len true len (areas_of areas)).pieces few lt d.fill k.pieces)

are_parts : (end : ℕ) (xs : List Area) → AllByRecursion IsHole xs → AreInside end xs → AllByRecursion (IsPart end) xs
are_parts end [] h i = tt
are_parts end (x ∷ xs) h i = (record { place = record { aligned = h.0.aligned; multiple = h.0.multiple; least = h.0.least; inside = i.0 }; most = h.0.most }, are_parts end xs h.1 i.1)

pub own-parts : (end len : ℕ) (areas : List Piece) → 0 < len → AreOwn end len areas → AllByRecursion (IsPart end) (own_released (take_from len true len (areas_of areas)))
own-parts end len areas whole o =
    let from = areas_of areas in
    let t = take_from len true len from in
    let free = free_of (runs len from whole o.usable) in
    let k = kept end len true len from o.usable o.inside in
    are_parts end (own_released t) (all_holes (t.spare ++ t.unused) free) (parts_inside end (t.spare ++ t.unused) free k.left_over)
  where
    free_of : IsDone len true len (take_from len true len (areas_of areas)) ⊎ IsOpen len true len (take_from len true len (areas_of areas)) → AllByRecursion IsFreeable ((take_from len true len (areas_of areas)).spare ++ (take_from len true len (areas_of areas)).unused)
    free_of (inl d) =
        let t = take_from len true len (areas_of areas) in
        all_join IsFreeable t.spare t.unused d.spare (unused_taken IsFreeable len true len (areas_of areas) (usable_freeable len (areas_of areas) o.usable))
    free_of (inr r) = subst (λ (xs : List Area). AllByRecursion IsFreeable (xs ++ (take_from len true len (areas_of areas)).unused)) (sym r.spare) (subst (λ (xs : List Area). AllByRecursion IsFreeable xs) (sym r.unused) tt)

-- ---- what stands in the file then

own_apart : (len : ℕ) (own holes : List Area) → AllByRecursion IsFreeable own → AllByRecursion IsHole holes → AreApart (own ++ holes) → AreApart (own_areas len own ++ holes)
own_apart len own holes f hs apart =
    let areas = own_areas len own in
    once-apart (areas ++ holes) (all_join (λ (a : Area). 0 < a.size) areas holes (usable_bytes areas (own-usable len own f)) (hole_bytes holes hs))
    (λ n. omega (arith, apart-once (own ++ holes) apart n, below-own_areas n len own, below-own_areas (n + 1) len own, below-append n areas holes, below-append (n + 1) areas holes, below-append n own holes, below-append (n + 1) own holes))
  where
    usable_bytes : (xs : List Area) → AllByRecursion (IsUsable len) xs → HaveBytes xs
    usable_bytes [] u = tt
    usable_bytes (x ∷ xs) u = (omega (arith, u.0.least), usable_bytes xs u.1)

state_is : (l k : ListState) (head : Option ℕ) → k ≡ record l { head = k.head; end = k.end } → k.head ≡ head → k.end ≡ l.end → k ≡ record l { head = head }
state_is l k head is h e = is ∙ ap (λ (n : ℕ). record l { head = k.head; end = n }) e ∙ ap (λ (o : Option ℕ). record l { head = o }) h

same_place : (p q : ℕ) → Some p ≡ Some q → p ≡ q
same_place p q e = cc

pub row-again : (l k : ListState) (at : ℕ) (row : List ℕ) (m n : Holding) → k ≡ record l { head = k.head; end = k.end } → 0 < length row → length row < 2 ^ 32 → k.end < 2 ^ 64 → IsLong l m → Rewrites l k at row m n → PutsAgain l k at row m n
row-again l k at row m n is some few short long w old [] holes aligned has stands listed = absurd stands.row_is.linked
row-again l k at row m n is some few short long w old (b ∷ bs) holes aligned has stands listed = by_ends w.ends
  where
    d : List ℕ
    d = bytes_of l.name m

    own : List Area
    own = areas_in (b ∷ bs)

    T : List ℕ → Type 0
    T e = PutsRow k (areas_in (b ∷ bs) ++ holes) (update (record { holes = holes; end = l.end }) (areas_in (b ∷ bs)) (length row)) row at (bytes_of l.name m) e

    same : areas_of w.own ≡ areas_in (b ∷ bs)
    same = standing-read (bytes_of l.name m) at old (b ∷ bs) holes w.own stands w.row_is

    free : AllByRecursion IsFreeable (areas_in (b ∷ bs)) × AreInside l.end (areas_in (b ∷ bs))
    free = let f = standing-free (bytes_of l.name m) (b ∷ bs) stands.read stands.short in (f.0, subst (λ (x : ℕ). AreInside x (areas_in (b ∷ bs))) long f.1)

    place_at : (xs : List Block) → AreLinked (Some at) (b ∷ xs) → b.at ≡ at
    place_at [] h = same_place b.at at (sym h.0)
    place_at (x ∷ xs) h = same_place b.at at (sym h.0)

    here : b.at ≡ at
    here = place_at bs stands.row_is.linked

    behind : AreListedBehind (areas_in (b ∷ bs)) holes (bytes_of l.name m) × AreListedBehind holes holes (bytes_of l.name m)
    behind = all_split _ (areas_in (b ∷ bs)) holes listed

    by_ends : EndsInOwn l k w.own row m n ⊎ FillsOwn l k w.own row m n → T (bytes_of l.name n)
    by_ends (inl e) =
        let none = ap (λ (xs : List Area). (own_taking (length row) xs).left) (sym same) ∙ e.none in
        let found = ap (λ (xs : List Area). heads_in (hole_in d) l.head (own_released (own_taking (length row) xs))) (sym same) ∙ e.found in
        let head = e.head ∙ ap (λ (xs : List Area). head_after l.head (own_released (own_taking (length row) xs))) same in
        let bytes = e.becomes.here ∙ ap (λ (xs : List Area). own_bytes row xs e.heads d) same in
        let puts = own-row l k row d (record { at = b.at; size = b.size }) (areas_in bs) holes e.heads (record {
          some = some;
          few = few;
          long = long;
          aligned = aligned;
          short = omega (arith, e.end, short);
          has = has;
          free = free.0;
          inside = free.1;
          apart = stands.apart;
          listed = behind.0;
          none = none;
          found = found;
          state = state_is l k (head_after l.head (own_released (own_taking (length row) own))) is head e.end;
        }) in
        subst T (sym bytes) (subst (λ (q : ℕ). PutsRow k (own ++ holes) (update (record { holes = holes; end = l.end }) own (length row)) row q d (own_bytes row own e.heads d)) here puts)
    by_ends (inr f) =
        let len = length row in
        let areas = own_areas len own in
        let more = ap (λ (xs : List Area). (own_taking len xs).left) same in
        let first = update-place (record { holes = holes; end = l.end }) (record { at = b.at; size = b.size }) (areas_in bs) len ∙ ap (λ (q : ℕ). Some q) here in
        let puts = (subst (λ (xs : List Area). PutsBy (own_areas len xs) l.name (ends_of l) row (ends_of k) m n) same f.puts).1 long in
        puts_row areas own at l k row m n holes (record {
          is = is;
          some = some;
          few = few;
          long = long;
          aligned = aligned;
          short = short;
          has = has;
          begun = record { usable = own-usable len own free.0; inside = own_inside l.end len own free.1; apart = own_apart len own holes free.0 has.list.sizes stands.apart; some = omega (arith, f.some, more) };
        }) first behind.1 puts

pub told-again : (old now : Option Holding) (l k : ListState) (at : ℕ) (row : List ℕ) → k ≡ record l { head = k.head; end = k.end } → 0 < length row → length row < 2 ^ 32 → k.end < 2 ^ 64 → IfTold old (IsLong l) → Told old now (RewritesRow l k at row) → Told old now (PutsAgain l k at row)
told-again old now l k at row is some few short long t = told_more old now (RewritesRow l k at row) (PutsAgain l k at row) t (λ m n held w. row-again l k at row m n is some few short (long m held) (w (long m held)))

-- ---- as told

pub told-fills : (old mid now : Option Holding) (l k : ListState) (name again : List ℕ) (list : ListEnds) (own areas ps : List Piece) (at left : ℕ) (row : List ℕ) → IsOf l name list.end list.head → again ≡ name → mid ≡ old → 0 < left → HasTaken (areas_of areas) (length row) ps left → areas_of areas ≡ own_areas (length row) (areas_of own) → IfTold old (λ m. length (bytes_of name m) ≡ list.end → IsRowIn (bytes_of name m) at own)
    → Told mid now (λ m n. (o : List Area) → HasTaken o (length row) ps left → PutsBy o again list row (ends_of k) m n) → Told old now (RewritesRow l k at row)
told-fills old mid now l k name again list own areas ps at left row o also e some h is read t =
    let len = length row in
    let P : List ℕ → ℕ → Option ℕ → Holding → Holding → Type 0 = λ a b c m n. (x : List Area) → HasTaken x len ps left → PutsBy x a (record { head = c; end = b }) row (ends_of k) m n in
    let puts : Told old now (P l.name l.end l.head) = subst (λ (x : Option Holding). Told x now (P l.name l.end l.head)) e (moved (λ a b c. Told mid now (P a b c)) l name list.end list.head o (subst (λ (x : List ℕ). Told mid now (P x list.end list.head)) also t)) in
    let rows = moved (λ a b c. IfTold old (λ m. length (bytes_of a m) ≡ b → IsRowIn (bytes_of a m) at own)) l name list.end list.head o read in
    told_more old now (P l.name l.end l.head) (RewritesRow l k at row) puts
    (λ m n held p long. record {
      own = own;
      row_is = rows m held long;
      ends = inr (record {
        some = omega (arith, some, h.1, ap (λ (xs : List Area). (take_from len true len xs).left) is);
        puts = subst (λ (xs : List Area). PutsBy xs l.name (ends_of l) row (ends_of k) m n) is (p (areas_of areas) h);
      });
    })

pub told-bad : {T : Type 0} (r : Result T FreeFault) (f : FreeFault) (old mid : Option Holding) (l : ListState) (name again : List ℕ) (list : ListEnds) (own areas ps : List Piece) (at len left : ℕ) → r ≡ Err f → IsOf l name list.end list.head → again ≡ name → mid ≡ old → IfTold old (IsLong l) → 0 < left → HasTaken (areas_of areas) len ps left → areas_of areas ≡ own_areas len (areas_of own) → IfTold old (λ m. length (bytes_of name m) ≡ list.end → IsRowIn (bytes_of name m) at own)
    → IfDamaged f (λ p. IfTold mid (λ m. length (bytes_of again m) ≡ list.end → (o : List Area) → HasTaken o len ps left → BadBy o (bytes_of again m) list.head len p)) → IfErr r (λ f. IfDamaged f (λ p. IfTold old (RewriteFindsBad l at len p)))
told-bad {T = T} r f old mid l name again list own areas ps at len left e o also same long some h is read bad = subst (λ (x : Result T FreeFault). IfErr x (λ f. IfDamaged f (λ p. IfTold old (RewriteFindsBad l at len p)))) (sym e) (by_fault f bad)
  where
    rows : IfTold old (λ m. length (bytes_of l.name m) ≡ l.end → IsRowIn (bytes_of l.name m) at own)
    rows = moved (λ a b c. IfTold old (λ m. length (bytes_of a m) ≡ b → IsRowIn (bytes_of a m) at own)) l name list.end list.head o read

    by_fault : (f : FreeFault) → IfDamaged f (λ p. IfTold mid (λ m. length (bytes_of again m) ≡ list.end → (o : List Area) → HasTaken o len ps left → BadBy o (bytes_of again m) list.head len p)) → IfDamaged f (λ p. IfTold old (RewriteFindsBad l at len p))
    by_fault fault.Full b = tt
    by_fault fault.File b = tt
    by_fault fault.Memory b = tt
    by_fault (fault.Damaged p) b = λ m held.
        let t = moved (λ a e c. IfTold mid (λ m. length (bytes_of a m) ≡ e → (o : List Area) → HasTaken o len ps left → BadBy o (bytes_of a m) c len p)) l name list.end list.head o (subst (λ (x : List ℕ). IfTold mid (λ m. length (bytes_of x m) ≡ list.end → (y : List Area) → HasTaken y len ps left → BadBy y (bytes_of x m) list.head len p)) also b) in
        inr (record {
          own = own;
          row_is = rows m held (long m held);
          bad = inr (omega (arith, some, h.1, ap (λ (xs : List Area). (take_from len true len xs).left) is), subst (λ (xs : List Area). BadBy xs (bytes_of l.name m) l.head len p) is (t m (same ∙ held) (long m held) (areas_of areas) h));
        })

-- ---- a row that stands is never found damaged

not_both : {T : Type 0} (r : Result T ℕ) (x : T) (p : ℕ) → r ≡ Ok x → r ≡ Err p → ⊥
not_both r x p e f = let two : Ok x ≡ Err p = sym e ∙ f in absurd cc

pub stands_inside : (l : ListState) (m : Holding) (at : ℕ) (old : List ℕ) (bs : List Block) (holes : List Area) → IsLong l m → StandsIn (bytes_of l.name m) at old bs holes → AllByRecursion IsFreeable (areas_in bs) × AreInside l.end (areas_in bs)
stands_inside l m at old bs holes long w =
    let f = standing-free (bytes_of l.name m) bs w.read w.short in
    (f.0, subst (λ (x : ℕ). AreInside x (areas_in bs)) long f.1)

pub begun_by : (l : ListState) (len : ℕ) (own holes : List Area) → AllByRecursion IsFreeable own × AreInside l.end own → AllByRecursion IsHole holes → AreApart (own ++ holes) → 0 < (own_taking len own).left → IsBegun len l.end (own_areas len own) holes
begun_by l len own holes f hs apart some = record { usable = own-usable len own f.0; inside = own_inside l.end len own f.1; apart = own_apart len own holes f.0 hs apart; some = some }

pub rewrite-sound : (l : ListState) (at len p : ℕ) (m : Holding) (old : List ℕ) (bs : List Block) (holes : List Area) → 0 < len → IsLong l m → HasHoles l holes (bytes_of l.name m) → StandsIn (bytes_of l.name m) at old bs holes → AreListedBehind (areas_in bs ++ holes) holes (bytes_of l.name m) → RewriteFindsBad l at len p m → ⊥
rewrite-sound l at len p m old bs holes some long has stands listed (inl b) = standing-sound (bytes_of l.name m) at p old bs holes stands b
rewrite-sound l at len p m old bs holes some long has stands listed (inr b) = by_bad b.bad
  where
    d : List ℕ
    d = bytes_of l.name m

    own : List Area
    own = areas_in bs

    same : areas_of b.own ≡ areas_in bs
    same = standing-read (bytes_of l.name m) at old bs holes b.own stands b.row_is

    behind : AreListedBehind (areas_in bs) holes (bytes_of l.name m) × AreListedBehind holes holes (bytes_of l.name m)
    behind = all_split _ (areas_in bs) holes listed

    by_list : BadBy (own_areas len (areas_of b.own)) (bytes_of l.name m) l.head len p → ⊥
    by_list (inl k) = meets_none (own_areas len (areas_of b.own)) d l.head holes len p has.head has.list k
    by_list (inr k) = plans_none (own_areas len (areas_of b.own)) d l.head holes len p has.head has.list behind.1 k

    by_bad : (((own_taking len (areas_of b.own)).left ≡ 0) × (heads_in (hole_in (bytes_of l.name m)) l.head (own_released (own_taking len (areas_of b.own))) ≡ Err p)) ⊎ ((0 < (own_taking len (areas_of b.own)).left) × BadBy (own_areas len (areas_of b.own)) (bytes_of l.name m) l.head len p) → ⊥
    by_bad (inl k) =
        let t = own_taking len own in
        let areas = own_released t in
        let f = stands_inside l m at old bs holes long stands in
        let none = ap (λ (xs : List Area). (own_taking len xs).left) (sym same) ∙ k.0 in
        let lf = left-of len l.end own holes some (record { free = f.0; inside = f.1; apart = stands.apart; sizes = has.list.sizes }) none in
        let found = several-found d areas holes has.list (record { sizes = lf.sizes; apart = apart_right (areas_of t.pieces) (areas ++ holes) lf.apart; clear = clear-of d holes own len f.0 behind.0 }) in
        let bad = ap (λ (o : Option ℕ). heads_in (hole_in d) o areas) (sym has.head) ∙ ap (λ (xs : List Area). heads_in (hole_in d) l.head (own_released (own_taking len xs))) (sym same) ∙ k.1 in
        not_both (heads_in (hole_in d) (Rattle.myi_dellist.specs.Standing.first_or holes None) areas) found.heads p found.found bad
    by_bad (inr k) = by_list k.1

-- where the file would end is where the definition on lists says
pub rewrite-long : (l : ListState) (at len : ℕ) (m : Holding) (old : List ℕ) (bs : List Block) (holes : List Area) → 0 < len → IsLong l m → HasHoles l holes (bytes_of l.name m) → StandsIn (bytes_of l.name m) at old bs holes → OwnLong l at len m → most_end l ≤ (update (record { holes = holes; end = l.end }) (areas_in bs) len).space.end
rewrite-long l at len m old bs holes some long has stands w =
    let own = areas_in bs in
    let same = standing-read (bytes_of l.name m) at old bs holes w.own stands w.row_is in
    let f = stands_inside l m at old bs holes long stands in
    let more = subst (λ (xs : List Area). 0 < (own_taking len xs).left) same w.some in
    long-by (own_areas len own) l holes (bytes_of l.name m) len (most_end l) some (begun_by l len own holes f has.list.sizes stands.apart more) has (subst (λ (xs : List Area). LongBy (own_areas len xs) (bytes_of l.name m) l.head l.end (most_end l) len) same w.long)
