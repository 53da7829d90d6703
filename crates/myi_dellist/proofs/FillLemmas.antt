-- The blocks of a row are filled one after the other, and the last one takes what is left: so each can be written.
use Rattle.std.proofs.Common.{◌≡◌, ℕ, zero, suc, ◌+◌, ◌-◌, ◌%◌, ◌^◌, ◌<◌, ◌≤◌, ◌⊎◌, inl, inr, Bool, true, false, List, [], ◌∷◌, ◌++◌, Some, refl, sym, ap, subst, ◌∙◌, arith}
use Rattle.std.specs.Prelude.{nat_lt, nat_le}
use Rattle.std.specs.List.{AllByRecursion}
use Rattle.std.proofs.lemmas.Bool.{ltb-true, ltb-false, leb-true, leb-false}
use Rattle.std.proofs.lemmas.List.{append-nil}
use Rattle.myi_frames.specs.Sizes.{least_size, start_room, middle_room}
use Rattle.myi_frames.specs.Writing.{whole_spec, start_spec, middle_spec, end_spec, IsWritable}
use Rattle.myi_frames.proofs.CallerLemmas.{least-sized, start-writable, middle-writable}
use Rattle.myi_dellist.specs.Areas.{Area}
use Rattle.myi_dellist.specs.Releasing.{most_size, IsHole, IsFreeable}
use Rattle.myi_dellist.specs.declared.pieces.Piece.{Piece}
use Rattle.myi_dellist.specs.Taking.{IsFull, Run}
use Rattle.myi_dellist.specs.Placing.{Space, room, fits, Taking, take_last, with_piece, take_one, take_from, take_more, append_one, append_from, is_none, Placing, last_pieces, placed_by, place, specs_behind, specs_of, AreWritable, IsUsable}
use Rattle.myi_dellist.proofs.ReleaseLemmas.{holes-release_all}
use Rattle.myi_dellist.proofs.SizeLemmas.{room-bounds, not-fits-few, does-fit, last-writable}

-- the last one
pub record IsLast (left : ℕ) (p : Piece) : Type 0 where
  pub multiple : p.size % 4 ≡ 0
  pub taken : p.taken ≡ left
  pub few : left < 2 ^ 24
  pub least : least_size left ≤ p.size
  pub close : p.size < least_size left + 20

-- all blocks of what is left
abbrev pub Fill : ℕ → Bool → ℕ → List Piece → Type 0
Fill len first left [] = ⊥
Fill len first left (p ∷ []) = IsLast left p
Fill len first left (p ∷ q ∷ ps) = IsFull len first left p × Fill len false (left - p.taken) (q ∷ ps)

-- the first block is still to come
abbrev pub first_behind : Bool → List Piece → Bool
first_behind first [] = first
first_behind first (p ∷ ps) = false

pub fill_more : (len : ℕ) (first : Bool) (left : ℕ) (p : Piece) (ps : List Piece) → IsFull len first left p → Fill len false (left - p.taken) ps → Fill len first left (p ∷ ps)
fill_more len first left p [] f more = absurd more
fill_more len first left p (q ∷ ps) f more = (f, more)

pub run_fill : (len : ℕ) (first : Bool) (left rest : ℕ) (xs ys : List Piece) → Run len first left xs rest → Fill len (first_behind first xs) rest ys → Fill len first left (xs ++ ys)
run_fill len first left rest [] ys r f = subst (λ n. Fill len first n ys) (sym r) f
run_fill len first left rest (x ∷ xs) ys r f = fill_more len first left x (xs ++ ys) r.0 (run_fill len false (left - x.taken) rest xs ys r.1 (by_list xs f))
  where
    by_list : (xs : List Piece) → Fill len false rest ys → Fill len (first_behind false xs) rest ys
    by_list [] f = f
    by_list (x ∷ xs) f = f

pub run_run : (len : ℕ) (first : Bool) (left rest last : ℕ) (xs ys : List Piece) → Run len first left xs rest → Run len (first_behind first xs) rest ys last → Run len first left (xs ++ ys) last
run_run len first left rest last [] ys r f = subst (λ n. Run len first n ys last) (sym r) f
run_run len first left rest last (x ∷ xs) ys r f = (r.0, run_run len false (left - x.taken) rest last xs ys r.1 (by_list xs f))
  where
    by_list : (xs : List Piece) → Run len false rest ys last → Run len (first_behind false xs) rest ys last
    by_list [] f = f
    by_list (x ∷ xs) f = f

-- ---- what is taken of a list

pub record IsDone (len : ℕ) (first : Bool) (left : ℕ) (t : Taking) : Type 0 where
  pub none : t.left ≡ 0
  pub fill : Fill len first left t.pieces
  pub spare : AllByRecursion IsFreeable t.spare

pub record IsOpen (len : ℕ) (first : Bool) (left : ℕ) (t : Taking) : Type 0 where
  pub some : 0 < t.left
  pub less : t.left ≤ left
  pub run : Run len first left t.pieces t.left
  pub spare : t.spare ≡ []
  pub unused : t.unused ≡ []

take_last_done : (len : ℕ) (first : Bool) (left : ℕ) (a : Area) (more : List Area) (b : Bool) → IsUsable len a → left < 2 ^ 24 → least_size left ≤ a.size → nat_le (least_size left + 20) a.size ≡ b → IsDone len first left (take_last b left a more)
take_last_done len first left a more true u few le e =
    let s = least-sized left in
    record {
      none = refl;
      fill = record { multiple = s.multiple; taken = refl; few = few; least = omega arith; close = omega arith };
      spare = (record { aligned = omega (arith, u.aligned, s.multiple); multiple = omega (arith, u.multiple, s.multiple, le); least = omega (arith, leb-true _ _ e); most = omega (arith, u.most) }, tt);
    }
take_last_done len first left a more false u few le e =
    record {
      none = refl;
      fill = record { multiple = u.multiple; taken = refl; few = few; least = le; close = omega (arith, leb-false _ _ e) };
      spare = tt;
    }

with_done : (len : ℕ) (first : Bool) (left : ℕ) (p : Piece) (t : Taking) → IsFull len first left p → IsDone len false (left - p.taken) t → IsDone len first left (with_piece p t)
with_done len first left p t f d = record { none = d.none; fill = fill_more len first left p t.pieces f d.fill; spare = d.spare }

with_open : (len : ℕ) (first : Bool) (left : ℕ) (p : Piece) (t : Taking) → IsFull len first left p → IsOpen len false (left - p.taken) t → IsOpen len first left (with_piece p t)
with_open len first left p t f o = record { some = o.some; less = omega (arith, o.less); run = (f, o.run); spare = o.spare; unused = o.unused }

pub take_runs : (len : ℕ) (first : Bool) (left : ℕ) (from : List Area) → 0 < left → left ≤ len → AllByRecursion (IsUsable len) from → IsDone len first left (take_from len first left from) ⊎ IsOpen len first left (take_from len first left from)
take_runs len first left [] some le all = inr (record { some = some; less = omega arith; run = refl; spare = refl; unused = refl })
take_runs len first left (a ∷ areas) some le all = by_fits (fits left a.size) refl (λ few. take_runs len false (left - room len first a.size) areas (omega (arith, few)) (omega arith) all.1)
  where
    by_fits : (b : Bool) → fits left a.size ≡ b → (room len first a.size < left → IsDone len false (left - room len first a.size) (take_from len false (left - room len first a.size) areas) ⊎ IsOpen len false (left - room len first a.size) (take_from len false (left - room len first a.size) areas)) → IsDone len first left (take_one len first left a areas b (λ more. take_from len false more areas)) ⊎ IsOpen len first left (take_one len first left a areas b (λ more. take_from len false more areas))
    by_fits true e go = let f = does-fit left a.size e in inl (take_last_done len first left a areas (nat_le (least_size left + 20) a.size) all.0 f.0 f.1 refl)
    by_fits false e go =
        let few = not-fits-few len left first a le all.0 e in
        let full : IsFull len first left (record { at = a.at; size = a.size; taken = room len first a.size }) = record { multiple = all.0.multiple; least = all.0.least; most = all.0.most; taken = refl; less = few.0; few = few.1 } in
        by_rest full (go few.0)
      where
        by_rest : IsFull len first left (record { at = a.at; size = a.size; taken = room len first a.size }) → IsDone len false (left - room len first a.size) (take_from len false (left - room len first a.size) areas) ⊎ IsOpen len false (left - room len first a.size) (take_from len false (left - room len first a.size) areas) → IsDone len first left (with_piece (record { at = a.at; size = a.size; taken = room len first a.size }) (take_from len false (left - room len first a.size) areas)) ⊎ IsOpen len first left (with_piece (record { at = a.at; size = a.size; taken = room len first a.size }) (take_from len false (left - room len first a.size) areas))
        by_rest full (inl d) = inl (with_done len first left (record { at = a.at; size = a.size; taken = room len first a.size }) (take_from len false (left - room len first a.size) areas) full d)
        by_rest full (inr o) = inr (with_open len first left (record { at = a.at; size = a.size; taken = room len first a.size }) (take_from len false (left - room len first a.size) areas) full o)

-- ---- at the end

pub append_fills : (fuel len : ℕ) (first : Bool) (left at : ℕ) → left ≤ fuel → 0 < left → Fill len first left (append_from fuel len first left at)
append_fills zero len first left at le some = absurd (omega arith)
append_fills (suc fuel) len first left at le some =
    let cap = room-bounds len first most_size (omega arith) in
    by_test (nat_lt left (2 ^ 24)) refl (λ (far : 2 ^ 24 ≤ left). append_fills fuel len false (left - room len first most_size) (at + most_size) (omega (arith, far, cap.0)) (omega (arith, far, cap.1)))
  where
    by_test : (b : Bool) → nat_lt left (2 ^ 24) ≡ b → (2 ^ 24 ≤ left → Fill len false (left - room len first most_size) (append_from fuel len false (left - room len first most_size) (at + most_size))) → Fill len first left (append_one len first left at b (λ more. append_from fuel len false more (at + most_size)))
    by_test true t go =
        let s = least-sized left in
        record { multiple = s.multiple; taken = refl; few = ltb-true _ _ t; least = omega arith; close = omega arith }
    by_test false t go =
        let far = ltb-false _ _ t in
        let cap = room-bounds len first most_size (omega arith) in
        fill_more len first left (record { at = at; size = most_size; taken = room len first most_size }) (append_from fuel len false (left - room len first most_size) (at + most_size)) (record { multiple = omega arith; least = omega arith; most = omega arith; taken = refl; less = omega (arith, far, cap.1); few = omega (arith, cap.1) }) (go far)

-- ---- a row

abbrev no_pieces : List Piece
no_pieces = []

nothing_more : (xs : List Piece) → (xs ++ no_pieces) ++ no_pieces ≡ xs
nothing_more xs = append-nil (xs ++ no_pieces) ∙ append-nil xs

pub first_is : (xs : List Piece) → first_behind true xs ≡ is_none xs
first_is [] = refl
first_is (x ∷ xs) = refl

first_both : (xs ys : List Piece) → first_behind (is_none xs) ys ≡ is_none (xs ++ ys)
first_both [] ys = first_is ys
first_both (x ∷ xs) [] = refl
first_both (x ∷ xs) (y ∷ ys) = refl

-- what is taken where something may be left
pub record IsNothing (left : ℕ) (t : Taking) : Type 0 where
  pub was : left ≡ 0
  pub none : t.left ≡ 0
  pub pieces : t.pieces ≡ []
  pub spare : t.spare ≡ []

pub more_runs : (len : ℕ) (first : Bool) (left : ℕ) (from : List Area) → left ≤ len → AllByRecursion (IsUsable len) from → IsNothing left (take_more len first left from) ⊎ (IsDone len first left (take_more len first left from) ⊎ IsOpen len first left (take_more len first left from))
more_runs len first zero from le all = inl (record { was = refl; none = refl; pieces = refl; spare = refl })
more_runs len first (suc left) from le all = inr (take_runs len first (suc left) from (omega arith) le all)

all-append : (P : Area → Type 0) (xs ys : List Area) → AllByRecursion P xs → AllByRecursion P ys → AllByRecursion P (xs ++ ys)
all-append P [] ys a b = b
all-append P (x ∷ xs) ys a b = (a.0, all-append P xs ys a.1 b)

unused_last : (P : Area → Type 0) (left : ℕ) (a : Area) (more : List Area) (b : Bool) → AllByRecursion P more → AllByRecursion P (take_last b left a more).unused
unused_last P left a more true all = all
unused_last P left a more false all = all

pub unused_taken : (P : Area → Type 0) (len : ℕ) (first : Bool) (left : ℕ) (from : List Area) → AllByRecursion P from → AllByRecursion P (take_from len first left from).unused
unused_taken P len first left [] all = tt
unused_taken P len first left (a ∷ areas) all = by_fits (fits left a.size) (unused_taken P len false (left - room len first a.size) areas all.1)
  where
    by_fits : (b : Bool) → AllByRecursion P (take_from len false (left - room len first a.size) areas).unused → AllByRecursion P (take_one len first left a areas b (λ more. take_from len false more areas)).unused
    by_fits true ih = unused_last P left a areas (nat_le (least_size left + 20) a.size) all.1
    by_fits false ih = ih

unused_more : (P : Area → Type 0) (len : ℕ) (first : Bool) (left : ℕ) (from : List Area) → AllByRecursion P from → AllByRecursion P (take_more len first left from).unused
unused_more P len first zero from all = all
unused_more P len first (suc left) from all = unused_taken P len first (suc left) from all

pub usable_freeable : (len : ℕ) (areas : List Area) → AllByRecursion (IsUsable len) areas → AllByRecursion IsFreeable areas
usable_freeable len [] all = tt
usable_freeable len (a ∷ areas) all = (record { aligned = all.0.aligned; multiple = all.0.multiple; least = all.0.least; most = all.0.most }, usable_freeable len areas all.1)

pub holes_usable : (len : ℕ) (holes : List Area) → AllByRecursion IsHole holes → AllByRecursion (IsUsable len) holes
holes_usable len [] all = tt
holes_usable len (a ∷ holes) all = (record { aligned = all.0.aligned; multiple = all.0.multiple; least = all.0.least; most = omega (arith, all.0.most); giant = inr all.0.most }, holes_usable len holes all.1)

-- what a placed row keeps
pub record IsPlaced (len : ℕ) (r : Placing) : Type 0 where
  pub fill : Fill len true len r.pieces
  pub holes : AllByRecursion IsHole r.space.holes

fill_by : (s : Space) (len : ℕ) (a b : Taking)
    → IsDone len true len a ⊎ IsOpen len true len a
    → IsNothing a.left b ⊎ (IsDone len (is_none a.pieces) a.left b ⊎ IsOpen len (is_none a.pieces) a.left b)
    → (a.left ≡ 0 → b.pieces ≡ []) → (a.left ≡ 0 → b.left ≡ 0) → (b.left ≡ 0 → last_pieces len a b s.end ≡ [])
    → Fill len true len (placed_by s len a b).pieces
fill_by s len a b (inl d) any none done last =
    let p = none d.none in
    let l = last (done d.none) in
    let same : (a.pieces ++ b.pieces) ++ last_pieces len a b s.end ≡ a.pieces = ap (λ (xs : List Piece). (a.pieces ++ xs) ++ last_pieces len a b s.end) p ∙ ap (λ (xs : List Piece). (a.pieces ++ no_pieces) ++ xs) l ∙ nothing_more a.pieces in
    subst (λ xs. Fill len true len xs) (sym same) d.fill
fill_by s len a b (inr o) (inl n) none done last = absurd (omega (arith, o.some, n.was))
fill_by s len a b (inr o) (inr (inl d)) none done last =
    let l = last d.none in
    let same : (a.pieces ++ b.pieces) ++ last_pieces len a b s.end ≡ a.pieces ++ b.pieces = ap (λ (xs : List Piece). (a.pieces ++ b.pieces) ++ xs) l ∙ append-nil (a.pieces ++ b.pieces) in
    let more = subst (λ f. Fill len f a.left b.pieces) (sym (first_is a.pieces)) d.fill in
    subst (λ xs. Fill len true len xs) (sym same) (run_fill len true len a.left a.pieces b.pieces o.run more)
fill_by s len a b (inr o) (inr (inr p)) none done last =
    let more = subst (λ f. Run len f a.left b.pieces b.left) (sym (first_is a.pieces)) p.run in
    let both = run_run len true len a.left b.left a.pieces b.pieces o.run more in
    let ends = append_fills b.left len (is_none (a.pieces ++ b.pieces)) b.left s.end (omega arith) p.some in
    let end = subst (λ f. Fill len f b.left (append_from b.left len (is_none (a.pieces ++ b.pieces)) b.left s.end)) (sym (first_is (a.pieces ++ b.pieces))) ends in
    run_fill len true len b.left (a.pieces ++ b.pieces) (append_from b.left len (is_none (a.pieces ++ b.pieces)) b.left s.end) both end

spare_own : (len : ℕ) (a : Taking) → IsDone len true len a ⊎ IsOpen len true len a → AllByRecursion IsFreeable a.spare
spare_own len a (inl d) = d.spare
spare_own len a (inr o) = subst (λ xs. AllByRecursion IsFreeable xs) (sym o.spare) tt

spare_more : (len : ℕ) (first : Bool) (left : ℕ) (b : Taking) → IsNothing left b ⊎ (IsDone len first left b ⊎ IsOpen len first left b) → AllByRecursion IsFreeable b.spare
spare_more len first left b (inl n) = subst (λ xs. AllByRecursion IsFreeable xs) (sym n.spare) tt
spare_more len first left b (inr (inl d)) = d.spare
spare_more len first left b (inr (inr o)) = subst (λ xs. AllByRecursion IsFreeable xs) (sym o.spare) tt

more_none : (len : ℕ) (first : Bool) (left : ℕ) (from : List Area) → left ≡ 0 → (take_more len first left from).pieces ≡ []
more_none len first zero from e = refl
more_none len first (suc left) from e = absurd (omega arith)

more_done : (len : ℕ) (first : Bool) (left : ℕ) (from : List Area) → left ≡ 0 → (take_more len first left from).left ≡ 0
more_done len first zero from e = refl
more_done len first (suc left) from e = absurd (omega arith)

append_none : (fuel len : ℕ) (first : Bool) (left at : ℕ) → fuel ≡ 0 → append_from fuel len first left at ≡ []
append_none zero len first left at e = refl
append_none (suc fuel) len first left at e = absurd (omega arith)

left_most : (len : ℕ) (t : Taking) → IsDone len true len t ⊎ IsOpen len true len t → t.left ≤ len
left_most len t (inl d) = omega (arith, d.none)
left_most len t (inr o) = o.less

pub place-placed : (s : Space) (own : List Area) (len : ℕ) → 0 < len → AllByRecursion (IsUsable len) own → AllByRecursion IsHole s.holes → IsPlaced len (place s own len)
unfolding place
place-placed s own len some all holes =
    let a = take_from len true len own in
    let b = take_more len (is_none a.pieces) a.left s.holes in
    let ra = take_runs len true len own some (omega arith) all in
    let rb = more_runs len (is_none a.pieces) a.left s.holes (left_most len a ra) (holes_usable len s.holes holes) in
    record {
      fill = fill_by s len a b ra rb (more_none len (is_none a.pieces) a.left s.holes) (more_done len (is_none a.pieces) a.left s.holes) (append_none b.left len (is_none (a.pieces ++ b.pieces)) b.left s.end);
      holes = holes-release_all (a.spare ++ (b.spare ++ a.unused)) b.unused
          (all-append IsFreeable a.spare (b.spare ++ a.unused) (spare_own len a ra) (all-append IsFreeable b.spare a.unused (spare_more len (is_none a.pieces) a.left b rb) (unused_taken IsFreeable len true len own (usable_freeable len own all))))
          (unused_more IsHole len (is_none a.pieces) a.left s.holes holes);
    }

-- ---- what is written

-- each block begins where a pointer reaches
abbrev pub AreReached : List Piece → Type 0
AreReached [] = Unit {0}
AreReached (p ∷ ps) = (p.at < 2 ^ 64 - 1) × AreReached ps

pub writable_behind : (len left : ℕ) (ps : List Piece) → Fill len false left ps → AreReached ps → AreWritable (specs_behind ps) ps
writable_behind len left [] f r = absurd f
writable_behind len left (p ∷ []) f r = (by_taken p.taken (sym f.taken), tt)
  where
    by_taken : (n : ℕ) → left ≡ n → IsWritable end_spec n p.size
    by_taken n e = (last-writable n p.size (subst (λ m. m < 2 ^ 24) e f.few) f.multiple (subst (λ m. least_size m ≤ p.size) e f.least) (subst (λ m. p.size < least_size m + 20) e f.close)).1
writable_behind len left (p ∷ q ∷ ps) f r = (by_taken p.taken f.0.taken f.0.few, writable_behind len (left - p.taken) (q ∷ ps) f.1 r.1)
  where
    by_taken : (n : ℕ) → n ≡ middle_room p.size → n < 2 ^ 24 → IsWritable (middle_spec (Some q.at)) n p.size
    by_taken n e few = subst (λ m. IsWritable (middle_spec (Some q.at)) m p.size) (sym e) (middle-writable p.size (Some q.at) f.0.multiple f.0.least (subst (λ m. m < 2 ^ 24) e few) r.1.0)

pub fill-writable : (len : ℕ) (ps : List Piece) → len < 2 ^ 32 → Fill len true len ps → AreReached ps → AreWritable (specs_of len ps) ps
fill-writable len [] small f r = absurd f
fill-writable len (p ∷ []) small f r = (by_taken p.taken (sym f.taken), tt)
  where
    by_taken : (n : ℕ) → len ≡ n → IsWritable (whole_spec len) n p.size
    by_taken n e = subst (λ m. IsWritable (whole_spec len) m p.size) e (last-writable len p.size f.few f.multiple f.least f.close).0
fill-writable len (p ∷ q ∷ ps) small f r = (by_taken p.taken f.0.taken f.0.few f.0.less, writable_behind len (len - p.taken) (q ∷ ps) f.1 r.1)
  where
    by_taken : (n : ℕ) → n ≡ start_room len p.size → n < 2 ^ 24 → n < len → IsWritable (start_spec len (Some q.at)) n p.size
    by_taken n e few less = subst (λ m. IsWritable (start_spec len (Some q.at)) m p.size) (sym e) (start-writable len p.size (Some q.at) f.0.multiple f.0.least small (omega arith) (subst (λ m. m < 2 ^ 24) e few) r.1.0)
