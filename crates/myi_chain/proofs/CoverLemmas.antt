-- A file each byte of which belongs to a block of a row or to a deleted block is made of such blocks, one directly after
-- another.
use Rattle.std.proofs.Common.{◌≡◌, ◌⊎◌, inl, inr, ◌∙◌, ℕ, zero, suc, ◌+◌, ◌<◌, ◌≤◌, Bool, true, false, List, [], ◌∷◌, ◌++◌, append_assoc, Option, Some, None, refl, sym, ap, subst, arith}
use Rattle.std.specs.Prelude.{nat_le, nat_lt, ◌||◌}
use Rattle.std.specs.List.{list_any, AllByRecursion}
use Rattle.std.proofs.lemmas.Bool.{leb-true, ltb-true, cases_lt}
use Rattle.std.proofs.lemmas.List.{append-nil}
use Rattle.myi_base.specs.Ranges.{Range, are_apart, is_apart}
use Rattle.myi_frames.specs.declared.form.FrameKind.TheVariants.{Deleted, Middle, End}
use Rattle.myi_frames.specs.Block.{Block}
use Rattle.myi_chain.specs.Chain.{Reading, IsReading, IsBlockAt, IsTail, IsChain, AreApart, range_of, ranges, row_bytes}
use Rattle.myi_chain.specs.Readable.{Row}
use Rattle.myi_chain.specs.Meeting.{IsRowOf, IsDeletedOf, ranges_of}
use Rattle.myi_chain.specs.Parts.{Part, first, further, deleted, block_in, row_ranges, has_byte, Follow, IsRowIn, IsPart, IsMadeOf}
use Rattle.myi_chain.proofs.ChainLemmas.{both, both_again}
use Rattle.myi_chain.proofs.ReadableLemmas.{first_block}

-- ---- what stands in a list

abbrev pub In : {A : Type 0} → A → List A → Type 0
In x [] = ⊥
In x (y ∷ ys) = (x ≡ y) ⊎ In x ys

in_left : {A : Type 0} (x : A) (xs ys : List A) → In x xs → In x (xs ++ ys)
in_left x [] ys h = absurd h
in_left x (y ∷ xs) ys (inl e) = inl e
in_left x (y ∷ xs) ys (inr h) = inr (in_left x xs ys h)

in_right : {A : Type 0} (x : A) (xs ys : List A) → In x ys → In x (xs ++ ys)
in_right x [] ys h = h
in_right x (y ∷ xs) ys h = inr (in_right x xs ys h)

in_either : {A : Type 0} (x : A) (xs ys : List A) → In x (xs ++ ys) → In x xs ⊎ In x ys
in_either x [] ys h = inr h
in_either x (y ∷ xs) ys (inl e) = inl (inl e)
in_either x (y ∷ xs) ys (inr h) = elim (in_either x xs ys h) [
  | inl a ↦ inl (inr a)
  | inr b ↦ inr b
]

one_of : (a b : Bool) → (a || b) ≡ true → (a ≡ true) ⊎ (b ≡ true)
one_of true b e = inl refl
one_of false b e = inr e

any_in : (f : Range → Bool) (xs : List Range) → list_any f xs ≡ true → (x : Range) × In x xs × (f x ≡ true)
any_in f [] e = absurd cc
any_in f (x ∷ xs) e = elim (one_of (f x) (list_any f xs) e) [
  | inl a ↦ (x, inl refl, a)
  | inr b ↦ let t = any_in f xs b in (t.0, inr t.1, t.2)
]

all_in : {A : Type 0} (P : A → Type 0) (xs : List A) (x : A) → AllByRecursion P xs → In x xs → P x
all_in P [] x all h = absurd h
all_in P (y ∷ xs) x all (inl e) = subst P (sym e) all.0
all_in P (y ∷ xs) x all (inr h) = all_in P xs x all.1 h

in_rows : (r : Range) (rows : List Row) → In r (ranges_of rows) → (q : Row) × In q rows × In r q.blocks
in_rows r [] h = absurd h
in_rows r (q ∷ qs) h = elim (in_either r q.blocks (ranges_of qs) h) [
  | inl a ↦ (q, inl refl, a)
  | inr b ↦ let t = in_rows r qs b in (t.0, inr t.1, t.2)
]

rows_in : (r : Range) (q : Row) (rows : List Row) → In q rows → In r q.blocks → In r (ranges_of rows)
rows_in r q [] i h = absurd i
rows_in r q (s ∷ rows) (inl e) h = in_left r s.blocks (ranges_of rows) (subst (λ (t : Row). In r t.blocks) e h)
rows_in r q (s ∷ rows) (inr i) h = in_right r s.blocks (ranges_of rows) (rows_in r q rows i h)

-- ---- ranges that are apart

swapped : (a b : Bool) → (a || b) ≡ true → (b || a) ≡ true
swapped true true e = refl
swapped true false e = refl
swapped false true e = refl
swapped false false e = e

apart_sym : (r s : Range) → are_apart r s ≡ true → are_apart s r ≡ true
apart_sym r s e = swapped (nat_le r.1 s.0) (nat_le s.1 r.0) e

one_apart : (x y : Range) (zs : List Range) → is_apart x zs ≡ true → In y zs → are_apart x y ≡ true
one_apart x y [] e h = absurd h
one_apart x y (z ∷ zs) e (inl h) = subst (λ (t : Range). are_apart x t ≡ true) (sym h) (both (are_apart x z) (is_apart x zs) e).0
one_apart x y (z ∷ zs) e (inr h) = one_apart x y zs (both (are_apart x z) (is_apart x zs) e).1 h

all_apart : (x : Range) (zs : List Range) → ((y : Range) → In y zs → are_apart x y ≡ true) → is_apart x zs ≡ true
all_apart x [] f = refl
all_apart x (z ∷ zs) f = both_again (are_apart x z) (is_apart x zs) (f z (inl refl)) (all_apart x zs (λ y h. f y (inr h)))

apart_both : (x : Range) (xs ys : List Range) → is_apart x xs ≡ true → is_apart x ys ≡ true → is_apart x (xs ++ ys) ≡ true
apart_both x [] ys e f = f
apart_both x (z ∷ xs) ys e f =
    let t = both (are_apart x z) (is_apart x xs) e in
    both_again (are_apart x z) (is_apart x (xs ++ ys)) t.0 (apart_both x xs ys t.1 f)

used_apart : (x : Range) (used zs : List Range) (y : Range) → In x used → AreApart used zs → In y zs → are_apart y x ≡ true
used_apart x used [] y i a h = absurd h
used_apart x used (z ∷ zs) y i a (inl e) = subst (λ (t : Range). are_apart t x ≡ true) (sym e) (one_apart z x used a.0 i)
used_apart x used (z ∷ zs) y i a (inr h) = used_apart x (used ++ z ∷ []) zs y (in_left x used (z ∷ []) i) a.1 h

behind_apart : (used zs : List Range) (z y : Range) → AreApart (used ++ z ∷ []) zs → In y zs → are_apart y z ≡ true
behind_apart used zs z y a h = used_apart z (used ++ z ∷ []) zs y (in_right z used (z ∷ []) (inl refl)) a h

-- two of these are the same or apart
two_apart : (used zs : List Range) (x y : Range) → AreApart used zs → In x zs → In y zs → (x ≡ y) ⊎ (are_apart x y ≡ true)
two_apart used [] x y a h i = absurd h
two_apart used (z ∷ zs) x y a (inl e) (inl f) = inl (e ∙ sym f)
two_apart used (z ∷ zs) x y a (inl e) (inr h) = inr (apart_sym y x (subst (λ (t : Range). are_apart y t ≡ true) (sym e) (behind_apart used zs z y a.1 h)))
two_apart used (z ∷ zs) x y a (inr h) (inl f) = inr (subst (λ (t : Range). are_apart x t ≡ true) (sym f) (behind_apart used zs z x a.1 h))
two_apart used (z ∷ zs) x y a (inr h) (inr i) = two_apart (used ++ z ∷ []) zs x y a.1 h i

-- one of the first and one of the others are apart
cross_apart : (used xs ys : List Range) (x y : Range) → AreApart used (xs ++ ys) → In x xs → In y ys → are_apart y x ≡ true
cross_apart used [] ys x y a i h = absurd i
cross_apart used (z ∷ xs) ys x y a (inl e) h = subst (λ (t : Range). are_apart y t ≡ true) (sym e) (behind_apart used (xs ++ ys) z y a.1 (in_right y xs ys h))
cross_apart used (z ∷ xs) ys x y a (inr i) h = cross_apart (used ++ z ∷ []) xs ys x y a.1 i h

front_dropped : (used xs ys : List Range) → AreApart used (xs ++ ys) → AreApart (used ++ xs) ys
front_dropped used [] ys a = subst (λ (u : List Range). AreApart u ys) (sym (append-nil used)) a
front_dropped used (x ∷ xs) ys a = subst (λ (u : List Range). AreApart u ys) (append_assoc used (x ∷ []) xs) (front_dropped (used ++ x ∷ []) xs ys a.1)

front_joined : (used xs ys : List Range) → AreApart used xs → AreApart (used ++ xs) ys → AreApart used (xs ++ ys)
front_joined used [] ys a b = subst (λ (u : List Range). AreApart u ys) (append-nil used) b
front_joined used (x ∷ xs) ys a b = (a.0, front_joined (used ++ x ∷ []) xs ys a.1 (subst (λ (u : List Range). AreApart u ys) (sym (append_assoc used (x ∷ []) xs)) b))

more_used : (v u xs : List Range) → AreApart u xs → ((x : Range) → In x xs → is_apart x v ≡ true) → AreApart (v ++ u) xs
more_used v u [] a f = tt
more_used v u (x ∷ xs) a f = (apart_both x v u (f x (inl refl)) a.0, subst (λ (w : List Range). AreApart w xs) (sym (append_assoc v u (x ∷ []))) (more_used v (u ++ x ∷ []) xs a.1 (λ y h. f y (inr h))))

-- blocks of rows at two places are apart
rows_apart : (used : List Range) (rows : List Row) (more : List Range) (q s : Row) (x y : Range) → AreApart used (ranges_of rows ++ more) → In q rows → In s rows → (q.at ≡ s.at → ⊥) → In x q.blocks → In y s.blocks → are_apart x y ≡ true
rows_apart used [] more q s x y a i j differ h k = absurd i
rows_apart used (r ∷ rows) more q s x y a (inl e) (inl f) differ h k = absurd (differ (ap (λ (t : Row). t.at) (e ∙ sym f)))
rows_apart used (r ∷ rows) more q s x y a (inl e) (inr j) differ h k =
    let whole = subst (AreApart used) (append_assoc r.blocks (ranges_of rows) more) a in
    apart_sym y x (cross_apart used r.blocks (ranges_of rows ++ more) x y whole (subst (λ (t : Row). In x t.blocks) e h) (in_left y (ranges_of rows) more (rows_in y s rows j k)))
rows_apart used (r ∷ rows) more q s x y a (inr i) (inl f) differ h k =
    let whole = subst (AreApart used) (append_assoc r.blocks (ranges_of rows) more) a in
    cross_apart used r.blocks (ranges_of rows ++ more) y x whole (subst (λ (t : Row). In y t.blocks) f k) (in_left x (ranges_of rows) more (rows_in x q rows i h))
rows_apart used (r ∷ rows) more q s x y a (inr i) (inr j) differ h k =
    let whole = subst (AreApart used) (append_assoc r.blocks (ranges_of rows) more) a in
    rows_apart (used ++ r.blocks) rows more q s x y (front_dropped used r.blocks (ranges_of rows ++ more) whole) i j differ h k

module _ (read : Reading) (len : ℕ) (stands : IsReading read len) (accepts : List ℕ → Bool) where
  block_here : (p : ℕ) (b : Block) → read p ≡ Some b → (read b.at ≡ Some b) × IsBlockAt len b.at b
  block_here p b e =
      let at : p ≡ b.at = sym (stands p b e).at in
      subst (λ q. (read q ≡ Some b) × IsBlockAt len q b) at (e, stands p b e)

  module _ (rows : List Row) (frees : List Range) where
    -- a part is of one of these rows, or one of these deleted blocks
    abbrev pub Owned : Part → Type 0
    Owned (first b bs) = (q : Row) × In q rows × (q.at ≡ b.at) × (q.blocks ≡ ranges (b ∷ bs)) × IsRowIn read accepts b bs
    Owned (further b) = (read b.at ≡ Some b) × ((b.kind ≡ Middle) ⊎ (b.kind ≡ End))
    Owned (deleted b) = (read b.at ≡ Some b) × (b.kind ≡ Deleted) × In (range_of b) frees

    -- the part whose block takes a range
    abbrev PartOf : Range → Type 0
    PartOf r = (c : Part) × (range_of (block_in c) ≡ r) × Owned c × IsBlockAt len (block_in c).at (block_in c)

    tail_part : (n : Option ℕ) (bs : List Block) (r : Range) → IsTail read n bs → In r (ranges bs) → PartOf r
    tail_part None bs r t h = absurd t
    tail_part (Some p) [] r t h = absurd t
    tail_part (Some p) (b ∷ []) r t (inl e) = let s = block_here p b t.0 in (further b, sym e, (s.0, inr t.1), s.1)
    tail_part (Some p) (b ∷ []) r t (inr h) = absurd h
    tail_part (Some p) (b ∷ c ∷ bs) r t (inl e) = let s = block_here p b t.0 in (further b, sym e, (s.0, inl t.1), s.1)
    tail_part (Some p) (b ∷ c ∷ bs) r t (inr h) = tail_part b.next (c ∷ bs) r t.2 h

    chain_part : (q : Row) (bs : List Block) (r : Range) → In q rows → IsChain read q.at [] bs → q.blocks ≡ ranges bs → accepts (row_bytes bs) ≡ true → In r (ranges bs) → PartOf r
    chain_part q [] r i chain blocks packs h = absurd h
    chain_part q (b ∷ bs) r i chain blocks packs (inl e) =
        let here = first_block read q.at [] b bs chain in
        let s = block_here q.at b here in
        let at : q.at ≡ b.at = sym (stands q.at b here).at in
        (first b bs, sym e, (q, i, at, blocks, record { chain = subst (λ p. IsChain read p [] (b ∷ bs)) at chain; packs = packs }), s.1)
    chain_part q (b ∷ []) r i chain blocks packs (inr h) = absurd h
    chain_part q (b ∷ c ∷ bs) r i chain blocks packs (inr h) = tail_part b.next (c ∷ bs) r chain.linked.2 h

    row_part : (q : Row) (r : Range) → In q rows → IsRowOf read accepts q → In r q.blocks → PartOf r
    row_part q r i is h = chain_part q is.chain r i is.is is.blocks (ap accepts (sym is.bytes) ∙ is.packs) (subst (λ (rs : List Range). In r rs) is.blocks h)

    deleted_part : (r : Range) → IsDeletedOf read r → In r frees → PartOf r
    deleted_part r d h =
        let s = block_here r.0 d.block d.here in
        (deleted d.block, sym d.range, (s.0, d.kind, subst (λ (t : Range). In t frees) d.range h), s.1)

    module _ (each : AllByRecursion (IsRowOf read accepts) rows) (gone : AllByRecursion (IsDeletedOf read) frees) (apart : AreApart [] (ranges_of rows ++ frees)) where
      abbrev all : List Range
      all = ranges_of rows ++ frees

      part_of : (r : Range) → In r all → PartOf r
      part_of r h = elim (in_either r (ranges_of rows) frees h) [
        | inl a ↦ let t = in_rows r rows a in row_part t.0 r t.1 (all_in (IsRowOf read accepts) rows t.0 each t.1) t.2
        | inr b ↦ deleted_part r (all_in (IsDeletedOf read) frees r gone b) b
      ]

      range_long : (r : Range) → In r all → (r.0 < r.1) × (r.1 ≤ len)
      range_long r h =
          let t = part_of r h in
          let from = ap (λ (x : Range). x.0) t.1 in
          let to = ap (λ (x : Range). x.1) t.1 in
          (omega (arith, from, to, t.3.least), omega (arith, to, t.3.inside))

      -- each range that begins before a place ends there or before
      abbrev EndBefore : ℕ → Type 0
      EndBefore p = (x : Range) → In x all → x.0 < p → x.1 ≤ p

      apart_order : (x r : Range) → are_apart x r ≡ true → (x.1 ≤ r.0) ⊎ (r.1 ≤ x.0)
      apart_order x r e = elim (one_of (nat_le x.1 r.0) (nat_le r.1 x.0) e) [
        | inl a ↦ inl (leb-true _ _ a)
        | inr b ↦ inr (leb-true _ _ b)
      ]

      end_other : (x r : Range) → In x all → r.0 ≤ x.0 → x.0 < r.1 → (x ≡ r) ⊎ (are_apart x r ≡ true) → x.1 ≤ r.1
      end_other x r j high below (inl same) = omega (arith, ap (λ (t : Range). t.1) same)
      end_other x r j high below (inr far) = elim (apart_order x r far) [
        | inl a ↦ absurd (omega (arith, a, high, (range_long x j).0))
        | inr b ↦ absurd (omega (arith, b, below))
      ]

      end_next : (p : ℕ) (r : Range) → In r all → r.0 ≡ p → EndBefore p → EndBefore r.1
      end_next p r i at before x j below = elim (cases_lt x.0 p) [
        | inl low ↦ omega (arith, before x j low, (range_long r i).0, at)
        | inr high ↦ end_other x r j (omega (arith, high, at)) below (two_apart [] all x r apart j i)
      ]

      here_at : (p : ℕ) (r : Range) → In r all → has_byte p r ≡ true → EndBefore p → r.0 ≡ p
      here_at p r i is before =
          let t = both (nat_le r.0 p) (nat_lt p r.1) is in
          let from : r.0 ≤ p = leb-true _ _ t.0 in
          let to : p < r.1 = ltb-true _ _ t.1 in
          elim (cases_lt r.0 p) [
            | inl low ↦ absurd (omega (arith, before r i low, to))
            | inr high ↦ omega (arith, from, high)
          ]

      abbrev Built : ℕ → Type 0
      Built p = (parts : List Part) × Follow len p parts × AllByRecursion Owned parts

      build_at : (p : ℕ) (r : Range) → r.0 ≡ p → PartOf r → Built r.1 → Built p
      build_at p r at part rest =
          let from = ap (λ (x : Range). x.0) part.1 in
          let to = ap (λ (x : Range). x.1) part.1 in
          let here : (block_in part.0).at ≡ p = from ∙ at in
          let next : r.1 ≡ p + (block_in part.0).size = omega (arith, to, here) in
          (part.0 ∷ rest.0, (here, subst (λ q. Follow len q rest.0) next rest.1), (part.2, rest.2))

      build : (fuel p : ℕ) → len ≤ p + fuel → p ≤ len → EndBefore p → ((p : ℕ) → p < len → list_any (has_byte p) all ≡ true) → Built p
      build zero p enough inside before full = ([], omega (arith, enough, inside), tt)
      build (suc fuel) p enough inside before full = elim (cases_lt p len) [
        | inl under ↦
            let found = any_in (has_byte p) all (full p under) in
            let at : found.0.0 ≡ p = here_at p found.0 found.1 found.2 before in
            let long = range_long found.0 found.1 in
            build_at p found.0 at (part_of found.0 found.1) (build fuel found.0.1 (omega (arith, long.0, at, enough)) long.1 (end_next p found.0 found.1 at before) full)
        | inr over ↦ ([], omega (arith, inside, over), tt)
      ]

      -- ---- the parts are what they say

      free_apart : (b : Block) → In (range_of b) frees → (parts : List Part) → AllByRecursion Owned parts → is_apart (range_of b) (row_ranges parts) ≡ true
      free_apart b i [] o = refl
      free_apart b i (first c cs ∷ ps) o = apart_both (range_of b) (ranges (c ∷ cs)) (row_ranges ps) (all_apart (range_of b) (ranges (c ∷ cs)) (λ y h.
          cross_apart [] (ranges_of rows) frees y (range_of b) apart (rows_in y o.0.0 rows o.0.1 (subst (λ (rs : List Range). In y rs) (sym o.0.3) h)) i)) (free_apart b i ps o.1)
      free_apart b i (further c ∷ ps) o = free_apart b i ps o.1
      free_apart b i (deleted c ∷ ps) o = free_apart b i ps o.1

      each_part : (whole : List Part) → AllByRecursion Owned whole → (ps : List Part) → AllByRecursion Owned ps → AllByRecursion (IsPart read accepts (row_ranges whole)) ps
      each_part whole ow [] o = tt
      each_part whole ow (first b bs ∷ ps) o = (o.0.4, each_part whole ow ps o.1)
      each_part whole ow (further b ∷ ps) o = (o.0, each_part whole ow ps o.1)
      each_part whole ow (deleted b ∷ ps) o = ((o.0.0, o.0.1, free_apart b o.0.2 whole ow), each_part whole ow ps o.1)

      -- these ranges are of blocks of rows before a place
      abbrev AreBefore : ℕ → List Range → Type 0
      AreBefore p used = (y : Range) → In y used → (q : Row) × In q rows × (q.at < p) × In y q.blocks

      before_later : (p n : ℕ) (used : List Range) → AreBefore p used → AreBefore (p + n) used
      before_later p n used before y h = let t = before y h in (t.0, t.1, omega (arith, t.2), t.3)

      before_more : (p n : ℕ) (q : Row) (used more : List Range) → AreBefore p used → In q rows → q.at ≡ p → 0 < n → q.blocks ≡ more → AreBefore (p + n) (used ++ more)
      before_more p n q used more before i at some blocks y h = elim (in_either y used more h) [
        | inl a ↦ before_later p n used before y a
        | inr b ↦ (q, i, omega (arith, at, some), subst (λ (rs : List Range). In y rs) (sym blocks) b)
      ]

      row_apart : (p : ℕ) (q : Row) (used more : List Range) → AreBefore p used → In q rows → q.at ≡ p → q.blocks ≡ more → AreApart [] more → AreApart used more
      row_apart p q used more before i at blocks own =
          subst (λ (u : List Range). AreApart u more) (append-nil used) (more_used used [] more own (λ x h. all_apart x used (λ y j.
          let t = before y j in
          let differ : q.at ≡ t.0.at → ⊥ = λ e. absurd (omega (arith, e, t.2, at)) in
          rows_apart [] rows frees q t.0 x y apart i t.1 differ (subst (λ (rs : List Range). In x rs) (sym blocks) h) t.3)))

      in_order : (p : ℕ) (used : List Range) (ps : List Part) → Follow len p ps → AllByRecursion Owned ps → AreBefore p used → AreApart used (row_ranges ps)
      in_order p used [] follow o before = tt
      in_order p used (first b bs ∷ ps) follow o before =
          let at : o.0.0.at ≡ p = o.0.2 ∙ follow.0 in
          let some : 0 < b.size = let least = (stands b.at b (first_block read b.at [] b bs o.0.4.chain)).least in omega (arith, least) in
          front_joined used (ranges (b ∷ bs)) (row_ranges ps) (row_apart p o.0.0 used (ranges (b ∷ bs)) before o.0.1 at o.0.3 o.0.4.chain.apart) (in_order (p + b.size) (used ++ ranges (b ∷ bs)) ps follow.1 o.1 (before_more p b.size o.0.0 used (ranges (b ∷ bs)) before o.0.1 at some o.0.3))
      in_order p used (further b ∷ ps) follow o before = in_order (p + b.size) used ps follow.1 o.1 (before_later p b.size used before)
      in_order p used (deleted b ∷ ps) follow o before = in_order (p + b.size) used ps follow.1 o.1 (before_later p b.size used before)

      pub made_of : ((p : ℕ) → p < len → list_any (has_byte p) all ≡ true) → (parts : List Part) × IsMadeOf read accepts len parts
      made_of full =
          let t = build len 0 (omega arith) (omega arith) (λ x i low. absurd (omega (arith, low))) full in
          (t.0, record { follow = t.1; each = each_part t.0 t.2 t.0 t.2; apart = in_order 0 [] t.0 t.1 t.2 (λ y h. absurd h) })
