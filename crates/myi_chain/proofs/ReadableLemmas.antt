-- The recursion over the places of a file, for any reading.
use Rattle.std.proofs.Common.{◌≡◌, ℕ, zero, suc, ◌+◌, ◌-◌, ◌*◌, ◌/◌, ◌<◌, ◌≤◌, Bool, true, false, cond, List, [], ◌∷◌, ◌++◌, length, max, Option, Some, None, refl, sym, ap, subst, ◌∙◌, arith, append_assoc}
use Rattle.std.specs.Prelude.{◌==◌, nat_lt, nat_le, option_to_list}
use Rattle.std.specs.List.{AllByRecursion}
use Rattle.std.proofs.lemmas.Bool.{ltb-true, le-leb, lt-leb, leb-false, eqb-true}
use Rattle.std.proofs.lemmas.List.{append-nil}
use Rattle.myi_base.specs.Ranges.{Range, are_apart, is_apart}
use Rattle.myi_frames.specs.declared.form.FrameKind.{FrameKind}
use Rattle.myi_frames.specs.declared.form.FrameKind.TheVariants.{Deleted, Whole, Start, Middle, End}
use Rattle.myi_frames.specs.Block.{Block}
use Rattle.myi_chain.specs.Chain.{Reading, IsReading, IsTail, AreLinked, AreApart, IsChain, range_of, ranges, row_bytes, by_kind, chain_of}
use Rattle.myi_chain.specs.Readable.{Row, Item, row, free, Step, end_of, skip_by, free_by, row_at, row_step, step_of, items, places, rest, rows_of}
use Rattle.myi_chain.specs.Meeting.{IsRowOf, IsItemOf, ranges_of, AreRising}
use Rattle.myi_chain.proofs.ChainLemmas.{chain_sound, both}

pub either_way : {X : Type 0} (P : X → Type 0) (b : Bool) (x y : X) → (b ≡ true → P x) → P y → P (cond b x y)
either_way P true x y h k = h refl
either_way P false x y h k = k

pub first_block : (read : Reading) (p : ℕ) (used : List Range) (b : Block) (bs : List Block) → IsChain read p used (b ∷ bs) → read p ≡ Some b
first_block read p used b [] t = t.linked.0
first_block read p used b (c ∷ bs) t = t.linked.0

-- ---- what one step meets

module _ (read : Reading) (accepts : List ℕ → Bool) where
  abbrev pub Meets : ℕ → List Range → Option Item → List Range → Type 0
  Meets p used None now = now ≡ used
  Meets p used (Some (row r)) now = (bs : List Block) × IsChain read p used bs × (r ≡ row_at p bs) × (accepts (row_bytes bs) ≡ true) × (now ≡ used ++ ranges bs)
  Meets p used (Some (free a)) now = (b : Block) × (read p ≡ Some b) × (b.kind ≡ Deleted) × (a ≡ range_of b) × (now ≡ used)

  free_meets : (extend : Bool) (p : ℕ) (used : List Range) (o : Option Block) → read p ≡ o → Meets p used (free_by extend o) used
  free_meets extend p used None e = refl
  free_meets true p used (Some b) e = refl
  free_meets false p used (Some b) e = of_kind b.kind refl
    where
      of_kind : (k : FrameKind) → b.kind ≡ k → Meets p used (by_kind k (Some (free (range_of b))) None None None None) used
      of_kind Deleted k = (b, e, k, refl, refl)
      of_kind Whole k = refl
      of_kind Start k = refl
      of_kind Middle k = refl
      of_kind End k = refl

  row_meets : (extend : Bool) (p : ℕ) (used : List Range) (o : Option (List Block)) → chain_of read p used ≡ o → Meets p used (row_step extend read accepts p used o).item (row_step extend read accepts p used o).used
  row_meets extend p used None e = free_meets extend p used (read p) refl
  row_meets extend p used (Some []) e = free_meets extend p used (read p) refl
  row_meets extend p used (Some (b ∷ bs)) e =
      let P : Step → Type 0 = λ s. Meets p used s.item s.used in
      either_way P (accepts (row_bytes (b ∷ bs))) _ _ (λ packs. (b ∷ bs, chain_sound read p used (b ∷ bs) e, refl, packs, refl)) (free_meets extend p used (read p) refl)

  pub step_meets : (extend : Bool) (p : ℕ) (used : List Range) → Meets p used (step_of extend read accepts p used).item (step_of extend read accepts p used).used
  unfolding step_of
  step_meets extend p used =
      let P : Step → Type 0 = λ s. Meets p used s.item s.used in
      either_way P (nat_lt p (end_of p used)) _ _ (λ _. refl) (row_meets extend p used (chain_of read p used) refl)

-- ---- how far one step goes

abbrev pub IsLong : Range → Type 0
IsLong r = r.0 + 4 ≤ r.1

module _ (read : Reading) (len : ℕ) (stands : IsReading read len) where
  skip_of_kind : (k : FrameKind) (size : ℕ) → 20 ≤ size → 4 ≤ by_kind k size 4 4 size size
  skip_of_kind Deleted size h = omega arith
  skip_of_kind Whole size h = omega arith
  skip_of_kind Start size h = omega arith
  skip_of_kind Middle size h = omega arith
  skip_of_kind End size h = omega arith

  skip_least : (extend : Bool) (p : ℕ) (o : Option Block) → read p ≡ o → 4 ≤ skip_by extend o
  skip_least extend p None e = omega arith
  skip_least true p (Some b) e = omega arith
  skip_least false p (Some b) e = skip_of_kind b.kind b.size (stands p b e).least

  module _ (extend : Bool) (accepts : List ℕ → Bool) where
    row_far : (p : ℕ) (used : List Range) (o : Option (List Block)) → chain_of read p used ≡ o → p + 4 ≤ (row_step extend read accepts p used o).to
    row_far p used None e = omega (arith, skip_least extend p (read p) refl)
    row_far p used (Some []) e = omega (arith, skip_least extend p (read p) refl)
    row_far p used (Some (b ∷ bs)) e =
        let least = (stands p b (first_block read p used b bs (chain_sound read p used (b ∷ bs) e))).least in
        let P : Step → Type 0 = λ s. p + 4 ≤ s.to in
        either_way P (accepts (row_bytes (b ∷ bs))) _ _ (λ _. omega arith) (omega (arith, skip_least extend p (read p) refl))

    pub step_after : (p : ℕ) (used : List Range) → p < (step_of extend read accepts p used).to
    unfolding step_of
    step_after p used =
        let far = row_far p used (chain_of read p used) refl in
        let P : Step → Type 0 = λ s. p < s.to in
        either_way P (nat_lt p (end_of p used)) _ _ (λ t. ltb-true p (end_of p used) t) (omega (arith, far))

    -- ---- more fuel changes nothing

    pub items_enough : (n m p : ℕ) (used : List Range) → len ≤ p + n → len ≤ p + m → items extend read len accepts n p used ≡ items extend read len accepts m p used
    unfolding items
    items_enough zero zero p used h k = refl
    items_enough zero (suc m) p used h k =
        let over : nat_le len p ≡ true = le-leb _ _ (omega arith) in rw over refl
    items_enough (suc n) zero p used h k =
        let over : nat_le len p ≡ true = le-leb _ _ (omega arith) in rw over refl
    items_enough (suc n) (suc m) p used h k =
        let s = step_of extend read accepts p used in
        let after = step_after p used in
        let ih = items_enough n m s.to s.used (omega arith) (omega arith) in
        ap (λ (x : List Item). cond (nat_le len p) [] (option_to_list s.item ++ x)) ih

    pub items_rest : (n p : ℕ) (used : List Range) → len ≤ p + n → items extend read len accepts n p used ≡ rest extend read len accepts p used
    unfolding rest
    items_rest n p used h = items_enough n (len - p) p used h (omega arith)

    pub rest_end : (p : ℕ) (used : List Range) → len ≤ p → rest extend read len accepts p used ≡ []
    unfolding rest items
    rest_end p used h = items_enough (len - p) 0 p used (omega arith) (omega arith)

    pub rest_step : (p : ℕ) (used : List Range) → p < len → rest extend read len accepts p used ≡ option_to_list (step_of extend read accepts p used).item ++ rest extend read len accepts (step_of extend read accepts p used).to (step_of extend read accepts p used).used
    unfolding rest items
    rest_step p used h =
        let s = step_of extend read accepts p used in
        let after = step_after p used in
        let under : nat_le len p ≡ false = lt-leb _ _ h in
        let one = items_enough (len - p) (suc (len - p - 1)) p used (omega arith) (omega arith) in
        let more = items_enough (len - p - 1) (len - s.to) s.to s.used (omega arith) (omega arith) in
        one ∙ (rw (under, more) refl)

    -- ---- how many places

    end_far : (p : ℕ) (used : List Range) → AllByRecursion IsLong used → p < end_of p used → p + 4 ≤ end_of p used
    end_far p [] good h = absurd (omega arith)
    end_far p (r ∷ used) good h = by_first (r.0 == p) refl (end_far p used good.1) h
      where
        by_first : (b : Bool) → (r.0 == p) ≡ b → (p < end_of p used → p + 4 ≤ end_of p used) → p < cond b (max r.1 (end_of p used)) (end_of p used) → p + 4 ≤ cond b (max r.1 (end_of p used)) (end_of p used)
        by_first true e ih k = let same : r.0 ≡ p = eqb-true _ _ e in let far : r.0 + 4 ≤ r.1 = good.0 in omega arith
        by_first false e ih k = ih k

    step_far : (p : ℕ) (used : List Range) → AllByRecursion IsLong used → p + 4 ≤ (step_of extend read accepts p used).to
    unfolding step_of
    step_far p used good =
        let P : Step → Type 0 = λ s. p + 4 ≤ s.to in
        either_way P (nat_lt p (end_of p used)) _ _ (λ t. end_far p used good (ltb-true p (end_of p used) t)) (row_far p used (chain_of read p used) refl)

    tail_long : (n : Option ℕ) (bs : List Block) → IsTail read n bs → AllByRecursion IsLong (ranges bs)
    tail_long None bs t = absurd t
    tail_long (Some p) [] t = absurd t
    tail_long (Some p) (b ∷ []) t = (omega (arith, (stands p b t.0).least), tt)
    tail_long (Some p) (b ∷ c ∷ bs) t = (omega (arith, (stands p b t.0).least), tail_long b.next (c ∷ bs) t.2)

    chain_long : (p : ℕ) (bs : List Block) → AreLinked read p bs → AllByRecursion IsLong (ranges bs)
    chain_long p [] t = absurd t
    chain_long p (b ∷ []) t = (omega (arith, (stands p b t.0).least), tt)
    chain_long p (b ∷ c ∷ bs) t = (omega (arith, (stands p b t.0).least), tail_long b.next (c ∷ bs) t.2)

    all_append : (xs ys : List Range) → AllByRecursion IsLong xs → AllByRecursion IsLong ys → AllByRecursion IsLong (xs ++ ys)
    all_append [] ys a b = b
    all_append (x ∷ xs) ys a b = (a.0, all_append xs ys a.1 b)

    meets_long : (p : ℕ) (used : List Range) (o : Option Item) (now : List Range) → Meets read accepts p used o now → AllByRecursion IsLong used → AllByRecursion IsLong now
    meets_long p used None now m good = subst (AllByRecursion IsLong) (sym m) good
    meets_long p used (Some (row r)) now m good = subst (AllByRecursion IsLong) (sym m.4) (all_append used (ranges m.0) good (chain_long p m.0 m.1.linked))
    meets_long p used (Some (free a)) now m good = subst (AllByRecursion IsLong) (sym m.4) good

    places_few : (fuel p : ℕ) (used : List Range) → AllByRecursion IsLong used → 4 * length (places extend read len accepts fuel p used) ≤ len - p + 3
    unfolding places
    places_few zero p used good = omega arith
    places_few (suc fuel) p used good =
        let s = step_of extend read accepts p used in
        let far = step_far p used good in
        let ih = places_few fuel s.to s.used (meets_long p used s.item s.used (step_meets read accepts extend p used) good) in
        by_end (nat_le len p) (places extend read len accepts fuel s.to s.used) refl (λ under. omega arith)
      where
        by_end : (b : Bool) (more : List ℕ) → nat_le len p ≡ b → (p < len → 4 * length more + 4 ≤ len - p + 3) → 4 * length (cond b [] (p ∷ more)) ≤ len - p + 3
        by_end true more e h = omega arith
        by_end false more e h = omega (arith, h (leb-false _ _ e))

    -- the recursion stands at no more than a place for each four bytes, and one
    pub places_below : (fuel : ℕ) → length (places extend read len accepts fuel 0 []) ≤ len / 4 + 1
    places_below fuel = omega (arith, places_few fuel 0 [] tt)

    -- ---- what is met

    drop_used : (used : List Range) (r : Range) (more : List Range) → is_apart r (used ++ more) ≡ true → is_apart r more ≡ true
    drop_used [] r more e = e
    drop_used (x ∷ used) r more e = drop_used used r more (both (are_apart r x) (is_apart r (used ++ more)) e).1

    apart_less : (used more rs : List Range) → AreApart (used ++ more) rs → AreApart more rs
    apart_less used more [] a = tt
    apart_less used more (r ∷ rs) a = (drop_used used r more a.0, apart_less used (more ++ r ∷ []) rs (subst (λ (u : List Range). AreApart u rs) (append_assoc used more (r ∷ [])) a.1))

    apart_join : (used xs ys : List Range) → AreApart used xs → AreApart (used ++ xs) ys → AreApart used (xs ++ ys)
    apart_join used [] ys a b = subst (λ (u : List Range). AreApart u ys) (append-nil used) b
    apart_join used (x ∷ xs) ys a b = (a.0, apart_join (used ++ x ∷ []) xs ys a.1 (subst (λ (u : List Range). AreApart u ys) (sym (append_assoc used (x ∷ []) xs)) b))

    alone : (p : ℕ) (used : List Range) (bs : List Block) → IsChain read p used bs → IsChain read p [] bs
    alone p used bs t = record { linked = t.linked; filled = t.filled; whole = t.whole; apart = apart_less used [] (ranges bs) (subst (λ (u : List Range). AreApart u (ranges bs)) (sym (append-nil used)) t.apart) }

    abbrev pub Fine : ℕ → List Range → List Item → Type 0
    Fine p used is = AllByRecursion (IsItemOf read accepts) is × AreApart used (ranges_of (rows_of is)) × AreRising p (rows_of is)

    lower : (low more : ℕ) (rs : List Row) → more ≤ low → AreRising low rs → AreRising more rs
    lower low more [] le h = tt
    lower low more (r ∷ rs) le h = (omega (arith, h.0), h.1)

    met_more : (p : ℕ) (used : List Range) (o : Option Item) (now : List Range) (is : List Item) → Meets read accepts p used o now → Fine (p + 1) now is → Fine p used (option_to_list o ++ is)
    met_more p used None now is m f = (f.0, subst (λ (u : List Range). AreApart u (ranges_of (rows_of is))) m f.1, lower (p + 1) p (rows_of is) (omega arith) f.2)
    met_more p used (Some (row r)) now is m f =
        let at : r.at ≡ p = ap (λ (x : Row). x.at) m.2 in
        let bytes : r.bytes ≡ row_bytes m.0 = ap (λ (x : Row). x.bytes) m.2 in
        let blocks : r.blocks ≡ ranges m.0 = ap (λ (x : Row). x.blocks) m.2 in
        let is_row : IsRowOf read accepts r = record { chain = m.0; is = subst (λ (q : ℕ). IsChain read q [] m.0) (sym at) (alone p used m.0 m.1); bytes = bytes; blocks = blocks; packs = ap accepts bytes ∙ m.3 } in
        let here : AreApart used r.blocks = subst (AreApart used) (sym blocks) m.1.apart in
        let then : AreApart (used ++ r.blocks) (ranges_of (rows_of is)) = subst (λ (u : List Range). AreApart u (ranges_of (rows_of is))) (m.4 ∙ ap (λ (x : List Range). used ++ x) (sym blocks)) f.1 in
        ((is_row, f.0), apart_join used r.blocks (ranges_of (rows_of is)) here then, (omega (arith, at), subst (λ (q : ℕ). AreRising (q + 1) (rows_of is)) (sym at) f.2))
    met_more p used (Some (free a)) now is m f =
        let b = m.0 in
        let at : a.0 ≡ p = ap (λ (x : Range). x.0) m.3 ∙ (stands p b m.1).at in
        ((record { block = b; here = ap read at ∙ m.1; kind = m.2; range = m.3 }, f.0), subst (λ (u : List Range). AreApart u (ranges_of (rows_of is))) m.4 f.1, lower (p + 1) p (rows_of is) (omega arith) f.2)

    fine_lower : (low more : ℕ) (used : List Range) (is : List Item) → more ≤ low → Fine low used is → Fine more used is
    fine_lower low more used is le f = (f.0, f.1, lower low more (rows_of is) le f.2)

    items_fine : (fuel p : ℕ) (used : List Range) → Fine p used (items extend read len accepts fuel p used)
    unfolding items
    items_fine zero p used = (tt, tt, tt)
    items_fine (suc fuel) p used =
        let s = step_of extend read accepts p used in
        let after = step_after p used in
        either_way (Fine p used) (nat_le len p) _ _ (λ _. (tt, tt, tt)) (met_more p used s.item s.used _ (step_meets read accepts extend p used) (fine_lower s.to (p + 1) s.used _ (omega arith) (items_fine fuel s.to s.used)))

    pub rest_fine : (p : ℕ) (used : List Range) → Fine p used (rest extend read len accepts p used)
    unfolding rest
    rest_fine p used = items_fine (len - p) p used

-- ---- the bytes of each row pack a row

module _ (extend : Bool) (read : Reading) (len : ℕ) (accepts : List ℕ → Bool) where
  abbrev pub AreAccepted : List Row → Type 0
  AreAccepted rows = AllByRecursion (λ r. accepts r.bytes ≡ true) rows

  accepted_more : (p : ℕ) (used : List Range) (o : Option Item) (now : List Range) (is : List Item) → Meets read accepts p used o now → AreAccepted (rows_of is) → AreAccepted (rows_of (option_to_list o ++ is))
  accepted_more p used None now is m rows = rows
  accepted_more p used (Some (row r)) now is m rows = (ap accepts (ap (λ (x : Row). x.bytes) m.2) ∙ m.3, rows)
  accepted_more p used (Some (free a)) now is m rows = rows

  items_accepted : (fuel p : ℕ) (used : List Range) → AreAccepted (rows_of (items extend read len accepts fuel p used))
  unfolding items
  items_accepted zero p used = tt
  items_accepted (suc fuel) p used =
      let s = step_of extend read accepts p used in
      either_way (λ (is : List Item). AreAccepted (rows_of is)) (nat_le len p) _ _ (λ _. tt) (accepted_more p used s.item s.used _ (step_meets read accepts extend p used) (items_accepted fuel s.to s.used))

  pub rest_accepted : (p : ℕ) (used : List Range) → AreAccepted (rows_of (rest extend read len accepts p used))
  unfolding rest
  rest_accepted p used = items_accepted (len - p) p used
