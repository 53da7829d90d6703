-- A file of rows and deleted blocks is read as what stands in it.
use Rattle.std.proofs.Common.{◌≡◌, ℕ, ◌+◌, ◌<◌, ◌≤◌, ◌⊎◌, Bool, true, false, List, [], ◌∷◌, ◌++◌, length, max, Option, Some, None, refl, sym, ap, subst, ◌∙◌, arith, inl, inr, append_assoc}
use Rattle.std.specs.Prelude.{◌==◌, nat_lt, nat_le, ◌||◌, option_to_list, if◌then◌else◌}
use Rattle.std.specs.List.{AllByRecursion}
use Rattle.std.proofs.lemmas.Bool.{lt-ltb, le-ltb, leb-true, eqb-true, ne_eqb}
use Rattle.std.proofs.lemmas.List.{append-nil}
use Rattle.myi_base.specs.Ranges.{Range, are_apart, is_apart}
use Rattle.myi_frames.specs.declared.form.FrameKind.TheVariants.{Deleted, Middle, End}
use Rattle.myi_frames.specs.Block.{Block, block_of}
use Rattle.myi_chain.specs.declared.chain.Link.{Link}
use Rattle.myi_chain.specs.declared.chain.Link.TheVariants.{Broken, Last, More}
use Rattle.myi_chain.specs.Chain.{Reading, IsReading, IsTail, AreLinked, AreApart, range_of, ranges, row_bytes, by_kind, chain_of, may_take, first_link}
use Rattle.myi_chain.specs.Readable.{Item, row, free, Step, end_of, skip_by, free_by, row_at, step_of, rest, items_in}
use Rattle.myi_chain.specs.Parts.{Part, first, further, deleted, block_in, parts_met, row_ranges, Follow, IsRowIn, IsPart, IsMadeOf}
use Rattle.myi_chain.proofs.ChainLemmas.{both, both_again, chain_complete}
use Rattle.myi_chain.proofs.BlockLemmas.{blocks_read}
use Rattle.myi_chain.proofs.ReadableLemmas.{rest_end, rest_step}

-- ---- used ranges

-- a range that begins at p ends at q, where it has a block of the file
abbrev pub Real : Reading → Range → Type 0
Real read r = (b : Block) → read r.0 ≡ Some b → r.1 ≡ r.0 + b.size

abbrev pub Long : Range → Type 0
Long r = r.0 < r.1

or_so : (a b : Bool) → (a || b) ≡ true → (a ≡ true) ⊎ (b ≡ true)
or_so true b e = inl refl
or_so false b e = inr e

apart_clear : (p q : ℕ) (used : List Range) → p < q → AllByRecursion Long used → is_apart (p, q) used ≡ true → end_of p used ≡ 0
apart_clear p q [] lt long e = refl
apart_clear p q (r ∷ used) lt long e =
    let t = both (are_apart (p, q) r) (is_apart (p, q) used) e in
    let other : (r.0 == p) ≡ false = ne_eqb _ _ (differs (or_so (nat_le q r.0) (nat_le r.1 p) t.0)) in
    rw other (apart_clear p q used lt long.1 t.1)
  where
    differs : (nat_le q r.0 ≡ true) ⊎ (nat_le r.1 p ≡ true) → r.0 ≡ p → ⊥
    differs (inl a) e = omega (arith, leb-true _ _ a)
    differs (inr a) e = omega (arith, leb-true _ _ a, long.0)

-- all used ranges that begin at p end where the block there ends
real_end : (read : Reading) (p : ℕ) (b : Block) (used : List Range) → read p ≡ Some b → AllByRecursion (Real read) used → (end_of p used ≡ 0) ⊎ (end_of p used ≡ p + b.size)
real_end read p b [] e real = inl refl
real_end read p b (r ∷ used) e real = by_test (r.0 == p) refl (real_end read p b used e real.1)
  where
    by_test : (t : Bool) → (r.0 == p) ≡ t → (end_of p used ≡ 0) ⊎ (end_of p used ≡ p + b.size) → ((if t then max r.1 (end_of p used) else end_of p used) ≡ 0) ⊎ ((if t then max r.1 (end_of p used) else end_of p used) ≡ p + b.size)
    by_test false t ih = ih
    by_test true t (inl ih) = let at = eqb-true _ _ t in let end = real.0 b (subst (λ (x : ℕ). read x ≡ Some b) (sym at) e) in inr (omega arith)
    by_test true t (inr ih) = let at = eqb-true _ _ t in let end = real.0 b (subst (λ (x : ℕ). read x ≡ Some b) (sym at) e) in inr (omega arith)

-- ---- the three kinds of step

module _ (read : Reading) (accepts : List ℕ → Bool) where
  no_link : (b : Block) (used : List Range) → (b.kind ≡ Deleted) ⊎ ((b.kind ≡ Middle) ⊎ (b.kind ≡ End)) → first_link b used ≡ Broken
  no_link b used k = by_test (may_take b used)
    where
      by_kinds : (x y : Link) → (b.kind ≡ Deleted) ⊎ ((b.kind ≡ Middle) ⊎ (b.kind ≡ End)) → by_kind b.kind Broken x y Broken Broken ≡ Broken
      by_kinds x y (inl k) = rw k refl
      by_kinds x y (inr (inl k)) = rw k refl
      by_kinds x y (inr (inr k)) = rw k refl

      by_test : (t : Bool) → (if t then by_kind b.kind Broken (if length b.bytes == b.rec_len then Last else Broken) (if nat_lt (length b.bytes) b.rec_len then More else Broken) Broken Broken else Broken) ≡ Broken
      by_test true = by_kinds (if length b.bytes == b.rec_len then Last else Broken) (if nat_lt (length b.bytes) b.rec_len then More else Broken) k
      by_test false = refl

  pub no_chain : (p : ℕ) (b : Block) (used : List Range) → read p ≡ Some b → (b.kind ≡ Deleted) ⊎ ((b.kind ≡ Middle) ⊎ (b.kind ≡ End)) → chain_of read p used ≡ None
  unfolding chain_of
  no_chain p b used e k = let broken = no_link b used k in rw (e, broken) refl

  deleted_step : (p : ℕ) (b : Block) (used : List Range) → read p ≡ Some b → b.kind ≡ Deleted → end_of p used ≡ 0 → step_of false read accepts p used ≡ record { item = Some (free (range_of b)); to = p + b.size; used = used }
  unfolding step_of
  deleted_step p b used e k clear =
      let none = no_chain p b used e (inl k) in
      let under : nat_lt p 0 ≡ false = le-ltb _ _ (omega arith) in
      rw (clear, under, none, e, k) refl

  skip_kind : (b : Block) → (b.kind ≡ Middle) ⊎ (b.kind ≡ End) → (skip_by false (Some b) ≡ b.size) × (free_by false (Some b) ≡ None)
  skip_kind b (inl k) = (rw k refl, rw k refl)
  skip_kind b (inr k) = (rw k refl, rw k refl)

  further_step : (p : ℕ) (b : Block) (used : List Range) → read p ≡ Some b → (b.kind ≡ Middle) ⊎ (b.kind ≡ End) → 0 < b.size → (end_of p used ≡ 0) ⊎ (end_of p used ≡ p + b.size) → step_of false read accepts p used ≡ record { item = None; to = p + b.size; used = used }
  unfolding step_of
  further_step p b used e k some (inl clear) =
      let none = no_chain p b used e (inr k) in
      let under : nat_lt p 0 ≡ false = le-ltb _ _ (omega arith) in
      let s = skip_kind b k in
      let s0 = s.0 in
      let s1 = s.1 in
      rw (clear, under, none, e, s0, s1) refl
  further_step p b used e k some (inr over) =
      let under : nat_lt p (p + b.size) ≡ true = lt-ltb _ _ (omega arith) in
      rw (over, under) refl

  first_step : (p : ℕ) (b : Block) (bs : List Block) (used : List Range) → b.at ≡ p → chain_of read p used ≡ Some (b ∷ bs) → accepts (row_bytes (b ∷ bs)) ≡ true → end_of p used ≡ 0 → step_of false read accepts p used ≡ record { item = Some (row (row_at b.at (b ∷ bs))); to = p + b.size; used = used ++ ranges (b ∷ bs) }
  unfolding step_of
  first_step p b bs used at chain packs clear =
      let under : nat_lt p 0 ≡ false = le-ltb _ _ (omega arith) in
      rw (clear, under, chain, packs, ← at) refl

-- ---- the whole file

apart_front : (r : Range) (xs ys : List Range) → is_apart r (xs ++ ys) ≡ true → is_apart r xs ≡ true
apart_front r [] ys e = refl
apart_front r (x ∷ xs) ys e =
    let t = both (are_apart r x) (is_apart r (xs ++ ys)) e in
    let here = t.0 in
    let more = apart_front r xs ys t.1 in
    rw (here, more) refl

abbrev AllFree : List Range → List Range → Type 0
AllFree used xs = AllByRecursion (λ r. is_apart r used ≡ true) xs

all_front : (used more xs : List Range) → AllFree (used ++ more) xs → AllFree used xs
all_front used more [] h = tt
all_front used more (x ∷ xs) h = (apart_front x used more h.0, all_front used more xs h.1)

apart_split : (used xs ys : List Range) → AreApart used (xs ++ ys) → AllFree used xs × AreApart (used ++ xs) ys
apart_split used [] ys h = (tt, rw append-nil h)
apart_split used (x ∷ xs) ys h =
    let more = apart_split (used ++ x ∷ []) xs ys h.1 in
    ((h.0, all_front used (x ∷ []) xs more.0), subst (λ (u : List Range). AreApart u ys) (append_assoc used (x ∷ []) xs) more.1)

all_added : (P : Range → Type 0) (xs ys : List Range) → AllByRecursion P xs → AllByRecursion P ys → AllByRecursion P (xs ++ ys)
all_added P [] ys h k = k
all_added P (x ∷ xs) ys h k = (h.0, all_added P xs ys h.1 k)

module _ (read : Reading) (accepts : List ℕ → Bool) (len : ℕ) (stands : IsReading read len) where
  tail_stands : (n : Option ℕ) (bs : List Block) → IsTail read n bs → AllByRecursion (λ (b : Block). read b.at ≡ Some b) bs
  tail_stands None bs t = absurd t
  tail_stands (Some p) [] t = absurd t
  tail_stands (Some p) (b ∷ []) t = (ap read (stands p b t.0).at ∙ t.0, tt)
  tail_stands (Some p) (b ∷ c ∷ bs) t = (ap read (stands p b t.0).at ∙ t.0, tail_stands b.next (c ∷ bs) t.2)

  chain_blocks : (p : ℕ) (bs : List Block) → AreLinked read p bs → AllByRecursion (λ (b : Block). read b.at ≡ Some b) bs
  chain_blocks p [] t = absurd t
  chain_blocks p (b ∷ []) t = (ap read (stands p b t.0).at ∙ t.0, tt)
  chain_blocks p (b ∷ c ∷ bs) t = (ap read (stands p b t.0).at ∙ t.0, tail_stands b.next (c ∷ bs) t.2)

  -- a chain is found wherever its ranges are apart from the used ones
  apart_append : (r : Range) (xs ys : List Range) → is_apart r xs ≡ true → is_apart r ys ≡ true → is_apart r (xs ++ ys) ≡ true
  apart_append r [] ys e f = f
  apart_append r (x ∷ xs) ys e f =
      let t = both (are_apart r x) (is_apart r xs) e in both_again (are_apart r x) (is_apart r (xs ++ ys)) t.0 (apart_append r xs ys t.1 f)

  apart_of_both : (used before rs : List Range) → AllFree used rs → AreApart before rs → AreApart (used ++ before) rs
  apart_of_both used before [] f a = tt
  apart_of_both used before (r ∷ rs) f a =
      (apart_append r used before f.0 a.0, subst (λ (u : List Range). AreApart u rs) (sym (append_assoc used before (r ∷ []))) (apart_of_both used (before ++ r ∷ []) rs f.1 a.1))

  row_found : (b : Block) (bs : List Block) (used : List Range) → IsRowIn read accepts b bs → AllFree used (ranges (b ∷ bs)) → chain_of read b.at used ≡ Some (b ∷ bs)
  row_found b bs used r f =
      let t = r.chain in
      let apart : AreApart used (ranges (b ∷ bs)) = subst (λ (u : List Range). AreApart u (ranges (b ∷ bs))) (append-nil used) (apart_of_both used [] (ranges (b ∷ bs)) f t.apart) in
      chain_complete read b.at used (b ∷ bs) (record { linked = t.linked; filled = t.filled; whole = t.whole; apart = apart })

  blocks_real : (bs : List Block) → AllByRecursion (λ (b : Block). read b.at ≡ Some b) bs → AllByRecursion (Real read) (ranges bs)
  blocks_real [] h = tt
  blocks_real (b ∷ bs) h = (λ c e. by_same b c (sym h.0 ∙ e), blocks_real bs h.1)
    where
      by_same : (b c : Block) → Some b ≡ Some c → b.at + b.size ≡ b.at + c.size
      by_same b c e = let same : b ≡ c = cc in ap (λ (x : Block). b.at + x.size) same

  blocks_long : (bs : List Block) → AllByRecursion (λ (b : Block). read b.at ≡ Some b) bs → AllByRecursion Long (ranges bs)
  blocks_long [] h = tt
  blocks_long (b ∷ bs) h = let least = (stands b.at b h.0).least in (omega arith, blocks_long bs h.1)

  -- the parts end inside
  inside : (p : ℕ) (cs : List Part) → Follow len p cs → p ≤ len
  inside p [] h = omega arith
  inside p (c ∷ cs) h = omega (arith, inside (p + (block_in c).size) cs h.1)

  stepped : (p : ℕ) (used : List Range) (t : Step) → p < len → step_of false read accepts p used ≡ t → (is : List Item) → rest false read len accepts t.to t.used ≡ is → rest false read len accepts p used ≡ option_to_list t.item ++ is
  stepped p used t under e is more =
      rest_step read len stands false accepts p used under ∙ ap (λ (s : Step). option_to_list s.item ++ rest false read len accepts s.to s.used) e ∙ ap (λ (x : List Item). option_to_list t.item ++ x) more

  parts_rest : (rows : List Range) (cs : List Part) (p : ℕ) (used : List Range) → rows ≡ used ++ row_ranges cs → Follow len p cs → AllByRecursion (IsPart read accepts rows) cs → AreApart used (row_ranges cs) → AllByRecursion (Real read) used → AllByRecursion Long used → rest false read len accepts p used ≡ parts_met cs
  parts_rest rows [] p used all follow each apart real long = rest_end read len stands false accepts p used (omega arith)
  parts_rest rows (first b bs ∷ cs) p used all follow each apart real long =
      let at : b.at ≡ p = follow.0 in
      let r : IsRowIn read accepts b bs = each.0 in
      let stand = chain_blocks b.at (b ∷ bs) r.chain.linked in
      let here : read p ≡ Some b = subst (λ (x : ℕ). read x ≡ Some b) at stand.0 in
      let least = (stands p b here).least in
      let end = inside (p + b.size) cs follow.1 in
      let split = apart_split used (ranges (b ∷ bs)) (row_ranges cs) apart in
      let free_here : is_apart (p, p + b.size) used ≡ true = subst (λ (x : ℕ). is_apart (x, x + b.size) used ≡ true) at split.0.0 in
      let clear = apart_clear p (p + b.size) used (omega arith) long free_here in
      let chain : chain_of read p used ≡ Some (b ∷ bs) = subst (λ (x : ℕ). chain_of read x used ≡ Some (b ∷ bs)) at (row_found b bs used r split.0) in
      let step = first_step read accepts p b bs used at chain r.packs clear in
      let more = parts_rest rows cs (p + b.size) (used ++ ranges (b ∷ bs)) (all ∙ sym (append_assoc used (ranges (b ∷ bs)) (row_ranges cs))) follow.1 each.1 split.1 (all_added (Real read) used (ranges (b ∷ bs)) real (blocks_real (b ∷ bs) stand)) (all_added Long used (ranges (b ∷ bs)) long (blocks_long (b ∷ bs) stand)) in
      stepped p used (record { item = Some (row (row_at b.at (b ∷ bs))); to = p + b.size; used = used ++ ranges (b ∷ bs) }) (omega arith) step (parts_met cs) more
  parts_rest rows (further b ∷ cs) p used all follow each apart real long =
      let at : b.at ≡ p = follow.0 in
      let here : read p ≡ Some b = subst (λ (x : ℕ). read x ≡ Some b) at each.0.0 in
      let least = (stands p b here).least in
      let end = inside (p + b.size) cs follow.1 in
      let step = further_step read accepts p b used here each.0.1 (omega arith) (real_end read p b used here real) in
      let more = parts_rest rows cs (p + b.size) used all follow.1 each.1 apart real long in
      stepped p used (record { item = None; to = p + b.size; used = used }) (omega arith) step (parts_met cs) more
  parts_rest rows (deleted b ∷ cs) p used all follow each apart real long =
      let at : b.at ≡ p = follow.0 in
      let here : read p ≡ Some b = subst (λ (x : ℕ). read x ≡ Some b) at each.0.0 in
      let least = (stands p b here).least in
      let end = inside (p + b.size) cs follow.1 in
      let far : is_apart (range_of b) (used ++ row_ranges cs) ≡ true = subst (λ (u : List Range). is_apart (range_of b) u ≡ true) all each.0.2 in
      let free_here : is_apart (p, p + b.size) used ≡ true = subst (λ (x : ℕ). is_apart (x, x + b.size) used ≡ true) at (apart_front (range_of b) used (row_ranges cs) far) in
      let clear = apart_clear p (p + b.size) used (omega arith) long free_here in
      let step = deleted_step read accepts p b used here each.0.1 clear in
      let more = parts_rest rows cs (p + b.size) used all follow.1 each.1 apart real long in
      stepped p used (record { item = Some (free (range_of b)); to = p + b.size; used = used }) (omega arith) step (parts_met cs) more

  -- what stands in the file is what is read
  pub parts_read : (parts : List Part) → IsMadeOf read accepts len parts → rest false read len accepts 0 [] ≡ parts_met parts
  parts_read parts f = parts_rest (row_ranges parts) parts 0 [] refl f.follow f.each f.apart tt tt

pub made_read : (accepts : List ℕ → Bool) (d : List ℕ) (parts : List Part) → IsMadeOf (block_of d) accepts (length d) parts → items_in false accepts d ≡ parts_met parts
unfolding items_in
made_read accepts d parts f = parts_read (block_of d) accepts (length d) (blocks_read d) parts f
