-- Rows and deleted blocks are met in order of their places.
use Rattle.std.proofs.Common.{◌≡◌, ℕ, zero, suc, ◌+◌, ◌-◌, ◌<◌, ◌≤◌, Bool, true, false, List, [], ◌∷◌, ◌++◌, Option, Some, None, refl, ap, ◌∙◌, arith}
use Rattle.std.specs.Prelude.{nat_lt, nat_le, option_to_list}
use Rattle.myi_base.specs.Ranges.{Range}
use Rattle.myi_frames.specs.declared.form.FrameKind.{FrameKind}
use Rattle.myi_frames.specs.declared.form.FrameKind.TheVariants.{Deleted, Whole, Start, Middle, End}
use Rattle.myi_frames.specs.Block.{Block}
use Rattle.myi_chain.specs.Chain.{Reading, IsReading, range_of, row_bytes, by_kind, chain_of}
use Rattle.myi_chain.specs.Readable.{Row, Item, row, free, Step, end_of, skip_by, free_by, row_step, step_of, items, rest}
use Rattle.myi_chain.specs.Meeting.{ItemsRise}
use Rattle.myi_chain.proofs.ReadableLemmas.{either_way, Meets, step_meets, step_after}

items_lower : (low more : ℕ) (is : List Item) → more ≤ low → ItemsRise low is → ItemsRise more is
items_lower low more [] le h = tt
items_lower low more (row r ∷ is) le h = (omega (arith, h.0), h.1)
items_lower low more (free a ∷ is) le h = (omega (arith, h.0), h.1)

module _ (read : Reading) (len : ℕ) (stands : IsReading read len) (extend : Bool) (accepts : List ℕ → Bool) where
  -- a step that passes a deleted block goes behind it
  abbrev GoesBehind : Step → Type 0
  GoesBehind s = (a : Range) → s.item ≡ Some (free a) → a.1 ≤ s.to

  free_behind : (extend : Bool) (p : ℕ) (used : List Range) (o : Option Block) → read p ≡ o → GoesBehind (record { item = free_by extend o; to = p + skip_by extend o; used = used })
  free_behind extend p used None e a is = absurd cc
  free_behind true p used (Some b) e a is = absurd cc
  free_behind false p used (Some b) e a is = of_kind b.kind is
    where
      of_kind : (k : FrameKind) → by_kind k (Some (free (range_of b))) None None None None ≡ Some (free a) → a.1 ≤ p + by_kind k b.size 4 4 b.size b.size
      of_kind Deleted is = let same : range_of b ≡ a = cc in omega (arith, ap (λ (x : Range). x.1) same, (stands p b e).at)
      of_kind Whole is = absurd cc
      of_kind Start is = absurd cc
      of_kind Middle is = absurd cc
      of_kind End is = absurd cc

  row_behind : (p : ℕ) (used : List Range) (o : Option (List Block)) → GoesBehind (row_step extend read accepts p used o)
  row_behind p used None = free_behind extend p used (read p) refl
  row_behind p used (Some []) = free_behind extend p used (read p) refl
  row_behind p used (Some (b ∷ bs)) = either_way GoesBehind (accepts (row_bytes (b ∷ bs))) _ _ (λ _ a is. absurd cc) (free_behind extend p used (read p) refl)

  step_behind : (p : ℕ) (used : List Range) → GoesBehind (step_of extend read accepts p used)
  unfolding step_of
  step_behind p used = either_way GoesBehind (nat_lt p (end_of p used)) _ _ (λ _ a is. absurd cc) (row_behind p used (chain_of read p used))

  rise_more : (p to : ℕ) (used : List Range) (o : Option Item) (now : List Range) (is : List Item) → Meets read accepts p used o now → p < to → ((a : Range) → o ≡ Some (free a) → a.1 ≤ to) → ItemsRise to is → ItemsRise p (option_to_list o ++ is)
  rise_more p to used None now is m later behind rise = items_lower to p is (omega arith) rise
  rise_more p to used (Some (row r)) now is m later behind rise =
      let at : r.at ≡ p = ap (λ (x : Row). x.at) m.2 in
      (omega (arith, at), items_lower to (r.at + 1) is (omega (arith, at)) rise)
  rise_more p to used (Some (free a)) now is m later behind rise =
      let at : a.0 ≡ p = ap (λ (x : Range). x.0) m.3 ∙ (stands p m.0 m.1).at in
      (omega (arith, at), items_lower to a.1 is (behind a refl) rise)

  items_rise : (fuel p : ℕ) (used : List Range) → ItemsRise p (items extend read len accepts fuel p used)
  unfolding items
  items_rise zero p used = tt
  items_rise (suc fuel) p used =
      let s = step_of extend read accepts p used in
      either_way (ItemsRise p) (nat_le len p) _ _ (λ _. tt) (rise_more p s.to used s.item s.used _ (step_meets read accepts extend p used) (step_after read len stands extend accepts p used) (step_behind p used) (items_rise fuel s.to s.used))

  pub rest_rises : (p : ℕ) (used : List Range) → ItemsRise p (rest extend read len accepts p used)
  unfolding rest
  rest_rises p used = items_rise (len - p) p used
