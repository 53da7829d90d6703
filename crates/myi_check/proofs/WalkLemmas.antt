-- The steps of a walk along the list of deleted blocks.
use Rattle.std.proofs.Common.{◌≡◌, ℕ, zero, suc, Bool, true, false, List, length, replicate, Option, Some, None, refl, sym, ap, ◌∙◌}
use Rattle.myi_pair.specs.FirstBad.{without, least, list_bad}
use Rattle.myi_check.specs.ListMet.{unmet}
use Rattle.myi_check.proofs.UnmetLemmas.{unmet_fresh}

module _ (next : ℕ → Option ℕ) (names : ℕ → Option ℕ → Bool) where
  pub list_ended : (n : ℕ) (left : List ℕ) (before : Option ℕ) → list_bad next names n left before None ≡ least left
  list_ended zero left before = refl
  list_ended (suc n) left before = refl

  -- at a place that is not left
  pub list_stopped : (n : ℕ) (left : List ℕ) (before : Option ℕ) (p : ℕ) → without p left ≡ None → list_bad next names n left before (Some p) ≡ Some p
  list_stopped zero left before p out = refl
  list_stopped (suc n) left before p out = rw out refl

  -- at a block that does not name the one before it
  pub list_broken : (n : ℕ) (left others : List ℕ) (before : Option ℕ) (p : ℕ) → without p left ≡ Some others → names p before ≡ false → list_bad next names n left before (Some p) ≡ Some p
  list_broken zero left others before p out named = refl
  list_broken (suc n) left others before p out named = rw (out, named) refl

  pub list_on : (n k : ℕ) (left others : List ℕ) (before : Option ℕ) (p : ℕ) → n ≡ suc k → without p left ≡ Some others → names p before ≡ true → list_bad next names n left before (Some p) ≡ list_bad next names k others (Some p) (next p)
  list_on n k left others before p is out named = ap (λ m. list_bad next names m left before (Some p)) is ∙ on
    where
      on : list_bad next names (suc k) left before (Some p) ≡ list_bad next names k others (Some p) (next p)
      on = rw (out, named) refl

  pub list_spent : (n : ℕ) (left : List ℕ) (before : Option ℕ) (p : ℕ) → n ≡ 0 → list_bad next names n left before (Some p) ≡ Some p
  list_spent n left before p none = ap (λ m. list_bad next names m left before (Some p)) none

  -- the same, where the list is at a place, and what is ahead is the whole
  pub ended_at : (n : ℕ) (left : List ℕ) (before at whole : Option ℕ) → at ≡ None → list_bad next names n left before at ≡ whole → least left ≡ whole
  ended_at n left before at whole is ahead = sym (list_ended n left before) ∙ ap (list_bad next names n left before) (sym is) ∙ ahead

  pub stopped_at : (n : ℕ) (left : List ℕ) (before at whole : Option ℕ) (p : ℕ) → at ≡ Some p → without p left ≡ None → list_bad next names n left before at ≡ whole → Some p ≡ whole
  stopped_at n left before at whole p is out ahead = sym (list_stopped n left before p out) ∙ ap (list_bad next names n left before) (sym is) ∙ ahead

  pub broken_at : (n : ℕ) (left others : List ℕ) (before at whole : Option ℕ) (p : ℕ) → at ≡ Some p → without p left ≡ Some others → names p before ≡ false → list_bad next names n left before at ≡ whole → Some p ≡ whole
  broken_at n left others before at whole p is out named ahead = sym (list_broken n left others before p out named) ∙ ap (list_bad next names n left before) (sym is) ∙ ahead

  pub spent_at : (n : ℕ) (left : List ℕ) (before at whole : Option ℕ) (p : ℕ) → n ≡ 0 → at ≡ Some p → list_bad next names n left before at ≡ whole → Some p ≡ whole
  spent_at n left before at whole p none is ahead = sym (list_spent n left before p none) ∙ ap (list_bad next names n left before) (sym is) ∙ ahead

  pub went_on : (n : ℕ) (left others : List ℕ) (before at whole q : Option ℕ) (p : ℕ) → at ≡ Some p → without p left ≡ Some others → names p before ≡ true → q ≡ next p → list_bad next names (suc n) left before at ≡ whole → list_bad next names n others (Some p) q ≡ whole
  went_on n left others before at whole q p is out named follows ahead =
      ap (list_bad next names n others (Some p)) follows ∙ sym (list_on (suc n) n left others before p refl out named) ∙ ap (list_bad next names (suc n) left before) (sym is) ∙ ahead

  pub begun : (n : ℕ) (places : List ℕ) (flags : List Bool) (at head : Option ℕ) → n ≡ length places → flags ≡ replicate (length places) false → at ≡ head → list_bad next names n (unmet places flags) None at ≡ list_bad next names (length places) places None head
  begun n places flags at head many none is =
      ap (λ k. list_bad next names k (unmet places flags) None at) many
      ∙ ap (λ (fs : List Bool). list_bad next names (length places) (unmet places fs) None at) none
      ∙ ap (λ (ps : List ℕ). list_bad next names (length places) ps None at) (unmet_fresh places)
      ∙ ap (list_bad next names (length places) places None) is
