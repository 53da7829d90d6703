-- What is met at a place of a file, case by case.
use Rattle.std.proofs.Common.{◌≡◌, ◌∙◌, ℕ, zero, suc, ◌+◌, ◌<◌, ◌≤◌, ◌⊎◌, inl, inr, Bool, true, false, cond, List, [], ◌∷◌, ◌++◌, Option, Some, None, refl, ap, arith}
use Rattle.std.specs.Prelude.{nat_lt, nat_le, option_to_list}
use Rattle.std.proofs.lemmas.Bool.{lt-ltb, le-ltb, ltb-true, ltb-false}
use Rattle.myi_base.specs.Ranges.{Range}
use Rattle.myi_frames.specs.declared.form.FrameKind.TheVariants.{Deleted, Whole, Start, Middle, End}
use Rattle.myi_frames.specs.Block.{Block}
use Rattle.myi_chain.specs.Chain.{Reading, IsReading, IsChain, range_of, ranges, row_bytes, chain_of}
use Rattle.myi_chain.specs.Readable.{Item, row, free, Step, end_of, past, row_at, row_step, step_of, items, rest}
use Rattle.myi_chain.specs.Meeting.{HasNoRow}
use Rattle.myi_chain.proofs.ChainLemmas.{chain_sound, chain_complete}
use Rattle.myi_chain.proofs.ReadableLemmas.{first_block, rest_step}
use Rattle.myi_chain.proofs.PartLemmas.{no_chain}

module _ (extend : Bool) (read : Reading) (accepts : List ℕ → Bool) where
  clear_step : (p : ℕ) (used : List Range) (o : Option (List Block)) → end_of p used ≤ p → chain_of read p used ≡ o → step_of extend read accepts p used ≡ row_step extend read accepts p used o
  unfolding step_of
  clear_step p used o clear e = let under : nat_lt p (end_of p used) ≡ false = le-ltb _ _ clear in rw (under, e) refl

  used_step : (p : ℕ) (used : List Range) → p < end_of p used → step_of extend read accepts p used ≡ record { item = None; to = end_of p used; used = used }
  unfolding step_of
  used_step p used over = let above : nat_lt p (end_of p used) ≡ true = lt-ltb _ _ over in rw above refl

  row_met : (p : ℕ) (used : List Range) (b : Block) (bs : List Block) → end_of p used ≤ p → IsChain read p used (b ∷ bs) → accepts (row_bytes (b ∷ bs)) ≡ true → step_of extend read accepts p used ≡ record { item = Some (row (row_at p (b ∷ bs))); to = p + b.size; used = used ++ ranges (b ∷ bs) }
  row_met p used b bs clear chain packs = clear_step p used (Some (b ∷ bs)) clear (chain_complete read p used (b ∷ bs) chain) ∙ rw packs refl

  past_step : (p : ℕ) (used : List Range) → end_of p used ≤ p → HasNoRow read accepts p used → step_of extend read accepts p used ≡ past extend read p used
  past_step p used clear none = clear_step p used (chain_of read p used) clear refl ∙ by_chain (chain_of read p used) refl
    where
      by_chain : (o : Option (List Block)) → chain_of read p used ≡ o → row_step extend read accepts p used o ≡ past extend read p used
      by_chain None e = refl
      by_chain (Some []) e = refl
      by_chain (Some (b ∷ bs)) e = let no : accepts (row_bytes (b ∷ bs)) ≡ false = none (b ∷ bs) (chain_sound read p used (b ∷ bs) e) in rw no refl

no_block : (read : Reading) (p : ℕ) (used : List Range) → read p ≡ None → chain_of read p used ≡ None
unfolding chain_of
no_block read p used e = rw e refl

empty_past : (extend : Bool) (read : Reading) (p : ℕ) (used : List Range) → read p ≡ None → past extend read p used ≡ record { item = None; to = p + 4; used = used }
empty_past extend read p used e = rw e refl

start_past : (extend : Bool) (read : Reading) (p : ℕ) (used : List Range) (b : Block) → read p ≡ Some b → (b.kind ≡ Whole) ⊎ (b.kind ≡ Start) → past extend read p used ≡ record { item = None; to = p + 4; used = used }
start_past true read p used b e k = rw e refl
start_past false read p used b e (inl k) = rw (e, k) refl
start_past false read p used b e (inr k) = rw (e, k) refl

further_past : (read : Reading) (p : ℕ) (used : List Range) (b : Block) → read p ≡ Some b → (b.kind ≡ Middle) ⊎ (b.kind ≡ End) → past false read p used ≡ record { item = None; to = p + b.size; used = used }
further_past read p used b e (inl k) = rw (e, k) refl
further_past read p used b e (inr k) = rw (e, k) refl

deleted_past : (read : Reading) (p : ℕ) (used : List Range) (b : Block) → read p ≡ Some b → b.kind ≡ Deleted → past false read p used ≡ record { item = Some (free (range_of b)); to = p + b.size; used = used }
deleted_past read p used b e k = rw (e, k) refl

tried_past : (read : Reading) (p : ℕ) (used : List Range) (o : Option Block) → read p ≡ o → past true read p used ≡ record { item = None; to = p + 4; used = used }
tried_past read p used None e = rw e refl
tried_past read p used (Some b) e = rw e refl

module _ (extend : Bool) (read : Reading) (len : ℕ) (accepts : List ℕ → Bool) (stands : IsReading read len) where
  on_step : (p : ℕ) (used : List Range) (t : Step) → p < len → step_of extend read accepts p used ≡ t → rest extend read len accepts p used ≡ option_to_list t.item ++ rest extend read len accepts t.to t.used
  on_step p used t under e = rest_step read len stands extend accepts p used under ∙ ap (λ (s : Step). option_to_list s.item ++ rest extend read len accepts s.to s.used) e

  under_block : (p : ℕ) (b : Block) → read p ≡ Some b → p < len
  under_block p b e = let s = stands p b e in omega (arith, s.least, s.inside)

  no_room : (p : ℕ) (o : Option Block) → read p ≡ o → len < p + 20 → read p ≡ None
  no_room p None e short = e
  no_room p (Some b) e short = absurd (let s = stands p b e in omega (arith, s.least, s.inside))

  none_item : (b : Bool) (s : Step) (more : List Item) → s.item ≡ None → more ≡ [] → cond b [] (option_to_list s.item ++ more) ≡ []
  none_item true s more e f = refl
  none_item false s more e f = rw (e, f) refl

  short_step : (p : ℕ) (used : List Range) → len < p + 20 → (t : Step) × (step_of extend read accepts p used ≡ t) × (t.item ≡ None) × (p ≤ t.to)
  short_step p used short = by_used (nat_lt p (end_of p used)) refl
    where
      by_used : (b : Bool) → nat_lt p (end_of p used) ≡ b → (t : Step) × (step_of extend read accepts p used ≡ t) × (t.item ≡ None) × (p ≤ t.to)
      by_used true e = let over = ltb-true _ _ e in (record { item = None; to = end_of p used; used = used }, used_step extend read accepts p used over, refl, omega (arith, over))
      by_used false e =
          let none = no_room p (read p) refl short in
          let clear : end_of p used ≤ p = ltb-false _ _ e in
          (record { item = None; to = p + 4; used = used }, clear_step extend read accepts p used None clear (no_block read p used none) ∙ empty_past extend read p used none, refl, omega arith)

  short_items : (fuel p : ℕ) (used : List Range) → len < p + 20 → items extend read len accepts fuel p used ≡ []
  unfolding items
  short_items zero p used short = refl
  short_items (suc fuel) p used short =
      let s = step_of extend read accepts p used in
      let t = short_step p used short in
      let far : p ≤ s.to = omega (arith, t.3, ap (λ (x : Step). x.to) t.1) in
      none_item (nat_le len p) s _ (ap (λ (x : Step). x.item) t.1 ∙ t.2) (short_items fuel s.to s.used (omega (arith, far, short)))

  pub room_case : (p : ℕ) (used : List Range) → len < p + 20 → rest extend read len accepts p used ≡ []
  unfolding rest
  room_case p used short = short_items _ p used short

  pub used_case : (p : ℕ) (used : List Range) → p < len → p < end_of p used → rest extend read len accepts p used ≡ rest extend read len accepts (end_of p used) used
  used_case p used under over = on_step p used (record { item = None; to = end_of p used; used = used }) under (used_step extend read accepts p used over)

  pub row_case : (p : ℕ) (used : List Range) (b : Block) (bs : List Block) → end_of p used ≤ p → IsChain read p used (b ∷ bs) → accepts (row_bytes (b ∷ bs)) ≡ true → rest extend read len accepts p used ≡ row (row_at p (b ∷ bs)) ∷ rest extend read len accepts (p + b.size) (used ++ ranges (b ∷ bs))
  row_case p used b bs clear chain packs = on_step p used (record { item = Some (row (row_at p (b ∷ bs))); to = p + b.size; used = used ++ ranges (b ∷ bs) }) (under_block p b (first_block read p used b bs chain)) (row_met extend read accepts p used b bs clear chain packs)

  pub start_case : (p : ℕ) (used : List Range) (b : Block) → end_of p used ≤ p → read p ≡ Some b → (b.kind ≡ Whole) ⊎ (b.kind ≡ Start) → HasNoRow read accepts p used → rest extend read len accepts p used ≡ rest extend read len accepts (p + 4) used
  start_case p used b clear e k none = on_step p used (record { item = None; to = p + 4; used = used }) (under_block p b e) (past_step extend read accepts p used clear none ∙ start_past extend read p used b e k)

  pub empty_case : (p : ℕ) (used : List Range) → p < len → end_of p used ≤ p → read p ≡ None → rest extend read len accepts p used ≡ rest extend read len accepts (p + 4) used
  empty_case p used under clear e = on_step p used (record { item = None; to = p + 4; used = used }) under (clear_step extend read accepts p used None clear (no_block read p used e) ∙ empty_past extend read p used e)

module _ (read : Reading) (len : ℕ) (accepts : List ℕ → Bool) (stands : IsReading read len) where
  pub tried_case : (p : ℕ) (used : List Range) → p < len → end_of p used ≤ p → HasNoRow read accepts p used → rest true read len accepts p used ≡ rest true read len accepts (p + 4) used
  tried_case p used under clear none = on_step true read len accepts stands p used (record { item = None; to = p + 4; used = used }) under (past_step true read accepts p used clear none ∙ tried_past read p used (read p) refl)

  pub deleted_case : (p : ℕ) (used : List Range) (b : Block) → end_of p used ≤ p → read p ≡ Some b → b.kind ≡ Deleted → rest false read len accepts p used ≡ free (range_of b) ∷ rest false read len accepts (p + b.size) used
  deleted_case p used b clear e k = on_step false read len accepts stands p used (record { item = Some (free (range_of b)); to = p + b.size; used = used }) (under_block false read len accepts stands p b e) (clear_step false read accepts p used None clear (no_chain read accepts p b used e (inl k)) ∙ deleted_past read p used b e k)

  pub further_case : (p : ℕ) (used : List Range) (b : Block) → end_of p used ≤ p → read p ≡ Some b → (b.kind ≡ Middle) ⊎ (b.kind ≡ End) → rest false read len accepts p used ≡ rest false read len accepts (p + b.size) used
  further_case p used b clear e k = on_step false read len accepts stands p used (record { item = None; to = p + b.size; used = used }) (under_block false read len accepts stands p b e) (clear_step false read accepts p used None clear (no_chain read accepts p b used e (inr k)) ∙ further_past read p used b e k)
