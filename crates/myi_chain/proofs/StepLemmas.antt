-- What is found at a place, and what is left behind it.
use Rattle.std.proofs.Common.{◌≡◌, ◌∙◌, ℕ, zero, suc, ◌+◌, ◌-◌, ◌<◌, ◌≤◌, min, max, Bool, true, false, List, [], ◌∷◌, ◌++◌, append_assoc, length, Option, Some, None, Result, Ok, Err, refl, sym, ap, subst, arith, inl, inr}
use Rattle.std.specs.Prelude.{nat_lt, ◌==◌, if◌then◌else◌, option_to_list, IfErr, IfSome}
use Rattle.std.specs.Option.{option_map}
use Rattle.std.proofs.lemmas.Bool.{lt-ltb, le-ltb, le-leb, eq-eqb, cases_lt}
use Rattle.std.proofs.lemmas.List.{append-nil}
use Rattle.myi_base.specs.Holding.{Holding, IfTold}
use Rattle.myi_base.specs.Ranges.{Range, is_apart}
use Rattle.myi_frames.specs.declared.head.Header.{Header}
use Rattle.myi_frames.specs.Block.{Block, block_of}
use Rattle.myi_frames.specs.Seeing.{Heads, HeadsBlock}
use Rattle.myi_window.specs.Excerpt.{Excerpt}
use Rattle.myi_window.specs.declared.window.TheConstants.{WINDOW}
use Rattle.myi_chain.specs.declared.chain.Link.TheVariants.{Broken, Last, More}
use Rattle.myi_chain.specs.declared.step.FoundRow.{FoundRow}
use Rattle.myi_chain.specs.declared.step.Found.{Found}
use Rattle.myi_chain.specs.declared.step.Found.TheVariants as found
use Rattle.myi_chain.specs.declared.step.Position.{Position}
use Rattle.myi_chain.specs.declared.step.RowBuffer.{RowBuffer}
use Rattle.myi_frames.specs.declared.form.FrameKind.{FrameKind}
use Rattle.myi_frames.specs.declared.form.FrameKind.TheVariants.{Deleted, Whole, Start, Middle, End}
use Rattle.myi_chain.specs.Chain.{range_of, ranges, row_bytes, by_kind, first_link, chain_of}
use Rattle.myi_chain.specs.Readable.{Row, Item, row, free, Step, end_of, skip_by, free_by, past, row_at, row_step, step_of, rows_of}
use Rattle.myi_chain.specs.Used.{joined, SameFrom, AddsBlocks, NeedsMemory}
use Rattle.myi_chain.specs.Chain.{placed, ranges_at}
use Rattle.myi_chain.specs.declared.piece.Wanted.{Wanted}
use Rattle.myi_chain.specs.declared.piece.Wanted.TheVariants.{Items, Rows}
use Rattle.myi_chain.specs.ScanModel.{MeetsShort, IsBehind, ArePassed, PassesTo}
use Rattle.myi_chain.specs.Source.{SourceModel, IsHeader, IsReady, ReadsOn, read_bytes, read_blocks, AreRead, may_take_by, first_by}
use Rattle.myi_chain.specs.Found.{found_at, found_bytes, found_blocks, found_row, found_items, met_from, NoRowAt, FindsRow, IsPassed, IsBlockOf, IsFree, LiesItem, HoldsItem, met_at, items_at, MeetsShortAt, FindsShort, FindsShortAt, KeepsUsed, IsBetween, picked, IsMeant}
use Rattle.myi_chain.proofs.BlockLemmas.{blocks_read}
use Rattle.myi_chain.proofs.CodeLemmas.{placed_ranges}
use Rattle.myi_chain.proofs.ChainLemmas.{chain_sound}
use Rattle.myi_chain.proofs.ReadableLemmas.{first_block, rest_step, rest_end}
use Rattle.myi_chain.proofs.JoinedLemmas.{front_apart, front_end, rest_from}
use Rattle.myi_chain.proofs.FollowLemmas.{first_is, chain_broken, chain_last, first_place}
use Rattle.myi_chain.proofs.JoinLemmas.{chain_read}
use Rattle.myi_chain.proofs.SourceLemmas.{same_bytes, long_bytes, lies_block}

-- ---- the row that starts with a block

last_kind : (may whole more : Bool) (k : FrameKind) → (if may then by_kind k Broken (if whole then Last else Broken) (if more then More else Broken) Broken Broken else Broken) ≡ Last → k ≡ Whole
last_kind false whole more k is = absurd cc
last_kind true whole more Deleted is = absurd cc
last_kind true whole more Whole is = refl
last_kind true whole true Start is = absurd cc
last_kind true whole false Start is = absurd cc
last_kind true whole more Middle is = absurd cc
last_kind true whole more End is = absurd cc

-- a first block that is the last is a whole one
pub whole_last : (h : Header) (used : List Range) → first_by h used ≡ Last → h.head.kind ≡ Whole
whole_last h used is = last_kind (may_take_by h used) (h.data_len == h.head.rec_len) (nat_lt h.data_len h.head.rec_len) h.head.kind is

module _ (x : List ℕ) (used : List Range) (h : Header) (here : HeadsBlock x (Some h) (block_of x h.head.at)) where
  pub whole_row : (bytes : List ℕ) → first_by h used ≡ Last → here.0.bytes ≡ bytes
      → (bs : List Block) × (chain_of (block_of x) h.head.at used ≡ Some bs) × (placed bs ≡ (h.head.at, h.head.size) ∷ []) × (row_bytes bs ≡ bytes)
  whole_row bytes last same =
      let b = here.0 in (
        b ∷ [],
        chain_last (block_of x) h.head.at used b here.1 (sym (first_is x h b used here.2) ∙ last),
        ap (λ (q : ℕ × ℕ). q ∷ []) (first_place x (block_of x) used h here),
        append-nil b.bytes ∙ same,
      )

  pub no_broken : (accepts : List ℕ → Bool) → first_by h used ≡ Broken → NoRowAt accepts (chain_of (block_of x) h.head.at used)
  no_broken accepts broken = subst (NoRowAt accepts) (sym (chain_broken (block_of x) h.head.at used here.0 here.1 (sym (first_is x h here.0 used here.2) ∙ broken))) tt

chain_there : (taken : List (ℕ × ℕ)) (o : Option (List Block)) → option_map placed o ≡ Some taken → (bs : List Block) × (o ≡ Some bs) × (taken ≡ placed bs)
chain_there taken None e = absurd cc
chain_there taken (Some bs) e = let same : placed bs ≡ taken = cc in (bs, refl, sym same)

-- the bytes of a chain are as many as the header of its first block says
chain_long : (x : List ℕ) (h : Header) (used : List Range) → HeadsBlock x (Some h) (block_of x h.head.at) → (bs : List Block) → chain_of (block_of x) h.head.at used ≡ Some bs → length (row_bytes bs) ≡ h.head.rec_len
chain_long x h used here [] is = absurd (chain_sound (block_of x) h.head.at used [] is).linked
chain_long x h used here (b ∷ bs) is =
    let sound = chain_sound (block_of x) h.head.at used (b ∷ bs) is in
    let read : block_of x h.head.at ≡ Some b = first_block (block_of x) h.head.at used b bs sound in
    let one : here.0 ≡ b = let s : Some here.0 ≡ Some b = sym here.1 ∙ read in cc in
    sound.whole ∙ subst (λ (c : Block). c.rec_len ≡ h.head.rec_len) one (ap (λ k. k.rec_len) here.2.head)

pub long_row : (x : List ℕ) (h : Header) (used : List Range) → HeadsBlock x (Some h) (block_of x h.head.at) → (accepts : List ℕ → Bool) (taken : List (ℕ × ℕ)) (bytes : List ℕ) (is : Bool) → option_map placed (chain_of (block_of x) h.head.at used) ≡ Some taken
    → ((bs : List Block) → taken ≡ placed bs → AreRead (block_of x) bs → length (row_bytes bs) ≡ h.head.rec_len → (is ≡ accepts (row_bytes bs)) × (bytes ≡ row_bytes bs))
    → (bs : List Block) × (chain_of (block_of x) h.head.at used ≡ Some bs) × (placed bs ≡ taken) × (row_bytes bs ≡ bytes) × (is ≡ accepts (row_bytes bs))
long_row x h used here accepts taken bytes is followed told =
    let t = chain_there taken (chain_of (block_of x) h.head.at used) followed in
    let j = told t.0 t.2 (chain_read x h.head.at used t.0 t.1) (chain_long x h used here t.0 t.1) in
    (t.0, t.1, sym t.2, sym j.1, j.0)

pub no_row : (accepts : List ℕ → Bool) (o : Option (List Block)) (bs : List Block) → o ≡ Some bs → accepts (row_bytes bs) ≡ false → NoRowAt accepts o
no_row accepts o bs is refused = subst (NoRowAt accepts) (sym is) refused

-- ---- one step

joined_under : (p : ℕ) → end_of p (joined p) ≡ 0
joined_under zero = refl
joined_under (suc p) = front_end (suc p) (suc p) (omega arith)

module _ (x : List ℕ) (extend : Bool) (accepts : List ℕ → Bool) (p : ℕ) (used : List Range) (under : p < length x) where
  at_min : (to : ℕ) (now u : List Range) → SameFrom (min to (length x)) now u → met_from extend accepts x (min to (length x)) now ≡ met_from extend accepts x to u
  at_min to now u same = elim (cases_lt to (length x)) [
    | inl before ↦
        let here : min to (length x) ≡ to = omega arith in
        rest_from (block_of x) (length x) (blocks_read x) (min to (length x)) extend accepts (min to (length x)) now u (omega arith) same ∙ ap (λ n. met_from extend accepts x n u) here
    | inr behind ↦
        rest_end (block_of x) (length x) (blocks_read x) extend accepts (min to (length x)) now (omega arith) ∙ sym (rest_end (block_of x) (length x) (blocks_read x) extend accepts to u behind)
  ]

  after : (s : Step) (next : ℕ) (now : List Range) → step_of extend (block_of x) accepts p used ≡ s → next ≡ min s.to (length x) → SameFrom next now s.used → met_from extend accepts x p used ≡ option_to_list s.item ++ met_from extend accepts x next now
  after s next now is to same =
      let more = at_min s.to now s.used (subst (λ n. SameFrom n now s.used) to same) in
      rest_step (block_of x) (length x) (blocks_read x) extend accepts p used under ∙ ap (λ (s : Step). option_to_list s.item ++ met_from extend accepts x s.to s.used) is ∙ ap (λ (is : List Item). option_to_list s.item ++ is) (sym more ∙ ap (λ n. met_from extend accepts x n now) (sym to))

  from_self : (n : ℕ) → SameFrom n used used
  from_self n = record { apart = λ r byte. refl; ends = λ q later. refl }

  pub over_used : (e next : ℕ) → e ≡ max p (end_of p used) → p < e → next ≡ min e (length x) → met_from extend accepts x p used ≡ met_from extend accepts x next used
  unfolding step_of
  over_used e next same later to =
      let test : nat_lt p (end_of p used) ≡ true = lt-ltb _ _ (omega arith) in
      after (record { item = None; to = end_of p used; used = used }) next used (rw test refl) (omega arith) (from_self next)

  step_under : end_of p used ≤ p → step_of extend (block_of x) accepts p used ≡ row_step extend (block_of x) accepts p used (chain_of (block_of x) p used)
  unfolding step_of
  step_under low = let test : nat_lt p (end_of p used) ≡ false = le-ltb _ _ low in rw test refl

  no_chain : block_of x p ≡ None → chain_of (block_of x) p used ≡ None
  unfolding chain_of
  no_chain e = rw e refl

  refused : (o : Option (List Block)) → NoRowAt accepts o → row_step extend (block_of x) accepts p used o ≡ past extend (block_of x) p used
  refused None none = refl
  refused (Some []) none = refl
  refused (Some (b ∷ bs)) none = rw none refl

  past_at : end_of p used ≤ p → NoRowAt accepts (chain_of (block_of x) p used) → (o : Option Block) → block_of x p ≡ o → step_of extend (block_of x) accepts p used ≡ record { item = free_by extend o; to = p + skip_by extend o; used = used }
  past_at low none o here = step_under low ∙ refused (chain_of (block_of x) p used) none ∙ (rw here refl)

  pub over_none : (next : ℕ) → end_of p used ≤ p → block_of x p ≡ None → next ≡ p + min 4 (length x - p) → met_from extend accepts x p used ≡ met_from extend accepts x next used
  over_none next low none to =
      let chain = no_chain none in
      after (record { item = None; to = p + 4; used = used }) next used (past_at low (subst (NoRowAt accepts) (sym chain) tt) None none) (omega arith) (from_self next)

  pub over_block : (next skip : ℕ) (h : Header) (f : Option Found) (e : Excerpt) (taken : List (ℕ × ℕ)) (bytes : List ℕ) → end_of p used ≤ p → HeadsBlock x (Some h) (block_of x p) → NoRowAt accepts (chain_of (block_of x) p used) → IsPassed extend h skip f → next ≡ p + min skip (length x - p)
      → met_from extend accepts x p used ≡ found_items e taken bytes f ++ met_from extend accepts x next used
  over_block next skip h f e taken bytes low here none passed to =
      let b = here.0 in
      let over = passed b here.2.head in
      after (record { item = free_by extend (Some b); to = p + skip_by extend (Some b); used = used }) next used (past_at low none (Some b) here.1) (omega (arith, to, over.0)) (from_self next)
      ∙ ap (λ (is : List Item). is ++ met_from extend accepts x next used) (sym (over.1 e taken bytes))

  pub found_at_place : (next : ℕ) (now : List Range) (h : Header) (r : FoundRow) (e : Excerpt) (taken : List (ℕ × ℕ)) (bytes : List ℕ) → end_of p used ≤ p → HeadsBlock x (Some h) (block_of x p) → FindsRow accepts e taken bytes (chain_of (block_of x) p used) (Some r) → accepts (found_bytes e bytes r) ≡ true → found_at r ≡ p → AddsBlocks used (found_blocks taken r) now → next ≡ p + h.head.size
      → met_from extend accepts x p used ≡ row (found_row e taken bytes r) ∷ met_from extend accepts x next now
  found_at_place next now h r e taken bytes low here finds packs place adds to = by_blocks finds.0 finds.1 finds.2 finds.3
    where
      by_blocks : (bs : List Block) → chain_of (block_of x) p used ≡ Some bs → placed bs ≡ found_blocks taken r → row_bytes bs ≡ found_bytes e bytes r → met_from extend accepts x p used ≡ row (found_row e taken bytes r) ∷ met_from extend accepts x next now
      by_blocks [] chain blocks same = absurd (chain_sound (block_of x) p used [] chain).linked
      by_blocks (b ∷ bs) chain blocks same =
          let read : block_of x p ≡ Some b = first_block (block_of x) p used b bs (chain_sound (block_of x) p used (b ∷ bs) chain) in
          let one : here.0 ≡ b = let s : Some here.0 ≡ Some b = sym here.1 ∙ read in cc in
          let size : b.size ≡ h.head.size = subst (λ c. c.size ≡ h.head.size) one (ap (λ k. k.size) here.2.head) in
          let stands = blocks_read x p b read in
          let at : b.at ≡ p = stands.at in
          let accepted : accepts (row_bytes (b ∷ bs)) ≡ true = ap accepts same ∙ packs in
          let is : step_of extend (block_of x) accepts p used ≡ record { item = Some (row (row_at p (b ∷ bs))); to = p + b.size; used = used ++ ranges (b ∷ bs) } = step_under low ∙ ap (row_step extend (block_of x) accepts p used) chain ∙ (rw accepted refl) in
          let added : SameFrom (b.at + b.size) now (used ++ ranges_at (placed (b ∷ bs))) = (subst (λ q. AddsBlocks used q now) (sym blocks) adds).0 in
          let goes : next ≡ b.at + b.size = omega (arith, to, at, size) in
          let kept : SameFrom next now (used ++ ranges (b ∷ bs)) = subst (λ u. SameFrom next now (used ++ u)) (placed_ranges (b ∷ bs)) (subst (λ n. SameFrom n now (used ++ ranges_at (placed (b ∷ bs)))) (sym goes) added) in
          let item : row_at p (b ∷ bs) ≡ found_row e taken bytes r = row_is (sym place) same (sym (placed_ranges (b ∷ bs)) ∙ ap ranges_at blocks) in
          after (record { item = Some (row (row_at p (b ∷ bs))); to = p + b.size; used = used ++ ranges (b ∷ bs) }) next now is (omega (arith, to, size, stands.inside)) kept ∙ ap (λ (q : Row). row q ∷ met_from extend accepts x next now) item
        where
          row_is : {a c : ℕ} {u v : List ℕ} {s t : List Range} → a ≡ c → u ≡ v → s ≡ t → ◌≡◌ {A = Row} (record { at = a; bytes = u; blocks = s }) (record { at = c; bytes = v; blocks = t })
          row_is i j k = rw (i, j, k) refl

-- ---- a row in one block that a window can hold

module _ (x : List ℕ) (accepts : List ℕ → Bool) (p : ℕ) (used : List Range) (meets : MeetsShort accepts x p used) where
  pub short_under : end_of p used ≡ 0
  short_under = ap (end_of p) meets.plain ∙ joined_under p

  pub short_over : (e : ℕ) → e ≡ max p (end_of p used) → p < e → ⊥
  short_over e same later = absurd (omega (arith, same, later, short_under))

  pub short_none : block_of x p ≡ None → ⊥
  short_none none = let no : None ≡ Some meets.block = sym none ∙ meets.whole.here in cc

  short_first : first_link meets.block used ≡ Last
  short_first =
      let kind = meets.whole.kind in
      let some : nat_lt 0 (length meets.block.bytes) ≡ true = lt-ltb _ _ meets.whole.some in
      let all : (length meets.block.bytes == meets.block.rec_len) ≡ true = eq-eqb _ _ meets.whole.all in
      let at : meets.block.at ≡ p = (blocks_read x p meets.block meets.whole.here).at in
      let least = (blocks_read x p meets.block meets.whole.here).least in
      let apart : is_apart (range_of meets.block) used ≡ true = ap (is_apart (range_of meets.block)) meets.plain ∙ front_apart p meets.block.at (meets.block.at + meets.block.size) (omega arith) ∙ le-leb _ _ (omega (arith, at)) in
      rw (kind, some, apart, all) refl

  short_chain : chain_of (block_of x) p used ≡ Some (meets.block ∷ [])
  short_chain = chain_last (block_of x) p used meets.block meets.whole.here short_first

  short_packs : accepts (row_bytes (meets.block ∷ [])) ≡ true
  short_packs = ap accepts (append-nil meets.block.bytes) ∙ meets.whole.packs

  pub short_refused : NoRowAt accepts (chain_of (block_of x) p used) → ⊥
  short_refused none =
      let refused : accepts (row_bytes (meets.block ∷ [])) ≡ false = subst (NoRowAt accepts) short_chain none in
      let both : true ≡ false = sym short_packs ∙ refused in
      cc

  pub short_is : (h : Header) → HeadsBlock x (Some h) (block_of x p) → first_by h used ≡ Last
  short_is h here =
      let one : here.0 ≡ meets.block = let s : Some here.0 ≡ Some meets.block = sym here.1 ∙ meets.whole.here in cc in
      let heads : Heads x h meets.block = subst (λ b. Heads x h b) one here.2 in
      first_is x h meets.block used heads ∙ short_first

  -- no block that is longer than a window stands there
  pub short_long : IfSome (block_of x p) (λ (b : Block). WINDOW < b.size) → ⊥
  short_long long =
      let there : WINDOW < meets.block.size = subst (λ (o : Option Block). IfSome o (λ (b : Block). WINDOW < b.size)) meets.whole.here long in
      absurd (omega (arith, there, meets.short))

  short_blocks : (bs : List Block) → chain_of (block_of x) p used ≡ Some bs → bs ≡ meets.block ∷ []
  short_blocks bs is = let s : Some bs ≡ Some (meets.block ∷ []) = sym is ∙ short_chain in cc

  found_one : (r : FoundRow) (e : Excerpt) (taken : List (ℕ × ℕ)) (bytes : List ℕ) → FindsRow accepts e taken bytes (chain_of (block_of x) p used) (Some r) → found_blocks taken r ≡ (meets.block.at, meets.block.size) ∷ []
  found_one r e taken bytes finds = sym finds.2 ∙ ap placed (short_blocks finds.0 finds.1)

  old_joined : used ≡ joined meets.block.at
  old_joined = meets.plain ∙ ap joined (sym (blocks_read x p meets.block meets.whole.here).at)

  pub short_adds : (next : ℕ) (now : List Range) (h : Header) (r : FoundRow) (e : Excerpt) (taken : List (ℕ × ℕ)) (bytes : List ℕ) → HeadsBlock x (Some h) (block_of x p) → FindsRow accepts e taken bytes (chain_of (block_of x) p used) (Some r) → AddsBlocks used (found_blocks taken r) now → next ≡ p + h.head.size → now ≡ joined next
  short_adds next now h r e taken bytes here finds adds to =
      let one : here.0 ≡ meets.block = let s : Some here.0 ≡ Some meets.block = sym here.1 ∙ meets.whole.here in cc in
      let size : meets.block.size ≡ h.head.size = subst (λ c. c.size ≡ h.head.size) one (ap (λ k. k.size) here.2.head) in
      let at : meets.block.at ≡ p = (blocks_read x p meets.block meets.whole.here).at in
      (subst (λ q. AddsBlocks used q now) (found_one r e taken bytes finds) adds).1 old_joined refl ∙ ap joined (omega (arith, to, at, size))

  pub short_needs : (r : FoundRow) (e : Excerpt) (taken : List (ℕ × ℕ)) (bytes : List ℕ) → FindsRow accepts e taken bytes (chain_of (block_of x) p used) (Some r) → NeedsMemory used (found_blocks taken r) → ⊥
  short_needs r e taken bytes finds needs = subst (NeedsMemory used) (found_one r e taken bytes finds) needs old_joined refl

-- the place behind a block, by its header
pub behind_block : (x : List ℕ) (p next : ℕ) (h : Header) → HeadsBlock x (Some h) (block_of x p) → next ≡ p + h.head.size → IsBehind (block_of x) p next
behind_block x p next h here to b e =
    let one : here.0 ≡ b = let s : Some here.0 ≡ Some b = sym here.1 ∙ e in cc in
    let size : b.size ≡ h.head.size = subst (λ (c : Block). c.size ≡ h.head.size) one (ap (λ k. k.size) here.2.head) in
    omega (arith, to, size)

-- ---- what a call told, said of the file as it was read before

pub finds_same : (h : Option Holding) (old mid : SourceModel) (m : Holding) → h ≡ Some m → ReadsOn h old mid → (p q r : Position) (f : Option Found) → q ≡ p → FindsShortAt mid m q f r → FindsShortAt old m p f r
finds_same h old mid m held on p q r f same finds =
    subst (λ (x : List ℕ). FindsShort (block_of x) p.place f r.place r.used) (same_bytes h old mid m held on) (subst (λ (s : Position). FindsShort (block_of (read_bytes mid m)) s.place f r.place r.used) same finds)

pub if_err : {T E : Type 0} (r : Result T E) (P : E → Type 0) → ((e : E) → P e) → IfErr r P
if_err (Ok v) P each = tt
if_err (Err e) P each = each e

pub heads_now : (h k : Option Holding) (old mid : SourceModel) (at : ℕ) (o : Option Header) (b : Header) → k ≡ h → ReadsOn h old mid → o ≡ Some b → b.head.at ≡ at → IfTold h (λ m. HeadsBlock (read_bytes old m) o (read_blocks old m at)) → IfTold k (λ m. HeadsBlock (read_bytes mid m) (Some b) (read_blocks mid m b.head.at))
heads_now h k old mid at o b same on is here told m held =
    subst (λ p. HeadsBlock (read_bytes mid m) (Some b) (read_blocks mid m p)) (sym here) (subst (λ o. HeadsBlock (read_bytes mid m) o (read_blocks mid m at)) is (subst (λ (x : List ℕ). HeadsBlock x o (block_of x at)) (sym (same_bytes h old mid m (sym same ∙ held) on)) (told m (sym same ∙ held))))

pub finds_here : (h : Option Holding) (old mid : SourceModel) (m : Holding) → h ≡ Some m → (at p : ℕ) (used : List Range) (accepts : List ℕ → Bool) (e : Excerpt) (taken : List (ℕ × ℕ)) (bytes : List ℕ) (f g : Option FoundRow) → ReadsOn h old mid → at ≡ p → f ≡ g → FindsRow accepts e taken bytes (chain_of (read_blocks mid m) at used) f → FindsRow accepts e taken bytes (chain_of (block_of (read_bytes old m)) p used) g
finds_here h old mid m held at p used accepts e taken bytes f g on here is told =
    subst (λ (x : List ℕ). FindsRow accepts e taken bytes (chain_of (block_of x) p used) g) (same_bytes h old mid m held on) (subst (λ q. FindsRow accepts e taken bytes (chain_of (read_blocks mid m) q used) g) here (subst (λ f. FindsRow accepts e taken bytes (chain_of (read_blocks mid m) at used) f) is told))

pub free_held : (accepts : List ℕ → Bool) (s : SourceModel) (r : RowBuffer) (f : Option Found) → IfSome f IsFree → IfSome f (HoldsItem accepts s r)
free_held accepts s r None is = tt
free_held accepts s r (Some (found.Row q)) is = absurd is
free_held accepts s r (Some (found.Free at size)) is = tt

-- a deleted block that is passed lies in the file
pub free_lies : (at : ℕ) (s : SourceModel) (r : RowBuffer) (h : Header) (f : Option Found) → IsHeader at s.end h → IfSome f (IsBlockOf h) → IfSome f (LiesItem s r)
free_lies at s r h None place is = tt
free_lies at s r h (Some (found.Row q)) place is = absurd is
free_lies at s r h (Some (found.Free p size)) place is =
    let lies = lies_block at s.end h place in
    (omega (arith, is.0, is.1, lies.0), omega (arith, is.0, is.1, lies.1))

-- it stands at the place at which the block does
pub free_between : (at to : ℕ) (h : Header) (f : Option Found) → h.head.at ≡ at → at < to → IfSome f (IsBlockOf h) → IfSome f (IsBetween at to)
free_between at to h None here order is = tt
free_between at to h (Some (found.Row q)) here order is = absurd is
free_between at to h (Some (found.Free p size)) here order is = (omega (arith, is.0, here), omega (arith, is.0, here, order))

-- nothing is met at the end
pub met_end : (extend : Bool) (accepts : List ℕ → Bool) (s : SourceModel) (p : Position) (m : Holding) → IsReady s m → s.end ≤ p.place → met_at extend accepts s p m ≡ []
met_end extend accepts s p m ready ended = rest_end (read_blocks s m) (length (read_bytes s m)) (blocks_read (read_bytes s m)) extend accepts p.place p.used (omega (arith, long_bytes s m ready))

-- the same is met in the file that is read on
pub met_same : (h : Option Holding) (extend : Bool) (accepts : List ℕ → Bool) (old mid : SourceModel) (p : Position) (m : Holding) → h ≡ Some m → ReadsOn h old mid → met_at extend accepts mid p m ≡ met_at extend accepts old p m
met_same h extend accepts old mid p m held on = ap (λ x. met_from extend accepts x p.place p.used) (same_bytes h old mid m held on)

pub meets_same : (h : Option Holding) (accepts : List ℕ → Bool) (old mid : SourceModel) (p : Position) (m : Holding) → h ≡ Some m → ReadsOn h old mid → MeetsShortAt accepts old p m → MeetsShortAt accepts mid p m
meets_same h accepts old mid p m held on meets = subst (λ x. MeetsShort accepts x p.place p.used) (sym (same_bytes h old mid m held on)) meets

-- no short row is met at the end
pub short_ended : (accepts : List ℕ → Bool) (s : SourceModel) (p : Position) (m : Holding) → IsReady s m → s.end ≤ p.place → MeetsShortAt accepts s p m → ⊥
short_ended accepts s p m ready ended meets =
    let stands = blocks_read (read_bytes s m) p.place meets.block meets.whole.here in
    absurd (omega (arith, stands.inside, stands.least, long_bytes s m ready))

-- ---- what is passed on the way to what is wanted

rows-append : (is js : List Item) → rows_of (is ++ js) ≡ rows_of is ++ rows_of js
rows-append [] js = refl
rows-append (row r ∷ is) js = ap (λ (rs : List Row). r ∷ rs) (rows-append is js)
rows-append (free a ∷ is) js = rows-append is js

passed_none : (w : Wanted) → ArePassed w []
passed_none Items = refl
passed_none Rows = refl

passed_both : (w : Wanted) (is js : List Item) → ArePassed w is → ArePassed w js → ArePassed w (is ++ js)
passed_both Items is js a b = ap (λ (xs : List Item). xs ++ js) a ∙ b
passed_both Rows is js a b = rows-append is js ∙ ap (λ (rs : List Row). rs ++ rows_of js) a ∙ b

pub to_same : (w : Wanted) (a b : List Item) → a ≡ b → PassesTo w a b
to_same w a b e = ([], passed_none w, e)

pub to_more : (w : Wanted) (a b c is : List Item) → PassesTo w a b → ArePassed w is → b ≡ is ++ c → PassesTo w a c
to_more w a b c is over passed e = (over.0 ++ is, passed_both w over.0 is over.1 passed, over.2 ∙ ap (λ (xs : List Item). over.0 ++ xs) e ∙ sym (append_assoc over.0 is c))

pub to_end : (w : Wanted) (a b : List Item) → PassesTo w a b → b ≡ [] → ArePassed w a
to_end w a b over e = subst (ArePassed w) (sym (over.2 ∙ ap (λ (xs : List Item). over.0 ++ xs) e)) (passed_both w over.0 [] over.1 (passed_none w))

-- what was found is the one that was picked, and it is wanted
pub picked_is : (w : Wanted) (o : Option Found) (f : Found) → picked w o ≡ Some f → (o ≡ Some f) × IsMeant w f
picked_is w None f e = absurd cc
picked_is w (Some (found.Row r)) f e = (e, subst (IsMeant w) (let same : found.Row r ≡ f = cc in same) refl)
picked_is Items (Some (found.Free at size)) f e = (e, subst (IsMeant Items) (let same : found.Free at size ≡ f = cc in same) refl)
picked_is Rows (Some (found.Free at size)) f e = absurd cc

-- what was found and not picked is passed, and the used ranges stay
pub picked_none : (w : Wanted) (o : Option Found) → picked w o ≡ None → (s : SourceModel) (r : RowBuffer) (u v : List Range) → KeepsUsed u v o → ArePassed w (items_at s r o) × (v ≡ u)
picked_none w None e s r u v kept = (passed_none w, kept)
picked_none w (Some (found.Row q)) e s r u v kept = absurd cc
picked_none Items (Some (found.Free at size)) e s r u v kept = absurd cc
picked_none Rows (Some (found.Free at size)) e s r u v kept = (refl, kept)

pub picked_short : (w : Wanted) (o : Option Found) → picked w o ≡ None → (s : SourceModel) (m : Holding) (p q : Position) → FindsShortAt s m p o q → ⊥
picked_short w None e s m p q short = short
picked_short w (Some (found.Row r)) e s m p q short = absurd cc
picked_short w (Some (found.Free at size)) e s m p q short = short
