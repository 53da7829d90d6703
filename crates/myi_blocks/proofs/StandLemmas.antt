-- A dynamic data file that stands for a state: its blocks, and that each deleted block directly behind another block is on the
-- list.
use Rattle.std.proofs.Common.{◌≡◌, ℕ, ◌+◌, ◌≤◌, Bool, true, false, List, [], ◌∷◌, ◌++◌, length, map, Option, Some, None, refl, sym, ap, subst, ◌∙◌, arith}
use Rattle.std.specs.Prelude.{◌==◌, if◌then◌else◌}
use Rattle.std.specs.Option.{option_map}
use Rattle.std.specs.List.{AllByRecursion}
use Rattle.myi_defs.specs.declared.types.RowFormat.{RowFormat}
use Rattle.myi_defs.specs.declared.types.RowFormat.TheVariants.{Static, Dynamic}
use Rattle.myi_defs.specs.declared.types.Defs.{Defs}
use Rattle.myi_defs.specs.Sound.{IsSound}
use Rattle.myi_frames.specs.declared.form.FrameKind.{FrameKind}
use Rattle.myi_frames.specs.declared.form.FrameKind.TheVariants.{Whole, Start, Middle, End}
use Rattle.myi_frames.specs.Block.{Block, block_of, head_of}
use Rattle.myi_frames.proofs.CallerLemmas.{block-stands}
use Rattle.myi_chain.specs.Chain.{IsTail, AreLinked}
use Rattle.myi_dellist.specs.Areas.{Area}
use Rattle.myi_dellist.specs.Order.{in_order, Follow}
use Rattle.myi_dellist.specs.Releasing.{hole_at, IsHole}
use Rattle.myi_dellist.specs.Standing.{HasList}
use Rattle.myi_dellist.specs.Freeing.{is_deleted, if_deleted, hole_in}
use Rattle.myi_dellist.specs.Rows.{AreListedBehind}
use Rattle.myi_dellist.proofs.CallerLemmas.{tiles-follow}
use Rattle.myi_state.specs.State.{StoredRow, TableState, row_areas}
use Rattle.myi_state.specs.Sound.{AreHoles, IsState}
use Rattle.myi_state.specs.Standing.{area_of_block, StandsInBlocks, RowStands, HolesStand, StandsFor}
use Rattle.myi_state.proofs.CallerLemmas.{in-order-all, order-back, state-bytes}

-- ---- lists

pub all-split : {A : Type 0} (P : A → Type 0) (xs ys : List A) → AllByRecursion P (xs ++ ys) → AllByRecursion P xs × AllByRecursion P ys
all-split P [] ys all = (tt, all)
all-split P (x ∷ xs) ys all = let t = all-split P xs ys all.1 in ((all.0, t.0), t.1)

pub all-join : {A : Type 0} (P : A → Type 0) (xs ys : List A) → AllByRecursion P xs → AllByRecursion P ys → AllByRecursion P (xs ++ ys)
all-join P [] ys all more = more
all-join P (x ∷ xs) ys all more = (all.0, all-join P xs ys all.1 more)

pub all-more : {A : Type 0} (P Q : A → Type 0) (xs : List A) → ((x : A) → P x → Q x) → AllByRecursion P xs → AllByRecursion Q xs
all-more P Q [] f all = tt
all-more P Q (x ∷ xs) f all = (f x all.0, all-more P Q xs f all.1)

pub all-mapped : {A B : Type 0} (f : A → B) (P : B → Type 0) (xs : List A) → AllByRecursion P (map f xs) → AllByRecursion (λ (x : A). P (f x)) xs
all-mapped f P [] all = tt
all-mapped f P (x ∷ xs) all = (all.0, all-mapped f P xs all.1)

pub all-map : {A B : Type 0} (f : A → B) (P : B → Type 0) (xs : List A) → AllByRecursion (λ (x : A). P (f x)) xs → AllByRecursion P (map f xs)
all-map f P [] all = tt
all-map f P (x ∷ xs) all = (all.0, all-map f P xs all.1)

-- ---- a state of a dynamic table

stand_in_blocks : (f : RowFormat) (d : Defs) (x : List ℕ) (rows : List StoredRow) → f ≡ Dynamic → AllByRecursion (RowStands f d x) rows → AllByRecursion (StandsInBlocks d x) rows
stand_in_blocks Static d x rows e all = absurd cc
stand_in_blocks Dynamic d x rows e all = all

blocks_stand : (f : RowFormat) (d : Defs) (x : List ℕ) (rows : List StoredRow) → f ≡ Dynamic → AllByRecursion (StandsInBlocks d x) rows → AllByRecursion (RowStands f d x) rows
blocks_stand Static d x rows e all = absurd cc
blocks_stand Dynamic d x rows e all = all

-- what is known of a dynamic file that stands for a state
pub record IsDynamic (d : Defs) (s : TableState) (x : List ℕ) : Type 0 where
  pub state : IsState d s
  pub long : length x ≡ s.space.end
  pub stand : AllByRecursion (StandsInBlocks d x) s.rows
  pub holes : AllByRecursion IsHole s.space.holes
  pub list : HasList x s.space.holes

pub dynamic-of : (d : Defs) (s : TableState) (x : List ℕ) → d.format ≡ Dynamic → StandsFor d s x → IsDynamic d s x
dynamic-of d s x dynamic k = record {
  state = k.state;
  long = k.long;
  stand = stand_in_blocks d.format d x s.rows dynamic k.rows;
  holes = subst (λ (f : RowFormat). AreHoles f d.slot_length s.space.holes) dynamic k.state.holes;
  list = subst (λ (f : RowFormat). HolesStand f d x s.space.holes) dynamic k.holes;
}

pub stands-by : (d : Defs) (s : TableState) (x : List ℕ) → d.format ≡ Dynamic → IsState d s → length x ≡ s.space.end → AllByRecursion (StandsInBlocks d x) s.rows → HasList x s.space.holes → StandsFor d s x
stands-by d s x dynamic state long rows holes = record {
  state = state;
  long = long;
  rows = blocks_stand d.format d x s.rows dynamic rows;
  holes = subst (λ (f : RowFormat). HolesStand f d x s.space.holes) (sym dynamic) holes;
}

-- ---- the blocks of rows are not deleted

-- a block of a row begins at a place
abbrev IsRowBlock : List ℕ → Area → Type 0
IsRowBlock x a = hole_in x a.at ≡ None

-- a block that is not deleted
not_hole : (x : List ℕ) (p : ℕ) (b : Block) → block_of x p ≡ Some b → is_deleted b.kind ≡ false → hole_in x b.at ≡ None
unfolding hole_in
not_hole x p b here kind =
    ap (λ (q : ℕ). if_deleted (option_map head_of (block_of x q))) (block-stands x p b here).at
    ∙ ap (λ (o : Option Block). if_deleted (option_map head_of o)) here
    ∙ ap (λ (t : Bool). if t then Some (head_of b) else None) kind

row_kind : (b : Block) (k : FrameKind) → b.kind ≡ k → is_deleted k ≡ false → is_deleted b.kind ≡ false
row_kind b k e f = ap is_deleted e ∙ f

tail_blocks : (x : List ℕ) (link : Option ℕ) (bs : List Block) → IsTail (block_of x) link bs → AllByRecursion (λ (b : Block). hole_in x b.at ≡ None) bs
tail_blocks x None bs t = absurd t
tail_blocks x (Some p) [] t = tt
tail_blocks x (Some p) (b ∷ []) t = (not_hole x p b t.0 (row_kind b End t.1 refl), tt)
tail_blocks x (Some p) (b ∷ c ∷ bs) t = (not_hole x p b t.0 (row_kind b Middle t.1 refl), tail_blocks x b.next (c ∷ bs) t.2)

chain_blocks : (x : List ℕ) (p : ℕ) (bs : List Block) → AreLinked (block_of x) p bs → AllByRecursion (λ (b : Block). hole_in x b.at ≡ None) bs
chain_blocks x p [] l = tt
chain_blocks x p (b ∷ []) l = (not_hole x p b l.0 (row_kind b Whole l.1 refl), tt)
chain_blocks x p (b ∷ c ∷ bs) l = (not_hole x p b l.0 (row_kind b Start l.1 refl), tail_blocks x b.next (c ∷ bs) l.2)

rows_blocks : (d : Defs) (x : List ℕ) (rows : List StoredRow) → AllByRecursion (StandsInBlocks d x) rows → AllByRecursion (IsRowBlock x) (row_areas rows)
rows_blocks d x [] all = tt
rows_blocks d x (r ∷ rows) all =
    all-join (IsRowBlock x) r.blocks (row_areas rows)
    (subst (λ (areas : List Area). AllByRecursion (IsRowBlock x) areas) all.0.blocks (all-map area_of_block (IsRowBlock x) all.0.chain (chain_blocks x r.at all.0.chain all.0.is.linked)))
    (rows_blocks d x rows all.1)

-- ---- what begins directly behind a block

-- each block of a list is found at its place
all_found : (holes : List Area) → AllByRecursion (λ (a : Area). hole_at a.at holes ≡ None → ⊥) holes
all_found [] = tt
all_found (h ∷ holes) = (here, all-more (λ (a : Area). hole_at a.at holes ≡ None → ⊥) (λ (a : Area). hole_at a.at (h ∷ holes) ≡ None → ⊥) holes further (all_found holes))
  where
    same : (h.at == h.at) ≡ true
    same = grind arith

    by_test : (t : Bool) → t ≡ true → (if t then Some h else hole_at h.at holes) ≡ None → ⊥
    by_test true e none = absurd cc
    by_test false e none = absurd cc

    here : hole_at h.at (h ∷ holes) ≡ None → ⊥
    here none = by_test (h.at == h.at) same none

    further : (a : Area) → (hole_at a.at holes ≡ None → ⊥) → hole_at a.at (h ∷ holes) ≡ None → ⊥
    further a never none = by_case (h.at == a.at) none
      where
        by_case : (t : Bool) → (if t then Some h else hole_at a.at holes) ≡ None → ⊥
        by_case true e = absurd cc
        by_case false e = never e

-- a deleted block that begins at a place is on the list
abbrev pub IsListed : List ℕ → List Area → ℕ → Type 0
IsListed x holes p = hole_at p holes ≡ None → hole_in x p ≡ None

-- no block begins at the file's end
none_at_end : (x : List ℕ) (p : ℕ) → length x ≤ p → hole_in x p ≡ None
unfolding hole_in
none_at_end x p le = by_block (block_of x p) refl
  where
    by_block : (o : Option Block) → block_of x p ≡ o → if_deleted (option_map head_of o) ≡ None
    by_block None e = refl
    by_block (Some b) e = let k = block-stands x p b e in absurd (omega (arith, k.inside, k.least, le))

behind_each : (x : List ℕ) (holes : List Area) (end q : ℕ) (areas : List Area) → length x ≤ end → Follow end q areas → AllByRecursion (λ (a : Area). IsListed x holes a.at) areas → AllByRecursion (λ (a : Area). IsListed x holes (a.at + a.size)) areas
behind_each x holes end q [] le f all = tt
behind_each x holes end q (a ∷ []) le f all = (λ none. none_at_end x (a.at + a.size) (omega (arith, f.0, f.1, le)), tt)
behind_each x holes end q (a ∷ b ∷ areas) le f all =
    let next : b.at ≡ a.at + a.size = omega (arith, f.0, f.1.0) in
    (subst (λ (p : ℕ). IsListed x holes p) next all.1.0, behind_each x holes end (q + a.size) (b ∷ areas) le f.1 all.1)

pub listed-behind : (d : Defs) (s : TableState) (x : List ℕ) → IsSound d → IsDynamic d s x → AreListedBehind (row_areas s.rows ++ s.space.holes) s.space.holes x
listed-behind d s x sound k =
    let holes = s.space.holes in
    let all = row_areas s.rows ++ holes in
    let P : Area → Type 0 = λ (a : Area). IsListed x holes a.at in
    let rows = all-more (IsRowBlock x) P (row_areas s.rows) (λ a h. λ none. h) (rows_blocks d x s.rows k.stand) in
    let gone = all-more (λ (a : Area). hole_at a.at holes ≡ None → ⊥) P holes (λ a h. λ none. absurd (h none)) (all_found holes) in
    let follow = tiles-follow s.space.end all (state-bytes d s sound k.state) k.state.tile in
    let each = behind_each x holes s.space.end 0 (in_order all) (omega (arith, k.long)) follow (in-order-all P all (all-join P (row_areas s.rows) holes rows gone)) in
    order-back (λ (a : Area). IsListed x holes (a.at + a.size)) all each
