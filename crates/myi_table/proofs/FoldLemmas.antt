-- Rows that come behind the end of a table one after the other: how far it is after the first so many of them.
use Rattle.std.proofs.Common.{◌≡◌, ℕ, zero, suc, ◌+◌, ◌<◌, ◌≤◌, Bool, true, List, [], ◌∷◌, length, take, map, Option, Some, None, Result, Ok, Err, refl, sym, ap, subst, ◌∙◌, arith}
use Rattle.std.specs.Prelude.{slice_index_or}
use Rattle.std.proofs.lemmas.Option.{same_Some}
use Rattle.myi_base.specs.Holding.{Holding, Told}
use Rattle.myi_base.proofs.CallerLemmas.{told_then}
use Rattle.myi_defs.specs.declared.types.Defs.{Defs}
use Rattle.myi_pack.specs.Packed.{Values}
use Rattle.myi_state.specs.State.{TableState}
use Rattle.myi_state.specs.Changes.{Change, insert_at_end, accepted}
use Rattle.myi_tablestate.specs.Keyed.{KeyedRefusal, keyed_refusal, keyed_step, after_keyed}
use Rattle.myi_table.specs.declared.fault.ChangeFault.{ChangeFault}
use Rattle.myi_table.specs.declared.fault.ChangeFault.TheVariants as fault
use Rattle.myi_table.specs.Faults.{CutsOff}
use Rattle.myi_table.specs.Folding.{appended, CanFold}
use Rattle.myi_table.specs.Table.{OpenTable, defs_in, HoldState, HoldsThen, IsKept, IfHolds, Makes, IsReplyOf, Refuses, IsBroken, IsSame, KeepsOthers}

-- the state behind one row more
after_more : (d : Defs) (s : TableState) (rows : List Values) (i : ℕ) (row : Values) → i < length rows → slice_index_or rows i row ≡ row → after_keyed d s (appended (take (i + 1) rows)) ≡ (keyed_step d (after_keyed d s (appended (take i rows))) (insert_at_end row)).state
after_more d s [] i row few at = absurd (omega (arith, few))
after_more d s (r ∷ rows) zero row few at = ap (λ (v : Values). (keyed_step d s (insert_at_end v)).state) at
after_more d s (r ∷ rows) (suc i) row few at =
    let e : suc i + 1 ≡ suc (i + 1) = omega arith in
    ap (λ (n : ℕ). after_keyed d s (appended (take n (r ∷ rows)))) e ∙ after_more d (keyed_step d s (insert_at_end r)).state rows i row (omega (arith, few)) at

-- the next row is accepted
can_more : (d : Defs) (s : TableState) (rows : List Values) (i : ℕ) (row : Values) → i < length rows → slice_index_or rows i row ≡ row → CanFold d s rows → keyed_refusal d (after_keyed d s (appended (take i rows))) (insert_at_end row) ≡ None
can_more d s [] i row few at can = absurd (omega (arith, few))
can_more d s (r ∷ rows) zero row few at can = subst (λ (v : Values). keyed_refusal d s (insert_at_end v) ≡ None) at can.0
can_more d s (r ∷ rows) (suc i) row few at can = can_more d (keyed_step d s (insert_at_end r)).state rows i row (omega (arith, few)) at can.1

take_all : (rows : List Values) (i : ℕ) → length rows ≤ i → take i rows ≡ rows
take_all [] zero all = refl
take_all [] (suc i) all = refl
take_all (r ∷ rows) zero all = absurd (omega (arith, all))
take_all (r ∷ rows) (suc i) all = ap (λ (rs : List Values). r ∷ rs) (take_all rows i (omega (arith, all)))

-- where files tell what they hold and a table stood for a state, it stands for the one behind the first so many of these rows
abbrev pub FoldsTo : List Values → ℕ → Option Holding → Option Holding → OpenTable → OpenTable → Type 0
FoldsTo rows i told next old new = IfHolds told old (λ m s. HoldsThen next new (after_keyed (defs_in old) s (appended (take i rows))))

pub folds_none : (rows : List Values) (told : Option Holding) (t : OpenTable) → FoldsTo rows 0 told told t t
folds_none rows told t m held s h = (m, held, h)

pub folds_all : (rows : List Values) (i : ℕ) (told next : Option Holding) (old new : OpenTable) → length rows ≤ i → FoldsTo rows i told next old new → IfHolds told old (λ m s. HoldsThen next new (after_keyed (defs_in old) s (appended rows)))
folds_all rows i told next old new all folds m held s h = subst (λ (rs : List Values). HoldsThen next new (after_keyed (defs_in old) s (appended rs))) (take_all rows i all) (folds m held s h)

pub folds_more : (rows : List Values) (i : ℕ) (row : Values) (told mid next : Option Holding) (old half new : OpenTable) (at : ℕ) → i < length rows → slice_index_or rows i row ≡ row → defs_in half ≡ defs_in old
    → FoldsTo rows i told mid old half → Makes (insert_at_end row) mid next half new at → FoldsTo rows (i + 1) told next old new
folds_more rows i row told mid next old half new at few is same folds made m held s h =
    let d = defs_in old in
    let then : HoldsThen mid half (after_keyed d s (appended (take i rows))) = folds m held s h in
    let one = made then.0 then.1 (after_keyed d s (appended (take i rows))) then.2 in
    subst (λ (t : TableState). HoldsThen next new t) (sym (after_more d s rows i row few is))
    (subst (λ (e : Defs). HoldsThen next new (keyed_step e (after_keyed d s (appended (take i rows))) (insert_at_end row)).state) same one.state)

-- ---- what is in the way

abbrev pub ComeInOrder : Type 0
ComeInOrder = (d : Defs) (s : TableState) (c : Change) → keyed_refusal d s c ≡ None → ((keyed_step d s c).reply ≡ Ok (accepted d s c).at) × ((keyed_step d s c).state ≡ (accepted d s c).state)

ok_no_err : (at : ℕ) (r : KeyedRefusal) (reply : Result ℕ KeyedRefusal) → reply ≡ Ok at → reply ≡ Err r → ⊥
ok_no_err at r reply ok err = absurd (let e : ◌≡◌ {A = Result ℕ KeyedRefusal} (Ok at) (Err r) = sym ok ∙ err in cc)

cut_by : (at : ℕ) (reply : Result ℕ KeyedRefusal) (f : ChangeFault) → reply ≡ Ok at → IsReplyOf reply f → CutsOff f
cut_by at reply (fault.Broken cause) ok is = is
cut_by at reply (fault.NoRow p) ok is = ok_no_err at _ reply ok is
cut_by at reply (fault.Duplicate key p) ok is = ok_no_err at _ reply ok is
cut_by at reply fault.Full ok is = ok_no_err at _ reply ok is
cut_by at reply (fault.Damaged p) ok is = is
cut_by at reply fault.File ok is = tt
cut_by at reply fault.Memory ok is = tt

pub folds_cut : ComeInOrder → (rows : List Values) (i : ℕ) (row : Values) (told mid : Option Holding) (old half : OpenTable) (f : ChangeFault) → i < length rows → slice_index_or rows i row ≡ row → defs_in half ≡ defs_in old
    → IfHolds told old (λ m s. CanFold (defs_in old) s rows) → FoldsTo rows i told mid old half → Refuses (insert_at_end row) mid half f → IfHolds told old (λ m s. CutsOff f)
folds_cut order rows i row told mid old half f few is same can folds refused m held s h =
    let d = defs_in old in
    let t = after_keyed d s (appended (take i rows)) in
    let then : HoldsThen mid half t = folds m held s h in
    cut_by (accepted d t (insert_at_end row)).at (keyed_step d t (insert_at_end row)).reply f (order d t (insert_at_end row) (can_more d s rows i row few is (can m held s h))).0
    (subst (λ (e : Defs). IsReplyOf (keyed_step e t (insert_at_end row)).reply f) same (refused then.0 then.1 t then.2))

-- a refusal in the middle comes from a table that was whole
pub first_in_middle : (old half new : OpenTable) (told mid next : Option Holding) (f : ChangeFault) → old.broken ≡ None → half.broken ≡ None → IsBroken half new mid next f → IsBroken old new told next f
first_in_middle old half new told mid next (fault.Broken cause) was whole is = absurd (let e : ◌≡◌ {A = Option _} None (Some cause) = sym whole ∙ is.0 in cc)
first_in_middle old half new told mid next (fault.NoRow at) was whole is = was
first_in_middle old half new told mid next (fault.Duplicate key at) was whole is = was
first_in_middle old half new told mid next fault.Full was whole is = was
first_in_middle old half new told mid next (fault.Damaged at) was whole is = was
first_in_middle old half new told mid next fault.File was whole is = was
first_in_middle old half new told mid next fault.Memory was whole is = was

-- ---- one call behind another

pub same_then : (old half new : OpenTable) → IsSame old half → IsSame half new → IsSame old new
same_then old half new one two = record {
  name = two.name ∙ one.name;
  setup = two.setup ∙ one.setup;
  header = two.header ∙ one.header;
  lost = two.lost ∙ one.lost;
  defs = two.defs ∙ one.defs;
  added = two.added ∙ one.added;
}

pub others_then : (told mid next : Option Holding) (old half : List ℕ) → half ≡ old → Told told mid (KeepsOthers old) → Told mid next (KeepsOthers half) → Told told next (KeepsOthers old)
others_then told mid next old half same one two =
    told_then told mid next (KeepsOthers old) (KeepsOthers old) (KeepsOthers old) one (subst (λ (name : List ℕ). Told mid next (KeepsOthers name)) same two) (λ m n k first second q rows index. second q rows index ∙ first q rows index)
