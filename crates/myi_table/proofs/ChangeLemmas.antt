-- Changes of a table, by the changes of its rows and trees.
use Rattle.std.proofs.Common.{◌≡◌, ℕ, Bool, true, Option, Some, None, Result, Err, List, map, refl, sym, ap, subst, ◌∙◌}
use Rattle.std.proofs.lemmas.Option.{same_Some}
use Rattle.myi_base.specs.Holding.{Holding, Told, OthersStay}
use Rattle.myi_base.proofs.CallerLemmas.{told_more}
use Rattle.myi_base.specs.Causes.{HasCause}
use Rattle.myi_defs.specs.declared.types.Defs.{Defs}
use Rattle.myi_defs.specs.Addressable.{is_addressable}
use Rattle.myi_pack.specs.Packed.{Values}
use Rattle.myi_search.specs.Counting.{CountsOn}
use Rattle.myi_state.specs.State.{TableState}
use Rattle.myi_state.specs.Changes.{Change}
use Rattle.myi_pair.specs.FirstRows.{key_numbers}
use Rattle.myi_pair.specs.Trees.{place_of}
use Rattle.myi_keytrees.specs.Trees.{SameKinds}
use Rattle.myi_tablestate.specs.Keyed.{KeyedRefusal, keyed_step}
use Rattle.myi_opening.specs.Names.{rows_file}
use Rattle.myi_rowtrees.specs.Duplicates.{MayRepeat}
use Rattle.myi_keyedrows.specs.declared.keyed_rows.KeyedRows.{KeyedRows}
use Rattle.myi_keyedrows.specs.declared.fault.KeyedFault.{KeyedFault}
use Rattle.myi_keyedrows.specs.declared.fault.KeyedFault.TheVariants as kf
use Rattle.myi_keyedrows.specs.KeyedRows.{defs_of, HoldThen, IsSameTable, IsLeft}
use Rattle.myi_keyedrows.specs.KeyedRows as keyed
use Rattle.myi_keyedrows.specs.Refusals as causes
use Rattle.myi_keyedrows.specs.Files.{AreOfKeys}
use Rattle.myi_keyedrows.proofs.CallerLemmas.{step_reached, still_files}
use Rattle.myi_table.specs.declared.fault.Cause.{Cause}
use Rattle.myi_table.specs.declared.fault.ChangeFault.{ChangeFault}
use Rattle.myi_table.specs.declared.fault.ChangeFault.TheVariants as fault
use Rattle.myi_table.specs.Faults.{of_rows, broken_by_fault}
use Rattle.myi_table.specs.Table.{OpenTable, defs_in, HoldState, HoldsThen, IsKept, StillHolds, Makes, IsReplyOf, Refuses, IfReply, IsBroken, IsSame, KeepsRows, ChangesItsOwn}
use Rattle.myi_table.specs.Refusals.{ByCause}
use Rattle.myi_table.specs.Tied.{IsTied}

-- the table with other rows and trees
abbrev pub with_rows : OpenTable → KeyedRows → Bool → Option Cause → OpenTable
with_rows t rows changed broken = record t { rows = rows; changed = changed; broken = broken }

holds_rows : (old : OpenTable) (rows : KeyedRows) (changed : Bool) (s t : TableState) (m : Holding) (next : Option Holding) → IsSameTable old.rows rows → (h : HoldState old s m) → is_addressable (defs_in old) t.space.end ≡ true → HoldThen old.rows m h.own next rows t
    → HoldsThen next (with_rows old rows changed old.broken) t
holds_rows old rows changed s t m next same h reached then =
    (then.now, then.held, record { whole = h.whole; own = h.own; files = still_files old.rows rows old.lost h.own s t m next h.files same reached then })

pub makes_rows : (c : Change) (told next : Option Holding) (old : OpenTable) (rows : KeyedRows) (at : ℕ) → IsSameTable old.rows rows → keyed.Makes c told next old.rows rows at → Makes c told next old (with_rows old rows true old.broken) at
makes_rows c told next old rows at same made = λ m held s h.
    let one = made m held h.own s h.files.table in
    record { reply = one.reply; state = holds_rows old rows true s (keyed_step (defs_in old) s c).state m next same h (step_reached (defs_in old) s c at one.reply) one.state }

pub still_rows : (told next : Option Holding) (old : OpenTable) (rows : KeyedRows) → IsSameTable old.rows rows → keyed.StillHold told next old.rows rows → StillHolds told next old (with_rows old rows old.changed old.broken)
still_rows told next old rows same still = λ m held s h. holds_rows old rows old.changed s s m next same h h.files.reached (still m held h.own s h.files.table)

-- ---- refusals

reply_is : (reply : Result ℕ KeyedRefusal) (f : KeyedFault) → keyed.IsReplyOf reply f → IsReplyOf reply (of_rows f)
reply_is reply (kf.Duplicate key at) is = is
reply_is reply (kf.NoRow at) is = is
reply_is reply kf.Full is = is
reply_is reply (kf.Damaged at) is = is
reply_is reply kf.File is = tt
reply_is reply kf.Memory is = tt

pub refuses_rows : (c : Change) (told : Option Holding) (old : OpenTable) (f : KeyedFault) → keyed.Refuses c told old.rows f → Refuses c told old (of_rows f)
refuses_rows c told old f refused = λ m held s h. reply_is (keyed_step (defs_in old) s c).reply f (refused m held h.own s h.files.table)

pub unchanged_rows : (told next : Option Holding) (old : OpenTable) (rows : KeyedRows) (f : KeyedFault) (count : ℕ) → IsSameTable old.rows rows → keyed.IfReply f (keyed.StillHold told next old.rows rows)
    → IfReply (of_rows f) (StillHolds told next old (with_rows old rows old.changed (broken_by_fault (of_rows f) count old.broken)))
unchanged_rows told next old rows (kf.Duplicate key at) count same still = still_rows told next old rows same still
unchanged_rows told next old rows (kf.NoRow at) count same still = still_rows told next old rows same still
unchanged_rows told next old rows kf.Full count same still = still_rows told next old rows same still
unchanged_rows told next old rows (kf.Damaged at) count same still = tt
unchanged_rows told next old rows kf.File count same still = tt
unchanged_rows told next old rows kf.Memory count same still = tt

pub not_broken : (old new : OpenTable) (told next : Option Holding) (f : KeyedFault) → old.broken ≡ None → IsBroken old new told next (of_rows f)
not_broken old new told next (kf.Duplicate key at) whole = whole
not_broken old new told next (kf.NoRow at) whole = whole
not_broken old new told next kf.Full whole = whole
not_broken old new told next (kf.Damaged at) whole = whole
not_broken old new told next kf.File whole = whole
not_broken old new told next kf.Memory whole = whole

pub is_broken : (old : OpenTable) (told : Option Holding) (f : ChangeFault) (cause : Cause) → old.broken ≡ Some cause → f ≡ fault.Broken cause → IsBroken old old told told f
is_broken old told f cause was is = subst (λ (g : ChangeFault). IsBroken old old told told g) (sym is) (was, refl, refl)

-- ---- the table is kept

none_some : (m : Holding) (o : Option Holding) → o ≡ None → o ≡ Some m → ⊥
none_some m o none some = absurd (let e : ◌≡◌ {A = Option Holding} None (Some m) = sym none ∙ some in cc)

-- files that tell after a call told before
pub told_before : (told next : Option Holding) → (told ≡ None → next ≡ None) → (n : Holding) → next ≡ Some n → (m : Holding) × (told ≡ Some m)
told_before None next untold n held = absurd (none_some n next (untold refl) held)
told_before (Some m) next untold n held = (m, refl)

pub kept_then : (told next : Option Holding) (old new : OpenTable) → (told ≡ None → next ≡ None) → IsKept told old → old.broken ≡ None
    → ((m : Holding) → told ≡ Some m → (s : TableState) → HoldState old s m → (t : TableState) × HoldsThen next new t) → IsKept next new
kept_then told next old new untold kept whole go = λ none n held.
    let was = told_before told next untold n held in
    let h = kept whole was.0 was.1 in
    let g = go was.0 was.1 h.0 h.1 in
    (g.0, subst (λ (q : Holding). HoldState new g.0 q) (same_Some g.1.0 n (sym g.1.1 ∙ held)) g.1.2)

pub kept_made : (c : Change) (told next : Option Holding) (old new : OpenTable) (at : ℕ) → (told ≡ None → next ≡ None) → IsKept told old → old.broken ≡ None → Makes c told next old new at → IsKept next new
kept_made c told next old new at untold kept whole made =
    kept_then told next old new untold kept whole (λ m held s h. ((keyed_step (defs_in old) s c).state, (made m held s h).state))

pub kept_refused : (c : Change) (told next : Option Holding) (old : OpenTable) (rows : KeyedRows) (f : KeyedFault) (count : ℕ) → IsSameTable old.rows rows → (told ≡ None → next ≡ None) → IsKept told old → old.broken ≡ None
    → keyed.Refuses c told old.rows f → keyed.IfReply f (keyed.StillHold told next old.rows rows) → IsKept next (with_rows old rows old.changed (broken_by_fault (of_rows f) count old.broken))
kept_refused c told next old rows (kf.Duplicate key at) count same untold kept whole refused still = kept_then told next old (with_rows old rows old.changed old.broken) untold kept whole (λ m held s h. (s, still_rows told next old rows same still m held s h))
kept_refused c told next old rows (kf.NoRow at) count same untold kept whole refused still = kept_then told next old (with_rows old rows old.changed old.broken) untold kept whole (λ m held s h. (s, still_rows told next old rows same still m held s h))
kept_refused c told next old rows kf.Full count same untold kept whole refused still = kept_then told next old (with_rows old rows old.changed old.broken) untold kept whole (λ m held s h. (s, still_rows told next old rows same still m held s h))
kept_refused c told next old rows (kf.Damaged at) count same untold kept whole refused still = kept_then told next old (with_rows old rows old.changed old.broken) untold kept whole (λ m held s h. absurd (refused m held h.own s h.files.table))
kept_refused c told next old rows kf.File count same untold kept whole refused still = λ none. absurd cc
kept_refused c told next old rows kf.Memory count same untold kept whole refused still = λ none. absurd cc

-- ---- trees are made as before

pub keys_again : (old new : KeyedRows) → AreOfKeys old → SameKinds old.trees.places new.trees.places → defs_of new ≡ defs_of old → AreOfKeys new
keys_again old new are same defs = same ∙ are ∙ ap (λ (d : Defs). map (place_of d) (key_numbers d)) (sym defs)

-- ---- what holds of each table

pub is_same : (old : OpenTable) (rows : KeyedRows) (changed : Bool) (broken : Option Cause) → IsSameTable old.rows rows → IsSame old (with_rows old rows changed broken)
is_same old rows changed broken same = record { name = refl; setup = refl; header = refl; lost = refl; defs = same.defs; added = refl }

pub tied_again : (old : OpenTable) (rows : KeyedRows) (changed : Bool) (broken : Option Cause) (defs : Defs) (index : List ℕ) → IsTied old defs index → keyed.IsFit rows → SameKinds old.rows.trees.places rows.trees.places → CountsOn old.rows.trees.cache rows.trees.cache
    → IsSameTable old.rows rows → IsTied (with_rows old rows changed broken) defs index
tied_again old rows changed broken defs index t fit made counted same = record {
  are = t.are;
  defs = same.defs ∙ t.defs;
  fit = fit;
  keys = keys_again old.rows rows t.keys made same.defs;
  rows_named = same.file ∙ t.rows_named;
  index_named = same.index ∙ t.index_named;
  index = t.index;
  rest = t.rest;
  setup = counted.setup ∙ t.setup;
  allowed = t.allowed;
  fewer = t.fewer;
}

pub others_of : (told next : Option Holding) (t : OpenTable) (defs : Defs) (index : List ℕ) → IsTied t defs index → keyed.ChangesItsOwn told next t.rows → ChangesItsOwn told next t
others_of told next t defs index tied others = record {
  told = λ m held. let n = others.told m held in (n.0, n.1, λ q one two. n.2 q (λ e. one (e ∙ tied.rows_named)) (λ e. two (e ∙ tied.index_named)));
  untold = others.untold;
}

pub cause_rows : {T U : Type 0} (before now : ℕ) (f : KeyedFault) → HasCause {T = T} {E = KeyedFault} kf.File before now (Err f) → HasCause {T = U} {E = ChangeFault} fault.File before now (Err (of_rows f))
cause_rows before now (kf.Duplicate key at) h = record { later = h.later; cause = λ e. absurd cc }
cause_rows before now (kf.NoRow at) h = record { later = h.later; cause = λ e. absurd cc }
cause_rows before now kf.Full h = record { later = h.later; cause = λ e. absurd cc }
cause_rows before now (kf.Damaged at) h = record { later = h.later; cause = λ e. absurd cc }
cause_rows before now kf.File h = record { later = h.later; cause = λ e. h.cause refl }
cause_rows before now kf.Memory h = record { later = h.later; cause = λ e. absurd cc }

-- ---- the data file

-- the other file alone was changed
pub rows_kept : (told next : Option Holding) (t : OpenTable) (defs : Defs) (index : List ℕ) → IsTied t defs index → Told told next (OthersStay t.rows.trees.cache.name) → Told told next (KeepsRows t.name)
rows_kept told next t defs index tied others = told_more told next _ (KeepsRows t.name) others (λ m n held stay. stay (rows_file t.name) (λ e. tied.fit.apart (tied.rows_named ∙ e)))

if_reply : (f : KeyedFault) (P Q : Type 0) → (P → Q) → keyed.IfReply f P → IfReply (of_rows f) Q
if_reply (kf.Duplicate key at) P Q go p = go p
if_reply (kf.NoRow at) P Q go p = go p
if_reply kf.Full P Q go p = go p
if_reply (kf.Damaged at) P Q go p = tt
if_reply kf.File P Q go p = tt
if_reply kf.Memory P Q go p = tt

-- a refused change leaves it
pub refused_rows : (told next : Option Holding) (t : OpenTable) (defs : Defs) (index : List ℕ) (f : KeyedFault) → IsTied t defs index → keyed.IfReply f (Told told next (OthersStay t.rows.trees.cache.name)) → IfReply (of_rows f) (Told told next (KeepsRows t.name))
refused_rows told next t defs index f tied apart = if_reply f _ _ (rows_kept told next t defs index tied) apart

-- and so does one that changes no file
pub untouched_rows : (told next : Option Holding) (t : OpenTable) (f : KeyedFault) → keyed.IfReply f (next ≡ told) → IfReply (of_rows f) (Told told next (KeepsRows t.name))
untouched_rows told next t f same = if_reply f _ _ (λ e. subst (λ (q : Option Holding). Told told q (KeepsRows t.name)) (sym e) (record { told = λ m held. (m, held, refl); untold = λ none. none })) same

-- ---- over any files

pub by_rows : (N H : ℕ → Type 0) (P : Type 0) (f : KeyedFault) → causes.ByCause N H P f → ByCause N H P (of_rows f)
by_rows N H P (kf.Duplicate key at) by = by
by_rows N H P (kf.NoRow at) by = by
by_rows N H P kf.Full by = by
by_rows N H P (kf.Damaged at) by = tt
by_rows N H P kf.File by = tt
by_rows N H P kf.Memory by = tt

-- of the row's key by the definitions of the table
pub by_repeat : (e d : Defs) (row : Values) (N : ℕ → Type 0) (P : Type 0) (f : KeyedFault) → e ≡ d → causes.ByCause N (MayRepeat d row) P f → ByCause N (MayRepeat e row) P (of_rows f)
by_repeat e d row N P f same by = by_rows N (MayRepeat e row) P f (subst (λ (x : Defs). causes.ByCause N (MayRepeat x row) P f) (sym same) by)

pub any_room : (N H G : ℕ → Type 0) (P : Type 0) (f : ChangeFault) → ((key : ℕ) → H key → G key) → ByCause N H P f → ByCause N G (Unit {0}) f
any_room N H G P (fault.Broken cause) more by = tt
any_room N H G P (fault.NoRow at) more by = by
any_room N H G P (fault.Duplicate key at) more by = more key by
any_room N H G P fault.Full more by = tt
any_room N H G P (fault.Damaged at) more by = tt
any_room N H G P fault.File more by = tt
any_room N H G P fault.Memory more by = tt

pub left_rows : (old : OpenTable) (rows : KeyedRows) (broken : Option Cause) (f : KeyedFault) → keyed.IfReply f (IsLeft old.rows rows) → IfReply (of_rows f) (IsLeft old.rows (with_rows old rows old.changed broken).rows)
left_rows old rows broken f left = if_reply f _ _ (λ l. l) left
