-- Steps of a table with keys, from what became of its two files.
use Rattle.std.proofs.Common.{◌≡◌, ◌≢◌, ℕ, List, Option, Some, None, Ok, Err, refl, sym, subst, ◌∙◌}
use Rattle.myi_base.specs.Holding.{Holding, IfTold, Told, OthersStay}
use Rattle.myi_defs.specs.declared.types.Defs.{Defs}
use Rattle.myi_keylist.specs.declared.pair.Pair.{Pair}
use Rattle.myi_btree.specs.declared.fault.TreeFault.{TreeFault}
use Rattle.myi_btree.specs.declared.fault.TreeFault.TheVariants as tree
use Rattle.myi_btree.specs.Faults.{DamagedAt}
use Rattle.myi_state.specs.State.{TableState}
use Rattle.myi_state.specs.Changes.{Change, Refusal, no_row, full, accepted, refusal, step, step_by}
use Rattle.myi_slots.specs.declared.fault.DataFault.{DataFault}
use Rattle.myi_slots.specs.declared.fault.DataFault.TheVariants as read
use Rattle.myi_slots.specs.SlotFile.{SlotFile, IsRefusal, IfRefused}
use Rattle.myi_blocks.specs.Places.{NotedFile, IsNotedFileOf, StepsNoted, RefusesNoted}
use Rattle.myi_keytrees.specs.Trees.{Trees}
use Rattle.myi_keytrees.specs.Standing.{Stand, StandThen}
use Rattle.myi_keytrees.proofs.CallerLemmas.{stand_elsewhere}
use Rattle.myi_tablestate.specs.Keyed.{IsTable, lacks_key, KeyedStep, without_keys, keyed_step}
use Rattle.myi_rowtrees.specs.RowLists.{lists_of}
use Rattle.myi_keyedrows.specs.declared.keyed_rows.KeyedRows.{KeyedRows}
use Rattle.myi_keyedrows.specs.declared.fault.KeyedFault.{KeyedFault}
use Rattle.myi_keyedrows.specs.declared.fault.KeyedFault.TheVariants as fault
use Rattle.myi_keyedrows.specs.KeyedRows.{defs_of, HoldThen, IfHold, StillHold, Makes, IsReplyOf, Refuses, IfReply}
use Rattle.myi_keyedrows.specs.Faults.{data_fault, tree_fault}
use Rattle.myi_keyedrows.proofs.HoldLemmas.{told_once, both_changed}

-- ---- steps without keys

pub step_made : (d : Defs) (s : TableState) (c : Change) (at : ℕ) → (step d s c).reply ≡ Ok at → ((accepted d s c).at ≡ at) × ((step d s c).state ≡ (accepted d s c).state)
unfolding step
step_made d s c at is = by (refusal d s c) is
  where
    by : (r : Option Refusal) → (step_by s (accepted d s c) r).reply ≡ Ok at → ((accepted d s c).at ≡ at) × ((step_by s (accepted d s c) r).state ≡ (accepted d s c).state)
    by None is = (cc, refl)
    by (Some r) is = absurd cc

-- what the laws say of a change of these definitions
pub record KeyedLaws (d : Defs) (c : Change) : Type 0 where
  pub made : (s : TableState) (at : ℕ) → lacks_key d s c ≡ None → (step d s c).reply ≡ Ok at → ((keyed_step d s c).reply ≡ Ok at) × ((keyed_step d s c).state ≡ (step d s c).state)
  pub refused : (s : TableState) (r : Refusal) → lacks_key d s c ≡ None → (step d s c).reply ≡ Err r → (keyed_step d s c).reply ≡ Err (without_keys r)
  pub keep : (s : TableState) → IsTable d s → IsTable d (keyed_step d s c).state

-- the row repeats no other one
abbrev pub LacksNone : Change → Option Holding → KeyedRows → Type 0
LacksNone c told k = IfHold told k (λ m own s. lacks_key (defs_of k) s c ≡ None)

abbrev keyed_of : SlotFile → TableState → Change → KeyedStep
keyed_of f s c = keyed_step f.defs s c

-- ---- half of a change: the data file stands for the table after it, and the trees for that before

pub record Half (c : Change) (old mid : KeyedRows) (m : Holding) (own : ℕ → ℕ) (s : TableState) (next : Option Holding) (rows : NotedFile) (at : ℕ) : Type 0 where
  pub mid_held : Option Holding
  pub one : HoldThen old m own mid_held mid s
  pub two : Holding
  pub held : next ≡ Some two
  pub stay : OthersStay mid.rows.file.name one.now two
  pub reply : (step (defs_of mid) s c).reply ≡ Ok at
  pub noted : IsNotedFileOf rows (step (defs_of mid) s c).state two
  pub here : StandThen mid.trees one.now own (Some two) mid.trees (lists_of (defs_of mid) s.rows)

pub half_made : (c : Change) (old mid : KeyedRows) (rows : NotedFile) (told mid_told next : Option Holding) (at : ℕ) → mid.rows.file.name ≢ mid.trees.cache.name
    → StillHold told mid_told old mid → Told mid_told next (StepsNoted c mid.rows rows at) → Told mid_told next (OthersStay mid.rows.file.name)
    → IfHold told old (λ m own s. Half c old mid m own s next rows at)
half_made c old mid rows told mid_told next at apart still steps stay = λ m held own s h.
    let one = still m held own s h in
    let two = steps.told one.now one.held in
    let left = stay.told one.now one.held in
    let off = subst (λ (n : Holding). OthersStay mid.rows.file.name one.now n) (told_once next left.0 two.0 left.1 two.1) left.2 in
    let step_of = two.2 s one.table.rows in
    record {
      mid_held = mid_told;
      one = one;
      two = two.0;
      held = two.1;
      stay = off;
      reply = step_of.0;
      noted = step_of.1;
      here = stand_elsewhere mid.trees one.now two.0 own (lists_of (defs_of mid) s.rows) (off mid.trees.cache.name (λ e. apart (sym e))) one.table.trees;
    }

-- what holds of the trees of a table in which half of a change was made
abbrev pub OfHalf : Change → Option Holding → Option Holding → KeyedRows → KeyedRows → ℕ → (Holding → (ℕ → ℕ) → List (List Pair) → TableState → Type 0) → Type 0
OfHalf c told next old mid at P = IfHold told old (λ m own s. (n : Holding) (bytes : ℕ → ℕ) (lists : List (List Pair)) → next ≡ Some n → Stand mid.trees n bytes lists → IsTable (defs_of mid) s → lists ≡ lists_of (defs_of mid) s.rows → (accepted (defs_of mid) s c).at ≡ at → P n bytes lists s)

-- the trees come to stand for the lists of the table after the change
abbrev pub TreesFollow : Change → Option Holding → Option Holding → Option Holding → KeyedRows → KeyedRows → Trees → ℕ → Type 0
TreesFollow c told next last old mid trees at = OfHalf c told next old mid at (λ n bytes lists s. StandThen mid.trees n bytes last trees (lists_of (defs_of mid) (accepted (defs_of mid) s c).state.rows))

pub half_whole : (c : Change) (old mid : KeyedRows) (rows : NotedFile) (trees : Trees) (told next last : Option Holding) (at : ℕ)
    → mid.rows.file.name ≢ mid.trees.cache.name → mid.rows.file ≡ old.rows.file → rows.file.defs ≡ defs_of mid → rows.file.name ≡ mid.rows.file.name
    → KeyedLaws (defs_of mid) c → LacksNone c told old
    → IfHold told old (λ m own s. Half c old mid m own s next rows at)
    → TreesFollow c told next last old mid trees at → Told next last (OthersStay mid.trees.cache.name)
    → Makes c told last old (record { rows = rows; trees = trees }) at
half_whole c old mid rows trees told next last at apart alike same name laws none half follow others = λ m held own s h.
    let d = defs_of mid in
    let new : KeyedRows = record { rows = rows; trees = trees } in
    let f = half m held own s h in
    let free : lacks_key d s c ≡ None = subst (λ (r : SlotFile). lacks_key r.defs s c ≡ None) (sym alike) (none m held own s h) in
    let done = step_made d s c at f.reply in
    let keyed = laws.made s at free f.reply in
    let table = subst (λ (t : TableState). IsTable d t) keyed.1 (laws.keep s f.one.table.table) in
    let lists = lists_of d s.rows in
    let put = follow m held own s h f.here.now own lists (f.held ∙ f.here.held) f.here.stand f.one.table.table refl done.0 in
    let end = both_changed old mid new m own f.mid_held next last s (step d s c).state apart same f.one f.two f.held f.stay name table f.noted f.here
    (subst (λ (t : TableState). StandThen mid.trees f.here.now own last trees (lists_of d t.rows)) (sym done.1) put) others in
    record {
      reply = subst (λ (r : SlotFile). (keyed_of r s c).reply ≡ Ok at) alike keyed.0;
      state = subst (λ (r : SlotFile). HoldThen old m own last new (keyed_of r s c).state) alike (subst (λ (t : TableState). HoldThen old m own last new t) (sym keyed.1) end);
    }

pub half_never : (c : Change) (old mid : KeyedRows) (rows : NotedFile) (told next : Option Holding) (at : ℕ) → IfHold told old (λ m own s. Half c old mid m own s next rows at) → OfHalf c told next old mid at (λ n bytes lists s. ⊥) → IfHold told old (λ m own s. ⊥)
half_never c old mid rows told next at half never = λ m held own s h.
    let f = half m held own s h in
    let done = step_made (defs_of mid) s c at f.reply in
    never m held own s h f.here.now own (lists_of (defs_of mid) s.rows) (f.held ∙ f.here.held) f.here.stand f.one.table.table refl done.0

-- ---- refusals

by_data : (c : Change) (d : Defs) (s : TableState) (f : DataFault) → IsRefusal (step d s c).reply f → ((r : Refusal) → (step d s c).reply ≡ Err r → (keyed_step d s c).reply ≡ Err (without_keys r)) → IsReplyOf (keyed_step d s c).reply (data_fault f)
by_data c d s (read.NoRow at) is keyed = keyed (no_row at) is
by_data c d s read.Full is keyed = keyed full is
by_data c d s (read.Damaged at) is keyed = is
by_data c d s read.File is keyed = tt
by_data c d s read.Memory is keyed = tt

pub refuses_data : (c : Change) (old mid : KeyedRows) (told then : Option Holding) (f : DataFault) → mid.rows.file ≡ old.rows.file → KeyedLaws (defs_of mid) c → StillHold told then old mid → LacksNone c told old → IfTold then (RefusesNoted c mid.rows f) → Refuses c told old (data_fault f)
refuses_data c old mid told then f alike laws still none refused = λ m held own s h.
    let one = still m held own s h in
    let free : lacks_key (defs_of mid) s c ≡ None = subst (λ (r : SlotFile). lacks_key r.defs s c ≡ None) (sym alike) (none m held own s h) in
    subst (λ (r : SlotFile). IsReplyOf (keyed_of r s c).reply (data_fault f)) alike (by_data c (defs_of mid) s f (refused one.now one.held s one.table.rows) (λ r is. laws.refused s r free is))

pub reply_data : (f : DataFault) (P Q : Type 0) → IfRefused f P → (P → Q) → IfReply (data_fault f) Q
reply_data (read.NoRow at) P Q is then = then is
reply_data read.Full P Q is then = then is
reply_data (read.Damaged at) P Q is then = tt
reply_data read.File P Q is then = tt
reply_data read.Memory P Q is then = tt

pub refuses_tree : (c : Change) (told : Option Holding) (old : KeyedRows) (e : TreeFault) → DamagedAt (λ at. IfHold told old (λ m own s. ⊥)) e → Refuses c told old (tree_fault e)
refuses_tree c told old (tree.Damaged at) never = λ m held own s h. never at refl m held own s h
refuses_tree c told old tree.File never = λ m held own s h. tt
refuses_tree c told old tree.Memory never = λ m held own s h. tt

pub reply_tree : (e : TreeFault) (P : Type 0) → IfReply (tree_fault e) P
reply_tree (tree.Damaged at) P = tt
reply_tree tree.File P = tt
reply_tree tree.Memory P = tt

pub reply_any : (f : KeyedFault) (P : Type 0) → P → IfReply f P
reply_any (fault.Duplicate k at) P is = is
reply_any (fault.NoRow at) P is = is
reply_any fault.Full P is = is
reply_any (fault.Damaged at) P is = tt
reply_any fault.File P is = tt
reply_any fault.Memory P is = tt
