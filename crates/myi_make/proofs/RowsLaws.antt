-- The rows that are put, one more at a time, and the blocks of every tenth.
use Rattle.std.proofs.Common.{◌≡◌, ◌⊎◌, ◌<◌, ◌≤◌, ◌++◌, ◌∷◌, ◌+◌, ◌-◌, ◌*◌, ◌%◌, ◌==◌, ◌∙◌, ℕ, suc, Bool, true, false, List, [], Option, Some, None, length, ap, subst, sym, refl, arith, inl, inr}
use Rattle.std.proofs.lemmas.List.{append_assoc, append-nil, length-append}
use Rattle.myi_base.specs.Holding.{Holding, IfTold, Told}
use Rattle.myi_base.proofs.CallerLemmas.{told_same, told_then, told_more}
use Rattle.myi_opening.specs.Names.{rows_file, index_file}
use Rattle.myi_pack.specs.Packed.{Values}
use Rattle.myi_state.specs.State.{empty_table}
use Rattle.myi_state.specs.Changes.{insert}
use Rattle.myi_tablestate.specs.Keyed.{keyed_step}
use Rattle.myi_slots.specs.SlotFile.{AddsNew}
use Rattle.myi_table.specs.Table.{OpenTable, defs_in, IsKept, IsSame, KeepsOthers, ChangesItsOwn}
use Rattle.myi_make.specs.declared.fault.MakeFault.{MakeFault}
use Rattle.myi_make.specs.Faults.{CutsOff}
use Rattle.myi_make.specs.MadeTable.{defs, next_number, row_of, row_block}
use Rattle.myi_make.specs.Filling.{Block, rows_behind, if_tenth, tenths, HoldsRows, IsEmpty, HasPut, TakesRow, RefusesRow}
use Rattle.myi_make.proofs.SizeLaws.{row_short}
use Rattle.myi_make.proofs.BlockLaws.{block_short}
use Rattle.myi_make.proofs.StepLaws.{length_is, end_is, accepts, never_refused, takes_row}

-- the rows so far and those that are left are all rows, and so it is with the blocks of every tenth
pub record SoFar (t : OpenTable) (count seed i x : ℕ) (blocks : List Block) (n : Holding) : Type 0 where
  pub file : List ℕ
  pub holds : HoldsRows t i file n
  pub short : length file ≤ i * 252
  pub rows : file ++ rows_behind (count - i) i x ≡ rows_behind count 0 seed
  pub noted : blocks ++ tenths (count - i) i x (length file) ≡ tenths count 0 seed 0

from_zero : (n : ℕ) → n - 0 ≡ n
from_zero n = omega arith

none_so_far : (t : OpenTable) (count seed : ℕ) (blocks : List Block) (m : Holding) → blocks ≡ [] → IsEmpty t m → SoFar t count seed 0 seed blocks m
none_so_far t count seed blocks m none empty = record {
  file = [];
  holds = record { state = empty_table; holds = empty.holds; rows = tt; none = refl; bytes = empty.bytes };
  short = omega arith;
  rows = ap (λ k. rows_behind k 0 seed) (from_zero count);
  noted = ap (λ (bs : List Block). bs ++ tenths (count - 0) 0 seed 0) none ∙ ap (λ k. tenths k 0 seed 0) (from_zero count);
}

pub none_yet : (t : OpenTable) (count seed : ℕ) (blocks : List Block) (old : Option Holding) → blocks ≡ [] → IfTold old (IsEmpty t) → Told old old (λ m n. SoFar t count seed 0 seed blocks n)
none_yet t count seed blocks old none empty = told_same old old (λ m n. SoFar t count seed 0 seed blocks n) refl (λ m held. none_so_far t count seed blocks m none (empty m held))

one_less : (n i : ℕ) → i < n → n - i ≡ suc (n - (i + 1))
one_less n i less = omega (arith, less)

-- the block of a row is the next of every tenth, or not
tenth_more : (b : Bool) (old new others whole : List Block) (block : Block) → new ≡ old ++ if_tenth b block [] → old ++ if_tenth b block others ≡ whole → new ++ others ≡ whole
tenth_more true old new others whole block is was = ap (λ (bs : List Block). bs ++ others) is ∙ append_assoc old (block ∷ []) others ∙ was
tenth_more false old new others whole block is was = ap (λ (bs : List Block). bs ++ others) (is ∙ append-nil old) ∙ was

so_far_more : (t u : OpenTable) (count seed i x at size : ℕ) (old new : List Block) (row : Values) (m n : Holding) → i < count → count ≤ 100000 → defs_in t ≡ defs → row ≡ row_of (i + 1) (next_number x) → t.rows.rows.file.name ≡ rows_file t.name → u.name ≡ t.name
    → TakesRow row (Some m) (Some n) t u → AddsNew t.rows.rows.file u.rows.rows.file row m n → at ≡ t.rows.rows.file.counts.length → size ≡ length (row_block (row_of (i + 1) (next_number x))) → new ≡ old ++ if_tenth ((i + 1) % 10 == 0) (at, size) []
    → SoFar t count seed i x old m → SoFar u count seed (i + 1) (next_number x) new n
so_far_more t u count seed i x at size old new row m n less few own is named same takes adds place sized noted was =
    let next = next_number x in
    let block : List ℕ = row_block (row_of (i + 1) next) in
    let left : ℕ = count - (i + 1) in
    let more = length-append was.file block in
    let end : at ≡ length was.file = place ∙ length_is t was.holds.state m was.holds.holds named ∙ ap (λ (b : List ℕ). length b) was.holds.bytes in
    let all = ap (λ k. old ++ tenths k i x (length was.file)) (sym (one_less count i less)) ∙ was.noted in
    let new_is : new ≡ old ++ if_tenth ((i + 1) % 10 == 0) (length was.file, length block) [] = noted ∙ ap (λ p. old ++ if_tenth ((i + 1) % 10 == 0) (p, size) []) end ∙ ap (λ k. old ++ if_tenth ((i + 1) % 10 == 0) (length was.file, k) []) sized in
    record {
      file = was.file ++ block;
      holds = takes_row t u i next row was.file m n (omega (arith, less, few)) was.short own is named same takes adds was.holds;
      short = omega (arith, more, was.short, block_short (row_of (i + 1) next) (row_short (i + 1) next));
      rows = append_assoc was.file block (rows_behind left (i + 1) next) ∙ ap (λ k. was.file ++ rows_behind k i x) (sym (one_less count i less)) ∙ was.rows;
      noted =
          ap (λ k. new ++ tenths left (i + 1) next k) more
          ∙ tenth_more ((i + 1) % 10 == 0) old new (tenths left (i + 1) next (length was.file + length block)) (tenths count 0 seed 0) (length was.file, length block) new_is all;
    }

pub one_more : (t u : OpenTable) (count seed i x at size : ℕ) (old new : List Block) (row : Values) (begin mid end : Option Holding) → i < count → count ≤ 100000 → defs_in t ≡ defs → row ≡ row_of (i + 1) (next_number x) → t.rows.rows.file.name ≡ rows_file t.name → u.name ≡ t.name
    → TakesRow row mid end t u → Told mid end (AddsNew t.rows.rows.file u.rows.rows.file row) → at ≡ t.rows.rows.file.counts.length → size ≡ length (row_block (row_of (i + 1) (next_number x))) → new ≡ old ++ if_tenth ((i + 1) % 10 == 0) (at, size) []
    → Told begin mid (λ m n. SoFar t count seed i x old n) → Told begin end (λ m n. SoFar u count seed (i + 1) (next_number x) new n)
one_more t u count seed i x at size old new row begin mid end less few own is named same takes adds place sized noted was = record {
  told = λ m held.
      let one = was.told m held in
      let two = adds.told one.0 one.1 in
      let took : TakesRow row (Some one.0) (Some two.0) t u = subst (λ (o : Option Holding). TakesRow row (Some one.0) o t u) two.1 (subst (λ (o : Option Holding). TakesRow row o end t u) one.1 takes) in
      (two.0, two.1, so_far_more t u count seed i x at size old new row one.0 two.0 less few own is named same took two.2 place sized noted one.2);
  untold = λ none. adds.untold (was.untold none);
}

-- in files that tell a row is not refused
pub row_refused : (t : OpenTable) (count seed i x : ℕ) (blocks : List Block) (row : Values) (f : MakeFault) (begin mid : Option Holding) → i < count → count ≤ 100000 → defs_in t ≡ defs → row ≡ row_of (i + 1) (next_number x) → t.rows.rows.file.name ≡ rows_file t.name
    → Told begin mid (λ m n. SoFar t count seed i x blocks n) → CutsOff f ⊎ RefusesRow row mid t → CutsOff f ⊎ (begin ≡ None)
row_refused t count seed i x blocks row f begin mid less few own is named was (inl cut) = inl cut
row_refused t count seed i x blocks row f begin mid less few own is named was (inr refused) = inr (by begin refl)
  where
    by : (o : Option Holding) → begin ≡ o → o ≡ None
    by None e = refl
    by (Some m) e =
        let one = was.told m e in
        let has = one.2.holds in
        let s = has.state in
        let long : length one.2.file ≡ s.space.end = ap (λ (b : List ℕ). length b) (sym has.bytes) ∙ sym (length_is t s one.0 has.holds named) ∙ end_is t s one.0 has.holds in
        let none = accepts s i (next_number x) has.none has.rows (omega (arith, long, one.2.short)) (omega (arith, less, few)) in
        let r = refused one.0 one.1 s has.holds in
        let reply = ap (λ d. (keyed_step d s (insert row)).reply) (sym own) ∙ r.1 in
        absurd (never_refused s (insert (row_of (i + 1) (next_number x))) r.0 none (ap (λ v. (keyed_step defs s (insert v)).reply) (sym is) ∙ reply))

-- ---- all of them

all_so_far : (t : OpenTable) (count seed i x : ℕ) (blocks : List Block) (n : Holding) → i ≡ count → SoFar t count seed i x blocks n → HasPut count seed blocks t n
all_so_far t count seed i x blocks n last so =
    let none : count - i ≡ 0 = omega (arith, last) in
    let whole : so.file ≡ rows_behind count 0 seed = sym (append-nil so.file) ∙ ap (λ k. so.file ++ rows_behind k i x) (sym none) ∙ so.rows in
    record {
      rows = subst (λ k. HoldsRows t k (rows_behind count 0 seed) n) last (subst (λ (b : List ℕ). HoldsRows t i b n) whole so.holds);
      tenths = sym (append-nil blocks) ∙ ap (λ k. blocks ++ tenths k i x (length so.file)) (sym none) ∙ so.noted;
    }

pub all_put : (t : OpenTable) (count seed i x : ℕ) (blocks : List Block) (old new : Option Holding) → i ≡ count → Told old new (λ m n. SoFar t count seed i x blocks n) → Told old new (λ m n. HasPut count seed blocks t n)
all_put t count seed i x blocks old new last told = told_more old new _ (λ m n. HasPut count seed blocks t n) told (λ m n held so. all_so_far t count seed i x blocks n last so)

-- ---- what stays

pub kept_first : (t : OpenTable) (told : Option Holding) → IfTold told (IsEmpty t) → IsKept told t
kept_first t told empty = λ whole m held. (empty_table, (empty m held).holds)

pub same_first : (t : OpenTable) → IsSame t t
same_first t = record { name = refl; setup = refl; header = refl; lost = refl; defs = refl; added = refl }

pub same_then : (t u v : OpenTable) → IsSame t u → IsSame u v → IsSame t v
same_then t u v one two = record {
  name = two.name ∙ one.name;
  setup = two.setup ∙ one.setup;
  header = two.header ∙ one.header;
  lost = two.lost ∙ one.lost;
  defs = two.defs ∙ one.defs;
  added = two.added ∙ one.added;
}

pub others_first : (t : OpenTable) (told : Option Holding) → ChangesItsOwn told told t
others_first t told = told_same told told (KeepsOthers t.name) refl (λ m held q rows index. refl)

pub others_then : (t u : OpenTable) (old mid new : Option Holding) → u.name ≡ t.name → ChangesItsOwn old mid t → ChangesItsOwn mid new u → ChangesItsOwn old new t
others_then t u old mid new named one two = told_then old mid new _ _ (KeepsOthers t.name) one two (λ m n k first second q rows index. second q (λ e. rows (e ∙ ap rows_file named)) (λ e. index (e ∙ ap index_file named)) ∙ first q rows index)
