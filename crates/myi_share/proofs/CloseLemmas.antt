-- A table that is taken back: the rows that are put into it, and what it stands for.
use Rattle.std.proofs.Common.{◌≡◌, ℕ, ◌+◌, ◌-◌, ◌^◌, ◌≤◌, true, List, [], ◌∷◌, length, map, min, All, Any, Option, Result, Err, IfErr, refl, sym, ap, subst, ◌∙◌, arith}
use Rattle.std.proofs.lemmas.List.Elements.{All-from_recursion}
use Rattle.myi_base.specs.Holding.{Holding}
use Rattle.myi_base.specs.Causes.{HasCause}
use Rattle.myi_defs.specs.declared.types.Defs.{Defs}
use Rattle.myi_pack.specs.Packed.{Values}
use Rattle.myi_pack.specs.Spelling.{fits}
use Rattle.myi_keycache.specs.declared.setup.Counters.{Counters}
use Rattle.myi_slots.specs.SlotFile.{Never}
use Rattle.myi_state.specs.State.{TableState}
use Rattle.myi_tablestate.specs.Keyed.{after_keyed}
use Rattle.myi_rowtrees.specs.Duplicates.{MayRepeat}
use Rattle.myi_table.specs.declared.fault.ChangeFault.{ChangeFault}
use Rattle.myi_table.specs.declared.fault.ChangeFault.TheVariants.{File, Memory}
use Rattle.myi_search.specs.Counting.{CountsOn}
use Rattle.myi_table.specs.Table.{OpenTable, defs_in, HoldState, HoldsThen, IsKept, IsSame, IfHolds}
use Rattle.myi_table.specs.Counting.{sum_of}
use Rattle.myi_table.specs.Faults.{CutsOff}
use Rattle.myi_table.specs.Folding.{appended, CanFold}
use Rattle.myi_table.specs.Refusals.{ByCause}
use Rattle.myi_snapshots.specs.Appended.{with_rows, AllFit}
use Rattle.myi_snapshots.specs.Known.{known_rows, values_of}
use Rattle.myi_readers.specs.declared.file_reader.Reader.{Reader}
use Rattle.myi_inserter.specs.declared.inserter.TableInserter.{TableInserter}
use Rattle.myi_inserter.specs.Inserter.{IsInserter}
use Rattle.myi_share.specs.Taking.{sum_with, counted, counting, with_counts, all_counted, AreNotBelow}

-- ---- a table with other counters beside its own

holds_on : (t : OpenTable) (a : Counters) (s : TableState) (m : Holding) → HoldState t s m → HoldState (counting t a) s m
holds_on t a s m h = record { whole = h.whole; own = h.own; files = h.files }

holds_before : (t : OpenTable) (a : Counters) (s : TableState) (m : Holding) → HoldState (counting t a) s m → HoldState t s m
holds_before t a s m h = record { whole = h.whole; own = h.own; files = h.files }

pub counted_all : {R : Type 0} (rest half new : OpenTable) (more : Counters) (i : TableInserter) (readers : List (Reader R)) → half ≡ counting rest (sum_of rest.added more) → more ≡ i.rows.trees.cache.counters → new ≡ counting half (sum_with half.added (map counted readers)) → new ≡ with_counts rest i readers
counted_all rest half new more i readers is same last =
    last ∙ ap (λ (h : OpenTable). record h { added = sum_with h.added (map counted readers) }) (is ∙ ap (λ (c : Counters). record rest { added = sum_of rest.added c }) same)

-- counters are added to a table, and then others
pub half_then : (old half new : OpenTable) (a : Counters) → half ≡ counting old a → new ≡ counting half new.added → new ≡ counting old new.added
half_then old half new a is last = last ∙ ap (λ (h : OpenTable). record h { added = new.added }) is

-- What puts rows after counters were added keeps what holds beside them.
pub same_after : (old half new : OpenTable) → half ≡ counting old half.added → IsSame half new → IsSame (counting old new.added) new
same_after old half new is same =
    let there : IsSame (counting old half.added) new = subst (λ (h : OpenTable). IsSame h new) is same in
    record { name = there.name; setup = there.setup; header = there.header; lost = there.lost; defs = there.defs; added = refl }

pub counting_same : (old new : OpenTable) → new ≡ counting old new.added → IsSame (counting old new.added) new
counting_same old new is = subst (λ (t : OpenTable). IsSame (counting old new.added) t) (sym is) (record { name = refl; setup = refl; header = refl; lost = refl; defs = refl; added = refl })

pub counting_on : (old new : OpenTable) (a : Counters) → new ≡ counting old a → CountsOn old.rows.trees.cache new.rows.trees.cache
counting_on old new a is = subst (λ (t : OpenTable). CountsOn old.rows.trees.cache t.rows.trees.cache) (sym is) (record { setup = refl; read_requests = omega arith; reads = omega arith; write_requests = omega arith; writes = omega arith; fewer = λ h. h })

goes_up : (a b c m : ℕ) → min a m ≤ b → min (a + c) m ≤ min (b + c) m
goes_up a b c m h = omega arith

-- a key cache counts on, and what was added stays
pub counts_up : (t u : OpenTable) → CountsOn t.rows.trees.cache u.rows.trees.cache → u.added ≡ t.added → AreNotBelow (all_counted t) (all_counted u)
counts_up t u on same =
    let a : Counters = t.rows.trees.cache.counters in
    let b : Counters = u.rows.trees.cache.counters in
    let c : Counters = t.added in
    let up : AreNotBelow (sum_of a c) (sum_of b c) = record {
      read_requests = goes_up a.read_requests b.read_requests c.read_requests (2 ^ 64 - 1) on.read_requests;
      reads = goes_up a.reads b.reads c.reads (2 ^ 64 - 1) on.reads;
      write_requests = goes_up a.write_requests b.write_requests c.write_requests (2 ^ 64 - 1) on.write_requests;
      writes = goes_up a.writes b.writes c.writes (2 ^ 64 - 1) on.writes;
    } in
    subst (λ (x : Counters). AreNotBelow (sum_of a c) (sum_of b x)) (sym same) up

pub kept_counting : (told : Option Holding) (rest t : OpenTable) (a : Counters) → t ≡ counting rest a → IsKept told rest → IsKept told t
kept_counting told rest t a is kept = subst (IsKept told) (sym is) (λ whole m held. let h = kept whole m held in (h.0, holds_on rest a h.0 m h.1))

-- what holds of each state of the one does of the other
pub of_rest : (told : Option Holding) (rest t : OpenTable) (a : Counters) (P : OpenTable → TableState → Type 0) → t ≡ counting rest a → IfHolds told t (λ m s. P t s) → IfHolds told rest (λ m s. P (counting rest a) s)
of_rest told rest t a P is all =
    let there : IfHolds told (counting rest a) (λ m s. P (counting rest a) s) = subst (λ (x : OpenTable). IfHolds told x (λ m s. P x s)) is all in
    λ m held s hold. there m held s (holds_on rest a s m hold)

-- ---- the rows

abbrev pub SpellsValues : Type 0
SpellsValues = (i : TableInserter) (rows : List Values) → IsInserter i rows → values_of i.defs (known_rows i.defs i.appender.words) ≡ rows

pub got_rows : SpellsValues → (i : TableInserter) (d : Defs) (words : List ℕ) (got rows : List Values) → d ≡ i.defs → words ≡ i.appender.words → got ≡ values_of d (known_rows d words) → IsInserter i rows → got ≡ rows
got_rows law i d words got rows same all is put =
    is ∙ ap (λ (e : Defs). values_of e (known_rows e words)) same ∙ ap (λ (w : List ℕ). values_of i.defs (known_rows i.defs w)) all ∙ law i rows put

pub fits_got : (d e : Defs) (rows got : List Values) → AllFit d rows → e ≡ d → got ≡ rows → All (λ (row : Values). fits e row ≡ true) got
fits_got d e rows got fit same is =
    subst (λ (x : Defs). All (λ (row : Values). fits x row ≡ true) got) (sym same) (subst (λ (l : List Values). All (λ (row : Values). fits d row ≡ true) l) (sym is) (All-from_recursion (λ (row : Values). fits d row ≡ true) rows fit))

pub can_fold : (told : Option Holding) (rest t : OpenTable) (a : Counters) (rows got : List Values) → t ≡ counting rest a → got ≡ rows → IfHolds told rest (λ m s. CanFold (defs_in rest) s rows) → IfHolds told t (λ m s. CanFold (defs_in t) s got)
can_fold told rest t a rows got is same can =
    subst (λ (x : OpenTable). IfHolds told x (λ m s. CanFold (defs_in x) s got)) (sym is) (λ m held s hold. subst (CanFold (defs_in rest) s) (sym same) (can m held s (holds_before rest a s m hold)))

abbrev pub FoldsRows : Type 0
FoldsRows = (d : Defs) (base : TableState) (rows : List Values) → CanFold d base rows → after_keyed d base (appended rows) ≡ with_rows d base rows

pub folds_got : FoldsRows → (told next : Option Holding) (rest t new : OpenTable) (a : Counters) (rows got : List Values) → t ≡ counting rest a → got ≡ rows → IfHolds told rest (λ m s. CanFold (defs_in rest) s rows)
    → IfHolds told t (λ m s. HoldsThen next new (after_keyed (defs_in t) s (appended got))) → IfHolds told rest (λ m s. HoldsThen next new (with_rows (defs_in rest) s rows))
folds_got law told next rest t new a rows got is same can folded =
    let there = of_rest told rest t a (λ (x : OpenTable) (s : TableState). HoldsThen next new (after_keyed (defs_in x) s (appended got))) is folded in
    λ m held s hold. subst (HoldsThen next new) (ap (λ (l : List Values). after_keyed (defs_in rest) s (appended l)) same ∙ law (defs_in rest) s rows (can m held s hold)) (there m held s hold)

-- nothing is put where there is no row
pub none_folded : (told : Option Holding) (t : OpenTable) (rows : List Values) → length rows ≡ 0 → IfHolds told t (λ m s. HoldsThen told t (after_keyed (defs_in t) s (appended rows)))
none_folded told t [] none = λ m held s hold. (m, held, hold)
none_folded told t (x ∷ xs) none = absurd (omega (arith, none))

-- ---- why it is refused

pub refused_by : {T : Type 0} (r : Result T ChangeFault) (f g : ChangeFault) (P : ChangeFault → Type 0) → r ≡ Err f → f ≡ g → P g → IfErr r P
refused_by r f g P e same h = rw e (subst P (sym same) h)

pub no_cause : {T : Type 0} (r : Result T ChangeFault) (f : ChangeFault) (before now : ℕ) → r ≡ Err f → f ≡ Memory → before ≤ now → HasCause File before now r
no_cause {T = T} r f before now e same later = record { later = later; cause = λ is. absurd (let bad : ◌≡◌ {A = Result T ChangeFault} (Err Memory) (Err File) = ap Err (sym same) ∙ sym e ∙ is in cc) }

pub same_cause : {T U : Type 0} (r : Result T ChangeFault) (f g : ChangeFault) (before now : ℕ) → r ≡ Err f → f ≡ g → HasCause {T = U} File before now (Err g) → HasCause File before now r
same_cause {T = T} {U = U} r f g before now e same h = record {
  later = h.later;
  cause = λ is. h.cause (let failed : ◌≡◌ {A = Result T ChangeFault} (Err g) (Err File) = ap Err (sym same) ∙ sym e ∙ is in let it : g ≡ File = cc in ap Err it);
}

pub cut_rest : (told : Option Holding) (rest t : OpenTable) (a : Counters) (f : ChangeFault) → t ≡ counting rest a → IfHolds told t (λ m s. CutsOff f) → IfHolds told rest (λ m s. CutsOff f)
cut_rest told rest t a f is all = of_rest told rest t a (λ (x : OpenTable) (s : TableState). CutsOff f) is all

abbrev pub Repeats : Defs → List Values → ChangeFault → Type 0
Repeats d rows f = ByCause Never (λ key. Any (λ (row : Values). MayRepeat d row key) rows) (Unit {0}) f

pub repeats_put : (d e : Defs) (rows got : List Values) (f : ChangeFault) → e ≡ d → got ≡ rows → Repeats e got f → Repeats d rows f
repeats_put d e rows got f same is all = subst (λ (x : Defs). Repeats x rows f) same (subst (λ (l : List Values). Repeats e l f) is all)

-- the rows that one inserter put are the same
pub same_rows : SpellsValues → (i : TableInserter) (rows others : List Values) → IsInserter i rows → IsInserter i others → rows ≡ others
same_rows law i rows others one two = sym (law i rows one) ∙ law i others two
