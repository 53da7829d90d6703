use Rattle.std.proofs.Common.{◌≡◌, ℕ, ◌<◌, List, length, set, slice_get, sym, ap, subst}
use Rattle.std.specs.Prelude.{IfSome}
use Rattle.std.proofs.lemmas.Result.{IfOk-weaker}
use Rattle.myi_ranges.specs.Ranges.{ReadInFew}
use Rattle.myi_table.specs.Table.{OpenTable, defs_in, IfHolds}
use Rattle.myi_table.specs.Faults.{IsBrokenFor}
use Rattle.myi_table.specs.Reading.{IsAhead}
use Rattle.myi_merge.specs.Merged.{OpenMerge, AreKept}
use Rattle.myi_merge.specs.Reading.{AreCarried}
use Rattle.myi_merge.specs.Merging.{answer_of, AtTable, IsOneRead, IsNextOf}
use Rattle.myi_merge.proofs.TableLemmas.{at_one, at_get, at_set, key_at, merge_set}
use Rattle.myi_merge.proofs.RangeLemmas.{one_read, carried_at, if_err_more}
use Rattle.myi_merge.proofs.merge.Merge.read_ahead.Goals as goal

pub next_head-requires-clause-has : goal.next_head-requires-clause-has
next_head-requires-clause-has g c κs within =
    let ts : List OpenTable = c.self.inside.tables.items in
    let t : OpenTable = c.index_mut-table.result.now in
    let same : ts ≡ c.args.self.now.tables = ap (λ (w : OpenMerge). w.tables) c.self.view_is in
    let lt : c.args.index < length ts = subst (λ (us : List OpenTable). c.args.index < length us) (sym same) c.requires.index in
    subst (λ (k : ℕ). k < length t.rows.trees.places) (sym c.requires.key)
    (key_at ts c.args.index t c.args.key c.self.invariant.alike c.self.invariant.sound lt (sym c.index_mut-table.ensures.value) (subst (λ (us : List OpenTable). IfSome (slice_get us 0) (λ (f : OpenTable). c.args.key < length (defs_in f).keys)) (sym same) c.requires.has))

pub next_head-requires-clause-ahead : goal.next_head-requires-clause-ahead
next_head-requires-clause-ahead g c κs within =
    let ts : List OpenTable = c.self.inside.tables.items in
    let t : OpenTable = c.index_mut-table.result.now in
    let same : ts ≡ c.args.self.now.tables = ap (λ (w : OpenMerge). w.tables) c.self.view_is in
    let lt : c.args.index < length ts = subst (λ (us : List OpenTable). c.args.index < length us) (sym same) c.requires.index in
    let P : OpenTable → Type 0 = λ u. IfHolds (g.F.Files.holds c.args.files.now) u (λ m s. IsAhead u c.args.rows.now s) in
    at_get ts c.args.index t P lt (sym c.index_mut-table.ensures.value) (subst (λ (us : List OpenTable). AtTable us c.args.index P) (sym same) c.requires.ahead)

pub invariant_of-self : goal.invariant_of-self
invariant_of-self g c =
    let ts : List OpenTable = c.self.inside.tables.items in
    let same : ts ≡ c.args.self.now.tables = ap (λ (w : OpenMerge). w.tables) c.self.view_is in
    let lt : c.args.index < length ts = subst (λ (us : List OpenTable). c.args.index < length us) (sym same) c.requires.index in
    merge_set ts c.self.inside.method c.args.index c.index_mut-table.result.now c.next_head.new.table c.self.invariant lt (sym c.index_mut-table.ensures.value) c.next_head.ensures.only.same c.next_head.ensures.sound

pub returns-clause-head : goal.returns-clause-head
returns-clause-head g c =
    let ts : List OpenTable = c.self.inside.tables.items in
    let same : ts ≡ c.args.self.now.tables = ap (λ (w : OpenMerge). w.tables) c.self.view_is in
    IfOk-weaker c.next_head.result _ _ (λ head h.
    let P : OpenTable → Type 0 = λ u. IfHolds (g.F.Files.holds c.args.files.now) u (λ m s. IsNextOf (defs_in u) s c.args.rows.now c.next_head.new.rows head) in
    subst (λ (us : List OpenTable). AtTable us c.args.index P) same (at_one ts c.args.index c.index_mut-table.result.now P (sym c.index_mut-table.ensures.value) h))
    c.next_head.ensures.head

pub returns-clause-few : goal.returns-clause-few
returns-clause-few g c =
    let ts : List OpenTable = c.self.inside.tables.items in
    let same : ts ≡ c.args.self.now.tables = ap (λ (w : OpenMerge). w.tables) c.self.view_is in
    IfOk-weaker c.next_head.result _ _ (λ head h.
    let P : OpenTable → Type 0 = λ u. IfHolds (g.F.Files.holds c.args.files.now) u (λ m s. ReadInFew (defs_in u) s c.args.rows.now (answer_of head) (g.F.Files.reads c.args.files.now) (g.F.Files.reads c.next_head.new.files)) in
    subst (λ (us : List OpenTable). AtTable us c.args.index P) same (at_one ts c.args.index c.index_mut-table.result.now P (sym c.index_mut-table.ensures.value) h))
    c.next_head.ensures.few

pub returns-clause-ahead : goal.returns-clause-ahead
returns-clause-ahead g c = at_set c.self.inside.tables.items c.args.index c.next_head.new.table (λ u. IfHolds (g.F.Files.holds c.next_head.new.files) u (λ m s. IsAhead u c.next_head.new.rows s)) c.next_head.ensures.ahead

pub returns-clause-one : goal.returns-clause-one
returns-clause-one g c =
    let told = g.F.Files.holds c.args.files.now in
    let next = g.F.Files.holds c.next_head.new.files in
    let ts : List OpenTable = c.self.inside.tables.items in
    let same : ts ≡ c.args.self.now.tables = ap (λ (w : OpenMerge). w.tables) c.self.view_is in
    let lt : c.args.index < length ts = subst (λ (us : List OpenTable). c.args.index < length us) (sym same) c.requires.index in
    subst (λ (us : List OpenTable). IsOneRead told next c.args.index us (set ts c.args.index c.next_head.new.table)) same
    (one_read told next ts c.args.index c.index_mut-table.result.now c.next_head.new.table c.self.invariant.named lt (sym c.index_mut-table.ensures.value) c.next_head.ensures.others)

pub returns-clause-carried : goal.returns-clause-carried
returns-clause-carried g c =
    let told = g.F.Files.holds c.args.files.now in
    let next = g.F.Files.holds c.next_head.new.files in
    let ts : List OpenTable = c.self.inside.tables.items in
    let same : ts ≡ c.args.self.now.tables = ap (λ (w : OpenMerge). w.tables) c.self.view_is in
    let lt : c.args.index < length ts = subst (λ (us : List OpenTable). c.args.index < length us) (sym same) c.requires.index in
    let kept : AreKept told ts = subst (λ (us : List OpenTable). AreKept told us) (sym same) c.requires.kept in
    let one = c.next_head.ensures in
    subst (λ (us : List OpenTable). AreCarried told next us (set ts c.args.index c.next_head.new.table)) same
    (carried_at c.tables_rest_on_their_files.ensures told next ts c.args.index c.index_mut-table.result.now c.next_head.new.table c.self.invariant.named c.self.invariant.sound lt (sym c.index_mut-table.ensures.value) kept one.only one.kept one.sound one.others)

pub returns-clause-first : goal.returns-clause-first
returns-clause-first g c =
    let ts : List OpenTable = c.self.inside.tables.items in
    let same : ts ≡ c.args.self.now.tables = ap (λ (w : OpenMerge). w.tables) c.self.view_is in
    if_err_more c.next_head.result _ _ (λ f h.
    let P : OpenTable → Type 0 = λ u. IsBrokenFor u.broken f in
    subst (λ (us : List OpenTable). AtTable us c.args.index P) same (at_one ts c.args.index c.index_mut-table.result.now P (sym c.index_mut-table.ensures.value) h))
    c.next_head.ensures.first
