use Rattle.std.proofs.Common.{◌≡◌, ℕ, ◌+◌, ◌<◌, ◌≤◌, List, [], ◌∷◌, ◌++◌, Option, length, take, IfErr, refl, sym, ap, subst, ◌∙◌, arith}
use Rattle.std.specs.List.{AllByRecursion}
use Rattle.std.proofs.lemmas.List.{take_all}
use Rattle.std.proofs.lemmas.Result.{err_from_is_err_and}
use Rattle.myi_state.specs.State.{TableState}
use Rattle.myi_ranges.specs.declared.ranges.RangeRows.{RangeRows}
use Rattle.myi_ranges.specs.Ranges.{ReadInFew}
use Rattle.myi_table.specs.Table.{OpenTable, defs_in, IfHolds}
use Rattle.myi_table.specs.Reading.{IsSameReading, begun}
use Rattle.myi_table.specs.declared.ranges.Range.{Range}
use Rattle.myi_table.specs.declared.fault.ReadFault.{ReadFault}
use Rattle.myi_merge.specs.declared.ranges.Head.{Head}
use Rattle.myi_merge.specs.declared.ranges.Reading.{Reading}
use Rattle.myi_merge.specs.Merged.{OpenMerge, IsMerge, IfHoldEach}
use Rattle.myi_merge.specs.Merging.{answer_of, AtTable, IsNextOf, ReadEach, ReadInFewEach, SearchesOnce, AheadEach, IsNotBroken}
use Rattle.myi_merge.proofs.FrameLemmas.{as_many}
use Rattle.myi_merge.proofs.CarryLemmas.{carried_none}
use Rattle.myi_merge.proofs.RangeLemmas.{carried_then, as_many_carried, has_then, not_broken, begin_more, few_more, ahead_more, same_push, once_push}
use Rattle.myi_merge.proofs.merge.Merge.begin.Goals as goal

pub read_ahead-requires-clause-has : goal.read_ahead-requires-clause-has
read_ahead-requires-clause-has g c κs within = has_then c.args.self.now.tables c.loop-index.self.tables c.args.range.now.key c.loop-index.invariant.carried.defs c.requires.key

pub returns-in_err-head-clause-carried : goal.returns-in_err-head-clause-carried
returns-in_err-head-clause-carried g c = carried_then (g.F.Files.holds c.args.files.now) (g.F.Files.holds c.loop-index.files) (g.F.Files.holds c.read_ahead.new.files) c.args.self.now.tables c.loop-index.self.tables c.read_ahead.new.self.tables c.loop-index.invariant.carried c.read_ahead.ensures.carried

pub returns-in_err-push-clause-carried : goal.returns-in_err-push-clause-carried
returns-in_err-push-clause-carried g c = carried_then (g.F.Files.holds c.args.files.now) (g.F.Files.holds c.loop-index.files) (g.F.Files.holds c.read_ahead.new.files) c.args.self.now.tables c.loop-index.self.tables c.read_ahead.new.self.tables c.loop-index.invariant.carried c.read_ahead.ensures.carried

pub returns-in_err-head-clause-refused : goal.returns-in_err-head-clause-refused
returns-in_err-head-clause-refused g c =
    let old : List OpenTable = c.args.self.now.tables in
    let same : c.self.inside.tables.items ≡ old = ap (λ (w : OpenMerge). w.tables) c.self.view_is in
    let test = c.loop-index-test.true in
    let end = c.len-index-end.ensures in
    let lt : c.loop-index.index < length old = subst (λ (l : List OpenTable). c.loop-index.index < length l) same (omega (arith, test, end)) in
    let e = err_from_is_err_and c.from_residual-in_err-head.result c.from_residual-in_err-head.ensures.1 in
    subst (λ r. IfErr r (λ f. IsNotBroken f)) (sym e.1)
    (subst (λ (f : ReadFault). IsNotBroken f) (sym e.2)
    (not_broken (g.F.Files.holds c.args.files.now) (g.F.Files.holds c.loop-index.files) old c.loop-index.self.tables c.loop-index.index c.in_err-head.field-0.0 lt c.requires.whole c.loop-index.invariant.carried c.in_err-head.ensures.first))

pub loop-index-preserved : goal.loop-index-preserved
loop-index-preserved g c =
    let told = g.F.Files.holds c.args.files.now in
    let mid = g.F.Files.holds c.loop-index.files in
    let next = g.F.Files.holds c.read_ahead.new.files in
    let old : List OpenTable = c.args.self.now.tables in
    let half : List OpenTable = c.loop-index.self.tables in
    let new : List OpenTable = c.read_ahead.new.self.tables in
    let range : Range = c.args.range.now in
    let i : ℕ = c.loop-index.index in
    let rs : List Reading = c.loop-index.readings.items in
    let rows : RangeRows = c.read_ahead.new.rows in
    let head : Option Head = c.in_ok-head.head in
    let r : Reading = record { rows = rows; head = head } in
    let was = c.loop-index.invariant in
    let one = c.in_ok-head.ensures in
    let same : c.self.inside.tables.items ≡ old = ap (λ (w : OpenMerge). w.tables) c.self.view_is in
    let test = c.loop-index-test.true in
    let end = c.len-index-end.ensures in
    let lt : i < length old = subst (λ (l : List OpenTable). i < length l) same (omega (arith, test, end)) in
    let long = as_many_carried told mid old half was.carried in
    let pushed : c.push.new.self.items ≡ rs ++ r ∷ [] = c.in_ok-push.ensures.items in
    let begins : c.in_ok-rows.rows ≡ begun range = c.in_ok-rows.ensures in
    let goes_on : IsSameReading (begun range) rows = subst (λ (b : RangeRows). IsSameReading b rows) begins one.reading in
    let is_next = subst (λ (b : RangeRows). AtTable half i (λ t. IfHolds mid t (λ m s. IsNextOf (defs_in t) s b rows head))) begins one.head in
    let is_few = subst (λ (b : RangeRows). AtTable half i (λ t. IfHolds mid t (λ m s. ReadInFew (defs_in t) s b (answer_of head) (g.F.Files.reads c.loop-index.files) (g.F.Files.reads c.read_ahead.new.files)))) begins one.few in
    record {
      each = subst (λ (l : List Reading). IfHoldEach told old (λ m ss. ReadEach range 1 (take (i + 1) old) (take (i + 1) ss) l [])) (sym pushed)
          (begin_more told mid range i old half rs rows head lt was.carried goes_on is_next was.each);
      few = subst (λ (l : List Reading). IfHoldEach told old (λ m ss. ReadInFewEach range 1 (take (i + 1) old) (take (i + 1) ss) l [] (g.F.Files.reads c.args.files.now) (g.F.Files.reads c.read_ahead.new.files))) (sym pushed)
          (few_more told mid range i old half rs rows head (g.F.Files.reads c.args.files.now) (g.F.Files.reads c.loop-index.files) (g.F.Files.reads c.read_ahead.new.files) lt was.carried is_few was.few);
      once = subst (AllByRecursion (λ (q : Reading). SearchesOnce q.rows q.head)) (sym pushed) (once_push rs r was.once one.once);
      same = subst (AllByRecursion (λ (q : Reading). IsSameReading (begun range) q.rows)) (sym pushed) (same_push (begun range) rs r was.same goes_on);
      ahead = subst (AheadEach next (take (i + 1) new)) (sym pushed) (ahead_more c.tables_rest_on_their_files.ensures mid next i half new rs r (omega (arith, lt, long)) was.carried.sound one.one one.ahead was.ahead);
      carried = carried_then told mid next old half new was.carried one.carried;
      method = one.method ∙ was.method;
      later = let before = was.later in let more = one.cause.later in omega (arith, before, more);
    }

pub returns-clause-each : goal.returns-clause-each
returns-clause-each g c = λ m held ss h.
    let old : List OpenTable = c.args.self.now.tables in
    let i : ℕ = c.loop-index.index in
    let rs : List Reading = c.loop-index.readings.items in
    let same : c.self.inside.tables.items ≡ old = ap (λ (w : OpenMerge). w.tables) c.self.view_is in
    let test = c.loop-index-test.false in
    let end = c.len-index-end.ensures in
    let past : length old ≤ i = subst (λ (l : List OpenTable). length l ≤ i) same (omega (arith, test, end)) in
    let many = as_many old ss m h in
    subst (λ (ts : List OpenTable). ReadEach c.args.range.now 1 ts ss rs []) (take_all i old past)
    (subst (λ (us : List TableState). ReadEach c.args.range.now 1 (take i old) us rs []) (take_all i ss (omega (arith, past, many))) (c.loop-index.invariant.each m held ss h))

pub returns-clause-few : goal.returns-clause-few
returns-clause-few g c = λ m held ss h.
    let old : List OpenTable = c.args.self.now.tables in
    let i : ℕ = c.loop-index.index in
    let rs : List Reading = c.loop-index.readings.items in
    let before : ℕ = g.F.Files.reads c.args.files.now in
    let now : ℕ = g.F.Files.reads c.loop-index.files in
    let same : c.self.inside.tables.items ≡ old = ap (λ (w : OpenMerge). w.tables) c.self.view_is in
    let test = c.loop-index-test.false in
    let end = c.len-index-end.ensures in
    let past : length old ≤ i = subst (λ (l : List OpenTable). length l ≤ i) same (omega (arith, test, end)) in
    let many = as_many old ss m h in
    subst (λ (ts : List OpenTable). ReadInFewEach c.args.range.now 1 ts ss rs [] before now) (take_all i old past)
    (subst (λ (us : List TableState). ReadInFewEach c.args.range.now 1 (take i old) us rs [] before now) (take_all i ss (omega (arith, past, many))) (c.loop-index.invariant.few m held ss h))

pub returns-in_err-readings-clause-carried : goal.returns-in_err-readings-clause-carried
returns-in_err-readings-clause-carried g c =
    let told = g.F.Files.holds c.args.files.now in
    let list : IsMerge c.args.self.now = subst IsMerge c.self.view_is c.self.invariant in
    carried_none told told c.args.self.now.tables refl c.requires.kept list.sound

pub loop-index-init : goal.loop-index-init
loop-index-init g c =
    let told = g.F.Files.holds c.args.files.now in
    let reads : ℕ = g.F.Files.reads c.args.files.now in
    let range : Range = c.args.range.now in
    let none : [] ≡ c.in_ok-readings.readings.items = sym c.in_ok-readings.ensures.items in
    let list : IsMerge c.args.self.now = subst IsMerge c.self.view_is c.self.invariant in
    record {
      each = λ m held ss h. subst (λ (rs : List Reading). ReadEach range 1 [] [] rs []) none tt;
      few = λ m held ss h. subst (λ (rs : List Reading). ReadInFewEach range 1 [] [] rs [] reads reads) none (omega arith);
      once = subst (AllByRecursion (λ (r : Reading). SearchesOnce r.rows r.head)) none tt;
      same = subst (AllByRecursion (λ (r : Reading). IsSameReading (begun range) r.rows)) none tt;
      ahead = subst (AheadEach told []) none tt;
      carried = carried_none told told c.args.self.now.tables refl c.requires.kept list.sound;
      method = refl;
      later = omega arith;
    }
