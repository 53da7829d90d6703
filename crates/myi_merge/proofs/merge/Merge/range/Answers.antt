use Rattle.std.proofs.Common.{◌≡◌, ℕ, ◌+◌, ◌<◌, ◌≤◌, List, [], ◌∷◌, ◌++◌, Option, Some, None, Err, length, set, slice_get, IfErr, IfSome, refl, sym, ap, subst, ◌∙◌, arith}
use Rattle.std.specs.List.{AllByRecursion}
use Rattle.std.proofs.lemmas.Result.{err_from_is_err_and}
use Rattle.myi_base.specs.Causes.{HasCause}
use Rattle.myi_pack.specs.Packed.{Values}
use Rattle.myi_ranges.specs.declared.ranges.RangeRows.{RangeRows}
use Rattle.myi_ranges.specs.Ranges.{ReadInFew}
use Rattle.myi_table.specs.Table.{OpenTable, defs_in, IfHolds}
use Rattle.myi_table.specs.declared.fault.ReadFault.{ReadFault}
use Rattle.myi_table.specs.Reading.{IfBroken, begun}
use Rattle.myi_table.specs.Faults.{NeverDamaged}
use Rattle.myi_table.specs.declared.ranges.Range.{Range}
use Rattle.myi_table.specs.declared.fault.ReadFault.TheVariants.{File}
use Rattle.myi_merge.specs.declared.ranges.Head.{Head}
use Rattle.myi_merge.specs.declared.ranges.Reading.{Reading}
use Rattle.myi_merge.specs.Merged.{IfHoldEach, IsRefusedFor}
use Rattle.myi_merge.specs.Merging.{answer_of, IsLeast, IsNextOf, SearchesOnce, AtTable}
use Rattle.myi_merge.proofs.CarryLemmas.{carried_none}
use Rattle.myi_merge.proofs.LeastLemmas.{inside_least, least_has, stands_least}
use Rattle.myi_merge.proofs.RefuseLemmas.{refused_first, never_first, cause_first}
use Rattle.myi_merge.proofs.RangeLemmas.{MergesTo, carried_then, as_many_carried, has_then, not_broken, refused_whole, ahead_long, ahead_of, ahead_turn, same_at, same_set, once_at, once_set, merges_on, merges_end, if_broken, if_not_broken}
use Rattle.myi_merge.proofs.merge.Merge.range.Goals as goal

pub returns-in_err-refuse_reading-clause-first : goal.returns-in_err-refuse_reading-clause-first
returns-in_err-refuse_reading-clause-first g c =
    let ts : List OpenTable = c.args.self.now.tables in
    let e = err_from_is_err_and c.from_residual.result c.from_residual.ensures.1 in
    subst (λ r. IfErr r (IsRefusedFor ts)) (sym e.1) (subst (IsRefusedFor ts) (sym e.2) (refused_first ts c.in_err-refuse_reading.field-0.0 c.in_err-refuse_reading.ensures.first))

pub returns-in_err-refuse_reading-clause-never : goal.returns-in_err-refuse_reading-clause-never
returns-in_err-refuse_reading-clause-never g c =
    let told = g.F.Files.holds c.args.files.now in
    let e = err_from_is_err_and c.from_residual.result c.from_residual.ensures.1 in
    subst (λ r. IfErr r (NeverDamaged told)) (sym e.1)
    (subst (NeverDamaged told) (sym e.2) (never_first told c.args.self.now.tables c.in_err-refuse_reading.field-0.0 c.in_err-refuse_reading.ensures.first))

pub returns-in_err-refuse_reading-clause-carried : goal.returns-in_err-refuse_reading-clause-carried
returns-in_err-refuse_reading-clause-carried g c = carried_none (g.F.Files.holds c.args.files.now) (g.F.Files.holds c.args.files.now) c.args.self.now.tables refl c.requires.kept c.refuse_reading.ensures.sound.sound

pub returns-in_err-refuse_reading-clause-cause : goal.returns-in_err-refuse_reading-clause-cause
returns-in_err-refuse_reading-clause-cause g c =
    let e = err_from_is_err_and c.from_residual.result c.from_residual.ensures.1 in
    let count : ℕ = g.F.Files.faults c.args.files.now in
    subst (HasCause File count count) (sym (e.1 ∙ ap Err e.2)) (cause_first c.args.self.now.tables c.in_err-refuse_reading.field-0.0 count c.in_err-refuse_reading.ensures.first)

pub returns-in_err-refuse_reading-clause-unread : goal.returns-in_err-refuse_reading-clause-unread
returns-in_err-refuse_reading-clause-unread g c =
    let told = g.F.Files.holds c.args.files.now in
    let P : Type 0 = (c.args.self.now ≡ c.args.self.now) × (told ≡ told) in
    let e = err_from_is_err_and c.from_residual.result c.from_residual.ensures.1 in
    subst (λ r. IfErr r (λ f. IfBroken f P)) (sym e.1) (subst (λ (f : ReadFault). IfBroken f P) (sym e.2) (if_broken c.in_err-refuse_reading.field-0.0 P (refl, refl)))

pub index_mut-reading-requires : goal.index_mut-reading-requires
index_mut-reading-requires g c =
    let rs : List Reading = c.loop-index.readings.items in
    let lt = inside_least rs c.deref.result.now c.in-Some.index c.deref.ensures.value c.in-Some.ensures.found in
    omega (arith, c.loop-index.readings.ok.0, lt)

pub read_ahead-requires-clause-index : goal.read_ahead-requires-clause-index
read_ahead-requires-clause-index g c κs within =
    let rs : List Reading = c.loop-index.readings.items in
    let i : ℕ = c.in-Some.index in
    let lt : i < length rs = inside_least rs c.deref.result.now i c.deref.ensures.value c.in-Some.ensures.found in
    let long = ahead_long (g.F.Files.holds c.loop-index.files) c.loop-index.self.tables rs c.loop-index.invariant.ahead in
    omega (arith, lt, long)

pub read_ahead-requires-clause-has : goal.read_ahead-requires-clause-has
read_ahead-requires-clause-has g c κs within = has_then c.args.self.now.tables c.loop-index.self.tables c.args.range.now.key c.loop-index.invariant.carried.defs c.requires.key

pub read_ahead-requires-clause-key : goal.read_ahead-requires-clause-key
read_ahead-requires-clause-key g c κs within =
    let rs : List Reading = c.loop-index.readings.items in
    let i : ℕ = c.in-Some.index in
    let r : Reading = c.index_mut-reading.result.now in
    let at : slice_get rs i ≡ Some r = stands_least rs c.deref.result.now i r c.deref.ensures.value c.in-Some.ensures.found c.index_mut-reading.ensures.value in
    ap (λ (q : RangeRows). q.key) (same_at (begun c.args.range.now) rs i r c.loop-index.invariant.same at)

pub read_ahead-requires-clause-ahead : goal.read_ahead-requires-clause-ahead
read_ahead-requires-clause-ahead g c κs within =
    let rs : List Reading = c.loop-index.readings.items in
    let i : ℕ = c.in-Some.index in
    let r : Reading = c.index_mut-reading.result.now in
    let at : slice_get rs i ≡ Some r = stands_least rs c.deref.result.now i r c.deref.ensures.value c.in-Some.ensures.found c.index_mut-reading.ensures.value in
    ahead_of (g.F.Files.holds c.loop-index.files) c.loop-index.self.tables rs i r c.loop-index.invariant.ahead at

pub returns-in_err-next-clause-first : goal.returns-in_err-next-clause-first
returns-in_err-next-clause-first g c =
    let told = g.F.Files.holds c.args.files.now in
    let mid = g.F.Files.holds c.loop-index.files in
    let old : List OpenTable = c.args.self.now.tables in
    let half : List OpenTable = c.loop-index.self.tables in
    let rs : List Reading = c.loop-index.readings.items in
    let i : ℕ = c.in-Some.index in
    let lt : i < length rs = inside_least rs c.deref.result.now i c.deref.ensures.value c.in-Some.ensures.found in
    let long = ahead_long mid half rs c.loop-index.invariant.ahead in
    let many = as_many_carried told mid old half c.loop-index.invariant.carried in
    let whole = c.in_ok-refuse_reading.ensures.whole in
    let e = err_from_is_err_and c.from_residual-in_err-next.result c.from_residual-in_err-next.ensures.1 in
    subst (λ r. IfErr r (IsRefusedFor old)) (sym e.1)
    (subst (IsRefusedFor old) (sym e.2)
    (refused_whole old c.in_err-next.field-0.0 whole (not_broken told mid old half i c.in_err-next.field-0.0 (omega (arith, lt, long, many)) whole c.loop-index.invariant.carried c.in_err-next.ensures.first)))

pub returns-in_err-next-clause-unread : goal.returns-in_err-next-clause-unread
returns-in_err-next-clause-unread g c =
    let told = g.F.Files.holds c.args.files.now in
    let mid = g.F.Files.holds c.loop-index.files in
    let old : List OpenTable = c.args.self.now.tables in
    let half : List OpenTable = c.loop-index.self.tables in
    let rs : List Reading = c.loop-index.readings.items in
    let i : ℕ = c.in-Some.index in
    let lt : i < length rs = inside_least rs c.deref.result.now i c.deref.ensures.value c.in-Some.ensures.found in
    let long = ahead_long mid half rs c.loop-index.invariant.ahead in
    let many = as_many_carried told mid old half c.loop-index.invariant.carried in
    let whole = c.in_ok-refuse_reading.ensures.whole in
    let P : Type 0 = (c.read_ahead.new.self ≡ c.args.self.now) × (g.F.Files.holds c.read_ahead.new.files ≡ told) in
    let e = err_from_is_err_and c.from_residual-in_err-next.result c.from_residual-in_err-next.ensures.1 in
    subst (λ r. IfErr r (λ f. IfBroken f P)) (sym e.1)
    (subst (λ (f : ReadFault). IfBroken f P) (sym e.2)
    (if_not_broken c.in_err-next.field-0.0 P (not_broken told mid old half i c.in_err-next.field-0.0 (omega (arith, lt, long, many)) whole c.loop-index.invariant.carried c.in_err-next.ensures.first)))

pub overflow_cast-index : goal.overflow_cast-index
overflow_cast-index g c =
    let rs : List Reading = c.loop-index.readings.items in
    let i : ℕ = c.in-Some.index in
    let lt : i < length rs = inside_least rs c.deref.result.now i c.deref.ensures.value c.in-Some.ensures.found in
    let long = ahead_long (g.F.Files.holds c.loop-index.files) c.loop-index.self.tables rs c.loop-index.invariant.ahead in
    let many = as_many_carried (g.F.Files.holds c.args.files.now) (g.F.Files.holds c.loop-index.files) c.args.self.now.tables c.loop-index.self.tables c.loop-index.invariant.carried in
    let few : length c.args.self.now.tables ≤ 65535 = c.refuse_reading.ensures.sound.few in
    omega (arith, lt, long, many, few)

pub overflow_add-index : goal.overflow_add-index
overflow_add-index g c =
    let rs : List Reading = c.loop-index.readings.items in
    let i : ℕ = c.in-Some.index in
    let lt : i < length rs = inside_least rs c.deref.result.now i c.deref.ensures.value c.in-Some.ensures.found in
    let long = ahead_long (g.F.Files.holds c.loop-index.files) c.loop-index.self.tables rs c.loop-index.invariant.ahead in
    let many = as_many_carried (g.F.Files.holds c.args.files.now) (g.F.Files.holds c.loop-index.files) c.args.self.now.tables c.loop-index.self.tables c.loop-index.invariant.carried in
    let few : length c.args.self.now.tables ≤ 65535 = c.refuse_reading.ensures.sound.few in
    omega (arith, lt, long, many, few)

-- the turn that answered a row
pub loop-index-preserved-in-Continue-branch-4 : goal.loop-index-preserved-in-Continue-branch-4
loop-index-preserved-in-Continue-branch-4 g c =
    let told = g.F.Files.holds c.args.files.now in
    let mid = g.F.Files.holds c.loop-index.files in
    let next = g.F.Files.holds c.read_ahead.new.files in
    let old : List OpenTable = c.args.self.now.tables in
    let half : List OpenTable = c.loop-index.self.tables in
    let new : List OpenTable = c.read_ahead.new.self.tables in
    let range : Range = c.args.range.now in
    let rs : List Reading = c.loop-index.readings.items in
    let found : List (ℕ × ℕ × Values) = c.loop-index.found.items in
    let i : ℕ = c.in-Some.index in
    let r : Reading = c.index_mut-reading.result.now in
    let h : Head = c.in-Some-replace.head in
    let rows : RangeRows = c.read_ahead.new.rows in
    let head : Option Head = c.replace.new.dest in
    let then : Reading = record { rows = rows; head = head } in
    let was = c.loop-index.invariant in
    let one = c.in_ok-next.ensures in
    let least : IsLeast rs i = subst (λ (l : List Reading). IsLeast l i) c.deref.ensures.value c.in-Some.ensures.found in
    let lt : i < length rs = inside_least rs c.deref.result.now i c.deref.ensures.value c.in-Some.ensures.found in
    let at : slice_get rs i ≡ Some r = stands_least rs c.deref.result.now i r c.deref.ensures.value c.in-Some.ensures.found c.index_mut-reading.ensures.value in
    let long = ahead_long mid half rs was.ahead in
    let is : r.head ≡ Some h = sym c.replace.ensures.value ∙ c.in-Some-replace.is in
    let is_next = subst (λ (o : Option Head). AtTable half i (λ t. IfHolds mid t (λ m s. IsNextOf (defs_in t) s r.rows rows o))) (sym c.replace.ensures.after) one.head in
    let is_few = subst (λ (o : Option Head). AtTable half i (λ t. IfHolds mid t (λ m s. ReadInFew (defs_in t) s r.rows (answer_of o) (g.F.Files.reads c.loop-index.files) (g.F.Files.reads c.read_ahead.new.files)))) (sym c.replace.ensures.after) one.few in
    let key : r.rows.key ≡ range.key = ap (λ (q : RangeRows). q.key) (same_at (begun range) rs i r was.same at) in
    let pushed : c.push.new.self.items ≡ found ++ (i + 1, h.at, h.row) ∷ [] = c.in_ok-push.ensures.items ∙ ap (λ (x : ℕ × ℕ × Values). found ++ x ∷ []) c.numbered.ensures in
    record {
      merges = subst (λ (l : List (ℕ × ℕ × Values)). IfHoldEach told old (λ m ss. IfSome (slice_get old 0) (λ (f : OpenTable). MergesTo (defs_in f) range old ss (set rs i then) (g.F.Files.reads c.args.files.now) (g.F.Files.reads c.read_ahead.new.files) l))) (sym pushed)
          (merges_on told mid range i old half rs r h rows head found (g.F.Files.reads c.args.files.now) (g.F.Files.reads c.loop-index.files) (g.F.Files.reads c.read_ahead.new.files) c.refuse_reading.ensures.sound.alike was.carried at is least one.reading is_next key (once_at rs i r h was.once at is) is_few was.merges);
      once = once_set rs i then was.once (subst (SearchesOnce rows) (sym c.replace.ensures.after) one.once);
      same = same_set (begun range) rs i r then was.same at one.reading;
      ahead = ahead_turn c.tables_rest_on_their_files.ensures mid next i half new rs then (omega (arith, lt, long)) was.carried.sound one.one one.ahead was.ahead;
      carried = carried_then told mid next old half new was.carried one.carried;
      method = one.method ∙ was.method;
      later = let before = was.later in let more = one.cause.later in omega (arith, before, more);
    }

-- the least reading has a next row
pub loop-index-smaller : goal.loop-index-smaller
loop-index-smaller g c =
    let rs : List Reading = c.loop-index.readings.items in
    let i : ℕ = c.in-Some.index in
    let r : Reading = c.index_mut-reading.result.now in
    let least : IsLeast rs i = subst (λ (l : List Reading). IsLeast l i) c.deref.ensures.value c.in-Some.ensures.found in
    let at : slice_get rs i ≡ Some r = stands_least rs c.deref.result.now i r c.deref.ensures.value c.in-Some.ensures.found c.index_mut-reading.ensures.value in
    absurd (least_has rs i r least at (sym c.replace.ensures.value ∙ c.in_default-replace.is))

pub loop-index-preserved : goal.loop-index-preserved
loop-index-preserved g c =
    let rs : List Reading = c.loop-index.readings.items in
    let i : ℕ = c.in-Some.index in
    let r : Reading = c.index_mut-reading.result.now in
    let least : IsLeast rs i = subst (λ (l : List Reading). IsLeast l i) c.deref.ensures.value c.in-Some.ensures.found in
    let at : slice_get rs i ≡ Some r = stands_least rs c.deref.result.now i r c.deref.ensures.value c.in-Some.ensures.found c.index_mut-reading.ensures.value in
    absurd (least_has rs i r least at (sym c.replace.ensures.value ∙ c.in_default-replace.is))

pub returns-clause-rows : goal.returns-clause-rows
returns-clause-rows g c =
    let rs : List Reading = c.loop-index.readings.items in
    let none : AllByRecursion (λ (r : Reading). r.head ≡ None) rs = subst (AllByRecursion (λ (r : Reading). r.head ≡ None)) c.deref.ensures.value c.in_default.ensures.none in
    let list = c.refuse_reading.ensures.sound in
    merges_end c.rows_that_come_match.ensures (g.F.Files.holds c.args.files.now) c.args.range.now c.args.self.now.tables rs (g.F.Files.reads c.args.files.now) (g.F.Files.reads c.loop-index.files) c.loop-index.found.items list.alike list.sound none c.loop-index.invariant.merges

pub returns-in_err-next-clause-carried : goal.returns-in_err-next-clause-carried
returns-in_err-next-clause-carried g c = carried_then (g.F.Files.holds c.args.files.now) (g.F.Files.holds c.loop-index.files) (g.F.Files.holds c.read_ahead.new.files) c.args.self.now.tables c.loop-index.self.tables c.read_ahead.new.self.tables c.loop-index.invariant.carried c.read_ahead.ensures.carried

pub returns-in_err-push-clause-carried : goal.returns-in_err-push-clause-carried
returns-in_err-push-clause-carried g c = carried_then (g.F.Files.holds c.args.files.now) (g.F.Files.holds c.loop-index.files) (g.F.Files.holds c.read_ahead.new.files) c.args.self.now.tables c.loop-index.self.tables c.read_ahead.new.self.tables c.loop-index.invariant.carried c.read_ahead.ensures.carried
