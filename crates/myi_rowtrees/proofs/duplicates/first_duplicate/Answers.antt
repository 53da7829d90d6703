use Rattle.std.proofs.Common.{◌≡◌, ◌+◌, ◌<◌, true, length, sym, ap, ◌∙◌, arith}
use Rattle.std.specs.Prelude.{option_map}
use Rattle.std.proofs.lemmas.Result.{err_from_is_err_and}
use Rattle.myi_keys.specs.Limits.{is_complete}
use Rattle.myi_rowkeys.specs.TableKeys.{is_unique}
use Rattle.myi_tablestate.specs.Listed.{position}
use Rattle.myi_rowtrees.specs.Duplicates.{others}
use Rattle.myi_search.proofs.CallerLemmas.{counts_on}
use Rattle.myi_rowtrees.proofs.ToldLemmas.{if_err, others_follow}
use Rattle.myi_rowtrees.proofs.HeldLemmas.{number_of, some_one}
use Rattle.myi_rowtrees.proofs.FirstLemmas.{still_follow, first_none, first_some, first_all, list_at, key_at, none_of}
use Rattle.myi_rowtrees.proofs.duplicates.first_duplicate.Goals as goal

pub returns-in_err-row-clause-stand : goal.returns-in_err-row-clause-stand
returns-in_err-row-clause-stand g c = still_follow (g.F.Files.holds c.args.files.now) (g.F.Files.holds c.loop-i.files) (g.F.Files.holds c.other_row.new.files) c.args.trees.now c.loop-i.trees c.other_row.new.trees c.loop-i.invariant.stand c.in_err-row.ensures.stand

pub returns-in_err-row-clause-never : goal.returns-in_err-row-clause-never
returns-in_err-row-clause-never g c =
    let e = err_from_is_err_and c.from_residual.result c.from_residual.ensures.1 in
    if_err c.from_residual.result e.0 _ e.1
    (λ p d. λ m held own lists s.
    let one = c.loop-i.invariant.stand m held own lists s in
    c.in_err-row.ensures.never p (sym e.2 ∙ d) one.now one.held own lists one.stand)

pub returns-in-Some-clause-first : goal.returns-in-Some-clause-first
returns-in-Some-clause-first g c = λ m told own lists st s values pointer t same pairs.
    let d = c.args.defs.now in
    let i = c.loop-i.i in
    let few : i < length d.keys = omega (arith, c.loop-i-test.true, c.requires.each) in
    let one = c.loop-i.invariant.stand m told own lists st in
    let held = c.in_ok-row.ensures.held one.now one.held own lists one.stand s values t (list_at d s.rows lists i same few) (key_at d values pointer c.args.pairs.now i c.index-pairs-i.result pairs few c.index-pairs-i.is) in
    sym (first_some d values (others d c.args.own s.rows) i (position d c.in-Some.row) few (c.loop-i.invariant.none m told own lists st s values pointer t same pairs)
    (sym held ∙ ap (option_map (position d)) c.in-Some.is))

pub returns-in-Some-clause-stand : goal.returns-in-Some-clause-stand
returns-in-Some-clause-stand g c = still_follow (g.F.Files.holds c.args.files.now) (g.F.Files.holds c.loop-i.files) (g.F.Files.holds c.other_row.new.files) c.args.trees.now c.loop-i.trees c.other_row.new.trees c.loop-i.invariant.stand c.in_ok-row.ensures.stand

pub returns-in_err-row-clause-counted : goal.returns-in_err-row-clause-counted
returns-in_err-row-clause-counted g c = counts_on c.args.trees.now.cache c.loop-i.trees.cache c.other_row.new.trees.cache c.loop-i.invariant.counted c.in_err-row.ensures.counted

pub returns-in-Some-clause-counted : goal.returns-in-Some-clause-counted
returns-in-Some-clause-counted g c = counts_on c.args.trees.now.cache c.loop-i.trees.cache c.other_row.new.trees.cache c.loop-i.invariant.counted c.in_ok-row.ensures.counted

pub loop-i-preserved : goal.loop-i-preserved
loop-i-preserved g c =
    let d = c.args.defs.now in
    let i = c.loop-i.i in
    let k = c.loop-i.invariant in
    let n = c.in_ok-row.ensures in
    let few : i < length d.keys = omega (arith, c.loop-i-test.true, c.requires.each) in
    record {
      none = λ m told own lists st s values pointer t same pairs.
          let one = k.stand m told own lists st in
          let held = n.held one.now one.held own lists one.stand s values t (list_at d s.rows lists i same few) (key_at d values pointer c.args.pairs.now i c.index-pairs-i.result pairs few c.index-pairs-i.is) in
          first_none d values (others d c.args.own s.rows) i few (k.none m told own lists st s values pointer t same pairs)
          (none_of (position d) _ _ c.in_default.not-Some held);
      stand = still_follow (g.F.Files.holds c.args.files.now) (g.F.Files.holds c.loop-i.files) (g.F.Files.holds c.other_row.new.files) c.args.trees.now c.loop-i.trees c.other_row.new.trees k.stand n.stand;
      places = n.places ∙ k.places;
      room = n.room ∙ k.room;
      others = others_follow (g.F.Files.holds c.args.files.now) (g.F.Files.holds c.loop-i.files) (g.F.Files.holds c.other_row.new.files) c.args.trees.now.cache.name c.loop-i.trees.cache.name k.name k.others n.others;
      name = n.name ∙ k.name;
      counted = counts_on c.args.trees.now.cache c.loop-i.trees.cache c.other_row.new.trees.cache k.counted n.counted;
      search = n.search c.requires.writable;
      faults = let one = k.faults in let two = n.cause.later in omega (arith, one, two);
      reads = let one = k.reads in let two = n.reads in omega (arith, one, two);
    }

pub returns-clause-first : goal.returns-clause-first
returns-clause-first g c = λ m told own lists st s values pointer t same pairs.
    first_all c.args.defs.now values (others c.args.defs.now c.args.own s.rows) c.loop-i.i (omega (arith, c.loop-i-test.false, c.requires.each)) (c.loop-i.invariant.none m told own lists st s values pointer t same pairs)

pub returns-in-Some-clause-unique : goal.returns-in-Some-clause-unique
returns-in-Some-clause-unique g c =
    let d = c.args.defs.now in
    let i = c.loop-i.i in
    let few : i < length d.keys = omega (arith, c.loop-i-test.true, c.requires.each) in
    (number_of d i few, some_one c.in_ok-row.field-0 c.in-Some.row (is_unique d (i + 1) ≡ true) c.in-Some.is c.in_ok-row.ensures.unique)

pub returns-in-Some-clause-named : goal.returns-in-Some-clause-named
returns-in-Some-clause-named g c = λ values pointer pairs.
    let d = c.args.defs.now in
    let i = c.loop-i.i in
    let p = c.index-pairs-i.result in
    let few : i < length d.keys = omega (arith, c.loop-i-test.true, c.requires.each) in
    let unique = some_one c.in_ok-row.field-0 c.in-Some.row (is_unique d (i + 1) ≡ true) c.in-Some.is c.in_ok-row.ensures.unique in
    let whole = some_one c.in_ok-row.field-0 c.in-Some.row (is_complete p.key ≡ true) c.in-Some.is c.in_ok-row.ensures.whole in
    ((number_of d i few, unique), ap is_complete (sym (key_at d values pointer c.args.pairs.now i p pairs few c.index-pairs-i.is)) ∙ whole)
