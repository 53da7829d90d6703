use Rattle.std.proofs.Common.{◌≡◌, ◌∙◌, ◌++◌, ◌∷◌, length, List, [], true, refl, sym, ap, subst, arith}
use Rattle.std.specs.Prelude.{replicate}
use Rattle.myi_base.proofs.CallerLemmas.{told_more, told_then}
use Rattle.myi_defs.specs.declared.types.Key.{Key}
use Rattle.myi_keylist.specs.declared.pair.Pair.{Pair}
use Rattle.myi_rowkeys.proofs.CallerLemmas.{no_numbers, length-number_pairs}
use Rattle.myi_repair.specs.Gathering.{ReadsIf, TakesAll, all_chosen}
use Rattle.myi_repair.proofs.GatherLaws.{taking_none, taking_more, taken_all, keys_more, written_long, same_then, stays_known}
use Rattle.myi_repair.proofs.FilesLaws.{told_from}
use Rattle.myi_repair.proofs.gathering.take_rows.Goals as goal

pub loop-keys-init : goal.loop-keys-init
loop-keys-init g c =
    let h = g.F.Files.holds c.args.files.now in
    let scan = c.args.scan.now in
    let file = c.args.file.now in
    let d = c.args.defs.now in
    let keys : length c.as_slice.result.now ≡ length d.keys = ap (λ (ks : List Key). length ks) c.as_slice.ensures in
    let others = told_more _ _ _ _ c.in_ok-cut.ensures.ok (λ m n held cut. cut.others) in
    record {
      same = record { name = refl; test = refl; extend = refl; end = omega arith };
      current = stays_known file h h (g.F.Files.holds c.cut.new.self) scan scan refl c.requires.apart (record { name = refl; test = refl; extend = refl; end = omega arith }) c.requires.current others;
      later = c.cut.ensures.cause.later;
      others = others;
      came = [];
      so_far = taking_none d scan file all_chosen c.new-rows.result h (g.F.Files.holds c.cut.new.self) c.requires.apart (c.new-rows.ensures d all_chosen) c.in_ok-cut.ensures.ok;
      lists = c.in_ok-keys.ensures ∙ ap (λ n. replicate n []) keys ∙ sym (no_numbers d);
    }

pub read-requires-clause-test : goal.read-requires-clause-test
read-requires-clause-test g c κs lives = c.loop-keys.invariant.same.test ∙ c.requires.test

pub take_row-requires-clause-row : goal.take_row-requires-clause-row
take_row-requires-clause-row g c κs lives =
    let read = subst (λ more. ReadsIf more c.args.defs.now (g.F.Files.holds c.loop-keys.files) c.loop-keys.scan c.read.new.scan c.read.new.self) c.if-branch.true c.in_ok-read.ensures.read in
    (read.row, read.prepared)

pub take_row-requires-clause-written : goal.take_row-requires-clause-written
take_row-requires-clause-written g c κs lives = (all_chosen, c.loop-keys.invariant.came, c.loop-keys.invariant.so_far.written)

pub take_row-requires-clause-all : goal.take_row-requires-clause-all
take_row-requires-clause-all g c κs lives = ap (λ (ls : List (List Pair)). length ls) c.loop-keys.invariant.lists ∙ length-number_pairs c.args.defs.now c.loop-keys.invariant.came

pub loop-keys-preserved : goal.loop-keys-preserved
loop-keys-preserved g c =
    let d = c.args.defs.now in
    let file = c.args.file.now in
    let start = c.args.scan.now in
    let was = c.loop-keys.invariant in
    let mid = g.F.Files.holds c.loop-keys.files in
    let after = g.F.Files.holds c.take_row.new.files in
    let next = c.read.new.scan in
    let read = subst (λ more. ReadsIf more d mid c.loop-keys.scan next c.read.new.self) c.if-branch.true c.in_ok-read.ensures.read in
    let took = c.in_ok-take_row.ensures in
    let others = told_from mid _ after _ c.read.ensures.ends.others took.ends.others in
    let writes = told_from mid _ after _ c.read.ensures.ends.others took.written in
    let same = same_then start c.loop-keys.scan next was.same c.in_ok-read.ensures.same in
    let number = written_long d all_chosen was.came c.loop-keys.rows was.so_far.written in
    record {
      same = same;
      current = stays_known file mid mid after next next refl (λ e. c.requires.apart (sym same.name ∙ e)) (record { name = refl; test = refl; extend = refl; end = omega arith }) c.in_ok-read.ensures.current others;
      later = omega (arith, was.later, c.read.ensures.ends.cause.later, took.ends.cause.later);
      others = told_then _ _ _ _ _ _ was.others others (λ m k n before kept q differs. kept q differs ∙ before q differs);
      came = was.came ++ read.row ∷ [];
      so_far = taking_more d start c.loop-keys.scan next file all_chosen true was.came c.loop-keys.rows c.take_row.new.rows c.read.new.self _ mid after (λ e. c.requires.apart (sym same.name ∙ e)) same.end was.so_far read refl took.added writes others;
      lists = keys_more d was.came read.row (length c.loop-keys.rows.pointers) c.loop-keys.keys c.take_row.new.keys number was.lists (took.keys read.row read.prepared);
    }

pub loop-keys-smaller : goal.loop-keys-smaller
loop-keys-smaller g c =
    let read = subst (λ more. ReadsIf more c.args.defs.now (g.F.Files.holds c.loop-keys.files) c.loop-keys.scan c.read.new.scan c.read.new.self) c.if-branch.true c.in_ok-read.ensures.read in
    omega (arith, read.rises, read.within, c.in_ok-read.ensures.same.end)

pub returns-clause-took : goal.returns-clause-took
returns-clause-took g c =
    let d = c.args.defs.now in
    let mid = g.F.Files.holds c.loop-keys.files in
    let was = c.loop-keys.invariant in
    let none = subst (λ more. ReadsIf more d mid c.loop-keys.scan c.read.new.scan c.read.new.self) c.if-branch.false c.in_ok-read.ensures.read in
    subst (λ h. TakesAll d c.args.scan.now c.args.file.now c.loop-keys.rows c.loop-keys.keys (g.F.Files.holds c.args.files.now) h) (sym c.read.ensures.ends.others)
    (was.came, taken_all d c.args.scan.now c.loop-keys.scan c.args.file.now all_chosen was.came c.loop-keys.rows _ mid was.so_far none, was.lists)
