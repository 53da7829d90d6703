use Rattle.std.proofs.Common.{◌∙◌, ◌++◌, ◌∷◌, length, [], refl, sym, ap, subst, arith}
use Rattle.myi_base.proofs.CallerLemmas.{told_more, told_then}
use Rattle.myi_repair.specs.Keeping.{is_chosen}
use Rattle.myi_repair.specs.Gathering.{ReadsIf, TakesChosen}
use Rattle.myi_repair.proofs.GatherLaws.{taking_none, taking_more, taken_all, written_long, same_then, stays_known}
use Rattle.myi_repair.proofs.FilesLaws.{told_from}
use Rattle.myi_repair.proofs.gathering.keep_rows.Goals as goal

pub loop-rows-init : goal.loop-rows-init
loop-rows-init g c =
    let h = g.F.Files.holds c.args.files.now in
    let scan = c.args.scan.now in
    let file = c.args.file.now in
    let d = c.args.defs.now in
    let others = told_more _ _ _ _ c.in_ok-cut.ensures.ok (λ m n held cut. cut.others) in
    record {
      same = record { name = refl; test = refl; extend = refl; end = omega arith };
      current = stays_known file h h (g.F.Files.holds c.cut.new.self) scan scan refl c.requires.apart (record { name = refl; test = refl; extend = refl; end = omega arith }) c.requires.current others;
      later = c.cut.ensures.cause.later;
      others = others;
      came = [];
      so_far = taking_none d scan file (is_chosen c.args.flags.now) c.new-rows.result h (g.F.Files.holds c.cut.new.self) c.requires.apart (c.new-rows.ensures d (is_chosen c.args.flags.now)) c.in_ok-cut.ensures.ok;
    }

pub read-requires-clause-test : goal.read-requires-clause-test
read-requires-clause-test g c κs lives = c.loop-rows.invariant.same.test ∙ c.requires.test

pub put_chosen-requires-clause-row : goal.put_chosen-requires-clause-row
put_chosen-requires-clause-row g c κs lives =
    let read = subst (λ more. ReadsIf more c.args.defs.now (g.F.Files.holds c.loop-rows.files) c.loop-rows.scan c.read.new.scan c.read.new.self) c.if-branch.true c.in_ok-read.ensures.read in
    (read.row, read.prepared)

pub put_chosen-requires-clause-written : goal.put_chosen-requires-clause-written
put_chosen-requires-clause-written g c κs lives = (is_chosen c.args.flags.now, c.loop-rows.invariant.came, c.loop-rows.invariant.so_far.written)

pub loop-rows-preserved : goal.loop-rows-preserved
loop-rows-preserved g c =
    let d = c.args.defs.now in
    let file = c.args.file.now in
    let start = c.args.scan.now in
    let was = c.loop-rows.invariant in
    let mid = g.F.Files.holds c.loop-rows.files in
    let after = g.F.Files.holds c.put_chosen.new.files in
    let next = c.read.new.scan in
    let read = subst (λ more. ReadsIf more d mid c.loop-rows.scan next c.read.new.self) c.if-branch.true c.in_ok-read.ensures.read in
    let took = c.in_ok-put_chosen.ensures in
    let others = told_from mid _ after _ c.read.ensures.ends.others took.ends.others in
    let writes = told_from mid _ after _ c.read.ensures.ends.others took.written in
    let same = same_then start c.loop-rows.scan next was.same c.in_ok-read.ensures.same in
    let number = written_long d (is_chosen c.args.flags.now) was.came c.loop-rows.rows was.so_far.written in
    record {
      same = same;
      current = stays_known file mid mid after next next refl (λ e. c.requires.apart (sym same.name ∙ e)) (record { name = refl; test = refl; extend = refl; end = omega arith }) c.in_ok-read.ensures.current others;
      later = omega (arith, was.later, c.read.ensures.ends.cause.later, took.ends.cause.later);
      others = told_then _ _ _ _ _ _ was.others others (λ m k n before kept q differs. kept q differs ∙ before q differs);
      came = was.came ++ read.row ∷ [];
      so_far = taking_more d start c.loop-rows.scan next file (is_chosen c.args.flags.now) (is_chosen c.args.flags.now (length c.loop-rows.rows.pointers)) was.came c.loop-rows.rows c.put_chosen.new.self c.read.new.self _ mid after (λ e. c.requires.apart (sym same.name ∙ e)) same.end was.so_far read (ap (is_chosen c.args.flags.now) (sym number)) took.added writes others;
    }

pub loop-rows-smaller : goal.loop-rows-smaller
loop-rows-smaller g c =
    let read = subst (λ more. ReadsIf more c.args.defs.now (g.F.Files.holds c.loop-rows.files) c.loop-rows.scan c.read.new.scan c.read.new.self) c.if-branch.true c.in_ok-read.ensures.read in
    omega (arith, read.rises, read.within, c.in_ok-read.ensures.same.end)

pub returns-clause-took : goal.returns-clause-took
returns-clause-took g c =
    let d = c.args.defs.now in
    let mid = g.F.Files.holds c.loop-rows.files in
    let was = c.loop-rows.invariant in
    let none = subst (λ more. ReadsIf more d mid c.loop-rows.scan c.read.new.scan c.read.new.self) c.if-branch.false c.in_ok-read.ensures.read in
    subst (λ h. TakesChosen d c.args.scan.now c.args.file.now (is_chosen c.args.flags.now) c.loop-rows.rows (g.F.Files.holds c.args.files.now) h) (sym c.read.ensures.ends.others)
    (was.came, taken_all d c.args.scan.now c.loop-rows.scan c.args.file.now (is_chosen c.args.flags.now) was.came c.loop-rows.rows _ mid was.so_far none)
