use Rattle.std.proofs.Common.{◌∙◌, ◌++◌, ◌∷◌, [], refl, sym, subst, arith, true, false}
use Rattle.myi_base.specs.Holding.{IfTold}
use Rattle.myi_data.specs.Scanning.{IsAsKnown}
use Rattle.myi_order.specs.Counting.{ReadsIf}
use Rattle.myi_order.proofs.ReadLaws.{reads_more, read_all, same_then_scan}
use Rattle.myi_order.proofs.rows_read.read_all.Goals as goal

pub loop-read-init : goal.loop-read-init
loop-read-init g c = record {
  same = record { name = refl; test = refl; extend = refl; end = omega arith };
  holds = refl;
  current = c.requires.current;
  later = omega arith;
  came = [];
  so_far = (c.in_ok-read.ensures, λ m told. refl);
}

pub read-requires-clause-test : goal.read-requires-clause-test
read-requires-clause-test g c κs lives = c.loop-read.invariant.same.test ∙ c.requires.test

pub read-requires-clause-read : goal.read-requires-clause-read
read-requires-clause-read g c κs lives = (c.loop-read.invariant.came, c.loop-read.invariant.so_far.0)

pub loop-read-preserved : goal.loop-read-preserved
loop-read-preserved g c =
    let d = c.args.defs.now in
    let was = c.loop-read.invariant in
    let start = g.F.Files.holds c.args.files.now in
    let read = subst (λ h. ReadsIf true d h c.loop-read.scan c.read.new.scan c.loop-read.read c.read.new.self) was.holds (subst (λ more. ReadsIf more d (g.F.Files.holds c.loop-read.files) c.loop-read.scan c.read.new.scan c.loop-read.read c.read.new.self) c.if-branch.true c.in_ok-read-2.ensures.read) in
    record {
      same = same_then_scan c.args.scan.now c.loop-read.scan c.read.new.scan was.same c.in_ok-read-2.ensures.same;
      holds = c.read.ensures.holds ∙ was.holds;
      current = subst (λ h. IfTold h (IsAsKnown c.read.new.scan)) (sym c.read.ensures.holds) c.in_ok-read-2.ensures.current;
      later = omega (arith, was.later, c.read.ensures.cause.later);
      came = was.came ++ read.row ∷ [];
      so_far = reads_more d start c.args.scan.now c.loop-read.scan c.read.new.scan was.came c.loop-read.read c.read.new.self was.so_far read;
    }

pub loop-read-smaller : goal.loop-read-smaller
loop-read-smaller g c =
    let read = subst (λ more. ReadsIf more c.args.defs.now (g.F.Files.holds c.loop-read.files) c.loop-read.scan c.read.new.scan c.loop-read.read c.read.new.self) c.if-branch.true c.in_ok-read-2.ensures.read in
    omega (arith, read.rises, read.within, c.in_ok-read-2.ensures.same.end)

pub returns-clause-read : goal.returns-clause-read
returns-clause-read g c =
    let d = c.args.defs.now in
    let was = c.loop-read.invariant in
    let start = g.F.Files.holds c.args.files.now in
    let none = subst (λ h. ReadsIf false d h c.loop-read.scan c.read.new.scan c.loop-read.read c.read.new.self) was.holds (subst (λ more. ReadsIf more d (g.F.Files.holds c.loop-read.files) c.loop-read.scan c.read.new.scan c.loop-read.read c.read.new.self) c.if-branch.false c.in_ok-read-2.ensures.read) in
    read_all d start c.args.scan.now c.loop-read.scan was.came c.loop-read.read c.read.new.self was.so_far none.0 none.1
