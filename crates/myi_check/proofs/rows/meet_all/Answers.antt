use Rattle.std.proofs.Common.{◌∙◌, ◌++◌, ◌∷◌, [], refl, sym, ap, subst, arith, true, false}
use Rattle.myi_base.specs.Holding.{IfTold}
use Rattle.myi_data.specs.Scanning.{IsAsKnown}
use Rattle.myi_check.specs.declared.met.Met.{Met}
use Rattle.myi_check.specs.Met.{HasMet, ReadsIf}
use Rattle.myi_check.proofs.MetLemmas.{meets_more, met_all, same_then_scan}
use Rattle.myi_check.proofs.rows.meet_all.Goals as goal

pub loop-met-init : goal.loop-met-init
loop-met-init g c = record {
  same = record { name = refl; test = refl; extend = refl; end = omega arith };
  holds = refl;
  current = c.requires.current;
  later = omega arith;
  keys = c.in_ok-met.ensures.keys;
  together = c.in_ok-met.ensures.together;
  came = [];
  so_far = (c.in_ok-met.ensures.met, λ m told. refl);
}

pub read-requires-clause-test : goal.read-requires-clause-test
read-requires-clause-test g c κs lives = c.loop-met.invariant.same.test ∙ c.requires.test

pub read-requires-clause-met : goal.read-requires-clause-met
read-requires-clause-met g c κs lives = (c.loop-met.invariant.came, subst (λ t. HasMet c.args.defs.now t c.loop-met.invariant.came c.loop-met.met) (sym c.loop-met.invariant.together) c.loop-met.invariant.so_far.0)

pub loop-met-preserved : goal.loop-met-preserved
loop-met-preserved g c =
    let d = c.args.defs.now in
    let was = c.loop-met.invariant in
    let start = g.F.Files.holds c.args.files.now in
    let read = subst (λ t. ReadsIf true d t start c.loop-met.scan c.read.new.scan c.loop-met.met c.read.new.self) was.together (subst (λ h. ReadsIf true d c.loop-met.met.together h c.loop-met.scan c.read.new.scan c.loop-met.met c.read.new.self) was.holds (subst (λ more. ReadsIf more d c.loop-met.met.together (g.F.Files.holds c.loop-met.files) c.loop-met.scan c.read.new.scan c.loop-met.met c.read.new.self) c.if-branch.true c.in_ok-read.ensures.read)) in
    record {
      same = same_then_scan c.args.scan.now c.loop-met.scan c.read.new.scan was.same c.in_ok-read.ensures.same;
      holds = c.read.ensures.holds ∙ was.holds;
      current = subst (λ h. IfTold h (IsAsKnown c.read.new.scan)) (sym c.read.ensures.holds) c.in_ok-read.ensures.current;
      later = omega (arith, was.later, c.read.ensures.cause.later);
      keys = read.with_keys ∙ was.keys;
      together = read.noting ∙ was.together;
      came = was.came ++ read.item ∷ [];
      so_far = meets_more d c.args.noting.together start c.args.scan.now c.loop-met.scan c.read.new.scan was.came c.loop-met.met c.read.new.self was.so_far read;
    }

pub loop-met-smaller : goal.loop-met-smaller
loop-met-smaller g c =
    let read = subst (λ more. ReadsIf more c.args.defs.now c.loop-met.met.together (g.F.Files.holds c.loop-met.files) c.loop-met.scan c.read.new.scan c.loop-met.met c.read.new.self) c.if-branch.true c.in_ok-read.ensures.read in
    omega (arith, read.rises, read.within, c.in_ok-read.ensures.same.end)

pub returns-clause-met : goal.returns-clause-met
returns-clause-met g c =
    let d = c.args.defs.now in
    let was = c.loop-met.invariant in
    let start = g.F.Files.holds c.args.files.now in
    let none = subst (λ h. ReadsIf false d c.loop-met.met.together h c.loop-met.scan c.read.new.scan c.loop-met.met c.read.new.self) was.holds (subst (λ more. ReadsIf more d c.loop-met.met.together (g.F.Files.holds c.loop-met.files) c.loop-met.scan c.read.new.scan c.loop-met.met c.read.new.self) c.if-branch.false c.in_ok-read.ensures.read) in
    met_all d c.args.noting.together start c.args.scan.now c.loop-met.scan was.came c.loop-met.met c.read.new.self was.so_far none.0 none.1

pub returns-clause-keys : goal.returns-clause-keys
returns-clause-keys g c =
    let none = subst (λ more. ReadsIf more c.args.defs.now c.loop-met.met.together (g.F.Files.holds c.loop-met.files) c.loop-met.scan c.read.new.scan c.loop-met.met c.read.new.self) c.if-branch.false c.in_ok-read.ensures.read in
    ap (λ (m : Met). m.with_keys) none.0 ∙ c.loop-met.invariant.keys
