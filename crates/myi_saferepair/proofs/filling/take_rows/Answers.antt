use Rattle.std.proofs.Common.{◌≡◌, ◌≢◌, ◌∙◌, ◌+◌, ◌≤◌, true, false, refl, sym, subst, arith}
use Rattle.myi_base.specs.Holding.{IfTold, Told}
use Rattle.myi_base.proofs.CallerLemmas.{told_more}
use Rattle.myi_repair.specs.Gathering.{ReadsIf}
use Rattle.myi_saferepair.specs.Filling.{HoldsSome, Takes, WritesBoth}
use Rattle.myi_saferepair.proofs.FillLaws.{filling_none, filling_more, holds_some, known_still, writes_then, writes_file}
use Rattle.myi_saferepair.proofs.filling.take_rows.Goals as goal

pub loop-pairs-init : goal.loop-pairs-init
loop-pairs-init g c =
    let scan = c.args.scan.now in
    let file = c.args.file.now in
    let index = c.args.new.now.trees.cache.name in
    let others = writes_file file index _ _ (told_more _ _ _ _ c.in_ok-cut.ensures.ok (λ m n held cut. cut.others)) in
    record {
      same = record { name = refl; test = refl; extend = refl; end = omega arith };
      current = known_still file index _ _ scan c.requires.apart c.requires.index c.requires.current others;
      later = c.cut.ensures.cause.later;
      others = others;
      name = refl;
      fit = c.requires.fresh.fit;
      each = c.in_ok-pairs.ensures;
      so_far = filling_none c.args.defs.now scan file index c.args.new.now _ _ c.requires.apart c.requires.both c.requires.fresh c.in_ok-cut.ensures.ok;
    }

pub read-requires-clause-test : goal.read-requires-clause-test
read-requires-clause-test g c κs lives = c.loop-pairs.invariant.same.test ∙ c.requires.test

pub take-requires-clause-row : goal.take-requires-clause-row
take-requires-clause-row g c κs lives =
    let read = subst (λ more. ReadsIf more c.args.defs.now (g.F.Files.holds c.loop-pairs.files) c.loop-pairs.scan c.read.new.scan c.read.new.self) c.if-branch.true c.in_ok-read.ensures.read in
    (read.row, read.prepared)

pub take-requires-clause-written : goal.take-requires-clause-written
take-requires-clause-written g c κs lives = (c.loop-pairs.invariant.so_far.rows, c.loop-pairs.invariant.so_far.written)

pub take-requires-clause-apart : goal.take-requires-clause-apart
take-requires-clause-apart g c κs lives = λ e. c.requires.both (sym c.loop-pairs.invariant.name ∙ e)

pub take-requires-clause-kept : goal.take-requires-clause-kept
take-requires-clause-kept g c κs lives =
    subst (λ h. IfTold h (HoldsSome c.args.defs.now c.loop-pairs.new)) (sym c.read.ensures.ends.others)
    (holds_some c.args.defs.now c.args.scan.now c.loop-pairs.scan c.args.file.now c.loop-pairs.repeats c.loop-pairs.new _ _ c.loop-pairs.invariant.so_far)

pub loop-pairs-preserved-then-not-branch : goal.loop-pairs-preserved-then-not-branch
loop-pairs-preserved-then-not-branch g c =
    let d = c.args.defs.now in
    let file = c.args.file.now in
    let index = c.args.new.now.trees.cache.name in
    let was = c.loop-pairs.invariant in
    let start = g.F.Files.holds c.args.files.now in
    let mid = g.F.Files.holds c.loop-pairs.files in
    let after = g.F.Files.holds c.take.new.files in
    let stays = c.read.ensures.ends.others in
    let same = c.in_ok-read.ensures.same in
    let name = same.name ∙ was.same.name in
    let apart : c.read.new.scan.name ≢ file = λ e. c.requires.apart (sym name ∙ e) in
    let other : c.read.new.scan.name ≢ index = λ e. c.requires.index (sym name ∙ e) in
    let end : c.read.new.scan.end ≤ c.args.scan.now.end = omega (arith, same.end, was.same.end) in
    let others : Told mid after (WritesBoth file index) = subst (λ h. Told h after (WritesBoth file index)) stays (subst (λ q. Told (g.F.Files.holds c.read.new.files) after (WritesBoth file q)) was.name c.take.ensures.others) in
    let read = subst (λ more. ReadsIf more d mid c.loop-pairs.scan c.read.new.scan c.read.new.self) c.if-branch.true c.in_ok-read.ensures.read in
    let takes = subst (λ h. Told h after (Takes d file c.read.new.self c.in_ok-take.field-0 c.loop-pairs.new c.take.new.self)) stays c.in_ok-take.ensures.takes in
    record {
      same = record { name = name; test = same.test ∙ was.same.test; extend = same.extend ∙ was.same.extend; end = end };
      current = known_still file index mid after c.read.new.scan apart other c.in_ok-read.ensures.current others;
      later = omega (arith, was.later, c.read.ensures.ends.cause.later, c.take.ensures.cause.later);
      others = writes_then file index start mid after was.others others;
      name = c.take.ensures.name ∙ was.name;
      fit = c.in_ok-take.ensures.fit;
      each = c.in_ok-take.ensures.each;
      so_far = filling_more d c.args.scan.now c.loop-pairs.scan c.read.new.scan file index c.loop-pairs.repeats (c.loop-pairs.repeats + 1) c.in_ok-take.field-0 c.read.new.self c.loop-pairs.new c.take.new.self start mid after c.requires.storable apart other end was.so_far read c.in_ok-take.ensures.written takes others
          (λ e. let bad : true ≡ false = sym e ∙ c.if-not-branch.true in absurd cc) (λ e. refl);
    }

pub loop-pairs-preserved : goal.loop-pairs-preserved
loop-pairs-preserved g c =
    let d = c.args.defs.now in
    let file = c.args.file.now in
    let index = c.args.new.now.trees.cache.name in
    let was = c.loop-pairs.invariant in
    let start = g.F.Files.holds c.args.files.now in
    let mid = g.F.Files.holds c.loop-pairs.files in
    let after = g.F.Files.holds c.take.new.files in
    let stays = c.read.ensures.ends.others in
    let same = c.in_ok-read.ensures.same in
    let name = same.name ∙ was.same.name in
    let apart : c.read.new.scan.name ≢ file = λ e. c.requires.apart (sym name ∙ e) in
    let other : c.read.new.scan.name ≢ index = λ e. c.requires.index (sym name ∙ e) in
    let end : c.read.new.scan.end ≤ c.args.scan.now.end = omega (arith, same.end, was.same.end) in
    let others : Told mid after (WritesBoth file index) = subst (λ h. Told h after (WritesBoth file index)) stays (subst (λ q. Told (g.F.Files.holds c.read.new.files) after (WritesBoth file q)) was.name c.take.ensures.others) in
    let read = subst (λ more. ReadsIf more d mid c.loop-pairs.scan c.read.new.scan c.read.new.self) c.if-branch.true c.in_ok-read.ensures.read in
    let takes = subst (λ h. Told h after (Takes d file c.read.new.self c.in_ok-take.field-0 c.loop-pairs.new c.take.new.self)) stays c.in_ok-take.ensures.takes in
    record {
      same = record { name = name; test = same.test ∙ was.same.test; extend = same.extend ∙ was.same.extend; end = end };
      current = known_still file index mid after c.read.new.scan apart other c.in_ok-read.ensures.current others;
      later = omega (arith, was.later, c.read.ensures.ends.cause.later, c.take.ensures.cause.later);
      others = writes_then file index start mid after was.others others;
      name = c.take.ensures.name ∙ was.name;
      fit = c.in_ok-take.ensures.fit;
      each = c.in_ok-take.ensures.each;
      so_far = filling_more d c.args.scan.now c.loop-pairs.scan c.read.new.scan file index c.loop-pairs.repeats c.loop-pairs.repeats c.in_ok-take.field-0 c.read.new.self c.loop-pairs.new c.take.new.self start mid after c.requires.storable apart other end was.so_far read c.in_ok-take.ensures.written takes others (λ e. refl)
          (λ e. let bad : false ≡ true = sym e ∙ c.if-not-branch.false in absurd cc);
    }
