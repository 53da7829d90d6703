use Rattle.std.proofs.Common.{◌≡◌, ◌∙◌, refl, sym, subst, arith, true, []}
use Rattle.myi_base.specs.Holding.{IfTold}
use Rattle.myi_base.specs.Output.{Appends, AppendsPart}
use Rattle.myi_data.specs.Scanning.{IsAsKnown, rows_ahead}
use Rattle.myi_dump.specs.Dumping.{ReadsIf}
use Rattle.myi_dump.proofs.DumpLemmas.{dumps_none, dumps_read, dumps_moved, dumped, part_so_far, part_written, same_then, on_err}
use Rattle.myi_dump.proofs.row_lines.write_rows.Goals as goal

pub loop-lines-init : goal.loop-lines-init
loop-lines-init g c = record {
  same = record { name = refl; test = refl; extend = refl; end = omega arith };
  holds = refl;
  current = c.requires.current;
  later = omega arith;
  sink_later = omega arith;
  so_far = dumps_none c.args.defs.now (g.F.Files.holds c.args.files.now) c.args.scan.now c.new-lines.result.bytes.items (g.O.Sink.written c.args.out.now) c.new-lines.ensures;
}

pub read-requires-clause-test : goal.read-requires-clause-test
read-requires-clause-test g c κs lives = c.loop-lines.invariant.same.test ∙ c.requires.test

pub loop-lines-preserved : goal.loop-lines-preserved
loop-lines-preserved g c =
    let d = c.args.defs.now in
    let was = c.loop-lines.invariant in
    let h = g.F.Files.holds c.args.files.now in
    let next = c.read.new.scan in
    let read = subst (λ h. ReadsIf true d h c.loop-lines.scan next c.loop-lines.lines.bytes.items c.read.new.self.bytes.items) was.holds (subst (λ more. ReadsIf more d (g.F.Files.holds c.loop-lines.files) c.loop-lines.scan next c.loop-lines.lines.bytes.items c.read.new.self.bytes.items) c.if-branch.true c.in_ok-read.ensures.read) in
    record {
      same = same_then c.args.scan.now c.loop-lines.scan next was.same c.in_ok-read.ensures.same;
      holds = c.read.ensures.holds ∙ was.holds;
      current = subst (λ h. IfTold h (IsAsKnown next)) (sym c.read.ensures.holds) c.in_ok-read.ensures.current;
      later = omega (arith, was.later, c.read.ensures.cause.later);
      sink_later = omega (arith, was.sink_later, c.write_full.ensures.cause.later);
      so_far = dumps_moved d h c.args.scan.now next c.read.new.self.bytes.items c.write_full.new.self.bytes.items _ _ _
          (dumps_read d h c.args.scan.now c.loop-lines.scan next c.loop-lines.lines.bytes.items c.read.new.self.bytes.items _ _ was.so_far read) c.in_ok-write_full.ensures.ok;
    }

pub loop-lines-smaller : goal.loop-lines-smaller
loop-lines-smaller g c =
    let read = subst (λ more. ReadsIf more c.args.defs.now (g.F.Files.holds c.loop-lines.files) c.loop-lines.scan c.read.new.scan c.loop-lines.lines.bytes.items c.read.new.self.bytes.items) c.if-branch.true c.in_ok-read.ensures.read in
    omega (arith, read.rises, read.within, c.in_ok-read.ensures.same.end)

pub returns-in_err-read-clause-part : goal.returns-in_err-read-clause-part
returns-in_err-read-clause-part g c =
    let d = c.args.defs.now in
    let h = g.F.Files.holds c.args.files.now in
    on_err c.from_residual.result _
    (part_so_far d h c.args.scan.now c.loop-lines.scan c.loop-lines.lines.bytes.items _ _ c.loop-lines.invariant.so_far)

pub returns-in_err-write_full-clause-part : goal.returns-in_err-write_full-clause-part
returns-in_err-write_full-clause-part g c =
    let d = c.args.defs.now in
    let was = c.loop-lines.invariant in
    let h = g.F.Files.holds c.args.files.now in
    let next = c.read.new.scan in
    let read = subst (λ h. ReadsIf true d h c.loop-lines.scan next c.loop-lines.lines.bytes.items c.read.new.self.bytes.items) was.holds (subst (λ more. ReadsIf more d (g.F.Files.holds c.loop-lines.files) c.loop-lines.scan next c.loop-lines.lines.bytes.items c.read.new.self.bytes.items) c.if-branch.true c.in_ok-read.ensures.read) in
    on_err c.from_residual-in_err-write_full.result _
    (part_written d h c.args.scan.now next c.read.new.self.bytes.items _ _ _
    (dumps_read d h c.args.scan.now c.loop-lines.scan next c.loop-lines.lines.bytes.items c.read.new.self.bytes.items _ _ was.so_far read) c.in_err-write_full.ensures.err)

pub returns-in_err-write-clause-part : goal.returns-in_err-write-clause-part
returns-in_err-write-clause-part g c =
    let d = c.args.defs.now in
    let was = c.loop-lines.invariant in
    let h = g.F.Files.holds c.args.files.now in
    let w = g.O.Sink.written c.loop-lines.out in
    let new = g.O.Sink.written c.write.new.out in
    let none = subst (λ more. ReadsIf more d (g.F.Files.holds c.loop-lines.files) c.loop-lines.scan c.read.new.scan c.loop-lines.lines.bytes.items c.read.new.self.bytes.items) c.if-branch.false c.in_ok-read.ensures.read in
    on_err c.from_residual-in_err-write.result _
    (part_written d h c.args.scan.now c.loop-lines.scan c.loop-lines.lines.bytes.items _ w new was.so_far (subst (λ l. IfTold w (AppendsPart l new)) none.0 c.in_err-write.ensures.err))

pub returns-clause-said : goal.returns-clause-said
returns-clause-said g c =
    let d = c.args.defs.now in
    let was = c.loop-lines.invariant in
    let h = g.F.Files.holds c.args.files.now in
    let w = g.O.Sink.written c.loop-lines.out in
    let new = g.O.Sink.written c.write.new.out in
    let none = subst (λ more. ReadsIf more d (g.F.Files.holds c.loop-lines.files) c.loop-lines.scan c.read.new.scan c.loop-lines.lines.bytes.items c.read.new.self.bytes.items) c.if-branch.false c.in_ok-read.ensures.read in
    dumped d h c.args.scan.now c.loop-lines.scan c.loop-lines.lines.bytes.items _ w new was.so_far
    (subst (λ h. IfTold h (λ m. rows_ahead c.loop-lines.scan m ≡ [])) was.holds none.1)
    (subst (λ l. IfTold w (Appends l new)) none.0 c.in_ok-write.ensures.ok)
