use Rattle.std.proofs.Common.{arith, length, get_or}
use Rattle.std.specs.List.{flat_map, slice_range}
use Rattle.std.proofs.lemmas.Result.{on_ok_weaker, on_err_weaker}
use Rattle.myi_history.specs.declared.round_texts.Said.{Said}
use Rattle.myi_history.specs.RoundTexts.{part_of}
use Rattle.myi_history.proofs.PartLemmas.{on_err, wrote_all, wrote_part, parts_from, parts_next, parts_joined, parts_done, within_at}
use Rattle.myi_history.proofs.round_texts.write_parts.Goals as goal
use Rattle.myi_history.proofs.round_texts.write_parts.Goals.{then-text-to+in_ok-write_piece, else-text-to}

pub returns-in_err-write_piece-clause-err : goal.returns-in_err-write_piece-clause-err
returns-in_err-write_piece-clause-err g c =
    let bytes = c.args.bytes.now in
    on_err c.from_residual.result _
    (wrote_part (g.O.Sink.written c.args.out.now) (g.O.Sink.written c.loop-text.out) (g.O.Sink.written c.write_piece.new.out) (flat_map (part_of bytes) c.args.said.now) (slice_range bytes c.loop-text.from c.loop-text.to) (parts_from bytes c.args.said.now c.loop-text.text-index)
    c.loop-text.invariant.so_far c.in_err-write_piece.ensures.err)

pub loop-text-preserved : goal.loop-text-preserved
loop-text-preserved g c =
    let bytes = c.args.bytes.now in
    let said = c.args.said.now in
    let i = c.loop-text.text-index in
    let was = c.loop-text.invariant in
    let v = g.O.Sink.written c.args.out.now in
    let old = g.O.Sink.written c.loop-text.out in
    let text = flat_map (part_of bytes) said in
    let none : Said = record { line = 0; from = 0; to = 0 } in
    let x : Said = get_or said i none in
    let within = within_at (length bytes) said i none c.loop-text-test.true c.requires.within in
    elim c.if-text-to.branch [
      | then-text-to+in_ok-write_piece w ↦ rw (w.from-is, w.out-is) (record {
        low = within.0;
        high = within.1;
        later = omega (arith, was.later, w.write_piece.ensures.cause.later);
        so_far = parts_next v old (g.O.Sink.written w.write_piece.new.out) text bytes (slice_range bytes c.loop-text.from c.loop-text.to) said i none c.loop-text-test.true was.so_far w.in_ok-write_piece.ensures.ok;
      })
      | else-text-to w ↦ rw (w.from-is, w.out-is) (record {
        low = omega (arith, was.low, within.0, w.if-text-to.false);
        high = within.1;
        later = was.later;
        so_far = parts_joined v old text bytes c.loop-text.from c.loop-text.to said i none c.loop-text-test.true was.low was.high w.if-text-to.false (omega (arith, within.0, w.if-text-to.false)) was.so_far;
      })
    ]

pub returns-clause-ok : goal.returns-clause-ok
returns-clause-ok g c =
    let bytes = c.args.bytes.now in
    let v = g.O.Sink.written c.args.out.now in
    let w = g.O.Sink.written c.loop-text.out in
    let u = g.O.Sink.written c.write_piece-2.new.out in
    let text = flat_map (part_of bytes) c.args.said.now in
    let piece = slice_range bytes c.loop-text.from c.loop-text.to in
    on_ok_weaker c.write_piece-2.result (λ said. wrote_all v w u text piece (parts_done v w text bytes piece c.args.said.now c.loop-text.text-index c.loop-text-test.false c.loop-text.invariant.so_far) said) c.write_piece-2.ensures.ok

pub returns-clause-err : goal.returns-clause-err
returns-clause-err g c =
    let bytes = c.args.bytes.now in
    let v = g.O.Sink.written c.args.out.now in
    let w = g.O.Sink.written c.loop-text.out in
    let u = g.O.Sink.written c.write_piece-2.new.out in
    let text = flat_map (part_of bytes) c.args.said.now in
    let piece = slice_range bytes c.loop-text.from c.loop-text.to in
    on_err_weaker c.write_piece-2.result (λ part. wrote_part v w u text piece (parts_from bytes c.args.said.now c.loop-text.text-index) c.loop-text.invariant.so_far part) c.write_piece-2.ensures.err
