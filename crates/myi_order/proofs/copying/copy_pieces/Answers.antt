use Rattle.std.proofs.Common.{◌≡◌, ◌+◌, min, length, arith}
use Rattle.myi_base.proofs.CallerLemmas.{told_then}
use Rattle.myi_order.specs.Copying.{CopiesPiece}
use Rattle.myi_order.proofs.CopyLaws.{CopiedTo, one_piece, others_on}
use Rattle.myi_order.proofs.copying.copy_pieces.Goals as goal

pub loop-at-preserved : goal.loop-at-preserved
loop-at-preserved g c =
    let from = c.args.from.now in
    let to = c.args.to.now in
    let size = c.args.size in
    let at = c.loop-at.at in
    let next : c.min-at.result ≡ min size (at + c.in_ok-count.count) = omega arith in
    let was = c.loop-at.invariant in
    record {
      copied = told_then _ _ _ (CopiedTo from to size at) (CopiesPiece from to at (length c.loop-at.piece) c.in_ok-count.count) (CopiedTo from to size c.min-at.result) was.copied c.in_ok-count.ensures.copied
          (λ m n k. one_piece from to size at (length c.loop-at.piece) c.in_ok-count.count c.min-at.result m n k c.requires.apart c.loop-at-test.true (omega (arith, c.requires.piece (omega (arith, c.loop-at-test.true)))) next);
      others = others_on to _ _ _ was.others c.copy_piece.ensures.others;
      later = omega (arith, was.later, c.copy_piece.ensures.cause.later);
      within = omega (arith, next);
    }
