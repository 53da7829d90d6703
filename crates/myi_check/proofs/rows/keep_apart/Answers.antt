use Rattle.std.proofs.Common.{◌∙◌, ◌++◌, take, drop, refl, sym, ap, arith}
use Rattle.std.specs.Prelude.{filter}
use Rattle.std.proofs.lemmas.List.{take_all}
use Rattle.myi_check.specs.HeldBytes.{is_free}
use Rattle.myi_check.proofs.KeptLemmas.{holds_near, filter_next, drop_next}
use Rattle.myi_check.proofs.rows.keep_apart.Goals as goal

pub loop-index-init : goal.loop-index-init
loop-index-init c = record { few = omega arith; long = refl; kept = refl; left = refl }

pub keep_block-count-requires-clause-near : goal.keep_block-count-requires-clause-near
keep_block-count-requires-clause-near c = holds_near c.loop-index.index c.args.blocks.now.items c.loop-index.blocks.items c.loop-index.invariant.left c.requires.near (omega (arith, c.loop-index-test.true))

pub loop-index-preserved : goal.loop-index-preserved
loop-index-preserved c =
    let was = c.loop-index.invariant in
    let one = c.keep_block-count.ensures in
    let free = is_free c.args.held.now in
    let i = c.loop-index.index in
    let old = c.args.blocks.now.items in
    record {
      few = one.few;
      long = one.long ∙ was.long;
      kept = one.kept ∙ ap (λ bs. bs ++ filter free (take 1 (drop i c.loop-index.blocks.items))) was.kept ∙ ap (λ bs. filter free (take i old) ++ filter free (take 1 bs)) was.left ∙ sym (filter_next free i old);
      left = one.left ∙ sym (drop_next i c.loop-index.blocks.items) ∙ ap (drop 1) was.left ∙ drop_next i old;
    }

pub returns : goal.returns
returns c = c.truncate.ensures.items ∙ c.loop-index.invariant.kept ∙ ap (filter (is_free c.args.held.now)) (take_all c.loop-index.index c.args.blocks.now.items (omega (arith, c.loop-index-test.false, c.loop-index.auto.index-end)))
