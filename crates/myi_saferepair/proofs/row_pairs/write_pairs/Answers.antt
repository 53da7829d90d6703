use Rattle.std.proofs.Common.{arith, ◌≡◌, ◌+◌, ◌++◌, ◌∷◌, [], sym, ap, ◌∙◌}
use Rattle.std.proofs.Math.ListN.{length-set}
use Rattle.std.proofs.lemmas.List.{take_all, take_more_set}
use Rattle.myi_keylist.specs.PairOrder.{pair_with}
use Rattle.myi_data.specs.Keys.{key_of}
use Rattle.myi_saferepair.proofs.PairLaws.{first_pairs, pairs_more, pairs_all}
use Rattle.myi_saferepair.proofs.row_pairs.write_pairs.Goals as goal

pub loop-i-preserved : goal.loop-i-preserved
loop-i-preserved c =
    let d = c.args.defs.now in
    let was = c.loop-i.invariant in
    let i = c.loop-i.i in
    let fields = c.args.fields.now in
    let pair : c.write_pair.new.pair ≡ pair_with (key_of d (i + 1) fields) c.args.pointer = c.in_ok-write_pair.ensures.pair ∙ ap (λ v. pair_with (key_of d (i + 1) v) c.args.pointer) was.fields in
    record {
      fields = c.in_ok-write_pair.ensures.same ∙ was.fields;
      each = length-set c.loop-i.pairs i c.write_pair.new.pair ∙ was.each;
      so_far = take_more_set c.loop-i.pairs i c.write_pair.new.pair (omega (arith, c.loop-i-test.true, was.each))
          ∙ ap (λ ps. ps ++ c.write_pair.new.pair ∷ []) was.so_far
          ∙ ap (λ p. first_pairs d fields c.args.pointer i ++ p ∷ []) pair
          ∙ sym (pairs_more d fields c.args.pointer i (omega (arith, c.loop-i-test.true, was.each, c.requires.each)));
    }

pub returns : goal.returns
returns c =
    let d = c.args.defs.now in
    let was = c.loop-i.invariant in
    sym (take_all c.loop-i.i c.loop-i.pairs (omega (arith, c.loop-i-test.false, was.each)))
    ∙ was.so_far
    ∙ pairs_all d c.args.fields.now c.args.pointer c.loop-i.i (omega (arith, c.loop-i-test.false, was.each, c.requires.each))
