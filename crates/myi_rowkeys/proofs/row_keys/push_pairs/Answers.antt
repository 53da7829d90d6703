use Rattle.std.proofs.Common.{arith, get_or, length, refl, ap, ◌∙◌, ◌+◌, ◌++◌, ◌∷◌, []}
use Rattle.std.proofs.Math.ListN.{length-set}
use Rattle.std.proofs.lemmas.List.{take_all, length-map}
use Rattle.myi_data.specs.Keys.{key_of}
use Rattle.myi_keylist.specs.PairOrder.{pair_with}
use Rattle.myi_rowkeys.specs.TableKeys.{key_numbers, row_keys}
use Rattle.myi_rowkeys.specs.RowLists.{with_pairs}
use Rattle.myi_rowkeys.proofs.NumberLemmas.{pushed_next, length-numbers}
use Rattle.myi_rowkeys.proofs.row_keys.push_pairs.Goals as goal

pub loop-index-preserved : goal.loop-index-preserved
loop-index-preserved c =
    let was = c.loop-index.invariant in
    let pair = c.in_ok-push_pair.ensures.pair ∙ ap (λ v. get_or c.loop-index.lists c.loop-index.index c.index-lists-index.result ++ pair_with (key_of c.args.defs.now (c.loop-index.index + 1) v) c.args.row ∷ []) was.fields in
    record {
      fields = c.in_ok-push_pair.ensures.same ∙ was.fields;
      all = length-set c.loop-index.lists c.loop-index.index c.push_pair.new.list ∙ was.all;
      so_far = pushed_next c.args.defs.now c.args.fields.now c.args.row c.loop-index.index c.args.lists.now c.loop-index.lists _ c.push_pair.new.list c.index-lists-index.result (omega (arith, was.all, c.requires.all)) c.requires.all was.so_far pair refl;
    }

pub returns : goal.returns
returns c =
    let d = c.args.defs.now in
    let keys = row_keys d c.args.fields.now in
    let many = length-map (key_numbers d) (λ k. key_of d k c.args.fields.now) ∙ length-numbers 1 (length d.keys) in
    c.loop-index.invariant.so_far ∙ ap (λ ks. with_pairs c.args.row ks c.args.lists.now) (take_all c.loop-index.index keys (omega (arith, many, c.requires.all, c.loop-index.invariant.all)))
