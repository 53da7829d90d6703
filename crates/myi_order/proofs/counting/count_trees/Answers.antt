use Rattle.std.proofs.Common.{◌≡◌, ◌∙◌, length, map, refl, sym, ap, false}
use Rattle.std.specs.List.{range_with_len}
use Rattle.std.proofs.lemmas.List.{length-map}
use Rattle.myi_base.specs.Numbers.{num_at}
use Rattle.myi_header.specs.declared.state.State.{State}
use Rattle.myi_header.specs.StateOf.{state_of}
use Rattle.myi_keylist.specs.PairOrder.{sorted}
use Rattle.myi_data.specs.Readable.{readable}
use Rattle.myi_pair.specs.Clean.{values_of}
use Rattle.myi_check.proofs.CallerLemmas.{state_is, as_many_roots}
use Rattle.myi_order.specs.Listed.{parts_at}
use Rattle.myi_order.proofs.ListedLaws.{all_parts}
use Rattle.myi_order.proofs.TreeListLaws.{clean_trees, have_lists, unsorted_of, lists_of, keys_of_lists, as_many_lists}
use Rattle.myi_order.proofs.counting.count_trees.Goals as goal

pub parts_of_trees-requires-clause-roots : goal.parts_of_trees-requires-clause-roots
parts_of_trees-requires-clause-roots g c κs within =
    ap length c.as_slice.ensures ∙ ap (λ (s : State). length s.roots) c.in_ok-state.ensures.value ∙ as_many_roots c.args.defs.now c.args.defs.now.raw

pub returns-clause-counted : goal.returns-clause-counted
returns-clause-counted g c = λ m held x is read file clean.
    let d = c.args.defs.now in
    let state : c.in_ok-state.state ≡ state_of d x = c.in_ok-state.ensures.value ∙ state_is d (num_at 6 2 x) x c.requires (c.definitions_are_sound.ensures.raw x d read) in
    let has = clean_trees d file x read clean in
    let rows = readable d false file in
    let roots = c.as_slice.result.now in
    let are : roots ≡ (state_of d x).roots = c.as_slice.ensures ∙ ap (λ (s : State). s.roots) state in
    let long : length roots ≡ length d.keys = ap length are ∙ as_many_roots d x in
    let many : length roots ≡ length (lists_of d rows) = long ∙ sym (length-map (unsorted_of d rows) sorted ∙ as_many_lists d rows) in
    record {
      count = ap (λ (s : State). s.records) state ∙ has.records ∙ sym (length-map rows (values_of d));
      parts = all_parts d (map (values_of d) rows) (unsorted_of d rows) (lists_of d rows) (keys_of_lists d rows) (as_many_lists d rows) refl _
          (c.in_ok-parts_of_trees.ensures.counted m held x is (lists_of d rows) (have_lists d file x roots c.requires are long has) ∙ ap (λ n. map (parts_at d (lists_of d rows)) (range_with_len 0 n)) many);
    }
