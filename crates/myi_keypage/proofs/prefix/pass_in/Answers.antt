use Rattle.std.proofs.Common.{◌≡◌, ◌≢◌, eqb, ◌∙◌, ◌≤◌, true, false, None, Some, arith, sym, refl, length, take}
use Rattle.std.proofs.lemmas.List.{length-take}
use Rattle.std.proofs.lemmas.Bool.{eqb-true, eqb-false, and_parts, leb-true}
use Rattle.myi_keypage.proofs.prefix.pass_in.Goals as goal
use Rattle.myi_keypage.specs.PageItems.{item_at, is_longest, item_view}
use Rattle.myi_keypage.proofs.ItemLaws.{passes_more, passes_none, passes_nil, item_takes, item_shrinks}

pub returns-in_default : goal.returns-in_default
returns-in_default c =
    let e : item_at c.args.node c.args.rec_ref c.loop-rest.rest.now ≡ None = sym c.in_default.ensures in
    let some : eqb (length c.loop-rest.rest.now) 0 ≡ false = sym c.is_empty.ensures ∙ c.loop-rest-test.true in
    let ne : length c.loop-rest.rest.now ≢ 0 = eqb-false _ _ some in
    sym (passes_none (take c.loop-rest.len c.loop-rest.key) _ _ _ (omega arith) e) ∙ c.loop-rest.invariant.so_far

pub returns-then-not-is_longest_prefix : goal.returns-then-not-is_longest_prefix
returns-then-not-is_longest_prefix c =
    let e : item_at c.args.node c.args.rec_ref c.loop-rest.rest.now ≡ Some (item_view c.in-Some.item, c.in-Some.after.now) = sym c.in-Some.ensures in
    let bad : is_longest (take c.loop-rest.len c.loop-rest.key) (item_view c.in-Some.item) ≡ false = cc in
    sym (passes_more (take c.loop-rest.len c.loop-rest.key) _ _ _ _ c.loop-rest.invariant.fits e ∙ rw bad refl) ∙ c.loop-rest.invariant.so_far

pub keep_key-len-requires-clause-room : goal.keep_key-len-requires-clause-room
keep_key-len-requires-clause-room c =
    let e : item_at c.args.node c.args.rec_ref c.loop-rest.rest.now ≡ Some (item_view c.in-Some.item, c.in-Some.after.now) = sym c.in-Some.ensures in
    let good : is_longest (take c.loop-rest.len c.loop-rest.key) (item_view c.in-Some.item) ≡ true = cc in
    let within : c.in-Some.item.prefix ≤ length (take c.loop-rest.len c.loop-rest.key) = leb-true _ _ (and_parts _ _ good).0 in
    omega (arith, item_shrinks _ _ _ _ c.loop-rest.invariant.fits e, within, length-take c.loop-rest.len c.loop-rest.key)

pub loop-rest-smaller : goal.loop-rest-smaller
loop-rest-smaller c =
    let e : item_at c.args.node c.args.rec_ref c.loop-rest.rest.now ≡ Some (item_view c.in-Some.item, c.in-Some.after.now) = sym c.in-Some.ensures in
    omega (arith, item_shrinks _ _ _ _ c.loop-rest.invariant.fits e)

pub loop-rest-preserved : goal.loop-rest-preserved
loop-rest-preserved c =
    let e : item_at c.args.node c.args.rec_ref c.loop-rest.rest.now ≡ Some (item_view c.in-Some.item, c.in-Some.after.now) = sym c.in-Some.ensures in
    let good : is_longest (take c.loop-rest.len c.loop-rest.key) (item_view c.in-Some.item) ≡ true = cc in
    let within : c.in-Some.item.prefix ≤ length (take c.loop-rest.len c.loop-rest.key) = leb-true _ _ (and_parts _ _ good).0 in
    let step = passes_more (take c.loop-rest.len c.loop-rest.key) _ _ _ _ c.loop-rest.invariant.fits e in
    record {
      so_far = rw c.keep_key-len.ensures.key (sym (step ∙ rw good refl) ∙ c.loop-rest.invariant.so_far);
      room = omega (arith, item_shrinks _ _ _ _ c.loop-rest.invariant.fits e, within, length-take c.loop-rest.len c.loop-rest.key);
      fits = (item_takes _ _ _ _ _ c.loop-rest.invariant.fits e).0.fits;
      key = omega arith;
    }

pub returns : goal.returns
returns c =
    let none : eqb (length c.loop-rest.rest.now) 0 ≡ true = sym c.is_empty.ensures ∙ c.loop-rest-test.false in
    sym (passes_nil (take c.loop-rest.len c.loop-rest.key) _ _ _ (eqb-true _ _ none)) ∙ c.loop-rest.invariant.so_far
