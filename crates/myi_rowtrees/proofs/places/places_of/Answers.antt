use Rattle.std.proofs.Common.{◌≡◌, ◌+◌, ◌++◌, ◌∷◌, [], List, length, sym, ◌∙◌, ap, subst, refl, arith}
use Rattle.std.specs.List.{AllByRecursion}
use Rattle.myi_btree.specs.declared.place.Place.{Place}
use Rattle.myi_btree.specs.Sizes.{IsPlaced}
use Rattle.myi_rowtrees.proofs.PlaceLemmas.{place_at, place_pushed, place_is_placed, places_all, all_more, long_more}
use Rattle.myi_rowtrees.proofs.places.places_of.Goals as goal

pub loop-i-preserved : goal.loop-i-preserved
loop-i-preserved c =
    let d = c.args.defs.now in
    let keys = c.as_slice-keys.result.now in
    let roots = c.args.roots.now in
    let place : Place = place_at d keys roots c.loop-i.i c.index-keys-i.result in
    let items = c.in_ok-push.ensures.items in
    record {
      places = items ∙ ap (λ (ps : List Place). ps ++ place ∷ []) c.loop-i.invariant.places ∙ place_pushed d keys roots c.loop-i.i c.index-keys-i.result c.as_slice-keys.ensures c.loop-i-test.true c.requires.roots;
      placed = subst (λ (ps : List Place). AllByRecursion IsPlaced ps) (sym items) (all_more IsPlaced c.loop-i.places.items place c.loop-i.invariant.placed (place_is_placed d keys roots c.loop-i.i c.index-keys-i.result c.requires.sound c.as_slice-keys.ensures c.loop-i-test.true));
      each = ap (λ (ps : List Place). length ps) items ∙ long_more c.loop-i.places.items place ∙ ap (λ n. n + 1) c.loop-i.invariant.each;
      pointers = subst (λ (ps : List Place). AllByRecursion (λ (p : Place). p.rec_ref ≡ d.rec_ref) ps) (sym items) (all_more (λ (p : Place). p.rec_ref ≡ d.rec_ref) c.loop-i.places.items place c.loop-i.invariant.pointers refl);
    }

pub returns-clause-places : goal.returns-clause-places
returns-clause-places c = c.loop-i.invariant.places ∙ places_all c.args.defs.now c.args.roots.now c.loop-i.i (let same = ap (λ ks. length ks) c.as_slice-keys.ensures in let done = c.loop-i-test.false in omega (arith, same, done)) c.requires.roots
