use Rattle.std.proofs.Common.{◌≡◌, ◌∙◌, length, replicate, sym, ap, subst, arith, Option, None, ℕ, List, []}
use Rattle.std.specs.List.{AllByRecursion}
use Rattle.std.proofs.lemmas.Grind.{common_steps}
use Rattle.myi_btree.specs.declared.place.Place.{Place}
use Rattle.myi_btree.specs.declared.place.Room.{Room}
use Rattle.myi_btree.specs.Sizes.{IsPlaced}
use Rattle.myi_keytrees.specs.Trees.{kinds}
use Rattle.myi_pair.specs.FirstRows.{key_numbers}
use Rattle.myi_rowtrees.specs.Places.{places_of}
use Rattle.myi_repair.specs.Gathering.{all_chosen}
use Rattle.myi_saferepair.proofs.OpenLaws.{fresh_stand, none_placed, kinds_placed, numbers_long, longer_none}
use Rattle.myi_saferepair.proofs.TakeLaws.{start_reached}
use Rattle.myi_saferepair.proofs.new_files.NewFiles.new.Goals as goal

pub returns-clause-fresh : goal.returns-clause-fresh
returns-clause-fresh c =
    let d = c.args.defs.now in
    let t = c.in_ok-trees.ensures in
    let roots : List (Option ℕ) = c.as_slice-2.result.now in
    let many : length c.resize.new.self.items ≡ length d.keys = grind (arith, common_steps) in
    let numbers : length d.keys ≡ length (key_numbers d) = sym (numbers_long 1 (length d.keys)) in
    let roots_are : roots ≡ replicate (length d.keys) None = longer_none roots c.new-roots.result.items (length c.as_slice.result.now) c.new-roots.result.len (length d.keys) (c.as_slice-2.ensures.value ∙ c.in_ok-resize.ensures.items) c.new-roots.ensures.items c.new-roots.ensures.len (ap (λ ks. length ks) c.as_slice.ensures) in
    let long : length roots ≡ length (key_numbers d) = ap (λ (rs : List (Option ℕ)). length rs) c.as_slice-2.ensures.value ∙ many ∙ numbers in
    let places_are : c.in_ok-trees.trees.places ≡ places_of d roots = t.places ∙ c.in_ok-places.ensures.places in
    let empty = subst (AllByRecursion (λ (p : Place). p.root ≡ None)) (sym places_are) (none_placed d roots (length d.keys) roots_are) in
    let placed : AllByRecursion IsPlaced c.in_ok-trees.trees.places = subst (AllByRecursion IsPlaced) (sym t.places) c.in_ok-places.ensures.placed in
    let each : length c.in_ok-trees.trees.places ≡ length (key_numbers d) = ap (λ (ps : List Place). length ps) t.places ∙ c.in_ok-places.ensures.each ∙ numbers in
    let room = t.room ∙ ap {B = Room} (λ (n : ℕ). record { end = n; free = [] }) c.first_page.ensures.value in
    let written = c.new.ensures d all_chosen in
    record {
      fit = record { kinds = ap kinds places_are ∙ kinds_placed d roots long; whole = t.whole; reached = start_reached d c.new.result c.requires written };
      name = t.name;
      written = written;
      room = room;
      empty = empty;
      stand = λ m. fresh_stand d c.in_ok-trees.trees m placed empty each t.kept (t.current m) room;
    }
