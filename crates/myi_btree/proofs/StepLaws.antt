-- How much a walk has at hand, and how much is left of it.
use Rattle.std.proofs.Common.{◌≡◌, ℕ, suc, ◌+◌, ◌^◌, ◌<◌, ◌≤◌, Option, Some, None, List, [], ◌∷◌, ◌++◌, length, map, sum_by, ap, ◌∙◌, arith}
use Rattle.std.specs.Option.{option_to_list}
use Rattle.std.proofs.lemmas.List.{map-append}
use Rattle.std.proofs.lemmas.List.Sums.{sum_by_push}
use Rattle.std.specs.Vec.Iter.{into_iter_items}
use Rattle.myi_keylist.specs.declared.pair.Pair.{Pair}
use Rattle.myi_btree.specs.declared.visited.OpenPage.{OpenPage}
use Rattle.myi_btree.specs.declared.cursor.Cursor.{Cursor}
use Rattle.myi_btree.specs.Walk.{Node}
use Rattle.myi_btree.specs.Visited.{Takes, IsCounted}
use Rattle.myi_btree.specs.Walking.{at_hand, steps_left}
use Rattle.myi_btree.specs.Cursors.{opened, IsDone, walking_of}
use Rattle.myi_btree.proofs.CursorLaws.{Steps}

abbrev has : ℕ × Node → ℕ
has p = length p.1.pairs + length p.1.children

path_has : (path : List OpenPage) (last : OpenPage) → sum_by has (map opened (path ++ last ∷ [])) ≡ sum_by has (map opened path) + has (opened last)
path_has path last = ap (sum_by has) (map-append opened path (last ∷ [])) ∙ sum_by_push has (map opened path) (opened last)

takes_one : {A : Type 0} (o : Option A) (old new : List A) → Takes o old new → length old ≡ length (option_to_list o) + length new
takes_one None old new (a, b) = omega (arith, ap length a, ap length b)
takes_one (Some x) old new is = omega (arith, ap length is)

hand_of : (c : Cursor) (path : List OpenPage) (last : OpenPage) → c.path.items ≡ path ++ last ∷ [] → at_hand (walking_of c) ≡ length (option_to_list c.down) + (sum_by has (map opened path) + has (opened last))
hand_of c path last is = ap (λ (t : List OpenPage). length (option_to_list c.down) + sum_by has (map opened t)) is ∙ ap (λ (n : ℕ). length (option_to_list c.down) + n) (path_has path last)

-- the last open page gave a pair and a child, where it had them
pub steps_hand : (old new : Cursor) (path : List OpenPage) (last after : OpenPage) (given : Option Pair) → Steps old path last after given new → new.path.items ≡ path ++ after ∷ [] → at_hand (walking_of new) + length (option_to_list given) ≡ at_hand (walking_of old)
steps_hand old new path last after given s items =
    omega (
      arith,
      hand_of old path last s.items,
      hand_of new path after items,
      ap (λ (d : Option ℕ). length (option_to_list d)) s.down,
      takes_one given (into_iter_items last.pairs) (into_iter_items after.pairs) s.pair,
      takes_one new.down (into_iter_items last.children) (into_iter_items after.children) s.child,
    )

-- it had none, and was left
pub steps_gone : (old new : Cursor) (path : List OpenPage) (last after : OpenPage) → Steps old path last after None new → new.down ≡ None → new.path.items ≡ path → at_hand (walking_of new) ≤ at_hand (walking_of old)
steps_gone old new path last after s down items =
    let now : at_hand (walking_of new) ≡ length (option_to_list new.down) + sum_by has (map opened path) = ap (λ (t : List OpenPage). length (option_to_list new.down) + sum_by has (map opened t)) items in
    omega (arith, now, hand_of old path last s.items, ap (λ (d : Option ℕ). length (option_to_list d)) down)

pub done_hand : (c : Cursor) → IsDone c → at_hand (walking_of c) ≡ 0
done_hand c (down, path) =
    let one : length (option_to_list c.down) ≡ 0 = ap (λ (d : Option ℕ). length (option_to_list d)) down in
    let two : sum_by has (map opened c.path.items) ≡ 0 = ap (λ (t : List OpenPage). sum_by has (map opened t)) path in
    omega (arith, one, two)

pub some_hand : (c : Cursor) (at : ℕ) → c.down ≡ Some at → 1 ≤ at_hand (walking_of c)
some_hand c at down = omega (arith, ap (λ (d : Option ℕ). length (option_to_list d)) down)

-- a page was opened
pub opens_hand : (old new : Cursor) (opening after : OpenPage) → old.down ≡ Some opening.at → Takes new.down (into_iter_items opening.children) (into_iter_items after.children) → after.pairs ≡ opening.pairs → new.path.items ≡ old.path.items ++ after ∷ []
    → at_hand (walking_of new) < at_hand (walking_of old) + has (opened opening)
opens_hand old new opening after down takes pairs items =
    omega (arith, hand_of new old.path.items after items, ap (λ (d : Option ℕ). length (option_to_list d)) down, takes_one new.down (into_iter_items opening.children) (into_iter_items after.children) takes, ap (λ t. length (into_iter_items t)) pairs)

-- a page more was met
pub steps_page : (old new : Cursor) (node : Node) (hand : ℕ) → length new.visited.places.keys ≡ suc (length old.visited.places.keys) → length old.visited.places.keys < 2 ^ 63 → IsCounted node → hand ≡ at_hand (walking_of old) → at_hand (walking_of new) < hand + (length node.pairs + length node.children)
    → steps_left (walking_of new) + 1 ≤ steps_left (walking_of old)
steps_page old new node hand met small few same less = omega (arith, met, small, few.0, few.1, same, less)

-- none more was met
pub steps_same : (old new : Cursor) (n : ℕ) → new.visited.places.keys ≡ old.visited.places.keys → at_hand (walking_of new) + n ≤ at_hand (walking_of old) → steps_left (walking_of new) + n ≤ steps_left (walking_of old)
steps_same old new n same less = omega (arith, ap (λ (t : List ℕ). length t) same, less)

pub same_hand : (old new : Cursor) → new.down ≡ old.down → new.path.items ≡ old.path.items → at_hand (walking_of new) ≡ at_hand (walking_of old)
same_hand old new down items = ap (λ (d : Option ℕ). length (option_to_list d) + sum_by has (map opened new.path.items)) down ∙ ap (λ (t : List OpenPage). length (option_to_list old.down) + sum_by has (map opened t)) items
