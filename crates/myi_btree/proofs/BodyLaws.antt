-- One page of a level.
use Rattle.std.proofs.Common.{◌≡◌, ℕ, suc, ◌+◌, ◌-◌, ◌^◌, ◌<◌, ◌≤◌, Bool, not, eqb, List, [], ◌∷◌, ◌++◌, Result, Ok, Err, length, replicate, get_or, take, drop, refl, sym, ap, subst, ◌∙◌, arith}
use Rattle.std.specs.Result.{OnErr}
use Rattle.std.specs.List.{AllByRecursion}
use Rattle.std.proofs.Math.Seq.{drop-cons}
use Rattle.std.proofs.lemmas.List.{map-append, length-append, length-map, length-drop, length-take, length-replicate, take-append-drop, take_all, drop-drop}
use Rattle.myi_keypage.specs.declared.entry.Entry.{Entry}
use Rattle.myi_keypage.specs.Page.{page_with, page_bytes, is_node, IsPlace, IsBranching}
use Rattle.myi_keypage.specs.Fitting.{used_length}
use Rattle.myi_keypage.specs.Writing.{filled_up}
use Rattle.myi_keypage.proofs.CallerLemmas.{page_length}
use Rattle.myi_keylist.specs.declared.pair.Pair.{Pair}
use Rattle.myi_btree.specs.declared.place.Place.{Place}
use Rattle.myi_btree.specs.Walk.{Node, node_with}
use Rattle.myi_btree.specs.Nodes.{entry_of, entries_of, page_of_node}
use Rattle.myi_btree.specs.Sizes.{IsSized, AreSized, IsCount}
use Rattle.myi_btree.specs.Building.{whole_page, page_for}
use Rattle.myi_btree.specs.Levels.{FitsPage}
use Rattle.myi_btree.proofs.Frames.{all_left, all_right}
use Rattle.myi_btree.proofs.FitCount.{entries-take, entries-drop}
use Rattle.myi_btree.proofs.LevelLaws.{parted, node_flag}

pub on_err : {T E : Type 0} {X : Type 0} (r : Result T E) → X → OnErr r X
on_err (Ok y) x = tt
on_err (Err e) x = x

pub rows_of : (place : Place) (ps : List Pair) → AreSized place ps → AllByRecursion (λ (e : Entry). e.row < 256 ^ place.rec_ref) (entries_of ps)
rows_of place [] sized = tt
rows_of place (p ∷ ps) sized = (sized.0.row, rows_of place ps sized.1)

pub all_take : {A : Type 0} (P : A → Type 0) (n : ℕ) (xs : List A) → AllByRecursion P xs → AllByRecursion P (take n xs)
all_take P n xs all = all_left P (take n xs) (drop n xs) (subst (λ t. AllByRecursion P t) (sym (take-append-drop n xs)) all)

pub all_drop : {A : Type 0} (P : A → Type 0) (n : ℕ) (xs : List A) → AllByRecursion P xs → AllByRecursion P (drop n xs)
all_drop P n xs all = all_right P (take n xs) (drop n xs) (subst (λ t. AllByRecursion P t) (sym (take-append-drop n xs)) all)

-- a page of some of the pairs that are left, and what is left behind it and the pair that is set aside
pub record Body (place : Place) (node : Bool) (left : List Pair) (count : ℕ) (children below others : List ℕ) : Type 0 where
  pub page : FitsPage place (page_of_node (node_with (take count left) below))
  pub below_is : below ≡ take (suc count) children
  pub others_is : others ≡ drop (suc count) children
  pub others_branching : IsBranching (page_with (entries_of (drop (suc count) left)) others)
  pub flag : not (eqb (length others) 0) ≡ node
  pub others_places : AllByRecursion IsPlace others
  pub sized : AreSized place (drop (suc count) left)
  pub some : 0 < length (drop (suc count) left)

pub body : (place : Place) (node : Bool) (left : List Pair) (count : ℕ) (children below others : List ℕ) (d : Pair)
    → IsCount place node left count → AreSized place left → not (eqb (length children) 0) ≡ node → IsBranching (page_with (entries_of left) children) → AllByRecursion IsPlace children
    → count < length left → below ≡ take (count + 1) children → others ≡ drop (count + 1) children
    → Body place node left count children below others
body place node left count children below others d is sized flag branching places lt below_is others_is =
    let one : count + 1 ≡ suc count = omega arith in
    let aside : Pair = get_or left count d in
    let rest : List Pair = drop (suc count) left in
    let cut : drop count left ≡ aside ∷ rest = drop-cons left count d lt in
    let front : List Entry = entries_of (take count left) in
    let long : length front ≡ count = length-map (take count left) entry_of ∙ omega (arith, length-take count left) in
    let whole : entries_of left ≡ front ++ entry_of aside ∷ entries_of rest = ap entries_of (sym (take-append-drop count left)) ∙ map-append entry_of (take count left) (drop count left) ∙ ap (λ (t : List Pair). front ++ entries_of t) cut in
    let p = parted front (entry_of aside) (entries_of rest) children (subst (λ (t : List Entry). IsBranching (page_with t children)) whole branching) in
    let below1 : below ≡ take (suc (length front)) children = below_is ∙ ap (λ (t : ℕ). take t children) (one ∙ ap suc (sym long)) in
    let others1 : others ≡ drop (suc (length front)) children = others_is ∙ ap (λ (t : ℕ). drop t children) (one ∙ ap suc (sym long)) in
    let is_flag : is_node (page_with front below) ≡ node = ap (λ (t : List ℕ). is_node (page_with front t)) below1 ∙ p.front_node ∙ flag in
    record {
      page = record {
        some = omega (arith, long, is.some);
        rows = rows_of place (take count left) (all_take (λ p. IsSized place (entry_of p)) count left sized);
        places = subst (λ (t : List ℕ). AllByRecursion IsPlace t) (sym below_is) (all_take IsPlace (count + 1) children places);
        branching = subst (λ (t : List ℕ). IsBranching (page_with front t)) (sym below1) p.front_branches;
        fits = subst (λ (b : Bool). used_length place.rec_ref b front ≤ place.block_length) (sym is_flag) (subst (λ (t : List Entry). used_length place.rec_ref node t ≤ place.block_length) (sym (entries-take count left)) is.fit);
      };
      below_is = below_is ∙ ap (λ (t : ℕ). take t children) one;
      others_is = others_is ∙ ap (λ (t : ℕ). drop t children) one;
      others_branching = subst (λ (t : List ℕ). IsBranching (page_with (entries_of rest) t)) (sym others1) p.rest_branches;
      flag = ap (λ (t : List ℕ). not (eqb (length t) 0)) others1 ∙ p.rest_node ∙ flag;
      others_places = subst (λ (t : List ℕ). AllByRecursion IsPlace t) (sym others_is) (all_drop IsPlace (count + 1) children places);
      sized = all_drop (λ p. IsSized place (entry_of p)) (suc count) left sized;
      some = omega (arith, length-drop (suc count) left, is.one);
    }

-- the last page of a level
pub last : (place : Place) (node : Bool) (left : List Pair) (count : ℕ) (children : List ℕ) → IsCount place node left count → AreSized place left → not (eqb (length children) 0) ≡ node
    → IsBranching (page_with (entries_of left) children) → AllByRecursion IsPlace children → length left ≤ count → FitsPage place (page_of_node (node_with left children))
last place node left count children is sized flag branching places le =
    let long : length (entries_of left) ≡ length left = length-map left entry_of in
    let all : take count (entries_of left) ≡ entries_of left = take_all count (entries_of left) (omega arith) in
    record {
      some = omega (arith, long, is.some, is.inside);
      rows = rows_of place left sized;
      places = places;
      branching = branching;
      fits = subst (λ (b : Bool). used_length place.rec_ref b (entries_of left) ≤ place.block_length) (sym (node_flag (entries_of left) children ∙ flag)) (subst (λ (t : List Entry). used_length place.rec_ref node t ≤ place.block_length) all is.fit);
    }

filled_length : (text : List ℕ) (len : ℕ) → length text ≤ len → length (filled_up text len) ≡ len
filled_length text len le = omega (arith, length-append text (replicate (len - length text) 0), length-replicate {A = ℕ} (len - length text) 0)

-- a page that can be written is whole
pub whole_long : (place : Place) (node : Node) → FitsPage place (page_of_node node) → length (page_for place node) ≡ place.block_length
unfolding page_for
whole_long place node fits = filled_length (page_bytes place.rec_ref (page_of_node node)) place.block_length (omega (arith, page_length place.rec_ref (page_of_node node) fits.branching, fits.fits))

pub page_is : (place : Place) (node : Node) → whole_page place (page_of_node node) ≡ page_for place node
unfolding page_for
page_is place node = refl

-- the entries of a part of a list of pairs
pub part_is : (count start : ℕ) (pairs : List Pair) → take count (drop start (entries_of pairs)) ≡ entries_of (take count (drop start pairs))
part_is count start pairs = ap (take count) (sym (entries-drop start pairs)) ∙ sym (entries-take count (drop start pairs))

-- those from a place on
pub rest_is : (count start : ℕ) (pairs : List Pair) → count ≡ length pairs - start → take count (drop start (entries_of pairs)) ≡ entries_of (drop start pairs)
rest_is count start pairs e = part_is count start pairs ∙ ap entries_of (take_all count (drop start pairs) (omega (arith, e, length-drop start pairs)))

-- behind a page and the one that is set aside
pub behind : {A : Type 0} (xs : List A) (start count next : ℕ) → next ≡ start + (count + 1) → drop (suc count) (drop start xs) ≡ drop next xs
behind xs start count next e = let n : start + suc count ≡ next = omega (arith, e) in drop-drop (suc count) start xs ∙ ap (λ (t : ℕ). drop t xs) n
