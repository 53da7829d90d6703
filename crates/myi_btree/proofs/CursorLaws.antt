-- What a call of a cursor does to what is left.
use Rattle.std.proofs.Common.{◌≡◌, ℕ, suc, ◌+◌, ◌<◌, ◌≤◌, eqb, ltb, Bool, true, false, Option, Some, None, is_some, Result, Ok, Err, OnErr, List, [], ◌∷◌, ◌++◌, length, map, refl, sym, ap, subst, ◌∙◌, append-nil, append_assoc, arith, inl, inr, ◌⊎◌}
use Rattle.std.specs.List.{list_all, AllByRecursion}
use Rattle.std.specs.Option.{option_to_list}
use Rattle.std.specs.Vec.Iter.{into_iter_items}
use Rattle.std.proofs.lemmas.Bool.{and_parts, and_from, eqb-true, ltb-true, eq-eqb, lt-ltb, cases_lt}
use Rattle.std.proofs.lemmas.List.{map-append, length-append}
use Rattle.myi_keylist.specs.declared.pair.Pair.{Pair}
use Rattle.myi_btree.specs.declared.visited.OpenPage.{OpenPage}
use Rattle.myi_btree.specs.declared.cursor.Cursor.{Cursor}
use Rattle.myi_btree.specs.Walk.{Node, node_with, Places}
use Rattle.myi_btree.specs.Visit.{entered}
use Rattle.myi_btree.specs.Events.{Event, page, pair, bad, up_to_bad, first_bad, pages_in}
use Rattle.myi_btree.specs.Going.{left_down, left_of, IsLeft, Fits}
use Rattle.myi_btree.specs.Visited.{HasPlaces, node_left, Takes, is_none_left}
use Rattle.myi_btree.specs.Serving.{View, nodes_at, GoesOn, CanEnter}
use Rattle.myi_base.specs.Holding.{Holding}
use Rattle.myi_keycache.specs.Caching.{Caching}
use Rattle.myi_btree.specs.declared.place.Place.{Place}
use Rattle.myi_btree.specs.Walking.{Walking, IsOver, IsStillMet}
use Rattle.myi_btree.specs.Cursors.{opened, path_of, Leaves, FitsIn, may_stand, height_with, AsksFor, CanGo, Moves, IsDone, HasNoPage, Opens, Rises, RunsOn, Runs, RunsInto, walking_of}
use Rattle.myi_btree.proofs.Frames.{all_left, all_right}
use Rattle.myi_btree.proofs.EventLaws.{pages-append, none-append}
use Rattle.myi_btree.proofs.GoingLaws.{into_leaf, into_node, into_none, into_high, into_low, gives_pair, gives_last, gives_child, gives_none, ends}

len_opened : (ps : List OpenPage) → length (map opened ps) ≡ length ps
len_opened [] = refl
len_opened (p ∷ ps) = ap suc (len_opened ps)

-- ---- a cursor that is done

abbrev Asked : (ℕ → Bool) → List (ℕ × Node) → Type 0
Asked asked path = AllByRecursion (λ (p : ℕ × Node). list_all asked p.1.children ≡ true) path

pub done_asks : (asked : ℕ → Bool) (c : Cursor) → IsDone c → AsksFor asked c
done_asks asked c (down, path) = record {
  down = ap (λ (d : Option ℕ). list_all asked (option_to_list d)) down;
  path = subst (λ (t : List OpenPage). Asked asked (map opened t)) (sym path) tt;
}

fits_none : (height : Option ℕ) → Fits height None []
fits_none None = refl
fits_none (Some h) = omega arith

pub done_fits : (c : Cursor) → IsDone c → FitsIn c
done_fits c (down, path) = subst (λ (t : List OpenPage). Fits c.height c.down (map opened t)) (sym path) (subst (λ (d : Option ℕ). Fits c.height d []) (sym down) (fits_none c.height))

pub done_left : (block : ℕ) (read : Places) (met : List ℕ) (c : Cursor) (es : List Event) → IsDone c → Leaves block read met c es → es ≡ []
done_left block read met c es (down, path) l = l.is ∙ ap (λ (t : List OpenPage). up_to_bad block met (left_down read l.level c.down ++ left_of read l.level (map opened t))) path ∙ ap (λ (d : Option ℕ). up_to_bad block met (left_down read l.level d ++ [])) down

pub done_ends : (block : ℕ) (read : Places) (met : List ℕ) (c : Cursor) → IsDone c → Leaves block read met c []
done_ends block read met c (down, path) = subst (λ (t : List OpenPage). IsLeft block read met c.height c.down (map opened t) []) (sym path) (subst (λ (d : Option ℕ). IsLeft block read met c.height d [] []) (sym down) (ends block read met c.height))

pub over : (c : Cursor) → IsDone c → IsOver (walking_of c)
over c (down, path) = (down, ap (map opened) path)

pub over_left : (block : ℕ) (read : Places) (seen : List ℕ) (w : Walking) → IsOver w → IsStillMet block read seen w []
over_left block read seen w (down, path) = subst (λ (t : List (ℕ × Node)). IsLeft block read seen w.height w.down t []) (sym path) (subst (λ (d : Option ℕ). IsLeft block read seen w.height d [] []) (sym down) (ends block read seen w.height))

-- ---- a page is opened

is_leaf_so : (children : List ℕ) → is_none_left children ≡ true → children ≡ []
is_leaf_so [] e = refl
is_leaf_so (c ∷ cs) e = absurd cc

first_of : (children : List ℕ) → is_none_left children ≡ false → (d : ℕ) × (ds : List ℕ) × (children ≡ d ∷ ds)
first_of [] e = absurd cc
first_of (d ∷ ds) e = (d, ds, refl)

not_eq : (x y : ℕ) → eqb x y ≡ false → x ≡ y → ⊥
not_eq x y e f = let k : true ≡ false = sym (eq-eqb x y f) ∙ e in cc

not_less : (x y : ℕ) → ltb x y ≡ false → y ≤ x
not_less x y e = elim (cases_lt x y) [
  | inl lt ↦ let k : true ≡ false = sym (lt-ltb x y lt) ∙ e in absurd cc
  | inr ge ↦ omega (arith, ge)
]

bad_stands : (block : ℕ) (read : Places) (met : List ℕ) (height : Option ℕ) (c : ℕ) (path : List (ℕ × Node)) (node : Node) (leaf : Bool) → Fits height (Some c) path → entered block read c met ≡ Some node → is_none_left node.children ≡ leaf → may_stand height (length path) leaf ≡ false
    → IsLeft block read met height (Some c) path (bad c ∷ [])
bad_stands block read met None c path node leaf fits e is off = absurd cc
bad_stands block read met (Some h) c path node true fits e is off = into_high block read met h c path node fits e (is_leaf_so node.children is) (λ f. not_eq (length path + 1) h off (omega (arith, f)))
bad_stands block read met (Some h) c path node false fits e is off =
    let (d, ds, f) = first_of node.children is in
    into_low block read met h c path node d ds fits e f (omega (arith, not_less (length path + 1) h off))

pub opens_bad : (old new : Cursor) (opening : OpenPage) (event : Event) → old.down ≡ Some opening.at → IsDone new → new.height ≡ old.height → event ≡ bad opening.at → may_stand old.height (length old.path.items) (is_none_left (node_left opening).children) ≡ false → Opens old new opening event
opens_bad old new opening event down done same is off = (
  inr (is, done),
  λ block read asked seen fits asks all e. (
    done_asks asked new done,
    done_fits new done,
    λ es l.
        let none : es ≡ [] = done_left block read (seen ++ opening.at ∷ []) new es done l in
        let f : Fits old.height (Some opening.at) (path_of old) = subst (λ (d : Option ℕ). Fits old.height d (path_of old)) down fits in
        let len : length old.path.items ≡ length (path_of old) = sym (len_opened old.path.items) in
        let b : IsLeft block read seen old.height (Some opening.at) (path_of old) (bad opening.at ∷ []) = bad_stands block read seen old.height opening.at (path_of old) (node_left opening) (is_none_left (node_left opening).children) f e refl (ap (λ (n : ℕ). may_stand old.height n (is_none_left (node_left opening).children)) (sym len) ∙ off) in
        let both : bad opening.at ∷ [] ≡ event ∷ es = rw (is, none) refl in
        subst (λ (d : Option ℕ). IsLeft block read seen old.height d (path_of old) (event ∷ es)) (sym down) (subst (λ (t : List Event). IsLeft block read seen old.height (Some opening.at) (path_of old) t) both b),
  ),
)

record Opened (block : ℕ) (read : Places) (seen : List ℕ) (height : Option ℕ) (path : List (ℕ × Node)) (c : ℕ) (now down : Option ℕ) (after : List (ℕ × Node)) : Type 0 where
  fits : Fits now down after
  back : (es : List Event) → IsLeft block read (seen ++ c ∷ []) now down after es → IsLeft block read seen height (Some c) path (page c ∷ es)

leaf_height : (height : Option ℕ) (n : ℕ) → may_stand height n true ≡ true → (height ≡ None) ⊎ (height ≡ Some (suc n))
leaf_height None n e = inl refl
leaf_height (Some h) n e = let k : n + 1 ≡ h = eqb-true (n + 1) h e in inr (ap Some (omega (arith, k)))

node_height : (height : Option ℕ) (n : ℕ) → may_stand height n false ≡ true → (h : ℕ) → height ≡ Some h → suc n < h
node_height None n e h f = absurd cc
node_height (Some k) n e h f = let lt : n + 1 < k = ltb-true (n + 1) k e in let same : k ≡ h = cc in omega (arith, lt, same)

fits_node : (height : Option ℕ) (d : ℕ) (path : List (ℕ × Node)) (p : ℕ × Node) → ((h : ℕ) → height ≡ Some h → suc (length path) < h) → Fits height (Some d) (path ++ p ∷ [])
fits_node None d path p f = tt
fits_node (Some h) d path p f = omega (arith, f h refl, length-append path (p ∷ []))

opens_plain : (block : ℕ) (read : Places) (seen : List ℕ) (height : Option ℕ) (path : List (ℕ × Node)) (c : ℕ) (pairs : List Pair) (children rest : List ℕ) (down : Option ℕ) → Takes down children rest → may_stand height (length path) (is_none_left children) ≡ true
    → entered block read c seen ≡ Some (node_with pairs children)
    → Opened block read seen height path c (height_with height (length path) (is_none_left children)) down (path ++ (c, node_with pairs rest) ∷ [])
opens_plain block read seen height path c pairs children rest None (none, left) may e =
    let leaf : is_none_left children ≡ true = ap is_none_left none in
    let h = leaf_height height (length path) (ap (may_stand height (length path)) (sym leaf) ∙ may) in
    let now : Some (suc (length path)) ≡ height_with height (length path) (is_none_left children) = ap Some (omega arith) ∙ ap (height_with height (length path)) (sym leaf) in
    let same : node_with pairs children ≡ node_with pairs rest = ap (node_with pairs) (none ∙ sym left) in
    subst (λ (t : Option ℕ). Opened block read seen height path c t None (path ++ (c, node_with pairs rest) ∷ [])) now
    (record {
      fits = omega (arith, length-append path ((c, node_with pairs rest) ∷ []));
      back = λ es l. into_leaf block read seen height c path (node_with pairs rest) es (e ∙ ap Some same) left h l;
    })
opens_plain block read seen height path c pairs children rest (Some d) is may e =
    let node : is_none_left children ≡ false = ap is_none_left is in
    let h = node_height height (length path) (ap (may_stand height (length path)) (sym node) ∙ may) in
    let now : height ≡ height_with height (length path) (is_none_left children) = ap (height_with height (length path)) (sym node) in
    subst (λ (t : Option ℕ). Opened block read seen height path c t (Some d) (path ++ (c, node_with pairs rest) ∷ [])) now
    (record {
      fits = fits_node height d path (c, node_with pairs rest) h;
      back = λ es l. into_node block read seen height c path (node_with pairs children) d rest es e is h l;
    })

asked_taken : (asked : ℕ → Bool) (down : Option ℕ) (children rest : List ℕ) → Takes down children rest → list_all asked children ≡ true → (list_all asked (option_to_list down) ≡ true) × (list_all asked rest ≡ true)
asked_taken asked None children rest (none, left) all = (refl, ap (list_all asked) left)
asked_taken asked (Some d) children rest is all =
    let k = and_parts (asked d) (list_all asked rest) (ap (list_all asked) (sym is) ∙ all) in
    (and_from (asked d) true k.0 refl, k.1)

all_and : (asked : ℕ → Bool) (xs ys : List (ℕ × Node)) → Asked asked xs → Asked asked ys → Asked asked (xs ++ ys)
all_and asked [] ys a b = b
all_and asked (x ∷ xs) ys a b = (a.0, all_and asked xs ys a.1 b)

-- a cursor with another last page
path_pushed : (c : Cursor) (path : List OpenPage) (p : OpenPage) → c.path.items ≡ path ++ p ∷ [] → path_of c ≡ map opened path ++ opened p ∷ []
path_pushed c path p e = ap (map opened) e ∙ map-append opened path (p ∷ [])

pub opens_page : (old new : Cursor) (opening after : OpenPage) → old.down ≡ Some opening.at → may_stand old.height (length old.path.items) (is_none_left (into_iter_items opening.children)) ≡ true
    → new.height ≡ height_with old.height (length old.path.items) (is_none_left (into_iter_items opening.children)) → Takes new.down (into_iter_items opening.children) (into_iter_items after.children) → after.at ≡ opening.at → after.pairs ≡ opening.pairs
    → new.path.items ≡ old.path.items ++ after ∷ [] → Opens old new opening (page opening.at)
opens_page old new opening after down may high takes at pairs more = (
  inl refl,
  λ block read asked seen fits asks all e.
      let len : length old.path.items ≡ length (path_of old) = sym (len_opened old.path.items) in
      let o = opens_plain block read seen old.height (path_of old) opening.at (into_iter_items opening.pairs) (into_iter_items opening.children) (into_iter_items after.children) new.down takes (ap (λ (n : ℕ). may_stand old.height n (is_none_left (into_iter_items opening.children))) (sym len) ∙ may) e in
      let last : (opening.at, node_with (into_iter_items opening.pairs) (into_iter_items after.children)) ≡ opened after = rw (sym at, sym pairs) refl in
      let path : path_of old ++ (opening.at, node_with (into_iter_items opening.pairs) (into_iter_items after.children)) ∷ [] ≡ path_of new = ap (λ (p : ℕ × Node). path_of old ++ p ∷ []) last ∙ sym (path_pushed new old.path.items after more) in
      let now : height_with old.height (length (path_of old)) (is_none_left (into_iter_items opening.children)) ≡ new.height = ap (λ (n : ℕ). height_with old.height n (is_none_left (into_iter_items opening.children))) (sym len) ∙ sym high in
      let o2 : Opened block read seen old.height (path_of old) opening.at new.height new.down (path_of new) = subst (λ (t : List (ℕ × Node)). Opened block read seen old.height (path_of old) opening.at new.height new.down t) path
      (subst (λ (h : Option ℕ). Opened block read seen old.height (path_of old) opening.at h new.down (path_of old ++ (opening.at, node_with (into_iter_items opening.pairs) (into_iter_items after.children)) ∷ [])) now o) in
      let k = asked_taken asked new.down (into_iter_items opening.children) (into_iter_items after.children) takes all in (
        record { down = k.0; path = subst (λ (t : List (ℕ × Node)). Asked asked t) (sym (path_pushed new old.path.items after more)) (all_and asked (path_of old) (opened after ∷ []) asks.path (k.1, tt)) },
        o2.fits,
        λ es l. subst (λ (d : Option ℕ). IsLeft block read seen old.height d (path_of old) (page opening.at ∷ es)) (sym down) (o2.back es l),
      ),
)

-- ---- going up

record Risen (block : ℕ) (read : Places) (seen : List ℕ) (height : Option ℕ) (path : List (ℕ × Node)) (given : List Event) (down : Option ℕ) (after : List (ℕ × Node)) : Type 0 where
  fits : Fits height down after
  back : (es : List Event) → IsLeft block read seen height down after es → IsLeft block read seen height None path (given ++ es)

no_last : (path : List (ℕ × Node)) (p : ℕ × Node) → path ++ p ∷ [] ≡ [] → ⊥
no_last [] p e = cc
no_last (q ∷ path) p e = cc

risen_pair : (block : ℕ) (read : Places) (seen : List ℕ) (height : Option ℕ) (path : List (ℕ × Node)) (at : ℕ) (p : Pair) (ps : List Pair) (children rest : List ℕ) (down : Option ℕ) → Takes down children rest → Fits height None (path ++ (at, node_with (p ∷ ps) children) ∷ [])
    → Risen block read seen height (path ++ (at, node_with (p ∷ ps) children) ∷ []) (pair p at ∷ []) down (path ++ (at, node_with ps rest) ∷ [])
risen_pair block read seen None path at p ps children rest down takes fits = absurd (no_last path (at, node_with (p ∷ ps) children) fits)
risen_pair block read seen (Some h) path at p ps children rest None (none, left) fits =
    subst (λ (t : List ℕ). Risen block read seen (Some h) (path ++ (at, node_with (p ∷ ps) t) ∷ []) (pair p at ∷ []) None (path ++ (at, node_with ps rest) ∷ [])) (sym none)
    (subst (λ (t : List ℕ). Risen block read seen (Some h) (path ++ (at, node_with (p ∷ ps) []) ∷ []) (pair p at ∷ []) None (path ++ (at, node_with ps t) ∷ [])) (sym left)
    (record {
      fits = omega (arith, fits, length-append path ((at, node_with ps []) ∷ []), length-append path ((at, node_with (p ∷ ps) children) ∷ []));
      back = λ es l. gives_last block read seen h path at p ps es l;
    }))
risen_pair block read seen (Some h) path at p ps children rest (Some d) is fits =
    subst (λ (t : List ℕ). Risen block read seen (Some h) (path ++ (at, node_with (p ∷ ps) t) ∷ []) (pair p at ∷ []) (Some d) (path ++ (at, node_with ps rest) ∷ [])) (sym is)
    (record {
      fits = omega (arith, fits, length-append path ((at, node_with ps rest) ∷ []), length-append path ((at, node_with (p ∷ ps) children) ∷ []));
      back = λ es l. gives_pair block read seen h path at p ps d rest es l;
    })

risen_child : (block : ℕ) (read : Places) (seen : List ℕ) (height : Option ℕ) (path : List (ℕ × Node)) (at d : ℕ) (rest : List ℕ) → Fits height None (path ++ (at, node_with [] (d ∷ rest)) ∷ [])
    → Risen block read seen height (path ++ (at, node_with [] (d ∷ rest)) ∷ []) [] (Some d) (path ++ (at, node_with [] rest) ∷ [])
risen_child block read seen None path at d rest fits = absurd (no_last path (at, node_with [] (d ∷ rest)) fits)
risen_child block read seen (Some h) path at d rest fits = record {
  fits = omega (arith, fits, length-append path ((at, node_with [] rest) ∷ []), length-append path ((at, node_with [] (d ∷ rest)) ∷ []));
  back = λ es l. gives_child block read seen h path at d rest es l;
}

risen_none : (block : ℕ) (read : Places) (seen : List ℕ) (height : Option ℕ) (path : List (ℕ × Node)) (at : ℕ) → Fits height None (path ++ (at, node_with [] []) ∷ []) → Risen block read seen height (path ++ (at, node_with [] []) ∷ []) [] None path
risen_none block read seen None path at fits = absurd (no_last path (at, node_with [] []) fits)
risen_none block read seen (Some h) path at fits =
    let le : suc (length path) ≤ h = omega (arith, fits, length-append path ((at, node_with [] []) ∷ [])) in
    record { fits = omega (arith, le); back = λ es l. gives_none block read seen h path at es le l }

-- the last open page gives its next pair and its next child, where it has them
pub record Steps (old : Cursor) (path : List OpenPage) (last after : OpenPage) (given : Option Pair) (new : Cursor) : Type 0 where
  pub items : old.path.items ≡ path ++ last ∷ []
  pub down : old.down ≡ None
  pub at : after.at ≡ last.at
  pub pair : Takes given (into_iter_items last.pairs) (into_iter_items after.pairs)
  pub child : Takes new.down (into_iter_items last.children) (into_iter_items after.children)
  pub height : new.height ≡ old.height

-- it stands last in its path
last_path : (c : Cursor) (path : List OpenPage) (p : OpenPage) → c.path.items ≡ path ++ p ∷ [] → path_of c ≡ map opened path ++ (p.at, node_left p) ∷ []
last_path c path p e = path_pushed c path p e

steps_asks : (asked : ℕ → Bool) (old new : Cursor) (path : List OpenPage) (last after : OpenPage) (given : Option Pair) → Steps old path last after given new → AsksFor asked old
    → (list_all asked (option_to_list new.down) ≡ true) × Asked asked (map opened path) × (list_all asked (into_iter_items after.children) ≡ true)
steps_asks asked old new path last after given s asks =
    let all : Asked asked (map opened path ++ opened last ∷ []) = subst (λ (t : List (ℕ × Node)). Asked asked t) (path_pushed old path last s.items) asks.path in
    let here = all_right (λ (p : ℕ × Node). list_all asked p.1.children ≡ true) (map opened path) (opened last ∷ []) all in
    let k = asked_taken asked new.down (into_iter_items last.children) (into_iter_items after.children) s.child here.0 in
    (k.0, all_left (λ (p : ℕ × Node). list_all asked p.1.children ≡ true) (map opened path) (opened last ∷ []) all, k.1)

steps_fits : (old new : Cursor) (path : List OpenPage) (last after : OpenPage) (given : Option Pair) → Steps old path last after given new → FitsIn old → Fits old.height None (map opened path ++ opened last ∷ [])
steps_fits old new path last after given s fits = subst (λ (d : Option ℕ). Fits old.height d (map opened path ++ opened last ∷ [])) s.down (subst (λ (t : List (ℕ × Node)). Fits old.height old.down t) (path_pushed old path last s.items) fits)

-- what is left of the old one, by what is left of the new one
steps_back : (block : ℕ) (read : Places) (seen : List ℕ) (old new : Cursor) (path : List OpenPage) (last : OpenPage) (given es : List Event) (after : List (ℕ × Node)) → old.path.items ≡ path ++ last ∷ [] → old.down ≡ None → new.height ≡ old.height → path_of new ≡ after
    → Risen block read seen old.height (map opened path ++ opened last ∷ []) given new.down after → Leaves block read seen new es → Leaves block read seen old (given ++ es)
steps_back block read seen old new path last given es after items down height now r l =
    let l2 : IsLeft block read seen old.height new.down after es = subst (λ (t : List (ℕ × Node)). IsLeft block read seen old.height new.down t es) now (subst (λ (h : Option ℕ). IsLeft block read seen h new.down (path_of new) es) height l) in
    subst (λ (t : List (ℕ × Node)). IsLeft block read seen old.height old.down t (given ++ es)) (sym (path_pushed old path last items))
    (subst (λ (d : Option ℕ). IsLeft block read seen old.height d (map opened path ++ opened last ∷ []) (given ++ es)) (sym down) (r.back es l2))

steps_now : (block : ℕ) (read : Places) (seen : List ℕ) (old new : Cursor) (path given : List (ℕ × Node)) (es : List Event) (after : List (ℕ × Node)) → new.height ≡ old.height → path_of new ≡ after → Risen block read seen old.height path es new.down after → FitsIn new
steps_now block read seen old new path given es after height now r = subst (λ (t : List (ℕ × Node)). Fits new.height new.down t) (sym now) (subst (λ (h : Option ℕ). Fits h new.down after) (sym height) r.fits)

pub rises_pair : (old new : Cursor) (path : List OpenPage) (last after : OpenPage) (p : Pair) → Steps old path last after (Some p) new → new.path.items ≡ path ++ after ∷ [] → Rises old new (pair p last.at ∷ [])
rises_pair old new path last after p s items = λ block read asked seen fits asks.
    let a = steps_asks asked old new path last after (Some p) s asks in
    let now : path_of new ≡ map opened path ++ opened after ∷ [] = path_pushed new path after items in
    let is : opened last ≡ (last.at, node_with (p ∷ into_iter_items after.pairs) (into_iter_items last.children)) = ap (λ (t : List Pair). (last.at, node_with t (into_iter_items last.children))) s.pair in
    let at : opened after ≡ (last.at, node_with (into_iter_items after.pairs) (into_iter_items after.children)) = ap (λ (n : ℕ). (n, node_left after)) s.at in
    let f : Fits old.height None (map opened path ++ (last.at, node_with (p ∷ into_iter_items after.pairs) (into_iter_items last.children)) ∷ []) = subst (λ (t : ℕ × Node). Fits old.height None (map opened path ++ t ∷ [])) is (steps_fits old new path last after (Some p) s fits) in
    let r0 = risen_pair block read seen old.height (map opened path) last.at p (into_iter_items after.pairs) (into_iter_items last.children) (into_iter_items after.children) new.down s.child f in
    let r : Risen block read seen old.height (map opened path ++ opened last ∷ []) (pair p last.at ∷ []) new.down (map opened path ++ opened after ∷ []) =
    subst (λ (t : ℕ × Node). Risen block read seen old.height (map opened path ++ t ∷ []) (pair p last.at ∷ []) new.down (map opened path ++ opened after ∷ [])) (sym is)
    (subst (λ (t : ℕ × Node). Risen block read seen old.height (map opened path ++ (last.at, node_with (p ∷ into_iter_items after.pairs) (into_iter_items last.children)) ∷ []) (pair p last.at ∷ []) new.down (map opened path ++ t ∷ [])) (sym at) r0) in (
      record { down = a.0; path = subst (λ (t : List (ℕ × Node)). Asked asked t) (sym now) (all_and asked (map opened path) (opened after ∷ []) a.1 (a.2, tt)) },
      steps_now block read seen old new (map opened path ++ opened last ∷ []) [] (pair p last.at ∷ []) (map opened path ++ opened after ∷ []) s.height now r,
      λ es l. steps_back block read seen old new path last (pair p last.at ∷ []) es (map opened path ++ opened after ∷ []) s.items s.down s.height now r l,
    )

pub rises_child : (old new : Cursor) (path : List OpenPage) (last after : OpenPage) (d : ℕ) → Steps old path last after None new → new.down ≡ Some d → new.path.items ≡ path ++ after ∷ [] → Rises old new []
rises_child old new path last after d s down items = λ block read asked seen fits asks.
    let a = steps_asks asked old new path last after None s asks in
    let now : path_of new ≡ map opened path ++ opened after ∷ [] = path_pushed new path after items in
    let children : into_iter_items last.children ≡ d ∷ into_iter_items after.children = subst (λ (t : Option ℕ). Takes t (into_iter_items last.children) (into_iter_items after.children)) down s.child in
    let is : opened last ≡ (last.at, node_with [] (d ∷ into_iter_items after.children)) = rw (s.pair.0, children) refl in
    let at : opened after ≡ (last.at, node_with [] (into_iter_items after.children)) = rw (s.at, s.pair.1) refl in
    let f : Fits old.height None (map opened path ++ (last.at, node_with [] (d ∷ into_iter_items after.children)) ∷ []) = subst (λ (t : ℕ × Node). Fits old.height None (map opened path ++ t ∷ [])) is (steps_fits old new path last after None s fits) in
    let r0 = risen_child block read seen old.height (map opened path) last.at d (into_iter_items after.children) f in
    let r : Risen block read seen old.height (map opened path ++ opened last ∷ []) [] new.down (map opened path ++ opened after ∷ []) =
    subst (λ (t : Option ℕ). Risen block read seen old.height (map opened path ++ opened last ∷ []) [] t (map opened path ++ opened after ∷ [])) (sym down)
    (subst (λ (t : ℕ × Node). Risen block read seen old.height (map opened path ++ t ∷ []) [] (Some d) (map opened path ++ opened after ∷ [])) (sym is)
    (subst (λ (t : ℕ × Node). Risen block read seen old.height (map opened path ++ (last.at, node_with [] (d ∷ into_iter_items after.children)) ∷ []) [] (Some d) (map opened path ++ t ∷ [])) (sym at) r0)) in (
      record { down = a.0; path = subst (λ (t : List (ℕ × Node)). Asked asked t) (sym now) (all_and asked (map opened path) (opened after ∷ []) a.1 (a.2, tt)) },
      steps_now block read seen old new (map opened path ++ opened last ∷ []) [] [] (map opened path ++ opened after ∷ []) s.height now r,
      λ es l. steps_back block read seen old new path last [] es (map opened path ++ opened after ∷ []) s.items s.down s.height now r l,
    )

pub rises_none : (old new : Cursor) (path : List OpenPage) (last after : OpenPage) → Steps old path last after None new → new.down ≡ None → new.path.items ≡ path → Rises old new []
rises_none old new path last after s down items = λ block read asked seen fits asks.
    let a = steps_asks asked old new path last after None s asks in
    let now : path_of new ≡ map opened path = ap (map opened) items in
    let children = subst (λ (t : Option ℕ). Takes t (into_iter_items last.children) (into_iter_items after.children)) down s.child in
    let is : opened last ≡ (last.at, node_with [] []) = rw (s.pair.0, children.0) refl in
    let f : Fits old.height None (map opened path ++ (last.at, node_with [] []) ∷ []) = subst (λ (t : ℕ × Node). Fits old.height None (map opened path ++ t ∷ [])) is (steps_fits old new path last after None s fits) in
    let r : Risen block read seen old.height (map opened path ++ opened last ∷ []) [] new.down (map opened path) =
    subst (λ (t : Option ℕ). Risen block read seen old.height (map opened path ++ opened last ∷ []) [] t (map opened path)) (sym down)
    (subst (λ (t : ℕ × Node). Risen block read seen old.height (map opened path ++ t ∷ []) [] None (map opened path)) (sym is) (risen_none block read seen old.height (map opened path) last.at f)) in (
      record { down = a.0; path = subst (λ (t : List (ℕ × Node)). Asked asked t) (sym now) a.1 },
      steps_now block read seen old new (map opened path ++ opened last ∷ []) [] [] (map opened path) s.height now r,
      λ es l. steps_back block read seen old new path last [] es (map opened path) s.items s.down s.height now r l,
    )

pub rises_on : (a b c : Cursor) (given : List Event) → Rises a b [] → Rises b c given → Rises a c given
rises_on a b c given x y = λ block read asked seen fits asks.
    let p = x block read asked seen fits asks in
    let q = y block read asked seen p.1 p.0 in
    (q.0, q.1, λ es l. p.2 (given ++ es) (q.2 es l))

pub rises_same : (a : Cursor) → Rises a a []
rises_same a = λ block read asked seen fits asks. (asks, fits, λ es l. l)

pub rises_items : (a b c : Cursor) → Rises a b [] → c.height ≡ b.height → c.down ≡ b.down → c.path.items ≡ b.path.items → Rises a c []
rises_items a b c x height down items = λ block read asked seen fits asks.
    let p = x block read asked seen fits asks in
    let path : path_of c ≡ path_of b = ap (map opened) items in (
      record { down = ap (λ (d : Option ℕ). list_all asked (option_to_list d)) down ∙ p.0.down; path = subst (λ (t : List (ℕ × Node)). Asked asked t) (sym path) p.0.path },
      subst (λ (t : List (ℕ × Node)). Fits c.height c.down t) (sym path) (subst (λ (d : Option ℕ). Fits c.height d (path_of b)) (sym down) (subst (λ (h : Option ℕ). Fits h b.down (path_of b)) (sym height) p.1)),
      λ es l. p.2 es (subst (λ (t : List (ℕ × Node)). IsLeft block read seen b.height b.down t es) path (subst (λ (d : Option ℕ). IsLeft block read seen b.height d (path_of c) es) down (subst (λ (h : Option ℕ). IsLeft block read seen h c.down (path_of c) es) height l))),
    )

pub steps_of : (old new : Cursor) (path : List OpenPage) (last one two : OpenPage) (given : Option Pair) → old.path.items ≡ path ++ last ∷ [] → old.down ≡ None → Takes given (into_iter_items last.pairs) (into_iter_items one.pairs) → one.at ≡ last.at → one.children ≡ last.children
    → Takes new.down (into_iter_items one.children) (into_iter_items two.children) → two.at ≡ one.at → two.pairs ≡ one.pairs → new.height ≡ old.height → Steps old path last two given new
steps_of old new path last one two given items down takes at children child at2 pairs height = record {
  items = items;
  down = down;
  at = at2 ∙ at;
  pair = subst (λ t. Takes given (into_iter_items last.pairs) (into_iter_items t)) (sym pairs) takes;
  child = subst (λ t. Takes new.down (into_iter_items t) (into_iter_items two.children)) children child;
  height = height;
}

-- ---- going into a page

pub can_enter : (place : Place) (v : View) (told : Option Holding) (cache : Caching) (seen : List ℕ) (c : Cursor) (at : ℕ) → CanGo place v told cache seen c → c.down ≡ Some at → CanEnter place v told cache at seen c.visited
can_enter place v told cache seen c at k down = record {
  goes = k.goes;
  asked = (and_parts (v.asked at) true (ap (λ (d : Option ℕ). list_all v.asked (option_to_list d)) (sym down) ∙ k.asks.down)).0;
  has = k.has;
}

one_page : (new : Cursor) (event : Event) (at : ℕ) → (event ≡ page at) ⊎ ((event ≡ bad at) × IsDone new) → first_bad (event ∷ []) ≡ None → at ∷ [] ≡ pages_in (event ∷ [])
one_page new event at (inl is) e = ap (λ (t : Event). pages_in (t ∷ [])) (sym is)
one_page new event at (inr (is, done)) e = let k : Some at ≡ None = ap (λ (t : Event). first_bad (t ∷ [])) (sym is) ∙ e in absurd cc

one_done : (new : Cursor) (event : Event) (at p : ℕ) → (event ≡ page at) ⊎ ((event ≡ bad at) × IsDone new) → first_bad (event ∷ []) ≡ Some p → IsDone new
one_done new event at p (inl is) e = let k : ◌≡◌ {A = Option ℕ} None (Some p) = ap (λ (t : Event). first_bad (t ∷ [])) (sym is) ∙ e in absurd cc
one_done new event at p (inr (is, done)) e = done

pub moves_into : (block : ℕ) (read : Places) (asked : ℕ → Bool) (seen : List ℕ) (old mid new : Cursor) (opening : OpenPage) (event : Event) → mid.height ≡ old.height → mid.down ≡ old.down → mid.path.items ≡ old.path.items → FitsIn old → AsksFor asked old → list_all asked (node_left opening).children ≡ true
    → entered block read opening.at seen ≡ Some (node_left opening) → HasPlaces new.visited.places.keys (seen ++ opening.at ∷ []) → Opens mid new opening event → Moves block read asked seen old new (event ∷ [])
moves_into block read asked seen old mid new opening event height down path fits asks all e has o =
    let p : path_of mid ≡ path_of old = ap (map opened) path in
    let fits2 : FitsIn mid = subst (λ (t : List (ℕ × Node)). Fits mid.height mid.down t) (sym p) (subst (λ (d : Option ℕ). Fits mid.height d (path_of old)) (sym down) (subst (λ (h : Option ℕ). Fits h old.down (path_of old)) (sym height) fits)) in
    let asks2 : AsksFor asked mid = record { down = ap (λ (d : Option ℕ). list_all asked (option_to_list d)) down ∙ asks.down; path = subst (λ (t : List (ℕ × Node)). Asked asked t) (sym p) asks.path } in
    let k = o.1 block read asked seen fits2 asks2 all e in
    record {
      after = seen ++ opening.at ∷ [];
      has = has;
      grows = λ none. ap (λ (t : List ℕ). seen ++ t) (one_page new event opening.at o.0 none);
      done = λ p e. over new (one_done new event opening.at p o.0 e);
      asks = k.0;
      fits = k.1;
      back = λ es l. subst (λ (t : List (ℕ × Node)). IsLeft block read seen old.height old.down t (event ∷ es)) p (subst (λ (d : Option ℕ). IsLeft block read seen old.height d (path_of mid) (event ∷ es)) down (subst (λ (h : Option ℕ). IsLeft block read seen h mid.down (path_of mid) (event ∷ es)) height (k.2 es l)));
    }

pub moves_none : (block : ℕ) (read : Places) (asked : ℕ → Bool) (seen : List ℕ) (old new : Cursor) (at : ℕ) (event : Event) → FitsIn old → old.down ≡ Some at → entered block read at seen ≡ None → IsDone new → event ≡ bad at → Moves block read asked seen old new (event ∷ [])
moves_none block read asked seen old new at event fits down e done is =
    let f : Fits old.height (Some at) (path_of old) = subst (λ (d : Option ℕ). Fits old.height d (path_of old)) down fits in
    let b : IsLeft block read seen old.height (Some at) (path_of old) (bad at ∷ []) = into_none block read seen old.height at (path_of old) f e in
    record {
      after = new.visited.places.keys;
      has = (λ test. refl, refl);
      grows = λ none. let k : Some at ≡ None = ap (λ (t : Event). first_bad (t ∷ [])) (sym is) ∙ none in absurd cc;
      done = λ p e. over new done;
      asks = done_asks asked new done;
      fits = done_fits new done;
      back = λ es l.
          let both : bad at ∷ [] ≡ event ∷ es = rw (is, done_left block read new.visited.places.keys new es done l) refl in
          subst (λ (d : Option ℕ). IsLeft block read seen old.height d (path_of old) (event ∷ es)) (sym down) (subst (λ (t : List Event). IsLeft block read seen old.height (Some at) (path_of old) t) both b);
    }

-- ---- one call after the other

pub moves_up : (block : ℕ) (read : Places) (asked : ℕ → Bool) (seen : List ℕ) (old new : Cursor) (given : List Event) → new.visited.places.keys ≡ old.visited.places.keys → HasPlaces old.visited.places.keys seen → FitsIn old → AsksFor asked old → HasNoPage given → Rises old new given → Moves block read asked seen old new given
moves_up block read asked seen old new given same has fits asks none r =
    let k = r block read asked seen fits asks in
    record {
      after = seen;
      has = subst (λ (t : List ℕ). HasPlaces t seen) (sym same) has;
      grows = λ f. sym (append-nil seen) ∙ ap (λ (t : List ℕ). seen ++ t) (sym none.0);
      done = λ p e. let f : ◌≡◌ {A = Option ℕ} None (Some p) = sym none.1 ∙ e in absurd cc;
      asks = k.0;
      fits = k.1;
      back = k.2;
    }

pub moves_on : (block : ℕ) (read : Places) (asked : ℕ → Bool) (seen : List ℕ) (a b c : Cursor) (given : List Event) → HasPlaces b.visited.places.keys seen → FitsIn a → AsksFor asked a → Rises a b [] → (AsksFor asked b → FitsIn b → Moves block read asked seen b c given) → Moves block read asked seen a c given
moves_on block read asked seen a b c given has fits asks r m =
    let k = r block read asked seen fits asks in
    let n = m k.0 k.1 in
    record { after = n.after; has = n.has; grows = n.grows; done = n.done; asks = n.asks; fits = n.fits; back = λ es l. k.2 (given ++ es) (n.back es l) }

-- a call that failed left the same
pub moves_same : (block : ℕ) (read : Places) (asked : ℕ → Bool) (seen : List ℕ) (old new : Cursor) → new.height ≡ old.height → new.down ≡ old.down → new.path.items ≡ old.path.items → new.visited.places.keys ≡ old.visited.places.keys → HasPlaces old.visited.places.keys seen → FitsIn old → AsksFor asked old
    → Moves block read asked seen old new []
moves_same block read asked seen old new height down path same has fits asks = moves_up block read asked seen old new [] same has fits asks (refl, refl) (rises_items old old new (rises_same old) height down path)

-- a cursor that went up may go on
pub risen_can : (place : Place) (v : View) (told : Option Holding) (cache : Caching) (seen : List ℕ) (old new : Cursor) → new.visited ≡ old.visited → CanGo place v told cache seen old → Rises old new [] → CanGo place v told cache seen new
risen_can place v told cache seen old new same k r =
    let n = r place.block_length (nodes_at place v) v.asked seen k.fits k.asks in
    record {
      goes = subst (λ t. GoesOn place v told cache t) (sym same) k.goes;
      has = subst (λ t. HasPlaces t.places.keys seen) (sym same) k.has;
      asks = n.0;
      fits = n.1;
    }

pub none_of : {A : Type 0} (o : Option A) → ((x : A) → o ≡ Some x → ⊥) → o ≡ None
none_of None f = refl
none_of (Some x) f = absurd (f x refl)

pub some_of : {A : Type 0} (o : Option A) → is_some o ≡ true → (x : A) × (o ≡ Some x)
some_of None e = absurd cc
some_of (Some x) e = (x, refl)

pub not_some : {A : Type 0} (o : Option A) → is_some o ≡ false → o ≡ None
not_some None e = refl
not_some (Some x) e = absurd cc

pub on_err : {T E : Type 0} (r : Result T E) (P : Type 0) → P → OnErr r P
on_err (Ok x) P p = tt
on_err (Err x) P p = p

-- ---- a run

pub goes_first : (place : Place) (v : View) (told : Option Holding) (cache : Caching) (c : Cursor) (shown : List Event → Type 0) → CanGo place v told cache [] c → shown [] → RunsOn place v told cache c c shown
goes_first place v told cache c shown k is = record { events = []; can = k; none = refl; pairs = is; back = λ es l. l }

pub goes_on : (place : Place) (v : View) (told next : Option Holding) (cache after : Caching) (old mid new : Cursor) (one two : List Event → Type 0) (given : List Event) → (g : RunsOn place v told cache old mid one) → Moves place.block_length (nodes_at place v) v.asked (pages_in g.events) mid new given
    → GoesOn place v next after new.visited → first_bad given ≡ None → (one g.events → two (g.events ++ given)) → RunsOn place v next after old new two
goes_on place v told next cache after old mid new one two given g m goes none more =
    let met : m.after ≡ pages_in (g.events ++ given) = m.grows none ∙ sym (pages-append g.events given) in
    record {
      events = g.events ++ given;
      can = record { goes = goes; has = subst (λ (t : List ℕ). HasPlaces new.visited.places.keys t) met m.has; asks = m.asks; fits = m.fits };
      none = none-append g.events given g.none none;
      pairs = more g.pairs;
      back = λ es l. subst (λ (t : List Event). Leaves place.block_length (nodes_at place v) [] old t) (sym (append_assoc g.events given es))
          (g.back (given ++ es) (m.back es (subst (λ (t : List ℕ). Leaves place.block_length (nodes_at place v) t new es) (sym met) l)));
    }

pub runs : (place : Place) (v : View) (told : Option Holding) (cache : Caching) (old mid new : Cursor) (shown : List Event → Type 0) → (g : RunsOn place v told cache old mid shown) → Moves place.block_length (nodes_at place v) v.asked (pages_in g.events) mid new [] → IsDone new → Runs place.block_length (nodes_at place v) old new shown
runs place v told cache old mid new shown g m done =
    let met : m.after ≡ pages_in g.events = m.grows refl ∙ append-nil (pages_in g.events) in
    record {
      events = g.events;
      left = subst (λ (t : List Event). Leaves place.block_length (nodes_at place v) [] old t) (append-nil g.events) (g.back [] (m.back [] (done_ends place.block_length (nodes_at place v) m.after new done)));
      met = subst (λ (t : List ℕ). HasPlaces new.visited.places.keys t) met m.has;
      none = g.none;
      pairs = g.pairs;
    }

last_bad : (es : List Event) (at : ℕ) → first_bad es ≡ None → first_bad (es ++ bad at ∷ []) ≡ Some at
last_bad [] at e = refl
last_bad (page p ∷ es) at e = last_bad es at e
last_bad (pair q p ∷ es) at e = last_bad es at e
last_bad (bad p ∷ es) at e = absurd cc

pub runs_into : (place : Place) (v : View) (told : Option Holding) (cache : Caching) (old mid new : Cursor) (shown : List Event → Type 0) (at : ℕ) → (g : RunsOn place v told cache old mid shown) → Moves place.block_length (nodes_at place v) v.asked (pages_in g.events) mid new (bad at ∷ []) → RunsInto place.block_length (nodes_at place v) old at
runs_into place v told cache old mid new shown at g m = record {
  events = g.events ++ bad at ∷ [];
  left = g.back (bad at ∷ []) (m.back [] (over_left place.block_length (nodes_at place v) m.after (walking_of new) (m.done at refl)));
  bad = last_bad g.events at g.none;
}
