-- Where a list of pairs is cut for two pages.
use Rattle.std.proofs.Common.{◌≡◌, ◌⊎◌, ℕ, suc, ◌+◌, ◌-◌, ◌^◌, ◌<◌, ◌≤◌, Bool, true, not, eqb, ltb, Option, Some, List, [], ◌∷◌, ◌++◌, length, get_or, take, drop, append-nil, refl, sym, ap, subst, ◌∙◌, arith, inl, inr}
use Rattle.std.specs.Prelude.{IfSome, IfNone, None}
use Rattle.std.specs.List.{AllByRecursion}
use Rattle.std.proofs.Math.Seq.{drop-cons}
use Rattle.std.proofs.lemmas.Bool.{ne_eqb}
use Rattle.std.proofs.lemmas.List.{length-append, length-drop, length-take, take_all, drop_all, take-append-drop, drop-drop}
use Rattle.myi_keys.specs.Limits.{IsKey}
use Rattle.myi_keypage.specs.Page.{IsPlace}
use Rattle.myi_keylist.specs.declared.pair.Pair.{Pair}
use Rattle.myi_btree.specs.declared.place.Place.{Place}
use Rattle.myi_btree.specs.Walk.{node_with}
use Rattle.myi_btree.specs.Sizes.{IsPlaced}
use Rattle.myi_btree.specs.Building.{IsWritten}
use Rattle.myi_insertion.specs.Strips.{Branches}
use Rattle.myi_insertion.specs.Written.{CanWrite, IsCut, IsStripOf, AreSides}
use Rattle.myi_insertion.proofs.RoomLaws.{all_both}
use Rattle.myi_insertion.proofs.WriteLaws.{can_be_written, node_flag, front_written, rest_written, all_take, all_drop}

pub if_some : {A : Type 0} (o : Option A) (x : A) (P : A → Type 0) → o ≡ Some x → IfSome o P → P x
if_some {A = A} o x P e h = subst (λ (o : Option A). IfSome o P) e h

pub if_none : {A : Type 0} (o : Option A) (P : Type 0) → o ≡ None → IfNone o P → P
if_none {A = A} o P e h = subst (λ (o : Option A). IfNone o P) e h

flag_of : (ps : List Pair) (cs : List ℕ) → 0 < length cs → not (eqb (length cs) 0) ≡ true
flag_of ps cs some = ap not (ne_eqb (length cs) 0 (λ e. omega arith))

-- what goes on the first page, and what is left behind it and the pair that is set aside
pub record Halved (place : Place) (node : Bool) (left : List Pair) (children first others : List ℕ) (n : ℕ) : Type 0 where
  pub page : IsWritten place (node_with (take n left) first)
  pub can : CanWrite place.rec_ref (drop (suc n) left) others
  pub flag : node ≡ not (eqb (length others) 0)
  pub front_flag : node ≡ ltb 0 (length first)
  pub first_is : first ≡ take (suc n) children
  pub others_is : others ≡ drop (suc n) children

pub halved : (place : Place) (node : Bool) (left : List Pair) (children first others : List ℕ) (n : ℕ) → IsPlaced place → CanWrite place.rec_ref left children → node ≡ not (eqb (length children) 0) → IsCut place node left n → first ≡ take (n + 1) children → others ≡ drop (n + 1) children
    → Halved place node left children first others n
halved place node left children first others n placed can flag cut f o =
    let one : n + 1 ≡ suc n = omega arith in
    let f2 : first ≡ take (suc n) children = f ∙ ap (λ (k : ℕ). take k children) one in
    let o2 : others ≡ drop (suc n) children = o ∙ ap (λ (k : ℕ). drop k children) one in
    let front = front_written place.rec_ref n left children can cut.0 cut.1 in
    let rest = rest_written place.rec_ref n left children can cut.1 in
    let flags = by can.branches in
    record {
      page = subst (λ (cs : List ℕ). IsWritten place (node_with (take n left) cs)) (sym f2) (can_be_written place node (take n left) (take (suc n) children) placed front (flag ∙ flags.0) cut.2);
      can = subst (λ (cs : List ℕ). CanWrite place.rec_ref (drop (suc n) left) cs) (sym o2) rest;
      flag = flag ∙ flags.1 ∙ ap (λ (cs : List ℕ). not (eqb (length cs) 0)) (sym o2);
      front_flag = flag ∙ flags.0 ∙ sym (node_flag [] (take (suc n) children)) ∙ ap (λ (cs : List ℕ). ltb 0 (length cs)) (sym f2);
      first_is = f2;
      others_is = o2;
    }
  where
    by : Branches left children → (not (eqb (length children) 0) ≡ not (eqb (length (take (suc n) children)) 0)) × (not (eqb (length children) 0) ≡ not (eqb (length (drop (suc n) children)) 0))
    by (inl none) = (rw none refl, rw none refl)
    by (inr k) =
        let c = cut.1 in
        let a = flag_of left children (omega (arith, k)) in
        let b = flag_of left (take (suc n) children) (omega (arith, k, length-take (suc n) children)) in
        let d = flag_of left (drop (suc n) children) (omega (arith, k, length-drop (suc n) children)) in
        (a ∙ sym b, a ∙ sym d)

-- the pairs that are left: those of the page, the one that is set aside, and the others
pub set_aside : (pairs : List Pair) (start n : ℕ) (d : Pair) → n + 1 < length (drop start pairs) → drop start pairs ≡ take n (drop start pairs) ++ get_or pairs (start + n) d ∷ drop (start + (n + 1)) pairs
set_aside pairs start n d more =
    let lt : start + n < length pairs = omega (arith, length-drop start pairs) in
    let next : suc (start + n) ≡ start + (n + 1) = omega arith in
    sym (take-append-drop n (drop start pairs)) ∙ ap (λ (t : List Pair). take n (drop start pairs) ++ t) (drop-drop n start pairs ∙ drop-cons pairs (start + n) d lt ∙ ap (λ (k : ℕ). get_or pairs (start + n) d ∷ drop k pairs) next)

pub behind_it : {A : Type 0} (xs : List A) (start n : ℕ) → drop (suc n) (drop start xs) ≡ drop (start + (n + 1)) xs
behind_it xs start n = let e : start + suc n ≡ start + (n + 1) = omega arith in drop-drop (suc n) start xs ∙ ap (λ (k : ℕ). drop k xs) e

pub whole_buffer : (new items : List ℕ) (len : ℕ) → len ≡ length items → length new ≡ length items → length (take len (new ++ drop (length new) items)) ≡ length items
whole_buffer new items len e f =
    let none : drop (length new) items ≡ [] = drop_all (length new) items (omega arith) in
    ap length (ap (λ (t : List ℕ). take len (new ++ t)) none ∙ ap (take len) (append-nil new) ∙ take_all len new (omega arith)) ∙ f

-- a page more to the left
pub sides_more : (rec_ref first at q start n : ℕ) (places sp : List ℕ) (separators ss pairs : List Pair) (children : List ℕ) (d : Pair) → AreSides rec_ref first at places separators → IsPlace at → CanWrite rec_ref (drop start pairs) children → n + 1 < length (drop start pairs)
    → sp ≡ places ++ at ∷ [] → ss ≡ separators ++ get_or pairs (start + n) d ∷ [] → AreSides rec_ref first q sp ss
sides_more rec_ref first at q start n places sp separators ss pairs children d sides named can more is are =
    let aside : drop start pairs ≡ take n (drop start pairs) ++ get_or pairs (start + n) d ∷ drop (start + (n + 1)) pairs = set_aside pairs start n d more in
    let here : drop n (drop start pairs) ≡ get_or pairs (start + n) d ∷ drop (suc (start + n)) pairs = drop-drop n start pairs ∙ drop-cons pairs (start + n) d (omega (arith, length-drop start pairs)) in
    let row : AllByRecursion (λ (p : Pair). p.row < 256 ^ rec_ref) (get_or pairs (start + n) d ∷ drop (suc (start + n)) pairs) = subst (AllByRecursion (λ (p : Pair). p.row < 256 ^ rec_ref)) here (all_drop (λ (p : Pair). p.row < 256 ^ rec_ref) n (drop start pairs) can.rows) in
    let key : AllByRecursion (λ (p : Pair). IsKey p.key) (get_or pairs (start + n) d ∷ drop (suc (start + n)) pairs) = subst (AllByRecursion (λ (p : Pair). IsKey p.key)) here (all_drop (λ (p : Pair). IsKey p.key) n (drop start pairs) can.keys) in
    record {
      first_is = inr (by sides.first_is);
      count = omega (arith, ap length is, ap length are, length-append places (at ∷ []), length-append separators (get_or pairs (start + n) d ∷ []), sides.count);
      named = subst (AllByRecursion IsPlace) (sym is) (all_both IsPlace places (at ∷ []) sides.named (named, tt));
      rows = subst (AllByRecursion (λ (p : Pair). p.row < 256 ^ rec_ref)) (sym are) (all_both (λ (p : Pair). p.row < 256 ^ rec_ref) separators (get_or pairs (start + n) d ∷ []) sides.rows (row.0, tt));
      keys = subst (AllByRecursion (λ (p : Pair). IsKey p.key)) (sym are) (all_both (λ (p : Pair). IsKey p.key) separators (get_or pairs (start + n) d ∷ []) sides.keys (key.0, tt));
    }
  where
    by : ((places ≡ []) × (at ≡ first)) ⊎ ((others : List ℕ) × (places ≡ first ∷ others)) → (others : List ℕ) × (sp ≡ first ∷ others)
    by (inl none) = ([], is ∙ ap (λ (t : List ℕ). t ++ at ∷ []) none.0 ∙ ap (λ (k : ℕ). k ∷ []) none.1)
    by (inr some) = (some.0 ++ at ∷ [], is ∙ ap (λ (t : List ℕ). t ++ at ∷ []) some.1)

pub sides_end : (rec_ref first at : ℕ) (places sp : List ℕ) (separators : List Pair) → AreSides rec_ref first at places separators → IsPlace at → sp ≡ places ++ at ∷ [] → IsStripOf rec_ref first sp separators
sides_end rec_ref first at places sp separators sides named is = record {
  first = by sides.first_is;
  count = omega (arith, ap length is, length-append places (at ∷ []), sides.count);
  named = subst (AllByRecursion IsPlace) (sym is) (all_both IsPlace places (at ∷ []) sides.named (named, tt));
  rows = sides.rows;
  keys = sides.keys;
}
  where
    by : ((places ≡ []) × (at ≡ first)) ⊎ ((others : List ℕ) × (places ≡ first ∷ others)) → (others : List ℕ) × (sp ≡ first ∷ others)
    by (inl none) = ([], is ∙ ap (λ (t : List ℕ). t ++ at ∷ []) none.0 ∙ ap (λ (k : ℕ). k ∷ []) none.1)
    by (inr some) = (some.0 ++ at ∷ [], is ∙ ap (λ (t : List ℕ). t ++ at ∷ []) some.1)

pub sides_none : (rec_ref first : ℕ) (places : List ℕ) (separators : List Pair) → places ≡ [] → separators ≡ [] → AreSides rec_ref first first places separators
sides_none rec_ref first places separators p s = record {
  first_is = inl (p, refl);
  count = ap length p ∙ sym (ap length s);
  named = subst (AllByRecursion IsPlace) (sym p) tt;
  rows = subst (AllByRecursion (λ (p : Pair). p.row < 256 ^ rec_ref)) (sym s) tt;
  keys = subst (AllByRecursion (λ (p : Pair). IsKey p.key)) (sym s) tt;
}

-- ---- pages that grow

pub nil_of : {A : Type 0} (xs : List A) → length xs ≡ 0 → xs ≡ []
nil_of [] e = refl
nil_of (x ∷ xs) e = absurd (omega arith)

all_take_drop : {A : Type 0} (P : A → Type 0) (i : ℕ) (xs mid : List A) → AllByRecursion P xs → AllByRecursion P mid → AllByRecursion P ((take i xs ++ mid) ++ drop i xs)
all_take_drop P i xs mid all more = all_both P (take i xs ++ mid) (drop i xs) (all_both P (take i xs) mid (all_take P i xs all) more) (all_drop P i xs all)

length_with : {A : Type 0} (i j : ℕ) (xs mid : List A) → i ≤ length xs → length ((take i xs ++ mid) ++ drop j xs) ≡ i + length mid + (length xs - j)
length_with i j xs mid le = omega (arith, length-append (take i xs ++ mid) (drop j xs), length-append (take i xs) mid, length-take i xs, length-drop j xs)

pub pair_written : (rec_ref i : ℕ) (ps grown : List Pair) (cs gcs : List ℕ) (p : Pair) → CanWrite rec_ref ps cs → i ≤ length ps → p.row < 256 ^ rec_ref → IsKey p.key → grown ≡ (take i ps ++ p ∷ []) ++ drop i ps → gcs ≡ [] → CanWrite rec_ref grown gcs
pair_written rec_ref i ps grown cs gcs p can le row key is none = record {
  some = omega (arith, ap length is, length_with i i ps (p ∷ []) le);
  rows = subst (AllByRecursion (λ (p : Pair). p.row < 256 ^ rec_ref)) (sym is) (all_take_drop (λ (p : Pair). p.row < 256 ^ rec_ref) i ps (p ∷ []) can.rows (row, tt));
  keys = subst (AllByRecursion (λ (p : Pair). IsKey p.key)) (sym is) (all_take_drop (λ (p : Pair). IsKey p.key) i ps (p ∷ []) can.keys (key, tt));
  places = subst (AllByRecursion IsPlace) (sym none) tt;
  branches = inl none;
}

pub strip_written : (rec_ref i child : ℕ) (ps grown : List Pair) (cs gcs sp : List ℕ) (ss : List Pair) → CanWrite rec_ref ps cs → i ≤ length ps → 0 < length cs → IsStripOf rec_ref child sp ss → grown ≡ (take i ps ++ ss) ++ drop i ps → gcs ≡ (take i cs ++ sp) ++ drop (i + 1) cs → CanWrite rec_ref grown gcs
strip_written rec_ref i child ps grown cs gcs sp ss can le some strip is gis =
    let count : length cs ≡ suc (length ps) = by can.branches in
    record {
      some = omega (arith, ap length is, length_with i i ps ss le, can.some);
      rows = subst (AllByRecursion (λ (p : Pair). p.row < 256 ^ rec_ref)) (sym is) (all_take_drop (λ (p : Pair). p.row < 256 ^ rec_ref) i ps ss can.rows strip.rows);
      keys = subst (AllByRecursion (λ (p : Pair). IsKey p.key)) (sym is) (all_take_drop (λ (p : Pair). IsKey p.key) i ps ss can.keys strip.keys);
      places = subst (AllByRecursion IsPlace) (sym gis) (all_both IsPlace (take i cs ++ sp) (drop (i + 1) cs) (all_both IsPlace (take i cs) sp (all_take IsPlace i cs can.places) strip.named) (all_drop IsPlace (i + 1) cs can.places));
      branches = inr (omega (arith, ap length is, length_with i i ps ss le, ap length gis, length_with i (i + 1) cs sp (omega (arith, count)), count, strip.count));
    }
  where
    by : Branches ps cs → length cs ≡ suc (length ps)
    by (inl none) = absurd (omega (arith, ap length none))
    by (inr k) = k

-- the separators of several trees can be written above them
pub above_written : (rec_ref at : ℕ) (sp : List ℕ) (ss : List Pair) → IsStripOf rec_ref at sp ss → (length sp ≡ 1 → ⊥) → CanWrite rec_ref ss sp
above_written rec_ref at sp ss strip more = record { some = omega (arith, strip.count, more); rows = strip.rows; keys = strip.keys; places = strip.named; branches = inr strip.count }
