-- Pages that are filled, and those that still stand or of which no fewer bytes are used: how this goes on through changes.
use Rattle.std.proofs.Common.{◌≡◌, ◌⊎◌, ℕ, zero, suc, ◌+◌, ◌*◌, ◌/◌, ◌<◌, ◌≤◌, Bool, not, eqb, ltb, Some, List, [], ◌∷◌, ◌++◌, length, take, drop, refl, sym, ap, subst, ◌∙◌, arith, inl, inr}
use Rattle.std.specs.List.{AllByRecursion, Contains}
use Rattle.std.proofs.lemmas.Option.{same_Some}
use Rattle.std.proofs.lemmas.List.Elements.{Contains-append_left, Contains-append_right, Contains-append_cases}
use Rattle.myi_keylist.specs.declared.pair.Pair.{Pair}
use Rattle.myi_btree.specs.declared.place.Place.{Place}
use Rattle.myi_btree.specs.Walk.{Places, Node, node_with, walk_of}
use Rattle.myi_btree.specs.Nodes.{entry_of, entries_of}
use Rattle.myi_keypage.specs.Fitting.{used_length}
use Rattle.myi_insertion.specs.Strips.{contents, weave, StandFor}
use Rattle.myi_insertion.specs.Covers.{StillStands}
use Rattle.myi_insertion.specs.Filled.{TakeAtMost, used_by, IsFilled, LosesNone, StaysFilled, below_root}
use Rattle.myi_insertion.specs.Halves.{UseHalf, IsHalf, IsLaid, IsKept, IsAlone, IsLone}
use Rattle.myi_insertion.proofs.FrameLaws.{all_left, all_right}
use Rattle.myi_insertion.proofs.StripLaws.{each_length, length-contents}
use Rattle.myi_insertion.proofs.WriteLaws.{node_flag, all_drop}
use Rattle.myi_insertion.proofs.HalfLaws.{PartsUse, grown_used}

weave_all : (P : Pair → Type 0) (cs : List (List Pair)) (ps : List Pair) → length cs ≡ suc (length ps) → AllByRecursion P (weave cs ps) → AllByRecursion P ps
weave_all P [] ps e all = absurd (omega arith)
weave_all P (c ∷ cs) [] e all = tt
weave_all P (c ∷ cs) (p ∷ ps) e all = let r : AllByRecursion P (p ∷ weave cs ps) = all_right P c (p ∷ weave cs ps) all in (r.0, weave_all P cs ps (omega arith) r.1)

-- what holds of all pairs of a tree does of those of its page
pub all_pairs : (P : Pair → Type 0) (read : Places) (h : ℕ) (ps : List Pair) (cs : List ℕ) (xs : List Pair) (pages : List ℕ) → StandFor read h ps cs xs pages → AllByRecursion P xs → AllByRecursion P ps
all_pairs P read zero ps cs xs pages m all = subst (AllByRecursion P) m.1 all
all_pairs P read (suc h) ps cs xs pages m all = weave_all P (contents m.walks) ps (omega (arith, length-contents m.walks, each_length (walk_of read h) cs m.walks m.are, m.count)) (subst (AllByRecursion P) (sym m.content_is) all)

-- ---- what goes on

pub half_on : (place : Place) (xs : List Pair) (mid new : Places) (p : ℕ) → IsHalf place xs mid p → StillStands mid new p → IsHalf place xs new p
half_on place xs mid new p half still = λ most all. let k = half most all in (k.0, still k.0 k.1, k.2)

pub still_on : (old mid new : Places) (p : ℕ) → StillStands old mid p → StillStands mid new p → StillStands old new p
still_on old mid new p one two = λ node e. two node (one node e)

pub still_loses : (place : Place) (old new : Places) (p : ℕ) → StillStands old new p → LosesNone place old new p
still_loses place old new p still = λ was e. (was, still was e, omega arith)

pub loses_on : (place : Place) (old mid new : Places) (p : ℕ) → LosesNone place old mid p → StillStands mid new p → LosesNone place old new p
loses_on place old mid new p loses still = λ was e. let k = loses was e in (k.0, still k.0 k.1, k.2)

pub loses_from : (place : Place) (old mid new : Places) (p : ℕ) → StillStands old mid p → LosesNone place mid new p → LosesNone place old new p
loses_from place old mid new p still loses = λ was e. loses was (still was e)

pub laid_on : (place : Place) (xs : List Pair) (old mid new : Places) (pages : List ℕ) (p : ℕ) → IsLaid place xs old mid pages p → StillStands mid new p → IsLaid place xs old new pages p
laid_on place xs old mid new pages p (inl half) still = inl (half_on place xs mid new p half still)
laid_on place xs old mid new pages p (inr h) still = inr (h.0, still_on old mid new p h.1 still)

pub kept_on : (place : Place) (xs : List Pair) (old mid new : Places) (pages : List ℕ) (p : ℕ) → IsKept place xs old mid pages p → StillStands mid new p → IsKept place xs old new pages p
kept_on place xs old mid new pages p (inl half) still = inl (half_on place xs mid new p half still)
kept_on place xs old mid new pages p (inr h) still = inr (h.0, loses_on place old mid new p h.1 still)

pub kept_from : (place : Place) (xs : List Pair) (old mid new : Places) (pages : List ℕ) (p : ℕ) → StillStands old mid p → IsKept place xs mid new pages p → IsKept place xs old new pages p
kept_from place xs old mid new pages p still (inl half) = inl half
kept_from place xs old mid new pages p still (inr h) = inr (h.0, loses_from place old mid new p still h.1)

pub lone_from : (place : Place) (old mid new : Places) (at : ℕ) (places : List ℕ) (p : ℕ) → StillStands old mid at → IsLone place mid new at places p → IsLone place old new at places p
lone_from place old mid new at places p still l = record { is = l.is; alone = l.alone; more = loses_from place old mid new at still l.more }

-- a page that uses half of its bytes stands at a place
pub half_there : (place : Place) (xs ps : List Pair) (cs : List ℕ) (new : Places) (at p : ℕ) → UseHalf place (ltb 0 (length cs)) xs ps → new at ≡ Some (node_with ps cs) → p ≡ at → IsHalf place xs new p
half_there place xs ps cs new at p half there is = λ most all. (node_with ps cs, ap new is ∙ there, half most all)

pub below_in : (pages : List ℕ) (q : ℕ) → Contains (below_root pages) q → Contains pages q
below_in [] q here = here
below_in (p ∷ ps) q here = Contains-append_right (p ∷ []) ps q here

-- a page with pairs put in
pub grown_loses : PartsUse → (place : Place) (old new : Places) (at i : ℕ) (ps mid grown : List Pair) (cs gcs : List ℕ) → old at ≡ Some (node_with ps cs) → new at ≡ Some (node_with grown gcs) → grown ≡ (take i ps ++ mid) ++ drop i ps → ltb 0 (length cs) ≡ ltb 0 (length gcs) → LosesNone place old new at
grown_loses parts place old new at i ps mid grown cs gcs there now is flags = λ was e.
    let used : used_by place (node_with ps cs) ≤ used_by place (node_with grown gcs) =
    subst (λ (b : Bool). used_length place.rec_ref (ltb 0 (length cs)) (entries_of ps) ≤ used_length place.rec_ref b (entries_of grown)) flags (grown_used parts place (ltb 0 (length cs)) i ps mid grown is) in
    (node_with grown gcs, now, subst (λ (n : Node). used_by place n ≤ used_by place (node_with grown gcs)) (same_Some (node_with ps cs) was (sym there ∙ e)) used)

-- the pages below a page, of which one tree became others
pub below_kept : (place : Place) (xs ys : List Pair) (read after : Places) (at child : ℕ) (ws vs a b b2 c sp : List ℕ) → ws ≡ at ∷ ((a ++ b) ++ c) → vs ≡ b → Contains vs child → ((most : ℕ) → TakeAtMost place most xs → TakeAtMost place most ys)
    → ((q : ℕ) → Contains a q → StillStands read after q) → ((q : ℕ) → Contains c q → StillStands read after q) → ((q : ℕ) → Contains b2 q → IsKept place ys read after (below_root vs) q ⊎ IsLone place read after child sp q)
    → (q : ℕ) → Contains ((a ++ b2) ++ c) q → IsKept place xs read after (below_root ws) q
below_kept place xs ys read after at child ws vs a b b2 c sp whole own root takes left right kept q here =
    subst (λ (t : List ℕ). IsKept place xs read after (below_root t) q) (sym whole) (elim (Contains-append_cases (a ++ b2) c q here) [
      | inr r ↦ inr (Contains-append_right (a ++ b) c q r, still_loses place read after q (right q r))
      | inl ab ↦ elim (Contains-append_cases a b2 q ab) [
        | inl l ↦ inr (Contains-append_left (a ++ b) c q (Contains-append_left a b q l), still_loses place read after q (left q l))
        | inr mine ↦ elim (kept q mine) [
          | inl (inl half) ↦ inl (λ most all. half most (takes most all))
          | inl (inr k) ↦ inr (among q (below_in vs q k.0), k.1)
          | inr l ↦ inr (subst (λ (n : ℕ). Contains ((a ++ b) ++ c) n) (sym l.is) (among child root), subst (λ (n : ℕ). LosesNone place read after n) (sym l.is) l.more)
        ]
      ]
    ])
  where
    among : (n : ℕ) → Contains vs n → Contains ((a ++ b) ++ c) n
    among n h = Contains-append_left (a ++ b) c n (Contains-append_right a b n (subst (λ (t : List ℕ). Contains t n) own h))

pub filled_on : (place : Place) (most : ℕ) (old new : Places) (pages : List ℕ) (at : ℕ) → StaysFilled place most old new pages at → (Contains pages at → IsFilled place most old at) → IsFilled place most new at
filled_on place most old new pages at (inl half) was = half
filled_on place most old new pages at (inr k) was =
    let f = was k.0 in
    let l = k.1 f.0 f.1 in
    (l.0, l.1, omega (arith, f.2, l.2))

-- ---- writing pairs on pages

pub half_behind : (place : Place) (node : Bool) (start : ℕ) (pairs some rest : List Pair) → some ≡ rest → UseHalf place node (drop start pairs) some → UseHalf place node pairs rest
half_behind place node start pairs some rest is half = λ most all.
    let P : Pair → Type 0 = λ (p : Pair). length (entry_of p).key + 13 + place.rec_ref ≤ most in
    subst (λ (t : List Pair). place.block_length / 2 ≤ used_length place.rec_ref node (entries_of t) + 2 * most) is (half most (all_drop P start pairs all))

-- what the last page has: all pairs, or at least half a page
pub last_page : (place : Place) (read : Places) (height : ℕ) (ps : List Pair) (cs : List ℕ) (xs : List Pair) (below : List ℕ) (node : Bool) (start : ℕ) (children places sp : List ℕ) (at first : ℕ) → StandFor read height ps cs xs below
    → ((places ≡ []) × (start ≡ 0) × (children ≡ cs)) ⊎ UseHalf place node ps (drop start ps) → ((places ≡ []) × (at ≡ first)) ⊎ ((others : List ℕ) × (places ≡ first ∷ others)) → sp ≡ places ++ at ∷ [] → node ≡ not (eqb (length children) 0)
    → ((sp ≡ first ∷ []) × (at ≡ first) × (node_with (drop start ps) children ≡ node_with ps cs)) ⊎ UseHalf place (ltb 0 (length children)) xs (drop start ps)
last_page place read height ps cs xs below node start children places sp at first stand (inl all) (inl same) is flag =
    inl (is ∙ ap (λ (t : List ℕ). t ++ at ∷ []) all.0 ∙ ap (λ (n : ℕ). n ∷ []) same.1, same.1, ap (λ (n : ℕ). node_with (drop n ps) children) all.1 ∙ ap (λ (t : List ℕ). node_with ps t) all.2)
last_page place read height ps cs xs below node start children places sp at first stand (inl all) (inr some) is flag = absurd (omega (arith, ap length all.0, ap length some.1))
last_page place read height ps cs xs below node start children places sp at first stand (inr half) sides is flag =
    inr (λ most all.
    let P : Pair → Type 0 = λ (p : Pair). length (entry_of p).key + 13 + place.rec_ref ≤ most in
    let k = half most (all_pairs P read height ps cs xs below stand all) in
    subst (λ (b : Bool). place.block_length / 2 ≤ used_length place.rec_ref b (entries_of (drop start ps)) + 2 * most) (flag ∙ sym (node_flag [] children)) k)
