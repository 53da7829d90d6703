-- In a file that has a list, no block that a row needs is found damaged.
use Rattle.std.proofs.Common.{◌≡◌, ℕ, ◌+◌, ◌-◌, inl, inr, Bool, true, false, List, [], ◌∷◌, ◌++◌, Option, Some, None, Result, Ok, Err, refl, sym, ap, subst, ◌∙◌, arith}
use Rattle.std.specs.Prelude.{nat_le, if◌then◌else◌}
use Rattle.std.specs.List.{AllByRecursion}
use Rattle.std.proofs.lemmas.Bool.{leb-true}
use Rattle.myi_frames.specs.declared.head.Head.{Head}
use Rattle.myi_frames.specs.Sizes.{least_size}
use Rattle.myi_dellist.specs.Areas.{Area}
use Rattle.myi_dellist.specs.Releasing.{hole_at}
use Rattle.myi_dellist.specs.Standing.{first_or, last_or, IsPart, HasList}
use Rattle.myi_dellist.specs.Freeing.{hole_in, block_named}
use Rattle.myi_dellist.specs.FreeList.{ListState, HasHoles}
use Rattle.myi_dellist.specs.Merging.{merge_in}
use Rattle.myi_dellist.specs.Taking.{MeetsBad}
use Rattle.myi_dellist.specs.Rows.{AreListedBehind}
use Rattle.myi_dellist.specs.Planning.{last_size, last_piece, with_rest, row_plan_in}
use Rattle.myi_dellist.specs.Putting.{PlanBad, PutBad}
use Rattle.myi_dellist.proofs.LinkLemmas.{part_split, part_join, all_split}
use Rattle.myi_dellist.proofs.MergeLemmas.{merge-finds}
use Rattle.myi_dellist.proofs.SeenLemmas.{first_of}
use Rattle.myi_dellist.proofs.PlanLemmas.{named_first}
use Rattle.myi_dellist.proofs.TakeLemmas.{IsNamed, named_block, first_join, last_join}
use Rattle.myi_dellist.proofs.PlanningLemmas.{IsLeft, not_same, rest_ok, row_filled, row_left}
use Rattle.myi_dellist.proofs.PutRowLemmas.{IsFront, front_of}

not_both : {T : Type 0} (r : Result T ℕ) (x : T) (p : ℕ) → r ≡ Ok x → r ≡ Err p → ⊥
not_both r x p e f = let two : Ok x ≡ Err p = sym e ∙ f in absurd cc

pub meets_none : (own : List Area) (d : List ℕ) (head : Option ℕ) (holes : List Area) (len at : ℕ) → head ≡ first_or holes None → HasList d holes → MeetsBad own d head len at → ⊥
meets_none own d head holes len at has list m =
    let f = front_of d None m.areas holes m.link (m.fills.first ∙ has) m.fills.linked list.linked in
    let part = (part_split d None None m.areas f.rest (subst (λ (hs : List Area). IsPart d None hs None) f.all list.linked)).1 in
    let named = ap (block_named (hole_in d) (last_or m.areas None)) (sym f.next) ∙ named_first d (last_or m.areas None) f.rest part in
    not_both (block_named (hole_in d) (last_or m.areas None) m.link) (first_of (last_or m.areas None) f.rest) at named m.bad

pub plans_none : (own : List Area) (d : List ℕ) (head : Option ℕ) (holes : List Area) (len at : ℕ) → head ≡ first_or holes None → HasList d holes → AreListedBehind holes holes d → PlanBad own d head len at → ⊥
plans_none own d head holes len at has list listed p = by_test (nat_le (least_size left + 20) h.size) refl
  where
    left : ℕ
    left = p.t.left

    h : Head
    h = p.hole

    a : Area
    a = record { at = p.hole.at; size = p.hole.size }

    zs : List Area
    zs = p.takes.areas ++ record { at = p.hole.at; size = p.hole.size } ∷ []

    n : IsNamed d (last_or p.takes.areas None) p.takes.link p.hole
    n = subst (λ (o : Option ℕ). IsNamed d o p.takes.link p.hole) p.takes.last (named_block d p.t.last p.takes.link p.hole (p.takes.names ∙ ap Ok p.next_is))

    f : IsFront (p.takes.areas ++ record { at = p.hole.at; size = p.hole.size } ∷ []) holes p.hole.next
    f = front_of d None zs holes p.hole.next (first_join p.takes.areas (a ∷ []) p.hole.next ∙ ap (first_or p.takes.areas) (sym n.link_is) ∙ p.takes.fills.first ∙ has)
        (part_join d None p.hole.next p.takes.areas (a ∷ []) (subst (IsPart d None p.takes.areas) n.link_is p.takes.fills.linked) (n.stands, tt)) list.linked

    named : block_named (hole_in d) (Some p.hole.at) p.hole.next ≡ Ok (first_of (Some p.hole.at) f.rest)
    named =
        let part = (part_split d None None zs f.rest (subst (λ (hs : List Area). IsPart d None hs None) f.all list.linked)).1 in
        ap (block_named (hole_in d) (Some p.hole.at)) (sym f.next) ∙ named_first d (Some p.hole.at) f.rest (subst (λ (o : Option ℕ). IsPart d o f.rest None) (last_join p.takes.areas a None) part)

    here : hole_at (p.hole.at + p.hole.size) holes ≡ None → hole_in d (p.hole.at + p.hole.size) ≡ None
    here =
        let P : Area → Type 0 = λ b. hole_at (b.at + b.size) holes ≡ None → hole_in d (b.at + b.size) ≡ None in
        (all_split P p.takes.areas (a ∷ []) (all_split P zs f.rest (subst (λ (hs : List Area). AllByRecursion P hs) f.all listed)).0).1.0

    by_test : (b : Bool) → nat_le (least_size left + 20) h.size ≡ b → ⊥
    by_test false t =
        let size : last_size left h.size ≡ h.size = ap (λ (c : Bool). if c then least_size left else h.size) t in
        not_both (row_plan_in d head p.ps left h) (record { next = first_of (Some h.at) f.rest; rest = None }) at (row_filled d head p.ps left h (first_of (Some h.at) f.rest) h.size (sym size) refl named) p.bad
    by_test true t =
        let le = leb-true _ _ t in
        let size : last_size left h.size ≡ least_size left = ap (λ (c : Bool). if c then least_size left else h.size) t in
        let qs = p.ps ++ last_piece left h ∷ [] in
        let next = first_of (Some h.at) f.rest in
        let i : IsLeft d head p.ps qs left h (least_size left) next = record { size_is = sym size; less = not_same (least_size left) h.size (λ same. omega (arith, le, same)); pieces = refl; named = named } in
        let s : Area = record { at = h.at + least_size left; size = h.size - least_size left } in
        let stop : h.at + h.size ≡ s.at + s.size = omega (arith, le) in
        let m = merge-finds d holes s list (subst (λ (q : ℕ). hole_at q holes ≡ None → hole_in d q ≡ None) stop here) in
        let found : merge_in (hole_in d) head s.at s.size ≡ Ok m.joined = ap (λ (o : Option ℕ). merge_in (hole_in d) o s.at s.size) has ∙ m.found in
        let r = rest_ok d head qs (record { at = s.at; size = s.size; last = h.at }) next m.joined found in
        not_both (row_plan_in d head p.ps left h) _ at (row_left d head p.ps qs left h (least_size left) next i ∙ ap (with_rest next) r) p.bad

pub never-bad : (l : ListState) (holes : List Area) (d : List ℕ) (len at : ℕ) → HasHoles l holes d → AreListedBehind holes holes d → PutBad d l.head len at → ⊥
never-bad l holes d len at has listed (inl m) = meets_none [] d l.head holes len at has.head has.list m
never-bad l holes d len at has listed (inr p) = plans_none [] d l.head holes len at has.head has.list listed p
