-- Areas that are released one after another: how they are planned.
use Rattle.std.proofs.Common.{◌≡◌, ℕ, ◌+◌, ◌<◌, ◌≤◌, Bool, List, [], ◌∷◌, ◌++◌, Option, Some, Result, Ok, Err, refl, sym, ap, ◌∙◌, arith, append_assoc}
use Rattle.std.specs.Prelude.{if◌then◌else◌}
use Rattle.std.proofs.lemmas.Bool.{lt-leb, le-leb}
use Rattle.myi_frames.specs.declared.head.Head.{Head}
use Rattle.myi_dellist.specs.declared.linked.ReleasePlan.{ReleasePlan}
use Rattle.myi_dellist.specs.declared.pieces.Piece.{Piece}
use Rattle.myi_dellist.specs.declared.several.Part.{Part}
use Rattle.myi_dellist.specs.Areas.{Area}
use Rattle.myi_dellist.specs.Releasing.{most_size, front_part, back_part}
use Rattle.myi_dellist.specs.Placing.{area_of}
use Rattle.myi_dellist.specs.Freeing.{hole_in, plan_in}
use Rattle.myi_dellist.specs.Heads.{over}
use Rattle.myi_dellist.proofs.HeadsLemmas.{over-append}
use Rattle.myi_dellist.specs.Several.{hide, plan_heads, with_heads, heads_by, next_of, heads_in, added_by, added_in, parts_of, PlansPart}
use Rattle.myi_dellist.specs.Planning.{alone_by}
use Rattle.myi_dellist.specs.Freed.{part_area, parts_in}

-- ---- long areas as two

parts_append : (xs ys : List Part) → parts_in (xs ++ ys) ≡ parts_in xs ++ parts_in ys
parts_append [] ys = refl
parts_append (x ∷ xs) ys = ap (λ (bs : List Area). part_area x ∷ bs) (parts_append xs ys)

short_parts : (a : Area) → a.size ≤ most_size → parts_of a ≡ a ∷ []
short_parts a le = ap (λ (b : Bool). if b then a ∷ [] else back_part a ∷ front_part a ∷ []) (le-leb _ _ le)

long_parts : (a : Area) → most_size < a.size → parts_of a ≡ back_part a ∷ front_part a ∷ []
long_parts a lt = ap (λ (b : Bool). if b then a ∷ [] else back_part a ∷ front_part a ∷ []) (lt-leb _ _ lt)

pub push-short : (ps qs : List Part) (p : Piece) → p.size ≤ most_size → qs ≡ ps ++ record { at = p.at; size = p.size } ∷ [] → parts_in qs ≡ parts_in ps ++ parts_of (area_of p)
push-short ps qs p le are = ap parts_in are ∙ parts_append ps (record { at = p.at; size = p.size } ∷ []) ∙ ap (λ (bs : List Area). parts_in ps ++ bs) (sym (short_parts (area_of p) le))

pub push-long : (ps qs rs : List Part) (p : Piece) (back front : Part) → most_size < p.size → part_area back ≡ back_part (area_of p) → part_area front ≡ front_part (area_of p) → qs ≡ ps ++ back ∷ [] → rs ≡ qs ++ front ∷ [] → parts_in rs ≡ parts_in ps ++ parts_of (area_of p)
push-long ps qs rs p back front lt b f are more =
    ap parts_in more ∙ parts_append qs (front ∷ []) ∙ ap (λ (xs : List Part). parts_in xs ++ part_area front ∷ []) are ∙ ap (λ (bs : List Area). bs ++ part_area front ∷ []) (parts_append ps (back ∷ []))
    ∙ append_assoc (parts_in ps) (part_area back ∷ []) (part_area front ∷ [])
    ∙ ap (λ (x : Area). parts_in ps ++ x ∷ part_area front ∷ []) b ∙ ap (λ (x : Area). parts_in ps ++ back_part (area_of p) ∷ x ∷ []) f
    ∙ ap (λ (bs : List Area). parts_in ps ++ bs) (sym (long_parts (area_of p) lt))

-- ---- planned one after the other

heads_append : (xs ys : List Head) (r : Result (List Head) ℕ) → with_heads (xs ++ ys) r ≡ with_heads xs (with_heads ys r)
heads_append xs ys (Ok zs) = ap (λ (hs : List Head). Ok hs) (append_assoc xs ys zs)
heads_append xs ys (Err p) = refl

pub plans-next : (d : List ℕ) (head : Option ℕ) (left behind : List Part) (p : Part) (hidden : Option ℕ) (hs more : List Head) (added : ℕ) (all : Result (List Head) ℕ) → left ≡ p ∷ behind → hidden ≡ next_of (parts_in behind) → PlansPart d head (part_area p) hidden hs more added → with_heads hs (heads_in (over hs (hole_in d)) head (parts_in left)) ≡ all → with_heads more (heads_in (over more (hole_in d)) (Some p.at) (parts_in behind)) ≡ all
plans-next d head left behind p hidden hs more added all is next plans so_far =
    let a = part_area p in
    let s = hole_in d in
    let new = plan_heads a plans.plan in
    let areas = parts_in behind in
    let found : plan_in (hide (next_of areas) (over hs s)) head a.at a.size ≡ Ok plans.plan = ap (λ (o : Option ℕ). plan_in (hide o (over hs s)) head a.at a.size) (sym next) ∙ plans.found in
    ap (λ (xs : List Head). with_heads xs (heads_in (over xs s) (Some p.at) areas)) plans.heads_are
    ∙ heads_append hs new (heads_in (over (hs ++ new) s) (Some p.at) areas)
    ∙ ap (λ (t : ℕ → Option Head). with_heads hs (with_heads new (heads_in t (Some p.at) areas))) (over-append hs new s)
    ∙ ap (λ (r : Result ReleasePlan ℕ). with_heads hs (heads_by a (λ xs. heads_in (over xs (over hs s)) (Some p.at) areas) r)) (sym found)
    ∙ ap (λ (xs : List Part). with_heads hs (heads_in (over hs s) head (parts_in xs))) (sym is) ∙ so_far

pub adds-next : (d : List ℕ) (head : Option ℕ) (left behind : List Part) (p : Part) (hidden : Option ℕ) (hs more : List Head) (added n all : ℕ) → left ≡ p ∷ behind → hidden ≡ next_of (parts_in behind) → PlansPart d head (part_area p) hidden hs more added → n + added_in (over hs (hole_in d)) head (parts_in left) ≡ all → n + added + added_in (over more (hole_in d)) (Some p.at) (parts_in behind) ≡ all
adds-next d head left behind p hidden hs more added n all is next plans so_far =
    let s = hole_in d in
    let a = part_area p in
    let new = plan_heads a plans.plan in
    let areas = parts_in behind in
    let found : plan_in (hide (next_of areas) (over hs s)) head a.at a.size ≡ Ok plans.plan = ap (λ (o : Option ℕ). plan_in (hide o (over hs s)) head a.at a.size) (sym next) ∙ plans.found in
    let first : added_in (over hs s) head (parts_in left) ≡ added_in (over hs s) head (a ∷ areas) = ap (λ (xs : List Part). added_in (over hs s) head (parts_in xs)) is in
    let one : added_in (over hs s) head (a ∷ areas) ≡ alone_by plans.plan.joined + added_in (over new (over hs s)) (Some p.at) areas = ap (added_by a (λ xs. added_in (over xs (over hs s)) (Some p.at) areas)) found in
    let rest : added_in (over more s) (Some p.at) areas ≡ added_in (over new (over hs s)) (Some p.at) areas = ap (λ (xs : List Head). added_in (over xs s) (Some p.at) areas) plans.heads_are ∙ ap (λ (t : ℕ → Option Head). added_in t (Some p.at) areas) (over-append hs new s) in
    omega (arith, so_far, first, one, rest, plans.added_is)
