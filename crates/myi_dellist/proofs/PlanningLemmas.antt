-- What is found for a row's last block and what it leaves over.
use Rattle.std.proofs.Common.{◌≡◌, ℕ, ◌+◌, ◌-◌, ◌%◌, ◌^◌, ◌<◌, ◌≤◌, ◌⊎◌, inl, inr, Bool, true, false, List, [], ◌∷◌, ◌++◌, Option, Some, None, Ok, Err, refl, sym, ap, subst, ◌∙◌, arith}
use Rattle.std.specs.Prelude.{◌==◌, nat_le, if◌then◌else◌, IfSome}
use Rattle.std.specs.Option.{option_map}
use Rattle.std.proofs.lemmas.Bool.{leb-true, leb-false, eqb-true, eq-eqb}
use Rattle.myi_frames.specs.declared.head.Head.{Head}
use Rattle.myi_frames.specs.Block.{IsPlace}
use Rattle.myi_frames.specs.Sizes.{least_size}
use Rattle.myi_frames.proofs.CallerLemmas.{least-sized}
use Rattle.myi_dellist.specs.declared.linked.Linked.{Linked}
use Rattle.myi_dellist.specs.declared.pieces.Piece.{Piece}
use Rattle.myi_dellist.specs.declared.planning.Spare.{Spare}
use Rattle.myi_dellist.specs.declared.planning.RestPlan.{RestPlan}
use Rattle.myi_dellist.specs.Releasing.{most_size}
use Rattle.myi_dellist.specs.Placing.{fits}
use Rattle.myi_dellist.specs.Freeing.{hole_in, same_link, block_named, without_prev, next_past, IsHoleIn, AreHolesIn, IsPlanIn, IsLinkable, AreLinkable}
use Rattle.myi_dellist.specs.Merging.{merge_in}
use Rattle.myi_dellist.specs.Planning.{is_taken, past_taken, link_past, first_by, first_past, rest_plan, rest_by, rest_in, last_size, last_piece, spare_of, with_rest, if_left, row_plan_by, row_plan_in, IsRestIn, IsReleasable}
use Rattle.myi_dellist.proofs.SizeLemmas.{does-fit}

pub rest_ok : (d : List ℕ) (head : Option ℕ) (ps : List Piece) (s : Spare) (next : Option Head) (j : Option Linked) → merge_in (hole_in d) head s.at s.size ≡ Ok j → rest_in d head ps s next ≡ Ok (record { at = s.at; size = s.size; plan = rest_plan ps s.last next j })
unfolding rest_in
rest_ok d head ps s next j e = ap (rest_by ps s next) e

pub rest_err : (d : List ℕ) (head : Option ℕ) (ps : List Piece) (s : Spare) (next : Option Head) (p : ℕ) → merge_in (hole_in d) head s.at s.size ≡ Err p → rest_in d head ps s next ≡ Err p
unfolding rest_in
rest_err d head ps s next p e = ap (rest_by ps s next) e

pub row_err : (d : List ℕ) (head : Option ℕ) (ps : List Piece) (left : ℕ) (h : Head) (p : ℕ) → block_named (hole_in d) (Some h.at) h.next ≡ Err p → row_plan_in d head ps left h ≡ Err p
unfolding row_plan_in
row_err d head ps left h p e = ap (row_plan_by d head ps left h) e

pub row_filled : (d : List ℕ) (head : Option ℕ) (ps : List Piece) (left : ℕ) (h : Head) (next : Option Head) (size : ℕ) → size ≡ last_size left h.size → size ≡ h.size → block_named (hole_in d) (Some h.at) h.next ≡ Ok next → row_plan_in d head ps left h ≡ Ok (record { next = next; rest = None })
unfolding row_plan_in
row_filled d head ps left h next size is same e =
    ap (row_plan_by d head ps left h) e
    ∙ ap (λ (b : Bool). if_left b next (rest_in d head (ps ++ last_piece left h ∷ []) (spare_of left h) next)) (eq-eqb (last_size left h.size) h.size (sym is ∙ same))

-- what is planned for what is left over
pub record IsLeft (d : List ℕ) (head : Option ℕ) (ps qs : List Piece) (left : ℕ) (h : Head) (size : ℕ) (next : Option Head) : Type 0 where
  pub size_is : size ≡ last_size left h.size
  pub less : (size == h.size) ≡ false
  pub pieces : qs ≡ ps ++ last_piece left h ∷ []
  pub named : block_named (hole_in d) (Some h.at) h.next ≡ Ok next

pub row_left : (d : List ℕ) (head : Option ℕ) (ps qs : List Piece) (left : ℕ) (h : Head) (size : ℕ) (next : Option Head) → IsLeft d head ps qs left h size next → row_plan_in d head ps left h ≡ with_rest next (rest_in d head qs (record { at = h.at + size; size = h.size - size; last = h.at }) next)
unfolding row_plan_in
row_left d head ps qs left h size next i =
    ap (row_plan_by d head ps left h) i.named
    ∙ ap (λ (b : Bool). if_left b next (rest_in d head (ps ++ last_piece left h ∷ []) (spare_of left h) next)) (ap (λ (n : ℕ). n == h.size) (sym i.size_is) ∙ i.less)
    ∙ ap (λ (xs : List Piece). with_rest next (rest_in d head xs (spare_of left h) next)) (sym i.pieces)
    ∙ ap (λ (n : ℕ). with_rest next (rest_in d head qs (record { at = h.at + n; size = h.size - n; last = h.at }) next)) (sym i.size_is)

pub row_rest : (d : List ℕ) (head : Option ℕ) (ps qs : List Piece) (left : ℕ) (h : Head) (size : ℕ) (next : Option Head) (r : RestPlan) → IsLeft d head ps qs left h size next → rest_in d head qs (record { at = h.at + size; size = h.size - size; last = h.at }) next ≡ Ok r → row_plan_in d head ps left h ≡ Ok (record { next = next; rest = Some r })
row_rest d head ps qs left h size next r i e = row_left d head ps qs left h size next i ∙ ap (with_rest next) e

pub row_rest_err : (d : List ℕ) (head : Option ℕ) (ps qs : List Piece) (left : ℕ) (h : Head) (size : ℕ) (next : Option Head) (p : ℕ) → IsLeft d head ps qs left h size next → rest_in d head qs (record { at = h.at + size; size = h.size - size; last = h.at }) next ≡ Err p → row_plan_in d head ps left h ≡ Err p
row_rest_err d head ps qs left h size next p i e = row_left d head ps qs left h size next i ∙ ap (with_rest next) e

-- ---- sizes

pub not_same : (n m : ℕ) → (n ≡ m → ⊥) → (n == m) ≡ false
not_same n m differ = by_test (n == m) refl
  where
    by_test : (b : Bool) → (n == m) ≡ b → b ≡ false
    by_test true e = absurd (differ (eqb-true _ _ e))
    by_test false e = refl

pub record IsCut (left size : ℕ) (h : Head) : Type 0 where
  pub multiple : size % 4 ≡ 0
  pub least : 20 ≤ size
  pub whole : size ≤ h.size
  pub fits_in : least_size left ≤ size
  pub close : size < least_size left + 20
  pub few : left < 2 ^ 24
  pub rest : (size ≡ h.size) ⊎ (size + 20 ≤ h.size)

pub last_cut : (left end : ℕ) (h : Head) → IsHoleIn end h → fits left h.size ≡ true → IsCut left (last_size left h.size) h
last_cut left end h i e = by_test (nat_le (least_size left + 20) h.size) refl
  where
    by_test : (b : Bool) → nat_le (least_size left + 20) h.size ≡ b → IsCut left (if b then least_size left else h.size) h
    by_test true t =
        let s = least-sized left in
        let f = does-fit left h.size e in
        let le = leb-true _ _ t in
        record { multiple = s.multiple; least = s.least; whole = f.1; fits_in = omega arith; close = omega arith; few = f.0; rest = inr le }
    by_test false t =
        let f = does-fit left h.size e in
        record { multiple = i.place.multiple; least = i.place.least; whole = omega arith; fits_in = f.1; close = omega (arith, leb-false _ _ t); few = f.0; rest = inl refl }

pub spare_place : (left end size : ℕ) (h : Head) → IsHoleIn end h → fits left h.size ≡ true → size ≡ last_size left h.size → (size == h.size) ≡ false → IsPlace (h.at + size) (h.size - size) end × (h.size - size ≤ most_size)
spare_place left end size h i e is less =
    let c : IsCut left size h = subst (λ (n : ℕ). IsCut left n h) (sym is) (last_cut left end h i e) in
    by_rest c c.rest
  where
    by_rest : IsCut left size h → (size ≡ h.size) ⊎ (size + 20 ≤ h.size) → IsPlace (h.at + size) (h.size - size) end × (h.size - size ≤ most_size)
    by_rest c (inl same) = let no : true ≡ false = sym (eq-eqb size h.size same) ∙ less in absurd cc
    by_rest c (inr le) = (
      record { aligned = omega (arith, i.place.aligned, c.multiple); multiple = omega (arith, i.place.multiple, c.multiple, le); least = omega (arith, le); inside = omega (arith, i.place.inside, le) },
      omega (arith, i.most, i.place.multiple, c.multiple),
    )

-- ---- what is found can be written

no_prev : (end : ℕ) (h : Head) → IsHoleIn end h → IsHoleIn end (record h { prev = None })
no_prev end h i = record { at = refl; place = i.place; most = i.most; next = i.next; prev = tt }

without_in : (end : ℕ) (o : Option Head) → IfSome o (IsHoleIn end) → IfSome (without_prev o) (IsHoleIn end)
without_in end None i = tt
without_in end (Some h) i = no_prev end h i

past_in : (end last : ℕ) (h : Head) → IsHoleIn end h → IsHoleIn end (past_taken last h)
past_in end last h i = by_test (same_link h.prev (Some last))
  where
    by_test : (b : Bool) → IsHoleIn end (if b then record h { prev = None } else h)
    by_test true = no_prev end h i
    by_test false = i

past_size : (last : ℕ) (h : Head) → (past_taken last h).size ≡ h.size
past_size last h = by_test (same_link h.prev (Some last))
  where
    by_test : (b : Bool) → (if b then record h { prev = None } else h).size ≡ h.size
    by_test true = refl
    by_test false = refl

map_in : (end last : ℕ) (o : Option Head) → IfSome o (IsHoleIn end) → IfSome (option_map (past_taken last) o) (IsHoleIn end)
map_in end last None i = tt
map_in end last (Some h) i = past_in end last h i

link_in : (end last : ℕ) (l : Linked) → AreHolesIn end l → AreHolesIn end (link_past last l)
link_in end last l a = record { before = by_test (same_link l.hole.prev (Some last)); hole = past_in end last l.hole a.hole; behind = a.behind }
  where
    by_test : (b : Bool) → IfSome (if b then None else option_map (past_taken last) l.before) (IsHoleIn end)
    by_test true = tt
    by_test false = map_in end last l.before a.before

next_in : (end : ℕ) (b hole : Head) (o : Option Head) → IsHoleIn end hole → IfSome o (IsHoleIn end) → IfSome (next_past b hole o) (IsHoleIn end)
next_in end b hole None h i = tt
next_in end b hole (Some f) h i = by_test (f.at == b.at)
  where
    by_test : (t : Bool) → IfSome (if t then Some (record f { next = hole.next }) else Some f) (IsHoleIn end)
    by_test true = record { at = refl; place = i.place; most = i.most; next = h.next; prev = i.prev }
    by_test false = i

first_in : (end : ℕ) (next : Option Head) (l : Linked) (o : Option Head) → IfSome next (IsHoleIn end) → AreHolesIn end l → IfSome (first_by next l o) (IsHoleIn end)
first_in end next l None i a = without_in end l.behind a.behind
first_in end next l (Some b) i a = next_in end b l.hole (without_prev next) a.hole (without_in end next i)

pub rest_holes : (end size : ℕ) (ps : List Piece) (last : ℕ) (next : Option Head) (j : Option Linked) → IfSome next (IsHoleIn end) → IfSome j (AreHolesIn end) → IfSome j (λ l. size + l.hole.size ≤ most_size) → IsPlanIn end size (rest_plan ps last next j)
rest_holes end size ps last next None i a s = record { joined = tt; short = tt; first = without_in end next i }
rest_holes end size ps last next (Some l) i a s = by_test (is_taken l.hole.at ps)
  where
    by_test : (b : Bool) → IsPlanIn end size (if b then record { joined = None; first = without_prev next } else record { joined = Some (link_past last l); first = first_past next (link_past last l) })
    by_test true = record { joined = tt; short = tt; first = without_in end next i }
    by_test false = record {
      joined = link_in end last l a;
      short = omega (arith, s, past_size last l.hole);
      first = first_in end next (link_past last l) (link_past last l).before i (link_in end last l a);
    }

pub linkable : (end : ℕ) (h : Head) → end < 2 ^ 64 → IsHoleIn end h → IsLinkable h
linkable end h lt i = record { place = omega (arith, i.place.inside, i.place.least); least = i.place.least; most = i.most; next = i.next; prev = i.prev }

pub if_linkable : (end : ℕ) (o : Option Head) → end < 2 ^ 64 → IfSome o (IsHoleIn end) → IfSome o IsLinkable
if_linkable end None lt i = tt
if_linkable end (Some h) lt i = linkable end h lt i

if_links : (end : ℕ) (o : Option Linked) → end < 2 ^ 64 → IfSome o (AreHolesIn end) → IfSome o AreLinkable
if_links end None lt a = tt
if_links end (Some l) lt a = record { before = if_linkable end l.before lt a.before; hole = linkable end l.hole lt a.hole; behind = if_linkable end l.behind lt a.behind }

pub releasable : (end : ℕ) (o : Option RestPlan) → end < 2 ^ 64 → IfSome o (IsRestIn end) → IfSome o IsReleasable
releasable end None lt r = tt
releasable end (Some p) lt r = record {
  place = omega (arith, r.place.inside, r.place.least);
  least = r.place.least;
  most = r.most;
  joined = if_links end p.plan.joined lt r.plan.joined;
  short = r.plan.short;
  first = if_linkable end p.plan.first lt r.plan.first;
}
