-- Blocks that are taken from the head of the list, one after the other.
use Rattle.std.proofs.Common.{◌≡◌, ℕ, ◌+◌, ◌-◌, ◌%◌, ◌^◌, ◌<◌, ◌≤◌, inr, Bool, true, false, List, [], ◌∷◌, ◌++◌, Option, Some, None, Result, Ok, Err, refl, sym, ap, subst, ◌∙◌, arith, append_assoc}
use Rattle.std.specs.Prelude.{nat_le, if◌then◌else◌, IfSome, IfErr}
use Rattle.std.specs.List.{AllByRecursion}
use Rattle.std.proofs.lemmas.List.{append-nil}
use Rattle.myi_frames.specs.declared.form.FrameKind.{FrameKind}
use Rattle.myi_frames.specs.declared.form.FrameKind.TheVariants.{Deleted}
use Rattle.myi_frames.specs.declared.head.Head.{Head}
use Rattle.myi_frames.specs.Block.{Block, block_of, head_of, OfKind, Stands}
use Rattle.myi_frames.specs.Sizes.{least_size}
use Rattle.myi_frames.proofs.CallerLemmas.{block-stands}
use Rattle.myi_base.specs.Holding.{Holding, IfTold}
use Rattle.myi_dellist.specs.declared.fault.FreeFault.{FreeFault}
use Rattle.myi_dellist.specs.declared.fault.FreeFault.TheVariants as fault
use Rattle.myi_dellist.specs.declared.pieces.Piece.{Piece}
use Rattle.myi_dellist.specs.declared.taking.Taken.{Taken}
use Rattle.myi_dellist.specs.Areas.{Area, AreInside}
use Rattle.myi_dellist.specs.Placing.{areas_of, room, fits, Taking, take_last, take_one, take_from, is_none, IsUsable}
use Rattle.myi_dellist.specs.Standing.{hole_block, first_or, last_or, IsPart}
use Rattle.myi_dellist.specs.Freeing.{is_deleted, if_deleted, hole_in, same_link, if_says, names_prev, given, block_named, IsHoleIn, Answers, IfDamaged}
use Rattle.myi_dellist.specs.Taking.{IsFull, IsRun, HasTaken, Fills, TakesFull, MeetsBad}
use Rattle.myi_dellist.proofs.SizeLemmas.{room-bounds, not-fits-few}
use Rattle.myi_dellist.proofs.LinkLemmas.{part_join}
use Rattle.myi_dellist.proofs.FillLemmas.{first_behind, first_is, run_run}
use Rattle.myi_dellist.proofs.HoleLemmas.{deleted_kind}

-- ---- more blocks

-- what taking of more blocks is, where something is left
pub record IsMore (t u v : Taking) : Type 0 where
  pub pieces : v.pieces ≡ t.pieces ++ u.pieces
  pub left : v.left ≡ u.left
  pub spare : v.spare ≡ u.spare
  pub unused : v.unused ≡ u.unused

last_left : (b : Bool) (left : ℕ) (a : Area) (more : List Area) → 0 < (take_last b left a more).left → ⊥
last_left true left a more some = omega arith
last_left false left a more some = omega arith

pub take_more_of : (len : ℕ) (first : Bool) (left : ℕ) (xs ys : List Area) → 0 < (take_from len first left xs).left → IsMore (take_from len first left xs) (take_from len (first_behind first (take_from len first left xs).pieces) (take_from len first left xs).left ys) (take_from len first left (xs ++ ys))
take_more_of len first left [] ys some = record { pieces = refl; left = refl; spare = refl; unused = refl }
take_more_of len first left (a ∷ xs) ys some = by_fits (fits left a.size) some (take_more_of len false (left - room len first a.size) xs ys)
  where
    behind : (ps : List Piece) → first_behind false ps ≡ false
    behind [] = refl
    behind (p ∷ ps) = refl

    by_fits : (b : Bool) → 0 < (take_one len first left a xs b (λ more. take_from len false more xs)).left
        → (0 < (take_from len false (left - room len first a.size) xs).left → IsMore (take_from len false (left - room len first a.size) xs) (take_from len (first_behind false (take_from len false (left - room len first a.size) xs).pieces) (take_from len false (left - room len first a.size) xs).left ys) (take_from len false (left - room len first a.size) (xs ++ ys)))
        → IsMore (take_one len first left a xs b (λ more. take_from len false more xs)) (take_from len (first_behind first (take_one len first left a xs b (λ more. take_from len false more xs)).pieces) (take_one len first left a xs b (λ more. take_from len false more xs)).left ys) (take_one len first left a (xs ++ ys) b (λ more. take_from len false more (xs ++ ys)))
    by_fits true some ih = absurd (last_left (nat_le (least_size left + 20) a.size) left a xs some)
    by_fits false some ih =
        let t = take_from len false (left - room len first a.size) xs in
        let m = subst (λ (f : Bool). IsMore t (take_from len f t.left ys) (take_from len false (left - room len first a.size) (xs ++ ys))) (behind t.pieces) (ih some) in
        record { pieces = ap (λ (ps : List Piece). record { at = a.at; size = a.size; taken = room len first a.size } ∷ ps) m.pieces; left = m.left; spare = m.spare; unused = m.unused }

-- one more that is filled
pub one_full : (len : ℕ) (first : Bool) (left : ℕ) (a : Area) → fits left a.size ≡ false → (take_from len first left (a ∷ [])).left ≡ left - room len first a.size
one_full len first left a e = ap (λ (b : Bool). (take_one len first left a [] b (λ more. take_from len false more [])).left) e

pub one_piece : (len : ℕ) (first : Bool) (left : ℕ) (a : Area) → fits left a.size ≡ false → (take_from len first left (a ∷ [])).pieces ≡ record { at = a.at; size = a.size; taken = room len first a.size } ∷ []
one_piece len first left a e = ap (λ (b : Bool). (take_one len first left a [] b (λ more. take_from len false more [])).pieces) e

-- ---- what stands in the file

-- a deleted block, by its header
hole_block_of : (d : List ℕ) (p : ℕ) (h : Head) → hole_in d p ≡ Some h → block_of d p ≡ Some (hole_block (record { at = p; size = h.size }) h.next h.prev)
unfolding hole_in
hole_block_of d p h e = by_block (block_of d p) refl e
  where
    by_kind : (b : Block) → block_of d p ≡ Some b → (t : Bool) → is_deleted b.kind ≡ t → (if t then Some (head_of b) else None) ≡ Some h → Some b ≡ Some (hole_block (record { at = p; size = h.size }) h.next h.prev)
    by_kind b s true t e =
        let kind : b.kind ≡ Deleted = deleted_kind b.kind t in
        let w : Stands d p b = block-stands d p b s in
        let rest : OfKind Deleted b = subst (λ (k : FrameKind). OfKind k b) kind w.kind in
        let head : head_of b ≡ h = cc in
        same b kind w.at rest.0 rest.1 (ap (λ (x : Head). x.size) head) (ap (λ (x : Head). x.next) head) (ap (λ (x : Head). x.prev) head)
      where
        same : (b : Block) → b.kind ≡ Deleted → b.at ≡ p → b.bytes ≡ [] → b.rec_len ≡ 0 → b.size ≡ h.size → b.next ≡ h.next → b.prev ≡ h.prev → Some b ≡ Some (hole_block (record { at = p; size = h.size }) h.next h.prev)
        same b k a c r s n q = ap Some (both b k a c r s n q)
          where
            made : FrameKind → ℕ → List ℕ → ℕ → ℕ → Option ℕ → Option ℕ → Block
            made k a c r s n q = record { kind = k; at = a; size = s; rec_len = r; next = n; prev = q; bytes = c }

            both : (b : Block) → b.kind ≡ Deleted → b.at ≡ p → b.bytes ≡ [] → b.rec_len ≡ 0 → b.size ≡ h.size → b.next ≡ h.next → b.prev ≡ h.prev → b ≡ hole_block (record { at = p; size = h.size }) h.next h.prev
            both b k a c r s n q =
                ap (λ x. made x b.at b.bytes b.rec_len b.size b.next b.prev) k ∙ ap (λ x. made Deleted x b.bytes b.rec_len b.size b.next b.prev) a ∙ ap (λ x. made Deleted p x b.rec_len b.size b.next b.prev) c
                ∙ ap (λ x. made Deleted p [] x b.size b.next b.prev) r ∙ ap (λ x. made Deleted p [] 0 x b.next b.prev) s ∙ ap (λ x. made Deleted p [] 0 h.size x b.prev) n ∙ ap (λ x. made Deleted p [] 0 h.size h.next x) q
    by_kind b s false t e = absurd cc

    by_block : (o : Option Block) → block_of d p ≡ o → if_deleted (Rattle.std.specs.Option.option_map head_of o) ≡ Some h → o ≡ Some (hole_block (record { at = p; size = h.size }) h.next h.prev)
    by_block None s e = absurd cc
    by_block (Some b) s e = by_kind b s (is_deleted b.kind) refl e

-- a link that names a block, which names the one before it
pub record IsNamed (d : List ℕ) (prev link : Option ℕ) (h : Head) : Type 0 where
  pub link_is : link ≡ Some h.at
  pub stands : block_of d h.at ≡ Some (hole_block (record { at = h.at; size = h.size }) h.next prev)

same_is : (a b : Option ℕ) → same_link a b ≡ true → a ≡ b
same_is None None e = refl
same_is None (Some q) e = absurd cc
same_is (Some p) None e = absurd cc
same_is (Some p) (Some q) e = ap (λ (n : ℕ). Some n) (Rattle.std.proofs.lemmas.Bool.eqb-true p q e)

pub head_at : (d : List ℕ) (p : ℕ) (h : Head) → hole_in d p ≡ Some h → h.at ≡ p
unfolding hole_in
head_at d p h e = by_block (block_of d p) refl e
  where
    by_kind : (b : Block) → block_of d p ≡ Some b → (t : Bool) → (if t then Some (head_of b) else None) ≡ Some h → h.at ≡ p
    by_kind b s true e =
        let w : Stands d p b = block-stands d p b s in
        let head : head_of b ≡ h = cc in
        sym (ap (λ (x : Head). x.at) head) ∙ w.at
    by_kind b s false e = absurd cc

    by_block : (o : Option Block) → block_of d p ≡ o → if_deleted (Rattle.std.specs.Option.option_map head_of o) ≡ Some h → h.at ≡ p
    by_block None s e = absurd cc
    by_block (Some b) s e = by_kind b s (is_deleted b.kind) e

pub named_block : (d : List ℕ) (prev link : Option ℕ) (h : Head) → block_named (hole_in d) prev link ≡ Ok (Some h) → IsNamed d prev link h
unfolding block_named
named_block d prev None h e = absurd cc
named_block d prev (Some p) h e = by_hole (hole_in d p) refl e
  where
    by_says : (g : Head) → hole_in d p ≡ Some g → (b : Bool) → names_prev prev g ≡ b → given (if b then Ok g else Err p) ≡ Ok (Some h) → IsNamed d prev (Some p) h
    by_says g s true t e =
        let same : g ≡ h = cc in
        let here : hole_in d p ≡ Some h = s ∙ ap (λ (x : Head). Some x) same in
        let at : h.at ≡ p = head_at d p h here in
        let before : h.prev ≡ prev = same_is h.prev prev (ap (names_prev prev) (sym same) ∙ t) in
        record {
          link_is = ap (λ (n : ℕ). Some n) (sym at);
          stands = ap (block_of d) at ∙ hole_block_of d p h here ∙ ap (λ (n : ℕ). Some (hole_block (record { at = n; size = h.size }) h.next h.prev)) (sym at) ∙ ap (λ (o : Option ℕ). Some (hole_block (record { at = h.at; size = h.size }) h.next o)) before;
        }
    by_says g s false t e = absurd cc

    by_hole : (o : Option Head) → hole_in d p ≡ o → given (if_says (names_prev prev) p o) ≡ Ok (Some h) → IsNamed d prev (Some p) h
    by_hole None s e = absurd cc
    by_hole (Some g) s e = by_says g s (names_prev prev g) refl e

pub named_nothing : (d : List ℕ) (prev link : Option ℕ) → block_named (hole_in d) prev link ≡ Ok None → link ≡ None
unfolding block_named
named_nothing d prev None e = refl
named_nothing d prev (Some p) e = by_hole (hole_in d p) e
  where
    by_says : (g : Head) (b : Bool) → given (if b then Ok g else Err p) ≡ Ok None → Some p ≡ None
    by_says g true e = absurd cc
    by_says g false e = absurd cc

    by_hole : (o : Option Head) → given (if_says (names_prev prev) p o) ≡ Ok None → Some p ≡ None
    by_hole None e = absurd cc
    by_hole (Some g) e = by_says g (names_prev prev g) e

-- ---- the steps of the code

pub hole_usable : (len end : ℕ) (h : Head) → IsHoleIn end h → IsUsable len (record { at = h.at; size = h.size })
hole_usable len end h i = record { aligned = i.place.aligned; multiple = i.place.multiple; least = i.place.least; most = omega (arith, i.most); giant = inr (omega (arith, i.most, i.place.multiple)) }

pub first_join : (xs ys : List Area) (next : Option ℕ) → first_or (xs ++ ys) next ≡ first_or xs (first_or ys next)
first_join [] ys next = refl
first_join (x ∷ xs) ys next = refl

pub last_join : (xs : List Area) (a : Area) (prev : Option ℕ) → last_or (xs ++ a ∷ []) prev ≡ Some a.at
last_join [] a prev = refl
last_join (x ∷ xs) a prev = last_join xs a (Some x.at)

-- a block that is filled, and what it takes
pub record IsStep (len : ℕ) (ps qs : List Piece) (t : Taken) (h : Head) (taken : ℕ) : Type 0 where
  pub next_is : t.next ≡ Some h
  pub small : fits t.left h.size ≡ false
  pub taken_is : taken ≡ room len (is_none ps) h.size
  pub added : qs ≡ ps ++ record { at = h.at; size = h.size; taken = taken } ∷ []

pub some_is : {T : Type 0} (P : T → Type 0) (o : Option T) (x : T) → o ≡ Some x → IfSome o P → P x
some_is P o x e h = subst (λ (p : Option _). IfSome p P) e h

step_few : (end len : ℕ) (ps qs : List Piece) (t : Taken) (h : Head) (taken : ℕ) → IsStep len ps qs t h taken → IsRun end len ps t → (taken < t.left) × (taken < 2 ^ 24) × (4 ≤ taken)
step_few end len ps qs t h taken s r =
    let i = some_is (IsHoleIn end) t.next h s.next_is r.next in
    let few = not-fits-few len t.left (is_none ps) (record { at = h.at; size = h.size }) r.less (hole_usable len end h i) s.small in
    let bounds = room-bounds len (is_none ps) h.size i.place.least in
    (omega (arith, s.taken_is, few.0), omega (arith, s.taken_is, few.1), omega (arith, s.taken_is, bounds.0))

pub step_less : (end len : ℕ) (ps qs : List Piece) (t : Taken) (h : Head) (taken : ℕ) → IsStep len ps qs t h taken → IsRun end len ps t → (taken < t.left) × (0 < taken)
step_less end len ps qs t h taken s r = let f = step_few end len ps qs t h taken s r in (f.0, omega (arith, f.2))

pub inside_more : (end : ℕ) (ps : List Piece) (p : Piece) → AreInside end (areas_of ps) → p.at + p.size ≤ end → AreInside end (areas_of (ps ++ p ∷ []))
inside_more end [] p i le = (le, tt)
inside_more end (q ∷ ps) p i le = (i.0, inside_more end ps p i.1 le)

aligned_more : (ps : List Piece) (p : Piece) → AllByRecursion (λ (q : Piece). q.at % 4 ≡ 0) ps → p.at % 4 ≡ 0 → AllByRecursion (λ (q : Piece). q.at % 4 ≡ 0) (ps ++ p ∷ [])
aligned_more [] p all e = (e, tt)
aligned_more (q ∷ ps) p all e = (all.0, aligned_more ps p all.1 e)

pub run_next : (end len : ℕ) (ps qs : List Piece) (t : Taken) (h : Head) (taken : ℕ) (last : Option ℕ) (next : Option Head) → IsStep len ps qs t h taken → IsRun end len ps t → IfSome next (IsHoleIn end) → IsRun end len qs (record { left = t.left - taken; last = last; next = next })
run_next end len ps qs t h taken last next s r n =
    let i = some_is (IsHoleIn end) t.next h s.next_is r.next in
    let f = step_few end len ps qs t h taken s r in
    let p : Piece = record { at = h.at; size = h.size; taken = taken } in
    let full : IsFull len (first_behind true ps) t.left p = record {
      multiple = i.place.multiple;
      least = i.place.least;
      most = omega (arith, i.most);
      taken = s.taken_is ∙ ap (λ (b : Bool). room len b h.size) (sym (first_is ps));
      less = f.0;
      few = f.1;
    } in
    subst (λ (xs : List Piece). IsRun end len xs (record { left = t.left - taken; last = last; next = next })) (sym s.added) (record {
      run = run_run len true len t.left (t.left - taken) ps (p ∷ []) r.run (full, refl);
      some = omega (arith, f.0);
      less = omega (arith, r.less);
      inside = inside_more end ps p r.inside i.place.inside;
      aligned = aligned_more ps p r.aligned i.place.aligned;
      next = n;
    })

fills_next : (own : List Area) (d : List ℕ) (head : Option ℕ) (len : ℕ) (ps qs : List Piece) (t : Taken) (h : Head) (taken : ℕ) (areas : List Area) (link : Option ℕ) → IsStep len ps qs t h taken → taken < t.left → IsNamed d (last_or areas None) link h → Fills own d head len ps t.left areas link → Fills own d head len qs (t.left - taken) (areas ++ record { at = h.at; size = h.size } ∷ []) h.next
fills_next own d head len ps qs t h taken areas link s less n f =
    let a : Area = record { at = h.at; size = h.size } in
    let u = take_from len true len (own ++ areas) in
    let small : fits u.left a.size ≡ false = ap (λ (k : ℕ). fits k h.size) f.left_is ∙ s.small in
    let some : 0 < u.left = omega (arith, f.left_is, f.some) in
    let m = take_more_of len true len (own ++ areas) (a ∷ []) some in
    let all : (own ++ areas) ++ a ∷ [] ≡ own ++ (areas ++ a ∷ []) = append_assoc own areas (a ∷ []) in
    let b = first_behind true u.pieces in
    let first : b ≡ is_none ps = ap (first_behind true) f.pieces ∙ first_is ps in
    let room_is : room len b h.size ≡ taken = ap (λ (c : Bool). room len c h.size) first ∙ sym s.taken_is in
    record {
      first = first_join areas (a ∷ []) h.next ∙ ap (first_or areas) (sym n.link_is) ∙ f.first;
      linked = part_join d None h.next areas (a ∷ []) (subst (IsPart d None areas) n.link_is f.linked) (n.stands, tt);
      pieces = ap (λ (xs : List Area). (take_from len true len xs).pieces) (sym all) ∙ m.pieces ∙ ap (λ (xs : List Piece). u.pieces ++ xs) (one_piece len b u.left a small) ∙ ap (λ (xs : List Piece). xs ++ record { at = h.at; size = h.size; taken = room len b h.size } ∷ []) f.pieces
          ∙ ap (λ (k : ℕ). ps ++ record { at = h.at; size = h.size; taken = k } ∷ []) room_is ∙ sym s.added;
      left_is = ap (λ (xs : List Area). (take_from len true len xs).left) (sym all) ∙ m.left ∙ one_full len b u.left a small ∙ ap (λ (k : ℕ). k - room len b h.size) f.left_is ∙ ap (λ (k : ℕ). t.left - k) room_is;
      some = omega (arith, less);
    }

pub takes_next : (own : List Area) (d : List ℕ) (head : Option ℕ) (len : ℕ) (ps qs : List Piece) (t : Taken) (h : Head) (taken : ℕ) → IsStep len ps qs t h taken → taken < t.left → TakesFull own d head len ps t
    → (areas : List Area) × Fills own d head len qs (t.left - taken) areas h.next × (Some h.at ≡ last_or areas None)
takes_next own d head len ps qs t h taken s less u =
    let a : Area = record { at = h.at; size = h.size } in
    let n = named_block d t.last u.link h (u.names ∙ ap Ok s.next_is) in
    let m = subst (λ (o : Option ℕ). IsNamed d o u.link h) u.last n in
    (u.areas ++ a ∷ [], fills_next own d head len ps qs t h taken u.areas u.link s less m u.fills, sym (last_join u.areas a None))

pub takes_on : (own : List Area) (d : List ℕ) (head : Option ℕ) (len : ℕ) (ps qs : List Piece) (t : Taken) (h : Head) (taken : ℕ) (next : Option Head) → IsStep len ps qs t h taken → taken < t.left → TakesFull own d head len ps t → block_named (hole_in d) (Some h.at) h.next ≡ Ok next → TakesFull own d head len qs (record { left = t.left - taken; last = Some h.at; next = next })
takes_on own d head len ps qs t h taken next s less u names =
    let n = takes_next own d head len ps qs t h taken s less u in
    record { areas = n.0; link = h.next; fills = n.1; last = n.2; names = names }

pub fills_first : (own : List Area) (d : List ℕ) (head : Option ℕ) (len left : ℕ) (ps : List Piece) → 0 < left → HasTaken own len ps left → Fills own d head len ps left [] head
fills_first own d head len left ps some h =
    let all = append-nil own in
    record { first = refl; linked = tt; pieces = ap (λ (xs : List Area). (take_from len true len xs).pieces) all ∙ h.0; left_is = ap (λ (xs : List Area). (take_from len true len xs).left) all ∙ h.1; some = some }

pub takes_first : (own : List Area) (d : List ℕ) (head : Option ℕ) (len left : ℕ) (ps : List Piece) (next : Option Head) → 0 < left → HasTaken own len ps left → block_named (hole_in d) None head ≡ Ok next → TakesFull own d head len ps (record { left = left; last = None; next = next })
takes_first own d head len left ps next some h names = record { areas = []; link = head; fills = fills_first own d head len left ps some h; last = refl; names = names }

pub run_next_is : (end len left : ℕ) (ps : List Piece) (next : Option Head) → IsRun end len ps (record { left = left; last = None; next = None }) → IfSome next (IsHoleIn end) → IsRun end len ps (record { left = left; last = None; next = next })
run_next_is end len left ps next r n = record { run = r.run; some = r.some; less = r.less; inside = r.inside; aligned = r.aligned; next = n }

pub bad_first : (own : List Area) (d : List ℕ) (head : Option ℕ) (len left p : ℕ) (ps : List Piece) → 0 < left → HasTaken own len ps left → block_named (hole_in d) None head ≡ Err p → MeetsBad own d head len p
bad_first own d head len left p ps some h e = record { ps = ps; left = left; areas = []; link = head; fills = fills_first own d head len left ps some h; bad = e }

pub bad_next : (own : List Area) (d : List ℕ) (head : Option ℕ) (len : ℕ) (ps qs : List Piece) (t : Taken) (h : Head) (taken : ℕ) → IsStep len ps qs t h taken → taken < t.left → TakesFull own d head len ps t → (p : ℕ) → block_named (hole_in d) (Some h.at) h.next ≡ Err p → MeetsBad own d head len p
bad_next own d head len ps qs t h taken s less u p e =
    let n = takes_next own d head len ps qs t h taken s less u in
    record { ps = qs; left = t.left - taken; areas = n.0; link = h.next; fills = n.1; bad = ap (λ (o : Option ℕ). block_named (hole_in d) o h.next) (sym n.2) ∙ e }

-- what a read that is refused tells
pub bad_found : {T U : Type 0} (x : Result U FreeFault) (f : FreeFault) (old : Option Holding) (P : Holding → Type 0) (r : Holding → Result T ℕ) (Q : ℕ → Holding → Type 0) → x ≡ Err f → IfTold old (λ m. P m → Answers {T = T} (Err f) (r m)) → ((m : Holding) → old ≡ Some m → P m → (p : ℕ) → r m ≡ Err p → Q p m) → IfErr x (λ f. IfDamaged f (λ p. IfTold old (λ m. P m → Q p m)))
bad_found {T = T} {U = U} x f old P r Q e told go = subst (λ (y : Result U FreeFault). IfErr y (λ f. IfDamaged f (λ p. IfTold old (λ m. P m → Q p m)))) (sym e) (by_fault f told)
  where
    by_fault : (f : FreeFault) → IfTold old (λ m. P m → Answers {T = T} (Err f) (r m)) → IfDamaged f (λ p. IfTold old (λ m. P m → Q p m))
    by_fault fault.Full told = tt
    by_fault (fault.Damaged at) told = λ m held pm. go m held pm at (told m held pm)
    by_fault fault.File told = tt
    by_fault fault.Memory told = tt
