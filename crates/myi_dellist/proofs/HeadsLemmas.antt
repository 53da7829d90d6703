-- Headers that are planned to be written, and the last of them that is one of a place.
use Rattle.std.proofs.Common.{◌≡◌, ◌<◌, ℕ, ◌+◌, ◌-◌, Bool, true, false, List, [], ◌∷◌, ◌++◌, length, take, drop, Option, Some, None, refl, sym, ap, subst, ◌∙◌, arith}
use Rattle.std.specs.Prelude.{◌==◌, if◌then◌else◌, cond, get_or, IfSome}
use Rattle.std.specs.Ordering.{is_eq, nat_cmp}
use Rattle.std.specs.Cmp.{unsigned_tied}
use Rattle.std.specs.List.{AllByRecursion}
use Rattle.std.proofs.lemmas.Bool.{eq-eqb, eqb-true}
use Rattle.std.proofs.lemmas.List.{take-append-drop, take-append-le, take_more, length-drop, length_push}
use Rattle.std.proofs.Math.Seq.{take-length}
use Rattle.myi_frames.specs.declared.head.Head.{Head}
use Rattle.myi_frames.specs.Block.{IsPlace}
use Rattle.myi_dellist.specs.Heads.{put_over, over, AreMapped}
use Rattle.myi_dellist.specs.Freeing.{IsHoleAt, IsHoleIn}
use Rattle.myi_dellist.proofs.NeedLemmas.{some_has}

-- what is seen at one place depends on what was seen there alone
pub over-at : (heads : List Head) (s t : ℕ → Option Head) (p : ℕ) → s p ≡ t p → over heads s p ≡ over heads t p
over-at [] s t p e = e
over-at (h ∷ heads) s t p e = over-at heads (put_over h s) (put_over h t) p (ap (λ (o : Option Head). if h.at == p then Some h else o) e)

abbrev pub else_seen : Option Head → Option Head → Option Head
else_seen None o = o
else_seen (Some h) o = Some h

over_else : (heads : List Head) (s t : ℕ → Option Head) (p : ℕ) (o : Option Head) → t p ≡ else_seen (s p) o → over heads t p ≡ else_seen (over heads s p) o
over_else [] s t p o e = e
over_else (h ∷ heads) s t p o e = over_else heads (put_over h s) (put_over h t) p o (by_test (h.at == p) e)
  where
    by_test : (b : Bool) → t p ≡ else_seen (s p) o → (if b then Some h else t p) ≡ else_seen (if b then Some h else s p) o
    by_test true e = refl
    by_test false e = e

pub over-planned : (heads : List Head) (s : ℕ → Option Head) (p : ℕ) → over heads s p ≡ else_seen (over heads (λ q. None) p) (s p)
over-planned heads s p = over_else heads (λ q. None) s p (s p) refl

-- ---- the search for the last header of a place

planned_next : (h : Head) (heads : List Head) (was now : Option Head) (p : ℕ) (b : Bool) → (h.at == p) ≡ b → now ≡ (if b then Some h else was) → over heads (λ q. now) p ≡ over (h ∷ heads) (λ q. was) p
planned_next h heads was now p b t e = over-at heads (λ q. now) (put_over h (λ q. was)) p (e ∙ ap (λ (c : Bool). if c then Some h else was) (sym t))

pub planned-same : (h : Head) (left behind : List Head) (was : Option Head) (p : ℕ) → h.at ≡ p → left ≡ h ∷ behind → over behind (λ q. Some h) p ≡ over left (λ q. was) p
planned-same h left behind was p at e = planned_next h behind was (Some h) p true (eq-eqb h.at p at) refl ∙ ap (λ (hs : List Head). over hs (λ q. was) p) (sym e)

pub planned-other : (h : Head) (left behind : List Head) (was : Option Head) (p : ℕ) → (h.at == p) ≡ false → left ≡ h ∷ behind → over behind (λ q. was) p ≡ over left (λ q. was) p
planned-other h left behind was p at e = planned_next h behind was was p false at refl ∙ ap (λ (hs : List Head). over hs (λ q. was) p) (sym e)

-- ---- headers of a list, the first of which are mapped by their places

pub over-append : (xs ys : List Head) (s : ℕ → Option Head) → over (xs ++ ys) s ≡ over ys (over xs s)
over-append [] ys s = refl
over-append (h ∷ xs) ys s = over-append xs ys (put_over h s)

seen_both : (xs ys : List Head) (s : ℕ → Option Head) (p : ℕ) → over (xs ++ ys) s p ≡ over ys (over xs s) p
seen_both xs ys s p = ap (λ (t : ℕ → Option Head). t p) (over-append xs ys s)

over_parts : (heads : List Head) (k p : ℕ) → over heads (λ q. None) p ≡ else_seen (over (drop k heads) (λ q. None) p) (over (take k heads) (λ q. None) p)
over_parts heads k p =
    ap (λ (hs : List Head). over hs (λ q. None) p) (sym (take-append-drop k heads)) ∙ seen_both (take k heads) (drop k heads) (λ q. None) p ∙ over-planned (drop k heads) (over (take k heads) (λ q. None)) p

pub latest-are : (heads list : List Head) (k : ℕ) → list ≡ heads → take (length list - k) (drop k list) ≡ drop k heads
latest-are heads list k e =
    ap (λ (n : ℕ). take n (drop k list)) (sym (length-drop k list)) ∙ take-length (drop k list) ∙ ap (λ (hs : List Head). drop k hs) e

-- what the latest headers do not say, the map does
pub latest-found : (found : ℕ → Option Head) (k : ℕ) (heads latest : List Head) (p : ℕ) (o : Option Head) (h : Head) → AreMapped found k heads → latest ≡ drop k heads → o ≡ over latest (λ q. None) p → o ≡ Some h → Some h ≡ over heads (λ q. None) p
latest-found found k heads latest p o h m is e some =
    sym (over_parts heads k p ∙ ap (λ (x : Option Head). else_seen x (over (take k heads) (λ q. None) p)) (ap (λ (hs : List Head). over hs (λ q. None) p) (sym is) ∙ sym e ∙ some))

pub mapped-found : (found : ℕ → Option Head) (k : ℕ) (heads latest : List Head) (p : ℕ) (o : Option Head) → AreMapped found k heads → latest ≡ drop k heads → o ≡ over latest (λ q. None) p → o ≡ None → found p ≡ over heads (λ q. None) p
mapped-found found k heads latest p o m is e none =
    m.last p ∙ sym (over_parts heads k p ∙ ap (λ (x : Option Head). else_seen x (over (take k heads) (λ q. None) p)) (ap (λ (hs : List Head). over hs (λ q. None) p) (sym is) ∙ sym e ∙ none))

nat_cmp_eqb : (a b : ℕ) → is_eq (nat_cmp a b) ≡ (a == b)
nat_cmp_eqb a b = unsigned_tied a b

-- one more is mapped
pub mapped-more : (found now : ℕ → Option Head) (k : ℕ) (heads : List Head) (h : Head) → AreMapped found k heads → k < length heads → h ≡ get_or heads k h → ((q : ℕ) → now q ≡ cond (is_eq (nat_cmp h.at q)) (Some h) (found q)) → AreMapped now (k + 1) heads
mapped-more found now k heads h m lt is puts = record {
  few = omega (arith, lt);
  last = λ q.
      puts q ∙ same_test (is_eq (nat_cmp h.at q)) (h.at == q) (nat_cmp_eqb h.at q) (found q) ∙ ap (λ (o : Option Head). if h.at == q then Some h else o) (m.last q) ∙ sym (seen_both (take k heads) (h ∷ []) (λ q. None) q) ∙ ap (λ (hs : List Head). over hs (λ q. None) q) (sym (take_more heads k h lt ∙ ap (λ (x : Head). take k heads ++ x ∷ []) (sym is)));
}
  where
    same_test : (a b : Bool) → a ≡ b → (o : Option Head) → cond a (Some h) o ≡ (if b then Some h else o)
    same_test a b e o = ap (λ (t : Bool). cond t (Some h) o) e

-- one more is in the list
pub mapped-push : (found : ℕ → Option Head) (k : ℕ) (heads : List Head) (h : Head) → AreMapped found k heads → AreMapped found k (heads ++ h ∷ [])
mapped-push found k heads h m = record {
  few = omega (arith, m.few, length_push heads h);
  last = λ q. m.last q ∙ ap (λ (hs : List Head). over hs (λ q. None) q) (sym (take-append-le k heads (h ∷ []) m.few));
}

-- ---- headers of deleted blocks

over_hole : (end p : ℕ) (heads : List Head) (s : ℕ → Option Head) → AllByRecursion (IsHoleIn end) heads → IfSome (s p) (IsHoleAt p end) → IfSome (over heads s p) (IsHoleAt p end)
over_hole end p [] s all i = i
over_hole end p (h ∷ heads) s all i = over_hole end p heads (put_over h s) all.1 (by_test (h.at == p) refl)
  where
    by_test : (b : Bool) → (h.at == p) ≡ b → IfSome (if b then Some h else s p) (IsHoleAt p end)
    by_test true e =
        let at = eqb-true h.at p e in
        record { at = at; place = subst (λ (q : ℕ). IsPlace q h.size end) at all.0.place; most = all.0.most; next = all.0.next; prev = all.0.prev }
    by_test false e = i

pub planned-hole : (end p : ℕ) (heads : List Head) (o : Option Head) (h : Head) → AllByRecursion (IsHoleIn end) heads → o ≡ over heads (λ q. None) p → o ≡ Some h → IsHoleAt p end h
planned-hole end p heads o h all e some = some_has (IsHoleAt p end) (over heads (λ q. None) p) h (over_hole end p heads (λ q. None) all tt) (sym e ∙ some)
