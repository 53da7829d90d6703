-- A chain that is followed by the headers of its blocks.
use Rattle.std.proofs.Common.{◌≡◌, ◌∙◌, ℕ, ◌+◌, ◌-◌, ◌<◌, Bool, true, false, List, [], ◌∷◌, ◌++◌, length, Option, Some, None, refl, sym, ap, subst, append_assoc}
use Rattle.std.specs.Prelude.{nat_lt, ◌&&◌, if◌then◌else◌}
use Rattle.std.specs.Option.{option_map}
use Rattle.std.proofs.lemmas.List.{append-nil}
use Rattle.myi_base.specs.Ranges.{Range, is_apart}
use Rattle.myi_frames.specs.declared.head.Header.{Header}
use Rattle.myi_frames.specs.Block.{Block, head_of}
use Rattle.myi_frames.specs.Seeing.{Heads, HeadsBlock}
use Rattle.myi_chain.specs.declared.chain.Link.{Link}
use Rattle.myi_chain.specs.declared.chain.Link.TheVariants.{Broken, Last, More}
use Rattle.myi_chain.specs.Chain.{Reading, range_of, next_link, first_link, tail, chain_of, prepend, AreApart}
use Rattle.myi_chain.specs.Used.{IsRange}
use Rattle.std.specs.List.{AllByRecursion}
use Rattle.myi_chain.specs.Chain.{placed, ranges_at}
use Rattle.myi_chain.specs.Used.{SameUsed}
use Rattle.myi_chain.proofs.CodeLemmas.{tail_none, tail_no_block, tail_broken, tail_last, tail_more, map_append}
use Rattle.myi_chain.proofs.SameLemmas.{same_before}
use Rattle.myi_chain.specs.Source.{range_by, next_by, first_by, with_rest, CanAdd}

pub link_same : (h : Header) (used own taken : List Range) (left : ℕ) → SameUsed own taken → next_by h (used ++ own) left ≡ next_by h (used ++ taken) left
link_same h used own taken left s =
    let m = (same_before used own taken s).apart (h.head.at, h.head.at + h.head.size) in
    rw m refl

-- a header's link is its block's
pub link_is : (x : List ℕ) (h : Header) (b : Block) (used : List Range) (left : ℕ) → Heads x h b → next_by h used left ≡ next_link b used left
link_is x h b used left heads =
    subst (λ (n : ℕ). next_by h used left ≡ next_by (record { head = head_of b; start = h.start; data_len = n }) used left) (sym heads.long) (ap (λ k. next_by (record { head = k; start = h.start; data_len = h.data_len }) used left) (sym heads.head))

-- ---- one block after the other

module _ (x : List ℕ) (read : Reading) (next : Option ℕ) (used : List Range) (taken : List (ℕ × ℕ)) (left : ℕ) (r : Option (List (ℕ × ℕ))) (so : with_rest taken (tail read next (used ++ ranges_at taken) left) ≡ r) where
  rest_is : (o : Option (List Block)) → tail read next (used ++ ranges_at taken) left ≡ o → r ≡ with_rest taken o
  rest_is o e = sym so ∙ ap (with_rest taken) e

  pub followed_none : next ≡ None → r ≡ None
  followed_none n = rest_is None (ap (λ q. tail read q (used ++ ranges_at taken) left) n ∙ tail_none read (used ++ ranges_at taken) left)

  pub followed_no_block : (p : ℕ) → next ≡ Some p → read p ≡ None → r ≡ None
  followed_no_block p n e = rest_is None (ap (λ q. tail read q (used ++ ranges_at taken) left) n ∙ tail_no_block read p (used ++ ranges_at taken) left e)

  pub followed_broken : (p : ℕ) (h : Header) → next ≡ Some p → HeadsBlock x (Some h) (read p) → Broken ≡ next_by h (used ++ ranges_at taken) left → r ≡ None
  followed_broken p h n here link =
      rest_is None (ap (λ q. tail read q (used ++ ranges_at taken) left) n ∙ tail_broken read p (used ++ ranges_at taken) left here.0 here.1 (sym (link_is x h here.0 (used ++ ranges_at taken) left here.2) ∙ sym link))

  place_of : (h : Header) (b : Block) → Heads x h b → ◌≡◌ {A = ℕ × ℕ} (b.at, b.size) (h.head.at, h.head.size)
  place_of h b heads =
      let at : b.at ≡ h.head.at = ap (λ k. k.at) heads.head in
      let size : b.size ≡ h.head.size = ap (λ k. k.size) heads.head in
      rw (at, size) refl

  pub followed_last : (p : ℕ) (h : Header) (all : List (ℕ × ℕ)) → next ≡ Some p → HeadsBlock x (Some h) (read p) → Last ≡ next_by h (used ++ ranges_at taken) left → 0 < left → 0 < h.data_len → all ≡ taken ++ (h.head.at, h.head.size) ∷ [] → r ≡ Some all
  followed_last p h all n here link more some is =
      let b = here.0 in
      rest_is (Some (b ∷ [])) (ap (λ q. tail read q (used ++ ranges_at taken) left) n ∙ tail_last read p (used ++ ranges_at taken) left b here.1 more (sym (link_is x h b (used ++ ranges_at taken) left here.2) ∙ sym link) (subst (λ k. 0 < k) (sym here.2.long) some))
      ∙ ap (λ (q : ℕ × ℕ). Some (taken ++ q ∷ [])) (place_of h b here.2) ∙ ap Some (sym is)

  pub followed_more : (p : ℕ) (h : Header) (all : List (ℕ × ℕ)) → next ≡ Some p → HeadsBlock x (Some h) (read p) → More ≡ next_by h (used ++ ranges_at taken) left → 0 < left → 0 < h.data_len → all ≡ taken ++ (h.head.at, h.head.size) ∷ []
      → with_rest all (tail read h.head.next (used ++ ranges_at all) (left - h.data_len)) ≡ r
  followed_more p h all n here link more some is =
      let b = here.0 in
      let used' : List Range = used ++ ranges_at taken in
      let one : tail read next used' left ≡ prepend b (tail read b.next (used' ++ range_of b ∷ []) (left - length b.bytes)) = ap (λ q. tail read q used' left) n ∙ tail_more read p used' left b here.1 more (sym (link_is x h b used' left here.2) ∙ sym link) (subst (λ k. 0 < k) (sym here.2.long) some) in
      let place = place_of h b here.2 in
      let range : range_of b ≡ (h.head.at, h.head.at + h.head.size) = ap (λ (q : ℕ × ℕ). (q.0, q.0 + q.1)) place in
      let ranges : used ++ ranges_at all ≡ used' ++ range_of b ∷ [] = ap (λ (ts : List (ℕ × ℕ)). used ++ ranges_at ts) is ∙ ap (λ (rs : List Range). used ++ rs) (map_append {B = Range} (λ (x : ℕ × ℕ). (x.0, x.0 + x.1)) taken ((h.head.at, h.head.size) ∷ [])) ∙ sym (append_assoc used (ranges_at taken) ((h.head.at, h.head.at + h.head.size) ∷ [])) ∙ ap (λ (q : Range). used' ++ q ∷ []) (sym range) in
      let rest : tail read h.head.next (used ++ ranges_at all) (left - h.data_len) ≡ tail read b.next (used' ++ range_of b ∷ []) (left - length b.bytes) = ap (λ (u : List Range). tail read h.head.next u (left - h.data_len)) ranges ∙ ap (λ k. tail read k.next (used' ++ range_of b ∷ []) (left - h.data_len)) (sym here.2.head) ∙ ap (λ k. tail read b.next (used' ++ range_of b ∷ []) (left - k)) (sym here.2.long) in
      ap (with_rest all) rest ∙ behind (tail read b.next (used' ++ range_of b ∷ []) (left - length b.bytes)) b (is ∙ ap (λ (q : ℕ × ℕ). taken ++ q ∷ []) (sym place)) ∙ sym (rest_is _ one)
    where
      behind : (o : Option (List Block)) (b : Block) → all ≡ taken ++ (b.at, b.size) ∷ [] → with_rest all o ≡ with_rest taken (prepend b o)
      behind None b is = refl
      behind (Some bs) b is = ap Some (ap (λ (ts : List (ℕ × ℕ)). ts ++ placed bs) is ∙ append_assoc taken ((b.at, b.size) ∷ []) (placed bs))

-- ---- the first block

pub first_is : (x : List ℕ) (h : Header) (b : Block) (used : List Range) → Heads x h b → first_by h used ≡ first_link b used
first_is x h b used heads =
    subst (λ (n : ℕ). first_by h used ≡ first_by (record { head = head_of b; start = h.start; data_len = n }) used) (sym heads.long) (ap (λ k. first_by (record { head = k; start = h.start; data_len = h.data_len }) used) (sym heads.head))

pub chain_broken : (read : Reading) (p : ℕ) (used : List Range) (b : Block) → read p ≡ Some b → first_link b used ≡ Broken → chain_of read p used ≡ None
unfolding chain_of
chain_broken read p used b e k = rw (e, k) refl

pub chain_last : (read : Reading) (p : ℕ) (used : List Range) (b : Block) → read p ≡ Some b → first_link b used ≡ Last → chain_of read p used ≡ Some (b ∷ [])
unfolding chain_of
chain_last read p used b e k = rw (e, k) refl

chain_more : (read : Reading) (p : ℕ) (used : List Range) (b : Block) → read p ≡ Some b → first_link b used ≡ More → chain_of read p used ≡ prepend b (tail read b.next (used ++ range_of b ∷ []) (b.rec_len - length b.bytes))
unfolding chain_of
chain_more read p used b e k = rw (e, k) refl

module _ (x : List ℕ) (read : Reading) (used : List Range) (h : Header) (here : HeadsBlock x (Some h) (read h.head.at)) where
  pub first_place : ◌≡◌ {A = ℕ × ℕ} (here.0.at, here.0.size) (h.head.at, h.head.size)
  first_place =
      let at : here.0.at ≡ h.head.at = ap (λ k. k.at) here.2.head in
      let size : here.0.size ≡ h.head.size = ap (λ k. k.size) here.2.head in
      rw (at, size) refl

  pub first_more : More ≡ first_by h used → option_map placed (chain_of read h.head.at used) ≡ with_rest ((h.head.at, h.head.size) ∷ []) (tail read h.head.next (used ++ ranges_at ((h.head.at, h.head.size) ∷ [])) (h.head.rec_len - h.data_len))
  first_more link =
      let b = here.0 in
      let range : ◌≡◌ {A = Range} (range_of b) (h.head.at, h.head.at + h.head.size) = ap (λ (q : ℕ × ℕ). (q.0, q.0 + q.1)) first_place in
      let rest : tail read b.next (used ++ range_of b ∷ []) (b.rec_len - length b.bytes) ≡ tail read h.head.next (used ++ ranges_at ((h.head.at, h.head.size) ∷ [])) (h.head.rec_len - h.data_len) =
      ap (λ k. tail read k.next (used ++ range_of b ∷ []) (k.rec_len - length b.bytes)) here.2.head ∙ ap (λ (r : Range). tail read h.head.next (used ++ r ∷ []) (h.head.rec_len - length b.bytes)) range ∙ ap (λ n. tail read h.head.next (used ++ ranges_at ((h.head.at, h.head.size) ∷ [])) (h.head.rec_len - n)) here.2.long in
      ap (option_map placed) (chain_more read h.head.at used b here.1 (sym (first_is x h b used here.2) ∙ sym link) ∙ ap (prepend b) rest) ∙ behind _
    where
      behind : (o : Option (List Block)) → option_map placed (prepend here.0 o) ≡ with_rest ((h.head.at, h.head.size) ∷ []) o
      behind None = refl
      behind (Some bs) = ap (λ (q : ℕ × ℕ). Some (q ∷ placed bs)) first_place

-- ---- in any files: what was taken may be added to the used ranges

tested : (b : Bool) (l : Link) (x : Link) → (l ≡ Broken → ⊥) → l ≡ (if b then x else Broken) → b ≡ true
tested true l x some e = refl
tested false l x some e = absurd (some e)

second : (a b : Bool) → (a && b) ≡ true → b ≡ true
second true b e = e
second false b e = absurd cc

link_apart : (h : Header) (used : List Range) (left : ℕ) (l : Link) → (l ≡ Broken → ⊥) → l ≡ next_by h used left → is_apart (h.head.at, h.head.at + h.head.size) used ≡ true
link_apart h used left l some e = second (nat_lt 0 h.data_len) (is_apart (h.head.at, h.head.at + h.head.size) used) (tested (nat_lt 0 h.data_len && is_apart (h.head.at, h.head.at + h.head.size) used) l _ some e)

first_apart : (h : Header) (used : List Range) (l : Link) → (l ≡ Broken → ⊥) → l ≡ first_by h used → is_apart (h.head.at, h.head.at + h.head.size) used ≡ true
first_apart h used l some e = second (nat_lt 0 h.data_len) (is_apart (h.head.at, h.head.at + h.head.size) used) (tested (nat_lt 0 h.data_len && is_apart (h.head.at, h.head.at + h.head.size) used) l _ some e)

apart_more : (used rs : List Range) (r : Range) → AreApart used rs → is_apart r (used ++ rs) ≡ true → AreApart used (rs ++ r ∷ [])
apart_more used [] r all here = (subst (λ (u : List Range). is_apart r u ≡ true) (append-nil used) here, tt)
apart_more used (q ∷ rs) r all here = (all.0, apart_more (used ++ q ∷ []) rs r all.1 (subst (λ (u : List Range). is_apart r u ≡ true) (sym (append_assoc used (q ∷ []) rs)) here))

some_more : (rs : List Range) (r : Range) → AllByRecursion IsRange rs → IsRange r → AllByRecursion IsRange (rs ++ r ∷ [])
some_more [] r all here = (here, tt)
some_more (q ∷ rs) r all here = (all.0, some_more rs r all.1 here)

pub can_more : (used : List Range) (taken all : List (ℕ × ℕ)) (h : Header) (left : ℕ) (l : Link) → CanAdd used taken → all ≡ taken ++ (h.head.at, h.head.size) ∷ [] → (l ≡ Broken → ⊥) → l ≡ next_by h (used ++ ranges_at taken) left → IsRange (range_by h) → CanAdd used all
can_more used taken all h left l can is some link range =
    let ranges : ranges_at all ≡ ranges_at taken ++ (h.head.at, h.head.at + h.head.size) ∷ [] = ap ranges_at is ∙ map_append {B = Range} (λ (x : ℕ × ℕ). (x.0, x.0 + x.1)) taken ((h.head.at, h.head.size) ∷ []) in
    record {
      apart = subst (AreApart used) (sym ranges) (apart_more used (ranges_at taken) (h.head.at, h.head.at + h.head.size) can.apart (link_apart h (used ++ ranges_at taken) left l some link));
      some = subst (AllByRecursion IsRange) (sym ranges) (some_more (ranges_at taken) (h.head.at, h.head.at + h.head.size) can.some range);
    }

pub can_first : (used : List Range) (h : Header) (l : Link) (all : List (ℕ × ℕ)) → all ≡ (h.head.at, h.head.size) ∷ [] → (l ≡ Broken → ⊥) → l ≡ first_by h used → IsRange (range_by h) → CanAdd used all
can_first used h l all is some link range = subst (CanAdd used) (sym is) (record { apart = (first_apart h used l some link, tt); some = (range, tt) })

pub last_not_broken : Last ≡ Broken → ⊥
last_not_broken e = cc

pub more_not_broken : More ≡ Broken → ⊥
more_not_broken e = cc
