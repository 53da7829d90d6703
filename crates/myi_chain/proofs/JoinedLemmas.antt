-- What is read from a place on depends on the used ranges only by what a scan can ask of them there.
use Rattle.std.proofs.Common.{◌≡◌, ◌∙◌, ℕ, zero, suc, ◌+◌, ◌-◌, ◌<◌, ◌≤◌, max, Bool, true, false, cond, leb, eqb, List, [], ◌∷◌, ◌++◌, append_assoc, length, Option, Some, None, refl, sym, ap, subst, arith, inl, inr}
use Rattle.std.specs.Prelude.{◌&&◌, ◌||◌, nat_lt, option_and_then}
use Rattle.std.proofs.lemmas.List.{append-nil}
use Rattle.std.proofs.lemmas.Bool.{ltb-true, le-leb, lt-leb, ne_eqb, cases_lt}
use Rattle.myi_base.specs.Ranges.{Range, is_apart}
use Rattle.myi_frames.specs.Block.{Block}
use Rattle.myi_chain.specs.Chain.{Reading, IsReading, range_of, ranges, row_bytes, may_take, tail_step, tail_of, tail, head_step, chain_of}
use Rattle.myi_chain.specs.Readable.{Step, end_of, skip_by, past, row_step, step_of, items, rest}
use Rattle.myi_chain.specs.Used.{SameUsed}
use Rattle.myi_chain.proofs.SameLemmas.{is_apart-append, end_of-append, same_before}
use Rattle.myi_chain.specs.Used.{SameFrom, joined}

pub from_same : (place : ℕ) (u v : List Range) → SameUsed u v → SameFrom place u v
from_same place u v s = record { apart = λ r byte. s.apart r; ends = λ p later. s.ends p }

pub from_then : (place : ℕ) (u v w : List Range) → SameFrom place u v → SameFrom place v w → SameFrom place u w
from_then place u v w s t = record { apart = λ r byte. s.apart r byte ∙ t.apart r byte; ends = λ p later. s.ends p later ∙ t.ends p later }

pub from_back : (place : ℕ) (u v : List Range) → SameFrom place u v → SameFrom place v u
from_back place u v s = record { apart = λ r byte. sym (s.apart r byte); ends = λ p later. sym (s.ends p later) }

pub from_append : (place : ℕ) (u v t : List Range) → SameFrom place u v → SameFrom place (u ++ t) (v ++ t)
from_append place u v t s = record {
  apart = λ r byte. is_apart-append r u t ∙ ap (λ b. b && is_apart r t) (s.apart r byte) ∙ sym (is_apart-append r v t);
  ends = λ p later. end_of-append p u t ∙ ap (λ n. max n (end_of p t)) (s.ends p later) ∙ sym (end_of-append p v t);
}

pub from_before : (place : ℕ) (t u v : List Range) → SameFrom place u v → SameFrom place (t ++ u) (t ++ v)
from_before place t u v s = record {
  apart = λ r byte. is_apart-append r t u ∙ ap (λ b. is_apart r t && b) (s.apart r byte) ∙ sym (is_apart-append r t v);
  ends = λ p later. end_of-append p t u ∙ ap (max (end_of p t)) (s.ends p later) ∙ sym (end_of-append p t v);
}

-- a step does not go back
skip_later : (extend : Bool) (p : ℕ) (o : Option Block) → p ≤ p + skip_by extend o
skip_later extend p o = omega arith

either_to : (b : Bool) (x y : Step) (p : ℕ) → p ≤ x.to → p ≤ y.to → p ≤ (cond b x y).to
either_to true x y p h k = h
either_to false x y p h k = k

row_later : (extend : Bool) (read : Reading) (accepts : List ℕ → Bool) (p : ℕ) (u : List Range) (o : Option (List Block)) → p ≤ (row_step extend read accepts p u o).to
row_later extend read accepts p u None = skip_later extend p (read p)
row_later extend read accepts p u (Some []) = skip_later extend p (read p)
row_later extend read accepts p u (Some (b ∷ bs)) = either_to (accepts (row_bytes (b ∷ bs))) _ _ p (omega arith) (skip_later extend p (read p))

step_later : (extend : Bool) (read : Reading) (accepts : List ℕ → Bool) (p : ℕ) (u : List Range) → p ≤ (step_of extend read accepts p u).to
unfolding step_of
step_later extend read accepts p u = by_test (nat_lt p (end_of p u)) refl
  where
    by_test : (b : Bool) → nat_lt p (end_of p u) ≡ b → p ≤ (cond b (record { item = None; to = end_of p u; used = u }) (row_step extend read accepts p u (chain_of read p u))).to
    by_test true e = omega (arith, ltb-true _ _ e)
    by_test false e = row_later extend read accepts p u (chain_of read p u)

module _ (read : Reading) (len : ℕ) (fine : IsReading read len) (place : ℕ) where
  has_byte : (p : ℕ) (b : Block) → read p ≡ Some b → b.at < b.at + b.size
  has_byte p b e = omega (arith, (fine p b e).least)

  may_from : (b : Block) (u v : List Range) → b.at < b.at + b.size → SameFrom place u v → may_take b u ≡ may_take b v
  may_from b u v byte s = ap (λ x. nat_lt 0 (length b.bytes) && x) (s.apart (range_of b) byte)

  step_from : (rest : Option ℕ → List Range → ℕ → Option (List Block)) (u v : List Range) (l : ℕ) (o : Option Block) → ((b : Block) → o ≡ Some b → b.at < b.at + b.size) → SameFrom place u v → ((n : Option ℕ) (x y : List Range) (k : ℕ) → SameFrom place x y → rest n x k ≡ rest n y k) → option_and_then (tail_step rest u l) o ≡ option_and_then (tail_step rest v l) o
  step_from rest u v l None byte s ih = refl
  step_from rest u v l (Some b) byte s ih =
      let m = may_from b u v (byte b refl) s in
      let more = ih b.next (u ++ range_of b ∷ []) (v ++ range_of b ∷ []) (l - length b.bytes) (from_append place u v (range_of b ∷ []) s) in
      rw (m, more) refl

  tail_from : (f : ℕ) (n : Option ℕ) (u v : List Range) (l : ℕ) → SameFrom place u v → tail_of f read n u l ≡ tail_of f read n v l
  tail_from zero n u v l s = refl
  tail_from (suc f) None u v l s = refl
  tail_from (suc f) (Some p) u v l s = step_from (λ n w k. tail_of f read n w k) u v l (read p) (λ b e. has_byte p b e) s (λ n x y k h. tail_from f n x y k h)

  head_from : (u v : List Range) (o : Option Block) → ((b : Block) → o ≡ Some b → b.at < b.at + b.size) → SameFrom place u v → option_and_then (head_step read u) o ≡ option_and_then (head_step read v) o
  unfolding tail
  head_from u v None byte s = refl
  head_from u v (Some b) byte s =
      let m = may_from b u v (byte b refl) s in
      let more = tail_from (b.rec_len - length b.bytes) b.next (u ++ range_of b ∷ []) (v ++ range_of b ∷ []) (b.rec_len - length b.bytes) (from_append place u v (range_of b ∷ []) s) in
      rw (m, more) refl

  pub chain_from : (p : ℕ) (u v : List Range) → SameFrom place u v → chain_of read p u ≡ chain_of read p v
  unfolding chain_of
  chain_from p u v s = head_from u v (read p) (λ b e. has_byte p b e) s

  -- steps that go on alike
  record AlikeStep (s t : Step) : Type 0 where
    item : s.item ≡ t.item
    to : s.to ≡ t.to
    used : SameFrom place s.used t.used

  either_alike : (b : Bool) (s t x y : Step) → AlikeStep s t → AlikeStep x y → AlikeStep (cond b s x) (cond b t y)
  either_alike true s t x y h k = h
  either_alike false s t x y h k = k

  past_alike : (extend : Bool) (p : ℕ) (u v : List Range) → SameFrom place u v → AlikeStep (past extend read p u) (past extend read p v)
  past_alike extend p u v s = record { item = refl; to = refl; used = s }

  row_alike : (extend : Bool) (accepts : List ℕ → Bool) (p : ℕ) (u v : List Range) (o : Option (List Block)) → SameFrom place u v → AlikeStep (row_step extend read accepts p u o) (row_step extend read accepts p v o)
  row_alike extend accepts p u v None s = past_alike extend p u v s
  row_alike extend accepts p u v (Some []) s = past_alike extend p u v s
  row_alike extend accepts p u v (Some (b ∷ bs)) s =
      either_alike (accepts (row_bytes (b ∷ bs))) _ _ _ _ (record { item = refl; to = refl; used = from_append place u v (ranges (b ∷ bs)) s }) (past_alike extend p u v s)

  step_alike : (extend : Bool) (accepts : List ℕ → Bool) (p : ℕ) (u v : List Range) → place ≤ p → SameFrom place u v → AlikeStep (step_of extend read accepts p u) (step_of extend read accepts p v)
  unfolding step_of
  step_alike extend accepts p u v later s =
      let c = chain_from p u v s in
      let e = s.ends p later in
      rw (e, c) (either_alike (nat_lt p (end_of p v)) _ _ _ _ (record { item = refl; to = refl; used = s }) (row_alike extend accepts p u v (chain_of read p v) s))

  items_from : (extend : Bool) (accepts : List ℕ → Bool) (f p : ℕ) (u v : List Range) → place ≤ p → SameFrom place u v → items extend read len accepts f p u ≡ items extend read len accepts f p v
  unfolding items
  items_from extend accepts zero p u v later s = refl
  items_from extend accepts (suc f) p u v later s =
      let t = step_alike extend accepts p u v later s in
      let on : p ≤ (step_of extend read accepts p u).to = step_later extend read accepts p u in
      let more = items_from extend accepts f (step_of extend read accepts p u).to (step_of extend read accepts p u).used (step_of extend read accepts p v).used (omega (arith, on, later)) t.used in
      let at = ap (λ x. items extend read len accepts f x (step_of extend read accepts p v).used) t.to in
      let item = t.item in
      rw (more, at, item) refl

  -- what is met from there on is the same
  pub rest_from : (extend : Bool) (accepts : List ℕ → Bool) (p : ℕ) (u v : List Range) → place ≤ p → SameFrom place u v → rest extend read len accepts p u ≡ rest extend read len accepts p v
  unfolding rest
  rest_from extend accepts p u v later s = items_from extend accepts (len - p) p u v later s

-- ---- one range from the start

pub front_apart : (n a b : ℕ) → a < b → is_apart (a, b) (joined n) ≡ leb n a
front_apart zero a b byte = sym (le-leb _ _ (omega arith))
front_apart (suc n) a b byte =
    let high : leb b 0 ≡ false = lt-leb _ _ (omega arith) in
    rw high (right (leb (suc n) a))
  where
    right : (x : Bool) → (x && true) ≡ x
    right true = refl
    right false = refl

pub front_end : (n p : ℕ) → 0 < p → end_of p (joined n) ≡ 0
front_end zero p later = refl
front_end (suc n) p later =
    let start : eqb 0 p ≡ false = ne_eqb _ _ (λ e. absurd (omega arith)) in
    rw start refl

pub front_start : (n : ℕ) → end_of 0 (joined n) ≡ n
front_start zero = refl
front_start (suc n) = omega arith

pub one_end : (p at to : ℕ) → at < to → to ≤ p → end_of p ((at, to) ∷ []) ≡ 0
one_end p at to some later =
    let here : eqb at p ≡ false = ne_eqb _ _ (λ e. absurd (omega arith)) in
    rw here refl

pub grows : (a b at to : ℕ) → a < b → at < to → (leb at a && ((leb b at || leb to a) && true)) ≡ leb to a
grows a b at to byte some =
    elim (cases_lt a at) [
      | inl before ↦
          let p : leb at a ≡ false = lt-leb _ _ before in
          let q : leb to a ≡ false = lt-leb _ _ (omega arith) in
          rw (p, q) refl
      | inr behind ↦
          let p : leb at a ≡ true = le-leb _ _ behind in
          let q : leb b at ≡ false = lt-leb _ _ (omega arith) in
          rw (p, q) (right (leb to a))
    ]
  where
    right : (x : Bool) → (x && true) ≡ x
    right true = refl
    right false = refl

pub swap : (a b c d : Bool) → (a && c) ≡ d → ((a && b) && c) ≡ (d && b)
swap true true c d e = e ∙ same d
  where
    same : (x : Bool) → x ≡ (x && true)
    same true = refl
    same false = refl
swap true false c d e = none d
  where
    none : (x : Bool) → false ≡ (x && false)
    none true = refl
    none false = refl
swap false b c d e = ap (λ x. x && b) e

-- a range that begins where the one from the start ends joins it
pub joins_front : (at to : ℕ) (others : List Range) → at < to → SameFrom to ((joined at ++ others) ++ (at, to) ∷ []) (joined to ++ others)
joins_front at to others some = record {
  apart = λ r byte.
      let both : (is_apart r (joined at) && is_apart r ((at, to) ∷ [])) ≡ is_apart r (joined to) = ap (λ x. x && is_apart r ((at, to) ∷ [])) (front_apart at r.0 r.1 byte) ∙ grows r.0 r.1 at to byte some ∙ sym (front_apart to r.0 r.1 byte) in
      is_apart-append r (joined at ++ others) ((at, to) ∷ []) ∙ ap (λ x. x && is_apart r ((at, to) ∷ [])) (is_apart-append r (joined at) others) ∙ swap (is_apart r (joined at)) (is_apart r others) (is_apart r ((at, to) ∷ [])) (is_apart r (joined to)) both ∙ sym (is_apart-append r (joined to) others);
  ends = λ p later. omega (arith, end_of-append p (joined at ++ others) ((at, to) ∷ []), end_of-append p (joined at) others, end_of-append p (joined to) others, front_end at p (omega arith), front_end to p (omega arith), one_end p at to some later);
}

pub joined_more : (at to : ℕ) → at < to → SameFrom to (joined at ++ (at, to) ∷ []) (joined to)
joined_more at to some = subst (λ (u : List Range). SameFrom to (joined at ++ (at, to) ∷ []) u) (append-nil (joined to)) (subst (λ (u : List Range). SameFrom to (u ++ (at, to) ∷ []) (joined to ++ [])) (append-nil (joined at)) (joins_front at to [] some))

-- ---- what the two parts of used ranges say together

pub front_is : (front p : ℕ) (others : List Range) → (front ≡ 0 → end_of 0 others ≡ 0) → joined front ++ others ≡ joined p → (front ≡ p) × (others ≡ [])
front_is zero zero others start e = (refl, e)
front_is zero (suc p) others start e = absurd (omega (arith, start refl, ap (end_of 0) e, front_start (suc p)))
front_is (suc n) zero others start e = absurd cc
front_is (suc n) (suc p) others start e =
    let first : ◌≡◌ {A = ℕ × ℕ} (0, suc n) (0, suc p) = cc in
    let none : others ≡ [] = cc in
    (ap (λ (r : ℕ × ℕ). r.1) first, none)

pub adds_front : (at to : ℕ) (others new more : List Range) → at < to → SameUsed new (others ++ more) → SameFrom to (joined to ++ new) ((joined at ++ others) ++ (at, to) ∷ more)
adds_front at to others new more some same =
    let one : SameFrom to (((joined at ++ others) ++ (at, to) ∷ []) ++ more) ((joined to ++ others) ++ more) = from_append to _ _ more (joins_front at to others some) in
    let apart : (joined at ++ others) ++ (at, to) ∷ more ≡ ((joined at ++ others) ++ (at, to) ∷ []) ++ more = sym (append_assoc (joined at ++ others) ((at, to) ∷ []) more) in
    let all : SameFrom to (joined to ++ new) ((joined to ++ others) ++ more) = subst (λ (u : List Range). SameFrom to (joined to ++ new) u) (sym (append_assoc (joined to) others more)) (from_same to _ _ (same_before (joined to) new (others ++ more) same)) in
    subst (λ (u : List Range). SameFrom to (joined to ++ new) u) (sym apart) (from_then to _ _ _ all (from_back to _ _ one))

pub adds_others : (front to : ℕ) (others new all : List Range) → SameFrom to new (others ++ all) → SameFrom to (joined front ++ new) ((joined front ++ others) ++ all)
adds_others front to others new all same = subst (λ (u : List Range). SameFrom to (joined front ++ new) u) (sym (append_assoc (joined front) others all)) (from_before to (joined front) new (others ++ all) same)
