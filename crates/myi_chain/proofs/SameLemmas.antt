-- What is read depends on the used ranges only by what is apart from them and where they end.
use Rattle.std.proofs.Common.{◌≡◌, ℕ, zero, suc, ◌+◌, ◌-◌, max, Bool, true, false, cond, List, [], ◌∷◌, ◌++◌, length, Option, Some, None, refl, sym, ap, subst, ◌∙◌, arith}
use Rattle.std.specs.Prelude.{◌&&◌, ◌==◌, nat_lt, option_and_then}
use Rattle.myi_base.specs.Ranges.{Range, are_apart, is_apart}
use Rattle.myi_frames.specs.Block.{Block}
use Rattle.myi_chain.specs.Chain.{Reading, range_of, ranges, row_bytes, may_take, next_link, tail_step, tail_of, tail, head_step, chain_of}
use Rattle.myi_chain.specs.Readable.{Step, end_of, past, row_step, step_of, items, rest}
use Rattle.myi_chain.specs.Chain.{ranges_at}
use Rattle.myi_chain.specs.Used.{SameUsed}
use Rattle.myi_chain.proofs.CodeLemmas.{map_append}

pub same_refl : (u : List Range) → SameUsed u u
same_refl u = record { apart = λ r. refl; ends = λ p. refl }

pub same_of : (u v : List Range) → u ≡ v → SameUsed u v
same_of u v e = subst (SameUsed u) e (same_refl u)

pub is_apart-append : (r : Range) (u t : List Range) → is_apart r (u ++ t) ≡ (is_apart r u && is_apart r t)
is_apart-append r [] t = refl
is_apart-append r (x ∷ u) t = by_test (are_apart r x) (is_apart r (u ++ t)) (is_apart r u) (is_apart r t) (is_apart-append r u t)
  where
    by_test : (a b c d : Bool) → b ≡ (c && d) → (a && b) ≡ ((a && c) && d)
    by_test true b c d e = e
    by_test false b c d e = refl

pub end_of-append : (p : ℕ) (u t : List Range) → end_of p (u ++ t) ≡ max (end_of p u) (end_of p t)
end_of-append p [] t = omega arith
end_of-append p (x ∷ u) t = by_test (x.0 == p) (end_of p (u ++ t)) (end_of-append p u t)
  where
    by_test : (b : Bool) (e : ℕ) → e ≡ max (end_of p u) (end_of p t) → cond b (max x.1 e) e ≡ max (cond b (max x.1 (end_of p u)) (end_of p u)) (end_of p t)
    by_test true e h = omega arith
    by_test false e h = h

pub same_append : (u v t : List Range) → SameUsed u v → SameUsed (u ++ t) (v ++ t)
same_append u v t s = record {
  apart = λ r. is_apart-append r u t ∙ ap (λ b. b && is_apart r t) (s.apart r) ∙ sym (is_apart-append r v t);
  ends = λ p. end_of-append p u t ∙ ap (λ n. max n (end_of p t)) (s.ends p) ∙ sym (end_of-append p v t);
}

may_same : (b : Block) (u v : List Range) → SameUsed u v → may_take b u ≡ may_take b v
may_same b u v s = ap (λ x. nat_lt 0 (length b.bytes) && x) (s.apart (range_of b))

pub same_before : (t u v : List Range) → SameUsed u v → SameUsed (t ++ u) (t ++ v)
same_before t u v s = record {
  apart = λ r. is_apart-append r t u ∙ ap (λ b. is_apart r t && b) (s.apart r) ∙ sym (is_apart-append r t v);
  ends = λ p. end_of-append p t u ∙ ap (max (end_of p t)) (s.ends p) ∙ sym (end_of-append p t v);
}

pub same_after : (u v w : List Range) → SameUsed u v → SameUsed v w → SameUsed u w
same_after u v w s t = record { apart = λ r. s.apart r ∙ t.apart r; ends = λ p. s.ends p ∙ t.ends p }

pub next_same : (b : Block) (used u v : List Range) (left : ℕ) → SameUsed u v → next_link b (used ++ u) left ≡ next_link b (used ++ v) left
next_same b used u v left s = let m = may_same b (used ++ u) (used ++ v) (same_before used u v s) in rw m refl

-- one more of a chain's own blocks
pub own_more : (taken taken' : List (ℕ × ℕ)) (b : ℕ × ℕ) (old new : List Range) → taken' ≡ taken ++ b ∷ [] → SameUsed old (ranges_at taken) → SameUsed new (old ++ ranges_at (b ∷ [])) → SameUsed new (ranges_at taken')
own_more taken taken' b old new is s t =
    let m = ap ranges_at is ∙ map_append {B = Range} (λ (x : ℕ × ℕ). (x.0, x.0 + x.1)) taken (b ∷ []) in
    subst (SameUsed new) (sym m) (same_after _ _ _ t (same_append old (ranges_at taken) (ranges_at (b ∷ [])) s))

Rest : Type 0
Rest = Option ℕ → List Range → ℕ → Option (List Block)

step_same : (rest : Option ℕ → List Range → ℕ → Option (List Block)) (u v : List Range) (l : ℕ) (o : Option Block) → SameUsed u v → ((n : Option ℕ) (x y : List Range) (k : ℕ) → SameUsed x y → rest n x k ≡ rest n y k) → option_and_then (tail_step rest u l) o ≡ option_and_then (tail_step rest v l) o
step_same rest u v l None s ih = refl
step_same rest u v l (Some b) s ih =
    let m = may_same b u v s in
    let more = ih b.next (u ++ range_of b ∷ []) (v ++ range_of b ∷ []) (l - length b.bytes) (same_append u v (range_of b ∷ []) s) in
    rw (m, more) refl

pub tail_same : (f : ℕ) (read : Reading) (n : Option ℕ) (u v : List Range) (l : ℕ) → SameUsed u v → tail_of f read n u l ≡ tail_of f read n v l
tail_same zero read n u v l s = refl
tail_same (suc f) read None u v l s = refl
tail_same (suc f) read (Some p) u v l s = step_same (λ n w k. tail_of f read n w k) u v l (read p) s (λ n x y k h. tail_same f read n x y k h)

head_same : (read : Reading) (u v : List Range) (o : Option Block) → SameUsed u v → option_and_then (head_step read u) o ≡ option_and_then (head_step read v) o
unfolding tail
head_same read u v None s = refl
head_same read u v (Some b) s =
    let m = may_same b u v s in
    let more = tail_same (b.rec_len - length b.bytes) read b.next (u ++ range_of b ∷ []) (v ++ range_of b ∷ []) (b.rec_len - length b.bytes) (same_append u v (range_of b ∷ []) s) in
    rw (m, more) refl

pub chain_same : (read : Reading) (p : ℕ) (u v : List Range) → SameUsed u v → chain_of read p u ≡ chain_of read p v
unfolding chain_of
chain_same read p u v s = head_same read u v (read p) s

-- steps that go on alike
pub record SameStep (s t : Step) : Type 0 where
  pub item : s.item ≡ t.item
  pub to : s.to ≡ t.to
  pub used : SameUsed s.used t.used

either_step : (b : Bool) (s t x y : Step) → SameStep s t → SameStep x y → SameStep (cond b s x) (cond b t y)
either_step true s t x y h k = h
either_step false s t x y h k = k

past_same : (extend : Bool) (read : Reading) (p : ℕ) (u v : List Range) → SameUsed u v → SameStep (past extend read p u) (past extend read p v)
past_same extend read p u v s = record { item = refl; to = refl; used = s }

row_same : (extend : Bool) (read : Reading) (accepts : List ℕ → Bool) (p : ℕ) (u v : List Range) (o : Option (List Block)) → SameUsed u v → SameStep (row_step extend read accepts p u o) (row_step extend read accepts p v o)
row_same extend read accepts p u v None s = past_same extend read p u v s
row_same extend read accepts p u v (Some []) s = past_same extend read p u v s
row_same extend read accepts p u v (Some (b ∷ bs)) s =
    either_step (accepts (row_bytes (b ∷ bs))) _ _ _ _ (record { item = refl; to = refl; used = same_append u v (ranges (b ∷ bs)) s }) (past_same extend read p u v s)

module _ (extend : Bool) (read : Reading) (len : ℕ) (accepts : List ℕ → Bool) where
  step_same_used : (p : ℕ) (u v : List Range) → SameUsed u v → SameStep (step_of extend read accepts p u) (step_of extend read accepts p v)
  unfolding step_of
  step_same_used p u v s =
      let c = chain_same read p u v s in
      let e = s.ends p in
      rw (e, c) (either_step (nat_lt p (end_of p v)) _ _ _ _ (record { item = refl; to = refl; used = s }) (row_same extend read accepts p u v (chain_of read p v) s))

  items_same : (f p : ℕ) (u v : List Range) → SameUsed u v → items extend read len accepts f p u ≡ items extend read len accepts f p v
  unfolding items
  items_same zero p u v s = refl
  items_same (suc f) p u v s =
      let t = step_same_used p u v s in
      let more = items_same f (step_of extend read accepts p u).to (step_of extend read accepts p u).used (step_of extend read accepts p v).used t.used in
      let at = ap (λ x. items extend read len accepts f x (step_of extend read accepts p v).used) t.to in
      let item = t.item in
      rw (more, at, item) refl

  pub rest_same : (p : ℕ) (u v : List Range) → SameUsed u v → rest extend read len accepts p u ≡ rest extend read len accepts p v
  unfolding rest
  rest_same p u v s = items_same (len - p) p u v s
