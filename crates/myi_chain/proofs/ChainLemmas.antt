-- The chain that is found is the one that there is.
use Rattle.std.proofs.Common.{◌≡◌, ℕ, zero, suc, ◌-◌, ◌<◌, ◌≤◌, Bool, true, false, cond, List, [], ◌∷◌, ◌++◌, length, Option, Some, None, refl, sym, ap, subst, ◌∙◌, arith}
use Rattle.std.specs.Prelude.{◌&&◌, ◌==◌, nat_lt, option_and_then}
use Rattle.std.specs.List.{AllByRecursion}
use Rattle.std.proofs.lemmas.Bool.{ltb-true, lt-ltb, eqb-true, eq-eqb}
use Rattle.std.proofs.lemmas.List.{append-nil, length-append}
use Rattle.myi_frames.specs.declared.form.FrameKind.{FrameKind}
use Rattle.myi_frames.specs.declared.form.FrameKind.TheVariants.{Deleted, Whole, Start, Middle, End}
use Rattle.myi_base.specs.Ranges.{Range, is_apart}
use Rattle.myi_frames.specs.Block.{Block}
use Rattle.myi_chain.specs.Chain.{Reading, range_of, ranges, IsTail, AreApart, row_bytes, IsChain, may_take, by_kind, prepend, next_link, first_link, taken_by, tail_step, tail_of, tail, head_step, chain_of}
use Rattle.myi_chain.specs.declared.chain.Link.{Link}
use Rattle.myi_chain.specs.declared.chain.Link.TheVariants.{Broken, Last, More}

abbrev pub Filled : List Block → Type 0
Filled bs = AllByRecursion (λ b. 0 < length b.bytes) bs

pub record Behind (read : Reading) (next : Option ℕ) (used : List Range) (left : ℕ) (bs : List Block) : Type 0 where
  pub linked : IsTail read next bs
  pub filled : Filled bs
  pub whole : length (row_bytes bs) ≡ left
  pub apart : AreApart used (ranges bs)

abbrev Rest : Type 0
Rest = Option ℕ → List Range → ℕ → Option (List Block)

pub both : (a b : Bool) → (a && b) ≡ true → (a ≡ true) × (b ≡ true)
both true b e = (refl, e)
both false b e = absurd cc

pub both_again : (a b : Bool) → a ≡ true → b ≡ true → (a && b) ≡ true
both_again a b e f = rw (e, f) refl

if_some : {A : Type 0} (b : Bool) (x : Option A) (y : A) → cond b x None ≡ Some y → (b ≡ true) × (x ≡ Some y)
if_some true x y e = (refl, e)
if_some false x y e = absurd cc

prepended : (b : Block) (o : Option (List Block)) (bs : List Block) → prepend b o ≡ Some bs → (cs : List Block) × (o ≡ Some cs) × (b ∷ cs ≡ bs)
prepended b None bs e = absurd cc
prepended b (Some cs) bs e = (cs, refl, cc)

end_is_tail : (read : Reading) (p : ℕ) (used : List Range) (left : ℕ) (b : Block) → read p ≡ Some b → b.kind ≡ End → may_take b used ≡ true → (length b.bytes == left) ≡ true → Behind read (Some p) used left (b ∷ [])
end_is_tail read p used left b e k may same =
    let m = both (nat_lt 0 (length b.bytes)) (is_apart (range_of b) used) may in
    let len : length b.bytes ≡ left = eqb-true _ _ same in
    record { linked = (e, k); filled = (ltb-true _ _ m.0, tt); whole = ap length (append-nil b.bytes) ∙ len; apart = (m.1, tt) }

middle_is_tail : (read : Reading) (p : ℕ) (used : List Range) (left : ℕ) (b : Block) (bs : List Block) → read p ≡ Some b → b.kind ≡ Middle → may_take b used ≡ true → nat_lt (length b.bytes) left ≡ true → Behind read b.next (used ++ range_of b ∷ []) (left - length b.bytes) bs → Behind read (Some p) used left (b ∷ bs)
middle_is_tail read p used left b [] e k may lt t = absurd (no_empty read b.next t.linked)
  where
    no_empty : (read : Reading) (n : Option ℕ) → IsTail read n [] → ⊥
    no_empty read None h = h
    no_empty read (Some p) h = h
middle_is_tail read p used left b (c ∷ bs) e k may lt t =
    let m = both (nat_lt 0 (length b.bytes)) (is_apart (range_of b) used) may in
    let l : length b.bytes < left = ltb-true _ _ lt in
    record { linked = (e, k, t.linked); filled = (ltb-true _ _ m.0, t.filled); whole = omega (arith, t.whole, length-append b.bytes (row_bytes (c ∷ bs))); apart = (m.1, t.apart) }

if_link : (b : Bool) (x : Link) → (x ≡ Broken → ⊥) → (y : Link) → cond b y Broken ≡ x → (b ≡ true) × (y ≡ x)
if_link true x ne y e = (refl, e)
if_link false x ne y e = absurd (ne (sym e))

next_last : (b : Block) (used : List Range) (left : ℕ) (k : FrameKind) → b.kind ≡ k → by_kind k Broken Broken Broken (cond (nat_lt (length b.bytes) left) More Broken) (cond (length b.bytes == left) Last Broken) ≡ Last → (b.kind ≡ End) × ((length b.bytes == left) ≡ true)
next_last b used left Deleted k e = absurd cc
next_last b used left Whole k e = absurd cc
next_last b used left Start k e = absurd cc
next_last b used left Middle k e = let t = if_link _ Last (λ f. cc) More e in let f : More ≡ Last = t.1 in absurd cc
next_last b used left End k e = (k, (if_link _ Last (λ f. cc) Last e).0)

next_more : (b : Block) (used : List Range) (left : ℕ) (k : FrameKind) → b.kind ≡ k → by_kind k Broken Broken Broken (cond (nat_lt (length b.bytes) left) More Broken) (cond (length b.bytes == left) Last Broken) ≡ More → (b.kind ≡ Middle) × (nat_lt (length b.bytes) left ≡ true)
next_more b used left Deleted k e = absurd cc
next_more b used left Whole k e = absurd cc
next_more b used left Start k e = absurd cc
next_more b used left Middle k e = (k, (if_link _ More (λ f. cc) More e).0)
next_more b used left End k e = let t = if_link _ More (λ f. cc) Last e in let f : Last ≡ More = t.1 in absurd cc

step_sound : (rest : Rest) (read : Reading) (p : ℕ) (used : List Range) (left : ℕ) (b : Block) (bs : List Block)
    → ((n : Option ℕ) (u : List Range) (l : ℕ) (cs : List Block) → rest n u l ≡ Some cs → Behind read n u l cs)
    → read p ≡ Some b → (l : Link) → next_link b used left ≡ l
    → taken_by l b (rest b.next (used ++ range_of b ∷ []) (left - length b.bytes)) ≡ Some bs
    → Behind read (Some p) used left bs
step_sound rest read p used left b bs ih e Broken k f = absurd cc
step_sound rest read p used left b bs ih e Last k f =
    let m = if_link (may_take b used) Last (λ f. cc) _ k in
    let t = next_last b used left b.kind refl m.1 in
    let same : b ∷ [] ≡ bs = cc in
    let P : List Block → Type 0 = Behind read (Some p) used left in
    subst P same (end_is_tail read p used left b e t.0 m.0 t.1)
step_sound rest read p used left b bs ih e More k f =
    let m = if_link (may_take b used) More (λ f. cc) _ k in
    let t = next_more b used left b.kind refl m.1 in
    let q = prepended b _ bs f in
    let P : List Block → Type 0 = Behind read (Some p) used left in
    subst P q.2 (middle_is_tail read p used left b q.0 e t.0 m.0 t.1 (ih _ _ _ q.0 q.1))

at_block : (rest : Rest) (read : Reading) (p : ℕ) (used : List Range) (left : ℕ) (o : Option Block) (bs : List Block)
    → ((n : Option ℕ) (u : List Range) (l : ℕ) (cs : List Block) → rest n u l ≡ Some cs → Behind read n u l cs)
    → read p ≡ o → option_and_then (tail_step rest used left) o ≡ Some bs → Behind read (Some p) used left bs
at_block rest read p used left None bs ih e f = absurd cc
at_block rest read p used left (Some b) bs ih e f = step_sound rest read p used left b bs ih e (next_link b used left) refl f

pub tail_sound : (fuel : ℕ) (read : Reading) (next : Option ℕ) (used : List Range) (left : ℕ) (bs : List Block) → tail_of fuel read next used left ≡ Some bs → Behind read next used left bs
tail_sound zero read next used left bs e = absurd cc
tail_sound (suc fuel) read None used left bs e = absurd cc
tail_sound (suc fuel) read (Some p) used left bs e =
    at_block (λ n u l. tail_of fuel read n u l) read p used left (read p) bs (λ n u l cs h. tail_sound fuel read n u l cs h) refl e

pub tail_complete : (fuel : ℕ) (read : Reading) (next : Option ℕ) (used : List Range) (left : ℕ) (bs : List Block) → Behind read next used left bs → left ≤ fuel → tail_of fuel read next used left ≡ Some bs
tail_complete fuel read None used left bs t h = absurd t.linked
tail_complete fuel read (Some p) used left [] t h = absurd t.linked
tail_complete zero read (Some p) used left (b ∷ bs) t h = absurd (omega (arith, t.whole, t.filled.0, length-append b.bytes (row_bytes bs)))
tail_complete (suc fuel) read (Some p) used left (b ∷ []) t h =
    let at = t.linked.0 in
    let kind = t.linked.1 in
    let may : may_take b used ≡ true = both_again _ _ (lt-ltb _ _ t.filled.0) t.apart.0 in
    let last : (length b.bytes == left) ≡ true = eq-eqb _ _ (sym (ap length (append-nil b.bytes)) ∙ t.whole) in
    rw (at, may, kind, last) refl
tail_complete (suc fuel) read (Some p) used left (b ∷ c ∷ bs) t h =
    let at = t.linked.0 in
    let kind = t.linked.1 in
    let may : may_take b used ≡ true = both_again _ _ (lt-ltb _ _ t.filled.0) t.apart.0 in
    let sum = length-append b.bytes (row_bytes (c ∷ bs)) in
    let sum' = length-append c.bytes (row_bytes bs) in
    let more : nat_lt (length b.bytes) left ≡ true = lt-ltb _ _ (omega (arith, t.whole, sum, sum', t.filled.1.0)) in
    let ih = tail_complete fuel read b.next (used ++ range_of b ∷ []) (left - length b.bytes) (c ∷ bs) (record { linked = t.linked.2; filled = t.filled.1; whole = omega (arith, t.whole, sum); apart = t.apart.1 }) (omega (arith, t.filled.0)) in
    rw (at, may, kind, more, ih) refl

-- ---- the whole chain

whole_is_chain : (read : Reading) (p : ℕ) (used : List Range) (b : Block) → read p ≡ Some b → b.kind ≡ Whole → may_take b used ≡ true → (length b.bytes == b.rec_len) ≡ true → IsChain read p used (b ∷ [])
whole_is_chain read p used b e k may same =
    let m = both (nat_lt 0 (length b.bytes)) (is_apart (range_of b) used) may in
    let len : length b.bytes ≡ b.rec_len = eqb-true _ _ same in
    record { linked = (e, k); filled = (ltb-true _ _ m.0, tt); whole = ap length (append-nil b.bytes) ∙ len; apart = (m.1, tt) }

start_is_chain : (read : Reading) (p : ℕ) (used : List Range) (b : Block) (bs : List Block) → read p ≡ Some b → b.kind ≡ Start → may_take b used ≡ true → nat_lt (length b.bytes) b.rec_len ≡ true → Behind read b.next (used ++ range_of b ∷ []) (b.rec_len - length b.bytes) bs → IsChain read p used (b ∷ bs)
start_is_chain read p used b [] e k may lt t = absurd (no_empty read b.next t.linked)
  where
    no_empty : (read : Reading) (n : Option ℕ) → IsTail read n [] → ⊥
    no_empty read None h = h
    no_empty read (Some p) h = h
start_is_chain read p used b (c ∷ bs) e k may lt t =
    let m = both (nat_lt 0 (length b.bytes)) (is_apart (range_of b) used) may in
    let l : length b.bytes < b.rec_len = ltb-true _ _ lt in
    record { linked = (e, k, t.linked); filled = (ltb-true _ _ m.0, t.filled); whole = omega (arith, t.whole, length-append b.bytes (row_bytes (c ∷ bs))); apart = (m.1, t.apart) }

first_last : (b : Block) (k : FrameKind) → b.kind ≡ k → by_kind k Broken (cond (length b.bytes == b.rec_len) Last Broken) (cond (nat_lt (length b.bytes) b.rec_len) More Broken) Broken Broken ≡ Last → (b.kind ≡ Whole) × ((length b.bytes == b.rec_len) ≡ true)
first_last b Deleted k e = absurd cc
first_last b Whole k e = (k, (if_link _ Last (λ f. cc) Last e).0)
first_last b Start k e = let t = if_link _ Last (λ f. cc) More e in let f : More ≡ Last = t.1 in absurd cc
first_last b Middle k e = absurd cc
first_last b End k e = absurd cc

first_more : (b : Block) (k : FrameKind) → b.kind ≡ k → by_kind k Broken (cond (length b.bytes == b.rec_len) Last Broken) (cond (nat_lt (length b.bytes) b.rec_len) More Broken) Broken Broken ≡ More → (b.kind ≡ Start) × (nat_lt (length b.bytes) b.rec_len ≡ true)
first_more b Deleted k e = absurd cc
first_more b Whole k e = let t = if_link _ More (λ f. cc) Last e in let f : Last ≡ More = t.1 in absurd cc
first_more b Start k e = (k, (if_link _ More (λ f. cc) More e).0)
first_more b Middle k e = absurd cc
first_more b End k e = absurd cc

head_sound : (read : Reading) (p : ℕ) (used : List Range) (b : Block) (bs : List Block) → read p ≡ Some b → (l : Link) → first_link b used ≡ l
    → taken_by l b (tail read b.next (used ++ range_of b ∷ []) (b.rec_len - length b.bytes)) ≡ Some bs
    → IsChain read p used bs
unfolding tail
head_sound read p used b bs e Broken k f = absurd cc
head_sound read p used b bs e Last k f =
    let m = if_link (may_take b used) Last (λ f. cc) _ k in
    let t = first_last b b.kind refl m.1 in
    let same : b ∷ [] ≡ bs = cc in
    let P : List Block → Type 0 = IsChain read p used in
    subst P same (whole_is_chain read p used b e t.0 m.0 t.1)
head_sound read p used b bs e More k f =
    let m = if_link (may_take b used) More (λ f. cc) _ k in
    let t = first_more b b.kind refl m.1 in
    let q = prepended b _ bs f in
    let P : List Block → Type 0 = IsChain read p used in
    subst P q.2 (start_is_chain read p used b q.0 e t.0 m.0 t.1 (tail_sound _ read _ _ _ q.0 q.1))

head_at : (read : Reading) (p : ℕ) (used : List Range) (o : Option Block) (bs : List Block) → read p ≡ o → option_and_then (head_step read used) o ≡ Some bs → IsChain read p used bs
head_at read p used None bs e f = absurd cc
head_at read p used (Some b) bs e f = head_sound read p used b bs e (first_link b used) refl f

pub chain_sound : (read : Reading) (p : ℕ) (used : List Range) (bs : List Block) → chain_of read p used ≡ Some bs → IsChain read p used bs
unfolding chain_of
chain_sound read p used bs e = head_at read p used (read p) bs refl e

pub chain_complete : (read : Reading) (p : ℕ) (used : List Range) (bs : List Block) → IsChain read p used bs → chain_of read p used ≡ Some bs
unfolding chain_of tail
chain_complete read p used [] t = absurd t.linked
chain_complete read p used (b ∷ []) t =
    let at = t.linked.0 in
    let kind = t.linked.1 in
    let may : may_take b used ≡ true = both_again _ _ (lt-ltb _ _ t.filled.0) t.apart.0 in
    let last : (length b.bytes == b.rec_len) ≡ true = eq-eqb _ _ (sym (ap length (append-nil b.bytes)) ∙ t.whole) in
    rw (at, may, kind, last) refl
chain_complete read p used (b ∷ c ∷ bs) t =
    let at = t.linked.0 in
    let kind = t.linked.1 in
    let may : may_take b used ≡ true = both_again _ _ (lt-ltb _ _ t.filled.0) t.apart.0 in
    let sum = length-append b.bytes (row_bytes (c ∷ bs)) in
    let sum' = length-append c.bytes (row_bytes bs) in
    let more : nat_lt (length b.bytes) b.rec_len ≡ true = lt-ltb _ _ (omega (arith, t.whole, sum, sum', t.filled.1.0)) in
    let found = tail_complete (b.rec_len - length b.bytes) read b.next (used ++ range_of b ∷ []) (b.rec_len - length b.bytes) (c ∷ bs) (record { linked = t.linked.2; filled = t.filled.1; whole = omega (arith, t.whole, sum); apart = t.apart.1 }) (omega arith) in
    rw (at, may, kind, more, found) refl

-- there is one chain or none
pub chain_once : (read : Reading) (p : ℕ) (used : List Range) (a b : List Block) → IsChain read p used a → IsChain read p used b → a ≡ b
chain_once read p used a b s t =
    let e = chain_complete read p used a s in
    let f = chain_complete read p used b t in
    cc (e, f)
