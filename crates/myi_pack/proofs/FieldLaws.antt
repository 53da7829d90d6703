-- One field: what is read stands there by the relation, and what stands there is read.
use Rattle.std.proofs.Common.{◌≡◌, ℕ, ◌+◌, ◌-◌, ◌*◌, ◌/◌, ◌%◌, ◌^◌, ◌<◌, ◌≤◌, Bool, true, false, cond, List, [], ◌∷◌, ◌++◌, length, get_or, take, drop, replicate, Option, Some, None, refl, sym, ap, subst, ◌∙◌, arith, inl, inr, ◌⊎◌, length-append, append-nil, append_assoc}
use Rattle.std.specs.Prelude.{◌||◌, nat_lt, nat_le, slice_index, option_and_then}
use Rattle.std.specs.Option.{option_map}
use Rattle.std.proofs.lemmas.Bool.{leb-true, leb-false, le-leb, ltb-true, ltb-false, lt-ltb, le-ltb, lt-leb}
use Rattle.std.proofs.lemmas.List.{take_at, drop_at, take_all, take-append-drop, length-take}
use Rattle.myi_base.specs.Numbers.{AreBytes, num, num_bytes, low_num, low_num_bytes}
use Rattle.myi_base.proofs.CallerLemmas.{length-num_bytes, length-low_num_bytes, num-num_bytes, low_num-low_num_bytes, num-below, low_num-below, num_bytes-num, low_num_bytes-low_num, bytes-take, bytes-drop}
use Rattle.myi_defs.specs.declared.types.RowFormat.{RowFormat}
use Rattle.myi_defs.specs.declared.types.RowFormat.TheVariants.{Static, Dynamic}
use Rattle.myi_defs.specs.declared.types.FieldKind.{FieldKind}
use Rattle.myi_defs.specs.declared.types.FieldKind.TheVariants.{Normal, SkipEndspace, SkipPrespace, SkipZero, Blob, Varchar}
use Rattle.myi_defs.specs.Sound.{IsLengthOf}
use Rattle.myi_pack.specs.Lengths.{IsSkipLength, IsVarcharLength, IsLowLength, length_bytes}
use Rattle.myi_pack.specs.Packed.{IsPlain, PacksField, FillsField, HoldsField}
use Rattle.myi_pack.specs.Unpacking.{Cut, Prefix, cut, cut_few, skip_prefix, varchar_prefix, low_prefix, padded, led, with_value, packed_field, filled_varchar, value_before, filled_field, held_field}

-- ---- options and tests

pub pair : {A B : Type 0} (p q : A × B) → p ≡ q → (p.0 ≡ q.0) × (p.1 ≡ q.1)
pair p q e = (ap (λ x. x.0) e, ap (λ x. x.1) e)

pub chosen : {A : Type 0} (b : Bool) (x : A) (y : A) → cond b (Some x) None ≡ Some y → (b ≡ true) × (x ≡ y)
chosen true x y e = (refl, cc)
chosen false x y e = absurd cc

pub mapped : {A B : Type 0} (f : A → B) (o : Option A) (y : B) → option_map f o ≡ Some y → (x : A) × (o ≡ Some x) × (f x ≡ y)
mapped f None y e = absurd cc
mapped f (Some x) y e = (x, refl, cc)

pub chained : {A B : Type 0} (f : A → Option B) (o : Option A) (y : B) → option_and_then f o ≡ Some y → (x : A) × (o ≡ Some x) × (f x ≡ Some y)
chained f None y e = absurd cc
chained f (Some x) y e = (x, refl, e)

either-true : (a b : Bool) → (a || b) ≡ true → (a ≡ true) ⊎ (b ≡ true)
either-true true b e = inl refl
either-true false b e = inr e

either-false : (a b : Bool) → (a || b) ≡ false → (a ≡ false) × (b ≡ false)
either-false true b e = absurd cc
either-false false b e = (refl, e)

first-way : {A : Type 0} (a b : Bool) (x y : A) → (a ≡ true) ⊎ (b ≡ true) → cond (a || b) x y ≡ x
first-way true b x y h = refl
first-way false b x y (inl h) = absurd cc
first-way false b x y (inr h) = rw h refl

-- ---- so many bytes

pub cut-takes : (n : ℕ) (b v r : List ℕ) → cut n b ≡ Some (v, r) → (b ≡ v ++ r) × (length v ≡ n)
cut-takes n b v r e =
    let p : List ℕ × List ℕ = (take n b, drop n b) in
    let q : List ℕ × List ℕ = (v, r) in
    let c = chosen (nat_le n (length b)) p q e in
    let s = pair p q c.1 in
    let l = leb-true _ _ c.0 in
    (rw (← s.0, ← s.1) (sym (take-append-drop n b)), rw (← s.0) (omega (arith, length-take n b)))

pub cut-again : (n : ℕ) (v r : List ℕ) → length v ≡ n → cut n (v ++ r) ≡ Some (v, r)
cut-again n v r e =
    let t : nat_le n (length (v ++ r)) ≡ true = le-leb _ _ (omega (arith, length-append v r)) in
    rw (t, take_at v r n e, drop_at v r n e) refl

pub bytes-behind : (x r : List ℕ) → AreBytes (x ++ r) → AreBytes r
bytes-behind x r h = let d : drop (length x) (x ++ r) ≡ r = drop_at x r (length x) refl in let P : List ℕ → Type 0 = λ y. AreBytes y in subst P d (bytes-drop (length x) (x ++ r) h)

pub bytes-front : (x r : List ℕ) → AreBytes (x ++ r) → AreBytes x
bytes-front x r h = let d : take (length x) (x ++ r) ≡ x = take_at x r (length x) refl in let P : List ℕ → Type 0 = λ y. AreBytes y in subst P d (bytes-take (length x) (x ++ r) h)

-- ---- lengths

one-cell : (y : List ℕ) → length y ≡ 1 → y ≡ get_or y 0 0 ∷ []
one-cell [] e = absurd (omega arith)
one-cell (a ∷ []) e = refl
one-cell (a ∷ b ∷ y) e = absurd (omega arith)

pub skip-takes : (n : ℕ) (b : List ℕ) (k : ℕ) (r : List ℕ) → AreBytes b → skip_prefix n b ≡ Some (k, r) → (p : List ℕ) × (b ≡ p ++ r) × IsSkipLength n k p
skip-takes n [] k r bytes e = absurd cc
skip-takes n (x ∷ b) k r bytes e = by (nat_le n 255 || nat_lt x 128) refl e
  where
    told : ℕ × List ℕ
    told = (k, r)

    read : List ℕ × List ℕ → ℕ × List ℕ
    read q = (x - 128 + slice_index q.0 0 * 128, q.1)

    by : (t : Bool) → (nat_le n 255 || nat_lt x 128) ≡ t → cond t (Some (x, b)) (option_map read (cut 1 b)) ≡ Some told → (p : List ℕ) × (x ∷ b ≡ p ++ r) × IsSkipLength n k p
    by true h e =
        let here : ℕ × List ℕ = (x, b) in
        let p : here ≡ told = cc in
        let q = pair here told p in
        let s : n ≤ 255 ⊎ (x < 128) = elim (either-true _ _ h) [ inl a ↦ inl (leb-true _ _ a) | inr a ↦ inr (ltb-true _ _ a) ] in
        (x ∷ [], ap (λ (y : List ℕ). x ∷ y) q.1, rw (← q.0) (inl (s, refl)))
    by false h e =
        let m = mapped read (cut 1 b) told e in
        let c = cut-takes 1 b m.0.0 m.0.1 m.1 in
        let q = pair (read m.0) told m.2 in
        let f = either-false _ _ h in
        two m.0.0 m.0.1 c.0 c.1 q.0 q.1 (leb-false _ _ f.0) (ltb-false _ _ f.1)
      where
        two : (y s : List ℕ) → b ≡ y ++ s → length y ≡ 1 → x - 128 + slice_index y 0 * 128 ≡ k → s ≡ r → 255 < n → 128 ≤ x → (p : List ℕ) × (x ∷ b ≡ p ++ r) × IsSkipLength n k p
        two [] s e l v w big high = absurd (omega arith)
        two (y ∷ []) s e l v w big high =
            let one : x < 256 = bytes 0 in
            let more : y < 256 = let P : List ℕ → Type 0 = λ z. get_or z 0 0 < 256 in subst P e (bytes 1) in
            let low : x ≡ k % 128 + 128 = omega arith in
            let top : y ≡ k / 128 = omega arith in
            (x ∷ y ∷ [], rw (e, w) refl, inr (big, omega arith, rw (← low, ← top) refl))
        two (y ∷ z ∷ ys) s e l v w big high = absurd (omega arith)

pub skip-again : (n k : ℕ) (p r : List ℕ) → IsSkipLength n k p → skip_prefix n (p ++ r) ≡ Some (k, r)
skip-again n k p r (inl h) = rw h.1 (first-way (nat_le n 255) (nat_lt k 128) (Some here) more (elim h.0 [ inl a ↦ inl (le-leb _ _ a) | inr a ↦ inr (lt-ltb _ _ a) ]))
  where
    here : ℕ × List ℕ
    here = (k, r)

    more : Prefix
    more = option_map (λ q. (k - 128 + slice_index q.0 0 * 128, q.1)) (cut 1 r)
skip-again n k p r (inr h) =
    let a : nat_le n 255 ≡ false = lt-leb _ _ h.0 in
    let b : nat_lt (k % 128 + 128) 128 ≡ false = le-ltb _ _ (omega arith) in
    let c : cut 1 ((k / 128) ∷ r) ≡ Some ((k / 128) ∷ [], r) = cut-again 1 ((k / 128) ∷ []) r refl in
    let v : k % 128 + 128 - 128 + k / 128 * 128 ≡ k = omega arith in
    rw (h.2, a, b, c, v) refl

varchar-two : (n x k : ℕ) (y s r b : List ℕ) → x ≡ 255 → b ≡ y ++ s → s ≡ r → num_bytes 2 (num 2 y) ≡ y → num 2 y < 65536 → num 2 y ≡ k → 256 < n → (p : List ℕ) × (x ∷ b ≡ p ++ r) × IsVarcharLength n k p
varchar-two n x k y s r b first e w whole few is big = (255 ∷ y, rw (first, e, w) refl, rw (← is) (inr (big, few, ap (λ (z : List ℕ). 255 ∷ z) (sym whole))))

pub varchar-takes : (n : ℕ) (b : List ℕ) (k : ℕ) (r : List ℕ) → AreBytes b → varchar_prefix n b ≡ Some (k, r) → (p : List ℕ) × (b ≡ p ++ r) × IsVarcharLength n k p
varchar-takes n [] k r bytes e = absurd cc
varchar-takes n (x ∷ b) k r bytes e = by (nat_le n 256 || nat_lt x 255) refl e
  where
    told : ℕ × List ℕ
    told = (k, r)

    read : List ℕ × List ℕ → ℕ × List ℕ
    read q = (num 2 q.0, q.1)

    by : (t : Bool) → (nat_le n 256 || nat_lt x 255) ≡ t → cond t (Some (x, b)) (option_map read (cut 2 b)) ≡ Some told → (p : List ℕ) × (x ∷ b ≡ p ++ r) × IsVarcharLength n k p
    by true h e =
        let here : ℕ × List ℕ = (x, b) in
        let p : here ≡ told = cc in
        let q = pair here told p in
        let s : n ≤ 256 ⊎ (x < 255) = elim (either-true _ _ h) [ inl a ↦ inl (leb-true _ _ a) | inr a ↦ inr (ltb-true _ _ a) ] in
        (x ∷ [], ap (λ (y : List ℕ). x ∷ y) q.1, rw (← q.0) (inl (s, refl)))
    by false h e =
        let m = mapped read (cut 2 b) told e in
        let c = cut-takes 2 b m.0.0 m.0.1 m.1 in
        let q = pair (read m.0) told m.2 in
        let f = either-false _ _ h in
        let y = m.0.0 in
        let B : List ℕ → Type 0 = λ z. AreBytes z in
        let rest : AreBytes b = bytes-behind (x ∷ []) b bytes in
        let number : AreBytes y = bytes-front y m.0.1 (subst B c.0 rest) in
        let high : 255 ≤ x = ltb-false _ _ f.1 in
        let one : x < 256 = bytes 0 in
        let first : x ≡ 255 = omega arith in
        let whole : num_bytes 2 (num 2 y) ≡ y = num_bytes-num 2 y number (omega arith) ∙ take_all 2 y (omega arith) in
        let few : num 2 y < 65536 = num-below 2 y number in
        varchar-two n x k y m.0.1 r b first c.0 q.1 whole few q.0 (leb-false _ _ f.0)

pub varchar-again : (n k : ℕ) (p r : List ℕ) → IsVarcharLength n k p → varchar_prefix n (p ++ r) ≡ Some (k, r)
varchar-again n k p r (inl h) = rw h.1 (first-way (nat_le n 256) (nat_lt k 255) (Some here) more (elim h.0 [ inl a ↦ inl (le-leb _ _ a) | inr a ↦ inr (lt-ltb _ _ a) ]))
  where
    here : ℕ × List ℕ
    here = (k, r)

    more : Prefix
    more = option_map (λ q. (num 2 q.0, q.1)) (cut 2 r)
varchar-again n k p r (inr h) =
    let a : nat_le n 256 ≡ false = lt-leb _ _ h.0 in
    let c : cut 2 (num_bytes 2 k ++ r) ≡ Some (num_bytes 2 k, r) = cut-again 2 (num_bytes 2 k) r (length-num_bytes 2 k) in
    let v : num 2 (num_bytes 2 k) ≡ k = ap (num 2) (sym (append-nil (num_bytes 2 k))) ∙ num-num_bytes 2 k [] h.1 in
    rw (h.2, a, c, v) refl

pub low-takes : (w : ℕ) (b : List ℕ) (k : ℕ) (r : List ℕ) → AreBytes b → low_prefix w b ≡ Some (k, r) → (p : List ℕ) × (b ≡ p ++ r) × IsLowLength w k p
low-takes w b k r bytes e =
    let told : ℕ × List ℕ = (k, r) in
    let read : List ℕ × List ℕ → ℕ × List ℕ = λ q. (low_num w q.0, q.1) in
    let m = mapped read (cut w b) told e in
    let c = cut-takes w b m.0.0 m.0.1 m.1 in
    let q = pair (read m.0) told m.2 in
    let y = m.0.0 in
    let B : List ℕ → Type 0 = λ z. AreBytes z in
    let number : AreBytes y = bytes-front y m.0.1 (subst B c.0 bytes) in
    let whole : low_num_bytes w (low_num w y) ≡ y = low_num_bytes-low_num w y number (omega arith) ∙ take_all w y (omega arith) in
    let P : ℕ → Type 0 = λ z. z < 256 ^ w in
    (y, c.0 ∙ ap (λ (z : List ℕ). y ++ z) q.1, (subst P q.0 (low_num-below w y number), sym whole ∙ ap (low_num_bytes w) q.0))

pub low-again : (w k : ℕ) (p r : List ℕ) → IsLowLength w k p → low_prefix w (p ++ r) ≡ Some (k, r)
low-again w k p r h =
    let c : cut w (low_num_bytes w k ++ r) ≡ Some (low_num_bytes w k, r) = cut-again w (low_num_bytes w k) r (length-low_num_bytes w k) in
    let v : low_num w (low_num_bytes w k) ≡ k = ap (low_num w) (sym (append-nil (low_num_bytes w k))) ∙ low_num-low_num_bytes w k [] h.0 in
    rw (h.1, c, v) refl

-- ---- contents

few-takes : (most : ℕ) (told : Prefix) (c r : List ℕ) → cut_few most told ≡ Some (c, r) → (q : ℕ × List ℕ) × (told ≡ Some q) × (q.0 ≤ most) × (q.1 ≡ c ++ r) × (length c ≡ q.0)
few-takes most told c r e =
    let m = chained (λ (q : ℕ × List ℕ). cond (nat_le q.0 most) (cut q.0 q.1) None) told (c, r) e in
    inner m.0 m.1 (nat_le m.0.0 most) refl m.2
  where
    inner : (q : ℕ × List ℕ) → told ≡ Some q → (b : Bool) → nat_le q.0 most ≡ b → cond b (cut q.0 q.1) None ≡ Some (c, r) → (q : ℕ × List ℕ) × (told ≡ Some q) × (q.0 ≤ most) × (q.1 ≡ c ++ r) × (length c ≡ q.0)
    inner q t true l e = let k = cut-takes q.0 q.1 c r e in (q, t, leb-true _ _ l, k.0, k.1)
    inner q t false l e = absurd cc

few-again : (most : ℕ) (told : Prefix) (c r : List ℕ) → length c ≤ most → told ≡ Some (length c, c ++ r) → cut_few most told ≡ Some (c, r)
few-again most told c r l e =
    let t : nat_le (length c) most ≡ true = le-leb _ _ l in
    rw (e, t) (cut-again (length c) c r refl)

value-takes : (value : List ℕ → List ℕ) (o : Cut) (v r : List ℕ) → with_value value o ≡ Some (v, r) → (c : List ℕ) × (o ≡ Some (c, r)) × (v ≡ value c)
value-takes value o v r e =
    let whole : List ℕ × List ℕ = (v, r) in
    let f : List ℕ × List ℕ → List ℕ × List ℕ = λ q. (value q.0, q.1) in
    let m = mapped f o whole e in
    let q = pair (f m.0) whole m.2 in
    (m.0.0, m.1 ∙ ap (λ (y : List ℕ). Some (m.0.0, y)) q.1, sym q.0)

-- ---- a field of a dynamic row

two-bytes : (n : ℕ) → length_bytes n ≤ 2
two-bytes n = by (nat_le n 256)
  where
    by : (b : Bool) → cond b 1 2 ≤ 2
    by true = omega arith
    by false = omega arith

plain-takes : (n : ℕ) (b v r : List ℕ) → cut n b ≡ Some (v, r) → (x : List ℕ) × (b ≡ x ++ r) × IsPlain n v x
plain-takes n b v r e = let c = cut-takes n b v r e in (v, c.0, (c.1, refl))

plain-again : (n : ℕ) (v x r : List ℕ) → IsPlain n v x → cut n (x ++ r) ≡ Some (v, r)
plain-again n v x r h = rw h.1 (cut-again n v r h.0)

skipped-takes : (n : ℕ) (value : List ℕ → List ℕ) (b v r : List ℕ) → 0 < n → AreBytes b → with_value value (cut_few (n - 1) (skip_prefix n b)) ≡ Some (v, r)
    → (p : List ℕ) × (c : List ℕ) × (length c < n) × IsSkipLength n (length c) p × (v ≡ value c) × (b ≡ (p ++ c) ++ r)
skipped-takes n value b v r some bytes e =
    let t = value-takes value (cut_few (n - 1) (skip_prefix n b)) v r e in
    let f = few-takes (n - 1) (skip_prefix n b) t.0 r t.1 in
    let s = skip-takes n b f.0.0 f.0.1 bytes f.1 in
    let P : ℕ → Type 0 = λ k. IsSkipLength n k s.0 in
    let few : f.0.0 ≤ n - 1 = f.2 in
    let long : length t.0 ≡ f.0.0 = f.4 in
    (s.0, t.0, omega arith, subst P (sym long) s.2, t.2, s.1 ∙ ap (λ (y : List ℕ). s.0 ++ y) f.3 ∙ sym (append_assoc s.0 t.0 r))

skipped-again : (n : ℕ) (value : List ℕ → List ℕ) (p c r v : List ℕ) → length c < n → IsSkipLength n (length c) p → v ≡ value c → with_value value (cut_few (n - 1) (skip_prefix n ((p ++ c) ++ r))) ≡ Some (v, r)
skipped-again n value p c r v few is e =
    let t : skip_prefix n ((p ++ c) ++ r) ≡ Some (length c, c ++ r) = ap (skip_prefix n) (append_assoc p c r) ∙ skip-again n (length c) p (c ++ r) is in
    let f : cut_few (n - 1) (skip_prefix n ((p ++ c) ++ r)) ≡ Some (c, r) = few-again (n - 1) (skip_prefix n ((p ++ c) ++ r)) c r (omega arith) t in
    ap (with_value value) f ∙ ap (λ (y : List ℕ). Some (y, r)) (sym e)

pub packed-takes : (kind : FieldKind) (n : ℕ) (bit : Bool) (b v r : List ℕ) → IsLengthOf Dynamic kind n → AreBytes b → packed_field kind n bit b ≡ Some (v, r) → (x : List ℕ) × (b ≡ x ++ r) × PacksField kind n bit v x
packed-takes Normal n bit b v r l bytes e = plain-takes n b v r e
packed-takes SkipEndspace n true b v r l bytes e = let s = skipped-takes n (padded n) b v r l bytes e in (s.0 ++ s.1, s.5, (s.0, s.1, s.2, s.3, s.4, refl))
packed-takes SkipEndspace n false b v r l bytes e = plain-takes n b v r e
packed-takes SkipPrespace n true b v r l bytes e = let s = skipped-takes n (led n) b v r l bytes e in (s.0 ++ s.1, s.5, (s.0, s.1, s.2, s.3, s.4, refl))
packed-takes SkipPrespace n false b v r l bytes e = plain-takes n b v r e
packed-takes SkipZero n true b v r l bytes e =
    let whole : List ℕ × List ℕ = (v, r) in
    let zeros : List ℕ × List ℕ = (replicate n 0, b) in
    let same : zeros ≡ whole = cc in
    let q = pair zeros whole same in
    ([], q.1, (sym q.0, refl))
packed-takes SkipZero n false b v r l bytes e = plain-takes n b v r e
packed-takes Blob n true b v r l bytes e =
    let whole : List ℕ × List ℕ = (v, r) in
    let none : List ℕ × List ℕ = ([], b) in
    let same : none ≡ whole = cc in
    let q = pair none whole same in
    ([], q.1, (sym q.0, refl))
packed-takes Blob n false b v r l bytes e =
    let m = chained (λ (q : ℕ × List ℕ). cut q.0 q.1) (low_prefix (n - 8) b) (v, r) e in
    let s = low-takes (n - 8) b m.0.0 m.0.1 bytes m.1 in
    let c = cut-takes m.0.0 m.0.1 v r m.2 in
    let P : ℕ → Type 0 = λ k. IsLowLength (n - 8) k s.0 in
    (s.0 ++ v, s.1 ∙ ap (λ (y : List ℕ). s.0 ++ y) c.0 ∙ sym (append_assoc s.0 v r), (s.0, subst P (sym c.1) s.2, refl))
packed-takes Varchar n bit b v r l bytes e =
    let f = few-takes (n - length_bytes n) (varchar_prefix n b) v r e in
    let s = varchar-takes n b f.0.0 f.0.1 bytes f.1 in
    let P : ℕ → Type 0 = λ k. IsVarcharLength n k s.0 in
    let few : f.0.0 ≤ n - length_bytes n = f.2 in
    let long : length v ≡ f.0.0 = f.4 in
    let two = two-bytes n in
    (s.0 ++ v, s.1 ∙ ap (λ (y : List ℕ). s.0 ++ y) f.3 ∙ sym (append_assoc s.0 v r), (s.0, omega (arith, l.0), subst P (sym long) s.2, refl))

pub packed-again : (kind : FieldKind) (n : ℕ) (bit : Bool) (v x r : List ℕ) → PacksField kind n bit v x → packed_field kind n bit (x ++ r) ≡ Some (v, r)
packed-again Normal n bit v x r h = plain-again n v x r h
packed-again SkipEndspace n true v x r h = ap (λ (y : List ℕ). with_value (padded n) (cut_few (n - 1) (skip_prefix n (y ++ r)))) h.5 ∙ skipped-again n (padded n) h.0 h.1 r v h.2 h.3 h.4
packed-again SkipEndspace n false v x r h = plain-again n v x r h
packed-again SkipPrespace n true v x r h = ap (λ (y : List ℕ). with_value (led n) (cut_few (n - 1) (skip_prefix n (y ++ r)))) h.5 ∙ skipped-again n (led n) h.0 h.1 r v h.2 h.3 h.4
packed-again SkipPrespace n false v x r h = plain-again n v x r h
packed-again SkipZero n true v x r h = rw (h.0, h.1) refl
packed-again SkipZero n false v x r h = plain-again n v x r h
packed-again Blob n true v x r h = rw (h.0, h.1) refl
packed-again Blob n false v x r h =
    let t : low_prefix (n - 8) (x ++ r) ≡ Some (length v, v ++ r) = ap (λ (y : List ℕ). low_prefix (n - 8) (y ++ r)) h.2 ∙ ap (low_prefix (n - 8)) (append_assoc h.0 v r) ∙ low-again (n - 8) (length v) h.0 (v ++ r) h.1 in
    rw t (cut-again (length v) v r refl)
packed-again Varchar n bit v x r h =
    let t : varchar_prefix n (x ++ r) ≡ Some (length v, v ++ r) = ap (λ (y : List ℕ). varchar_prefix n (y ++ r)) h.3 ∙ ap (varchar_prefix n) (append_assoc h.0 v r) ∙ varchar-again n (length v) h.0 (v ++ r) h.2 in
    let few : length v + length_bytes n ≤ n = h.1 in
    few-again (n - length_bytes n) (varchar_prefix n (x ++ r)) v r (omega arith) t

-- ---- a field of a static row

filled-parts : (n : ℕ) (x v r p c rest : List ℕ) (k : ℕ) (s behind b : List ℕ) → 2 ≤ n → b ≡ x ++ behind → behind ≡ r → c ≡ v → length x ≡ n → k ≤ n - length_bytes n → s ≡ c ++ rest → length c ≡ k → x ≡ p ++ s → IsLowLength (length_bytes n) k p
    → (x : List ℕ) × (b ≡ x ++ r) × FillsField Varchar n v x
filled-parts n x v r p c rest k s behind b two e w is long few st le xs low =
    let most = two-bytes n in
    let P : ℕ → Type 0 = λ j. IsLowLength (length_bytes n) j p in
    let len : length v ≡ k = ap length (sym is) ∙ le in
    (x, e ∙ ap (λ (y : List ℕ). x ++ y) w, (p, rest, omega arith, subst P (sym len) low, long, xs ∙ ap (λ (y : List ℕ). p ++ y) (st ∙ ap (λ (y : List ℕ). y ++ rest) is)))

pub filled-takes : (kind : FieldKind) (n : ℕ) (b v r : List ℕ) → IsLengthOf Static kind n → AreBytes b → filled_field kind n b ≡ Some (v, r) → (x : List ℕ) × (b ≡ x ++ r) × FillsField kind n v x
filled-takes Normal n b v r l bytes e = plain-takes n b v r e
filled-takes SkipEndspace n b v r l bytes e = plain-takes n b v r e
filled-takes SkipPrespace n b v r l bytes e = plain-takes n b v r e
filled-takes SkipZero n b v r l bytes e = plain-takes n b v r e
filled-takes Blob n b v r l bytes e = absurd cc
filled-takes Varchar n b v r l bytes e =
    let m = chained (λ (q : List ℕ × List ℕ). value_before (filled_varchar n q.0) q.1) (cut n b) (v, r) e in
    let c = cut-takes n b m.0.0 m.0.1 m.1 in
    let whole : List ℕ × List ℕ = (v, r) in
    let put : List ℕ × List ℕ → List ℕ × List ℕ = λ q. (q.0, m.0.1) in
    let w = mapped put (filled_varchar n m.0.0) whole m.2 in
    let q = pair (put w.0) whole w.2 in
    let f = few-takes (n - length_bytes n) (low_prefix (length_bytes n) m.0.0) w.0.0 w.0.1 w.1 in
    let B : List ℕ → Type 0 = λ z. AreBytes z in
    let s = low-takes (length_bytes n) m.0.0 f.0.0 f.0.1 (bytes-front m.0.0 m.0.1 (subst B c.0 bytes)) f.1 in
    filled-parts n (m.0.0) v r s.0 w.0.0 w.0.1 f.0.0 f.0.1 m.0.1 b l.0 c.0 q.1 q.0 c.1 f.2 f.3 f.4 s.1 s.2

pub filled-again : (kind : FieldKind) (n : ℕ) (v x r : List ℕ) → FillsField kind n v x → filled_field kind n (x ++ r) ≡ Some (v, r)
filled-again Normal n v x r h = plain-again n v x r h
filled-again SkipEndspace n v x r h = plain-again n v x r h
filled-again SkipPrespace n v x r h = plain-again n v x r h
filled-again SkipZero n v x r h = plain-again n v x r h
filled-again Blob n v x r h = absurd h
filled-again Varchar n v x r h =
    let c : cut n (x ++ r) ≡ Some (x, r) = cut-again n x r h.4 in
    let t : low_prefix (length_bytes n) x ≡ Some (length v, v ++ h.1) = ap (low_prefix (length_bytes n)) h.5 ∙ low-again (length_bytes n) (length v) h.0 (v ++ h.1) h.3 in
    let few : length v + length_bytes n ≤ n = h.2 in
    let f : filled_varchar n x ≡ Some (v, h.1) = few-again (n - length_bytes n) (low_prefix (length_bytes n) x) v h.1 (omega arith) t in
    rw (c, f) refl

pub held-takes : (format : RowFormat) (kind : FieldKind) (n : ℕ) (bit : Bool) (b v r : List ℕ) → IsLengthOf format kind n → AreBytes b → held_field format kind n bit b ≡ Some (v, r) → (x : List ℕ) × (b ≡ x ++ r) × HoldsField format kind n bit v x
held-takes Static kind n bit b v r l bytes e = filled-takes kind n b v r l bytes e
held-takes Dynamic kind n bit b v r l bytes e = packed-takes kind n bit b v r l bytes e

pub held-again : (format : RowFormat) (kind : FieldKind) (n : ℕ) (bit : Bool) (v x r : List ℕ) → HoldsField format kind n bit v x → held_field format kind n bit (x ++ r) ≡ Some (v, r)
held-again Static kind n bit v x r h = filled-again kind n v x r h
held-again Dynamic kind n bit v x r h = packed-again kind n bit v x r h
