-- The whole row: what is read is packed by the relation, and what is packed is read.
use Rattle.std.proofs.Common.{◌≡◌, ◌≢◌, ℕ, zero, suc, ◌+◌, ◌-◌, ◌*◌, ◌/◌, ◌%◌, ◌^◌, ◌<◌, ◌≤◌, Bool, true, false, not, cond, List, [], ◌∷◌, ◌++◌, length, get_or, Option, Some, None, refl, sym, ap, subst, ◌∙◌, arith, inl, inr, ◌⊎◌, append-nil, append_assoc}
use Rattle.std.specs.Prelude.{◌&&◌, ◌||◌, ◌==◌, nat_lt, slice_index, option_and_then, All, MatchOption}
use Rattle.std.proofs.lemmas.Bool.{ltb-true, lt-ltb, eqb-true, eq-eqb, eqb-false, ne_eqb, cases_lt}
use Rattle.std.proofs.lemmas.List.Elements.{All-head, All-tail}
use Rattle.std.proofs.Math.Nat.{pow-suc, pow-le-pow_right, mod-add-div, div-lt_iff_lt-mul, div-eq_of_lt}
use Rattle.myi_base.specs.Numbers.{AreBytes}
use Rattle.myi_defs.specs.declared.types.RowFormat.{RowFormat}
use Rattle.myi_defs.specs.declared.types.RowFormat.TheVariants.{Static, Dynamic}
use Rattle.myi_defs.specs.declared.types.Field.{Field}
use Rattle.myi_defs.specs.declared.types.Defs.{Defs}
use Rattle.myi_defs.specs.Sound.{IsLengthOf}
use Rattle.myi_pack.specs.Flags.{flag_at, flag_count, flag_bytes, next_flag}
use Rattle.myi_pack.specs.Packed.{Values, HoldsFields, IsDynamicRow, IsStaticRow, IsRow, Packs}
use Rattle.myi_pack.specs.Unpacking.{Cut, cut, field_of, put_front, then_fields, fields_of, is_spare_clear, parts_of, ended, row_of}
use Rattle.myi_pack.proofs.FieldLaws.{chosen, pair, chained, cut-takes, cut-again, bytes-behind, bytes-front, held-takes, held-again}

-- ---- the fields

put-takes : (v : List ℕ) (o : Option (Values × List ℕ)) (row : Values) (r : List ℕ) → put_front v o ≡ Some (row, r) → (vs : Values) × (o ≡ Some (vs, r)) × (row ≡ v ∷ vs)
put-takes v None row r e = absurd cc
put-takes v (Some q) row r e =
    let whole : Values × List ℕ = (row, r) in
    let made : Values × List ℕ = (v ∷ q.0, q.1) in
    let same : made ≡ whole = cc in
    let s = pair made whole same in
    (q.0, ap (λ (y : List ℕ). Some (q.0, y)) s.1, sym s.0)

then-takes : (more : List ℕ → Option (Values × List ℕ)) (c : Cut) (row : Values) (r : List ℕ) → then_fields more c ≡ Some (row, r) → (q : List ℕ × List ℕ) × (c ≡ Some q) × (vs : Values) × (more q.1 ≡ Some (vs, r)) × (row ≡ q.0 ∷ vs)
then-takes more None row r e = absurd cc
then-takes more (Some q) row r e = let p = put-takes q.0 (more q.1) row r e in (q, refl, p.0, p.1, p.2)

pub fields-take : (format : RowFormat) (fs : List Field) (k : ℕ) (flags b : List ℕ) (row : Values) (r : List ℕ) → All (λ f. IsLengthOf format f.kind f.length) fs → AreBytes b → fields_of format fs k flags b ≡ Some (row, r)
    → (y : List ℕ) × (b ≡ y ++ r) × HoldsFields format fs k flags row y
unfolding field_of
fields-take format [] k flags b row r l bytes e =
    let whole : Values × List ℕ = (row, r) in
    let none : Values × List ℕ = ([], b) in
    let same : none ≡ whole = cc in
    let s = pair none whole same in
    let P : Values → Type 0 = λ vs. HoldsFields format [] k flags vs [] in
    ([], s.1, subst P s.0 refl)
fields-take format (f ∷ fs) k flags b row r l bytes e =
    let t = then-takes (fields_of format fs (next_flag f.kind k) flags) (field_of format f (flag_at flags k) b) row r e in
    let one = held-takes format f.kind f.length (flag_at flags k) b t.0.0 t.0.1 (All-head (λ f. IsLengthOf format f.kind f.length) f fs l) bytes t.1 in
    let B : List ℕ → Type 0 = λ z. AreBytes z in
    let more = fields-take format fs (next_flag f.kind k) flags t.0.1 t.2 r (All-tail (λ f. IsLengthOf format f.kind f.length) f fs l) (bytes-behind one.0 t.0.1 (subst B one.1 bytes)) t.3 in
    let P : Values → Type 0 = λ vs. HoldsFields format (f ∷ fs) k flags vs (one.0 ++ more.0) in
    (one.0 ++ more.0, one.1 ∙ ap (λ (z : List ℕ). one.0 ++ z) more.1 ∙ sym (append_assoc one.0 more.0 r), subst P (sym t.4) (one.0, more.0, refl, one.2, more.2))

pub fields-again : (format : RowFormat) (fs : List Field) (k : ℕ) (flags : List ℕ) (row : Values) (y r : List ℕ) → HoldsFields format fs k flags row y → fields_of format fs k flags (y ++ r) ≡ Some (row, r)
unfolding field_of
fields-again format [] k flags [] y r h = rw h refl
fields-again format [] k flags (v ∷ vs) y r h = absurd h
fields-again format (f ∷ fs) k flags [] y r h = absurd h
fields-again format (f ∷ fs) k flags (v ∷ vs) y r h =
    let e : y ++ r ≡ h.0 ++ (h.1 ++ r) = ap (λ (z : List ℕ). z ++ r) h.2 ∙ append_assoc h.0 h.1 r in
    let one : field_of format f (flag_at flags k) (y ++ r) ≡ Some (v, h.1 ++ r) = ap (field_of format f (flag_at flags k)) e ∙ held-again format f.kind f.length (flag_at flags k) v h.0 (h.1 ++ r) h.3 in
    let more = fields-again format fs (next_flag f.kind k) flags vs h.1 r h.4 in
    ap (then_fields (fields_of format fs (next_flag f.kind k) flags)) one ∙ ap (put_front v) more

-- ---- spare flags

low-part : (x p : ℕ) → 0 < p → x / p ≡ 0 → x < p
low-part x p h e = let m : x % p + p * (x / p) ≡ x = mod-add-div x p in let z : p * (x / p) ≡ p * 0 = ap (λ (n : ℕ). p * n) e in omega (arith, m, z)

pow-some : (n : ℕ) → 0 < 2 ^ n
pow-some zero = omega arith
pow-some (suc n) = omega (arith, pow-some n, pow-suc 2 n)

small : (x p : ℕ) → 0 < p → x < 2 * p → (x / p % 2 ≡ 1 → ⊥) → x < p
small x p some lt ne =
    let q : x / p < 2 = (div-lt_iff_lt-mul some).1 lt in
    let z : x / p ≡ 0 = by (x / p) q ne in
    low-part x p some z
  where
    by : (q : ℕ) → q < 2 → (q % 2 ≡ 1 → ⊥) → q ≡ 0
    by zero l ne = refl
    by (suc zero) l ne = absurd (ne refl)
    by (suc (suc q)) l ne = absurd (omega arith)

above : (i m x : ℕ) → i + m ≡ 8 → x < 256 → ((j : ℕ) → m ≤ j → j < 8 → (x / 2 ^ j % 2 == 1) ≡ false) → x < 2 ^ m
above zero m x e lt h = let n : m ≡ 8 = omega arith in rw n lt
above (suc i) m x e lt h =
    let next : x < 2 ^ suc m = above i (suc m) x (omega arith) lt (λ j l k. h j (omega arith) k) in
    let clear = h m (omega arith) (omega arith) in
    let p : 2 ^ suc m ≡ 2 * 2 ^ m = rw pow-suc (omega arith) in
    small x (2 ^ m) (pow-some m) (omega arith) (λ one. eqb-false _ _ clear one)

pub spare-clear : (count : ℕ) (flags : List ℕ) → length flags ≡ flag_bytes count → AreBytes flags → ((k : ℕ) → count ≤ k → flag_at flags k ≡ false) → is_spare_clear count flags ≡ true
unfolding flag_at
spare-clear count flags n bytes h = by (count % 8 == 0) refl
  where
    by : (b : Bool) → (count % 8 == 0) ≡ b → (b || nat_lt (slice_index flags (count / 8)) (2 ^ (count % 8))) ≡ true
    by true e = refl
    by false e =
        let i = count % 8 in
        let far : (j : ℕ) → i ≤ j → j < 8 → (slice_index flags (count / 8) / 2 ^ j % 2 == 1) ≡ false = λ j l lt.
        let k = 8 * (count / 8) + j in
        let q : (8 * (count / 8) + j) / 8 ≡ count / 8 = omega arith in
        let r : (8 * (count / 8) + j) % 8 ≡ j = omega arith in
        let c = h (8 * (count / 8) + j) (omega arith) in
        rw (q, r) at c in
        lt-ltb _ _ (above (8 - count % 8) (count % 8) (slice_index flags (count / 8)) (omega arith) (bytes (count / 8)) far)

clear-above : (x i j : ℕ) → x < 2 ^ i → i ≤ j → (x / 2 ^ j % 2 == 1) ≡ false
clear-above x i j lt le =
    let p : 2 ^ i ≤ 2 ^ j = pow-le-pow_right (omega arith) le in
    let small : x < 2 ^ j = omega arith in
    let z : x / 2 ^ j ≡ 0 = div-eq_of_lt small in
    rw z refl

get-past : (xs : List ℕ) (i : ℕ) → length xs ≤ i → get_or xs i 0 ≡ 0
get-past [] i h = refl
get-past (x ∷ xs) zero h = absurd (omega arith)
get-past (x ∷ xs) (suc i) h = get-past xs i (omega arith)

pub spare-flags : (count : ℕ) (flags : List ℕ) → length flags ≡ flag_bytes count → is_spare_clear count flags ≡ true → (k : ℕ) → count ≤ k → flag_at flags k ≡ false
unfolding flag_at
spare-flags count flags n h k le = by (cases_lt (k / 8) (length flags))
  where
    by : (k / 8 < length flags) ⊎ (length flags ≤ k / 8) → (slice_index flags (k / 8) / 2 ^ (k % 8) % 2 == 1) ≡ false
    by (inr past) =
        let z : get_or flags (k / 8) 0 ≡ 0 = get-past flags (k / 8) past in
        rw z (clear-above 0 0 (k % 8) (omega arith) (omega arith))
    by (inl lt) = near (count % 8 == 0) refl h
      where
        near : (b : Bool) → (count % 8 == 0) ≡ b → (b || nat_lt (slice_index flags (count / 8)) (2 ^ (count % 8))) ≡ true → (slice_index flags (k / 8) / 2 ^ (k % 8) % 2 == 1) ≡ false
        near true e t = let z : count % 8 ≡ 0 = eqb-true _ _ e in absurd (omega arith)
        near false e t =
            let ne : count % 8 ≡ 0 → ⊥ = eqb-false _ _ e in
            let some : 0 < count % 8 = omega arith in
            let q : k / 8 ≡ count / 8 = omega arith in
            let small = ltb-true _ _ t in
            rw q (clear-above (slice_index flags (count / 8)) (count % 8) (k % 8) small (omega arith))

-- ---- the row

empty : (x : List ℕ) → length x ≡ 0 → x ≡ []
empty [] e = refl
empty (a ∷ x) e = absurd (omega arith)

ended-dynamic : (o : Option (Values × List ℕ)) (row : Values) → ended Dynamic o ≡ Some row → o ≡ Some (row, [])
ended-dynamic None row e = absurd cc
ended-dynamic (Some r) row e =
    let c = chosen (length r.1 == 0) r.0 row e in
    let z = empty r.1 (eqb-true _ _ c.0) in
    ap (λ (y : Values). Some (y, r.1)) c.1 ∙ ap (λ (y : List ℕ). Some (row, y)) z

ended-static : (o : Option (Values × List ℕ)) (row : Values) → ended Static o ≡ Some row → (rest : List ℕ) × (o ≡ Some (row, rest))
ended-static None row e = absurd cc
ended-static (Some r) row e = let same : r.0 ≡ row = cc in (r.1, ap (λ (y : Values). Some (y, r.1)) same)

both : (a b : Bool) → (a && b) ≡ true → (a ≡ true) × (b ≡ true)
both true b e = (refl, e)
both false b e = absurd cc

dynamic-row : (fs : List Field) (row : Values) (b flags content : List ℕ) → All (λ f. IsLengthOf Dynamic f.kind f.length) fs → AreBytes b → b ≡ flags ++ content → length flags ≡ flag_bytes (flag_count fs)
    → is_spare_clear (flag_count fs) flags ≡ true → ended Dynamic (fields_of Dynamic fs 0 flags content) ≡ Some row → IsDynamicRow fs row b
dynamic-row fs row b flags content l bytes e n s f =
    let B : List ℕ → Type 0 = λ z. AreBytes z in
    let t = fields-take Dynamic fs 0 flags content row [] l (bytes-behind flags content (subst B e bytes)) (ended-dynamic _ row f) in
    let c : content ≡ t.0 = t.1 ∙ append-nil t.0 in
    record { flags = flags; content = t.0; whole = e ∙ ap (λ (y : List ℕ). flags ++ y) c; count = n; spare = spare-flags (flag_count fs) flags n s; fields = t.2 }

dynamic-takes : (d : Defs) (row : Values) (b : List ℕ) → All (λ f. IsLengthOf Dynamic f.kind f.length) d.fields → AreBytes b → option_and_then (λ p. ended Dynamic (fields_of Dynamic d.fields 0 p.0 p.1)) (parts_of Dynamic d b) ≡ Some row → IsDynamicRow d.fields row b
dynamic-takes d row b l bytes e =
    let n = flag_bytes (flag_count d.fields) in
    let m = chained (λ (p : List ℕ × List ℕ). ended Dynamic (fields_of Dynamic d.fields 0 p.0 p.1)) (parts_of Dynamic d b) row e in
    let q = chained (λ (r : List ℕ × List ℕ). cond (is_spare_clear (flag_count d.fields) r.0) (Some r) None) (cut n b) m.0 m.1 in
    let s = chosen (is_spare_clear (flag_count d.fields) q.0.0) q.0 m.0 q.2 in
    let c = cut-takes n b q.0.0 q.0.1 q.1 in
    dynamic-row d.fields row b q.0.0 q.0.1 l bytes c.0 c.1 s.0 (ap (λ (p : List ℕ × List ℕ). ended Dynamic (fields_of Dynamic d.fields 0 p.0 p.1)) s.1 ∙ m.2)

not-zero : (x : ℕ) → not (x == 0) ≡ true → x ≢ 0
not-zero zero e z = absurd cc
not-zero (suc x) e z = omega arith

static-row : (fs : List Field) (slot : ℕ) (row : Values) (b : List ℕ) → All (λ f. IsLengthOf Static f.kind f.length) fs → AreBytes b → length b ≡ slot → slice_index b 0 ≢ 0 → ended Static (fields_of Static fs 0 [] b) ≡ Some row → IsStaticRow fs slot row b
static-row fs slot row b l bytes n told f =
    let r = ended-static _ row f in
    let t = fields-take Static fs 0 [] b row r.0 l bytes r.1 in
    record { content = t.0; rest = r.0; whole = t.1; slot = n; read = told; fields = t.2 }

static-takes : (d : Defs) (row : Values) (b : List ℕ) → All (λ f. IsLengthOf Static f.kind f.length) d.fields → AreBytes b → option_and_then (λ p. ended Static (fields_of Static d.fields 0 p.0 p.1)) (parts_of Static d b) ≡ Some row → IsStaticRow d.fields d.slot_length row b
static-takes d row b l bytes e =
    let m = chained (λ (p : List ℕ × List ℕ). ended Static (fields_of Static d.fields 0 p.0 p.1)) (parts_of Static d b) row e in
    let all : List ℕ × List ℕ = ([], b) in
    let s = chosen ((length b == d.slot_length) && not (slice_index b 0 == 0)) all m.0 m.1 in
    let t = both (length b == d.slot_length) (not (slice_index b 0 == 0)) s.0 in
    static-row d.fields d.slot_length row b l bytes (eqb-true _ _ t.0) (not-zero _ t.1) (ap (λ (p : List ℕ × List ℕ). ended Static (fields_of Static d.fields 0 p.0 p.1)) s.1 ∙ m.2)

pub row-takes : (d : Defs) (row : Values) (b : List ℕ) → All (λ f. IsLengthOf d.format f.kind f.length) d.fields → AreBytes b → row_of d b ≡ Some row → Packs d row b
unfolding row_of
row-takes d row b l bytes e = by d.format l e
  where
    by : (format : RowFormat) → All (λ f. IsLengthOf format f.kind f.length) d.fields → option_and_then (λ p. ended format (fields_of format d.fields 0 p.0 p.1)) (parts_of format d b) ≡ Some row → IsRow format d row b
    by Static l e = static-takes d row b l bytes e
    by Dynamic l e = dynamic-takes d row b l bytes e

pub dynamic-again : (d : Defs) (row : Values) (b : List ℕ) → (h : IsDynamicRow d.fields row b) → AreBytes h.flags → option_and_then (λ p. ended Dynamic (fields_of Dynamic d.fields 0 p.0 p.1)) (parts_of Dynamic d b) ≡ Some row
dynamic-again d row b h bytes =
    let c : cut (flag_bytes (flag_count d.fields)) b ≡ Some (h.flags, h.content) = ap (cut (flag_bytes (flag_count d.fields))) h.whole ∙ cut-again (flag_bytes (flag_count d.fields)) h.flags h.content h.count in
    let s : is_spare_clear (flag_count d.fields) h.flags ≡ true = spare-clear (flag_count d.fields) h.flags h.count bytes h.spare in
    let f : fields_of Dynamic d.fields 0 h.flags h.content ≡ Some (row, []) = ap (fields_of Dynamic d.fields 0 h.flags) (sym (append-nil h.content)) ∙ fields-again Dynamic d.fields 0 h.flags row h.content [] h.fields in
    rw (c, s, f) refl

pub static-again : (d : Defs) (row : Values) (b : List ℕ) → IsStaticRow d.fields d.slot_length row b → option_and_then (λ p. ended Static (fields_of Static d.fields 0 p.0 p.1)) (parts_of Static d b) ≡ Some row
static-again d row b h =
    let n : (length b == d.slot_length) ≡ true = eq-eqb _ _ h.slot in
    let t : (slice_index b 0 == 0) ≡ false = ne_eqb _ _ h.read in
    let f : fields_of Static d.fields 0 [] b ≡ Some (row, h.rest) = ap (fields_of Static d.fields 0 []) h.whole ∙ fields-again Static d.fields 0 [] row h.content h.rest h.fields in
    rw (n, t, f) refl

pub row-again : (d : Defs) (row : Values) (b : List ℕ) → AreBytes b → Packs d row b → row_of d b ≡ Some row
unfolding row_of
row-again d row b bytes h = by d.format h
  where
    by : (format : RowFormat) → IsRow format d row b → option_and_then (λ p. ended format (fields_of format d.fields 0 p.0 p.1)) (parts_of format d b) ≡ Some row
    by Static h = static-again d row b h
    by Dynamic h = let B : List ℕ → Type 0 = λ z. AreBytes z in dynamic-again d row b h (bytes-front h.flags h.content (subst B h.whole bytes))

pub row-once : (d : Defs) (r s : Values) (b : List ℕ) → AreBytes b → Packs d r b → Packs d s b → r ≡ s
row-once d r s b bytes p q = let e = row-again d r b bytes p in let f = row-again d s b bytes q in cc

pub view-packs : (d : Defs) (b : List ℕ) (found : Option Values) → All (λ f. IsLengthOf d.format f.kind f.length) d.fields → AreBytes b → MatchOption found (row_of d b ≡ None) (λ row. row_of d b ≡ Some row)
    → MatchOption found ((row : Values) → Packs d row b → ⊥) (λ row. Packs d row b)
view-packs d b None l bytes e = λ row h. let s = row-again d row b bytes h in absurd (cc (s, e))
view-packs d b (Some row) l bytes e = row-takes d row b l bytes e
