-- What the header says that definitions were read from, and the index file itself.
use Rattle.std.proofs.Common.{◌≡◌, ℕ, zero, suc, ◌+◌, ◌-◌, ◌≤◌, Bool, true, false, bytes_eq, nat_lt, cond, not, List, length, map, take, drop, replicate, Ok, Err, refl, ap, subst, ◌∙◌, arith}
use Rattle.std.specs.Prelude.{Result, IfOk, IfErr}
use Rattle.std.proofs.lemmas.Bool.{le-ltb}
use Rattle.std.proofs.lemmas.List.{drop-take, take-take, length-take}
use Rattle.myi_base.specs.Numbers.{num_at, pointer_of}
use Rattle.myi_base.specs.Items.{numbers}
use Rattle.myi_defs.specs.declared.types.Defs.{Defs}
use Rattle.myi_defs.specs.Sound.{IsSound}
use Rattle.myi_defs.specs.Layout.{mark}
use Rattle.myi_header.specs.declared.state.State.{State}
use Rattle.myi_header.specs.declared.state.StateFault.TheVariants.{Short, Foreign}
use Rattle.myi_header.specs.Layout.{layout_of}
use Rattle.myi_header.specs.StateOf.{state_of, has_mark, read_state}
use Rattle.myi_header.proofs.CallerLemmas.{state-take}

base_is : (d : Defs) → IsSound d → (layout_of d).base ≡ num_at 12 2 d.raw
base_is d sound = omega (arith, sound.base)

part_take : (at k n : ℕ) (x : List ℕ) → at + k ≤ n → take k (drop at (take n x)) ≡ take k (drop at x)
part_take at k n x inside =
    let split : n ≡ at + (n - at) = omega arith in
    ap (λ m. take k (drop at (take m x))) split ∙ ap (take k) (drop-take at (n - at) x) ∙ take-take k (n - at) (drop at x) (omega arith)

raw_short : (d : Defs) (n : ℕ) (x : List ℕ) → d.raw ≡ take n x → length d.raw ≤ n
raw_short d n x is = omega (arith, ap (λ (xs : List ℕ). length xs) is, length-take n x)

pub state_is : (d : Defs) (n : ℕ) (x : List ℕ) → IsSound d → d.raw ≡ take n x → state_of d d.raw ≡ state_of d x
state_is d n x sound is = ap (state_of d) is ∙ state-take d n x sound (raw_short d n x is)

pub mark_is : (d : Defs) (n : ℕ) (x : List ℕ) → IsSound d → d.raw ≡ take n x → has_mark d d.raw ≡ has_mark d x
unfolding has_mark
mark_is d n x sound is =
    let base = (layout_of d).base in
    ap (λ (y : List ℕ). bytes_eq (take 6 (drop (base + 94) y)) mark) is
    ∙ ap (λ (y : List ℕ). bytes_eq y mark) (part_take (base + 94) 6 n x (omega (arith, base_is d sound, sound.base_inside, raw_short d n x is)))

-- the header is not short of itself
pub not_short : (d : Defs) → read_state d d.raw ≡ Err Short → ⊥
unfolding read_state
not_short d short = by (nat_lt (length d.raw) (length d.raw)) (le-ltb (length d.raw) (length d.raw) (omega arith)) (has_mark d d.raw) short
  where
    by : (b : Bool) → b ≡ false → (m : Bool) → (cond b (Err Short) (cond (not m) (Err Foreign) (Ok (state_of d d.raw)))) ≡ Err Short → ⊥
    by true is m e = absurd cc
    by false is true e = absurd cc
    by false is false e = absurd cc

pub marked_ok : (d : Defs) (s : State) → read_state d d.raw ≡ Ok s → true ≡ has_mark d d.raw
unfolding read_state
marked_ok d s ok = by (nat_lt (length d.raw) (length d.raw)) (has_mark d d.raw) ok
  where
    by : (b m : Bool) → (cond b (Err Short) (cond (not m) (Err Foreign) (Ok (state_of d d.raw)))) ≡ Ok s → true ≡ m
    by true m e = absurd cc
    by false true e = refl
    by false false e = absurd cc

pub state_ok : (d : Defs) (s : State) → read_state d d.raw ≡ Ok s → s ≡ state_of d d.raw
unfolding read_state
state_ok d s ok = by (nat_lt (length d.raw) (length d.raw)) (has_mark d d.raw) ok
  where
    by : (b m : Bool) → (cond b (Err Short) (cond (not m) (Err Foreign) (Ok (state_of d d.raw)))) ≡ Ok s → s ≡ state_of d d.raw
    by true m e = absurd cc
    by false true e = cc
    by false false e = absurd cc

pub marked_not : (d : Defs) → read_state d d.raw ≡ Err Foreign → false ≡ has_mark d d.raw
unfolding read_state
marked_not d absent = by (nat_lt (length d.raw) (length d.raw)) (has_mark d d.raw) absent
  where
    by : (b m : Bool) → (cond b (Err Short) (cond (not m) (Err Foreign) (Ok (state_of d d.raw)))) ≡ Err Foreign → false ≡ m
    by true m e = absurd cc
    by false true e = absurd cc
    by false false e = refl

roots_long : (at n : ℕ) (x : List ℕ) → length (map pointer_of (numbers at (replicate n 8) x)) ≡ n
roots_long at zero x = refl
roots_long at (suc n) x = ap suc (roots_long (at + 8) n x)

pub as_many_roots : (d : Defs) (x : List ℕ) → length (state_of d x).roots ≡ length d.keys
unfolding state_of
as_many_roots d x = roots_long 124 (length d.keys) x

pub ok_is : {T E : Type 0} (r : Result T E) {x : T} (P : T → Type 0) → r ≡ Ok x → P x → IfOk r P
ok_is {T} {E} (Ok y) {x} P is holds = subst P (same y x is) holds
  where
    same : (y x : T) → ◌≡◌ {A = Result T E} (Ok y) (Ok x) → x ≡ y
    same y x is = cc
ok_is (Err e) P is holds = absurd cc

pub err_is : {T E : Type 0} (r : Result T E) {e : E} (P : E → Type 0) → r ≡ Err e → P e → IfErr r P
err_is (Ok x) P is holds = absurd cc
err_is {T} {E} (Err f) {e} P is holds = subst P (same f e is) holds
  where
    same : (f e : E) → ◌≡◌ {A = Result T E} (Err f) (Err e) → e ≡ f
    same f e is = cc

pub if_err : {T E : Type 0} (r : Result T E) {e : E} (P : T → Type 0) → r ≡ Err e → IfOk r P
if_err (Ok x) P is = absurd cc
if_err (Err f) P is = tt
