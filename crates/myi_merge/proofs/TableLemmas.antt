-- The table of a number in a list, and the list when that table changed.
use Rattle.std.proofs.Common.{◌≡◌, ℕ, zero, suc, ◌+◌, ◌<◌, List, [], ◌∷◌, ◌++◌, length, map, take, get_or, set, slice_get, Option, Some, refl, sym, ap, subst, ◌∙◌, arith}
use Rattle.std.specs.Prelude.{IfSome, bytes_eq}
use Rattle.std.specs.List.{AllByRecursion, IsDistinct}
use Rattle.std.proofs.lemmas.Option.{same_Some}
use Rattle.myi_base.specs.Holding.{Holding}
use Rattle.myi_defs.specs.declared.types.Defs.{Defs}
use Rattle.myi_mergelist.specs.declared.list.InsertMethod.{InsertMethod}
use Rattle.myi_state.specs.State.{TableState}
use Rattle.myi_table.specs.Table.{OpenTable, defs_in, HoldState, IsSame}
use Rattle.myi_merge.specs.Merged.{IsMerge, IsLike, AreAlike, IsSoundTable, HoldEach}
use Rattle.myi_merge.specs.Merging.{AtTable}
use Rattle.myi_merge.proofs.FrameLemmas.{all_set}
use Rattle.myi_merge.proofs.CarryLemmas.{map_set}

all_at : {A : Type 0} (P : A → Type 0) (xs : List A) (i : ℕ) (d : A) → AllByRecursion P xs → i < length xs → P (get_or xs i d)
all_at P [] i d all lt = absurd (omega (arith, lt))
all_at P (x ∷ xs) zero d all lt = all.0
all_at P (x ∷ xs) (suc i) d all lt = all_at P xs i d all.1 (omega (arith, lt))

-- ---- what stands at an index

pub got : {A : Type 0} (xs : List A) (i : ℕ) (d x : A) → slice_get xs i ≡ Some x → get_or xs i d ≡ x
got [] i d x is = absurd cc
got (y ∷ ys) zero d x is = same_Some y x is
got (y ∷ ys) (suc i) d x is = got ys i d x is

pub got_back : {A : Type 0} (xs : List A) (i : ℕ) (x : A) → i < length xs → get_or xs i x ≡ x → slice_get xs i ≡ Some x
got_back [] i x lt at = absurd (omega (arith, lt))
got_back (y ∷ ys) zero x lt at = ap Some at
got_back (y ∷ ys) (suc i) x lt at = got_back ys i x (omega (arith, lt)) at

pub found : {A : Type 0} (xs : List A) (i : ℕ) → i < length xs → (x : A) × (slice_get xs i ≡ Some x)
found [] i lt = absurd (omega (arith, lt))
found (x ∷ xs) zero lt = (x, refl)
found (x ∷ xs) (suc i) lt = found xs i (omega (arith, lt))

pub is_inside : {A : Type 0} (xs : List A) (i : ℕ) (x : A) → slice_get xs i ≡ Some x → i < length xs
is_inside [] i x is = absurd cc
is_inside (y ∷ ys) zero x is = omega arith
is_inside (y ∷ ys) (suc i) x is = let more = is_inside ys i x is in omega (arith, more)

pub set_at : {A : Type 0} (xs : List A) (i : ℕ) (y x : A) → slice_get (set xs i y) i ≡ Some x → y ≡ x
set_at [] i y x is = absurd cc
set_at (z ∷ zs) zero y x is = same_Some y x is
set_at (z ∷ zs) (suc i) y x is = set_at zs i y x is

pub set_get : {A : Type 0} (xs : List A) (i : ℕ) (y : A) → i < length xs → slice_get (set xs i y) i ≡ Some y
set_get [] i y lt = absurd (omega (arith, lt))
set_get (x ∷ xs) zero y lt = refl
set_get (x ∷ xs) (suc i) y lt = set_get xs i y (omega (arith, lt))

pub set_long : {A : Type 0} (xs : List A) (i : ℕ) (y : A) → length (set xs i y) ≡ length xs
set_long [] i y = refl
set_long (x ∷ xs) zero y = refl
set_long (x ∷ xs) (suc i) y = let more = set_long xs i y in omega (arith, more)

pub at_one : (ts : List OpenTable) (i : ℕ) (t : OpenTable) (P : OpenTable → Type 0) → get_or ts i t ≡ t → P t → AtTable ts i P
at_one ts i t P at p = λ u is. subst P (sym at ∙ got ts i t u is) p

pub at_set : (ts : List OpenTable) (i : ℕ) (t : OpenTable) (P : OpenTable → Type 0) → P t → AtTable (set ts i t) i P
at_set ts i t P p = λ u is. subst P (set_at ts i t u is) p

pub at_get : (ts : List OpenTable) (i : ℕ) (t : OpenTable) (P : OpenTable → Type 0) → i < length ts → get_or ts i t ≡ t → AtTable ts i P → P t
at_get ts i t P lt at all = let it = found ts i lt in subst P (sym (got ts i t it.0 it.1) ∙ at) (all it.0 it.1)

pub map_at : {A B : Type 0} (f : A → B) (xs ys : List A) (i : ℕ) (x y : A) → map f xs ≡ map f ys → slice_get xs i ≡ Some x → slice_get ys i ≡ Some y → f x ≡ f y
map_at {A} {B} f xs ys i x y same at there = same_Some (f x) (f y) (sym (mapped xs i x at) ∙ ap (λ (l : List B). slice_get l i) same ∙ mapped ys i y there)
  where
    mapped : (zs : List A) (j : ℕ) (z : A) → slice_get zs j ≡ Some z → slice_get (map f zs) j ≡ Some (f z)
    mapped [] j z is = absurd cc
    mapped (w ∷ ws) zero z is = ap (λ (v : A). Some (f v)) (same_Some w z is)
    mapped (w ∷ ws) (suc j) z is = mapped ws j z is

pub take_push : {A : Type 0} (xs : List A) (i : ℕ) (x : A) → slice_get xs i ≡ Some x → take (i + 1) xs ≡ take i xs ++ x ∷ []
take_push [] i x is = absurd cc
take_push {A} (y ∷ ys) zero x is = ap (λ (z : A). z ∷ []) (same_Some y x is)
take_push {A} (y ∷ ys) (suc i) x is = let next : suc i + 1 ≡ suc (i + 1) = omega arith in ap (λ (n : ℕ). take n (y ∷ ys)) next ∙ ap (λ (l : List A). y ∷ l) (take_push ys i x is)

pub hold_get : (ts : List OpenTable) (ss : List TableState) (m : Holding) (i : ℕ) (t : OpenTable) (s : TableState) → HoldEach ts ss m → slice_get ts i ≡ Some t → slice_get ss i ≡ Some s → HoldState t s m
hold_get [] ss m i t s h at there = absurd cc
hold_get (u ∷ ts) [] m i t s h at there = elim h [ ]
hold_get (u ∷ ts) (v ∷ ss) m zero t s h at there = subst (λ (w : OpenTable). HoldState w s m) (same_Some u t at) (subst (λ (w : TableState). HoldState u w m) (same_Some v s there) h.0)
hold_get (u ∷ ts) (v ∷ ss) m (suc i) t s h at there = hold_get ts ss m i t s h.1 at there

-- ---- tables that are alike

like_itself : (d : Defs) → IsLike d d
like_itself d = record { format = refl; fields = refl; keys = refl }

pub like_all : (ts : List OpenTable) (first : OpenTable) → AreAlike ts → slice_get ts 0 ≡ Some first → AllByRecursion (λ (t : OpenTable). IsLike (defs_in first) (defs_in t)) ts
like_all [] first alike is = tt
like_all (t ∷ ts) first alike is = subst (λ (f : OpenTable). AllByRecursion (λ (u : OpenTable). IsLike (defs_in f) (defs_in u)) (t ∷ ts)) (same_Some t first is) (like_itself (defs_in t), alike)

pub like_at : (ts : List OpenTable) (first : OpenTable) (i : ℕ) (t : OpenTable) → AreAlike ts → slice_get ts 0 ≡ Some first → slice_get ts i ≡ Some t → IsLike (defs_in first) (defs_in t)
like_at ts first i t alike is at = subst (λ (u : OpenTable). IsLike (defs_in first) (defs_in u)) (got ts i t t at) (all_at (λ (u : OpenTable). IsLike (defs_in first) (defs_in u)) ts i t (like_all ts first alike is) (is_inside ts i t at))

-- each table has a tree for a key that the first has
pub key_at : (ts : List OpenTable) (i : ℕ) (t : OpenTable) (key : ℕ) → AreAlike ts → AllByRecursion IsSoundTable ts → i < length ts → get_or ts i t ≡ t → IfSome (slice_get ts 0) (λ (f : OpenTable). key < length (defs_in f).keys) → key < length t.rows.trees.places
key_at [] i t key alike sound lt at has = absurd (omega (arith, lt))
key_at (f ∷ ts) i t key alike sound lt at has =
    let all : AllByRecursion (λ (u : OpenTable). IsLike (defs_in f) (defs_in u)) (f ∷ ts) = (like_itself (defs_in f), alike) in
    let like = subst (λ (u : OpenTable). IsLike (defs_in f) (defs_in u)) at (all_at (λ (u : OpenTable). IsLike (defs_in f) (defs_in u)) (f ∷ ts) i t all lt) in
    let one = subst IsSoundTable at (all_at IsSoundTable (f ∷ ts) i t sound lt) in
    let keys : length (defs_in f).keys ≡ length (defs_in t).keys = ap length like.keys in
    let each : length t.rows.trees.places ≡ length (defs_in t).keys = one.each in
    omega (arith, has, keys, each)

alike_set : (ts : List OpenTable) (i : ℕ) (t new : OpenTable) → i < length ts → get_or ts i t ≡ t → defs_in new ≡ defs_in t → AreAlike ts → AreAlike (set ts i new)
alike_set [] i t new lt at same alike = absurd (omega (arith, lt))
alike_set (f ∷ ts) zero t new lt at same alike = subst (λ (d : Defs). AllByRecursion (λ (u : OpenTable). IsLike d (defs_in u)) ts) (ap defs_in at ∙ sym same) alike
alike_set (f ∷ ts) (suc i) t new lt at same alike =
    let low : i < length ts = omega (arith, lt) in
    all_set (λ (u : OpenTable). IsLike (defs_in f) (defs_in u)) ts i new alike (subst (IsLike (defs_in f)) (ap defs_in at ∙ sym same) (all_at (λ (u : OpenTable). IsLike (defs_in f) (defs_in u)) ts i t alike low))

-- a list is sound still when one table went on
pub merge_set : (ts : List OpenTable) (method : Option InsertMethod) (i : ℕ) (t new : OpenTable) → IsMerge (record { tables = ts; method = method }) → i < length ts → get_or ts i t ≡ t → IsSame t new → IsSoundTable new → IsMerge (record { tables = set ts i new; method = method })
merge_set ts method i t new was lt at same sound = record {
  some = let some = was.some in let long = set_long ts i new in omega (arith, some, long);
  few = let few = was.few in let long = set_long ts i new in omega (arith, few, long);
  named = subst (IsDistinct bytes_eq) (sym (map_set (λ (u : OpenTable). u.name) ts i t new (same.name ∙ ap (λ (u : OpenTable). u.name) (sym at)))) was.named;
  alike = alike_set ts i t new lt at same.defs was.alike;
  sound = all_set IsSoundTable ts i new was.sound sound;
}
