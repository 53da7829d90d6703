-- Noting keys in a map, one after the other from the last on.
use Rattle.std.proofs.Common.{◌≡◌, ℕ, ◌+◌, ◌≤◌, ◌<◌, Bool, true, false, cond, ◌||◌, List, [], ◌∷◌, ◌++◌, length, Option, Some, None, is_some, Ok, Err, Result, refl, sym, ap, ◌∙◌, arith, append_assoc}
use Rattle.std.specs.Prelude.{◌↔◌, IsOk, OnOk, IsSome}
use Rattle.std.proofs.lemmas.List.{append-nil, length_push}
use Rattle.indexmap.specs.IndexMap.{IndexMap, get, spare, Updates}
use Rattle.myi_inserter.specs.declared.unique_key.UniqueKey.{UniqueKey}
use Rattle.myi_inserter.specs.UniqueKeys.{is_same}
use Rattle.myi_inserter.specs.Putting.{has_key, FindsMore}

pub on_ok : {T E P : Type 0} (r : Result T E) → IsOk r → OnOk r P → P
on_ok (Ok x) is p = p
on_ok (Err e) is p = absurd cc

by_case : (b c : Bool) (at : ℕ) (old : Option ℕ) → cond b (Some at) (cond c (Some at) old) ≡ cond (b || c) (Some at) old
by_case true c at old = refl
by_case false c at old = refl

-- these keys are left, and those behind them are noted
abbrev pub Noted : {S : Type 0} → List UniqueKey → IndexMap UniqueKey ℕ S → ℕ → List UniqueKey → IndexMap UniqueKey ℕ S → Type 0
Noted keys old at left put = (done : List UniqueKey) × (keys ≡ left ++ done) × FindsMore old put done at × (length left ≤ spare put)

pub none_noted : {S : Type 0} (keys left : List UniqueKey) (old : IndexMap UniqueKey ℕ S) (at : ℕ) → left ≡ keys → length keys ≤ spare old → Noted keys old at left old
none_noted keys left old at same room = ([], sym same ∙ sym (append-nil left), λ q. refl, (let long = ap (λ (l : List UniqueKey). length l) same in omega (arith, room, long)))

pub one_noted : {S : Type 0} (keys left next : List UniqueKey) (old put new : IndexMap UniqueKey ℕ S) (at : ℕ) (key : UniqueKey) → Noted keys old at left put → left ≡ next ++ key ∷ [] → Updates is_same put new key (Some at) → spare put ≤ spare new + 1 → Noted keys old at next new
one_noted keys left next old put new at key n is updates room = (
  key ∷ n.0,
  n.1 ∙ ap (λ (l : List UniqueKey). l ++ n.0) is ∙ append_assoc next (key ∷ []) n.0,
  λ q. updates.0 q ∙ ap (cond (is_same key q) (Some at)) (n.2 q) ∙ by_case (is_same key q) (has_key q n.0) at (get is_same old q),
  (let long : length left ≡ length next + 1 = ap (λ (l : List UniqueKey). length l) is ∙ length_push next key in
      let was = n.3 in omega (arith, long, was, room)),
)

pub some_room : {S : Type 0} (keys left next : List UniqueKey) (old put : IndexMap UniqueKey ℕ S) (at : ℕ) (key : UniqueKey) → Noted keys old at left put → left ≡ next ++ key ∷ [] → 0 < spare put
some_room keys left next old put at key n is = let long : length left ≡ length next + 1 = ap (λ (l : List UniqueKey). length l) is ∙ length_push next key in let was = n.3 in omega (arith, long, was)

pub all_noted : {S : Type 0} (keys left : List UniqueKey) (old put : IndexMap UniqueKey ℕ S) (at : ℕ) → Noted keys old at left put → left ≡ [] → FindsMore old put keys at
all_noted keys left old put at n none = λ q. n.2 q ∙ ap (λ (l : List UniqueKey). cond (has_key q l) (Some at) (get is_same old q)) (sym (n.1 ∙ ap (λ (l : List UniqueKey). l ++ n.0) none))

pub none_left : (xs : List UniqueKey) (n : ℕ) (r : Option UniqueKey) → n ≡ length xs → IsSome r ↔ (0 < n) → r ≡ None → xs ≡ []
none_left [] n r long iff none = refl
none_left (x ∷ xs) n r long iff none = let some : ◌≡◌ {A = Bool} false true = ap is_some (sym none) ∙ iff.1 (omega (arith, long)) in absurd cc
