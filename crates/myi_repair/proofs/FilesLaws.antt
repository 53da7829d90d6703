-- How changes of the files of a table compose, over plain holdings.
use Rattle.std.proofs.Common.{◌≡◌, ◌≢◌, ◌⊎◌, ℕ, ◌+◌, ◌-◌, ◌≤◌, List, [], ◌++◌, length, get_or, Option, Some, Ok, Err, unwrap_or, refl, sym, ap, subst, ◌∙◌, arith, inl, inr}
use Rattle.std.specs.Prelude.{codes, Result, IfOk}
use Rattle.std.proofs.lemmas.List.{append_cancel_left, append-nil, take_all, drop_all}
use Rattle.myi_base.specs.Holding.{Holding, Told, resized, overwritten, OthersStay}
use Rattle.myi_repair.specs.Names.{FourNames, names_for, AreApart, KeepsBoth}
use Rattle.myi_repair.specs.Finishing.{IsWhole}

-- two ends of a name that differ in a byte
cell : (name a b : List ℕ) (i : ℕ) → name ++ a ≡ name ++ b → get_or a i 0 ≡ get_or b i 0
cell name a b i same = ap (λ xs. get_or xs i 0) (append_cancel_left name a b same)

fourth : (name a b : List ℕ) → get_or a 3 0 ≡ 68 → get_or b 3 0 ≡ 73 → name ++ a ≢ name ++ b
fourth name a b d i same = let other = cell name a b 3 same in omega (arith, d, i, other)

second : (name a b : List ℕ) → get_or a 1 0 ≡ 77 → get_or b 1 0 ≡ 84 → name ++ a ≢ name ++ b
second name a b m t same = let other = cell name a b 1 same in omega (arith, m, t, other)

pub apart_for : (name : List ℕ) → AreApart (names_for name)
apart_for name = record {
  rows-index = fourth name (codes ".MYD") (codes ".MYI") refl refl;
  rows-new_rows = second name (codes ".MYD") (codes ".TMD") refl refl;
  rows-new_index = second name (codes ".MYD") (codes ".TMI") refl refl;
  index-new_rows = second name (codes ".MYI") (codes ".TMD") refl refl;
  index-new_index = second name (codes ".MYI") (codes ".TMI") refl refl;
  new_rows-new_index = fourth name (codes ".TMD") (codes ".TMI") refl refl;
}

pub apart_of : (t : FourNames) (name : List ℕ) → t ≡ names_for name → AreApart t
apart_of t name is = subst AreApart (sym is) (apart_for name)

-- files hold one thing
pub same_holding : (h : Option Holding) (n o : Holding) → h ≡ Some n → h ≡ Some o → n ≡ o
same_holding h n o one other = ap (λ b. unwrap_or b n) (sym one ∙ other)

-- two facts of one step
pub told_and : (old new : Option Holding) (P Q : Holding → Holding → Type 0) → Told old new P → Told old new Q → Told old new (λ m n. P m n × Q m n)
told_and old new P Q one other = record {
  told = λ m held.
      let x = one.told m held in
      let y = other.told m held in
      (x.0, x.1, (x.2, subst (Q m) (same_holding new y.0 x.0 y.1 x.1) y.2));
  untold = one.untold;
}

-- two facts of what an Ok holds
pub both_ok : {T E : Type 0} (r : Result T E) (P Q : T → Type 0) → IfOk r P → IfOk r Q → IfOk r (λ x. P x × Q x)
both_ok (Ok x) P Q one other = (one, other)
both_ok (Err e) P Q one other = tt

-- the files before a step that left them as they were
pub told_from : (old mid new : Option Holding) (P : Holding → Holding → Type 0) → mid ≡ old → Told mid new P → Told old new P
told_from old mid new P same is = subst (λ h. Told h new P) same is

-- bytes that are written at the end of a file are appended
pub appended : (w bytes : List ℕ) → overwritten (length w) bytes w ≡ w ++ bytes
appended w bytes =
    let none : length w - length w ≡ 0 = omega arith in
    let past : length w ≤ length w + length bytes = omega arith in
    rw (none, take_all (length w) w (omega arith), drop_all (length w + length bytes) w past) (append-nil _ ∙ ap (λ xs. xs ++ bytes) (append-nil w))

-- a file of length 0 has no byte
pub resized_none : (xs : List ℕ) → resized 0 xs ≡ []
resized_none xs = let e : 0 - length xs ≡ 0 = omega arith in rw e refl

-- what is whole beside files that both stay is so afterwards
pub whole_after : (t : FourNames) (d x : List ℕ) (m n p : Holding) → KeepsBoth t n p → IsWhole t d x m n → IsWhole t d x m p
whole_after t d x m n p stays (inl keeps) = inl (record { rows = stays.rows ∙ keeps.rows; index = stays.index ∙ keeps.index })
whole_after t d x m n p stays (inr replaced) = inr (record { rows = stays.rows ∙ replaced.rows; index = index_after replaced.index })
  where
    index_after : (n t.index ≡ m t.index) ⊎ (n t.index ≡ Some x) → (p t.index ≡ m t.index) ⊎ (p t.index ≡ Some x)
    index_after (inl same) = inl (stays.index ∙ same)
    index_after (inr new) = inr (stays.index ∙ new)

-- what is whole beside the files after both stayed is so beside those before
pub whole_before : (t : FourNames) (d x : List ℕ) (m n p : Holding) → KeepsBoth t m n → IsWhole t d x n p → IsWhole t d x m p
whole_before t d x m n p stays (inl keeps) = inl (record { rows = keeps.rows ∙ stays.rows; index = keeps.index ∙ stays.index })
whole_before t d x m n p stays (inr replaced) = inr (record { rows = replaced.rows; index = index_before replaced.index })
  where
    index_before : (p t.index ≡ n t.index) ⊎ (p t.index ≡ Some x) → (p t.index ≡ m t.index) ⊎ (p t.index ≡ Some x)
    index_before (inl same) = inl (same ∙ stays.index)
    index_before (inr new) = inr new

pub both_new_rows : (t : FourNames) (m n : Holding) → AreApart t → OthersStay t.new_rows m n → KeepsBoth t m n
both_new_rows t m n apart keeps = record { rows = keeps t.rows apart.rows-new_rows; index = keeps t.index apart.index-new_rows }

pub both_after : (t : FourNames) (m n p : Holding) → KeepsBoth t n p → KeepsBoth t m n → KeepsBoth t m p
both_after t m n p second first = record { rows = second.rows ∙ first.rows; index = second.index ∙ first.index }
