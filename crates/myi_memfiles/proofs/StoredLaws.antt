-- What the calls of files in memory do, over plain lists.
use Rattle.std.proofs.Common.{◌≡◌, ℕ, ◌+◌, ◌-◌, ◌≤◌, List, [], ◌∷◌, ◌++◌, length, take, drop, sym, arith, inl, inr, append_assoc, length-append, Option, Some, None, String, Vec, Result, Ok, Err, OnOk, OnErr, refl, ap, ◌∙◌}
use Rattle.std.specs.Prelude.{replicate}
use Rattle.std.specs.Option.{option_or}
use Rattle.std.proofs.lemmas.Bool.{cases_lt}
use Rattle.std.proofs.Math.Seq.{take-append-add}
use Rattle.std.proofs.lemmas.List.{append-nil, take_all, take-append-le, take-replicate, drop_all, length-replicate}
use Rattle.myi_base.specs.Holding.{resized, overwritten}
use Rattle.std.specs.declared.alloc.Global.{Global}
use Rattle.myi_memfiles.specs.Stored.{named, given}

option_or_assoc : {X : Type 0} (a b c : Option X) → option_or (option_or a b) c ≡ option_or a (option_or b c)
option_or_assoc None b c = refl
option_or_assoc (Some x) b c = refl

-- the file at the end counts before those that stand there
pub given_push : (files : List (String Global × Vec ℕ Global)) (file : String Global × Vec ℕ Global) (q : List ℕ) → given (files ++ file ∷ []) q ≡ option_or (named file q) (given files q)
given_push [] file q = last (named file q)
  where
    last : (o : Option (List ℕ)) → option_or None o ≡ option_or o None
    last None = refl
    last (Some x) = refl
given_push (first ∷ files) file q = ap (λ o. option_or o (named first q)) (given_push files file q) ∙ option_or_assoc (named file q) (given files q) (named first q)

-- what an answer allows may be said in other words
pub on_ok : {T E P Q : Type 0} (r : Result T E) → (P → Q) → OnOk r P → OnOk r Q
on_ok (Ok x) f p = f p
on_ok (Err e) f p = tt

pub on_err : {T E P Q : Type 0} (r : Result T E) → (P → Q) → OnErr r P → OnErr r Q
on_err (Ok x) f p = tt
on_err (Err e) f p = f p

grown_front : (at k : ℕ) (xs : List ℕ) → at ≤ length xs + k → take at (xs ++ replicate k 0) ≡ resized at xs
grown_front at k xs room = elim (cases_lt (length xs) at) [
  | inl past ↦
      let rest : at ≡ length xs + (at - length xs) = omega arith in
      let few : at - length xs ≤ k = omega arith in
      ap (λ n. take n (xs ++ replicate k 0)) rest ∙ take-append-add xs (replicate k 0) (at - length xs) ∙ ap (λ ys. xs ++ ys) (take-replicate (at - length xs) k 0 few) ∙ ap (λ ys. ys ++ replicate (at - length xs) 0) (sym (take_all at xs (omega arith)))
  | inr inside ↦
      let none : at - length xs ≡ 0 = omega arith in
      take-append-le at xs (replicate k 0) inside ∙ sym (append-nil (take at xs)) ∙ ap (λ n. take at xs ++ replicate n 0) (sym none)
]

grown_back : (end : ℕ) (xs : List ℕ) → drop end (xs ++ replicate (end - length xs) 0) ≡ drop end xs
grown_back end xs = elim (cases_lt (length xs) end) [
  | inl past ↦
      drop_all end (xs ++ replicate (end - length xs) 0) (omega (arith, length-append xs (replicate (end - length xs) 0), length-replicate {A = ℕ} (end - length xs) 0)) ∙ sym (drop_all end xs (omega arith))
  | inr inside ↦
      let none : end - length xs ≡ 0 = omega arith in
      ap (λ n. drop end (xs ++ replicate n 0)) none ∙ ap (drop end) (append-nil xs)
]

-- bytes that are grown first and then written over are those with the new ones written
pub grown_over : (at : ℕ) (bytes xs : List ℕ) → take at (xs ++ replicate (at + length bytes - length xs) 0) ++ (bytes ++ drop (at + length bytes) (xs ++ replicate (at + length bytes - length xs) 0)) ≡ overwritten at bytes xs
grown_over at bytes xs =
    ap (λ ys. ys ++ (bytes ++ drop (at + length bytes) (xs ++ replicate (at + length bytes - length xs) 0))) (grown_front at (at + length bytes - length xs) xs (omega arith))
    ∙ ap (λ ys. resized at xs ++ (bytes ++ ys)) (grown_back (at + length bytes) xs) ∙ sym (append_assoc (resized at xs) bytes (drop (at + length bytes) xs))
