-- A text that is appended piece by piece.
use Rattle.std.proofs.Common.{◌≡◌, ℕ, List, [], ◌∷◌, ◌++◌, length, take, drop, Some, refl, sym, ap, subst, ◌∙◌, arith, append_assoc, append-nil, length-append}
use Rattle.std.proofs.lemmas.List.{take_at, take-append-drop}
use Rattle.std.specs.Prelude.{Result, Ok, Err, OnErr}
use Rattle.myi_base.specs.Output.{AppendsPart}
use Rattle.myi_pack.specs.Packed.{Values}
use Rattle.myi_pack.specs.declared.fields.FieldView.{FieldView}
use Rattle.myi_pack.specs.Views.{IsNextShown, field_value}

-- of a text all was appended but this rest
pub record Front (old new text rest : List ℕ) : Type 0 where
  pub done : List ℕ
  pub is : new ≡ old ++ done
  pub whole : text ≡ done ++ rest

-- nothing yet
pub front_none : (old text : List ℕ) → Front old old text text
front_none old text = record { done = []; is = sym (append-nil old); whole = refl }

-- one piece more
pub front_more : (old mid new text piece rest : List ℕ) → Front old mid text (piece ++ rest) → new ≡ mid ++ piece → Front old new text rest
front_more old mid new text piece rest f more = record {
  done = f.done ++ piece;
  is = more ∙ ap (λ t. t ++ piece) f.is ∙ append_assoc old f.done piece;
  whole = f.whole ∙ sym (append_assoc f.done piece rest);
}

-- all
pub front_all : (old new text : List ℕ) → Front old new text [] → new ≡ old ++ text
front_all old new text f = f.is ∙ ap (λ t. old ++ t) (sym (append-nil f.done) ∙ sym f.whole)

-- a first part was appended
pub front_part : (old new text rest : List ℕ) → Front old new text rest → AppendsPart text (Some new) old
front_part old new text rest f = (
  length f.done,
  omega (arith, ap (λ t. length t) f.whole, length-append f.done rest),
  ap (λ (t : List ℕ). Some t) (f.is ∙ ap (λ t. old ++ t) (sym (ap (take (length f.done)) f.whole ∙ take_at f.done rest (length f.done) refl))),
)

-- a first part of the next piece was appended
pub part_more : (old mid new text piece rest : List ℕ) → Front old mid text (piece ++ rest) → AppendsPart piece (Some new) mid → AppendsPart text (Some new) old
part_more old mid new text piece rest f (k, le, is) =
    let part : new ≡ mid ++ take k piece = cc in
    let left : piece ≡ take k piece ++ drop k piece = sym (take-append-drop k piece) in
    front_part old new text (drop k piece ++ rest)
    (front_more old mid new text (take k piece) (drop k piece ++ rest)
    (record { done = f.done; is = f.is; whole = f.whole ∙ ap (λ t. f.done ++ t) (ap (λ t. t ++ rest) left ∙ append_assoc (take k piece) (drop k piece) rest) }) part)

-- at an error this holds
pub on_err : {T E : Type 0} (r : Result T E) (P : Type 0) → P → OnErr r P
on_err (Ok x) P p = tt
on_err (Err e) P p = p

pub part_same : (old mid new text rest : List ℕ) → Front old mid text rest → new ≡ mid → AppendsPart text (Some new) old
part_same old mid new text rest f same = subst (λ (t : List ℕ). AppendsPart text (Some t) old) (sym same) (front_part old mid text rest f)

-- the value that comes next, and the others
pub shown_next : (all left : Values) (length : ℕ) (shown : FieldView) → IsNextShown all (Some (length, shown)) left → all ≡ field_value length shown ∷ left
shown_next [] left length shown is = absurd is
shown_next (v ∷ vs) left length shown is = ap (λ (w : List ℕ). w ∷ vs) is.0 ∙ ap (λ (ws : Values). field_value length shown ∷ ws) (sym is.1)
