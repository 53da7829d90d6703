-- What a walk over the values of a row has before it.
use Rattle.std.proofs.Common.{◌≡◌, ℕ, suc, ◌+◌, ◌-◌, ◌<◌, List, [], ◌∷◌, ◌++◌, length, get_or, drop, replicate, Option, Some, None, refl, sym, ap, subst, ◌∙◌, arith, rules, length-append}
use Rattle.std.specs.Prelude.{IsSome}
use Rattle.std.proofs.lemmas.List.{length-replicate, length-drop, drop-drop, get_or-drop}
use Rattle.myi_pack.specs.declared.fields.FieldView.{FieldView}
use Rattle.myi_pack.specs.declared.fields.FieldView.TheVariants as views
use Rattle.myi_pack.specs.Packed.{Values, spaces}
use Rattle.myi_defs.specs.declared.types.RowFormat.{RowFormat}
use Rattle.myi_defs.specs.declared.types.Field.{Field}
use Rattle.myi_pack.specs.Flags.{flag_at, next_flag}
use Rattle.myi_pack.specs.Unpacking.{Cut, put_front, then_fields, field_of, fields_of}
use Rattle.myi_pack.specs.Left.{values_of, values_left}
use Rattle.myi_pack.specs.Views.{field_value, Shows, IsNext}

pub next_some : (old : Values) (r : Option FieldView) (new : Values) → IsNext old r new → 0 < length old → IsSome r
next_some [] r new h lt = absurd (omega arith)
next_some (v ∷ vs) None new h lt = absurd h
next_some (v ∷ vs) (Some view) new h lt = search rules

pub next_rest : (old : Values) (r : Option FieldView) (new : Values) → IsNext old r new → new ≡ drop 1 old
next_rest [] None new h = h
next_rest [] (Some view) new h = absurd h
next_rest (v ∷ vs) None new h = absurd h
next_rest (v ∷ vs) (Some view) new h = h.1

pub next_shown : (old : Values) (view : FieldView) (new : Values) → IsNext old (Some view) new → Shows view (get_or old 0 [])
next_shown [] view new h = absurd h
next_shown (v ∷ vs) view new h = h.0

shown_again : (n : ℕ) (view : FieldView) → field_value n view ≡ field_value (length (field_value n view)) view
shown_again n (views.Plain b) = refl
shown_again n (views.Padded b) = ap (λ k. b.now ++ replicate k 32) (omega (arith, length-append b.now (spaces (n - length b.now)), length-replicate {A = ℕ}))
shown_again n (views.Led b) = ap (λ k. replicate k 32 ++ b.now) (omega (arith, length-append (spaces (n - length b.now)) b.now, length-replicate {A = ℕ}))
shown_again n views.Zeros = ap (λ k. replicate k 0) (sym (length-replicate n 0))

pub shows : (n : ℕ) (view : FieldView) (v : List ℕ) → v ≡ field_value n view → Shows view v
shows n view v e = e ∙ shown_again n view ∙ ap (λ (x : List ℕ). field_value (length x) view) (sym e)

pub goes_on : (row old : Values) (r : Option FieldView) (new : Values) (j : ℕ) → IsNext old r new → old ≡ drop j row → new ≡ drop (j + 1) row
goes_on row old r new j h e = next_rest old r new h ∙ ap (drop 1) e ∙ drop-drop 1 j row

pub has_next : (row old : Values) (r : Option FieldView) (new : Values) (j : ℕ) → IsNext old r new → old ≡ drop j row → j < length row → IsSome r
has_next row old r new j h e lt = next_some old r new h (omega (arith, length-drop {A = List ℕ}, ap length e))

pub shows_here : (row old : Values) (view : FieldView) (r : Option FieldView) (new : Values) (j : ℕ) → r ≡ Some view → IsNext old r new → old ≡ drop j row → Shows view (get_or row j [])
shows_here row old view r new j is h e =
    let P : Option FieldView → Type 0 = λ o. IsNext old o new in
    let s = next_shown old view new (subst P is h) in
    let v : get_or old 0 [] ≡ get_or row j [] = ap (λ (x : Values). get_or x 0 []) e ∙ get_or-drop j row 0 [] ∙ ap (λ n. get_or row n []) (omega arith) in
    let Q : List ℕ → Type 0 = λ x. Shows view x in
    subst Q v s

-- ---- there is one value for each field

front_length : (v : List ℕ) (o : Option (Values × List ℕ)) (n : ℕ) → IsSome (put_front v o) → (IsSome o → length (values_of o) ≡ n) → length (values_of (put_front v o)) ≡ suc n
front_length v None n s h = absurd cc
front_length v (Some r) n s h = ap suc (h refl)

then_length : (more : List ℕ → Option (Values × List ℕ)) (c : Cut) (n : ℕ) → IsSome (then_fields more c) → ((b : List ℕ) → IsSome (more b) → length (values_of (more b)) ≡ n) → length (values_of (then_fields more c)) ≡ suc n
then_length more None n s h = absurd cc
then_length more (Some r) n s h = front_length r.0 (more r.1) n s (h r.1)

pub length-values : (format : RowFormat) (fs : List Field) (k : ℕ) (flags b : List ℕ) → IsSome (fields_of format fs k flags b) → length (values_left format fs k flags b) ≡ length fs
length-values format [] k flags b s = refl
length-values format (f ∷ fs) k flags b s = then_length (fields_of format fs (next_flag f.kind k) flags) (field_of format f (flag_at flags k) b) (length fs) s (λ b. length-values format fs (next_flag f.kind k) flags b)
