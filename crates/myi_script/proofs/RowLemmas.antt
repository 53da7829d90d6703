-- What is read as a row is one, and each row is read.
use Rattle.std.proofs.Common.{◌≡◌, ℕ, List, [], ◌∷◌, Option, Some, None, Bool, true, false, cond, refl, ap, sym, ◌∙◌, subst}
use Rattle.std.specs.Prelude.{option_and_then}
use Rattle.myi_defs.specs.declared.types.Defs.{Defs}
use Rattle.myi_pack.specs.Spelling.{fits}
use Rattle.myi_script.specs.declared.form.Form.{Form}
use Rattle.myi_script.specs.Grammar.{row_forms, AreValues, IsRow}
use Rattle.myi_script.specs.Reading.{goes_on, value_of, next_value, before_values, then_values, values_of, fitting_row, row_of}
use Rattle.myi_script.proofs.ValueLemmas.{value_sound, value_back}
use Rattle.myi_script.proofs.WordLemmas.{MayFollow, value_ends, next_sound, next_back}

pub values_sound : (fs : List Form) (text : List ℕ) (row : List (List ℕ)) → values_of fs text ≡ Some row → AreValues fs text row
unfolding values_of
values_sound [] [] row e = (refl, let k = e in cc)
values_sound [] (c ∷ cs) row e = cc
values_sound (f ∷ fs) text row e = go (next_value 32 text) refl e (λ more u q. values_sound fs more u q)
  where
    all : (w more : List ℕ) (x : Option (List ℕ)) (o : Option (List (List ℕ))) → next_value 32 text ≡ Some (w, more) → value_of f w ≡ x → values_of fs more ≡ o → before_values x o ≡ Some row
        → ((more : List ℕ) (u : List (List ℕ)) → values_of fs more ≡ Some u → AreValues fs more u) → AreValues (f ∷ fs) text row
    all w more None o en ex eo h ih = cc
    all w more (Some v) None en ex eo h ih = cc
    all w more (Some v) (Some others) en ex eo h ih = (w, more, v, others, next_sound 32 text w more en, (let k = h in cc), value_sound f w v ex, ih more others eo)

    go : (o : Option (List ℕ × List ℕ)) → next_value 32 text ≡ o → then_values f o (λ more. values_of fs more) ≡ Some row → ((more : List ℕ) (u : List (List ℕ)) → values_of fs more ≡ Some u → AreValues fs more u) → AreValues (f ∷ fs) text row
    go None en h ih = cc
    go (Some p) en h ih = all p.0 p.1 (value_of f p.0) (values_of fs p.1) en refl refl h ih

pub follows : (fs : List Form) (text : List ℕ) (row : List (List ℕ)) (test : ℕ → Bool) → test 32 ≡ false → AreValues fs text row → MayFollow test text
follows [] text row test e h = let P : List ℕ → Type 0 = λ q. MayFollow test q in subst P (sym h.0) tt
follows (f ∷ fs) text row test e h = let P : List ℕ → Type 0 = λ q. MayFollow test q in subst P (sym h.4) e

pub values_back : (fs : List Form) (text : List ℕ) (row : List (List ℕ)) → AreValues fs text row → values_of fs text ≡ Some row
unfolding values_of
values_back [] text row h = rw h.0 (ap (λ q. Some q) (sym h.1))
values_back (f ∷ fs) text row h =
    ap (λ q. then_values f (next_value 32 q) (λ more. values_of fs more)) h.4
    ∙ ap (λ q. then_values f q (λ more. values_of fs more)) (next_back 32 h.0 h.1 (value_ends f h.0 h.2 h.1 h.6 (follows fs h.1 h.3 goes_on refl h.7)))
    ∙ ap (λ q. before_values q (values_of fs h.1)) (value_back f h.0 h.2 h.6)
    ∙ ap (λ q. before_values (Some h.2) q) (values_back fs h.1 h.3 h.7)
    ∙ ap (λ q. Some q) (sym h.5)

pub row_sound : (d : Defs) (text : List ℕ) (row : List (List ℕ)) → row_of d text ≡ Some row → IsRow d text row
unfolding row_of
row_sound d text row e = go (values_of (row_forms d) text) refl e
  where
    test : (u : List (List ℕ)) (b : Bool) → values_of (row_forms d) text ≡ Some u → fits d u ≡ b → cond b (Some u) None ≡ Some row → IsRow d text row
    test u true eu is h =
        let same : u ≡ row = let k = h in cc in
        let P : List (List ℕ) → Type 0 = λ q. IsRow d text q in
        subst P same (values_sound (row_forms d) text u eu, is)
    test u false eu is h = cc

    go : (o : Option (List (List ℕ))) → values_of (row_forms d) text ≡ o → option_and_then (fitting_row d) o ≡ Some row → IsRow d text row
    go None eo h = cc
    go (Some u) eo h = test u (fits d u) eo refl h

pub row_back : (d : Defs) (text : List ℕ) (row : List (List ℕ)) → IsRow d text row → row_of d text ≡ Some row
unfolding row_of
row_back d text row h = rw (values_back (row_forms d) text row h.0, h.1) refl
