-- The text of a script that is read, where files tell what they hold.
use Rattle.std.proofs.Common.{◌≡◌, arith, ℕ, List, [], take, Option, Some, None, Result, Ok, sym, ap, ◌∙◌}
use Rattle.std.specs.Prelude.{unwrap_or}
use Rattle.std.proofs.lemmas.List.{take_all}
use Rattle.myi_base.specs.Holding.{Holding, Measures, IsFront}
use Rattle.myisamkit.specs.Shells.{Refusal, tables_in, text_by, text_among, text_in}

-- a file is read whole
pub file_is : (file front : List ℕ) (m : Holding) (size : Option ℕ) (n : ℕ) → size ≡ Some n → Measures (m file) size → IsFront file n front m → m file ≡ Some front
file_is file front m None n is measured read = absurd cc
file_is file front m (Some k) n is measured read =
    let same : k ≡ n = ap (λ o. unwrap_or o 0) is in
    let all : take n measured.0 ≡ measured.0 = take_all n measured.0 (omega (arith, measured.2, same)) in
    measured.1 ∙ ap Some (sym (read ∙ ap (λ o. take n (unwrap_or o [])) measured.1 ∙ all))

pub text_read : (script : List ℕ) (absent wrong file : Option (List ℕ)) (text : List ℕ) → absent ≡ None → wrong ≡ None → file ≡ Some text → text_by script absent wrong file ≡ Ok text
text_read script absent wrong file text one other there = ap (λ a. text_by script a wrong file) one ∙ ap (λ w. text_by script None w file) other ∙ ap (text_by script None None) there

-- the names that were read are those of the tables
pub read_in : (names : List (List ℕ)) (name script : List ℕ) (m : Holding) (r : Result (List ℕ) Refusal) → names ≡ tables_in name m → text_among names script m ≡ r → text_in name script m ≡ r
unfolding text_in
read_in names name script m r same read = ap (λ (q : List (List ℕ)). text_among q script m) (sym same) ∙ read
