-- How the calls of a creation compose, over plain holdings.
use Rattle.std.proofs.Common.{◌≡◌, ◌≢◌, ◌⊎◌, ℕ, ◌+◌, ◌-◌, ◌≤◌, List, [], ◌++◌, length, take, get_or, Option, Some, None, Ok, Err, unwrap_or, refl, sym, ap, subst, ◌∙◌, arith, inl, inr}
use Rattle.std.specs.Prelude.{codes, Result, IfErr, OnErr}
use Rattle.std.proofs.lemmas.List.{append_cancel_left, append-nil, take_all, drop_all}
use Rattle.myi_base.specs.Holding.{Holding, IfTold, Told, Sets, Cuts, Writes, bytes_of, resized, overwritten, Measures, IsFront}
use Rattle.myi_base.proofs.CallerLemmas.{told_then, told_more}
use Rattle.myi_defs.specs.declared.types.Defs.{Defs}
use Rattle.myi_deftext.specs.declared.parse.TextFault.{TextFault}
use Rattle.myi_deftext.specs.declared.parse.TextFault.TheVariants as text
use Rattle.myi_deftext.specs.ParseText.{parse_text}
use Rattle.myi_create.specs.declared.fault.CreateFault.{CreateFault}
use Rattle.myi_create.specs.declared.fault.CreateFault.TheVariants.{Memory}
use Rattle.myi_create.specs.Names.{ThreeNames, names_for, AreApart}
use Rattle.myi_create.specs.Creating.{fault_of, by_text, definitions_of, definitions_in, PutsPart, IsText, MakesPart, IsCutOff}

-- two ends of a name that differ in a byte
cell : (name a b : List ℕ) (i : ℕ) → name ++ a ≡ name ++ b → get_or a i 0 ≡ get_or b i 0
cell name a b i same = ap (λ xs. get_or xs i 0) (append_cancel_left name a b same)

fourth : (name a b : List ℕ) → get_or a 3 0 ≡ 68 → get_or b 3 0 ≡ 73 → name ++ a ≢ name ++ b
fourth name a b d i same = let other = cell name a b 3 same in omega (arith, d, i, other)

second : (name a b : List ℕ) → get_or a 1 0 ≡ 77 → get_or b 1 0 ≡ 84 → name ++ a ≢ name ++ b
second name a b m t same = let other = cell name a b 1 same in omega (arith, m, t, other)

apart_for : (name : List ℕ) → AreApart (names_for name)
apart_for name = record {
  rows-index = fourth name (codes ".MYD") (codes ".MYI") refl refl;
  rows-new_index = second name (codes ".MYD") (codes ".TMI") refl refl;
  index-new_index = second name (codes ".MYI") (codes ".TMI") refl refl;
}

pub apart_of : (t : ThreeNames) (name : List ℕ) → t ≡ names_for name → AreApart t
apart_of t name is = subst AreApart (sym is) (apart_for name)

-- bytes that are written to a file without bytes are the file
over_none : (bytes : List ℕ) → overwritten 0 bytes [] ≡ bytes
over_none bytes = let past : length {A = ℕ} [] ≤ 0 + length bytes = omega arith in rw (drop_all (0 + length bytes) [] past) (append-nil bytes)

resized_none : (xs : List ℕ) → resized 0 xs ≡ []
resized_none xs = let e : 0 - length xs ≡ 0 = omega arith in rw e refl

set_whole : (file bytes : List ℕ) (m n p : Holding) → Cuts file 0 m n → Writes file 0 bytes n p → Sets file bytes m p
set_whole file bytes m n p cut written = record {
  here = written.here ∙ ap (λ xs. Some (overwritten 0 bytes xs)) (ap (λ o. unwrap_or o []) cut.here ∙ resized_none (bytes_of file m)) ∙ ap Some (over_none bytes);
  others = λ q apart. written.others q apart ∙ cut.others q apart;
}

pub told_whole : (file bytes : List ℕ) (old mid new : Option Holding) → Told old mid (Cuts file 0) → Told mid new (Writes file 0 bytes) → Told old new (Sets file bytes)
told_whole file bytes old mid new cut written = told_then old mid new (Cuts file 0) (Writes file 0 bytes) (Sets file bytes) cut written (set_whole file bytes)

-- a file is read whole
pub text_is : (file front : List ℕ) (m : Holding) (size : Option ℕ) (n : ℕ) → size ≡ Some n → Measures (m file) size → IsFront file n front m → m file ≡ Some front
text_is file front m None n is measured read = absurd cc
text_is file front m (Some k) n is measured read =
    let same : k ≡ n = ap (λ o. unwrap_or o 0) is in
    let all : take n measured.0 ≡ measured.0 = take_all n measured.0 (omega (arith, measured.2)) in
    measured.1 ∙ ap Some (sym (read ∙ ap (λ o. take n (unwrap_or o [])) measured.1 ∙ all))

-- a fault of a text is one of its table
pub fault_told : (bytes : List ℕ) (e : TextFault) (f : CreateFault) → (e ≢ text.Memory → parse_text bytes ≡ Err e) → f ≡ fault_of e → (f ≡ Memory) ⊎ (definitions_of (Some bytes) ≡ Err f)
fault_told bytes (text.Line n) f refused is = inr (ap by_text (refused (λ memory. cc)) ∙ ap Err (sym is))
fault_told bytes (text.Def d) f refused is = inr (ap by_text (refused (λ memory. cc)) ∙ ap Err (sym is))
fault_told bytes text.Memory f refused is = inl is

pub cut_or : (f : CreateFault) (P Q : Type 0) → (f ≡ Memory) ⊎ P → (P → Q) → IsCutOff f ⊎ Q
cut_or f P Q (inl memory) go = inl (inr memory)
cut_or f P Q (inr other) go = inr (go other)

pub err_is : {T E : Type 0} (r : Result T E) (e : E) (P : E → Type 0) → r ≡ Err e → P e → IfErr r P
err_is (Ok x) e P is holds = absurd cc
err_is {T} {E} (Err f) e P is holds = subst P (same f e is) holds
  where
    same : (f e : E) → ◌≡◌ {A = Result T E} (Err f) (Err e) → e ≡ f
    same f e is = cc

-- the files of a text that stands for definitions were put in part
pub part_put : (name file : List ℕ) (t : ThreeNames) (d : Defs) (old mid new : Option Holding) → t ≡ names_for name → mid ≡ old → IfTold old (λ m. definitions_in file m ≡ Ok d) → Told mid new (PutsPart t) → Told old new (MakesPart (names_for name) file)
part_put name file t d old mid new is same read part =
    subst (λ u. Told old new (MakesPart u file)) is (told_more old new (PutsPart t) (MakesPart t file) (subst (λ h. Told h new (PutsPart t)) same part) (λ m n held p. record {
      rows = by p.rows (d, read m held);
      index = p.index;
      others = p.others;
    }))
  where
    by : {A B C : Type 0} → A ⊎ B → C → A ⊎ (B × C)
    by (inl a) c = inl a
    by (inr b) c = inr (b, c)

-- what holds anyway holds at an error
pub at_error : {A E : Type 0} (r : Result A E) (P : Type 0) → P → OnErr r P
at_error (Ok x) P holds = tt
at_error (Err e) P holds = holds
