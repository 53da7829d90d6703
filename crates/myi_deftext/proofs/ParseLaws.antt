-- What is read of a text is what its grammar says.
use Rattle.std.proofs.Common.{◌≡◌, ℕ, List, Option, Some, None, Result, Ok, Err, ◌≢◌, IfOk, IfErr, refl, sym, subst, ◌∙◌}
use Rattle.myi_defs.specs.declared.types.Defs.{Defs}
use Rattle.myi_defs.specs.declared.types.DefFault.{DefFault}
use Rattle.myi_deftext.specs.declared.parse.TextFault.{TextFault}
use Rattle.myi_deftext.specs.declared.parse.TextFault.TheVariants as fault
use Rattle.myi_deftext.specs.Text.{lines, outside, said, start}
use Rattle.myi_deftext.specs.Grammar.{table_lines, IsFirstOutside}
use Rattle.myi_deftext.specs.TextHeader.{text_header}
use Rattle.myi_defs.specs.ReadDefs.{read_defs}
use Rattle.myi_deftext.specs.ParseText.{StandsFor, answer, parse_text}
use Rattle.myi_deftext.proofs.GrammarLaws.{in_grammar, says_said, first_outside}

stands : (x : List ℕ) (r : Result Defs DefFault) → outside (Some start) 0 (lines x) ≡ None → read_defs (text_header (said (lines x))) ≡ r → StandsFor x r
stands x r inside read =
    let text = in_grammar (lines x) inside in
    let same = says_said (lines x) (table_lines text.0) text.1.says in
    record { table = text.0; described = text.1; header = rw (← same) read }

made_by : (o : Option ℕ) (r : Result Defs DefFault) (d : Defs) → answer o r ≡ Ok d → (o ≡ None) × (r ≡ Ok d)
made_by (Some n) r d e = absurd cc
made_by None (Ok c) d e = (refl, cc)
made_by None (Err f) d e = absurd cc

refused_by : (o : Option ℕ) (r : Result Defs DefFault) (f : DefFault) → answer o r ≡ Err (fault.Def f) → (o ≡ None) × (r ≡ Err f)
refused_by (Some n) r f e = absurd cc
refused_by None (Ok c) f e = absurd cc
refused_by None (Err g) f e = (refl, cc)

outside_by : (o : Option ℕ) (r : Result Defs DefFault) (n : ℕ) → answer o r ≡ Err (fault.Line n) → o ≡ Some n
outside_by (Some m) r n e = cc
outside_by None (Ok c) n e = absurd cc
outside_by None (Err g) n e = absurd cc

pub made : (x : List ℕ) (d : Defs) → parse_text x ≡ Ok d → StandsFor x (Ok d)
unfolding parse_text
made x d e =
    let parts = made_by (outside (Some start) 0 (lines x)) (read_defs (text_header (said (lines x)))) d e in
    stands x (Ok d) parts.0 parts.1

pub refused : (x : List ℕ) (f : DefFault) → parse_text x ≡ Err (fault.Def f) → StandsFor x (Err f)
unfolding parse_text
refused x f e =
    let parts = refused_by (outside (Some start) 0 (lines x)) (read_defs (text_header (said (lines x)))) f e in
    stands x (Err f) parts.0 parts.1

pub line_outside : (x : List ℕ) (n : ℕ) → parse_text x ≡ Err (fault.Line n) → IsFirstOutside (lines x) n
unfolding parse_text
line_outside x n e = first_outside (lines x) n (outside_by (outside (Some start) 0 (lines x)) (read_defs (text_header (said (lines x)))) n e)

-- what a call tells of its answer
pub made_if : (x : List ℕ) (r : Result Defs TextFault) → IfOk r (λ d. parse_text x ≡ Ok d) → IfOk r (λ d. StandsFor x (Ok d))
made_if x (Ok d) e = made x d e
made_if x (Err f) e = tt

pub told : (x : List ℕ) (r : Result Defs TextFault) (f : TextFault) → IfErr r (λ g. g ≢ fault.Memory → parse_text x ≡ Err g) → r ≡ Err f → f ≢ fault.Memory → parse_text x ≡ Err f
told x (Ok d) f e is other = absurd cc
told x (Err g) f e is other = let same : g ≡ f = cc in subst (λ h. parse_text x ≡ Err h) same (e (λ memory. other (sym same ∙ memory)))
