-- A script, this project's own: lines of UTF-8 ended by line feeds, the last of which may lack its own. Empty lines and
-- comments do nothing and are counted. Nothing of a session follows its end.
use Rattle.std.specs.Prelude.{◌≡◌, ℕ, ◌+◌, ◌-◌, ◌≤◌, Bool, true, false, ◌==◌, nat_le, if◌then◌else◌, List, [], ◌∷◌, ◌++◌, length, take, Option, Some, None, Result, Ok, Err, MatchBool}
use Rattle.std.specs.List.{list_any}
use Rattle.std.specs.Str.{IsUtf8, is_utf8}
use Rattle.myi_defs.specs.declared.types.Defs.{Defs}
use Rattle.myi_deftext.specs.Text.{lines}
use Rattle.myi_script.specs.declared.types.Act.{Act}
use Rattle.myi_script.specs.declared.types.Act.TheVariants as act
use Rattle.myi_script.specs.declared.types.Line.{Line}
use Rattle.myi_script.specs.Grammar.{IsLine}
use Rattle.myi_script.specs.Reading.{line_of}

-- how many lines a script may have
abbrev pub most_lines : ℕ
most_lines = 4294967294

-- an empty line or a comment
abbrev pub does_nothing : List ℕ → Bool
does_nothing [] = true
does_nothing (c ∷ cs) = c == 59

abbrev pub has_ended : ℕ → List ℕ → Bool
has_ended s ended = list_any (λ e. e == s) ended

abbrev pub is_end : Act → Bool
is_end act.End = true
is_end a = false

abbrev pub ended_by : ℕ → Act → List ℕ → List ℕ
ended_by s a ended = if is_end a then ended ++ s ∷ [] else ended

-- These lines are in the grammar and say this, where the first one has number n and these sessions have ended before.
abbrev pub AreLines : Bool → Defs → List ℕ → ℕ → List (List ℕ) → List Line → Type 0
AreLines merge d ended n [] said = said ≡ []
AreLines merge d ended n (l ∷ ls) said =
    (n ≤ most_lines) × MatchBool (does_nothing l) (IsUtf8 l × AreLines merge d ended (n + 1) ls said)
    ((s : ℕ) × (a : Act) × (others : List Line) × IsLine merge d l s a × (has_ended s ended ≡ false)
    × (said ≡ record { session = s; line = n; act = a } ∷ others) × AreLines merge d (ended_by s a ended) (n + 1) ls others)

-- a text is a script that says this
abbrev pub IsScript : Bool → Defs → List ℕ → List Line → Type 0
IsScript merge d text said = AreLines merge d [] 1 (lines text) said

-- line k is the first that is not in the grammar: the lines before it are a script, and with it they are none
pub record IsFirstOutside (merge : Bool) (d : Defs) (ls : List (List ℕ)) (k : ℕ) : Type 0 where
  pub before : (said : List Line) × AreLines merge d [] 1 (take (k - 1) ls) said
  pub outside : (said : List Line) → AreLines merge d [] 1 (take k ls) said → ⊥
  pub low : 1 ≤ k
  pub high : k ≤ length ls

-- ---- how it is read

abbrev pub with_line : Line → Result (List Line) ℕ → Result (List Line) ℕ
with_line l (Ok others) = Ok (l ∷ others)
with_line l (Err k) = Err k

abbrev pub line_said : List ℕ → ℕ → Option (ℕ × Act) → (List ℕ → Result (List Line) ℕ) → Result (List Line) ℕ
line_said ended n None more = Err n
line_said ended n (Some p) more = if has_ended p.0 ended then Err n else with_line (record { session = p.0; line = n; act = p.1 }) (more (ended_by p.0 p.1 ended))

abbrev pub if_utf8 : ℕ → Bool → Result (List Line) ℕ → Result (List Line) ℕ
if_utf8 n text more = if text then more else Err n

unfoldable pub read_lines : Bool → Defs → List ℕ → ℕ → List (List ℕ) → Result (List Line) ℕ
read_lines merge d ended n [] = Ok []
read_lines merge d ended n (l ∷ ls) =
    if nat_le n most_lines
    then (if does_nothing l then if_utf8 n (is_utf8 l) (read_lines merge d ended (n + 1) ls) else line_said ended n (line_of merge d l) (λ e. read_lines merge d e (n + 1) ls))
    else Err n
