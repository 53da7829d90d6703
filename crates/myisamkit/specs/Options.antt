-- The options of `chk` (MySQL Reference Manual, "myisamchk General Options", "Check Options", "Repair Options", "Other myisamchk Options").
use Rattle.std.specs.Prelude.{ℕ, Bool, true, false, List, [], ◌∷◌, take, drop, Option, None, Some, option_map, ◌==◌, ◌&&◌, not, if◌then◌else◌, codes, is_some}
use Rattle.std.specs.List.{list_all, list_any}
use Rattle.std.specs.Str.{bytes_eq}
use Rattle.myisamkit.specs.Numbers.{number_in}
use Rattle.myisamkit.specs.declared.options.TreeWork.TheVariants.{InTurn, SideBySide, RowByRow}
use Rattle.myisamkit.specs.declared.options.Mode.{Mode}
use Rattle.myisamkit.specs.declared.options.Mode.TheVariants.{Check, Recover, Describe, Analyze, Sort, SortIndex}
use Rattle.myisamkit.specs.declared.options.Flag.{Flag}
use Rattle.myisamkit.specs.declared.options.Flag.TheVariants as flag
use Rattle.myisamkit.specs.declared.options.Options.{Options}

-- what a letter says: c, r, o, p, d, a, S, e, f, s
abbrev pub letter_flag : ℕ → Option Flag
letter_flag letter =
    if letter == 99 then Some (flag.Mode Check) else
    (if letter == 114 then Some (flag.Mode (Recover InTurn)) else
    (if letter == 111 then Some (flag.Mode (Recover RowByRow)) else
    (if letter == 112 then Some (flag.Mode (Recover SideBySide)) else
    (if letter == 100 then Some (flag.Mode Describe) else
    (if letter == 97 then Some (flag.Mode Analyze) else
    (if letter == 83 then Some (flag.Mode SortIndex) else
    (if letter == 101 then Some flag.Extend else
    (if letter == 102 then Some flag.Force else
    (if letter == 115 then Some flag.Silent else None)))))))))

-- the number of a key, from 1 to 64
abbrev pub key_of : List ℕ → Option ℕ
key_of word = number_in 1 64 word

-- what the option that sorts rows says with this value
abbrev pub sort_flag : List ℕ → Option Flag
sort_flag word = option_map (λ key. flag.Mode (Sort key)) (key_of word)

-- the name of that option with a value behind it
abbrev pub sort_records : List ℕ
sort_records = codes "sort-records="

-- what a long option says that has its value behind it
abbrev pub valued_flag : List ℕ → Option Flag
valued_flag name = if bytes_eq (take 13 name) sort_records then sort_flag (drop 13 name) else None

-- what a long option says, by its name
abbrev pub long_flag : List ℕ → Option Flag
long_flag name =
    if bytes_eq name (codes "check") then Some (flag.Mode Check) else
    (if bytes_eq name (codes "recover") then Some (flag.Mode (Recover InTurn)) else
    (if bytes_eq name (codes "safe-recover") then Some (flag.Mode (Recover RowByRow)) else
    (if bytes_eq name (codes "parallel-recover") then Some (flag.Mode (Recover SideBySide)) else
    (if bytes_eq name (codes "description") then Some (flag.Mode Describe) else
    (if bytes_eq name (codes "analyze") then Some (flag.Mode Analyze) else
    (if bytes_eq name (codes "sort-index") then Some (flag.Mode SortIndex) else
    (if bytes_eq name (codes "extend-check") then Some flag.Extend else
    (if bytes_eq name (codes "force") then Some flag.Force else
    (if bytes_eq name (codes "silent") then Some flag.Silent else
    valued_flag name)))))))))

-- Below, a list of options has None where one is not known.

abbrev pub is_mode : Option Flag → Bool
is_mode None = false
is_mode (Some (flag.Mode m)) = true
is_mode (Some flag.Extend) = false
is_mode (Some flag.Force) = false
is_mode (Some flag.Silent) = false

abbrev pub is_extend : Option Flag → Bool
is_extend None = false
is_extend (Some (flag.Mode m)) = false
is_extend (Some flag.Extend) = true
is_extend (Some flag.Force) = false
is_extend (Some flag.Silent) = false

abbrev pub is_force : Option Flag → Bool
is_force None = false
is_force (Some (flag.Mode m)) = false
is_force (Some flag.Extend) = false
is_force (Some flag.Force) = true
is_force (Some flag.Silent) = false

abbrev pub is_silent : Option Flag → Bool
is_silent None = false
is_silent (Some (flag.Mode m)) = false
is_silent (Some flag.Extend) = false
is_silent (Some flag.Force) = false
is_silent (Some flag.Silent) = true

-- no two of a list pass
abbrev pub at_most_one : {X : Type 0} → (X → Bool) → List X → Bool
at_most_one p [] = true
at_most_one p (x ∷ xs) = if p x then not (list_any p xs) else at_most_one p xs

-- options go together: each is known, at most one is a mode, and no other stands twice, but the silent one
abbrev pub go_together : List (Option Flag) → Bool
go_together flags = list_all is_some flags && (at_most_one is_mode flags && (at_most_one is_extend flags && at_most_one is_force flags))

-- the mode that is asked for last, or another where none is
abbrev pub mode_or : Mode → List (Option Flag) → Mode
mode_or other [] = other
mode_or other (None ∷ flags) = mode_or other flags
mode_or other (Some (flag.Mode m) ∷ flags) = mode_or m flags
mode_or other (Some flag.Extend ∷ flags) = mode_or other flags
mode_or other (Some flag.Force ∷ flags) = mode_or other flags
mode_or other (Some flag.Silent ∷ flags) = mode_or other flags

-- what options ask for; without a mode, a check
abbrev pub options_in : List (Option Flag) → Options
options_in flags = record { mode = mode_or Check flags; extend = list_any is_extend flags; force = list_any is_force flags; silent = list_any is_silent flags }
