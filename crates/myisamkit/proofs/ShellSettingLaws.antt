-- The numbers of the options of `shell` are in their ranges.
use Rattle.std.proofs.Common.{◌≡◌, ◌≤◌, arith, ℕ, Bool, true, false, List, [], ◌∷◌, map, take, drop, filter, Option, Some, None, refl, sym, subst}
use Rattle.std.specs.Prelude.{option_map, if◌then◌else◌}
use Rattle.std.specs.Str.{bytes_eq}
use Rattle.myi_keycache.specs.Setup.{IsSetup}
use Rattle.myisamkit.specs.declared.shell_options.ShellFlag.{ShellFlag}
use Rattle.myisamkit.specs.declared.shell_options.ShellFlag.TheVariants as flag
use Rattle.myisamkit.specs.declared.shell_options.ShellOptions.{ShellOptions}
use Rattle.myisamkit.specs.Numbers.{number_in}
use Rattle.myisamkit.specs.ShellOptions.{shell_flag, division_of, age_of, concurrent_of, blocks_flag, division_flag, age_flag, concurrent_flag, cache_blocks, division_limit, age_threshold, concurrent_insert, blocks_in, division_in, age_in, concurrent_in, number_or, shell_options_in}
use Rattle.myisamkit.specs.Words.{plan, shell, shell_flags_in, shell_spelled_out, is_option, before_end}
use Rattle.myisamkit.proofs.AskedLaws.{words_scripted}
use Rattle.myisamkit.proofs.MakeWordLaws.{within}

abbrev InRange : Option ShellFlag → Type 0
InRange None = Unit {0}
InRange (Some (flag.Blocks n)) = (1 ≤ n) × (n ≤ 65536)
InRange (Some (flag.Division n)) = (1 ≤ n) × (n ≤ 100)
InRange (Some (flag.Age n)) = (100 ≤ n) × (n ≤ 1000000)
InRange (Some (flag.Concurrent n)) = (0 ≤ n) × (n ≤ 2)

blocks_range : (value : List ℕ) → InRange (blocks_flag value)
blocks_range value = by (number_in 1 65536 value) refl
  where
    by : (o : Option ℕ) → number_in 1 65536 value ≡ o → InRange (option_map (λ n. flag.Blocks n) o)
    by None is = tt
    by (Some n) is = within 1 65536 n value is

division_range : (value : List ℕ) → InRange (division_flag value)
division_range value = by (number_in 1 100 value) refl
  where
    by : (o : Option ℕ) → number_in 1 100 value ≡ o → InRange (option_map (λ n. flag.Division n) o)
    by None is = tt
    by (Some n) is = within 1 100 n value is

age_range : (value : List ℕ) → InRange (age_flag value)
age_range value = by (number_in 100 1000000 value) refl
  where
    by : (o : Option ℕ) → number_in 100 1000000 value ≡ o → InRange (option_map (λ n. flag.Age n) o)
    by None is = tt
    by (Some n) is = within 100 1000000 n value is

concurrent_range : (value : List ℕ) → InRange (concurrent_flag value)
concurrent_range value = by (number_in 0 2 value) refl
  where
    by : (o : Option ℕ) → number_in 0 2 value ≡ o → InRange (option_map (λ n. flag.Concurrent n) o)
    by None is = tt
    by (Some n) is = within 0 2 n value is

-- either of two
either : (b : Bool) (x y : Option ShellFlag) → InRange x → InRange y → InRange (if b then x else y)
either true x y p q = p
either false x y p q = q

flag_range : (word : List ℕ) → InRange (shell_flag word)
flag_range word =
    either (bytes_eq (take 19 word) cache_blocks) (blocks_flag (drop 19 word)) (division_of word) (blocks_range (drop 19 word))
    (either (bytes_eq (take 27 word) division_limit) (division_flag (drop 27 word)) (age_of word) (division_range (drop 27 word))
    (either (bytes_eq (take 26 word) age_threshold) (age_flag (drop 26 word)) (concurrent_of word) (age_range (drop 26 word))
    (either (bytes_eq (take 20 word) concurrent_insert) (concurrent_flag (drop 20 word)) None (concurrent_range (drop 20 word)) tt)))

abbrev AllInRange : List (Option ShellFlag) → Type 0
AllInRange [] = Unit {0}
AllInRange (f ∷ fs) = InRange f × AllInRange fs

flags_range : (words : List (List ℕ)) → AllInRange (map shell_flag words)
flags_range [] = tt
flags_range (word ∷ words) = (flag_range word, flags_range words)

blocks_within : (flags : List (Option ShellFlag)) → AllInRange flags → (1 ≤ number_or blocks_in 64 flags) × (number_or blocks_in 64 flags ≤ 65536)
blocks_within [] all = (omega arith, omega arith)
blocks_within (None ∷ fs) all = blocks_within fs all.1
blocks_within (Some (flag.Blocks n) ∷ fs) all = all.0
blocks_within (Some (flag.Division n) ∷ fs) all = blocks_within fs all.1
blocks_within (Some (flag.Age n) ∷ fs) all = blocks_within fs all.1
blocks_within (Some (flag.Concurrent n) ∷ fs) all = blocks_within fs all.1

division_within : (flags : List (Option ShellFlag)) → AllInRange flags → (1 ≤ number_or division_in 100 flags) × (number_or division_in 100 flags ≤ 100)
division_within [] all = (omega arith, omega arith)
division_within (None ∷ fs) all = division_within fs all.1
division_within (Some (flag.Blocks n) ∷ fs) all = division_within fs all.1
division_within (Some (flag.Division n) ∷ fs) all = all.0
division_within (Some (flag.Age n) ∷ fs) all = division_within fs all.1
division_within (Some (flag.Concurrent n) ∷ fs) all = division_within fs all.1

age_within : (flags : List (Option ShellFlag)) → AllInRange flags → (100 ≤ number_or age_in 300 flags) × (number_or age_in 300 flags ≤ 1000000)
age_within [] all = (omega arith, omega arith)
age_within (None ∷ fs) all = age_within fs all.1
age_within (Some (flag.Blocks n) ∷ fs) all = age_within fs all.1
age_within (Some (flag.Division n) ∷ fs) all = age_within fs all.1
age_within (Some (flag.Age n) ∷ fs) all = all.0
age_within (Some (flag.Concurrent n) ∷ fs) all = age_within fs all.1

concurrent_within : (flags : List (Option ShellFlag)) → AllInRange flags → number_or concurrent_in 1 flags ≤ 2
concurrent_within [] all = omega arith
concurrent_within (None ∷ fs) all = concurrent_within fs all.1
concurrent_within (Some (flag.Blocks n) ∷ fs) all = concurrent_within fs all.1
concurrent_within (Some (flag.Division n) ∷ fs) all = concurrent_within fs all.1
concurrent_within (Some (flag.Age n) ∷ fs) all = concurrent_within fs all.1
concurrent_within (Some (flag.Concurrent n) ∷ fs) all = all.0.1

pub record Settings (o : ShellOptions) : Type 0 where
  pub setup : IsSetup o.setup
  pub concurrent : o.concurrent ≤ 2

settings_in : (flags : List (Option ShellFlag)) → AllInRange flags → Settings (shell_options_in flags)
settings_in flags all =
    let blocks = blocks_within flags all in
    let division = division_within flags all in
    let age = age_within flags all in
    record {
      setup = record { some_block = blocks.0; most_blocks = blocks.1; least_division = division.0; most_division = division.1; least_age = age.0; most_age = age.1 };
      concurrent = concurrent_within flags all;
    }

-- what accepted words ask for
pub settings : (words : List (List ℕ)) (o : ShellOptions) (table script : List ℕ) → plan words ≡ shell o table script → Settings o
settings words o table script is =
    let asked = words_scripted words o table script is in
    subst Settings (sym asked.options) (settings_in (shell_flags_in (shell_spelled_out asked.others)) (flags_range (filter is_option (before_end (shell_spelled_out asked.others)))))
