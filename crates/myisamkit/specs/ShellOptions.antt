-- The options of `shell`: the setup of the key cache (MySQL Reference Manual, "The MyISAM Key Cache") and the setting of concurrent
-- inserts (MySQL Reference Manual, "Concurrent Inserts"). Each has a number behind its name.
use Rattle.std.specs.Prelude.{ℕ, Bool, List, [], ◌∷◌, take, drop, Option, None, Some, option_map, ◌&&◌, if◌then◌else◌, codes, is_some}
use Rattle.std.specs.List.{list_all}
use Rattle.std.specs.Str.{bytes_eq}
use Rattle.myisamkit.specs.Numbers.{number_in}
use Rattle.myisamkit.specs.Options.{at_most_one}
use Rattle.myisamkit.specs.declared.shell_options.ShellFlag.{ShellFlag}
use Rattle.myisamkit.specs.declared.shell_options.ShellFlag.TheVariants as flag
use Rattle.myisamkit.specs.declared.shell_options.ShellKind.{ShellKind}
use Rattle.myisamkit.specs.declared.shell_options.ShellKind.TheVariants as kind
use Rattle.myisamkit.specs.declared.shell_options.ShellOptions.{ShellOptions}

-- the names of the options, with what stands between one and its value
abbrev pub cache_blocks : List ℕ
cache_blocks = codes "--key-cache-blocks="

abbrev pub division_limit : List ℕ
division_limit = codes "--key-cache-division-limit="

abbrev pub age_threshold : List ℕ
age_threshold = codes "--key-cache-age-threshold="

abbrev pub concurrent_insert : List ℕ
concurrent_insert = codes "--concurrent-insert="

-- the number behind a name, in its range
abbrev pub blocks_flag : List ℕ → Option ShellFlag
blocks_flag value = option_map (λ n. flag.Blocks n) (number_in 1 65536 value)

abbrev pub division_flag : List ℕ → Option ShellFlag
division_flag value = option_map (λ n. flag.Division n) (number_in 1 100 value)

abbrev pub age_flag : List ℕ → Option ShellFlag
age_flag value = option_map (λ n. flag.Age n) (number_in 100 1000000 value)

abbrev pub concurrent_flag : List ℕ → Option ShellFlag
concurrent_flag value = option_map (λ n. flag.Concurrent n) (number_in 0 2 value)

-- what an option says
abbrev pub concurrent_of : List ℕ → Option ShellFlag
concurrent_of word = if bytes_eq (take 20 word) concurrent_insert then concurrent_flag (drop 20 word) else None

abbrev pub age_of : List ℕ → Option ShellFlag
age_of word = if bytes_eq (take 26 word) age_threshold then age_flag (drop 26 word) else concurrent_of word

abbrev pub division_of : List ℕ → Option ShellFlag
division_of word = if bytes_eq (take 27 word) division_limit then division_flag (drop 27 word) else age_of word

abbrev pub shell_flag : List ℕ → Option ShellFlag
shell_flag word = if bytes_eq (take 19 word) cache_blocks then blocks_flag (drop 19 word) else division_of word

-- the option that a word names whose value is the word behind it
abbrev pub kind_of : List ℕ → Option ShellKind
kind_of word =
    if bytes_eq word (codes "--key-cache-blocks") then Some kind.Blocks else
    (if bytes_eq word (codes "--key-cache-division-limit") then Some kind.Division else
    (if bytes_eq word (codes "--key-cache-age-threshold") then Some kind.Age else
    (if bytes_eq word (codes "--concurrent-insert") then Some kind.Concurrent else None)))

abbrev pub takes_value : List ℕ → Bool
takes_value word = is_some (kind_of word)

-- what it says with this value
abbrev pub flag_of_kind : ShellKind → List ℕ → Option ShellFlag
flag_of_kind kind.Blocks value = blocks_flag value
flag_of_kind kind.Division value = division_flag value
flag_of_kind kind.Age value = age_flag value
flag_of_kind kind.Concurrent value = concurrent_flag value

-- Below, a list of options has None where one is not known.

-- the number that an option gives
abbrev pub blocks_in : Option ShellFlag → Option ℕ
blocks_in None = None
blocks_in (Some (flag.Blocks n)) = Some n
blocks_in (Some (flag.Division n)) = None
blocks_in (Some (flag.Age n)) = None
blocks_in (Some (flag.Concurrent n)) = None

abbrev pub division_in : Option ShellFlag → Option ℕ
division_in None = None
division_in (Some (flag.Blocks n)) = None
division_in (Some (flag.Division n)) = Some n
division_in (Some (flag.Age n)) = None
division_in (Some (flag.Concurrent n)) = None

abbrev pub age_in : Option ShellFlag → Option ℕ
age_in None = None
age_in (Some (flag.Blocks n)) = None
age_in (Some (flag.Division n)) = None
age_in (Some (flag.Age n)) = Some n
age_in (Some (flag.Concurrent n)) = None

abbrev pub concurrent_in : Option ShellFlag → Option ℕ
concurrent_in None = None
concurrent_in (Some (flag.Blocks n)) = None
concurrent_in (Some (flag.Division n)) = None
concurrent_in (Some (flag.Age n)) = None
concurrent_in (Some (flag.Concurrent n)) = Some n

-- at most one of a list gives such a number
abbrev pub is_once : (Option ShellFlag → Option ℕ) → List (Option ShellFlag) → Bool
is_once number flags = at_most_one (λ f. is_some (number f)) flags

-- the number that the first gives which gives one, or else this
abbrev pub or_number : Option ℕ → ℕ → ℕ
or_number None other = other
or_number (Some n) other = n

abbrev pub number_or : (Option ShellFlag → Option ℕ) → ℕ → List (Option ShellFlag) → ℕ
number_or number other [] = other
number_or number other (f ∷ flags) = or_number (number f) (number_or number other flags)

-- none stands twice
abbrev pub are_once : List (Option ShellFlag) → Bool
are_once flags = is_once blocks_in flags && (is_once division_in flags && (is_once age_in flags && is_once concurrent_in flags))

-- each is known, and none stands twice
abbrev pub shell_go_together : List (Option ShellFlag) → Bool
shell_go_together flags = list_all is_some flags && are_once flags

-- what they ask for
abbrev pub shell_options_in : List (Option ShellFlag) → ShellOptions
shell_options_in flags = record {
  setup = record { blocks = number_or blocks_in 64 flags; division = number_or division_in 100 flags; age = number_or age_in 300 flags };
  concurrent = number_or concurrent_in 1 flags;
}
