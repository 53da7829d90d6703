-- How the words of `shell` are read, one after the other.
use Rattle.std.specs.Prelude.{ℕ, Bool, ◌&&◌, is_none, is_some, true, false, List, [], ◌∷◌, Option, None, Some, option_and_then, option_map, unwrap_or, if◌then◌else◌}
use Rattle.myisamkit.specs.declared.shell_options.ShellFlag.{ShellFlag}
use Rattle.myisamkit.specs.declared.shell_options.ShellFlag.TheVariants as flag
use Rattle.myisamkit.specs.declared.shell_options.ShellKind.{ShellKind}
use Rattle.myisamkit.specs.declared.shell_options.ShellOptions.{ShellOptions}
use Rattle.myisamkit.specs.declared.shell_options.ShellSeen.{ShellSeen}
use Rattle.myisamkit.specs.declared.shell_words.ShellRead.{ShellRead}
use Rattle.myisamkit.specs.ShellOptions.{shell_flag, kind_of, flag_of_kind}
use Rattle.myisamkit.specs.Words.{is_end, has_dash, names_table}
use Rattle.myisamkit.specs.Reading.{both_names, one_name_more}

-- one option more, where it did not come before
abbrev pub shell_with : ShellSeen → ShellFlag → Option ShellSeen
shell_with seen (flag.Blocks n) = if is_some seen.blocks then None else Some (record seen { blocks = Some n })
shell_with seen (flag.Division n) = if is_some seen.division then None else Some (record seen { division = Some n })
shell_with seen (flag.Age n) = if is_some seen.age then None else Some (record seen { age = Some n })
shell_with seen (flag.Concurrent n) = if is_some seen.concurrent then None else Some (record seen { concurrent = Some n })

abbrev pub shell_seen : ShellSeen → ShellOptions
shell_seen seen = record {
  setup = record { blocks = unwrap_or seen.blocks 64; division = unwrap_or seen.division 100; age = unwrap_or seen.age 300 };
  concurrent = unwrap_or seen.concurrent 1;
}

-- options one after the other, each known
abbrev pub shell_after : ShellSeen → List (Option ShellFlag) → Option ShellSeen
shell_after seen [] = Some seen
shell_after seen (None ∷ flags) = None
shell_after seen (Some f ∷ flags) = option_and_then (λ next. shell_after next flags) (shell_with seen f)

-- a word more that is an option, or the end of them
abbrev pub read_option : ShellRead → Option ShellKind → List ℕ → Option ShellRead
read_option read (Some k) word = Some (record read { waits = Some k })
read_option read None word = option_map (λ seen. record read { seen = seen }) (option_and_then (shell_with read.seen) (shell_flag word))

abbrev pub read_waiting : ShellRead → Option ShellKind → List ℕ → Option ShellRead
read_waiting read None word = if is_end word then Some (record read { ended = true }) else read_option read (kind_of word) word
read_waiting read (Some k) word =
    if has_dash word then None else
    option_map (λ seen. record read { seen = seen; waits = None }) (option_and_then (shell_with read.seen) (flag_of_kind k word))

-- a word more that is no name
abbrev pub read_shell_word : ShellRead → List ℕ → Option ShellRead
read_shell_word read word = read_waiting read read.waits word

-- the word is a name, and no value of the option before it
abbrev pub is_shell_name : ShellRead → List ℕ → Bool
is_shell_name read word = is_none read.waits && names_table read.ended word

-- what was read, and the two names of these, where no option waits for its value
abbrev pub shell_read : ShellRead → Option (List ℕ) → Option (List ℕ) → Option (ShellSeen × List ℕ × List ℕ)
shell_read read name script = if is_some read.waits then None else option_map (λ both. (read.seen, both.0, both.1)) (both_names name script)

-- words one after the other, behind what was read and words that named these
abbrev pub shell_left : ShellRead → Option (List ℕ) → Option (List ℕ) → List (List ℕ) → Option (ShellSeen × List ℕ × List ℕ)
shell_left read name script [] = shell_read read name script
shell_left read name script (word ∷ words) =
    if is_shell_name read word then option_and_then (λ both. shell_left read both.0 both.1 words) (one_name_more name script word) else
    option_and_then (λ next. shell_left next name script words) (read_shell_word read word)

-- nothing was read
abbrev pub shell_read_none : ShellRead
shell_read_none = record { seen = record { blocks = None; division = None; age = None; concurrent = None }; waits = None; ended = false }
