-- What the words of a command line ask for (MySQL Reference Manual, "myisamchk"; the commands are this
-- project's own).
use Rattle.std.specs.Prelude.{◌-◌, ◌^◌, None, Some, ◌&&◌, ◌||◌, true, false, ◌==◌, not, nat_lt, nat_le, ℕ, Bool, List, [], ◌∷◌, ◌++◌, length, take, drop, map, filter, slice_index, if◌then◌else◌, codes, String, string_bytes, Option}
use Rattle.std.specs.List.{list_all, flat_map}
use Rattle.std.specs.Str.{bytes_eq}
use Rattle.std.specs.declared.alloc.Global.{Global}
use Rattle.myisamkit.specs.declared.options.Flag.{Flag}
use Rattle.myisamkit.specs.declared.options.Options.{Options}
use Rattle.myisamkit.specs.Numbers.{number_in}
use Rattle.myisamkit.specs.Options.{letter_flag, long_flag, sort_records, go_together, options_in}
use Rattle.myisamkit.specs.declared.shell_options.ShellFlag.{ShellFlag}
use Rattle.myisamkit.specs.declared.shell_options.ShellOptions.{ShellOptions}
use Rattle.myisamkit.specs.ShellOptions.{shell_flag, takes_value, shell_go_together, shell_options_in}

-- A command with its options and the names of its tables, or a refusal. `create` makes one table, by the text of a file,
-- `dump` prints one, `make` makes one of so many rows, which a seed decides, and `shell` runs the script of a file on one.
pub data Request : Type 0 where
  usage : Request
  chk : Options → List (List ℕ) → Request
  create : List ℕ → List ℕ → Request
  dump : List ℕ → Request
  make : ℕ → ℕ → List ℕ → Request
  shell : ShellOptions → List ℕ → List ℕ → Request

-- ---- what a word is

-- the word behind which all are names
abbrev pub is_end : List ℕ → Bool
is_end word = bytes_eq word (codes "--")

-- options: a word that begins with a dash and is longer than it
abbrev pub is_option : List ℕ → Bool
is_option word = nat_lt 1 (length word) && (slice_index word 0 == 45)

-- the word is a name, where the word -- came before or not
abbrev pub names_table : Bool → List ℕ → Bool
names_table ended word = ended || not (is_end word || is_option word)

-- a long option
abbrev pub is_long : List ℕ → Bool
is_long word = bytes_eq (take 2 word) (codes "--")

-- the options that a word is: a long one, or one for each letter
abbrev pub flags_of : List ℕ → List (Option Flag)
flags_of word = if is_long word then long_flag (drop 2 word) ∷ [] else map letter_flag (drop 1 word)

-- what a word says before its last option, where the value of that option is the word behind it
abbrev pub before_valued : List ℕ → Option (List ℕ)
before_valued word =
    if bytes_eq word (codes "--sort-records") then Some [] else
    (if (is_option word && not (is_long word)) && (slice_index word (length word - 1) == 82) then Some (take (length word - 1) word) else None)

-- a word that is no value
abbrev pub has_dash : List ℕ → Bool
has_dash word = slice_index word 0 == 45

-- a name has 1 to 200 bytes, none of them below 32
abbrev pub is_name : List ℕ → Bool
is_name word = nat_lt 0 (length word) && (nat_le (length word) 200 && list_all (λ b. nat_le 32 b) word)

-- the word names the index file: it ends with .MYI and is longer
abbrev pub names_index : List ℕ → Bool
names_index word = nat_lt 4 (length word) && bytes_eq (drop (length word - 4) word) (codes ".MYI")

-- the table that a word names
abbrev pub table_name : List ℕ → List ℕ
table_name word = if names_index word then take (length word - 4) word else word

-- ---- what a list of words is

-- letters, where there are some
abbrev pub letters_alone : List ℕ → List (List ℕ)
letters_alone word = if nat_lt 1 (length word) then word ∷ [] else []

-- a word and those behind it, of which the first is the value of its last option, but where that begins with a dash; the front is
-- what the word says before that option
abbrev pub joined : List ℕ → List ℕ → List (List ℕ) → List (List ℕ)
joined front word [] = word ∷ []
joined front word (next ∷ words) = if has_dash next then word ∷ (next ∷ words) else letters_alone front ++ ((codes "--" ++ (sort_records ++ next)) ∷ words)

abbrev pub spelled_by : Option (List ℕ) → List ℕ → List (List ℕ) → List (List ℕ)
spelled_by None word words = word ∷ words
spelled_by (Some front) word words = joined front word words

-- the same words, in which each option that has a value is long and has it behind it
abbrev pub spelled_out : List (List ℕ) → List (List ℕ)
spelled_out [] = []
spelled_out (word ∷ words) = if is_end word then word ∷ words else spelled_by (before_valued word) word (spelled_out words)

-- the words before the first --, and those behind it
abbrev pub before_end : List (List ℕ) → List (List ℕ)
before_end [] = []
before_end (word ∷ words) = if is_end word then [] else word ∷ before_end words

abbrev pub after_end : List (List ℕ) → List (List ℕ)
after_end [] = []
after_end (word ∷ words) = if is_end word then words else after_end words

-- the options among the words
abbrev pub flags_in : List (List ℕ) → List (Option Flag)
flags_in words = flat_map flags_of (filter is_option (before_end words))

-- the words that are no options
abbrev pub names_in : List (List ℕ) → List (List ℕ)
names_in words = filter (λ word. not (is_option word)) (before_end words) ++ after_end words

abbrev pub is_empty : List (List ℕ) → Bool
is_empty [] = true
is_empty (word ∷ words) = false

-- words that are spelled out have a name, all names are in form, and the options go together
abbrev pub are_accepted : List (List ℕ) → Bool
are_accepted words = (not (is_empty (names_in words)) && list_all is_name (names_in words)) && go_together (flags_in words)

-- what words that are spelled out ask for, behind the command
abbrev pub plan_chk : List (List ℕ) → Request
plan_chk words = if are_accepted words then chk (options_in (flags_in words)) (map table_name (names_in words)) else usage

-- `create` has no options, one table and one file
abbrev pub create_of : List (Option Flag) → List (List ℕ) → Request
create_of [] [] = usage
create_of [] (name ∷ []) = usage
create_of [] (name ∷ (file ∷ [])) = if is_name name && is_name file then create (table_name name) file else usage
create_of [] (name ∷ (file ∷ (other ∷ names))) = usage
create_of (f ∷ flags) names = usage

abbrev pub plan_create : List (List ℕ) → Request
plan_create words = create_of (flags_in words) (names_in words)

-- `dump` has no options and one table
abbrev pub dump_of : List (Option Flag) → List (List ℕ) → Request
dump_of [] [] = usage
dump_of [] (name ∷ []) = if is_name name then dump (table_name name) else usage
dump_of [] (name ∷ (other ∷ names)) = usage
dump_of (f ∷ flags) names = usage

abbrev pub plan_dump : List (List ℕ) → Request
plan_dump words = dump_of (flags_in words) (names_in words)

-- of how many rows a table is made, and of which seed
abbrev pub count_of : List ℕ → Option ℕ
count_of word = number_in 1 100000 word

abbrev pub seed_of : List ℕ → Option ℕ
seed_of word = number_in 0 (2 ^ 64 - 1) word

-- where both numbers and the name are in form
abbrev pub make_by : Option ℕ → Option ℕ → List ℕ → Request
make_by None seed name = usage
make_by (Some count) None name = usage
make_by (Some count) (Some seed) name = if is_name name then make count seed (table_name name) else usage

-- `make` has no options, two numbers and one table
abbrev pub make_of : List (Option Flag) → List (List ℕ) → Request
make_of [] [] = usage
make_of [] (count ∷ []) = usage
make_of [] (count ∷ (seed ∷ [])) = usage
make_of [] (count ∷ (seed ∷ (name ∷ []))) = make_by (count_of count) (seed_of seed) name
make_of [] (count ∷ (seed ∷ (name ∷ (other ∷ names)))) = usage
make_of (f ∷ flags) names = usage

abbrev pub plan_make : List (List ℕ) → Request
plan_make words = make_of (flags_in words) (names_in words)

-- the options of `shell`: a word, and behind it the next one, of which a first one that does not begin with a dash is the value
abbrev pub value_joined : List ℕ → List (List ℕ) → List (List ℕ)
value_joined word [] = word ∷ []
value_joined word (next ∷ words) = if has_dash next then word ∷ (next ∷ words) else (word ++ 61 ∷ next) ∷ words

-- the same words, in which each option of `shell` has its value behind it
abbrev pub shell_spelled_out : List (List ℕ) → List (List ℕ)
shell_spelled_out [] = []
shell_spelled_out (word ∷ words) =
    if is_end word then word ∷ words else
    (if takes_value word then value_joined word (shell_spelled_out words) else word ∷ shell_spelled_out words)

-- the options among the words
abbrev pub shell_flags_in : List (List ℕ) → List (Option ShellFlag)
shell_flags_in words = map shell_flag (filter is_option (before_end words))

-- `shell` has one table and the file of a script, and options that go together
abbrev pub shell_of : List (Option ShellFlag) → List (List ℕ) → Request
shell_of flags [] = usage
shell_of flags (name ∷ []) = usage
shell_of flags (name ∷ (script ∷ [])) = if (is_name name && is_name script) && shell_go_together flags then shell (shell_options_in flags) (table_name name) script else usage
shell_of flags (name ∷ (script ∷ (other ∷ names))) = usage

-- what words that are spelled out ask for, behind the command
abbrev pub plan_shell : List (List ℕ) → Request
plan_shell words = shell_of (shell_flags_in words) (names_in words)

abbrev pub plan : List (List ℕ) → Request
plan [] = usage
plan (command ∷ words) =
    if bytes_eq command (codes "chk") then plan_chk (spelled_out words) else
    (if bytes_eq command (codes "create") then plan_create words else
    (if bytes_eq command (codes "dump") then plan_dump words else
    (if bytes_eq command (codes "make") then plan_make words else
    (if bytes_eq command (codes "shell") then plan_shell (shell_spelled_out words) else usage))))

-- what these words ask for
abbrev pub request_of : List (String Global) → Request
request_of words = plan (map (λ w. string_bytes w) words)
