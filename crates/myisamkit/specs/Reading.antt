-- How words are read, one after the other.
use Rattle.std.specs.Prelude.{ℕ, Bool, ◌&&◌, ◌||◌, not, is_none, is_some, true, false, List, [], ◌∷◌, Option, None, Some, option_and_then, option_map, map, String, string_bytes, if◌then◌else◌}
use Rattle.std.specs.declared.alloc.Global.{Global}
use Rattle.myisamkit.specs.declared.options.Mode.{Mode}
use Rattle.myisamkit.specs.declared.options.Mode.TheVariants.{Check}
use Rattle.myisamkit.specs.declared.options.Flag.{Flag}
use Rattle.myisamkit.specs.declared.options.Flag.TheVariants as flag
use Rattle.myisamkit.specs.declared.options.Options.{Options}
use Rattle.myisamkit.specs.declared.options.Seen.{Seen}
use Rattle.myisamkit.specs.declared.words.Read.{Read}
use Rattle.myisamkit.specs.declared.words.Names.{Names}
use Rattle.myisamkit.specs.declared.words.Rows.{Rows}
use Rattle.myisamkit.specs.Options.{sort_flag}
use Rattle.myisamkit.specs.Words.{is_end, is_option, is_name, names_table, flags_of, before_valued, has_dash, table_name}

abbrev pub seen_with_mode : Seen → Option Mode → Mode → Option Seen
seen_with_mode seen None mode = Some (record seen { mode = Some mode })
seen_with_mode seen (Some other) mode = None

-- one option more
abbrev pub seen_with : Seen → Flag → Option Seen
seen_with seen (flag.Mode mode) = seen_with_mode seen seen.mode mode
seen_with seen flag.Extend = if seen.extend then None else Some (record seen { extend = true })
seen_with seen flag.Force = if seen.force then None else Some (record seen { force = true })
seen_with seen flag.Silent = Some (record seen { silent = true })

-- options one after the other, each known
abbrev pub seen_after : Seen → List (Option Flag) → Option Seen
seen_after seen [] = Some seen
seen_after seen (None ∷ flags) = None
seen_after seen (Some f ∷ flags) = option_and_then (λ next. seen_after next flags) (seen_with seen f)

abbrev pub mode_seen : Option Mode → Mode
mode_seen None = Check
mode_seen (Some mode) = mode

abbrev pub options_seen : Seen → Options
options_seen seen = record { mode = mode_seen seen.mode; extend = seen.extend; force = seen.force; silent = seen.silent }

-- a name more
abbrev pub read_name : Read → List ℕ → Option Read
read_name read word = if is_name word then Some (record read { named = true }) else None

-- options more, of which the last one may wait for its value
abbrev pub read_flags_by : Option (List ℕ) → Read → List ℕ → Option Read
read_flags_by None read word = option_map (λ seen. record read { seen = seen }) (seen_after read.seen (flags_of word))
read_flags_by (Some front) read word = option_map (λ seen. record read { seen = seen; waits = true }) (seen_after read.seen (flags_of front))

abbrev pub read_flags : Read → List ℕ → Option Read
read_flags read word = read_flags_by (before_valued word) read word

-- the option that waits for its value, with this one
abbrev pub read_value : Read → List ℕ → Option Read
read_value read word =
    if has_dash word then None else
    option_map (λ seen. record read { seen = seen; waits = false }) (option_and_then (seen_with read.seen) (sort_flag word))

-- a word more
abbrev pub read_word : Read → List ℕ → Option Read
read_word read word =
    if read.waits then read_value read word else
    (if read.ended then read_name read word else
    (if is_end word then Some (record read { ended = true }) else
    (if is_option word then read_flags read word else read_name read word)))

-- words one after the other
abbrev pub read_words : Read → List (List ℕ) → Option Read
read_words read [] = Some read
read_words read (word ∷ words) = option_and_then (λ next. read_words next words) (read_word read word)

-- nothing was read
abbrev pub read_none : Read
read_none = record { seen = record { mode = None; extend = false; force = false; silent = false }; waits = false; ended = false; named = false }

-- the options of what was read, where there was a name, and no option waits for its value
abbrev pub options_read : Read → Option Options
options_read read = if read.named && not read.waits then Some (options_seen read.seen) else None

-- the options among the words behind `chk`, where they are accepted
abbrev pub chk_options : List (List ℕ) → Option Options
chk_options words = option_and_then options_read (read_words read_none words)

-- the table that the words behind `dump` name, behind words that named this one, where the word -- came or not
abbrev pub dump_left : Bool → Option (List ℕ) → List (List ℕ) → Option (List ℕ)
dump_left ended name [] = name
dump_left ended name (word ∷ words) =
    if names_table ended word then (if is_none name && is_name word then dump_left ended (Some word) words else None) else
    (if is_end word then dump_left true name words else None)

-- the two names of these
abbrev pub both_names : Option (List ℕ) → Option (List ℕ) → Option (List ℕ × List ℕ)
both_names None file = None
both_names (Some name) None = None
both_names (Some name) (Some file) = Some (name, file)

-- a name behind these, where one is missing and it is in form
abbrev pub one_name_more : Option (List ℕ) → Option (List ℕ) → List ℕ → Option (Option (List ℕ) × Option (List ℕ))
one_name_more name file word =
    if is_some file || not (is_name word) then None else
    (if is_some name then Some (name, Some word) else Some (Some word, file))

-- the two names among the words behind `create`, behind words that named these, where the word -- came or not
abbrev pub create_left : Bool → Option (List ℕ) → Option (List ℕ) → List (List ℕ) → Option (List ℕ × List ℕ)
create_left ended name file [] = both_names name file
create_left ended name file (word ∷ words) =
    if names_table ended word then option_and_then (λ both. create_left ended both.0 both.1 words) (one_name_more name file word) else
    (if is_end word then create_left true name file words else None)

-- the rows of these numbers, where both are in form
abbrev pub rows_of : Option ℕ → Option ℕ → Option Rows
rows_of None seed = None
rows_of (Some count) None = None
rows_of (Some count) (Some seed) = Some (record { count = count; seed = seed })

-- the three words of these
abbrev pub all_three : Option (List ℕ) → Option (List ℕ) → Option (List ℕ) → Option (List ℕ × List ℕ × List ℕ)
all_three None second third = None
all_three (Some first) None third = None
all_three (Some first) (Some second) None = None
all_three (Some first) (Some second) (Some third) = Some (first, second, third)

-- a word behind these, where one is missing
abbrev pub one_word_more : Option (List ℕ) → Option (List ℕ) → Option (List ℕ) → List ℕ → Option (Option (List ℕ) × Option (List ℕ) × Option (List ℕ))
one_word_more first second third word =
    if is_none first then Some (Some word, second, third) else
    (if is_none second then Some (first, Some word, third) else
    (if is_none third then Some (first, second, Some word) else None))

-- the three words among those behind `make` that are no options, behind these, where the word -- came or not
abbrev pub make_left : Bool → Option (List ℕ) → Option (List ℕ) → Option (List ℕ) → List (List ℕ) → Option (List ℕ × List ℕ × List ℕ)
make_left ended first second third [] = all_three first second third
make_left ended first second third (word ∷ words) =
    if names_table ended word then option_and_then (λ all. make_left ended all.0 all.1 all.2 words) (one_word_more first second third word) else
    (if is_end word then make_left true first second third words else None)

-- ---- the tables that words name, one word after the other

-- no word was gone past
abbrev pub names_none : Names
names_none = record { ended = false; waits = false }

-- the next word is a name of a table, and no value of the option before it
abbrev pub is_table : Names → List ℕ → Bool
is_table names word = not (names.waits && not (has_dash word)) && names_table names.ended word

abbrev pub names_behind : Names → List ℕ → Names
names_behind names word = record { ended = names.ended || is_end word; waits = not names.ended && is_some (before_valued word) }

-- the tables that the words from here on name
abbrev pub tables_left : Names → List (List ℕ) → List (List ℕ)
tables_left names [] = []
tables_left names (word ∷ words) = if is_table names word then table_name word ∷ tables_left (names_behind names word) words else tables_left (names_behind names word) words

abbrev pub tables_named : List (String Global) → List (List ℕ)
tables_named words = tables_left names_none (map (λ w. string_bytes w) words)
