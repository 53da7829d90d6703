-- What words that are accepted ask for, and why words are refused.
use Rattle.std.specs.Prelude.{◌≡◌, ◌≢◌, false, true, List, [], ◌∷◌, length, ℕ, None, Some, map, codes, is_some}
use Rattle.std.specs.List.{list_all, list_any}
use Rattle.myisamkit.specs.declared.options.Options.{Options}
use Rattle.myisamkit.specs.declared.options.Mode.TheVariants.{Check}
use Rattle.myisamkit.specs.declared.shell_options.ShellOptions.{ShellOptions}
use Rattle.myisamkit.specs.ShellOptions.{are_once, shell_go_together, shell_options_in}
use Rattle.myisamkit.specs.Words.{is_empty, is_name, names_in, flags_in, spelled_out, shell_flags_in, shell_spelled_out, table_name, count_of, seed_of}
use Rattle.myisamkit.specs.Options.{is_mode, is_extend, is_force, is_silent, at_most_one, mode_or}

-- these words are `chk` with these options and tables
pub record AreChk (words : List (List ℕ)) (o : Options) (tables : List (List ℕ)) : Type 0 where
  pub others : List (List ℕ)
  pub command : words ≡ codes "chk" ∷ others
  pub named : is_empty (names_in (spelled_out others)) ≡ false
  pub in_form : list_all is_name (names_in (spelled_out others)) ≡ true
  pub tables_are : tables ≡ map table_name (names_in (spelled_out others))
  pub known : list_all is_some (flags_in (spelled_out others)) ≡ true
  pub one_mode : at_most_one is_mode (flags_in (spelled_out others)) ≡ true
  pub extend_once : at_most_one is_extend (flags_in (spelled_out others)) ≡ true
  pub force_once : at_most_one is_force (flags_in (spelled_out others)) ≡ true
  pub mode : o.mode ≡ mode_or Check (flags_in (spelled_out others))
  pub extend : o.extend ≡ list_any is_extend (flags_in (spelled_out others))
  pub force : o.force ≡ list_any is_force (flags_in (spelled_out others))
  pub silent : o.silent ≡ list_any is_silent (flags_in (spelled_out others))

-- these words are `create` with this table and this file
pub record AreCreate (words : List (List ℕ)) (table file : List ℕ) : Type 0 where
  pub others : List (List ℕ)
  pub command : words ≡ codes "create" ∷ others
  pub no_option : flags_in others ≡ []
  pub name : List ℕ
  pub named : names_in others ≡ name ∷ file ∷ []
  pub in_form : is_name name ≡ true
  pub file_in_form : is_name file ≡ true
  pub table_is : table ≡ table_name name

-- these words are `dump` with this table
pub record AreDump (words : List (List ℕ)) (table : List ℕ) : Type 0 where
  pub others : List (List ℕ)
  pub command : words ≡ codes "dump" ∷ others
  pub no_option : flags_in others ≡ []
  pub name : List ℕ
  pub named : names_in others ≡ name ∷ []
  pub in_form : is_name name ≡ true
  pub table_is : table ≡ table_name name

-- these words are `make` with these numbers and this table
pub record AreMake (words : List (List ℕ)) (count seed : ℕ) (table : List ℕ) : Type 0 where
  pub others : List (List ℕ)
  pub command : words ≡ codes "make" ∷ others
  pub no_option : flags_in others ≡ []
  pub count_word : List ℕ
  pub seed_word : List ℕ
  pub name : List ℕ
  pub named : names_in others ≡ count_word ∷ seed_word ∷ name ∷ []
  pub counted : count_of count_word ≡ Some count
  pub seeded : seed_of seed_word ≡ Some seed
  pub in_form : is_name name ≡ true
  pub table_is : table ≡ table_name name

-- these words are `shell` with these options, this table and this script
pub record AreShell (words : List (List ℕ)) (o : ShellOptions) (table script : List ℕ) : Type 0 where
  pub others : List (List ℕ)
  pub command : words ≡ codes "shell" ∷ others
  pub name : List ℕ
  pub named : names_in (shell_spelled_out others) ≡ name ∷ script ∷ []
  pub in_form : is_name name ≡ true
  pub script_in_form : is_name script ≡ true
  pub table_is : table ≡ table_name name
  pub together : shell_go_together (shell_flags_in (shell_spelled_out others)) ≡ true
  pub options : o ≡ shell_options_in (shell_flags_in (shell_spelled_out others))

-- why words are refused: the command is none, or of the words behind it one of these holds
pub data AreRefused (words : List (List ℕ)) : Type 0 where
  no_command : ((others : List (List ℕ)) → words ≢ codes "chk" ∷ others) → ((others : List (List ℕ)) → words ≢ codes "create" ∷ others) → ((others : List (List ℕ)) → words ≢ codes "dump" ∷ others) → ((others : List (List ℕ)) → words ≢ codes "make" ∷ others) → ((others : List (List ℕ)) → words ≢ codes "shell" ∷ others) → AreRefused words
  no_name : (others : List (List ℕ)) → words ≡ codes "chk" ∷ others → is_empty (names_in (spelled_out others)) ≡ true → AreRefused words
  bad_name : (others : List (List ℕ)) → words ≡ codes "chk" ∷ others → list_all is_name (names_in (spelled_out others)) ≡ false → AreRefused words
  unknown_option : (others : List (List ℕ)) → words ≡ codes "chk" ∷ others → list_all is_some (flags_in (spelled_out others)) ≡ false → AreRefused words
  two_modes : (others : List (List ℕ)) → words ≡ codes "chk" ∷ others → at_most_one is_mode (flags_in (spelled_out others)) ≡ false → AreRefused words
  extend_twice : (others : List (List ℕ)) → words ≡ codes "chk" ∷ others → at_most_one is_extend (flags_in (spelled_out others)) ≡ false → AreRefused words
  force_twice : (others : List (List ℕ)) → words ≡ codes "chk" ∷ others → at_most_one is_force (flags_in (spelled_out others)) ≡ false → AreRefused words
  create_option : (others : List (List ℕ)) → words ≡ codes "create" ∷ others → flags_in others ≢ [] → AreRefused words
  create_names : (others : List (List ℕ)) → words ≡ codes "create" ∷ others → length (names_in others) ≢ 2 → AreRefused words
  create_bad_name : (others : List (List ℕ)) → words ≡ codes "create" ∷ others → list_all is_name (names_in others) ≡ false → AreRefused words
  dump_option : (others : List (List ℕ)) → words ≡ codes "dump" ∷ others → flags_in others ≢ [] → AreRefused words
  dump_names : (others : List (List ℕ)) → words ≡ codes "dump" ∷ others → length (names_in others) ≢ 1 → AreRefused words
  dump_bad_name : (others : List (List ℕ)) (name : List ℕ) → words ≡ codes "dump" ∷ others → names_in others ≡ name ∷ [] → is_name name ≡ false → AreRefused words
  make_option : (others : List (List ℕ)) → words ≡ codes "make" ∷ others → flags_in others ≢ [] → AreRefused words
  make_names : (others : List (List ℕ)) → words ≡ codes "make" ∷ others → length (names_in others) ≢ 3 → AreRefused words
  make_bad_count : (others : List (List ℕ)) (count : List ℕ) (names : List (List ℕ)) → words ≡ codes "make" ∷ others → names_in others ≡ count ∷ names → count_of count ≡ None → AreRefused words
  make_bad_seed : (others : List (List ℕ)) (count seed : List ℕ) (names : List (List ℕ)) → words ≡ codes "make" ∷ others → names_in others ≡ count ∷ seed ∷ names → seed_of seed ≡ None → AreRefused words
  make_bad_name : (others : List (List ℕ)) (count seed name : List ℕ) → words ≡ codes "make" ∷ others → names_in others ≡ count ∷ seed ∷ name ∷ [] → is_name name ≡ false → AreRefused words
  shell_names : (others : List (List ℕ)) → words ≡ codes "shell" ∷ others → length (names_in (shell_spelled_out others)) ≢ 2 → AreRefused words
  shell_bad_name : (others : List (List ℕ)) → words ≡ codes "shell" ∷ others → list_all is_name (names_in (shell_spelled_out others)) ≡ false → AreRefused words
  shell_unknown_option : (others : List (List ℕ)) → words ≡ codes "shell" ∷ others → list_all is_some (shell_flags_in (shell_spelled_out others)) ≡ false → AreRefused words
  shell_option_twice : (others : List (List ℕ)) → words ≡ codes "shell" ∷ others → are_once (shell_flags_in (shell_spelled_out others)) ≡ false → AreRefused words
