-- Words that are read one after the other, and what they are together.
use Rattle.std.proofs.Common.{◌≡◌, ℕ, Bool, true, false, List, [], ◌∷◌, ◌++◌, map, Option, Some, None, refl, sym, ap, ◌∙◌}
use Rattle.std.specs.Prelude.{◌&&◌, ◌||◌, not, is_some, if◌then◌else◌, option_and_then, option_map}
use Rattle.std.specs.List.{list_all}
use Rattle.myisamkit.specs.declared.options.Flag.{Flag}
use Rattle.myisamkit.specs.declared.options.Options.{Options}
use Rattle.myisamkit.specs.declared.options.Seen.{Seen}
use Rattle.myisamkit.specs.declared.words.Read.{Read}
use Rattle.myisamkit.specs.declared.words.Names.{Names}
use Rattle.myisamkit.specs.Words.{is_end, is_option, is_name, is_empty, flags_of, flags_in, names_in, are_accepted, has_dash, before_valued, letters_alone, joined, spelled_by, spelled_out, table_name}
use Rattle.myisamkit.specs.Options.{go_together, options_in, sort_flag}
use Rattle.myisamkit.specs.Reading.{seen_after, seen_with, options_seen, read_words, read_word, read_name, read_flags, read_flags_by, options_read, chk_options, tables_left}
use Rattle.myisamkit.proofs.OptionLaws.{seen_of, seen-append, options_met}
use Rattle.myisamkit.proofs.ValueLaws.{end_names, end_flags, name_names, name_flags, option_names, option_flags, IsValued, is_valued, IsPlain, is_plain, long_word, long_flags, long_no_end, long_option, HasHead, head_of}

abbrev pub read_of : Seen → Bool → Bool → Bool → Read
read_of seen waits ended named = record { seen = seen; waits = waits; ended = ended; named = named }

-- what is read of names and options, where a name came before or not
abbrev pub read_of_lists : Bool → Seen → List (List ℕ) → List (Option Flag) → Option Options
read_of_lists named seen names flags = if (named || not (is_empty names)) && list_all is_name names then option_map options_seen (seen_after seen flags) else None

-- those of words that are spelled out
abbrev pub read_of_words : Bool → Seen → List (List ℕ) → Option Options
read_of_words named seen words = read_of_lists named seen (names_in words) (flags_in words)

abbrev pub read_rest : Read → List (List ℕ) → Option Options
read_rest read words = option_and_then options_read (read_words read words)

-- where no word is left
none_left : (seen : Seen) (ended named : Bool) → read_rest (read_of seen false ended named) [] ≡ read_of_lists named seen [] []
none_left seen ended true = refl
none_left seen ended false = refl

-- a name comes
named_next : (seen : Seen) (ended named : Bool) (word : List ℕ) (words names : List (List ℕ)) (flags : List (Option Flag))
    → read_rest (read_of seen false ended true) words ≡ read_of_lists true seen names flags
    → option_and_then (λ next. read_rest next words) (read_name (read_of seen false ended named) word) ≡ read_of_lists named seen (word ∷ names) flags
named_next seen ended named word words names flags rest = by_case named (is_name word)
  where
    by_case : (named b : Bool) → option_and_then (λ next. read_rest next words) (if b then Some (read_of seen false ended true) else None) ≡ (if (named || true) && (b && list_all is_name names) then option_map options_seen (seen_after seen flags) else None)
    by_case true true = rest
    by_case false true = rest
    by_case true false = refl
    by_case false false = refl

-- a word and the others
one_more : (read : Read) (word : List ℕ) (words : List (List ℕ)) → read_rest read (word ∷ words) ≡ option_and_then (λ next. read_rest next words) (read_word read word)
one_more read word words = then_rest (read_word read word)
  where
    then_rest : (o : Option Read) → option_and_then options_read (option_and_then (λ next. read_words next words) o) ≡ option_and_then (λ next. read_rest next words) o
    then_rest None = refl
    then_rest (Some next) = refl

-- behind the word -- all are names
pub names_only : (words : List (List ℕ)) (seen : Seen) (named : Bool) → read_rest (read_of seen false true named) words ≡ read_of_lists named seen words []
names_only [] seen named = none_left seen true named
names_only (word ∷ words) seen named = one_more (read_of seen false true named) word words ∙ named_next seen true named word words words [] (names_only words seen true)

refused : (b : Bool) (o : Option Options) → o ≡ (if b then o else o)
refused true o = refl
refused false o = refl

-- options come
options_next : (seen : Seen) (waits named : Bool) (words names : List (List ℕ)) (first flags : List (Option Flag))
    → ((next : Seen) → read_rest (read_of next waits false named) words ≡ read_of_lists named next names flags)
    → option_and_then (λ next. read_rest next words) (option_map (λ s. read_of s waits false named) (seen_after seen first)) ≡ read_of_lists named seen names (first ++ flags)
options_next seen waits named words names first flags rest =
    by_options (seen_after seen first) ∙ ap (λ o. if (named || not (is_empty names)) && list_all is_name names then option_map options_seen o else None) (sym (seen-append first flags seen))
  where
    by_options : (o : Option Seen) → option_and_then (λ next. read_rest next words) (option_map (λ s. read_of s waits false named) o) ≡ (if (named || not (is_empty names)) && list_all is_name names then option_map options_seen (option_and_then (λ next. seen_after next flags) o) else None)
    by_options None = refused ((named || not (is_empty names)) && list_all is_name names) None
    by_options (Some next) = rest next

-- an option that is not known is refused
unknown : (named : Bool) (seen : Seen) (names : List (List ℕ)) (flags : List (Option Flag)) → None ≡ read_of_lists named seen names (None ∷ flags)
unknown named seen names flags = refused ((named || not (is_empty names)) && list_all is_name names) None

-- these words and lists are the same
same_words : (named : Bool) (seen : Seen) (words names : List (List ℕ)) (flags : List (Option Flag)) → names_in words ≡ names → flags_in words ≡ flags → read_of_lists named seen names flags ≡ read_of_words named seen words
same_words named seen words names flags of_names of_flags = rw of_names (rw of_flags refl)

-- What is read of words, where no option waits for its value; and where one does, whose word says something before it.
abbrev pub ReadsAll : List (List ℕ) → Type 0
ReadsAll words = (seen : Seen) (named : Bool) → read_rest (read_of seen false false named) words ≡ read_of_words named seen (spelled_out words)

-- where an option waits: the value is taken off the words that are spelled out
abbrev pub value_first : Bool → Seen → List (List ℕ) → Option Options
value_first named seen [] = None
value_first named seen (word ∷ words) = if has_dash word then None else read_of_lists named seen (names_in words) (sort_flag word ∷ flags_in words)

abbrev pub ReadsValue : List (List ℕ) → Type 0
ReadsValue words = (seen : Seen) (named : Bool) → read_rest (read_of seen true false named) words ≡ value_first named seen (spelled_out words)

-- a value comes
value_next : (word : List ℕ) (words : List (List ℕ)) → ReadsAll words → ReadsValue (word ∷ words)
value_next word words all seen named = one_more (read_of seen true false named) word words ∙ by_dash (has_dash word) refl
  where
    by_value : (o : Option Flag) → option_and_then (λ next. read_rest next words) (option_map (λ s. read_of s false false named) (option_and_then (seen_with seen) o)) ≡ read_of_lists named seen (names_in (spelled_out words)) (o ∷ flags_in (spelled_out words))
    by_value None = unknown named seen (names_in (spelled_out words)) (flags_in (spelled_out words))
    by_value (Some f) = by_seen (seen_with seen f)
      where
        by_seen : (o : Option Seen) → option_and_then (λ next. read_rest next words) (option_map (λ s. read_of s false false named) o) ≡ (if (named || not (is_empty (names_in (spelled_out words)))) && list_all is_name (names_in (spelled_out words)) then option_map options_seen (option_and_then (λ next. seen_after next (flags_in (spelled_out words))) o) else None)
        by_seen None = refused ((named || not (is_empty (names_in (spelled_out words)))) && list_all is_name (names_in (spelled_out words))) None
        by_seen (Some next) = all next named

    by_dash : (dash : Bool) → has_dash word ≡ dash → option_and_then (λ next. read_rest next words) (if dash then None else option_map (λ s. read_of s false false named) (option_and_then (seen_with seen) (sort_flag word))) ≡ value_first named seen (spelled_out (word ∷ words))
    by_dash true is = let h = head_of word words is in rw h.is (rw h.dash refl)
    by_dash false is = let p = is_plain word is in rw (p.spelled words) (rw is (by_value (sort_flag word)))

-- a word comes behind which an option waits
valued_next : (front word : List ℕ) (words : List (List ℕ)) (seen : Seen) (named : Bool) → IsValued front word → ReadsValue words
    → option_and_then (λ next. read_rest next words) (option_map (λ s. read_of s true false named) (seen_after seen (flags_of front))) ≡ read_of_words named seen (joined front word (spelled_out words))
valued_next front word words seen named v rest = by_words (spelled_out words) (λ next. rest next named)
  where
    none_of : (names : List (List ℕ)) (flags : List (Option Flag)) → ((next : Seen) → read_rest (read_of next true false named) words ≡ None)
        → option_and_then (λ next. read_rest next words) (option_map (λ s. read_of s true false named) (seen_after seen (flags_of front))) ≡ read_of_lists named seen names (flags_of front ++ (None ∷ flags))
    none_of names flags none = options_next seen true named words names (flags_of front) (None ∷ flags) (λ next. none next ∙ unknown named next names flags)

    by_words : (left : List (List ℕ)) → ((next : Seen) → read_rest (read_of next true false named) words ≡ value_first named next left)
        → option_and_then (λ next. read_rest next words) (option_map (λ s. read_of s true false named) (seen_after seen (flags_of front))) ≡ read_of_words named seen (joined front word left)
    by_words [] none = none_of [] [] none ∙ same_words named seen (word ∷ []) [] (flags_of front ++ (None ∷ [])) (option_names word [] v.no_end v.option) (option_flags word [] v.no_end v.option ∙ v.refused [])
    by_words (next ∷ others) value = by_dash (has_dash next) value
      where
        by_dash : (dash : Bool) → ((s : Seen) → read_rest (read_of s true false named) words ≡ (if dash then None else read_of_lists named s (names_in others) (sort_flag next ∷ flags_in others)))
            → option_and_then (λ next. read_rest next words) (option_map (λ s. read_of s true false named) (seen_after seen (flags_of front))) ≡ read_of_words named seen (if dash then word ∷ (next ∷ others) else letters_alone front ++ (long_word next ∷ others))
        by_dash true none = none_of (names_in (next ∷ others)) (flags_in (next ∷ others)) none
            ∙ same_words named seen (word ∷ (next ∷ others)) (names_in (next ∷ others)) (flags_of front ++ (None ∷ flags_in (next ∷ others))) (option_names word (next ∷ others) v.no_end v.option) (option_flags word (next ∷ others) v.no_end v.option ∙ v.refused (flags_in (next ∷ others)))
        by_dash false value = options_next seen true named words (names_in others) (flags_of front) (sort_flag next ∷ flags_in others) value
            ∙ same_words named seen (letters_alone front ++ (long_word next ∷ others)) (names_in others) (flags_of front ++ (sort_flag next ∷ flags_in others))
            (v.alone_names (long_word next ∷ others) ∙ option_names (long_word next) others (long_no_end next) (long_option next))
            (v.alone_flags (long_word next ∷ others) ∙ ap (λ fs. flags_of front ++ fs) (option_flags (long_word next) others (long_no_end next) (long_option next) ∙ ap (λ fs. fs ++ flags_in others) (long_flags next)))

-- a word comes that is not --
open_next : (word : List ℕ) (words : List (List ℕ)) → ReadsAll words → ReadsValue words → is_end word ≡ false → (seen : Seen) (named : Bool)
    → option_and_then (λ next. read_rest next words) (if is_option word then read_flags (read_of seen false false named) word else read_name (read_of seen false false named) word) ≡ read_of_words named seen (spelled_by (before_valued word) word (spelled_out words))
open_next word words all value other seen named = by_valued (before_valued word) refl (is_option word) refl
  where
    by_valued : (o : Option (List ℕ)) → before_valued word ≡ o → (option : Bool) → is_option word ≡ option
        → option_and_then (λ next. read_rest next words) (if option then read_flags_by o (read_of seen false false named) word else read_name (read_of seen false false named) word) ≡ read_of_words named seen (spelled_by o word (spelled_out words))
    by_valued None plain true is = options_next seen false named words (names_in (spelled_out words)) (flags_of word) (flags_in (spelled_out words)) (λ next. all next named)
        ∙ same_words named seen (word ∷ spelled_out words) (names_in (spelled_out words)) (flags_of word ++ flags_in (spelled_out words)) (option_names word (spelled_out words) other is) (option_flags word (spelled_out words) other is)
    by_valued None plain false is = named_next seen false named word words (names_in (spelled_out words)) (flags_in (spelled_out words)) (all seen true)
        ∙ same_words named seen (word ∷ spelled_out words) (word ∷ names_in (spelled_out words)) (flags_in (spelled_out words)) (name_names word (spelled_out words) other is) (name_flags word (spelled_out words) other is)
    by_valued (Some front) valued true is = valued_next front word words seen named (is_valued front word valued) value
    by_valued (Some front) valued false is = absurd (no_option is (is_valued front word valued).option)
      where
        no_option : is_option word ≡ false → is_option word ≡ true → ⊥
        no_option a b = let e : true ≡ false = sym b ∙ a in cc

-- a word comes
word_next : (word : List ℕ) (words : List (List ℕ)) → ReadsAll words → ReadsValue words → ReadsAll (word ∷ words)
word_next word words all value seen named = one_more (read_of seen false false named) word words ∙ by_end (is_end word) refl
  where
    by_end : (end : Bool) → is_end word ≡ end
        → option_and_then (λ next. read_rest next words) (if end then Some (read_of seen false true named) else (if is_option word then read_flags (read_of seen false false named) word else read_name (read_of seen false false named) word))
        ≡ read_of_words named seen (if end then word ∷ words else spelled_by (before_valued word) word (spelled_out words))
    by_end true is = names_only words seen named ∙ same_words named seen (word ∷ words) words [] (end_names word words is) (end_flags word words is)
    by_end false is = open_next word words all value is seen named

both_ways : (words : List (List ℕ)) → ReadsAll words × ReadsValue words
both_ways [] = (λ seen named. none_left seen false named, λ seen named. by seen named)
  where
    by : (seen : Seen) (named : Bool) → ◌≡◌ {A = Option Options} (if named && false then Some (options_seen seen) else None) None
    by seen true = refl
    by seen false = refl
both_ways (word ∷ words) = let rest = both_ways words in (word_next word words rest.0 rest.1, value_next word words rest.0)

-- the options of words that are accepted
pub options_of_words : (words : List (List ℕ)) → chk_options words ≡ (if are_accepted (spelled_out words) then Some (options_in (flags_in (spelled_out words))) else None)
options_of_words words = (both_ways words).0 (seen_of None false false false) false ∙ by_names (not (is_empty (names_in (spelled_out words))) && list_all is_name (names_in (spelled_out words)))
  where
    by_names : (b : Bool) → (if b then option_map options_seen (seen_after (seen_of None false false false) (flags_in (spelled_out words))) else None) ≡ (if b && go_together (flags_in (spelled_out words)) then Some (options_in (flags_in (spelled_out words))) else None)
    by_names true = options_met (flags_in (spelled_out words))
    by_names false = refl

-- ---- the tables that words name

abbrev pub at : Bool → Bool → Names
at ended waits = record { ended = ended; waits = waits }

-- behind the word -- all words are names
all_tables : (words : List (List ℕ)) → tables_left (at true false) words ≡ map table_name words
all_tables [] = refl
all_tables (word ∷ words) = ap (λ ts. table_name word ∷ ts) (all_tables words)

-- without the value of an option that waits for it
abbrev pub without_value : List (List ℕ) → List (List ℕ)
without_value [] = []
without_value (word ∷ words) = if has_dash word then word ∷ words else words

abbrev pub NamesAll : List (List ℕ) → Type 0
NamesAll words = tables_left (at false false) words ≡ map table_name (names_in (spelled_out words))

abbrev pub NamesBehind : List (List ℕ) → Type 0
NamesBehind words = tables_left (at false true) words ≡ map table_name (names_in (without_value (spelled_out words)))

valued_names : (front word : List ℕ) (left : List (List ℕ)) → IsValued front word → names_in (joined front word left) ≡ names_in (without_value left)
valued_names front word [] v = option_names word [] v.no_end v.option
valued_names front word (next ∷ others) v = by_dash (has_dash next)
  where
    by_dash : (dash : Bool) → names_in (if dash then word ∷ (next ∷ others) else letters_alone front ++ (long_word next ∷ others)) ≡ names_in (if dash then next ∷ others else others)
    by_dash true = option_names word (next ∷ others) v.no_end v.option
    by_dash false = v.alone_names (long_word next ∷ others) ∙ option_names (long_word next) others (long_no_end next) (long_option next)

table_next : (word : List ℕ) (words : List (List ℕ)) → NamesAll words → NamesBehind words → NamesAll (word ∷ words)
table_next word words all past = by_end (is_end word) refl (is_option word) refl (before_valued word) refl
  where
    by_end : (end : Bool) → is_end word ≡ end → (option : Bool) → is_option word ≡ option → (o : Option (List ℕ)) → before_valued word ≡ o
        → (if not (end || option) then table_name word ∷ tables_left (at end (is_some o)) words else tables_left (at end (is_some o)) words) ≡ map table_name (names_in (if end then word ∷ words else spelled_by o word (spelled_out words)))
    by_end true is option of None valued = all_tables words ∙ ap (map table_name) (sym (end_names word words is))
    by_end true is option of (Some front) valued = absurd (no_end is (is_valued front word valued).no_end)
      where
        no_end : is_end word ≡ true → is_end word ≡ false → ⊥
        no_end a b = let e : true ≡ false = sym a ∙ b in cc
    by_end false is true of None valued = all ∙ ap (map table_name) (sym (option_names word (spelled_out words) is of))
    by_end false is false of None valued = ap (λ ts. table_name word ∷ ts) all ∙ ap (map table_name) (sym (name_names word (spelled_out words) is of))
    by_end false is true of (Some front) valued = past ∙ ap (map table_name) (sym (valued_names front word (spelled_out words) (is_valued front word valued)))
    by_end false is false of (Some front) valued = absurd (no_option of (is_valued front word valued).option)
      where
        no_option : is_option word ≡ false → is_option word ≡ true → ⊥
        no_option a b = let e : true ≡ false = sym b ∙ a in cc

behind_next : (word : List ℕ) (words : List (List ℕ)) → NamesAll words → NamesBehind words → NamesBehind (word ∷ words)
behind_next word words all past = by_dash (has_dash word) refl
  where
    by_dash : (dash : Bool) → has_dash word ≡ dash → tables_left (at false true) (word ∷ words) ≡ map table_name (names_in (without_value (spelled_out (word ∷ words))))
    by_dash true is = let h = head_of word words is in
        (rw is refl) ∙ (table_next word words all past ∙ ap (λ l. map table_name (names_in l)) (kept h))
      where
        kept : HasHead word words → spelled_out (word ∷ words) ≡ without_value (spelled_out (word ∷ words))
        kept h = rw h.is (rw h.dash refl)
    by_dash false is =
        let p = is_plain word is in
        goes (has_dash word) (is_end word) (is_option word) (before_valued word) is p.no_end p.none ∙ ap (λ l. map table_name (names_in l)) (sym (stripped p))
      where
        stripped : IsPlain word → without_value (spelled_out (word ∷ words)) ≡ spelled_out words
        stripped p = rw (p.spelled words) (rw is refl)

        goes : (dash end option : Bool) (o : Option (List ℕ)) → dash ≡ false → end ≡ false → o ≡ None
            → (if not (true && not dash) && not (end || option) then table_name word ∷ tables_left (at end (is_some o)) words else tables_left (at end (is_some o)) words) ≡ map table_name (names_in (spelled_out words))
        goes true end option o is other none = absurd cc
        goes false true option o is other none = absurd cc
        goes false false option None is other none = all
        goes false false option (Some f) is other none = absurd cc

pub tables_of_words : (words : List (List ℕ)) → NamesAll words × NamesBehind words
tables_of_words [] = (refl, refl)
tables_of_words (word ∷ words) = let rest = tables_of_words words in (table_next word words rest.0 rest.1, behind_next word words rest.0 rest.1)
