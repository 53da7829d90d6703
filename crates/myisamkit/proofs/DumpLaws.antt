-- The words behind `dump`, read one after the other.
use Rattle.std.proofs.Common.{◌≡◌, ℕ, Bool, true, false, List, [], ◌∷◌, ◌++◌, Option, Some, None, map, drop, filter, refl, sym, ap, ◌∙◌}
use Rattle.std.specs.Prelude.{◌&&◌, ◌||◌, not, is_none, if◌then◌else◌}
use Rattle.std.specs.List.{flat_map}
use Rattle.myisamkit.specs.declared.options.Flag.{Flag}
use Rattle.myisamkit.specs.Options.{letter_flag, long_flag}
use Rattle.myisamkit.specs.Words.{Request, usage, dump, dump_of, is_end, is_option, is_name, is_long, flags_of, flags_in, names_in, before_end, after_end, table_name}
use Rattle.myisamkit.specs.Reading.{dump_left}
use Rattle.myisamkit.proofs.ValueLaws.{names_among, flags_among}

-- the only name of these, behind one that came
abbrev pub only : Option (List ℕ) → List (List ℕ) → Option (List ℕ)
only name [] = name
only name (word ∷ words) = if is_none name && is_name word then only (Some word) words else None

-- where there is no option
abbrev pub only_of : List (Option Flag) → Option (List ℕ) → List (List ℕ) → Option (List ℕ)
only_of [] name names = only name names
only_of (f ∷ flags) name names = None

-- behind the word -- all are names
all_names : (name : Option (List ℕ)) (words : List (List ℕ)) → dump_left true name words ≡ only name words
all_names name [] = refl
all_names name (word ∷ words) = by (is_none name && is_name word) (all_names (Some word) words)
  where
    by : (b : Bool) → dump_left true (Some word) words ≡ only (Some word) words → (if b then dump_left true (Some word) words else None) ≡ (if b then only (Some word) words else None)
    by true rest = rest
    by false rest = refl

-- an option is at least one
pub has_flag : (word : List ℕ) → is_option word ≡ true → (f : Option Flag) × (flags : List (Option Flag)) × (flags_of word ≡ f ∷ flags)
has_flag [] option = absurd cc
has_flag (a ∷ []) option = absurd cc
has_flag (a ∷ (b ∷ bytes)) option = by (is_long (a ∷ (b ∷ bytes)))
  where
    by : (long : Bool) → (f : Option Flag) × (flags : List (Option Flag)) × ((if long then long_flag (drop 2 (a ∷ (b ∷ bytes))) ∷ [] else map letter_flag (b ∷ bytes)) ≡ f ∷ flags)
    by true = (long_flag (drop 2 (a ∷ (b ∷ bytes))), [], refl)
    by false = (letter_flag b, map letter_flag bytes, refl)

none_of : (flags others : List (Option Flag)) (name : Option (List ℕ)) (names : List (List ℕ)) → ((f : Option Flag) × (rest : List (Option Flag)) × (flags ≡ f ∷ rest)) → only_of (flags ++ others) name names ≡ None
none_of flags others name names some = ap (λ fs. only_of (fs ++ others) name names) some.2

-- a name comes
name_comes : (flags : List (Option Flag)) (name : Option (List ℕ)) (word : List ℕ) (names : List (List ℕ)) → only_of flags name (word ∷ names) ≡ (if is_none name && is_name word then only_of flags (Some word) names else None)
name_comes [] name word names = refl
name_comes (f ∷ flags) name word names = by (is_none name && is_name word)
  where
    by : (b : Bool) → ◌≡◌ {A = Option (List ℕ)} None (if b then None else None)
    by true = refl
    by false = refl

pub dumped_words : (words : List (List ℕ)) (name : Option (List ℕ)) → dump_left false name words ≡ only_of (flags_in words) name (names_in words)
dumped_words [] name = refl
dumped_words (word ∷ words) name = by_end (dumped_words words (Some word)) (is_end word)
  where
    by_name : (b : Bool) → dump_left false (Some word) words ≡ only_of (flags_in words) (Some word) (names_in words) → (if b then dump_left false (Some word) words else None) ≡ (if b then only_of (flags_in words) (Some word) (names_in words) else None)
    by_name true rest = rest
    by_name false rest = refl

    by_option : dump_left false (Some word) words ≡ only_of (flags_in words) (Some word) (names_in words) → (option : Bool) → is_option word ≡ option → (if not option then (if is_none name && is_name word then dump_left false (Some word) words else None) else None)
        ≡ only_of (flat_map flags_of (if option then word ∷ filter is_option (before_end words) else filter is_option (before_end words))) name ((if not option then word ∷ names_among (before_end words) else names_among (before_end words)) ++ after_end words)
    by_option rest true is = sym (none_of (flags_of word) (flags_in words) name (names_in words) (has_flag word is))
    by_option rest false is = by_name (is_none name && is_name word) rest ∙ sym (name_comes (flags_in words) name word (names_in words))

    by_end : dump_left false (Some word) words ≡ only_of (flags_in words) (Some word) (names_in words) → (end : Bool) → (if not (end || is_option word) then (if is_none name && is_name word then dump_left false (Some word) words else None) else (if end then dump_left true name words else None))
        ≡ only_of (flags_among (if end then [] else word ∷ before_end words)) name (names_among (if end then [] else word ∷ before_end words) ++ (if end then words else after_end words))
    by_end rest true = all_names name words
    by_end rest false = by_option rest (is_option word) refl

-- the request of a name
abbrev pub request_named : Option (List ℕ) → Request
request_named None = usage
request_named (Some name) = dump (table_name name)

asked_by : (flags : List (Option Flag)) (names : List (List ℕ)) → request_named (only_of flags None names) ≡ dump_of flags names
asked_by [] [] = refl
asked_by [] (name ∷ []) = by (is_name name)
  where
    by : (b : Bool) → request_named (if b then Some name else None) ≡ (if b then dump (table_name name) else usage)
    by true = refl
    by false = refl
asked_by [] (name ∷ (other ∷ names)) = by (is_name name)
  where
    by : (b : Bool) → request_named (if b then None else None) ≡ usage
    by true = refl
    by false = refl
asked_by (f ∷ flags) names = refl

pub dump_asked : (words : List (List ℕ)) → request_named (dump_left false None words) ≡ dump_of (flags_in words) (names_in words)
dump_asked words = ap request_named (dumped_words words None) ∙ asked_by (flags_in words) (names_in words)
