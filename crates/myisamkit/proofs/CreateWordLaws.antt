-- The words behind `create`, read one after the other.
use Rattle.std.proofs.Common.{◌≡◌, ℕ, Bool, true, false, List, [], ◌∷◌, ◌++◌, Option, Some, None, refl, sym, ap, ◌∙◌, filter}
use Rattle.std.specs.Prelude.{◌&&◌, ◌||◌, not, is_some, option_and_then, if◌then◌else◌}
use Rattle.std.specs.List.{flat_map}
use Rattle.myisamkit.specs.declared.options.Flag.{Flag}
use Rattle.myisamkit.specs.Words.{Request, usage, create, create_of, is_end, is_option, is_name, flags_of, flags_in, names_in, before_end, after_end, table_name}
use Rattle.myisamkit.specs.Reading.{both_names, one_name_more, create_left}
use Rattle.myisamkit.proofs.ValueLaws.{names_among, flags_among}
use Rattle.myisamkit.proofs.DumpLaws.{has_flag}

-- the names of these, behind two that came or not
abbrev pub two : Option (List ℕ) → Option (List ℕ) → List (List ℕ) → Option (List ℕ × List ℕ)
two name file [] = both_names name file
two name file (word ∷ words) = option_and_then (λ both. two both.0 both.1 words) (one_name_more name file word)

-- where there is no option
abbrev pub two_of : List (Option Flag) → Option (List ℕ) → Option (List ℕ) → List (List ℕ) → Option (List ℕ × List ℕ)
two_of [] name file names = two name file names
two_of (f ∷ flags) name file names = None

-- one name more, and what comes then
goes_on : (o : Option (Option (List ℕ) × Option (List ℕ))) (f g : Option (List ℕ) × Option (List ℕ) → Option (List ℕ × List ℕ)) → ((p : Option (List ℕ) × Option (List ℕ)) → f p ≡ g p) → option_and_then f o ≡ option_and_then g o
goes_on None f g same = refl
goes_on (Some p) f g same = same p

-- behind the word -- all are names
all_names : (name file : Option (List ℕ)) (words : List (List ℕ)) → create_left true name file words ≡ two name file words
all_names name file [] = refl
all_names name file (word ∷ words) = goes_on (one_name_more name file word) _ _ (λ both. all_names both.0 both.1 words)

none_of : (flags others : List (Option Flag)) (name file : Option (List ℕ)) (names : List (List ℕ)) → ((f : Option Flag) × (rest : List (Option Flag)) × (flags ≡ f ∷ rest)) → two_of (flags ++ others) name file names ≡ None
none_of flags others name file names some = ap (λ fs. two_of (fs ++ others) name file names) some.2

-- a name comes
name_comes : (flags : List (Option Flag)) (name file : Option (List ℕ)) (word : List ℕ) (names : List (List ℕ)) → two_of flags name file (word ∷ names) ≡ option_and_then (λ both. two_of flags both.0 both.1 names) (one_name_more name file word)
name_comes [] name file word names = refl
name_comes (f ∷ flags) name file word names = by (one_name_more name file word)
  where
    by : (o : Option (Option (List ℕ) × Option (List ℕ))) → None ≡ option_and_then (λ both. two_of (f ∷ flags) both.0 both.1 names) o
    by None = refl
    by (Some p) = refl

pub created_words : (words : List (List ℕ)) (name file : Option (List ℕ)) → create_left false name file words ≡ two_of (flags_in words) name file (names_in words)
created_words [] name file = refl
created_words (word ∷ words) name file = by_end (λ both. created_words words both.0 both.1) (is_end word)
  where
    by_option : ((p : Option (List ℕ) × Option (List ℕ)) → create_left false p.0 p.1 words ≡ two_of (flags_in words) p.0 p.1 (names_in words)) → (option : Bool) → is_option word ≡ option → (if not option then option_and_then (λ both. create_left false both.0 both.1 words) (one_name_more name file word) else None)
        ≡ two_of (flat_map flags_of (if option then word ∷ filter is_option (before_end words) else filter is_option (before_end words))) name file ((if not option then word ∷ names_among (before_end words) else names_among (before_end words)) ++ after_end words)
    by_option rest true is = sym (none_of (flags_of word) (flags_in words) name file (names_in words) (has_flag word is))
    by_option rest false is = goes_on (one_name_more name file word) _ _ rest ∙ sym (name_comes (flags_in words) name file word (names_in words))

    by_end : ((p : Option (List ℕ) × Option (List ℕ)) → create_left false p.0 p.1 words ≡ two_of (flags_in words) p.0 p.1 (names_in words)) → (end : Bool) → (if not (end || is_option word) then option_and_then (λ both. create_left false both.0 both.1 words) (one_name_more name file word) else (if end then create_left true name file words else None))
        ≡ two_of (flags_among (if end then [] else word ∷ before_end words)) name file (names_among (if end then [] else word ∷ before_end words) ++ (if end then words else after_end words))
    by_end rest true = all_names name file words
    by_end rest false = by_option rest (is_option word) refl

-- the request of two names
abbrev pub request_both : Option (List ℕ × List ℕ) → Request
request_both None = usage
request_both (Some both) = create (table_name both.0) both.1

asked_by : (flags : List (Option Flag)) (names : List (List ℕ)) → request_both (two_of flags None None names) ≡ create_of flags names
asked_by [] [] = refl
asked_by [] (name ∷ []) = by (is_name name)
  where
    by : (a : Bool) → request_both (option_and_then (λ (both : Option (List ℕ) × Option (List ℕ)). two both.0 both.1 []) (if not a then None else Some (Some name, None))) ≡ usage
    by true = refl
    by false = refl
asked_by [] (name ∷ (file ∷ [])) = by (is_name name) (is_name file)
  where
    by : (a b : Bool) → request_both (option_and_then (λ (both : Option (List ℕ) × Option (List ℕ)). option_and_then (λ (both : Option (List ℕ) × Option (List ℕ)). two both.0 both.1 []) (if is_some both.1 || not b then None else (if is_some both.0 then Some (both.0, Some file) else Some (Some file, both.1)))) (if not a then None else Some (Some name, None))) ≡ (if a && b then create (table_name name) file else usage)
    by true true = refl
    by true false = refl
    by false b = refl
asked_by [] (name ∷ (file ∷ (other ∷ names))) = by (is_name name) (is_name file)
  where
    by : (a b : Bool) → request_both (option_and_then (λ (both : Option (List ℕ) × Option (List ℕ)). option_and_then (λ (both : Option (List ℕ) × Option (List ℕ)). two both.0 both.1 (other ∷ names)) (if is_some both.1 || not b then None else (if is_some both.0 then Some (both.0, Some file) else Some (Some file, both.1)))) (if not a then None else Some (Some name, None))) ≡ usage
    by true true = refl
    by true false = refl
    by false b = refl
asked_by (f ∷ flags) names = refl

pub create_asked : (words : List (List ℕ)) → request_both (create_left false None None words) ≡ create_of (flags_in words) (names_in words)
create_asked words = ap request_both (created_words words None None) ∙ asked_by (flags_in words) (names_in words)
