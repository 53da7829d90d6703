-- The words behind `make`, read one after the other.
use Rattle.std.proofs.Common.{◌≡◌, ◌≤◌, arith, ℕ, Bool, true, false, List, [], ◌∷◌, ◌++◌, length, Option, Some, None, refl, sym, ap, ◌∙◌, filter}
use Rattle.std.specs.Prelude.{◌&&◌, ◌||◌, not, nat_lt, nat_le, option_and_then, if◌then◌else◌}
use Rattle.std.specs.List.{list_all, flat_map}
use Rattle.std.proofs.lemmas.Bool.{leb-true}
use Rattle.myi_deftext.specs.Text.{is_digit, value}
use Rattle.myisamkit.specs.declared.options.Flag.{Flag}
use Rattle.myisamkit.specs.Numbers.{number_in}
use Rattle.myisamkit.specs.Words.{Request, usage, make_by, make_of, count_of, seed_of, is_end, is_option, flags_of, flags_in, names_in, before_end, after_end}
use Rattle.myisamkit.specs.Reading.{all_three, one_word_more, make_left}
use Rattle.myisamkit.proofs.ValueLaws.{names_among, flags_among}
use Rattle.myisamkit.proofs.DumpLaws.{has_flag}

-- three words, each of which came or not; and what comes of them
abbrev Word : Type 0
Word = Option (List ℕ)

abbrev Words : Type 0
Words = Word × Word × Word

abbrev Three : Type 0
Three = Option (List ℕ × List ℕ × List ℕ)

-- the words of these, behind three that came or not
abbrev pub three : Option (List ℕ) → Option (List ℕ) → Option (List ℕ) → List (List ℕ) → Option (List ℕ × List ℕ × List ℕ)
three first second third [] = all_three first second third
three first second third (word ∷ words) = option_and_then (λ all. three all.0 all.1 all.2 words) (one_word_more first second third word)

-- where there is no option
abbrev pub three_of : List (Option Flag) → Option (List ℕ) → Option (List ℕ) → Option (List ℕ) → List (List ℕ) → Option (List ℕ × List ℕ × List ℕ)
three_of [] first second third names = three first second third names
three_of (f ∷ flags) first second third names = None

-- one word more, and what comes then
goes_on : (o : Option Words) (f g : Words → Three) → ((p : Words) → f p ≡ g p) → option_and_then f o ≡ option_and_then g o
goes_on None f g same = refl
goes_on (Some p) f g same = same p

-- behind the word -- no word is an option
all_names : (first second third : Option (List ℕ)) (words : List (List ℕ)) → make_left true first second third words ≡ three first second third words
all_names first second third [] = refl
all_names first second third (word ∷ words) = goes_on (one_word_more first second third word) _ _ (λ all. all_names all.0 all.1 all.2 words)

none_of : (flags others : List (Option Flag)) (first second third : Option (List ℕ)) (names : List (List ℕ)) → ((f : Option Flag) × (rest : List (Option Flag)) × (flags ≡ f ∷ rest)) → three_of (flags ++ others) first second third names ≡ None
none_of flags others first second third names some = ap (λ fs. three_of (fs ++ others) first second third names) some.2

-- a word comes
word_comes : (flags : List (Option Flag)) (first second third : Option (List ℕ)) (word : List ℕ) (names : List (List ℕ)) → three_of flags first second third (word ∷ names) ≡ option_and_then (λ all. three_of flags all.0 all.1 all.2 names) (one_word_more first second third word)
word_comes [] first second third word names = refl
word_comes (f ∷ flags) first second third word names = by (one_word_more first second third word)
  where
    by : (o : Option Words) → None ≡ option_and_then (λ all. three_of (f ∷ flags) all.0 all.1 all.2 names) o
    by None = refl
    by (Some p) = refl

pub made_words : (words : List (List ℕ)) (first second third : Option (List ℕ)) → make_left false first second third words ≡ three_of (flags_in words) first second third (names_in words)
made_words [] first second third = refl
made_words (word ∷ words) first second third = by_end (λ all. made_words words all.0 all.1 all.2) (is_end word)
  where
    by_option : ((p : Words) → make_left false p.0 p.1 p.2 words ≡ three_of (flags_in words) p.0 p.1 p.2 (names_in words)) → (option : Bool) → is_option word ≡ option → (if not option then option_and_then (λ all. make_left false all.0 all.1 all.2 words) (one_word_more first second third word) else None)
        ≡ three_of (flat_map flags_of (if option then word ∷ filter is_option (before_end words) else filter is_option (before_end words))) first second third ((if not option then word ∷ names_among (before_end words) else names_among (before_end words)) ++ after_end words)
    by_option rest true is = sym (none_of (flags_of word) (flags_in words) first second third (names_in words) (has_flag word is))
    by_option rest false is = goes_on (one_word_more first second third word) _ _ rest ∙ sym (word_comes (flags_in words) first second third word (names_in words))

    by_end : ((p : Words) → make_left false p.0 p.1 p.2 words ≡ three_of (flags_in words) p.0 p.1 p.2 (names_in words)) → (end : Bool) → (if not (end || is_option word) then option_and_then (λ all. make_left false all.0 all.1 all.2 words) (one_word_more first second third word) else (if end then make_left true first second third words else None))
        ≡ three_of (flags_among (if end then [] else word ∷ before_end words)) first second third (names_among (if end then [] else word ∷ before_end words) ++ (if end then words else after_end words))
    by_end rest true = all_names first second third words
    by_end rest false = by_option rest (is_option word) refl

-- the request of three words
abbrev pub request_three : Option (List ℕ × List ℕ × List ℕ) → Request
request_three None = usage
request_three (Some all) = make_by (count_of all.0) (seed_of all.1) all.2

asked_by : (flags : List (Option Flag)) (names : List (List ℕ)) → request_three (three_of flags None None None names) ≡ make_of flags names
asked_by [] [] = refl
asked_by [] (count ∷ []) = refl
asked_by [] (count ∷ (seed ∷ [])) = refl
asked_by [] (count ∷ (seed ∷ (name ∷ []))) = refl
asked_by [] (count ∷ (seed ∷ (name ∷ (other ∷ names)))) = refl
asked_by (f ∷ flags) names = refl

pub make_asked : (words : List (List ℕ)) → request_three (make_left false None None None words) ≡ make_of (flags_in words) (names_in words)
make_asked words = ap request_three (made_words words None None None) ∙ asked_by (flags_in words) (names_in words)

-- a number in its range
pub within : (least most n : ℕ) (word : List ℕ) → number_in least most word ≡ Some n → (least ≤ n) × (n ≤ most)
within least most n word is = by (nat_lt 0 (length word) && nat_le (length word) 20) (list_all is_digit word) (nat_le least (value word)) (nat_le (value word) most) refl refl is
  where
    by : (a b c d : Bool) → nat_le least (value word) ≡ c → nat_le (value word) most ≡ d → (if a && (b && (c && d)) then Some (value word) else None) ≡ Some n → (least ≤ n) × (n ≤ most)
    by true true true true low high e =
        let same : value word ≡ n = cc in
        (omega (arith, leb-true _ _ low, same), omega (arith, leb-true _ _ high, same))
    by true true true false low high e = absurd cc
    by true true false d low high e = absurd cc
    by true false c d low high e = absurd cc
    by false b c d low high e = absurd cc
