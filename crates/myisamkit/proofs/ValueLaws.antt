-- What words are to the options that have a value.
use Rattle.std.proofs.Common.{◌≡◌, ◌⊎◌, inl, inr, ℕ, suc, Bool, true, false, List, [], ◌∷◌, ◌++◌, length, take, map, Option, Some, None, refl, sym, ap, subst, ◌∙◌, filter, get_or, append_assoc, arith}
use Rattle.std.specs.Prelude.{◌&&◌, ◌-◌, not, nat_lt, ◌==◌, slice_index, codes, if◌then◌else◌}
use Rattle.std.specs.List.{flat_map}
use Rattle.std.specs.Str.{bytes_eq}
use Rattle.std.proofs.lemmas.Bool.{cases_Bool, lt-ltb, eqb-true}
use Rattle.std.proofs.lemmas.Slice.Eq.{bytes_eq-Decides}
use Rattle.myisamkit.specs.declared.options.Flag.{Flag}
use Rattle.myisamkit.specs.Words.{is_end, is_option, is_long, flags_of, flags_in, names_in, before_end, after_end, has_dash, before_valued, letters_alone, joined, spelled_out}
use Rattle.myisamkit.specs.Options.{letter_flag, sort_flag, sort_records}

-- the words that are no options, and those that are
abbrev pub names_among : List (List ℕ) → List (List ℕ)
names_among words = filter (λ word. not (is_option word)) words

abbrev pub flags_among : List (List ℕ) → List (Option Flag)
flags_among words = flat_map flags_of (filter is_option words)

-- ---- a word before others

pub end_names : (word : List ℕ) (words : List (List ℕ)) → is_end word ≡ true → names_in (word ∷ words) ≡ words
end_names word words is = ap (λ e. names_among (if e then [] else word ∷ before_end words) ++ (if e then words else after_end words)) is

pub end_flags : (word : List ℕ) (words : List (List ℕ)) → is_end word ≡ true → flags_in (word ∷ words) ≡ []
end_flags word words is = ap (λ e. flags_among (if e then [] else word ∷ before_end words)) is

opened : (word : List ℕ) (words : List (List ℕ)) → is_end word ≡ false → names_in (word ∷ words) ≡ (if not (is_option word) then word ∷ names_among (before_end words) else names_among (before_end words)) ++ after_end words
opened word words is = ap (λ e. names_among (if e then [] else word ∷ before_end words) ++ (if e then words else after_end words)) is

opened_flags : (word : List ℕ) (words : List (List ℕ)) → is_end word ≡ false → flags_in (word ∷ words) ≡ flat_map flags_of (if is_option word then word ∷ filter is_option (before_end words) else filter is_option (before_end words))
opened_flags word words is = ap (λ e. flags_among (if e then [] else word ∷ before_end words)) is

pub name_names : (word : List ℕ) (words : List (List ℕ)) → is_end word ≡ false → is_option word ≡ false → names_in (word ∷ words) ≡ word ∷ names_in words
name_names word words other is = opened word words other ∙ ap (λ o. (if not o then word ∷ names_among (before_end words) else names_among (before_end words)) ++ after_end words) is

pub name_flags : (word : List ℕ) (words : List (List ℕ)) → is_end word ≡ false → is_option word ≡ false → flags_in (word ∷ words) ≡ flags_in words
name_flags word words other is = opened_flags word words other ∙ ap (λ o. flat_map flags_of (if o then word ∷ filter is_option (before_end words) else filter is_option (before_end words))) is

pub option_names : (word : List ℕ) (words : List (List ℕ)) → is_end word ≡ false → is_option word ≡ true → names_in (word ∷ words) ≡ names_in words
option_names word words other is = opened word words other ∙ ap (λ o. (if not o then word ∷ names_among (before_end words) else names_among (before_end words)) ++ after_end words) is

pub option_flags : (word : List ℕ) (words : List (List ℕ)) → is_end word ≡ false → is_option word ≡ true → flags_in (word ∷ words) ≡ flags_of word ++ flags_in words
option_flags word words other is = opened_flags word words other ∙ ap (λ o. flat_map flags_of (if o then word ∷ filter is_option (before_end words) else filter is_option (before_end words))) is

-- ---- words that are no values, and words that are

and_true : (a b : Bool) → (a && b) ≡ true → (a ≡ true) × (b ≡ true)
and_true true b e = (refl, e)
and_true false b e = absurd cc

not_is : (a : Bool) → not a ≡ true → a ≡ false
not_is true e = absurd cc
not_is false e = refl

right_false : (a b : Bool) → b ≡ false → (a && b) ≡ false
right_false true b e = e
right_false false b e = refl

-- a word without a dash is no option, and is not --
pub record IsPlain (word : List ℕ) : Type 0 where
  pub no_end : is_end word ≡ false
  pub no_option : is_option word ≡ false
  pub none : before_valued word ≡ None
  pub spelled : (words : List (List ℕ)) → spelled_out (word ∷ words) ≡ word ∷ spelled_out words

no_long : (word text : List ℕ) → has_dash word ≡ false → has_dash text ≡ true → bytes_eq word text ≡ false
no_long word text none dash = by (cases_Bool (bytes_eq word text))
  where
    by : (bytes_eq word text ≡ true) ⊎ (bytes_eq word text ≡ false) → bytes_eq word text ≡ false
    by (inr other) = other
    by (inl same) = let e : true ≡ false = sym dash ∙ (ap has_dash (sym ((bytes_eq-Decides word text).0 same)) ∙ none) in cc

pub is_plain : (word : List ℕ) → has_dash word ≡ false → IsPlain word
is_plain word none = record { no_end = end; no_option = option; none = unvalued; spelled = λ words. rw end (rw unvalued refl) }
  where
    end : is_end word ≡ false
    end = no_long word (codes "--") none refl

    option : is_option word ≡ false
    option = right_false (nat_lt 1 (length word)) (has_dash word) none

    unvalued : before_valued word ≡ None
    unvalued = rw (no_long word (codes "--sort-records") none refl) (rw option refl)

-- the option that sorts rows with its value behind it
abbrev pub long_word : List ℕ → List ℕ
long_word value = codes "--" ++ (sort_records ++ value)

pub long_no_end : (value : List ℕ) → is_end (long_word value) ≡ false
long_no_end value = refl

pub two_or_more : (n : ℕ) → nat_lt 1 (suc (suc n)) ≡ true
two_or_more n = lt-ltb 1 (suc (suc n)) (omega arith)

pub long_option : (value : List ℕ) → is_option (long_word value) ≡ true
long_option value = ap (λ b. b && true) (two_or_more _)

pub long_flags : (value : List ℕ) → flags_of (long_word value) ≡ sort_flag value ∷ []
long_flags value = refl

-- a word whose last option has its value in the word behind it
pub record IsValued (front word : List ℕ) : Type 0 where
  pub option : is_option word ≡ true
  pub no_end : is_end word ≡ false
  pub refused : (flags : List (Option Flag)) → flags_of word ++ flags ≡ flags_of front ++ (None ∷ flags)
  pub alone_names : (words : List (List ℕ)) → names_in (letters_alone front ++ words) ≡ names_in words
  pub alone_flags : (words : List (List ℕ)) → flags_in (letters_alone front ++ words) ≡ flags_of front ++ flags_in words
  pub alone_dash : (nat_lt 1 (length front)) ≡ true → has_dash front ≡ true

-- the last byte of a list stands behind the others
last_behind : (b : ℕ) (rest : List ℕ) → (b ∷ rest) ≡ take (length rest) (b ∷ rest) ++ (get_or (b ∷ rest) (length rest) 0 ∷ [])
last_behind b [] = refl
last_behind b (c ∷ rest) = ap (λ l. b ∷ l) (last_behind c rest)

short_flags : (front : List ℕ) → nat_lt 1 (length front) ≡ false → flags_of front ≡ []
short_flags [] short = refl
short_flags (a ∷ []) short = rw (right_false (a == 45) false refl) refl
short_flags (a ∷ (b ∷ rest)) short = let e : true ≡ false = sym (two_or_more (length rest)) ∙ short in absurd cc

same_number : (a b : ℕ) → (a == b) ≡ true → a ≡ b
same_number a b e = eqb-true a b e

-- letters
letters_valued : (a b : ℕ) (rest : List ℕ) → (a == 45) ≡ true → bytes_eq (a ∷ (b ∷ [])) (codes "--") ≡ false → get_or (b ∷ rest) (length rest) 0 ≡ 82 → IsValued (a ∷ take (length rest) (b ∷ rest)) (a ∷ (b ∷ rest))
letters_valued a b rest dash short last = record {
  option = ap (λ b. b && (a == 45)) (two_or_more (length rest)) ∙ dash;
  no_end = no_end;
  refused = λ flags. ap (λ fs. fs ++ flags) all_flags ∙ append_assoc (map letter_flag front) (None ∷ []) flags ∙ ap (λ fs. fs ++ (None ∷ flags)) (sym front_flags);
  alone_names = λ words. names (nat_lt 1 (length (a ∷ front))) refl words;
  alone_flags = λ words. flags_alone (nat_lt 1 (length (a ∷ front))) refl words;
  alone_dash = λ long. dash;
}
  where
    front : List ℕ
    front = take (length rest) (b ∷ rest)

    no_end : bytes_eq (a ∷ (b ∷ rest)) (codes "--") ≡ false
    no_end = by rest
      where
        by : (rest : List ℕ) → bytes_eq (a ∷ (b ∷ rest)) (codes "--") ≡ false
        by [] = short
        by (c ∷ rest) = rw (right_false (b == 45) false refl) (right_false (a == 45) false refl)

    front_long : is_long (a ∷ front) ≡ false
    front_long = by rest
      where
        by : (rest : List ℕ) → is_long (a ∷ take (length rest) (b ∷ rest)) ≡ false
        by [] = right_false (a == 45) false refl
        by (c ∷ rest) = short

    front_flags : flags_of (a ∷ front) ≡ map letter_flag front
    front_flags = rw front_long refl

    map_append : (xs ys : List ℕ) → map letter_flag (xs ++ ys) ≡ map letter_flag xs ++ map letter_flag ys
    map_append [] ys = refl
    map_append (x ∷ xs) ys = ap (λ l. letter_flag x ∷ l) (map_append xs ys)

    all_flags : flags_of (a ∷ (b ∷ rest)) ≡ map letter_flag front ++ (None ∷ [])
    all_flags = rw short (ap (map letter_flag) (last_behind b rest ∙ ap (λ n. front ++ (n ∷ [])) last) ∙ map_append front (82 ∷ []))

    names : (long : Bool) → nat_lt 1 (length (a ∷ front)) ≡ long → (words : List (List ℕ)) → names_in ((if long then (a ∷ front) ∷ [] else []) ++ words) ≡ names_in words
    names true is words = option_names (a ∷ front) words (front_no_end) (rw is dash)
      where
        front_no_end : is_end (a ∷ front) ≡ false
        front_no_end = by rest
          where
            by : (rest : List ℕ) → bytes_eq (a ∷ take (length rest) (b ∷ rest)) (codes "--") ≡ false
            by [] = right_false (a == 45) false refl
            by (c ∷ []) = short
            by (c ∷ (d ∷ rest)) = rw (right_false (b == 45) false refl) (right_false (a == 45) false refl)
    names false is words = refl

    flags_alone : (long : Bool) → nat_lt 1 (length (a ∷ front)) ≡ long → (words : List (List ℕ)) → flags_in ((if long then (a ∷ front) ∷ [] else []) ++ words) ≡ flags_of (a ∷ front) ++ flags_in words
    flags_alone true is words = option_flags (a ∷ front) words (front_no_end) (rw is dash)
      where
        front_no_end : is_end (a ∷ front) ≡ false
        front_no_end = by rest
          where
            by : (rest : List ℕ) → bytes_eq (a ∷ take (length rest) (b ∷ rest)) (codes "--") ≡ false
            by [] = right_false (a == 45) false refl
            by (c ∷ []) = short
            by (c ∷ (d ∷ rest)) = rw (right_false (b == 45) false refl) (right_false (a == 45) false refl)
    flags_alone false is words = ap (λ fs. fs ++ flags_in words) (sym (short_flags (a ∷ front) is))

-- the long option
long_valued : IsValued [] (codes "--sort-records")
long_valued = record { option = refl; no_end = refl; refused = λ flags. refl; alone_names = λ words. refl; alone_flags = λ words. refl; alone_dash = λ long. absurd cc }

some_is : {A : Type 0} (x y : A) → Some x ≡ Some y → x ≡ y
some_is x y e = cc

letters_by : (front word : List ℕ) (c : Bool) → ((is_option word && not (is_long word)) && (slice_index word (length word - 1) == 82)) ≡ c → (if c then Some (take (length word - 1) word) else None) ≡ Some front → IsValued front word
letters_by front [] c is valued = by c is valued
  where
    by : (c : Bool) → false ≡ c → (if c then Some [] else None) ≡ Some front → IsValued front []
    by true is valued = absurd cc
    by false is valued = absurd cc
letters_by front (a ∷ []) c is valued = by c is valued
  where
    by : (c : Bool) → false ≡ c → (if c then Some [] else None) ≡ Some front → IsValued front (a ∷ [])
    by true is valued = absurd cc
    by false is valued = absurd cc
letters_by front (a ∷ (b ∷ rest)) true is valued =
    let word : List ℕ = a ∷ (b ∷ rest) in
    let shorter : suc (suc (length rest)) - 1 ≡ suc (length rest) = omega arith in
    let here : ((is_option word && not (is_long word)) && (slice_index word (suc (length rest)) == 82)) ≡ true = subst (λ n. ((is_option word && not (is_long word)) && (slice_index word n == 82)) ≡ true) shorter is in
    let front_is : Some (take (suc (length rest)) word) ≡ Some front = subst (λ n. Some (take n word) ≡ Some front) shorter valued in
    let first = and_true (is_option word && not (is_long word)) (slice_index word (suc (length rest)) == 82) here in
    let second = and_true (is_option word) (not (is_long word)) first.0 in
    let dash = and_true (nat_lt 1 (length word)) (a == 45) second.0 in
    subst (λ f. IsValued f word) (some_is _ _ front_is) (letters_valued a b rest dash.1 (not_is _ second.1) (same_number _ 82 first.1))
letters_by front (a ∷ (b ∷ rest)) false is valued = absurd cc

pub is_valued : (front word : List ℕ) → before_valued word ≡ Some front → IsValued front word
is_valued front word valued = by_long (cases_Bool (bytes_eq word (codes "--sort-records")))
  where
    by_long : (bytes_eq word (codes "--sort-records") ≡ true) ⊎ (bytes_eq word (codes "--sort-records") ≡ false) → IsValued front word
    by_long (inl same) =
        let none : [] ≡ front = some_is [] front (sym (rw same refl) ∙ valued) in
        subst (λ f. IsValued f word) none (subst (λ w. IsValued [] w) (sym ((bytes_eq-Decides word (codes "--sort-records")).0 same)) long_valued)
    by_long (inr other) = letters_by front word _ refl (sym (rw other refl) ∙ valued)

-- words that begin with a dash begin with one when they are spelled out
pub record HasHead (word : List ℕ) (words : List (List ℕ)) : Type 0 where
  pub first : List ℕ
  pub others : List (List ℕ)
  pub is : spelled_out (word ∷ words) ≡ first ∷ others
  pub dash : has_dash first ≡ true

pub head_of : (word : List ℕ) (words : List (List ℕ)) → has_dash word ≡ true → HasHead word words
head_of word words dash = by_end (cases_Bool (is_end word))
  where
    by_joined : (front : List ℕ) → IsValued front word → (left : List (List ℕ)) → (first : List ℕ) × (others : List (List ℕ)) × (joined front word left ≡ first ∷ others) × (has_dash first ≡ true)
    by_joined front v [] = (word, [], refl, dash)
    by_joined front v (next ∷ others) = by_dash (has_dash next)
      where
        by_length : (long : Bool) → nat_lt 1 (length front) ≡ long → (first : List ℕ) × (rest : List (List ℕ)) × ((if long then front ∷ [] else []) ++ (long_word next ∷ others) ≡ first ∷ rest) × (has_dash first ≡ true)
        by_length true is = (front, long_word next ∷ others, refl, v.alone_dash is)
        by_length false is = (long_word next, others, refl, refl)

        by_dash : (d : Bool) → (first : List ℕ) × (rest : List (List ℕ)) × ((if d then word ∷ (next ∷ others) else letters_alone front ++ (long_word next ∷ others)) ≡ first ∷ rest) × (has_dash first ≡ true)
        by_dash true = (word, next ∷ others, refl, dash)
        by_dash false = by_length (nat_lt 1 (length front)) refl

    by_valued : is_end word ≡ false → (o : Option (List ℕ)) → before_valued word ≡ o → HasHead word words
    by_valued other None none = record { first = word; others = spelled_out words; is = rw other (rw none refl); dash = dash }
    by_valued other (Some front) valued =
        let h = by_joined front (is_valued front word valued) (spelled_out words) in
        record { first = h.0; others = h.1; is = rw other (rw valued h.2); dash = h.3 }

    by_end : (is_end word ≡ true) ⊎ (is_end word ≡ false) → HasHead word words
    by_end (inl end) = record { first = word; others = words; is = rw end refl; dash = dash }
    by_end (inr other) = by_valued other (before_valued word) refl
