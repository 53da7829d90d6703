-- The words behind `shell`, read one after the other.
use Rattle.std.proofs.Common.{◌≡◌, ℕ, Bool, true, false, List, [], ◌∷◌, ◌++◌, length, map, Option, Some, None, refl, sym, ap, subst, ◌∙◌, filter}
use Rattle.std.specs.Prelude.{◌&&◌, ◌||◌, not, if◌then◌else◌, is_some, option_and_then, option_map, codes}
use Rattle.std.specs.Str.{bytes_eq}
use Rattle.std.proofs.lemmas.Slice.Eq.{bytes_eq-Decides}
use Rattle.myisamkit.specs.declared.shell_options.ShellFlag.{ShellFlag}
use Rattle.myisamkit.specs.declared.shell_options.ShellKind.{ShellKind}
use Rattle.myisamkit.specs.declared.shell_options.ShellKind.TheVariants as kind
use Rattle.myisamkit.specs.declared.shell_options.ShellSeen.{ShellSeen}
use Rattle.myisamkit.specs.declared.shell_words.ShellRead.{ShellRead}
use Rattle.myisamkit.specs.ShellOptions.{shell_flag, kind_of, flag_of_kind, takes_value, shell_go_together, shell_options_in}
use Rattle.myisamkit.specs.Words.{Request, usage, shell, shell_of, plan_shell, shell_flags_in, shell_spelled_out, value_joined, is_end, is_option, is_name, has_dash, names_in, before_end, table_name}
use Rattle.myisamkit.specs.Reading.{both_names, one_name_more}
use Rattle.myisamkit.specs.ShellReading.{shell_with, shell_seen, shell_after, read_option, shell_left, shell_read_none}
use Rattle.myisamkit.proofs.ValueLaws.{two_or_more, end_names, name_names, option_names}
use Rattle.myisamkit.proofs.CreateWordLaws.{two}
use Rattle.myisamkit.proofs.ShellOptionLaws.{seen_of, all_first, options_met, options_same}

abbrev Both : Type 0
Both = Option (List ℕ) × Option (List ℕ)

abbrev Names : Type 0
Names = Option (List ℕ × List ℕ)

abbrev All : Type 0
All = Option (ShellSeen × List ℕ × List ℕ)

abbrev reading : ShellSeen → Option ShellKind → Bool → ShellRead
reading seen waits ended = record { seen = seen; waits = waits; ended = ended }

abbrev paired : Option ShellSeen → Names → All
paired None names = None
paired (Some seen) None = None
paired (Some seen) (Some both) = Some (seen, both.0, both.1)

no_names : (seen : Option ShellSeen) → None ≡ paired seen None
no_names None = refl
no_names (Some seen) = refl

both_paired : (seen : ShellSeen) (names : Names) → option_map (λ both. (seen, both.0, both.1)) names ≡ paired (Some seen) names
both_paired seen None = refl
both_paired seen (Some both) = refl

-- a name more, and what comes then
goes_on : (seen : Option ShellSeen) (o : Option Both) (f : Both → All) (g : Both → Names) → ((p : Both) → f p ≡ paired seen (g p)) → option_and_then f o ≡ paired seen (option_and_then g o)
goes_on seen None f g same = no_names seen
goes_on seen (Some p) f g same = same p

-- behind the word -- all are names
all_names : (seen : ShellSeen) (name script : Option (List ℕ)) (words : List (List ℕ)) → shell_left (reading seen None true) name script words ≡ paired (Some seen) (two name script words)
all_names seen name script [] = both_paired seen (both_names name script)
all_names seen name script (word ∷ words) = goes_on (Some seen) (one_name_more name script word) _ _ (λ both. all_names seen both.0 both.1 words)

-- ---- a word before others

flags_by : (word : List ℕ) (words : List (List ℕ)) (end : Bool) → is_end word ≡ end → shell_flags_in (word ∷ words) ≡ map shell_flag (filter is_option (if end then [] else word ∷ before_end words))
flags_by word words end is = ap (λ e. map shell_flag (filter is_option (if e then [] else word ∷ before_end words))) is

end_flags : (word : List ℕ) (words : List (List ℕ)) → is_end word ≡ true → shell_flags_in (word ∷ words) ≡ []
end_flags word words is = flags_by word words true is

option_flags : (word : List ℕ) (words : List (List ℕ)) → is_end word ≡ false → is_option word ≡ true → shell_flags_in (word ∷ words) ≡ shell_flag word ∷ shell_flags_in words
option_flags word words other is = flags_by word words false other ∙ ap (λ o. map shell_flag (if o then word ∷ filter is_option (before_end words) else filter is_option (before_end words))) is

name_flags : (word : List ℕ) (words : List (List ℕ)) → is_end word ≡ false → is_option word ≡ false → shell_flags_in (word ∷ words) ≡ shell_flags_in words
name_flags word words other is = flags_by word words false other ∙ ap (λ o. map shell_flag (if o then word ∷ filter is_option (before_end words) else filter is_option (before_end words))) is

-- ---- an option whose value is the word behind it

pub record IsWaiting (word : List ℕ) (k : ShellKind) : Type 0 where
  pub no_end : is_end word ≡ false
  pub option : is_option word ≡ true
  pub alone : shell_flag word ≡ None
  pub valued : (value : List ℕ) → shell_flag (word ++ 61 ∷ value) ≡ flag_of_kind k value
  pub valued_no_end : (value : List ℕ) → is_end (word ++ 61 ∷ value) ≡ false
  pub valued_option : (value : List ℕ) → is_option (word ++ 61 ∷ value) ≡ true
  pub dash : has_dash word ≡ true
  pub valued_dash : (value : List ℕ) → has_dash (word ++ 61 ∷ value) ≡ true

some_same : {A : Type 0} (x y : A) → ◌≡◌ {A = Option A} (Some x) (Some y) → x ≡ y
some_same x y same = cc

option_of : (b : ℕ) (rest : List ℕ) → is_option (45 ∷ (b ∷ rest)) ≡ true
option_of b rest = ap (λ x. x && true) (two_or_more (length rest))

blocks_waiting : IsWaiting (codes "--key-cache-blocks") kind.Blocks
blocks_waiting = record { no_end = refl; option = refl; alone = refl; valued = λ value. refl; valued_no_end = λ value. refl; valued_option = λ value. option_of 45 (codes "key-cache-blocks" ++ 61 ∷ value); dash = refl; valued_dash = λ value. refl }

division_waiting : IsWaiting (codes "--key-cache-division-limit") kind.Division
division_waiting = record { no_end = refl; option = refl; alone = refl; valued = λ value. refl; valued_no_end = λ value. refl; valued_option = λ value. option_of 45 (codes "key-cache-division-limit" ++ 61 ∷ value); dash = refl; valued_dash = λ value. refl }

age_waiting : IsWaiting (codes "--key-cache-age-threshold") kind.Age
age_waiting = record { no_end = refl; option = refl; alone = refl; valued = λ value. refl; valued_no_end = λ value. refl; valued_option = λ value. option_of 45 (codes "key-cache-age-threshold" ++ 61 ∷ value); dash = refl; valued_dash = λ value. refl }

concurrent_waiting : IsWaiting (codes "--concurrent-insert") kind.Concurrent
concurrent_waiting = record { no_end = refl; option = refl; alone = refl; valued = λ value. refl; valued_no_end = λ value. refl; valued_option = λ value. option_of 45 (codes "concurrent-insert" ++ 61 ∷ value); dash = refl; valued_dash = λ value. refl }

as_named : (word text : List ℕ) (q k : ShellKind) → bytes_eq word text ≡ true → ◌≡◌ {A = Option ShellKind} (Some q) (Some k) → IsWaiting text q → IsWaiting word k
as_named word text q k e same is = subst (λ x. IsWaiting word x) (some_same q k same) (subst (λ w. IsWaiting w q) (sym ((bytes_eq-Decides word text).0 e)) is)

waiting : (word : List ℕ) (k : ShellKind) → kind_of word ≡ Some k → IsWaiting word k
waiting word k is = by_bits (bytes_eq word (codes "--key-cache-blocks")) (bytes_eq word (codes "--key-cache-division-limit")) (bytes_eq word (codes "--key-cache-age-threshold")) (bytes_eq word (codes "--concurrent-insert")) refl refl refl refl is
  where
    by_bits : (a b c d : Bool) → bytes_eq word (codes "--key-cache-blocks") ≡ a → bytes_eq word (codes "--key-cache-division-limit") ≡ b → bytes_eq word (codes "--key-cache-age-threshold") ≡ c → bytes_eq word (codes "--concurrent-insert") ≡ d → (if a then Some kind.Blocks else (if b then Some kind.Division else (if c then Some kind.Age else (if d then Some kind.Concurrent else None)))) ≡ Some k → IsWaiting word k
    by_bits true b c d e f g h same = as_named word (codes "--key-cache-blocks") kind.Blocks k e same blocks_waiting
    by_bits false true c d e f g h same = as_named word (codes "--key-cache-division-limit") kind.Division k f same division_waiting
    by_bits false false true d e f g h same = as_named word (codes "--key-cache-age-threshold") kind.Age k g same age_waiting
    by_bits false false false true e f g h same = as_named word (codes "--concurrent-insert") kind.Concurrent k h same concurrent_waiting
    by_bits false false false false e f g h same = absurd cc

-- ---- all words

-- the words from here on are read as they are spelled out
abbrev Reads : ShellSeen → Option (List ℕ) → Option (List ℕ) → List (List ℕ) → Type 0
Reads seen name script words = shell_left (reading seen None false) name script words ≡ paired (shell_after seen (shell_flags_in (shell_spelled_out words))) (two name script (names_in (shell_spelled_out words)))

-- the same behind an option that waits for its value
abbrev ReadsValue : List ℕ → ShellKind → ShellSeen → Option (List ℕ) → Option (List ℕ) → List (List ℕ) → Type 0
ReadsValue word k seen name script words = shell_left (reading seen (Some k) false) name script words ≡ paired (shell_after seen (shell_flags_in (value_joined word (shell_spelled_out words)))) (two name script (names_in (value_joined word (shell_spelled_out words))))

flag_step : (o : Option ShellFlag) (seen : ShellSeen) (flags : List (Option ShellFlag)) (names : Names) (name script : Option (List ℕ)) (words : List (List ℕ)) → ((s : ShellSeen) → shell_left (reading s None false) name script words ≡ paired (shell_after s flags) names)
    → option_and_then (λ next. shell_left next name script words) (option_map (λ s. reading s None false) (option_and_then (shell_with seen) o)) ≡ paired (shell_after seen (o ∷ flags)) names
flag_step None seen flags names name script words rest = refl
flag_step (Some f) seen flags names name script words rest = by (shell_with seen f)
  where
    by : (o : Option ShellSeen) → option_and_then (λ next. shell_left next name script words) (option_map (λ s. reading s None false) o) ≡ paired (option_and_then (λ next. shell_after next flags) o) names
    by None = refl
    by (Some s) = rest s

-- a value is missing
missing : (word : List ℕ) (k : ShellKind) (seen : ShellSeen) (names : Names) (words : List (List ℕ)) → IsWaiting word k → None ≡ paired (shell_after seen (shell_flags_in (word ∷ words))) names
missing word k seen names words is = sym (ap (λ f. paired (shell_after seen f) names) (option_flags word words is.no_end is.option ∙ ap (λ o. o ∷ shell_flags_in words) is.alone))

spelled : (word : List ℕ) (words : List (List ℕ)) (e : Bool) (k : Option ShellKind) → is_end word ≡ e → kind_of word ≡ k → shell_spelled_out (word ∷ words) ≡ (if e then word ∷ words else (if is_some k then value_joined word (shell_spelled_out words) else word ∷ shell_spelled_out words))
spelled word words e k ends kinds =
    ap (λ x. if x then word ∷ words else (if takes_value word then value_joined word (shell_spelled_out words) else word ∷ shell_spelled_out words)) ends
    ∙ ap (λ x. if e then word ∷ words else (if is_some x then value_joined word (shell_spelled_out words) else word ∷ shell_spelled_out words)) kinds

-- a word that begins with a dash is no value
no_value : (word next : List ℕ) (words : List (List ℕ)) → has_dash next ≡ true → value_joined word (next ∷ words) ≡ word ∷ (next ∷ words)
no_value word next words dash = ap (λ d. if d then word ∷ (next ∷ words) else (word ++ 61 ∷ next) ∷ words) dash

joined_dash : (word next : List ℕ) (k : ShellKind) (words : List (List ℕ)) → IsWaiting next k → value_joined word (value_joined next words) ≡ word ∷ value_joined next words
joined_dash word next k [] is = no_value word next [] is.dash
joined_dash word next k (x ∷ xs) is = by (has_dash x)
  where
    by : (d : Bool) → value_joined word (if d then next ∷ (x ∷ xs) else (next ++ 61 ∷ x) ∷ xs) ≡ word ∷ (if d then next ∷ (x ∷ xs) else (next ++ 61 ∷ x) ∷ xs)
    by true = no_value word next (x ∷ xs) is.dash
    by false = no_value word (next ++ 61 ∷ x) xs (is.valued_dash x)

dashed : (word next : List ℕ) (words : List (List ℕ)) (e : Bool) (k : Option ShellKind) → is_end next ≡ e → kind_of next ≡ k → has_dash next ≡ true → value_joined word (shell_spelled_out (next ∷ words)) ≡ word ∷ shell_spelled_out (next ∷ words)
dashed word next words e k ends kinds dash = subst (λ l. value_joined word l ≡ word ∷ l) (sym (spelled next words e k ends kinds)) (by e k kinds)
  where
    by : (e : Bool) (k : Option ShellKind) → kind_of next ≡ k → value_joined word (if e then next ∷ words else (if is_some k then value_joined next (shell_spelled_out words) else next ∷ shell_spelled_out words)) ≡ word ∷ (if e then next ∷ words else (if is_some k then value_joined next (shell_spelled_out words) else next ∷ shell_spelled_out words))
    by true k kinds = no_value word next words dash
    by false None kinds = no_value word next (shell_spelled_out words) dash
    by false (Some q) kinds = joined_dash word next q (shell_spelled_out words) (waiting next q kinds)

end_dash : (word : List ℕ) → is_end word ≡ true → has_dash word ≡ true
end_dash word is = subst (λ w. has_dash w ≡ true) (sym ((bytes_eq-Decides word (codes "--")).0 is)) refl

-- a word that does not begin with a dash is the value
plain : (next : List ℕ) (words : List (List ℕ)) → has_dash next ≡ false → shell_spelled_out (next ∷ words) ≡ next ∷ shell_spelled_out words
plain next words lacks = by (is_end next) (kind_of next) refl refl
  where
    by : (e : Bool) (k : Option ShellKind) → is_end next ≡ e → kind_of next ≡ k → shell_spelled_out (next ∷ words) ≡ next ∷ shell_spelled_out words
    by true k ends kinds = let clash : true ≡ false = sym (end_dash next ends) ∙ lacks in absurd cc
    by false None ends kinds = spelled next words false None ends kinds
    by false (Some q) ends kinds = let clash : true ≡ false = sym (waiting next q kinds).dash ∙ lacks in absurd cc

-- a word with its value, and the words behind
abbrev with_value : List ℕ → List ℕ → List (List ℕ) → List (List ℕ)
with_value word next words = (word ++ 61 ∷ next) ∷ shell_spelled_out words

reads_value : (word : List ℕ) (k : ShellKind) (seen : ShellSeen) (name script : Option (List ℕ)) (next : List ℕ) (words : List (List ℕ)) → ((s : ShellSeen) → Reads s name script words) → IsWaiting word k → ReadsValue word k seen name script (next ∷ words)
reads_value word k seen name script next words rest is = by (has_dash next) refl
  where
    by : (d : Bool) → has_dash next ≡ d → ReadsValue word k seen name script (next ∷ words)
    by true dash =
        ap (λ d. option_and_then (λ nx. shell_left nx name script words) (if d then None else option_map (λ s. reading s None false) (option_and_then (shell_with seen) (flag_of_kind k next)))) dash
        ∙ (missing word k seen (two name script (names_in (word ∷ shell_spelled_out (next ∷ words)))) (shell_spelled_out (next ∷ words)) is
        ∙ ap (λ l. paired (shell_after seen (shell_flags_in l)) (two name script (names_in l))) (sym (dashed word next words (is_end next) (kind_of next) refl refl dash)))
    by false lacks =
        let is_value : value_joined word (shell_spelled_out (next ∷ words)) ≡ with_value word next words = ap (value_joined word) (plain next words lacks) ∙ ap (λ d. if d then word ∷ (next ∷ shell_spelled_out words) else with_value word next words) lacks in
        let flags : shell_flags_in (with_value word next words) ≡ flag_of_kind k next ∷ shell_flags_in (shell_spelled_out words) = option_flags (word ++ 61 ∷ next) (shell_spelled_out words) (is.valued_no_end next) (is.valued_option next) ∙ ap (λ o. o ∷ shell_flags_in (shell_spelled_out words)) (is.valued next) in
        let names : names_in (with_value word next words) ≡ names_in (shell_spelled_out words) = option_names (word ++ 61 ∷ next) (shell_spelled_out words) (is.valued_no_end next) (is.valued_option next) in
        ap (λ d. option_and_then (λ nx. shell_left nx name script words) (if d then None else option_map (λ s. reading s None false) (option_and_then (shell_with seen) (flag_of_kind k next)))) lacks
        ∙ (flag_step (flag_of_kind k next) seen (shell_flags_in (shell_spelled_out words)) (two name script (names_in (shell_spelled_out words))) name script words rest
        ∙ (ap (λ f. paired (shell_after seen f) (two name script (names_in (shell_spelled_out words)))) (sym flags)
        ∙ (ap (λ n. paired (shell_after seen (shell_flags_in (with_value word next words))) (two name script n)) (sym names)
        ∙ ap (λ l. paired (shell_after seen (shell_flags_in l)) (two name script (names_in l))) (sym is_value))))

-- what comes of a word, by what it is
abbrev Left : ShellSeen → Option (List ℕ) → Option (List ℕ) → List ℕ → List (List ℕ) → Bool → Bool → Option ShellKind → All
Left seen name script word words e o k =
    if not (e || o) then option_and_then (λ both. shell_left (reading seen None false) both.0 both.1 words) (one_name_more name script word) else
    option_and_then (λ next. shell_left next name script words) (if e then Some (reading seen None true) else read_option (reading seen None false) k word)

step : (word : List ℕ) (words : List (List ℕ)) (seen : ShellSeen) (name script : Option (List ℕ)) → ((s : ShellSeen) (n q : Option (List ℕ)) → Reads s n q words) → ((k : ShellKind) → kind_of word ≡ Some k → ReadsValue word k seen name script words) → Reads seen name script (word ∷ words)
step word words seen name script rest value = by (is_end word) (is_option word) (kind_of word) refl refl refl
  where
    said : List (List ℕ) → All
    said l = paired (shell_after seen (shell_flags_in l)) (two name script (names_in l))

    parts : (l : List (List ℕ)) (f : List (Option ShellFlag)) (n : List (List ℕ)) → shell_flags_in l ≡ f → names_in l ≡ n → said l ≡ paired (shell_after seen f) (two name script n)
    parts l f n fs ns = ap (λ g. paired (shell_after seen g) (two name script (names_in l))) fs ∙ ap (λ g. paired (shell_after seen f) (two name script g)) ns

    left : (e o : Bool) (k : Option ShellKind) → is_end word ≡ e → is_option word ≡ o → kind_of word ≡ k → shell_left (reading seen None false) name script (word ∷ words) ≡ Left seen name script word words e o k
    left e o k ends options kinds =
        ap (λ x. Left seen name script word words x (is_option word) (kind_of word)) ends
        ∙ (ap (λ x. Left seen name script word words e x (kind_of word)) options ∙ ap (λ x. Left seen name script word words e o x) kinds)

    by : (e o : Bool) (k : Option ShellKind) → is_end word ≡ e → is_option word ≡ o → kind_of word ≡ k → Reads seen name script (word ∷ words)
    by true o k ends options kinds =
        left true o k ends options kinds
        ∙ (all_names seen name script words
        ∙ (sym (parts (word ∷ words) [] words (end_flags word words ends) (end_names word words ends))
        ∙ ap said (sym (spelled word words true k ends kinds))))
    by false true None ends options kinds =
        left false true None ends options kinds
        ∙ (flag_step (shell_flag word) seen (shell_flags_in (shell_spelled_out words)) (two name script (names_in (shell_spelled_out words))) name script words (λ s. rest s name script)
        ∙ (sym (parts (word ∷ shell_spelled_out words) _ _ (option_flags word (shell_spelled_out words) ends options) (option_names word (shell_spelled_out words) ends options))
        ∙ ap said (sym (spelled word words false None ends kinds))))
    by false true (Some k) ends options kinds =
        left false true (Some k) ends options kinds
        ∙ (value k kinds ∙ ap said (sym (spelled word words false (Some k) ends kinds)))
    by false false (Some k) ends options kinds = let clash : true ≡ false = sym (waiting word k kinds).option ∙ options in absurd cc
    by false false None ends options kinds =
        left false false None ends options kinds
        ∙ (goes_on (shell_after seen (shell_flags_in (shell_spelled_out words))) (one_name_more name script word) _ (λ both. two both.0 both.1 (names_in (shell_spelled_out words))) (λ both. rest seen both.0 both.1)
        ∙ (sym (parts (word ∷ shell_spelled_out words) _ _ (name_flags word (shell_spelled_out words) ends options) (name_names word (shell_spelled_out words) ends options))
        ∙ ap said (sym (spelled word words false None ends kinds))))

reads : (words : List (List ℕ)) (seen : ShellSeen) (name script : Option (List ℕ)) → Reads seen name script words
reads [] seen name script = both_paired seen (both_names name script)
reads (word ∷ []) seen name script = step word [] seen name script (λ s n q. reads [] s n q) (λ k is. missing word k seen (two name script (names_in (word ∷ []))) [] (waiting word k is))
reads (word ∷ (next ∷ words)) seen name script = step word (next ∷ words) seen name script (λ s n q. reads (next ∷ words) s n q) (λ k is. reads_value word k seen name script next words (λ s. reads words s name script) (waiting word k is))

-- ---- the request

abbrev pub request_all : Option (ShellSeen × List ℕ × List ℕ) → Request
request_all None = usage
request_all (Some all) = shell (shell_seen all.0) (table_name all.1) all.2

no_request : (seen : Option ShellSeen) → request_all (paired seen None) ≡ usage
no_request None = refl
no_request (Some seen) = refl

asked_by : (flags : List (Option ShellFlag)) (names : List (List ℕ)) → request_all (paired (if shell_go_together flags then Some (all_first flags) else None) (two None None names)) ≡ shell_of flags names
asked_by flags [] = no_request (if shell_go_together flags then Some (all_first flags) else None)
asked_by flags (name ∷ []) = by (is_name name)
  where
    by : (a : Bool) → request_all (paired (if shell_go_together flags then Some (all_first flags) else None) (option_and_then (λ (both : Both). two both.0 both.1 []) (if not a then None else Some (Some name, None)))) ≡ usage
    by true = no_request (if shell_go_together flags then Some (all_first flags) else None)
    by false = no_request (if shell_go_together flags then Some (all_first flags) else None)
asked_by flags (name ∷ (file ∷ [])) = by (is_name name) (is_name file) (shell_go_together flags)
  where
    by : (a b g : Bool) → request_all (paired (if g then Some (all_first flags) else None) (option_and_then (λ (both : Both). option_and_then (λ (both : Both). two both.0 both.1 []) (if is_some both.1 || not b then None else (if is_some both.0 then Some (both.0, Some file) else Some (Some file, both.1)))) (if not a then None else Some (Some name, None)))) ≡ (if (a && b) && g then shell (shell_options_in flags) (table_name name) file else usage)
    by true true true = ap (λ o. shell o (table_name name) file) (options_same flags)
    by true true false = refl
    by true false g = no_request (if g then Some (all_first flags) else None)
    by false b g = no_request (if g then Some (all_first flags) else None)
asked_by flags (name ∷ (file ∷ (other ∷ names))) = by (is_name name) (is_name file)
  where
    by : (a b : Bool) → request_all (paired (if shell_go_together flags then Some (all_first flags) else None) (option_and_then (λ (both : Both). option_and_then (λ (both : Both). two both.0 both.1 (other ∷ names)) (if is_some both.1 || not b then None else (if is_some both.0 then Some (both.0, Some file) else Some (Some file, both.1)))) (if not a then None else Some (Some name, None)))) ≡ usage
    by true true = no_request (if shell_go_together flags then Some (all_first flags) else None)
    by true false = no_request (if shell_go_together flags then Some (all_first flags) else None)
    by false b = no_request (if shell_go_together flags then Some (all_first flags) else None)

pub shell_asked : (words : List (List ℕ)) → request_all (shell_left shell_read_none None None words) ≡ plan_shell (shell_spelled_out words)
shell_asked words =
    ap request_all (reads words (seen_of None None None None) None None)
    ∙ (ap (λ s. request_all (paired s (two None None (names_in (shell_spelled_out words))))) (options_met (shell_flags_in (shell_spelled_out words)))
    ∙ asked_by (shell_flags_in (shell_spelled_out words)) (names_in (shell_spelled_out words)))
