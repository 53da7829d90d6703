-- Options of `shell` that are met one after the other, and what they ask for together.
use Rattle.std.proofs.Common.{◌≡◌, ℕ, Bool, true, false, List, [], ◌∷◌, Option, Some, None, refl, ap, ◌∙◌}
use Rattle.std.specs.Prelude.{◌&&◌, ◌||◌, not, if◌then◌else◌, is_some, option_and_then, unwrap_or}
use Rattle.std.specs.List.{list_all, list_any}
use Rattle.myisamkit.specs.declared.shell_options.ShellFlag.{ShellFlag}
use Rattle.myisamkit.specs.declared.shell_options.ShellFlag.TheVariants as flag
use Rattle.myisamkit.specs.declared.shell_options.ShellOptions.{ShellOptions}
use Rattle.myisamkit.specs.declared.shell_options.ShellSeen.{ShellSeen}
use Rattle.myisamkit.specs.ShellOptions.{blocks_in, division_in, age_in, concurrent_in, is_once, are_once, or_number, number_or, shell_go_together, shell_options_in}
use Rattle.myisamkit.specs.ShellReading.{shell_with, shell_seen, shell_after}

abbrev pub seen_of : Option ℕ → Option ℕ → Option ℕ → Option ℕ → ShellSeen
seen_of a b c d = record { blocks = a; division = b; age = c; concurrent = d }

-- ---- one number

-- a number more, where none came before
abbrev with_number : Option ℕ → Option ℕ → Option (Option ℕ)
with_number None before = Some before
with_number (Some n) None = Some (Some n)
with_number (Some n) (Some m) = None

abbrev field : (Option ShellFlag → Option ℕ) → Option ℕ → List (Option ShellFlag) → Option (Option ℕ)
field p before [] = Some before
field p before (f ∷ fs) = option_and_then (λ next. field p next fs) (with_number (p f) before)

abbrev or_first : Option ℕ → Option ℕ → Option ℕ
or_first None other = other
or_first (Some n) other = Some n

abbrev pub first : (Option ShellFlag → Option ℕ) → List (Option ShellFlag) → Option ℕ
first p [] = None
first p (f ∷ fs) = or_first (p f) (first p fs)

no_more : (p : Option ShellFlag → Option ℕ) (m : ℕ) (flags : List (Option ShellFlag)) → field p (Some m) flags ≡ (if not (list_any (λ f. is_some (p f)) flags) then Some (Some m) else None)
no_more p m [] = refl
no_more p m (f ∷ fs) = by (no_more p m fs) (p f)
  where
    by : field p (Some m) fs ≡ (if not (list_any (λ f. is_some (p f)) fs) then Some (Some m) else None) → (o : Option ℕ) → option_and_then (λ next. field p next fs) (with_number o (Some m)) ≡ (if not (is_some o || list_any (λ f. is_some (p f)) fs) then Some (Some m) else None)
    by rest None = rest
    by rest (Some n) = refl

one_more : (p : Option ShellFlag → Option ℕ) (flags : List (Option ShellFlag)) → field p None flags ≡ (if is_once p flags then Some (first p flags) else None)
one_more p [] = refl
one_more p (f ∷ fs) = by (one_more p fs) (p f)
  where
    by : field p None fs ≡ (if is_once p fs then Some (first p fs) else None) → (o : Option ℕ) → option_and_then (λ next. field p next fs) (with_number o None) ≡ (if (if is_some o then not (list_any (λ f. is_some (p f)) fs) else is_once p fs) then Some (or_first o (first p fs)) else None)
    by rest None = rest
    by rest (Some n) = no_more p n fs

number_is : (p : Option ShellFlag → Option ℕ) (other : ℕ) (flags : List (Option ShellFlag)) → unwrap_or (first p flags) other ≡ number_or p other flags
number_is p other [] = refl
number_is p other (f ∷ fs) = by (number_is p other fs) (p f)
  where
    by : unwrap_or (first p fs) other ≡ number_or p other fs → (o : Option ℕ) → unwrap_or (or_first o (first p fs)) other ≡ or_number o (number_or p other fs)
    by rest None = rest
    by rest (Some n) = refl

-- ---- all four

abbrev all_four : Option (Option ℕ) → Option (Option ℕ) → Option (Option ℕ) → Option (Option ℕ) → Option ShellSeen
all_four None b c d = None
all_four (Some a) None c d = None
all_four (Some a) (Some b) None d = None
all_four (Some a) (Some b) (Some c) None = None
all_four (Some a) (Some b) (Some c) (Some d) = Some (seen_of a b c d)

no_second : (a c d : Option (Option ℕ)) → None ≡ all_four a None c d
no_second None c d = refl
no_second (Some a) c d = refl

no_third : (a b d : Option (Option ℕ)) → None ≡ all_four a b None d
no_third None b d = refl
no_third (Some a) None d = refl
no_third (Some a) (Some b) d = refl

no_fourth : (a b c : Option (Option ℕ)) → None ≡ all_four a b c None
no_fourth None b c = refl
no_fourth (Some a) None c = refl
no_fourth (Some a) (Some b) None = refl
no_fourth (Some a) (Some b) (Some c) = refl

four_fields : (flags : List (Option ShellFlag)) (a b c d : Option ℕ) → list_all is_some flags ≡ true → shell_after (seen_of a b c d) flags ≡ all_four (field blocks_in a flags) (field division_in b flags) (field age_in c flags) (field concurrent_in d flags)
four_fields [] a b c d known = refl
four_fields (None ∷ fs) a b c d known = absurd cc
four_fields (Some (flag.Blocks n) ∷ fs) None b c d known = four_fields fs (Some n) b c d known
four_fields (Some (flag.Blocks n) ∷ fs) (Some m) b c d known = refl
four_fields (Some (flag.Division n) ∷ fs) a None c d known = four_fields fs a (Some n) c d known
four_fields (Some (flag.Division n) ∷ fs) a (Some m) c d known = no_second (field blocks_in a fs) (field age_in c fs) (field concurrent_in d fs)
four_fields (Some (flag.Age n) ∷ fs) a b None d known = four_fields fs a b (Some n) d known
four_fields (Some (flag.Age n) ∷ fs) a b (Some m) d known = no_third (field blocks_in a fs) (field division_in b fs) (field concurrent_in d fs)
four_fields (Some (flag.Concurrent n) ∷ fs) a b c None known = four_fields fs a b c (Some n) known
four_fields (Some (flag.Concurrent n) ∷ fs) a b c (Some m) known = no_fourth (field blocks_in a fs) (field division_in b fs) (field age_in c fs)

unknown : (flags : List (Option ShellFlag)) (seen : ShellSeen) → list_all is_some flags ≡ false → shell_after seen flags ≡ None
unknown [] seen bad = absurd cc
unknown (None ∷ fs) seen bad = refl
unknown (Some f ∷ fs) seen bad = by (shell_with seen f) (λ s. unknown fs s bad)
  where
    by : (o : Option ShellSeen) → ((s : ShellSeen) → shell_after s fs ≡ None) → option_and_then (λ next. shell_after next fs) o ≡ None
    by None rest = refl
    by (Some s) rest = rest s

by_four : (a b c d : Bool) (w x y z : Option ℕ) → all_four (if a then Some w else None) (if b then Some x else None) (if c then Some y else None) (if d then Some z else None) ≡ (if a && (b && (c && d)) then Some (seen_of w x y z) else None)
by_four true true true true w x y z = refl
by_four true true true false w x y z = refl
by_four true true false d w x y z = refl
by_four true false c d w x y z = refl
by_four false b c d w x y z = refl

abbrev pub all_first : List (Option ShellFlag) → ShellSeen
all_first flags = seen_of (first blocks_in flags) (first division_in flags) (first age_in flags) (first concurrent_in flags)

-- options are met
pub options_met : (flags : List (Option ShellFlag)) → shell_after (seen_of None None None None) flags ≡ (if shell_go_together flags then Some (all_first flags) else None)
options_met flags = by (list_all is_some flags) refl
  where
    by : (k : Bool) → list_all is_some flags ≡ k → shell_after (seen_of None None None None) flags ≡ (if k && are_once flags then Some (all_first flags) else None)
    by true known =
        four_fields flags None None None None known
        ∙ (ap (λ f. all_four f (field division_in None flags) (field age_in None flags) (field concurrent_in None flags)) (one_more blocks_in flags)
        ∙ (ap (λ f. all_four (if is_once blocks_in flags then Some (first blocks_in flags) else None) f (field age_in None flags) (field concurrent_in None flags)) (one_more division_in flags)
        ∙ (ap (λ f. all_four (if is_once blocks_in flags then Some (first blocks_in flags) else None) (if is_once division_in flags then Some (first division_in flags) else None) f (field concurrent_in None flags)) (one_more age_in flags)
        ∙ (ap (λ f. all_four (if is_once blocks_in flags then Some (first blocks_in flags) else None) (if is_once division_in flags then Some (first division_in flags) else None) (if is_once age_in flags then Some (first age_in flags) else None) f) (one_more concurrent_in flags)
        ∙ by_four (is_once blocks_in flags) (is_once division_in flags) (is_once age_in flags) (is_once concurrent_in flags) (first blocks_in flags) (first division_in flags) (first age_in flags) (first concurrent_in flags)))))
    by false bad = unknown flags (seen_of None None None None) bad

abbrev options_of : ℕ → ℕ → ℕ → ℕ → ShellOptions
options_of a b c d = record { setup = record { blocks = a; division = b; age = c }; concurrent = d }

pub options_same : (flags : List (Option ShellFlag)) → shell_seen (all_first flags) ≡ shell_options_in flags
options_same flags =
    ap (λ n. options_of n (unwrap_or (first division_in flags) 100) (unwrap_or (first age_in flags) 300) (unwrap_or (first concurrent_in flags) 1)) (number_is blocks_in 64 flags)
    ∙ (ap (λ n. options_of (number_or blocks_in 64 flags) n (unwrap_or (first age_in flags) 300) (unwrap_or (first concurrent_in flags) 1)) (number_is division_in 100 flags)
    ∙ (ap (λ n. options_of (number_or blocks_in 64 flags) (number_or division_in 100 flags) n (unwrap_or (first concurrent_in flags) 1)) (number_is age_in 300 flags)
    ∙ ap (λ n. options_of (number_or blocks_in 64 flags) (number_or division_in 100 flags) (number_or age_in 300 flags) n) (number_is concurrent_in 1 flags)))
