-- Options that are met one after the other, and what they ask for together.
use Rattle.std.proofs.Common.{◌≡◌, Bool, true, false, List, [], ◌∷◌, ◌++◌, Option, Some, None, refl, ap, ◌∙◌}
use Rattle.std.specs.Prelude.{◌&&◌, not, if◌then◌else◌, is_some, option_and_then, option_map}
use Rattle.std.specs.List.{list_all, list_any}
use Rattle.myisamkit.specs.declared.options.Mode.{Mode}
use Rattle.myisamkit.specs.declared.options.Flag.{Flag}
use Rattle.myisamkit.specs.declared.options.Flag.TheVariants as flag
use Rattle.myisamkit.specs.declared.options.Seen.{Seen}
use Rattle.myisamkit.specs.Options.{is_mode, is_extend, is_force, is_silent, at_most_one, go_together, mode_or, options_in}
use Rattle.myisamkit.specs.Reading.{seen_after, options_seen, mode_seen}

-- no two pass, and none where one came before
abbrev pub room : {X : Type 0} → (X → Bool) → Bool → List X → Bool
room p before xs = if before then not (list_any p xs) else at_most_one p xs

abbrev pub any_or : {X : Type 0} → (X → Bool) → Bool → List X → Bool
any_or p before xs = if before then true else list_any p xs

abbrev pub mode_with : Option Mode → List (Option Flag) → Option Mode
mode_with m [] = m
mode_with m (None ∷ flags) = mode_with m flags
mode_with m (Some (flag.Mode k) ∷ flags) = mode_with (Some k) flags
mode_with m (Some flag.Extend ∷ flags) = mode_with m flags
mode_with m (Some flag.Force ∷ flags) = mode_with m flags
mode_with m (Some flag.Silent ∷ flags) = mode_with m flags

abbrev pub seen_of : Option Mode → Bool → Bool → Bool → Seen
seen_of m e f s = record { mode = m; extend = e; force = f; silent = s }

abbrev pub may_follow : Option Mode → Bool → Bool → List (Option Flag) → Bool
may_follow m e f flags = list_all is_some flags && (room is_mode (is_some m) flags && (room is_extend e flags && room is_force f flags))

abbrev pub with_all : Option Mode → Bool → Bool → Bool → List (Option Flag) → Seen
with_all m e f s flags = seen_of (mode_with m flags) (any_or is_extend e flags) (any_or is_force f flags) (any_or is_silent s flags)

refused : {X : Type 0} (a : Bool) (x : X) → None ≡ (if a && false then Some x else None)
refused true x = refl
refused false x = refl

refused_second : {X : Type 0} (a b c : Bool) (x : X) → None ≡ (if a && (b && (false && c)) then Some x else None)
refused_second true true c x = refl
refused_second true false c x = refl
refused_second false b c x = refl

refused_third : {X : Type 0} (a b c : Bool) (x : X) → None ≡ (if a && (b && (c && false)) then Some x else None)
refused_third true true true x = refl
refused_third true true false x = refl
refused_third true false c x = refl
refused_third false b c x = refl

none_left : (m : Option Mode) (e f s : Bool) → Some (seen_of m e f s) ≡ (if may_follow m e f [] then Some (with_all m e f s []) else None)
none_left None true true true = refl
none_left None true true false = refl
none_left None true false true = refl
none_left None true false false = refl
none_left None false true true = refl
none_left None false true false = refl
none_left None false false true = refl
none_left None false false false = refl
none_left (Some m) true true true = refl
none_left (Some m) true true false = refl
none_left (Some m) true false true = refl
none_left (Some m) true false false = refl
none_left (Some m) false true true = refl
none_left (Some m) false true false = refl
none_left (Some m) false false true = refl
none_left (Some m) false false false = refl

-- options that follow others
pub seen_all : (flags : List (Option Flag)) (m : Option Mode) (e f s : Bool) → seen_after (seen_of m e f s) flags ≡ (if may_follow m e f flags then Some (with_all m e f s flags) else None)
seen_all [] m e f s = none_left m e f s
seen_all (None ∷ flags) m e f s = refl
seen_all (Some (flag.Mode k) ∷ flags) None e f s = seen_all flags (Some k) e f s
seen_all (Some (flag.Mode k) ∷ flags) (Some j) e f s = refused (list_all is_some flags) _
seen_all (Some flag.Extend ∷ flags) m false f s = seen_all flags m true f s
seen_all (Some flag.Extend ∷ flags) m true f s = refused_second (list_all is_some flags) (room is_mode (is_some m) flags) (room is_force f flags) _
seen_all (Some flag.Force ∷ flags) m e false s = seen_all flags m e true s
seen_all (Some flag.Force ∷ flags) m e true s = refused_third (list_all is_some flags) (room is_mode (is_some m) flags) (room is_extend e flags) _
seen_all (Some flag.Silent ∷ flags) m e f true = seen_all flags m e f true
seen_all (Some flag.Silent ∷ flags) m e f false = seen_all flags m e f true

pub mode_asked : (flags : List (Option Flag)) (m : Option Mode) → mode_seen (mode_with m flags) ≡ mode_or (mode_seen m) flags
mode_asked [] m = refl
mode_asked (None ∷ flags) m = mode_asked flags m
mode_asked (Some (flag.Mode k) ∷ flags) m = mode_asked flags (Some k)
mode_asked (Some flag.Extend ∷ flags) m = mode_asked flags m
mode_asked (Some flag.Force ∷ flags) m = mode_asked flags m
mode_asked (Some flag.Silent ∷ flags) m = mode_asked flags m

then_each : (xs ys : List (Option Flag)) → ((seen : Seen) → seen_after seen (xs ++ ys) ≡ option_and_then (λ next. seen_after next ys) (seen_after seen xs))
    → (o : Option Seen) → option_and_then (λ next. seen_after next (xs ++ ys)) o ≡ option_and_then (λ next. seen_after next ys) (option_and_then (λ next. seen_after next xs) o)
then_each xs ys each None = refl
then_each xs ys each (Some next) = each next

-- options one behind the other
pub seen-append : (xs ys : List (Option Flag)) (seen : Seen) → seen_after seen (xs ++ ys) ≡ option_and_then (λ next. seen_after next ys) (seen_after seen xs)
seen-append [] ys seen = refl
seen-append (None ∷ xs) ys seen = refl
seen-append (Some f ∷ xs) ys seen = then_each xs ys (λ next. seen-append xs ys next) _

-- options that come first, and what they ask for
pub options_met : (flags : List (Option Flag)) → option_map options_seen (seen_after (seen_of None false false false) flags) ≡ (if go_together flags then Some (options_in flags) else None)
options_met flags = ap (option_map options_seen) (seen_all flags None false false false) ∙ asked (go_together flags)
  where
    asked : (b : Bool) → option_map options_seen (if b then Some (with_all None false false false flags) else None) ≡ (if b then Some (options_in flags) else None)
    asked true = ap (λ m. Some (record (options_in flags) { mode = m })) (mode_asked flags None)
    asked false = refl
