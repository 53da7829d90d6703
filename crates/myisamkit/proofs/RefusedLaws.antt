-- Words that are refused.
use Rattle.std.proofs.Common.{◌≡◌, ◌≢◌, ◌⊎◌, Option, None, Some, Bool, true, false, List, [], ◌∷◌, length, arith, ℕ, map, refl, sym, ap, subst, ◌∙◌, inl, inr}
use Rattle.std.specs.Prelude.{◌&&◌, not, if◌then◌else◌, codes, is_some}
use Rattle.std.specs.List.{list_all}
use Rattle.std.specs.Str.{bytes_eq}
use Rattle.std.proofs.lemmas.Bool.{cases_Bool, false_from_ne_true}
use Rattle.std.proofs.lemmas.Slice.Eq.{bytes_eq-Decides}
use Rattle.myisamkit.specs.declared.options.Flag.{Flag}
use Rattle.myisamkit.specs.declared.shell_options.ShellFlag.{ShellFlag}
use Rattle.myisamkit.specs.ShellOptions.{are_once, shell_go_together, shell_options_in}
use Rattle.myisamkit.specs.Words.{usage, chk, create, dump, make, shell, shell_of, plan_shell, shell_flags_in, shell_spelled_out, plan, plan_create, plan_dump, plan_make, create_of, dump_of, make_of, make_by, count_of, seed_of, are_accepted, is_empty, is_name, names_in, flags_in, spelled_out, table_name}
use Rattle.myisamkit.specs.Options.{is_mode, is_extend, is_force, at_most_one, go_together, options_in}
use Rattle.myisamkit.specs.Asked.{AreRefused, shell_names, shell_bad_name, shell_unknown_option, shell_option_twice, make_option, make_names, make_bad_count, make_bad_seed, make_bad_name, create_option, create_names, create_bad_name, dump_option, dump_names, dump_bad_name, no_command, no_name, bad_name, unknown_option, two_modes, extend_twice, force_twice}
use Rattle.myisamkit.proofs.AskedLaws.{one_fails, not_false, Command, is_chk, is_create, is_dump, is_make, is_shell, is_none, command_of, chk_plan, create_plan, dump_plan, make_plan, shell_plan, no_plan}

-- which of the reasons holds of the words behind `chk`
why : (others : List (List ℕ)) → are_accepted (spelled_out others) ≡ false → AreRefused (codes "chk" ∷ others)
why others none = by_parts (one_fails (not (is_empty (names_in (spelled_out others))) && list_all is_name (names_in (spelled_out others))) _ none)
  where
    by_rest : (at_most_one is_extend (flags_in (spelled_out others)) ≡ false) ⊎ (at_most_one is_force (flags_in (spelled_out others)) ≡ false) → AreRefused (codes "chk" ∷ others)
    by_rest (inl extend) = extend_twice others refl extend
    by_rest (inr force) = force_twice others refl force

    by_mode : (at_most_one is_mode (flags_in (spelled_out others)) ≡ false) ⊎ ((at_most_one is_extend (flags_in (spelled_out others)) && at_most_one is_force (flags_in (spelled_out others))) ≡ false) → AreRefused (codes "chk" ∷ others)
    by_mode (inl modes) = two_modes others refl modes
    by_mode (inr rest) = by_rest (one_fails (at_most_one is_extend (flags_in (spelled_out others))) _ rest)

    by_flags : (list_all is_some (flags_in (spelled_out others)) ≡ false) ⊎ ((at_most_one is_mode (flags_in (spelled_out others)) && (at_most_one is_extend (flags_in (spelled_out others)) && at_most_one is_force (flags_in (spelled_out others)))) ≡ false) → AreRefused (codes "chk" ∷ others)
    by_flags (inl unknown) = unknown_option others refl unknown
    by_flags (inr rest) = by_mode (one_fails (at_most_one is_mode (flags_in (spelled_out others))) _ rest)

    by_names : (not (is_empty (names_in (spelled_out others))) ≡ false) ⊎ (list_all is_name (names_in (spelled_out others)) ≡ false) → AreRefused (codes "chk" ∷ others)
    by_names (inl empty) = no_name others refl (not_false _ empty)
    by_names (inr form) = bad_name others refl form

    by_parts : ((not (is_empty (names_in (spelled_out others))) && list_all is_name (names_in (spelled_out others))) ≡ false) ⊎ (go_together (flags_in (spelled_out others)) ≡ false) → AreRefused (codes "chk" ∷ others)
    by_parts (inl names) = by_names (one_fails (not (is_empty (names_in (spelled_out others)))) _ names)
    by_parts (inr options) = by_flags (one_fails (list_all is_some (flags_in (spelled_out others))) _ options)

-- which holds of the words behind `create`
why_create : (others : List (List ℕ)) (flags : List (Option Flag)) (names : List (List ℕ)) → flags_in others ≡ flags → names_in others ≡ names → create_of flags names ≡ usage → AreRefused (codes "create" ∷ others)
why_create others [] [] a b is = create_names others refl (λ e. omega (arith, e, ap (λ (l : List (List ℕ)). length l) b))
why_create others [] (name ∷ []) a b is = create_names others refl (λ e. omega (arith, e, ap (λ (l : List (List ℕ)). length l) b))
why_create others [] (name ∷ (file ∷ [])) a b is = by (is_name name) (is_name file) refl refl is
  where
    by : (c d : Bool) → is_name name ≡ c → is_name file ≡ d → (if c && d then create (table_name name) file else usage) ≡ usage → AreRefused (codes "create" ∷ others)
    by true true one other e = absurd cc
    by true false one other e = create_bad_name others refl (ap (list_all is_name) b ∙ (ap (λ k. k && (is_name file && true)) one ∙ ap (λ k. k && true) other))
    by false d one other e = create_bad_name others refl (ap (list_all is_name) b ∙ ap (λ k. k && (is_name file && true)) one)
why_create others [] (name ∷ (file ∷ (other ∷ names))) a b is = create_names others refl (λ e. omega (arith, e, ap (λ (l : List (List ℕ)). length l) b))
why_create others (f ∷ flags) names a b is = create_option others refl (λ e. let k : f ∷ flags ≡ [] = sym a ∙ e in cc)

-- which holds of the words behind `dump`
why_dump : (others : List (List ℕ)) (flags : List (Option Flag)) (names : List (List ℕ)) → flags_in others ≡ flags → names_in others ≡ names → dump_of flags names ≡ usage → AreRefused (codes "dump" ∷ others)
why_dump others [] [] a b is = dump_names others refl (λ e. omega (arith, e, ap (λ (l : List (List ℕ)). length l) b))
why_dump others [] (name ∷ []) a b is = by (cases_Bool (is_name name))
  where
    by : (is_name name ≡ true) ⊎ (is_name name ≡ false) → AreRefused (codes "dump" ∷ others)
    by (inl form) =
        let e : dump (table_name name) ≡ usage = sym (ap (λ c. if c then dump (table_name name) else usage) form) ∙ is in
        absurd cc
    by (inr bad) = dump_bad_name others name refl b bad
why_dump others [] (name ∷ (other ∷ names)) a b is = dump_names others refl (λ e. omega (arith, e, ap (λ (l : List (List ℕ)). length l) b))
why_dump others (f ∷ flags) names a b is = dump_option others refl (λ e. let k : f ∷ flags ≡ [] = sym a ∙ e in cc)

-- which holds of the words behind `make`
why_numbers : (others : List (List ℕ)) (count seed name : List ℕ) (a b : Option ℕ) → names_in others ≡ count ∷ (seed ∷ (name ∷ [])) → count_of count ≡ a → seed_of seed ≡ b → make_by a b name ≡ usage → AreRefused (codes "make" ∷ others)
why_numbers others count seed name None b named one two is = make_bad_count others count (seed ∷ (name ∷ [])) refl named one
why_numbers others count seed name (Some c) None named one two is = make_bad_seed others count seed (name ∷ []) refl named two
why_numbers others count seed name (Some c) (Some s) named one two is = by (cases_Bool (is_name name))
  where
    by : (is_name name ≡ true) ⊎ (is_name name ≡ false) → AreRefused (codes "make" ∷ others)
    by (inl form) =
        let e : make c s (table_name name) ≡ usage = sym (ap (λ q. if q then make c s (table_name name) else usage) form) ∙ is in
        absurd cc
    by (inr bad) = make_bad_name others count seed name refl named bad

why_make : (others : List (List ℕ)) (flags : List (Option Flag)) (names : List (List ℕ)) → flags_in others ≡ flags → names_in others ≡ names → make_of flags names ≡ usage → AreRefused (codes "make" ∷ others)
why_make others [] [] a b is = make_names others refl (λ e. omega (arith, e, ap (λ (l : List (List ℕ)). length l) b))
why_make others [] (x ∷ []) a b is = make_names others refl (λ e. omega (arith, e, ap (λ (l : List (List ℕ)). length l) b))
why_make others [] (x ∷ (y ∷ [])) a b is = make_names others refl (λ e. omega (arith, e, ap (λ (l : List (List ℕ)). length l) b))
why_make others [] (count ∷ (seed ∷ (name ∷ []))) a b is = why_numbers others count seed name (count_of count) (seed_of seed) b refl refl is
why_make others [] (x ∷ (y ∷ (z ∷ (u ∷ names)))) a b is = make_names others refl (λ e. omega (arith, e, ap (λ (l : List (List ℕ)). length l) b))
why_make others (f ∷ flags) names a b is = make_option others refl (λ e. let k : f ∷ flags ≡ [] = sym a ∙ e in cc)

-- which holds of the words behind `shell`
why_shell : (others : List (List ℕ)) (names : List (List ℕ)) → names_in (shell_spelled_out others) ≡ names → shell_of (shell_flags_in (shell_spelled_out others)) names ≡ usage → AreRefused (codes "shell" ∷ others)
why_shell others [] b is = shell_names others refl (λ e. omega (arith, e, ap (λ (l : List (List ℕ)). length l) b))
why_shell others (name ∷ []) b is = shell_names others refl (λ e. omega (arith, e, ap (λ (l : List (List ℕ)). length l) b))
why_shell others (name ∷ (script ∷ [])) b is = by (is_name name) (is_name script) (list_all is_some flags) (are_once flags) refl refl refl refl is
  where
    flags : List (Option ShellFlag)
    flags = shell_flags_in (shell_spelled_out others)

    by : (c d f g : Bool) → is_name name ≡ c → is_name script ≡ d → list_all is_some flags ≡ f → are_once flags ≡ g → (if (c && d) && (f && g) then shell (shell_options_in flags) (table_name name) script else usage) ≡ usage → AreRefused (codes "shell" ∷ others)
    by true true true true one other known once e = absurd cc
    by true true true false one other known once e = shell_option_twice others refl once
    by true true false g one other known once e = shell_unknown_option others refl known
    by true false f g one other known once e = shell_bad_name others refl (ap (list_all is_name) b ∙ (ap (λ k. k && (is_name script && true)) one ∙ ap (λ k. k && true) other))
    by false d f g one other known once e = shell_bad_name others refl (ap (list_all is_name) b ∙ ap (λ k. k && (is_name script && true)) one)
why_shell others (name ∷ (script ∷ (other ∷ names))) b is = shell_names others refl (λ e. omega (arith, e, ap (λ (l : List (List ℕ)). length l) b))

pub words_refused : (words : List (List ℕ)) → plan words ≡ usage → AreRefused words
words_refused [] is = no_command (λ others e. cc) (λ others e. cc) (λ others e. cc) (λ others e. cc) (λ others e. cc)
words_refused (command ∷ others) is = by (command_of command)
  where
    not_refused : (b : Bool) → (if b then chk (options_in (flags_in (spelled_out others))) (map table_name (names_in (spelled_out others))) else usage) ≡ usage → b ≡ false
    not_refused true e = absurd cc
    not_refused false e = refl

    is_no : (word : List ℕ) → bytes_eq command word ≡ false → (rest : List (List ℕ)) → command ∷ others ≡ word ∷ rest → ⊥
    is_no word other rest e = let same : command ≡ word = cc in let both = (bytes_eq-Decides command word).1 same in let clash : true ≡ false = sym both ∙ other in cc

    by : Command command → AreRefused (command ∷ others)
    by (is_chk same) = subst (λ c. AreRefused (c ∷ others)) (sym same) (why others (not_refused (are_accepted (spelled_out others)) (sym (chk_plan command others same) ∙ is)))
    by (is_create a same) = subst (λ c. AreRefused (c ∷ others)) (sym same) (why_create others (flags_in others) (names_in others) refl refl (sym (create_plan command others a same) ∙ is))
    by (is_dump a b same) = subst (λ c. AreRefused (c ∷ others)) (sym same) (why_dump others (flags_in others) (names_in others) refl refl (sym (dump_plan command others a b same) ∙ is))
    by (is_make a b c same) = subst (λ k. AreRefused (k ∷ others)) (sym same) (why_make others (flags_in others) (names_in others) refl refl (sym (make_plan command others a b c same) ∙ is))
    by (is_shell a b c d same) = subst (λ k. AreRefused (k ∷ others)) (sym same) (why_shell others (names_in (shell_spelled_out others)) refl (sym (shell_plan command others a b c d same) ∙ is))
    by (is_none a b c d e) = no_command (is_no (codes "chk") a) (is_no (codes "create") b) (is_no (codes "dump") c) (is_no (codes "make") d) (is_no (codes "shell") e)

-- ---- words with a reason are refused

left_fails : (a b : Bool) → a ≡ false → (a && b) ≡ false
left_fails true b e = absurd cc
left_fails false b e = refl

right_fails : (a b : Bool) → b ≡ false → (a && b) ≡ false
right_fails true b e = e
right_fails false b e = refl

not_accepted : (words others : List (List ℕ)) → words ≡ codes "chk" ∷ others → are_accepted (spelled_out others) ≡ false → plan words ≡ usage
not_accepted words others is none = ap plan is ∙ (chk_plan (codes "chk") others refl ∙ ap (λ b. if b then chk (options_in (flags_in (spelled_out others))) (map table_name (names_in (spelled_out others))) else usage) none)

not_created : (words others : List (List ℕ)) → words ≡ codes "create" ∷ others → plan_create others ≡ usage → plan words ≡ usage
not_created words others is none = ap plan is ∙ (create_plan (codes "create") others refl refl ∙ none)

not_dumped : (words others : List (List ℕ)) → words ≡ codes "dump" ∷ others → plan_dump others ≡ usage → plan words ≡ usage
not_dumped words others is none = ap plan is ∙ (dump_plan (codes "dump") others refl refl refl ∙ none)

not_made : (words others : List (List ℕ)) → words ≡ codes "make" ∷ others → plan_make others ≡ usage → plan words ≡ usage
not_made words others is none = ap plan is ∙ (make_plan (codes "make") others refl refl refl refl ∙ none)

not_scripted : (words others : List (List ℕ)) → words ≡ codes "shell" ∷ others → plan_shell (shell_spelled_out others) ≡ usage → plan words ≡ usage
not_scripted words others is none = ap plan is ∙ (shell_plan (codes "shell") others refl refl refl refl refl ∙ none)

shell_counted : (flags : List (Option ShellFlag)) (names : List (List ℕ)) → length names ≢ 2 → shell_of flags names ≡ usage
shell_counted flags [] other = refl
shell_counted flags (name ∷ []) other = refl
shell_counted flags (name ∷ (script ∷ [])) other = absurd (other refl)
shell_counted flags (name ∷ (script ∷ (another ∷ names))) other = refl

shell_misnamed : (flags : List (Option ShellFlag)) (names : List (List ℕ)) → list_all is_name names ≡ false → shell_of flags names ≡ usage
shell_misnamed flags [] bad = refl
shell_misnamed flags (name ∷ []) bad = refl
shell_misnamed flags (name ∷ (script ∷ [])) bad = by (is_name name) (is_name script) bad
  where
    by : (c d : Bool) → (c && (d && true)) ≡ false → (if (c && d) && shell_go_together flags then shell (shell_options_in flags) (table_name name) script else usage) ≡ usage
    by true true e = absurd cc
    by true false e = refl
    by false d e = refl
shell_misnamed flags (name ∷ (script ∷ (other ∷ names))) bad = refl

shell_apart : (flags : List (Option ShellFlag)) (names : List (List ℕ)) → shell_go_together flags ≡ false → shell_of flags names ≡ usage
shell_apart flags [] bad = refl
shell_apart flags (name ∷ []) bad = refl
shell_apart flags (name ∷ (script ∷ [])) bad = ap (λ q. if q then shell (shell_options_in flags) (table_name name) script else usage) (right_fails (is_name name && is_name script) (shell_go_together flags) bad)
shell_apart flags (name ∷ (script ∷ (other ∷ names))) bad = refl

create_refused : (flags : List (Option Flag)) (names : List (List ℕ)) → flags ≢ [] → create_of flags names ≡ usage
create_refused [] names some = absurd (some refl)
create_refused (f ∷ flags) names some = refl

create_counted : (flags : List (Option Flag)) (names : List (List ℕ)) → length names ≢ 2 → create_of flags names ≡ usage
create_counted [] [] other = refl
create_counted [] (name ∷ []) other = refl
create_counted [] (name ∷ (file ∷ [])) other = absurd (other refl)
create_counted [] (name ∷ (file ∷ (another ∷ names))) other = refl
create_counted (f ∷ flags) names other = refl

create_misnamed : (flags : List (Option Flag)) (names : List (List ℕ)) → list_all is_name names ≡ false → create_of flags names ≡ usage
create_misnamed [] [] bad = refl
create_misnamed [] (name ∷ []) bad = refl
create_misnamed [] (name ∷ (file ∷ [])) bad = by (is_name name) (is_name file) bad
  where
    by : (c d : Bool) → (c && (d && true)) ≡ false → (if c && d then create (table_name name) file else usage) ≡ usage
    by true true e = absurd cc
    by true false e = refl
    by false d e = refl
create_misnamed [] (name ∷ (file ∷ (other ∷ names))) bad = refl
create_misnamed (f ∷ flags) names bad = refl

dump_refused : (flags : List (Option Flag)) (names : List (List ℕ)) → flags ≢ [] → dump_of flags names ≡ usage
dump_refused [] names some = absurd (some refl)
dump_refused (f ∷ flags) names some = refl

dump_counted : (flags : List (Option Flag)) (names : List (List ℕ)) → length names ≢ 1 → dump_of flags names ≡ usage
dump_counted [] [] other = refl
dump_counted [] (name ∷ []) other = absurd (other refl)
dump_counted [] (name ∷ (another ∷ names)) other = refl
dump_counted (f ∷ flags) names other = refl

dump_misnamed : (flags : List (Option Flag)) (name : List ℕ) → is_name name ≡ false → dump_of flags (name ∷ []) ≡ usage
dump_misnamed [] name bad = ap (λ c. if c then dump (table_name name) else usage) bad
dump_misnamed (f ∷ flags) name bad = refl

make_refused : (flags : List (Option Flag)) (names : List (List ℕ)) → flags ≢ [] → make_of flags names ≡ usage
make_refused [] names some = absurd (some refl)
make_refused (f ∷ flags) names some = refl

make_counted : (flags : List (Option Flag)) (names : List (List ℕ)) → length names ≢ 3 → make_of flags names ≡ usage
make_counted [] [] other = refl
make_counted [] (x ∷ []) other = refl
make_counted [] (x ∷ (y ∷ [])) other = refl
make_counted [] (x ∷ (y ∷ (z ∷ []))) other = absurd (other refl)
make_counted [] (x ∷ (y ∷ (z ∷ (u ∷ names)))) other = refl
make_counted (f ∷ flags) names other = refl

-- a number or the name is out of form
without_seed : (count : Option ℕ) (name : List ℕ) → make_by count None name ≡ usage
without_seed None name = refl
without_seed (Some c) name = refl

without_name : (count seed : Option ℕ) (name : List ℕ) → is_name name ≡ false → make_by count seed name ≡ usage
without_name None seed name bad = refl
without_name (Some c) None name bad = refl
without_name (Some c) (Some s) name bad = ap (λ q. if q then make c s (table_name name) else usage) bad

make_uncounted : (flags : List (Option Flag)) (count : List ℕ) (names : List (List ℕ)) → count_of count ≡ None → make_of flags (count ∷ names) ≡ usage
make_uncounted [] count [] bad = refl
make_uncounted [] count (y ∷ []) bad = refl
make_uncounted [] count (seed ∷ (name ∷ [])) bad = ap (λ k. make_by k (seed_of seed) name) bad
make_uncounted [] count (y ∷ (z ∷ (u ∷ names))) bad = refl
make_uncounted (f ∷ flags) count names bad = refl

make_unseeded : (flags : List (Option Flag)) (count seed : List ℕ) (names : List (List ℕ)) → seed_of seed ≡ None → make_of flags (count ∷ (seed ∷ names)) ≡ usage
make_unseeded [] count seed [] bad = refl
make_unseeded [] count seed (name ∷ []) bad = ap (λ k. make_by (count_of count) k name) bad ∙ without_seed (count_of count) name
make_unseeded [] count seed (z ∷ (u ∷ names)) bad = refl
make_unseeded (f ∷ flags) count seed names bad = refl

make_misnamed : (flags : List (Option Flag)) (count seed name : List ℕ) → is_name name ≡ false → make_of flags (count ∷ (seed ∷ (name ∷ []))) ≡ usage
make_misnamed [] count seed name bad = without_name (count_of count) (seed_of seed) name bad
make_misnamed (f ∷ flags) count seed name bad = refl

flags_fail : (others : List (List ℕ)) → go_together (flags_in (spelled_out others)) ≡ false → are_accepted (spelled_out others) ≡ false
flags_fail others none = right_fails (not (is_empty (names_in (spelled_out others))) && list_all is_name (names_in (spelled_out others))) _ none

rest_fails : (others : List (List ℕ)) → (at_most_one is_mode (flags_in (spelled_out others)) && (at_most_one is_extend (flags_in (spelled_out others)) && at_most_one is_force (flags_in (spelled_out others)))) ≡ false → are_accepted (spelled_out others) ≡ false
rest_fails others none = flags_fail others (right_fails (list_all is_some (flags_in (spelled_out others))) _ none)

twice_fails : (others : List (List ℕ)) → (at_most_one is_extend (flags_in (spelled_out others)) && at_most_one is_force (flags_in (spelled_out others))) ≡ false → are_accepted (spelled_out others) ≡ false
twice_fails others none = rest_fails others (right_fails (at_most_one is_mode (flags_in (spelled_out others))) _ none)

pub reasons_refuse : (words : List (List ℕ)) → AreRefused words → plan words ≡ usage
reasons_refuse words (no_command checks creates dumps makes scripts) = by words checks creates dumps makes scripts
  where
    no_word : (command : List ℕ) (others : List (List ℕ)) (word : List ℕ) → ((rest : List (List ℕ)) → command ∷ others ≢ word ∷ rest) → bytes_eq command word ≡ false
    no_word command others word none = false_from_ne_true _ (λ same. none others (ap (λ c. c ∷ others) ((bytes_eq-Decides command word).0 same)))

    by : (words : List (List ℕ)) → ((others : List (List ℕ)) → words ≢ codes "chk" ∷ others) → ((others : List (List ℕ)) → words ≢ codes "create" ∷ others) → ((others : List (List ℕ)) → words ≢ codes "dump" ∷ others) → ((others : List (List ℕ)) → words ≢ codes "make" ∷ others) → ((others : List (List ℕ)) → words ≢ codes "shell" ∷ others) → plan words ≡ usage
    by [] checks creates dumps makes scripts = refl
    by (command ∷ others) checks creates dumps makes scripts = no_plan command others (no_word command others (codes "chk") checks) (no_word command others (codes "create") creates) (no_word command others (codes "dump") dumps) (no_word command others (codes "make") makes) (no_word command others (codes "shell") scripts)
reasons_refuse words (no_name others is none) = not_accepted words others is (left_fails _ (go_together (flags_in (spelled_out others))) (left_fails _ (list_all is_name (names_in (spelled_out others))) (ap not none)))
reasons_refuse words (bad_name others is bad) = not_accepted words others is (left_fails _ (go_together (flags_in (spelled_out others))) (right_fails (not (is_empty (names_in (spelled_out others)))) _ bad))
reasons_refuse words (unknown_option others is unknown) = not_accepted words others is (flags_fail others (left_fails _ (at_most_one is_mode (flags_in (spelled_out others)) && (at_most_one is_extend (flags_in (spelled_out others)) && at_most_one is_force (flags_in (spelled_out others)))) unknown))
reasons_refuse words (two_modes others is two) = not_accepted words others is (rest_fails others (left_fails _ (at_most_one is_extend (flags_in (spelled_out others)) && at_most_one is_force (flags_in (spelled_out others))) two))
reasons_refuse words (extend_twice others is twice) = not_accepted words others is (twice_fails others (left_fails _ (at_most_one is_force (flags_in (spelled_out others))) twice))
reasons_refuse words (force_twice others is twice) = not_accepted words others is (twice_fails others (right_fails (at_most_one is_extend (flags_in (spelled_out others))) _ twice))
reasons_refuse words (create_option others is some) = not_created words others is (create_refused (flags_in others) (names_in others) some)
reasons_refuse words (create_names others is other) = not_created words others is (create_counted (flags_in others) (names_in others) other)
reasons_refuse words (create_bad_name others is bad) = not_created words others is (create_misnamed (flags_in others) (names_in others) bad)
reasons_refuse words (dump_option others is some) = not_dumped words others is (dump_refused (flags_in others) (names_in others) some)
reasons_refuse words (dump_names others is other) = not_dumped words others is (dump_counted (flags_in others) (names_in others) other)
reasons_refuse words (dump_bad_name others name is named bad) = not_dumped words others is (ap (dump_of (flags_in others)) named ∙ dump_misnamed (flags_in others) name bad)
reasons_refuse words (make_option others is some) = not_made words others is (make_refused (flags_in others) (names_in others) some)
reasons_refuse words (make_names others is other) = not_made words others is (make_counted (flags_in others) (names_in others) other)
reasons_refuse words (make_bad_count others count names is named bad) = not_made words others is (ap (make_of (flags_in others)) named ∙ make_uncounted (flags_in others) count names bad)
reasons_refuse words (make_bad_seed others count seed names is named bad) = not_made words others is (ap (make_of (flags_in others)) named ∙ make_unseeded (flags_in others) count seed names bad)
reasons_refuse words (make_bad_name others count seed name is named bad) = not_made words others is (ap (make_of (flags_in others)) named ∙ make_misnamed (flags_in others) count seed name bad)
reasons_refuse words (shell_names others is other) = not_scripted words others is (shell_counted (shell_flags_in (shell_spelled_out others)) (names_in (shell_spelled_out others)) other)
reasons_refuse words (shell_bad_name others is bad) = not_scripted words others is (shell_misnamed (shell_flags_in (shell_spelled_out others)) (names_in (shell_spelled_out others)) bad)
reasons_refuse words (shell_unknown_option others is unknown) = not_scripted words others is (shell_apart (shell_flags_in (shell_spelled_out others)) (names_in (shell_spelled_out others)) (left_fails _ (are_once (shell_flags_in (shell_spelled_out others))) unknown))
reasons_refuse words (shell_option_twice others is twice) = not_scripted words others is (shell_apart (shell_flags_in (shell_spelled_out others)) (names_in (shell_spelled_out others)) (right_fails (list_all is_some (shell_flags_in (shell_spelled_out others))) _ twice))
