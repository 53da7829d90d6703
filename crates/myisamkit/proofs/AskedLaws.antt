-- Words that are accepted.
use Rattle.std.proofs.Common.{◌≡◌, ◌⊎◌, Option, None, Some, Bool, true, false, List, [], ◌∷◌, ℕ, map, refl, sym, ap, subst, ◌∙◌, inl, inr}
use Rattle.std.specs.Prelude.{◌&&◌, not, if◌then◌else◌, codes, is_some}
use Rattle.std.specs.List.{list_all}
use Rattle.std.specs.Str.{bytes_eq}
use Rattle.std.proofs.lemmas.Bool.{cases_Bool}
use Rattle.std.proofs.lemmas.Slice.Eq.{bytes_eq-Decides}
use Rattle.myisamkit.specs.declared.options.Options.{Options}
use Rattle.myisamkit.specs.declared.options.Flag.{Flag}
use Rattle.myisamkit.specs.declared.shell_options.ShellFlag.{ShellFlag}
use Rattle.myisamkit.specs.declared.shell_options.ShellOptions.{ShellOptions}
use Rattle.myisamkit.specs.ShellOptions.{shell_go_together, shell_options_in}
use Rattle.myisamkit.specs.Words.{Request, usage, chk, create, dump, make, shell, shell_of, plan_shell, shell_flags_in, shell_spelled_out, plan, plan_chk, plan_create, plan_dump, plan_make, create_of, dump_of, make_of, make_by, count_of, seed_of, are_accepted, is_empty, is_name, names_in, flags_in, spelled_out, table_name}
use Rattle.myisamkit.specs.Options.{is_mode, is_extend, at_most_one, go_together, options_in}
use Rattle.myisamkit.specs.Asked.{AreChk, AreCreate, AreDump, AreMake, AreShell}

first_holds : (a b : Bool) → (a && b) ≡ true → a ≡ true
first_holds true b e = refl
first_holds false b e = e

second_holds : (a b : Bool) → (a && b) ≡ true → b ≡ true
second_holds true b e = e
second_holds false b e = absurd cc

-- which of two does not hold
pub one_fails : (a b : Bool) → (a && b) ≡ false → (a ≡ false) ⊎ (b ≡ false)
one_fails true b e = inr e
one_fails false b e = inl refl

not_true : (a : Bool) → not a ≡ true → a ≡ false
not_true true e = sym e
not_true false e = refl

pub not_false : (a : Bool) → not a ≡ false → a ≡ true
not_false true e = refl
not_false false e = sym e

-- the accepted words behind the command
accepted : (others : List (List ℕ)) (o : Options) (tables : List (List ℕ)) → plan_chk (spelled_out others) ≡ chk o tables → AreChk (codes "chk" ∷ others) o tables
accepted others o tables is = by_case (cases_Bool (are_accepted (spelled_out others)))
  where
    of_parts : are_accepted (spelled_out others) ≡ true → options_in (flags_in (spelled_out others)) ≡ o → map table_name (names_in (spelled_out others)) ≡ tables → AreChk (codes "chk" ∷ others) o tables
    of_parts all options names =
        let first = first_holds (not (is_empty (names_in (spelled_out others))) && list_all is_name (names_in (spelled_out others))) _ all in
        let second = second_holds (not (is_empty (names_in (spelled_out others))) && list_all is_name (names_in (spelled_out others))) (go_together (flags_in (spelled_out others))) all in
        let rest = second_holds (at_most_one is_mode (flags_in (spelled_out others))) _ (second_holds (list_all is_some (flags_in (spelled_out others))) _ second) in
        subst (λ t. AreChk (codes "chk" ∷ others) o t) names (subst (λ p. AreChk (codes "chk" ∷ others) p (map table_name (names_in (spelled_out others)))) options record {
          others = others;
          command = refl;
          named = not_true _ (first_holds (not (is_empty (names_in (spelled_out others)))) _ first);
          in_form = second_holds (not (is_empty (names_in (spelled_out others)))) _ first;
          tables_are = refl;
          known = first_holds (list_all is_some (flags_in (spelled_out others))) _ second;
          one_mode = first_holds (at_most_one is_mode (flags_in (spelled_out others))) _ (second_holds (list_all is_some (flags_in (spelled_out others))) _ second);
          extend_once = first_holds (at_most_one is_extend (flags_in (spelled_out others))) _ rest;
          force_once = second_holds (at_most_one is_extend (flags_in (spelled_out others))) _ rest;
          mode = refl;
          extend = refl;
          force = refl;
          silent = refl;
        })

    by_case : (are_accepted (spelled_out others) ≡ true) ⊎ (are_accepted (spelled_out others) ≡ false) → AreChk (codes "chk" ∷ others) o tables
    by_case (inl all) =
        let e : chk (options_in (flags_in (spelled_out others))) (map table_name (names_in (spelled_out others))) ≡ chk o tables = sym (ap (λ b. if b then chk (options_in (flags_in (spelled_out others))) (map table_name (names_in (spelled_out others))) else usage) all) ∙ is in
        let options : options_in (flags_in (spelled_out others)) ≡ o = cc in
        let names : map table_name (names_in (spelled_out others)) ≡ tables = cc in
        of_parts all options names
    by_case (inr none) =
        let e : usage ≡ chk o tables = sym (ap (λ b. if b then chk (options_in (flags_in (spelled_out others))) (map table_name (names_in (spelled_out others))) else usage) none) ∙ is in
        absurd cc

-- what words behind each command ask for, if they are not refused
chk_is : (others : List (List ℕ)) (r : Request) → plan_chk others ≡ r → (r ≡ usage) ⊎ ((o : Options) × (tables : List (List ℕ)) × (r ≡ chk o tables))
chk_is others r is = by (are_accepted others) is
  where
    by : (b : Bool) → (if b then chk (options_in (flags_in others)) (map table_name (names_in others)) else usage) ≡ r → (r ≡ usage) ⊎ ((o : Options) × (tables : List (List ℕ)) × (r ≡ chk o tables))
    by true e = inr (options_in (flags_in others), map table_name (names_in others), sym e)
    by false e = inl (sym e)

create_is : (flags : List (Option Flag)) (names : List (List ℕ)) (r : Request) → create_of flags names ≡ r → (r ≡ usage) ⊎ ((table : List ℕ) × (file : List ℕ) × (r ≡ create table file))
create_is [] [] r is = inl (sym is)
create_is [] (name ∷ []) r is = inl (sym is)
create_is [] (name ∷ (file ∷ [])) r is = by (is_name name && is_name file) is
  where
    by : (b : Bool) → (if b then create (table_name name) file else usage) ≡ r → (r ≡ usage) ⊎ ((table : List ℕ) × (file : List ℕ) × (r ≡ create table file))
    by true e = inr (table_name name, file, sym e)
    by false e = inl (sym e)
create_is [] (name ∷ (file ∷ (other ∷ names))) r is = inl (sym is)
create_is (f ∷ flags) names r is = inl (sym is)

dump_is : (flags : List (Option Flag)) (names : List (List ℕ)) (r : Request) → dump_of flags names ≡ r → (r ≡ usage) ⊎ ((table : List ℕ) × (r ≡ dump table))
dump_is [] [] r is = inl (sym is)
dump_is [] (name ∷ []) r is = by (is_name name) is
  where
    by : (b : Bool) → (if b then dump (table_name name) else usage) ≡ r → (r ≡ usage) ⊎ ((table : List ℕ) × (r ≡ dump table))
    by true e = inr (table_name name, sym e)
    by false e = inl (sym e)
dump_is [] (name ∷ (other ∷ names)) r is = inl (sym is)
dump_is (f ∷ flags) names r is = inl (sym is)

make_by_is : (count seed : Option ℕ) (name : List ℕ) (r : Request) → make_by count seed name ≡ r → (r ≡ usage) ⊎ ((c : ℕ) × (s : ℕ) × (table : List ℕ) × (r ≡ make c s table))
make_by_is None seed name r is = inl (sym is)
make_by_is (Some c) None name r is = inl (sym is)
make_by_is (Some c) (Some s) name r is = by (is_name name) is
  where
    by : (b : Bool) → (if b then make c s (table_name name) else usage) ≡ r → (r ≡ usage) ⊎ ((c : ℕ) × (s : ℕ) × (table : List ℕ) × (r ≡ make c s table))
    by true e = inr (c, s, table_name name, sym e)
    by false e = inl (sym e)

make_is : (flags : List (Option Flag)) (names : List (List ℕ)) (r : Request) → make_of flags names ≡ r → (r ≡ usage) ⊎ ((c : ℕ) × (s : ℕ) × (table : List ℕ) × (r ≡ make c s table))
make_is [] [] r is = inl (sym is)
make_is [] (a ∷ []) r is = inl (sym is)
make_is [] (a ∷ (b ∷ [])) r is = inl (sym is)
make_is [] (count ∷ (seed ∷ (name ∷ []))) r is = make_by_is (count_of count) (seed_of seed) name r is
make_is [] (a ∷ (b ∷ (c ∷ (d ∷ names)))) r is = inl (sym is)
make_is (f ∷ flags) names r is = inl (sym is)

-- each asks for its own alone
created_no_chk : (others : List (List ℕ)) (o : Options) (tables : List (List ℕ)) → plan_create others ≡ chk o tables → ⊥
created_no_chk others o tables is = by (create_is (flags_in others) (names_in others) (chk o tables) is)
  where
    by : (chk o tables ≡ usage) ⊎ ((table : List ℕ) × (file : List ℕ) × (chk o tables ≡ create table file)) → ⊥
    by (inl e) = cc
    by (inr e) = let same = e.2 in cc

created_no_dump : (others : List (List ℕ)) (table : List ℕ) → plan_create others ≡ dump table → ⊥
created_no_dump others table is = by (create_is (flags_in others) (names_in others) (dump table) is)
  where
    by : (dump table ≡ usage) ⊎ ((t : List ℕ) × (file : List ℕ) × (dump table ≡ create t file)) → ⊥
    by (inl e) = cc
    by (inr e) = let same = e.2 in cc

dumped_no_chk : (others : List (List ℕ)) (o : Options) (tables : List (List ℕ)) → plan_dump others ≡ chk o tables → ⊥
dumped_no_chk others o tables is = by (dump_is (flags_in others) (names_in others) (chk o tables) is)
  where
    by : (chk o tables ≡ usage) ⊎ ((table : List ℕ) × (chk o tables ≡ dump table)) → ⊥
    by (inl e) = cc
    by (inr e) = let same = e.1 in cc

dumped_no_create : (others : List (List ℕ)) (table file : List ℕ) → plan_dump others ≡ create table file → ⊥
dumped_no_create others table file is = by (dump_is (flags_in others) (names_in others) (create table file) is)
  where
    by : (create table file ≡ usage) ⊎ ((t : List ℕ) × (create table file ≡ dump t)) → ⊥
    by (inl e) = cc
    by (inr e) = let same = e.1 in cc

checked_no_create : (others : List (List ℕ)) (table file : List ℕ) → plan_chk others ≡ create table file → ⊥
checked_no_create others table file is = by (chk_is others (create table file) is)
  where
    by : (create table file ≡ usage) ⊎ ((o : Options) × (tables : List (List ℕ)) × (create table file ≡ chk o tables)) → ⊥
    by (inl e) = cc
    by (inr e) = let same = e.2 in cc

checked_no_dump : (others : List (List ℕ)) (table : List ℕ) → plan_chk others ≡ dump table → ⊥
checked_no_dump others table is = by (chk_is others (dump table) is)
  where
    by : (dump table ≡ usage) ⊎ ((o : Options) × (tables : List (List ℕ)) × (dump table ≡ chk o tables)) → ⊥
    by (inl e) = cc
    by (inr e) = let same = e.2 in cc

created_no_make : (others : List (List ℕ)) (c s : ℕ) (table : List ℕ) → plan_create others ≡ make c s table → ⊥
created_no_make others c s table is = by (create_is (flags_in others) (names_in others) (make c s table) is)
  where
    by : (make c s table ≡ usage) ⊎ ((t : List ℕ) × (file : List ℕ) × (make c s table ≡ create t file)) → ⊥
    by (inl e) = cc
    by (inr e) = let same = e.2 in cc

dumped_no_make : (others : List (List ℕ)) (c s : ℕ) (table : List ℕ) → plan_dump others ≡ make c s table → ⊥
dumped_no_make others c s table is = by (dump_is (flags_in others) (names_in others) (make c s table) is)
  where
    by : (make c s table ≡ usage) ⊎ ((t : List ℕ) × (make c s table ≡ dump t)) → ⊥
    by (inl e) = cc
    by (inr e) = let same = e.1 in cc

checked_no_make : (others : List (List ℕ)) (c s : ℕ) (table : List ℕ) → plan_chk others ≡ make c s table → ⊥
checked_no_make others c s table is = by (chk_is others (make c s table) is)
  where
    by : (make c s table ≡ usage) ⊎ ((o : Options) × (tables : List (List ℕ)) × (make c s table ≡ chk o tables)) → ⊥
    by (inl e) = cc
    by (inr e) = let same = e.2 in cc

made_no_chk : (others : List (List ℕ)) (o : Options) (tables : List (List ℕ)) → plan_make others ≡ chk o tables → ⊥
made_no_chk others o tables is = by (make_is (flags_in others) (names_in others) (chk o tables) is)
  where
    by : (chk o tables ≡ usage) ⊎ ((c : ℕ) × (s : ℕ) × (t : List ℕ) × (chk o tables ≡ make c s t)) → ⊥
    by (inl e) = cc
    by (inr e) = let same = e.3 in cc

made_no_create : (others : List (List ℕ)) (table file : List ℕ) → plan_make others ≡ create table file → ⊥
made_no_create others table file is = by (make_is (flags_in others) (names_in others) (create table file) is)
  where
    by : (create table file ≡ usage) ⊎ ((c : ℕ) × (s : ℕ) × (t : List ℕ) × (create table file ≡ make c s t)) → ⊥
    by (inl e) = cc
    by (inr e) = let same = e.3 in cc

made_no_dump : (others : List (List ℕ)) (table : List ℕ) → plan_make others ≡ dump table → ⊥
made_no_dump others table is = by (make_is (flags_in others) (names_in others) (dump table) is)
  where
    by : (dump table ≡ usage) ⊎ ((c : ℕ) × (s : ℕ) × (t : List ℕ) × (dump table ≡ make c s t)) → ⊥
    by (inl e) = cc
    by (inr e) = let same = e.3 in cc

-- what words behind `shell` ask for, if they are not refused
shell_is : (flags : List (Option ShellFlag)) (names : List (List ℕ)) (r : Request) → shell_of flags names ≡ r → (r ≡ usage) ⊎ ((o : ShellOptions) × (table : List ℕ) × (script : List ℕ) × (r ≡ shell o table script))
shell_is flags [] r is = inl (sym is)
shell_is flags (name ∷ []) r is = inl (sym is)
shell_is flags (name ∷ (script ∷ [])) r is = by ((is_name name && is_name script) && shell_go_together flags) is
  where
    by : (b : Bool) → (if b then shell (shell_options_in flags) (table_name name) script else usage) ≡ r → (r ≡ usage) ⊎ ((o : ShellOptions) × (table : List ℕ) × (script : List ℕ) × (r ≡ shell o table script))
    by true e = inr (shell_options_in flags, table_name name, script, sym e)
    by false e = inl (sym e)
shell_is flags (name ∷ (script ∷ (other ∷ names))) r is = inl (sym is)

scripted_no : (others : List (List ℕ)) (r : Request) → (r ≡ usage → ⊥) → ((o : ShellOptions) (table script : List ℕ) → r ≡ shell o table script → ⊥) → plan_shell (shell_spelled_out others) ≡ r → ⊥
scripted_no others r refused other is = by (shell_is (shell_flags_in (shell_spelled_out others)) (names_in (shell_spelled_out others)) r is)
  where
    by : (r ≡ usage) ⊎ ((o : ShellOptions) × (table : List ℕ) × (script : List ℕ) × (r ≡ shell o table script)) → ⊥
    by (inl e) = refused e
    by (inr e) = other e.0 e.1 e.2 e.3

scripted_no_chk : (others : List (List ℕ)) (o : Options) (tables : List (List ℕ)) → plan_shell (shell_spelled_out others) ≡ chk o tables → ⊥
scripted_no_chk others o tables is = scripted_no others (chk o tables) (λ e. cc) (λ p t s e. cc) is

scripted_no_create : (others : List (List ℕ)) (table file : List ℕ) → plan_shell (shell_spelled_out others) ≡ create table file → ⊥
scripted_no_create others table file is = scripted_no others (create table file) (λ e. cc) (λ p t s e. cc) is

scripted_no_dump : (others : List (List ℕ)) (table : List ℕ) → plan_shell (shell_spelled_out others) ≡ dump table → ⊥
scripted_no_dump others table is = scripted_no others (dump table) (λ e. cc) (λ p t s e. cc) is

scripted_no_make : (others : List (List ℕ)) (c s : ℕ) (table : List ℕ) → plan_shell (shell_spelled_out others) ≡ make c s table → ⊥
scripted_no_make others c s table is = scripted_no others (make c s table) (λ e. cc) (λ p t q e. cc) is

checked_no_shell : (others : List (List ℕ)) (o : ShellOptions) (table script : List ℕ) → plan_chk others ≡ shell o table script → ⊥
checked_no_shell others o table script is = by (chk_is others (shell o table script) is)
  where
    by : (shell o table script ≡ usage) ⊎ ((p : Options) × (tables : List (List ℕ)) × (shell o table script ≡ chk p tables)) → ⊥
    by (inl e) = cc
    by (inr e) = let same = e.2 in cc

created_no_shell : (others : List (List ℕ)) (o : ShellOptions) (table script : List ℕ) → plan_create others ≡ shell o table script → ⊥
created_no_shell others o table script is = by (create_is (flags_in others) (names_in others) (shell o table script) is)
  where
    by : (shell o table script ≡ usage) ⊎ ((t : List ℕ) × (file : List ℕ) × (shell o table script ≡ create t file)) → ⊥
    by (inl e) = cc
    by (inr e) = let same = e.2 in cc

dumped_no_shell : (others : List (List ℕ)) (o : ShellOptions) (table script : List ℕ) → plan_dump others ≡ shell o table script → ⊥
dumped_no_shell others o table script is = by (dump_is (flags_in others) (names_in others) (shell o table script) is)
  where
    by : (shell o table script ≡ usage) ⊎ ((t : List ℕ) × (shell o table script ≡ dump t)) → ⊥
    by (inl e) = cc
    by (inr e) = let same = e.1 in cc

made_no_shell : (others : List (List ℕ)) (o : ShellOptions) (table script : List ℕ) → plan_make others ≡ shell o table script → ⊥
made_no_shell others o table script is = by (make_is (flags_in others) (names_in others) (shell o table script) is)
  where
    by : (shell o table script ≡ usage) ⊎ ((c : ℕ) × (s : ℕ) × (t : List ℕ) × (shell o table script ≡ make c s t)) → ⊥
    by (inl e) = cc
    by (inr e) = let same = e.3 in cc

-- what words behind a command other than `chk` ask for, behind one that is not `create` either, not `dump`, and not `make`
abbrev end_plan : List ℕ → List (List ℕ) → Request
end_plan command others = if bytes_eq command (codes "shell") then plan_shell (shell_spelled_out others) else usage

abbrev final_plan : List ℕ → List (List ℕ) → Request
final_plan command others = if bytes_eq command (codes "make") then plan_make others else end_plan command others

abbrev last_plan : List ℕ → List (List ℕ) → Request
last_plan command others = if bytes_eq command (codes "dump") then plan_dump others else final_plan command others

abbrev other_plan : List ℕ → List (List ℕ) → Request
other_plan command others = if bytes_eq command (codes "create") then plan_create others else last_plan command others

-- which command words have
pub data Command (command : List ℕ) : Type 0 where
  is_chk : command ≡ codes "chk" → Command command
  is_create : bytes_eq command (codes "chk") ≡ false → command ≡ codes "create" → Command command
  is_dump : bytes_eq command (codes "chk") ≡ false → bytes_eq command (codes "create") ≡ false → command ≡ codes "dump" → Command command
  is_make : bytes_eq command (codes "chk") ≡ false → bytes_eq command (codes "create") ≡ false → bytes_eq command (codes "dump") ≡ false → command ≡ codes "make" → Command command
  is_shell : bytes_eq command (codes "chk") ≡ false → bytes_eq command (codes "create") ≡ false → bytes_eq command (codes "dump") ≡ false → bytes_eq command (codes "make") ≡ false → command ≡ codes "shell" → Command command
  is_none : bytes_eq command (codes "chk") ≡ false → bytes_eq command (codes "create") ≡ false → bytes_eq command (codes "dump") ≡ false → bytes_eq command (codes "make") ≡ false → bytes_eq command (codes "shell") ≡ false → Command command

pub command_of : (command : List ℕ) → Command command
command_of command = by (cases_Bool (bytes_eq command (codes "chk"))) (cases_Bool (bytes_eq command (codes "create"))) (cases_Bool (bytes_eq command (codes "dump"))) (cases_Bool (bytes_eq command (codes "make"))) (cases_Bool (bytes_eq command (codes "shell")))
  where
    by : (bytes_eq command (codes "chk") ≡ true) ⊎ (bytes_eq command (codes "chk") ≡ false) → (bytes_eq command (codes "create") ≡ true) ⊎ (bytes_eq command (codes "create") ≡ false) → (bytes_eq command (codes "dump") ≡ true) ⊎ (bytes_eq command (codes "dump") ≡ false) → (bytes_eq command (codes "make") ≡ true) ⊎ (bytes_eq command (codes "make") ≡ false) → (bytes_eq command (codes "shell") ≡ true) ⊎ (bytes_eq command (codes "shell") ≡ false) → Command command
    by (inl a) b c d e = is_chk ((bytes_eq-Decides command (codes "chk")).0 a)
    by (inr a) (inl b) c d e = is_create a ((bytes_eq-Decides command (codes "create")).0 b)
    by (inr a) (inr b) (inl c) d e = is_dump a b ((bytes_eq-Decides command (codes "dump")).0 c)
    by (inr a) (inr b) (inr c) (inl d) e = is_make a b c ((bytes_eq-Decides command (codes "make")).0 d)
    by (inr a) (inr b) (inr c) (inr d) (inl e) = is_shell a b c d ((bytes_eq-Decides command (codes "shell")).0 e)
    by (inr a) (inr b) (inr c) (inr d) (inr e) = is_none a b c d e

matches : (command word : List ℕ) → command ≡ word → bytes_eq command word ≡ true
matches command word same = (bytes_eq-Decides command word).1 same

pub chk_plan : (command : List ℕ) (others : List (List ℕ)) → command ≡ codes "chk" → plan (command ∷ others) ≡ plan_chk (spelled_out others)
chk_plan command others same = ap (λ b. if b then plan_chk (spelled_out others) else other_plan command others) (matches command (codes "chk") same)

pub create_plan : (command : List ℕ) (others : List (List ℕ)) → bytes_eq command (codes "chk") ≡ false → command ≡ codes "create" → plan (command ∷ others) ≡ plan_create others
create_plan command others a same = ap (λ b. if b then plan_chk (spelled_out others) else other_plan command others) a ∙ ap (λ b. if b then plan_create others else last_plan command others) (matches command (codes "create") same)

pub dump_plan : (command : List ℕ) (others : List (List ℕ)) → bytes_eq command (codes "chk") ≡ false → bytes_eq command (codes "create") ≡ false → command ≡ codes "dump" → plan (command ∷ others) ≡ plan_dump others
dump_plan command others a b same =
    ap (λ k. if k then plan_chk (spelled_out others) else other_plan command others) a
    ∙ (ap (λ k. if k then plan_create others else last_plan command others) b ∙ ap (λ k. if k then plan_dump others else final_plan command others) (matches command (codes "dump") same))

-- behind a command that is none of the first three
final : (command : List ℕ) (others : List (List ℕ)) → bytes_eq command (codes "chk") ≡ false → bytes_eq command (codes "create") ≡ false → bytes_eq command (codes "dump") ≡ false → plan (command ∷ others) ≡ final_plan command others
final command others a b c =
    ap (λ k. if k then plan_chk (spelled_out others) else other_plan command others) a
    ∙ (ap (λ k. if k then plan_create others else last_plan command others) b ∙ ap (λ k. if k then plan_dump others else final_plan command others) c)

pub make_plan : (command : List ℕ) (others : List (List ℕ)) → bytes_eq command (codes "chk") ≡ false → bytes_eq command (codes "create") ≡ false → bytes_eq command (codes "dump") ≡ false → command ≡ codes "make" → plan (command ∷ others) ≡ plan_make others
make_plan command others a b c same = final command others a b c ∙ ap (λ k. if k then plan_make others else end_plan command others) (matches command (codes "make") same)

-- behind a command that is none of the first four
end : (command : List ℕ) (others : List (List ℕ)) → bytes_eq command (codes "chk") ≡ false → bytes_eq command (codes "create") ≡ false → bytes_eq command (codes "dump") ≡ false → bytes_eq command (codes "make") ≡ false → plan (command ∷ others) ≡ end_plan command others
end command others a b c d = final command others a b c ∙ ap (λ k. if k then plan_make others else end_plan command others) d

pub shell_plan : (command : List ℕ) (others : List (List ℕ)) → bytes_eq command (codes "chk") ≡ false → bytes_eq command (codes "create") ≡ false → bytes_eq command (codes "dump") ≡ false → bytes_eq command (codes "make") ≡ false → command ≡ codes "shell" → plan (command ∷ others) ≡ plan_shell (shell_spelled_out others)
shell_plan command others a b c d same = end command others a b c d ∙ ap (λ k. if k then plan_shell (shell_spelled_out others) else usage) (matches command (codes "shell") same)

pub no_plan : (command : List ℕ) (others : List (List ℕ)) → bytes_eq command (codes "chk") ≡ false → bytes_eq command (codes "create") ≡ false → bytes_eq command (codes "dump") ≡ false → bytes_eq command (codes "make") ≡ false → bytes_eq command (codes "shell") ≡ false → plan (command ∷ others) ≡ usage
no_plan command others a b c d e = end command others a b c d ∙ ap (λ k. if k then plan_shell (shell_spelled_out others) else usage) e

pub words_accepted : (words : List (List ℕ)) (o : Options) (tables : List (List ℕ)) → plan words ≡ chk o tables → AreChk words o tables
words_accepted [] o tables is = absurd cc
words_accepted (command ∷ others) o tables is = by (command_of command)
  where
    by : Command command → AreChk (command ∷ others) o tables
    by (is_chk same) = subst (λ c. AreChk (c ∷ others) o tables) (sym same) (accepted others o tables (sym (chk_plan command others same) ∙ is))
    by (is_create a same) = absurd (created_no_chk others o tables (sym (create_plan command others a same) ∙ is))
    by (is_dump a b same) = absurd (dumped_no_chk others o tables (sym (dump_plan command others a b same) ∙ is))
    by (is_make a b c same) = absurd (made_no_chk others o tables (sym (make_plan command others a b c same) ∙ is))
    by (is_shell a b c d same) = absurd (scripted_no_chk others o tables (sym (shell_plan command others a b c d same) ∙ is))
    by (is_none a b c d f) =
        let e : usage ≡ chk o tables = sym (no_plan command others a b c d f) ∙ is in
        absurd cc

-- ---- the words of a creation

both_hold : (a b : Bool) → (a && b) ≡ true → (a ≡ true) × (b ≡ true)
both_hold true true e = (refl, refl)
both_hold true false e = absurd cc
both_hold false b e = absurd cc

created_parts : (others : List (List ℕ)) (table file : List ℕ) (flags : List (Option Flag)) (names : List (List ℕ)) → flags_in others ≡ flags → names_in others ≡ names → create_of flags names ≡ create table file → AreCreate (codes "create" ∷ others) table file
created_parts others table file [] [] a b is = absurd cc
created_parts others table file [] (name ∷ []) a b is = absurd cc
created_parts others table file [] (name ∷ (second ∷ [])) a b is = by (cases_Bool (is_name name && is_name second))
  where
    by : ((is_name name && is_name second) ≡ true) ⊎ ((is_name name && is_name second) ≡ false) → AreCreate (codes "create" ∷ others) table file
    by (inl form) =
        let e : create (table_name name) second ≡ create table file = sym (ap (λ c. if c then create (table_name name) second else usage) form) ∙ is in
        let same : second ≡ file = cc in
        let both = both_hold (is_name name) (is_name second) form in
        record {
          others = others;
          command = refl;
          no_option = a;
          name = name;
          named = b ∙ ap (λ f. name ∷ (f ∷ [])) same;
          in_form = both.0;
          file_in_form = subst (λ f. is_name f ≡ true) same both.1;
          table_is = cc;
        }
    by (inr bad) =
        let e : usage ≡ create table file = sym (ap (λ c. if c then create (table_name name) second else usage) bad) ∙ is in
        absurd cc
created_parts others table file [] (name ∷ (second ∷ (other ∷ names))) a b is = absurd cc
created_parts others table file (f ∷ flags) names a b is = absurd cc

pub words_created : (words : List (List ℕ)) (table file : List ℕ) → plan words ≡ create table file → AreCreate words table file
words_created [] table file is = absurd cc
words_created (command ∷ others) table file is = by (command_of command)
  where
    by : Command command → AreCreate (command ∷ others) table file
    by (is_chk same) = absurd (checked_no_create (spelled_out others) table file (sym (chk_plan command others same) ∙ is))
    by (is_create a same) = subst (λ c. AreCreate (c ∷ others) table file) (sym same) (created_parts others table file (flags_in others) (names_in others) refl refl (sym (create_plan command others a same) ∙ is))
    by (is_dump a b same) = absurd (dumped_no_create others table file (sym (dump_plan command others a b same) ∙ is))
    by (is_make a b c same) = absurd (made_no_create others table file (sym (make_plan command others a b c same) ∙ is))
    by (is_shell a b c d same) = absurd (scripted_no_create others table file (sym (shell_plan command others a b c d same) ∙ is))
    by (is_none a b c d f) =
        let e : usage ≡ create table file = sym (no_plan command others a b c d f) ∙ is in
        absurd cc

-- ---- the words of a dump

dumped_parts : (others : List (List ℕ)) (table : List ℕ) (flags : List (Option Flag)) (names : List (List ℕ)) → flags_in others ≡ flags → names_in others ≡ names → dump_of flags names ≡ dump table → AreDump (codes "dump" ∷ others) table
dumped_parts others table [] [] a b is = absurd cc
dumped_parts others table [] (name ∷ []) a b is = by (cases_Bool (is_name name))
  where
    by : (is_name name ≡ true) ⊎ (is_name name ≡ false) → AreDump (codes "dump" ∷ others) table
    by (inl form) =
        let e : dump (table_name name) ≡ dump table = sym (ap (λ c. if c then dump (table_name name) else usage) form) ∙ is in
        record { others = others; command = refl; no_option = a; name = name; named = b; in_form = form; table_is = cc }
    by (inr bad) =
        let e : usage ≡ dump table = sym (ap (λ c. if c then dump (table_name name) else usage) bad) ∙ is in
        absurd cc
dumped_parts others table [] (name ∷ (other ∷ names)) a b is = absurd cc
dumped_parts others table (f ∷ flags) names a b is = absurd cc

pub words_dumped : (words : List (List ℕ)) (table : List ℕ) → plan words ≡ dump table → AreDump words table
words_dumped [] table is = absurd cc
words_dumped (command ∷ others) table is = by (command_of command)
  where
    by : Command command → AreDump (command ∷ others) table
    by (is_chk same) = absurd (checked_no_dump (spelled_out others) table (sym (chk_plan command others same) ∙ is))
    by (is_create a same) = absurd (created_no_dump others table (sym (create_plan command others a same) ∙ is))
    by (is_dump a b same) = subst (λ c. AreDump (c ∷ others) table) (sym same) (dumped_parts others table (flags_in others) (names_in others) refl refl (sym (dump_plan command others a b same) ∙ is))
    by (is_make a b c same) = absurd (made_no_dump others table (sym (make_plan command others a b c same) ∙ is))
    by (is_shell a b c d same) = absurd (scripted_no_dump others table (sym (shell_plan command others a b c d same) ∙ is))
    by (is_none a b c d f) =
        let e : usage ≡ dump table = sym (no_plan command others a b c d f) ∙ is in
        absurd cc

-- ---- the words of a making

-- both numbers and the name are in form
record AreNumbers (count seed name : List ℕ) (c s : ℕ) (table : List ℕ) : Type 0 where
  counted : count_of count ≡ Some c
  seeded : seed_of seed ≡ Some s
  in_form : is_name name ≡ true
  table_is : table ≡ table_name name

made_numbers : (count seed name : List ℕ) (c s : ℕ) (table : List ℕ) (a b : Option ℕ) → count_of count ≡ a → seed_of seed ≡ b → make_by a b name ≡ make c s table → AreNumbers count seed name c s table
made_numbers count seed name c s table None b one two is = absurd cc
made_numbers count seed name c s table (Some n) None one two is = absurd cc
made_numbers count seed name c s table (Some n) (Some k) one two is = by (cases_Bool (is_name name))
  where
    by : (is_name name ≡ true) ⊎ (is_name name ≡ false) → AreNumbers count seed name c s table
    by (inl form) =
        let e : make n k (table_name name) ≡ make c s table = sym (ap (λ q. if q then make n k (table_name name) else usage) form) ∙ is in
        let rows : n ≡ c = cc in
        let seeds : k ≡ s = cc in
        record { counted = one ∙ ap Some rows; seeded = two ∙ ap Some seeds; in_form = form; table_is = cc }
    by (inr bad) =
        let e : usage ≡ make c s table = sym (ap (λ q. if q then make n k (table_name name) else usage) bad) ∙ is in
        absurd cc

made_parts : (others : List (List ℕ)) (c s : ℕ) (table : List ℕ) (flags : List (Option Flag)) (names : List (List ℕ)) → flags_in others ≡ flags → names_in others ≡ names → make_of flags names ≡ make c s table → AreMake (codes "make" ∷ others) c s table
made_parts others c s table [] [] a b is = absurd cc
made_parts others c s table [] (x ∷ []) a b is = absurd cc
made_parts others c s table [] (x ∷ (y ∷ [])) a b is = absurd cc
made_parts others c s table [] (count ∷ (seed ∷ (name ∷ []))) a b is =
    let numbers = made_numbers count seed name c s table (count_of count) (seed_of seed) refl refl is in
    record { others = others; command = refl; no_option = a; count_word = count; seed_word = seed; name = name; named = b; counted = numbers.counted; seeded = numbers.seeded; in_form = numbers.in_form; table_is = numbers.table_is }
made_parts others c s table [] (x ∷ (y ∷ (z ∷ (u ∷ names)))) a b is = absurd cc
made_parts others c s table (f ∷ flags) names a b is = absurd cc

pub words_made : (words : List (List ℕ)) (c s : ℕ) (table : List ℕ) → plan words ≡ make c s table → AreMake words c s table
words_made [] c s table is = absurd cc
words_made (command ∷ others) c s table is = by (command_of command)
  where
    by : Command command → AreMake (command ∷ others) c s table
    by (is_chk same) = absurd (checked_no_make (spelled_out others) c s table (sym (chk_plan command others same) ∙ is))
    by (is_create a same) = absurd (created_no_make others c s table (sym (create_plan command others a same) ∙ is))
    by (is_dump a b same) = absurd (dumped_no_make others c s table (sym (dump_plan command others a b same) ∙ is))
    by (is_make a b d same) = subst (λ w. AreMake (w ∷ others) c s table) (sym same) (made_parts others c s table (flags_in others) (names_in others) refl refl (sym (make_plan command others a b d same) ∙ is))
    by (is_shell a b d e same) = absurd (scripted_no_make others c s table (sym (shell_plan command others a b d e same) ∙ is))
    by (is_none a b d e f) =
        let same : usage ≡ make c s table = sym (no_plan command others a b d e f) ∙ is in
        absurd cc

-- ---- the words of a script

scripted_parts : (others : List (List ℕ)) (o : ShellOptions) (table script : List ℕ) (names : List (List ℕ)) → names_in (shell_spelled_out others) ≡ names → shell_of (shell_flags_in (shell_spelled_out others)) names ≡ shell o table script → AreShell (codes "shell" ∷ others) o table script
scripted_parts others o table script [] b is = absurd cc
scripted_parts others o table script (name ∷ []) b is = absurd cc
scripted_parts others o table script (name ∷ (file ∷ [])) b is = by (cases_Bool ((is_name name && is_name file) && shell_go_together flags))
  where
    flags : List (Option ShellFlag)
    flags = shell_flags_in (shell_spelled_out others)

    by : (((is_name name && is_name file) && shell_go_together flags) ≡ true) ⊎ (((is_name name && is_name file) && shell_go_together flags) ≡ false) → AreShell (codes "shell" ∷ others) o table script
    by (inl all) =
        let e : shell (shell_options_in flags) (table_name name) file ≡ shell o table script = sym (ap (λ c. if c then shell (shell_options_in flags) (table_name name) file else usage) all) ∙ is in
        let same : file ≡ script = cc in
        let both = both_hold (is_name name && is_name file) (shell_go_together flags) all in
        let forms = both_hold (is_name name) (is_name file) both.0 in
        record {
          others = others;
          command = refl;
          name = name;
          named = b ∙ ap (λ f. name ∷ (f ∷ [])) same;
          in_form = forms.0;
          script_in_form = sym (ap is_name same) ∙ forms.1;
          table_is = cc;
          together = both.1;
          options = cc;
        }
    by (inr bad) =
        let e : usage ≡ shell o table script = sym (ap (λ c. if c then shell (shell_options_in flags) (table_name name) file else usage) bad) ∙ is in
        absurd cc
scripted_parts others o table script (name ∷ (file ∷ (other ∷ names))) b is = absurd cc

pub words_scripted : (words : List (List ℕ)) (o : ShellOptions) (table script : List ℕ) → plan words ≡ shell o table script → AreShell words o table script
words_scripted [] o table script is = absurd cc
words_scripted (command ∷ others) o table script is = by (command_of command)
  where
    by : Command command → AreShell (command ∷ others) o table script
    by (is_chk same) = absurd (checked_no_shell (spelled_out others) o table script (sym (chk_plan command others same) ∙ is))
    by (is_create a same) = absurd (created_no_shell others o table script (sym (create_plan command others a same) ∙ is))
    by (is_dump a b same) = absurd (dumped_no_shell others o table script (sym (dump_plan command others a b same) ∙ is))
    by (is_make a b c same) = absurd (made_no_shell others o table script (sym (make_plan command others a b c same) ∙ is))
    by (is_shell a b c d same) = subst (λ w. AreShell (w ∷ others) o table script) (sym same) (scripted_parts others o table script (names_in (shell_spelled_out others)) refl (sym (shell_plan command others a b c d same) ∙ is))
    by (is_none a b c d f) =
        let e : usage ≡ shell o table script = sym (no_plan command others a b c d f) ∙ is in
        absurd cc
