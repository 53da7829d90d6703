use Rattle.std.proofs.Common.{◌≡◌, Bool, true, false, List, ℕ, map, string_bytes, Some, None, refl, sym, ap, ◌∙◌}
use Rattle.std.specs.Prelude.{if◌then◌else◌}
use Rattle.myisamkit.specs.declared.options.Options.{Options}
use Rattle.myisamkit.specs.Words as spec
use Rattle.myisamkit.proofs.WordLaws.{options_of_words, tables_of_words}
use Rattle.myisamkit.proofs.words.plan_chk.Goals as goal

-- what options and acceptance make of a request
accepted : (b : Bool) (o other : Options) (names : List (List ℕ)) → Some o ≡ (if b then Some other else None) → spec.chk o names ≡ (if b then spec.chk other names else spec.usage)
accepted true o other names is = cc
accepted false o other names is = absurd cc

refused : (b : Bool) (other : Options) (names : List (List ℕ)) → None ≡ (if b then Some other else None) → spec.usage ≡ (if b then spec.chk other names else spec.usage)
refused true other names is = absurd cc
refused false other names is = refl

pub returns-in-Some : goal.returns-in-Some
returns-in-Some c =
    let words = map (λ w. string_bytes w) c.args.words.now in
    ap (spec.chk c.in-Some.options) (tables_of_words words).0
    ∙ accepted (spec.are_accepted (spec.spelled_out words)) _ _ _ (sym c.in-Some.is ∙ (c.chk_options.ensures ∙ options_of_words words))

pub returns-in-None : goal.returns-in-None
returns-in-None c =
    let words = map (λ w. string_bytes w) c.args.words.now in
    refused (spec.are_accepted (spec.spelled_out words)) _ _ (sym c.in-None.is ∙ (c.chk_options.ensures ∙ options_of_words words))
