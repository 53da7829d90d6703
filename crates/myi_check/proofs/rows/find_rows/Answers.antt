use Rattle.std.proofs.Common.{◌≡◌, ◌∙◌, ℕ, Bool, true, false, List, length, subst}
use Rattle.std.specs.Prelude.{IfSome}
use Rattle.myi_defs.proofs.CallerLemmas.{sound}
use Rattle.myi_data.specs.Readable.{items_in}
use Rattle.myi_check.specs.declared.rows.RowsFound.{RowsFound}
use Rattle.myi_check.specs.Met.{HasMet}
use Rattle.myi_check.specs.Rows.{HasRows}
use Rattle.myi_check.proofs.RowsLemmas.{same_file}
use Rattle.myi_check.proofs.rows.find_rows.Goals as goal

pub found_apart-requires-clause-sound : goal.found_apart-requires-clause-sound
found_apart-requires-clause-sound g c = sound c.args.defs.now c.requires.defs

pub found_meeting-requires-clause-sound : goal.found_meeting-requires-clause-sound
found_meeting-requires-clause-sound g c = sound c.args.defs.now c.requires.defs

pub returns-in-Some-clause-found : goal.returns-in-Some-clause-found
returns-in-Some-clause-found g c m told x here =
    let d = c.args.defs.now in
    let file = c.requires.long m told in
    let long = same_file c.args.rows.now file.0 x c.args.length m file.1 here file.2 in
    let met = c.in_ok-met.met in
    let found = subst (λ o. IfSome o (λ (r : RowsFound). (y : List ℕ) → c.args.length ≡ length y → HasMet d true (items_in d false y) met → HasRows d met.with_keys y r)) c.in-Some.is c.in_ok-found.ensures.found in
    subst (λ (b : Bool). HasRows d b x c.in-Some.found) c.in_ok-met.ensures.keys (found x long (c.in_ok-met.ensures.met m told x here))

pub returns-clause-found : goal.returns-clause-found
returns-clause-found g c m told x here =
    let file = c.requires.long m told in
    let long = same_file c.args.rows.now file.0 x c.args.length m file.1 here file.2 in
    subst (λ (b : Bool). HasRows c.args.defs.now b x c.in_ok-found_meeting.field-0) c.in_ok-met-2.ensures.keys
    (c.in_ok-found_meeting.ensures.found x long (c.in_ok-met-2.ensures.met m (c.in_ok-met.ensures.holds ∙ told) x here))
