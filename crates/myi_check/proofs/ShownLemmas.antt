-- The first item of a header that is not so, by what the files show.
use Rattle.std.proofs.Common.{◌≡◌, ℕ, ◌-◌, ◌||◌, Bool, true, false, cond, eqb, not, List, length, Option, Some, None, refl, ap}
use Rattle.std.specs.Option.{option_map}
use Rattle.myi_defs.specs.declared.types.Defs.{Defs}
use Rattle.myi_header.specs.declared.state.State.{State}
use Rattle.myi_header.specs.Layout.{first_page_of}
use Rattle.myi_header.specs.StateOf.{state_of, has_mark}
use Rattle.myi_pair.specs.FirstBad.{first_failed}
use Rattle.myi_pair.specs.Findings.{all_walks, all_walk, page_bytes, header_bad}
use Rattle.myi_check.specs.declared.header.Shown.{Shown}
use Rattle.myi_check.specs.HeaderShown.{agrees, shown_tests, AreShown}

agrees_walked : (n m : ℕ) (all : Bool) (k : Option ℕ) (f : ℕ → ℕ) → k ≡ option_map f (cond all (Some m) None) → agrees n k ≡ (not all || eqb n (f m))
agrees_walked n m true k f is = ap (agrees n) is
agrees_walked n m false k f is = ap (agrees n) is

-- of a foreign file it is the mark, whatever else is shown
pub foreign_item : (d : Defs) (rows x : List ℕ) (s : State) (shown : Shown) → has_mark d x ≡ false → first_failed (shown_tests false s shown) ≡ header_bad d rows x
unfolding header_bad
foreign_item d rows x s shown absent = rw absent refl

pub marked_item : (d : Defs) (rows x : List ℕ) (s : State) (shown : Shown) → has_mark d x ≡ true → s ≡ state_of d x → AreShown d rows x shown → first_failed (shown_tests true s shown) ≡ header_bad d rows x
unfolding header_bad
marked_item d rows x s shown marked state are =
    let records = are.records in
    let del = are.del in
    let split = are.split in
    let key_file_length = are.key_file_length in
    let data_file_length = are.data_file_length in
    let empty = are.empty in
    let key_empty = agrees_walked (state_of d x).key_empty (page_bytes d (all_walks d x)) (all_walk (all_walks d x)) shown.key_empty (λ n. length x - first_page_of d - n) are.key_empty in
    rw (state, marked, records, del, split, key_file_length, data_file_length, empty, key_empty) refl
