use Rattle.std.proofs.Common.{◌≡◌, ℕ, suc, List, ◌++◌, take, drop, get_or, ap, ◌∙◌, refl}
use Rattle.myi_insertion.proofs.RoomLaws.{taken_free}
use Rattle.myi_insertion.proofs.room.take_free.Goals as goal

pub returns-clause-taken : goal.returns-clause-taken
returns-clause-taken c = λ len is.
    let before : List (ℕ × ℕ) = c.args.room.now.free in
    let items : c.into_vec-free.result.items ≡ before = c.into_vec-free.ensures ∙ c.replace.ensures.value in
    let value : c.remove-at.result ≡ get_or before c.args.i c.remove-at.result = c.remove-at.ensures.value ∙ ap (λ (t : List (ℕ × ℕ)). get_or t c.args.i c.remove-at.result) items in
    taken_free len c.args.i c.remove-at.result c.args.room.now _ c.requires value (ap (λ (t : ℕ × ℕ). t.1) value ∙ is c.remove-at.result)
    (c.new-3.ensures ∙ c.remove-at.ensures.items ∙ ap (λ (t : List (ℕ × ℕ)). take c.args.i t ++ drop (suc c.args.i) t) items) refl
