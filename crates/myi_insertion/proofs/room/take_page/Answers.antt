use Rattle.std.proofs.Common.{ℕ, List, get_or, ap, sym, ◌∙◌, inl, arith}
use Rattle.myi_insertion.proofs.RoomLaws.{free_whole}
use Rattle.myi_insertion.proofs.room.take_page.Goals as goal

pub returns-in-Some-clause-taken : goal.returns-in-Some-clause-taken
returns-in-Some-clause-taken c =
    inl (c.take_free.ensures.taken c.args.len (λ r. ap (λ (t : List (ℕ × ℕ)). (get_or t c.in-Some.i r).1) (sym c.as_slice.ensures) ∙ c.in-Some.ensures.len r))

pub returns-in-Some-clause-place : goal.returns-in-Some-clause-place
returns-in-Some-clause-place c = λ long whole.
    let k = free_whole c.args.len c.take_free.result c.args.room.now c.take_free.new.room (c.take_free.ensures.taken c.args.len (λ r. ap (λ (t : List (ℕ × ℕ)). (get_or t c.in-Some.i r).1) (sym c.as_slice.ensures) ∙ c.in-Some.ensures.len r)) whole in
    (k.0, omega (arith, c.take_free.ensures.small))

pub returns-in-Some-clause-whole : goal.returns-in-Some-clause-whole
returns-in-Some-clause-whole c = λ long whole.
    (free_whole c.args.len c.take_free.result c.args.room.now c.take_free.new.room (c.take_free.ensures.taken c.args.len (λ r. ap (λ (t : List (ℕ × ℕ)). (get_or t c.in-Some.i r).1) (sym c.as_slice.ensures) ∙ c.in-Some.ensures.len r)) whole).1
