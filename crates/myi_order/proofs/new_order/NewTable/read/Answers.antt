use Rattle.std.proofs.Common.{◌∙◌, List, ℕ, length, map, ap, sym, arith}
use Rattle.myi_defs.proofs.CallerLemmas.{sound}
use Rattle.myi_pack.proofs.CallerLemmas.{row-fits}
use Rattle.myi_order.proofs.PlaceLaws.{sized_as}
use Rattle.myi_order.proofs.new_order.NewTable.read.Goals as goal

pub view-requires : goal.view-requires
view-requires g c = sound c.args.defs.now c.requires

pub spell-requires-clause-row : goal.spell-requires-clause-row
spell-requires-clause-row g c =
    row-fits c.args.defs.now c.in-Some.found c.deref.result.now (sound c.args.defs.now c.requires) c.in-Some.ensures.packs
    (λ _. omega (arith, c.in_ok-read.ensures.few, ap (λ (x : List ℕ). length x) c.deref.ensures.value))

pub returns-clause-read : goal.returns-clause-read
returns-clause-read g c =
    let d = c.args.defs.now in
    record {
      row = record { values = c.in-Some.found; sizes = map (λ b. b.1) c.deref-2.result.now };
      prepared = c.in_ok-spell.ensures;
      there = λ m held knows r here stands.
          sized_as d c.read.new.self r c.deref.result.now c.in-Some.found c.deref.ensures.value c.in-Some.ensures.found (c.in_ok-read.ensures.told m held knows r here stands)
          ∙ ap (λ (bs : List (ℕ × ℕ)). record { values = c.in-Some.found; sizes = map (λ b. b.1) bs }) (sym c.deref-2.ensures.value);
    }
