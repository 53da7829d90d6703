use Rattle.std.proofs.Common.{◌≡◌, ◌∙◌, length, rules, sym}
use Rattle.myi_base.specs.Holding.{bytes_of}
use Rattle.myi_dellist.proofs.SightLemmas.{seen-planned, seen-file, told-same}
use Rattle.myi_dellist.proofs.HeadsLemmas.{planned-hole}
use Rattle.myi_dellist.specs.Several.{planned_in, seen_in}
use Rattle.myi_dellist.specs.Freeing.{hole_in}
use Rattle.myi_dellist.proofs.linked.seen_at.Goals as goal

pub returns-in_default-clause-told : goal.returns-in_default-clause-told
returns-in_default-clause-told g c =
    let s = c.args.sight.now in
    told-same (g.F.Files.holds c.args.files.now) (λ m. length (bytes_of c.args.name.now m) ≡ s.end) (λ m. hole_in (bytes_of c.args.name.now m) c.args.at) (λ m. seen_in s (bytes_of c.args.name.now m) c.args.at) c.hole_at.result
    (λ m. seen-file s (bytes_of c.args.name.now m) c.args.at c.planned.result (sym c.is_same.ensures ∙ c.if-is_same.false) c.planned.ensures (search rules)) c.hole_at.ensures.told

pub returns-clause-told : goal.returns-clause-told
returns-clause-told g c m held long =
    seen-planned c.args.sight.now (bytes_of c.args.name.now m) c.args.at c.planned.result c.in-Some.head (sym c.is_same.ensures ∙ c.if-is_same.false) c.planned.ensures c.in-Some.is

pub returns-clause-hole : goal.returns-clause-hole
returns-clause-hole g c = planned-hole c.args.sight.now.end c.args.at (planned_in c.args.sight.now) c.planned.result c.in-Some.head c.requires c.planned.ensures c.in-Some.is
