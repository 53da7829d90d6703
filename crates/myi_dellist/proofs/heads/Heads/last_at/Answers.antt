use Rattle.std.proofs.Common.{◌∙◌}
use Rattle.std.specs.BTreeMap.{get}
use Rattle.std.specs.Ordering.{nat_cmp}
use Rattle.myi_dellist.proofs.HeadsLemmas.{latest-are, latest-found, mapped-found}
use Rattle.myi_dellist.proofs.heads.Heads.last_at.Goals as goal

pub returns-in-Some : goal.returns-in-Some
returns-in-Some c =
    latest-found (get nat_cmp c.self.inside.by_place) c.self.inside.mapped c.args.self.now _ c.args.at c.last_of.result c.in-Some.head (rw (← c.self.view_is) c.self.invariant) (latest-are c.args.self.now c.deref.result.now c.self.inside.mapped (c.deref.ensures.value ∙ c.self.view_is)) c.last_of.ensures c.in-Some.is

pub returns-in-None : goal.returns-in-None
returns-in-None c =
    c.copied.ensures ∙ c.get.ensures.value ∙ mapped-found (get nat_cmp c.self.inside.by_place) c.self.inside.mapped c.args.self.now _ c.args.at c.last_of.result (rw (← c.self.view_is) c.self.invariant) (latest-are c.args.self.now c.deref.result.now c.self.inside.mapped (c.deref.ensures.value ∙ c.self.view_is)) c.last_of.ensures c.in-None.is
