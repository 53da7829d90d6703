use Rattle.std.proofs.Common.{◌≡◌, ◌+◌, ◌<◌, ◌≤◌, ℕ, true, Option, Some, None, List, length, drop, refl, sym, ap, subst, ◌∙◌, arith}
use Rattle.std.proofs.lemmas.Result.{err_from_is_err_and}
use Rattle.myi_base.proofs.CallerLemmas.{told_same}
use Rattle.myi_keycache.proofs.CallerLemmas.{stays_start}
use Rattle.myi_keylist.specs.declared.pair.Pair.{Pair}
use Rattle.myi_btree.specs.CachedTrees.{node_lent}
use Rattle.myi_search.specs.Path.{is_up_to, IsStopped, Arrives}
use Rattle.myi_search.specs.Passing.{passes, IsParted}
use Rattle.myi_search.specs.Cursor.{CursorAt, StandsIn, Advances}
use Rattle.myi_search.specs.Runs.{pair_before, IsFound}
use Rattle.myi_search.proofs.Serving.{if_err, reads_none}
use Rattle.myi_search.proofs.TreeLaws.{Test}
use Rattle.myi_search.proofs.LeastLaws.{above_parted}
use Rattle.myi_search.proofs.RunLaws.{no_pair, in_order, pair_there, goes_in, goes_to, ends_here, none_ahead, some_ahead}
use Rattle.myi_search.proofs.cursor.TreeCursor.advance.Goals as goal

pub returns-then-self-len-clause-next : goal.returns-then-self-len-clause-next
returns-then-self-len-clause-next g c = λ m held current height pairs has strict st.
    let n : ℕ = c.self.inside.next in
    let ps : List Pair = c.self.inside.pairs in
    let lt : n < length ps = let t = c.if-self-len.true in omega (arith, t, c.len.ensures) in
    subst (λ (u : CursorAt). StandsIn pairs u → Advances pairs u (record { last = pair_before (n + 1) ps; ahead = drop (n + 1) ps }) true) c.self.view_is (goes_in pairs ps n no_pair lt strict) st

pub returns-then-self-len-clause-some : goal.returns-then-self-len-clause-some
returns-then-self-len-clause-some g c = λ there.
    let lt : c.self.inside.next < length c.self.inside.pairs = let t = c.if-self-len.true in omega (arith, t, c.len.ensures) in
    rw (pair_there c.self.inside.next c.self.inside.pairs no_pair lt) refl

pub returns-then-self-len-clause-arrives : goal.returns-then-self-len-clause-arrives
returns-then-self-len-clause-arrives g c = λ none.
    let lt : c.self.inside.next < length c.self.inside.pairs = let t = c.if-self-len.true in omega (arith, t, c.len.ensures) in
    some_ahead c.self.inside.next c.self.inside.pairs lt (ap (λ (u : CursorAt). u.ahead) c.self.view_is ∙ none)

pub returns-then-self-len-clause-stays : goal.returns-then-self-len-clause-stays
returns-then-self-len-clause-stays g c = told_same (g.F.Files.holds c.args.files.now) (g.F.Files.holds c.args.files.now) _ refl (λ m held current. stays_start c.args.cache.now m current)

pub returns-then-self-len-clause-cache : goal.returns-then-self-len-clause-cache
returns-then-self-len-clause-cache g c = reads_none (g.F.Files.holds c.args.files.now) c.args.cache.now

pub returns-in_err-found-clause-damaged : goal.returns-in_err-found-clause-damaged
returns-in_err-found-clause-damaged g c =
    let e = err_from_is_err_and c.from_residual.result c.from_residual.ensures.1 in
    if_err c.from_residual.result e.0 _ e.1 (λ p d m held current. subst (λ (t : Test). IsStopped (node_lent c.args.place.now c.args.cache.now m) t c.args.place.now.root p) c.bound.ensures (c.in_err-found.ensures.stopped p (sym e.2 ∙ d) m held current))

pub returns-in_err-found-clause-quiet : goal.returns-in_err-found-clause-quiet
returns-in_err-found-clause-quiet g c = λ some. absurd (some (sym (ap (λ (u : CursorAt). u.ahead) c.self.view_is) ∙ none_ahead c.self.inside.next c.self.inside.pairs (let t = c.if-self-len.false in omega (arith, t, c.len.ensures))))

pub returns-in_default-clause-quiet : goal.returns-in_default-clause-quiet
returns-in_default-clause-quiet g c = λ some. absurd (some (sym (ap (λ (u : CursorAt). u.ahead) c.self.view_is) ∙ none_ahead c.self.inside.next c.self.inside.pairs (let t = c.if-self-len.false in omega (arith, t, c.len.ensures))))

pub returns-clause-quiet : goal.returns-clause-quiet
returns-clause-quiet g c = λ some. absurd (some (sym (ap (λ (u : CursorAt). u.ahead) c.self.view_is) ∙ none_ahead c.self.inside.next c.self.inside.pairs (let t = c.if-self-len.false in omega (arith, t, c.len.ensures))))

pub returns-in_default-clause-next : goal.returns-in_default-clause-next
returns-in_default-clause-next g c = λ m held current height pairs has strict st.
    let parted = subst (λ (t : Test). IsParted t pairs) (sym c.bound.ensures) (above_parted c.args.self.now.last pairs (in_order pairs strict)) in
    let f = subst (λ (o : Option (List Pair × ℕ)). IsFound (passes c.bound.result) pairs o) c.in_default.is (c.in_ok-found.ensures.found m held current height pairs has parted) in
    ends_here pairs c.args.self.now c.args.self.now strict refl (subst (λ (t : Test). IsFound t pairs None) c.bound.ensures f)

pub returns-clause-next : goal.returns-clause-next
returns-clause-next g c = λ m held current height pairs has strict st.
    let parted = subst (λ (t : Test). IsParted t pairs) (sym c.bound.ensures) (above_parted c.args.self.now.last pairs (in_order pairs strict)) in
    let f = subst (λ (o : Option (List Pair × ℕ)). IsFound (passes c.bound.result) pairs o) c.in-Some.is (c.in_ok-found.ensures.found m held current height pairs has parted) in
    goes_to pairs c.in-Some.pairs c.args.self.now c.in-Some.i no_pair (rw c.in-Some.is at c.in_ok-found.ensures.inside) strict (subst (λ (t : Test). IsFound t pairs (Some (c.in-Some.pairs, c.in-Some.i))) c.bound.ensures f)

pub returns-clause-some : goal.returns-clause-some
returns-clause-some g c = λ there.
    let lt : c.in-Some.i < length c.in-Some.pairs = rw c.in-Some.is at c.in_ok-found.ensures.inside in
    rw (pair_there c.in-Some.i c.in-Some.pairs no_pair lt) refl

pub returns-in_default-clause-arrives : goal.returns-in_default-clause-arrives
returns-in_default-clause-arrives g c = λ none m held current. subst (λ (t : Test). Arrives (node_lent c.args.place.now c.args.cache.now m) t c.args.place.now.root) c.bound.ensures (c.in_ok-found.ensures.arrives m held current)

pub returns-clause-arrives : goal.returns-clause-arrives
returns-clause-arrives g c = λ none m held current. subst (λ (t : Test). Arrives (node_lent c.args.place.now c.args.cache.now m) t c.args.place.now.root) c.bound.ensures (c.in_ok-found.ensures.arrives m held current)
