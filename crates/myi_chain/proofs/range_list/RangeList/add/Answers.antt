use Rattle.std.proofs.Common.{◌≡◌, ◌∙◌, ◌≤◌, ℕ, List, [], ◌∷◌, ◌++◌, sym, ap, subst}
use Rattle.myi_base.specs.Ranges.{Range}
use Rattle.myi_chain.specs.Used.{reach, listed}
use Rattle.myi_chain.proofs.SameLemmas.{same_of}
use Rattle.myi_chain.proofs.JoinedLemmas.{from_same}
use Rattle.myi_chain.proofs.ListedLemmas.{added, added_view, on_err}
use Rattle.myi_chain.proofs.range_list.RangeList.add.Goals as goal

pub invariant_of-self-2 : goal.invariant_of-self-2
invariant_of-self-2 c =
    let s = c.self.inside in
    let is : listed s.froms c.close_last.new.tos s.last_to ≡ c.args.self.now = c.close_last.ensures.same ∙ c.self.view_is ∙ c.grow.ensures.same c.if-grow.false in
    let behind : reach 0 (listed s.froms c.close_last.new.tos s.last_to) ≤ c.args.at = subst (λ (rs : List Range). reach 0 rs ≤ c.args.at) (sym is) c.requires.behind in
    added s.froms c.close_last.new.tos c.push.new.self s.last_to c.args.at c.args.end c.close_last.ensures.listed c.in_ok-close_last.ensures.each behind c.requires.start c.requires.some c.in_ok-push.ensures.ok

pub returns-clause-ok : goal.returns-clause-ok
returns-clause-ok c =
    let s = c.self.inside in
    let is : listed s.froms c.close_last.new.tos s.last_to ≡ c.args.self.now = c.close_last.ensures.same ∙ c.self.view_is ∙ c.grow.ensures.same c.if-grow.false in
    let view = added_view s.froms c.close_last.new.tos c.push.new.self s.last_to c.args.at c.args.end c.in_ok-close_last.ensures.each c.in_ok-push.ensures.ok in
    from_same c.args.end _ _ (same_of _ _ (view ∙ ap (λ (rs : List Range). rs ++ (c.args.at, c.args.end) ∷ []) is))

pub returns-in_err-close_last-clause-err : goal.returns-in_err-close_last-clause-err
returns-in_err-close_last-clause-err c = on_err _ (c.close_last.ensures.same ∙ c.self.view_is ∙ c.grow.ensures.same c.if-grow.false)

pub returns-in_err-push-clause-err : goal.returns-in_err-push-clause-err
returns-in_err-push-clause-err c =
    let s = c.self.inside in
    on_err _ (ap (λ (fs : List ℕ). listed fs c.close_last.new.tos s.last_to) c.in_err-push.ensures.err ∙ c.close_last.ensures.same ∙ c.self.view_is ∙ c.grow.ensures.same c.if-grow.false)
