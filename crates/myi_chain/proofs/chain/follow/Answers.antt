use Rattle.std.proofs.Common.{◌≡◌, ◌∙◌, ◌-◌, ◌++◌, ◌∷◌, [], length, sym, ap, subst, arith, refl}
use Rattle.std.specs.Prelude.{IfSome}
use Rattle.std.proofs.lemmas.List.{length-append}
use Rattle.myi_base.proofs.CallerLemmas.{ok_not_err}
use Rattle.myi_frames.specs.Seeing.{HeadsBlock}
use Rattle.myi_chain.specs.declared.chain.Link.TheVariants.{Last, More}
use Rattle.myi_chain.specs.Chain.{tail}
use Rattle.myi_chain.specs.Chain.{ranges_at}
use Rattle.myi_chain.specs.Source.{ChainModel, IsHeader, IsTaken, read_bytes, read_blocks, with_rest}
use Rattle.myi_chain.proofs.SourceLemmas.{header_range, lies_more}
use Rattle.myi_chain.proofs.FollowLemmas.{can_more, last_not_broken, more_not_broken, followed_none, followed_no_block, followed_broken, followed_last, followed_more}
use Rattle.myi_chain.proofs.chain.follow.Goals as goal

pub loop-at-init : goal.loop-at-init
loop-at-init g c = record {
  more = c.requires.more;
  can = c.requires.can;
  many = omega arith;
  lies = λ at old. old;
  holds = refl;
  faults = omega arith;
  same = λ m held. refl;
}

pub header-requires-clause-ready : goal.header-requires-clause-ready
header-requires-clause-ready g c κs lives = λ m held. c.requires.ready m (sym c.loop-at.invariant.holds ∙ held)

pub take-requires : goal.take-requires
take-requires g c = header_range c.in-Some.at c.args.source.now.end c.in-Some-2.block (subst (λ o. IfSome o (IsHeader c.in-Some.at c.args.source.now.end)) c.in-Some-2.is c.in_ok-block.ensures.place)

pub loop-at-preserved : goal.loop-at-preserved
loop-at-preserved g c =
    let was = c.loop-at.invariant in
    let old = c.loop-at.chain in
    let used = c.args.used.now in
    let found = c.in_ok-block.ensures in
    let block = c.in-Some-2.block in
    let at = c.in-Some.at in
    let next = sym c.next.ensures ∙ c.in-Some.is in
    let place = subst (λ o. IfSome o (IsHeader at c.args.source.now.end)) c.in-Some-2.is found.place in
    let taken = subst (IsTaken block old c.take.new.self) c.in-More.is c.in_ok-take.ensures.taken in
    let all : c.take.new.self.taken ≡ old.taken ++ (block.head.at, block.head.size) ∷ [] = ap (λ (w : ChainModel). w.taken) taken.0 in
    let link = sym c.in-More.is ∙ c.in_ok-take.ensures.link in
    let left : c.take.new.self.left ≡ old.left - block.data_len = ap (λ (w : ChainModel). w.left) taken.0 in
    record {
      more = omega (arith, left, taken.1, taken.2);
      can = can_more used old.taken c.take.new.self.taken block old.left More was.can all more_not_broken link (header_range at c.args.source.now.end block place);
      many = omega (arith, was.many, ap length all, length-append old.taken ((block.head.at, block.head.size) ∷ []));
      lies = λ p first. lies_more p at c.args.source.now.end block old.taken c.take.new.self.taken place all (was.lies p first);
      holds = found.holds ∙ was.holds;
      faults = omega (arith, was.faults, found.cause.later);
      same = λ m held.
          let here = subst (λ o. HeadsBlock (read_bytes c.args.source.now m) o (read_blocks c.args.source.now m at)) c.in-Some-2.is (found.told m (was.holds ∙ held)) in
          subst (λ (w : ChainModel). with_rest w.taken (tail (read_blocks c.args.source.now m) w.next (used ++ ranges_at w.taken) w.left) ≡ with_rest c.args.chain.now.taken (tail (read_blocks c.args.source.now m) c.args.chain.now.next (used ++ ranges_at c.args.chain.now.taken) c.args.chain.now.left)) (sym taken.0) (followed_more (read_bytes c.args.source.now m) (read_blocks c.args.source.now m) old.next used old.taken old.left _ (was.same m held) at block (old.taken ++ (block.head.at, block.head.size) ∷ []) next here link was.more taken.1 refl);
    }

pub loop-at-smaller : goal.loop-at-smaller
loop-at-smaller g c =
    let taken = subst (IsTaken c.in-Some-2.block c.loop-at.chain c.take.new.self) c.in-More.is c.in_ok-take.ensures.taken in
    let left : c.take.new.self.left ≡ c.loop-at.chain.left - c.in-Some-2.block.data_len = ap (λ (w : ChainModel). w.left) taken.0 in
    omega (arith, left, taken.1, taken.2)

pub returns-in-Broken : goal.returns-in-Broken
returns-in-Broken g c =
    let was = c.loop-at.invariant in
    let old = c.loop-at.chain in
    let used = c.args.used.now in
    let found = c.in_ok-block.ensures in
    let block = c.in-Some-2.block in
    let at = c.in-Some.at in
    let next = sym c.next.ensures ∙ c.in-Some.is in
    let link = sym c.in-Broken.is ∙ c.in_ok-take.ensures.link in
    record {
      told = λ m held.
          let here = subst (λ o. HeadsBlock (read_bytes c.args.source.now m) o (read_blocks c.args.source.now m at)) c.in-Some-2.is (found.told m (was.holds ∙ held)) in
          followed_broken (read_bytes c.args.source.now m) (read_blocks c.args.source.now m) old.next used old.taken old.left _ (was.same m held) at block next here link;
      can = λ e. absurd cc;
      many = λ e. absurd cc;
      lies = λ e. absurd cc;
      holds = found.holds ∙ was.holds;
      cause = record { later = omega (arith, was.faults, found.cause.later); cause = λ e. absurd (ok_not_err e) };
    }

pub returns-in-Last : goal.returns-in-Last
returns-in-Last g c =
    let was = c.loop-at.invariant in
    let old = c.loop-at.chain in
    let used = c.args.used.now in
    let found = c.in_ok-block.ensures in
    let block = c.in-Some-2.block in
    let at = c.in-Some.at in
    let next = sym c.next.ensures ∙ c.in-Some.is in
    let place = subst (λ o. IfSome o (IsHeader at c.args.source.now.end)) c.in-Some-2.is found.place in
    let taken = subst (IsTaken block old c.take.new.self) c.in-Last.is c.in_ok-take.ensures.taken in
    let link = sym c.in-Last.is ∙ c.in_ok-take.ensures.link in
    record {
      told = λ m held.
          let here = subst (λ o. HeadsBlock (read_bytes c.args.source.now m) o (read_blocks c.args.source.now m at)) c.in-Some-2.is (found.told m (was.holds ∙ held)) in
          followed_last (read_bytes c.args.source.now m) (read_blocks c.args.source.now m) old.next used old.taken old.left _ (was.same m held) at block c.take.new.self.taken next here link was.more taken.1 taken.0;
      can = λ _. can_more used old.taken c.take.new.self.taken block old.left Last was.can taken.0 last_not_broken link (header_range at c.args.source.now.end block place);
      many = λ _. omega (arith, was.many, ap length taken.0, length-append old.taken ((block.head.at, block.head.size) ∷ []));
      lies = λ _ p first. lies_more p at c.args.source.now.end block old.taken c.take.new.self.taken place taken.0 (was.lies p first);
      holds = found.holds ∙ was.holds;
      cause = record { later = omega (arith, was.faults, found.cause.later); cause = λ e. absurd (ok_not_err e) };
    }

pub returns-in_default-clause-told : goal.returns-in_default-clause-told
returns-in_default-clause-told g c m held =
    let old = c.loop-at.chain in
    followed_none (read_bytes c.args.source.now m) (read_blocks c.args.source.now m) old.next c.args.used.now old.taken old.left _ (c.loop-at.invariant.same m held) (sym c.next.ensures ∙ c.in_default.is)

pub returns-in_default-2-clause-told : goal.returns-in_default-2-clause-told
returns-in_default-2-clause-told g c m held =
    let old = c.loop-at.chain in
    let was = c.loop-at.invariant in
    let at = c.in-Some.at in
    let here = subst (λ o. HeadsBlock (read_bytes c.args.source.now m) o (read_blocks c.args.source.now m at)) c.in_default-2.is (c.in_ok-block.ensures.told m (was.holds ∙ held)) in
    followed_no_block (read_bytes c.args.source.now m) (read_blocks c.args.source.now m) old.next c.args.used.now old.taken old.left _ (was.same m held) at (sym c.next.ensures ∙ c.in-Some.is) here
