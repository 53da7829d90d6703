use Rattle.std.proofs.Common.{◌≡◌, ◌∙◌, ◌-◌, take, drop, subst, ap, sym}
use Rattle.myi_base.specs.Holding.{bytes_of}
use Rattle.myi_window.specs.Excerpt.{Excerpt, StandsIn, EndsBy}
use Rattle.myi_window.proofs.ExcerptLemmas.{moved_stands, moved_inside, full_stands}
use Rattle.myi_window.proofs.window.Window.hold.Goals as goal

pub returns-clause-full : goal.returns-clause-full
returns-clause-full g c m held shows =
    let d = bytes_of c.args.name.now m in
    subst (λ (w : Excerpt). StandsIn w d → c.read_to.new.self.bytes ≡ take (c.args.end - w.from) (drop w.from d)) c.move_to.ensures (c.in_ok-read_to.ensures.full m held) (moved_stands c.args.at c.args.end c.args.self.now d shows)

pub returns-clause-goes : goal.returns-clause-goes
returns-clause-goes g c =
    let from : c.read_to.new.self.from ≡ c.args.at = c.in_ok-read_to.ensures.from ∙ ap (λ (w : Excerpt). w.from) c.move_to.ensures in
    record {
      from = from;
      inside = c.in_ok-read_to.ensures.inside;
      stands = λ m held shows.
          let d = bytes_of c.args.name.now m in
          full_stands c.args.at (c.args.end - c.args.at) c.read_to.new.self d from (subst (λ (w : Excerpt). StandsIn w d → c.read_to.new.self.bytes ≡ take (c.args.end - w.from) (drop w.from d)) c.move_to.ensures (c.in_ok-read_to.ensures.full m held) (moved_stands c.args.at c.args.end c.args.self.now d shows));
    }

pub returns-in_err-read_to-clause-goes : goal.returns-in_err-read_to-clause-goes
returns-in_err-read_to-clause-goes g c =
    let same = c.in_err-read_to.ensures.err ∙ c.move_to.ensures in
    record {
      from = ap (λ (w : Excerpt). w.from) same;
      inside = subst (λ (w : Excerpt). EndsBy c.args.end w) (sym same) (moved_inside c.args.at c.args.end c.args.self.now c.requires.order);
      stands = λ m held shows.
          let d = bytes_of c.args.name.now m in
          subst (λ (w : Excerpt). StandsIn w d) (sym same) (moved_stands c.args.at c.args.end c.args.self.now d shows);
    }
