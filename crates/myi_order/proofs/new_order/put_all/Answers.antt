use Rattle.std.proofs.Common.{◌≡◌, ◌∙◌, ◌++◌, ◌∷◌, ℕ, List, [], refl, sym, subst, arith}
use Rattle.myi_base.specs.Holding.{Holding, Told, OthersStay, bytes_of}
use Rattle.myi_base.proofs.CallerLemmas.{told_more, told_then}
use Rattle.myi_window.specs.Excerpt.{StandsIn, GoesOnStanding}
use Rattle.myi_repair.specs.Names.{names_of}
use Rattle.myi_repair.specs.Keeping.{HasWritten}
use Rattle.myi_repair.specs.Gathering.{all_chosen}
use Rattle.myi_repair.proofs.CallerLemmas.{told_and}
use Rattle.myi_order.specs.NewOrder.{HasPut, Appends}
use Rattle.myi_order.proofs.AnalyzeLaws.{told_from}
use Rattle.myi_order.proofs.NewOrderLaws.{put_none, IsThere, Steps, put_near, put_whole}
use Rattle.myi_order.proofs.new_order.put_all.Goals as goal

pub loop-i-init : goal.loop-i-init
loop-i-init g c = record {
  later = omega arith;
  others = record { told = λ m held. (m, held, λ q differs. refl); untold = λ none. none };
  end = c.requires.end;
  came = [];
  put = c.requires.none;
  so_far = record {
    told = λ m held. (
      m,
      held,
      (
        put_none (names_of c.args.table.now) c.args.opened.now c.args.order.now m (c.requires.empty m held),
        subst (λ e. StandsIn e (bytes_of (names_of c.args.table.now).rows m)) (sym c.requires.held) refl,
      ),
    );
    untold = λ none. none;
  };
}

pub loop-i-preserved : goal.loop-i-preserved
loop-i-preserved g c =
    let t = names_of c.args.table.now in
    let o = c.args.opened.now in
    let was = c.loop-i.invariant in
    let mid = g.F.Files.holds c.loop-i.files in
    let after = g.F.Files.holds c.put.new.files in
    let near = c.look_ahead.new.self in
    let read = c.in_ok-read.ensures.read in
    let wrote = c.in_ok-put.ensures in
    let name = c.as_str-rows.ensures.value in
    let file = c.as_str-new_rows.ensures.value in
    let same = c.read.ensures.holds ∙ c.look_ahead.ensures.holds in
    let others : Told mid after (OthersStay t.new_rows) = subst (λ q. Told mid after (OthersStay q)) file (told_from mid _ after _ same wrote.ends.others) in
    let appends : Told mid after (Appends o.defs t.new_rows c.read.new.self) = subst (λ q. Told mid after (Appends o.defs q c.read.new.self)) file (told_from mid _ after _ same wrote.written) in
    let put : HasPut o.defs was.came c.read.new.self = record { written = subst (HasWritten o.defs all_chosen was.came) (sym c.in_ok-read.ensures.rows) was.put.written; keys = c.in_ok-read.ensures.keys ∙ was.put.keys } in
    let end = c.look_ahead.ensures.end ∙ was.end in
    record {
      later = omega (arith, was.later, c.look_ahead.ensures.cause.later, c.read.ensures.cause.later, wrote.ends.cause.later);
      others = told_then _ _ _ _ _ _ was.others others (λ m k n before kept q differs. kept q differs ∙ before q differs);
      end = end;
      came = was.came ++ read.row ∷ [];
      put = wrote.puts read.row was.came read.prepared put;
      so_far = told_then _ _ _ _ _ _ was.so_far
          (told_more mid after _ (Steps t o c.loop-i.near near c.row.result read.row c.read.new.self) (told_and mid after _ _ appends others) (λ k n held both. record {
            appends = both.0;
            others = both.1;
            stands = subst (λ q. GoesOnStanding q c.loop-i.near.window near.window k) name (c.look_ahead.ensures.stands k held);
            there = subst (λ q. IsThere q o near c.row.result read.row k) name (read.there k (c.look_ahead.ensures.holds ∙ held));
          }))
          (λ m k n before step.
          put_near t o c.args.order.now c.loop-i.i c.row.result was.came read.row c.loop-i.near near c.read.new.self m k n end c.requires.apart.rows-new_rows (omega arith) c.row.ensures before read.prepared put step);
    }

pub returns-clause-put : goal.returns-clause-put
returns-clause-put g c =
    let was = c.loop-i.invariant in
    record {
      rows = was.came;
      put = was.put;
      told = told_more _ _ _ _ was.so_far (λ m n held is. put_whole (names_of c.args.table.now) c.args.opened.now c.args.order.now c.loop-i.i was.came m n (omega arith) is.0);
    }
