use Rattle.std.proofs.Common.{◌≡◌, ◌<◌, ◌≤◌, ◌+◌, suc, length, All, sym, subst, arith}
use Rattle.std.proofs.lemmas.List.{length_push}
use Rattle.std.proofs.lemmas.List.Elements.{All-push}
use Rattle.myi_readers.specs.Indexes.{IsEmptyIndex}
use Rattle.myi_readers.proofs.known_keys.begin_indexes.Goals as goal

pub loop-key-preserved : goal.loop-key-preserved
loop-key-preserved c =
    let was = c.loop-key.invariant in
    let long = length_push c.loop-key.all.items c.new.result in
    record {
      within = let lt = subst (λ ks. c.loop-key._key < length ks) c.as_slice-count.ensures c.loop-key-test.true in omega (arith, lt);
      count = subst (λ l. length l ≡ c.loop-key._key + 1) (sym c.in_ok-push.ensures.items) (let count = was.count in omega (arith, long, count));
      empty = subst (All (IsEmptyIndex c.args.end)) (sym c.in_ok-push.ensures.items) (All-push (IsEmptyIndex c.args.end) c.loop-key.all.items c.new.result was.empty c.new.ensures);
    }

pub returns : goal.returns
returns c =
    let was = c.loop-key.invariant in
    λ packed. record {
      keys = let long = was.count in let within = was.within in let whole = subst (λ ks. length ks ≤ c.loop-key._key) c.as_slice-count.ensures c.loop-key-test.false in omega (arith, long, within, whole);
      each = λ i other lt. was.empty i other lt c.args.defs.now (suc i) packed;
    }
