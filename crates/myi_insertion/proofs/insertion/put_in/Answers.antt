use Rattle.std.proofs.Common.{◌≡◌, List, [], ◌∷◌, ◌++◌, refl, ap, ◌∙◌, arith, sym}
use Rattle.myi_keys.specs.Comparing.{key_front}
use Rattle.myi_keylist.specs.declared.pair.Pair.{Pair}
use Rattle.myi_keylist.specs.PairOrder.{pair_with}
use Rattle.std.proofs.lemmas.Result.{err_from_is_err_and}
use Rattle.myi_btree.specs.CachedTrees.{node_lent}
use Rattle.myi_insertion.proofs.LoadLaws.{if_err}
use Rattle.myi_insertion.proofs.PageLaws.{pair_again, is_code_of}
use Rattle.myi_insertion.proofs.PuttingLaws.{never_in, into_tree, first_page, one_written}
use Rattle.myi_insertion.proofs.DamageLaws.{missing_in}
use Rattle.myi_insertion.proofs.insertion.put_in.Goals as goal

pub returns-in-Some-clause-stands : goal.returns-in-Some-clause-stands
returns-in-Some-clause-stands g c = λ m held xs pages tree can sorted.
    into_tree c.args.task.now.setup.place c.args.task.now.pair.now c.args.cache.now (g.F.Files.holds c.args.files.now) c.args.room.now c.in-Some.root (g.F.Files.holds c.insert_at.new.files) c.insert_at.new.cache c.insert_at.new.room c.in_ok-strip.strip.places.items c.in_ok-strip.strip.separators
    c.in_ok-strip.ensures.stands c.args.task.now.setup.place.root c.in-Some.is m held xs pages tree can sorted

pub push-requires : goal.push-requires
push-requires g c = is_code_of c.code.result.now c.args.task.now.pair.now c.code.ensures.key c.code.ensures.value

pub settle-requires-clause-page : goal.settle-requires-clause-page
settle-requires-clause-page g c = λ κs lives.
    let p : Pair = c.args.task.now.pair.now in
    let same : pair_with (key_front c.code.result.now) p.row ≡ p = pair_again c.code.result.now p.row p c.code.ensures.key c.code.ensures.value refl in
    let pushed : c.push.new.self ≡ p ∷ [] = c.in_ok-push.ensures.added ∙ ap (λ (t : List Pair). t ++ pair_with (key_front c.code.result.now) p.row ∷ []) c.new-pairs.ensures ∙ ap (λ (q : Pair). q ∷ []) same in
    one_written c.args.task.now.setup.place.rec_ref p c.push.new.self c.new.result.items pushed c.new.ensures.items c.requires.row c.code.ensures.key

pub returns-clause-stands : goal.returns-clause-stands
returns-clause-stands g c = λ m held xs pages tree can sorted.
    let p : Pair = c.args.task.now.pair.now in
    let same : pair_with (key_front c.code.result.now) p.row ≡ p = pair_again c.code.result.now p.row p c.code.ensures.key c.code.ensures.value refl in
    let pushed : c.push.new.self ≡ p ∷ [] = c.in_ok-push.ensures.added ∙ ap (λ (t : List Pair). t ++ pair_with (key_front c.code.result.now) p.row ∷ []) c.new-pairs.ensures ∙ ap (λ (q : Pair). q ∷ []) same in
    first_page c.args.task.now.setup.place p c.args.cache.now (g.F.Files.holds c.args.files.now) c.args.room.now c.take_page.new.room c.in_ok-at.at c.push.new.self c.new.result.items (g.F.Files.holds c.settle.new.files) c.settle.new.cache c.settle.new.room c.in_ok-strip-2.strip.places.items c.in_ok-strip-2.strip.separators
    (let l = c.requires.placed.least in omega arith) c.in_ok-at.ensures.taken pushed c.new.ensures.items c.in_ok-strip-2.ensures.settles c.args.task.now.setup.place.root c.in_default.is m held xs pages tree can

pub returns-in_err-strip-clause-never : goal.returns-in_err-strip-clause-never
returns-in_err-strip-clause-never g c =
    let e = err_from_is_err_and c.from_residual.result c.from_residual.ensures.1 in
    if_err c.from_residual.result e.0 _ e.1
    (λ p d. never_in c.args.task.now.setup.place c.args.cache.now (g.F.Files.holds c.args.files.now) c.args.room.now c.in-Some.root c.args.task.now.setup.place.root c.in-Some.is (c.in_err-strip.ensures.never p (sym e.2 ∙ d)))

pub returns-in_err-strip-clause-damaged : goal.returns-in_err-strip-clause-damaged
returns-in_err-strip-clause-damaged g c =
    let e = err_from_is_err_and c.from_residual.result c.from_residual.ensures.1 in
    if_err c.from_residual.result e.0 _ e.1
    (λ p d m held file. missing_in (node_lent c.args.task.now.setup.place c.args.cache.now m) c.args.task.now.pair.now c.in-Some.root p c.args.task.now.setup.place.root c.in-Some.is (c.in_err-strip.ensures.damaged p (sym e.2 ∙ d) m held file))
