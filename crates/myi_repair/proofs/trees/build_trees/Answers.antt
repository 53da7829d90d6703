use Rattle.std.proofs.Common.{rules, ◌∙◌, ap, sym, subst}
use Rattle.myi_base.specs.Holding.{Holding, OthersStay, bytes_of}
use Rattle.myi_defs.proofs.CallerLemmas.{sound}
use Rattle.myi_header.specs.Layout.{first_page_of}
use Rattle.myi_keycache.specs.Caching.{contents, IsCurrent}
use Rattle.myi_btree.specs.TreePages.{HasBehind}
use Rattle.myi_repair.specs.Building.{trees_of}
use Rattle.myi_repair.proofs.TreeLaws.{begins, empty_contents, others_laid}
use Rattle.myi_base.proofs.CallerLemmas.{told_then}
use Rattle.myi_repair.proofs.trees.build_trees.Goals as goal

pub lay_trees-requires-clause-sound : goal.lay_trees-requires-clause-sound
lay_trees-requires-clause-sound g c κs lives = sound c.args.defs.now c.requires.defs

pub returns-in_err-trees-clause-ends : goal.returns-in_err-trees-clause-ends
returns-in_err-trees-clause-ends g c =
    let made = c.in_ok-cache.ensures in
    record {
      cut = search rules;
      others = told_then _ _ _ _ _ _ c.in_ok-cut.ensures.ok c.lay_trees.ensures.ends.others (λ m k n cut laid. others_laid c.in_ok-cache.cache c.args.file.now (first_page_of c.args.defs.now) m k n made.pages made.name (made.current k) cut laid);
      cause = search rules;
    }

pub returns-in-Ok-clause-ends : goal.returns-in-Ok-clause-ends
returns-in-Ok-clause-ends g c =
    let made = c.in_ok-cache.ensures in
    let named = c.lay_trees.ensures.name ∙ made.name in
    let laid = told_then _ _ _ _ _ (OthersStay c.args.file.now) c.in_ok-cut.ensures.ok c.lay_trees.ensures.ends.others (λ m k n cut laid. others_laid c.in_ok-cache.cache c.args.file.now (first_page_of c.args.defs.now) m k n made.pages made.name (made.current k) cut laid) in
    record {
      cut = search rules;
      others = told_then _ _ _ _ _ _ laid c.flush.ensures.others (λ m k n before flushed q differs. flushed q (λ same. differs (same ∙ named)) ∙ before q differs);
      cause = search rules;
    }

pub returns-clause-ends : goal.returns-clause-ends
returns-clause-ends g c =
    let made = c.in_ok-cache.ensures in
    let named = c.lay_trees.ensures.name ∙ made.name in
    let laid = told_then _ _ _ _ _ (OthersStay c.args.file.now) c.in_ok-cut.ensures.ok c.lay_trees.ensures.ends.others (λ m k n cut laid. others_laid c.in_ok-cache.cache c.args.file.now (first_page_of c.args.defs.now) m k n made.pages made.name (made.current k) cut laid) in
    record {
      cut = search rules;
      others = told_then _ _ _ _ _ _ laid c.flush.ensures.others (λ m k n before flushed q differs. flushed q (λ same. differs (same ∙ named)) ∙ before q differs);
      cause = search rules;
    }

pub returns-in-Ok-clause-built : goal.returns-in-Ok-clause-built
returns-in-Ok-clause-built g c =
    let d = c.args.defs.now in
    let made = c.in_ok-cache.ensures in
    let cache = c.lay_trees.new.cache in
    let trees = trees_of d c.args.pairs.items in
    let named = c.lay_trees.ensures.name ∙ made.name in
    let laid = told_then _ _ _ _ _ (λ (m n : Holding). IsCurrent cache n × HasBehind (first_page_of d) trees.end trees.bytes (contents cache n)) c.in_ok-cut.ensures.ok c.in_ok-trees.ensures.laid
    (λ m k n cut laid. laid (begins _ (first_page_of d) k made.pages (made.current k)) (empty_contents c.in_ok-cache.cache c.args.file.now m k made.pages made.name cut)) in
    told_then _ _ _ _ _ _ laid c.in-Ok.ensures.ok
    (λ m k n held flushed. subst (λ file. HasBehind (first_page_of d) trees.end trees.bytes file) (sym (ap (λ f. bytes_of f n) (sym named) ∙ (flushed held.0).file)) held.1)
