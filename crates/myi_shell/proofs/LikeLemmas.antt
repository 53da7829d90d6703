-- The lines of a script, on tables that are alike.
use Rattle.std.proofs.Common.{◌-◌, List, [], ◌∷◌, length, Option, Some, None, ap, subst, ◌∙◌}
use Rattle.std.specs.List.{AllByRecursion}
use Rattle.myi_defs.specs.declared.types.Defs.{Defs}
use Rattle.myi_defs.specs.declared.types.Key.{Key}
use Rattle.myi_data.specs.Keys.{IsKeyNumber}
use Rattle.myi_keys.specs.declared.values.KeySeg.{KeySeg}
use Rattle.myi_script.specs.declared.types.Act.{Act}
use Rattle.myi_script.specs.declared.types.Act.TheVariants as act
use Rattle.myi_script.specs.declared.types.Range.{Range}
use Rattle.myi_script.specs.declared.types.Line.{Line}
use Rattle.myi_script.specs.Grammar.{segments_from}
use Rattle.myi_history.specs.Lines.{BringsRow, HasAllSegments, IsRange, ReadsRange, MayRun}
use Rattle.myi_merge.specs.Merged.{IsLike}
use Rattle.myi_merge.proofs.CallerLemmas.{fits_like}

rows_like : (d e : Defs) (a : Act) → IsLike d e → BringsRow d a → BringsRow e a
rows_like d e (act.Insert row) like fit = fits_like d e row like fit
rows_like d e (act.Update at row) like fit = fits_like d e row like fit
rows_like d e (act.Delete at) like fit = tt
rows_like d e act.Scan like fit = tt
rows_like d e (act.Over range) like fit = tt
rows_like d e (act.Lock lock) like fit = tt
rows_like d e act.Unlock like fit = tt
rows_like d e act.Stats like fit = tt
rows_like d e act.End like fit = tt

range_like : (d e : Defs) (r : Range) → IsLike d e → IsRange d r → IsRange e r
range_like d e r like is = record {
  key = subst (λ (ks : List Key). IsKeyNumber (record d { keys = ks }) r.key) like.keys is.key;
  from = bound r.from is.from;
  to = bound r.to is.to;
}
  where
    bound : (b : Option (List KeySeg)) → HasAllSegments d r.key b → HasAllSegments e r.key b
    bound None has = tt
    bound (Some b) has = has ∙ ap (λ (ks : List Key). length (segments_from ks (r.key - 1))) like.keys

ranges_like : (d e : Defs) (a : Act) → IsLike d e → ReadsRange d a → ReadsRange e a
ranges_like d e (act.Insert row) like is = tt
ranges_like d e (act.Update at row) like is = tt
ranges_like d e (act.Delete at) like is = tt
ranges_like d e act.Scan like is = tt
ranges_like d e (act.Over range) like is = range_like d e range like is
ranges_like d e (act.Lock lock) like is = tt
ranges_like d e act.Unlock like is = tt
ranges_like d e act.Stats like is = tt
ranges_like d e act.End like is = tt

all_like : (P Q : Act → Type 0) → ((a : Act) → P a → Q a) → (ls : List Line) → AllByRecursion (λ (l : Line). P l.act) ls → AllByRecursion (λ (l : Line). Q l.act) ls
all_like P Q each [] all = tt
all_like P Q each (l ∷ ls) all = (each l.act all.0, all_like P Q each ls all.1)

pub run_like : (d e : Defs) (ls : List Line) → IsLike d e → MayRun d ls → MayRun e ls
run_like d e ls like may = record {
  grow = may.grow;
  ends = may.ends;
  sessions = may.sessions;
  rows = all_like (BringsRow d) (BringsRow e) (λ a. rows_like d e a like) ls may.rows;
  ranges = all_like (ReadsRange d) (ReadsRange e) (λ a. ranges_like d e a like) ls may.ranges;
}
