use Rattle.std.proofs.Common.{◌∙◌}
use Rattle.myi_history.proofs.PartLemmas.{noted_within, noted_texts, noted_none, cut_texts, cut_within, on_err}
use Rattle.myi_history.proofs.round_texts.RoundTexts.push_merged.Goals as goal

pub invariant_of-self : goal.invariant_of-self
invariant_of-self c = cut_within c.self.inside.bytes.items c.push_merged.new.out.items _ c.self.inside.said.items c.self.invariant c.in_err-push_merged.ensures.part

pub returns-in_err-push_merged-clause-same : goal.returns-in_err-push_merged-clause-same
returns-in_err-push_merged-clause-same c = on_err c.from_residual.result _ (cut_texts c.self.inside.bytes.items c.push_merged.new.out.items _ c.self.inside.said.items c.args.self.now c.self.invariant c.in_err-push_merged.ensures.part c.self.view_is)

pub invariant_of-self-2 : goal.invariant_of-self-2
invariant_of-self-2 c = noted_within c.note.result c.args.line c.len-from.result c.len.result c.self.inside.bytes.items c.push_merged.new.out.items _ c.self.inside.said.items c.note.new.said.items c.self.invariant c.in_ok-push_merged.ensures.text (c.len-from.ensures ∙ c.self.inside.bytes.ok.0) (c.len.ensures ∙ c.push_merged.new.out.ok.0) c.note.ensures.ok c.note.ensures.err

pub returns-clause-text : goal.returns-clause-text
returns-clause-text c = noted_texts c.note.result c.args.line c.len-from.result c.len.result c.self.inside.bytes.items c.push_merged.new.out.items _ c.self.inside.said.items c.note.new.said.items c.args.self.now c.self.invariant c.in_ok-push_merged.ensures.text (c.len-from.ensures ∙ c.self.inside.bytes.ok.0) (c.len.ensures ∙ c.push_merged.new.out.ok.0) c.self.view_is c.note.ensures.ok

pub returns-clause-same : goal.returns-clause-same
returns-clause-same c = noted_none c.note.result c.self.inside.bytes.items c.push_merged.new.out.items _ c.self.inside.said.items c.note.new.said.items c.args.self.now c.self.invariant c.in_ok-push_merged.ensures.text c.self.view_is c.note.ensures.err
