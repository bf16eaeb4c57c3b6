use Rattle.std.proofs.Common.{◌∙◌, sym, ap, map}
use Rattle.app_tree.specs.View.{shape_of}
use Rattle.app_tree.specs.DraftView.{written_item}
use Rattle.app_check.specs.CachedReaders.{written_readers}
use Rattle.app_check.specs.Load.{unless_uncovered}
use Rattle.app_check.proofs.LastChecks.{readers_within, sound_where_none, refuses}
use Rattle.app_check.proofs.checking.covered.Goals as goal

pub first_uncovered-requires-clause-few : goal.first_uncovered-requires-clause-few
first_uncovered-requires-clause-few c = readers_within c.args.app c.items-items.ensures.well_formed

pub returns-in-Ok-None-clause-proper : goal.returns-in-Ok-None-clause-proper
returns-in-Ok-None-clause-proper c = (
  c.items-items.ensures.well_formed,
  sound_where_none (shape_of c.args.app) (written_readers (map written_item c.args.written.now)) c.requires (sym c.in-Ok-None.ensures ∙ c.in-Ok-None.field-0-is),
)

pub returns-in-Ok-Some-clause-refused : goal.returns-in-Ok-Some-clause-refused
returns-in-Ok-Some-clause-refused c =
    refuses c.in-Ok-Some.refusal _ (ap (λ o. unless_uncovered o (shape_of c.args.app)) (sym c.in-Ok-Some.ensures ∙ c.in-Ok-Some.field-0-is))
