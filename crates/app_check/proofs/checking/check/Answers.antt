use Rattle.std.proofs.Common.{◌≡◌, ◌∙◌, ap, map}
use Rattle.app_tree.specs.View.{shape_of}
use Rattle.app_tree.specs.DraftView.{written_item, draft_shape_of}
use Rattle.app_check.proofs.LastChecks.{readers_written, accepted_through, refused_through, refused_first}
use Rattle.app_check.proofs.checking.check.Goals as goal

pub covered-requires : goal.covered-requires
covered-requires c =
    let same : map written_item c.as_slice.result.now ≡ (draft_shape_of c.args.draft.now).items = ap (map written_item) (c.as_slice.ensures ∙ c.items.ensures.items) in
    readers_written (draft_shape_of c.args.draft.now) (map written_item c.as_slice.result.now) (shape_of c.in-Ok.app) same c.in-Ok.ensures.accepted

pub returns-in-Ok-clause-accepted : goal.returns-in-Ok-clause-accepted
returns-in-Ok-clause-accepted c =
    let same : map written_item c.as_slice.result.now ≡ (draft_shape_of c.args.draft.now).items = ap (map written_item) (c.as_slice.ensures ∙ c.items.ensures.items) in
    accepted_through (draft_shape_of c.args.draft.now) (map written_item c.as_slice.result.now) (shape_of c.in-Ok.app) c.covered.result same c.in-Ok.ensures.accepted c.covered.ensures.accepted

pub returns-in-Ok-clause-refused : goal.returns-in-Ok-clause-refused
returns-in-Ok-clause-refused c =
    let same : map written_item c.as_slice.result.now ≡ (draft_shape_of c.args.draft.now).items = ap (map written_item) (c.as_slice.ensures ∙ c.items.ensures.items) in
    refused_through (draft_shape_of c.args.draft.now) (map written_item c.as_slice.result.now) (shape_of c.in-Ok.app) c.covered.result same c.in-Ok.ensures.accepted c.covered.ensures.refused

pub returns-in-Err-clause-refused : goal.returns-in-Err-clause-refused
returns-in-Err-clause-refused c = refused_first (draft_shape_of c.args.draft.now) c.in-Err.error c.in-Err.ensures.refused
