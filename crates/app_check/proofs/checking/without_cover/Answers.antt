use Rattle.std.proofs.Common.{◌≡◌, ap, sym, ◌∙◌, map}
use Rattle.app_tree.specs.DraftView.{written_item, draft_shape_of}
use Rattle.app_tree.specs.View.{node_of}
use Rattle.app_check.proofs.Accepted.{table_within, draft_passes, draft_stands}
use Rattle.app_check.proofs.checking.without_cover.Goals as goal

pub new-table-requires : goal.new-table-requires
new-table-requires c = table_within c.in_ok-table.table (map written_item c.as_slice-written.result.now) (c.in_ok-table.ensures {u = tt}) (sym c.in-Ok-None.ensures ∙ c.in-Ok-None.field-0-is)

pub new-requires-in-Ok-None : goal.new-requires-in-Ok-None
new-requires-in-Ok-None c =
    let d = draft_shape_of c.args.draft.now in
    let items = map written_item c.as_slice-written.result.now in
    let same : items ≡ d.items = ap (map written_item) (c.as_slice-written.ensures ∙ c.items.ensures.items) in
    let table = c.in_ok-table.table in
    let numbered = c.new-table.result in
    record {
      draft = d;
      fits = c.items.ensures.fits;
      passes = draft_passes d table items same (c.in_ok-table.ensures {u = tt}) (sym c.in-Ok-None.ensures ∙ c.in-Ok-None.field-0-is);
      stands = draft_stands d numbered items c.budget.result (map node_of c.in_ok-items-in-Ok-None.items) same (c.new-table.ensures ∙ c.in_ok-table.ensures {u = tt}) c.budget.ensures c.in_ok-items-in-Ok-None.ensures;
    }
