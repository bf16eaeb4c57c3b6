-- An app has few items, since one too many is refused.
use Rattle.std.proofs.Common.{◌≡◌, ◌≤◌, length, map, sym, ap, ◌∙◌, subst}
use Rattle.std.proofs.lemmas.List.{length-map}
use Rattle.app_tree.specs.declared.limits.TheConstants.{ITEM_LIMIT}
use Rattle.app_tree.specs.Held.{Held}
use Rattle.app_tree.specs.Declarations.{declarations}
use Rattle.app_tree.specs.Resolve.{resolved_item}
use Rattle.app_tree.specs.View.{node_of, shape_of}
use Rattle.app_tree.specs.WellFormed.{IsWellFormed}
use Rattle.app_tree.proofs.NoFaults.{draft_within}

pub few_items : (held : Held) → IsWellFormed (shape_of held) → length held.items ≤ ITEM_LIMIT
few_items held well =
    let items = well.draft.items in
    let same : length (map (resolved_item (declarations items)) items) ≡ length (map node_of held.items) = ap (λ app. length app.items) well.stands in
    subst (λ n. n ≤ ITEM_LIMIT) (sym (length-map items (resolved_item (declarations items))) ∙ same ∙ length-map held.items node_of) (draft_within well.draft well.passes)
