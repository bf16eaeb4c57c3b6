-- What `remove` leaves of a map, as members.
use Rattle.std.proofs.Common.{◌≡◌, ℕ, List, [], ◌∷◌, Bool, true, false, cond, String, Global, string_bytes, nat_cmp, refl, ◌∙◌}
use Rattle.std.proofs.lemmas.Map.Text.{is_eq-slice_cmp}
use Rattle.std.specs.BTreeMap.{is_at}
use Rattle.std.specs.Cmp.Lexicographic.{slice_cmp}
use Rattle.std.specs.Map.{remove_entry}
use Rattle.serde_json.specs.View.{members_view}
use Rattle.serde_json.specs.declared.value.Value.{Value}
use Rattle.shiny_json.specs.Values.{without_member}

members_view-cond : (b : Bool) (xs ys : List (String Global × Value)) → members_view (cond b xs ys) ≡ cond b (members_view xs) (members_view ys)
members_view-cond true xs ys = refl
members_view-cond false xs ys = refl

pub members_view-remove_entry : (name : List ℕ) (es : List (String Global × Value)) → members_view (remove_entry (is_at (λ k. slice_cmp nat_cmp name (string_bytes k))) es) ≡ without_member name (members_view es)
members_view-remove_entry name [] = refl
members_view-remove_entry name (e ∷ es) =
    members_view-cond _ es (e ∷ remove_entry (is_at (λ k. slice_cmp nat_cmp name (string_bytes k))) es)
    ∙ rw (is_eq-slice_cmp name (string_bytes e.0), members_view-remove_entry name es)
