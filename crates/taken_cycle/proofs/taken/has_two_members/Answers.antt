use Rattle.std.proofs.Common.{rules, ◌≡◌, ◌∙◌, ap, sym, nat_eq}
use Rattle.serde_json.specs.Data.{object}
use Rattle.serde_json.specs.View.{view, members_view}
use Rattle.serde_json.specs.declared.value.Value.{the_lemmas}
use Rattle.taken_cycle.specs.inner.TakenJson.{has_two_members}
use Rattle.taken_cycle.proofs.Members.{member_count-view}
use Rattle.taken_cycle.proofs.taken.has_two_members.Goals as goal

pub returns-in-Object : goal.returns-in-Object
returns-in-Object c =
    let seen : view c.args.json.now ≡ object (members_view c.in-Object.members.entries) = search (rules, the_lemmas) in
    ap (λ n. nat_eq n 2) (c.len.ensures.len ∙ sym (member_count-view c.in-Object.members.entries)) ∙ ap has_two_members (sym seen)
