use Rattle.std.proofs.Common.{ℕ, List, map, sym, ◌∙◌, subst, ap}
use Rattle.std.proofs.lemmas.Result.{IfOk-weaker}
use Rattle.pending_set.specs.Ranking.{IsPrecedence}
use Rattle.pending_set.proofs.Precedence.{precedence}
use Rattle.pending_set.proofs.order.precedence.Goals as goal

pub returns : goal.returns
returns c =
    let priorities = c.args.priorities.now in
    let sorted = precedence priorities c.in_ok-entries.entries.items c.sort_unstable.new.self.items c.in_ok-entries.ensures c.sort_unstable.ensures.permutation c.sort_unstable.ensures.sorted in
    let numbers : List ℕ → Type 0 = λ (xs : List ℕ). IsPrecedence priorities xs in
    IfOk-weaker c.numbers.result _ _ (λ v is. subst numbers (sym (is ∙ ap (map (λ e. e.1)) c.as_slice.ensures.value)) sorted) c.numbers.ensures
