use Rattle.std.proofs.Common.{◌≡◌, ◌∙◌, map, rules, sym}
use Rattle.app_tree.specs.Numbering.{place_of}
use Rattle.app_tree.specs.View.{node_of}
use Rattle.app_tree.proofs.NumberLaws.{not_named}
use Rattle.app_tree.proofs.app.App.find.Goals as goal

pub returns-clause-none : goal.returns-clause-none
returns-clause-none c =
    let is : c.number_among.result ≡ place_of c.args.name.now (map node_of c.args.self.now.items) = search rules in
    let none = not_named c.args.name.now (map node_of c.args.self.now.items) in
    (λ e. none.0 (sym is ∙ e), λ e. is ∙ none.1 e)
