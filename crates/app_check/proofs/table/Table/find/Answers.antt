use Rattle.std.proofs.Common.{◌≡◌, rules}
use Rattle.app_tree.specs.Declarations.{declaration}
use Rattle.app_tree.specs.Sorts.{sorts_of}
use Rattle.app_check.specs.inner.Tables.{without_name}
use Rattle.app_check.proofs.Keyed.{place_within}
use Rattle.app_check.proofs.table.Table.find.Goals as goal

pub returns-clause-within : goal.returns-clause-within
returns-clause-within c =
    let is : c.copied.result ≡ without_name (declaration (sorts_of c.args.sought) c.args.name.now c.args.self.now) = search rules in
    place_within c.copied.result (sorts_of c.args.sought) c.args.name.now c.args.self.now is
