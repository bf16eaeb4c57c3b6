use Rattle.std.proofs.Common.{◌∙◌, ap}
use Rattle.app_tree.specs.View.{trees_of_terms}
use Rattle.taken_cycle.specs.Built.{is_uncached}
use Rattle.taken_cycle.proofs.Building.{some_keys}
use Rattle.taken_cycle.proofs.forms.is_uncached.Goals as goal

pub returns-in-len1-up : goal.returns-in-len1-up
returns-in-len1-up c = some_keys c.as_slice.result.now c.in-len1-up.len_at_least ∙ ap (λ ts. is_uncached (trees_of_terms ts)) c.as_slice.ensures
