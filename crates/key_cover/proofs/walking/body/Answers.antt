use Rattle.app_tree.specs.declared.limits.TheConstants.{ITEM_LIMIT}
use Rattle.app_tree.specs.View.{shape_of, tree_of, trees_of_terms}
use Rattle.std.proofs.Common.{◌∙◌, ap, arith}
use Rattle.key_cover.specs.Met.{met_in, met_below}
use Rattle.key_cover.proofs.Marks.{unmarked, none_of_some, cached_met}
use Rattle.key_cover.proofs.walking.body.Goals as goal

pub term-requires-clause-marked : goal.term-requires-clause-marked
term-requires-clause-marked c = unmarked (shape_of c.args.app.now) (trees_of_terms c.args.keys.now) ITEM_LIMIT (omega arith)

pub returns : goal.returns
returns c = cached_met (shape_of c.args.app.now) c.args.keys.now (tree_of c.args.body.now) c.term.result
    (λ none. none_of_some c.args.keys.now none (c.if-is_empty.ensures {u = tt}))
    (c.term.ensures.met ∙ ap (λ n. met_in (trees_of_terms c.args.keys.now) (met_below (shape_of c.args.app.now) (trees_of_terms c.args.keys.now) n) (tree_of c.args.body.now)) c.readers.ensures.value)
