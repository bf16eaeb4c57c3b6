use Rattle.app_tree.specs.View.{shape_of, node_of, tree_of}
use Rattle.engine_tests.proofs.TermsWithin.{under, term_own}
use Rattle.engine_tests.proofs.lookup.observer_term.Goals as goal

pub returns-then-n-readers-clause-reads : goal.returns-then-n-readers-clause-reads
returns-then-n-readers-clause-reads c =
    under _ _ c.term_in.result
    (λ t of. (term_own (shape_of c.args.app.now) c.items-items.ensures.well_formed c.args.n (node_of c.reader.result.now) (tree_of t.now) c.reader.ensures of).below)
    c.term_in.ensures

pub returns-then-n-readers-clause-own : goal.returns-then-n-readers-clause-own
returns-then-n-readers-clause-own c =
    under _ _ c.term_in.result
    (λ t of. (term_own (shape_of c.args.app.now) c.items-items.ensures.well_formed c.args.n (node_of c.reader.result.now) (tree_of t.now) c.reader.ensures of).sources)
    c.term_in.ensures
