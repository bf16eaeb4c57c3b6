use Rattle.std.proofs.Common.{◌+◌, drop}
use Rattle.app_tree.specs.View.{tree_of, trees_of_terms}
use Rattle.app_tree.specs.Evaluate.{site_count, site_count_all}
use Rattle.term_eval.proofs.SiteCounts.{sites_from, sites_behind, one_more, none_left}
use Rattle.term_eval.proofs.sites.+sites.Goals as goal

pub sites_in_all-loop-term-preserved : goal.sites_in_all-loop-term-preserved
sites_in_all-loop-term-preserved t c =
    one_more c.loop-term.count c.in_ok-sites_in.field-0 (site_count_all (trees_of_terms c.args.terms.now)) (site_count (tree_of c.term-item.result))
    (site_count_all (trees_of_terms (drop (c.loop-term.term-index + 1) c.args.terms.now))) (site_count_all (trees_of_terms (drop c.loop-term.term-index c.args.terms.now))) c.in_ok-count.count
    c.loop-term.invariant (sites_from c.args.terms.now c.loop-term.term-index c.term-item.result c.loop-term-test.true c.term-item.is) c.in_ok-sites_in.ensures c.in_ok-count.ensures

pub sites_in_all-returns : goal.sites_in_all-returns
sites_in_all-returns t c =
    none_left c.loop-term.count (site_count_all (trees_of_terms c.args.terms.now)) (site_count_all (trees_of_terms (drop c.loop-term.term-index c.args.terms.now)))
    c.loop-term.invariant (sites_behind c.args.terms.now c.loop-term.term-index c.loop-term-test.false)
