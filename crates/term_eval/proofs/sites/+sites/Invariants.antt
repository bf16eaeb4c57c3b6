use Rattle.std.proofs.Common.{◌≡◌, ◌+◌, drop}
use Rattle.app_tree.specs.View.{trees_of_terms}
use Rattle.app_tree.specs.Evaluate.{site_count_all}
use Rattle.term_eval.proofs.sites.+sites.Given as goal

abbrev pub invariant-sites_in_all-loop-term : goal.invariant-sites_in_all-loop-term
invariant-sites_in_all-loop-term l = l.count + site_count_all (trees_of_terms (drop l.term-index l.terms)) ≡ site_count_all (trees_of_terms l.terms)
