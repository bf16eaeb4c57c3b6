-- What is made of one part after another.
use Rattle.std.proofs.Common.{◌≡◌, ℕ, ◌+◌, ◌<◌, ◌≤◌, List, [], ◌∷◌, ◌++◌, length, get_or, drop, refl, sym, ◌∙◌, ap, add_assoc, add-zero}
use Rattle.std.proofs.lemmas.List.{drop_all}
use Rattle.app_tree.specs.declared.term.Term.{Term}
use Rattle.app_tree.specs.declared.statement.Statement.{Statement}
use Rattle.app_tree.specs.declared.draft_term.DraftTerm.{DraftTerm}
use Rattle.app_tree.specs.declared.draft_item.DraftStatement.{DraftStatement}
use Rattle.app_tree.specs.Tree as app
use Rattle.app_tree.specs.Tree.{Trees, Acts}
use Rattle.app_tree.specs.View.{tree_of, trees_of_terms, act_of, acts_of_block}
use Rattle.app_tree.specs.DraftView.{draft_tree_of, draft_trees_of, draft_act_of, draft_acts_of}
use Rattle.app_check.specs.inner.Resolving.{Resolving, behind_sites, tree_made, trees_made, act_made, acts_made}
use Rattle.app_check.specs.inner.Joined.{joined, joined_made, joined_acts, joined_acts_made}
use Rattle.app_check.proofs.Walked.{left_at}

pub behind_more : (r : Resolving) (m n : ℕ) → behind_sites (behind_sites r m) n ≡ behind_sites r (m + n)
behind_more r m n = ap (λ s. record r { site = s }) (add_assoc r.site m n)

-- ---- terms

joined_push : (made : List Term) (t : Term) (more : Trees) → joined (trees_of_terms (made ++ t ∷ [])) more ≡ joined (trees_of_terms made) (app.tree (tree_of t) more)
joined_push [] t more = refl
joined_push (x ∷ made) t more = ap (app.tree (tree_of x)) (joined_push made t more)

joined_end : (ts : Trees) → joined ts app.no_trees ≡ ts
joined_end app.no_trees = refl
joined_end (app.tree t ts) = ap (app.tree t) (joined_end ts)

-- a term that is pushed, and what is made of the rest, are what is made of both
terms_joined : (made : List Term) (t : Term) (r next : Resolving) (written : DraftTerm) (rest : List DraftTerm) → (tree_of t, next) ≡ tree_made r (draft_tree_of written)
    → joined_made (trees_of_terms (made ++ t ∷ [])) (trees_made next (draft_trees_of rest)) ≡ joined_made (trees_of_terms made) (trees_made r (draft_trees_of (written ∷ rest)))
terms_joined made t r next written rest e =
    ap (λ ts. (ts, (trees_made next (draft_trees_of rest)).1)) (joined_push made t (trees_made next (draft_trees_of rest)).0)
    ∙ ap (λ p. (joined (trees_of_terms made) (app.tree p.0 (trees_made p.1 (draft_trees_of rest)).0), (trees_made p.1 (draft_trees_of rest)).1)) e
    ∙ ap (λ s. (joined (trees_of_terms made) (trees_made r (draft_trees_of (written ∷ rest))).0, s)) (behind_more r _ _)

pub terms_made_step : (made new : List Term) (t : Term) (r next : Resolving) (ts : List DraftTerm) (i : ℕ) (written : DraftTerm) (total : Trees × Resolving)
    → i < length ts → written ≡ get_or ts i written → (tree_of t, next) ≡ tree_made r (draft_tree_of written) → new ≡ made ++ t ∷ []
    → joined_made (trees_of_terms made) (trees_made r (draft_trees_of (drop i ts))) ≡ total
    → joined_made (trees_of_terms new) (trees_made next (draft_trees_of (drop (i + 1) ts))) ≡ total
terms_made_step made new t r next ts i written total within is e pushed invariant =
    ap (λ m. joined_made (trees_of_terms m) (trees_made next (draft_trees_of (drop (i + 1) ts)))) pushed
    ∙ terms_joined made t r next written (drop (i + 1) ts) e
    ∙ ap (λ left. joined_made (trees_of_terms made) (trees_made r (draft_trees_of left))) (sym (left_at ts i written within is))
    ∙ invariant

pub terms_made_end : (made : List Term) (r : Resolving) (ts : List DraftTerm) (i : ℕ) (total : Trees × Resolving) → length ts ≤ i
    → joined_made (trees_of_terms made) (trees_made r (draft_trees_of (drop i ts))) ≡ total → (trees_of_terms made, r) ≡ total
terms_made_end made r ts i total at_end invariant =
    ap (λ ts. (ts, r)) (sym (joined_end (trees_of_terms made)))
    ∙ ap (λ s. (joined (trees_of_terms made) app.no_trees, s)) (sym (no_more r))
    ∙ ap (λ left. joined_made (trees_of_terms made) (trees_made r (draft_trees_of left))) (sym (drop_all i ts at_end))
    ∙ invariant
  where
    no_more : (r : Resolving) → behind_sites r 0 ≡ r
    no_more r = ap (λ s. record r { site = s }) (add-zero r.site)

-- ---- statements

acts_push : (made : List Statement) (s : Statement) (more : Acts) → joined_acts (acts_of_block (made ++ s ∷ [])) more ≡ joined_acts (acts_of_block made) (app.act (act_of s) more)
acts_push [] s more = refl
acts_push (x ∷ made) s more = ap (app.act (act_of x)) (acts_push made s more)

acts_end : (block : Acts) → joined_acts block app.no_acts ≡ block
acts_end app.no_acts = refl
acts_end (app.act a block) = ap (app.act a) (acts_end block)

acts_joined : (made : List Statement) (s : Statement) (r next : Resolving) (written : DraftStatement) (rest : List DraftStatement) → (act_of s, next) ≡ act_made r (draft_act_of written)
    → joined_acts_made (acts_of_block (made ++ s ∷ [])) (acts_made next (draft_acts_of rest)) ≡ joined_acts_made (acts_of_block made) (acts_made r (draft_acts_of (written ∷ rest)))
acts_joined made s r next written rest e =
    ap (λ block. (block, (acts_made next (draft_acts_of rest)).1)) (acts_push made s (acts_made next (draft_acts_of rest)).0)
    ∙ ap (λ p. (joined_acts (acts_of_block made) (app.act p.0 (acts_made p.1 (draft_acts_of rest)).0), (acts_made p.1 (draft_acts_of rest)).1)) e
    ∙ ap (λ x. (joined_acts (acts_of_block made) (acts_made r (draft_acts_of (written ∷ rest))).0, x)) (behind_more r _ _)

pub acts_made_step : (made new : List Statement) (s : Statement) (r next : Resolving) (ss : List DraftStatement) (i : ℕ) (written : DraftStatement) (total : Acts × Resolving)
    → i < length ss → written ≡ get_or ss i written → (act_of s, next) ≡ act_made r (draft_act_of written) → new ≡ made ++ s ∷ []
    → joined_acts_made (acts_of_block made) (acts_made r (draft_acts_of (drop i ss))) ≡ total
    → joined_acts_made (acts_of_block new) (acts_made next (draft_acts_of (drop (i + 1) ss))) ≡ total
acts_made_step made new s r next ss i written total within is e pushed invariant =
    ap (λ m. joined_acts_made (acts_of_block m) (acts_made next (draft_acts_of (drop (i + 1) ss)))) pushed
    ∙ acts_joined made s r next written (drop (i + 1) ss) e
    ∙ ap (λ left. joined_acts_made (acts_of_block made) (acts_made r (draft_acts_of left))) (sym (left_at ss i written within is))
    ∙ invariant

pub acts_made_end : (made : List Statement) (r : Resolving) (ss : List DraftStatement) (i : ℕ) (total : Acts × Resolving) → length ss ≤ i
    → joined_acts_made (acts_of_block made) (acts_made r (draft_acts_of (drop i ss))) ≡ total → (acts_of_block made, r) ≡ total
acts_made_end made r ss i total at_end invariant =
    ap (λ block. (block, r)) (sym (acts_end (acts_of_block made)))
    ∙ ap (λ x. (joined_acts (acts_of_block made) app.no_acts, x)) (sym (no_more r))
    ∙ ap (λ left. joined_acts_made (acts_of_block made) (acts_made r (draft_acts_of left))) (sym (drop_all i ss at_end))
    ∙ invariant
  where
    no_more : (r : Resolving) → behind_sites r 0 ≡ r
    no_more r = ap (λ s. record r { site = s }) (add-zero r.site)
