-- What holds of an observer's statements holds of their parts.
use Rattle.std.proofs.Common.{◌≡◌, ◌+◌, ◌++◌, length, sym, subst}
use Rattle.app_tree.specs.Tree.{Tree, Trees, tree, Act, branch, branch_else, Acts, no_acts, act, Shape}
use Rattle.app_tree.specs.Numbering.{readers}
use Rattle.app_tree.specs.Cover.{reads_in, reads_in_all}
use Rattle.app_tree.specs.Evaluate.{site_count}
use Rattle.app_laws.specs.Orderly.{reads_in_act, reads_in_acts, ReadsBelow, ReadsSources, act_sites, acts_sites}
use Rattle.app_laws.proofs.Agreeing.{front, back}
use Rattle.flush_cycle.specs.inner.Statements.{IsTermOf, AreTermsOf, IsActOf, AreActsOf}

module _ (app : Shape) where
  -- ---- terms

  pub first_term : (t : Tree) (more : Trees) → AreTermsOf app (tree t more) → IsTermOf app t
  first_term t more h = record {
    reads = front (ReadsBelow app (length (readers app))) (reads_in t) (reads_in_all more) h.reads;
    own = front (ReadsSources app) (reads_in t) (reads_in_all more) h.own;
    site = h.site;
    sites = h.sites.0;
  }

  pub later_terms : (t : Tree) (more : Trees) → AreTermsOf app (tree t more) → AreTermsOf app more
  later_terms t more h = record {
    reads = back (ReadsBelow app (length (readers app))) (reads_in t) (reads_in_all more) h.reads;
    own = back (ReadsSources app) (reads_in t) (reads_in_all more) h.own;
    site = h.site + site_count t;
    sites = h.sites.1;
  }

  -- ---- blocks

  pub first_act : (a : Act) (more : Acts) → AreActsOf app (act a more) → IsActOf app a
  first_act a more h = record {
    reads = front (ReadsBelow app (length (readers app))) (reads_in_act a) (reads_in_acts more) h.reads;
    own = front (ReadsSources app) (reads_in_act a) (reads_in_acts more) h.own;
    site = h.site;
    sites = h.sites.0;
    fits = h.fits.0;
  }

  pub later_acts : (a : Act) (more : Acts) → AreActsOf app (act a more) → AreActsOf app more
  later_acts a more h = record {
    reads = back (ReadsBelow app (length (readers app))) (reads_in_act a) (reads_in_acts more) h.reads;
    own = back (ReadsSources app) (reads_in_act a) (reads_in_acts more) h.own;
    site = h.site + act_sites a;
    sites = h.sites.1;
    fits = h.fits.1;
  }

  pub none_of_app : AreActsOf app no_acts
  none_of_app = record { reads = tt; own = tt; site = 0; sites = tt; fits = tt }

  -- ---- branches

  pub condition_alone : (t : Tree) (block : Acts) → IsActOf app (branch t block) → IsTermOf app t
  condition_alone t block h = record {
    reads = front (ReadsBelow app (length (readers app))) (reads_in t) (reads_in_acts block) h.reads;
    own = front (ReadsSources app) (reads_in t) (reads_in_acts block) h.own;
    site = h.site;
    sites = h.sites.0;
  }

  pub block_alone : (t : Tree) (block : Acts) → IsActOf app (branch t block) → AreActsOf app block
  block_alone t block h = record {
    reads = back (ReadsBelow app (length (readers app))) (reads_in t) (reads_in_acts block) h.reads;
    own = back (ReadsSources app) (reads_in t) (reads_in_acts block) h.own;
    site = h.site + site_count t;
    sites = h.sites.1;
    fits = h.fits;
  }

  module _ (t : Tree) (block other : Acts) (h : IsActOf app (branch_else t block other)) where
    pub condition_part : IsTermOf app t
    condition_part = record {
      reads = front (ReadsBelow app (length (readers app))) (reads_in t) (reads_in_acts block ++ reads_in_acts other) h.reads;
      own = front (ReadsSources app) (reads_in t) (reads_in_acts block ++ reads_in_acts other) h.own;
      site = h.site;
      sites = h.sites.0;
    }

    pub block_part : AreActsOf app block
    block_part = record {
      reads = front (ReadsBelow app (length (readers app))) (reads_in_acts block) (reads_in_acts other)
          (back (ReadsBelow app (length (readers app))) (reads_in t) (reads_in_acts block ++ reads_in_acts other) h.reads);
      own = front (ReadsSources app) (reads_in_acts block) (reads_in_acts other)
          (back (ReadsSources app) (reads_in t) (reads_in_acts block ++ reads_in_acts other) h.own);
      site = h.site + site_count t;
      sites = h.sites.1.0;
      fits = h.fits.0;
    }

    pub other_part : AreActsOf app other
    other_part = record {
      reads = back (ReadsBelow app (length (readers app))) (reads_in_acts block) (reads_in_acts other)
          (back (ReadsBelow app (length (readers app))) (reads_in t) (reads_in_acts block ++ reads_in_acts other) h.reads);
      own = back (ReadsSources app) (reads_in_acts block) (reads_in_acts other)
          (back (ReadsSources app) (reads_in t) (reads_in_acts block ++ reads_in_acts other) h.own);
      site = h.site + site_count t + acts_sites block;
      sites = h.sites.1.1;
      fits = h.fits.1;
    }

  -- ---- statements as the code has them

  pub parts_alone : (a : Act) (t : Tree) (block slice : Acts) → a ≡ branch t block → slice ≡ block → IsActOf app a
      → IsTermOf app t × (AreActsOf app slice × AreActsOf app no_acts)
  parts_alone a t block slice is same h =
      let k : IsActOf app (branch t block) = subst (IsActOf app) is h in
      (condition_alone t block k, (subst (AreActsOf app) (sym same) (block_alone t block k), none_of_app))

  pub parts_both : (a : Act) (t : Tree) (block other slice rest : Acts) → a ≡ branch_else t block other → slice ≡ block → rest ≡ other
      → IsActOf app a → IsTermOf app t × (AreActsOf app slice × AreActsOf app rest)
  parts_both a t block other slice rest is same alike h =
      let k : IsActOf app (branch_else t block other) = subst (IsActOf app) is h in
      (condition_part t block other k, (subst (AreActsOf app) (sym same) (block_part t block other k), subst (AreActsOf app) (sym alike) (other_part t block other k)))
