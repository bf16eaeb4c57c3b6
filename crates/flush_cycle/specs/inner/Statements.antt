-- What holds of the terms and statements of an app's observers.
use Rattle.std.specs.Prelude.{ℕ, length}
use Rattle.app_tree.specs.Tree.{Tree, Trees, Act, Acts, Shape}
use Rattle.app_tree.specs.Numbering.{readers}
use Rattle.app_tree.specs.Cover.{reads_in, reads_in_all}
use Rattle.app_tree.specs.Trace.{Every}
use Rattle.app_laws.specs.Orderly.{reads_in_act, reads_in_acts, ReadsBelow, ReadsSources, IsNumbered, AreNumbered, IsNumberedAct, AreNumberedActs}
use Rattle.app_laws.specs.Statements.{FitsAct, FitActs}

-- they read expressions of the app and its own sources, and their isolated sites are numbered from some number on

pub record IsTermOf (app : Shape) (t : Tree) : Type 0 where
  pub reads : Every (ReadsBelow app (length (readers app))) (reads_in t)
  pub own : Every (ReadsSources app) (reads_in t)
  pub site : ℕ
  pub sites : IsNumbered site t

pub record AreTermsOf (app : Shape) (ts : Trees) : Type 0 where
  pub reads : Every (ReadsBelow app (length (readers app))) (reads_in_all ts)
  pub own : Every (ReadsSources app) (reads_in_all ts)
  pub site : ℕ
  pub sites : AreNumbered site ts

pub record IsActOf (app : Shape) (a : Act) : Type 0 where
  pub reads : Every (ReadsBelow app (length (readers app))) (reads_in_act a)
  pub own : Every (ReadsSources app) (reads_in_act a)
  pub site : ℕ
  pub sites : IsNumberedAct site a
  pub fits : FitsAct app a

pub record AreActsOf (app : Shape) (block : Acts) : Type 0 where
  pub reads : Every (ReadsBelow app (length (readers app))) (reads_in_acts block)
  pub own : Every (ReadsSources app) (reads_in_acts block)
  pub site : ℕ
  pub sites : AreNumberedActs site block
  pub fits : FitActs app block
