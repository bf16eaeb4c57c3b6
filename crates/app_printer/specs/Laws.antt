-- The laws of printing: a canonical text is read as what it is the text of.
use Rattle.std.specs.Prelude.{ℕ, ◌≡◌, true, List, length, Ok}
use Rattle.app_tokens.specs.declared.token.Token.{Token}
use Rattle.app_tokens.specs.Tokens.{Tokens}
use Rattle.app_tokens.specs.Scan.{tokens_of}
use Rattle.app_tree.specs.Tree.{Shape}
use Rattle.app_tree.specs.DraftTree.{DraftShape}
use Rattle.app_tree.specs.Named.{named}
use Rattle.app_tree.specs.Fits.{fits}
use Rattle.app_reader.specs.Spelling.{AreWanted, canonical_spelling}
use Rattle.app_reader.specs.Items.{read_at}
use Rattle.app_tree.specs.Faults.{checked}
use Rattle.app_printer.specs.Canonical.{draft_text, canonical_text}
use Rattle.app_tree.specs.Unplaced.{unplaced}
use Rattle.app_tree.specs.Cover.{is_sound}
use Rattle.app_check.specs.Load.{checked_app}
use Rattle.app_check.specs.Words.{has_words}

-- the text of a draft is cut into the tokens of the draft's canonical spelling, at the places where they stand
pub record IsCutAs (draft placed : DraftShape) (tokens : List Token) : Type 0 where
  -- the draft, but for its places
  pub same : unplaced placed ≡ unplaced draft
  pub cut : tokens_of (draft_text draft) ≡ Ok (record { tokens = tokens; end = length (draft_text draft) })
  pub wanted : AreWanted (canonical_spelling placed) tokens

-- so is the text of each draft that a text can give, whose items are named by words that aren't reserved
abbrev pub TokensAreSpelling : Type 0
TokensAreSpelling = (draft : DraftShape) → fits draft ≡ true → has_words draft ≡ true
    → (placed : DraftShape) × (tokens : List Token) × IsCutAs draft placed tokens

-- the text of a draft is cut into tokens that are read as the draft, but for its places
pub record IsReadAs (text : List ℕ) (draft : DraftShape) (tokens : Tokens) (placed : DraftShape) : Type 0 where
  pub cut : tokens_of text ≡ Ok tokens
  pub is_read : read_at tokens ≡ Ok placed
  pub same : unplaced placed ≡ unplaced draft

abbrev pub TextIsRead : Type 0
TextIsRead = (draft : DraftShape) → fits draft ≡ true → has_words draft ≡ true
    → (tokens : Tokens) × (placed : DraftShape) × IsReadAs (draft_text draft) draft tokens placed

-- the draft in which an app is written has no places
abbrev pub NamedIsUnplaced : Type 0
NamedIsUnplaced = (app : Shape) → unplaced (named app) ≡ named app

-- the text of an app is cut into tokens that are read as a draft which no check refuses, and which stands for that app; only
-- its cached readers may be refused, where their keys don't cover their bodies
pub record ReadsBack (app : Shape) : Type 0 where
  pub tokens : Tokens
  pub draft : DraftShape
  pub cut : tokens_of (canonical_text app) ≡ Ok tokens
  pub is_read : read_at tokens ≡ Ok draft
  pub stands : checked draft ≡ Ok app
  pub accepted : is_sound app ≡ true → checked_app draft ≡ Ok app
