-- Each item name of an app that a file stands for is a word that isn't reserved.
use Rattle.std.proofs.Common.{◌≡◌, ℕ, true, List, Result, Ok, Err, Option, Some, None, refl, sym, ◌∙◌, ap}
use Rattle.std.specs.Prelude.{IfOk}
use Rattle.app_tokens.specs.Tokens.{Tokens}
use Rattle.app_tokens.specs.Scan.{tokens_of}
use Rattle.app_tree.specs.declared.refusal.Refusal.{Refusal}
use Rattle.app_tree.specs.DraftTree.{DraftShape}
use Rattle.app_tree.specs.Tree.{Shape}
use Rattle.app_tree.specs.Held.{Held}
use Rattle.app_tree.specs.View.{shape_of}
use Rattle.app_tree.specs.Named.{named}
use Rattle.app_tree.specs.Unplaced.{unplaced}
use Rattle.app_tree.specs.Resolve.{resolved}
use Rattle.app_tree.specs.Faults.{faults, first_refusal, accepted_or, checked}
use Rattle.app_tree.proofs.Naming.{named_resolved}
use Rattle.app_reader.specs.declared.error.ReadError.{ReadError}
use Rattle.app_reader.specs.Items.{read_at}
use Rattle.app_reader.proofs.Cut.{cut_tokens_fit}
use Rattle.app_reader.proofs.FilesSound.{read_is_spelled}
use Rattle.app_check.specs.declared.error.LoadError.{LoadError}
use Rattle.app_check.specs.Load.{checked_app, app_of_draft}
use Rattle.app_check.specs.Words.{has_words}
use Rattle.app_check.proofs.Accepted.{none_found}
use Rattle.app_check.proofs.LastChecks.{passes_others}
use Rattle.app_check.proofs.ReadNames.{read_names}

-- a draft that no check refuses is, but for its places, the draft in which its app is written
named_checked : (d : DraftShape) (app : Shape) → checked d ≡ Ok app → named app ≡ unplaced d
named_checked d app e = by (first_refusal d) refl e
  where
    by : (first : Option Refusal) → first_refusal d ≡ first → accepted_or first (resolved d) ≡ Ok app → named app ≡ unplaced d
    by None is e =
        let same : resolved d ≡ app = cc in
        ap named (sym same) ∙ named_resolved d (none_found (faults d) is)
    by (Some r) is e = absurd cc

draft_has_words : (bytes : List ℕ) (s : Tokens) (d : DraftShape) (app : Shape) → tokens_of bytes ≡ Ok s → read_at s ≡ Ok d → checked_app d ≡ Ok app → has_words (named app) ≡ true
draft_has_words bytes s d app cut is_read e =
    ap has_words (named_checked d app (passes_others d app e))
    ∙ (let fit = cut_tokens_fit bytes s cut in read_names d s.tokens fit (read_is_spelled s d fit is_read).1)

read_has_words : (bytes : List ℕ) (s : Tokens) (app : Shape) → tokens_of bytes ≡ Ok s → app_of_draft (read_at s) ≡ Ok app → has_words (named app) ≡ true
read_has_words bytes s app cut e = by (read_at s) refl e
  where
    by : (r : Result DraftShape ReadError) → read_at s ≡ r → app_of_draft r ≡ Ok app → has_words (named app) ≡ true
    by (Ok d) is e = draft_has_words bytes s d app cut is e
    by (Err x) is e = absurd cc

-- what the code answers for a file's tokens has such names
pub answer_has_words : (bytes : List ℕ) (s : Tokens) (result : Result Held LoadError) → tokens_of bytes ≡ Ok s → IfOk result (λ app. app_of_draft (read_at s) ≡ Ok (shape_of app)) → IfOk result (λ app. has_words (named (shape_of app)) ≡ true)
answer_has_words bytes s (Ok app) cut is = read_has_words bytes s (shape_of app) cut is
answer_has_words bytes s (Err e) cut is = tt
