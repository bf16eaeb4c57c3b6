-- The canonical text of a draft is cut into the tokens of its canonical spelling.
use Rattle.std.proofs.Common.{◌∙◌, ◌≡◌, ℕ, List, ◌∷◌, ◌++◌, codes, length, refl, ap, arith, Bool, true, false, nat_eq, if◌then◌else◌, Ok}
use Rattle.std.specs.List.{list_all}
use Rattle.std.specs.Str.{IsUtf8}
use Rattle.std.specs.Fmt.{decimal}
use Rattle.std.proofs.lemmas.Bool.Decides.{nat_tests}
use Rattle.std.proofs.Math.Bool.{and-eq-true_iff}
use Rattle.app_tree.specs.declared.limits.TheConstants.{BUDGET_DEFAULT}
use Rattle.app_tokens.specs.declared.word.Word.TheVariants as word
use Rattle.app_tokens.specs.declared.token.Token.{Token}
use Rattle.app_tokens.specs.Tokens.{Tokens}
use Rattle.app_tokens.specs.Scan.{tokens_from, tokens_of}
use Rattle.app_tokens.proofs.Files.{whole_accepted}
use Rattle.app_tree.specs.DraftTree.{WrittenItem, DraftShape}
use Rattle.app_tree.specs.Fits.{is_natural, is_budget, item_fits, fits}
use Rattle.app_reader.specs.Spelling.{Wording, ends, either, spell_items, written_budget, spell_budget, spelling}
use Rattle.app_reader.proofs.FilesAgain.{canonical_is_read}
use Rattle.app_printer.specs.Canonical.{items_text, draft_text}
use Rattle.app_tree.specs.Unplaced.{unplaced}
use Rattle.app_check.specs.Words.{has_words}
use Rattle.app_printer.specs.Laws.{TokensAreSpelling, TextIsRead}
use Rattle.app_tree.proofs.Fitting.{fits_alike}
use Rattle.app_printer.proofs.TokenLaws.{Stands, Stands-blank, Stands-word, Stands-semicolon}
use Rattle.app_printer.proofs.Literals.{Stands-number}
use Rattle.app_printer.proofs.TermLaws.{regrouped, enclosed}
use Rattle.app_printer.proofs.ItemLaws.{first_stands, items_spelled}

budget_natural : (n : ℕ) → is_budget n ≡ true → is_natural n ≡ true
budget_natural n e = grind (arith, nat_tests)

budget_written : (total n : ℕ) (rest : List ℕ) (w : Wording) → is_budget n ≡ true → Stands total rest w
    → Stands total ((codes "budget " ++ decimal n ++ codes ";") ++ rest) (written_budget n w)
budget_written total n rest w fits behind =
    regrouped total _ _ _ (enclosed (codes "budget ") (decimal n) (codes ";") rest)
    (Stands-word total word.Budget (32 ∷ (decimal n ++ 59 ∷ rest)) _ refl (Stands-blank total 32 (decimal n ++ 59 ∷ rest) _ refl
    (Stands-number total n (59 ∷ rest) _ (budget_natural n fits) refl (Stands-semicolon total rest w behind))))

budget_stands : (total n : ℕ) (bytes : List ℕ) (w : Wording) → Stands total bytes (written_budget n w) → Stands total bytes (spell_budget n w)
budget_stands total n bytes w stands = each (nat_eq n BUDGET_DEFAULT)
  where
    each : (t : Bool) → Stands total bytes (if t then either (written_budget n w) w else written_budget n w)
    each true = first_stands total bytes (written_budget n w) w stands
    each false = stands

draft_spelled : (total : ℕ) (draft : DraftShape) → fits draft ≡ true → has_words draft ≡ true
    → (placed : DraftShape) × (unplaced placed ≡ unplaced draft) × Stands total (draft_text draft) (spelling placed)
draft_spelled total draft fit words =
    let f = (and-eq-true_iff (is_budget draft.budget) (list_all item_fits draft.items)).0 fit in
    let r = items_spelled total draft.items f.1 words in (
      record { budget = draft.budget; items = r.placed },
      ap (λ (xs : List WrittenItem). record { budget = draft.budget; items = xs }) r.same,
      budget_stands total draft.budget (draft_text draft) (spell_items r.placed ends)
          (budget_written total draft.budget (10 ∷ items_text draft.items) (spell_items r.placed ends) f.0 (Stands-blank total 10 (items_text draft.items) _ refl r.stands)),
    )

-- a whole text
cut_whole : (text : List ℕ) (tokens : List Token) → IsUtf8 text → tokens_from true 0 0 text ≡ Ok tokens
    → tokens_of text ≡ Ok (record { tokens = tokens; end = length text })
cut_whole text tokens utf8 cut = whole_accepted text text (Ok (record { tokens = tokens; end = length text })) refl utf8 cut refl

pub tokens_are_spelling : TokensAreSpelling
tokens_are_spelling draft fit words =
    let r = draft_spelled (length (draft_text draft)) draft fit words in
    let found = r.2.at 0 (omega arith) in
    (r.0, found.tokens, record { same = r.1; cut = cut_whole (draft_text draft) found.tokens r.2.utf8 found.cut; wanted = found.wanted })

pub text_is_read : TextIsRead
text_is_read draft fit words =
    let r = tokens_are_spelling draft fit words in
    let tokens : Tokens = record { tokens = r.1; end = length (draft_text draft) } in
    (tokens, r.0, record { cut = r.2.cut; is_read = canonical_is_read tokens r.0 (fits_alike r.0 draft r.2.same ∙ fit) r.2.wanted; same = r.2.same })
