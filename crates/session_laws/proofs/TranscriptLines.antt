-- The lines of bytes, from their front.
use Rattle.std.proofs.Common.{◌≡◌, ℕ, false, List, [], ◌∷◌, ◌++◌, refl, ap, ◌∙◌}
use Rattle.std.specs.Prelude.{◌==◌, if◌then◌else◌}
use Rattle.session_model.specs.Lines.{HasNoFeed, with_byte, with_line_byte, lines_of}

no_feed_byte : (b : ℕ) (more : List (List ℕ)) → (b == 10) ≡ false → with_line_byte b more ≡ with_byte b more
no_feed_byte b more e = ap (λ t. if t then [] ∷ more else with_byte b more) e

-- a line that ends
pub lines_of-feed : (line rest : List ℕ) → HasNoFeed line → lines_of (line ++ 10 ∷ rest) ≡ line ∷ lines_of rest
lines_of-feed [] rest h = refl
lines_of-feed (b ∷ line) rest h = no_feed_byte b _ h.0 ∙ ap (with_byte b) (lines_of-feed line rest h.1)

-- a last line without a line feed
pub lines_of-last : (b : ℕ) (line : List ℕ) → HasNoFeed (b ∷ line) → lines_of (b ∷ line) ≡ (b ∷ line) ∷ []
lines_of-last b [] h = no_feed_byte b [] h.0
lines_of-last b (c ∷ line) h = no_feed_byte b _ h.0 ∙ ap (with_byte b) (lines_of-last c line h.1)

-- bytes without a line feed begin the first line
pub record BeginsLine (line : List ℕ) (lines : List (List ℕ)) : Type 0 where
  pub more : List ℕ
  pub others : List (List ℕ)
  pub is : lines ≡ (line ++ more) ∷ others

begins_any : (b : ℕ) (lines : List (List ℕ)) → BeginsLine (b ∷ []) (with_byte b lines)
begins_any b [] = record { more = []; others = []; is = refl }
begins_any b (l ∷ ls) = record { more = l; others = ls; is = refl }

pub lines_of-begun : (b : ℕ) (line rest : List ℕ) → HasNoFeed (b ∷ line) → BeginsLine (b ∷ line) (lines_of ((b ∷ line) ++ rest))
lines_of-begun b [] rest h = let any = begins_any b (lines_of rest) in record { more = any.more; others = any.others; is = no_feed_byte b (lines_of rest) h.0 ∙ any.is }
lines_of-begun b (c ∷ line) rest h =
    let begun = lines_of-begun c line rest h.1 in
    record { more = begun.more; others = begun.others; is = no_feed_byte b _ h.0 ∙ ap (with_byte b) begun.is }

pub HasNoFeed-append : (xs ys : List ℕ) → HasNoFeed xs → HasNoFeed ys → HasNoFeed (xs ++ ys)
HasNoFeed-append [] ys p q = q
HasNoFeed-append (x ∷ xs) ys p q = (p.0, HasNoFeed-append xs ys p.1 q)
