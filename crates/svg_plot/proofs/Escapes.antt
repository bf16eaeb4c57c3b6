-- The title, character by character.
use Rattle.std.proofs.Common.{◌≡◌, ℕ, ◌+◌, ◌<◌, List, [], ◌∷◌, ◌++◌, length, get_or, drop, sym, ap, ◌∙◌, append_assoc, arith}
use Rattle.std.proofs.lemmas.List.{append-nil, at_drop_more, at_drop_all, length_push}
use Rattle.std.specs.List.{flat_map}
use Rattle.rx_value.specs.Plot.{xml_escaped}

-- the rest begins with this turn's character
pub rest-turn : (cs yielded : List ℕ) (c : ℕ) → (length yielded < length cs) × (c ≡ get_or cs (length yielded) c) → flat_map xml_escaped (drop (length yielded) cs) ≡ xml_escaped c ++ flat_map xml_escaped (drop (length (yielded ++ c ∷ [])) cs)
rest-turn cs yielded c turn =
    at_drop_more (flat_map xml_escaped) cs (length yielded) c turn.0
    ∙ (ap (λ d. xml_escaped d ++ flat_map xml_escaped (drop (length yielded + 1) cs)) (sym turn.1)
    ∙ ap (λ n. xml_escaped c ++ flat_map xml_escaped (drop n cs)) (sym (length_push yielded c)))

pub title-turn : (cs yielded : List ℕ) (c : ℕ) (text new whole : List ℕ) → (length yielded < length cs) × (c ≡ get_or cs (length yielded) c) → new ≡ text ++ xml_escaped c → text ++ flat_map xml_escaped (drop (length yielded) cs) ≡ whole → new ++ flat_map xml_escaped (drop (length (yielded ++ c ∷ [])) cs) ≡ whole
title-turn cs yielded c text new whole turn written said =
    ap (λ t. t ++ flat_map xml_escaped (drop (length (yielded ++ c ∷ [])) cs)) written
    ∙ (append_assoc text (xml_escaped c) (flat_map xml_escaped (drop (length (yielded ++ c ∷ [])) cs)) ∙ (ap (λ r. text ++ r) (sym (rest-turn cs yielded c turn)) ∙ said))

pub title-end : (cs yielded text whole : List ℕ) → length yielded ≡ length cs → text ++ flat_map xml_escaped (drop (length yielded) cs) ≡ whole → text ≡ whole
title-end cs yielded text whole all said =
    sym (append-nil text) ∙ (sym (ap (λ r. text ++ r) (at_drop_all (flat_map xml_escaped) cs (length yielded) (omega arith))) ∙ said)
