-- A Leave that is the only one out.
use Rattle.std.proofs.Common.{◌≡◌, List, [], ◌∷◌, ◌++◌, refl, sym, ap, ◌∙◌, subst}
use Rattle.term_eval.specs.Lent.{Lent, IsOut, without}
use Rattle.term_eval.proofs.LentOut.{last_is_out, last_taken_off}

alone : (lent : Lent) (old new : List Lent) → old ≡ [] → new ≡ old ++ lent ∷ [] → new ≡ lent ∷ []
alone lent old new none one = one ∙ ap (λ out. out ++ lent ∷ []) none

pub alone_is_out : (lent : Lent) (old new : List Lent) → old ≡ [] → new ≡ old ++ lent ∷ [] → IsOut lent new
alone_is_out lent old new none one = subst (λ out. IsOut lent out) (sym (alone lent old new none one)) (last_is_out lent [] refl)

pub alone_given_up : (lent : Lent) (old new later : List Lent) → old ≡ [] → new ≡ old ++ lent ∷ [] → later ≡ without lent.key new → later ≡ []
alone_given_up lent old new later none one back =
    back ∙ ap (λ out. without lent.key out) (alone lent old new none one) ∙ last_taken_off lent [] refl
