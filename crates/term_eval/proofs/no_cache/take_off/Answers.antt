use Rattle.std.proofs.Common.{◌≡◌, ◌∙◌, ap, sym, map, List, Some}
use Rattle.std.specs.Prelude.{position}
use Rattle.rx_value.specs.declared.key.Key.{Key}
use Rattle.rx_value.specs.Value.{key_eq}
use Rattle.term_eval.specs.Tickets.{lent_for}
use Rattle.term_eval.proofs.Taken.{without-first, without-none}
use Rattle.term_eval.proofs.no_cache.take_off.Goals as goal

pub returns-in-Some : goal.returns-in-Some
returns-in-Some c =
    let found : position (λ held. key_eq c.args.key.now held) c.args.claimed.now ≡ Some c.in-Some.place =
    ap (λ (ks : List Key). position (λ held. key_eq c.args.key.now held) ks) (sym c.as_slice.ensures) ∙ sym c.place_of.ensures ∙ c.in-Some.is in
    ap (λ (ks : List Key). map lent_for ks) c.remove.ensures.rest ∙ without-first c.args.key.now c.args.claimed.now c.in-Some.place found

pub returns-in_default : goal.returns-in_default
returns-in_default c =
    without-none c.args.key.now c.args.claimed.now
    (ap (λ (ks : List Key). position (λ held. key_eq c.args.key.now held) ks) (sym c.as_slice.ensures) ∙ sym c.place_of.ensures ∙ c.in_default.is)
