use Rattle.std.proofs.Common.{◌≡◌, ◌∙◌, true, false, ap, sym, rules}
use Rattle.std.specs.Prelude.{unwrap_or}
use Rattle.rx_value.specs.declared.value.Value.TheVariants.{Null}
use Rattle.rx_value.specs.declared.source.SourceValue.TheVariants.{Plain}
use Rattle.rx_value.specs.Value.{source_eq}
use Rattle.rx_source.specs.Changing.{change_of}
use Rattle.rx_source.proofs.SameValues.{same_where_equal}
use Rattle.rx_source.proofs.sources.Sources.set.Goals as goal

pub returns-then-same-clause-equal : goal.returns-then-same-clause-equal
returns-then-same-clause-equal c =
    let test : source_eq c.get.result.now c.args.value ≡ true = search rules in
    same_where_equal _ _ _ (ap change_of (sym test) ∙ ap (λ v. change_of (source_eq (unwrap_or v (Plain Null)) c.args.value)) (sym c.get.ensures))

pub returns-clause-equal : goal.returns-clause-equal
returns-clause-equal c =
    let test : source_eq c.get.result.now c.args.value ≡ false = search rules in
    same_where_equal _ _ _ (ap change_of (sym test) ∙ ap (λ v. change_of (source_eq (unwrap_or v (Plain Null)) c.args.value)) (sym c.get.ensures))
