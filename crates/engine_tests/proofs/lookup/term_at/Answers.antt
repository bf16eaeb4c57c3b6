use Rattle.std.proofs.Common.{List, length, refl, subst, sym}
use Rattle.std.proofs.lemmas.Bool.{ltb-true}
use Rattle.std.proofs.lemmas.Option.{slice_get_read}
use Rattle.app_tree.specs.View.{act_of, acts_of_block}
use Rattle.app_tree.specs.declared.term.Read.{Read}
use Rattle.app_laws.specs.Orderly.{reads_in_act, reads_in_acts}
use Rattle.engine_tests.specs.inner.ObserverReads.{IsWithin}
use Rattle.engine_tests.proofs.TermsWithin.{under, within_block}
use Rattle.engine_tests.proofs.lookup.term_at.Goals as goal

pub returns-in-Some : goal.returns-in-Some
returns-in-Some c =
    let all = reads_in_acts (acts_of_block c.args.block.now) in
    let here : IsWithin (reads_in_act (act_of c.in-Some.statement.now)) all =
    within_block c.args.block.now c.args.place c.in-Some.statement.now
    (slice_get_read c.args.block.now (length c.args.block.now) c.args.place c.in-Some.statement.now refl
    (ltb-true c.args.place (length c.args.block.now) (sym c.in-Some.ensures.lookup.0)) c.in-Some.ensures.lookup.1) in
    under _ _ c.term_of.result (λ t same. subst (λ (reads : List Read). IsWithin reads all) same here) c.term_of.ensures
