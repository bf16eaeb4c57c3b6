use Rattle.std.proofs.Common.{◌≡◌, ◌<◌, ℕ, Bool, true, false, List, length, refl, sym, ap, ◌∙◌, subst}
use Rattle.std.specs.Prelude.{Result, not, ◌&&◌}
use Rattle.std.proofs.lemmas.Bool.{false≢true}
use Rattle.std.proofs.lemmas.Result.{err_from_is_err_and}
use Rattle.rx_value.specs.declared.memory.Memory.{Memory}
use Rattle.rx_value.specs.declared.outcome.Outcome.{Outcome}
use Rattle.app_tree.specs.Tree.{Tree}
use Rattle.app_tree.specs.View.{shape_of, tree_of}
use Rattle.app_tree.specs.Numbering.{readers}
use Rattle.app_tree.specs.Cover.{reads_in}
use Rattle.app_tree.specs.Trace.{Every}
use Rattle.app_laws.specs.Orderly.{ReadsBelow}
use Rattle.session_model.specs.Standing.{KeptSession}
use Rattle.session_steps.specs.Keeping.{IsAlike}
use Rattle.session_steps.specs.Bringing.{reading, IsLost}
use Rattle.session_steps.specs.Acting.{term_kept}
use Rattle.dep_graph.specs.declared.on.On.{On}
use Rattle.dep_graph.specs.Contexts.{is_current}
use Rattle.react_session.specs.Keeping.{Keeping}
use Rattle.app_laws.specs.Orderly.{ReadsSources}
use Rattle.react_session.specs.Terms.{TermComes}
use Rattle.react_session.specs.inner.Making.{dead_below}
use Rattle.react_session.proofs.TermsReached.{observer_within, IsObserving, observing}
use Rattle.react_session.proofs.Made.{lost_nowhere}
use Rattle.react_session.proofs.StaysPut.{made_put}
use Rattle.react_session.proofs.TermsCome.{brings_running, notes_reached, notes_stand, notes_counted, nothing_counts, term_ends, term_lost, wanted_expression, wanted_fewer, term_within, term_waits}
use Rattle.react_session.proofs.session.Session.+term.Goals as goal
use Rattle.react_session.proofs.session.Session.+term.Goals.{then-not-isolated, else-not-isolated, then-counts+in_ok-reach-in-Done, else-counts}

counts_current : (isolated current told counts : Bool) → isolated ≡ false → told ≡ current → counts ≡ told → counts ≡ (not isolated && current)
counts_current isolated current told counts e h is = is ∙ h ∙ ap (λ b. not b && current) (sym e)

counts_never : (isolated current counts : Bool) → isolated ≡ true → counts ≡ not isolated → counts ≡ (not isolated && current)
counts_never isolated current counts e is = is ∙ ap not e ∙ ap (λ b. not b && current) (sym e)

-- where it counts, the term isn't isolated and no change has overtaken the observer
counts_both : (isolated current counts : Bool) → counts ≡ (not isolated && current) → counts ≡ true → (isolated ≡ false) × (current ≡ true)
counts_both false current counts is h = (refl, sym is ∙ h)
counts_both true current counts is h = absurd (false≢true (sym is ∙ h))

counts_not : (isolated current counts : Bool) → counts ≡ (not isolated && current) → counts ≡ false → isolated ≡ false → current ≡ false
counts_not false current counts is h e = sym is ∙ h
counts_not true current counts is h e = absurd (false≢true (sym e))

pub is_current-counts-requires : goal.is_current-counts-requires
is_current-counts-requires g t c =
    let s = c.self.inside in
    let whole = c.self.invariant.whole (ap (λ (z : Keeping). z.whole) c.self.view_is ∙ c.requires.whole) in
    let observed = ap (λ (z : Keeping). z.session.running) c.self.view_is ∙ c.requires.runs in
    observer_within (shape_of s.app.value) s.sources s.graph s.kept.items s.observer s.whole c.args.n c.self.invariant whole observed

pub reach-requires-clause-lives : goal.reach-requires-clause-lives
reach-requires-clause-lives g t c =
    let s = c.self.inside in
    let k : Keeping = c.args.self.now in
    let current : Bool = is_current s.graph c.args.n in
    let o : IsObserving k c.args.n current = observing s.app.value s.sources s.graph s.kept.items s.observer s.whole c.args.n k c.self.invariant c.self.view_is c.requires.whole c.requires.runs in
    let counts : Bool = c.if-not-isolated.counts in
    let is : counts ≡ (not c.args.isolated && current) = elim c.if-not-isolated.branch [
      | then-not-isolated w ↦ counts_current c.args.isolated current w.is_current-counts.result counts w.if-not-isolated.true w.is_current-counts.ensures w.counts-is
      | else-not-isolated w ↦ counts_never c.args.isolated current counts w.if-not-isolated.false w.counts-is
    ] in
    o.live ∙ (counts_both c.args.isolated current counts is c.if-counts.true).1

pub reach-requires-clause-reached : goal.reach-requires-clause-reached
reach-requires-clause-reached g t c =
    let s = c.self.inside in
    let k : Keeping = c.args.self.now in
    let o : IsObserving k c.args.n (is_current s.graph c.args.n) = observing s.app.value s.sources s.graph s.kept.items s.observer s.whole c.args.n k c.self.invariant c.self.view_is c.requires.whole c.requires.runs in
    let told = c.in-Done.ensures in
    let reached : List On = c.as_slice.result.now in
    notes_reached (shape_of k.app) c.args.n k.session (tree_of c.args.term.now) c.requires.reads o.proper c.requires.own o.sources o.stands c.requires.runs told.0 reached (c.as_slice.ensures ∙ told.2.counted)

pub reach-requires-clause-stands : goal.reach-requires-clause-stands
reach-requires-clause-stands g t c =
    let s = c.self.inside in
    let k : Keeping = c.args.self.now in
    let current : Bool = is_current s.graph c.args.n in
    let o : IsObserving k c.args.n current = observing s.app.value s.sources s.graph s.kept.items s.observer s.whole c.args.n k c.self.invariant c.self.view_is c.requires.whole c.requires.runs in
    let counts : Bool = c.if-not-isolated.counts in
    let is : counts ≡ (not c.args.isolated && current) = elim c.if-not-isolated.branch [
      | then-not-isolated w ↦ counts_current c.args.isolated current w.is_current-counts.result counts w.if-not-isolated.true w.is_current-counts.ensures w.counts-is
      | else-not-isolated w ↦ counts_never c.args.isolated current counts w.if-not-isolated.false w.counts-is
    ] in
    let told = c.in-Done.ensures in
    let reached : List On = c.as_slice.result.now in
    notes_stand (shape_of k.app) c.args.n k.session (tree_of c.args.term.now) c.requires.reads o.proper c.requires.own o.sources o.stands c.requires.runs told.0 reached (c.as_slice.ensures ∙ told.2.counted)
    (o.live ∙ (counts_both c.args.isolated current counts is c.if-counts.true).1)

pub returns-in_err-reach-in-Done-clause-comes : goal.returns-in_err-reach-in-Done-clause-comes
returns-in_err-reach-in-Done-clause-comes g t c =
    let k : Keeping = c.args.self.now in
    let new : Keeping = c.reach.new.self in
    let steps : ℕ = c.args.steps.now in
    let p = err_from_is_err_and c.from_residual.result c.from_residual.ensures.1 in
    subst (λ (r : Result Outcome Memory). TermComes (shape_of k.app) c.args.n c.args.isolated (tree_of c.args.term.now) k.session new.session steps steps r) (sym p.1)
    (term_lost (shape_of k.app) c.args.n k.session (tree_of c.args.term.now) c.requires.reads c.args.isolated new.session steps steps p.0 c.in_err-reach-in-Done.ensures.lost refl)

pub settle-requires-clause-expression : goal.settle-requires-clause-expression
settle-requires-clause-expression g t c =
    let k : Keeping = c.args.self.now in
    wanted_expression (shape_of k.app) c.args.n k.session (tree_of c.args.term.now) c.requires.reads c.in-Wants.m c.in-Wants.ensures

pub returns-in_err-settle-in-Wants-clause-comes : goal.returns-in_err-settle-in-Wants-clause-comes
returns-in_err-settle-in-Wants-clause-comes g t c =
    let k : Keeping = c.args.self.now in
    let new : Keeping = c.settle.new.self in
    let before : ℕ = c.args.steps.now in
    let after : ℕ = c.settle.new.steps in
    let p = err_from_is_err_and c.from_residual-in_err-settle-in-Wants.result c.from_residual-in_err-settle-in-Wants.ensures.1 in
    subst (λ (r : Result Outcome Memory). TermComes (shape_of k.app) c.args.n c.args.isolated (tree_of c.args.term.now) k.session new.session before after r) (sym p.1)
    (term_within (shape_of k.app) c.args.n k.session (tree_of c.args.term.now) c.requires.reads c.in-Wants.m c.in-Wants.ensures c.args.isolated new.session before after p.0 c.in_err-settle-in-Wants.ensures.comes)

pub term-requires : goal.term-requires
term-requires g t c κs within =
    let s = c.self.inside in
    let k : Keeping = c.args.self.now in
    let new : Keeping = c.settle.new.self in
    let tree : Tree = tree_of c.args.term.now in
    let o : IsObserving k c.args.n (is_current s.graph c.args.n) = observing s.app.value s.sources s.graph s.kept.items s.observer s.whole c.args.n k c.self.invariant c.self.view_is c.requires.whole c.requires.runs in
    let made = c.in_ok-settle-in-Wants.ensures in
    let same : k.app ≡ new.app = sym made.app in
    let before : dead_below (length (readers (shape_of k.app))) k.session ≡ t = c.decreases in
    let fewer : dead_below (length (readers (shape_of k.app))) new.session < dead_below (length (readers (shape_of k.app))) k.session =
    wanted_fewer (shape_of k.app) c.args.n k.session tree c.requires.reads c.in-Wants.m c.in-Wants.ensures o.proper o.stands.stands.size new.session made.comes.bodies made.comes.brings in
    let falls : dead_below (length (readers (shape_of new.app))) new.session < t =
    subst (λ h. dead_below (length (readers (shape_of h))) new.session < t) same (subst (λ z. dead_below (length (readers (shape_of k.app))) new.session < z) before fewer) in
    let runs = brings_running (shape_of k.app) reading made.comes.bodies c.in-Wants.m k.session new.session made.comes.brings ∙ c.requires.runs in
    let reads = subst (λ h. Every (ReadsBelow (shape_of h) (length (readers (shape_of h)))) (reads_in tree)) same c.requires.reads in
    let own = subst (λ h. Every (ReadsSources (shape_of h)) (reads_in tree)) same c.requires.own in
    let of_app = g.met.A.Asker.same_app c.args.asker.now c.settle.new.asker made.succeeds ∙ c.requires.of_app ∙ ap shape_of same in
    (falls, (within.0, (within.1.0, (within.1.1, (runs, (reads, (own, (made.whole, (of_app, made.leaves ∙ c.requires.none_out)))))))))

pub returns-after-counts-clause-comes : goal.returns-after-counts-clause-comes
returns-after-counts-clause-comes g t c =
    let s = c.self.inside in
    let k : Keeping = c.args.self.now in
    let new : Keeping = c.if-counts.self in
    let steps : ℕ = c.args.steps.now in
    let tree : Tree = tree_of c.args.term.now in
    let current : Bool = is_current s.graph c.args.n in
    let o : IsObserving k c.args.n current = observing s.app.value s.sources s.graph s.kept.items s.observer s.whole c.args.n k c.self.invariant c.self.view_is c.requires.whole c.requires.runs in
    let counts : Bool = c.if-not-isolated.counts in
    let is : counts ≡ (not c.args.isolated && current) = elim c.if-not-isolated.branch [
      | then-not-isolated w ↦ counts_current c.args.isolated current w.is_current-counts.result counts w.if-not-isolated.true w.is_current-counts.ensures w.counts-is
      | else-not-isolated w ↦ counts_never c.args.isolated current counts w.if-not-isolated.false w.counts-is
    ] in
    let told = c.in-Done.ensures in
    let alike : IsAlike (term_kept (shape_of k.app) c.args.n c.args.isolated tree k.session) new.session = elim c.if-counts.branch [
      | then-counts+in_ok-reach-in-Done w ↦
          let both = counts_both c.args.isolated current counts is w.if-counts.true in
          let reached : List On = w.as_slice.result.now in
          let left : Keeping = w.reach.new.self in
          subst (λ (z : Keeping). IsAlike (term_kept (shape_of k.app) c.args.n c.args.isolated tree k.session) z.session) (sym w.self-is)
          (subst (λ b. IsAlike (term_kept (shape_of k.app) c.args.n b tree k.session) left.session) (sym both.0)
          (notes_counted (shape_of k.app) c.args.n k.session tree c.requires.reads o.proper c.requires.own o.sources o.stands c.requires.runs told.0 reached (w.as_slice.ensures ∙ told.2.counted)
          (o.live ∙ both.1) left.session w.in_ok-reach-in-Done.ensures.reached))
      | else-counts w ↦
          subst (λ (z : Keeping). IsAlike (term_kept (shape_of k.app) c.args.n c.args.isolated tree k.session) z.session) (sym w.self-is)
          (nothing_counts (shape_of k.app) c.args.n k.session tree c.requires.reads o.proper c.requires.own o.sources o.stands c.requires.runs told.0 c.args.isolated
          (λ h. o.live ∙ counts_not c.args.isolated current counts is w.if-counts.false h))
    ] in
    term_ends (shape_of k.app) c.args.n k.session tree c.requires.reads c.args.isolated new.session steps steps c.in-Done.ran.outcome told.0 told.1 alike refl

pub returns-in_ok-settle-in-Wants-clause-comes : goal.returns-in_ok-settle-in-Wants-clause-comes
returns-in_ok-settle-in-Wants-clause-comes g t c =
    let k : Keeping = c.args.self.now in
    let new : Keeping = c.settle.new.self in
    let last : Keeping = c.term.new.self in
    let before : ℕ = c.args.steps.now in
    let between : ℕ = c.settle.new.steps in
    let after : ℕ = c.term.new.steps in
    let tree : Tree = tree_of c.args.term.now in
    let made = c.in_ok-settle-in-Wants.ensures in
    let rest : TermComes (shape_of k.app) c.args.n c.args.isolated tree new.session last.session between after c.term.result =
    subst (λ h. TermComes (shape_of h) c.args.n c.args.isolated tree new.session last.session between after c.term.result) made.app c.term.ensures.comes in
    term_waits (shape_of k.app) c.args.n k.session tree c.requires.reads c.in-Wants.m c.in-Wants.ensures c.args.isolated new.session last.session before between after c.term.result made.comes rest

pub returns-in-Memory-clause-comes : goal.returns-in-Memory-clause-comes
returns-in-Memory-clause-comes g t c =
    let k : Keeping = c.args.self.now in
    let new : Keeping = c.lose.new.self in
    let steps : ℕ = c.args.steps.now in
    term_lost (shape_of k.app) c.args.n k.session (tree_of c.args.term.now) c.requires.reads c.args.isolated new.session steps steps (record {})
    (subst (λ (z : KeptSession). IsLost c.args.n k.session z) (sym c.lose.ensures.session) (lost_nowhere c.args.n k.session)) refl

pub returns-in_err-settle-in-Wants-clause-values : goal.returns-in_err-settle-in-Wants-clause-values
returns-in_err-settle-in-Wants-clause-values g t c = (made_put _ _ _ _ _ _ _ c.settle.result c.settle.ensures.comes).values

pub returns-in_err-settle-in-Wants-clause-running : goal.returns-in_err-settle-in-Wants-clause-running
returns-in_err-settle-in-Wants-clause-running g t c = (made_put _ _ _ _ _ _ _ c.settle.result c.settle.ensures.comes).running

pub returns-in_ok-settle-in-Wants-clause-values : goal.returns-in_ok-settle-in-Wants-clause-values
returns-in_ok-settle-in-Wants-clause-values g t c = c.term.ensures.values ∙ (made_put _ _ _ _ _ _ _ c.settle.result c.settle.ensures.comes).values

pub returns-in_ok-settle-in-Wants-clause-running : goal.returns-in_ok-settle-in-Wants-clause-running
returns-in_ok-settle-in-Wants-clause-running g t c = c.term.ensures.running ∙ (made_put _ _ _ _ _ _ _ c.settle.result c.settle.ensures.comes).running
