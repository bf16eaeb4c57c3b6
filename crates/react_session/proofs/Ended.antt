-- What a run has come to may be kept, and then the run has come to its end.
use Rattle.std.proofs.Common.{◌≡◌, ◌<◌, ℕ, Bool, true, false, List, [], ◌++◌, length, Option, Some, None, Ok, Err, refl, sym, ap, ◌∙◌, subst, append-nil}
use Rattle.std.proofs.lemmas.Bool.{false≢true}
use Rattle.std.proofs.lemmas.List.{length-replicate}
use Rattle.std.specs.Prelude.{◌||◌}
use Rattle.rx_value.specs.declared.value.Value.{Value}
use Rattle.rx_value.specs.declared.outcome.Outcome.{Outcome}
use Rattle.rx_value.specs.declared.key.Key.{Key}
use Rattle.app_tree.specs.declared.term.Read.{Read}
use Rattle.app_tree.specs.declared.term.Read.TheVariants as read
use Rattle.app_tree.specs.Tree.{Node, Shape}
use Rattle.app_tree.specs.Numbering.{readers, reader, is_expression, is_output, is_evaluated, starting_values, width_source, height_source}
use Rattle.app_tree.specs.Evaluate.{Answers, TraceEntry, Evaluation, after, evaluate}
use Rattle.app_tree.specs.Trace.{Every, OfRead, EveryRead}
use Rattle.app_tree.specs.Fresh.{is_among, sources_of_reads, is_expression_at, without_reads, evaluate_node}
use Rattle.app_tree.specs.Keys.{keys_result, keys_evaluation}
use Rattle.app_tree.specs.Cover.{Cached, cached_node, is_covered_by, keyed_outcome}
use Rattle.app_tree.specs.Wanted.{completed, first_wanted}
use Rattle.app_laws.specs.Orderly.{reads_in_node, ReadsBelow, ReadsSources, bound_of, IsOrderly}
use Rattle.app_laws.specs.Recorded.{recorded}
use Rattle.app_laws.proofs.Agreeing.{front}
use Rattle.app_laws.proofs.Covering.{covered_by}
use Rattle.app_laws.proofs.KnownLists.{get_in}
use Rattle.app_laws.proofs.WhatIsAsked.{every_zip, reads_zip, node_asks, recorded-append}
use Rattle.session_model.specs.Bodies.{one_if_values, bodies_counted}
use Rattle.session_model.specs.Run.{visit_expression, run_reader}
use Rattle.session_model.specs.Standing.{alive, KeptReader, KeptSession}
use Rattle.session_laws.proofs.Freshness.{outside_of}
use Rattle.session_laws.proofs.Proper.{orderly as orderly_of, covered as covered_of}
use Rattle.session_steps.specs.Keeping.{kept_known, open_site_of, answering, attempt, wanted, bodies_run, with_kept, reader_after, shown_outcome, IsAlike}
use Rattle.session_steps.specs.Bringing.{running, Brings, Begins, IsLost}
use Rattle.session_steps.proofs.AlikeSessions.{alike_itself, alike_trans, with_same}
use Rattle.session_steps.proofs.BodiesOnce.{below_apart}
use Rattle.session_steps.proofs.Forced.{force_stands}
use Rattle.session_steps.proofs.Keys.{keys_cover, bare_records, shown_evaluation, IsCachedNode, cached_is, node_split}
use Rattle.session_steps.proofs.KeyedBodies.{body_is_keyed}
use Rattle.session_steps.proofs.Outputs.{output_stands}
use Rattle.session_steps.proofs.Wanting.{first_wanted-append, IsLiveRead, live_all}
use Rattle.term_eval.specs.Bodies.{IsCached, IsUncached, keys_of, body_of}
use Rattle.term_eval.specs.declared.evaled.Evaled.TheVariants as evaled
use Rattle.dep_graph.specs.declared.on.On.{On}
use Rattle.react_session.specs.declared.attempt.Notes.{Notes}
use Rattle.react_session.specs.declared.attempt.Ran.{Ran}
use Rattle.react_session.specs.declared.attempt.KeysTried.TheVariants as keys
use Rattle.react_session.specs.declared.attempt.Tried.TheVariants as tried
use Rattle.react_session.specs.Holding.{StandsForSome}
use Rattle.react_session.specs.inner.Making.{MayRun, IsReady}
use Rattle.react_session.specs.inner.Storing.{members_reached, stored_kept, is_evaluated_at, MayReach, StandsInAnyOrder}
use Rattle.react_session.specs.inner.Trail.{on_of_read, AreNotes}
use Rattle.react_session.specs.inner.Tries.{Tries, TriesKeys, TriesBody}
use Rattle.react_session.proofs.EndedParts.{every_on, reads_members, failed_node, cached_some, uncached_counts, cached_counts}

-- what a run came to may be kept by these reads, these outcomes of sites and this outcome, and then the run has come to its end
pub record Ended (app : Shape) (n : ℕ) (s : KeptSession) (count : ℕ) (ons : List On) (sites : List (ℕ × Outcome)) (x : Outcome) : Type 0 where
  pub bodies : List ℕ
  pub counts : length bodies ≡ count
  pub reached : Every (MayReach app n s) ons
  pub stands : StandsInAnyOrder app (stored_kept n ons sites x s)
  pub brings : (s' : KeptSession) → IsAlike (stored_kept n ons sites x s) s' → Brings app running bodies n s s'
  pub begins : (s' : KeptSession) → IsLost n s s' → Begins app running bodies n s s'

-- the reader that is run
record IsEvaluated (app : Shape) (n : ℕ) : Type 0 where
  node : Node
  is : reader app n ≡ Some node
  evaluated : is_evaluated node ≡ true

evaluated_by : (app : Shape) (n : ℕ) (o : Option Node) → reader app n ≡ o → is_evaluated_at o ≡ true → IsEvaluated app n
evaluated_by app n None is h = absurd (false≢true h)
evaluated_by app n (Some i) is h = record { node = i; is = is; evaluated = h }

module _ (app : Shape) (n : ℕ) (s : KeptSession) (ready : IsReady app s) (run : MayRun app n s) where
  abbrev orderly : IsOrderly app
  orderly = orderly_of app ready.proper

  abbrev here : IsEvaluated app n
  here = evaluated_by app n (reader app n) refl run.evaluated

  abbrev bound : ℕ
  bound = bound_of app n here.node

  abbrev a : Answers
  a = completed (answering app s n)

  within : n < length s.readers
  within = subst (λ k. n < k) (sym ready.stands.stands.size) (get_in (readers app) n here.node here.is)

  -- ---- what is kept stands for a state

  stand_by : (bodies : List ℕ) (other : KeptSession) → Brings app running bodies n s other → (b : Bool) → is_expression here.node ≡ b → StandsForSome app other
  stand_by bodies other brings true x = record {
    state = (visit_expression app n ready.stands.state).state;
    stands = (force_stands app ready.proper s other ready.stands.state ready.stands.stands n here.node here.is x bodies
        (Brings.dead bodies n s other (run.dead (ap is_expression_at here.is ∙ x)) brings)).stands;
  }
  stand_by bodies other brings false x = record {
    state = (run_reader app n ready.stands.state).state;
    stands = (output_stands app ready.proper s other ready.stands.state ready.stands.stands n here.node here.is
        (subst (λ b. (b || is_output here.node) ≡ true) x here.evaluated) bodies brings).stands;
  }

  -- ---- what is read may be depended on

  abbrev MayRead : Read → Type 0
  MayRead r = MayReach app n s (on_of_read app r)

  -- an earlier expression, or a source of the app
  abbrev IsOwn : Read → Type 0
  IsOwn r = ReadsBelow app bound r × ReadsSources app r

  source_is : (k : ℕ) → k < length (starting_values app.items) → k < length s.values
  source_is k h = subst (λ z. k < z) (sym ready.sources) h

  may_read : (r : Read) → IsOwn r → IsLiveRead app s r → MayRead r
  may_read (read.Expr m) o live = (below_apart app orderly n here.node here.is m o.0, o.0.1, live)
  may_read (read.Input k) o live = source_is k o.1
  may_read (read.Value k) o live = source_is k o.1
  may_read (read.Status k) o live = source_is k o.1
  may_read (read.Result k) o live = source_is k o.1
  may_read (read.Width m) o live = source_is (width_source app m) o.1
  may_read (read.Height m) o live = source_is (height_source app m) o.1

  -- whatever the answers are
  asks_own : EveryRead IsOwn (attempt app s n).asked
  asks_own = subst (λ o. EveryRead IsOwn (evaluate_node o a).asked) (sym here.is)
      (node_asks a IsOwn here.node (orderly.sites n here.node here.is)
      (every_zip (ReadsBelow app bound) (ReadsSources app) IsOwn (λ r p q. (p, q)) (reads_in_node here.node) (orderly.reads n here.node here.is) (orderly.sources n here.node here.is)))

  -- where nothing is wanted
  all_may : (xs : List TraceEntry) → EveryRead IsOwn xs → first_wanted (answering app s n) xs ≡ None → EveryRead MayRead xs
  all_may xs o none = reads_zip IsOwn (IsLiveRead app s) MayRead may_read xs o (live_all app s (open_site_of app s n) xs none)

  -- ---- the end of a run

  module _ (e : Evaluation) (x : Outcome) (ons : List On) (sites : List (ℕ × Outcome)) (notes : AreNotes app (answering app s n) e ons sites) (may : Every MayRead e.outside) where
    abbrev kept : KeptReader
    kept = reader_after app s n e x

    -- what the run leaves in words of the evaluation, and by its notes
    stored_alike : IsAlike (with_kept n kept s) (stored_kept n ons sites x s)
    stored_alike = with_same s s (alike_itself s) n kept _ (record {
      dependence = λ k. reads_members s app e.outside [] [] (λ j. refl) k ∙ ap (λ os. is_among k (members_reached s os)) (sym notes.counted);
      isolated = sym notes.sites;
      outcome = refl;
    })

    -- whatever the run does, if this is what it leaves
    ended_by : (bodies : List ℕ) (count : ℕ) → length bodies ≡ count → ((s' : KeptSession) → IsAlike (with_kept n kept s) s' → Brings app running bodies n s s')
        → ((s' : KeptSession) → IsLost n s s' → Begins app running bodies n s s') → Ended app n s count ons sites x
    ended_by bodies count counts brings begins = record {
      bodies = bodies;
      counts = counts;
      reached = subst (Every (MayReach app n s)) (sym notes.counted) (every_on app (MayReach app n s) e.outside may [] tt);
      stands = λ other alike. stand_by bodies other (brings other (ends other alike)) (is_expression here.node) refl;
      brings = λ other alike. brings other (ends other alike);
      begins = begins;
    }
      where
        ends : (other : KeptSession) → IsAlike (stored_kept n ons sites x s) other → IsAlike (with_kept n kept s) other
        ends other alike = alike_trans (with_kept n kept s) (stored_kept n ons sites x s) other stored_alike alike

    -- nothing was wanted, and this is what the whole evaluation leaves
    whole_ended : wanted app s n ≡ None → kept ≡ reader_after app s n (attempt app s n) (attempt app s n).outcome → (count : ℕ) → bodies_counted (reader app n) a ≡ count → Ended app n s count ons sites x
    whole_ended none same count counts =
        ended_by (bodies_run app s n) count (length-replicate (bodies_counted (reader app n) a) n ∙ counts)
        (λ s' alike. Brings.ends n s s' none (subst (λ r. IsAlike (with_kept n r s) s') same alike))
        (λ s' lost. Begins.lost n s s' none lost)

  pub plain_ended : IsUncached (reader app n) → (ran : Ran) → Tries app s n (tried.Done ran) → Ended app n s 1 ran.reached ran.isolated ran.outcome
  plain_ended u ran h =
      whole_ended (attempt app s n) ran.outcome ran.reached ran.isolated h.2
      (outside_of app orderly n here.node here.is a MayRead (all_may (attempt app s n).asked asks_own h.0))
      h.0 (ap (λ z. reader_after app s n (attempt app s n) z) h.1) 1 (uncached_counts (reader app n) a u)

  -- ---- a reader with keys

  module _ (c : Cached) (cached : cached_node (reader app n) ≡ Some c) where
    abbrev K : Evaluation
    K = keys_evaluation c.keys a

    abbrev B : Evaluation
    B = evaluate c.body a []

    node : IsCachedNode (reader app n) c
    node = cached_is (reader app n) c cached

    keys_may : EveryRead IsOwn K.asked → first_wanted (answering app s n) K.asked ≡ None → Every MayRead K.outside
    keys_may o none = keys_cover a MayRead c.keys (node.numbered (orderly.sites n node.node node.is)) (all_may K.asked o none)

    -- one of them fails
    module _ (x : Outcome) (fails : keys_result c.keys a ≡ Err x) where
      -- the whole evaluation is that of the keys
      fails_so : attempt app s n ≡ record K { outcome = x }
      fails_so = failed_node (reader app n) c node a x fails

      failed_ended : (ons : List On) (sites : List (ℕ × Outcome)) → AreNotes app (answering app s n) K ons sites → first_wanted (answering app s n) K.asked ≡ None → Ended app n s 0 ons sites x
      failed_ended ons sites notes none =
          whole_ended K x ons sites notes (keys_may (subst (λ (e : Evaluation). EveryRead IsOwn e.asked) fails_so asks_own) none)
          (ap (λ (e : Evaluation). first_wanted (answering app s n) e.asked) fails_so ∙ none)
          (λ j. reader_after app s n (sym fails_so j) (sym fails_so j).outcome)
          0 (cached_counts (reader app n) c a cached ∙ ap one_if_values fails)

    -- all come to values
    module _ (xs : List Value) (values : keys_result c.keys a ≡ Ok xs) where
      -- the keys, and then the body, whose reads don't count
      split : attempt app s n ≡ shown_evaluation (reader app n) (after K (without_reads B))
      split = node_split (reader app n) c node a xs values

      keys_own : EveryRead IsOwn K.asked
      keys_own = front (OfRead IsOwn) K.asked B.asked (subst (λ (e : Evaluation). EveryRead IsOwn e.asked) split asks_own)

      found_ended : (ons : List On) (sites : List (ℕ × Outcome)) → AreNotes app (answering app s n) K ons sites → first_wanted (answering app s n) K.asked ≡ None
          → Ended app n s 0 ons sites (shown_outcome (reader app n) (keyed_outcome app n xs))
      found_ended ons sites notes none =
          ended_by K (shown_outcome (reader app n) (keyed_outcome app n xs)) ons sites notes (keys_may keys_own none) [] 0 refl
          (λ s' alike. Brings.hits n c xs s s' cached none values alike)
          (λ s' lost. Begins.none running n s s' lost)

      module _ (none : first_wanted (answering app s n) K.asked ≡ None) (body_none : first_wanted (answering app s n) B.asked ≡ None) where
        all_none : wanted app s n ≡ None
        all_none =
            ap (λ (e : Evaluation). first_wanted (answering app s n) e.asked) split
            ∙ first_wanted-append (answering app s n) K.asked B.asked none
            ∙ body_none

        -- it comes to what the values say
        keyed_so : B.outcome ≡ keyed_outcome app n xs
        keyed_so = body_is_keyed app ready.proper s ready.stands.state ready.stands.stands n c xs cached all_none values

        -- the body has no site
        records : recorded (open_site_of app s n) K.asked ≡ recorded (open_site_of app s n) (K.asked ++ B.asked)
        records = sym (recorded-append (open_site_of app s n) K.asked B.asked
            ∙ ap (λ l. recorded (open_site_of app s n) K.asked ++ l) (bare_records a c.body (covered_by app c (sym (ap (is_covered_by app) cached) ∙ covered_of app ready.proper n)).bare)
            ∙ append-nil (recorded (open_site_of app s n) K.asked))

        run_ended : (ons : List On) (sites : List (ℕ × Outcome)) → AreNotes app (answering app s n) K ons sites → (x : Outcome) → x ≡ B.outcome → Ended app n s 1 ons sites (shown_outcome (reader app n) x)
        run_ended ons sites notes x is =
            whole_ended K (shown_outcome (reader app n) x) ons sites notes (keys_may keys_own none) all_none
            ((λ j. record {
              dependence = alive (sources_of_reads app (kept_known s) [] (sym (append-nil K.outside) j));
              isolated = records j;
              outcome = shown_outcome (reader app n) (is j);
            })
            ∙ (λ j. reader_after app s n (sym split j) (sym split j).outcome))
            1 (cached_counts (reader app n) c a cached ∙ ap one_if_values values)

  -- ---- by what was tried

  -- the keys came to values
  record HasKeys (key : Key) (noted : Notes) : Type 0 where
    cached : Cached
    is : cached_node (reader app n) ≡ Some cached
    none : first_wanted (answering app s n) (keys_evaluation cached.keys a).asked ≡ None
    values : keys_result cached.keys a ≡ Ok key.parts
    notes : AreNotes app (answering app s n) (keys_evaluation cached.keys a) noted.reached noted.isolated

  has_keys : IsCached (reader app n) → (key : Key) (noted : Notes) → TriesKeys app s n (keys.Key key noted) → HasKeys key noted
  has_keys u key noted h =
      let c = cached_some (cached_node (reader app n)) u in
      record {
        cached = c.0;
        is = c.1;
        none = subst (λ o. first_wanted (answering app s n) (keys_evaluation (keys_of o) a).asked ≡ None) c.1 h.0;
        values = subst (λ o. keys_result (keys_of o) a ≡ Ok key.parts) c.1 h.2;
        notes = subst (λ o. AreNotes app (answering app s n) (keys_evaluation (keys_of o) a) noted.reached noted.isolated) c.1 h.3;
      }

  pub keys_ended : IsCached (reader app n) → (ran : Ran) → TriesKeys app s n (keys.Fails ran) → Ended app n s 0 ran.reached ran.isolated ran.outcome
  keys_ended u ran h =
      let c = cached_some (cached_node (reader app n)) u in
      failed_ended c.0 c.1 ran.outcome (subst (λ o. keys_result (keys_of o) a ≡ Err ran.outcome) c.1 h.1) ran.reached ran.isolated
      (subst (λ o. AreNotes app (answering app s n) (keys_evaluation (keys_of o) a) ran.reached ran.isolated) c.1 h.2)
      (subst (λ o. first_wanted (answering app s n) (keys_evaluation (keys_of o) a).asked ≡ None) c.1 h.0)

  pub hit_ended : IsCached (reader app n) → (key : Key) (noted : Notes) → TriesKeys app s n (keys.Key key noted)
      → Ended app n s 0 noted.reached noted.isolated (shown_outcome (reader app n) (keyed_outcome app n key.parts))
  hit_ended u key noted h =
      let k : HasKeys key noted = has_keys u key noted h in
      found_ended k.cached k.is key.parts k.values noted.reached noted.isolated k.notes k.none

  pub body_ended : IsCached (reader app n) → (key : Key) (noted : Notes) → TriesKeys app s n (keys.Key key noted) → (x : Outcome) → TriesBody app s n (evaled.Done x)
      → Ended app n s 1 noted.reached noted.isolated (shown_outcome (reader app n) x)
  body_ended u key noted h x b =
      let k : HasKeys key noted = has_keys u key noted h in
      run_ended k.cached k.is key.parts k.values k.none
      (subst (λ o. first_wanted (answering app s n) (evaluate (body_of o) a []).asked ≡ None) k.is b.0) noted.reached noted.isolated k.notes x
      (subst (λ o. x ≡ (evaluate (body_of o) a []).outcome) k.is b.1)

  -- it may be handed to a cache
  pub body_keyed : IsCached (reader app n) → (key : Key) (noted : Notes) → TriesKeys app s n (keys.Key key noted) → (x : Outcome) → TriesBody app s n (evaled.Done x) → x ≡ keyed_outcome app n key.parts
  body_keyed u key noted h x b =
      let k : HasKeys key noted = has_keys u key noted h in
      subst (λ o. x ≡ (evaluate (body_of o) a []).outcome) k.is b.1
      ∙ keyed_so k.cached k.is key.parts k.values k.none (subst (λ o. first_wanted (answering app s n) (evaluate (body_of o) a []).asked ≡ None) k.is b.0)
