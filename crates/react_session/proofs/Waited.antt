-- What the evaluation of a reader wants can be made alive first, and then there is less left to do for the reader: what its
-- keys came to stays as it was.
use Rattle.std.proofs.Common.{◌≡◌, ◌≢◌, inl, inr, ◌<◌, ◌≤◌, ℕ, zero, suc, ◌+◌, Bool, true, false, List, [], ◌∷◌, ◌++◌, length, Option, Some, None, Ok, refl, sym, ap, ◌∙◌, subst, arith, append_assoc, append-nil}
use Rattle.std.proofs.lemmas.Bool.Decides.{eqb_tells}
use Rattle.std.specs.Prelude.{⊤, IsSome, if◌then◌else◌, unwrap_or}
use Rattle.rx_value.specs.declared.key.Key.{Key}
use Rattle.rx_value.specs.declared.value.Value.{Value}
use Rattle.rx_value.specs.declared.outcome.Outcome.{Outcome}
use Rattle.rx_value.specs.declared.outcome.Outcome.TheVariants.{Val, Fail, Stop, Cancel, Running}
use Rattle.app_tree.specs.declared.term.Read.{Read}
use Rattle.app_tree.specs.declared.term.Read.TheVariants as read
use Rattle.app_tree.specs.Tree.{Tree, Trees, no_trees, tree, Node, Shape}
use Rattle.app_tree.specs.Numbering.{readers, reader, is_expression}
use Rattle.app_tree.specs.Cover.{Cached, cached_node}
use Rattle.app_tree.specs.Current.{CurrentValues, told}
use Rattle.app_tree.specs.Evaluate.{Answers, TraceEntry, reads, given, enters, leaves, Evaluation, then_by, evaluate, evaluate_all}
use Rattle.app_tree.specs.Fresh.{is_expression_at, cached, evaluate_node, without_reads}
use Rattle.app_tree.specs.Keys.{keys_result, keys_evaluation}
use Rattle.app_tree.specs.Trace.{Every, OfRead, EveryRead}
use Rattle.app_tree.specs.Wanted.{Answering, completed, wanted_by, first_wanted}
use Rattle.app_laws.specs.AskedLaws.{IsAnsweredAlike}
use Rattle.app_laws.specs.Orderly.{ReadsBelow, bound_of, IsOrderly}
use Rattle.app_laws.specs.Recorded.{recorded}
use Rattle.app_laws.proofs.WellOrdered.{well_formed_is_orderly}
use Rattle.app_laws.proofs.WhatIsAsked.{every_map, reads_map, if_true}
use Rattle.session_model.specs.Standing.{KeptReader, KeptSession, kept_reader}
use Rattle.session_model.specs.Run.{visit_expression}
use Rattle.session_laws.proofs.Moving.{not_both}
use Rattle.session_laws.proofs.Walking.{expression_of}
use Rattle.session_steps.specs.Keeping.{lives, outcome_if_alive, kept_answer, open_site_of, answering, attempt, wanted, keys_attempt, with_kept, reader_after, IsAlike}
use Rattle.session_steps.specs.Bringing.{Aim, reading, running, Brings}
use Rattle.session_steps.proofs.Attempts.{wanted_dead}
use Rattle.session_steps.proofs.BodiesOnce.{goes, Goes, wanted_below}
use Rattle.session_steps.proofs.Forced.{beyond, force_stands}
use Rattle.session_steps.proofs.KeptReaders.{kept_there}
use Rattle.session_steps.proofs.Keys.{keys_alone, keys_agree, keys_same, IsCachedNode, cached_is, node_split}
use Rattle.session_steps.proofs.Wanting.{IsLiveRead, live_all, first_wanted-append, first_wanted-front}
use Rattle.term_eval.specs.Bodies.{IsCached, keys_of, body_of}
use Rattle.term_eval.specs.declared.evaled.Evaled.TheVariants as evaled
use Rattle.react_session.specs.declared.attempt.KeysTried.TheVariants as keys
use Rattle.react_session.specs.declared.attempt.Notes.{Notes}
use Rattle.react_session.specs.inner.Making.{bound_at, dead_below, MayRun, IsReady}
use Rattle.react_session.specs.inner.Storing.{is_evaluated_at}
use Rattle.react_session.specs.inner.Trail.{with_reads}
use Rattle.react_session.specs.inner.Tries.{keys_at, keys_trial, body_at, TriesKeys, TriesBody}
use Rattle.react_session.proofs.Tried.{cached_sites}

-- what is wanted is an expression that reader n may read, and isn't alive
pub record Waits (app : Shape) (n m : ℕ) (s : KeptSession) : Type 0 where
  pub wants : wanted app s n ≡ Some (read.Expr m)
  pub expression : is_expression_at (reader app m) ≡ true
  pub below : bound_at app m < bound_at app n
  pub dead : lives s m ≡ false
  -- what is left to do for it is less
  pub fewer : dead_below (bound_at app m) s < dead_below (bound_at app n) s

-- once it is alive
pub record Waited (app : Shape) (n m : ℕ) (s s' : KeptSession) : Type 0 where
  pub ready : IsReady app s'
  pub run : MayRun app n s'
  pub fewer : dead_below (bound_at app n) s' < dead_below (bound_at app n) s
  pub keeps : (key : Key) (noted : Notes) → IsCached (reader app n) → TriesKeys app s n (keys.Key key noted) → TriesKeys app s' n (keys.Key key noted)

-- ---- readers

evaluated_some : (o : Option Node) → is_evaluated_at o ≡ true → (i : Node) × (o ≡ Some i)
evaluated_some None h = cc
evaluated_some (Some i) h = (i, refl)

cached_some : (o : Option Cached) → IsSome o → (c : Cached) × (o ≡ Some c)
cached_some None h = cc
cached_some (Some c) h = (c, refl)

-- an expression's bound is its number
own_bound : (app : Shape) (n : ℕ) → is_expression_at (reader app n) ≡ true → bound_at app n ≡ n
own_bound app n h = if_true (is_expression_at (reader app n)) n (length (readers app)) h

bound_is : (app : Shape) (n : ℕ) (i : Node) → reader app n ≡ Some i → bound_at app n ≡ bound_of app n i
bound_is app n i is = ap (λ o. if is_expression_at o then n else length (readers app)) is

-- ---- how many aren't alive

dead_more : (s : KeptSession) (j k : ℕ) → j ≤ k → dead_below j s ≤ dead_below k s
dead_more s j zero h = let none : j ≡ 0 = omega (h, arith) in subst (λ z. dead_below z s ≤ 0) (sym none) (omega arith)
dead_more s j (suc k) h = elim (eqb_tells j (suc k)) [
  | inl p ↦ subst (λ z. dead_below z s ≤ dead_below (suc k) s) (sym p.1) (omega arith)
  | inr p ↦ let apart = p.1 in let rest : dead_below j s ≤ dead_below k s = dead_more s j k (omega (h, apart, arith)) in omega (rest, arith)
]

dead_here : (s : KeptSession) (m : ℕ) → lives s m ≡ false → dead_below m s < dead_below (suc m) s
dead_here s m h = subst (λ b. dead_below m s < dead_below m s + (if b then 0 else 1)) (sym h) (omega arith)

-- one that isn't alive counts above itself
dead_above : (s : KeptSession) (m k : ℕ) → lives s m ≡ false → m < k → dead_below m s < dead_below k s
dead_above s m k h low =
    let one = dead_here s m h in
    let more : dead_below (suc m) s ≤ dead_below k s = dead_more s (suc m) k (omega (low, arith)) in
    omega (one, more, arith)

module _ (s s' : KeptSession) (stay : (j : ℕ) → lives s j ≡ true → lives s' j ≡ true) where
  dead_one : (b b' : Bool) → (b ≡ true → b' ≡ true) → (if b' then 0 else 1) ≤ (if b then 0 else 1)
  dead_one true true h = omega arith
  dead_one true false h = let no : false ≡ true = h refl in cc
  dead_one false true h = omega arith
  dead_one false false h = omega arith

  dead_less : (k : ℕ) → dead_below k s' ≤ dead_below k s
  dead_less zero = omega arith
  dead_less (suc k) = let rest = dead_less k in let one = dead_one (lives s k) (lives s' k) (stay k) in omega (rest, one, arith)

  pub dead_fewer : (m k : ℕ) → lives s m ≡ false → lives s' m ≡ true → m < k → dead_below k s' < dead_below k s
  dead_fewer m zero dead live low = absurd (omega (low, arith))
  dead_fewer m (suc k) dead live low = elim (eqb_tells m k) [
    | inl p ↦
        let gone : ◌≡◌ {A = ℕ} (if lives s' k then 0 else 1) 0 = ap (λ b. if b then 0 else 1) (subst (λ z. lives s' z ≡ true) p.1 live) in
        let was : ◌≡◌ {A = ℕ} (if lives s k then 0 else 1) 1 = ap (λ b. if b then 0 else 1) (subst (λ z. lives s z ≡ false) p.1 dead) in
        let rest = dead_less k in
        omega (gone, was, rest, arith)
    | inr p ↦
        let apart = p.1 in
        let rest : dead_below k s' < dead_below k s = dead_fewer m k dead live (omega (low, apart, arith)) in
        let one = dead_one (lives s k) (lives s' k) (stay k) in
        omega (rest, one, arith)
  ]

-- ---- what stays as readers are made alive

-- but for the reader that is run
abbrev IsApartFrom : Aim → ℕ → ℕ → Type 0
IsApartFrom reading n j = ⊤
IsApartFrom running n j = j ≢ n

record Stays (aim : Aim) (n : ℕ) (s s' : KeptSession) : Type 0 where
  values : s'.values ≡ s.values
  outcomes : (j : ℕ) → lives s j ≡ true → IsApartFrom aim n j → (kept_reader s' j).outcome ≡ (kept_reader s j).outcome

written_stays : (n : ℕ) (r : KeptReader) (s s' : KeptSession) → IsAlike (with_kept n r s) s' → Stays running n s s'
written_stays n r s s' a = record {
  values = sym a.values;
  outcomes = λ j h d. sym (a.readers j).outcome ∙ ap (λ (x : KeptReader). x.outcome) (kept_there s n j r d);
}

live_apart : (s : KeptSession) (n j : ℕ) → lives s n ≡ false → lives s j ≡ true → j ≢ n
live_apart s n j dead live e = not_both (subst (λ z. lives s z ≡ true) e live) dead

stays : (app : Shape) (orderly : IsOrderly app) (aim : Aim) (bodies : List ℕ) (n : ℕ) (s s' : KeptSession) → Brings app aim bodies n s s' → length s.readers ≡ length (readers app)
    → (i : Node) → reader app n ≡ Some i → Stays aim n s s'
stays app orderly _ _ _ _ _ (Brings.living n s l) size i is = record { values = refl; outcomes = λ j h d. refl }
stays app orderly _ _ _ _ _ (Brings.dead bodies n s s' d b) size i is =
    let g : Stays running n s s' = stays app orderly running bodies n s s' b size i is in
    record { values = g.values; outcomes = λ j h u. g.outcomes j h (live_apart s n j d h) }
stays app orderly _ _ _ _ _ (Brings.ends n s s' none a) size i is = written_stays n (reader_after app s n (attempt app s n) (attempt app s n).outcome) s s' a
stays app orderly _ _ _ _ _ (Brings.hits n c xs s s' cached none values a) size i is = written_stays n (reader_after app s n (keys_attempt app s n c) _) s s' a
stays app orderly _ _ _ _ _ (Brings.waits earlier later n m s s' s'' w b c) size i is =
    let low = wanted_below app orderly s n i is m w in
    let e = expression_of app m low.1 in
    let g : Goes app orderly reading m (bound_of app m e.0) earlier s s' = goes app orderly reading earlier m s s' b size e.0 e.1 in
    let first : Stays reading m s s' = stays app orderly reading earlier m s s' b size e.0 e.1 in
    let second : Stays running n s' s'' = stays app orderly running later n s' s'' c (g.size ∙ size) i is in
    record {
      values = second.values ∙ first.values;
      outcomes = λ j h d. second.outcomes j (g.keeps j h) d ∙ first.outcomes j h tt;
    }

-- ---- what is answered

wanted_alike : (a b : Answering) (xs : List TraceEntry) → EveryRead (λ r. a.read r ≡ b.read r) xs → first_wanted a xs ≡ first_wanted b xs
wanted_alike a b [] h = refl
wanted_alike a b (reads r ∷ xs) h = (λ j. wanted_by (h.0 j) r (wanted_alike a b xs h.1 j))
wanted_alike a b (given s ∷ xs) h = wanted_alike a b xs h.1
wanted_alike a b (enters s ∷ xs) h = wanted_alike a b xs h.1
wanted_alike a b (leaves s x ∷ xs) h = wanted_alike a b xs h.1

completed_alike : (a b : Answering) → a.site ≡ b.site → (x : TraceEntry) → OfRead (λ r. a.read r ≡ b.read r) x → IsAnsweredAlike (completed a) (completed b) x
completed_alike a b same (reads r) h = ap (λ o. unwrap_or o Stop) h
completed_alike a b same (given s) h = ap (λ f. f s) same
completed_alike a b same (enters s) h = ap (λ f. f s) same
completed_alike a b same (leaves s o) h = tt

-- ---- the keys come first

-- a trace begins with another one
record Begins (front whole : List TraceEntry) : Type 0 where
  rest : List TraceEntry
  is : whole ≡ front ++ rest

begin_on : (e : Evaluation) (o : Outcome) (front whole : Value → Evaluation) → ((x : Value) → Begins (front x).asked (whole x).asked) → Begins (then_by e o front).asked (then_by e o whole).asked
begin_on e (Val x) front whole h = let b = h x in record { rest = b.rest; is = ap (λ l. e.asked ++ l) b.is ∙ sym (append_assoc e.asked (front x).asked b.rest) }
begin_on e (Fail z) front whole h = record { rest = []; is = sym (append-nil e.asked) }
begin_on e Stop front whole h = record { rest = []; is = sym (append-nil e.asked) }
begin_on e Cancel front whole h = record { rest = []; is = sym (append-nil e.asked) }
begin_on e Running front whole h = record { rest = []; is = sym (append-nil e.asked) }

keys_begin : (a : Answers) (ts : Trees) (done : List Value) (next : List Value → Evaluation) → Begins (evaluate_all ts a [] done keys_alone).asked (evaluate_all ts a [] done next).asked
keys_begin a no_trees done next = record { rest = (next done).asked; is = refl }
keys_begin a (tree t more) done next =
    begin_on (evaluate t a []) (evaluate t a []).outcome (λ x. evaluate_all more a [] (done ++ x ∷ []) keys_alone) (λ x. evaluate_all more a [] (done ++ x ∷ []) next) (λ x. keys_begin a more (done ++ x ∷ []) next)

-- the keys of a cached reader, and then its body
cached_begins : (keys : Trees) (body : Tree) (a : Answers) (key : Tree) (more : Trees) → keys ≡ tree key more → Begins (keys_evaluation keys a).asked (cached keys body a).asked
cached_begins keys body a key more first =
    subst (λ ks. Begins (keys_evaluation ks a).asked (cached ks body a).asked) (sym first) (keys_begin a (tree key more) [] (λ ys. without_reads (evaluate body a [])))

node_begins : (o : Option Node) (c : Cached) → IsCachedNode o c → (a : Answers) → Begins (keys_evaluation c.keys a).asked (evaluate_node o a).asked
node_begins o c n a = subst (λ (e : Evaluation). Begins (keys_evaluation c.keys a).asked e.asked) (sym (n.evaluated a)) (cached_begins c.keys c.body a n.key n.more n.first)

-- ---- what the calls go by

-- ---- what waits

module _ (app : Shape) (n : ℕ) (s : KeptSession) (ready : IsReady app s) (run : MayRun app n s) where
  abbrev orderly : IsOrderly app
  orderly = well_formed_is_orderly app ready.proper.well_formed

  node : (i : Node) × (reader app n ≡ Some i)
  node = evaluated_some (reader app n) run.evaluated

  pub plain_waits : (m : ℕ) → wanted app s n ≡ Some (read.Expr m) → Waits app n m s
  plain_waits m w =
      let low : ReadsBelow app (bound_of app n node.0) (read.Expr m) = wanted_below app orderly s n node.0 node.1 m w in
      let dead = wanted_dead app orderly s n node.0 node.1 m w in
      let own = own_bound app m low.1 in
      let bound = bound_is app n node.0 node.1 in
      let under = low.0 in
      let below : bound_at app m < bound_at app n = omega (own, bound, under, arith) in
      let lower : m < bound_at app n = omega (bound, under, arith) in
      record {
        wants = w;
        expression = low.1;
        below = below;
        dead = dead;
        fewer = subst (λ k. dead_below k s < dead_below (bound_at app n) s) (sym own) (dead_above s m (bound_at app n) dead lower);
      }

  -- ---- of a cached reader

  module _ (u : IsCached (reader app n)) where
    behind : (c : Cached) × (cached_node (reader app n) ≡ Some c)
    behind = cached_some (cached_node (reader app n)) u

    is_cached : IsCachedNode (reader app n) behind.0
    is_cached = cached_is (reader app n) behind.0 behind.1

    keys_are : keys_at app n ≡ behind.0.keys
    keys_are = ap keys_of behind.1

    body_is : body_at app n ≡ behind.0.body
    body_is = ap body_of behind.1

  -- what its keys want
  pub keys_wait : (m : ℕ) → IsCached (reader app n) → TriesKeys app s n (keys.Wants m) → Waits app n m s
  keys_wait m u w =
      let a : Answering = answering app s n in
      let c : Cached = (behind u).0 in
      let b : Begins (keys_evaluation c.keys (completed a)).asked (attempt app s n).asked = node_begins (reader app n) c (is_cached u) (completed a) in
      let first : first_wanted a (keys_evaluation c.keys (completed a)).asked ≡ Some (read.Expr m) = ap (λ ks. first_wanted a (keys_evaluation ks (completed a)).asked) (sym (keys_are u)) ∙ w in
      plain_waits m (ap (first_wanted a) b.is ∙ first_wanted-front a (keys_evaluation c.keys (completed a)).asked b.rest (read.Expr m) first)

  -- what its body wants, where its keys all come to values
  pub body_waits : (m : ℕ) (key : Key) (noted : Notes) → IsCached (reader app n) → TriesKeys app s n (keys.Key key noted)
      → TriesBody app s n (evaled.Wants m) → Waits app n m s
  body_waits m key noted u k w =
      let a : Answering = answering app s n in
      let c : Cached = (behind u).0 in
      let values : keys_result c.keys (completed a) ≡ Ok key.parts = ap (λ ks. keys_result ks (completed a)) (sym (keys_are u)) ∙ k.2 in
      let none : first_wanted a (keys_evaluation c.keys (completed a)).asked ≡ None = ap (λ ks. first_wanted a (keys_evaluation ks (completed a)).asked) (sym (keys_are u)) ∙ k.0 in
      let body : first_wanted a (evaluate c.body (completed a) []).asked ≡ Some (read.Expr m) = ap (λ t. first_wanted a (evaluate t (completed a) []).asked) (sym (body_is u)) ∙ w in
      plain_waits m
      (ap (λ (e : Evaluation). first_wanted a e.asked) (node_split (reader app n) c (is_cached u) (completed a) key.parts values)
      ∙ first_wanted-append a (keys_evaluation c.keys (completed a)).asked (evaluate c.body (completed a) []).asked none ∙ body)

  -- ---- once it is alive

  module _ (m : ℕ) (s' : KeptSession) (bodies : List ℕ) (waits : Waits app n m s) (brings : Brings app reading bodies m s s') where
    e : (i : Node) × (reader app m ≡ Some i) × (is_expression i ≡ true)
    e = expression_of app m waits.expression

    size : length s.readers ≡ length (readers app)
    size = ready.stands.stands.size

    gone : Goes app orderly reading m (bound_of app m e.0) bodies s s'
    gone = goes app orderly reading bodies m s s' brings size e.0 e.1

    still : Stays reading m s s'
    still = stays app orderly reading bodies m s s' brings size e.0 e.1

    ready_again : IsReady app s'
    ready_again = record {
      proper = ready.proper;
      sources = ap (λ (v : CurrentValues). length v) still.values ∙ ready.sources;
      stands = record {
        state = (visit_expression app m ready.stands.state).state;
        stands = (force_stands app ready.proper s s' ready.stands.state ready.stands.stands m e.0 e.1 e.2 bodies brings).stands;
      };
    }

    run_again : MayRun app n s'
    run_again = record { evaluated = run.evaluated; dead = λ x. beyond app orderly reading bodies m s s' brings e.0 e.1 e.2 n (above x) ∙ run.dead x }
      where
        above : is_expression_at (reader app n) ≡ true → m < n
        above x = let below = waits.below in let own = own_bound app n x in let other = own_bound app m waits.expression in omega (below, own, other, arith)

    -- the same is answered
    answered : (r : Read) → IsLiveRead app s r → kept_answer app s r ≡ kept_answer app s' r
    answered (read.Expr j) h =
        ap (λ b. outcome_if_alive b (kept_reader s j).outcome) h ∙ ap Some (sym (still.outcomes j h tt)) ∙ ap (λ b. outcome_if_alive b (kept_reader s' j).outcome) (sym (gone.keeps j h))
    answered (read.Input k) h = ap (λ v. Some (told app v (read.Input k))) (sym still.values)
    answered (read.Value k) h = ap (λ v. Some (told app v (read.Value k))) (sym still.values)
    answered (read.Status k) h = ap (λ v. Some (told app v (read.Status k))) (sym still.values)
    answered (read.Result k) h = ap (λ v. Some (told app v (read.Result k))) (sym still.values)
    answered (read.Width k) h = ap (λ v. Some (told app v (read.Width k))) (sym still.values)
    answered (read.Height k) h = ap (λ v. Some (told app v (read.Height k))) (sym still.values)

    keeps : (key : Key) (noted : Notes) → IsCached (reader app n) → TriesKeys app s n (keys.Key key noted) → TriesKeys app s' n (keys.Key key noted)
    keeps key noted u t =
        let a : Answering = answering app s n in
        let b : Answering = answering app s' n in
        let ts : Trees = keys_at app n in
        let by_a : Evaluation = keys_trial app s n in
        let sites : a.site ≡ b.site = sym (cached_sites app s n u) ∙ cached_sites app s' n u in
        let same : EveryRead (λ r. a.read r ≡ b.read r) by_a.asked = reads_map (IsLiveRead app s) (λ r. a.read r ≡ b.read r) answered by_a.asked (live_all app s (open_site_of app s n) by_a.asked t.0) in
        let alike : Every (IsAnsweredAlike (completed a) (completed b)) by_a.asked =
        every_map (OfRead (λ r. a.read r ≡ b.read r)) (IsAnsweredAlike (completed a) (completed b)) (completed_alike a b sites) by_a.asked same in
        let again : keys_trial app s' n ≡ by_a = keys_agree (completed a) (completed b) ts alike in (
          ap (λ (x : Evaluation). first_wanted b x.asked) again ∙ sym (wanted_alike a b by_a.asked same) ∙ t.0,
          t.1,
          keys_same (completed a) (completed b) ts [] key.parts t.2 alike,
          record {
            counted = t.3.counted ∙ ap (λ (x : Evaluation). with_reads app [] x.outside) (sym again);
            sites = t.3.sites ∙ (λ j. recorded (sites j) (sym again j).asked);
          },
        )

  pub waited : (m : ℕ) (s' : KeptSession) (bodies : List ℕ) → Waits app n m s → Brings app reading bodies m s s' → Waited app n m s s'
  waited m s' bodies waits brings =
      let moves = gone m s' bodies waits brings in
      let below = waits.below in
      let own = own_bound app m waits.expression in
      record {
        ready = ready_again m s' bodies waits brings;
        run = run_again m s' bodies waits brings;
        fewer = dead_fewer s s' moves.keeps m (bound_at app n) waits.dead moves.here (omega (below, own, arith));
        keeps = keeps m s' bodies waits brings;
      }
