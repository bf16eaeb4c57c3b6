-- A block of statements, and the terms of an invocation: one after another, what is left belongs to the whole.
use Rattle.std.proofs.Common.{◌≡◌, ℕ, suc, ◌+◌, ◌-◌, Bool, true, false, List, [], ◌∷◌, ◌++◌, length, Ok, Err, refl, sym, ap, ◌∙◌, subst, arith}
use Rattle.std.specs.Prelude.{Result, IfOk}
use Rattle.std.proofs.lemmas.List.{length-append}
use Rattle.rx_value.specs.declared.memory.Memory.{Memory}
use Rattle.rx_value.specs.declared.value.Value.{Value}
use Rattle.rx_value.specs.declared.value.Value.TheVariants as v
use Rattle.rx_value.specs.declared.outcome.Outcome.{Outcome}
use Rattle.rx_value.specs.declared.outcome.Outcome.TheVariants.{Val}
use Rattle.rx_value.specs.declared.failure.Failure.TheVariants.{NotACondition}
use Rattle.rx_value.specs.Failure.{failure_outcome}
use Rattle.app_tree.specs.Held.{Held}
use Rattle.app_tree.specs.Tree.{Tree, Trees, no_trees, tree, perform, branch, branch_else, Act, Acts as Block, no_acts, act, Shape}
use Rattle.app_tree.specs.ObserverTerms.{term_count, terms_in_act, terms_in_acts}
use Rattle.app_tree.specs.View.{shape_of}
use Rattle.app_laws.specs.Statements.{IsTaskSource}
use Rattle.term_eval.specs.Lent.{Lent}
use Rattle.session_model.specs.State.{SessionState}
use Rattle.session_model.specs.Tasks.{first_task}
use Rattle.session_model.specs.Observing.{StatementsResult, bare_result, choose_block, read_by_observer, with_values, run_statement, run_block}
use Rattle.task_jobs.specs.FitsApp.{IsTaskOf}
use Rattle.flush_cycle.specs.inner.Statements.{IsTermOf, AreTermsOf, IsActOf, AreActsOf}
use Rattle.flush_cycle.specs.Working.{Working, IsReady}
use Rattle.flush_cycle.specs.inner.Parts.{HasArguments}
use Rattle.flush_cycle.specs.inner.Acting.{MayAsk, MayAct, Does, Acts}
use Rattle.flush_cycle.proofs.Composing.{IsFailure, value_joined, statements_joined, does_done, does_bare, does_lost, acts_doing, acts_alike, acts_joined, acts_failure, acts_lost, term_then_acts}
use Rattle.flush_cycle.proofs.StatementParts.{first_term, later_terms, first_act, later_acts}

-- ---- what is left of a block

pub record BlockLeft {S : Type 0} (follows : S → S → Type 0) (out : S → List Lent) (asked : S → Shape) (n : ℕ) (isolated : Bool)
    (block left : Block) (old now : Working) (a b : S) (before between : ℕ) : Type 0 where
  pub same : now.app ≡ old.app
  pub asks : MayAsk (shape_of now.app) (asked b) (out b)
  pub may : MayAct n now
  pub of_app : AreActsOf (shape_of now.app) left
  pub rest : (new : Working) (d : S) (after : ℕ) (result : Result Outcome Memory)
      → Acts follows out n (terms_in_acts left) (run_block (shape_of old.app) n isolated left) now new b d between after result
      → Acts follows out n (terms_in_acts block) (run_block (shape_of old.app) n isolated block) old new a d before after result

-- ---- what is left of the terms of an invocation

pub record TermsLeft {S : Type 0} (follows : S → S → Type 0) (out : S → List Lent) (asked : S → Shape) (n : ℕ) (isolated : Bool)
    (terms left : Trees) (done : List Value) (next : List Value → SessionState → StatementsResult) (old now : Working) (a b : S)
    (before between : ℕ) : Type 0 where
  pub same : now.app ≡ old.app
  pub asks : MayAsk (shape_of now.app) (asked b) (out b)
  pub may : MayAct n now
  pub of_app : AreTermsOf (shape_of now.app) left
  pub count : length done + term_count left ≡ term_count terms
  pub rest : (new : Working) (d : S) (after : ℕ) (result : Result Outcome Memory)
      → Acts follows out n (term_count left) (with_values (shape_of old.app) n isolated left done next) now new b d between after result
      → Acts follows out n (term_count terms) (with_values (shape_of old.app) n isolated terms [] next) old new a d before after result

module _ {S : Type 0} (follows : S → S → Type 0) (out : S → List Lent) (asked : S → Shape) (stays : (a : S) → follows a a)
    (chains : (a b c : S) → follows b a → follows c b → follows c a) (same_app : (a b : S) → follows b a → asked b ≡ asked a)
    (n : ℕ) (isolated : Bool) where
  -- whoever could ask can ask again
  asks_again : (app app' : Held) (b d : S) → app' ≡ app → follows d b → out d ≡ [] → MayAsk (shape_of app) (asked b) (out b)
      → MayAsk (shape_of app') (asked d) (out d)
  asks_again app app' b d same then none asks = record { of_app = same_app b d then ∙ asks.of_app ∙ ap shape_of (sym same); none_out = none }

  -- ---- blocks

  module _ (block : Block) (old : Working) (a : S) (before : ℕ) where
    pub block_whole : MayAsk (shape_of old.app) (asked a) (out a) → MayAct n old → AreActsOf (shape_of old.app) block
        → BlockLeft follows out asked n isolated block block old old a a before before
    block_whole asks may of_app = record { same = refl; asks = asks; may = may; of_app = of_app; rest = λ new d after result h. h }

    module _ (statement : Act) (more left : Block) (is : left ≡ act statement more) (now : Working) (b : S) (between : ℕ)
        (h : BlockLeft follows out asked n isolated block left old now a b before between) where
      abbrev at : BlockLeft follows out asked n isolated block (act statement more) old now a b before between
      at = subst (λ l. BlockLeft follows out asked n isolated block l old now a b before between) is h

      pub statement_left : IsActOf (shape_of now.app) statement
      statement_left = first_act (shape_of now.app) statement more at.of_app

      module _ (new : Working) (d : S) (after : ℕ) where
        abbrev Runs : Held → Result Outcome Memory → Type 0
        Runs held result = Acts follows out n (terms_in_act statement) (run_statement (shape_of held) n isolated statement) now new b d between after result

        abbrev Comes : Result Outcome Memory → Type 0
        Comes result = Acts follows out n (terms_in_acts block) (run_block (shape_of old.app) n isolated block) old new a d before after result

        pub block_later : (o : Outcome) (x : Value) → o ≡ Val x → Runs now.app (Ok o)
            → BlockLeft follows out asked n isolated block more old new a d before after
        block_later o x value ran =
            let k : BlockLeft follows out asked n isolated block (act statement more) old now a b before between = at in
            let f : Runs now.app (Ok (Val x)) = subst (λ p. Runs now.app (Ok p)) value ran in
            let first : Runs old.app (Ok (Val x)) = subst (λ held. Runs held (Ok (Val x))) k.same f in
            record {
              same = f.app ∙ k.same;
              asks = asks_again now.app new.app b d f.app f.succeeds f.leaves k.asks;
              may = f.goes_on;
              of_app = subst (λ held. AreActsOf (shape_of held) more) (sym f.app) (later_acts (shape_of now.app) statement more k.of_app);
              rest = λ last e end result then. k.rest last e end result
                  (acts_joined follows out stays chains n (run_statement (shape_of old.app) n isolated statement) (run_block (shape_of old.app) n isolated (act statement more))
                  (λ y. run_block (shape_of old.app) n isolated more)
                  (λ state. statements_joined (run_statement (shape_of old.app) n isolated statement state) (run_block (shape_of old.app) n isolated more))
                  (terms_in_act statement) (terms_in_acts more) now b between new last d e after end x result first then);
            }

        pub block_failure : (o : Outcome) → IsFailure o → Runs now.app (Ok o) → Comes (Ok o)
        block_failure o failed ran =
            let k : BlockLeft follows out asked n isolated block (act statement more) old now a b before between = at in
            k.rest new d after (Ok o)
            (acts_failure follows out stays chains n (run_statement (shape_of old.app) n isolated statement) (run_block (shape_of old.app) n isolated (act statement more))
            (λ y. run_block (shape_of old.app) n isolated more)
            (λ state. statements_joined (run_statement (shape_of old.app) n isolated statement state) (run_block (shape_of old.app) n isolated more))
            (terms_in_act statement) (terms_in_acts more) now b between new d after o failed (subst (λ held. Runs held (Ok o)) k.same ran))

        pub block_lost : (e e' : Memory) → Runs now.app (Err e) → Comes (Err e')
        block_lost e e' ran =
            let k : BlockLeft follows out asked n isolated block (act statement more) old now a b before between = at in
            k.rest new d after (Err e')
            (acts_lost follows out stays chains n (run_statement (shape_of old.app) n isolated statement) (run_block (shape_of old.app) n isolated (act statement more))
            (λ y. run_block (shape_of old.app) n isolated more)
            (λ state. statements_joined (run_statement (shape_of old.app) n isolated statement state) (run_block (shape_of old.app) n isolated more))
            (terms_in_act statement) (terms_in_acts more) now b between new d after e e' (subst (λ held. Runs held (Err e)) k.same ran))

    pub block_ended : (left : Block) → left ≡ no_acts → (now : Working) (b : S) (between : ℕ)
        → BlockLeft follows out asked n isolated block left old now a b before between
        → Acts follows out n (terms_in_acts block) (run_block (shape_of old.app) n isolated block) old now a b before between (Ok (Val v.Null))
    block_ended left none now b between h =
        let k : BlockLeft follows out asked n isolated block no_acts old now a b before between = subst (λ l. BlockLeft follows out asked n isolated block l old now a b before between) none h in
        k.rest now b between (Ok (Val v.Null))
        (acts_doing follows out stays chains n (run_block (shape_of old.app) n isolated no_acts) now now b between (Ok (Val v.Null)) 0 k.may k.asks.none_out (does_done now k.may.ready))

  -- ---- invocations

  module _ (terms : Trees) (next : List Value → SessionState → StatementsResult) (old : Working) (a : S) (before : ℕ) where
    pub terms_whole : MayAsk (shape_of old.app) (asked a) (out a) → MayAct n old → AreTermsOf (shape_of old.app) terms
        → TermsLeft follows out asked n isolated terms terms [] next old old a a before before
    terms_whole asks may of_app =
        record { same = refl; asks = asks; may = may; of_app = of_app; count = omega arith; rest = λ new d after result h. h }

    module _ (t : Tree) (more left : Trees) (is : left ≡ tree t more) (done : List Value) (now : Working) (b : S) (between : ℕ)
        (h : TermsLeft follows out asked n isolated terms left done next old now a b before between) where
      abbrev here : TermsLeft follows out asked n isolated terms (tree t more) done next old now a b before between
      here = subst (λ l. TermsLeft follows out asked n isolated terms l done next old now a b before between) is h

      pub term_left : IsTermOf (shape_of now.app) t
      term_left = first_term (shape_of now.app) t more here.of_app

      module _ (new : Working) (d : S) (after : ℕ) where
        abbrev Reads : Held → Result Outcome Memory → Type 0
        Reads held result = Acts follows out n 1 (run_statement (shape_of held) n isolated (perform t)) now new b d between after result

        abbrev Invokes : Result Outcome Memory → Type 0
        Invokes result = Acts follows out n (term_count terms) (with_values (shape_of old.app) n isolated terms [] next) old new a d before after result

        pub terms_later : (o : Outcome) (x : Value) → o ≡ Val x → Reads now.app (Ok o)
            → TermsLeft follows out asked n isolated terms more (done ++ x ∷ []) next old new a d before after
        terms_later o x value ran =
            let k : TermsLeft follows out asked n isolated terms (tree t more) done next old now a b before between = here in
            let f : Reads now.app (Ok (Val x)) = subst (λ p. Reads now.app (Ok p)) value ran in
            let first : Reads old.app (Ok (Val x)) = subst (λ held. Reads held (Ok (Val x))) k.same f in
            let so_far : length done + suc (term_count more) ≡ term_count terms = k.count in
            let longer : length (done ++ x ∷ []) ≡ length done + 1 = length-append done (x ∷ []) in
            record {
              same = f.app ∙ k.same;
              asks = asks_again now.app new.app b d f.app f.succeeds f.leaves k.asks;
              may = f.goes_on;
              of_app = subst (λ held. AreTermsOf (shape_of held) more) (sym f.app) (later_terms (shape_of now.app) t more k.of_app);
              count = omega (so_far, longer, arith);
              rest = λ last e end result then. k.rest last e end result
                  (subst (λ count. Acts follows out n count (with_values (shape_of old.app) n isolated (tree t more) done next) now last b e between end result) (one_more (term_count more))
                  (acts_joined follows out stays chains n (run_statement (shape_of old.app) n isolated (perform t)) (with_values (shape_of old.app) n isolated (tree t more) done next)
                  (λ y. with_values (shape_of old.app) n isolated more (done ++ y ∷ []) next)
                  (λ state. value_joined (read_by_observer (shape_of old.app) n isolated t state) (λ y. with_values (shape_of old.app) n isolated more (done ++ y ∷ []) next))
                  1 (term_count more) now b between new last d e after end x result first then));
            }
          where
            one_more : (count : ℕ) → 1 + count ≡ suc count
            one_more count = omega arith

        pub terms_failure : (o : Outcome) → IsFailure o → Reads now.app (Ok o) → Invokes (Ok o)
        terms_failure o failed ran =
            let k : TermsLeft follows out asked n isolated terms (tree t more) done next old now a b before between = here in
            k.rest new d after (Ok o)
            (subst (λ count. Acts follows out n count (with_values (shape_of old.app) n isolated (tree t more) done next) now new b d between after (Ok o)) (one_more (term_count more))
            (acts_failure follows out stays chains n (run_statement (shape_of old.app) n isolated (perform t)) (with_values (shape_of old.app) n isolated (tree t more) done next)
            (λ y. with_values (shape_of old.app) n isolated more (done ++ y ∷ []) next)
            (λ state. value_joined (read_by_observer (shape_of old.app) n isolated t state) (λ y. with_values (shape_of old.app) n isolated more (done ++ y ∷ []) next))
            1 (term_count more) now b between new d after o failed (subst (λ held. Reads held (Ok o)) k.same ran)))
          where
            one_more : (count : ℕ) → 1 + count ≡ suc count
            one_more count = omega arith

        pub terms_lost : (e e' : Memory) → Reads now.app (Err e) → Invokes (Err e')
        terms_lost e e' ran =
            let k : TermsLeft follows out asked n isolated terms (tree t more) done next old now a b before between = here in
            k.rest new d after (Err e')
            (subst (λ count. Acts follows out n count (with_values (shape_of old.app) n isolated (tree t more) done next) now new b d between after (Err e')) (one_more (term_count more))
            (acts_lost follows out stays chains n (run_statement (shape_of old.app) n isolated (perform t)) (with_values (shape_of old.app) n isolated (tree t more) done next)
            (λ y. with_values (shape_of old.app) n isolated more (done ++ y ∷ []) next)
            (λ state. value_joined (read_by_observer (shape_of old.app) n isolated t state) (λ y. with_values (shape_of old.app) n isolated more (done ++ y ∷ []) next))
            1 (term_count more) now b between new d after e e' (subst (λ held. Reads held (Err e)) k.same ran)))
          where
            one_more : (count : ℕ) → 1 + count ≡ suc count
            one_more count = omega arith

    -- where memory is wanting behind a term nothing more is run
    pub terms_dropped : (left : Trees) (done : List Value) (now : Working) (b : S) (between : ℕ) (e : Memory)
        → TermsLeft follows out asked n isolated terms left done next old now a b before between
        → Acts follows out n (term_count terms) (with_values (shape_of old.app) n isolated terms [] next) old now a b before between (Err e)
    terms_dropped left done now b between e k = k.rest now b between (Err e)
        (acts_doing follows out stays chains n (with_values (shape_of old.app) n isolated left done next) now now b between (Err e) (term_count left) k.may k.asks.none_out
        (does_lost (with_values (shape_of old.app) n isolated left done next) now now e refl refl))

    -- the invocation itself, behind its terms
    pub terms_ended : (left : Trees) → left ≡ no_trees → (done : List Value) (now new : Working) (b : S) (between : ℕ) (result : Result Outcome Memory)
        → TermsLeft follows out asked n isolated terms left done next old now a b before between → Does (next done) now new result
        → Acts follows out n (term_count terms) (with_values (shape_of old.app) n isolated terms [] next) old new a b before between result
    terms_ended left none done now new b between result h does =
        let k : TermsLeft follows out asked n isolated terms no_trees done next old now a b before between = subst (λ l. TermsLeft follows out asked n isolated terms l done next old now a b before between) none h in
        k.rest new b between result
        (acts_doing follows out stays chains n (with_values (shape_of old.app) n isolated no_trees done next) now new b between result 0 k.may k.asks.none_out does)

    pub all_counted : (left : Trees) → left ≡ no_trees → (done : List Value) (now : Working) (b : S) (between : ℕ)
        → TermsLeft follows out asked n isolated terms left done next old now a b before between → length done ≡ term_count terms
    all_counted left none done now b between k =
        let so_far : length done + term_count left ≡ term_count terms = k.count in
        let gone : term_count left ≡ 0 = ap term_count none in
        omega (so_far, gone, arith)

-- the arguments are as many as the task's parameters
pub has_arguments : (app : Shape) (s count first : ℕ) → IsTaskSource app s count → first ≡ first_task app → (args : List Value)
    → length args ≡ count → HasArguments app (s - first) args
has_arguments app s count first source is args counted =
    subst (λ f. HasArguments app (s - f) args) (sym is)
    (subst (IsTaskOf (length args)) (sym source.is) (counted ∙ source.takes))

-- ---- branches

abbrev pub IsNoCondition : Value → Type 0
IsNoCondition (v.Bool y) = ⊥
IsNoCondition _ = Unit {0}

refused : (x : Value) → IsNoCondition x → (block other : SessionState → StatementsResult) (w : Working) (result : Result Outcome Memory)
    → Does (bare_result (failure_outcome NotACondition)) w w result → Does (choose_block block other x) w w result
refused v.Null none block other w result d = d
refused (v.Bool y) none block other w result d = absurd none
refused (v.Int z) none block other w result d = d
refused (v.Text text) none block other w result d = d
refused (v.Ints numbers) none block other w result d = d

does_failing : (w : Working) (o : Outcome) (result : Result Outcome Memory) → IfOk result (λ p. p ≡ o) → IsReady w
    → Does (bare_result o) w w result
does_failing w o (Ok p) is ready = subst (λ q. Does (bare_result o) w w (Ok q)) (sym is) (does_bare w o ready)
does_failing w o (Err e) is ready = does_lost (bare_result o) w w e refl refl

module _ {S : Type 0} (follows : S → S → Type 0) (out : S → List Lent) (stays : (a : S) → follows a a)
    (chains : (a b c : S) → follows b a → follows c b → follows c a) (n : ℕ) (isolated : Bool) (t : Tree) (block other : Block)
    (old : Working) (a : S) (before : ℕ) where
  abbrev Branch : Working → S → ℕ → Result Outcome Memory → Type 0
  Branch new d after result =
      Acts follows out n (suc (terms_in_acts block + terms_in_acts other))
      (run_statement (shape_of old.app) n isolated (branch_else t block other)) old new a d before after result

  abbrev chosen_by : Value → SessionState → StatementsResult
  chosen_by = choose_block (run_block (shape_of old.app) n isolated block) (run_block (shape_of old.app) n isolated other)

  module _ (mid : Working) (b : S) (between : ℕ) (o : Outcome)
      (ran : Acts follows out n 1 (run_statement (shape_of old.app) n isolated (perform t)) old mid a b before between (Ok o)) where
    pub branch_first : o ≡ Val (v.Bool true) → (new : Working) (d : S) (after : ℕ) (result : Result Outcome Memory)
        → Acts follows out n (terms_in_acts block) (run_block (shape_of mid.app) n isolated block) mid new b d between after result
        → Branch new d after result
    branch_first is new d after result h =
        term_then_acts follows out stays chains n isolated t old a before
        (run_statement (shape_of old.app) n isolated (branch_else t block other)) chosen_by (λ state. refl)
        mid b between o ran (v.Bool true) is new d after result (terms_in_acts block) (terms_in_acts block + terms_in_acts other) (omega arith)
        (λ same. subst (λ held. Acts follows out n (terms_in_acts block) (run_block (shape_of held) n isolated block) mid new b d between after result) same h)

    pub branch_second : o ≡ Val (v.Bool false) → (new : Working) (d : S) (after : ℕ) (result : Result Outcome Memory)
        → Acts follows out n (terms_in_acts other) (run_block (shape_of mid.app) n isolated other) mid new b d between after result
        → Branch new d after result
    branch_second is new d after result h =
        term_then_acts follows out stays chains n isolated t old a before
        (run_statement (shape_of old.app) n isolated (branch_else t block other)) chosen_by (λ state. refl)
        mid b between o ran (v.Bool false) is new d after result (terms_in_acts other) (terms_in_acts block + terms_in_acts other) (omega arith)
        (λ same. subst (λ held. Acts follows out n (terms_in_acts other) (run_block (shape_of held) n isolated other) mid new b d between after result) same h)

    pub branch_refused : (x : Value) → o ≡ Val x → IsNoCondition x → (result : Result Outcome Memory)
        → IfOk result (λ p. p ≡ failure_outcome NotACondition) → Branch mid b between result
    branch_refused x is none result fails =
        term_then_acts follows out stays chains n isolated t old a before
        (run_statement (shape_of old.app) n isolated (branch_else t block other)) chosen_by (λ state. refl)
        mid b between o ran x is mid b between result 0 (terms_in_acts block + terms_in_acts other) (omega arith)
        (λ same. acts_doing follows out stays chains n (chosen_by x) mid mid b between result 0 ran.goes_on ran.leaves
        (refused x none (run_block (shape_of old.app) n isolated block) (run_block (shape_of old.app) n isolated other) mid result
        (does_failing mid (failure_outcome NotACondition) result fails ran.goes_on.ready)))

  -- a block alone
  pub branch_alone : (new : Working) (d : S) (after : ℕ) (result : Result Outcome Memory)
      → Acts follows out n (suc (terms_in_acts block + 0)) (run_statement (shape_of old.app) n isolated (branch_else t block no_acts)) old new a d before after result
      → Acts follows out n (suc (terms_in_acts block)) (run_statement (shape_of old.app) n isolated (branch t block)) old new a d before after result
  branch_alone new d after result h =
      acts_alike follows out stays chains n (run_statement (shape_of old.app) n isolated (branch_else t block no_acts))
      (run_statement (shape_of old.app) n isolated (branch t block)) (λ state. refl) (suc (terms_in_acts block + 0)) (suc (terms_in_acts block))
      (omega arith) old new a d before after result h

  -- a statement as the code has it
  pub act_alone : (statement : Act) (whole : Block) → statement ≡ branch t whole → block ≡ whole
      → (new : Working) (d : S) (after : ℕ) (result : Result Outcome Memory)
      → Acts follows out n (suc (terms_in_acts block + 0)) (run_statement (shape_of old.app) n isolated (branch_else t block no_acts)) old new a d before after result
      → Acts follows out n (terms_in_act statement) (run_statement (shape_of old.app) n isolated statement) old new a d before after result
  act_alone statement whole is same new d after result h =
      subst (λ s. Acts follows out n (terms_in_act s) (run_statement (shape_of old.app) n isolated s) old new a d before after result)
      (ap (branch t) same ∙ sym is)
      (branch_alone new d after result h)

-- after a term the block that is chosen can be run
pub block_may_run : {S : Type 0} → (follows : S → S → Type 0) (out : S → List Lent) (asked : S → Shape)
    → ((a b : S) → follows b a → asked b ≡ asked a) → (n count : ℕ) (step : SessionState → StatementsResult) (old mid : Working) (a b : S)
    (before between : ℕ) (o : Outcome) → Acts follows out n count step old mid a b before between (Ok o)
    → MayAsk (shape_of old.app) (asked a) (out a) → (block : Block) → AreActsOf (shape_of old.app) block
    → MayAsk (shape_of mid.app) (asked b) (out b) × (MayAct n mid × AreActsOf (shape_of mid.app) block)
block_may_run follows out asked same_app n count step old mid a b before between o ran asks block fits = (
  record { of_app = same_app a b ran.succeeds ∙ asks.of_app ∙ ap shape_of (sym ran.app); none_out = ran.leaves },
  (ran.goes_on, subst (λ held. AreActsOf (shape_of held) block) (sym ran.app) fits),
)
