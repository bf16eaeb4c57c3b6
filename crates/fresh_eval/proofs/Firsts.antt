-- The answers of a first run are those of the definition, and so are what readers come to.
use Rattle.std.proofs.Common.{◌≡◌, ℕ, zero, suc, ◌+◌, Bool, true, false, List, [], ◌∷◌, ◌++◌, length, drop, Option, Some, None, refl, sym, ap, ◌∙◌, arith, add-one, append_assoc, append-nil}
use Rattle.std.proofs.lemmas.List.{drop_all}
use Rattle.std.specs.Prelude.{slice_get, unwrap_or}
use Rattle.rx_value.specs.declared.outcome.Outcome.{Outcome}
use Rattle.rx_value.specs.declared.outcome.Outcome.TheVariants.{Stop}
use Rattle.app_tree.specs.declared.term.Read.{Read}
use Rattle.app_tree.specs.declared.term.Read.TheVariants as read
use Rattle.app_tree.specs.Tree.{Node, Shape}
use Rattle.app_tree.specs.Numbering.{reader, numbers_of, is_output, is_expression, SourceNumbers}
use Rattle.app_tree.specs.Current.{CurrentValues}
use Rattle.app_tree.specs.Evaluate.{Answers}
use Rattle.app_tree.specs.Fresh.{Known, Sites, known_at, answer_to, evaluate_node, evaluate_reader, is_expression_at, known_of, known_below, ignored_site, first_sites}
use Rattle.rx_source.specs.NumberedValues.{NumberedValues}
use Rattle.fresh_eval.specs.FirstOutcomes.{with_outcome, outcomes_from}
use Rattle.fresh_eval.specs.inner.Answering.{outcomes_of, answer_by, site_by, answers_by}

-- ---- answers

known_read : (known : List Known) (n : ℕ) → unwrap_or (slice_get (outcomes_of known) n) Stop ≡ (known_at known n).outcome
known_read [] n = refl
known_read (k ∷ known) zero = refl
known_read (k ∷ known) (suc n) = known_read known n

answer_is : (app : Shape) (values : CurrentValues) (known : List Known) (r : Read) → answer_by (record { numbers = numbers_of app; values = values }) (outcomes_of known) r ≡ answer_to app values known r
answer_is app values known (read.Input s) = refl
answer_is app values known (read.Value s) = refl
answer_is app values known (read.Expr n) = known_read known n
answer_is app values known (read.Status s) = refl
answer_is app values known (read.Result s) = refl
answer_is app values known (read.Width n) = refl
answer_is app values known (read.Height n) = refl

site_is : (app : Shape) (n : ℕ) (o : Option ℕ) → ignored_site (reader app n) ≡ o → (site : ℕ) → site_by o site ≡ first_sites app n site
site_is app n None is site = rw is
site_is app n (Some k) is site = rw is

pub answers_are : (app : Shape) (values : CurrentValues) (known : List Known) (n : ℕ)
    → answers_by (record { numbers = numbers_of app; values = values }) (outcomes_of known) (ignored_site (reader app n)) ≡ record { read = answer_to app values known; site = first_sites app n }
answers_are app values known n = λ i. record { read = λ r. answer_is app values known r i; site = λ site. site_is app n (ignored_site (reader app n)) refl site i }

-- what a reader comes to at its first run, where the expressions before it are known
pub reader_is : (app : Shape) (sources : NumberedValues) (outcomes : List Outcome) (known : List Known) (n : ℕ) → sources.numbers ≡ numbers_of app → outcomes ≡ outcomes_of known
    → (evaluate_node (reader app n) (answers_by sources outcomes (ignored_site (reader app n)))).outcome ≡ (evaluate_reader app sources.values (first_sites app) known n).outcome
reader_is app sources outcomes known n numbers is =
    ap (λ (z : SourceNumbers). (evaluate_node (reader app n) (answers_by (record { numbers = z; values = sources.values }) outcomes (ignored_site (reader app n)))).outcome) numbers
    ∙ ap (λ (z : List Outcome). (evaluate_node (reader app n) (answers_by (record { numbers = numbers_of app; values = sources.values }) z (ignored_site (reader app n)))).outcome) is
    ∙ ap (λ (z : Answers). (evaluate_node (reader app n) z).outcome) (answers_are app sources.values known n)

-- ---- expressions

module _ (app : Shape) (sources : NumberedValues) (outcomes : List Outcome) (n : ℕ) where
  abbrev before : List Known
  before = known_below app sources.values (first_sites app) n

  pub expression_known : (i : Node) → sources.numbers ≡ numbers_of app → outcomes ≡ outcomes_of before → reader app n ≡ Some i → is_expression i ≡ true
      → (evaluate_node (reader app n) (answers_by sources outcomes (ignored_site (reader app n)))).outcome ≡ (known_of app sources.values (first_sites app) before n (is_expression_at (reader app n))).outcome
  expression_known i numbers are is expression =
      let at : is_expression_at (reader app n) ≡ true = ap is_expression_at is ∙ expression in
      reader_is app sources outcomes before n numbers are
      ∙ sym (ap (λ (b : Bool). (known_of app sources.values (first_sites app) before n b).outcome) at)

pub other_known : (app : Shape) (values : CurrentValues) (n : ℕ) (i : Node) → reader app n ≡ Some i → is_expression i ≡ false
    → Stop ≡ (known_of app values (first_sites app) (known_below app values (first_sites app) n) n (is_expression_at (reader app n))).outcome
other_known app values n i is other =
    let at : is_expression_at (reader app n) ≡ false = ap is_expression_at is ∙ other in
    sym (ap (λ (b : Bool). (known_of app values (first_sites app) (known_below app values (first_sites app) n) n b).outcome) at)

outcomes_more : (known : List Known) (k : Known) → outcomes_of (known ++ k ∷ []) ≡ outcomes_of known ++ k.outcome ∷ []
outcomes_more [] k = refl
outcomes_more (h ∷ known) k = ap (λ l. h.outcome ∷ l) (outcomes_more known k)

pub known_grows : (app : Shape) (values : CurrentValues) (sites : Sites) (n : ℕ) (outcomes : List Outcome) (outcome : Outcome) → outcomes ≡ outcomes_of (known_below app values sites n)
    → outcome ≡ (known_of app values sites (known_below app values sites n) n (is_expression_at (reader app n))).outcome → outcomes ++ outcome ∷ [] ≡ outcomes_of (known_below app values sites (n + 1))
known_grows app values sites n outcomes outcome are is =
    ap (λ (l : List Outcome). l ++ outcome ∷ []) are
    ∙ ap (λ (o : Outcome). outcomes_of (known_below app values sites n) ++ o ∷ []) is
    ∙ sym (outcomes_more (known_below app values sites n) (known_of app values sites (known_below app values sites n) n (is_expression_at (reader app n))))
    ∙ ap (λ m. outcomes_of (known_below app values sites m)) (sym (add-one n))

-- ---- outputs

drop_at : (is : List Node) (n : ℕ) (i : Node) → slice_get is n ≡ Some i → drop n is ≡ i ∷ drop (suc n) is
drop_at [] n i h = cc
drop_at (j ∷ is) zero i h = let same : j ≡ i = cc in ap (λ k. k ∷ is) same
drop_at (j ∷ is) (suc n) i h = drop_at is n i h

one_passed : (come : ℕ → Outcome) (is : List Node) (n : ℕ) (i : Node) → slice_get is n ≡ Some i
    → outcomes_from come n (drop n is) ≡ with_outcome come n (is_output i) (outcomes_from come (n + 1) (drop (n + 1) is))
one_passed come is n i h =
    ap (outcomes_from come n) (drop_at is n i h)
    ∙ ap (λ m. with_outcome come n (is_output i) (outcomes_from come m (drop m is))) (sym (add-one n))

pub output_passed : (come : ℕ → Outcome) (is : List Node) (n : ℕ) (i : Node) (done : List Outcome) (outcome : Outcome) → slice_get is n ≡ Some i → is_output i ≡ true → outcome ≡ come n
    → (done ++ outcome ∷ []) ++ outcomes_from come (n + 1) (drop (n + 1) is) ≡ done ++ outcomes_from come n (drop n is)
output_passed come is n i done outcome at output same =
    append_assoc done (outcome ∷ []) (outcomes_from come (n + 1) (drop (n + 1) is))
    ∙ ap (λ (o : Outcome). done ++ o ∷ outcomes_from come (n + 1) (drop (n + 1) is)) same
    ∙ ap (λ (l : List Outcome). done ++ l) (sym (one_passed come is n i at ∙ ap (λ (b : Bool). with_outcome come n b (outcomes_from come (n + 1) (drop (n + 1) is))) output))

pub other_passed : (come : ℕ → Outcome) (is : List Node) (n : ℕ) (i : Node) (done : List Outcome) → slice_get is n ≡ Some i → is_output i ≡ false
    → done ++ outcomes_from come (n + 1) (drop (n + 1) is) ≡ done ++ outcomes_from come n (drop n is)
other_passed come is n i done at other =
    ap (λ (l : List Outcome). done ++ l) (sym (one_passed come is n i at ∙ ap (λ (b : Bool). with_outcome come n b (outcomes_from come (n + 1) (drop (n + 1) is))) other))

pub all_passed : (come : ℕ → Outcome) (is : List Node) (n : ℕ) (done : List Outcome) → n ≡ length is → done ++ outcomes_from come n (drop n is) ≡ done
all_passed come is n done h =
    ap (λ (l : List Node). done ++ outcomes_from come n l) (drop_all n is (omega (h, arith))) ∙ append-nil done
