-- A worked example of an output whose keys cover it: what its keys and its body come to on current values.
use Rattle.std.specs.Prelude.{◌≡◌, true, pos, [], ◌∷◌, None, Ok, Err}
use Rattle.rx_value.specs.declared.value.Value.TheVariants.{Bool as Truth, Int}
use Rattle.rx_value.specs.declared.outcome.Outcome.TheVariants.{Val, Stop}
use Rattle.rx_value.specs.declared.source.SourceValue.TheVariants.{Plain}
use Rattle.app_tree.specs.Tree.{Trees, no_trees, tree, isolate, Shape}
use Rattle.app_tree.specs.Current.{CurrentValues}
use Rattle.app_tree.specs.Evaluate.{outcome_of}
use Rattle.app_tree.specs.Fresh.{Sites, kept_sites}
use Rattle.app_tree.specs.Keys.{keys_result}
use Rattle.app_tree.specs.Cover.{is_covered, keyed_outcome}
use Rattle.app_tree.specs.CoverExamples.{a, b, d, e, with_output}
use Rattle.app_laws.specs.KeyedLaws.{answers_at}

-- the three inputs
abbrev pub now : CurrentValues
now = Plain (Truth true) ∷ Plain (Int (pos 3)) ∷ Plain (Int (pos 4)) ∷ []

-- each isolated site is evaluated
abbrev pub evaluated : Sites
evaluated n site = None

-- each is as an earlier run left it, and none is left
abbrev pub nothing_kept : Sites
nothing_kept = kept_sites []

-- `text o cache (input$b, input$d, isolate(input$a)) { e() }`, where `e` is the sum of the inputs `b` and `d`
abbrev pub keys : Trees
keys = tree b (tree d (tree (isolate 0 a) no_trees))

abbrev pub app : Shape
app = with_output keys e

abbrev pub KeysCover : Type 0
KeysCover = is_covered app 1 ≡ true

abbrev pub KeysHaveValues : Type 0
KeysHaveValues = keys_result keys (answers_at app now evaluated 1) ≡ Ok (Int (pos 3) ∷ Int (pos 4) ∷ Truth true ∷ [])

abbrev pub BodyComesToSum : Type 0
BodyComesToSum = outcome_of e (answers_at app now evaluated 1) [] ≡ Val (Int (pos 7))

-- and these values alone say so
abbrev pub ValuesSaySum : Type 0
ValuesSaySum = keyed_outcome app 1 (Int (pos 3) ∷ Int (pos 4) ∷ Truth true ∷ []) ≡ Val (Int (pos 7))

-- what a key comes to depends on what answers its sites, as with any term
abbrev pub KeyStops : Type 0
KeyStops = keys_result keys (answers_at app now nothing_kept 1) ≡ Err Stop
